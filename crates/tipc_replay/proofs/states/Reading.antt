-- How a link packet is read, whatever its fields are: a STATE tells of broadcast what it was spelled with, and no packet of another user is read as
-- one.
use Rattle.std.specs.Prelude.{get_or, nat_le}
use Rattle.std.specs.Int.{from_be_bytes, to_be_bytes, w32}
use Rattle.std.proofs.Common.{◌≡◌, ◌≤◌, ◌<◌, ◌+◌, ◌*◌, ◌/◌, ◌%◌, ◌^◌, ◌==◌, ℕ, zero, suc, Bool, true, false, if◌then◌else◌, List, [], ◌∷◌, ◌++◌, Some, None, length, take, drop, refl, sym, ap, ◌∙◌, append_assoc, eqb-true, arith}
use Rattle.std.proofs.lemmas.Bool.Decides.{nat_tests}
use Rattle.std.proofs.lemmas.List.{drop-drop, drop_at, take_at}
use Rattle.std.proofs.lemmas.List.Concat.{flat_map-cons}
use Rattle.std.proofs.lemmas.Nat.{from_be_bytes-to_be_bytes_4}
use Rattle.tipc_types.specs.Position.{number_of}
use Rattle.tipc_types.specs.declared.link_words.BroadcastState.{BroadcastState}
use Rattle.tipc_header.specs.declared.packet.Addressing.{Addressing}
use Rattle.tipc_header.specs.declared.packet.Addressing.TheVariants.{Connected, Direct, Multicast, Named}
use Rattle.tipc_header.specs.declared.packet.Header.{Header}
use Rattle.tipc_header.specs.declared.packet.Header.TheVariants as header
use Rattle.tipc_header.specs.declared.packet.Reset.{Reset}
use Rattle.tipc_header.specs.Reading.{bits, changeover_at, discovery_at, distribution_at, field, fields_at, flag, fragment_at, bundle_at, header_at, payload_at, reset_at, state_at, type_at, user_at, word_at}
use Rattle.tipc_header.specs.Spelling.{Fields, all_words, below_type, bit, from_bit, size_of, spelling, word, word_0, word_1, words}
use Rattle.tipc_header.specs.Users.{header_size, is_destination_droppable, is_non_sequenced, is_source_droppable, type_of, user_of}
use Rattle.tipc_link.specs.Links.{LinkEnd, notice_fields}
use Rattle.tipc_link.specs.Parts.{IsShowable}
use Rattle.tipc_link.specs.Sessions.{SessionEnd, gap, priority_of, state_fields}
use Rattle.tipc_replay.specs.Heard.{broadcast_of}

-- ---- words, of which the low 32 bits are written

four_bytes : (n : ℕ) → to_be_bytes w32 n ≡ to_be_bytes w32 (n % 2 ^ 32)
four_bytes n =
    let a : n / 16777216 % 256 ≡ n % 4294967296 / 16777216 % 256 = omega arith in
    let b : n / 65536 % 256 ≡ n % 4294967296 / 65536 % 256 = omega arith in
    let c : n / 256 % 256 ≡ n % 4294967296 / 256 % 256 = omega arith in
    let d : n % 256 ≡ n % 4294967296 % 256 = omega arith in
    λ i. a i ∷ b i ∷ c i ∷ d i ∷ []

word_first : (n : ℕ) (b : List ℕ) → word_at 0 (word n ++ b) ≡ n % 2 ^ 32
unfolding word word_at
word_first n b =
    let fits : n % 2 ^ 32 < 2 ^ 32 = omega arith in
    ap (from_be_bytes w32) (take_at (to_be_bytes w32 n) b 4 refl) ∙ ap (from_be_bytes w32) (four_bytes n) ∙ from_be_bytes-to_be_bytes_4 (n % 2 ^ 32) fits

word_later : (i n : ℕ) (b : List ℕ) → word_at (suc i) (word n ++ b) ≡ word_at i b
unfolding word word_at
word_later i n b =
    let past : drop (4 * suc i) (to_be_bytes w32 n ++ b) ≡ drop (4 * i) b =
    ap (λ (k : ℕ). drop k (to_be_bytes w32 n ++ b)) (omega arith)
    ∙ sym (drop-drop (4 * i) 4 (to_be_bytes w32 n ++ b))
    ∙ ap (drop (4 * i)) (drop_at (to_be_bytes w32 n) b 4 refl) in
    ap (λ (x : List ℕ). from_be_bytes w32 (take 4 x)) past

word_in : (i : ℕ) (ns b : List ℕ) → i < length ns → word_at i (words ns ++ b) ≡ get_or ns i 0 % 2 ^ 32
word_in i [] b within = absurd (omega (arith, within))
word_in zero (n ∷ ns) b within = ap (word_at 0) (ap (λ (x : List ℕ). x ++ b) (flat_map-cons word n ns) ∙ append_assoc (word n) (words ns) b) ∙ word_first n (words ns ++ b)
word_in (suc i) (n ∷ ns) b within =
    ap (word_at (suc i)) (ap (λ (x : List ℕ). x ++ b) (flat_map-cons word n ns) ∙ append_assoc (word n) (words ns) b)
    ∙ word_later i n (words ns ++ b) ∙ word_in i ns b (omega (arith, within))

word_of : (i : ℕ) (p : Fields) → i < length (all_words p) → word_at i (spelling p) ≡ get_or (all_words p) i 0 % 2 ^ 32
unfolding spelling
word_of i p within = word_in i (all_words p) p.rest within

-- ---- the user, which stands in word 0

header_small : (h : Header) → header_size h ≤ 15
header_small (header.Payload m) = by m.addressing
  where
    by : (a : Addressing) → header_size (header.Payload (record m { addressing = a })) ≤ 15
    by Connected = omega arith
    by (Multicast o d k l u) = omega arith
    by (Named o d k i) = omega arith
    by (Direct o d) = omega arith
header_small (header.Bundler b) = omega arith
header_small (header.State s) = omega arith
header_small (header.Reset r) = omega arith
header_small (header.Activate a) = omega arith
header_small (header.Changeover c) = omega arith
header_small (header.NameDistributor n) = omega arith
header_small (header.Fragmenter f) = omega arith
header_small (header.Discovery d) = omega arith

bit_small : (b : Bool) → bit b ≤ 1
bit_small true = omega arith
bit_small false = omega arith

user_bits : (user head a b c size : ℕ) → user ≤ 15 → head ≤ 15 → a ≤ 1 → b ≤ 1 → c ≤ 1 → size < 131072
    → (2 * 2 ^ 29 + user * 2 ^ 25 + head * 2 ^ 21 + a * 2 ^ 20 + b * 2 ^ 19 + c * 2 ^ 18 + size) % 2 ^ 32 / 2 ^ 25 % 2 ^ 4 ≡ user
user_bits user head a b c size one two three four five six = omega (arith, one, two, three, four, five, six)

-- a packet that isn't too long shows its user
pub user_spelled : (p : Fields) → user_of p.header ≤ 15 → size_of p < 131072 → user_at (spelling p) ≡ user_of p.header
unfolding word_0
user_spelled p user size =
    ap (bits 28 25) (word_of 0 p (omega arith))
    ∙ user_bits (user_of p.header) (header_size p.header) (bit (is_non_sequenced p.header)) (bit (is_destination_droppable p.header)) (bit (is_source_droppable p.header)) (size_of p)
    user (header_small p.header) (bit_small (is_non_sequenced p.header)) (bit_small (is_destination_droppable p.header)) (bit_small (is_source_droppable p.header)) size

-- ---- what isn't read as a STATE

apart_user : (u t : ℕ) (b : List ℕ) → (u ≡ 7 → ⊥) → broadcast_of (header_at u t b) ≡ None
unfolding header_at payload_at bundle_at changeover_at distribution_at fragment_at discovery_at
apart_user u t b never = first (nat_le u 3)
  where
    Is : Header → Type 0
    Is h = broadcast_of h ≡ None

    last : (c : Bool) → Is (if c then fragment_at t b else discovery_at t b)
    last true = refl
    last false = refl

    fifth : (c : Bool) → Is (if c then distribution_at t b else (if u == 12 then fragment_at t b else discovery_at t b))
    fifth true = refl
    fifth false = last (u == 12)

    fourth : (c : Bool) → Is (if c then changeover_at t b else (if u == 11 then distribution_at t b else (if u == 12 then fragment_at t b else discovery_at t b)))
    fourth true = refl
    fourth false = fifth (u == 11)

    third : (c : Bool) → (u == 7) ≡ c → Is (if c then (if t == 0 then state_at b else (if t == 1 then header.Reset (reset_at b) else header.Activate (reset_at b)))
        else (if u == 10 then changeover_at t b else (if u == 11 then distribution_at t b else (if u == 12 then fragment_at t b else discovery_at t b))))
    third true is = absurd (never (eqb-true u 7 is))
    third false is = fourth (u == 10)

    second : (c : Bool) → Is (if c then bundle_at b
        else (if u == 7 then (if t == 0 then state_at b else (if t == 1 then header.Reset (reset_at b) else header.Activate (reset_at b)))
        else (if u == 10 then changeover_at t b else (if u == 11 then distribution_at t b else (if u == 12 then fragment_at t b else discovery_at t b)))))
    second true = refl
    second false = third (u == 7) refl

    first : (c : Bool) → Is (if c then payload_at u t b
        else (if u == 6 then bundle_at b
        else (if u == 7 then (if t == 0 then state_at b else (if t == 1 then header.Reset (reset_at b) else header.Activate (reset_at b)))
        else (if u == 10 then changeover_at t b else (if u == 11 then distribution_at t b else (if u == 12 then fragment_at t b else discovery_at t b))))))
    first true = refl
    first false = second (u == 6)

-- a packet of another user than link protocol
pub no_state : (b : List ℕ) → (user_at b ≡ 7 → ⊥) → broadcast_of (fields_at b).header ≡ None
unfolding fields_at
no_state b never = apart_user (user_at b) (type_at b) b never

-- what is read of a packet of link protocol
protocol_at : (t : ℕ) (b : List ℕ) → Header
protocol_at t b = if t == 0 then state_at b else (if t == 1 then header.Reset (reset_at b) else header.Activate (reset_at b))

by_protocol : (u t : ℕ) (b : List ℕ) → u ≡ 7 → header_at u t b ≡ protocol_at t b
unfolding header_at protocol_at
by_protocol u t b is = ap (λ n. header_at n t b) is

protocol : (b : List ℕ) → user_at b ≡ 7 → (fields_at b).header ≡ protocol_at (type_at b) b
unfolding fields_at
protocol b is = by_protocol (user_at b) (type_at b) b is

not_first : (t : ℕ) (b : List ℕ) → (t == 0) ≡ false → broadcast_of (protocol_at t b) ≡ None
unfolding protocol_at
not_first t b is = ap (λ c. broadcast_of (if c then state_at b else (if t == 1 then header.Reset (reset_at b) else header.Activate (reset_at b)))) is ∙ by (t == 1)
  where
    by : (c : Bool) → broadcast_of (if c then header.Reset (reset_at b) else header.Activate (reset_at b)) ≡ None
    by true = refl
    by false = refl

-- a RESET or an ACTIVATE
notice_type : (e : LinkEnd) (h : Header) (t : ℕ) → type_of h ≡ t → below_type h ≡ 0 → t ≤ 7 → type_at (spelling (notice_fields e h)) ≡ t
unfolding word_1
notice_type e h t is low few =
    ap (bits 31 29) (word_of 1 (notice_fields e h) (omega arith)) ∙ (let word_is : from_bit 29 (type_of h) + below_type h ≡ t * 2 ^ 29 = omega (arith, is, low) in
    ap (λ n. bits 31 29 (n % 2 ^ 32)) word_is ∙ omega (arith, few))

pub reset_silent : (e : LinkEnd) (r : Reset) → broadcast_of (fields_at (spelling (notice_fields e (header.Reset r)))).header ≡ None
reset_silent e r =
    let b = spelling (notice_fields e (header.Reset r)) in
    let type_is : type_at b ≡ 1 = notice_type e (header.Reset r) 1 refl refl (omega arith) in
    ap broadcast_of (protocol b (user_spelled (notice_fields e (header.Reset r)) (omega arith) (omega arith))) ∙ not_first (type_at b) b (ap (λ n. n == 0) type_is)

pub activate_silent : (e : LinkEnd) (r : Reset) → broadcast_of (fields_at (spelling (notice_fields e (header.Activate r)))).header ≡ None
activate_silent e r =
    let b = spelling (notice_fields e (header.Activate r)) in
    let type_is : type_at b ≡ 2 = notice_type e (header.Activate r) 2 refl refl (omega arith) in
    ap broadcast_of (protocol b (user_spelled (notice_fields e (header.Activate r)) (omega arith) (omega arith))) ∙ not_first (type_at b) b (ap (λ n. n == 0) type_is)

-- ---- a STATE

-- what is read of it, where it is read as one
read_state : (t : ℕ) (b : List ℕ) (seen : BroadcastState) → broadcast_of (protocol_at t b) ≡ Some seen → broadcast_of (state_at b) ≡ Some seen
unfolding protocol_at
read_state t b seen is = by (t == 0) (t == 1) is
  where
    by : (c d : Bool) → broadcast_of (if c then state_at b else (if d then header.Reset (reset_at b) else header.Activate (reset_at b))) ≡ Some seen → broadcast_of (state_at b) ≡ Some seen
    by true d is = is
    by false true is = absurd (let wrong : None ≡ Some seen = is in cc)
    by false false is = absurd (let wrong : None ≡ Some seen = is in cc)

-- the five fields, by the words
read_fields : List ℕ → BroadcastState
read_fields b = record { acknowledged = field 1 15 0 b; next = field 4 15 0 b; start = field 5 31 16 b; gap = field 5 15 0 b; in_step = flag 8 1 b }

read_is : (b : List ℕ) → broadcast_of (state_at b) ≡ Some (read_fields b)
unfolding state_at read_fields
read_is b = refl

low_half : (word high low : ℕ) → low < 2 ^ 16 → word ≡ (high * 2 ^ 16 + low) % 2 ^ 32 → word / 2 ^ 0 % 2 ^ 16 ≡ low
low_half word high low few is = omega (arith, few, is)

first_half : (word high low : ℕ) → low < 2 ^ 16 → word ≡ (0 + (high * 2 ^ 16 + low)) % 2 ^ 32 → word / 2 ^ 0 % 2 ^ 16 ≡ low
first_half word high low few is = omega (arith, few, is)

high_half : (word high low : ℕ) → high < 2 ^ 16 → low < 2 ^ 16 → word ≡ (high * 2 ^ 16 + low) % 2 ^ 32 → word / 2 ^ 16 % 2 ^ 16 ≡ high
high_half word high low many few is = omega (arith, many, few, is)

second_bit : (word priority : ℕ) (step probe : Bool) → word ≡ (priority * 2 ^ 2 + bit step * 2 ^ 1 + bit probe) % 2 ^ 32 → (word / 2 ^ 1 % 2 ^ 1 == 1) ≡ step
second_bit word priority true true is = (let one : word / 2 ^ 1 % 2 ^ 1 ≡ 1 = omega (arith, is) in grind (arith, nat_tests, one))
second_bit word priority true false is = (let one : word / 2 ^ 1 % 2 ^ 1 ≡ 1 = omega (arith, is) in grind (arith, nat_tests, one))
second_bit word priority false true is = (let none : word / 2 ^ 1 % 2 ^ 1 ≡ 0 = omega (arith, is) in grind (arith, nat_tests, none))
second_bit word priority false false is = (let none : word / 2 ^ 1 % 2 ^ 1 ≡ 0 = omega (arith, is) in grind (arith, nat_tests, none))

fields_are : (s : SessionEnd) (shown : BroadcastState) (probe : Bool) → IsShowable shown → read_fields (spelling (state_fields s shown probe)) ≡ shown
unfolding state_fields word_1 read_fields
fields_are s shown probe may =
    let p = state_fields s shown probe in
    let b = spelling p in
    let acknowledged : field 1 15 0 b ≡ shown.acknowledged = first_half (word_at 1 b) (gap s) shown.acknowledged may.acknowledged (word_of 1 p (omega arith)) in
    let next : field 4 15 0 b ≡ shown.next = low_half (word_at 4 b) (number_of (s.sending.numbered + 1)) shown.next may.next (word_of 4 p (omega arith)) in
    let start : field 5 31 16 b ≡ shown.start = high_half (word_at 5 b) shown.start shown.gap may.start may.gap (word_of 5 p (omega arith)) in
    let behind : field 5 15 0 b ≡ shown.gap = low_half (word_at 5 b) shown.start shown.gap may.gap (word_of 5 p (omega arith)) in
    let in_step : flag 8 1 b ≡ shown.in_step = second_bit (word_at 8 b) (priority_of s.bearer) shown.in_step probe (word_of 8 p (omega arith)) in
    λ i. record { acknowledged = acknowledged i; next = next i; start = start i; gap = behind i; in_step = in_step i }

state_user : (s : SessionEnd) (shown : BroadcastState) (probe : Bool) → user_at (spelling (state_fields s shown probe)) ≡ 7
unfolding state_fields
state_user s shown probe = user_spelled (state_fields s shown probe) (omega arith) (omega arith)

pub state_told : (s : SessionEnd) (shown seen : BroadcastState) (probe : Bool) → IsShowable shown → broadcast_of (fields_at (spelling (state_fields s shown probe))).header ≡ Some seen → seen ≡ shown
state_told s shown seen probe may is =
    let b = spelling (state_fields s shown probe) in
    let read : Some (read_fields b) ≡ Some seen = sym (read_is b) ∙ read_state (type_at b) b seen (sym (ap broadcast_of (protocol b (state_user s shown probe))) ∙ is) in
    let same : read_fields b ≡ seen = cc in
    sym same ∙ fields_are s shown probe may
