-- The frame that arrives among those that its sender sent, and its age.
use Rattle.std.proofs.Common.{◌≡◌, ◌≤◌, ◌<◌, ◌+◌, ◌-◌, ◌^◌, ◌==◌, ◌&&◌, ℕ, zero, suc, Bool, true, false, List, [], Option, Some, None, length, max, if◌then◌else◌, refl, sym, ap, ◌∙◌, subst, eqb-true, arith}
use Rattle.std.specs.Prelude.{drop, nat_lt, slice_get}
use Rattle.std.specs.List.{filter}
use Rattle.std.proofs.lemmas.Bool.Decides.{nat_tests}
use Rattle.tipc_types.specs.Address.{node_word}
use Rattle.tipc_types.specs.declared.identity.Addr.{Addr}
use Rattle.tipc_types.specs.declared.identity.To.{To}
use Rattle.tipc_types.specs.declared.identity.To.TheVariants as to
use Rattle.tipc_types.specs.declared.node_calls.Answer.TheVariants as answer
use Rattle.tipc_header.specs.declared.frames.FrameKind.TheVariants.{Links}
use Rattle.tipc_header.specs.declared.packet.Header.{Header}
use Rattle.tipc_header.specs.Faults.{fault_of}
use Rattle.tipc_header.specs.Frames.{frame_of, is_of_link, kind_in}
use Rattle.tipc_header.specs.Reading.{fields_at}
use Rattle.tipc_header.specs.Spelling.{Fields}
use Rattle.tipc_link.specs.Links.{is_traffic}
use Rattle.tipc_paired.proofs.wires.Frames.{er_of-frame, es_of-frame}
use Rattle.tipc_paired.specs.Views.{er_of, es_of}
use Rattle.tipc_node.specs.Nodes.{is_frame_size}
use Rattle.tipc_replay.specs.declared.air.Sent.{Sent}
use Rattle.tipc_node.specs.Turns.{is_to}
use Rattle.tipc_replay.specs.Air.{as_frame, goes, sent_between, sent_on}
use Rattle.tipc_replay.specs.Skies.{AirState, air_on}
use Rattle.tipc_replay.specs.declared.flying.Aging.TheVariants as aging
use Rattle.tipc_replay.specs.Due.{age_by, age_of, aging_by_fault, aging_by_header, aging_by_kind, aging_of, frame_for, is_for, is_state, kept_for, session_age, stopped_by_age, unarrived}
use Rattle.tipc_replay.specs.States.{MemberState, count_at}
use Rattle.tipc_replay.proofs.InLists.{Stands, stands_left, stands_map, stands_passing, stands_right}
-- ---- the frame among those that its sender sent
use Rattle.tipc_replay.proofs.frames.Ages.{number_is}

-- a frame in the air of a bearer, as the pair of its nodes has it
pub sent_at : (air : AirState) (a b bearer place : ℕ) (f : Sent) → slice_get (air_on bearer air) place ≡ Some f → goes a b f ≡ true → (bearer ≤ 1) × Stands (sent_between air a b) (as_frame bearer f)
unfolding sent_between
sent_at air a b zero place f there is =
    (omega arith, stands_left (sent_on 0 air.first a b) (sent_on 1 air.second a b) (as_frame 0 f) (stands_map (as_frame 0) (filter (goes a b) air.first) f (stands_passing (goes a b) air.first f (place, there) is)))
sent_at air a b (suc zero) place f there is =
    (omega arith, stands_right (sent_on 0 air.first a b) (sent_on 1 air.second a b) (as_frame 1 f) (stands_map (as_frame 1) (filter (goes a b) air.second) f (stands_passing (goes a b) air.second f (place, there) is)))
sent_at air a b (suc (suc bearer)) place f there is = absurd (
    let low : (suc (suc bearer) == 0) ≡ false = grind (arith, nat_tests) in
    let high : (suc (suc bearer) == 1) ≡ false = grind (arith, nat_tests) in
    let none : air_on (suc (suc bearer)) air ≡ [] =
    ap (λ t. if t then air.first else (if suc (suc bearer) == 1 then air.second else [])) low ∙ ap (λ t. if t then air.second else []) high in
    let gone : slice_get [] place ≡ Some f = subst (λ xs. slice_get xs place ≡ Some f) none there in
    let wrong : ⊥ = cc in wrong)

-- ---- the frame that arrives

kept_is : (o : Option Sent) (n : ℕ) (f : Sent) → kept_for o n ≡ Some f → (o ≡ Some f) × (is_for f.from f.to n ≡ true)
kept_is None n f e = absurd cc
kept_is (Some g) n f e = case (is_for g.from g.to n) refl e
  where
    case : (b : Bool) → is_for g.from g.to n ≡ b → (if b then Some g else None) ≡ Some f → (Some g ≡ Some f) × (is_for f.from f.to n ≡ true)
    case true is e = (e, (let same : g ≡ f = cc in ap (λ (h : Sent). is_for h.from h.to n) (sym same) ∙ is))
    case false is e = absurd cc

pub placed : (air : AirState) (n bearer k : ℕ) (f : Sent) → frame_for air n bearer k ≡ Some f → (slice_get (air_on bearer air) k ≡ Some f) × (is_for f.from f.to n ≡ true)
unfolding frame_for
placed air n bearer k f e = kept_is (slice_get (air_on bearer air) k) n f e

-- a frame for node n alone, and for b, is for the same node
pub same_receiver : (n b : ℕ) (from : Addr) (t : To) → is_for from t n ≡ true → is_to b t ≡ true → n ≡ b
same_receiver n b from (to.Node address) is_n is_b = let one : address.word ≡ node_word n = eqb-true _ _ is_n in let two : address.word ≡ node_word b = eqb-true _ _ is_b in omega arith
same_receiver n b from to.All is_n is_b = absurd cc

pub goes_there : (from receiver : ℕ) (f : Sent) → f.from.word ≡ node_word from → is_to receiver f.to ≡ true → is_of_link f.frame ≡ true → goes from receiver f ≡ true
goes_there from receiver f from_is to_is link =
    let same : (f.from.word == node_word from) ≡ true = ap (λ w. w == node_word from) from_is ∙ grind (arith, nat_tests) in
    ap (λ t. t && (is_to receiver f.to && is_of_link f.frame)) same ∙ ap (λ t. t && is_of_link f.frame) to_is ∙ link

-- ---- its age

young_at : (members : List (Option MemberState)) (n bearer : ℕ) (o : Option Sent) (f : Sent) → o ≡ Some f → stopped_by_age members n bearer o ≡ None → age_of members f n bearer ≤ 30000
young_at members n bearer None f is free = absurd cc
young_at members n bearer (Some g) f is free = let same : g ≡ f = cc in subst (λ h. age_of members h n bearer ≤ 30000) same (case (nat_lt 30000 (age_of members g n bearer)) refl free)
  where
    case : (b : Bool) → nat_lt 30000 (age_of members g n bearer) ≡ b → (if b then Some (answer.TooOld (age_of members g n bearer)) else None) ≡ None → age_of members g n bearer ≤ 30000
    case true is free = absurd cc
    case false is free = grind (arith, nat_tests, is)

pub young : (members : List (Option MemberState)) (air : AirState) (n bearer k : ℕ) (f : Sent) → frame_for air n bearer k ≡ Some f → unarrived members air n bearer k ≡ None → age_of members f n bearer ≤ 30000
unfolding unarrived
young members air n bearer k f there free = young_at members n bearer (frame_for air n bearer k) f there free

-- the age of a STATE or a numbered packet is at least that of its session
traffic_age : (members : List (Option MemberState)) (f : Sent) (n bearer : ℕ) (h : Header) → is_traffic h ≡ true → session_age members f n bearer (es_of f.frame) (er_of f.frame) ≤ age_by members f n bearer (aging_by_header (es_of f.frame) (er_of f.frame) h)
traffic_age members f n bearer h traffic = by (is_traffic h) traffic (is_state h)
  where
    by : (b : Bool) → b ≡ true → (c : Bool) → session_age members f n bearer (es_of f.frame) (er_of f.frame)
        ≤ age_by members f n bearer (if b then (if c then aging.State (es_of f.frame) (er_of f.frame) else aging.Numbered (es_of f.frame) (er_of f.frame)) else aging.Never)
    by true is true = grind arith
    by true is false = grind arith
    by false is c = absurd (let wrong : false ≡ true = is in cc)

-- what the age of a sound link packet is counted by
pub link_aging : (f : Sent) (p : Fields) → is_frame_size (length f.frame) ≡ true → fault_of (drop 16 f.frame) ≡ None → fields_at (drop 16 f.frame) ≡ p → kind_in f.frame ≡ Links → aging_of f.frame ≡ aging_by_header (es_of f.frame) (er_of f.frame) p.header
unfolding aging_of
link_aging f p size clear is kind =
    ap (λ b. if b then aging_by_fault f.frame (fault_of (drop 16 f.frame)) else aging.Never) size
    ∙ (ap (aging_by_fault f.frame) clear ∙ (ap (λ k. aging_by_kind f.frame k (fields_at (drop 16 f.frame)).header) kind ∙ ap (λ (q : Fields). aging_by_header (es_of f.frame) (er_of f.frame) q.header) is))

pub age_is : (members : List (Option MemberState)) (f : Sent) (n bearer : ℕ) (p : Fields) → is_frame_size (length f.frame) ≡ true → fault_of (drop 16 f.frame) ≡ None → fields_at (drop 16 f.frame) ≡ p → kind_in f.frame ≡ Links → is_traffic p.header ≡ true
    → session_age members f n bearer (es_of f.frame) (er_of f.frame) ≤ age_of members f n bearer
unfolding age_of
age_is members f n bearer p size clear is kind traffic =
    subst (λ c. session_age members f n bearer (es_of f.frame) (er_of f.frame) ≤ age_by members f n bearer c) (sym (link_aging f p size clear is kind)) (traffic_age members f n bearer p.header traffic)

-- how many packets were numbered since, in each direction
pub record IsYoung (members : List (Option MemberState)) (f : Sent) (a peer bearer es er : ℕ) : Type 0 where
  pub sender : count_at members peer a bearer es ≤ f.numbered + 30000
  pub receiver : count_at members a peer bearer er ≤ f.peer_numbered + 30000

pub young_session : (members : List (Option MemberState)) (f : Sent) (a peer bearer es er : ℕ) (packet : List ℕ) → f.from.word ≡ node_word peer → es < 2 ^ 64 → er < 2 ^ 64 → f.frame ≡ frame_of es er packet → session_age members f a bearer (es_of f.frame) (er_of f.frame) ≤ 30000
    → IsYoung members f a peer bearer es er
young_session members f a peer bearer es er packet from es_fits er_fits bytes few =
    let es_is : es_of f.frame ≡ es = ap (λ b. es_of b) bytes ∙ es_of-frame es er packet es_fits er_fits in
    let er_is : er_of f.frame ≡ er = ap (λ b. er_of b) bytes ∙ er_of-frame es er packet es_fits er_fits in
    let number = number_is f.from.word peer from in
    let named : session_age members f a bearer (es_of f.frame) (er_of f.frame) ≡ max (count_at members peer a bearer es - f.numbered) (count_at members a peer bearer er - f.peer_numbered) =
    ap (λ n. max (count_at members n a bearer (es_of f.frame) - f.numbered) (count_at members a n bearer (er_of f.frame) - f.peer_numbered)) number
    ∙ ap (λ n. max (count_at members peer a bearer n - f.numbered) (count_at members a peer bearer (er_of f.frame) - f.peer_numbered)) es_is
    ∙ ap (λ n. max (count_at members peer a bearer es - f.numbered) (count_at members a peer bearer n - f.peer_numbered)) er_is in
    record { sender = omega (arith, named, few); receiver = omega (arith, named, few) }
