-- What stands in the lists of a link isn't read as a STATE: messages, fragments, bundles and tunnel packets aren't of link protocol.
use Rattle.std.specs.Prelude.{All, filter, nat_le, not}
use Rattle.std.specs.Int.{from_be_bytes, w32}
use Rattle.std.proofs.Common.{◌≡◌, ◌≤◌, ◌<◌, ℕ, zero, suc, Bool, true, false, if◌then◌else◌, List, [], ◌∷◌, ◌++◌, length, map, take, drop, refl, sym, ap, subst, ◌∙◌, length-take, take-append-drop, arith}
use Rattle.std.proofs.lemmas.List.Elements.{All-append, All-cons, All-head, All-nil, All-tail}
use Rattle.tipc_types.specs.declared.link_words.OldSession.{OldSession}
use Rattle.tipc_types.specs.declared.packet_lists.Kept.{Kept}
use Rattle.tipc_header.specs.declared.packet.ChangeoverType.{ChangeoverType}
use Rattle.tipc_header.specs.declared.packet.Header.{Header}
use Rattle.tipc_header.specs.declared.packet.Header.TheVariants as header
use Rattle.tipc_header.specs.Frames.{stamped}
use Rattle.tipc_header.specs.Reading.{bits, user_at, word_at}
use Rattle.tipc_header.specs.Spelling.{Fields, spelling}
use Rattle.tipc_header.specs.Grammar.{Fits, HeaderFits}
use Rattle.tipc_header.specs.Users.{user_of}
use Rattle.tipc_header.proofs.Again.{length-spelling}
use Rattle.tipc_header.proofs.FrameWords.{length-spelling as sixteen}
use Rattle.tipc_bundle.specs.Bundles.{bundle_of, joined, may_stand_inside}
use Rattle.tipc_fragments.specs.Cutting.{Piece, fragment_fields, packets_of, pieces_of}
use Rattle.tipc_tunnel.specs.Tunnels.{Tunnelled, tunnel_packet}
use Rattle.tipc_link.specs.Records.{is_tunnel}
use Rattle.tipc_link.specs.Sessions.{SessionEnd}
use Rattle.tipc_send_window.specs.Sending.{kept_of}
use Rattle.tipc_pair.specs.Messages.{IsMessage, pieces_for}
use Rattle.tipc_pair.specs.Runs.{left_by, marker, run_of, taken_over, wrapped}
use Rattle.tipc_replay.specs.Plain.{IsPlain}
use Rattle.tipc_replay.proofs.states.Reading.{user_spelled}

-- ---- packets that are spelled

pub plain_spelled : (p : Fields) → user_of p.header ≤ 15 → (user_of p.header ≡ 7 → ⊥) → IsPlain (spelling p)
plain_spelled p few never = record {
  long = sixteen p;
  other = λ short is. (
      let size = length-spelling p in
      never (sym (user_spelled p few (omega (arith, size, short))) ∙ is));
}

-- a message
plain_inside : (p : Fields) (h : Header) → p.header ≡ h → Fits p → may_stand_inside h ≡ true → IsPlain (spelling p)
plain_inside p (header.Payload m) is fits inside =
    let few : m.importance ≤ 3 = (subst HeaderFits is fits.header).importance in
    plain_spelled p (let same = ap user_of is in omega (arith, same, few)) (λ seven. (let same = ap user_of is in omega (arith, same, few, seven)))
plain_inside p (header.NameDistributor n) is fits inside = plain_spelled p (let same = ap user_of is in omega (arith, same)) (λ seven. (let same = ap user_of is in omega (arith, same, seven)))
plain_inside p (header.Bundler b) is fits inside = absurd (let wrong : false ≡ true = inside in cc)
plain_inside p (header.State s) is fits inside = absurd (let wrong : false ≡ true = inside in cc)
plain_inside p (header.Reset r) is fits inside = absurd (let wrong : false ≡ true = inside in cc)
plain_inside p (header.Activate a) is fits inside = absurd (let wrong : false ≡ true = inside in cc)
plain_inside p (header.Changeover c) is fits inside = absurd (let wrong : false ≡ true = inside in cc)
plain_inside p (header.Fragmenter f) is fits inside = absurd (let wrong : false ≡ true = inside in cc)
plain_inside p (header.Discovery d) is fits inside = absurd (let wrong : false ≡ true = inside in cc)

-- the fragments of one
plain_fragments : (pieces : List Piece) → All IsPlain (map (λ p. spelling (fragment_fields p)) pieces)
plain_fragments [] = All-nil IsPlain
plain_fragments (p ∷ pieces) = All-cons IsPlain (spelling (fragment_fields p)) _ (plain_spelled (fragment_fields p) (omega arith) (λ is. omega (arith, is))) (plain_fragments pieces)

pub plain_pieces : (own : ℕ) (message : List ℕ) → IsMessage own message → All IsPlain (pieces_for message)
unfolding pieces_for
plain_pieces own message is = elim (nat_le (length message) 1452) as (λ b. All IsPlain (if b then message ∷ [] else packets_of message)) [
  | true ↦ All-cons IsPlain message [] (subst IsPlain (sym is.spelled) (plain_inside is.packet is.packet.header refl is.fits is.inside)) (All-nil IsPlain)
  | false ↦ plain_fragments (pieces_of message)
]

-- several packets in one
pub plain_joined : (packets : List (List ℕ)) (packet : List ℕ) → 0 < length packets → IsPlain (joined (packets ++ packet ∷ []))
unfolding joined
plain_joined [] packet some = absurd (omega (arith, some))
plain_joined (first ∷ []) packet some = plain_spelled (bundle_of (first ∷ packet ∷ [])) (omega arith) (λ is. omega (arith, is))
plain_joined (first ∷ second ∷ others) packet some = plain_spelled (bundle_of (first ∷ second ∷ (others ++ packet ∷ []))) (omega arith) (λ is. omega (arith, is))

-- packets that travel on the other link
plain_tunnel : (t : Tunnelled) → IsPlain (spelling (tunnel_packet t))
plain_tunnel t = plain_spelled (tunnel_packet t) (omega arith) (λ is. omega (arith, is))

plain_wrapped : (kind : ChangeoverType) (old : OldSession) (own count : ℕ) (ks : List Kept) → All IsPlain (map (wrapped kind old own count) ks)
plain_wrapped kind old own count [] = All-nil IsPlain
plain_wrapped kind old own count (k ∷ ks) = All-cons IsPlain (wrapped kind old own count k) _ (plain_tunnel _) (plain_wrapped kind old own count ks)

plain_run : (kind : ChangeoverType) (old : OldSession) (own : ℕ) (ks : List Kept) → All IsPlain (run_of kind old own ks)
unfolding run_of
plain_run kind old own [] = All-cons IsPlain (marker kind old) [] (plain_tunnel _) (All-nil IsPlain)
plain_run kind old own (k ∷ ks) = plain_wrapped kind old own (length (k ∷ ks)) (k ∷ ks)

pub all_filtered : {A : Type 0} (P : A → Type 0) (p : A → Bool) (xs : List A) → All P xs → All P (filter p xs)
all_filtered P p [] all = All-nil P
all_filtered P p (x ∷ xs) all = elim (p x) as (λ b. All P (if b then x ∷ filter p xs else filter p xs)) [
  | true ↦ All-cons P x (filter p xs) (All-head P x xs all) (all_filtered P p xs (All-tail P x xs all))
  | false ↦ all_filtered P p xs (All-tail P x xs all)
]

pub plain_left : (s : SessionEnd) → All IsPlain s.sending.waiting → All IsPlain (left_by s)
plain_left s waiting = All-append IsPlain (run_of _ _ _ (kept_of s.sending)) (filter (λ packet. not (is_tunnel packet)) s.sending.waiting) (plain_run _ _ _ (kept_of s.sending)) (all_filtered IsPlain (λ packet. not (is_tunnel packet)) s.sending.waiting waiting)

pub plain_taken : (s : SessionEnd) → All IsPlain s.sending.waiting → All IsPlain (taken_over s)
plain_taken s waiting = All-append IsPlain (run_of _ _ _ (kept_of s.sending)) s.sending.waiting (plain_run _ _ _ (kept_of s.sending)) waiting

-- ---- under a number

take_within : {A : Type 0} (n : ℕ) (xs ys : List A) → n ≤ length xs → take n (xs ++ ys) ≡ take n xs
take_within zero xs ys within = refl
take_within (suc n) [] ys within = absurd (omega (arith, within))
take_within (suc n) (x ∷ xs) ys within = ap (λ zs. x ∷ zs) (take_within n xs ys (omega (arith, within)))

-- word 0 stays as it is
pub stamped_user : (acknowledgement sequence own : ℕ) (packet : List ℕ) → 16 ≤ length packet → user_at (stamped acknowledgement sequence own packet) ≡ user_at packet
unfolding stamped word_at
stamped_user acknowledgement sequence own packet long =
    let front : 4 ≤ length (take 8 packet) = omega (arith, length-take 8 packet, long) in
    let same : take 4 (stamped acknowledgement sequence own packet) ≡ take 4 packet = take_within 4 (take 8 packet) _ front ∙ sym (take_within 4 (take 8 packet) (drop 8 packet) front) ∙ ap (take 4) (take-append-drop 8 packet) in
    ap (λ bytes. bits 28 25 (from_be_bytes w32 bytes)) same
