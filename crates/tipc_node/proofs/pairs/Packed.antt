-- Sessions stay packed: where packets wait, the window is full. Whatever happens, waiting packets move up while it has room.
use Rattle.std.proofs.Common.{◌≡◌, ◌≤◌, ◌+◌, ◌-◌, ◌∙◌, ℕ, Bool, true, false, List, [], ◌∷◌, ◌++◌, Option, Some, None, option_map, take, drop, length, inl, inr, refl, sym, ap, subst, length-append, length-drop, arith}
use Rattle.std.specs.Prelude.{All, IfSome, if◌then◌else◌, min}
use Rattle.std.proofs.lemmas.Bool.{cases_lt}
use Rattle.std.proofs.lemmas.List.{drop_all, length-take}
use Rattle.tipc_types.specs.LinkStates.{is_up}
use Rattle.tipc_types.specs.declared.link_words.Reply.TheVariants as reply
use Rattle.tipc_outside.specs.declared.outgoing.Outgoing.{Outgoing}
use Rattle.tipc_send_window.specs.Sending.{release_count, room}
use Rattle.tipc_broadcast.specs.Casting.{Casting, IsPackedCast, booted}
use Rattle.tipc_broadcast.proofs.Packed.{deeds_packed}
use Rattle.tipc_journal.specs.Steps.{NodeStep}
use Rattle.tipc_link_fsm.specs.declared.changes.Change.{Change}
use Rattle.tipc_link_fsm.specs.declared.changes.Change.TheVariants.{Answer, Up}
use Rattle.tipc_link_fsm.specs.Table.{Fsm}
use Rattle.tipc_link.specs.Links.{LinkEnd, answered_with, followed, recorded, with_fsm}
use Rattle.tipc_link.specs.Records.{Received}
use Rattle.tipc_link.specs.Sessions.{Carries, Content, IsPut, Nothing, SessionEnd, Shows, answered, arrived, flushed, given_up, heard, joins, put, after_acknowledgement, repeated, spoke, after_state, waiting_given, waits, with_broadcast, with_record}
use Rattle.tipc_pair.specs.Facing.{PairEnds, facing, with_made}
use Rattle.tipc_node.specs.declared.neighbours.Neighbour.{Neighbour}
use Rattle.tipc_node.specs.Nodes.{NodeState, neighbour_of, pair_with}
use Rattle.tipc_node.specs.Telling.{ArePacked, IsTold}
use Rattle.tipc_pair.specs.LinkReadings.{AreAbreast, IsPacked, IsPackedEnd, IsPackedPair}
use Rattle.tipc_node.specs.Turns.{NodeTurn}
use Rattle.tipc_pair.proofs.turns.PairKept.{Both, Closed, both_facing, turn_kept}
use Rattle.tipc_node.proofs.pairs.Strangers.{kept_abreast, kept_by, pair_there}

-- ---- a session

-- the window isn't over-full
abbrev IsWithin : SessionEnd → Type 0
IsWithin s = length s.sending.unacked ≤ 50

flushed_packed : (s : SessionEnd) → IsWithin s → IsPacked (flushed s)
unfolding flushed
flushed_packed s within =
    let unacked = s.sending.unacked in
    let waiting = s.sending.waiting in
    let n = room s.sending in
    let long : length (unacked ++ take n waiting) ≡ length unacked + min n (length waiting) = length-append unacked (take n waiting) ∙ ap (λ k. length unacked + k) (length-take n waiting) in (
      omega (arith, within, long),
      elim (cases_lt (50 - length unacked) (length waiting)) [
        | inl more ↦ inr (omega (arith, within, long, more))
        | inr all ↦ inl (drop_all n waiting (omega (arith, all)))
      ],
    )

released_within : (s : SessionEnd) (acknowledgement : ℕ) → IsWithin s → IsWithin (after_acknowledgement s acknowledgement)
released_within s acknowledgement within =
    let left : length (drop (release_count s.sending acknowledgement) s.sending.unacked) ≡ length s.sending.unacked - release_count s.sending acknowledgement = length-drop (release_count s.sending acknowledgement) s.sending.unacked in
    omega (arith, left, within)

spoke_within : {A : Type 0} (s : SessionEnd) (xs : List A) → IsWithin s → IsWithin (spoke s xs)
spoke_within s [] within = within
spoke_within s (x ∷ xs) within = within

arrived_packed : (s : SessionEnd) (by acknowledgement : ℕ) (c : Content) → IsPacked s → IsPacked (arrived s by acknowledgement c)
arrived_packed s by acknowledgement (Shows next gap probe) h =
    let clear = after_acknowledgement s acknowledgement in
    flushed_packed (heard s by acknowledgement (Shows next gap probe)) (spoke_within clear (repeated clear acknowledgement gap) (released_within s acknowledgement h.0))
arrived_packed s by acknowledgement (Carries number packet) h = flushed_packed (heard s by acknowledgement (Carries number packet)) (released_within s acknowledgement h.0)
arrived_packed s by acknowledgement Nothing h = h

put_within : (s : SessionEnd) (pieces : List (List ℕ)) (s' : SessionEnd) → IsPut s pieces s' → IsWithin s → IsWithin s'
put_within s _ _ (joins packets packet may) within = within
put_within s _ _ (waits pieces apart) within = within

mapped : (f : SessionEnd → SessionEnd) (session : Option SessionEnd) → ((s : SessionEnd) → IsPacked s → IsPacked (f s)) → IfSome session IsPacked → IfSome (option_map f session) IsPacked
mapped f None keeps h = h
mapped f (Some s) keeps h = keeps s h

-- ---- a link end

-- so is its session, on whatever bearer
abbrev Packed : ℕ → LinkEnd → Type 0
Packed bearer e = IsPackedEnd e

-- nothing is said of frames
abbrev Any : Outgoing → Type 0
Any o = Unit {0}

any_frames : (fs : List Outgoing) → All Any fs
any_frames fs = λ k d within. tt

followed_packed : (e : LinkEnd) (f : Fsm) (c : Change) → IsPackedEnd e → IsPackedEnd (followed (with_fsm e f) c)
followed_packed e f Up h = (omega arith, inl refl)
followed_packed e f (Answer (reply.State probe)) h = mapped after_state e.session (λ s p. p) h
followed_packed e f other h = h

recorded_packed : (e : LinkEnd) (r : Received) → IsPackedEnd e → IsPackedEnd (recorded e r)
recorded_packed e r h = mapped (λ s. with_record s r) e.session (λ s p. p) h

with_session_packed : (e : LinkEnd) (s p : SessionEnd) → e.session ≡ Some s → (IsWithin s → IsWithin p) → IsPackedEnd e → IsPackedEnd (record e { session = Some (flushed p) })
with_session_packed e s p is within h = flushed_packed p (within (let was : IsPacked s = subst (λ o. IfSome o IsPacked) is h in was.0))

answered_packed : (e : LinkEnd) (taken : ℕ) (asks : Bool) → IsPackedEnd e → IsPackedEnd (answered_with e taken asks)
answered_packed e taken asks h = by (is_up e.fsm.state)
  where
    read : SessionEnd → SessionEnd
    read s = answered (with_broadcast s taken asks)

    by : (b : Bool) → IsPackedEnd (if b then record e { session = option_map read e.session } else e)
    by true = mapped read e.session (λ s p. p) h
    by false = h

-- each step of an end leaves it so
packed_closed : Closed Packed Any
packed_closed = record {
  steps = λ b e o made h. followed_packed e o.after o.change h;
  step_frames = λ b e o shown made h. any_frames _;
  hears = λ b e by acknowledgement c h. mapped (λ s. arrived s by acknowledgement c) e.session (λ s. arrived_packed s by acknowledgement c) h;
  again = λ b e acknowledgement c h. any_frames _;
  newly = λ b e by acknowledgement c h. any_frames _;
  mends = λ b e h. h;
  mend_frames = λ b e h. any_frames _;
  cuts = λ b e held h. h;
  tunnels = λ b e epoch h. h;
  parts = λ b e contact seen h. h;
  resets = λ b e h. any_frames _;
  forgets = λ b e seen h. h;
  hands = λ b e h. mapped given_up e.session (λ s p. (omega arith, inl refl)) h;
  loads = λ b e s packets is h. with_session_packed e s (put s packets) is (λ within. within) h;
  load_frames = λ b e s packets is h. any_frames _;
  empties = λ b e h. mapped waiting_given e.session (λ s p. (p.0, inl refl)) h;
  lets_go = λ b e h. h;
  go_frames = λ b e h. any_frames _;
  records = λ b e r h. recorded_packed e r h;
  puts = λ b e s pieces p is put h. with_session_packed e s p is (put_within s pieces p put) h;
  put_frames = λ b e s pieces p is put h. any_frames _;
  answers = λ b e taken asks h. answered_packed e taken asks h;
  answer_frames = λ b e taken asks shown h. any_frames _;
}

-- ---- a pair

both_packed : (x : PairEnds) → x.bearer ≤ 1 → IsPackedPair x → Both Packed x
both_packed x two h = record { two = two; near = h.near; far = h.far }

pair_packed : (x : PairEnds) → Both Packed x → IsPackedPair x
pair_packed x h = record { near = h.near; far = h.far }

-- an end that is made has no session
made_packed : (x : PairEnds) → x.bearer ≤ 1 → IsPackedPair x → (bearer : ℕ) → Both Packed (with_made (facing bearer x))
made_packed x two h bearer =
    let there = both_facing Packed bearer x (both_packed x two h) in
    record { two = there.two; near = tt; far = there.far }

-- ---- a node

-- each pair of the node is seen from bearer 0's link
pub first_bearer : (n : NodeState) (b : ℕ) (x : Neighbour) → IsTold n → neighbour_of n b ≡ Some x → x.pair.bearer ≡ 0
first_bearer n b x is_told there =
    let abreast = subst (λ o. IfSome o AreAbreast) (ap (option_map (λ (y : Neighbour). y.pair)) there) ((is_told.links b).abreast) in
    abreast.first

pub turn_packed : (n n' : NodeState) (bytes : List ℕ) (s : NodeStep) (frames : List Outgoing) → IsTold n → ArePacked n → NodeTurn n n' bytes s frames → ArePacked n'
turn_packed n n' bytes s frames is_told packed t = (pairs, subst (λ (v : Casting). IsPackedCast v.sending) (sym t.casting) (deeds_packed t.deeds n.casting packed.1))
  where
    pairs : (b : ℕ) (x : Neighbour) → neighbour_of n' b ≡ Some x → IsPackedPair x.pair
    pairs b x' there =
        let at = t.turns b in
        let x = pair_with n b in
        let first : x.bearer ≡ 0 = (kept_abreast n b is_told).first in
        let two : x.bearer ≤ 1 = omega (arith, first) in
        let before : IsPackedPair x = kept_by IsPackedPair n b (λ none. record { near = tt; far = tt }) (packed.0 b) in
        let after = turn_kept Packed Any packed_closed x (pair_with n' b) at.opening _ at.reply at.own_frames (made_packed x two before) (both_packed x two before) at.turn in
        subst IsPackedPair (pair_there n' b x' there) (pair_packed (pair_with n' b) after.0)

-- a node that knows nobody has none, and nothing was cast
pub new_packed : (n : NodeState) → ((b : ℕ) → neighbour_of n b ≡ None) → (own boot : ℕ) → n.casting ≡ booted own boot → ArePacked n
new_packed n alone own boot fresh = (λ b x there. absurd (let wrong : None ≡ Some x = sym (alone b) ∙ there in cc), subst (λ (v : Casting). IsPackedCast v.sending) (sym fresh) (omega arith, inl refl))
