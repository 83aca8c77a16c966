-- After a turn of a node each of its links is silent for as long as it was before, and for one tick more in a tick; and one that went up in it, or took a
-- frame, was just heard.
use Rattle.std.specs.Prelude.{◌⊎◌, if◌then◌else◌, nat_le}
use Rattle.std.proofs.Common.{◌≡◌, ◌≤◌, ◌∙◌, ℕ, zero, suc, Bool, true, false, List, [], ◌∷◌, Option, Some, None, map, slice_get, refl, sym, ap, subst, inl, inr, arith}
use Rattle.tipc_types.specs.Address.{node_word}
use Rattle.tipc_types.specs.declared.node_calls.EventNote.{EventNote}
use Rattle.tipc_types.specs.declared.node_calls.EventNote.TheVariants as event
use Rattle.tipc_outside.specs.declared.outgoing.Outgoing.{Outgoing}
use Rattle.tipc_journal.specs.declared.entries.Entry.TheVariants as entry
use Rattle.tipc_journal.specs.Steps.{NodeStep}
use Rattle.tipc_header.specs.declared.frames.FrameKind.TheVariants.{Links}
use Rattle.tipc_header.specs.Frames.{kind_in}
use Rattle.tipc_link.specs.Links.{LinkEnd}
use Rattle.tipc_pair.specs.declared.changes.PairOutcome.{PairOutcome}
use Rattle.tipc_pair.specs.declared.transitions.Transition.{Transition}
use Rattle.tipc_pair.specs.declared.transitions.Transition.TheVariants.{ContactDown, ContactUp, LinkDown, LinkUp}
use Rattle.tipc_pair.specs.Facing.{PairEnds, facing}
use Rattle.tipc_pair.specs.PairTurns.{Opening, PairTurn, Reply, replied, IsTakenBy, Suits}
use Rattle.tipc_pair.specs.PairTurns.Opening.{cuts, hears, makes, mends, rests, ticks}
use Rattle.tipc_node.specs.Messages.{bytes_of}
use Rattle.tipc_node.specs.Nodes.{NodeState, change_entries, pair_with}
use Rattle.tipc_node.proofs.pairs.Strangers.{kept_abreast}
use Rattle.tipc_replay.proofs.pairs.Pairings.{end_read}
use Rattle.tipc_node.specs.Telling.{IsTold}
use Rattle.tipc_pair.specs.LinkReadings.{AreAbreast, silence_in}
use Rattle.tipc_node.specs.Turns.{IsFrom, NodeTurn, PeerTurn, addr_of, is_change_of, pair_in}
use Rattle.tipc_node.proofs.journal.Telling.{same_word}
use Rattle.tipc_replay.specs.declared.air.Sent.{Sent}
use Rattle.tipc_replay.specs.Causes.{BringsUp, IsTakenFrom, Seen, tick_of}
use Rattle.tipc_replay.specs.Numbers.{end_on}
use Rattle.tipc_replay.proofs.journals.Kept.{IsTimed}
use Rattle.tipc_pair.proofs.turns.Silences.{IsHushed, Ups, Within, heard_on, opening_hushed, steady_within, steady_zero, ticks_in}
use Rattle.tipc_pair.proofs.turns.Steady.{AreSteady, are_steady_then, ends_on, puts_steady, replied_steady, steady_on}
use Rattle.tipc_replay.proofs.journals.Stepping.{passes}
use Rattle.tipc_replay.proofs.journals.TurnTraced.{AreCarried}

-- ---- the event of the step

-- only in a tick a link may be silent for longer
ticks_most : (note : EventNote) (opening : Opening) → Suits note opening → ticks_in opening ≤ tick_of note
ticks_most note rests suits = omega arith
ticks_most note (makes bearer is_mended) suits = omega arith
ticks_most note (mends bearer) suits = omega arith
ticks_most note (cuts bearer) suits = omega arith
ticks_most note (ticks shown) suits = let one : tick_of note ≡ 1 = ap tick_of suits in omega (arith, one)
ticks_most note (hears bearer es er p by shown) suits = omega arith

-- what was taken came on the bearer of the arrival
taken_on : (note : EventNote) (bearer number : ℕ) (opening : Opening) (given : PairOutcome) → Suits note opening → note ≡ event.Arrive bearer number → IsTakenBy opening given → heard_on opening ≡ bearer
taken_on note bearer number rests given suits is taken = absurd taken
taken_on note bearer number (makes on is_mended) given suits is taken = absurd taken
taken_on note bearer number (mends on) given suits is taken = absurd taken
taken_on note bearer number (cuts on) given suits is taken = absurd taken
taken_on note bearer number (ticks shown) given suits is taken = absurd taken
taken_on note bearer number (hears on es er p by shown) given suits is taken = let same : event.Arrive on by ≡ event.Arrive bearer number = sym suits ∙ is in cc

same_in : {A : Type 0} {a b : A} → Some a ≡ Some b → a ≡ b
same_in is = cc

-- a step that took a frame of a peer took what it brought
taken_of : (seen : Seen) (own : ℕ) (bytes : List ℕ) (s : NodeStep) (frames : List Outgoing) (b bearer : ℕ) (x x' : PairEnds) (t : PeerTurn own bytes s frames b x x') → AreCarried seen s bytes → IsTakenFrom seen s (addr_of b) bearer
    → IsTakenBy t.opening t.turn.first.given
taken_of seen own bytes s frames b bearer x x' t carried h =
    let c = (carried bearer h.arrives.number h.arrives.event_is).1 in
    let same : c.frame ≡ h.frame = same_in (sym c.arrived ∙ h.arrives.frame_is) in
    let words : node_word c.sender ≡ node_word b = sym c.from ∙ ap (λ (f : Sent). f.from.word) same ∙ h.arrives.from in
    let sender : c.sender ≡ b = omega (arith, words) in
    let link : kind_in bytes ≡ Links = ap kind_in (sym c.bytes_are ∙ ap (λ (f : Sent). f.frame) same) ∙ h.link in
    t.taken h.answered c.es c.er c.packet h.answer_is h.taken (subst (λ k. IsFrom k bytes c.es c.er c.packet) sender c.is_from) link

-- ---- the turn at a peer

-- a link that is told to be up is among those of which the changes tell that they went up
up_told_at : (P : ℕ → Type 0) (b : ℕ) (cs : List Transition) (j bearer own theirs : ℕ) → Ups P cs → slice_get (change_entries b cs) j ≡ Some (entry.LinkUp (addr_of b) bearer own theirs) → P bearer
up_told_at P b [] j bearer own theirs h there = absurd cc
up_told_at P b (LinkUp on own' theirs' ∷ cs) zero bearer own theirs h there = let same : on ≡ bearer = cc in subst P same h.0
up_told_at P b (LinkDown on because shown ∷ cs) zero bearer own theirs h there = absurd cc
up_told_at P b (ContactUp numbers ∷ cs) zero bearer own theirs h there = absurd cc
up_told_at P b (ContactDown numbers states shown ∷ cs) zero bearer own theirs h there = absurd cc
up_told_at P b (c ∷ cs) (suc j) bearer own theirs h there = up_told_at P b cs j bearer own theirs h.1 there

-- what is put and the answer leave a link as it is
rest_steady : (x x' : PairEnds) (opening : Opening) (messages : List (List ℕ)) (reply : Option Reply) (frames : List Outgoing) → (t : PairTurn x opening messages reply x' frames) → t.first.course.pair.bearer ≤ 1 → AreSteady t.first.course.pair x'
rest_steady x x' opening messages reply frames t two =
    let y = t.first.course.pair in
    let puts = puts_steady y messages t.put_frames t.put two t.puts in
    let same = puts.bearer two in
    subst (AreSteady y) (sym t.after) (are_steady_then y t.put (replied reply t.put).pair puts (replied_steady reply t.put (omega (arith, same, two))))

-- a link by its bearer, where that is one of the two
timed_if : (seen : Seen) (s : NodeStep) (b bearer : ℕ) (two : Bool) (o o' : Option LinkEnd) → IsTimed seen s b bearer o o' → IsTimed seen s b bearer (if two then o else None) (if two then o' else None)
timed_if seen s b bearer true o o' h = h
timed_if seen s b bearer false o o' h = record { heard = λ _. refl; most = omega arith }

peer_timed : (seen : Seen) (own : ℕ) (bytes : List ℕ) (s : NodeStep) (frames : List Outgoing) (b bearer : ℕ) (x x' : PairEnds) (t : PeerTurn own bytes s frames b x x') → AreAbreast x → AreCarried seen s bytes
    → IsTimed seen s b bearer (end_on bearer (Some x)) (end_on bearer (Some x'))
peer_timed seen own bytes s frames b bearer x x' t abreast carried =
    let first = abreast.first in
    let two : x.bearer ≤ 1 = omega (arith, first) in
    let o = t.turn.first in
    let y = o.course.pair in
    let h = opening_hushed x t.opening o first t.on_one t.turn.happened in
    let same = h.ends.bearer two in
    let there : y.bearer ≤ 1 = omega (arith, same, two) in
    let rest = rest_steady x x' t.opening (map (bytes_of own) t.messages) t.reply t.own_frames t.turn there in
    let later = steady_on bearer y x' there rest in
    let start = ends_on (Within (ticks_in t.opening)) bearer x y two h.ends in
    let after = steady_within (facing bearer y).near (facing bearer x').near later in
    let ticked = ticks_most s.event t.opening t.suits in
    timed_if seen s b bearer (nat_le bearer 1) (facing bearer x).near (facing bearer x').near (record {
      heard = λ heard. steady_zero (facing bearer y).near (facing bearer x').near later (just_heard h heard);
      most = omega (arith, start, after, ticked);
    })
  where
    just_heard : IsHushed x t.opening t.turn.first → BringsUp s (addr_of b) bearer ⊎ IsTakenFrom seen s (addr_of b) bearer → silence_in (facing bearer t.turn.first.course.pair).near ≡ 0
    just_heard h (inl up) =
        let e = entry.LinkUp (addr_of b) bearer up.own up.theirs in
        let at = passes (is_change_of b) s.inside up.place e up.entry_is (same_word b) in
        up_told_at (λ k. silence_in (facing k t.turn.first.course.pair).near ≡ 0) b t.turn.first.course.changes at.0 bearer up.own up.theirs h.ups (subst (λ es. slice_get es at.0 ≡ Some e) t.changes at.1)
    just_heard h (inr from) =
        let taken = taken_of seen own bytes s frames b bearer x x' t carried from in
        let on : heard_on t.opening ≡ bearer = taken_on s.event bearer from.arrives.number t.opening t.turn.first.given t.suits from.arrives.event_is taken in
        subst (λ k. silence_in (facing k t.turn.first.course.pair).near ≡ 0) on (h.taken taken)

-- ---- the turn of the node

pub turn_timed : (seen : Seen) (n n' : NodeState) (bytes : List ℕ) (s : NodeStep) (frames : List Outgoing) → IsTold n → NodeTurn n n' bytes s frames → AreCarried seen s bytes
    → (p bearer : ℕ) → IsTimed seen s p bearer (end_on bearer (pair_in n p)) (end_on bearer (pair_in n' p))
turn_timed seen n n' bytes s frames told t carried p bearer =
    let x = pair_with n p in
    let y = pair_with n' p in
    subst (λ o. IsTimed seen s p bearer o (end_on bearer (pair_in n' p))) (sym (end_read n p bearer)) (subst (IsTimed seen s p bearer (end_on bearer (Some x))) (sym (end_read n' p bearer))
    (peer_timed seen n.own bytes s frames p bearer x y (t.turns p) (kept_abreast n p told) carried))
