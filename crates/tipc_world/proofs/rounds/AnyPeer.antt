-- In a calm world neither a tick nor an arrival tells of any link or contact of its node, whichever the peer.
use Rattle.std.specs.Prelude.{option_map, ◌⊎◌}
use Rattle.std.proofs.Common.{◌≡◌, ◌≢◌, ◌∙◌, ℕ, true, false, List, [], Option, Some, None, length, slice_index_or, inl, inr, refl, sym, ap, subst, arith}
use Rattle.std.proofs.lemmas.Bool.{cases_eq, cases_lt}
use Rattle.tipc_types.specs.Address.{node_word}
use Rattle.tipc_types.specs.declared.node_calls.Answer.{Answer}
use Rattle.tipc_types.specs.declared.node_calls.EventNote.{EventNote}
use Rattle.tipc_types.specs.declared.node_calls.EventNote.TheVariants as note
use Rattle.tipc_outside.specs.declared.outgoing.Outgoing.{Outgoing}
use Rattle.tipc_journal.specs.Steps.{NodeStep}
use Rattle.tipc_pair.specs.Facing.{PairEnds, alone}
use Rattle.tipc_node.specs.declared.neighbours.Neighbour.{Neighbour}
use Rattle.tipc_node.specs.Nodes.{NodeState, acquaintance, neighbour_of, pair_with, stop_of}
use Rattle.tipc_node.specs.Telling.{IsTold}
use Rattle.tipc_node.specs.Turns.{NodeTurn}
use Rattle.tipc_settling.specs.Events.{ComesToUpAt}
use Rattle.tipc_settling.specs.Loads.{IsCalm}
use Rattle.tipc_settling.specs.Stillness.{AreHeard, Footing, IsStill, MayComeTo}
use Rattle.tipc_settling.proofs.Nodes.{events_are_calm}
use Rattle.tipc_replay.specs.declared.events.WorldEvent.TheVariants.{Call}
use Rattle.tipc_replay.specs.Sound.{IsNumber}
use Rattle.tipc_replay.specs.States.{MemberState, pair_at}
use Rattle.tipc_replay.proofs.LookUps.{member_at-is, pair_at-is}
use Rattle.tipc_world.specs.CalmWorlds.{IsCalmWorld, IsFromMended}
use Rattle.tipc_world.specs.Ends.{ends_of}
use Rattle.tipc_world.specs.Poised.{IsPoised}
use Rattle.tipc_world.specs.RoundParts.{FrameArrives, HappensWhole, IsKept}
use Rattle.tipc_world.specs.States.{WorldState}
use Rattle.tipc_world.specs.StillWorlds.{HasHeardAll, footing_at}
use Rattle.tipc_world.proofs.rounds.CalmEvents.{hears_present, step_of_arrival, step_of_tick}
use Rattle.tipc_world.proofs.rounds.CalmWorlds.{comes_up}
use Rattle.tipc_world.proofs.rounds.StillWorlds.{sender_there}

-- what may come to a node of node b in an event
record IsAnyPeer (n : NodeState) (event : EventNote) (bytes : List ℕ) (b : ℕ) : Type 0 where
  own : Footing
  peer : Footing
  still : IsStill own peer (pair_with n b)
  comes : MayComeTo peer b (pair_with n b) event bytes
  up : ComesToUpAt own b event bytes

-- ---- a number that no other node has

abbrev lone : PairEnds → Footing
lone x = record { contact = x.contact; epoch = λ bearer. x.contact; up = λ bearer. false; answers = λ bearer. false; free = λ bearer. false; sees = false; alone = false }

lone_still : (own word boot : ℕ) → IsStill (lone (alone own word boot)) (lone (alone own word boot)) (alone own word boot)
lone_still own word boot = record {
  two = omega arith;
  contact = refl;
  seen = omega arith;
  sees = λ wrong. (let no : false ≡ true = wrong in cc);
  near = record { epoch = refl; down = refl; unanswered = refl };
  far = record { epoch = refl; down = refl; unanswered = refl };
}

-- nothing comes of it
abbrev ComesNot : EventNote → List ℕ → ℕ → Type 0
ComesNot event bytes b = (own peer : Footing) (x : PairEnds) → AreHeard x → MayComeTo peer b x event bytes × ComesToUpAt own b event bytes

lone_peer : (n : NodeState) (event : EventNote) (bytes : List ℕ) (b : ℕ) (o : Option Neighbour) → neighbour_of n b ≡ o → o ≡ None → ComesNot event bytes b → IsAnyPeer n event bytes b
lone_peer n event bytes b o is none strange =
    let x = alone n.own (node_word b) n.boot in
    let pair : pair_with n b ≡ x = ap (λ k. (acquaintance n b k).pair) (is ∙ none) in
    let both = strange (lone x) (lone x) x (record { near = omega arith; far = omega arith }) in
    record {
      own = lone x;
      peer = lone x;
      still = subst (IsStill (lone x) (lone x)) (sym pair) (lone_still n.own (node_word b) n.boot);
      comes = subst (λ y. MayComeTo (lone x) b y event bytes) (sym pair) both.0;
      up = both.1;
    }

no_pair : (o : Option Neighbour) → option_map (λ (x : Neighbour). x.pair) o ≡ None → o ≡ None
no_pair None none = refl
no_pair (Some x) none = absurd cc

unknown : (w : WorldState) (n b : ℕ) (m : MemberState) → slice_index_or w.members n None ≡ Some m → pair_at w.members n b ≡ None → neighbour_of m.node b ≡ None
unknown w n b m there none = no_pair (neighbour_of m.node b) (sym (pair_at-is w.members n b m (member_at-is w.members n m there)) ∙ none)

-- it is one of another node, or nothing is kept of it
pub which_peer : (w : WorldState) (n b : ℕ) (m : MemberState) → IsKept w → slice_index_or w.members n None ≡ Some m → (IsNumber b × (n ≢ b)) ⊎ (neighbour_of m.node b ≡ None)
which_peer w n b m kept there = elim (cases_lt b 1) [
  | inl low ↦ inr (unknown w n b m there (kept.nodes.sound.known n b (λ number. absurd (omega (arith, low, number.0)))))
  | inr from_one ↦ elim (cases_lt b 33) [
    | inr high ↦ inr (unknown w n b m there (kept.nodes.sound.known n b (λ number. absurd (omega (arith, high, number.1)))))
    | inl to_32 ↦ elim (cases_eq b n) [
      | inl same ↦ inr (unknown w n b m there (ap (λ k. pair_at w.members n k) same ∙ kept.nodes.sound.apart n))
      | inr other_one ↦ inl ((from_one, omega (arith, to_32)), λ same. other_one (sym same))
    ]
  ]
]

-- every number
any_peer : (w : WorldState) (n : ℕ) (m : MemberState) (event : EventNote) (bytes : List ℕ) → IsKept w → slice_index_or w.members n None ≡ Some m → ((b : ℕ) → IsNumber b → n ≢ b → IsAnyPeer m.node event bytes b)
    → ((b : ℕ) → (IsNumber b → n ≢ b → ⊥) → ComesNot event bytes b) → (b : ℕ) → IsAnyPeer m.node event bytes b
any_peer w n m event bytes kept there regular strange b = elim (cases_lt b 1) [
  | inl low ↦ lone_peer m.node event bytes b (neighbour_of m.node b) refl (unknown w n b m there (kept.nodes.sound.known n b (λ number. absurd (omega (arith, low, number.0))))) (strange b (λ number other. omega (arith, low, number.0)))
  | inr from_one ↦ elim (cases_lt b 33) [
    | inr high ↦ lone_peer m.node event bytes b (neighbour_of m.node b) refl (unknown w n b m there (kept.nodes.sound.known n b (λ number. absurd (omega (arith, high, number.1))))) (strange b (λ number other. omega (arith, high, number.1)))
    | inl to_32 ↦ elim (cases_eq b n) [
      | inl same ↦ lone_peer m.node event bytes b (neighbour_of m.node b) refl (unknown w n b m there (ap (λ k. pair_at w.members n k) same ∙ kept.nodes.sound.apart n)) (strange b (λ number other. other (sym same)))
      | inr other_one ↦ regular b (from_one, omega (arith, to_32)) (λ same. other_one (sym same))
    ]
  ]
]

calm_by : (n n' : NodeState) (bytes : List ℕ) (s : NodeStep) (frames : List Outgoing) → IsTold n → NodeTurn n n' bytes s frames → ((b : ℕ) → IsAnyPeer n s.event bytes b) → IsCalm n n'
calm_by n n' bytes s frames told turn any =
    events_are_calm (λ k. (any k).own) (λ k. (any k).peer) n n' bytes s frames told turn (λ k. (any k).still) (λ k. (any k).comes) (λ k. (any k).up)

-- ---- a tick

pub tick_is_calm : (start old new : WorldState) (node : ℕ) (answered : Answer) (h : HappensWhole old new (Call node note.Tick) [] answered) → IsKept old → IsCalmWorld start old → HasHeardAll node h.before → IsCalm h.before.node h.after.node
tick_is_calm start old new node answered h kept g heard =
    let t = h.does.turn in
    calm_by h.before.node h.after.node [] (step_of_tick old new node answered h) h.frames t.told_before t.turn
    (any_peer old node h.before note.Tick [] kept h.was
    (λ b number apart. record { own = footing_at start node b; peer = footing_at start b node; still = (g.nodes node h.before h.was b number apart).still; comes = heard b number apart; up = tt })
    (λ b strange own peer x quiet. (quiet, tt)))

-- ---- an arrival

pub arrival_is_calm : (start : WorldState) → IsKept start → IsPoised start → (old new : WorldState) (a : FrameArrives (ends_of start.air) old new) → IsCalmWorld start old → IsFromMended start a.bearer a.frame
    → stop_of a.arrives.before.node a.bearer a.frame.frame ≡ None → IsCalm a.arrives.before.node a.arrives.after.node
arrival_is_calm start kept_start poised old new a g said free =
    let h = a.arrives in
    let t = h.does.turn in
    let kept = g.on.kept kept_start in
    let event = note.Arrive a.bearer (length h.before.arrivals) in
    calm_by h.before.node h.after.node a.frame.frame (step_of_arrival start old new a) h.frames t.told_before t.turn
    (any_peer old a.node h.before event a.frame.frame kept h.was
    (λ b number apart. record {
      own = footing_at start a.node b;
      peer = footing_at start b a.node;
      still = (g.nodes a.node h.before h.was b number apart).still;
      comes = λ es er p brings kind_is. (hears_present start kept_start poised old new a g said b es er p brings kind_is).shows;
      up = comes_up start kept_start poised old new a g said free b apart (length h.before.arrivals);
    })
    (λ b strange own peer x quiet. (
      (λ es er p brings kind_is. (let s = sender_there old a.node a.bearer a.place a.frame b es er p kept a.found brings kind_is in absurd (strange s.number (λ same. s.apart (sym same))))),
      (λ es er p brings kind_is. (let s = sender_there old a.node a.bearer a.place a.frame b es er p kept a.found brings kind_is in absurd (strange s.number (λ same. s.apart (sym same))))),
    )))
