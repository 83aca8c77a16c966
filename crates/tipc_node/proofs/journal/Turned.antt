-- A node's journal tells of its links after each turn.
use Rattle.std.proofs.Common.{◌≡◌, ℕ, true, false, List, ◌++◌, None, inl, inr, refl, sym, ◌∙◌, subst}
use Rattle.tipc_types.specs.Address.{node_word}
use Rattle.tipc_outside.specs.declared.outgoing.Outgoing.{Outgoing}
use Rattle.tipc_journal.specs.Steps.{IsWhole, NodeStep, step_entries}
use Rattle.tipc_journal.proofs.StepLaws.{IsWhole_more}
use Rattle.tipc_pair.specs.Facing.{PairEnds}
use Rattle.tipc_node.specs.Nodes.{NodeState, is_other, neighbour_of, pair_with}
use Rattle.tipc_node.specs.Telling.{IsTold, TellsOf}
use Rattle.tipc_pair.specs.LinkReadings.{AreAbreast}
use Rattle.tipc_node.specs.Turns.{NodeTurn, PeerTurn, pair_in}
use Rattle.tipc_node.proofs.journal.Telling.{contact_changed, epochs_changed}
use Rattle.tipc_node.proofs.pairs.Strangers.{kept_tells, tells_kept}
use Rattle.tipc_pair.proofs.turns.TurnMoves.{TurnMoves, turn_moves}

-- ---- a turn

-- what a turn does to the pair
pub peer_moves : (own : ℕ) (bytes : List ℕ) (s : NodeStep) (frames : List Outgoing) (b : ℕ) (x x' : PairEnds) → AreAbreast x → (t : PeerTurn own bytes s frames b x x') → TurnMoves x x' t.turn.first
peer_moves own bytes s frames b x x' abreast t = turn_moves x x' t.opening _ t.reply t.own_frames abreast t.anew t.turn

-- the journal tells of each peer after the turn what it has of it
tells_of : (n n' : NodeState) (bytes : List ℕ) (s : NodeStep) (frames : List Outgoing) (b : ℕ) → IsTold n → NodeTurn n n' bytes s frames → TellsOf (n.journal ++ step_entries s) b (pair_in n' b)
tells_of n n' bytes s frames b told t =
    let was = kept_tells n b told in
    let at = t.turns b in
    let x = pair_with n b in
    let y = pair_with n' b in
    let moves = peer_moves n.own bytes s frames b x y was.abreast at in
    tells_kept (n.journal ++ step_entries s) n' b (record {
      contact_is = contact_changed n.journal s b x y at.turn.first.course.changes at.changes moves.tells was.contact_is;
      epochs_are = λ bearer. epochs_changed n.journal s b bearer x y at.turn.first.course.changes at.changes moves.tells (was.epochs_are bearer);
      abreast = moves.abreast;
    })

pub turn_whole : (n n' : NodeState) (bytes : List ℕ) (s : NodeStep) (frames : List Outgoing) → IsTold n → NodeTurn n n' bytes s frames → IsWhole n'.journal
turn_whole n n' bytes s frames told t = subst IsWhole (sym t.journal) (IsWhole_more n.journal s told.whole t.inside)

pub turn_links : (n n' : NodeState) (bytes : List ℕ) (s : NodeStep) (frames : List Outgoing) → IsTold n → NodeTurn n n' bytes s frames → (b : ℕ) → TellsOf n'.journal b (pair_in n' b)
turn_links n n' bytes s frames told t b = subst (λ journal. TellsOf journal b (pair_in n' b)) (sym t.journal) (tells_of n n' bytes s frames b told t)

-- the number 0 is no node's
no_other : (own : ℕ) → is_other own (node_word 0) ≡ false
unfolding is_other
no_other own = refl

pub turn_nobody : (n n' : NodeState) (bytes : List ℕ) (s : NodeStep) (frames : List Outgoing) → IsTold n → NodeTurn n n' bytes s frames → neighbour_of n' 0 ≡ None
turn_nobody n n' bytes s frames told t = elim (t.stays 0 told.nobody) [
  | inl none ↦ none
  | inr made ↦ absurd (let wrong : false ≡ true = sym (no_other n.own) ∙ made.1 in cc)
]
