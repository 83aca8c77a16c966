-- The contact numbers and the epochs of a node stay of its boot, low, and never fall; and its originals name sessions that are over.
use Rattle.std.specs.Prelude.{All, IfSome, length}
use Rattle.std.proofs.Common.{◌≡◌, ◌≤◌, ◌<◌, ◌+◌, ℕ, List, Option, Some, None, sym, ap, subst, arith}
use Rattle.tipc_outside.specs.declared.outgoing.Outgoing.{Outgoing}
use Rattle.tipc_journal.specs.Steps.{NodeStep}
use Rattle.tipc_contact.specs.Sides.{first_number}
use Rattle.tipc_link.specs.Links.{LinkEnd}
use Rattle.tipc_pair.specs.Facing.{PairEnds}
use Rattle.tipc_pair.specs.PairFacts.{AreStatesOf}
use Rattle.tipc_pair.proofs.turns.ContactEpochs.{turn_keeps_epochs}
use Rattle.tipc_node.specs.Ends.{HasRightEnds, IsAtMost, highest_number}
use Rattle.tipc_node.specs.Nodes.{NodeState, neighbour_of, pair_with}
use Rattle.tipc_node.specs.Numbers.{AreLow, HasOwnNumbers, IsBounded, NeverFalls, lower_half, own_epoch_on}
use Rattle.tipc_node.specs.Originals.{BringsEnded, HasSessions, NameEnded}
use Rattle.tipc_node.specs.Telling.{IsTold}
use Rattle.tipc_node.specs.Turns.{NodeTurn, frames_to}
use Rattle.tipc_node.proofs.pairs.Rising.{turn_rises}
use Rattle.tipc_node.proofs.pairs.SessionFrames.{turn_brings}
use Rattle.tipc_node.proofs.pairs.Sessions.{turn_sessions}
use Rattle.tipc_node.proofs.pairs.Strangers.{kept_abreast, kept_by, pair_alone}
use Rattle.tipc_node.proofs.turns.Named.{new_named}

-- ---- no number falls

pub turn_falls_none : (n n' : NodeState) (bytes : List ℕ) (s : NodeStep) (frames : List Outgoing) → IsTold n → IsTold n' → NodeTurn n n' bytes s frames → (b : ℕ) → NeverFalls (pair_with n b) (pair_with n' b)
turn_falls_none n n' bytes s frames told after t b =
    let at = t.turns b in
    turn_rises (pair_with n b) (pair_with n' b) at.opening _ at.reply at.own_frames (kept_abreast n b told).first (kept_abreast n' b after).first at.anew at.turn

-- ---- each is of the node's boot

pub new_numbers : (n : NodeState) → ((b : ℕ) → neighbour_of n b ≡ None) → IsBounded n → HasOwnNumbers n
new_numbers n nobody bounded b =
    let same : (pair_with n b).contact ≡ first_number n.boot = ap (λ (x : PairEnds). x.contact) (pair_alone n b (nobody b)) in
    record { from = omega (arith, same); epochs = (new_named n bounded.boot nobody b).epochs }

pub turn_numbers : (n n' : NodeState) (bytes : List ℕ) (s : NodeStep) (frames : List Outgoing) → IsTold n → IsTold n' → NodeTurn n n' bytes s frames → HasOwnNumbers n → HasOwnNumbers n'
turn_numbers n n' bytes s frames told after t h b =
    let at = t.turns b in
    let was = h b in
    let first = (kept_abreast n b told).first in
    let rose = (turn_falls_none n n' bytes s frames told after t b).contact in
    let boot : first_number n'.boot ≡ first_number n.boot = ap first_number t.boot in
    let from = was.from in
    record {
      from = omega (arith, boot, from, rose);
      epochs = turn_keeps_epochs (pair_with n b) (pair_with n' b) at.opening _ at.reply at.own_frames (omega (arith, first)) at.turn was.epochs;
    }

-- ---- and low

count_low : (boot number long : ℕ) → first_number boot ≤ number → number ≤ first_number boot + long → long ≤ 1048576 → lower_half number < 4000000000
count_low boot number long from most few = omega arith

end_low : (boot contact long : ℕ) (o : Option LinkEnd) → first_number boot ≤ contact → long ≤ 1048576 → IfSome o (λ (e : LinkEnd). AreStatesOf contact e.fsm) → IfSome o (λ (e : LinkEnd). e.fsm.own ≤ first_number boot + long)
    → IfSome o (λ (e : LinkEnd). lower_half e.fsm.own < 4000000000)
end_low boot contact long None from few states most = tt
end_low boot contact long (Some e) from few states most = let order = states.order in count_low boot e.fsm.own long (omega (arith, from, order)) most few

pub numbers_low : (n : NodeState) → HasRightEnds n → HasOwnNumbers n → IsBounded n → AreLow n
numbers_low n ends h bounded b =
    let x = pair_with n b in
    let at = h b in
    let most : IsAtMost (highest_number n) x = kept_by (IsAtMost (highest_number n)) n b (λ none. record { contact = omega arith; near = tt; far = tt }) (ends.low b) in
    record {
      contact = count_low n.boot x.contact (length n.journal) at.from most.contact bounded.few;
      near = end_low n.boot x.contact (length n.journal) x.near at.from bounded.few at.epochs.near most.near;
      far = end_low n.boot x.contact (length n.journal) x.far at.from bounded.few at.epochs.far most.far;
    }

-- ---- originals

pub new_ended : (n : NodeState) → ((b : ℕ) → neighbour_of n b ≡ None) → NameEnded n
new_ended n nobody b = subst HasSessions (sym (pair_alone n b (nobody b))) (record { near = tt; far = tt })

pub turn_ended : (n n' : NodeState) (bytes : List ℕ) (s : NodeStep) (frames : List Outgoing) → IsTold n → IsTold n' → NodeTurn n n' bytes s frames → HasOwnNumbers n → NameEnded n → NameEnded n'
turn_ended n n' bytes s frames told after t numbers h b =
    let at = t.turns b in
    turn_sessions n.own (pair_with n b) (pair_with n' b) at.opening at.messages at.reply at.own_frames (kept_abreast n b told).first (kept_abreast n' b after).first (numbers b).epochs
    (turn_numbers n n' bytes s frames told after t numbers b).epochs (turn_falls_none n n' bytes s frames told after t b) at.anew at.sendable at.turn (h b)

-- and each frame that leaves for a node brings none but such
pub turn_ended_frames : (n n' : NodeState) (bytes : List ℕ) (s : NodeStep) (frames : List Outgoing) → IsTold n → IsTold n' → NodeTurn n n' bytes s frames → HasOwnNumbers n → NameEnded n
    → (b : ℕ) → All (BringsEnded (own_epoch_on (pair_with n' b))) (frames_to b frames)
turn_ended_frames n n' bytes s frames told after t numbers h b =
    let at = t.turns b in
    subst (All (BringsEnded (own_epoch_on (pair_with n' b)))) (sym at.frames_are)
    (turn_brings n.own (pair_with n b) (pair_with n' b) at.opening at.messages at.reply at.own_frames (kept_abreast n b told).first (kept_abreast n' b after).first (numbers b).epochs
    (turn_numbers n n' bytes s frames told after t numbers b).epochs (turn_falls_none n n' bytes s frames told after t b) at.anew at.sendable at.turn (h b))
