-- The link ends of a node stay right: a new node has none, and each turn leaves them so.
use Rattle.std.proofs.Common.{◌≡◌, ◌≤◌, ◌+◌, ◌∙◌, ℕ, Bool, true, false, List, [], ◌∷◌, Some, None, filter, cond, length, sym, ap, subst, arith, length-append}
use Rattle.std.proofs.lemmas.List.{length-map}
use Rattle.tipc_contact.specs.Sides.{first_number}
use Rattle.tipc_journal.specs.declared.entries.Entry.{Entry}
use Rattle.tipc_journal.specs.declared.entries.Entry.TheVariants as entry
use Rattle.tipc_journal.specs.Steps.{NodeStep, step_entries}
use Rattle.tipc_types.specs.Address.{node_word}
use Rattle.tipc_outside.specs.declared.outgoing.Outgoing.{Outgoing}
use Rattle.tipc_pair.specs.Facing.{alone}
use Rattle.tipc_pair.specs.declared.transitions.Transition.{Transition}
use Rattle.tipc_node.specs.declared.neighbours.Neighbour.{Neighbour}
use Rattle.tipc_node.specs.Ends.{AreSoundEnds, BothStand, HasRightEnds, IsAtMost, highest_number}
use Rattle.tipc_node.specs.Nodes.{NodeState, change_entries, change_entry, neighbour_of, pair_with}
use Rattle.tipc_node.specs.Telling.{IsTold}
use Rattle.tipc_node.specs.Turns.{NodeTurn, is_change_of}
use Rattle.tipc_node.proofs.pairs.Low.{turn_most, at_most_more}
use Rattle.tipc_node.proofs.pairs.Sound.{turn_sound}
use Rattle.tipc_node.proofs.pairs.Strangers.{kept_abreast, kept_by, pair_there}

-- no more entries pass a test than there are
few_pass : (p : Entry → Bool) (xs : List Entry) → length (filter p xs) ≤ length xs
few_pass p [] = omega arith
few_pass p (x ∷ xs) = elim (p x) as (λ b. length (cond b (x ∷ filter p xs) (filter p xs)) ≤ length (x ∷ xs)) [
  | true ↦ let few = few_pass p xs in omega (arith, few)
  | false ↦ let few = few_pass p xs in omega (arith, few)
]

-- each change that is told is an entry of the step
changes_few : (b : ℕ) (inside : List Entry) (changes : List Transition) → filter (is_change_of b) inside ≡ change_entries b changes → length changes ≤ length inside
changes_few b inside changes told =
    let many : length (change_entries b changes) ≡ length changes = length-map changes (change_entry b) in
    let same : length (filter (is_change_of b) inside) ≡ length (change_entries b changes) = ap (λ (es : List Entry). length es) told in
    let few = few_pass (is_change_of b) inside in
    omega (arith, many, same, few)

step_long : (s : NodeStep) → length s.inside ≤ length (step_entries s)
step_long s = let long = length-append s.inside (entry.Answered s.caller s.call s.answer ∷ []) in omega (arith, long)

-- a stranger's pair has no ends
alone_most : (own peer boot more : ℕ) → IsAtMost (first_number boot + more) (alone own peer boot)
alone_most own peer boot more = record { contact = omega arith; near = tt; far = tt }

-- each turn that leaves the ends on mended bearers
pub turn_right : (n n' : NodeState) (bytes : List ℕ) (s : NodeStep) (frames : List Outgoing) → IsTold n → NodeTurn n n' bytes s frames
    → ((b : ℕ) (x : Neighbour) → neighbour_of n' b ≡ Some x → BothStand n'.mended x.pair) → HasRightEnds n → HasRightEnds n'
turn_right n n' bytes s frames told t stand h = record { sound = sound; low = low; stand = stand }
  where
    sound : (b : ℕ) (x : Neighbour) → neighbour_of n' b ≡ Some x → AreSoundEnds x.pair
    sound b x there =
        let before : AreSoundEnds (pair_with n b) = kept_by AreSoundEnds n b (λ none. record { near = tt; far = tt }) (h.sound b) in
        subst AreSoundEnds (pair_there n' b x there) (turn_sound n.own bytes s frames b (pair_with n b) (pair_with n' b) ((kept_abreast n b told).first) before (t.turns b))

    low : (b : ℕ) (x : Neighbour) → neighbour_of n' b ≡ Some x → IsAtMost (highest_number n') x.pair
    low b x there =
        let at = t.turns b in
        let first : (pair_with n b).bearer ≡ 0 = (kept_abreast n b told).first in
        let before : IsAtMost (highest_number n) (pair_with n b) = kept_by (IsAtMost (highest_number n)) n b (λ none. alone_most n.own (node_word b) n.boot (length n.journal)) (h.low b) in
        let after = turn_most (pair_with n b) (pair_with n' b) at.opening _ at.reply at.own_frames (omega (arith, first)) at.turn (highest_number n) before in
        let few = changes_few b s.inside at.turn.first.course.changes at.changes in
        let longer = step_long s in
        let grew : length n'.journal ≡ length n.journal + length (step_entries s) = ap (λ (es : List Entry). length es) t.journal ∙ length-append n.journal (step_entries s) in
        let boot : first_number n'.boot ≡ first_number n.boot = ap first_number t.boot in
        subst (IsAtMost (highest_number n')) (pair_there n' b x there)
        (at_most_more (highest_number n + length at.turn.first.course.changes) (highest_number n') (pair_with n' b) (omega (arith, few, longer, grew, boot)) after)

-- a node that knows nobody has none
pub new_right : (n : NodeState) → ((b : ℕ) → neighbour_of n b ≡ None) → HasRightEnds n
new_right n alone = record {
  sound = λ b x there. absurd (let wrong : None ≡ Some x = sym (alone b) ∙ there in cc);
  low = λ b x there. absurd (let wrong : None ≡ Some x = sym (alone b) ∙ there in cc);
  stand = λ b x there. absurd (let wrong : None ≡ Some x = sym (alone b) ∙ there in cc);
}
