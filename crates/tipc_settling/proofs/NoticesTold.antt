-- A node says at a calm tick what its ends in reset say.
use Rattle.std.specs.List.{Contains}
use Rattle.std.proofs.Common.{◌≡◌, ◌∙◌, List, ◌∷◌, Option, Some, None, refl, sym, ap, subst, arith}
use Rattle.std.proofs.lemmas.List.Elements.{Contains-append_right}
use Rattle.tipc_types.specs.Address.{node_word}
use Rattle.tipc_outside.specs.declared.outgoing.Outgoing.{Outgoing}
use Rattle.tipc_broadcast.specs.Casting.{shown as shown_of}
use Rattle.tipc_pair.specs.Facing.{PairEnds, facing}
use Rattle.tipc_node.proofs.pairs.Strangers.{kept_abreast, pair_there}
use Rattle.tipc_node.specs.declared.neighbours.Neighbour.{Neighbour}
use Rattle.tipc_node.specs.Nodes.{end_with, neighbour_of, pair_with}
use Rattle.tipc_settling.specs.Rises.{NodesSayNotice, notice_in}
use Rattle.tipc_settling.specs.Stillness.{AreHeard, IsStill}
use Rattle.tipc_settling.proofs.Noticing.{ticked_says}
use Rattle.tipc_settling.proofs.Telling.{own_part}

first_of : (o : Outgoing) (behind : List Outgoing) → Contains (o ∷ behind) o
first_of o behind = (0, omega arith, refl)

pub nodes_say_notice : NodesSayNotice
nodes_say_notice own peer n n' by frames answered b bearer e h turn calm still heard one is mended reset = at (neighbour_of n b) refl
  where
    o : Outgoing
    o = notice_in e.fsm.state e

    at : (found : Option Neighbour) → neighbour_of n b ≡ found → Contains frames o
    at None none = absurd (let wrong : None ≡ Some e = sym (ap (end_with bearer) none) ∙ is in cc)
    at (Some x) there =
        let pair : pair_with n b ≡ x.pair = pair_there n b x there in
        let zero_is = (kept_abreast n b turn.told_before).first in
        let here : x.pair.bearer ≡ 0 = ap (λ (y : PairEnds). y.bearer) (sym pair) ∙ zero_is in
        let near : (facing bearer x.pair).near ≡ Some e = sym (ap (end_with bearer) there) ∙ is in
        let says = ticked_says own peer (shown_of n.casting (node_word b)) x.pair e bearer here (subst (IsStill own peer) pair still) (subst AreHeard pair heard) one near mended reset in
        (own_part n n' by frames answered h turn calm b x there).sent o (subst (λ fs. Contains fs o) (sym says.frames_are) (Contains-append_right says.before (o ∷ says.behind) o (first_of o says.behind)))
