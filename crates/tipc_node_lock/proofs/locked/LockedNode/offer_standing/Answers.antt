use Rattle.std.proofs.Common.{◌≡◌, ◌<◌, true, false, arith, length, refl, rules, sym, ap, ◌∙◌}
use Rattle.std.specs.Prelude.{is_some}
use Rattle.tipc_node_lock.specs.Inboxes.{PlaceState}
use Rattle.tipc_node_lock.specs.Locked.{LockedState}
use Rattle.tipc_node_lock.proofs.Going.{advances_of_same, advances_trying, cleared_trying_in, kept_trying, open_trying_in, read_place, tries_again}
use Rattle.tipc_node_lock.proofs.locked.LockedNode.offer_standing.Goals as goal

pub returns-then-not-is_free-clause-moves : goal.returns-then-not-is_free-clause-moves
returns-then-not-is_free-clause-moves g c = λ p.
    let within : c.args.index < length c.self.inside.places.items =
    let asked = c.requires in
    let same = ap (λ (n : LockedState _). length n.places) c.self.view_is in
    omega (arith, asked, same) in
    let at = read_place c.self.inside.places.items c.args.index c.index_mut-place.result.now within c.index_mut-place.ensures.value in
    advances_of_same c.self.view_is refl (advances_trying c.args.index _ _ p (tries_again c.args.index _ c.index_mut-place.result.now c.offer_again.new.self at c.offer_again.ensures))

pub returns-then-not-is_free-clause-open : goal.returns-then-not-is_free-clause-open
returns-then-not-is_free-clause-open g c =
    let within : c.args.index < length c.self.inside.places.items =
    let asked = c.requires in
    let same = ap (λ (n : LockedState _). length n.places) c.self.view_is in
    omega (arith, asked, same) in
    let at = read_place c.self.inside.places.items c.args.index c.index_mut-place.result.now within c.index_mut-place.ensures.value in
    let stands : is_some c.offer_again.new.self.standing ≡ true = search rules in
    cleared_trying_in c.self.view_is c.args.index c.index_mut-place.result.now c.offer_again.new.self at c.offer_again.ensures stands

pub invariant_of-self-2 : goal.invariant_of-self-2
invariant_of-self-2 g c =
    let within : c.args.index < length c.self.inside.places.items =
    let asked = c.requires in
    let same = ap (λ (n : LockedState _). length n.places) c.self.view_is in
    omega (arith, asked, same) in
    let at = read_place c.self.inside.places.items c.args.index c.index_mut-place.result.now within c.index_mut-place.ensures.value in
    (kept_trying c.args.index _ _ c.self.invariant.0 (tries_again c.args.index _ c.index_mut-place.result.now c.offer_again.new.self at c.offer_again.ensures), c.self.invariant.1, c.self.invariant.2)

pub returns-clause-moves : goal.returns-clause-moves
returns-clause-moves g c = λ p.
    let within : c.args.index < length c.self.inside.places.items =
    let asked = c.requires in
    let same = ap (λ (n : LockedState _). length n.places) c.self.view_is in
    omega (arith, asked, same) in
    let at = read_place c.self.inside.places.items c.args.index c.index_mut-place.result.now within c.index_mut-place.ensures.value in
    advances_of_same c.self.view_is refl (advances_trying c.args.index _ _ p (tries_again c.args.index _ c.index_mut-place.result.now c.offer_again.new.self at c.offer_again.ensures))

pub returns-clause-open : goal.returns-clause-open
returns-clause-open g c =
    let within : c.args.index < length c.self.inside.places.items =
    let asked = c.requires in
    let same = ap (λ (n : LockedState _). length n.places) c.self.view_is in
    omega (arith, asked, same) in
    let at = read_place c.self.inside.places.items c.args.index c.index_mut-place.result.now within c.index_mut-place.ensures.value in
    let free : is_some c.offer_again.new.self.standing ≡ false = search rules in
    let o = open_trying_in c.self.view_is c.args.index c.index_mut-place.result.now c.offer_again.new.self at free in
    (o.0, o.1, o.2 ∙ sym (ap (λ (q : PlaceState). q.port) c.place.view_is), o.3)
