use Rattle.std.proofs.Common.{◌≡◌, ◌≤◌, ◌++◌, List, length, map, take, drop, refl, sym, ap, subst, ◌∙◌, arith}
use Rattle.std.specs.Prelude.{All}
use Rattle.tipc_topology.specs.Watchers.{with_room, Watcher}
use Rattle.tipc_topology.specs.Changing.{with_room_for, AreKept, Watchers}
use Rattle.tipc_topology.proofs.Kept.{kept_as, mapped_few, mapped_kept, room_enough, room_left, room_made, room_restored, mapped_written, some_changed, written}
use Rattle.tipc_topology.proofs.topology.Topology.make_room.Goals as goal

-- there is as much room
pub returns-then-additions-self-clause-ok : goal.returns-then-additions-self-clause-ok
returns-then-additions-self-clause-ok c =
    sym (room_enough c.args.additions c.args.self.now (subst (λ (t : Watchers). AreKept t) c.self.view_is c.self.invariant.0)
    (subst (λ (t : Watchers). c.args.additions ≤ t.room) c.self.view_is c.if-additions-self.true))

-- memory ran out: each has the room that it had, and maybe more
pub limit_room_in_each-requires : goal.limit_room_in_each-requires
limit_room_in_each-requires c =
    let w = c.self.inside in
    let items = w.kept.items in
    let slice = c.as_mut_slice.ensures in
    let some = c.in_default.ensures.err in
    let after = c.make_room_in_each.new.kept in
    let is : after ≡ map (with_room c.args.additions) (take some.0 items) ++ drop some.0 items =
    some.1 ∙ ap (λ (ws : List Watcher). map (with_room c.args.additions) (take some.0 ws) ++ drop some.0 ws) slice.value in
    let count : length items ≡ w.kept.len = ap (λ (ws : List Watcher). length ws) (sym slice.value) ∙ slice.len in
    let as_many : length after ≡ w.kept.len = ap (λ (ws : List Watcher). length ws) is ∙ some_changed (with_room c.args.additions) some.0 items ∙ count in
    let back = written w.kept.len items after count as_many in
    let less = c.if-additions-self.false in
    subst (λ (ws : List Watcher). All (λ (v : Watcher). w.room ≤ v.room) ws) (sym (c.as_mut_slice-in_default.ensures.value ∙ back ∙ is))
    (room_left w.room c.args.additions some.0 items c.self.invariant.0.room (omega (arith, less)))

-- and then as much as before
pub invariant_of-self : goal.invariant_of-self
invariant_of-self c =
    let w = c.self.inside in
    let items = w.kept.items in
    let slice = c.as_mut_slice.ensures in
    let some = c.in_default.ensures.err in
    let after = c.make_room_in_each.new.kept in
    let is : after ≡ map (with_room c.args.additions) (take some.0 items) ++ drop some.0 items =
    some.1 ∙ ap (λ (ws : List Watcher). map (with_room c.args.additions) (take some.0 ws) ++ drop some.0 ws) slice.value in
    let count : length items ≡ w.kept.len = ap (λ (ws : List Watcher). length ws) (sym slice.value) ∙ slice.len in
    let as_many : length after ≡ w.kept.len = ap (λ (ws : List Watcher). length ws) is ∙ some_changed (with_room c.args.additions) some.0 items ∙ count in
    let back = written w.kept.len items after count as_many in
    let last = c.limit_room_in_each.new.kept in
    let old : last ≡ items =
    c.limit_room_in_each.ensures
    ∙ ap (λ (ws : List Watcher). map (with_room w.room) ws) (c.as_mut_slice-in_default.ensures.value ∙ back ∙ is)
    ∙ room_restored w.room c.args.additions some.0 items c.self.invariant.0.room in
    let whole = written w.kept.len (take w.kept.len (after ++ drop (length after) items)) last (ap (λ (ws : List Watcher). length ws) back ∙ as_many) (ap (λ (ws : List Watcher). length ws) old ∙ count) in
    subst (λ (ws : List Watcher). AreKept (kept_as w.made w.room ws) × (length ws ≤ 256)) (sym (whole ∙ old)) c.self.invariant

pub returns-in_default-clause-err : goal.returns-in_default-clause-err
returns-in_default-clause-err c =
    let w = c.self.inside in
    let items = w.kept.items in
    let slice = c.as_mut_slice.ensures in
    let some = c.in_default.ensures.err in
    let after = c.make_room_in_each.new.kept in
    let is : after ≡ map (with_room c.args.additions) (take some.0 items) ++ drop some.0 items =
    some.1 ∙ ap (λ (ws : List Watcher). map (with_room c.args.additions) (take some.0 ws) ++ drop some.0 ws) slice.value in
    let count : length items ≡ w.kept.len = ap (λ (ws : List Watcher). length ws) (sym slice.value) ∙ slice.len in
    let as_many : length after ≡ w.kept.len = ap (λ (ws : List Watcher). length ws) is ∙ some_changed (with_room c.args.additions) some.0 items ∙ count in
    let back = written w.kept.len items after count as_many in
    let last = c.limit_room_in_each.new.kept in
    let old : last ≡ items =
    c.limit_room_in_each.ensures
    ∙ ap (λ (ws : List Watcher). map (with_room w.room) ws) (c.as_mut_slice-in_default.ensures.value ∙ back ∙ is)
    ∙ room_restored w.room c.args.additions some.0 items c.self.invariant.0.room in
    let whole = written w.kept.len (take w.kept.len (after ++ drop (length after) items)) last (ap (λ (ws : List Watcher). length ws) back ∙ as_many) (ap (λ (ws : List Watcher). length ws) old ∙ count) in
    ap (λ (ws : List Watcher). kept_as w.made w.room ws) (whole ∙ old) ∙ c.self.view_is

-- each has the new room
pub invariant_of-self-2 : goal.invariant_of-self-2
invariant_of-self-2 c =
    let w = c.self.inside in
    let slice = c.as_mut_slice.ensures in
    let all = mapped_written (with_room c.args.additions) w.kept.len w.kept.items c.as_mut_slice.result.now c.make_room_in_each.new.kept c.in-Ok.ensures.ok slice.value slice.len in (
      subst (λ (ws : List Watcher). AreKept (kept_as w.made c.args.additions ws)) (sym all)
          (mapped_kept (with_room c.args.additions) w.made w.room c.args.additions w.kept.items (λ v has. (refl, refl)) c.self.invariant.0),
      mapped_few (with_room c.args.additions) w.kept.items _ all c.self.invariant.1,
    )

pub returns-clause-ok : goal.returns-clause-ok
returns-clause-ok c =
    let w = c.self.inside in
    let slice = c.as_mut_slice.ensures in
    let less = c.if-additions-self.false in
    let all = mapped_written (with_room c.args.additions) w.kept.len w.kept.items c.as_mut_slice.result.now c.make_room_in_each.new.kept c.in-Ok.ensures.ok slice.value slice.len in
    ap (λ (ws : List Watcher). kept_as w.made c.args.additions ws) all
    ∙ room_made c.args.additions w.made w.room w.kept.items (omega (arith, less))
    ∙ ap (λ (t : Watchers). with_room_for c.args.additions t) c.self.view_is
