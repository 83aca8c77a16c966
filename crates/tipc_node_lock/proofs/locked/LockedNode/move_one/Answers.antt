use Rattle.std.proofs.Common.{◌≡◌, ℕ, List, true, arith, length, rules, sym, subst, ap, ◌∙◌}
use Rattle.std.specs.Prelude.{is_some, slice_index_or}
use Rattle.tipc_journal.specs.Room.{has_journal_room}
use Rattle.tipc_node.specs.Sockets.{waiting_at}
use Rattle.tipc_node_lock.specs.Advances.{IsOpenAt}
use Rattle.tipc_node_lock.specs.Locked.{LockedState}
use Rattle.tipc_node_lock.specs.Passes.{new_pass}
use Rattle.tipc_node_lock.proofs.Going.{advances_of_same, looked_free, looked_held, one_advances, one_here, one_moved, one_next, open_place, open_there, open_within, runs_short}
use Rattle.tipc_node_lock.proofs.Moving.{advances_none}
use Rattle.tipc_node_lock.proofs.Sectioned.{few_calls}
use Rattle.tipc_node_lock.proofs.locked.LockedNode.move_one.Goals as goal

pub receive_first-requires-clause-there : goal.receive_first-requires-clause-there
receive_first-requires-clause-there g c =
    open_there c.args.index c.args.port _ c.self.invariant.0 (subst (λ (n : LockedState _). IsOpenAt c.args.index c.args.port n) (sym c.self.view_is) c.requires.open)

pub returns-then-not-has_room-clause-moves : goal.returns-then-not-has_room-clause-moves
returns-then-not-has_room-clause-moves g c = advances_none c.args.index 1 c.args.self.now c.args.pass.now

pub returns-in_default-clause-moves : goal.returns-in_default-clause-moves
returns-in_default-clause-moves g c =
    advances_of_same c.self.view_is c.pass.view_is
    (runs_short c.args.index _ _ _ _ _ _ _ c.next_by-by.result.stamp c.in_default.ensures.err.0 c.in_default.ensures.chooser c.in_default.ensures.err.1 c.next_by-by.ensures.drew
    c.next_by-by.ensures.next c.run_short.ensures)

pub count_call-requires-clause-few : goal.count_call-requires-clause-few
count_call-requires-clause-few g c =
    let room : has_journal_room c.self.inside.node.journal ≡ true = search rules in
    few_calls _ _ 0 c.self.invariant.1 room

pub index_mut-place-requires : goal.index_mut-place-requires
index_mut-place-requires g c =
    let within = open_within c.args.index c.args.port c.args.self.now c.requires.open in
    let places = ap (λ (n : LockedState _). length n.places) c.self.view_is in
    let len = c.self.inside.places.ok.0 in
    omega (arith, within, places, len)

pub offer-requires : goal.offer-requires
offer-requires g c =
    (open_place c.args.index c.args.port c.args.self.now c.index_mut-place.result.now c.requires.open
    (c.index_mut-place.ensures.value ∙ ap (λ (n : LockedState _). slice_index_or n.places c.args.index c.index_mut-place.result.now) c.self.view_is)).2

pub invariant_of-self-then-is_free : goal.invariant_of-self-then-is_free
invariant_of-self-then-is_free g c =
    let room : has_journal_room c.self.inside.node.journal ≡ true = search rules in
    let o = one_moved c.args.index c.args.port _ _ _ _ _ _ (new_pass 0 0 c.pass.inside.seat) _ c.next_by-by.result c.index_mut-place.result.now c.offer.new.self c.in-Ok.message
    c.self.invariant.0 c.self.invariant.1 c.self.invariant.2
    (subst (λ (n : LockedState _). IsOpenAt c.args.index c.args.port n) (sym c.self.view_is) c.requires.open)
    room c.next_by-by.ensures.caller (c.next_by-by.ensures.call ∙ ap (λ (xs : List ℕ). slice_index_or xs 0 0) c.as_slice.ensures.value) c.next_by-by.ensures.next c.next_by-by.ensures.drew
    c.in-Ok.ensures.ok c.in-Ok.ensures.chooser c.count_call.ensures.one c.count_call.ensures.places c.count_call.ensures.others
    c.index_mut-place.ensures.value c.offer.ensures in
    (o.kept, o.counted, o.least)

pub returns-then-is_free-clause-moves : goal.returns-then-is_free-clause-moves
returns-then-is_free-clause-moves g c =
    let room : has_journal_room c.self.inside.node.journal ≡ true = search rules in
    let o = one_moved c.args.index c.args.port _ _ _ _ _ _ _ _ c.next_by-by.result c.index_mut-place.result.now c.offer.new.self c.in-Ok.message
    c.self.invariant.0 c.self.invariant.1 c.self.invariant.2
    (subst (λ (n : LockedState _). IsOpenAt c.args.index c.args.port n) (sym c.self.view_is) c.requires.open)
    room c.next_by-by.ensures.caller (c.next_by-by.ensures.call ∙ ap (λ (xs : List ℕ). slice_index_or xs 0 0) c.as_slice.ensures.value) c.next_by-by.ensures.next c.next_by-by.ensures.drew
    c.in-Ok.ensures.ok c.in-Ok.ensures.chooser c.count_call.ensures.one c.count_call.ensures.places c.count_call.ensures.others
    c.index_mut-place.ensures.value c.offer.ensures in
    advances_of_same c.self.view_is c.pass.view_is (one_advances c.args.index c.args.port _ _ _ _ _ _ o)

pub returns-then-is_free-clause-on : goal.returns-then-is_free-clause-on
returns-then-is_free-clause-on g c =
    let room : has_journal_room c.self.inside.node.journal ≡ true = search rules in
    let o = one_moved c.args.index c.args.port _ _ _ _ _ _ (new_pass 0 0 c.pass.inside.seat) _ c.next_by-by.result c.index_mut-place.result.now c.offer.new.self c.in-Ok.message
    c.self.invariant.0 c.self.invariant.1 c.self.invariant.2
    (subst (λ (n : LockedState _). IsOpenAt c.args.index c.args.port n) (sym c.self.view_is) c.requires.open)
    room c.next_by-by.ensures.caller (c.next_by-by.ensures.call ∙ ap (λ (xs : List ℕ). slice_index_or xs 0 0) c.as_slice.ensures.value) c.next_by-by.ensures.next c.next_by-by.ensures.drew
    c.in-Ok.ensures.ok c.in-Ok.ensures.chooser c.count_call.ensures.one c.count_call.ensures.places c.count_call.ensures.others
    c.index_mut-place.ensures.value c.offer.ensures in
    let free = looked_free (is_some c.offer.new.self.standing) c.is_free.result c.is_free.ensures c.if-is_free.true in
    let here = one_here c.args.index c.args.port _ _ _ _ c.offer.new.self _ o free in
    (here.0, here.1 ∙ ap (λ (n : LockedState _). length (waiting_at n.node.sockets c.args.port)) c.self.view_is)

pub invariant_of-self-2 : goal.invariant_of-self-2
invariant_of-self-2 g c =
    let room : has_journal_room c.self.inside.node.journal ≡ true = search rules in
    let o = one_moved c.args.index c.args.port _ _ _ _ _ _ (new_pass 0 0 c.pass.inside.seat) _ c.next_by-by.result c.index_mut-place.result.now c.offer.new.self c.in-Ok.message
    c.self.invariant.0 c.self.invariant.1 c.self.invariant.2
    (subst (λ (n : LockedState _). IsOpenAt c.args.index c.args.port n) (sym c.self.view_is) c.requires.open)
    room c.next_by-by.ensures.caller (c.next_by-by.ensures.call ∙ ap (λ (xs : List ℕ). slice_index_or xs 0 0) c.as_slice.ensures.value) c.next_by-by.ensures.next c.next_by-by.ensures.drew
    c.in-Ok.ensures.ok c.in-Ok.ensures.chooser c.count_call.ensures.one c.count_call.ensures.places c.count_call.ensures.others
    c.index_mut-place.ensures.value c.offer.ensures in
    (o.kept, o.counted, o.least)

pub returns-clause-moves : goal.returns-clause-moves
returns-clause-moves g c =
    let room : has_journal_room c.self.inside.node.journal ≡ true = search rules in
    let o = one_moved c.args.index c.args.port _ _ _ _ _ _ _ _ c.next_by-by.result c.index_mut-place.result.now c.offer.new.self c.in-Ok.message
    c.self.invariant.0 c.self.invariant.1 c.self.invariant.2
    (subst (λ (n : LockedState _). IsOpenAt c.args.index c.args.port n) (sym c.self.view_is) c.requires.open)
    room c.next_by-by.ensures.caller (c.next_by-by.ensures.call ∙ ap (λ (xs : List ℕ). slice_index_or xs 0 0) c.as_slice.ensures.value) c.next_by-by.ensures.next c.next_by-by.ensures.drew
    c.in-Ok.ensures.ok c.in-Ok.ensures.chooser c.count_call.ensures.one c.count_call.ensures.places c.count_call.ensures.others
    c.index_mut-place.ensures.value c.offer.ensures in
    advances_of_same c.self.view_is c.pass.view_is (one_advances c.args.index c.args.port _ _ _ _ _ _ o)

pub returns-clause-on : goal.returns-clause-on
returns-clause-on g c =
    let room : has_journal_room c.self.inside.node.journal ≡ true = search rules in
    let o = one_moved c.args.index c.args.port _ _ _ _ _ _ (new_pass 0 0 c.pass.inside.seat) _ c.next_by-by.result c.index_mut-place.result.now c.offer.new.self c.in-Ok.message
    c.self.invariant.0 c.self.invariant.1 c.self.invariant.2
    (subst (λ (n : LockedState _). IsOpenAt c.args.index c.args.port n) (sym c.self.view_is) c.requires.open)
    room c.next_by-by.ensures.caller (c.next_by-by.ensures.call ∙ ap (λ (xs : List ℕ). slice_index_or xs 0 0) c.as_slice.ensures.value) c.next_by-by.ensures.next c.next_by-by.ensures.drew
    c.in-Ok.ensures.ok c.in-Ok.ensures.chooser c.count_call.ensures.one c.count_call.ensures.places c.count_call.ensures.others
    c.index_mut-place.ensures.value c.offer.ensures in
    let held = looked_held (is_some c.offer.new.self.standing) c.is_free.result c.is_free.ensures c.if-is_free.false in
    one_next c.args.index c.args.port _ _ _ _ c.offer.new.self _ o held
