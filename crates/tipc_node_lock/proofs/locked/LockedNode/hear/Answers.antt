use Rattle.std.proofs.Common.{◌≡◌, ℕ, List, arith, length, refl, ap, sym, ◌∙◌}
use Rattle.std.specs.Prelude.{slice_index_or}
use Rattle.tipc_node_lock.proofs.Sectioned.{counts_after, counts_same, few_calls, frame_of_same, heard_more, hears_one_frame, kept_hearing, made_more, pass_made}
use Rattle.tipc_node_lock.proofs.locked.LockedNode.hear.Goals as goal

pub count_call-requires-clause-few : goal.count_call-requires-clause-few
count_call-requires-clause-few g c =
    few_calls _ _ c.next_by-by.result.caller (counts_same _ _ _ c.self.invariant.1 c.in_ok-make_place.ensures.same) c.in_ok-admit.ensures.ok.0

pub invariant_of-self-2 : goal.invariant_of-self-2
invariant_of-self-2 g c =
    let by = c.next_by-by.result in
    let counts = counts_same _ _ _ c.self.invariant.1 c.in_ok-make_place.ensures.same in
    let done = c.in_ok-arrival.ensures in
    let whose = c.next_by-by.ensures.caller in
    let number : by.call ≡ length _ =
    c.next_by-by.ensures.call ∙ ap (λ (xs : List ℕ). slice_index_or xs c.pass.inside.caller 0) c.as_slice.ensures.value
    ∙ ap (λ (i : ℕ). slice_index_or c.make_place.new.counts.items i 0) (sym whose) ∙ counts.each by.caller in
    let least = c.self.invariant.2 in
    let more = c.in_ok-make_place.ensures.more in
    let same = c.count_call.ensures.places in
    let place = c.len-number.ensures ∙ c.reserve.new.self.ok.0 ∙ ap length c.in_ok-reserve.ensures.items in (
      kept_hearing _ _ by c.args.bearer _ c.args.frame.now c.in_ok-arrival.arrival c.pass.inside.seat.of_table c.self.invariant.0 number c.requires.bearer place done.ok refl
          (heard_more _ _ _ _ _ c.push_reserved.ensures.items c.in_ok-reserve.ensures.items c.in_ok-kept.ensures) refl,
      counts_after _ _ done.ok.turn counts c.count_call.ensures.one c.count_call.ensures.others,
      omega (arith, least, more, same),
    )

pub returns : goal.returns
returns g c =
    let by = c.next_by-by.result in
    let admitted = c.in_ok-admit.ensures.ok in
    let counts = counts_same _ _ _ c.self.invariant.1 c.in_ok-make_place.ensures.same in
    let done = c.in_ok-arrival.ensures in
    let number : by.call ≡ length _ =
    c.next_by-by.ensures.call ∙ ap (λ (xs : List ℕ). slice_index_or xs c.pass.inside.caller 0) c.as_slice.ensures.value ∙ counts.each c.pass.inside.caller in
    let place = c.len-number.ensures ∙ c.reserve.new.self.ok.0 ∙ ap length c.in_ok-reserve.ensures.items in
    frame_of_same c.self.view_is (c.pass.view_is ∙ admitted.2)
    (hears_one_frame _ _ _ _ by c.args.bearer _ c.args.frame.now c.in_ok-arrival.arrival c.next_by-by.ensures.caller number place done.ok refl
    (heard_more _ _ _ _ _ c.push_reserved.ensures.items c.in_ok-reserve.ensures.items c.in_ok-kept.ensures)
    admitted.0 c.next_by-by.ensures.next c.pass.inside.seat.of_table
    (pass_made _ _ _ _ by.stamp _ _ c.pass.inside.seat.of_table c.next_by-by.ensures.drew
    (made_more _ _ _ by.stamp _ _ _ _ c.push_reserved-2.ensures.items c.in_ok-reserve-2.ensures.items refl refl) refl)
    refl refl)
