use Rattle.std.proofs.Common.{◌≡◌, ℕ, List, arith, length, refl, ap, sym, ◌∙◌}
use Rattle.std.specs.Prelude.{slice_index_or, unwrap_or}
use Rattle.tipc_node_lock.specs.Inboxes.{places_after, takers_after}
use Rattle.tipc_node_lock.proofs.Sectioned.{call_of_same, counts_after, counts_same, few_calls, follows_so, holds_more, kept_performing, made_more, makes_one_call, pass_made}
use Rattle.tipc_node_lock.proofs.locked.LockedNode.make.Goals as goal

pub count_call-requires-clause-few : goal.count_call-requires-clause-few
count_call-requires-clause-few g c =
    few_calls _ _ c.next_by-by.result.caller (counts_same _ _ _ c.self.invariant.1 c.in_ok-make_place.ensures.same) c.in_ok-admit.ensures.ok.0

pub invariant_of-pass-2 : goal.invariant_of-pass-2
invariant_of-pass-2 g c =
    let inbox = unwrap_or c.in_ok-inbox.inbox c.pass.inside.seat.of_table in (
      c.pass.invariant.0,
      holds_more _ _ _ _ c.next_by-by.result.stamp c.args.call _ inbox c.pass.invariant.1
          (made_more _ _ _ c.next_by-by.result.stamp c.args.call _ _ _ c.push_reserved.ensures.items c.in_ok-reserve-3.ensures.items c.in_ok-note.ensures c.kept_answer-kept.ensures)
          (c.follow.ensures.takers c.pass.inside.seat.of_table ∙ follows_so (λ ts call kept. takers_after ts inbox call kept) c.in_ok-reserve-2.ensures.items c.in_ok-note.ensures c.kept_answer-kept.ensures),
    )

pub invariant_of-self-2 : goal.invariant_of-self-2
invariant_of-self-2 g c =
    let by = c.next_by-by.result in
    let inbox = unwrap_or c.in_ok-inbox.inbox c.pass.inside.seat.of_table in
    let counts = counts_same _ _ _ c.self.invariant.1 c.in_ok-make_place.ensures.same in
    let done = c.in_ok-answer.ensures in
    let whose = c.next_by-by.ensures.caller in
    let number : by.call ≡ length _ =
    c.next_by-by.ensures.call ∙ ap (λ (xs : List ℕ). slice_index_or xs c.pass.inside.caller 0) c.as_slice.ensures.value
    ∙ ap (λ (i : ℕ). slice_index_or c.make_place.new.counts.items i 0) (sym whose) ∙ counts.each by.caller in
    let least = c.self.invariant.2 in
    let more = c.in_ok-make_place.ensures.more in
    let same = c.count_call.ensures.places in (
      kept_performing _ _ by c.args.call c.in_ok-answer.answer inbox c.self.invariant.0 number c.requires.can c.requires.locked done.ok done.turns refl
          (c.follow.ensures.places c.pass.inside.seat.of_table ∙ follows_so (λ ps call kept. places_after ps inbox call kept) c.in_ok-reserve.ensures.items c.in_ok-note.ensures c.kept_answer-kept.ensures),
      counts_after _ _ done.ok.turn counts c.count_call.ensures.one c.count_call.ensures.others,
      omega (arith, least, more, same),
    )

pub returns : goal.returns
returns g c =
    let by = c.next_by-by.result in
    let inbox = unwrap_or c.in_ok-inbox.inbox c.pass.inside.seat.of_table in
    let admitted = c.in_ok-admit.ensures.ok in
    let counts = counts_same _ _ _ c.self.invariant.1 c.in_ok-make_place.ensures.same in
    let done = c.in_ok-answer.ensures in
    let number : by.call ≡ length _ =
    c.next_by-by.ensures.call ∙ ap (λ (xs : List ℕ). slice_index_or xs c.pass.inside.caller 0) c.as_slice.ensures.value ∙ counts.each c.pass.inside.caller in
    call_of_same c.self.view_is (c.pass.view_is ∙ admitted.2)
    (makes_one_call _ _ _ _ _ by c.args.call c.in_ok-answer.answer c.self.invariant.0 c.next_by-by.ensures.caller number done.ok done.picked done.turns refl
    admitted.0 c.next_by-by.ensures.next inbox
    (pass_made _ _ _ _ by.stamp c.args.call _ inbox c.next_by-by.ensures.drew
    (made_more _ _ _ by.stamp c.args.call _ _ _ c.push_reserved.ensures.items c.in_ok-reserve-3.ensures.items c.in_ok-note.ensures c.kept_answer-kept.ensures)
    (c.follow.ensures.takers c.pass.inside.seat.of_table ∙ follows_so (λ ts call kept. takers_after ts inbox call kept) c.in_ok-reserve-2.ensures.items c.in_ok-note.ensures c.kept_answer-kept.ensures))
    (c.follow.ensures.places c.pass.inside.seat.of_table ∙ follows_so (λ ps call kept. places_after ps inbox call kept) c.in_ok-reserve.ensures.items c.in_ok-note.ensures c.kept_answer-kept.ensures)
    refl)
