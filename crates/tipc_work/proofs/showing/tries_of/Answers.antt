use Rattle.std.proofs.Common.{◌≡◌, ◌⊎◌, inl, inr, ◌+◌, true, false, arith, ap, rules, subst, sym, ◌∙◌}
use Rattle.tipc_work.specs.Plans.{is_again}
use Rattle.tipc_work.specs.Showing.{BeginWithTries}
use Rattle.tipc_work.proofs.ShowingLaws.{again_more, none_differs, none_over, tries_end}
use Rattle.tipc_work.proofs.showing.tries_of.Goals.{then-count-via-then-count, then-count-via-else-count+then-not-is_again}
use Rattle.tipc_work.proofs.showing.tries_of.Goals as goal

pub returns-then-not-is_same-clause-none : goal.returns-then-not-is_same-clause-none
returns-then-not-is_same-clause-none c = λ count h.
    let stop : c.is_same.result ≡ false = search rules in
    let other : c.one-item.result.call ≡ c.args.call.now → ⊥ = λ same. let on = c.is_same.ensures.1 same in absurd cc in
    none_differs c.args.call.now c.args.made.now c.loop-one.one-index count c.one-item.result c.loop-one.invariant.0 c.loop-one-test.true c.one-item.is other h

pub returns-then-count-clause-some : goal.returns-then-count-clause-some
returns-then-count-clause-some c =
    let on : c.is_same.result ≡ true = search rules in
    let same : c.one-item.result.call ≡ c.args.call.now = c.is_same.ensures.0 on in
    let place : c.loop-one.one-index ≡ c.loop-one.count = sym c.loop-one.invariant.1 in
    let stop : (c.loop-one.one-index + 1 ≡ 1000) ⊎ (is_again c.one-item.result.answer ≡ false) = elim c.then-count.branch [
      | then-count-via-then-count w ↦ inl (let most = w.if-count.true in omega (arith, most, place))
      | then-count-via-else-count+then-not-is_again w ↦ inr (search rules)
    ] in
    subst (BeginWithTries c.args.call.now c.args.made.now) (ap (λ n. n + 1) place)
    (tries_end c.args.call.now c.args.made.now c.loop-one.one-index c.one-item.result c.loop-one.invariant.0 c.loop-one-test.true c.one-item.is same stop)

pub loop-one-preserved : goal.loop-one-preserved
loop-one-preserved c =
    let on : c.is_same.result ≡ true = search rules in
    let same : c.one-item.result.call ≡ c.args.call.now = c.is_same.ensures.0 on in
    let again : is_again c.one-item.result.answer ≡ true = search rules in
    let place : c.loop-one.count ≡ c.loop-one.one-index = c.loop-one.invariant.1 in
    let fewer = c.if-count.false in (
      again_more c.args.call.now c.args.made.now c.loop-one.one-index c.one-item.result c.loop-one.invariant.0 c.loop-one-test.true c.one-item.is same again
          (λ most. fewer (ap (λ n. n + 1) place ∙ most)),
      ap (λ n. n + 1) place,
    )

pub returns-clause-none : goal.returns-clause-none
returns-clause-none c = λ count h.
    let over = c.loop-one-test.false in
    none_over c.args.call.now c.args.made.now c.loop-one.one-index count c.loop-one.invariant.0 (omega (arith, over)) h
