use Rattle.std.proofs.Common.{◌≡◌, length, true, false, drop, sym, ap, subst, ◌∙◌, arith}
use Rattle.std.proofs.lemmas.List.{length-append, take-append-drop}
use Rattle.tipc_bundle.specs.Bundles.{IsInner}
use Rattle.tipc_bundle.proofs.InnerLaws.{begins-size, begins_at, inner-least}
use Rattle.tipc_bundle.proofs.inner.first_inner.Goals as goal

pub returns-then-bytes-lt4-clause-none : goal.returns-then-bytes-lt4-clause-none
returns-then-bytes-lt4-clause-none c = λ packet more h e. omega (arith, c.if-bytes-lt4.true, ap length e, length-append packet more, inner-least packet h)

pub returns-then-size-bytes-clause-none : goal.returns-then-size-bytes-clause-none
returns-then-size-bytes-clause-none c = λ packet more h e.
    omega (arith, c.if-size-bytes.true, c.message_size-size.ensures, begins-size c.args.bytes.now packet more h e, ap length e, length-append packet more)

pub returns-then-not-may_be_bundled-clause-none : goal.returns-then-not-may_be_bundled-clause-none
returns-then-not-may_be_bundled-clause-none c = λ packet more h e.
    let same = begins_at c.args.bytes.now packet more c.message_size-size.result h e c.message_size-size.ensures in
    let no : false ≡ true = sym c.if-not-may_be_bundled.true ∙ c.may_be_bundled.ensures.1 (subst IsInner (sym same) h) in
    absurd cc

pub returns-clause-some : goal.returns-clause-some
returns-clause-some c = (c.may_be_bundled.ensures.0 c.if-not-may_be_bundled.false, drop c.message_size-size.result c.args.bytes.now, sym (take-append-drop c.message_size-size.result c.args.bytes.now))
