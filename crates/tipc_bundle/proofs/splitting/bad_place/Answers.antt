use Rattle.std.proofs.Common.{◌≡◌, ◌%◌, ◌++◌, ◌∷◌, [], List, ℕ, length, refl, sym, subst, arith}
use Rattle.std.proofs.lemmas.List.{length_push, take_rest}
use Rattle.tipc_bundle.specs.Splitting.{BeginsBadly, BeginsWell}
use Rattle.tipc_bundle.proofs.Places.{bundle-length}
use Rattle.tipc_bundle.proofs.Walks.{bad_here, left_over, left_whole, none_before, one_more}
use Rattle.tipc_bundle.proofs.splitting.bad_place.Goals as goal

pub loop-init : goal.loop-init
loop-init c = ([], refl, none_before c.args.bundle.now (omega (arith, bundle-length c.args.bundle.now c.requires.bundle)))

pub first_padded-requires : goal.first_padded-requires
first_padded-requires c =
    let i = c.loop.invariant in
    subst (λ (xs : List ℕ). length xs % 4 ≡ 0) (sym (take_rest c.args.bundle.now c.loop.place)) (left_whole i.0 c.args.bundle.now c.loop.place c.requires.bundle i.2)

pub returns-in-Err-clause-some : goal.returns-in-Err-clause-some
returns-in-Err-clause-some c =
    let i = c.loop.invariant in
    let bad = subst (λ (xs : List ℕ). BeginsBadly xs c.in-Err.offset) (take_rest c.args.bundle.now c.loop.place) c.in-Err.ensures.err in
    bad_here i.0 c.args.bundle.now c.loop.place c.in-Err.offset i.2 (omega (arith, i.1, c.loop-test.true, c.requires.count)) bad

pub loop-preserved : goal.loop-preserved
loop-preserved c =
    let i = c.loop.invariant in
    let well = subst (λ (xs : List ℕ). BeginsWell xs c.in-Ok.size) (take_rest c.args.bundle.now c.loop.place) c.in-Ok.ensures.ok in
    (i.0 ++ well.packet ∷ [], omega (arith, length_push i.0 well.packet, i.1), one_more i.0 c.args.bundle.now c.loop.place c.in-Ok.size i.2 well)

pub returns-then-place-bundle-clause-some : goal.returns-then-place-bundle-clause-some
returns-then-place-bundle-clause-some c =
    let i = c.loop.invariant in
    left_over i.0 c.args.bundle.now c.loop.place i.2 (omega (arith, i.1, c.loop.auto.counter-end, c.loop-test.false, c.requires.count)) c.if-place-bundle.true
