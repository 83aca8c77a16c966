use Rattle.std.proofs.Common.{◌+◌, ◌++◌, ◌∷◌, [], List, ℕ, length, sym, ap, subst, ◌∙◌, arith}
use Rattle.std.proofs.lemmas.List.{length_push}
use Rattle.tipc_bundle.specs.Bundles.{padded_size}
use Rattle.tipc_bundle.proofs.InnerLaws.{inner-most}
use Rattle.tipc_bundle.proofs.Places.{bundle-length}
use Rattle.tipc_bundle.proofs.Walks.{all_inside, next_stands, none_before, StandBefore}
use Rattle.tipc_bundle.proofs.splitting.inner_packets.Goals as goal

pub loop-init : goal.loop-init
loop-init c =
    let start = none_before c.args.bundle.now (omega (arith, bundle-length c.args.bundle.now c.requires.bundle)) in
    (ap length c.new-inner.ensures, subst (λ (xs : List (List ℕ)). StandBefore xs c.args.bundle.now 40) (sym c.new-inner.ensures) start)

pub leading_packet-packet-requires : goal.leading_packet-packet-requires
leading_packet-packet-requires c =
    let i = c.loop.invariant in
    let n = next_stands c.requires.inside.0 c.loop.inner c.args.bundle.now c.loop.place c.requires.inside.1 i.1 (omega (arith, i.0, c.loop-test.true, c.requires.count)) in
    (n.packet, n.more, n.inner, n.leads)

pub padded_size-requires : goal.padded_size-requires
padded_size-requires c =
    let i = c.loop.invariant in
    let n = next_stands c.requires.inside.0 c.loop.inner c.args.bundle.now c.loop.place c.requires.inside.1 i.1 (omega (arith, i.0, c.loop-test.true, c.requires.count)) in
    omega (arith, ap length (c.leading_packet-packet.ensures n.packet n.more n.inner n.leads), inner-most n.packet n.inner)

pub loop-preserved : goal.loop-preserved
loop-preserved c =
    let i = c.loop.invariant in
    let n = next_stands c.requires.inside.0 c.loop.inner c.args.bundle.now c.loop.place c.requires.inside.1 i.1 (omega (arith, i.0, c.loop-test.true, c.requires.count)) in
    let same = c.leading_packet-packet.ensures n.packet n.more n.inner n.leads in
    let pushed = c.in_ok-push.ensures.ok ∙ ap (λ (xs : List ℕ). c.loop.inner ++ xs ∷ []) (c.in_ok-from_slice.ensures ∙ same) in
    let size = c.padded_size.ensures.value ∙ ap (λ (xs : List ℕ). padded_size (length xs)) same in
    let after = subst (λ (k : ℕ). StandBefore (c.loop.inner ++ n.packet ∷ []) c.args.bundle.now (c.loop.place + k)) (sym size) n.after in
    (omega (arith, ap length pushed, length_push c.loop.inner n.packet, i.0), subst (λ (xs : List (List ℕ)). StandBefore xs c.args.bundle.now (c.loop.place + c.padded_size.result)) (sym pushed) after)

pub returns : goal.returns
returns c =
    let i = c.loop.invariant in
    all_inside c.requires.inside.0 c.loop.inner c.args.bundle.now c.loop.place c.requires.inside.1 i.1 (omega (arith, i.0, c.loop.auto.counter-end, c.loop-test.false, c.requires.count))
