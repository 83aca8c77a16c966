use Rattle.std.proofs.Common.{length, refl, sym, ap, ◌∙◌, arith}
use Rattle.tipc_header.specs.Spelling.{spelling}
use Rattle.tipc_bundle.proofs.InnerLaws.{inner-most}
use Rattle.tipc_bundle.proofs.Bundling.{carries_more, joined_more, length-joined_more, more_fits, more_is}
use Rattle.tipc_bundle.proofs.adding.with_added.Goals as goal

pub padded_size-requires-2 : goal.padded_size-requires-2
padded_size-requires-2 c = omega (arith, inner-most c.args.packet.now c.requires.packet)

pub returns-then-size-gt-MOST_PACKET_BYTES-clause-full : goal.returns-then-size-gt-MOST_PACKET_BYTES-clause-full
returns-then-size-gt-MOST_PACKET_BYTES-clause-full c = λ packets given.
    let h = given in
    let size = length-joined_more packets c.args.packet.now c.carried-count.result.1.now h.some (c.carried-count.ensures.rest packets h) in
    ((λ _. omega (arith, size, c.if-size-gt-MOST_PACKET_BYTES.true, c.padded_size.ensures.value, c.padded_size-2.ensures.value)), (λ _. refl))

pub bundle_with_packet-requires : goal.bundle_with_packet-requires
bundle_with_packet-requires c =
    let packets = c.requires.last.0 in
    let h = c.requires.last.1 in
    more_fits packets c.args.packet.now c.carried-count.result.1.now c.carried-count.result.0 h.inner c.requires.packet h.some (c.carried-count.ensures.count packets h) (c.carried-count.ensures.rest packets h)
    (omega (arith, c.if-size-gt-MOST_PACKET_BYTES.false, c.padded_size.ensures.value, c.padded_size-2.ensures.value))

pub returns-in_err-bundle-clause-full : goal.returns-in_err-bundle-clause-full
returns-in_err-bundle-clause-full c = λ packets given.
    let h = given in
    let size = length-joined_more packets c.args.packet.now c.carried-count.result.1.now h.some (c.carried-count.ensures.rest packets h) in
    ((λ e. let no = rw e at c.from_residual.ensures.1 in absurd cc), (λ more. absurd (omega (arith, more, size, c.if-size-gt-MOST_PACKET_BYTES.false, c.padded_size.ensures.value, c.padded_size-2.ensures.value))))

pub returns-clause-ok : goal.returns-clause-ok
returns-clause-ok c = λ packets given.
    let h = given in
    let rest = c.carried-count.ensures.rest packets h in
    carries_more packets c.args.packet.now c.carried-count.result.1.now c.in_ok-bundle.bundle c.carried-count.result.0 c.args.last.now h c.requires.packet (c.carried-count.ensures.count packets h) rest
    (omega (arith, c.if-size-gt-MOST_PACKET_BYTES.false, c.padded_size.ensures.value, c.padded_size-2.ensures.value)) c.in_ok-bundle.ensures

pub returns-clause-within : goal.returns-clause-within
returns-clause-within c =
    let packets = c.requires.last.0 in
    let h = c.requires.last.1 in
    let rest = c.carried-count.ensures.rest packets h in
    let same = c.in_ok-bundle.ensures ∙ sym (joined_more packets c.args.packet.now h.some ∙ ap spelling (more_is packets c.args.packet.now c.carried-count.result.1.now c.carried-count.result.0 (c.carried-count.ensures.count packets h) rest)) in
    omega (arith, ap length same, length-joined_more packets c.args.packet.now c.carried-count.result.1.now h.some rest, c.if-size-gt-MOST_PACKET_BYTES.false, c.padded_size.ensures.value, c.padded_size-2.ensures.value)

pub returns-clause-full : goal.returns-clause-full
returns-clause-full c = λ packets given.
    let h = given in
    let size = length-joined_more packets c.args.packet.now c.carried-count.result.1.now h.some (c.carried-count.ensures.rest packets h) in
    ((λ e. absurd cc), (λ more. absurd (omega (arith, more, size, c.if-size-gt-MOST_PACKET_BYTES.false, c.padded_size.ensures.value, c.padded_size-2.ensures.value))))
