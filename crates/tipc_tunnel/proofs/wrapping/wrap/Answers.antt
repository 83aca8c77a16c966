use Rattle.std.proofs.Common.{ℕ, length, ap, ◌∙◌, arith}
use Rattle.std.proofs.lemmas.List.{length-append}
use Rattle.tipc_tunnel.proofs.TunnelLaws.{made_fits, made_length, wrapped_length, wrapped_tunnel}
use Rattle.tipc_tunnel.proofs.wrapping.wrap.Goals as goal

pub encode-requires : goal.encode-requires
encode-requires c =
    let is = wrapped_tunnel c.args.kind c.args.old c.args.count c.args.number c.args.inner.now c.requires.bearer c.tunnel_header.ensures.epoch c.ranges.count.fits c.ranges.number.fits c.requires.run c.requires.inner c.requires.size in
    made_fits c.tunnel_header.result c.as_slice.result.now _ c.tunnel_header.ensures.header (c.as_slice.ensures.value ∙ c.in_ok-carried.ensures) is

pub returns-clause-within : goal.returns-clause-within
returns-clause-within c =
    let is = wrapped_tunnel c.args.kind c.args.old c.args.count c.args.number c.args.inner.now c.requires.bearer c.tunnel_header.ensures.epoch c.ranges.count.fits c.ranges.number.fits c.requires.run c.requires.inner c.requires.size in
    let made = made_length c.tunnel_header.result c.as_slice.result.now (record { kind = c.args.kind; old = c.args.old; count = c.args.count; number = c.args.number; inner = _ }) c.tunnel_header.ensures.header (c.as_slice.ensures.value ∙ c.in_ok-carried.ensures) in
    let size = wrapped_length c.args.number c.args.inner.now c.requires.inner in
    omega (arith, made, size, c.requires.size, ap length c.from_vec.ensures, ap length c.in_ok-encode.ensures.ok, ap length c.new-bytes.ensures.items, length-append {A = ℕ})
