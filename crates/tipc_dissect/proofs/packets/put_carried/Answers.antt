use Rattle.std.proofs.Common.{ap, sym, subst, ◌∙◌, ℕ, List, arith, refl, length}
use Rattle.std.specs.Prelude.{◌==◌}
use Rattle.tipc_header.specs.Spelling.{view}
use Rattle.tipc_tunnel.specs.Tunnels.{inner_number, IsNumbered}
use Rattle.tipc_tunnel.specs.Unwrapped.{tunnelled}
use Rattle.tipc_dissect.proofs.Appending.{put_again}
use Rattle.tipc_dissect.proofs.Inside.{bad_inner, carried_bad, carried_packet, not_both}
use Rattle.tipc_dissect.proofs.packets.put_carried.Goals as goal

pub returns-in_default : goal.returns-in_default
returns-in_default c =
    let number = inner_number c.args.packet.now.header in
    let tunnel = λ (e : _). not_both _ c.requires.tunnel (c.unwrap_packet.ensures.not_tunnel.0 e) in
    let bad = c.unwrap_packet.ensures.bad_inner.0 (bad_inner c.unwrap_packet.result c.in_default.field-0 c.in_default.is tunnel) in
    put_again _ _ _ _ _
    (carried_bad number c.args.rest.now (λ i. omega (arith, c.type_inv.rest i)) (λ none. bad.1 (sym c.requires.rest ∙ none)) (λ is. bad.2 (subst (IsNumbered number) c.requires.rest is)))
    c.put_bytes.ensures

pub returns : goal.returns
returns c =
    put_again _ _ _ _ _
    (carried_packet (view c.args.packet.now) (tunnelled c.in-Ok.tunnel) c.args.rest.now (view c.in-Ok-decode.inner) _ c.in-Ok.ensures.ok c.requires.rest (λ none. not_both _ (c.is_empty.ensures ∙ ap (λ (xs : List ℕ). length xs == 0) none) c.if-is_empty.false) c.in-Ok-decode.ensures.read refl)
    c.put_inner.ensures
