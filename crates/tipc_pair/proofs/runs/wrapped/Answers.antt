use Rattle.std.proofs.Common.{◌≡◌, ◌≤◌, ◌∙◌, false, List, ℕ, length, ap, sym, subst}
use Rattle.tipc_link.specs.Records.{is_tunnel}
use Rattle.tipc_tunnel.specs.Tunnels.{IsTunnellable, MayBeWrapped}
use Rattle.tipc_pair.specs.Runs.{shown_by}
use Rattle.tipc_pair.proofs.Listed.{listed_inner}
use Rattle.tipc_pair.proofs.Shown.{shown_may}
use Rattle.tipc_pair.proofs.runs.wrapped.Goals as goal

pub shown_by-requires : goal.shown_by-requires
shown_by-requires c =
    let plain : is_tunnel c.args.kept.now.packet ≡ false = ap is_tunnel (sym c.as_slice.ensures) ∙ (sym c.is_tunnel.ensures ∙ c.if-is_tunnel.false) in
    subst IsTunnellable (sym c.as_slice-2.ensures) (listed_inner c.args.kept.now.packet c.requires.listed plain)

pub tunnel_of-requires-2-clause-inner : goal.tunnel_of-requires-2-clause-inner
tunnel_of-requires-2-clause-inner c =
    let packet = c.args.kept.now.packet in
    let plain : is_tunnel packet ≡ false = ap is_tunnel (sym c.as_slice.ensures) ∙ (sym c.is_tunnel.ensures ∙ c.if-is_tunnel.false) in
    let shown = c.in_ok-shown.ensures ∙ ap (shown_by c.args.own) c.as_slice-2.ensures in
    subst MayBeWrapped (sym (c.as_slice-3.ensures.value ∙ shown)) (shown_may c.args.own packet c.requires.listed plain).0

pub tunnel_of-requires-2-clause-size : goal.tunnel_of-requires-2-clause-size
tunnel_of-requires-2-clause-size c =
    let packet = c.args.kept.now.packet in
    let plain : is_tunnel packet ≡ false = ap is_tunnel (sym c.as_slice.ensures) ∙ (sym c.is_tunnel.ensures ∙ c.if-is_tunnel.false) in
    let shown = c.in_ok-shown.ensures ∙ ap (shown_by c.args.own) c.as_slice-2.ensures in
    subst (λ (xs : List ℕ). length xs ≤ 1452) (sym (c.as_slice-3.ensures.value ∙ shown)) (shown_may c.args.own packet c.requires.listed plain).1
