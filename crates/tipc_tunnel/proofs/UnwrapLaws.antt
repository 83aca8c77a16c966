-- What is answered of a packet of changeover.
use Rattle.std.proofs.Common.{◌≡◌, ◌⊎◌, ℕ, List, [], Result, Ok, Err, sym, ap, subst, ◌∙◌}
use Rattle.std.specs.Prelude.{IfOk, IfErr, IsOkAnd}
use Rattle.tipc_header.specs.declared.packet.Changeover.{Changeover}
use Rattle.tipc_header.specs.declared.packet.Header.TheVariants as header
use Rattle.tipc_header.specs.Spelling.{Fields}
use Rattle.tipc_tunnel.specs.declared.unwrapping.Tunnel.{Tunnel}
use Rattle.tipc_tunnel.specs.declared.unwrapping.TunnelFault.{TunnelFault}
use Rattle.tipc_tunnel.specs.declared.unwrapping.TunnelFault.TheVariants as fault
use Rattle.tipc_tunnel.specs.Tunnels.{told_by_header, Carries, IsNumbered, Tunnelled}
use Rattle.tipc_tunnel.specs.Unwrapped.{tunnelled}
use Rattle.tipc_tunnel.proofs.TunnelLaws.{carried_once, same_change, told_carries}

abbrev MayFollow : Fields → Changeover → Type 0
MayFollow packet c = (packet.rest ≡ []) ⊎ IsNumbered c.inner_number packet.rest

may_follow : (packet : Fields) (c : Changeover) (t : Tunnelled) → packet.header ≡ header.Changeover c → Carries packet t → MayFollow packet c
may_follow packet c t header g =
    let number : t.number ≡ c.inner_number = ap (λ (x : Changeover). x.inner_number) (same_change _ _ (sym g.header ∙ header)) in
    let here = subst (λ (xs : List ℕ). (xs ≡ []) ⊎ IsNumbered t.number xs) (sym g.rest) g.inner in
    subst (λ (n : ℕ). (packet.rest ≡ []) ⊎ IsNumbered n packet.rest) number here

pub ok_carries : (r : Result Tunnel TunnelFault) (packet : Fields) (c : Changeover) → packet.header ≡ header.Changeover c
    → IfOk r (λ t. (tunnelled t ≡ told_by_header c packet.rest) × MayFollow packet c) → IfOk r (λ t. Carries packet (tunnelled t))
ok_carries (Ok t) packet c header h = subst (Carries packet) (sym h.0) (told_carries packet c header h.1)
ok_carries (Err e) packet c header h = tt

pub carried_is_given : (r : Result Tunnel TunnelFault) (packet : Fields) (c : Changeover) → packet.header ≡ header.Changeover c
    → IfOk r (λ t. (tunnelled t ≡ told_by_header c packet.rest) × MayFollow packet c) → IfErr r (λ e. (e ≡ fault.BadInner) × (MayFollow packet c → ⊥))
    → (t : Tunnelled) → Carries packet t → IsOkAnd r (λ u. tunnelled u ≡ t)
carried_is_given (Ok u) packet c header h bad t g = carried_once packet (tunnelled u) t (subst (Carries packet) (sym h.0) (told_carries packet c header h.1)) g
carried_is_given (Err e) packet c header h bad t g = absurd (bad.1 (may_follow packet c t header g))
