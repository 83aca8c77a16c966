use Rattle.std.proofs.Common.{ℕ, List, ◌++◌, sym, ap, ◌∙◌, eqb-true}
use Rattle.tipc_header.specs.Spelling.{view, spelling, renumbered}
use Rattle.tipc_tunnel.specs.Tunnels.{numbered}
use Rattle.tipc_tunnel.proofs.InnerLaws.{numbered_empty, numbered-spelling}
use Rattle.tipc_tunnel.proofs.inner.numbered.Goals as goal

pub returns-then-is_empty : goal.returns-then-is_empty
returns-then-is_empty c = c.new-carried.ensures.items ∙ sym (numbered_empty c.args.number c.args.inner.now (eqb-true _ _ (sym c.is_empty.ensures ∙ c.if-is_empty.true)))

pub returns : goal.returns
returns c =
    let read = c.in-Ok.ensures.spells in
    let inner = ap (λ (xs : List ℕ). numbered c.args.number xs) read.1 ∙ numbered-spelling (view c.in-Ok.packet) c.args.number read.0 in
    let empty = c.new-carried.ensures.items in
    c.in_ok-encode.ensures.ok ∙ ap (λ (xs : List ℕ). xs ++ spelling (renumbered (view c.in-Ok.packet) c.in-Ok.packet.acknowledgement c.args.number)) empty ∙ sym inner
