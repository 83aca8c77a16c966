use Rattle.std.proofs.Common.{◌≡◌, ◌+◌, ◌<◌, ◌≤◌, ◌^◌, ◌++◌, ◌∙◌, ap, sym, subst}
use Rattle.tipc_recv_window.specs.Receiving.{Receiving, filled, past_wanted}
use Rattle.tipc_recv_window.proofs.Comings.{IsReceiving-held}
use Rattle.tipc_recv_window.proofs.window.RecvWindow.hold.Goals as goal

pub invariant_of-self : goal.invariant_of-self
invariant_of-self c =
    let before : Receiving = record { wanted = c.self.inside.wanted; held = c.self.inside.held.items } in
    let past : c.distance-distance.result ≡ past_wanted before c.args.packet.number = c.distance-distance.ensures ∙ ap (λ (r : Receiving). past_wanted r c.args.packet.number) (sym c.self.view_is) in
    let near : c.distance-distance.result < 50 = subst (λ n. n < 50) (sym c.distance-distance.ensures) c.requires.near in
    let counted : before.wanted + 50 ≤ 2 ^ 62 = subst (λ (r : Receiving). r.wanted + 50 ≤ 2 ^ 62) (sym c.self.view_is) c.requires.counted in
    let moved : c.append.new.self.items ≡ before.held = c.in-Ok.ensures.items ∙ ap (λ xs. xs ++ before.held) c.requires.room.0 in
    let items : c.fill.new.held.items ≡ filled before.held c.distance-distance.result c.args.packet = c.fill.ensures ∙ ap (λ xs. filled xs c.distance-distance.result c.args.packet) moved in
    IsReceiving-held before c.distance-distance.result c.args.packet c.fill.new.held.items items past c.requires.number near counted c.self.invariant
