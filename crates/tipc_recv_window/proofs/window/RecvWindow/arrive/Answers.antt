use Rattle.std.proofs.Common.{◌≡◌, ◌+◌, ◌<◌, ◌≤◌, ◌^◌, ◌∙◌, ap, sym, subst, rules}
use Rattle.tipc_types.specs.declared.packet_lists.Taken.{Taken}
use Rattle.tipc_recv_window.specs.Receiving.{IsReceiving, Receiving, filled, past_wanted}
use Rattle.tipc_recv_window.proofs.Comings.{IsReceiving-held}
use Rattle.tipc_recv_window.proofs.window.RecvWindow.arrive.Goals as goal

holds_on : (c : goal.After-fill) → IsReceiving (record { wanted = c.self.inside.wanted; held = c.fill.new.held.items })
holds_on c =
    let before : Receiving = record { wanted = c.self.inside.wanted; held = c.self.inside.held.items } in
    let packet : Taken = record { number = c.args.number; packet = c.args.packet; by = c.args.by } in
    let near : c.distance-distance.result < 50 = (let n = c.place_at-place.ensures.near in let e = c.eq.ensures in let f = c.if-eq.false in search rules) in
    let past : c.distance-distance.result ≡ past_wanted before c.args.number = c.distance-distance.ensures ∙ ap (λ (r : Receiving). past_wanted r c.args.number) (sym c.self.view_is) in
    let counted : before.wanted + 50 ≤ 2 ^ 62 = subst (λ (r : Receiving). r.wanted + 50 ≤ 2 ^ 62) (sym c.self.view_is) (c.is_last.ensures.counted c.if-is_last.false) in
    let items : c.fill.new.held.items ≡ filled before.held c.distance-distance.result packet = c.fill.ensures ∙ ap (λ xs. filled xs c.distance-distance.result packet) c.reserve.ensures.items in
    IsReceiving-held before c.distance-distance.result packet c.fill.new.held.items items past c.ranges.number.fits near counted c.self.invariant

pub invariant_of-self-2 : goal.invariant_of-self-2
invariant_of-self-2 c = holds_on c

pub returns-clause-window : goal.returns-clause-window
returns-clause-window c = holds_on c
