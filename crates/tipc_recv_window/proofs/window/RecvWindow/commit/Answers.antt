use Rattle.std.proofs.Common.{◌+◌, ◌∙◌, ap, arith, drop, sym}
use Rattle.tipc_recv_window.specs.Receiving.{Coming, Receiving}
use Rattle.tipc_recv_window.proofs.Comings.{held_commits, held_near, none_commits, some_stands}
use Rattle.tipc_recv_window.proofs.window.RecvWindow.commit.Goals as goal

pub returns-in-None : goal.returns-in-None
returns-in-None c =
    let r = c.args.self.now in
    record {
      after = λ packet is. none_commits r packet c.args.arrival c.pass.new.self c.requires.free is
          (sym (ap (λ (a : Coming). a.held) c.arrival.view_is) ∙ (sym c.take_held.ensures.packet ∙ c.in-None.is))
          (c.pass.ensures ∙ ap (λ (a : Coming). let s : Receiving = record { wanted = r.wanted + a.count; held = drop a.count r.held } in s) c.arrival.view_is);
    }

pub returns-in-Some : goal.returns-in-Some
returns-in-Some c = record { after = λ packet is. held_commits c.args.self.now packet c.in-Some.packet c.args.arrival c.hold.new.self c.requires.free is (sym (ap (λ (a : Coming). a.held) c.arrival.view_is) ∙ (sym c.take_held.ensures.packet ∙ c.in-Some.is)) c.hold.ensures }

pub hold-requires-clause-near : goal.hold-requires-clause-near
hold-requires-clause-near c = held_near c.args.self.now c.requires.arrival.0 c.in-Some.packet c.args.arrival c.requires.free c.requires.arrival.1 (sym (ap (λ (a : Coming). a.held) c.arrival.view_is) ∙ (sym c.take_held.ensures.packet ∙ c.in-Some.is))

pub hold-requires-clause-room : goal.hold-requires-clause-room
hold-requires-clause-room c =
    let long = some_stands c.arrival.inside.held.items c.in-Some.packet (sym c.take_held.ensures.packet ∙ c.in-Some.is) in
    let wide = c.arrival.invariant.wide long in
    let same = c.take_held.ensures.room in
    (c.take_held.ensures.empty, omega (arith, wide, same))
