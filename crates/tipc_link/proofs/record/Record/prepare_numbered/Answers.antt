use Rattle.std.proofs.Common.{sym, ◌∙◌}
use Rattle.tipc_header.specs.Spelling.{spelling, view}
use Rattle.tipc_link.specs.Records.{window_of}
use Rattle.tipc_link.specs.Sessions.{as_waiting, brought}
use Rattle.tipc_link.proofs.Standing.{early_hearing}
use Rattle.tipc_link.proofs.record.Record.prepare_numbered.Goals as goal

pub returns-then-is_early_tunnel : goal.returns-then-is_early_tunnel
returns-then-is_early_tunnel c =
    let t = brought c.args.packet.now.sequence (spelling (as_waiting (view c.args.packet.now))) c.args.by in
    c.without_window.ensures ∙ early_hearing (window_of c.args.self.now) t (sym c.is_early_tunnel.ensures ∙ c.if-is_early_tunnel.true)
