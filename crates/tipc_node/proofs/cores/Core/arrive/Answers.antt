use Rattle.std.proofs.Common.{◌∙◌}
use Rattle.tipc_node.proofs.work.Reaching.{cast_at, cast_met, due_at, finds_at, found_met, heard_met, stopped_met}
use Rattle.tipc_node.proofs.cores.Core.arrive.Goals as goal

pub hear-requires : goal.hear-requires
hear-requires c = record { due = due_at c.args.self.now c.args.frame.now c.in-Ok.due (c.in-Ok.ensures.due c.in-Links.is); joined = c.requires.joined }

pub find-requires-clause-due : goal.find-requires-clause-due
find-requires-clause-due c = finds_at c.args.self.now c.args.frame.now c.in-Ok.due (c.in-Ok.ensures.brings c.in-Finds.is)

pub returns-in-Links-clause-ok : goal.returns-in-Links-clause-ok
returns-in-Links-clause-ok c =
    heard_met c.args.self.now c.hear.new.self c.args.by c.args.bearer c.args.number c.args.frame.now c.in-Ok.due c.args.out.now c.hear.new.out c.hear.result c.in-Ok.ensures.clear
    (c.in-Ok.ensures.kind ∙ c.in-Links.is) c.in-Ok.ensures.bearer (c.in-Ok.ensures.due c.in-Links.is) c.hear.ensures.heard

pub returns-in-Finds-clause-ok : goal.returns-in-Finds-clause-ok
returns-in-Finds-clause-ok c =
    found_met c.args.self.now c.find.new.self c.args.by c.args.bearer c.args.number c.args.frame.now c.in-Ok.due c.args.out.now c.find.new.out c.find.result c.in-Ok.ensures.clear
    (c.in-Ok.ensures.kind ∙ c.in-Finds.is) c.in-Ok.ensures.bearer (c.in-Ok.ensures.brings c.in-Finds.is) c.find.ensures.found

pub returns-in-Err-clause-ok : goal.returns-in-Err-clause-ok
returns-in-Err-clause-ok c =
    stopped_met c.args.self.now c.ignore.new.self c.args.by c.args.bearer c.args.number c.args.frame.now c.args.out.now c.in-Err.why c.ignore.result c.in-Err.ensures.stopped c.ignore.ensures.ok

pub hear_cast-requires : goal.hear_cast-requires
hear_cast-requires c = record { due = cast_at c.args.self.now c.args.frame.now c.in-Ok.due (c.in-Ok.ensures.casts c.in-Casts.is) }

pub returns-in-Casts-clause-ok : goal.returns-in-Casts-clause-ok
returns-in-Casts-clause-ok c =
    cast_met c.args.self.now c.hear_cast.new.self c.args.by c.args.bearer c.args.number c.args.frame.now c.in-Ok.due c.args.out.now c.hear_cast.new.out c.hear_cast.result c.in-Ok.ensures.clear
    (c.in-Ok.ensures.kind ∙ c.in-Casts.is) c.in-Ok.ensures.bearer (c.in-Ok.ensures.casts c.in-Casts.is) c.hear_cast.ensures.heard
