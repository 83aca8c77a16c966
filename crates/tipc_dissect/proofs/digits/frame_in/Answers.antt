use Rattle.std.proofs.Common.{sym, ◌∙◌}
use Rattle.tipc_dissect.proofs.Spelled.{good_digits}
use Rattle.tipc_dissect.proofs.digits.frame_in.Goals as goal

pub read_digits-requires : goal.read_digits-requires
read_digits-requires c = good_digits c.args.line.now (sym c.bad_place.ensures ∙ c.in_default.is)
