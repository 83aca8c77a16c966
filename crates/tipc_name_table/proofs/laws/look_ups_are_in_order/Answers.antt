use Rattle.tipc_types.proofs.Places.{kept_in_order}
use Rattle.tipc_name_table.proofs.TableLaws.{closest_in_order}
use Rattle.tipc_name_table.proofs.laws.look_ups_are_in_order.Goals as goal

pub returns : goal.returns
returns c = record { looked_up = kept_in_order; closest = closest_in_order }
