use Rattle.tipc_name_table.proofs.TableLaws.{closest_found, closest_own, closest_some}
use Rattle.tipc_name_table.proofs.laws.the_closest_are_some.Goals as goal

pub returns : goal.returns
returns c = record { some = closest_some; found = closest_found; own = closest_own }
