use Rattle.tipc_reassembly.proofs.SlotLaws.{slot_brings, slots_bring}
use Rattle.tipc_reassembly.proofs.laws.a_slot_brings_its_items.Goals as goal

pub returns-clause-one : goal.returns-clause-one
returns-clause-one c = slot_brings

pub returns-clause-all : goal.returns-clause-all
returns-clause-all c = slots_bring
