-- How a run ends, and the exit status of the program.
use Rattle.std.specs.Prelude.{ℕ, Bool, true, false}
use Rattle.tipc_sim.specs.declared.status.Status.{Status}
use Rattle.tipc_sim.specs.declared.status.Status.TheVariants.{Ok, Usage, BadLine, ReadFault, WriteFault, NoMemory, Limit, BearerFault, Differ}

-- how a run ends that came to this status, by whether a read and whether a write of it failed
abbrev pub after_streams : Status → Bool → Bool → Status
after_streams status true unwritten = ReadFault
after_streams status false true = WriteFault
after_streams status false false = status

-- how a run ends that came to this status, by whether all that it wrote could be given out at its end; at Usage it
-- wrote nothing
abbrev pub after_flush : Status → Bool → Status
after_flush Usage flushed = Usage
after_flush status true = status
after_flush status false = WriteFault

-- the exit status
abbrev pub code_of : Status → ℕ
code_of Ok = 0
code_of Usage = 1
code_of BadLine = 2
code_of ReadFault = 3
code_of WriteFault = 4
code_of NoMemory = 5
code_of Limit = 6
code_of BearerFault = 7
code_of Differ = 8
