use Rattle.tipc_load.proofs.LoadLines.{length-generated_lines}
use Rattle.tipc_load.proofs.Sound.{all_asked, all_whole, clear_behind, first_four}
use Rattle.tipc_load.proofs.load.loads_are_sound.Goals as goal

pub returns-clause-asked : goal.returns-clause-asked
returns-clause-asked c = all_asked

pub returns-clause-first : goal.returns-clause-first
returns-clause-first c = first_four

pub returns-clause-clear : goal.returns-clause-clear
returns-clause-clear c = clear_behind

pub returns-clause-count : goal.returns-clause-count
returns-clause-count c = length-generated_lines

pub returns-clause-whole : goal.returns-clause-whole
returns-clause-whole c = all_whole
