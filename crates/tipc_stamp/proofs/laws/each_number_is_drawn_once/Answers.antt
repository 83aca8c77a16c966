use Rattle.tipc_stamp.proofs.Telling.{all_are_drawn, are_below, are_drawn_once, are_of_one_seat}
use Rattle.tipc_stamp.proofs.laws.each_number_is_drawn_once.Goals as goal

pub returns-clause-below : goal.returns-clause-below
returns-clause-below c = are_below

pub returns-clause-once : goal.returns-clause-once
returns-clause-once c = are_drawn_once

pub returns-clause-one : goal.returns-clause-one
returns-clause-one c = are_of_one_seat

pub returns-clause-all : goal.returns-clause-all
returns-clause-all c = all_are_drawn
