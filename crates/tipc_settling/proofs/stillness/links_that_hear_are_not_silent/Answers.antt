use Rattle.tipc_settling.proofs.WordsHeard.{arrivals_end_silence, words_are_taken}
use Rattle.tipc_settling.proofs.Silence.{silence_grows, words_end_silence}
use Rattle.tipc_settling.proofs.stillness.links_that_hear_are_not_silent.Goals as goal

pub returns-clause-grows : goal.returns-clause-grows
returns-clause-grows c = silence_grows

pub returns-clause-ends : goal.returns-clause-ends
returns-clause-ends c = words_end_silence

pub returns-clause-taken : goal.returns-clause-taken
returns-clause-taken c = words_are_taken

pub returns-clause-arrivals : goal.returns-clause-arrivals
returns-clause-arrivals c = arrivals_end_silence
