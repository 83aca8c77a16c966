use Rattle.tipc_settling.proofs.Arriving.{arrivals_are_calm, arrivals_send_under_present, arrivals_stay_still}
use Rattle.tipc_settling.proofs.stillness.nothing_goes_down_by_an_arrival.Goals as goal

pub returns-clause-still : goal.returns-clause-still
returns-clause-still c = arrivals_stay_still

pub returns-clause-calm : goal.returns-clause-calm
returns-clause-calm c = arrivals_are_calm

pub returns-clause-sends : goal.returns-clause-sends
returns-clause-sends c = arrivals_send_under_present
