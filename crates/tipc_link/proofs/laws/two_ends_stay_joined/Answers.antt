use Rattle.tipc_link.proofs.LinkLaw.{answers_join, begins, hears_join, prefix, puts_join, tells_join, turned}
use Rattle.tipc_link.proofs.laws.two_ends_stay_joined.Goals as goal

pub returns : goal.returns
returns c = record { begin = begins; either = turned; put = puts_join; state = tells_join; arrival = hears_join; answer = answers_join; prefix = prefix }
