use Rattle.tipc_casters.proofs.DeedTurns.{all_keep}
use Rattle.tipc_casters.proofs.laws.deeds_of_a_caster_keep.Goals as goal

pub returns : goal.returns
returns c = λ a b ms ds h does. all_keep ms a b ds h does
