use Rattle.tipc_link.proofs.Outliving.{frames_stay, joined_of, names_rise, own_keeps, tunnels_stay, tunnels_take}
use Rattle.tipc_link.proofs.laws.a_record_outlives_its_session.Goals as goal

pub returns : goal.returns
returns c = record { joined = joined_of; tunnelled = tunnels_stay; next = tunnels_take; heard = frames_stay; kept = own_keeps; named = names_rise }
