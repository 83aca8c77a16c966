use Rattle.tipc_bundle.proofs.Bundling.{sent_are_bundle, sent_are_inside}
use Rattle.tipc_bundle.proofs.laws.sent_packets_are_split_again.Goals as goal

pub returns : goal.returns
returns c = record { bundle = sent_are_bundle; inside = sent_are_inside }
