use Rattle.tipc_bundle.specs.Bundles.{joined}
use Rattle.tipc_bundle.proofs.Bundling.{are_bundle, are_inside}
use Rattle.tipc_bundle.proofs.Places.{inside_once}
use Rattle.tipc_bundle.proofs.laws.joined_packets_are_split_again.Goals as goal

pub returns : goal.returns
returns c = record {
  bundle = are_bundle;
  inside = are_inside;
  alone = λ packets others inner several size h. inside_once others packets (joined packets) h (are_inside packets inner several size);
}
