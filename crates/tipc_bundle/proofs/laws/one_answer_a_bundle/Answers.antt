use Rattle.tipc_bundle.proofs.Places.{bad_place_once, inside_once, inside_or_bad}
use Rattle.tipc_bundle.proofs.laws.one_answer_a_bundle.Goals as goal

pub returns : goal.returns
returns c = record {
  packets = λ bundle packets others. inside_once packets others bundle;
  place = bad_place_once;
  apart = λ bundle packets place. inside_or_bad packets bundle place;
}
