-- Fronts of lists.
use Rattle.std.proofs.Common.{List, ◌++◌, append_assoc, ◌∙◌, ap}
use Rattle.tipc_types.specs.Prefixes.{IsPrefixOf}

-- it stays a prefix when the longer list grows
pub IsPrefixOf_grows : {A : Type 0} (xs ys more : List A) → IsPrefixOf xs ys → IsPrefixOf xs (ys ++ more)
IsPrefixOf_grows xs ys more front =
    (front.0 ++ more, ap (λ w. w ++ more) front.1 ∙ append_assoc xs front.0 more)
