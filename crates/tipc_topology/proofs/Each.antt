-- A loop over a list that changes one element after another.
use Rattle.std.proofs.Common.{◌++◌, ℕ, List, map, take, drop}

-- the first n elements as f makes them, and the others as they were
abbrev pub stepped : {A : Type 0} → (A → A) → ℕ → List A → List A
stepped f n xs = map f (take n xs) ++ drop n xs
