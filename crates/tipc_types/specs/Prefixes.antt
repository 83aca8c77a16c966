-- When one list is the first part of another.
use Rattle.std.specs.Prelude.{◌≡◌, List, ◌++◌}

-- xs is a prefix of ys: ys is xs and then some rest
abbrev pub IsPrefixOf : {A : Type 0} → List A → List A → Type 0
IsPrefixOf {A} xs ys = (rest : List A) × (ys ≡ xs ++ rest)
