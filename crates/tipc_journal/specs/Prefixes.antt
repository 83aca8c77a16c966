-- Lists that grow at the end, and what holds of each element behind those before it.
use Rattle.std.specs.Prelude.{List, [], ◌∷◌, ◌++◌, Option, Some, None}

-- the list, and behind it the item where there is one
abbrev pub list_with : {A : Type 0} → List A → Option A → List A
list_with xs None = xs
list_with xs (Some x) = xs ++ x ∷ []

-- what each entry of the later part of a list gives, told what stands before it
abbrev pub each_behind : {A B : Type 0} → (List A → A → List B) → List A → List A → List B
each_behind f before [] = []
each_behind f before (x ∷ xs) = f before x ++ each_behind f (before ++ x ∷ []) xs

-- each element of the later part of a list is as it has to be behind what stands before it
abbrev pub AllBehind : {A : Type 0} → (List A → A → Type 0) → List A → List A → Type 0
AllBehind P before [] = Unit {0}
AllBehind P before (x ∷ xs) = P before x × AllBehind P (before ++ x ∷ []) xs
