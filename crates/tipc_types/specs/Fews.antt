-- Lists that mostly have one value.
use Rattle.std.specs.Prelude.{List, [], ◌∷◌}
use Rattle.tipc_types.specs.declared.few.HeldValues.{HeldValues}
use Rattle.tipc_types.specs.declared.few.HeldValues.TheVariants.{Nothing, One, Several}

-- the values that are held, in order
abbrev pub values_of : {A : Type 0} → HeldValues A → List A
values_of Nothing = []
values_of (One value) = value ∷ []
values_of (Several values) = values.items
