-- What stands behind the first word of a line: tokens of some kinds, and what they ask for.
use Rattle.std.specs.Prelude.{◌≡◌, ℕ, List, [], ◌∷◌, ◌++◌, true, false}
use Rattle.tipc_script.specs.declared.lines.Line.{Line}
use Rattle.tipc_script.specs.declared.lines.NodeToken.{NodeToken}
use Rattle.tipc_script.specs.Splitting.{Left, first_token, behind}
use Rattle.tipc_script.specs.Kinds.{Kind, NewNode, OldNode, number_of}
use Rattle.tipc_script.specs.Values.{IsValueOf, ValueOf, value_of, word_of}

-- A shape: what a line asks for, where no token is left; or a token of a kind, and the shape behind it, by the value
-- that it stands for.
pub data Shape : Type 0 where
  Ends : Line → Shape
  Token : (kind : Kind) → (ValueOf kind → Shape) → Shape

-- the shape behind tokens of these kinds, by their values
abbrev pub Behind : List Kind → Type 0
Behind [] = Shape
Behind (kind ∷ kinds) = ValueOf kind → Behind kinds

-- tokens of these kinds, and the shape behind them
abbrev pub shape_of : (kinds : List Kind) → Behind kinds → Shape
shape_of [] rest = rest
shape_of (kind ∷ kinds) rest = Token kind (λ value. shape_of kinds (rest value))

-- ---- words that are spelled

-- words are spelled in a shape, and ask for this: each is how a value of its kind is written
abbrev pub Spells : Shape → List (List ℕ) → Line → Type 0
Spells (Ends line) words wanted = (words ≡ []) × (wanted ≡ line)
Spells (Token kind rest) words wanted =
    (value : ValueOf kind) × (others : List (List ℕ)) × IsValueOf kind value × (words ≡ word_of kind value ∷ others) × Spells (rest value) others wanted

-- ---- tokens that are read

-- what the tokens that are left ask for
abbrev pub line_in : Shape → Left → Line
line_in (Ends line) left = line
line_in (Token kind rest) left = line_in (rest (value_of kind (first_token left))) (behind left)

-- the node that a token names, where something is asked of it
abbrev pub node_in : Kind → Left → List NodeToken
node_in NewNode left = record { place = left.place; node = number_of (first_token left); there = false } ∷ []
node_in OldNode left = record { place = left.place; node = number_of (first_token left); there = true } ∷ []
node_in other left = []

-- the nodes that the tokens name, from the left
abbrev pub nodes_in : Shape → Left → List NodeToken
nodes_in (Ends line) left = []
nodes_in (Token kind rest) left = node_in kind left ++ nodes_in (rest (value_of kind (first_token left))) (behind left)
