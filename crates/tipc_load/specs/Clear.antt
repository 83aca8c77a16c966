-- What makes the lines of a generated script sound.
use Rattle.std.specs.Prelude.{◌≡◌, ℕ, ◌<◌, ◌≤◌, ◌==◌, Bool, true, not, List, None, length}
use Rattle.std.specs.List.{All, list_all}
use Rattle.tipc_script.specs.declared.lines.NodeToken.{NodeToken}
use Rattle.tipc_script.specs.Grammar.{nodes_of}
use Rattle.tipc_script.specs.Faults.{fault_of}

-- one of the four nodes, by its number
abbrev pub IsOfFour : ℕ → Type 0
IsOfFour node = (1 ≤ node) × (node ≤ 4)

-- a token asks that one of the four nodes is there
abbrev pub AsksForOne : NodeToken → Type 0
AsksForOne token = (token.there ≡ true) × IsOfFour token.node

-- a text is a line without fault, and asks of nodes 1 to 4 alone that they are there
pub record IsClear (text : List ℕ) : Type 0 where
  pub fault : fault_of text ≡ None
  pub nodes : All AsksForOne (nodes_of text)

-- no byte is a newline
abbrev pub has_no_newline : List ℕ → Bool
has_no_newline text = list_all (λ byte. not (byte == 10)) text

-- a text is one line: it has a byte or more, at most 128, and no newline
pub record IsOneLine (text : List ℕ) : Type 0 where
  pub some : 0 < length text
  pub short : length text ≤ 128
  pub whole : has_no_newline text ≡ true
