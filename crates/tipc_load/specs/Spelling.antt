-- How the lines of a load are spelled: each has its words, with single spaces between them.
use Rattle.std.specs.Prelude.{ℕ, List, [], ◌∷◌, codes}
use Rattle.std.specs.Fmt.{decimal}
use Rattle.tipc_types.specs.declared.node_calls.EventNote.{EventNote}
use Rattle.tipc_types.specs.declared.node_calls.EventNote.TheVariants as call
use Rattle.tipc_script.specs.declared.lines.Line.{Line}
use Rattle.tipc_script.specs.declared.lines.Line.TheVariants as line
use Rattle.tipc_script.specs.Spelling.{body_word, importance_word, scope_word, spaced}

-- the words of a call of a node; none of a call that no load makes
abbrev pub call_words : ℕ → EventNote → List (List ℕ)
call_words node (call.Mend bearer) = codes "mend" ∷ decimal node ∷ decimal bearer ∷ []
call_words node (call.Cut bearer) = codes "cut" ∷ decimal node ∷ decimal bearer ∷ []
call_words node call.Socket = codes "socket" ∷ decimal node ∷ []
call_words node (call.Publish port range scope key) =
    codes "publish" ∷ decimal node ∷ decimal port ∷ decimal range.kind ∷ decimal range.lower ∷ decimal range.upper ∷ scope_word scope ∷ decimal key ∷ []
call_words node (call.SendName port kind instance importance body) =
    codes "send" ∷ decimal node ∷ decimal port ∷ codes "name" ∷ decimal kind ∷ decimal instance ∷ importance_word importance ∷ body_word body ∷ []
call_words node (call.Receive port) = codes "receive" ∷ decimal node ∷ decimal port ∷ []
call_words node other = []

-- the words of a line; none of a line that no load has
abbrev pub line_words : Line → List (List ℕ)
line_words (line.Node node) = codes "node" ∷ decimal node ∷ []
line_words (line.Call node call) = call_words node call
line_words (line.Settle rounds) = codes "settle" ∷ decimal rounds ∷ []
line_words (line.Flow from to) = codes "flow" ∷ decimal from ∷ decimal to ∷ []
line_words other = []

-- how a line is spelled
abbrev pub spelling_of : Line → List ℕ
spelling_of line = spaced (line_words line)
