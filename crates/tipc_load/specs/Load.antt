-- Generated load: the script that a number stands for.
use Rattle.std.specs.Prelude.{ℕ, ◌+◌, ◌*◌, ◌/◌, ◌%◌, ◌^◌, ◌==◌, nat_le, if◌then◌else◌, zero, suc, not, List, [], ◌∷◌, ◌++◌, map, filter}
use Rattle.std.specs.List.{flat_map}
use Rattle.tipc_types.specs.declared.message_forms.Importance.TheVariants as importance
use Rattle.tipc_types.specs.declared.node_calls.EventNote.TheVariants as call
use Rattle.tipc_types.specs.declared.services.Scope.TheVariants as scope
use Rattle.tipc_script.specs.declared.lines.Line.{Line}
use Rattle.tipc_script.specs.declared.lines.Line.TheVariants as line
use Rattle.tipc_script.specs.Kinds.{pattern}
use Rattle.tipc_script.specs.Grammar.{offering}
use Rattle.tipc_load.specs.Spelling.{spelling_of}

-- the numbers from 1 to 4, and to 5
abbrev pub to_four : List ℕ
to_four = 1 ∷ 2 ∷ 3 ∷ 4 ∷ []

abbrev pub to_five : List ℕ
to_five = 1 ∷ 2 ∷ 3 ∷ 4 ∷ 5 ∷ []

-- for each of the four nodes, these lines
abbrev pub for_each_node : (ℕ → List Line) → List Line
for_each_node lines = flat_map lines to_four

-- the first lines: the four nodes come in
abbrev pub first_nodes : List Line
first_nodes = map (λ node. line.Node node) to_four

-- both bearers of a node are mended
abbrev pub mends : ℕ → List Line
mends node = line.Call node (call.Mend 0) ∷ line.Call node (call.Mend 1) ∷ []

-- the service that a node offers, at its first socket
abbrev pub service_of : ℕ → ℕ
service_of node = 1000 + node

-- its five instances, each as a publication of its own
abbrev pub offers : ℕ → List Line
offers node = map (λ instance. line.Call node (offering 1 (service_of node) instance instance scope.Cluster instance)) to_five

-- the lines before the drawn ones
unfoldable pub opening : List Line
opening =
    first_nodes ++ (for_each_node mends ++ (line.Settle 12 ∷ (map (λ node. line.Call node call.Socket) to_four ++ (for_each_node offers ++ (line.Settle 12 ∷ [])))))

-- the state behind another
abbrev pub next_state : ℕ → ℕ
next_state state = (state * 6364136223846793005 + 1442695040888963407) % 2 ^ 64

-- the number that is drawn at a state
abbrev pub drawn : ℕ → ℕ
drawn state = state / 2 ^ 33

-- The line that a drawn number stands for. Its parts tell what is done, a node, the node whose service is meant and
-- which instance of it, a bearer, and how many bytes are sent.
abbrev pub drawn_line : ℕ → Line
drawn_line number =
    let node = 1 + number / 16 % 4 in
    let bearer = number / 2048 % 2 in
    let what = number % 16 in
    if nat_le what 8
    then line.Call node (call.SendName 1 (service_of (1 + number / 64 % 4)) (1 + number / 256 % 5) importance.Low (pattern (number / 4096 % 3000)))
    else (if nat_le what 11 then line.Call node (call.Receive 1)
    else (if nat_le what 13 then line.Settle 1 else (if what == 14 then line.Call node (call.Cut bearer) else line.Call node (call.Mend bearer))))

-- the state behind so many draws
unfoldable pub state_after : ℕ → ℕ → ℕ
state_after zero seed = seed
state_after (suc count) seed = next_state (state_after count seed)

-- so many drawn lines
unfoldable pub drawn_lines : ℕ → ℕ → List Line
drawn_lines zero seed = []
drawn_lines (suc count) seed = drawn_lines count seed ++ drawn_line (drawn (state_after (suc count) seed)) ∷ []

-- the other three of the four nodes
abbrev pub others : ℕ → List ℕ
others node = filter (λ other. not (other == node)) to_four

-- how many messages went from a node to each other
abbrev pub flows : ℕ → List Line
flows node = map (λ other. line.Flow node other) (others node)

-- the lines behind the drawn ones
unfoldable pub closing : List Line
closing = for_each_node mends ++ (line.Settle 40 ∷ line.Settle 400 ∷ for_each_node flows)

-- the lines that a number stands for
abbrev pub generated_lines : ℕ → List Line
generated_lines seed = opening ++ (drawn_lines 1000 seed ++ closing)

-- a line and its newline
abbrev pub line_text : Line → List ℕ
line_text line = spelling_of line ++ 10 ∷ []

-- the script that a number stands for
unfoldable pub generated : ℕ → List ℕ
generated seed = flat_map line_text (generated_lines seed)
