-- The first fault of a line from the left: its byte place from 1, and why.
use Rattle.std.specs.Prelude.{◌≡◌, ℕ, Bool, true, if◌then◌else◌, List, [], ◌∷◌, Option, Some, None, Result, Ok, Err, IfOk}
use Rattle.std.specs.Option.{option_or}
use Rattle.tipc_script.specs.declared.faults.LineWhy.{LineWhy}
use Rattle.tipc_script.specs.declared.faults.LineWhy.TheVariants as why
use Rattle.tipc_script.specs.declared.faults.LineFault.{LineFault}
use Rattle.tipc_script.specs.declared.faults.LineFault.TheVariants as faults
use Rattle.tipc_script.specs.declared.lines.Line.{Line}
use Rattle.tipc_script.specs.declared.lines.Command.{Command}
use Rattle.tipc_script.specs.Splitting.{Left, whole, first_token, behind}
use Rattle.tipc_script.specs.Kinds.{Kind, NewNode, OldNode, AnyNode, BearerNumber, AnyNumber, FrameNumber, RoundsNumber, TimesNumber, SendWord, FormWord, ScopeWord, FilterWord, ImportanceWord, BodyText, takes, is_remark}
use Rattle.tipc_script.specs.Values.{value_of}
use Rattle.tipc_script.specs.Shapes.{Ends, Shape, Token, line_in, nodes_in}
use Rattle.tipc_script.specs.Grammar.{Row, asked_by, nodes_by, row_of}

-- a fault: the byte place in the line, from 1, and why
abbrev pub Fault : Type 0
Fault = ℕ × LineWhy

-- why a token that isn't of a kind is refused
abbrev pub why_not : Kind → LineWhy
why_not NewNode = why.Number
why_not OldNode = why.Number
why_not AnyNode = why.Number
why_not BearerNumber = why.Number
why_not AnyNumber = why.Number
why_not FrameNumber = why.Number
why_not RoundsNumber = why.Number
why_not TimesNumber = why.Number
why_not SendWord = why.Command
why_not FormWord = why.Word
why_not ScopeWord = why.Word
why_not FilterWord = why.Word
why_not ImportanceWord = why.Word
why_not BodyText = why.Body

-- the fault of the first of these tokens against a test: at its place where it doesn't pass, and at the end of the line
-- where there is no token
abbrev pub fault_among : List (List ℕ) → (List ℕ → Bool) → LineWhy → ℕ → ℕ → Option Fault
fault_among [] test reason place end = Some (end, why.End)
fault_among (token ∷ tokens) test reason place end = if test token then None else Some (place, reason)

-- the fault of the first token that is left: it is missing, or doesn't pass a test
unfoldable pub first_fault : (List ℕ → Bool) → LineWhy → Left → Option Fault
first_fault test reason left = fault_among left.tokens test reason left.place left.end

-- no token is left
unfoldable pub missing_fault : Left → Option Fault
missing_fault left = fault_among left.tokens (λ token. true) why.End left.place left.end

-- a token is left where none should be
abbrev pub more_fault : List (List ℕ) → ℕ → Option Fault
more_fault [] place = None
more_fault (token ∷ tokens) place = Some (place, why.End)

-- the fault of a line that should be over: a token is left
unfoldable pub end_fault : Left → Option Fault
end_fault left = more_fault left.tokens left.place

-- the first fault of the tokens that are left, which have to be of this shape and no more
abbrev pub fault_in : Shape → Left → Option Fault
fault_in (Ends line) left = end_fault left
fault_in (Token kind rest) left =
    option_or (first_fault (takes kind) (why_not kind) left) (fault_in (rest (value_of kind (first_token left))) (behind left))

-- the same behind the first word of a row
unfoldable pub row_fault : Row → Left → Option Fault
row_fault row left = fault_in row.shape left

-- the fault of what stands behind the first word; a first word that has no row is the fault itself, at place 1
abbrev pub fault_by : Option Row → Left → Option Fault
fault_by None left = Some (1, why.Command)
fault_by (Some row) left = row_fault row left

-- the first fault of a line
unfoldable pub fault_of : List ℕ → Option Fault
fault_of text = if is_remark text then None else fault_by (row_of (first_token (whole text))) (behind (whole text))

-- what a function that takes no memory answered tells this fault
abbrev pub TellsAlways : {A : Type 0} → Result A LineFault → Option Fault → Type 0
TellsAlways (Ok x) fault = fault ≡ None
TellsAlways (Err (faults.BadLine place reason)) fault = fault ≡ Some (place, reason)
TellsAlways (Err faults.NoMemory) fault = ⊥

-- what a function answered tells this fault, unless memory ran out
abbrev pub Tells : {A : Type 0} → Result A LineFault → Option Fault → Type 0
Tells (Ok x) fault = fault ≡ None
Tells (Err (faults.BadLine place reason)) fault = fault ≡ Some (place, reason)
Tells (Err faults.NoMemory) fault = Unit {0}

-- the answer is the command of this line, unless memory ran out
abbrev pub Reads : Result Command LineFault → Line → Type 0
Reads (Ok command) wanted = command.line ≡ wanted
Reads (Err (faults.BadLine place reason)) wanted = ⊥
Reads (Err faults.NoMemory) wanted = Unit {0}

-- The answer is what the tokens behind the first word of a row ask for: their line and the nodes of which it asks
-- something; or it tells their first fault.
abbrev pub IsRead : Row → Left → Result Command LineFault → Type 0
IsRead row left result =
    Tells result (row_fault row left) × IfOk result (λ c. (c.line ≡ line_in row.shape left) × (c.nodes ≡ nodes_in row.shape left))

-- likewise behind a first word, which may have no row
abbrev pub IsReadBy : Option Row → Left → Result Command LineFault → Type 0
IsReadBy row left result =
    Tells result (fault_by row left) × IfOk result (λ c. (c.line ≡ asked_by row left) × (c.nodes ≡ nodes_by row left))
