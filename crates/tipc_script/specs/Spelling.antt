-- The words of a line, by what they stand for, and which numbers and bodies there are.
use Rattle.std.specs.Prelude.{◌≡◌, ℕ, ◌≤◌, ◌⊎◌, if◌then◌else◌, List, [], ◌∷◌, length, codes}
use Rattle.std.specs.List.{join_with_byte, All}
use Rattle.std.specs.Fmt.{decimal}
use Rattle.tipc_types.specs.declared.identity.PortId.{PortId}
use Rattle.tipc_types.specs.declared.message_forms.Importance.{Importance}
use Rattle.tipc_types.specs.declared.message_forms.Importance.TheVariants.{Low, Medium, High, Critical}
use Rattle.tipc_types.specs.Address.{node_word}
use Rattle.tipc_types.specs.declared.services.Scope.{Scope}
use Rattle.tipc_types.specs.declared.services.Scope.TheVariants as scope
use Rattle.tipc_script.specs.declared.lines.Filter.{Filter}
use Rattle.tipc_script.specs.declared.lines.Filter.TheVariants as filter
use Rattle.tipc_script.specs.declared.lines.SendForm.{SendForm}
use Rattle.tipc_script.specs.declared.lines.SendForm.TheVariants as form
use Rattle.tipc_script.specs.Kinds.{is_visible, pattern}

-- words with single spaces between them
abbrev pub spaced : List (List ℕ) → List ℕ
spaced words = join_with_byte 32 words

-- the word for an importance
abbrev pub importance_word : Importance → List ℕ
importance_word Low = codes "low"
importance_word Medium = codes "medium"
importance_word High = codes "high"
importance_word Critical = codes "critical"

-- the word for a scope
abbrev pub scope_word : Scope → List ℕ
scope_word scope.Zone = codes "zone"
scope_word scope.Cluster = codes "cluster"
scope_word scope.Node = codes "node"

-- the word for a filter of subscriptions
abbrev pub filter_word : Filter → List ℕ
filter_word filter.Ports = codes "ports"
filter_word filter.Service = codes "service"

-- the word for a form of destinations
abbrev pub form_word : SendForm → List ℕ
form_word form.Name = codes "name"
form_word form.Port = codes "port"
form_word form.Cast = codes "cast"

-- a port of a node
abbrev pub port_at : ℕ → ℕ → PortId
port_at node port = record { node = record { word = node_word node }; port = port }

-- a body as it is written: characters behind `=`, and the pattern, whose first byte is no character, by its length
-- behind `*`
abbrev pub body_word : List ℕ → List ℕ
body_word [] = 42 ∷ decimal 0
body_word (byte ∷ bytes) = if is_visible byte then 61 ∷ byte ∷ bytes else 42 ∷ decimal (length (byte ∷ bytes))

-- the number of a node, 1 to 32
abbrev pub IsNode : ℕ → Type 0
IsNode n = (1 ≤ n) × (n ≤ 32)

-- how many times something is done again
abbrev pub IsTimes : ℕ → Type 0
IsTimes times = (1 ≤ times) × (times ≤ 1000000)

-- 1 to 64 characters
abbrev pub IsText : List ℕ → Type 0
IsText body = (1 ≤ length body) × (length body ≤ 64) × All (λ byte. (33 ≤ byte) × (byte ≤ 126)) body

-- up to 70,000 bytes of the pattern
abbrev pub IsPattern : List ℕ → Type 0
IsPattern body = (length body ≤ 70000) × (body ≡ pattern (length body))

-- a body that a line can tell: characters, or the pattern
abbrev pub IsBody : List ℕ → Type 0
IsBody body = IsText body ⊎ IsPattern body
