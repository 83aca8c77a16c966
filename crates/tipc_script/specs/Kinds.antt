-- What a token of a line may have to be, and which tokens are so.
use Rattle.std.specs.Prelude.{ℕ, ◌==◌, nat_le, Bool, true, false, not, ◌&&◌, ◌||◌, ◌%◌, if◌then◌else◌, List, [], ◌∷◌, length, drop, map, codes, Option, Some, None, is_some, unwrap_or}
use Rattle.std.specs.List.{list_all, range_with_len}
use Rattle.std.specs.Str.{bytes_eq}
use Rattle.std.specs.Str.Parse.{digits_value}
use Rattle.std.specs.Fmt.{decimal}
use Rattle.tipc_types.specs.declared.message_forms.Importance.{Importance}
use Rattle.tipc_types.specs.declared.message_forms.Importance.TheVariants.{Low, Medium, High, Critical}
use Rattle.tipc_types.specs.declared.services.Scope.{Scope}
use Rattle.tipc_types.specs.declared.services.Scope.TheVariants as scope
use Rattle.tipc_script.specs.declared.lines.Filter.{Filter}
use Rattle.tipc_script.specs.declared.lines.Filter.TheVariants as filter
use Rattle.tipc_script.specs.declared.lines.SendForm.{SendForm}
use Rattle.tipc_script.specs.declared.lines.SendForm.TheVariants as form

-- what a token may have to be
pub data Kind : Type 0 where
  NewNode : Kind  -- the number of a node that isn't there yet
  OldNode : Kind  -- the number of a node that is there
  AnyNode : Kind  -- the number of a node of which nothing is asked
  BearerNumber : Kind
  AnyNumber : Kind  -- a number below 2 ^ 32: a port, a service type, an instance, a key, a timeout or a subscription
  FrameNumber : Kind
  RoundsNumber : Kind
  TimesNumber : Kind
  SendWord : Kind
  FormWord : Kind
  ScopeWord : Kind
  FilterWord : Kind
  ImportanceWord : Kind
  BodyText : Kind

-- the number that the digits of a token stand for
abbrev pub number_of : List ℕ → ℕ
number_of token = digits_value 10 token

-- a token is a number from low to high: it is spelled as that number is, without sign or leading zero
unfoldable pub is_number : ℕ → ℕ → List ℕ → Bool
is_number low high token = bytes_eq token (decimal (number_of token)) && nat_le low (number_of token) && nat_le (number_of token) high

-- a visible character: one that may stand in a body that is written out
abbrev pub is_visible : ℕ → Bool
is_visible byte = nat_le 33 byte && nat_le byte 126

-- a body that is written out: `=` and 1 to 64 characters
unfoldable pub is_text : List ℕ → Bool
is_text [] = false
is_text (sign ∷ text) = sign == 61 && nat_le 1 (length text) && nat_le (length text) 64 && list_all is_visible text

-- a body of the pattern: `*` and how many bytes it has
unfoldable pub is_count : List ℕ → Bool
is_count [] = false
is_count (sign ∷ digits) = sign == 42 && is_number 0 70000 digits

-- whether a token is a body, in either spelling
abbrev pub is_body : List ℕ → Bool
is_body token = is_text token || is_count token

-- the first bytes of the pattern: byte i, from 0, is i modulo 251
unfoldable pub pattern : ℕ → List ℕ
pattern count = map (λ i. i % 251) (range_with_len 0 count)

-- the bytes that a body stands for
unfoldable pub body_of : List ℕ → List ℕ
body_of token = if is_count token then pattern (number_of (drop 1 token)) else drop 1 token

-- the importance that a token is
unfoldable pub importance_in : List ℕ → Option Importance
importance_in token =
    if bytes_eq token (codes "low") then Some Low
    else (if bytes_eq token (codes "medium") then Some Medium else (if bytes_eq token (codes "high") then Some High else (if bytes_eq token (codes "critical") then Some Critical else None)))

-- whether a token is an importance
abbrev pub is_importance : List ℕ → Bool
is_importance token = is_some (importance_in token)

-- the importance that a token stands for
abbrev pub importance_of : List ℕ → Importance
importance_of token = unwrap_or (importance_in token) Low

-- the scope that a token is
unfoldable pub scope_in : List ℕ → Option Scope
scope_in token =
    if bytes_eq token (codes "zone") then Some scope.Zone
    else (if bytes_eq token (codes "cluster") then Some scope.Cluster else (if bytes_eq token (codes "node") then Some scope.Node else None))

-- whether a token is a scope
abbrev pub is_scope : List ℕ → Bool
is_scope token = is_some (scope_in token)

-- the scope that a token stands for
abbrev pub scope_of : List ℕ → Scope
scope_of token = unwrap_or (scope_in token) scope.Zone

-- the filter that a token is
unfoldable pub filter_in : List ℕ → Option Filter
filter_in token = if bytes_eq token (codes "ports") then Some filter.Ports else (if bytes_eq token (codes "service") then Some filter.Service else None)

-- whether a token is a filter
abbrev pub is_filter : List ℕ → Bool
is_filter token = is_some (filter_in token)

-- the filter that a token stands for
abbrev pub filter_of : List ℕ → Filter
filter_of token = unwrap_or (filter_in token) filter.Ports

-- the form of a destination that a token is
unfoldable pub form_in : List ℕ → Option SendForm
form_in token =
    if bytes_eq token (codes "name") then Some form.Name
    else (if bytes_eq token (codes "port") then Some form.Port else (if bytes_eq token (codes "cast") then Some form.Cast else None))

-- whether a token is the word that tells the form of a destination
abbrev pub is_form : List ℕ → Bool
is_form token = is_some (form_in token)

-- the form of a destination that a token stands for
abbrev pub form_of : List ℕ → SendForm
form_of token = unwrap_or (form_in token) form.Port

-- whether a token is of a kind
abbrev pub takes : Kind → List ℕ → Bool
takes NewNode token = is_number 1 32 token
takes OldNode token = is_number 1 32 token
takes AnyNode token = is_number 1 32 token
takes BearerNumber token = is_number 0 1 token
takes AnyNumber token = is_number 0 4294967295 token
takes FrameNumber token = is_number 0 1000000 token
takes RoundsNumber token = is_number 0 1000000 token
takes TimesNumber token = is_number 1 1000000 token
takes SendWord token = bytes_eq token (codes "send")
takes FormWord token = is_form token
takes ScopeWord token = is_scope token
takes FilterWord token = is_filter token
takes ImportanceWord token = is_importance token
takes BodyText token = is_body token

-- an empty line and a line that begins with `#` are done as nothing
abbrev pub is_remark : List ℕ → Bool
is_remark [] = true
is_remark (byte ∷ bytes) = byte == 35

-- a digit or more, and no zero in front of others
abbrev pub has_plain_front : List ℕ → Bool
has_plain_front [] = false
has_plain_front (byte ∷ []) = true
has_plain_front (byte ∷ next ∷ bytes) = not (byte == 48)
