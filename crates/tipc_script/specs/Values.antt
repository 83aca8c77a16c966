-- What a token stands for, by its kind, and how that is written.
use Rattle.std.specs.Prelude.{ℕ, ◌<◌, ◌≤◌, ◌^◌, List, codes}
use Rattle.std.specs.Fmt.{decimal}
use Rattle.tipc_types.specs.declared.message_forms.Importance.{Importance}
use Rattle.tipc_types.specs.declared.services.Scope.{Scope}
use Rattle.tipc_script.specs.declared.lines.Filter.{Filter}
use Rattle.tipc_script.specs.declared.lines.SendForm.{SendForm}
use Rattle.tipc_script.specs.Kinds.{Kind, NewNode, OldNode, AnyNode, BearerNumber, AnyNumber, FrameNumber, RoundsNumber, TimesNumber, SendWord, FormWord, ScopeWord, FilterWord, ImportanceWord, BodyText, body_of, filter_of, form_of, importance_of, number_of, scope_of}
use Rattle.tipc_script.specs.Spelling.{IsBody, IsNode, IsTimes, body_word, filter_word, form_word, importance_word, scope_word}

-- the values of a kind
abbrev pub ValueOf : Kind → Type 0
ValueOf SendWord = Unit {0}
ValueOf FormWord = SendForm
ValueOf ScopeWord = Scope
ValueOf FilterWord = Filter
ValueOf ImportanceWord = Importance
ValueOf BodyText = List ℕ
ValueOf number = ℕ

-- the value that a token stands for
abbrev pub value_of : (kind : Kind) → List ℕ → ValueOf kind
value_of NewNode token = number_of token
value_of OldNode token = number_of token
value_of AnyNode token = number_of token
value_of BearerNumber token = number_of token
value_of AnyNumber token = number_of token
value_of FrameNumber token = number_of token
value_of RoundsNumber token = number_of token
value_of TimesNumber token = number_of token
value_of SendWord token = tt
value_of FormWord token = form_of token
value_of ScopeWord token = scope_of token
value_of FilterWord token = filter_of token
value_of ImportanceWord token = importance_of token
value_of BodyText token = body_of token

-- a value that a token may stand for
abbrev pub IsValueOf : (kind : Kind) → ValueOf kind → Type 0
IsValueOf NewNode n = IsNode n
IsValueOf OldNode n = IsNode n
IsValueOf AnyNode n = IsNode n
IsValueOf BearerNumber n = n ≤ 1
IsValueOf AnyNumber n = n < 2 ^ 32
IsValueOf FrameNumber n = n ≤ 1000000
IsValueOf RoundsNumber n = n ≤ 1000000
IsValueOf TimesNumber n = IsTimes n
IsValueOf SendWord value = Unit {0}
IsValueOf FormWord form = Unit {0}
IsValueOf ScopeWord scope = Unit {0}
IsValueOf FilterWord filter = Unit {0}
IsValueOf ImportanceWord importance = Unit {0}
IsValueOf BodyText body = IsBody body

-- the token that a value is written as
abbrev pub word_of : (kind : Kind) → ValueOf kind → List ℕ
word_of NewNode n = decimal n
word_of OldNode n = decimal n
word_of AnyNode n = decimal n
word_of BearerNumber n = decimal n
word_of AnyNumber n = decimal n
word_of FrameNumber n = decimal n
word_of RoundsNumber n = decimal n
word_of TimesNumber n = decimal n
word_of SendWord value = codes "send"
word_of FormWord form = form_word form
word_of ScopeWord scope = scope_word scope
word_of FilterWord filter = filter_word filter
word_of ImportanceWord importance = importance_word importance
word_of BodyText body = body_word body
