-- Two answers, or two entries, are the same where the derived test says so.
use Rattle.std.specs.Option.{option_eq}
use Rattle.std.specs.Prelude.{Option, Some, None}
use Rattle.std.proofs.Common.{rules, ℕ, true, false, eqb, refl}
use Rattle.std.proofs.lemmas.Bool.Decides.{Decides-eqb as number}
use Rattle.std.proofs.lemmas.Slice.Eq.{bytes_eq-Decides as bytes, slice_eq-Decides}
use Rattle.tipc_types.specs.contracts.identity.AddrPartialEq.TheImpl.{ghosts as addr}
use Rattle.tipc_types.specs.contracts.identity.PortIdPartialEq.TheImpl.{ghosts as port}
use Rattle.tipc_types.specs.contracts.link_words.CausePartialEq.TheImpl.{ghosts as cause}
use Rattle.tipc_types.specs.contracts.link_words.LinkStatePartialEq.TheImpl.{ghosts as link}
use Rattle.tipc_types.specs.contracts.message_forms.FlowPartialEq.TheImpl.{ghosts as flow}
use Rattle.tipc_types.specs.contracts.message_forms.FormPartialEq.TheImpl.{ghosts as form}
use Rattle.tipc_types.specs.contracts.message_forms.ImportancePartialEq.TheImpl.{ghosts as importance}
use Rattle.tipc_types.specs.contracts.message_forms.ItemPartialEq.TheImpl.{ghosts as item}
use Rattle.tipc_types.specs.contracts.message_forms.Message as message_type
use Rattle.tipc_types.specs.contracts.message_forms.MessagePartialEq.TheImpl.{ghosts as message}
use Rattle.tipc_types.specs.contracts.node_calls.Answer as answer_type
use Rattle.tipc_types.specs.contracts.node_calls.AnswerPartialEq.TheImpl.{ghosts as answered}
use Rattle.tipc_types.specs.contracts.node_calls.ArrivalPartialEq.TheImpl.{ghosts as arrival}
use Rattle.tipc_types.specs.contracts.node_calls.ByPartialEq.TheImpl.{ghosts as maker}
use Rattle.tipc_types.specs.contracts.node_calls.EventPartialEq.TheImpl.{ghosts as event}
use Rattle.tipc_types.specs.contracts.node_calls.EventNote as call_type
use Rattle.tipc_types.specs.contracts.node_calls.EventNotePartialEq.TheImpl.{ghosts as call}
use Rattle.tipc_types.specs.contracts.node_calls.SubscriptionPartialEq.TheImpl.{ghosts as subscription}
use Rattle.tipc_types.specs.contracts.services.ServiceRangePartialEq.TheImpl.{ghosts as range}
use Rattle.tipc_types.specs.contracts.services.ScopePartialEq.TheImpl.{ghosts as scope}
use Rattle.tipc_types.specs.contracts.services.PublicationPartialEq.TheImpl.{ghosts as publication}
use Rattle.tipc_journal.specs.contracts.entries.Entry as entry_type
use Rattle.tipc_journal.specs.contracts.entries.EntryPartialEq.TheImpl.{ghosts as entry}
use Rattle.tipc_live.proofs.Variants.{Tells, ◌▸◌, ◌⊗◌, enum_tells, last, none}
use mathlib.Core.Bool.{beq, ◌&&◌}

-- ---- the parts

bool_tells : Tells beq
bool_tells true true = search rules
bool_tells true false = search rules
bool_tells false true = search rules
bool_tells false false = search rules

pair_tells : Tells {A = ℕ × ℕ} (λ x y. eqb x.0 y.0 && eqb x.1 y.1)
pair_tells x y = search rules

addr_tells : Tells addr.eq
addr_tells x y = search rules

port_tells : Tells port.eq
port_tells x y = search rules

flow_tells : Tells flow.eq
flow_tells x y = search rules

cause_tells : Tells cause.eq
cause_tells x y = search rules

may_tell : Tells (option_eq link.eq)
may_tell None None = search rules
may_tell None (Some y) = search rules
may_tell (Some x) None = search rules
may_tell (Some x) (Some y) = search rules

states_tell : Tells {A = Option _ × Option _} (λ x y. option_eq link.eq x.0 y.0 && option_eq link.eq x.1 y.1)
states_tell x y = search (rules, may_tell)

item_tells : Tells item.eq
item_tells x y = search rules

importance_tells : Tells importance.eq
importance_tells x y = search rules

form_tells : Tells form.eq
form_tells x y = search rules

event_tells : Tells event.eq
event_tells x y = search rules

arrival_tells : Tells arrival.eq
arrival_tells x y = search rules

maker_tells : Tells maker.eq
maker_tells x y = search rules

subscription_tells : Tells subscription.eq
subscription_tells x y = search rules

range_tells : Tells range.eq
range_tells x y = search rules

scope_tells : Tells scope.eq
scope_tells x y = search rules

call_tells : Tells call.eq
call_tells = enum_tells call_type.enum call.eq (λ x y. refl) (
    none
    ▸ last number
    ▸ (number ⊗ range_tells ⊗ scope_tells ⊗ last number)
    ▸ (number ⊗ last number)
    ▸ (number ⊗ number ⊗ number ⊗ importance_tells ⊗ last bytes)
    ▸ (number ⊗ port_tells ⊗ importance_tells ⊗ last bytes)
    ▸ (number ⊗ number ⊗ number ⊗ number ⊗ importance_tells ⊗ last bytes)
    ▸ last number
    ▸ last subscription_tells
    ▸ last number
    ▸ last number
    ▸ (number ⊗ last number)
    ▸ none
    ▸ last number
    ▸ last number
    ▸ tt
    )

publication_tells : Tells publication.eq
publication_tells x y = search rules

message_tells : Tells message.eq
message_tells = enum_tells message_type.enum message.eq (λ x y. refl) (
    (importance_tells ⊗ form_tells ⊗ port_tells ⊗ port_tells ⊗ number ⊗ number ⊗ number ⊗ number ⊗ bool_tells ⊗ last bytes)
    ▸ (bool_tells ⊗ last (λ x y. slice_eq-Decides item_tells x y _ refl))
    ▸ tt
    )

-- ---- answers and entries

pub answer_tells : Tells answered.eq
answer_tells = enum_tells answer_type.enum answered.eq (λ x y. refl) (
    none
    ▸ last number
    ▸ last port_tells
    ▸ none
    ▸ last message_tells
    ▸ none
    ▸ none
    ▸ last number
    ▸ last event_tells
    ▸ none
    ▸ last arrival_tells
    ▸ last number
    ▸ none
    ▸ none
    ▸ last number
    ▸ none
    ▸ none
    ▸ none
    ▸ none
    ▸ (number ⊗ last number)
    ▸ (number ⊗ last number)
    ▸ none
    ▸ last number
    ▸ last number
    ▸ none
    ▸ tt
    )

pub entry_tells : Tells entry.eq
entry_tells = enum_tells entry_type.enum entry.eq (λ x y. refl) (
    (maker_tells ⊗ last call_tells)
    ▸ (addr_tells ⊗ pair_tells ⊗ flow_tells ⊗ last message_tells)
    ▸ (addr_tells ⊗ pair_tells ⊗ flow_tells ⊗ message_tells ⊗ last bytes)
    ▸ last publication_tells
    ▸ last publication_tells
    ▸ last publication_tells
    ▸ last publication_tells
    ▸ (addr_tells ⊗ number ⊗ number ⊗ last number)
    ▸ (addr_tells ⊗ number ⊗ cause_tells ⊗ last number)
    ▸ (addr_tells ⊗ last pair_tells)
    ▸ (addr_tells ⊗ pair_tells ⊗ states_tell ⊗ last number)
    ▸ last bytes
    ▸ last number
    ▸ last number
    ▸ last number
    ▸ (number ⊗ last subscription_tells)
    ▸ last number
    ▸ last number
    ▸ (number ⊗ number ⊗ last answer_tells)
    ▸ tt
    )
