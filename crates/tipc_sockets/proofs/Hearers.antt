-- The ports to which a multicast is queued rise, and each has room.
use Rattle.std.proofs.Common.{◌≡◌, ◌<◌, ℕ, Bool, true, List, [], length, refl, sym, ap, subst, ◌∙◌, arith}
use Rattle.std.specs.Prelude.{replicate, All}
use Rattle.std.specs.List.{AllPairs}
use Rattle.std.proofs.lemmas.List.Elements.{All-nil, filter_passes}
use Rattle.std.proofs.lemmas.List.Kept.{AllPairs-filter}
use Rattle.tipc_types.specs.declared.message_forms.Message.{Message}
use Rattle.tipc_types.specs.declared.message_forms.Message.TheVariants.{Payload, Items}
use Rattle.tipc_sockets.specs.Fates.{hearers_of, may_wait, spread_of}
use Rattle.tipc_sockets.specs.SocketTables.{queue_at, AreSockets, SocketTable}
use Rattle.tipc_sockets.proofs.Keeping.{and_right}

pub hearers_rise : (s : SocketTable) (arrived : Bool) (m : Message) → AreSockets s → AllPairs (λ port later. port < later) (hearers_of s arrived m)
hearers_rise s arrived (Payload importance form from to kind lower upper code droppable body) h = AllPairs-filter (λ (port later : ℕ). port < later) _ s.ports.present h.present.rising
hearers_rise s arrived (Items withdrawal items) h = λ i j d below within. absurd (omega (arith, within))

pub hearers_have_room : (s : SocketTable) (arrived : Bool) (m : Message) → All (λ port. may_wait (queue_at s port) ≡ true) (hearers_of s arrived m)
hearers_have_room s arrived (Payload importance form from to kind lower upper code droppable body) = λ k d within. and_right _ _ (filter_passes _ s.ports.present k d within)
hearers_have_room s arrived (Items withdrawal items) = All-nil (λ port. may_wait (queue_at s port) ≡ true)
