-- A message that surely waits at its port is queued there, and still does behind another.
use Rattle.std.proofs.lemmas.Bool.Decides.{eqb_tells, nat_tests}
use Rattle.std.proofs.Common.{◌≡◌, inl, inr, ℕ, ◌+◌, ◌≤◌, Bool, true, false, not, ◌&&◌, List, [], ◌∷◌, ◌++◌, length, Option, None, Some, if◌then◌else◌, refl, sym, ap, ◌∙◌, arith, length-append}
use Rattle.std.specs.Prelude.{nat_eq, nat_le, option_map, unwrap_or}
use Rattle.std.specs.Map.{lookup}
use Rattle.tipc_types.specs.declared.message_forms.Form.TheVariants.{Connected, Direct, Multicast, Named}
use Rattle.tipc_types.specs.declared.message_forms.Message.{Message}
use Rattle.tipc_types.specs.declared.message_forms.Message.TheVariants.{Payload, Items}
use Rattle.tipc_journal.specs.Fates.{inbox_size, no_name}
use Rattle.tipc_sockets.specs.declared.fates.Fate.TheVariants.{Queued}
use Rattle.tipc_sockets.specs.Fates.{fate, has_places, is_offered, one_port_fate, port_of, refusal, room_refusal, surely_waits, with_waiting}
use Rattle.tipc_sockets.specs.SocketTables.{queue_at, queued, SocketTable}
use Rattle.tipc_sockets.proofs.FatesTold.{lookup_here, appended}
use Rattle.tipc_sockets.proofs.Keeping.{lookup_elsewhere}

-- ---- places

-- where more messages have places, one has room
room_in : (count : ℕ) (found : Option (List Message)) → 1 ≤ count → has_places count found ≡ true → room_refusal found ≡ None
room_in count None some h = absurd cc
room_in count (Some waiting) some h = grind (arith, nat_tests)

behind_one : (count : ℕ) (found : Option (List Message)) (m : Message) → has_places (count + 1) found ≡ true → has_places count (option_map (λ (ms : List Message). ms ++ m ∷ []) found) ≡ true
behind_one count None m h = h
behind_one count (Some ms) m h =
    let more = length-append ms (m ∷ []) in
    let same : length (ms ++ m ∷ []) + count ≡ length ms + (count + 1) = omega (arith, more) in
    ap (λ n. nat_le n inbox_size) same ∙ h

fewer : (count few : ℕ) (found : Option (List Message)) → few ≤ count → has_places count found ≡ true → has_places few found ≡ true
fewer count few None within h = h
fewer count few (Some ms) within h = grind (arith, nat_tests, within)

-- one place fewer is needed where a message waits that came before
places_behind : (count port p : ℕ) (queues : List (ℕ × List Message)) (m : Message) → has_places (count + 1) (lookup (nat_eq port) queues) ≡ true → has_places count (lookup (nat_eq port) (queued m queues p)) ≡ true
places_behind count port p queues m h = elim (eqb_tells p port) as (λ _. has_places count (lookup (nat_eq port) (queued m queues p)) ≡ true) [
  | inl e ↦
      let here : lookup (nat_eq port) (queued m queues p) ≡ option_map (λ (ms : List Message). ms ++ m ∷ []) (lookup (nat_eq port) queues) =
      ap (λ (n : ℕ). lookup (nat_eq port) (queued m queues n)) e.1 ∙ lookup_here port queues (unwrap_or (lookup (nat_eq port) queues) [] ++ m ∷ []) ∙ appended (lookup (nat_eq port) queues) m in
      ap (has_places count) here ∙ behind_one count (lookup (nat_eq port) queues) m h
  | inr e ↦ ap (has_places count) (lookup_elsewhere p port queues _ (λ f. e.1 (sym f))) ∙ fewer (count + 1) count (lookup (nat_eq port) queues) (omega arith) h
]

-- ---- the message

and_both : (a b c : Bool) → (b ≡ true → c ≡ true) → (a && b) ≡ true → (a && c) ≡ true
and_both true b c goes h = goes h
and_both false b c goes h = h

pub waits_behind : (s : SocketTable) (count : ℕ) (m other : Message) → surely_waits s (count + 1) m ≡ true → surely_waits (with_waiting s other) count m ≡ true
waits_behind s count (Payload importance Connected from to kind lower upper code droppable body) other h = h
waits_behind s count (Payload importance Multicast from to kind lower upper code droppable body) other h = h
waits_behind s count (Payload importance Named from to kind lower upper code droppable body) other h =
    and_both (is_offered s.live to.port kind lower) (has_places (count + 1) (queue_at s to.port)) (has_places count (queue_at (with_waiting s other) to.port)) (places_behind count to.port (port_of other) s.queues other) h
waits_behind s count (Payload importance Direct from to kind lower upper code droppable body) other h = places_behind count to.port (port_of other) s.queues other h
waits_behind s count (Items withdrawal items) other h = h

pub waits_among : (s : SocketTable) (count few : ℕ) (m : Message) → few ≤ count → surely_waits s count m ≡ true → surely_waits s few m ≡ true
waits_among s count few (Payload importance Connected from to kind lower upper code droppable body) within h = h
waits_among s count few (Payload importance Multicast from to kind lower upper code droppable body) within h = h
waits_among s count few (Payload importance Named from to kind lower upper code droppable body) within h =
    and_both (is_offered s.live to.port kind lower) (has_places count (queue_at s to.port)) (has_places few (queue_at s to.port)) (fewer count few (queue_at s to.port) within) h
waits_among s count few (Payload importance Direct from to kind lower upper code droppable body) within h = fewer count few (queue_at s to.port) within h
waits_among s count few (Items withdrawal items) within h = h

offered_room : (s : SocketTable) (count port kind lower : ℕ) (offered : Bool) → 1 ≤ count → is_offered s.live port kind lower ≡ offered → (offered && has_places count (queue_at s port)) ≡ true → refusal s true Named port kind lower ≡ None
offered_room s count port kind lower true some is h = ap (λ (b : Bool). if not b then Some no_name else room_refusal (queue_at s port)) is ∙ room_in count (queue_at s port) some h
offered_room s count port kind lower false some is h = absurd cc

pub sure_fate : (s : SocketTable) (count : ℕ) (waiting : Option ℕ) (m : Message) → 1 ≤ count → surely_waits s count m ≡ true → fate s true waiting m ≡ Queued (port_of m ∷ [])
sure_fate s count waiting (Payload importance Connected from to kind lower upper code droppable body) some h = absurd cc
sure_fate s count waiting (Payload importance Multicast from to kind lower upper code droppable body) some h = absurd cc
sure_fate s count waiting (Payload importance Named from to kind lower upper code droppable body) some h =
    ap (λ why. one_port_fate s.own waiting to.port why (Payload importance Named from to kind lower upper code droppable body))
    (offered_room s count to.port kind lower (is_offered s.live to.port kind lower) some refl h)
sure_fate s count waiting (Payload importance Direct from to kind lower upper code droppable body) some h =
    ap (λ why. one_port_fate s.own waiting to.port why (Payload importance Direct from to kind lower upper code droppable body)) (room_in count (queue_at s to.port) some h)
sure_fate s count waiting (Items withdrawal items) some h = absurd cc
