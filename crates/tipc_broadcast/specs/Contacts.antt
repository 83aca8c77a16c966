-- What a broadcast link keeps of one peer in contact, and of all of them. The position of a packet counts the
-- packets that the caster accepted, from 1 on.
use Rattle.std.specs.Prelude.{◌≡◌, ℕ, ◌+◌, ◌-◌, ◌/◌, ◌%◌, ◌^◌, ◌≤◌, ◌==◌, Bool, true, false, not, List, [], ◌∷◌, filter, fold, max, min, nat_le, Option, Some, None, IfSome, is_some, if◌then◌else◌}
use Rattle.std.specs.List.{find}
use Rattle.std.specs.Int.Bits.{bit_or}
use Rattle.tipc_types.specs.Address.{IsNodeWord}
use Rattle.tipc_types.specs.Position.{distance_of, number_of}
use Rattle.tipc_types.specs.declared.link_words.BroadcastState.{BroadcastState}
use Rattle.tipc_types.specs.declared.link_words.Why.{Why}
use Rattle.tipc_types.specs.declared.link_words.Why.TheVariants as why
use Rattle.tipc_types.specs.declared.packet_lists.Taken.{Taken}
use Rattle.tipc_header.specs.declared.packet.Header.{Header}
use Rattle.tipc_header.specs.declared.packet.Header.TheVariants as header
use Rattle.tipc_header.specs.Frames.{sent_as}
use Rattle.tipc_header.specs.Spelling.{Fields, spelling}
use Rattle.tipc_recv_window.specs.declared.outcomes.LinkOutcome.{LinkOutcome}
use Rattle.tipc_recv_window.specs.Receiving.{Coming, Receiving, ahead, brought, coming, deferred_count, drained, fresh, gap_to, next_of, outcome_at, past_wanted, place_at, run_of, shows_more, with_packet}
use Rattle.tipc_broadcast.specs.declared.contacts.Contact.{Contact}

-- ---- the peers in contact

-- whether it is the contact with the peer of this address
abbrev pub is_with : ℕ → Contact → Bool
is_with peer c = c.peer.word == peer

-- the contact with a peer, where there is one
abbrev pub contact_with : ℕ → List Contact → Option Contact
contact_with peer contacts = find (is_with peer) contacts

-- a peer is in contact
abbrev pub has_joined : ℕ → List Contact → Bool
has_joined peer contacts = is_some (contact_with peer contacts)

-- the contacts without that with a peer
abbrev pub without : ℕ → List Contact → List Contact
without peer contacts = filter (λ c. not (is_with peer c)) contacts

-- the contacts when that with a peer has become another
abbrev pub with_changed : ℕ → (Contact → Contact) → List Contact → List Contact
with_changed peer change [] = []
with_changed peer change (c ∷ contacts) = if is_with peer c then change c ∷ contacts else c ∷ with_changed peer change contacts

-- the bit of a node in a member set: bit n - 1 stands for node <1.1.n>
abbrev pub bit_of : ℕ → ℕ
bit_of word = 2 ^ (word - 16781313)

-- the set of the peers in contact
unfoldable pub member_set : List Contact → ℕ
member_set contacts = fold (λ set c. bit_or set (bit_of c.peer.word)) 0 contacts

-- the last position that every peer in contact acknowledged, at most this one
abbrev pub acked_by_all : ℕ → List Contact → ℕ
acked_by_all numbered contacts = fold (λ least c. min least c.acked) numbered contacts

-- ---- one contact: what the peer acknowledged

-- a new contact: the peer is to take what is accepted from this position on
abbrev pub joined : ℕ → ℕ → ℕ → Contact
joined peer boot start = record { peer = record { word = peer }; boot = boot; start = start; acked = start - 1; window = None; shown = 0 }

-- The peer has every packet up to the one with this number, where that lies behind what it acknowledged before and
-- was numbered; another number tells nothing.
unfoldable pub acknowledged_to : ℕ → ℕ → ℕ → ℕ
acknowledged_to numbered acked number = (
    let past = distance_of (number_of acked) number in
    if nat_le past (numbered - acked) then acked + past else acked
    )

-- the contact after a peer has acknowledged the packet with this number; `numbered` are the packets that have numbers
abbrev pub acknowledging : ℕ → ℕ → Contact → Contact
acknowledging numbered number c = record c { acked = acknowledged_to numbered c.acked number }

-- ---- one contact: what this node takes of the peer's broadcast

-- this node is in step with the peer's broadcast
abbrev pub is_in_step : Contact → Bool
is_in_step c = is_some c.window

-- In step after a STATE that showed this start: the first one of the contact fixes it.
abbrev pub stepped : ℕ → Contact → Contact
stepped start c = if is_in_step c then c else record c { window = Some (fresh start); shown = start }

-- the highest next position, after the peer has shown this number
abbrev pub noted_in : ℕ → Contact → Option Receiving → Contact
noted_in next c None = c
noted_in next c (Some r) = record c { shown = max c.shown (r.wanted + ahead r next) }

-- the contact after the peer has shown this next number; where this node isn't in step yet it says nothing
abbrev pub noted : ℕ → Contact → Contact
noted next c = noted_in next c c.window

-- after a STATE with this start and this next number
abbrev pub told : ℕ → ℕ → Contact → Contact
told start next c = noted next (stepped start c)

-- whether a STATE shows more than was taken
abbrev pub shows_more_in : ℕ → Option Receiving → Bool
shows_more_in next None = false
shows_more_in next (Some r) = shows_more r next

-- whether a STATE of a node shows more than was taken of its broadcast; one of a node that isn't in contact shows
-- nothing
abbrev pub shows_more_to : ℕ → Option Contact → Bool
shows_more_to next None = false
shows_more_to next (Some c) = shows_more_in next c.window

-- what a STATE to the peer shows; the sender's next number is `next`
abbrev pub shown_in : ℕ → ℕ → ℕ → Option Receiving → BroadcastState
shown_in next start shown None = record { acknowledged = 0; next = next; start = start; gap = 0; in_step = false }
shown_in next start shown (Some r) = record { acknowledged = number_of (r.wanted + 65535); next = next; start = start; gap = gap_to r shown; in_step = true }

-- for a peer that hasn't joined, `start` is the number with which its copy would begin
abbrev pub shown_to : ℕ → ℕ → Option Contact → BroadcastState
shown_to next start None = record { acknowledged = 0; next = next; start = start; gap = 0; in_step = false }
shown_to next start (Some c) = shown_in next (number_of c.start) c.shown c.window

-- how many packets are held behind the wanted one; none before the node is in step
abbrev pub deferred_in : Option Receiving → ℕ
deferred_in None = 0
deferred_in (Some r) = deferred_count r

-- how many packets of a peer are held; none where it isn't in contact
abbrev pub deferred_of : Option Contact → ℕ
deferred_of None = 0
deferred_of (Some c) = deferred_in c.window

-- ---- an arrival

-- whether a node's bit is set in a member set
abbrev pub is_member : ℕ → ℕ → Bool
is_member word set = set / bit_of word % 2 == 1

-- Why a packet of this boot of the peer for these members is ignored, before its number is read.
abbrev pub refusal : ℕ → ℕ → ℕ → Contact → Option Why
refusal own boot members c =
    if not (boot == c.boot) then Some why.Epoch
    else (if not (is_in_step c) then Some why.OutOfStep
    else (if not (is_member own members) then Some why.NotMember
    else None))

-- why one from a node is ignored; from a node that isn't in contact each is
abbrev pub refusal_to : ℕ → ℕ → ℕ → Option Contact → Option Why
refusal_to own boot members None = Some why.OutOfStep
refusal_to own boot members (Some c) = refusal own boot members c

-- the previous node that a packet shows before it is sent: a message names its node from the start, and a fragment
-- names none before it is sent
abbrev pub previous_before : Header → ℕ → ℕ
previous_before (header.Fragmenter fragment) previous = 0
previous_before _ previous = previous

-- a packet as it was before it was sent: it acknowledged nothing and had no number
abbrev pub as_accepted : Fields → Fields
as_accepted p = sent_as 0 0 (previous_before p.header p.previous) p

-- the packet that an arrival brought
abbrev pub carried : Fields → ℕ → Taken
carried p by = brought p.sequence (spelling (as_accepted p)) by

-- the receiving rule: the wanted packet is taken with those behind it that are held, and one that is early is held
abbrev pub taken_in : Contact → Taken → Option Receiving → Contact
taken_in c t None = c
taken_in c t (Some r) = record c { window = Some (drained (with_packet r t)) }

-- what an arrival that isn't refused answers, by where its number lies in the receive window
abbrev pub outcome_in : Taken → Option Receiving → LinkOutcome
outcome_in t None = LinkOutcome.Ignored why.OutOfStep
outcome_in t (Some r) = outcome_at (place_at r (past_wanted r t.number)) (run_of (with_packet r t).held)

-- after an arrival that is refused for a reason, or isn't
abbrev pub heard : Taken → Contact → Option Why → Contact
heard t c (Some reason) = c
heard t c None = taken_in c t c.window

-- what an arrival answers that is refused for a reason, or isn't
abbrev pub heard_outcome : Taken → Contact → Option Why → LinkOutcome
heard_outcome t c (Some reason) = LinkOutcome.Ignored reason
heard_outcome t c None = outcome_in t c.window

-- what a packet will make of the receive window, where there is one
abbrev pub coming_in : Taken → Option Receiving → Option Coming
coming_in t None = None
coming_in t (Some r) = Some (coming r t)

-- what an arrival that is refused for a reason, or isn't, will make of the receive window
abbrev pub coming_to : Taken → Contact → Option Why → Option Coming
coming_to t c (Some reason) = None
coming_to t c None = coming_in t c.window

-- ---- what is true of every contact

-- the wanted packet isn't held
abbrev pub IsFree : Option Receiving → Type 0
IsFree window = IfSome window (λ r. next_of r ≡ None)

-- `released` and `accepted` are the last position that was released and the last that was accepted
pub record IsContact (released accepted : ℕ) (c : Contact) : Type 0 where
  pub node : IsNodeWord c.peer.word
  pub after_release : released ≤ c.acked
  pub before_accepted : c.acked ≤ accepted
  pub begun : c.start ≤ c.acked + 1
  -- what could be taken was
  pub free : IsFree c.window
