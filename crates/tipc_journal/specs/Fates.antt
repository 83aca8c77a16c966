-- The fates of messages in a journal: what becomes of each message that arrived, and of each that a node sent to
-- itself.
use Rattle.std.specs.Prelude.{◌≡◌, ◌⊎◌, ◌≤◌, ◌==◌, ◌&&◌, ◌||◌, if◌then◌else◌, nat_lt, not, ℕ, Bool, true, false, List, [], ◌∷◌, ◌++◌, Option, Some, None, length}
use Rattle.std.specs.List.{All, list_any}
use Rattle.std.specs.List.Sorted.{IsStrictlySortedBy}
use Rattle.std.specs.Ordering.{nat_cmp}
use Rattle.tipc_types.specs.Span.{Span}
use Rattle.tipc_types.specs.declared.identity.Addr.{Addr}
use Rattle.tipc_types.specs.declared.message_forms.Flow.TheVariants.{Zero}
use Rattle.tipc_types.specs.declared.message_forms.Form.TheVariants.{Connected, Multicast as Many, Named, Direct}
use Rattle.tipc_types.specs.declared.message_forms.Message.{Message}
use Rattle.tipc_types.specs.declared.message_forms.Message.TheVariants.{Payload, Items}
use Rattle.tipc_types.specs.declared.services.Publication.{Publication}
use Rattle.tipc_types.specs.Matching.{covers, overlaps}
use Rattle.tipc_journal.specs.declared.entries.Entry.{Entry}
use Rattle.tipc_journal.specs.declared.entries.Entry.TheVariants.{Accepted, Queued, Returned, ReturnDropped, Dropped}
use Rattle.tipc_journal.specs.Contacts.{contact}
use Rattle.tipc_journal.specs.Dues.{Due, NothingDue, FateDue, ReturnDue, due_behind, first_due}
use Rattle.tipc_journal.specs.Names.{live, is_clusterwide}
use Rattle.tipc_journal.specs.Prefixes.{AllBehind}
use Rattle.tipc_journal.specs.Queues.{queue_inside, sockets}
use Rattle.tipc_journal.specs.Steps.{steps, PlacedStep}

-- how many messages an inbox holds at most
abbrev pub inbox_size : ℕ
inbox_size = 128

-- with so many packets waiting on the link to its sender a message isn't returned
abbrev pub return_limit : ℕ
return_limit = 200

-- the codes with which a message isn't queued
abbrev pub no_name : ℕ
no_name = 1

-- no socket of the node has the port
abbrev pub no_port : ℕ
no_port = 2

-- the inbox of the port is full
abbrev pub overload : ℕ
overload = 4

-- what the fate of a message rests on: the node, its live publications, its sockets, how many messages are queued
-- at each port, and its contacts
pub record Scene : Type 0 where
  pub own : Addr
  pub live : List Publication
  pub sockets : List ℕ
  pub queued : ℕ → ℕ
  pub contact : Addr → Option (ℕ × ℕ)

-- whether the inbox of a port has room
abbrev pub port_has_room : Scene → ℕ → Bool
port_has_room s port = nat_lt (s.queued port) inbox_size

-- whether a publication counts for a message: one of cluster or zone scope always, one of node scope where the message
-- didn't arrive
abbrev pub counts_for : Bool → Publication → Bool
counts_for arrived p = not arrived || is_clusterwide p.scope

-- whether a live publication of the port shares an instance with the range and counts
abbrev pub is_aimed_at : Scene → Bool → Span → ℕ → Bool
is_aimed_at s arrived range port =
    list_any (λ p. (p.at.port == port) && (overlaps range p && counts_for arrived p)) s.live

-- whether a live publication of the port that is seen in the cluster covers the instance
abbrev pub is_named_by : Scene → ℕ → ℕ → ℕ → Bool
is_named_by s kind instance port =
    list_any (λ p. (p.at.port == port) && (covers kind instance p && is_clusterwide p.scope)) s.live

-- the ports that a multicast is queued to: rising, each that it is aimed at and that has room
pub record AreReached (s : Scene) (arrived : Bool) (range : Span) (ports : List ℕ) : Type 0 where
  pub rising : IsStrictlySortedBy nat_cmp ports
  pub each : (port : ℕ) → list_any (λ q. q == port) ports ≡ (is_aimed_at s arrived range port && port_has_room s port)

-- why a named message isn't queued to its port, where it isn't: it arrived, and no live publication there that is
-- seen in the cluster covers the instance; or the inbox is full
abbrev pub why_not_named : Scene → Bool → ℕ → ℕ → ℕ → Option ℕ
why_not_named s arrived kind instance port =
    if arrived && not (is_named_by s kind instance port) then Some no_name
    else (if port_has_room s port then None else Some overload)

-- why a direct message isn't queued to its port, where it isn't: the port isn't there, or the inbox is full
abbrev pub why_not_direct : Scene → ℕ → Option ℕ
why_not_direct s port =
    if not (list_any (λ q. q == port) s.sockets) then Some no_port
    else (if port_has_room s port then None else Some overload)

-- What becomes of a message that isn't queued, for the code: dropped where it may not come back; else returned,
-- where it came from the node itself; else, where its origin is in contact, returned or, with that many packets
-- waiting, not; else not.
abbrev pub IsUnqueued : (stays_away is_own : Bool) → Option (ℕ × ℕ) → ℕ → Entry → Type 0
IsUnqueued true is_own contact code e = e ≡ Dropped 0
IsUnqueued false true contact code e = e ≡ Returned code
IsUnqueued false false None code e = e ≡ ReturnDropped 0
IsUnqueued false false (Some numbers) code e =
    (e ≡ Returned code) ⊎ ((waiting : ℕ) × (return_limit ≤ waiting) × (e ≡ ReturnDropped waiting))

-- A message for one port is queued there, where no code says why not. One that is droppable, or is a return itself,
-- doesn't come back.
abbrev pub IsSettled : Scene → Message → Option ℕ → Entry → Type 0
IsSettled s (Payload importance form from to kind lower upper old droppable body) None e = e ≡ Queued (to.port ∷ [])
IsSettled s (Payload importance form from to kind lower upper old droppable body) (Some code) e =
    IsUnqueued (droppable || not (old == 0)) (from.node.word == s.own.word) (s.contact from.node) code e
IsSettled s (Items withdrawal items) why e = ⊥

-- The entry is the fate of the message, which arrived or not.
abbrev pub IsFate : Scene → Message → Bool → Entry → Type 0
IsFate s (Payload importance Many from to kind lower upper old droppable body) arrived e =
    (ports : List ℕ)
    × (e ≡ Queued ports)
    × AreReached s arrived (record { kind = kind; lower = lower; upper = upper }) ports
IsFate s (Payload importance Connected from to kind lower upper old droppable body) arrived e = e ≡ Dropped 0
IsFate s (Payload importance Named from to kind lower upper old droppable body) arrived e =
    IsSettled s (Payload importance Named from to kind lower upper old droppable body)
    (why_not_named s arrived kind lower to.port) e
IsFate s (Payload importance Direct from to kind lower upper old droppable body) arrived e =
    IsSettled s (Payload importance Direct from to kind lower upper old droppable body) (why_not_direct s to.port) e
IsFate s (Items withdrawal items) arrived e = ⊥

-- The entry accepts the return for the peer that it is for, in the present contact.
abbrev pub IsPassedOn : Scene → Message → Entry → Type 0
IsPassedOn s (Payload importance form from to kind lower upper code droppable body) e =
    (numbers : ℕ × ℕ) × (s.contact to.node ≡ Some numbers)
    × (e ≡ Accepted to.node numbers Zero (Payload importance form from to kind lower upper code droppable body))
IsPassedOn s (Items withdrawal items) e = ⊥

-- whether an entry can only be a fate
abbrev pub is_fate : Entry → Bool
is_fate (Queued ports) = true
is_fate (Returned code) = true
is_fate (ReturnDropped waiting) = true
is_fate _ = false

-- The entry may stand where d is due. Where nothing is, no fate stands; what is dropped then is no message.
abbrev pub MayStand : Scene → Due → Entry → Type 0
MayStand s NothingDue (Queued ports) = ⊥
MayStand s NothingDue (Returned code) = ⊥
MayStand s NothingDue (ReturnDropped waiting) = ⊥
MayStand s NothingDue e = Unit {0}
MayStand s (FateDue m arrived) e = IsFate s m arrived e
MayStand s (ReturnDue m) e = IsPassedOn s m e

-- what a fate inside a step rests on, behind the entries of the step so far; d was due at its beginning
abbrev pub scene_at : Addr → List Entry → Due → List Entry → Scene
scene_at own before d front =
    record {
      own = own;
      live = live (before ++ front);
      sockets = sockets before;
      queued = λ port. length (queue_inside own before d front port);
      contact = contact (before ++ front);
    }

-- what is due behind the entries of a step so far, and what a fate there rests on
abbrev pub due_in : Addr → PlacedStep → List Entry → Due
due_in own p front = due_behind own (first_due own p.step.event p.step.answer) front

-- what a fate in a step of a journal rests on, behind the entries of the step so far
abbrev pub scene_in : Addr → PlacedStep → List Entry → Scene
scene_in own p front = scene_at own p.before (first_due own p.step.event p.step.answer) front

-- Each entry may stand where it stands, in a step behind this journal at whose beginning d was due.
abbrev pub AllMayStand : Addr → List Entry → Due → List Entry → Type 0
AllMayStand own before d inside =
    AllBehind (λ front e. MayStand (scene_at own before d front) (due_behind own d front) e) [] inside

-- in a step each message has its fate, and no fate stands without its message
pub record HasFates (own : Addr) (p : PlacedStep) : Type 0 where
  pub each : AllMayStand own p.before (first_due own p.step.event p.step.answer) p.step.inside
  pub none_left : due_behind own (first_due own p.step.event p.step.answer) p.step.inside ≡ NothingDue

-- in each step of a journal each message has its fate, and no fate stands without its message
abbrev pub AllHaveFates : Addr → List Entry → Type 0
AllHaveFates own entries = All (HasFates own) (steps entries)
