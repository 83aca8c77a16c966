-- What is promised of links and contacts, over the journals, the arrivals and the air alone: nothing of them happens without a cause that
-- can be seen.
use Rattle.std.specs.Prelude.{◌≡◌, ◌⊎◌, ◌<◌, ◌≤◌, ◌||◌, ℕ, List, ◌∷◌, ◌++◌, Option, Some, None, is_some, slice_get, take}
use Rattle.tipc_types.specs.declared.identity.Addr.{Addr}
use Rattle.tipc_types.specs.declared.link_words.LinkState.{LinkState}
use Rattle.tipc_types.specs.declared.node_calls.EventNote.TheVariants as event
use Rattle.tipc_journal.specs.declared.entries.Entry.{Entry}
use Rattle.tipc_journal.specs.declared.entries.Entry.TheVariants as entry
use Rattle.tipc_journal.specs.Contacts.{contact, up_epochs}
use Rattle.tipc_journal.specs.Steps.{steps, step_entries, IsWhole, PlacedStep}
use Rattle.tipc_replay.specs.declared.air.Sent.{Sent}
use Rattle.tipc_node.specs.Turns.{addr_of}
use Rattle.tipc_replay.specs.Skies.{AirState}
use Rattle.tipc_replay.specs.States.{MemberState, journals_of}
use Rattle.tipc_replay.specs.Causes.{arrived_frame, IsCaused, IsNumberOf, Seen}
use Rattle.tipc_replay.specs.Spelled.{IsSpelled}

-- the journal after a step
abbrev pub after : PlacedStep → List Entry
after s = s.before ++ step_entries s.step

-- the journal up to the entry at a place of a step
abbrev pub up_to : PlacedStep → ℕ → List Entry
up_to s place = s.before ++ entry.Step s.step.by s.step.event ∷ take place s.step.inside

-- There are two bearers. A link that goes down was up before the step, and has a cause. A contact that ends was that contact, and no link
-- is up after the step; where it shows a number, the step is the arrival of a frame that shows it, and it is above the peer's number of the contact. A message
-- is accepted or delivered in the contact in which the node is after the step, and one that is delivered is spelled by its arrivals.
abbrev pub IsLawfulEntry : Seen → List PlacedStep → PlacedStep → Entry → Type 0
IsLawfulEntry seen earlier s (entry.LinkUp peer bearer own theirs) = bearer ≤ 1
IsLawfulEntry seen earlier s (entry.LinkDown peer bearer cause shown) =
    (bearer ≤ 1) × ((own : ℕ) × (theirs : ℕ) × (up_epochs s.before peer bearer ≡ Some (own, theirs)) × IsCaused seen earlier s peer bearer theirs cause shown)
IsLawfulEntry seen earlier s (entry.ContactDown peer numbers states number) =
    (contact s.before peer ≡ Some numbers) × ((bearer : ℕ) → up_epochs (after s) peer bearer ≡ None)
    × ((number ≡ 0) ⊎ (IsNumberOf seen s.step peer number × (numbers.1 < number)))
IsLawfulEntry seen earlier s (entry.Accepted peer numbers flow message) = contact (after s) peer ≡ Some numbers
IsLawfulEntry seen earlier s (entry.Delivered peer numbers flow message by) = (contact (after s) peer ≡ Some numbers)
    × IsSpelled seen s.step flow peer message by
IsLawfulEntry seen earlier s other = Unit {0}

-- one step of a journal, after those earlier ones
pub record IsLawfulStep (seen : Seen) (earlier : List PlacedStep) (s : PlacedStep) : Type 0 where
  -- an arrival is of a frame in the air of its bearer
  pub arrives : (bearer number : ℕ) → s.step.event ≡ event.Arrive bearer number
      → (f : Sent) × (bearer ≤ 1) × (arrived_frame seen bearer number ≡ Some f)
  pub entries : (place : ℕ) (e : Entry) → slice_get s.step.inside place ≡ Some e → IsLawfulEntry seen earlier s e
  -- where a contact ends no link to its peer is up
  pub parted : (place : ℕ) (peer : Addr) (numbers : ℕ × ℕ) (states : Option LinkState × Option LinkState) (number : ℕ)
      → slice_get s.step.inside place ≡ Some (entry.ContactDown peer numbers states number)
      → (bearer : ℕ) → up_epochs (up_to s place) peer bearer ≡ None
  -- the node is in contact with a node exactly where a link to it is up, on either bearer
  pub contacts : (n : ℕ) → is_some (contact (after s) (addr_of n))
      ≡ (is_some (up_epochs (after s) (addr_of n) 0) || is_some (up_epochs (after s) (addr_of n) 1))

-- the entries have a contact with the peer that began
pub record HasBegun (entries : List Entry) (peer : Addr) (numbers : ℕ × ℕ) : Type 0 where
  pub place : ℕ
  pub entry_is : slice_get entries place ≡ Some (entry.ContactUp peer numbers)

-- a message was accepted or delivered in a contact that began
abbrev pub IsWithin : List Entry → Entry → Type 0
IsWithin journal (entry.Accepted peer numbers flow message) = HasBegun journal peer numbers
IsWithin journal (entry.Delivered peer numbers flow message by) = HasBegun journal peer numbers
IsWithin journal other = Unit {0}

-- a journal is whole steps, each of them is lawful, and its messages are within its contacts
pub record IsLawful (seen : Seen) (journal : List Entry) : Type 0 where
  pub whole : IsWhole journal
  pub within : (place : ℕ) (e : Entry) → slice_get journal place ≡ Some e → IsWithin journal e
  pub steps_are : (k : ℕ) (s : PlacedStep) → slice_get (steps journal) k ≡ Some s
      → IsLawfulStep seen (take k (steps journal)) s

-- the journals of all boots of a node are lawful
abbrev pub AreLawful : AirState → MemberState → Type 0
AreLawful air m = (k : ℕ) (journal : List Entry) → slice_get (journals_of m) k ≡ Some journal
    → IsLawful (record { air = air; arrivals = m.arrivals }) journal
