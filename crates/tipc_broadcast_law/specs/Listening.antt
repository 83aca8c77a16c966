-- The member's side: how what the broadcast link of a member keeps of the caster stands in the law, and that its calls make the
-- law's events. A member is named by its address word.
use Rattle.std.specs.Prelude.{◌≡◌, ◌⊎◌, true, ℕ, ◌+◌, ◌-◌, ◌<◌, ◌≤◌, List, [], ◌∷◌, ◌++◌, map, slice_get, slice_index_or, Option, Some, None, is_some}
use Rattle.tipc_types.specs.Address.{IsNodeWord}
use Rattle.tipc_types.specs.Position.{number_of}
use Rattle.tipc_types.specs.declared.packet_lists.Taken.{Taken}
use Rattle.tipc_types.specs.Limits.{most_age, window_size}
use Rattle.tipc_recv_window.specs.declared.outcomes.LinkOutcome.{LinkOutcome}
use Rattle.tipc_recv_window.specs.declared.outcomes.LinkOutcome.TheVariants as outcome
use Rattle.tipc_recv_window.specs.Receiving.{Receiving}
use Rattle.tipc_broadcast.specs.declared.contacts.Contact.{Contact}
use Rattle.tipc_broadcast.specs.Contacts.{heard, heard_outcome, is_member, IsFree, joined, refusal, shown_in, told}
use Rattle.tipc_broadcast_law.specs.Groups.{Accepted, Caster, Group, mark, Member, packets, queue}
use Rattle.tipc_broadcast_law.specs.Events.{entered, in_step_from, left, Runs}
use Rattle.tipc_broadcast_law.specs.Law.{IsGroup}

-- ---- what a member keeps

-- the packet at a place of what was accepted in a boot: it has a number, and is for the member in this contact
pub record IsAt (a : Caster) (m c boot x : ℕ) (packet : List ℕ) : Type 0 where
  pub numbered : x < a.numbered boot
  pub own : mark (a.line boot) m x ≡ Some c
  pub packet_is : packets x (x + 1) (a.line boot) ≡ packet ∷ []

-- each packet that is held stands at its place behind the wanted place w
abbrev pub HoldsAt : Caster → ℕ → ℕ → ℕ → ℕ → List (Option Taken) → Type 0
HoldsAt a m c boot w held = (d : ℕ) (t : Taken) → slice_index_or held d None ≡ Some t → IsAt a m c boot (w + d) t.packet

-- The receive window in a contact: there is none before the member is in step, and then it wants the number of the wanted place.
abbrev pub IsWindow : Group → ℕ → ℕ → Option Receiving → Type 0
IsWindow g m c None = (g.members m).want c ≡ None
IsWindow g m c (Some r) = (w : ℕ) × ((g.members m).want c ≡ Some w) × (number_of (w + 1) ≡ number_of r.wanted)
    × HoldsAt g.caster m c ((g.members m).boots c) w r.held

-- It was shown no more than has a number: the next position that was shown lies at most as far past the wanted one as the packets reach that are
-- numbered in the contact's boot.
abbrev pub WasShownIn : Group → ℕ → ℕ → ℕ → Option Receiving → Type 0
WasShownIn g m c shown None = Unit {0}
WasShownIn g m c shown (Some r) = (w : ℕ) → (g.members m).want c ≡ Some w → shown ≤ r.wanted + (g.caster.numbered ((g.members m).boots c) - w)

-- what the member keeps of the caster, where it is in contact with it
abbrev pub IsListening : Group → ℕ → Option Contact → Type 0
IsListening g m None = (g.members m).at ≡ None
IsListening g m (Some k) = (c : ℕ) × ((g.members m).at ≡ Some c) × (k.boot ≡ (g.members m).boots c) × IsWindow g m c k.window × WasShownIn g m c k.shown k.window

-- ---- what happens to it

-- After events of one member alone it keeps this of the caster. The caster and the other members are as they were, and the member
-- is one of these.
pub record MemberTurns (g : Group) (m : ℕ) (IsOne : Member → Type 0) (kept : Option Contact) : Type 0 where
  pub after : Group
  pub runs : Runs g after
  pub caster : after.caster ≡ g.caster
  pub others : (i : ℕ) → (i ≡ m → ⊥) → after.members i ≡ g.members i
  pub one : IsOne (after.members m)
  pub listens : IsListening after m kept

-- a contact begins at the member: it is above every one that the member entered, and the caster hasn't begun a later one
abbrev pub EnterRuns : Type 0
EnterRuns = (g : Group) (m c peer start : ℕ) → IsGroup g → (g.members m).at ≡ None → (g.members m).last < c → (g.members m).boots c ≤ g.caster.boot
    → ((d s : ℕ) → (g.members m).begun d ≡ Some s → d ≤ c)
    → MemberTurns g m (λ l. l ≡ entered (g.members m) c) (Some (joined peer ((g.members m).boots c) start))

-- it ends
abbrev pub QuitRuns : Type 0
QuitRuns = (g : Group) (m : ℕ) → MemberTurns g m (λ l. l ≡ left (g.members m)) None

-- the member after a STATE with its start in a contact: the first one takes it in step
abbrev pub stepped_member : Member → ℕ → ℕ → Option Receiving → Member
stepped_member k c start None = in_step_from k c start
stepped_member k c start (Some r) = k

-- In a contact the member had come to a place: that is its start, or it wants that place or one behind it.
abbrev pub HadCome : Member → ℕ → ℕ → Type 0
HadCome k c place = (k.begun c ≡ Some place) ⊎ ((w : ℕ) × (k.want c ≡ Some w) × (place ≤ w))

-- A STATE of the caster told the member a next number in a contact, when this many packets of its boot had one. After the event in which it left `stamp` had
-- one, all that was accepted at most, and no more than a window and what may wait past the place to which the member had come.
pub record ToldNext (k : Member) (c next stamp : ℕ) : Type 0 where
  pub numbered : ℕ
  pub next_is : next ≡ number_of (numbered + 1)
  pub by_then : numbered ≤ stamp
  pub stamped : stamp ≤ numbered + queue
  pub place : ℕ
  pub had_come : HadCome k c place
  pub near : stamp ≤ place + window_size + queue

-- A STATE of the caster is taken, which it told in the contact, with the start and a next number; at most 30,000 were numbered since it left.
abbrev pub TellRuns : Type 0
TellRuns = (g : Group) (m c s next stamp : ℕ) (k : Contact) → IsGroup g → IsListening g m (Some k) → (g.members m).at ≡ Some c → (g.members m).begun c ≡ Some s
    → ToldNext (g.members m) c next stamp → stamp ≤ g.caster.numbered ((g.members m).boots c) → g.caster.numbered ((g.members m).boots c) ≤ stamp + most_age
    → MemberTurns g m (λ l. l ≡ stepped_member (g.members m) c s k.window) (Some (told (number_of (s + 1)) next k))

-- A broadcast packet that was sent: it is the one at a place of a boot, which has its number, with the set of the members for which it was
-- accepted. `stamp` were numbered after the event that sent it.
pub record IsCastAt (a : Caster) (boot x set stamp : ℕ) (packet : List ℕ) : Type 0 where
  pub entry : Accepted
  pub there : slice_get (a.line boot) x ≡ Some entry
  pub packet_is : packet ≡ entry.packet
  pub numbered : x < a.numbered boot
  pub members : (node : ℕ) → IsNodeWord node → is_member node set ≡ is_some (entry.members node)
  pub stamped : stamp < x + 1 + window_size + queue

-- the packets that an arrival gives
abbrev pub given : LinkOutcome → List (List ℕ)
given (outcome.Took due) = map (λ (t : Taken). t.packet) due
given outcome.Deferred = []
given (outcome.Ignored why) = []

-- these packets were taken in a contact; besides only what is wanted in it changed
pub record TookIn (k l : Member) (c : ℕ) (took : List (List ℕ)) : Type 0 where
  pub boots : l.boots ≡ k.boots
  pub joined_is : l.joined ≡ k.joined
  pub acked : l.acked ≡ k.acked
  pub begun : l.begun ≡ k.begun
  pub at : l.at ≡ k.at
  pub last : l.last ≡ k.last
  pub want : (d : ℕ) → (d ≡ c → ⊥) → l.want d ≡ k.want d
  pub out_here : l.out c ≡ k.out c ++ took
  pub out : (d : ℕ) → (d ≡ c → ⊥) → l.out d ≡ k.out d

-- A broadcast packet arrives that was sent at most 30,000 numbers ago, of whatever place and boot: what is given are the packets at
-- the wanted place and behind it.
abbrev pub HearRuns : Type 0
HearRuns = (g : Group) (m boot x set stamp : ℕ) (k : Contact) (t : Taken) → IsGroup g → IsNodeWord m → IsListening g m (Some k) → IsFree k.window
    → IsCastAt g.caster boot x set stamp t.packet → g.caster.numbered boot ≤ stamp + most_age → t.number ≡ number_of (x + 1)
    → MemberTurns g m (λ l. (c : ℕ) × ((g.members m).at ≡ Some c) × TookIn (g.members m) l c (given (heard_outcome t k (refusal m boot set k))))
    (Some (heard t k (refusal m boot set k)))

-- what a STATE of the member shows where it says that it is in step: the number of the place that it wants
abbrev pub TakenIsShown : Type 0
TakenIsShown = (g : Group) (m c next start : ℕ) (shown : ℕ) (received : Option Receiving) → IsWindow g m c received → (shown_in next start shown received).in_step ≡ true
    → (w : ℕ) × ((g.members m).want c ≡ Some w) × ((shown_in next start shown received).acknowledged ≡ number_of w)
