-- What an event at a member makes of it, as a world tells of it: at most one thing happens at its broadcast link, and STATEs to the caster leave before
-- it and after it.
use Rattle.std.specs.Prelude.{◌≡◌, ◌⊎◌, ◌+◌, ◌≤◌, ℕ, All, List, Option, Some, None}
use Rattle.std.specs.List.{Contains}
use Rattle.tipc_types.specs.Limits.{most_age}
use Rattle.tipc_header.specs.Spelling.{Fields}
use Rattle.tipc_fragments.specs.Joining.{fresh}
use Rattle.tipc_reassembly.specs.declared.opening.Opened.{Opened}
use Rattle.tipc_reassembly.specs.Opening.{BringsAll}
use Rattle.tipc_reassembly.specs.Slots.{packets_in}
use Rattle.tipc_broadcast.specs.declared.contacts.Contact.{Contact}
use Rattle.tipc_broadcast.specs.Contacts.{carried, heard, heard_outcome, told}
use Rattle.tipc_casters.specs.Sights.{boot_in, Told}
use Rattle.tipc_casters.specs.ViewLaws.{given_at, HearsFrame, IsKeptAs, MayEnter, refused, SaysTo, packets_due, with_view}
use Rattle.tipc_casters.specs.Views.{AreCastSeen, AreContactNumbers, CasterView, IsOther, MemberView}

-- the contact with the caster stays, and what was given in it
pub record Lasts (w w' : MemberView) : Type 0 where
  pub at : w'.at ≡ w.at
  pub given : (own theirs : ℕ) → w'.given own theirs ≡ w.given own theirs
  pub begun : w'.begun ≡ w.begun

-- A contact with the caster begins, in which nothing was given: its broadcast link keeps this of the caster at first.
pub record EntersAnew (v : CasterView) (w w' : MemberView) (m c : ℕ) (k : Contact) : Type 0 where
  pub may : MayEnter v w m c
  pub boot : k.boot ≡ boot_in c
  pub window : k.window ≡ None
  pub at : w'.at ≡ Some c
  pub entered : Contains w'.entered c
  pub given : (own theirs : ℕ) → w'.given own theirs ≡ w.given own theirs
  pub begun : w'.begun ≡ fresh

-- a STATE of the caster is taken, where this is kept of it, in this contact, with at most 30,000 numbered since
pub record LearnsOf (v : CasterView) (w w' : MemberView) (c : Option ℕ) (k : Contact) : Type 0 where
  pub state : Told
  pub there : Contains w.hears state
  pub by_now : state.stamp ≤ v.numbered (boot_in state.contact)
  pub recent : v.numbered (boot_in state.contact) ≤ state.stamp + most_age
  pub contact : c ≡ Some state.contact
  pub kept : Contact
  pub heard_is : w'.heard ≡ Some kept
  pub as_told : IsKeptAs (told state.seen.start state.seen.next k) kept

-- a broadcast packet of the caster arrives in this contact
pub record TakesCast (v : CasterView) (w w' : MemberView) (m : ℕ) : Type 0 where
  pub contact : ℕ
  pub boot : ℕ
  pub set : ℕ
  pub by : ℕ
  pub packet : Fields
  pub before : Contact
  pub after : Contact
  pub opened : List Opened
  pub here : w.heard ≡ Some before
  pub at : w.at ≡ Some contact
  pub frame : HearsFrame v boot set packet
  pub as_heard : IsKeptAs (heard (carried packet by) before (refused m boot set before)) after
  pub brings : BringsAll w.begun (packets_due (heard_outcome (carried packet by) before (refused m boot set before))) opened w'.begun
  pub stays_at : w'.at ≡ w.at
  pub heard_is : w'.heard ≡ Some after
  pub given_is : (own theirs : ℕ) → AreContactNumbers own theirs → w'.given own theirs ≡ given_at contact (packets_in opened) w.given own theirs

-- What happens at its broadcast link: nothing that the law sees; a STATE is taken, or a broadcast packet; a contact begins, and in the same arrival a STATE
-- may be taken; or it ends.
pub data HappensTo (v : CasterView) (w w' : MemberView) (m : ℕ) : Type 0 where
  rests : Lasts w w' → w'.heard ≡ w.heard → HappensTo v w w' m
  keeps : (k l : Contact) → Lasts w w' → w.heard ≡ Some k → w'.heard ≡ Some l → IsKeptAs k l → HappensTo v w w' m
  learns : (k : Contact) → Lasts w w' → w.heard ≡ Some k → LearnsOf v w w' w.at k → HappensTo v w w' m
  takes : TakesCast v w w' m → HappensTo v w w' m
  enters : (c : ℕ) (k : Contact) → EntersAnew v w w' m c k → w'.heard ≡ Some k → HappensTo v w w' m
  enters_told : (c : ℕ) (k : Contact) → EntersAnew v w w' m c k → LearnsOf v w w' w'.at k → HappensTo v w w' m
  quits : w'.at ≡ None → w'.heard ≡ None → ((own theirs : ℕ) → w'.given own theirs ≡ w.given own theirs) → HappensTo v w w' m

-- STATEs to the caster leave that tell of the contact as it was before, or as it is after; more may be entered, and nothing comes from the caster.
pub record TurnsAt (v : CasterView) (w w' : MemberView) (m : ℕ) : Type 0 where
  pub happens : HappensTo v w w' m
  pub entered : All (Contains w'.entered) w.entered
  pub more : List Told
  pub said : All (λ t. SaysTo v w t ⊎ SaysTo v w' t) more
  pub told_is : All (λ t. Contains w.told t ⊎ Contains more t) w'.told
  pub hears : All (Contains w.hears) w'.hears

-- So they stay cast.
abbrev pub TurnsStayCast : Type 0
TurnsStayCast = (v : CasterView) (ws : ℕ → MemberView) (m : ℕ) (w' : MemberView) → AreCastSeen v ws → IsOther v m → TurnsAt v (ws m) w' m
    → AreCastSeen v (with_view ws m w')
