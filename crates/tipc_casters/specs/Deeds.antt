-- What a deed at its broadcast link makes of a caster, when it may be done, and what deeds make of it one behind the other.
use Rattle.std.specs.Prelude.{◌≡◌, ◌<◌, ◌≤◌, ◌+◌, ◌^◌, ℕ, true, List, [], ◌∷◌, Some}
use Rattle.std.specs.List.{Contains, list_all}
use Rattle.tipc_types.specs.Limits.{most_age}
use Rattle.tipc_types.specs.declared.link_words.BroadcastState.{BroadcastState}
use Rattle.tipc_broadcast.specs.Casting.{accepted, accepting}
use Rattle.tipc_broadcast.specs.Contacts.{carried}
use Rattle.tipc_broadcast.specs.Deeds.{CastDeed, IsLawful, sends_nothing}
use Rattle.tipc_casters.specs.Sights.{boot_in, CasterSight, IsCast, MemberSight, Told}
use Rattle.tipc_casters.specs.Turns.{bears, hears_other, joins, leaves, sends, states}

-- A contact with a member begins: it is above every one that the caster began with it, of the present boot, and the member is in no older one.
pub record JoinsIn (a : CasterSight) (s : MemberSight) (m : ℕ) : Type 0 where
  pub contact : ℕ
  pub above : (d t : ℕ) → a.begun m d ≡ Some t → d < contact
  pub era : boot_in contact ≡ a.casting.boot
  pub free : (d : ℕ) → s.at ≡ Some d → contact ≤ d

-- A STATE that says that the member is in step is one of those that it told, in the present contact, with at most 30,000 numbered since.
pub record StatesIn (a : CasterSight) (s : MemberSight) (m : ℕ) (seen : BroadcastState) : Type 0 where
  pub told : Told
  pub there : Contains s.told told
  pub seen_is : told.seen ≡ seen
  pub joined : a.joined m ≡ Some told.contact
  pub recent : a.numbered a.casting.boot ≤ told.stamp + most_age

-- what a deed asks for besides what the broadcast link itself shows
abbrev pub MayDo : CasterSight → (ℕ → MemberSight) → CastDeed → Type 0
MayDo a ms (CastDeed.joins m boot) = JoinsIn a (ms m) m
MayDo a ms (CastDeed.states m seen) = seen.in_step ≡ true → StatesIn a (ms m) m seen
MayDo a ms (CastDeed.sends pieces) = accepted (accepting a.casting pieces).sending ≤ 2 ^ 62
MayDo a ms other = Unit {0}

-- the caster after a deed
abbrev pub after_doing : (a : CasterSight) (ms : ℕ → MemberSight) (d : CastDeed) → MayDo a ms d → CasterSight
after_doing a ms (CastDeed.joins m boot) may = joins a m boot may.contact
after_doing a ms (CastDeed.leaves m) may = leaves a m
after_doing a ms (CastDeed.states m seen) may = states a m seen
after_doing a ms (CastDeed.bears bearer is_mended) may = bears a bearer is_mended
after_doing a ms (CastDeed.hears boot members by packet) may = hears_other a packet.previous boot members (carried packet by)
after_doing a ms (CastDeed.sends pieces) may = sends a pieces

-- Deeds were done one behind the other: at most one message was sent, and first of all.
pub data DeedsDone (ms : ℕ → MemberSight) : CasterSight → List CastDeed → CasterSight → Type 0 where
  none : {a : CasterSight} → DeedsDone ms a [] a
  go_on : {a b : CasterSight} {d : CastDeed} {ds : List CastDeed} → IsLawful d a.casting → list_all sends_nothing ds ≡ true
      → (may : MayDo a ms d) → DeedsDone ms (after_doing a ms d may) ds b → DeedsDone ms a (d ∷ ds) b

-- They leave a caster and its members in the law of broadcast.
abbrev pub DoingKeeps : Type 0
DoingKeeps = (a b : CasterSight) (ms : ℕ → MemberSight) (ds : List CastDeed) → IsCast a ms → DeedsDone ms a ds b → IsCast b ms
