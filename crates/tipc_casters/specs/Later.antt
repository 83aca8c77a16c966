-- What stays true of a caster and its members, whatever happens: what was accepted and numbered in a boot, the start of each contact, and
-- what a member has taken.
use Rattle.std.specs.Prelude.{◌≡◌, ◌≤◌, ℕ, Some, slice_get}
use Rattle.tipc_broadcast_law.specs.Groups.{Accepted, Caster, Group, Member}

-- of a caster: its boot rises, and in the boots up to the present one what was accepted stays and more gets its number
pub record IsLaterCaster (a b : Caster) : Type 0 where
  pub boot : a.boot ≤ b.boot
  pub numbered : (f : ℕ) → f ≤ a.boot → a.numbered f ≤ b.numbered f
  pub line : (f x : ℕ) (e : Accepted) → f ≤ a.boot → slice_get (a.line f) x ≡ Some e → slice_get (b.line f) x ≡ Some e

-- of a member: the boot and the start of a contact stay, what it wants rises, and no contact that was begun begins again at the caster
pub record IsLaterMember (k l : Member) : Type 0 where
  pub boots : (c : ℕ) → l.boots c ≡ k.boots c
  pub begun : (c s : ℕ) → k.begun c ≡ Some s → l.begun c ≡ Some s
  pub want : (c w : ℕ) → k.want c ≡ Some w → (v : ℕ) × (l.want c ≡ Some v) × (w ≤ v)
  pub joined : (c s : ℕ) → k.begun c ≡ Some s → l.joined ≡ Some c → k.joined ≡ Some c

-- of the group
pub record IsLater (g h : Group) : Type 0 where
  pub caster : IsLaterCaster g.caster h.caster
  pub members : (m : ℕ) → IsLaterMember (g.members m) (h.members m)
