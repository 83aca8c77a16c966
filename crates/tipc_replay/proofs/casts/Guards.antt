-- Two nodes agree on the order of their contacts: so one may join the other's broadcast, and enter it, when a contact of the two begins.
use Rattle.std.proofs.Common.{◌≡◌, ◌<◌, ◌≤◌, ℕ, true, false, List, Some, ap, inl, inr, arith}
use Rattle.std.specs.Prelude.{slice_get}
use Rattle.tipc_contact.specs.Sides.{boot_of}
use Rattle.tipc_pair.specs.Facing.{in_contact}
use Rattle.tipc_two_nodes.specs.Order.{Contact, HaveMet}
use Rattle.tipc_two_nodes.specs.Sights.{AreSeen, pair_seen, Sight}
use Rattle.tipc_two_nodes.proofs.sights.Meeting.{turned_met}
use Rattle.tipc_two_nodes.proofs.sights.Ordered.{both_in_one, entered_not_younger, entered_past, entered_rise, seen_no_higher}
use Rattle.tipc_casters.specs.Sights.{boot_in, contact_of}
use Rattle.tipc_replay.proofs.pairs.Standing.{seen_node}

-- ---- a contact of v with w begins: before it these contacts were met, and v is in contact after it

-- The node may join at its own broadcast: each contact that it was in is an older one.
pub older_joined : (v v' w : Sight) (here there : List Contact) (k : ℕ) (c : Contact) → HaveMet v w here there → HaveMet v' w here there → slice_get here k ≡ Some c → in_contact (pair_seen v) ≡ false → in_contact (pair_seen v') ≡ true
    → v.node.contact ≤ v'.node.contact → contact_of c.own c.theirs < contact_of v'.node.contact v'.node.seen
older_joined v v' w here there k c met met' is away now rises =
    let past = entered_past v w here there k c met is away in
    let fits = (seen_node v' w met'.seen).seen in
    elim (entered_rise v' w here there k c met' is now) [
      | inl same ↦ absurd (let own : c.own ≡ v'.node.contact = ap (λ (x : Contact). x.own) same in omega (arith, past, rises, own))
      | inr before ↦ (let low = before.1 in omega (arith, past, rises, low, fits))
    ]

-- The other, where it is in contact too, is in this one.
pub none_older : (v' w : Sight) → AreSeen v' w → in_contact (pair_seen v') ≡ true → in_contact (pair_seen w) ≡ true → contact_of v'.node.contact v'.node.seen ≤ contact_of w.node.seen w.node.contact
none_older v' w h now there =
    let same = both_in_one v' w h now there in
    let own = same.0 in
    let theirs = same.1 in
    omega (arith, own, theirs)

-- The node may enter at the other's broadcast: each contact that it was in is an older one.
pub older_entered : (v v' w : Sight) (here there : List Contact) (k : ℕ) (c : Contact) → HaveMet v w here there → HaveMet v' w here there → slice_get here k ≡ Some c → in_contact (pair_seen v) ≡ false → in_contact (pair_seen v') ≡ true
    → v.node.contact ≤ v'.node.contact → contact_of c.theirs c.own < contact_of v'.node.seen v'.node.contact
older_entered v v' w here there k c met met' is away now rises =
    let past = entered_past v w here there k c met is away in
    elim (entered_rise v' w here there k c met' is now) [
      | inl same ↦ absurd (let own : c.own ≡ v'.node.contact = ap (λ (x : Contact). x.own) same in omega (arith, past, rises, own))
      | inr before ↦ (let less = before.0 in let low = before.1 in omega (arith, less, low))
    ]

-- And the other was in no younger one.
pub none_younger : (v' w : Sight) (here there : List Contact) (k : ℕ) (c : Contact) → HaveMet v' w here there → slice_get there k ≡ Some c → in_contact (pair_seen v') ≡ true → contact_of c.own c.theirs ≤ contact_of v'.node.seen v'.node.contact
none_younger v' w here there k c met is now =
    let low = entered_not_younger w v' there here k c (turned_met v' w here there met) is now in
    let own = low.0 in
    let theirs = low.1 in
    omega (arith, own, theirs)

-- It is of no later boot of the other.
pub no_later_boot : (v' w : Sight) → AreSeen v' w → boot_in (contact_of v'.node.seen v'.node.contact) ≤ boot_of w.node.contact
no_later_boot v' w h =
    let low = seen_no_higher v' w h in
    let fits = seen_node v' w h in
    let boot = fits.contact in
    let small = fits.boot in
    omega (arith, low, boot, small)

-- and of its own present boot
pub own_boot : (v' w : Sight) → AreSeen v' w → boot_in (contact_of v'.node.contact v'.node.seen) ≡ v'.node.boot
own_boot v' w h =
    let fits = seen_node v' w h in
    let boot = fits.contact in
    let small = fits.seen in
    omega (arith, boot, small)
