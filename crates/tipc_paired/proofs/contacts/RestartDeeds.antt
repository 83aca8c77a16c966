-- What a restart leaves of a node's sight of its peer.
use Rattle.std.proofs.Common.{◌≡◌, ◌<◌, ℕ, Some, refl}
use Rattle.tipc_link.specs.Sessions.{SessionEnd}
use Rattle.tipc_paired.proofs.contacts.ContactDeeds.{earlier}
use Rattle.tipc_paired.proofs.wires.Wires.{none_some, session_of_none}
use Rattle.tipc_paired.specs.Deeds.{restarted}
use Rattle.tipc_paired.specs.Paired.{ArePaired}
use Rattle.tipc_paired.specs.Views.{View, session_on}

-- What was numbered, taken and begun is the same, the contact number is higher, and no session is left.
pub record Leaves (x v : View) : Type 0 where
  pub contact : x.node.contact < v.node.contact
  pub begun : (b epoch : ℕ) → (v.wires b).begun epoch ≡ (x.wires b).begun epoch
  pub line : (b epoch : ℕ) → (v.wires b).line epoch ≡ (x.wires b).line epoch
  pub got : (b epoch : ℕ) → (v.wires b).got epoch ≡ (x.wires b).got epoch
  pub none : (b : ℕ) (s : SessionEnd) → session_on (v.wires b) ≡ Some s → ⊥

pub restarts_leaves : (x y : View) (boot : ℕ) → ArePaired x y → x.node.boot < boot → Leaves x (restarted x boot)
restarts_leaves x y boot h more = record {
  contact = earlier x.node.contact x.node.boot boot h.here.node.contact more;
  begun = λ b epoch. refl;
  line = λ b epoch. refl;
  got = λ b epoch. refl;
  none = λ b s on. none_some s _ (session_of_none ((restarted x boot).wires b) refl) on;
}
