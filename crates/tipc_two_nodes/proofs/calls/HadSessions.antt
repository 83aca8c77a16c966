-- The sessions that a sender has had began in the contact.
use Rattle.std.proofs.Common.{◌≡◌, ◌≤◌, ℕ, List, Some, sym, ◌∙◌, subst, inl, inr, arith}
use Rattle.tipc_link.specs.Sessions.{SessionEnd}
use Rattle.tipc_changeover.specs.Links.{Sender, Up}
use Rattle.tipc_changeover.specs.Slots.{LinkSlot}
use Rattle.tipc_two_nodes.specs.links.Sending.{IsSender}
use Rattle.tipc_two_nodes.specs.links.Traffic.{Lines}
use Rattle.tipc_paired.specs.Paired.{ArePaired}
use Rattle.tipc_paired.specs.Views.{Begun, View, epoch_on, session_on}
use Rattle.tipc_two_nodes.specs.Carriages.{BeganIn, IsHad, Numbers}
use Rattle.tipc_two_nodes.specs.Numbers.{AreNumbers}
use Rattle.tipc_two_nodes.proofs.contacts.Leaving.{epoch_seen}
use Rattle.tipc_two_nodes.proofs.calls.Linking.{has_session, seen_at}

-- the present session
pub session_began : (x y : View) (b : ℕ) (s : SessionEnd) → ArePaired x y → session_on (x.wires b) ≡ Some s → BeganIn x b s.epoch x.node.contact x.node.seen
session_began x y b s h on =
    let g = (h.here.wires b).going s on in
    let now = (h.here.epochs b).now s g.begun on g.begun_is in
    (g.begun, g.begun_is, now.0, now.1)

-- that of a link that is up
up_began : (x y : View) (b : ℕ) → ArePaired x y → (seen_at x b).state ≡ Up → BeganIn x b (epoch_on x.node (x.wires b)) x.node.contact x.node.seen
up_began x y b h up = (let has = has_session x y b h up in subst (λ epoch. BeganIn x b epoch x.node.contact x.node.seen) has.epoch (session_began x y b has.session h has.on))

-- so did those that are over
pub had_began : (P : LinkSlot → List ℕ → Type 0) (x y : View) (n : Numbers) (b : ℕ) (l : Lines) (z : Sender) → ArePaired x y → AreNumbers x y n → l.first ≡ n.first b x.node.contact → IsSender P l (seen_at x b) z → (epoch : ℕ) → l.first ≤ epoch → IsHad l z epoch
    → BeganIn x b epoch x.node.contact x.node.seen
had_began P x y n b l z h are first sender epoch low (inl over) =
    let place = sender.epoch in
    let now = epoch_seen x b in
    are.each b epoch (omega arith) (omega arith)
had_began P x y n b l z h are first sender epoch low (inr present) =
    let place = sender.epoch in
    let now = epoch_seen x b in
    let at = present.0 in
    let same : epoch_on x.node (x.wires b) ≡ epoch = omega arith in
    subst (λ k. BeganIn x b k x.node.contact x.node.seen) same (up_began x y b h (sym sender.state ∙ present.1))

-- ---- a node that sends

-- what a piece of a call at the sender keeps, beside what it sends
pub record KeepsBegun (x x' y : View) (n : Numbers) : Type 0 where
  pub paired : ArePaired x y
  pub paired_then : ArePaired x' y
  pub are : AreNumbers x' y n
  pub begun : (b epoch : ℕ) (g : Begun) → (x.wires b).begun epoch ≡ Some g → (x'.wires b).begun epoch ≡ Some g
