-- A tunnel packet that a node may take speaks of a session of the peer on the other bearer, which the node named: so it has a link end there.
use Rattle.std.proofs.Common.{◌≡◌, ◌+◌, ◌-◌, ℕ, Bool, true, List, Some, sym, ap, ◌∙◌, inl, inr, arith}
use Rattle.std.specs.Prelude.{is_some, slice_get}
use Rattle.std.proofs.lemmas.Bool.{cases_lt, true≢false}
use Rattle.tipc_link.specs.Records.{is_tunnel}
use Rattle.tipc_changeover.specs.Links.{Sender}
use Rattle.tipc_changeover.specs.Parts.{Target}
use Rattle.tipc_changeover.specs.Slots.{at, Plain, LinkSlot, Tunnel}
use Rattle.tipc_changeover.proofs.Staying.{reached_sound}
use Rattle.tipc_two_nodes.specs.links.Packets.{AreFor, IsFor}
use Rattle.tipc_two_nodes.specs.links.Traffic.{Lines}
use Rattle.tipc_two_nodes.proofs.links.receiver.Taking.{are_get}
use Rattle.tipc_paired.proofs.sessions.BesideDeeds.{named_began}
use Rattle.tipc_paired.specs.Paired.{ArePaired}
use Rattle.tipc_paired.specs.Views.{View}
use Rattle.tipc_two_nodes.specs.ArrivalLaws.{FarIsMade, NearIsMade}
use Rattle.tipc_two_nodes.specs.Carriages.{AreSessions, BeganIn, IsHad}
use Rattle.tipc_two_nodes.specs.Twins.{takes_in}

-- where a session of the peer began in the contact, there is an end
pub began_made : (x y : View) (b epoch : ℕ) → ArePaired x y → BeganIn y b epoch x.node.seen x.node.contact → is_some (x.wires b).end ≡ true
began_made x y b epoch h k = ap is_some (named_began x y b epoch k.0 h k.1 k.3).end_is

-- such a session is the one of which a tunnel packet speaks
pub target_had : (l : Lines) (z w : Sender) (session place f q : ℕ) (full : Bool) → Target z w → at (z.line session) place ≡ Some (Tunnel f q full) → IsHad l w (l.first + f - 1)
target_had l z w session place f q full target there =
    let T = target.lines session place f q full there in
    let begun = T.begun in
    let shown = T.shown in
    elim (cases_lt f w.session) [
      | inl over ↦ inl (omega arith)
      | inr last ↦ inr (omega arith, T.up (omega arith))
    ]

target_made : (put : List (List ℕ)) (x y : View) (b : ℕ) (l m : Lines) (z w : Sender) → ArePaired x y → Target z w → ((session : ℕ) → AreFor (IsFor put b m) (z.line session) (l.line session)) → AreSessions y x.node.seen x.node.contact b m w
    → (session k : ℕ) (packet : List ℕ) → slice_get (l.line session) k ≡ Some packet → is_tunnel packet ≡ true → is_some (x.wires b).end ≡ true
target_made put x y b l m z w h target lines sessions session k packet there tunnel = of slot.0 slot.1 slot.2 where
  slot : (s : LinkSlot) × (at (z.line session) (k + 1) ≡ Some s) × IsFor put b m s packet
  slot = are_get (IsFor put b m) (z.line session) (l.line session) k packet (lines session) there

  of : (s : LinkSlot) → at (z.line session) (k + 1) ≡ Some s → IsFor put b m s packet → is_some (x.wires b).end ≡ true
  of (Plain i) is for_it = absurd (true≢false (sym tunnel ∙ for_it.plain))
  of (Tunnel f q full) is for_it =
      let begun = for_it.begun in
      began_made x y b (m.first + f - 1) h (sessions.began (m.first + f - 1) (omega arith) (target_had m z w session (k + 1) f q full target is))

-- ---- the pair of a node

pub far_made : FarIsMade
far_made x y message h =
    let S = h.receives.sent x.node.seen x.node.contact in
    let c = takes_in x y h in
    target_made c.traffic.put x y 1 c.traffic.near c.traffic.far c.state.near c.state.far h.paired (reached_sound c.state S.reached).near.target S.lines.near S.far

pub near_made : NearIsMade
near_made x y message h =
    let S = h.receives.sent x.node.seen x.node.contact in
    let c = takes_in x y h in
    target_made c.traffic.put x y 0 c.traffic.far c.traffic.near c.state.far c.state.near h.paired (reached_sound c.state S.reached).far.target S.lines.far S.near
