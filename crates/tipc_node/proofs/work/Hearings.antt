-- What a neighbour makes of a packet that was prepared for it.
use Rattle.std.proofs.Common.{◌≡◌, true, false, Option, Some, sym, ap, subst, ◌∙◌}
use Rattle.std.specs.Prelude.{unwrap_or}
use Rattle.tipc_outside.specs.Frames.{Out}
use Rattle.tipc_header.specs.Spelling.{view}
use Rattle.tipc_pair.specs.declared.changes.PairOutcome.{PairOutcome}
use Rattle.tipc_pair.specs.Preparing.{Prepares}
use Rattle.tipc_types.specs.declared.message_forms.Flow.TheVariants.{Zero}
use Rattle.tipc_node.specs.declared.frames.Due.{Due}
use Rattle.tipc_node.specs.declared.frames.Hearing.{Hearing}
use Rattle.tipc_node.specs.declared.packets.HeardPacket.{HeardPacket}
use Rattle.tipc_node.specs.declared.neighbours.Neighbour.{Neighbour}
use Rattle.tipc_node.specs.Hearings.{HasHeard, IsPrepared}
use Rattle.tipc_node.specs.Casting.{stated_in}
use Rattle.tipc_node.specs.Neighbours.{HearsAt}
use Rattle.tipc_pair.specs.Contacts.{begins, ends}
use Rattle.tipc_node.specs.Nodes.{arrival_answer, arrival_deliveries}
use Rattle.tipc_node.proofs.work.Neighbouring.{HasTaken}

pub same_neighbour : (x y : Neighbour) → Some x ≡ Some y → x ≡ y
same_neighbour x y is = ap (λ (o : Option Neighbour). unwrap_or o x) is

-- it was prepared for the neighbour that is there
pub prepared_there : (place : Option Neighbour) (x : Neighbour) (d : Due) (h : Hearing) → place ≡ Some x → IsPrepared place d h → IsPrepared (Some x) d h
prepared_there place x d h was prepared = subst (λ o. IsPrepared o d h) was prepared

pub told_there : (place : Option Neighbour) (x : Neighbour) (d : Due) (h : Hearing) → place ≡ Some x → IsPrepared place d h
    → Prepares x.pair d.first d.second (view d.packet) h.number h.shown h.arriving
told_there place x d h was prepared =
    subst (λ (z : Neighbour). Prepares z.pair d.first d.second (view d.packet) h.number h.shown h.arriving) (same_neighbour prepared.neighbour x (sym prepared.was ∙ was)) prepared.arriving

-- what was taken gives what was prepared
pub taken_heard : (x : Neighbour) (d : Due) (h : Hearing) (y : Neighbour) (given : HeardPacket) (box box' : Out) → IsPrepared (Some x) d h
    → HasTaken x h.arriving.bearer d.first d.second (view d.packet) h.number h.shown h.arriving.outcome given.changes y box box' → given.deliveries.items ≡ h.deliveries.items → given.answer ≡ h.answer → given.stated ≡ h.stated
    → (begins given.changes ≡ true → ends given.changes ≡ false) → HasHeard x d h.number h.shown y given box box'
taken_heard x d h y given box box' prepared took deliveries answer stated once =
    let o = took.0 in
    let same = same_neighbour prepared.neighbour x (sym prepared.was) in
    let there : h.deliveries.items ≡ arrival_deliveries Zero d.peer x.pair h.arriving.outcome = prepared.deliveries ∙ ap (λ (z : Neighbour). arrival_deliveries Zero d.peer z.pair h.arriving.outcome) same in
    record {
      out = o;
      hears = subst (λ b. HearsAt x b d.first d.second (view d.packet) h.number h.shown o) prepared.bearer took.1;
      after = took.4;
      changes = sym took.3;
      stated = stated ∙ (prepared.stated ∙ ap (stated_in d.packet.header) (sym took.2));
      once = once;
      deliveries = deliveries ∙ (there ∙ ap (arrival_deliveries Zero d.peer x.pair) (sym took.2));
      answer = answer ∙ (prepared.answer ∙ (ap (λ (g : PairOutcome). arrival_answer g h.deliveries.items) (sym took.2) ∙ ap (arrival_answer o.given) (sym deliveries)));
      adds = took.5;
    }
