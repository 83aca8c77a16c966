-- The way of a message that a node sends: why it is refused, and what is put.
use Rattle.std.proofs.Common.{◌≡◌, ◌-◌, ◌<◌, ℕ, Bool, true, false, List, [], ◌++◌, Option, None, Some, length, refl, sym, ap, subst, ◌∙◌, true≢false, arith}
use Rattle.std.specs.Prelude.{◌==◌, if◌then◌else◌, option_map, slice_index_or, slice_set, unwrap_or}
use Rattle.std.proofs.lemmas.List.{get_or_default}
use Rattle.tipc_types.specs.Address.{node_word}
use Rattle.tipc_types.specs.declared.message_forms.Form.TheVariants as form
use Rattle.tipc_types.specs.declared.message_forms.Message.{Message}
use Rattle.tipc_types.specs.declared.message_forms.Message.TheVariants.{Payload, Items}
use Rattle.tipc_types.specs.declared.node_calls.Answer.{Answer}
use Rattle.tipc_types.specs.declared.node_calls.By.{By}
use Rattle.tipc_types.specs.declared.node_calls.EventNote.{EventNote}
use Rattle.tipc_outside.specs.declared.outgoing.Outgoing.{Outgoing}
use Rattle.tipc_outside.specs.Frames.{Adds, Out}
use Rattle.tipc_outside.proofs.Adding.{adds_none}
use Rattle.tipc_journal.specs.declared.entries.Entry.{Entry}
use Rattle.tipc_journal.specs.Dues.{comes_home}
use Rattle.tipc_journal.specs.Steps.{step_entries}
use Rattle.tipc_message.specs.Wire.{IsPayload}
use Rattle.tipc_pair.specs.Facing.{active, facing, in_contact}
use Rattle.tipc_pair.specs.PairCalls.{load_of as link_load}
use Rattle.tipc_sockets.specs.SocketTables.{SocketTable}
use Rattle.tipc_node.specs.declared.neighbours.Neighbour.{Neighbour}
use Rattle.tipc_node.specs.Messages.{destination_of}
use Rattle.tipc_node.specs.Nodes.{NodeState, is_met, load_with, step_of}
use Rattle.tipc_node.specs.Plans.{DoesUnless, GoesItsWay, link_refusal, message_plan, way_refusal}
use Rattle.tipc_node.specs.Sockets.{kept_answer}
use Rattle.tipc_node.specs.Works.{Puts, PutsOn, GivesFate, Work, addr_of_word, begun, concluded, neighbour_at, work_of}
use Rattle.tipc_node.proofs.work.Making.{node_of}
use Rattle.tipc_node.proofs.work.Planned.{IsCarried}
use Rattle.tipc_pair.proofs.turns.PairPuts.{active_there}
use Rattle.tipc_node.proofs.work.Refusals.{HasPlace, place_at}

-- ---- what is put

pub puts_by : (own peer : ℕ) (xs : List (Option Neighbour)) (s : SocketTable) (inside inside' : List Entry) (x x' : Neighbour) (m : Message) (box box' : Out) → slice_index_or xs peer None ≡ Some x
    → (p : PutsOn own x x' peer m inside inside' box box') → Puts own (work_of xs s inside) peer m (work_of (slice_set xs peer (Some x')) s inside') p.frames
puts_by own peer xs s inside inside' x x' m box box' was p = record {
  neighbour = x;
  was = was;
  sendable = p.sendable;
  then = x';
  puts = p.puts;
  after = ap (work_of (slice_set xs peer (Some x')) s) p.told;
}

-- ---- the node that a message is for

-- a message that has no fate here is for another node
pub is_for_another : (own : ℕ) (m : Message) → IsPayload m → comes_home (addr_of_word own) m ≡ false → (destination_of m).word == own ≡ false
is_for_another own (Payload importance form.Connected from to kind lower upper code droppable body) payload away = away
is_for_another own (Payload importance form.Multicast from to kind lower upper code droppable body) payload away = absurd (true≢false away)
is_for_another own (Payload importance form.Named from to kind lower upper code droppable body) payload away = away
is_for_another own (Payload importance form.Direct from to kind lower upper code droppable body) payload away = away
is_for_another own (Items withdrawal items) payload away = absurd payload

-- a message that is on its way to another node has its place on the link there
pub way_place : (n : NodeState) (m : Message) (limit : ℕ) → IsPayload m → comes_home (addr_of_word n.own) m ≡ false → way_refusal n (destination_of m) limit ≡ None
    → HasPlace (load_with (neighbour_at n.neighbours (destination_of m))) limit
way_place n m limit payload away clear =
    let other = is_for_another n.own m payload away in
    place_at (load_with (neighbour_at n.neighbours (destination_of m))) limit
    (sym (ap (λ (b : Bool). if b then None else link_refusal (load_with (neighbour_at n.neighbours (destination_of m))) limit) other) ∙ clear)

-- and there is contact with the neighbour of its number
pub way_met : (n : NodeState) (m : Message) (limit peer : ℕ) → IsPayload m → comes_home (addr_of_word n.own) m ≡ false → way_refusal n (destination_of m) limit ≡ None → (destination_of m).word ≡ node_word peer
    → is_met (slice_index_or n.neighbours peer None) ≡ true
way_met n m limit peer payload away clear named =
    let has = way_place n m limit payload away clear in
    let place : (destination_of m).word - node_word 0 ≡ peer = omega (arith, named) in
    subst (λ k. is_met (slice_index_or n.neighbours k None) ≡ true) place (by (neighbour_at n.neighbours (destination_of m)) has.1)
  where
    of : (x : Neighbour) (o : Option ℕ) (numbers : ℕ × ℕ) → active x.pair ≡ o → option_map (λ bearer. link_load (facing bearer x.pair).near) o ≡ Some numbers → in_contact x.pair ≡ true
    of x None numbers is none = absurd cc
    of x (Some bearer) numbers is some = active_there x.pair bearer is

    by : {numbers : ℕ × ℕ} (o : Option Neighbour) → load_with o ≡ Some numbers → is_met o ≡ true
    by None none = absurd cc
    by {numbers} (Some x) some = of x (active x.pair) numbers refl some

-- ---- a message whose way was looked at

-- it was sent to, and these frames left
abbrev pub IsSentTo : NodeState → NodeState → By → EventNote → Message → ℕ → Answer → Out → Out → Option Answer → Type 0
IsSentTo n n' by note m limit sent box box' why = IsCarried n n' by note (message_plan n None m limit sent) box box' (unwrap_or why sent)

clear_way : (n n' : NodeState) (by : By) (note : EventNote) (m : Message) (limit : ℕ) (sent : Answer) (box box' : Out) (w : Work) (frames : List Outgoing) → kept_answer sent ≡ sent → way_refusal n (destination_of m) limit ≡ None
    → GoesItsWay n.own (begun n) m w frames → n' ≡ concluded n by note w sent → Adds box box' frames → IsSentTo n n' by note m limit sent box box' None
clear_way n n' by note m limit sent box box' w frames kept none goes after adds = (
  frames,
  subst (λ (o : Option Answer). DoesUnless o n by note (message_plan n None m limit sent) n' frames sent) (sym none) (w, goes, after ∙ ap (concluded n by note w) (sym kept), refl),
  adds,
)

pub sent_home : (n n' : NodeState) (by : By) (note : EventNote) (m : Message) (limit : ℕ) (sent : Answer) (box : Out) → kept_answer sent ≡ sent → way_refusal n (destination_of m) limit ≡ None → comes_home (addr_of_word n.own) m ≡ true
    → ((w : Work) × GivesFate n.own (begun n) false m w [] × (n' ≡ concluded n by note w sent)) → IsSentTo n n' by note m limit sent box box None
sent_home n n' by note m limit sent box kept none home h =
    clear_way n n' by note m limit sent box box h.0 [] kept none (record { home = λ _. h.1; away = λ away. absurd (true≢false (sym home ∙ away)) }) h.2 (adds_none box)

pub sent_away : (n n' : NodeState) (by : By) (note : EventNote) (m : Message) (limit peer : ℕ) (sent : Answer) (box box' : Out) → kept_answer sent ≡ sent → way_refusal n (destination_of m) limit ≡ None → comes_home (addr_of_word n.own) m ≡ false → (destination_of m).word ≡ node_word peer
    → ((w : Work) × (frames : List Outgoing) × Puts n.own (begun n) peer m w frames × (n' ≡ concluded n by note w sent) × Adds box box' frames) → IsSentTo n n' by note m limit sent box box' None
sent_away n n' by note m limit peer sent box box' kept none away named h =
    let place : peer ≡ (destination_of m).word - node_word 0 = omega (arith, named) in
    clear_way n n' by note m limit sent box box' h.0 h.1 kept none
    (record { home = λ home. absurd (true≢false (sym home ∙ away)); away = λ _. subst (λ k. Puts n.own (begun n) k m h.0 h.1) place h.2 }) h.3 h.4

-- ---- the node after it

-- what is read at a place is what stands there
pub read_at : (xs : List (Option Neighbour)) (place : ℕ) (x : Option Neighbour) (y : Neighbour) → place < length xs → x ≡ slice_index_or xs place x → x ≡ Some y → slice_index_or xs place None ≡ Some y
read_at xs place x y within read is = get_or_default xs place None x within ∙ sym read ∙ is

pub home_sent : (n k : NodeState) (by : By) (note : EventNote) (m : Message) (sent : Answer) (own : ℕ) (xs : List (Option Neighbour)) (s : SocketTable) (es told journal : List Entry) (promised : ℕ) → k ≡ n → own ≡ k.own → xs ≡ k.neighbours → es ≡ []
    → GivesFate own (work_of xs k.sockets es) false m (work_of xs s told) [] → journal ≡ k.journal ++ step_entries (step_of by note told sent) → promised ≡ k.promised - 1
    → (w : Work) × GivesFate n.own (begun n) false m w [] × (node_of k k.neighbours s journal promised ≡ concluded n by note w sent)
home_sent n k by note m sent own xs s es told journal promised same node there empty settles recorded used =
    subst (λ (z : NodeState). (w : Work) × GivesFate z.own (begun z) false m w [] × (node_of k k.neighbours s journal promised ≡ concluded z by note w sent)) same (
      work_of k.neighbours s told,
      subst (λ fs. GivesFate k.own (work_of k.neighbours k.sockets fs) false m (work_of k.neighbours s told) []) empty
          (subst (λ ys. GivesFate k.own (work_of ys k.sockets es) false m (work_of ys s told) []) there (subst (λ word. GivesFate word (work_of xs k.sockets es) false m (work_of xs s told) []) node settles)),
      (λ i. node_of k k.neighbours s (recorded i) (used i)),
    )

pub away_sent : (n k : NodeState) (by : By) (note : EventNote) (peer : ℕ) (m : Message) (sent : Answer) (own : ℕ) (ys : List (Option Neighbour)) (s : SocketTable) (es told journal : List Entry) (promised : ℕ) (box box' : Out) → k ≡ n → own ≡ k.own → es ≡ [] → s ≡ k.sockets
    → ((frames : List Outgoing) × Puts own (work_of k.neighbours k.sockets es) peer m (work_of ys k.sockets told) frames × Adds box box' frames) → journal ≡ k.journal ++ step_entries (step_of by note told sent) → promised ≡ k.promised - 1
    → (w : Work) × (frames : List Outgoing) × Puts n.own (begun n) peer m w frames × (node_of k ys s journal promised ≡ concluded n by note w sent) × Adds box box' frames
away_sent n k by note peer m sent own ys s es told journal promised box box' same node empty kept p recorded used =
    subst (λ (z : NodeState). (w : Work) × (frames : List Outgoing) × Puts z.own (begun z) peer m w frames × (node_of k ys s journal promised ≡ concluded z by note w sent) × Adds box box' frames) same (
      work_of ys k.sockets told,
      p.0,
      subst (λ fs. Puts k.own (work_of k.neighbours k.sockets fs) peer m (work_of ys k.sockets told) p.0) empty (subst (λ word. Puts word (work_of k.neighbours k.sockets es) peer m (work_of ys k.sockets told) p.0) node p.1),
      (λ i. node_of k ys (kept i) (recorded i) (used i)),
      p.2,
    )
