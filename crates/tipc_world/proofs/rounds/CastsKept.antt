-- Neither a tick nor an arrival makes a node's broadcast link accept a packet; and it counts its packets.
use Rattle.std.proofs.Common.{◌≡◌, ◌∙◌, ℕ, zero, suc, Bool, true, false, List, [], ◌∷◌, Option, Some, None, if◌then◌else◌, refl, ap, arith}
use Rattle.std.specs.List.{list_all}
use Rattle.std.proofs.lemmas.Bool.{and_parts}
use Rattle.std.proofs.lemmas.List.{length-drop}
use Rattle.tipc_types.specs.declared.link_words.BroadcastState.{BroadcastState}
use Rattle.tipc_types.specs.declared.link_words.Why.{Why}
use Rattle.tipc_types.specs.declared.node_calls.Answer.{Answer}
use Rattle.tipc_types.specs.declared.node_calls.Arrival.{Arrival}
use Rattle.tipc_types.specs.declared.node_calls.By.{By}
use Rattle.tipc_types.specs.declared.node_calls.EventNote.TheVariants as note
use Rattle.tipc_outside.specs.declared.outgoing.Outgoing.{Outgoing}
use Rattle.tipc_header.specs.declared.frames.FrameKind.{FrameKind}
use Rattle.tipc_header.specs.declared.frames.FrameKind.TheVariants.{Casts, Finds, Links}
use Rattle.tipc_header.specs.Frames.{kind_in}
use Rattle.tipc_send_window.specs.Sending.{Sending, passed_over, advanced, room}
use Rattle.tipc_broadcast.specs.declared.contacts.Contact.{Contact}
use Rattle.tipc_broadcast.specs.Casting.{Casting, accepted, answered, credited, flushed, informed, left_with, moved_up, settled, stating, with_contacts, with_sending}
use Rattle.tipc_broadcast.specs.Contacts.{without}
use Rattle.tipc_broadcast.specs.Deeds.{CastDeed, after_deed, after_deeds, sends_nothing}
use Rattle.tipc_pair.specs.declared.transitions.Transition.{Transition}
use Rattle.tipc_node.specs.declared.neighbours.Upkeep.TheVariants as upkeep
use Rattle.tipc_node.specs.Arrivals.{Arrives, heard_deeds}
use Rattle.tipc_node.specs.Casting.{arrival_deeds, is_parting, state_deeds, stated_in}
use Rattle.tipc_node.specs.Discovery.{found_node, has_found}
use Rattle.tipc_node.specs.Nodes.{NodeState, stop_of, upkeep_deeds}
use Rattle.tipc_node.proofs.turns.Upkeeping.{upkeep_parts}
use Rattle.tipc_replay.specs.Effects.{Makes, Meets}
use Rattle.tipc_replay.specs.States.{MemberState}

-- ---- deeds

-- packets that move up are accepted already
advanced_same : (s : Sending) → accepted (advanced (room s) s) ≡ accepted s
advanced_same s = (let fewer = length-drop (room s) s.waiting in omega (arith, fewer))

flushed_same : (v : Casting) → accepted (flushed v).sending ≡ accepted v.sending
unfolding flushed
flushed_same v = advanced_same v.sending

settled_same : (v : Casting) → accepted (settled v).sending ≡ accepted v.sending
unfolding settled
settled_same v = refl

moved_same : (n : ℕ) (v : Casting) → accepted (moved_up n v).sending ≡ accepted v.sending
unfolding moved_up
moved_same zero v = refl
moved_same (suc n) v = flushed_same (settled (moved_up n v)) ∙ (settled_same (moved_up n v) ∙ moved_same n v)

-- a number that is passed over was given to one that was accepted
passed_same : (v : Casting) → accepted (with_sending v (passed_over v.sending)).sending ≡ accepted v.sending
passed_same v = omega arith

left_same : (contacts : List Contact) (v : Casting) → accepted (left_with contacts v).sending ≡ accepted v.sending
left_same [] v = passed_same v
left_same (c ∷ contacts) v = moved_same 6 v

stating_same : (v : Casting) (peer : ℕ) (seen : BroadcastState) → accepted (stating v peer seen).sending ≡ accepted v.sending
stating_same v peer seen = by seen.in_step
  where
    u : Casting
    u = informed v peer seen.start seen.next

    by : (t : Bool) → accepted (if t then answered u peer seen.acknowledged else u).sending ≡ accepted v.sending
    by true = flushed_same (settled (credited u peer seen.acknowledged)) ∙ settled_same (credited u peer seen.acknowledged)
    by false = refl

deed_same : (d : CastDeed) (v : Casting) → sends_nothing d ≡ true → accepted (after_deed d v).sending ≡ accepted v.sending
deed_same (CastDeed.joins peer boot) v none = refl
deed_same (CastDeed.leaves peer) v none = left_same (without peer v.contacts) (with_contacts v (without peer v.contacts))
deed_same (CastDeed.states peer seen) v none = stating_same v peer seen
deed_same (CastDeed.bears bearer is_mended) v none = refl
deed_same (CastDeed.hears boot members by packet) v none = refl
deed_same (CastDeed.sends pieces) v none = absurd (let wrong : false ≡ true = none in cc)

-- deeds by which no message is sent leave what was accepted
pub deeds_same : (ds : List CastDeed) (v : Casting) → list_all sends_nothing ds ≡ true → accepted (after_deeds ds v).sending ≡ accepted v.sending
deeds_same [] v none = refl
deeds_same (d ∷ ds) v none = (let both = and_parts (sends_nothing d) (list_all sends_nothing ds) none in deeds_same ds (after_deed d v) both.1 ∙ deed_same d v both.0)

-- ---- the deeds of an event

parting_sends_none : (ds : List CastDeed) → list_all is_parting ds ≡ true → list_all sends_nothing ds ≡ true
parting_sends_none [] is = refl
parting_sends_none (CastDeed.bears bearer is_mended ∷ ds) is = parting_sends_none ds is
parting_sends_none (CastDeed.leaves peer ∷ ds) is = parting_sends_none ds is
parting_sends_none (CastDeed.joins peer boot ∷ ds) is = absurd (let wrong : false ≡ true = is in cc)
parting_sends_none (CastDeed.states peer seen ∷ ds) is = absurd (let wrong : false ≡ true = is in cc)
parting_sends_none (CastDeed.hears boot members by packet ∷ ds) is = absurd (let wrong : false ≡ true = is in cc)
parting_sends_none (CastDeed.sends pieces ∷ ds) is = absurd (let wrong : false ≡ true = is in cc)

state_sends_none : (peer : ℕ) (stated : Option BroadcastState) → list_all sends_nothing (state_deeds peer stated) ≡ true
state_sends_none peer None = refl
state_sends_none peer (Some seen) = refl

arrival_sends_none : (peer : ℕ) (changes : List Transition) (stated : Option BroadcastState) → list_all sends_nothing (arrival_deeds peer changes stated) ≡ true
arrival_sends_none peer [] stated = state_sends_none peer stated
arrival_sends_none peer (Transition.LinkUp bearer own theirs ∷ ts) stated = arrival_sends_none peer ts stated
arrival_sends_none peer (Transition.LinkDown bearer cause shown ∷ ts) stated = arrival_sends_none peer ts stated
arrival_sends_none peer (Transition.ContactUp contact ∷ ts) stated = arrival_sends_none peer ts stated
arrival_sends_none peer (Transition.ContactDown contact states shown ∷ ts) stated = arrival_sends_none peer ts stated

-- ---- at a node

pub tick_casts : (by : By) (m m' : MemberState) (frames : List Outgoing) (answered : Answer) → Makes by note.Tick m m' frames answered → accepted m'.node.casting.sending ≡ accepted m.node.casting.sending
tick_casts by m m' frames answered h =
    ap (λ (n : NodeState). accepted n.casting.sending) h.performs.carried.0 ∙ deeds_same (upkeep_deeds upkeep.Tick m.node) m.node.casting (parting_sends_none (upkeep_deeds upkeep.Tick m.node) (upkeep_parts m.node upkeep.Tick))

heard_casts : (n n' : NodeState) (by : By) (bearer number : ℕ) (bytes : List ℕ) (frames : List Outgoing) (answered : Arrival) (kind : FrameKind) → Arrives n n' by bearer number bytes frames answered
    → stop_of n bearer bytes ≡ None → kind_in bytes ≡ kind → accepted n'.casting.sending ≡ accepted n.casting.sending
heard_casts n n' by bearer number bytes frames answered Links a passes is =
    let h = a.heard passes is in
    ap (λ (m : NodeState). accepted m.casting.sending) h.after ∙ deeds_same (heard_deeds h.peer h.packet h.out) n.casting (arrival_sends_none h.peer h.out.course.changes (stated_in h.packet.header h.out.given))
heard_casts n n' by bearer number bytes frames answered Casts a passes is = (let h = a.cast passes is in ap (λ (m : NodeState). accepted m.casting.sending) h.after ∙ ap (λ (v : Casting). accepted v.sending) h.casting_is)
heard_casts n n' by bearer number bytes frames answered Finds a passes is =
    let d = a.discovered passes is in
    ap (λ (m : NodeState). accepted m.casting.sending) d.after ∙ by_found (has_found n bearer d.peer) d.peer
  where
    by_found : (found : Bool) (peer : ℕ) → accepted (if found then n else found_node n peer bearer).casting.sending ≡ accepted n.casting.sending
    by_found true peer = refl
    by_found false peer = refl

pub arrival_casts : (by : By) (bearer place : ℕ) (bytes : List ℕ) (m m' : MemberState) (frames : List Outgoing) (answered : Answer) → Meets by bearer place bytes m m' frames answered → accepted m'.node.casting.sending ≡ accepted m.node.casting.sending
arrival_casts by bearer place bytes m m' frames answered h = on (stop_of m.node bearer bytes) refl
  where
    on : (o : Option Why) → stop_of m.node bearer bytes ≡ o → accepted m'.node.casting.sending ≡ accepted m.node.casting.sending
    on (Some reason) is = ap (λ (n : NodeState). accepted n.casting.sending) (h.arrives.stopped reason is).0
    on None is = heard_casts m.node m'.node by bearer _ bytes frames h.arrived (kind_in bytes) h.arrives is refl
