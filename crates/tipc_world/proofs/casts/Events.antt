-- What a tick and an arrival of a calm world make of the broadcast link of their node.
use Rattle.std.specs.Prelude.{cond, count_by}
use Rattle.std.proofs.Common.{◌≡◌, ◌+◌, ◌∙◌, ℕ, Bool, true, false, if◌then◌else◌, List, [], ◌∷◌, ◌++◌, Option, Some, None, length, refl, ap, arith}
use Rattle.std.proofs.lemmas.List.Sums.{sum_by-append}
use Rattle.tipc_types.specs.Address.{node_word}
use Rattle.tipc_types.specs.declared.link_words.BroadcastState.{BroadcastState}
use Rattle.tipc_types.specs.declared.link_words.Why.{Why}
use Rattle.tipc_types.specs.declared.node_calls.Answer.{Answer}
use Rattle.tipc_types.specs.declared.node_calls.Arrival.{Arrival}
use Rattle.tipc_types.specs.declared.node_calls.By.{By}
use Rattle.tipc_types.specs.declared.node_calls.EventNote.TheVariants as note
use Rattle.tipc_outside.specs.declared.outgoing.Outgoing.{Outgoing}
use Rattle.tipc_header.specs.declared.frames.FrameKind.{FrameKind}
use Rattle.tipc_header.specs.declared.frames.FrameKind.TheVariants.{Casts, Finds, Links}
use Rattle.tipc_header.specs.Frames.{kind_in}
use Rattle.tipc_broadcast.specs.Casting.{Casting}
use Rattle.tipc_broadcast.specs.Deeds.{after_deeds}
use Rattle.tipc_node.specs.declared.neighbours.Upkeep.TheVariants as upkeep
use Rattle.tipc_node.specs.Arrivals.{Arrives}
use Rattle.tipc_node.specs.Calls.{Performs}
use Rattle.tipc_node.specs.CastArrivals.{members_in}
use Rattle.tipc_node.specs.Casting.{arrival_deeds, contact_deeds, stated_in}
use Rattle.tipc_node.specs.Discovery.{found_node, has_found}
use Rattle.tipc_node.specs.Neighbours.{Done}
use Rattle.tipc_node.specs.Nodes.{NodeState, changes_at, deeds_all, entries_all, entries_one, is_change, parts_of, stop_of}
use Rattle.tipc_settling.specs.Loads.{IsCalm}
use Rattle.tipc_settling.proofs.Calm.{heard_none, no_changes}
use Rattle.tipc_settling.proofs.Ticks.{tick_entries}
use Rattle.tipc_replay.specs.declared.events.WorldEvent.TheVariants.{Call}
use Rattle.tipc_world.specs.CalmWorlds.{IsCalmWorld, IsFromMended}
use Rattle.tipc_world.specs.Ends.{ends_of}
use Rattle.tipc_world.specs.Poised.{IsPoised}
use Rattle.tipc_world.specs.RoundParts.{FrameArrives, HappensWhole, IsKept}
use Rattle.tipc_world.specs.States.{WorldState}
use Rattle.tipc_world.specs.StillWorlds.{HasHeardAll}
use Rattle.tipc_world.proofs.casts.Links.{CastEvent, hears, rests, states}
use Rattle.tipc_world.proofs.rounds.AnyPeer.{arrival_is_calm, tick_is_calm}

-- ---- a tick

-- where no change of a link or a contact is told, nothing is done with a peer
no_deeds : (number : ℕ) (parts : List (Option Done)) → count_by is_change (entries_all number parts) ≡ 0 → deeds_all number parts ≡ []
unfolding entries_all deeds_all
no_deeds number [] none = refl
no_deeds number (x ∷ xs) none =
    let both = sum_by-append (λ e. cond (is_change e) 1 0) (entries_one number x) (entries_all (number + 1) xs) in
    let quiet = no_changes number (changes_at x) (entries_all (number + 1) xs) none in
    ap (λ cs. contact_deeds number cs ++ deeds_all (number + 1) xs) quiet ∙ no_deeds (number + 1) xs (omega (arith, none, both))

tick_rests : (n n' : NodeState) (by : By) (frames : List Outgoing) (answered : Answer) → Performs n by note.Tick n' frames answered → IsCalm n n' → n'.casting ≡ n.casting
tick_rests n n' by frames answered h calm =
    ap (λ (m : NodeState). m.casting) h.carried.0 ∙ ap (λ ds. after_deeds ds n.casting) (no_deeds 0 (parts_of upkeep.Tick n) (tick_entries n n' by frames answered h calm))

-- it leaves the broadcast link
pub tick_cast : (start old new : WorldState) (node : ℕ) (answered : Answer) (h : HappensWhole old new (Call node note.Tick) [] answered) → IsKept start → IsCalmWorld start old → HasHeardAll node h.before → h.after.node.casting ≡ h.before.node.casting
tick_cast start old new node answered h kept g heard =
    tick_rests h.before.node h.after.node _ h.frames answered h.does.performs (tick_is_calm start old new node answered h (g.on.kept kept) g heard)

-- ---- an arrival

state_event : (v u : Casting) (peer : ℕ) (o : Option BroadcastState) → u ≡ after_deeds (arrival_deeds peer [] o) v → CastEvent v u
state_event v u peer None is = rests is
state_event v u peer (Some seen) is = states (node_word peer) seen is

heard_event : (n n' : NodeState) (by : By) (bearer number : ℕ) (bytes : List ℕ) (frames : List Outgoing) (answered : Arrival) (kind : FrameKind) → Arrives n n' by bearer number bytes frames answered → IsCalm n n' → stop_of n bearer bytes ≡ None
    → kind_in bytes ≡ kind → CastEvent n.casting n'.casting
heard_event n n' by bearer number bytes frames answered Links a calm passes is =
    let h = a.heard passes is in
    let stated = stated_in h.packet.header h.out.given in
    let none = (heard_none n n' by bearer number bytes frames answered h calm).0 in
    state_event n.casting n'.casting h.peer stated (ap (λ (m : NodeState). m.casting) h.after ∙ ap (λ cs. after_deeds (arrival_deeds h.peer cs stated) n.casting) none)
heard_event n n' by bearer number bytes frames answered Casts a calm passes is =
    let h = a.cast passes is in
    hears h.first (members_in h.second) number h.packet (ap (λ (m : NodeState). m.casting) h.after ∙ h.casting_is)
heard_event n n' by bearer number bytes frames answered Finds a calm passes is =
    let d = a.discovered passes is in
    rests (ap (λ (m : NodeState). m.casting) d.after ∙ by_found (has_found n bearer d.peer) d.peer)
  where
    by_found : (found : Bool) (peer : ℕ) → (if found then n else found_node n peer bearer).casting ≡ n.casting
    by_found true peer = refl
    by_found false peer = refl

pub arrival_cast : (start : WorldState) → IsKept start → IsPoised start → (old new : WorldState) (a : FrameArrives (ends_of start.air) old new) → IsCalmWorld start old → IsFromMended start a.bearer a.frame → CastEvent a.arrives.before.node.casting a.arrives.after.node.casting
arrival_cast start kept poised old new a g said = on (stop_of a.arrives.before.node a.bearer a.frame.frame) refl
  where
    on : (o : Option Why) → stop_of a.arrives.before.node a.bearer a.frame.frame ≡ o → CastEvent a.arrives.before.node.casting a.arrives.after.node.casting
    on (Some reason) is = rests (ap (λ (m : NodeState). m.casting) (a.arrives.does.arrives.stopped reason is).0)
    on None is =
        heard_event a.arrives.before.node a.arrives.after.node _ a.bearer (length a.arrives.before.arrivals) a.frame.frame a.arrives.frames a.arrives.does.arrived (kind_in a.frame.frame) a.arrives.does.arrives
        (arrival_is_calm start kept poised old new a g said is) is refl
