-- While a poised world settles no more is under way than when the call began.
use Rattle.std.proofs.Common.{◌≡◌, ◌∙◌, ℕ, false, [], ◌∷◌, Option, Some, None, length, refl, ap, arith}
use Rattle.std.specs.Prelude.{cond, count_by}
use Rattle.std.proofs.lemmas.List.Sums.{sum_by-append, sum_by-cons}
use Rattle.tipc_types.specs.declared.link_words.Why.{Why}
use Rattle.tipc_types.specs.declared.node_calls.Answer.TheVariants as answer
use Rattle.tipc_types.specs.declared.node_calls.Arrival.TheVariants as arrival
use Rattle.tipc_types.specs.declared.node_calls.By.{By}
use Rattle.tipc_types.specs.declared.node_calls.EventNote.TheVariants as note
use Rattle.tipc_journal.specs.declared.entries.Entry.{Entry}
use Rattle.tipc_journal.specs.declared.entries.Entry.TheVariants as entry
use Rattle.tipc_node.specs.Nodes.{NodeState, is_change, stop_of, stopped_node}
use Rattle.tipc_settling.specs.Loads.{AddsNothing, IsCalm, PutsNothing}
use Rattle.tipc_settling.proofs.Calm.{arrives_adds, arrives_puts}
use Rattle.tipc_settling.proofs.Ticks.{tick_adds, tick_puts}
use Rattle.tipc_replay.specs.declared.events.WorldEvent.TheVariants.{Arrive, Call}
use Rattle.tipc_world.specs.declared.places.Places.{Places}
use Rattle.tipc_world.specs.CalmWorlds.{IsCalmWorld, IsFromMended}
use Rattle.tipc_world.specs.Ends.{ends_of}
use Rattle.tipc_world.specs.Measures.{NoMoreIsUnderWay, NoMoreWasPut, weight_ever, weight_given, weight_put}
use Rattle.tipc_world.specs.Poised.{IsPoised}
use Rattle.tipc_world.specs.RoundParts.{FrameArrives, IsKept}
use Rattle.tipc_world.specs.Settling.{Rounds}
use Rattle.tipc_world.specs.States.{WorldState}
use Rattle.tipc_world.proofs.rounds.AnyPeer.{arrival_is_calm, tick_is_calm}
use Rattle.tipc_world.proofs.rounds.CalmWalk.{CalmArrivalsKeep, CalmTicksKeep, call_keeps}
use Rattle.tipc_world.proofs.rounds.Totals.{totals_on}

-- what counts an entry that tells of a link or a contact
tells : Entry → ℕ
tells e = cond (is_change e) 1 0

-- the step of a frame that is stopped tells of none
stopped_calm : (n n' : NodeState) (by : By) (bearer number : ℕ) (reason : Why) → n' ≡ stopped_node n by bearer number reason → IsCalm n n'
unfolding tells
stopped_calm n n' by bearer number reason after =
    let event = note.Arrive bearer number in
    let first = entry.Step by event in
    let last = entry.Answered by.caller by.call (answer.Arrived (arrival.Ignored reason)) in
    let all = sum_by-append tells n.journal (first ∷ last ∷ []) in
    let one = sum_by-cons tells first (last ∷ []) in
    let two = sum_by-cons tells last [] in
    ap (λ (m : NodeState). count_by is_change m.journal) after ∙ omega (arith, all, one, two)

-- nothing of links and contacts is told of a frame that arrives, whether it is stopped or not
pub each_arrival_calm : (start : WorldState) → IsKept start → IsPoised start → (old new : WorldState) (a : FrameArrives (ends_of start.air) old new) → IsCalmWorld start old → IsFromMended start a.bearer a.frame → IsCalm a.arrives.before.node a.arrives.after.node
each_arrival_calm start kept poised old new a g said = by (stop_of a.arrives.before.node a.bearer a.frame.frame) refl
  where
    by : (o : Option Why) → stop_of a.arrives.before.node a.bearer a.frame.frame ≡ o → IsCalm a.arrives.before.node a.arrives.after.node
    by None free = arrival_is_calm start kept poised old new a g said free
    by (Some reason) stops = stopped_calm a.arrives.before.node a.arrives.after.node _ a.bearer (length a.arrives.before.arrivals) reason (a.arrives.does.arrives.stopped reason stops).0

-- each tick adds nothing, to what was under way at any moment
pub ticks_add_nothing : (start base : WorldState) → IsKept start → CalmTicksKeep start (NoMoreIsUnderWay base)
ticks_add_nothing start base kept old new node answered h g heard so =
    let calm = tick_is_calm start old new node answered h (g.on.kept kept) g heard in
    let adds : AddsNothing h.before.node h.after.node = tick_adds h.before.node h.after.node _ h.frames answered h.does.performs h.does.turn calm in
    totals_on weight_put weight_given base old new (Call node note.Tick) [] answered h (omega (arith, adds)) so

pub arrivals_add_nothing : (start base : WorldState) → IsKept start → IsPoised start → CalmArrivalsKeep start (NoMoreIsUnderWay base)
arrivals_add_nothing start base kept poised old new a g said so =
    let h = a.arrives in
    let adds : AddsNothing h.before.node h.after.node = arrives_adds h.before.node h.after.node _ a.bearer (length h.before.arrivals) a.frame.frame h.frames h.does.arrived h.does.arrives h.does.turn (each_arrival_calm start kept poised old new a g said) in
    totals_on weight_put weight_given base old new (Arrive a.node a.bearer a.place) a.frame.frame a.answered h (omega (arith, adds)) so

-- each tick puts nothing
pub ticks_put_nothing : (start base : WorldState) → IsKept start → CalmTicksKeep start (NoMoreWasPut base)
ticks_put_nothing start base kept old new node answered h g heard so =
    let calm = tick_is_calm start old new node answered h (g.on.kept kept) g heard in
    let puts : PutsNothing h.before.node h.after.node = tick_puts h.before.node h.after.node _ h.frames answered h.does.performs h.does.turn calm in
    totals_on weight_ever weight_given base old new (Call node note.Tick) [] answered h (omega (arith, puts)) so

pub arrivals_put_nothing : (start base : WorldState) → IsKept start → IsPoised start → CalmArrivalsKeep start (NoMoreWasPut base)
arrivals_put_nothing start base kept poised old new a g said so =
    let h = a.arrives in
    let puts : PutsNothing h.before.node h.after.node = arrives_puts h.before.node h.after.node _ a.bearer (length h.before.arrivals) a.frame.frame h.frames h.does.arrived h.does.arrives h.does.turn (each_arrival_calm start kept poised old new a g said) in
    totals_on weight_ever weight_given base old new (Arrive a.node a.bearer a.place) a.frame.frame a.answered h (omega (arith, puts)) so

pub never_grows : (start : WorldState) (rounds : ℕ) (places : Places) (now : WorldState) → IsKept start → IsPoised start → Rounds start rounds places now → now.lost ≡ false → NoMoreIsUnderWay start now
never_grows start rounds places now kept poised made whole = call_keeps start (NoMoreIsUnderWay start) rounds places now kept poised (ticks_add_nothing start start kept) (arrivals_add_nothing start start kept poised) made whole (omega arith)
