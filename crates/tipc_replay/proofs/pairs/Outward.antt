-- Each frame that leaves a node may come into the air: it is addressed by its kind, on one of the two bearers, and has a frame's size.
use Rattle.std.proofs.Common.{◌≡◌, ◌⊎◌, ◌<◌, ◌^◌, ℕ, true, List, [], Option, Some, None, length, slice_index_or, slice_set, refl, sym, ap, ◌∙◌, subst, inl, inr, arith}
use Rattle.std.specs.Prelude.{All, Bool, false, is_some, nat_lt, ◌||◌, ◌&&◌}
use Rattle.std.proofs.lemmas.Bool.Decides.{nat_tests}
use Rattle.std.proofs.lemmas.List.Elements.{All-nil, All-take}
use Rattle.tipc_types.specs.Address.{node_word}
use Rattle.tipc_types.specs.declared.identity.To.{To}
use Rattle.tipc_types.specs.declared.identity.To.TheVariants as to
use Rattle.tipc_types.specs.declared.node_calls.Answer.{Answer}
use Rattle.tipc_types.specs.declared.node_calls.By.{By}
use Rattle.tipc_outside.specs.declared.outgoing.Outgoing.{Outgoing}
use Rattle.tipc_outside.specs.Frames.{Adds, Out, frames_leaving, no_frames}
use Rattle.tipc_outside.proofs.Adding.{alone_leaving, grows_none}
use Rattle.tipc_journal.specs.Steps.{NodeStep}
use Rattle.tipc_header.specs.declared.frames.FrameKind.TheVariants.{Finds}
use Rattle.tipc_header.specs.Frames.{is_of_link, kind_in}
use Rattle.tipc_broadcast.specs.Pieces.{IsOfBroadcast}
use Rattle.tipc_casters.specs.Reading.{IsWritten}
use Rattle.tipc_discovery.specs.Hearing.{discovery_packet}
use Rattle.tipc_node.specs.Discovery.{discovery_frame}
use Rattle.tipc_node.specs.Nodes.{is_frame_size, is_other}
use Rattle.tipc_node.specs.Turns.{IsOfDiscovery, IsOnLink, IsRouted, IsToAnother, casts_in, is_cast_out, is_casts, is_out_to, is_to}
use Rattle.tipc_node.specs.Turns.IsRouted.{of_broadcast, of_discovery, on_link}
use Rattle.tipc_node.proofs.turns.Discovery.{discovery_from, discovery_kind, discovery_size}
use Rattle.tipc_replay.specs.declared.events.WorldEvent.{WorldEvent}
use Rattle.tipc_replay.specs.declared.events.WorldEvent.TheVariants.{Restart, Call, Arrive}
use Rattle.tipc_replay.specs.Addressed.{IsPacketOf, IsToOther, of_a_link}
use Rattle.tipc_replay.specs.Air.{IsOut}
use Rattle.tipc_replay.specs.Calls.{node_of, HasNextBoot}
use Rattle.tipc_replay.specs.Castings.{AreCasting}
use Rattle.tipc_replay.specs.Effects.{HasEffect}
use Rattle.tipc_replay.specs.Events.{DidAt}
use Rattle.tipc_replay.specs.Skies.{AirState}
use Rattle.tipc_replay.specs.Sound.{IsNumber, IsSound}
use Rattle.tipc_replay.specs.States.{MemberState, contact_at}
use Rattle.tipc_replay.specs.Steady.{IsSteady}
use Rattle.tipc_replay.specs.Steps.{Stage, Turns, stage}
use Rattle.tipc_replay.proofs.InLists.{Stands, all_at, all_weaker, stands_passing}
use Rattle.tipc_replay.proofs.calls.Calls.{the_some}
use Rattle.tipc_replay.proofs.casts.CastsOut.{written_out}
use Rattle.tipc_replay.proofs.casts.OwnGroup.{own_written}
use Rattle.tipc_replay.proofs.casts.SteadyTurns.{SteadyTurn, came_comes, of_arrival, of_call}
use Rattle.tipc_replay.proofs.frames.Coming.{ComesOut}
use Rattle.tipc_replay.proofs.frames.Released.{with_none}
use Rattle.tipc_replay.proofs.frames.Routes.{goes_out}
use Rattle.tipc_replay.proofs.pairs.Bringing.{are_brought}
use Rattle.tipc_replay.proofs.pairs.PairedEvents.{IsReady, made_step, met_step}
use Rattle.tipc_replay.proofs.pairs.PairedTurns.{TakesTurn, turned_with}
use Rattle.tipc_replay.proofs.pairs.Standing.{after_number, boot_fits, other_number}

-- ---- the world as it would be if each frame of the event had been lost

abbrev pub silenced : Stage → ℕ → MemberState → Stage
silenced s a after = stage (slice_set s.members a (Some after)) s.air

-- whether there is a frame that is lost then
abbrev any : List Outgoing → Bool
any frames = nat_lt 0 (length frames)

or_none : (lost : Bool) → lost ≡ (lost || nat_lt 0 0)
or_none true = refl
or_none false = refl

-- the node went on to it
all_lost : (s : Stage) (a : ℕ) (before after : MemberState) (frames : List Outgoing) → slice_index_or s.members a None ≡ Some before → Turns s (silenced s a after) a before after frames (any frames)
all_lost s a before after frames was = record {
  was = was;
  members = refl;
  leaves = record {
    box = record { first = no_frames.first; behind = record { frames = []; lost = any frames } };
    boxed = record {
      first = grows_none no_frames.first;
      behind = record { count = 0; within = omega arith; front = refl; lost_is = refl; none = λ marked. absurd cc };
    };
    emits = record { count = 0; air = sym (with_none s.air (contact_at s.members a) (slice_set s.members a (Some after)) a); lost_is = or_none (any frames) };
  };
}

-- ---- the frames of an event

-- of a turn
turn_out : (s : Stage) (a : ℕ) (m m' : MemberState) (bytes : List ℕ) (step : NodeStep) (frames : List Outgoing) → SteadyTurn s (silenced s a m') a m m' bytes step frames (any frames) → AreCasting s.members s.air → All (IsOut a) frames
turn_out s a m m' bytes step frames h casts = all_weaker (IsRouted m'.node) (IsOut a) frames one turn.turn.routed
  where
    sound : IsSound s.members s.air
    sound = h.sound

    was : slice_index_or s.members a None ≡ Some m
    was = h.turns.was

    turn : TakesTurn m m' bytes step frames
    turn = h.turn

    out : ComesOut s a step.event bytes
    out = came_comes s a step.event bytes h.sound h.came

    own : m'.node.own ≡ node_word a
    own = turn.turn.own ∙ (sound.numbered a m was).1

    linked : (o : Outgoing) → Stands frames o → IsOnLink m'.node o → IsOut a o
    linked o at r =
        let other = after_number s.members s.air a r.peer m m'.node bytes step frames sound was turn.turn r.there in
        let to_it : is_to r.peer o.to ≡ true = ap (is_to r.peer) r.to_is ∙ grind (arith, nat_tests) in
        let for_it : is_out_to r.peer o ≡ true = ap (λ t. t && is_of_link o.frame) to_it ∙ r.link in
        let fit = (turned_with s (silenced s a m') a m m' bytes step frames (any frames) sound (all_lost s a m m' frames was) turn out (are_brought s a m m' bytes step frames sound was turn.turn out)
        r.peer other.0 other.1 (sound.pairs a r.peer (sound.numbered a m was).0 other.0 (λ e. other.1 (sym e)))).1 o (stands_passing (is_out_to r.peer) frames o at for_it) in
        record { bearer = fit.0; addressed = of_a_link r.link (record { receiver = r.peer; number = other.0; apart = other.1; to_is = r.to_is }); size = fit.1 }

    to_other : (t : To) → IsToAnother m'.node t → IsToOther a t
    to_other t r =
        let other = other_number a r.peer (ap (λ word. is_other word (node_word r.peer)) (sym own) ∙ r.other) in
        record { receiver = r.peer; number = other.0; apart = other.1; to_is = r.to_is }

    receivers : (t : To) → (t ≡ to.All) ⊎ IsToAnother m'.node t → IsToOther a t ⊎ (t ≡ to.All)
    receivers t (inl all) = inr all
    receivers t (inr one) = inl (to_other t one)

    found : (o : Outgoing) → IsOfDiscovery m'.node o → IsOut a o
    found o r =
        let boot = m'.node.boot in
        let number = (sound.numbered a m was).0 in
        let low : boot < 2 ^ 32 = subst (λ k. k < 2 ^ 32) (sym turn.turn.boot) (boot_fits s a m sound was) in
        let frame : o.frame ≡ discovery_frame (node_word a) boot r.form = r.frame_is ∙ ap (λ word. discovery_frame word boot r.form) own in
        let said : IsPacketOf a o.frame = subst (IsPacketOf a) (sym frame) (record { es = boot; er = 0; packet = discovery_packet (node_word a) r.form; is_from = discovery_from a boot r.form number.1 low }) in
        let kind : kind_in o.frame ≡ Finds = ap kind_in frame ∙ discovery_kind (node_word a) boot r.form (omega (arith, number.1)) in
        record { bearer = r.on_one; addressed = goes_out a o.frame o.to said kind r.low (receivers o.to r.receivers); size = ap (λ bs. is_frame_size (length bs)) frame ∙ discovery_size (node_word a) boot r.form }

    -- the caster wrote each broadcast frame
    written : All (IsWritten (node_word a)) (casts_in frames)
    written = subst (All (IsWritten (node_word a))) (sym turn.turn.cast_frames) (own_written h (casts a (sound.numbered a m was).0))

    cast : (o : Outgoing) → Stands frames o → IsOfBroadcast m'.node.boot o → IsOut a o
    cast o at r =
        let there = stands_passing is_cast_out frames o at (ap is_casts r.kind) in
        written_out a m'.node.boot o (all_at (IsWritten (node_word a)) (casts_in frames) there.0 o written there.1) r

    one : (o : Outgoing) → Stands frames o → IsRouted m'.node o → IsOut a o
    one o at (on_link r) = linked o at r
    one o at (of_discovery r) = found o r
    one o at (of_broadcast r) = cast o at r

-- a node that is there has a number
pub there_number : (members : List (Option MemberState)) (air : AirState) (n : ℕ) → IsSound members air → is_some (slice_index_or members n None) ≡ true → IsNumber n
there_number members air n sound there = let m = the_some (slice_index_or members n None) there in (sound.numbered n m.0 m.1).0

-- of any event
pub all_out : (s : Stage) (by : By) (event : WorldEvent) (bytes : List ℕ) (before after : MemberState) (frames : List Outgoing) (answered : Answer) → IsSteady s.members s.air
    → slice_index_or s.members (node_of event) None ≡ Some before → IsReady s.members s.air event bytes before → HasEffect by event bytes before after frames answered → All (IsOut (node_of event)) frames
all_out s by (Restart a) bytes before after frames answered steady was ready h = subst (All (IsOut a)) (sym h.1) (All-nil (IsOut a))
all_out s by (Call a call) bytes before after frames answered steady was ready h =
    turn_out s a before after [] (made_step by call before after frames answered h) frames
    (of_call s (silenced s a after) by a call before after frames answered (any frames) steady.sound steady.met steady.plain steady.aged (all_lost s a before after frames was) h) steady.casts
all_out s by (Arrive a bearer place) bytes before after frames answered steady was ready h =
    turn_out s a before after bytes (met_step by bearer place bytes before after frames answered h) frames
    (of_arrival s (silenced s a after) by a bearer place bytes before after frames answered (any frames) steady.sound steady.met steady.plain steady.aged (all_lost s a before after frames was) ready h) steady.casts

-- ---- what is in the box of an event

-- each frame in it may come into the air
pub boxed_out : (members members' : List (Option MemberState)) (air : AirState) (by : By) (event : WorldEvent) (bytes : List ℕ) (box box' : Out) (answered : Answer) → IsSteady members air
    → ((m : MemberState) → slice_index_or members (node_of event) None ≡ Some m → IsReady members air event bytes m) → box ≡ no_frames → DidAt members members' by event bytes box box' answered
    → All (IsOut (node_of event)) (frames_leaving box')
boxed_out members members' air by event bytes box box' answered steady ready empty did =
    let out = all_out (stage members air) by event bytes did.before did.after did.did.frames answered steady did.was (ready did.before did.was) did.did.does in
    let adds = subst (λ b. Adds b box' did.did.frames) empty did.did.adds in
    subst (All (IsOut (node_of event))) (sym (alone_leaving adds)) (All-take (IsOut (node_of event)) adds.behind.count did.did.frames out)

-- an event that can happen and is no arrival is ready to
pub is_ready : (members : List (Option MemberState)) (air : AirState) (event : WorldEvent) → ((node bearer frame : ℕ) → event ≡ Arrive node bearer frame → ⊥) → HasNextBoot members event
    → (m : MemberState) → slice_index_or members (node_of event) None ≡ Some m → IsReady members air event [] m
is_ready members air (Restart node) other boots m was = let next = boots m was in omega (arith, next)
is_ready members air (Call node call) other boots m was = tt
is_ready members air (Arrive node bearer frame) other boots m was = absurd (other node bearer frame refl)
