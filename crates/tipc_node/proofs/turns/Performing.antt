-- Each call is a turn of the node.
use Rattle.std.proofs.Common.{◌≡◌, ◌<◌, ◌≤◌, ◌^◌, ◌+◌, ℕ, Bool, List, [], ◌∷◌, ◌++◌, append-nil, Option, Some, None, filter, length, map, slice_index_or, refl, sym, ap, subst, ◌∙◌, arith}
use Rattle.std.specs.List.{All}
use Rattle.std.proofs.lemmas.List.Elements.{All-append, All-cons, filter-append}
use Rattle.tipc_types.specs.Address.{node_word}
use Rattle.tipc_types.specs.declared.message_forms.Flow.TheVariants.{Broadcast, Zero}
use Rattle.tipc_types.specs.declared.message_forms.Importance.{Importance}
use Rattle.tipc_types.specs.declared.message_forms.Message.{Message}
use Rattle.tipc_types.specs.declared.node_calls.Answer.{Answer}
use Rattle.tipc_types.specs.declared.node_calls.Answer.TheVariants as answer
use Rattle.tipc_types.specs.declared.node_calls.By.{By}
use Rattle.tipc_types.specs.declared.node_calls.EventNote.{EventNote}
use Rattle.tipc_types.specs.declared.node_calls.EventNote.TheVariants as event
use Rattle.tipc_types.specs.declared.services.Publication.{Publication}
use Rattle.tipc_outside.specs.declared.outgoing.Outgoing.{Outgoing}
use Rattle.tipc_journal.specs.declared.entries.Entry.{Entry}
use Rattle.tipc_journal.specs.declared.entries.Entry.TheVariants.{Published, Withdrawn, Subscribed, Cancelled, TimedOut}
use Rattle.tipc_journal.specs.Steps.{NodeStep, step_entries}
use Rattle.tipc_topology.specs.Changing.{due}
use Rattle.tipc_pair.specs.declared.changes.PairOutcome.{PairOutcome}
use Rattle.tipc_pair.specs.PairTurns.{ShowsIn, nothing_given, quietly, IsOnOne, Suits}
use Rattle.tipc_sockets.specs.Publishing.{is_at, own_publication, published_at}
use Rattle.tipc_node.specs.declared.neighbours.Upkeep.{Upkeep}
use Rattle.tipc_node.specs.declared.neighbours.Upkeep.TheVariants as upkeep
use Rattle.tipc_node.specs.declared.neighbours.Neighbour.{Neighbour}
use Rattle.tipc_node.specs.Calls.{CanPerform, Performs, name_plan, plan_of, sender_refusal, tick_plan, upkeep_plan}
use Rattle.tipc_node.specs.Discovery.{upkeep_frames}
use Rattle.tipc_node.specs.Messages.{destination_of, limit_of}
use Rattle.tipc_types.specs.declared.link_words.BroadcastState.{BroadcastState}
use Rattle.tipc_broadcast.specs.Casting.{Casting, shown}
use Rattle.tipc_broadcast.specs.Deeds.{AreLawful, AreSmall, CastDeed, after_deeds, deeds_frames, is_deed_with, is_hearing_of}
use Rattle.tipc_broadcast.specs.Pieces.{IsOfBroadcast}
use Rattle.tipc_broadcast.proofs.Apart.{deeds_rise, shown_like}
use Rattle.tipc_broadcast.proofs.Deeds.{after_more, deeds_small}
use Rattle.tipc_node.specs.Casting.{bearer_deeds, contact_deeds, state_deeds, stated_by}
use Rattle.tipc_node.specs.Neighbours.{Done, IsOnBearer, casts_after, course_of, done}
use Rattle.tipc_node.specs.Nodes.{NodeState, after_all, after_one, change_entries, deeds_all, deeds_one, neighbour_of, upkeep_note, entries_all, entries_one, numbered_one, parts_of, states_one, step_of, upkeep_deeds}
use Rattle.tipc_node.specs.Plans.{CarriesOut, Does, DoesUnless, Plan, Dispatch, concluded_by, frames_alone, message_plan, names_plan, on_its_way, tables_plan, to_all, to_peers, way_refusal}
use Rattle.tipc_node.specs.Sockets.{crowd_refusal, first_event, kept_answer, next_number, port_refusal, publication_refusal, timeouts_of, waiting_at, withdrawal_refusal, withdrawn_entries}
use Rattle.tipc_node.specs.Telling.{IsTold}
use Rattle.tipc_node.specs.Turns.HearsCasts.{hears_none}
use Rattle.tipc_node.specs.Turns.CastDoing.{parts}
use Rattle.tipc_node.specs.Turns.{AreCast, AreNamed, CastTurn, IsBrought, IsPlaced, NodeTurn, PeerTurn, Shows, frames_to, is_accepted_for, is_cast_for, is_cast_from, is_change_of, is_delivered_from}
use Rattle.tipc_pair.specs.Addressed.{Names}
use Rattle.tipc_node.specs.Works.{Work, begun, concluded, peers_in_contact}
use Rattle.tipc_pair.proofs.turns.Addressing.{AreFor}
use Rattle.tipc_node.proofs.pairs.Calm.{upkeep_happens, opening_of}
use Rattle.tipc_node.proofs.turns.Entries.{AreForEach, all_accept, all_changes, all_deeds, all_deliver, all_inside, all_placed, all_routed, all_silent, all_unheard, inside_both}
use Rattle.tipc_node.proofs.turns.CastFrames.{deeds_cast}
use Rattle.tipc_node.proofs.turns.Lawful.{bearers_unheard, bearers_without}
use Rattle.tipc_node.proofs.turns.Multicasting.{multicast_turn}
use Rattle.tipc_node.proofs.turns.Parts.{HasPart, has_part, no_part, parts_from}
use Rattle.tipc_node.proofs.turns.Upkeeping.{upkeep_lawful, upkeep_parts}
use Rattle.tipc_node.proofs.work.Casting.{bearers_silent, silent_both}
use Rattle.tipc_node.proofs.turns.MessageRuns.{AreQuiet, goes_run, idle_run, none_quiet, quiet_one, quiet_run}
use Rattle.tipc_node.proofs.turns.Named.{first_frames}
use Rattle.tipc_node.proofs.journal.PeersTold.{tells_each_run}
use Rattle.tipc_node.proofs.turns.Plain.{IsCall, IsPlainIn, crowd_plain, next_untaken, number_plain, plain_either, port_plain, publication_plain, received_untaken, refused_turn, sender_plain, socket_plain, subscription_plain, way_plain, withdrawal_plain}
use Rattle.tipc_node.proofs.turns.Runs.{IsRun, run_then}
use Rattle.tipc_node.proofs.pairs.Strangers.{named_there}
use Rattle.tipc_node.proofs.turns.Shares.{after_at, shares, upkeep_casts}
use Rattle.tipc_node.proofs.turns.Turning.{BothTurns, IsUntaken, NeighbourTurn, casts_there, named_stand, node_turn, opens_turn, run_turn, shows_link, turn_as}

-- ---- a plan that is carried out

-- the frames that leave with the work of a plan
abbrev frames_with : Dispatch → List Outgoing
frames_with (frames_alone given) = given
frames_with other = []

-- nothing is cast
abbrev CastsNothing : Dispatch → Type 0
CastsNothing (to_all m given) = ⊥
CastsNothing other = Unit {0}

-- What makes a call a turn, by its plan: its answers are plain, it changes neither bearers nor ticks nor the broadcast link, and its work is a run.
record IsRunning (n : NodeState) (p : Plan) : Type 0 where
  pub plain : IsPlainIn p.refusal
  pub untaken : IsUntaken (kept_answer p.answered)
  pub stays : record n { mended = p.mended; ticks = p.ticks; casting = p.casting } ≡ n
  pub silent : CastsNothing p.dispatch
  pub run : IsRun n (begun n) [] (frames_with p.dispatch) p.work

carried_turn : (n n' : NodeState) (by : By) (call : EventNote) (p : Plan) (frames : List Outgoing) (answered : Answer) → AreNamed n → IsRunning n p → CarriesOut n by call p n' frames answered → IsCall n n' by call frames answered
carried_turn n n' by call p frames answered named fit carried = unless p.refusal fit.plain carried
  where
    kept : Answer
    kept = kept_answer p.answered

    recorded_run : (last : Work) (given : List Outgoing) → IsRun n (begun n) [] given last → n' ≡ concluded_by n by call p last → frames ≡ given → answered ≡ p.answered → IsCall n n' by call frames answered
    recorded_run last given run after leave is =
        turn_as n n' (concluded n by call last kept) by call [] frames given (kept_answer answered) kept (after ∙ ap (λ (m : NodeState). concluded m by call last kept) fit.stays) leave (ap kept_answer is)
        (run_turn n by call [] kept last given fit.untaken run)

    -- what is sent is a run behind the work
    behind : (last : Work) → IsRun n (begun n) [] [] p.work → IsRun n p.work [] frames last → IsRun n (begun n) [] frames last
    behind last first later = run_then n (begun n) p.work last [] [] [] frames first later

    does : (s : Dispatch) → CastsNothing s → IsRun n (begun n) [] (frames_with s) p.work → Does s n by call p n' frames answered → IsCall n n' by call frames answered
    does (frames_alone given) silent run d = recorded_run p.work given run d.0 d.1 d.2
    does (to_peers told) silent run d = recorded_run d.0 frames (behind d.0 run (tells_each_run n told p.work (peers_in_contact p.work.neighbours) d.0 frames run.runs.stand d.1)) d.2 refl d.3
    does (on_its_way m) silent run d = recorded_run d.0 frames (behind d.0 run (goes_run n p.work d.0 m frames run.runs.stand d.1)) d.2 refl d.3
    does (to_all m given) silent run d = absurd silent

    unless : (o : Option Answer) → IsPlainIn o → DoesUnless o n by call p n' frames answered → IsCall n n' by call frames answered
    unless (Some reason) plain d = refused_turn n n' by call reason frames answered named plain d.0 d.1 d.2
    unless None plain d = does p.dispatch fit.silent fit.run d

-- ---- the work of each call

one_withdrawn : (n : NodeState) (p : Publication) (es : List Entry) → AreQuiet n es [] → AreQuiet n (Withdrawn p ∷ es) []
one_withdrawn n p es quiet = record {
  changes = quiet.changes;
  accepted = quiet.accepted;
  delivered = quiet.delivered;
  heard = quiet.heard;
  uncast = quiet.uncast;
  inside = quiet.inside;
  placed = All-cons (IsPlaced n) (Withdrawn p) es tt quiet.placed;
}

all_withdrawn : (n : NodeState) (ps : List Publication) → AreQuiet n (map Withdrawn ps) []
all_withdrawn n [] = none_quiet n
all_withdrawn n (p ∷ ps) = one_withdrawn n p (map Withdrawn ps) (all_withdrawn n ps)

withdrawn_quiet : (n : NodeState) (o : Option Publication) → AreQuiet n (withdrawn_entries o) []
withdrawn_quiet n None = none_quiet n
withdrawn_quiet n (Some p) = one_withdrawn n p [] (none_quiet n)

tables_running : {refusal : Option Answer} {w : Work} {given : Answer} (n : NodeState) (es : List Entry) → AreNamed n → IsPlainIn refusal → IsUntaken (kept_answer given) → w.neighbours ≡ n.neighbours → w.inside ≡ es → AreQuiet n es []
    → IsRunning n (tables_plan n refusal w given)
tables_running {refusal} {w} {given} n es are plain untaken same inside quiet =
    record { plain = plain; untaken = untaken; stays = refl; silent = tt; run = quiet_run n (begun n) w es [] (named_stand n are) same inside quiet }

names_running : {w : Work} {told : List Message} (n : NodeState) (refusal : Option Answer) (es : List Entry) → AreNamed n → IsPlainIn refusal → w.neighbours ≡ n.neighbours → w.inside ≡ es → AreQuiet n es [] → IsRunning n (names_plan n refusal w told)
names_running {w} {told} n refusal es are plain same inside quiet = record {
  plain = plain_either refusal (crowd_refusal n.neighbours told) plain (crowd_plain n.neighbours told);
  untaken = tt;
  stays = refl;
  silent = tt;
  run = quiet_run n (begun n) w es [] (named_stand n are) same inside quiet;
}

message_running : {m : Message} {given : Answer} (n : NodeState) (refusal : Option Answer) (limit : ℕ) → AreNamed n → IsPlainIn refusal → IsUntaken (kept_answer given) → IsRunning n (message_plan n refusal m limit given)
message_running {m} {given} n refusal limit are plain untaken = record {
  plain = plain_either refusal (way_refusal n (destination_of m) limit) plain (way_plain n (destination_of m) limit);
  untaken = untaken;
  stays = refl;
  silent = tt;
  run = idle_run n (begun n) (begun n) (named_stand n are) refl refl;
}

name_running : (n : NodeState) (port kind instance : ℕ) (importance : Importance) (body : List ℕ) (chosen : Option Publication) → AreNamed n → IsRunning n (name_plan n port kind instance importance body chosen)
name_running n port kind instance importance body None are =
    let plain = plain_either (sender_refusal n port body) (Some answer.NoName) (sender_plain n port body) (record { kept = refl; untaken = tt }) in
    tables_running n [] are plain tt refl refl (none_quiet n)
name_running n port kind instance importance body (Some p) are = message_running n (sender_refusal n port body) (limit_of importance) are (sender_plain n port body) tt

-- ---- what happens to all neighbours

done_for : (d : Upkeep) (b : ℕ) (shown : BroadcastState) (x : Neighbour) → Names (node_word b) x.pair → AreFor (node_word b) (done d shown x).states × AreFor (node_word b) (done d shown x).numbered
done_for d b shown x named = first_frames (node_word b) x.pair (opening_of d shown x) (quietly (course_of d shown x)) named (upkeep_happens d shown x).0

-- what a step tells of a neighbour, and which frames are for it
record IsDone (d : Upkeep) (shown : BroadcastState) (s : NodeStep) (frames : List Outgoing) (b : ℕ) (x : Neighbour) : Type 0 where
  pub event_is : s.event ≡ upkeep_note d
  pub answer_is : s.answer ≡ answer.Done
  pub frames_are : frames_to b frames ≡ (done d shown x).states ++ (done d shown x).numbered
  pub changes : filter (is_change_of b) s.inside ≡ change_entries b (done d shown x).changes
  pub accepted : filter (is_accepted_for b) s.inside ≡ []
  pub delivered : filter (is_delivered_from b) s.inside ≡ []

opened_turn : (own : ℕ) (d : Upkeep) (shown : BroadcastState) (s : NodeStep) (frames : List Outgoing) (b : ℕ) (x : Neighbour) → IsDone d shown s frames b x → Suits s.event (opening_of d shown x) → IsOnOne (opening_of d shown x)
    → IsBrought b [] (opening_of d shown x) → ShowsIn (opening_of d shown x) → PeerTurn own [] s frames b x.pair (course_of d shown x).pair
opened_turn own d shown s frames b x h suits on_one brought shows = opens_turn own [] s frames b x.pair (opening_of d shown x) (quietly (course_of d shown x)) (record {
  suits = suits;
  on_one = on_one;
  anew = (upkeep_happens d shown x).2;
  brought = brought;
  shows = shows;
  happened = (upkeep_happens d shown x).0;
  frames_are = h.frames_are;
  changes = h.changes;
  accepted = h.accepted;
  delivered = h.delivered;
  taken = λ answered es er p is taken from link. absurd (let wrong : answer.Done ≡ answer.Arrived answered = sym h.answer_is ∙ is in cc);
})

-- with what is done at the broadcast link
done_turn : (n n' : NodeState) (d : Upkeep) (v : Casting) (s : NodeStep) (frames : List Outgoing) (deeds : List CastDeed) (b : ℕ) (x : Neighbour) → IsOnBearer d → AreSmall v → IsDone d (shown v (node_word b)) s frames b x
    → CastTurn n n' [] s deeds None b (opening_of d (shown v (node_word b)) x) (quietly (course_of d (shown v (node_word b)) x)) None
    → BothTurns n n' [] s frames deeds None b x.pair (done d (shown v (node_word b)) x).after.pair
unfolding opens_turn opened_turn
done_turn n n' (upkeep.Mend bearer) v s frames deeds b x one small h cast = (opened_turn n.own (upkeep.Mend bearer) (shown v (node_word b)) s frames b x h h.event_is one tt tt, cast)
done_turn n n' (upkeep.Cut bearer) v s frames deeds b x one small h cast = (opened_turn n.own (upkeep.Cut bearer) (shown v (node_word b)) s frames b x h h.event_is one tt tt, cast)
done_turn n n' upkeep.Tick v s frames deeds b x one small h cast = (opened_turn n.own upkeep.Tick (shown v (node_word b)) s frames b x h h.event_is tt tt (shows_link v (node_word b) small), cast)

-- what is told behind quiet entries is what is told before them
quiet_behind : (test : Entry → Bool) (es ts : List Entry) → filter test ts ≡ [] → filter test (es ++ ts) ≡ filter test es
quiet_behind test es ts none = filter-append test es ts ∙ ap (λ xs. filter test es ++ xs) none ∙ append-nil (filter test es)

-- a plan by which something happens to all neighbours alike, and quiet entries are noted behind
record IsUpkeep (n : NodeState) (d : Upkeep) (p : Plan) : Type 0 where
  pub more : List Entry
  pub quiet : AreQuiet n more []
  pub same : p.work.neighbours ≡ after_all (parts_of d n)
  pub inside : p.work.inside ≡ entries_all 0 (parts_of d n) ++ more
  pub casting : p.casting ≡ after_deeds (upkeep_deeds d n) n.casting
  pub answer_is : p.answered ≡ answer.Done

-- how many have a number then: no fewer than before, and no more than when all is done
part_numbered : (n : NodeState) (d : Upkeep) (b : ℕ) (x : Neighbour) (p : HasPart n d b x)
    → (n.casting.sending.numbered ≤ p.link.sending.numbered) × (p.link.sending.numbered ≤ (after_deeds (upkeep_deeds d n) n.casting).sending.numbered)
part_numbered n d b x p =
    let v = n.casting in
    let before = deeds_rise p.deeds v in
    let behind = deeds_rise p.rest (after_deeds p.deeds v) in
    let same = ap (λ (w : Casting). w.sending.numbered) p.link_is in
    let last = ap (λ ds. (after_deeds ds v).sending.numbered) p.all ∙ ap (λ (w : Casting). w.sending.numbered) (after_more p.deeds p.rest v) in
    (omega (arith, before, same), omega (arith, behind, same, last))

-- what a STATE shows then
part_shows : (n : NodeState) (d : Upkeep) (b : ℕ) (x : Neighbour) (p : HasPart n d b x) → Shows n.casting (after_deeds (upkeep_deeds d n) n.casting) b (opening_of d (shown p.link (node_word b)) x)
part_shows n (upkeep.Mend bearer) b x p = tt
part_shows n (upkeep.Cut bearer) b x p = tt
part_shows n upkeep.Tick b x p = (p.link.sending.numbered, (part_numbered n upkeep.Tick b x p).0, (part_numbered n upkeep.Tick b x p).1, shown_like (node_word b) n.casting p.link p.like)

-- no STATE was taken
none_stated : (d : Upkeep) (seen : BroadcastState) (x : Neighbour) (given : PairOutcome) → stated_by (opening_of d seen x) given ≡ None
none_stated (upkeep.Mend bearer) seen x given = refl
none_stated (upkeep.Cut bearer) seen x given = refl
none_stated upkeep.Tick seen x given = refl

module _ (n : NodeState) (by : By) (d : Upkeep) (p : Plan) (told : IsTold n) (named : AreNamed n) (low : n.boot < 2 ^ 32) (cast : AreCast n) (one : IsOnBearer d) (u : IsUpkeep n d p) where
  abbrev os : List (Option Done)
  os = parts_of d n

  abbrev es : List Entry
  es = entries_all 0 os

  abbrev s : NodeStep
  s = step_of by (upkeep_note d) (es ++ u.more) answer.Done

  abbrev then_node : NodeState
  then_node = concluded_by n by (upkeep_note d) p p.work

  abbrev deeds : List CastDeed
  deeds = upkeep_deeds d n

  lawful : AreLawful deeds n.casting
  lawful = upkeep_lawful n d told cast.joined one

  -- the frames of the broadcast
  casts : All (IsOfBroadcast n.boot) (deeds_frames deeds n.casting)
  casts = deeds_cast n deeds low cast lawful

  changed : (b : ℕ) → filter (is_change_of b) s.inside ≡ entries_one b (slice_index_or os b None)
  changed b = quiet_behind (is_change_of b) es u.more (u.quiet.changes b) ∙ all_changes os b

  each : AreForEach os
  each b y there =
      let part = parts_from n d b y there in
      subst (λ (z : Done). AreFor (node_word b) z.states × AreFor (node_word b) z.numbered) (sym part.is)
      (done_for d b (shown part.link (node_word b)) part.neighbour (named_there n b part.neighbour named part.there))

  with_peer : (b : ℕ) → filter (is_deed_with (node_word b)) deeds ≡ deeds_one b (slice_index_or os b None)
  with_peer b =
      filter-append (is_deed_with (node_word b)) (bearer_deeds d) (deeds_all 0 os)
      ∙ ap (λ ds. ds ++ filter (is_deed_with (node_word b)) (deeds_all 0 os)) (bearers_without (node_word b) d) ∙ all_deeds os b

  unheard : (b : ℕ) → filter (is_hearing_of (node_word b)) deeds ≡ []
  unheard b =
      filter-append (is_hearing_of (node_word b)) (bearer_deeds d) (deeds_all 0 os)
      ∙ ap (λ ds. ds ++ filter (is_hearing_of (node_word b)) (deeds_all 0 os)) (bearers_unheard (node_word b) d) ∙ all_unheard (node_word b) 0 os

  -- what is done at the broadcast link with a neighbour, of which this part came
  part_cast : (b : ℕ) (x : Neighbour) → neighbour_of n b ≡ Some x → (part : HasPart n d b x) → neighbour_of then_node b ≡ Some (done d (shown part.link (node_word b)) x).after
      → CastTurn n then_node [] s deeds None b (opening_of d (shown part.link (node_word b)) x) (quietly (course_of d (shown part.link (node_word b)) x)) None
  part_cast b x there part after =
      let seen = shown part.link (node_word b) in
      let changes = (course_of d seen x).changes in
      let stated : state_deeds b (stated_by (opening_of d seen x) nothing_given) ≡ [] = ap (state_deeds b) (none_stated d seen x nothing_given) in
      record {
        told = with_peer b ∙ ap (deeds_one b) part.there ∙ sym (append-nil (contact_deeds b changes)) ∙ ap (λ ds. contact_deeds b changes ++ ds) (sym stated);
        shows = subst (λ (w : Casting). Shows n.casting w b (opening_of d seen x)) (sym u.casting) (part_shows n d b x part);
        shows_last = tt;
        accepted = quiet_behind (is_cast_for b) es u.more (u.quiet.uncast b) ∙ all_accept Broadcast b 0 os;
        heard = hears_none (record {
          unheard = unheard b;
          delivered = quiet_behind (is_cast_from b) es u.more (u.quiet.heard b) ∙ all_deliver Broadcast b 0 os;
          begun = casts_there then_node b (done d seen x).after after ∙ ap (λ begun. casts_after begun changes) (sym (casts_there n b x there));
        });
      }

  at_neighbour : (b : ℕ) (x : Neighbour) → neighbour_of n b ≡ Some x → NeighbourTurn n then_node [] s (upkeep_frames d n) deeds None b x
  at_neighbour b x there =
      let part = has_part n d b x there in
      let done_so = done d (shown part.link (node_word b)) x in
      let after : neighbour_of then_node b ≡ Some done_so.after = ap (λ xs. slice_index_or xs b None) u.same ∙ after_at os b ∙ ap after_one part.there in
      record {
        after = done_so.after;
        after_is = after;
        turns = done_turn n then_node d part.link s (upkeep_frames d n) deeds b x one (subst AreSmall (sym part.link_is) (deeds_small part.deeds n.casting cast.small)) (record {
          event_is = refl;
          answer_is = refl;
          frames_are = shares d n b casts each ∙ ap (λ o. states_one o ++ numbered_one o) part.there;
          changes = changed b ∙ ap (entries_one b) part.there;
          accepted = quiet_behind (is_accepted_for b) es u.more (u.quiet.accepted b) ∙ all_accept Zero b 0 os;
          delivered = quiet_behind (is_delivered_from b) es u.more (u.quiet.delivered b) ∙ all_deliver Zero b 0 os;
        }) (part_cast b x there part after);
      }

  upkeep_turn : NodeTurn n then_node [] s (upkeep_frames d n)
  upkeep_turn = node_turn n then_node [] s (upkeep_frames d n) (record {
    own = refl;
    boot = refl;
    journal = (λ i. n.journal ++ step_entries (step_of by (upkeep_note d) (u.inside i) (kept_answer (u.answer_is i))));
    inside = inside_both es u.more (all_inside 0 os) u.quiet.inside;
    deeds = deeds;
    casting = u.casting;
    lawful = lawful;
    cast_frames = upkeep_casts d n cast.node casts each;
    cast = None;
    sent = silent_both (bearer_deeds d) (deeds_all 0 os) (bearers_silent d) (all_silent 0 os);
    doing = parts (upkeep_parts n d);
    turns = at_neighbour;
    alone = λ b gone. ap (λ xs. slice_index_or xs b None) u.same ∙ after_at os b ∙ ap after_one (no_part n d b gone);
    untaken = λ b gone a es er q is taken from link. (let wrong : answer.Done ≡ answer.Arrived a = is in cc);
    apart = λ b gone. (with_peer b ∙ ap (deeds_one b) (no_part n d b gone), unheard b);
    routed = all_routed n d one low casts each;
    placed = All-append (IsPlaced n) es u.more (all_placed n d) u.quiet.placed;
  })

upkeeps : (n n' : NodeState) (by : By) (d : Upkeep) (p : Plan) (frames : List Outgoing) (answered : Answer) → IsTold n → AreNamed n → n.boot < 2 ^ 32 → AreCast n → IsOnBearer d → IsUpkeep n d p
    → Does (frames_alone (upkeep_frames d n)) n by (upkeep_note d) p n' frames answered → IsCall n n' by (upkeep_note d) frames answered
upkeeps n n' by d p frames answered told named low cast one u h =
    turn_as n n' (concluded_by n by (upkeep_note d) p p.work) by (upkeep_note d) [] frames (upkeep_frames d n) (kept_answer answered) answer.Done h.0 h.1 (ap kept_answer (h.2 ∙ u.answer_is))
    (entries_all 0 (parts_of d n) ++ u.more, upkeep_turn n by d p told named low cast one u)

-- of a bearer
bearer_upkeep : (n : NodeState) (d : Upkeep) → IsUpkeep n d (upkeep_plan n d)
bearer_upkeep n d = record { more = []; quiet = none_quiet n; same = refl; inside = sym (append-nil (entries_all 0 (parts_of d n))); casting = refl; answer_is = refl }

-- of the clock
timed_quiet : (n : NodeState) (numbers : List ℕ) → AreQuiet n (map TimedOut numbers) []
timed_quiet n [] = none_quiet n
timed_quiet n (number ∷ numbers) =
    let later = timed_quiet n numbers in record {
      changes = later.changes;
      accepted = later.accepted;
      delivered = later.delivered;
      heard = later.heard;
      uncast = later.uncast;
      inside = later.inside;
      placed = All-cons (IsPlaced n) (TimedOut number) (map TimedOut numbers) tt later.placed;
    }

clock_upkeep : (n : NodeState) → IsUpkeep n upkeep.Tick (tick_plan n)
clock_upkeep n = record { more = timeouts_of n.sockets; quiet = timed_quiet n (due n.sockets.watchers.kept); same = refl; inside = refl; casting = refl; answer_is = refl }

-- ---- every call

-- a call whose work is a run
run_call : (n n' : NodeState) (by : By) (call : EventNote) (frames : List Outgoing) (answered : Answer) → AreNamed n → (h : Performs n by call n' frames answered) → IsRunning n (plan_of n call h.chosen) → IsCall n n' by call frames answered
run_call n n' by call frames answered are h running = carried_turn n n' by call (plan_of n call h.chosen) frames answered are running h.carried

pub performs_turn : (n n' : NodeState) (by : By) (call : EventNote) (frames : List Outgoing) (answered : Answer) → IsTold n → AreNamed n → n.boot < 2 ^ 32 → AreCast n → length n'.neighbours ≡ 33 → CanPerform call
    → Performs n by call n' frames answered
    → (inside : List Entry) × NodeTurn n n' [] (step_of by call inside (kept_answer answered)) frames
performs_turn n n' by event.Socket frames answered told are low cast wide can h = run_call n n' by event.Socket frames answered are h (tables_running n [] are (socket_plain n.sockets) tt refl refl (none_quiet n))
performs_turn n n' by (event.Close port) frames answered told are low cast wide can h =
    let ps = filter (is_at port) n.sockets.live in
    run_call n n' by (event.Close port) frames answered are h (names_running n (port_refusal n.sockets port) (map Withdrawn ps) are (port_plain n.sockets port) refl refl (all_withdrawn n ps))
performs_turn n n' by (event.Publish port range scope key) frames answered told are low cast wide can h =
    let p = own_publication n.own port range scope key in
    let quiet = quiet_one n (Published p) (λ b. refl) (λ b. refl) (λ b. refl) (λ b. refl) (λ b. refl) refl tt in
    run_call n n' by (event.Publish port range scope key) frames answered are h (names_running n (publication_refusal n.sockets port range.kind key) (Published p ∷ []) are (publication_plain n.sockets port range.kind key) refl refl quiet)
performs_turn n n' by (event.Withdraw port key) frames answered told are low cast wide can h =
    let o = published_at n.sockets port key in
    run_call n n' by (event.Withdraw port key) frames answered are h (names_running n (withdrawal_refusal n.sockets port key) (withdrawn_entries o) are (withdrawal_plain n.sockets port key) refl refl (withdrawn_quiet n o))
performs_turn n n' by (event.SendName port kind instance importance body) frames answered told are low cast wide can h =
    run_call n n' by (event.SendName port kind instance importance body) frames answered are h (name_running n port kind instance importance body h.chosen are)
performs_turn n n' by (event.SendPort port to importance body) frames answered told are low cast wide can h =
    run_call n n' by (event.SendPort port to importance body) frames answered are h (message_running n (sender_refusal n port body) (limit_of importance) are (sender_plain n port body) tt)
performs_turn n n' by (event.Receive port) frames answered told are low cast wide can h =
    run_call n n' by (event.Receive port) frames answered are h (tables_running n [] are (port_plain n.sockets port) (received_untaken (waiting_at n.sockets port)) refl refl (none_quiet n))
performs_turn n n' by (event.Subscribe asked) frames answered told are low cast wide can h =
    let e = Subscribed (next_number n.sockets) asked in
    run_call n n' by (event.Subscribe asked) frames answered are h (tables_running n (e ∷ []) are (subscription_plain n.sockets asked) tt refl refl (quiet_one n e (λ b. refl) (λ b. refl) (λ b. refl) (λ b. refl) (λ b. refl) refl tt))
performs_turn n n' by (event.Cancel number) frames answered told are low cast wide can h =
    let e = Cancelled number in
    run_call n n' by (event.Cancel number) frames answered are h (tables_running n (e ∷ []) are (number_plain n.sockets number) tt refl refl (quiet_one n e (λ b. refl) (λ b. refl) (λ b. refl) (λ b. refl) (λ b. refl) refl tt))
performs_turn n n' by (event.NextEvent number) frames answered told are low cast wide can h =
    run_call n n' by (event.NextEvent number) frames answered are h (tables_running n [] are (number_plain n.sockets number) (next_untaken (first_event n.sockets number)) refl refl (none_quiet n))
performs_turn n n' by event.Tick frames answered told are low cast wide can h = upkeeps n n' by upkeep.Tick (tick_plan n) frames answered told are low cast tt (clock_upkeep n) h.carried
performs_turn n n' by (event.Cut bearer) frames answered told are low cast wide can h = upkeeps n n' by (upkeep.Cut bearer) (upkeep_plan n (upkeep.Cut bearer)) frames answered told are low cast can (bearer_upkeep n (upkeep.Cut bearer)) h.carried
performs_turn n n' by (event.Mend bearer) frames answered told are low cast wide can h = upkeeps n n' by (upkeep.Mend bearer) (upkeep_plan n (upkeep.Mend bearer)) frames answered told are low cast can (bearer_upkeep n (upkeep.Mend bearer)) h.carried
performs_turn n n' by (event.Multicast port kind lower upper importance body) frames answered told are low cast wide can h =
    multicast_turn n n' by (sender_refusal n port body) port kind lower upper importance body frames answered told are low cast wide (sender_plain n port body) h.carried
performs_turn n n' by (event.Arrive bearer number) frames answered told are low cast wide can h = absurd h.choice
