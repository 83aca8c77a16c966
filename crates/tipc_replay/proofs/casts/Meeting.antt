-- Every event keeps that each two nodes of a world met in the contacts that their journals tell.
use Rattle.std.proofs.Common.{◌≡◌, ◌≢◌, ◌+◌, ◌<◌, ◌^◌, ℕ, Bool, List, [], ◌++◌, Option, Some, None, length, map, refl, sym, ap, ◌∙◌, subst, inl, inr, arith}
use Rattle.std.proofs.lemmas.Bool.{cases_eq}
use Rattle.std.proofs.lemmas.List.{map-append}
use Rattle.tipc_types.specs.Address.{node_word}
use Rattle.tipc_types.specs.declared.node_calls.Answer.{Answer}
use Rattle.tipc_types.specs.declared.node_calls.By.{By}
use Rattle.tipc_outside.specs.declared.outgoing.Outgoing.{Outgoing}
use Rattle.tipc_journal.specs.Steps.{NodeStep, step_entries}
use Rattle.tipc_two_nodes.specs.Order.{HaveMet}
use Rattle.tipc_two_nodes.specs.Reaching.{restarts as restarts_node}
use Rattle.tipc_two_nodes.specs.Sights.{pair_seen}
use Rattle.tipc_two_nodes.proofs.sights.Meeting.{none_met, steps_met, turned_met}
use Rattle.tipc_node.specs.Nodes.{pair_with}
use Rattle.tipc_node.specs.Turns.{addr_of}
use Rattle.tipc_node.proofs.names.SharingUnused.{peer_means}
use Rattle.tipc_node.proofs.pairs.Strangers.{kept_abreast}
use Rattle.tipc_replay.specs.declared.events.WorldEvent.{WorldEvent}
use Rattle.tipc_replay.specs.declared.events.WorldEvent.TheVariants.{Arrive, Call, Restart}
use Rattle.tipc_replay.specs.Calls.{HasNextBoot, node_of}
use Rattle.tipc_replay.specs.Due.{unarrived}
use Rattle.tipc_replay.specs.Effects.{HasEffect}
use Rattle.tipc_replay.specs.Members.{IsRestarted}
use Rattle.tipc_replay.specs.Met.{AreMet, as_contact, contacts_entered, contacts_met}
use Rattle.tipc_replay.specs.Skies.{empty_air}
use Rattle.tipc_replay.specs.Sound.{IsNumber, IsSound}
use Rattle.tipc_replay.specs.States.{history_at, member_at, MemberState}
use Rattle.tipc_replay.specs.Steps.{Becomes, Happens, IsArrival, Stage, Turns}
use Rattle.tipc_replay.specs.Views.{sight_at}
use Rattle.tipc_replay.proofs.LookUps.{history_at-is, history_at-same}
use Rattle.tipc_replay.proofs.casts.MetStories.{met_then, numbers_begun, step_enters, turn_begins}
use Rattle.tipc_replay.proofs.frames.Coming.{ComesOut, nothing_out}
use Rattle.tipc_replay.proofs.pairs.Bringing.{are_brought}
use Rattle.tipc_replay.proofs.pairs.PairedEvents.{IsReady, made_step, made_turn, met_step, met_turn, ready_out}
use Rattle.tipc_replay.proofs.pairs.PairedStarts.{boot_is, restarts}
use Rattle.tipc_replay.proofs.pairs.PairedTurns.{steps_with, TakesTurn, turn_history}
use Rattle.tipc_replay.proofs.pairs.Standing.{kept_sight}
use Rattle.tipc_replay.proofs.pairs.Turning.{is_there, others_stay, sight_in, sights_apart, was_there}
use Rattle.tipc_replay.proofs.streams.Histories.{history_restarted}

-- two nodes, each in a stage of its own, met in their contacts
abbrev MetIn : Stage → Stage → ℕ → ℕ → Type 0
MetIn s t a b = HaveMet (sight_in s a b) (sight_in t b a) (contacts_met s.members a b) (contacts_met t.members b a)

abbrev AllMet : Stage → Type 0
AllMet s = AreMet s.members s.air

-- ---- contacts that stay

pub met_same : (members members' : List (Option MemberState)) (a b : ℕ) → history_at members' a ≡ history_at members a → contacts_met members' a b ≡ contacts_met members a b
unfolding contacts_met
met_same members members' a b same = ap (λ es. map as_contact (contacts_entered es (addr_of b))) same

met_apart : (old new : Stage) (a : ℕ) (before after : MemberState) (frames : List Outgoing) (lost : Bool) → Turns old new a before after frames lost → (c d : ℕ) → c ≢ a → contacts_met new.members c d ≡ contacts_met old.members c d
met_apart old new a before after frames lost t c d apart = met_same old.members new.members c d (history_at-same old.members new.members c (others_stay old new a before after frames lost t c apart))

here_stays : (old new : Stage) (a : ℕ) (before after : MemberState) (frames : List Outgoing) (lost : Bool) → Turns old new a before after frames lost → (c d : ℕ) → c ≢ a → (t : Stage) → MetIn old t c d → MetIn new t c d
here_stays old new a before after frames lost t c d apart u h =
    subst (λ cs. HaveMet (sight_in new c d) (sight_in u d c) cs (contacts_met u.members d c)) (sym (met_apart old new a before after frames lost t c d apart))
    (subst (λ v. HaveMet v (sight_in u d c) (contacts_met old.members c d) (contacts_met u.members d c)) (sym (sights_apart old new a before after frames lost t c d apart)) h)

there_stays : (old new : Stage) (a : ℕ) (before after : MemberState) (frames : List Outgoing) (lost : Bool) → Turns old new a before after frames lost → (c d : ℕ) → c ≢ a → (t : Stage) → MetIn t old d c → MetIn t new d c
there_stays old new a before after frames lost t c d apart u h =
    subst (λ cs. HaveMet (sight_in u d c) (sight_in new c d) (contacts_met u.members d c) cs) (sym (met_apart old new a before after frames lost t c d apart))
    (subst (λ w. HaveMet (sight_in u d c) w (contacts_met u.members d c) (contacts_met old.members c d)) (sym (sights_apart old new a before after frames lost t c d apart)) h)

turned_in : (s t : Stage) (a b : ℕ) → MetIn s t a b → MetIn t s b a
turned_in s t a b h = turned_met (sight_in s a b) (sight_in t b a) (contacts_met s.members a b) (contacts_met t.members b a) h

-- after an event at node a each two nodes met, where a did with each other
all_met : (old new : Stage) (a : ℕ) (before after : MemberState) (frames : List Outgoing) (lost : Bool) → AllMet old → Turns old new a before after frames lost
    → ((b : ℕ) → IsNumber a → IsNumber b → b ≢ a → MetIn old old a b → MetIn new old a b) → AllMet new
all_met old new a before after frames lost met t here c d c_is d_is apart =
    let both : (b : ℕ) → IsNumber a → IsNumber b → b ≢ a → MetIn new new a b =
    λ b a_is b_is other. there_stays old new a before after frames lost t b a other new (here b a_is b_is other (met a b a_is b_is (λ e. other (sym e)))) in
    elim (cases_eq c a) [
      | inl at_c ↦ subst (λ k. MetIn new new k d) (sym at_c) (both d (subst IsNumber at_c c_is) d_is (λ e. apart (at_c ∙ sym e)))
      | inr c_apart ↦ elim (cases_eq d a) [
        | inl at_d ↦ subst (λ k. MetIn new new c k) (sym at_d) (turned_in new new a c (both c (subst IsNumber at_d d_is) c_is c_apart))
        | inr d_apart ↦ there_stays old new a before after frames lost t d c d_apart new (here_stays old new a before after frames lost t c d c_apart old (met c d c_is d_is apart))
      ]
    ]

-- ---- a turn

met_turned : (old new : Stage) (a : ℕ) (m m' : MemberState) (bytes : List ℕ) (s : NodeStep) (frames : List Outgoing) (lost : Bool) → IsSound old.members old.air → IsSound new.members new.air → Turns old new a m m' frames lost
    → TakesTurn m m' bytes s frames → ComesOut old a s.event bytes → AllMet old → AllMet new
unfolding contacts_met
met_turned old new a m m' bytes s frames lost sound sound' t turn out met = all_met old new a m m' frames lost met t (λ b a_is b_is other h.
    let was = was_there old new a m m' frames lost t in
    let is = is_there old new a m m' frames lost t in
    let x = pair_with m.node b in
    let y = pair_with m'.node b in
    let p = turn.turn.turns b in
    let means = peer_means m.node.own bytes s frames b x y (kept_abreast m.node b turn.told) p in
    let own : m'.node.own ≡ node_word a = turn.turn.own ∙ (sound.numbered a m t.was).1 in
    let seen : pair_seen (sight_in new a b) ≡ y = kept_sight new a b m' sound' is own in
    let steps = steps_with old new a m m' bytes s frames lost sound t turn out (are_brought old a m m' bytes s frames sound t.was turn.turn out) b b_is other in
    let now = met_then (sight_in old a b) (sight_in new a b) (sight_in old b a) (contacts_met old.members a b) (contacts_met old.members b a) x y means.story h steps means.means seen in
    let entries : history_at new.members a ≡ history_at old.members a ++ step_entries s =
    history_at-is new.members a m' is ∙ turn_history m m' bytes s frames turn ∙ ap (λ es. es ++ step_entries s) (sym (history_at-is old.members a m was)) in
    let entered : contacts_entered (history_at new.members a) (addr_of b) ≡ contacts_entered (history_at old.members a) (addr_of b) ++ numbers_begun means.story =
    ap (λ es. contacts_entered es (addr_of b)) entries ∙ step_enters (history_at old.members a) s (addr_of b)
    ∙ ap (λ ns. contacts_entered (history_at old.members a) (addr_of b) ++ ns) (turn_begins m.node.own bytes s frames b x y means.story p means.story_is) in
    let all : contacts_met new.members a b ≡ contacts_met old.members a b ++ map as_contact (numbers_begun means.story) =
    ap (map as_contact) entered ∙ map-append as_contact (contacts_entered (history_at old.members a) (addr_of b)) (numbers_begun means.story) in
    subst (λ cs. HaveMet (sight_in new a b) (sight_in old b a) cs (contacts_met old.members b a)) (sym all) now)

-- ---- a restart

met_restarted : (old new : Stage) (a : ℕ) (before after : MemberState) (frames : List Outgoing) (lost : Bool) → AllMet old → Turns old new a before after frames lost → IsRestarted before after → frames ≡ []
    → before.node.boot + 1 < 2 ^ 32 → AllMet new
met_restarted old new a before after frames lost met t s none fits = all_met old new a before after frames lost met t (λ b a_is b_is other h.
    let was = was_there old new a before after frames lost t in
    let is = is_there old new a before after frames lost t in
    let v = sight_in old a b in
    let small = subst (λ n. n + 1 < 2 ^ 32) (sym (boot_is old a b before was)) fits in
    let now = steps_met v (sight_in new a b) (sight_in old b a) (contacts_met old.members a b) (contacts_met old.members b a) h (restarts_node (sight_in new a b) (restarts old new a before after frames lost b t s none) small) in
    let same = met_same old.members new.members a b (history_at-is new.members a after is ∙ history_restarted before after s ∙ sym (history_at-is old.members a before was)) in
    subst (λ cs. HaveMet (sight_in new a b) (sight_in old b a) cs (contacts_met old.members b a)) (sym same) now)

-- ---- every event

met_after : (old new : Stage) (by : By) (event : WorldEvent) (bytes : List ℕ) (before after : MemberState) (frames : List Outgoing) (answered : Answer) (lost : Bool) → IsSound old.members old.air → IsSound new.members new.air
    → Turns old new (node_of event) before after frames lost → IsReady old.members old.air event bytes before → HasEffect by event bytes before after frames answered → AllMet old → AllMet new
met_after old new by (Restart a) bytes before after frames answered lost sound sound' t ready h met = met_restarted old new a before after frames lost met t h.0 h.1 ready
met_after old new by (Call a call) bytes before after frames answered lost sound sound' t ready h met =
    met_turned old new a before after [] (made_step by call before after frames answered h) frames lost sound sound' t (made_turn by call before after frames answered h) (nothing_out old a call) met
met_after old new by (Arrive a bearer place) bytes before after frames answered lost sound sound' t ready h met =
    met_turned old new a before after bytes (met_step by bearer place bytes before after frames answered h) frames lost sound sound' t (met_turn by bearer place bytes before after frames answered h)
    (ready_out old a bearer place bytes before sound ready (length before.arrivals)) met

happens_met : (old new : Stage) (by : By) (event : WorldEvent) (bytes : List ℕ) (answered : Answer) (lost : Bool) → IsSound old.members old.air → IsSound new.members new.air → (h : Happens old new by event bytes answered lost)
    → IsReady old.members old.air event bytes h.before → AllMet old → AllMet new
happens_met old new by event bytes answered lost sound sound' h ready met = met_after old new by event bytes h.before h.after h.frames answered lost sound sound' h.turns ready h.does met

arrival_met : (old new : Stage) (by : By) (node bearer place : ℕ) (answered : Answer) (lost : Bool) → IsSound old.members old.air → IsSound new.members new.air → IsArrival old new by node bearer place answered lost → AllMet old → AllMet new
arrival_met old new by node bearer place answered lost sound sound' h met = case (unarrived old.members old.air node bearer place) refl
  where
    case : (o : Option Answer) → unarrived old.members old.air node bearer place ≡ o → AllMet new
    case (Some why) stops = subst AllMet (sym (h.none why stops).1) met
    case None free =
        let a = h.arrives free in
        happens_met old new by (Arrive node bearer place) a.0.frame answered lost sound sound' a.2 (a.0, a.1, free, refl) met

pub becomes_met : (old new : Stage) (by : By) (event : WorldEvent) (answered : Answer) (lost : Bool) → IsSound old.members old.air → IsSound new.members new.air → HasNextBoot old.members event → Becomes old by event new answered lost
    → AllMet old → AllMet new
becomes_met old new by (Restart node) answered lost sound sound' boots h met =
    happens_met old new by (Restart node) [] answered lost sound sound' h (let next = boots h.before h.turns.was in omega arith) met
becomes_met old new by (Call node call) answered lost sound sound' boots h met = happens_met old new by (Call node call) [] answered lost sound sound' h tt met
becomes_met old new by (Arrive node bearer place) answered lost sound sound' boots h met = arrival_met old new by node bearer place answered lost sound sound' h met

-- ---- the begin

nobody_entered : (a b : ℕ) → contacts_met [] a b ≡ []
unfolding contacts_met contacts_entered history_at member_at
nobody_entered a b = refl

pub start_met : IsSound [] empty_air → AreMet [] empty_air
start_met sound a b a_is b_is apart =
    subst (λ cs. HaveMet (sight_at [] empty_air a b) (sight_at [] empty_air b a) cs (contacts_met [] b a)) (sym (nobody_entered a b))
    (subst (λ cs. HaveMet (sight_at [] empty_air a b) (sight_at [] empty_air b a) [] cs) (sym (nobody_entered b a)) (none_met (sight_at [] empty_air a b) (sight_at [] empty_air b a) (sound.pairs a b a_is b_is apart)))
