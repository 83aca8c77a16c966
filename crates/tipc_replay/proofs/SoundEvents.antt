-- Every event keeps a world sound.
use Rattle.std.proofs.Common.{◌≡◌, ◌≢◌, ℕ, Bool, true, List, [], Option, Some, None, option_map, slice_index_or, refl, sym, ap, ◌∙◌, subst, inl, inr, ◌⊎◌, get_or-set_same, get_or-set_other, false, length}
use Rattle.std.specs.Prelude.{is_some}
use Rattle.std.proofs.lemmas.Bool.{cases_eq}
use Rattle.tipc_types.specs.Address.{node_word}
use Rattle.tipc_types.specs.declared.node_calls.Answer.{Answer}
use Rattle.tipc_types.specs.declared.node_calls.By.{By}
use Rattle.tipc_outside.specs.declared.outgoing.Outgoing.{Outgoing}
use Rattle.tipc_journal.specs.Steps.{NodeStep}
use Rattle.tipc_node.specs.declared.neighbours.Neighbour.{Neighbour}
use Rattle.tipc_header.specs.Spelling.{Fields}
use Rattle.tipc_pair.specs.Facing.{PairEnds, facing, other, with_made}
use Rattle.tipc_pair.specs.PairTurns.{Opening}
use Rattle.tipc_pair.specs.PairTurns.Opening.{cuts, hears, makes, mends, rests, ticks}
use Rattle.tipc_node.proofs.pairs.Strangers.{kept_abreast, kept_by}
use Rattle.tipc_node.specs.Nodes.{is_other, pair_with}
use Rattle.tipc_pair.specs.LinkReadings.{AreAbreast}
use Rattle.tipc_node.specs.Turns.{IsBrought, IsFrom, IsMaking, PeerTurn, pair_in}
use Rattle.tipc_pair.proofs.turns.PairEvents.{Any, On, OnBearer, closed_on}
use Rattle.tipc_pair.proofs.turns.PairKept.{both_facing, turn_kept, turn_own}
use Rattle.tipc_replay.specs.declared.events.WorldEvent.{WorldEvent}
use Rattle.tipc_replay.specs.declared.events.WorldEvent.TheVariants.{Restart, Call, Arrive}
use Rattle.tipc_replay.specs.Calls.{node_of}
use Rattle.tipc_replay.specs.Effects.{HasEffect}
use Rattle.tipc_replay.specs.Members.{IsRestarted}
use Rattle.tipc_replay.specs.Sound.{IsNumber, IsPairOf, IsSound}
use Rattle.tipc_replay.specs.States.{MemberState, contact_at, has_member, member_at, pair_at}
use Rattle.tipc_replay.specs.Steady.{IsSteady}
use Rattle.tipc_replay.specs.Steps.{Happens, Stage, Turns}
use Rattle.tipc_replay.proofs.pairs.Bringing.{are_brought}
use Rattle.tipc_replay.proofs.frames.Coming.{ComesOut, nothing_brought, nothing_out, sender_there}
use Rattle.tipc_replay.proofs.streams.Histories.{history_restarted}
use Rattle.tipc_replay.proofs.LookUps.{pair_at-is, pair_at-same, place_within}
use Rattle.tipc_replay.proofs.pairs.Outward.{all_out, there_number}
use Rattle.tipc_replay.proofs.pairs.PairedEvents.{IsReady, happens_pairs, made_step, made_turn, met_step, met_turn, ready_out}
use Rattle.tipc_replay.proofs.pairs.PairedTurns.{TakesTurn, turn_history}
use Rattle.tipc_replay.proofs.frames.Routes.{air_flies, air_sent}
use Rattle.tipc_replay.proofs.pairs.Pairings.{with_in}
use Rattle.tipc_replay.proofs.pairs.Standing.{other_number, pair_between}
use Rattle.tipc_replay.proofs.streams.StreamsKept.{StreamsSound, streams_of, streams_same, turn_streams}
use Rattle.tipc_replay.proofs.pairs.Turning.{is_there, others_stay, was_there}
-- ---- the node
use Rattle.tipc_pair.proofs.turns.TurnMeans.{on_bearers}

-- another node that is there
abbrev pub IsOther : List (Option MemberState) → ℕ → ℕ → Type 0
IsOther members a b = (b ≢ a) × (has_member members b ≡ true)

-- A node keeps its address, and comes to know none but other nodes that are there; its pairs stay those of the two nodes.
pub record KeepsNode (members : List (Option MemberState)) (a : ℕ) (before after : MemberState) : Type 0 where
  pub own : after.node.own ≡ before.node.own
  pub none : (b : ℕ) → pair_in before.node b ≡ None → (pair_in after.node b ≡ None) ⊎ IsOther members a b
  pub between : (b : ℕ) (x : PairEnds) → pair_in after.node b ≡ Some x → IsPairOf a b x

-- a node without a neighbour has no pair with it
no_neighbour : (xs : List (Option Neighbour)) (b : ℕ) → option_map (λ (x : Neighbour). x.pair) (slice_index_or xs b None) ≡ None → slice_index_or xs b None ≡ None
no_neighbour xs b none = case (slice_index_or xs b None) none
  where
    case : (o : Option Neighbour) → option_map (λ (x : Neighbour). x.pair) o ≡ None → o ≡ None
    case None none = refl
    case (Some x) none = absurd cc

-- ---- the pair after a turn

made_on : (x : PairEnds) → On x → (bearer : ℕ) → On (with_made (facing bearer x))
made_on x h bearer = let there = both_facing OnBearer bearer x h in record { two = there.two; near = refl; far = there.far }

turn_between : (own : ℕ) (bytes : List ℕ) (s : NodeStep) (frames : List Outgoing) (a b : ℕ) (x x' : PairEnds) → AreAbreast x → IsPairOf a b x → PeerTurn own bytes s frames b x x' → IsPairOf a b x'
turn_between own bytes s frames a b x x' abreast is p =
    let on = on_bearers x abreast in
    let kept = turn_kept OnBearer Any closed_on x x' p.opening _ p.reply p.own_frames (made_on x on) on p.turn in
    record {
      own = turn_own OnBearer Any closed_on x x' p.opening _ p.reply p.own_frames (made_on x on) on p.turn ∙ is.own;
      peer = kept.2 ∙ is.peer;
      first = kept.1 ∙ is.first;
    }

-- an end is made where a frame of the peer arrived
made_by : (b : ℕ) (bytes : List ℕ) (opening : Opening) → IsMaking opening → IsBrought b bytes opening → (es : ℕ) × (er : ℕ) × (p : Fields) × IsFrom b bytes es er p
made_by b bytes rests making brought = absurd making
made_by b bytes (makes bearer is_mended) making brought = (brought.0, brought.1, brought.2, brought.3)
made_by b bytes (mends bearer) making brought = absurd making
made_by b bytes (cuts bearer) making brought = absurd making
made_by b bytes (ticks shown) making brought = absurd making
made_by b bytes (hears bearer es er p by shown) making brought = absurd making

-- what arrived came from a node that is there
abbrev IsFromThere : List (Option MemberState) → List ℕ → Type 0
IsFromThere members bytes = (b es er : ℕ) (p : Fields) → IsFrom b bytes es er p → has_member members b ≡ true

-- a node's turn
keeps_turn : (s : Stage) (a : ℕ) (before after : MemberState) (bytes : List ℕ) (step : NodeStep) (frames : List Outgoing) → IsSound s.members s.air → slice_index_or s.members a None ≡ Some before → member_at s.members a ≡ Some before
    → TakesTurn before after bytes step frames → IsFromThere s.members bytes → KeepsNode s.members a before after
keeps_turn s a before after bytes step frames sound there was t from = record {
  own = t.turn.own;
  none = λ b none. elim (t.turn.stays b (no_neighbour before.node.neighbours b none)) [
    | inl alone ↦ inl (ap (option_map (λ (x : Neighbour). x.pair)) alone)
    | inr made ↦ inr (
        let p = t.turn.turns b in
        let sent = made_by b bytes p.opening made.0 p.brought in
        let other = other_number a b (ap (λ own. is_other own (node_word b)) (sym (sound.numbered a before there).1) ∙ made.1) in
        (other.1, from b sent.0 sent.1 sent.2 sent.3))
  ];
  between = λ b x is. subst (IsPairOf a b) (with_in after.node b x is)
      (turn_between before.node.own bytes step frames a b (pair_with before.node b) (pair_with after.node b) (kept_abreast before.node b t.told) (between b) (t.turn.turns b));
}
  where
    between : (b : ℕ) → IsPairOf a b (pair_with before.node b)
    between b = kept_by (IsPairOf a b) before.node b (λ none. record { own = (sound.numbered a before there).1; peer = refl; first = refl }) (λ x is. pair_between s a b before x sound was is)

keeps_restart : (members : List (Option MemberState)) (a : ℕ) (before after : MemberState) → IsRestarted before after → KeepsNode members a before after
keeps_restart members a before after r = record {
  own = r.node.own_is;
  none = λ b was. inl (ap (option_map (λ (y : Neighbour). y.pair)) (r.node.alone b));
  between = λ b x is. absurd (let gone = ap (option_map (λ (y : Neighbour). y.pair)) (r.node.alone b) in let wrong : ⊥ = cc in wrong);
}

keeps : (s : Stage) (by : By) (event : WorldEvent) (bytes : List ℕ) (before after : MemberState) (frames : List Outgoing) (answered : Answer) → IsSound s.members s.air → slice_index_or s.members (node_of event) None ≡ Some before
    → member_at s.members (node_of event) ≡ Some before → IsReady s.members s.air event bytes before → HasEffect by event bytes before after frames answered → KeepsNode s.members (node_of event) before after
keeps s by (Restart a) bytes before after frames answered sound there was ready h = keeps_restart s.members a before after h.0
keeps s by (Call a call) bytes before after frames answered sound there was ready h =
    keeps_turn s a before after [] (made_step by call before after frames answered h) frames sound there was (made_turn by call before after frames answered h) (λ b es er p from. absurd (nothing_brought b es er p from))
keeps s by (Arrive a bearer place) bytes before after frames answered sound there was ready h =
    keeps_turn s a before after bytes (met_step by bearer place bytes before after frames answered h) frames sound there was (met_turn by bearer place bytes before after frames answered h)
    (λ b es er p from. sender_there s a bearer place ready.0 b es er p sound ready.1 (subst (λ bs. IsFrom b bs es er p) ready.3 from))

-- ---- the world

table_other : (old new : Stage) (a : ℕ) (before after : MemberState) (frames : List Outgoing) (lost : Bool) → Turns old new a before after frames lost → (n : ℕ) → n ≢ a → slice_index_or new.members n None ≡ slice_index_or old.members n None
table_other old new a before after frames lost t n apart = ap (λ ms. slice_index_or ms n None) t.members ∙ get_or-set_other old.members a n (Some after) None apart

table_here : (old new : Stage) (a : ℕ) (before after : MemberState) (frames : List Outgoing) (lost : Bool) → Turns old new a before after frames lost → slice_index_or new.members a None ≡ Some after
table_here old new a before after frames lost t = ap (λ ms. slice_index_or ms a None) t.members ∙ get_or-set_same old.members a (Some after) None (place_within old.members a before t.was)

-- a pair that isn't there doesn't come, but with another node that is there
no_pair : (old new : Stage) (a : ℕ) (before after : MemberState) (frames : List Outgoing) (lost : Bool) → Turns old new a before after frames lost → KeepsNode old.members a before after
    → (c b : ℕ) → pair_at old.members c b ≡ None → (pair_at new.members c b ≡ None) ⊎ ((c ≡ a) × IsOther old.members a b)
no_pair old new a before after frames lost t k c b none = elim (cases_eq c a) [
  | inl same ↦
      let was : pair_in before.node b ≡ None = sym (pair_at-is old.members a b before (was_there old new a before after frames lost t)) ∙ ap (λ n. pair_at old.members n b) (sym same) ∙ none in
      elim (k.none b was) [
        | inl alone ↦ inl (ap (λ n. pair_at new.members n b) same ∙ pair_at-is new.members a b after (is_there old new a before after frames lost t) ∙ alone)
        | inr other ↦ inr (same, other)
      ]
  | inr apart ↦ inl (pair_at-same old.members new.members c b (others_stay old new a before after frames lost t c apart) ∙ none)
]

-- each pair is still of the two nodes
still_between : (old new : Stage) (a : ℕ) (before after : MemberState) (frames : List Outgoing) (lost : Bool) → IsSound old.members old.air → Turns old new a before after frames lost → KeepsNode old.members a before after
    → (c b : ℕ) (x : PairEnds) → pair_at new.members c b ≡ Some x → IsPairOf c b x
still_between old new a before after frames lost sound t k c b x is = elim (cases_eq c a) [
  | inl same ↦
      subst (λ n. IsPairOf n b x) (sym same) (k.between b x (sym (pair_at-is new.members a b after (is_there old new a before after frames lost t)) ∙ ap (λ n. pair_at new.members n b) (sym same) ∙ is))
  | inr apart ↦ sound.between c b x (sym (pair_at-same old.members new.members c b (others_stay old new a before after frames lost t c apart)) ∙ is)
]

numbers_stay : (old new : Stage) (a : ℕ) (before after : MemberState) (frames : List Outgoing) (lost : Bool) → IsSound old.members old.air → Turns old new a before after frames lost → KeepsNode old.members a before after
    → (n : ℕ) (m : MemberState) → slice_index_or new.members n None ≡ Some m → IsNumber n × (m.node.own ≡ node_word n)
numbers_stay old new a before after frames lost sound t k n m there = elim (cases_eq n a) [
  | inl same ↦
      let here = table_here old new a before after frames lost t in
      let there_a : slice_index_or new.members a None ≡ Some m = ap (λ j. slice_index_or new.members j None) (sym same) ∙ there in
      let is : after ≡ m = cc in
      let old_is = sound.numbered a before t.was in
      (subst IsNumber (sym same) old_is.0, ap (λ (x : MemberState). x.node.own) (sym is) ∙ k.own ∙ old_is.1 ∙ ap node_word (sym same))
  | inr apart ↦ sound.numbered n m (sym (table_other old new a before after frames lost t n apart) ∙ there)
]

-- a node that isn't there wasn't there
was_absent : (old new : Stage) (a : ℕ) (before after : MemberState) (frames : List Outgoing) (lost : Bool) → Turns old new a before after frames lost → (b : ℕ) → slice_index_or new.members b None ≡ None → slice_index_or old.members b None ≡ None
was_absent old new a before after frames lost t b none = elim (cases_eq b a) [
  | inl same ↦ absurd (let here = table_here old new a before after frames lost t in let gone : slice_index_or new.members a None ≡ None = ap (λ j. slice_index_or new.members j None) (sym same) ∙ none in let wrong : ⊥ = cc in wrong)
  | inr apart ↦ sym (table_other old new a before after frames lost t b apart) ∙ none
]

-- and a node that was there still is
still_there : (old new : Stage) (a : ℕ) (before after : MemberState) (frames : List Outgoing) (lost : Bool) → Turns old new a before after frames lost → (b : ℕ) → has_member old.members b ≡ true → has_member new.members b ≡ true
still_there old new a before after frames lost t b there = elim (cases_eq b a) [
  | inl same ↦ ap (has_member new.members) same ∙ ap is_some (table_here old new a before after frames lost t)
  | inr apart ↦ ap is_some (table_other old new a before after frames lost t b apart) ∙ there
]

-- ---- what was accepted and delivered

taken_streams : (old new : Stage) (a : ℕ) (before after : MemberState) (bytes : List ℕ) (step : NodeStep) (frames : List Outgoing) (lost : Bool) → IsSound old.members old.air → Turns old new a before after frames lost
    → TakesTurn before after bytes step frames → ComesOut old a step.event bytes → StreamsSound new.members
taken_streams old new a before after bytes step frames lost sound t turn out =
    turn_streams old.members new.members old.air a before after bytes step frames sound t.was t.members (turn_history before after bytes step frames turn) turn.turn (are_brought old a before after bytes step frames sound t.was turn.turn out)

streams_after : (old new : Stage) (by : By) (event : WorldEvent) (bytes : List ℕ) (before after : MemberState) (frames : List Outgoing) (answered : Answer) (lost : Bool) → IsSound old.members old.air
    → Turns old new (node_of event) before after frames lost → IsReady old.members old.air event bytes before → HasEffect by event bytes before after frames answered → StreamsSound new.members
streams_after old new by (Restart a) bytes before after frames answered lost sound t ready h =
    streams_same old.members new.members a before after (streams_of old.members old.air sound) t.was t.members (history_restarted before after h.0)
streams_after old new by (Call a call) bytes before after frames answered lost sound t ready h =
    taken_streams old new a before after [] (made_step by call before after frames answered h) frames lost sound t (made_turn by call before after frames answered h) (nothing_out old a call)
streams_after old new by (Arrive a bearer place) bytes before after frames answered lost sound t ready h =
    taken_streams old new a before after bytes (met_step by bearer place bytes before after frames answered h) frames lost sound t (met_turn by bearer place bytes before after frames answered h) (ready_out old a bearer place bytes before sound ready (length before.arrivals))

-- after every event a sound world is sound
pub happens_sound : (old new : Stage) (by : By) (event : WorldEvent) (bytes : List ℕ) (answered : Answer) (lost : Bool) → IsSteady old.members old.air → (h : Happens old new by event bytes answered lost)
    → IsReady old.members old.air event bytes h.before → IsSound new.members new.air
happens_sound old new by event bytes answered lost steady h ready =
    let sound = steady.sound in
    let a = node_of event in
    let t = h.turns in
    let was = was_there old new a h.before h.after h.frames lost t in
    let k = keeps old by event bytes h.before h.after h.frames answered sound t.was was ready h.does in
    let none = no_pair old new a h.before h.after h.frames lost t k in
    let out = all_out old by event bytes h.before h.after h.frames answered steady t.was ready h.does in
    let streams = streams_after old new by event bytes h.before h.after h.frames answered lost sound t ready h.does in
    record {
      numbered = numbers_stay old new a h.before h.after h.frames lost sound t k;
      apart = λ c. elim (none c c (sound.apart c)) [ inl alone ↦ alone | inr other ↦ absurd (other.1.0 other.0) ];
      known = λ c b absent.
          let gone : IsNumber b → slice_index_or old.members b None ≡ None = λ number. was_absent old new a h.before h.after h.frames lost t b (absent number) in
          elim (none c b (sound.known c b gone)) [
            | inl alone ↦ alone
            | inr other ↦ absurd (
                let here = other.1.1 in
                let empty = gone (there_number old.members old.air b sound here) in
                let wrong : true ≡ false = sym here ∙ ap is_some empty in cc)
          ];
      between = still_between old new a h.before h.after h.frames lost sound t k;
      pairs = happens_pairs old new by event bytes answered lost sound h ready;
      no_flow_one = streams.no_flow_one;
      accepted = streams.accepted;
      delivered = streams.delivered;
      nothing = streams.nothing;
      frames = air_flies (contact_at old.members a) new.members old.air new.air a h.frames lost t.leaves (sound.numbered a h.before t.was).0 out sound.frames;
      senders = air_sent (contact_at old.members a) new.members old.air new.air a h.frames lost t.leaves (ap is_some (table_here old new a h.before h.after h.frames lost t)) out
          (λ bearer k f at. (let by = sound.senders bearer k f at in (by.0, by.1, still_there old new a h.before h.after h.frames lost t by.0 by.2)));
    }
