-- From a moment of a call on, while what ticks and arrives was sent before it: what each link acknowledged was numbered
-- by then, so it numbers at most a window's packets. And in a calm world its session goes on, and no broadcast link
-- accepts anything.
use Rattle.std.proofs.Common.{◌≡◌, ◌≢◌, ◌≤◌, ◌+◌, ◌∙◌, ℕ, zero, suc, Bool, true, false, List, [], Option, Some, None, length, slice_index_or, inl, inr, refl, sym, ap, subst, arith}
use Rattle.std.specs.Prelude.{◌==◌, if◌then◌else◌, map, slice_get}
use Rattle.std.proofs.lemmas.Bool.{cases_lt}
use Rattle.tipc_types.specs.Position.{number_of}
use Rattle.tipc_types.specs.declared.node_calls.Answer.{Answer}
use Rattle.tipc_types.specs.declared.node_calls.EventNote.{EventNote}
use Rattle.tipc_types.specs.declared.node_calls.EventNote.TheVariants as note
use Rattle.tipc_types.proofs.PositionLaws.{same_position}
use Rattle.tipc_outside.specs.declared.outgoing.Outgoing.{Outgoing}
use Rattle.tipc_header.specs.declared.frames.FrameKind.TheVariants.{Links}
use Rattle.tipc_header.specs.Frames.{kind_in}
use Rattle.tipc_header.specs.Spelling.{Fields}
use Rattle.tipc_journal.specs.Steps.{NodeStep}
use Rattle.tipc_broadcast.specs.Casting.{accepted}
use Rattle.tipc_link.specs.Links.{LinkEnd, is_traffic}
use Rattle.tipc_link.specs.Sessions.{SessionEnd}
use Rattle.tipc_pair.specs.Facing.{PairEnds, facing, is_up_at, other, turned}
use Rattle.tipc_pair.specs.PairTurns.{Opening, Suits}
use Rattle.tipc_pair.specs.PairTurns.Opening.{cuts, hears, makes, mends, rests, ticks}
use Rattle.tipc_paired.specs.Views.{Frame, Node, epoch_in, epoch_on, session_on}
use Rattle.tipc_paired.proofs.wires.Wires.{epoch_of_end, epoch_of_none, none_some, session_of_down, session_of_none}
use Rattle.tipc_two_nodes.specs.Sights.{AreSeen, Sight, pair_seen}
use Rattle.tipc_node.specs.Messages.{bytes_of}
use Rattle.tipc_node.specs.Nodes.{pair_with}
use Rattle.tipc_node.specs.Telling.{IsTold}
use Rattle.tipc_node.specs.Turns.{IsBrought, IsFrom, NodeTurn}
use Rattle.tipc_node.proofs.pairs.Strangers.{kept_abreast}
use Rattle.tipc_settling.specs.Freshness.{AcknowledgesTo, AreAckedTo, IsAckedEnd, MayAcknowledge}
use Rattle.tipc_settling.specs.Goings.{EndsGoOn, up_session}
use Rattle.tipc_settling.specs.Stillness.{IsStill}
use Rattle.tipc_settling.proofs.Acknowledging.{few_are_numbered, turns_acknowledge_no_more}
use Rattle.tipc_settling.proofs.AirFresh.{acked_is_numbered, air_acknowledges_numbered}
use Rattle.tipc_replay.specs.declared.air.Sent.{Sent}
use Rattle.tipc_replay.specs.declared.events.WorldEvent.TheVariants.{Call}
use Rattle.tipc_replay.specs.Air.{as_frame, goes}
use Rattle.tipc_replay.specs.Skies.{air_on}
use Rattle.tipc_replay.specs.Sound.{IsNumber}
use Rattle.tipc_replay.specs.States.{MemberState, count_at}
use Rattle.tipc_replay.specs.Steps.{stage}
use Rattle.tipc_replay.specs.Views.{sight_at}
use Rattle.tipc_replay.proofs.LookUps.{member_at-is}
use Rattle.tipc_replay.proofs.casts.CasterLooks.{casting_at-is}
use Rattle.tipc_replay.proofs.frames.Coming.{comes_as}
use Rattle.tipc_replay.proofs.frames.Reaching.{sent_at}
use Rattle.tipc_world.specs.CalmWorlds.{IsCalmWorld, IsFromMended}
use Rattle.tipc_world.specs.Ends.{ends_of}
use Rattle.tipc_world.specs.Poised.{IsPoised}
use Rattle.tipc_world.specs.RoundParts.{EachNode, FrameArrives, HappensWhole, IsKept}
use Rattle.tipc_world.specs.States.{WorldState, is_there}
use Rattle.tipc_world.specs.StillWorlds.{HasHeardAll, IsStillWorld, IsUnderPresent, footing_at}
use Rattle.tipc_world.specs.YoungWorlds.{NumbersFew, casts_at, link_count}
use Rattle.tipc_world.proofs.rounds.Beginning.{its_end}
use Rattle.tipc_world.proofs.rounds.CalmEvents.{by_arrival, may_arrive, step_of_arrival, step_of_tick, tick_turn}
use Rattle.tipc_world.proofs.rounds.CalmWorlds.{calm_is_still}
use Rattle.tipc_world.proofs.rounds.CastsKept.{arrival_casts, tick_casts}
use Rattle.tipc_world.proofs.rounds.Lasting.{ends_then, lasts_on, same_lasts, turn_lasts}
use Rattle.tipc_world.proofs.rounds.StillWorlds.{node_number, seen_end, sender_there, sight_is, still_epoch}
use Rattle.tipc_world.proofs.rounds.Traffic.{of_present}
use Rattle.tipc_world.proofs.rounds.UpLinks.{UpSide, both_up, session_near, sight_near, still_side, the_member, up_side}

-- ---- what is carried

-- what a node numbered for node b at a moment, under the epoch that it had then
abbrev pub most_at : WorldState → ℕ → ℕ → ℕ → ℕ
most_at base n b bearer = (sight_at base.members base.air n b).numbered bearer (epoch_in (sight_at base.members base.air n b).node.contact ((sight_at base.members base.air n b).ends bearer))

-- node n since a moment of a call
pub record IsPaced (start base : WorldState) (n : ℕ) (m : MemberState) : Type 0 where
  pub acked : (b : ℕ) → IsNumber b → n ≢ b → AreAckedTo (most_at base n b) (pair_with m.node b)
  pub goes : (k : MemberState) → slice_index_or base.members n None ≡ Some k → (b : ℕ) → IsNumber b → n ≢ b → EndsGoOn (pair_with k.node b) (pair_with m.node b)
  pub casts : accepted m.node.casting.sending ≡ casts_at start n

-- ---- the begin

-- of a node of which it is known what its broadcast link accepted
pub paced_begins : (start base : WorldState) (n : ℕ) (m : MemberState) → IsKept base → slice_index_or base.members n None ≡ Some m → casts_at base n ≡ casts_at start n → IsPaced start base n m
paced_begins start base n m kept there casts = record {
  acked = λ b number apart. subst (AreAckedTo (most_at base n b)) (sight_is base n b m kept there)
      (acked_is_numbered (sight_at base.members base.air n b) (sight_at base.members base.air b n) (kept.nodes.sound.pairs n b (node_number base n m kept there) number apart));
  goes = λ k k_there b number apart. (let both : Some m ≡ Some k = sym there ∙ k_there in let same : m ≡ k = cc in same_lasts (pair_with k.node b) (pair_with m.node b) (ap (λ (q : MemberState). pair_with q.node b) same));
  casts = ap (λ v. accepted v.sending) (sym (casting_at-is base.members n m (member_at-is base.members n m there))) ∙ casts;
}

-- ---- a turn

-- the packets that may be heard acknowledge no more
may_acknowledge : (most : ℕ → ℕ) (x : PairEnds) (b : ℕ) (event : EventNote) (bytes : List ℕ) (opening : Opening) → Suits event opening → IsBrought b bytes opening
    → ((bearer number es er : ℕ) (p : Fields) → event ≡ note.Arrive bearer number → IsFrom b bytes es er p → kind_in bytes ≡ Links → is_traffic p.header ≡ true → AcknowledgesTo (most bearer) (facing bearer x).near p.acknowledgement)
    → MayAcknowledge most x opening
may_acknowledge most x b event bytes rests suits brought heard = tt
may_acknowledge most x b event bytes (makes bearer is_mended) suits brought heard = tt
may_acknowledge most x b event bytes (mends bearer) suits brought heard = tt
may_acknowledge most x b event bytes (cuts bearer) suits brought heard = tt
may_acknowledge most x b event bytes (ticks shown) suits brought heard = tt
may_acknowledge most x b event bytes (hears bearer es er p by shown) suits brought heard = heard bearer by es er p suits brought.0 brought.1

turn_acks : (b : ℕ) (m m' : MemberState) (bytes : List ℕ) (s : NodeStep) (frames : List Outgoing) (most : ℕ → ℕ) → IsTold m.node → NodeTurn m.node m'.node bytes s frames
    → ((bearer number es er : ℕ) (p : Fields) → s.event ≡ note.Arrive bearer number → IsFrom b bytes es er p → kind_in bytes ≡ Links → is_traffic p.header ≡ true → AcknowledgesTo (most bearer) (facing bearer (pair_with m.node b)).near p.acknowledgement)
    → AreAckedTo most (pair_with m.node b) → AreAckedTo most (pair_with m'.node b)
turn_acks b m m' bytes s frames most told turn heard h =
    let p = turn.turns b in
    let x = pair_with m.node b in
    let first = (kept_abreast m.node b told).first in
    turns_acknowledge_no_more most x (pair_with m'.node b) p.opening (map (bytes_of m.node.own) p.messages) p.reply p.own_frames (omega (arith, first)) p.on_one
    (may_acknowledge most x b s.event bytes p.opening p.suits p.brought heard) p.turn h

-- ---- a tick

-- nothing is acknowledged at a tick
pub tick_acks : (base old new : WorldState) (node : ℕ) (answered : Answer) (h : HappensWhole old new (Call node note.Tick) [] answered) (b : ℕ) → AreAckedTo (most_at base node b) (pair_with h.before.node b)
    → AreAckedTo (most_at base node b) (pair_with h.after.node b)
tick_acks base old new node answered h b acked =
    turn_acks b h.before h.after [] (step_of_tick old new node answered h) h.frames (most_at base node b) h.does.turn.told_before h.does.turn.turn
    (λ bearer place es er p is. absurd (let wrong : note.Tick ≡ note.Arrive bearer place = is in cc)) acked

pub tick_paced : (start base old new : WorldState) (node : ℕ) (answered : Answer) (h : HappensWhole old new (Call node note.Tick) [] answered) → IsKept old → IsCalmWorld start old → HasHeardAll node h.before → IsPaced start base node h.before
    → IsPaced start base node h.after
tick_paced start base old new node answered h kept g heard paced = record {
  acked = λ b number apart. tick_acks base old new node answered h b (paced.acked b number apart);
  goes = λ k there b number apart. ends_then (pair_with k.node b) (pair_with h.before.node b) (pair_with h.after.node b) (paced.goes k there b number apart)
      (turn_lasts start old node b h.before h.after [] (step_of_tick old new node answered h) h.frames kept h.was number apart (g.nodes node h.before h.was b number apart) (tick_turn start old new node answered h g heard b number apart));
  casts = tick_casts _ h.before h.after h.frames answered h.does ∙ paced.casts;
}

-- ---- counts

-- what the link of an end that is up numbered is what its session did
count_side : (start w : WorldState) (a b bearer : ℕ) (m : MemberState) → IsKept w → IsNumber a → IsNumber b → a ≢ b → (u : UpSide start w a b bearer m) → link_count start w a b bearer ≡ u.session.sending.numbered
unfolding sight_at
count_side start w a b bearer m kept a_is b_is apart u =
    let h = kept.nodes.sound.pairs a b a_is b_is apart in
    ap (count_at w.members a b bearer) (sym u.epoch) ∙ h.seen_here.counts bearer u.link.end u.session u.end_is u.has

-- what was numbered at a moment, by the link
most_is : (start base : WorldState) (n b bearer : ℕ) (m : MemberState) → IsKept base → bearer ≤ 1 → slice_index_or base.members n None ≡ Some m → IsStill (footing_at start n b) (footing_at start b n) (pair_with m.node b)
    → most_at base n b bearer ≡ link_count start base n b bearer
unfolding sight_at
most_is start base n b bearer m kept on_one there still_pair =
    let own = footing_at start n b in
    let peer = footing_at start b n in
    let v = sight_at base.members base.air n b in
    let still : IsStill own peer (pair_seen v) = subst (IsStill own peer) (sym (sight_is base n b m kept there)) still_pair in
    let epoch : epoch_in v.node.contact (v.ends bearer) ≡ own.epoch bearer = sym (seen_end v bearer on_one) ∙ still_epoch own peer v bearer on_one still in
    ap (count_at base.members n b bearer) epoch

-- a link that isn't up has numbered nothing under the present epoch of its end
unnumbered : (v w : Sight) (bearer : ℕ) (o : Option LinkEnd) → AreSeen v w → v.ends bearer ≡ o → is_up_at o ≡ false → v.numbered bearer (epoch_in v.node.contact o) ≡ 0
unnumbered v w bearer o h is down =
    let x = h.here.view in
    let c = x.wires bearer in
    let half = h.talking.twins.paired.here in
    let epoch = epoch_in v.node.contact o in
    let present : epoch_on x.node c ≡ epoch = epoch_is o (h.seen_here.ends bearer ∙ is) in
    let none : session_on c ≡ None = none_on o (h.seen_here.ends bearer ∙ is) down in
    let begun = (half.epochs bearer).unborn epoch (omega (arith, present), λ s on. absurd (none_some s (session_on c) none on)) in
    h.seen_here.numbered bearer epoch ∙ ap (λ (line : List (List ℕ)). length line) ((half.wires bearer).unborn epoch begun)
  where
    epoch_is : (o : Option LinkEnd) → (h.here.view.wires bearer).end ≡ o → epoch_on h.here.view.node (h.here.view.wires bearer) ≡ epoch_in v.node.contact o
    epoch_is None end = epoch_of_none h.here.view.node (h.here.view.wires bearer) end ∙ ap (λ (n : Node). n.contact) h.seen_here.node
    epoch_is (Some e) end = epoch_of_end h.here.view.node (h.here.view.wires bearer) e end

    none_on : (o : Option LinkEnd) → (h.here.view.wires bearer).end ≡ o → is_up_at o ≡ false → session_on (h.here.view.wires bearer) ≡ None
    none_on None end down = session_of_none (h.here.view.wires bearer) end
    none_on (Some e) end down = session_of_down (h.here.view.wires bearer) e end down

-- the session of an end that was up at a moment, and of now
pub same_session : (o : Option SessionEnd) (s t : SessionEnd) → o ≡ Some s → o ≡ Some t → s ≡ t
same_session o s t one two = (let both : Some s ≡ Some t = sym one ∙ two in cc)

counts_on : (start base w : WorldState) (n b bearer : ℕ) (k m : MemberState) → IsKept base → IsKept w → IsNumber n → IsNumber b → n ≢ b → bearer ≤ 1 → (before : UpSide start base n b bearer k) → (now : UpSide start w n b bearer m)
    → EndsGoOn (pair_with k.node b) (pair_with m.node b) → (pair_with k.node b).bearer ≡ 0 → (pair_with m.node b).bearer ≡ 0 → link_count start base n b bearer ≤ link_count start w n b bearer
counts_on start base w n b bearer k m kept_base kept n_is b_is apart on_one before now goes first first' =
    let was : up_session (facing bearer (pair_with k.node b)).near ≡ Some before.session = sym (session_near k.node b bearer) ∙ before.in_session in
    let is : up_session (facing bearer (pair_with m.node b)).near ≡ Some now.session = sym (session_near m.node b bearer) ∙ now.in_session in
    let on = lasts_on (pair_with k.node b) (pair_with m.node b) bearer first first' on_one goes before.session was in
    let same = same_session (up_session (facing bearer (pair_with m.node b)).near) on.0 now.session on.1 is in
    let grew = on.2.goes.numbered in
    let here = count_side start base n b bearer k kept_base n_is b_is apart before in
    let there = count_side start w n b bearer m kept n_is b_is apart now in
    let counts : on.0.sending.numbered ≡ now.session.sending.numbered = ap (λ (s : SessionEnd). s.sending.numbered) same in
    omega (arith, grew, here, there, counts)

-- what is acknowledged on a bearer
acked_on : (most : ℕ → ℕ) (x : PairEnds) (bearer : ℕ) (e : LinkEnd) → x.bearer ≡ 0 → bearer ≤ 1 → AreAckedTo most x → (facing bearer x).near ≡ Some e → IsAckedEnd (most bearer) e
unfolding facing
acked_on most x zero e first on_one h near =
    let here : x.near ≡ Some e = ap (λ k. (if k == 0 then x else turned x).near) (sym first) ∙ near in
    subst (λ k. IsAckedEnd (most k) e) first (its_end (IsAckedEnd (most x.bearer)) x.near e here h.near)
acked_on most x (suc zero) e first on_one h near =
    let here : x.far ≡ Some e = ap (λ k. (if k == 1 then x else turned x).near) (sym first) ∙ near in
    subst (λ k. IsAckedEnd (most (other k)) e) first (its_end (IsAckedEnd (most (other x.bearer))) x.far e here h.far)
acked_on most x (suc (suc more)) e first on_one h near = absurd (omega (arith, on_one))

-- what a node's journal tells
pub pair_first : (w : WorldState) (n b : ℕ) (m : MemberState) → IsKept w → slice_index_or w.members n None ≡ Some m → (pair_with m.node b).bearer ≡ 0
pair_first w n b m kept there = (kept_abreast m.node b (kept.nodes.shared n m there).told).first

-- a link that acknowledged no more than what was numbered at a moment has numbered at most a window's packets since
pub few_since : (start base w : WorldState) (a b bearer : ℕ) (k m : MemberState) → IsKept base → IsKept w → IsNumber a → IsNumber b → a ≢ b → bearer ≤ 1
    → slice_index_or base.members a None ≡ Some k → IsStill (footing_at start a b) (footing_at start b a) (pair_with k.node b) → slice_index_or w.members a None ≡ Some m → IsStill (footing_at start a b) (footing_at start b a) (pair_with m.node b)
    → AreAckedTo (most_at base a b) (pair_with m.node b) → link_count start w a b bearer ≤ link_count start base a b bearer + 50
few_since start base w a b bearer k m kept_base kept a_is b_is apart on_one was_there was_still there still acked = by (is_up_at (facing bearer (pair_with m.node b)).near) refl
  where
    most : most_at base a b bearer ≡ link_count start base a b bearer
    most = most_is start base a b bearer k kept_base on_one was_there was_still

    now_is : most_at w a b bearer ≡ link_count start w a b bearer
    now_is = most_is start w a b bearer m kept on_one there still

    by : (up : Bool) → is_up_at (facing bearer (pair_with m.node b)).near ≡ up → link_count start w a b bearer ≤ link_count start base a b bearer + 50
    by true up =
        let u = still_side start w a b bearer m kept b_is apart on_one there still up in
        let end = acked_on (most_at base a b) (pair_with m.node b) bearer u.link.end (pair_first w a b m kept there) on_one acked u.link.near u.link.up u.session u.has in
        let few = few_are_numbered (most_at base a b bearer) u.session.sending end in
        let now = count_side start w a b bearer m kept a_is b_is apart u in
        omega (arith, few, most, now)
    by false down =
        let v = sight_at w.members w.air a b in
        let end : v.ends bearer ≡ (facing bearer (pair_with m.node b)).near = sym (sight_near v bearer on_one) ∙ ap (λ x. (facing bearer x).near) (sight_is w a b m kept there) in
        let none : most_at w a b bearer ≡ 0 = unnumbered v (sight_at w.members w.air b a) bearer (v.ends bearer) (kept.nodes.sound.pairs a b a_is b_is apart) refl (ap is_up_at end ∙ down) in
        omega (arith, none, now_is)

-- the two ends of a link that was up, at a moment and now
record Sides (start base w : WorldState) (a b bearer : ℕ) : Type 0 where
  was : MemberState
  was_there : slice_index_or base.members a None ≡ Some was
  is : MemberState
  is_there : slice_index_or w.members a None ≡ Some is
  before : UpSide start base a b bearer was
  now : UpSide start w a b bearer is

sides : (start base w : WorldState) (a b bearer : ℕ) → IsKept start → IsPoised start → IsCalmWorld start base → IsCalmWorld start w → IsNumber a → IsNumber b → a ≢ b → bearer ≤ 1 → (footing_at start a b).up bearer ≡ true → Sides start base w a b bearer
sides start base w a b bearer kept_start poised g_base g a_is b_is apart on_one up =
    let other = both_up start a b bearer kept_start poised apart on_one up in
    let here = (both_up start b a bearer kept_start poised (λ same. apart (sym same)) on_one other.0).1 in
    let k = the_member (slice_index_or base.members a None) (g_base.on.nodes a ∙ here) in
    let m = the_member (slice_index_or w.members a None) (g.on.nodes a ∙ here) in
    record {
      was = k.0;
      was_there = k.1;
      is = m.0;
      is_there = m.1;
      before = up_side start base a b bearer k.0 (g_base.on.kept kept_start) b_is apart on_one k.1 (g_base.nodes a k.0 k.1 b b_is apart) up;
      now = up_side start w a b bearer m.0 (g.on.kept kept_start) b_is apart on_one m.1 (g.nodes a m.0 m.1 b b_is apart) up;
    }

-- Each link that is up numbered at most a window's packets since.
pub numbers_few : (start base w : WorldState) → IsKept start → IsPoised start → IsCalmWorld start base → IsCalmWorld start w → EachNode (IsPaced start base) w → NumbersFew start base w 50
numbers_few start base w kept_start poised g_base g paced = record {
  more = λ a b bearer a_is b_is apart on_one up. (
      let p = sides start base w a b bearer kept_start poised g_base g a_is b_is apart on_one up in
      counts_on start base w a b bearer p.was p.is (g_base.on.kept kept_start) (g.on.kept kept_start) a_is b_is apart on_one p.before p.now ((paced a p.is p.is_there).goes p.was p.was_there b b_is apart)
      (pair_first base a b p.was (g_base.on.kept kept_start) p.was_there) (pair_first w a b p.is (g.on.kept kept_start) p.is_there));
  few = λ a b bearer a_is b_is apart on_one up. (
      let p = sides start base w a b bearer kept_start poised g_base g a_is b_is apart on_one up in
      few_since start base w a b bearer p.was p.is (g_base.on.kept kept_start) (g.on.kept kept_start) a_is b_is apart on_one p.was_there (g_base.nodes a p.was p.was_there b b_is apart).still p.is_there (g.nodes a p.is p.is_there b b_is apart).still
      ((paced a p.is p.is_there).acked b b_is apart));
}

-- ---- an arrival

-- a frame that stood in the air at a moment, among those that its sender had sent
sent_then : (base : WorldState) (b n bearer place : ℕ) (f : Sent) → slice_get (air_on bearer base.air) place ≡ Some f → goes b n f ≡ true → (k : ℕ) × (slice_get (sight_at base.members base.air b n).sent k ≡ Some (as_frame bearer f))
unfolding sight_at
sent_then base b n bearer place f stood goes_to = (let at = sent_at base.air b n bearer place f stood goes_to in (at.1.0, at.1.1))

-- counts of a sight are those of the world
told_counts : (base : WorldState) (n b bearer er told : ℕ) → told ≤ (sight_at base.members base.air n b).numbered bearer er → told ≤ count_at base.members n b bearer er
unfolding sight_at
told_counts base n b bearer er told low = low

fresh_counts : (old : WorldState) (n b bearer er most : ℕ) → (sight_at old.members old.air n b).numbered bearer er ≤ most + 30000 → count_at old.members n b bearer er ≤ most + 30000
unfolding sight_at
fresh_counts old n b bearer er most fresh = fresh

-- Of two moments a frame acknowledges no more by the second one than by the first, where it isn't too old by then.
no_later : (first second beside : ℕ) → number_of first ≡ number_of second → beside ≤ first + 50 → second ≤ beside + 30000 → second ≤ first
no_later first second beside same recent fresh = elim (cases_lt first second) [
  | inl less ↦ (let one = same_position first second (omega (arith, recent, fresh)) (omega (arith, less)) same in omega (arith, one))
  | inr from ↦ omega (arith, from)
]

-- What arrives was sent before a moment, so it acknowledges no more than what was numbered by then.
acknowledges : (start base : WorldState) → IsKept start → IsStillWorld start base → (old new : WorldState) (a : FrameArrives (ends_of start.air) old new) → IsStillWorld start old → IsUnderPresent start a.bearer a.frame
    → slice_get (air_on a.bearer base.air) a.place ≡ Some a.frame → is_there base a.node ≡ true → (b : ℕ) → IsNumber b → a.node ≢ b → (es er : ℕ) (p : Fields)
    → IsFrom b a.frame.frame es er p → kind_in a.frame.frame ≡ Links → is_traffic p.header ≡ true → AcknowledgesTo (most_at base a.node b a.bearer) (facing a.bearer (pair_with a.arrives.before.node b)).near p.acknowledgement
acknowledges start base kept_start g_base old new a g said stood here b number apart es er p brings kind_is traffic =
    let n = a.node in
    let bearer = a.bearer in
    let f = a.frame in
    let kept = g.on.kept kept_start in
    let kept_base = g_base.on.kept kept_start in
    let n_is = node_number old n a.arrives.before kept a.arrives.was in
    let back : b ≢ n = λ same. apart (sym same) in
    let sent_by = sender_there old n bearer a.place f b es er p kept a.found brings kind_is in
    let sender = the_member (slice_index_or old.members b None) sent_by.there in
    let link = of_present start old b n bearer sent_by.place f sender.0 es er p kept_start g said number n_is back a.on_one sent_by.goes_here sender.1 sent_by.sent brings traffic in
    let stood_at = sent_then base b n bearer a.place f stood sent_by.goes_here in
    let earlier = air_acknowledges_numbered (sight_at base.members base.air n b) (sight_at base.members base.air b n) stood_at.0 (as_frame bearer f) es er p (kept_base.nodes.sound.pairs n b n_is number apart) stood_at.1 brings.es_fits brings.er_fits brings.fits brings.frame_is traffic in
    let told = air_acknowledges_numbered (sight_at old.members old.air n b) (sight_at old.members old.air b n) sent_by.place (as_frame bearer f) es er p (kept.nodes.sound.pairs n b n_is number apart) sent_by.sent brings.es_fits brings.er_fits brings.fits brings.frame_is traffic in
    let came = comes_as (stage old.members old.air) n bearer a.place f b es er p kept.nodes.sound a.found (may_arrive old.members old.air n bearer a.place f a.found a.fresh) brings kind_is in
    let beside : came.0.frame.peer_numbered ≡ f.peer_numbered = ap (λ (q : Frame). q.peer_numbered) came.1 in
    let fresh = fresh_counts old n b bearer er came.0.frame.peer_numbered (came.0.own_fresh traffic) in
    let by_then = told_counts base n b bearer er earlier.0 earlier.2 in
    let by_now = told_counts old n b bearer er told.0 told.2 in
    let recent = told.3 in
    let less = no_later earlier.0 told.0 f.peer_numbered (sym earlier.1 ∙ told.1) earlier.3 (omega (arith, by_now, fresh, beside)) in
    let k = the_member (slice_index_or base.members n None) here in
    let most = most_is start base n b bearer k.0 kept_base a.on_one k.1 (g_base.nodes n k.0 k.1 b number apart) in
    let at : count_at base.members n b bearer er ≡ link_count start base n b bearer = ap (count_at base.members n b bearer) link.er_is in
    let at_old : count_at old.members n b bearer er ≡ link_count start old n b bearer = ap (count_at old.members n b bearer) link.er_is in
    record {
      told = told.0;
      told_is = told.1;
      no_more = omega (arith, less, by_then, at, most);
      lately = λ e s near e_up has. (
          let now = still_side start old n b bearer a.arrives.before kept number apart a.on_one a.arrives.was (g.nodes n a.arrives.before a.arrives.was b number apart) (ap is_up_at near ∙ e_up) in
          let same : now.link.end ≡ e = (let both : Some now.link.end ≡ Some e = sym now.link.near ∙ near in cc) in
          let own : now.session ≡ s = same_session e.session now.session s (ap (λ (q : LinkEnd). q.session) (sym same) ∙ now.has) has in
          let count = count_side start old n b bearer a.arrives.before kept n_is number apart now in
          let numbered : now.session.sending.numbered ≡ s.sending.numbered = ap (λ (q : SessionEnd). q.sending.numbered) own in
          (omega (arith, by_now, at_old, count, numbered), omega (arith, fresh, beside, recent, at_old, count, numbered)));
    }

pub arrival_acks : (start base : WorldState) → IsKept start → IsStillWorld start base → (old new : WorldState) (a : FrameArrives (ends_of start.air) old new) → IsStillWorld start old → IsUnderPresent start a.bearer a.frame
    → slice_get (air_on a.bearer base.air) a.place ≡ Some a.frame → is_there base a.node ≡ true → (b : ℕ) → IsNumber b → a.node ≢ b → AreAckedTo (most_at base a.node b) (pair_with a.arrives.before.node b)
    → AreAckedTo (most_at base a.node b) (pair_with a.arrives.after.node b)
arrival_acks start base kept g_base old new a g said stood here b number apart acked =
    let t = a.arrives.does.turn in
    turn_acks b a.arrives.before a.arrives.after a.frame.frame (step_of_arrival start old new a) a.arrives.frames (most_at base a.node b) t.told_before t.turn
    (λ bearer place es er p is brings kind_is traffic. (
    let arrives : note.Arrive a.bearer _ ≡ note.Arrive bearer place = is in
    let on : a.bearer ≡ bearer = cc in
    subst (λ k. AcknowledgesTo (most_at base a.node b k) (facing k (pair_with a.arrives.before.node b)).near p.acknowledgement) on
    (acknowledges start base kept g_base old new a g said stood here b number apart es er p brings kind_is traffic))) acked

pub arrival_paced : (start base : WorldState) → IsKept start → IsPoised start → IsCalmWorld start base → (old new : WorldState) (a : FrameArrives (ends_of start.air) old new) → IsCalmWorld start old
    → IsFromMended start a.bearer a.frame → slice_get (air_on a.bearer base.air) a.place ≡ Some a.frame → is_there base a.node ≡ true → IsPaced start base a.node a.arrives.before → IsPaced start base a.node a.arrives.after
arrival_paced start base kept poised g_base old new a g said stood here paced = record {
  acked = λ b number apart. (
      let under : IsUnderPresent start a.bearer a.frame = λ s d s_is d_is two goes_to. (said s d s_is d_is two goes_to).present in
      arrival_acks start base kept (calm_is_still start base g_base) old new a (calm_is_still start old g) under stood here b number apart (paced.acked b number apart));
  goes = λ k there b number apart. ends_then (pair_with k.node b) (pair_with a.arrives.before.node b) (pair_with a.arrives.after.node b) (paced.goes k there b number apart)
      (by_arrival start kept poised old new a g said b number apart (EndsGoOn (pair_with a.arrives.before.node b) (pair_with a.arrives.after.node b)) (same_lasts (pair_with a.arrives.before.node b) (pair_with a.arrives.after.node b))
      (λ c. turn_lasts start old a.node b a.arrives.before a.arrives.after a.frame.frame (step_of_arrival start old new a) a.arrives.frames (g.on.kept kept) a.arrives.was number apart (g.nodes a.node a.arrives.before a.arrives.was b number apart) c));
  casts = arrival_casts _ a.bearer a.place a.frame.frame a.arrives.before a.arrives.after a.arrives.frames a.answered a.arrives.does ∙ paced.casts;
}
