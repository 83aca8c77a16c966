-- A poised world stays calm while it settles: links go neither up nor down.
use Rattle.std.proofs.Common.{◌≡◌, ◌≢◌, ◌≤◌, ◌∙◌, ℕ, zero, suc, Bool, true, false, List, [], Option, Some, None, if◌then◌else◌, length, slice_get, slice_index_or, is_some, eqb-true, inl, inr, refl, sym, ap, subst, arith}
use Rattle.std.specs.Prelude.{◌==◌, All, drop, map, option_and_then}
use Rattle.std.specs.List.{filter}
use Rattle.std.proofs.lemmas.Bool.{and_parts, le-leb, true≢false}
use Rattle.tipc_types.specs.Address.{node_word}
use Rattle.tipc_types.specs.LinkStates.{is_up}
use Rattle.tipc_types.specs.declared.link_words.Why.{Why}
use Rattle.tipc_types.specs.declared.link_words.Why.TheVariants as why
use Rattle.tipc_types.specs.declared.node_calls.Answer.{Answer}
use Rattle.tipc_types.specs.declared.node_calls.Answer.TheVariants as answer
use Rattle.tipc_types.specs.declared.node_calls.EventNote.TheVariants as note
use Rattle.tipc_outside.specs.declared.outgoing.Outgoing.{Outgoing}
use Rattle.tipc_header.specs.Faults.{fault_of}
use Rattle.tipc_journal.specs.Contacts.{up_epochs}
use Rattle.tipc_journal.specs.Steps.{NodeStep}
use Rattle.tipc_link.specs.Links.{LinkEnd, known}
use Rattle.tipc_pair.specs.Facing.{PairEnds, facing, is_up_at}
use Rattle.tipc_pair.specs.LinkReadings.{epochs_of, epochs_on}
use Rattle.tipc_pair.specs.PairTurns.{Opening, PairTurn, Suits}
use Rattle.tipc_pair.specs.PairTurns.Opening.{cuts, hears, makes, mends, rests, ticks}
use Rattle.tipc_node.specs.Ends.{BothStand}
use Rattle.tipc_node.specs.Messages.{bytes_of}
use Rattle.tipc_node.specs.Nodes.{NodeState, is_frame_size, is_mended_on, pair_with, step_of, stop_among, stop_by_fault, stop_of}
use Rattle.tipc_node.specs.Sockets.{kept_answer}
use Rattle.tipc_node.specs.Telling.{IsTold}
use Rattle.tipc_node.specs.Turns.{NodeTurn, addr_of, frames_to, is_change_of, is_out_to}
use Rattle.tipc_node.specs.declared.neighbours.Neighbour.{Neighbour}
use Rattle.tipc_node.proofs.journal.Telling.{epochs_told}
use Rattle.tipc_node.proofs.pairs.Strangers.{kept_by, kept_tells}
use Rattle.tipc_settling.specs.Bearers.{KeepsBearers}
use Rattle.tipc_settling.specs.Events.{ComesToUpAt}
use Rattle.tipc_settling.proofs.Bearers.{sends_on_mended}
use Rattle.tipc_settling.proofs.Nodes.{events_tell_nothing}
use Rattle.tipc_replay.specs.declared.events.WorldEvent.{WorldEvent}
use Rattle.tipc_replay.specs.declared.events.WorldEvent.TheVariants.{Arrive, Call}
use Rattle.tipc_replay.specs.Air.{airborne}
use Rattle.tipc_replay.specs.Calls.{node_of}
use Rattle.tipc_replay.specs.Sound.{IsNumber}
use Rattle.tipc_replay.specs.States.{MemberState, contact_at, has_member, is_mended_at, link_at}
use Rattle.tipc_replay.specs.Views.{sight_at}
use Rattle.tipc_replay.proofs.InLists.{all_at, stands_passing}
use Rattle.tipc_world.specs.declared.places.Places.{Places}
use Rattle.tipc_world.specs.CalmWorlds.{IsCalmNode, IsCalmPair, IsCalmWorld, IsFromMended}
use Rattle.tipc_world.specs.Ends.{ends_of, AreBefore}
use Rattle.tipc_world.specs.Poised.{IsPoised}
use Rattle.tipc_world.specs.RoundParts.{EachNode, FrameArrives, HappensWhole, IsKept, IsRound}
use Rattle.tipc_world.specs.States.{WorldState}
use Rattle.tipc_world.specs.StillWorlds.{HasHeardAll, IsStillWorld, IsUnderPresent, footing_at}
use Rattle.tipc_world.specs.Steps.{by_in}
use Rattle.tipc_world.proofs.rounds.Beginning.{poised_may_be_still}
use Rattle.tipc_world.proofs.rounds.Flying.{none_behind}
use Rattle.tipc_world.proofs.rounds.Guarded.{ArrivalsGuarded, StaysGuarded, TicksGuarded, round_guarded}
use Rattle.tipc_world.proofs.rounds.Keeping.{mended_in, mended_read, settles_same}
use Rattle.tipc_world.proofs.rounds.StillWorlds.{arrival_still, begins_still_all, node_number, sender_there, shows_present, sight_is, tick_still}

-- ---- what calm is beside stillness

pub calm_is_still : (start w : WorldState) → IsCalmWorld start w → IsStillWorld start w
calm_is_still start w g = record {
  on = g.on;
  nodes = λ n m there b number apart. (g.nodes n m there b number apart).still;
  frames = λ bearer place f on_one behind there s d s_is d_is apart goes_to. (g.frames bearer place f on_one behind there s d s_is d_is apart goes_to).present;
}

-- ---- where nothing is told of links, they are up where they were

is_up_by : (bearer : ℕ) (x : PairEnds) → bearer ≤ 1 → is_some (epochs_on bearer x) ≡ is_up_at (facing bearer x).near
is_up_by bearer x on_one = ap (λ t. is_some (if t then option_and_then epochs_of (facing bearer x).near else None)) (le-leb bearer 1 on_one) ∙ by (facing bearer x).near
  where
    told : (epochs : ℕ × ℕ) (t : Bool) → is_some (if t then Some epochs else None) ≡ t
    told epochs true = refl
    told epochs false = refl

    by : (o : Option LinkEnd) → is_some (option_and_then epochs_of o) ≡ is_up_at o
    by None = refl
    by (Some e) = told (e.fsm.own, known e.fsm.peer) (is_up e.fsm.state)

ups_stay : (n n' : NodeState) (bytes : List ℕ) (s : NodeStep) (frames : List Outgoing) (b bearer : ℕ) → IsTold n → IsTold n' → NodeTurn n n' bytes s frames → filter (is_change_of b) s.inside ≡ [] → bearer ≤ 1
    → is_up_at (facing bearer (pair_with n' b)).near ≡ is_up_at (facing bearer (pair_with n b)).near
ups_stay n n' bytes s frames b bearer told told' turn none on_one =
    let before = (kept_tells n b told).epochs_are bearer in
    let after = (kept_tells n' b told').epochs_are bearer in
    let same : up_epochs n'.journal (addr_of b) bearer ≡ up_epochs n.journal (addr_of b) bearer = ap (λ j. up_epochs j (addr_of b) bearer) turn.journal ∙ epochs_told n.journal s b bearer [] none in
    let on : epochs_on bearer (pair_with n' b) ≡ epochs_on bearer (pair_with n b) = sym after ∙ (same ∙ before) in
    sym (is_up_by bearer (pair_with n' b) on_one) ∙ (ap is_some on ∙ is_up_by bearer (pair_with n b) on_one)

-- ---- what leaves is on mended bearers

pub tick_keeps : (mended : Bool × Bool) (opening : Opening) → Suits note.Tick opening → KeepsBearers mended opening
tick_keeps mended rests suits = tt
tick_keeps mended (makes bearer is_mended) suits = absurd (let wrong : note.Tick ≡ note.Arrive bearer suits.1.0 = suits.1.1 in cc)
tick_keeps mended (mends bearer) suits = absurd cc
tick_keeps mended (cuts bearer) suits = absurd cc
tick_keeps mended (ticks shown) suits = tt
tick_keeps mended (hears bearer es er p by shown) suits = absurd cc

pub arrival_keeps : (mended : Bool × Bool) (on number : ℕ) (opening : Opening) → is_mended_on mended on ≡ true → Suits (note.Arrive on number) opening → KeepsBearers mended opening
arrival_keeps mended on number rests mended_here suits = tt
arrival_keeps mended on number (makes bearer is_mended) mended_here suits = (let arrives : note.Arrive on number ≡ note.Arrive bearer suits.1.0 = suits.1.1 in let one : on ≡ bearer = cc in subst (λ k. is_mended_on mended k ≡ true) one mended_here)
arrival_keeps mended on number (mends bearer) mended_here suits = absurd cc
arrival_keeps mended on number (cuts bearer) mended_here suits = absurd cc
arrival_keeps mended on number (ticks shown) mended_here suits = tt
arrival_keeps mended on number (hears bearer es er p by shown) mended_here suits = (let one : on ≡ bearer = cc in subst (λ k. is_mended_on mended k ≡ true) one mended_here)

sends_mended : (old new : WorldState) (event : WorldEvent) (bytes : List ℕ) (answered : Answer) (h : HappensWhole old new event bytes answered) (s : NodeStep) → IsKept old → NodeTurn h.before.node h.after.node bytes s h.frames
    → ((opening : Opening) → Suits s.event opening → KeepsBearers h.before.node.mended opening) → (k : ℕ) (o : Outgoing) (d : ℕ) → IsNumber d → node_of event ≢ d → slice_get h.frames k ≡ Some o → is_out_to d o ≡ true
    → is_mended_on h.before.node.mended o.bearer ≡ true
sends_mended old new event bytes answered h s kept turn keeps k o d d_is apart at goes_out =
    let n = node_of event in
    let t = turn.turns d in
    let v = sight_at old.members old.air n d in
    let mended = h.before.node.mended in
    let sight = sight_is old n d h.before kept h.was in
    let right = kept.nodes.ends n h.before h.was in
    let stand : BothStand mended (pair_with h.before.node d) = kept_by (BothStand mended) h.before.node d (λ none. record { near = tt; far = tt }) (right.stand d) in
    let all = sends_on_mended v (sight_at old.members old.air d n) mended t.opening (map (bytes_of h.before.node.own) t.messages) t.reply (pair_with h.after.node d) t.own_frames
    (kept.nodes.sound.pairs n d (node_number old n h.before kept h.was) d_is apart) (subst (BothStand mended) (sym sight) stand) t.on_one (keeps t.opening t.suits)
    (subst (λ x. PairTurn x t.opening (map (bytes_of h.before.node.own) t.messages) t.reply (pair_with h.after.node d) t.own_frames) (sym sight) t.turn) in
    let passed = stands_passing (is_out_to d) h.frames o (k, at) goes_out in
    all_at (λ (q : Outgoing). is_mended_on mended q.bearer ≡ true) (frames_to d h.frames) passed.0 o (subst (All (λ (q : Outgoing). is_mended_on mended q.bearer ≡ true)) (sym t.frames_are) all) passed.1

-- ---- the bearers of a node are those of the begin

pub mended_since : (start old : WorldState) (n : ℕ) (m : MemberState) (bearer : ℕ) → IsStillWorld start old → slice_index_or old.members n None ≡ Some m → is_mended_at start.members n bearer ≡ is_mended_on m.node.mended bearer
mended_since start old n m bearer g there = sym (g.on.mended n bearer) ∙ (mended_read old n bearer ∙ ap (mended_in bearer) there)

-- all that leaves in an event is under the present epochs
abbrev IsUnderAll : WorldState → WorldState → WorldState → WorldEvent → List Outgoing → Type 0
IsUnderAll start old new event frames = (k : ℕ) (o : Outgoing) → slice_get frames k ≡ Some o → IsUnderPresent start o.bearer (airborne (contact_at old.members (node_of event)) new.members (node_of event) o)

-- what leaves is said so
pub said_since : (start old new : WorldState) (event : WorldEvent) (bytes : List ℕ) (answered : Answer) (h : HappensWhole old new event bytes answered) (s : NodeStep) → IsKept old → IsStillWorld start old → NodeTurn h.before.node h.after.node bytes s h.frames
    → ((opening : Opening) → Suits s.event opening → KeepsBearers h.before.node.mended opening) → IsUnderAll start old new event h.frames → (k : ℕ) (o : Outgoing) → slice_get h.frames k ≡ Some o
    → IsFromMended start o.bearer (airborne (contact_at old.members (node_of event)) new.members (node_of event) o)
said_since start old new event bytes answered h s kept g turn keeps under k o at sender d sender_is d_is apart goes_to =
    let n = node_of event in
    let both = and_parts (node_word n == node_word sender) (is_out_to d o) goes_to in
    let word : node_word n ≡ node_word sender = eqb-true (node_word n) (node_word sender) both.0 in
    let one : n ≡ sender = omega (arith, word) in
    let on = sends_mended old new event bytes answered h s kept turn keeps k o d d_is (λ same. apart (sym one ∙ same)) at both.1 in
    record {
      present = under k o at sender d sender_is d_is apart goes_to;
      mended = subst (λ a. is_mended_at start.members a o.bearer ≡ true) one (mended_since start old n h.before o.bearer g h.was ∙ on);
    }

-- ---- an event

pub calm_tick : (start : WorldState) → IsKept start → TicksGuarded start (ends_of start.air) (IsCalmNode start) HasHeardAll (IsFromMended start)
calm_tick start kept old new node answered h g next ready =
    let still = calm_is_still start old g in
    let stays = tick_still start (ends_of start.air) kept old new node answered h still next ready in
    let t = h.does.turn in
    let s = step_of (by_in old.members old.stamps (Call node note.Tick)) note.Tick t.inside (kept_answer answered) in
    let calm = g.nodes node h.before h.was in
    record {
      node = λ b number apart. record {
        still = stays.node b number apart;
        ups = λ bearer on_one. ups_stay h.before.node h.after.node [] s h.frames b bearer t.told_before t.told t.turn
            (events_tell_nothing (footing_at start node b) (footing_at start b node) h.before.node h.after.node [] s h.frames b t.told_before t.turn (ready b number apart) tt (calm b number apart).still) on_one
            ∙ (calm b number apart).ups bearer on_one;
      };
      sent = said_since start old new (Call node note.Tick) [] answered h s (g.on.kept kept) still t.turn (tick_keeps h.before.node.mended) stays.sent;
    }

-- ---- an arrival

-- a frame that nothing stops came on a mended bearer
pub comes_on_mended : (own : ℕ) (mended : Bool × Bool) (xs : List (Option Neighbour)) (bearer : ℕ) (bytes : List ℕ) → stop_among own mended xs bearer bytes ≡ None → is_mended_on mended bearer ≡ true
unfolding stop_among
comes_on_mended own mended xs bearer bytes free = by (is_mended_on mended bearer) free
  where
    by : (on : Bool) → (if on then (if is_frame_size (length bytes) then stop_by_fault own xs bearer bytes (fault_of (drop 16 bytes)) else Some why.Envelope) else Some why.Cut) ≡ None → on ≡ true
    by true free = refl
    by false free = absurd cc

-- the end of a sight on a bearer
pub up_seen : (w : WorldState) (a b bearer : ℕ) (e : LinkEnd) → bearer ≤ 1 → link_at w.members a b bearer ≡ Some e → is_up e.fsm.state ≡ true → (footing_at w a b).up bearer ≡ true
unfolding facing sight_at
up_seen w a b zero e on_one is up = ap is_up_at is ∙ up
up_seen w a b (suc zero) e on_one is up = ap is_up_at is ∙ up
up_seen w a b (suc (suc more)) e on_one is up = absurd (omega (arith, on_one))

-- a bearer that is mended at both of two nodes of a poised world is one on which their link is up
pub stands_up : (start : WorldState) (a b bearer : ℕ) → IsPoised start → has_member start.members a ≡ true → has_member start.members b ≡ true → a ≢ b → bearer ≤ 1 → is_mended_at start.members a bearer ≡ true → is_mended_at start.members b bearer ≡ true
    → (footing_at start a b).up bearer ≡ true
stands_up start a b bearer poised here there apart on_one mended mended' = elim (poised a b bearer here there apart on_one) [
  | inl stands ↦ up_seen start a b bearer stands.near on_one stands.near_is stands.near_up.up
  | inr is_cut ↦ elim is_cut.cut [
    | inl one ↦ absurd (true≢false (sym mended ∙ one))
    | inr other ↦ absurd (true≢false (sym mended' ∙ other))
  ]
]

-- a frame that nothing stops comes on a link that was up
pub comes_up : (start : WorldState) → IsKept start → IsPoised start → (old new : WorldState) (a : FrameArrives (ends_of start.air) old new) → IsCalmWorld start old → IsFromMended start a.bearer a.frame
    → stop_of a.arrives.before.node a.bearer a.frame.frame ≡ None → (b : ℕ) → a.node ≢ b → (number : ℕ) → ComesToUpAt (footing_at start a.node b) b (note.Arrive a.bearer number) a.frame.frame
comes_up start kept poised old new a g said free b apart number es er p brings kind_is =
    let n = a.node in
    let kept_old = g.on.kept kept in
    let sender = sender_there old a.node a.bearer a.place a.frame b es er p kept_old a.found brings kind_is in
    let n_is = node_number old n a.arrives.before kept_old a.arrives.was in
    let still = calm_is_still start old g in
    let mended_b = (said b n sender.number n_is sender.apart sender.goes_here).mended in
    let mended_n = mended_since start old n a.arrives.before a.bearer still a.arrives.was ∙ comes_on_mended a.arrives.before.node.own a.arrives.before.node.mended a.arrives.before.node.neighbours a.bearer a.frame.frame free in
    stands_up start n b a.bearer poised (sym (g.on.nodes n) ∙ ap is_some a.arrives.was) (sym (g.on.nodes b) ∙ sender.there) apart a.on_one mended_n mended_b

pub calm_arrival : (start : WorldState) → IsKept start → IsPoised start → ArrivalsGuarded start (ends_of start.air) (IsCalmNode start) (IsFromMended start)
calm_arrival start kept poised old new a g next said = by (stop_of a.arrives.before.node a.bearer a.frame.frame) refl
  where
    n : ℕ
    n = a.node

    still : IsStillWorld start old
    still = calm_is_still start old g

    by : (o : Option Why) → stop_of a.arrives.before.node a.bearer a.frame.frame ≡ o
        → StaysGuarded (IsCalmNode start) (IsFromMended start) old new (Arrive a.node a.bearer a.place) a.arrives.after a.arrives.frames
    by (Some reason) stops =
        let same = a.arrives.does.arrives.stopped reason stops in
        record {
          node = λ b number apart. subst (IsCalmPair (footing_at start a.node b) (footing_at start b a.node)) (sym (ap (λ (m : NodeState). pair_with m b) same.0)) (g.nodes a.node a.arrives.before a.arrives.was b number apart);
          sent = λ k o at. absurd (let none : slice_get [] k ≡ Some o = sym (ap (λ os. slice_get os k) same.1) ∙ at in cc);
        }
    by None free =
        let h = a.arrives in
        let t = h.does.turn in
        let number_of = length h.before.arrivals in
        let s = step_of (by_in old.members old.stamps (Arrive a.node a.bearer a.place)) (note.Arrive a.bearer number_of) t.inside (answer.Arrived h.does.arrived) in
        let under : IsUnderPresent start a.bearer a.frame = λ sd d sd_is d_is apart goes_to. (said sd d sd_is d_is apart goes_to).present in
        let stays = arrival_still start kept old new a still next under in
        let calm = g.nodes a.node h.before h.was in
        let mended_here = comes_on_mended h.before.node.own h.before.node.mended h.before.node.neighbours a.bearer a.frame.frame free in
        record {
          node = λ b number apart. record {
            still = stays.node b number apart;
            ups = λ bearer on_one. ups_stay h.before.node h.after.node a.frame.frame s h.frames b bearer t.told_before t.told t.turn
                (events_tell_nothing (footing_at start a.node b) (footing_at start b a.node) h.before.node h.after.node a.frame.frame s h.frames b t.told_before t.turn
                (λ es er p brings kind_is. shows_present start kept old new a still under b es er p brings kind_is) (comes_up start kept poised old new a g said free b apart number_of) (calm b number apart).still) on_one
                ∙ (calm b number apart).ups bearer on_one;
          };
          sent = said_since start old new (Arrive a.node a.bearer a.place) a.frame.frame a.answered h s (g.on.kept kept) still t.turn (λ opening suits. arrival_keeps h.before.node.mended a.bearer number_of opening mended_here suits) stays.sent;
        }

-- ---- a round

pub round_calm : (start : WorldState) (places : Places) (outset : WorldState) (ends : Places) (now : WorldState) → IsKept start → IsPoised start → AreBefore (ends_of start.air) places
    → IsRound places outset ends now → now.lost ≡ false → IsCalmWorld start outset → EachNode HasHeardAll outset → IsCalmWorld start now
round_calm start places outset ends now kept poised behind r whole calm heard =
    (round_guarded start (ends_of start.air) (IsCalmNode start) HasHeardAll (IsFromMended start) places outset ends now (calm_tick start kept) (calm_arrival start kept poised) behind r whole calm heard).round

-- so it is when the call begins
pub call_begins_calm : (start : WorldState) → IsKept start → IsPoised start → start.lost ≡ false → IsCalmWorld start start
call_begins_calm start kept poised clear = record {
  on = settles_same start clear;
  nodes = λ n m there b number apart. record {
    still = begins_still_all start kept (poised_may_be_still start kept poised) n m there b number apart;
    ups = λ bearer on_one. ap (λ x. is_up_at (facing bearer x).near) (sym (sight_is start n b m kept there));
  };
  frames = none_behind (IsFromMended start) start;
}
