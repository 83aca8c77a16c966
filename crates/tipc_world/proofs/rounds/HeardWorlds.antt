-- In a poised world that settles each node hears all others in each round: what each tick says of a link that is up
-- ends the silence at its other end.
use Rattle.std.specs.Prelude.{◌==◌, if◌then◌else◌, nat_le, option_map, IfSome}
use Rattle.std.specs.List.{filter}
use Rattle.std.proofs.Common.{List, get_or, ◌≡◌, ◌≢◌, ◌≤◌, ◌<◌, ◌∙◌, ℕ, zero, suc, Bool, true, false, [], Option, Some, None, Ok, length, slice_get, slice_index_or, is_some, eq-eqb, inl, inr, refl, sym, ap, subst, arith}
use Rattle.std.proofs.lemmas.Bool.{and_parts, cases_eq, cases_lt, leb-true, true≢false}
use Rattle.std.proofs.lemmas.Option.{slice_get-get_or}
use Rattle.tipc_types.specs.Address.{node_word}
use Rattle.tipc_types.specs.LinkStates.{is_up}
use Rattle.tipc_types.specs.declared.node_calls.Answer.TheVariants as answer
use Rattle.tipc_types.specs.declared.node_calls.EventNote.TheVariants as note
use Rattle.tipc_outside.specs.declared.outgoing.Outgoing.{Outgoing}
use Rattle.tipc_header.specs.declared.frames.FrameKind.TheVariants.{Links}
use Rattle.tipc_header.specs.Frames.{kind_in}
use Rattle.tipc_broadcast.specs.Casting.{shown}
use Rattle.tipc_link_fsm.specs.Ends.{IsSound}
use Rattle.tipc_link.specs.Links.{LinkEnd, known}
use Rattle.tipc_link.specs.Sessions.{state_frame}
use Rattle.tipc_pair.specs.Facing.{PairEnds, alone, facing, is_up_at, turned}
use Rattle.tipc_pair.specs.LinkReadings.{silence_in}
use Rattle.tipc_paired.specs.Views.{epoch_in}
use Rattle.tipc_two_nodes.specs.Sights.{Sight, pair_seen}
use Rattle.tipc_two_nodes.proofs.sights.Sights.{ends}
use Rattle.tipc_node.specs.declared.neighbours.Neighbour.{Neighbour}
use Rattle.tipc_node.specs.Ends.{AreSoundEnds, BothStand, HasRightEnds}
use Rattle.tipc_node.specs.Nodes.{NodeState, acquaintance, is_other, neighbour_of, pair_with, step_of}
use Rattle.tipc_node.specs.Sockets.{kept_answer}
use Rattle.tipc_node.specs.Telling.{IsTold}
use Rattle.tipc_node.specs.Turns.{IsFrom}
use Rattle.tipc_node.proofs.pairs.Strangers.{kept_abreast, kept_by}
use Rattle.tipc_settling.specs.Goings.{up_session}
use Rattle.tipc_settling.specs.Stillness.{AreHeard, Footing, IsStill}
use Rattle.tipc_settling.proofs.Clear.{nothing_stops}
use Rattle.tipc_settling.proofs.Nodes.{events_add_silence, events_are_calm}
use Rattle.tipc_settling.proofs.Telling.{tick_tells}
use Rattle.tipc_settling.proofs.WordsHeard.{arrivals_end_silence}
use Rattle.tipc_replay.specs.declared.air.Sent.{Sent}
use Rattle.tipc_replay.specs.declared.events.WorldEvent.TheVariants.{Arrive, Call}
use Rattle.tipc_replay.specs.Air.{airborne, is_on}
use Rattle.tipc_replay.specs.Due.{is_for}
use Rattle.tipc_replay.specs.Sound.{IsNumber}
use Rattle.tipc_replay.specs.States.{MemberState, contact_at, link_at, pair_at}
use Rattle.tipc_replay.specs.Views.{sight_at}
use Rattle.tipc_replay.proofs.InLists.{stands_passing}
use Rattle.tipc_replay.proofs.LookUps.{member_at-is, pair_at-is}
use Rattle.tipc_replay.proofs.calls.Outcomes.{some_is}
use Rattle.tipc_replay.proofs.frames.Reaching.{placed}
use Rattle.tipc_world.specs.declared.places.Places.{Places}
use Rattle.tipc_world.specs.CalmWorlds.{IsCalmNode, IsCalmWorld, IsFromMended}
use Rattle.tipc_world.specs.Ends.{ends_of}
use Rattle.tipc_world.specs.HeardWorlds.{BeginsRound, SaysToPeer, StandsCalm}
use Rattle.tipc_world.specs.Poised.{IsPoised}
use Rattle.tipc_world.specs.RoundParts.{EachNode, FrameArrives, HasTickedOnce, IsKept, IsRound}
use Rattle.tipc_world.specs.Settling.{Round, Rounds}
use Rattle.tipc_world.specs.States.{WorldState, is_there}
use Rattle.tipc_world.specs.StillWorlds.{HasHeardAll, IsUnderPresent, footing_at}
use Rattle.tipc_world.specs.Steps.{by_in}
use Rattle.tipc_world.specs.YoungWorlds.{AreYoung, ArriveYoung}
use Rattle.tipc_world.proofs.rounds.Beginning.{node_there, on_both, peer_there}
use Rattle.tipc_world.proofs.rounds.CalmWorlds.{calm_arrival, calm_is_still, calm_tick, call_begins_calm, round_calm}
use Rattle.tipc_world.proofs.rounds.Guarded.{RoundGuarded, round_guarded}
use Rattle.tipc_world.proofs.rounds.Leaving.{ArrivalMakes, ArrivalsLeave, AtNode, round_leaves_first, round_leaves_second}
use Rattle.tipc_world.proofs.rounds.RoundParts.{round_parts, round_whole, rounds_keep, rounds_whole}
use Rattle.tipc_world.proofs.rounds.RoundLaws.{round_ticks, tick_brings_first, tick_brings_second}
use Rattle.tipc_world.proofs.rounds.Shown.{shown_fits}
use Rattle.tipc_world.proofs.rounds.Spelled.{state_spelled}
use Rattle.tipc_world.proofs.rounds.StillWorlds.{node_number, seen_end, shows_present, sight_is, still_epoch}
use Rattle.tipc_world.proofs.rounds.UpLinks.{both_up, other_is, sight_near, still_knows, up_link, up_mended}
use Rattle.tipc_world.proofs.rounds.Walking.{settling_goes_on}
use Rattle.tipc_world.proofs.rounds.Young.{begins_young, round_young}

-- ---- a stranger is still, and heard

abbrev lone : PairEnds → Footing
lone x = record { contact = x.contact; epoch = λ bearer. x.contact; up = λ bearer. false; answers = λ bearer. false; free = λ bearer. false; sees = false; alone = false }

-- a pair is still on some footings, and its links were heard
pub record IsAnyStill (x : PairEnds) : Type 0 where
  pub own : Footing
  pub peer : Footing
  pub still : IsStill own peer x
  pub heard : AreHeard x

alone_still : (own word boot : ℕ) → IsAnyStill (alone own word boot)
alone_still own word boot =
    let x = alone own word boot in record {
      own = lone x;
      peer = lone x;
      still = record {
        two = omega arith;
        contact = refl;
        seen = omega arith;
        sees = λ wrong. absurd (true≢false (sym wrong));
        near = record { epoch = refl; down = refl; unanswered = refl };
        far = record { epoch = refl; down = refl; unanswered = refl };
      };
      heard = record { near = omega arith; far = omega arith };
    }

pub stranger_still : (n : NodeState) (b : ℕ) → neighbour_of n b ≡ None → IsAnyStill (pair_with n b)
stranger_still n b none = subst (λ o. IsAnyStill (acquaintance n b o).pair) (sym none) (alone_still n.own (node_word b) n.boot)

-- a node knows no neighbour where it has no pair
no_pair : (o : Option Neighbour) → option_map (λ (x : Neighbour). x.pair) o ≡ None → o ≡ None
no_pair None none = refl
no_pair (Some x) none = absurd cc

pub unknown : (w : WorldState) (n b : ℕ) (m : MemberState) → slice_index_or w.members n None ≡ Some m → pair_at w.members n b ≡ None → neighbour_of m.node b ≡ None
unknown w n b m there none = no_pair (neighbour_of m.node b) (sym (pair_at-is w.members n b m (member_at-is w.members n m there)) ∙ none)

each_still : (start w : WorldState) (n b : ℕ) (m : MemberState) → IsKept w → slice_index_or w.members n None ≡ Some m → IsCalmNode start n m → HasHeardAll n m → IsAnyStill (pair_with m.node b)
each_still start w n b m kept there calm heard = elim (cases_lt b 1) [
  | inl low ↦ stranger_still m.node b (unknown w n b m there (kept.nodes.sound.known n b (λ number. absurd (omega (arith, low, number.0)))))
  | inr from_one ↦ elim (cases_lt b 33) [
    | inr high ↦ stranger_still m.node b (unknown w n b m there (kept.nodes.sound.known n b (λ number. absurd (omega (arith, high, number.1)))))
    | inl to_32 ↦ elim (cases_eq b n) [
      | inl same ↦ stranger_still m.node b (unknown w n b m there (ap (λ k. pair_at w.members n k) same ∙ kept.nodes.sound.apart n))
      | inr other_one ↦
          let number : IsNumber b = (from_one, omega (arith, to_32)) in
          let apart : n ≢ b = λ same. other_one (sym same) in
          record { own = footing_at start n b; peer = footing_at start b n; still = (calm b number apart).still; heard = heard b number apart }
    ]
  ]
]

-- ---- what a tick says

-- the end of a sight on a bearer is that of the pair
pub seen_near : (v : Sight) (bearer : ℕ) {x : PairEnds} {e : LinkEnd} → bearer ≤ 1 → pair_seen v ≡ x → (facing bearer x).near ≡ Some e → v.ends bearer ≡ Some e
seen_near v bearer on_one same near = sym (sight_near v bearer on_one) ∙ (ap (λ (y : PairEnds). (facing bearer y).near) same ∙ near)

-- the present epoch of a still node on a bearer
pub present_end : (start w : WorldState) (b n bearer : ℕ) (m : MemberState) → IsKept w → bearer ≤ 1 → slice_index_or w.members b None ≡ Some m → IsStill (footing_at start b n) (footing_at start n b) (pair_with m.node n)
    → epoch_in (sight_at w.members w.air b n).node.contact ((sight_at w.members w.air b n).ends bearer) ≡ (footing_at start b n).epoch bearer
present_end start w b n bearer m kept on_one there still =
    let v = sight_at w.members w.air b n in
    sym (seen_end v bearer on_one) ∙ still_epoch (footing_at start b n) (footing_at start n b) v bearer on_one (subst (IsStill (footing_at start b n) (footing_at start n b)) (sym (sight_is w b n m kept there)) still)

-- the peer of a sight
pub sight_peer : (w : WorldState) (b n : ℕ) → (sight_at w.members w.air b n).node.peer ≡ node_word n
unfolding sight_at
sight_peer w b n = refl

pub sight_own : (w : WorldState) (b n : ℕ) → (sight_at w.members w.air b n).node.own ≡ node_word b
unfolding sight_at
sight_own w b n = refl

-- what stands at a place of a list
pub slice_there : {A : Type 0} (xs : List A) (k : ℕ) (x : A) → k < length xs → get_or xs k x ≡ x → slice_get xs k ≡ Some x
slice_there xs k x within is = slice_get-get_or xs k x within ∙ ap Some is

-- among the frames of a tick one says to node n, on a bearer, what ticks say of a link that is up
record TickSays (outset ticked : WorldState) (b n bearer : ℕ) (t : HasTickedOnce outset ticked b) (es er : ℕ) : Type 0 where
  frame : Outgoing
  place : ℕ
  at : slice_get (filter (is_on bearer) t.ticks.frames) place ≡ Some frame
  meant : is_for (record { word = node_word b }) frame.to n ≡ true
  says : SaysToPeer b frame es er

tick_says : (start outset ticked : WorldState) (b n bearer : ℕ) (t : HasTickedOnce outset ticked b) → IsKept start → IsCalmWorld start outset → EachNode HasHeardAll outset → IsNumber n → b ≢ n → bearer ≤ 1
    → (footing_at start b n).up bearer ≡ true → TickSays outset ticked b n bearer t ((footing_at start b n).epoch bearer) ((footing_at start n b).epoch bearer)
tick_says start outset ticked b n bearer t kept_start calm_world heard n_is apart on_one up =
    let kept = calm_world.on.kept kept_start in
    let m = t.ticks.before in
    let calm = calm_world.nodes b m t.was in
    let pair = calm n n_is apart in
    let e = up_link m.node n bearer (pair.ups bearer on_one ∙ up) in
    let v = sight_at outset.members outset.air b n in
    let u = sight_at outset.members outset.air n b in
    let seen = kept.nodes.sound.pairs b n (node_number outset b m kept t.was) n_is apart in
    let end_is : v.ends bearer ≡ Some e.end = seen_near v bearer on_one (sight_is outset b n m kept t.was) e.near in
    let end = ends v u bearer e.end seen end_is in
    let going = end.going e.up in
    let turn = t.ticks.does.turn in
    let any = λ (k : ℕ). each_still start outset b k m kept t.was calm (heard b m t.was) in
    let s = step_of (by_in t.before.members t.before.stamps (Call b note.Tick)) note.Tick turn.inside (kept_answer t.answered) in
    let quiet = events_are_calm (λ k. (any k).own) (λ k. (any k).peer) m.node t.ticks.after.node [] s t.ticks.frames turn.told_before turn.turn (λ k. (any k).still) (λ k. (any k).heard) (λ k. tt) in
    let tell = tick_tells m.node t.ticks.after.node _ t.ticks.frames t.answered t.ticks.does.performs turn quiet n bearer on_one going.0 (ap up_session e.with_it ∙ (ap (λ t. if t then e.end.session else None) e.up ∙ going.1)) in
    let o = state_frame going.0 (shown m.node.casting (node_word n)) tell.0 in
    let on : slice_get t.ticks.frames tell.1.0 ≡ Some o = slice_there t.ticks.frames tell.1.0 o tell.1.1 tell.1.2 in
    let words = end.session going.0 going.1 in
    let passed = stands_passing (is_on bearer) t.ticks.frames o (tell.1.0, on) (eq-eqb going.0.bearer bearer words.2) in
    let own : e.end.fsm.own ≡ (footing_at start b n).epoch bearer = sym (ap (epoch_in v.node.contact) end_is) ∙ present_end start outset b n bearer m kept on_one t.was pair.still in
    let peer : known e.end.fsm.peer ≡ (footing_at start n b).epoch bearer = ap known (still_knows (footing_at start b n) (footing_at start n b) v bearer e.end on_one end_is e.up (subst (IsStill (footing_at start b n) (footing_at start n b)) (sym (sight_is outset b n m kept t.was)) pair.still)) in
    let said = state_spelled v u b bearer e.end going.0 (shown m.node.casting (node_word n)) tell.0 seen (sight_own outset b n) end_is e.up going.1 going.2 going.3 (shown_fits outset b n m kept t.was (node_number outset b m kept t.was) n_is apart) in
    record {
      frame = o;
      place = passed.0;
      at = passed.1;
      meant = eq-eqb going.0.peer (node_word n) (words.1 ∙ sight_peer outset b n);
      says = subst (λ er. SaysToPeer b o ((footing_at start b n).epoch bearer) er) peer (subst (λ es. SaysToPeer b o es (known e.end.fsm.peer)) own said);
    }

-- ---- what is heard

-- A STATE or an ACTIVATE that a tick said ends the silence of the link on which it arrives.
hears_end : (start : WorldState) → IsKept start → IsPoised start → (old new : WorldState) (a : FrameArrives (ends_of start.air) old new) → IsCalmWorld start old → IsFromMended start a.bearer a.frame
    → (b : ℕ) → IsNumber b → a.node ≢ b → (o : Outgoing) → a.frame.frame ≡ o.frame → SaysToPeer b o ((footing_at start b a.node).epoch a.bearer) ((footing_at start a.node b).epoch a.bearer) → (footing_at start a.node b).up a.bearer ≡ true
    → silence_in (facing a.bearer (pair_with a.arrives.after.node b)).near ≡ 0
hears_end start kept_start poised old new a g said b number apart o bytes says up =
    let n = a.node in
    let h = a.arrives in
    let t = h.does.turn in
    let kept = g.on.kept kept_start in
    let pair = g.nodes n h.before h.was b number apart in
    let open_up = pair.ups a.bearer a.on_one ∙ up in
    let e = up_link h.before.node b a.bearer open_up in
    let es = (footing_at start b n).epoch a.bearer in
    let er = (footing_at start n b).epoch a.bearer in
    let brings = subst (λ bs. IsFrom b bs es er says.packet) (sym bytes) says.from in
    let kind_is = subst (λ bs. kind_in bs ≡ Links) (sym bytes) says.kind in
    let first = (kept_abreast h.before.node b t.told_before).first in
    let right = kept.nodes.ends n h.before h.was in
    let stand = kept_by (BothStand h.before.node.mended) h.before.node b (λ none. record { near = tt; far = tt }) (right.stand b) in
    let mended = up_mended h.before.node.mended (pair_with h.before.node b) a.bearer e.end first a.on_one stand e.near e.up in
    let size = (kept.nodes.sound.frames a.bearer a.place a.frame (placed old.air n a.bearer a.place a.frame a.found).0).size in
    let both = and_parts (nat_le 16 (length a.frame.frame)) (nat_le (length a.frame.frame) 1516) size in
    let own = (kept.nodes.sound.numbered n h.before h.was).1 in
    let free = nothing_stops h.before.node a.bearer a.frame.frame b es er says.packet brings kind_is mended (leb-true 16 (length a.frame.frame) both.0) (leb-true (length a.frame.frame) 1516 both.1)
    (subst (λ w. is_other w (node_word b) ≡ true) (sym own) (other_is n b number apart)) (ap is_some e.with_it) in
    let under : IsUnderPresent start a.bearer a.frame = λ sd d sd_is d_is two goes_to. (said sd d sd_is d_is two goes_to).present in
    let shows = shows_present start kept_start old new a (calm_is_still start old g) under b es er says.packet brings kind_is in
    arrivals_end_silence (footing_at start n b) (footing_at start b n) h.before.node h.after.node _ a.bearer _ a.frame.frame h.frames h.does.arrived b es er says.packet h.does.arrives t free brings kind_is pair.still shows refl says.said open_up

-- arrivals make no link silent
stays_heard : (start : WorldState) (n b bearer : ℕ) → ArrivalsLeave start (ends_of start.air) (IsCalmNode start) (IsFromMended start) n (λ m. silence_in (facing bearer (pair_with m.node b)).near ≡ 0)
stays_heard start n b bearer old new a g next here zero_is =
    let h = a.arrives in
    let t = h.does.turn in
    let s = step_of (by_in old.members old.stamps (Arrive a.node a.bearer a.place)) (note.Arrive a.bearer (length h.before.arrivals)) t.inside (answer.Arrived h.does.arrived) in
    let no_more = events_add_silence h.before.node h.after.node a.frame.frame s h.frames b bearer t.told_before t.turn in
    omega (arith, no_more, zero_is)

-- ---- a round

guarded : (start : WorldState) (places : Places) (outset : WorldState) (ends : Places) (now : WorldState) (r : IsRound places outset ends now) → BeginsRound start places outset now
    → RoundGuarded start (ends_of start.air) (IsCalmNode start) (IsFromMended start) r.ticked r.between now
guarded start places outset ends now r k =
    round_guarded start (ends_of start.air) (IsCalmNode start) HasHeardAll (IsFromMended start) places outset ends now (calm_tick start k.kept) (calm_arrival start k.kept k.poised) k.behind r k.whole k.so_far.calm k.so_far.heard

-- no frame of the round is too old
arrive_young : (start : WorldState) (places : Places) (outset : WorldState) (ends : Places) (now : WorldState) (r : IsRound places outset ends now) → BeginsRound start places outset now → ArriveYoung places outset ends now r × AreYoung start ends now
arrive_young start places outset ends now r k = round_young start places outset ends now k.kept k.poised k.behind r k.whole k.so_far.calm k.so_far.heard k.so_far.young

-- the frame of a tick makes the node hear
frame_makes : (start outset ticked : WorldState) (b n bearer : ℕ) (t : HasTickedOnce outset ticked b) (says : TickSays outset ticked b n bearer t ((footing_at start b n).epoch bearer) ((footing_at start n b).epoch bearer)) → IsKept start → IsPoised start
    → IsNumber b → n ≢ b → (footing_at start n b).up bearer ≡ true
    → ArrivalMakes start (ends_of start.air) (IsCalmNode start) (IsFromMended start) (λ m. silence_in (facing bearer (pair_with m.node b)).near ≡ 0) bearer n (airborne (contact_at t.before.members b) t.after.members b says.frame)
frame_makes start outset ticked b n bearer t says kept poised number apart up old new a here on_bearer is g next said =
    let o = says.frame in
    let spoken : SaysToPeer b o ((footing_at start b a.node).epoch a.bearer) ((footing_at start a.node b).epoch a.bearer) =
    subst (λ k. SaysToPeer b o ((footing_at start b k).epoch a.bearer) ((footing_at start k b).epoch a.bearer)) (sym here)
    (subst (λ x. SaysToPeer b o ((footing_at start b n).epoch x) ((footing_at start n b).epoch x)) (sym on_bearer) says.says) in
    let was_up : (footing_at start a.node b).up a.bearer ≡ true = subst (λ k. (footing_at start k b).up a.bearer ≡ true) (sym here) (subst (λ x. (footing_at start n b).up x ≡ true) (sym on_bearer) up) in
    subst (λ x. silence_in (facing x (pair_with a.arrives.after.node b)).near ≡ 0) on_bearer
    (hears_end start kept poised old new a g said b number (λ same. apart (sym here ∙ same)) o (ap (λ (f : Sent). f.frame) is) spoken was_up)

-- a link that was up when the call began isn't silent at the end of the round
hears_on : (start : WorldState) (places : Places) (outset : WorldState) (ends : Places) (now : WorldState) (r : IsRound places outset ends now) (n b bearer : ℕ) → BeginsRound start places outset now → IsNumber n → IsNumber b → n ≢ b
    → bearer ≤ 1 → is_there outset n ≡ true → (footing_at start n b).up bearer ≡ true → AtNode n (λ m. silence_in (facing bearer (pair_with m.node b)).near ≡ 0) now
hears_on start places outset ends now r n b zero k n_is b_is apart on_one there up =
    let other_end = both_up start n b 0 k.kept k.poised apart on_one up in
    let t = round_ticks places outset ends now r b k.whole b_is.0 b_is.1 (k.so_far.calm.on.nodes b ∙ other_end.1) in
    let says = tick_says start outset r.ticked b n 0 t k.kept k.so_far.calm k.so_far.heard n_is (λ same. apart (sym same)) on_one other_end.0 in
    let brings = tick_brings_first places outset ends now r b n says.place t says.frame k.whole k.within n_is.1 there says.at says.meant in
    let from_places : places.first ≤ brings.place = (let one = k.within.0 in let two = brings.behind in omega (arith, one, two)) in
    round_leaves_first start (ends_of start.air) (IsCalmNode start) (IsFromMended start) (λ m. silence_in (facing 0 (pair_with m.node b)).near ≡ 0) places outset ends now r brings.place n
    (airborne (contact_at t.before.members b) t.after.members b says.frame) k.behind from_places (calm_arrival start k.kept k.poised) (stays_heard start n b 0)
    (frame_makes start outset r.ticked b n 0 t says k.kept k.poised b_is apart up) brings.arrives ((arrive_young start places outset ends now r k).0.first brings.place n (airborne (contact_at t.before.members b) t.after.members b says.frame) n_is brings.arrives) k.whole
    (guarded start places outset ends now r k)
hears_on start places outset ends now r n b (suc zero) k n_is b_is apart on_one there up =
    let other_end = both_up start n b 1 k.kept k.poised apart on_one up in
    let t = round_ticks places outset ends now r b k.whole b_is.0 b_is.1 (k.so_far.calm.on.nodes b ∙ other_end.1) in
    let says = tick_says start outset r.ticked b n 1 t k.kept k.so_far.calm k.so_far.heard n_is (λ same. apart (sym same)) on_one other_end.0 in
    let brings = tick_brings_second places outset ends now r b n says.place t says.frame k.whole k.within n_is.1 there says.at says.meant in
    let from_places : places.second ≤ brings.place = (let one = k.within.1 in let two = brings.behind in omega (arith, one, two)) in
    round_leaves_second start (ends_of start.air) (IsCalmNode start) (IsFromMended start) (λ m. silence_in (facing 1 (pair_with m.node b)).near ≡ 0) places outset ends now r brings.place n
    (airborne (contact_at t.before.members b) t.after.members b says.frame) k.behind from_places (calm_arrival start k.kept k.poised) (stays_heard start n b 1)
    (frame_makes start outset r.ticked b n 1 t says k.kept k.poised b_is apart up) brings.arrives ((arrive_young start places outset ends now r k).0.second brings.place n (airborne (contact_at t.before.members b) t.after.members b says.frame) n_is brings.arrives) k.whole
    (guarded start places outset ends now r k)
hears_on start places outset ends now r n b (suc (suc more)) k n_is b_is apart on_one there up = absurd (omega (arith, on_one))

-- a link that isn't up isn't silent
down_silent : (o : Option LinkEnd) → is_up_at o ≡ false → silence_in o ≡ 0
down_silent None down = refl
down_silent (Some e) down = ap (λ t. if t then e.fsm.silent else 0) down

-- each node heard each other one on a bearer
heard_on : (start : WorldState) (places : Places) (outset : WorldState) (ends : Places) (now : WorldState) (r : IsRound places outset ends now) (n b bearer : ℕ) (m : MemberState) → BeginsRound start places outset now
    → slice_index_or now.members n None ≡ Some m → IsNumber b → n ≢ b → bearer ≤ 1 → silence_in (facing bearer (pair_with m.node b)).near ≤ 3
heard_on start places outset ends now r n b bearer m k there b_is apart on_one = by (is_up_at (facing bearer (pair_with m.node b)).near) refl
  where
    g : IsCalmWorld start now
    g = (guarded start places outset ends now r k).round

    kept : IsKept now
    kept = g.on.kept k.kept

    by : (t : Bool) → is_up_at (facing bearer (pair_with m.node b)).near ≡ t → silence_in (facing bearer (pair_with m.node b)).near ≤ 3
    by false down = (let none = down_silent (facing bearer (pair_with m.node b)).near down in omega (arith, none))
    by true up =
        let was_up = sym ((g.nodes n m there b b_is apart).ups bearer on_one) ∙ up in
        let there_outset : is_there outset n ≡ true = k.so_far.calm.on.nodes n ∙ (sym (g.on.nodes n) ∙ ap is_some there) in
        let none = hears_on start places outset ends now r n b bearer k (node_number now n m kept there) b_is apart on_one there_outset was_up m there in
        omega (arith, none)

-- what the journal of a node tells
pub told_of : (w : WorldState) (n : ℕ) (m : MemberState) → IsKept w → slice_index_or w.members n None ≡ Some m → IsTold m.node
told_of w n m kept there = (kept.nodes.shared n m there).told

-- both ends of a pair, by bearer
both_heard : (x : PairEnds) → x.bearer ≡ 0 → silence_in (facing 0 x).near ≤ 3 → silence_in (facing 1 x).near ≤ 3 → AreHeard x
unfolding facing
both_heard x first near far = record {
  near = subst (λ k. silence_in (if k == 0 then x else turned x).near ≤ 3 → silence_in x.near ≤ 3) (sym first) (λ h. h) near;
  far = subst (λ k. silence_in (if k == 1 then x else turned x).near ≤ 3 → silence_in x.far ≤ 3) (sym first) (λ h. h) far;
}

pub round_heard : (start : WorldState) (places : Places) (outset : WorldState) (ends : Places) (now : WorldState) (r : IsRound places outset ends now) → BeginsRound start places outset now → EachNode HasHeardAll now
round_heard start places outset ends now r k n m there b b_is apart =
    let kept = (guarded start places outset ends now r k).round.on.kept k.kept in
    let first = (kept_abreast m.node b (told_of now n m kept there)).first in
    both_heard (pair_with m.node b) first (heard_on start places outset ends now r n b 0 m k there b_is apart (omega arith)) (heard_on start places outset ends now r n b 1 m k there b_is apart (omega arith))

-- ---- a call

-- in a poised world each node has heard all others
end_heard : (w : WorldState) (a b bearer : ℕ) (e : LinkEnd) → IsKept w → IsPoised w → a ≢ b → bearer ≤ 1 → link_at w.members a b bearer ≡ Some e → is_up e.fsm.state ≡ true → e.fsm.silent ≢ 4
end_heard w a b bearer e kept poised apart on_one is up = elim (poised a b bearer (node_there w a b bearer e is) (peer_there w a b bearer e kept is) apart on_one) [
  | inl stands ↦ subst (λ (k : LinkEnd). k.fsm.silent ≢ 4) (some_is stands.near e (sym stands.near_is ∙ is)) stands.near_up.heard
  | inr is_cut ↦ absurd (true≢false (sym up ∙ (sym (ap is_up_at is) ∙ is_cut.near)))
]

-- no end was silent for more than 4 ticks
few_silent : (n : NodeState) (b : ℕ) → HasRightEnds n → AreSoundEnds (pair_with n b)
few_silent n b right = kept_by AreSoundEnds n b (λ none. record { near = tt; far = tt }) (right.sound b)

silence_few : (o : Option LinkEnd) → IfSome o (λ (e : LinkEnd). IsSound e.fsm) → ((e : LinkEnd) → o ≡ Some e → is_up e.fsm.state ≡ true → e.fsm.silent ≢ 4) → silence_in o ≤ 3
silence_few None sound heard = omega arith
silence_few (Some e) sound heard = by (is_up e.fsm.state) refl
  where
    by : (t : Bool) → is_up e.fsm.state ≡ t → (if t then e.fsm.silent else 0) ≤ 3
    by false down = omega arith
    by true up =
        let few = sound.few in
        elim (cases_lt e.fsm.silent 4) [ inl low ↦ omega (arith, low) | inr high ↦ absurd (heard e refl up (omega (arith, few, high))) ]

-- the link end of a pair is that of the node
seen_link : (w : WorldState) (n b bearer : ℕ) (m : MemberState) (e : LinkEnd) → IsKept w → bearer ≤ 1 → slice_index_or w.members n None ≡ Some m → (facing bearer (pair_with m.node b)).near ≡ Some e → link_at w.members n b bearer ≡ Some e
unfolding sight_at
seen_link w n b bearer m e kept on_one there is = seen_near (sight_at w.members w.air n b) bearer on_one (sight_is w n b m kept there) is

poised_heard : (w : WorldState) (n b bearer : ℕ) (m : MemberState) → IsKept w → IsPoised w → bearer ≤ 1 → slice_index_or w.members n None ≡ Some m → n ≢ b → silence_in (facing bearer (pair_with m.node b)).near ≤ 3
poised_heard w n b bearer m kept poised on_one there apart =
    let x = pair_with m.node b in
    let sound = few_silent m.node b (kept.nodes.ends n m there) in
    silence_few (facing bearer x).near (on_both (λ (e : LinkEnd). IsSound e.fsm) x bearer sound.near sound.far) (λ e is up. end_heard w n b bearer e kept poised apart on_one (seen_link w n b bearer m e kept on_one there is) up)

pub begins_heard : (w : WorldState) → IsKept w → IsPoised w → EachNode HasHeardAll w
begins_heard w kept poised n m there b b_is apart =
    let first = (kept_abreast m.node b (told_of w n m kept there)).first in
    both_heard (pair_with m.node b) first (poised_heard w n b 0 m kept poised (omega arith) there apart) (poised_heard w n b 1 m kept poised (omega arith) there apart)

-- so a call that begins in a poised world leaves it calm
round_stands : (start : WorldState) (places : Places) (outset : WorldState) (ends : Places) (now : WorldState) (r : IsRound places outset ends now) → BeginsRound start places outset now → StandsCalm start ends now
round_stands start places outset ends now r k = record {
  calm = round_calm start places outset ends now k.kept k.poised k.behind r k.whole k.so_far.calm k.so_far.heard;
  heard = round_heard start places outset ends now r k;
  young = (arrive_young start places outset ends now r k).1;
}

pub call_stays_calm : (start : WorldState) (rounds : ℕ) (places : Places) (now : WorldState) → IsKept start → IsPoised start → Rounds start rounds places now → now.lost ≡ false → StandsCalm start places now
call_stays_calm start rounds places now kept poised made whole =
    rounds_keep (λ done. StandsCalm start) start rounds places now each made whole
    (record { calm = call_begins_calm start kept poised (rounds_whole start rounds places now made whole); heard = begins_heard start kept poised; young = begins_young start })
  where
    each : (done : ℕ) (at : Places) (before : WorldState) (ends : Places) (after : WorldState) → done < rounds → Rounds start done at before → Round at before (Ok ends) after → after.lost ≡ false → StandsCalm start at before → StandsCalm start ends after
    each done at before ends after fewer so_far round clear h =
        let r = round_parts at before ends after round in
        let goes = settling_goes_on start done at before so_far (round_whole at before ends after r clear) in
        round_stands start at before ends after r (record { kept = kept; poised = poised; behind = goes.behind; within = goes.within; so_far = h; whole = clear })
