-- A world in which no link was up is poised after four rounds, and after each later one.
use Rattle.std.specs.Prelude.{◌||◌, ◌⊎◌, if◌then◌else◌, option_map, unwrap_or, OnOk}
use Rattle.std.proofs.Common.{◌≡◌, ◌≢◌, ◌≤◌, ◌+◌, ◌∙◌, ℕ, zero, suc, Bool, true, false, Option, Some, None, Result, Ok, Err, slice_index_or, is_some, inl, inr, refl, sym, ap, subst, arith}
use Rattle.std.proofs.lemmas.Bool.{true≢false}
use Rattle.tipc_types.specs.LinkStates.{is_up}
use Rattle.tipc_link.specs.Links.{LinkEnd}
use Rattle.tipc_pair.specs.Facing.{PairEnds, facing, in_contact, is_up_at}
use Rattle.tipc_pair.specs.LinkReadings.{silence_in}
use Rattle.tipc_pair.proofs.Facings.{facing_near, facing_one}
use Rattle.tipc_pair.proofs.turns.Moves.{up_silence}
use Rattle.tipc_settling.specs.Stillness.{IsStill}
use Rattle.tipc_node.specs.Ends.{BothStand}
use Rattle.tipc_node.specs.Nodes.{is_mended_on, pair_with}
use Rattle.tipc_node.proofs.pairs.Strangers.{kept_abreast, kept_by}
use Rattle.tipc_replay.specs.States.{MemberState, contact_at, has_member, is_link_up_at, is_mended_at, link_at, member_at}
use Rattle.tipc_replay.proofs.LookUps.{member_at-is}
use Rattle.tipc_replay.proofs.calls.Calls.{the_some}
use Rattle.tipc_replay.proofs.casts.CasterLooks.{contact_at-is}
use Rattle.tipc_world.specs.declared.faults.WorldFault.{WorldFault}
use Rattle.tipc_world.specs.declared.places.Places.{Places}
use Rattle.tipc_world.specs.declared.settling.Settled.{Settled}
use Rattle.tipc_world.specs.Ends.{ends_of}
use Rattle.tipc_world.specs.Poised.{IsDownWorld, IsPoised, IsUpTowards, LinkIsCut, LinkStands}
use Rattle.tipc_world.specs.RisingWorlds.{AreSilentFor, AreUpsAnswered}
use Rattle.tipc_world.specs.RoundParts.{IsKept, IsRound}
use Rattle.tipc_world.specs.Settling.{Round, Rounds, Settles}
use Rattle.tipc_world.specs.Stages.{HasAnswered, HasComeUp, HasMet, HasSeenAll, IsMetWorld, ShareBearer, MetRound}
use Rattle.tipc_world.specs.States.{WorldState, is_there}
use Rattle.tipc_world.specs.StillWorlds.{footing_at}
use Rattle.tipc_world.proofs.rounds.CalmWorlds.{mended_since}
use Rattle.tipc_world.proofs.rounds.Comings.{answers, facing_seen, goes_up, hears_on, other_way, sees, still_end_at}
use Rattle.tipc_world.proofs.rounds.HeardWorlds.{told_of}
use Rattle.tipc_world.proofs.rounds.Meeting.{FirstRound, makes_ends, rises}
use Rattle.tipc_world.proofs.rounds.PoisedAgain.{end_is, number_there}
use Rattle.tipc_world.proofs.rounds.Rising.{rising_is_still, round_rises, silent_down}
use Rattle.tipc_world.proofs.rounds.RoundParts.{round_parts, round_whole, rounds_keep}
use Rattle.tipc_world.proofs.rounds.Stages.{guards, met_rises, number_of}
use Rattle.tipc_world.proofs.rounds.UpLinks.{up_mended, up_there}
use Rattle.tipc_world.proofs.rounds.Walking.{settling_goes_on}

-- ---- round by round

-- a node one of whose bearers is mended is there
mended_there : (start : WorldState) (b bearer : ℕ) → is_mended_at start.members b bearer ≡ true → is_there start b ≡ true
unfolding member_at
mended_there start b bearer mended = by (slice_index_or start.members b None) refl
  where
    by : (o : Option MemberState) → slice_index_or start.members b None ≡ o → is_there start b ≡ true
    by None none = absurd (true≢false (sym mended ∙ ap (λ x. unwrap_or (option_map (λ (m : MemberState). is_mended_on m.node.mended bearer) x) false) none))
    by (Some m) is = ap is_some is

module _ (start : WorldState) (kept : IsKept start) (down : IsDownWorld start) where
  has_met : (ends : Places) (now : WorldState) → Round (ends_of start.air) start (Ok ends) now → now.lost ≡ false → HasMet start now
  has_met ends now round clear =
      let r = round_parts (ends_of start.air) start ends now round in
      let k : FirstRound start ends now r = record { kept = kept; down = down; clear = round_whole (ends_of start.air) start ends now r clear; whole = clear } in
      let all = rises start ends now r k in
      let last = all.round in
      let g = last.guards in
      record {
        met = record {
          on = g.on;
          nodes = λ n m there. record { rising = g.nodes n m there; made = λ b bearer shared. makes_ends start ends now r k n b bearer shared m there; answers = λ so. absurd (omega (arith, so)); up = λ so. absurd (omega (arith, so)) };
          frames = g.frames;
        };
        ups = last.related;
      }

  -- what a later round finds
  later_round : (most step : ℕ) (done : ℕ) (places : Places) (outset : WorldState) (ends : Places) (now : WorldState) → Rounds start done places outset → (r : IsRound places outset ends now) → now.lost ≡ false → most ≤ 3
      → IsMetWorld start most step outset → AreUpsAnswered start outset → MetRound start most step places outset ends now r
  later_round most step done places outset ends now so_far r clear few met ups =
      let goes = settling_goes_on start done places outset so_far (round_whole places outset ends now r clear) in
      record { kept = kept; down = down; few = few; behind = goes.behind; within = goes.within; whole = clear; met = met; ups = ups }

  ups_then : (most step : ℕ) (places : Places) (outset : WorldState) (ends : Places) (now : WorldState) (r : IsRound places outset ends now) → MetRound start most step places outset ends now r → AreUpsAnswered start now
  ups_then most step places outset ends now r k =
      let all = round_rises start most places outset ends now kept k.few k.behind r k.whole (met_rises start most step outset k.met) k.ups in
      let last = all.round in
      last.related

  has_seen : (done : ℕ) (places : Places) (outset : WorldState) (ends : Places) (now : WorldState) → Rounds start done places outset → Round places outset (Ok ends) now → now.lost ≡ false → HasMet start outset → HasSeenAll start now
  has_seen done places outset ends now so_far round clear h =
      let r = round_parts places outset ends now round in
      let k = later_round 0 0 done places outset ends now so_far r clear (omega arith) h.met h.ups in
      let g = guards start 0 0 places outset ends now r k in
      record {
        met = g.round;
        ups = ups_then 0 0 places outset ends now r k;
        seen = λ n b bearer m shared there. sees start 0 0 places outset ends now r k n b bearer shared m there;
      }

  has_answered : (done : ℕ) (places : Places) (outset : WorldState) (ends : Places) (now : WorldState) → Rounds start done places outset → Round places outset (Ok ends) now → now.lost ≡ false → HasSeenAll start outset → HasAnswered start now
  has_answered done places outset ends now so_far round clear h =
      let r = round_parts places outset ends now round in
      let k = later_round 1 0 done places outset ends now so_far r clear (omega arith) h.met h.ups in
      let all = guards start 1 0 places outset ends now r k in
      let g = all.round in
      record {
        met = record {
          on = g.on;
          nodes = λ n m there. (
              let q = g.nodes n m there in
              record {
                rising = q.rising;
                made = q.made;
                answers = λ so b bearer shared. answers start 1 0 places outset ends now r k n b bearer shared (λ l there_b. h.seen b n bearer l (other_way start n b bearer shared) there_b) m there;
                up = λ so. absurd (omega (arith, so));
              });
          frames = g.frames;
        };
        ups = ups_then 1 0 places outset ends now r k;
      }

  has_come_up : (done : ℕ) (places : Places) (outset : WorldState) (ends : Places) (now : WorldState) → Rounds start done places outset → Round places outset (Ok ends) now → now.lost ≡ false → HasAnswered start outset → HasComeUp start now
  has_come_up done places outset ends now so_far round clear h =
      let r = round_parts places outset ends now round in
      let k = later_round 2 1 done places outset ends now so_far r clear (omega arith) h.met h.ups in
      let all = guards start 2 1 places outset ends now r k in
      let g = all.round in
      record {
        met = record {
          on = g.on;
          nodes = λ n m there. (
              let q = g.nodes n m there in
              record {
                rising = q.rising;
                made = q.made;
                answers = λ so. q.answers (omega arith);
                up = λ so b bearer shared. goes_up start 2 1 places outset ends now r k (omega arith) n b bearer shared m there;
              });
          frames = g.frames;
        };
        ups = ups_then 2 1 places outset ends now r k;
      }

  -- in a round in which all links on shared bearers are up each link is heard, and the others are down
  stay_heard : (places : Places) (outset : WorldState) (ends : Places) (now : WorldState) (r : IsRound places outset ends now) → MetRound start 3 2 places outset ends now r → IsMetWorld start 4 2 now → AreUpsAnswered start now
      → (n : ℕ) (m : MemberState) → slice_index_or now.members n None ≡ Some m → AreSilentFor 3 n m
  stay_heard places outset ends now r k g ups n m there b number apart bearer on_one = by (is_up_at (facing bearer (pair_with m.node b)).near) refl
    where
      by : (up : Bool) → is_up_at (facing bearer (pair_with m.node b)).near ≡ up → silence_in (facing bearer (pair_with m.node b)).near ≤ 3
      by false is = (let none = silent_down (facing bearer (pair_with m.node b)).near is in omega (arith, none))
      by true is =
          let there_now : is_there now n ≡ true = ap is_some there in
          let kept_now = g.on.kept kept in
          let e = up_there (facing bearer (pair_with m.node b)).near is in
          let right = kept_now.nodes.ends n m there in
          let stand = kept_by (BothStand m.node.mended) m.node b (λ none. record { near = tt; far = tt }) (right.stand b) in
          let first = (kept_abreast m.node b (told_of now n m kept_now there)).first in
          let world = rising_is_still start 4 now (met_rises start 4 2 now g) in
          let far = ups.mended n b bearer m there number apart on_one is in
          let shared : ShareBearer start n b bearer = record {
            here = sym (g.on.nodes n) ∙ there_now;
            there = mended_there start b bearer far;
            apart = apart;
            on_one = on_one;
            mended = mended_since start now n m bearer world there ∙ up_mended m.node.mended (pair_with m.node b) bearer e.0 first on_one stand e.1 e.2;
            mended_there = far;
          } in
          let none = hears_on start 3 2 places outset ends now r k (omega arith) n b bearer shared m there in
          omega (arith, none)

  stays_up : (done : ℕ) (places : Places) (outset : WorldState) (ends : Places) (now : WorldState) → Rounds start done places outset → Round places outset (Ok ends) now → now.lost ≡ false → HasComeUp start outset → HasComeUp start now
  stays_up done places outset ends now so_far round clear h =
      let r = round_parts places outset ends now round in
      let k = later_round 3 2 done places outset ends now so_far r clear (omega arith) h.met h.ups in
      let all = guards start 3 2 places outset ends now r k in
      let g = all.round in
      let ups = ups_then 3 2 places outset ends now r k in
      record {
        met = record {
          on = g.on;
          nodes = λ n m there. (
              let q = g.nodes n m there in
              let heard = stay_heard places outset ends now r k g ups n m there in
              record {
                rising = λ b number apart. record { still = (q.rising b number apart).still; silent = heard b number apart };
                made = q.made;
                answers = q.answers;
                up = q.up;
              });
          frames = g.frames;
        };
        ups = ups;
      }

  -- how far a call has come after so many rounds
  Come : ℕ → Places → WorldState → Type 0
  Come zero at w = (w ≡ start) × (at ≡ ends_of start.air)
  Come (suc zero) at w = HasMet start w
  Come (suc (suc zero)) at w = HasSeenAll start w
  Come (suc (suc (suc zero))) at w = HasAnswered start w
  Come (suc (suc (suc (suc more)))) at w = HasComeUp start w

  each : (done : ℕ) (places : Places) (before : WorldState) (ends : Places) (after : WorldState) → Rounds start done places before → Round places before (Ok ends) after → after.lost ≡ false → Come done places before → Come (done + 1) ends after
  unfolding Come
  each zero places before ends after so_far round clear h = has_met ends after (subst (λ p. Round p start (Ok ends) after) h.1 (subst (λ w. Round places w (Ok ends) after) h.0 round)) clear
  each (suc zero) places before ends after so_far round clear h = has_seen 1 places before ends after so_far round clear h
  each (suc (suc zero)) places before ends after so_far round clear h = has_answered 2 places before ends after so_far round clear h
  each (suc (suc (suc zero))) places before ends after so_far round clear h = has_come_up 3 places before ends after so_far round clear h
  each (suc (suc (suc (suc more)))) places before ends after so_far round clear h =
      let stays : Come (suc (suc (suc (suc (suc more))))) ends after = stays_up (suc (suc (suc (suc more)))) places before ends after so_far round clear h in
      let one_more : suc (suc (suc (suc (suc more)))) ≡ suc (suc (suc (suc more))) + 1 = omega arith in
      subst (λ k. Come k ends after) one_more stays

  -- from the fourth round on the links are up
  from_fourth : (rounds : ℕ) (places : Places) (now : WorldState) → 4 ≤ rounds → Come rounds places now → HasComeUp start now
  unfolding Come
  from_fourth zero places now four h = absurd (omega (arith, four))
  from_fourth (suc zero) places now four h = absurd (omega (arith, four))
  from_fourth (suc (suc zero)) places now four h = absurd (omega (arith, four))
  from_fourth (suc (suc (suc zero))) places now four h = absurd (omega (arith, four))
  from_fourth (suc (suc (suc (suc more)))) places now four h = h

  pub all_up : (rounds : ℕ) (places : Places) (now : WorldState) → 4 ≤ rounds → Rounds start rounds places now → now.lost ≡ false → HasComeUp start now
  unfolding Come
  all_up rounds places now four made clear = from_fourth rounds places now four (rounds_keep Come start rounds places now (λ done at before ends after few. each done at before ends after) made clear (refl, refl))

-- ---- a world whose links are up is poised

module _ (start now : WorldState) (kept_start : IsKept start) (h : HasComeUp start now) where
  kept_now : IsKept now
  kept_now = h.met.on.kept kept_start

  -- a link end that is up, of a node that is there
  record UpHere (a b bearer : ℕ) : Type 0 where
    member : MemberState
    there : slice_index_or now.members a None ≡ Some member
    end : LinkEnd
    near : (facing bearer (pair_with member.node b)).near ≡ Some end
    link : link_at now.members a b bearer ≡ Some end
    up : is_up end.fsm.state ≡ true

  up_here : (a b bearer : ℕ) → ShareBearer start a b bearer → UpHere a b bearer
  up_here a b bearer shared =
      let m = the_some (slice_index_or now.members a None) (h.met.on.nodes a ∙ shared.here) in
      let e = up_there (facing bearer (pair_with m.0.node b)).near ((h.met.nodes a m.0 m.1).up (omega arith) b bearer shared) in
      record { member = m.0; there = m.1; end = e.0; near = e.1; link = sym (end_is now a b bearer m.0 kept_now shared.on_one m.1) ∙ e.1; up = e.2 }

  still_here : (a b bearer : ℕ) → ShareBearer start a b bearer → (u : UpHere a b bearer) → IsStill (footing_at start a b) (footing_at start b a) (pair_with u.member.node b)
  still_here a b bearer shared u = ((h.met.nodes a u.member u.there).rising b (number_of start b kept_start shared.there) shared.apart).still

  towards : (a b bearer : ℕ) → (shared : ShareBearer start a b bearer) → (u : UpHere a b bearer) (v : UpHere b a bearer) → IsUpTowards u.end v.end
  towards a b bearer shared u v =
      let back = other_way start a b bearer shared in
      let near = still_end_at (footing_at start a b) (footing_at start b a) bearer (pair_with u.member.node b) u.end shared.on_one (still_here a b bearer shared u) u.near in
      let far = still_end_at (footing_at start b a) (footing_at start a b) bearer (pair_with v.member.node a) v.end shared.on_one (still_here b a bearer back v) v.near in
      let silent = ((h.met.nodes a u.member u.there).rising b (number_of start b kept_start shared.there) shared.apart).silent bearer shared.on_one in
      let same : silence_in (facing bearer (pair_with u.member.node b)).near ≡ silence_in (Some u.end) = ap silence_in u.near in
      let count = up_silence u.end u.up in
      record { up = u.up; knows = near.up u.up ∙ ap (λ k. Some k) (sym far.epoch); heard = λ four. omega (arith, silent, same, count, four) }

  -- a node whose link is up is in contact, under the numbers of the footings
  in_contact_so : (x : PairEnds) (bearer : ℕ) → x.bearer ≡ 0 → bearer ≤ 1 → is_up_at (facing bearer x).near ≡ true → in_contact x ≡ true
  in_contact_so x zero zero_is on_one up = ap (λ t. t || is_up_at x.far) (ap (λ (y : PairEnds). is_up_at y.near) (sym (facing_near 0 x zero_is)) ∙ up)
  in_contact_so x (suc zero) zero_is on_one up =
      let far : is_up_at x.far ≡ true = ap (λ (y : PairEnds). is_up_at y.far) (sym (facing_near 0 x zero_is)) ∙ (ap is_up_at (sym (facing_one x (omega (arith, zero_is)))) ∙ up) in
      last (is_up_at x.near) (is_up_at x.far) far
    where
      last : (s t : Bool) → t ≡ true → (s || t) ≡ true
      last true t is = refl
      last false t is = is
  in_contact_so x (suc (suc more)) zero_is on_one up = absurd (omega (arith, on_one))

  contact_of : (a b bearer : ℕ) → ShareBearer start a b bearer → (u : UpHere a b bearer) → contact_at now.members a b ≡ Some ((footing_at start a b).contact, (footing_at start b a).contact)
  contact_of a b bearer shared u =
      let x = pair_with u.member.node b in
      let first = (kept_abreast u.member.node b (told_of now a u.member kept_now u.there)).first in
      let still = still_here a b bearer shared u in
      let end = still_end_at (footing_at start a b) (footing_at start b a) bearer x u.end shared.on_one still u.near in
      let meets = in_contact_so x bearer first shared.on_one (ap is_up_at u.near ∙ u.up) in
      let sees_it : x.seen ≡ (footing_at start b a).contact = sym (facing_seen bearer x) ∙ end.contact (end.up u.up) in
      contact_at-is now.members a b u.member (member_at-is now.members a u.member u.there)
      ∙ (ap (λ t. if t then Some (x.contact, x.seen) else None) meets ∙ (ap (λ k. Some (k, x.seen)) still.contact ∙ ap (λ k. Some ((footing_at start a b).contact, k)) sees_it))

  stands : (a b bearer : ℕ) → ShareBearer start a b bearer → LinkStands now.members a b bearer
  stands a b bearer shared =
      let back = other_way start a b bearer shared in
      let u = up_here a b bearer shared in
      let v = up_here b a bearer back in
      record {
        near = u.end;
        far = v.end;
        near_is = u.link;
        far_is = v.link;
        near_up = towards a b bearer shared u v;
        far_up = towards b a bearer back v u;
        contact = record { numbers = ((footing_at start a b).contact, (footing_at start b a).contact); here = contact_of a b bearer shared u; there = contact_of b a bearer back v };
      }

  -- a link that is up is on a bearer that is mended at both nodes
  up_shared : (a b bearer : ℕ) → has_member now.members a ≡ true → has_member now.members b ≡ true → a ≢ b → bearer ≤ 1 → is_link_up_at now.members a b bearer ≡ true → (is_mended_at start.members a bearer ≡ true) × (is_mended_at start.members b bearer ≡ true)
  up_shared a b bearer here there apart on_one up =
      let m = the_some (slice_index_or now.members a None) here in
      let b_is = number_there now b kept_now there in
      let near_up : is_up_at (facing bearer (pair_with m.0.node b)).near ≡ true = ap is_up_at (end_is now a b bearer m.0 kept_now on_one m.1) ∙ up in
      let e = up_there (facing bearer (pair_with m.0.node b)).near near_up in
      let right = kept_now.nodes.ends a m.0 m.1 in
      let stand = kept_by (BothStand m.0.node.mended) m.0.node b (λ none. record { near = tt; far = tt }) (right.stand b) in
      let first = (kept_abreast m.0.node b (told_of now a m.0 kept_now m.1)).first in
      let world = rising_is_still start 3 now (met_rises start 3 2 now h.met) in (
        mended_since start now a m.0 bearer world m.1 ∙ up_mended m.0.node.mended (pair_with m.0.node b) bearer e.0 first on_one stand e.1 e.2,
        h.ups.mended a b bearer m.0 m.1 b_is apart on_one near_up,
      )

  down_so : (a b bearer : ℕ) → has_member now.members a ≡ true → has_member now.members b ≡ true → a ≢ b → bearer ≤ 1 → (is_mended_at start.members a bearer ≡ false) ⊎ (is_mended_at start.members b bearer ≡ false) → is_link_up_at now.members a b bearer ≡ false
  down_so a b bearer here there apart on_one cut = by (is_link_up_at now.members a b bearer) refl
    where
      by : (t : Bool) → is_link_up_at now.members a b bearer ≡ t → is_link_up_at now.members a b bearer ≡ false
      by false is = is
      by true is =
          let both = up_shared a b bearer here there apart on_one is in
          absurd (elim cut [
            | inl one ↦ true≢false (sym both.0 ∙ one)
            | inr other ↦ true≢false (sym both.1 ∙ other)
          ])

  cut_so : (a b bearer : ℕ) → has_member now.members a ≡ true → has_member now.members b ≡ true → a ≢ b → bearer ≤ 1 → (is_mended_at start.members a bearer ≡ false) ⊎ (is_mended_at start.members b bearer ≡ false) → LinkIsCut now.members a b bearer
  cut_so a b bearer here there apart on_one cut = record {
    near = down_so a b bearer here there apart on_one cut;
    far = down_so b a bearer there here (λ same. apart (sym same)) on_one (elim cut [
      | inl one ↦ inr one
      | inr other ↦ inl other
    ]);
    cut = elim cut [
      | inl one ↦ inl (h.met.on.mended a bearer ∙ one)
      | inr other ↦ inr (h.met.on.mended b bearer ∙ other)
    ];
  }

  pub come_up_poised : IsPoised now
  come_up_poised a b bearer here there apart on_one = by (is_mended_at start.members a bearer) (is_mended_at start.members b bearer) refl refl
    where
      by : (s t : Bool) → is_mended_at start.members a bearer ≡ s → is_mended_at start.members b bearer ≡ t → LinkStands now.members a b bearer ⊎ LinkIsCut now.members a b bearer
      by true true one two = inl (stands a b bearer (record { here = sym (h.met.on.nodes a) ∙ here; there = sym (h.met.on.nodes b) ∙ there; apart = apart; on_one = on_one; mended = one; mended_there = two }))
      by false t one two = inr (cut_so a b bearer here there apart on_one (inl one))
      by true false one two = inr (cut_so a b bearer here there apart on_one (inr two))

-- So it is after four rounds or more.
pub comes_up : (start : WorldState) (rounds : ℕ) (places : Places) (now : WorldState) → 4 ≤ rounds → IsKept start → IsDownWorld start → Rounds start rounds places now → now.lost ≡ false → IsPoised now
comes_up start rounds places now four kept down made clear = come_up_poised start now kept (all_up start kept down rounds places now four made clear)

-- and behind a call that settles in so many
pub settled_comes_up : (rounds : ℕ) (start : WorldState) (answered : Result Settled WorldFault) (now : WorldState) → IsKept start → Settles rounds start answered now → OnOk answered (IsDownWorld start → 4 ≤ rounds → IsPoised now)
settled_comes_up rounds start (Ok settled) now kept h = λ down four. comes_up start rounds h.0.0 now four kept down h.0.1 h.1
settled_comes_up rounds start (Err stop) now kept h = tt
