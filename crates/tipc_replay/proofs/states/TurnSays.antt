-- What the STATEs of a turn show: what is shown of the broadcast as a tick passes or a packet arrives; or, where there is contact after the turn, what
-- the answer shows.
use Rattle.std.specs.Prelude.{All, ◌==◌, if◌then◌else◌}
use Rattle.std.proofs.Common.{◌≡◌, ◌≤◌, ◌-◌, ◌∙◌, ℕ, Bool, true, false, List, [], ◌++◌, Option, Some, None, option_map, refl, sym, subst, ap, arith}
use Rattle.std.proofs.lemmas.Bool.Decides.{nat_tests}
use Rattle.tipc_types.specs.declared.link_words.BroadcastState.{BroadcastState}
use Rattle.tipc_outside.specs.declared.outgoing.Outgoing.{Outgoing}
use Rattle.tipc_link.specs.Links.{LinkEnd, session_answer}
use Rattle.tipc_link.specs.Parts.{IsShowable}
use Rattle.tipc_link.specs.Sessions.{answered, with_broadcast}
use Rattle.tipc_pair.specs.Facing.{PairEnds, facing, in_contact, is_up_at, turned, with_near}
use Rattle.tipc_pair.specs.Messages.{IsMessage}
use Rattle.tipc_pair.specs.PairCalls.{answered_at}
use Rattle.tipc_pair.specs.PairTurns.{Opening, PairTurn, Reply, ShowsAtLast, ShowsIn, replied}
use Rattle.tipc_pair.specs.PairTurns.Opening.{hears, ticks}
use Rattle.tipc_pair.proofs.Facings.{facing_far, facing_near, turned_back}
use Rattle.tipc_pair.proofs.Followings.{near_down}
use Rattle.tipc_pair.proofs.turns.PairKept.{Both, IsShownAtLast, IsShownIn}
use Rattle.tipc_pair.proofs.turns.PairPuts.{meets_facing}
use Rattle.tipc_pair.proofs.turns.TurnMeans.{meets_after}
use Rattle.tipc_replay.proofs.states.Shown.{HasPlain, IsSaid, turn_says}

-- ---- what is shown

-- it is shown as something happens first
abbrev pub IsFirst : Opening → BroadcastState → Type 0
IsFirst (ticks shown) seen = seen ≡ shown
IsFirst (hears bearer es er p by shown) seen = seen ≡ shown
IsFirst other seen = ⊥

-- by the opening, or by the answer where there is contact
pub data ShownBy (opening : Opening) (reply : Option Reply) (there : Bool) : Type 0 where
  at_first : (seen : BroadcastState) → IsFirst opening seen → ShownBy opening reply there
  at_last : (r : Reply) → reply ≡ Some r → there ≡ true → ShownBy opening reply there

abbrev pub shown_by : (opening : Opening) (reply : Option Reply) (there : Bool) → ShownBy opening reply there → BroadcastState
shown_by opening reply there (at_first seen is) = seen
shown_by opening reply there (at_last r is up) = r.shown

first_showable : (opening : Opening) (seen : BroadcastState) → ShowsIn opening → IsFirst opening seen → IsShowable seen
first_showable (ticks shown) seen may is = subst IsShowable (sym is) may
first_showable (hears bearer es er p by shown) seen may is = subst IsShowable (sym is) may
first_showable other seen may is = absurd is

pub showable : (opening : Opening) (reply : Option Reply) (there : Bool) → ShowsIn opening → ShowsAtLast reply → (x : ShownBy opening reply there) → IsShowable (shown_by opening reply there x)
showable opening reply there may last (at_first seen is) = first_showable opening seen may is
showable opening reply there may last (at_last r is up) = subst ShowsAtLast is last

first_shown : (opening : Opening) (reply : Option Reply) (there : Bool) → IsShownIn (ShownBy opening reply there) (shown_by opening reply there) opening
first_shown (ticks shown) reply there = (at_first shown refl, refl)
first_shown (hears bearer es er p by shown) reply there = (at_first shown refl, refl)
first_shown other reply there = tt

last_shown : (opening : Opening) (reply answer : Option Reply) (there : Bool) → answer ≡ reply → there ≡ true → IsShownAtLast (ShownBy opening reply there) (shown_by opening reply there) answer
last_shown opening reply None there is up = tt
last_shown opening reply (Some r) there is up = (at_last r (sym is) up, refl)

-- ---- no answer out of contact

faced_back : (bearer : ℕ) (x : PairEnds) → x.bearer ≤ 1 → facing x.bearer (facing bearer x) ≡ x
unfolding facing
faced_back bearer x two = elim (x.bearer == bearer) as (λ b. (x.bearer == bearer) ≡ b → facing x.bearer (if b then x else turned x) ≡ x) [
  | true ↦ λ same. facing_near x.bearer x refl
  | false ↦ λ differs. let there : ((1 - x.bearer) == x.bearer) ≡ false = grind (arith, nat_tests) in facing_far x.bearer (turned x) there ∙ turned_back x two
] refl

same_near : (x : PairEnds) (e : LinkEnd) → x.near ≡ Some e → with_near x e ≡ x
same_near x e is = λ i. record x { near = sym is i }

silent_at : (x : PairEnds) (end : Option LinkEnd) (taken : ℕ) (asks : Bool) (shown : BroadcastState) → x.near ≡ end → is_up_at end ≡ false → ((answered_at x end taken asks shown).pair ≡ x) × ((answered_at x end taken asks shown).states ≡ [])
silent_at x None taken asks shown is low = (refl, refl)
silent_at x (Some e) taken asks shown is low = (
  ap (λ b. with_near x (if b then record e { session = option_map (λ s. answered (with_broadcast s taken asks)) e.session } else e)) low ∙ same_near x e is,
  ap (λ b. if b then session_answer (option_map (λ s. with_broadcast s taken asks) e.session) shown else []) low,
)

near_low : (bearer : ℕ) (x : PairEnds) → in_contact x ≡ false → is_up_at (facing bearer x).near ≡ false
near_low bearer x out = near_down (facing bearer x) ((meets_facing bearer x).there ∙ out)

out_silent : (reply : Option Reply) (x : PairEnds) → x.bearer ≤ 1 → in_contact x ≡ false → ((replied reply x).pair ≡ x) × ((replied reply x).states ≡ [])
out_silent None x two out = (refl, refl)
out_silent (Some r) x two out =
    let y = facing r.bearer x in
    let low = silent_at y y.near r.taken r.asks r.shown refl (near_low r.bearer x out) in
    (ap (facing x.bearer) low.0 ∙ faced_back r.bearer x two, low.1)

-- so the turn is one without an answer
without_answer : (x y : PairEnds) (opening : Opening) (messages : List (List ℕ)) (reply : Option Reply) (fs : List Outgoing) → (t : PairTurn x opening messages reply y fs) → t.put.bearer ≤ 1 → in_contact y ≡ false → PairTurn x opening messages None y fs
without_answer x y opening messages reply fs t two out =
    let met = (meets_after x y opening messages reply fs t).1 in
    let silent = out_silent reply t.put two (sym met.there ∙ out) in
    record {
      first = t.first;
      happened = t.happened;
      put_frames = t.put_frames;
      put = t.put;
      puts = t.puts;
      after = t.after ∙ silent.0;
      frames_are = t.frames_are ∙ ap (λ gs. t.first.course.states ++ (t.first.course.numbered ++ (t.put_frames ++ gs))) silent.1;
    }

-- ---- the turn

pub states_shown : (x y : PairEnds) (opening : Opening) (messages : List (List ℕ)) (reply : Option Reply) (fs : List Outgoing) (own : ℕ) → Both HasPlain x → All (IsMessage own) messages → (may : ShowsIn opening) (last : ShowsAtLast reply) → (t : PairTurn x opening messages reply y fs)
    → Both HasPlain y × All (IsSaid (ShownBy opening reply (in_contact y)) (shown_by opening reply (in_contact y)) (showable opening reply (in_contact y) may last)) fs
states_shown x y opening messages reply fs own h all may last t = by (in_contact y) refl
  where
    two : t.put.bearer ≤ 1
    two = (turn_says (ShownBy opening None false) (shown_by opening None false) (showable opening None false may tt) x t.put opening messages None _ own h all (first_shown opening None false) tt
        (record { first = t.first; happened = t.happened; put_frames = t.put_frames; put = t.put; puts = t.puts; after = refl; frames_are = refl })).0.two

    Says : Bool → Type 0
    Says there = Both HasPlain y × All (IsSaid (ShownBy opening reply there) (shown_by opening reply there) (showable opening reply there may last)) fs

    by : (there : Bool) → in_contact y ≡ there → Says there
    by true up = turn_says (ShownBy opening reply true) (shown_by opening reply true) (showable opening reply true may last) x y opening messages reply fs own h all (first_shown opening reply true) (last_shown opening reply reply true refl refl) t
    by false out = turn_says (ShownBy opening reply false) (shown_by opening reply false) (showable opening reply false may last) x y opening messages None fs own h all (first_shown opening reply false) tt (without_answer x y opening messages reply fs t two out)
