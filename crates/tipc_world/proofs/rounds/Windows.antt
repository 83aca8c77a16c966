-- Four rounds for each packet of a window release whatever was numbered.
use Rattle.std.specs.Prelude.{◌-◌}
use Rattle.std.proofs.Common.{◌≡◌, ◌≤◌, ◌+◌, ◌*◌, ◌∙◌, ℕ, zero, suc, false, Some, length, inl, inr, sym, ap, subst, arith}
use Rattle.std.proofs.lemmas.Bool.{cases_lt}
use Rattle.tipc_types.specs.Limits.{window_size}
use Rattle.tipc_send_window.specs.Sending.{acked_of}
use Rattle.tipc_link.specs.Sessions.{SessionEnd}
use Rattle.tipc_settling.specs.Repairs.{session_with}
use Rattle.tipc_replay.specs.States.{MemberState}
use Rattle.tipc_world.specs.declared.places.Places.{Places}
use Rattle.tipc_world.specs.CalmWorlds.{IsCalmWorld}
use Rattle.tipc_world.specs.Directions.{IsAwaited, IsReleased, StandsIn, WasNumbered}
use Rattle.tipc_world.specs.Poised.{IsPoised}
use Rattle.tipc_world.specs.RoundParts.{IsKept, MoreRounds, none_more, one_more}
use Rattle.tipc_world.specs.Rows.{WasUp, WindowsAreReleased}
use Rattle.tipc_world.specs.Settling.{Rounds}
use Rattle.tipc_world.specs.States.{WorldState}
use Rattle.tipc_world.proofs.rounds.HeardWorlds.{call_stays_calm}
use Rattle.tipc_world.proofs.rounds.Pacing.{same_session}
use Rattle.tipc_world.proofs.rounds.Releasing.{begins_there, calm_round, four_rounds_release, more_keep, rounds_join}
use Rattle.tipc_world.proofs.rounds.RoundParts.{round_parts, round_whole}
use Rattle.tipc_world.proofs.rounds.Rows.{GoesWith, released_on, through}
use Rattle.tipc_world.proofs.rounds.UpLinks.{up_sides}

-- ---- rounds behind others, in two parts

pub record PartsBehind (made : ℕ) (first : Places) (start : WorldState) (so_many rounds : ℕ) (places : Places) (now : WorldState) : Type 0 where
  pub middle : Places
  pub between : WorldState
  pub front : MoreRounds made first start so_many middle between
  pub rest : MoreRounds so_many middle between rounds places now

pub parts_behind : (made : ℕ) (first : Places) (start : WorldState) (so_many rounds : ℕ) (places : Places) (now : WorldState) → made ≤ so_many → so_many ≤ rounds → MoreRounds made first start rounds places now → PartsBehind made first start so_many rounds places now
parts_behind made first start so_many _ _ _ above within none_more =
    let same : made ≡ so_many = omega (arith, above, within) in
    subst (λ k. PartsBehind made first start k made first start) same (record { middle = first; between = start; front = none_more; rest = none_more })
parts_behind made first start so_many _ _ _ above within (one_more done places before ends now rest round) = elim (cases_lt done so_many) [
  | inl all ↦
      let here : done + 1 ≡ so_many = omega (arith, all, within) in
      subst (λ k. PartsBehind made first start k (done + 1) ends now) here (record { middle = ends; between = now; front = one_more done places before ends now rest round; rest = none_more })
  | inr fewer ↦
      let p = parts_behind made first start so_many done places before above fewer rest in
      record { middle = p.middle; between = p.between; front = p.front; rest = one_more done places before ends now p.rest round }
]

pub more_whole : (made : ℕ) (first : Places) (start : WorldState) (rounds : ℕ) (places : Places) (now : WorldState) → MoreRounds made first start rounds places now → now.lost ≡ false → start.lost ≡ false
more_whole made first start _ _ _ none_more whole = whole
more_whole made first start _ _ _ (one_more done places before ends now rest round) whole = more_whole made first start done places before rest (round_whole places before ends now (round_parts places before ends now round) whole)

-- ---- what a session is

stands_as : (w : WorldState) (P Q : SessionEnd → Type 0) (a b bearer : ℕ) → ((s : SessionEnd) → P s → Q s) → StandsIn w P a b bearer → StandsIn w Q a b bearer
stands_as w P Q a b bearer so (m, there, (s, is, p)) = (m, there, (s, is, so s p))

stands_both : (w : WorldState) (P Q : SessionEnd → Type 0) (a b bearer : ℕ) → StandsIn w P a b bearer → StandsIn w Q a b bearer → StandsIn w (λ s. P s × Q s) a b bearer
stands_both w P Q a b bearer (m, there, (s, is, p)) (k, there', (t, is', q)) =
    let both : Some m ≡ Some k = sym there ∙ there' in
    let one : m ≡ k = cc in
    let same = same_session (session_with m.node b bearer) s t is (ap (λ (y : MemberState). session_with y.node b bearer) one ∙ is') in
    (m, there, (s, is, (p, subst Q (sym same) q)))

-- the packet at a position was numbered, and is one of the first so many that aren't acknowledged, or was acknowledged
record IsNear (many position : ℕ) (s : SessionEnd) : Type 0 where
  numbered : position ≤ s.sending.numbered
  near : position ≤ acked_of s.sending + many

numbered_on : (position : ℕ) → GoesWith (WasNumbered position)
numbered_on position s t stays h = (let more = stays.goes.numbered in omega (arith, more, h))

last_is_released : (position : ℕ) (s : SessionEnd) → IsNear 0 position s → IsReleased position s
last_is_released position s h = (let near = h.near in omega (arith, near))

first_is_awaited : (many position : ℕ) (s : SessionEnd) → IsNear (suc many) position s → IsAwaited (position - many) s
first_is_awaited many position s h =
    let numbered = h.numbered in
    let near = h.near in
    record { numbered = omega (arith, numbered); first = omega (arith, near) }

nearer : (many position : ℕ) (s : SessionEnd) → IsReleased (position - many) s × WasNumbered position s → IsNear many position s
nearer many position s (released, numbered) = record { numbered = numbered; near = omega (arith, released) }

in_a_window : (s : SessionEnd) (position : ℕ) → length s.sending.unacked ≤ window_size → length s.sending.unacked ≤ s.sending.numbered → WasNumbered position s → IsNear window_size position s
in_a_window s position window below numbered = record { numbered = numbered; near = omega (arith, window, below, numbered) }

-- ---- through the rounds

-- what a session keeps as it goes on
pub many_through : (start : WorldState) (done : ℕ) (places : Places) (outset : WorldState) (rounds : ℕ) (ends : Places) (now : WorldState) (a b bearer : ℕ) (P : SessionEnd → Type 0) → GoesWith P → IsKept start → IsPoised start → Rounds start done places outset
    → MoreRounds done places outset rounds ends now → now.lost ≡ false → WasUp start a b bearer → StandsIn outset P a b bearer → StandsIn now P a b bearer
many_through start done places outset rounds ends now a b bearer P keeps kept poised front rest whole u h = (more_keep start (λ n at w. StandsIn w P a b bearer) done places outset rounds ends now front
    (λ n at before next after from so_far round clear stands.
    let r = round_parts at before next after round in
    let begins = begins_there start n at before next after kept poised so_far r clear in
    through (calm_round start at before next after r begins) u.here u.there u.apart u.on_one u.up P keeps stands)
    rest whole h).1

-- what was numbered is one of a window's
numbered_near : (start : WorldState) (done : ℕ) (places : Places) (outset : WorldState) (a b bearer position : ℕ) → IsKept start → IsPoised start → IsCalmWorld start outset → WasUp start a b bearer → StandsIn outset (WasNumbered position) a b bearer
    → StandsIn outset (IsNear window_size position) a b bearer
numbered_near start done places outset a b bearer position kept poised calm u (m, there, (s, is, numbered)) =
    let sides = up_sides start outset a b bearer m kept poised calm u.there u.apart u.on_one there u.up in
    let same = same_session (session_with m.node b bearer) sides.here.session s sides.here.in_session is in
    let direction = sides.sends.sends.direction in
    (m, there, (s, is, in_a_window s position (subst (λ (q : SessionEnd). length q.sending.unacked ≤ window_size) same direction.window) (subst (λ (q : SessionEnd). length q.sending.unacked ≤ q.sending.numbered) same direction.below) numbered))

-- four rounds for each
so_many_released : (many : ℕ) (start : WorldState) (done : ℕ) (places : Places) (outset : WorldState) (ends : Places) (now : WorldState) (a b bearer position : ℕ) → IsKept start → IsPoised start → Rounds start done places outset
    → MoreRounds done places outset (done + 4 * many) ends now → now.lost ≡ false → WasUp start a b bearer → StandsIn outset (IsNear many position) a b bearer → StandsIn now (IsReleased position) a b bearer
so_many_released zero start done places outset ends now a b bearer position kept poised front rest whole u h =
    many_through start done places outset (done + 4 * 0) ends now a b bearer (IsReleased position) (released_on position) kept poised front rest whole u (stands_as outset (IsNear 0 position) (IsReleased position) a b bearer (last_is_released position) h)
so_many_released (suc many) start done places outset ends now a b bearer position kept poised front rest whole u h =
    let p = parts_behind done places outset (done + 4) (done + 4 * suc many) ends now (omega arith) (omega arith) rest in
    let clear = more_whole (done + 4) p.middle p.between (done + 4 * suc many) ends now p.rest whole in
    let awaited = stands_as outset (IsNear (suc many) position) (IsAwaited (position - many)) a b bearer (first_is_awaited many position) h in
    let first = four_rounds_release start done places outset p.middle p.between a b bearer (position - many) kept poised front p.front clear u awaited in
    let numbered = many_through start done places outset (done + 4) p.middle p.between a b bearer (WasNumbered position) (numbered_on position) kept poised front p.front clear u (stands_as outset (IsNear (suc many) position) (WasNumbered position) a b bearer (λ s near. near.numbered) h) in
    let then = stands_as p.between (λ s. IsReleased (position - many) s × WasNumbered position s) (IsNear many position) a b bearer (nearer many position) (stands_both p.between (IsReleased (position - many)) (WasNumbered position) a b bearer first numbered) in
    let as_many : done + 4 * suc many ≡ done + 4 + 4 * many = omega arith in
    so_many_released many start (done + 4) p.middle p.between ends now a b bearer position kept poised (rounds_join start done places outset (done + 4) p.middle p.between front p.front)
    (subst (λ k. MoreRounds (done + 4) p.middle p.between k ends now) as_many p.rest) whole u then

pub windows_are_released : WindowsAreReleased
windows_are_released start done places outset ends now a b bearer position kept poised front rest whole u numbered =
    let clear = more_whole done places outset (done + 4 * window_size) ends now rest whole in
    let calm = (call_stays_calm start done places outset kept poised front clear).calm in
    so_many_released window_size start done places outset ends now a b bearer position kept poised front rest whole u (numbered_near start done places outset a b bearer position kept poised calm u numbered)
