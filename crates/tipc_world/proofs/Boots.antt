-- The boots of the nodes, and the counts of a world.
use Rattle.std.proofs.Common.{◌≡◌, ◌≤◌, ◌+◌, ℕ, Bool, true, false, List, [], Option, Some, None, slice_index_or, slice_set, refl, sym, ap, subst, ◌∙◌, inl, inr, arith}
use Rattle.std.specs.Prelude.{if◌then◌else◌, ◌&&◌, is_none}
use Rattle.tipc_types.specs.declared.node_calls.Answer.{Answer}
use Rattle.tipc_types.specs.declared.node_calls.By.{By}
use Rattle.tipc_outside.specs.declared.outgoing.Outgoing.{Outgoing}
use Rattle.tipc_replay.specs.declared.events.WorldEvent.{WorldEvent}
use Rattle.tipc_replay.specs.declared.events.WorldEvent.TheVariants.{Restart, Call, Arrive}
use Rattle.tipc_replay.specs.Calls.{counts_at, HasNextBoot}
use Rattle.tipc_replay.specs.Effects.{HasEffect}
use Rattle.tipc_replay.specs.Due.{unarrived}
use Rattle.tipc_replay.specs.Events.{JoinsAt}
use Rattle.tipc_world.specs.Steady.{IsSteady}
use Rattle.tipc_world.specs.Limits.{IsFree}
use Rattle.tipc_replay.specs.States.{MemberState, ReplayState, member_at}
use Rattle.tipc_world.specs.States.{WorldState}
use Rattle.tipc_replay.specs.Steps.{stage, Becomes, Happens, IsArrival, Stage}
use Rattle.tipc_world.specs.Steps.{by_in}
use Rattle.std.proofs.lemmas.Bool.{cases_eq}
use Rattle.tipc_world.proofs.Advancing.{world_of, Counts, Steps}
use Rattle.tipc_replay.proofs.LookUps.{member_at-changed, member_at-is, member_at-other}
use Rattle.tipc_replay.proofs.calls.Outcomes.{some_is}

-- a node after an event is in the same boot, or in the next one
abbrev IsNext : MemberState → MemberState → Type 0
IsNext m m' = m'.node.boot ≤ m.node.boot + 1

stays : (m m' : MemberState) → m'.node.boot ≡ m.node.boot → IsNext m m'
stays m m' same = omega (arith, same)

does_boot : (by : By) (event : WorldEvent) (bytes : List ℕ) (m m' : MemberState) (frames : List Outgoing) (answered : Answer) → HasEffect by event bytes m m' frames answered → IsNext m m'
does_boot by (Restart node) bytes m m' frames answered h = let next = h.0.node.boot_is in omega (arith, next)
does_boot by (Call node call) bytes m m' frames answered h = stays m m' h.turn.turn.boot
does_boot by (Arrive node bearer place) bytes m m' frames answered h = stays m m' h.turn.turn.boot

-- ---- the counts stay within their bounds

is_member_at : (members : List (Option MemberState)) (n : ℕ) (m : MemberState) → member_at members n ≡ Some m → slice_index_or members n None ≡ Some m
unfolding member_at
is_member_at members n m is = is

abbrev BootsBelow : List (Option MemberState) → ℕ → Type 0
BootsBelow members most = (n : ℕ) (m : MemberState) → slice_index_or members n None ≡ Some m → m.node.boot ≤ most

-- a node went on, and the bound with it
boots_after : (members : List (Option MemberState)) (a most : ℕ) (before after : MemberState) → slice_index_or members a None ≡ Some before → BootsBelow members most → IsNext before after
    → BootsBelow (slice_set members a (Some after)) (most + 1)
boots_after members a most before after was below next n m there = elim (cases_eq n a) [
  | inl same ↦
      let here : after ≡ m = some_is after m (sym (member_at-changed members a before after was) ∙ (ap (λ k. member_at (slice_set members a (Some after)) k) (sym same) ∙ member_at-is (slice_set members a (Some after)) n m there)) in
      let old = below a before was in
      let new : m.node.boot ≤ before.node.boot + 1 = subst (λ (x : MemberState). x.node.boot ≤ before.node.boot + 1) here next in
      omega (arith, old, new)
  | inr other ↦
      let old = below n m (is_member_at members n m (sym (member_at-other members a n after other) ∙ member_at-is (slice_set members a (Some after)) n m there)) in
      omega (arith, old)
]

steady_counts : (old : WorldState) (event : WorldEvent) (counted : Bool) (events stamps : ℕ) (members : List (Option MemberState)) → Counts old event counted events stamps → IsSteady old.members old.events old.stamps
    → IsFree old.members old.air old.events event → (counted ≡ true → BootsBelow members (old.events + 2)) → (counted ≡ false → members ≡ old.members) → IsSteady members events stamps
steady_counts old event true events stamps members k steady free above same =
    let more : events ≡ old.events + 1 = k.events_are in
    let free = free.below (sym k.counted_is) in
    let calls : stamps ≤ old.stamps + 1 = by k.call k.stamps_are in
    let few = steady.calls in
    record { calls = omega (arith, more, calls, few); few = omega (arith, more, free); boots = λ n m there. let b = above refl n m there in omega (arith, b, more) }
  where
    by : (b : Bool) → stamps ≡ (if b then old.stamps + 1 else old.stamps) → stamps ≤ old.stamps + 1
    by true e = omega (arith, e)
    by false e = omega (arith, e)
steady_counts old event false events stamps members k steady free above same =
    let none : k.call ≡ false = k.call_is ∙ and_false k.recorded in
    let kept : stamps ≡ old.stamps = k.stamps_are ∙ ap (λ b. if b then old.stamps + 1 else old.stamps) none in
    let still : events ≡ old.events = k.events_are in
    subst (λ ms. IsSteady ms events stamps) (sym (same refl)) (subst (λ e. IsSteady old.members e stamps) (sym still) (subst (IsSteady old.members old.events) (sym kept) steady))
  where
    and_false : (b : Bool) → (b && false) ≡ false
    and_false true = refl
    and_false false = refl

happens_boots : (old new : Stage) (by : By) (event : WorldEvent) (bytes : List ℕ) (answered : Answer) (lost : Bool) (most : ℕ) → Happens old new by event bytes answered lost → BootsBelow old.members most → BootsBelow new.members (most + 1)
happens_boots old new by event bytes answered lost most h below =
    subst (λ ms. BootsBelow ms (most + 1)) (sym h.turns.members) (boots_after old.members _ most h.before h.after h.turns.was below (does_boot by event bytes h.before h.after h.frames answered h.does))

more_below : (members : List (Option MemberState)) (most : ℕ) → BootsBelow members most → BootsBelow members (most + 1)
more_below members most below n m there = let b = below n m there in omega (arith, b)

arrival_boots : (old new : Stage) (by : By) (node bearer place : ℕ) (answered : Answer) (lost : Bool) (most : ℕ) (why : Option Answer) → unarrived old.members old.air node bearer place ≡ why
    → IsArrival old new by node bearer place answered lost → BootsBelow old.members most → BootsBelow new.members (most + 1)
arrival_boots old new by node bearer place answered lost most (Some why) e h below =
    subst (λ (s : Stage). BootsBelow s.members (most + 1)) (sym (h.none why e).1) (more_below old.members most below)
arrival_boots old new by node bearer place answered lost most None e h below =
    let arrives = h.arrives e in happens_boots old new by (Arrive node bearer place) arrives.0.frame answered lost most arrives.2 below

becomes_boots : (old new : Stage) (by : By) (event : WorldEvent) (answered : Answer) (lost : Bool) (most : ℕ) → Becomes old by event new answered lost → BootsBelow old.members most → BootsBelow new.members (most + 1)
becomes_boots old new by (Arrive node bearer place) answered lost most h below = arrival_boots old new by node bearer place answered lost most _ refl h below
becomes_boots old new by (Restart node) answered lost most h below = happens_boots old new by (Restart node) [] answered lost most h below
becomes_boots old new by (Call node call) answered lost most h below = happens_boots old new by (Call node call) [] answered lost most h below

-- what isn't counted leaves the nodes as they were
arrival_still : (old new : Stage) (by : By) (node bearer place : ℕ) (answered : Answer) (lost : Bool) (why : Option Answer) → unarrived old.members old.air node bearer place ≡ why → is_none why ≡ false
    → IsArrival old new by node bearer place answered lost → new.members ≡ old.members
arrival_still old new by node bearer place answered lost None e none h = absurd cc
arrival_still old new by node bearer place answered lost (Some why) e none h = ap (λ (s : Stage). s.members) (h.none why e).1

becomes_still : (old new : Stage) (by : By) (event : WorldEvent) (answered : Answer) (lost : Bool) → Becomes old by event new answered lost → counts_at old.members old.air event ≡ false → new.members ≡ old.members
becomes_still old new by (Arrive node bearer place) answered lost h none = arrival_still old new by node bearer place answered lost _ refl none h
becomes_still old new by (Restart node) answered lost h none = absurd cc
becomes_still old new by (Call node call) answered lost h none = absurd cc

pub steady_after : (r r' : ReplayState) (event : WorldEvent) (events stamps events' stamps' : ℕ) (counted : Bool) (answered : Answer)
    → Steps r r' stamps event answered → Counts (world_of r events stamps) event counted events' stamps' → IsFree r.members r.air events event
    → IsSteady r.members events stamps → IsSteady r'.members events' stamps'
steady_after r r' event events stamps events' stamps' counted answered step k free steady =
    let by = by_in r.members stamps event in
    let old = stage r.members r.air in
    let new = stage r'.members r'.air in
    steady_counts (world_of r events stamps) event counted events' stamps' r'.members k steady free
    (λ is n m there. let b = becomes_boots old new by event answered step.lost (events + 1) step.becomes steady.boots n m there in omega (arith, b))
    (λ is. becomes_still old new by event answered step.lost step.becomes (sym k.counted_is ∙ is))

-- a node that may be restarted has a next boot
pub next_boot : (members : List (Option MemberState)) (events stamps : ℕ) (event : WorldEvent) → IsSteady members events stamps → HasNextBoot members event
next_boot members events stamps (Restart node) steady = λ m there.
    let boot = steady.boots node m there in
    let few = steady.few in
    omega (arith, boot, few)
next_boot members events stamps (Call node call) steady = tt
next_boot members events stamps (Arrive node bearer place) steady = tt

pub steady_start : IsSteady [] 0 0
steady_start = record { calls = omega arith; few = omega arith; boots = λ n m there. absurd (none_at n m there) }
  where
    none_at : (n : ℕ) (m : MemberState) → slice_index_or [] n None ≡ Some m → ⊥
    none_at n m there = absurd cc

-- a node in its first boot came in
pub steady_joined : (old new : List (Option MemberState)) (n events stamps : ℕ) → JoinsAt old new n 1 → IsSteady old events stamps → IsSteady new events stamps
steady_joined old new n events stamps j steady = record {
  calls = steady.calls;
  few = steady.few;
  boots = λ k m there. elim (cases_eq k n) [
    | inl same ↦
        let here : j.newcomer ≡ m = some_is j.newcomer m (sym j.here ∙ (ap (λ i. slice_index_or new i None) (sym same) ∙ there)) in
        let boot : m.node.boot ≡ 1 = ap (λ (x : MemberState). x.node.boot) (sym here) ∙ j.fresh.node.boot_is in
        omega (arith, boot)
    | inr other ↦ steady.boots k m (sym (j.others k other) ∙ there)
  ];
}
