-- Courses, taken apart at a number, and what each of their numbers keeps.
use Rattle.std.proofs.Common.{◌≡◌, ◌≤◌, ◌<◌, ◌+◌, ℕ, Bool, false, Option, Some, None, Ok, if◌then◌else◌, inl, inr, sym, ap, subst, ◌∙◌, arith}
use Rattle.std.proofs.lemmas.Bool.{cases_lt, or_parts}
use Rattle.tipc_replay.specs.declared.events.WorldEvent.{WorldEvent}
use Rattle.tipc_world.specs.Courses.{Asks, Goes, Maybe, Takes, begin, go_on}
use Rattle.tipc_world.specs.RoundParts.{PartsAt}
use Rattle.tipc_world.specs.States.{WorldState}

-- ---- no frame was lost before, where none was afterwards

maybe_whole : (asked : Option WorldEvent) (before : WorldState) (made : Bool) (after : WorldState) → Maybe asked before (Ok made) after → after.lost ≡ false → before.lost ≡ false
maybe_whole None before made after h whole = ap (λ (w : WorldState). w.lost) (sym h.1) ∙ whole
maybe_whole (Some event) before made after h whole =
    let step = h.1.1.answered.step in
    (or_parts before.lost step.lost (sym step.lost_is ∙ whole)).0

pub takes_whole : (asks : Asks) (number : ℕ) (before : WorldState) (made : Bool) (after : WorldState) → Takes asks number before (Ok made) after → after.lost ≡ false → before.lost ≡ false
takes_whole asks number before made after h whole = maybe_whole (asks before number) before made after h whole

pub goes_whole : (asks : Asks) (first : ℕ) (start : WorldState) (end count : ℕ) (now : WorldState) → Goes asks first start end count now → now.lost ≡ false → start.lost ≡ false
goes_whole asks first start end count now begin whole = whole
goes_whole asks first start _ _ _ (go_on next count before made now goes taken) whole = goes_whole asks first start next count before goes (takes_whole asks next before made now taken whole)

-- ---- numbers

pub goes_rises : (asks : Asks) (first : ℕ) (start : WorldState) (end count : ℕ) (now : WorldState) → Goes asks first start end count now → first ≤ end
goes_rises asks first start end count now begin = omega arith
goes_rises asks first start _ _ _ (go_on next count before made now goes taken) = omega (arith, goes_rises asks first start next count before goes)

-- What each number of a course keeps, the course keeps; it may speak of the number that comes next.
pub goes_keep : (asks : Asks) (K : ℕ → WorldState → Type 0) (first : ℕ) (start : WorldState) (end count : ℕ) (now : WorldState)
    → ((number : ℕ) (before : WorldState) (made : Bool) (after : WorldState) → first ≤ number → number < end → Takes asks number before (Ok made) after → after.lost ≡ false → K number before → K (number + 1) after)
    → Goes asks first start end count now → now.lost ≡ false → K first start → K end now
goes_keep asks K first start end count now each begin whole h = h
goes_keep asks K first start _ _ _ each (go_on next count before made now goes taken) whole h =
    let rises = goes_rises asks first start next count before goes in
    let so_far = goes_keep asks K first start next count before (λ number b m a from below. each number b m a from (omega (arith, below))) goes (takes_whole asks next before made now taken whole) h in
    each next before made now rises (omega arith) taken whole so_far

-- A course from the first number to the end parts at any number between.
pub goes_part : (asks : Asks) (first number : ℕ) (start : WorldState) (end count : ℕ) (now : WorldState) → first ≤ number → number < end → Goes asks first start end count now → PartsAt asks first number end start now
goes_part asks first number start end count now from below begin = absurd (omega (arith, from, below))
goes_part asks first number start _ _ _ from below (go_on next count before made now goes taken) = elim (cases_lt number next) [
  | inl less ↦
      let p = goes_part asks first number start next count before from less goes in record {
        earlier = p.earlier;
        before = p.before;
        front = p.front;
        made = p.made;
        after = p.after;
        taken = p.taken;
        later = if made then p.later + 1 else p.later;
        rest = go_on next p.later before made now p.rest taken;
      }
  | inr last ↦
      let here : next ≡ number = omega (arith, below, last) in
      subst (λ k. PartsAt asks first k (next + 1) start now) here (record { earlier = count; before = before; front = goes; made = made; after = now; taken = taken; later = 0; rest = begin })
]
