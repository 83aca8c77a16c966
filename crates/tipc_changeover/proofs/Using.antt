-- What users of the law need beside it: what a tunnel packet may hold and leave out, that it is never deferred, and
-- that an end that is reset has nothing left.
use Rattle.std.proofs.Common.{◌≡◌, ◌≢◌, ℕ, zero, suc, ◌+◌, ◌-◌, ◌<◌, ◌≤◌, Bool, true, false, Some, length, get_or, refl, sym, ap, ◌∙◌, subst, inl, inr, arith}
use Rattle.std.specs.List.{Contains}
use Rattle.std.proofs.lemmas.Bool.{cases_lt}
use Rattle.tipc_changeover.specs.Slots.{at, counted, Plain, LinkSlot, Tunnel}
use Rattle.tipc_changeover.specs.Links.{slots, Bearer, Held, Past, Reset, State, Up}
use Rattle.tipc_changeover.specs.Events.{session_told, Deferred, IsNext, Late, MayOpen, Next, Old, Opening, Passed}
use Rattle.tipc_changeover.specs.Parts.{HoldsPlain, HoldsTunnel}
use Rattle.tipc_changeover.specs.Sound.{Sound}
use Rattle.tipc_changeover.proofs.Receiving.{never_deferred}
use Rattle.tipc_changeover.proofs.Uplinks.{down_is_ended, ended_past, not_held, reset_down, reset_free}

-- ---- the packets that were taken

length-counted : (before count : ℕ) → length (counted before count) ≡ count
unfolding counted
length-counted before zero = refl
length-counted before (suc count) = ap suc (length-counted (before + 1) count)

get_or-counted : (before count k d : ℕ) → k < count → get_or (counted before count) k d ≡ before + k + 1
unfolding counted
get_or-counted before zero k d less = absurd (omega arith)
get_or-counted before (suc count) zero d less = omega arith
get_or-counted before (suc count) (suc k) d less = get_or-counted (before + 1) count k d (omega arith) ∙ (let same : before + 1 + k + 1 ≡ before + suc k + 1 = omega arith in same)

counted_has : (count i : ℕ) → 1 ≤ i → i ≤ count → Contains (counted 0 count) i
counted_has count i low high =
    let same : length (counted 0 count) ≡ count = length-counted 0 count in
    (i - 1, omega arith, get_or-counted 0 count (i - 1) i (omega arith) ∙ (let is : 0 + (i - 1) + 1 ≡ i = omega arith in is))

pub taken_is_delivered : (b : Bearer) (s : State) (e p i : ℕ) → Sound b s → at (s.near.line e) p ≡ Some (Plain i) → Past s.near_record e p → Contains s.delivered i
taken_is_delivered b s e p i h there past = subst (λ is. Contains is i) (sym h.taken) (counted_has h.count i (h.near.homes.within e p i there).0 (h.near.delivered.only e p i there past))

-- ---- an end that isn't held

pub ended_session_past : (b : Bearer) (s : State) (e p : ℕ) (z : LinkSlot) → Sound b s → s.near.state ≢ Held → e < s.near.session → at (s.near.line e) p ≡ Some z → Past s.near_record e p
ended_session_past b s e p z h free ended there = ended_past s.near s.far s.near_record e p z h.near.cover free ended there

pub reset_delivered : (b : Bearer) (s : State) (e p i : ℕ) → Sound b s → s.near.state ≡ Reset → at (s.near.line e) p ≡ Some (Plain i) → Contains s.delivered i
reset_delivered b s e p i h reset there =
    let down : s.near.state ≢ Up = (λ up. reset_down (sym reset ∙ up)) in
    taken_is_delivered b s e p i h there (ended_session_past b s e p (Plain i) h (not_held reset reset_free) (down_is_ended s.near s.near_record e p (Plain i) h.near.ends down there) there)

-- ---- what a tunnel packet holds

pub full_holds : (b : Bearer) (s : State) (p f q : ℕ) → Sound b s → at (slots s.near) p ≡ Some (Tunnel f q true) → 1 ≤ q → HoldsPlain s.far.line f q
full_holds b s p f q h there low = h.near.inner.now.full p f q there low

pub placeholder_holds : (b : Bearer) (s : State) (p f q : ℕ) → Sound b s → at (slots s.near) p ≡ Some (Tunnel f q false) → HoldsTunnel s.far.line f q s.near.session p
placeholder_holds b s p f q h there = (h.near.inner.now.placeholder p f q there).1

-- ---- a tunnel packet at the next place

opens_full : (s : State) (f q : ℕ) (full : Bool) → s.far_record.session ≤ f → q ≡ (session_told s.far_record f).taken + 1 → (full ≡ true → HoldsPlain s.far.line f q) → (o : Opening) × MayOpen s.far.line s.far_record f q full o × (o ≢ Deferred)
opens_full s f q true low next holds = (let w = holds refl in (Next w.index, (low, next, refl, w.there), (λ (e : Next w.index ≡ Deferred). (let wrong : ⊥ = cc in wrong))))
opens_full s f q false low next holds = (Passed, (low, next, refl), (λ (e : Passed ≡ Deferred). (let wrong : ⊥ = cc in wrong)))

pub opens : (b : Bearer) (s : State) (f q : ℕ) (full : Bool) → Sound b s → IsNext s (Tunnel f q full) → (o : Opening) × MayOpen s.far.line s.far_record f q full o × (o ≢ Deferred)
opens b s f q full h here = elim (cases_lt f s.far_record.session) [
  | inl late ↦ (Late, late, (λ (e : Late ≡ Deferred). (let wrong : ⊥ = cc in wrong)))
  | inr low ↦ elim (cases_lt (session_told s.far_record f).taken q) [
    | inl more ↦ (
        let most = never_deferred b s f q full h here low in
        opens_full s f q full low (omega arith) (λ is. (h.near.inner.lines s.near_record.session).full (s.near_record.taken + 1) f q (here ∙ ap (λ z. Some (Tunnel f q z)) is) (omega arith)))
    | inr old ↦ (Old, (low, old), (λ (e : Old ≡ Deferred). (let wrong : ⊥ = cc in wrong)))
  ]
]
