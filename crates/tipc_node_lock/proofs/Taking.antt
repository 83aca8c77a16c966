-- What a pass has when it received at a port.
use Rattle.std.specs.Prelude.{is_some, slice_get, slice_index_or, slice_set, MatchOption}
use Rattle.std.specs.List.{position}
use Rattle.std.proofs.Common.{◌≡◌, ◌==◌, ◌≤◌, ℕ, true, false, List, Option, Some, None, length, sym, subst, ◌∙◌, ap, eqb-true}
use Rattle.tipc_types.specs.declared.message_forms.Message.{Message}
use Rattle.tipc_node_lock.specs.Inboxes.{PortTakerState, having_taken}
use Rattle.tipc_node_lock.specs.Passes.{PassState, TakesAt, TakesFrom, has_taker}
use Rattle.tipc_node_lock.proofs.Going.{set_same}
use Rattle.tipc_node_lock.proofs.Lists.{found_any, found_passes}

-- what a taker told of what it took
abbrev pub TookSo : Option Message → PortTakerState → PortTakerState → Type 0
TookSo taken t t' = MatchOption taken ((t' ≡ t) × (t.taker.offers ≤ length t.taker.taken)) (λ m. t' ≡ having_taken t m)

-- it is the same port's
pub took_port : (taken : Option Message) (t t' : PortTakerState) → TookSo taken t t' → t'.port ≡ t.port
took_port None t t' so = ap (λ (u : PortTakerState). u.port) so.0
took_port (Some m) t t' so = ap (λ (u : PortTakerState). u.port) so

-- the taker that is found for a port, as it was read
pub taker_at : (takers : List PortTakerState) (port index : ℕ) (t : PortTakerState) → position (λ u. u.port == port) takers ≡ Some index
    → t ≡ slice_index_or takers index t → (slice_get takers index ≡ Some t) × (t.port ≡ port)
taker_at takers port index t found is =
    let passes = found_passes (λ (u : PortTakerState). u.port == port) takers index t found in (
      passes.0 ∙ ap (λ (u : PortTakerState). Some u) (sym is),
      ap (λ (u : PortTakerState). u.port) is ∙ eqb-true (slice_index_or takers index t).port port passes.1,
    )

-- the pass holds that taker, which gave this
pub took_from : (p : PassState) (port index : ℕ) (t t' : PortTakerState) (taken : Option Message) → position (λ u. u.port == port) p.takers ≡ Some index
    → t ≡ slice_index_or p.takers index t → TookSo taken t t'
    → (has_taker p port ≡ true) × TakesFrom p port taken (record p { takers = slice_set p.takers index t' })
took_from p port index t t' taken found is so =
    let at = taker_at p.takers port index t found is in
    (sym (found_any (λ (u : PortTakerState). u.port == port) p.takers) ∙ ap is_some found, (index, t, at.0, at.1, by taken so at.0))
  where
    by : (taken : Option Message) → TookSo taken t t' → slice_get p.takers index ≡ Some t → TakesAt p index t taken (record p { takers = slice_set p.takers index t' })
    by None so there = (ap (λ ts. record p { takers = ts }) (ap (slice_set p.takers index) so.0 ∙ set_same p.takers index t there), so.1)
    by (Some m) so there = ap (λ u. record p { takers = slice_set p.takers index u }) so

-- or it holds none
pub holds_none : (p : PassState) (port : ℕ) → position (λ u. u.port == port) p.takers ≡ None → has_taker p port ≡ false
holds_none p port none = sym (found_any (λ (u : PortTakerState). u.port == port) p.takers) ∙ ap is_some none

-- the same of a pass that is that one
pub took_from_in : {p q : PassState} → p ≡ q → (port index : ℕ) (t t' : PortTakerState) (taken : Option Message) → position (λ u. u.port == port) p.takers ≡ Some index
    → t ≡ slice_index_or p.takers index t → TookSo taken t t'
    → (has_taker q port ≡ true) × TakesFrom q port taken (record p { takers = slice_set p.takers index t' })
took_from_in {p} {q} same port index t t' taken found is so =
    subst (λ (r : PassState). (has_taker r port ≡ true) × TakesFrom r port taken (record p { takers = slice_set p.takers index t' })) same
    (took_from p port index t t' taken found is so)

pub holds_none_in : {p q : PassState} → p ≡ q → (port : ℕ) → position (λ u. u.port == port) p.takers ≡ None → has_taker q port ≡ false
holds_none_in {p} {q} same port none = subst (λ (r : PassState). has_taker r port ≡ false) same (holds_none p port none)
