use Rattle.std.proofs.Common.{◌≡◌, ◌<◌, ℕ, length, List, Some, None, get_or, refl, sym, ap, subst, ◌∙◌, true≢false, arith}
use Rattle.std.specs.Prelude.{position, remove}
use Rattle.std.proofs.lemmas.List.Edits.{length-remove}
use Rattle.tipc_topology.specs.Watchers.{Watcher}
use Rattle.tipc_topology.specs.Changing.{has_number, of_number, with_kept, without_number, Watchers}
use Rattle.tipc_topology.proofs.Kept.{found_one, found_place, no_place, removed_kept, without_at, kept_as, some_not_none}
use Rattle.tipc_topology.proofs.topology.Topology.cancel.Goals as goal

-- what the search for the place gave
pub returns-in_default-clause-unknown : goal.returns-in_default-clause-unknown
returns-in_default-clause-unknown c =
    let none = ap (λ (ws : List Watcher). position (has_number c.args.number) ws) (sym c.as_slice.ensures.value) ∙ sym c.place_of.ensures ∙ c.in_default.is in (
      (λ _. subst (λ (t : Watchers). of_number t c.args.number ≡ None) c.self.view_is (no_place c.args.number c.self.inside.kept.items none)),
      (λ _. refl),
    )

pub invariant_of-self : goal.invariant_of-self
invariant_of-self c =
    let place = ap (λ (ws : List Watcher). position (has_number c.args.number) ws) (sym c.as_slice.ensures.value) ∙ sym c.place_of.ensures ∙ c.in-Some.is in
    let w = c.self.inside in
    let here = found_place c.args.number w.kept.items c.in-Some.at place in
    let count = ap (λ (ws : List Watcher). length ws) c.remove.ensures.items in
    let fewer = length-remove w.kept.items c.in-Some.at here.1 in
    let few = c.self.invariant.1 in (
      rw c.remove.ensures.items (removed_kept w.made w.room c.in-Some.at w.kept.items here.1 c.self.invariant.0),
      omega (arith, count, fewer, few),
    )

pub returns-clause-ok : goal.returns-clause-ok
returns-clause-ok c =
    let place = ap (λ (ws : List Watcher). position (has_number c.args.number) ws) (sym c.as_slice.ensures.value) ∙ sym c.place_of.ensures ∙ c.in-Some.is in
    let w = c.self.inside in
    let here = found_place c.args.number w.kept.items c.in-Some.at place in
    let left = c.remove.ensures.items ∙ ap (λ (i : ℕ). remove w.kept.items i) here.0
    ∙ without_at c.args.number w.kept.items (subst (λ (i : ℕ). i < length w.kept.items) here.0 here.1) in
    subst (λ (t : Watchers). kept_as w.made w.room c.remove.new.self.items ≡ with_kept t (without_number c.args.number t.kept)) c.self.view_is
    (ap (λ (ws : List Watcher). kept_as w.made w.room ws) left)

pub returns-clause-unknown : goal.returns-clause-unknown
returns-clause-unknown c =
    let place = ap (λ (ws : List Watcher). position (has_number c.args.number) ws) (sym c.as_slice.ensures.value) ∙ sym c.place_of.ensures ∙ c.in-Some.is in
    let found = found_one c.args.number c.self.inside.kept.items c.in-Some.at c.remove.result place in (
      (λ e. absurd (true≢false (sym e))),
      (λ none. let there = subst (λ (t : Watchers). of_number t c.args.number ≡ Some (get_or c.self.inside.kept.items c.in-Some.at c.remove.result)) c.self.view_is found in absurd (some_not_none _ (sym there ∙ none))),
    )
