use Rattle.std.proofs.Common.{◌≡◌, ℕ, List, Option, Some, None, get_or, set, refl, sym, ap, subst, ◌∙◌, true≢false}
use Rattle.std.specs.Prelude.{find, position, slice_get}
use Rattle.tipc_topology.specs.Watchers.{without_first, Watcher}
use Rattle.tipc_topology.specs.Changing.{events_left, has_number, of_number, with_event_taken, with_kept, Watchers}
use Rattle.tipc_topology.proofs.Kept.{found_one, found_place, no_place, taken_at, kept_as, some_not_none}
use Rattle.tipc_topology.proofs.topology.Topology.next_event.Goals as goal

-- what the search for the place gave
pub returns-in_default-clause-unknown : goal.returns-in_default-clause-unknown
returns-in_default-clause-unknown c =
    let none = ap (λ (ws : List Watcher). position (has_number c.args.number) ws) (sym c.as_slice.ensures.value) ∙ sym c.place_of.ensures ∙ c.in_default.is in (
      (λ _. subst (λ (t : Watchers). of_number t c.args.number ≡ None) c.self.view_is (no_place c.args.number c.self.inside.kept.items none)),
      (λ _. refl),
    )

pub returns-clause-first : goal.returns-clause-first
returns-clause-first c =
    let place = ap (λ (ws : List Watcher). position (has_number c.args.number) ws) (sym c.as_slice.ensures.value) ∙ sym c.place_of.ensures ∙ c.in-Some.is in
    let found = found_one c.args.number c.self.inside.kept.items c.in-Some.at c.index_mut.result.now place in
    let read : c.take.result ≡ slice_get (events_left (find (has_number c.args.number) c.self.inside.kept.items)) 0 =
    c.take.ensures.first ∙ ap (λ (w : Watcher). slice_get w.events 0) c.index_mut.ensures.value ∙ sym (ap (λ (o : Option Watcher). slice_get (events_left o) 0) found) in
    subst (λ (t : Watchers). c.take.result ≡ slice_get (events_left (of_number t c.args.number)) 0) c.self.view_is read

pub returns-clause-ok : goal.returns-clause-ok
returns-clause-ok c =
    let place = ap (λ (ws : List Watcher). position (has_number c.args.number) ws) (sym c.as_slice.ensures.value) ∙ sym c.place_of.ensures ∙ c.in-Some.is in
    let w = c.self.inside in
    let at = c.in-Some.at in
    let here = found_place c.args.number w.kept.items at place in
    let taken : set w.kept.items at c.take.new.self ≡ with_event_taken c.args.number w.kept.items =
    ap (λ (v : Watcher). set w.kept.items at v) (c.take.ensures.rest ∙ ap (λ (v : Watcher). without_first v) c.index_mut.ensures.value)
    ∙ ap (λ (i : ℕ). set w.kept.items i (without_first (get_or w.kept.items i c.index_mut.result.now))) here.0
    ∙ taken_at c.args.number w.kept.items c.index_mut.result.now in
    subst (λ (t : Watchers). kept_as w.made w.room (set w.kept.items at c.take.new.self) ≡ with_kept t (with_event_taken c.args.number t.kept)) c.self.view_is
    (ap (λ (ws : List Watcher). kept_as w.made w.room ws) taken)

pub returns-clause-unknown : goal.returns-clause-unknown
returns-clause-unknown c =
    let place = ap (λ (ws : List Watcher). position (has_number c.args.number) ws) (sym c.as_slice.ensures.value) ∙ sym c.place_of.ensures ∙ c.in-Some.is in
    let found = found_one c.args.number c.self.inside.kept.items c.in-Some.at c.index_mut.result.now place in (
      (λ e. absurd (true≢false (sym e))),
      (λ none. let there = subst (λ (t : Watchers). of_number t c.args.number ≡ Some (get_or c.self.inside.kept.items c.in-Some.at c.index_mut.result.now)) c.self.view_is found in absurd (some_not_none _ (sym there ∙ none))),
    )
