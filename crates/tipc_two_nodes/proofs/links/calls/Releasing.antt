-- At the end of a call the near end of a pair may be held no longer.
use Rattle.std.proofs.Common.{◌≡◌, true, false, if◌then◌else◌, Option, Some, None, option_map, refl, sym, ap, ◌∙◌, subst, inl, inr}
use Rattle.std.proofs.lemmas.Bool.{cases_Bool}
use Rattle.tipc_types.specs.LinkStates.{is_up}
use Rattle.tipc_types.specs.declared.link_words.LinkState.{LinkState}
use Rattle.tipc_link_fsm.specs.Table.{is_held, release}
use Rattle.tipc_link_fsm.proofs.Moves.{is_up_held}
use Rattle.tipc_link.specs.Links.{LinkEnd}
use Rattle.tipc_pair.specs.Changeovers.{is_clear, let_go, let_go_frames, release_near}
use Rattle.tipc_pair.specs.Courses.{rests}
use Rattle.tipc_pair.specs.Facing.{PairEnds}
use Rattle.tipc_changeover.specs.Links.{Bearer, Held, State}
use Rattle.tipc_two_nodes.specs.links.Traffic.{Traffic}
use Rattle.tipc_two_nodes.specs.links.Sending.{StandFor, ends_seen, state_as}
use Rattle.tipc_two_nodes.specs.links.Following.{Become, stays}
use Rattle.tipc_two_nodes.specs.links.Turning.{HasFarUp}
use Rattle.tipc_two_nodes.proofs.links.sender.LinkSteps.{lets_go}

pub let_go_not : (e : LinkEnd) → is_held e.fsm.state ≡ false → let_go e ≡ e
unfolding release
let_go_not e other = rw other refl

pub held_seen : (s : LinkState) → is_held s ≡ true → is_up s ≡ false → state_as s ≡ Held
held_seen s held down = rw (down, held) refl

same_ends : (b : Bearer) (x y : PairEnds) (t : Traffic) (z : State) → y ≡ x → StandFor b (ends_seen x) t z → Become b (ends_seen y) t z
same_ends b x y t z same stand = record { state = z; follows = stays; stand = subst (λ w. StandFor b (ends_seen w) t z) (sym same) stand }

clear_pair : (x : PairEnds) → is_clear x.far ≡ true → (release_near x).pair ≡ record x { near = option_map let_go x.near }
clear_pair x clear = ap (λ b. (if b then record (rests (record x { near = option_map let_go x.near })) { states = let_go_frames x.near } else rests x).pair) clear

clear_so : (b : Bearer) (x : PairEnds) (o : Option LinkEnd) (t : Traffic) (z : State) → x.near ≡ o → is_clear x.far ≡ true → HasFarUp x → StandFor b (ends_seen x) t z → Become b (ends_seen (release_near x).pair) t z
clear_so b x None t z is clear carried stand = same_ends b x (release_near x).pair t z (clear_pair x clear ∙ (ap (λ q. record x { near = option_map let_go q }) is ∙ ap (λ q. record x { near = q }) (sym is))) stand
clear_so b x (Some e) t z is clear carried stand = elim (cases_Bool (is_held e.fsm.state)) [
  | inl held ↦ (
      let f = carried e is held in
      lets_go b x e f.0 f.1 f.1.bearer t z is (held_seen e.fsm.state held (is_up_held e.fsm.state held)) held f.2 clear stand)
  | inr other ↦ same_ends b x (release_near x).pair t z (clear_pair x clear ∙ (ap (λ q. record x { near = option_map let_go q }) is ∙ (ap (λ d. record x { near = Some d }) (let_go_not e other) ∙ ap (λ q. record x { near = q }) (sym is)))) stand
]

pub releases_on : (b : Bearer) (x : PairEnds) (t : Traffic) (z : State) → HasFarUp x → StandFor b (ends_seen x) t z → Become b (ends_seen (release_near x).pair) t z
releases_on b x t z carried stand = elim (cases_Bool (is_clear x.far)) [
  | inl clear ↦ clear_so b x x.near t z refl clear carried stand
  | inr other ↦ same_ends b x (release_near x).pair t z (ap (λ b. (if b then record (rests (record x { near = option_map let_go x.near })) { states = let_go_frames x.near } else rests x).pair) other) stand
]
