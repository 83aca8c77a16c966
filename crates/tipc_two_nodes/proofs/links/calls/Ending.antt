-- The end of a call of a pair: either end may be held no longer, whatever came before.
use Rattle.std.proofs.Common.{◌≡◌, ◌||◌, ℕ, true, false, if◌then◌else◌, Option, Some, None, option_map, refl, sym, ap, ◌∙◌, inl, inr}
use Rattle.std.proofs.lemmas.Bool.{cases_Bool}
use Rattle.tipc_types.specs.LinkStates.{is_up}
use Rattle.tipc_types.specs.declared.link_words.LinkState.{LinkState}
use Rattle.tipc_link_fsm.specs.Table.{is_held}
use Rattle.tipc_link_fsm.proofs.Moves.{is_up_held}
use Rattle.tipc_link.specs.Links.{LinkEnd}
use Rattle.tipc_pair.specs.Changeovers.{is_clear, let_go, let_go_frames, release_near, released}
use Rattle.tipc_pair.specs.Courses.{going_on, rests}
use Rattle.tipc_pair.specs.Facing.{PairEnds, in_contact, is_up_at, turned as turned_pair}
use Rattle.tipc_pair.proofs.HeldLaws.{HeldUp, or_turns, let_go_up}
use Rattle.tipc_changeover.specs.Links.{other, Bearer, Held, Reset, State, Up}
use Rattle.tipc_two_nodes.specs.links.Traffic.{Traffic}
use Rattle.tipc_two_nodes.specs.links.Sending.{end_seen, ends_seen, state_as}
use Rattle.tipc_two_nodes.specs.links.Acting.{Acted, Acts, IsOver, acts, ends, had, window_at}
use Rattle.tipc_two_nodes.proofs.links.calls.Acted.{Still, acted_first, acted_on, still_same, still_then}
use Rattle.tipc_two_nodes.proofs.links.calls.Freeing.{AreUp, are_carried, released_follow}
use Rattle.tipc_two_nodes.proofs.links.sender.LinkSteps.{released_state}
use Rattle.tipc_two_nodes.proofs.links.calls.Releasing.{held_seen, let_go_not}

-- ---- an end that may be held no longer

let_go_still : (contact : ℕ) (o : Option LinkEnd) → Still (end_seen contact o) (end_seen contact (option_map let_go o))
let_go_still contact None = still_same (end_seen contact None) (end_seen contact None) refl
let_go_still contact (Some e) = elim (cases_Bool (is_held e.fsm.state)) [
  | inl held ↦ (
      let now = released_state e held in
      let was = held_seen e.fsm.state held (is_up_held e.fsm.state held) in
      record { epoch = now.0; window = refl; had_is = λ before count. ap (λ s. had s before count) now.1 ∙ sym (ap (λ s. had s before count) was) })
  | inr other ↦ still_same (end_seen contact (Some e)) (end_seen contact (Some (let_go e))) (ap (λ d. end_seen contact (Some d)) (let_go_not e other))
]

-- ---- both ends

-- whether an end is released or not
by_clear : (x : PairEnds) (P : PairEnds → Type 0) → P (record x { near = option_map let_go x.near }) → P x → P (release_near x).pair
by_clear x P one other = elim (is_clear x.far) as (λ b. P (if b then record (rests (record x { near = option_map let_go x.near })) { states = let_go_frames x.near } else rests x).pair) [ true ↦ one | false ↦ other ]

near_still : (x : PairEnds) → Still (ends_seen x).near (ends_seen (release_near x).pair).near
near_still x = by_clear x (λ y. Still (ends_seen x).near (ends_seen y).near) (let_go_still x.contact x.near) (still_same (ends_seen x).near (ends_seen x).near refl)

far_same : (x : PairEnds) → (ends_seen (release_near x).pair).far ≡ (ends_seen x).far
far_same x = by_clear x (λ y. (ends_seen y).far ≡ (ends_seen x).far) refl refl

pub record AreStill (x y : PairEnds) : Type 0 where
  pub near : Still (ends_seen x).near (ends_seen y).near
  pub far : Still (ends_seen x).far (ends_seen y).far

released_still : (x : PairEnds) → AreStill x (released x).pair
unfolding released going_on
released_still x =
    let one = (release_near x).pair in
    let two = (release_near (turned_pair one)).pair in
    record {
      near = still_then (ends_seen x).near (ends_seen one).near (ends_seen two).far (near_still x) (still_same (ends_seen one).near (ends_seen two).far (far_same (turned_pair one)));
      far = still_then (ends_seen x).far (ends_seen one).far (ends_seen two).near (still_same (ends_seen x).far (ends_seen one).far (far_same x)) (near_still (turned_pair one));
    }

-- ---- a contact that is over stays so

-- a pair keeps its contact number and its send windows, and no contact begins
pub record Rests (x y : PairEnds) : Type 0 where
  pub contact : y.contact ≡ x.contact
  pub out : in_contact x ≡ false → in_contact y ≡ false
  pub near : window_at y.near ≡ window_at x.near
  pub far : window_at y.far ≡ window_at x.far

pub rests_same : (x : PairEnds) → Rests x x
rests_same x = record { contact = refl; out = λ none. none; near = refl; far = refl }

pub rests_then : (x y z : PairEnds) → Rests x y → Rests y z → Rests x z
rests_then x y z h k = record { contact = k.contact ∙ h.contact; out = λ none. k.out (h.out none); near = k.near ∙ h.near; far = k.far ∙ h.far }

pub rests_back : (x y : PairEnds) → Rests (turned_pair x) y → Rests x (turned_pair y)
rests_back x y h = record { contact = h.contact; out = λ none. or_turns (is_up_at y.far) (is_up_at y.near) ∙ h.out (or_turns (is_up_at x.far) (is_up_at x.near) ∙ none); near = h.far; far = h.near }

pub over_then : (w x y : PairEnds) → IsOver w x → Rests x y → IsOver w y
over_then w x y h k = record { was = h.was; out = k.out h.out; next = k.contact ∙ h.next; near = k.near ∙ h.near; far = k.far ∙ h.far }

pub reset_down : (s : LinkState) → state_as s ≡ Reset → is_up s ≡ false
reset_down s so = elim (cases_Bool (is_up s)) [
  | inl up ↦ absurd (let now : state_as s ≡ Up = ap (λ b. if b then Up else (if is_held s then Held else Reset)) up in let wrong : Up ≡ Reset = sym now ∙ so in let no : ⊥ = cc in no)
  | inr down ↦ down
]

let_go_window : (o : Option LinkEnd) → window_at (option_map let_go o) ≡ window_at o
let_go_window None = refl
let_go_window (Some e) = refl

release_rests : (x : PairEnds) → Rests x (release_near x).pair
release_rests x = by_clear x (Rests x) (record { contact = refl; out = λ none. ap (λ b. b || is_up_at x.far) (let_go_up x.near) ∙ none; near = let_go_window x.near; far = refl }) (rests_same x)

pub released_rests : (x : PairEnds) → Rests x (released x).pair
unfolding released going_on
released_rests x =
    let one = (release_near x).pair in
    let two = (release_near (turned_pair one)).pair in
    rests_then x one (turned_pair two) (release_rests x) (rests_back one two (release_rests (turned_pair one)))

-- ---- what came before

-- What a part of a call made of a pair: it went on so that an end may be released then, or the contact is over.
pub record Went (b : Bearer) (x y : PairEnds) (t : Traffic) (z : State) : Type 0 where
  pub contact : y.contact ≡ x.contact
  pub acted : Acted b (ends_seen x) (ends_seen y) t z
  pub up : AreUp y

pub data Goes (b : Bearer) (x y : PairEnds) (t : Traffic) (z : State) : Type 0 where
  goes : Went b x y t z → Goes b x y t z
  stops : (w : PairEnds) → w.contact ≡ x.contact → Acted b (ends_seen x) (ends_seen w) t z → IsOver w y → Goes b x y t z

-- and behind a part that left the ends as they were
pub goes_later : (b : Bearer) (x x' y : PairEnds) (t : Traffic) (z : State) → x'.contact ≡ x.contact → ends_seen x' ≡ ends_seen x → Goes b x' y t z → Goes b x y t z
goes_later b x x' y t z contact same (goes h) = goes (record { contact = h.contact ∙ contact; acted = acted_first b (ends_seen x) (ends_seen x') (ends_seen y) t z same h.acted; up = h.up })
goes_later b x x' y t z contact same (stops w now h over) = stops w (now ∙ contact) (acted_first b (ends_seen x) (ends_seen x') (ends_seen w) t z same h) over

pub released_acts : (b : Bearer) (x y : PairEnds) (t : Traffic) (z : State) → Goes b x y t z → HeldUp y → Acts b x (released y).pair t z
released_acts b x y t z (goes h) held =
    let still = released_still y in
    let after = (released y).pair in
    acts ((released_rests y).contact ∙ h.contact)
    (acted_on b (ends_seen x) (ends_seen y) (ends_seen after) t z h.acted still.near still.far (λ u s stand. released_follow b y u s (are_carried y h.up held) stand))
released_acts b x y t z (stops w same h over) held = ends w same h (over_then w y (released y).pair over (released_rests y))
