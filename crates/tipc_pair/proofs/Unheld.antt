-- Where neither end is held, none is released.
use Rattle.std.proofs.Common.{◌≡◌, ◌≤◌, ◌∙◌, true, false, if◌then◌else◌, Option, Some, None, option_map, [], List, refl, ap}
use Rattle.tipc_outside.specs.declared.outgoing.Outgoing.{Outgoing}
use Rattle.tipc_link_fsm.specs.Table.{release}
use Rattle.tipc_link.specs.Links.{LinkEnd}
use Rattle.tipc_pair.specs.Changeovers.{at_far, is_clear, let_go, let_go_frames, release_near, released}
use Rattle.tipc_pair.specs.Courses.{Course, going_on, rests}
use Rattle.tipc_pair.specs.Facing.{PairEnds, is_held_at, turned}
use Rattle.tipc_pair.proofs.Facings.{turned_back}

let_go_same : (end : Option LinkEnd) → is_held_at end ≡ false → (option_map let_go end ≡ end) × (let_go_frames end ≡ [])
unfolding release
let_go_same None none = (refl, refl)
let_go_same (Some e) none = (rw none refl, rw none refl)

near_rests : (x : PairEnds) → is_held_at x.near ≡ false → release_near x ≡ rests x
near_rests x none =
    let same = let_go_same x.near none in
    elim (is_clear x.far) as (λ clear. (if clear then record (rests (record x { near = option_map let_go x.near })) { states = let_go_frames x.near } else rests x) ≡ rests x) [
      | true ↦ ap (λ (end : Option LinkEnd). record (rests (record x { near = end })) { states = let_go_frames x.near }) same.0
          ∙ ap (λ (frames : List Outgoing). record (rests x) { states = frames }) same.1
      | false ↦ refl
    ]

pub released_rests : (x : PairEnds) → x.bearer ≤ 1 → is_held_at x.near ≡ false → is_held_at x.far ≡ false → released x ≡ rests x
unfolding released going_on
released_rests x two near far =
    ap (λ (first : Course). going_on first (at_far release_near)) (near_rests x near)
    ∙ (ap (λ (c : Course). record c { pair = turned c.pair }) (near_rests (turned x) far) ∙ ap rests (turned_back x two))
