-- What changeover leaves of the receiving records of a pair: all of them, whatever a link's change asks for.
use Rattle.std.proofs.Common.{◌≡◌, ◌==◌, ℕ, if◌then◌else◌, Option, Some, None, refl, sym, ap, ◌∙◌, inl, inr, option_map, true, false}
use Rattle.std.proofs.lemmas.Bool.{cases_Bool}
use Rattle.tipc_link_fsm.specs.declared.changes.Change.{Change}
use Rattle.tipc_link_fsm.specs.declared.changes.Change.TheVariants.{Down, Up}
use Rattle.tipc_link.specs.Links.{LinkEnd, record_in}
use Rattle.tipc_link.specs.Sessions.{SessionEnd, flushed}
use Rattle.tipc_pair.specs.Changeovers.{contact_begins, following, gone_up, is_clear, let_go, let_go_frames, release_near, released, switch, switch_from, switching}
use Rattle.tipc_pair.specs.Courses.{going_on, rests}
use Rattle.tipc_pair.specs.Facing.{PairEnds, is_up_at, turned as turned_pair}
use Rattle.tipc_two_nodes.specs.links.Receiving.{Records, record_at, records_of}
use Rattle.tipc_two_nodes.proofs.links.receiver.Unwrapping.{down_far, down_record}
use Rattle.tipc_two_nodes.proofs.deeds.Placing.{given_in as waiting_record}

pub both_are : (y y' : PairEnds) → record_at y'.near ≡ record_at y.near → record_at y'.far ≡ record_at y.far → records_of y' ≡ records_of y
both_are y y' near far = ap (λ o. record { near = o; far = record_at y'.far }) near ∙ ap (λ o. record { near = record_at y.near; far = o }) far

-- ---- a link that goes up

switching_near : (x : PairEnds) (near far : LinkEnd) (o old : Option SessionEnd) → x.near ≡ Some near → near.session ≡ o → record_at (switching x near far o old).pair.near ≡ record_at x.near
unfolding flushed
switching_near x near far (Some s) (Some old) is session = ap (λ u. record_in u near.early) (sym session) ∙ ap record_at (sym is)
switching_near x near far (Some s) None is session = refl
switching_near x near far None old is session = refl

switching_far : (x : PairEnds) (near far : LinkEnd) (o old : Option SessionEnd) → x.far ≡ Some far → record_at (switching x near far o old).pair.far ≡ record_at x.far
switching_far x near far (Some s) (Some old) is = waiting_record far.session far.early ∙ ap record_at (sym is)
switching_far x near far (Some s) None is = refl
switching_far x near far None old is = refl

switched_near : (x : PairEnds) (near far : Option LinkEnd) → x.near ≡ near → record_at (switch_from x near far).pair.near ≡ record_at x.near
switched_near x (Some near) (Some far) is = switching_near x near far near.session far.session is refl
switched_near x (Some near) None is = refl
switched_near x None far is = refl

switched_far : (x : PairEnds) (near far : Option LinkEnd) → x.far ≡ far → record_at (switch_from x near far).pair.far ≡ record_at x.far
switched_far x (Some near) (Some far) is = switching_far x near far near.session far.session is
switched_far x (Some near) None is = refl
switched_far x None far is = refl

second_up : (x : PairEnds) → records_of (if x.bearer == 0 then switch x else rests x).pair ≡ records_of x
second_up x = elim (x.bearer == 0) as (λ b. records_of (if b then switch x else rests x).pair ≡ records_of x) [
  | true ↦ both_are x (switch x).pair (switched_near x x.near x.far refl) (switched_far x x.near x.far refl)
  | false ↦ refl
]

up_records : (x : PairEnds) → records_of (gone_up x).pair ≡ records_of x
up_records x = elim (is_up_at x.far) as (λ b. records_of (if b then (if x.bearer == 0 then switch x else rests x) else contact_begins x).pair ≡ records_of x) [
  | true ↦ second_up x
  | false ↦ refl
]

pub following_records : (x : PairEnds) (change : Change) (epoch : ℕ) → records_of (following x change epoch).pair ≡ records_of x
following_records x Up epoch = up_records x
following_records x (Down cause) epoch = both_are x (following x (Down cause) epoch).pair (down_record x) (down_far x)
following_records x other epoch = refl

-- ---- an end that is held no longer

let_go_record : (o : Option LinkEnd) → record_at (option_map let_go o) ≡ record_at o
let_go_record None = refl
let_go_record (Some e) = refl

release_records : (x : PairEnds) → records_of (release_near x).pair ≡ records_of x
release_records x = elim (cases_Bool (is_clear x.far)) [
  | inl clear ↦ ap (λ b. records_of (if b then record (rests (record x { near = option_map let_go x.near })) { states = let_go_frames x.near } else rests x).pair) clear ∙ ap (λ o. record { near = o; far = record_at x.far }) (let_go_record x.near)
  | inr other ↦ ap (λ b. records_of (if b then record (rests (record x { near = option_map let_go x.near })) { states = let_go_frames x.near } else rests x).pair) other
]

pub turned_records : (y y' : PairEnds) → records_of y' ≡ records_of (turned_pair y) → records_of (turned_pair y') ≡ records_of y
turned_records y y' same = ap (λ (r : Records). record { near = r.far; far = r.near }) same

pub released_records : (x : PairEnds) → records_of (released x).pair ≡ records_of x
unfolding released going_on
released_records x = turned_records (release_near x).pair (release_near (turned_pair (release_near x).pair)).pair (release_records (turned_pair (release_near x).pair)) ∙ release_records x
