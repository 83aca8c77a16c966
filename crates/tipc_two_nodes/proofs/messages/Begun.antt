-- The message that is begun at a pair stays so in calls that take no link up, while the contact lasts.
use Rattle.std.proofs.Common.{◌≡◌, ◌==◌, ℕ, true, false, if◌then◌else◌, Option, Some, None, refl, sym, ◌∙◌, subst, inl, inr, arith}
use Rattle.std.proofs.lemmas.Bool.{cases_Bool}
use Rattle.tipc_types.specs.declared.link_words.BroadcastState.{BroadcastState}
use Rattle.tipc_link.specs.Links.{LinkEnd, cut_end}
use Rattle.tipc_link_fsm.specs.Table.{Outcome, on_cut, on_tick}
use Rattle.tipc_link_fsm.proofs.Moves.{is_going_up}
use Rattle.tipc_pair.specs.Changeovers.{released}
use Rattle.tipc_pair.specs.Courses.{Course, going_on}
use Rattle.tipc_pair.specs.Facing.{PairEnds, facing, in_contact, is_up_at, turned, with_near}
use Rattle.tipc_pair.specs.PairCalls.{at_bearer, cut_at, cut_near, stepped, tick_at, tick_near, ticked}
use Rattle.tipc_pair.proofs.CourseLaws.{then_pair}
use Rattle.tipc_pair.proofs.EndSteps.{cut_quiet}
use Rattle.tipc_pair.proofs.HeldLaws.{GoesQuietly, tick_quiet}
use Rattle.tipc_two_nodes.proofs.links.receiver.BegunKept.{KeepsBegun, begun_same, begun_then, following_begun, released_begun}
use Rattle.tipc_paired.specs.Paired.{ArePaired}
use Rattle.tipc_paired.specs.Views.{View}
use Rattle.tipc_two_nodes.proofs.deeds.Pairs.{apart_of}
use Rattle.tipc_two_nodes.specs.deeds.PairDeeds.{IsOfPair}
use Rattle.tipc_two_nodes.specs.Carriages.{IsPresent}
use Rattle.tipc_two_nodes.proofs.calls.PairViews.{in_contact_present, or_false}
use Rattle.tipc_two_nodes.proofs.contacts.Stale.{apart_absent}

pub stepped_begun : (x : PairEnds) (e : LinkEnd) (o : Outcome) (epoch : ℕ) (shown : BroadcastState) → is_going_up o.change ≡ false → KeepsBegun x (stepped x e o epoch shown).pair
unfolding going_on
stepped_begun x e o epoch shown quiet = begun_then x (with_near x _) _ (begun_same x _ refl refl) (following_begun (with_near x _) o.change epoch quiet)

-- ---- the pair is seen from another link

pub facing_begun : (b : ℕ) (x : PairEnds) → KeepsBegun x (facing b x)
unfolding facing
facing_begun b x = elim (x.bearer == b) as (λ t. KeepsBegun x (if t then x else turned x)) [ true ↦ begun_same x x refl refl | false ↦ begun_same x (turned x) refl refl ]

pub at_begun : (b : ℕ) (x : PairEnds) (call : PairEnds → Course) → KeepsBegun (facing b x) (call (facing b x)).pair → KeepsBegun x (at_bearer b x call).pair
at_begun b x call h = begun_then x (facing b x) _ (facing_begun b x) (begun_then (facing b x) (call (facing b x)).pair _ h (facing_begun x.bearer (call (facing b x)).pair))

-- ---- cut and tick

cut_at_begun : (x : PairEnds) (o : Option LinkEnd) → KeepsBegun x (cut_at x o).pair
cut_at_begun x None = begun_same x x refl refl
cut_at_begun x (Some e) = (let z = with_near x (cut_end e (is_up_at x.far)) in begun_then x z _ (begun_same x z refl refl) (following_begun z (on_cut e.fsm (is_up_at x.far)).change 0 (cut_quiet e.fsm (is_up_at x.far))))

pub cut_begun : (x : PairEnds) → KeepsBegun x (cut_near x).pair
cut_begun x =
    let one = (cut_at x x.near).pair in
    subst (KeepsBegun x) (sym (then_pair (cut_at x x.near) released)) (begun_then x one (released one).pair (cut_at_begun x x.near) (released_begun one))

tick_begun : (shown : BroadcastState) (x : PairEnds) (o : Option LinkEnd) → KeepsBegun x (tick_at shown x o).pair
tick_begun shown x None = begun_same x x refl refl
tick_begun shown x (Some e) = stepped_begun x e (on_tick e.fsm (is_up_at x.far)) 0 shown (tick_quiet e.fsm (is_up_at x.far))

pub ticked_begun : (shown : BroadcastState) (x : PairEnds) → KeepsBegun x (ticked shown x).pair
ticked_begun shown x =
    let call = tick_near shown in
    let one = (at_bearer 0 x call).pair in
    let both = going_on (at_bearer 0 x call) (λ y. at_bearer 1 y call) in
    let first = at_begun 0 x call (tick_begun shown (facing 0 x) (facing 0 x).near) in
    let second = at_begun 1 one call (tick_begun shown (facing 1 one) (facing 1 one).near) in
    let last = subst (KeepsBegun x) (sym (then_pair (at_bearer 0 x call) (λ y. at_bearer 1 y call))) (begun_then x one (at_bearer 1 one call).pair first second) in
    subst (KeepsBegun x) (sym (then_pair both released)) (begun_then x both.pair (released both.pair).pair last (released_begun both.pair))

-- ---- a contact that lasts

-- it lasted before, and the same message is begun in it
pub still_begun : (v after y : View) (p q : PairEnds) (own theirs : ℕ) → ArePaired v y → IsOfPair v p → IsOfPair after q → GoesQuietly p q → KeepsBegun p q → IsPresent after own theirs → IsPresent v own theirs × (q.begun ≡ p.begun)
still_begun v after y p q own theirs h pair pair' quiet begun here = elim (cases_Bool (in_contact q)) [
  | inl up ↦
      let contact = quiet.goes.contact up in
      let seen = quiet.goes.seen in
      let before = in_contact_present v y p h pair (quiet.stays up) in
      let own_is : own ≡ v.node.contact = here.own_is ∙ (pair'.contact ∙ (contact ∙ sym pair.contact)) in
      let theirs_is : theirs ≡ v.node.seen = here.theirs_is ∙ (pair'.seen ∙ (seen ∙ sym pair.seen)) in
      (subst (λ k. IsPresent v k theirs) (sym own_is) (subst (λ k. IsPresent v v.node.contact k) (sym theirs_is) before), elim begun.begun [ inl same ↦ same | inr more ↦ absurd (let wrong : ⊥ = omega arith in wrong) ])
  | inr down ↦ absurd (let both = or_false (is_up_at q.near) (is_up_at q.far) down in apart_absent after own theirs (apart_of after q pair' both.0 both.1) here)
]
