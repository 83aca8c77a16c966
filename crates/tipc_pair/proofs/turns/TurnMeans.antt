-- The contact number of a pair grows with each contact that ends, a contact begins under the number that the pair showed, and a pair without contact gives nothing.
use Rattle.std.proofs.Common.{◌≡◌, ◌≤◌, ◌<◌, ℕ, Bool, true, false, List, [], ◌∷◌, Option, Some, None, filter, fold, refl, sym, ap, ◌∙◌, subst, inl, inr, true≢false, arith}
use Rattle.std.specs.Prelude.{◌⊎◌, IfSome}
use Rattle.tipc_outside.specs.declared.outgoing.Outgoing.{Outgoing}
use Rattle.tipc_reassembly.specs.declared.opening.Opened.{Opened}
use Rattle.tipc_pair.specs.declared.transitions.Transition.{Transition}
use Rattle.tipc_pair.specs.declared.transitions.Transition.TheVariants.{ContactDown, ContactUp, LinkDown, LinkUp}
use Rattle.tipc_link.specs.Links.{LinkEnd}
use Rattle.tipc_pair.specs.Facing.{PairEnds, contact_between, in_contact, other}
use Rattle.tipc_pair.specs.Messages.{opened_in}
use Rattle.tipc_pair.specs.PairTurns.{MakesNew, Opening, Outset, PairTurn, Reply}
use Rattle.tipc_pair.specs.Contacts.{begins, is_of_contact}
use Rattle.tipc_pair.specs.LinkReadings.{AreAbreast}
use Rattle.tipc_pair.proofs.turns.Moves.{contact_by, contact_gone, contact_there}
use Rattle.tipc_pair.proofs.turns.PairEvents.{On, OnBearer, begins_only, happened_so, is_arrival}
use Rattle.tipc_pair.proofs.turns.PairPuts.{MeetsAs, meets_then, puts_meet, replied_meets}
use Rattle.tipc_pair.proofs.turns.PairTells.{IsFall, Means, Story, began, contact_changes, ended, stays}

-- ---- what a story means

-- the pair after it under the same numbers, in contact or not
means_to : (x y z : PairEnds) (s : Story) → MeetsAs y z → Means x y s → Means x z s
means_to x y z stays h m = (h.there ∙ m.0, h.contact ∙ m.1, λ there. h.seen ∙ m.2 there)
means_to x y z (began numbers) h m = (m.0, h.there ∙ m.1, m.2 ∙ (ap (λ n. (n, y.seen)) (sym h.contact) ∙ ap (λ n. (z.contact, n)) (sym h.seen)), h.contact ∙ m.3)
means_to x y z (ended numbers states shown) h m = let higher = m.3 in let same = h.contact in (m.0, m.1, h.there ∙ m.2, omega (arith, higher, same))

-- the number stays or grows
pub least : (x y : PairEnds) (s : Story) → Means x y s → x.contact ≤ y.contact
least x y stays m = let same = m.1 in omega (arith, same)
least x y (began numbers) m = let same = m.3 in omega (arith, same)
least x y (ended numbers states shown) m = let higher = m.3 in omega (arith, higher)

-- without contact it has grown, where there was contact
pub down : (x y : PairEnds) (s : Story) → Means x y s → in_contact y ≡ false → (x.contact < y.contact) ⊎ ((y.contact ≡ x.contact) × (in_contact x ≡ false))
down x y stays m none = inr (m.1, sym m.0 ∙ none)
down x y (began numbers) m none = absurd (true≢false (sym m.1 ∙ none))
down x y (ended numbers states shown) m none = inl m.3

-- ---- what changes tell of the contact

-- a fold over changes goes by those of the contact
pub contact_only : (z : Option (ℕ × ℕ)) (cs : List Transition) → fold contact_by z cs ≡ fold contact_by z (filter is_of_contact cs)
contact_only z [] = refl
contact_only z (LinkUp bearer own theirs ∷ cs) = contact_only z cs
contact_only z (LinkDown bearer because shown ∷ cs) = contact_only z cs
contact_only z (ContactUp numbers ∷ cs) = contact_only (Some numbers) cs
contact_only z (ContactDown numbers states shown ∷ cs) = contact_only None cs

pub contact_by_story : (z : Option (ℕ × ℕ)) (cs : List Transition) (s : Story) → filter is_of_contact cs ≡ contact_changes s → fold contact_by z cs ≡ fold contact_by z (contact_changes s)
contact_by_story z cs s is = contact_only z cs ∙ ap (fold contact_by z) is

-- which is the contact then
pub told_by_story : (x y : PairEnds) (s : Story) → Means x y s → fold contact_by (contact_between x) (contact_changes s) ≡ contact_between y
told_by_story x y stays m = by (in_contact x) refl
  where
    by : (b : Bool) → in_contact x ≡ b → contact_between x ≡ contact_between y
    by true there = contact_there x there ∙ ap (λ n. Some (n, x.seen)) (sym m.1) ∙ ap (λ n. Some (y.contact, n)) (sym (m.2 there)) ∙ sym (contact_there y (m.0 ∙ there))
    by false none = contact_gone x none ∙ sym (contact_gone y (m.0 ∙ none))
told_by_story x y (began numbers) m = ap Some m.2 ∙ sym (contact_there y m.1)
told_by_story x y (ended numbers states shown) m = sym (contact_gone y m.2)

pub begins_by_story : (cs : List Transition) (s : Story) → filter is_of_contact cs ≡ contact_changes s → begins cs ≡ begins (contact_changes s)
begins_by_story cs s is = begins_only cs ∙ ap begins is

-- ---- a turn

-- What a turn means for the contact with a peer. Only an arrival begins a contact, and something is given only in one that lasts.
pub record TurnMeans (x x' : PairEnds) (opening : Opening) (o : Outset) : Type 0 where
  pub story : Story
  pub story_is : filter is_of_contact o.course.changes ≡ contact_changes story
  pub means : Means x x' story
  pub falls : is_arrival opening ≡ false → IsFall story
  pub lasts : (g : Opened) (gs : List Opened) → opened_in o.given ≡ g ∷ gs → (in_contact x' ≡ true) × (x'.contact ≡ x.contact) × (x'.seen ≡ x.seen)

pub on_bearers : (x : PairEnds) → AreAbreast x → On x
on_bearers x h = record { two = (let first = h.first in omega (arith, first)); near = near x.near h.near_on; far = far x.far h.far_on }
  where
    near : (o : Option LinkEnd) → IfSome o (λ (e : LinkEnd). e.bearer ≡ 0) → IfSome o (OnBearer x.bearer)
    near None on = tt
    near (Some e) on = on ∙ sym h.first

    far : (o : Option LinkEnd) → IfSome o (λ (e : LinkEnd). e.bearer ≡ 1) → IfSome o (OnBearer (other x.bearer))
    far None on = tt
    far (Some e) on = on ∙ ap other (sym h.first)

-- what is put and answered leaves the contact as it is
pub meets_after : (x x' : PairEnds) (opening : Opening) (messages : List (List ℕ)) (reply : Option Reply) (frames : List Outgoing) → (t : PairTurn x opening messages reply x' frames)
    → MeetsAs t.first.course.pair t.put × MeetsAs t.put x'
meets_after x x' opening messages reply frames t =
    (puts_meet t.first.course.pair messages t.put_frames t.put t.puts, subst (MeetsAs t.put) (sym t.after) (replied_meets reply t.put))

pub turn_means : (x x' : PairEnds) (opening : Opening) (messages : List (List ℕ)) (reply : Option Reply) (frames : List Outgoing) → AreAbreast x → MakesNew x opening → (t : PairTurn x opening messages reply x' frames)
    → TurnMeans x x' opening t.first
turn_means x x' opening messages reply frames abreast new t =
    let so = happened_so x opening t.first (on_bearers x abreast) new t.happened in
    let m = meets_after x x' opening messages reply frames t in
    let y = t.first.course.pair in
    let all = meets_then y t.put x' m.0 m.1 in
    record {
      story = so.tells.story;
      story_is = so.tells.story_is;
      means = means_to x y x' so.tells.story all so.tells.means;
      falls = so.falls;
      lasts = λ g gs some. (let l = so.lasts g gs some in (all.there ∙ l.0, all.contact ∙ l.1, all.seen ∙ l.2));
    }

-- a pair without contact gave nothing
pub down_none : (x x' : PairEnds) (opening : Opening) (o : Outset) → TurnMeans x x' opening o → in_contact x' ≡ false → opened_in o.given ≡ []
down_none x x' opening o t none = by (opened_in o.given) refl
  where
    by : (opened : List Opened) → opened_in o.given ≡ opened → opened ≡ []
    by [] some = refl
    by (g ∷ gs) some = absurd (true≢false (sym (t.lasts g gs some).0 ∙ none))
