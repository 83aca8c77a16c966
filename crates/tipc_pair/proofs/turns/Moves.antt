-- What a list of changes of a pair tells of its contact and of its links; and how one course of a pair follows another.
use Rattle.std.proofs.Common.{◌≡◌, ◌≤◌, ◌==◌, ◌||◌, ℕ, Bool, true, false, List, [], ◌∷◌, ◌++◌, Option, Some, None, fold, if◌then◌else◌, is_some, nat_le, option_map, refl, sym, ap, ◌∙◌, subst, arith}
use Rattle.std.specs.Prelude.{IfSome, option_and_then}
use Rattle.std.proofs.lemmas.Bool.Decides.{nat_tests}
use Rattle.std.proofs.lemmas.List.Sums.{fold-append}
use Rattle.tipc_types.specs.LinkStates.{is_up}
use Rattle.tipc_types.specs.declared.link_words.LinkState.TheVariants.{ResetUnknown}
use Rattle.tipc_link_fsm.specs.Table.{is_reset_reset}
use Rattle.tipc_link.specs.Links.{LinkEnd, known}
use Rattle.tipc_pair.specs.declared.transitions.Transition.{Transition}
use Rattle.tipc_pair.specs.declared.transitions.Transition.TheVariants.{ContactDown, ContactUp, LinkDown, LinkUp}
use Rattle.tipc_pair.specs.Courses.{Course, going_on}
use Rattle.tipc_pair.specs.Facing.{PairEnds, contact_between, facing, in_contact, is_up_at, other, turned}
use Rattle.tipc_pair.proofs.Facings.{facing_far, facing_near}
use Rattle.tipc_pair.specs.LinkReadings.{AreAbreast, IsAbreast, epochs_of, epochs_on, silence_of}
use Rattle.tipc_pair.proofs.HeldLaws.{or_turns as or_turned}

pub mapped_some : {A : Type 0} (f : A → A) (o : Option A) → is_some o ≡ true → is_some (option_map f o) ≡ true
mapped_some f (Some x) is = refl
mapped_some f None is = absurd cc

-- ---- a link end

pub down_epochs : (e : LinkEnd) → is_up e.fsm.state ≡ false → epochs_of e ≡ None
down_epochs e down = ap (λ b. if b then Some (e.fsm.own, known e.fsm.peer) else None) down

pub up_epochs_are : (e : LinkEnd) → is_up e.fsm.state ≡ true → epochs_of e ≡ Some (e.fsm.own, known e.fsm.peer)
up_epochs_are e up = ap (λ b. if b then Some (e.fsm.own, known e.fsm.peer) else None) up

pub down_silence : (e : LinkEnd) → is_up e.fsm.state ≡ false → silence_of e ≡ 0
down_silence e down = ap (λ b. if b then e.fsm.silent else 0) down

pub up_silence : (e : LinkEnd) → is_up e.fsm.state ≡ true → silence_of e ≡ e.fsm.silent
up_silence e up = ap (λ b. if b then e.fsm.silent else 0) up

-- an end that is down and knows nothing of its peer's reset is abreast
pub unknown_abreast : (e : LinkEnd) → e.fsm.state ≡ ResetUnknown → IsAbreast e
unknown_abreast e is = record {
  peer_is = λ up. (let wrong : false ≡ true = ap (λ st. is_up st || is_reset_reset st) (sym is) ∙ up in absurd cc);
  begun = λ up. (let wrong : false ≡ true = ap is_up (sym is) ∙ up in absurd cc);
}

-- the epochs of an end, where there is one whose link is up
abbrev pub epochs_at : Option LinkEnd → Option (ℕ × ℕ)
epochs_at end = option_and_then epochs_of end

pub down_at : (o : Option LinkEnd) → is_up_at o ≡ false → epochs_at o ≡ None
down_at None down = refl
down_at (Some e) down = down_epochs e down

-- ---- the contact of a pair

pub either_true : (a b : Bool) → b ≡ true → (a || b) ≡ true
either_true true b is = refl
either_true false b is = is

pub neither_true : (a b : Bool) → a ≡ false → b ≡ false → (a || b) ≡ false
neither_true true b first second = first
neither_true false b first second = second

pub contact_there : (x : PairEnds) → in_contact x ≡ true → contact_between x ≡ Some (x.contact, x.seen)
contact_there x is = ap (λ b. if b then Some (x.contact, x.seen) else None) is

pub contact_gone : (x : PairEnds) → in_contact x ≡ false → contact_between x ≡ None
contact_gone x is = ap (λ b. if b then Some (x.contact, x.seen) else None) is

pub by_near : (x : PairEnds) → is_up_at x.near ≡ true → in_contact x ≡ true
by_near x up = ap (λ b. b || is_up_at x.far) up

pub by_far : (x : PairEnds) → is_up_at x.far ≡ true → in_contact x ≡ true
by_far x up = either_true (is_up_at x.near) (is_up_at x.far) up

pub by_neither : (x : PairEnds) → is_up_at x.near ≡ false → is_up_at x.far ≡ false → in_contact x ≡ false
by_neither x near far = neither_true (is_up_at x.near) (is_up_at x.far) near far

-- a pair that is in contact where another one is, under the same numbers, is in the same contact
pub same_contact : (x y : PairEnds) → in_contact y ≡ in_contact x → y.contact ≡ x.contact → y.seen ≡ x.seen → contact_between y ≡ contact_between x
same_contact x y up own seen =
    ap (λ b. if b then Some (y.contact, y.seen) else None) up ∙ ap (λ n. if in_contact x then Some (n, y.seen) else None) own
    ∙ ap (λ n. if in_contact x then Some (x.contact, n) else None) seen

pub turned_contact : (x : PairEnds) → contact_between (turned x) ≡ contact_between x
turned_contact x = same_contact x (turned x) (or_turned (is_up_at x.far) (is_up_at x.near)) refl refl

-- ---- what changes tell

-- what a change makes of the contact, and of the epochs of the link on a bearer
abbrev pub contact_by : Option (ℕ × ℕ) → Transition → Option (ℕ × ℕ)
contact_by z (LinkUp bearer own theirs) = z
contact_by z (LinkDown bearer cause shown) = z
contact_by z (ContactUp numbers) = Some numbers
contact_by z (ContactDown numbers states shown) = None

abbrev pub epochs_by : ℕ → Option (ℕ × ℕ) → Transition → Option (ℕ × ℕ)
epochs_by b z (LinkUp bearer own theirs) = if bearer == b then Some (own, theirs) else z
epochs_by b z (LinkDown bearer cause shown) = if bearer == b then None else z
epochs_by b z (ContactUp numbers) = z
epochs_by b z (ContactDown numbers states shown) = z

-- a contact begins only where there is none, and only the contact that there is ends
abbrev pub IsSo : Option (ℕ × ℕ) → Transition → Type 0
IsSo z (LinkUp bearer own theirs) = Unit {0}
IsSo z (LinkDown bearer cause shown) = Unit {0}
IsSo z (ContactUp numbers) = z ≡ None
IsSo z (ContactDown numbers states shown) = z ≡ Some numbers

abbrev pub AreSo : Option (ℕ × ℕ) → List Transition → Type 0
AreSo z [] = Unit {0}
AreSo z (t ∷ ts) = IsSo z t × AreSo (contact_by z t) ts

-- what changes tell is so before them and after them
pub record Tells (x x' : PairEnds) (changes : List Transition) : Type 0 where
  pub contact : contact_between x' ≡ fold contact_by (contact_between x) changes
  pub epochs : (b : ℕ) → epochs_on b x' ≡ fold (epochs_by b) (epochs_on b x) changes
  pub so : AreSo (contact_between x) changes

-- each link of which they tell is on one of the two bearers
abbrev pub IsOnTwo : Transition → Type 0
IsOnTwo (LinkUp bearer own theirs) = bearer ≤ 1
IsOnTwo (LinkDown bearer cause shown) = bearer ≤ 1
IsOnTwo (ContactUp numbers) = Unit {0}
IsOnTwo (ContactDown numbers states shown) = Unit {0}

abbrev pub AreOnTwo : List Transition → Type 0
AreOnTwo [] = Unit {0}
AreOnTwo (t ∷ ts) = IsOnTwo t × AreOnTwo ts

pub so_more : (z : Option (ℕ × ℕ)) (xs ys : List Transition) → AreSo z xs → AreSo (fold contact_by z xs) ys → AreSo z (xs ++ ys)
so_more z [] ys first later = later
so_more z (t ∷ ts) ys first later = (first.0, so_more (contact_by z t) ts ys first.1 later)

pub two_more : (xs ys : List Transition) → AreOnTwo xs → AreOnTwo ys → AreOnTwo (xs ++ ys)
two_more [] ys first later = later
two_more (t ∷ ts) ys first later = (first.0, two_more ts ys first.1 later)

-- ---- a course, in terms of the two links that a pair has

-- an end on a bearer that is abreast
pub record IsEndOn (bearer : ℕ) (e : LinkEnd) : Type 0 where
  pub abreast : IsAbreast e
  pub on : e.bearer ≡ bearer

pub record IsApt (x : PairEnds) : Type 0 where
  pub two : x.bearer ≤ 1
  pub near : IfSome x.near (IsEndOn x.bearer)
  pub far : IfSome x.far (IsEndOn (other x.bearer))

-- The pair x became y, and these changes tell of it.
pub record Goes (x y : PairEnds) (changes : List Transition) : Type 0 where
  pub apt : IsApt y
  pub bearer : y.bearer ≡ x.bearer
  pub contact : contact_between y ≡ fold contact_by (contact_between x) changes
  pub near : epochs_at y.near ≡ fold (epochs_by x.bearer) (epochs_at x.near) changes
  pub far : epochs_at y.far ≡ fold (epochs_by (other x.bearer)) (epochs_at x.far) changes
  pub so : AreSo (contact_between x) changes
  pub two : AreOnTwo changes

-- nothing became of it of which changes tell
pub record IsStill (x y : PairEnds) : Type 0 where
  pub apt : IsApt y
  pub bearer : y.bearer ≡ x.bearer
  pub contact : contact_between y ≡ contact_between x
  pub near : epochs_at y.near ≡ epochs_at x.near
  pub far : epochs_at y.far ≡ epochs_at x.far

pub still_goes : (x y : PairEnds) → IsStill x y → Goes x y []
still_goes x y h = record { apt = h.apt; bearer = h.bearer; contact = h.contact; near = h.near; far = h.far; so = tt; two = tt }

pub stays_itself : (x : PairEnds) → IsApt x → Goes x x []
stays_itself x apt = record { apt = apt; bearer = refl; contact = refl; near = refl; far = refl; so = tt; two = tt }

pub goes_then : (x y z : PairEnds) (cs ds : List Transition) → Goes x y cs → Goes y z ds → Goes x z (cs ++ ds)
goes_then x y z cs ds h k = record {
  apt = k.apt;
  bearer = k.bearer ∙ h.bearer;
  contact = k.contact ∙ ap (λ o. fold contact_by o ds) h.contact ∙ sym (fold-append contact_by (contact_between x) cs ds);
  near = k.near ∙ ap (λ b. fold (epochs_by b) (epochs_at y.near) ds) h.bearer ∙ ap (λ o. fold (epochs_by x.bearer) o ds) h.near ∙ sym (fold-append (epochs_by x.bearer) (epochs_at x.near) cs ds);
  far = k.far ∙ ap (λ b. fold (epochs_by (other b)) (epochs_at y.far) ds) h.bearer ∙ ap (λ o. fold (epochs_by (other x.bearer)) o ds) h.far ∙ sym (fold-append (epochs_by (other x.bearer)) (epochs_at x.far) cs ds);
  so = so_more (contact_between x) cs ds h.so (subst (λ o. AreSo o ds) h.contact k.so);
  two = two_more cs ds h.two k.two;
}

-- what a course makes of the pair, as it tells
abbrev pub Runs : PairEnds → Course → Type 0
Runs x c = Goes x c.pair c.changes

pub runs_on : (x : PairEnds) (c : Course) (step : PairEnds → Course) → Runs x c → Runs c.pair (step c.pair) → Runs x (going_on c step)
unfolding going_on
runs_on x c step h k = goes_then x c.pair (step c.pair).pair c.changes (step c.pair).changes h k

-- ---- the same, seen from the other link, and from the link of a bearer

other_back : (bearer : ℕ) → bearer ≤ 1 → other (other bearer) ≡ bearer
other_back bearer two = omega (arith, two)

pub turned_apt : (x : PairEnds) → IsApt x → IsApt (turned x)
turned_apt x h = let two = h.two in record { two = omega arith; near = h.far; far = subst (λ b. IfSome x.near (IsEndOn b)) (sym (other_back x.bearer two)) h.near }

pub goes_turned : (x y : PairEnds) (cs : List Transition) → x.bearer ≤ 1 → Goes (turned x) y cs → Goes x (turned y) cs
goes_turned x y cs two h = record {
  apt = turned_apt y h.apt;
  bearer = ap other h.bearer ∙ other_back x.bearer two;
  contact = turned_contact y ∙ h.contact ∙ ap (λ o. fold contact_by o cs) (turned_contact x);
  near = h.far ∙ ap (λ b. fold (epochs_by b) (epochs_at x.near) cs) (other_back x.bearer two);
  far = h.near;
  so = subst (λ o. AreSo o cs) (turned_contact x) h.so;
  two = h.two;
}

-- ---- by bearers

-- a link on neither bearer isn't there
none_there : (b : ℕ) (cs : List Transition) → nat_le b 1 ≡ false → AreOnTwo cs → fold (epochs_by b) None cs ≡ None
none_there b [] above two = refl
none_there b (LinkUp bearer own theirs ∷ cs) above two =
    let most = two.0 in
    let apart : (bearer == b) ≡ false = grind (arith, nat_tests, above, most) in
    ap (λ t. fold (epochs_by b) (if t then Some (own, theirs) else None) cs) apart ∙ none_there b cs above two.1
none_there b (LinkDown bearer cause shown ∷ cs) above two =
    let most = two.0 in
    let apart : (bearer == b) ≡ false = grind (arith, nat_tests, above, most) in
    ap (λ t. fold (epochs_by b) (if t then None else None) cs) apart ∙ none_there b cs above two.1
none_there b (ContactUp numbers ∷ cs) above two = none_there b cs above two.1
none_there b (ContactDown numbers states shown ∷ cs) above two = none_there b cs above two.1

near_on : (b : ℕ) (x : PairEnds) → x.bearer ≡ b → (facing b x).near ≡ x.near
near_on b x same = ap (λ (y : PairEnds). y.near) (facing_near b x same)

far_on : (b : ℕ) (x : PairEnds) → (x.bearer == b) ≡ false → (facing b x).near ≡ x.far
far_on b x differs = ap (λ (y : PairEnds). y.near) (facing_far b x differs)

pub goes_tells : (x y : PairEnds) (cs : List Transition) → x.bearer ≤ 1 → Goes x y cs → Tells x y cs
goes_tells x y cs bearers h = record { contact = h.contact; epochs = epochs; so = h.so }
  where
    at : (b : ℕ) → nat_le b 1 ≡ true → (t : Bool) → (x.bearer == b) ≡ t → epochs_at (facing b y).near ≡ fold (epochs_by b) (epochs_at (facing b x).near) cs
    at b two true same =
        let here : x.bearer ≡ b = grind (arith, nat_tests, same) in
        ap epochs_at (near_on b y (h.bearer ∙ here)) ∙ h.near ∙ ap (λ k. fold (epochs_by k) (epochs_at x.near) cs) here ∙ ap (λ o. fold (epochs_by b) (epochs_at o) cs) (sym (near_on b x here))
    at b two false differs =
        let there : other x.bearer ≡ b = grind (arith, nat_tests, two, differs, bearers) in
        let apart : (y.bearer == b) ≡ false = ap (λ n. n == b) h.bearer ∙ differs in
        ap epochs_at (far_on b y apart) ∙ h.far ∙ ap (λ k. fold (epochs_by k) (epochs_at x.far) cs) there ∙ ap (λ o. fold (epochs_by b) (epochs_at o) cs) (sym (far_on b x differs))

    by : (b : ℕ) (two : Bool) → nat_le b 1 ≡ two → (if two then epochs_at (facing b y).near else None) ≡ fold (epochs_by b) (if two then epochs_at (facing b x).near else None) cs
    by b true two = at b two (x.bearer == b) refl
    by b false above = sym (none_there b cs above h.two)

    epochs : (b : ℕ) → epochs_on b y ≡ fold (epochs_by b) (epochs_on b x) cs
    epochs b = by b (nat_le b 1) refl

-- ---- a pair seen from bearer 0's link

pub abreast_apt : (x : PairEnds) → AreAbreast x → IsApt x
abreast_apt x h = record { two = (let first = h.first in omega (arith, first)); near = near x.near h.near h.near_on; far = far x.far h.far h.far_on }
  where
    near : (o : Option LinkEnd) → IfSome o IsAbreast → IfSome o (λ (e : LinkEnd). e.bearer ≡ 0) → IfSome o (IsEndOn x.bearer)
    near None abreast on = tt
    near (Some e) abreast on = record { abreast = abreast; on = on ∙ sym h.first }

    far : (o : Option LinkEnd) → IfSome o IsAbreast → IfSome o (λ (e : LinkEnd). e.bearer ≡ 1) → IfSome o (IsEndOn (other x.bearer))
    far None abreast on = tt
    far (Some e) abreast on = record { abreast = abreast; on = on ∙ ap other (sym h.first) }

pub apt_abreast : (x : PairEnds) → x.bearer ≡ 0 → IsApt x → AreAbreast x
apt_abreast x first h = record { first = first; near = abreast x.bearer x.near h.near; far = abreast (other x.bearer) x.far h.far; near_on = on x.bearer 0 first x.near h.near; far_on = on (other x.bearer) 1 (ap other first) x.far h.far }
  where
    abreast : (b : ℕ) (o : Option LinkEnd) → IfSome o (IsEndOn b) → IfSome o IsAbreast
    abreast b None is = tt
    abreast b (Some e) is = is.abreast

    on : (b k : ℕ) → b ≡ k → (o : Option LinkEnd) → IfSome o (IsEndOn b) → IfSome o (λ (e : LinkEnd). e.bearer ≡ k)
    on b k same None is = tt
    on b k same (Some e) is = is.on ∙ same

-- whether there is contact
pub contact_is_some : (x : PairEnds) → is_some (contact_between x) ≡ in_contact x
contact_is_some x = elim (in_contact x) as (λ b. is_some {T = ℕ × ℕ} (if b then Some (x.contact, x.seen) else None) ≡ b) [ true ↦ refl | false ↦ refl ]
