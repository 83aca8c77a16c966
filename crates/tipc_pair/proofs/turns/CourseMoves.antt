-- What follows when a link of a pair goes up or down is as it tells: the contact begins or ends, or the other link takes the traffic over.
use Rattle.std.proofs.Common.{◌≡◌, ◌≤◌, ◌+◌, ◌==◌, ◌||◌, ◌⊎◌, ℕ, Bool, true, false, List, [], ◌∷◌, ◌++◌, Option, Some, None, fold, if◌then◌else◌, is_some, option_map, inl, inr, refl, sym, ap, ◌∙◌, subst, arith}
use Rattle.std.specs.Prelude.{IfSome}
use Rattle.std.specs.List.{flat_map}
use Rattle.std.proofs.lemmas.Bool.Decides.{nat_tests}
use Rattle.std.proofs.lemmas.Grind.{flat_map-append}
use Rattle.std.proofs.lemmas.List.Sums.{fold-append}
use Rattle.tipc_types.specs.LinkStates.{is_up}
use Rattle.tipc_types.specs.declared.link_words.Cause.{Cause}
use Rattle.tipc_link_fsm.specs.declared.changes.Change.{Change}
use Rattle.tipc_link_fsm.specs.declared.changes.Change.TheVariants.{Stay, Up, Down, Answer, Ignore}
use Rattle.tipc_link_fsm.specs.Table.{Fsm, is_reset_reset}
use Rattle.tipc_link.specs.Links.{LinkEnd, handed_over, known, without_waiting}
use Rattle.tipc_link.specs.Sessions.{SessionEnd, given_up, waiting_given}
use Rattle.tipc_pair.specs.declared.transitions.Transition.{Transition}
use Rattle.tipc_pair.specs.declared.transitions.Transition.TheVariants.{ContactDown, ContactUp, LinkDown, LinkUp}
use Rattle.tipc_pair.specs.Changeovers.{contact_begins, contact_ends, ended_with, fail_over, fail_over_to, failing, following, forgetting, forgotten, loaded, parted, parted_end, risen, shown_with, switch, switch_from, switching}
use Rattle.tipc_pair.specs.Courses.{Course, rests}
use Rattle.tipc_pair.specs.Facing.{PairEnds, contact_between, ends_of, facing, in_contact, is_up_at, made_of, other, states_of, with_far, with_near}
use Rattle.tipc_pair.specs.Runs.{left_by, taken_over}
use Rattle.tipc_pair.proofs.Followings.{far_down, near_down}
use Rattle.tipc_pair.proofs.Facings.{facing_far, facing_near, facing_one}
use Rattle.tipc_pair.specs.LinkReadings.{epochs_of}
use Rattle.tipc_pair.proofs.turns.LinkMoves.{MovesTo, ended_unknown, forgotten_unknown, unknown_end}
use Rattle.tipc_pair.proofs.turns.Moves.{AreOnTwo, AreSo, Goes, IsApt, IsEndOn, IsStill, Runs, by_far, by_near, by_neither, contact_by, contact_gone, contact_there, down_at, down_epochs, epochs_at, epochs_by, goes_then, mapped_some, same_contact, so_more, still_goes, two_more, up_epochs_are}
use Rattle.tipc_pair.proofs.acts.Walks.{tested}
-- ---- one link moves
use Rattle.tipc_pair.proofs.HeldLaws.{parted_down as parted_gone}

-- a link on one bearer isn't on the other
pub apart : (b : ℕ) → b ≤ 1 → (b == other b) ≡ false
apart b two = grind (arith, nat_tests, two)

pub apart_too : (b : ℕ) → b ≤ 1 → (other b == b) ≡ false
apart_too b two = grind (arith, nat_tests, two)

pub itself : (b : ℕ) → (b == b) ≡ true
itself b = grind (arith, nat_tests)

-- the near end moved, and the far one stays
near_moved : (x : PairEnds) (e' : LinkEnd) → IsApt x → IsEndOn x.bearer e' → IsApt (with_near x e')
near_moved x e' h k = record { two = h.two; near = k; far = h.far }

-- what one that goes up beside the far one tells
up_beside : (x : PairEnds) (e' : LinkEnd) → IsApt x → IsEndOn x.bearer e' → is_up e'.fsm.state ≡ true → is_up_at x.far ≡ true → Goes x (with_near x e') (LinkUp x.bearer e'.fsm.own (known e'.fsm.peer) ∷ [])
up_beside x e' h k up far = record {
  apt = near_moved x e' h k;
  bearer = refl;
  contact = same_contact x (with_near x e') (by_far (with_near x e') far ∙ sym (by_far x far)) refl refl;
  near = up_epochs_are e' up ∙ sym (ap (λ t. if t then Some (e'.fsm.own, known e'.fsm.peer) else epochs_at x.near) (itself x.bearer));
  far = sym (ap (λ t. if t then Some (e'.fsm.own, known e'.fsm.peer) else epochs_at x.far) (apart x.bearer h.two));
  so = (tt, tt);
  two = (h.two, tt);
}

down_beside : (x : PairEnds) (e' : LinkEnd) (because : Cause) (shown : ℕ) → IsApt x → IsEndOn x.bearer e' → is_up e'.fsm.state ≡ false → is_up_at x.far ≡ true → Goes x (with_near x e') (LinkDown x.bearer because shown ∷ [])
down_beside x e' because shown h k down far = record {
  apt = near_moved x e' h k;
  bearer = refl;
  contact = same_contact x (with_near x e') (by_far (with_near x e') far ∙ sym (by_far x far)) refl refl;
  near = down_epochs e' down ∙ sym (ap (λ t. if t then None else epochs_at x.near) (itself x.bearer));
  far = sym (ap (λ t. if t then None else epochs_at x.far) (apart x.bearer h.two));
  so = (tt, tt);
  two = (h.two, tt);
}

-- ---- ends that stay as they were

same_end : (b : ℕ) (e e' : LinkEnd) → IsEndOn b e → e'.fsm ≡ e.fsm → e'.bearer ≡ e.bearer → (is_some e.session ≡ true → is_some e'.session ≡ true) → IsEndOn b e'
same_end b e e' h fsm on some = record {
  on = on ∙ h.on;
  abreast = record {
    peer_is = λ is. ap (λ (f : Fsm). f.peer) fsm ∙ h.abreast.peer_is (ap (λ (f : Fsm). is_up f.state || is_reset_reset f.state) (sym fsm) ∙ is) ∙ ap (λ (f : Fsm). Some f.highest) (sym fsm);
    begun = λ up. some (h.abreast.begun (ap (λ (f : Fsm). is_up f.state) (sym fsm) ∙ up));
  };
}

pub near_of : (x : PairEnds) (e : LinkEnd) → IsApt x → x.near ≡ Some e → IsEndOn x.bearer e
near_of x e h is = subst (λ o. IfSome o (IsEndOn x.bearer)) is h.near

pub far_of : (x : PairEnds) (e : LinkEnd) → IsApt x → x.far ≡ Some e → IsEndOn (other x.bearer) e
far_of x e h is = subst (λ o. IfSome o (IsEndOn (other x.bearer))) is h.far

same_up : (o : Option LinkEnd) (e e' : LinkEnd) → o ≡ Some e → e'.fsm ≡ e.fsm → is_up e'.fsm.state ≡ is_up_at o
same_up o e e' is fsm = ap (λ (f : Fsm). is_up f.state) fsm ∙ ap is_up_at (sym is)

same_epochs : (o : Option LinkEnd) (e e' : LinkEnd) → o ≡ Some e → e'.fsm ≡ e.fsm → epochs_of e' ≡ epochs_at o
same_epochs o e e' is fsm = ap (λ (f : Fsm). if is_up f.state then Some (f.own, known f.peer) else None) fsm ∙ ap epochs_at (sym is)

-- the near end in another session
pub still_near : (x : PairEnds) (e e' : LinkEnd) → IsApt x → x.near ≡ Some e → e'.fsm ≡ e.fsm → e'.bearer ≡ e.bearer → (is_some e.session ≡ true → is_some e'.session ≡ true) → IsStill x (with_near x e')
still_near x e e' h is fsm on some = record {
  apt = near_moved x e' h (same_end x.bearer e e' (near_of x e h is) fsm on some);
  bearer = refl;
  contact = same_contact x (with_near x e') (ap (λ b. b || is_up_at x.far) (same_up x.near e e' is fsm)) refl refl;
  near = same_epochs x.near e e' is fsm;
  far = refl;
}

-- the far end
still_far : (x : PairEnds) (e e' : LinkEnd) → IsApt x → x.far ≡ Some e → e'.fsm ≡ e.fsm → e'.bearer ≡ e.bearer → (is_some e.session ≡ true → is_some e'.session ≡ true) → IsStill x (with_far x e')
still_far x e e' h is fsm on some = record {
  apt = record { two = h.two; near = h.near; far = same_end (other x.bearer) e e' (far_of x e h is) fsm on some };
  bearer = refl;
  contact = same_contact x (with_far x e') (ap (λ b. is_up_at x.near || b) (same_up x.far e e' is fsm)) refl refl;
  near = refl;
  far = same_epochs x.far e e' is fsm;
}

pub still_then : (x y z : PairEnds) → IsStill x y → IsStill y z → IsStill x z
still_then x y z h k = record { apt = k.apt; bearer = k.bearer ∙ h.bearer; contact = k.contact ∙ h.contact; near = k.near ∙ h.near; far = k.far ∙ h.far }

pub still_itself : (x : PairEnds) → IsApt x → IsStill x x
still_itself x h = record { apt = h; bearer = refl; contact = refl; near = refl; far = refl }

-- ---- changeover

-- a course that tells nothing
abbrev pub Quietly : PairEnds → Course → Type 0
Quietly x c = IsStill x c.pair × (c.changes ≡ [])

pub quiet_runs : (x : PairEnds) (c : Course) → Quietly x c → Runs x c
quiet_runs x c q = subst (Goes x c.pair) (sym q.1) (still_goes x c.pair q.0)

then_quiet : (x y : PairEnds) (c : Course) (t : Transition) → Goes x y (t ∷ []) → Quietly y c → Goes x c.pair (t ∷ c.changes)
then_quiet x y c t h q = subst (λ cs. Goes x c.pair (t ∷ cs)) (sym q.1) (goes_then x y c.pair (t ∷ []) [] h (still_goes y c.pair q.0))

switching_quiet : (x : PairEnds) (near far : LinkEnd) (s old : Option SessionEnd) → IsApt x → x.near ≡ Some near → x.far ≡ Some far → Quietly x (switching x near far s old)
switching_quiet x near far (Some s) (Some old) h one two =
    let near' = loaded near s (taken_over old) in
    let first = still_near x near near' h one refl refl (λ is. refl) in
    (still_then x (with_near x near') _ first (still_far (with_near x near') far (without_waiting far) first.apt two refl refl (mapped_some waiting_given far.session)), refl)
switching_quiet x near far (Some s) None h one two = (still_itself x h, refl)
switching_quiet x near far None (Some old) h one two = (still_itself x h, refl)
switching_quiet x near far None None h one two = (still_itself x h, refl)

switch_quiet : (x : PairEnds) (near far : Option LinkEnd) → IsApt x → x.near ≡ near → x.far ≡ far → Quietly x (switch_from x near far)
switch_quiet x (Some near) (Some far) h one two = switching_quiet x near far near.session far.session h one two
switch_quiet x (Some near) None h one two = (still_itself x h, refl)
switch_quiet x None (Some far) h one two = (still_itself x h, refl)
switch_quiet x None None h one two = (still_itself x h, refl)

failing_quiet : (x : PairEnds) (near far : LinkEnd) (lost s : Option SessionEnd) → IsApt x → x.near ≡ Some near → x.far ≡ Some far → Quietly x (failing x near far lost s)
failing_quiet x near far (Some lost) (Some s) h one two =
    let near' = handed_over near in
    let first = still_near x near near' h one refl refl (mapped_some given_up near.session) in
    (still_then x (with_near x near') _ first (still_far (with_near x near') far (loaded far s (left_by lost)) first.apt two refl refl (λ is. refl)), refl)
failing_quiet x near far (Some lost) None h one two = (still_itself x h, refl)
failing_quiet x near far None (Some s) h one two = (still_itself x h, refl)
failing_quiet x near far None None h one two = (still_itself x h, refl)

fail_over_quiet : (x : PairEnds) (near far : Option LinkEnd) → IsApt x → x.near ≡ near → x.far ≡ far → Quietly x (fail_over_to x near far)
fail_over_quiet x (Some near) (Some far) h one two = failing_quiet x near far near.session far.session h one two
fail_over_quiet x (Some near) None h one two = (still_itself x h, refl)
fail_over_quiet x None (Some far) h one two = (still_itself x h, refl)
fail_over_quiet x None None h one two = (still_itself x h, refl)

-- ---- a contact ends

-- the links that go down with the contact
abbrev downs : Option LinkEnd → List Transition
downs o = flat_map ended_with (made_of o)

downs_own : (b : ℕ) (o : Option LinkEnd) → IfSome o (IsEndOn b) → fold (epochs_by b) (epochs_at o) (downs o) ≡ None
downs_own b None h = refl
downs_own b (Some e) h =
    tested (λ xs. fold (epochs_by b) (epochs_of e) (xs ++ []) ≡ None) (is_up e.fsm.state) _ _
    (λ up. let on = h.on in ap (λ t. if t then None else epochs_of e) (let same : (e.bearer == b) ≡ true = grind (arith, nat_tests, on) in same)) (λ down. down_epochs e down)

downs_other : (b k : ℕ) (o : Option LinkEnd) (z : Option (ℕ × ℕ)) → IfSome o (IsEndOn k) → (k == b) ≡ false → fold (epochs_by b) z (downs o) ≡ z
downs_other b k None z h apart = refl
downs_other b k (Some e) z h apart =
    tested (λ xs. fold (epochs_by b) z (xs ++ []) ≡ z) (is_up e.fsm.state) _ _ (λ up. ap (λ n. if n == b then None else z) h.on ∙ ap (λ t. if t then None else z) apart) (λ down. refl)

fold_downs : (b : ℕ) (o p : Option LinkEnd) (z : Option (ℕ × ℕ)) → fold (epochs_by b) z (flat_map ended_with (made_of o ++ made_of p)) ≡ fold (epochs_by b) (fold (epochs_by b) z (downs o)) (downs p)
fold_downs b o p z = ap (fold (epochs_by b) z) (flat_map-append ended_with (made_of o) (made_of p)) ∙ fold-append (epochs_by b) z (downs o) (downs p)

first_down : (b k : ℕ) (o p : Option LinkEnd) → IfSome o (IsEndOn b) → IfSome p (IsEndOn k) → (k == b) ≡ false → fold (epochs_by b) (epochs_at o) (flat_map ended_with (made_of o ++ made_of p)) ≡ None
first_down b k o p own beside apart = fold_downs b o p (epochs_at o) ∙ ap (λ z. fold (epochs_by b) z (downs p)) (downs_own b o own) ∙ downs_other b k p None beside apart

second_down : (b k : ℕ) (o p : Option LinkEnd) → IfSome o (IsEndOn b) → IfSome p (IsEndOn k) → (k == b) ≡ false → fold (epochs_by b) (epochs_at o) (flat_map ended_with (made_of p ++ made_of o)) ≡ None
second_down b k o p own beside apart = fold_downs b p o (epochs_at o) ∙ ap (λ z. fold (epochs_by b) z (downs o)) (downs_other b k p (epochs_at o) beside apart) ∙ downs_own b o own

-- the ends by bearer are the near one and the far one, or the other way round
pub ends_are : (y : PairEnds) → y.bearer ≤ 1 → (ends_of y ≡ made_of y.near ++ made_of y.far) ⊎ (ends_of y ≡ made_of y.far ++ made_of y.near)
ends_are y two = by (y.bearer == 0) refl
  where
    by : (t : Bool) → (y.bearer == 0) ≡ t → (ends_of y ≡ made_of y.near ++ made_of y.far) ⊎ (ends_of y ≡ made_of y.far ++ made_of y.near)
    by true zero_is =
        let first = facing_near 0 y (let is : y.bearer ≡ 0 = grind (arith, nat_tests, zero_is) in is) in
        inl (ap (λ (z : PairEnds). made_of z.near ++ made_of (facing 1 y).near) first ∙ ap (λ o. made_of y.near ++ made_of o) (facing_one y two ∙ ap (λ (z : PairEnds). z.far) first))
    by false other_is =
        let first = facing_far 0 y other_is in
        inr (ap (λ (z : PairEnds). made_of z.near ++ made_of (facing 1 y).near) first ∙ ap (λ o. made_of y.far ++ made_of o) (facing_one y two ∙ ap (λ (z : PairEnds). z.far) first))

-- what is told of the links that go down with the contact
record GoDown (y : PairEnds) (ds : List Transition) : Type 0 where
  pub near : fold (epochs_by y.bearer) (epochs_at y.near) ds ≡ None
  pub far : fold (epochs_by (other y.bearer)) (epochs_at y.far) ds ≡ None
  pub two : AreOnTwo ds

downs_two : (b : ℕ) (o : Option LinkEnd) → b ≤ 1 → IfSome o (IsEndOn b) → AreOnTwo (downs o)
downs_two b None two h = tt
downs_two b (Some e) two h = tested (λ xs. AreOnTwo (xs ++ [])) (is_up e.fsm.state) _ _ (λ up. let on = h.on in (omega (arith, on, two), tt)) (λ down. tt)

both_two : (b k : ℕ) (o p : Option LinkEnd) → b ≤ 1 → k ≤ 1 → IfSome o (IsEndOn b) → IfSome p (IsEndOn k) → AreOnTwo (flat_map ended_with (made_of o ++ made_of p))
both_two b k o p one two first second =
    subst AreOnTwo (sym (flat_map-append ended_with (made_of o) (made_of p))) (two_more (downs o) (downs p) (downs_two b o one first) (downs_two k p two second))

go_down : (y : PairEnds) → IsApt y → GoDown y (flat_map ended_with (ends_of y))
go_down y h =
    let b = y.bearer in
    let two = h.two in
    let far_two : other b ≤ 1 = omega arith in
    elim (ends_are y h.two) [
      | inl is ↦ subst (λ es. GoDown y (flat_map ended_with es)) (sym is) (record {
        near = first_down b (other b) y.near y.far h.near h.far (apart_too b two);
        far = second_down (other b) b y.far y.near h.far h.near (apart b two);
        two = both_two b (other b) y.near y.far two far_two h.near h.far;
      })
      | inr is ↦ subst (λ es. GoDown y (flat_map ended_with es)) (sym is) (record {
        near = second_down b (other b) y.near y.far h.near h.far (apart_too b two);
        far = first_down (other b) b y.far y.near h.far h.near (apart b two);
        two = both_two (other b) b y.far y.near far_two two h.far h.near;
      })
    ]

-- the contact is the same behind them
ended_stays : (z : Option (ℕ × ℕ)) (es : List LinkEnd) → fold contact_by z (flat_map ended_with es) ≡ z
ended_stays z [] = refl
ended_stays z (e ∷ es) = tested (λ xs. fold contact_by z (xs ++ flat_map ended_with es) ≡ z) (is_up e.fsm.state) _ _ (λ up. ended_stays z es) (λ down. ended_stays z es)

ended_so : (z : Option (ℕ × ℕ)) (es : List LinkEnd) → AreSo z (flat_map ended_with es)
ended_so z [] = tt
ended_so z (e ∷ es) = tested (λ xs. AreSo z (xs ++ flat_map ended_with es)) (is_up e.fsm.state) _ _ (λ up. (tt, ended_so z es)) (λ down. ended_so z es)

parted_at : (b contact seen : ℕ) (o : Option LinkEnd) → IfSome o (IsEndOn b) → IfSome (option_map (parted_end contact seen) o) (IsEndOn b)
parted_at b contact seen None h = tt
parted_at b contact seen (Some e) h = unknown_end b (parted_end contact seen e) h.on (ended_unknown e.fsm)

parted_apt : (y : PairEnds) → IsApt y → IsApt (parted y)
parted_apt y h = record { two = h.two; near = parted_at y.bearer (y.contact + 1) y.seen y.near h.near; far = parted_at (other y.bearer) (y.contact + 1) y.seen y.far h.far }

-- A contact ends, behind these changes, which have left it as it was.
parts : (x y : PairEnds) (first : List Transition) (numbers : ℕ × ℕ) (shown : ℕ) → IsApt y → y.bearer ≡ x.bearer → contact_between x ≡ Some numbers → fold contact_by (contact_between x) first ≡ contact_between x
    → AreSo (contact_between x) first → AreOnTwo first → epochs_at y.near ≡ fold (epochs_by x.bearer) (epochs_at x.near) first → epochs_at y.far ≡ fold (epochs_by (other x.bearer)) (epochs_at x.far) first
    → Goes x (parted y) (first ++ (flat_map ended_with (ends_of y) ++ ContactDown numbers (states_of (parted y)) shown ∷ []))
parts x y first numbers shown h bearer there stays so two near far =
    let down = go_down y h in
    let ds = flat_map ended_with (ends_of y) in
    let last : List Transition = ContactDown numbers (states_of (parted y)) shown ∷ [] in
    let near_gone = parted_gone (y.contact + 1) y.seen y.near in
    let far_gone = parted_gone (y.contact + 1) y.seen y.far in
    let told : (b : ℕ) (z w : Option (ℕ × ℕ)) → z ≡ fold (epochs_by b) w first → fold (epochs_by b) z ds ≡ None → fold (epochs_by b) w (first ++ (ds ++ last)) ≡ None = λ b z w is none.
    fold-append (epochs_by b) w first (ds ++ last) ∙ ap (λ o. fold (epochs_by b) o (ds ++ last)) (sym is) ∙ fold-append (epochs_by b) z ds last ∙ ap (λ o. fold (epochs_by b) o last) none in
    record {
      apt = parted_apt y h;
      bearer = bearer;
      contact = contact_gone (parted y) (by_neither (parted y) near_gone far_gone) ∙ sym (fold-append contact_by (contact_between x) first (ds ++ last) ∙ fold-append contact_by (fold contact_by (contact_between x) first) ds last);
      near = down_at (parted y).near near_gone ∙ sym (told x.bearer (epochs_at y.near) (epochs_at x.near) near (subst (λ b. fold (epochs_by b) (epochs_at y.near) ds ≡ None) bearer down.near));
      far = down_at (parted y).far far_gone ∙ sym (told (other x.bearer) (epochs_at y.far) (epochs_at x.far) far (subst (λ b. fold (epochs_by (other b)) (epochs_at y.far) ds ≡ None) bearer down.far));
      so = so_more (contact_between x) first (ds ++ last) so
          (subst (λ z. AreSo z (ds ++ last)) (sym stays) (so_more (contact_between x) ds last (ended_so (contact_between x) (ends_of y)) (ended_stays (contact_between x) (ends_of y) ∙ there, tt)));
      two = two_more first (ds ++ last) two (two_more ds last down.two (tt, tt));
    }

-- ---- the peer showed a higher contact number

forgets_at : (b seen : ℕ) (o : Option LinkEnd) → is_up_at o ≡ false → IfSome o (IsEndOn b) → IfSome (option_map (forgetting seen) o) (IsEndOn b) × (is_up_at (option_map (forgetting seen) o) ≡ false)
forgets_at b seen None down h = (tt, refl)
forgets_at b seen (Some e) down h = let is = forgotten_unknown e.fsm down in (unknown_end b (forgetting seen e) h.on is, ap is_up is)

pub risen_runs : (x : PairEnds) (number : ℕ) → IsApt x → Runs x (risen x number)
risen_runs x number h = tested (Runs x) (in_contact x) _ _
    (λ is. parts x (record x { seen = number }) [] (x.contact, x.seen) number (record { two = h.two; near = h.near; far = h.far }) refl (contact_there x is) refl tt tt refl refl)
    (λ not.
    let near = forgets_at x.bearer number x.near (near_down x not) h.near in
    let far = forgets_at (other x.bearer) number x.far (far_down x not) h.far in
    still_goes x (forgotten x number) (record {
      apt = record { two = h.two; near = near.0; far = far.0 };
      bearer = refl;
      contact = contact_gone (forgotten x number) (by_neither (forgotten x number) near.1 far.1) ∙ sym (contact_gone x not);
      near = down_at _ near.1 ∙ sym (down_at x.near (near_down x not));
      far = down_at _ far.1 ∙ sym (down_at x.far (far_down x not));
    }))

-- ---- what follows a change of the near link

up_alone : (x : PairEnds) (e e' : LinkEnd) → IsApt x → x.near ≡ Some e → MovesTo x.bearer e e' Up → is_up_at x.far ≡ false
    → Goes x (contact_begins (with_near x e')).pair (LinkUp x.bearer e'.fsm.own (known e'.fsm.peer) ∷ ContactUp (x.contact, x.seen) ∷ [])
up_alone x e e' h is m far = record {
  apt = record { two = h.two; near = m.end; far = h.far };
  bearer = refl;
  contact = contact_there (contact_begins (with_near x e')).pair (by_near (with_near x e') m.moved.1);
  near = up_epochs_are e' m.moved.1 ∙ sym (ap (λ t. if t then Some (e'.fsm.own, known e'.fsm.peer) else epochs_at x.near) (itself x.bearer));
  far = sym (ap (λ t. if t then Some (e'.fsm.own, known e'.fsm.peer) else epochs_at x.far) (apart x.bearer h.two));
  so = (tt, (contact_gone x (by_neither x (ap is_up_at is ∙ m.moved.0) far), tt));
  two = (h.two, (tt, tt));
}

moved_still : (x : PairEnds) (e e' : LinkEnd) → IsApt x → x.near ≡ Some e → IsEndOn x.bearer e' → (is_up e'.fsm.state ≡ is_up e.fsm.state) × (epochs_of e' ≡ epochs_of e) → Quietly x (rests (with_near x e'))
moved_still x e e' h is end same = (
  record {
    apt = near_moved x e' h end;
    bearer = refl;
    contact = same_contact x (with_near x e') (ap (λ b. b || is_up_at x.far) (same.0 ∙ ap is_up_at (sym is))) refl refl;
    near = same.1 ∙ ap epochs_at (sym is);
    far = refl;
  },
  refl,
)

-- the near link's states changed so, and this follows
pub follows : (x : PairEnds) (e e' : LinkEnd) (change : Change) (epoch : ℕ) → IsApt x → x.near ≡ Some e → MovesTo x.bearer e e' change → Runs x (following (with_near x e') change epoch)
follows x e e' Up epoch h is m =
    let y = with_near x e' in
    let t = LinkUp x.bearer e'.fsm.own (known e'.fsm.peer) in
    let apt = near_moved x e' h m.end in
    tested (λ (c : Course). Goes x c.pair (t ∷ c.changes)) (is_up_at x.far) (if x.bearer == 0 then switch y else rests y) (contact_begins y)
    (λ far. let first = up_beside x e' h m.end m.moved.1 far in
    tested (λ (c : Course). Goes x c.pair (t ∷ c.changes)) (x.bearer == 0) (switch y) (rests y) (λ _. then_quiet x y (switch y) t first (switch_quiet y y.near y.far apt refl refl)) (λ _. first))
    (λ far. up_alone x e e' h is m far)
follows x e e' (Down because) epoch h is m =
    let y = with_near x e' in
    let t = LinkDown x.bearer because (shown_with because epoch) in
    let apt = near_moved x e' h m.end in
    tested (λ (c : Course). Goes x c.pair (t ∷ c.changes)) (is_up_at x.far) (fail_over y) (contact_ends y (x.contact, x.seen) 0)
    (λ far. then_quiet x y (fail_over y) t (down_beside x e' because (shown_with because epoch) h m.end m.moved.1 far) (fail_over_quiet y y.near y.far apt refl refl))
    (λ far. parts x y (t ∷ []) (x.contact, x.seen) 0 apt refl (contact_there x (by_near x (ap is_up_at is ∙ m.moved.0))) refl (tt, tt) (h.two, tt)
    (down_epochs e' m.moved.1 ∙ sym (ap (λ b. if b then None else epochs_at x.near) (itself x.bearer)))
    (sym (ap (λ b. if b then None else epochs_at x.far) (apart x.bearer h.two))))
follows x e e' Stay epoch h is m = quiet_runs x (rests (with_near x e')) (moved_still x e e' h is m.end m.moved)
follows x e e' (Answer back) epoch h is m = quiet_runs x (rests (with_near x e')) (moved_still x e e' h is m.end m.moved)
follows x e e' (Ignore reason) epoch h is m = quiet_runs x (rests (with_near x e')) (moved_still x e e' h is m.end m.moved)
