-- The numbers of a pair rise by one at most for each change of its links or its contact that is told.
use Rattle.std.proofs.Common.{◌≡◌, ◌≤◌, ◌+◌, ◌==◌, ◌||◌, ◌&&◌, ◌⊎◌, ◌∙◌, ℕ, Bool, true, false, List, [], ◌∷◌, ◌++◌, Option, Some, None, option_map, nat_lt, not, length, inl, inr, refl, sym, ap, subst, arith, length-append}
use Rattle.std.specs.Prelude.{IfSome, if◌then◌else◌}
use Rattle.std.specs.List.{flat_map}
use Rattle.std.proofs.lemmas.Bool.{true≢false}
use Rattle.tipc_types.specs.LinkStates.{is_up}
use Rattle.tipc_header.specs.declared.contents.HeaderContent.{HeaderContent}
use Rattle.tipc_header.specs.declared.contents.HeaderContent.TheVariants as content
use Rattle.tipc_header.specs.declared.contents.Notice.TheVariants as notices
use Rattle.tipc_header.specs.Contents.{header_content}
use Rattle.tipc_outside.specs.declared.outgoing.Outgoing.{Outgoing}
use Rattle.tipc_link_fsm.specs.declared.changes.Change.{Change}
use Rattle.tipc_link_fsm.specs.declared.changes.Change.TheVariants.{Answer, Down, Ignore, Stay, Up}
use Rattle.tipc_types.specs.declared.link_words.LinkState.{LinkState}
use Rattle.tipc_types.specs.declared.link_words.LinkState.TheVariants.{Held, ResetReset, ResetUnknown, WorkingUnknown, WorkingWorking}
use Rattle.tipc_link_fsm.specs.Table.{Fsm, Outcome, is_held, is_in_reset, is_last, is_peer, is_reset_reset, is_session, next_epoch, on_activate, on_cut, on_peer_tunnel, on_reset, on_tick, on_traffic, release, tick_in, up_tick}
use Rattle.tipc_link_fsm.proofs.Moves.{cases_on}
use Rattle.tipc_link.specs.Links.{LinkEnd, answered_with, frames_with, is_down, mend_frames, mended_end, named_end, outcome_as, release_frames, tunnelled_end, with_session}
use Rattle.tipc_link.specs.Sessions.{SessionEnd, answered as said, flush_frames, flushed, with_broadcast}
use Rattle.tipc_link.proofs.Ends.{ended-is, forgotten-is}
use Rattle.tipc_pair.specs.declared.transitions.Transition.{Transition}
use Rattle.tipc_pair.specs.declared.transitions.Transition.TheVariants.{LinkDown}
use Rattle.tipc_pair.specs.Changeovers.{contact_begins, contact_ends, ended_with, fail_over, fail_over_to, failing, following, forgetting, forgotten, gone_down, gone_up, let_go, parted, parted_end, shown_with, switch, switch_from, switching, up_told}
use Rattle.tipc_pair.specs.Courses.{Course, going_on, rests as nothing}
use Rattle.tipc_pair.specs.Facing.{PairEnds, ends_of, facing, in_contact, is_up_at, turned, with_made, with_near}
use Rattle.tipc_pair.specs.PairArrivals.{inner_taken, inside_of}
use Rattle.tipc_pair.specs.PairTurns.{Opening, PairTurn, Reply}
use Rattle.tipc_pair.specs.PairTurns.Opening.{hears, makes, ticks}
use Rattle.tipc_pair.proofs.EndSteps.{fsm_after, fsm_arrived}
use Rattle.tipc_pair.proofs.acts.Acts.{Act, Acts, Steps, near_course}
use Rattle.tipc_pair.proofs.acts.Acts.Acts.{answered, counted, let_go_of, made, mended, moved, opened, put, raised}
use Rattle.tipc_pair.proofs.acts.Acts.Steps.{cut, meet, name, reset, tick}
use Rattle.tipc_pair.proofs.acts.Acting.{MayHappen, MayTurn, hears_may, opens_may, turn_changes, turn_course, turn_pair, turn_ran}
use Rattle.tipc_pair.proofs.acts.Walks.{Walk, tested, walks}
use Rattle.tipc_node.specs.Ends.{IsAtMost}

-- ---- the link states

-- an end that isn't taken down keeps its epoch; one that is takes the next one
abbrev Raises : Fsm → Outcome → Type 0
Raises f o = (o.after.own ≡ f.own) ⊎ ((o.after.own ≤ f.own + 1) × (is_down o.change ≡ true))

next_low : (own : ℕ) → next_epoch own ≤ own + 1
next_low own = elim (is_last own) as (λ b. (if b then own else own + 1) ≤ own + 1) [ true ↦ omega arith | false ↦ omega arith ]

cut_raises : (f : Fsm) (held : Bool) → Raises f (on_cut f held)
unfolding on_cut
cut_raises f held = cases_on (Raises f) (is_up f.state) _ _ (λ _. inr (next_low f.own, refl)) (λ _. inl refl)

tunnel_raises : (f : Fsm) (epoch : ℕ) → Raises f (on_peer_tunnel f epoch)
unfolding on_peer_tunnel
tunnel_raises f epoch = cases_on (Raises f) (is_up f.state && is_peer f.peer epoch) _ _ (λ _. inr (next_low f.own, refl)) (λ _. inl refl)

reset_raises : (f : Fsm) (es : ℕ) (held : Bool) → Raises f (on_reset f es held)
unfolding on_reset
reset_raises f es held = cases_on (Raises f) (is_held f.state) _ _ (λ _. inl refl)
    (λ _. cases_on (Raises f) (nat_lt es f.highest || (is_up f.state && is_peer f.peer es)) _ _ (λ _. inl refl)
    (λ _. cases_on (Raises f) (is_up f.state) _ _ (λ _. inr (next_low f.own, refl)) (λ _. inl refl)))

activate_raises : (f : Fsm) (es er : ℕ) → Raises f (on_activate f es er)
unfolding on_activate
activate_raises f es er = cases_on (Raises f) (is_held f.state) _ _ (λ _. inl refl)
    (λ _. cases_on (Raises f) ((is_in_reset f.state && not (is_last f.own)) && ((er == f.own) && not (nat_lt es f.highest))) _ _ (λ _. inl refl)
    (λ _. cases_on (Raises f) (is_up f.state && is_session f es er) _ _ (λ _. inl refl) (λ _. inl refl)))

traffic_raises : (f : Fsm) (es er : ℕ) → Raises f (on_traffic f es er)
unfolding on_traffic
traffic_raises f es er = cases_on (Raises f) (is_session f es er && (is_reset_reset f.state && not (is_last f.own))) _ _ (λ _. inl refl)
    (λ _. cases_on (Raises f) (is_session f es er && is_up f.state) _ _ (λ _. inl refl) (λ _. inl refl))

up_tick_raises : (f : Fsm) (held : Bool) → Raises f (up_tick f held)
up_tick_raises f held = cases_on (Raises f) (f.silent == 4) _ _ (λ _. inr (next_low f.own, refl)) (λ _. inl refl)

tick_in_raises : (st : LinkState) (f : Fsm) (held : Bool) → Raises f (tick_in st f held)
tick_in_raises ResetUnknown f held = inl refl
tick_in_raises ResetReset f held = inl refl
tick_in_raises Held f held = inl refl
tick_in_raises WorkingWorking f held = up_tick_raises f held
tick_in_raises WorkingUnknown f held = up_tick_raises f held

tick_raises : (f : Fsm) (held : Bool) → Raises f (on_tick f held)
unfolding on_tick
tick_raises f held = tick_in_raises f.state f held

content_raises : (f : Fsm) (c : HeaderContent) (es er : ℕ) (held : Bool) → Raises f (outcome_as f c es er held)
content_raises f (content.Notice (notices.Reset r)) es er held = reset_raises f es held
content_raises f (content.Notice (notices.Activate a)) es er held = activate_raises f es er
content_raises f content.Discovery es er held = inl refl
content_raises f content.Numbered es er held = traffic_raises f es er
content_raises f (content.State t) es er held = traffic_raises f es er

-- the step of an end
step_raises : (x : PairEnds) (a : Act) (e : LinkEnd) (o : Outcome) (e' : LinkEnd) (states numbered : List Outgoing) (epoch : ℕ) → Steps x e a o e' states numbered epoch → (e'.fsm ≡ o.after) × Raises e.fsm o
step_raises x _ e _ _ _ _ _ cut = (refl, cut_raises e.fsm (is_up_at x.far))
step_raises x _ e _ _ _ _ _ (tick shown) = (fsm_after e _, tick_raises e.fsm (is_up_at x.far))
step_raises x _ e _ _ _ _ _ (reset es held shown) = (fsm_after e _, reset_raises e.fsm es held)
step_raises x _ e _ _ _ _ _ (meet es er p by shown) = (fsm_arrived e _ p by, content_raises e.fsm (header_content p.header) es er (is_up_at x.far))
step_raises x _ e _ _ _ _ _ (name epoch) = (refl, tunnel_raises e.fsm epoch)

-- ---- a pair

abbrev UpTo : ℕ → Option LinkEnd → Type 0
UpTo m end = IfSome end (λ (e : LinkEnd). e.fsm.own ≤ m)

end_more : (m n : ℕ) (o : Option LinkEnd) → m ≤ n → UpTo m o → UpTo n o
end_more m n None more h = tt
end_more m n (Some e) more h = omega (arith, more, h)

pub at_most_more : (m n : ℕ) (x : PairEnds) → m ≤ n → IsAtMost m x → IsAtMost n x
at_most_more m n x more h = let contact = h.contact in record { contact = omega (arith, more, contact); near = end_more m n x.near more h.near; far = end_more m n x.far more h.far }

near_most : (m : ℕ) (x : PairEnds) (e : LinkEnd) → x.near ≡ Some e → IsAtMost m x → e.fsm.own ≤ m
near_most m x e is h = subst (UpTo m) is h.near

far_most : (m : ℕ) (x : PairEnds) (e : LinkEnd) → x.far ≡ Some e → IsAtMost m x → e.fsm.own ≤ m
far_most m x e is h = subst (UpTo m) is h.far

near_other : (m : ℕ) (x : PairEnds) (e : LinkEnd) → e.fsm.own ≤ m → IsAtMost m x → IsAtMost m (with_near x e)
near_other m x e low h = record { contact = h.contact; near = low; far = h.far }

turned_most : (m : ℕ) (x : PairEnds) → IsAtMost m x → IsAtMost m (turned x)
turned_most m x h = record { contact = h.contact; near = h.far; far = h.near }

-- by a course the numbers rise by one at most for each change that is told
abbrev Rises : PairEnds → Course → Type 0
Rises x c = (m : ℕ) → IsAtMost m x → IsAtMost (m + length c.changes) c.pair

-- where nothing is told, they stay
stays_most : (m : ℕ) (c : Course) → IsAtMost m c.pair → IsAtMost (m + length c.changes) c.pair
stays_most m c h = at_most_more m (m + length c.changes) c.pair (omega arith) h

-- ---- a contact ends

ended_most : (m contact seen : ℕ) (o : Option LinkEnd) → UpTo m o → UpTo (m + 1) (option_map (parted_end contact seen) o)
ended_most m contact seen None h = tt
ended_most m contact seen (Some e) h =
    let same : (parted_end contact seen e).fsm.own ≡ next_epoch e.fsm.own = ap (λ (f : Fsm). f.own) (ended-is e.fsm) in
    let low = next_low e.fsm.own in
    omega (arith, same, low, h)

ends_most : (x : PairEnds) (contact : ℕ × ℕ) (shown : ℕ) → Rises x (contact_ends x contact shown)
ends_most x contact shown m h =
    let number = h.contact in
    let parts : IsAtMost (m + 1) (parted x) = record { contact = omega (arith, number); near = ended_most m (x.contact + 1) x.seen x.near h.near; far = ended_most m (x.contact + 1) x.seen x.far h.far } in
    at_most_more (m + 1) (m + length (contact_ends x contact shown).changes) (parted x) (last_one m (flat_map ended_with (ends_of x)) _) parts
  where
    last_one : (m : ℕ) (xs : List Transition) (t : Transition) → m + 1 ≤ m + length (xs ++ t ∷ [])
    last_one m xs t = let long = length-append xs (t ∷ []) in omega (arith, long)

-- ---- what follows a change of the near link

failing_most : (m : ℕ) (x : PairEnds) (near far : LinkEnd) (lost s : Option SessionEnd) → x.near ≡ Some near → x.far ≡ Some far → IsAtMost m x → IsAtMost m (failing x near far lost s).pair
failing_most m x near far (Some lost) (Some s) one two h = record { contact = h.contact; near = near_most m x near one h; far = far_most m x far two h }
failing_most m x near far (Some lost) None one two h = h
failing_most m x near far None s one two h = h

fail_over_most : (m : ℕ) (x : PairEnds) (o p : Option LinkEnd) → x.near ≡ o → x.far ≡ p → IsAtMost m x → IsAtMost m (fail_over_to x o p).pair
fail_over_most m x (Some near) (Some far) one two h = failing_most m x near far near.session far.session one two h
fail_over_most m x (Some near) None one two h = h
fail_over_most m x None p one two h = h

switching_most : (m : ℕ) (x : PairEnds) (near far : LinkEnd) (s old : Option SessionEnd) → x.near ≡ Some near → x.far ≡ Some far → IsAtMost m x → IsAtMost m (switching x near far s old).pair
switching_most m x near far (Some s) (Some old) one two h = record { contact = h.contact; near = near_most m x near one h; far = far_most m x far two h }
switching_most m x near far (Some s) None one two h = h
switching_most m x near far None old one two h = h

switch_most : (m : ℕ) (x : PairEnds) (o p : Option LinkEnd) → x.near ≡ o → x.far ≡ p → IsAtMost m x → IsAtMost m (switch_from x o p).pair
switch_most m x (Some near) (Some far) one two h = switching_most m x near far near.session far.session one two h
switch_most m x (Some near) None one two h = h
switch_most m x None p one two h = h

up_most : (x : PairEnds) → Rises x (gone_up x)
up_most x = tested (Rises x) (is_up_at x.far) (if x.bearer == 0 then switch x else nothing x) (contact_begins x)
    (λ _. tested (Rises x) (x.bearer == 0) (switch x) (nothing x) (λ _ m h. stays_most m (switch x) (switch_most m x x.near x.far refl refl h)) (λ _ m h. stays_most m (nothing x) h))
    (λ _ m h. stays_most m (contact_begins x) (record { contact = h.contact; near = h.near; far = h.far }))

down_most : (x : PairEnds) → Rises x (gone_down x)
down_most x = tested (Rises x) (is_up_at x.far) (fail_over x) (contact_ends x (x.contact, x.seen) 0) (λ _ m h. stays_most m (fail_over x) (fail_over_most m x x.near x.far refl refl h)) (λ _. ends_most x (x.contact, x.seen) 0)

-- the near end may have taken the next epoch, where it went down: that is told
abbrev AfterStep : ℕ → PairEnds → Change → Type 0
AfterStep m x change = IsAtMost m x ⊎ (IsAtMost (m + 1) x × (is_down change ≡ true))

told_first : (m n : ℕ) (t : Transition) (changes : List Transition) (x : PairEnds) → m ≤ n + 1 → IsAtMost (m + length changes) x → IsAtMost (n + length (t ∷ changes)) x
told_first m n t changes x low h = at_most_more (m + length changes) (n + length (t ∷ changes)) x (omega (arith, low)) h

following_most : (x : PairEnds) (change : Change) (epoch m : ℕ) → AfterStep m x change → IsAtMost (m + length (following x change epoch).changes) (following x change epoch).pair
following_most x Up epoch m (inl h) = told_first m m (up_told x.bearer x.near) (gone_up x).changes (gone_up x).pair (omega arith) (up_most x m h)
following_most x Up epoch m (inr h) = absurd (let wrong : false ≡ true = h.1 in true≢false (sym wrong))
following_most x (Down cause) epoch m (inl h) = told_first m m (LinkDown x.bearer cause (shown_with cause epoch)) (gone_down x).changes (gone_down x).pair (omega arith) (down_most x m h)
following_most x (Down cause) epoch m (inr h) = told_first (m + 1) m (LinkDown x.bearer cause (shown_with cause epoch)) (gone_down x).changes (gone_down x).pair (omega arith) (down_most x (m + 1) h.0)
following_most x Stay epoch m (inl h) = stays_most m (nothing x) h
following_most x Stay epoch m (inr h) = absurd (true≢false (sym h.1))
following_most x (Answer reply) epoch m (inl h) = stays_most m (nothing x) h
following_most x (Answer reply) epoch m (inr h) = absurd (true≢false (sym h.1))
following_most x (Ignore reason) epoch m (inl h) = stays_most m (nothing x) h
following_most x (Ignore reason) epoch m (inr h) = absurd (true≢false (sym h.1))

-- ---- the acts

-- a peer's number is forgotten by ends that are down
forgets_most : (m seen : ℕ) (o : Option LinkEnd) → is_up_at o ≡ false → UpTo m o → UpTo m (option_map (forgetting seen) o)
forgets_most m seen None down h = tt
forgets_most m seen (Some e) down h = let same : (forgetting seen e).fsm.own ≡ e.fsm.own = ap (λ (f : Fsm). f.own) (forgotten-is e.fsm down) in omega (arith, same, h)

neither : (a b : Bool) → (a || b) ≡ false → (a ≡ false) × (b ≡ false)
neither true b is = absurd (true≢false is)
neither false b is = (refl, is)

released_own : (f : Fsm) → (release f).after.own ≡ f.own
unfolding release
released_own f = cases_on (λ o. o.after.own ≡ f.own) (is_held f.state) _ _ (λ _. refl) (λ _. refl)

stepped : (m : ℕ) (x : PairEnds) (e e' : LinkEnd) (o : Outcome) → x.near ≡ Some e → IsAtMost m x → e'.fsm ≡ o.after → Raises e.fsm o → AfterStep m (with_near x e') o.change
stepped m x e e' o near h is (inl same) =
    let own : e'.fsm.own ≡ e.fsm.own = ap (λ (f : Fsm). f.own) is ∙ same in
    let low = near_most m x e near h in
    inl (near_other m x e' (omega (arith, own, low)) h)
stepped m x e e' o near h is (inr rose) =
    let own : e'.fsm.own ≡ o.after.own = ap (λ (f : Fsm). f.own) is in
    let low = near_most m x e near h in
    let next = rose.0 in
    inr (near_other (m + 1) x e' (omega (arith, own, low, next)) (at_most_more m (m + 1) x (omega arith) h), rose.1)

act_most : (x : PairEnds) (a : Act) (c : Course) → Acts x a c → Rises x c
unfolding going_on
act_most _ _ _ (made x) m h = stays_most m (nothing (with_made x)) (record { contact = h.contact; near = h.contact; far = h.far })
act_most _ _ _ (mended x e near) m h = stays_most m (near_course x (mended_end e) (mend_frames e) []) (near_other m x (mended_end e) (near_most m x e near h) h)
act_most _ _ _ (moved x a e o e' states numbered epoch near step) m h =
    let s = step_raises x a e o e' states numbered epoch step in
    following_most (with_near x e') o.change epoch m (stepped m x e e' o near h s.0 s.1)
act_most _ _ _ (raised x number) m h =
    tested (λ (c : Course). IsAtMost (m + length c.changes) c.pair) (in_contact x) (contact_ends (record x { seen = number }) (x.contact, x.seen) number) (nothing (forgotten x number))
    (λ _. ends_most (record x { seen = number }) (x.contact, x.seen) number m (record { contact = h.contact; near = h.near; far = h.far }))
    (λ none.
    let both = neither (is_up_at x.near) (is_up_at x.far) none in
    stays_most m (nothing (forgotten x number)) (record { contact = h.contact; near = forgets_most m number x.near both.0 h.near; far = forgets_most m number x.far both.1 h.far }))
act_most _ _ _ (let_go_of x e near clear) m h =
    let low = near_most m x e near h in
    let same = released_own e.fsm in
    stays_most m (near_course x (let_go e) (release_frames e) []) (near_other m x (let_go e) (omega (arith, low, same)) h)
act_most _ _ _ (counted x e t by near) m h =
    let low = near_most m x e near h in
    stays_most m (near_course x (inner_taken t by e) [] [])
    (tested (λ d. IsAtMost m (with_near x d)) (t.count == 0) (named_end e t.old.epoch) (tunnelled_end e t.old.epoch (inside_of t by))
    (λ _. near_other m x (named_end e t.old.epoch) low h) (λ _. near_other m x (tunnelled_end e t.old.epoch (inside_of t by)) low h))
act_most _ _ _ (opened x packets given last brings) m h = stays_most m (nothing (record x { begun = last })) (record { contact = h.contact; near = h.near; far = h.far })
act_most _ _ _ (put x e s pieces s' near has is) m h = stays_most m (near_course x (with_session e (flushed s')) [] (flush_frames s')) (near_other m x (with_session e (flushed s')) (near_most m x e near h) h)
act_most _ _ _ (answered x e taken asks shown near) m h =
    let low = near_most m x e near h in
    stays_most m (near_course x (answered_with e taken asks) (frames_with e taken asks shown) [])
    (tested (λ d. IsAtMost m (with_near x d)) (is_up e.fsm.state) (record e { session = option_map (λ s. said (with_broadcast s taken asks)) e.session }) e
    (λ _. near_other m x (record e { session = option_map (λ s. said (with_broadcast s taken asks)) e.session }) low h) (λ _. near_other m x e low h))

-- ---- a turn

abbrev Any : PairEnds → Act → Type 0
Any x a = Unit {0}

rising : Walk Any Rises
unfolding going_on
rising = record {
  rests = λ x m h. stays_most m (nothing x) h;
  goes_on = λ x first step one two m h.
      let long = length-append first.changes (step first.pair).changes in
      at_most_more (m + length first.changes + length (step first.pair).changes) (m + length (first.changes ++ (step first.pair).changes)) (step first.pair).pair (omega (arith, long)) (two (m + length first.changes) (one m h));
  turns = λ x c there m h. turned_most (m + length c.changes) c.pair (there m (turned_most m x h));
  acts = λ x a c may does. act_most x a c does;
}

any_first : (x : PairEnds) (opening : Opening) → MayHappen Any x opening
any_first x (makes bearer is_mended) = (tt, tt)
any_first x (ticks shown) = λ y. tt
any_first x (hears bearer es er p by shown) = record {
  hears = hears_may Any p.header es er p by shown (facing bearer x) (λ number. tt) (λ y. tt) (λ y. tt);
  opens = opens_may Any _ _ (λ y epoch. tt) (λ y t by'. tt) (λ y packets given. tt);
}
any_first x other = tt

pub turn_most : (x y : PairEnds) (opening : Opening) (messages : List (List ℕ)) (reply : Option Reply) (frames : List Outgoing) → x.bearer ≤ 1 → (t : PairTurn x opening messages reply y frames) → (m : ℕ) → IsAtMost m x
    → IsAtMost (m + length t.first.course.changes) y
turn_most x y opening messages reply frames two t m h =
    let may : MayTurn Any x opening messages reply = record { happens = any_first x opening; puts = λ i d within z up. tt; answers = λ r is z. tt } in
    let after = walks Any Rises rising x (turn_course t) (turn_ran Any (λ z. tt) x y opening messages reply frames two may t) m h in
    subst (IsAtMost (m + length t.first.course.changes)) (sym (turn_pair x y opening messages reply frames t))
    (subst (λ (ts : List Transition). IsAtMost (m + length ts) (turn_course t).pair) (turn_changes x y opening messages reply frames t) after)
