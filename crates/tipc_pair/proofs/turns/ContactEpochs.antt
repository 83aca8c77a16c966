-- The contact number of a pair stays of its boot, and the link states of both ends under it, whatever a turn does: the number rises only with the
-- end of a contact, and no link is up at the last one.
use Rattle.std.specs.Prelude.{IfSome, ◌==◌, ◌||◌, if◌then◌else◌}
use Rattle.std.proofs.Common.{◌≡◌, ◌≢◌, ◌≤◌, ◌+◌, ◌%◌, ℕ, true, false, List, Option, Some, None, option_map, refl, sym, subst, arith}
use Rattle.std.proofs.lemmas.Bool.Decides.{nat_tests}
use Rattle.tipc_types.specs.LinkStates.{is_up}
use Rattle.tipc_outside.specs.declared.outgoing.Outgoing.{Outgoing}
use Rattle.tipc_link_fsm.specs.declared.changes.Change.{Change}
use Rattle.tipc_link_fsm.specs.declared.changes.Change.TheVariants.{Down, Up}
use Rattle.tipc_link_fsm.specs.Table.{Fsm, Outcome, forget_peer, is_last, release}
use Rattle.tipc_link_fsm.proofs.Moves.{forget_peer_moves, release_moves}
use Rattle.tipc_contact.proofs.Calls.{not_last}
use Rattle.tipc_link.specs.Links.{LinkEnd, is_down, mended_end, named_end, tunnelled_end, with_session}
use Rattle.tipc_link.specs.Sessions.{SessionEnd, answered as said, flushed, with_broadcast}
use Rattle.tipc_link.proofs.Ends.{ended-is}
use Rattle.tipc_pair.specs.Addressed.{HasEpochs, IsEpoch}
use Rattle.tipc_pair.specs.Changeovers.{contact_begins, contact_ends, fail_over, fail_over_to, failing, following, forgetting, forgotten, gone_down, gone_up, let_go, parted, parted_end, switch, switch_from, switching}
use Rattle.tipc_pair.specs.Courses.{Course, going_on, rests as nothing}
use Rattle.tipc_pair.specs.Facing.{PairEnds, facing, in_contact, is_up_at, turned, with_near}
use Rattle.tipc_pair.specs.PairArrivals.{inside_of}
use Rattle.tipc_pair.specs.PairFacts.{AreStatesOf}
use Rattle.tipc_pair.specs.PairTurns.{Happened, Opening, Outset, PairTurn, PutsOne, Reply, replied}
use Rattle.tipc_pair.specs.PairTurns.Opening.{hears, makes, ticks}
use Rattle.tipc_pair.proofs.EndSteps.{outcome_falls, peer_tunnel_falls, states_apart, states_moved}
use Rattle.tipc_pair.proofs.Falls.{Falls, on_cut_falls, on_reset_falls, on_tick_falls}
use Rattle.tipc_pair.proofs.acts.Acts.{Act, Acts, Ran, Steps}
use Rattle.tipc_pair.proofs.acts.Acts.Acts.{answered, counted, let_go_of, made, mended, moved, opened, put, raised}
use Rattle.tipc_pair.proofs.acts.Acts.Steps.{cut, meet, name, reset, tick}
use Rattle.tipc_pair.proofs.acts.Acting.{MayHappen, MayTurn, happened_ran, hears_may, opens_may, put_one_ran, replied_ran, turn_course, turn_pair, turn_ran}
use Rattle.tipc_pair.proofs.acts.Walks.{Walk, step_moves, tested, walks}

-- ---- the ends

-- an end, where it was made, has link states under this contact number
abbrev AreUnder : ℕ → Option LinkEnd → Type 0
AreUnder contact end = IfSome end (λ (e : LinkEnd). AreStatesOf contact e.fsm)

near_states : (x : PairEnds) (e : LinkEnd) → x.near ≡ Some e → HasEpochs x → AreStatesOf x.contact e.fsm
near_states x e is h = subst (AreUnder x.contact) is h.near

far_states : (x : PairEnds) (e : LinkEnd) → x.far ≡ Some e → HasEpochs x → AreStatesOf x.contact e.fsm
far_states x e is h = subst (AreUnder x.contact) is h.far

near_kept : (x : PairEnds) (e : LinkEnd) → AreStatesOf x.contact e.fsm → HasEpochs x → HasEpochs (with_near x e)
near_kept x e states h = record { contact = h.contact; near = states; far = h.far }

turned_kept : (x : PairEnds) → HasEpochs x → HasEpochs (turned x)
turned_kept x h = record { contact = h.contact; near = h.far; far = h.near }

-- ---- a contact ends

-- no link is up at the last contact number of a boot
going : (contact : ℕ) (f : Fsm) → AreStatesOf contact f → is_up f.state ≡ true → is_last contact ≡ false
going contact f h up = not_last contact f.own h.order (sym h.boot) (h.going_on up)

going_at : (contact : ℕ) (end : Option LinkEnd) → AreUnder contact end → is_up_at end ≡ true → is_last contact ≡ false
going_at contact None h up = absurd (let wrong : ⊥ = cc in wrong)
going_at contact (Some e) h up = going contact e.fsm h up

going_in : (x : PairEnds) → HasEpochs x → in_contact x ≡ true → is_last x.contact ≡ false
going_in x h there = elim (is_up_at x.near) as (λ b. is_up_at x.near ≡ b → (b || is_up_at x.far) ≡ true → is_last x.contact ≡ false) [
  | true ↦ λ up any. going_at x.contact x.near h.near up
  | false ↦ λ down far. going_at x.contact x.far h.far far
] refl there

next_number : (contact : ℕ) → IsEpoch contact → is_last contact ≡ false → IsEpoch (contact + 1)
unfolding is_last
next_number contact is more =
    let least = is.0 in
    let fits = is.1 in
    let differs : contact % 4294967296 ≢ 4294967295 = grind (arith, nat_tests, more) in
    (omega (arith, least), omega arith)

apart_under : (contact seen : ℕ) (end : Option LinkEnd) → is_last contact ≡ false → AreUnder contact end → AreUnder (contact + 1) (option_map (parted_end (contact + 1) seen) end)
apart_under contact seen None more h = h
apart_under contact seen (Some e) more h = subst (AreStatesOf (contact + 1)) (sym (ended-is e.fsm)) (states_apart contact e.fsm h more)

parted_kept : (x : PairEnds) → is_last x.contact ≡ false → HasEpochs x → HasEpochs (parted x)
parted_kept x more h = record { contact = next_number x.contact h.contact more; near = apart_under x.contact x.seen x.near more h.near; far = apart_under x.contact x.seen x.far more h.far }

forgets_under : (contact seen : ℕ) (end : Option LinkEnd) → AreUnder contact end → AreUnder contact (option_map (forgetting seen) end)
forgets_under contact seen None h = h
forgets_under contact seen (Some e) h = states_moved contact e.fsm None (forget_peer e.fsm) h (forget_peer_moves e.fsm None)

-- ---- what follows a change of the near link

failing_kept : (x : PairEnds) (near far : LinkEnd) (lost s : Option SessionEnd) → x.near ≡ Some near → x.far ≡ Some far → HasEpochs x → HasEpochs (failing x near far lost s).pair
failing_kept x near far (Some lost) (Some s) one two h = record { contact = h.contact; near = near_states x near one h; far = far_states x far two h }
failing_kept x near far (Some lost) None one two h = h
failing_kept x near far None s one two h = h

fail_over_kept : (x : PairEnds) (o p : Option LinkEnd) → x.near ≡ o → x.far ≡ p → HasEpochs x → HasEpochs (fail_over_to x o p).pair
fail_over_kept x (Some near) (Some far) one two h = failing_kept x near far near.session far.session one two h
fail_over_kept x (Some near) None one two h = h
fail_over_kept x None p one two h = h

switching_kept : (x : PairEnds) (near far : LinkEnd) (s old : Option SessionEnd) → x.near ≡ Some near → x.far ≡ Some far → HasEpochs x → HasEpochs (switching x near far s old).pair
switching_kept x near far (Some s) (Some old) one two h = record { contact = h.contact; near = near_states x near one h; far = far_states x far two h }
switching_kept x near far (Some s) None one two h = h
switching_kept x near far None old one two h = h

switch_kept : (x : PairEnds) (o p : Option LinkEnd) → x.near ≡ o → x.far ≡ p → HasEpochs x → HasEpochs (switch_from x o p).pair
switch_kept x (Some near) (Some far) one two h = switching_kept x near far near.session far.session one two h
switch_kept x (Some near) None one two h = h
switch_kept x None p one two h = h

abbrev Epochs : Course → Type 0
Epochs c = HasEpochs c.pair

up_kept : (x : PairEnds) → HasEpochs x → HasEpochs (gone_up x).pair
up_kept x h = tested Epochs (is_up_at x.far) (if x.bearer == 0 then switch x else nothing x) (contact_begins x)
    (λ _. tested Epochs (x.bearer == 0) (switch x) (nothing x) (λ _. switch_kept x x.near x.far refl refl h) (λ _. h)) (λ _. record { contact = h.contact; near = h.near; far = h.far })

down_kept : (x : PairEnds) → is_last x.contact ≡ false → HasEpochs x → HasEpochs (gone_down x).pair
down_kept x more h = tested Epochs (is_up_at x.far) (fail_over x) (contact_ends x (x.contact, x.seen) 0) (λ _. fail_over_kept x x.near x.far refl refl h) (λ _. parted_kept x more h)

following_kept : (x : PairEnds) (change : Change) (epoch : ℕ) → (is_down change ≡ true → is_last x.contact ≡ false) → HasEpochs x → HasEpochs (following x change epoch).pair
following_kept x Up epoch more h = up_kept x h
following_kept x (Down cause) epoch more h = down_kept x (more refl) h
following_kept x other epoch more h = h

-- ---- the acts

step_falls : (x : PairEnds) (a : Act) (e : LinkEnd) (o : Outcome) (e' : LinkEnd) (states numbered : List Outgoing) (epoch : ℕ) → Steps x e a o e' states numbered epoch → Falls e.fsm o
step_falls x _ e _ _ _ _ _ cut = on_cut_falls e.fsm (is_up_at x.far)
step_falls x _ e _ _ _ _ _ (tick shown) = on_tick_falls e.fsm (is_up_at x.far)
step_falls x _ e _ _ _ _ _ (reset es held shown) = on_reset_falls e.fsm es held
step_falls x _ e _ _ _ _ _ (meet es er p by shown) = outcome_falls e.fsm p.header es er (is_up_at x.far)
step_falls x _ e _ _ _ _ _ (name epoch) = peer_tunnel_falls e.fsm epoch

-- by an act at the near link
act_kept : (x : PairEnds) (a : Act) (c : Course) → Acts x a c → HasEpochs x → HasEpochs c.pair
unfolding going_on
act_kept _ _ _ (made x) h = record { contact = h.contact; near = record { order = omega arith; boot = refl; going_on = λ up. absurd (let wrong : ⊥ = cc in wrong) }; far = h.far }
act_kept _ _ _ (mended x e near) h = near_kept x (mended_end e) (near_states x e near h) h
act_kept _ _ _ (moved x a e o e' states numbered epoch near step) h =
    let was = near_states x e near h in
    let m = step_moves x a e o e' states numbered epoch step in
    let is : AreStatesOf x.contact e'.fsm = subst (AreStatesOf x.contact) (sym m.fsm) (states_moved x.contact e.fsm m.shown o was m.moves) in
    following_kept (with_near x e') o.change epoch (λ down. going x.contact e.fsm was (step_falls x a e o e' states numbered epoch step down).0) (near_kept x e' is h)
act_kept _ _ _ (raised x number) h =
    tested Epochs (in_contact x) (contact_ends (record x { seen = number }) (x.contact, x.seen) number) (nothing (forgotten x number))
    (λ there. parted_kept (record x { seen = number }) (going_in x h there) (record { contact = h.contact; near = h.near; far = h.far }))
    (λ _. record { contact = h.contact; near = forgets_under x.contact number x.near h.near; far = forgets_under x.contact number x.far h.far })
act_kept _ _ _ (let_go_of x e near clear) h = near_kept x (let_go e) (states_moved x.contact e.fsm None (release e.fsm) (near_states x e near h) (release_moves e.fsm None)) h
act_kept _ _ _ (counted x e t by near) h =
    let was = near_states x e near h in
    tested (λ d. HasEpochs (with_near x d)) (t.count == 0) (named_end e t.old.epoch) (tunnelled_end e t.old.epoch (inside_of t by))
    (λ _. near_kept x (named_end e t.old.epoch) was h) (λ _. near_kept x (tunnelled_end e t.old.epoch (inside_of t by)) was h)
act_kept _ _ _ (opened x packets given last brings) h = record { contact = h.contact; near = h.near; far = h.far }
act_kept _ _ _ (put x e s pieces s' near has is) h = near_kept x (with_session e (flushed s')) (near_states x e near h) h
act_kept _ _ _ (answered x e taken asks shown near) h =
    let was = near_states x e near h in
    tested (λ d. HasEpochs (with_near x d)) (is_up e.fsm.state) (record e { session = option_map (λ s. said (with_broadcast s taken asks)) e.session }) e
    (λ _. near_kept x (record e { session = option_map (λ s. said (with_broadcast s taken asks)) e.session }) was h) (λ _. near_kept x e was h)

-- ---- a turn

abbrev Any : PairEnds → Act → Type 0
Any x a = Unit {0}

staying : Walk Any (λ x c. HasEpochs x → HasEpochs c.pair)
unfolding going_on
staying = record {
  rests = λ x h. h;
  goes_on = λ x first step one two h. two (one h);
  turns = λ x c there h. turned_kept c.pair (there (turned_kept x h));
  acts = λ x a c may does h. act_kept x a c does h;
}

ran_epochs : (x : PairEnds) (c : Course) → Ran Any x c → HasEpochs x → HasEpochs c.pair
ran_epochs x c run h = walks Any (λ y d. HasEpochs y → HasEpochs d.pair) staying x c run h

any_first : (x : PairEnds) (opening : Opening) → MayHappen Any x opening
any_first x (makes bearer is_mended) = (tt, tt)
any_first x (ticks shown) = λ y. tt
any_first x (hears bearer es er p by shown) = record {
  hears = hears_may Any p.header es er p by shown (facing bearer x) (λ number. tt) (λ y. tt) (λ y. tt);
  opens = opens_may Any _ _ (λ y epoch. tt) (λ y t by'. tt) (λ y packets given. tt);
}
any_first x other = tt

pub first_epochs : (x : PairEnds) (opening : Opening) (o : Outset) → x.bearer ≤ 1 → Happened x opening o → HasEpochs x → HasEpochs o.course.pair
first_epochs x opening o two is h = ran_epochs x o.course (happened_ran Any (λ y. tt) x opening o two (any_first x opening) is) h

pub put_epochs : (x : PairEnds) (pieces : List (List ℕ)) (y : PairEnds) (frames : List Outgoing) → x.bearer ≤ 1 → PutsOne x pieces y frames → HasEpochs x → HasEpochs y
put_epochs x pieces y frames two is h = ran_epochs x (record (nothing y) { numbered = frames }) (put_one_ran Any x pieces y frames two (λ z up. tt) is) h

pub replied_epochs : (reply : Option Reply) (x : PairEnds) → x.bearer ≤ 1 → HasEpochs x → HasEpochs (replied reply x).pair
replied_epochs reply x two h = ran_epochs x (replied reply x) (replied_ran Any reply x two (λ r is y. tt)) h

pub turn_keeps_epochs : (x y : PairEnds) (opening : Opening) (messages : List (List ℕ)) (reply : Option Reply) (frames : List Outgoing) → x.bearer ≤ 1 → PairTurn x opening messages reply y frames → HasEpochs x → HasEpochs y
turn_keeps_epochs x y opening messages reply frames two t h =
    let may : MayTurn Any x opening messages reply = record { happens = any_first x opening; puts = λ i d within z up. tt; answers = λ r is z. tt } in
    subst HasEpochs (sym (turn_pair x y opening messages reply frames t)) (ran_epochs x (turn_course t) (turn_ran Any (λ z. tt) x y opening messages reply frames two may t) h)
