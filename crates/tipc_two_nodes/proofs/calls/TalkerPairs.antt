-- The pair of a node stays one of link ends in each call that brings nothing, and goes on quietly.
use Rattle.std.specs.Prelude.{All}
use Rattle.std.proofs.Common.{◌≡◌, ◌≤◌, ℕ, Bool, false, List, Option, Some, None, refl, sym, ap, ◌∙◌, subst, arith}
use Rattle.tipc_types.specs.LinkStates.{is_up}
use Rattle.tipc_types.specs.declared.link_words.BroadcastState.{BroadcastState}
use Rattle.tipc_outside.specs.declared.outgoing.Outgoing.{Outgoing}
use Rattle.tipc_link.specs.Links.{LinkEnd, after, answered_with, mended_end, with_session}
use Rattle.tipc_link.specs.Parts.{IsShowable}
use Rattle.tipc_link.specs.Sessions.{flushed}
use Rattle.tipc_link_fsm.specs.Runs.{BearerIsCut, TickPasses}
use Rattle.tipc_link_fsm.specs.Table.{Fsm, is_held, on_cut}
use Rattle.tipc_pair.specs.Changeovers.{following, released}
use Rattle.tipc_pair.specs.Courses.{Course, going_on}
use Rattle.tipc_pair.specs.Facing.{PairEnds, facing, is_held_at, is_up_at, with_made, with_near}
use Rattle.tipc_pair.specs.PairCalls.{Puts, SendsWithin, answered_at, at_bearer, cut_at, cut_near, mended_near, tick_at, tick_near, ticked}
use Rattle.tipc_pair.specs.PairFacts.{IsPairOfEnds}
use Rattle.tipc_pair.specs.Runs.{IsListed}
use Rattle.tipc_pair.proofs.CourseLaws.{then_pair}
use Rattle.tipc_pair.proofs.EndFacts.{answered_kept, mended_kept, near_changed, near_kept, session_kept}
use Rattle.tipc_pair.proofs.EndSteps.{near_of, session_is}
use Rattle.tipc_pair.proofs.HeldLaws.{GoesQuietly, Shape, facing_quietly, quietly_facing, quietly_same, shape_contact, shape_held}
use Rattle.tipc_pair.proofs.HeldCalls.{answered_stays}
use Rattle.tipc_pair.proofs.SessionFacts.{flushed_on, put_on}
use Rattle.tipc_paired.proofs.PairedLaw.{all_paired}
use Rattle.tipc_paired.specs.Paired.{ArePaired}
use Rattle.tipc_paired.specs.Views.{View}
use Rattle.tipc_two_nodes.proofs.deeds.Calling.{turned_takes}
use Rattle.tipc_two_nodes.proofs.deeds.Calls.{is_cut, nothing_shown, tick_takes, unmended}
use Rattle.tipc_two_nodes.proofs.deeds.EndsKept.{ends_facing, released_ends, stepped_kept, ticked_kept}
use Rattle.tipc_two_nodes.proofs.deeds.Pairs.{of_facing, takes_at}
use Rattle.tipc_pair.proofs.turns.PairKept.{facing_bearer}
use Rattle.tipc_two_nodes.specs.deeds.PairDeeds.{IsOfPair, none_more}
use Rattle.tipc_two_nodes.proofs.links.receiver.BegunKept.{KeepsBegun, begun_same, begun_then}
use Rattle.tipc_two_nodes.proofs.messages.Begun.{facing_begun}
use Rattle.tipc_two_nodes.proofs.calls.QuietCourses.{released_numbers}

-- ---- link ends

pub at_ends : (b : ℕ) (x : PairEnds) (call : PairEnds → Course) → IsPairOfEnds (call (facing b x)).pair → IsPairOfEnds (at_bearer b x call).pair
at_ends b x call h = ends_facing x.bearer (call (facing b x)).pair h

pub made_ends : (x : PairEnds) → IsPairOfEnds x → IsPairOfEnds (with_made x)
made_ends x h = record {
  two_bearers = h.two_bearers;
  near = record {
    own_is = refl;
    peer_is = refl;
    bearer_is = refl;
    contact_is = refl;
    seen_is = refl;
    states = record { order = omega arith; boot = refl; going_on = λ up. absurd (let wrong : ⊥ = cc in wrong) };
    begun = λ up. absurd (let wrong : ⊥ = cc in wrong);
    session = tt;
  };
  far = h.far;
}

pub mended_ends : (x : PairEnds) (o : Option LinkEnd) → x.near ≡ o → IsPairOfEnds x → IsPairOfEnds (mended_near x o)
mended_ends x None near h = h
mended_ends x (Some e) near h = near_changed x e (mended_end e) (mended_end e) h near refl (λ own peer contact seen bearer. mended_kept own peer contact seen bearer e)

pub answered_ends : (x : PairEnds) (o : Option LinkEnd) (taken : ℕ) (asks : Bool) (shown : BroadcastState) → x.near ≡ o → IsPairOfEnds x → IsPairOfEnds (answered_at x o taken asks shown).pair
answered_ends x None taken asks shown near h = h
answered_ends x (Some e) taken asks shown near h = near_changed x e (answered_with e taken asks) (answered_with e taken asks) h near refl (answered_kept e taken asks)

cut_at_ends : (v y : View) (x : PairEnds) (o : Option LinkEnd) → ArePaired v y → IsOfPair v x → IsPairOfEnds x → x.near ≡ o → IsPairOfEnds (cut_at x o).pair
cut_at_ends v y x None h pair ends near = ends
cut_at_ends v y x (Some e) h pair ends near =
    let held = is_up_at x.far in
    let d = unmended e in
    let z = with_near x d in
    let t = turned_takes v y x e false pair near in
    let mid = t.0.0 in
    let was = near_of x e ends near in
    let ends' : IsPairOfEnds z = near_kept x d ends (record { own_is = was.own_is; peer_is = was.peer_is; bearer_is = was.bearer_is; contact_is = was.contact_is; seen_is = was.seen_is; states = was.states; begun = was.begun; session = was.session }) in
    let kept = stepped_kept mid y z d (BearerIsCut held) 0 nothing_shown (all_paired v y mid h t.0.1.did.does) t.0.1.pair ends' refl tt in
    let one : IsPairOfEnds (following (with_near z (after d (on_cut e.fsm held))) (on_cut e.fsm held).change 0).pair = subst IsPairOfEnds (then_pair _ (λ w. following w (on_cut e.fsm held).change 0)) kept in
    subst (λ k. IsPairOfEnds (following (with_near x k) (on_cut e.fsm held).change 0).pair) (is_cut e held nothing_shown).end one

pub cut_ends : (v y : View) (x : PairEnds) → ArePaired v y → IsOfPair v x → IsPairOfEnds x → IsPairOfEnds (cut_near x).pair
cut_ends v y x h pair ends = subst IsPairOfEnds (sym (then_pair (cut_at x x.near) released)) (released_ends (cut_at x x.near).pair (cut_at_ends v y x x.near h pair ends refl))

-- the near link of a pair that ticked is on one of two bearers
near_two : (v y : View) (x : PairEnds) (shown : BroadcastState) → ArePaired v y → IsOfPair v x → IsPairOfEnds x → (tick_near shown x).pair.bearer ≤ 1
near_two v y x shown h pair ends = ticked_two x.near refl where
  ticked_two : (o : Option LinkEnd) → x.near ≡ o → (tick_at shown x o).pair.bearer ≤ 1
  ticked_two None near = ends.two_bearers
  ticked_two (Some e) near = (stepped_kept v y x e (TickPasses (is_up_at x.far)) 0 shown h pair ends near tt).two_bearers

-- a tick passes at both links, and the pair is seen from the same link
pub ticked_ends : (v y : View) (x : PairEnds) (shown : BroadcastState) → ArePaired v y → IsOfPair v x → IsPairOfEnds x → IsShowable shown → IsPairOfEnds (ticked shown x).pair × ((ticked shown x).pair.bearer ≡ x.bearer)
ticked_ends v y x shown h pair ends showable =
    let call = tick_near shown in
    let one = (at_bearer 0 x call).pair in
    let two = (at_bearer 1 one call).pair in
    let both = going_on (at_bearer 0 x call) (λ z. at_bearer 1 z call) in
    let t = takes_at v y 0 x call _ none_more (tick_takes v y (facing 0 x) shown h (of_facing v 0 x pair) (ends_facing 0 x ends) showable) in
    let kept = ticked_kept v y 0 x shown h pair ends in
    let again = ticked_kept t.0 y 1 one shown (all_paired v y t.0 h t.1.did.does) t.1.pair kept in
    let after : both.pair ≡ two = then_pair (at_bearer 0 x call) (λ z. at_bearer 1 z call) in
    let ends' = subst IsPairOfEnds (sym after) again in
    let here : one.bearer ≡ x.bearer = facing_bearer x.bearer (call (facing 0 x)).pair ends.two_bearers (near_two v y (facing 0 x) shown h (of_facing v 0 x pair) (ends_facing 0 x ends)) in
    let there : two.bearer ≡ one.bearer = facing_bearer one.bearer (call (facing 1 one)).pair kept.two_bearers (near_two t.0 y (facing 1 one) shown (all_paired v y t.0 h t.1.did.does) (of_facing t.0 1 one t.1.pair) (ends_facing 1 one kept)) in (
      subst IsPairOfEnds (sym (then_pair both released)) (released_ends both.pair ends'),
      ap (λ (q : PairEnds). q.bearer) (then_pair both released) ∙ ((released_numbers both.pair ends'.two_bearers).bearer ∙ (ap (λ (q : PairEnds). q.bearer) after ∙ (there ∙ here))),
    )

-- ---- packets are put

near_sent : (x x' : PairEnds) (pieces : List (List ℕ)) (frames : List Outgoing) → IsPairOfEnds x → All IsListed pieces → Puts x pieces x' frames → IsPairOfEnds x'
near_sent x x' pieces frames ends listed p =
    let e = p.end in
    let was = near_of x e ends p.end_is in
    let on = put_on x.bearer p.session p.put pieces (session_is x.bearer e.session p.session was.session p.session_is) listed p.is_put in
    subst IsPairOfEnds (sym p.after) (near_kept x (with_session e (flushed p.put)) ends (session_kept x.own x.peer x.contact x.seen x.bearer e (Some (flushed p.put)) was (λ some. refl) (flushed_on x.bearer p.put on)))

pub sent_ends : (x x' : PairEnds) (pieces : List (List ℕ)) (limit : ℕ) (frames : List Outgoing) → IsPairOfEnds x → All IsListed pieces → SendsWithin x pieces limit x' frames → IsPairOfEnds x'
sent_ends x x' pieces limit frames ends listed s = subst IsPairOfEnds (sym s.after) (ends_facing x.bearer s.near (near_sent (facing s.bearer x) s.near pieces frames (ends_facing s.bearer x ends) listed s.puts))

-- ---- nothing goes up or down

-- and no link goes up
shape_quiet : (x y : PairEnds) → Shape x y → GoesQuietly x y
shape_quiet x y h = record { goes = record { held = shape_held x y h; seen = h.seen; contact = λ there. h.contact }; stays = λ there. sym (shape_contact x y h) ∙ there }

near_quiet : (x : PairEnds) (e e' : LinkEnd) → x.near ≡ Some e → e'.fsm ≡ e.fsm → GoesQuietly x (with_near x e')
near_quiet x e e' near fsm = shape_quiet x (with_near x e') (record {
  near_up = ap (λ (k : Fsm). is_up k.state) fsm ∙ sym (ap is_up_at near);
  far_up = refl;
  near_held = ap (λ (k : Fsm). is_held k.state) fsm ∙ sym (ap is_held_at near);
  far_held = refl;
  contact = refl;
  seen = refl;
})

pub made_quiet : (x : PairEnds) → x.near ≡ None → GoesQuietly x (with_made x)
made_quiet x none = shape_quiet x (with_made x) (record { near_up = sym (ap is_up_at none); far_up = refl; near_held = sym (ap is_held_at none); far_held = refl; contact = refl; seen = refl })

pub mended_quiet : (x : PairEnds) (o : Option LinkEnd) → x.near ≡ o → GoesQuietly x (mended_near x o)
mended_quiet x None near = quietly_same x x refl
mended_quiet x (Some e) near = near_quiet x e (mended_end e) near refl

pub answered_quiet : (x : PairEnds) (o : Option LinkEnd) (taken : ℕ) (asks : Bool) (shown : BroadcastState) → x.near ≡ o → GoesQuietly x (answered_at x o taken asks shown).pair
answered_quiet x None taken asks shown near = quietly_same x x refl
answered_quiet x (Some e) taken asks shown near = near_quiet x e (answered_with e taken asks) near (answered_stays e taken asks).fsm

pub sent_quiet : (x x' : PairEnds) (pieces : List (List ℕ)) (limit : ℕ) (frames : List Outgoing) → SendsWithin x pieces limit x' frames → GoesQuietly x x'
sent_quiet x x' pieces limit frames s =
    let z = facing s.bearer x in
    let p = s.puts in
    subst (GoesQuietly x) (sym s.after) (facing_quietly s.bearer x _ (quietly_facing x.bearer z s.near (subst (GoesQuietly z) (sym p.after) (near_quiet z p.end (with_session p.end (flushed p.put)) p.end_is refl))))

pub sent_begun : (x x' : PairEnds) (pieces : List (List ℕ)) (limit : ℕ) (frames : List Outgoing) → SendsWithin x pieces limit x' frames → KeepsBegun x x'
sent_begun x x' pieces limit frames s =
    let z = facing s.bearer x in
    let p = s.puts in
    let near = subst (KeepsBegun z) (sym p.after) (begun_same z (with_near z (with_session p.end (flushed p.put))) refl refl) in
    subst (KeepsBegun x) (sym s.after) (begun_then x z _ (facing_begun s.bearer x) (begun_then z s.near _ near (facing_begun x.bearer s.near)))
