-- What each act makes of a pair is as it tells, and so is what a packet that arrives makes of it.
use Rattle.std.specs.Prelude.{◌||◌}
use Rattle.std.proofs.Common.{◌≡◌, ◌==◌, ◌∙◌, ℕ, Bool, true, List, [], Some, None, is_some, refl, sym, ap}
use Rattle.tipc_types.specs.LinkStates.{is_up}
use Rattle.tipc_types.specs.declared.link_words.BroadcastState.{BroadcastState}
use Rattle.tipc_outside.specs.declared.outgoing.Outgoing.{Outgoing}
use Rattle.tipc_header.specs.declared.packet.Header.{Header}
use Rattle.tipc_header.specs.Spelling.{Fields}
use Rattle.tipc_tunnel.specs.Tunnels.{Tunnelled}
use Rattle.tipc_link_fsm.specs.Table.{Outcome}
use Rattle.tipc_link.specs.Links.{LinkEnd, answered_with, mended_end, named_end, tunnelled_end, with_session}
use Rattle.tipc_link.specs.Sessions.{flushed, with_record}
use Rattle.tipc_pair.specs.Changeovers.{let_go}
use Rattle.tipc_pair.specs.Courses.{Course, going_on}
use Rattle.tipc_pair.specs.Facing.{PairEnds, is_up_at, with_made, with_near}
use Rattle.tipc_pair.specs.PairArrivals.{hears, inner_taken, inside_of}
use Rattle.tipc_pair.proofs.acts.Acts.{Act, Acts, Ran, Steps}
use Rattle.tipc_pair.proofs.acts.Acts.Act.{makes as making}
use Rattle.tipc_pair.proofs.acts.Acts.Acts.{answered, counted, let_go_of, made, mended, moved, opened, put, raised}
use Rattle.tipc_pair.proofs.acts.Acts.Steps.{cut, meet, name, reset, tick}
use Rattle.tipc_pair.proofs.acts.Acting.{hears_may, hears_ran}
use Rattle.tipc_pair.proofs.acts.Walks.{Walk, walks, tested}
use Rattle.tipc_pair.proofs.turns.CourseMoves.{follows, near_of, risen_runs, still_near}
use Rattle.tipc_pair.proofs.turns.LinkMoves.{MovesTo, after_moves, arrival_moves, cut_moves, outcome_turns, release_moves, reset_turns, tick_turns, tunnel_moves}
use Rattle.tipc_pair.proofs.turns.Moves.{Goes, IsApt, Runs, epochs_at, goes_turned, mapped_some, runs_on, same_contact, stays_itself, still_goes, turned_apt, unknown_abreast}

-- an end is made only where there is none
abbrev pub MadeNew : PairEnds → Act → Type 0
MadeNew x making = x.near ≡ None
MadeNew x other = Unit {0}

abbrev Running : PairEnds → Course → Type 0
Running x c = IsApt x → Runs x c

-- the step of an end
moves : (x : PairEnds) (a : Act) (e : LinkEnd) (o : Outcome) (e' : LinkEnd) (states numbered : List Outgoing) (epoch : ℕ) → IsApt x → x.near ≡ Some e → Steps x e a o e' states numbered epoch → MovesTo x.bearer e e' o.change
moves x _ e _ _ _ _ _ h near cut = cut_moves x.bearer e (is_up_at x.far) (near_of x e h near)
moves x _ e _ _ _ _ _ h near (tick shown) = let on = near_of x e h near in after_moves x.bearer e _ on (tick_turns e.fsm (is_up_at x.far) on.abreast.peer_is)
moves x _ e _ _ _ _ _ h near (reset es held shown) = let on = near_of x e h near in after_moves x.bearer e _ on (reset_turns e.fsm es held on.abreast.peer_is)
moves x _ e _ _ _ _ _ h near (meet es er p by shown) = let on = near_of x e h near in arrival_moves x.bearer e _ p by on (outcome_turns e.fsm p.header es er (is_up_at x.far) on.abreast.peer_is)
moves x _ e _ _ _ _ _ h near (name epoch) = tunnel_moves x.bearer e epoch (near_of x e h near)

-- the near end in another session
stays_so : (x : PairEnds) (e e' : LinkEnd) → IsApt x → x.near ≡ Some e → e'.fsm ≡ e.fsm → e'.bearer ≡ e.bearer → (is_some e.session ≡ true → is_some e'.session ≡ true) → Goes x (with_near x e') []
stays_so x e e' h near fsm on some = still_goes x (with_near x e') (still_near x e e' h near fsm on some)

counted_so : (t : Tunnelled) (by : ℕ) (e : LinkEnd) → ((inner_taken t by e).fsm ≡ e.fsm) × ((inner_taken t by e).bearer ≡ e.bearer) × (is_some e.session ≡ true → is_some (inner_taken t by e).session ≡ true)
counted_so t by e = tested (λ (d : LinkEnd). (d.fsm ≡ e.fsm) × (d.bearer ≡ e.bearer) × (is_some e.session ≡ true → is_some d.session ≡ true)) (t.count == 0) (named_end e t.old.epoch) (tunnelled_end e t.old.epoch (inside_of t by))
    (λ _. (refl, refl, mapped_some (λ s. with_record s _) e.session)) (λ _. (refl, refl, mapped_some (λ s. with_record s _) e.session))

answered_so : (e : LinkEnd) (taken : ℕ) (asks : Bool) → ((answered_with e taken asks).fsm ≡ e.fsm) × ((answered_with e taken asks).bearer ≡ e.bearer) × (is_some e.session ≡ true → is_some (answered_with e taken asks).session ≡ true)
answered_so e taken asks = tested (λ (d : LinkEnd). (d.fsm ≡ e.fsm) × (d.bearer ≡ e.bearer) × (is_some e.session ≡ true → is_some d.session ≡ true)) (is_up e.fsm.state) _ _
    (λ _. (refl, refl, mapped_some _ e.session)) (λ _. (refl, refl, λ some. some))

does : (x : PairEnds) (a : Act) (c : Course) → MadeNew x a → Acts x a c → IsApt x → Runs x c
unfolding going_on
does _ _ _ may (made x) h = still_goes x (with_made x) (record {
  apt = record { two = h.two; near = record { abreast = unknown_abreast _ refl; on = refl }; far = h.far };
  bearer = refl;
  contact = same_contact x (with_made x) (ap (λ b. b || is_up_at x.far) (ap is_up_at (sym may))) refl refl;
  near = ap epochs_at (sym may);
  far = refl;
})
does _ _ _ may (mended x e near) h = stays_so x e (mended_end e) h near refl refl (λ some. some)
does _ _ _ may (moved x a e o e' states numbered epoch near step) h = follows x e e' o.change epoch h near (moves x a e o e' states numbered epoch h near step)
does _ _ _ may (raised x number) h = risen_runs x number h
does _ _ _ may (let_go_of x e near clear) h =
    let gone = release_moves x.bearer e (near_of x e h near) in
    still_goes x (with_near x (let_go e)) (record {
      apt = record { two = h.two; near = gone.0; far = h.far };
      bearer = refl;
      contact = same_contact x (with_near x (let_go e)) (ap (λ b. b || is_up_at x.far) (gone.1 ∙ ap is_up_at (sym near))) refl refl;
      near = gone.2 ∙ ap epochs_at (sym near);
      far = refl;
    })
does _ _ _ may (counted x e t by near) h = let s = counted_so t by e in stays_so x e (inner_taken t by e) h near s.0 s.1 s.2
does _ _ _ may (opened x packets given last brings) h = still_goes x (record x { begun = last }) (record { apt = record { two = h.two; near = h.near; far = h.far }; bearer = refl; contact = refl; near = refl; far = refl })
does _ _ _ may (put x e s pieces s' near has is) h = stays_so x e (with_session e (flushed s')) h near refl refl (λ some. refl)
does _ _ _ may (answered x e taken asks shown near) h = let s = answered_so e taken asks in stays_so x e (answered_with e taken asks) h near s.0 s.1 s.2

-- so it is with a run of acts
pub ran_runs : (x : PairEnds) (c : Course) → IsApt x → Ran MadeNew x c → Runs x c
ran_runs x c h run = walks MadeNew Running w x c run h
  where
    w : Walk MadeNew Running
    w = record {
      rests = λ y k. stays_itself y k;
      goes_on = λ y first step one two k. let a = one k in runs_on y first step a (two a.apt);
      turns = λ y d one k. goes_turned y d.pair d.changes k.two (one (turned_apt y k));
      acts = does;
    }

-- a packet that arrives
pub hears_runs : (t : Header) (x : PairEnds) (es er : ℕ) (p : Fields) (by : ℕ) (shown : BroadcastState) → IsApt x → Runs x (hears t es er p by shown x).course
hears_runs t x es er p by shown h = ran_runs x _ h (hears_ran MadeNew t es er p by shown x (hears_may MadeNew t es er p by shown x (λ number. tt) (λ y. tt) (λ y. tt)))
