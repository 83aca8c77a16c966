-- What leaves a still pair is under the present epoch of its node.
use Rattle.std.specs.Prelude.{All, IfSome}
use Rattle.std.proofs.Common.{◌≡◌, ◌≤◌, ◌<◌, ◌^◌, ◌∙◌, ℕ, Bool, true, false, List, [], ◌++◌, Option, Some, None, is_some, refl, sym, ap, subst, arith}
use Rattle.std.proofs.lemmas.Bool.{true≢false}
use Rattle.std.proofs.lemmas.List.Elements.{All-append, All-nil, All-weaker}
use Rattle.tipc_types.specs.LinkStates.{is_up}
use Rattle.tipc_types.specs.declared.link_words.BroadcastState.{BroadcastState}
use Rattle.tipc_types.specs.declared.link_words.LinkState.TheVariants.{ResetUnknown}
use Rattle.tipc_outside.specs.declared.outgoing.Outgoing.{Outgoing}
use Rattle.tipc_header.specs.Frames.{is_epoch, is_of_link}
use Rattle.tipc_header.proofs.FrameWords.{first_of-frame}
use Rattle.tipc_link.specs.Links.{LinkEnd}
use Rattle.tipc_link.specs.Sessions.{SessionEnd}
use Rattle.tipc_pair.specs.Courses.{going_on, rests as nothing}
use Rattle.tipc_pair.specs.Facing.{PairEnds, facing, other}
use Rattle.tipc_pair.specs.PairCalls.{at_bearer}
use Rattle.tipc_pair.specs.PairTurns.{IsOnOne, MakesNew, Opening, Outset, PairTurn, PutsAll, Reply, made_near, quietly, replied}
use Rattle.tipc_pair.specs.PairTurns.Opening.{cuts, hears, makes, mends, rests, ticks}
use Rattle.tipc_pair.proofs.Facings.{facing_contact, facing_near, facing_one}
use Rattle.tipc_pair.proofs.turns.FrameEpochs.{Within, on_far, on_near, own_at, turn_epochs}
use Rattle.tipc_pair.proofs.turns.FrameKinds.{IsEndAt, MadeOf, mends_made}
use Rattle.tipc_pair.proofs.turns.PairKept.{Both, IsShownAtLast, IsShownIn, both_facing, facing_bearer}
use Rattle.tipc_paired.specs.Views.{Node, es_of, fsm_in}
use Rattle.tipc_paired.proofs.sessions.SessionDeeds.{epoch_small}
use Rattle.tipc_paired.proofs.wires.Wires.{same_some}
use Rattle.tipc_two_nodes.specs.Sights.{AreSeen, Sight, pair_seen}
use Rattle.tipc_two_nodes.proofs.sights.Sights.{ends}
use Rattle.tipc_node.specs.Turns.{IsMaking}
use Rattle.tipc_node.proofs.pairs.EndsStay.{turn_ends_stay}
use Rattle.tipc_settling.specs.Beginnings.{SendsUnderPresent}
use Rattle.tipc_settling.specs.Stillness.{Footing, IsStill, IsStillAt, HasNoEnd, MayCome}
use Rattle.tipc_settling.proofs.Pairs.{still_facing}
use Rattle.tipc_settling.proofs.Turns.{ran_first, turns_still}

-- whatever a STATE shows of the broadcast
abbrev same : BroadcastState → BroadcastState
same shown = shown

shown_in : (opening : Opening) → IsShownIn BroadcastState same opening
shown_in (ticks shown) = (shown, refl)
shown_in (hears bearer es er p by shown) = (shown, refl)
shown_in (makes bearer is_mended) = tt
shown_in (mends bearer) = tt
shown_in (cuts bearer) = tt
shown_in rests = tt

shown_last : (reply : Option Reply) → IsShownAtLast BroadcastState same reply
shown_last None = tt
shown_last (Some r) = (r.shown, refl)

-- an end on its bearer, whose epoch has 64 bits
abbrev pub IsFramed : ℕ → LinkEnd → Type 0
IsFramed bearer e = IsEndAt bearer e × (e.fsm.own < 2 ^ 64)

-- the frames by which an end is made, and that end beside the other one
pub record Makes (present : Outgoing → Type 0) (z : PairEnds) (m : Bool) : Type 0 where
  pub states : All present (made_near m z).states
  pub numbered : (made_near m z).numbered ≡ []
  pub framed : Both IsFramed (made_near m z).pair

module _ (own peer : Footing) where
  -- the frame is under the present epoch, where it is of the links at all
  abbrev pub Presents : Outgoing → Type 0
  Presents o = is_of_link o.frame ≡ true → es_of o.frame ≡ own.epoch o.bearer

  -- it was made under this epoch on a bearer, which is the present one
  made_presents : (bearer epoch : ℕ) (o : Outgoing) → MadeOf BroadcastState same bearer epoch o → epoch < 2 ^ 64 → epoch ≡ own.epoch bearer → Presents o
  made_presents bearer epoch o m fits is link = ap es_of m.frame ∙ first_of-frame epoch m.receiver m.packet fits ∙ is ∙ ap (λ b. own.epoch b) (sym m.bearer)

  -- no frame of the links is under the number 0
  zero_presents : (bearer : ℕ) (o : Outgoing) → MadeOf BroadcastState same bearer 0 o → Presents o
  zero_presents bearer o m link = absurd (true≢false (sym link ∙ ap is_of_link m.frame ∙ ap is_epoch (first_of-frame 0 m.receiver m.packet (omega arith))))

  -- an end whose epoch was and is the present one
  end_presents : (seen seen' bearer epoch : ℕ) (a b : Option LinkEnd) (o : Outgoing) → IsStillAt own peer seen bearer (fsm_in a) → IsStillAt own peer seen' bearer (fsm_in b) → is_some b ≡ is_some a
      → IfSome a (λ e. e.fsm.own < 2 ^ 64) → own_at a ≤ epoch → epoch ≤ own_at b → MadeOf BroadcastState same bearer epoch o → Presents o
  end_presents seen seen' bearer epoch None None o h k both fits low high m = zero_presents bearer o (subst (λ n. MadeOf BroadcastState same bearer n o) (let none : epoch ≡ 0 = omega (arith, high) in none) m)
  end_presents seen seen' bearer epoch (Some e) None o h k both fits low high m = absurd (true≢false (sym both))
  end_presents seen seen' bearer epoch None (Some e) o h k both fits low high m = absurd (true≢false both)
  end_presents seen seen' bearer epoch (Some e) (Some e') o h k both fits low high m =
      let was = h.epoch in
      let is = k.epoch in
      made_presents bearer epoch o m (omega (arith, fits, was, is, high)) (omega (arith, was, is, low, high))

  fits_in : (bearer : ℕ) (o : Option LinkEnd) → IfSome o (IsFramed bearer) → IfSome o (λ e. e.fsm.own < 2 ^ 64)
  fits_in bearer None h = tt
  fits_in bearer (Some e) h = h.1

  end_in : (bearer : ℕ) (o : Option LinkEnd) → IfSome o (IsFramed bearer) → IfSome o (IsEndAt bearer)
  end_in bearer None h = tt
  end_in bearer (Some e) h = h.0

  -- a turn in which no end is made
  turn_presents : (x y : PairEnds) (opening : Opening) (messages : List (List ℕ)) (reply : Option Reply) (frames : List Outgoing) → x.bearer ≡ 0 → Both IsFramed x → (IsMaking opening → ⊥) → IsOnOne opening → MakesNew x opening
      → MayCome peer x opening → IsStill own peer x → PairTurn x opening messages reply y frames → All Presents frames
  turn_presents x y opening messages reply frames zero_is framed none one new may h t =
      let two : x.bearer ≤ 1 = omega (arith, zero_is) in
      let both : Both IsEndAt x = record { two = two; near = end_in x.bearer x.near framed.near; far = end_in (other x.bearer) x.far framed.far } in
      let u = turn_epochs BroadcastState same x y opening messages reply frames both new (shown_in opening) (shown_last reply) t in
      let k = turns_still own peer x y opening messages reply frames zero_is one new may t h in
      let y_zero : y.bearer ≡ 0 = u.bearer ∙ zero_is in
      let x_here : facing 0 x ≡ x = facing_near 0 x zero_is in
      let y_here : facing 0 y ≡ y = facing_near 0 y y_zero in
      let near : is_some y.near ≡ is_some x.near =
      ap (λ (z : PairEnds). is_some z.near) (sym y_here) ∙ turn_ends_stay 0 x y opening messages reply frames two none t ∙ ap (λ (z : PairEnds). is_some z.near) x_here in
      let y_far : (facing 1 y).near ≡ y.far = facing_one y (omega (arith, y_zero)) ∙ ap (λ (z : PairEnds). z.far) y_here in
      let x_far : (facing 1 x).near ≡ x.far = facing_one x two ∙ ap (λ (z : PairEnds). z.far) x_here in
      let far : is_some y.far ≡ is_some x.far =
      ap is_some (sym y_far) ∙ turn_ends_stay 1 x y opening messages reply frames two none t ∙ ap is_some x_far in
      All-weaker (Within BroadcastState same x y) Presents (λ o w. by o near far u.bearer k w) frames u.frames
    where
      by : (o : Outgoing) → is_some y.near ≡ is_some x.near → is_some y.far ≡ is_some x.far → y.bearer ≡ x.bearer → IsStill own peer y → Within BroadcastState same x y o → Presents o
      by o near far on k (on_near epoch m low high) =
          end_presents x.seen y.seen x.bearer epoch x.near y.near o h.near (subst (λ b. IsStillAt own peer y.seen b (fsm_in y.near)) on k.near) near (fits_in x.bearer x.near framed.near) low high m
      by o near far on k (on_far epoch m low high) =
          end_presents x.seen y.seen (other x.bearer) epoch x.far y.far o h.far (subst (λ b. IsStillAt own peer y.seen (other b) (fsm_in y.far)) on k.far) far (fits_in (other x.bearer) x.far framed.far) low high m

  -- ---- a turn in which an end is made

  -- its frames are the RESET of that end, and those of the rest of the turn
  new_end : (z : PairEnds) → LinkEnd
  new_end z = record { own = z.own; peer = z.peer; bearer = z.bearer; mended = false; fsm = record { own = z.contact; peer = None; highest = 0; state = ResetUnknown; silent = 0 }; contact = z.contact; peer_contact = z.seen; session = None; early = None }

  new_presents : (z : PairEnds) → z.contact < 2 ^ 64 → z.contact ≡ own.epoch z.bearer → All Presents (made_near true z).states
  unfolding going_on new_end
  new_presents z fits is =
      All-weaker (MadeOf BroadcastState same z.bearer z.contact) Presents (λ o m. made_presents z.bearer z.contact o m fits is) (made_near true z).states (mends_made BroadcastState same (new_end z) true)

  new_framed : (z : PairEnds) → z.contact < 2 ^ 64 → Both IsFramed z → Both IsFramed (made_near true z).pair
  unfolding going_on
  new_framed z fits h = record { two = h.two; near = (record { on = refl; session = λ s has. absurd (let wrong : ⊥ = cc in wrong) }, fits); far = h.far }

  cut_framed : (z : PairEnds) → z.contact < 2 ^ 64 → Both IsFramed z → Both IsFramed (made_near false z).pair
  cut_framed z fits h = record { two = h.two; near = (record { on = refl; session = λ s has. absurd (let wrong : ⊥ = cc in wrong) }, fits); far = h.far }

  makes_so : (z : PairEnds) (m : Bool) → z.contact < 2 ^ 64 → z.contact ≡ own.epoch z.bearer → Both IsFramed z → Makes Presents z m
  unfolding going_on
  makes_so z true fits is h = record { states = new_presents z fits is; numbered = refl; framed = new_framed z fits h }
  makes_so z false fits is h = record { states = All-nil Presents; numbered = refl; framed = cut_framed z fits h }

  make_presents : (x y : PairEnds) (bearer : ℕ) (m : Bool) (messages : List (List ℕ)) (reply : Option Reply) (frames : List Outgoing) → x.bearer ≡ 0 → x.contact < 2 ^ 64 → Both IsFramed x → bearer ≤ 1
      → MakesNew x (makes bearer m) → IsStill own peer x → PairTurn x (makes bearer m) messages reply y frames → All Presents frames
  make_presents x y bearer m messages reply frames zero_is fits framed one new h t =
      let two : x.bearer ≤ 1 = omega (arith, zero_is) in
      let z = facing bearer x in
      let hz = still_facing own peer bearer x h in
      let none : HasNoEnd own z.bearer = subst (λ o. IsStillAt own peer z.seen z.bearer (fsm_in o)) new hz.near in
      let made = makes_so z m (subst (λ n. n < 2 ^ 64) (sym (facing_contact bearer x)) fits) (hz.contact ∙ sym none.epoch) (both_facing IsFramed bearer x framed) in
      let first = at_bearer bearer x (made_near m) in
      let w = first.pair in
      let more = t.put_frames ++ (replied reply t.put).states in
      let puts : PutsAll w messages t.put_frames t.put = subst (λ (o : Outset). PutsAll o.course.pair messages t.put_frames t.put) t.happened t.puts in
      let rest : PairTurn w rests messages reply y more =
      record { first = quietly (nothing w); happened = refl; put_frames = t.put_frames; put = t.put; puts = puts; after = t.after; frames_are = refl } in
      let still_w : IsStill own peer w = ran_first own peer x (makes bearer m) (quietly first) h (new, tt) refl in
      let w_zero : w.bearer ≡ 0 = facing_bearer x.bearer (made_near m z).pair two made.framed.two ∙ zero_is in
      let last = turn_presents w y rests messages reply more w_zero (both_facing IsFramed x.bearer (made_near m z).pair made.framed) (λ making. making) tt tt tt still_w rest in
      let are : frames ≡ first.states ++ (first.numbered ++ more) = t.frames_are ∙ ap (λ (o : Outset). o.course.states ++ (o.course.numbered ++ more)) t.happened in
      subst (All Presents) (sym are)
      (All-append Presents first.states (first.numbered ++ more) made.states (subst (λ fs. All Presents (fs ++ more)) (sym made.numbered) last))

-- ---- nodes that talk

pub framed_at : (v w : Sight) (bearer : ℕ) → AreSeen v w → (o : Option LinkEnd) → v.ends bearer ≡ o → IfSome o (IsFramed bearer)
framed_at v w bearer h None is = tt
framed_at v w bearer h (Some e) is =
    let k = ends v w bearer e h is in
    let node = h.talking.twins.paired.here.node in
    let boot : v.node.boot < 2 ^ 32 = subst (λ (n : Node). n.boot < 2 ^ 32) h.seen_here.node node.boot in
    let sessions : (s : SessionEnd) → e.session ≡ Some s → (s.bearer ≡ bearer) × (is_up e.fsm.state ≡ true → s.epoch ≡ e.fsm.own) = λ s has.
    ((k.session s has).2, λ up. (let g = k.going up in let one : g.0 ≡ s = same_some g.0 s e.session g.1 has in ap (λ (q : SessionEnd). q.epoch) (sym one) ∙ g.2)) in
    (record { on = k.bearer_is; session = sessions }, epoch_small e.fsm.own v.node.boot k.boot boot)

pub sends_under_present : SendsUnderPresent
sends_under_present v w own peer opening messages reply x frames h still one new may t = by opening one new may t
  where
    framed : Both IsFramed (pair_seen v)
    framed = record { two = omega arith; near = framed_at v w 0 h (v.ends 0) refl; far = framed_at v w 1 h (v.ends 1) refl }

    contact : v.node.contact < 2 ^ 64
    contact = (let node = h.talking.twins.paired.here.node in subst (λ (n : Node). n.contact < 2 ^ 64) h.seen_here.node (epoch_small _ _ node.contact node.boot))

    by : (opening : Opening) → IsOnOne opening → MakesNew (pair_seen v) opening → MayCome peer (pair_seen v) opening → PairTurn (pair_seen v) opening messages reply x frames → All (Presents own peer) frames
    by (makes bearer m) one new may t = make_presents own peer (pair_seen v) x bearer m messages reply frames refl contact framed one new still t
    by rests one new may t = turn_presents own peer (pair_seen v) x rests messages reply frames refl framed (λ making. making) one new may still t
    by (mends bearer) one new may t = turn_presents own peer (pair_seen v) x (mends bearer) messages reply frames refl framed (λ making. making) one new may still t
    by (cuts bearer) one new may t = absurd may
    by (ticks shown) one new may t = turn_presents own peer (pair_seen v) x (ticks shown) messages reply frames refl framed (λ making. making) one new may still t
    by (hears bearer es er p number shown) one new may t = turn_presents own peer (pair_seen v) x (hears bearer es er p number shown) messages reply frames refl framed (λ making. making) one new may still t
