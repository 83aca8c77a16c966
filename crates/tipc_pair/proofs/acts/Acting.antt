-- Each call of a pair, and so a whole turn of it, is a run of acts. What a call asks of its acts is a record: each is asked for only where it is done.
use Rattle.std.specs.Prelude.{All, if◌then◌else◌, nat_lt, not, ◌&&◌, ◌==◌, ◌-◌}
use Rattle.std.proofs.Common.{◌≡◌, ◌≤◌, ◌<◌, ◌∙◌, ℕ, Bool, true, false, List, [], ◌∷◌, ◌++◌, Option, Some, None, option_map, refl, sym, subst, ap, arith, append-nil}
use Rattle.std.proofs.lemmas.Bool.Decides.{nat_tests}
use Rattle.std.proofs.lemmas.List.Elements.{All-append, All-from_recursion, All-head, All-tail, recursion_from_All}
use Rattle.std.specs.List.{AllByRecursion}
use Rattle.tipc_types.specs.declared.link_words.BroadcastState.{BroadcastState}
use Rattle.tipc_types.specs.declared.link_words.Why.TheVariants as why
use Rattle.tipc_types.specs.declared.packet_lists.Taken.{Taken}
use Rattle.tipc_outside.specs.declared.outgoing.Outgoing.{Outgoing}
use Rattle.tipc_header.specs.declared.packet.ChangeoverType.{ChangeoverType}
use Rattle.tipc_header.specs.declared.packet.ChangeoverType.TheVariants as kind
use Rattle.tipc_header.specs.declared.packet.Header.{Header}
use Rattle.tipc_header.specs.declared.packet.Header.TheVariants as header
use Rattle.tipc_header.specs.Spelling.{Fields}
use Rattle.tipc_tunnel.specs.Tunnels.{Tunnelled}
use Rattle.tipc_fragments.specs.Joining.{Joining}
use Rattle.tipc_reassembly.specs.declared.opening.Opened.{Opened}
use Rattle.tipc_reassembly.specs.Opening.{BringsAll}
use Rattle.tipc_recv_window.specs.declared.outcomes.LinkOutcome.{LinkOutcome}
use Rattle.tipc_link_fsm.specs.Table.{on_cut, on_peer_tunnel}
use Rattle.tipc_link.specs.Links.{LinkEnd, cut_end, frames, is_down, tunnelled_down, with_session}
use Rattle.tipc_link.specs.Sessions.{flush_frames, flushed}
use Rattle.tipc_pair.specs.declared.changes.PairOutcome.{PairOutcome}
use Rattle.tipc_pair.specs.Changeovers.{following, is_clear, let_go, let_go_frames, release_near, released, risen}
use Rattle.tipc_pair.specs.Courses.{Course, going_on, rests as nothing}
use Rattle.tipc_pair.specs.Facing.{PairEnds, active, facing, in_contact, is_up_at, other, turned, with_far, with_made, with_near}
use Rattle.tipc_pair.specs.Messages.{pieces_for}
use Rattle.tipc_pair.specs.PairArrivals.{Arrives, Heard, OpensInto, SpeaksOfFar, Unwraps, activates, as_it_is, behind, by_number, deferred, hears as heard_by, ignored, inner_at, inner_taken, met_at, met_near, none_taken, opens, passing, reset_change, reset_given, reset_near, taken_down, tunnel, tunnelled_at, with_begun, with_bytes}
use Rattle.tipc_pair.specs.PairCalls.{answered_at, answered_near, at_bearer, cut_at, cut_near, mended, mended_frames, mended_near, tick_at, tick_near, ticked}
use Rattle.tipc_pair.specs.PairTurns.{Happened, Opening, Outset, PairTurn, PutsAll, PutsOne, Reply, made_near, none_put, puts_one, replied}
use Rattle.tipc_pair.specs.PairTurns.Opening.{cuts, hears, makes, mends, rests, ticks}
use Rattle.tipc_pair.proofs.Facings.{facing_far, facing_near, facing_two}
use Rattle.tipc_pair.proofs.acts.Acts.{Act, Ran, near_course}
use Rattle.tipc_pair.proofs.acts.Acts.Act.{answers as answering, carries as carrying, counts as counting, cuts as cutting, lets_go as letting, makes as making, meets as meeting, mends as mending, names as naming, opens as opening, puts as putting, resets as resetting, ticks as ticking}
use Rattle.tipc_pair.proofs.acts.Acts.Acts.{answered, counted, let_go_of, made, mended as mends_end, moved, opened, put, raised}
use Rattle.tipc_pair.proofs.acts.Acts.Ran.{acts, goes_on, stays, turns}
use Rattle.tipc_pair.proofs.acts.Acts.Steps.{cut, meet, name, reset, tick}
use Rattle.tipc_pair.proofs.acts.Walks.{Parts, tested, walks_by_parts}

-- ---- what no act changes

-- no contact number is shown
abbrev pub Uncounted : (PairEnds → Act → Type 0) → Type 0
Uncounted A = (y : PairEnds) (number : ℕ) → A y (counting number) → ⊥

-- The addresses stay, and so does the bearer from which the pair is seen; and the highest number that the peer has shown, where it shows none.
record Lasts (A : PairEnds → Act → Type 0) (x : PairEnds) (c : Course) : Type 0 where
  own : c.pair.own ≡ x.own
  peer : c.pair.peer ≡ x.peer
  bearer : x.bearer ≤ 1 → c.pair.bearer ≡ x.bearer
  seen : Uncounted A → c.pair.seen ≡ x.seen

lasting : (A : PairEnds → Act → Type 0) → Parts A (Lasts A)
unfolding going_on
lasting A = record {
  rests = λ x. same x (nothing x) refl refl refl refl;
  goes_on = λ x first step h k. record {
    own = k.own ∙ h.own;
    peer = k.peer ∙ h.peer;
    bearer = λ two. (let one = h.bearer two in k.bearer (omega (arith, one, two)) ∙ one);
    seen = λ none. k.seen none ∙ h.seen none;
  };
  turns = λ x c h. record {
    own = h.own;
    peer = h.peer;
    bearer = λ two. (let one = h.bearer (omega arith) in omega (arith, one, two));
    seen = h.seen;
  };
  makes = λ x may. same x _ refl refl refl refl;
  mends = λ x e near. same x _ refl refl refl refl;
  steps = λ x a e o e' states numbered epoch near may step. same x _ refl refl refl refl;
  begins = λ x here down. same x _ refl refl refl refl;
  ends = λ x contact shown. same x _ refl refl refl refl;
  counts = λ x number may. counting_so x number may (record x { seen = number }) refl refl refl;
  forgets = λ x number may. counting_so x number may _ refl refl refl;
  hands_over = λ x near far lost s one two first second up. same x _ refl refl refl refl;
  takes_over = λ x near far s old one two first second here up. same x _ refl refl refl refl;
  lets_go = λ x e near may clear. same x _ refl refl refl refl;
  carries = λ x e t by near may. same x _ refl refl refl refl;
  opens = λ x packets given last may brings. same x _ refl refl refl refl;
  puts = λ x e s pieces s' near may has is. same x _ refl refl refl refl;
  answers = λ x e taken asks shown near may. same x _ refl refl refl refl;
}
  where
    same : (x : PairEnds) (c : Course) → c.pair.own ≡ x.own → c.pair.peer ≡ x.peer → c.pair.bearer ≡ x.bearer → c.pair.seen ≡ x.seen → Lasts A x c
    same x c own peer bearer seen = record { own = own; peer = peer; bearer = λ two. bearer; seen = λ none. seen }

    counting_so : (x : PairEnds) (number : ℕ) → A x (counting number) → (y : PairEnds) → y.own ≡ x.own → y.peer ≡ x.peer → y.bearer ≡ x.bearer → Lasts A x (nothing y)
    counting_so x number may y own peer bearer = record { own = own; peer = peer; bearer = λ two. bearer; seen = λ none. absurd (none x number may) }

module _ (A : PairEnds → Act → Type 0) (x : PairEnds) (c : Course) (run : Ran A x c) where
  lasts : Lasts A x c
  lasts = walks_by_parts A (Lasts A) (lasting A) x c run

  pub ran_own : c.pair.own ≡ x.own
  ran_own = (let h = lasts in h.own)

  pub ran_peer : c.pair.peer ≡ x.peer
  ran_peer = (let h = lasts in h.peer)

  pub ran_bearer : x.bearer ≤ 1 → c.pair.bearer ≡ x.bearer
  ran_bearer = (let h = lasts in h.bearer)

  pub ran_seen : Uncounted A → c.pair.seen ≡ x.seen
  ran_seen = (let h = lasts in h.seen)

  -- and it may be seen from either link
  pub ran_two : x.bearer ≤ 1 → c.pair.bearer ≤ 1
  ran_two two = let same = ran_bearer two in omega (arith, same, two)

-- ---- what calls ask of their acts

-- a RESET that shows this contact number and this epoch
pub record MayReset (A : PairEnds → Act → Type 0) (x : PairEnds) (number es : ℕ) (shown : BroadcastState) : Type 0 where
  pub counts : x.seen < number → A x (counting number)
  pub resets : (y : PairEnds) → (x.bearer ≤ 1 → y.bearer ≡ x.bearer) → y.seen ≡ number → A y (resetting es shown)

-- an ACTIVATE that shows this contact number
pub record MayActivate (A : PairEnds → Act → Type 0) (x : PairEnds) (number es er : ℕ) (p : Fields) (by : ℕ) (shown : BroadcastState) : Type 0 where
  pub counts : x.seen < number → A x (counting number)
  pub meets : (y : PairEnds) → (x.bearer ≤ 1 → y.bearer ≡ x.bearer) → y.seen ≡ number → A y (meeting es er p by shown)

-- a packet of any kind
abbrev pub MayHear : (PairEnds → Act → Type 0) → Header → ℕ → ℕ → Fields → ℕ → BroadcastState → PairEnds → Type 0
MayHear A (header.Reset said) es er p by shown x = MayReset A x said.contact es shown
MayHear A (header.Activate said) es er p by shown x = MayActivate A x said.contact es er p by shown
MayHear A other es er p by shown x = A x (meeting es er p by shown)

-- packets that were taken, of which the first may be a tunnel packet for the far link
pub record MayUnwrap (A : PairEnds → Act → Type 0) (x : PairEnds) (taken : List Taken) : Type 0 where
  pub names : (first : Taken) (others : List Taken) (t : Tunnelled) → taken ≡ first ∷ others → SpeaksOfFar x first.packet t → A (turned x) (naming t.old.epoch)
  pub carries : (first : Taken) (others : List Taken) (t : Tunnelled) (y : PairEnds) → taken ≡ first ∷ others → SpeaksOfFar x first.packet t → y.bearer ≡ other x.bearer
      → A y (carrying t first.by)

-- what is opened of them
pub record MayOpen (A : PairEnds → Act → Type 0) (x : PairEnds) (outcome : LinkOutcome) : Type 0 where
  pub unwraps : (taken : List Taken) → outcome ≡ LinkOutcome.Took taken → MayUnwrap A x taken
  pub opens : (taken carried : List Taken) (c : Course) (given : List Opened) (last : Joining) → outcome ≡ LinkOutcome.Took taken → Unwraps x taken c carried
      → BringsAll c.pair.begun (with_bytes carried) given last → A c.pair (opening (with_bytes carried) given)

-- an arrival, with all that comes of it but for a release
pub record MayArrive (A : PairEnds → Act → Type 0) (x : PairEnds) (es er : ℕ) (p : Fields) (by : ℕ) (shown : BroadcastState) : Type 0 where
  pub hears : MayHear A p.header es er p by shown x
  pub opens : MayOpen A (heard_by p.header es er p by shown x).course.pair (heard_by p.header es er p by shown x).outcome

-- what happens first in a turn
abbrev pub MayHappen : (PairEnds → Act → Type 0) → PairEnds → Opening → Type 0
MayHappen A x rests = Unit {0}
MayHappen A x (makes bearer is_mended) = A (facing bearer x) making × A (with_made (facing bearer x)) mending
MayHappen A x (mends bearer) = A (facing bearer x) mending
MayHappen A x (cuts bearer) = A (facing bearer x) cutting
MayHappen A x (ticks shown) = (y : PairEnds) → A y (ticking shown)
MayHappen A x (hears bearer es er p by shown) = MayArrive A (facing bearer x) es er p by shown

-- a whole turn
pub record MayTurn (A : PairEnds → Act → Type 0) (x : PairEnds) (first : Opening) (messages : List (List ℕ)) (reply : Option Reply) : Type 0 where
  pub happens : MayHappen A x first
  pub puts : All (λ message. (y : PairEnds) → is_up_at y.near ≡ true → A y (putting (pieces_for message))) messages
  pub answers : (r : Reply) → reply ≡ Some r → (y : PairEnds) → A y (answering r.taken r.asks r.shown)

-- where an act may be done wherever a packet lets it be done
pub hears_may : (A : PairEnds → Act → Type 0) (h : Header) (es er : ℕ) (p : Fields) (by : ℕ) (shown : BroadcastState) (x : PairEnds) → ((number : ℕ) → A x (counting number)) → ((y : PairEnds) → A y (resetting es shown))
    → ((y : PairEnds) → A y (meeting es er p by shown)) → MayHear A h es er p by shown x
hears_may A (header.Reset said) es er p by shown x counts resets meets = record { counts = λ higher. counts said.contact; resets = λ y bearer seen. resets y }
hears_may A (header.Activate said) es er p by shown x counts resets meets = record { counts = λ higher. counts said.contact; meets = λ y bearer seen. meets y }
hears_may A other es er p by shown x counts resets meets = meets x

pub opens_may : (A : PairEnds → Act → Type 0) (x : PairEnds) (outcome : LinkOutcome) → ((y : PairEnds) (epoch : ℕ) → A y (naming epoch)) → ((y : PairEnds) (t : Tunnelled) (by : ℕ) → A y (carrying t by))
    → ((y : PairEnds) (packets : List Taken) (given : List Opened) → A y (opening packets given)) → MayOpen A x outcome
opens_may A x outcome names carries comes = record {
  unwraps = λ taken is. record { names = λ first others t so speaks. names (turned x) t.old.epoch; carries = λ first others t y so speaks bearer. carries y t first.by };
  opens = λ taken carried c given last is unwraps brings. comes c.pair (with_bytes carried) given;
}

-- ---- a call at the link of a bearer, and at the far link

module _ (A : PairEnds → Act → Type 0) where
  pub at_ran : (bearer : ℕ) (x : PairEnds) (call : PairEnds → Course) → x.bearer ≤ 1 → Ran A (facing bearer x) (call (facing bearer x)) → Ran A x (at_bearer bearer x call)
  at_ran bearer x call two = by (x.bearer == bearer) refl
    where
      by : (b : Bool) → (x.bearer == bearer) ≡ b → Ran A (facing bearer x) (call (facing bearer x)) → Ran A x (at_bearer bearer x call)
      by true same run =
          let here : facing bearer x ≡ x = facing_near bearer x (grind (arith, nat_tests, same)) in
          let there : Ran A x (call x) = subst (λ y. Ran A y (call y)) here run in
          let back : facing x.bearer (call x).pair ≡ (call x).pair = facing_near x.bearer (call x).pair (ran_bearer A x (call x) there two) in
          subst (λ y. Ran A x (record (call y) { pair = facing x.bearer (call y).pair })) (sym here) (subst (λ y. Ran A x (record (call x) { pair = y })) (sym back) there)
      by false differs run =
          let here : facing bearer x ≡ turned x = facing_far bearer x differs in
          let y = turned x in
          let there : Ran A y (call y) = subst (λ z. Ran A z (call z)) here run in
          let same = ran_bearer A y (call y) there (omega arith) in
          let away : ((call y).pair.bearer == x.bearer) ≡ false = grind (arith, nat_tests, same, two) in
          let back : facing x.bearer (call y).pair ≡ turned (call y).pair = facing_far x.bearer (call y).pair away in
          subst (λ z. Ran A x (record (call z) { pair = facing x.bearer (call z).pair })) (sym here)
          (subst (λ z. Ran A x (record (call y) { pair = z })) (sym back) (turns x (call y) there))

  -- ---- a bearer is mended, and an end is made

  pub mended_ran : (x : PairEnds) → A x mending → Ran A x (mended x)
  mended_ran x may = at x.near refl
    where
      at : (o : Option LinkEnd) → x.near ≡ o → Ran A x (record (nothing (mended_near x o)) { states = mended_frames o })
      at None near = stays x
      at (Some e) near = acts x mending _ may (mends_end x e near)

  pub made_ran : (is_mended : Bool) (x : PairEnds) → A x making → A (with_made x) mending → Ran A x (made_near is_mended x)
  made_ran true x may mend = goes_on x (nothing (with_made x)) mended (acts x making _ may (made x)) (mended_ran (with_made x) mend)
  made_ran false x may mend = acts x making _ may (made x)

  -- ---- a bearer is cut, and a tick

  stepped_so : (x : PairEnds) (e : LinkEnd) (step : PairEnds → Course) → going_on (near_course x e [] []) step ≡ step (with_near x e)
  unfolding going_on
  stepped_so x e step = refl

  pub cut_at_ran : (x : PairEnds) → A x cutting → Ran A x (cut_at x x.near)
  cut_at_ran x may = at x.near refl
    where
      at : (o : Option LinkEnd) → x.near ≡ o → Ran A x (cut_at x o)
      at None near = stays x
      at (Some e) near =
          subst (Ran A x) (stepped_so x (cut_end e (is_up_at x.far)) (λ y. following y (on_cut e.fsm (is_up_at x.far)).change 0))
          (acts x cutting _ may (moved x _ e _ _ _ _ 0 near cut))

  pub tick_ran : (shown : BroadcastState) (x : PairEnds) → A x (ticking shown) → Ran A x (tick_near shown x)
  tick_ran shown x may = at x.near refl
    where
      at : (o : Option LinkEnd) → x.near ≡ o → Ran A x (tick_at shown x o)
      at None near = stays x
      at (Some e) near = acts x (ticking shown) _ may (moved x _ e _ _ _ _ 0 near (tick shown))

  -- ---- a packet that meets the near end

  pub met_ran : (es er : ℕ) (p : Fields) (by : ℕ) (shown : BroadcastState) (x : PairEnds) → A x (meeting es er p by shown) → Ran A x (met_near es er p by shown x).course
  met_ran es er p by shown x may = at x.near refl
    where
      at : (o : Option LinkEnd) → x.near ≡ o → Ran A x (met_at es er p by shown x o).course
      at None near = stays x
      at (Some e) near = acts x (meeting es er p by shown) _ may (moved x _ e _ _ _ _ es near (meet es er p by shown))

  pub given_ran : (es : ℕ) (held : Bool) (shown : BroadcastState) (x : PairEnds) → A x (resetting es shown) → Ran A x (reset_given es held shown x x.near).course
  given_ran es held shown x may = at x.near refl
    where
      at : (o : Option LinkEnd) → x.near ≡ o → Ran A x (reset_given es held shown x o).course
      at None near = stays x
      at (Some e) near = acts x (resetting es shown) _ may (moved x _ e _ _ _ _ es near (reset es held shown))

-- by a RESET alone no contact number is shown
abbrev OnReset : PairEnds → Act → Type 0
OnReset y a = (es : ℕ) × (shown : BroadcastState) × (a ≡ resetting es shown)

uncounted : Uncounted OnReset
uncounted y number may = (let is = may.2 in cc)

module _ (A : PairEnds → Act → Type 0) where
  pub reset_ran : (es : ℕ) (shown : BroadcastState) (x : PairEnds) → ((y : PairEnds) → (x.bearer ≤ 1 → y.bearer ≡ x.bearer) → y.seen ≡ x.seen → A y (resetting es shown)) → Ran A x (reset_near es shown x).course
  reset_ran es shown x may =
      let held = is_up_at x.far in
      let first = reset_given es held shown x x.near in
      let again : PairEnds → Heard = λ y. reset_given es false shown y y.near in
      let once : Ran OnReset x first.course = given_ran OnReset es held shown x (es, shown, refl) in
      let one : Ran A x first.course = given_ran A es held shown x (may x (λ two. refl) refl) in
      tested (λ (h : Heard). Ran A x h.course) (is_down (reset_change es held x.near) && not held) (behind first.course again) first
      (λ _. goes_on x first.course (λ y. (again y).course) one
      (given_ran A es false shown first.course.pair (may first.course.pair (ran_bearer OnReset x first.course once) (ran_seen OnReset x first.course once uncounted))))
      (λ _. one)

  pub risen_ran : (x : PairEnds) (number : ℕ) → A x (counting number) → Ran A x (risen x number)
  risen_ran x number may = acts x (counting number) _ may (raised x number)

  -- by the contact number that a packet shows
  number_ran : (x : PairEnds) (number : ℕ) (same higher : Heard) → (number ≡ x.seen → Ran A x same.course) → (x.seen < number → Ran A x higher.course) → Ran A x (by_number x number same higher).course
  number_ran x number same higher one two =
      let P : Heard → Type 0 = λ h. Ran A x h.course in
      tested P (nat_lt number x.seen) (passing x why.Contact) _ (λ lower. stays x)
      (λ no_lower. tested P (number == x.seen) same higher (λ is. one (grind (arith, nat_tests, is))) (λ differs. two (grind (arith, nat_tests, no_lower, differs))))

-- the pair of a higher number
risen_seen : (x : PairEnds) (number : ℕ) → (risen x number).pair.seen ≡ number
risen_seen x number = tested (λ (c : Course). c.pair.seen ≡ number) (in_contact x) _ _ (λ _. refl) (λ _. refl)

module _ (A : PairEnds → Act → Type 0) where
  behind_ran : (x : PairEnds) (number : ℕ) (hear : PairEnds → Heard) → A x (counting number)
      → ((y : PairEnds) → (x.bearer ≤ 1 → y.bearer ≡ x.bearer) → y.seen ≡ number → Ran A y (hear y).course) → Ran A x (behind (risen x number) hear).course
  behind_ran x number hear may hears_so =
      let rise = risen_ran A x number may in
      let y = (risen x number).pair in
      goes_on x (risen x number) (λ z. (hear z).course) rise (hears_so y (ran_bearer A x (risen x number) rise) (risen_seen x number))

  higher_ran : (b : Bool) (x : PairEnds) (c : Course) (others : Heard) → Ran A x c → Ran A x others.course → Ran A x (activates b c others).course
  higher_ran true x c others one two = one
  higher_ran false x c others one two = two

  pub hears_ran : (h : Header) (es er : ℕ) (p : Fields) (by : ℕ) (shown : BroadcastState) (x : PairEnds) → MayHear A h es er p by shown x → Ran A x (heard_by h es er p by shown x).course
  hears_ran (header.Reset said) es er p by shown x may =
      number_ran A x said.contact _ _ (λ is. reset_ran A es shown x (λ y bearer seen. may.resets y bearer (seen ∙ sym is)))
      (λ higher. behind_ran x said.contact (reset_near es shown) (may.counts higher)
      (λ y bearer seen. reset_ran A es shown y (λ z near again. may.resets z (λ two. (let one = bearer two in near (omega (arith, one, two)) ∙ one)) (again ∙ seen))))
  hears_ran (header.Activate said) es er p by shown x may =
      let meet_it = met_near es er p by shown in
      number_ran A x said.contact _ _ (λ is. met_ran A es er p by shown x (may.meets x (λ two. refl) (sym is)))
      (λ higher. higher_ran (in_contact x) x (risen x said.contact) (behind (risen x said.contact) meet_it) (risen_ran A x said.contact (may.counts higher))
      (behind_ran x said.contact meet_it (may.counts higher) (λ y bearer seen. met_ran A es er p by shown y (may.meets y bearer seen))))
  hears_ran other es er p by shown x may = met_ran A es er p by shown x may

  -- ---- what was taken

  tunnelled_ran : (epoch : ℕ) (x : PairEnds) → A x (naming epoch) → Ran A x (tunnelled_at epoch x x.near)
  tunnelled_ran epoch x may = at x.near refl
    where
      at : (o : Option LinkEnd) → x.near ≡ o → Ran A x (tunnelled_at epoch x o)
      at None near = stays x
      at (Some e) near =
          subst (Ran A x) (stepped_so A x (tunnelled_down e epoch) (λ y. following y (on_peer_tunnel e.fsm epoch).change epoch))
          (acts x (naming epoch) _ may (moved x _ e _ _ _ _ epoch near (name epoch)))

  pub taken_down_ran : (k : ChangeoverType) (epoch : ℕ) (x : PairEnds) → A (turned x) (naming epoch) → Ran A x (taken_down k epoch x)
  taken_down_ran kind.Duplicate epoch x may = stays x
  taken_down_ran kind.Original epoch x may = turns x (tunnelled_at epoch (turned x) x.far) (tunnelled_ran epoch (turned x) may)

  inner_ran : (t : Tunnelled) (by : ℕ) (x : PairEnds) → x.bearer ≤ 1 → A (turned x) (carrying t by) → Ran A x (inner_at t by x x.far)
  inner_ran t by x two may = at x.far refl
    where
      at : (o : Option LinkEnd) → x.far ≡ o → Ran A x (inner_at t by x o)
      at None far = stays x
      at (Some e) far =
          let back : 1 - (1 - x.bearer) ≡ x.bearer = omega arith in
          subst (λ b. Ran A x (nothing (record (with_far x (inner_taken t by e)) { bearer = b }))) back
          (turns x _ (acts (turned x) (carrying t by) _ may (counted (turned x) e t by far)))

  pub unwraps_ran : (x : PairEnds) (taken carried : List Taken) (c : Course) → x.bearer ≤ 1 → MayUnwrap A x taken → Unwraps x taken c carried → Ran A x c
  unwraps_ran x _ _ _ two may none_taken = stays x
  unwraps_ran x _ _ _ two may (as_it_is first others none) = stays x
  unwraps_ran x _ _ _ two may (tunnel first others t speaks) =
      let one = taken_down t.kind t.old.epoch x in
      let down = taken_down_ran t.kind t.old.epoch x (may.names first others t refl speaks) in
      let same = ran_bearer A x one down two in
      goes_on x one (λ y. inner_at t first.by y y.far) down
      (inner_ran t first.by one.pair (omega (arith, same, two)) (may.carries first others t (turned one.pair) refl speaks (ap other same)))

  -- the begun message is that of a course
  begun_after : (c : Course) (last : Joining) → going_on c (λ y. nothing (record y { begun = last })) ≡ with_begun c last
  unfolding going_on
  begun_after c last =
      ap (λ ts. record { pair = record c.pair { begun = last }; changes = ts; states = c.states ++ []; numbered = c.numbered ++ [] }) (append-nil c.changes)
      ∙ (ap (λ fs. record { pair = record c.pair { begun = last }; changes = c.changes; states = fs; numbered = c.numbered ++ [] }) (append-nil c.states)
      ∙ ap (λ fs. record { pair = record c.pair { begun = last }; changes = c.changes; states = c.states; numbered = fs }) (append-nil c.numbered))

  pub opens_ran : (x : PairEnds) (outcome : LinkOutcome) (c : Course) (given : PairOutcome) → x.bearer ≤ 1 → MayOpen A x outcome → OpensInto x outcome c given → Ran A x c
  opens_ran x _ _ _ two may (opens {taken = taken} {carried = carried} {c = c} {given = given} {last = last} unwraps brings) =
      let first = unwraps_ran x taken carried c two (may.unwraps taken refl) unwraps in
      subst (Ran A x) (begun_after c last)
      (goes_on x c (λ y. nothing (record y { begun = last })) first (acts c.pair (opening (with_bytes carried) given) _ (may.opens taken carried c given last refl unwraps brings) (opened c.pair (with_bytes carried) given last brings)))
  opens_ran x _ _ _ two may deferred = stays x
  opens_ran x _ _ _ two may ignored = stays x

-- ---- calls that may release an end

module _ (A : PairEnds → Act → Type 0) (go : (y : PairEnds) → A y letting) where
  release_ran : (x : PairEnds) → Ran A x (release_near x)
  release_ran x = tested (Ran A x) (is_clear x.far) _ (nothing x) (at x.near refl) (λ _. stays x)
    where
      at : (o : Option LinkEnd) → x.near ≡ o → is_clear x.far ≡ true → Ran A x (record (nothing (record x { near = option_map let_go o })) { states = let_go_frames o })
      at None near clear = subst (λ o. Ran A x (nothing (record x { near = o }))) near (stays x)
      at (Some e) near clear = acts x letting _ (go x) (let_go_of x e near clear)

  pub released_ran : (x : PairEnds) → Ran A x (released x)
  unfolding released
  released_ran x =
      let y = (release_near x).pair in
      goes_on x (release_near x) _ (release_ran x) (turns y (release_near (turned y)) (release_ran (turned y)))

  pub cut_ran : (x : PairEnds) → A x cutting → Ran A x (cut_near x)
  cut_ran x may = goes_on x (cut_at x x.near) released (cut_at_ran A x may) (released_ran (cut_at x x.near).pair)

  pub ticked_ran : (shown : BroadcastState) (x : PairEnds) → x.bearer ≤ 1 → ((y : PairEnds) → A y (ticking shown)) → Ran A x (ticked shown x)
  ticked_ran shown x two may =
      let call = tick_near shown in
      let first = at_bearer 0 x call in
      let one : Ran A x first = at_ran A 0 x call two (tick_ran A shown (facing 0 x) (may (facing 0 x))) in
      let y = first.pair in
      let both = going_on first (λ z. at_bearer 1 z call) in
      let second = at_ran A 1 y call (ran_two A x first one two) (tick_ran A shown (facing 1 y) (may (facing 1 y))) in
      goes_on x both released (goes_on x first (λ z. at_bearer 1 z call) one second) (released_ran both.pair)

  pub arrives_ran : (x : PairEnds) (es er : ℕ) (p : Fields) (by : ℕ) (shown : BroadcastState) (c : Course) (given : PairOutcome) → x.bearer ≤ 1 → MayArrive A x es er p by shown
      → Arrives x es er p by shown c given → Ran A x c
  arrives_ran x es er p by shown c given two may a =
      let heard = heard_by p.header es er p by shown x in
      let one = hears_ran A p.header es er p by shown x may.hears in
      let y = heard.course.pair in
      let both = going_on heard.course (λ z. a.opened) in
      let second = opens_ran A y heard.outcome a.opened given (ran_two A x heard.course one two) may.opens a.opens in
      subst (Ran A x) (sym a.course) (goes_on x both released (goes_on x heard.course (λ z. a.opened) one second) (released_ran both.pair))

  -- ---- a turn

  as_so : {x : PairEnds} (o : Outset) (c : Course) {given : PairOutcome} → o ≡ record { course = c; given = given } → Ran A x c → Ran A x o.course
  as_so {x = x} o c is run = subst (λ (u : Outset). Ran A x u.course) (sym is) run

  pub happened_ran : (x : PairEnds) (first : Opening) (o : Outset) → x.bearer ≤ 1 → MayHappen A x first → Happened x first o → Ran A x o.course
  happened_ran x rests o two may is = as_so o (nothing x) is (stays x)
  happened_ran x (makes bearer is_mended) o two may is = as_so o _ is (at_ran A bearer x (made_near is_mended) two (made_ran A is_mended (facing bearer x) may.0 may.1))
  happened_ran x (mends bearer) o two may is = as_so o _ is (at_ran A bearer x mended two (mended_ran A (facing bearer x) may))
  happened_ran x (cuts bearer) o two may is = as_so o _ is (at_ran A bearer x cut_near two (cut_ran (facing bearer x) may))
  happened_ran x (ticks shown) o two may is = as_so o _ is (ticked_ran shown x two may)
  happened_ran x (hears bearer es er p by shown) o two may is =
      as_so o _ is.3 (at_ran A bearer x (λ y. is.0) two (arrives_ran (facing bearer x) es er p by shown is.0 is.1 (facing_two bearer x two) may is.2))

-- ---- messages, and the answer

-- the active link is up
active_up : (x : PairEnds) (bearer : ℕ) → active x ≡ Some bearer → is_up_at (facing bearer x).near ≡ true
active_up x bearer is = case (is_up_at (facing 0 x).near) (is_up_at (facing 1 x).near) refl refl is
  where
    case : (b d : Bool) → is_up_at (facing 0 x).near ≡ b → is_up_at (facing 1 x).near ≡ d → (if b then Some 0 else (if d then Some 1 else None)) ≡ Some bearer → is_up_at (facing bearer x).near ≡ true
    case true d one two at = let here : 0 ≡ bearer = cc in subst (λ n. is_up_at (facing n x).near ≡ true) here one
    case false true one two at = let here : 1 ≡ bearer = cc in subst (λ n. is_up_at (facing n x).near ≡ true) here two
    case false false one two at = absurd (let wrong : ⊥ = cc in wrong)

module _ (A : PairEnds → Act → Type 0) where
  pub put_one_ran : (x : PairEnds) (pieces : List (List ℕ)) (y : PairEnds) (frames : List Outgoing) → x.bearer ≤ 1 → ((z : PairEnds) → is_up_at z.near ≡ true → A z (putting pieces)) → PutsOne x pieces y frames
      → Ran A x (record (nothing y) { numbered = frames })
  put_one_ran x pieces y frames two may h =
      let p = h.puts in
      let z = facing h.bearer x in
      let c = near_course z (with_session p.end (flushed p.put)) [] (flush_frames p.put) in
      let there : Ran A z c = acts z (putting pieces) c (may z (active_up x h.bearer h.active_is)) (put z p.end p.session pieces p.put p.end_is p.session_is p.is_put) in
      subst (λ fs. Ran A x (record (nothing y) { numbered = fs })) (sym p.frames_are)
      (subst (λ w. Ran A x (record (nothing w) { numbered = flush_frames p.put })) (sym (h.after ∙ ap (facing x.bearer) p.after)) (at_ran A h.bearer x (λ w. c) two there))

  pub puts_ran : (x : PairEnds) (messages : List (List ℕ)) (frames : List Outgoing) (y : PairEnds) → x.bearer ≤ 1 → All (λ message. (z : PairEnds) → is_up_at z.near ≡ true → A z (putting (pieces_for message))) messages
      → PutsAll x messages frames y → Ran A x (record (nothing y) { numbered = frames })
  unfolding going_on
  puts_ran x _ _ _ two may (none_put _) = stays x
  puts_ran x _ _ last two may (puts_one _ between _ m messages first frames one all) =
      let P : List ℕ → Type 0 = λ message. (z : PairEnds) → is_up_at z.near ≡ true → A z (putting (pieces_for message)) in
      let c : Course = record (nothing between) { numbered = first } in
      let a = put_one_ran x (pieces_for m) between first two (All-head P m messages may) one in
      goes_on x c (λ w. record (nothing last) { numbered = frames }) a (puts_ran between messages frames last (ran_two A x c a two) (All-tail P m messages may) all)

  pub answered_ran : (taken : ℕ) (asks : Bool) (shown : BroadcastState) (x : PairEnds) → A x (answering taken asks shown) → Ran A x (answered_near taken asks shown x)
  answered_ran taken asks shown x may = at x.near refl
    where
      at : (o : Option LinkEnd) → x.near ≡ o → Ran A x (answered_at x o taken asks shown)
      at None near = stays x
      at (Some e) near = acts x (answering taken asks shown) _ may (answered x e taken asks shown near)

  pub replied_ran : (reply : Option Reply) (x : PairEnds) → x.bearer ≤ 1 → ((r : Reply) → reply ≡ Some r → (y : PairEnds) → A y (answering r.taken r.asks r.shown)) → Ran A x (replied reply x)
  replied_ran None x two may = stays x
  replied_ran (Some r) x two may = at_ran A r.bearer x (answered_near r.taken r.asks r.shown) two (answered_ran r.taken r.asks r.shown (facing r.bearer x) (may r refl (facing r.bearer x)))

-- the course of a whole turn
abbrev pub turn_course : {x x' : PairEnds} {first : Opening} {messages : List (List ℕ)} {reply : Option Reply} {frames : List Outgoing} → PairTurn x first messages reply x' frames → Course
turn_course {reply = reply} t = going_on (going_on t.first.course (λ y. record (nothing t.put) { numbered = t.put_frames })) (replied reply)

pub turn_pair : (x x' : PairEnds) (first : Opening) (messages : List (List ℕ)) (reply : Option Reply) (frames : List Outgoing) (t : PairTurn x first messages reply x' frames) → x' ≡ (turn_course t).pair
unfolding going_on
turn_pair x x' first messages reply frames t = t.after

-- what is put and the answer tell nothing
answered_none : (x : PairEnds) (o : Option LinkEnd) (taken : ℕ) (asks : Bool) (shown : BroadcastState) → (answered_at x o taken asks shown).changes ≡ []
answered_none x None taken asks shown = refl
answered_none x (Some e) taken asks shown = refl

replied_none : (reply : Option Reply) (x : PairEnds) → (replied reply x).changes ≡ []
replied_none None x = refl
replied_none (Some r) x = answered_none (facing r.bearer x) (facing r.bearer x).near r.taken r.asks r.shown

pub turn_changes : (x x' : PairEnds) (first : Opening) (messages : List (List ℕ)) (reply : Option Reply) (frames : List Outgoing) (t : PairTurn x first messages reply x' frames) → (turn_course t).changes ≡ t.first.course.changes
unfolding going_on
turn_changes x x' first messages reply frames t =
    let told = t.first.course.changes in ap (λ ts. (told ++ []) ++ ts) (replied_none reply t.put) ∙ (append-nil (told ++ []) ∙ append-nil told)

all_parts : {T : Type 0} (P : T → Type 0) (xs ys : List T) → AllByRecursion P (xs ++ ys) → AllByRecursion P xs × AllByRecursion P ys
all_parts P [] ys h = (tt, h)
all_parts P (x ∷ xs) ys h = (let more = all_parts P xs ys h.1 in ((h.0, more.0), more.1))

both_parts : {T : Type 0} (P : T → Type 0) (xs ys : List T) → All P (xs ++ ys) → All P xs × All P ys
both_parts P xs ys h = (let parts = all_parts P xs ys (recursion_from_All P (xs ++ ys) h) in (All-from_recursion P xs parts.0, All-from_recursion P ys parts.1))

-- the frames of a turn are those of its course
pub turn_frames : (F : Outgoing → Type 0) (x x' : PairEnds) (first : Opening) (messages : List (List ℕ)) (reply : Option Reply) (frames : List Outgoing) (t : PairTurn x first messages reply x' frames)
    → All F (turn_course t).states → All F (turn_course t).numbered → All F frames
unfolding going_on
turn_frames F x x' first messages reply frames t states numbered =
    let c = t.first.course in
    let last = (replied reply t.put).states in
    let of_states = both_parts F (c.states ++ []) last states in
    let of_numbered = both_parts F (c.numbered ++ t.put_frames) (replied reply t.put).numbered numbered in
    let of_first = both_parts F c.numbered t.put_frames of_numbered.0 in
    subst (All F) (sym t.frames_are)
    (All-append F c.states _ (both_parts F c.states [] of_states.0).0 (All-append F c.numbered _ of_first.0 (All-append F t.put_frames last of_first.1 of_states.1)))

pub turn_ran : (A : PairEnds → Act → Type 0) → ((y : PairEnds) → A y letting) → (x x' : PairEnds) (first : Opening) (messages : List (List ℕ)) (reply : Option Reply) (frames : List Outgoing) → x.bearer ≤ 1
    → MayTurn A x first messages reply → (t : PairTurn x first messages reply x' frames) → Ran A x (turn_course t)
unfolding going_on
turn_ran A go x x' first messages reply frames two may t =
    let c = t.first.course in
    let one = happened_ran A go x first t.first two may.happens t.happened in
    let there = ran_two A x c one two in
    let step = λ (y : PairEnds). record (nothing t.put) { numbered = t.put_frames } in
    let second = puts_ran A c.pair messages t.put_frames t.put there may.puts t.puts in
    let both = goes_on x c step one second in
    goes_on x (going_on c step) (replied reply) both (replied_ran A reply t.put (ran_two A x (going_on c step) both two) may.answers)
