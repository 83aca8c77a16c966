-- The last session of each link end stays the last one through a turn, but where an arrival on its bearer takes the link up.
use Rattle.std.specs.Prelude.{◌==◌, ◌||◌, nat_le, nat_lt, if◌then◌else◌}
use Rattle.std.proofs.Common.{◌≡◌, ◌≤◌, ℕ, zero, suc, Bool, true, false, List, Option, Some, None, refl, sym, ap, ◌∙◌, subst, arith}
use Rattle.std.proofs.lemmas.Bool.Decides.{nat_tests}
use Rattle.tipc_types.specs.LinkStates.{is_up}
use Rattle.tipc_types.specs.declared.link_words.BroadcastState.{BroadcastState}
use Rattle.tipc_types.specs.declared.link_words.Why.TheVariants as why
use Rattle.tipc_outside.specs.declared.outgoing.Outgoing.{Outgoing}
use Rattle.tipc_header.specs.declared.packet.Header.{Header}
use Rattle.tipc_header.specs.declared.packet.Header.TheVariants as header
use Rattle.tipc_header.specs.Spelling.{Fields}
use Rattle.tipc_link_fsm.specs.declared.changes.Change.{Change}
use Rattle.tipc_link_fsm.specs.declared.changes.Change.TheVariants.{Answer, Down, Ignore, Stay, Up}
use Rattle.tipc_link_fsm.specs.Table.{Fsm, Outcome}
use Rattle.tipc_link_fsm.proofs.Moves.{is_going_up}
use Rattle.tipc_link.specs.Links.{LinkEnd, after, arrival_end, heard_end, is_heard, outcome_of}
use Rattle.tipc_link.specs.Sessions.{arrived, content_of}
use Rattle.tipc_pair.specs.declared.changes.PairOutcome.{PairOutcome}
use Rattle.tipc_pair.specs.Changeovers.{released, risen}
use Rattle.tipc_pair.specs.Courses.{Course, going_on}
use Rattle.tipc_pair.specs.Facing.{PairEnds, active, facing, in_contact, is_up_at, other, turned, with_made, with_near}
use Rattle.tipc_pair.specs.PairArrivals.{Arrives, Heard, activate_higher, activates, behind, by_number, hears as heard_by, met_at, met_near, passing, reset_near}
use Rattle.tipc_pair.specs.PairCalls.{answered_at, at_bearer, mended_near}
use Rattle.tipc_pair.specs.PairTurns.{Happened, MakesNew, Opening, Outset, PairTurn, PutsAll, Reply, made_near, replied, IsOnOne}
use Rattle.tipc_pair.specs.PairTurns.Opening.{cuts, hears, makes, mends, rests, ticks}
use Rattle.tipc_pair.specs.PairTurns.PutsAll.{none_put, puts_one}
use Rattle.tipc_pair.proofs.Facings.{facing_far, facing_near, facing_two as facing_low}
use Rattle.tipc_pair.proofs.turns.LinkSteps.{StepOf, outcome_steps}
use Rattle.tipc_two_nodes.proofs.sights.LastSessions.{KeepsLast, after_last, following_last, last_epoch, last_same, last_then, mapped_last, numbers_facing, quiet_last, released_last, risen_last}
use Rattle.tipc_two_nodes.proofs.links.calls.Listening.{arrived_epoch as arrived_last}
use Rattle.tipc_two_nodes.proofs.sights.CallSessions.{answered_last, cut_last, mended_last, opens_last, puts_last, reset_last, ticked_last}
use Rattle.tipc_replay.specs.Numbers.{end_on}
use Rattle.tipc_replay.proofs.pairs.Pairings.{first_end, second_end}

-- ---- what is heard on the near link

-- the far end has the last session of before, and so has the near one where its link was up
pub record KeepsSteady (x y : PairEnds) : Type 0 where
  pub bearer : y.bearer ≡ x.bearer
  pub near : is_up_at x.near ≡ true → last_epoch y.near ≡ last_epoch x.near
  pub far : last_epoch y.far ≡ last_epoch x.far

steady_of : (x y : PairEnds) → KeepsLast x y → KeepsSteady x y
steady_of x y k = record { bearer = k.bearer; near = λ up. k.near; far = k.far }

steady_then : (x y z : PairEnds) → KeepsSteady x y → KeepsLast y z → KeepsSteady x z
steady_then x y z h k = record { bearer = k.bearer ∙ h.bearer; near = λ up. k.near ∙ h.near up; far = k.far ∙ h.far }

-- a link that is up doesn't go up
not_rising : (f g : Fsm) (c : Change) → StepOf f g c → is_up f.state ≡ true → is_going_up c ≡ false
not_rising f g Up step up = absurd (let low = step.0 in let wrong : ⊥ = cc in wrong)
not_rising f g (Down cause) step up = refl
not_rising f g Stay step up = refl
not_rising f g (Answer reply) step up = refl
not_rising f g (Ignore reason) step up = refl

arrival_end_last : (e : LinkEnd) (o : Outcome) (p : Fields) (by : ℕ) → is_going_up o.change ≡ false → last_epoch (Some (arrival_end e o p by)) ≡ last_epoch (Some e)
arrival_end_last e o p by quiet = elim (is_heard p.header o.change) as (λ t. last_epoch (Some (if t then heard_end (after e o) by p.acknowledgement (content_of p) else after e o)) ≡ last_epoch (Some e)) [
  | true ↦ mapped_last (λ s. arrived s by p.acknowledgement (content_of p)) (λ s. arrived_last s by p.acknowledgement (content_of p)) (after e o).session ∙ after_last e o quiet
  | false ↦ after_last e o quiet
]

met_steady : (x : PairEnds) (n : Option LinkEnd) (es er : ℕ) (p : Fields) (by : ℕ) (shown : BroadcastState) → x.near ≡ n → KeepsSteady x (met_at es er p by shown x n).course.pair
unfolding going_on
met_steady x None es er p by shown is = steady_of x x (last_same x)
met_steady x (Some e) es er p by shown is =
    let o = outcome_of e.fsm p.header es er (is_up_at x.far) in
    let z = with_near x (arrival_end e o p by) in
    let k = (following_last z o.change es).keeps in
    record {
      bearer = k.bearer;
      near = λ up.
          let quiet = not_rising e.fsm o.after o.change (outcome_steps e.fsm p.header es er (is_up_at x.far)).step (ap is_up_at (sym is) ∙ up) in
          k.near ∙ arrival_end_last e o p by quiet ∙ ap last_epoch (sym is);
      far = k.far;
    }

-- by the contact number that is shown
number_steady : (x : PairEnds) (number : ℕ) (same higher : Heard) → KeepsSteady x same.course.pair → KeepsSteady x higher.course.pair → KeepsSteady x (by_number x number same higher).course.pair
number_steady x number same higher h k = elim (nat_lt number x.seen) as (λ t. KeepsSteady x (if t then passing x why.Contact else (if number == x.seen then same else higher)).course.pair) [
  | true ↦ steady_of x x (last_same x)
  | false ↦ elim (number == x.seen) as (λ t. KeepsSteady x (if t then same else higher).course.pair) [
    | true ↦ h
    | false ↦ k
  ]
]

no_contact : (a b : Bool) → (a || b) ≡ false → a ≡ true → ⊥
no_contact true b none up = cc
no_contact false b none up = cc

activate_steady : (x : PairEnds) (number es er : ℕ) (p : Fields) (by : ℕ) (shown : BroadcastState) → KeepsSteady x (activate_higher number (met_near es er p by shown) x).course.pair
unfolding going_on
activate_steady x number es er p by shown =
    let q = (risen x number).pair in
    let first = risen_last x number in
    elim (in_contact x) as (λ t. in_contact x ≡ t → KeepsSteady x (activates t (risen x number) (behind (risen x number) (met_near es er p by shown))).course.pair) [
      | true ↦ λ is. steady_of x q first
      | false ↦ λ none.
          let second = met_steady q q.near es er p by shown refl in
          record {
            bearer = second.bearer ∙ first.bearer;
            near = λ up. absurd (no_contact (is_up_at x.near) (is_up_at x.far) none up);
            far = second.far ∙ first.far;
          }
    ] refl

hears_steady : (h : Header) (x : PairEnds) (es er : ℕ) (p : Fields) (by : ℕ) (shown : BroadcastState) → KeepsSteady x (heard_by h es er p by shown x).course.pair
unfolding going_on
hears_steady (header.Reset said) x es er p by shown =
    let q = (risen x said.contact).pair in
    number_steady x said.contact (reset_near es shown x) (behind (risen x said.contact) (reset_near es shown)) (steady_of x _ (reset_last x es shown).keeps)
    (steady_of x _ (last_then x q _ (risen_last x said.contact) (reset_last q es shown).keeps))
hears_steady (header.Activate said) x es er p by shown =
    number_steady x said.contact (met_near es er p by shown x) (activate_higher said.contact (met_near es er p by shown) x) (met_steady x x.near es er p by shown refl) (activate_steady x said.contact es er p by shown)
hears_steady other x es er p by shown = met_steady x x.near es er p by shown refl

arrival_steady : (x : PairEnds) (es er : ℕ) (p : Fields) (by : ℕ) (shown : BroadcastState) (c : Course) (given : PairOutcome) → Arrives x es er p by shown c given → x.bearer ≤ 1 → KeepsSteady x c.pair
unfolding going_on
arrival_steady x es er p by shown c given a two =
    let m = heard_by p.header es er p by shown x in
    let z = m.course.pair in
    let one = hears_steady p.header x es er p by shown in
    let low : z.bearer ≤ 1 = (let is = one.bearer in omega arith) in
    let then_ = (opens_last z m.outcome a.opened given a.opens low).keeps in
    let y = a.opened.pair in
    let last = released_last y (let is = then_.bearer in omega arith) in
    subst (λ (d : Course). KeepsSteady x d.pair) (sym a.course) (steady_then x z (released y).pair one (last_then z y (released y).pair then_ last))

-- ---- by bearer

-- the last session of the end on a bearer, of a pair that is seen from bearer 0's link
abbrev pub last_on : ℕ → PairEnds → Option ℕ
last_on b x = last_epoch (end_on b (Some x))

by_bearer : (x y : PairEnds) (b : ℕ) → x.bearer ≡ 0 → y.bearer ≡ 0 → (b ≡ 0 → last_epoch y.near ≡ last_epoch x.near) → (b ≡ 1 → last_epoch y.far ≡ last_epoch x.far) → last_on b y ≡ last_on b x
by_bearer x y zero first last near far = ap last_epoch (first_end y last) ∙ near refl ∙ ap last_epoch (sym (first_end x first))
by_bearer x y (suc zero) first last near far = ap last_epoch (second_end y last) ∙ far refl ∙ ap last_epoch (sym (second_end x first))
by_bearer x y (suc (suc b)) first last near far =
    let past : nat_le (suc (suc b)) 1 ≡ false = grind (arith, nat_tests) in
    ap (λ t. last_epoch (if t then (facing (suc (suc b)) y).near else None)) past ∙ sym (ap (λ t. last_epoch (if t then (facing (suc (suc b)) x).near else None)) past)

-- a pair that is seen from bearer 0's link has the last sessions of before
pub record StaysLast (x y : PairEnds) : Type 0 where
  pub first : y.bearer ≡ 0
  pub last : (b : ℕ) → last_on b y ≡ last_on b x

stays_of : (x y : PairEnds) → x.bearer ≡ 0 → KeepsLast x y → StaysLast x y
stays_of x y first k = record { first = k.bearer ∙ first; last = λ b. by_bearer x y b first (k.bearer ∙ first) (λ _. k.near) (λ _. k.far) }

-- ---- what happens first

-- an arrival that comes on the bearer finds the link there up
abbrev pub IsSteady : PairEnds → ℕ → Opening → Type 0
IsSteady x b (hears bearer es er p by shown) = b ≡ bearer → is_up_at (end_on b (Some x)) ≡ true
IsSteady x b other = Unit {0}

-- the pair is seen from bearer 0's link then, and the end on a bearer has the last session of before
pub record OpensLast (x : PairEnds) (opening : Opening) (y : PairEnds) : Type 0 where
  pub first : y.bearer ≡ 0
  pub last : (b : ℕ) → IsSteady x b opening → last_on b y ≡ last_on b x

opens_of : (x y : PairEnds) (opening : Opening) → x.bearer ≡ 0 → KeepsLast x y → OpensLast x opening y
opens_of x y opening first k = let s = stays_of x y first k in record { first = s.first; last = λ b _. s.last b }

low_of : (x : PairEnds) → x.bearer ≡ 0 → x.bearer ≤ 1
low_of x first = omega (arith, first)

heard_last : (x : PairEnds) (bearer es er : ℕ) (p : Fields) (by : ℕ) (shown : BroadcastState) (c : Course) (given : PairOutcome) → x.bearer ≡ 0 → bearer ≤ 1 → Arrives (facing bearer x) es er p by shown c given
    → OpensLast x (hears bearer es er p by shown) (facing x.bearer c.pair)
heard_last x zero es er p by shown c given first low a =
    let here : facing 0 x ≡ x = facing_near 0 x first in
    let k = arrival_steady (facing 0 x) es er p by shown c given a (subst (λ (y : PairEnds). y.bearer ≤ 1) (sym here) (low_of x first)) in
    let zero_is : c.pair.bearer ≡ 0 = k.bearer ∙ ap (λ (y : PairEnds). y.bearer) here ∙ first in
    let same : facing x.bearer c.pair ≡ c.pair = ap (λ n. facing n c.pair) first ∙ facing_near 0 c.pair zero_is in
    subst (OpensLast x (hears 0 es er p by shown)) (sym same) (record {
      first = zero_is;
      last = λ b steady. by_bearer x c.pair b first zero_is
          (λ is. k.near (ap (λ (y : PairEnds). is_up_at y.near) here ∙ ap is_up_at (sym (first_end x first)) ∙ ap (λ n. is_up_at (end_on n (Some x))) (sym is) ∙ steady is) ∙ ap (λ (y : PairEnds). last_epoch y.near) here)
          (λ is. k.far ∙ ap (λ (y : PairEnds). last_epoch y.far) here);
    })
heard_last x (suc zero) es er p by shown c given first low a =
    let apart : (x.bearer == 1) ≡ false = ap (λ n. n == 1) first in
    let here : facing 1 x ≡ turned x = facing_far 1 x apart in
    let one_is : (facing 1 x).bearer ≡ 1 = ap (λ (y : PairEnds). y.bearer) here ∙ ap other first in
    let k = arrival_steady (facing 1 x) es er p by shown c given a (omega (arith, one_is)) in
    let bearer_is : c.pair.bearer ≡ 1 = k.bearer ∙ one_is in
    let back : (c.pair.bearer == 0) ≡ false = ap (λ n. n == 0) bearer_is in
    let same : facing x.bearer c.pair ≡ turned c.pair = ap (λ n. facing n c.pair) first ∙ facing_far 0 c.pair back in
    let zero_is : (turned c.pair).bearer ≡ 0 = ap other bearer_is in
    subst (OpensLast x (hears 1 es er p by shown)) (sym same) (record {
      first = zero_is;
      last = λ b steady. by_bearer x (turned c.pair) b first zero_is
          (λ is. k.far ∙ ap (λ (y : PairEnds). last_epoch y.far) here)
          (λ is. k.near (ap (λ (y : PairEnds). is_up_at y.near) here ∙ ap is_up_at (sym (second_end x first)) ∙ ap (λ n. is_up_at (end_on n (Some x))) (sym is) ∙ steady is) ∙ ap (λ (y : PairEnds). last_epoch y.near) here);
    })
heard_last x (suc (suc bearer)) es er p by shown c given first low a = absurd (let wrong : ⊥ = omega arith in wrong)

-- an end that is made has had no session
pub made_last : (x : PairEnds) (bearer : ℕ) (mended : Bool) → x.bearer ≡ 0 → (facing bearer x).near ≡ None → StaysLast x (at_bearer bearer x (made_near mended)).pair
unfolding going_on
made_last x bearer mended first none =
    let y = facing bearer x in
    let made : KeepsLast y (with_made y) = record { bearer = refl; near = sym (ap last_epoch none); far = refl } in
    stays_of x _ first (numbers_facing bearer x (made_near mended y).pair _ (low_of x first) (quiet_last y (made_near mended y).pair (by mended made))).keeps
  where
    by : (t : Bool) → KeepsLast (facing bearer x) (with_made (facing bearer x)) → KeepsLast (facing bearer x) (made_near t (facing bearer x)).pair
    by true made = record { bearer = refl; near = made.near; far = refl }
    by false made = made

opening_last : (x : PairEnds) (opening : Opening) (o : Outset) → x.bearer ≡ 0 → IsOnOne opening → MakesNew x opening → Happened x opening o → OpensLast x opening o.course.pair
opening_last x rests o first on new is = subst (λ (u : Outset). OpensLast x rests u.course.pair) (sym is) (opens_of x x rests first (last_same x))
opening_last x (makes bearer mended) o first on new is =
    let s = made_last x bearer mended first new in
    subst (λ (u : Outset). OpensLast x (makes bearer mended) u.course.pair) (sym is) (record { first = s.first; last = λ b _. s.last b })
opening_last x (mends bearer) o first on new is =
    let y = facing bearer x in
    subst (λ (u : Outset). OpensLast x (mends bearer) u.course.pair) (sym is)
    (opens_of x _ (mends bearer) first (numbers_facing bearer x (mended_near y y.near) _ (low_of x first) (quiet_last y (mended_near y y.near) (mended_last y y.near refl))).keeps)
opening_last x (cuts bearer) o first on new is =
    let y = facing bearer x in
    subst (λ (u : Outset). OpensLast x (cuts bearer) u.course.pair) (sym is)
    (opens_of x _ (cuts bearer) first (numbers_facing bearer x _ _ (low_of x first) (cut_last y (facing_low bearer x (low_of x first)))).keeps)
opening_last x (ticks shown) o first on new is =
    subst (λ (u : Outset). OpensLast x (ticks shown) u.course.pair) (sym is) (opens_of x _ (ticks shown) first (ticked_last x shown (low_of x first)).keeps)
opening_last x (hears bearer es er p by shown) o first on new is =
    subst (λ (u : Outset). OpensLast x (hears bearer es er p by shown) u.course.pair) (sym is.3) (heard_last x bearer es er p by shown is.0 is.1 first on is.2)

-- ---- messages are put, and the answer is given

active_low : (x : PairEnds) (bearer : ℕ) → active x ≡ Some bearer → bearer ≤ 1
active_low x bearer is = by (is_up_at (facing 0 x).near) (is_up_at (facing 1 x).near) is
  where
    by : (s t : Bool) → (if s then Some 0 else (if t then Some 1 else None)) ≡ Some bearer → bearer ≤ 1
    by true t is = let same : 0 ≡ bearer = cc in omega (arith, same)
    by false true is = let same : 1 ≡ bearer = cc in omega (arith, same)
    by false false is = absurd cc

all_put_last : (x : PairEnds) (messages : List (List ℕ)) (frames : List Outgoing) (y : PairEnds) → x.bearer ≤ 1 → PutsAll x messages frames y → KeepsLast x y
all_put_last _ _ _ _ two (none_put x) = last_same x
all_put_last _ _ _ _ two (puts_one x between last m messages first frames one more) =
    let k = subst (KeepsLast x) (sym one.after) (puts_last one.bearer x one.near _ first (active_low x one.bearer one.active_is) two one.puts).keeps in
    last_then x between last k (all_put_last between messages frames last (let is = k.bearer in omega arith) more)

replied_last : (reply : Option Reply) (x : PairEnds) → x.bearer ≤ 1 → KeepsLast x (replied reply x).pair
replied_last None x two = last_same x
replied_last (Some r) x two =
    let y = facing r.bearer x in
    (numbers_facing r.bearer x (answered_at y y.near r.taken r.asks r.shown).pair _ two (quiet_last y (answered_at y y.near r.taken r.asks r.shown).pair (answered_last y y.near r.taken r.asks r.shown refl))).keeps

-- ---- the turn

pub turn_last : (x x' : PairEnds) (opening : Opening) (messages : List (List ℕ)) (reply : Option Reply) (frames : List Outgoing) → x.bearer ≡ 0 → IsOnOne opening → MakesNew x opening
    → PairTurn x opening messages reply x' frames → OpensLast x opening x'
turn_last x x' opening messages reply frames first on new t =
    let y = t.first.course.pair in
    let one = opening_last x opening t.first first on new t.happened in
    let k = all_put_last y messages t.put_frames t.put (low_of y one.first) t.puts in
    let l = last_then y t.put (replied reply t.put).pair k (replied_last reply t.put (let is = k.bearer in let start = one.first in omega arith)) in
    let s = stays_of y (replied reply t.put).pair one.first l in
    subst (OpensLast x opening) (sym t.after) (record { first = s.first; last = λ b steady. s.last b ∙ one.last b steady })
