-- A link that hears its peer isn't silent, and a tick adds one to its silence at most.
use Rattle.std.specs.Prelude.{◌==◌, ◌&&◌, nat_lt, not, if◌then◌else◌}
use Rattle.std.proofs.Common.{◌≡◌, ◌≤◌, ◌<◌, ◌+◌, ◌∙◌, ℕ, Bool, true, false, Option, Some, None, refl, sym, ap, subst, arith}
use Rattle.std.proofs.lemmas.Bool.{true≢false}
use Rattle.std.proofs.lemmas.Bool.Decides.{nat_tests}
use Rattle.tipc_types.specs.LinkStates.{is_up}
use Rattle.tipc_types.specs.declared.link_words.BroadcastState.{BroadcastState}
use Rattle.tipc_types.specs.declared.link_words.Why.TheVariants as why
use Rattle.tipc_header.specs.declared.packet.Header.{Header}
use Rattle.tipc_header.specs.declared.packet.Header.TheVariants as header
use Rattle.tipc_header.specs.Spelling.{Fields}
use Rattle.tipc_link_fsm.specs.Table.{Fsm, is_held, is_in_reset, is_last, is_reset_reset, is_session, on_activate, on_traffic}
use Rattle.tipc_link_fsm.proofs.Moves.{cases_on, is_up_held}
use Rattle.tipc_link.specs.Links.{LinkEnd, arrival_end, outcome_of}
use Rattle.tipc_pair.specs.declared.changes.PairOutcome.{PairOutcome}
use Rattle.tipc_pair.specs.Changeovers.{released, risen}
use Rattle.tipc_pair.specs.Courses.{Course, going_on}
use Rattle.tipc_pair.specs.Facing.{PairEnds, facing, in_contact, is_up_at}
use Rattle.tipc_pair.specs.LinkReadings.{silence_in}
use Rattle.tipc_pair.specs.PairArrivals.{Arrives, Heard, activate_higher, activates, behind, hears as heard_by, met, met_at, met_near, passing}
use Rattle.tipc_pair.specs.PairTurns.{Opening, Outset, replied}
use Rattle.tipc_pair.specs.PairTurns.Opening.{cuts, hears, makes, mends, rests, ticks}
use Rattle.tipc_pair.proofs.EndSteps.{fsm_arrived}
use Rattle.tipc_pair.proofs.Facings.{facing_back, facing_two}
use Rattle.tipc_pair.proofs.acts.Acts.{Act}
use Rattle.tipc_pair.proofs.acts.Acting.{MayArrive, arrives_ran, hears_may, opens_may, ran_bearer}
use Rattle.tipc_pair.proofs.acts.Walks.{tested}
use Rattle.tipc_pair.proofs.turns.PairKept.{facing_bearer}
use Rattle.tipc_pair.proofs.turns.Silences.{Within, down_zero, opening_hushed, steady_within, steady_zero, ticks_in}
use Rattle.tipc_pair.proofs.turns.Steady.{ends_on, met_steady, opens_steady, puts_steady, released_steady, replied_steady, risen_down, steady_on, steady_then}
use Rattle.tipc_settling.specs.Silence.{IsWord, SilenceGrowsByTicks, WordsEndSilence, silence_by}
use Rattle.tipc_settling.specs.Stillness.{Footing, IsStill, IsStillEnd, ShowsNumber, ShowsPresent}
use Rattle.tipc_settling.proofs.Pairs.{near_still, still_facing}
use Rattle.tipc_settling.proofs.Rows.{peer_known}

-- ---- link states

-- for how long a link with these states is silent
abbrev quiet_of : Fsm → ℕ
quiet_of f = if is_up f.state then f.silent else 0

down_quiet : (f : Fsm) → is_up f.state ≡ false → quiet_of f ≡ 0
down_quiet f down = ap (λ b. if b then f.silent else 0) down

-- both epochs are those of the session, where the link is up
abbrev pub IsMeant : Fsm → ℕ → ℕ → Type 0
IsMeant f es er = is_up f.state ≡ true → is_session f es er ≡ true

activate_quiet : (f : Fsm) (es er : ℕ) → IsMeant f es er → quiet_of (on_activate f es er).after ≡ 0
unfolding on_activate
activate_quiet f es er meant =
    cases_on (λ o. quiet_of o.after ≡ 0) (is_held f.state) _ _ (λ held. down_quiet f (is_up_held f.state held)) (λ _.
    cases_on (λ o. quiet_of o.after ≡ 0) ((is_in_reset f.state && not (is_last f.own)) && ((er == f.own) && not (nat_lt es f.highest))) _ _ (λ fits. refl) (λ _.
    cases_on (λ o. quiet_of o.after ≡ 0) (is_up f.state && is_session f es er) _ _ (λ here. refl) (λ apart. by (is_up f.state) refl apart)))
  where
    by : (u : Bool) → is_up f.state ≡ u → (is_up f.state && is_session f es er) ≡ false → quiet_of f ≡ 0
    by false is apart = down_quiet f is
    by true is apart = absurd (true≢false (sym (ap (λ b. b && is_session f es er) is ∙ meant is) ∙ apart))

traffic_quiet : (f : Fsm) (es er : ℕ) → IsMeant f es er → quiet_of (on_traffic f es er).after ≡ 0
unfolding on_traffic
traffic_quiet f es er meant =
    cases_on (λ o. quiet_of o.after ≡ 0) (is_session f es er && (is_reset_reset f.state && not (is_last f.own))) _ _ (λ fits. refl) (λ _.
    cases_on (λ o. quiet_of o.after ≡ 0) (is_session f es er && is_up f.state) _ _ (λ here. refl) (λ apart. by (is_up f.state) refl apart))
  where
    by : (u : Bool) → is_up f.state ≡ u → (is_session f es er && is_up f.state) ≡ false → quiet_of f ≡ 0
    by false is apart = down_quiet f is
    by true is apart = absurd (true≢false (sym (ap (λ b. b && is_up f.state) (meant is) ∙ is) ∙ apart))

outcome_quiet : (h : Header) (f : Fsm) (es er : ℕ) (held : Bool) → IsWord h → IsMeant f es er → quiet_of (outcome_of f h es er held).after ≡ 0
outcome_quiet (header.Reset said) f es er held word meant = absurd word
outcome_quiet (header.Discovery said) f es er held word meant = absurd word
outcome_quiet (header.Activate said) f es er held word meant = activate_quiet f es er meant
outcome_quiet other f es er held word meant = traffic_quiet f es er meant

-- the present epochs of both are those of the session
pub is_meant : (own peer : Footing) (seen bearer es er : ℕ) (f : Fsm) → IsStillEnd own peer seen bearer f → es ≡ peer.epoch bearer → er ≡ own.epoch bearer → IsMeant f es er
is_meant own peer seen bearer es er f h theirs ours up =
    let mine = h.epoch in
    let same : (er == f.own) ≡ true = grind (arith, nat_tests, ours, mine) in
    ap (λ b. b && (er == f.own)) (peer_known f.peer es (h.up up ∙ ap Some (sym theirs))) ∙ same

-- ---- the near link

met_quiet : (x : PairEnds) (e : LinkEnd) (p : Fields) (es er by : ℕ) (shown : BroadcastState) → IsWord p.header → IsMeant e.fsm es er → silence_in (met x e (outcome_of e.fsm p.header es er (is_up_at x.far)) p es by shown).course.pair.near ≡ 0
met_quiet x e p es er by shown word meant =
    let o = outcome_of e.fsm p.header es er (is_up_at x.far) in
    let d = arrival_end e o p by in
    let y = (met x e o p es by shown).course.pair in
    let s = met_steady x e o p es by shown in
    steady_zero (Some d) y.near s.near (ap quiet_of (fsm_arrived e o p by) ∙ outcome_quiet p.header e.fsm es er (is_up_at x.far) word meant)

-- an end that is up, where there is one, means both epochs
abbrev AreMeant : Option LinkEnd → ℕ → ℕ → Type 0
AreMeant o es er = (e : LinkEnd) → o ≡ Some e → IsMeant e.fsm es er

near_quiet : (es er : ℕ) (p : Fields) (by : ℕ) (shown : BroadcastState) (x : PairEnds) (o : Option LinkEnd) → x.near ≡ o → IsWord p.header → AreMeant o es er → silence_in (met_at es er p by shown x o).course.pair.near ≡ 0
near_quiet es er p by shown x None is word meant = ap silence_in is
near_quiet es er p by shown x (Some e) is word meant = met_quiet x e p es er by shown word (meant e refl)

-- an end that is down means anything
down_meant : (o : Option LinkEnd) (es er : ℕ) → is_up_at o ≡ false → AreMeant o es er
down_meant o es er down e is up = absurd (true≢false (sym up ∙ (sym (ap is_up_at is) ∙ down)))

abbrev EndsQuiet : Heard → Type 0
EndsQuiet h = silence_in h.course.pair.near ≡ 0

higher_quiet : (there : Bool) (number es er : ℕ) (p : Fields) (by : ℕ) (shown : BroadcastState) (x : PairEnds) → IsWord p.header → EndsQuiet (activates there (risen x number) (behind (risen x number) (met_near es er p by shown)))
unfolding going_on
higher_quiet true number es er p by shown x word = (let down = risen_down x number in down_zero (risen x number).pair.near down.near)
higher_quiet false number es er p by shown x word =
    (let down = risen_down x number in let y = (risen x number).pair in near_quiet es er p by shown y y.near refl word (down_meant y.near es er down.near))

hears_quiet : (h : Header) (es er : ℕ) (p : Fields) (by : ℕ) (shown : BroadcastState) (x : PairEnds) (contact : ℕ) → p.header ≡ h → x.seen ≤ contact → ShowsNumber contact h → IsWord p.header → AreMeant x.near es er
    → EndsQuiet (heard_by h es er p by shown x)
hears_quiet (header.Reset said) es er p by shown x contact is most number word meant = absurd (subst IsWord is word)
hears_quiet (header.Activate said) es er p by shown x contact is most number word meant =
    let meet = met_near es er p by shown in
    tested EndsQuiet (nat_lt said.contact x.seen) (passing x why.Contact) (if said.contact == x.seen then meet x else activate_higher said.contact meet x)
    (λ lower. let below : said.contact < x.seen = grind (arith, nat_tests, lower) in absurd (omega (arith, below, number, most)))
    (λ _. tested EndsQuiet (said.contact == x.seen) (meet x) (activate_higher said.contact meet x) (λ _. near_quiet es er p by shown x x.near refl word meant)
    (λ _. higher_quiet (in_contact x) said.contact es er p by shown x word))
hears_quiet other es er p by shown x contact is most number word meant = near_quiet es er p by shown x x.near refl word meant

-- ---- an arrival

-- anything may be done
abbrev Any : PairEnds → Act → Type 0
Any x a = Unit {0}

-- the pair is seen from the same link then
arrives_bearer : (x : PairEnds) (es er : ℕ) (p : Fields) (by : ℕ) (shown : BroadcastState) (c : Course) (given : PairOutcome) → x.bearer ≤ 1 → Arrives x es er p by shown c given → c.pair.bearer ≡ x.bearer
arrives_bearer x es er p by shown c given two a =
    let may : MayArrive Any x es er p by shown = record {
      hears = hears_may Any p.header es er p by shown x (λ number. tt) (λ y. tt) (λ y. tt);
      opens = opens_may Any _ _ (λ y epoch. tt) (λ y t by. tt) (λ y packets given. tt);
    } in
    ran_bearer Any x c (arrives_ran Any (λ y. tt) x es er p by shown c given two may a) two

arrives_quiet : (own peer : Footing) (bearer : ℕ) (x : PairEnds) (es er : ℕ) (p : Fields) (by : ℕ) (shown : BroadcastState) (c : Course) (given : PairOutcome) → x.bearer ≡ bearer → IsStill own peer x → ShowsPresent peer bearer es p
    → er ≡ own.epoch bearer → IsWord p.header → Arrives x es er p by shown c given → silence_in c.pair.near ≡ 0
unfolding going_on
arrives_quiet own peer bearer x es er p by shown c given on h shows back word a =
    let heard = heard_by p.header es er p by shown x in
    let theirs : es ≡ peer.epoch x.bearer = shows.epoch ∙ ap (λ b. peer.epoch b) (sym on) in
    let ours : er ≡ own.epoch x.bearer = back ∙ ap (λ b. own.epoch b) (sym on) in
    let meant : AreMeant x.near es er = λ e is. is_meant own peer x.seen x.bearer es er e.fsm (near_still own peer x e is h) theirs ours in
    let one = hears_quiet p.header es er p by shown x peer.contact refl h.seen shows.number word meant in
    let y = heard.course.pair in
    let z = a.opened.pair in
    let opened = opens_steady y heard.outcome a.opened given a.opens in
    let last = released_steady z in
    subst (λ (d : Course). silence_in d.pair.near ≡ 0) (sym a.course) (steady_zero y.near (released z).pair.near (steady_then y.near z.near (released z).pair.near opened.near last.near) one)

-- ---- a turn

pub words_end_silence : WordsEndSilence
words_end_silence own peer x x' bearer es er p by shown messages reply frames zero_is one h shows back word t =
    let happened = t.happened in
    let c = happened.0 in
    let z = facing bearer x in
    let on : z.bearer ≡ bearer = facing_bearer bearer x one h.two in
    let quiet = arrives_quiet own peer bearer z es er p by shown c happened.1 on (still_facing own peer bearer x h) shows back word happened.2 in
    let w = facing x.bearer c.pair in
    let first : t.first.course.pair ≡ w = ap (λ (o : Outset). o.course.pair) happened.3 in
    let hushed = opening_hushed x (hears bearer es er p by shown) t.first zero_is one happened in
    let k = hushed.ends.bearer h.two in
    let two : t.first.course.pair.bearer ≤ 1 = (let both = h.two in omega (arith, k, both)) in
    let later = puts_steady t.first.course.pair messages t.put_frames t.put two t.puts in
    let put_two : t.put.bearer ≤ 1 = (let same = later.bearer two in omega (arith, same, two)) in
    let last = replied_steady reply t.put put_two in
    let end = steady_then (facing bearer t.first.course.pair).near (facing bearer t.put).near (facing bearer (replied reply t.put).pair).near
    (steady_on bearer t.first.course.pair t.put two later) (steady_on bearer t.put (replied reply t.put).pair put_two last) in
    let stays : c.pair.bearer ≡ bearer = arrives_bearer z es er p by shown c happened.1 (facing_two bearer x h.two) happened.2 ∙ on in
    let back_there : facing bearer w ≡ c.pair = ap (λ n. facing n w) (sym stays) ∙ facing_back x.bearer c.pair h.two (omega (arith, stays, one)) in
    let here : silence_in (facing bearer t.first.course.pair).near ≡ 0 = ap (λ (y : PairEnds). silence_in (facing bearer y).near) first ∙ ap (λ (y : PairEnds). silence_in y.near) back_there ∙ quiet in
    subst (λ (y : PairEnds). silence_in (facing bearer y).near ≡ 0) (sym t.after) (steady_zero _ _ end here)

ticks_are : (opening : Opening) → ticks_in opening ≡ silence_by opening
ticks_are (ticks shown) = refl
ticks_are rests = refl
ticks_are (makes bearer is_mended) = refl
ticks_are (mends bearer) = refl
ticks_are (cuts bearer) = refl
ticks_are (hears bearer es er p by shown) = refl

pub silence_grows : SilenceGrowsByTicks
silence_grows x x' opening messages reply frames bearer zero_is one t =
    let two : x.bearer ≤ 1 = omega (arith, zero_is) in
    let hushed = opening_hushed x opening t.first zero_is one t.happened in
    let y = t.first.course.pair in
    let k = hushed.ends.bearer two in
    let y_two : y.bearer ≤ 1 = omega (arith, k, two) in
    let later = puts_steady y messages t.put_frames t.put y_two t.puts in
    let put_two : t.put.bearer ≤ 1 = (let same = later.bearer y_two in omega (arith, same, y_two)) in
    let z = (replied reply t.put).pair in
    let last = replied_steady reply t.put put_two in
    let a = ends_on (Within (ticks_in opening)) bearer x y two hushed.ends in
    let b = steady_within _ _ (steady_on bearer y t.put y_two later) in
    let d = steady_within _ _ (steady_on bearer t.put z put_two last) in
    let few = ticks_are opening in
    subst (λ (w : PairEnds). silence_in (facing bearer w).near ≤ silence_in (facing bearer x).near + silence_by opening) (sym t.after) (omega (arith, a, b, d, few))
