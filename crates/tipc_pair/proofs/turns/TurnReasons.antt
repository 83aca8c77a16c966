-- What happens first at a pair in a turn tells nothing without a reason.
use Rattle.std.specs.List.{All}
use Rattle.std.proofs.Common.{◌≡◌, ◌≤◌, ◌++◌, ◌∙◌, ℕ, true, List, [], Option, Some, None, inl, refl, sym, ap, subst, arith}
use Rattle.std.proofs.lemmas.List.Elements.{All-append, All-nil, All-weaker}
use Rattle.tipc_types.specs.LinkStates.{is_up}
use Rattle.tipc_types.specs.declared.link_words.BroadcastState.{BroadcastState}
use Rattle.tipc_types.specs.declared.link_words.Cause.TheVariants as cause
use Rattle.tipc_header.specs.Grammar.{Fits}
use Rattle.tipc_link_fsm.specs.Table.{Fsm}
use Rattle.tipc_link.specs.Links.{LinkEnd}
use Rattle.tipc_pair.specs.declared.transitions.Transition.{Transition}
use Rattle.tipc_pair.specs.declared.transitions.Transition.TheVariants.{LinkDown}
use Rattle.tipc_pair.specs.Changeovers.{released}
use Rattle.tipc_pair.specs.Courses.{going_on}
use Rattle.tipc_pair.specs.Facing.{PairEnds, facing, is_up_at}
use Rattle.tipc_pair.specs.PairCalls.{at_bearer, cut_near, tick_near, ticked}
use Rattle.tipc_pair.specs.PairTurns.{Happened, Opening, Outset, nothing_given, IsOnOne}
use Rattle.tipc_pair.specs.PairTurns.Opening.{cuts, hears, makes, mends, rests, ticks}
use Rattle.tipc_pair.proofs.Facings.{facing_near, facing_one}
use Rattle.tipc_pair.proofs.turns.Causes.{cuts_tell, releases_tell, ticks_tell}
use Rattle.tipc_pair.specs.LinkReadings.{AreAbreast, silence_in}
use Rattle.tipc_pair.proofs.turns.Moves.{abreast_apt, up_silence}
use Rattle.tipc_pair.proofs.turns.TurnMoves.{made_changes}
use Rattle.tipc_pair.proofs.turns.HeardReasons.{arrival_reasons}
use Rattle.tipc_pair.proofs.turns.Reasons.{IsReason, facing_apt, facing_reason, falls_all, goes_down}
use Rattle.tipc_pair.proofs.turns.PairKept.{facing_bearer as facing_on}
use Rattle.tipc_pair.proofs.turns.Steady.{states_in, tick_near_steady}

-- ---- a cut

cut_reasons : (x : PairEnds) (b : ℕ) → b ≤ 1 → x.bearer ≤ 1 → All (IsReason x (cuts b) nothing_given (cut_near (facing b x)).changes) (cut_near (facing b x)).changes
cut_reasons x b one two =
    let z = facing b x in
    let cs = (cut_near z).changes in
    let P : Transition → Type 0 = IsReason x (cuts b) nothing_given cs in
    falls_all P z cause.Cut 0 (λ s. Unit {0}) cs (cuts_tell z)
    (λ e is up like. subst (λ n. P (LinkDown n cause.Cut 0)) (sym (facing_on b x one two)) (goes_down x (cuts b) nothing_given cs b cause.Cut 0 e one is up refl)) (λ numbers states. inl refl)

-- ---- a tick

-- an end with these link states
states_there : (o : Option LinkEnd) (f : Fsm) → states_in o ≡ Some f → (e : LinkEnd) × (o ≡ Some e) × (e.fsm ≡ f)
states_there None f is = absurd cc
states_there (Some e) f is = (e, refl, (let same : e.fsm ≡ f = cc in same))

silent_four : (o : Option LinkEnd) (e : LinkEnd) → o ≡ Some e → is_up e.fsm.state ≡ true → e.fsm.silent ≡ 4 → 4 ≤ silence_in o
silent_four o e is up four = let all : silence_in o ≡ 4 = ap silence_in is ∙ (up_silence e up ∙ four) in omega (arith, all)

-- a link that goes down was silent for four ticks
silent_reason : (x : PairEnds) (b : ℕ) (shown : BroadcastState) (cs : List Transition) (e : LinkEnd) → b ≤ 1 → (facing b x).near ≡ Some e → is_up e.fsm.state ≡ true → e.fsm.silent ≡ 4 → IsReason x (ticks shown) nothing_given cs (LinkDown b cause.Silent 0)
silent_reason x b shown cs e one is up four = goes_down x (ticks shown) nothing_given cs b cause.Silent 0 e one is up (tt, silent_four (facing b x).near e is up four)

-- the pair between the ticks of its two links
abbrev pub between : BroadcastState → PairEnds → PairEnds
between shown x = (at_bearer 0 x (tick_near shown)).pair

-- bearer 1's link has ticked no more than it had
pub record IsBetween (shown : BroadcastState) (x : PairEnds) : Type 0 where
  pub two : (between shown x).bearer ≤ 1
  pub other_end : (e : LinkEnd) → (facing 1 (between shown x)).near ≡ Some e → is_up e.fsm.state ≡ true → (k : LinkEnd) × ((facing 1 x).near ≡ Some k) × (k.fsm ≡ e.fsm)

pub is_between : (shown : BroadcastState) (x : PairEnds) → x.bearer ≡ 0 → IsBetween shown x
is_between shown x first =
    let z = facing 0 x in
    let t = (tick_near shown z).pair in
    let here : z ≡ x = facing_near 0 x first in
    let near_two : z.bearer ≤ 1 = let at : z.bearer ≡ 0 = ap (λ (y : PairEnds). y.bearer) here ∙ first in omega (arith, at) in
    let steady = tick_near_steady shown z in
    let zero_is : t.bearer ≡ 0 = steady.bearer near_two ∙ (ap (λ (y : PairEnds). y.bearer) here ∙ first) in
    let same : between shown x ≡ t = ap (λ b. facing b t) first ∙ facing_near 0 t zero_is in
    let far : (facing 1 (between shown x)).near ≡ t.far = ap (λ (y : PairEnds). (facing 1 y).near) same ∙ (facing_one t (omega (arith, zero_is)) ∙ ap (λ (y : PairEnds). y.far) (facing_near 0 t zero_is)) in
    let was : (facing 1 x).near ≡ z.far = facing_one x (omega (arith, first)) in
    record {
      two = (let at : (between shown x).bearer ≡ 0 = ap (λ (y : PairEnds). y.bearer) same ∙ zero_is in omega (arith, at));
      other_end = λ e is up.
          (let now : t.far ≡ Some e = sym far ∙ is in
          states_there (facing 1 x).near e.fsm (ap states_in was ∙ (sym (steady.far (ap is_up_at now ∙ up)) ∙ ap states_in now)));
    }

tick_reasons : (x : PairEnds) (shown : BroadcastState) → x.bearer ≡ 0 → All (IsReason x (ticks shown) nothing_given (ticked shown x).changes) (ticked shown x).changes
unfolding going_on
tick_reasons x shown first =
    let two : x.bearer ≤ 1 = omega (arith, first) in
    let zero_one : 0 ≤ 1 = omega arith in
    let one_one : 1 ≤ 1 = omega arith in
    let cs = (ticked shown x).changes in
    let P : Transition → Type 0 = IsReason x (ticks shown) nothing_given cs in
    let one = at_bearer 0 x (tick_near shown) in
    let y = between shown x in
    let later = at_bearer 1 y (tick_near shown) in
    let b = is_between shown x first in
    let silent : Fsm → Type 0 = λ s. s.silent ≡ 4 in
    All-append P (one.changes ++ later.changes) (released later.pair).changes
    (All-append P one.changes later.changes
    (falls_all P (facing 0 x) cause.Silent 0 silent one.changes (ticks_tell (facing 0 x) shown) (λ e is up four. subst (λ n. P (LinkDown n cause.Silent 0)) (sym (facing_on 0 x zero_one two)) (silent_reason x 0 shown cs e zero_one is up four)) (λ numbers states. inl refl))
    (falls_all P (facing 1 y) cause.Silent 0 silent later.changes (ticks_tell (facing 1 y) shown)
    (λ e is up four. subst (λ n. P (LinkDown n cause.Silent 0)) (sym (facing_on 1 y one_one b.two))
    (let k = b.other_end e is up in silent_reason x 1 shown cs k.0 one_one k.1 (ap (λ (f : Fsm). is_up f.state) k.2 ∙ up) (ap (λ (f : Fsm). f.silent) k.2 ∙ four))) (λ numbers states. inl refl)))
    (subst (All P) (sym (releases_tell later.pair)) (All-nil P))

-- ---- what happens first

-- the packet that is heard fits
abbrev pub BringsFit : Opening → Type 0
BringsFit (hears bearer es er p by shown) = Fits p
BringsFit _ = Unit {0}

-- the reasons of all that an outset tells
abbrev pub AreReasons : PairEnds → Opening → Outset → Type 0
AreReasons x opening o = All (IsReason x opening o.given o.course.changes) o.course.changes

pub first_reasons : (x : PairEnds) (opening : Opening) (o : Outset) → AreAbreast x → IsOnOne opening → BringsFit opening → Happened x opening o → AreReasons x opening o
first_reasons x rests o abreast on fits is = subst (AreReasons x rests) (sym is) (All-nil (IsReason x rests nothing_given []))
first_reasons x (makes bearer is_mended) o abreast on fits is =
    let reason = IsReason x (makes bearer is_mended) nothing_given in
    subst (AreReasons x (makes bearer is_mended)) (sym is) (subst (λ cs. All (reason cs) cs) (sym (made_changes bearer is_mended x)) (All-nil (reason [])))
first_reasons x (mends bearer) o abreast on fits is = subst (AreReasons x (mends bearer)) (sym is) (All-nil (IsReason x (mends bearer) nothing_given []))
first_reasons x (cuts bearer) o abreast on fits is = subst (AreReasons x (cuts bearer)) (sym is) (cut_reasons x bearer on (abreast_apt x abreast).two)
first_reasons x (ticks shown) o abreast on fits is = subst (AreReasons x (ticks shown)) (sym is) (tick_reasons x shown abreast.first)
first_reasons x (hears bearer es er p by shown) o abreast on fits is =
    let apt = abreast_apt x abreast in
    let z = facing bearer x in
    let c = is.0 in
    let opening = hears bearer es er p by shown in
    subst (AreReasons x opening) (sym is.3)
    (All-weaker (IsReason z opening is.1 c.changes) (IsReason x opening is.1 c.changes) (facing_reason bearer x opening is.1 c.changes apt.two) c.changes
    (arrival_reasons z bearer es er p by shown c is.1 (facing_on bearer x on apt.two) (facing_apt bearer x apt) fits is.2))
