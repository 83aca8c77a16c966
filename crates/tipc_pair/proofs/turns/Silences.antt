-- For how many ticks the links of a pair are silent through what happens to it first: a tick adds one for each link at most, and nothing else adds any;
-- a link that goes up, and one that takes a packet or defers it, was just heard.
use Rattle.std.specs.Prelude.{◌==◌, ◌&&◌, ◌||◌, nat_lt, not, if◌then◌else◌}
use Rattle.std.specs.List.{flat_map}
use Rattle.std.proofs.Common.{◌≡◌, ◌≤◌, ◌∙◌, ◌+◌, ℕ, Bool, true, false, List, [], ◌∷◌, ◌++◌, Option, Some, None, refl, sym, ap, subst, arith}
use Rattle.std.proofs.lemmas.Bool.{and_parts}
use Rattle.tipc_types.specs.LinkStates.{is_up}
use Rattle.tipc_types.specs.declared.link_words.BroadcastState.{BroadcastState}
use Rattle.tipc_types.specs.declared.link_words.LinkState.{LinkState}
use Rattle.tipc_types.specs.declared.link_words.LinkState.TheVariants.{Held, ResetReset, ResetUnknown, WorkingUnknown, WorkingWorking}
use Rattle.tipc_types.specs.declared.link_words.Why.{Why}
use Rattle.tipc_types.specs.declared.link_words.Why.TheVariants as why
use Rattle.tipc_types.specs.declared.packet_lists.Taken.{Taken}
use Rattle.tipc_header.specs.declared.packet.ChangeoverType.{ChangeoverType}
use Rattle.tipc_header.specs.declared.packet.ChangeoverType.TheVariants as kind
use Rattle.tipc_header.specs.declared.packet.Header.{Header}
use Rattle.tipc_header.specs.declared.packet.Header.TheVariants as header
use Rattle.tipc_header.specs.Spelling.{Fields}
use Rattle.tipc_tunnel.specs.Tunnels.{Tunnelled}
use Rattle.tipc_recv_window.specs.declared.outcomes.LinkOutcome.{LinkOutcome}
use Rattle.tipc_link_fsm.specs.declared.changes.Change.{Change}
use Rattle.tipc_link_fsm.specs.declared.changes.Change.TheVariants.{Answer, Down, Ignore, Stay, Up}
use Rattle.tipc_link_fsm.specs.Table.{Fsm, Outcome, gives, is_held, is_in_reset, is_last, is_peer, is_reset_reset, is_session, lowered, on_activate, on_cut, on_peer_tunnel, on_reset, on_tick, on_traffic, tick_in, unheard, up_tick}
use Rattle.tipc_link_fsm.proofs.Moves.{cases_on, is_going_up}
use Rattle.tipc_link.specs.Links.{LinkEnd, after, arrival_end, change_outcome, cut_end, is_down, is_heard, is_taken, is_traffic, link_outcome, outcome_of, tunnelled_down}
use Rattle.tipc_pair.specs.declared.changes.PairOutcome.{PairOutcome}
use Rattle.tipc_pair.specs.declared.transitions.Transition.{Transition}
use Rattle.tipc_pair.specs.declared.transitions.Transition.TheVariants.{ContactDown, ContactUp, LinkDown, LinkUp}
use Rattle.tipc_pair.proofs.Untold.{fail_over_none, switch_none}
use Rattle.tipc_pair.specs.Changeovers.{contact_begins, contact_ends, ended_with, fail_over, following, forgotten, gone_down, gone_up, is_clear, parted, release_near, released, risen, switch, up_told}
use Rattle.tipc_pair.specs.Courses.{Course, going_on, rests as nothing}
use Rattle.tipc_pair.specs.Facing.{PairEnds, ends_of, facing, in_contact, is_up_at, states_of, turned, with_near}
use Rattle.tipc_pair.specs.PairArrivals.{Arrives, Heard, OpensInto, Unwraps, activates, activate_higher, behind, by_number, hears as heard_by, inner_at, met, met_at, met_near, passing, reset_change, reset_given, reset_near, taken_down, tunnelled_at}
use Rattle.tipc_pair.specs.PairArrivals.OpensInto.{deferred, ignored, opens}
use Rattle.tipc_pair.specs.PairArrivals.Unwraps.{as_it_is, none_taken, tunnel}
use Rattle.tipc_pair.specs.PairCalls.{at_bearer, cut_at, cut_near, mended, stepped, tick_at, tick_near, ticked}
use Rattle.tipc_pair.specs.PairTurns.{Happened, Opening, Outset, made_near, seen_as, IsOnOne, IsTakenBy}
use Rattle.tipc_pair.specs.PairTurns.Opening.{cuts, hears, makes, mends, rests, ticks}
use Rattle.tipc_pair.proofs.EndSteps.{cut_quiet, fsm_after, fsm_arrived, tunnel_quiet}
use Rattle.tipc_pair.proofs.Facings.{facing_back, facing_two}
use Rattle.tipc_pair.proofs.HeldLaws.{tick_quiet}
use Rattle.tipc_pair.specs.LinkReadings.{silence_in, silence_of}
use Rattle.tipc_pair.proofs.turns.Moves.{down_silence}
use Rattle.tipc_pair.proofs.acts.Walks.{tested}
use Rattle.tipc_pair.proofs.turns.PairKept.{facing_bearer}
use Rattle.tipc_pair.proofs.turns.TurnMoves.{made_changes}
use Rattle.tipc_pair.proofs.turns.Steady.{AreSteady, Ends, Steady, are_steady_itself, cut_near_steady, ends_facing, ends_here, ends_then, ends_there, made_steady, mended_steady, met_steady, opens_steady, released_steady, risen_down, risen_steady, states_in, steady_facing, steady_then, stepped_steady, tick_near_steady}

-- ---- the silence of a link

-- a link isn't silent for longer than so many ticks more
abbrev pub Within : ℕ → Option LinkEnd → Option LinkEnd → Type 0
Within n o o' = silence_in o' ≤ silence_in o + n

-- by the link states
abbrev silent_of : Fsm → ℕ
silent_of f = if is_up f.state then f.silent else 0

abbrev silent_in : Option Fsm → ℕ
silent_in None = 0
silent_in (Some f) = silent_of f

silence_by : (o : Option LinkEnd) → silence_in o ≡ silent_in (states_in o)
silence_by None = refl
silence_by (Some e) = refl

-- a link that is down isn't silent
pub down_zero : (o : Option LinkEnd) → is_up_at o ≡ false → silence_in o ≡ 0
down_zero None down = refl
down_zero (Some e) down = down_silence e down

pub steady_within : (o p : Option LinkEnd) → Steady o p → Within 0 o p
steady_within o p h = by (is_up_at p) refl
  where
    by : (t : Bool) → is_up_at p ≡ t → silence_in p ≤ silence_in o + 0
    by true up = let same : silence_in p ≡ silence_in o = silence_by p ∙ (ap silent_in (h up) ∙ sym (silence_by o)) in omega (arith, same)
    by false down = let none = down_zero p down in omega (arith, none)

pub within_then : (o p q : Option LinkEnd) → Within 0 o p → Within 0 p q → Within 0 o q
within_then o p q h k = omega (arith, h, k)

within_zero : (o p : Option LinkEnd) → Within 0 o p → silence_in o ≡ 0 → silence_in p ≡ 0
within_zero o p h none = omega (arith, h, none)

pub steady_zero : (o p : Option LinkEnd) → Steady o p → silence_in o ≡ 0 → silence_in p ≡ 0
steady_zero o p h none = within_zero o p (steady_within o p h) none

-- ---- link states

-- what arrived wasn't ignored
abbrev IsMet : Change → Type 0
IsMet Stay = Unit {0}
IsMet Up = Unit {0}
IsMet (Down because) = Unit {0}
IsMet (Answer back) = Unit {0}
IsMet (Ignore reason) = ⊥

-- an arrival makes a link no more silent, and one that isn't ignored leaves it just heard, or down
record Hushes (f : Fsm) (o : Outcome) : Type 0 where
  most : silent_of o.after ≤ silent_of f
  met : IsMet o.change → silent_of o.after ≡ 0

ignores : (f : Fsm) (reason : Why) → Hushes f (gives f (Ignore reason))
ignores f reason = record { most = omega arith; met = λ is. absurd is }

zero_hushes : (f : Fsm) (o : Outcome) → silent_of o.after ≡ 0 → Hushes f o
zero_hushes f o none = record { most = omega (arith, none); met = λ is. none }

lowered_zero : (f : Fsm) (held : Bool) → silent_of (lowered f held) ≡ 0
lowered_zero f true = refl
lowered_zero f false = refl

reset_hushes : (f : Fsm) (es : ℕ) (held : Bool) → Hushes f (on_reset f es held)
unfolding on_reset
reset_hushes f es held =
    cases_on (Hushes f) (is_held f.state) _ _ (λ h. ignores f why.Held) (λ h.
    cases_on (Hushes f) (nat_lt es f.highest || (is_up f.state && is_peer f.peer es)) _ _ (λ h. ignores f why.Epoch) (λ h.
    cases_on (Hushes f) (is_up f.state) _ _ (λ up. zero_hushes f _ (lowered_zero f held)) (λ down. zero_hushes f _ refl)))

activate_hushes : (f : Fsm) (es er : ℕ) → Hushes f (on_activate f es er)
unfolding on_activate
activate_hushes f es er =
    cases_on (Hushes f) (is_held f.state) _ _ (λ h. ignores f why.Held) (λ h.
    cases_on (Hushes f) ((is_in_reset f.state && not (is_last f.own)) && ((er == f.own) && not (nat_lt es f.highest))) _ _ (λ fits. zero_hushes f _ refl) (λ h.
    cases_on (Hushes f) (is_up f.state && is_session f es er) _ _ (λ fits. zero_hushes f _ refl) (λ h. ignores f why.Epoch)))

traffic_hushes : (f : Fsm) (es er : ℕ) → Hushes f (on_traffic f es er)
unfolding on_traffic
traffic_hushes f es er =
    cases_on (Hushes f) (is_session f es er && (is_reset_reset f.state && not (is_last f.own))) _ _ (λ fits. zero_hushes f _ refl) (λ h.
    cases_on (Hushes f) (is_session f es er && is_up f.state) _ _ (λ fits. zero_hushes f _ refl) (λ h. ignores f why.Epoch))

outcome_hushes : (f : Fsm) (h : Header) (es er : ℕ) (held : Bool) → Hushes f (outcome_of f h es er held)
outcome_hushes f (header.Reset r) es er held = reset_hushes f es held
outcome_hushes f (header.Activate a) es er held = activate_hushes f es er
outcome_hushes f (header.Discovery d) es er held = ignores f why.Epoch
outcome_hushes f other es er held = traffic_hushes f es er

if_most : (t : Bool) (n : ℕ) → (if t then n else 0) ≤ n
if_most true n = omega arith
if_most false n = omega arith

-- a tick adds one at most
up_one_more : (f : Fsm) (held : Bool) → is_up f.state ≡ true → silent_of (up_tick f held).after ≤ silent_of f + 1
up_one_more f held up =
    let same : silent_of f ≡ f.silent = ap (λ t. if t then f.silent else 0) up in
    cases_on (λ (o : Outcome). silent_of o.after ≤ silent_of f + 1) (f.silent == 4) _ _ (λ four. let none = lowered_zero f held in omega (arith, none))
    (λ fewer. let most = if_most (is_up (unheard f).state) (f.silent + 1) in omega (arith, most, same))

tick_in_one_more : (st : LinkState) (f : Fsm) (held : Bool) → f.state ≡ st → silent_of (tick_in st f held).after ≤ silent_of f + 1
tick_in_one_more ResetUnknown f held is = omega arith
tick_in_one_more ResetReset f held is = omega arith
tick_in_one_more Held f held is = omega arith
tick_in_one_more WorkingWorking f held is = up_one_more f held (ap is_up is)
tick_in_one_more WorkingUnknown f held is = up_one_more f held (ap is_up is)

tick_one_more : (f : Fsm) (held : Bool) → silent_of (on_tick f held).after ≤ silent_of f + 1
unfolding on_tick
tick_one_more f held = tick_in_one_more f.state f held refl

-- ---- the links of which changes tell that they went up

abbrev pub IsUpBy : (ℕ → Type 0) → Transition → Type 0
IsUpBy P (LinkUp bearer own theirs) = P bearer
IsUpBy P (LinkDown bearer because shown) = Unit {0}
IsUpBy P (ContactUp numbers) = Unit {0}
IsUpBy P (ContactDown numbers states shown) = Unit {0}

-- of each bearer whose link went up this is so
abbrev pub Ups : (ℕ → Type 0) → List Transition → Type 0
Ups P [] = Unit {0}
Ups P (t ∷ ts) = IsUpBy P t × Ups P ts

ups_more : (P : ℕ → Type 0) (xs ys : List Transition) → Ups P xs → Ups P ys → Ups P (xs ++ ys)
ups_more P [] ys first later = later
ups_more P (t ∷ ts) ys first later = (first.0, ups_more P ts ys first.1 later)

up_weaker : (P Q : ℕ → Type 0) → ((b : ℕ) → P b → Q b) → (t : Transition) → IsUpBy P t → IsUpBy Q t
up_weaker P Q more (LinkUp bearer own theirs) h = more bearer h
up_weaker P Q more (LinkDown bearer because shown) h = tt
up_weaker P Q more (ContactUp numbers) h = tt
up_weaker P Q more (ContactDown numbers states shown) h = tt

pub ups_weaker : (P Q : ℕ → Type 0) → ((b : ℕ) → P b → Q b) → (ts : List Transition) → Ups P ts → Ups Q ts
ups_weaker P Q more [] h = tt
ups_weaker P Q more (t ∷ ts) h = (up_weaker P Q more t h.0, ups_weaker P Q more ts h.1)

ended_ups : (P : ℕ → Type 0) (es : List LinkEnd) → Ups P (flat_map ended_with es)
ended_ups P [] = tt
ended_ups P (e ∷ es) = tested (λ xs. Ups P (xs ++ flat_map ended_with es)) (is_up e.fsm.state) _ _ (λ up. (tt, ended_ups P es)) (λ down. ended_ups P es)

ends_ups : (P : ℕ → Type 0) (x : PairEnds) (contact : ℕ × ℕ) (shown : ℕ) → Ups P (contact_ends x contact shown).changes
ends_ups P x contact shown = ups_more P (flat_map ended_with (ends_of x)) (ContactDown contact (states_of (parted x)) shown ∷ []) (ended_ups P (ends_of x)) (tt, tt)

none_ups : (P : ℕ → Type 0) (changes : List Transition) → changes ≡ [] → Ups P changes
none_ups P changes none = subst (Ups P) (sym none) tt

gone_up_ups : (P : ℕ → Type 0) (x : PairEnds) → Ups P (gone_up x).changes
gone_up_ups P x = tested (λ (c : Course). Ups P c.changes) (is_up_at x.far) (if x.bearer == 0 then switch x else nothing x) (contact_begins x)
    (λ _. tested (λ (c : Course). Ups P c.changes) (x.bearer == 0) (switch x) (nothing x) (λ _. none_ups P _ (switch_none x x.near x.far)) (λ _. tt)) (λ _. (tt, tt))

gone_down_ups : (P : ℕ → Type 0) (x : PairEnds) → Ups P (gone_down x).changes
gone_down_ups P x = tested (λ (c : Course). Ups P c.changes) (is_up_at x.far) (fail_over x) (contact_ends x (x.contact, x.seen) 0) (λ _. none_ups P _ (fail_over_none x x.near x.far)) (λ _. ends_ups P x (x.contact, x.seen) 0)

told_ups : (P : ℕ → Type 0) (b : ℕ) (o : Option LinkEnd) → P b → IsUpBy P (up_told b o)
told_ups P b None h = h
told_ups P b (Some e) h = h

-- what follows a change of the near link tells that this link went up, where it did
following_ups : (P : ℕ → Type 0) (x : PairEnds) (change : Change) (epoch : ℕ) → (is_going_up change ≡ true → P x.bearer) → Ups P (following x change epoch).changes
following_ups P x Up epoch h = (told_ups P x.bearer x.near (h refl), gone_up_ups P x)
following_ups P x (Down because) epoch h = (tt, gone_down_ups P x)
following_ups P x Stay epoch h = tt
following_ups P x (Answer back) epoch h = tt
following_ups P x (Ignore reason) epoch h = tt

-- and that no link went up, where it didn't
quiet_ups : (P : ℕ → Type 0) (x : PairEnds) (change : Change) (epoch : ℕ) → is_going_up change ≡ false → Ups P (following x change epoch).changes
quiet_ups P x change epoch quiet = following_ups P x change epoch (λ up. absurd (let wrong : false ≡ true = sym quiet ∙ up in cc))

release_ups : (P : ℕ → Type 0) (x : PairEnds) → Ups P (release_near x).changes
release_ups P x = tested (λ (c : Course). Ups P c.changes) (is_clear x.far) _ _ (λ _. tt) (λ _. tt)

released_ups : (P : ℕ → Type 0) (x : PairEnds) → Ups P (released x).changes
unfolding released going_on
released_ups P x = let y = (release_near x).pair in ups_more P (release_near x).changes (release_near (turned y)).changes (release_ups P x) (release_ups P (turned y))

risen_ups : (P : ℕ → Type 0) (x : PairEnds) (number : ℕ) → Ups P (risen x number).changes
risen_ups P x number = tested (λ (c : Course). Ups P c.changes) (in_contact x) (contact_ends (record x { seen = number }) (x.contact, x.seen) number) (nothing (forgotten x number))
    (λ _. ends_ups P (record x { seen = number }) (x.contact, x.seen) number) (λ _. tt)

cut_at_ups : (P : ℕ → Type 0) (x : PairEnds) (o : Option LinkEnd) → Ups P (cut_at x o).changes
cut_at_ups P x None = tt
cut_at_ups P x (Some e) = let held = is_up_at x.far in quiet_ups P (with_near x (cut_end e held)) (on_cut e.fsm held).change 0 (cut_quiet e.fsm held)

cut_ups : (P : ℕ → Type 0) (x : PairEnds) → Ups P (cut_near x).changes
unfolding going_on
cut_ups P x = let c = cut_at x x.near in ups_more P c.changes (released c.pair).changes (cut_at_ups P x x.near) (released_ups P c.pair)

tick_at_ups : (P : ℕ → Type 0) (shown : BroadcastState) (x : PairEnds) (o : Option LinkEnd) → Ups P (tick_at shown x o).changes
unfolding going_on
tick_at_ups P shown x None = tt
tick_at_ups P shown x (Some e) = let o = on_tick e.fsm (is_up_at x.far) in quiet_ups P (with_near x (after e o)) o.change 0 (tick_quiet e.fsm (is_up_at x.far))

tunnelled_ups : (P : ℕ → Type 0) (epoch : ℕ) (x : PairEnds) (o : Option LinkEnd) → Ups P (tunnelled_at epoch x o).changes
tunnelled_ups P epoch x None = tt
tunnelled_ups P epoch x (Some e) = quiet_ups P (with_near x (tunnelled_down e epoch)) (on_peer_tunnel e.fsm epoch).change epoch (tunnel_quiet e.fsm epoch)

taken_down_ups : (P : ℕ → Type 0) (t : ChangeoverType) (epoch : ℕ) (x : PairEnds) → Ups P (taken_down t epoch x).changes
taken_down_ups P kind.Duplicate epoch x = tt
taken_down_ups P kind.Original epoch x = tunnelled_ups P epoch (turned x) x.far

inner_ups : (P : ℕ → Type 0) (t : Tunnelled) (by : ℕ) (x : PairEnds) (o : Option LinkEnd) → Ups P (inner_at t by x o).changes
inner_ups P t by x None = tt
inner_ups P t by x (Some e) = tt

unwraps_ups : (P : ℕ → Type 0) (x : PairEnds) (taken carried : List Taken) (c : Course) → Unwraps x taken c carried → Ups P c.changes
unfolding going_on
unwraps_ups P x _ _ _ none_taken = tt
unwraps_ups P x _ _ _ (as_it_is first others none) = tt
unwraps_ups P x _ _ _ (tunnel first others t speaks) =
    let one = taken_down t.kind t.old.epoch x in
    ups_more P one.changes (inner_at t first.by one.pair one.pair.far).changes (taken_down_ups P t.kind t.old.epoch x) (inner_ups P t first.by one.pair one.pair.far)

opens_ups : (P : ℕ → Type 0) (x : PairEnds) (outcome : LinkOutcome) (c : Course) (given : PairOutcome) → OpensInto x outcome c given → Ups P c.changes
opens_ups P x _ _ _ (opens {taken} {carried} {c} {given} {last} unwraps brings) = unwraps_ups P x taken carried c unwraps
opens_ups P x _ _ _ deferred = tt
opens_ups P x _ _ _ ignored = tt

-- ---- a course at the near link, which was heard

-- of this bearer, and the link there was just heard
abbrev IsHeardOn : ℕ → Option LinkEnd → ℕ → Type 0
IsHeardOn bearer o b = (b ≡ bearer) × (silence_in o ≡ 0)

-- no link is silent for longer, and one that went up was heard, on the near bearer
record Hushed (x : PairEnds) (c : Course) : Type 0 where
  ends : Ends (Within 0) Steady x c.pair
  ups : Ups (IsHeardOn x.bearer c.pair.near) c.changes

steady_hushed : (x : PairEnds) (c : Course) → AreSteady x c.pair → Ups (IsHeardOn x.bearer c.pair.near) c.changes → Hushed x c
steady_hushed x c h ups = record { ends = record { near = steady_within x.near c.pair.near h.near; far = h.far; bearer = h.bearer }; ups = ups }

hushed_then : (x : PairEnds) (c : Course) (step : PairEnds → Course) → x.bearer ≤ 1 → Hushed x c → Hushed c.pair (step c.pair) → Hushed x (going_on c step)
unfolding going_on
hushed_then x c step two h k =
    let last = (step c.pair).pair.near in
    let later = k.ends.near in
    record {
      ends = ends_then (Within 0) Steady within_then steady_then x c.pair (step c.pair).pair h.ends k.ends;
      ups = ups_more (IsHeardOn x.bearer last) c.changes (step c.pair).changes
          (ups_weaker (IsHeardOn x.bearer c.pair.near) (IsHeardOn x.bearer last) (λ b is. (is.0, within_zero c.pair.near last later is.1)) c.changes h.ups)
          (ups_weaker (IsHeardOn c.pair.bearer last) (IsHeardOn x.bearer last) (λ b is. (is.0 ∙ h.ends.bearer two, is.1)) (step c.pair).changes k.ups);
    }

stays_two : (x : PairEnds) (c : Course) → x.bearer ≤ 1 → Hushed x c → c.pair.bearer ≤ 1
stays_two x c two h = let same = h.ends.bearer two in omega (arith, same, two)

-- what arrived wasn't ignored by the link
abbrev IsTakenAt : LinkOutcome → Type 0
IsTakenAt (LinkOutcome.Took packets) = Unit {0}
IsTakenAt LinkOutcome.Deferred = Unit {0}
IsTakenAt (LinkOutcome.Ignored reason) = ⊥

-- and then the link was just heard
record Listens (x : PairEnds) (h : Heard) : Type 0 where
  hushed : Hushed x h.course
  taken : IsTakenAt h.outcome → silence_in h.course.pair.near ≡ 0

passing_listens : (x : PairEnds) (reason : Why) → Listens x (passing x reason)
passing_listens x reason = record { hushed = steady_hushed x (nothing x) (are_steady_itself x) tt; taken = λ is. absurd is }

taken_met : (c : Change) → is_taken c ≡ true → IsMet c
taken_met Stay is = tt
taken_met Up is = tt
taken_met (Down because) is = tt
taken_met (Answer back) is = tt
taken_met (Ignore reason) is = absurd cc

outcome_met : (c : Change) → IsTakenAt (change_outcome c) → IsMet c
outcome_met Stay is = tt
outcome_met Up is = tt
outcome_met (Down because) is = tt
outcome_met (Answer back) is = tt
outcome_met (Ignore reason) is = is

link_met : (e : LinkEnd) (o : Outcome) (p : Fields) (by : ℕ) → IsTakenAt (link_outcome e o p by) → IsMet o.change
link_met e o p by =
    tested (λ (r : LinkOutcome). IsTakenAt r → IsMet o.change) (is_heard p.header o.change) _ (change_outcome o.change) (λ here _. taken_met o.change (and_parts (is_traffic p.header) (is_taken o.change) here).1)
    (λ _ is. outcome_met o.change is)

up_met : (c : Change) → is_going_up c ≡ true → IsMet c
up_met Stay is = tt
up_met Up is = tt
up_met (Down because) is = tt
up_met (Answer back) is = tt
up_met (Ignore reason) is = absurd cc

-- The near end is one with the link states after an outcome, and this follows.
first_within : (x y : PairEnds) (e d : LinkEnd) (o : Outcome) → x.near ≡ Some e → d.fsm ≡ o.after → Hushes e.fsm o → Steady (Some d) y.near → Within 0 x.near y.near
first_within x y e d o is states h steady =
    let was : silence_in x.near ≡ silent_of e.fsm = ap silence_in is in
    let now : silence_of d ≡ silent_of o.after = ap silent_of states in
    let last = steady_within (Some d) y.near steady in
    let most = h.most in
    omega (arith, was, now, last, most)

first_zero : (y : PairEnds) (e d : LinkEnd) (o : Outcome) → d.fsm ≡ o.after → Hushes e.fsm o → Steady (Some d) y.near → IsMet o.change → silence_in y.near ≡ 0
first_zero y e d o states h steady is = steady_zero (Some d) y.near steady (ap silent_of states ∙ h.met is)

met_listens : (x : PairEnds) (e : LinkEnd) (o : Outcome) (p : Fields) (es by : ℕ) (shown : BroadcastState) → x.near ≡ Some e → Hushes e.fsm o → Listens x (met x e o p es by shown)
unfolding going_on
met_listens x e o p es by shown is h =
    let d = arrival_end e o p by in
    let y = (met x e o p es by shown).course.pair in
    let s = met_steady x e o p es by shown in
    let states = fsm_arrived e o p by in
    let zero = first_zero y e d o states h s.near in
    record {
      hushed = record {
        ends = record { near = first_within x y e d o is states h s.near; far = s.far; bearer = s.bearer };
        ups = following_ups (IsHeardOn x.bearer y.near) (with_near x d) o.change es (λ up. (refl, zero (up_met o.change up)));
      };
      taken = λ taken. zero (link_met e o p by taken);
    }

met_near_listens : (es er : ℕ) (p : Fields) (by : ℕ) (shown : BroadcastState) (x : PairEnds) (o : Option LinkEnd) → x.near ≡ o → Listens x (met_at es er p by shown x o)
met_near_listens es er p by shown x None is = passing_listens x why.Unknown
met_near_listens es er p by shown x (Some e) is = met_listens x e (outcome_of e.fsm p.header es er (is_up_at x.far)) p es by shown is (outcome_hushes e.fsm p.header es er (is_up_at x.far))

given_listens : (es : ℕ) (held : Bool) (shown : BroadcastState) (x : PairEnds) (o : Option LinkEnd) → x.near ≡ o → Listens x (reset_given es held shown x o)
unfolding going_on
given_listens es held shown x None is = passing_listens x why.Unknown
given_listens es held shown x (Some e) is =
    let o = on_reset e.fsm es held in
    let d = after e o in
    let y = (stepped x e o es shown).pair in
    let s = stepped_steady x e o es shown in
    let states = fsm_after e o in
    let h = reset_hushes e.fsm es held in
    let zero = first_zero y e d o states h s.near in
    record {
      hushed = record {
        ends = record { near = first_within x y e d o is states h s.near; far = s.far; bearer = s.bearer };
        ups = following_ups (IsHeardOn x.bearer y.near) (with_near x d) o.change es (λ up. (refl, zero (up_met o.change up)));
      };
      taken = λ taken. zero (outcome_met o.change taken);
    }

behind_listens : (x : PairEnds) (c : Course) (hear : PairEnds → Heard) → x.bearer ≤ 1 → Hushed x c → Listens c.pair (hear c.pair) → Listens x (behind c hear)
unfolding going_on
behind_listens x c hear two h k = record { hushed = hushed_then x c (λ y. (hear y).course) two h k.hushed; taken = k.taken }

reset_listens : (es : ℕ) (shown : BroadcastState) (x : PairEnds) → x.bearer ≤ 1 → Listens x (reset_near es shown x)
reset_listens es shown x two =
    let held = is_up_at x.far in
    let first = reset_given es held shown x x.near in
    let again : PairEnds → Heard = λ y. reset_given es false shown y y.near in
    let one = given_listens es held shown x x.near refl in
    tested (Listens x) (is_down (reset_change es held x.near) && not held) (behind first.course again) first
    (λ _. behind_listens x first.course again two one.hushed (given_listens es false shown first.course.pair first.course.pair.near refl)) (λ _. one)

number_listens : (x : PairEnds) (number : ℕ) (same higher : Heard) → Listens x same → Listens x higher → Listens x (by_number x number same higher)
number_listens x number same higher one two =
    tested (Listens x) (nat_lt number x.seen) (passing x why.Contact) (if number == x.seen then same else higher) (λ _. passing_listens x why.Contact)
    (λ _. tested (Listens x) (number == x.seen) same higher (λ _. one) (λ _. two))

activates_listens : (b : Bool) (x : PairEnds) (c : Course) (others : Heard) → Hushed x c → silence_in c.pair.near ≡ 0 → Listens x others → Listens x (activates b c others)
activates_listens true x c others one none two = record { hushed = one; taken = λ _. none }
activates_listens false x c others one none two = two

risen_hushed : (x : PairEnds) (number : ℕ) → Hushed x (risen x number)
risen_hushed x number = steady_hushed x (risen x number) (risen_steady x number) (risen_ups (IsHeardOn x.bearer (risen x number).pair.near) x number)

hears_listens : (t : Header) (es er : ℕ) (p : Fields) (by : ℕ) (shown : BroadcastState) (x : PairEnds) → x.bearer ≤ 1 → Listens x (heard_by t es er p by shown x)
hears_listens (header.Reset said) es er p by shown x two =
    let up = risen x said.contact in
    let rises = risen_hushed x said.contact in
    number_listens x said.contact (reset_near es shown x) (behind up (reset_near es shown)) (reset_listens es shown x two) (behind_listens x up (reset_near es shown) two rises (reset_listens es shown up.pair (stays_two x up two rises)))
hears_listens (header.Activate said) es er p by shown x two =
    let up = risen x said.contact in
    let rises = risen_hushed x said.contact in
    let meet = met_near es er p by shown in
    let at : (y : PairEnds) → Listens y (meet y) = λ y. met_near_listens es er p by shown y y.near refl in
    number_listens x said.contact (meet x) (activate_higher said.contact meet x) (at x)
    (activates_listens (in_contact x) x up (behind up meet) rises (down_zero up.pair.near (let down = risen_down x said.contact in down.near)) (behind_listens x up meet two rises (at up.pair)))
hears_listens other es er p by shown x two = met_near_listens es er p by shown x x.near refl

-- ---- an arrival, with what was opened and released

-- what was given wasn't ignored
abbrev IsGiven : PairOutcome → Type 0
IsGiven (PairOutcome.Took opened) = Unit {0}
IsGiven PairOutcome.Deferred = Unit {0}
IsGiven (PairOutcome.Ignored reason) = ⊥

given_taken : (x : PairEnds) (outcome : LinkOutcome) (c : Course) (given : PairOutcome) → OpensInto x outcome c given → IsGiven given → IsTakenAt outcome
given_taken x _ _ _ (opens {taken} {carried} {c} {given} {last} unwraps brings) is = tt
given_taken x _ _ _ deferred is = tt
given_taken x _ _ _ ignored is = is

record Hears (x : PairEnds) (c : Course) (given : PairOutcome) : Type 0 where
  hushed : Hushed x c
  taken : IsGiven given → silence_in c.pair.near ≡ 0

arrives_hears : (x : PairEnds) (es er : ℕ) (p : Fields) (by : ℕ) (shown : BroadcastState) (c : Course) (given : PairOutcome) → x.bearer ≤ 1 → Arrives x es er p by shown c given → Hears x c given
unfolding going_on
arrives_hears x es er p by shown c given two a =
    let h = heard_by p.header es er p by shown x in
    let first = hears_listens p.header es er p by shown x two in
    let y = h.course.pair in
    let opened = opens_steady y h.outcome a.opened given a.opens in
    let z = a.opened.pair in
    let both = going_on h.course (λ y. a.opened) in
    let one = hushed_then x h.course (λ y. a.opened) two first.hushed (steady_hushed y a.opened opened (opens_ups (IsHeardOn y.bearer z.near) y h.outcome a.opened given a.opens)) in
    let last = hushed_then x both released two one (steady_hushed z (released z) (released_steady z) (released_ups (IsHeardOn z.bearer (released z).pair.near) z)) in
    subst (λ d. Hears x d given) (sym a.course) (record {
      hushed = last;
      taken = λ is. (let steady = steady_then y.near z.near (released z).pair.near opened.near (let r = released_steady z in r.near) in steady_zero y.near (released z).pair.near steady (first.taken (given_taken y h.outcome a.opened given a.opens is)));
    })

-- ---- a tick

tick_at_within : (shown : BroadcastState) (x : PairEnds) (o : Option LinkEnd) → x.near ≡ o → Within 1 x.near (tick_at shown x o).pair.near
tick_at_within shown x None is = omega arith
tick_at_within shown x (Some e) is =
    let o = on_tick e.fsm (is_up_at x.far) in
    let y = (stepped x e o 0 shown).pair in
    let s = stepped_steady x e o 0 shown in
    let was : silence_in x.near ≡ silent_of e.fsm = ap silence_in is in
    let now : silence_of (after e o) ≡ silent_of o.after = ap silent_of (fsm_after e o) in
    let last = steady_within (Some (after e o)) y.near s.near in
    let most = tick_one_more e.fsm (is_up_at x.far) in
    omega (arith, was, now, last, most)

tick_ends : (shown : BroadcastState) (x : PairEnds) → Ends (Within 1) (Within 0) x (tick_near shown x).pair
tick_ends shown x =
    let h = tick_near_steady shown x in
    record { near = tick_at_within shown x x.near refl; far = steady_within x.far (tick_near shown x).pair.far h.far; bearer = h.bearer }

-- each link has its tick, and stays as it is in that of the other one
ticked_ends : (shown : BroadcastState) (x : PairEnds) → x.bearer ≡ 0 → Ends (Within 1) (Within 1) x (ticked shown x).pair
unfolding going_on
ticked_ends shown x first =
    let two : x.bearer ≤ 1 = omega (arith, first) in
    let one = at_bearer 0 x (tick_near shown) in
    let y = one.pair in
    let h = ends_here (Within 1) (Within 0) 0 x (tick_near shown (facing 0 x)).pair (ap (λ n. n == 0) first) two (tick_ends shown (facing 0 x)) in
    let here : y.bearer ≡ 0 = h.bearer two ∙ first in
    let there : y.bearer ≤ 1 = omega (arith, here) in
    let z = (at_bearer 1 y (tick_near shown)).pair in
    let k = ends_there (Within 1) (Within 0) 1 y (tick_near shown (facing 1 y)).pair (ap (λ n. n == 1) here) there (tick_ends shown (facing 1 y)) in
    let r = released_steady z in
    let near_first = h.near in
    let near_then = k.near in
    let near_last = steady_within z.near (released z).pair.near r.near in
    let far_first = h.far in
    let far_then = k.far in
    let far_last = steady_within z.far (released z).pair.far r.far in
    record {
      near = omega (arith, near_first, near_then, near_last);
      far = omega (arith, far_first, far_then, far_last);
      bearer = λ _. (let last = r.bearer in let same = k.bearer there in last (omega (arith, same, there)) ∙ (same ∙ h.bearer two));
    }

ticked_ups : (P : ℕ → Type 0) (shown : BroadcastState) (x : PairEnds) → Ups P (ticked shown x).changes
unfolding going_on
ticked_ups P shown x =
    let one = at_bearer 0 x (tick_near shown) in
    let two = at_bearer 1 one.pair (tick_near shown) in
    ups_more P (one.changes ++ two.changes) (released two.pair).changes
    (ups_more P one.changes two.changes (tick_at_ups P shown (facing 0 x) (facing 0 x).near) (tick_at_ups P shown (facing 1 one.pair) (facing 1 one.pair).near)) (released_ups P two.pair)

-- ---- what happens first

-- for how many ticks more a link may be silent by it
abbrev pub ticks_in : Opening → ℕ
ticks_in (ticks shown) = 1
ticks_in other = 0

-- the bearer on which it was heard, where it was
abbrev pub heard_on : Opening → ℕ
heard_on (hears bearer es er p by shown) = bearer
heard_on other = 0

pub record IsHushed (x : PairEnds) (opening : Opening) (o : Outset) : Type 0 where
  pub ends : Ends (Within (ticks_in opening)) (Within (ticks_in opening)) x o.course.pair
  pub ups : Ups (λ b. silence_in (facing b o.course.pair).near ≡ 0) o.course.changes
  pub taken : IsTakenBy opening o.given → silence_in (facing (heard_on opening) o.course.pair).near ≡ 0

within_ends : (x y : PairEnds) → AreSteady x y → Ends (Within 0) (Within 0) x y
within_ends x y h = record { near = steady_within x.near y.near h.near; far = steady_within x.far y.far h.far; bearer = h.bearer }

at_ends : (bearer : ℕ) (x : PairEnds) (call : PairEnds → Course) → x.bearer ≤ 1 → AreSteady (facing bearer x) (call (facing bearer x)).pair → Ends (Within 0) (Within 0) x (at_bearer bearer x call).pair
at_ends bearer x call two h = within_ends x _ (steady_facing bearer x (call (facing bearer x)).pair two h)

-- an arrival, seen from the link that the pair was seen from
heard_hushed : (x : PairEnds) (bearer : ℕ) (c : Course) (given : PairOutcome) → x.bearer ≤ 1 → bearer ≤ 1 → Hears (facing bearer x) c given
    → Ends (Within 0) (Within 0) x (seen_as x c).pair × Ups (λ b. silence_in (facing b (seen_as x c).pair).near ≡ 0) c.changes × (IsGiven given → silence_in (facing bearer (seen_as x c).pair).near ≡ 0)
heard_hushed x bearer c given two one h =
    let y = facing bearer x in
    let e = h.hushed.ends in
    let there : y.bearer ≡ bearer = facing_bearer bearer x one two in
    let on : c.pair.bearer ≡ bearer = e.bearer (facing_two bearer x two) ∙ there in
    let within : c.pair.bearer ≤ 1 = omega (arith, on, one) in
    let z = facing x.bearer c.pair in
    let back : facing bearer z ≡ c.pair = ap (λ n. facing n z) (sym on) ∙ facing_back x.bearer c.pair two within in
    let near : (facing bearer z).near ≡ c.pair.near = ap (λ (w : PairEnds). w.near) back in
    let zero : silence_in c.pair.near ≡ 0 → silence_in (facing bearer z).near ≡ 0 = λ none. ap silence_in near ∙ none in (
      ends_facing (Within 0) Steady (Within 0) (λ o p k. k) steady_within bearer x c.pair two e,
      ups_weaker (IsHeardOn y.bearer c.pair.near) (λ b. silence_in (facing b z).near ≡ 0) (λ b is. ap (λ n. silence_in (facing n z).near) (is.0 ∙ there) ∙ zero is.1) c.changes h.hushed.ups,
      λ is. zero (h.taken is),
    )

pub opening_hushed : (x : PairEnds) (opening : Opening) (o : Outset) → x.bearer ≡ 0 → IsOnOne opening → Happened x opening o → IsHushed x opening o
opening_hushed x rests o first one is = subst (IsHushed x rests) (sym is) (record { ends = within_ends x x (are_steady_itself x); ups = tt; taken = λ taken. absurd taken })
opening_hushed x (makes bearer is_mended) o first one is =
    let two : x.bearer ≤ 1 = omega (arith, first) in
    subst (IsHushed x (makes bearer is_mended)) (sym is) (record { ends = at_ends bearer x (made_near is_mended) two (made_steady is_mended (facing bearer x)); ups = subst (Ups _) (sym (made_changes bearer is_mended x)) tt; taken = λ taken. absurd taken })
opening_hushed x (mends bearer) o first one is =
    let two : x.bearer ≤ 1 = omega (arith, first) in
    subst (IsHushed x (mends bearer)) (sym is) (record { ends = at_ends bearer x mended two (mended_steady (facing bearer x)); ups = tt; taken = λ taken. absurd taken })
opening_hushed x (cuts bearer) o first one is =
    let two : x.bearer ≤ 1 = omega (arith, first) in
    subst (IsHushed x (cuts bearer)) (sym is) (record { ends = at_ends bearer x cut_near two (cut_near_steady (facing bearer x)); ups = cut_ups _ (facing bearer x); taken = λ taken. absurd taken })
opening_hushed x (ticks shown) o first one is = subst (IsHushed x (ticks shown)) (sym is) (record { ends = ticked_ends shown x first; ups = ticked_ups _ shown x; taken = λ taken. absurd taken })
opening_hushed x (hears bearer es er p by shown) o first one is =
    let two : x.bearer ≤ 1 = omega (arith, first) in
    let h = heard_hushed x bearer is.0 is.1 two one (arrives_hears (facing bearer x) es er p by shown is.0 is.1 (facing_two bearer x two) is.2) in
    subst (IsHushed x (hears bearer es er p by shown)) (sym is.3) (record { ends = h.0; ups = h.1; taken = λ taken. h.2 (given_by bearer es er p by shown is.1 taken) })
  where
    given_by : (bearer es er : ℕ) (p : Fields) (by : ℕ) (shown : BroadcastState) (given : PairOutcome) → IsTakenBy (hears bearer es er p by shown) given → IsGiven given
    given_by bearer es er p by shown (PairOutcome.Took opened) taken = tt
    given_by bearer es er p by shown PairOutcome.Deferred taken = tt
    given_by bearer es er p by shown (PairOutcome.Ignored reason) taken = taken
