-- What each step at a link tells of a link that goes down, and why it does.
use Rattle.std.specs.Prelude.{IfSome, nat_le, nat_lt, not, ◌||◌, ◌&&◌}
use Rattle.std.specs.List.{flat_map}
use Rattle.std.proofs.Common.{◌≡◌, ◌≢◌, ◌≤◌, ◌==◌, ◌∙◌, ℕ, Bool, true, false, List, [], ◌∷◌, ◌++◌, Option, Some, None, if◌then◌else◌, option_map, append-nil, refl, sym, ap, subst, arith}
use Rattle.std.proofs.lemmas.Bool.Decides.{nat_tests}
use Rattle.std.proofs.lemmas.Grind.{flat_map-append}
use Rattle.tipc_types.specs.LinkStates.{is_up}
use Rattle.tipc_types.specs.declared.link_words.BroadcastState.{BroadcastState}
use Rattle.tipc_types.specs.declared.link_words.Cause.{Cause}
use Rattle.tipc_types.specs.declared.link_words.Cause.TheVariants as cause
use Rattle.tipc_types.specs.declared.link_words.LinkState.TheVariants.{ResetUnknown, ResetReset, WorkingWorking, WorkingUnknown, Held}
use Rattle.tipc_types.specs.declared.link_words.Reply.TheVariants as reply
use Rattle.tipc_types.specs.declared.link_words.Why.TheVariants as why
use Rattle.tipc_header.specs.declared.packet.Header.{Header}
use Rattle.tipc_header.specs.declared.packet.Header.TheVariants as header
use Rattle.tipc_header.specs.declared.packet.Reset.{Reset}
use Rattle.tipc_header.specs.Spelling.{Fields}
use Rattle.tipc_link_fsm.specs.declared.changes.Change.{Change}
use Rattle.tipc_link_fsm.specs.declared.changes.Change.TheVariants.{Answer, Down, Ignore, Stay, Up}
use Rattle.tipc_link_fsm.specs.Table.{Fsm, Outcome, gives, is_held, is_in_reset, is_last, is_peer, is_reset_reset, is_session, lowered, on_activate, on_cut, on_peer_tunnel, on_reset, on_tick, on_traffic, tick_in, took_epoch, unheard, up_tick}
use Rattle.tipc_link.specs.Links.{LinkEnd, arrival_end, known, outcome_of}
use Rattle.tipc_pair.specs.declared.transitions.Transition.{Transition}
use Rattle.tipc_pair.specs.declared.transitions.Transition.TheVariants.{ContactDown, ContactUp, LinkDown, LinkUp}
use Rattle.tipc_pair.specs.Changeovers.{at_far, contact_begins, contact_ends, ended_with, fail_over, following, forgotten, is_clear, let_go, let_go_frames, parted, release_near, released, shown_with, switch, up_told}
use Rattle.tipc_pair.specs.Courses.{Course, going_on, rests}
use Rattle.tipc_pair.specs.Facing.{PairEnds, ends_of, facing, is_up_at, made_of, other, states_of, turned, with_near}
use Rattle.tipc_pair.specs.PairArrivals.{met_at, reset_given, tunnelled_at}
use Rattle.tipc_pair.specs.PairCalls.{cut_at, stepped, tick_at}
use Rattle.tipc_pair.specs.PairFacts.{IsEndOf, IsPairOfEnds}
use Rattle.tipc_pair.proofs.Untold.{fail_over_none, switch_none}
use Rattle.tipc_pair.specs.Causes.{CutsTell, DuplicatesTell, MayFall, MayRise, MeetsTell, NumbersAreNoted, NumbersTell, ReleasesTell, ResetsTell, TellsFall, TicksTell, TunnelsTell, begins, ended_on, ends, falls, goes_on, rises, stays, rests as nothing}
-- ---- the near link is down
use Rattle.tipc_link.proofs.EndsTurns.{peer_is as this_peer}
use Rattle.tipc_pair.proofs.EndSteps.{up_part as both_first}
use Rattle.tipc_pair.proofs.Quietly.{second_of as both_second}
use Rattle.tipc_pair.proofs.turns.Addressing.{either as either_so}

not_ended : (o : Option LinkEnd) → is_up_at o ≡ false → flat_map ended_with (made_of o) ≡ []
not_ended None down = refl
not_ended (Some e) down = ap (λ b. (if b then LinkDown e.bearer cause.ContactEnded 0 ∷ [] else []) ++ []) down

facing_down : (b : ℕ) (x : PairEnds) → is_up_at x.near ≡ false → is_up_at x.far ≡ false → is_up_at (facing b x).near ≡ false
unfolding facing
facing_down b x near far = elim (x.bearer == b) as (λ t. is_up_at (if t then x else turned x).near ≡ false) [ true ↦ near | false ↦ far ]

none_ended : (x : PairEnds) → is_up_at x.near ≡ false → is_up_at x.far ≡ false → flat_map ended_with (ends_of x) ≡ []
none_ended x near far =
    flat_map-append ended_with (made_of (facing 0 x).near) (made_of (facing 1 x).near)
    ∙ (ap (λ ts. ts ++ flat_map ended_with (made_of (facing 1 x).near)) (not_ended (facing 0 x).near (facing_down 0 x near far)) ∙ not_ended (facing 1 x).near (facing_down 1 x near far))

-- it went down, and this follows
fall_tells : (y : PairEnds) (because : Cause) (epoch : ℕ) → is_up_at y.near ≡ false → TellsFall y because (shown_with because epoch) (following y (Down because) epoch).changes
fall_tells y because epoch down =
    let shown = shown_with because epoch in
    elim (is_up_at y.far) as (λ b. is_up_at y.far ≡ b → TellsFall y because shown (LinkDown y.bearer because shown ∷ (if b then fail_over y else contact_ends y (y.contact, y.seen) 0).changes)) [
      | true ↦ λ up. subst (λ ts. TellsFall y because shown (LinkDown y.bearer because shown ∷ ts)) (sym (fail_over_none y y.near y.far)) (goes_on up)
      | false ↦ λ off. subst (λ ts. TellsFall y because shown (LinkDown y.bearer because shown ∷ (ts ++ ContactDown (y.contact, y.seen) (states_of (parted y)) 0 ∷ []))) (sym (none_ended y down off)) (ends (states_of (parted y)) off)
    ] refl

-- it is told of the pair as it was, too
told_before : (x : PairEnds) (e : LinkEnd) (because : Cause) (shown : ℕ) (changes : List Transition) → TellsFall (with_near x e) because shown changes → TellsFall x because shown changes
told_before x e because shown _ (goes_on up) = goes_on up
told_before x e because shown _ (ends states off) = ends states off

pub lowered_down : (s : Fsm) (held : Bool) → is_up (lowered s held).state ≡ false
lowered_down s held = elim held as (λ b. is_up (if b then Held else ResetUnknown) ≡ false) [ true ↦ refl | false ↦ refl ]

-- ---- release

release_none : (x : PairEnds) → (release_near x).changes ≡ []
release_none x = elim (is_clear x.far) as (λ b. (if b then record (rests (record x { near = option_map let_go x.near })) { states = let_go_frames x.near } else rests x).changes ≡ []) [ true ↦ refl | false ↦ refl ]

pub releases_tell : ReleasesTell
unfolding released going_on
releases_tell x = ap (λ ts. ts ++ (at_far release_near (release_near x).pair).changes) (release_none x) ∙ release_none (turned (release_near x).pair)

-- ---- the bearer is cut, and a tick

cut_at_tells : (x : PairEnds) (o : Option LinkEnd) → x.near ≡ o → MayFall x cause.Cut 0 (λ s. Unit {0}) (cut_at x o).changes
unfolding on_cut
cut_at_tells x None is = stays
cut_at_tells x (Some e) is =
    let held = is_up_at x.far in
    let at : Bool → Outcome = λ b. if b then gives (lowered e.fsm held) (Down cause.Cut) else gives e.fsm Stay in
    elim (is_up e.fsm.state) as (λ b. is_up e.fsm.state ≡ b → MayFall x cause.Cut 0 (λ s. Unit {0}) (following (with_near x (record e { mended = false; fsm = (at b).after })) (at b).change 0).changes) [
      | true ↦ λ up. falls e _ is up tt (told_before x _ cause.Cut 0 _ (fall_tells _ cause.Cut 0 (lowered_down e.fsm held)))
      | false ↦ λ off. stays
    ] refl

pub cuts_tell : CutsTell
unfolding going_on
cuts_tell x =
    let first = cut_at x x.near in
    subst (MayFall x cause.Cut 0 (λ s. Unit {0})) (sym (ap (λ ts. first.changes ++ ts) (releases_tell first.pair) ∙ append-nil first.changes)) (cut_at_tells x x.near refl)

-- an end that is up at a tick
up_ticks : (x : PairEnds) (e : LinkEnd) (shown : BroadcastState) → x.near ≡ Some e → is_up e.fsm.state ≡ true → MayFall x cause.Silent 0 (λ s. s.silent ≡ 4) (stepped x e (up_tick e.fsm (is_up_at x.far)) 0 shown).changes
unfolding going_on
up_ticks x e shown is up =
    let held = is_up_at x.far in
    let at : Bool → Outcome = λ b. if b then gives (lowered e.fsm held) (Down cause.Silent) else gives (unheard e.fsm) (Answer (reply.State (nat_le 1 e.fsm.silent))) in
    elim (e.fsm.silent == 4) as (λ b. (e.fsm.silent == 4) ≡ b → MayFall x cause.Silent 0 (λ s. s.silent ≡ 4) (stepped x e (at b) 0 shown).changes) [
      | true ↦ λ four. falls e _ is up (let silent : e.fsm.silent ≡ 4 = grind (arith, nat_tests, four) in silent) (told_before x _ cause.Silent 0 _ (fall_tells _ cause.Silent 0 (lowered_down e.fsm held)))
      | false ↦ λ less. stays
    ] refl

ticks_in : (x : PairEnds) (e : LinkEnd) (shown : BroadcastState) → x.near ≡ Some e → MayFall x cause.Silent 0 (λ s. s.silent ≡ 4) (stepped x e (on_tick e.fsm (is_up_at x.far)) 0 shown).changes
unfolding going_on on_tick
ticks_in x e shown is = elim e.fsm.state as (λ st. e.fsm.state ≡ st → MayFall x cause.Silent 0 (λ s. s.silent ≡ 4) (stepped x e (tick_in st e.fsm (is_up_at x.far)) 0 shown).changes) [
  | ResetUnknown ↦ λ st. stays
  | ResetReset ↦ λ st. stays
  | WorkingWorking ↦ λ st. up_ticks x e shown is (ap is_up st)
  | WorkingUnknown ↦ λ st. up_ticks x e shown is (ap is_up st)
  | Held ↦ λ st. stays
] refl

ticks_at : (x : PairEnds) (o : Option LinkEnd) (shown : BroadcastState) → x.near ≡ o → MayFall x cause.Silent 0 (λ s. s.silent ≡ 4) (tick_at shown x o).changes
ticks_at x None shown is = stays
ticks_at x (Some e) shown is = ticks_in x e shown is

pub ticks_tell : TicksTell
ticks_tell x shown = ticks_at x x.near shown refl

-- ---- a RESET arrives

not_lower : (a b : ℕ) → nat_lt a b ≡ false → b ≤ a
not_lower a b is = grind (arith, nat_tests, is)

other_peer : (p : Option ℕ) (es : ℕ) → is_peer p es ≡ false → p ≢ Some es
other_peer None es off same = absurd cc
other_peer (Some p) es off same =
    let is : p ≡ es = cc in
    let on : (p == es) ≡ true = grind (arith, nat_tests, is) in
    let wrong : true ≡ false = sym on ∙ off in absurd cc

-- of two tests one after the other
pub neither_first : (a b : Bool) → (a || b) ≡ false → a ≡ false
neither_first true b off = off
neither_first false b off = refl

pub neither_second : (a b : Bool) → (a || b) ≡ false → b ≡ false
neither_second true b off = absurd cc
neither_second false b off = off

by_first : (a b : Bool) → a ≡ true → (a && b) ≡ false → b ≡ false
by_first true b on off = off
by_first false b on off = absurd cc

resets_at : (x : PairEnds) (o : Option LinkEnd) (es : ℕ) (shown : BroadcastState) → x.near ≡ o → MayFall x cause.PeerReset es (λ s. (s.highest ≤ es) × (s.peer ≢ Some es)) (reset_given es (is_up_at x.far) shown x o).course.changes
unfolding going_on on_reset
resets_at x None es shown is = stays
resets_at x (Some e) es shown is =
    let s = e.fsm in
    let held = is_up_at x.far in
    let Like : Fsm → Type 0 = λ s. (s.highest ≤ es) × (s.peer ≢ Some es) in
    let P : Outcome → Type 0 = λ o. MayFall x cause.PeerReset es Like (stepped x e o es shown).changes in
    let low = nat_lt es s.highest in
    let same = is_up s.state && is_peer s.peer es in
    let last : Outcome = gives (took_epoch s es ResetReset) (Answer reply.Activate) in
    let down : Outcome = gives (lowered s held) (Down cause.PeerReset) in
    elim (is_held s.state) as (λ b. P (if b then gives s (Ignore why.Held) else (if low || same then gives s (Ignore why.Epoch) else (if is_up s.state then down else last)))) [
      | true ↦ stays
      | false ↦ elim (low || same) as (λ b. (low || same) ≡ b → P (if b then gives s (Ignore why.Epoch) else (if is_up s.state then down else last))) [
        | true ↦ λ _. stays
        | false ↦ λ off. elim (is_up s.state) as (λ b. is_up s.state ≡ b → P (if b then down else last)) [
          | true ↦ λ up. falls e _ is up (not_lower es s.highest (neither_first low same off), other_peer s.peer es (by_first (is_up s.state) (is_peer s.peer es) up (neither_second low same off)))
              (told_before x _ cause.PeerReset es _ (fall_tells _ cause.PeerReset es (lowered_down s held)))
          | false ↦ λ _. stays
        ] refl
      ] refl
    ]

pub resets_tell : ResetsTell
resets_tell x es shown = resets_at x x.near es shown refl

-- ---- a tunnel packet that was taken

tunnels_at : (y : PairEnds) (o : Option LinkEnd) (epoch : ℕ) → y.near ≡ o → MayFall y cause.PeerTunnel epoch (λ s. s.peer ≡ Some epoch) (tunnelled_at epoch y o).changes
unfolding on_peer_tunnel
tunnels_at y None epoch is = stays
tunnels_at y (Some e) epoch is =
    let s = e.fsm in
    let at : Bool → Outcome = λ b. if b then gives (lowered s true) (Down cause.PeerTunnel) else gives s Stay in
    let test = is_up s.state && is_peer s.peer epoch in
    elim test as (λ b. test ≡ b → MayFall y cause.PeerTunnel epoch (λ s. s.peer ≡ Some epoch) (following (with_near y (record e { fsm = (at b).after })) (at b).change epoch).changes) [
      | true ↦ λ on. falls e _ is (both_first (is_up s.state) (is_peer s.peer epoch) on) (this_peer s.peer epoch (both_second (is_up s.state) (is_peer s.peer epoch) on)) (told_before y _ cause.PeerTunnel epoch _ (fall_tells _ cause.PeerTunnel epoch refl))
      | false ↦ λ off. stays
    ] refl

pub tunnels_tell : TunnelsTell
tunnels_tell x epoch = tunnels_at (turned x) (turned x).near epoch refl

pub duplicates_tell : DuplicatesTell
duplicates_tell x epoch = refl

-- ---- a higher contact number

ended_one : (own peer contact seen bearer : ℕ) (o : Option LinkEnd) → IfSome o (IsEndOf own peer contact seen bearer) → flat_map ended_with (made_of o) ≡ ended_on bearer o
ended_one own peer contact seen bearer None h = refl
ended_one own peer contact seen bearer (Some e) h = append-nil (ended_with e) ∙ ap (λ n. if is_up e.fsm.state then LinkDown n cause.ContactEnded 0 ∷ [] else []) h.bearer_is

-- the end on a bearer is of that bearer
first_end : (x : PairEnds) → IsPairOfEnds x → IfSome (facing 0 x).near (IsEndOf x.own x.peer x.contact x.seen 0)
unfolding facing
first_end x h =
    let two = h.two_bearers in
    elim (x.bearer == 0) as (λ b. (x.bearer == 0) ≡ b → IfSome (if b then x else turned x).near (IsEndOf x.own x.peer x.contact x.seen 0)) [
      | true ↦ λ on. subst (λ n. IfSome x.near (IsEndOf x.own x.peer x.contact x.seen n)) (let zero : x.bearer ≡ 0 = grind (arith, nat_tests, on) in zero) h.near
      | false ↦ λ off. subst (λ n. IfSome x.far (IsEndOf x.own x.peer x.contact x.seen n)) (let one : other x.bearer ≡ 0 = grind (arith, nat_tests, off, two) in one) h.far
    ] refl

second_end : (x : PairEnds) → IsPairOfEnds x → IfSome (facing 1 x).near (IsEndOf x.own x.peer x.contact x.seen 1)
unfolding facing
second_end x h =
    let two = h.two_bearers in
    elim (x.bearer == 1) as (λ b. (x.bearer == 1) ≡ b → IfSome (if b then x else turned x).near (IsEndOf x.own x.peer x.contact x.seen 1)) [
      | true ↦ λ on. subst (λ n. IfSome x.near (IsEndOf x.own x.peer x.contact x.seen n)) (let one : x.bearer ≡ 1 = grind (arith, nat_tests, on) in one) h.near
      | false ↦ λ off. subst (λ n. IfSome x.far (IsEndOf x.own x.peer x.contact x.seen n)) (let one : other x.bearer ≡ 1 = grind (arith, nat_tests, off, two) in one) h.far
    ] refl

ends_seen : (x : PairEnds) (number : ℕ) → flat_map ended_with (ends_of (record x { seen = number })) ≡ flat_map ended_with (ends_of x)
unfolding facing
ends_seen x number = elim (x.bearer == 0) as (λ b. flat_map ended_with (made_of (if b then record x { seen = number } else turned (record x { seen = number })).near ++ made_of (if x.bearer == 1 then record x { seen = number } else turned (record x { seen = number })).near)
    ≡ flat_map ended_with (made_of (if b then x else turned x).near ++ made_of (if x.bearer == 1 then x else turned x).near)) [
      | true ↦ elim (x.bearer == 1) as (λ b. flat_map ended_with (made_of x.near ++ made_of (if b then record x { seen = number } else turned (record x { seen = number })).near) ≡ flat_map ended_with (made_of x.near ++ made_of (if b then x else turned x).near)) [ true ↦ refl | false ↦ refl ]
      | false ↦ elim (x.bearer == 1) as (λ b. flat_map ended_with (made_of x.far ++ made_of (if b then record x { seen = number } else turned (record x { seen = number })).near) ≡ flat_map ended_with (made_of x.far ++ made_of (if b then x else turned x).near)) [ true ↦ refl | false ↦ refl ]
    ]

pub numbers_tell : NumbersTell
numbers_tell x number h there =
    let y = record x { seen = number } in
    let k : IsPairOfEnds x = h in
    let ended : flat_map ended_with (ends_of x) ≡ ended_on 0 (facing 0 x).near ++ ended_on 1 (facing 1 x).near =
    flat_map-append ended_with (made_of (facing 0 x).near) (made_of (facing 1 x).near)
    ∙ (ap (λ ts. ts ++ flat_map ended_with (made_of (facing 1 x).near)) (ended_one x.own x.peer x.contact x.seen 0 (facing 0 x).near (first_end x k))
    ∙ ap (λ ts. ended_on 0 (facing 0 x).near ++ ts) (ended_one x.own x.peer x.contact x.seen 1 (facing 1 x).near (second_end x k))) in
    let all = contact_ends y (x.contact, x.seen) number in (
      states_of (parted y),
      ap (λ b. (if b then all else rests (forgotten x number)).changes) there ∙ ap (λ ts. ts ++ ContactDown (x.contact, x.seen) (states_of (parted y)) number ∷ []) (ends_seen x number ∙ ended),
    )

pub numbers_are_noted : NumbersAreNoted
numbers_are_noted x number apart = ap (λ b. (if b then contact_ends (record x { seen = number }) (x.contact, x.seen) number else rests (forgotten x number)).changes) apart

-- ---- a packet that is met

abbrev NotDown : Change → Type 0
NotDown (Down because) = ⊥
NotDown other = Unit {0}

activate_stays : (s : Fsm) (es er : ℕ) → NotDown (on_activate s es er).change
unfolding on_activate
activate_stays s es er =
    let P : Outcome → Type 0 = λ o. NotDown o.change in
    either_so P (is_held s.state) _ _ tt (either_so P ((is_in_reset s.state && not (is_last s.own)) && ((er == s.own) && not (nat_lt es s.highest))) _ _ tt (either_so P (is_up s.state && is_session s es er) _ _ tt tt))

traffic_stays : (s : Fsm) (es er : ℕ) → NotDown (on_traffic s es er).change
unfolding on_traffic
traffic_stays s es er =
    let P : Outcome → Type 0 = λ o. NotDown o.change in
    either_so P (is_session s es er && (is_reset_reset s.state && not (is_last s.own))) _ _ tt (either_so P (is_session s es er && is_up s.state) _ _ tt tt)

meeting_stays : (s : Fsm) (h : Header) (es er : ℕ) (held : Bool) → ((said : Reset) → h ≡ header.Reset said → ⊥) → NotDown (outcome_of s h es er held).change
meeting_stays s (header.Reset said) es er held other_kind = absurd (other_kind said refl)
meeting_stays s (header.Activate said) es er held other_kind = activate_stays s es er
meeting_stays s (header.Discovery said) es er held other_kind = tt
meeting_stays s other es er held other_kind = traffic_stays s es er

rise_tells : (y : PairEnds) (e : LinkEnd) → y.near ≡ Some e → (epoch : ℕ) → MayRise y (following y Up epoch).changes
rise_tells y e is epoch =
    let up : up_told y.bearer y.near ≡ LinkUp y.bearer e.fsm.own (known e.fsm.peer) = ap (up_told y.bearer) is in
    let own = e.fsm.own in
    let peer = known e.fsm.peer in
    elim (is_up_at y.far) as (λ b. is_up_at y.far ≡ b → MayRise y (up_told y.bearer y.near ∷ (if b then (if y.bearer == 0 then switch y else rests y) else contact_begins y).changes)) [
      | true ↦ λ far.
          let none : (if y.bearer == 0 then switch y else rests y).changes ≡ [] = either_so (λ (c : Course). c.changes ≡ []) (y.bearer == 0) (switch y) (rests y) (switch_none y y.near y.far) refl in
          subst (λ ts. MayRise y (up_told y.bearer y.near ∷ ts)) (sym none) (subst (λ t. MayRise y (t ∷ [])) (sym up) (rises own peer far))
      | false ↦ λ off. subst (λ t. MayRise y (t ∷ ContactUp (y.contact, y.seen) ∷ [])) (sym up) (begins own peer off)
    ] refl

rise_before : (x : PairEnds) (e : LinkEnd) (changes : List Transition) → MayRise (with_near x e) changes → MayRise x changes
rise_before x e _ nothing = nothing
rise_before x e _ (rises own peer far) = rises own peer far
rise_before x e _ (begins own peer off) = begins own peer off

follow_rises : (x : PairEnds) (e : LinkEnd) (c : Change) (epoch : ℕ) → NotDown c → MayRise x (following (with_near x e) c epoch).changes
follow_rises x e Up epoch h = rise_before x e _ (rise_tells (with_near x e) e refl epoch)
follow_rises x e (Down because) epoch h = absurd h
follow_rises x e Stay epoch h = nothing
follow_rises x e (Answer said) epoch h = nothing
follow_rises x e (Ignore reason) epoch h = nothing

meets_at : (x : PairEnds) (o : Option LinkEnd) (es er : ℕ) (p : Fields) (by : ℕ) (shown : BroadcastState) → ((said : Reset) → p.header ≡ header.Reset said → ⊥) → MayRise x (met_at es er p by shown x o).course.changes
unfolding going_on
meets_at x None es er p by shown other_kind = nothing
meets_at x (Some e) es er p by shown other_kind =
    let o = outcome_of e.fsm p.header es er (is_up_at x.far) in
    follow_rises x (arrival_end e o p by) o.change es (meeting_stays e.fsm p.header es er (is_up_at x.far) other_kind)

pub meets_tell : MeetsTell
meets_tell x es er p by shown other_kind = meets_at x x.near es er p by shown other_kind
