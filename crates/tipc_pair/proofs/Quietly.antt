-- Arrivals that take no link up or down and bring nothing through a tunnel.
use Rattle.std.specs.Prelude.{◌&&◌, ◌==◌, nat_lt, not, if◌then◌else◌}
use Rattle.std.specs.List.{list_all}
use Rattle.std.proofs.Common.{◌≡◌, ◌∙◌, ℕ, Bool, true, false, List, [], ◌∷◌, ◌++◌, Some, length, refl, sym, subst, ap, append-nil}
use Rattle.tipc_types.specs.declared.link_words.BroadcastState.{BroadcastState}
use Rattle.tipc_types.specs.declared.link_words.Why.TheVariants as why
use Rattle.tipc_types.specs.declared.packet_lists.Taken.{Taken}
use Rattle.tipc_outside.specs.Frames.{Gains}
use Rattle.tipc_header.specs.declared.packet.Header.{Header}
use Rattle.tipc_header.specs.declared.packet.Header.TheVariants as header
use Rattle.tipc_header.specs.Spelling.{Fields}
use Rattle.tipc_fragments.specs.Joining.{Joining}
use Rattle.tipc_reassembly.specs.Opening.{BringsAll}
use Rattle.tipc_contact.specs.declared.contact.Standing.TheVariants.{Lower, Same, Higher}
use Rattle.tipc_recv_window.specs.declared.outcomes.LinkOutcome.{LinkOutcome}
use Rattle.tipc_link_fsm.specs.declared.changes.Change.{Change}
use Rattle.tipc_link_fsm.specs.declared.changes.Change.TheVariants.{Answer, Down, Ignore, Stay, Up}
use Rattle.tipc_link_fsm.specs.Table.{Outcome, on_reset}
use Rattle.tipc_link.specs.Hearings.{ArrivingState}
use Rattle.tipc_link.specs.Links.{LinkEnd, after, arrival_end, change_outcome, frames, heard_end, heard_outcome, is_down, is_heard, link_frames, link_outcome, newly_numbered, outcome_of, sent_again}
use Rattle.tipc_link.specs.Records.{is_changeover, is_tunnel}
use Rattle.tipc_link.specs.Sessions.{content_of}
use Rattle.tipc_pair.specs.declared.changes.PairOutcome.{PairOutcome}
use Rattle.tipc_pair.specs.Changeovers.{following, released}
use Rattle.tipc_pair.specs.Courses.{AddsCourse, Course, LeavingState, going_on, rests}
use Rattle.tipc_pair.specs.Facing.{PairEnds, facing, is_up_at, turned, with_near}
use Rattle.tipc_pair.specs.PairFacts.{IsPairOfEnds}
use Rattle.tipc_link.specs.Parts.{is_quiet}
use Rattle.tipc_pair.specs.Messages.{OpensTo, took, deferred as defers, ignored as ignores}
use Rattle.tipc_pair.specs.PairArrivals.{Arrives, IsHeardAs, Heard, by_number, deferred, hears, ignored, met, opens, passing, reset_change, reset_given, reset_near, with_begun, with_bytes}
use Rattle.tipc_pair.specs.PairOpenings.{HearsAndOpens, IsQuiet, NoneCarriedIn, Opens, are_plain, is_plain, standing_of, standing_with}
use Rattle.tipc_pair.proofs.Arrivings.{met_does, met_near_is}
use Rattle.tipc_pair.proofs.EndFacts.{near_changed}
use Rattle.tipc_pair.proofs.EndSteps.{end_arrived, up_part as first_of}
use Rattle.tipc_pair.proofs.Followings.{adds_rests}
use Rattle.tipc_pair.proofs.Listed.{both_ways, spelled_tunnel}
use Rattle.tipc_pair.proofs.Openings.{arrives_so, none_unwrapped, rests_open}

-- ---- the contact number that is shown

by_lower : (x : PairEnds) (number : ℕ) (same higher : Heard) → standing_of number x.seen ≡ Lower → by_number x number same higher ≡ passing x why.Contact
by_lower x number same higher is =
    elim (nat_lt number x.seen) as (λ b. (if b then Lower else (if number == x.seen then Same else Higher)) ≡ Lower → (if b then passing x why.Contact else (if number == x.seen then same else higher)) ≡ passing x why.Contact) [
      | true ↦ λ e. refl
      | false ↦ elim (number == x.seen) as (λ b. (if b then Same else Higher) ≡ Lower → (if b then same else higher) ≡ passing x why.Contact) [
        | true ↦ λ e. absurd (let wrong : ⊥ = cc in wrong)
        | false ↦ λ e. absurd (let wrong : ⊥ = cc in wrong)
      ]
    ] is

by_same : (x : PairEnds) (number : ℕ) (same higher : Heard) → standing_of number x.seen ≡ Same → by_number x number same higher ≡ same
by_same x number same higher is =
    elim (nat_lt number x.seen) as (λ b. (if b then Lower else (if number == x.seen then Same else Higher)) ≡ Same → (if b then passing x why.Contact else (if number == x.seen then same else higher)) ≡ same) [
      | true ↦ λ e. absurd (let wrong : ⊥ = cc in wrong)
      | false ↦ elim (number == x.seen) as (λ b. (if b then Same else Higher) ≡ Same → (if b then same else higher) ≡ same) [
        | true ↦ λ e. refl
        | false ↦ λ e. absurd (let wrong : ⊥ = cc in wrong)
      ]
    ] is

lower_passes : (h : Header) (es er : ℕ) (p : Fields) (by : ℕ) (shown : BroadcastState) (x : PairEnds) → standing_with x h ≡ Lower → hears h es er p by shown x ≡ passing x why.Contact
lower_passes (header.Reset said) es er p by shown x is = by_lower x said.contact _ _ is
lower_passes (header.Activate said) es er p by shown x is = by_lower x said.contact _ _ is
lower_passes other es er p by shown x is = absurd (let wrong : ⊥ = cc in wrong)

-- it stands so from either link
turned_standing : (x : PairEnds) (h : Header) → standing_with (turned x) h ≡ standing_with x h
turned_standing x (header.Reset said) = refl
turned_standing x (header.Activate said) = refl
turned_standing x other = refl

pub facing_standing : (bearer : ℕ) (x : PairEnds) (h : Header) → standing_with (facing bearer x) h ≡ standing_with x h
unfolding facing
facing_standing bearer x h = elim (x.bearer == bearer) as (λ b. standing_with (if b then x else turned x) h ≡ standing_with x h) [ true ↦ refl | false ↦ turned_standing x h ]

-- ---- the near link goes neither up nor down

quiet_down : (c : Change) → is_quiet c ≡ true → is_down c ≡ false
quiet_down Up is = absurd (let wrong : ⊥ = cc in wrong)
quiet_down (Down cause) is = absurd (let wrong : ⊥ = cc in wrong)
quiet_down Stay is = refl
quiet_down (Answer reply) is = refl
quiet_down (Ignore reason) is = refl

quiet_follows : (x : PairEnds) (c : Change) (epoch : ℕ) → is_quiet c ≡ true → following x c epoch ≡ rests x
quiet_follows x Up epoch is = absurd (let wrong : ⊥ = cc in wrong)
quiet_follows x (Down cause) epoch is = absurd (let wrong : ⊥ = cc in wrong)
quiet_follows x Stay epoch is = refl
quiet_follows x (Answer reply) epoch is = refl
quiet_follows x (Ignore reason) epoch is = refl

-- a RESET is met as any packet is
reset_met : (e : LinkEnd) (o : Outcome) (p : Fields) (es by : ℕ) (shown : BroadcastState) (x : PairEnds) (b : Bool) → is_heard p.header o.change ≡ b → b ≡ false
    → met x e o p es by shown ≡ record { course = going_on (record (rests (with_near x (after e o))) { states = frames e o shown }) (λ y. following y o.change es); outcome = change_outcome o.change }
reset_met e o p es by shown x b heard not =
    let c = content_of p in
    let met_as : Bool → Heard = λ d. record {
      course = going_on (record (rests (with_near x (if d then heard_end (after e o) by p.acknowledgement c else after e o))) {
        states = frames e o shown ++ (if d then sent_again (after e o).session p.acknowledgement c else []);
        numbered = if d then newly_numbered (after e o).session by p.acknowledgement c else [];
      }) (λ y. following y o.change es);
      outcome = if d then heard_outcome (after e o).session by c else change_outcome o.change;
    } in
    let with_states : List _ → Heard = λ fs. record { course = going_on (record (rests (with_near x (after e o))) { states = fs }) (λ y. following y o.change es); outcome = change_outcome o.change } in
    ap met_as (heard ∙ not) ∙ ap with_states (append-nil (frames e o shown))

reset_quietly : (es : ℕ) (p : Fields) (by : ℕ) (shown : BroadcastState) (x : PairEnds) (e : LinkEnd) → is_heard p.header (on_reset e.fsm es (is_up_at x.far)).change ≡ false → x.near ≡ Some e
    → is_quiet (on_reset e.fsm es (is_up_at x.far)).change ≡ true → reset_near es shown x ≡ met x e (on_reset e.fsm es (is_up_at x.far)) p es by shown
reset_quietly es p by shown x e not_heard near quiet =
    let held = is_up_at x.far in
    let o = on_reset e.fsm es held in
    let stays : is_down (reset_change es held x.near) ≡ false = ap (λ end. is_down (reset_change es held end)) near ∙ quiet_down o.change quiet in
    let twice : Heard = record {
      course = going_on (reset_given es held shown x x.near).course (λ y. (reset_given es false shown y y.near).course);
      outcome = (reset_given es false shown (reset_given es held shown x x.near).course.pair (reset_given es held shown x x.near).course.pair.near).outcome;
    } in
    let once : reset_near es shown x ≡ reset_given es held shown x x.near = ap (λ b. if b && not held then twice else reset_given es held shown x x.near) stays in
    once ∙ (ap (reset_given es held shown x) near ∙ sym (reset_met e o p es by shown x _ refl not_heard))

hears_quietly : (h : Header) (es er : ℕ) (p : Fields) (by : ℕ) (shown : BroadcastState) (x : PairEnds) (e : LinkEnd) → p.header ≡ h → standing_with x h ≡ Same → x.near ≡ Some e
    → is_quiet (outcome_of e.fsm h es er (is_up_at x.far)).change ≡ true → hears h es er p by shown x ≡ met x e (outcome_of e.fsm h es er (is_up_at x.far)) p es by shown
hears_quietly (header.Reset said) es er p by shown x e is standing near quiet =
    by_same x said.contact _ _ standing ∙ reset_quietly es p by shown x e (ap (λ k. is_heard k (on_reset e.fsm es (is_up_at x.far)).change) is) near quiet
hears_quietly (header.Activate said) es er p by shown x e is standing near quiet =
    by_same x said.contact _ _ standing ∙ (sym (met_near_is es er p by shown x e (is_up_at x.far) near refl) ∙ ap (λ k. met x e (outcome_of e.fsm k es er (is_up_at x.far)) p es by shown) is)
hears_quietly other es er p by shown x e is standing near quiet =
    sym (met_near_is es er p by shown x e (is_up_at x.far) near refl) ∙ ap (λ k. met x e (outcome_of e.fsm k es er (is_up_at x.far)) p es by shown) is

-- ---- what is taken is plain

pub second_of : (a b : Bool) → (a && b) ≡ true → b ≡ true
second_of true b is = is
second_of false b is = absurd (let wrong : ⊥ = cc in wrong)

plain_bytes : (taken : List Taken) → list_all is_plain taken ≡ true → with_bytes taken ≡ taken
plain_bytes [] is = refl
plain_bytes (t ∷ ts) is =
    let long = first_of (nat_lt 0 (length t.packet)) (not (is_tunnel t.packet)) (first_of (is_plain t) (list_all is_plain ts) is) in
    ap (λ b. if b then t ∷ with_bytes ts else with_bytes ts) long ∙ ap (λ us. t ∷ us) (plain_bytes ts (second_of (is_plain t) (list_all is_plain ts) is))

no_tunnel : (b : Bool) → not b ≡ true → b ≡ false
no_tunnel true is = absurd (let wrong : ⊥ = cc in wrong)
no_tunnel false is = refl

plain_none : (x : PairEnds) (taken : List Taken) → list_all is_plain taken ≡ true → NoneCarriedIn x taken
plain_none x taken is first others t taken_is speaks =
    let plain : is_plain first ≡ true = first_of (is_plain first) (list_all is_plain others) (ap (list_all is_plain) (sym taken_is) ∙ is) in
    let other = no_tunnel (is_tunnel first.packet) (second_of (nat_lt 0 (length first.packet)) (not (is_tunnel first.packet)) plain) in
    both_ways (is_tunnel first.packet) (ap is_tunnel speaks.tunnel.spelled ∙ (spelled_tunnel speaks.tunnel.packet speaks.tunnel.fits ∙ ap is_changeover speaks.tunnel.carries.header)) other

plain_opens : (one : PairEnds) (outcome : LinkOutcome) (given : PairOutcome) (last : Joining) (a : LeavingState) → are_plain outcome ≡ true → OpensTo one.begun outcome given last → Opens one outcome given (record one { begun = last }) a a
plain_opens one outcome given last a plain (took {taken = taken} {opened = items} brings) = record {
  course = with_begun (rests one) last;
  opens = opens (none_unwrapped one taken (plain_none one taken plain)) (subst (λ ts. BringsAll one.begun ts items last) (sym (plain_bytes taken plain)) brings);
  pair = refl;
  told = (let told = adds_rests a one in record { changes = told.changes; made = told.made });
}
plain_opens one outcome given last a plain defers = rests_open one a LinkOutcome.Deferred PairOutcome.Deferred deferred
plain_opens one outcome given last a plain (ignores {reason = reason}) = rests_open one a (LinkOutcome.Ignored reason) (PairOutcome.Ignored reason) ignored

-- ---- the arrival

quiet_outcome : (x : PairEnds) (e : LinkEnd) (es er : ℕ) (p : Fields) (by : ℕ) (a : ArrivingState) → IsQuiet x es er p by a → x.near ≡ Some e → a.states ≡ outcome_of e.fsm p.header es er (is_up_at x.far)
quiet_outcome x e es er p by a q near =
    let same : q.end ≡ e = (let there : Some q.end ≡ Some e = sym q.end_is ∙ near in cc) in
    q.states ∙ ap (λ (d : LinkEnd). outcome_of d.fsm p.header es er (is_up_at x.far)) same

begun_kept : (x : PairEnds) (begun : Joining) → IsPairOfEnds x → IsPairOfEnds (record x { begun = begun })
begun_kept x begun h = record { two_bearers = h.two_bearers; near = h.near; far = h.far }

-- it stays a pair of ends
pub quietly_kept : (x : PairEnds) (e new : LinkEnd) (es er : ℕ) (p : Fields) (by : ℕ) (a : ArrivingState) (begun : Joining) → IsPairOfEnds x → IsQuiet x es er p by a → x.near ≡ Some e → new ≡ arrival_end e a.states p a.hearing.by
    → IsPairOfEnds (record (with_near x new) { begun = begun })
quietly_kept x e new es er p by a begun h q near new_is =
    let o = outcome_of e.fsm p.header es er (is_up_at x.far) in
    near_changed (record x { begun = begun }) e new (arrival_end e o p a.hearing.by) (begun_kept x begun h) near
    (new_is ∙ ap (λ k. arrival_end e k p a.hearing.by) (quiet_outcome x e es er p by a q near))
    (λ own peer contact seen bearer k. end_arrived own peer contact seen bearer e p es er (is_up_at x.far) a.hearing.by k)

-- the near link hears a packet, and what it takes of that was opened
pub hears_and_opens : (x last : PairEnds) (e new : LinkEnd) (es er : ℕ) (p : Fields) (by : ℕ) (shown : BroadcastState) (a : ArrivingState) (given : PairOutcome) (begun : Joining) (old b : LeavingState) → IsQuiet x es er p by a
    → standing_with x p.header ≡ Same → x.near ≡ Some e → new ≡ arrival_end e a.states p a.hearing.by → b.changes ≡ old.changes → Gains old.out b.out (link_frames e a.states p a.hearing.by shown)
    → OpensTo x.begun a.hearing.outcome given begun → last ≡ record (with_near x new) { begun = begun }
    → HearsAndOpens (hears p.header es er p by shown x) given last old b
hears_and_opens x last e new es er p by shown a given begun old b q standing near new_is changes made opened last_is =
    let same : q.end ≡ e = (let there : Some q.end ≡ Some e = sym q.end_is ∙ near in cc) in
    let o = outcome_of e.fsm p.header es er (is_up_at x.far) in
    let o_is : a.states ≡ o = quiet_outcome x e es er p by a q near in
    let one = with_near x new in
    let quiet : is_quiet o.change ≡ true = ap (λ (k : Outcome). is_quiet k.change) (sym o_is) ∙ q.quiet in
    let gives : a.hearing.outcome ≡ link_outcome e o p by =
    q.arriving.outcome ∙ (ap (λ d. link_outcome d a.states p a.hearing.by) same ∙ (ap (λ k. link_outcome e k p a.hearing.by) o_is ∙ ap (link_outcome e o p) q.by_is)) in
    let new_so : new ≡ arrival_end e o p by = new_is ∙ (ap (λ k. arrival_end e k p a.hearing.by) o_is ∙ ap (arrival_end e o p) q.by_is) in
    let made_so = subst (λ n. Gains old.out b.out (link_frames e o p n shown)) q.by_is (subst (λ (k : Outcome). Gains old.out b.out (link_frames e k p a.hearing.by shown)) o_is made) in
    let rested = quiet_follows one o.change es quiet in
    let met_it : IsHeardAs (met x e o p es by shown) one old b a.hearing.outcome =
    met_does x one one e new o p es by shown o.change a.hearing.outcome old b b refl new_so refl gives changes made_so (sym (ap (λ (c : Course). c.pair) rested)) (subst (AddsCourse b b) (sym rested) (adds_rests b one)) in
    record {
      one = one;
      outcome = a.hearing.outcome;
      does = subst (λ (h : Heard). IsHeardAs h one old b a.hearing.outcome) (sym (hears_quietly p.header es er p by shown x e refl standing near quiet)) met_it;
      opens = subst (λ y. Opens one a.hearing.outcome given y b b) (sym last_is) (plain_opens one a.hearing.outcome given begun b q.plain opened);
    }

-- and then either end may be released
pub quietly_arrives : (x two last : PairEnds) (es er : ℕ) (p : Fields) (by : ℕ) (shown : BroadcastState) (given : PairOutcome) (a b d : LeavingState) → HearsAndOpens (hears p.header es er p by shown x) given two a b
    → last ≡ (released two).pair → AddsCourse b d (released two) → (k : Course) × Arrives x es er p by shown k given × (last ≡ k.pair) × AddsCourse a d k
quietly_arrives x two last es er p by shown given a b d h last_is told = arrives_so x h.one two last es er p by shown h.outcome given a b b d h.does h.opens last_is told

-- a packet that shows a lower contact number is passed over
pub lower_arrives : (x last : PairEnds) (es er : ℕ) (p : Fields) (by : ℕ) (shown : BroadcastState) (a d : LeavingState) → standing_with x p.header ≡ Lower → last ≡ (released x).pair → AddsCourse a d (released x)
    → (k : Course) × Arrives x es er p by shown k (PairOutcome.Ignored why.Contact) × (last ≡ k.pair) × AddsCourse a d k
lower_arrives x last es er p by shown a d lower last_is told =
    let does : IsHeardAs (passing x why.Contact) x a a (LinkOutcome.Ignored why.Contact) = record { pair = refl; told = adds_rests a x; gives = refl } in
    arrives_so x x x last es er p by shown (LinkOutcome.Ignored why.Contact) (PairOutcome.Ignored why.Contact) a a a d
    (subst (λ (h : Heard). IsHeardAs h x a a (LinkOutcome.Ignored why.Contact)) (sym (lower_passes p.header es er p by shown x lower)) does)
    (rests_open x a (LinkOutcome.Ignored why.Contact) (PairOutcome.Ignored why.Contact) ignored) last_is told
