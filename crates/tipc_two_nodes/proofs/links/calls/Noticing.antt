-- A RESET or an ACTIVATE arrives at a pair, or a packet that isn't heard: what that makes of the pair as a sender.
use Rattle.std.proofs.Common.{◌≡◌, ◌&&◌, not, ℕ, ◌≤◌, Bool, true, false, if◌then◌else◌, Option, Some, None, option_map, refl, sym, ap, ◌∙◌, subst, inl, inr}
use Rattle.std.proofs.lemmas.Bool.{and_parts, cases_Bool}
use Rattle.tipc_types.specs.declared.link_words.BroadcastState.{BroadcastState}
use Rattle.tipc_header.specs.declared.packet.Header.{Header}
use Rattle.tipc_header.specs.declared.packet.Header.TheVariants as header
use Rattle.tipc_header.specs.Spelling.{Fields}
use Rattle.tipc_link_fsm.specs.Table.{Fsm, Outcome, on_reset}
use Rattle.tipc_link_fsm.proofs.Moves.{not_true}
use Rattle.tipc_link.specs.Links.{LinkEnd, after, arrival_end, heard_end, is_down, is_heard, is_taken, is_traffic, outcome_of}
use Rattle.tipc_link.specs.Sessions.{content_of}
use Rattle.tipc_pair.specs.Changeovers.{contact_ends, following, forgetting, forgotten, risen}
use Rattle.tipc_pair.specs.Courses.{going_on, rests}
use Rattle.tipc_pair.specs.Facing.{PairEnds, in_contact, is_held_at, is_up_at, with_near}
use Rattle.tipc_pair.specs.PairArrivals.{Heard, activates, behind, by_number, hears, met, met_at, met_near, reset_change, reset_given, reset_near, reset_shown}
use Rattle.tipc_link.proofs.Ends.{forgotten-is}
use Rattle.tipc_pair.proofs.Followings.{far_down, near_down}
use Rattle.tipc_pair.proofs.HeldLaws.{HeldUp, reset_quiet}
use Rattle.tipc_changeover.specs.Links.{Bearer, State}
use Rattle.tipc_changeover.specs.Sound.{Sound}
use Rattle.tipc_two_nodes.specs.links.Traffic.{Traffic}
use Rattle.tipc_two_nodes.specs.links.Sending.{StandFor, beside, end_seen, ends_seen, state_as, window_in}
use Rattle.tipc_two_nodes.specs.links.Turning.{AreEnds, RunsWhereUp, TurnsEnd, goes_down, goes_up, is_rise, stays_so}
use Rattle.tipc_two_nodes.specs.links.Acting.{IsOver}
use Rattle.tipc_two_nodes.proofs.links.calls.Ending.{Goes, Rests, goes_later, over_then, rests_same, rests_then, stops}
use Rattle.tipc_two_nodes.proofs.links.calls.Freeing.{AreUp, UpWhere, ends_up}
use Rattle.tipc_two_nodes.proofs.links.receiver.Quiet.{number_none}
use Rattle.tipc_two_nodes.proofs.links.calls.Reacting.{MayTurn, Turned, nothing_acted, turned_goes, turns, turns_over}
use Rattle.tipc_two_nodes.proofs.links.calls.States.{activate_turns, as_down, reset_turns, traffic_turns}
use Rattle.tipc_two_nodes.proofs.links.calls.Stepping.{parts_over}
use Rattle.tipc_two_nodes.proofs.links.calls.Ticking.{MayFall, fall_may, out_rests, quiet_rise, rests_still}
-- ---- a pair whose links may turn either way
use Rattle.tipc_two_nodes.proofs.deeds.Noticing.{forgot_down as end_down}

pub record MayChange (x : PairEnds) : Type 0 where
  pub two_bearers : x.bearer ≤ 1
  pub up : AreUp x
  pub near : RunsWhereUp x.bearer x.near
  pub far : RunsWhereUp (beside x.bearer) x.far

pub may_change : (x : PairEnds) → AreEnds x → MayChange x
may_change x h = record { two_bearers = h.two_bearers; up = ends_up x h; near = h.near; far = h.far }

may_fall_too : (x : PairEnds) → MayChange x → MayFall x
may_fall_too x h = record { two_bearers = h.two_bearers; up = h.up; runs = λ far. h.near }

pub passes_still : (b : Bearer) (x : PairEnds) (t : Traffic) (z : State) → AreUp x → StandFor b (ends_seen x) t z → Goes b x x t z
passes_still b x t z up stand = turned_goes b x x false t z stand (rests_still b x false t z up stand)

-- ---- a packet that isn't heard

pub outcome_turns : (h : Header) (fsm : Fsm) (es er : ℕ) (held : Bool) → TurnsEnd held fsm (outcome_of fsm h es er held)
outcome_turns (header.Reset said) fsm es er held = reset_turns fsm es held
outcome_turns (header.Activate said) fsm es er held = activate_turns fsm es er held
outcome_turns (header.Discovery said) fsm es er held = stays_so refl refl refl refl
outcome_turns (header.State said) fsm es er held = traffic_turns fsm es er held
outcome_turns (header.Payload said) fsm es er held = traffic_turns fsm es er held
outcome_turns (header.Bundler said) fsm es er held = traffic_turns fsm es er held
outcome_turns (header.Changeover said) fsm es er held = traffic_turns fsm es er held
outcome_turns (header.NameDistributor said) fsm es er held = traffic_turns fsm es er held
outcome_turns (header.Fragmenter said) fsm es er held = traffic_turns fsm es er held

pub unheard_goes : (b : Bearer) (x : PairEnds) (e : LinkEnd) (o : Outcome) (p : Fields) (es by : ℕ) (shown : BroadcastState) (t : Traffic) (z : State) → x.near ≡ Some e → MayChange x → TurnsEnd (is_up_at x.far) e.fsm o → is_heard p.header o.change ≡ false
    → StandFor b (ends_seen x) t z → Sound b z → Goes b x (met x e o p es by shown).course.pair t z
unfolding going_on
unheard_goes b x e o p es by shown t z is may turn unheard stand sound =
    let e' = arrival_end e o p by in
    let end : e' ≡ after e o = ap (λ b'. if b' then heard_end (after e o) by p.acknowledgement (content_of p) else after e o) unheard in
    let held = is_up_at x.far in
    let m : MayTurn x e e' o held = record {
      two_bearers = may.two_bearers;
      near_is = is;
      alike = record { fsm = ap (λ (d : LinkEnd). d.fsm) end; session = ap (λ (d : LinkEnd). d.session) end };
      turn = turn;
      carried = λ up. up;
      up = may.up;
      runs = λ up. may.near;
      far_runs = λ up. may.far;
    } in
    turned_goes b x (following (with_near x e') o.change es).pair (is_rise o.change) t z stand (turns b x e e' o es held t z m stand sound)

not_traffic : (h : Header) (o : Outcome) → is_traffic h ≡ false → is_heard h o.change ≡ false
not_traffic h o other = ap (λ b. b && is_taken o.change) other

pub other_goes : (b : Bearer) (x : PairEnds) (end : Option LinkEnd) (p : Fields) (es er by : ℕ) (shown : BroadcastState) (t : Traffic) (z : State) → x.near ≡ end → MayChange x → is_traffic p.header ≡ false
    → StandFor b (ends_seen x) t z → Sound b z → Goes b x (met_at es er p by shown x end).course.pair t z
other_goes b x None p es er by shown t z is may other stand sound = passes_still b x t z may.up stand
other_goes b x (Some e) p es er by shown t z is may other stand sound =
    let held = is_up_at x.far in
    let o = outcome_of e.fsm p.header es er held in
    unheard_goes b x e o p es by shown t z is may (outcome_turns p.header e.fsm es er held) (not_traffic p.header o other) stand sound

-- ---- a RESET

given_turned : (b : Bearer) (x : PairEnds) (end : Option LinkEnd) (es : ℕ) (shown : BroadcastState) (t : Traffic) (z : State) → x.near ≡ end → MayFall x → StandFor b (ends_seen x) t z → Sound b z → Turned b x (reset_given es (is_up_at x.far) shown x end).course.pair false t z
unfolding going_on
given_turned b x None es shown t z is may stand sound = rests_still b x false t z may.up stand
given_turned b x (Some e) es shown t z is may stand sound =
    let held = is_up_at x.far in
    let o = on_reset e.fsm es held in
    let quiet = reset_quiet e.fsm es held in
    subst (λ rising. Turned b x (following (with_near x (after e o)) o.change es).pair rising t z) (quiet_rise o.change quiet)
    (turns b x e (after e o) o es held t z (fall_may x e (after e o) o held may is (record { fsm = refl; session = refl }) (reset_turns e.fsm es held) (λ up. up) quiet) stand sound)

-- one that takes the last link down ends the contact
down_over : (x : PairEnds) (e : LinkEnd) (o : Outcome) (held : Bool) (es : ℕ) → MayTurn x e (after e o) o held → is_up_at x.far ≡ false → is_down o.change ≡ true → TurnsEnd held e.fsm o → IsOver x (following (with_near x (after e o)) o.change es).pair
down_over x e o held es m alone down (goes_down cause change up low) = turns_over x e (after e o) o es held cause m change up alone
down_over x e o held es m alone down (goes_up change reset own state) = absurd (let wrong : true ≡ false = sym down ∙ ap is_down change in let no : ⊥ = cc in no)
down_over x e o held es m alone down (stays_so other so own state) = absurd (let wrong : true ≡ false = sym down ∙ so in let no : ⊥ = cc in no)

given_over : (x : PairEnds) (end : Option LinkEnd) (es : ℕ) (shown : BroadcastState) → x.near ≡ end → MayFall x → is_up_at x.far ≡ false → is_down (reset_change es (is_up_at x.far) end) ≡ true → IsOver x (reset_given es (is_up_at x.far) shown x end).course.pair
unfolding going_on
given_over x None es shown is may alone down = absurd (let wrong : ⊥ = cc in wrong)
given_over x (Some e) es shown is may alone down =
    let held = is_up_at x.far in
    let o = on_reset e.fsm es held in
    let m = fall_may x e (after e o) o held may is (record { fsm = refl; session = refl }) (reset_turns e.fsm es held) (λ up. up) (reset_quiet e.fsm es held) in
    down_over x e o held es m alone down (reset_turns e.fsm es held)

given_rests : (x : PairEnds) (end : Option LinkEnd) (es : ℕ) (held : Bool) (shown : BroadcastState) → x.near ≡ end → in_contact x ≡ false → Rests x (reset_given es held shown x end).course.pair
unfolding going_on
given_rests x None es held shown is none = rests_same x
given_rests x (Some e) es held shown is none = out_rests x e (on_reset e.fsm es held) held es is none (reset_turns e.fsm es held) (reset_quiet e.fsm es held)

reset_rests : (x : PairEnds) (es : ℕ) (shown : BroadcastState) → in_contact x ≡ false → Rests x (reset_near es shown x).course.pair
unfolding going_on
reset_rests x es shown none =
    let held = is_up_at x.far in
    let first = reset_given es held shown x x.near in
    let again : PairEnds → Heard = (λ y. reset_given es false shown y y.near) in
    let h = given_rests x x.near es held shown refl none in
    let y = first.course.pair in
    elim (is_down (reset_change es held x.near) && not held) as (λ b'. Rests x (if b' then behind first.course again else first).course.pair) [
      | true ↦ rests_then x y (again y).course.pair h (given_rests y y.near es false shown refl (h.out none))
      | false ↦ h
    ]

reset_goes : (b : Bearer) (x : PairEnds) (es : ℕ) (shown : BroadcastState) (t : Traffic) (z : State) → MayFall x → StandFor b (ends_seen x) t z → Sound b z → Goes b x (reset_near es shown x).course.pair t z
unfolding going_on
reset_goes b x es shown t z may stand sound =
    let held = is_up_at x.far in
    let first = reset_given es held shown x x.near in
    let again : PairEnds → Heard = (λ y. reset_given es false shown y y.near) in
    let y = first.course.pair in
    let down = is_down (reset_change es held x.near) in
    elim (down && not held) as (λ b'. (down && not held) ≡ b' → Goes b x (if b' then behind first.course again else first).course.pair t z) [
      | true ↦ λ so. (
          let parts = and_parts down (not held) so in
          let over = given_over x x.near es shown refl may (not_true held parts.1) parts.0 in
          stops x refl (nothing_acted b x t z stand) (over_then x y (again y).course.pair over (given_rests y y.near es false shown refl over.out)))
      | false ↦ λ _. turned_goes b x y false t z stand (given_turned b x x.near es shown t z refl may stand sound)
    ] refl

-- ---- a higher contact number

-- in contact, the contact ends
risen_over : (x : PairEnds) (number : ℕ) → in_contact x ≡ true → IsOver x (risen x number).pair
risen_over x number there =
    let seeing = record x { seen = number } in
    let pair : (contact_ends seeing (x.contact, x.seen) number).pair ≡ (risen x number).pair = ap (λ b. (if b then contact_ends seeing (x.contact, x.seen) number else rests (forgotten x number)).pair) (sym there) in
    subst (IsOver x) pair (parts_over x seeing (x.contact, x.seen) number there refl refl refl)

risen_out : (x : PairEnds) (number : ℕ) → in_contact x ≡ false → (risen x number).pair ≡ forgotten x number
risen_out x number none = ap (λ b. (if b then contact_ends (record x { seen = number }) (x.contact, x.seen) number else rests (forgotten x number)).pair) none

-- out of contact, no end is held, and each is seen as before
end_forgotten : (contact number : ℕ) (o : Option LinkEnd) → is_up_at o ≡ false → is_held_at o ≡ false → end_seen contact (option_map (forgetting number) o) ≡ end_seen contact o
end_forgotten contact number None down free = refl
end_forgotten contact number (Some e) down free =
    ap (λ (f : Fsm). record { epoch = f.own; state = state_as f.state; window = window_in e.session }) (forgotten-is e.fsm down)
    ∙ ap (λ s. record { epoch = e.fsm.own; state = s; window = window_in e.session }) (sym (as_down e.fsm.state down free))

pub not_held : (x : PairEnds) → HeldUp x → in_contact x ≡ false → (is_held_at x.near ≡ false) × (is_held_at x.far ≡ false)
not_held x held none = (free (is_held_at x.near) (is_up_at x.far) held.near (far_down x none), free (is_held_at x.far) (is_up_at x.near) held.far (near_down x none))
  where
    free : (b up : Bool) → (b ≡ true → up ≡ true) → up ≡ false → b ≡ false
    free true up so down = absurd (let wrong : true ≡ false = sym (so refl) ∙ down in let no : ⊥ = cc in no)
    free false up so down = refl

forgotten_seen : (x : PairEnds) (number : ℕ) → HeldUp x → in_contact x ≡ false → ends_seen (forgotten x number) ≡ ends_seen x
forgotten_seen x number held none =
    let parts = not_held x held none in
    let near = end_forgotten x.contact number x.near (near_down x none) parts.0 in
    let far = end_forgotten x.contact number x.far (far_down x none) parts.1 in
    ap (λ n. record { bearer = x.bearer; near = n; far = end_seen x.contact (option_map (forgetting number) x.far) }) near ∙ ap (λ f. record { bearer = x.bearer; near = end_seen x.contact x.near; far = f }) far

none_up : (o : Option LinkEnd) → is_up_at o ≡ false → UpWhere o
none_up o down = λ e is up. absurd (let wrong : true ≡ false = sym up ∙ (ap is_up_at (sym is) ∙ down) in let no : ⊥ = cc in no)

none_runs : (bearer : ℕ) (o : Option LinkEnd) → is_up_at o ≡ false → RunsWhereUp bearer o
none_runs bearer o down = λ e is up. absurd (let wrong : true ≡ false = sym up ∙ (ap is_up_at (sym is) ∙ down) in let no : ⊥ = cc in no)

forgotten_change : (x : PairEnds) (number : ℕ) → x.bearer ≤ 1 → in_contact x ≡ false → MayChange (forgotten x number)
forgotten_change x number low none =
    let near = end_down number x.near (near_down x none) in
    let far = end_down number x.far (far_down x none) in
    record {
      two_bearers = low;
      up = record { near = none_up (forgotten x number).near near; far = none_up (forgotten x number).far far };
      near = none_runs x.bearer (forgotten x number).near near;
      far = none_runs (beside x.bearer) (forgotten x number).far far;
    }

-- what a packet does then is done to a pair that forgot the peer's epochs
out_goes : (b : Bearer) (x : PairEnds) (number : ℕ) (hear : PairEnds → Heard) (t : Traffic) (z : State) → x.bearer ≤ 1 → HeldUp x → in_contact x ≡ false → StandFor b (ends_seen x) t z
    → ((y : PairEnds) → MayChange y → StandFor b (ends_seen y) t z → Goes b y (hear y).course.pair t z) → Goes b x (behind (risen x number) hear).course.pair t z
unfolding going_on
out_goes b x number hear t z low held none stand goes_on =
    let y = forgotten x number in
    let seen = forgotten_seen x number held none in
    let G = goes_on y (forgotten_change x number low none) (subst (λ e. StandFor b e t z) (sym seen) stand) in
    subst (λ w. Goes b x (hear w).course.pair t z) (sym (risen_out x number none)) (goes_later b x y (hear y).course.pair t z refl seen G)

-- ---- the packets that show a contact number

shown_goes : (b : Bearer) (x : PairEnds) (number es : ℕ) (shown : BroadcastState) (t : Traffic) (z : State) → MayChange x → HeldUp x → StandFor b (ends_seen x) t z → Sound b z → Goes b x (reset_shown number es shown x).course.pair t z
unfolding going_on
shown_goes b x number es shown t z may held stand sound =
    let higher = behind (risen x number) (reset_near es shown) in
    let at_higher : Goes b x higher.course.pair t z = elim (cases_Bool (in_contact x)) [
      | inl there ↦ (
          let over = risen_over x number there in
          let y = (risen x number).pair in
          stops x refl (nothing_acted b x t z stand) (over_then x y (reset_near es shown y).course.pair over (reset_rests y es shown over.out)))
      | inr none ↦ out_goes b x number (reset_near es shown) t z may.two_bearers held none stand (λ y can there. reset_goes b y es shown t z (may_fall_too y can) there sound)
    ] in
    number_none (λ (m : Heard). Goes b x m.course.pair t z) x number (reset_near es shown x) higher (passes_still b x t z may.up stand) (reset_goes b x es shown t z (may_fall_too x may) stand sound) at_higher

activate_goes : (b : Bearer) (x : PairEnds) (number : ℕ) (p : Fields) (es er by : ℕ) (shown : BroadcastState) (t : Traffic) (z : State) → MayChange x → HeldUp x → is_traffic p.header ≡ false → StandFor b (ends_seen x) t z → Sound b z
    → Goes b x (by_number x number (met_near es er p by shown x) (activates (in_contact x) (risen x number) (behind (risen x number) (met_near es er p by shown)))).course.pair t z
activate_goes b x number p es er by shown t z may held other stand sound =
    let hear : PairEnds → Heard = met_near es er p by shown in
    let higher = behind (risen x number) hear in
    let at_higher : Goes b x (activates (in_contact x) (risen x number) higher).course.pair t z = elim (cases_Bool (in_contact x)) [
      | inl there ↦ subst (λ k. Goes b x (activates k (risen x number) higher).course.pair t z) (sym there) (stops x refl (nothing_acted b x t z stand) (risen_over x number there))
      | inr none ↦ subst (λ k. Goes b x (activates k (risen x number) higher).course.pair t z) (sym none)
          (out_goes b x number hear t z may.two_bearers held none stand (λ y can there. other_goes b y y.near p es er by shown t z refl can other there sound))
    ] in
    number_none (λ (m : Heard). Goes b x m.course.pair t z) x number (hear x) (activates (in_contact x) (risen x number) higher) (passes_still b x t z may.up stand) (other_goes b x x.near p es er by shown t z refl may other stand sound) at_higher

-- ---- all packets but those of a session

pub notices_go : (b : Bearer) (x : PairEnds) (h : Header) (p : Fields) (es er by : ℕ) (shown : BroadcastState) (t : Traffic) (z : State) → p.header ≡ h → is_traffic h ≡ false → MayChange x → HeldUp x → StandFor b (ends_seen x) t z → Sound b z
    → Goes b x (hears h es er p by shown x).course.pair t z
notices_go b x (header.Reset said) p es er by shown t z is other may held stand sound = shown_goes b x said.contact es shown t z may held stand sound
notices_go b x (header.Activate said) p es er by shown t z is other may held stand sound = activate_goes b x said.contact p es er by shown t z may held (ap is_traffic is ∙ other) stand sound
notices_go b x (header.Discovery said) p es er by shown t z is other may held stand sound = other_goes b x x.near p es er by shown t z refl may (ap is_traffic is ∙ other) stand sound
notices_go b x (header.State said) p es er by shown t z is other may held stand sound = absurd (let wrong : ⊥ = cc in wrong)
notices_go b x (header.Payload said) p es er by shown t z is other may held stand sound = absurd (let wrong : ⊥ = cc in wrong)
notices_go b x (header.Bundler said) p es er by shown t z is other may held stand sound = absurd (let wrong : ⊥ = cc in wrong)
notices_go b x (header.Changeover said) p es er by shown t z is other may held stand sound = absurd (let wrong : ⊥ = cc in wrong)
notices_go b x (header.NameDistributor said) p es er by shown t z is other may held stand sound = absurd (let wrong : ⊥ = cc in wrong)
notices_go b x (header.Fragmenter said) p es er by shown t z is other may held stand sound = absurd (let wrong : ⊥ = cc in wrong)
