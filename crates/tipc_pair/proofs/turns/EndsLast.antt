-- The end of a contact is the last that an event tells of a pair.
use Rattle.std.specs.Prelude.{◌≢◌, ◌==◌, ◌&&◌, ◌||◌, fold, nat_lt, not, if◌then◌else◌}
use Rattle.std.specs.List.{flat_map, list_any}
use Rattle.std.proofs.Common.{◌≡◌, ◌≤◌, ◌++◌, ◌∙◌, ℕ, Bool, true, false, List, [], ◌∷◌, Option, Some, None, append-nil, refl, sym, ap, subst, arith}
use Rattle.std.proofs.lemmas.Bool.{and_parts}
use Rattle.tipc_types.specs.declared.link_words.BroadcastState.{BroadcastState}
use Rattle.tipc_types.specs.declared.link_words.Cause.{Cause}
use Rattle.tipc_types.specs.declared.link_words.Cause.TheVariants as cause
use Rattle.tipc_types.specs.declared.link_words.Why.TheVariants as why
use Rattle.tipc_types.specs.declared.packet_lists.Taken.{Taken}
use Rattle.tipc_header.specs.declared.packet.ChangeoverType.{ChangeoverType}
use Rattle.tipc_header.specs.declared.packet.ChangeoverType.TheVariants as kind
use Rattle.tipc_header.specs.declared.packet.Header.{Header}
use Rattle.tipc_header.specs.declared.packet.Header.TheVariants as header
use Rattle.tipc_header.specs.declared.packet.Reset.{Reset}
use Rattle.tipc_header.specs.Spelling.{Fields}
use Rattle.tipc_recv_window.specs.declared.outcomes.LinkOutcome.{LinkOutcome}
use Rattle.tipc_types.specs.LinkStates.{is_up}
use Rattle.tipc_link_fsm.specs.Table.{Fsm}
use Rattle.tipc_link.specs.Links.{LinkEnd, is_down}
use Rattle.tipc_pair.specs.declared.changes.PairOutcome.{PairOutcome}
use Rattle.tipc_pair.specs.declared.transitions.Transition.{Transition}
use Rattle.tipc_pair.specs.declared.transitions.Transition.TheVariants.{ContactDown, ContactUp, LinkDown, LinkUp}
use Rattle.tipc_pair.specs.Changeovers.{ended_with, risen}
use Rattle.tipc_pair.specs.Courses.{Course, going_on}
use Rattle.tipc_pair.specs.Facing.{PairEnds, contact_between, ends_of, facing, in_contact, is_up_at, turned}
use Rattle.tipc_pair.specs.PairArrivals.{Arrives, Heard, OpensInto, Unwraps, activate_higher, activates, as_it_is, behind, by_number, deferred, hears as heard_as, ignored, met_near, none_taken, opens, passing, reset_change, reset_given, reset_near, taken_down, tunnel}
use Rattle.tipc_pair.specs.PairCalls.{at_bearer, cut_near, tick_near, ticked}
use Rattle.tipc_pair.specs.PairTurns.{Happened, Opening, Outset}
use Rattle.tipc_pair.specs.PairTurns.Opening.{cuts, hears, makes, mends, rests, ticks}
use Rattle.tipc_pair.proofs.Facings.{facing_one}
use Rattle.tipc_pair.proofs.Followings.{far_down, near_down}
use Rattle.tipc_pair.specs.Causes.{MayFall, MayRise, TellsFall}
use Rattle.tipc_pair.specs.Causes.MayFall.{falls, stays}
use Rattle.tipc_pair.specs.Causes.MayRise.{begins, rises, rests as rises_none}
use Rattle.tipc_pair.specs.Causes.TellsFall.{ends, goes_on}
use Rattle.tipc_pair.proofs.turns.Causes.{cuts_tell, meets_tell, numbers_are_noted, releases_tell, resets_tell, ticks_tell, tunnels_tell}
use Rattle.tipc_pair.specs.LinkReadings.{AreAbreast}
use Rattle.tipc_pair.proofs.turns.ArrivalMoves.{hears_runs}
use Rattle.tipc_pair.proofs.turns.Moves.{IsApt, abreast_apt, contact_by}
use Rattle.tipc_pair.proofs.acts.Walks.{tested}
use Rattle.tipc_pair.proofs.turns.TurnMoves.{made_changes}
use Rattle.tipc_pair.proofs.turns.HeardReasons.{given_over, inner_none, last_change, over_by, plain_by, risen_changes, risen_over}
use Rattle.tipc_link_fsm.proofs.Moves.{not_true}
use Rattle.tipc_pair.proofs.turns.Reasons.{facing_apt}
use Rattle.tipc_pair.proofs.turns.TurnReasons.{between, is_between}

-- ---- what stands last

-- one of these that passes the test is the last of them
abbrev pub IsLastOf : {A : Type 0} → (A → Bool) → List A → Type 0
IsLastOf p [] = Unit {0}
IsLastOf p (x ∷ xs) = (p x ≡ true → xs ≡ []) × IsLastOf p xs

-- whether a change is the end of the contact
abbrev pub is_over : Transition → Bool
is_over (ContactDown numbers states shown) = true
is_over other = false

-- the contact ends last of all, where it ends
abbrev pub EndsLast : List Transition → Type 0
EndsLast cs = IsLastOf is_over cs

-- nothing stands behind a list in which it ends
last_then : (xs ys : List Transition) → EndsLast xs → EndsLast ys → (list_any is_over xs ≡ true → ys ≡ []) → EndsLast (xs ++ ys)
last_then [] ys first later none = later
last_then (t ∷ ts) ys first later none = (
  λ over. λ i. first.0 over i ++ none (ap (λ b. b || list_any is_over ts) over) i,
  last_then ts ys first.1 later (λ more. none (either_way (is_over t) (list_any is_over ts) more)),
)
  where
    either_way : (a b : Bool) → b ≡ true → (a || b) ≡ true
    either_way true b is = refl
    either_way false b is = is

-- where it ends, it is over then
over_then : (z : Option (ℕ × ℕ)) (cs : List Transition) → EndsLast cs → list_any is_over cs ≡ true → fold contact_by z cs ≡ None
over_then z [] last over = absurd cc
over_then z (LinkUp bearer own theirs ∷ ts) last over = over_then z ts last.1 over
over_then z (LinkDown bearer because shown ∷ ts) last over = over_then z ts last.1 over
over_then z (ContactUp numbers ∷ ts) last over = over_then (Some numbers) ts last.1 over
over_then z (ContactDown numbers states shown ∷ ts) last over = ap (fold contact_by None) (last.0 refl)

-- ---- what one step tells

-- a link that goes down is told of before the contact's end
tells_last : (x : PairEnds) (because : Cause) (shown : ℕ) (cs : List Transition) → TellsFall x because shown cs → EndsLast cs
tells_last x because shown _ (goes_on far) = ((λ over. absurd cc), tt)
tells_last x because shown _ (ends states far) = ((λ over. absurd cc), ((λ over. refl), tt))

-- and so where one may go down
falls_last : (x : PairEnds) (because : Cause) (shown : ℕ) (Like : Fsm → Type 0) (cs : List Transition) → MayFall x because shown Like cs → EndsLast cs
falls_last x because shown Like _ stays = tt
falls_last x because shown Like _ (falls e cs is up like tells) = tells_last x because shown cs tells

-- a link that isn't up doesn't go down
falls_none : (x : PairEnds) (because : Cause) (shown : ℕ) (Like : Fsm → Type 0) (cs : List Transition) → MayFall x because shown Like cs → is_up_at x.near ≡ false → cs ≡ []
falls_none x because shown Like _ stays down = refl
falls_none x because shown Like _ (falls e cs is up like tells) down = absurd (let wrong : true ≡ false = sym up ∙ ap is_up_at (sym is) ∙ down in cc)

-- where the contact ends with a link, the other one isn't up
falls_far : (x : PairEnds) (because : Cause) (shown : ℕ) (Like : Fsm → Type 0) (cs : List Transition) → MayFall x because shown Like cs → list_any is_over cs ≡ true → is_up_at x.far ≡ false
falls_far x because shown Like _ stays over = absurd cc
falls_far x because shown Like _ (falls e cs is up like tells) over = by cs tells over
  where
    by : (ts : List Transition) → TellsFall x because shown ts → list_any is_over ts ≡ true → is_up_at x.far ≡ false
    by _ (goes_on far) over = absurd cc
    by _ (ends states far) over = far

-- a link that goes up ends no contact
rises_last : (x : PairEnds) (cs : List Transition) → MayRise x cs → EndsLast cs
rises_last x _ rises_none = tt
rises_last x _ (rises own peer far) = ((λ over. absurd cc), tt)
rises_last x _ (begins own peer far) = ((λ over. absurd cc), ((λ over. absurd cc), tt))

-- a higher number of the peer: links go down, and then the contact ends
downs_last : (es : List LinkEnd) (t : Transition) → EndsLast (flat_map ended_with es ++ t ∷ [])
downs_last [] t = ((λ over. refl), tt)
downs_last (e ∷ es) t = elim (is_up e.fsm.state) as (λ b. EndsLast (((if b then LinkDown e.bearer cause.ContactEnded 0 ∷ [] else []) ++ flat_map ended_with es) ++ t ∷ [])) [
  | true ↦ ((λ over. absurd cc), downs_last es t)
  | false ↦ downs_last es t
]

-- by the number it ends last, where there is a contact
risen_last : (x : PairEnds) (number : ℕ) → EndsLast (risen x number).changes
risen_last x number = by (in_contact x) refl
  where
    by : (b : Bool) → in_contact x ≡ b → EndsLast (risen x number).changes
    by true there = subst EndsLast (sym (risen_changes x number there)) (downs_last (ends_of (record x { seen = number })) (last_change x number))
    by false none = subst EndsLast (sym (numbers_are_noted x number none)) tt

-- ---- a packet that is heard

-- a RESET tells no more than the first time that it is given to the end
reset_told : (x : PairEnds) (es : ℕ) (shown : BroadcastState) → (reset_near es shown x).course.changes ≡ (reset_given es (is_up_at x.far) shown x x.near).course.changes
unfolding going_on
reset_told x es shown =
    let held = is_up_at x.far in
    let first = reset_given es held shown x x.near in
    tested (λ (h : Heard). h.course.changes ≡ first.course.changes) (is_down (reset_change es held x.near) && not held) (behind first.course (λ y. reset_given es false shown y y.near)) first
    (λ last.
    let both = and_parts (is_down (reset_change es held x.near)) (not held) last in
    ap (λ cs. first.course.changes ++ cs) (given_none first.course.pair (given_over x x.near es held shown both.0 (not_true held both.1))) ∙ append-nil first.course.changes)
    (λ _. refl)
  where
    given_none : (y : PairEnds) → in_contact y ≡ false → (reset_given es false shown y y.near).course.changes ≡ []
    given_none y none =
        subst (λ held. (reset_given es held shown y y.near).course.changes ≡ []) (far_down y none)
        (falls_none y cause.PeerReset es (λ s. (s.highest ≤ es) × (s.peer ≢ Some es)) _ (resets_tell y es shown) (near_down y none))

-- so it tells of the contact's end last
reset_last : (x : PairEnds) (es : ℕ) (shown : BroadcastState) → EndsLast (reset_near es shown x).course.changes
reset_last x es shown = subst EndsLast (sym (reset_told x es shown)) (falls_last x cause.PeerReset es (λ s. (s.highest ≤ es) × (s.peer ≢ Some es)) _ (resets_tell x es shown))

-- without contact it tells nothing
reset_none : (x : PairEnds) (es : ℕ) (shown : BroadcastState) → in_contact x ≡ false → (reset_near es shown x).course.changes ≡ []
reset_none x es shown none = reset_told x es shown ∙ falls_none x cause.PeerReset es (λ s. (s.highest ≤ es) × (s.peer ≢ Some es)) _ (resets_tell x es shown) (near_down x none)

-- what is heard tells of a contact's end last
abbrev HearsLast : Heard → Type 0
HearsLast h = EndsLast h.course.changes

-- a packet that is no RESET
met_last : (x : PairEnds) (es er : ℕ) (p : Fields) (by : ℕ) (shown : BroadcastState) → ((said : Reset) → p.header ≡ header.Reset said → ⊥) → HearsLast (met_near es er p by shown x)
met_last x es er p by shown plain = rises_last x _ (meets_tell x es er p by shown plain)

-- a packet that shows a contact number
numbered_last : (x : PairEnds) (number : ℕ) (same higher : Heard) → HearsLast same → HearsLast higher → HearsLast (by_number x number same higher)
numbered_last x number same higher one two =
    tested HearsLast (nat_lt number x.seen) (passing x why.Contact) (if number == x.seen then same else higher) (λ _. tt) (λ _. tested HearsLast (number == x.seen) same higher (λ _. one) (λ _. two))

-- an ACTIVATE that shows a higher one
activated_last : (x : PairEnds) (number es er : ℕ) (p : Fields) (by : ℕ) (shown : BroadcastState) → ((said : Reset) → p.header ≡ header.Reset said → ⊥) → HearsLast (activate_higher number (met_near es er p by shown) x)
unfolding going_on
activated_last x number es er p by shown plain = case (in_contact x) refl
  where
    case : (b : Bool) → in_contact x ≡ b → HearsLast (activates b (risen x number) (behind (risen x number) (met_near es er p by shown)))
    case true there = risen_last x number
    case false none =
        let y = (risen x number).pair in
        subst (λ cs. EndsLast (cs ++ (met_near es er p by shown y).course.changes)) (sym (numbers_are_noted x number none)) (met_last y es er p by shown plain)

-- a packet of any kind
hears_last : (h : Header) (x : PairEnds) (es er : ℕ) (p : Fields) (by : ℕ) (shown : BroadcastState) → p.header ≡ h → IsApt x → HearsLast (heard_as h es er p by shown x)
unfolding going_on
hears_last (header.Reset said) x es er p by shown is apt =
    let c = risen x said.contact in
    numbered_last x said.contact (reset_near es shown x) (behind c (reset_near es shown)) (reset_last x es shown)
    (subst (λ cs. EndsLast (c.changes ++ cs)) (sym (reset_none c.pair es shown (risen_over x said.contact apt))) (subst EndsLast (sym (append-nil c.changes)) (risen_last x said.contact)))
hears_last (header.Activate said) x es er p by shown is apt =
    let plain = plain_by p (header.Activate said) is refl in
    numbered_last x said.contact (met_near es er p by shown x) (activate_higher said.contact (met_near es er p by shown) x) (met_last x es er p by shown plain) (activated_last x said.contact es er p by shown plain)
hears_last (header.Discovery said) x es er p by shown is apt = met_last x es er p by shown (plain_by p (header.Discovery said) is refl)
hears_last (header.State said) x es er p by shown is apt = met_last x es er p by shown (plain_by p (header.State said) is refl)
hears_last (header.Payload said) x es er p by shown is apt = met_last x es er p by shown (plain_by p (header.Payload said) is refl)
hears_last (header.Bundler said) x es er p by shown is apt = met_last x es er p by shown (plain_by p (header.Bundler said) is refl)
hears_last (header.Changeover said) x es er p by shown is apt = met_last x es er p by shown (plain_by p (header.Changeover said) is refl)
hears_last (header.NameDistributor said) x es er p by shown is apt = met_last x es er p by shown (plain_by p (header.NameDistributor said) is refl)
hears_last (header.Fragmenter said) x es er p by shown is apt = met_last x es er p by shown (plain_by p (header.Fragmenter said) is refl)

-- ---- a tunnel packet that was taken

-- it tells of a contact's end last, and of nothing without contact
record OpensLast (y : PairEnds) (cs : List Transition) : Type 0 where
  last : EndsLast cs
  none : in_contact y ≡ false → cs ≡ []

-- nothing was opened
nothing_opened : (y : PairEnds) → OpensLast y []
nothing_opened y = record { last = tt; none = λ _. refl }

-- the far link may go down by it
down_last : (y : PairEnds) (k : ChangeoverType) (epoch : ℕ) → OpensLast y (taken_down k epoch y).changes
down_last y kind.Duplicate epoch = nothing_opened y
down_last y kind.Original epoch = record {
  last = falls_last (turned y) cause.PeerTunnel epoch (λ s. s.peer ≡ Some epoch) _ (tunnels_tell y epoch);
  none = λ over. falls_none (turned y) cause.PeerTunnel epoch (λ s. s.peer ≡ Some epoch) _ (tunnels_tell y epoch) (far_down y over);
}

-- among the packets that were taken
unwraps_last : (y : PairEnds) (taken carried : List Taken) (c : Course) → Unwraps y taken c carried → OpensLast y c.changes
unfolding going_on
unwraps_last y _ _ _ none_taken = nothing_opened y
unwraps_last y _ _ _ (as_it_is u others apart) = nothing_opened y
unwraps_last y _ _ _ (tunnel u others t speaks) =
    let c = taken_down t.kind t.old.epoch y in
    subst (OpensLast y) (sym (ap (λ cs. c.changes ++ cs) (inner_none t u.by c.pair c.pair.far) ∙ append-nil c.changes)) (down_last y t.kind t.old.epoch)

-- by any outcome
opens_last : (y : PairEnds) (outcome : LinkOutcome) (c : Course) (given : PairOutcome) → OpensInto y outcome c given → OpensLast y c.changes
opens_last y _ _ _ (opens {taken = taken} {carried = carried} {c = c} unwraps brings) = unwraps_last y taken carried c unwraps
opens_last y _ _ _ deferred = nothing_opened y
opens_last y _ _ _ ignored = nothing_opened y

-- what an arrival tells
arrives_last : (x : PairEnds) (es er : ℕ) (p : Fields) (by : ℕ) (shown : BroadcastState) (c : Course) (given : PairOutcome) → IsApt x → Arrives x es er p by shown c given → EndsLast c.changes
unfolding going_on
arrives_last x es er p by shown c given apt a =
    let first = (heard_as p.header es er p by shown x).course in
    let last = hears_last p.header x es er p by shown refl apt in
    let opened = opens_last first.pair _ a.opened given a.opens in
    let both = last_then first.changes a.opened.changes last opened.last
    (λ over. opened.none (over_by x first (hears_runs p.header x es er p by shown apt) (over_then (contact_between x) first.changes last over))) in
    let told : c.changes ≡ first.changes ++ a.opened.changes =
    ap (λ (k : Course). k.changes) a.course ∙ ap (λ cs. (first.changes ++ a.opened.changes) ++ cs) (releases_tell a.opened.pair) ∙ append-nil (first.changes ++ a.opened.changes) in
    subst EndsLast (sym told) both

-- ---- a tick

-- a contact that ends with bearer 0's link leaves bearer 1's nothing to tell
ticked_last : (x : PairEnds) (shown : BroadcastState) → x.bearer ≡ 0 → EndsLast (ticked shown x).changes
unfolding going_on
ticked_last x shown first =
    let z = facing 0 x in
    let y = between shown x in
    let one = at_bearer 0 x (tick_near shown) in
    let later = at_bearer 1 y (tick_near shown) in
    let fall = ticks_tell z shown in
    let fall_later = ticks_tell (facing 1 y) shown in
    let both = last_then one.changes later.changes (falls_last z cause.Silent 0 (λ s. s.silent ≡ 4) one.changes fall) (falls_last (facing 1 y) cause.Silent 0 (λ s. s.silent ≡ 4) later.changes fall_later)
    (λ over. falls_none (facing 1 y) cause.Silent 0 (λ s. s.silent ≡ 4) later.changes fall_later (other_down (falls_far z cause.Silent 0 (λ s. s.silent ≡ 4) one.changes fall over))) in
    let told : (ticked shown x).changes ≡ one.changes ++ later.changes = ap (λ cs. (one.changes ++ later.changes) ++ cs) (releases_tell later.pair) ∙ append-nil (one.changes ++ later.changes) in
    subst EndsLast (sym told) both
  where
    other_down : is_up_at (facing 0 x).far ≡ false → is_up_at (facing 1 (between shown x)).near ≡ false
    other_down far = by (facing 1 (between shown x)).near refl
      where
        was : is_up_at (facing 1 x).near ≡ false
        was = ap is_up_at (facing_one x (omega (arith, first))) ∙ far

        by_state : (e : LinkEnd) → (facing 1 (between shown x)).near ≡ Some e → (b : Bool) → is_up e.fsm.state ≡ b → b ≡ false
        by_state e is false low = refl
        by_state e is true up =
            let k = (is_between shown x first).other_end e is up in
            absurd (let wrong : true ≡ false = sym up ∙ ap (λ (f : Fsm). is_up f.state) (sym k.2) ∙ ap is_up_at (sym k.1) ∙ was in cc)

        by : (o : Option LinkEnd) → (facing 1 (between shown x)).near ≡ o → is_up_at (facing 1 (between shown x)).near ≡ false
        by None is = ap is_up_at is
        by (Some e) is = ap is_up_at is ∙ by_state e is (is_up e.fsm.state) refl

-- ---- what happens first

-- in any turn
pub first_last : (x : PairEnds) (opening : Opening) (o : Outset) → AreAbreast x → Happened x opening o → EndsLast o.course.changes
first_last x rests o abreast is = subst (λ (u : Outset). EndsLast u.course.changes) (sym is) tt
first_last x (makes bearer is_mended) o abreast is = subst (λ (u : Outset). EndsLast u.course.changes) (sym is) (subst EndsLast (sym (made_changes bearer is_mended x)) tt)
first_last x (mends bearer) o abreast is = subst (λ (u : Outset). EndsLast u.course.changes) (sym is) tt
first_last x (cuts bearer) o abreast is = subst (λ (u : Outset). EndsLast u.course.changes) (sym is) (falls_last (facing bearer x) cause.Cut 0 (λ s. Unit {0}) (cut_near (facing bearer x)).changes (cuts_tell (facing bearer x)))
first_last x (ticks shown) o abreast is = subst (λ (u : Outset). EndsLast u.course.changes) (sym is) (ticked_last x shown abreast.first)
first_last x (hears bearer es er p by shown) o abreast is =
    subst (λ (u : Outset). EndsLast u.course.changes) (sym is.3) (arrives_last (facing bearer x) es er p by shown is.0 is.1 (facing_apt bearer x (abreast_apt x abreast)) is.2)
