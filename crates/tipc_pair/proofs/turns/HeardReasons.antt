-- Why an arrival tells what it tells of the pair at whose near link it arrives.
use Rattle.std.specs.Prelude.{◌≢◌, IfSome}
use Rattle.std.specs.List.{All, flat_map}
use Rattle.std.proofs.Common.{◌≡◌, ◌≤◌, ◌<◌, ◌==◌, ◌&&◌, ◌||◌, ◌+◌, ◌∙◌, ℕ, Bool, true, false, List, [], ◌∷◌, ◌++◌, Option, Some, None, if◌then◌else◌, fold, is_some, length, nat_lt, not, slice_get, inl, inr, refl, sym, ap, subst, arith}
use Rattle.std.proofs.lemmas.Bool.{and_parts}
use Rattle.std.proofs.lemmas.Bool.Decides.{nat_tests}
use Rattle.std.proofs.lemmas.Grind.{flat_map-append}
use Rattle.std.proofs.lemmas.List.Elements.{All-append, All-cons, All-nil}
use Rattle.std.proofs.lemmas.List.Sums.{fold-append}
use Rattle.tipc_types.specs.LinkStates.{is_up}
use Rattle.tipc_types.specs.declared.link_words.BroadcastState.{BroadcastState}
use Rattle.tipc_types.specs.declared.link_words.Cause.TheVariants as cause
use Rattle.tipc_types.specs.declared.link_words.LinkState.{LinkState}
use Rattle.tipc_types.specs.declared.link_words.Why.TheVariants as why
use Rattle.tipc_types.specs.declared.packet_lists.Taken.{Taken}
use Rattle.tipc_header.specs.declared.packet.Changeover.{Changeover}
use Rattle.tipc_header.specs.declared.packet.ChangeoverType.{ChangeoverType}
use Rattle.tipc_header.specs.declared.packet.ChangeoverType.TheVariants as kind
use Rattle.tipc_header.specs.declared.packet.Header.{Header}
use Rattle.tipc_header.specs.declared.packet.Header.TheVariants as header
use Rattle.tipc_header.specs.declared.packet.Reset.{Reset}
use Rattle.tipc_header.specs.Grammar.{Fits}
use Rattle.tipc_header.specs.Reading.{fields_at}
use Rattle.tipc_header.specs.Spelling.{Fields, spelling}
use Rattle.tipc_header.proofs.Again.{again}
use Rattle.tipc_tunnel.specs.Tunnels.{Tunnelled}
use Rattle.tipc_recv_window.specs.declared.outcomes.LinkOutcome.{LinkOutcome}
use Rattle.tipc_link_fsm.specs.declared.changes.Change.{Change}
use Rattle.tipc_link_fsm.specs.declared.changes.Change.TheVariants.{Down}
use Rattle.tipc_link_fsm.specs.Table.{is_reset_reset, on_reset}
use Rattle.tipc_link.specs.Links.{LinkEnd, after, is_down, known}
use Rattle.tipc_link.specs.Sessions.{as_waiting}
use Rattle.tipc_link.proofs.Standing.{waiting_fits}
use Rattle.tipc_pair.specs.declared.changes.PairOutcome.{PairOutcome}
use Rattle.tipc_pair.specs.declared.transitions.Transition.{Transition}
use Rattle.tipc_pair.specs.declared.transitions.Transition.TheVariants.{ContactDown, ContactUp, LinkDown, LinkUp}
use Rattle.tipc_pair.specs.Changeovers.{contact_ends, ended_with, fail_over, following, forgotten, parted, released, risen}
use Rattle.tipc_pair.specs.Courses.{Course, going_on, rests}
use Rattle.tipc_pair.specs.Facing.{PairEnds, contact_between, ends_of, facing, in_contact, is_up_at, made_of, other, states_of, turned, with_near}
use Rattle.tipc_pair.specs.PairArrivals.{Arrives, Heard, OpensInto, SpeaksOfFar, Unwraps, activate_higher, activates, as_it_is, behind, by_number, deferred, hears as heard_as, ignored, inner_at, met_near, none_taken, opens, passing, reset_change, reset_given, reset_near, taken_down, tunnel}
use Rattle.tipc_pair.specs.PairTurns.Opening.{hears}
use Rattle.tipc_pair.proofs.Facings.{facing_far, facing_near}
use Rattle.tipc_pair.proofs.Followings.{far_down, near_down}
use Rattle.tipc_pair.specs.Causes.{MayRise}
use Rattle.tipc_pair.specs.Causes.MayRise.{begins, rises, rests as rises_none}
use Rattle.tipc_pair.proofs.turns.Causes.{meets_tell, numbers_are_noted, releases_tell, resets_tell, tunnels_tell}
use Rattle.tipc_pair.specs.Contacts.{is_reset, shown_contact}
use Rattle.tipc_pair.proofs.turns.ArrivalMoves.{hears_runs}
use Rattle.tipc_pair.proofs.turns.CourseMoves.{apart, near_of, risen_runs}
use Rattle.tipc_pair.proofs.turns.Moves.{contact_is_some, IsApt, IsEndOn, Runs, by_far, by_near, by_neither, contact_by, contact_gone, epochs_at, epochs_by, up_epochs_are}
use Rattle.tipc_pair.proofs.acts.Walks.{tested}
use Rattle.tipc_pair.proofs.turns.FirstTaken.{FirstIs, TakesFirst, hears_first}
use Rattle.tipc_pair.proofs.turns.Reasons.{HoldsEnd, IsReason, IsTook, NamesSession, facing_end, falls_all, goes_down, rises_all}
use Rattle.tipc_link.proofs.Directions.{slice_get-append as get_longer}
-- ---- what may be told
use Rattle.tipc_link_fsm.proofs.Moves.{not_true}
use Rattle.tipc_pair.proofs.HeldLaws.{parted_down}

-- what may be told of a pair where a packet with this header arrives on its near link, under this epoch of the peer
record MayTell (P : Transition → Type 0) (x : PairEnds) (es : ℕ) (h : Header) : Type 0 where
  up : (own peer : ℕ) → P (LinkUp x.bearer own peer)
  fresh : (numbers : ℕ × ℕ) → P (ContactUp numbers)
  over : (numbers : ℕ × ℕ) (states : Option LinkState × Option LinkState) → P (ContactDown numbers states 0)
  reset : (e : LinkEnd) → x.near ≡ Some e → is_up e.fsm.state ≡ true → (e.fsm.highest ≤ es) × (e.fsm.peer ≢ Some es) → is_reset h ≡ true → P (LinkDown x.bearer cause.PeerReset es)
  ended : (number : ℕ) → shown_contact h ≡ Some number → x.seen < number → (b : ℕ) (e : LinkEnd) → b ≤ 1 → (facing b x).near ≡ Some e → is_up e.fsm.state ≡ true → P (LinkDown b cause.ContactEnded 0)
  replaced : (number : ℕ) → shown_contact h ≡ Some number → x.seen < number → (numbers : ℕ × ℕ) (states : Option LinkState × Option LinkState) → P (ContactDown numbers states number)

-- ---- a higher contact number

facing_seen : (b : ℕ) (x : PairEnds) (number : ℕ) → (facing b (record x { seen = number })).near ≡ (facing b x).near
unfolding facing
facing_seen b x number = elim (x.bearer == b) as (λ t. (if t then record x { seen = number } else turned (record x { seen = number })).near ≡ (if t then x else turned x).near) [ true ↦ refl | false ↦ refl ]

-- a link that goes down with its contact was up
one_ended : (P : Transition → Type 0) (b : ℕ) (o : Option LinkEnd) → IfSome o (IsEndOn b) → ((e : LinkEnd) → o ≡ Some e → is_up e.fsm.state ≡ true → P (LinkDown b cause.ContactEnded 0)) → All P (flat_map ended_with (made_of o))
one_ended P b None on link = All-nil P
one_ended P b (Some e) on link = tested (λ ts. All P (ts ++ [])) (is_up e.fsm.state) (LinkDown e.bearer cause.ContactEnded 0 ∷ []) []
    (λ up. All-cons P (LinkDown e.bearer cause.ContactEnded 0) [] (subst (λ n. P (LinkDown n cause.ContactEnded 0)) (sym on.on) (link e refl up)) (All-nil P)) (λ _. All-nil P)

ended_all : (P : Transition → Type 0) (x : PairEnds) (number : ℕ) → IsApt x → ((b : ℕ) (e : LinkEnd) → b ≤ 1 → (facing b x).near ≡ Some e → is_up e.fsm.state ≡ true → P (LinkDown b cause.ContactEnded 0))
    → All P (flat_map ended_with (ends_of (record x { seen = number })))
ended_all P x number h link =
    let y = record x { seen = number } in
    let apt : IsApt y = record { two = h.two; near = h.near; far = h.far } in
    let none : 0 ≤ 1 = omega arith in
    let one : 1 ≤ 1 = omega arith in
    subst (All P) (sym (flat_map-append ended_with (made_of (facing 0 y).near) (made_of (facing 1 y).near)))
    (All-append P (flat_map ended_with (made_of (facing 0 y).near)) (flat_map ended_with (made_of (facing 1 y).near))
    (one_ended P 0 (facing 0 y).near (facing_end 0 y none apt) (λ e is up. link 0 e none (sym (facing_seen 0 x number) ∙ is) up))
    (one_ended P 1 (facing 1 y).near (facing_end 1 y one apt) (λ e is up. link 1 e one (sym (facing_seen 1 x number) ∙ is) up)))

-- the contact ends by the number
risen_is : (x : PairEnds) (number : ℕ) → in_contact x ≡ true → risen x number ≡ contact_ends (record x { seen = number }) (x.contact, x.seen) number
risen_is x number there = ap (λ b. if b then contact_ends (record x { seen = number }) (x.contact, x.seen) number else rests (forgotten x number)) there

abbrev pub last_change : PairEnds → ℕ → Transition
last_change x number = ContactDown (x.contact, x.seen) (states_of (parted (record x { seen = number }))) number

pub risen_changes : (x : PairEnds) (number : ℕ) → in_contact x ≡ true → (risen x number).changes ≡ flat_map ended_with (ends_of (record x { seen = number })) ++ last_change x number ∷ []
risen_changes x number there = ap (λ (c : Course). c.changes) (risen_is x number there)

risen_there : (P : Transition → Type 0) (x : PairEnds) (number es : ℕ) (h : Header) → MayTell P x es h → IsApt x → shown_contact h ≡ Some number → x.seen < number → in_contact x ≡ true → All P (risen x number).changes
risen_there P x number es h m apt shows higher there =
    subst (All P) (sym (risen_changes x number there))
    (All-append P (flat_map ended_with (ends_of (record x { seen = number }))) (last_change x number ∷ []) (ended_all P x number apt (m.ended number shows higher))
    (All-cons P (last_change x number) [] (m.replaced number shows higher (x.contact, x.seen) (states_of (parted (record x { seen = number })))) (All-nil P)))

risen_all : (P : Transition → Type 0) (x : PairEnds) (number es : ℕ) (h : Header) → MayTell P x es h → IsApt x → shown_contact h ≡ Some number → x.seen < number → All P (risen x number).changes
risen_all P x number es h m apt shows higher = by (in_contact x) refl
  where
    by : (b : Bool) → in_contact x ≡ b → All P (risen x number).changes
    by true there = risen_there P x number es h m apt shows higher there
    by false none = subst (All P) (sym (numbers_are_noted x number none)) (All-nil P)

-- and none is there then
pub over_by : (x : PairEnds) (c : Course) → Runs x c → fold contact_by (contact_between x) c.changes ≡ None → in_contact c.pair ≡ false
over_by x c runs none = sym (contact_is_some c.pair) ∙ ap is_some (runs.contact ∙ none)

pub risen_over : (x : PairEnds) (number : ℕ) → IsApt x → in_contact (risen x number).pair ≡ false
risen_over x number apt = over_by x (risen x number) (risen_runs x number apt) (by (in_contact x) refl)
  where
    by : (b : Bool) → in_contact x ≡ b → fold contact_by (contact_between x) (risen x number).changes ≡ None
    by true there =
        ap (fold contact_by (contact_between x)) (risen_changes x number there) ∙ fold-append contact_by (contact_between x) (flat_map ended_with (ends_of (record x { seen = number }))) (last_change x number ∷ [])
    by false none = ap (fold contact_by (contact_between x)) (numbers_are_noted x number none) ∙ contact_gone x none

-- ---- a RESET

following_over : (y : PairEnds) (c : Change) (epoch : ℕ) → is_down c ≡ true → is_up_at y.far ≡ false → in_contact (following y c epoch).pair ≡ false
following_over y (Down because) epoch down far =
    ap (λ b. in_contact (if b then fail_over y else contact_ends y (y.contact, y.seen) 0).pair) far ∙ by_neither (parted y) (parted_down (y.contact + 1) y.seen y.near) (parted_down (y.contact + 1) y.seen y.far)
following_over y other epoch down far = absurd cc

-- where it took the last link down the contact is over
pub given_over : (x : PairEnds) (near : Option LinkEnd) (es : ℕ) (held : Bool) (shown : BroadcastState) → is_down (reset_change es held near) ≡ true → is_up_at x.far ≡ false → in_contact (reset_given es held shown x near).course.pair ≡ false
unfolding going_on
given_over x None es held shown down far = absurd cc
given_over x (Some e) es held shown down far = following_over (with_near x (after e (on_reset e.fsm es held))) (on_reset e.fsm es held).change es down far

-- without contact it takes no link down
gone_twice : (y : PairEnds) (e : LinkEnd) → in_contact y ≡ false → y.near ≡ Some e → is_up e.fsm.state ≡ true → ⊥
gone_twice y e none is up = let wrong : true ≡ false = sym up ∙ ap is_up_at (sym is) ∙ near_down y none in cc

nothing_given : (P : Transition → Type 0) (y : PairEnds) (es : ℕ) (shown : BroadcastState) → in_contact y ≡ false → ((numbers : ℕ × ℕ) (states : Option LinkState × Option LinkState) → P (ContactDown numbers states 0))
    → All P (reset_given es false shown y y.near).course.changes
nothing_given P y es shown none over =
    subst (λ held. All P (reset_given es held shown y y.near).course.changes) (far_down y none)
    (falls_all P y cause.PeerReset es (λ s. (s.highest ≤ es) × (s.peer ≢ Some es)) _ (resets_tell y es shown) (λ e is up like. absurd (gone_twice y e none is up)) over)

abbrev TellsAll : (Transition → Type 0) → Heard → Type 0
TellsAll P h = All P h.course.changes

reset_all : (P : Transition → Type 0) (x : PairEnds) (es : ℕ) (shown : BroadcastState)
    → ((e : LinkEnd) → x.near ≡ Some e → is_up e.fsm.state ≡ true → (e.fsm.highest ≤ es) × (e.fsm.peer ≢ Some es) → P (LinkDown x.bearer cause.PeerReset es))
    → ((numbers : ℕ × ℕ) (states : Option LinkState × Option LinkState) → P (ContactDown numbers states 0)) → TellsAll P (reset_near es shown x)
unfolding going_on
reset_all P x es shown link over =
    let held = is_up_at x.far in
    let first = reset_given es held shown x x.near in
    let one = falls_all P x cause.PeerReset es (λ s. (s.highest ≤ es) × (s.peer ≢ Some es)) _ (resets_tell x es shown) link over in
    tested (TellsAll P) (is_down (reset_change es held x.near) && not held) (behind first.course (λ y. reset_given es false shown y y.near)) first
    (λ last.
    let both = and_parts (is_down (reset_change es held x.near)) (not held) last in
    All-append P first.course.changes (reset_given es false shown first.course.pair first.course.pair.near).course.changes one
    (nothing_given P first.course.pair es shown (given_over x x.near es held shown both.0 (not_true held both.1)) over))
    (λ _. one)

-- ---- any packet

is_higher : (number seen : ℕ) → nat_lt number seen ≡ false → (number == seen) ≡ false → seen < number
is_higher number seen low same = grind (arith, nat_tests, low, same)

met_all : (P : Transition → Type 0) (x : PairEnds) (es er : ℕ) (p : Fields) (by : ℕ) (shown : BroadcastState) → ((said : Reset) → p.header ≡ header.Reset said → ⊥) → ((own peer : ℕ) → P (LinkUp x.bearer own peer)) → ((numbers : ℕ × ℕ) → P (ContactUp numbers))
    → TellsAll P (met_near es er p by shown x)
met_all P x es er p by shown plain up fresh = rises_all P x _ (meets_tell x es er p by shown plain) up fresh

numbered_all : (P : Transition → Type 0) (x : PairEnds) (number : ℕ) (same higher : Heard) → TellsAll P same → (x.seen < number → TellsAll P higher) → TellsAll P (by_number x number same higher)
numbered_all P x number same higher one two =
    tested (TellsAll P) (nat_lt number x.seen) (passing x why.Contact) (if number == x.seen then same else higher) (λ _. All-nil P)
    (λ low. tested (TellsAll P) (number == x.seen) same higher (λ _. one) (λ apart_. two (is_higher number x.seen low apart_)))

activated_all : (P : Transition → Type 0) (x : PairEnds) (number es er : ℕ) (p : Fields) (by : ℕ) (shown : BroadcastState) (h : Header) → MayTell P x es h → IsApt x → shown_contact h ≡ Some number → x.seen < number
    → ((said : Reset) → p.header ≡ header.Reset said → ⊥) → TellsAll P (activate_higher number (met_near es er p by shown) x)
unfolding going_on
activated_all P x number es er p by shown h m apt shows higher plain = case (in_contact x) refl
  where
    meet : PairEnds → Heard
    meet = met_near es er p by shown

    case : (b : Bool) → in_contact x ≡ b → TellsAll P (activates b (risen x number) (behind (risen x number) meet))
    case true there = risen_there P x number es h m apt shows higher there
    case false none =
        let c = risen x number in
        All-append P c.changes (meet c.pair).course.changes (risen_all P x number es h m apt shows higher)
        (met_all P c.pair es er p by shown plain (λ own peer. subst (λ n. P (LinkUp n own peer)) (sym (risen_runs x number apt).bearer) (m.up own peer)) m.fresh)

pub plain_by : (p : Fields) (h : Header) → p.header ≡ h → is_reset h ≡ false → (said : Reset) → p.header ≡ header.Reset said → ⊥
plain_by p h is plain said reset = let wrong : false ≡ true = sym plain ∙ ap is_reset (sym is ∙ reset) in cc

hears_all : (P : Transition → Type 0) (h : Header) (x : PairEnds) (es er : ℕ) (p : Fields) (by : ℕ) (shown : BroadcastState) → p.header ≡ h → IsApt x → MayTell P x es h → TellsAll P (heard_as h es er p by shown x)
unfolding going_on
hears_all P (header.Reset said) x es er p by shown is apt m =
    let c = risen x said.contact in
    numbered_all P x said.contact (reset_near es shown x) (behind c (reset_near es shown)) (reset_all P x es shown (λ e near up like. m.reset e near up like refl) m.over)
    (λ higher. All-append P c.changes (reset_near es shown c.pair).course.changes (risen_all P x said.contact es (header.Reset said) m apt refl higher)
    (reset_all P c.pair es shown (λ e near up like. absurd (gone_twice c.pair e (risen_over x said.contact apt) near up)) m.over))
hears_all P (header.Activate said) x es er p by shown is apt m =
    let meet = met_near es er p by shown in
    let plain = plain_by p (header.Activate said) is refl in
    numbered_all P x said.contact (meet x) (activate_higher said.contact meet x) (met_all P x es er p by shown plain m.up m.fresh)
    (λ higher. activated_all P x said.contact es er p by shown (header.Activate said) m apt refl higher plain)
hears_all P (header.Discovery said) x es er p by shown is apt m = met_all P x es er p by shown (plain_by p (header.Discovery said) is refl) m.up m.fresh
hears_all P (header.State said) x es er p by shown is apt m = met_all P x es er p by shown (plain_by p (header.State said) is refl) m.up m.fresh
hears_all P (header.Payload said) x es er p by shown is apt m = met_all P x es er p by shown (plain_by p (header.Payload said) is refl) m.up m.fresh
hears_all P (header.Bundler said) x es er p by shown is apt m = met_all P x es er p by shown (plain_by p (header.Bundler said) is refl) m.up m.fresh
hears_all P (header.Changeover said) x es er p by shown is apt m = met_all P x es er p by shown (plain_by p (header.Changeover said) is refl) m.up m.fresh
hears_all P (header.NameDistributor said) x es er p by shown is apt m = met_all P x es er p by shown (plain_by p (header.NameDistributor said) is refl) m.up m.fresh
hears_all P (header.Fragmenter said) x es er p by shown is apt m = met_all P x es er p by shown (plain_by p (header.Fragmenter said) is refl) m.up m.fresh

-- ---- the end of a contact is told

get_middle : (xs : List Transition) (t : Transition) → slice_get (xs ++ t ∷ []) (length xs) ≡ Some t
get_middle [] t = refl
get_middle (x ∷ xs) t = get_middle xs t

holds_longer : (xs ys : List Transition) (numbers : ℕ × ℕ) (number : ℕ) → HoldsEnd xs numbers number → HoldsEnd (xs ++ ys) numbers number
holds_longer xs ys numbers number h = record { place = h.place; states = h.states; there = get_longer xs ys h.place (ContactDown numbers h.states number) h.there }

abbrev EndsBy : PairEnds → ℕ → Heard → Type 0
EndsBy x number h = HoldsEnd h.course.changes (x.contact, x.seen) number

risen_holds : (x : PairEnds) (number : ℕ) → in_contact x ≡ true → HoldsEnd (risen x number).changes (x.contact, x.seen) number
risen_holds x number there =
    let downs = flat_map ended_with (ends_of (record x { seen = number })) in
    record { place = length downs; states = states_of (parted (record x { seen = number })); there = ap (λ cs. slice_get cs (length downs)) (risen_changes x number there) ∙ get_middle downs (last_change x number) }

lower_not : (number seen : ℕ) → seen < number → nat_lt number seen ≡ false
lower_not number seen higher = grind (arith, nat_tests, higher)

same_not : (number seen : ℕ) → seen < number → (number == seen) ≡ false
same_not number seen higher = grind (arith, nat_tests, higher)

-- where it is higher
by_higher : (x : PairEnds) (number : ℕ) (same higher : Heard) → x.seen < number → by_number x number same higher ≡ higher
by_higher x number same higher more =
    ap (λ b. if b then passing x why.Contact else (if number == x.seen then same else higher)) (lower_not number x.seen more) ∙ ap (λ b. if b then same else higher) (same_not number x.seen more)

hears_hold : (h : Header) (x : PairEnds) (es er : ℕ) (p : Fields) (by : ℕ) (shown : BroadcastState) (number : ℕ) → shown_contact h ≡ Some number → x.seen < number → in_contact x ≡ true → EndsBy x number (heard_as h es er p by shown x)
unfolding going_on
hears_hold (header.Reset said) x es er p by shown number shows higher there =
    let same : said.contact ≡ number = cc in
    let c = risen x number in
    subst (λ n. EndsBy x number (by_number x n (reset_near es shown x) (behind (risen x n) (reset_near es shown)))) (sym same)
    (subst (EndsBy x number) (sym (by_higher x number (reset_near es shown x) (behind c (reset_near es shown)) higher)) (holds_longer c.changes (reset_near es shown c.pair).course.changes (x.contact, x.seen) number (risen_holds x number there)))
hears_hold (header.Activate said) x es er p by shown number shows higher there =
    let same : said.contact ≡ number = cc in
    let meet = met_near es er p by shown in
    subst (λ n. EndsBy x number (by_number x n (meet x) (activate_higher n meet x))) (sym same)
    (subst (EndsBy x number) (sym (by_higher x number (meet x) (activate_higher number meet x) higher ∙ ap (λ b. activates b (risen x number) (behind (risen x number) meet)) there)) (risen_holds x number there))
hears_hold other x es er p by shown number shows higher there = absurd (let wrong : ⊥ = cc in wrong)

-- ---- a tunnel packet

-- the packet that was taken is the one that arrived
names_session : (p : Fields) (y : PairEnds) (bytes : List ℕ) (t : Tunnelled) → Fits p → bytes ≡ spelling (as_waiting p) → SpeaksOfFar y bytes t → t.kind ≡ kind.Original → NamesSession p (other y.bearer) t.old.epoch
names_session p y bytes t fits first speaks original =
    let q = speaks.tunnel.packet in
    let same : as_waiting p ≡ q = sym (again (as_waiting p) (waiting_fits p fits)) ∙ ap fields_at (sym first ∙ speaks.tunnel.spelled) ∙ again q speaks.tunnel.fits in
    record {
      tunnel = record {
        changeover_type = t.kind;
        broadcast_acknowledgement = speaks.tunnel.carries.broadcast_acknowledgement;
        count = t.count;
        inner_number = t.number;
        old_bearer = t.old.bearer;
        old_epoch = t.old.epoch;
      };
      header_is = ap (λ (f : Fields). f.header) same ∙ speaks.tunnel.carries.header;
      original = original;
      bearer_is = speaks.bearer;
      epoch_is = refl;
    }

-- what it may tell of the far link
abbrev FarMayFall : (Transition → Type 0) → PairEnds → Fields → PairOutcome → Type 0
FarMayFall P y p given = (e : LinkEnd) (epoch : ℕ) → y.far ≡ Some e → is_up e.fsm.state ≡ true → e.fsm.peer ≡ Some epoch → NamesSession p (other y.bearer) epoch → IsTook given → P (LinkDown (other y.bearer) cause.PeerTunnel epoch)

down_all : (P : Transition → Type 0) (y : PairEnds) (p : Fields) (given : PairOutcome) (k : ChangeoverType) (epoch : ℕ) → IsTook given → (k ≡ kind.Original → NamesSession p (other y.bearer) epoch) → FarMayFall P y p given
    → ((numbers : ℕ × ℕ) (states : Option LinkState × Option LinkState) → P (ContactDown numbers states 0)) → All P (taken_down k epoch y).changes
down_all P y p given kind.Duplicate epoch took names far over = All-nil P
down_all P y p given kind.Original epoch took names far over =
    falls_all P (turned y) cause.PeerTunnel epoch (λ s. s.peer ≡ Some epoch) _ (tunnels_tell y epoch) (λ e is up peer. far e epoch is up peer (names refl) took) over

pub inner_none : (t : Tunnelled) (by : ℕ) (z : PairEnds) (o : Option LinkEnd) → (inner_at t by z o).changes ≡ []
inner_none t by z None = refl
inner_none t by z (Some e) = refl

unwraps_all : (P : Transition → Type 0) (y : PairEnds) (p : Fields) (given : PairOutcome) (taken carried : List Taken) (c : Course) → Fits p → IsTook given → FirstIs (spelling (as_waiting p)) taken → FarMayFall P y p given
    → ((numbers : ℕ × ℕ) (states : Option LinkState × Option LinkState) → P (ContactDown numbers states 0)) → Unwraps y taken c carried → All P c.changes
unfolding going_on
unwraps_all P y p given _ _ _ fits took first far over none_taken = All-nil P
unwraps_all P y p given _ _ _ fits took first far over (as_it_is u others apart_) = All-nil P
unwraps_all P y p given _ _ _ fits took first far over (tunnel u others t speaks) =
    let c = taken_down t.kind t.old.epoch y in
    let one = down_all P y p given t.kind t.old.epoch took (λ original. names_session p y u.packet t fits first speaks original) far over in
    All-append P c.changes (inner_at t u.by c.pair c.pair.far).changes one (subst (All P) (sym (inner_none t u.by c.pair c.pair.far)) (All-nil P))

opens_all : (P : Transition → Type 0) (y : PairEnds) (p : Fields) (outcome : LinkOutcome) (c : Course) (given : PairOutcome) → Fits p → TakesFirst (spelling (as_waiting p)) outcome → FarMayFall P y p given
    → ((numbers : ℕ × ℕ) (states : Option LinkState × Option LinkState) → P (ContactDown numbers states 0)) → OpensInto y outcome c given → All P c.changes
opens_all P y p _ _ _ fits first far over (opens {taken = taken} {carried = carried} {c = c} {given = given} unwraps brings) = unwraps_all P y p (PairOutcome.Took given) taken carried c fits tt first far over unwraps
opens_all P y p _ _ _ fits first far over deferred = All-nil P
opens_all P y p _ _ _ fits first far over ignored = All-nil P

-- ---- the arrival

arrives_all : (P : Transition → Type 0) (x : PairEnds) (es er : ℕ) (p : Fields) (by : ℕ) (shown : BroadcastState) (c : Course) (given : PairOutcome) → IsApt x → Fits p → Arrives x es er p by shown c given → MayTell P x es p.header
    → FarMayFall P (heard_as p.header es er p by shown x).course.pair p given → All P c.changes
unfolding going_on
arrives_all P x es er p by shown c given apt fits a m far =
    let first = (heard_as p.header es er p by shown x).course in
    let last = a.opened.pair in
    subst (λ (k : Course). All P k.changes) (sym a.course)
    (All-append P (first.changes ++ a.opened.changes) (released last).changes
    (All-append P first.changes a.opened.changes (hears_all P p.header x es er p by shown refl apt m)
    (opens_all P first.pair p _ a.opened given fits (hears_first p.header x es er p by shown) far m.over a.opens))
    (subst (All P) (sym (releases_tell last)) (All-nil P)))

arrives_hold : (x : PairEnds) (es er : ℕ) (p : Fields) (by : ℕ) (shown : BroadcastState) (c : Course) (given : PairOutcome) (number : ℕ) → Arrives x es er p by shown c given → shown_contact p.header ≡ Some number → x.seen < number → in_contact x ≡ true
    → HoldsEnd c.changes (x.contact, x.seen) number
unfolding going_on
arrives_hold x es er p by shown c given number a shows higher there =
    let first = (heard_as p.header es er p by shown x).course in
    subst (λ (k : Course). HoldsEnd k.changes (x.contact, x.seen) number) (sym a.course)
    (holds_longer (first.changes ++ a.opened.changes) (released a.opened.pair).changes (x.contact, x.seen) number
    (holds_longer first.changes a.opened.changes (x.contact, x.seen) number (hears_hold p.header x es er p by shown number shows higher there)))

up_there : (b : ℕ) (x : PairEnds) (e : LinkEnd) → (facing b x).near ≡ Some e → is_up e.fsm.state ≡ true → in_contact x ≡ true
unfolding facing
up_there b x e is up = case (x.bearer == b) is
  where
    case : (t : Bool) → (if t then x else turned x).near ≡ Some e → in_contact x ≡ true
    case true near = by_near x (ap is_up_at near ∙ up)
    case false far = by_far x (ap is_up_at far ∙ up)

-- the far link is as it was while a packet of a session is heard
rises_apart : (x : PairEnds) (z : Option (ℕ × ℕ)) (cs : List Transition) → x.bearer ≤ 1 → MayRise x cs → fold (epochs_by (other x.bearer)) z cs ≡ z
rises_apart x z _ two rises_none = refl
rises_apart x z _ two (rises own peer far) = ap (λ t. if t then Some (own, peer) else z) (apart x.bearer two)
rises_apart x z _ two (begins own peer far) = ap (λ t. if t then Some (own, peer) else z) (apart x.bearer two)

far_stays : (x : PairEnds) (es er : ℕ) (p : Fields) (by : ℕ) (shown : BroadcastState) (c : Changeover) → IsApt x → p.header ≡ header.Changeover c → epochs_at (heard_as p.header es er p by shown x).course.pair.far ≡ epochs_at x.far
far_stays x es er p by shown c apt is =
    ap (λ h. epochs_at (heard_as h es er p by shown x).course.pair.far) is ∙ (hears_runs (header.Changeover c) x es er p by shown apt).far
    ∙ rises_apart x (epochs_at x.far) _ apt.two (meets_tell x es er p by shown (plain_by p (header.Changeover c) is refl))

below_shown : (x : PairEnds) (e : LinkEnd) (es : ℕ) → IsApt x → x.near ≡ Some e → is_up e.fsm.state ≡ true → (e.fsm.highest ≤ es) × (e.fsm.peer ≢ Some es) → known e.fsm.peer < es
below_shown x e es apt is up like =
    let peer : e.fsm.peer ≡ Some e.fsm.highest = (near_of x e apt is).abreast.peer_is (ap (λ b. b || is_reset_reset e.fsm.state) up) in
    let known_is : known e.fsm.peer ≡ e.fsm.highest = ap known peer in
    let most = like.0 in
    let differs : e.fsm.highest ≢ es = λ same. like.1 (peer ∙ ap Some same) in
    omega (arith, known_is, most, differs)

back : (b : ℕ) → b ≤ 1 → b ≡ other (other b)
back b two = omega (arith, two)

pub arrival_reasons : (x : PairEnds) (b es er : ℕ) (p : Fields) (by : ℕ) (shown : BroadcastState) (c : Course) (given : PairOutcome) → x.bearer ≡ b → IsApt x → Fits p → Arrives x es er p by shown c given
    → All (IsReason x (hears b es er p by shown) given c.changes) c.changes
arrival_reasons x b es er p by shown c given on apt fits a =
    let opening = hears b es er p by shown in
    let cs = c.changes in
    let P : Transition → Type 0 = IsReason x opening given cs in
    let y = (heard_as p.header es er p by shown x).course.pair in
    let same : y.bearer ≡ x.bearer = (hears_runs p.header x es er p by shown apt).bearer in
    let two = apt.two in
    arrives_all P x es er p by shown c given apt fits a
    (record {
      up = λ own peer. two;
      fresh = λ numbers. tt;
      over = λ numbers states. inl refl;
      reset = λ e is up like reset. goes_down x opening given cs x.bearer cause.PeerReset es e two (ap (λ (z : PairEnds). z.near) (facing_near x.bearer x refl) ∙ is) up ((sym on, refl, reset), below_shown x e es apt is up like);
      ended = λ number shows higher k e most is up. goes_down x opening given cs k cause.ContactEnded 0 e most is up (number, (shows, higher), arrives_hold x es er p by shown c given number a shows higher (up_there k x e is up));
      replaced = λ number shows higher numbers states. inr (shows, higher);
    })
    (λ e epoch is up peer names took. subst (λ n. P (LinkDown (other n) cause.PeerTunnel epoch)) (sym same) (record {
      two = omega arith;
      own = e.fsm.own;
      theirs = known e.fsm.peer;
      epochs = ap (λ (z : PairEnds). epochs_at z.near) (facing_far (other x.bearer) x (apart x.bearer two)) ∙ sym (far_stays x es er p by shown names.tunnel apt names.header_is) ∙ ap epochs_at is ∙ up_epochs_are e up;
      cause_is = ((sym on ∙ back x.bearer two, took, subst (λ n. NamesSession p (other n) epoch) same names), ap known peer);
    }))
