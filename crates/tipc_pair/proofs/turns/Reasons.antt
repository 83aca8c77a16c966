-- Why a turn tells what it tells of a pair, with respect to the pair as it was before the turn.
use Rattle.std.specs.Prelude.{IfSome}
use Rattle.std.specs.List.{All}
use Rattle.std.proofs.Common.{◌≡◌, ◌≤◌, ◌<◌, ◌⊎◌, ◌==◌, ◌∙◌, ℕ, Bool, true, false, List, [], ◌∷◌, Option, Some, if◌then◌else◌, slice_get, refl, sym, ap, subst, arith}
use Rattle.std.proofs.lemmas.Bool.Decides.{nat_tests}
use Rattle.std.proofs.lemmas.List.Elements.{All-cons, All-nil}
use Rattle.tipc_types.specs.LinkStates.{is_up}
use Rattle.tipc_types.specs.declared.link_words.Cause.{Cause}
use Rattle.tipc_types.specs.declared.link_words.Cause.TheVariants as cause
use Rattle.tipc_types.specs.declared.link_words.LinkState.{LinkState}
use Rattle.tipc_header.specs.declared.packet.Changeover.{Changeover}
use Rattle.tipc_header.specs.declared.packet.ChangeoverType.TheVariants.{Original}
use Rattle.tipc_header.specs.declared.packet.Header.TheVariants as header
use Rattle.tipc_header.specs.Spelling.{Fields}
use Rattle.tipc_link_fsm.specs.Table.{Fsm}
use Rattle.tipc_link.specs.Links.{LinkEnd, known}
use Rattle.tipc_pair.specs.declared.changes.PairOutcome.{PairOutcome}
use Rattle.tipc_pair.specs.declared.changes.PairOutcome.TheVariants as outcome
use Rattle.tipc_pair.specs.declared.transitions.Transition.{Transition}
use Rattle.tipc_pair.specs.declared.transitions.Transition.TheVariants.{ContactDown, ContactUp, LinkDown, LinkUp}
use Rattle.tipc_pair.specs.Facing.{PairEnds, facing, other, turned}
use Rattle.tipc_pair.specs.PairTurns.{Opening}
use Rattle.tipc_pair.specs.PairTurns.Opening.{cuts, hears, ticks}
use Rattle.tipc_pair.specs.Causes.{MayFall, MayRise, TellsFall, begins, ends, falls, goes_on, rests, rises, stays}
use Rattle.tipc_pair.specs.LinkReadings.{silence_in}
use Rattle.tipc_pair.specs.Contacts.{is_reset, shown_contact}
use Rattle.tipc_pair.proofs.turns.Moves.{IsApt, IsEndOn, epochs_at, turned_apt, up_epochs_are}
use Rattle.tipc_pair.proofs.acts.Walks.{tested}
-- ---- what may be seen of a cause
use Rattle.tipc_pair.proofs.turns.PairKept.{facing_bearer as facing_on}

-- the packet is an original tunnel packet, which names this bearer and this epoch of the session that it is of
pub record NamesSession (p : Fields) (bearer epoch : ℕ) : Type 0 where
  pub tunnel : Changeover
  pub header_is : p.header ≡ header.Changeover tunnel
  pub original : tunnel.changeover_type ≡ Original
  pub bearer_is : tunnel.old_bearer ≡ bearer
  pub epoch_is : tunnel.old_epoch ≡ epoch

-- the changes tell that the contact of these numbers ended by that one
pub record HoldsEnd (changes : List Transition) (numbers : ℕ × ℕ) (number : ℕ) : Type 0 where
  pub place : ℕ
  pub states : Option LinkState × Option LinkState
  pub there : slice_get changes place ≡ Some (ContactDown numbers states number)

abbrev pub IsTook : PairOutcome → Type 0
IsTook (outcome.Took opened) = Unit {0}
IsTook _ = ⊥

abbrev pub CutsOff : Opening → ℕ → Type 0
CutsOff (cuts bearer) b = bearer ≡ b
CutsOff _ b = ⊥

abbrev pub IsTick : Opening → Type 0
IsTick (ticks shown) = Unit {0}
IsTick _ = ⊥

-- a RESET under this epoch was heard on the bearer
abbrev pub HearsReset : Opening → ℕ → ℕ → Type 0
HearsReset (hears bearer es er p by shown) b epoch = (bearer ≡ b) × (es ≡ epoch) × (is_reset p.header ≡ true)
HearsReset _ b epoch = ⊥

-- an original tunnel packet of the link on a bearer, and of that epoch, was taken on the other bearer
abbrev pub HearsTunnel : Opening → PairOutcome → ℕ → ℕ → Type 0
HearsTunnel (hears bearer es er p by shown) given b epoch = (bearer ≡ other b) × IsTook given × NamesSession p b epoch
HearsTunnel _ given b epoch = ⊥

-- a packet was heard that shows this contact number, which is above the one that was seen
abbrev pub HearsHigher : ℕ → Opening → ℕ → Type 0
HearsHigher seen (hears bearer es er p by shown) number = (shown_contact p.header ≡ Some number) × (seen < number)
HearsHigher seen _ number = ⊥

-- ---- the reasons

-- The link of a bearer, which was up under the peer's epoch theirs, may go down for this cause, beside which this epoch is told.
abbrev pub MayGoDown : PairEnds → Opening → PairOutcome → List Transition → ℕ → ℕ → Cause → ℕ → Type 0
MayGoDown x opening given changes b theirs cause.Cut shown = CutsOff opening b
MayGoDown x opening given changes b theirs cause.Silent shown = IsTick opening × (4 ≤ silence_in (facing b x).near)
MayGoDown x opening given changes b theirs cause.PeerReset shown = HearsReset opening b shown × (theirs < shown)
MayGoDown x opening given changes b theirs cause.PeerTunnel shown = HearsTunnel opening given b shown × (theirs ≡ shown)
MayGoDown x opening given changes b theirs cause.ContactEnded shown = (number : ℕ) × HearsHigher x.seen opening number × HoldsEnd changes (x.contact, x.seen) number

-- it was up before the turn, and goes down for this cause
pub record GoesDown (x : PairEnds) (opening : Opening) (given : PairOutcome) (changes : List Transition) (b : ℕ) (because : Cause) (shown : ℕ) : Type 0 where
  pub two : b ≤ 1
  pub own : ℕ
  pub theirs : ℕ
  pub epochs : epochs_at (facing b x).near ≡ Some (own, theirs)
  pub cause_is : MayGoDown x opening given changes b theirs because shown

-- There are two bearers; a link that goes down has its cause; and a contact that ends by a number ends by one that was heard.
abbrev pub IsReason : PairEnds → Opening → PairOutcome → List Transition → Transition → Type 0
IsReason x opening given changes (LinkUp b own theirs) = b ≤ 1
IsReason x opening given changes (LinkDown b because shown) = GoesDown x opening given changes b because shown
IsReason x opening given changes (ContactUp numbers) = Unit {0}
IsReason x opening given changes (ContactDown numbers states number) = (number ≡ 0) ⊎ HearsHigher x.seen opening number

-- ---- what the step of one link tells

tells_all : (P : Transition → Type 0) (x : PairEnds) (because : Cause) (shown : ℕ) (cs : List Transition) → TellsFall x because shown cs → P (LinkDown x.bearer because shown)
    → ((numbers : ℕ × ℕ) (states : Option LinkState × Option LinkState) → P (ContactDown numbers states 0)) → All P cs
tells_all P x because shown _ (goes_on far) link contact = All-cons P (LinkDown x.bearer because shown) [] link (All-nil P)
tells_all P x because shown _ (ends states far) link contact =
    let last = ContactDown (x.contact, x.seen) states 0 in All-cons P (LinkDown x.bearer because shown) (last ∷ []) link (All-cons P last [] (contact (x.contact, x.seen) states) (All-nil P))

pub falls_all : (P : Transition → Type 0) (x : PairEnds) (because : Cause) (shown : ℕ) (Like : Fsm → Type 0) (cs : List Transition) → MayFall x because shown Like cs
    → ((e : LinkEnd) → x.near ≡ Some e → is_up e.fsm.state ≡ true → Like e.fsm → P (LinkDown x.bearer because shown))
    → ((numbers : ℕ × ℕ) (states : Option LinkState × Option LinkState) → P (ContactDown numbers states 0)) → All P cs
falls_all P x because shown Like _ stays link contact = All-nil P
falls_all P x because shown Like _ (falls e cs is up like tells) link contact = tells_all P x because shown cs tells (link e is up like) contact

pub rises_all : (P : Transition → Type 0) (x : PairEnds) (cs : List Transition) → MayRise x cs → ((own peer : ℕ) → P (LinkUp x.bearer own peer)) → ((numbers : ℕ × ℕ) → P (ContactUp numbers)) → All P cs
rises_all P x _ rests link contact = All-nil P
rises_all P x _ (rises own peer far) link contact = All-cons P (LinkUp x.bearer own peer) [] (link own peer) (All-nil P)
rises_all P x _ (begins own peer far) link contact =
    let last = ContactUp (x.contact, x.seen) in All-cons P (LinkUp x.bearer own peer) (last ∷ []) (link own peer) (All-cons P last [] (contact (x.contact, x.seen)) (All-nil P))

-- a link that goes down was the link of its bearer, which was up
pub goes_down : (x : PairEnds) (opening : Opening) (given : PairOutcome) (changes : List Transition) (b : ℕ) (because : Cause) (shown : ℕ) (e : LinkEnd) → b ≤ 1 → (facing b x).near ≡ Some e → is_up e.fsm.state ≡ true
    → MayGoDown x opening given changes b (known e.fsm.peer) because shown → GoesDown x opening given changes b because shown
goes_down x opening given changes b because shown e two is up may =
    record { two = two; own = e.fsm.own; theirs = known e.fsm.peer; epochs = ap epochs_at is ∙ up_epochs_are e up; cause_is = may }

-- ---- the same, seen from the other link

pub facing_apt : (b : ℕ) (x : PairEnds) → IsApt x → IsApt (facing b x)
unfolding facing
facing_apt b x h = tested IsApt (x.bearer == b) x (turned x) (λ _. h) (λ _. turned_apt x h)

-- the end on a bearer is of that bearer
pub facing_end : (b : ℕ) (x : PairEnds) → b ≤ 1 → IsApt x → IfSome (facing b x).near (IsEndOn b)
facing_end b x one h = subst (λ n. IfSome (facing b x).near (IsEndOn n)) (facing_on b x one h.two) (facing_apt b x h).near

turned_near : (b : ℕ) (x : PairEnds) → b ≤ 1 → x.bearer ≤ 1 → (facing b (turned x)).near ≡ (facing b x).near
unfolding facing
turned_near b x one two = by (x.bearer == b) refl
  where
    by : (t : Bool) → (x.bearer == b) ≡ t → (if other x.bearer == b then turned x else turned (turned x)).near ≡ (if t then x else turned x).near
    by true same = let apart : (other x.bearer == b) ≡ false = grind (arith, nat_tests, same, one) in ap (λ s. (if s then turned x else turned (turned x)).near) apart
    by false differs = let here : (other x.bearer == b) ≡ true = grind (arith, nat_tests, differs, one, two) in ap (λ s. (if s then turned x else turned (turned x)).near) here

turned_may : (x : PairEnds) (opening : Opening) (given : PairOutcome) (changes : List Transition) (b theirs : ℕ) (because : Cause) (shown : ℕ) → b ≤ 1 → x.bearer ≤ 1
    → MayGoDown (turned x) opening given changes b theirs because shown → MayGoDown x opening given changes b theirs because shown
turned_may x opening given changes b theirs cause.Cut shown one two h = h
turned_may x opening given changes b theirs cause.Silent shown one two h = (h.0, subst (λ o. 4 ≤ silence_in o) (turned_near b x one two) h.1)
turned_may x opening given changes b theirs cause.PeerReset shown one two h = h
turned_may x opening given changes b theirs cause.PeerTunnel shown one two h = h
turned_may x opening given changes b theirs cause.ContactEnded shown one two h = h

turned_reason : (x : PairEnds) (opening : Opening) (given : PairOutcome) (changes : List Transition) → x.bearer ≤ 1 → (t : Transition) → IsReason (turned x) opening given changes t → IsReason x opening given changes t
turned_reason x opening given changes two (LinkUp b own theirs) h = h
turned_reason x opening given changes two (LinkDown b because shown) h = record {
  two = h.two;
  own = h.own;
  theirs = h.theirs;
  epochs = ap epochs_at (sym (turned_near b x h.two two)) ∙ h.epochs;
  cause_is = turned_may x opening given changes b h.theirs because shown h.two two h.cause_is;
}
turned_reason x opening given changes two (ContactUp numbers) h = h
turned_reason x opening given changes two (ContactDown numbers states number) h = h

pub facing_reason : (b : ℕ) (x : PairEnds) (opening : Opening) (given : PairOutcome) (changes : List Transition) → x.bearer ≤ 1 → (t : Transition) → IsReason (facing b x) opening given changes t → IsReason x opening given changes t
unfolding facing
facing_reason b x opening given changes two t = tested (λ (y : PairEnds). IsReason y opening given changes t → IsReason x opening given changes t) (x.bearer == b) x (turned x) (λ _ h. h) (λ _ h. turned_reason x opening given changes two t h)
