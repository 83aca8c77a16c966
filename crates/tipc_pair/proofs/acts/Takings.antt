-- What an arrival takes: what the near end, as it was before, makes of the packet; a RESET or an ACTIVATE takes nothing.
use Rattle.std.specs.Prelude.{◌==◌, ◌&&◌, nat_lt, not, if◌then◌else◌}
use Rattle.std.proofs.Common.{◌≡◌, ◌⊎◌, ◌∙◌, ℕ, Bool, true, false, [], Option, Some, None, refl, sym, ap, inl, inr}
use Rattle.tipc_types.specs.declared.link_words.BroadcastState.{BroadcastState}
use Rattle.tipc_types.specs.declared.link_words.Why.TheVariants as why
use Rattle.tipc_header.specs.declared.packet.Header.{Header}
use Rattle.tipc_header.specs.declared.packet.Header.TheVariants as header
use Rattle.tipc_header.specs.Spelling.{Fields}
use Rattle.tipc_recv_window.specs.declared.outcomes.LinkOutcome.{LinkOutcome}
use Rattle.tipc_link_fsm.specs.declared.changes.Change.{Change}
use Rattle.tipc_link_fsm.specs.declared.changes.Change.TheVariants.{Answer, Down, Ignore, Stay, Up}
use Rattle.tipc_link_fsm.specs.Table.{Outcome, on_reset}
use Rattle.tipc_link.specs.Links.{LinkEnd, after, change_outcome, heard_outcome, is_down, is_heard, is_taken, is_traffic, link_outcome, outcome_of}
use Rattle.tipc_link.specs.Sessions.{content_of}
use Rattle.tipc_pair.specs.Changeovers.{risen}
use Rattle.tipc_pair.specs.Facing.{PairEnds, in_contact, is_up_at}
use Rattle.tipc_pair.specs.PairArrivals.{Heard, activates, activate_higher, behind, by_number, hears, met_at, met_near, passing, reset_change, reset_given, reset_near, taken_in}
use Rattle.tipc_pair.proofs.acts.Walks.{tested}

-- the near end was made, its session heard the packet, and made this of it
pub record Takes (x : PairEnds) (es er : ℕ) (p : Fields) (by : ℕ) (outcome : LinkOutcome) : Type 0 where
  pub end : LinkEnd
  pub near : x.near ≡ Some end
  pub heard : is_heard p.header (outcome_of end.fsm p.header es er (is_up_at x.far)).change ≡ true
  pub outcome_is : outcome ≡ link_outcome end (outcome_of end.fsm p.header es er (is_up_at x.far)) p by

-- nothing is taken, or that is
abbrev pub Taking : PairEnds → ℕ → ℕ → Fields → ℕ → LinkOutcome → Type 0
Taking x es er p by outcome = (taken_in outcome ≡ []) ⊎ Takes x es er p by outcome

-- nothing is taken
abbrev pub TakesNone : Heard → Type 0
TakesNone h = taken_in h.outcome ≡ []

change_none : (change : Change) → taken_in (change_outcome change) ≡ []
change_none (Ignore reason) = refl
change_none Up = refl
change_none (Down cause) = refl
change_none Stay = refl
change_none (Answer reply) = refl

met_taking : (es er : ℕ) (p : Fields) (by : ℕ) (shown : BroadcastState) (x : PairEnds) (end : Option LinkEnd) → x.near ≡ end → Taking x es er p by (met_at es er p by shown x end).outcome
met_taking es er p by shown x None near = inl refl
met_taking es er p by shown x (Some e) near = case (is_heard p.header o.change) refl
  where
    o : Outcome
    o = outcome_of e.fsm p.header es er (is_up_at x.far)

    case : (b : Bool) → is_heard p.header o.change ≡ b → Taking x es er p by (link_outcome e o p by)
    case true heard = inr (record { end = e; near = near; heard = heard; outcome_is = refl })
    case false not_heard = inl (ap (λ b. taken_in (if b then heard_outcome (after e o).session by (content_of p) else change_outcome o.change)) not_heard ∙ change_none o.change)

met_none : (es er : ℕ) (p : Fields) (by : ℕ) (shown : BroadcastState) (x : PairEnds) (end : Option LinkEnd) → is_traffic p.header ≡ false → TakesNone (met_at es er p by shown x end)
met_none es er p by shown x None notice = refl
met_none es er p by shown x (Some e) notice =
    let o = outcome_of e.fsm p.header es er (is_up_at x.far) in
    let heard_as : LinkOutcome = heard_outcome (after e o).session by (content_of p) in
    tested (λ given. taken_in given ≡ []) (is_heard p.header o.change) heard_as (change_outcome o.change)
    (λ heard. absurd (let wrong : false ≡ true = ap (λ b. b && is_taken o.change) (sym notice) ∙ heard in cc)) (λ not_heard. change_none o.change)

given_none : (es : ℕ) (held_up : Bool) (shown : BroadcastState) (x : PairEnds) (end : Option LinkEnd) → TakesNone (reset_given es held_up shown x end)
given_none es held_up shown x None = refl
given_none es held_up shown x (Some e) = change_none (on_reset e.fsm es held_up).change

reset_none : (es : ℕ) (shown : BroadcastState) (x : PairEnds) → TakesNone (reset_near es shown x)
reset_none es shown x =
    let held = is_up_at x.far in
    let first = (reset_given es held shown x x.near).course in
    tested TakesNone (is_down (reset_change es held x.near) && not held) (behind first (λ y. reset_given es false shown y y.near)) _
    (λ _. given_none es false shown first.pair first.pair.near) (λ _. given_none es held shown x x.near)

number_takes : (P : Heard → Type 0) (x : PairEnds) (number : ℕ) (same higher : Heard) → P (passing x why.Contact) → P same → P higher → P (by_number x number same higher)
number_takes P x number same higher lower one two =
    tested P (nat_lt number x.seen) (passing x why.Contact) _ (λ _. lower) (λ _. tested P (number == x.seen) same higher (λ _. one) (λ _. two))

pub taking : (h : Header) (es er : ℕ) (p : Fields) (by : ℕ) (shown : BroadcastState) (x : PairEnds) → p.header ≡ h → Taking x es er p by (hears h es er p by shown x).outcome
taking (header.Reset said) es er p by shown x is =
    inl (number_takes TakesNone x said.contact (reset_near es shown x) (behind (risen x said.contact) (reset_near es shown)) refl (reset_none es shown x) (reset_none es shown (risen x said.contact).pair))
taking (header.Activate said) es er p by shown x is =
    let meet = met_near es er p by shown in
    let none : (y : PairEnds) → TakesNone (meet y) = λ y. met_none es er p by shown y y.near (ap is_traffic is) in
    inl (number_takes TakesNone x said.contact (meet x) (activate_higher said.contact meet x) refl (none x)
    (activates_none (in_contact x) (none (risen x said.contact).pair)))
  where
    activates_none : (b : Bool) → TakesNone (met_near es er p by shown (risen x said.contact).pair) → TakesNone (activates b (risen x said.contact) (behind (risen x said.contact) (met_near es er p by shown)))
    activates_none true none = refl
    activates_none false none = none
taking other es er p by shown x is = met_taking es er p by shown x x.near refl
