-- The first packet that a link takes at an arrival is the one that arrived, as it waited to be sent.
use Rattle.std.proofs.Common.{◌≡◌, ◌==◌, ◌&&◌, ℕ, Bool, true, false, List, [], ◌∷◌, Option, Some, None, nat_lt, not, if◌then◌else◌, refl, sym, subst, eqb-true}
use Rattle.tipc_types.specs.declared.link_words.BroadcastState.{BroadcastState}
use Rattle.tipc_types.specs.declared.packet_lists.Taken.{Taken}
use Rattle.tipc_header.specs.declared.packet.Header.{Header}
use Rattle.tipc_header.specs.declared.packet.Header.TheVariants as header
use Rattle.tipc_header.specs.Spelling.{Fields, spelling}
use Rattle.tipc_recv_window.specs.declared.outcomes.LinkOutcome.{LinkOutcome}
use Rattle.tipc_recv_window.specs.declared.outcomes.Place.{Place}
use Rattle.tipc_recv_window.specs.declared.outcomes.Place.TheVariants as place
use Rattle.tipc_recv_window.specs.Receiving.{Receiving, arrived_at, filled, is_new, place_at, run_of}
use Rattle.tipc_link_fsm.specs.declared.changes.Change.{Change}
use Rattle.tipc_link_fsm.specs.declared.changes.Change.TheVariants.{Ignore}
use Rattle.tipc_link_fsm.specs.Table.{Outcome, on_reset}
use Rattle.tipc_link.specs.Links.{LinkEnd, after, change_outcome, heard_outcome, is_down, is_heard, link_outcome, outcome_of}
use Rattle.tipc_link.specs.Records.{standing}
use Rattle.tipc_link.specs.Sessions.{Carries, Content, Nothing, SessionEnd, Shows, as_waiting, brought, content_by, content_of, due_with, outcome, place_of, placed, receiving}
use Rattle.tipc_pair.specs.Changeovers.{risen}
use Rattle.tipc_pair.specs.Courses.{Course}
use Rattle.tipc_pair.specs.Facing.{PairEnds, in_contact, is_up_at}
use Rattle.tipc_pair.specs.PairArrivals.{Heard, activate_higher, activates, behind, by_number, hears, met_at, met_near, passing, reset_change, reset_given, reset_near, taken_in}
use Rattle.tipc_types.specs.declared.link_words.Why.TheVariants as why
use Rattle.tipc_pair.proofs.turns.Addressing.{either}

-- the first of these packets, where there is one, has these bytes
abbrev pub FirstIs : List ℕ → List Taken → Type 0
FirstIs bytes [] = Unit {0}
FirstIs bytes (t ∷ ts) = t.packet ≡ bytes

-- so it is of what an outcome took
abbrev pub TakesFirst : List ℕ → LinkOutcome → Type 0
TakesFirst bytes o = FirstIs bytes (taken_in o)

-- what a packet of a session brings under a number has these bytes
abbrev pub CarriesThese : List ℕ → Content → Type 0
CarriesThese bytes (Carries number packet) = packet ≡ bytes
CarriesThese bytes other = Unit {0}

-- ---- a receive window

first_filled : (bytes : List ℕ) (held : List (Option Taken)) (t : Taken) → t.packet ≡ bytes → FirstIs bytes (run_of (filled held 0 t))
first_filled bytes [] t is = is
first_filled bytes (x ∷ held) t is = is

first_place : (bytes : List ℕ) (r : Receiving) (d : ℕ) (t : Taken) → t.packet ≡ bytes → place_at r d ≡ place.InOrder → FirstIs bytes (run_of (arrived_at r d t).held)
first_place bytes r d t same is = case (is_new r d) is
  where
    wanted_one : (b : Bool) → (d == 0) ≡ b → (if b then place.InOrder else place.Deferred) ≡ place.InOrder → FirstIs bytes (run_of (filled r.held d t))
    wanted_one true none at = subst (λ n. FirstIs bytes (run_of (filled r.held n t))) (sym (eqb-true d 0 none)) (first_filled bytes r.held t same)
    wanted_one false none at = absurd (let wrong : ⊥ = cc in wrong)

    case : (b : Bool) → (if b then (if d == 0 then place.InOrder else place.Deferred) else place.Old) ≡ place.InOrder → FirstIs bytes (run_of (if b then record { wanted = r.wanted; held = filled r.held d t } else r).held)
    case true at = wanted_one (d == 0) refl at
    case false at = absurd (let wrong : ⊥ = cc in wrong)

-- ---- a session

due_first : (bytes : List ℕ) (e : SessionEnd) (t : Taken) → t.packet ≡ bytes → place_of e t ≡ place.InOrder → FirstIs bytes (due_with e t)
unfolding due_with
due_first bytes e t same is = first_place bytes (receiving e) (standing (receiving e) t) t same is

placed_first : (bytes : List ℕ) (at : Place) (due : List Taken) → (at ≡ place.InOrder → FirstIs bytes due) → TakesFirst bytes (placed at due)
placed_first bytes place.InOrder due first = first refl
placed_first bytes place.Deferred due first = tt
placed_first bytes place.Old due first = tt

outcome_first : (bytes : List ℕ) (s : SessionEnd) (by : ℕ) (c : Content) → CarriesThese bytes c → TakesFirst bytes (outcome s by c)
outcome_first bytes s by (Shows next gap probe) is = tt
outcome_first bytes s by (Carries number packet) is =
    let t = brought number packet by in placed_first bytes (place_of s t) (due_with s t) (λ in_order. due_first bytes s t is in_order)
outcome_first bytes s by Nothing is = tt

-- ---- a link end

session_first : (bytes : List ℕ) (session : Option SessionEnd) (by : ℕ) (c : Content) → CarriesThese bytes c → TakesFirst bytes (heard_outcome session by c)
session_first bytes None by c is = tt
session_first bytes (Some s) by c is = outcome_first bytes s by c is

change_first : (bytes : List ℕ) (change : Change) → TakesFirst bytes (change_outcome change)
change_first bytes (Ignore reason) = tt
change_first bytes other = tt

end_first : (bytes : List ℕ) (e : LinkEnd) (o : Outcome) (p : Fields) (by : ℕ) → CarriesThese bytes (content_of p) → TakesFirst bytes (link_outcome e o p by)
end_first bytes e o p by is =
    either (TakesFirst bytes) (is_heard p.header o.change) (heard_outcome (after e o).session by (content_of p)) (change_outcome o.change) (session_first bytes (after e o).session by (content_of p) is) (change_first bytes o.change)

-- ---- the pair

carries_by : (h : Header) (sequence : ℕ) (bytes : List ℕ) → CarriesThese bytes (content_by h sequence bytes)
carries_by (header.State s) sequence bytes = tt
carries_by (header.Reset r) sequence bytes = tt
carries_by (header.Activate a) sequence bytes = tt
carries_by (header.Discovery d) sequence bytes = tt
carries_by other sequence bytes = refl

carries_this : (p : Fields) → CarriesThese (spelling (as_waiting p)) (content_of p)
unfolding content_of
carries_this p = carries_by p.header p.sequence (spelling (as_waiting p))

abbrev HearsFirst : Fields → Heard → Type 0
HearsFirst p h = TakesFirst (spelling (as_waiting p)) h.outcome

met_first : (x : PairEnds) (near : Option LinkEnd) (es er : ℕ) (p : Fields) (by : ℕ) (shown : BroadcastState) → HearsFirst p (met_at es er p by shown x near)
met_first x None es er p by shown = tt
met_first x (Some e) es er p by shown = end_first (spelling (as_waiting p)) e (outcome_of e.fsm p.header es er (is_up_at x.far)) p by (carries_this p)

given_first : (x : PairEnds) (near : Option LinkEnd) (es : ℕ) (held : Bool) (shown : BroadcastState) (p : Fields) → HearsFirst p (reset_given es held shown x near)
given_first x None es held shown p = tt
given_first x (Some e) es held shown p = change_first (spelling (as_waiting p)) (on_reset e.fsm es held).change

reset_first : (x : PairEnds) (es : ℕ) (shown : BroadcastState) (p : Fields) → HearsFirst p (reset_near es shown x)
reset_first x es shown p =
    let first = (reset_given es (is_up_at x.far) shown x x.near).course in
    either (HearsFirst p) (is_down (reset_change es (is_up_at x.far) x.near) && not (is_up_at x.far)) (behind first (λ y. reset_given es false shown y y.near)) (reset_given es (is_up_at x.far) shown x x.near)
    (given_first first.pair first.pair.near es false shown p) (given_first x x.near es (is_up_at x.far) shown p)

number_first : (x : PairEnds) (number : ℕ) (same higher : Heard) (p : Fields) → HearsFirst p same → HearsFirst p higher → HearsFirst p (by_number x number same higher)
number_first x number same higher p one two = either (HearsFirst p) (nat_lt number x.seen) (passing x why.Contact) (if number == x.seen then same else higher) tt (either (HearsFirst p) (number == x.seen) same higher one two)

higher_first : (there : Bool) (c : Course) (others : Heard) (p : Fields) → HearsFirst p others → HearsFirst p (activates there c others)
higher_first true c others p h = tt
higher_first false c others p h = h

pub hears_first : (h : Header) (x : PairEnds) (es er : ℕ) (p : Fields) (by : ℕ) (shown : BroadcastState) → TakesFirst (spelling (as_waiting p)) (hears h es er p by shown x).outcome
hears_first (header.Reset said) x es er p by shown = number_first x said.contact (reset_near es shown x) (behind (risen x said.contact) (reset_near es shown)) p (reset_first x es shown p) (reset_first (risen x said.contact).pair es shown p)
hears_first (header.Activate said) x es er p by shown =
    let meet = met_near es er p by shown in
    let y = (risen x said.contact).pair in
    number_first x said.contact (meet x) (activate_higher said.contact meet x) p (met_first x x.near es er p by shown)
    (higher_first (in_contact x) (risen x said.contact) (behind (risen x said.contact) meet) p (met_first y y.near es er p by shown))
hears_first other x es er p by shown = met_first x x.near es er p by shown
