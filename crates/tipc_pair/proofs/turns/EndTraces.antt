-- Each packet that a link end holds came by its arrival, also after what is done to the end; and so did those that an arrival takes.
use Rattle.std.specs.Prelude.{All, nat_lt, replicate}
use Rattle.std.proofs.Common.{◌≡◌, ℕ, eqb-true, ◌+◌, ◌-◌, ◌==◌, Bool, true, false, List, [], ◌∷◌, ◌++◌, Option, Some, None, option_map, length, drop, if◌then◌else◌, refl, sym, ap, subst}
use Rattle.std.proofs.lemmas.List.Elements.{All-append, All-cons, All-drop, All-nil, All-replicate, All-set, All-head, All-tail}
use Rattle.tipc_types.specs.LinkStates.{is_up}
use Rattle.tipc_types.specs.declared.link_words.Reply.TheVariants as reply
use Rattle.tipc_types.specs.declared.packet_lists.Taken.{Taken}
use Rattle.tipc_header.specs.Spelling.{Fields}
use Rattle.tipc_tunnel.specs.Tunnels.{Tunnelled}
use Rattle.tipc_recv_window.specs.declared.outcomes.LinkOutcome.{LinkOutcome}
use Rattle.tipc_recv_window.specs.declared.outcomes.Place.{Place}
use Rattle.tipc_recv_window.specs.declared.outcomes.Place.TheVariants as place
use Rattle.tipc_recv_window.specs.Receiving.{Receiving, arrived_at, filled, is_new, place_at, run_of}
use Rattle.tipc_link_fsm.specs.declared.changes.Change.{Change}
use Rattle.tipc_link_fsm.specs.declared.changes.Change.TheVariants.{Up, Answer, Ignore}
use Rattle.tipc_link_fsm.specs.Table.{Outcome}
use Rattle.tipc_link.specs.Links.{LinkEnd, after, answered_with, arrival_end, change_outcome, followed, heard_outcome, is_heard, known, link_outcome, named_end, record_in, record_of, recorded, session_of, tunnelled_end, with_fsm}
use Rattle.tipc_link.specs.Records.{Early, Received, early_record, freed, is_next, kept_for, named, standing, tunnelled, tunnelled_outcome, unheard}
use Rattle.tipc_link.specs.Sessions.{Content, Shows, Carries, Nothing, SessionEnd, answered, arrived, brought, content_of, due_with, flushed, heard, outcome, place_of, placed, receiving, receiving_record, after_acknowledgement, repeated, spoke, after_state, window_with, with_broadcast, with_record}
use Rattle.tipc_pair.specs.Held.{CameBy}
use Rattle.tipc_pair.specs.PairArrivals.{IsTunnelOf, freed_by, inner_taken, inside_of, restored, taken_in}
-- ---- where packets came from
use Rattle.tipc_pair.proofs.turns.Addressing.{either as either_way}

-- the packet came by this arrival, and so did what is inside it, where it is a tunnel packet
pub record ComesWhole (P : ℕ → List ℕ → Type 0) (by : ℕ) (bytes : List ℕ) : Type 0 where
  pub itself : P by bytes
  pub inside : (t : Tunnelled) → IsTunnelOf bytes t → P by (restored t.inner)

-- what a packet brings came by this arrival
abbrev pub BringsBy : (ℕ → List ℕ → Type 0) → ℕ → Content → Type 0
BringsBy P by (Carries number packet) = ComesWhole P by packet
BringsBy P by other = Unit {0}

abbrev pub AllBy : (ℕ → List ℕ → Type 0) → List Taken → Type 0
AllBy P taken = All (λ (t : Taken). P t.by t.packet) taken

abbrev pub FirstBy : (ℕ → List ℕ → Type 0) → List Taken → Type 0
FirstBy P [] = Unit {0}
FirstBy P (t ∷ ts) = ComesWhole P t.by t.packet

-- each packet that was taken came by its arrival, and with the first what is inside it
pub record TakenBy (P : ℕ → List ℕ → Type 0) (o : LinkOutcome) : Type 0 where
  pub all : AllBy P (taken_in o)
  pub first : FirstBy P (taken_in o)

-- each packet that a link end holds came by its arrival
abbrev pub EndBy : (ℕ → List ℕ → Type 0) → LinkEnd → Type 0
EndBy P e = (s : SessionEnd) → e.session ≡ Some s → All (CameBy P) s.held

nothing_by : (P : ℕ → List ℕ → Type 0) (o : LinkOutcome) → taken_in o ≡ [] → TakenBy P o
nothing_by P o is = record {
  all = subst (AllBy P) (sym is) (All-nil (λ (t : Taken). P t.by t.packet));
  first = subst (FirstBy P) (sym is) tt;
}

-- ---- a receive window

run_by : (P : ℕ → List ℕ → Type 0) (held : List (Option Taken)) → All (CameBy P) held → AllBy P (run_of held)
run_by P [] h = All-nil (λ t. P t.by t.packet)
run_by P (None ∷ held) h = All-nil (λ t. P t.by t.packet)
run_by P (Some t ∷ held) h =
    All-cons (λ u. P u.by u.packet) t (run_of held) (All-head (CameBy P) (Some t) held h) (run_by P held (All-tail (CameBy P) (Some t) held h))

filled_by : (P : ℕ → List ℕ → Type 0) (held : List (Option Taken)) (d : ℕ) (t : Taken) → All (CameBy P) held → P t.by t.packet → All (CameBy P) (filled held d t)
filled_by P held d t h came =
    All-set (CameBy P) (held ++ replicate (d + 1 - length held) None) d (Some t) came (All-append (CameBy P) held (replicate (d + 1 - length held) None) h (All-replicate (CameBy P) (d + 1 - length held) None tt))

arrived_by : (P : ℕ → List ℕ → Type 0) (r : Receiving) (d : ℕ) (t : Taken) → All (CameBy P) r.held → P t.by t.packet → All (CameBy P) (arrived_at r d t).held
arrived_by P r d t h came = elim (is_new r d) as (λ b. All (CameBy P) (if b then record { wanted = r.wanted; held = filled r.held d t } else r).held) [
  | true ↦ filled_by P r.held d t h came
  | false ↦ h
]

-- the packet that is wanted is the first that can be taken
first_filled : (P : ℕ → List ℕ → Type 0) (held : List (Option Taken)) (t : Taken) → ComesWhole P t.by t.packet → FirstBy P (run_of (filled held 0 t))
first_filled P [] t came = came
first_filled P (x ∷ held) t came = came

first_place : (P : ℕ → List ℕ → Type 0) (r : Receiving) (d : ℕ) (t : Taken) → ComesWhole P t.by t.packet → place_at r d ≡ place.InOrder → FirstBy P (run_of (arrived_at r d t).held)
first_place P r d t came is = case (is_new r d) is
  where
    wanted_one : (b : Bool) → (d == 0) ≡ b → (if b then place.InOrder else place.Deferred) ≡ place.InOrder → FirstBy P (run_of (filled r.held d t))
    wanted_one true none same = subst (λ n. FirstBy P (run_of (filled r.held n t))) (sym (eqb-true d 0 none)) (first_filled P r.held t came)
    wanted_one false none same = absurd (let wrong : ⊥ = cc in wrong)

    case : (b : Bool) → (if b then (if d == 0 then place.InOrder else place.Deferred) else place.Old) ≡ place.InOrder → FirstBy P (run_of (if b then record { wanted = r.wanted; held = filled r.held d t } else r).held)
    case true same = wanted_one (d == 0) refl same
    case false same = absurd (let wrong : ⊥ = cc in wrong)

-- ---- a session

spoke_held : {A : Type 0} (s : SessionEnd) (xs : List A) → (spoke s xs).held ≡ s.held
spoke_held s [] = refl
spoke_held s (x ∷ xs) = refl

heard_held : (P : ℕ → List ℕ → Type 0) (s : SessionEnd) (by acknowledgement : ℕ) (c : Content) → All (CameBy P) s.held → BringsBy P by c → All (CameBy P) (heard s by acknowledgement c).held
heard_held P s by acknowledgement (Shows next gap probe) h came =
    subst (All (CameBy P)) (sym (spoke_held (after_acknowledgement s acknowledgement) (repeated (after_acknowledgement s acknowledgement) acknowledgement gap))) h
heard_held P s by acknowledgement (Carries number packet) h came =
    let e = after_acknowledgement s acknowledgement in
    let t = brought number packet by in
    All-drop (CameBy P) (length (due_with e t)) (window_with e t).held (arrived_by P (receiving e) (standing (receiving e) t) t h came.itself)
heard_held P s by acknowledgement Nothing h came = h

pub flushed_held : (s : SessionEnd) → (flushed s).held ≡ s.held
unfolding flushed
flushed_held s = refl

arrived_held : (P : ℕ → List ℕ → Type 0) (s : SessionEnd) (by acknowledgement : ℕ) (c : Content) → All (CameBy P) s.held → BringsBy P by c → All (CameBy P) (arrived s by acknowledgement c).held
arrived_held P s by acknowledgement (Shows next gap probe) h came =
    subst (All (CameBy P)) (sym (flushed_held (heard s by acknowledgement (Shows next gap probe)))) (heard_held P s by acknowledgement (Shows next gap probe) h came)
arrived_held P s by acknowledgement (Carries number packet) h came =
    subst (All (CameBy P)) (sym (flushed_held (heard s by acknowledgement (Carries number packet)))) (heard_held P s by acknowledgement (Carries number packet) h came)
arrived_held P s by acknowledgement Nothing h came = h

due_by : (P : ℕ → List ℕ → Type 0) (e : SessionEnd) (t : Taken) → All (CameBy P) e.held → P t.by t.packet → AllBy P (due_with e t)
unfolding due_with
due_by P e t h came = run_by P (window_with e t).held (arrived_by P (receiving e) (standing (receiving e) t) t h came)

due_first : (P : ℕ → List ℕ → Type 0) (e : SessionEnd) (t : Taken) → ComesWhole P t.by t.packet → place_of e t ≡ place.InOrder → FirstBy P (due_with e t)
unfolding due_with
due_first P e t came is = first_place P (receiving e) (standing (receiving e) t) t came is

placed_by : (P : ℕ → List ℕ → Type 0) (at : Place) (due : List Taken) → AllBy P due → (at ≡ place.InOrder → FirstBy P due) → TakenBy P (placed at due)
placed_by P place.InOrder due h first = record { all = h; first = first refl }
placed_by P place.Deferred due h first = nothing_by P LinkOutcome.Deferred refl
placed_by P place.Old due h first = nothing_by P _ refl

outcome_by : (P : ℕ → List ℕ → Type 0) (s : SessionEnd) (by : ℕ) (c : Content) → All (CameBy P) s.held → BringsBy P by c → TakenBy P (outcome s by c)
outcome_by P s by (Shows next gap probe) h came = nothing_by P (LinkOutcome.Took []) refl
outcome_by P s by (Carries number packet) h came =
    let t = brought number packet by in placed_by P (place_of s t) (due_with s t) (due_by P s t h came.itself) (λ is. due_first P s t came is)
outcome_by P s by Nothing h came = nothing_by P _ refl

-- ---- a link end

pub mapped_held : (P : ℕ → List ℕ → Type 0) (f : SessionEnd → SessionEnd) (session : Option SessionEnd) → ((s : SessionEnd) → All (CameBy P) s.held → All (CameBy P) (f s).held) → ((s : SessionEnd) → session ≡ Some s → All (CameBy P) s.held)
    → (s : SessionEnd) → option_map f session ≡ Some s → All (CameBy P) s.held
mapped_held P f None keeps h s has = absurd cc
mapped_held P f (Some t) keeps h s has = let same : f t ≡ s = cc in subst (λ (u : SessionEnd). All (CameBy P) u.held) same (keeps t (h t refl))

-- what was held of a session, or came before there was one
pub record_held : (P : ℕ → List ℕ → Type 0) (session : Option SessionEnd) (early : Option Early) (r : Received) → ((s : SessionEnd) → session ≡ Some s → All (CameBy P) s.held) → record_in session early ≡ Some r → All (CameBy P) r.held
record_held P None None r h is = absurd (let wrong : ⊥ = cc in wrong)
record_held P None (Some a) r h is = let same : early_record a ≡ r = cc in subst (λ (x : Received). All (CameBy P) x.held) same (All-nil (CameBy P))
record_held P (Some s) early r h is = let same : receiving_record s ≡ r = cc in subst (λ (x : Received). All (CameBy P) x.held) same (h s refl)

-- and back
pub session_held : (P : ℕ → List ℕ → Type 0) (e : LinkEnd) → ((r : Received) → record_of e ≡ Some r → All (CameBy P) r.held) → EndBy P e
session_held P e h s has = h (receiving_record s) (ap (λ (o : Option SessionEnd). record_in o e.early) has)

-- a link that goes up keeps it, or holds nothing
kept_held : (P : ℕ → List ℕ → Type 0) (o : Option Received) (epoch : ℕ) → ((r : Received) → o ≡ Some r → All (CameBy P) r.held) → All (CameBy P) (kept_for o epoch).held
kept_held P None epoch h = All-nil (CameBy P)
kept_held P (Some r) epoch h = elim (r.epoch == epoch) as (λ b. All (CameBy P) (if b then r else unheard epoch).held) [
  | true ↦ h r refl
  | false ↦ All-nil (CameBy P)
]

begun_held : (P : ℕ → List ℕ → Type 0) (e : LinkEnd) → EndBy P e → (s : SessionEnd) → Some (session_of e) ≡ Some s → All (CameBy P) s.held
begun_held P e h s has =
    let same : session_of e ≡ s = cc in
    subst (λ (u : SessionEnd). All (CameBy P) u.held) same (kept_held P (record_of e) (known e.fsm.peer) (λ r is. record_held P e.session e.early r h is))

holds_followed : (P : ℕ → List ℕ → Type 0) (e : LinkEnd) (change : Change) → EndBy P e → EndBy P (followed e change)
holds_followed P e Up h = begun_held P e h
holds_followed P e (Answer (reply.State probe)) h = mapped_held P after_state e.session (λ s k. k) h
holds_followed P e other h = h

pub after_by : (P : ℕ → List ℕ → Type 0) (e : LinkEnd) (o : Outcome) → EndBy P e → EndBy P (after e o)
after_by P e o h = holds_followed P (with_fsm e o.after) o.change h

pub answered_by : (P : ℕ → List ℕ → Type 0) (e : LinkEnd) (taken : ℕ) (asks : Bool) → EndBy P e → EndBy P (answered_with e taken asks)
answered_by P e taken asks h =
    either_way (EndBy P) (is_up e.fsm.state) (record e { session = option_map (λ s. answered (with_broadcast s taken asks)) e.session }) e
    (mapped_held P (λ s. answered (with_broadcast s taken asks)) e.session (λ s k. k) h) h

-- ---- an arrival

pub arrival_by : (P : ℕ → List ℕ → Type 0) (e : LinkEnd) (o : Outcome) (p : Fields) (by : ℕ) → EndBy P e → BringsBy P by (content_of p) → EndBy P (arrival_end e o p by)
arrival_by P e o p by h came =
    let then_ = after_by P e o h in
    either_way (EndBy P) (is_heard p.header o.change) _ (after e o)
    (mapped_held P (λ s. arrived s by p.acknowledgement (content_of p)) (after e o).session (λ s k. arrived_held P s by p.acknowledgement (content_of p) k came) then_) then_

pub change_by : (P : ℕ → List ℕ → Type 0) (change : Change) → TakenBy P (change_outcome change)
change_by P (Ignore reason) = nothing_by P _ refl
change_by P other = nothing_by P (LinkOutcome.Took []) refl

heard_by : (P : ℕ → List ℕ → Type 0) (session : Option SessionEnd) (by : ℕ) (c : Content) → ((s : SessionEnd) → session ≡ Some s → All (CameBy P) s.held) → BringsBy P by c → TakenBy P (heard_outcome session by c)
heard_by P None by c h came = nothing_by P (LinkOutcome.Took []) refl
heard_by P (Some s) by c h came = outcome_by P s by c (h s refl) came

pub taken_by : (P : ℕ → List ℕ → Type 0) (e : LinkEnd) (o : Outcome) (p : Fields) (by : ℕ) → EndBy P e → BringsBy P by (content_of p) → TakenBy P (link_outcome e o p by)
taken_by P e o p by h came =
    either_way (TakenBy P) (is_heard p.header o.change) (heard_outcome (after e o).session by (content_of p)) (change_outcome o.change)
    (heard_by P (after e o).session by (content_of p) (after_by P e o h) came) (change_by P o.change)

-- ---- a packet that comes through the other link

named_held : (P : ℕ → List ℕ → Type 0) (o : Option Received) (epoch : ℕ) → ((r : Received) → o ≡ Some r → All (CameBy P) r.held) → All (CameBy P) (named o epoch).held
named_held P None epoch h = All-nil (CameBy P)
named_held P (Some r) epoch h = either_way (λ (x : Received). All (CameBy P) x.held) (nat_lt r.epoch epoch) (unheard epoch) r (All-nil (CameBy P)) (h r refl)

tunnelled_held : (P : ℕ → List ℕ → Type 0) (r : Received) (epoch : ℕ) (t : Taken) → All (CameBy P) r.held → All (CameBy P) (tunnelled r epoch t).held
tunnelled_held P r epoch t h = either_way (λ (x : Received). All (CameBy P) x.held) (is_next r epoch t) _ r (All-drop (CameBy P) (length (freed r t)) r.held h) h

recorded_by : (P : ℕ → List ℕ → Type 0) (e : LinkEnd) (r : Received) → All (CameBy P) r.held → EndBy P (recorded e r)
recorded_by P e r h s has = case e.session has
  where
    case : (o : Option SessionEnd) → option_map (λ x. with_record x r) o ≡ Some s → All (CameBy P) s.held
    case None has = absurd cc
    case (Some x) has = let same : with_record x r ≡ s = cc in subst (λ (u : SessionEnd). All (CameBy P) u.held) same h

pub inner_by : (P : ℕ → List ℕ → Type 0) (t : Tunnelled) (by : ℕ) (e : LinkEnd) → EndBy P e → EndBy P (inner_taken t by e)
inner_by P t by e h =
    let now = named_held P (record_of e) t.old.epoch (λ r is. record_held P e.session e.early r h is) in
    either_way (EndBy P) (t.count == 0) (named_end e t.old.epoch) (tunnelled_end e t.old.epoch (inside_of t by)) (recorded_by P e _ now)
    (recorded_by P e _ (tunnelled_held P (named (record_of e) t.old.epoch) t.old.epoch (inside_of t by) now))

freed_all : (P : ℕ → List ℕ → Type 0) (r : Received) (epoch : ℕ) (t : Taken) → All (CameBy P) r.held → P t.by t.packet → AllBy P (taken_in (tunnelled_outcome r epoch t))
freed_all P r epoch t h came =
    either_way (λ (o : LinkOutcome). AllBy P (taken_in o)) (is_next r epoch t) (LinkOutcome.Took (freed r t)) _
    (All-cons (λ u. P u.by u.packet) t (run_of (drop 1 r.held)) came (run_by P (drop 1 r.held) (All-drop (CameBy P) 1 r.held h)))
    (All-nil (λ t. P t.by t.packet))

pub freed_all_by : (P : ℕ → List ℕ → Type 0) (t : Tunnelled) (by : ℕ) (e : LinkEnd) → EndBy P e → P by (restored t.inner) → AllBy P (freed_by t by e)
freed_all_by P t by e h came =
    either_way (AllBy P) (t.count == 0) [] _ (All-nil (λ t. P t.by t.packet))
    (freed_all P (named (record_of e) t.old.epoch) t.old.epoch (inside_of t by) (named_held P (record_of e) t.old.epoch (λ r is. record_held P e.session e.early r h is)) came)
