-- What an arrival makes of a link, and what the link sends for it.
use Rattle.std.proofs.Common.{◌≡◌, ℕ, ◌++◌, true, false, [], Some, Result, Ok, Err, refl, sym, ap, ◌∙◌, subst, if◌then◌else◌}
use Rattle.std.specs.Prelude.{IfOk}
use Rattle.tipc_types.specs.declared.link_words.BroadcastState.{BroadcastState}
use Rattle.tipc_outside.specs.Frames.{Adds, AddsFirst, Gains, Out, made_first}
use Rattle.tipc_outside.proofs.Adding.{first_and_behind, gains_more, gains_none}
use Rattle.tipc_header.specs.Spelling.{Fields}
use Rattle.tipc_recv_window.specs.Receiving.{Receiving}
use Rattle.tipc_link_fsm.specs.declared.changes.Change.{Change}
use Rattle.tipc_link_fsm.specs.declared.changes.Change.TheVariants.{Stay}
use Rattle.tipc_link_fsm.specs.Table.{Fsm, Outcome}
use Rattle.tipc_link.specs.Sessions.{SessionEnd, Content, Shows, Carries, Nothing, again_frames, arrival_frames, arrived, content_of, due_with, heard, moved_at, moved_frames, outcome, receiving}
use Rattle.tipc_link.specs.Links.{LinkEnd, after, frames, heard_by, heard_outcome, is_heard, link_frames, link_outcome, newly_numbered, sent_again}
use Rattle.tipc_link.specs.Hearings.{HearingState, IsArriving, IsHearing, IsWindowHearing, window_outcome}

-- ---- what moves up behind what was heard

arrived_is : (e : SessionEnd) (by acknowledgement : ℕ) (c : Content) → moved_at c (heard e by acknowledgement c) ≡ arrived e by acknowledgement c
arrived_is e by acknowledgement (Shows next gap probe) = refl
arrived_is e by acknowledgement (Carries number packet) = refl
arrived_is e by acknowledgement Nothing = refl

pub arrived_by : (e between after : SessionEnd) (by acknowledgement : ℕ) (c : Content) → between ≡ heard e by acknowledgement c → after ≡ moved_at c between → after ≡ arrived e by acknowledgement c
arrived_by e between after by acknowledgement c first second = second ∙ ap (moved_at c) first ∙ arrived_is e by acknowledgement c

pub frames_by : (e between : SessionEnd) (a b d : Out) (by acknowledgement : ℕ) (c : Content) → between ≡ heard e by acknowledgement c
    → AddsFirst a b (again_frames e acknowledgement c) → Adds b d (moved_frames c between) → Gains a d (arrival_frames e by acknowledgement c)
frames_by e between a b d by acknowledgement c is first second =
    first_and_behind a b d _ _ first (subst (λ (s : SessionEnd). Adds b d (moved_frames c s)) is second)

-- a packet that the session hears: its frames leave behind those of the link states, group by group
pub heard_gains : (a b c : Out) (e : LinkEnd) (o : Outcome) (p : Fields) (by : ℕ) (shown : BroadcastState) → is_heard p.header o.change ≡ true
    → AddsFirst a b (frames e o shown) → Gains b c (heard_by (after e o).session by p.acknowledgement (content_of p)) → Gains a c (link_frames e o p by shown)
heard_gains a b c e o p by shown heard first second =
    subst (λ h. Gains a c (record {
      first = frames e o shown ++ (if h then sent_again (after e o).session p.acknowledgement (content_of p) else []);
      behind = if h then newly_numbered (after e o).session by p.acknowledgement (content_of p) else [];
    })) (sym heard) (gains_more a b c (made_first (frames e o shown)) (heard_by (after e o).session by p.acknowledgement (content_of p)) first second)

-- one that no session hears
pub unheard_gains : (a b : Out) (e : LinkEnd) (o : Outcome) (p : Fields) (by : ℕ) (shown : BroadcastState) → is_heard p.header o.change ≡ false
    → AddsFirst a b (frames e o shown) → Gains a b (link_frames e o p by shown)
unheard_gains a b e o p by shown unheard first =
    subst (λ h. Gains a b (record {
      first = frames e o shown ++ (if h then sent_again (after e o).session p.acknowledgement (content_of p) else []);
      behind = if h then newly_numbered (after e o).session by p.acknowledgement (content_of p) else [];
    })) (sym unheard) (gains_more a b b (made_first (frames e o shown)) (record { first = []; behind = [] }) first (gains_none b))

link_outcome-heard : (e : LinkEnd) (o : Outcome) (p : Fields) (by : ℕ) → is_heard p.header o.change ≡ true → link_outcome e o p by ≡ heard_outcome (after e o).session by (content_of p)
link_outcome-heard e o p by heard = rw heard refl

-- a packet of the present session
pub arriving_stays : {F : Type 0} (r : Result HearingState F) (e : LinkEnd) (p : Fields) (fsm : Fsm) (change : Change) (by : ℕ) → change ≡ Stay → is_heard p.header change ≡ true
    → IfOk r (λ h. h.by ≡ by) → ((s : SessionEnd) → e.session ≡ Some s → IfOk r (λ h. IsHearing s p h)) → IfOk r (λ h. h.outcome ≡ heard_outcome e.session by (content_of p))
    → IfOk r (λ h. IsArriving e p (record { states = record { after = fsm; change = change }; hearing = h }))
arriving_stays (Err fault) e p fsm change by stay heard numbered hearing brings = numbered
arriving_stays (Ok h) e p fsm change by stay heard numbered hearing brings =
    let heard_stay : is_heard p.header Stay ≡ true = subst (λ ch. is_heard p.header ch ≡ true) stay heard in
    let told : h.outcome ≡ link_outcome e (record { after = fsm; change = Stay }) p h.by =
    brings ∙ ap (λ n. heard_outcome e.session n (content_of p)) (sym numbered) ∙ sym (link_outcome-heard e (record { after = fsm; change = Stay }) p h.by heard_stay) in
    subst (λ ch. IsArriving e p (record { states = record { after = fsm; change = ch }; hearing = h })) (sym stay) (record { heard = λ s _ is. hearing s is; outcome = told })

-- ---- what a packet makes of a record, and of the session that keeps it

outcome-window : (e : SessionEnd) (by : ℕ) (c : Content) → window_outcome (receiving e) by c ≡ outcome e by c
unfolding due_with
outcome-window e by (Shows next gap probe) = refl
outcome-window e by (Carries number packet) = refl
outcome-window e by Nothing = refl

hearing_at : (e : SessionEnd) (w : Receiving) (p : Fields) (h : HearingState) → w ≡ receiving e → IsWindowHearing w p h → IsHearing e p h
hearing_at e w p h same is =
    let at = subst (λ v. IsWindowHearing v p h) same is in
    record { window = at.window; outcome = at.outcome ∙ outcome-window e h.by (content_of p) }

pub hears_at : {F : Type 0} (r : Result HearingState F) (e : SessionEnd) (w : Receiving) (p : Fields) → w ≡ receiving e → IfOk r (λ h. IsWindowHearing w p h) → IfOk r (λ h. IsHearing e p h)
hears_at (Err fault) e w p same is = is
hears_at (Ok h) e w p same is = hearing_at e w p h same is
