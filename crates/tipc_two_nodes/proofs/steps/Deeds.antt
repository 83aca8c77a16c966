-- The numbers, epochs and records of a node through each of its deeds.
use Rattle.std.proofs.Common.{◌≡◌, ◌<◌, ◌^◌, ◌++◌, ℕ, List, Option, Some, None, refl, sym, ap, ◌∙◌, subst, inl, inr, arith}
use Rattle.tipc_types.specs.declared.packet_lists.Taken.{Taken}
use Rattle.tipc_outside.specs.declared.outgoing.Outgoing.{Outgoing}
use Rattle.tipc_header.specs.declared.packet.Header.{Header}
use Rattle.tipc_header.specs.declared.packet.Header.TheVariants as header
use Rattle.tipc_link.specs.Links.{LinkEnd, after, known, notice, notice_fields, record_in, shown_by, with_session}
use Rattle.tipc_link.specs.Records.{Received}
use Rattle.tipc_link.specs.Sessions.{SessionEnd, brought, flushed, moving, receiving_record, after_acknowledgement, took}
use Rattle.tipc_link_fsm.specs.Runs.{outcome}
use Rattle.tipc_header.specs.Spelling.{Fields, spelling}
use Rattle.tipc_two_nodes.specs.links.Receiving.{record_at}
use Rattle.tipc_paired.proofs.sessions.CallDeeds.{GoesOn, calls_on, turns_on}
use Rattle.tipc_paired.proofs.sessions.RiseDeeds.{went}
use Rattle.tipc_paired.proofs.sessions.SessionDeeds.{FitsEpochs, epoch_small, epochs_fit, hears_session}
use Rattle.tipc_paired.proofs.wires.Frames.{es_of-frame, packet_says, state_says}
use Rattle.tipc_paired.proofs.wires.Wires.{epoch_of_end, is_up_of, same_some, session_of_up}
use Rattle.tipc_paired.specs.Deeds.{Changes, DoesDeed, Hears, IsUp, MayTell, Works, activates, besides, calls, changes, falls, framed, made_on, makes, notes, numbers, parts, puts, releases, resets, restarts, rises, sends, shows, states, takes, tells, turns, with_taken, works}
use Rattle.tipc_paired.specs.Paired.{ArePaired}
use Rattle.tipc_paired.specs.Views.{Begun, Frame, Node, View, Wire, epoch_on, es_of, put_at, session_on, with_end, with_told, with_wire}
use Rattle.tipc_two_nodes.specs.Carriages.{IsPresent, Numbers}
use Rattle.tipc_two_nodes.specs.Numbers.{AreNumbers, AreRecorded, IsRecorded, IsTimelyFor, IsToldBy}
use Rattle.tipc_two_nodes.proofs.steps.BesideSteps.{besides_recorded}
use Rattle.tipc_two_nodes.proofs.steps.ContactSteps.{fallen_recorded, parted_recorded, restarted_recorded, risen_recorded}
use Rattle.tipc_two_nodes.proofs.steps.RiseSteps.{rises_recorded, went_told}
use Rattle.tipc_two_nodes.proofs.steps.WireSteps.{fallen_record, goes_keeps, makes_keeps, onward, present_on, recorded_wire, session_keeps, timely_on}

-- ---- records

-- a record of the same epoch, of which as much was taken and is held
like_recorded : (y y' x : View) (b : ℕ) (a a' : Received) → y'.node ≡ y.node → ((g : Begun) → IsTimelyFor y g → IsTimelyFor y' g) → a'.epoch ≡ a.epoch → a'.taken ≡ a.taken → a'.held ≡ a.held → IsRecorded y x b a → IsRecorded y' x b a'
like_recorded y y' x b a a' node timely epoch taken held h = record {
  told = subst (λ (n : Node). IsToldBy x.told b a'.epoch n.seen) (sym node) (subst (λ e. IsToldBy x.told b e y.node.seen) (sym epoch) h.told);
  used = elim h.used [
    | inl unused ↦ inl (record { taken = taken ∙ unused.taken; held = held ∙ unused.held })
    | inr used ↦ inr (used.0, ap (x.wires b).begun epoch ∙ used.1, timely used.0 used.2)
  ];
}

-- the end is made, called or turned
pub makes_recorded : (y x : View) (b : ℕ) → (y.wires b).end ≡ None → AreRecorded y x → AreRecorded (with_wire y b (with_end (y.wires b) (made_on y.node b))) x
makes_recorded y x b none h = recorded_wire y x b (with_end (y.wires b) (made_on y.node b)) h (makes_keeps y b none) (λ a is. absurd (let wrong : ⊥ = cc in wrong))

pub goes_recorded : (y x : View) (b : ℕ) (e e' : LinkEnd) → GoesOn (y.wires b) e e' → AreRecorded y x → AreRecorded (with_wire y b (with_end (y.wires b) e')) x
goes_recorded y x b e e' m h = recorded_wire y x b (with_end (y.wires b) e') h (goes_keeps y.node (y.wires b) e e' m) (λ a is. inl (ap record_at m.end_is ∙ (sym m.record_is ∙ is)))

-- the wire whose session became another one, with other lines
abbrev with_lines : Wire → LinkEnd → SessionEnd → (ℕ → List (List ℕ)) → (ℕ → List (List ℕ)) → Wire
with_lines w e s line got = record { end = Some (with_session e s); begun = w.begun; line = line; got = got }

session_timely : (y : View) (b : ℕ) (e : LinkEnd) (s s' : SessionEnd) (line got : ℕ → List (List ℕ)) → IsUp (y.wires b) e s → (g : Begun) → IsTimelyFor y g → IsTimelyFor (with_wire y b (with_lines (y.wires b) e s' line got)) g
session_timely y b e s s' line got up g = timely_on y (with_wire y b (with_lines (y.wires b) e s' line got)) g refl
    (present_on y (with_wire y b (with_lines (y.wires b) e s' line got)) y.node.contact y.node.seen refl (onward y b (with_lines (y.wires b) e s' line got) (session_keeps y.node (y.wires b) e s s' line got up)))

pub session_record : (w : Wire) (e : LinkEnd) (s : SessionEnd) → IsUp w e s → record_at w.end ≡ Some (receiving_record s)
session_record w e s up = ap record_at up.end_is ∙ ap (λ o. record_in o e.early) up.session_is

-- it takes nothing
pub session_recorded : (y x : View) (b : ℕ) (e : LinkEnd) (s s' : SessionEnd) (line got : ℕ → List (List ℕ)) → IsUp (y.wires b) e s → s'.record_epoch ≡ s.record_epoch → s'.taken ≡ s.taken → s'.held ≡ s.held → AreRecorded y x
    → AreRecorded (with_wire y b (with_lines (y.wires b) e s' line got)) x
session_recorded y x b e s s' line got up epoch taken held h =
    let w' = with_lines (y.wires b) e s' line got in
    recorded_wire y x b w' h (session_keeps y.node (y.wires b) e s s' line got up)
    (λ a is. (
    let same : receiving_record s' ≡ a = cc in
    inr (subst (IsRecorded (with_wire y b w') x b) same (like_recorded y (with_wire y b w') x b (receiving_record s) (receiving_record s') refl (session_timely y b e s s' line got up) epoch taken held (h b (receiving_record s) (session_record (y.wires b) e s up))))))

-- it takes a packet of a frame that arrives, which is of the contact that lasts
pub takes_recorded : (y x : View) (n : Numbers) (b : ℕ) (e : LinkEnd) (s : SessionEnd) (p : Fields) (t : Taken) → ArePaired y x → AreNumbers y x n → IsUp (y.wires b) e s → Hears y x b s p → AreRecorded y x → AreRecorded (with_wire y b (with_taken (y.wires b) e s t)) x
takes_recorded y x n b e s p t h numbered up heard recorded =
    let w' = with_taken (y.wires b) e s t in
    let y' = with_wire y b w' in
    let on = session_of_up (y.wires b) e s up in
    let going = (h.here.wires b).going s on in
    let g = going.begun in
    let now = (h.here.epochs b).now s g on going.begun_is in
    let from = hears_session y x b e s p h up heard in
    let k = from.begun in
    let both = (h.here.epochs b).agree s.epoch g k going.begun_is (ap (x.wires b).begun going.peer_is ∙ from.begun_is) from.peer_is in
    let told = numbered.heard b s.epoch g going.begun_is in
    let keeps = session_keeps y.node (y.wires b) e s (took s t) (y.wires b).line w'.got up in
    let here : IsPresent y y.node.contact y.node.seen = record { bearer = b; session = s; session_is = on; own_is = refl; theirs_is = refl } in
    let epoch : s.record_epoch ≡ g.peer_epoch = going.record_is ∙ sym going.peer_is in
    recorded_wire y x b w' recorded keeps (λ a is. (
    let same : receiving_record (took s t) ≡ a = cc in
    inr (subst (IsRecorded y' x b) same (record {
      told = record {
        place = told.place;
        frame = told.frame;
        there = told.there;
        bearer_is = told.bearer_is;
        epoch_is = told.epoch_is ∙ sym epoch;
        no_later = (let own = told.own_is in let seen = now.1 in omega arith);
      };
      used = inr (
        k,
        ap (x.wires b).begun going.record_is ∙ from.begun_is,
        inr (sym both.0 ∙ now.0, present_on y y' y.node.contact y.node.seen refl (onward y b w' keeps) here, sym both.1 ∙ now.1),
      );
    }))))

-- a frame is told
tells_recorded : (y x : View) (f : Frame) → AreRecorded y x → AreRecorded (with_told y f) x
tells_recorded y x f h b a is =
    let r = h b a is in
    record {
      told = r.told;
      used = elim r.used [ inl unused ↦ inl unused | inr used ↦ inr (used.0, used.1, timely_on y (with_told y f) used.0 refl (present_on y (with_told y f) y.node.contact y.node.seen refl (λ c s on. (s, on))) used.2) ];
    }

-- ---- frames

-- the epochs of the present session have 64 bits, and its own one is that of the wire
fits_here : (x y : View) (b : ℕ) (s : SessionEnd) → ArePaired x y → session_on (x.wires b) ≡ Some s → FitsEpochs s
fits_here x y b s h on = (let up = is_up_of (x.wires b) s on in epochs_fit x y b up.0 s h up.1)

session_epoch : (x y : View) (b : ℕ) (s : SessionEnd) → ArePaired x y → session_on (x.wires b) ≡ Some s → s.epoch ≡ epoch_on x.node (x.wires b)
session_epoch x y b s h on =
    let up = is_up_of (x.wires b) s on in
    let going = (h.here.ends b up.0 up.1.end_is).going up.1.up in
    let same : going.0 ≡ s = same_some going.0 s up.0.session going.1 up.1.session_is in
    ap (λ (u : SessionEnd). u.epoch) (sym same) ∙ (going.2 ∙ sym (epoch_of_end x.node (x.wires b) up.0 up.1.end_is))

known_small : (o : Option ℕ) → ((epoch : ℕ) → o ≡ Some epoch → epoch < 2 ^ 64) → known o < 2 ^ 64
known_small None small = omega arith
known_small (Some epoch) small = small epoch refl

notice_epoch : (x y : View) (b : ℕ) (e : LinkEnd) (said : Header) → ArePaired x y → (x.wires b).end ≡ Some e → es_of (notice e said).frame ≡ epoch_on x.node (x.wires b)
notice_epoch x y b e said h is =
    let end = h.here.ends b e is in
    es_of-frame e.fsm.own (known e.fsm.peer) (spelling (notice_fields e said)) (epoch_small e.fsm.own x.node.boot end.boot h.here.node.boot) (known_small e.fsm.peer (λ epoch k. (end.peer_fits epoch k).0))
    ∙ sym (epoch_of_end x.node (x.wires b) e is)

-- ---- numbers

-- a frame that a node may tell shows the present epoch of its bearer
pub told_epoch : (x y : View) (b : ℕ) (o : Outgoing) → ArePaired x y → MayTell (x.wires b) o → es_of o.frame ≡ epoch_on x.node (x.wires b)
told_epoch x y b _ h (resets e is unheld) = notice_epoch x y b e (header.Reset (shown_by e)) h is
told_epoch x y b _ h (activates e is unheld) = notice_epoch x y b e (header.Activate (shown_by e)) h is
told_epoch x y b _ h (states s shown probe on showable) =
    let fit = fits_here x y b s h on in
    (state_says s shown probe fit.epoch fit.peer_epoch).es ∙ session_epoch x y b s h on
told_epoch x y b _ h (sends s k packet on there) =
    let fit = fits_here x y b s h on in
    (packet_says s packet.number packet.packet fit.epoch fit.peer_epoch).es ∙ session_epoch x y b s h on

-- ---- records through deeds

-- a deed with which a contact begins or ends
pub changes_recorded : (x y x' : View) → ArePaired x y → AreRecorded x y → Changes x y x' → AreRecorded x' y
changes_recorded x y x' h are (rises b e call is may up apart) =
    let m = went x y b e call h is may up in
    let e' = after e (outcome e.fsm call) in
    rises_recorded x y b e e' m.0 m.1 (went_told x y b e e' m.0 h m.1) are
changes_recorded x y x' h are (falls b e call cause is may down) = fallen_recorded x y b e (after e (outcome e.fsm call)) is (fallen_record e (outcome e.fsm call) cause down) are
changes_recorded x y x' h are (parts b e is up) = parted_recorded x y are
changes_recorded x y x' h are (restarts boot more fits) = restarted_recorded x y boot

pub works_recorded : (x y x' : View) → AreRecorded x y → Works x y x' → AreRecorded x' y
unfolding flushed
works_recorded x y x' are (makes b none) = makes_recorded x y b none are
works_recorded x y x' are (turns b e mended is) = goes_recorded x y b e (record e { mended = mended }) (turns_on (x.wires b) e mended is) are
works_recorded x y x' are (calls b e call is may quiet) = goes_recorded x y b e (after e (outcome e.fsm call)) (calls_on x y b e call is may quiet) are
works_recorded x y x' are (shows number higher fits apart heard) = risen_recorded x y number higher apart are
works_recorded x y x' are (releases b e s p up heard) = session_recorded x y b e s (after_acknowledgement s p.acknowledgement) (x.wires b).line (x.wires b).got up refl refl refl are
works_recorded x y x' are (notes b e s shown unanswered owes up most) = session_recorded x y b e s (record s { shown = shown; unanswered = unanswered; owes = owes }) (x.wires b).line (x.wires b).got up refl refl refl are
works_recorded x y x' are (numbers b e s up) = session_recorded x y b e s (flushed s) (put_at (x.wires b).line s.epoch ((x.wires b).line s.epoch ++ moving s)) (x.wires b).got up refl refl refl are
works_recorded x y x' are (tells b o may) = tells_recorded x y (framed x y b o) are

pub does_recorded : (x y x' : View) (n : Numbers) → ArePaired x y → AreNumbers x y n → AreRecorded x y → DoesDeed x y x' → AreRecorded x' y
does_recorded x y x' n h numbered are (works _ w) = works_recorded x y x' are w
does_recorded x y x' n h numbered are (changes _ c) = changes_recorded x y x' h are c
does_recorded x y x' n h numbered are (besides _ c) = besides_recorded x y x' h are c
does_recorded x y x' n h numbered are (puts b e s waiting up packets) = session_recorded x y b e s (record s { sending = record s.sending { waiting = waiting } }) (x.wires b).line (x.wires b).got up refl refl refl are
does_recorded x y x' n h numbered are (takes b e s p number by packet up heard carries) = takes_recorded x y n b e s p (brought number packet by) h numbered up heard are
