-- What an outcome of link states makes of a link end: its link goes up, goes down, or stays as it was.
use Rattle.std.proofs.Common.{◌≡◌, ◌==◌, ◌&&◌, ◌||◌, ℕ, Bool, true, false, Option, Some, None, if◌then◌else◌, is_some, nat_le, nat_lt, not, inl, inr, ◌⊎◌, refl, sym, ap, ◌∙◌}
use Rattle.std.proofs.lemmas.Bool.{and_parts}
use Rattle.tipc_types.specs.LinkStates.{is_up}
use Rattle.tipc_types.specs.declared.link_words.LinkState.{LinkState}
use Rattle.tipc_types.specs.declared.link_words.LinkState.TheVariants.{ResetUnknown, ResetReset, WorkingWorking, WorkingUnknown, Held}
use Rattle.tipc_types.specs.declared.link_words.Reply.TheVariants as reply
use Rattle.tipc_header.specs.declared.packet.Header.{Header}
use Rattle.tipc_header.specs.declared.packet.Header.TheVariants as header
use Rattle.tipc_header.specs.Spelling.{Fields}
use Rattle.tipc_link_fsm.specs.declared.changes.Change.{Change}
use Rattle.tipc_link_fsm.specs.declared.changes.Change.TheVariants.{Stay, Up, Down, Answer, Ignore}
use Rattle.tipc_link_fsm.specs.Table.{Fsm, Outcome, contact_ended, forget_peer, heard, is_held, is_in_reset, is_last, is_peer, is_reset_reset, is_session, lowered, on_activate, on_cut, on_peer_tunnel, on_reset, on_tick, on_traffic, release, tick_in, unheard, up_tick}
use Rattle.tipc_link_fsm.proofs.Moves.{cases_on, is_up_in_reset, is_up_held as held_down}
use Rattle.tipc_link.specs.Links.{LinkEnd, after, arrival_end, cut_end, followed, is_heard, known, outcome_of, tunnelled_down, with_fsm}
use Rattle.tipc_link.proofs.Ends.{ended-is, forgotten-is}
use Rattle.tipc_pair.proofs.EndSteps.{fsm_after, fsm_arrived, some_after}
use Rattle.tipc_pair.specs.LinkReadings.{IsAbreast, epochs_of}
use Rattle.tipc_pair.proofs.turns.Moves.{IsEndOn, mapped_some, unknown_abreast, up_epochs_are, either_true as or_second}
use Rattle.tipc_pair.proofs.acts.Walks.{tested}
-- ---- link states
use Rattle.tipc_pair.proofs.turns.Causes.{lowered_down as lowered_up}

-- an end that is up or heard its peer's reset knows the highest epoch of the peer that it has seen
abbrev pub KnowsPeer : Fsm → Type 0
KnowsPeer f = (is_up f.state || is_reset_reset f.state) ≡ true → f.peer ≡ Some f.highest

-- what a change makes of the link states
abbrev pub Steps : Fsm → Fsm → Change → Type 0
Steps f f' Up = (is_up f.state ≡ false) × (is_up f'.state ≡ true)
Steps f f' (Down because) = (is_up f.state ≡ true) × (is_up f'.state ≡ false)
Steps f f' other = (is_up f'.state ≡ is_up f.state) × (f'.own ≡ f.own) × (is_up f'.state ≡ true → f'.peer ≡ f.peer)

abbrev pub Turns : Fsm → Outcome → Type 0
Turns f o = Steps f o.after o.change × KnowsPeer o.after

pub reset_down : (st : LinkState) → is_reset_reset st ≡ true → is_up st ≡ false
reset_down ResetReset is = refl
reset_down ResetUnknown is = absurd cc
reset_down WorkingWorking is = absurd cc
reset_down WorkingUnknown is = absurd cc
reset_down Held is = absurd cc

lowered_knows : (f : Fsm) (held : Bool) → KnowsPeer (lowered f held)
lowered_knows f true = λ is. absurd cc
lowered_knows f false = λ is. absurd cc

heard_knows : (f : Fsm) → f.peer ≡ Some f.highest → KnowsPeer (heard f)
heard_knows f is = λ _. is

pub reset_turns : (f : Fsm) (es : ℕ) (held : Bool) → KnowsPeer f → Turns f (on_reset f es held)
unfolding on_reset
reset_turns f es held knows =
    cases_on (Turns f) (is_held f.state) _ _ (λ h. ((refl, refl, λ _. refl), knows)) (λ h.
    cases_on (Turns f) (nat_lt es f.highest || (is_up f.state && is_peer f.peer es)) _ _ (λ h. ((refl, refl, λ _. refl), knows)) (λ h.
    cases_on (Turns f) (is_up f.state) _ _ (λ up. ((up, lowered_up f held), lowered_knows f held)) (λ down. ((sym down, refl, λ up. absurd cc), λ _. refl))))

pub activate_turns : (f : Fsm) (es er : ℕ) → KnowsPeer f → Turns f (on_activate f es er)
unfolding on_activate
activate_turns f es er knows =
    cases_on (Turns f) (is_held f.state) _ _ (λ h. ((refl, refl, λ _. refl), knows)) (λ h.
    cases_on (Turns f) ((is_in_reset f.state && not (is_last f.own)) && ((er == f.own) && not (nat_lt es f.highest))) _ _
    (λ fits. ((is_up_in_reset f.state (and_parts (is_in_reset f.state) _ (and_parts (is_in_reset f.state && not (is_last f.own)) _ fits).0).0, refl), λ _. refl))
    (λ h. cases_on (Turns f) (is_up f.state && is_session f es er) _ _
    (λ fits. let up = (and_parts (is_up f.state) _ fits).0 in ((sym up, refl, λ _. refl), heard_knows f (knows (ap (λ b. b || is_reset_reset f.state) up))))
    (λ h. ((refl, refl, λ _. refl), knows))))

pub traffic_turns : (f : Fsm) (es er : ℕ) → KnowsPeer f → Turns f (on_traffic f es er)
unfolding on_traffic
traffic_turns f es er knows =
    cases_on (Turns f) (is_session f es er && (is_reset_reset f.state && not (is_last f.own))) _ _
    (λ fits. let reset = (and_parts (is_reset_reset f.state) _ (and_parts (is_session f es er) _ fits).1).0 in
    ((reset_down f.state reset, refl), heard_knows f (knows (or_second (is_up f.state) (is_reset_reset f.state) reset))))
    (λ h. cases_on (Turns f) (is_session f es er && is_up f.state) _ _
    (λ fits. let up = (and_parts (is_session f es er) _ fits).1 in ((sym up, refl, λ _. refl), heard_knows f (knows (ap (λ b. b || is_reset_reset f.state) up))))
    (λ h. ((refl, refl, λ _. refl), knows)))

pub outcome_turns : (f : Fsm) (h : Header) (es er : ℕ) (held : Bool) → KnowsPeer f → Turns f (outcome_of f h es er held)
outcome_turns f (header.Reset r) es er held knows = reset_turns f es held knows
outcome_turns f (header.Activate a) es er held knows = activate_turns f es er knows
outcome_turns f (header.Discovery d) es er held knows = ((refl, refl, λ _. refl), knows)
outcome_turns f other es er held knows = traffic_turns f es er knows

pub unheard_up : (f : Fsm) → is_up (unheard f).state ≡ true
unheard_up f = tested (λ st. is_up st ≡ true) (nat_le 1 f.silent) WorkingUnknown WorkingWorking (λ t. refl) (λ t. refl)

up_ticks : (f : Fsm) (held : Bool) → is_up f.state ≡ true → KnowsPeer f → Turns f (up_tick f held)
up_ticks f held up knows =
    cases_on (Turns f) (f.silent == 4) _ _ (λ four. ((up, lowered_up f held), lowered_knows f held))
    (λ fewer. ((unheard_up f ∙ sym up, refl, λ _. refl), λ _. knows (ap (λ b. b || is_reset_reset f.state) up)))

ticks_in : (st : LinkState) (f : Fsm) (held : Bool) → f.state ≡ st → KnowsPeer f → Turns f (tick_in st f held)
ticks_in ResetUnknown f held is knows = ((refl, refl, λ _. refl), knows)
ticks_in ResetReset f held is knows = ((refl, refl, λ _. refl), knows)
ticks_in Held f held is knows = ((refl, refl, λ _. refl), knows)
ticks_in WorkingWorking f held is knows = up_ticks f held (ap is_up is) knows
ticks_in WorkingUnknown f held is knows = up_ticks f held (ap is_up is) knows

pub tick_turns : (f : Fsm) (held : Bool) → KnowsPeer f → Turns f (on_tick f held)
unfolding on_tick
tick_turns f held knows = ticks_in f.state f held refl knows

pub cut_turns : (f : Fsm) (held : Bool) → KnowsPeer f → Turns f (on_cut f held)
unfolding on_cut
cut_turns f held knows =
    cases_on (Turns f) (is_up f.state) _ _ (λ up. ((up, lowered_up f held), lowered_knows f held)) (λ down. ((refl, refl, λ _. refl), knows))

pub tunnel_turns : (f : Fsm) (epoch : ℕ) → KnowsPeer f → Turns f (on_peer_tunnel f epoch)
unfolding on_peer_tunnel
tunnel_turns f epoch knows =
    cases_on (Turns f) (is_up f.state && is_peer f.peer epoch) _ _
    (λ fits. (((and_parts (is_up f.state) _ fits).0, refl), λ is. absurd cc)) (λ h. ((refl, refl, λ _. refl), knows))

-- ---- a link end

-- what a change makes of a link end
abbrev pub Moved : LinkEnd → LinkEnd → Change → Type 0
Moved e e' Up = (is_up e.fsm.state ≡ false) × (is_up e'.fsm.state ≡ true)
Moved e e' (Down because) = (is_up e.fsm.state ≡ true) × (is_up e'.fsm.state ≡ false)
Moved e e' other = (is_up e'.fsm.state ≡ is_up e.fsm.state) × (epochs_of e' ≡ epochs_of e)

-- the end after it is abreast on its bearer
pub record MovesTo (bearer : ℕ) (e e' : LinkEnd) (change : Change) : Type 0 where
  pub moved : Moved e e' change
  pub end : IsEndOn bearer e'

alike_up : (e e' : LinkEnd) → is_up e'.fsm.state ≡ is_up e.fsm.state → e'.fsm.own ≡ e.fsm.own → (is_up e'.fsm.state ≡ true → e'.fsm.peer ≡ e.fsm.peer) → epochs_of e' ≡ epochs_of e
alike_up e e' up own peer =
    tested (λ (o : Option (ℕ × ℕ)). o ≡ epochs_of e) (is_up e'.fsm.state) (Some (e'.fsm.own, known e'.fsm.peer)) None
    (λ is. ap (λ n. Some (n, known e'.fsm.peer)) own ∙ ap (λ p. Some (e.fsm.own, known p)) (peer is) ∙ sym (up_epochs_are e (sym up ∙ is)))
    (λ not. sym (ap (λ b. if b then Some (e.fsm.own, known e.fsm.peer) else None) (sym up ∙ not)))

-- one whose link stays as it is
still_by : (e e' : LinkEnd) (f' : Fsm) → e'.fsm ≡ f' → (is_up f'.state ≡ is_up e.fsm.state) × (f'.own ≡ e.fsm.own) × (is_up f'.state ≡ true → f'.peer ≡ e.fsm.peer)
    → (is_up e'.fsm.state ≡ is_up e.fsm.state) × (epochs_of e' ≡ epochs_of e)
still_by e e' f' is s =
    let up : is_up e'.fsm.state ≡ is_up e.fsm.state = ap (λ (f : Fsm). is_up f.state) is ∙ s.0 in
    (up, alike_up e e' up (ap (λ (f : Fsm). f.own) is ∙ s.1) (λ here. ap (λ (f : Fsm). f.peer) is ∙ s.2 (ap (λ (f : Fsm). is_up f.state) (sym is) ∙ here)))

-- an end with these link states
moved_by : (e e' : LinkEnd) (f' : Fsm) (change : Change) → e'.fsm ≡ f' → Steps e.fsm f' change → Moved e e' change
moved_by e e' f' Up is s = (s.0, ap (λ (f : Fsm). is_up f.state) is ∙ s.1)
moved_by e e' f' (Down because) is s = (s.0, ap (λ (f : Fsm). is_up f.state) is ∙ s.1)
moved_by e e' f' Stay is s = still_by e e' f' is s
moved_by e e' f' (Answer back) is s = still_by e e' f' is s
moved_by e e' f' (Ignore reason) is s = still_by e e' f' is s

-- an end with these link states whose session begins with its link is abreast
pub moves_to : (bearer : ℕ) (e e' : LinkEnd) (o : Outcome) → IsEndOn bearer e → e'.fsm ≡ o.after → e'.bearer ≡ e.bearer → (is_up o.after.state ≡ true → is_some e'.session ≡ true) → Turns e.fsm o → MovesTo bearer e e' o.change
moves_to bearer e e' o h is on begun t = record {
  moved = moved_by e e' o.after o.change is t.0;
  end = record {
    on = on ∙ h.on;
    abreast = record {
      peer_is = λ here. ap (λ (f : Fsm). f.peer) is ∙ t.1 (ap (λ (f : Fsm). is_up f.state || is_reset_reset f.state) (sym is) ∙ here) ∙ ap (λ (f : Fsm). Some f.highest) (sym is);
      begun = λ up. begun (ap (λ (f : Fsm). is_up f.state) (sym is) ∙ up);
    };
  };
}

-- where a link is up afterwards it was before, or it went up
rises_or : (f f' : Fsm) (change : Change) → Steps f f' change → is_up f'.state ≡ true → (change ≡ Up) ⊎ (is_up f.state ≡ true)
rises_or f f' Up s up = inl refl
rises_or f f' (Down because) s up = absurd (let wrong : true ≡ false = sym up ∙ s.1 in cc)
rises_or f f' Stay s up = inr (sym s.0 ∙ up)
rises_or f f' (Answer back) s up = inr (sym s.0 ∙ up)
rises_or f f' (Ignore reason) s up = inr (sym s.0 ∙ up)

after_begun : (e : LinkEnd) (o : Outcome) → IsAbreast e → Steps e.fsm o.after o.change → is_up o.after.state ≡ true → is_some (after e o).session ≡ true
after_begun e o h s up = elim (rises_or e.fsm o.after o.change s up) [
  | inl rose ↦ ap (λ (c : Change). is_some (followed (with_fsm e o.after) c).session) rose
  | inr was ↦ some_after e o (h.begun was)
]

after_on : (e : LinkEnd) (f : Fsm) (change : Change) → (followed (with_fsm e f) change).bearer ≡ e.bearer
after_on e f Up = refl
after_on e f (Answer (reply.State probe)) = refl
after_on e f other = refl

pub after_moves : (bearer : ℕ) (e : LinkEnd) (o : Outcome) → IsEndOn bearer e → Turns e.fsm o → MovesTo bearer e (after e o) o.change
after_moves bearer e o h t = moves_to bearer e (after e o) o h (fsm_after e o) (after_on e o.after o.change) (after_begun e o h.abreast t.0) t

arrived_some : (e : LinkEnd) (o : Outcome) (p : Fields) (by : ℕ) → is_some (after e o).session ≡ true → is_some (arrival_end e o p by).session ≡ true
arrived_some e o p by is = tested (λ (x : LinkEnd). is_some x.session ≡ true) (is_heard p.header o.change) _ _ (λ _. mapped_some _ (after e o).session is) (λ _. is)

pub arrived_on : (e : LinkEnd) (o : Outcome) (p : Fields) (by : ℕ) → (arrival_end e o p by).bearer ≡ e.bearer
arrived_on e o p by = tested (λ (x : LinkEnd). x.bearer ≡ e.bearer) (is_heard p.header o.change) _ _ (λ _. after_on e o.after o.change) (λ _. after_on e o.after o.change)

pub arrival_moves : (bearer : ℕ) (e : LinkEnd) (o : Outcome) (p : Fields) (by : ℕ) → IsEndOn bearer e → Turns e.fsm o → MovesTo bearer e (arrival_end e o p by) o.change
arrival_moves bearer e o p by h t =
    moves_to bearer e (arrival_end e o p by) o h (fsm_arrived e o p by) (arrived_on e o p by) (λ up. arrived_some e o p by (after_begun e o h.abreast t.0 up)) t

down_begun : (f f' : Fsm) (change : Change) (some : Bool) → Steps f f' change → (change ≡ Up → ⊥) → (is_up f.state ≡ true → some ≡ true) → is_up f'.state ≡ true → some ≡ true
down_begun f f' change some s never before up = elim (rises_or f f' change s up) [ inl rose ↦ absurd (never rose) | inr was ↦ before was ]

never_cut : (f : Fsm) (held : Bool) → (on_cut f held).change ≡ Up → ⊥
unfolding on_cut
never_cut f held = cases_on (λ (o : Outcome). o.change ≡ Up → ⊥) (is_up f.state) _ _ (λ up is. cc) (λ down is. cc)

never_tunnel : (f : Fsm) (epoch : ℕ) → (on_peer_tunnel f epoch).change ≡ Up → ⊥
unfolding on_peer_tunnel
never_tunnel f epoch = cases_on (λ (o : Outcome). o.change ≡ Up → ⊥) (is_up f.state && is_peer f.peer epoch) _ _ (λ up is. cc) (λ down is. cc)

pub cut_moves : (bearer : ℕ) (e : LinkEnd) (held : Bool) → IsEndOn bearer e → MovesTo bearer e (cut_end e held) (on_cut e.fsm held).change
cut_moves bearer e held h =
    let t = cut_turns e.fsm held h.abreast.peer_is in
    moves_to bearer e (cut_end e held) (on_cut e.fsm held) h refl refl (down_begun e.fsm (on_cut e.fsm held).after (on_cut e.fsm held).change (is_some e.session) t.0 (never_cut e.fsm held) h.abreast.begun) t

pub tunnel_moves : (bearer : ℕ) (e : LinkEnd) (epoch : ℕ) → IsEndOn bearer e → MovesTo bearer e (tunnelled_down e epoch) (on_peer_tunnel e.fsm epoch).change
tunnel_moves bearer e epoch h =
    let t = tunnel_turns e.fsm epoch h.abreast.peer_is in
    moves_to bearer e (tunnelled_down e epoch) (on_peer_tunnel e.fsm epoch) h refl refl (down_begun e.fsm (on_peer_tunnel e.fsm epoch).after (on_peer_tunnel e.fsm epoch).change (is_some e.session) t.0 (never_tunnel e.fsm epoch) h.abreast.begun) t

-- ---- an end that is down in any case

-- an end with these link states, in which it is down and knows nothing of its peer
pub unknown_end : (bearer : ℕ) (e : LinkEnd) → e.bearer ≡ bearer → e.fsm.state ≡ ResetUnknown → IsEndOn bearer e
unknown_end bearer e on is = record { abreast = unknown_abreast e is; on = on }

pub ended_unknown : (f : Fsm) → (contact_ended f).after.state ≡ ResetUnknown
ended_unknown f = ap (λ (g : Fsm). g.state) (ended-is f)

pub forgotten_unknown : (f : Fsm) → is_up f.state ≡ false → (forget_peer f).after.state ≡ ResetUnknown
forgotten_unknown f down = ap (λ (g : Fsm). g.state) (forgotten-is f down)

-- an end that is held is released
abbrev LetsGo : LinkEnd → ℕ → Outcome → Type 0
LetsGo e bearer o = IsEndOn bearer (with_fsm e o.after) × (is_up o.after.state ≡ is_up e.fsm.state) × (epochs_of (with_fsm e o.after) ≡ epochs_of e)

pub release_moves : (bearer : ℕ) (e : LinkEnd) → IsEndOn bearer e → LetsGo e bearer (release e.fsm)
unfolding release
release_moves bearer e h =
    cases_on (LetsGo e bearer) (is_held e.fsm.state) _ _
    (λ held. let down = held_down e.fsm.state held in (unknown_end bearer _ h.on refl, sym down, sym (ap (λ b. if b then Some (e.fsm.own, known e.fsm.peer) else None) down)))
    (λ not. (record { abreast = record { peer_is = h.abreast.peer_is; begun = h.abreast.begun }; on = h.on }, refl, refl))
