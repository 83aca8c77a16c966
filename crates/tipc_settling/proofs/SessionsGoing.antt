-- While no link goes up or down, each session of a pair goes on.
use Rattle.std.specs.Prelude.{if◌then◌else◌, ◌-◌, not, ◌&&◌, ◌||◌, ◌==◌, nat_le, nat_lt}
use Rattle.std.specs.List.{AllByRecursion}
use Rattle.std.proofs.Common.{◌≡◌, ◌≤◌, ◌∙◌, ℕ, Bool, true, false, List, [], ◌∷◌, Option, Some, None, option_map, refl, sym, ap, subst, arith}
use Rattle.std.proofs.lemmas.Bool.Decides.{nat_tests}
use Rattle.std.proofs.lemmas.List.Elements.{All-from_recursion}
use Rattle.tipc_types.specs.LinkStates.{is_up}
use Rattle.tipc_types.specs.declared.link_words.LinkState.{LinkState}
use Rattle.tipc_types.specs.declared.link_words.LinkState.TheVariants.{Held, ResetReset, ResetUnknown, WorkingUnknown, WorkingWorking}
use Rattle.tipc_types.specs.declared.link_words.Reply.TheVariants as reply
use Rattle.tipc_types.specs.declared.packet_lists.Taken.{Taken}
use Rattle.tipc_outside.specs.declared.outgoing.Outgoing.{Outgoing}
use Rattle.tipc_header.specs.Spelling.{Fields}
use Rattle.tipc_recv_window.specs.declared.outcomes.LinkOutcome.{LinkOutcome}
use Rattle.tipc_header.specs.declared.packet.Header.{Header}
use Rattle.tipc_header.specs.declared.packet.Header.TheVariants as header
use Rattle.tipc_link_fsm.specs.declared.changes.Change.{Change}
use Rattle.tipc_link_fsm.specs.declared.changes.Change.TheVariants.{Answer, Down, Ignore, Stay, Up}
use Rattle.tipc_link_fsm.specs.Table.{Fsm, Outcome, is_held, is_in_reset, is_last, is_peer, is_reset_reset, is_session, on_activate, on_cut, on_peer_tunnel, on_reset, on_tick, on_traffic, release, tick_in, unheard}
use Rattle.tipc_link_fsm.proofs.Moves.{cases_on, is_going_up, is_up_held}
use Rattle.tipc_tunnel.specs.Tunnels.{Tunnelled}
use Rattle.tipc_repair.specs.Laws.{GoesOn}
use Rattle.tipc_repair.proofs.Going.{flushes, hearings, puts as puts_go, records, tellings}
use Rattle.tipc_link.specs.Links.{LinkEnd, after, arrival_end, answered_with, followed, heard_end, is_down, is_heard, mended_end, named_end, outcome_of, record_of, tunnelled_end, with_fsm, with_session}
use Rattle.tipc_link.specs.Records.{advanced_by, is_next, named, tunnelled, unheard as unheard_record}
use Rattle.tipc_link.specs.Sessions.{Carries, Content, IsPut, Nothing, SessionEnd, Shows, after_acknowledgement, after_state, answered, arrived, content_of, flushed, heard, joins, noted, receiving_record, repeated, spoke, waits, with_broadcast, with_record}
use Rattle.tipc_pair.specs.Changeovers.{contact_ends, following, forgetting, forgotten, let_go, risen}
use Rattle.tipc_pair.specs.Courses.{Course, going_on, rests as nothing}
use Rattle.tipc_pair.specs.Facing.{PairEnds, facing, in_contact, is_up_at, other, turned, with_made, with_near}
use Rattle.tipc_pair.specs.PairArrivals.{hears as heard_by, inner_taken, inside_of}
use Rattle.tipc_pair.specs.PairTurns.{MakesNew, Opening, PairTurn, Reply}
use Rattle.tipc_pair.specs.PairTurns.Opening.{cuts, hears, makes, mends, rests, ticks}
use Rattle.tipc_pair.proofs.acts.Acts.{Act, Acts, Steps, near_course}
use Rattle.tipc_pair.proofs.acts.Acts.Act.{carries as carrying, makes as making}
use Rattle.tipc_pair.proofs.acts.Acts.Acts.{answered as answered_one, counted, let_go_of, made, mended, moved, opened, put as put_one, raised}
use Rattle.tipc_pair.proofs.acts.Acts.Steps.{cut, meet, name, reset, tick}
use Rattle.tipc_pair.proofs.acts.Acting.{MayHappen, MayOpen, MayTurn, hears_may, turn_changes, turn_course, turn_pair, turn_ran}
use Rattle.tipc_pair.proofs.acts.Walks.{Walk, step_moves, tested, walks}
use Rattle.tipc_settling.specs.Goings.{BringsKnown, EndGoesOn, HaveRecords, OpensKnown, SessionsLast, StaysOn, up_session}
use Rattle.tipc_settling.proofs.Packets.{forget_stays, moved_down, none_behind, none_in_front, one_told, release_stays}

-- ---- sessions

stays : (s : SessionEnd) → StaysOn s s
stays s = record { own = refl; peer = refl; bearer = refl; epoch = refl; peer_epoch = refl; record_epoch = refl; goes = record { numbered = omega arith; acked = omega arith; taken = omega arith; shown = omega arith } }

pub goes_then : (s t u : SessionEnd) → GoesOn s t → GoesOn t u → GoesOn s u
goes_then s t u h k =
    let numbered = h.numbered in
    let acked = h.acked in
    let taken = h.taken in
    let shown = h.shown in
    let numbered_then = k.numbered in
    let acked_then = k.acked in
    let taken_then = k.taken in
    let shown_then = k.shown in
    record { numbered = omega (arith, numbered, numbered_then); acked = omega (arith, acked, acked_then); taken = omega (arith, taken, taken_then); shown = omega (arith, shown, shown_then) }

pub stays_then : (s t u : SessionEnd) → StaysOn s t → StaysOn t u → StaysOn s u
stays_then s t u h k = record {
  own = k.own ∙ h.own;
  peer = k.peer ∙ h.peer;
  bearer = k.bearer ∙ h.bearer;
  epoch = k.epoch ∙ h.epoch;
  peer_epoch = k.peer_epoch ∙ h.peer_epoch;
  record_epoch = k.record_epoch ∙ h.record_epoch;
  goes = goes_then s t u h.goes k.goes;
}

flushed_stays : (s : SessionEnd) → StaysOn s (flushed s)
unfolding flushed
flushed_stays s = record { own = refl; peer = refl; bearer = refl; epoch = refl; peer_epoch = refl; record_epoch = refl; goes = flushes s }

shown_stays : {A : Type 0} (s : SessionEnd) (acknowledgement : ℕ) (xs : List A) (next : ℕ) (probe : Bool) → GoesOn s (noted (spoke (after_acknowledgement s acknowledgement) xs) next probe)
    → StaysOn s (noted (spoke (after_acknowledgement s acknowledgement) xs) next probe)
shown_stays s acknowledgement [] next probe goes = record { own = refl; peer = refl; bearer = refl; epoch = refl; peer_epoch = refl; record_epoch = refl; goes = goes }
shown_stays s acknowledgement (x ∷ xs) next probe goes = record { own = refl; peer = refl; bearer = refl; epoch = refl; peer_epoch = refl; record_epoch = refl; goes = goes }

heard_stays : (s : SessionEnd) (by acknowledgement : ℕ) (c : Content) → StaysOn s (heard s by acknowledgement c)
heard_stays s by acknowledgement (Shows next gap probe) =
    shown_stays s acknowledgement (repeated (after_acknowledgement s acknowledgement) acknowledgement gap) next probe (hearings s by acknowledgement (Shows next gap probe))
heard_stays s by acknowledgement (Carries number packet) =
    record { own = refl; peer = refl; bearer = refl; epoch = refl; peer_epoch = refl; record_epoch = refl; goes = hearings s by acknowledgement (Carries number packet) }
heard_stays s by acknowledgement Nothing = stays s

pub arrived_stays : (s : SessionEnd) (by acknowledgement : ℕ) (c : Content) → StaysOn s (arrived s by acknowledgement c)
arrived_stays s by acknowledgement (Shows next gap probe) =
    let t = heard s by acknowledgement (Shows next gap probe) in stays_then s t (flushed t) (heard_stays s by acknowledgement (Shows next gap probe)) (flushed_stays t)
arrived_stays s by acknowledgement (Carries number packet) =
    let t = heard s by acknowledgement (Carries number packet) in stays_then s t (flushed t) (heard_stays s by acknowledgement (Carries number packet)) (flushed_stays t)
arrived_stays s by acknowledgement Nothing = stays s

answer_stays : (s : SessionEnd) (taken : ℕ) (asks : Bool) → StaysOn s (answered (with_broadcast s taken asks))
answer_stays s taken asks = record { own = refl; peer = refl; bearer = refl; epoch = refl; peer_epoch = refl; record_epoch = refl; goes = record { numbered = omega arith; acked = omega arith; taken = omega arith; shown = omega arith } }

put_stays : (s t : SessionEnd) (pieces : List (List ℕ)) → IsPut s pieces t → StaysOn s (flushed t)
put_stays s t pieces (joins packets packet may) =
    stays_then s t (flushed t)
    (record { own = refl; peer = refl; bearer = refl; epoch = refl; peer_epoch = refl; record_epoch = refl; goes = puts_go s t pieces (joins packets packet may) }) (flushed_stays t)
put_stays s t pieces (waits others alone) =
    stays_then s t (flushed t)
    (record { own = refl; peer = refl; bearer = refl; epoch = refl; peer_epoch = refl; record_epoch = refl; goes = puts_go s t pieces (waits others alone) }) (flushed_stays t)

-- ---- ends

pub up_now : (e : LinkEnd) (s : SessionEnd) → up_session (Some e) ≡ Some s → (is_up e.fsm.state ≡ true) × (e.session ≡ Some s)
up_now e s is = by (is_up e.fsm.state) refl is
  where
    by : (b : Bool) → is_up e.fsm.state ≡ b → (if b then e.session else None) ≡ Some s → (is_up e.fsm.state ≡ true) × (e.session ≡ Some s)
    by true up there = (up, there)
    by false up there = absurd (let wrong : None ≡ Some s = there in cc)

pub up_then : (e : LinkEnd) (t : SessionEnd) → is_up e.fsm.state ≡ true → e.session ≡ Some t → up_session (Some e) ≡ Some t
up_then e t up is = ap (λ b. if b then e.session else None) up ∙ is

-- an end that stays up, with a session that goes on
end_goes : (e e' : LinkEnd) → (is_up e.fsm.state ≡ true → is_up e'.fsm.state ≡ true) → ((s : SessionEnd) → is_up e.fsm.state ≡ true → e.session ≡ Some s → (t : SessionEnd) × (e'.session ≡ Some t) × StaysOn s t) → EndGoesOn (Some e) (Some e')
end_goes e e' up goes s is =
    let now = up_now e s is in
    let more = goes s now.0 now.1 in
    (more.0, up_then e' more.0 (up now.0) more.1, more.2)

mapped_goes : (f : SessionEnd → SessionEnd) (o : Option SessionEnd) → ((s : SessionEnd) → StaysOn s (f s)) → (s : SessionEnd) → o ≡ Some s → (t : SessionEnd) × (option_map f o ≡ Some t) × StaysOn s t
mapped_goes f o each s is = (f s, ap (option_map f) is, each s)

same_goes : (o : Option SessionEnd) (s : SessionEnd) → o ≡ Some s → (t : SessionEnd) × (o ≡ Some t) × StaysOn s t
same_goes o s is = (s, is, stays s)

pub end_stays : (o : Option LinkEnd) → EndGoesOn o o
end_stays o s is = (s, is, stays s)

pub end_then : (o p q : Option LinkEnd) → EndGoesOn o p → EndGoesOn p q → EndGoesOn o q
end_then o p q h k s is =
    let first = h s is in
    let second = k first.0 first.1 in
    (second.0, second.1, stays_then s first.0 second.0 first.2 second.2)

-- an end that is up was up before, and its record is under the same epoch
abbrev pub EndReturns : Option LinkEnd → Option LinkEnd → Type 0
EndReturns before now = (t : SessionEnd) → up_session now ≡ Some t → (s : SessionEnd) × (up_session before ≡ Some s) × (t.record_epoch ≡ s.record_epoch)

end_returns : (e e' : LinkEnd) → (is_up e'.fsm.state ≡ true → is_up e.fsm.state ≡ true) → ((t : SessionEnd) → e'.session ≡ Some t → (s : SessionEnd) × (e.session ≡ Some s) × (t.record_epoch ≡ s.record_epoch)) → EndReturns (Some e) (Some e')
end_returns e e' up back t is =
    let now = up_now e' t is in
    let before = back t now.1 in
    (before.0, up_then e before.0 (up now.0) before.1, before.2)

mapped_back : (f : SessionEnd → SessionEnd) (o : Option SessionEnd) → ((s : SessionEnd) → (f s).record_epoch ≡ s.record_epoch) → (t : SessionEnd) → option_map f o ≡ Some t → (s : SessionEnd) × (o ≡ Some s) × (t.record_epoch ≡ s.record_epoch)
mapped_back f None each t is = absurd (let wrong : None ≡ Some t = is in cc)
mapped_back f (Some s) each t is = (let same : f s ≡ t = cc in (s, refl, ap (λ (r : SessionEnd). r.record_epoch) (sym same) ∙ each s))

same_back : (o : Option SessionEnd) (t : SessionEnd) → o ≡ Some t → (s : SessionEnd) × (o ≡ Some s) × (t.record_epoch ≡ s.record_epoch)
same_back o t is = (t, is, refl)

end_came : (o : Option LinkEnd) → EndReturns o o
end_came o t is = (t, is, refl)

-- both of an end
pub record EndLasts (before now : Option LinkEnd) : Type 0 where
  pub goes : EndGoesOn before now
  pub returns : EndReturns before now

end_lasts : (o : Option LinkEnd) → EndLasts o o
end_lasts o = record { goes = end_stays o; returns = end_came o }

-- ---- link states: an end that is up, and isn't told to go down, stays up

abbrev Lasts : Fsm → Outcome → Type 0
Lasts f o = is_down o.change ≡ false → is_up f.state ≡ true → is_up o.after.state ≡ true

reset_lasts : (f : Fsm) (es : ℕ) (held : Bool) → Lasts f (on_reset f es held)
unfolding on_reset
reset_lasts f es held =
    cases_on (Lasts f) (is_held f.state) _ _ (λ h quiet up. up) (λ h.
    cases_on (Lasts f) (nat_lt es f.highest || (is_up f.state && is_peer f.peer es)) _ _ (λ h quiet up. up) (λ h.
    cases_on (Lasts f) (is_up f.state) _ _ (λ up quiet here. absurd (let wrong : true ≡ false = quiet in cc)) (λ down quiet up. absurd (let wrong : false ≡ true = sym down ∙ up in cc))))

activate_lasts : (f : Fsm) (es er : ℕ) → Lasts f (on_activate f es er)
unfolding on_activate
activate_lasts f es er =
    cases_on (Lasts f) (is_held f.state) _ _ (λ h quiet up. up) (λ h.
    cases_on (Lasts f) ((is_in_reset f.state && not (is_last f.own)) && ((er == f.own) && not (nat_lt es f.highest))) _ _ (λ h quiet up. refl) (λ h.
    cases_on (Lasts f) (is_up f.state && is_session f es er) _ _ (λ h quiet up. refl) (λ h quiet up. up)))

traffic_lasts : (f : Fsm) (es er : ℕ) → Lasts f (on_traffic f es er)
unfolding on_traffic
traffic_lasts f es er =
    cases_on (Lasts f) (is_session f es er && (is_reset_reset f.state && not (is_last f.own))) _ _ (λ h quiet up. refl) (λ h.
    cases_on (Lasts f) (is_session f es er && is_up f.state) _ _ (λ h quiet up. refl) (λ h quiet up. up))

pub unheard_up : (f : Fsm) → is_up (unheard f).state ≡ true
unheard_up f = tested (λ st. is_up st ≡ true) (nat_le 1 f.silent) WorkingUnknown WorkingWorking (λ _. refl) (λ _. refl)

tick_in_lasts : (st : LinkState) (f : Fsm) (held : Bool) → Lasts f (tick_in st f held)
tick_in_lasts ResetUnknown f held = λ quiet up. up
tick_in_lasts ResetReset f held = λ quiet up. up
tick_in_lasts Held f held = λ quiet up. up
tick_in_lasts WorkingWorking f held = cases_on (Lasts f) (f.silent == 4) _ _ (λ four quiet up. absurd (let wrong : true ≡ false = quiet in cc)) (λ fewer quiet up. unheard_up f)
tick_in_lasts WorkingUnknown f held = cases_on (Lasts f) (f.silent == 4) _ _ (λ four quiet up. absurd (let wrong : true ≡ false = quiet in cc)) (λ fewer quiet up. unheard_up f)

tick_lasts : (f : Fsm) (held : Bool) → Lasts f (on_tick f held)
unfolding on_tick
tick_lasts f held = tick_in_lasts f.state f held

cut_lasts : (f : Fsm) (held : Bool) → Lasts f (on_cut f held)
unfolding on_cut
cut_lasts f held = cases_on (Lasts f) (is_up f.state) _ _ (λ up quiet here. absurd (let wrong : true ≡ false = quiet in cc)) (λ down quiet up. up)

tunnel_lasts : (f : Fsm) (epoch : ℕ) → Lasts f (on_peer_tunnel f epoch)
unfolding on_peer_tunnel
tunnel_lasts f epoch = cases_on (Lasts f) (is_up f.state && is_peer f.peer epoch) _ _ (λ both quiet here. absurd (let wrong : true ≡ false = quiet in cc)) (λ other quiet up. up)

outcome_lasts : (f : Fsm) (h : Header) (es er : ℕ) (held : Bool) → Lasts f (outcome_of f h es er held)
outcome_lasts f (header.Reset r) es er held = reset_lasts f es held
outcome_lasts f (header.Activate a) es er held = activate_lasts f es er
outcome_lasts f (header.Discovery d) es er held = λ quiet up. up
outcome_lasts f other es er held = traffic_lasts f es er

step_lasts : (x : PairEnds) (a : Act) (e : LinkEnd) (o : Outcome) (e' : LinkEnd) (states numbered : List Outgoing) (epoch : ℕ) → Steps x e a o e' states numbered epoch → Lasts e.fsm o
step_lasts x _ e _ _ _ _ _ cut = cut_lasts e.fsm (is_up_at x.far)
step_lasts x _ e _ _ _ _ _ (tick shown) = tick_lasts e.fsm (is_up_at x.far)
step_lasts x _ e _ _ _ _ _ (reset es held shown) = reset_lasts e.fsm es held
step_lasts x _ e _ _ _ _ _ (meet es er p by shown) = outcome_lasts e.fsm p.header es er (is_up_at x.far)
step_lasts x _ e _ _ _ _ _ (name epoch) = tunnel_lasts e.fsm epoch

pub release_lasts : (f : Fsm) → is_up f.state ≡ true → is_up (release f).after.state ≡ true
unfolding release
release_lasts f up = cases_on (λ (o : Outcome). is_up o.after.state ≡ true) (is_held f.state) _ _ (λ held. absurd (let wrong : false ≡ true = sym (is_up_held f.state held) ∙ up in cc)) (λ other. up)

-- ---- the session in a step

followed_goes : (e : LinkEnd) (change : Change) → is_going_up change ≡ false → (s : SessionEnd) → e.session ≡ Some s → (t : SessionEnd) × ((followed e change).session ≡ Some t) × StaysOn s t
followed_goes e Up none s is = absurd (let wrong : true ≡ false = none in cc)
followed_goes e Stay none s is = same_goes e.session s is
followed_goes e (Down cause) none s is = same_goes e.session s is
followed_goes e (Ignore reason) none s is = same_goes e.session s is
followed_goes e (Answer (reply.State probe)) none s is = mapped_goes after_state e.session (λ r. record { own = refl; peer = refl; bearer = refl; epoch = refl; peer_epoch = refl; record_epoch = refl; goes = tellings r }) s is
followed_goes e (Answer reply.Reset) none s is = same_goes e.session s is
followed_goes e (Answer reply.Activate) none s is = same_goes e.session s is

step_goes : (x : PairEnds) (a : Act) (e : LinkEnd) (o : Outcome) (e' : LinkEnd) (states numbered : List Outgoing) (epoch : ℕ) → is_going_up o.change ≡ false → Steps x e a o e' states numbered epoch
    → (s : SessionEnd) → e.session ≡ Some s → (t : SessionEnd) × (e'.session ≡ Some t) × StaysOn s t
step_goes x _ e _ _ _ _ _ none cut s is = same_goes e.session s is
step_goes x _ e o _ _ _ _ none (tick shown) s is = followed_goes (with_fsm e o.after) o.change none s is
step_goes x _ e o _ _ _ _ none (reset es held shown) s is = followed_goes (with_fsm e o.after) o.change none s is
step_goes x _ e o _ _ _ _ none (meet es er p by shown) s is =
    let first = followed_goes (with_fsm e o.after) o.change none s is in
    tested (λ (f : LinkEnd). (t : SessionEnd) × (f.session ≡ Some t) × StaysOn s t) (is_heard p.header o.change) (heard_end (after e o) by p.acknowledgement (content_of p)) (after e o)
    (λ _. (let more = mapped_goes (λ r. arrived r by p.acknowledgement (content_of p)) (after e o).session (λ r. arrived_stays r by p.acknowledgement (content_of p)) first.0 first.1 in
    (more.0, more.1, stays_then s first.0 more.0 first.2 more.2)))
    (λ _. first)
step_goes x _ e _ _ _ _ _ none (name epoch) s is = same_goes e.session s is

followed_back : (e : LinkEnd) (change : Change) → is_going_up change ≡ false → (t : SessionEnd) → (followed e change).session ≡ Some t → (s : SessionEnd) × (e.session ≡ Some s) × (t.record_epoch ≡ s.record_epoch)
followed_back e Up none t is = absurd (let wrong : true ≡ false = none in cc)
followed_back e Stay none t is = same_back e.session t is
followed_back e (Down cause) none t is = same_back e.session t is
followed_back e (Ignore reason) none t is = same_back e.session t is
followed_back e (Answer (reply.State probe)) none t is = mapped_back after_state e.session (λ r. refl) t is
followed_back e (Answer reply.Reset) none t is = same_back e.session t is
followed_back e (Answer reply.Activate) none t is = same_back e.session t is

met_back : (x : PairEnds) (e : LinkEnd) (o : Outcome) (p : Fields) (by : ℕ) → is_going_up o.change ≡ false → (t : SessionEnd) → (arrival_end e o p by).session ≡ Some t
    → (s : SessionEnd) × (e.session ≡ Some s) × (t.record_epoch ≡ s.record_epoch)
met_back x e o p by none t =
    tested (λ (f : LinkEnd). f.session ≡ Some t → (s : SessionEnd) × (e.session ≡ Some s) × (t.record_epoch ≡ s.record_epoch)) (is_heard p.header o.change) (heard_end (after e o) by p.acknowledgement (content_of p)) (after e o)
    (λ _ is. (let first = mapped_back (λ r. arrived r by p.acknowledgement (content_of p)) (after e o).session (λ r. (let stays = arrived_stays r by p.acknowledgement (content_of p) in stays.record_epoch)) t is in
    let before = followed_back (with_fsm e o.after) o.change none first.0 first.1 in
    (before.0, before.1, first.2 ∙ before.2)))
    (λ _ is. followed_back (with_fsm e o.after) o.change none t is)

step_back : (x : PairEnds) (a : Act) (e : LinkEnd) (o : Outcome) (e' : LinkEnd) (states numbered : List Outgoing) (epoch : ℕ) → is_going_up o.change ≡ false → Steps x e a o e' states numbered epoch
    → (t : SessionEnd) → e'.session ≡ Some t → (s : SessionEnd) × (e.session ≡ Some s) × (t.record_epoch ≡ s.record_epoch)
step_back x _ e _ _ _ _ _ none cut t is = same_back e.session t is
step_back x _ e o _ _ _ _ none (tick shown) t is = followed_back (with_fsm e o.after) o.change none t is
step_back x _ e o _ _ _ _ none (reset es held shown) t is = followed_back (with_fsm e o.after) o.change none t is
step_back x _ e o _ _ _ _ none (meet es er p by shown) t is = met_back x e o p by none t is
step_back x _ e _ _ _ _ _ none (name epoch) t is = same_back e.session t is

stepped_goes : (x : PairEnds) (a : Act) (e : LinkEnd) (o : Outcome) (e' : LinkEnd) (states numbered : List Outgoing) (epoch : ℕ) → is_going_up o.change ≡ false → is_down o.change ≡ false → Steps x e a o e' states numbered epoch
    → EndLasts (Some e) (Some e')
stepped_goes x a e o e' states numbered epoch none quiet step =
    let m = step_moves x a e o e' states numbered epoch step in
    record {
      goes = end_goes e e' (λ up. ap (λ (f : Fsm). is_up f.state) m.fsm ∙ step_lasts x a e o e' states numbered epoch step quiet up) (λ s up is. step_goes x a e o e' states numbered epoch none step s is);
      returns = end_returns e e' (λ up. moved_down e.fsm m.shown o m.moves none (ap (λ (f : Fsm). is_up f.state) (sym m.fsm) ∙ up)) (step_back x a e o e' states numbered epoch none step);
    }

-- ---- acts

-- an end is made where there is none, and a tunnel packet that is counted names no higher epoch than this of its end's bearer
abbrev pub Calmly : (ℕ → ℕ) → PairEnds → Act → Type 0
Calmly known x making = x.near ≡ None
Calmly known x (carrying t by) = t.old.epoch ≤ known x.bearer
Calmly known x other = Unit {0}

abbrev pub Goes : (ℕ → ℕ) → PairEnds → Course → Type 0
Goes known x c = HaveRecords known x → c.changes ≡ [] → SessionsLast known x c.pair

-- both ends last
lasts_both : (known : ℕ → ℕ) (x y : PairEnds) → HaveRecords known x → y.bearer ≡ x.bearer → EndLasts x.near y.near → EndLasts x.far y.far → SessionsLast known x y
lasts_both known x y h bearer near far =
    let two = h.two in
    record {
      goes = record { near = near.goes; far = far.goes };
      records = record {
        two = omega (arith, bearer, two);
        near = λ t is. (let before = near.returns t is in let least = h.near before.0 before.1 in let same = before.2 in let at = ap known bearer in omega (arith, least, same, at));
        far = λ t is. (let before = far.returns t is in let least = h.far before.0 before.1 in let same = before.2 in let at = ap (λ b. known (other b)) bearer in omega (arith, least, same, at));
      };
    }

near_lasts : (known : ℕ → ℕ) (x : PairEnds) (e e' : LinkEnd) → HaveRecords known x → x.near ≡ Some e → EndLasts (Some e) (Some e') → SessionsLast known x (with_near x e')
near_lasts known x e e' h near lasts = lasts_both known x (with_near x e') h refl (subst (λ o. EndLasts o (Some e')) (sym near) lasts) (end_lasts x.far)

moved_goes : (known : ℕ → ℕ) (x : PairEnds) (a : Act) (e : LinkEnd) (o : Outcome) (e' : LinkEnd) (states numbered : List Outgoing) (epoch : ℕ) → x.near ≡ Some e → Steps x e a o e' states numbered epoch
    → (change : Change) → o.change ≡ change → Goes known x (going_on (near_course x e' states numbered) (λ y. following y change epoch))
unfolding going_on
moved_goes known x a e o e' states numbered epoch near step Up is h none = absurd cc
moved_goes known x a e o e' states numbered epoch near step (Down cause) is h none = absurd cc
moved_goes known x a e o e' states numbered epoch near step Stay is h none = near_lasts known x e e' h near (stepped_goes x a e o e' states numbered epoch (ap is_going_up is) (ap is_down is) step)
moved_goes known x a e o e' states numbered epoch near step (Answer back) is h none = near_lasts known x e e' h near (stepped_goes x a e o e' states numbered epoch (ap is_going_up is) (ap is_down is) step)
moved_goes known x a e o e' states numbered epoch near step (Ignore reason) is h none = near_lasts known x e e' h near (stepped_goes x a e o e' states numbered epoch (ap is_going_up is) (ap is_down is) step)

-- without contact no end is up, nor is it where it forgets its peer
down_lasts : (seen : ℕ) (o : Option LinkEnd) → is_up_at o ≡ false → EndLasts o (option_map (forgetting seen) o)
down_lasts seen None down = record { goes = λ s is. absurd (let wrong : None ≡ Some s = is in cc); returns = λ t is. absurd (let wrong : None ≡ Some t = is in cc) }
down_lasts seen (Some e) down = record {
  goes = λ s is. (let now = up_now e s is in absurd (let wrong : false ≡ true = sym down ∙ now.0 in cc));
  returns = end_returns e (forgetting seen e) (λ up. forget_stays e.fsm up) (same_back e.session);
}

neither_up : (a b : Bool) → (a || b) ≡ false → (a ≡ false) × (b ≡ false)
neither_up false b none = (refl, none)
neither_up true b none = absurd (let wrong : true ≡ false = none in cc)

rises_goes : (known : ℕ → ℕ) (x : PairEnds) (number : ℕ) → Goes known x (risen x number)
rises_goes known x number =
    tested (Goes known x) (in_contact x) (contact_ends (record x { seen = number }) (x.contact, x.seen) number) (nothing (forgotten x number))
    (λ _ h none. absurd (one_told _ _ none))
    (λ apart h none. (let both = neither_up (is_up_at x.near) (is_up_at x.far) apart in lasts_both known x (forgotten x number) h refl (down_lasts number x.near both.0) (down_lasts number x.far both.1)))

-- a tunnel packet's content is counted in the record that is there
named_stays : (s : SessionEnd) (epoch : ℕ) → epoch ≤ s.record_epoch → named (Some (receiving_record s)) epoch ≡ receiving_record s
named_stays s epoch known = (let no : nat_lt s.record_epoch epoch ≡ false = grind (arith, nat_tests, known) in ap (λ b. if b then unheard_record epoch else receiving_record s) no)

record_stays : (s : SessionEnd) → StaysOn s (with_record s (receiving_record s))
record_stays s = record { own = refl; peer = refl; bearer = refl; epoch = refl; peer_epoch = refl; record_epoch = refl; goes = record { numbered = omega arith; acked = omega arith; taken = omega arith; shown = omega arith } }

tunnelled_epoch : (s : SessionEnd) (epoch : ℕ) (t : Taken) → (tunnelled (receiving_record s) epoch t).epoch ≡ s.record_epoch
tunnelled_epoch s epoch t = elim (is_next (receiving_record s) epoch t) as (λ b. (if b then advanced_by (receiving_record s) t else receiving_record s).epoch ≡ s.record_epoch) [ true ↦ refl | false ↦ refl ]

counted_stays : (s : SessionEnd) (epoch : ℕ) (t : Taken) → StaysOn s (with_record s (tunnelled (receiving_record s) epoch t))
counted_stays s epoch t = record { own = refl; peer = refl; bearer = refl; epoch = refl; peer_epoch = refl; record_epoch = tunnelled_epoch s epoch t; goes = records s epoch t }

inner_goes : (t : Tunnelled) (by : ℕ) (e : LinkEnd) (s : SessionEnd) → t.old.epoch ≤ s.record_epoch → e.session ≡ Some s
    → (u : SessionEnd) × ((inner_taken t by e).session ≡ Some u) × StaysOn s u
inner_goes t by e s known is =
    let epoch = t.old.epoch in
    let same = named_stays s epoch known in
    tested (λ (f : LinkEnd). (u : SessionEnd) × (f.session ≡ Some u) × StaysOn s u) (t.count == 0) (named_end e epoch) (tunnelled_end e epoch (inside_of t by))
    (λ _. (with_record s (receiving_record s), named_is same, record_stays s))
    (λ _. (with_record s (tunnelled (receiving_record s) epoch (inside_of t by)), tunnelled_is same, counted_stays s epoch (inside_of t by)))
  where
    named_is : named (Some (receiving_record s)) t.old.epoch ≡ receiving_record s → (named_end e t.old.epoch).session ≡ Some (with_record s (receiving_record s))
    named_is same = rw (is, same) refl

    tunnelled_is : named (Some (receiving_record s)) t.old.epoch ≡ receiving_record s → (tunnelled_end e t.old.epoch (inside_of t by)).session ≡ Some (with_record s (tunnelled (receiving_record s) t.old.epoch (inside_of t by)))
    tunnelled_is same = rw (is, same) refl

-- an end without a session has none
no_session : (t : Tunnelled) (by : ℕ) (e : LinkEnd) → e.session ≡ None → (inner_taken t by e).session ≡ None
no_session t by e none = tested (λ (f : LinkEnd). f.session ≡ None) (t.count == 0) (named_end e t.old.epoch) (tunnelled_end e t.old.epoch (inside_of t by))
    (λ _. ap (option_map (λ s. with_record s (named (record_of e) t.old.epoch))) none)
    (λ _. ap (option_map (λ s. with_record s (tunnelled (named (record_of e) t.old.epoch) t.old.epoch (inside_of t by)))) none)

-- what an end keeps where that is so
inner_back : (t : Tunnelled) (by : ℕ) (e : LinkEnd) → ((s : SessionEnd) → e.session ≡ Some s → t.old.epoch ≤ s.record_epoch) → (u : SessionEnd) → (inner_taken t by e).session ≡ Some u
    → (s : SessionEnd) × (e.session ≡ Some s) × (u.record_epoch ≡ s.record_epoch)
inner_back t by e known u is = at e.session refl
  where
    at : (o : Option SessionEnd) → e.session ≡ o → (s : SessionEnd) × (e.session ≡ Some s) × (u.record_epoch ≡ s.record_epoch)
    at (Some s) there =
        let goes = inner_goes t by e s (known s there) there in
        let stays = goes.2 in
        let same : goes.0 ≡ u = (let both : Some goes.0 ≡ Some u = sym goes.1 ∙ is in cc) in
        (s, there, ap (λ (r : SessionEnd). r.record_epoch) (sym same) ∙ stays.record_epoch)
    at None there = absurd (let wrong : None ≡ Some u = sym (no_session t by e there) ∙ is in cc)

inner_up : (t : Tunnelled) (by : ℕ) (e : LinkEnd) → (inner_taken t by e).fsm ≡ e.fsm
inner_up t by e = tested (λ (f : LinkEnd). f.fsm ≡ e.fsm) (t.count == 0) (named_end e t.old.epoch) (tunnelled_end e t.old.epoch (inside_of t by)) (λ _. refl) (λ _. refl)

-- where the end is up
inner_lasts : (t : Tunnelled) (by : ℕ) (e : LinkEnd) → ((s : SessionEnd) → up_session (Some e) ≡ Some s → t.old.epoch ≤ s.record_epoch) → EndLasts (Some e) (Some (inner_taken t by e))
inner_lasts t by e known = record {
  goes = end_goes e (inner_taken t by e) (λ up. ap (λ (f : Fsm). is_up f.state) (inner_up t by e) ∙ up) (λ s up is. inner_goes t by e s (known s (up_then e s up is)) is);
  returns = λ u is.
      (let now = up_now (inner_taken t by e) u is in
      let up = ap (λ (f : Fsm). is_up f.state) (sym (inner_up t by e)) ∙ now.0 in
      let before = inner_back t by e (λ s there. known s (up_then e s up there)) u now.1 in
      (before.0, up_then e before.0 up before.1, before.2));
}

pub answer_lasts : (e : LinkEnd) (taken : ℕ) (asks : Bool) → EndLasts (Some e) (Some (answered_with e taken asks))
answer_lasts e taken asks = tested (λ (f : LinkEnd). EndLasts (Some e) (Some f)) (is_up e.fsm.state) (record e { session = option_map (λ s. answered (with_broadcast s taken asks)) e.session }) e
    (λ _. record {
      goes = end_goes e (record e { session = option_map (λ s. answered (with_broadcast s taken asks)) e.session }) (λ up. up) (λ s up is. mapped_goes (λ s. answered (with_broadcast s taken asks)) e.session (λ s. answer_stays s taken asks) s is);
      returns = end_returns e (record e { session = option_map (λ s. answered (with_broadcast s taken asks)) e.session }) (λ up. up) (mapped_back (λ s. answered (with_broadcast s taken asks)) e.session (λ s. refl));
    })
    (λ _. end_lasts (Some e))

same_lasts : (e e' : LinkEnd) → (is_up e.fsm.state ≡ true → is_up e'.fsm.state ≡ true) → (is_up e'.fsm.state ≡ true → is_up e.fsm.state ≡ true) → e'.session ≡ e.session → EndLasts (Some e) (Some e')
same_lasts e e' up back same = record {
  goes = end_goes e e' up (λ s there is. (s, same ∙ is, stays s));
  returns = end_returns e e' back (λ t is. (t, sym same ∙ is, refl));
}

pub put_lasts : (e : LinkEnd) (s s' : SessionEnd) (pieces : List (List ℕ)) → e.session ≡ Some s → IsPut s pieces s' → EndLasts (Some e) (Some (with_session e (flushed s')))
put_lasts e s s' pieces has is =
    let goes = put_stays s s' pieces is in
    record {
      goes = end_goes e (with_session e (flushed s')) (λ up. up) (λ r up there. (let same : s ≡ r = (let both : Some s ≡ Some r = sym has ∙ there in cc) in (flushed s', refl, subst (λ q. StaysOn q (flushed s')) same goes)));
      returns = end_returns e (with_session e (flushed s')) (λ up. up) (λ t there. (let same : flushed s' ≡ t = (let both : Some (flushed s') ≡ Some t = there in cc) in (s, has, ap (λ (r : SessionEnd). r.record_epoch) (sym same) ∙ goes.record_epoch)));
    }

act_goes : (known : ℕ → ℕ) (x : PairEnds) (a : Act) (c : Course) → Calmly known x a → Acts x a c → Goes known x c
act_goes known _ _ _ may (made x) h none =
    lasts_both known x (with_made x) h refl
    (subst (λ o. EndLasts o (with_made x).near) (sym may) (record { goes = λ s is. absurd (let wrong : None ≡ Some s = is in cc); returns = λ t is. absurd (let wrong : None ≡ Some t = is in cc) })) (end_lasts x.far)
act_goes known _ _ _ may (mended x e near) h none = near_lasts known x e (mended_end e) h near (same_lasts e (mended_end e) (λ up. up) (λ up. up) refl)
act_goes known _ _ _ may (moved x a e o e' states numbered epoch near step) h none = moved_goes known x a e o e' states numbered epoch near step o.change refl h none
act_goes known _ _ _ may (raised x number) h none = rises_goes known x number h none
act_goes known _ _ _ may (let_go_of x e near clear) h none = near_lasts known x e (let_go e) h near (same_lasts e (let_go e) (release_lasts e.fsm) (release_stays e.fsm) refl)
act_goes known _ _ _ may (counted x e t by near) h none =
    near_lasts known x e (inner_taken t by e) h near (inner_lasts t by e (λ s is. (let least = h.near s (ap up_session near ∙ is) in omega (arith, least, may))))
act_goes known _ _ _ may (opened x packets given last brings) h none = lasts_both known x (record x { begun = last }) h refl (end_lasts x.near) (end_lasts x.far)
act_goes known _ _ _ may (put_one x e s pieces s' near has is) h none = near_lasts known x e (with_session e (flushed s')) h near (put_lasts e s s' pieces has is)
act_goes known _ _ _ may (answered_one x e taken asks shown near) h none = near_lasts known x e (answered_with e taken asks) h near (answer_lasts e taken asks)

pub turned_records : (known : ℕ → ℕ) (x : PairEnds) → HaveRecords known x → HaveRecords known (turned x)
turned_records known x h =
    let two = h.two in
    let back : x.bearer ≡ 1 - (1 - x.bearer) = omega (arith, two) in
    record { two = omega arith; near = h.far; far = λ s is. (let least = h.near s is in let at = ap known back in omega (arith, least, at)) }

pub going_walk : (known : ℕ → ℕ) → Walk (Calmly known) (Goes known)
unfolding going_on
going_walk known = record {
  rests = λ x h none. lasts_both known x x h refl (end_lasts x.near) (end_lasts x.far);
  goes_on = λ x first step one two h none.
      (let there = one h (none_in_front first.changes (step first.pair).changes none) in
      let more = two there.records (none_behind first.changes (step first.pair).changes none) in
      let goes = there.goes in
      let later = more.goes in
      record {
        goes = record { near = end_then x.near first.pair.near (step first.pair).pair.near goes.near later.near; far = end_then x.far first.pair.far (step first.pair).pair.far goes.far later.far };
        records = more.records;
      });
  turns = λ x c run h none.
      (let there = run (turned_records known x h) none in
      let goes = there.goes in
      record { goes = record { near = goes.far; far = goes.near }; records = turned_records known c.pair there.records });
  acts = act_goes known;
}

-- ---- a turn

each_may : (messages : List (List ℕ)) → AllByRecursion (λ message. (y : PairEnds) → is_up_at y.near ≡ true → Unit {0}) messages
each_may [] = tt
each_may (m ∷ ms) = (λ y up. tt, each_may ms)

pub opens_calmly : (known : ℕ → ℕ) (x : PairEnds) (outcome : LinkOutcome) → OpensKnown known x outcome → MayOpen (Calmly known) x outcome
opens_calmly known x outcome brings = record {
  unwraps = λ taken is. record {
    names = λ first others t so speaks. tt;
    carries = λ first others t y so speaks at. (let least = brings taken others first t is so speaks in let same = ap known at in omega (arith, least, same));
  };
  opens = λ taken carried c given last is unwraps brings. tt;
}

may_happen : (known : ℕ → ℕ) (x : PairEnds) (opening : Opening) → MakesNew x opening → BringsKnown known x opening → MayHappen (Calmly known) x opening
may_happen known x rests new brings = tt
may_happen known x (makes bearer is_mended) new brings = (new, tt)
may_happen known x (mends bearer) new brings = tt
may_happen known x (cuts bearer) new brings = tt
may_happen known x (ticks shown) new brings = λ y. tt
may_happen known x (hears bearer es er p by shown) new brings = record {
  hears = hears_may (Calmly known) p.header es er p by shown (facing bearer x) (λ number. tt) (λ y. tt) (λ y. tt);
  opens = opens_calmly known (heard_by p.header es er p by shown (facing bearer x)).course.pair (heard_by p.header es er p by shown (facing bearer x)).outcome brings;
}

pub turn_goes : (known : ℕ → ℕ) (x x' : PairEnds) (opening : Opening) (messages : List (List ℕ)) (reply : Option Reply) (frames : List Outgoing) → HaveRecords known x → MakesNew x opening → BringsKnown known x opening
    → (t : PairTurn x opening messages reply x' frames) → t.first.course.changes ≡ [] → SessionsLast known x x'
turn_goes known x x' opening messages reply frames h new brings t none =
    let may : MayTurn (Calmly known) x opening messages reply =
    record { happens = may_happen known x opening new brings; puts = All-from_recursion _ messages (each_may messages); answers = λ r is y. tt } in
    let run = turn_ran (Calmly known) (λ y. tt) x x' opening messages reply frames h.two may t in
    let goes = walks (Calmly known) (Goes known) (going_walk known) x (turn_course t) run h (turn_changes x x' opening messages reply frames t ∙ none) in
    subst (SessionsLast known x) (sym (turn_pair x x' opening messages reply frames t)) goes
