-- A tunnel packet that the near link of a pair takes is at its place: it speaks of a session of the peer that began in the contact, and the packet
-- inside, where it is the wanted one, is one that the peer numbered in it.
use Rattle.std.proofs.Common.{◌≡◌, ◌<◌, ◌≤◌, ◌==◌, ◌&&◌, ◌+◌, ◌-◌, ◌∷◌, ℕ, true, false, if◌then◌else◌, List, Option, Some, length, refl, sym, ap, ◌∙◌, subst, inl, inr, eqb-true, arith}
use Rattle.std.proofs.lemmas.Bool.{and_parts, cases_lt, true≢false}
use Rattle.std.proofs.lemmas.Option.{slice_get_within}
use Rattle.tipc_types.specs.Position.{number_of}
use Rattle.tipc_types.specs.declared.link_words.OldSession.{OldSession}
use Rattle.tipc_types.specs.declared.packet_lists.Taken.{Taken}
use Rattle.tipc_header.specs.Spelling.{Fields}
use Rattle.tipc_tunnel.specs.Tunnels.{Tunnelled}
use Rattle.tipc_recv_window.specs.declared.outcomes.LinkOutcome.{LinkOutcome}
use Rattle.tipc_link_fsm.specs.declared.changes.Change.TheVariants.{Ignore, Stay, Up}
use Rattle.tipc_link_fsm.specs.Table.{on_traffic}
use Rattle.tipc_link.specs.Links.{LinkEnd, after, change_outcome, followed, heard_outcome, is_heard, is_taken, is_traffic, link_outcome, record_of, session_of, with_fsm}
use Rattle.tipc_link.specs.Records.{Received, is_next, kept_for, named}
use Rattle.tipc_link.specs.Sessions.{SessionEnd, content_of, receiving_record}
use Rattle.tipc_pair.specs.Facing.{PairEnds, other}
use Rattle.tipc_pair.specs.PairArrivals.{IsTunnelOf, inside_of, taken_in}
use Rattle.tipc_changeover.proofs.Reaching.{tunnel_close}
use Rattle.tipc_changeover.specs.Distances.{Bounded}
use Rattle.tipc_changeover.specs.Events.{IsNext, session_told}
use Rattle.tipc_changeover.specs.Links.{Bearer, Receiver, State, seen}
use Rattle.tipc_changeover.specs.Reached.{IsReached}
use Rattle.tipc_changeover.specs.Slots.{Tunnel}
use Rattle.tipc_changeover.specs.Sound.{Sound}
use Rattle.tipc_two_nodes.specs.links.Arriving.{IsHeardIn, Stands}
use Rattle.tipc_two_nodes.specs.links.Following.{ReceiverFollows, stays}
use Rattle.tipc_two_nodes.specs.links.Landing.{MayLand}
use Rattle.tipc_two_nodes.specs.links.Packets.{SpeaksOf, marks, told_by_marker, told_by_packet, wraps}
use Rattle.tipc_two_nodes.specs.links.Receiving.{AreLines, AreNext, IsSessionRecord, IsRecordFor, record_at}
use Rattle.tipc_two_nodes.specs.links.Sending.{beside}
use Rattle.tipc_two_nodes.specs.links.Traffic.{Traffic, epoch_of}
use Rattle.tipc_two_nodes.specs.links.Turning.{RunsWhereUp}
use Rattle.tipc_two_nodes.proofs.links.sender.Happening.{reached_holds}
use Rattle.tipc_two_nodes.proofs.links.receiver.Hearing.{arrival_outcome, heard_so}
use Rattle.tipc_two_nodes.proofs.links.receiver.Landing.{Hears, goes_on, goes_up, is_ignored}
use Rattle.tipc_two_nodes.proofs.links.calls.Listening.{stay_keeps}
use Rattle.tipc_two_nodes.proofs.links.receiver.Opening.{first_tunnel, is_tunnel_of, told_once}
use Rattle.tipc_two_nodes.proofs.links.receiver.Rising.{begins_record, traffic_peer}
use Rattle.tipc_two_nodes.proofs.links.receiver.Tunnelling.{named_for, old_number}
use Rattle.tipc_changeover.proofs.Receiving.{told_none as told_old}
use Rattle.tipc_paired.specs.Views.{View}
use Rattle.tipc_two_nodes.specs.deeds.Arriving.{IsAtPlace}
use Rattle.tipc_two_nodes.specs.Carriages.{AreSessions}
use Rattle.tipc_two_nodes.proofs.arrivals.Making.{target_had}

-- ---- what the near link takes is next

-- the packets that the near link takes are the next ones of a session, in a state for whose far record that of the pair stands
pub record NextTaken (x : PairEnds) (b : Bearer) (t : Traffic) (s : State) (taken : List Taken) : Type 0 where
  pub state : State
  pub takes : ReceiverFollows b s state
  pub lines : AreLines x.bearer t state
  pub reached : IsReached (seen b state)
  pub far : IsRecordFor t.far (record_at x.far) state.far_record
  pub next : AreNext (t.near.line state.near_record.session) state.near_record.taken taken

stay_next : (x : PairEnds) (e : LinkEnd) (a : SessionEnd) (es er : ℕ) (p : Fields) (by : ℕ) (b : Bearer) (t : Traffic) (s : State) (before : List (List ℕ)) (taken : List Taken) → Stands x b t s before → e.session ≡ Some a → is_traffic p.header ≡ true → (on_traffic e.fsm es er).change ≡ Stay
    → IsSessionRecord t.near (receiving_record a) s.near_record → IsHeardIn (t.near.line s.near_record.session) (receiving_record a) (content_of p) → link_outcome e (on_traffic e.fsm es er) p by ≡ LinkOutcome.Took taken → NextTaken x b t s taken
stay_next x e a es er p by b t s before taken h session traffic stay own heard is =
    let o = on_traffic e.fsm es er in
    let so : is_heard p.header o.change ≡ true = ap (λ q. is_traffic p.header && is_taken q) stay ∙ ap (λ q. q && true) traffic in
    let again : (after e o).session ≡ Some a = ap (λ k. (followed (with_fsm e o.after) k).session) stay ∙ session in
    let now = heard_so t.near a s.near_record by p.acknowledgement (content_of p) own heard in
    record {
      state = s;
      takes = stays;
      lines = h.lines;
      reached = h.reached;
      far = h.receive.far;
      next = subst (AreNext (t.near.line s.near_record.session) s.near_record.taken) (ap taken_in (sym (arrival_outcome e o p by a so again) ∙ is)) now.next;
    }

rise_next : (x : PairEnds) (e : LinkEnd) (es er : ℕ) (p : Fields) (by : ℕ) (b : Bearer) (t : Traffic) (s : State) (before : List (List ℕ)) (taken : List Taken) → Stands x b t s before → MayLand x es er p t s → x.near ≡ Some e → is_traffic p.header ≡ true → (on_traffic e.fsm es er).change ≡ Up
    → link_outcome e (on_traffic e.fsm es er) p by ≡ LinkOutcome.Took taken → NextTaken x b t s taken
rise_next x e es er p by b t s before taken h land near traffic up is =
    let o = on_traffic e.fsm es er in
    let m = land.rises e near traffic up in
    let so : is_heard p.header o.change ≡ true = ap (λ q. is_traffic p.header && is_taken q) up ∙ ap (λ q. q && true) traffic in
    let a = session_of (with_fsm e o.after) in
    let again : (after e o).session ≡ Some a = ap (λ k. (followed (with_fsm e o.after) k).session) up in
    let R = begins_record x e es b t s before m.session h near m.epoch_is m.may in
    let kept : receiving_record a ≡ kept_for (record_of e) es = ap (kept_for (record_of e)) (traffic_peer e.fsm es er up) in
    let own = subst (λ (r : Received). IsSessionRecord t.near r R.state.near_record) (sym kept) R.near_is in
    let heard = subst (λ n. IsHeardIn (t.near.line n) (receiving_record a) (content_of p)) (sym R.session_is) (subst (λ (r : Received). IsHeardIn (t.near.line m.session) r (content_of p)) (sym kept) m.heard) in
    let now = heard_so t.near a R.state.near_record by p.acknowledgement (content_of p) own heard in
    let stands = R.stands (after e o) (risen_record e es er up) in
    record {
      state = R.state;
      takes = R.takes;
      lines = stands.lines;
      reached = stands.reached;
      far = stands.receive.far;
      next = subst (AreNext (t.near.line R.state.near_record.session) R.state.near_record.taken) (ap taken_in (sym (arrival_outcome e o p by a so again) ∙ is)) now.next;
    }
  where
    risen_record : (e : LinkEnd) (es er : ℕ) → (on_traffic e.fsm es er).change ≡ Up → record_of (after e (on_traffic e.fsm es er)) ≡ Some (kept_for (record_of e) es)
    risen_record e es er up = ap (λ k. record_of (followed (with_fsm e (on_traffic e.fsm es er).after) k)) up ∙ ap (λ n. Some (kept_for (record_of e) n)) (traffic_peer e.fsm es er up)

-- one that is ignored takes nothing
pub ignored_none : (e : LinkEnd) (es er : ℕ) (p : Fields) (by : ℕ) (reason : _) (first : Taken) (others : List Taken) → (on_traffic e.fsm es er).change ≡ Ignore reason → link_outcome e (on_traffic e.fsm es er) p by ≡ LinkOutcome.Took (first ∷ others) → ⊥
ignored_none e es er p by reason first others ignored is =
    let o = on_traffic e.fsm es er in
    let quiet : is_heard p.header o.change ≡ false = ap (λ k. is_traffic p.header && is_taken k) ignored ∙ elim (is_traffic p.header) as (λ t. (t && false) ≡ false) [ true ↦ refl | false ↦ refl ] in
    let out : link_outcome e o p by ≡ LinkOutcome.Ignored reason = ap (λ t. if t then heard_outcome (after e o).session by (content_of p) else change_outcome o.change) quiet ∙ ap change_outcome ignored in
    let wrong : LinkOutcome.Ignored reason ≡ LinkOutcome.Took (first ∷ others) = sym out ∙ is in
    let no : ⊥ = cc in
    no

pub next_taken : (x : PairEnds) (e : LinkEnd) (es er : ℕ) (p : Fields) (by : ℕ) (b : Bearer) (t : Traffic) (s : State) (before : List (List ℕ)) (first : Taken) (others : List Taken) → RunsWhereUp x.bearer x.near → Stands x b t s before → MayLand x es er p t s → x.near ≡ Some e → is_traffic p.header ≡ true
    → Hears (on_traffic e.fsm es er).change → link_outcome e (on_traffic e.fsm es er) p by ≡ LinkOutcome.Took (first ∷ others) → NextTaken x b t s (first ∷ others)
next_taken x e es er p by b t s before first others runs h land near traffic (goes_on stay) is =
    let r = runs e near (stay_keeps e.fsm es er stay).was in
    let now = land.goes_on e r.session near r.up_at.session_is traffic stay in
    stay_next x e r.session es er p by b t s before (first ∷ others) h r.up_at.session_is traffic stay now.record_is now.heard is
next_taken x e es er p by b t s before first others runs h land near traffic (goes_up up) is = rise_next x e es er p by b t s before (first ∷ others) h land near traffic up is
next_taken x e es er p by b t s before first others runs h land near traffic (is_ignored reason ignored) is = absurd (ignored_none e es er p by reason first others ignored is)

-- ---- what a tunnel packet tells

-- it names this epoch; and where it carries a packet, that is the one of this place
record TellsOf (v : Tunnelled) (epoch place : ℕ) (line : List (List ℕ)) : Type 0 where
  epoch_is : v.old.epoch ≡ epoch
  carries : (v.count == 0) ≡ false → (1 ≤ place) × (place ≤ length line) × (v.number ≡ number_of place)

tells_of : (old : OldSession) (q : ℕ) (full : _) (line : List (List ℕ)) (packet : List ℕ) (v : Tunnelled) → SpeaksOf old line packet q full → IsTunnelOf packet v → TellsOf v old.epoch q line
tells_of old q full line packet v (marks kind made is) told =
    let same = told_once packet (told_by_marker kind old) v made is told in
    record { epoch_is = ap (λ (w : Tunnelled). w.old.epoch) same; carries = λ some. absurd (true≢false (sym (ap (λ (w : Tunnelled). w.count == 0) same) ∙ some)) }
tells_of old q full line packet v (wraps kind own count place inner some there may is) told =
    let same = told_once packet (told_by_packet kind old own count (record { number = number_of place; packet = inner })) v (may.made own place) is told in
    record {
      epoch_is = ap (λ (w : Tunnelled). w.old.epoch) same;
      carries = λ _. (some, (let within = slice_get_within line (place - 1) inner there in omega arith), ap (λ (w : Tunnelled). w.number) same);
    }

-- ---- the place

next_parts : (a : Received) (epoch : ℕ) (u : Taken) → is_next a epoch u ≡ true → (epoch ≡ a.epoch) × (u.number ≡ number_of (a.taken + 1))
unfolding is_next
next_parts a epoch u is = (let both = and_parts (epoch == a.epoch) (u.number == number_of (a.taken + 1)) is in (eqb-true epoch a.epoch both.0, eqb-true u.number (number_of (a.taken + 1)) both.1))

-- a record of this session isn't of a later one
no_later : (r : Receiver) (f : ℕ) → (session_told r f).session ≡ f → r.session ≤ f
no_later r f is = elim (cases_lt f r.session) [
  | inl later ↦ (let old : (session_told r f).session ≡ r.session = ap (λ (q : Receiver). q.session) (told_old r f (omega arith)) in omega arith)
  | inr early ↦ omega arith
]

-- the wanted packet has a number in the session
wanted : (b : Bearer) (t : Traffic) (s : State) (o : Option Received) (f q : ℕ) (full : _) (u : Taken) → Sound b s → Bounded s → IsNext s (Tunnel f q full) → IsRecordFor t.far o s.far_record → 1 ≤ f → 1 ≤ q → q ≤ length (t.far.line f) → u.number ≡ number_of q
    → is_next (named o (epoch_of t.far.first f)) (epoch_of t.far.first f) u ≡ true → (named o (epoch_of t.far.first f)).taken < length (t.far.line f)
wanted b t s o f q full u sound bounded next record_is begun some within number is =
    let a = named o (epoch_of t.far.first f) in
    let own = named_for t.far o s.far_record f record_is begun in
    let parts = next_parts a (epoch_of t.far.first f) u is in
    let same = parts.0 in
    let place = own.epoch in
    let taken = own.taken in
    let session : (session_told s.far_record f).session ≡ f = omega arith in
    let close = tunnel_close b s f q full sound bounded next some (no_later s.far_record f session) in
    elim (cases_lt a.taken q) [
      | inl less ↦ omega arith
      | inr late ↦ absurd (old_number q a.taken late (omega arith) (sym number ∙ parts.1))
    ]

pub at_place : (y : View) (x : PairEnds) (b : Bearer) (t : Traffic) (s : State) (own theirs : ℕ) (first : Taken) (others : List Taken) (packet : Tunnelled) (m : NextTaken x b t s (first ∷ others)) → AreSessions y own theirs (other x.bearer) t.far m.state.far → theirs ≡ x.contact → own ≡ x.seen → IsTunnelOf first.packet packet
    → IsAtPlace y x packet first.by
at_place y x b t s own theirs first others packet m sessions contact seen tunnel =
    let S = m.state in
    let holds = reached_holds b S m.reached in
    let T = first_tunnel t S x.bearer first others m.lines m.next (is_tunnel_of first.packet packet tunnel) in
    let f = T.session in
    let E = epoch_of t.far.first f in
    let begun = T.is.begun in
    let tells = tells_of (record { bearer = beside x.bearer; epoch = E }) T.place T.full (t.far.line f) first.packet packet T.is.speaks tunnel in
    let k = sessions.began E (omega arith) (target_had t.far S.near S.far S.near_record.session (S.near_record.taken + 1) f T.place T.full holds.0.near.target T.next) in
    let session : E + 1 - t.far.first ≡ f = omega arith in
    let line : t.far.line f ≡ (y.wires (other x.bearer)).line E = ap t.far.line (sym session) ∙ (sessions.lines E k.0 k.1 k.2 k.3).1 in
    let P : ℕ → LinkEnd → Type 0 = λ n e. is_next (named (record_of e) n) n (inside_of packet first.by) ≡ true → (named (record_of e) n).taken < length ((y.wires (other x.bearer)).line n) in
    record {
      begun = k.0;
      begun_is = ap (y.wires (other x.bearer)).begun tells.epoch_is ∙ k.1;
      contact_is = k.3 ∙ contact;
      seen_is = k.2 ∙ seen;
      place = λ e far some. subst (λ n. P n e) (sym tells.epoch_is) (λ next. (
          let c = tells.carries some in
          let record_is : IsRecordFor t.far (record_of e) S.far_record = subst (λ o. IsRecordFor t.far (record_at o) S.far_record) far m.far in
          subst (λ (ps : List (List ℕ)). (named (record_of e) E).taken < length ps) line (wanted b t S (record_of e) f T.place T.full (inside_of packet first.by) holds.0 holds.1 T.next record_is begun c.0 c.1 c.2 next)));
    }
