-- Packets that the near link took are opened: a tunnel packet first, which frees packets in the record of the far link, and then the others.
use Rattle.std.proofs.Common.{◌≡◌, ℕ, zero, suc, ◌+◌, ◌-◌, ◌≤◌, ◌==◌, Bool, true, false, if◌then◌else◌, not, List, [], ◌∷◌, ◌++◌, Option, Some, None, length, map, take, refl, sym, ap, ◌∙◌, subst, inl, inr, arith, append_assoc, is_some}
use Rattle.std.specs.List.{slice_get}
use Rattle.std.proofs.lemmas.Bool.{cases_Bool}
use Rattle.std.proofs.lemmas.Bool.Decides.{nat_tests}
use Rattle.std.proofs.lemmas.List.{length-map}
use Rattle.tipc_types.specs.Position.{number_of}
use Rattle.tipc_types.specs.declared.link_words.OldSession.{OldSession}
use Rattle.tipc_types.specs.declared.packet_lists.Taken.{Taken}
use Rattle.tipc_header.specs.Spelling.{Fields, spelling}
use Rattle.tipc_header.specs.declared.packet.ChangeoverType.{ChangeoverType}
use Rattle.tipc_header.proofs.RoundTrip.{one_packet}
use Rattle.tipc_tunnel.specs.Tunnels.{Carries, IsTunnel, Tunnelled, numbered, tunnel_packet}
use Rattle.tipc_tunnel.proofs.TunnelLaws.{carried_once, tunnel_fits}
use Rattle.tipc_link.specs.Links.{LinkEnd, named_end, record_of, tunnelled_end}
use Rattle.tipc_link.specs.Records.{Received, is_changeover, is_tunnel, named, tunnelled_outcome}
use Rattle.tipc_pair.specs.Facing.{PairEnds}
use Rattle.tipc_pair.specs.PairArrivals.{IsTunnelOf, SpeaksOfFar, Unwraps, as_it_is, freed_at, freed_by, inner_at, inner_taken, inside_of, none_taken, restored, taken_down, taken_in, tunnel, tunnelled_through}
use Rattle.tipc_pair.specs.Courses.{Course, going_on}
use Rattle.tipc_pair.specs.Runs.{inner_of, shown_by}
use Rattle.tipc_pair.proofs.Listed.{spelled_tunnel}
use Rattle.tipc_changeover.specs.Slots.{Plain, LinkSlot, Tunnel}
use Rattle.tipc_changeover.specs.Links.{Bearer, State}
use Rattle.tipc_changeover.specs.Events.{IsNext}
use Rattle.tipc_changeover.specs.Sound.{Sound}
use Rattle.tipc_changeover.specs.Distances.{Bounded}
use Rattle.tipc_pair.proofs.Restoring.{restored_none}
use Rattle.tipc_two_nodes.specs.links.Arriving.{IsMadeFor}
use Rattle.tipc_two_nodes.specs.links.Traffic.{Lines, Traffic, epoch_of}
use Rattle.tipc_two_nodes.specs.links.Packets.{IsCarrier, IsFor, MayBeIn, SpeaksOf, marks, told_by_marker, told_by_packet, wraps}
use Rattle.tipc_two_nodes.specs.links.Sending.{beside}
use Rattle.tipc_two_nodes.specs.links.Receiving.{AreLines, AreNext, IsInside, IsRecordFor, StandBehind, TookAll, TookTunnel, bytes_in, record_at}
use Rattle.tipc_two_nodes.proofs.links.sender.Happening.{follows_sound, follows_then}
use Rattle.tipc_two_nodes.proofs.links.receiver.Taking.{are_get, took_more}
use Rattle.tipc_two_nodes.proofs.links.sender.Travelling.{both_tests}
use Rattle.tipc_two_nodes.proofs.links.receiver.Tunnelling.{all_bytes, all_plain, bytes_more, takes_marker, takes_tunnel}
use Rattle.tipc_two_nodes.proofs.links.receiver.Unwrapping.{recorded_for, taken_down_made, taken_down_record}
-- ---- what a tunnel packet tells
use Rattle.tipc_link_fsm.proofs.Moves.{not_true as not_both}

-- the tunnel packet of a slot carries just this
pub record IsTold (bearer : ℕ) (other : Lines) (f : ℕ) (packet : List ℕ) (v : Tunnelled) : Type 0 where
  pub made : IsTunnel v
  pub spelled : packet ≡ spelling (tunnel_packet v)
  pub old_is : ◌≡◌ {A = OldSession} v.old (record { bearer = bearer; epoch = epoch_of other.first f })

carries_own : (v : Tunnelled) → IsTunnel v → Carries (tunnel_packet v) v
carries_own v made = record { broadcast_acknowledgement = 0; header = refl; rest = refl; inner = made.inner }

-- whatever a packet is read as, it carries what it was made of
pub told_once : (packet : List ℕ) (v w : Tunnelled) → IsTunnel v → packet ≡ spelling (tunnel_packet v) → IsTunnelOf packet w → w ≡ v
told_once packet v w made is h =
    let same = one_packet h.packet (tunnel_packet v) h.fits (tunnel_fits v made) (sym h.spelled ∙ is) in
    carried_once (tunnel_packet v) w v (subst (λ (p : Fields). Carries p w) same h.carries) (carries_own v made)

pub is_tunnel_of : (packet : List ℕ) (w : Tunnelled) → IsTunnelOf packet w → is_tunnel packet ≡ true
is_tunnel_of packet w h = ap is_tunnel h.spelled ∙ (spelled_tunnel h.packet h.fits ∙ ap is_changeover h.carries.header)

-- ---- plain packets alone

packets_plain : (line : List (List ℕ)) (before : ℕ) (first : Taken) (others : List Taken) → AreNext line before (first ∷ others) → is_tunnel first.packet ≡ false → (k : ℕ) (u : Taken) → slice_get (first ∷ others) k ≡ Some u → is_tunnel u.packet ≡ false
packets_plain line before first others next plain zero u there = ap (λ (w : Taken). is_tunnel w.packet) (let same : u ≡ first = cc in same) ∙ plain
packets_plain line before first others next plain (suc k) u there = next.plain (suc k) u there (omega arith)

plain_all : (b : Bearer) (bearer : ℕ) (t : Traffic) (s : State) (taken : List Taken) (far : Option Received) → AreLines bearer t s → Sound b s → IsRecordFor t.far far s.far_record → AreNext (t.near.line s.near_record.session) s.near_record.taken taken
    → ((k : ℕ) (u : Taken) → slice_get taken k ≡ Some u → is_tunnel u.packet ≡ false) → TookAll b bearer t s (length taken) far taken
plain_all b bearer t s taken far lines sound h next plain =
    let packets = map (λ (u : Taken). u.packet) taken in
    let m = took_more packets b bearer t s lines sound next.stand (all_plain taken plain) in
    let count : length packets ≡ length taken = length-map taken (λ (u : Taken). u.packet) in
    let bytes : bytes_in taken ≡ packets = ap (map (λ (u : Taken). u.packet)) (all_bytes taken (λ k u there. next.bytes k u there (plain k u there))) in
    record {
      state = m.state;
      takes = m.takes;
      lines = m.lines;
      near_is = m.near_is ∙ ap (λ n. record { session = s.near_record.session; taken = s.near_record.taken + n }) count;
      far_is = subst (λ r. IsRecordFor t.far far r) (sym m.far_is) h;
      longer = m.longer ∙ ap (λ ps. take (length s.delivered) t.put ++ ps) (sym bytes);
    }

-- ---- and behind a tunnel packet

behind_tunnel : (b : Bearer) (bearer : ℕ) (t : Traffic) (s : State) (first : Taken) (others freed : List Taken) (a : _) (far : Option Received) → Sound b s → AreNext (t.near.line s.near_record.session) s.near_record.taken (first ∷ others)
    → (T : TookTunnel b bearer t s a freed) → IsRecordFor t.far far T.state.far_record → TookAll b bearer t s (suc (length others)) far (freed ++ others)
behind_tunnel b bearer t s first others freed a far sound next T h =
    let packets = map (λ (u : Taken). u.packet) others in
    let session : T.state.near_record.session ≡ s.near_record.session = ap (λ r. r.session) T.near_is in
    let place : T.state.near_record.taken ≡ s.near_record.taken + 1 = ap (λ r. r.taken) T.near_is in
    let stand : StandBehind (t.near.line T.state.near_record.session) T.state.near_record.taken packets = (λ k packet there.
    (let at_place : s.near_record.taken + suc k ≡ T.state.near_record.taken + k = omega arith in
    ap (λ n. slice_get (t.near.line n) (T.state.near_record.taken + k)) session ∙ (ap (λ n. slice_get (t.near.line s.near_record.session) n) (sym at_place) ∙ next.stand (suc k) packet there))) in
    let m = took_more packets b bearer t T.state T.lines (follows_sound b s T.state sound T.takes) stand (all_plain others (λ k u there. next.plain (suc k) u there (omega arith))) in
    let count : length packets ≡ length others = length-map others (λ (u : Taken). u.packet) in
    let bytes : bytes_in others ≡ packets = ap (map (λ (u : Taken). u.packet)) (all_bytes others (λ k u there. next.bytes (suc k) u there (next.plain (suc k) u there (omega arith)))) in
    let more : s.near_record.taken + 1 + length packets ≡ s.near_record.taken + suc (length others) = omega arith in
    record {
      state = m.state;
      takes = follows_then b s T.state m.state T.takes m.takes;
      lines = m.lines;
      near_is = m.near_is ∙ (ap (λ r. record { session = r.session; taken = r.taken + length packets }) T.near_is ∙ ap (λ n. record { session = s.near_record.session; taken = n }) more);
      far_is = subst (λ r. IsRecordFor t.far far r) (sym m.far_is) h;
      longer = m.longer ∙ (ap (λ ps. ps ++ packets) T.longer ∙ append_assoc (take (length s.delivered) t.put) (bytes_in freed) packets
          ∙ ap (λ ps. take (length s.delivered) t.put ++ ps) (ap (λ ps. bytes_in freed ++ ps) (sym bytes) ∙ sym (bytes_more freed others)));
    }

-- ---- the packet inside

not_none : (b : Bool) → not b ≡ false → b ≡ true
not_none true is = refl
not_none false is = cc

inside_so : (kind : ChangeoverType) (old : OldSession) (own count place : ℕ) (line : List (List ℕ)) (inner : List ℕ) (by : ℕ) → slice_get line (place - 1) ≡ Some inner → MayBeIn kind old count inner
    → IsInside line place (not (is_tunnel inner)) (inside_of (told_by_packet kind old own count (record { number = number_of place; packet = inner })) by)
inside_so kind old own count place line inner by there may = record {
  number = refl;
  whole = λ packet full at_place.
      (let plain = not_both (is_tunnel inner) full in
      let same : inner ≡ packet = cc in
      let bytes : inner_of own (record { number = number_of place; packet = inner }) ≡ numbered (number_of place) (shown_by own inner) = ap (λ z. if z then [] else numbered (number_of place) (shown_by own inner)) plain in
      (ap restored bytes ∙ may.back own place plain ∙ same, subst (λ (ps : List ℕ). 1 ≤ length ps) same (may.bytes plain)));
  empty = λ none. ap (λ z. restored (if z then [] else numbered (number_of place) (shown_by own inner))) (not_none (is_tunnel inner) none) ∙ restored_none;
}

-- ---- a tunnel packet, and what follows it

-- what a tunnel packet is, and what comes of it and of those behind it
pub record Told (b : Bearer) (t : Traffic) (s : State) (bearer f : ℕ) (e : LinkEnd) (first : Taken) (others : List Taken) : Type 0 where
  pub told : Tunnelled
  pub is : IsTold (beside bearer) t.far f first.packet told
  pub took : TookAll b bearer t s (suc (length others)) (record_of (inner_taken told first.by e)) (freed_by told first.by e ++ others)

some_count : (count : ℕ) → 1 ≤ count → (count == 0) ≡ false
some_count count some = grind (arith, nat_tests)

told_so : (b : Bearer) (t : Traffic) (s : State) (bearer f q : ℕ) (full : Bool) (e : LinkEnd) (first : Taken) (others : List Taken) → bearer ≤ 1 → AreLines bearer t s → Sound b s → Bounded s → IsRecordFor t.far (record_of e) s.far_record
    → AreNext (t.near.line s.near_record.session) s.near_record.taken (first ∷ others) → IsNext s (Tunnel f q full) → 1 ≤ f → SpeaksOf (record { bearer = beside bearer; epoch = epoch_of t.far.first f }) (t.far.line f) first.packet q full
    → Told b t s bearer f e first others
told_so b t s bearer f q full e first others two lines sound bounded h next slot low (marks kind made is) =
    let T = takes_marker b bearer t s (record_of e) f true lines h slot low in
    record {
      told = told_by_marker kind (record { bearer = beside bearer; epoch = epoch_of t.far.first f });
      is = record { made = made; spelled = is; old_is = refl };
      took = behind_tunnel b bearer t s first others [] _ (record_of (inner_taken (told_by_marker kind (record { bearer = beside bearer; epoch = epoch_of t.far.first f })) first.by e)) sound next T (recorded_for t.far e _ T.state.far_record T.far_is);
    }
told_so b t s bearer f q full e first others two lines sound bounded h next slot low (wraps kind own count place inner some there may is) =
    let old : OldSession = record { bearer = beside bearer; epoch = epoch_of t.far.first f } in
    let v = told_by_packet kind old own count (record { number = number_of place; packet = inner }) in
    let u = inside_of v first.by in
    let T = takes_tunnel b bearer t s (record_of e) f place (not (is_tunnel inner)) u two lines sound bounded h slot low some (inside_so kind old own count place (t.far.line f) inner first.by there may) in
    let test = some_count count may.some in
    let far_is : inner_taken v first.by e ≡ tunnelled_end e (epoch_of t.far.first f) u = ap (λ z. if z then named_end e (epoch_of t.far.first f) else tunnelled_end e (epoch_of t.far.first f) u) test in
    let freed_is : freed_by v first.by e ≡ taken_in (tunnelled_outcome (named (record_of e) (epoch_of t.far.first f)) (epoch_of t.far.first f) u) =
    ap (λ z. if z then [] else taken_in (tunnelled_outcome (named (record_of e) (epoch_of t.far.first f)) (epoch_of t.far.first f) u)) test in
    record {
      told = v;
      is = record { made = may.made own place; spelled = is; old_is = refl };
      took = subst (λ (d : LinkEnd). TookAll b bearer t s (suc (length others)) (record_of d) (freed_by v first.by e ++ others)) (sym far_is)
          (subst (λ (ts : List Taken). TookAll b bearer t s (suc (length others)) (record_of (tunnelled_end e (epoch_of t.far.first f) u)) (ts ++ others)) (sym freed_is)
          (behind_tunnel b bearer t s first others _ _ (record_of (tunnelled_end e (epoch_of t.far.first f) u)) sound next T (recorded_for t.far e _ T.state.far_record T.far_is)));
    }

-- ---- the first packet

-- the slot of a tunnel packet that is next
pub record NextTunnel (t : Traffic) (s : State) (bearer : ℕ) (packet : List ℕ) : Type 0 where
  pub session : ℕ
  pub place : ℕ
  pub full : Bool
  pub next : IsNext s (Tunnel session place full)
  pub is : IsCarrier (beside bearer) t.far session place full packet

carrier_at : (t : Traffic) (s : State) (bearer : ℕ) (packet : List ℕ) (z : LinkSlot) → IsNext s z → IsFor t.put (beside bearer) t.far z packet → is_tunnel packet ≡ true → NextTunnel t s bearer packet
carrier_at t s bearer packet (Plain i) next h so = absurd (both_tests (is_tunnel packet) so h.plain)
carrier_at t s bearer packet (Tunnel f q full) next h so = record { session = f; place = q; full = full; next = next; is = h }

pub first_tunnel : (t : Traffic) (s : State) (bearer : ℕ) (first : Taken) (others : List Taken) → AreLines bearer t s → AreNext (t.near.line s.near_record.session) s.near_record.taken (first ∷ others) → is_tunnel first.packet ≡ true
    → NextTunnel t s bearer first.packet
first_tunnel t s bearer first others lines next so =
    let place : s.near_record.taken + 0 ≡ s.near_record.taken = omega arith in
    let slot = are_get (IsFor t.put (beside bearer) t.far) (s.near.line s.near_record.session) (t.near.line s.near_record.session) s.near_record.taken first.packet (lines.near s.near_record.session) (ap (λ n. slice_get (t.near.line s.near_record.session) n) (sym place) ∙ next.stand 0 first.packet refl) in
    carrier_at t s bearer first.packet slot.0 slot.1 slot.2 so

-- it speaks of the far link
speaks_far : (y : PairEnds) (other : Lines) (f : ℕ) (packet : List ℕ) (v : Tunnelled) → IsTold (beside y.bearer) other f packet v → is_some y.far ≡ true → SpeaksOfFar y packet v
speaks_far y other f packet v h made = record {
  tunnel = record { packet = tunnel_packet v; fits = tunnel_fits v h.made; spelled = h.spelled; carries = carries_own v h.made };
  bearer = ap (λ (o : OldSession). o.bearer) h.old_is;
  made = made;
}

told_of_slot : (bearer f q : ℕ) (full : Bool) (other : Lines) (line : List (List ℕ)) (packet : List ℕ) → SpeaksOf (record { bearer = bearer; epoch = epoch_of other.first f }) line packet q full → (v : Tunnelled) × IsTold bearer other f packet v
told_of_slot bearer f q full other line packet (marks kind made is) = (told_by_marker kind (record { bearer = bearer; epoch = epoch_of other.first f }), record { made = made; spelled = is; old_is = refl })
told_of_slot bearer f q full other line packet (wraps kind own count place inner some there may is) = (told_by_packet kind (record { bearer = bearer; epoch = epoch_of other.first f }) own count (record { number = number_of place; packet = inner }), record { made = may.made own place; spelled = is; old_is = refl })

-- the far link's end
an_end : (o : Option LinkEnd) → is_some o ≡ true → (e : LinkEnd) × (o ≡ Some e)
an_end None made = absurd (let wrong : ⊥ = cc in wrong)
an_end (Some e) made = (e, refl)

through : (y : PairEnds) (v : Tunnelled) (by : ℕ) (e : LinkEnd) → (taken_down v.kind v.old.epoch y).pair.far ≡ Some e → record_at (tunnelled_through y v by).pair.far ≡ record_of (inner_taken v by e)
unfolding going_on
through y v by e is = ap (λ o. record_at (inner_at v by (taken_down v.kind v.old.epoch y).pair o).pair.far) is

pub unwraps : (y : PairEnds) (b : Bearer) (t : Traffic) (s : State) (taken : List Taken) (c : Course) (carried : List Taken) → y.bearer ≤ 1 → AreLines y.bearer t s → Sound b s → Bounded s → IsRecordFor t.far (record_at y.far) s.far_record → IsMadeFor y t
    → AreNext (t.near.line s.near_record.session) s.near_record.taken taken → Unwraps y taken c carried → TookAll b y.bearer t s (length taken) (record_at c.pair.far) carried
unwraps y b t s taken c carried two lines sound bounded h made next none_taken = plain_all b y.bearer t s [] (record_at y.far) lines sound h next (λ k u there. absurd (let wrong : ⊥ = cc in wrong))
unwraps y b t s taken c carried two lines sound bounded h made next (as_it_is first others not_far) = elim (cases_Bool (is_tunnel first.packet)) [
  | inl so ↦ absurd (
      let w = first_tunnel t s y.bearer first others lines next so in
      let v = told_of_slot (beside y.bearer) w.session w.place w.full t.far (t.far.line w.session) first.packet w.is.speaks in
      not_far v.0 (speaks_far y t.far w.session first.packet v.0 v.1 (made s.near_record.session (s.near_record.taken + 0) first.packet (next.stand 0 first.packet refl) so)))
  | inr other ↦ plain_all b y.bearer t s (first ∷ others) (record_at y.far) lines sound h next (packets_plain (t.near.line s.near_record.session) s.near_record.taken first others next other)
]
unwraps y b t s taken c carried two lines sound bounded h made next (tunnel first others v far) =
    let so = is_tunnel_of first.packet v far.tunnel in
    let w = first_tunnel t s y.bearer first others lines next so in
    let there = made s.near_record.session (s.near_record.taken + 0) first.packet (next.stand 0 first.packet refl) so in
    let e = an_end (taken_down v.kind v.old.epoch y).pair.far (taken_down_made v.kind v.old.epoch y ∙ there) in
    let same_record : record_at y.far ≡ record_of e.0 = sym (taken_down_record v.kind v.old.epoch y) ∙ ap record_at e.1 in
    let T = told_so b t s y.bearer w.session w.place w.full e.0 first others two lines sound bounded (subst (λ o. IsRecordFor t.far o s.far_record) same_record h) next w.next w.is.begun w.is.speaks in
    let same : v ≡ T.told = told_once first.packet T.told v T.is.made T.is.spelled far.tunnel in
    let took = subst (λ (x : Tunnelled). TookAll b y.bearer t s (suc (length others)) (record_of (inner_taken x first.by e.0)) (freed_by x first.by e.0 ++ others)) (sym same) T.took in
    let freed : freed_at v first.by (taken_down v.kind v.old.epoch y).pair.far ≡ freed_by v first.by e.0 = ap (λ o. freed_at v first.by o) e.1 in
    subst (λ o. TookAll b y.bearer t s (suc (length others)) o (freed_at v first.by (taken_down v.kind v.old.epoch y).pair.far ++ others)) (sym (through y v first.by e.0 e.1))
    (subst (λ (ts : List Taken). TookAll b y.bearer t s (suc (length others)) (record_of (inner_taken v first.by e.0)) (ts ++ others)) (sym freed) took)
