-- What a receiver does with a tunnel packet that is next on a link: the packet inside goes to the record of the other link, and frees what is
-- held behind it there.
use Rattle.std.proofs.Common.{◌≡◌, ◌≢◌, ◌⊎◌, ℕ, zero, suc, ◌+◌, ◌<◌, ◌≤◌, ◌==◌, ◌&&◌, Bool, true, false, List, [], ◌∷◌, ◌++◌, Option, Some, None, length, map, take, drop, refl, sym, ap, ◌∙◌, subst, inl, inr, arith, append_assoc, append-nil}
use Rattle.std.specs.Prelude.{nat_lt, slice_index_or}
use Rattle.std.specs.List.{slice_get}
use Rattle.std.proofs.lemmas.Bool.{cases_lt}
use Rattle.std.proofs.lemmas.Bool.Decides.{nat_tests}
use Rattle.std.proofs.lemmas.List.{drop-drop, length-drop, length-map, map-append}
use Rattle.tipc_types.specs.Position.{number_of}
use Rattle.tipc_types.specs.declared.packet_lists.Taken.{Taken}
use Rattle.tipc_recv_window.specs.Receiving.{run_of}
use Rattle.tipc_link.specs.Records.{Received, advanced_by, is_next, is_tunnel, kept_for, named, tunnelled, tunnelled_outcome, unheard}
use Rattle.tipc_pair.specs.PairArrivals.{taken_in, with_bytes}
use Rattle.tipc_pair.proofs.Listed.{bytes_append}
use Rattle.tipc_changeover.specs.Slots.{Plain, Tunnel}
use Rattle.tipc_changeover.specs.Links.{other, turned_state, Bearer, Held, Receiver, State}
use Rattle.tipc_changeover.specs.Events.{acted, after_next, session_told, IsNext, MayOpen, Opening, Deferred, Late, Next, Old, Passed, Record, TakeTunnel}
use Rattle.tipc_changeover.specs.Sound.{Sound}
use Rattle.tipc_two_nodes.specs.links.Traffic.{Lines, Traffic, epoch_of, turned_traffic as turned_traffic}
use Rattle.tipc_two_nodes.specs.links.Sending.{beside}
use Rattle.tipc_two_nodes.specs.links.Steps.{ArePlain}
use Rattle.tipc_two_nodes.specs.links.Following.{ReceiverFollows, stays}
use Rattle.tipc_two_nodes.specs.links.Receiving.{AreLines, IsInside, IsSessionRecord, IsRecordFor, Recorded, StandBehind, TookTunnel, bytes_in}
use Rattle.tipc_two_nodes.proofs.links.sender.Happening.{follows_one, follows_then, sound_turned}
use Rattle.tipc_two_nodes.proofs.links.sender.Turning.{follows_from, lines_back, lines_turned}
use Rattle.tipc_changeover.specs.Distances.{Bounded}
use Rattle.tipc_changeover.proofs.Reaching.{tunnel_close}
use Rattle.tipc_changeover.proofs.Staying.{acts}
use Rattle.tipc_changeover.proofs.Using.{opens}
use Rattle.tipc_two_nodes.specs.links.Packets.{IsFor}
use Rattle.tipc_two_nodes.proofs.links.sender.Lists.{are_at}
use Rattle.tipc_two_nodes.proofs.links.receiver.Taking.{counted_last, one_longer, took_more}
-- ---- held packets
use Rattle.tipc_changeover.proofs.Receiving.{told_none as told_old, told_session}
use Rattle.tipc_link.proofs.Takings.{named_above as named_new, named_below as named_old}
use Rattle.tipc_recv_window.proofs.Runs.{run_leaves as run_stops}

-- what can be taken is held, one behind the other
pub run_held : (held : List (Option Taken)) (k : ℕ) (t : Taken) → slice_get (run_of held) k ≡ Some t → slice_index_or held k None ≡ Some t
run_held [] k t there = absurd (let wrong : ⊥ = cc in wrong)
run_held (None ∷ held) k t there = absurd (let wrong : ⊥ = cc in wrong)
run_held (Some u ∷ held) zero t there = there
run_held (Some u ∷ held) (suc k) t there = run_held held k t there

pub drop_index : (n : ℕ) (held : List (Option Taken)) (k : ℕ) → slice_index_or (drop n held) k None ≡ slice_index_or held (n + k) None
drop_index zero held k = (let same : 0 + k ≡ k = omega arith in ap (λ i. slice_index_or held i None) (sym same))
drop_index (suc n) [] k = refl
drop_index (suc n) (h ∷ held) k = (let same : suc n + k ≡ suc (n + k) = omega arith in rw same (drop_index n held k))

-- ---- the record that a tunnel packet names

new_record : (l : Lines) (f : ℕ) → 1 ≤ f → IsSessionRecord l (unheard (epoch_of l.first f)) (record { session = f; taken = 0 })
new_record l f low = record {
  begun = low;
  epoch = omega arith;
  taken = refl;
  holds = record { window = omega arith; wants = refl; holds = λ d t there. absurd (let wrong : ⊥ = cc in wrong) };
  plain = λ d t there. absurd (let wrong : ⊥ = cc in wrong);
}

told_new : (r : Receiver) (f : ℕ) → r.session < f → session_told r f ≡ record { session = f; taken = 0 }
unfolding session_told
told_new r f less = (let test : nat_lt r.session f ≡ true = grind (arith, nat_tests) in rw test refl)

-- the record that is named stands for the record that is told
pub named_for : (l : Lines) (o : Option Received) (r : Receiver) (f : ℕ) → IsRecordFor l o r → 1 ≤ f → IsSessionRecord l (named o (epoch_of l.first f)) (session_told r f)
named_for l None r f h low = subst (λ z. IsSessionRecord l (unheard (epoch_of l.first f)) z) (sym (told_new r f (omega arith))) (new_record l f low)
named_for l (Some a) r f (inl old) low =
    let lower = old.0 in
    let none = old.1 in
    subst (λ z. IsSessionRecord l (named (Some a) (epoch_of l.first f)) z) (sym (told_new r f (omega arith))) (subst (λ z. IsSessionRecord l z (record { session = f; taken = 0 })) (sym (named_new a (epoch_of l.first f) (omega arith))) (new_record l f low))
named_for l (Some a) r f (inr h) low =
    let epoch = h.epoch in
    let begun = h.begun in
    elim (cases_lt r.session f) [
      | inl later ↦ subst (λ z. IsSessionRecord l (named (Some a) (epoch_of l.first f)) z) (sym (told_new r f later)) (subst (λ z. IsSessionRecord l z (record { session = f; taken = 0 })) (sym (named_new a (epoch_of l.first f) (omega arith))) (new_record l f low))
      | inr earlier ↦ subst (λ z. IsSessionRecord l (named (Some a) (epoch_of l.first f)) z) (sym (told_old r f (omega arith))) (subst (λ z. IsSessionRecord l z r) (sym (named_old a (epoch_of l.first f) (omega arith))) h)
    ]

-- ---- the packet inside, against that record

next_so : (a : Received) (epoch : ℕ) (u : Taken) → epoch ≡ a.epoch → u.number ≡ number_of (a.taken + 1) → is_next a epoch u ≡ true
unfolding is_next
next_so a epoch u same number =
    let one : (epoch == a.epoch) ≡ true = grind (arith, nat_tests) in
    let two : (u.number == number_of (a.taken + 1)) ≡ true = grind (arith, nat_tests) in
    rw (one, two) refl

not_next_epoch : (a : Received) (epoch : ℕ) (u : Taken) → epoch ≢ a.epoch → is_next a epoch u ≡ false
unfolding is_next
not_next_epoch a epoch u differ = (let one : (epoch == a.epoch) ≡ false = grind (arith, nat_tests, differ) in rw one refl)

no_and : (b c : Bool) → c ≡ false → (b && c) ≡ false
no_and true c is = is
no_and false c is = refl

not_next_number : (a : Received) (epoch : ℕ) (u : Taken) → u.number ≢ number_of (a.taken + 1) → is_next a epoch u ≡ false
unfolding is_next
not_next_number a epoch u differ = no_and (epoch == a.epoch) (u.number == number_of (a.taken + 1)) (grind (arith, nat_tests, differ))

-- the number of an old place isn't the wanted one
pub old_number : (q taken : ℕ) → q ≤ taken → taken < q + 50 → number_of q ≢ number_of (taken + 1)
unfolding number_of
old_number q taken old near same = omega arith

tunnelled_stays : (a : Received) (epoch : ℕ) (u : Taken) → is_next a epoch u ≡ false → tunnelled a epoch u ≡ a
tunnelled_stays a epoch u is = rw is refl

tunnelled_goes : (a : Received) (epoch : ℕ) (u : Taken) → is_next a epoch u ≡ true → tunnelled a epoch u ≡ advanced_by a u
tunnelled_goes a epoch u is = rw is refl

freed_none : (a : Received) (epoch : ℕ) (u : Taken) → is_next a epoch u ≡ false → taken_in (tunnelled_outcome a epoch u) ≡ []
freed_none a epoch u is = rw is refl

freed_some : (a : Received) (epoch : ℕ) (u : Taken) → is_next a epoch u ≡ true → taken_in (tunnelled_outcome a epoch u) ≡ u ∷ run_of (drop 1 a.held)
freed_some a epoch u is = rw is refl

-- ---- packets with bytes

pub all_bytes : (ts : List Taken) → ((k : ℕ) (t : Taken) → slice_get ts k ≡ Some t → 1 ≤ length t.packet) → with_bytes ts ≡ ts
all_bytes [] some = refl
all_bytes (t ∷ ts) some =
    let first = some 0 t refl in
    let test : nat_lt 0 (length t.packet) ≡ true = grind (arith, nat_tests) in
    rw test (ap (λ us. t ∷ us) (all_bytes ts (λ k u there. some (suc k) u there)))

one_whole : (t : Taken) → 1 ≤ length t.packet → bytes_in (t ∷ []) ≡ t.packet ∷ []
one_whole t some = (let test : nat_lt 0 (length t.packet) ≡ true = grind (arith, nat_tests) in rw test refl)

one_empty : (t : Taken) → t.packet ≡ [] → bytes_in (t ∷ []) ≡ []
one_empty t none = (let long : length t.packet ≡ 0 = ap length none in let test : nat_lt 0 (length t.packet) ≡ false = grind (arith, nat_tests) in rw test refl)

pub bytes_more : (ts us : List Taken) → bytes_in (ts ++ us) ≡ bytes_in ts ++ bytes_in us
bytes_more ts us = ap (map (λ (t : Taken). t.packet)) (bytes_append ts us) ∙ map-append (λ (t : Taken). t.packet) (with_bytes ts) (with_bytes us)

pub all_plain : (ts : List Taken) → ((k : ℕ) (t : Taken) → slice_get ts k ≡ Some t → is_tunnel t.packet ≡ false) → ArePlain (map (λ (t : Taken). t.packet) ts)
all_plain [] plain = tt
all_plain (t ∷ ts) plain = (plain 0 t refl, all_plain ts (λ k u there. plain (suc k) u there))

pub map_get : (ts : List Taken) (k : ℕ) (packet : List ℕ) → slice_get (map (λ (t : Taken). t.packet) ts) k ≡ Some packet → (t : Taken) × (slice_get ts k ≡ Some t) × (t.packet ≡ packet)
map_get [] k packet there = absurd (let wrong : ⊥ = cc in wrong)
map_get (t ∷ ts) zero packet there = (t, refl, (let is : t.packet ≡ packet = cc in is))
map_get (t ∷ ts) (suc k) packet there = map_get ts k packet there

-- ---- what is held behind the wanted packet

-- the packets that can be taken with the wanted one
abbrev pub behind : Received → List Taken
behind a = run_of (drop 1 a.held)

behind_held : (a : Received) (k : ℕ) (t : Taken) → slice_get (behind a) k ≡ Some t → slice_index_or a.held (1 + k) None ≡ Some t
behind_held a k t there = sym (drop_index 1 a.held k) ∙ run_held (drop 1 a.held) k t there

advanced_for : (l : Lines) (a : Received) (r : Receiver) (u : Taken) → IsSessionRecord l a r → IsSessionRecord l (advanced_by a u) (record { session = r.session; taken = r.taken + 1 + length (behind a) })
advanced_for l a r u h =
    let n = length (behind a) in
    let taken = h.taken in
    let most = h.holds.window in
    let left = length-drop (suc n) a.held in
    let count : a.taken + suc n ≡ r.taken + 1 + n = omega arith in
    record {
      begun = h.begun;
      epoch = h.epoch;
      taken = sym count;
      holds = record {
        window = omega arith;
        wants = ap (λ held. slice_index_or held 0 None) (sym (drop-drop n 1 a.held ∙ (let same : 1 + n ≡ suc n = omega arith in ap (λ k. drop k a.held) same))) ∙ run_stops (drop 1 a.held);
        holds = λ d t there. (let place : a.taken + (suc n + d) ≡ a.taken + suc n + d = omega arith in ap (λ k. slice_get (l.line r.session) k) (sym place) ∙ h.holds.holds (suc n + d) t (sym (drop_index (suc n) a.held d) ∙ there));
      };
      plain = λ d t there. h.plain (suc n + d) t (sym (drop_index (suc n) a.held d) ∙ there);
    }

-- ---- a tunnel packet is taken

-- the packet inside was the wanted one: those that are held behind it are taken with it
goes_on : (b : Bearer) (bearer : ℕ) (t : Traffic) (s s' : State) (a : Received) (r : Receiver) (u : Taken) → bearer ≤ 1 → ReceiverFollows b s s' → AreLines bearer t s' → Sound b s' → s'.near_record ≡ after_next s.near_record
    → IsSessionRecord t.far a r → s'.far_record ≡ after_next r → take (length s'.delivered) t.put ≡ take (length s.delivered) t.put ++ bytes_in (u ∷ [])
    → TookTunnel b bearer t s (advanced_by a u) (u ∷ behind a)
goes_on b bearer t s s' a r u two takes lines sound near_is h far_is longer =
    let rest = behind a in
    let packets = map (λ (v : Taken). v.packet) rest in
    let taken = h.taken in
    let session : s'.far_record.session ≡ r.session = ap (λ (z : Receiver). z.session) far_is in
    let place : s'.far_record.taken ≡ r.taken + 1 = ap (λ (z : Receiver). z.taken) far_is in
    let stand : StandBehind (t.far.line s'.far_record.session) s'.far_record.taken packets = (λ k packet there.
    (let v = map_get rest k packet there in
    let at_place : a.taken + (1 + k) ≡ s'.far_record.taken + k = omega arith in
    ap (λ n. slice_get (t.far.line n) (s'.far_record.taken + k)) session ∙ (ap (λ n. slice_get (t.far.line r.session) n) (sym at_place) ∙ (h.holds.holds (1 + k) v.0 (behind_held a k v.0 v.1) ∙ ap Some v.2)))) in
    let m = took_more packets (other b) (beside bearer) (turned_traffic t) (turned_state s') (lines_turned bearer t s' two lines) (sound_turned b s' sound) stand
    (all_plain rest (λ k v there. (h.plain (1 + k) v (behind_held a k v there)).0)) in
    let count : length packets ≡ length rest = length-map rest (λ (v : Taken). v.packet) in
    let ends : m.state.near_record ≡ record { session = r.session; taken = r.taken + 1 + length rest } = m.near_is ∙ (ap (λ (z : Receiver). record { session = z.session; taken = z.taken + length packets }) far_is ∙ ap (λ n. record { session = r.session; taken = r.taken + 1 + n }) count) in
    let bytes : bytes_in rest ≡ packets = ap (map (λ (v : Taken). v.packet)) (all_bytes rest (λ k v there. (h.plain (1 + k) v (behind_held a k v there)).1)) in
    record {
      state = turned_state m.state;
      takes = follows_then b s s' (turned_state m.state) takes (follows_from (other b) b s' m.state refl m.takes);
      lines = lines_back bearer t m.state two m.lines;
      near_is = m.far_is ∙ near_is;
      far_is = subst (λ (z : Receiver). IsSessionRecord t.far (advanced_by a u) z) (sym ends) (advanced_for t.far a r u h);
      longer = m.longer ∙ (ap (λ ps. ps ++ packets) longer ∙ append_assoc (take (length s.delivered) t.put) (bytes_in (u ∷ [])) packets
          ∙ ap (λ ps. take (length s.delivered) t.put ++ ps) (ap (λ ps. bytes_in (u ∷ []) ++ ps) (sym bytes) ∙ sym (bytes_more (u ∷ []) rest)));
    }

-- the packet inside was old, or of an older session: nothing comes of it
stays_so : (b : Bearer) (bearer : ℕ) (t : Traffic) (s s' : State) (a : Received) (epoch : ℕ) (u : Taken) → ReceiverFollows b s s' → AreLines bearer t s' → s'.near_record ≡ after_next s.near_record → IsSessionRecord t.far a s'.far_record
    → s'.delivered ≡ s.delivered ++ [] → is_next a epoch u ≡ false → TookTunnel b bearer t s (tunnelled a epoch u) (taken_in (tunnelled_outcome a epoch u))
stays_so b bearer t s s' a epoch u takes lines near_is h same not_next = record {
  state = s';
  takes = takes;
  lines = lines;
  near_is = near_is;
  far_is = subst (λ z. IsSessionRecord t.far z s'.far_record) (sym (tunnelled_stays a epoch u not_next)) h;
  longer = ap (λ (is : List ℕ). take (length is) t.put) (same ∙ append-nil s.delivered) ∙ sym (append-nil (take (length s.delivered) t.put))
      ∙ ap (λ ts. take (length s.delivered) t.put ++ bytes_in ts) (sym (freed_none a epoch u not_next));
}

goes_so : (b : Bearer) (bearer : ℕ) (t : Traffic) (s s' : State) (a : Received) (r : Receiver) (f : ℕ) (u : Taken) → bearer ≤ 1 → ReceiverFollows b s s' → AreLines bearer t s' → Sound b s'
    → s'.near_record ≡ after_next s.near_record → IsSessionRecord t.far a r → r.session ≡ f → u.number ≡ number_of (r.taken + 1) → s'.far_record ≡ after_next r → take (length s'.delivered) t.put ≡ take (length s.delivered) t.put ++ bytes_in (u ∷ [])
    → TookTunnel b bearer t s (tunnelled a (epoch_of t.far.first f) u) (taken_in (tunnelled_outcome a (epoch_of t.far.first f) u))
goes_so b bearer t s s' a r f u two takes lines sound near_is h session number far_is longer =
    let epoch_so = h.epoch in
    let taken_so = h.taken in
    let begun = h.begun in
    let epoch : epoch_of t.far.first f ≡ a.epoch = omega arith in
    let so : is_next a (epoch_of t.far.first f) u ≡ true = next_so a (epoch_of t.far.first f) u epoch (number ∙ ap (λ n. number_of (n + 1)) h.taken) in
    subst (λ ts. TookTunnel b bearer t s (tunnelled a (epoch_of t.far.first f) u) ts) (sym (freed_some a (epoch_of t.far.first f) u so))
    (subst (λ z. TookTunnel b bearer t s z (u ∷ behind a)) (sym (tunnelled_goes a (epoch_of t.far.first f) u so))
    (goes_on b bearer t s s' a r u two takes lines sound near_is h far_is longer))

takes_by : (b : Bearer) (bearer : ℕ) (t : Traffic) (s : State) (o : Option Received) (f q : ℕ) (full : Bool) (u : Taken) (opening : Opening) → bearer ≤ 1 → AreLines bearer t s → Sound b s → Bounded s
    → IsRecordFor t.far o s.far_record → IsNext s (Tunnel f q full) → 1 ≤ f → 1 ≤ q → IsInside (t.far.line f) q full u → MayOpen s.far.line s.far_record f q full opening → opening ≢ Deferred
    → TookTunnel b bearer t s (tunnelled (named o (epoch_of t.far.first f)) (epoch_of t.far.first f) u) (taken_in (tunnelled_outcome (named o (epoch_of t.far.first f)) (epoch_of t.far.first f) u))
takes_by b bearer t s o f q full u Late two lines sound bounded h next low some is may differs =
    let a = named o (epoch_of t.far.first f) in
    let h1 = named_for t.far o s.far_record f h low in
    let epoch_so = h1.epoch in
    let told_so = ap (λ (z : Receiver). z.session) (told_old s.far_record f (omega arith)) in
    stays_so b bearer t s (acted s (TakeTunnel f q full Late)) a (epoch_of t.far.first f) u (follows_one b s (TakeTunnel f q full Late) (next, may) refl) (record { put = lines.put; near = lines.near; far = lines.far }) refl h1 refl
    (not_next_epoch a (epoch_of t.far.first f) u (λ same. (let wrong : ⊥ = omega arith in wrong)))
takes_by b bearer t s o f q full u Old two lines sound bounded h next low some is may differs =
    let a = named o (epoch_of t.far.first f) in
    let h1 = named_for t.far o s.far_record f h low in
    let close = tunnel_close b s f q full sound bounded next some may.0 in
    stays_so b bearer t s (acted s (TakeTunnel f q full Old)) a (epoch_of t.far.first f) u (follows_one b s (TakeTunnel f q full Old) (next, may) refl) (record { put = lines.put; near = lines.near; far = lines.far }) refl h1 refl
    (not_next_number a (epoch_of t.far.first f) u (λ same. old_number q (session_told s.far_record f).taken may.1 close (sym is.number ∙ (same ∙ ap (λ n. number_of (n + 1)) (sym h1.taken)))))
takes_by b bearer t s o f q full u Passed two lines sound bounded h next low some is may differs =
    let a = named o (epoch_of t.far.first f) in
    let r = session_told s.far_record f in
    let event = TakeTunnel f q full Passed in
    goes_so b bearer t s (acted s event) a r f u two (follows_one b s event (next, may) refl) (record { put = lines.put; near = lines.near; far = lines.far }) (acts b s event sound (next, may)) refl
    (named_for t.far o s.far_record f h low) (told_session s.far_record f may.0) (is.number ∙ ap number_of may.1) refl
    (ap (λ (ds : List ℕ). take (length ds) t.put) (append-nil s.delivered) ∙ sym (append-nil (take (length s.delivered) t.put))
    ∙ ap (λ bs. take (length s.delivered) t.put ++ bs) (sym (one_empty u (is.empty may.2))))
takes_by b bearer t s o f q full u (Next i) two lines sound bounded h next low some is may differs =
    let a = named o (epoch_of t.far.first f) in
    let r = session_told s.far_record f in
    let event = TakeTunnel f q full (Next i) in
    let after = acts b s event sound (next, may) in
    let slot = are_at (IsFor t.put bearer t.near) (s.far.line f) (t.far.line f) q (Plain i) (lines.far f) may.3 in
    let index = counted_last s.delivered i 0 after.count after.taken in
    let whole = is.whole slot.0 may.2 slot.1 in
    goes_so b bearer t s (acted s event) a r f u two (follows_one b s event (next, may) refl) (record { put = lines.put; near = lines.near; far = lines.far }) after refl
    (named_for t.far o s.far_record f h low) (told_session s.far_record f may.0) (is.number ∙ ap number_of may.1) refl
    (one_longer t.put s.delivered i slot.0 (omega arith) slot.2.there
    ∙ ap (λ bs. take (length s.delivered) t.put ++ bs) (sym (one_whole u (subst (λ (ps : List ℕ). 1 ≤ length ps) (sym whole.0) whole.1) ∙ ap (λ p. p ∷ []) whole.0)))
takes_by b bearer t s o f q full u Deferred two lines sound bounded h next low some is may differs = absurd (differs refl)

pub takes_tunnel : (b : Bearer) (bearer : ℕ) (t : Traffic) (s : State) (o : Option Received) (f q : ℕ) (full : Bool) (u : Taken) → bearer ≤ 1 → AreLines bearer t s → Sound b s → Bounded s → IsRecordFor t.far o s.far_record
    → IsNext s (Tunnel f q full) → 1 ≤ f → 1 ≤ q → IsInside (t.far.line f) q full u
    → TookTunnel b bearer t s (tunnelled (named o (epoch_of t.far.first f)) (epoch_of t.far.first f) u) (taken_in (tunnelled_outcome (named o (epoch_of t.far.first f)) (epoch_of t.far.first f) u))
takes_tunnel b bearer t s o f q full u two lines sound bounded h next low some is =
    let opening = opens b s f q full sound next in
    takes_by b bearer t s o f q full u opening.0 two lines sound bounded h next low some is opening.1 opening.2

-- ---- the marker of an empty run

marks_by : (b : Bearer) (bearer : ℕ) (t : Traffic) (s : State) (o : Option Received) (f : ℕ) (full : Bool) → AreLines bearer t s → IsRecordFor t.far o s.far_record → IsNext s (Tunnel f 0 full) → 1 ≤ f
    → (f < s.far_record.session) ⊎ (s.far_record.session ≤ f) → TookTunnel b bearer t s (named o (epoch_of t.far.first f)) []
marks_by b bearer t s o f full lines h next low (inl late) = record {
  state = acted s (TakeTunnel f 0 full Late);
  takes = follows_one b s (TakeTunnel f 0 full Late) (next, late) refl;
  lines = record { put = lines.put; near = lines.near; far = lines.far };
  near_is = refl;
  far_is = named_for t.far o s.far_record f h low;
  longer = ap (λ (ds : List ℕ). take (length ds) t.put) (append-nil s.delivered) ∙ sym (append-nil (take (length s.delivered) t.put));
}
marks_by b bearer t s o f full lines h next low (inr more) = record {
  state = acted s (TakeTunnel f 0 full Old);
  takes = follows_one b s (TakeTunnel f 0 full Old) (next, (more, omega arith)) refl;
  lines = record { put = lines.put; near = lines.near; far = lines.far };
  near_is = refl;
  far_is = named_for t.far o s.far_record f h low;
  longer = ap (λ (ds : List ℕ). take (length ds) t.put) (append-nil s.delivered) ∙ sym (append-nil (take (length s.delivered) t.put));
}

pub takes_marker : (b : Bearer) (bearer : ℕ) (t : Traffic) (s : State) (o : Option Received) (f : ℕ) (full : Bool) → AreLines bearer t s → IsRecordFor t.far o s.far_record → IsNext s (Tunnel f 0 full) → 1 ≤ f
    → TookTunnel b bearer t s (named o (epoch_of t.far.first f)) []
takes_marker b bearer t s o f full lines h next low = marks_by b bearer t s o f full lines h next low (elim (cases_lt f s.far_record.session) [ inl late ↦ inl late | inr more ↦ inr (omega arith) ])

-- ---- the receiver's link goes up

kept_same : (a : Received) (epoch : ℕ) → a.epoch ≡ epoch → kept_for (Some a) epoch ≡ a
kept_same a epoch same = (let test : (a.epoch == epoch) ≡ true = grind (arith, nat_tests) in rw test refl)

kept_new : (a : Received) (epoch : ℕ) → a.epoch ≢ epoch → kept_for (Some a) epoch ≡ unheard epoch
kept_new a epoch differ = (let test : (a.epoch == epoch) ≡ false = grind (arith, nat_tests, differ) in rw test refl)

begins : (b : Bearer) (bearer : ℕ) (t : Traffic) (s : State) (session : ℕ) → AreLines bearer t s → 1 ≤ session → s.near_record.session < session → session ≤ s.near.session → (s.near.state ≡ Held → session < s.near.session)
    → Recorded b bearer t s (unheard (epoch_of t.near.first session))
begins b bearer t s session lines low later begun held = record {
  state = acted s (Record session);
  takes = follows_one b s (Record session) (later, begun, held) refl;
  lines = record { put = lines.put; near = lines.near; far = lines.far };
  near_is = new_record t.near session low;
  far_is = refl;
  delivered = refl;
}

pub keeps_record : (b : Bearer) (bearer : ℕ) (t : Traffic) (s : State) (o : Option Received) (session : ℕ) → AreLines bearer t s → IsRecordFor t.near o s.near_record → 1 ≤ session → s.near_record.session ≤ session
    → session ≤ s.near.session → (s.near.state ≡ Held → session < s.near.session) → Recorded b bearer t s (kept_for o (epoch_of t.near.first session))
keeps_record b bearer t s None session lines h low later begun held = begins b bearer t s session lines low (omega arith) begun held
keeps_record b bearer t s (Some a) session lines (inl old) low later begun held =
    let lower = old.0 in
    let none = old.1 in
    subst (λ z. Recorded b bearer t s z) (sym (kept_new a (epoch_of t.near.first session) (λ same. (let wrong : ⊥ = omega arith in wrong)))) (begins b bearer t s session lines low (omega arith) begun held)
keeps_record b bearer t s (Some a) session lines (inr h) low later begun held =
    let epoch = h.epoch in
    elim (cases_lt s.near_record.session session) [
      | inl less ↦ subst (λ z. Recorded b bearer t s z) (sym (kept_new a (epoch_of t.near.first session) (λ same. (let wrong : ⊥ = omega arith in wrong)))) (begins b bearer t s session lines low less begun held)
      | inr same ↦ subst (λ z. Recorded b bearer t s z) (sym (kept_same a (epoch_of t.near.first session) (omega arith))) (record { state = s; takes = stays; lines = lines; near_is = h; far_is = refl; delivered = refl })
    ]
