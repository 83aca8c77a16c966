-- What a receiver takes that has the next packets of a session: plain packets, one after the other.
use Rattle.std.proofs.Common.{◌≡◌, ℕ, zero, suc, ◌+◌, ◌-◌, false, List, [], ◌∷◌, ◌++◌, Some, length, take, refl, sym, ap, ◌∙◌, subst, arith, append_assoc, append-nil}
use Rattle.std.specs.List.{slice_get}
use Rattle.std.proofs.lemmas.List.{length-append}
use Rattle.tipc_link.specs.Records.{is_tunnel}
use Rattle.tipc_changeover.specs.Slots.{at, counted, Plain, LinkSlot, Tunnel}
use Rattle.tipc_changeover.specs.Links.{Bearer, Receiver, State}
use Rattle.tipc_changeover.specs.Events.{acted, IsNext, TakePlain}
use Rattle.tipc_changeover.specs.Sound.{Sound}
use Rattle.tipc_changeover.proofs.Numbers.{counted-cons}
use Rattle.tipc_changeover.proofs.Staying.{acts}
use Rattle.tipc_two_nodes.specs.links.Traffic.{Lines, Traffic}
use Rattle.tipc_two_nodes.specs.links.Packets.{AreFor, IsFor, IsPlain}
use Rattle.tipc_two_nodes.specs.links.Following.{stays}
use Rattle.tipc_two_nodes.specs.links.Receiving.{AreLines, StandBehind, TookMore}
use Rattle.tipc_two_nodes.specs.links.Sending.{beside}
use Rattle.tipc_two_nodes.specs.links.Steps.{ArePlain}
use Rattle.tipc_two_nodes.proofs.links.sender.Happening.{follows_one, follows_then}
use Rattle.tipc_two_nodes.proofs.links.sender.Travelling.{both_tests}

-- ---- lists

-- the slot of the packet at a place
pub are_get : (P : LinkSlot → List ℕ → Type 0) (zs : List LinkSlot) (ps : List (List ℕ)) (k : ℕ) (packet : List ℕ) → AreFor P zs ps → slice_get ps k ≡ Some packet → (z : LinkSlot) × (at zs (k + 1) ≡ Some z) × P z packet
unfolding at
are_get P [] [] k packet h there = absurd (let wrong : ⊥ = cc in wrong)
are_get P [] (p ∷ ps) k packet h there = absurd h
are_get P (z ∷ zs) [] k packet h there = absurd h
are_get P (z ∷ zs) (p ∷ ps) zero packet h there = (z, refl, subst (λ q. P z q) (let is : p ≡ packet = cc in is) h.0)
are_get P (z ∷ zs) (p ∷ ps) (suc k) packet h there =
    let more = are_get P zs ps k packet h.1 there in
    let one : suc k + 1 ≡ suc (suc k) = omega arith in
    let inner : k + 1 ≡ suc k = omega arith in
    (more.0, rw one (ap (λ n. at zs n) (sym inner) ∙ more.1), more.2)

-- the last of packets that are counted up
pub counted_last : (xs : List ℕ) (i before count : ℕ) → xs ++ i ∷ [] ≡ counted before count → i ≡ before + length xs + 1
counted_last [] i before count is = (let first = (counted-cons before count i [] is).number in omega arith)
counted_last (x ∷ xs) i before count is = (let more = counted_last xs i (before + 1) (count - 1) (counted-cons before count x (xs ++ i ∷ []) is).follow in omega arith)

take_next : (xs : List (List ℕ)) (n : ℕ) (x : List ℕ) → slice_get xs n ≡ Some x → take (n + 1) xs ≡ take n xs ++ x ∷ []
take_next [] n x there = absurd (let wrong : ⊥ = cc in wrong)
take_next (y ∷ xs) zero x there = (let is : y ≡ x = cc in ap (λ z. z ∷ []) is)
take_next (y ∷ xs) (suc n) x there =
    let one : suc n + 1 ≡ suc (n + 1) = omega arith in
    rw one (ap (λ zs. y ∷ zs) (take_next xs n x there))

-- ---- the next packet

pub plain_slot : (put : List (List ℕ)) (bearer : ℕ) (l : Lines) (z : LinkSlot) (packet : List ℕ) → IsFor put bearer l z packet → is_tunnel packet ≡ false → (i : ℕ) × (z ≡ Plain i) × IsPlain put i packet
plain_slot put bearer l (Plain i) packet h plain = (i, refl, h)
plain_slot put bearer l (Tunnel f q full) packet h plain = absurd (both_tests (is_tunnel packet) h.tunnel plain)

-- the plain packet at the next place of the near record, which is the next one that was put
pub record NextPlain (t : Traffic) (s : State) (packet : List ℕ) : Type 0 where
  pub index : ℕ
  pub next : IsNext s (Plain index)
  pub longer : take (length (s.delivered ++ index ∷ [])) t.put ≡ take (length s.delivered) t.put ++ packet ∷ []

-- the index of a plain packet that is next
pub next_index : (b : Bearer) (s : State) (i : ℕ) → Sound b s → IsNext s (Plain i) → i ≡ length s.delivered + 1
next_index b s i sound next =
    let after = acts b s (TakePlain i) sound next in
    let is = counted_last s.delivered i 0 after.count after.taken in
    omega arith

-- a plain packet at its index is the next one that was put
pub one_longer : (put : List (List ℕ)) (delivered : List ℕ) (i : ℕ) (packet : List ℕ) → i ≡ length delivered + 1 → slice_get put (i - 1) ≡ Some packet
    → take (length (delivered ++ i ∷ [])) put ≡ take (length delivered) put ++ packet ∷ []
one_longer put delivered i packet is there =
    let place : i - 1 ≡ length delivered = omega arith in
    ap (λ n. take n put) (length-append delivered (i ∷ [])) ∙ take_next put (length delivered) packet (ap (λ n. slice_get put n) (sym place) ∙ there)

pub next_plain : (b : Bearer) (bearer : ℕ) (t : Traffic) (s : State) (packet : List ℕ) → AreLines bearer t s → Sound b s → slice_get (t.near.line s.near_record.session) s.near_record.taken ≡ Some packet → is_tunnel packet ≡ false
    → NextPlain t s packet
next_plain b bearer t s packet lines sound there plain =
    let P = IsFor t.put (beside bearer) t.far in
    let slot = are_get P (s.near.line s.near_record.session) (t.near.line s.near_record.session) s.near_record.taken packet (lines.near s.near_record.session) there in
    let one = plain_slot t.put (beside bearer) t.far slot.0 packet slot.2 plain in
    let next : IsNext s (Plain one.0) = slot.1 ∙ ap Some one.1 in
    record { index = one.0; next = next; longer = one_longer t.put s.delivered one.0 packet (next_index b s one.0 sound next) one.2.there }

-- ---- the next packets

same_record : (r : Receiver) (m n : ℕ) → m ≡ n → ◌≡◌ {A = Receiver} (record { session = r.session; taken = m }) (record { session = r.session; taken = n })
same_record r m n is = ap (λ k. record { session = r.session; taken = k }) is

pub took_more : (packets : List (List ℕ)) (b : Bearer) (bearer : ℕ) (t : Traffic) (s : State) → AreLines bearer t s → Sound b s → StandBehind (t.near.line s.near_record.session) s.near_record.taken packets → ArePlain packets
    → TookMore b bearer t s (length packets) packets
took_more [] b bearer t s lines sound stand plain = record {
  state = s;
  takes = stays;
  lines = lines;
  near_is = same_record s.near_record s.near_record.taken (s.near_record.taken + 0) (omega arith);
  far_is = refl;
  longer = sym (append-nil (take (length s.delivered) t.put));
}
took_more (packet ∷ packets) b bearer t s lines sound stand plain =
    let place : s.near_record.taken + 0 ≡ s.near_record.taken = omega arith in
    let first = next_plain b bearer t s packet lines sound (ap (λ n. slice_get (t.near.line s.near_record.session) n) (sym place) ∙ stand 0 packet refl) plain.0 in
    let s' = acted s (TakePlain first.index) in
    let lines' : AreLines bearer t s' = record { put = lines.put; near = lines.near; far = lines.far } in
    let sound' = acts b s (TakePlain first.index) sound first.next in
    let stand' : StandBehind (t.near.line s.near_record.session) (s.near_record.taken + 1) packets = (λ k p there. (let next : s.near_record.taken + 1 + k ≡ s.near_record.taken + suc k = omega arith in ap (λ n. slice_get (t.near.line s.near_record.session) n) next ∙ stand (suc k) p there)) in
    let others = took_more packets b bearer t s' lines' sound' stand' plain.1 in
    record {
      state = others.state;
      takes = follows_then b s s' others.state (follows_one b s (TakePlain first.index) first.next refl) others.takes;
      lines = others.lines;
      near_is = others.near_is ∙ same_record s.near_record (s.near_record.taken + 1 + length packets) (s.near_record.taken + suc (length packets)) (omega arith);
      far_is = others.far_is;
      longer = others.longer ∙ (ap (λ ps. ps ++ packets) first.longer ∙ append_assoc (take (length s.delivered) t.put) (packet ∷ []) packets);
    }
