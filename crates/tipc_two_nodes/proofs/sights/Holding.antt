-- The packets of a session hold in order what was put, and those that were taken what was taken.
use Rattle.std.proofs.Common.{◌≡◌, ◌≤◌, ◌<◌, ◌+◌, ◌-◌, ℕ, zero, suc, List, [], ◌∷◌, Some, length, map, take, drop, refl, sym, ap, ◌∙◌, subst, arith}
use Rattle.std.specs.Prelude.{All, option_map, slice_get, slice_index_or}
use Rattle.std.proofs.lemmas.List.{length-map, take-map, take_all}
use Rattle.std.proofs.lemmas.List.Elements.{All-take}
use Rattle.std.proofs.lemmas.Option.{slice_get-get_or, slice_get-map, slice_get_within}
use Rattle.tipc_reassembly.specs.Slots.{IsSlot, Slot, slot_bytes}
use Rattle.tipc_changeover.specs.Links.{Past, Receiver}
use Rattle.tipc_changeover.specs.Parts.{Delivered, Order}
use Rattle.tipc_changeover.specs.Slots.{Plain, Tunnel, at, LinkSlot as Place}
use Rattle.tipc_two_nodes.specs.links.Packets.{AreFor, IsFor}
use Rattle.tipc_two_nodes.specs.links.Traffic.{Lines}
use Rattle.tipc_two_nodes.proofs.links.receiver.Taking.{are_get}
use Rattle.tipc_two_nodes.proofs.links.sender.Lists.{are_at}
use Rattle.tipc_two_nodes.specs.Truth.{AreSomeOf, HoldInOrder, less, more, none, plain_packets}
use Rattle.tipc_two_nodes.proofs.sights.Sizes.{carrier_size, slot_at_size}

-- ---- some of a list

-- some of what stands later are some of what stands earlier
some_earlier : (n m : ℕ) (xs ys : List (List ℕ)) → n ≤ m → AreSomeOf xs (drop m ys) → AreSomeOf xs (drop n ys)
some_earlier zero zero xs ys low some = some
some_earlier zero (suc m) xs [] low some = some
some_earlier zero (suc m) xs (y ∷ ys) low some = less xs y ys (some_earlier zero m xs ys (omega arith) some)
some_earlier (suc n) zero xs ys low some = absurd (let wrong : ⊥ = omega arith in wrong)
some_earlier (suc n) (suc m) xs [] low some = some
some_earlier (suc n) (suc m) xs (y ∷ ys) low some = some_earlier n m xs ys (omega arith) some

-- what stands at a place, and what stands behind it
drop_at : (xs : List (List ℕ)) (k : ℕ) (x : List ℕ) → slice_get xs k ≡ Some x → drop k xs ≡ x ∷ drop (suc k) xs
drop_at [] k x there = absurd (let wrong : ⊥ = cc in wrong)
drop_at (y ∷ xs) zero x there = (let is : y ≡ x = cc in ap (λ z. z ∷ xs) is)
drop_at (y ∷ xs) (suc k) x there = drop_at xs k x there

-- what stands at one of the first places stands there among the first ones
take_at : (xs : List (List ℕ)) (count k : ℕ) (x : List ℕ) → slice_get xs k ≡ Some x → k < count → slice_get (take count xs) k ≡ Some x
take_at xs zero k x there few = absurd (let wrong : ⊥ = omega arith in wrong)
take_at [] (suc count) k x there few = absurd (let wrong : ⊥ = cc in wrong)
take_at (y ∷ xs) (suc count) zero x there few = there
take_at (y ∷ xs) (suc count) (suc k) x there few = take_at xs count k x there (omega arith)

-- the packet that was put as the i-th one, and some of those that were put behind it
some_more : (packet : List ℕ) (xs put : List (List ℕ)) (n i : ℕ) → n < i → slice_get put (i - 1) ≡ Some packet → AreSomeOf xs (drop i put) → AreSomeOf (packet ∷ xs) (drop n put)
some_more packet xs put n zero low there rest = absurd (let wrong : ⊥ = omega arith in wrong)
some_more packet xs put n (suc i) low there rest =
    let same : i ≡ suc i - 1 = omega arith in
    let first = drop_at put i packet (ap (λ k. slice_get put k) same ∙ there) in
    some_earlier n i (packet ∷ xs) put (omega arith) (subst (λ ys. AreSomeOf (packet ∷ xs) ys) (sym first) (more packet xs (drop (suc i) put) rest))

-- ---- packets of a line

-- The first k packets of a line, of which each plain one was put behind the first n and within the first `count`, and each later one
-- behind each earlier one: the plain ones are some of these.
some_put : (put : List (List ℕ)) (bearer count k n : ℕ) (l : Lines) (places : List Place) (line : List (List ℕ)) → AreFor (IsFor put bearer l) places line
    → ((p i : ℕ) → p < k → at places (suc p) ≡ Some (Plain i) → (n < i) × (i ≤ count))
    → ((p q i j : ℕ) → at places (suc p) ≡ Some (Plain i) → at places (suc q) ≡ Some (Plain j) → p < q → i < j)
    → AreSomeOf (plain_packets (take k line)) (drop n (take count put))
unfolding at
some_put put bearer count zero n l places line are within rise = none _
some_put put bearer count (suc k) n l [] [] are within rise = none _
some_put put bearer count (suc k) n l [] (packet ∷ line) are within rise = absurd are
some_put put bearer count (suc k) n l (z ∷ places) [] are within rise = absurd are
some_put put bearer count (suc k) n l (Plain i ∷ places) (packet ∷ line) are within rise =
    let first = are.0 in
    let here = within 0 i (omega arith) refl in
    let counts = first.counts in
    let high = here.1 in
    let rest = some_put put bearer count k i l places line are.1
    (λ q j few there. (rise 0 (suc q) i j refl there (omega arith), (within (suc q) j (omega arith) there).1))
    (λ p q a b one two before. rise (suc p) (suc q) a b one two (omega arith)) in
    rw first.plain (some_more packet _ (take count put) n i here.0 (take_at put count (i - 1) packet first.there (omega arith)) rest)
some_put put bearer count (suc k) n l (Tunnel e q full ∷ places) (packet ∷ line) are within rise =
    rw are.0.tunnel (some_put put bearer count k n l places line are.1
    (λ p j few there. within (suc p) j (omega arith) there)
    (λ p r a b one two before. rise (suc p) (suc r) a b one two (omega arith)))

-- the slot of a packet that was put
slot_put : (slots : List Slot) (put : List (List ℕ)) (k : ℕ) (packet : List ℕ) → map slot_bytes slots ≡ put → slice_get put k ≡ Some packet → option_map slot_bytes (slice_get slots k) ≡ Some packet
slot_put slots put k packet bytes there = sym (slice_get-map slot_bytes slots k) ∙ ap (λ ps. slice_get ps k) bytes ∙ there

-- each has at most 1,500 bytes
line_sizes : (put : List (List ℕ)) (slots : List Slot) (bearer : ℕ) (l : Lines) (places : List Place) (line : List (List ℕ)) → map slot_bytes slots ≡ put → All IsSlot slots → AreFor (IsFor put bearer l) places line → All (λ (packet : List ℕ). length packet ≤ 1500) line
line_sizes put slots bearer l places line bytes sound are =
    λ k d few. of_place k (slice_index_or line k d) (are_get (IsFor put bearer l) places line k (slice_index_or line k d) are (slice_get-get_or line k d few))
  where
    of_place : (k : ℕ) (packet : List ℕ) → (z : Place) × (at places (k + 1) ≡ Some z) × IsFor put bearer l z packet → length packet ≤ 1500
    of_place k packet (Plain i, is, p) = let short = slot_at_size slots (i - 1) packet sound (slot_put slots put (i - 1) packet bytes p.there) in omega (arith, short)
    of_place k packet (Tunnel e q full, is, c) = carrier_size _ _ _ _ _ packet c

-- ---- the packets of a session

-- they hold these slots in order, and the first ones, that were got, hold the first of these, that were taken
pub record HoldsSession (line : List (List ℕ)) (slots : List Slot) (got taken : ℕ) : Type 0 where
  pub whole : HoldInOrder line slots
  pub front : (told : ℕ) → told ≤ got → HoldInOrder (take told line) (take taken slots)

-- the first packets of a line, which hold no later slot than the first so many
front_holds : (put : List (List ℕ)) (slots : List Slot) (bearer count k : ℕ) (l : Lines) (places : List Place) (line : List (List ℕ)) → map slot_bytes slots ≡ put → All IsSlot slots → AreFor (IsFor put bearer l) places line
    → ((p i : ℕ) → p < k → at places (suc p) ≡ Some (Plain i) → i ≤ count)
    → ((p q i j : ℕ) → at places (suc p) ≡ Some (Plain i) → at places (suc q) ≡ Some (Plain j) → p < q → i < j)
    → HoldInOrder (take k line) (take count slots)
front_holds put slots bearer count k l places line bytes sound are within rise =
    let first = λ (i p : ℕ) (there : at places (suc p) ≡ Some (Plain i)). (are_at (IsFor put bearer l) places line (suc p) (Plain i) are there).2.counts in
    let some = some_put put bearer count k 0 l places line are (λ p i few there. (let one = first i p there in omega arith, within p i few there)) rise in
    let same : take count put ≡ map slot_bytes (take count slots) = ap (take count) (sym bytes) ∙ take-map slot_bytes count slots in
    record {
      plain = subst (λ ps. AreSomeOf (plain_packets (take k line)) ps) same some;
      sizes = All-take (λ (packet : List ℕ). length packet ≤ 1500) k line (line_sizes put slots bearer l places line bytes sound are);
    }

-- Where a receiver took of the plain packets just the first so many, and what was got of this session is past, this session holds them so.
pub session_holds : (put : List (List ℕ)) (slots : List Slot) (bearer count got : ℕ) (l : Lines) (places : ℕ → List Place) (r : Receiver) (session : ℕ) (line : List (List ℕ)) → map slot_bytes slots ≡ put → All IsSlot slots
    → AreFor (IsFor put bearer l) (places session) line → Order places → Delivered places r count → ((p : ℕ) → p < got → Past r session (suc p)) → HoldsSession line slots got count
session_holds put slots bearer count got l places r session line bytes sound are order delivered past =
    let rise = λ (p q i j : ℕ) (one : at (places session) (suc p) ≡ Some (Plain i)) (two : at (places session) (suc q) ≡ Some (Plain j)) (before : p < q). order.rise session (suc p) (suc q) i j one two (omega arith) in
    let long = length-map slots slot_bytes in
    let same = ap (λ (ps : List (List ℕ)). length ps) bytes in
    let within = λ (p i : ℕ) (few : p < length line) (there : at (places session) (suc p) ≡ Some (Plain i)). (
    let packet = are_at (IsFor put bearer l) (places session) line (suc p) (Plain i) are there in
    let low = slice_get_within put (i - 1) packet.0 packet.2.there in
    let high : i ≤ length slots = omega arith in
    high) in
    let all = front_holds put slots bearer (length slots) (length line) l (places session) line bytes sound are within rise in
    record {
      whole = subst (λ ps. HoldInOrder ps slots) (take_all (length line) line (omega arith)) (subst (λ ss. HoldInOrder (take (length line) line) ss) (take_all (length slots) slots (omega arith)) all);
      front = λ told few. front_holds put slots bearer count told l (places session) line bytes sound are (λ p i low there. delivered.only session (suc p) i there (past p (omega arith))) rise;
    }
