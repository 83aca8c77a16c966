-- Items that are written are the items that are read.
use Rattle.std.proofs.Common.{◌≡◌, ℕ, suc, zero, ◌+◌, ◌*◌, ◌/◌, ◌<◌, Bool, true, false, Some, List, [], ◌∷◌, ◌++◌, length, get_or, drop, take, refl, sym, ap, ◌∙◌, arith, ◌≤◌, ◌^◌}
use Rattle.std.specs.Int.{w32, from_be_bytes}
use Rattle.std.proofs.lemmas.List.{append-nil, drop_at, drop-drop, length-append, take_more}
use Rattle.std.proofs.lemmas.List.Concat.{flat_map-append, flat_map-cons}
use Rattle.std.specs.List.{flat_map, AllByRecursion}
use Rattle.std.proofs.lemmas.List.Elements.{recursion_from_All}
use Rattle.std.proofs.lemmas.List.FromFn.{fill_by_all}
use Rattle.tipc_types.specs.declared.message_forms.Item.{Item}
use Rattle.tipc_types.specs.declared.message_forms.Message.TheVariants.{Items}
use Rattle.tipc_header.specs.declared.packet.DistributionType.{DistributionType}
use Rattle.tipc_header.specs.declared.packet.Header.TheVariants.{NameDistributor}
use Rattle.tipc_header.specs.Grammar.{Fits}
use Rattle.tipc_header.specs.Reading.{word_at}
use Rattle.tipc_header.proofs.Words.{length-words, word_at-words, AreWords}
use Rattle.tipc_message.specs.ItemWords.{item_at, item_bytes, items_bytes, items_of, AreInWords, IsInWords}
use Rattle.tipc_message.specs.Wire.{distribution_of, is_withdrawal, items_packet, message_of, waiting_packet}

abbrev pub some_item : Item
some_item = record { kind = 0; lower = 0; upper = 0; port = 0; key = 0 }

abbrev fields_of : Item → List ℕ
fields_of item = item.kind ∷ item.lower ∷ item.upper ∷ item.port ∷ item.key ∷ []

pub length-item : (item : Item) → length (item_bytes item) ≡ 20
length-item item = length-words (fields_of item)

pub length-items : (items : List Item) → length (items_bytes items) ≡ 20 * length items
unfolding items_bytes
length-items [] = refl
length-items (item ∷ items) =
    let whole = ap length (flat_map-cons item_bytes item items) ∙ length-append (item_bytes item) (items_bytes items) in
    omega (arith, whole, length-item item, length-items items)

-- one more item behind those before it
pub bytes_more : (items : List Item) (k : ℕ) (old : List ℕ) → old ≡ flat_map item_bytes (take k items) → k < length items
    → old ++ item_bytes (get_or items k some_item) ≡ flat_map item_bytes (take (k + 1) items)
bytes_more items k old so_far within =
    let item = get_or items k some_item in
    ap (λ (b : List ℕ). b ++ item_bytes item) so_far ∙ ap (λ (b : List ℕ). flat_map item_bytes (take k items) ++ b) (sym (append-nil (item_bytes item)))
    ∙ sym (ap (flat_map item_bytes) (take_more items k some_item within) ∙ flat_map-append item_bytes (take k items) (item ∷ []))

-- ---- one item

same_item : (kind lower upper port key kind' lower' upper' port' key' : ℕ) → kind ≡ kind' → lower ≡ lower' → upper ≡ upper' → port ≡ port' → key ≡ key'
    → ◌≡◌ {A = Item} (record { kind = kind; lower = lower; upper = upper; port = port; key = key }) (record { kind = kind'; lower = lower'; upper = upper'; port = port'; key = key' })
same_item kind lower upper port key kind' lower' upper' port' key' a b c d e = cc

-- the first item in bytes
first_item : (item : Item) (rest : List ℕ) → IsInWords item → item_at 0 (item_bytes item ++ rest) ≡ item
first_item item rest h =
    let are : AreWords (fields_of item) = (h.kind, (h.lower, (h.upper, (h.port, (h.key, tt))))) in
    let word = λ (i : ℕ) (within : i < 5). word_at-words i (fields_of item) rest are within in
    same_item _ _ _ _ _ item.kind item.lower item.upper item.port item.key (word 0 (omega arith)) (word 1 (omega arith)) (word 2 (omega arith)) (word 3 (omega arith)) (word 4 (omega arith))

-- a word behind an item
word_behind : (i j : ℕ) (item : Item) (rest : List ℕ) → j ≡ 5 + i → word_at j (item_bytes item ++ rest) ≡ word_at i rest
unfolding word_at
word_behind i j item rest is =
    let place : 4 * j ≡ 20 + 4 * i = omega (arith, is) in
    ap (λ (k : ℕ). from_be_bytes w32 (take 4 (drop k (item_bytes item ++ rest)))) place
    ∙ ap (λ (b : List ℕ). from_be_bytes w32 (take 4 b)) (sym (drop-drop (4 * i) 20 (item_bytes item ++ rest)))
    ∙ ap (λ (b : List ℕ). from_be_bytes w32 (take 4 (drop (4 * i) b))) (drop_at (item_bytes item) rest 20 (length-item item))

item_behind : (index : ℕ) (item : Item) (rest : List ℕ) → item_at (suc index) (item_bytes item ++ rest) ≡ item_at index rest
item_behind index item rest =
    same_item _ _ _ _ _ _ _ _ _ _
    (word_behind (5 * index) (5 * suc index) item rest (omega arith))
    (word_behind (5 * index + 1) (5 * suc index + 1) item rest (omega arith))
    (word_behind (5 * index + 2) (5 * suc index + 2) item rest (omega arith))
    (word_behind (5 * index + 3) (5 * suc index + 3) item rest (omega arith))
    (word_behind (5 * index + 4) (5 * suc index + 4) item rest (omega arith))

-- ---- all of them

item_there : (items : List Item) → AllByRecursion IsInWords items → (k : ℕ) → k < length items → get_or items k some_item ≡ item_at k (items_bytes items)
unfolding items_bytes
item_there [] are k within = absurd (omega (arith, within))
item_there (item ∷ items) are zero within = sym (ap (item_at 0) (flat_map-cons item_bytes item items) ∙ first_item item (items_bytes items) are.0)
item_there (item ∷ items) are (suc k) within =
    item_there items are.1 k (omega (arith, within))
    ∙ sym (ap (item_at (suc k)) (flat_map-cons item_bytes item items) ∙ item_behind k item (items_bytes items))

pub items_again : (items : List Item) → AreInWords items → items_of (items_bytes items) ≡ items
unfolding items_of
items_again items are =
    let long = length-items items in
    sym (fill_by_all (λ k. item_at k (items_bytes items)) items (length (items_bytes items) / 20) some_item (omega (arith, long)) (λ k within. item_there items (recursion_from_All IsInWords items are) k (omega (arith, long, within))))

type_again : (withdrawal : Bool) → is_withdrawal (distribution_of withdrawal) ≡ withdrawal
type_again true = refl
type_again false = refl

-- the packet of items, read again
pub packet_again : (own : ℕ) (withdrawal : Bool) (items : List Item) → AreInWords items → message_of (items_packet own withdrawal items) ≡ Some (Items withdrawal items)
unfolding message_of
packet_again own withdrawal items are =
    ap (λ (those : List Item). Some (Items (is_withdrawal (distribution_of withdrawal)) those)) (items_again items are) ∙ ap (λ (b : Bool). Some (Items b items)) (type_again withdrawal)

-- the packet, by its type and its bytes
pub packet_is : (own : ℕ) (type : DistributionType) (withdrawal : Bool) (items : List Item) (rest : List ℕ) → type ≡ distribution_of withdrawal → rest ≡ items_bytes items
    → waiting_packet own (NameDistributor (record { distribution_type = type; broadcast_acknowledgement = 0 })) rest ≡ items_packet own withdrawal items
packet_is own type withdrawal items rest types bytes =
    ap (λ (t : DistributionType). waiting_packet own (NameDistributor (record { distribution_type = t; broadcast_acknowledgement = 0 })) rest) types
    ∙ ap (λ (b : List ℕ). waiting_packet own (NameDistributor (record { distribution_type = distribution_of withdrawal; broadcast_acknowledgement = 0 })) b) bytes

-- with twenty bytes for each item it has a spelling
pub items_fit : (own : ℕ) (withdrawal : Bool) (items : List Item) → own < 2 ^ 32 → 1 ≤ length items → length items ≤ 70 → Fits (items_packet own withdrawal items)
items_fit own withdrawal items word some few =
    let long = length-items items in
    record {
      acknowledgement = omega arith;
      sequence = omega arith;
      previous = word;
      header = omega arith;
      numbering = tt;
      rest = (omega (arith, long, some), omega (arith, long, few), omega (arith, long));
      size = omega (arith, long, few);
    }
