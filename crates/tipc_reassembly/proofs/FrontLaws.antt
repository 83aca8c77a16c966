-- What comes of a front of what is sent of several messages.
use Rattle.std.proofs.Common.{◌≡◌, ℕ, ◌+◌, ◌≤◌, inl, inr, true, List, [], ◌∷◌, ◌++◌, length, drop, map, Result, Ok, Err, IsOk, refl, sym, ap, subst, ◌∙◌, arith}
use Rattle.std.specs.Prelude.{All, ◌==◌}
use Rattle.std.specs.List.{flat_map}
use Rattle.std.proofs.lemmas.Bool.{cases_lt, le-leb, ltb-true}
use Rattle.std.proofs.lemmas.List.{append-nil, drop_at, length-map, length_push, map-append}
use Rattle.std.proofs.lemmas.List.Elements.{All-cons, All-drop, All-head, All-nil, All-same, All-tail, All-weaker, filter_map-append}
use Rattle.tipc_types.specs.Prefixes.{IsPrefixOf}
use Rattle.tipc_types.specs.declared.packet_lists.Taken.{Taken}
use Rattle.tipc_header.specs.declared.packet.FragmentType.{FragmentType}
use Rattle.tipc_header.specs.declared.packet.FragmentType.TheVariants.{First, Middle, Last}
use Rattle.tipc_header.specs.Reading.{fields_at}
use Rattle.tipc_header.proofs.Sound.{both}
use Rattle.tipc_fragments.specs.declared.joining.Joined.{Joined}
use Rattle.tipc_fragments.specs.declared.joining.Joined.TheVariants as answer
use Rattle.tipc_fragments.specs.declared.joining.JoinFault.{JoinFault}
use Rattle.tipc_fragments.specs.Cutting.{is_last, may_follow, Piece}
use Rattle.tipc_fragments.specs.Joining.{answer_of, fresh, Joining}
use Rattle.tipc_fragments.specs.Laws.{Arrived, arrived, arrived_in}
use Rattle.tipc_fragments.specs.Streams.{CameItem, GivesFront, IsMessage, Item, item_after, item_after_all, item_answer, item_answers, items_in, items_of, Part, Single}
use Rattle.tipc_fragments.proofs.ItemLaws.{gives_front}
use Rattle.tipc_bundle.specs.Bundles.{IsInner}
use Rattle.tipc_reassembly.specs.declared.opening.Opened.{Opened}
use Rattle.tipc_reassembly.specs.declared.opening.Opened.TheVariants.{Whole}
use Rattle.tipc_reassembly.specs.Opening.{BringsAll, is_payload, joined_members}
use Rattle.tipc_reassembly.specs.Slots.{came_of, HasOpened, IsSlot, IsWholePacket, items_bring, OpensFront, packets_in, Slot, slot_bytes, slot_items}
use Rattle.tipc_reassembly.proofs.AnswerLaws.{answer_whole}
use Rattle.tipc_reassembly.proofs.InnerSizes.{inner_message, long_is_payload}
use Rattle.tipc_reassembly.proofs.SlotLaws.{after_all-append, items-came_of, slots_bring}

-- ---- messages that were joined

-- a message that arrived as what was sent of it
record IsSent (a : Arrived) : Type 0 where
  inner : IsInner a.0
  count : length a.1 ≡ length (items_of a.0)

items_of-short : (m : List ℕ) → length m ≤ 1452 → length (items_of m) ≡ 1
items_of-short m short = rw (le-leb (length m) 1452 short) refl

last_follows : (kind : FragmentType) (n : ℕ) → is_last kind ≡ true → may_follow kind n ≡ true → 1 ≤ n
last_follows First n last follows = absurd cc
last_follows Middle n last follows = absurd cc
last_follows Last n last follows = ltb-true 0 n follows

-- A message that was joined has several arrivals,
several_arrivals : (s : Joining) (p : Piece) (by : ℕ) (m bys : List ℕ) → answer_of s p by ≡ Ok (answer.Whole m bys) → 2 ≤ length bys
several_arrivals s p by m bys e =
    let is = answer_whole s p by m bys e in
    let tests = both (may_follow p.kind (length s.arrivals)) (p.number == length s.arrivals + 1) is.next in
    omega (arith, ap length is.arrivals, length_push s.arrivals by, last_follows p.kind (length s.arrivals) is.last tests.0)

-- so it is too long for one packet, and payload.
joined_payload : (s : Joining) (p : Piece) (by : ℕ) (m bys : List ℕ) → answer_of s p by ≡ Ok (answer.Whole m bys) → IsSent (m, bys)
    → is_payload (fields_at m).header ≡ true
joined_payload s p by m bys e is =
    let several = several_arrivals s p by m bys e in
    elim (cases_lt 1452 (length m)) [
      | inl long ↦ long_is_payload m is.inner long
      | inr short ↦ absurd (omega (arith, several, is.count, items_of-short m short))
    ]

-- ---- Where nothing is a fault and what arrives was sent, the messages that arrive are what comes out.

abbrev out_of : Arrived → Opened
out_of a = Whole a.0 a.1

part_out : (result : Result Joined JoinFault) (results : List (Result Joined JoinFault)) (more : List Opened) → IsOk result
    → ((m bys : List ℕ) → result ≡ Ok (answer.Whole m bys) → is_payload (fields_at m).header ≡ true)
    → more ≡ map out_of (arrived results) → joined_members result ++ more ≡ map out_of (arrived (result ∷ results))
part_out (Ok answer.More) results more ok payload same = same
part_out (Ok (answer.Whole m bys)) results more ok payload same = rw (payload m bys refl) (ap (λ (os : List Opened). Whole m bys ∷ os) same)
part_out (Err fault) results more ok payload same = absurd cc

first_sent : (s : Joining) (p : Piece) (by : ℕ) (result : Result Joined JoinFault) (results : List (Result Joined JoinFault)) → answer_of s p by ≡ result
    → All IsSent (arrived (result ∷ results)) → (m bys : List ℕ) → result ≡ Ok (answer.Whole m bys) → is_payload (fields_at m).header ≡ true
first_sent s p by result results e sent m bys is =
    let all = subst (λ (r : Result Joined JoinFault). All IsSent (arrived (r ∷ results))) is sent in
    joined_payload s p by m bys (e ∙ is) (All-head IsSent (m, bys) (arrived results) all)

others_sent : (result : Result Joined JoinFault) (results : List (Result Joined JoinFault)) → All IsSent (arrived (result ∷ results)) → All IsSent (arrived results)
others_sent (Ok answer.More) results sent = sent
others_sent (Ok (answer.Whole m bys)) results sent = All-tail IsSent (m, bys) (arrived results) sent
others_sent (Err fault) results sent = sent

item_out : (item : Item) (s : Joining) (by : ℕ) (came : List CameItem) → All IsOk (item_answers s ((item, by) ∷ came)) → All IsSent (arrived (item_answers s ((item, by) ∷ came)))
    → items_bring (item_after s item by) came ≡ map out_of (arrived (item_answers (item_after s item by) came))
    → items_bring s ((item, by) ∷ came) ≡ map out_of (arrived (item_answers s ((item, by) ∷ came)))
item_out (Single m) s by came ok sent same = ap (λ (os : List Opened). Whole m (by ∷ []) ∷ os) same
item_out (Part p) s by came ok sent same =
    let results = item_answers (item_after s (Part p) by) came in
    part_out (answer_of s p by) results (items_bring (item_after s (Part p) by) came) (All-head IsOk (answer_of s p by) results ok)
    (first_sent s p by (answer_of s p by) results refl sent) same

all_out : (s : Joining) (came : List CameItem) → All IsOk (item_answers s came) → All IsSent (arrived (item_answers s came))
    → items_bring s came ≡ map out_of (arrived (item_answers s came))
all_out s [] ok sent = refl
all_out s (c ∷ came) ok sent =
    let result = item_answer s c.0 c.1 in
    let results = item_answers (item_after s c.0 c.1) came in
    item_out c.0 s c.1 came ok sent
    (all_out (item_after s c.0 c.1) came (All-tail IsOk result results ok) (others_sent result results sent))

-- ---- whole packets

whole_out : (given : List Arrived) → All IsWholePacket (map out_of given)
whole_out [] = All-nil IsWholePacket
whole_out (a ∷ given) = All-cons IsWholePacket (out_of a) (map out_of given) tt (whole_out given)

packets_out : (given : List Arrived) → packets_in (map out_of given) ≡ map (λ (a : Arrived). a.0) given
packets_out [] = refl
packets_out (a ∷ given) = ap (λ (ps : List (List ℕ)). a.0 ∷ ps) (packets_out given)

-- ---- one run and then another

answers-append : (s : Joining) (xs ys : List CameItem) → item_answers s (xs ++ ys) ≡ item_answers s xs ++ item_answers (item_after_all s xs) ys
answers-append s [] ys = refl
answers-append s (c ∷ xs) ys = ap (λ (rs : List (Result Joined JoinFault)). item_answer s c.0 c.1 ∷ rs) (answers-append (item_after s c.0 c.1) xs ys)

all_behind : {A : Type 0} (P : A → Type 0) (xs ys : List A) → All P (xs ++ ys) → All P ys
all_behind P xs ys are = All-same P ys (drop (length xs) (xs ++ ys)) (sym (drop_at xs ys (length xs) refl)) (All-drop P (length xs) (xs ++ ys) are)

sent_front : (given : List Arrived) (messages : List (List ℕ)) → IsPrefixOf (map (λ (a : Arrived). a.0) given) messages → All IsInner messages
    → All (λ (a : Arrived). length a.1 ≡ length (items_of a.0)) given → All IsSent given
sent_front [] messages front inner counts = All-nil IsSent
sent_front (a ∷ given) messages front inner counts =
    let count : Arrived → Type 0 = λ b. length b.1 ≡ length (items_of b.0) in
    let others = map (λ (b : Arrived). b.0) given ++ front.0 in
    let all = subst (All IsInner) front.1 inner in
    All-cons IsSent a given (record { inner = All-head IsInner a.0 others all; count = All-head count a given counts })
    (sent_front given others (front.0, refl) (All-tail IsInner a.0 others all) (All-tail count a given counts))

all_sent : (messages : List (List ℕ)) (came : List CameItem) → All IsInner messages → GivesFront messages came → All IsSent (arrived (item_answers fresh came))
all_sent messages came inner is = sent_front (arrived (item_answers fresh came)) messages is.front inner is.counts

messages_are : (messages : List (List ℕ)) → All IsInner messages → All IsMessage messages
messages_are messages inner = All-weaker IsInner IsMessage inner_message messages inner

-- What came then, behind what came before.
record Behind (before more : List CameItem) (begun : Joining) : Type 0 where
  out : items_bring begun more ≡ map out_of (arrived (item_answers begun more))
  given : arrived (item_answers fresh (before ++ more)) ≡ arrived (item_answers fresh before) ++ arrived (item_answers begun more)

behind : (messages : List (List ℕ)) (before more : List CameItem) (begun : Joining) → All IsInner messages
    → IsPrefixOf (items_in (before ++ more)) (flat_map items_of messages) → item_after_all fresh before ≡ begun → Behind before more begun
behind messages before more begun inner front left =
    let is = gives_front messages (before ++ more) (messages_are messages inner) front in
    let first = item_answers fresh before in
    let answers : item_answers fresh (before ++ more) ≡ first ++ item_answers begun more =
    answers-append fresh before more ∙ ap (λ (s : Joining). first ++ item_answers s more) left in
    let given : arrived (item_answers fresh (before ++ more)) ≡ arrived first ++ arrived (item_answers begun more) =
    ap arrived answers ∙ filter_map-append arrived_in first (item_answers begun more) in
    let ok = all_behind IsOk first (item_answers begun more) (subst (All IsOk) answers is.sound) in
    let sent = all_behind IsSent (arrived first) (arrived (item_answers begun more)) (subst (All IsSent) given (all_sent messages (before ++ more) inner is)) in
    record { out = all_out begun more ok sent; given = given }

-- ---- the laws, step by step

pub opened_none : HasOpened [] [] fresh
opened_none = record { came = []; items_is = refl; given_is = refl; left = refl }

-- More packets are taken: the messages that come out stand behind those that were given, and every packet is whole.
pub opened_more : (messages : List (List ℕ)) (items : List Item) (given : List (List ℕ)) (begun : Joining) (slots : List Slot) (taken : List Taken) (opened : List Opened) (last : Joining)
    → HasOpened items given begun → All IsInner messages → IsPrefixOf (items ++ flat_map slot_items slots) (flat_map items_of messages) → All IsSlot slots
    → map (λ t. t.packet) taken ≡ map slot_bytes slots → BringsAll begun taken opened last
    → HasOpened (items ++ flat_map slot_items slots) (given ++ packets_in opened) last × All IsWholePacket opened
opened_more messages items given begun slots taken opened last has inner front are same brings =
    let more = came_of slots taken in
    let many : length taken ≡ length slots = sym (length-map taken (λ (t : Taken). t.packet)) ∙ ap length same ∙ length-map slots slot_bytes in
    let came_is : items_in (has.came ++ more) ≡ items ++ flat_map slot_items slots =
    map-append (λ (c : CameItem). c.0) has.came more
    ∙ ap (λ (is : List Item). is ++ items_in more) has.items_is
    ∙ ap (λ (is : List Item). items ++ is) (items-came_of slots taken many) in
    let is = slots_bring slots begun taken opened last are same brings in
    let next = behind messages has.came more begun inner (subst (λ (is : List Item). IsPrefixOf is (flat_map items_of messages)) (sym came_is) front) has.left in
    let out : opened ≡ map out_of (arrived (item_answers begun more)) = is.opened_is ∙ next.out in
    let packets : packets_in opened ≡ map (λ (a : Arrived). a.0) (arrived (item_answers begun more)) = ap packets_in out ∙ packets_out (arrived (item_answers begun more)) in (
      record {
        came = has.came ++ more;
        items_is = came_is;
        given_is = ap (map (λ (a : Arrived). a.0)) next.given
            ∙ map-append (λ (a : Arrived). a.0) (arrived (item_answers fresh has.came)) (arrived (item_answers begun more))
            ∙ ap (λ (ms : List (List ℕ)). ms ++ map (λ (a : Arrived). a.0) (arrived (item_answers begun more))) has.given_is
            ∙ ap (λ (ms : List (List ℕ)). given ++ ms) (sym packets);
        left = after_all-append fresh has.came more ∙ ap (λ (s : Joining). item_after_all s more) has.left ∙ sym is.left;
      },
      All-same IsWholePacket opened (map out_of (arrived (item_answers begun more))) out (whole_out (arrived (item_answers begun more))),
    )

came_front : (messages : List (List ℕ)) (items : List Item) (given : List (List ℕ)) (begun : Joining) (has : HasOpened items given begun) → All IsInner messages
    → IsPrefixOf items (flat_map items_of messages) → GivesFront messages has.came
came_front messages items given begun has inner front =
    gives_front messages has.came (messages_are messages inner) (subst (λ (is : List Item). IsPrefixOf is (flat_map items_of messages)) (sym has.items_is) front)

-- What was given is a front of the messages,
pub opened_front : (messages : List (List ℕ)) (items : List Item) (given : List (List ℕ)) (begun : Joining) → HasOpened items given begun → All IsInner messages
    → IsPrefixOf items (flat_map items_of messages) → IsPrefixOf given messages
opened_front messages items given begun has inner front =
    subst (λ (ms : List (List ℕ)). IsPrefixOf ms messages) has.given_is (came_front messages items given begun has inner front).front

-- and all of them where everything came; then none is begun.
pub opened_every : (messages : List (List ℕ)) (items : List Item) (given : List (List ℕ)) (begun : Joining) → HasOpened items given begun → All IsInner messages
    → items ≡ flat_map items_of messages → (given ≡ messages) × (begun ≡ fresh)
opened_every messages items given begun has inner all =
    let front = came_front messages items given begun has inner ([], sym (append-nil items ∙ all)) in
    let many : length has.came ≡ length (flat_map items_of messages) = sym (length-map has.came (λ (c : CameItem). c.0)) ∙ ap length (has.items_is ∙ all) in
    let is = front.every many in
    (sym has.given_is ∙ is.0, sym has.left ∙ is.1)

-- ---- the law of a whole run

pub opens_front : (messages : List (List ℕ)) (slots : List Slot) (taken : List Taken) (opened : List Opened) (last : Joining) → All IsInner messages
    → All IsSlot slots → IsPrefixOf (flat_map slot_items slots) (flat_map items_of messages)
    → map (λ t. t.packet) taken ≡ map slot_bytes slots → BringsAll fresh taken opened last → OpensFront messages (flat_map slot_items slots) opened last
opens_front messages slots taken opened last inner are front same brings =
    let items = flat_map slot_items slots in
    let is = opened_more messages [] [] fresh slots taken opened last opened_none inner front are same brings in
    record {
      whole = is.1;
      front = opened_front messages items (packets_in opened) last is.0 inner front;
      every = λ all. opened_every messages items (packets_in opened) last is.0 inner all;
    }
