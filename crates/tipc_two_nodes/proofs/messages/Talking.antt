-- The messages of a contact while more are put, and more packets are taken.
use Rattle.std.proofs.Common.{◌≡◌, ◌≤◌, ◌+◌, ◌-◌, ℕ, suc, List, [], ◌∷◌, ◌++◌, Some, length, map, take, drop, refl, sym, ap, ◌∙◌, subst, append_assoc, append-nil, length-append, take-append-drop, arith}
use Rattle.std.specs.Prelude.{All, false, slice_get, slice_index_or}
use Rattle.std.specs.List.{flat_map}
use Rattle.std.proofs.Math.Seq.{take-add, take-append_seam}
use Rattle.std.proofs.lemmas.Grind.{flat_map-append}
use Rattle.std.proofs.lemmas.List.{drop-map, drop_at, length-take, take-map}
use Rattle.std.proofs.lemmas.List.Elements.{All-drop, All-take}
use Rattle.tipc_types.specs.Prefixes.{IsPrefixOf}
use Rattle.tipc_types.specs.declared.packet_lists.Taken.{Taken}
use Rattle.tipc_bundle.specs.Bundles.{IsInner, joined}
use Rattle.tipc_fragments.specs.Joining.{Joining, fresh}
use Rattle.tipc_fragments.specs.Streams.{CameItem, item_after_all, items_in, items_of}
use Rattle.tipc_reassembly.specs.declared.opening.Opened.{Opened}
use Rattle.tipc_reassembly.specs.Opening.{BringsAll}
use Rattle.tipc_reassembly.specs.Slots.{HasOpened, IsSlot, IsWholePacket, Slot, packets_in, slot_bytes, slot_items}
use Rattle.tipc_reassembly.proofs.FrontLaws.{opened_front, opened_more}
use Rattle.tipc_link.specs.Sessions.{MayJoin, SessionEnd, joins, last_of, put, waits}
use Rattle.tipc_link.proofs.LinkLaw.{Each-append, Each-one}
use Rattle.tipc_pair.specs.Messages.{pieces_for}
use Rattle.tipc_two_nodes.proofs.deeds.Wrapped.{all_of}
use Rattle.tipc_two_nodes.proofs.messages.Slots.{IsMore, front_items, more_slots}
use Rattle.tipc_link.specs.Records.{is_tunnel}
use Rattle.tipc_changeover.specs.Links.{Bearer, State, Up}
use Rattle.tipc_changeover.specs.Sound.{Sound}
use Rattle.tipc_two_nodes.specs.links.Packets.{IsFor}
use Rattle.tipc_two_nodes.specs.links.Sending.{SendingEnds, StandFor, beside}
use Rattle.tipc_two_nodes.specs.links.Traffic.{Traffic}
use Rattle.tipc_two_nodes.proofs.links.sender.Joining.{last_waits}
use Rattle.tipc_two_nodes.specs.Carriages.{Carriage, taken_of}
use Rattle.tipc_two_nodes.proofs.contacts.Fronts.{delivered_count}
use Rattle.tipc_two_nodes.specs.Messages.{AreMessages}

-- nothing came, so no message is begun
pub nothing_opened : (given : List (List ℕ)) (last : Joining) → HasOpened [] given last → last ≡ fresh
nothing_opened given last h = sym h.left ∙ ap (item_after_all fresh) (came_none h.came h.items_is) where
  came_none : (came : List CameItem) → items_in came ≡ [] → came ≡ []
  came_none [] is = refl
  came_none (c ∷ came) is = absurd (let none : ⊥ = cc in none)

-- what was opened is a front of what is sent
items_front : (c : Carriage) (put given : List (List ℕ)) (begun : Joining) (n : ℕ) → (h : AreMessages c put given begun) → IsPrefixOf (flat_map slot_items (take n h.slots)) (flat_map items_of put)
items_front c put given begun n h = front_items n h.slots (flat_map items_of put) ([], sym (append-nil (flat_map slot_items h.slots) ∙ h.whole))

-- the messages that were given are a front of those that were put
pub given_front : (c : Carriage) (put given : List (List ℕ)) (begun : Joining) → AreMessages c put given begun → IsPrefixOf given put
given_front c put given begun h = opened_front put (flat_map slot_items (take (length c.state.delivered) h.slots)) given begun h.opened (all_of IsInner put h.messages) (items_front c put given begun (length c.state.delivered) h)

-- ---- a message is put

-- its packets stand behind what was taken, and the slots of what was put go on with it
more_messages : (c c' : Carriage) (put given : List (List ℕ)) (begun : Joining) (m : List ℕ) (line waiting : List (List ℕ)) (more : List Slot) → (h : AreMessages c put given begun) → IsInner m → IsMore h.slots more m line waiting
    → c'.traffic.put ≡ line ++ waiting → c'.state.delivered ≡ c.state.delivered → length c.state.delivered ≤ length line → AreMessages c' (put ++ m ∷ []) given begun
more_messages c c' put given begun m line waiting more h inner is put_is same within = record {
  messages = Each-append IsInner put (m ∷ []) h.messages (Each-one IsInner m inner);
  slots = more;
  sound = is.sound;
  bytes = is.bytes ∙ sym put_is;
  whole = is.items ∙ ap (λ xs. xs ++ items_of m) h.whole ∙ ap (λ xs. flat_map items_of put ++ xs) (sym (append-nil (items_of m))) ∙ sym (flat_map-append items_of put (m ∷ []));
  opened = subst (λ (ds : List ℕ). HasOpened (flat_map slot_items (take (length ds) more)) given begun) (sym same)
      (subst (λ (ss : List Slot). HasOpened (flat_map slot_items ss) given begun) (sym (is.front (length c.state.delivered) within)) h.opened);
}

-- a session in which these packets wait
abbrev with_waiting : SessionEnd → List (List ℕ) → SessionEnd
with_waiting s waiting = record s { sending = record s.sending { waiting = waiting } }

-- the packets of a message are put behind all others
pub puts_behind : (c c' : Carriage) (put_before given : List (List ℕ)) (begun : Joining) (s : SessionEnd) (m : List ℕ) → AreMessages c put_before given begun → IsInner m → c'.traffic.put ≡ c.traffic.put ++ pieces_for m → c'.state.delivered ≡ c.state.delivered
    → length c.state.delivered ≤ length c.traffic.put → AreMessages c' (put_before ++ m ∷ []) given begun
puts_behind c c' put_before given begun s m h inner put_is same within =
    let s0 = with_waiting s [] in
    let apart = λ (packets : List (List ℕ)) (packet : List ℕ) (one : pieces_for m ≡ packet ∷ []) (may : MayJoin s0 packets packet). (let some = may.waits in let wrong : ⊥ = omega arith in wrong) in
    let more = more_slots h.slots m c.traffic.put s0 (put s0 (pieces_for m)) (pieces_for m) refl (waits (pieces_for m) apart) h.sound (h.bytes ∙ sym (append-nil c.traffic.put)) inner in
    more_messages c c' put_before given begun m c.traffic.put (pieces_for m) more.0 h inner more.1 put_is same within

-- its one packet joins the last one that was put, which waits and wasn't taken
pub joins_last : (c c' : Carriage) (put_before given : List (List ℕ)) (begun : Joining) (s : SessionEnd) (packets : List (List ℕ)) (m : List ℕ) (line : List (List ℕ)) → AreMessages c put_before given begun → IsInner m → pieces_for m ≡ m ∷ [] → MayJoin s packets m
    → c.traffic.put ≡ line ++ last_of s ∷ [] → c'.traffic.put ≡ line ++ joined (packets ++ m ∷ []) ∷ [] → c'.state.delivered ≡ c.state.delivered → length c.state.delivered ≤ length line → AreMessages c' (put_before ++ m ∷ []) given begun
joins_last c c' put_before given begun s packets m line h inner one may was is same within =
    let s0 = with_waiting s (last_of s ∷ []) in
    let may0 : MayJoin s0 packets m = record { waits = omega arith; last = may.last; inner = may.inner; fits = may.fits } in
    let more = more_slots h.slots m line s0 _ (m ∷ []) (sym one) (joins packets m may0) h.sound (h.bytes ∙ was) inner in
    more_messages c c' put_before given begun m line (joined (packets ++ m ∷ []) ∷ []) more.0 h inner more.1 is same within

-- the packet that waits last on the active link is the last one that was put, and wasn't taken
pub record LastPut (put : List (List ℕ)) (taken : ℕ) (packet : List ℕ) : Type 0 where
  pub last : put ≡ take (length put - 1) put ++ packet ∷ []
  pub behind : taken ≤ length (take (length put - 1) put)

last_in : (xs : List (List ℕ)) (x : List ℕ) → slice_get xs (length xs - 1) ≡ Some x → 1 ≤ length xs → xs ≡ take (length xs - 1) xs ++ x ∷ []
last_in [] x there some = absurd (let wrong : ⊥ = omega arith in wrong)
last_in (y ∷ []) x there some = (let is : y ≡ x = cc in ap (λ z. z ∷ []) is)
last_in (y ∷ z ∷ xs) x there some =
    let n : length (y ∷ z ∷ xs) - 1 ≡ suc (length (z ∷ xs) - 1) = omega arith in
    let rest = last_in (z ∷ xs) x (ap (λ k. slice_get (y ∷ z ∷ xs) k) (sym n) ∙ there) (omega arith) in
    ap (λ ys. y ∷ ys) rest ∙ ap (λ k. take k (y ∷ z ∷ xs) ++ x ∷ []) (sym n)

pub last_put : (b : Bearer) (x : SendingEnds) (t : Traffic) (s : State) → StandFor b x t s → Sound b s → x.near.state ≡ Up → 1 ≤ length x.near.window.waiting → is_tunnel (slice_index_or x.near.window.waiting (length x.near.window.waiting - 1) []) ≡ false
    → LastPut t.put (length s.delivered) (slice_index_or x.near.window.waiting (length x.near.window.waiting - 1) [])
last_put b x t s h sound up some plain =
    let w = last_waits b x t s h sound up some plain in
    let packet = slice_index_or x.near.window.waiting (length x.near.window.waiting - 1) [] in
    let is = subst (λ z. IsFor t.put (beside x.bearer) t.far z packet) w.slot_is w.last.is in
    let count : length s.delivered ≡ sound.count = delivered_count b s sound in
    let within = sound.within in
    let fewer = w.numbered in
    let long = length-take (length t.put - 1) t.put in
    record { last = last_in t.put packet is.there is.counts; behind = omega arith }

-- ---- packets are taken

-- the slots of packets that are taken behind others
next_slots : (slots : List Slot) (got taken rest : List (List ℕ)) → map slot_bytes slots ≡ (got ++ taken) ++ rest → map slot_bytes (take (length taken) (drop (length got) slots)) ≡ taken
next_slots slots got taken rest is =
    sym (take-map slot_bytes (length taken) (drop (length got) slots))
    ∙ ap (λ xs. take (length taken) xs) (
    sym (drop-map slot_bytes (length got) slots)
    ∙ ap (λ xs. drop (length got) xs) (is ∙ append_assoc got taken rest)
    ∙ drop_at got (taken ++ rest) (length got) refl)
    ∙ take-append_seam taken rest

-- what was taken has so many packets
pub taken_length : (c : Carriage) → length c.state.delivered ≤ length c.traffic.put → length (taken_of c) ≡ length c.state.delivered
taken_length c within = let long = length-take (length c.state.delivered) c.traffic.put in omega arith

-- What is taken gives the next messages, and everything that is given is whole.
pub gives_more : (c c' : Carriage) (put given : List (List ℕ)) (begun last : Joining) (brought : List Taken) (opened : List Opened) → AreMessages c put given begun → c'.traffic.put ≡ c.traffic.put → length c.state.delivered ≤ length c.traffic.put
    → length c'.state.delivered ≤ length c'.traffic.put → taken_of c' ≡ taken_of c ++ map (λ (t : Taken). t.packet) brought → BringsAll begun brought opened last → AreMessages c' put (given ++ packets_in opened) last × All IsWholePacket opened
gives_more c c' put given begun last brought opened h same within within' longer brings =
    let due = map (λ (t : Taken). t.packet) brought in
    let slots = h.slots in
    let n = length c.state.delivered in
    let n' = length c'.state.delivered in
    let got = taken_of c in
    let long : length got ≡ n = taken_length c within in
    let long' : length (taken_of c') ≡ n' = taken_length c' within' in
    let both : length (got ++ due) ≡ length got + length due = length-append got due in
    let all : n' ≡ n + length due = (let one : length (taken_of c') ≡ length (got ++ due) = ap (λ (xs : List (List ℕ)). length xs) longer in omega arith) in
    let next = take (length due) (drop n slots) in
    let spelled : map slot_bytes slots ≡ (got ++ due) ++ drop n' c'.traffic.put = h.bytes ∙ (sym same ∙ (sym (take-append-drop n' c'.traffic.put) ∙ ap (λ xs. xs ++ drop n' c'.traffic.put) longer)) in
    let due_is : due ≡ map slot_bytes next = sym (ap (λ i. map slot_bytes (take (length due) (drop i slots))) (sym long) ∙ next_slots slots got due (drop n' c'.traffic.put) spelled) in
    let two : take n' slots ≡ take n slots ++ next = ap (λ i. take i slots) all ∙ take-add n (length due) slots in
    let items : flat_map slot_items (take n' slots) ≡ flat_map slot_items (take n slots) ++ flat_map slot_items next = ap (λ (ss : List Slot). flat_map slot_items ss) two ∙ flat_map-append slot_items (take n slots) next in
    let front : IsPrefixOf (flat_map slot_items (take n slots) ++ flat_map slot_items next) (flat_map items_of put) = subst (λ xs. IsPrefixOf xs (flat_map items_of put)) items (items_front c put given begun n' h) in
    let sound : All IsSlot next = All-take IsSlot (length due) (drop n slots) (All-drop IsSlot n slots h.sound) in
    let more = opened_more put (flat_map slot_items (take n slots)) given begun next brought opened last h.opened (all_of IsInner put h.messages) front sound due_is brings in (
      record {
        messages = h.messages;
        slots = slots;
        sound = h.sound;
        bytes = h.bytes ∙ sym same;
        whole = h.whole;
        opened = subst (λ xs. HasOpened xs (given ++ packets_in opened) last) (sym items) more.0;
      },
      more.1,
    )
