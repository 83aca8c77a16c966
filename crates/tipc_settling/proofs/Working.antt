-- What a node's work on an arrival adds to what is under way: what is delivered makes room for what goes back.
use Rattle.std.specs.Prelude.{slice_index_or, slice_set}
use Rattle.std.specs.List.{All}
use Rattle.std.proofs.Common.{◌≡◌, ◌≤◌, ◌<◌, ◌∙◌, ◌+◌, ℕ, Bool, true, false, List, [], ◌∷◌, ◌++◌, Option, Some, None, length, map, refl, sym, ap, subst, arith, append_assoc, append-nil}
use Rattle.std.proofs.lemmas.List.Elements.{All-head, All-map, All-tail}
use Rattle.std.proofs.lemmas.List.Sums.{sum_by-append, sum_by-set}
use Rattle.tipc_types.specs.Address.{node_word}
use Rattle.tipc_types.specs.declared.message_forms.Flow.{Flow}
use Rattle.tipc_types.specs.declared.message_forms.Flow.TheVariants.{Zero}
use Rattle.tipc_types.specs.declared.message_forms.Message.{Message}
use Rattle.tipc_types.specs.declared.message_forms.Message.TheVariants.{Items, Payload}
use Rattle.tipc_types.specs.declared.services.Publication.{Publication}
use Rattle.tipc_outside.specs.declared.outgoing.Outgoing.{Outgoing}
use Rattle.tipc_journal.specs.declared.entries.Entry.{Entry}
use Rattle.tipc_journal.specs.Dues.{comes_home}
use Rattle.tipc_name_dist.specs.Applying.{applied, learnt_entries, learnt_entry, misfit_entries}
use Rattle.tipc_reassembly.specs.declared.opening.Opened.{Opened}
use Rattle.tipc_reassembly.specs.declared.opening.Opened.TheVariants.{Passed, Whole}
use Rattle.tipc_pair.specs.Messages.{pieces_for}
use Rattle.tipc_send_window.specs.Sending.{Sending}
use Rattle.tipc_sockets.specs.declared.fates.Fate.{Fate}
use Rattle.tipc_sockets.specs.declared.fates.Fate.TheVariants.{Dropped, Queued, ReturnDropped, Returned}
use Rattle.tipc_sockets.specs.Telling.{fate_entry, origin_of}
use Rattle.tipc_node.specs.declared.frames.Delivery.{Delivery}
use Rattle.tipc_node.specs.declared.neighbours.Neighbour.{Neighbour}
use Rattle.tipc_node.specs.Messages.{bytes_of, message_in_flow}
use Rattle.tipc_node.specs.Nodes.{accepted_entry, delivered_by as told, deliveries_of, delivery_of}
use Rattle.tipc_node.specs.Works.DeliversAll.{none_left, one_more}
use Rattle.tipc_node.specs.Works.{Delivers, DeliversAll, DeliversTo, Follows, GoesBack, Puts, Work, addr_of_word, fate_of, fated, noted, waiting_to}
use Rattle.tipc_node.proofs.Places.{is_within}
use Rattle.tipc_settling.specs.Loads.{accepts_weight, accepted_weight, delivers_weight, delivered_weight, link_sum, pair_sum, peer_sum, weight_of}
use Rattle.tipc_settling.proofs.Packets.{CountsPackets, puts_more}
use Rattle.tipc_settling.proofs.Returns.{IsReturnOf, returns}

-- ---- entries that accept nothing

fate_quiet : (f : Fate) → accepts_weight (fate_entry f) ≡ 0
fate_quiet (Queued ports) = refl
fate_quiet (Returned (Payload importance form from to kind lower upper code droppable body)) = refl
fate_quiet (Returned (Items withdrawal items)) = refl
fate_quiet (ReturnDropped waiting) = refl
fate_quiet Dropped = refl

learnt_quiet : (m : Message) (p : Publication) → accepts_weight (learnt_entry m p) ≡ 0
learnt_quiet (Items true items) p = refl
learnt_quiet (Items false items) p = refl
learnt_quiet (Payload importance form from to kind lower upper code droppable body) p = refl

learnt_none : (m : Message) (ps : List Publication) → accepted_weight (map (learnt_entry m) ps) ≡ 0
learnt_none m [] = refl
learnt_none m (p ∷ ps) =
    let first = learnt_quiet m p in
    let others = learnt_none m ps in
    let all = sum_by-append accepts_weight (learnt_entry m p ∷ []) (map (learnt_entry m) ps) in
    omega (arith, first, others, all)

misfit_none : (o : Option ℕ) → accepted_weight (misfit_entries o) ≡ 0
misfit_none None = refl
misfit_none (Some place) = refl

items_none : (from : ℕ) (table : List Publication) (m : Message) → accepted_weight (learnt_entries from table m) ≡ 0
items_none from table m =
    let first = learnt_none m (applied from table m).publications in
    let last = misfit_none (applied from table m).bad in
    let all = sum_by-append accepts_weight (map (learnt_entry m) (applied from table m).publications) (misfit_entries (applied from table m).bad) in
    omega (arith, first, last, all)

-- ---- what is delivered

-- the weight of a message that was delivered, where there is one
abbrev pub weight_in : Option Message → ℕ
weight_in None = 0
weight_in (Some m) = weight_of m

-- an entry tells of a delivery: it delivers its message, or none, and accepts none
pub record TellsOf (d : Delivery) : Type 0 where
  pub delivers : delivers_weight d.entry ≡ weight_in d.message
  pub accepts : accepts_weight d.entry ≡ 0

-- so it is with what an arrival delivers
whole_tells : (flow : Flow) (peer : ℕ) (contact : ℕ × ℕ) (o : Option Message) (by : List ℕ) → TellsOf (record { entry = told flow peer contact o by; message = o })
whole_tells flow peer contact (Some m) by = record { delivers = refl; accepts = refl }
whole_tells flow peer contact None by = record { delivers = refl; accepts = refl }

delivery_tells : (flow : Flow) (peer : ℕ) (contact : ℕ × ℕ) (o : Opened) → TellsOf (delivery_of flow peer contact o)
delivery_tells flow peer contact (Whole packet by) = whole_tells flow peer contact (message_in_flow flow packet) by
delivery_tells flow peer contact (Passed place) = record { delivers = refl; accepts = refl }

pub deliveries_tell : (flow : Flow) (peer : ℕ) (contact : ℕ × ℕ) (opened : List Opened) → All TellsOf (deliveries_of flow peer contact opened)
deliveries_tell flow peer contact opened = All-map TellsOf (delivery_of flow peer contact) opened (λ k d within. delivery_tells flow peer contact (slice_index_or opened k d))

-- ---- with any count of send windows

module _ (size : Sending → ℕ) (counts : CountsPackets size) where
  -- ---- a neighbour is another one

  pub set_at : (xs : List (Option Neighbour)) (peer : ℕ) (y : Neighbour) (more : ℕ) → peer < length xs → pair_sum size y.pair ≤ peer_sum size (slice_index_or xs peer None) + more
      → link_sum size (slice_set xs peer (Some y)) ≤ link_sum size xs + more
  unfolding link_sum
  set_at xs peer y more within most = (let all = sum_by-set (peer_sum size) xs peer (Some y) None within in omega (arith, all, most))

  pub set_sum : (xs : List (Option Neighbour)) (peer : ℕ) (x y : Neighbour) (more : ℕ) → slice_index_or xs peer None ≡ Some x → pair_sum size y.pair ≤ pair_sum size x.pair + more
      → link_sum size (slice_set xs peer (Some y)) ≤ link_sum size xs + more
  set_sum xs peer x y more at most = (let there = ap (peer_sum size) at in set_at xs peer y more (is_within xs peer x at) (omega (arith, there, most)))

  -- ---- work that goes on

  -- More entries were told, and what they deliver, and so much beside, makes room for what they accept and for the packets that were put.
  pub record Under (room : ℕ) (w w' : Work) : Type 0 where
    pub more : List Entry
    pub grows : w'.inside ≡ w.inside ++ more
    pub adds : link_sum size w'.neighbours + accepted_weight more ≤ link_sum size w.neighbours + delivered_weight more + room

  pub under_rests : (w : Work) → Under 0 w w
  under_rests w = record { more = []; grows = sym (append-nil w.inside); adds = omega arith }

  pub under_then : (first second : ℕ) (w between w' : Work) → Under first w between → Under second between w' → Under (first + second) w w'
  under_then first second w between w' one two =
      let xs = one.more in
      let ys = two.more in
      let accepted = sum_by-append accepts_weight xs ys in
      let delivered = sum_by-append delivers_weight xs ys in
      let here = one.adds in
      let there = two.adds in
      record {
        more = xs ++ ys;
        grows = two.grows ∙ (ap (λ es. es ++ ys) one.grows ∙ append_assoc w.inside xs ys);
        adds = omega (arith, accepted, delivered, here, there);
      }

  under_within : (room most : ℕ) (w w' : Work) → room ≤ most → Under room w w' → Under most w w'
  under_within room most w w' within h = (let adds = h.adds in record { more = h.more; grows = h.grows; adds = omega (arith, adds, within) })

  -- the neighbours stay, and these entries accept nothing
  under_noted : (w w' : Work) (entries : List Entry) → w'.neighbours ≡ w.neighbours → w'.inside ≡ w.inside ++ entries → accepted_weight entries ≡ 0 → Under 0 w w'
  under_noted w w' entries same grows none =
      let packets = ap (link_sum size) same in
      record { more = entries; grows = grows; adds = omega (arith, packets, none) }

  -- ---- what is put

  -- a message is accepted, and put in so many packets
  puts_under : (own peer : ℕ) (w w' : Work) (m : Message) (frames : List Outgoing) → Puts own w peer m w' frames → Under (length (pieces_for (bytes_of own m)) + weight_of m) w w'
  puts_under own peer w w' m frames h =
      let p = h.puts in
      let count = length (pieces_for (bytes_of own m)) in
      let more = puts_more size counts h.neighbour.pair h.then.pair (pieces_for (bytes_of own m)) frames p.puts in
      let packets = set_sum w.neighbours peer h.neighbour h.then count h.was more in
      let after = ap (λ (v : Work). link_sum size v.neighbours) h.after in
      record {
        more = accepted_entry Zero peer h.neighbour.pair m ∷ [];
        grows = ap (λ (v : Work). v.inside) h.after;
        adds = omega (arith, packets, after);
      }

  -- ---- fates

  fated_under : (w : Work) (m : Message) (f : Fate) → Under 0 w (fated w m f)
  fated_under w m f = under_noted w (fated w m f) (fate_entry f ∷ []) refl refl (let quiet = fate_quiet f in omega (arith, quiet))

  -- what goes back: a return in one packet
  back_under : (own : ℕ) (w w' : Work) (m back : Message) (frames : List Outgoing) → IsReturnOf own m back → GoesBack own w back w' frames → Under (weight_of m) w w'
  back_under own w w' m back frames is h = by (comes_home (addr_of_word own) back) refl
    where
      by : (b : Bool) → comes_home (addr_of_word own) back ≡ b → Under (weight_of m) w w'
      by true home = (let none = h.home home in subst (Under (weight_of m) w) (sym none.0) (under_within 0 (weight_of m) w _ (omega arith) (fated_under w back (fate_of w false back))))
      by false away =
          let heavy = is.heavy in
          let light = is.light in
          let one = is.one in
          under_within (length (pieces_for (bytes_of own back)) + weight_of back) (weight_of m) w w' (omega (arith, heavy, light, one)) (puts_under own _ w w' back frames (h.away away))

  follows_under : (own : ℕ) (w w' : Work) (m : Message) (f : Fate) (frames : List Outgoing) → ((back : Message) → f ≡ Returned back → IsReturnOf own m back) → Follows own w m f w' frames → Under (weight_of m) w w'
  follows_under own w w' m (Returned back) frames is h =
      under_within (0 + weight_of m) (weight_of m) w w' (omega arith)
      (under_then 0 (weight_of m) w (fated w m (Returned back)) w' (fated_under w m (Returned back)) (back_under own (fated w m (Returned back)) w' m back frames (is back refl) h))
  follows_under own w w' m (Queued ports) frames is h = subst (Under (weight_of m) w) (sym h.0) (under_within 0 (weight_of m) w _ (omega arith) (fated_under w m (Queued ports)))
  follows_under own w w' m (ReturnDropped waiting) frames is h = subst (Under (weight_of m) w) (sym h.0) (under_within 0 (weight_of m) w _ (omega arith) (fated_under w m (ReturnDropped waiting)))
  follows_under own w w' m Dropped frames is h = subst (Under (weight_of m) w) (sym h.0) (under_within 0 (weight_of m) w _ (omega arith) (fated_under w m Dropped))

  -- ---- what is delivered

  delivers_under : (own peer : ℕ) (w w' : Work) (o : Option Message) (frames : List Outgoing) → DeliversTo own peer w o w' frames → Under (weight_in o) w w'
  delivers_under own peer w w' None frames h = subst (Under 0 w) (sym h.0) (under_rests w)
  delivers_under own peer w w' (Some (Items withdrawal items)) frames h =
      let m = Items withdrawal items in
      subst (Under 3 w) (sym h.0) (under_within 0 3 w _ (omega arith) (under_noted w _ (learnt_entries (node_word peer) w.sockets.names m) refl refl (items_none (node_word peer) w.sockets.names m)))
  delivers_under own peer w w' (Some (Payload importance form from to kind lower upper code droppable body)) frames h =
      let m = Payload importance form from to kind lower upper code droppable body in
      follows_under own w w' m (fate_of w true m) frames (λ back is. returns own w.sockets true (waiting_to w.neighbours (origin_of m)) m back is) h

  delivery_under : (own peer : ℕ) (w w' : Work) (d : Delivery) (frames : List Outgoing) → TellsOf d → Delivers own peer w d w' frames → Under 0 w w'
  delivery_under own peer w w' d frames tells h =
      let between = noted w (d.entry ∷ []) in
      let then = delivers_under own peer between w' d.message frames h in
      let xs = then.more in
      let there = then.adds in
      let delivers = tells.delivers in
      let accepts = tells.accepts in
      let accepted = sum_by-append accepts_weight (d.entry ∷ []) xs in
      let delivered = sum_by-append delivers_weight (d.entry ∷ []) xs in
      record {
        more = d.entry ∷ xs;
        grows = then.grows ∙ append_assoc w.inside (d.entry ∷ []) xs;
        adds = omega (arith, there, delivers, accepts, accepted, delivered);
      }

  pub all_under : (own peer : ℕ) (w w' : Work) (ds : List Delivery) (frames : List Outgoing) → All TellsOf ds → DeliversAll own peer w ds w' frames → Under 0 w w'
  all_under own peer w _ _ _ tells (none_left _) = under_rests w
  all_under own peer w w' _ _ tells (one_more _ between _ d ds first rest one all) =
      under_then 0 0 w between w' (delivery_under own peer w between d first (All-head TellsOf d ds tells) one) (all_under own peer between w' ds rest (All-tail TellsOf d ds tells) all)
