-- The arrival of a peer's packet that isn't stopped is a turn of the pair to that peer, in which it hears the packet.
use Rattle.std.specs.Prelude.{slice_index_or, slice_set}
use Rattle.std.proofs.Common.{◌≡◌, ◌∙◌, ◌⊎◌, ℕ, Bool, true, false, List, [], ◌∷◌, ◌++◌, Option, Some, None, inl, inr, refl, sym, ap, subst, arith}
use Rattle.std.proofs.lemmas.Bool.{cases_eq}
use Rattle.std.proofs.lemmas.List.{get_or-set_other}
use Rattle.tipc_types.specs.Address.{node_word}
use Rattle.tipc_types.specs.declared.message_forms.Message.{Message}
use Rattle.tipc_types.specs.declared.message_forms.Message.TheVariants.{Items, Payload}
use Rattle.tipc_types.specs.declared.node_calls.Arrival.{Arrival}
use Rattle.tipc_types.specs.declared.node_calls.By.{By}
use Rattle.tipc_outside.specs.declared.outgoing.Outgoing.{Outgoing}
use Rattle.tipc_header.specs.Frames.{frame_of}
use Rattle.tipc_header.specs.Spelling.{Fields, spelling}
use Rattle.tipc_journal.specs.Dues.{comes_home}
use Rattle.tipc_sockets.specs.declared.fates.Fate.{Fate}
use Rattle.tipc_sockets.specs.declared.fates.Fate.TheVariants.{Dropped, Queued, ReturnDropped, Returned}
use Rattle.tipc_broadcast.specs.Casting.{shown as shown_of}
use Rattle.tipc_pair.specs.Facing.{PairEnds}
use Rattle.tipc_pair.specs.Messages.{pieces_for}
use Rattle.tipc_pair.specs.PairTurns.{PairTurn, PutsAll, PutsOne, Reply, replied}
use Rattle.tipc_pair.specs.PairTurns.Opening.{hears}
use Rattle.tipc_pair.specs.PairTurns.PutsAll.{none_put, puts_one}
use Rattle.tipc_pair.proofs.turns.PairPuts.{puts_more}
use Rattle.tipc_paired.proofs.wires.Frames.{er_of-frame, es_of-frame, same_packet}
use Rattle.tipc_paired.specs.Views.{er_of, es_of}
use Rattle.tipc_node.specs.declared.frames.Delivery.{Delivery}
use Rattle.tipc_node.specs.declared.neighbours.Neighbour.{Neighbour}
use Rattle.tipc_node.specs.Arrivals.{Hears, asks_peer, heard_casting, heard_work, last_neighbour}
use Rattle.tipc_node.specs.Casting.{stated_in}
use Rattle.tipc_node.specs.Messages.{bytes_of}
use Rattle.tipc_node.specs.Neighbours.{heard_neighbour}
use Rattle.tipc_node.specs.Nodes.{NodeState, neighbour_of, pair_with}
use Rattle.tipc_node.specs.Works.{DeliversAll, DeliversTo, Follows, GoesBack, Puts, PutsEach, Work, addr_of_word, fate_of, fated, noted}
use Rattle.tipc_node.specs.Works.DeliversAll.{none_left, one_more}
use Rattle.tipc_node.specs.Works.PutsEach.{none_left as none_more, one_more as another}
use Rattle.tipc_node.proofs.Places.{set_there}
use Rattle.tipc_node.proofs.pairs.Strangers.{pair_there}
use Rattle.tipc_settling.specs.Events.{ArrivalsHear, TurnHears}

-- ---- messages that are put at one pair

record IsPut (x y : PairEnds) : Type 0 where
  messages : List (List ℕ)
  frames : List Outgoing
  puts : PutsAll x messages frames y

put_nothing : (x : PairEnds) → IsPut x x
put_nothing x = record { messages = []; frames = []; puts = none_put x }

put_then : (x y z : PairEnds) → IsPut x y → IsPut y z → IsPut x z
put_then x y z h k = record { messages = h.messages ++ k.messages; frames = h.frames ++ k.frames; puts = puts_more x h.messages h.frames y k.messages k.frames z h.puts k.puts }

put_one : (x y : PairEnds) (m : List ℕ) (frames : List Outgoing) → PutsOne x (pieces_for m) y frames → IsPut x y
put_one x y m frames one = record { messages = m ∷ []; frames = frames ++ []; puts = puts_one x y y m [] frames [] one (none_put y) }

-- ---- neighbours

-- at each neighbour's pair nothing but that was done
abbrev ArePut : List (Option Neighbour) → List (Option Neighbour) → Type 0
ArePut xs ys = (k : ℕ) (x : Neighbour) → slice_index_or xs k None ≡ Some x → (y : Neighbour) × (slice_index_or ys k None ≡ Some y) × IsPut x.pair y.pair

are_still : (xs : List (Option Neighbour)) → ArePut xs xs
are_still xs k x is = (x, is, put_nothing x.pair)

are_then : (xs ys zs : List (Option Neighbour)) → ArePut xs ys → ArePut ys zs → ArePut xs zs
are_then xs ys zs h k i x is =
    let first = h i x is in
    let second = k i first.0 first.1 in
    (second.0, second.1, put_then x.pair (first.0).pair (second.0).pair first.2 second.2)

set_put : (xs : List (Option Neighbour)) (peer : ℕ) (x y : Neighbour) → slice_index_or xs peer None ≡ Some x → IsPut x.pair y.pair → ArePut xs (slice_set xs peer (Some y))
set_put xs peer x y was put k z is = by (cases_eq k peer)
  where
    by : (k ≡ peer) ⊎ (k ≡ peer → ⊥) → (w : Neighbour) × (slice_index_or (slice_set xs peer (Some y)) k None ≡ Some w) × IsPut z.pair w.pair
    by (inl here) =
        let same : x ≡ z = (let both : Some x ≡ Some z = sym was ∙ (ap (λ j. slice_index_or xs j None) (sym here) ∙ is) in cc) in
        (y, ap (λ j. slice_index_or (slice_set xs peer (Some y)) j None) here ∙ set_there xs peer x y was, subst (λ w. IsPut w.pair y.pair) same put)
    by (inr apart) = (z, get_or-set_other xs peer k (Some y) None apart ∙ is, put_nothing z.pair)

-- ---- work

puts_there : (own peer : ℕ) (w w' : Work) (m : Message) (frames : List Outgoing) → Puts own w peer m w' frames → ArePut w.neighbours w'.neighbours
puts_there own peer w w' m frames h =
    let p = h.puts in
    subst (λ (v : Work). ArePut w.neighbours v.neighbours) (sym h.after) (set_put w.neighbours peer h.neighbour h.then h.was (put_one h.neighbour.pair h.then.pair (bytes_of own m) frames p.puts))

each_there : (own peer : ℕ) (w w' : Work) (ms : List Message) (frames : List Outgoing) → PutsEach own peer w ms w' frames → ArePut w.neighbours w'.neighbours
each_there own peer w _ _ _ (none_more _) = are_still w.neighbours
each_there own peer w w' _ _ (another _ between _ m ms first rest one more) =
    are_then w.neighbours between.neighbours w'.neighbours (puts_there own peer w between m first one) (each_there own peer between w' ms rest more)

same_there : (w w' v : Work) → w' ≡ v → v.neighbours ≡ w.neighbours → ArePut w.neighbours w'.neighbours
same_there w w' v is same = subst (ArePut w.neighbours) (sym (ap (λ (u : Work). u.neighbours) is ∙ same)) (are_still w.neighbours)

back_there : (own : ℕ) (w w' : Work) (back : Message) (frames : List Outgoing) → GoesBack own w back w' frames → ArePut w.neighbours w'.neighbours
back_there own w w' back frames h = by (comes_home (addr_of_word own) back) refl
  where
    by : (b : Bool) → comes_home (addr_of_word own) back ≡ b → ArePut w.neighbours w'.neighbours
    by true home = same_there w w' (fated w back (fate_of w false back)) (h.home home).0 refl
    by false away = puts_there own _ w w' back frames (h.away away)

follows_there : (own : ℕ) (w w' : Work) (m : Message) (f : Fate) (frames : List Outgoing) → Follows own w m f w' frames → ArePut w.neighbours w'.neighbours
follows_there own w w' m (Returned back) frames h = back_there own (fated w m (Returned back)) w' back frames h
follows_there own w w' m (Queued ports) frames h = same_there w w' (fated w m (Queued ports)) h.0 refl
follows_there own w w' m (ReturnDropped waiting) frames h = same_there w w' (fated w m (ReturnDropped waiting)) h.0 refl
follows_there own w w' m Dropped frames h = same_there w w' (fated w m Dropped) h.0 refl

delivers_there : (own peer : ℕ) (w w' : Work) (o : Option Message) (frames : List Outgoing) → DeliversTo own peer w o w' frames → ArePut w.neighbours w'.neighbours
delivers_there own peer w w' None frames h = same_there w w' w h.0 refl
delivers_there own peer w w' (Some (Items withdrawal items)) frames h = same_there w w' _ h.0 refl
delivers_there own peer w w' (Some (Payload importance form from to kind lower upper code droppable body)) frames h =
    follows_there own w w' (Payload importance form from to kind lower upper code droppable body) _ frames h

all_there : (own peer : ℕ) (w w' : Work) (ds : List Delivery) (frames : List Outgoing) → DeliversAll own peer w ds w' frames → ArePut w.neighbours w'.neighbours
all_there own peer w _ _ _ (none_left _) = are_still w.neighbours
all_there own peer w w' _ _ (one_more _ between _ d ds first rest one all) =
    are_then w.neighbours between.neighbours w'.neighbours (delivers_there own peer (noted w (d.entry ∷ [])) between d.message first one) (all_there own peer between w' ds rest all)

-- ---- the node

own_turn : (n n' : NodeState) (by : By) (bearer number : ℕ) (bytes : List ℕ) (frames : List Outgoing) (answered : Arrival) (h : Hears n n' by bearer number bytes frames answered)
    → TurnHears n n' h.peer bearer h.first h.second h.packet number
own_turn n n' by bearer number bytes frames answered h =
    let start = heard_work n h.peer h.neighbour h.out in
    let y = heard_neighbour h.neighbour h.out in
    let stated = stated_in h.packet.header h.out.given in
    let casting = heard_casting n h.peer h.packet h.out in
    let last = last_neighbour h.peer bearer stated casting h.then in
    let shown = shown_of n.casting (node_word h.peer) in
    let greeted = each_there n.own h.peer start h.greeted h.greeting h.greeting_frames h.greeting_put in
    let delivered = all_there n.own h.peer h.greeted h.work _ h.returned h.delivers in
    let final = are_then start.neighbours h.greeted.neighbours h.work.neighbours greeted delivered h.peer y (set_there n.neighbours h.peer h.neighbour y h.was) in
    let same : final.0 ≡ h.then = (let both : Some final.0 ≡ Some h.then = sym final.1 ∙ h.then_is in cc) in
    let put : IsPut y.pair h.then.pair = subst (λ (z : Neighbour). IsPut y.pair z.pair) same final.2 in
    let there : neighbour_of n' h.peer ≡ Some last = ap (λ (m : NodeState). neighbour_of m h.peer) h.after ∙ set_there h.work.neighbours h.peer h.then last h.then_is in
    let now : pair_with n' h.peer ≡ last.pair = pair_there n' h.peer last there in
    let before : pair_with n h.peer ≡ h.neighbour.pair = pair_there n h.peer h.neighbour h.was in
    let due = h.due in
    let reply : Option Reply = Some (record { bearer = bearer; taken = 0; asks = asks_peer h.peer stated casting; shown = shown_of casting (node_word h.peer) }) in
    let sent = h.out.course.states ++ (h.out.course.numbered ++ (put.frames ++ (replied reply h.then.pair).states)) in
    let turn : PairTurn h.neighbour.pair (hears bearer h.first h.second h.packet number shown) put.messages reply last.pair sent =
    record { first = h.out; happened = h.hears; put_frames = put.frames; put = h.then.pair; puts = put.puts; after = refl; frames_are = refl } in
    record {
      one = due.on_one;
      shown = shown;
      messages = put.messages;
      reply = reply;
      frames = sent;
      turn = subst (λ x. PairTurn x (hears bearer h.first h.second h.packet number shown) put.messages reply (pair_with n' h.peer) sent) (sym before)
          (subst (λ x. PairTurn h.neighbour.pair (hears bearer h.first h.second h.packet number shown) put.messages reply x sent) (sym now) turn);
    }

pub arrivals_hear : ArrivalsHear
arrivals_hear n n' by bearer number bytes frames answered b es er p arrives passes from kind =
    let h = arrives.heard passes kind in
    let due = h.due in
    let frame : frame_of h.first h.second (spelling h.packet) ≡ frame_of es er (spelling p) = sym due.opened ∙ from.frame_is in
    let packet : h.packet ≡ p = same_packet h.first h.second es er h.packet p due.fits from.fits frame in
    let first : h.first ≡ es = sym (es_of-frame h.first h.second (spelling h.packet) due.first_fits due.second_fits) ∙ ap es_of frame ∙ es_of-frame es er (spelling p) from.es_fits from.er_fits in
    let second : h.second ≡ er = sym (er_of-frame h.first h.second (spelling h.packet) due.first_fits due.second_fits) ∙ ap er_of frame ∙ er_of-frame es er (spelling p) from.es_fits from.er_fits in
    let words : node_word h.peer ≡ node_word b = sym due.previous ∙ ap (λ (q : Fields). q.previous) packet ∙ from.previous in
    let who : h.peer ≡ b = omega (arith, words) in
    let turn = own_turn n n' by bearer number bytes frames answered h in
    subst (λ k. TurnHears n n' k bearer es er p number) who
    (subst (λ k. TurnHears n n' h.peer bearer k er p number) first (subst (λ k. TurnHears n n' h.peer bearer h.first k p number) second (subst (λ q. TurnHears n n' h.peer bearer h.first h.second q number) packet turn)))
