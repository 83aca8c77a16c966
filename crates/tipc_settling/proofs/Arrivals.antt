-- What a node hears of a session in a calm arrival, it hears; and the sessions with all its peers go on.
use Rattle.std.specs.Prelude.{if◌then◌else◌, ◌==◌, slice_index_or, slice_set}
use Rattle.std.specs.List.{Contains}
use Rattle.std.proofs.Common.{◌≡◌, ◌≤◌, ◌∙◌, ◌⊎◌, ℕ, Bool, true, false, List, [], ◌∷◌, Option, Some, None, inl, inr, refl, sym, ap, subst, arith}
use Rattle.std.proofs.lemmas.Bool.{cases_eq}
use Rattle.std.proofs.lemmas.Bool.Decides.{nat_tests}
use Rattle.std.proofs.lemmas.List.{get_or-set_other}
use Rattle.std.proofs.lemmas.List.Elements.{Contains-append_left}
use Rattle.tipc_types.specs.Address.{node_word}
use Rattle.tipc_types.specs.declared.link_words.BroadcastState.{BroadcastState}
use Rattle.tipc_types.specs.declared.node_calls.Arrival.{Arrival}
use Rattle.tipc_types.specs.declared.node_calls.By.{By}
use Rattle.tipc_outside.specs.declared.outgoing.Outgoing.{Outgoing}
use Rattle.tipc_types.specs.declared.message_forms.Message.{Message}
use Rattle.tipc_types.specs.declared.message_forms.Message.TheVariants.{Items, Payload}
use Rattle.tipc_journal.specs.Dues.{comes_home}
use Rattle.tipc_link_fsm.specs.Table.{is_session}
use Rattle.tipc_link.specs.Links.{LinkEnd, is_traffic, with_session}
use Rattle.tipc_link.specs.Sessions.{SessionEnd, flushed}
use Rattle.tipc_sockets.specs.declared.fates.Fate.{Fate}
use Rattle.tipc_sockets.specs.declared.fates.Fate.TheVariants.{Dropped, Queued, ReturnDropped, Returned}
use Rattle.tipc_pair.specs.Facing.{PairEnds, facing, turned, with_near}
use Rattle.tipc_pair.specs.PairCalls.{answered_at, answered_near, at_bearer}
use Rattle.tipc_pair.proofs.Facings.{facing_back, facing_far, facing_near, facing_two}
use Rattle.tipc_pair.proofs.turns.PairKept.{facing_bearer}
use Rattle.tipc_node.specs.declared.frames.Delivery.{Delivery}
use Rattle.tipc_node.specs.declared.neighbours.Neighbour.{Neighbour}
use Rattle.tipc_node.specs.Works.{DeliversAll, DeliversTo, Follows, GoesBack, Puts, Work, addr_of_word, fate_of, fated, noted}
use Rattle.tipc_node.specs.Works.DeliversAll.{none_left, one_more}
use Rattle.tipc_node.proofs.Places.{set_there}
use Rattle.tipc_header.specs.Frames.{frame_of}
use Rattle.tipc_header.specs.Spelling.{Fields, spelling}
use Rattle.tipc_broadcast.specs.Casting.{shown as shown_of}
use Rattle.tipc_pair.specs.declared.changes.PairOutcome.{PairOutcome}
use Rattle.tipc_pair.specs.Courses.{Course, sent_in}
use Rattle.tipc_pair.specs.PairArrivals.{Arrives as PairArrives, hears as heard_by}
use Rattle.tipc_pair.specs.PairTurns.{Outset, PutsOne}
use Rattle.tipc_pair.proofs.acts.Acting.{arrives_ran, ran_bearer}
use Rattle.tipc_paired.proofs.wires.Frames.{er_of-frame, es_of-frame, same_packet}
use Rattle.tipc_paired.specs.Views.{er_of, es_of}
use Rattle.tipc_node.specs.Arrivals.{Hears, heard_casting, heard_work, last_neighbour}
use Rattle.tipc_node.specs.Casting.{stated_in}
use Rattle.tipc_node.specs.Neighbours.{heard_neighbour}
use Rattle.tipc_node.specs.Nodes.{NodeState, end_with, neighbour_of, pair_with}
use Rattle.tipc_node.specs.Telling.{IsTold}
use Rattle.tipc_node.proofs.pairs.Strangers.{pair_there}
use Rattle.tipc_settling.specs.Goings.{EndGoesOn, EndsGoOn, HaveRecords, OpensKnown, up_session}
use Rattle.tipc_settling.specs.Loads.{IsCalm}
use Rattle.tipc_settling.specs.Repairs.{NodeHears, NodesHear}
use Rattle.tipc_settling.proofs.Calm.{heard_none, seen_first}
use Rattle.tipc_settling.proofs.Hearing.{arrival_goes}
use Rattle.tipc_settling.proofs.Packets.{PutsNone, hears_none}
use Rattle.tipc_settling.proofs.SessionsGoing.{answer_lasts, end_stays, end_then, goes_then, put_lasts, stays_then, turned_records}

-- ---- pairs

-- a pair after something that leaves it seen from the same link
record PairGoesOn (x y : PairEnds) : Type 0 where
  goes : EndsGoOn x y
  bearer : y.bearer ≡ x.bearer

pair_stays : (x : PairEnds) → PairGoesOn x x
pair_stays x = record { goes = record { near = end_stays x.near; far = end_stays x.far }; bearer = refl }

pair_then : (x y z : PairEnds) → PairGoesOn x y → PairGoesOn y z → PairGoesOn x z
pair_then x y z h k =
    let one = h.goes in
    let two = k.goes in
    record { goes = record { near = end_then x.near y.near z.near one.near two.near; far = end_then x.far y.far z.far one.far two.far }; bearer = k.bearer ∙ h.bearer }

-- what is done at the link of a bearer, and the pair as it was seen before
at_goes : (b : ℕ) (x y : PairEnds) → b ≤ 1 → x.bearer ≤ 1 → PairGoesOn (facing b x) y → PairGoesOn x (facing x.bearer y)
at_goes b x y one two h = by (x.bearer == b) refl
  where
    by : (t : Bool) → (x.bearer == b) ≡ t → PairGoesOn x (facing x.bearer y)
    by true same =
        let here : facing b x ≡ x = facing_near b x (grind (arith, nat_tests, same)) in
        let goes = subst (λ z. PairGoesOn z y) here h in
        subst (PairGoesOn x) (sym (facing_near x.bearer y goes.bearer)) goes
    by false differs =
        let here : facing b x ≡ turned x = facing_far b x differs in
        let goes = subst (λ z. PairGoesOn z y) here h in
        let ends = goes.goes in
        let bearer = goes.bearer in
        let apart : (y.bearer == x.bearer) ≡ false = grind (arith, nat_tests, bearer, two) in
        subst (PairGoesOn x) (sym (facing_far x.bearer y apart)) (record { goes = record { near = ends.far; far = ends.near }; bearer = omega (arith, bearer, two) })

near_goes_on : (x : PairEnds) (e e' : LinkEnd) → x.near ≡ Some e → EndGoesOn (Some e) (Some e') → PairGoesOn x (with_near x e')
near_goes_on x e e' near goes = record { goes = record { near = subst (λ o. EndGoesOn o (Some e')) (sym near) goes; far = end_stays x.far }; bearer = refl }

puts_go_on : (x x' : PairEnds) (pieces : List (List ℕ)) (frames : List Outgoing) → x.bearer ≤ 1 → PutsOne x pieces x' frames → PairGoesOn x x'
puts_go_on x x' pieces frames two h = by (x.bearer == h.bearer) refl
  where
    near_goes : PairGoesOn (facing h.bearer x) h.near
    near_goes = (let p = h.puts in let put = put_lasts p.end p.session p.put pieces p.session_is p.is_put in subst (PairGoesOn (facing h.bearer x)) (sym p.after) (near_goes_on (facing h.bearer x) p.end (with_session p.end (flushed p.put)) p.end_is put.goes))

    by : (t : Bool) → (x.bearer == h.bearer) ≡ t → PairGoesOn x x'
    by true same = subst (PairGoesOn x) (sym h.after) (at_goes h.bearer x h.near (let is : x.bearer ≡ h.bearer = grind (arith, nat_tests, same) in omega (arith, is, two)) two near_goes)
    by false differs = subst (PairGoesOn x) (sym h.after) (far_goes differs)
      where
        far_goes : (x.bearer == h.bearer) ≡ false → PairGoesOn x (facing x.bearer h.near)
        far_goes differs =
            let here : facing h.bearer x ≡ turned x = facing_far h.bearer x differs in
            let goes = subst (λ z. PairGoesOn z h.near) here near_goes in
            let ends = goes.goes in
            let bearer = goes.bearer in
            let near = h.near in
            let apart : (near.bearer == x.bearer) ≡ false = grind (arith, nat_tests, bearer, two) in
            subst (PairGoesOn x) (sym (facing_far x.bearer near apart)) (record { goes = record { near = ends.far; far = ends.near }; bearer = omega (arith, bearer, two) })

answers_go_on : (x : PairEnds) (o : Option LinkEnd) (taken : ℕ) (asks : Bool) (shown : BroadcastState) → x.near ≡ o → PairGoesOn x (answered_at x o taken asks shown).pair
answers_go_on x None taken asks shown near = pair_stays x
answers_go_on x (Some e) taken asks shown near = (let lasts = answer_lasts e taken asks in near_goes_on x e _ near lasts.goes)

answer_goes_on : (bearer taken : ℕ) (asks : Bool) (shown : BroadcastState) (x : PairEnds) → bearer ≤ 1 → x.bearer ≤ 1 → PairGoesOn x (at_bearer bearer x (answered_near taken asks shown)).pair
answer_goes_on bearer taken asks shown x one two = (let y = facing bearer x in at_goes bearer x (answered_near taken asks shown y).pair one two (answers_go_on y y.near taken asks shown refl))

-- ---- neighbours

-- what is kept of each peer goes on
abbrev PlacesGoOn : List (Option Neighbour) → List (Option Neighbour) → Type 0
PlacesGoOn xs ys = (k : ℕ) (x : Neighbour) → slice_index_or xs k None ≡ Some x → x.pair.bearer ≤ 1 → (y : Neighbour) × (slice_index_or ys k None ≡ Some y) × PairGoesOn x.pair y.pair

places_stay : (xs : List (Option Neighbour)) → PlacesGoOn xs xs
places_stay xs k x is two = (x, is, pair_stays x.pair)

places_then : (xs ys zs : List (Option Neighbour)) → PlacesGoOn xs ys → PlacesGoOn ys zs → PlacesGoOn xs zs
places_then xs ys zs h k i x is two =
    let first = h i x is two in
    let bearer = (let goes = first.2 in goes.bearer) in
    let second = k i first.0 first.1 (omega (arith, bearer, two)) in
    (second.0, second.1, pair_then x.pair (first.0).pair (second.0).pair first.2 second.2)

set_goes : (xs : List (Option Neighbour)) (peer : ℕ) (x y : Neighbour) → slice_index_or xs peer None ≡ Some x → (x.pair.bearer ≤ 1 → PairGoesOn x.pair y.pair) → PlacesGoOn xs (slice_set xs peer (Some y))
set_goes xs peer x y was goes k z is two = by (cases_eq k peer)
  where
    by : (k ≡ peer) ⊎ (k ≡ peer → ⊥) → (w : Neighbour) × (slice_index_or (slice_set xs peer (Some y)) k None ≡ Some w) × PairGoesOn z.pair w.pair
    by (inl here) =
        let same : x ≡ z = (let both : Some x ≡ Some z = sym was ∙ (ap (λ j. slice_index_or xs j None) (sym here) ∙ is) in cc) in
        (y, ap (λ j. slice_index_or (slice_set xs peer (Some y)) j None) here ∙ set_there xs peer x y was, subst (λ w. PairGoesOn w.pair y.pair) same (goes (subst (λ w. w.pair.bearer ≤ 1) (sym same) two)))
    by (inr apart) = (z, get_or-set_other xs peer k (Some y) None apart ∙ is, pair_stays z.pair)

-- ---- what is delivered

puts_places : (own peer : ℕ) (w w' : Work) (m : Message) (frames : List Outgoing) → Puts own w peer m w' frames → PlacesGoOn w.neighbours w'.neighbours
puts_places own peer w w' m frames h =
    let p = h.puts in
    subst (λ (v : Work). PlacesGoOn w.neighbours v.neighbours) (sym h.after) (set_goes w.neighbours peer h.neighbour h.then h.was (λ two. puts_go_on h.neighbour.pair h.then.pair _ frames two p.puts))

same_places : (w w' v : Work) → w' ≡ v → v.neighbours ≡ w.neighbours → PlacesGoOn w.neighbours w'.neighbours
same_places w w' v is same = subst (PlacesGoOn w.neighbours) (sym (ap (λ (u : Work). u.neighbours) is ∙ same)) (places_stay w.neighbours)

back_places : (own : ℕ) (w w' : Work) (back : Message) (frames : List Outgoing) → GoesBack own w back w' frames → PlacesGoOn w.neighbours w'.neighbours
back_places own w w' back frames h = by (comes_home (addr_of_word own) back) refl
  where
    by : (b : Bool) → comes_home (addr_of_word own) back ≡ b → PlacesGoOn w.neighbours w'.neighbours
    by true home = same_places w w' (fated w back (fate_of w false back)) (h.home home).0 refl
    by false away = puts_places own _ w w' back frames (h.away away)

follows_places : (own : ℕ) (w w' : Work) (m : Message) (f : Fate) (frames : List Outgoing) → Follows own w m f w' frames → PlacesGoOn w.neighbours w'.neighbours
follows_places own w w' m (Returned back) frames h = back_places own (fated w m (Returned back)) w' back frames h
follows_places own w w' m (Queued ports) frames h = same_places w w' (fated w m (Queued ports)) h.0 refl
follows_places own w w' m (ReturnDropped waiting) frames h = same_places w w' (fated w m (ReturnDropped waiting)) h.0 refl
follows_places own w w' m Dropped frames h = same_places w w' (fated w m Dropped) h.0 refl

delivers_places : (own peer : ℕ) (w w' : Work) (o : Option Message) (frames : List Outgoing) → DeliversTo own peer w o w' frames → PlacesGoOn w.neighbours w'.neighbours
delivers_places own peer w w' None frames h = same_places w w' w h.0 refl
delivers_places own peer w w' (Some (Items withdrawal items)) frames h = same_places w w' _ h.0 refl
delivers_places own peer w w' (Some (Payload importance form from to kind lower upper code droppable body)) frames h =
    follows_places own w w' (Payload importance form from to kind lower upper code droppable body) _ frames h

all_places_go : (own peer : ℕ) (w w' : Work) (ds : List Delivery) (frames : List Outgoing) → DeliversAll own peer w ds w' frames → PlacesGoOn w.neighbours w'.neighbours
all_places_go own peer w _ _ _ (none_left _) = places_stay w.neighbours
all_places_go own peer w w' _ _ (one_more _ between _ d ds first rest one all) =
    places_then w.neighbours between.neighbours w'.neighbours (delivers_places own peer (noted w (d.entry ∷ [])) between d.message first one) (all_places_go own peer between w' ds rest all)

-- ---- the node

facing_goes : (b : ℕ) (x y : PairEnds) → PairGoesOn x y → EndsGoOn (facing b x) (facing b y)
unfolding facing
facing_goes b x y h =
    let same : (y.bearer == b) ≡ (x.bearer == b) = ap (λ k. k == b) h.bearer in
    let ends = h.goes in
    subst (λ t. EndsGoOn (facing b x) (if t then y else turned y)) (sym same)
    (elim (x.bearer == b) as (λ t. EndsGoOn (if t then x else turned x) (if t then y else turned y)) [ true ↦ ends | false ↦ record { near = ends.far; far = ends.near } ])

facing_records : (known : ℕ → ℕ) (b : ℕ) (x : PairEnds) → HaveRecords known x → HaveRecords known (facing b x)
unfolding facing
facing_records known b x h = elim (x.bearer == b) as (λ t. HaveRecords known (if t then x else turned x)) [ true ↦ h | false ↦ turned_records known x h ]

arrival_bearer : (x : PairEnds) (es er : ℕ) (p : Fields) (by : ℕ) (shown : BroadcastState) (c : Course) (given : PairOutcome) → x.bearer ≤ 1 → PairArrives x es er p by shown c given → c.pair.bearer ≡ x.bearer
arrival_bearer x es er p by shown c given two arrives =
    ran_bearer PutsNone x c (arrives_ran PutsNone (λ y. tt) x es er p by shown c given two (hears_none x es er p by shown) arrives) two

-- where the packet is that of the arrival
own_hears : (known : ℕ → ℕ) (n n' : NodeState) (by : By) (bearer number : ℕ) (bytes : List ℕ) (frames : List Outgoing) (answered : Arrival) (h : Hears n n' by bearer number bytes frames answered) (e : LinkEnd) (r : SessionEnd)
    → IsTold n → IsCalm n n' → (facing bearer h.neighbour.pair).near ≡ Some e → up_session (Some e) ≡ Some r → is_session e.fsm h.first h.second ≡ true → is_traffic h.packet.header ≡ true → HaveRecords known h.neighbour.pair
    → OpensKnown known (heard_by h.packet.header h.first h.second h.packet number (shown_of n.casting (node_word h.peer)) (facing bearer h.neighbour.pair)).course.pair
    (heard_by h.packet.header h.first h.second h.packet number (shown_of n.casting (node_word h.peer)) (facing bearer h.neighbour.pair)).outcome
    → NodeHears n' frames h.peer bearer number h.packet r
own_hears known n n' by bearer number bytes frames answered h e r told calm near up session traffic records brings =
    let x = h.neighbour in
    let z = facing bearer x.pair in
    let shown = shown_of n.casting (node_word h.peer) in
    let heard = h.hears in
    let c = heard.0 in
    let one = (let due = h.due in due.on_one) in
    let two = seen_first n h.peer x told h.was in
    let calmly = heard_none n n' by bearer number bytes frames answered h calm in
    let quiet : c.changes ≡ [] = sym (ap (λ (o : Outset). o.course.changes) heard.3) ∙ calmly.0 in
    let end = arrival_goes known z e r h.first h.second h.packet number shown c heard.1 (facing_records known bearer x.pair records) near (ap up_session near ∙ up) session traffic brings heard.2 quiet in
    -- the pair behind what was heard
    let y = heard_neighbour x h.out in
    let pair_is : y.pair ≡ facing x.pair.bearer c.pair = ap (λ (o : Outset). o.course.pair) heard.3 in
    let there : c.pair.bearer ≡ bearer = arrival_bearer z h.first h.second h.packet number shown c heard.1 (facing_two bearer x.pair two) heard.2 ∙ facing_bearer bearer x.pair one two in
    let c_two : c.pair.bearer ≤ 1 = omega (arith, there, one) in
    let back : facing bearer y.pair ≡ c.pair = ap (facing bearer) pair_is ∙ (ap (λ b. facing b (facing x.pair.bearer c.pair)) (sym there) ∙ facing_back x.pair.bearer c.pair two c_two) in
    let y_bearer : y.pair.bearer ≡ x.pair.bearer = ap (λ (q : PairEnds). q.bearer) pair_is ∙ facing_bearer x.pair.bearer c.pair two c_two in
    -- the places behind it
    let start = heard_work n h.peer x h.out in
    let stated = stated_in h.packet.header h.out.given in
    let casting = heard_casting n h.peer h.packet h.out in
    let last = last_neighbour h.peer bearer stated casting h.then in
    let delivered = all_places_go n.own h.peer h.greeted h.work _ h.returned h.delivers in
    let answered_last = set_goes h.work.neighbours h.peer h.then last h.then_is (λ seen. answer_goes_on bearer 0 _ _ h.then.pair one seen) in
    let places : PlacesGoOn start.neighbours n'.neighbours =
    subst (λ ns. PlacesGoOn start.neighbours ns) (sym (ap (λ (m : NodeState). m.neighbours) h.after))
    (subst (λ (w : Work). PlacesGoOn w.neighbours (slice_set h.work.neighbours h.peer (Some last))) calmly.1 (places_then h.greeted.neighbours h.work.neighbours _ delivered answered_last)) in
    let final = places h.peer y (set_there n.neighbours h.peer x y h.was) (omega (arith, y_bearer, two)) in
    let goes = facing_goes bearer y.pair (final.0).pair final.2 in
    let near_goes = goes.near end.then (ap (λ (q : PairEnds). up_session q.near) back ∙ end.then_is) in
    let last_stays = near_goes.2 in
    record {
      then = near_goes.0;
      then_is = ap (λ o. up_session (end_with bearer o)) final.1 ∙ near_goes.1;
      stays = stays_then r end.then near_goes.0 end.stays last_stays;
      hears = goes_then _ end.then near_goes.0 end.hears last_stays.goes;
      again = λ o there. subst (λ fs. Contains fs o) (sym h.frames_are)
          (Contains-append_left (sent_in h.out.course) _ o
          (Contains-append_left h.out.course.states h.out.course.numbered o (subst (λ fs. Contains fs o) (sym (ap (λ (u : Outset). u.course.states) heard.3)) (end.again o there))));
    }

-- what is asked of a packet, and what comes of it
abbrev Holds : (ℕ → ℕ) → NodeState → NodeState → List Outgoing → ℕ → ℕ → LinkEnd → SessionEnd → ℕ → ℕ → ℕ → Fields → Type 0
Holds known n n' frames bearer number e r peer es er p = end_with bearer (neighbour_of n peer) ≡ Some e → is_session e.fsm es er ≡ true → is_traffic p.header ≡ true → HaveRecords known (pair_with n peer)
    → OpensKnown known (heard_by p.header es er p number (shown_of n.casting (node_word peer)) (facing bearer (pair_with n peer))).course.pair
    (heard_by p.header es er p number (shown_of n.casting (node_word peer)) (facing bearer (pair_with n peer))).outcome
    → NodeHears n' frames peer bearer number p r

pub node_hears : NodesHear
node_hears known n n' by bearer number bytes frames answered peer es er p e r arrives turn calm clear from kind end up session traffic records brings =
    let h = arrives.heard clear kind in
    let due = h.due in
    let framed : frame_of es er (spelling p) ≡ frame_of h.first h.second (spelling h.packet) = sym from.frame_is ∙ due.opened in
    let packet : p ≡ h.packet = same_packet es er h.first h.second p h.packet from.fits due.fits framed in
    let first : es ≡ h.first = sym (es_of-frame es er (spelling p) from.es_fits from.er_fits) ∙ (ap es_of framed ∙ es_of-frame h.first h.second (spelling h.packet) due.first_fits due.second_fits) in
    let second : er ≡ h.second = sym (er_of-frame es er (spelling p) from.es_fits from.er_fits) ∙ (ap er_of framed ∙ er_of-frame h.first h.second (spelling h.packet) due.first_fits due.second_fits) in
    let word : node_word peer ≡ node_word h.peer = sym from.previous ∙ (ap (λ (q : Fields). q.previous) packet ∙ due.previous) in
    let same : peer ≡ h.peer = omega (arith, word) in
    let P = Holds known n n' frames bearer number e r in
    let own : P h.peer h.first h.second h.packet = own_holds h in
    subst (λ k. P k es er p) (sym same) (subst (λ k. P h.peer k er p) (sym first) (subst (λ k. P h.peer h.first k p) (sym second) (subst (λ q. P h.peer h.first h.second q) (sym packet) own))) end session traffic records brings
  where
    own_holds : (h : Hears n n' by bearer number bytes frames answered) → Holds known n n' frames bearer number e r h.peer h.first h.second h.packet
    own_holds h end session traffic records brings =
        let pair_is = pair_there n h.peer h.neighbour h.was in
        own_hears known n n' by bearer number bytes frames answered h e r turn.told_before calm (sym (ap (end_with bearer) h.was) ∙ end) up session traffic (subst (HaveRecords known) pair_is records)
        (subst (λ q. OpensKnown known (heard_by h.packet.header h.first h.second h.packet number (shown_of n.casting (node_word h.peer)) (facing bearer q)).course.pair
        (heard_by h.packet.header h.first h.second h.packet number (shown_of n.casting (node_word h.peer)) (facing bearer q)).outcome) pair_is brings)
