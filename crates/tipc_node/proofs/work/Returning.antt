-- What goes back by a fate, and where.
use Rattle.std.proofs.Common.{◌≡◌, ℕ, ◌-◌, ◌<◌, ◌≤◌, ◌==◌, ◌&&◌, ◌||◌, not, Bool, true, false, List, [], ◌∷◌, ◌++◌, Option, Some, None, Result, Ok, Err, if◌then◌else◌, refl, sym, ap, subst, ◌∙◌, arith, length, take, true≢false}
use Rattle.std.specs.Prelude.{IfOk, OnOk, is_some, option_map, nat_le, nat_lt, slice_index_or, unwrap_or}
use Rattle.std.proofs.lemmas.Bool.Decides.{nat_tests}
use Rattle.std.proofs.lemmas.List.{get_or_past, length-take}
use Rattle.tipc_types.specs.Address.{IsNodeWord, node_word}
use Rattle.tipc_types.specs.declared.identity.Addr.{Addr}
use Rattle.tipc_types.specs.declared.message_forms.Form.{Form}
use Rattle.tipc_types.specs.declared.message_forms.Form.TheVariants.{Connected, Direct, Multicast, Named}
use Rattle.tipc_types.specs.declared.message_forms.Message.{Message}
use Rattle.tipc_types.specs.declared.message_forms.Message.TheVariants.{Payload, Items}
use Rattle.tipc_outside.specs.Frames.{Out}
use Rattle.tipc_outside.proofs.Adding.{adds_none}
use Rattle.tipc_journal.specs.declared.entries.Entry.{Entry}
use Rattle.tipc_journal.specs.Dues.{comes_home, returned_message}
use Rattle.tipc_journal.specs.Fates.{inbox_size, no_name, overload, return_limit}
use Rattle.tipc_pair.specs.Facing.{in_contact}
use Rattle.tipc_message.specs.Wire.{IsCarried, IsPayload}
use Rattle.tipc_sockets.specs.declared.fates.Fate.{Fate}
use Rattle.tipc_sockets.specs.declared.fates.Fate.TheVariants.{Queued, Returned, ReturnDropped, Dropped}
use Rattle.tipc_sockets.specs.Fates.{after_fate, fate, is_by_name, is_offered, one_port_fate, refusal, return_fate, room_refusal, unqueued_fate}
use Rattle.tipc_sockets.specs.SocketTables.{queue_at, SocketTable}
use Rattle.tipc_sockets.specs.Telling.{fate_entry, origin_of}
use Rattle.tipc_node.proofs.work.Neighbouring.{active_is}
use Rattle.tipc_node.specs.declared.neighbours.Neighbour.{Neighbour}
use Rattle.tipc_node.specs.Hearings.{Settled, WentBack}
use Rattle.tipc_node.specs.Messages.{destination_of}
use Rattle.tipc_node.specs.Nodes.{load_with}
use Rattle.tipc_node.specs.Works.{Follows, GoesBack, Work, addr_of_word, back_of, fate_of, fated, waiting_to, work_of}

-- ---- what a return is like

-- a return to where a message came from: for a peer fewer than 200 packets wait on the link to it
pub record IsReturn (own : ℕ) (waiting : Option ℕ) (m back : Message) : Type 0 where
  pub payload : IsPayload back
  pub to_origin : destination_of back ≡ origin_of m
  pub away : comes_home (addr_of_word own) back ≡ false → (n : ℕ) × (waiting ≡ Some n) × (n < return_limit)

abbrev IsSmall : Option ℕ → Type 0
IsSmall None = Unit {0}
IsSmall (Some why) = why ≤ 5

small_room : (found : Option (List Message)) → IsSmall (room_refusal found)
small_room None = omega arith
small_room (Some waiting) = by (nat_lt (length waiting) inbox_size)
  where
    by : (b : Bool) → IsSmall (if b then None else Some overload)
    by true = tt
    by false = omega arith

small_refusal : (s : SocketTable) (arrived : Bool) (form : Form) (port kind instance : ℕ) → IsSmall (refusal s arrived form port kind instance)
small_refusal s arrived form port kind instance = by (arrived && (is_by_name form && not (is_offered s.live port kind instance)))
  where
    by : (b : Bool) → IsSmall (if b then Some no_name else room_refusal (queue_at s port))
    by true = omega arith
    by false = small_room (queue_at s port)

short : (body : List ℕ) → length (take 1024 body) ≤ 66000
short body = let few = length-take 1024 body in omega (arith, few)

same_message : (r back : Message) → Some r ≡ Some back → r ≡ back
same_message r back is = ap (λ (o : Option Message). unwrap_or o r) is

-- where it goes back
went : (own : ℕ) (waiting : Option ℕ) (home : Bool) (r back m : Message) → comes_home (addr_of_word own) r ≡ home → IsPayload r → destination_of r ≡ origin_of m
    → back_of (return_fate home waiting r) ≡ Some back → IsReturn own waiting m back
went own waiting true r back m is payload to h =
    subst (λ (b : Message). IsReturn own waiting m b) (same_message r back h) (record { payload = payload; to_origin = to; away = λ no. absurd (true≢false (sym is ∙ no)) })
went own None false r back m is payload to h = absurd cc
went own (Some n) false r back m is payload to h = by (nat_le return_limit n) refl h
  where
    by : (full : Bool) → nat_le return_limit n ≡ full → back_of (if full then ReturnDropped n else Returned r) ≡ Some back → IsReturn own (Some n) m back
    by true are g = absurd cc
    by false are g =
        let few : n < return_limit = grind (arith, nat_tests, are) in
        subst (λ (b : Message). IsReturn own (Some n) m b) (same_message r back g) (record { payload = payload; to_origin = to; away = λ no. (n, refl, few) })

unqueued_return : (own : ℕ) (waiting : Option ℕ) (why : ℕ) (m back : Message) → why ≤ 5 → back_of (unqueued_fate own waiting why m) ≡ Some back → IsReturn own waiting m back
unqueued_return own waiting why (Payload importance form from to kind lower upper code droppable body) back small h = by (droppable || not (code == 0)) h
  where
    m : Message
    m = Payload importance form from to kind lower upper code droppable body

    by : (b : Bool) → back_of (if b then Dropped else return_fate (from.node.word == own) waiting (returned_message why m)) ≡ Some back → IsReturn own waiting m back
    by true g = absurd cc
    by false g = went own waiting (from.node.word == own) (returned_message why m) back m refl ((refl, refl, refl), small, short body) refl g
unqueued_return own waiting why (Items withdrawal items) back small h = absurd cc

one_return : (own : ℕ) (waiting : Option ℕ) (port : ℕ) (why : Option ℕ) (m back : Message) → IsSmall why → back_of (one_port_fate own waiting port why m) ≡ Some back → IsReturn own waiting m back
one_return own waiting port None m back small h = absurd cc
one_return own waiting port (Some why) m back small h = unqueued_return own waiting why m back small h

pub fate_return : (s : SocketTable) (arrived : Bool) (waiting : Option ℕ) (m back : Message) → back_of (fate s arrived waiting m) ≡ Some back → IsReturn s.own waiting m back
fate_return s arrived waiting (Payload importance Connected from to kind lower upper code droppable body) back h = absurd cc
fate_return s arrived waiting (Payload importance Multicast from to kind lower upper code droppable body) back h = absurd cc
fate_return s arrived waiting (Payload importance Named from to kind lower upper code droppable body) back h =
    one_return s.own waiting to.port (refusal s arrived Named to.port kind lower) (Payload importance Named from to kind lower upper code droppable body) back (small_refusal s arrived Named to.port kind lower) h
fate_return s arrived waiting (Payload importance Direct from to kind lower upper code droppable body) back h =
    one_return s.own waiting to.port (refusal s arrived Direct to.port kind lower) (Payload importance Direct from to kind lower upper code droppable body) back (small_refusal s arrived Direct to.port kind lower) h
fate_return s arrived waiting (Items withdrawal items) back h = absurd cc

-- ---- it goes back

-- a packet carries a user's message
pub payload_carried : (m : Message) → IsPayload m → IsCarried m
payload_carried (Payload importance form from to kind lower upper code droppable body) is = is
payload_carried (Items withdrawal items) is = absurd is

-- where packets are counted on the link to a node there is contact with the neighbour of its number
pub contact_to : (xs : List (Option Neighbour)) (node : Addr) (peer waiting : ℕ) (y : Neighbour) → node.word ≡ node_word peer → waiting_to xs node ≡ Some waiting → slice_index_or xs peer None ≡ Some y
    → in_contact y.pair ≡ true
contact_to xs node peer waiting y word counted was =
    let number : node.word - node_word 0 ≡ peer = omega (arith, word) in
    active_is y.pair (some_load (load_with (Some y)) (ap (λ o. option_map (λ (load : ℕ × ℕ). load.1) (load_with o)) (sym (ap (λ k. slice_index_or xs k None) number ∙ was)) ∙ counted))
  where
    some_load : (o : Option (ℕ × ℕ)) → option_map (λ (load : ℕ × ℕ). load.1) o ≡ Some waiting → is_some o ≡ true
    some_load None is = absurd cc
    some_load (Some load) is = refl

-- and it is one of the 32 nodes
pub waiting_node : (xs : List (Option Neighbour)) (node : Addr) (waiting : ℕ) → length xs ≡ 33 → slice_index_or xs 0 None ≡ None → waiting_to xs node ≡ Some waiting → IsNodeWord node.word
waiting_node xs node waiting wide nobody counted = by (nat_lt 0 place) (nat_lt place 33) refl refl
  where
    place : ℕ
    place = node.word - node_word 0

    someone : slice_index_or xs place None ≡ None → ⊥
    someone none = (let wrong : None ≡ Some waiting = sym (ap (λ (o : Option Neighbour). option_map (λ (load : ℕ × ℕ). load.1) (load_with o)) none) ∙ counted in cc)

    by : (low high : Bool) → nat_lt 0 place ≡ low → nat_lt place 33 ≡ high → IsNodeWord node.word
    by false high l h = let first : place ≡ 0 = grind (arith, nat_tests, l) in absurd (someone (ap (λ k. slice_index_or xs k None) first ∙ nobody))
    by true false l h =
        let far : 33 ≤ place = grind (arith, nat_tests, h) in
        let past : length xs ≤ place = omega (arith, wide, far) in
        absurd (someone (get_or_past xs place None past))
    by true true l h =
        let some : 1 ≤ place = grind (arith, nat_tests, l) in
        let few : place ≤ 32 = grind (arith, nat_tests, h) in
        (omega (arith, some), omega (arith, few))

-- at the own node it has a fate
pub back_home : (own : ℕ) (w : Work) (m : Message) (w' : Work) (box : Out) → comes_home (addr_of_word own) m ≡ true → w' ≡ fated w m (fate_of w false m) → WentBack own w m w' box box
back_home own w m w' box home is =
    record { frames = []; goes = record { home = λ _. (is, refl); away = λ no. absurd (true≢false (sym home ∙ no)) }; adds = adds_none box }

-- ---- a message that arrived has its fate

follows_here : (own : ℕ) (w : Work) (m : Message) (f : Fate) → back_of f ≡ None → Follows own w m f (fated w m f) []
follows_here own w m (Queued ports) none = (refl, refl)
follows_here own w m (Returned back) none = absurd cc
follows_here own w m (ReturnDropped waiting) none = (refl, refl)
follows_here own w m Dropped none = (refl, refl)

-- nothing goes back by it
pub settled_here : (own : ℕ) (w : Work) (m : Message) (w' : Work) (box : Out) → back_of (fate_of w true m) ≡ None → w' ≡ fated w m (fate_of w true m) → Settled own w m w' box box
settled_here own w m w' box none is = record {
  frames = [];
  settles = subst (λ (u : Work). Follows own w m (fate_of w true m) u []) (sym is) (follows_here own w m (fate_of w true m) none);
  adds = adds_none box;
}

follows_back : (own : ℕ) (w : Work) (m : Message) (f : Fate) (back : Message) (w' : Work) (box box' : Out) → back_of f ≡ Some back → (h : WentBack own (fated w m f) back w' box box') → Follows own w m f w' h.frames
follows_back own w m (Returned r) back w' box box' is h = subst (λ (b : Message). GoesBack own (fated w m (Returned r)) b w' h.frames) (sym (same_message r back is)) h.goes
follows_back own w m (Queued ports) back w' box box' is h = absurd cc
follows_back own w m (ReturnDropped waiting) back w' box box' is h = absurd cc
follows_back own w m Dropped back w' box box' is h = absurd cc

-- what goes back by it went back
pub settled_back : (own : ℕ) (w between : Work) (m back : Message) (w' : Work) (box box' : Out) → back_of (fate_of w true m) ≡ Some back → between ≡ fated w m (fate_of w true m)
    → WentBack own between back w' box box' → Settled own w m w' box box'
settled_back own w between m back w' box box' is same h =
    let there = subst (λ (u : Work). WentBack own u back w' box box') same h in
    record { frames = there.frames; settles = follows_back own w m (fate_of w true m) back w' box box' is there; adds = there.adds }

-- what a message is by the parts
pub fated_is : (w : Work) (m : Message) (f : Fate) (sockets : SocketTable) (inside : List Entry) → sockets ≡ (fated w m f).sockets → inside ≡ (fated w m f).inside → work_of w.neighbours sockets inside ≡ fated w m f
fated_is w m f sockets inside one other = ap (λ (s : SocketTable). work_of w.neighbours s inside) one ∙ ap (work_of w.neighbours (fated w m f).sockets) other

-- ---- what stays

pub fate_same : (s : SocketTable) (m : Message) (f : Fate) → ((after_fate s m f).own ≡ s.own) × ((after_fate s m f).ports ≡ s.ports)
fate_same s m (Queued ports) = (refl, refl)
fate_same s m (Returned back) = (refl, refl)
fate_same s m (ReturnDropped waiting) = (refl, refl)
fate_same s m Dropped = (refl, refl)

-- what an answer without an error tells
pub on_ok : {T E P Q : Type 0} (r : Result T E) → (P → Q) → OnOk r P → OnOk r Q
on_ok (Ok x) goes h = goes h
on_ok (Err e) goes h = tt

pub if_ok : {T E : Type 0} {P Q : T → Type 0} (r : Result T E) → ((x : T) → P x → Q x) → IfOk r P → IfOk r Q
if_ok (Ok x) goes h = goes x h
if_ok (Err e) goes h = tt

-- a return to a peer, as the work has it
pub contact_there : (w : Work) (own : ℕ) (m back : Message) → w.sockets.own ≡ own → back_of (fate_of w true m) ≡ Some back → comes_home (addr_of_word own) back ≡ false
    → (n : ℕ) × (waiting_to w.neighbours (destination_of back) ≡ Some n) × (n < return_limit)
contact_there w own m back same is away =
    let r = fate_return w.sockets true (waiting_to w.neighbours (origin_of m)) m back is in
    let there = r.away (ap (λ k. comes_home (addr_of_word k) back) same ∙ away) in
    (there.0, ap (waiting_to w.neighbours) r.to_origin ∙ there.1, there.2)

pub return_payload : (w : Work) (m back : Message) → back_of (fate_of w true m) ≡ Some back → IsPayload back
return_payload w m back is = (fate_return w.sockets true (waiting_to w.neighbours (origin_of m)) m back is).payload

-- What giving a message its fate made of the sockets and of what is told, and what goes back by it, as the neighbours were seen.
pub record HasMet (xs seen : List (Option Neighbour)) (s s' : SocketTable) (es es' : List Entry) (arrived : Bool) (m : Message) (back : Option Message) : Type 0 where
  pub seen_is : seen ≡ xs
  pub back_is : back ≡ back_of (fate_of (work_of seen s es) arrived m)
  pub sockets_are : s' ≡ after_fate s m (fate_of (work_of seen s es) arrived m)
  pub entries_are : es' ≡ es ++ fate_entry (fate_of (work_of seen s es) arrived m) ∷ []

pub met_work : (xs seen : List (Option Neighbour)) (s s' : SocketTable) (es es' : List Entry) (arrived : Bool) (m : Message) (back : Option Message) → HasMet xs seen s s' es es' arrived m back
    → work_of xs s' es' ≡ fated (work_of xs s es) m (fate_of (work_of xs s es) arrived m)
met_work xs seen s s' es es' arrived m back h =
    let f : List (Option Neighbour) → Fate = λ zs. fate_of (work_of zs s es) arrived m in
    fated_is (work_of xs s es) m (f xs) s' es' (h.sockets_are ∙ ap (λ zs. after_fate s m (f zs)) h.seen_is) (h.entries_are ∙ ap (λ zs. es ++ fate_entry (f zs) ∷ []) h.seen_is)
