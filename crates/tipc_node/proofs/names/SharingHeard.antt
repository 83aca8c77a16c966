-- The entries of an arrival from a peer: of the change of the link, of the greeting where a contact began, and of what was delivered.
use Rattle.std.proofs.Common.{◌≡◌, ◌≢◌, ◌==◌, ◌&&◌, ◌||◌, ℕ, Bool, true, false, not, List, [], ◌∷◌, ◌++◌, Some, None, filter, fold, map, refl, sym, ap, ◌∙◌, subst, append-nil, true≢false, eqb-true}
use Rattle.std.specs.Prelude.{IfSome, option_map, slice_index_or}
use Rattle.std.proofs.lemmas.Bool.{and_parts}
use Rattle.std.specs.List.{list_all}
use Rattle.std.proofs.lemmas.List.Elements.{filter-append}
use Rattle.tipc_types.specs.declared.message_forms.Flow.TheVariants.{Zero}
use Rattle.tipc_types.specs.Address.{node_word}
use Rattle.tipc_types.specs.declared.message_forms.Message.{Message}
use Rattle.tipc_types.specs.declared.node_calls.Arrival.{Arrival}
use Rattle.tipc_types.specs.declared.node_calls.By.{By}
use Rattle.tipc_outside.specs.declared.outgoing.Outgoing.{Outgoing}
use Rattle.tipc_types.specs.Tables.{IsTable, is_of}
use Rattle.tipc_name_table.proofs.TableLaws.{table_kept}
use Rattle.tipc_name_dist.specs.Applying.{held_after}
use Rattle.tipc_name_dist.proofs.Applied.{same_number}
use Rattle.tipc_journal.specs.declared.entries.Entry.{Entry}
use Rattle.tipc_journal.specs.declared.entries.Entry.TheVariants as entry
use Rattle.tipc_journal.specs.Streams.{accepted, delivered, flow_eq}
use Rattle.tipc_journal.proofs.StreamLaws.{accepted_append, accepted_nil, delivered_append, delivered_nil}
use Rattle.tipc_reassembly.specs.declared.opening.Opened.{Opened}
use Rattle.tipc_pair.specs.declared.changes.PairOutcome.{PairOutcome}
use Rattle.tipc_pair.specs.declared.transitions.Transition.{Transition}
use Rattle.tipc_pair.specs.declared.transitions.Transition.TheVariants.{ContactDown, ContactUp, LinkDown, LinkUp}
use Rattle.tipc_pair.specs.Facing.{PairEnds, in_contact}
use Rattle.tipc_pair.specs.PairTurns.Opening.{hears}
use Rattle.tipc_pair.specs.Messages.{opened_in}
use Rattle.tipc_sockets.specs.Publishing.{purged}
use Rattle.tipc_sockets.specs.SocketTables.{SocketTable}
use Rattle.tipc_sockets.specs.Telling.{after_entry, is_payload}
use Rattle.tipc_node.specs.declared.neighbours.Neighbour.{Neighbour}
use Rattle.tipc_node.specs.Arrivals.{Greets, Hears, heard_work}
use Rattle.tipc_node.specs.Neighbours.{heard_neighbour}
use Rattle.tipc_broadcast.specs.Casting.{shown}
use Rattle.tipc_pair.specs.Contacts.{is_of_contact}
use Rattle.tipc_node.specs.Nodes.{NodeState, change_entries, deliveries_of, neighbour_of, shown_contact}
use Rattle.tipc_node.specs.Sharing.{flow_with}
use Rattle.tipc_node.specs.Telling.{IsTold}
use Rattle.tipc_pair.specs.LinkReadings.{AreAbreast}
use Rattle.tipc_node.specs.Turns.{is_accepted_for, is_change_of, is_delivered_from}
use Rattle.tipc_node.specs.Works.{DeliversAll}
use Rattle.tipc_node.proofs.turns.Entries.{changes_accept, changes_deliver, changes_own, other_word}
use Rattle.tipc_node.proofs.journal.Noting.{all_from}
use Rattle.tipc_pair.proofs.turns.PairEvents.{happened_so}
use Rattle.tipc_pair.proofs.turns.PairTells.{Means, Story, contact_changes}
use Rattle.tipc_node.proofs.Places.{set_there}
use Rattle.tipc_node.proofs.names.SharingDelivered.{delivers_hears, filter_apart, is_delivery_of}
use Rattle.tipc_pair.proofs.turns.TurnMeans.{on_bearers}
use Rattle.tipc_node.proofs.names.SharingEntries.{is_beside, is_plain_for, keeps_live}
use Rattle.tipc_node.proofs.names.SharingFlows.{accepted_in, accepted_of, delivered_of_peer, puts_accepted}
use Rattle.tipc_node.proofs.names.SharingPeers.{numbers_at, numbers_of, puts_accepts, puts_pass}
use Rattle.tipc_node.proofs.names.SharingWork.{all_both}

-- ---- entries

-- an entry of an arrival from a peer: of a change of the contact with it, of what it is told, or of what it delivers
abbrev pub is_arrival_of : ℕ → Entry → Bool
is_arrival_of peer e = is_delivery_of peer e || (is_accepted_for peer e || is_change_of peer e)

or_left : (a : Bool) → a || false ≡ true → a ≡ true
or_left true is = refl
or_left false is = is

-- a word of the peer isn't that of another one
apart_from : (b peer word : ℕ) → peer ≢ b → (word == node_word peer) ≡ true → (word == node_word b) ≡ false
apart_from b peer word apart is = let same : word ≡ node_word peer = eqb-true _ _ is in ap (λ w. w == node_word b) same ∙ other_word b peer apart

pub no_change : (b peer : ℕ) → peer ≢ b → (e : Entry) → is_arrival_of peer e ≡ true → is_change_of b e ≡ false
no_change b peer apart (entry.LinkUp c bearer own theirs) is = apart_from b peer c.word apart is
no_change b peer apart (entry.LinkDown c bearer because shown) is = apart_from b peer c.word apart is
no_change b peer apart (entry.ContactUp c numbers) is = apart_from b peer c.word apart is
no_change b peer apart (entry.ContactDown c numbers states shown) is = apart_from b peer c.word apart is
no_change b peer apart other is = refl

pub no_delivery : (b peer : ℕ) → peer ≢ b → (e : Entry) → is_arrival_of peer e ≡ true → is_delivered_from b e ≡ false
no_delivery b peer apart (entry.Delivered c numbers flow message by) is = ap (λ t. t && flow_eq flow Zero) (apart_from b peer c.word apart (or_left _ is))
no_delivery b peer apart other is = refl

pub no_naming : (peer : ℕ) (e : Entry) → is_arrival_of peer e ≡ true → keeps_live e ≡ true
no_naming peer (entry.Published p) is = is
no_naming peer (entry.Withdrawn p) is = is
no_naming peer other is = refl

pub none_learned : (b peer : ℕ) → peer ≢ b → (e : Entry) → is_arrival_of peer e ≡ true → is_beside b e ≡ true
none_learned b peer apart (entry.Learned p) is = ap not (apart_from b peer p.at.node.word apart (or_left _ is))
none_learned b peer apart (entry.Forgot p) is = ap not (apart_from b peer p.at.node.word apart (or_left _ is))
none_learned b peer apart (entry.ContactDown c numbers states shown) is = ap not (apart_from b peer c.word apart is)
none_learned b peer apart other is = refl

pub none_told : (b peer : ℕ) → peer ≢ b → (e : Entry) → is_arrival_of peer e ≡ true → is_plain_for b e ≡ true
none_told b peer apart (entry.Accepted c numbers flow m) is = by (is_payload m) is
  where
    by : (t : Bool) → t || (((c.word == node_word peer) && flow_eq flow Zero) || false) ≡ true → t || not (c.word == node_word b) ≡ true
    by true k = refl
    by false k = ap not (apart_from b peer c.word apart (and_parts (c.word == node_word peer) (flow_eq flow Zero) (or_left _ k)).0)
none_told b peer apart other is = refl

-- ---- what the packet did

-- What the peer's packet did: the pair changed, the peer was greeted where a contact began, and these messages were delivered.
pub record IsHeardAt (n n' : NodeState) (inside : List Entry) (peer : ℕ) : Type 0 where
  pub neighbour : Neighbour
  pub was : neighbour_of n peer ≡ Some neighbour
  pub after : PairEnds
  pub changes : List Transition
  pub story : Story
  pub story_is : filter is_of_contact changes ≡ contact_changes story
  pub means : Means neighbour.pair after story
  pub greeting : List Message
  pub greets : Greets n.sockets.live changes greeting
  pub entries : List Entry
  pub inside_is : inside ≡ (change_entries peer changes ++ map (accepted_in peer (shown_contact after)) greeting) ++ entries
  pub all : list_all (is_delivery_of peer) entries ≡ true
  pub messages : List Message
  pub brings : delivered entries (flow_with peer (shown_contact after)) ≡ messages
  pub names : filter (is_of (node_word peer)) n'.sockets.names
      ≡ held_after (node_word peer) (filter (is_of (node_word peer)) (fold after_entry n.sockets (change_entries peer changes)).names) messages

changed_table : (s : SocketTable) (peer : ℕ) (cs : List Transition) → IsTable s.names → IsTable (fold after_entry s (change_entries peer cs)).names
changed_table s peer [] sound = sound
changed_table s peer (LinkUp bearer own theirs ∷ cs) sound = changed_table s peer cs sound
changed_table s peer (LinkDown bearer because shown ∷ cs) sound = changed_table s peer cs sound
changed_table s peer (ContactUp numbers ∷ cs) sound = changed_table s peer cs sound
changed_table s peer (ContactDown numbers states shown ∷ cs) sound = changed_table (purged s (node_word peer)) peer cs (table_kept (λ p. not (is_of (node_word peer) p)) s.names sound)

-- what was given is of a contact that lasts, under the numbers of before
given_then : (peer : ℕ) (x y : PairEnds) (given : PairOutcome) → ((g : Opened) (gs : List Opened) → opened_in given ≡ g ∷ gs → (in_contact y ≡ true) × (y.contact ≡ x.contact) × (y.seen ≡ x.seen))
    → deliveries_of Zero peer (shown_contact x) (opened_in given) ≡ deliveries_of Zero peer (shown_contact y) (opened_in given)
given_then peer x y given lasts = by (opened_in given) refl
  where
    by : (opened : List Opened) → opened_in given ≡ opened → deliveries_of Zero peer (shown_contact x) opened ≡ deliveries_of Zero peer (shown_contact y) opened
    by [] is = refl
    by (g ∷ gs) is =
        let l = lasts g gs is in
        ap (λ k. deliveries_of Zero peer (k, x.seen) (g ∷ gs)) (sym l.1) ∙ ap (λ k. deliveries_of Zero peer (y.contact, k) (g ∷ gs)) (sym l.2)

pub heard_at : (n n' : NodeState) (by : By) (bearer number : ℕ) (bytes : List ℕ) (frames : List Outgoing) (answered : Arrival) → IsTold n → (h : Hears n n' by bearer number bytes frames answered) → IsHeardAt n n' h.work.inside h.peer
heard_at n n' by bearer number bytes frames answered told h =
    let x = h.neighbour.pair in
    let abreast = subst (λ o. IfSome o AreAbreast) (ap (option_map (λ (z : Neighbour). z.pair)) h.was) (told.links h.peer).abreast in
    let so = happened_so x (hears bearer h.first h.second h.packet number (shown n.casting (node_word h.peer))) h.out (on_bearers x abreast) tt h.hears in
    let start = heard_work n h.peer h.neighbour h.out in
    let y = heard_neighbour h.neighbour h.out in
    let c = shown_contact h.out.course.pair in
    let changes = h.out.course.changes in
    let shows : numbers_at start.neighbours h.peer ≡ c = numbers_of (slice_index_or start.neighbours h.peer None) y (set_there n.neighbours h.peer h.neighbour y h.was) in
    let greeted = puts_accepts n.own h.peer start h.greeting h.greeted h.greeting_frames h.greeting_put in
    let sound : IsTable h.greeted.sockets.names = subst (λ (s : SocketTable). IsTable s.names) (sym greeted.sockets) (changed_table n.sockets h.peer changes (let k = told.sockets.sound in k.names)) in
    let delivers = subst (λ ds. DeliversAll n.own h.peer h.greeted ds h.work h.returned) (given_then h.peer x h.out.course.pair h.out.given so.lasts) h.delivers in
    let d = delivers_hears n.own h.peer c (opened_in h.out.given) h.greeted h.work h.returned sound delivers in
    record {
      neighbour = h.neighbour;
      was = h.was;
      after = h.out.course.pair;
      changes = changes;
      story = so.tells.story;
      story_is = so.tells.story_is;
      means = so.tells.means;
      greeting = h.greeting;
      greets = h.greets;
      entries = d.1.adds.entries;
      inside_is = d.1.adds.inside ∙ ap (λ es. es ++ d.1.adds.entries) (greeted.inside ∙ ap (λ k. change_entries h.peer changes ++ map (accepted_in h.peer k) h.greeting) shows);
      all = d.1.adds.all;
      messages = d.0;
      brings = d.1.brings;
      names =
          ap (λ (k : NodeState). filter (is_of (node_word h.peer)) k.sockets.names) h.after ∙ d.1.names
          ∙ ap (λ (s : SocketTable). held_after (node_word h.peer) (filter (is_of (node_word h.peer)) s.names) d.0) greeted.sockets;
    }

-- ---- its entries

greeting_changes : (b peer : ℕ) (numbers : ℕ × ℕ) (ms : List Message) → filter (is_change_of b) (map (accepted_in peer numbers) ms) ≡ []
unfolding accepted_in
greeting_changes b peer numbers [] = refl
greeting_changes b peer numbers (m ∷ ms) = greeting_changes b peer numbers ms

greeting_delivers : (b peer : ℕ) (numbers : ℕ × ℕ) (ms : List Message) → filter (is_delivered_from b) (map (accepted_in peer numbers) ms) ≡ []
unfolding accepted_in
greeting_delivers b peer numbers [] = refl
greeting_delivers b peer numbers (m ∷ ms) = greeting_delivers b peer numbers ms

delivery_changes : (b peer : ℕ) (e : Entry) → is_delivery_of peer e ≡ true → is_change_of b e ≡ false
delivery_changes b peer (entry.LinkUp c bearer own theirs) is = absurd (true≢false (sym is))
delivery_changes b peer (entry.LinkDown c bearer because shown) is = absurd (true≢false (sym is))
delivery_changes b peer (entry.ContactUp c numbers) is = absurd (true≢false (sym is))
delivery_changes b peer (entry.ContactDown c numbers states shown) is = absurd (true≢false (sym is))
delivery_changes b peer other is = refl

pub delivery_plain : (b peer : ℕ) (e : Entry) → is_delivery_of peer e ≡ true → is_plain_for b e ≡ true
delivery_plain b peer (entry.Accepted c numbers flow m) is = ap (λ t. t || not (c.word == node_word b)) is
delivery_plain b peer other is = refl

-- all of them are of the arrival
change_of_arrival : (peer : ℕ) (cs : List Transition) → list_all (is_arrival_of peer) (change_entries peer cs) ≡ true
change_of_arrival peer [] = refl
change_of_arrival peer (LinkUp bearer own theirs ∷ cs) = ap (λ t. t && list_all (is_arrival_of peer) (change_entries peer cs)) (same_number (node_word peer)) ∙ change_of_arrival peer cs
change_of_arrival peer (LinkDown bearer because shown ∷ cs) = ap (λ t. t && list_all (is_arrival_of peer) (change_entries peer cs)) (same_number (node_word peer)) ∙ change_of_arrival peer cs
change_of_arrival peer (ContactUp numbers ∷ cs) = ap (λ t. t && list_all (is_arrival_of peer) (change_entries peer cs)) (same_number (node_word peer)) ∙ change_of_arrival peer cs
change_of_arrival peer (ContactDown numbers states shown ∷ cs) = ap (λ t. t && list_all (is_arrival_of peer) (change_entries peer cs)) (same_number (node_word peer)) ∙ change_of_arrival peer cs

or_right : (a b : Bool) → b ≡ true → a || b ≡ true
or_right true b is = refl
or_right false b is = is

greeting_of_arrival : (peer : ℕ) (numbers : ℕ × ℕ) (m : Message) → is_arrival_of peer (accepted_in peer numbers m) ≡ true
unfolding accepted_in
greeting_of_arrival peer numbers m = or_right (is_payload m) _ (ap (λ t. (t && true) || false) (same_number (node_word peer)))

delivery_of_arrival : (peer : ℕ) (e : Entry) → is_delivery_of peer e ≡ true → is_arrival_of peer e ≡ true
delivery_of_arrival peer e is = ap (λ t. t || (is_accepted_for peer e || is_change_of peer e)) is

pub all_of_arrival : (n n' : NodeState) (inside : List Entry) (peer : ℕ) → IsHeardAt n n' inside peer → list_all (is_arrival_of peer) inside ≡ true
all_of_arrival n n' inside peer a =
    let front = change_entries peer a.changes in
    let told = map (accepted_in peer (shown_contact a.after)) a.greeting in
    ap (list_all (is_arrival_of peer)) a.inside_is
    ∙ all_both (is_arrival_of peer) (front ++ told) a.entries
    (all_both (is_arrival_of peer) front told (change_of_arrival peer a.changes) (puts_pass (is_arrival_of peer) peer (shown_contact a.after) a.greeting (greeting_of_arrival peer (shown_contact a.after))))
    (all_from (is_delivery_of peer) (is_arrival_of peer) (delivery_of_arrival peer) a.entries a.all)

-- what they tell of the peer
three_parts : (test : Entry → Bool) (xs ys zs front : List Entry) → filter test xs ≡ front → filter test ys ≡ [] → filter test zs ≡ [] → filter test ((xs ++ ys) ++ zs) ≡ front
three_parts test xs ys zs front first second third =
    filter-append test (xs ++ ys) zs ∙ ap (λ es. filter test (xs ++ ys) ++ es) third ∙ append-nil (filter test (xs ++ ys))
    ∙ filter-append test xs ys ∙ ap (λ es. filter test xs ++ es) second ∙ append-nil (filter test xs) ∙ first

pub heard_changes : (n n' : NodeState) (inside : List Entry) (peer : ℕ) → (a : IsHeardAt n n' inside peer) → filter (is_change_of peer) inside ≡ change_entries peer a.changes
heard_changes n n' inside peer a =
    ap (filter (is_change_of peer)) a.inside_is
    ∙ three_parts (is_change_of peer) (change_entries peer a.changes) _ a.entries (change_entries peer a.changes) (changes_own peer a.changes) (greeting_changes peer peer (shown_contact a.after) a.greeting)
    (filter_apart (is_delivery_of peer) (is_change_of peer) (delivery_changes peer peer) a.entries a.all)

pub heard_accepts : (n n' : NodeState) (inside : List Entry) (peer : ℕ) → (a : IsHeardAt n n' inside peer)
    → accepted inside (flow_with peer (shown_contact a.after)) ≡ a.greeting ++ accepted a.entries (flow_with peer (shown_contact a.after))
heard_accepts n n' inside peer a =
    let c = shown_contact a.after in
    let front = change_entries peer a.changes in
    let told = map (accepted_in peer c) a.greeting in
    let none : accepted front (flow_with peer c) ≡ [] = accepted_of peer c front [] [] (changes_accept Zero peer peer a.changes) (accepted_nil (flow_with peer c)) in
    ap (λ es. accepted es (flow_with peer c)) a.inside_is ∙ accepted_append (front ++ told) a.entries (flow_with peer c)
    ∙ ap (λ ms. ms ++ accepted a.entries (flow_with peer c)) (accepted_append front told (flow_with peer c) ∙ ap (λ ms. ms ++ accepted told (flow_with peer c)) none ∙ puts_accepted peer c a.greeting)

pub heard_delivers : (n n' : NodeState) (inside : List Entry) (peer : ℕ) → (a : IsHeardAt n n' inside peer) → delivered inside (flow_with peer (shown_contact a.after)) ≡ a.messages
heard_delivers n n' inside peer a =
    let c = shown_contact a.after in
    let front = change_entries peer a.changes in
    let told = map (accepted_in peer c) a.greeting in
    let none : delivered (front ++ told) (flow_with peer c) ≡ [] =
    delivered_of_peer peer c (front ++ told) [] [] (filter-append (is_delivered_from peer) front told ∙ ap (λ es. es ++ filter (is_delivered_from peer) told) (changes_deliver Zero peer peer a.changes) ∙ greeting_delivers peer peer c a.greeting) (delivered_nil (flow_with peer c)) in
    ap (λ es. delivered es (flow_with peer c)) a.inside_is ∙ delivered_append (front ++ told) a.entries (flow_with peer c) ∙ ap (λ ms. ms ++ delivered a.entries (flow_with peer c)) none ∙ a.brings
