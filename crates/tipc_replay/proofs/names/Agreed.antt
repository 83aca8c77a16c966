-- Nodes whose name items are all delivered hold one another's publications that are seen in the cluster.
use Rattle.std.proofs.Common.{◌≡◌, ◌≤◌, ◌+◌, ℕ, suc, Bool, true, false, List, [], ◌∷◌, ◌++◌, Option, Some, None, cond, if◌then◌else◌, filter, option_map, slice_get, slice_index_or, unwrap_or, refl, sym, ap, ◌∙◌, subst, arith}
use Rattle.std.specs.Prelude.{option_and_then}
use Rattle.std.specs.List.{flat_map}
use Rattle.std.proofs.lemmas.List.Sums.{sum_by-append, sum_by-cons}
use Rattle.tipc_types.specs.Address.{node_word}
use Rattle.tipc_types.specs.Prefixes.{IsPrefixOf}
use Rattle.tipc_types.specs.declared.identity.Addr.{Addr}
use Rattle.tipc_types.specs.declared.message_forms.Flow.TheVariants.{Zero}
use Rattle.tipc_types.specs.declared.message_forms.Message.{Message}
use Rattle.tipc_types.specs.declared.message_forms.Message.TheVariants.{Items, Payload}
use Rattle.tipc_types.specs.declared.services.Publication.{Publication}
use Rattle.tipc_types.specs.Tables.{is_of}
use Rattle.tipc_journal.specs.declared.entries.Entry.{Entry}
use Rattle.tipc_journal.specs.Contacts.{contact}
use Rattle.tipc_journal.specs.Matches.{names}
use Rattle.tipc_journal.specs.Names.{live}
use Rattle.tipc_journal.specs.Streams.{Stream, accepted, delivered, is_items}
use Rattle.tipc_journal.proofs.StreamLaws.{accepted_append, accepted_nil, delivered_append, delivered_nil}
use Rattle.tipc_name_dist.specs.Agreeing.{Agrees, shared}
use Rattle.tipc_name_dist.specs.Applying.{applied_each, held_after, Applied}
use Rattle.tipc_name_dist.specs.Items.{items_in}
use Rattle.tipc_name_dist.proofs.Fronts.{held_by_front, payloads_behind}
use Rattle.tipc_contact.specs.Sides.{boot_of}
use Rattle.tipc_pair.specs.Facing.{contact_between, in_contact}
use Rattle.tipc_node.specs.declared.neighbours.Neighbour.{Neighbour}
use Rattle.tipc_node.specs.Nodes.{neighbour_of}
use Rattle.tipc_node.specs.Sharing.{flow_with}
use Rattle.tipc_name_dist.specs.Told.{HasTold}
use Rattle.tipc_node.specs.Turns.{addr_of}
use Rattle.tipc_node.proofs.journal.Refusing.{told_names}
use Rattle.tipc_replay.specs.Skies.{AirState}
use Rattle.tipc_replay.specs.Shared.{AreShared, IsShared}
use Rattle.tipc_replay.specs.Sound.{IsSound}
use Rattle.tipc_replay.specs.States.{MemberState, accepted_at, delivered_at, history, member_at, stream_of, journal_now}
use Rattle.tipc_replay.specs.Steps.{stage}
use Rattle.tipc_replay.specs.Tables.{AreNamesDone, AreTables, items_among}
use Rattle.tipc_replay.proofs.LookUps.{history_at-is, member_at-is}
use Rattle.tipc_replay.proofs.names.Sharing.{boot_is}
-- ---- messages without items
use Rattle.tipc_journal.proofs.ContactLaws.{contact_nil as no_contact}

-- messages among which none is of name items have no items
no_items : (ms : List Message) → items_among ms ≡ 0 → flat_map items_in ms ≡ []
no_items [] none = refl
no_items (Items withdrawal items ∷ ms) none =
    let more : items_among (Items withdrawal items ∷ ms) ≡ 1 + items_among ms = sum_by-cons (λ (m : Message). cond (is_items m) 1 0) (Items withdrawal items) ms in
    absurd (omega (arith, none, more))
no_items (Payload importance form from to kind lower upper code droppable body ∷ ms) none =
    let m = Payload importance form from to kind lower upper code droppable body in
    let more : items_among (m ∷ ms) ≡ 0 + items_among ms = sum_by-cons (λ (x : Message). cond (is_items x) 1 0) m ms in
    no_items ms (omega (arith, none, more))

kept_twice : (test : Publication → Bool) (ps : List Publication) → filter test (filter test ps) ≡ filter test ps
kept_twice test [] = refl
kept_twice test (p ∷ ps) = by (test p) refl (kept_twice test ps)
  where
    by : (b : Bool) → test p ≡ b → filter test (filter test ps) ≡ filter test ps
        → filter test (if b then p ∷ filter test ps else filter test ps) ≡ (if b then p ∷ filter test ps else filter test ps)
    by true is later = ap (λ (b : Bool). if b then p ∷ filter test (filter test ps) else filter test (filter test ps)) is ∙ ap (λ (those : List Publication). p ∷ those) later
    by false is later = later

-- Of what a node accepted, a front was delivered with all messages of items. The node told all of what it published, and what was delivered
-- is held: then what was published is.
agree : (word : ℕ) (published table : List Publication) (accepted delivered : List Message) → HasTold word published accepted → filter (is_of word) table ≡ held_after word [] delivered → IsPrefixOf delivered accepted
    → items_among delivered ≡ items_among accepted → Agrees word published table
agree word published table accepted delivered told holds front all =
    let rest = front.0 in
    let sum : items_among accepted ≡ items_among delivered + items_among rest = ap items_among front.1 ∙ sum_by-append (λ (m : Message). cond (is_items m) 1 0) delivered rest in
    let none : flat_map items_in rest ≡ [] = no_items rest (omega (arith, sum, all)) in
    let same : applied_each word [] accepted ≡ applied_each word [] delivered = ap (applied_each word []) front.1 ∙ payloads_behind word [] delivered rest none in
    let fits : (applied_each word [] delivered).bad ≡ None = ap (λ (a : Applied). a.bad) (sym same) ∙ told.fits in
    let part : filter (is_of word) table ≡ (applied_each word [] accepted).table = holds ∙ held_by_front word [] delivered fits ∙ ap (λ (a : Applied). a.table) (sym same) in
    sym (kept_twice (is_of word) table) ∙ ap (filter (is_of word)) part ∙ told.agrees

-- ---- the present boot

all_accepted : (s : Stream) (js : List (List Entry)) → ((k : ℕ) (j : List Entry) → slice_get js k ≡ Some j → accepted j s ≡ []) → accepted (flat_map (λ entries. entries) js) s ≡ []
all_accepted s [] none = accepted_nil s
all_accepted s (j ∷ js) none =
    accepted_append j (flat_map (λ entries. entries) js) s ∙ ap (λ (ms : List Message). ms ++ accepted (flat_map (λ entries. entries) js) s) (none 0 j refl) ∙ all_accepted s js (λ k l there. none (suc k) l there)

all_delivered : (s : Stream) (js : List (List Entry)) → ((k : ℕ) (j : List Entry) → slice_get js k ≡ Some j → delivered j s ≡ []) → delivered (flat_map (λ entries. entries) js) s ≡ []
all_delivered s [] none = delivered_nil s
all_delivered s (j ∷ js) none =
    delivered_append j (flat_map (λ entries. entries) js) s ∙ ap (λ (ms : List Message). ms ++ delivered (flat_map (λ entries. entries) js) s) (none 0 j refl) ∙ all_delivered s js (λ k l there. none (suc k) l there)

-- what was accepted and delivered under a contact number of the present boot was so in this boot
accepted_now : (m : MemberState) (b own theirs : ℕ) → IsShared m → m.node.boot ≤ boot_of own → accepted (history m) (stream_of b own theirs Zero) ≡ accepted m.node.journal (flow_with b (own, theirs))
unfolding history
accepted_now m b own theirs h above =
    let s = stream_of b own theirs Zero in
    accepted_append (flat_map (λ entries. entries) m.past) m.node.journal s ∙ ap (λ (ms : List Message). ms ++ accepted m.node.journal s) (all_accepted s m.past (λ k j there. (h.spent k j there b own above theirs).0))

delivered_now : (m : MemberState) (b own theirs : ℕ) → IsShared m → m.node.boot ≤ boot_of own → delivered (history m) (stream_of b own theirs Zero) ≡ delivered m.node.journal (flow_with b (own, theirs))
unfolding history
delivered_now m b own theirs h above =
    let s = stream_of b own theirs Zero in
    delivered_append (flat_map (λ entries. entries) m.past) m.node.journal s ∙ ap (λ (ms : List Message). ms ++ delivered m.node.journal s) (all_delivered s m.past (λ k j there. (h.spent k j there b own above theirs).1))

own_number : (up : Bool) (own theirs : ℕ) (numbers : ℕ × ℕ) → (if up then Some (own, theirs) else None) ≡ Some numbers → own ≡ numbers.0
own_number true own theirs numbers is = ap (λ (o : Option (ℕ × ℕ)). (unwrap_or o (0, 0)).0) is
own_number false own theirs numbers is = absurd cc

-- the contact in which a node is has a number of the present boot
contact_now : (members : List (Option MemberState)) (air : AirState) (a b : ℕ) (m : MemberState) (numbers : ℕ × ℕ) → IsSound members air → slice_index_or members a None ≡ Some m → IsShared m → contact m.node.journal (addr_of b) ≡ Some numbers
    → m.node.boot ≤ boot_of numbers.0
contact_now members air a b m numbers sound was h is = case (neighbour_of m.node b) refl
  where
    case : (o : Option Neighbour) → neighbour_of m.node b ≡ o → m.node.boot ≤ boot_of numbers.0
    case None alone =
        let none : Some numbers ≡ None = sym is ∙ (h.told.links b).contact_is ∙ ap (λ o. option_and_then contact_between (option_map (λ (x : Neighbour). x.pair) o)) alone in
        absurd cc
    case (Some x) there =
        let e = x.pair in
        let shown : contact_between e ≡ Some numbers = sym (ap (λ o. option_and_then contact_between (option_map (λ (y : Neighbour). y.pair) o)) there) ∙ sym (h.told.links b).contact_is ∙ is in
        let own : e.contact ≡ numbers.0 = own_number (in_contact e) e.contact e.seen numbers shown in
        let boot : boot_of numbers.0 ≡ m.node.boot = ap boot_of (sym own) ∙ boot_is (stage members air) a b m x sound was there in
        omega (arith, boot)

-- ---- two nodes

pub journal_is : (members : List (Option MemberState)) (n : ℕ) (m : MemberState) → slice_index_or members n None ≡ Some m → journal_now members n ≡ m.node.journal
unfolding journal_now member_at
journal_is members n m is = ap (λ o. unwrap_or (option_map (λ (x : MemberState). x.node.journal) o) []) is

pub no_journal : (members : List (Option MemberState)) (n : ℕ) → slice_index_or members n None ≡ None → journal_now members n ≡ []
unfolding journal_now member_at
no_journal members n none = ap (λ o. unwrap_or (option_map (λ (x : MemberState). x.node.journal) o) []) none

-- a node that is in contact is there
absent : (members : List (Option MemberState)) (n : ℕ) (p : Addr) (numbers : ℕ × ℕ) → slice_index_or members n None ≡ None → contact (journal_now members n) p ≡ Some numbers → ⊥
absent members n p numbers none is =
    let wrong : Some numbers ≡ None = sym is ∙ ap (λ (es : List Entry). contact es p) (no_journal members n none) ∙ no_contact p in
    cc

accepted_is : (members : List (Option MemberState)) (a b own theirs : ℕ) (m : MemberState) → slice_index_or members a None ≡ Some m → IsShared m → m.node.boot ≤ boot_of own → accepted_at members a b own theirs Zero ≡ accepted m.node.journal (flow_with b (own, theirs))
unfolding accepted_at
accepted_is members a b own theirs m was h above = ap (λ (es : List Entry). accepted es (stream_of b own theirs Zero)) (history_at-is members a m (member_at-is members a m was)) ∙ accepted_now m b own theirs h above

delivered_is : (members : List (Option MemberState)) (b a own theirs : ℕ) (m : MemberState) → slice_index_or members b None ≡ Some m → IsShared m → m.node.boot ≤ boot_of own → delivered_at members b a own theirs Zero ≡ delivered m.node.journal (flow_with a (own, theirs))
unfolding delivered_at
delivered_is members b a own theirs m was h above = ap (λ (es : List Entry). delivered es (stream_of a own theirs Zero)) (history_at-is members b m (member_at-is members b m was)) ∙ delivered_now m a own theirs h above

-- the promise of two nodes, where a front of what was accepted is delivered
pair_agrees : (members : List (Option MemberState)) (air : AirState) (a b : ℕ) (m n : MemberState) → IsSound members air → AreShared members → slice_index_or members a None ≡ Some m → slice_index_or members b None ≡ Some n
    → (d : AreNamesDone members a b) → IsPrefixOf (delivered_at members b a d.theirs d.own Zero) (accepted_at members a b d.own d.theirs Zero) → Agrees (node_word a) (live (journal_now members a)) (names (journal_now members b))
pair_agrees members air a b m n sound all here there d front =
    let h = all a m here in
    let k = all b n there in
    let mine = journal_is members a m here in
    let its = journal_is members b n there in
    let contact_a : contact m.node.journal (addr_of b) ≡ Some (d.own, d.theirs) = ap (λ (es : List Entry). contact es (addr_of b)) (sym mine) ∙ d.here in
    let contact_b : contact n.node.journal (addr_of a) ≡ Some (d.theirs, d.own) = ap (λ (es : List Entry). contact es (addr_of a)) (sym its) ∙ d.there in
    let put : accepted_at members a b d.own d.theirs Zero ≡ accepted m.node.journal (flow_with b (d.own, d.theirs)) =
    accepted_is members a b d.own d.theirs m here h (contact_now members air a b m (d.own, d.theirs) sound here h contact_a) in
    let given : delivered_at members b a d.theirs d.own Zero ≡ delivered n.node.journal (flow_with a (d.theirs, d.own)) =
    delivered_is members b a d.theirs d.own n there k (contact_now members air b a n (d.theirs, d.own) sound there k contact_b) in
    let told : HasTold (node_word a) (live m.node.journal) (accepted_at members a b d.own d.theirs Zero) =
    subst (HasTold (node_word a) (live m.node.journal)) (sym put) (subst (λ w. HasTold w (live m.node.journal) (accepted m.node.journal (flow_with b (d.own, d.theirs)))) (sound.numbered a m here).1 (h.shares.told b (d.own, d.theirs) contact_a)) in
    let holds : filter (is_of (node_word a)) n.node.sockets.names ≡ held_after (node_word a) [] (delivered_at members b a d.theirs d.own Zero) =
    k.shares.holds a (d.theirs, d.own) contact_b ∙ ap (held_after (node_word a) []) (sym given) in
    let agrees = agree (node_word a) (live m.node.journal) n.node.sockets.names (accepted_at members a b d.own d.theirs Zero) (delivered_at members b a d.theirs d.own Zero) told holds front d.all in
    ap (λ (es : List Entry). filter (is_of (node_word a)) (names es)) its ∙ ap (filter (is_of (node_word a))) (sym (told_names n.node k.told)) ∙ agrees ∙ ap (λ (es : List Entry). shared (live es)) (sym mine)

-- so it is with all nodes
pub tables_agree : (members : List (Option MemberState)) (air : AirState) → IsSound members air → AreShared members
    → ((a b own theirs : ℕ) → IsPrefixOf (delivered_at members b a own theirs Zero) (accepted_at members a b theirs own Zero)) → AreTables members
tables_agree members air sound all front a b d = case (slice_index_or members a None) (slice_index_or members b None) refl refl
  where
    case : (o p : Option MemberState) → slice_index_or members a None ≡ o → slice_index_or members b None ≡ p → Agrees (node_word a) (live (journal_now members a)) (names (journal_now members b))
    case None p none there = absurd (absent members a (addr_of b) (d.own, d.theirs) none d.here)
    case (Some m) None here none = absurd (absent members b (addr_of a) (d.theirs, d.own) none d.there)
    case (Some m) (Some n) here there = pair_agrees members air a b m n sound all here there d (front a b d.theirs d.own)
