-- What a peer delivers in an arrival: the entries that it adds to the step, and what the node holds of the peer's names then.
use Rattle.std.proofs.Common.{◌≡◌, ◌==◌, ◌&&◌, ℕ, Bool, true, false, List, [], ◌∷◌, ◌++◌, Option, Some, None, filter, map, if◌then◌else◌, refl, sym, ap, ◌∙◌, subst, append-nil, append_assoc, true≢false}
use Rattle.std.specs.Prelude.{option_to_list}
use Rattle.std.specs.List.{cons_option, list_all}
use Rattle.std.proofs.lemmas.Bool.{and_from, and_parts}
use Rattle.tipc_types.specs.Address.{node_word}
use Rattle.tipc_types.specs.declared.message_forms.Flow.TheVariants.{Zero}
use Rattle.tipc_types.specs.declared.message_forms.Message.{Message}
use Rattle.tipc_types.specs.declared.message_forms.Message.TheVariants.{Items, Payload}
use Rattle.tipc_types.specs.declared.services.Publication.{Publication}
use Rattle.tipc_outside.specs.declared.outgoing.Outgoing.{Outgoing}
use Rattle.tipc_types.specs.Tables.{IsTable, is_of}
use Rattle.tipc_name_dist.specs.Applying.{applied, held_after, learnt_entries, learnt_entry, misfit_entries}
use Rattle.tipc_name_dist.proofs.Applied.{same_number}
use Rattle.tipc_name_dist.proofs.Fronts.{applied_of_part, applied_table, held_append}
use Rattle.tipc_journal.specs.declared.entries.Entry.{Entry}
use Rattle.tipc_journal.specs.declared.entries.Entry.TheVariants as entry
use Rattle.tipc_journal.specs.Streams.{delivered}
use Rattle.tipc_journal.proofs.StreamLaws.{delivered_append, delivered_nil, stream_eq_refl}
use Rattle.tipc_reassembly.specs.declared.opening.Opened.{Opened}
use Rattle.tipc_reassembly.specs.declared.opening.Opened.TheVariants.{Whole, Passed}
use Rattle.tipc_sockets.specs.declared.fates.Fate.{Fate}
use Rattle.tipc_sockets.specs.declared.fates.Fate.TheVariants.{Dropped, Queued, ReturnDropped, Returned}
use Rattle.tipc_sockets.specs.Telling.{fate_entry, is_payload}
use Rattle.tipc_node.specs.declared.frames.Delivery.{Delivery}
use Rattle.tipc_node.specs.Messages.{message_in}
use Rattle.tipc_node.specs.Nodes.{deliveries_of, delivered_by}
use Rattle.tipc_node.specs.Sharing.{flow_with}
use Rattle.tipc_node.specs.Turns.{addr_of, is_delivered_from}
use Rattle.tipc_node.specs.Works.{Delivers, DeliversAll, DeliversTo, Work, noted, with_items}
use Rattle.tipc_node.specs.Works.DeliversAll.{none_left, one_more}
use Rattle.tipc_node.proofs.journal.Noting.{all_from}
use Rattle.tipc_sockets.proofs.LearntNames.{applied_of, learnt_names}
use Rattle.tipc_node.proofs.names.SharingFlows.{delivered_of_peer}
use Rattle.tipc_node.proofs.names.SharingWork.{AddsOf, IsOpen, all_both, settles_adds, settles_names}

-- ---- entries

-- an entry of what is delivered from a peer: users' messages alone are accepted, and names are learned and forgotten of the peer alone
abbrev pub is_delivery_of : ℕ → Entry → Bool
is_delivery_of peer (entry.Accepted c numbers flow message) = is_payload message
is_delivery_of peer (entry.Delivered c numbers flow message by) = c.word == node_word peer
is_delivery_of peer (entry.Learned p) = is_of (node_word peer) p
is_delivery_of peer (entry.Forgot p) = is_of (node_word peer) p
is_delivery_of peer (entry.Published p) = false
is_delivery_of peer (entry.Withdrawn p) = false
is_delivery_of peer (entry.LinkUp c bearer own theirs) = false
is_delivery_of peer (entry.LinkDown c bearer because shown) = false
is_delivery_of peer (entry.ContactUp c numbers) = false
is_delivery_of peer (entry.ContactDown c numbers states shown) = false
is_delivery_of peer other = true

-- one by which nothing is delivered
abbrev delivers_none : Entry → Bool
delivers_none (entry.Delivered c numbers flow message by) = false
delivers_none other = true

-- an entry of the fate of a user's message, or of its return
abbrev is_settled : ℕ → Entry → Bool
is_settled peer e = is_delivery_of peer e && delivers_none e

settled_open : (peer : ℕ) → IsOpen (is_settled peer)
settled_open peer = record { fates = fates; users = λ c numbers flow m user. and_from _ true user refl }
  where
    fates : (f : Fate) → is_settled peer (fate_entry f) ≡ true
    fates (Queued ports) = refl
    fates (Returned (Payload importance form from to kind lower upper code droppable body)) = refl
    fates (Returned (Items withdrawal items)) = refl
    fates (ReturnDropped waiting) = refl
    fates Dropped = refl

elsewhere : (b : ℕ) (e : Entry) → delivers_none e ≡ true → is_delivered_from b e ≡ false
elsewhere b (entry.Delivered c numbers flow message by) is = absurd (true≢false (sym is))
elsewhere b other is = refl

-- none of them passes, where none that passes the one test passes the other
pub filter_apart : (test other : Entry → Bool) → ((e : Entry) → test e ≡ true → other e ≡ false) → (es : List Entry) → list_all test es ≡ true → filter other es ≡ []
filter_apart test other apart [] all = refl
filter_apart test other apart (e ∷ es) all =
    let both = and_parts (test e) _ all in
    ap (λ t. if t then e ∷ filter other es else filter other es) (apart e both.0) ∙ filter_apart test other apart es both.1

none_delivered : (b : ℕ) (numbers : ℕ × ℕ) (es : List Entry) → list_all delivers_none es ≡ true → delivered es (flow_with b numbers) ≡ []
none_delivered b numbers es all = delivered_of_peer b numbers es [] [] (filter_apart delivers_none (is_delivered_from b) (elsewhere b) es all) (delivered_nil (flow_with b numbers))

one_delivered : (b : ℕ) (numbers : ℕ × ℕ) (m : Message) (by : List ℕ) → delivered (entry.Delivered (addr_of b) numbers Zero m by ∷ []) (flow_with b numbers) ≡ m ∷ []
unfolding delivered
one_delivered b numbers m by = ap (λ t. cons_option (if t then Some m else None) []) (stream_eq_refl (flow_with b numbers))

-- ---- what is learned

-- of these publications each is the peer's
learnt_settled : (peer : ℕ) (m : Message) (ps : List Publication) → list_all (is_of (node_word peer)) ps ≡ true → list_all (is_settled peer) (map (learnt_entry m) ps) ≡ true
learnt_settled peer m [] mine = refl
learnt_settled peer m (p ∷ ps) mine = let both = and_parts (is_of (node_word peer) p) _ mine in and_from _ _ (one m both.0) (learnt_settled peer m ps both.1)
  where
    one : (k : Message) → is_of (node_word peer) p ≡ true → is_settled peer (learnt_entry k p) ≡ true
    one (Items true items) is = and_from _ true is refl
    one (Items false items) is = and_from _ true is refl
    one (Payload importance form from to kind lower upper code droppable body) is = and_from _ true is refl

misfit_settled : (peer : ℕ) (bad : Option ℕ) → list_all (is_settled peer) (misfit_entries bad) ≡ true
misfit_settled peer None = refl
misfit_settled peer (Some place) = refl

all_learnt : (peer : ℕ) (table : List Publication) (m : Message) → list_all (is_settled peer) (learnt_entries (node_word peer) table m) ≡ true
all_learnt peer table m =
    let a = applied (node_word peer) table m in
    all_both (is_settled peer) (map (learnt_entry m) a.publications) (misfit_entries a.bad) (learnt_settled peer m a.publications (applied_of (node_word peer) table m)) (misfit_settled peer a.bad)

-- ---- what is heard

-- These messages are delivered from the peer, and the node holds of it what they make of what it held.
pub record HearsOf (peer : ℕ) (numbers : ℕ × ℕ) (w w' : Work) (ms : List Message) : Type 0 where
  pub adds : AddsOf (is_delivery_of peer) w w'
  pub brings : delivered adds.entries (flow_with peer numbers) ≡ ms
  pub table : IsTable w'.sockets.names
  pub names : filter (is_of (node_word peer)) w'.sockets.names ≡ held_after (node_word peer) (filter (is_of (node_word peer)) w.sockets.names) ms

hears_none : (peer : ℕ) (numbers : ℕ × ℕ) (w : Work) → IsTable w.sockets.names → HearsOf peer numbers w w []
hears_none peer numbers w sound = record {
  adds = record { entries = []; inside = sym (append-nil w.inside); all = refl };
  brings = delivered_nil (flow_with peer numbers);
  table = sound;
  names = refl;
}

hears_then : (peer : ℕ) (numbers : ℕ × ℕ) (u v w : Work) (ms ms' : List Message) → HearsOf peer numbers u v ms → HearsOf peer numbers v w ms' → HearsOf peer numbers u w (ms ++ ms')
hears_then peer numbers u v w ms ms' h k = record {
  adds = record {
    entries = h.adds.entries ++ k.adds.entries;
    inside = k.adds.inside ∙ ap (λ es. es ++ k.adds.entries) h.adds.inside ∙ append_assoc u.inside h.adds.entries k.adds.entries;
    all = all_both (is_delivery_of peer) h.adds.entries k.adds.entries h.adds.all k.adds.all;
  };
  brings = delivered_append h.adds.entries k.adds.entries (flow_with peer numbers) ∙ ap (λ xs. xs ++ delivered k.adds.entries (flow_with peer numbers)) h.brings ∙ ap (λ xs. ms ++ xs) k.brings;
  table = k.table;
  names = k.names ∙ ap (λ ps. held_after (node_word peer) ps ms') h.names ∙ sym (held_append (node_word peer) (filter (is_of (node_word peer)) u.sockets.names) ms ms');
}

settled_is : (peer : ℕ) (e : Entry) → is_settled peer e ≡ true → is_delivery_of peer e ≡ true
settled_is peer e is = (and_parts (is_delivery_of peer e) _ is).0

settled_none : (peer : ℕ) (e : Entry) → is_settled peer e ≡ true → delivers_none e ≡ true
settled_none peer e is = (and_parts (is_delivery_of peer e) _ is).1

-- an entry of a message, and then those of its fate, or of what is learned by it
message_heard : (peer : ℕ) (numbers : ℕ × ℕ) (w w' : Work) (m : Message) (by : List ℕ) → AddsOf (is_settled peer) (noted w (entry.Delivered (addr_of peer) numbers Zero m by ∷ [])) w' → IsTable w'.sockets.names
    → filter (is_of (node_word peer)) w'.sockets.names ≡ held_after (node_word peer) (filter (is_of (node_word peer)) w.sockets.names) (m ∷ []) → HearsOf peer numbers w w' (m ∷ [])
message_heard peer numbers w w' m by a sound names =
    let e = entry.Delivered (addr_of peer) numbers Zero m by in record {
      adds = record {
        entries = (e ∷ []) ++ a.entries;
        inside = a.inside ∙ append_assoc w.inside (e ∷ []) a.entries;
        all = and_from _ _ (same_number (node_word peer)) (all_from (is_settled peer) (is_delivery_of peer) (settled_is peer) a.entries a.all);
      };
      brings =
          delivered_append (e ∷ []) a.entries (flow_with peer numbers) ∙ ap (λ xs. xs ++ delivered a.entries (flow_with peer numbers)) (one_delivered peer numbers m by)
          ∙ ap (λ xs. m ∷ xs) (none_delivered peer numbers a.entries (all_from (is_settled peer) delivers_none (settled_none peer) a.entries a.all));
      table = sound;
      names = names;
    }

-- one that carries no message is dropped
dropped_heard : (peer : ℕ) (numbers : ℕ × ℕ) (w w' : Work) (place : ℕ) → IsTable w.sockets.names → w' ≡ noted w (entry.Dropped place ∷ []) → HearsOf peer numbers w w' []
dropped_heard peer numbers w w' place sound is = subst (λ v. HearsOf peer numbers w v []) (sym is) (record {
  adds = record { entries = entry.Dropped place ∷ []; inside = refl; all = refl };
  brings = none_delivered peer numbers (entry.Dropped place ∷ []) refl;
  table = sound;
  names = refl;
})

-- one delivery
one_heard : (own peer : ℕ) (numbers : ℕ × ℕ) (o : Option Message) (by : List ℕ) (w w' : Work) (frames : List Outgoing) → IsTable w.sockets.names → DeliversTo own peer (noted w (delivered_by Zero peer numbers o by ∷ [])) o w' frames
    → HearsOf peer numbers w w' (option_to_list o)
one_heard own peer numbers None by w w' frames sound h = dropped_heard peer numbers w w' 0 sound h.0
one_heard own peer numbers (Some (Items withdrawal items)) by w w' frames sound h =
    let m = Items withdrawal items in
    let v = noted w (entry.Delivered (addr_of peer) numbers Zero m by ∷ []) in
    let es = learnt_entries (node_word peer) w.sockets.names m in
    let learnt = learnt_names (node_word peer) w.sockets m in
    subst (λ u. HearsOf peer numbers w u (m ∷ [])) (sym h.0)
    (message_heard peer numbers w (with_items peer v m) m by (record { entries = es; inside = refl; all = all_learnt peer w.sockets.names m })
    (subst IsTable (sym learnt) (applied_table (node_word peer) w.sockets.names m sound))
    (ap (filter (is_of (node_word peer))) learnt ∙ applied_of_part (node_word peer) w.sockets.names m sound))
one_heard own peer numbers (Some (Payload importance form from to kind lower upper code droppable body)) by w w' frames sound h =
    let m = Payload importance form from to kind lower upper code droppable body in
    let v = noted w (entry.Delivered (addr_of peer) numbers Zero m by ∷ []) in
    let same = settles_names own v true m w' frames h in
    message_heard peer numbers w w' m by (settles_adds (is_settled peer) own v true m w' frames (settled_open peer) h) (subst IsTable (sym same) sound) (ap (filter (is_of (node_word peer))) same)

-- ---- all of them

abbrev IsHeard : (own peer : ℕ) → ℕ × ℕ → Delivery → Type 0
IsHeard own peer numbers d = (w w' : Work) (frames : List Outgoing) → IsTable w.sockets.names → Delivers own peer w d w' frames → HearsOf peer numbers w w' (option_to_list d.message)

abbrev AreHeard : (own peer : ℕ) → ℕ × ℕ → List Delivery → Type 0
AreHeard own peer numbers [] = Unit {0}
AreHeard own peer numbers (d ∷ ds) = IsHeard own peer numbers d × AreHeard own peer numbers ds

are_heard : (own peer : ℕ) (numbers : ℕ × ℕ) (opened : List Opened) → AreHeard own peer numbers (deliveries_of Zero peer numbers opened)
are_heard own peer numbers [] = tt
are_heard own peer numbers (Passed place ∷ opened) = (λ w w' frames sound h. dropped_heard peer numbers w w' place sound h.0, are_heard own peer numbers opened)
are_heard own peer numbers (Whole packet by ∷ opened) = (λ w w' frames sound h. one_heard own peer numbers (message_in packet) by w w' frames sound h, are_heard own peer numbers opened)

abbrev messages_in : List Delivery → List Message
messages_in [] = []
messages_in (d ∷ ds) = option_to_list d.message ++ messages_in ds

all_heard : (own peer : ℕ) (numbers : ℕ × ℕ) (w : Work) (ds : List Delivery) (w' : Work) (frames : List Outgoing) → IsTable w.sockets.names → AreHeard own peer numbers ds → DeliversAll own peer w ds w' frames → HearsOf peer numbers w w' (messages_in ds)
all_heard own peer numbers w _ _ _ sound heard (none_left _) = hears_none peer numbers w sound
all_heard own peer numbers w _ w' _ sound heard (one_more _ v _ d ds fs fs' one all) =
    let first = heard.0 w v fs sound one in
    hears_then peer numbers w v w' (option_to_list d.message) (messages_in ds) first (all_heard own peer numbers v ds w' fs' first.table heard.1 all)

-- the messages that a peer delivered
pub delivers_hears : (own peer : ℕ) (numbers : ℕ × ℕ) (opened : List Opened) (w w' : Work) (frames : List Outgoing) → IsTable w.sockets.names → DeliversAll own peer w (deliveries_of Zero peer numbers opened) w' frames
    → (ms : List Message) × HearsOf peer numbers w w' ms
delivers_hears own peer numbers opened w w' frames sound h =
    let ds = deliveries_of Zero peer numbers opened in (messages_in ds, all_heard own peer numbers w ds w' frames sound (are_heard own peer numbers opened) h)
