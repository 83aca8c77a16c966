-- What an arrival delivers, one after the other.
use Rattle.std.proofs.Common.{◌≡◌, ◌+◌, ◌<◌, ℕ, Bool, true, List, [], ◌∷◌, ◌++◌, Option, Some, None, Result, Ok, Err, append_assoc, drop, length, refl, sym, ap, subst, ◌∙◌}
use Rattle.std.specs.Prelude.{OnOk, fold, option_map}
use Rattle.std.proofs.Math.ListN.{get_or}
use Rattle.std.proofs.lemmas.List.{drop_more}
use Rattle.std.specs.List.{list_all}
use Rattle.tipc_types.specs.declared.message_forms.Flow.{Flow}
use Rattle.tipc_types.specs.Address.{node_word}
use Rattle.tipc_types.specs.declared.message_forms.Item.{Item}
use Rattle.tipc_types.specs.declared.message_forms.Message.{Message}
use Rattle.tipc_types.specs.declared.message_forms.Message.TheVariants.{Items, Payload}
use Rattle.tipc_outside.specs.Frames.{Out}
use Rattle.tipc_outside.proofs.Adding.{adds_more, adds_none}
use Rattle.tipc_journal.specs.declared.entries.Entry.{Entry}
use Rattle.tipc_journal.specs.declared.entries.Entry.TheVariants as entry
use Rattle.tipc_types.specs.declared.services.Publication.{Publication}
use Rattle.tipc_name_dist.specs.Applying.{applied, learnt_entries}
use Rattle.tipc_name_dist.proofs.Applied.{some_item}
use Rattle.tipc_reassembly.specs.declared.opening.Opened.{Opened}
use Rattle.tipc_reassembly.specs.declared.opening.Opened.TheVariants.{Whole, Passed}
use Rattle.tipc_sockets.specs.Learning.{fitting, learnt_by}
use Rattle.tipc_sockets.specs.SocketTables.{SocketTable}
use Rattle.tipc_sockets.specs.Telling.{after_entry, is_payload}
use Rattle.tipc_sockets.proofs.Learning.{IsApplying, fits_not, told_from}
use Rattle.tipc_node.specs.declared.frames.Delivery.{Delivery}
use Rattle.tipc_node.specs.Hearings.{is_plain, AllDelivered, Delivered, Settled, TookIn}
use Rattle.tipc_node.specs.Messages.{message_in_flow}
use Rattle.tipc_node.specs.Nodes.{deliveries_of, delivered_by, entries_in}
use Rattle.tipc_node.specs.Works.{DeliversTo, Work, noted, with_items, work_of}
use Rattle.tipc_node.specs.Works.DeliversAll.{none_left, one_more}

-- ---- what is told changes no sockets

pub plain_note : (s : SocketTable) (e : Entry) → is_plain e ≡ true → after_entry s e ≡ s
plain_note s (entry.Delivered peer contact flow message by) plain = refl
plain_note s (entry.Dropped place) plain = refl
plain_note s (entry.Step by event) plain = absurd cc
plain_note s (entry.Accepted peer contact flow message) plain = absurd cc
plain_note s (entry.Published p) plain = absurd cc
plain_note s (entry.Withdrawn p) plain = absurd cc
plain_note s (entry.Learned p) plain = absurd cc
plain_note s (entry.Forgot p) plain = absurd cc
plain_note s (entry.LinkUp peer bearer own theirs) plain = absurd cc
plain_note s (entry.LinkDown peer bearer cause shown) plain = absurd cc
plain_note s (entry.ContactUp peer numbers) plain = absurd cc
plain_note s (entry.ContactDown peer numbers states shown) plain = absurd cc
plain_note s (entry.Queued ports) plain = absurd cc
plain_note s (entry.Returned code) plain = absurd cc
plain_note s (entry.ReturnDropped waiting) plain = absurd cc
plain_note s (entry.Subscribed number subscription) plain = absurd cc
plain_note s (entry.Cancelled number) plain = absurd cc
plain_note s (entry.TimedOut number) plain = absurd cc
plain_note s (entry.Answered caller call answer) plain = absurd cc

plain_message : (flow : Flow) (peer : ℕ) (contact : ℕ × ℕ) (m : Option Message) (by : List ℕ) → is_plain (delivered_by flow peer contact m by) ≡ true
plain_message flow peer contact None by = refl
plain_message flow peer contact (Some m) by = refl

pub all_plain : (flow : Flow) (peer : ℕ) (contact : ℕ × ℕ) (opened : List Opened) → list_all is_plain (entries_in (deliveries_of flow peer contact opened)) ≡ true
all_plain flow peer contact [] = refl
all_plain flow peer contact (Passed place ∷ opened) = all_plain flow peer contact opened
all_plain flow peer contact (Whole packet by ∷ opened) =
    rw (plain_message flow peer contact (message_in_flow flow packet) by) (all_plain flow peer contact opened)

-- ---- one message

-- a user's message has its fate
pub took_user : (own peer : ℕ) (w : Work) (m : Message) (w' : Work) (box box' : Out) → is_payload m ≡ true → Settled own w m w' box box' → TookIn own peer w m w' box box'
took_user own peer w (Payload importance form from to kind lower upper code droppable body) w' box box' user h = record { frames = h.frames; delivers = h.settles; adds = h.adds }
took_user own peer w (Items withdrawal items) w' box box' user h = absurd cc

-- items are applied
pub took_items : (own peer : ℕ) (w : Work) (m : Message) (withdrawal : Bool) (items : List Item) (sockets : SocketTable) (inside : List Entry) (box : Out) → m ≡ Items withdrawal items
    → sockets ≡ fold after_entry w.sockets (learnt_entries (node_word peer) w.sockets.names (Items withdrawal items)) → inside ≡ w.inside ++ learnt_entries (node_word peer) w.sockets.names (Items withdrawal items)
    → TookIn own peer w m (work_of w.neighbours sockets inside) box box
took_items own peer w m withdrawal items sockets inside box is one other =
    let items_in = Items withdrawal items in
    let same : work_of w.neighbours sockets inside ≡ with_items peer w items_in =
    ap (λ (s : SocketTable). work_of w.neighbours s inside) one ∙ ap (work_of w.neighbours (with_items peer w items_in).sockets) other in
    subst (λ (x : Message). TookIn own peer w x (work_of w.neighbours sockets inside) box box) (sym is) (record { frames = []; delivers = (same, refl); adds = adds_none box })

-- so it is where there was memory for it, as the code names the peer and the items
pub took_items_ok : {T E : Type 0} (r : Result T E) (own peer word : ℕ) (w : Work) (m : Message) (withdrawal : Bool) (items seen : List Item) (sockets : SocketTable) (inside : List Entry) (box : Out)
    → m ≡ Items withdrawal items → word ≡ node_word peer → seen ≡ items → OnOk r (sockets ≡ fold after_entry w.sockets (learnt_entries word w.sockets.names (Items withdrawal seen)))
    → OnOk r (inside ≡ w.inside ++ learnt_entries word w.sockets.names (Items withdrawal seen)) → OnOk r (TookIn own peer w m (work_of w.neighbours sockets inside) box box)
took_items_ok (Ok x) own peer word w m withdrawal items seen sockets inside box is here same one other =
    let told : learnt_entries word w.sockets.names (Items withdrawal seen) ≡ learnt_entries (node_word peer) w.sockets.names (Items withdrawal items) =
    ap (λ k. learnt_entries k w.sockets.names (Items withdrawal seen)) here ∙ ap (λ xs. learnt_entries (node_word peer) w.sockets.names (Items withdrawal xs)) same in
    took_items own peer w m withdrawal items sockets inside box is (one ∙ ap (fold after_entry w.sockets) told) (other ∙ ap (λ es. w.inside ++ es) told)
took_items_ok (Err e) own peer word w m withdrawal items seen sockets inside box is here same one other = tt

-- ---- one delivery

-- it has a message, which is taken in
pub delivered_some : (own peer : ℕ) (w : Work) (d : Delivery) (m : Message) (w' : Work) (box box' : Out) → is_plain d.entry ≡ true → d.message ≡ Some m
    → TookIn own peer (work_of w.neighbours w.sockets (w.inside ++ d.entry ∷ [])) m w' box box' → Delivered own peer w d w' box box'
delivered_some own peer w d m w' box box' plain is h = record {
  frames = h.frames;
  delivers = subst (λ (o : Option Message). DeliversTo own peer (noted w (d.entry ∷ [])) o w' h.frames) (sym is)
      (subst (λ (s : SocketTable). DeliversTo own peer (work_of w.neighbours s (w.inside ++ d.entry ∷ [])) (Some m) w' h.frames) (sym (plain_note w.sockets d.entry plain)) h.delivers);
  adds = h.adds;
}

-- it has none
pub delivered_none : (own peer : ℕ) (w : Work) (d : Delivery) (box : Out) → is_plain d.entry ≡ true → d.message ≡ None
    → Delivered own peer w d (work_of w.neighbours w.sockets (w.inside ++ d.entry ∷ [])) box box
delivered_none own peer w d box plain is = record {
  frames = [];
  delivers = subst (λ (o : Option Message). DeliversTo own peer (noted w (d.entry ∷ [])) o (work_of w.neighbours w.sockets (w.inside ++ d.entry ∷ [])) []) (sym is)
      (ap (λ (s : SocketTable). work_of w.neighbours s (w.inside ++ d.entry ∷ [])) (sym (plain_note w.sockets d.entry plain)), refl);
  adds = adds_none box;
}

-- ---- all of them

pub nothing_delivered : (own peer : ℕ) (w : Work) (box : Out) → AllDelivered own peer w [] w box box
nothing_delivered own peer w box = record { frames = []; delivers = none_left w; adds = adds_none box }

pub delivered_first : (own peer : ℕ) (w between last : Work) (d : Delivery) (ds : List Delivery) (a b c : Out)
    → Delivered own peer w d between a b → AllDelivered own peer between ds last b c → AllDelivered own peer w (d ∷ ds) last a c
delivered_first own peer w between last d ds a b c h rest = record {
  frames = h.frames ++ rest.frames;
  delivers = one_more w between last d ds h.frames rest.frames h.delivers rest.delivers;
  adds = adds_more a b c h.frames rest.frames h.adds rest.adds;
}

-- with what is to come, all is delivered
abbrev pub IsPartDelivered : (own peer : ℕ) → Work → List Delivery → Work → List Delivery → Out → Out → Type 0
IsPartDelivered own peer w ds now waiting a b = (last : Work) (c : Out) → AllDelivered own peer now waiting last b c → AllDelivered own peer w ds last a c

-- the next one is delivered
pub part_next : (own peer : ℕ) (w now next : Work) (ds waiting rest : List Delivery) (d : Delivery) (a b c : Out) → IsPartDelivered own peer w ds now waiting a b → waiting ≡ d ∷ rest
    → Delivered own peer now d next b c → IsPartDelivered own peer w ds next rest a c
part_next own peer w now next ds waiting rest d a b c so_far is one last box h =
    so_far last box (subst (λ (es : List Delivery). AllDelivered own peer now es last b box) (sym is) (delivered_first own peer now next last d rest b c box one h))

-- none is left
pub part_last : (own peer : ℕ) (w now : Work) (ds waiting : List Delivery) (a b : Out) → IsPartDelivered own peer w ds now waiting a b → waiting ≡ [] → AllDelivered own peer w ds now a b
part_last own peer w now ds waiting a b so_far none =
    so_far now b (subst (λ (es : List Delivery). AllDelivered own peer now es now b b) (sym none) (nothing_delivered own peer now b))

-- ---- an item that doesn't fit

none_fitting : (w : Bool) (o : Option Publication) → None ≡ option_map (learnt_by w) o → o ≡ None
none_fitting w None is = refl
none_fitting w (Some p) is = absurd cc

-- it is the last of which something is told
pub misfit_told : (from : ℕ) (w : Bool) (items : List Item) (s now : SocketTable) (inside inside' more : List Entry) (place : ℕ) → IsApplying from w items s now inside inside' place → place < length items
    → None ≡ option_map (learnt_by w) (fitting from w now.names (get_or items place some_item)) → more ≡ inside' ++ entry.Dropped place ∷ [] → more ≡ inside ++ learnt_entries from s.names (Items w items)
misfit_told from w items s now inside inside' more place h within told pushed =
    let item = get_or items place some_item in
    let last : learnt_entries from s.names (Items w items) ≡ h.told ++ entry.Dropped place ∷ [] =
    h.all ∙ ap (λ xs. h.told ++ told_from w place (applied from now.names (Items w xs))) (drop_more items place some_item within)
    ∙ ap (λ es. h.told ++ es) (fits_not from w now.names item (drop (place + 1) items) place (none_fitting w (fitting from w now.names item) told)) in
    pushed ∙ ap (λ es. es ++ entry.Dropped place ∷ []) h.inside_is ∙ append_assoc inside h.told (entry.Dropped place ∷ []) ∙ ap (λ es. inside ++ es) (sym last)
