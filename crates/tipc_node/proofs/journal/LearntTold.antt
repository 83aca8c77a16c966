-- What is learned and forgotten by a peer's items: a node's work on a step tells of it.
use Rattle.std.proofs.Common.{◌≡◌, ◌+◌, ◌<◌, ◌==◌, ◌||◌, ℕ, Bool, true, false, not, List, [], ◌∷◌, ◌++◌, Option, Some, None, fold, if◌then◌else◌, is_some, append-nil, append_assoc, refl, sym, ap, ◌∙◌, subst, arith}
use Rattle.std.specs.Prelude.{count_by, find, nat_lt}
use Rattle.std.specs.List.{list_any}
use Rattle.std.proofs.lemmas.Bool.{and_parts}
use Rattle.std.proofs.lemmas.Bool.Decides.{nat_tests}
use Rattle.tipc_types.specs.Address.{node_word}
use Rattle.tipc_types.specs.declared.message_forms.Item.{Item}
use Rattle.tipc_types.specs.declared.message_forms.Message.TheVariants.{Items}
use Rattle.tipc_types.specs.declared.services.Publication.{Publication}
use Rattle.tipc_journal.specs.declared.entries.Entry.{Entry}
use Rattle.tipc_journal.specs.declared.entries.Entry.TheVariants as entry
use Rattle.tipc_journal.specs.Contacts.{contact}
use Rattle.tipc_journal.specs.Dues.{Due, NothingDue}
use Rattle.tipc_journal.proofs.Insides.{contact_inside}
use Rattle.tipc_types.specs.Tables.{is_named, is_of, put, without}
use Rattle.tipc_name_table.proofs.TableLaws.{table_kept, table_put}
use Rattle.tipc_name_dist.specs.Applying.{applied, can_be_put, is_new, is_ordered, told_by}
use Rattle.tipc_sockets.specs.Telling.{after_entry}
use Rattle.tipc_sockets.specs.Publishing.{published, withdrawn}
use Rattle.tipc_sockets.proofs.Entries.{told_entry}
use Rattle.tipc_sockets.proofs.Keeping.{sockets_kept, sockets_published}
use Rattle.tipc_sockets.specs.Learning.{fitting, learnt_by}
use Rattle.tipc_node.specs.Nodes.{NodeState}
use Rattle.tipc_node.specs.Telling.{is_in_reach}
use Rattle.tipc_node.specs.Works.{Work, addr_of_word, noted, with_items, work_of}
use Rattle.tipc_node.proofs.journal.Fating.{IsDone, linked_more}
use Rattle.tipc_sockets.proofs.Learning.{all_told, fits_next, fits_not, found_named, held_found, names_after, names_with, none_told, told_from}
use Rattle.tipc_node.proofs.journal.Noting.{IsNext, IsWorked, all_kept, all_put, queues_none, quiet_worked, reach_same, reached_same, worked_on}
-- ---- one publication
use Rattle.tipc_link_fsm.proofs.Moves.{not_true as not_so}

-- a peer: another node than this one, and in contact with it
pub record IsPeer (n : NodeState) (inside : List Entry) (word : ℕ) : Type 0 where
  pub other : (word == n.own) ≡ false
  pub contact : is_some (contact (n.journal ++ inside) (addr_of_word word)) ≡ true

-- one that can be put stands in a table with those that are there
placed : (table : List Publication) (p : Publication) → can_be_put table p ≡ true → (list_any (is_named p.at.node.word p.key) table ≡ false) × (count_by (is_of p.at.node.word) table < 1024)
placed table p room =
    let both = and_parts (not (list_any (is_named p.at.node.word p.key) table)) (nat_lt (count_by (is_of p.at.node.word) table) 1024) room in
    let few = both.1 in
    (not_so (list_any (is_named p.at.node.word p.key) table) both.0, grind (arith, nat_tests, few))

learned_next : (n : NodeState) (d : Due) (sends asked : List Entry) (w : Work) (p : Publication) → IsWorked n d NothingDue sends asked w → IsPeer n w.inside p.at.node.word → can_be_put w.sockets.names p ≡ true
    → IsNext n d NothingDue w (entry.Learned p) (published w.sockets p)
learned_next n d sends asked w p h peer room =
    let e = entry.Learned p in
    let place = placed w.sockets.names p room in
    let here : is_in_reach n.own (n.journal ++ (w.inside ++ e ∷ [])) p ≡ true =
    ap (λ (b : Bool). b || is_some (contact (n.journal ++ (w.inside ++ e ∷ [])) p.at.node)) peer.other ∙ ap is_some (contact_inside n.journal w.inside e p.at.node) ∙ peer.contact in
    record {
      told = told_entry (addr_of_word n.own) n.journal d w.inside w.sockets h.told h.sound e (ap not peer.other) (λ port. queues_none port _ e h.due) refl tt;
      sound = sockets_published w.sockets p (put p w.sockets.names) (if is_of w.sockets.own p then w.sockets.live ++ p ∷ [] else w.sockets.live) (published w.sockets p).watchers h.sound (table_put p w.sockets.names h.sound.names place.0 place.1) refl refl;
      ports = refl;
      reached = all_put (is_in_reach n.own (n.journal ++ (w.inside ++ e ∷ []))) p here w.sockets.names (reached_same n.own n.journal w.inside e w.sockets.names (λ a z. refl) h.reached);
      stands = tt;
      leaves = λ z. refl;
    }

forgot_next : (n : NodeState) (d : Due) (sends asked : List Entry) (w : Work) (p : Publication) → IsWorked n d NothingDue sends asked w → (p.at.node.word == n.own) ≡ false → find (is_named p.at.node.word p.key) w.sockets.names ≡ Some p
    → IsNext n d NothingDue w (entry.Forgot p) (withdrawn w.sockets p.at.node.word p.key)
forgot_next n d sends asked w p h other found =
    let e = entry.Forgot p in
    let kept : Publication → Bool = λ q. not (is_named p.at.node.word p.key q) in
    record {
      told = told_entry (addr_of_word n.own) n.journal d w.inside w.sockets h.told h.sound e (ap not other) (λ port. queues_none port _ e h.due) refl found;
      sound = sockets_kept w.sockets kept (without p.at.node.word p.key w.sockets.names) (without p.at.node.word p.key w.sockets.live) (withdrawn w.sockets p.at.node.word p.key).watchers h.sound (table_kept kept w.sockets.names h.sound.names) refl refl;
      ports = refl;
      reached = all_kept (is_in_reach n.own (n.journal ++ w.inside)) (is_in_reach n.own (n.journal ++ (w.inside ++ e ∷ []))) kept
          (λ q stays is. reach_same n.own n.journal w.inside e (λ a z. refl) q ∙ is) w.sockets.names h.reached;
      stands = tt;
      leaves = λ z. refl;
    }

-- ---- one item

learned_done : (n : NodeState) (d : Due) (sends asked : List Entry) (w : Work) (p : Publication) → IsDone n d sends asked w → IsPeer n w.inside p.at.node.word → can_be_put w.sockets.names p ≡ true
    → IsDone n d sends asked (noted w (entry.Learned p ∷ []))
learned_done n d sends asked w p h peer room = (
  worked_on n d NothingDue NothingDue sends asked w (entry.Learned p) (published w.sockets p) w.neighbours h.0 (learned_next n d sends asked w p h.0 peer room) refl refl refl,
  linked_more n w (entry.Learned p) (published w.sockets p) h.1 (λ a z. refl),
)

forgot_done : (n : NodeState) (d : Due) (sends asked : List Entry) (w : Work) (p : Publication) → IsDone n d sends asked w → (p.at.node.word == n.own) ≡ false → find (is_named p.at.node.word p.key) w.sockets.names ≡ Some p
    → IsDone n d sends asked (noted w (entry.Forgot p ∷ []))
forgot_done n d sends asked w p h other found = (
  worked_on n d NothingDue NothingDue sends asked w (entry.Forgot p) (withdrawn w.sockets p.at.node.word p.key) w.neighbours h.0 (forgot_next n d sends asked w p h.0 other found) refl refl refl,
  linked_more n w (entry.Forgot p) (withdrawn w.sockets p.at.node.word p.key) h.1 (λ a z. refl),
)

pub dropped_done : (n : NodeState) (d : Due) (sends asked : List Entry) (w : Work) (place : ℕ) → IsDone n d sends asked w → IsDone n d sends asked (noted w (entry.Dropped place ∷ []))
dropped_done n d sends asked w place h = (quiet_worked n d sends asked w (entry.Dropped place) h.0 tt, linked_more n w (entry.Dropped place) w.sockets h.1 (λ a z. refl))

-- an item that fits
fitting_done : (n : NodeState) (d : Due) (sends asked : List Entry) (w : Work) (word : ℕ) (withdrawal : Bool) (item : Item) (p : Publication) → IsDone n d sends asked w → IsPeer n w.inside word
    → fitting word withdrawal w.sockets.names item ≡ Some p → IsDone n d sends asked (noted w (learnt_by withdrawal p ∷ []))
fitting_done n d sends asked w word false item p h peer fits = by (is_new word w.sockets.names item) refl fits
  where
    by : (b : Bool) → is_new word w.sockets.names item ≡ b → (if b then Some (told_by word item) else None) ≡ Some p → IsDone n d sends asked (noted w (entry.Learned p ∷ []))
    by true new same =
        let is : told_by word item ≡ p = cc in
        subst (λ q. IsDone n d sends asked (noted w (entry.Learned q ∷ []))) is (learned_done n d sends asked w (told_by word item) h peer (and_parts (is_ordered item) (can_be_put w.sockets.names (told_by word item)) new).1)
    by false old same = absurd cc
fitting_done n d sends asked w word true item p h peer fits =
    let found = held_found word w.sockets.names item p fits in
    let named = found_named word item.key w.sockets.names p found in
    forgot_done n d sends asked w p h (ap (λ k. k == n.own) named.0 ∙ peer.other)
    (subst (λ k. find (is_named k p.key) w.sockets.names ≡ Some p) (sym named.0) (subst (λ k. find (is_named word k) w.sockets.names ≡ Some p) (sym named.1) found))

-- an entry that tells of no contact leaves a peer one
peer_more : (n : NodeState) (inside : List Entry) (word : ℕ) (withdrawal : Bool) (p : Publication) → IsPeer n inside word → IsPeer n (inside ++ learnt_by withdrawal p ∷ []) word
peer_more n inside word false p h = record { other = h.other; contact = ap is_some (contact_inside n.journal inside (entry.Learned p) (addr_of_word word)) ∙ h.contact }
peer_more n inside word true p h = record { other = h.other; contact = ap is_some (contact_inside n.journal inside (entry.Forgot p) (addr_of_word word)) ∙ h.contact }

-- ---- all of a message

-- one entry, and then others
noted_then : (w : Work) (e : Entry) (es : List Entry) → noted (noted w (e ∷ [])) es ≡ noted w (e ∷ es)
noted_then w e es = ap (work_of w.neighbours (fold after_entry (after_entry w.sockets e) es)) (append_assoc w.inside (e ∷ []) es)

noted_none : (w : Work) → noted w [] ≡ w
noted_none w = ap (work_of w.neighbours w.sockets) (append-nil w.inside)

items_done : (n : NodeState) (d : Due) (sends asked : List Entry) (word : ℕ) (withdrawal : Bool) (items : List Item) (place : ℕ) (w : Work) → IsDone n d sends asked w → IsPeer n w.inside word
    → IsDone n d sends asked (noted w (told_from withdrawal place (applied word w.sockets.names (Items withdrawal items))))
items_done n d sends asked word withdrawal [] place w h peer =
    subst (λ es. IsDone n d sends asked (noted w es)) (sym (none_told word withdrawal w.sockets.names place)) (subst (IsDone n d sends asked) (sym (noted_none w)) h)
items_done n d sends asked word withdrawal (item ∷ items) place w h peer = by (fitting word withdrawal w.sockets.names item) refl (λ u. items_done n d sends asked word withdrawal items (place + 1) u)
  where
    all : List Entry → Type 0
    all es = IsDone n d sends asked (noted w es)

    by : (o : Option Publication) → fitting word withdrawal w.sockets.names item ≡ o
        → ((u : Work) → IsDone n d sends asked u → IsPeer n u.inside word → IsDone n d sends asked (noted u (told_from withdrawal (place + 1) (applied word u.sockets.names (Items withdrawal items)))))
        → all (told_from withdrawal place (applied word w.sockets.names (Items withdrawal (item ∷ items))))
    by None is later = subst all (sym (fits_not word withdrawal w.sockets.names item items place is)) (dropped_done n d sends asked w place h)
    by (Some p) is later =
        let e = learnt_by withdrawal p in
        let next = noted w (e ∷ []) in
        let rest : List Publication → List Entry = λ names. told_from withdrawal (place + 1) (applied word names (Items withdrawal items)) in
        let first = fitting_done n d sends asked w word withdrawal item p h peer is in
        let after = later next first (peer_more n w.inside word withdrawal p peer) in
        let together : all (e ∷ rest next.sockets.names) = subst (IsDone n d sends asked) (noted_then w e (rest next.sockets.names)) after in
        let names : next.sockets.names ≡ names_with withdrawal p w.sockets.names = names_after withdrawal p w.sockets in
        subst all (ap (λ ns. e ∷ rest ns) names ∙ sym (fits_next word withdrawal w.sockets.names item items p place is)) together

-- the items of a peer are applied
pub with_items_done : (n : NodeState) (d : Due) (sends asked : List Entry) (peer : ℕ) (withdrawal : Bool) (items : List Item) (w : Work) → IsDone n d sends asked w → IsPeer n w.inside (node_word peer)
    → IsDone n d sends asked (with_items peer w (Items withdrawal items))
with_items_done n d sends asked peer withdrawal items w h is =
    subst (λ es. IsDone n d sends asked (noted w es)) (sym (all_told (node_word peer) withdrawal w.sockets.names items)) (items_done n d sends asked (node_word peer) withdrawal items 0 w h is)
