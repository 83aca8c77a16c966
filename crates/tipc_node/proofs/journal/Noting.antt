-- A node's work on a step tells of the sockets, as the entries so far do; and what each entry that is noted changes.
use Rattle.std.proofs.Common.{◌≡◌, ◌==◌, ◌&&◌, ◌||◌, ℕ, Bool, true, false, not, cond, List, [], ◌∷◌, ◌++◌, Option, Some, None, filter, fold, is_some, map, refl, sym, ap, ◌∙◌, subst}
use Rattle.std.specs.Prelude.{if◌then◌else◌}
use Rattle.std.specs.List.{list_all}
use Rattle.std.proofs.lemmas.Bool.{and_from, and_parts}
use Rattle.std.proofs.lemmas.List.{append-nil, append_assoc}
use Rattle.std.proofs.lemmas.List.Elements.{filter-append}
use Rattle.tipc_types.specs.declared.identity.Addr.{Addr}
use Rattle.tipc_types.specs.declared.message_forms.Flow.{Flow}
use Rattle.tipc_types.specs.declared.message_forms.Message.{Message}
use Rattle.tipc_types.specs.declared.services.Publication.{Publication}
use Rattle.tipc_journal.specs.declared.entries.Entry.{Entry}
use Rattle.tipc_journal.specs.declared.entries.Entry.TheVariants as entry
use Rattle.tipc_journal.specs.Contacts.{contact, contact_after}
use Rattle.tipc_journal.specs.Dues.{Due, NothingDue, due_after, due_behind, due_of_delivered}
use Rattle.tipc_journal.specs.Fates.{AllMayStand, MayStand, scene_at}
use Rattle.tipc_journal.specs.Licensed.{is_asked_for, is_send, sends_in}
use Rattle.tipc_journal.specs.Queues.{queued_by}
use Rattle.tipc_journal.proofs.DueLaws.{due_behind_more, due_behind_nil}
use Rattle.tipc_journal.proofs.FateLaws.{AllMayStand_more, AllMayStand_nil}
use Rattle.tipc_journal.proofs.Insides.{contact_inside}
use Rattle.tipc_journal.proofs.LicenceLaws.{sends_in_more, sends_in_nil}
use Rattle.tipc_types.specs.Tables.{is_of, put, stands_before, without_node}
use Rattle.tipc_name_table.proofs.TableLaws.{table_kept}
use Rattle.tipc_sockets.specs.SocketTables.{AreSockets, SocketTable}
use Rattle.tipc_sockets.specs.Publishing.{purged}
use Rattle.tipc_sockets.specs.Telling.{AreTold, after_entry}
use Rattle.tipc_sockets.proofs.Closing.{eq_turned}
use Rattle.tipc_sockets.proofs.Entries.{told_entry}
use Rattle.tipc_sockets.proofs.FatesTold.{list_all_agree}
use Rattle.tipc_topology.specs.Changing.{ended_at}
use Rattle.tipc_sockets.proofs.Keeping.{other_watchers, sockets_kept}
use Rattle.tipc_node.specs.declared.neighbours.Neighbour.{Neighbour}
use Rattle.tipc_node.specs.Nodes.{NodeState}
use Rattle.tipc_node.specs.Telling.{IsTold, is_in_reach}
use Rattle.tipc_node.specs.Works.{Work, addr_of_word, begun, noted}
use Rattle.tipc_pair.proofs.acts.Walks.{tested}

-- ---- the work so far

-- In a step behind the node's journal, at whose beginning d was due, the entries so far tell what the sockets hold, each may stand where it
-- stands, and each name is in reach. So much is due now, and these were sent and asked for.
pub record IsWorked (n : NodeState) (d now : Due) (sends asked : List Entry) (w : Work) : Type 0 where
  pub told : AreTold (addr_of_word n.own) n.journal d w.inside w.sockets
  pub sound : AreSockets w.sockets
  pub ports : w.sockets.ports ≡ n.sockets.ports
  pub reached : list_all (is_in_reach n.own (n.journal ++ w.inside)) w.sockets.names ≡ true
  pub stands : AllMayStand (addr_of_word n.own) n.journal d w.inside
  pub due : due_behind (addr_of_word n.own) d w.inside ≡ now
  pub sends_are : sends_in (addr_of_word n.own) d w.inside ≡ sends
  pub asked_are : filter is_asked_for w.inside ≡ asked
  -- there is no contact with the node itself
  pub alone : contact (n.journal ++ w.inside) (addr_of_word n.own) ≡ None

-- at the beginning
pub begun_worked : (n : NodeState) (d : Due) → IsTold n → IsWorked n d d [] [] (begun n)
begun_worked n d h = record {
  told = h.sockets.told d;
  sound = h.sockets.sound;
  ports = refl;
  reached = ap (λ (es : List Entry). list_all (is_in_reach n.own es) n.sockets.names) (append-nil n.journal) ∙ h.sockets.reached;
  stands = AllMayStand_nil (addr_of_word n.own) n.journal d;
  due = due_behind_nil (addr_of_word n.own) d;
  sends_are = sends_in_nil (addr_of_word n.own) d;
  asked_are = refl;
  alone = ap (λ es. contact es (addr_of_word n.own)) (append-nil n.journal) ∙ h.alone;
}

-- the entry, where it is a send and d is due
abbrev pub sent_by : Due → Entry → List Entry
sent_by d e = cond (is_send d e) (e ∷ []) []

-- what one more entry makes of it
pub record IsNext (n : NodeState) (d now : Due) (w : Work) (e : Entry) (s : SocketTable) : Type 0 where
  pub told : AreTold (addr_of_word n.own) n.journal d (w.inside ++ e ∷ []) s
  pub sound : AreSockets s
  pub ports : s.ports ≡ w.sockets.ports
  pub reached : list_all (is_in_reach n.own (n.journal ++ (w.inside ++ e ∷ []))) s.names ≡ true
  pub stands : MayStand (scene_at (addr_of_word n.own) n.journal d w.inside) now e
  pub leaves : (z : Option (ℕ × ℕ)) → contact_after (addr_of_word n.own) z e ≡ z

pub worked_more : (n : NodeState) (d now : Due) (sends asked : List Entry) (w : Work) (e : Entry) (s : SocketTable) (xs : List (Option Neighbour)) → IsWorked n d now sends asked w → IsNext n d now w e s
    → IsWorked n d (due_after (addr_of_word n.own) now e) (sends ++ sent_by now e) (asked ++ filter is_asked_for (e ∷ [])) (record w { neighbours = xs; sockets = s; inside = w.inside ++ e ∷ [] })
worked_more n d now sends asked w e s xs h k =
    let own = addr_of_word n.own in record {
      told = k.told;
      sound = k.sound;
      ports = k.ports ∙ h.ports;
      reached = k.reached;
      stands = AllMayStand_more own n.journal d w.inside e h.stands (subst (λ x. MayStand (scene_at own n.journal d w.inside) x e) (sym h.due) k.stands);
      due = due_behind_more own d w.inside e ∙ ap (λ x. due_after own x e) h.due;
      sends_are = sends_in_more own d w.inside e ∙ ap (λ x. sends_in own d w.inside ++ sent_by x e) h.due ∙ ap (λ es. es ++ sent_by now e) h.sends_are;
      asked_are = filter-append is_asked_for w.inside (e ∷ []) ∙ ap (λ es. es ++ filter is_asked_for (e ∷ [])) h.asked_are;
      alone = contact_inside n.journal w.inside e own ∙ k.leaves (contact (n.journal ++ w.inside) own) ∙ h.alone;
    }

-- one that is no send and isn't asked for
pub worked_on : (n : NodeState) (d now next : Due) (sends asked : List Entry) (w : Work) (e : Entry) (s : SocketTable) (xs : List (Option Neighbour)) → IsWorked n d now sends asked w → IsNext n d now w e s
    → due_after (addr_of_word n.own) now e ≡ next → sent_by now e ≡ [] → filter is_asked_for (e ∷ []) ≡ []
    → IsWorked n d next sends asked (record w { neighbours = xs; sockets = s; inside = w.inside ++ e ∷ [] })
worked_on n d now next sends asked w e s xs h k due unsent unasked =
    let after : Work = record w { neighbours = xs; sockets = s; inside = w.inside ++ e ∷ [] } in
    let one = worked_more n d now sends asked w e s xs h k in
    let two = subst (λ x. IsWorked n d x (sends ++ sent_by now e) (asked ++ filter is_asked_for (e ∷ [])) after) due one in
    let three = subst (λ es. IsWorked n d next es (asked ++ filter is_asked_for (e ∷ [])) after) (ap (λ es. sends ++ es) unsent ∙ append-nil sends) two in
    subst (λ es. IsWorked n d next sends es after) (ap (λ es. asked ++ es) unasked ∙ append-nil asked) three

-- other neighbours
pub worked_beside : (n : NodeState) (d now : Due) (sends asked : List Entry) (w : Work) (xs : List (Option Neighbour)) → IsWorked n d now sends asked w
    → IsWorked n d now sends asked (record w { neighbours = xs })
worked_beside n d now sends asked w xs h = record {
  told = h.told;
  sound = h.sound;
  ports = h.ports;
  reached = h.reached;
  stands = h.stands;
  due = h.due;
  sends_are = h.sends_are;
  asked_are = h.asked_are;
  alone = h.alone;
}

-- ---- names in reach

pub all_from : {X : Type 0} (f g : X → Bool) → ((x : X) → f x ≡ true → g x ≡ true) → (xs : List X) → list_all f xs ≡ true → list_all g xs ≡ true
all_from f g step [] is = refl
all_from f g step (x ∷ xs) is =
    let both = and_parts (f x) (list_all f xs) is in
    and_from (g x) (list_all g xs) (step x both.0) (all_from f g step xs both.1)

-- of those that pass a test
pub all_kept : {X : Type 0} (f g kept : X → Bool) → ((x : X) → kept x ≡ true → f x ≡ true → g x ≡ true) → (xs : List X) → list_all f xs ≡ true → list_all g (filter kept xs) ≡ true
all_kept f g kept step [] is = refl
all_kept f g kept step (x ∷ xs) is =
    let both = and_parts (f x) (list_all f xs) is in
    let rest = all_kept f g kept step xs both.1 in
    tested (λ ys. list_all g ys ≡ true) (kept x) (x ∷ filter kept xs) (filter kept xs) (λ passes. and_from (g x) (list_all g (filter kept xs)) (step x passes both.0) rest) (λ fails. rest)

-- and of one more in its place
pub all_put : (g : Publication → Bool) (p : Publication) → g p ≡ true → (ps : List Publication) → list_all g ps ≡ true → list_all g (put p ps) ≡ true
all_put g p here [] is = ap (λ b. b && true) here
all_put g p here (q ∷ qs) is =
    let both = and_parts (g q) (list_all g qs) is in
    tested (λ ys. list_all g ys ≡ true) (stands_before q p) (q ∷ put p qs) (p ∷ q ∷ qs) (λ _. and_from (g q) (list_all g (put p qs)) both.0 (all_put g p here qs both.1)) (λ _. and_from (g p) (list_all g (q ∷ qs)) here is)

-- an entry that leaves each contact leaves each name in reach
pub reach_same : (own : ℕ) (journal front : List Entry) (e : Entry) → ((a : Addr) (z : Option (ℕ × ℕ)) → contact_after a z e ≡ z) → (p : Publication)
    → is_in_reach own (journal ++ (front ++ e ∷ [])) p ≡ is_in_reach own (journal ++ front) p
reach_same own journal front e leaves p =
    ap (λ (c : Option (ℕ × ℕ)). (p.at.node.word == own) || is_some c) (contact_inside journal front e p.at.node ∙ leaves p.at.node (contact (journal ++ front) p.at.node))

pub reached_same : (own : ℕ) (journal front : List Entry) (e : Entry) (ps : List Publication) → ((a : Addr) (z : Option (ℕ × ℕ)) → contact_after a z e ≡ z)
    → list_all (is_in_reach own (journal ++ front)) ps ≡ true → list_all (is_in_reach own (journal ++ (front ++ e ∷ []))) ps ≡ true
reached_same own journal front e ps leaves is = list_all_agree _ _ (reach_same own journal front e leaves) ps ∙ is

or_some : (b c : Bool) (x y : Option (ℕ × ℕ)) → (is_some x ≡ true → is_some y ≡ true) → (b || is_some x) ≡ true → (b || is_some y) ≡ true
or_some true c x y step is = refl
or_some false c x y step is = step is

-- a contact that begins leaves it too
reach_up : (own : ℕ) (journal front : List Entry) (peer : Addr) (numbers : ℕ × ℕ) (p : Publication) → is_in_reach own (journal ++ front) p ≡ true
    → is_in_reach own (journal ++ (front ++ entry.ContactUp peer numbers ∷ [])) p ≡ true
reach_up own journal front peer numbers p is =
    or_some (p.at.node.word == own) true (contact (journal ++ front) p.at.node) (contact (journal ++ (front ++ entry.ContactUp peer numbers ∷ [])) p.at.node)
    (λ some. ap is_some (contact_inside journal front (entry.ContactUp peer numbers) p.at.node)
    ∙ tested (λ (c : Option (ℕ × ℕ)). is_some c ≡ true) (peer.word == p.at.node.word) (Some numbers) (contact (journal ++ front) p.at.node) (λ _. refl) (λ _. some)) is

-- one that ends leaves those of other nodes
reach_down : (own : ℕ) (journal front : List Entry) (e : Entry) (word : ℕ) → ((a : Addr) (z : Option (ℕ × ℕ)) → contact_after a z e ≡ (if word == a.word then None else z)) → (p : Publication)
    → not (is_of word p) ≡ true → is_in_reach own (journal ++ front) p ≡ true → is_in_reach own (journal ++ (front ++ e ∷ [])) p ≡ true
reach_down own journal front e word ends p other is =
    let here : (word == p.at.node.word) ≡ false = eq_turned word p.at.node.word ∙ not_so (is_of word p) other in
    ap (λ (c : Option (ℕ × ℕ)). (p.at.node.word == own) || is_some c)
    (contact_inside journal front e p.at.node ∙ ends p.at.node (contact (journal ++ front) p.at.node) ∙ ap (λ (b : Bool). if b then None else contact (journal ++ front) p.at.node) here) ∙ is
  where
    not_so : (b : Bool) → not b ≡ true → b ≡ false
    not_so true h = absurd cc
    not_so false h = refl

-- ---- entries of a link and a contact

purged_sockets : (s : SocketTable) (node : ℕ) → AreSockets s → AreSockets (purged s node)
purged_sockets s node h = sockets_kept s (λ p. not (is_of node p)) (without_node node s.names) (without_node node s.live) (purged s node).watchers h (table_kept (λ p. not (is_of node p)) s.names h.names) refl refl

-- an entry that tells of the link to another node, or of the contact with it, or that something was dropped
abbrev pub IsQuiet : ℕ → Entry → Type 0
IsQuiet own (entry.LinkUp peer bearer mine theirs) = Unit {0}
IsQuiet own (entry.LinkDown peer bearer because shown) = Unit {0}
IsQuiet own (entry.ContactUp peer numbers) = (peer.word == own) ≡ false
IsQuiet own (entry.ContactDown peer numbers states shown) = (peer.word == own) ≡ false
IsQuiet own (entry.Dropped reason) = Unit {0}
IsQuiet own other = ⊥

abbrev pub AreQuiet : ℕ → List Entry → Type 0
AreQuiet own [] = Unit {0}
AreQuiet own (e ∷ es) = IsQuiet own e × AreQuiet own es

-- where nothing is due nothing is queued
pub queues_none : (port : ℕ) (x : Due) (e : Entry) → x ≡ NothingDue → queued_by port x e ≡ []
queues_none port x e is = ap (λ y. queued_by port y e) is

quiet_next : (n : NodeState) (d : Due) (sends asked : List Entry) (w : Work) (e : Entry) → IsWorked n d NothingDue sends asked w → IsQuiet n.own e → IsNext n d NothingDue w e (after_entry w.sockets e)
quiet_next n d sends asked w (entry.LinkUp peer bearer mine theirs) h quiet = record {
  told = told_entry (addr_of_word n.own) n.journal d w.inside w.sockets h.told h.sound (entry.LinkUp peer bearer mine theirs) refl (λ port. queues_none port _ (entry.LinkUp peer bearer mine theirs) h.due) refl tt;
  sound = h.sound;
  ports = refl;
  reached = reached_same n.own n.journal w.inside (entry.LinkUp peer bearer mine theirs) w.sockets.names (λ a z. refl) h.reached;
  stands = tt;
  leaves = λ z. refl;
}
quiet_next n d sends asked w (entry.LinkDown peer bearer because shown) h quiet = record {
  told = told_entry (addr_of_word n.own) n.journal d w.inside w.sockets h.told h.sound (entry.LinkDown peer bearer because shown) refl (λ port. queues_none port _ (entry.LinkDown peer bearer because shown) h.due) refl tt;
  sound = h.sound;
  ports = refl;
  reached = reached_same n.own n.journal w.inside (entry.LinkDown peer bearer because shown) w.sockets.names (λ a z. refl) h.reached;
  stands = tt;
  leaves = λ z. refl;
}
quiet_next n d sends asked w (entry.Dropped reason) h quiet = record {
  told = told_entry (addr_of_word n.own) n.journal d w.inside w.sockets h.told h.sound (entry.Dropped reason) refl (λ port. queues_none port _ (entry.Dropped reason) h.due) refl tt;
  sound = h.sound;
  ports = refl;
  reached = reached_same n.own n.journal w.inside (entry.Dropped reason) w.sockets.names (λ a z. refl) h.reached;
  stands = tt;
  leaves = λ z. refl;
}
quiet_next n d sends asked w (entry.ContactUp peer numbers) h quiet = record {
  told = told_entry (addr_of_word n.own) n.journal d w.inside w.sockets h.told h.sound (entry.ContactUp peer numbers) refl (λ port. queues_none port _ (entry.ContactUp peer numbers) h.due) refl tt;
  sound = h.sound;
  ports = refl;
  reached = all_from _ _ (reach_up n.own n.journal w.inside peer numbers) w.sockets.names h.reached;
  stands = tt;
  leaves = λ z. ap (λ b. if b then Some numbers else z) quiet;
}
quiet_next n d sends asked w (entry.ContactDown peer numbers states shown) h quiet = record {
  told = told_entry (addr_of_word n.own) n.journal d w.inside w.sockets h.told h.sound (entry.ContactDown peer numbers states shown) (ap not quiet) (λ port. queues_none port _ (entry.ContactDown peer numbers states shown) h.due) refl tt;
  sound = purged_sockets w.sockets peer.word h.sound;
  ports = refl;
  reached = all_kept _ _ _ (reach_down n.own n.journal w.inside (entry.ContactDown peer numbers states shown) peer.word (λ a z. refl)) w.sockets.names h.reached;
  stands = tt;
  leaves = λ z. ap (λ b. if b then None else z) quiet;
}
quiet_next n d sends asked w e h quiet = absurd quiet

quiet_due : (n : NodeState) (e : Entry) → IsQuiet n.own e → (due_after (addr_of_word n.own) NothingDue e ≡ NothingDue) × (sent_by NothingDue e ≡ []) × (filter is_asked_for (e ∷ []) ≡ [])
quiet_due n (entry.LinkUp peer bearer mine theirs) quiet = (refl, refl, refl)
quiet_due n (entry.LinkDown peer bearer because shown) quiet = (refl, refl, refl)
quiet_due n (entry.Dropped reason) quiet = (refl, refl, refl)
quiet_due n (entry.ContactUp peer numbers) quiet = (refl, refl, refl)
quiet_due n (entry.ContactDown peer numbers states shown) quiet = (refl, refl, refl)
quiet_due n e quiet = absurd quiet

pub quiet_worked : (n : NodeState) (d : Due) (sends asked : List Entry) (w : Work) (e : Entry) → IsWorked n d NothingDue sends asked w → IsQuiet n.own e → IsWorked n d NothingDue sends asked (noted w (e ∷ []))
quiet_worked n d sends asked w e h quiet =
    let is = quiet_due n e quiet in
    worked_on n d NothingDue NothingDue sends asked w e (after_entry w.sockets e) w.neighbours h (quiet_next n d sends asked w e h quiet) is.0 is.1 is.2

pub all_noted : (n : NodeState) (d : Due) (sends asked : List Entry) (w : Work) (es : List Entry) → IsWorked n d NothingDue sends asked w → AreQuiet n.own es → IsWorked n d NothingDue sends asked (noted w es)
all_noted n d sends asked w [] h quiet = subst (λ (xs : List Entry). IsWorked n d NothingDue sends asked (record w { inside = xs })) (sym (append-nil w.inside)) h
all_noted n d sends asked w (e ∷ es) h quiet =
    subst (λ (xs : List Entry). IsWorked n d NothingDue sends asked (record w { sockets = fold after_entry (after_entry w.sockets e) es; inside = xs })) (append_assoc w.inside (e ∷ []) es)
    (all_noted n d sends asked (noted w (e ∷ [])) es (quiet_worked n d sends asked w e h quiet.0) quiet.1)

-- ---- subscriptions time out

timeout_worked : (n : NodeState) (d : Due) (sends asked : List Entry) (w : Work) (number : ℕ) → IsWorked n d NothingDue sends asked w
    → IsWorked n d NothingDue sends (asked ++ entry.TimedOut number ∷ []) (noted w (entry.TimedOut number ∷ []))
timeout_worked n d sends asked w number h =
    let e = entry.TimedOut number in
    let s = after_entry w.sockets e in
    subst (λ es. IsWorked n d NothingDue es (asked ++ e ∷ []) (noted w (e ∷ []))) (append-nil sends) (worked_more n d NothingDue sends asked w e s w.neighbours h (record {
      told = told_entry (addr_of_word n.own) n.journal d w.inside w.sockets h.told h.sound e refl (λ port. queues_none port _ e h.due) refl tt;
      sound = other_watchers w.sockets (ended_at number w.sockets.watchers) h.sound;
      ports = refl;
      reached = reached_same n.own n.journal w.inside e w.sockets.names (λ a z. refl) h.reached;
      stands = tt;
      leaves = λ z. refl;
    }))

-- each of the timeouts is asked for
pub all_timed_out : (n : NodeState) (d : Due) (sends asked : List Entry) (w : Work) (numbers : List ℕ) → IsWorked n d NothingDue sends asked w
    → IsWorked n d NothingDue sends (asked ++ map entry.TimedOut numbers) (noted w (map entry.TimedOut numbers))
all_timed_out n d sends asked w [] h =
    subst (λ (xs : List Entry). IsWorked n d NothingDue sends xs (noted w [])) (sym (append-nil asked))
    (subst (λ (xs : List Entry). IsWorked n d NothingDue sends asked (record w { inside = xs })) (sym (append-nil w.inside)) h)
all_timed_out n d sends asked w (number ∷ numbers) h =
    let e = entry.TimedOut number in
    let es = map entry.TimedOut numbers in
    subst (λ (xs : List Entry). IsWorked n d NothingDue sends xs (noted w (e ∷ es))) (append_assoc asked (e ∷ []) es)
    (subst (λ (xs : List Entry). IsWorked n d NothingDue sends ((asked ++ e ∷ []) ++ es) (record w { sockets = fold after_entry (after_entry w.sockets e) es; inside = xs })) (append_assoc w.inside (e ∷ []) es)
    (all_timed_out n d sends (asked ++ e ∷ []) (noted w (e ∷ [])) numbers (timeout_worked n d sends asked w number h)))

-- ---- a message is delivered

pub delivered_worked : (n : NodeState) (d : Due) (sends asked : List Entry) (w : Work) (peer : Addr) (numbers : ℕ × ℕ) (flow : Flow) (m : Message) (by : List ℕ) → IsWorked n d NothingDue sends asked w
    → IsWorked n d (due_of_delivered m) sends asked (noted w (entry.Delivered peer numbers flow m by ∷ []))
delivered_worked n d sends asked w peer numbers flow m by h =
    let e = entry.Delivered peer numbers flow m by in
    worked_on n d NothingDue (due_of_delivered m) sends asked w e w.sockets w.neighbours h (record {
      told = told_entry (addr_of_word n.own) n.journal d w.inside w.sockets h.told h.sound e refl (λ port. queues_none port _ e h.due) refl tt;
      sound = h.sound;
      ports = refl;
      reached = reached_same n.own n.journal w.inside e w.sockets.names (λ a z. refl) h.reached;
      stands = tt;
      leaves = λ z. refl;
    }) refl refl refl
