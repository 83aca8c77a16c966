-- Publications and their withdrawals: the journal tells of the node after them.
use Rattle.std.proofs.Common.{◌≡◌, ◌&&◌, ◌||◌, ℕ, Bool, true, false, not, List, [], ◌∷◌, ◌++◌, Option, Some, None, filter, fold, is_some, map, refl, sym, ap, ◌∙◌, subst}
use Rattle.std.specs.Prelude.{if◌then◌else◌, find, length, nat_le, nat_lt, option_to_list}
use Rattle.std.specs.List.{list_all, list_any}
use Rattle.std.proofs.lemmas.Bool.{and_parts}
use Rattle.std.proofs.lemmas.List.{append-nil, append_assoc}
use Rattle.tipc_types.specs.Span.{Span}
use Rattle.tipc_types.specs.declared.node_calls.Answer.TheVariants as answer
use Rattle.tipc_types.specs.declared.node_calls.By.{By}
use Rattle.tipc_types.specs.declared.node_calls.EventNote.TheVariants as event
use Rattle.tipc_types.specs.declared.services.Publication.{Publication}
use Rattle.tipc_types.specs.declared.services.Scope.{Scope}
use Rattle.tipc_outside.specs.declared.outgoing.Outgoing.{Outgoing}
use Rattle.tipc_journal.specs.declared.entries.Entry.{Entry}
use Rattle.tipc_journal.specs.declared.entries.Entry.TheVariants as entry
use Rattle.tipc_journal.specs.Contacts.{contact}
use Rattle.tipc_journal.specs.Dues.{NothingDue}
use Rattle.tipc_journal.specs.Refusals.{is_offer, refusal}
use Rattle.tipc_journal.specs.Steps.{IsInside, step_entries}
use Rattle.tipc_journal.proofs.MatchLaws.{live_at_home}
use Rattle.tipc_types.specs.Tables.{is_named, is_of}
use Rattle.tipc_name_dist.specs.Items.{telling}
use Rattle.tipc_sockets.specs.declared.publishing.PublishFault.TheVariants as fault
use Rattle.tipc_sockets.specs.Publishing.{closed, has_key, is_at, own_publication, published, published_at, withdrawn, withdrawn_each}
use Rattle.tipc_sockets.specs.SocketTables.{AreSockets, SocketTable, has_port}
use Rattle.tipc_sockets.specs.Telling.{AreTold, after_entry}
use Rattle.tipc_sockets.proofs.Closing.{closing_removable, none_left_at, offer_removable, removable_found, removable_rest, sockets_withdrawn_each, withdrawn_then_closed}
use Rattle.tipc_topology.specs.Transitions.{AreRemovable}
use Rattle.tipc_sockets.proofs.Entries.{told_entry}
use Rattle.tipc_sockets.proofs.Keeping.{eq_itself}
use Rattle.tipc_sockets.proofs.StepsTold.{told_closed}
use Rattle.tipc_node.specs.Nodes.{NodeState, step_of}
use Rattle.tipc_node.specs.Sockets.{closed_work, published_work, publication_refusal, refused_publication, told_closing, told_withdrawal, withdrawn_entries, withdrawn_work}
use Rattle.tipc_node.specs.Telling.{IsTold, is_in_reach}
use Rattle.tipc_node.specs.Works.{TellsPeers, Work, addr_of_word, begun, peers_in_contact, noted, work_of}
use Rattle.tipc_node.proofs.journal.Calling.{done_answered}
use Rattle.tipc_node.proofs.journal.Concluding.{IsCall, others_kept, same_made}
use Rattle.tipc_node.proofs.journal.Noting.{IsWorked, all_kept, all_put, begun_worked, queues_none, reach_same, reached_same, worked_more}
use Rattle.tipc_node.proofs.journal.PeersTold.{telling_items, tellings_items, tells_each_worked}
use Rattle.tipc_node.proofs.journal.Refusing.{told_live}

-- ---- publications are withdrawn

-- an own publication is withdrawn
withdrawn_worked : (n : NodeState) (sends asks : List Entry) (w : Work) (p : Publication) → IsWorked n NothingDue NothingDue sends asks w → is_of n.own p ≡ true → find (is_named p.at.node.word p.key) w.sockets.names ≡ Some p
    → IsWorked n NothingDue NothingDue sends (asks ++ entry.Withdrawn p ∷ []) (noted w (entry.Withdrawn p ∷ []))
withdrawn_worked n sends asks w p h mine found =
    let e = entry.Withdrawn p in
    let s = withdrawn w.sockets p.at.node.word p.key in
    let after : Work = record w { sockets = s; inside = w.inside ++ e ∷ [] } in
    subst (λ es. IsWorked n NothingDue NothingDue es (asks ++ e ∷ []) after) (append-nil sends)
    (worked_more n NothingDue NothingDue sends asks w e s w.neighbours h (record {
      told = told_entry (addr_of_word n.own) n.journal NothingDue w.inside w.sockets h.told h.sound e mine (λ port. queues_none port _ e h.due) refl found;
      sound = sockets_withdrawn_each w.sockets (p ∷ []) h.sound;
      ports = refl;
      reached = all_kept _ _ _ (λ q kept is. reach_same n.own n.journal w.inside e (λ a z. refl) q ∙ is) w.sockets.names h.reached;
      stands = tt;
      leaves = λ z. refl;
    }))

-- several are, one after the other
all_withdrawn : (n : NodeState) (sends asks : List Entry) (w : Work) (ps : List Publication) → IsWorked n NothingDue NothingDue sends asks w → list_all (is_of n.own) ps ≡ true → AreRemovable w.sockets.names ps
    → IsWorked n NothingDue NothingDue sends (asks ++ map entry.Withdrawn ps) (noted w (map entry.Withdrawn ps))
all_withdrawn n sends asks w [] h mine may =
    subst (λ (xs : List Entry). IsWorked n NothingDue NothingDue sends (asks ++ []) (record w { inside = xs })) (sym (append-nil w.inside))
    (subst (λ es. IsWorked n NothingDue NothingDue sends es w) (sym (append-nil asks)) h)
all_withdrawn n sends asks w (p ∷ ps) h mine may =
    let both = and_parts (is_of n.own p) (list_all (is_of n.own) ps) mine in
    let e = entry.Withdrawn p in
    let rest = all_withdrawn n sends (asks ++ e ∷ []) (noted w (e ∷ [])) ps (withdrawn_worked n sends asks w p h both.0 (removable_found p ps w.sockets.names may)) both.1 (removable_rest p ps w.sockets.names may) in
    let s = fold after_entry (after_entry w.sockets e) (map entry.Withdrawn ps) in
    subst (λ es. IsWorked n NothingDue NothingDue sends es (record w { sockets = s; inside = w.inside ++ (e ∷ map entry.Withdrawn ps) })) (append_assoc asks (e ∷ []) (map entry.Withdrawn ps))
    (subst (λ (xs : List Entry). IsWorked n NothingDue NothingDue sends ((asks ++ e ∷ []) ++ map entry.Withdrawn ps) (record w { sockets = s; inside = xs }))
    (append_assoc w.inside (e ∷ []) (map entry.Withdrawn ps)) rest)

-- the live publications are the node's own
live_mine : (n : NodeState) → IsTold n → list_all (is_of n.own) n.sockets.live ≡ true
live_mine n h =
    let told = h.sockets.told NothingDue in
    ap (list_all (is_of n.own)) told.live ∙ live_at_home (addr_of_word n.own) (n.journal ++ []) told.home

-- ---- a port is closed

folded_each : (s : SocketTable) (ps : List Publication) → fold after_entry s (map entry.Withdrawn ps) ≡ withdrawn_each s ps
folded_each s [] = refl
folded_each s (p ∷ ps) = folded_each (withdrawn s p.at.node.word p.key) ps

pub close_call : (n : NodeState) (by : By) (port : ℕ) (last : Work) (frames : List Outgoing) → IsTold n → refusal (addr_of_word n.own) n.journal (event.Close port) ≡ None
    → TellsPeers n.own (closed_work n port) (told_closing n.sockets port) last frames → IsInside last.inside
    → IsCall n by (event.Close port) answer.Done (work_of last.neighbours (fold after_entry n.sockets (closed_work n port).inside) last.inside) (closed n.sockets port)
close_call n by port last frames h none tells inner =
    let own = addr_of_word n.own in
    let ps = filter (is_at port) n.sockets.live in
    let es = map entry.Withdrawn ps in
    let st = step_of by (event.Close port) last.inside answer.Done in
    let mine : list_all (is_of n.own) ps ≡ true = all_kept (is_of n.own) (is_of n.own) (is_at port) (λ p at is. is) n.sockets.live (live_mine n h) in
    let s = fold after_entry n.sockets es in
    let withdrawn = all_withdrawn n [] [] (begun n) ps (begun_worked n NothingDue h) mine (closing_removable n.sockets h.sockets.sound port) in
    let worked = tells_each_worked n NothingDue [] es s (told_closing n.sockets port) (closed_work n port) (peers_in_contact n.neighbours) last frames withdrawn (tellings_items true ps) tells in
    let each = folded_each n.sockets ps in
    let bare : list_any (is_at port) s.live ≡ false = ap (λ (x : SocketTable). list_any (is_at port) x.live) each ∙ none_left_at n.sockets h.sockets.sound port in
    let same : closed s port ≡ closed n.sockets port = ap (λ x. closed x port) each ∙ withdrawn_then_closed n.sockets h.sockets.sound port in
    let reached = all_kept (is_in_reach n.own (n.journal ++ last.inside)) (is_in_reach n.own (n.journal ++ last.inside)) (λ p. not (is_of s.own p && is_at port p)) (λ p kept is. is) s.names worked.reached in
    record {
      answered = done_answered own n.journal by (event.Close port) last.inside answer.Done none refl;
      worked = subst (λ xs. IsWorked n NothingDue NothingDue [] xs (work_of last.neighbours s last.inside)) (ap (λ (xs : List Publication). map entry.Withdrawn (filter (is_at port) xs)) (told_live n h)) worked;
      kept = record {
        told = λ later. subst (AreTold own (n.journal ++ step_entries st) later []) same (told_closed own n.journal st s later h.whole inner worked.told port worked.sound bare (λ ports. refl) refl (λ other. refl) refl (λ number. refl));
        boot = refl;
        reached = subst (λ (x : SocketTable). list_all (is_in_reach n.own (n.journal ++ last.inside)) x.names ≡ true) same reached;
        unmade = λ later above. same_made n st n.sockets.ports.made n.sockets.ports.boot later h inner refl refl refl above;
      };
      full = tt;
    }

-- ---- a key is withdrawn

entries_of : (o : Option Publication) → withdrawn_entries o ≡ map entry.Withdrawn (option_to_list o)
entries_of None = refl
entries_of (Some p) = refl

found_mine : (own : ℕ) (test : Publication → Bool) (ps : List Publication) → list_all (is_of own) ps ≡ true → list_all (is_of own) (option_to_list (find test ps)) ≡ true
found_mine own test [] is = refl
found_mine own test (p ∷ ps) is =
    let both = and_parts (is_of own p) (list_all (is_of own) ps) is in
    by (test p) both.0 (found_mine own test ps both.1)
  where
    by : (b : Bool) → is_of own p ≡ true → list_all (is_of own) (option_to_list (find test ps)) ≡ true → list_all (is_of own) (option_to_list (if b then Some p else find test ps)) ≡ true
    by true here later = ap (λ c. c && true) here
    by false here later = later

pub withdraw_call : (n : NodeState) (by : By) (port key : ℕ) (last : Work) (frames : List Outgoing) → IsTold n → refusal (addr_of_word n.own) n.journal (event.Withdraw port key) ≡ None
    → TellsPeers n.own (withdrawn_work n port key) (told_withdrawal n.sockets port key) last frames → IsInside last.inside
    → IsCall n by (event.Withdraw port key) answer.Done (work_of last.neighbours (withdrawn_work n port key).sockets last.inside) (withdrawn_work n port key).sockets
withdraw_call n by port key last frames h none tells inner =
    let own = addr_of_word n.own in
    let o = published_at n.sockets port key in
    let w = withdrawn_work n port key in
    let mine = found_mine n.own (is_offer port key) n.sockets.live (live_mine n h) in
    let one = all_withdrawn n [] [] (begun n) (option_to_list o) (begun_worked n NothingDue h) mine (offer_removable n.sockets h.sockets.sound port key) in
    let two = subst (λ es. IsWorked n NothingDue NothingDue [] (map entry.Withdrawn (option_to_list o)) (noted (begun n) es)) (sym (entries_of o)) one in
    let three = tells_each_worked n NothingDue [] (map entry.Withdrawn (option_to_list o)) w.sockets (told_withdrawal n.sockets port key) w (peers_in_contact n.neighbours) last frames two (tellings_items true (option_to_list o)) tells in
    let after = work_of last.neighbours w.sockets last.inside in
    let worked = subst (λ es. IsWorked n NothingDue NothingDue [] es after) (ap (λ (ps : List Publication). map entry.Withdrawn (option_to_list (find (is_offer port key) ps))) (told_live n h)) three in
    record {
      answered = done_answered own n.journal by (event.Withdraw port key) last.inside answer.Done none refl;
      worked = worked;
      kept = others_kept n by (event.Withdraw port key) answer.Done NothingDue _ _ after h inner worked (record { stays = λ ports. refl; none = refl; quiet = λ q. refl; still = refl; nothing = λ number. refl });
      full = tt;
    }

-- ---- a range is published

-- a publication that isn't refused is at a port that is there
pub published_there : (n : NodeState) (port kind key : ℕ) → publication_refusal n.sockets port kind key ≡ None → has_port n.sockets port ≡ true
published_there n port kind key is = by (has_port n.sockets port) (nat_lt kind 64) (list_any (has_key key) n.sockets.live) (nat_le 1024 (length n.sockets.live)) is
  where
    by : (there low used full : Bool)
        → refused_publication (if not there then Some fault.NoSocket else (if low then Some fault.Reserved else (if used then Some (fault.Duplicate key) else (if full then Some fault.Full else None)))) ≡ None
        → there ≡ true
    by true low used full none = refl
    by false low used full none = absurd cc

pub publish_call : (n : NodeState) (by : By) (port : ℕ) (range : Span) (scope : Scope) (key : ℕ) (last : Work) (frames : List Outgoing) → IsTold n
    → refusal (addr_of_word n.own) n.journal (event.Publish port range scope key) ≡ None → has_port n.sockets port ≡ true → AreSockets (published n.sockets (own_publication n.own port range scope key))
    → TellsPeers n.own (published_work n port range scope key) (telling false (own_publication n.own port range scope key)) last frames → IsInside last.inside
    → IsCall n by (event.Publish port range scope key) answer.Done (work_of last.neighbours (published_work n port range scope key).sockets last.inside) (published_work n port range scope key).sockets
publish_call n by port range scope key last frames h none there sound tells inner =
    let own = addr_of_word n.own in
    let p = own_publication n.own port range scope key in
    let e = entry.Published p in
    let w = published_work n port range scope key in
    let mine : is_of n.own p ≡ true = eq_itself n.own in
    let was = begun_worked n NothingDue h in
    let one = worked_more n NothingDue NothingDue [] [] (begun n) e (published n.sockets p) n.neighbours was (record {
      told = told_entry own n.journal NothingDue [] n.sockets was.told was.sound e mine (λ port. queues_none port _ e was.due) there tt;
      sound = sound;
      ports = refl;
      reached = all_put (is_in_reach n.own (n.journal ++ e ∷ [])) p (ap (λ b. b || is_some (contact (n.journal ++ e ∷ []) own)) mine) n.sockets.names (reached_same n.own n.journal [] e n.sockets.names (λ a z. refl) was.reached);
      stands = tt;
      leaves = λ z. refl;
    }) in
    let worked = tells_each_worked n NothingDue [] (e ∷ []) w.sockets (telling false p) w (peers_in_contact n.neighbours) last frames one (telling_items false p) tells in
    let after = work_of last.neighbours w.sockets last.inside in
    record {
      answered = done_answered own n.journal by (event.Publish port range scope key) last.inside answer.Done none refl;
      worked = worked;
      kept = others_kept n by (event.Publish port range scope key) answer.Done NothingDue _ _ after h inner worked (record { stays = λ ports. refl; none = refl; quiet = λ q. refl; still = refl; nothing = λ number. refl });
      full = tt;
    }
