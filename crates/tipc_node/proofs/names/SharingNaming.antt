-- A node shares its names with its peers after a call that changes them: each peer in contact was told of the change.
use Rattle.std.proofs.Common.{◌≡◌, ◌≤◌, ◌<◌, ◌==◌, ◌&&◌, ℕ, zero, suc, Bool, true, false, cond, not, List, [], ◌∷◌, ◌++◌, Option, Some, None, filter, find, fold, length, map, if◌then◌else◌, is_some, refl, sym, ap, ◌∙◌, subst, true≢false, arith}
use Rattle.std.specs.Prelude.{count_by, nat_le, nat_lt, option_map, option_to_list, slice_index_or, unwrap_or}
use Rattle.std.specs.List.{list_all, list_any}
use Rattle.std.proofs.lemmas.Bool.{and_from, and_parts}
use Rattle.std.proofs.lemmas.Bool.Decides.{nat_tests}
use Rattle.std.proofs.lemmas.List.Folds.{list_all-append}
use Rattle.std.proofs.lemmas.List.Sums.{fold-append}
use Rattle.tipc_types.specs.Address.{node_word}
use Rattle.tipc_types.specs.Span.{Span}
use Rattle.tipc_types.specs.declared.message_forms.Message.{Message}
use Rattle.tipc_types.specs.declared.node_calls.Answer.{Answer}
use Rattle.tipc_types.specs.declared.node_calls.Answer.TheVariants as answer
use Rattle.tipc_types.specs.declared.node_calls.By.{By}
use Rattle.tipc_types.specs.declared.node_calls.EventNote.{EventNote}
use Rattle.tipc_types.specs.declared.services.Publication.{Publication}
use Rattle.tipc_types.specs.declared.services.Scope.{Scope}
use Rattle.tipc_outside.specs.declared.outgoing.Outgoing.{Outgoing}
use Rattle.tipc_name_dist.specs.Agreeing.{AreOwn}
use Rattle.tipc_name_dist.specs.Items.{telling, tellings}
use Rattle.tipc_name_dist.proofs.Applied.{same_number}
use Rattle.tipc_journal.specs.declared.entries.Entry.{Entry}
use Rattle.tipc_journal.specs.declared.entries.Entry.TheVariants as entry
use Rattle.tipc_journal.specs.Contacts.{contact}
use Rattle.tipc_journal.specs.Names.{live, live_after}
use Rattle.tipc_journal.specs.Streams.{accepted}
use Rattle.tipc_journal.specs.Steps.{step_entries}
use Rattle.tipc_journal.proofs.StreamLaws.{accepted_append}
use Rattle.tipc_sockets.specs.declared.publishing.PublishFault.TheVariants as fault
use Rattle.tipc_sockets.specs.Publishing.{has_key, is_at, own_publication, published_at}
use Rattle.tipc_sockets.specs.SocketTables.{has_port}
use Rattle.tipc_sockets.proofs.Counting.{count_by-one}
use Rattle.tipc_sockets.proofs.Keeping.{not_refused}
use Rattle.tipc_types.proofs.Places.{count_by-kept}
use Rattle.tipc_node.specs.declared.neighbours.Neighbour.{Neighbour}
use Rattle.tipc_node.specs.Nodes.{NodeState, is_met, neighbour_of, shown_contact, step_of}
use Rattle.tipc_node.specs.Sharing.{SharesNames, flow_with}
use Rattle.tipc_name_dist.specs.Told.{HasTold}
use Rattle.tipc_node.specs.Sockets.{closed_work, key_refusal, kept_answer, publication_refusal, published_work, refused_publication, told_closing, told_withdrawal, withdrawal_refusal, withdrawn_entries, withdrawn_work}
use Rattle.tipc_node.specs.Telling.{IsTold}
use Rattle.tipc_node.specs.Turns.{addr_of}
use Rattle.tipc_node.specs.Works.{TellsPeers, Work, peers_in_contact}
use Rattle.tipc_node.proofs.journal.Concluding.{same_turn}
use Rattle.tipc_node.proofs.Places.{is_within}
use Rattle.tipc_node.proofs.names.SharingCalls.{CallShares, IsTurnOf, call_shares}
use Rattle.tipc_node.proofs.names.SharingEntries.{is_beside, is_end_of, keeps_live, live_then, same_live, sockets_live}
use Rattle.tipc_node.proofs.names.SharingFlows.{accepted_in}
use Rattle.tipc_node.proofs.names.SharingPeers.{numbers_at, puts_pass, tells_accepts, told_entries, told_once}
use Rattle.tipc_node.proofs.names.SharingSteps.{IsOwnCall, linked_by}
use Rattle.tipc_sockets.proofs.ToldNames.{AreFound, all_found, found_kept, found_one, own_left, own_more, told_publication, told_withdrawals}

-- ---- the entries of the change itself

abbrev is_naming : Entry → Bool
is_naming (entry.Published p) = true
is_naming (entry.Withdrawn p) = true
is_naming other = false

naming_beside : (b : ℕ) (e : Entry) → is_naming e ≡ true → is_beside b e ≡ true
naming_beside b (entry.Learned p) is = absurd (true≢false (sym is))
naming_beside b (entry.Forgot p) is = absurd (true≢false (sym is))
naming_beside b (entry.ContactDown peer numbers states shown) is = absurd (true≢false (sym is))
naming_beside b other is = refl

all_naming : (b : ℕ) (es : List Entry) → list_all is_naming es ≡ true → list_all (is_beside b) es ≡ true
all_naming b [] named = refl
all_naming b (e ∷ es) named = let both = and_parts (is_naming e) _ named in and_from _ _ (naming_beside b e both.0) (all_naming b es both.1)

-- nothing is accepted by them
naming_accepts : (b : ℕ) (numbers : ℕ × ℕ) (es : List Entry) → list_all is_naming es ≡ true → accepted es (flow_with b numbers) ≡ []
unfolding accepted
naming_accepts b numbers [] named = refl
naming_accepts b numbers (entry.Accepted peer c flow m ∷ es) named = absurd (true≢false (sym named))
naming_accepts b numbers (e ∷ es) named = naming_accepts b numbers es (and_parts (is_naming e) (list_all is_naming es) named).1

-- The node's own publications change by these entries, and messages that tell of it make a peer that agreed agree again.
pub record IsNaming (own : ℕ) (live : List Publication) (es : List Entry) (told : List Message) : Type 0 where
  pub named : list_all is_naming es ≡ true
  pub are : AreOwn own (fold live_after live es)
  pub leads : (ms : List Message) → HasTold own live ms → HasTold own (fold live_after live es) (ms ++ told)

-- ---- the step

-- what each peer was told of it adds no other entries
told_pass : (test : Entry → Bool) (xs : List (Option Neighbour)) (ms : List Message) (peers : List ℕ) → ((peer : ℕ) (c : ℕ × ℕ) (m : Message) → test (accepted_in peer c m) ≡ true) → list_all test (told_entries xs ms peers) ≡ true
unfolding told_entries
told_pass test xs ms [] passes = refl
told_pass test xs ms (peer ∷ peers) passes =
    list_all-append test _ (told_entries xs ms peers) ∙ ap (λ b. b && list_all test (told_entries xs ms peers)) (puts_pass test peer (numbers_at xs peer) ms (passes peer (numbers_at xs peer))) ∙ told_pass test xs ms peers passes

accepted_keeps : (peer : ℕ) (c : ℕ × ℕ) (m : Message) → keeps_live (accepted_in peer c m) ≡ true
unfolding accepted_in
accepted_keeps peer c m = refl

accepted_beside : (b peer : ℕ) (c : ℕ × ℕ) (m : Message) → is_beside b (accepted_in peer c m) ≡ true
unfolding accepted_in
accepted_beside b peer c m = refl

-- in this step all peers in contact were told
naming_call : (n : NodeState) (journal es : List Entry) (told : List Message) → IsTold n → ((b : ℕ) (x : Neighbour) → neighbour_of n b ≡ Some x → b ≤ 32) → SharesNames n → IsNaming n.own (live n.journal) es told
    → live journal ≡ fold live_after (live n.journal) (es ++ told_entries n.neighbours told (peers_in_contact n.neighbours)) → CallShares n journal (es ++ told_entries n.neighbours told (peers_in_contact n.neighbours))
naming_call n journal es told h within shares k is = record { own = subst (AreOwn n.own) (sym lives) k.are; beside = beside; told = telling_of }
  where
    more : List Entry
    more = told_entries n.neighbours told (peers_in_contact n.neighbours)

    lives : live journal ≡ fold live_after (live n.journal) es
    lives = is ∙ fold-append live_after (live n.journal) es more ∙ same_live (fold live_after (live n.journal) es) more (told_pass keeps_live n.neighbours told (peers_in_contact n.neighbours) accepted_keeps)

    beside : (b : ℕ) → (node_word b == n.own) ≡ false → filter (is_end_of b) (es ++ more) ≡ [] → list_all (is_beside b) (es ++ more) ≡ true
    beside b apart none =
        list_all-append (is_beside b) es more ∙ ap (λ t. t && list_all (is_beside b) more) (all_naming b es k.named) ∙ told_pass (is_beside b) n.neighbours told (peers_in_contact n.neighbours) (accepted_beside b)

    telling_of : (b : ℕ) (numbers : ℕ × ℕ) → contact n.journal (addr_of b) ≡ Some numbers → HasTold n.own (live journal) (accepted n.journal (flow_with b numbers) ++ accepted (es ++ more) (flow_with b numbers))
    telling_of b numbers met =
        let l = linked_by n b numbers h met in
        let high = within b l.neighbour l.there in
        let met_there : is_met (slice_index_or n.neighbours b None) ≡ true = ap is_met l.there ∙ l.up in
        let shown : numbers_at n.neighbours b ≡ numbers = ap (λ (o : Option Neighbour). unwrap_or (option_map (λ (x : Neighbour). shown_contact x.pair) o) (0, 0)) l.there ∙ l.shown in
        let once : accepted more (flow_with b numbers) ≡ told = subst (λ c. accepted more (flow_with b c) ≡ told) shown (told_once n.neighbours told b (low b l.neighbour l.there) high met_there) in
        let all : accepted (es ++ more) (flow_with b numbers) ≡ told = accepted_append es more (flow_with b numbers) ∙ ap (λ ms. ms ++ accepted more (flow_with b numbers)) (naming_accepts b numbers es k.named) ∙ once in
        subst (λ ps. HasTold n.own ps (accepted n.journal (flow_with b numbers) ++ accepted (es ++ more) (flow_with b numbers))) (sym lives)
        (subst (λ ms. HasTold n.own (fold live_after (live n.journal) es) (accepted n.journal (flow_with b numbers) ++ ms)) (sym all) (k.leads (accepted n.journal (flow_with b numbers)) (shares.told b numbers met)))
      where
        low : (c : ℕ) (x : Neighbour) → neighbour_of n c ≡ Some x → 1 ≤ c
        low zero x there = absurd (let wrong : None ≡ Some x = sym h.nobody ∙ there in cc)
        low (suc c) x there = omega arith

pub told_shares : (n n' : NodeState) (by : By) (note : EventNote) (w last : Work) (told : List Message) (given : Answer) (inside : List Entry) (frames : List Outgoing) (answered : Answer) → IsTold n → IsTold n' → SharesNames n
    → IsTurnOf n n' by note inside frames answered → IsOwnCall note → length n'.neighbours ≡ 33 → w.neighbours ≡ n.neighbours → IsNaming n.own (live n.journal) w.inside told
    → TellsPeers n.own w told last frames → n'.journal ≡ n.journal ++ step_entries (step_of by note last.inside given) → SharesNames n'
told_shares n n' by note w last told given inside frames answered h h' shares t own wide same named tells recorded_is =
    let accepts = tells_accepts n.own told w (peers_in_contact w.neighbours) last frames tells in
    let es : last.inside ≡ w.inside ++ told_entries n.neighbours told (peers_in_contact n.neighbours) = accepts.inside ∙ ap (λ xs. w.inside ++ told_entries xs told (peers_in_contact xs)) same in
    let s = step_of by note (w.inside ++ told_entries n.neighbours told (peers_in_contact n.neighbours)) given in
    let journal : n'.journal ≡ n.journal ++ step_entries s = recorded_is ∙ ap (λ xs. n.journal ++ step_entries (step_of by note xs given)) es in
    let turn = same_turn n n' [] by note inside s.inside (kept_answer answered) given frames t journal in
    call_shares n n' [] s frames h h' shares turn own (naming_call n n'.journal w.inside told h within shares named (live_then n.journal n'.journal s journal))
  where
    within : (b : ℕ) (x : Neighbour) → neighbour_of n b ≡ Some x → b ≤ 32
    within b x there = case (neighbour_of n' b) refl (t.lasts b (ap is_some there))
      where
        case : (o : Option Neighbour) → neighbour_of n' b ≡ o → is_some (neighbour_of n' b) ≡ true → b ≤ 32
        case None none some = absurd (let wrong : false ≡ true = sym (ap is_some none) ∙ some in cc)
        case (Some y) is some = let inner = is_within n'.neighbours b y is in omega (arith, inner, wide)

-- ---- the calls

-- memory isn't a reason of a refusal
unrefused : (there low held full : Bool) (key : ℕ) → refused_publication (if not there then Some fault.NoSocket else (if low then Some fault.Reserved else (if held then Some (fault.Duplicate key) else (if full then Some fault.Full else None)))) ≡ None
    → (if not there then Some fault.NoSocket else (if low then Some fault.Reserved else (if held then Some (fault.Duplicate key) else (if full then Some fault.Full else None)))) ≡ None
unrefused false low held full key is = absurd cc
unrefused true true held full key is = absurd cc
unrefused true false true full key is = absurd cc
unrefused true false false true key is = absurd cc
unrefused true false false false key is = refl

pub publishing_is : (n : NodeState) (port : ℕ) (range : Span) (scope : Scope) (key : ℕ) → IsTold n → SharesNames n → range.lower ≤ range.upper → publication_refusal n.sockets port range.kind key ≡ None
    → IsNaming n.own (live n.journal) (published_work n port range scope key).inside (telling false (own_publication n.own port range scope key))
publishing_is n port range scope key h shares ordered none =
    let p = own_publication n.own port range scope key in
    let lives = sockets_live n h in
    let free = not_refused n.sockets port range.kind key (unrefused (has_port n.sockets port) (nat_lt range.kind 64) (list_any (has_key key) n.sockets.live) (nat_le 1024 (length n.sockets.live)) key none) in
    let more = ap (λ ps. nat_le 1024 (length ps)) (sym lives) ∙ free.1 in
    let few : length (live n.journal) < 1024 = grind (arith, nat_tests, more) in
    let own = own_more n.own (live n.journal) p shares.own_names (same_number n.own) ordered (ap (list_any (has_key key)) (sym lives) ∙ free.0) few in
    record { named = refl; are = own; leads = λ ms told. told_publication n.own (live n.journal) ms p told own }

-- the publication of a key that isn't refused is there
key_there : (o : Option Publication) → key_refusal o ≡ None → (p : Publication) × (o ≡ Some p)
key_there None is = absurd cc
key_there (Some p) is = (p, refl)

port_open : (b : Bool) (o : Option Answer) → (if b then o else Some answer.NoSocket) ≡ None → o ≡ None
port_open true o is = is
port_open false o is = absurd cc

one_kept : (p : Publication) (key : ℕ) → count_by (has_key key) (p ∷ []) ≤ 1
one_kept p key = by (has_key key p) refl
  where
    by : (b : Bool) → has_key key p ≡ b → count_by (has_key key) (p ∷ []) ≤ 1
    by true is = let one : count_by (has_key key) (p ∷ []) ≡ 1 = count_by-one (has_key key) p ∙ ap (λ (t : Bool). cond t 1 0) is in omega (arith, one)
    by false is = let none : count_by (has_key key) (p ∷ []) ≡ 0 = count_by-one (has_key key) p ∙ ap (λ (t : Bool). cond t 1 0) is in omega (arith, none)

all_withdrawn : (ps : List Publication) → list_all is_naming (map entry.Withdrawn ps) ≡ true
all_withdrawn [] = refl
all_withdrawn (p ∷ ps) = all_withdrawn ps

-- these are withdrawn, one after the other
withdrawing : (own : ℕ) (live ps : List Publication) → AreOwn own live → AreFound live ps → ((key : ℕ) → count_by (has_key key) ps ≤ 1) → IsNaming own live (map entry.Withdrawn ps) (tellings true ps)
withdrawing own live ps are found keys = record {
  named = all_withdrawn ps;
  are = own_left own live ps are;
  leads = λ ms told. told_withdrawals own live ms ps told are found keys;
}

pub withdrawal_is : (n : NodeState) (port key : ℕ) → IsTold n → SharesNames n → withdrawal_refusal n.sockets port key ≡ None
    → IsNaming n.own (live n.journal) (withdrawn_work n port key).inside (told_withdrawal n.sockets port key)
withdrawal_is n port key h shares none =
    let there = key_there (published_at n.sockets port key) (port_open (has_port n.sockets port) (key_refusal (published_at n.sockets port key)) none) in
    let p = there.0 in
    let test : Publication → Bool = λ q. is_at port q && has_key key q in
    let found : find test (live n.journal) ≡ Some p = ap (find test) (sym (sockets_live n h)) ∙ there.1 in
    let own = shares.own_names in
    let one : AreFound (live n.journal) (p ∷ []) = (found_one (live n.journal) test (live n.journal) p (all_found (live n.journal) own.keys) found, tt) in
    subst (λ o. IsNaming n.own (live n.journal) (withdrawn_entries o) (tellings true (option_to_list o))) (sym there.1) (withdrawing n.own (live n.journal) (p ∷ []) own one (one_kept p))

pub closing_is : (n : NodeState) (port : ℕ) → IsTold n → SharesNames n → IsNaming n.own (live n.journal) (closed_work n port).inside (told_closing n.sockets port)
closing_is n port h shares =
    let own = shares.own_names in
    let ps = filter (is_at port) (live n.journal) in
    subst (λ qs. IsNaming n.own (live n.journal) (map entry.Withdrawn (filter (is_at port) qs)) (tellings true (filter (is_at port) qs))) (sym (sockets_live n h))
    (withdrawing n.own (live n.journal) ps own (found_kept (live n.journal) (is_at port) (live n.journal) (all_found (live n.journal) own.keys))
    (λ key. omega (arith, own.keys key, count_by-kept (has_key key) (is_at port) (live n.journal))))
