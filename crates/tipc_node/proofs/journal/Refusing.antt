-- What a node refuses, and for which reason, is what its journal tells.
use Rattle.std.proofs.Common.{◌≡◌, ◌+◌, ◌==◌, ◌||◌, ℕ, Bool, true, false, not, List, [], ◌∷◌, Option, Some, None, filter, length, refl, sym, ap, subst, ◌∙◌, arith}
use Rattle.std.specs.Prelude.{if◌then◌else◌, find, is_some, nat_eq, nat_le, nat_lt, slice_get}
use Rattle.std.specs.List.{list_any}
use Rattle.std.specs.Map.{keys_of}
use Rattle.std.proofs.lemmas.Bool.Decides.{nat_tests}
use Rattle.std.proofs.lemmas.List.{append-nil}
use Rattle.tipc_types.specs.Span.{Span}
use Rattle.tipc_types.specs.declared.node_calls.Answer.{Answer}
use Rattle.tipc_types.specs.declared.node_calls.Answer.TheVariants as answer
use Rattle.tipc_types.specs.declared.node_calls.EventNote.TheVariants as event
use Rattle.tipc_types.specs.declared.node_calls.Subscription.{Subscription}
use Rattle.tipc_types.specs.declared.services.Publication.{Publication}
use Rattle.tipc_types.specs.declared.services.Scope.{Scope}
use Rattle.tipc_journal.specs.declared.entries.Entry.{Entry}
use Rattle.tipc_journal.specs.Dues.{NothingDue}
use Rattle.tipc_journal.specs.Licensed.{events_given}
use Rattle.tipc_journal.specs.Matches.{matches, names}
use Rattle.tipc_journal.specs.Names.{live, table}
use Rattle.tipc_journal.specs.Queues.{sockets}
use Rattle.tipc_journal.specs.Refusals.{first_free_type, first_holding, is_among, is_offer, no_socket, refusal, subscriptions_made, too_long}
use Rattle.tipc_journal.specs.Subscriptions.{subscriptions, transitions}
use Rattle.tipc_topology.specs.Changing.{is_filter, of_number}
use Rattle.tipc_types.specs.Matching.{closest, covers}
use Rattle.tipc_sockets.specs.declared.publishing.PublishFault.TheVariants as fault
use Rattle.tipc_sockets.specs.Publishing.{has_key}
use Rattle.tipc_sockets.specs.SocketTables.{has_port}
use Rattle.tipc_sockets.proofs.Closing.{eq_turned}
use Rattle.tipc_sockets.specs.Watched.{AreWatchersTold}
use Rattle.tipc_sockets.proofs.Keeping.{queue_there}
use Rattle.tipc_sockets.proofs.Subscribers.{count_told, next_told, there_told}
use Rattle.tipc_node.specs.Calls.{sender_refusal}
use Rattle.tipc_node.specs.Nodes.{NodeState}
use Rattle.tipc_node.specs.Plans.{or_else}
use Rattle.tipc_node.specs.Sockets.{first_event, found_at, key_refusal, next_number, number_refusal, port_refusal, publication_refusal, refused_publication, socket_refusal, subscription_refusal, withdrawal_refusal}
use Rattle.tipc_node.specs.Telling.{IsTold}
use Rattle.tipc_node.specs.Works.{addr_of_word}

-- ---- what the journal tells of sockets and names

any_agree : {X : Type 0} (f g : X → Bool) → ((x : X) → f x ≡ g x) → (xs : List X) → list_any f xs ≡ list_any g xs
any_agree f g same [] = refl
any_agree f g same (x ∷ xs) = ap (λ b. b || list_any f xs) (same x) ∙ ap (λ b. g x || b) (any_agree f g same xs)

pub told_port : (n : NodeState) → IsTold n → (port : ℕ) → has_port n.sockets port ≡ is_among (sockets n.journal) port
told_port n h port =
    queue_there port n.sockets.queues
    ∙ any_agree (nat_eq port) (λ q. q == port) (λ q. eq_turned port q) (keys_of n.sockets.queues)
    ∙ ap (λ ps. list_any (λ q. q == port) ps) (h.sockets.sound.queues ∙ (h.sockets.told NothingDue).ports)

pub told_live : (n : NodeState) → IsTold n → n.sockets.live ≡ live n.journal
told_live n h = (h.sockets.told NothingDue).live ∙ ap (λ (es : List Entry). live es) (append-nil n.journal)

pub told_names : (n : NodeState) → IsTold n → n.sockets.names ≡ names n.journal
told_names n h = (h.sockets.told NothingDue).names ∙ ap (λ (es : List Entry). names es) (append-nil n.journal)

-- what a name finds is what the journal finds
pub told_found : (n : NodeState) (kind instance : ℕ) → IsTold n → found_at n kind instance ≡ matches (addr_of_word n.own) (table n.journal) kind instance
told_found n kind instance h = ap (λ ps. closest n.own (filter (covers kind instance) ps)) (told_names n h)

-- ---- sockets

pub socket_refused : (n : NodeState) → IsTold n → socket_refusal n.sockets ≡ refusal (addr_of_word n.own) n.journal event.Socket
socket_refused n h =
    ap (λ (ps : List ℕ). if nat_le 256 (length ps) || nat_le 1048575 n.sockets.ports.made then Some (answer.Full 256) else None) (h.sockets.told NothingDue).ports
    ∙ ap (λ k. if nat_le 256 (length (sockets n.journal)) || nat_le 1048575 k then Some (answer.Full 256) else None) (h.sockets.told NothingDue).made

turned : {A : Type 0} (b : Bool) (x y : A) → (if b then x else y) ≡ (if not b then y else x)
turned true x y = refl
turned false x y = refl

pub port_refused : (n : NodeState) (port : ℕ) → IsTold n → port_refusal n.sockets port ≡ first_holding (no_socket n.journal port ∷ [])
port_refused n port h =
    turned (has_port n.sockets port) None (Some answer.NoSocket) ∙ ap (λ b. if not b then Some answer.NoSocket else None) (told_port n h port)

-- ---- subscriptions

-- the whole steps tell of the subscriptions
watched : (n : NodeState) → IsTold n → AreWatchersTold n.journal (events_given n.journal) n.sockets.watchers
watched n h = subst (λ (es : List Entry). AreWatchersTold es (events_given n.journal) n.sockets.watchers) (append-nil n.journal) (h.sockets.told NothingDue).watchers

pub number_refused : (n : NodeState) (number : ℕ) → IsTold n → number_refusal n.sockets number ≡ first_holding ((not (is_among (subscriptions n.journal) number), answer.Unknown) ∷ [])
number_refused n number h =
    turned (is_some (of_number n.sockets.watchers number)) None (Some answer.Unknown)
    ∙ ap (λ b. if not b then Some answer.Unknown else None) (sym (there_told n.journal (events_given n.journal) n.sockets.watchers number (watched n h)))

pub subscription_refused : (n : NodeState) (asked : Subscription) → IsTold n → subscription_refusal n.sockets asked ≡ refusal (addr_of_word n.own) n.journal (event.Subscribe asked)
subscription_refused n asked h =
    (λ i. if nat_lt asked.upper asked.lower then Some answer.BadRange
    else (if not (is_filter asked) then Some answer.BadFilter
    else (if nat_le 256 (sym (count_told n.journal (events_given n.journal) n.sockets.watchers (watched n h)) i) || nat_le 4294967295 ((watched n h).made i) then Some (answer.Full 256) else None)))

-- the next event is that of the transitions
pub next_is : (n : NodeState) (number : ℕ) → IsTold n → is_some (of_number n.sockets.watchers number) ≡ true
    → slice_get (transitions n.journal number) (length (events_given n.journal number)) ≡ first_event n.sockets number
next_is n number h there = next_told n.journal (events_given n.journal) n.sockets.watchers number (watched n h) there

-- as many were made
pub made_is : (n : NodeState) → IsTold n → next_number n.sockets ≡ subscriptions_made n.journal + 1
made_is n h = ap (λ k. k + 1) (watched n h).made

-- ---- names

-- the refusals of a publication in their order
abbrev publish_answers : (there low live full : Bool) → ℕ → Option Answer
publish_answers there low live full key =
    first_holding ((not there, answer.NoSocket) ∷ (low, answer.Reserved) ∷ (live, answer.Duplicate key) ∷ (full, answer.Full 1024) ∷ [])

publish_in_turn : (there low live full : Bool) (key : ℕ)
    → refused_publication (if not there then Some fault.NoSocket else (if low then Some fault.Reserved else (if live then Some (fault.Duplicate key) else (if full then Some fault.Full else None))))
    ≡ publish_answers there low live full key
publish_in_turn false low live full key = refl
publish_in_turn true true live full key = refl
publish_in_turn true false true full key = refl
publish_in_turn true false false true key = refl
publish_in_turn true false false false key = refl

pub publication_refused : (n : NodeState) (port : ℕ) (range : Span) (scope : Scope) (key : ℕ) → IsTold n
    → publication_refusal n.sockets port range.kind key ≡ refusal (addr_of_word n.own) n.journal (event.Publish port range scope key)
publication_refused n port range scope key h =
    publish_in_turn (has_port n.sockets port) (nat_lt range.kind first_free_type) (list_any (has_key key) n.sockets.live) (nat_le 1024 (length n.sockets.live)) key
    ∙ ap (λ b. publish_answers b (nat_lt range.kind first_free_type) (list_any (has_key key) n.sockets.live) (nat_le 1024 (length n.sockets.live)) key) (told_port n h port)
    ∙ ap (λ (ps : List Publication). publish_answers (is_among (sockets n.journal) port) (nat_lt range.kind first_free_type) (list_any (has_key key) ps) (nat_le 1024 (length ps)) key) (told_live n h)

key_found : (test : Publication → Bool) (ps : List Publication) → key_refusal (find test ps) ≡ (if not (list_any test ps) then Some answer.Unknown else None)
key_found test [] = refl
key_found test (p ∷ ps) = by (test p) (key_found test ps)
  where
    by : (b : Bool) → key_refusal (find test ps) ≡ (if not (list_any test ps) then Some answer.Unknown else None)
        → key_refusal (if b then Some p else find test ps) ≡ (if not (b || list_any test ps) then Some answer.Unknown else None)
    by true later = refl
    by false later = later

abbrev withdraw_answers : (there live : Bool) → Option Answer
withdraw_answers there live = first_holding ((not there, answer.NoSocket) ∷ (not live, answer.Unknown) ∷ [])

withdraw_in_turn : (there live : Bool) → (if there then (if not live then Some answer.Unknown else None) else Some answer.NoSocket) ≡ withdraw_answers there live
withdraw_in_turn true live = refl
withdraw_in_turn false live = refl

pub withdrawal_refused : (n : NodeState) (port key : ℕ) → IsTold n → withdrawal_refusal n.sockets port key ≡ refusal (addr_of_word n.own) n.journal (event.Withdraw port key)
withdrawal_refused n port key h =
    ap (λ (o : Option Answer). if has_port n.sockets port then o else Some answer.NoSocket) (key_found (is_offer port key) n.sockets.live)
    ∙ withdraw_in_turn (has_port n.sockets port) (list_any (is_offer port key) n.sockets.live)
    ∙ ap (λ b. withdraw_answers b (list_any (is_offer port key) n.sockets.live)) (told_port n h port)
    ∙ ap (λ (ps : List Publication). withdraw_answers (is_among (sockets n.journal) port) (list_any (is_offer port key) ps)) (told_live n h)

-- ---- messages

-- where neither reason is there, the first isn't, and the other isn't
pub none_first : (first other : Option Answer) → or_else first other ≡ None → first ≡ None
none_first None other is = refl
none_first (Some reason) other is = absurd cc

pub none_other : (first other : Option Answer) → or_else first other ≡ None → other ≡ None
none_other None other is = is
none_other (Some reason) other is = absurd cc

pub longer : (a b : ℕ) → nat_lt a b ≡ not (nat_le b a)
longer a b = grind (arith, nat_tests)

-- the refusals of the sender come first
pub sender_refused : (n : NodeState) (port : ℕ) (body : List ℕ) (others : List (Bool × Answer)) → IsTold n
    → first_holding (no_socket n.journal port ∷ too_long body ∷ others) ≡ or_else (sender_refusal n port body) (first_holding others)
sender_refused n port body others h =
    ap (λ b. first_holding ((not b, answer.NoSocket) ∷ too_long body ∷ others)) (sym (told_port n h port))
    ∙ ap (λ b. first_holding ((not (has_port n.sockets port), answer.NoSocket) ∷ (b, answer.TooLong (length body)) ∷ others)) (longer 66000 (length body))
    ∙ by (has_port n.sockets port) (nat_le (length body) 66000)
  where
    by : (there short : Bool)
        → first_holding ((not there, answer.NoSocket) ∷ (not short, answer.TooLong (length body)) ∷ others)
        ≡ or_else (if there then (if short then None else Some (answer.TooLong (length body))) else Some answer.NoSocket) (first_holding others)
    by true true = refl
    by true false = refl
    by false short = refl
