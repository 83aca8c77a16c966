-- Messages by name: the journal tells of the node after each, and which match it went to.
use Rattle.std.proofs.Common.{◌≡◌, ◌&&◌, ◌||◌, ℕ, Bool, true, false, not, List, [], ◌∷◌, Option, Some, None, Contains, filter, inl, refl, sym, ap, ◌∙◌, subst, true≢false}
use Rattle.std.specs.Prelude.{if◌then◌else◌, slice_get}
use Rattle.std.specs.List.{list_all, list_any}
use Rattle.std.proofs.lemmas.Bool.{and_from, and_parts}
use Rattle.std.proofs.lemmas.List.Elements.{Contains-get_or}
use Rattle.std.proofs.lemmas.List.Folds.{list_all_at}
use Rattle.std.proofs.lemmas.Option.{get_or_from_slice_get, slice_get_within}
use Rattle.tipc_types.specs.declared.identity.Addr.{Addr}
use Rattle.tipc_types.specs.declared.message_forms.Importance.{Importance}
use Rattle.tipc_types.specs.declared.node_calls.Answer.{Answer}
use Rattle.tipc_types.specs.declared.node_calls.Answer.TheVariants as answer
use Rattle.tipc_types.specs.declared.node_calls.By.{By}
use Rattle.tipc_types.specs.declared.node_calls.EventNote.{EventNote}
use Rattle.tipc_types.specs.declared.node_calls.EventNote.TheVariants as event
use Rattle.tipc_types.specs.declared.services.Publication.{Publication}
use Rattle.tipc_outside.specs.declared.outgoing.Outgoing.{Outgoing}
use Rattle.tipc_journal.specs.Dues.{NothingDue}
use Rattle.tipc_journal.specs.Licensed.{IsAnswered, is_reached}
use Rattle.tipc_journal.specs.Matches.{matches}
use Rattle.tipc_journal.specs.Names.{table}
use Rattle.tipc_journal.specs.Refusals.{is_nothing, refusal}
use Rattle.tipc_journal.specs.Steps.{IsInside}
use Rattle.tipc_types.specs.Matching.{covers, preferred}
use Rattle.tipc_types.specs.Tables.{is_of}
use Rattle.tipc_sockets.specs.SocketTables.{has_port}
use Rattle.tipc_sockets.proofs.Closing.{or_parts}
use Rattle.tipc_sockets.proofs.Counting.{counts_none, none_counts}
use Rattle.tipc_node.specs.Calls.{IsChoice, name_plan, sender_refusal}
use Rattle.tipc_node.specs.Messages.{limit_of, named}
use Rattle.tipc_node.specs.Nodes.{NodeState, step_of}
use Rattle.tipc_node.specs.Plans.{GoesItsWay, or_else, way_refusal}
use Rattle.tipc_node.specs.Sockets.{found_at}
use Rattle.tipc_node.specs.Telling.{ArePacked, IsFull, IsTold, is_in_reach}
use Rattle.tipc_node.specs.Works.{Work, addr_of_word, begun}
use Rattle.tipc_node.proofs.journal.Calling.{IsLawful, IsRefusal, IsWell, done_answered, refused_call}
use Rattle.tipc_node.proofs.journal.Concluding.{IsCall, others_kept}
use Rattle.tipc_node.proofs.journal.Noting.{all_kept}
use Rattle.tipc_node.proofs.journal.PortCalls.{sender_is, some_limit}
use Rattle.tipc_node.proofs.journal.Refusing.{none_first, none_other, sender_refused, told_found}
use Rattle.tipc_node.proofs.journal.SendsTold.{WayRefused, crowded, goes_worked, unreached, way_refused}

-- ---- what a name finds

-- what holds of all holds of the one at a place
all_get : (test : Publication → Bool) (ps : List Publication) (k : ℕ) (p : Publication) → slice_get ps k ≡ Some p → list_all test ps ≡ true → test p ≡ true
all_get test ps k p is all = by (test p) refl
  where
    by : (b : Bool) → test p ≡ b → b ≡ true
    by true here = refl
    by false gone = absurd (true≢false (sym all ∙ list_all_at test ps k p (slice_get_within ps k p is) (ap test (get_or_from_slice_get ps k p p is) ∙ gone)))

get_in : (ps : List Publication) (k : ℕ) (p : Publication) → slice_get ps k ≡ Some p → Contains ps p
get_in ps k p is = subst (Contains ps) (get_or_from_slice_get ps k p p is) (Contains-get_or ps k p (slice_get_within ps k p is))

all_preferred : (test : Publication → Bool) (ps qs : List Publication) → list_all test ps ≡ true → list_all test qs ≡ true → list_all test (preferred ps qs) ≡ true
all_preferred test [] qs some all = all
all_preferred test (p ∷ ps) qs some all = some

-- what holds of each name holds of what is found
all_found : (test : Publication → Bool) (n : NodeState) (kind instance : ℕ) → list_all test n.sockets.names ≡ true → list_all test (found_at n kind instance) ≡ true
all_found test n kind instance all =
    let ps = filter (covers kind instance) n.sockets.names in
    let covered = all_kept test test (covers kind instance) (λ p kept is. is) n.sockets.names all in
    all_preferred test (filter (is_of n.own) ps) ps (all_kept test test (is_of n.own) (λ p kept is. is) ps covered) covered

-- ---- an own publication is at a port that is there

none_fails : {X : Type 0} (f : X → Bool) (xs : List X) → list_all f xs ≡ true → list_any (λ x. not (f x)) xs ≡ false
none_fails f [] is = refl
none_fails f (x ∷ xs) is =
    let both = and_parts (f x) (list_all f xs) is in
    ap (λ b. not b || list_any (λ y. not (f y)) xs) both.0 ∙ none_fails f xs both.1

none_passes : {X : Type 0} (f kept : X → Bool) (xs : List X) → list_any (λ x. not (f x)) (filter kept xs) ≡ false → list_all (λ x. not (kept x) || f x) xs ≡ true
none_passes f kept [] is = refl
none_passes {X} f kept (x ∷ xs) is = by (kept x) is (none_passes f kept xs)
  where
    fails : List X → Bool
    fails ys = list_any (λ y. not (f y)) ys

    passes : (b : Bool) → not b ≡ false → b ≡ true
    passes true is = refl
    passes false is = absurd cc

    by : (keeps : Bool) → fails (if keeps then x ∷ filter kept xs else filter kept xs) ≡ false → (fails (filter kept xs) ≡ false → list_all (λ y. not (kept y) || f y) xs ≡ true)
        → ((not keeps || f x) && list_all (λ y. not (kept y) || f y) xs) ≡ true
    by true none later =
        let both = or_parts (not (f x)) (fails (filter kept xs)) none in
        and_from (f x) (list_all (λ y. not (kept y) || f y) xs) (passes (f x) both.0) (later both.1)
    by false none later = later none

own_placed : (n : NodeState) → IsTold n → list_all (λ p. not (is_of n.own p) || has_port n.sockets p.at.port) n.sockets.names ≡ true
own_placed n h =
    let told = h.sockets.told NothingDue in
    let f : Publication → Bool = λ p. has_port n.sockets p.at.port in
    let fails : Publication → Bool = λ p. not (f p) in
    let live = none_counts fails n.sockets.live (none_fails f n.sockets.live told.placed) in
    let mine = ap (λ o. list_any fails (filter (is_of o) n.sockets.names)) (sym told.node) ∙ counts_none fails (filter (is_of n.sockets.own) n.sockets.names) (h.sockets.sound.live fails ∙ live) in
    none_passes f (is_of n.own) n.sockets.names mine

placed_there : (a b : Bool) → (not a || b) ≡ true → a ≡ true → b ≡ true
placed_there true b is here = is
placed_there false b is here = absurd cc

-- ---- a message by name

-- the refusal of a name that finds nothing
abbrev name_answer : NodeState → ℕ → ℕ → Option Answer
name_answer n kind instance = if is_nothing (found_at n kind instance) then Some answer.NoName else None

name_first : (n : NodeState) (port kind instance : ℕ) (importance : Importance) (body : List ℕ) → IsTold n
    → refusal (addr_of_word n.own) n.journal (event.SendName port kind instance importance body) ≡ or_else (sender_refusal n port body) (name_answer n kind instance)
name_first n port kind instance importance body h =
    sender_refused n port body ((is_nothing (matches (addr_of_word n.own) (table n.journal) kind instance), answer.NoName) ∷ []) h
    ∙ ap (λ (ps : List Publication). or_else (sender_refusal n port body) (if is_nothing ps then Some answer.NoName else None)) (sym (told_found n kind instance h))

-- a match that is there is in reach
found_reached : (n : NodeState) (kind instance k : ℕ) (p : Publication) → IsTold n → slice_get (found_at n kind instance) k ≡ Some p → is_reached (addr_of_word n.own) n.journal p.at.node ≡ true
found_reached n kind instance k p h is = all_get (is_in_reach n.own n.journal) (found_at n kind instance) k p is (all_found (is_in_reach n.own n.journal) n kind instance h.sockets.reached)

name_way : (n : NodeState) (by : By) (port kind instance : ℕ) (importance : Importance) (body : List ℕ) (p : Publication) (reason : Answer) → IsTold n → refusal (addr_of_word n.own) n.journal (event.SendName port kind instance importance body) ≡ None
    → is_reached (addr_of_word n.own) n.journal p.at.node ≡ true → WayRefused n p.at.node (limit_of importance) reason → IsCall n by (event.SendName port kind instance importance body) reason (begun n) n.sockets
name_way n by port kind instance importance body p _ h none reached (unreached gone) = absurd (true≢false (sym reached ∙ gone))
name_way n by port kind instance importance body p _ h none reached (crowded in_flight waiting fifty most there) =
    let note = event.SendName port kind instance importance body in
    let reason = answer.Congested in_flight waiting in
    refused_call n by note reason h refl tt (subst (IsAnswered (addr_of_word n.own) n.journal (step_of by note [] reason)) (sym none) (inl (refl, refl))) (fifty, most)

-- a name that finds something
some_found : (ps : List Publication) (k : ℕ) (p : Publication) → slice_get ps k ≡ Some p → (if is_nothing ps then Some answer.NoName else None) ≡ None
some_found [] k p is = absurd cc
some_found (q ∷ qs) k p is = refl

pub name_lawful : (n : NodeState) (by : By) (port kind instance : ℕ) (importance : Importance) (body : List ℕ) (chosen : Option Publication) → IsTold n → ArePacked n → IsChoice (found_at n kind instance) chosen
    → IsLawful n by (event.SendName port kind instance importance body) (name_plan n port kind instance importance body chosen)
name_lawful n by port kind instance importance body chosen h packed choice = of chosen choice
  where
    own : Addr
    own = addr_of_word n.own

    note : EventNote
    note = event.SendName port kind instance importance body

    sender : Option Answer
    sender = sender_refusal n port body

    -- what refuses the sender
    by_sender : (reason : Answer) → sender ≡ Some reason → IsCall n by note reason (begun n) n.sockets
    by_sender reason is =
        let told = name_first n port kind instance importance body h ∙ ap (λ o. or_else o (name_answer n kind instance)) is in
        refused_call n by note reason h refl (sender_is IsRefusal n port body reason tt tt is) (subst (IsAnswered own n.journal (step_of by note [] reason)) (sym told) (refl, refl)) (sender_is (IsFull note) n port body reason tt tt is)

    -- what refuses the name, where the sender isn't refused
    by_name : (ps : List Publication) → sender ≡ None → found_at n kind instance ≡ ps → refusal own n.journal note ≡ (if is_nothing ps then Some answer.NoName else None)
    by_name ps none is = name_first n port kind instance importance body h ∙ ap (λ o. or_else o (name_answer n kind instance)) none ∙ ap (λ (qs : List Publication). if is_nothing qs then Some answer.NoName else None) is

    unnamed : found_at n kind instance ≡ [] → (reason : Answer) (o : Option Answer) → sender ≡ o → or_else o (Some answer.NoName) ≡ Some reason → IsCall n by note reason (begun n) n.sockets
    unnamed empty reason None none some =
        let here : answer.NoName ≡ reason = cc in
        subst (λ why. IsCall n by note why (begun n) n.sockets) here (refused_call n by note answer.NoName h refl tt (subst (IsAnswered own n.journal (step_of by note [] answer.NoName)) (sym (by_name [] none empty)) (refl, refl)) tt)
    unnamed empty reason (Some first) is same = by_sender reason (is ∙ same)

    -- it goes to this match
    named_refusal : (p : Publication) (k : ℕ) → slice_get (found_at n kind instance) k ≡ Some p → sender ≡ None → refusal own n.journal note ≡ None
    named_refusal p k is none = by_name (found_at n kind instance) none refl ∙ some_found (found_at n kind instance) k p is

    refused : (p : Publication) (k : ℕ) → slice_get (found_at n kind instance) k ≡ Some p → (reason : Answer) (o : Option Answer) → sender ≡ o → or_else o (way_refusal n p.at.node (limit_of importance)) ≡ Some reason
        → IsCall n by note reason (begun n) n.sockets
    refused p k is reason None none some =
        name_way n by port kind instance importance body p reason h (named_refusal p k is none) (found_reached n kind instance k p h is) (way_refused n p.at.node (limit_of importance) reason h packed (some_limit importance) some)
    refused p k is reason (Some first) some same = by_sender reason (some ∙ same)

    goes : (p : Publication) (k : ℕ) → slice_get (found_at n kind instance) k ≡ Some p → sender ≡ None → (last : Work) (frames : List Outgoing) → GoesItsWay n.own (begun n) (named n.own port p.at kind instance importance body) last frames
        → IsInside last.inside → IsWell n by note (answer.SentTo p.at) last
    goes p k is none last frames went inner =
        let m = named n.own port p.at kind instance importance body in
        let there = placed_there (is_of n.own p) (has_port n.sockets p.at.port)
        (all_get (λ q. not (is_of n.own q) || has_port n.sockets q.at.port) (found_at n kind instance) k p is (all_found (λ q. not (is_of n.own q) || has_port n.sockets q.at.port) n kind instance (own_placed n h))) in
        let worked = goes_worked n m last frames h refl refl (λ home. there home) went in
        let found = subst (λ ps. Contains ps p) (told_found n kind instance h) (get_in (found_at n kind instance) k p is) in (
          last,
          refl,
          record {
            answered = done_answered own n.journal by note last.inside (answer.SentTo p.at) (named_refusal p k is none) (p, refl, found, found_reached n kind instance k p h is);
            worked = worked;
            kept = others_kept n by note (answer.SentTo p.at) NothingDue _ _ last h inner worked (record { stays = λ ports. refl; none = refl; quiet = λ q. refl; still = refl; nothing = λ number. refl });
            full = tt;
          },
        )

    of : (o : Option Publication) → IsChoice (found_at n kind instance) o → IsLawful n by note (name_plan n port kind instance importance body o)
    of None empty = record {
      refused = λ reason some. unnamed empty reason sender refl some;
      done = λ none. absurd (let wrong : Some answer.NoName ≡ None = none_other sender (Some answer.NoName) none in cc);
    }
    of (Some p) found = record {
      refused = λ reason some. refused p found.0 found.1 reason sender refl some;
      done = λ none last frames went inner. goes p found.0 found.1 (none_first sender (way_refusal n p.at.node (limit_of importance)) none) last frames went inner;
    }
