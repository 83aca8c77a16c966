-- A multicast: the journal tells why it is refused, and of the node after it. It has its fate, and is accepted for each peer in contact.
use Rattle.std.proofs.Common.{◌≡◌, ◌≤◌, ℕ, Bool, true, false, not, List, [], ◌∷◌, ◌++◌, append-nil, append_assoc, Option, Some, None, length, inl, inr, refl, sym, ap, ◌∙◌, subst, arith}
use Rattle.std.specs.Prelude.{◌⊎◌, filter, if◌then◌else◌, map, nat_le, nat_lt, option_map, option_to_list}
use Rattle.std.specs.List.{All, flat_map, range_with_len}
use Rattle.std.proofs.lemmas.Bool.Decides.{nat_tests}
use Rattle.std.proofs.lemmas.List.Elements.{All-append, All-cons, All-nil, All-tail}
use Rattle.tipc_types.specs.Address.{node_word}
use Rattle.tipc_types.specs.Limits.{window_size}
use Rattle.tipc_types.specs.Matching.{overlaps}
use Rattle.tipc_types.specs.Span.{Span}
use Rattle.tipc_types.specs.declared.identity.Addr.{Addr}
use Rattle.tipc_types.specs.declared.message_forms.Flow.TheVariants.{Broadcast}
use Rattle.tipc_types.specs.declared.message_forms.Importance.{Importance}
use Rattle.tipc_types.specs.declared.message_forms.Message.{Message}
use Rattle.tipc_types.specs.declared.message_forms.Message.TheVariants.{Payload, Items}
use Rattle.tipc_types.specs.declared.node_calls.Answer.{Answer}
use Rattle.tipc_types.specs.declared.node_calls.Answer.TheVariants as answer
use Rattle.tipc_types.specs.declared.node_calls.By.{By}
use Rattle.tipc_types.specs.declared.node_calls.EventNote.{EventNote}
use Rattle.tipc_types.specs.declared.node_calls.EventNote.TheVariants as event
use Rattle.tipc_types.specs.declared.services.Publication.{Publication}
use Rattle.tipc_broadcast.specs.Casting.{IsPackedCast}
use Rattle.tipc_journal.specs.declared.entries.Entry.{Entry}
use Rattle.tipc_journal.specs.declared.entries.Entry.TheVariants as entry
use Rattle.tipc_journal.specs.Dues.{Due, FateDue, NothingDue}
use Rattle.tipc_journal.specs.Licensed.{IsAnswered, accepted_for, accepted_for_all, accepted_of, cluster, has_peers}
use Rattle.tipc_journal.specs.Matches.{overlap}
use Rattle.tipc_journal.specs.Names.{table}
use Rattle.tipc_journal.specs.Refusals.{first_holding, is_nothing, refusal}
use Rattle.tipc_journal.specs.Steps.{IsInside}
use Rattle.tipc_send_window.specs.Sending.{Sending}
use Rattle.tipc_sockets.specs.Telling.{is_payload}
use Rattle.tipc_node.specs.declared.neighbours.Neighbour.{Neighbour}
use Rattle.tipc_node.specs.Calls.{sender_refusal}
use Rattle.tipc_node.specs.Messages.{limit_of, multicast}
use Rattle.tipc_node.specs.Multicasts.{cast_entries, cast_entry, cast_refusal, contact_kept, entries_where, found_refusal, goes_out, in_range, multicast_dispatch, multicast_plan, multicast_work, range_refusal, spread_refusal, with_entries}
use Rattle.tipc_node.specs.Nodes.{NodeState, neighbour_of, step_of}
use Rattle.tipc_node.specs.Plans.{or_else}
use Rattle.tipc_node.specs.Telling.{IsFull, IsTold}
use Rattle.tipc_node.specs.Works.{Work, addr_of_word, begun, fate_of, fated}
use Rattle.tipc_node.proofs.journal.Calling.{EndsWell, IsLawful, IsRefusal, IsWell, done_answered, refused_call}
use Rattle.tipc_node.proofs.journal.Concluding.{IsCall, others_kept}
use Rattle.tipc_node.proofs.journal.Fating.{fated_worked}
use Rattle.tipc_node.proofs.journal.Noting.{IsWorked, begun_worked, worked_more}
use Rattle.tipc_node.proofs.journal.PortCalls.{sender_is, some_limit}
use Rattle.tipc_node.proofs.journal.Putting.{told_accepted}
use Rattle.tipc_node.proofs.journal.Refusing.{longer, none_first, sender_refused, told_names}
use Rattle.tipc_node.proofs.journal.SendsTold.{begun_linked, of_pair}

-- ---- why it is refused

-- the publications in a range are those that the journal tells
range_told : (n : NodeState) (range : Span) → IsTold n → in_range n.sockets range ≡ overlap (table n.journal) range
range_told n range h = ap (filter (overlaps range)) (told_names n h)

-- the refusals of the range and of what is found in it, as the journal has them
found_told : (lower upper : ℕ) (ps : List Publication)
    → first_holding ((nat_lt upper lower, answer.BadRange) ∷ (is_nothing ps, answer.NoName) ∷ []) ≡ or_else (if nat_le lower upper then None else Some answer.BadRange) (found_refusal ps)
found_told lower upper ps = ap (λ b. first_holding ((b, answer.BadRange) ∷ (is_nothing ps, answer.NoName) ∷ [])) (longer upper lower) ∙ by (nat_le lower upper) ps
  where
    by : (ordered : Bool) (found : List Publication)
        → first_holding ((not ordered, answer.BadRange) ∷ (is_nothing found, answer.NoName) ∷ []) ≡ or_else (if ordered then None else Some answer.BadRange) (found_refusal found)
    by true [] = refl
    by true (p ∷ ps) = refl
    by false found = refl

-- those that the journal tells
abbrev told_refusal : NodeState → ℕ → Span → List ℕ → Option Answer
told_refusal n port range body = or_else (sender_refusal n port body) (or_else (range_refusal range) (found_refusal (in_range n.sockets range)))

journal_refusal : (n : NodeState) (port kind lower upper : ℕ) (importance : Importance) (body : List ℕ) → IsTold n
    → refusal (addr_of_word n.own) n.journal (event.Multicast port kind lower upper importance body) ≡ told_refusal n port (record { kind = kind; lower = lower; upper = upper }) body
journal_refusal n port kind lower upper importance body h =
    let range : Span = record { kind = kind; lower = lower; upper = upper } in
    sender_refused n port body ((nat_lt upper lower, answer.BadRange) ∷ (is_nothing (overlap (table n.journal) range), answer.NoName) ∷ []) h
    ∙ ap (or_else (sender_refusal n port body))
    (ap (λ ps. first_holding ((nat_lt upper lower, answer.BadRange) ∷ (is_nothing ps, answer.NoName) ∷ [])) (sym (range_told n range h)) ∙ found_told lower upper (in_range n.sockets range))

-- that it is congested comes behind them
last_of : (first second third last : Option Answer) → or_else first (or_else second (or_else third last)) ≡ or_else (or_else first (or_else second third)) last
last_of None None None last = refl
last_of None None (Some reason) last = refl
last_of None (Some reason) third last = refl
last_of (Some reason) second third last = refl

-- each of those that the journal tells refuses
told_is : (P : Answer → Type 0) (n : NodeState) (port : ℕ) (range : Span) (body : List ℕ) (reason : Answer) → P answer.NoSocket → P (answer.TooLong (length body)) → P answer.BadRange → P answer.NoName → told_refusal n port range body ≡ Some reason → P reason
told_is P n port range body reason no_socket too_long bad no_name is = first (sender_refusal n port body) refl is
  where
    found : (ps : List Publication) → found_refusal ps ≡ Some reason → P reason
    found [] is = (let here : answer.NoName ≡ reason = cc in subst P here no_name)
    found (p ∷ ps) none = absurd cc

    second : (ordered : Bool) → or_else (if ordered then None else Some answer.BadRange) (found_refusal (in_range n.sockets range)) ≡ Some reason → P reason
    second true later = found (in_range n.sockets range) later
    second false is = (let here : answer.BadRange ≡ reason = cc in subst P here bad)

    first : (o : Option Answer) → sender_refusal n port body ≡ o → or_else o (or_else (range_refusal range) (found_refusal (in_range n.sockets range))) ≡ Some reason → P reason
    first None sender later = second (nat_le range.lower range.upper) later
    first (Some why) sender is = (let here : why ≡ reason = cc in sender_is P n port body reason no_socket too_long (sender ∙ ap Some here))

-- one that is congested told the truth
crowded_is : (P : Answer → Type 0) (s : Sending) (out : Bool) (limit : ℕ) (reason : Answer) → IsPackedCast s → 1 ≤ limit
    → ((in_flight waiting : ℕ) → in_flight ≡ window_size → limit ≤ waiting → P (answer.Congested in_flight waiting)) → cast_refusal out s limit ≡ Some reason → P reason
crowded_is P s false limit reason packed some full is = absurd cc
crowded_is P s true limit reason packed some full is = by (nat_le limit (length s.waiting)) refl is
  where
    fifty : limit ≤ length s.waiting → (s.waiting ≡ []) ⊎ (length s.unacked ≡ window_size) → length s.unacked ≡ window_size
    fifty most (inl none) = absurd (let zero : length s.waiting ≡ 0 = ap length none in let wrong : ⊥ = omega (arith, most, zero, some) in wrong)
    fifty most (inr is) = is

    by : (b : Bool) → nat_le limit (length s.waiting) ≡ b → (if b then Some (answer.Congested (length s.unacked) (length s.waiting)) else None) ≡ Some reason → P reason
    by false few none = absurd cc
    by true many is =
        let here : answer.Congested (length s.unacked) (length s.waiting) ≡ reason = cc in
        let most : limit ≤ length s.waiting = grind (arith, nat_tests, many) in
        subst P here (full (length s.unacked) (length s.waiting) (fifty most packed.1) most)

-- ---- it is accepted for the peers

-- an entry tells that a message is accepted in flow Broadcast
abbrev IsCast : Message → Entry → Type 0
IsCast m e = (peer : Addr) × (numbers : ℕ × ℕ) × (e ≡ entry.Accepted peer numbers Broadcast m)

one_cast : (b : ℕ) (m : Message) (o : Option (ℕ × ℕ)) → All (IsCast m) (option_to_list (option_map (λ numbers. entry.Accepted (addr_of_word (node_word b)) numbers Broadcast m) o))
one_cast b m None = All-nil (IsCast m)
one_cast b m (Some numbers) = All-cons (IsCast m) (entry.Accepted (addr_of_word (node_word b)) numbers Broadcast m) [] (addr_of_word (node_word b), numbers, refl) (All-nil (IsCast m))

all_cast : (xs : List (Option Neighbour)) (m : Message) (bs : List ℕ) → All (IsCast m) (flat_map (cast_entry xs m) bs)
all_cast xs m [] = All-nil (IsCast m)
all_cast xs m (b ∷ bs) = All-append (IsCast m) (cast_entry xs m b) (flat_map (cast_entry xs m) bs) (one_cast b m (contact_kept xs b)) (all_cast xs m bs)

where_cast : (out : Bool) (xs : List (Option Neighbour)) (m : Message) → All (IsCast m) (entries_where out xs m)
where_cast true xs m = all_cast xs m (range_with_len 1 32)
where_cast false xs m = All-nil (IsCast m)

-- one more is told
one_more : (n : NodeState) (d : Due) (sends : List Entry) (w : Work) (e : Entry) (m : Message) → is_payload m ≡ true → IsWorked n d NothingDue sends [] w → IsCast m e → IsWorked n d NothingDue (sends ++ e ∷ []) [] (with_entries w (e ∷ []))
one_more n d sends w e (Items withdrawal items) payload h is = absurd cc
one_more n d sends w e (Payload importance form from to kind lower upper code droppable body) payload h is =
    let m = Payload importance form from to kind lower upper code droppable body in
    let a = entry.Accepted is.0 is.1 Broadcast m in
    subst (λ x. IsWorked n d NothingDue (sends ++ x ∷ []) [] (with_entries w (x ∷ []))) (sym is.2)
    (worked_more n d NothingDue sends [] w a w.sockets w.neighbours h (told_accepted n d NothingDue sends [] w is.0 is.1 Broadcast m h tt))

-- all of them are
all_more : (n : NodeState) (d : Due) (m : Message) → is_payload m ≡ true → (es sends : List Entry) (w : Work) → IsWorked n d NothingDue sends [] w → All (IsCast m) es → IsWorked n d NothingDue (sends ++ es) [] (with_entries w es)
all_more n d m payload [] sends w h all =
    subst (λ xs. IsWorked n d NothingDue xs [] (with_entries w [])) (sym (append-nil sends)) (subst (λ xs. IsWorked n d NothingDue sends [] (record w { inside = xs })) (sym (append-nil w.inside)) h)
all_more n d m payload (e ∷ es) sends w h all =
    let one = one_more n d sends w e m payload h (all 0 e (omega arith)) in
    let rest = all_more n d m payload es (sends ++ e ∷ []) (with_entries w (e ∷ [])) one (All-tail (IsCast m) e es all) in
    subst (λ xs. IsWorked n d NothingDue xs [] (with_entries w (e ∷ es))) (append_assoc sends (e ∷ []) es)
    (subst (λ xs. IsWorked n d NothingDue ((sends ++ e ∷ []) ++ es) [] (record w { inside = xs })) (append_assoc w.inside (e ∷ []) es) rest)

-- they are those that the journal asks for
peer_accepted : (n : NodeState) (m : Message) (b : ℕ) → IsTold n → cast_entry n.neighbours m b ≡ accepted_for n.journal Broadcast m (addr_of_word (node_word b))
peer_accepted n m b h = ap (λ (o : Option (ℕ × ℕ)). option_to_list (option_map (λ numbers. entry.Accepted (addr_of_word (node_word b)) numbers Broadcast m) o)) (sym ((h.links b).contact_is ∙ of_pair (neighbour_of n b)))

peers_accepted : (n : NodeState) (m : Message) → IsTold n → (bs : List ℕ) → flat_map (cast_entry n.neighbours m) bs ≡ flat_map (accepted_for n.journal Broadcast m) (map (λ b. addr_of_word (node_word b)) bs)
peers_accepted n m h [] = refl
peers_accepted n m h (b ∷ bs) =
    ap (λ es. es ++ flat_map (cast_entry n.neighbours m) bs) (peer_accepted n m b h) ∙ ap (λ es. accepted_for n.journal Broadcast m (addr_of_word (node_word b)) ++ es) (peers_accepted n m h bs)

all_accepted : (n : NodeState) (m : Message) → IsTold n → cast_entries n.neighbours m ≡ accepted_for_all n.journal m
unfolding cluster
all_accepted n m h = peers_accepted n m h (range_with_len 1 32)

where_accepted : (n : NodeState) (m : Message) (out : Bool) → IsTold n → entries_where out n.neighbours m ≡ (if out then accepted_for_all n.journal m else [])
where_accepted n m true h = all_accepted n m h
where_accepted n m false h = refl

accepted_is : (n : NodeState) (port : ℕ) (range : Span) (importance : Importance) (body : List ℕ) → IsTold n
    → entries_where (goes_out n range) n.neighbours (multicast n.own port range importance body) ≡ accepted_of (addr_of_word n.own) n.journal (Some (multicast n.own port range importance body))
accepted_is n port range importance body h =
    let m = multicast n.own port range importance body in
    where_accepted n m (goes_out n range) h ∙ ap (λ ps. if has_peers (addr_of_word n.own) ps then accepted_for_all n.journal m else []) (range_told n range h)

-- ---- the call

spread_worked : (n : NodeState) (port : ℕ) (range : Span) (importance : Importance) (body : List ℕ) → IsTold n
    → IsWorked n (FateDue (multicast n.own port range importance body) false) NothingDue (accepted_of (addr_of_word n.own) n.journal (Some (multicast n.own port range importance body))) []
    (multicast_work n (goes_out n range) (multicast n.own port range importance body))
spread_worked n port range importance body h =
    let m = multicast n.own port range importance body in
    let d = FateDue m false in
    let out = goes_out n range in
    let one = fated_worked n d NothingDue [] [] (begun n) m false (begun_worked n d h) (begun_linked n h) refl (λ _. refl) refl in
    let all = all_more n d m refl (entries_where out n.neighbours m) [] (fated (begun n) m (fate_of (begun n) false m)) one (where_cast out n.neighbours m) in
    subst (λ es. IsWorked n d NothingDue es [] (multicast_work n out m)) (accepted_is n port range importance body h) all

pub multicast_lawful : (n : NodeState) (by : By) (port kind lower upper : ℕ) (importance : Importance) (body : List ℕ) → IsTold n → IsPackedCast n.casting.sending
    → IsLawful n by (event.Multicast port kind lower upper importance body) (multicast_plan n (sender_refusal n port body) port (record { kind = kind; lower = lower; upper = upper }) importance body)
multicast_lawful n by port kind lower upper importance body h packed = record { refused = λ reason some. refused reason (told_refusal n port range body) refl (sym last ∙ some); done = λ none. goes (goes_out n range) (none_first (told_refusal n port range body) way (sym last ∙ none)) }
  where
    own : Addr
    own = addr_of_word n.own

    range : Span
    range = record { kind = kind; lower = lower; upper = upper }

    note : EventNote
    note = event.Multicast port kind lower upper importance body

    m : Message
    m = multicast n.own port range importance body

    way : Option Answer
    way = cast_refusal (goes_out n range) n.casting.sending (limit_of importance)

    last : or_else (sender_refusal n port body) (spread_refusal n range importance) ≡ or_else (told_refusal n port range body) way
    last = last_of (sender_refusal n port body) (range_refusal range) (found_refusal (in_range n.sockets range)) way

    journal : refusal own n.journal note ≡ told_refusal n port range body
    journal = journal_refusal n port kind lower upper importance body h

    crowded : refusal own n.journal note ≡ None → (in_flight waiting : ℕ) → in_flight ≡ window_size → limit_of importance ≤ waiting → IsCall n by note (answer.Congested in_flight waiting) (begun n) n.sockets
    crowded none in_flight waiting fifty most =
        let reason = answer.Congested in_flight waiting in
        refused_call n by note reason h refl tt (subst (IsAnswered own n.journal (step_of by note [] reason)) (sym none) (inl (refl, refl))) (fifty, most)

    refused : (reason : Answer) (o : Option Answer) → told_refusal n port range body ≡ o → or_else o way ≡ Some reason → IsCall n by note reason (begun n) n.sockets
    refused reason None none some =
        crowded_is (λ why. IsCall n by note why (begun n) n.sockets) n.casting.sending (goes_out n range) (limit_of importance) reason packed (some_limit importance) (crowded (journal ∙ none)) some
    refused reason (Some first) is same =
        let told = is ∙ same in
        refused_call n by note reason h refl (told_is IsRefusal n port range body reason tt tt tt tt told) (subst (IsAnswered own n.journal (step_of by note [] reason)) (sym (journal ∙ told)) (refl, refl))
        (told_is (IsFull note) n port range body reason tt tt tt tt told)

    well : told_refusal n port range body ≡ None → IsInside (multicast_work n (goes_out n range) m).inside → IsWell n by note answer.Sent (multicast_work n (goes_out n range) m)
    well none inner =
        let w = multicast_work n (goes_out n range) m in
        let worked = spread_worked n port range importance body h in (
          w,
          refl,
          record {
            answered = done_answered own n.journal by note w.inside answer.Sent (journal ∙ none) refl;
            worked = worked;
            kept = others_kept n by note answer.Sent NothingDue _ _ w h inner worked (record { stays = λ ports. refl; none = refl; quiet = λ q. refl; still = refl; nothing = λ number. refl });
            full = tt;
          },
        )

    goes : (out : Bool) → told_refusal n port range body ≡ None → EndsWell (multicast_dispatch out n m) n by note (multicast_plan n (sender_refusal n port body) port range importance body)
    goes true none = well none
    goes false none = well none
