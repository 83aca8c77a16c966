-- A multicast is a turn of the node: it has its fate at the own node, and where a peer offers in its range it is accepted for every peer in
-- contact, and its packets are cast; at each pair the node rests.
use Rattle.std.proofs.Common.{◌≡◌, ◌⊎◌, ◌<◌, ◌≤◌, ◌+◌, ◌-◌, ◌∙◌, ◌^◌, ℕ, zero, suc, Bool, true, false, if◌then◌else◌, List, [], ◌∷◌, ◌++◌, Option, Some, None, filter, inl, inr, is_some, length, nat_le, refl, sym, ap, subst, append-nil, arith}
use Rattle.std.specs.Prelude.{◌==◌, ◌&&◌, option_and_then, option_map, option_to_list, slice_index_or}
use Rattle.std.specs.List.{All, flat_map, list_all, range_with_len}
use Rattle.std.proofs.lemmas.Bool.Decides.{nat_tests}
use Rattle.std.proofs.lemmas.List.Elements.{All-append, All-cons, All-head, All-nil, All-tail, filter-append}
use Rattle.tipc_types.specs.Address.{node_word}
use Rattle.tipc_types.specs.Span.{Span}
use Rattle.tipc_types.specs.declared.message_forms.Flow.TheVariants.{Broadcast}
use Rattle.tipc_types.specs.declared.message_forms.Importance.{Importance}
use Rattle.tipc_types.specs.declared.message_forms.Importance.TheVariants.{Critical, High, Low, Medium}
use Rattle.tipc_types.specs.declared.message_forms.Message.{Message}
use Rattle.tipc_types.specs.declared.node_calls.Answer.{Answer}
use Rattle.tipc_types.specs.declared.node_calls.Answer.TheVariants as answer
use Rattle.tipc_types.specs.declared.node_calls.By.{By}
use Rattle.tipc_types.specs.declared.node_calls.EventNote.{EventNote}
use Rattle.tipc_types.specs.declared.node_calls.EventNote.TheVariants as event
use Rattle.tipc_types.specs.declared.services.Publication.{Publication}
use Rattle.tipc_outside.specs.declared.outgoing.Outgoing.{Outgoing}
use Rattle.tipc_send_window.specs.Sending.{Sending}
use Rattle.tipc_broadcast.specs.Deeds.{AreLawful, CastDeed, deeds_frames}
use Rattle.tipc_broadcast.specs.Pieces.{IsCastPiece, IsOfBroadcast}
use Rattle.tipc_journal.specs.declared.entries.Entry.{Entry}
use Rattle.tipc_journal.specs.declared.entries.Entry.TheVariants as entry
use Rattle.tipc_journal.specs.Steps.{IsInside, NodeStep, is_inner}
use Rattle.tipc_pair.specs.Facing.{contact_between}
use Rattle.tipc_pair.specs.Messages.{pieces_for}
use Rattle.tipc_pair.proofs.turns.Addressing.{either}
use Rattle.tipc_sockets.specs.declared.fates.Fate.{Fate}
use Rattle.tipc_sockets.specs.Telling.{fate_entry}
use Rattle.tipc_node.specs.declared.neighbours.Neighbour.{Neighbour}
use Rattle.tipc_node.specs.Messages.{IsSendable, bytes_of, limit_of, multicast}
use Rattle.tipc_node.specs.Multicasts.{cast_entries, cast_entry, cast_refusal, contact_kept, crowd_on, found_refusal, goes_out, in_range, multicast_deeds, multicast_dispatch, multicast_plan, multicast_work, range_refusal, spread_plan, spread_refusal}
use Rattle.tipc_node.specs.Nodes.{NodeState, neighbour_of, pair_with, step_of}
use Rattle.tipc_node.specs.Plans.{CarriesOut, Does, DoesUnless, Plan, concluded_by, or_else}
use Rattle.tipc_node.specs.Sockets.{kept_answer}
use Rattle.tipc_node.specs.Telling.{IsTold}
use Rattle.tipc_node.specs.Turns.CastDoing.{sends_cast}
use Rattle.tipc_node.specs.Turns.{AreCast, AreNamed, IsPlaced, NodeTurn, addr_of, cast_told, is_accepted_for, is_cast_for, is_cast_from, is_change_of, is_delivered_from}
use Rattle.tipc_node.specs.Works.{begun, concluded, fate_of}
use Rattle.tipc_node.proofs.Filters.{filter-none}
use Rattle.tipc_node.proofs.Places.{is_within}
use Rattle.tipc_node.proofs.pairs.Strangers.{pair_there}
use Rattle.tipc_node.proofs.turns.CastFrames.{casts_all, casts_to_none, deeds_cast}
use Rattle.tipc_node.proofs.turns.CastPieces.{cast_pieces}
use Rattle.tipc_node.proofs.turns.Entries.{casts_routed, inside_both, other_word}
use Rattle.tipc_node.proofs.journal.Telling.{same_word as own_word}
use Rattle.tipc_node.proofs.turns.MessageRuns.{AreQuiet, fate_quiet, quiet_run}
use Rattle.tipc_node.proofs.turns.Plain.{IsCall, IsPlainIn, plain_either, refused_turn}
use Rattle.tipc_node.proofs.turns.Runs.{IsRun, still_at}
use Rattle.tipc_node.proofs.turns.Turning.{NeighbourTurn, cast_rests, named_stand, node_turn, rests_turn, run_turn, turn_as}

-- ---- why it is refused

range_plain : (range : Span) → IsPlainIn (range_refusal range)
range_plain range = either IsPlainIn (nat_le range.lower range.upper) None (Some answer.BadRange) tt (record { kept = refl; untaken = tt })

found_plain : (ps : List Publication) → IsPlainIn (found_refusal ps)
found_plain [] = record { kept = refl; untaken = tt }
found_plain (p ∷ ps) = tt

crowd_plain : (out : Bool) (s : Sending) (limit : ℕ) → IsPlainIn (cast_refusal out s limit)
crowd_plain false s limit = tt
crowd_plain true s limit = either IsPlainIn (nat_le limit (length s.waiting)) (Some (answer.Congested (length s.unacked) (length s.waiting))) None (record { kept = refl; untaken = tt }) tt

spread_plain : (n : NodeState) (range : Span) (importance : Importance) → IsPlainIn (spread_refusal n range importance)
spread_plain n range importance =
    let last = cast_refusal (goes_out n range) n.casting.sending (limit_of importance) in
    plain_either (range_refusal range) (or_else (found_refusal (in_range n.sockets range)) last) (range_plain range)
    (plain_either (found_refusal (in_range n.sockets range)) last (found_plain (in_range n.sockets range)) (crowd_plain (goes_out n range) n.casting.sending (limit_of importance)))

-- where nothing refuses it there is room for it
or_none : (a b : Option Answer) → or_else a b ≡ None → b ≡ None
or_none None b none = none
or_none (Some reason) b some = absurd (let wrong : Some reason ≡ None = some in cc)

limit_most : (importance : Importance) → limit_of importance ≤ 200
limit_most Low = omega arith
limit_most Medium = omega arith
limit_most High = omega arith
limit_most Critical = omega arith

uncrowded : (s : Sending) (limit : ℕ) → crowd_on s limit ≡ None → length s.waiting < limit
uncrowded s limit none = by (nat_le limit (length s.waiting)) refl none
  where
    by : (b : Bool) → nat_le limit (length s.waiting) ≡ b → (if b then Some (answer.Congested (length s.unacked) (length s.waiting)) else None) ≡ None → length s.waiting < limit
    by true is some = absurd (let wrong : Some (answer.Congested (length s.unacked) (length s.waiting)) ≡ None = some in cc)
    by false is none = grind (arith, nat_tests, is)

has_room : (n : NodeState) (sender : Option Answer) (range : Span) (importance : Importance) → goes_out n range ≡ true → or_else sender (spread_refusal n range importance) ≡ None → length n.casting.sending.waiting < 200
has_room n sender range importance out none =
    let s = n.casting.sending in
    let last = cast_refusal (goes_out n range) s (limit_of importance) in
    let found = or_else (found_refusal (in_range n.sockets range)) last in
    let free : cast_refusal (goes_out n range) s (limit_of importance) ≡ None = or_none (found_refusal (in_range n.sockets range)) last (or_none (range_refusal range) found (or_none sender (spread_refusal n range importance) none)) in
    let less = uncrowded s (limit_of importance) (ap (λ b. cast_refusal b s (limit_of importance)) (sym out) ∙ free) in
    omega (arith, less, limit_most importance)

-- ---- for whom it is accepted

-- an entry of it, where there is contact
abbrev told_entry : ℕ → Message → Option (ℕ × ℕ) → List Entry
told_entry k m o = option_to_list (option_map (λ numbers. entry.Accepted (addr_of k) numbers Broadcast m) o)

own_entry : (b : ℕ) (m : Message) (o : Option (ℕ × ℕ)) → filter (is_cast_for b) (told_entry b m o) ≡ told_entry b m o
own_entry b m None = refl
own_entry b m (Some numbers) = ap (λ t. if t && true then entry.Accepted (addr_of b) numbers Broadcast m ∷ [] else []) (own_word b)

other_entry : (b k : ℕ) (m : Message) (o : Option (ℕ × ℕ)) → (k ≡ b → ⊥) → filter (is_cast_for b) (told_entry k m o) ≡ []
other_entry b k m None apart = refl
other_entry b k m (Some numbers) apart = ap (λ t. if t && true then entry.Accepted (addr_of k) numbers Broadcast m ∷ [] else []) (other_word b k apart)

-- those for the peers from a number on
none_accepted : (xs : List (Option Neighbour)) (m : Message) (b first len : ℕ) → (b < first) ⊎ (first + len ≤ b) → filter (is_cast_for b) (flat_map (cast_entry xs m) (range_with_len first len)) ≡ []
none_accepted xs m b first zero out = refl
none_accepted xs m b first (suc len) out =
    filter-append (is_cast_for b) (cast_entry xs m first) (flat_map (cast_entry xs m) (range_with_len (first + 1) len))
    ∙ ap (λ es. es ++ filter (is_cast_for b) (flat_map (cast_entry xs m) (range_with_len (first + 1) len))) (other_entry b first m (contact_kept xs first) (apart out))
    ∙ none_accepted xs m b (first + 1) len (later out)
  where
    apart : (b < first) ⊎ (first + suc len ≤ b) → first ≡ b → ⊥
    apart (inl below) same = omega (arith, below, same)
    apart (inr above) same = omega (arith, above, same)

    later : (b < first) ⊎ (first + suc len ≤ b) → (b < first + 1) ⊎ (first + 1 + len ≤ b)
    later (inl below) = inl (omega (arith, below))
    later (inr above) = inr (omega (arith, above))

one_accepted : (xs : List (Option Neighbour)) (m : Message) (first len k : ℕ) → k < len → filter (is_cast_for (first + k)) (flat_map (cast_entry xs m) (range_with_len first len)) ≡ told_entry (first + k) m (contact_kept xs (first + k))
one_accepted xs m first zero k within = absurd (omega (arith, within))
one_accepted xs m first (suc len) zero within =
    let b = first + 0 in
    let here : first ≡ b = omega arith in
    filter-append (is_cast_for b) (cast_entry xs m first) (flat_map (cast_entry xs m) (range_with_len (first + 1) len))
    ∙ ap (λ es. filter (is_cast_for b) (cast_entry xs m first) ++ es) (none_accepted xs m b (first + 1) len (inl (omega arith)))
    ∙ append-nil (filter (is_cast_for b) (cast_entry xs m first))
    ∙ ap (λ j. filter (is_cast_for b) (told_entry j m (contact_kept xs j))) here ∙ own_entry b m (contact_kept xs b)
one_accepted xs m first (suc len) (suc k) within =
    let b = first + suc k in
    let place : b ≡ first + 1 + k = omega arith in
    filter-append (is_cast_for b) (cast_entry xs m first) (flat_map (cast_entry xs m) (range_with_len (first + 1) len))
    ∙ ap (λ es. es ++ filter (is_cast_for b) (flat_map (cast_entry xs m) (range_with_len (first + 1) len))) (other_entry b first m (contact_kept xs first) (λ same. omega (arith, same)))
    ∙ ap (λ j. filter (is_cast_for j) (flat_map (cast_entry xs m) (range_with_len (first + 1) len))) place
    ∙ one_accepted xs m (first + 1) len k (omega (arith, within))
    ∙ ap (λ j. told_entry j m (contact_kept xs j)) (sym place)

accepted_at : (xs : List (Option Neighbour)) (m : Message) (b : ℕ) → 1 ≤ b → b ≤ 32 → filter (is_cast_for b) (cast_entries xs m) ≡ told_entry b m (contact_kept xs b)
accepted_at xs m b least most =
    let place : 1 + (b - 1) ≡ b = omega (arith, least) in
    subst (λ j. filter (is_cast_for j) (cast_entries xs m) ≡ told_entry j m (contact_kept xs j)) place (one_accepted xs m 1 32 (b - 1) (omega (arith, least, most)))

-- ---- what else they tell

-- what is so of each entry of a multicast is so of all
each_entry : (P : Entry → Type 0) (xs : List (Option Neighbour)) (m : Message) → ((k : ℕ) (numbers : ℕ × ℕ) → contact_kept xs k ≡ Some numbers → P (entry.Accepted (addr_of k) numbers Broadcast m)) → (ks : List ℕ)
    → All P (flat_map (cast_entry xs m) ks)
each_entry P xs m each [] = All-nil P
each_entry P xs m each (k ∷ ks) = All-append P (cast_entry xs m k) (flat_map (cast_entry xs m) ks) (by (contact_kept xs k) refl) (each_entry P xs m each ks)
  where
    by : (o : Option (ℕ × ℕ)) → contact_kept xs k ≡ o → All P (told_entry k m o)
    by None none = All-nil P
    by (Some numbers) is = All-cons P (entry.Accepted (addr_of k) numbers Broadcast m) [] (each k numbers is) (All-nil P)

-- with a contact there is a neighbour
kept_some : (xs : List (Option Neighbour)) (k : ℕ) (numbers : ℕ × ℕ) → contact_kept xs k ≡ Some numbers → is_some (slice_index_or xs k None) ≡ true
kept_some xs k numbers is = by (slice_index_or xs k None) is
  where
    by : (o : Option Neighbour) → option_and_then (λ x. contact_between x.pair) o ≡ Some numbers → is_some o ≡ true
    by None none = absurd (let wrong : None ≡ Some numbers = none in cc)
    by (Some x) some = refl

-- of no change and of nothing delivered, nor of a message for one peer
none_of : (xs : List (Option Neighbour)) (m : Message) (test : Entry → Bool) → ((k : ℕ) (numbers : ℕ × ℕ) → test (entry.Accepted (addr_of k) numbers Broadcast m) ≡ false) → filter test (cast_entries xs m) ≡ []
none_of xs m test fails = filter-none test (cast_entries xs m) (λ e. test e ≡ false) (λ e is. is) (each_entry (λ e. test e ≡ false) xs m (λ k numbers is. fails k numbers) (range_with_len 1 32))

and_false : (t : Bool) → (t && false) ≡ false
and_false true = refl
and_false false = refl

all_inner : (es : List Entry) → All (λ e. is_inner e ≡ true) es → IsInside es
all_inner [] all = refl
all_inner (e ∷ es) all = ap (λ t. t && list_all is_inner es) (All-head (λ x. is_inner x ≡ true) e es all) ∙ all_inner es (All-tail (λ x. is_inner x ≡ true) e es all)

cast_inside : (xs : List (Option Neighbour)) (m : Message) → IsInside (cast_entries xs m)
cast_inside xs m = all_inner (cast_entries xs m) (each_entry (λ e. is_inner e ≡ true) xs m (λ k numbers is. refl) (range_with_len 1 32))

cast_placed : (n : NodeState) (m : Message) → All (IsPlaced n) (cast_entries n.neighbours m)
cast_placed n m = each_entry (IsPlaced n) n.neighbours m (λ k numbers is. ((k, kept_some n.neighbours k numbers is, refl), tt)) (range_with_len 1 32)

-- ---- a multicast that goes out

module _ (n : NodeState) (by : By) (sender : Option Answer) (port kind lower upper : ℕ) (importance : Importance) (body : List ℕ) (told : IsTold n) (named : AreNamed n) (low : n.boot < 2 ^ 32) (cast : AreCast n)
    (wide : length n.neighbours ≡ 33) (sendable : IsSendable n.own (multicast n.own port (record { kind = kind; lower = lower; upper = upper }) importance body)) (room : length n.casting.sending.waiting < 200) where
  abbrev range : Span
  range = record { kind = kind; lower = lower; upper = upper }

  abbrev m : Message
  m = multicast n.own port range importance body

  abbrev call : EventNote
  call = event.Multicast port kind lower upper importance body

  abbrev deeds : List CastDeed
  deeds = multicast_deeds true n.own m

  abbrev frames : List Outgoing
  frames = deeds_frames deeds n.casting

  abbrev p : Plan
  p = spread_plan n sender true m

  abbrev f : Fate
  f = fate_of (begun n) false m

  abbrev s : NodeStep
  s = step_of by call (multicast_work n true m).inside answer.Sent

  abbrev n' : NodeState
  n' = concluded_by n by call p p.work

  quiet : AreQuiet n (fate_entry f ∷ []) []
  quiet = fate_quiet n f

  lawful : AreLawful deeds n.casting
  lawful =
      let pieces = cast_pieces n.own port range importance body sendable in (
        record { long = pieces.0.long; short = pieces.0.short; cast = subst (λ own. All (IsCastPiece own) (pieces_for (bytes_of n.own m))) (sym cast.own) pieces.1; room = room; few = pieces.0.few },
        tt,
      )

  all : All (IsOfBroadcast n.boot) frames
  all = deeds_cast n deeds low cast lawful

  -- what the step tells by a test
  told_by : (test : Entry → Bool) (es : List Entry) → filter test (fate_entry f ∷ []) ≡ [] → filter test (cast_entries n.neighbours m) ≡ es → filter test s.inside ≡ es
  told_by test es first later = filter-append test (fate_entry f ∷ []) (cast_entries n.neighbours m) ∙ ap (λ xs. xs ++ filter test (cast_entries n.neighbours m)) first ∙ later

  accepted_there : (b : ℕ) (x : Neighbour) → neighbour_of n b ≡ Some x → filter (is_cast_for b) (cast_entries n.neighbours m) ≡ cast_told b (pair_with n b) (Some m)
  accepted_there b x there =
      accepted_at n.neighbours m b (least b there) (let within = is_within n.neighbours b x there in omega (arith, within, wide))
      ∙ ap (λ (o : Option Neighbour). told_entry b m (option_and_then (λ y. contact_between y.pair) o)) there
      ∙ ap (λ y. cast_told b y (Some m)) (sym (pair_there n b x there))
    where
      least : (k : ℕ) → neighbour_of n k ≡ Some x → 1 ≤ k
      least zero is = absurd (let wrong : None ≡ Some x = sym told.nobody ∙ is in cc)
      least (suc k) is = omega arith

  at_neighbour : (b : ℕ) (x : Neighbour) → neighbour_of n b ≡ Some x → NeighbourTurn n n' [] s frames deeds (Some m) b x
  unfolding rests_turn
  at_neighbour b x there = record {
    after = x;
    after_is = there;
    turns = (
      rests_turn n.own [] s frames b [] [] x x (record {
        frames_are = casts_to_none n.boot b frames all;
        changes = told_by (is_change_of b) [] (quiet.changes b) (none_of n.neighbours m (is_change_of b) (λ k numbers. refl));
        accepted = told_by (is_accepted_for b) [] (quiet.accepted b) (none_of n.neighbours m (is_accepted_for b) (λ k numbers. and_false (node_word k == node_word b)));
        delivered = told_by (is_delivered_from b) [] (quiet.delivered b) (none_of n.neighbours m (is_delivered_from b) (λ k numbers. refl));
        taken = λ a es er q is taken from link. (let wrong : answer.Sent ≡ answer.Arrived a = is in cc);
      }) (still_at n.own b [] [] x refl refl refl),
      cast_rests n n' [] s deeds (Some m) b x.pair (record {
        apart = refl;
        unheard = refl;
        delivered = told_by (is_cast_from b) [] (quiet.heard b) (none_of n.neighbours m (is_cast_from b) (λ k numbers. refl));
        accepted = told_by (is_cast_for b) (cast_told b (pair_with n b) (Some m)) (quiet.uncast b) (accepted_there b x there);
        begun = refl;
      }),
    );
  }

  goes_out_turn : NodeTurn n n' [] s frames
  goes_out_turn = node_turn n n' [] s frames (record {
    own = refl;
    boot = refl;
    journal = refl;
    inside = inside_both (fate_entry f ∷ []) (cast_entries n.neighbours m) quiet.inside (cast_inside n.neighbours m);
    deeds = deeds;
    casting = refl;
    lawful = lawful;
    cast_frames = casts_all n.boot frames all;
    cast = Some m;
    sent = (sendable, refl);
    doing = sends_cast m refl;
    turns = at_neighbour;
    alone = λ b none. none;
    untaken = λ b none a es er q is taken from link. (let wrong : answer.Sent ≡ answer.Arrived a = is in cc);
    apart = λ b none. (refl, refl);
    routed = casts_routed n frames all;
    placed = All-append (IsPlaced n) (fate_entry f ∷ []) (cast_entries n.neighbours m) quiet.placed (cast_placed n m);
  })

-- ---- the call

-- one for the own node alone is a run of work
home_run : (n : NodeState) (m : Message) → AreNamed n → IsRun n (begun n) [] [] (multicast_work n false m)
home_run n m named =
    let f = fate_of (begun n) false m in
    quiet_run n (begun n) (multicast_work n false m) (fate_entry f ∷ []) [] (named_stand n named) refl (append-nil (fate_entry f ∷ [])) (fate_quiet n f)

pub multicast_turn : (n n' : NodeState) (by : By) (sender : Option Answer) (port kind lower upper : ℕ) (importance : Importance) (body : List ℕ) (frames : List Outgoing) (answered : Answer) → IsTold n → AreNamed n → n.boot < 2 ^ 32 → AreCast n
    → length n'.neighbours ≡ 33 → IsPlainIn sender
    → CarriesOut n by (event.Multicast port kind lower upper importance body) (multicast_plan n sender port (record { kind = kind; lower = lower; upper = upper }) importance body) n' frames answered
    → IsCall n n' by (event.Multicast port kind lower upper importance body) frames answered
multicast_turn n n' by sender port kind lower upper importance body frames answered told named low cast wide plain carried = unless refusal refl (plain_either sender (spread_refusal n range importance) plain (spread_plain n range importance)) carried
  where
    range : Span
    range = record { kind = kind; lower = lower; upper = upper }

    m : Message
    m = multicast n.own port range importance body

    call : EventNote
    call = event.Multicast port kind lower upper importance body

    refusal : Option Answer
    refusal = or_else sender (spread_refusal n range importance)

    does : (out : Bool) → goes_out n range ≡ out → refusal ≡ None → Does (multicast_dispatch out n m) n by call (spread_plan n refusal out m) n' frames answered → IsCall n n' by call frames answered
    does false is none d =
        let w = multicast_work n false m in
        turn_as n n' (concluded n by call w answer.Sent) by call [] frames [] (kept_answer answered) answer.Sent d.0 d.1 (ap kept_answer d.2)
        (run_turn n by call [] answer.Sent w [] tt (home_run n m named))
    does true is none d =
        let p = spread_plan n refusal true m in
        let as_wide : length n.neighbours ≡ 33 = ap (λ (k : NodeState). length k.neighbours) (sym d.1) ∙ wide in
        turn_as n n' (concluded_by n by call p p.work) by call [] frames (deeds_frames (multicast_deeds true n.own m) n.casting) (kept_answer answered) answer.Sent d.1 d.2 (ap kept_answer d.3)
        ((multicast_work n true m).inside, goes_out_turn n by refusal port kind lower upper importance body told named low cast as_wide d.0 (has_room n sender range importance is none))

    unless : (o : Option Answer) → refusal ≡ o → IsPlainIn o → DoesUnless o n by call (spread_plan n refusal (goes_out n range) m) n' frames answered → IsCall n n' by call frames answered
    unless (Some reason) is plain d = refused_turn n n' by call reason frames answered named plain d.0 d.1 d.2
    unless None is plain d = does (goes_out n range) refl is d
