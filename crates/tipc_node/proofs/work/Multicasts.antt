-- What is told of a multicast: its fate, and that it is accepted for each peer in contact.
use Rattle.std.proofs.Common.{◌≡◌, ◌≤◌, Result, ◌+◌, ◌*◌, ◌-◌, ℕ, zero, suc, Bool, true, false, List, [], ◌∷◌, ◌++◌, append-nil, append_assoc, Option, Some, None, length, length-append, refl, sym, ap, ◌∙◌, subst, arith, sum_by}
use Rattle.std.specs.Prelude.{option_map, option_to_list, IfOk}
use Rattle.std.specs.List.{flat_map, list_all, range_with_len}
use Rattle.std.proofs.lemmas.List.Concat.{flat_map-append}
use Rattle.std.proofs.lemmas.List.Sums.{sum_by-append}
use Rattle.tipc_types.specs.Address.{node_word}
use Rattle.tipc_types.specs.Span.{Span}
use Rattle.tipc_types.specs.declared.message_forms.Flow.TheVariants.{Broadcast}
use Rattle.tipc_types.specs.declared.message_forms.Form.TheVariants as form
use Rattle.tipc_types.specs.declared.message_forms.Importance.{Importance}
use Rattle.tipc_types.specs.declared.message_forms.Message.{Message}
use Rattle.tipc_types.specs.declared.message_forms.Message.TheVariants.{Payload, Items}
use Rattle.tipc_types.specs.declared.node_calls.Answer.{Answer}
use Rattle.tipc_types.specs.declared.node_calls.Answer.TheVariants as answer
use Rattle.tipc_types.specs.declared.node_calls.By.{By}
use Rattle.tipc_types.specs.declared.node_calls.EventNote.{EventNote}
use Rattle.tipc_types.specs.declared.node_calls.EventNote.TheVariants.{Multicast}
use Rattle.tipc_outside.specs.Frames.{Adds, Out}
use Rattle.tipc_broadcast.specs.Casting.{Casting}
use Rattle.tipc_broadcast.specs.Deeds.{after_deeds, deeds_frames, leaves_bearers}
use Rattle.tipc_journal.specs.declared.entries.Entry.{Entry}
use Rattle.tipc_journal.specs.declared.entries.Entry.TheVariants as entry
use Rattle.tipc_journal.specs.Room.{counted_bytes, entry_bytes}
use Rattle.tipc_journal.specs.Steps.{step_entries}
use Rattle.tipc_sockets.specs.declared.fates.Fate.{Fate}
use Rattle.tipc_sockets.specs.declared.fates.Fate.TheVariants.{Queued}
use Rattle.tipc_sockets.specs.Fates.{after_fate, fate, hearers_of}
use Rattle.tipc_sockets.specs.SocketTables.{SocketTable}
use Rattle.tipc_sockets.specs.Telling.{fate_entry, is_payload, origin_of}
use Rattle.tipc_node.specs.declared.neighbours.Neighbour.{Neighbour}
use Rattle.tipc_node.specs.Calls.{sender_refusal}
use Rattle.tipc_node.specs.Drafts.{DraftState, IsIdle, with_sockets_in}
use Rattle.tipc_node.specs.Messages.{IsSendable, multicast}
use Rattle.tipc_node.specs.Multicasts.{cast_entry, contact_kept, entries_where, goes_out, is_multicast, multicast_deeds, multicast_work, spread_plan, spread_refusal}
use Rattle.tipc_node.specs.Nodes.{NodeState, step_of}
use Rattle.tipc_node.specs.Plans.{concluded_by, or_else}
use Rattle.tipc_node.specs.Works.{addr_of_word, begun, fate_of, waiting_to}
use Rattle.tipc_node.proofs.work.Planned.{IsCarried, IsPerformed, IsRefused, performs_refused}
use Rattle.tipc_node.proofs.work.Tellings.{range_last}

-- those for the peers below a number
abbrev pub cast_below : List (Option Neighbour) → Message → ℕ → List Entry
cast_below xs m number = flat_map (cast_entry xs m) (range_with_len 1 (number - 1))

-- one peer more
pub cast_next : (xs : List (Option Neighbour)) (m : Message) (number : ℕ) (first was now : List Entry) → 1 ≤ number → was ≡ first ++ cast_below xs m number → now ≡ was ++ cast_entry xs m number → now ≡ first ++ cast_below xs m (number + 1)
cast_next xs m number first was now some before after =
    let more : number + 1 - 1 ≡ suc (number - 1) = omega (arith, some) in
    let last : 1 + (number - 1) ≡ number = omega (arith, some) in
    let range : range_with_len 1 (number + 1 - 1) ≡ range_with_len 1 (number - 1) ++ number ∷ [] = ap (range_with_len 1) more ∙ range_last 1 (number - 1) ∙ ap (λ k. range_with_len 1 (number - 1) ++ k ∷ []) last in
    let both : cast_below xs m (number + 1) ≡ cast_below xs m number ++ cast_entry xs m number =
    ap (flat_map (cast_entry xs m)) range ∙ flat_map-append (cast_entry xs m) (range_with_len 1 (number - 1)) (number ∷ []) ∙ ap (λ es. cast_below xs m number ++ es) (append-nil (cast_entry xs m number)) in
    after ∙ ap (λ es. es ++ cast_entry xs m number) before ∙ append_assoc first (cast_below xs m number) (cast_entry xs m number) ∙ ap (λ es. first ++ es) (sym both)

-- they are 32 at most, and have so many bytes at most
one_size : (b : ℕ) (m : Message) (o : Option (ℕ × ℕ)) → (length (option_to_list (option_map (λ numbers. entry.Accepted (addr_of_word (node_word b)) numbers Broadcast m) o)) ≤ 1)
    × (sum_by entry_bytes (option_to_list (option_map (λ numbers. entry.Accepted (addr_of_word (node_word b)) numbers Broadcast m) o)) ≤ counted_bytes m)
one_size b m None = (omega arith, omega arith)
one_size b m (Some numbers) = (omega arith, omega arith)

cast_size : (xs : List (Option Neighbour)) (m : Message) (a n : ℕ) → counted_bytes m ≤ 66000 → (length (flat_map (cast_entry xs m) (range_with_len a n)) ≤ n) × (sum_by entry_bytes (flat_map (cast_entry xs m) (range_with_len a n)) ≤ n * 66000)
cast_size xs m a zero small = (omega arith, omega arith)
cast_size xs m a (suc n) small =
    let one = one_size a m (contact_kept xs a) in
    let rest = cast_size xs m (a + 1) n small in
    let long = length-append (cast_entry xs m a) (flat_map (cast_entry xs m) (range_with_len (a + 1) n)) in
    let heavy = sum_by-append entry_bytes (cast_entry xs m a) (flat_map (cast_entry xs m) (range_with_len (a + 1) n)) in
    let few = one.0 in
    let light = one.1 in
    let fewer = rest.0 in
    let lighter = rest.1 in
    (omega (arith, few, fewer, long), omega (arith, light, lighter, heavy, small))

-- what is told of a multicast fits a step
pub told_size : (out : Bool) (xs : List (Option Neighbour)) (m : Message) (ports : List ℕ) → counted_bytes m ≤ 66000 → (length (entry.Queued ports ∷ entries_where out xs m) ≤ 33) × (sum_by entry_bytes (entry.Queued ports ∷ entries_where out xs m) ≤ 2112000)
told_size true xs m ports small =
    let size = cast_size xs m 1 32 small in
    let few = size.0 in
    let light = size.1 in
    (omega (arith, few), omega (arith, light))
told_size false xs m ports small = (omega arith, omega arith)

-- ---- the call

-- what is done at the broadcast link leaves the bearers
pub leaves_all : (out : Bool) (own : ℕ) (m : Message) → list_all leaves_bearers (multicast_deeds out own m) ≡ true
leaves_all true own m = refl
leaves_all false own m = refl

-- and the sockets stay those of the node
pub drafted_idle : (d d' : DraftState) (m : Message) (ports : List ℕ) → d' ≡ with_sockets_in d (after_fate d.work.sockets m (Queued ports)) → IsIdle d → IsIdle d' × (d'.work.sockets.own ≡ d.work.sockets.own) × (d'.work.sockets.ports.boot ≡ d.work.sockets.ports.boot)
drafted_idle d d' m ports is h =
    subst (λ (e : DraftState). IsIdle e × (e.work.sockets.own ≡ d.work.sockets.own) × (e.work.sockets.ports.boot ≡ d.work.sockets.ports.boot)) (sym is)
    (record { inside = h.inside; copies = h.copies; out = h.out }, refl, refl)

-- its fate is known: it waits at the ports that hear it
pub many_fate : (s : SocketTable) (arrived : Bool) (waiting : Option ℕ) (m : Message) → is_multicast (Some m) ≡ true → fate s arrived waiting m ≡ Queued (hearers_of s arrived m)
many_fate s arrived waiting (Payload importance form.Multicast from to kind lower upper code droppable body) is = refl
many_fate s arrived waiting (Payload importance form.Connected from to kind lower upper code droppable body) is = absurd cc
many_fate s arrived waiting (Payload importance form.Named from to kind lower upper code droppable body) is = absurd cc
many_fate s arrived waiting (Payload importance form.Direct from to kind lower upper code droppable body) is = absurd cc
many_fate s arrived waiting (Items withdrawal items) is = absurd cc

-- and it is a user's
pub many_user : (m : Message) → is_multicast (Some m) ≡ true → is_payload m ≡ true
many_user (Payload importance form.Multicast from to kind lower upper code droppable body) is = refl
many_user (Payload importance form.Connected from to kind lower upper code droppable body) is = absurd cc
many_user (Payload importance form.Named from to kind lower upper code droppable body) is = absurd cc
many_user (Payload importance form.Direct from to kind lower upper code droppable body) is = absurd cc
many_user (Items withdrawal items) is = absurd cc

-- what the code made of the node where nothing spoke against it
pub record IsSpread (k : NodeState) (by : By) (note : EventNote) (m : Message) (out : Bool) (s : SocketTable) (v : Casting) (journal : List Entry) (promised : ℕ) (box box' : Out) : Type 0 where
  pub many : is_multicast (Some m) ≡ true
  pub ports : List ℕ
  pub hear : ports ≡ hearers_of k.sockets false m
  pub told : List Entry
  pub told_is : told ≡ entry.Queued ports ∷ entries_where out k.neighbours m
  pub sockets : s ≡ after_fate k.sockets m (Queued ports)
  pub casting : v ≡ after_deeds (multicast_deeds out k.own m) k.casting
  pub recorded : journal ≡ k.journal ++ step_entries (step_of by note told answer.Sent)
  pub used : promised ≡ k.promised - 1
  pub adds : Adds box box' (deeds_frames (multicast_deeds out k.own m) k.casting)
  pub sendable : out ≡ true → IsSendable k.own m

-- the node with these parts
abbrev pub spread_node : NodeState → SocketTable → Casting → List Entry → ℕ → NodeState
spread_node k s v journal promised = record k { sockets = s; casting = v; journal = journal; promised = promised }

-- it is the node where the step is recorded
spread_after : (k : NodeState) (by : By) (note : EventNote) (m : Message) (out : Bool) (s : SocketTable) (v : Casting) (journal : List Entry) (promised : ℕ) (box box' : Out) → IsSpread k by note m out s v journal promised box box'
    → spread_node k s v journal promised ≡ concluded_by k by note (spread_plan k None out m) (multicast_work k out m)
spread_after k by note m out s v journal promised box box' h = λ i. spread_node k (sockets i) (h.casting i) (recorded i) (h.used i)
  where
    f : Fate
    f = fate_of (begun k) false m

    waits : Queued h.ports ≡ f
    waits = ap Queued h.hear ∙ sym (many_fate k.sockets false (waiting_to k.neighbours (origin_of m)) m h.many)

    -- what is told by a fate
    told_by : Fate → List Entry
    told_by g = fate_entry g ∷ entries_where out k.neighbours m

    sockets : s ≡ after_fate k.sockets m f
    sockets = h.sockets ∙ ap (after_fate k.sockets m) waits

    recorded : journal ≡ k.journal ++ step_entries (step_of by note (told_by f) answer.Sent)
    recorded = h.recorded ∙ ap (λ es. k.journal ++ step_entries (step_of by note es answer.Sent)) (h.told_is ∙ ap told_by waits)

spread_carried : (k : NodeState) (by : By) (note : EventNote) (m : Message) (out : Bool) (s : SocketTable) (v : Casting) (journal : List Entry) (promised : ℕ) (box box' : Out) → IsSpread k by note m out s v journal promised box box'
    → IsCarried k (spread_node k s v journal promised) by note (spread_plan k None out m) box box' answer.Sent
spread_carried k by note m true s v journal promised box box' h = (deeds_frames (multicast_deeds true k.own m) k.casting, (h.sendable refl, spread_after k by note m true s v journal promised box box' h, refl, refl), h.adds)
spread_carried k by note m false s v journal promised box box' h = ([], (spread_after k by note m false s v journal promised box box' h, refl, refl), h.adds)

pub spread_sent : (n k : NodeState) (by : By) (note : EventNote) (m : Message) (out : Bool) (s : SocketTable) (v : Casting) (journal : List Entry) (promised : ℕ) (box box' : Out) → k ≡ n → IsSpread k by note m out s v journal promised box box'
    → IsCarried n (spread_node k s v journal promised) by note (spread_plan n None out m) box box' answer.Sent
spread_sent n k by note m out s v journal promised box box' same h =
    subst (λ (z : NodeState). IsCarried z (spread_node k s v journal promised) by note (spread_plan z None out m) box box' answer.Sent) same (spread_carried k by note m out s v journal promised box box' h)

-- the neighbours stay
pub spread_done : (n k : NodeState) (by : By) (note : EventNote) (m : Message) (out : Bool) (xs : List (Option Neighbour)) (s : SocketTable) (v : Casting) (journal : List Entry) (promised : ℕ) (box box' : Out) → k ≡ n → xs ≡ k.neighbours → IsSpread k by note m out s v journal promised box box'
    → IsCarried n (record (spread_node k s v journal promised) { neighbours = xs }) by note (spread_plan n None out m) box box' answer.Sent
spread_done n k by note m out xs s v journal promised box box' same stay h =
    subst (λ ys. IsCarried n (record (spread_node k s v journal promised) { neighbours = ys }) by note (spread_plan n None out m) box box' answer.Sent) (sym stay) (spread_sent n k by note m out s v journal promised box box' same h)

-- ---- its answer

-- the range of a call
abbrev pub span_of : ℕ → ℕ → ℕ → Span
span_of kind lower upper = record { kind = kind; lower = lower; upper = upper }

-- it is refused
pub cast_refused : {E : Type 0} (r : Result Answer E) (n n' : NodeState) (by : By) (port kind lower upper : ℕ) (importance : Importance) (body : List ℕ) (box : Out) (why : Answer) (note : EventNote)
    → or_else (sender_refusal n port body) (spread_refusal n (span_of kind lower upper) importance) ≡ Some why → note ≡ Multicast port kind lower upper importance body → IfOk r (IsRefused n n' by note why) → IfOk r (IsPerformed n n' by (Multicast port kind lower upper importance body) box box)
cast_refused r n n' by port kind lower upper importance body box why note some is ok =
    performs_refused r n n' by (Multicast port kind lower upper importance body) note None box why refl some is ok

-- or it spreads
pub cast_answered : (n n' : NodeState) (by : By) (port kind lower upper : ℕ) (importance : Importance) (body : List ℕ) (box box' : Out) (note : EventNote) (m : Message) (out : Bool)
    → or_else (sender_refusal n port body) (spread_refusal n (span_of kind lower upper) importance) ≡ None → note ≡ Multicast port kind lower upper importance body → m ≡ multicast n.own port (span_of kind lower upper) importance body → out ≡ goes_out n (span_of kind lower upper) → IsCarried n n' by note (spread_plan n None out m) box box' answer.Sent
    → IsPerformed n n' by (Multicast port kind lower upper importance body) box box' answer.Sent
cast_answered n n' by port kind lower upper importance body box box' note m out clear noted message goes h =
    let call = Multicast port kind lower upper importance body in
    let range = span_of kind lower upper in
    let named = subst (λ e. IsCarried n n' by e (spread_plan n None out m) box box' answer.Sent) noted h in
    let sent = subst (λ x. IsCarried n n' by call (spread_plan n None out x) box box' answer.Sent) message named in
    let went = subst (λ b. IsCarried n n' by call (spread_plan n None b (multicast n.own port range importance body)) box box' answer.Sent) goes sent in
    let carried = subst (λ (o : Option Answer). IsCarried n n' by call (spread_plan n o (goes_out n range) (multicast n.own port range importance body)) box box' answer.Sent) (sym clear) went in
    (carried.0, record { chosen = None; choice = refl; carried = carried.1 }, carried.2)
