-- The fate that the sockets give a message is one that may stand in the journal, and tells what they hold after it.
use Rattle.std.proofs.Common.{◌≡◌, ◌≤◌, ◌<◌, inl, inr, ℕ, ◌+◌, Bool, true, false, not, cond, ◌&&◌, ◌||◌, List, [], ◌∷◌, ◌++◌, length, get_or, add-one, Option, None, Some, is_some, if◌then◌else◌, refl, sym, ap, subst, ◌∙◌, true≢false, eqb-true, arith}
use Rattle.std.specs.Prelude.{nat_eq, nat_le, nat_lt, option_map, unwrap_or, ◌==◌}
use Rattle.std.specs.List.{list_all, list_any, AllByRecursion, AllPairs, IsDistinct}
use Rattle.std.specs.List.Sorted.{IsStrictlySortedBy}
use Rattle.std.specs.Ordering.{nat_cmp}
use Rattle.std.specs.declared.cmp.Ordering.TheVariants.{Less}
use Rattle.std.specs.Map.{lookup, set_value}
use Rattle.std.proofs.lemmas.Bool.{and_parts, leb-true}
use Rattle.std.proofs.lemmas.Bool.Decides.{eqb_tells, nat_tests, Decides-eqb}
use Rattle.std.proofs.lemmas.List.{append-nil}
use Rattle.std.proofs.lemmas.List.Elements.{recursion_from_All}
use Rattle.std.proofs.lemmas.List.Kept.{AllPairs-filter, IsStrictlySortedBy-filter}
use Rattle.std.proofs.lemmas.Map.Made.{IsDistinct-from_AllPairs}
use Rattle.std.proofs.lemmas.Map.Views.{any-filter_same}
use Rattle.tipc_types.specs.Span.{Span}
use Rattle.tipc_types.specs.declared.identity.Addr.{Addr}
use Rattle.tipc_types.specs.declared.identity.PortId.{PortId}
use Rattle.tipc_types.specs.declared.message_forms.Importance.{Importance}
use Rattle.tipc_types.specs.declared.message_forms.Form.{Form}
use Rattle.tipc_types.specs.declared.message_forms.Form.TheVariants.{Connected, Multicast, Named, Direct}
use Rattle.tipc_types.specs.declared.message_forms.Message.{Message}
use Rattle.tipc_types.specs.declared.message_forms.Message.TheVariants.{Payload, Items}
use Rattle.tipc_types.specs.declared.services.Publication.{Publication}
use Rattle.tipc_journal.specs.declared.entries.Entry.{Entry}
use Rattle.tipc_journal.specs.declared.entries.Entry.TheVariants as entry
use Rattle.tipc_journal.specs.Contacts.{contact}
use Rattle.tipc_journal.specs.Dues.{Due, FateDue, due_behind, returned_message}
use Rattle.tipc_journal.specs.Fates.{counts_for, port_has_room as room_at, inbox_size, is_aimed_at, is_named_by, no_name, no_port, overload, return_limit, scene_at, why_not_direct, why_not_named, AreReached, IsFate, IsSettled, IsUnqueued, Scene}
use Rattle.tipc_journal.specs.Names.{is_clusterwide}
use Rattle.tipc_journal.specs.Queues.{queued_by, queue_inside, sockets}
use Rattle.tipc_journal.proofs.DueLaws.{queue_inside_more}
use Rattle.tipc_journal.proofs.Insides.{live_inside, names_inside}
use Rattle.tipc_ports.specs.Numbers.{port_number}
use Rattle.tipc_types.specs.Matching.{covers, overlaps}
use Rattle.tipc_sockets.specs.declared.fates.Fate.{Fate}
use Rattle.tipc_sockets.specs.declared.fates.Fate.TheVariants.{Queued, Returned, ReturnDropped, Dropped}
use Rattle.tipc_sockets.specs.Fates.{after_fate, aimed_at, fate, may_wait, hearers, is_by_name, is_offered, one_port_fate, refusal, return_fate, room_refusal, unqueued_fate}
use Rattle.tipc_sockets.specs.Publishing.{is_at}
use Rattle.tipc_sockets.specs.SocketTables.{has_port, queue_at, queued, queued_at_each, with_queues, AreSockets, SocketTable}
use Rattle.tipc_sockets.specs.Telling.{fate_entry, is_for_one_there, is_payload, origin_of, AreTold}
use Rattle.tipc_sockets.proofs.Closing.{and_false, and_turned, eq_turned, list_any_filtered, or_false}
use Rattle.tipc_sockets.proofs.Entries.{home_more, told_entry, watched_plainly}
use Rattle.tipc_sockets.proofs.Keeping.{and_right, and_true, keys-queued_at_each, lookup_elsewhere, not_true, port_there, queue_there}

-- ---- a message at each of some ports

-- what waits at a port to which one more message is queued
pub lookup_here : (port : ℕ) (queues : List (ℕ × List Message)) (waiting : List Message) → lookup (nat_eq port) (set_value (nat_eq port) queues waiting) ≡ option_map (λ _. waiting) (lookup (nat_eq port) queues)
lookup_here port [] waiting = refl
lookup_here port (q ∷ qs) waiting = by (nat_eq port q.0) refl (lookup_here port qs waiting)
  where
    by : (b : Bool) → nat_eq port q.0 ≡ b → lookup (nat_eq port) (set_value (nat_eq port) qs waiting) ≡ option_map (λ _. waiting) (lookup (nat_eq port) qs)
        → lookup (nat_eq port) (cond b ((q.0, waiting) ∷ qs) (q ∷ set_value (nat_eq port) qs waiting)) ≡ option_map (λ _. waiting) (cond b (Some q.1) (lookup (nat_eq port) qs))
    by true here later = ap (λ (b : Bool). cond b (Some waiting) (lookup (nat_eq port) qs)) here
    by false here later = ap (λ (b : Bool). cond b (Some q.1) (lookup (nat_eq port) (set_value (nat_eq port) qs waiting))) here ∙ later

-- the messages that come to a port
abbrev pub coming : Message → List ℕ → ℕ → List Message
coming m ports port = if list_any (λ q. q == port) ports then m ∷ [] else []

pub appended : (found : Option (List Message)) (m : Message) → option_map (λ _. unwrap_or found [] ++ m ∷ []) found ≡ option_map (λ (ms : List Message). ms ++ m ∷ []) found
appended None m = refl
appended (Some ms) m = refl

none_more : (found : Option (List Message)) → option_map (λ (xs : List Message). xs ++ []) found ≡ found
none_more None = refl
none_more (Some xs) = ap Some (append-nil xs)

absent : (port : ℕ) (ports : List ℕ) → AllByRecursion (λ q. nat_eq port q ≡ false) ports → list_any (λ q. q == port) ports ≡ false
absent port [] h = refl
absent port (q ∷ qs) h = ap (λ (b : Bool). b || list_any (λ r. r == port) qs) (eq_turned q port ∙ h.0) ∙ absent port qs h.1

pub queued_everywhere : (m : Message) (queues : List (ℕ × List Message)) (ports : List ℕ) (port : ℕ) → IsDistinct nat_eq ports
    → lookup (nat_eq port) (queued_at_each m queues ports) ≡ option_map (λ (ms : List Message). ms ++ coming m ports port) (lookup (nat_eq port) queues)
unfolding IsDistinct
queued_everywhere m queues [] port distinct = sym (none_more (lookup (nat_eq port) queues))
queued_everywhere m queues (p ∷ ps) port distinct = elim (eqb_tells p port) as (λ _. lookup (nat_eq port) (queued_at_each m (queued m queues p) ps) ≡ option_map (λ (ms : List Message). ms ++ coming m (p ∷ ps) port) (lookup (nat_eq port) queues)) [
  | inl e ↦
      let no_more : coming m ps port ≡ [] = ap (λ (b : Bool). if b then m ∷ [] else []) (absent port ps (subst (λ (n : ℕ). AllByRecursion (λ q. nat_eq n q ≡ false) ps) e.1 distinct.0)) in
      let one : coming m (p ∷ ps) port ≡ m ∷ [] = ap (λ (b : Bool). if b || list_any (λ q. q == port) ps then m ∷ [] else []) e.0 in
      let here : lookup (nat_eq port) (queued m queues p) ≡ option_map (λ (ms : List Message). ms ++ m ∷ []) (lookup (nat_eq port) queues) =
      ap (λ (n : ℕ). lookup (nat_eq port) (queued m queues n)) e.1 ∙ lookup_here port queues (unwrap_or (lookup (nat_eq port) queues) [] ++ m ∷ []) ∙ appended (lookup (nat_eq port) queues) m in
      queued_everywhere m (queued m queues p) ps port distinct.1
      ∙ ap (λ (ns : List Message). option_map (λ (ms : List Message). ms ++ ns) (lookup (nat_eq port) (queued m queues p))) no_more
      ∙ none_more (lookup (nat_eq port) (queued m queues p))
      ∙ here
      ∙ ap (λ (ns : List Message). option_map (λ (ms : List Message). ms ++ ns) (lookup (nat_eq port) queues)) (sym one)
  | inr e ↦
      let same : coming m (p ∷ ps) port ≡ coming m ps port = ap (λ (b : Bool). if b || list_any (λ q. q == port) ps then m ∷ [] else []) e.0 in
      queued_everywhere m (queued m queues p) ps port distinct.1
      ∙ ap (λ (found : Option (List Message)). option_map (λ (ms : List Message). ms ++ coming m ps port) found) (lookup_elsewhere p port queues _ (λ f. e.1 (sym f)))
      ∙ ap (λ (ns : List Message). option_map (λ (ms : List Message). ms ++ ns) (lookup (nat_eq port) queues)) (sym same)
]

-- ---- lists of ports

list_any_agree : {X : Type 0} (f g : X → Bool) → ((x : X) → f x ≡ g x) → (xs : List X) → list_any f xs ≡ list_any g xs
list_any_agree f g same [] = refl
list_any_agree f g same (x ∷ xs) = (λ i. same x i || list_any_agree f g same xs i)

pub list_all_agree : {X : Type 0} (f g : X → Bool) → ((x : X) → f x ≡ g x) → (xs : List X) → list_all f xs ≡ list_all g xs
list_all_agree f g same [] = refl
list_all_agree f g same (x ∷ xs) = (λ i. same x i && list_all_agree f g same xs i)

below : (x y : ℕ) → x < y → nat_cmp x y ≡ Less
below x y h = grind (arith, nat_tests)

rising_sorted : (xs : List ℕ) → AllPairs (λ a b. a < b) xs → IsStrictlySortedBy nat_cmp xs
unfolding IsStrictlySortedBy
rising_sorted [] h = tt
rising_sorted (x ∷ xs) h = (
  recursion_from_All (λ (y : ℕ). nat_cmp x y ≡ Less) xs (λ k d within. below x _ (subst (λ (i : ℕ). x < get_or (x ∷ xs) i d) (add-one k) (h 0 (k + 1) d (omega arith) (omega (arith, within))))),
  rising_sorted xs (λ i j d first last. subst (λ (n : ℕ). get_or xs i d < get_or (x ∷ xs) n d) (add-one j) (subst (λ (n : ℕ). get_or (x ∷ xs) n d < get_or (x ∷ xs) (j + 1) d) (add-one i) (h (i + 1) (j + 1) d (omega (arith, first)) (omega (arith, last))))),
)

pub rising_distinct : (xs : List ℕ) → AllPairs (λ a b. a < b) xs → IsDistinct nat_eq xs
rising_distinct xs h = IsDistinct-from_AllPairs Decides-eqb xs (λ i j d first last e. omega (arith, h i j d first last, e))

one_distinct : (port : ℕ) → IsDistinct nat_eq (port ∷ [])
unfolding IsDistinct
one_distinct port = (tt, tt)

pub some_is_none : {A : Type 0} (x : A) → ◌≡◌ {A = Option A} (Some x) None → ⊥
some_is_none x e = cc

-- ---- a message that isn't queued

-- whether a fate is that a message waits
abbrev pub is_queued : Fate → Bool
is_queued (Queued ports) = true
is_queued _ = false

unqueued_may : (away is_own : Bool) (waiting : Option ℕ) (c : Option (ℕ × ℕ)) (why : ℕ) (back : Message) → fate_entry (Returned back) ≡ entry.Returned why → is_some waiting ≡ is_some c
    → IsUnqueued away is_own c why (fate_entry (if away then Dropped else return_fate is_own waiting back))
unqueued_may true is_own waiting c why back e linked = refl
unqueued_may false true waiting c why back e linked = e
unqueued_may false false None None why back e linked = refl
unqueued_may false false None (Some numbers) why back e linked = absurd (true≢false (sym linked))
unqueued_may false false (Some count) None why back e linked = absurd (true≢false linked)
unqueued_may false false (Some count) (Some numbers) why back e linked = by (nat_le return_limit count) refl
  where
    by : (b : Bool) → nat_le return_limit count ≡ b → IsUnqueued false false (Some numbers) why (fate_entry (if b then ReturnDropped count else Returned back))
    by true many = inr (count, leb-true return_limit count many, refl)
    by false few = inl e

return_plain : (is_own : Bool) (waiting : Option ℕ) (back : Message) → is_queued (return_fate is_own waiting back) ≡ false
return_plain true waiting back = refl
return_plain false None back = refl
return_plain false (Some count) back = by (nat_le return_limit count)
  where
    by : (b : Bool) → is_queued (if b then ReturnDropped count else Returned back) ≡ false
    by true = refl
    by false = refl

unqueued_plain : (own : ℕ) (waiting : Option ℕ) (why : ℕ) (m : Message) → is_queued (unqueued_fate own waiting why m) ≡ false
unqueued_plain own waiting why (Items withdrawal items) = refl
unqueued_plain own waiting why (Payload importance form from to kind lower upper code droppable body) = by (droppable || not (code == 0)) (return_plain (from.node.word == own) waiting (returned_message why (Payload importance form from to kind lower upper code droppable body)))
  where
    by : (b : Bool) → is_queued (return_fate (from.node.word == own) waiting (returned_message why (Payload importance form from to kind lower upper code droppable body))) ≡ false
        → is_queued (if b then Dropped else return_fate (from.node.word == own) waiting (returned_message why (Payload importance form from to kind lower upper code droppable body))) ≡ false
    by true plain = refl
    by false plain = plain

-- ---- what the sockets hold, and the scene of a fate

module _ (own : Addr) (J : List Entry) (d : Due) (front : List Entry) (s : SocketTable) (h : AreTold own J d front s) (k : AreSockets s) where
  abbrev pub scene : Scene
  scene = scene_at own J d front

  -- a port is there exactly where it is one of the journal's sockets
  there : (port : ℕ) → list_any (λ q. q == port) (sockets J) ≡ has_port s port
  there port =
      list_any_agree (λ q. q == port) (nat_eq port) (λ q. eq_turned q port) (sockets J)
      ∙ ap (λ (ps : List ℕ). list_any (nat_eq port) ps) (sym (k.queues ∙ h.ports))
      ∙ sym (queue_there port s.queues)

  there_below : (port : ℕ) → has_port s port ≡ true → port ≤ port_number s.ports.boot s.ports.made
  there_below port e =
      let at = port_there s port k e in
      subst (λ (n : ℕ). n ≤ port_number s.ports.boot s.ports.made) at.2 (k.present.below at.0 port at.1)

  present_there : (port : ℕ) → list_any (λ q. q == port) s.ports.present ≡ has_port s port
  present_there port = ap (λ (ps : List ℕ). list_any (λ q. q == port) ps) h.ports ∙ there port

  -- whether a port that is there has room
  room_there : (port : ℕ) (ms : List Message) → queue_at s port ≡ Some ms → nat_lt (length ms) inbox_size ≡ room_at scene port
  room_there port ms found = ap (λ (xs : List Message). nat_lt (length xs) inbox_size) (h.queues port ms found)

  -- no publication is at a port that isn't there
  none_at : (port : ℕ) (test : Publication → Bool) (ps : List Publication) → list_all (λ p. has_port s p.at.port) ps ≡ true → has_port s port ≡ false → list_any (λ p. is_at port p && test p) ps ≡ false
  none_at port test [] all gone = refl
  none_at port test (p ∷ ps) all gone =
      let parts = and_parts (has_port s p.at.port) (list_all (λ q. has_port s q.at.port) ps) all in
      let apart : is_at port p ≡ false = not_true (is_at port p) (λ e. true≢false (sym (subst (λ (n : ℕ). has_port s n ≡ true) (eqb-true p.at.port port e) parts.0) ∙ gone)) in
      ap (λ (b : Bool). (b && test p) || list_any (λ q. is_at port q && test q) ps) apart ∙ none_at port test ps parts.1 gone

  some_at : (port : ℕ) (test : Publication → Bool) → list_any (λ p. is_at port p && test p) s.live ≡ true → has_port s port ≡ true
  some_at port test some = by (has_port s port) refl
    where
      by : (b : Bool) → has_port s port ≡ b → b ≡ true
      by true e = refl
      by false e = absurd (true≢false (sym some ∙ none_at port test s.live h.placed e))

  -- ---- multicast

  abbrev pub hears : Bool → Span → ℕ → Bool
  hears arrived range port = list_any (is_at port) (aimed_at s.live arrived range) && may_wait (queue_at s port)

  heard : (arrived : Bool) (range : Span) (port : ℕ) → list_any (is_at port) (aimed_at s.live arrived range) ≡ is_aimed_at scene arrived range port
  heard arrived range port = list_any_filtered (is_at port) (λ p. overlaps range p && counts_for arrived p) s.live ∙ ap (λ (ps : List Publication). list_any (λ p. is_at port p && (overlaps range p && counts_for arrived p)) ps) h.live

  heard_each : (arrived : Bool) (range : Span) (port : ℕ) → list_any (λ q. q == port) (hearers s arrived range) ≡ (is_aimed_at scene arrived range port && room_at scene port)
  heard_each arrived range port =
      any-filter_same (λ q. q == port) (hears arrived range) (hears arrived range port) (λ q e. ap (hears arrived range) (eqb-true q port e)) s.ports.present
      ∙ ap (λ (b : Bool). hears arrived range port && b) (present_there port)
      ∙ by (queue_at s port) refl
    where
      aimed : ℕ → Bool
      aimed n = list_any (is_at n) (aimed_at s.live arrived range)

      by : (found : Option (List Message)) → queue_at s port ≡ found → (aimed port && may_wait found) && is_some found ≡ (is_aimed_at scene arrived range port && room_at scene port)
      by None e =
          and_false (aimed port && false)
          ∙ sym (ap (λ (b : Bool). b && room_at scene port) (sym (heard arrived range port) ∙ list_any_filtered (is_at port) (λ p. overlaps range p && counts_for arrived p) s.live ∙ none_at port (λ p. overlaps range p && counts_for arrived p) s.live h.placed (ap is_some e)))
      by (Some ms) e = and_true (aimed port && nat_lt (length ms) 128) ∙ (λ i. heard arrived range port i && room_there port ms e i)

  pub reached : (arrived : Bool) (range : Span) → AreReached scene arrived range (hearers s arrived range)
  reached arrived range = record {
    rising = IsStrictlySortedBy-filter nat_cmp (hears arrived range) s.ports.present (rising_sorted s.ports.present k.present.rising);
    each = heard_each arrived range;
  }

  -- ---- a message for one port

  room_refused : (port : ℕ) → has_port s port ≡ true → room_refusal (queue_at s port) ≡ (if room_at scene port then None else Some overload)
  room_refused port e = by (queue_at s port) refl e
    where
      by : (found : Option (List Message)) → queue_at s port ≡ found → is_some found ≡ true → room_refusal found ≡ (if room_at scene port then None else Some overload)
      by None found gone = absurd (true≢false (sym gone))
      by (Some ms) found is = ap (λ (b : Bool). if b then None else Some overload) (room_there port ms found)

  pub named_refused : (arrived : Bool) (port kind instance : ℕ) → (arrived ≡ false → has_port s port ≡ true) → refusal s arrived Named port kind instance ≡ why_not_named scene arrived kind instance port
  named_refused true port kind instance sure = by (is_offered s.live port kind instance) refl
    where
      same : is_offered s.live port kind instance ≡ is_named_by scene kind instance port
      same = list_any_agree _ _ (λ p. ap (λ (b : Bool). is_at port p && b) (and_turned (is_clusterwide p.scope) (covers kind instance p))) s.live ∙ ap (λ (ps : List Publication). list_any (λ p. is_at port p && (covers kind instance p && is_clusterwide p.scope)) ps) h.live

      by : (b : Bool) → is_offered s.live port kind instance ≡ b → (if not b then Some no_name else room_refusal (queue_at s port)) ≡ (if not (is_named_by scene kind instance port) then Some no_name else (if room_at scene port then None else Some overload))
      by true e = room_refused port (some_at port _ e) ∙ ap (λ (b : Bool). if not b then Some no_name else (if room_at scene port then None else Some overload)) (sym e ∙ same)
      by false e = ap (λ (b : Bool). if not b then Some no_name else (if room_at scene port then None else Some overload)) (sym e ∙ same)
  named_refused false port kind instance sure = room_refused port (sure refl)

  pub direct_refused : (arrived : Bool) (port kind instance : ℕ) → refusal s arrived Direct port kind instance ≡ why_not_direct scene port
  direct_refused arrived port kind instance =
      ap (λ (b : Bool). if b then Some no_name else room_refusal (queue_at s port)) (and_false arrived) ∙ by (queue_at s port) refl
    where
      by : (found : Option (List Message)) → queue_at s port ≡ found → room_refusal (queue_at s port) ≡ why_not_direct scene port
      by None e =
          ap room_refusal e ∙ ap (λ (b : Bool). if not b then Some no_port else (if room_at scene port then None else Some overload)) (sym (there port ∙ ap is_some e))
      by (Some ms) e =
          room_refused port (ap is_some e) ∙ ap (λ (b : Bool). if not b then Some no_port else (if room_at scene port then None else Some overload)) (sym (there port ∙ ap is_some e))

  -- ---- the fate

  one_port_may : (importance : Importance) (form : Form) (from to : PortId) (kind lower upper code : ℕ) (droppable : Bool) (body : List ℕ) (waiting why : Option ℕ)
      → is_some waiting ≡ is_some (contact (J ++ front) from.node)
      → IsSettled scene (Payload importance form from to kind lower upper code droppable body) why (fate_entry (one_port_fate s.own waiting to.port why (Payload importance form from to kind lower upper code droppable body)))
  one_port_may importance form from to kind lower upper code droppable body waiting None linked = refl
  one_port_may importance form from to kind lower upper code droppable body waiting (Some why) linked =
      let back = returned_message why (Payload importance form from to kind lower upper code droppable body) in
      subst (λ (n : ℕ). IsUnqueued (droppable || not (code == 0)) (from.node.word == own.word) (contact (J ++ front) from.node) why (fate_entry (if droppable || not (code == 0) then Dropped else return_fate (from.node.word == n) waiting back))) (sym h.node)
      (unqueued_may (droppable || not (code == 0)) (from.node.word == own.word) waiting (contact (J ++ front) from.node) why back refl linked)

  pub fate_may : (m : Message) (arrived : Bool) (waiting : Option ℕ) → is_payload m ≡ true → is_some waiting ≡ is_some (contact (J ++ front) (origin_of m)) → (arrived ≡ false → is_for_one_there s m ≡ true)
      → IsFate scene m arrived (fate_entry (fate s arrived waiting m))
  fate_may (Items withdrawal items) arrived waiting user linked sure = absurd (true≢false (sym user))
  fate_may (Payload importance Connected from to kind lower upper code droppable body) arrived waiting user linked sure = refl
  fate_may (Payload importance Multicast from to kind lower upper code droppable body) arrived waiting user linked sure =
      (hearers s arrived (record { kind = kind; lower = lower; upper = upper }), refl, reached arrived (record { kind = kind; lower = lower; upper = upper }))
  fate_may (Payload importance Named from to kind lower upper code droppable body) arrived waiting user linked sure =
      let m = Payload importance Named from to kind lower upper code droppable body in
      let why = refusal s arrived Named to.port kind lower in
      subst (λ (w : Option ℕ). IsSettled scene m w (fate_entry (one_port_fate s.own waiting to.port why m))) (named_refused arrived to.port kind lower sure)
      (one_port_may importance Named from to kind lower upper code droppable body waiting why linked)
  fate_may (Payload importance Direct from to kind lower upper code droppable body) arrived waiting user linked sure =
      let m = Payload importance Direct from to kind lower upper code droppable body in
      let why = refusal s arrived Direct to.port kind lower in
      subst (λ (w : Option ℕ). IsSettled scene m w (fate_entry (one_port_fate s.own waiting to.port why m))) (direct_refused arrived to.port kind lower)
      (one_port_may importance Direct from to kind lower upper code droppable body waiting why linked)

  -- ---- what the sockets hold after it

  port_stays : (m : Message) (ports : List ℕ) (port : ℕ) → has_port (with_queues s (queued_at_each m s.queues ports)) port ≡ has_port s port
  port_stays m ports port =
      queue_there port (queued_at_each m s.queues ports) ∙ ap (λ (ks : List ℕ). list_any (nat_eq port) ks) (keys-queued_at_each m s.queues ports) ∙ sym (queue_there port s.queues)

  module _ (m : Message) (arrived : Bool) (is_due : due_behind own d front ≡ FateDue m arrived) where
    -- the queue of a port behind a Queued
    queue_more : (ports : List ℕ) (port : ℕ) → queue_inside own J d (front ++ entry.Queued ports ∷ []) port ≡ queue_inside own J d front port ++ coming m ports port
    queue_more ports port =
        queue_inside_more own J d front (entry.Queued ports) port ∙ ap (λ (due : Due). queue_inside own J d front port ++ queued_by port due (entry.Queued ports)) is_due

    told_queued : (ports : List ℕ) → IsDistinct nat_eq ports → ((port : ℕ) → list_any (λ q. q == port) ports ≡ true → has_port s port ≡ true)
        → AreTold own J d (front ++ entry.Queued ports ∷ []) (with_queues s (queued_at_each m s.queues ports))
    told_queued ports distinct present = record {
      node = h.node;
      home = home_more own J d front s h (entry.Queued ports) refl;
      live = h.live ∙ sym (live_inside J front (entry.Queued ports));
      names = h.names ∙ sym (names_inside own J front (entry.Queued ports) h.home refl);
      ports = h.ports;
      made = h.made;
      queues = λ port waiting found. by port waiting (queue_at s port) refl (sym (queued_everywhere m s.queues ports port distinct) ∙ found);
      placed = list_all_agree _ _ (λ (p : Publication). port_stays m ports p.at.port) s.live ∙ h.placed;
      unused = λ port above. queue_more ports port ∙ ap (λ (ms : List Message). queue_inside own J d front port ++ ms) (none_comes port above) ∙ append-nil (queue_inside own J d front port) ∙ h.unused port above;
      fed = h.fed;
      watchers = watched_plainly own J d front s h (entry.Queued ports) (record { keeps = λ n b. refl; ticks = λ n b. refl; numbers = λ ns. refl; plain = refl; tells = λ n b. refl }) (λ asked. refl) (λ ps. refl) (λ ps. refl);
    }
      where
        by : (port : ℕ) (waiting : List Message) (found : Option (List Message)) → queue_at s port ≡ found → option_map (λ (ms : List Message). ms ++ coming m ports port) found ≡ Some waiting
            → waiting ≡ queue_inside own J d (front ++ entry.Queued ports ∷ []) port
        by port waiting None e is = absurd cc
        by port waiting (Some ms) e is =
            sym (ap (λ (o : Option (List Message)). unwrap_or o []) is) ∙ ap (λ (xs : List Message). xs ++ coming m ports port) (h.queues port ms e) ∙ sym (queue_more ports port)

        none_comes : (port : ℕ) → port_number s.ports.boot s.ports.made < port → coming m ports port ≡ []
        none_comes port above =
            ap (λ (b : Bool). if b then m ∷ [] else []) (not_true (list_any (λ q. q == port) ports) (λ e. omega (arith, above, there_below port (present port e))))

    quiet : (e : Entry) → ((port : ℕ) → queued_by port (FateDue m arrived) e ≡ []) → (port : ℕ) → queued_by port (due_behind own d front) e ≡ []
    quiet e none port = ap (λ (due : Due). queued_by port due e) is_due ∙ none port

    told_plain : (f : Fate) → is_queued f ≡ false → AreTold own J d (front ++ fate_entry f ∷ []) (after_fate s m f)
    told_plain (Queued ports) plain = absurd (true≢false plain)
    told_plain (Returned (Payload importance form from to kind lower upper code droppable body)) plain = told_entry own J d front s h k (entry.Returned code) refl (quiet (entry.Returned code) (λ port. refl)) refl tt
    told_plain (Returned (Items withdrawal items)) plain = told_entry own J d front s h k (entry.Dropped 0) refl (quiet (entry.Dropped 0) (λ port. refl)) refl tt
    told_plain (ReturnDropped waiting) plain = told_entry own J d front s h k (entry.ReturnDropped waiting) refl (quiet (entry.ReturnDropped waiting) (λ port. refl)) refl tt
    told_plain Dropped plain = told_entry own J d front s h k (entry.Dropped 0) refl (quiet (entry.Dropped 0) (λ port. refl)) refl tt

    told_one_port : (waiting : Option ℕ) (port : ℕ) (why : Option ℕ) → (why ≡ None → has_port s port ≡ true)
        → AreTold own J d (front ++ fate_entry (one_port_fate s.own waiting port why m) ∷ []) (after_fate s m (one_port_fate s.own waiting port why m))
    told_one_port waiting port None sure =
        told_queued (port ∷ []) (one_distinct port) (λ other e. subst (λ (n : ℕ). has_port s n ≡ true) (eqb-true port other (sym (or_false (port == other)) ∙ e)) (sure refl))
    told_one_port waiting port (Some why) sure = told_plain (unqueued_fate s.own waiting why m) (unqueued_plain s.own waiting why m)

  refused_none : (arrived : Bool) (form : Form) (port kind instance : ℕ) → refusal s arrived form port kind instance ≡ None → has_port s port ≡ true
  refused_none arrived form port kind instance e = by (arrived && (is_by_name form && not (is_offered s.live port kind instance))) (queue_at s port) refl e
    where
      by : (b : Bool) (found : Option (List Message)) → queue_at s port ≡ found → (if b then Some no_name else room_refusal (queue_at s port)) ≡ None → has_port s port ≡ true
      by true found is refused = absurd cc
      by false None is refused = absurd (some_is_none no_port (sym (ap room_refusal is) ∙ refused))
      by false (Some ms) is refused = ap is_some is

  pub fate_told : (m : Message) (arrived : Bool) (waiting : Option ℕ) → due_behind own d front ≡ FateDue m arrived
      → AreTold own J d (front ++ fate_entry (fate s arrived waiting m) ∷ []) (after_fate s m (fate s arrived waiting m))
  fate_told (Items withdrawal items) arrived waiting is_due = told_plain (Items withdrawal items) arrived is_due Dropped refl
  fate_told (Payload importance Connected from to kind lower upper code droppable body) arrived waiting is_due = told_plain (Payload importance Connected from to kind lower upper code droppable body) arrived is_due Dropped refl
  fate_told (Payload importance Multicast from to kind lower upper code droppable body) arrived waiting is_due =
      let range : Span = record { kind = kind; lower = lower; upper = upper } in
      told_queued (Payload importance Multicast from to kind lower upper code droppable body) arrived is_due (hearers s arrived range)
      (rising_distinct (hearers s arrived range) (AllPairs-filter (λ (a b : ℕ). a < b) (hears arrived range) s.ports.present k.present.rising))
      (λ port e. and_right (hears arrived range port) (has_port s port) (sym (ap (λ (b : Bool). hears arrived range port && b) (present_there port)) ∙ sym (any-filter_same (λ q. q == port) (hears arrived range) (hears arrived range port) (λ q e. ap (hears arrived range) (eqb-true q port e)) s.ports.present) ∙ e))
  fate_told (Payload importance Named from to kind lower upper code droppable body) arrived waiting is_due =
      told_one_port (Payload importance Named from to kind lower upper code droppable body) arrived is_due waiting to.port (refusal s arrived Named to.port kind lower) (refused_none arrived Named to.port kind lower)
  fate_told (Payload importance Direct from to kind lower upper code droppable body) arrived waiting is_due =
      told_one_port (Payload importance Direct from to kind lower upper code droppable body) arrived is_due waiting to.port (refusal s arrived Direct to.port kind lower) (refused_none arrived Direct to.port kind lower)
