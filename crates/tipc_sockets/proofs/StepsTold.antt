-- One more whole step tells what the sockets hold after its call.
use Rattle.std.proofs.Common.{◌≡◌, ◌<◌, ℕ, suc, zero, ◌+◌, Bool, true, false, not, cond, ◌&&◌, ◌||◌, List, [], ◌∷◌, ◌++◌, length, drop, Option, None, Some, is_some, filter, refl, sym, ap, subst, ◌∙◌, true≢false, eqb-true, arith, length-append}
use Rattle.std.specs.Prelude.{nat_eq, slice_get, option_map, unwrap_or, ◌==◌}
use Rattle.std.specs.Cmp.{nat_eq_equiv}
use Rattle.std.specs.List.{list_all, list_any, IsDistinct}
use Rattle.std.specs.Map.{keys_of, lookup, set_value}
use Rattle.std.proofs.lemmas.Bool.{and_from, and_parts}
use Rattle.std.proofs.lemmas.List.{append-nil}
use Rattle.std.proofs.lemmas.List.Elements.{filter_agree}
use Rattle.std.proofs.lemmas.List.Folds.{list_all-append}
use Rattle.std.proofs.lemmas.Map.{keys-set_value, lookup-remove_entry}
use Rattle.tipc_types.specs.declared.identity.Addr.{Addr}
use Rattle.tipc_types.specs.declared.message_forms.Message.{Message}
use Rattle.tipc_types.specs.declared.node_calls.Event.{Event}
use Rattle.tipc_types.specs.declared.node_calls.EventNote.TheVariants.{Tick}
use Rattle.tipc_types.specs.declared.services.Publication.{Publication}
use Rattle.tipc_types.specs.Tables.{is_of}
use Rattle.tipc_journal.specs.declared.entries.Entry.{Entry}
use Rattle.tipc_journal.specs.declared.entries.Entry.TheVariants.{Answered}
use Rattle.tipc_journal.specs.Dues.{Due, first_due}
use Rattle.tipc_journal.specs.Licensed.{event_given, events_given}
use Rattle.tipc_journal.specs.Matches.{names}
use Rattle.tipc_journal.specs.Names.{live, is_at_home, AreAtHome}
use Rattle.tipc_journal.specs.Prefixes.{list_with}
use Rattle.tipc_journal.specs.Queues.{is_taking, queue_inside, sockets_after}
use Rattle.tipc_journal.specs.Refusals.{is_subscribed, made_by, sockets_made}
use Rattle.tipc_journal.specs.Steps.{NodeStep, step_entries, IsInside, IsWhole}
use Rattle.tipc_journal.proofs.CountLaws.{sockets_made_step}
use Rattle.tipc_journal.proofs.DueLaws.{queue_inside_nil}
use Rattle.tipc_journal.proofs.QueueLaws.{queue_step, sockets_step, IsFed_step}
use Rattle.tipc_journal.proofs.WholeSteps.{live_step, names_step}
use Rattle.tipc_ports.specs.Numbers.{port_number}
use Rattle.tipc_topology.specs.Changing.{due, events_left, of_number, passed, with_event_taken as taken_one, with_kept, with_loss, Watchers}
use Rattle.tipc_sockets.specs.Publishing.{closed, is_at}
use Rattle.tipc_sockets.specs.SocketTables.{has_port, queue_at, with_first_taken, with_queues, with_socket, with_watchers, AreSockets, SocketTable}
use Rattle.tipc_sockets.specs.Telling.{is_tick, AreTold}
use Rattle.tipc_sockets.specs.Watched.{AreWatchersTold}
use Rattle.tipc_sockets.proofs.Closing.{eq_turned, no_loss, or_parts}
use Rattle.tipc_sockets.proofs.Subscribers.{gave_first, told_next, told_quiet, told_tick}
use Rattle.tipc_sockets.proofs.FatesTold.{list_all_agree, lookup_here, rising_distinct, some_is_none}
use Rattle.tipc_sockets.proofs.Counting.{counts_none, filter_none, none_counts}
use Rattle.tipc_sockets.proofs.Keeping.{eq_itself, lookup_elsewhere, own_count, queue_there}

-- the entries of a step that tell of publications as a journal of this node may
home_step : (own : Addr) (J : List Entry) (st : NodeStep) → AreAtHome own (J ++ st.inside) → AreAtHome own ((J ++ step_entries st) ++ [])
home_step own J st home =
    let parts = and_parts (list_all (is_at_home own) J) (list_all (is_at_home own) st.inside) (sym (list_all-append (is_at_home own) J st.inside) ∙ home) in
    ap (λ (es : List Entry). list_all (is_at_home own) es) (append-nil (J ++ step_entries st))
    ∙ list_all-append (is_at_home own) J (step_entries st)
    ∙ and_from _ _ parts.0 (list_all-append (is_at_home own) st.inside (Answered st.caller st.call st.answer ∷ []) ∙ and_from _ true parts.1 refl)

-- what a call changes: the sockets after it, beside those before
pub record IsCalled (own : Addr) (J : List Entry) (st : NodeStep) (s after : SocketTable) : Type 0 where
  pub node : after.own ≡ s.own
  pub live : after.live ≡ s.live
  pub names : after.names ≡ s.names
  pub ports : after.ports.present ≡ sockets_after s.ports.present st.event st.answer
  pub made : after.ports.made ≡ length (list_with (sockets_made J) (made_by st.event st.answer))
  pub queues : (port : ℕ) (waiting : List Message) → queue_at after port ≡ Some waiting → waiting ≡ drop (cond (is_taking port st.event st.answer) 1 0) (queue_inside own J (first_due own st.event st.answer) st.inside port)
  pub placed : list_all (λ p. has_port after p.at.port) s.live ≡ true
  pub unused : (port : ℕ) → port_number after.ports.boot after.ports.made < port → port_number s.ports.boot s.ports.made < port
  pub taken : (port : ℕ) → is_taking port st.event st.answer ≡ true → 0 < length (queue_inside own J (first_due own st.event st.answer) st.inside port)
  pub watchers : AreWatchersTold (J ++ step_entries st) (events_given (J ++ step_entries st)) after.watchers

none_left : {A : Type 0} (n : ℕ) (xs : List A) → xs ≡ [] → drop n xs ≡ []
none_left n xs e = ap (drop n) e ∙ empty n
  where
    empty : {A : Type 0} (n : ℕ) → ◌≡◌ {A = List A} (drop n []) []
    empty zero = refl
    empty (suc n) = refl

-- what waits at a port where one more is made
abbrev or_new : Option (List Message) → Bool → Option (List Message)
or_new None b = cond b (Some []) None
or_new (Some ms) b = Some ms

lookup_last : (port other : ℕ) (queues : List (ℕ × List Message)) → lookup (nat_eq other) (queues ++ (port, []) ∷ []) ≡ or_new (lookup (nat_eq other) queues) (nat_eq other port)
lookup_last port other [] = refl
lookup_last port other (q ∷ qs) = by (nat_eq other q.0) (lookup_last port other qs)
  where
    by : (b : Bool) → lookup (nat_eq other) (qs ++ (port, []) ∷ []) ≡ or_new (lookup (nat_eq other) qs) (nat_eq other port)
        → cond b (Some q.1) (lookup (nat_eq other) (qs ++ (port, []) ∷ [])) ≡ or_new (cond b (Some q.1) (lookup (nat_eq other) qs)) (nat_eq other port)
    by true rest = refl
    by false rest = rest

still_there : (port other : ℕ) (queues : List (ℕ × List Message)) → is_some (lookup (nat_eq other) queues) ≡ true → is_some (lookup (nat_eq other) (queues ++ (port, []) ∷ [])) ≡ true
still_there port other queues there = ap is_some (lookup_last port other queues) ∙ by (lookup (nat_eq other) queues) there
  where
    by : (old : Option (List Message)) → is_some old ≡ true → is_some (or_new old (nat_eq other port)) ≡ true
    by None gone = absurd (true≢false (sym gone))
    by (Some ms) e = refl

list_all_from : {X : Type 0} (f g : X → Bool) → ((x : X) → f x ≡ true → g x ≡ true) → (xs : List X) → list_all f xs ≡ true → list_all g xs ≡ true
list_all_from f g each [] all = refl
list_all_from f g each (x ∷ xs) all =
    let parts = and_parts (f x) (list_all f xs) all in
    and_from _ _ (each x parts.0) (list_all_from f g each xs parts.1)

list_all_apart : (port : ℕ) (s after : SocketTable) (ps : List Publication) → list_any (is_at port) ps ≡ false → list_all (λ p. has_port s p.at.port) ps ≡ true
    → ((other : ℕ) → nat_eq port other ≡ false → has_port after other ≡ has_port s other) → list_all (λ p. has_port after p.at.port) ps ≡ true
list_all_apart port s after [] bare all same = refl
list_all_apart port s after (p ∷ ps) bare all same =
    let parts = and_parts _ _ all in
    let none = or_parts (is_at port p) (list_any (is_at port) ps) bare in
    and_from _ _ (same p.at.port (eq_turned port p.at.port ∙ none.0) ∙ parts.0) (list_all_apart port s after ps none.1 parts.1 same)

none_filtered_out : {X : Type 0} (test : X → Bool) (xs : List X) → list_any test xs ≡ false → filter test xs ≡ []
none_filtered_out test [] none = refl
none_filtered_out test (x ∷ xs) none = by (test x) none (none_filtered_out test xs)
  where
    by : (b : Bool) → b || list_any test xs ≡ false → (list_any test xs ≡ false → filter test xs ≡ []) → cond b (x ∷ filter test xs) (filter test xs) ≡ []
    by true e later = absurd (true≢false e)
    by false e later = later e

module _ (own : Addr) (J : List Entry) (st : NodeStep) (s : SocketTable) (later : Due) (whole : IsWhole J) (inner : IsInside st.inside)
    (h : AreTold own J (first_due own st.event st.answer) st.inside s) where
  queue_after : (port : ℕ) → queue_inside own (J ++ step_entries st) later [] port ≡ drop (cond (is_taking port st.event st.answer) 1 0) (queue_inside own J (first_due own st.event st.answer) st.inside port)
  queue_after port = queue_inside_nil own (J ++ step_entries st) later port ∙ queue_step own J st port whole inner (h.fed port)

  pub told_step : (after : SocketTable) → IsCalled own J st s after → AreTold own (J ++ step_entries st) later [] after
  told_step after c = record {
    node = c.node ∙ h.node;
    home = home_step own J st h.home;
    live = c.live ∙ h.live ∙ sym (live_step J st) ∙ ap (λ (es : List Entry). live es) (sym (append-nil (J ++ step_entries st)));
    names = c.names ∙ h.names ∙ sym (names_step J st) ∙ ap (λ (es : List Entry). names es) (sym (append-nil (J ++ step_entries st)));
    ports = c.ports ∙ ap (λ (ps : List ℕ). sockets_after ps st.event st.answer) h.ports ∙ sym (sockets_step J st whole inner);
    made = c.made ∙ ap (λ (ps : List ℕ). length ps) (sym (sockets_made_step J st whole inner));
    queues = λ port waiting found. c.queues port waiting found ∙ sym (queue_after port);
    placed = ap (λ (ps : List Publication). list_all (λ p. has_port after p.at.port) ps) c.live ∙ c.placed;
    unused = λ port above. queue_after port ∙ none_left _ _ (h.unused port (c.unused port above));
    fed = λ port. IsFed_step own J st port whole inner (h.fed port) (c.taken port);
    watchers = subst (λ (es : List Entry). AreWatchersTold es (events_given (J ++ step_entries st)) after.watchers) (sym (append-nil (J ++ step_entries st))) c.watchers;
  }

  -- ---- what each call changes

  same_queue : (port : ℕ) (waiting : List Message) → is_taking port st.event st.answer ≡ false → queue_at s port ≡ Some waiting
      → waiting ≡ drop (cond (is_taking port st.event st.answer) 1 0) (queue_inside own J (first_due own st.event st.answer) st.inside port)
  same_queue port waiting quiet found =
      h.queues port waiting found ∙ ap (λ (b : Bool). drop (cond b 1 0) (queue_inside own J (first_due own st.event st.answer) st.inside port)) (sym quiet)

  not_taken : (port : ℕ) → is_taking port st.event st.answer ≡ false → is_taking port st.event st.answer ≡ true → 0 < length (queue_inside own J (first_due own st.event st.answer) st.inside port)
  not_taken port quiet taking = absurd (true≢false (sym taking ∙ quiet))

  made_same : made_by st.event st.answer ≡ None → s.ports.made ≡ length (list_with (sockets_made J) (made_by st.event st.answer))
  made_same none = h.made ∙ ap (λ (o : Option ℕ). length (list_with (sockets_made J) o)) (sym none)

  -- the subscriptions behind the step
  abbrev pub WatchedBehind : Watchers → Type 0
  WatchedBehind t = AreWatchersTold (J ++ step_entries st) (events_given (J ++ step_entries st)) t

  -- a step that is no tick and gives no event
  watched_quiet : is_tick st.event ≡ false → ((n : ℕ) → event_given n st.event st.answer ≡ None) → WatchedBehind s.watchers
  watched_quiet still none = told_quiet J st s.watchers whole inner still none h.watchers

  -- no socket is made or closed, and no message is taken
  pub told_watched : (t : Watchers) → ((ports : List ℕ) → sockets_after ports st.event st.answer ≡ ports) → made_by st.event st.answer ≡ None → ((port : ℕ) → is_taking port st.event st.answer ≡ false)
      → WatchedBehind t → AreTold own (J ++ step_entries st) later [] (with_watchers s t)
  told_watched t stay none quiet watched = told_step (with_watchers s t) (record {
    node = refl;
    live = refl;
    names = refl;
    ports = sym (stay s.ports.present);
    made = made_same none;
    queues = λ port waiting found. same_queue port waiting (quiet port) found;
    placed = h.placed;
    unused = λ port above. above;
    taken = λ port taking. not_taken port (quiet port) taking;
    watchers = watched;
  })

  pub told_other : ((ports : List ℕ) → sockets_after ports st.event st.answer ≡ ports) → made_by st.event st.answer ≡ None → ((port : ℕ) → is_taking port st.event st.answer ≡ false)
      → is_tick st.event ≡ false → ((n : ℕ) → event_given n st.event st.answer ≡ None) → AreTold own (J ++ step_entries st) later [] s
  told_other stay none quiet still nothing = told_watched s.watchers stay none quiet (watched_quiet still nothing)

  -- an event of a subscription is given
  pub told_event : (number : ℕ) (e : Event) → ((ports : List ℕ) → sockets_after ports st.event st.answer ≡ ports) → made_by st.event st.answer ≡ None → ((port : ℕ) → is_taking port st.event st.answer ≡ false)
      → is_tick st.event ≡ false → ((n : ℕ) → event_given n st.event st.answer ≡ gave_first number e n) → slice_get (events_left (of_number s.watchers number)) 0 ≡ Some e
      → AreTold own (J ++ step_entries st) later [] (with_watchers s (with_kept s.watchers (taken_one number s.watchers.kept)))
  told_event number e stay none quiet still gives first =
      told_watched _ stay none quiet (told_next J st s.watchers number e whole inner still gives first h.watchers)

  -- a tick passes, in which those that were due have ended
  pub told_passed : ((ports : List ℕ) → sockets_after ports st.event st.answer ≡ ports) → made_by st.event st.answer ≡ None → ((port : ℕ) → is_taking port st.event st.answer ≡ false)
      → st.event ≡ Tick → ((n : ℕ) → event_given n st.event st.answer ≡ None) → list_any is_subscribed st.inside ≡ false → due s.watchers.kept ≡ []
      → AreTold own (J ++ step_entries st) later [] (with_watchers s (passed s.watchers))
  told_passed stay none quiet tick nothing unmade over =
      told_watched _ stay none quiet (told_tick J st s.watchers whole inner tick nothing unmade over h.watchers)

  -- ---- a socket is made

  -- a socket is made at the next port
  pub told_made : (port : ℕ) → port ≡ port_number s.ports.boot (s.ports.made + 1)
      → ((ports : List ℕ) → sockets_after ports st.event st.answer ≡ ports ++ port ∷ []) → made_by st.event st.answer ≡ Some port → ((other : ℕ) → is_taking other st.event st.answer ≡ false)
      → is_tick st.event ≡ false → ((n : ℕ) → event_given n st.event st.answer ≡ None) → AreTold own (J ++ step_entries st) later [] (with_socket s port)
  told_made port is more one quiet still nothing = told_step (with_socket s port) (record {
    node = refl;
    live = refl;
    names = refl;
    ports = sym (more s.ports.present);
    made = ap (λ (n : ℕ). n + 1) h.made ∙ sym (length-append (sockets_made J) (port ∷ [])) ∙ ap (λ (o : Option ℕ). length (list_with (sockets_made J) o)) (sym one);
    queues = λ other waiting found. by other waiting (queue_at s other) refl (sym (lookup_last port other s.queues) ∙ found);
    placed = list_all_from (λ p. has_port s p.at.port) (λ p. has_port (with_socket s port) p.at.port) (λ p there. still_there port p.at.port s.queues there) s.live h.placed;
    unused = λ other above. omega (arith, above);
    taken = λ other taking. not_taken other (quiet other) taking;
    watchers = watched_quiet still nothing;
  })
    where
      by : (other : ℕ) (waiting : List Message) (old : Option (List Message)) → queue_at s other ≡ old → or_new old (nat_eq other port) ≡ Some waiting
          → waiting ≡ drop (cond (is_taking other st.event st.answer) 1 0) (queue_inside own J (first_due own st.event st.answer) st.inside other)
      by other waiting (Some ms) e found = same_queue other waiting (quiet other) (e ∙ found)
      by other waiting None e found = new (nat_eq other port) refl found
        where
          new : (b : Bool) → nat_eq other port ≡ b → cond b (Some []) None ≡ Some waiting → waiting ≡ drop (cond (is_taking other st.event st.answer) 1 0) (queue_inside own J (first_due own st.event st.answer) st.inside other)
          new true here first =
              sym (ap (λ (o : Option (List Message)). unwrap_or o []) first)
              ∙ sym (none_left (cond (is_taking other st.event st.answer) 1 0) _ (h.unused other (omega (arith, is, eqb-true other port here))))
          new false here first = absurd cc

  -- a port without publications is closed
  pub told_closed : (port : ℕ) → AreSockets s → list_any (is_at port) s.live ≡ false
      → ((ports : List ℕ) → sockets_after ports st.event st.answer ≡ filter (λ q. not (q == port)) ports) → made_by st.event st.answer ≡ None → ((other : ℕ) → is_taking other st.event st.answer ≡ false)
      → is_tick st.event ≡ false → ((n : ℕ) → event_given n st.event st.answer ≡ None) → AreTold own (J ++ step_entries st) later [] (closed s port)
  told_closed port k bare fewer none quiet still nothing = told_step (closed s port) (record {
    node = refl;
    live = filter_none (is_at port) s.live bare;
    names = filter_none (λ p. is_of s.own p && is_at port p) s.names (counts_none _ s.names (sym (own_count s.own (is_at port) s.names) ∙ k.live (is_at port) ∙ none_counts (is_at port) s.live bare));
    ports = filter_agree (λ (q : ℕ). not (nat_eq port q)) (λ (q : ℕ). not (nat_eq q port)) (λ q. ap not (eq_turned port q)) s.ports.present ∙ sym (fewer s.ports.present);
    made = made_same none;
    queues = λ other waiting found. same_queue other waiting (quiet other) (by (nat_eq port other) (queue_at s other) (sym (lookup-remove_entry nat_eq_equiv (nat_eq port) (λ x y e. ap (λ (n : ℕ). nat_eq n y) (eqb-true port x e)) other s.queues distinct) ∙ found));
    placed = list_all_apart port s (closed s port) s.live bare h.placed (λ other apart. ap is_some (lookup-remove_entry nat_eq_equiv (nat_eq port) (λ x y e. ap (λ (n : ℕ). nat_eq n y) (eqb-true port x e)) other s.queues distinct ∙ ap (λ (b : Bool). cond b None (queue_at s other)) apart));
    unused = λ other above. above;
    taken = λ other taking. not_taken other (quiet other) taking;
    watchers = subst WatchedBehind (sym (ap (λ (ps : List Publication). with_loss ps s.watchers) (none_filtered_out (is_at port) s.live bare) ∙ no_loss s.watchers)) (watched_quiet still nothing);
  })
    where
      distinct : IsDistinct nat_eq (keys_of s.queues)
      distinct = subst (λ (ks : List ℕ). IsDistinct nat_eq ks) (sym k.queues) (rising_distinct s.ports.present k.present.rising)

      by : {waiting : List Message} (b : Bool) (old : Option (List Message)) → cond b None old ≡ Some waiting → old ≡ Some waiting
      by true old found = absurd cc
      by false old found = found

  -- the first message of a port is taken
  pub told_taken : (port : ℕ) → 0 < length (unwrap_or (queue_at s port) [])
      → ((ports : List ℕ) → sockets_after ports st.event st.answer ≡ ports) → made_by st.event st.answer ≡ None → ((other : ℕ) → is_taking other st.event st.answer ≡ nat_eq port other)
      → is_tick st.event ≡ false → ((n : ℕ) → event_given n st.event st.answer ≡ None) → AreTold own (J ++ step_entries st) later [] (with_queues s (with_first_taken s.queues port))
  told_taken port some stay none takes still nothing = told_step (with_queues s (with_first_taken s.queues port)) (record {
    node = refl;
    live = refl;
    names = refl;
    ports = sym (stay s.ports.present);
    made = made_same none;
    queues = λ other waiting found. by other waiting (nat_eq port other) refl found;
    placed = list_all_agree _ _ (λ (p : Publication). port_stays p.at.port) s.live ∙ h.placed;
    unused = λ other above. above;
    taken = λ other taking. there other (eqb-true port other (sym (takes other) ∙ taking)) (queue_at s port) refl some;
    watchers = watched_quiet still nothing;
  })
    where
      rest : List Message
      rest = drop 1 (unwrap_or (lookup (nat_eq port) s.queues) [])

      port_stays : (other : ℕ) → has_port (with_queues s (with_first_taken s.queues port)) other ≡ has_port s other
      port_stays other = queue_there other (with_first_taken s.queues port) ∙ ap (λ (ks : List ℕ). list_any (nat_eq other) ks) (keys-set_value (nat_eq port) s.queues rest) ∙ sym (queue_there other s.queues)

      inside : ℕ → List Message
      inside other = queue_inside own J (first_due own st.event st.answer) st.inside other

      at_port : (waiting : List Message) → lookup (nat_eq port) (set_value (nat_eq port) s.queues rest) ≡ Some waiting → waiting ≡ drop 1 (inside port)
      at_port waiting found = first (queue_at s port) refl (sym (lookup_here port s.queues rest) ∙ found)
        where
          first : (old : Option (List Message)) → queue_at s port ≡ old → option_map (λ _. rest) (queue_at s port) ≡ Some waiting → waiting ≡ drop 1 (inside port)
          first None e is = absurd (some_is_none waiting (sym is ∙ ap (option_map (λ _. rest)) e))
          first (Some ms) e is =
              sym (ap (λ (o : Option (List Message)). unwrap_or o []) (sym (ap (option_map (λ _. rest)) e) ∙ is))
              ∙ ap (λ (o : Option (List Message)). drop 1 (unwrap_or o [])) e
              ∙ ap (λ (xs : List Message). drop 1 xs) (h.queues port ms e)

      by : (other : ℕ) (waiting : List Message) (b : Bool) → nat_eq port other ≡ b → lookup (nat_eq other) (set_value (nat_eq port) s.queues rest) ≡ Some waiting
          → waiting ≡ drop (cond (is_taking other st.event st.answer) 1 0) (inside other)
      by other waiting true here found =
          subst (λ (n : ℕ). (w : List Message) → lookup (nat_eq n) (set_value (nat_eq port) s.queues rest) ≡ Some w → w ≡ drop 1 (inside n)) (eqb-true port other here) at_port waiting found
          ∙ ap (λ (b : Bool). drop (cond b 1 0) (inside other)) (sym (takes other ∙ here))
      by other waiting false here found =
          same_queue other waiting (takes other ∙ here) (sym (lookup_elsewhere port other s.queues rest (λ e. true≢false (sym (ap (nat_eq port) e ∙ eq_itself port) ∙ here))) ∙ found)

      there : (other : ℕ) → port ≡ other → (old : Option (List Message)) → queue_at s port ≡ old → 0 < length (unwrap_or (queue_at s port) []) → 0 < length (inside other)
      there other is old e waits = subst (λ (n : ℕ). 0 < length (inside n)) is (here old e (subst (λ (o : Option (List Message)). 0 < length (unwrap_or o [])) e waits))
        where
          here : (old : Option (List Message)) → queue_at s port ≡ old → 0 < length (unwrap_or old []) → 0 < length (inside port)
          here None e waits = absurd (omega (arith, waits))
          here (Some ms) e waits = subst (λ (xs : List Message). 0 < length xs) (h.queues port ms e) waits
