-- One more entry that is no fate tells what the sockets hold after it.
use Rattle.std.proofs.Common.{◌≡◌, ◌+◌, ◌-◌, ◌≤◌, ℕ, Bool, true, false, not, cond, ◌&&◌, List, [], ◌∷◌, ◌++◌, length, Option, None, Some, append_assoc, filter, fold, if◌then◌else◌, refl, sym, ap, subst, ◌∙◌, eqb-true, arith}
use Rattle.std.specs.Prelude.{count_by, find, nat_eq, ◌==◌}
use Rattle.std.specs.List.{list_all}
use Rattle.std.proofs.lemmas.Bool.{and_from, and_parts}
use Rattle.std.proofs.lemmas.List.{append-nil}
use Rattle.std.proofs.lemmas.List.Folds.{list_all-append}
use Rattle.tipc_types.specs.declared.identity.Addr.{Addr}
use Rattle.tipc_types.specs.declared.message_forms.Message.{Message}
use Rattle.tipc_types.specs.declared.services.Publication.{Publication}
use Rattle.tipc_types.specs.declared.node_calls.Subscription.{Subscription}
use Rattle.tipc_types.specs.Watching.{in_order, is_same_name, is_watched}
use Rattle.tipc_types.specs.Tables.{is_named, is_of, without, without_node}
use Rattle.tipc_types.proofs.Places.{count_by-kept}
use Rattle.tipc_journal.specs.declared.entries.Entry.{Entry}
use Rattle.tipc_journal.specs.declared.entries.Entry.TheVariants.{Published, Withdrawn, Learned, Forgot, ContactDown, Subscribed, Cancelled, TimedOut, Step}
use Rattle.tipc_journal.specs.Dues.{Due, due_behind}
use Rattle.tipc_journal.specs.Matches.{names_after}
use Rattle.tipc_journal.specs.Licensed.{events_given}
use Rattle.tipc_journal.specs.Names.{learned, learned_after, live, live_after, is_at_home, table, AreAtHome}
use Rattle.tipc_journal.specs.Queues.{queued_by, queue_inside}
use Rattle.tipc_journal.specs.Subscriptions.{change_events as entry_events, subscriptions, watching}
use Rattle.tipc_journal.proofs.CountLaws.{events_given_nil, sockets_made_nil, subscriptions_made_nil}
use Rattle.tipc_journal.proofs.DueLaws.{queue_inside_more, queue_inside_nil}
use Rattle.tipc_journal.proofs.Insides.{live_inside, names_inside}
use Rattle.tipc_journal.proofs.MatchLaws.{live_at_home, names_more, names_nil, AreAtHome_more}
use Rattle.tipc_journal.proofs.NameLaws.{learned_more, live_more, live_nil}
use Rattle.tipc_journal.proofs.QueueLaws.{queue_nil, sockets_nil, IsFed_nil}
use Rattle.tipc_journal.proofs.SubscriptionLaws.{transitions_nil}
use Rattle.tipc_topology.specs.declared.changes.TableChange.TheVariants.{Added, Removed, Purged}
use Rattle.tipc_topology.specs.Changing.{changed, subscribed, with_loss, with_room_for, Watchers}
use Rattle.tipc_sockets.specs.Entries.{change_of}
use Rattle.tipc_topology.specs.Transitions.{left_by, AreRemovable}
use Rattle.tipc_topology.specs.Watchers.{added, removed}
use Rattle.tipc_topology.proofs.Keeping.{changed_kept, loss_kept, none_kept}
use Rattle.tipc_topology.proofs.Counts.{count_parted}
use Rattle.tipc_topology.proofs.Following.{count_in_order}
use Rattle.tipc_sockets.proofs.Placing.{in_order_arranged}
use Rattle.tipc_topology.proofs.Removable.{counted_without, found_only, part_removable, AreNamed}
use Rattle.tipc_topology.proofs.Removing.{counted_left}
use Rattle.tipc_sockets.specs.SocketTables.{has_port, no_sockets, with_publications, AreSockets, SocketTable}
use Rattle.tipc_sockets.specs.Telling.{after_entry, is_placed, AreTold, MayFollow}
use Rattle.tipc_sockets.specs.Watched.{AreWatchersTold}
use Rattle.tipc_sockets.proofs.Closing.{eq_turned, names_once}
use Rattle.tipc_sockets.proofs.Counting.{count_by-append, count_by-filter, count_by-one}
use Rattle.tipc_sockets.proofs.Watched.{count_by_arranged, told_cancelled, told_changed, told_ended, told_plainly, told_roomed, told_subscribed, IsQuiet, SameCounts}

-- ---- no entry at all

no_subscriptions : ◌≡◌ {A = List ℕ} [] (subscriptions [])
unfolding subscriptions
no_subscriptions = refl

none_watching : (number : ℕ) → watching [] number ≡ None
unfolding watching
none_watching number = refl

pub told_nil : (own : Addr) (boot : ℕ) (d : Due) → AreTold own [] d [] (no_sockets own.word boot)
told_nil own boot d = record {
  node = refl;
  home = refl;
  live = sym live_nil;
  names = sym names_nil;
  ports = sym sockets_nil;
  made = ap (λ (ps : List ℕ). length ps) (sym sockets_made_nil);
  queues = λ port waiting e. absurd (none_waits waiting e);
  placed = refl;
  unused = λ port above. queue_inside_nil own [] d port ∙ queue_nil own port;
  fed = λ port. IsFed_nil own port;
  watchers = record {
    kept = none_kept;
    made = sym subscriptions_made_nil;
    numbers = no_subscriptions;
    each = tt;
    later = λ number above. record { asked = none_watching number; events = transitions_nil number; given = events_given_nil number };
  };
}
  where
    none_waits : (waiting : List Message) → ◌≡◌ {A = Option (List Message)} None (Some waiting) → ⊥
    none_waits waiting e = cc

-- ---- own publications and those of others

list_all_kept : (test kept : Publication → Bool) (ps : List Publication) → list_all test ps ≡ true → list_all test (filter kept ps) ≡ true
list_all_kept test kept [] all = refl
list_all_kept test kept (p ∷ ps) all =
    let parts = and_parts (test p) (list_all test ps) all in
    by (kept p) parts.0 (list_all_kept test kept ps parts.1)
  where
    by : (b : Bool) → test p ≡ true → list_all test (filter kept ps) ≡ true → list_all test (cond b (p ∷ filter kept ps) (filter kept ps)) ≡ true
    by true here later = and_from (test p) (list_all test (filter kept ps)) here later
    by false here later = later

-- of own publications those of a key are taken out
without_own : (own key : ℕ) (ps : List Publication) → list_all (is_of own) ps ≡ true → without own key ps ≡ filter (λ p. not (key == p.key)) ps
without_own own key [] all = refl
without_own own key (p ∷ ps) all =
    let parts = and_parts (is_of own p) (list_all (is_of own) ps) all in
    let same : is_named own key p ≡ nat_eq key p.key = ap (λ (b : Bool). b && nat_eq p.key key) parts.0 ∙ eq_turned p.key key in
    let later = without_own own key ps parts.1 in
    (λ i. cond (not (same i)) (p ∷ later i) (later i))

apart : (own node a : ℕ) → nat_eq node own ≡ false → nat_eq a own ≡ true → nat_eq a node ≡ false
apart own node a other here =
    eq_turned a node ∙ ap (λ (n : ℕ). nat_eq node n) (eqb-true _ _ here) ∙ other

-- of own publications none of another node is taken out
without_other : (own node key : ℕ) (ps : List Publication) → nat_eq node own ≡ false → list_all (is_of own) ps ≡ true → without node key ps ≡ ps
without_other own node key [] other all = refl
without_other own node key (p ∷ ps) other all =
    let parts = and_parts (is_of own p) (list_all (is_of own) ps) all in
    let here : is_named node key p ≡ false = ap (λ (b : Bool). b && nat_eq p.key key) (apart own node p.at.node.word other parts.0) in
    let later = without_other own node key ps other parts.1 in
    (λ i. cond (not (here i)) (p ∷ later i) (later i))

without_other_node : (own node : ℕ) (ps : List Publication) → nat_eq node own ≡ false → list_all (is_of own) ps ≡ true → without_node node ps ≡ ps
without_other_node own node [] other all = refl
without_other_node own node (p ∷ ps) other all =
    let parts = and_parts (is_of own p) (list_all (is_of own) ps) all in
    let here : is_of node p ≡ false = apart own node p.at.node.word other parts.0 in
    let later = without_other_node own node ps other parts.1 in
    (λ i. cond (not (here i)) (p ∷ later i) (later i))

-- ---- one more entry

module _ (own : Addr) (J : List Entry) (d : Due) (front : List Entry) (s : SocketTable) (h : AreTold own J d front s) where
  -- the live publications are of this node
  pub live_own : list_all (is_of own.word) s.live ≡ true
  live_own = ap (λ (ps : List Publication). list_all (is_of own.word) ps) h.live ∙ live_at_home own (J ++ front) h.home

  -- an entry by which nothing comes into a queue
  quiet_queue : (e : Entry) → ((port : ℕ) → queued_by port (due_behind own d front) e ≡ []) → (port : ℕ) → queue_inside own J d (front ++ e ∷ []) port ≡ queue_inside own J d front port
  quiet_queue e quiet port =
      queue_inside_more own J d front e port ∙ ap (λ (ms : List Message). queue_inside own J d front port ++ ms) (quiet port) ∙ append-nil (queue_inside own J d front port)

  pub home_more : (e : Entry) → is_at_home own e ≡ true → AreAtHome own (J ++ (front ++ e ∷ []))
  home_more e home = ap (λ (es : List Entry). list_all (is_at_home own) es) (sym (append_assoc J front (e ∷ []))) ∙ AreAtHome_more own (J ++ front) e h.home home

  -- the subscriptions behind one more entry
  abbrev pub WatchedWith : Entry → Watchers → Type 0
  WatchedWith e t = AreWatchersTold (J ++ (front ++ e ∷ [])) (events_given J) t

  last_entry : (e : Entry) (t : Watchers) → AreWatchersTold ((J ++ front) ++ e ∷ []) (events_given J) t → WatchedWith e t
  last_entry e t told = subst (λ (es : List Entry). AreWatchersTold es (events_given J) t) (append_assoc J front (e ∷ [])) told

  pub told_with : (e : Entry) (ps ns : List Publication) (t : Watchers) → is_at_home own e ≡ true → ((port : ℕ) → queued_by port (due_behind own d front) e ≡ [])
      → ps ≡ live_after s.live e → ns ≡ names_after s.names e → list_all (λ p. has_port s p.at.port) ps ≡ true → WatchedWith e t
      → AreTold own J d (front ++ e ∷ []) (with_publications s ns ps t)
  told_with e ps ns t home quiet lived named placed watched = record {
    node = h.node;
    home = home_more e home;
    live = lived ∙ ap (λ (qs : List Publication). live_after qs e) h.live ∙ sym (live_inside J front e);
    names = named ∙ ap (λ (qs : List Publication). names_after qs e) h.names ∙ sym (names_inside own J front e h.home home);
    ports = h.ports;
    made = h.made;
    queues = λ port waiting found. h.queues port waiting found ∙ sym (quiet_queue e quiet port);
    placed = placed;
    unused = λ port above. quiet_queue e quiet port ∙ h.unused port above;
    fed = h.fed;
    watchers = watched;
  }

  -- an entry that subscribers aren't told of
  pub watched_plainly : (e : Entry) → IsQuiet e → ((asked : Subscription) → entry_events asked (table (J ++ front)) e ≡ [])
      → ((ps : List Publication) → live_after ps e ≡ ps) → ((ps : List Publication) → learned_after ps e ≡ ps) → WatchedWith e s.watchers
  watched_plainly e q none live theirs = last_entry e s.watchers (told_plainly (J ++ front) (events_given J) s.watchers e h.watchers q none live theirs)

  -- ---- what subscribers are told

  -- what is there before the entry
  abbrev known : List Publication
  known = table (J ++ front)

  same_counts : SameCounts s.names known
  same_counts test = ap (λ (ps : List Publication). count_by test ps) h.names ∙ count_by_arranged test known

  counts_after : (e : Entry) (ps : List Publication) → is_at_home own e ≡ true → names_after s.names e ≡ ps → SameCounts ps (table ((J ++ front) ++ e ∷ []))
  counts_after e ps home is test =
      ap (λ (qs : List Publication). count_by test qs) (sym is ∙ ap (λ (qs : List Publication). names_after qs e) h.names ∙ sym (names_more own (J ++ front) e h.home home))
      ∙ count_by_arranged test (table ((J ++ front) ++ e ∷ []))

  module _ (k : AreSockets s) where
    once : (node key : ℕ) → count_by (is_named node key) known ≤ 1
    once node key = subst (λ (n : ℕ). n ≤ 1) (same_counts (is_named node key)) (k.names.named node key)

    named_once : AreNamed known
    named_once p = subst (λ (n : ℕ). n ≤ 1) (same_counts (is_same_name p)) (names_once s.names k.names p)

    -- they are told of in the same order
    order : (test : Publication → Bool) → in_order (filter test s.names) ≡ in_order (filter test known)
    order test = ap (λ (ps : List Publication). in_order (filter test ps)) h.names ∙ in_order_arranged test known once

    -- one more is known
    watched_added : (e : Entry) (p : Publication) → IsQuiet e → change_of known e ≡ Some (Added p) → SameCounts (known ++ p ∷ []) (table ((J ++ front) ++ e ∷ []))
        → WatchedWith e (changed (Added p) s.watchers)
    watched_added e p q is same =
        last_entry e (changed (Added p) s.watchers)
        (told_changed (J ++ front) (events_given J) (with_room_for 1 s.watchers) (λ w. added w p) ((with_room_for 1 s.watchers).room - 1) e (Added p)
        (told_roomed (J ++ front) (events_given J) 1 s.watchers h.watchers) (changed_kept (Added p) s.watchers h.watchers.kept) (λ w. refl) q is tt same)

    counted_published : (p : Publication) → SameCounts (known ++ p ∷ []) (table ((J ++ front) ++ Published p ∷ []))
    counted_published p test =
        let whole = count_by-append test known (p ∷ []) in
        let parts = count_by-append test (live (J ++ front)) (learned (J ++ front)) in
        let after = ap (λ (ps : List Publication). count_by test ps) (λ i. live_more (J ++ front) (Published p) i ++ learned_more (J ++ front) (Published p) i) in
        let later = count_by-append test (live (J ++ front) ++ p ∷ []) (learned (J ++ front)) in
        let own = count_by-append test (live (J ++ front)) (p ∷ []) in
        omega (arith, whole, parts, after, later, own)

    counted_learned : (p : Publication) → SameCounts (known ++ p ∷ []) (table ((J ++ front) ++ Learned p ∷ []))
    counted_learned p test =
        ap (λ (ps : List Publication). count_by test ps)
        (append_assoc (live (J ++ front)) (learned (J ++ front)) (p ∷ []) ∙ sym (λ i. live_more (J ++ front) (Learned p) i ++ learned_more (J ++ front) (Learned p) i))

    -- one isn't known any more
    watched_removed : (e : Entry) (p : Publication) → IsQuiet e → is_at_home own e ≡ true → change_of known e ≡ Some (Removed p)
        → names_after s.names e ≡ without p.at.node.word p.key s.names → find (is_named p.at.node.word p.key) s.names ≡ Some p
        → WatchedWith e (with_loss (filter (is_named p.at.node.word p.key) s.names) s.watchers)
    watched_removed e p q home is left found =
        last_entry e _ (subst (λ (ps : List Publication). AreWatchersTold ((J ++ front) ++ e ∷ []) (events_given J) (with_loss ps s.watchers)) (sym only)
        (told_changed (J ++ front) (events_given J) s.watchers (λ w. fold removed w (p ∷ [])) s.watchers.room e (Removed p)
        h.watchers (loss_kept (p ∷ []) s.watchers h.watchers.kept) (λ w. refl) q is may
        (λ test. lost test ∙ counts_after e (without p.at.node.word p.key s.names) home left test)))
      where
        only : filter (is_named p.at.node.word p.key) s.names ≡ p ∷ []
        only = found_only (is_named p.at.node.word p.key) p s.names (k.names.named p.at.node.word p.key) found

        parted : (test : Publication → Bool) → count_by test s.names ≡ count_by test (p ∷ []) + count_by test (without p.at.node.word p.key s.names)
        parted test = count_parted test (is_named p.at.node.word p.key) s.names ∙ ap (λ (ps : List Publication). count_by test ps + count_by test (without p.at.node.word p.key s.names)) only

        may : AreRemovable known (p ∷ [])
        may = part_removable (p ∷ []) known (λ test. let parts = parted test in let same = same_counts test in omega (arith, parts, same)) named_once

        lost : (test : Publication → Bool) → count_by test (left_by known p) ≡ count_by test (without p.at.node.word p.key s.names)
        lost test =
            let parts = parted test in
            let same = same_counts test in
            let rest = counted_left test known p may.0 in
            let one = count_by-one test p in
            omega (arith, parts, same, rest, one)

    -- those of a peer aren't known any more
    watched_purged : (e : Entry) (node : ℕ) → IsQuiet e → is_at_home own e ≡ true → change_of known e ≡ Some (Purged (filter (is_of node) known))
        → names_after s.names e ≡ without_node node s.names → WatchedWith e (with_loss (in_order (filter (is_of node) s.names)) s.watchers)
    watched_purged e node q home is left =
        last_entry e _
        (told_changed (J ++ front) (events_given J) s.watchers (λ w. fold removed w (in_order (filter (is_of node) s.names))) s.watchers.room e (Purged (filter (is_of node) known))
        h.watchers (loss_kept (in_order (filter (is_of node) s.names)) s.watchers h.watchers.kept)
        (λ w. ap (λ (ps : List Publication). fold removed w ps) (order (is_of node))) q is may
        (λ test. lost test ∙ counts_after e (without_node node s.names) home left test))
      where
        gone : List Publication
        gone = in_order (filter (is_of node) known)

        may : AreRemovable known gone
        may = part_removable gone known (λ test. let all = count_in_order test (filter (is_of node) known) in let fewer = count_by-kept test (is_of node) known in omega (arith, all, fewer)) named_once

        lost : (test : Publication → Bool) → count_by test (fold left_by known gone) ≡ count_by test (without_node node s.names)
        lost test =
            let parts = count_parted test (is_of node) s.names in
            let same = same_counts test in
            let rest = counted_without test gone known may in
            let all = count_in_order test (filter (is_of node) known) in
            let ours = count_by-filter test (is_of node) s.names in
            let theirs = count_by-filter test (is_of node) known in
            let both = same_counts (λ p. is_of node p && test p) in
            omega (arith, parts, same, rest, all, ours, theirs, both)

    -- a subscription is made
    watched_subscribed : (number : ℕ) (asked : Subscription) → number ≡ s.watchers.made + 1 → WatchedWith (Subscribed number asked) (subscribed asked s.names s.watchers)
    watched_subscribed number asked is =
        last_entry (Subscribed number asked) _
        (subst (λ (n : ℕ). AreWatchersTold ((J ++ front) ++ Subscribed n asked ∷ []) (events_given J) (subscribed asked s.names s.watchers)) (sym is)
        (told_subscribed (J ++ front) (events_given J) s.watchers asked s.names h.watchers (order (is_watched asked))))

  own_here : (p : Publication) → nat_eq p.at.node.word own.word ≡ true → is_of s.own p ≡ true
  own_here p e = ap (λ (n : ℕ). nat_eq p.at.node.word n) h.node ∙ e

  not_own : (b : Bool) → not b ≡ true → b ≡ false
  not_own true e = sym e
  not_own false e = refl

  other_here : (p : Publication) → not (nat_eq p.at.node.word own.word) ≡ true → is_of s.own p ≡ false
  other_here p e = ap (λ (n : ℕ). nat_eq p.at.node.word n) h.node ∙ not_own (nat_eq p.at.node.word own.word) e

  pub told_entry : AreSockets s → (e : Entry) → is_at_home own e ≡ true → ((port : ℕ) → queued_by port (due_behind own d front) e ≡ []) → is_placed s e ≡ true
      → MayFollow s e → AreTold own J d (front ++ e ∷ []) (after_entry s e)
  told_entry k (Published p) home quiet there may =
      let mine = ap (λ (b : Bool). if b then s.live ++ p ∷ [] else s.live) (own_here p home) in
      told_with (Published p) _ _ _ home quiet mine refl
      (ap (λ (ps : List Publication). list_all (λ q. has_port s q.at.port) ps) mine ∙ list_all-append (λ q. has_port s q.at.port) s.live (p ∷ []) ∙ and_from _ _ h.placed (and_from _ true there refl))
      (watched_added k (Published p) p (record { keeps = λ n b. refl; ticks = λ n b. refl; numbers = λ ns. refl; plain = refl; tells = λ n b. refl }) refl (counted_published k p))
  told_entry k (Learned p) home quiet there may =
      let theirs = ap (λ (b : Bool). if b then s.live ++ p ∷ [] else s.live) (other_here p home) in
      told_with (Learned p) _ _ _ home quiet theirs refl (ap (λ (ps : List Publication). list_all (λ q. has_port s q.at.port) ps) theirs ∙ h.placed)
      (watched_added k (Learned p) p (record { keeps = λ n b. refl; ticks = λ n b. refl; numbers = λ ns. refl; plain = refl; tells = λ n b. refl }) refl (counted_learned k p))
  told_entry k (Withdrawn p) home quiet there may =
      let is : p.at.node.word ≡ own.word = eqb-true _ _ home in
      told_with (Withdrawn p) _ _ _ home quiet
      (ap (λ (n : ℕ). without n p.key s.live) is ∙ without_own own.word p.key s.live live_own) refl
      (list_all_kept (λ q. has_port s q.at.port) (λ q. not (is_named p.at.node.word p.key q)) s.live h.placed)
      (watched_removed k (Withdrawn p) p (record { keeps = λ n b. refl; ticks = λ n b. refl; numbers = λ ns. refl; plain = refl; tells = λ n b. refl }) home refl refl may)
  told_entry k (Forgot p) home quiet there may =
      told_with (Forgot p) _ _ _ home quiet
      (without_other own.word p.at.node.word p.key s.live (not_own _ home) live_own) refl
      (list_all_kept (λ q. has_port s q.at.port) (λ q. not (is_named p.at.node.word p.key q)) s.live h.placed)
      (watched_removed k (Forgot p) p (record { keeps = λ n b. refl; ticks = λ n b. refl; numbers = λ ns. refl; plain = refl; tells = λ n b. refl }) home refl refl may)
  told_entry k (ContactDown peer numbers states shown) home quiet there may =
      told_with (ContactDown peer numbers states shown) _ _ _ home quiet
      (without_other_node own.word peer.word s.live (not_own _ home) live_own) refl
      (list_all_kept (λ q. has_port s q.at.port) (λ q. not (is_of peer.word q)) s.live h.placed)
      (watched_purged k (ContactDown peer numbers states shown) peer.word (record { keeps = λ n b. refl; ticks = λ n b. refl; numbers = λ ns. refl; plain = refl; tells = λ n b. refl }) home refl refl)
  told_entry k (Subscribed number asked) home quiet there may = told_with (Subscribed number asked) _ _ _ home quiet refl refl h.placed (watched_subscribed k number asked may)
  told_entry k (Cancelled number) home quiet there may =
      told_with (Cancelled number) _ _ _ home quiet refl refl h.placed (last_entry (Cancelled number) _ (told_cancelled (J ++ front) (events_given J) s.watchers number h.watchers))
  told_entry k (TimedOut number) home quiet there may =
      told_with (TimedOut number) _ _ _ home quiet refl refl h.placed (last_entry (TimedOut number) _ (told_ended (J ++ front) (events_given J) s.watchers number h.watchers))
  told_entry k (Step by event) home quiet there may = absurd may
  told_entry k e home quiet there may =
      told_with e s.live s.names s.watchers home quiet refl refl h.placed
      (watched_plainly e (record { keeps = λ n b. refl; ticks = λ n b. refl; numbers = λ ns. refl; plain = refl; tells = λ n b. refl }) (λ asked. refl) (λ ps. refl) (λ ps. refl))
