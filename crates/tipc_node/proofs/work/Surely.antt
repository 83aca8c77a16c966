-- Messages that surely wait at their ports wait there, one after the other.
use Rattle.std.proofs.Common.{◌≡◌, ℕ, ◌+◌, ◌≤◌, ◌&&◌, true, List, [], ◌∷◌, ◌++◌, Option, Some, None, refl, sym, ap, subst, ◌∙◌, arith, append-nil, append_assoc}
use Rattle.std.specs.List.{list_all}
use Rattle.std.proofs.lemmas.List.Sums.{sum_by-cons}
use Rattle.tipc_types.specs.declared.message_forms.Message.{Message}
use Rattle.tipc_types.specs.declared.message_forms.Message.TheVariants.{Items, Payload}
use Rattle.tipc_outside.specs.Frames.{Out}
use Rattle.tipc_outside.proofs.Adding.{adds_none}
use Rattle.tipc_sockets.specs.declared.fates.Fate.{Fate}
use Rattle.tipc_sockets.specs.Fates.{surely_waits, with_waiting}
use Rattle.tipc_sockets.specs.SocketTables.{SocketTable}
use Rattle.tipc_sockets.specs.Telling.{is_payload}
use Rattle.tipc_sockets.proofs.Waiting.{sure_fate, waits_among, waits_behind}
use Rattle.tipc_node.specs.declared.frames.Delivery.{Delivery}
use Rattle.tipc_node.specs.Hearings.{is_plain, AllDelivered, Settled}
use Rattle.tipc_node.specs.Nodes.{entries_in, message_count, taken_count}
use Rattle.tipc_node.specs.Sure.{all_wait, are_sure, message_of, messages_in, told_in, waiting_entries, waits_surely, with_all_waiting}
use Rattle.tipc_node.specs.Works.{Follows, Work, work_of}
use Rattle.tipc_node.proofs.work.Delivering.{delivered_first, delivered_none, delivered_some, nothing_delivered, took_user}
use Rattle.tipc_pair.proofs.EndSteps.{up_part as and_left}
use Rattle.tipc_pair.proofs.Quietly.{second_of as and_right}

-- ---- behind one that waits

one_behind : (s : SocketTable) (count : ℕ) (m : Message) (other : Option Message) → waits_surely s (count + 1) other ≡ true → waits_surely (with_waiting s m) count other ≡ true
one_behind s count m None h = refl
one_behind s count m (Some other) h = waits_behind s count other m h

all_behind : (s : SocketTable) (count : ℕ) (m : Message) (ds : List Delivery) → all_wait s (count + 1) ds ≡ true → all_wait (with_waiting s m) count ds ≡ true
all_behind s count m [] h = refl
all_behind s count m (d ∷ ds) h =
    let first = one_behind s count m d.message (and_left (waits_surely s (count + 1) d.message) (all_wait s (count + 1) ds) h) in
    rw first (all_behind s count m ds (and_right (waits_surely s (count + 1) d.message) (all_wait s (count + 1) ds) h))

-- how many messages there are
counted : (d : Delivery) (ds : List Delivery) → message_count (d ∷ ds) ≡ taken_count d.message + message_count ds
counted d ds = sum_by-cons (λ (e : Delivery). taken_count e.message) d ds

-- one more message, and those behind it
some_counted : (d : Delivery) (ds : List Delivery) (m : Message) → d.message ≡ Some m → message_count (d ∷ ds) ≡ message_count ds + 1
some_counted d ds m is = let one : taken_count d.message ≡ 1 = ap taken_count is in let all = counted d ds in omega (arith, one, all)

none_counted : (d : Delivery) (ds : List Delivery) → d.message ≡ None → message_count (d ∷ ds) ≡ message_count ds
none_counted d ds is = let none : taken_count d.message ≡ 0 = ap taken_count is in let all = counted d ds in omega (arith, none, all)

-- ---- each waits

some_sure : (s : SocketTable) (d : Delivery) (ds : List Delivery) (m : Message) → d.message ≡ Some m → all_wait s (message_count (d ∷ ds)) (d ∷ ds) ≡ true
    → (surely_waits s (message_count ds + 1) m ≡ true) × (all_wait s (message_count ds + 1) ds ≡ true)
some_sure s d ds m is h =
    let both : (waits_surely s (message_count ds + 1) d.message && all_wait s (message_count ds + 1) ds) ≡ true = ap (λ k. waits_surely s k d.message && all_wait s k ds) (sym (some_counted d ds m is)) ∙ h in (
      ap (waits_surely s (message_count ds + 1)) (sym is) ∙ and_left _ _ both,
      and_right (waits_surely s (message_count ds + 1) d.message) (all_wait s (message_count ds + 1) ds) both,
    )

none_sure : (s : SocketTable) (d : Delivery) (ds : List Delivery) → d.message ≡ None → all_wait s (message_count (d ∷ ds)) (d ∷ ds) ≡ true → all_wait s (message_count ds) ds ≡ true
none_sure s d ds is h =
    and_right (waits_surely s (message_count ds) d.message) (all_wait s (message_count ds) ds) (ap (λ k. waits_surely s k d.message && all_wait s k ds) (sym (none_counted d ds is)) ∙ h)

pub each_sure : (s : SocketTable) (ds : List Delivery) → all_wait s (message_count ds) ds ≡ true → are_sure s (messages_in ds) ≡ true
each_sure s [] h = refl
each_sure s (d ∷ ds) h = by d.message refl (λ t k. each_sure t ds k)
  where
    by : (m : Option Message) → d.message ≡ m → ((t : SocketTable) → all_wait t (message_count ds) ds ≡ true → are_sure t (messages_in ds) ≡ true) → are_sure s (message_of d.message ++ messages_in ds) ≡ true
    by None is rest = ap (λ (o : Option Message). are_sure s (message_of o ++ messages_in ds)) is ∙ rest s (none_sure s d ds is h)
    by (Some m) is rest =
        let sure = some_sure s d ds m is h in
        let first = waits_among s (message_count ds + 1) 1 m (omega arith) sure.0 in
        ap (λ (o : Option Message). are_sure s (message_of o ++ messages_in ds)) is
        ∙ rw first (rest (with_waiting s m) (all_behind s (message_count ds) m ds sure.1))

-- ---- so they are delivered

-- a message that surely waits is told so
one_settled : (own : ℕ) (w : Work) (count : ℕ) (m : Message) (box : Out) → 1 ≤ count → surely_waits w.sockets count m ≡ true
    → Settled own w m (work_of w.neighbours (with_waiting w.sockets m) (w.inside ++ waiting_entries (Some m))) box box
one_settled own w count m box some h = record {
  frames = [];
  settles = subst (λ (f : Fate). Follows own w m f (work_of w.neighbours (with_waiting w.sockets m) (w.inside ++ waiting_entries (Some m))) []) (sym (sure_fate w.sockets count _ m some h)) (refl, refl);
  adds = adds_none box;
}

-- it is a user's
sure_user : (s : SocketTable) (count : ℕ) (m : Message) → surely_waits s count m ≡ true → is_payload m ≡ true
sure_user s count (Payload importance form from to kind lower upper code droppable body) h = refl
sure_user s count (Items withdrawal items) h = absurd cc

-- the work when the deliveries are told and each message waits
abbrev pub sure_work : Work → List Delivery → Work
sure_work w ds = work_of w.neighbours (with_all_waiting w.sockets (messages_in ds)) (w.inside ++ told_in ds)

none_more : (w : Work) (d : Delivery) (ds : List Delivery) → d.message ≡ None → sure_work (work_of w.neighbours w.sockets (w.inside ++ d.entry ∷ [])) ds ≡ sure_work w (d ∷ ds)
none_more w d ds is =
    ap (work_of w.neighbours (with_all_waiting w.sockets (messages_in ds))) (append_assoc w.inside (d.entry ∷ []) (told_in ds))
    ∙ ap (λ (o : Option Message). work_of w.neighbours (with_all_waiting w.sockets (message_of o ++ messages_in ds)) (w.inside ++ ((d.entry ∷ waiting_entries o) ++ told_in ds))) (sym is)

one_more_waits : (w : Work) (d : Delivery) (ds : List Delivery) (m : Message) → d.message ≡ Some m
    → sure_work (work_of w.neighbours (with_waiting w.sockets m) ((w.inside ++ d.entry ∷ []) ++ waiting_entries (Some m))) ds ≡ sure_work w (d ∷ ds)
one_more_waits w d ds m is =
    ap (work_of w.neighbours (with_all_waiting (with_waiting w.sockets m) (messages_in ds)))
    (append_assoc (w.inside ++ d.entry ∷ []) (waiting_entries (Some m)) (told_in ds) ∙ append_assoc w.inside (d.entry ∷ []) (waiting_entries (Some m) ++ told_in ds))
    ∙ ap (λ (o : Option Message). work_of w.neighbours (with_all_waiting w.sockets (message_of o ++ messages_in ds)) (w.inside ++ ((d.entry ∷ waiting_entries o) ++ told_in ds))) (sym is)

pub sure_delivered : (own peer : ℕ) (w : Work) (ds : List Delivery) (box : Out) → all_wait w.sockets (message_count ds) ds ≡ true → list_all is_plain (entries_in ds) ≡ true
    → AllDelivered own peer w ds (sure_work w ds) box box
sure_delivered own peer w [] box h plain =
    subst (λ (u : Work). AllDelivered own peer w [] u box box) (ap (work_of w.neighbours w.sockets) (sym (append-nil w.inside))) (nothing_delivered own peer w box)
sure_delivered own peer w (d ∷ ds) box h plain = by d.message refl (λ u k. sure_delivered own peer u ds box k others)
  where
    first : is_plain d.entry ≡ true
    first = and_left (is_plain d.entry) (list_all is_plain (entries_in ds)) plain

    others : list_all is_plain (entries_in ds) ≡ true
    others = and_right (is_plain d.entry) (list_all is_plain (entries_in ds)) plain

    by : (m : Option Message) → d.message ≡ m → ((u : Work) → all_wait u.sockets (message_count ds) ds ≡ true → AllDelivered own peer u ds (sure_work u ds) box box) → AllDelivered own peer w (d ∷ ds) (sure_work w (d ∷ ds)) box box
    by None is rest =
        let between = work_of w.neighbours w.sockets (w.inside ++ d.entry ∷ []) in
        subst (λ (u : Work). AllDelivered own peer w (d ∷ ds) u box box) (none_more w d ds is)
        (delivered_first own peer w between (sure_work between ds) d ds box box box (delivered_none own peer w d box first is) (rest between (none_sure w.sockets d ds is h)))
    by (Some m) is rest =
        let sure = some_sure w.sockets d ds m is h in
        let told = work_of w.neighbours w.sockets (w.inside ++ d.entry ∷ []) in
        let between = work_of w.neighbours (with_waiting w.sockets m) (told.inside ++ waiting_entries (Some m)) in
        subst (λ (u : Work). AllDelivered own peer w (d ∷ ds) u box box) (one_more_waits w d ds m is)
        (delivered_first own peer w between (sure_work between ds) d ds box box box
        (delivered_some own peer w d m between box box first is (took_user own peer told m between box box (sure_user w.sockets (message_count ds + 1) m sure.0) (one_settled own told (message_count ds + 1) m box (omega arith) sure.0)))
        (rest between (all_behind w.sockets (message_count ds) m ds sure.1)))

-- ---- what stays

pub same_sockets : (s : SocketTable) (ms : List Message) → ((with_all_waiting s ms).own ≡ s.own) × ((with_all_waiting s ms).ports ≡ s.ports)
same_sockets s [] = (refl, refl)
same_sockets s (m ∷ ms) = same_sockets (with_waiting s m) ms
