-- The messages by which peers are told of names: how they are put, one behind the other, for one peer after the other.
use Rattle.std.proofs.Common.{◌≡◌, ◌⊎◌, ◌<◌, ◌≤◌, ◌+◌, ◌*◌, ◌-◌, ℕ, zero, suc, Bool, true, false, List, [], ◌∷◌, ◌++◌, Option, Some, None, filter, inl, inr, length, take, refl, sym, ap, ◌∙◌, subst, add-zero, append_assoc, append-nil, eqb-true, length-append, sum_by, arith}
use Rattle.std.specs.Prelude.{◌==◌, if◌then◌else◌, find, slice_index_or, slice_set}
use Rattle.std.specs.List.{All, range_with_len}
use Rattle.std.proofs.lemmas.Bool.{cases_eq}
use Rattle.std.proofs.lemmas.Bool.Decides.{nat_tests}
use Rattle.std.proofs.lemmas.List.{get_or-set_other, set-get_or, set-set, take_more}
use Rattle.std.proofs.lemmas.List.Elements.{All-append, All-cons, All-nil, filter-append}
use Rattle.std.proofs.lemmas.List.Sums.{sum_by-append, sum_by_push}
use Rattle.tipc_types.specs.declared.message_forms.Flow.TheVariants.{Zero}
use Rattle.tipc_types.specs.declared.message_forms.Message.{Message}
use Rattle.tipc_types.specs.declared.message_forms.Message.TheVariants.{Items}
use Rattle.tipc_types.specs.declared.services.Publication.{Publication}
use Rattle.tipc_outside.specs.declared.outgoing.Outgoing.{Outgoing}
use Rattle.tipc_outside.specs.Frames.{Out}
use Rattle.tipc_outside.proofs.Adding.{adds_more, adds_none}
use Rattle.tipc_message.specs.Wire.{IsCarried}
use Rattle.tipc_journal.specs.declared.entries.Entry.{Entry}
use Rattle.tipc_journal.specs.Names.{is_clusterwide}
use Rattle.tipc_journal.specs.Room.{counted_bytes, entry_bytes}
use Rattle.tipc_pair.specs.Facing.{in_contact as in_contact_with}
use Rattle.tipc_pair.specs.Messages.{pieces_for}
use Rattle.tipc_name_dist.specs.Items.{item_of, telling, tellings}
use Rattle.tipc_sockets.specs.SocketTables.{SocketTable}
use Rattle.tipc_node.specs.declared.neighbours.Neighbour.{Neighbour}
use Rattle.tipc_node.specs.Drafts.{PutEach, ToldEach, peer_in_contact}
use Rattle.tipc_node.specs.Messages.{bytes_of}
use Rattle.tipc_node.specs.Nodes.{accepted_entry, is_met, load_with, waiting_in}
use Rattle.tipc_node.specs.Sockets.{first_crowded, is_crowded}
use Rattle.tipc_node.specs.Works.{Puts, PutsEach, PutsOn, TellsEach, Work, peers_in_contact, is_in_contact, work_of}
use Rattle.tipc_node.specs.Works.PutsEach.{none_left, one_more}
use Rattle.tipc_node.specs.Works.TellsEach.{all_told, one_told}
use Rattle.tipc_pair.proofs.turns.PairPuts.{active_there, put_meets}
use Rattle.tipc_node.proofs.Places.{set_there}
use Rattle.tipc_node.proofs.work.Wayfaring.{puts_by}

-- ---- what is told of publications

-- what holds of each message of one publication holds of all that is told
pub each_telling : (P : Message → Type 0) → (withdrawal : Bool) → ((p : Publication) → P (Items withdrawal (item_of p ∷ []))) → (p : Publication) → All P (telling withdrawal p)
each_telling P withdrawal holds p = by (is_clusterwide p.scope)
  where
    m : Message
    m = Items withdrawal (item_of p ∷ [])

    by : (b : Bool) → All P (if b then m ∷ [] else [])
    by true = All-cons P m [] (holds p) (All-nil P)
    by false = All-nil P

pub all_tellings : (P : Message → Type 0) → (withdrawal : Bool) → ((p : Publication) → P (Items withdrawal (item_of p ∷ []))) → (ps : List Publication) → All P (tellings withdrawal ps)
all_tellings P withdrawal holds [] = All-nil P
all_tellings P withdrawal holds (p ∷ ps) = All-append P (telling withdrawal p) (tellings withdrawal ps) (each_telling P withdrawal holds p) (all_tellings P withdrawal holds ps)

one_carried : (withdrawal : Bool) (p : Publication) → IsCarried (Items withdrawal (item_of p ∷ []))
one_carried withdrawal p = (omega arith, omega arith)

pub tellings_carried : (withdrawal : Bool) (ps : List Publication) → All IsCarried (tellings withdrawal ps)
tellings_carried withdrawal ps = all_tellings IsCarried withdrawal (one_carried withdrawal) ps

-- one message for each publication at most, which counts for 20 bytes
pub telling_small : (withdrawal : Bool) (p : Publication) → (length (telling withdrawal p) ≤ 1) × (sum_by counted_bytes (telling withdrawal p) ≤ 20)
telling_small withdrawal p = by (is_clusterwide p.scope)
  where
    m : Message
    m = Items withdrawal (item_of p ∷ [])

    by : (b : Bool) → (length (if b then m ∷ [] else []) ≤ 1) × (sum_by counted_bytes (if b then m ∷ [] else []) ≤ 20)
    by true = (omega arith, omega arith)
    by false = (omega arith, omega arith)

pub tellings_few : (withdrawal : Bool) (ps : List Publication) → length (tellings withdrawal ps) ≤ length ps
tellings_few withdrawal [] = omega arith
tellings_few withdrawal (p ∷ ps) =
    let one = (telling_small withdrawal p).0 in
    let rest = tellings_few withdrawal ps in
    let both = length-append (telling withdrawal p) (tellings withdrawal ps) in
    omega (arith, one, rest, both)

pub tellings_light : (withdrawal : Bool) (ps : List Publication) → sum_by counted_bytes (tellings withdrawal ps) ≤ 20 * length ps
tellings_light withdrawal [] = omega arith
tellings_light withdrawal (p ∷ ps) =
    let one = (telling_small withdrawal p).1 in
    let rest = tellings_light withdrawal ps in
    let both = sum_by-append counted_bytes (telling withdrawal p) (tellings withdrawal ps) in
    omega (arith, one, rest, both)

-- ---- numbers one after the other

range_first : (a n k : ℕ) → k ≡ suc n → range_with_len a k ≡ a ∷ range_with_len (a + 1) n
range_first a n k is = ap (range_with_len a) is

pub range_last : (a n : ℕ) → range_with_len a (suc n) ≡ range_with_len a n ++ (a + n) ∷ []
range_last a zero = ap (λ k. k ∷ []) (sym (add-zero a))
range_last a (suc n) =
    let same : a + 1 + n ≡ a + suc n = omega arith in
    ap (λ ks. a ∷ ks) (range_last (a + 1) n ∙ ap (λ k. range_with_len (a + 1) n ++ k ∷ []) same)

-- ---- too many packets wait

-- no peer below a number is crowded
pub record IsClear (xs : List (Option Neighbour)) (number : ℕ) : Type 0 where
  pub below : find (is_crowded xs) (range_with_len number (33 - number)) ≡ first_crowded xs

pub clear_first : (xs : List (Option Neighbour)) → IsClear xs 1
unfolding first_crowded
clear_first xs = record { below = refl }

find_first : (test : ℕ → Bool) (number : ℕ) → number < 33 → find test (range_with_len number (33 - number)) ≡ (if test number then Some number else find test (range_with_len (number + 1) (33 - (number + 1))))
find_first test number below =
    let more : 33 - number ≡ suc (33 - (number + 1)) = omega (arith, below) in
    ap (find test) (range_first number (33 - (number + 1)) (33 - number) more)

pub clear_next : (xs : List (Option Neighbour)) (number waiting : ℕ) → IsClear xs number → number < 33 → waiting ≡ waiting_in (load_with (slice_index_or xs number None)) → waiting < 1000 → IsClear xs (number + 1)
clear_next xs number waiting clear below is few =
    let here : is_crowded xs number ≡ false = grind (arith, nat_tests, is, few) in
    record { below = sym (find_first (is_crowded xs) number below ∙ ap (λ (b : Bool). if b then Some number else find (is_crowded xs) (range_with_len (number + 1) (33 - (number + 1)))) here) ∙ clear.below }

-- ---- contacts

-- a message that is put leaves the contact
put_stays : (own peer : ℕ) (x y : Neighbour) (m : Message) (inside inside' : List Entry) (a b : Out) → PutsOn own x y peer m inside inside' a b → in_contact_with y.pair ≡ true
put_stays own peer x y m inside inside' a b p =
    let one = p.puts.puts in
    let meets = put_meets x.pair (pieces_for (bytes_of own m)) y.pair p.frames one in
    meets.there ∙ active_there x.pair one.bearer one.active_is

-- and so does one that changes at its place the contacts of all
pub contact_kept : (xs : List (Option Neighbour)) (peer k : ℕ) (x y : Neighbour) → slice_index_or xs peer None ≡ Some x → in_contact_with x.pair ≡ true → in_contact_with y.pair ≡ true
    → is_in_contact (slice_set xs peer (Some y)) k ≡ is_in_contact xs k
contact_kept xs peer k x y was before after = by (cases_eq k peer)
  where
    test : Option Neighbour → Bool
    test o = is_met o

    by : (k ≡ peer) ⊎ (k ≡ peer → ⊥) → is_in_contact (slice_set xs peer (Some y)) k ≡ is_in_contact xs k
    by (inl here) = ap (is_in_contact (slice_set xs peer (Some y))) here ∙ ap test (set_there xs peer x y was) ∙ after ∙ sym before ∙ sym (ap test was) ∙ ap (is_in_contact xs) (sym here)
    by (inr other) = ap test (get_or-set_other xs peer k (Some y) None other)

-- ---- messages for one peer

puts_each_last : (own peer : ℕ) (w v u : Work) (ms : List Message) (m : Message) (fs gs : List Outgoing) → PutsEach own peer w ms v fs → Puts own v peer m u gs → PutsEach own peer w (ms ++ m ∷ []) u (fs ++ gs)
puts_each_last own peer _ _ u _ m _ gs (none_left w) one = subst (PutsEach own peer w (m ∷ []) u) (append-nil gs) (one_more w u u m [] gs [] one (none_left u))
puts_each_last own peer _ _ u _ m _ gs (one_more w between v x ms first rest head more) one =
    subst (PutsEach own peer w (x ∷ (ms ++ m ∷ [])) u) (sym (append_assoc first rest gs)) (one_more w between u x (ms ++ m ∷ []) first (rest ++ gs) head (puts_each_last own peer between v u ms m rest gs more one))

-- the first of them are put on the link to a neighbour, with which there is contact still
pub record IsPutting (own peer : ℕ) (ms : List Message) (x y : Neighbour) (before inside : List Entry) (a b : Out) (count : ℕ) : Type 0 where
  pub puts : (xs : List (Option Neighbour)) (s : SocketTable) → slice_index_or xs peer None ≡ Some x → PutEach own (work_of xs s before) peer (take count ms) (work_of (slice_set xs peer (Some y)) s inside) a b
  pub contact : in_contact_with y.pair ≡ true
  pub few : length inside ≡ length before + count
  pub light : sum_by entry_bytes inside ≡ sum_by entry_bytes before + sum_by counted_bytes (take count ms)

set_same : (xs : List (Option Neighbour)) (peer : ℕ) (x : Neighbour) → slice_index_or xs peer None ≡ Some x → slice_set xs peer (Some x) ≡ xs
set_same xs peer x was = ap (slice_set xs peer) (sym was) ∙ set-get_or xs peer None

pub putting_first : (own peer : ℕ) (ms : List Message) (x : Neighbour) (es : List Entry) (a : Out) → in_contact_with x.pair ≡ true → IsPutting own peer ms x x es es a a 0
putting_first own peer ms x es a contact = record {
  puts = λ xs s was. record {
    frames = [];
    puts = subst (λ ys. PutsEach own peer (work_of xs s es) [] (work_of ys s es) []) (sym (set_same xs peer x was)) (none_left (work_of xs s es));
    adds = adds_none a;
  };
  contact = contact;
  few = omega arith;
  light = omega arith;
}

pub putting_next : (own peer : ℕ) (ms : List Message) (x y z : Neighbour) (before inside inside' : List Entry) (a b c : Out) (count : ℕ) (m : Message) → IsPutting own peer ms x y before inside a b count → count < length ms
    → m ≡ slice_index_or ms count m → PutsOn own y z peer m inside inside' b c → IsPutting own peer ms x z before inside' a c (count + 1)
putting_next own peer ms x y z before inside inside' a b c count m h within is p =
    let more : take count ms ++ m ∷ [] ≡ take (count + 1) ms = ap (λ n. take count ms ++ n ∷ []) is ∙ sym (take_more ms count m within) in
    let few = h.few in
    let light = h.light in
    let longer = ap length p.told ∙ length-append inside (accepted_entry Zero peer y.pair m ∷ []) in
    let heavier : sum_by entry_bytes inside' ≡ sum_by entry_bytes inside + counted_bytes m = ap (sum_by entry_bytes) p.told ∙ sum_by_push entry_bytes inside (accepted_entry Zero peer y.pair m) in
    let counted : sum_by counted_bytes (take (count + 1) ms) ≡ sum_by counted_bytes (take count ms) + counted_bytes m = ap (sum_by counted_bytes) (sym more) ∙ sum_by_push counted_bytes (take count ms) m in
    record {
      puts = λ xs s was.
          let first = h.puts xs s was in
          let ys = slice_set xs peer (Some y) in
          let one = puts_by own peer ys s inside inside' y z m b c (set_there xs peer x y was) p in
          let here = subst (λ zs. Puts own (work_of ys s inside) peer m (work_of zs s inside') (p.frames)) (set-set xs peer (Some y) (Some z)) one in record {
            frames = first.frames ++ p.frames;
            puts = subst (λ ns. PutsEach own peer (work_of xs s before) ns (work_of (slice_set xs peer (Some z)) s inside') (first.frames ++ p.frames)) more
                (puts_each_last own peer (work_of xs s before) (work_of ys s inside) (work_of (slice_set xs peer (Some z)) s inside') (take count ms) m first.frames (p.frames) first.puts here);
            adds = adds_more a b c first.frames (p.frames) first.adds p.adds;
          };
      contact = put_stays own peer y z m inside inside' b c p;
      few = omega (arith, few, longer);
      light = omega (arith, light, heavier, counted);
    }

-- ---- the same messages for several peers

tells_each_more : (own : ℕ) (ms : List Message) (w v u : Work) (peers more : List ℕ) (fs gs : List Outgoing) → TellsEach own ms w peers v fs → TellsEach own ms v more u gs → TellsEach own ms w (peers ++ more) u (fs ++ gs)
tells_each_more own ms _ _ u _ more _ gs (all_told w) next = next
tells_each_more own ms _ _ u _ more _ gs (one_told w between v peer peers first rest one tells) next =
    subst (TellsEach own ms w (peer ∷ (peers ++ more)) u) (sym (append_assoc first rest gs)) (one_told w between u peer (peers ++ more) first (rest ++ gs) one (tells_each_more own ms between v u peers more rest gs tells next))

told_more : (own : ℕ) (ms : List Message) (w v u : Work) (peers more : List ℕ) (a b c : Out) → ToldEach own w ms peers v a b → ToldEach own v ms more u b c → ToldEach own w ms (peers ++ more) u a c
told_more own ms w v u peers more a b c h k = record {
  frames = h.frames ++ k.frames;
  tells = tells_each_more own ms w v u peers more h.frames k.frames h.tells k.tells;
  adds = adds_more a b c h.frames k.frames h.adds k.adds;
}

-- a peer that is in contact is told, and no other
pub peer_told : (own : ℕ) (xs : List (Option Neighbour)) (w : Work) (peer : ℕ) (ms : List Message) (w' : Work) (a b : Out) → is_in_contact xs peer ≡ true → PutEach own w peer ms w' a b → ToldEach own w ms (peer_in_contact xs peer) w' a b
peer_told own xs w peer ms w' a b contact h =
    subst (λ (c : Bool). ToldEach own w ms (if c then peer ∷ [] else []) w' a b) (sym contact)
    (record { frames = h.frames; tells = subst (TellsEach own ms w (peer ∷ []) w') (append-nil h.frames) (one_told w w' w' peer [] h.frames [] h.puts (all_told w')); adds = h.adds })

pub peer_untold : (own : ℕ) (xs : List (Option Neighbour)) (w : Work) (peer : ℕ) (ms : List Message) (a : Out) → is_in_contact xs peer ≡ false → ToldEach own w ms (peer_in_contact xs peer) w a a
peer_untold own xs w peer ms a none = subst (λ (c : Bool). ToldEach own w ms (if c then peer ∷ [] else []) w a a) (sym none) (record { frames = []; tells = all_told w; adds = adds_none a })

-- the peers below a number were told
pub record IsTelling (own : ℕ) (ms : List Message) (old now : List (Option Neighbour)) (before inside : List Entry) (a b : Out) (number : ℕ) : Type 0 where
  pub told : (s : SocketTable) → ToldEach own (work_of old s before) ms (filter (is_in_contact old) (range_with_len 1 (number - 1))) (work_of now s inside) a b
  pub contact : (k : ℕ) → is_in_contact now k ≡ is_in_contact old k
  pub few : length inside ≤ length before + (number - 1) * 1024
  pub light : sum_by entry_bytes inside ≤ sum_by entry_bytes before + (number - 1) * 20480
  pub some : 1 ≤ number
  pub most : number ≤ 33

pub telling_first : (own : ℕ) (ms : List Message) (xs : List (Option Neighbour)) (es : List Entry) (a : Out) → IsTelling own ms xs xs es es a a 1
telling_first own ms xs es a = record {
  told = λ s. record { frames = []; tells = all_told (work_of xs s es); adds = adds_none a };
  contact = λ k. refl;
  few = omega arith;
  light = omega arith;
  some = omega arith;
  most = omega arith;
}

-- what was done for the peer of a number
pub record IsToldNext (own : ℕ) (ms : List Message) (now next : List (Option Neighbour)) (inside inside' : List Entry) (b c : Out) (number : ℕ) : Type 0 where
  pub told : (s : SocketTable) → ToldEach own (work_of now s inside) ms (peer_in_contact now number) (work_of next s inside') b c
  pub contact : (k : ℕ) → is_in_contact next k ≡ is_in_contact now k
  pub few : length inside' ≤ length inside + length ms
  pub light : sum_by entry_bytes inside' ≤ sum_by entry_bytes inside + sum_by counted_bytes ms

peers_next : (old now : List (Option Neighbour)) (number : ℕ) → 1 ≤ number → is_in_contact now number ≡ is_in_contact old number
    → filter (is_in_contact old) (range_with_len 1 (number - 1)) ++ peer_in_contact now number ≡ filter (is_in_contact old) (range_with_len 1 (number + 1 - 1))
peers_next old now number some same =
    let count : number + 1 - 1 ≡ suc (number - 1) = omega (arith, some) in
    let last : 1 + (number - 1) ≡ number = omega (arith, some) in
    let front = range_with_len 1 (number - 1) in
    ap (λ (b : Bool). filter (is_in_contact old) front ++ (if b then number ∷ [] else [])) same
    ∙ sym (filter-append (is_in_contact old) front (number ∷ []))
    ∙ ap (λ k. filter (is_in_contact old) (front ++ k ∷ [])) (sym last)
    ∙ ap (filter (is_in_contact old)) (sym (range_last 1 (number - 1)) ∙ ap (range_with_len 1) (sym count))

pub telling_next : (own : ℕ) (ms : List Message) (old now next : List (Option Neighbour)) (before inside inside' : List Entry) (a b c : Out) (number : ℕ) → IsTelling own ms old now before inside a b number → number < 33
    → length ms ≤ 1024 → sum_by counted_bytes ms ≤ 20480 → IsToldNext own ms now next inside inside' b c number → IsTelling own ms old next before inside' a c (number + 1)
telling_next own ms old now next before inside inside' a b c number h below short small k =
    let some = h.some in
    let few = h.few in
    let light = h.light in
    let more = k.few in
    let heavier = k.light in record {
      told = λ s. subst (λ ps. ToldEach own (work_of old s before) ms ps (work_of next s inside') a c) (peers_next old now number some (h.contact number))
          (told_more own ms (work_of old s before) (work_of now s inside) (work_of next s inside') (filter (is_in_contact old) (range_with_len 1 (number - 1))) (peer_in_contact now number) a b c (h.told s) (k.told s));
      contact = λ j. k.contact j ∙ h.contact j;
      few = omega (arith, some, few, more, short);
      light = omega (arith, some, light, heavier, small);
      some = omega arith;
      most = omega (arith, below);
    }

-- every peer was told
pub telling_last : (own : ℕ) (ms : List Message) (old now : List (Option Neighbour)) (before inside : List Entry) (a b : Out) (number : ℕ) → IsTelling own ms old now before inside a b number → 33 ≤ number
    → (s : SocketTable) → ToldEach own (work_of old s before) ms (peers_in_contact old) (work_of now s inside) a b
unfolding peers_in_contact
telling_last own ms old now before inside a b number h past s =
    let most = h.most in
    let last : number ≡ 33 = omega (arith, most, past) in
    subst (λ k. ToldEach own (work_of old s before) ms (filter (is_in_contact old) (range_with_len 1 (k - 1))) (work_of now s inside) a b) last (h.told s)

pub no_messages : (ms : List Message) → length ms == 0 ≡ true → ms ≡ []
no_messages [] is = refl
no_messages (m ∷ ms) is = absurd (let zero = eqb-true (length (m ∷ ms)) 0 is in omega (arith, zero))

-- nothing is told by no messages
tells_nothing : (own : ℕ) (w : Work) (peers : List ℕ) → TellsEach own [] w peers w []
tells_nothing own w [] = all_told w
tells_nothing own w (peer ∷ peers) = one_told w w w peer peers [] [] (none_left w) (tells_nothing own w peers)

pub told_nothing : (own : ℕ) (w : Work) (ms : List Message) (peers : List ℕ) (a : Out) → ms ≡ [] → ToldEach own w ms peers w a a
told_nothing own w ms peers a none = subst (λ ns. ToldEach own w ns peers w a a) (sym none) (record { frames = []; tells = tells_nothing own w peers; adds = adds_none a })
