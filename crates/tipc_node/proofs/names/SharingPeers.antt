-- Messages that are put for peers, one behind the other, are accepted in the contacts that their pairs show.
use Rattle.std.proofs.Common.{◌≡◌, ◌≤◌, ◌<◌, ◌+◌, ◌==◌, ◌&&◌, ℕ, zero, suc, Bool, true, false, cond, List, [], ◌∷◌, ◌++◌, Option, Some, None, map, if◌then◌else◌, refl, sym, ap, ◌∙◌, subst, append-nil, append_assoc, inl, inr, eqb-true, arith}
use Rattle.std.specs.Prelude.{◌⊎◌, count_by, option_map, slice_index_or, slice_set, unwrap_or}
use Rattle.std.specs.List.{flat_map, list_all, range_with_len}
use Rattle.std.proofs.lemmas.Bool.{and_from, cases_eq}
use Rattle.std.proofs.lemmas.Bool.Decides.{nat_tests}
use Rattle.std.proofs.lemmas.List.{get_or-set_other}
use Rattle.std.proofs.lemmas.List.Sums.{sum_by-cons}
use Rattle.tipc_types.specs.declared.message_forms.Message.{Message}
use Rattle.tipc_outside.specs.declared.outgoing.Outgoing.{Outgoing}
use Rattle.tipc_journal.specs.declared.entries.Entry.{Entry}
use Rattle.tipc_journal.specs.Streams.{accepted}
use Rattle.tipc_journal.proofs.StreamLaws.{accepted_append, accepted_nil}
use Rattle.tipc_sockets.proofs.Counting.{count_by-agree, count_by-filter}
use Rattle.tipc_pair.specs.Messages.{pieces_for}
use Rattle.tipc_node.specs.declared.neighbours.Neighbour.{Neighbour}
use Rattle.tipc_node.specs.Messages.{bytes_of}
use Rattle.tipc_node.specs.Nodes.{is_met, shown_contact}
use Rattle.tipc_node.specs.Sharing.{flow_with}
use Rattle.tipc_node.specs.Works.{Puts, PutsEach, TellsEach, Work, peers_in_contact}
use Rattle.tipc_node.specs.Works.PutsEach.{none_left, one_more}
use Rattle.tipc_node.specs.Works.TellsEach.{all_told, one_told}
use Rattle.tipc_node.proofs.turns.Entries.{other_word}
use Rattle.tipc_pair.proofs.turns.PairPuts.{put_meets}
use Rattle.tipc_node.proofs.Places.{set_there}
use Rattle.tipc_node.proofs.names.SharingFlows.{accepted_in, puts_accepted, puts_to_other}
use Rattle.tipc_sockets.proofs.Closing.{and_false as and_none}

-- the contact numbers that the pair to a peer shows; where there is none, some numbers
abbrev pub numbers_at : List (Option Neighbour) → ℕ → ℕ × ℕ
numbers_at xs peer = unwrap_or (option_map (λ (x : Neighbour). shown_contact x.pair) (slice_index_or xs peer None)) (0, 0)

-- the pairs show the same
abbrev pub ShowAlike : List (Option Neighbour) → List (Option Neighbour) → Type 0
ShowAlike xs ys = (b : ℕ) → numbers_at ys b ≡ numbers_at xs b

pub numbers_of : (o : Option Neighbour) (x : Neighbour) → o ≡ Some x → unwrap_or (option_map (λ (y : Neighbour). shown_contact y.pair) o) (0, 0) ≡ shown_contact x.pair
numbers_of o x is = ap (λ (p : Option Neighbour). unwrap_or (option_map (λ (y : Neighbour). shown_contact y.pair) p) (0, 0)) is

pub set_alike : (xs : List (Option Neighbour)) (peer : ℕ) (x y : Neighbour) → slice_index_or xs peer None ≡ Some x → shown_contact y.pair ≡ shown_contact x.pair → ShowAlike xs (slice_set xs peer (Some y))
set_alike xs peer x y was same b = elim (cases_eq b peer) [
  | inl here ↦
      ap (numbers_at (slice_set xs peer (Some y))) here ∙ numbers_of (slice_index_or (slice_set xs peer (Some y)) peer None) y (set_there xs peer x y was) ∙ same
      ∙ sym (numbers_of (slice_index_or xs peer None) x was) ∙ ap (numbers_at xs) (sym here)
  | inr other ↦ ap (λ (o : Option Neighbour). unwrap_or (option_map (λ (z : Neighbour). shown_contact z.pair) o) (0, 0)) (get_or-set_other xs peer b (Some y) None other)
]

puts_alike : (own : ℕ) (w : Work) (peer : ℕ) (m : Message) (w' : Work) (frames : List Outgoing) → Puts own w peer m w' frames → ShowAlike w.neighbours w'.neighbours
puts_alike own w peer m w' frames p =
    let meets = put_meets p.neighbour.pair (pieces_for (bytes_of own m)) p.then.pair frames p.puts.puts in
    subst (ShowAlike w.neighbours) (sym (ap (λ (v : Work). v.neighbours) p.after)) (set_alike w.neighbours peer p.neighbour p.then p.was (ap (λ k. (k, p.then.pair.seen)) meets.contact ∙ ap (λ k. (p.neighbour.pair.contact, k)) meets.seen))

-- ---- one peer

-- these entries are added, the sockets stay, and each pair shows what it showed
pub record Accepts (w w' : Work) (es : List Entry) : Type 0 where
  pub inside : w'.inside ≡ w.inside ++ es
  pub sockets : w'.sockets ≡ w.sockets
  pub alike : ShowAlike w.neighbours w'.neighbours

accepts_none : (w : Work) → Accepts w w []
accepts_none w = record { inside = sym (append-nil w.inside); sockets = refl; alike = λ b. refl }

accepts_then : (u v w : Work) (es es' : List Entry) → Accepts u v es → Accepts v w es' → Accepts u w (es ++ es')
accepts_then u v w es es' h k = record {
  inside = k.inside ∙ ap (λ xs. xs ++ es') h.inside ∙ append_assoc u.inside es es';
  sockets = k.sockets ∙ h.sockets;
  alike = λ b. k.alike b ∙ h.alike b;
}

puts_one : (own : ℕ) (w : Work) (peer : ℕ) (m : Message) (w' : Work) (frames : List Outgoing) → Puts own w peer m w' frames → Accepts w w' (accepted_in peer (numbers_at w.neighbours peer) m ∷ [])
unfolding accepted_in
puts_one own w peer m w' frames p = record {
  inside = ap (λ (v : Work). v.inside) p.after ∙ ap (λ c. w.inside ++ accepted_in peer c m ∷ []) (sym (numbers_of (slice_index_or w.neighbours peer None) p.neighbour p.was));
  sockets = ap (λ (v : Work). v.sockets) p.after;
  alike = puts_alike own w peer m w' frames p;
}

pub puts_accepts : (own peer : ℕ) (w : Work) (ms : List Message) (w' : Work) (frames : List Outgoing) → PutsEach own peer w ms w' frames → Accepts w w' (map (accepted_in peer (numbers_at w.neighbours peer)) ms)
puts_accepts own peer w _ _ _ (none_left _) = accepts_none w
puts_accepts own peer w _ w' _ (one_more _ v _ m ms fs fs' one all) =
    let c = numbers_at w.neighbours peer in
    let first = puts_one own w peer m v fs one in
    let rest = puts_accepts own peer v ms w' fs' all in
    accepts_then w v w' (accepted_in peer c m ∷ []) (map (accepted_in peer c) ms) first (subst (λ d. Accepts v w' (map (accepted_in peer d) ms)) (first.alike peer) rest)

-- ---- several peers

-- the entries of the same messages for each of these peers
unfoldable pub told_entries : List (Option Neighbour) → List Message → List ℕ → List Entry
told_entries xs ms [] = []
told_entries xs ms (peer ∷ peers) = map (accepted_in peer (numbers_at xs peer)) ms ++ told_entries xs ms peers

told_alike : (xs ys : List (Option Neighbour)) (ms : List Message) (peers : List ℕ) → ShowAlike xs ys → told_entries ys ms peers ≡ told_entries xs ms peers
unfolding told_entries
told_alike xs ys ms [] alike = refl
told_alike xs ys ms (peer ∷ peers) alike =
    ap (λ c. map (accepted_in peer c) ms ++ told_entries ys ms peers) (alike peer) ∙ ap (λ es. map (accepted_in peer (numbers_at xs peer)) ms ++ es) (told_alike xs ys ms peers alike)

pub tells_accepts : (own : ℕ) (ms : List Message) (w : Work) (peers : List ℕ) (w' : Work) (frames : List Outgoing) → TellsEach own ms w peers w' frames → Accepts w w' (told_entries w.neighbours ms peers)
unfolding told_entries
tells_accepts own ms w _ _ _ (all_told _) = accepts_none w
tells_accepts own ms w _ w' _ (one_told _ v _ peer peers fs fs' one all) =
    let first = puts_accepts own peer w ms v fs one in
    let rest = tells_accepts own ms v peers w' fs' all in
    accepts_then w v w' (map (accepted_in peer (numbers_at w.neighbours peer)) ms) (told_entries w.neighbours ms peers) first
    (subst (Accepts v w') (told_alike w.neighbours v.neighbours ms peers first.alike) rest)

-- they pass what each message that is accepted passes
pub puts_pass : (test : Entry → Bool) (peer : ℕ) (c : ℕ × ℕ) (ms : List Message) → ((m : Message) → test (accepted_in peer c m) ≡ true) → list_all test (map (accepted_in peer c) ms) ≡ true
puts_pass test peer c [] passes = refl
puts_pass test peer c (m ∷ ms) passes = and_from _ _ (passes m) (puts_pass test peer c ms passes)

-- ---- what a peer was told

-- a peer is told once for each time that it is among them
told_times : (xs : List (Option Neighbour)) (ms : List Message) (b : ℕ) (peers : List ℕ) → accepted (told_entries xs ms peers) (flow_with b (numbers_at xs b)) ≡ flat_map (λ peer. if peer == b then ms else []) peers
unfolding told_entries
told_times xs ms b [] = accepted_nil (flow_with b (numbers_at xs b))
told_times xs ms b (peer ∷ peers) =
    accepted_append (map (accepted_in peer (numbers_at xs peer)) ms) (told_entries xs ms peers) (flow_with b (numbers_at xs b))
    ∙ ap (λ rest. accepted (map (accepted_in peer (numbers_at xs peer)) ms) (flow_with b (numbers_at xs b)) ++ rest) (told_times xs ms b peers)
    ∙ ap (λ front. front ++ flat_map (λ p. if p == b then ms else []) peers) (by (cases_eq peer b))
  where
    by : (peer ≡ b) ⊎ (peer ≡ b → ⊥) → accepted (map (accepted_in peer (numbers_at xs peer)) ms) (flow_with b (numbers_at xs b)) ≡ (if peer == b then ms else [])
    by (inl here) =
        ap (λ p. accepted (map (accepted_in p (numbers_at xs p)) ms) (flow_with b (numbers_at xs b))) here ∙ puts_accepted b (numbers_at xs b) ms
        ∙ ap (λ (t : Bool). if t then ms else []) (sym (let yes : (peer == b) ≡ true = grind (arith, nat_tests, here) in yes))
    by (inr other) =
        puts_to_other b peer (numbers_at xs b) (numbers_at xs peer) ms (other_word b peer other)
        ∙ ap (λ (t : Bool). if t then ms else []) (sym (let no : (peer == b) ≡ false = grind (arith, nat_tests, other) in no))

never : (ms : List Message) (b : ℕ) (peers : List ℕ) → count_by (λ p. p == b) peers ≡ 0 → flat_map (λ p. if p == b then ms else []) peers ≡ []
never ms b [] none = refl
never ms b (p ∷ ps) none = by (p == b) refl (never ms b ps)
  where
    count : count_by (λ q. q == b) (p ∷ ps) ≡ cond (p == b) 1 0 + count_by (λ q. q == b) ps
    count = sum_by-cons (λ q. cond (q == b) 1 0) p ps

    by : (t : Bool) → (p == b) ≡ t → (count_by (λ q. q == b) ps ≡ 0 → flat_map (λ q. if q == b then ms else []) ps ≡ []) → (if t then ms else []) ++ flat_map (λ q. if q == b then ms else []) ps ≡ []
    by true is later = absurd (let one : ◌≡◌ {A = ℕ} (cond (p == b) 1 0) 1 = ap (λ (t : Bool). cond t 1 0) is in let wrong : ⊥ = omega (arith, one, none, count) in wrong)
    by false is later = later (let zero_is : ◌≡◌ {A = ℕ} (cond (p == b) 1 0) 0 = ap (λ (t : Bool). cond t 1 0) is in omega (arith, zero_is, none, count))

once : (ms : List Message) (b : ℕ) (peers : List ℕ) → count_by (λ p. p == b) peers ≡ 1 → flat_map (λ p. if p == b then ms else []) peers ≡ ms
once ms b [] one = absurd (let wrong : ⊥ = omega (arith, one) in wrong)
once ms b (p ∷ ps) one = by (p == b) refl (once ms b ps)
  where
    count : count_by (λ q. q == b) (p ∷ ps) ≡ cond (p == b) 1 0 + count_by (λ q. q == b) ps
    count = sum_by-cons (λ q. cond (q == b) 1 0) p ps

    by : (t : Bool) → (p == b) ≡ t → (count_by (λ q. q == b) ps ≡ 1 → flat_map (λ q. if q == b then ms else []) ps ≡ ms) → (if t then ms else []) ++ flat_map (λ q. if q == b then ms else []) ps ≡ ms
    by true is later =
        let here : ◌≡◌ {A = ℕ} (cond (p == b) 1 0) 1 = ap (λ (t : Bool). cond t 1 0) is in
        ap (λ rest. ms ++ rest) (never ms b ps (omega (arith, here, one, count))) ∙ append-nil ms
    by false is later =
        let zero_is : ◌≡◌ {A = ℕ} (cond (p == b) 1 0) 0 = ap (λ (t : Bool). cond t 1 0) is in
        later (omega (arith, zero_is, one, count))

-- a number stands once in the range in which it is
in_range : (b first count : ℕ) → b < first → count_by (λ p. p == b) (range_with_len first count) ≡ 0
in_range b first zero below = refl
in_range b first (suc count) below =
    let no : (first == b) ≡ false = grind (arith, nat_tests, below) in
    let here : ◌≡◌ {A = ℕ} (cond (first == b) 1 0) 0 = ap (λ (t : Bool). cond t 1 0) no in
    let rest = in_range b (first + 1) count (omega (arith, below)) in
    omega (arith, here, rest, sum_by-cons (λ p. cond (p == b) 1 0) first (range_with_len (first + 1) count))

range_once : (b first count : ℕ) → first ≤ b → b < first + count → count_by (λ p. p == b) (range_with_len first count) ≡ 1
range_once b first zero low high = absurd (let wrong : ⊥ = omega (arith, low, high) in wrong)
range_once b first (suc count) low high = by (cases_eq first b) (range_once b (first + 1) count)
  where
    whole : count_by (λ p. p == b) (range_with_len first (suc count)) ≡ cond (first == b) 1 0 + count_by (λ p. p == b) (range_with_len (first + 1) count)
    whole = sum_by-cons (λ p. cond (p == b) 1 0) first (range_with_len (first + 1) count)

    by : (first ≡ b) ⊎ (first ≡ b → ⊥) → (first + 1 ≤ b → b < first + 1 + count → count_by (λ p. p == b) (range_with_len (first + 1) count) ≡ 1) → count_by (λ p. p == b) (range_with_len first (suc count)) ≡ 1
    by (inl here) later =
        let yes : (first == b) ≡ true = grind (arith, nat_tests, here) in
        let one : ◌≡◌ {A = ℕ} (cond (first == b) 1 0) 1 = ap (λ (t : Bool). cond t 1 0) yes in
        let rest = in_range b (first + 1) count (omega (arith, here)) in
        omega (arith, one, rest, whole)
    by (inr other) later =
        let no : (first == b) ≡ false = grind (arith, nat_tests, other) in
        let none : ◌≡◌ {A = ℕ} (cond (first == b) 1 0) 0 = ap (λ (t : Bool). cond t 1 0) no in
        let rest = later (grind (arith, low, other)) (omega (arith, high)) in
        omega (arith, none, rest, whole)

-- a peer in contact is told once
contact_once : (xs : List (Option Neighbour)) (b : ℕ) → 1 ≤ b → b ≤ 32 → is_met (slice_index_or xs b None) ≡ true → count_by (λ p. p == b) (peers_in_contact xs) ≡ 1
unfolding peers_in_contact
contact_once xs b low high there =
    count_by-filter (λ p. p == b) (λ p. is_met (slice_index_or xs p None)) (range_with_len 1 32)
    ∙ count_by-agree (λ p. is_met (slice_index_or xs p None) && (p == b)) (λ p. p == b) same (range_with_len 1 32)
    ∙ range_once b 1 32 low (omega (arith, high))
  where
    same : (p : ℕ) → is_met (slice_index_or xs p None) && (p == b) ≡ (p == b)
    same p = by (p == b) refl
      where
        by : (t : Bool) → (p == b) ≡ t → is_met (slice_index_or xs p None) && (p == b) ≡ (p == b)
        by true is = let here : p ≡ b = eqb-true _ _ is in ap (λ t. t && (p == b)) (ap (λ q. is_met (slice_index_or xs q None)) here ∙ there)
        by false is = ap (λ t. is_met (slice_index_or xs p None) && t) is ∙ and_none (is_met (slice_index_or xs p None)) ∙ sym is

pub told_once : (xs : List (Option Neighbour)) (ms : List Message) (b : ℕ) → 1 ≤ b → b ≤ 32 → is_met (slice_index_or xs b None) ≡ true
    → accepted (told_entries xs ms (peers_in_contact xs)) (flow_with b (numbers_at xs b)) ≡ ms
told_once xs ms b low high there = told_times xs ms b (peers_in_contact xs) ∙ once ms b (peers_in_contact xs) (contact_once xs b low high there)
