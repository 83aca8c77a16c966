-- Calls that were made show the plan where each message's tries follow those of the one before, and how many these are
-- is certain.
use Rattle.std.specs.List.{All}
use Rattle.std.specs.Prelude.{nat_lt, slice_index_or}
use Rattle.std.proofs.Common.{◌≡◌, ◌⊎◌, inl, inr, ℕ, zero, suc, ◌+◌, ◌-◌, ◌<◌, ◌≤◌, true, false, arith, List, [], ◌∷◌, ◌++◌, drop, length, length-append, map, refl, sym, subst, take, ◌∙◌, ap}
use Rattle.std.proofs.lemmas.Bool.Decides.{nat_tests}
use Rattle.std.proofs.lemmas.List.{drop-append-le, drop-map, drop_all, get_or-map, get_or_default, get_or-take, get_or_push, length-map, length-take-le, map-append, map_more, take-append-drop, take-append-le, take-map, take-take, take_all}
use Rattle.std.proofs.lemmas.List.Elements.{All-map, All-more, All-take}
use Rattle.tipc_types.specs.declared.node_calls.Answer.{Answer}
use Rattle.tipc_types.specs.declared.node_calls.EventNote.{EventNote}
use Rattle.tipc_types.specs.declared.node_calls.EventNote.TheVariants.{Socket}
use Rattle.tipc_node_lock.specs.declared.passes.MadeCall.{MadeCall}
use Rattle.tipc_work.specs.declared.plans.LivePlan.{LivePlan}
use Rattle.tipc_work.specs.Plans.{AreTries, ShowsCaller, is_again, named_send, port_made, publishing, sends_from}
use Rattle.tipc_work.specs.Showing.{AreSends, BeginWithTries}
use Rattle.tipc_work.specs.Shown.{calls_made}

-- what holds of the first and of the others
all_cons : {X : Type 0} (P : X → Type 0) (x : X) (xs : List X) → P x → All P xs → All P (x ∷ xs)
all_cons P x xs first rest zero d less = first
all_cons P x xs first rest (suc i) d less = rest i d (omega (arith, less))

-- ---- the tries of one message

-- the first calls, so many of them, are tries of one message that say to try again
pub record AreTriedAgain (call : EventNote) (made : List MadeCall) (count : ℕ) : Type 0 where
  pub within : count ≤ length made
  pub few : count < 1000
  pub calls : All (λ m. m.call ≡ call) (take count made)
  pub again : All (λ m. is_again m.answer ≡ true) (take count made)

-- one more
pub again_more : (call : EventNote) (made : List MadeCall) (k : ℕ) (one : MadeCall) → AreTriedAgain call made k → k < length made → one ≡ slice_index_or made k one
    → one.call ≡ call → is_again one.answer ≡ true → (k + 1 ≡ 1000 → ⊥) → AreTriedAgain call made (k + 1)
again_more call made k one h less read same again more = record {
  within = omega (arith, less);
  few = by h.few;
  calls = All-more (λ m. m.call ≡ call) made k one less h.calls (subst (λ m. m.call ≡ call) read same);
  again = All-more (λ m. is_again m.answer ≡ true) made k one less h.again (subst (λ m. is_again m.answer ≡ true) read again);
}
  where
    by : k < 1000 → k + 1 < 1000
    by few = elim (nat_lt (k + 1) 1000) as (λ b. nat_lt (k + 1) 1000 ≡ b → k + 1 < 1000) [
      | true ↦ λ test. grind (arith, nat_tests)
      | false ↦ λ test. absurd (more (grind (arith, nat_tests)))
    ] refl

-- the last one
pub tries_end : (call : EventNote) (made : List MadeCall) (k : ℕ) (one : MadeCall) → AreTriedAgain call made k → k < length made → one ≡ slice_index_or made k one
    → one.call ≡ call → (k + 1 ≡ 1000) ⊎ (is_again one.answer ≡ false) → BeginWithTries call made (k + 1)
tries_end call made k one h less read same stop = record {
  before = k;
  is = refl;
  within = less;
  few = h.few;
  calls = All-more (λ m. m.call ≡ call) made k one less h.calls (subst (λ m. m.call ≡ call) read same);
  again = h.again;
  ends = ends stop;
}
  where
    ends : (k + 1 ≡ 1000) ⊎ (is_again one.answer ≡ false) → (m : MadeCall) → is_again (slice_index_or made k m).answer ≡ true → k ≡ 999
    ends (inl most) m on = omega (arith, most)
    ends (inr off) m on =
        let there = get_or_default made k m one less in
        let here : is_again one.answer ≡ true = subst (λ x. is_again x.answer ≡ true) (there ∙ sym read) on in absurd cc

-- tries that are whole are more than those that say to try again
pub whole_is_more : (call : EventNote) (made : List MadeCall) (k n : ℕ) → AreTriedAgain call made k → BeginWithTries call made n → k < n
whole_is_more call [] k n t h = let within = h.within in absurd (omega (arith, within))
whole_is_more call (m ∷ ms) k n t h = elim (nat_lt k n) as (λ b. nat_lt k n ≡ b → k < n) [
  | true ↦ λ test. grind (arith, nat_tests)
  | false ↦ λ test. absurd (none (grind (arith, nat_tests)))
] refl
  where
    none : n ≤ k → ⊥
    none most =
        let is = h.is in
        let few = t.few in
        let inside : h.before < k = omega (arith, is, most) in
        let long = length-take-le k (m ∷ ms) t.within in
        let last = subst (λ x. is_again x.answer ≡ true) (get_or-take k (m ∷ ms) h.before m inside) (t.again h.before m (omega (arith, inside, long))) in
        let most : h.before ≡ 999 = h.ends m last in omega (arith, inside, few, most)

-- a call that is another one stands behind those that say to try again
pub none_differs : (call : EventNote) (made : List MadeCall) (k n : ℕ) (one : MadeCall) → AreTriedAgain call made k → k < length made → one ≡ slice_index_or made k one
    → (one.call ≡ call → ⊥) → BeginWithTries call made n → ⊥
none_differs call made k n one t less read other h =
    let more = whole_is_more call made k n t h in
    let is = h.is in
    let within = h.within in
    let long = length-take-le n made (omega (arith, is, within)) in
    let same = subst (λ x. x.call ≡ call) (get_or-take n made k one more ∙ sym read) (h.calls k one (omega (arith, more, long))) in other same

-- all calls say to try again
pub none_over : (call : EventNote) (made : List MadeCall) (k n : ℕ) → AreTriedAgain call made k → length made ≤ k → BeginWithTries call made n → ⊥
none_over call made k n t over h =
    let more = whole_is_more call made k n t h in
    let is = h.is in
    let within = h.within in omega (arith, more, is, within, over)

-- there is one number of calls that are all the tries
pub one_count : (call : EventNote) (made : List MadeCall) (n k : ℕ) → BeginWithTries call made n → BeginWithTries call made k → n ≡ k
one_count call made n k a b =
    let first = whole_is_more call made a.before k (front n a) b in
    let second = whole_is_more call made b.before n (front k b) a in
    let n_is = a.is in
    let k_is = b.is in omega (arith, first, second, n_is, k_is)
  where
    front : (c : ℕ) (h : BeginWithTries call made c) → AreTriedAgain call made h.before
    front c h =
        let within = h.within in
        let is = h.is in record {
          within = omega (arith, within);
          few = h.few;
          calls = subst (All (λ (m : MadeCall). m.call ≡ call)) (take-take h.before c made (omega (arith, is))) (All-take (λ (m : MadeCall). m.call ≡ call) h.before (take c made) h.calls);
          again = h.again;
        }

-- ---- as lists

-- one call, with several answers
abbrev with_call : EventNote → List Answer → List (EventNote × Answer)
with_call call t = map (λ a. (call, a)) t

-- calls that are all one, with their answers
same_calls : (call : EventNote) (xs : List MadeCall) → All (λ m. m.call ≡ call) xs → calls_made xs ≡ map (λ a. (call, a)) (map (λ m. m.answer) xs)
same_calls call [] h = refl
same_calls call (m ∷ ms) h =
    ap (λ c. (c, m.answer) ∷ calls_made ms) (h 0 m (omega arith))
    ∙ ap (λ zs. (call, m.answer) ∷ zs) (same_calls call ms (λ i d less. h (suc i) d (omega (arith, less))))

calls_same : (call : EventNote) (xs : List MadeCall) (t : List Answer) → calls_made xs ≡ map (λ a. (call, a)) t → All (λ m. m.call ≡ call) xs × (map (λ m. m.answer) xs ≡ t)
calls_same call [] [] e = (λ i d less. absurd (omega (arith, less)), refl)
calls_same call [] (a ∷ t) e = absurd cc
calls_same call (m ∷ ms) [] e = absurd cc
calls_same call (m ∷ ms) (a ∷ t) e =
    let pair : (m.call, m.answer) ≡ (call, a) = cc in
    let first : m.call ≡ call = ap (λ (q : EventNote × Answer). q.0) pair in
    let answer : m.answer ≡ a = ap (λ (q : EventNote × Answer). q.1) pair in
    let rest : calls_made ms ≡ map (λ x. (call, x)) t = cc in
    let later = calls_same call ms t rest in (
      all_cons (λ (x : MadeCall). x.call ≡ call) m ms first later.0,
      ap (λ x. x ∷ map (λ (y : MadeCall). y.answer) ms) answer ∙ ap (λ zs. a ∷ zs) later.1,
    )

-- the answers to tries
front_tries : (call : EventNote) (made : List MadeCall) (n : ℕ) → BeginWithTries call made n → AreTries (map (λ m. m.answer) (take n made))
front_tries call [] n h = let within = h.within in absurd (omega (arith, within))
front_tries call (m ∷ ms) n h = subst (λ k. AreTries (map (λ (x : MadeCall). x.answer) (take k (m ∷ ms)))) (sym h.is) (record {
  before = map (λ (x : MadeCall). x.answer) (take h.before (m ∷ ms));
  last = (slice_index_or (m ∷ ms) h.before m).answer;
  is = map_more (λ (x : MadeCall). x.answer) (m ∷ ms) h.before m h.within;
  again = All-map (λ (a : Answer). is_again a ≡ true) (λ (x : MadeCall). x.answer) (take h.before (m ∷ ms)) h.again;
  few = let few = h.few in omega (arith, long, few);
  ends = λ on. long ∙ h.ends m on;
})
  where
    long : length (map (λ (x : MadeCall). x.answer) (take h.before (m ∷ ms))) ≡ h.before
    long = length-map (take h.before (m ∷ ms)) (λ (x : MadeCall). x.answer) ∙ length-take-le h.before (m ∷ ms) (let within = h.within in omega (arith, within))

-- the tries of one message, and those of the messages behind it
pub front_sends : (call : ℕ → EventNote) (number count : ℕ) (made : List MadeCall) (n : ℕ) → BeginWithTries (call number) made n
    → AreSends call (number + 1) count (calls_made (drop n made)) → AreSends call number (count + 1) (calls_made made)
front_sends call number count made n h s = record {
  tries = map (λ (m : MadeCall). m.answer) (take n made) ∷ s.tries;
  messages = let same = s.messages in omega (arith, same);
  each = all_cons AreTries _ _ (front_tries (call number) made n h) s.each;
  is = ap calls_made (sym (take-append-drop n made)) ∙ map-append (λ (m : MadeCall). (m.call, m.answer)) (take n made) (drop n made)
      ∙ ap (λ zs. zs ++ calls_made (drop n made)) (same_calls (call number) (take n made) h.calls)
      ∙ ap (λ zs. map (λ a. (call number, a)) (map (λ (m : MadeCall). m.answer) (take n made)) ++ zs) s.is;
}

-- calls that begin with tries begin with them in a list, too, and what is behind them stays
begins : (call : EventNote) (made : List MadeCall) (t : List Answer) (rest : List (EventNote × Answer)) → AreTries t → calls_made made ≡ with_call call t ++ rest
    → BeginWithTries call made (length t) × (calls_made (drop (length t) made) ≡ rest)
begins call made t rest a is = (
  record {
    before = length a.before;
    is = count;
    within = omega (arith, count, long);
    few = a.few;
    calls = both.0;
    again = λ i d less. subst (λ x. is_again x ≡ true) (get_or-map (λ (m : MadeCall). m.answer) (take (length a.before) made) i d d.answer less)
        (subst (All (λ x. is_again x ≡ true)) (sym front_answers) a.again i d.answer (subst (λ k. i < k) (sym (length-map (take (length a.before) made) (λ (m : MadeCall). m.answer))) less));
    ends = λ m on. a.ends (subst (λ x. is_again x ≡ true) (last_answer m) on);
  },
  sym (drop-map (λ (m : MadeCall). (m.call, m.answer)) (length t) made) ∙ ap (drop (length t)) is ∙ drop-append-le (length t) (with_call call t) rest (omega (arith, same))
      ∙ ap (λ zs. zs ++ rest) (drop_all (length t) (with_call call t) (omega (arith, same))),
)
  where
    same : length (with_call call t) ≡ length t
    same = length-map t (λ x. (call, x))

    count : length t ≡ length a.before + 1
    count = ap length a.is ∙ length-append a.before (a.last ∷ [])

    long : length made ≡ length t + length rest
    long = sym (length-map made (λ (m : MadeCall). (m.call, m.answer))) ∙ ap length is ∙ length-append (with_call call t) rest ∙ ap (λ k. k + length rest) same

    front : calls_made (take (length t) made) ≡ with_call call t
    front = sym (take-map (λ (m : MadeCall). (m.call, m.answer)) (length t) made) ∙ ap (take (length t)) is
        ∙ take-append-le (length t) (with_call call t) rest (omega (arith, same)) ∙ take_all (length t) (with_call call t) (omega (arith, same))

    both : All (λ (m : MadeCall). m.call ≡ call) (take (length t) made) × (map (λ (m : MadeCall). m.answer) (take (length t) made) ≡ t)
    both = calls_same call (take (length t) made) t front

    front_answers : map (λ (m : MadeCall). m.answer) (take (length a.before) made) ≡ a.before
    front_answers = ap (map (λ (m : MadeCall). m.answer)) (sym (take-take (length a.before) (length t) made (omega (arith, count))))
        ∙ sym (take-map (λ (m : MadeCall). m.answer) (length a.before) (take (length t) made)) ∙ ap (take (length a.before)) (both.1 ∙ a.is)
        ∙ take-append-le (length a.before) a.before (a.last ∷ []) (omega arith) ∙ take_all (length a.before) a.before (omega arith)

    last_answer : (m : MadeCall) → (slice_index_or made (length a.before) m).answer ≡ a.last
    last_answer m = ap (λ (x : MadeCall). x.answer) (sym (get_or-take (length t) made (length a.before) m (omega (arith, count))))
        ∙ sym (get_or-map (λ (x : MadeCall). x.answer) (take (length t) made) (length a.before) m m.answer (let taken = length-take-le (length t) made (omega (arith, long)) in omega (arith, taken, count)))
        ∙ ap (λ zs. slice_index_or zs (length a.before) m.answer) (both.1 ∙ a.is) ∙ get_or_push a.before a.last m.answer (length a.before) refl

-- the messages of a list of sends begin with the tries of the first
pub sends_front : (call : ℕ → EventNote) (number count : ℕ) (made : List MadeCall) → AreSends call number (count + 1) (calls_made made)
    → (n : ℕ) × BeginWithTries (call number) made n × AreSends call (number + 1) count (calls_made (drop n made))
sends_front call number count made s = by s.tries s.messages s.each s.is
  where
    by : (tries : List (List Answer)) → length tries ≡ count + 1 → All AreTries tries → calls_made made ≡ sends_from call number tries
        → (n : ℕ) × BeginWithTries (call number) made n × AreSends call (number + 1) count (calls_made (drop n made))
    by [] none each is = absurd (omega (arith, none))
    by (t ∷ ts) some each is =
        let b = begins (call number) made t (sends_from call (number + 1) ts) (each 0 t (omega arith)) is in (
          length t,
          b.0,
          record {
            tries = ts;
            messages = omega (arith, some);
            each = λ i d less. each (suc i) d (omega (arith, less));
            is = b.1;
          },
        )

-- ---- one message after the other

-- Calls are the tries of all messages just where those that are left, from the one of a number on, are the tries of the
-- messages that are left.
pub record LeavesSends (call : ℕ → EventNote) (messages number : ℕ) (made rest : List MadeCall) : Type 0 where
  pub on : AreSends call 0 messages (calls_made made) → AreSends call number (messages - number) (calls_made rest)
  pub back : AreSends call number (messages - number) (calls_made rest) → AreSends call 0 messages (calls_made made)

pub leaves_more : (call : ℕ → EventNote) (messages number : ℕ) (made rest : List MadeCall) (n : ℕ) → number < messages → LeavesSends call messages number made rest
    → BeginWithTries (call number) rest n → LeavesSends call messages (number + 1) made (drop n rest)
leaves_more call messages number made rest n less h b = record {
  on = λ s.
      let f = sends_front call number (messages - (number + 1)) rest (subst (λ k. AreSends call number k (calls_made rest)) one (h.on s)) in
      subst (λ k. AreSends call (number + 1) (messages - (number + 1)) (calls_made (drop k rest))) (one_count (call number) rest f.0 n f.1 b) f.2;
  back = λ s. h.back (subst (λ k. AreSends call number k (calls_made rest)) (sym one) (front_sends call number (messages - (number + 1)) rest n b s));
}
  where
    one : messages - number ≡ messages - (number + 1) + 1
    one = omega (arith, less)

pub leaves_none : (call : ℕ → EventNote) (messages number : ℕ) (made rest : List MadeCall) → number < messages → LeavesSends call messages number made rest
    → ((n : ℕ) → BeginWithTries (call number) rest n → ⊥) → AreSends call 0 messages (calls_made made) → ⊥
leaves_none call messages number made rest less h none s =
    let one : messages - number ≡ messages - (number + 1) + 1 = omega (arith, less) in
    let f = sends_front call number (messages - (number + 1)) rest (subst (λ k. AreSends call number k (calls_made rest)) one (h.on s)) in none f.0 f.1

-- ---- a caller and a mover

-- what a caller's calls are where they show its part: its socket, its publication, and the messages behind them
pub caller_parts : (plan : LivePlan) (node caller : ℕ) (made : List MadeCall) (m n : MadeCall) → 2 ≤ length made → m ≡ slice_index_or made 0 m → n ≡ slice_index_or made 1 n
    → ShowsCaller plan node caller (calls_made made)
    → (m.call ≡ Socket) × (n.call ≡ publishing node caller (port_made m.answer))
    × AreSends (named_send plan node caller (port_made m.answer)) 0 plan.messages (calls_made (drop 2 made))
caller_parts plan node caller [] m n two first second s = absurd (omega (arith, two))
caller_parts plan node caller (x ∷ []) m n two first second s = absurd (omega (arith, two))
caller_parts plan node caller (x ∷ y ∷ zs) m n two first second s =
    let is = s.is in
    let one : (x.call, x.answer) ≡ (Socket, s.made) = cc in
    let other : (y.call, y.answer) ≡ (publishing node caller (port_made s.made), s.published) = cc in
    let socket : x.call ≡ Socket = ap (λ (q : EventNote × Answer). q.0) one in
    let answer : s.made ≡ x.answer = sym (ap (λ (q : EventNote × Answer). q.1) one) in
    let publication : y.call ≡ publishing node caller (port_made s.made) = ap (λ (q : EventNote × Answer). q.0) other in
    let sends : calls_made zs ≡ sends_from (named_send plan node caller (port_made s.made)) 0 s.tries = cc in
    let same : port_made s.made ≡ port_made m.answer = ap port_made (answer ∙ ap (λ (z : MadeCall). z.answer) (sym first)) in (
      ap (λ (z : MadeCall). z.call) first ∙ socket,
      ap (λ (z : MadeCall). z.call) second ∙ publication ∙ ap (publishing node caller) same,
      subst (λ port. AreSends (named_send plan node caller port) 0 plan.messages (calls_made zs)) same (record {
        tries = s.tries;
        messages = s.messages;
        each = s.each;
        is = sends;
      }),
    )

-- and where they are these, they show it
pub caller_whole : (plan : LivePlan) (node caller : ℕ) (made : List MadeCall) (m n : MadeCall) → 2 ≤ length made → m ≡ slice_index_or made 0 m → n ≡ slice_index_or made 1 n
    → m.call ≡ Socket → n.call ≡ publishing node caller (port_made m.answer)
    → AreSends (named_send plan node caller (port_made m.answer)) 0 plan.messages (calls_made (drop 2 made)) → ShowsCaller plan node caller (calls_made made)
caller_whole plan node caller [] m n two first second socket publication s = absurd (omega (arith, two))
caller_whole plan node caller (x ∷ []) m n two first second socket publication s = absurd (omega (arith, two))
caller_whole plan node caller (x ∷ y ∷ zs) m n two first second socket publication s = record {
  made = m.answer;
  published = y.answer;
  tries = s.tries;
  messages = s.messages;
  each = s.each;
  is = ap (λ (z : MadeCall). (z.call, z.answer) ∷ (y.call, y.answer) ∷ calls_made zs) (sym first)
      ∙ ap (λ c. (c, m.answer) ∷ (y.call, y.answer) ∷ calls_made zs) socket
      ∙ ap (λ c. (Socket, m.answer) ∷ (c, y.answer) ∷ calls_made zs) (ap (λ (z : MadeCall). z.call) (sym second) ∙ publication)
      ∙ ap (λ zs. (Socket, m.answer) ∷ (publishing node caller (port_made m.answer), y.answer) ∷ zs) s.is;
}
