-- The calls of a caller, one after the other, show its part of the plan.
use Rattle.std.specs.List.{All}
use Rattle.std.specs.Prelude.{Option, Some, None}
use Rattle.std.proofs.Common.{◌≡◌, ◌⊎◌, inl, inr, ℕ, zero, suc, ◌+◌, ◌<◌, Bool, true, false, arith, List, [], ◌∷◌, ◌++◌, length, append_assoc, append-nil, add-zero, length-append, map, refl, sym, subst, ◌∙◌, ap}
use Rattle.std.proofs.lemmas.List.{map-append}
use Rattle.tipc_types.specs.declared.node_calls.Answer.{Answer}
use Rattle.tipc_types.specs.declared.node_calls.Answer.TheVariants as answer
use Rattle.tipc_types.specs.declared.node_calls.EventNote.{EventNote}
use Rattle.tipc_types.specs.declared.node_calls.EventNote.TheVariants.{Socket}
use Rattle.tipc_node.specs.Sockets.{kept_answer}
use Rattle.tipc_node_lock.specs.declared.passes.MadeCall.{MadeCall}
use Rattle.tipc_node_lock.specs.Locks.{LockState}
use Rattle.tipc_node_lock.specs.Passes.{PassState}
use Rattle.tipc_work.specs.declared.plans.LivePlan.{LivePlan}
use Rattle.tipc_work.specs.Called.{MakesCalls, FollowsPlan, IsSameCaller, MakesCall, IsAnsweredSo, SendsMany, SendsOne}
use Rattle.tipc_work.specs.Plans.{AreTries, ShowsCaller, is_again, port_made, publishing, named_send, sends_from}
use Rattle.tipc_work.specs.Shown.{HasCalled, IsUnusedPass, calls_made}

-- what a journal keeps of an answer tells the same port, and whether to try again
pub port_kept : (a : Answer) → port_made (kept_answer a) ≡ port_made a
port_kept (answer.Received m) = refl
port_kept other = refl

pub again_kept : (a : Answer) → is_again (kept_answer a) ≡ is_again a
again_kept (answer.Received m) = refl
again_kept other = refl

-- the same pass is the same caller's
pub same_still_self : (p : PassState) → IsSameCaller p p
same_still_self p = record { of_table = refl; own = refl; caller = refl; full = λ was. was }

-- ---- one call more

-- one call more
pub calls_one : (p p' : PassState) (call : EventNote) (kept : Answer) → MakesCall p p' call kept → MakesCalls p p' ((call, kept) ∷ [])
calls_one p p' call kept h = record {
  is = ap calls_made h.made ∙ map-append (λ (m : MadeCall). (m.call, m.answer)) p.made (record { stamp = h.stamp; call = call; answer = kept } ∷ []);
}

-- calls behind others
pub calls_then : (p q p' : PassState) (xs ys : List (EventNote × Answer)) → MakesCalls p q xs → MakesCalls q p' ys → MakesCalls p p' (xs ++ ys)
calls_then p q p' xs ys a b = record { is = b.is ∙ ap (λ zs. zs ++ ys) a.is ∙ append_assoc (calls_made p.made) xs ys }

-- no call behind others
pub calls_still : (p q p' : PassState) (xs : List (EventNote × Answer)) → MakesCalls p q xs → p'.made ≡ q.made → MakesCalls p p' xs
calls_still p q p' xs a same = record { is = ap calls_made same ∙ a.is }

pub calls_none : (p : PassState) → MakesCalls p p []
calls_none p = record { is = sym (append-nil (calls_made p.made)) }

-- ---- the tries of one message

-- so many tries were answered so that the message is tried again
pub record AreTried (call : EventNote) (tries : ℕ) (p p' : PassState) : Type 0 where
  pub before : List Answer
  pub again : All (λ a. is_again a ≡ true) before
  pub count : length before ≡ tries
  pub calls : MakesCalls p p' (map (λ a. (call, a)) before)

pub tried_none : (call : EventNote) (p : PassState) → AreTried call 0 p p
tried_none call p = record { before = []; again = λ i d less. absurd (omega (arith, less)); count = refl; calls = calls_none p }

-- what holds of some and of one more
all_snoc : {X : Type 0} (P : X → Type 0) (xs : List X) (y : X) → All P xs → P y → All P (xs ++ y ∷ [])
all_snoc P [] y all here zero d less = here
all_snoc P [] y all here (suc i) d less = absurd (omega (arith, less))
all_snoc P (x ∷ xs) y all here zero d less = all 0 d (omega arith)
all_snoc P (x ∷ xs) y all here (suc i) d less = all_snoc P xs y (λ k e within. all (suc k) e (omega (arith, within))) here i d (omega (arith, less))

-- the calls of one try more
one_more : (call : EventNote) (p q q' p' : PassState) (before : List Answer) (a : Answer) → MakesCalls p q (map (λ x. (call, x)) before) → MakesCall q q' call a → p'.made ≡ q'.made
    → MakesCalls p p' (map (λ x. (call, x)) (before ++ a ∷ []))
one_more call p q q' p' before a were h same =
    subst (λ zs. MakesCalls p p' zs) (sym (map-append (λ (x : Answer). (call, x)) before (a ∷ [])))
    (calls_still p q' p' _ (calls_then p q q' _ _ were (calls_one q q' call a h)) same)

pub tried_more : (call : EventNote) (k : ℕ) (p q q' p' : PassState) (a : Answer) → AreTried call k p q → MakesCall q q' call a → is_again a ≡ true → p'.made ≡ q'.made
    → AreTried call (k + 1) p p'
tried_more call k p q q' p' a t h again same = record {
  before = t.before ++ a ∷ [];
  again = all_snoc (λ x. is_again x ≡ true) t.before a t.again again;
  count = length-append t.before (a ∷ []) ∙ ap (λ n. n + 1) t.count;
  calls = one_more call p q q' p' t.before a t.calls h same;
}

-- the last try
pub tried_last : (call : EventNote) (k : ℕ) (p q q' p' : PassState) (a : Answer) → AreTried call k p q → k < 1000 → MakesCall q q' call a → is_again a ≡ false
    → p'.made ≡ q'.made → SendsOne call p p' true
tried_last call k p q q' p' a t few h stop same = (
  t.before ++ a ∷ [],
  record {
    before = t.before;
    last = a;
    is = refl;
    again = t.again;
    few = let count = t.count in omega (arith, count, few);
    ends = λ on. absurd cc;
  },
  one_more call p q q' p' t.before a t.calls h same,
)

-- the last of some answers
record HasLast (xs : List Answer) : Type 0 where
  pub before : List Answer
  pub last : Answer
  pub is : xs ≡ before ++ last ∷ []
  pub again : All (λ a. is_again a ≡ true) before
  pub count : length before + 1 ≡ length xs

last_of : (x : Answer) (xs : List Answer) → All (λ a. is_again a ≡ true) (x ∷ xs) → HasLast (x ∷ xs)
last_of x [] all = record { before = []; last = x; is = refl; again = λ i d less. absurd (omega (arith, less)); count = refl }
last_of x (y ∷ ys) all = by (last_of y ys (λ i d less. all (suc i) d (omega (arith, less))))
  where
    first : (before : List Answer) → All (λ a. is_again a ≡ true) before → All (λ a. is_again a ≡ true) (x ∷ before)
    first before rest zero d less = all 0 x (omega arith)
    first before rest (suc i) d less = rest i d (omega (arith, less))

    by : HasLast (y ∷ ys) → HasLast (x ∷ y ∷ ys)
    by h = record {
      before = x ∷ h.before;
      last = h.last;
      is = ap (λ zs. x ∷ zs) h.is;
      again = first h.before h.again;
      count = let count = h.count in omega (arith, count);
    }

-- as many tries as there may be
pub tried_most : (call : EventNote) (p p' : PassState) → AreTried call 1000 p p' → SendsOne call p p' true
tried_most call p p' t = by t.before t.again t.count t.calls
  where
    from : (xs : List Answer) → length xs ≡ 1000 → HasLast xs → AreTries xs
    from xs count h = record {
      before = h.before;
      last = h.last;
      is = h.is;
      again = h.again;
      few = let less = h.count in omega (arith, less, count);
      ends = λ on. let less = h.count in omega (arith, less, count);
    }

    by : (xs : List Answer) → All (λ a. is_again a ≡ true) xs → length xs ≡ 1000 → MakesCalls p p' (map (λ a. (call, a)) xs) → SendsOne call p p' true
    by [] all count calls = absurd (omega (arith, count))
    by (x ∷ xs) all count calls = (x ∷ xs, from (x ∷ xs) count (last_of x xs all), calls)

-- the same of a try that was answered so, or for which the journal had no room
pub tried_so : (call c : EventNote) (k : ℕ) (p q q' p' : PassState) (r : Option Answer) (a : Answer) → c ≡ call → AreTried call k p q → IsAnsweredSo q q' c r → r ≡ Some a
    → is_again a ≡ true → p'.made ≡ q'.made → AreTried call (k + 1) p p'
tried_so call c k p q q' p' r a same t h is again still =
    tried_more call k p q q' p' (kept_answer a) t (subst (λ (x : EventNote × Option Answer). IsAnsweredSo q q' x.0 x.1) (λ j. (same j, is j)) h) (again_kept a ∙ again) still

pub sent_so : (call c : EventNote) (k : ℕ) (p q q' p' : PassState) (r : Option Answer) (a : Answer) → c ≡ call → AreTried call k p q → k < 1000 → IsAnsweredSo q q' c r → r ≡ Some a
    → is_again a ≡ false → p'.made ≡ q'.made → SendsOne call p p' true
sent_so call c k p q q' p' r a same t few h is stop still =
    tried_last call k p q q' p' (kept_answer a) t few (subst (λ (x : EventNote × Option Answer). IsAnsweredSo q q' x.0 x.1) (λ j. (same j, is j)) h) (again_kept a ∙ stop) still

pub full_so : (q q' : PassState) (c : EventNote) (r : Option Answer) → IsAnsweredSo q q' c r → r ≡ None → q'.full ≡ true
full_so q q' c r h is = (subst (λ (x : Option Answer). IsAnsweredSo q q' c x) is h).full

-- the same where there were as many tries as there may be
pub tried_out : (call : EventNote) (k : ℕ) (p p' : PassState) → AreTried call k p p' → k ≡ 1000 → SendsOne call p p' true
tried_out call k p p' t all = tried_most call p p' (subst (λ n. AreTried call n p p') all t)

-- ---- one message behind others

-- the calls of one message more
sends_more : (call : ℕ → EventNote) (n : ℕ) (tries : List (List Answer)) (t : List Answer)
    → sends_from call n (tries ++ t ∷ []) ≡ sends_from call n tries ++ map (λ a. (call (n + length tries), a)) t
sends_more call n [] t =
    append-nil (map (λ a. (call n, a)) t) ∙ ap (λ m. map (λ (a : Answer). (call m, a)) t) (sym (add-zero n))
sends_more call n (x ∷ tries) t =
    let here : List (EventNote × Answer) = map (λ a. (call n, a)) x in
    let rest = sends_more call (n + 1) tries t in
    let number : n + 1 + length tries ≡ n + suc (length tries) = omega arith in
    ap (λ zs. here ++ zs) rest
    ∙ sym (append_assoc here (sends_from call (n + 1) tries) (map (λ a. (call (n + 1 + length tries), a)) t))
    ∙ ap (λ m. (here ++ sends_from call (n + 1) tries) ++ map (λ (a : Answer). (call m, a)) t) number

pub sent_none : (call : ℕ → EventNote) (p : PassState) → SendsMany call 0 p p true
sent_none call p = ([], refl, (λ i d less. absurd (omega (arith, less))), calls_none p)

pub sent_more : (call : ℕ → EventNote) (k : ℕ) (p q p' : PassState) → SendsMany call k p q true → SendsOne (call k) q p' true → SendsMany call (k + 1) p p' true
sent_more call k p q p' (tries, count, each, calls) (answers, are, one) =
    let at : k ≡ 0 + length tries = omega (arith, count) in (
      tries ++ answers ∷ [],
      length-append tries (answers ∷ []) ∙ ap (λ n. n + 1) count,
      all_snoc AreTries tries answers each are,
      subst (λ zs. MakesCalls p p' zs) (sym (sends_more call 0 tries answers))
          (calls_then p q p' (sends_from call 0 tries) (map (λ (a : Answer). (call (0 + length tries), a)) answers) calls
          (subst (λ m. MakesCalls q p' (map (λ (a : Answer). (call m, a)) answers)) at one)),
    )

-- the same of one that was sent to the end, or wasn't
pub sent_on : (call : ℕ → EventNote) (k : ℕ) (p q p' : PassState) (on : Bool) → on ≡ true → SendsMany call k p q true → SendsOne (call k) q p' on
    → SendsMany call (k + 1) p p' true
sent_on call k p q p' on is were one = sent_more call k p q p' were (subst (λ (b : Bool). SendsOne (call k) q p' b) is one)

pub sent_off : (call : EventNote) (q p' : PassState) (on : Bool) → on ≡ false → SendsOne call q p' on → p'.full ≡ true
sent_off call q p' on is one = subst (λ (b : Bool). SendsOne call q p' b) is one

-- ---- the whole

pub plan_shown : (plan : LivePlan) (node caller : ℕ) (p q r p' : PassState) (made published : Answer) → p.made ≡ [] → MakesCall p q Socket made
    → MakesCall q r (publishing node caller (port_made made)) published
    → SendsMany (named_send plan node caller (port_made made)) plan.messages r p' true → ShowsCaller plan node caller (calls_made p'.made)
plan_shown plan node caller p q r p' made published none socket publish (tries, count, each, calls) = record {
  made = made;
  published = published;
  tries = tries;
  messages = count;
  each = each;
  is =
      (calls_then p r p' _ (sends_from (named_send plan node caller (port_made made)) 0 tries)
      (calls_then p q r _ _ (calls_one p q Socket made socket) (calls_one q r (publishing node caller (port_made made)) published publish)) calls).is
      ∙ ap (λ ms. calls_made ms ++ ((Socket, made) ∷ (publishing node caller (port_made made), published) ∷ sends_from (named_send plan node caller (port_made made)) 0 tries)) none;
}

-- the same by what the calls answered
pub plan_followed : (plan : LivePlan) (node caller port : ℕ) (p q r p' : PassState) (first second : Option Answer) (made published : Answer) (call : EventNote) (on : Bool)
    → p.made ≡ [] → IsAnsweredSo p q Socket first → first ≡ Some made → port ≡ port_made made → call ≡ publishing node caller port → IsAnsweredSo q r call second
    → second ≡ Some published → SendsMany (named_send plan node caller port) plan.messages r p' on → FollowsPlan plan node caller p' on
plan_followed plan node caller port p q r p' first second made published call true none socket is port_is call_is publish is' sent =
    plan_shown plan node caller p q r p' (kept_answer made) (kept_answer published) none
    (subst (λ (x : Option Answer). IsAnsweredSo p q Socket x) is socket)
    (subst (λ (x : EventNote × Option Answer). IsAnsweredSo q r x.0 x.1) (λ j. ((call_is ∙ ap (publishing node caller) at) j, is' j)) publish)
    (subst (λ n. SendsMany (named_send plan node caller n) plan.messages r p' true) at sent)
  where
    at : port ≡ port_made (kept_answer made)
    at = port_is ∙ sym (port_kept made)
plan_followed plan node caller port p q r p' first second made published call false none socket is port_is call_is publish is' sent = sent

-- ---- a caller's whole run

pub unused_as : (l : LockState) (number : ℕ) (p q : PassState) → number ≡ p.caller → q ≡ p → IsUnusedPass l p.caller p → IsUnusedPass l number q
unused_as l number p q is same unused = subst (λ (x : ℕ × PassState). IsUnusedPass l x.0 x.1) (λ j. (sym is j, sym same j)) unused

pub caller_done : (plan : LivePlan) (node number : ℕ) (l : LockState) (p q p' : PassState) (on : Bool) → number ≡ p.caller → q ≡ p → IsUnusedPass l p.caller p → IsSameCaller q p'
    → FollowsPlan plan node number p' on → p'.short ≡ false → HasCalled plan node p.caller l p'
caller_done plan node number l p q p' on is start unused same followed memory = record {
  used = record {
    pass = (same.of_table ∙ ap (λ (x : PassState). x.seat.of_table) start ∙ unused.pass.0, same.own ∙ ap (λ (x : PassState). x.own) start ∙ unused.pass.1);
    caller = same.caller ∙ ap (λ (x : PassState). x.caller) start;
    memory = memory;
  };
  shows = by on followed;
}
  where
    by : (b : Bool) → FollowsPlan plan node number p' b → (p'.full ≡ true) ⊎ ShowsCaller plan node p.caller (calls_made p'.made)
    by true shown = inr (subst (λ k. ShowsCaller plan node k (calls_made p'.made)) is shown)
    by false full = inl full
