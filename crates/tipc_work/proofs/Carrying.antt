-- What a mover's bearers, pass and clock tell, step by step and over many steps.
use Rattle.std.specs.Prelude.{IsErrOf, Option, Some, None, Result, Ok, Err}
use Rattle.std.proofs.Common.{◌≡◌, ◌⊎◌, inl, inr, ℕ, ◌+◌, ◌<◌, ◌≤◌, Bool, true, false, if◌then◌else◌, arith, List, [], ◌∷◌, ◌++◌, append_assoc, append-nil, length, refl, sym, subst, ◌∙◌, ap}
use Rattle.std.proofs.lemmas.List.{map-append}
use Rattle.std.proofs.lemmas.List.Sums.{sum_by-append}
use Rattle.tipc_types.specs.declared.node_calls.Answer.{Answer}
use Rattle.tipc_types.specs.declared.node_calls.EventNote.{EventNote}
use Rattle.tipc_types.specs.declared.node_calls.EventNote.TheVariants.{Arrive, Mend, Tick}
use Rattle.tipc_outside.specs.declared.transport.BearerFault.{BearerFault}
use Rattle.tipc_outside.specs.declared.transport.BearerFault.TheVariants as bearer_fault
use Rattle.tipc_outside.specs.declared.transport.Heard.{Heard}
use Rattle.tipc_outside.specs.declared.transport.Heard.TheVariants as found
use Rattle.tipc_outside.specs.Causes.{Rose, counted}
use Rattle.tipc_node.specs.Sockets.{kept_answer}
use Rattle.tipc_node_lock.specs.declared.passes.MadeCall.{MadeCall}
use Rattle.tipc_node_lock.specs.Locks.{LockState}
use Rattle.tipc_node_lock.specs.Passes.{PassState, with_handed}
use Rattle.tipc_work.specs.declared.movers.Bearers.{Bearers}
use Rattle.tipc_work.specs.declared.movers.Mover.{Mover}
use Rattle.tipc_work.specs.Called.{ArrivesSo, IsSameCaller, IsAnsweredSo}
use Rattle.tipc_work.specs.Moved.{AsksBearer, CarriesFrames, CarriesNothing, CarriesOn, CallsOn, HasMended, HasMoved, LooksAtBearer, TicksNot, TicksOnce, arrivals_made, is_arrival, last_count, ticks_made}
use Rattle.tipc_work.specs.Plans.{ShowsMover}
use Rattle.tipc_work.specs.Shown.{IsUnusedPass, calls_made}

-- ---- counts

-- a count that rose since a later moment rose since an earlier one
rose_since : (a b c : ℕ) → a ≤ b → Rose b c → Rose a c
rose_since a b c earlier rose = omega (arith, earlier, rose)

-- and stays risen
rose_until : (a b c : ℕ) → Rose a b → b ≤ c → Rose a c
rose_until a b c rose later = omega (arith, rose, later)

arrivals_more : (xs ys : List MadeCall) → arrivals_made (xs ++ ys) ≡ arrivals_made xs + arrivals_made ys
arrivals_more xs ys = sum_by-append _ xs ys

ticks_more : (xs ys : List MadeCall) → ticks_made (xs ++ ys) ≡ ticks_made xs + ticks_made ys
ticks_more xs ys = sum_by-append _ xs ys

-- ---- the bearers

pub carries_then : {B : Type 0} (tried given faults : B → ℕ) (h s h' s' : ℕ) (b c d : Bearers B) → CarriesFrames tried given faults h s b c
    → CarriesFrames tried given faults h' s' c d → CarriesFrames tried given faults (h + h') (s + s') b d
carries_then tried given faults h s h' s' b c d first second = record {
  gave = λ x y.
      let before = first.gave (second.gave_first x) (second.gave_second y) in
      let behind = second.gave x y in
      omega (arith, before, behind);
  took = λ x y.
      let before = first.took (second.took_first x) (second.took_second y) in
      let behind = second.took x y in
      omega (arith, before, behind);
  gave_first = λ x. first.gave_first (second.gave_first x);
  gave_second = λ x. first.gave_second (second.gave_second x);
  took_first = λ x. first.took_first (second.took_first x);
  took_second = λ x. first.took_second (second.took_second x);
  at_first = let before = first.at_first in let behind = second.at_first in omega (arith, before, behind);
  at_second = let before = first.at_second in let behind = second.at_second in omega (arith, before, behind);
  rose = λ failed. by (second.rose failed);
}
  where
    before : (b.failed ≡ true) ⊎ (Rose (faults b.first) (faults c.first) ⊎ Rose (faults b.second) (faults c.second))
        → (b.failed ≡ true) ⊎ (Rose (faults b.first) (faults d.first) ⊎ Rose (faults b.second) (faults d.second))
    before (inl was) = inl was
    before (inr (inl rose)) = inr (inl (rose_until (faults b.first) (faults c.first) (faults d.first) rose second.at_first))
    before (inr (inr rose)) = inr (inr (rose_until (faults b.second) (faults c.second) (faults d.second) rose second.at_second))

    by : (c.failed ≡ true) ⊎ (Rose (faults c.first) (faults d.first) ⊎ Rose (faults c.second) (faults d.second))
        → (b.failed ≡ true) ⊎ (Rose (faults b.first) (faults d.first) ⊎ Rose (faults b.second) (faults d.second))
    by (inl failed) = before (first.rose failed)
    by (inr (inl rose)) = inr (inl (rose_since (faults b.first) (faults c.first) (faults d.first) first.at_first rose))
    by (inr (inr rose)) = inr (inr (rose_since (faults b.second) (faults c.second) (faults d.second) first.at_second rose))

-- one frame more is sent
pub carries_one : {B : Type 0} (tried given faults : B → ℕ) (s : ℕ) (b c d : Bearers B) → CarriesFrames tried given faults 0 s b c
    → CarriesFrames tried given faults 0 1 c d → CarriesFrames tried given faults 0 (s + 1) b d
carries_one tried given faults s b c d first second = carries_then tried given faults 0 s 0 1 b c d first second

-- where the bearers are as they were
pub carries_none : {B : Type 0} (tried given faults : B → ℕ) (b : Bearers B) → CarriesFrames tried given faults 0 0 b b
carries_none tried given faults b = record {
  gave = λ x y. omega arith;
  took = λ x y. omega arith;
  gave_first = λ x. x;
  gave_second = λ x. x;
  took_first = λ x. x;
  took_second = λ x. x;
  at_first = omega arith;
  at_second = omega arith;
  rose = λ was. inl was;
}

-- what a look at a bearer tells, by its answer
pub looks_frame : {B : Type 0} (tried given faults : B → ℕ) (b b' : B) (failed : Bool) (r : Result Heard BearerFault) → r ≡ Ok found.Frame → faults b ≤ faults b'
    → tried b' ≡ tried b → (r ≡ Ok found.Frame → given b' ≡ counted (given b)) → LooksAtBearer tried given faults b failed true b' failed
looks_frame tried given faults b b' failed r is later sent gave = record { sent = sent; heard = gave is; later = later; rose = λ was. inl was }

pub looks_nothing : {B : Type 0} (tried given faults : B → ℕ) (b b' : B) (failed : Bool) (r : Result Heard BearerFault) → r ≡ Ok found.Nothing → faults b ≤ faults b'
    → tried b' ≡ tried b → ((r ≡ Ok found.Frame → ⊥) → given b' ≡ given b) → LooksAtBearer tried given faults b failed false b' failed
looks_nothing tried given faults b b' failed r is later sent other = record { sent = sent; heard = other (λ e. absurd cc); later = later; rose = λ was. inl was }

pub looks_short : {B : Type 0} (tried given faults : B → ℕ) (b b' : B) (failed : Bool) (r : Result Heard BearerFault) → r ≡ Err bearer_fault.NoMemory → faults b ≤ faults b'
    → tried b' ≡ tried b → ((r ≡ Ok found.Frame → ⊥) → given b' ≡ given b) → LooksAtBearer tried given faults b failed false b' failed
looks_short tried given faults b b' failed r is later sent other = record { sent = sent; heard = other (λ e. absurd cc); later = later; rose = λ was. inl was }

pub looks_failed : {B : Type 0} (tried given faults : B → ℕ) (b b' : B) (failed : Bool) (r : Result Heard BearerFault) → r ≡ Err bearer_fault.Failed → faults b ≤ faults b'
    → (IsErrOf r bearer_fault.Failed → Rose (faults b) (faults b')) → tried b' ≡ tried b → ((r ≡ Ok found.Frame → ⊥) → given b' ≡ given b)
    → LooksAtBearer tried given faults b failed false b' true
looks_failed tried given faults b b' failed r is later cause sent other = record {
  sent = sent;
  heard = other (λ e. absurd cc);
  later = later;
  rose = λ was. inr (cause (subst (λ (q : Result Heard BearerFault). IsErrOf q bearer_fault.Failed) (sym is) refl));
}

-- what a bearer tells that was asked to send
pub asks_failed : {B : Type 0} (tried given faults : B → ℕ) (b b' : B) (failed : Bool) (r : Result (Unit {0}) BearerFault) → r ≡ Err bearer_fault.Failed → faults b ≤ faults b'
    → (IsErrOf r bearer_fault.Failed → Rose (faults b) (faults b')) → tried b' ≡ counted (tried b) → given b' ≡ given b → AsksBearer tried given faults b failed b' true
asks_failed tried given faults b b' failed r is later cause sent heard = record {
  sent = sent;
  heard = heard;
  later = later;
  rose = λ was. inr (cause (subst (λ (q : Result (Unit {0}) BearerFault). IsErrOf q bearer_fault.Failed) (sym is) refl));
}

pub asks_done : {B : Type 0} (tried given faults : B → ℕ) (b b' : B) (failed : Bool) → faults b ≤ faults b' → tried b' ≡ counted (tried b) → given b' ≡ given b
    → AsksBearer tried given faults b failed b' failed
asks_done tried given faults b b' failed later sent heard = record { sent = sent; heard = heard; later = later; rose = λ was. inl was }

-- a count after one more, below its last value
counted_below : (n n' : ℕ) → n' ≡ counted n → n' < last_count → n' ≡ n + 1
counted_below n n' is below = omega (arith, is, below)

-- a look at bearer 0
pub looks_first : {B : Type 0} (tried given faults : B → ℕ) (b b' : Bearers B) (gave : Bool)
    → LooksAtBearer tried given faults b.first b.failed gave b'.first b'.failed → b'.second ≡ b.second → CarriesFrames tried given faults (if gave then 1 else 0) 0 b b'
looks_first tried given faults b b' gave l second = record {
  gave = λ x y. gives gave l.heard x;
  took = λ x y. let same = l.sent in omega (arith, same, tried_second);
  gave_first = counts gave l.heard;
  gave_second = λ x. omega (arith, given_second, x);
  took_first = λ x. let same = l.sent in omega (arith, same, x);
  took_second = λ x. omega (arith, tried_second, x);
  at_first = l.later;
  at_second = omega (arith, faults_second);
  rose = λ failed. by (l.rose failed);
}
  where
    given_second : given b'.second ≡ given b.second
    given_second = ap given second

    tried_second : tried b'.second ≡ tried b.second
    tried_second = ap tried second

    faults_second : faults b'.second ≡ faults b.second
    faults_second = ap faults second

    gives : (g : Bool) → given b'.first ≡ (if g then counted (given b.first) else given b.first) → given b'.first < last_count
        → given b.first + given b.second + (if g then 1 else 0) ≡ given b'.first + given b'.second
    gives true is x = let one = counted_below (given b.first) (given b'.first) is x in let other = given_second in omega (arith, one, other)
    gives false is x = let other = given_second in omega (arith, is, other)

    counts : (g : Bool) → given b'.first ≡ (if g then counted (given b.first) else given b.first) → given b'.first < last_count → given b.first < last_count
    counts true is x = let one = counted_below (given b.first) (given b'.first) is x in omega (arith, one, x)
    counts false is x = omega (arith, is, x)

    by : (b.failed ≡ true) ⊎ Rose (faults b.first) (faults b'.first)
        → (b.failed ≡ true) ⊎ (Rose (faults b.first) (faults b'.first) ⊎ Rose (faults b.second) (faults b'.second))
    by (inl was) = inl was
    by (inr rose) = inr (inl rose)

-- a look at bearer 1
pub looks_second : {B : Type 0} (tried given faults : B → ℕ) (b b' : Bearers B) (gave : Bool)
    → LooksAtBearer tried given faults b.second b.failed gave b'.second b'.failed → b'.first ≡ b.first → CarriesFrames tried given faults (if gave then 1 else 0) 0 b b'
looks_second tried given faults b b' gave l first = record {
  gave = λ x y. gives gave l.heard y;
  took = λ x y. let same = l.sent in omega (arith, same, tried_first);
  gave_first = λ x. omega (arith, given_first, x);
  gave_second = counts gave l.heard;
  took_first = λ x. omega (arith, tried_first, x);
  took_second = λ x. let same = l.sent in omega (arith, same, x);
  at_first = omega (arith, faults_first);
  at_second = l.later;
  rose = λ failed. by (l.rose failed);
}
  where
    given_first : given b'.first ≡ given b.first
    given_first = ap given first

    tried_first : tried b'.first ≡ tried b.first
    tried_first = ap tried first

    faults_first : faults b'.first ≡ faults b.first
    faults_first = ap faults first

    gives : (g : Bool) → given b'.second ≡ (if g then counted (given b.second) else given b.second) → given b'.second < last_count
        → given b.first + given b.second + (if g then 1 else 0) ≡ given b'.first + given b'.second
    gives true is x = let one = counted_below (given b.second) (given b'.second) is x in let other = given_first in omega (arith, one, other)
    gives false is x = let other = given_first in omega (arith, is, other)

    counts : (g : Bool) → given b'.second ≡ (if g then counted (given b.second) else given b.second) → given b'.second < last_count → given b.second < last_count
    counts true is x = let one = counted_below (given b.second) (given b'.second) is x in omega (arith, one, x)
    counts false is x = omega (arith, is, x)

    by : (b.failed ≡ true) ⊎ Rose (faults b.second) (faults b'.second)
        → (b.failed ≡ true) ⊎ (Rose (faults b.first) (faults b'.first) ⊎ Rose (faults b.second) (faults b'.second))
    by (inl was) = inl was
    by (inr rose) = inr (inr rose)

-- a frame for bearer 0
pub asks_first : {B : Type 0} (tried given faults : B → ℕ) (b b' : Bearers B) → AsksBearer tried given faults b.first b.failed b'.first b'.failed
    → b'.second ≡ b.second → CarriesFrames tried given faults 0 1 b b'
asks_first tried given faults b b' l second = record {
  gave = λ x y. let same = l.heard in omega (arith, same, given_second);
  took = λ x y. let one = counted_below (tried b.first) (tried b'.first) l.sent x in omega (arith, one, tried_second);
  gave_first = λ x. let same = l.heard in omega (arith, same, x);
  gave_second = λ x. omega (arith, given_second, x);
  took_first = λ x. let one = counted_below (tried b.first) (tried b'.first) l.sent x in omega (arith, one, x);
  took_second = λ x. omega (arith, tried_second, x);
  at_first = l.later;
  at_second = omega (arith, faults_second);
  rose = λ failed. by (l.rose failed);
}
  where
    given_second : given b'.second ≡ given b.second
    given_second = ap given second

    tried_second : tried b'.second ≡ tried b.second
    tried_second = ap tried second

    faults_second : faults b'.second ≡ faults b.second
    faults_second = ap faults second

    by : (b.failed ≡ true) ⊎ Rose (faults b.first) (faults b'.first)
        → (b.failed ≡ true) ⊎ (Rose (faults b.first) (faults b'.first) ⊎ Rose (faults b.second) (faults b'.second))
    by (inl was) = inl was
    by (inr rose) = inr (inl rose)

-- a frame for bearer 1
pub asks_second : {B : Type 0} (tried given faults : B → ℕ) (b b' : Bearers B) → AsksBearer tried given faults b.second b.failed b'.second b'.failed
    → b'.first ≡ b.first → CarriesFrames tried given faults 0 1 b b'
asks_second tried given faults b b' l first = record {
  gave = λ x y. let same = l.heard in omega (arith, same, given_first);
  took = λ x y. let one = counted_below (tried b.second) (tried b'.second) l.sent y in omega (arith, one, tried_first);
  gave_first = λ x. omega (arith, given_first, x);
  gave_second = λ x. let same = l.heard in omega (arith, same, x);
  took_first = λ x. omega (arith, tried_first, x);
  took_second = λ x. let one = counted_below (tried b.second) (tried b'.second) l.sent x in omega (arith, one, x);
  at_first = omega (arith, faults_first);
  at_second = l.later;
  rose = λ failed. by (l.rose failed);
}
  where
    given_first : given b'.first ≡ given b.first
    given_first = ap given first

    tried_first : tried b'.first ≡ tried b.first
    tried_first = ap tried first

    faults_first : faults b'.first ≡ faults b.first
    faults_first = ap faults first

    by : (b.failed ≡ true) ⊎ Rose (faults b.second) (faults b'.second)
        → (b.failed ≡ true) ⊎ (Rose (faults b.first) (faults b'.first) ⊎ Rose (faults b.second) (faults b'.second))
    by (inl was) = inl was
    by (inr rose) = inr (inr rose)

-- ---- the whole mover

pub same_still : (p p' : PassState) → p' ≡ p → IsSameCaller p p'
same_still p p' is = record {
  of_table = ap (λ (q : PassState). q.seat.of_table) is;
  own = ap (λ (q : PassState). q.own) is;
  caller = ap (λ (q : PassState). q.caller) is;
  full = λ was. ap (λ (q : PassState). q.full) is ∙ was;
}

pub same_then : (p q r : PassState) → IsSameCaller p q → IsSameCaller q r → IsSameCaller p r
same_then p q r a b = record {
  of_table = b.of_table ∙ a.of_table;
  own = b.own ∙ a.own;
  caller = b.caller ∙ a.caller;
  full = λ was. b.full (a.full was);
}

-- a mark that isn't there at the end wasn't there before
not_full : (p q : PassState) → IsSameCaller p q → q.full ≡ false → p.full ≡ false
not_full p q same clear = by p.full refl
  where
    by : (b : Bool) → p.full ≡ b → p.full ≡ false
    by true is = let on = same.full is in absurd cc
    by false is = is

pub goes_then : {B C : Type 0} (tried given faults : B → ℕ) (m n k : Mover B C) → CarriesOn tried given faults m n → CarriesOn tried given faults n k
    → CarriesOn tried given faults m k
goes_then tried given faults m n k a b = record {
  heard = a.heard + b.heard;
  sent = a.sent + b.sent;
  carries = carries_then tried given faults a.heard a.sent b.heard b.sent m.bearers n.bearers k.bearers a.carries b.carries;
  same = same_then m.pass n.pass k.pass a.same b.same;
  more = a.more ++ b.more;
  made = b.made ∙ ap (λ xs. xs ++ b.more) a.made ∙ append_assoc m.pass.made a.more b.more;
  arrived = λ clear.
      let before = a.arrived (not_full n.pass k.pass b.same clear) in
      let behind = b.arrived clear in
      let both = arrivals_more a.more b.more in
      omega (arith, before, behind, both);
  handed = λ below.
      let behind = b.handed below in
      let before = a.handed (omega (arith, below, behind)) in
      omega (arith, before, behind);
}

pub goes_none : {B C : Type 0} (tried given faults : B → ℕ) (m : Mover B C) → CarriesOn tried given faults m m
goes_none tried given faults m = record {
  heard = 0;
  sent = 0;
  carries = carries_none tried given faults m.bearers;
  same = same_still m.pass m.pass refl;
  more = [];
  made = sym (append-nil m.pass.made);
  arrived = λ clear. refl;
  handed = λ below. omega arith;
}

pub goes_nothing : {B C : Type 0} (tried given faults : B → ℕ) (m m' : Mover B C) → CarriesNothing m m' → CarriesOn tried given faults m m'
goes_nothing tried given faults m m' n = record {
  heard = 0;
  sent = 0;
  carries = subst (λ (b : Bearers _). CarriesFrames tried given faults 0 0 m.bearers b) (sym n.bearers) (carries_none tried given faults m.bearers);
  same = n.calls.same;
  more = n.calls.more;
  made = n.calls.made;
  arrived = λ clear. n.calls.none;
  handed = λ below. let is = n.calls.handed in omega (arith, is);
}

-- ---- one step

-- a frame came from a bearer and arrived, or the journal had no room for it
goes_heard : {B C : Type 0} (tried given faults : B → ℕ) (m m' : Mover B C) (bearer : ℕ) (heard : Bool) → CarriesFrames tried given faults 1 0 m.bearers m'.bearers
    → ArrivesSo m.pass m'.pass bearer heard → IsSameCaller m.pass m'.pass → CarriesOn tried given faults m m'
goes_heard tried given faults m m' bearer true carries (number, answered, h) same = record {
  heard = 1;
  sent = 0;
  carries = carries;
  same = same;
  more = record { stamp = h.stamp; call = Arrive bearer number; answer = answered } ∷ [];
  made = h.made;
  arrived = λ clear. refl;
  handed = λ below. let now = h.handed in omega (arith, now);
}
goes_heard tried given faults m m' bearer false carries told same = record {
  heard = 1;
  sent = 0;
  carries = carries;
  same = same;
  more = [];
  made = told.made ∙ sym (append-nil m.pass.made);
  arrived = λ clear. let on = told.full in absurd cc;
  handed = λ below. let now = told.handed in omega (arith, now);
}

pub goes_hearing : {B C : Type 0} (tried given faults : B → ℕ) (m m' : Mover B C) (bearer : ℕ) (gave heard : Bool) → gave ≡ true
    → CarriesFrames tried given faults (if gave then 1 else 0) 0 m.bearers m'.bearers → ArrivesSo m.pass m'.pass bearer heard → IsSameCaller m.pass m'.pass
    → CarriesOn tried given faults m m'
goes_hearing tried given faults m m' bearer gave heard came carries =
    goes_heard tried given faults m m' bearer heard (subst (λ (g : Bool). CarriesFrames tried given faults (if g then 1 else 0) 0 m.bearers m'.bearers) came carries)

-- none came
pub goes_waiting : {B C : Type 0} (tried given faults : B → ℕ) (m m' : Mover B C) (gave : Bool) → gave ≡ false
    → CarriesFrames tried given faults (if gave then 1 else 0) 0 m.bearers m'.bearers → m'.pass ≡ m.pass → CarriesOn tried given faults m m'
goes_waiting tried given faults m m' gave none carries pass = record {
  heard = 0;
  sent = 0;
  carries = subst (λ (g : Bool). CarriesFrames tried given faults (if g then 1 else 0) 0 m.bearers m'.bearers) none carries;
  same = same_still m.pass m'.pass pass;
  more = [];
  made = ap (λ (q : PassState). q.made) pass ∙ sym (append-nil m.pass.made);
  arrived = λ clear. refl;
  handed = λ below. let is = ap (λ (q : PassState). q.handed) pass in omega (arith, is);
}

-- no tick passes meanwhile
pub no_tick_hearing : {B C : Type 0} (m m' : Mover B C) (bearer : ℕ) (heard : Bool) → ArrivesSo m.pass m'.pass bearer heard → m'.clock ≡ m.clock → m'.time ≡ m.time
    → TicksNot m m'
no_tick_hearing m m' bearer true (number, answered, h) clock time = record {
  clock = clock;
  time = time;
  ticks =
      let one : MadeCall = record { stamp = h.stamp; call = Arrive bearer number; answer = answered } in
      let more = ap ticks_made h.made in
      let both = ticks_more m.pass.made (one ∷ []) in
      let none : ticks_made (one ∷ []) ≡ 0 = refl in
      omega (arith, more, both, none);
}
no_tick_hearing m m' bearer false told clock time = record { clock = clock; time = time; ticks = ap ticks_made told.made }

pub no_tick_still : {B C : Type 0} (m m' : Mover B C) → m'.pass ≡ m.pass → m'.clock ≡ m.clock → m'.time ≡ m.time → TicksNot m m'
no_tick_still m m' pass clock time = record { clock = clock; time = time; ticks = ap (λ (q : PassState). ticks_made q.made) pass }

-- the frames that the mover was handed are sent
pub goes_sending : {B C X : Type 0} (tried given faults : B → ℕ) (m m' : Mover B C) (frames leaving : List X) → frames ≡ leaving
    → m'.pass ≡ with_handed m.pass (length leaving) → CarriesFrames tried given faults 0 (length frames) m.bearers m'.bearers → CarriesOn tried given faults m m'
goes_sending tried given faults m m' frames leaving are pass carries = record {
  heard = 0;
  sent = length frames;
  carries = carries;
  same = record {
    of_table = ap (λ (q : PassState). q.seat.of_table) pass;
    own = ap (λ (q : PassState). q.own) pass;
    caller = ap (λ (q : PassState). q.caller) pass;
    full = λ was. ap (λ (q : PassState). q.full) pass ∙ was;
  };
  more = [];
  made = ap (λ (q : PassState). q.made) pass ∙ sym (append-nil m.pass.made);
  arrived = λ clear. refl;
  handed = λ below. let now = ap (λ (q : PassState). q.handed) pass in let many = ap length are in omega (arith, now, many, below);
}

pub no_tick_sending : {B C : Type 0} (m m' : Mover B C) (frames : ℕ) → m'.pass ≡ with_handed m.pass frames → m'.clock ≡ m.clock → m'.time ≡ m.time → TicksNot m m'
no_tick_sending m m' frames pass clock time = record { clock = clock; time = time; ticks = ap (λ (q : PassState). ticks_made q.made) pass }

-- ---- mending

abbrev one_if : Bool → ℕ
one_if b = if b then 1 else 0

-- no arrival among what was called
nothing_called : (p p' : PassState) (call : EventNote) (r : Option Answer) → IsAnsweredSo p p' call r → is_arrival call ≡ false → IsSameCaller p p' → CallsOn p p'
nothing_called p p' call (Some answered) h none same = record {
  same = same;
  more = record { stamp = h.stamp; call = call; answer = kept_answer answered } ∷ [];
  made = h.made;
  none = let count : one_if (is_arrival call) ≡ 0 = ap one_if none in omega (arith, count);
  handed = h.handed;
}
nothing_called p p' call None told none same = record {
  same = same;
  more = [];
  made = told.made ∙ sym (append-nil p.made);
  none = refl;
  handed = told.handed;
}

calls_then : (p q r : PassState) → CallsOn p q → CallsOn q r → CallsOn p r
calls_then p q r a b = record {
  same = same_then p q r a.same b.same;
  more = a.more ++ b.more;
  made = b.made ∙ ap (λ xs. xs ++ b.more) a.made ∙ append_assoc p.made a.more b.more;
  none = let before = a.none in let behind = b.none in let both = arrivals_more a.more b.more in omega (arith, before, behind, both);
  handed = b.handed ∙ a.handed;
}

-- the two calls of an unused pass, where the journal had room for them
mends_shown : (p q p' : PassState) (first second : Option Answer) → p.made ≡ [] → IsAnsweredSo p q (Mend 0) first → IsAnsweredSo q p' (Mend 1) second → IsSameCaller q p'
    → (p'.full ≡ true) ⊎ ShowsMover (calls_made p'.made)
mends_shown p q p' None second none a b same = inl (same.full a.full)
mends_shown p q p' (Some x) None none a b same = inl b.full
mends_shown p q p' (Some x) (Some y) none a b same = inr (record {
  first = kept_answer x;
  second = kept_answer y;
  behind = [];
  is = ap calls_made (b.made ∙ ap (λ ms. ms ++ second ∷ []) (a.made ∙ ap (λ ms. ms ++ first ∷ []) none));
})
  where
    first : MadeCall
    first = record { stamp = a.stamp; call = Mend 0; answer = kept_answer x }

    second : MadeCall
    second = record { stamp = b.stamp; call = Mend 1; answer = kept_answer y }

-- both bearers were mended, by what each call made of the pass
pub has_mended : {B C : Type 0} (m m' : Mover B C) (q : PassState) (first second : Option Answer) → m.pass.made ≡ [] → IsAnsweredSo m.pass q (Mend 0) first
    → IsAnsweredSo q m'.pass (Mend 1) second → IsSameCaller m.pass q → IsSameCaller q m'.pass → m'.bearers ≡ m.bearers → m'.clock ≡ m.clock → m'.time ≡ m.time
    → HasMended m m'
has_mended m m' q first second none a b same_a same_b bearers clock time = record {
  carries = record {
    bearers = bearers;
    calls = calls_then m.pass q m'.pass (nothing_called m.pass q (Mend 0) first a refl same_a) (nothing_called q m'.pass (Mend 1) second b refl same_b);
  };
  clock = (clock, time);
  shows = mends_shown m.pass q m'.pass first second none a b same_b;
}

-- ---- time

-- the clock stood still
pub ticks_still : {B C : Type 0} (last : C → ℕ) (m m' : Mover B C) (now : ℕ) → last m'.clock ≡ now → last m.clock ≤ now → last m.clock ≡ m.time → now ≤ m.time
    → m'.time ≡ m.time → m'.pass ≡ m.pass → TicksOnce last m m'
ticks_still last m m' now reads later told most time pass = record {
  told = omega (arith, reads, later, told, most, time);
  later = omega (arith, time);
  still = λ same. ap (λ (q : PassState). ticks_made q.made) pass;
  onward = λ more. absurd (omega (arith, more, time));
}

-- the clock went on
pub ticks_onward : {B C : Type 0} (last : C → ℕ) (m m' : Mover B C) (now : ℕ) (r : Option Answer) → last m'.clock ≡ now → m.time < now → m'.time ≡ now
    → IsAnsweredSo m.pass m'.pass Tick r → TicksOnce last m m'
ticks_onward last m m' now (Some answered) reads more time h = record {
  told = reads ∙ sym time;
  later = omega (arith, more, time);
  still = λ same. absurd (omega (arith, same, more, time));
  onward = λ on. inr (ap ticks_made h.made ∙ ticks_more m.pass.made (record { stamp = h.stamp; call = Tick; answer = kept_answer answered } ∷ []));
}
ticks_onward last m m' now None reads more time told = record {
  told = reads ∙ sym time;
  later = omega (arith, more, time);
  still = λ same. absurd (omega (arith, same, more, time));
  onward = λ on. inl told.full;
}

-- a tick carries nothing
pub nothing_ticked : {B C : Type 0} (m m' : Mover B C) (r : Option Answer) → IsAnsweredSo m.pass m'.pass Tick r → IsSameCaller m.pass m'.pass → m'.bearers ≡ m.bearers
    → CarriesNothing m m'
nothing_ticked m m' r h same bearers = record { bearers = bearers; calls = nothing_called m.pass m'.pass Tick r h refl same }

-- nor does a look at a clock
pub nothing_still : {B C : Type 0} (m m' : Mover B C) → m'.pass ≡ m.pass → m'.bearers ≡ m.bearers → CarriesNothing m m'
nothing_still m m' pass bearers = record {
  bearers = bearers;
  calls = record {
    same = same_still m.pass m'.pass pass;
    more = [];
    made = ap (λ (q : PassState). q.made) pass ∙ sym (append-nil m.pass.made);
    none = refl;
    handed = ap (λ (q : PassState). q.handed) pass;
  };
}

-- a whole turn
pub turn_goes : {B C : Type 0} (tried given faults : B → ℕ) (m a b c m' : Mover B C) → CarriesOn tried given faults m a → CarriesOn tried given faults a b → CarriesNothing b c
    → CarriesOn tried given faults c m' → CarriesOn tried given faults m m'
turn_goes tried given faults m a b c m' first second tick sent =
    goes_then tried given faults m a m' first
    (goes_then tried given faults a b m' second (goes_then tried given faults b c m' (goes_nothing tried given faults b c tick) sent))

-- time in a turn: nothing but its tick
pub turn_ticks : {B C : Type 0} (tried given faults : B → ℕ) (last : C → ℕ) (m a b c m' : Mover B C) → TicksNot m a → TicksNot a b → TicksOnce last b c → TicksNot c m'
    → CarriesOn tried given faults c m' → TicksOnce last m m'
turn_ticks tried given faults last m a b c m' first second tick sent goes = record {
  told = ap last sent.clock ∙ tick.told ∙ sym sent.time;
  later = let before = tick.later in omega (arith, before, first_time, second_time, sent_time);
  still = λ e.
      let here = tick.still (omega (arith, e, first_time, second_time, sent_time)) in
      omega (arith, here, first_ticks, second_ticks, sent_ticks);
  onward = λ more. by (tick.onward (omega (arith, more, first_time, second_time, sent_time)));
}
  where
    first_time : a.time ≡ m.time
    first_time = first.time

    second_time : b.time ≡ a.time
    second_time = second.time

    sent_time : m'.time ≡ c.time
    sent_time = sent.time

    first_ticks : ticks_made a.pass.made ≡ ticks_made m.pass.made
    first_ticks = first.ticks

    second_ticks : ticks_made b.pass.made ≡ ticks_made a.pass.made
    second_ticks = second.ticks

    sent_ticks : ticks_made m'.pass.made ≡ ticks_made c.pass.made
    sent_ticks = sent.ticks

    by : (c.pass.full ≡ true) ⊎ (ticks_made c.pass.made ≡ ticks_made b.pass.made + 1) → (m'.pass.full ≡ true) ⊎ (ticks_made m'.pass.made ≡ ticks_made m.pass.made + 1)
    by (inl full) = inl (goes.same.full full)
    by (inr one) = inr (omega (arith, one, first_ticks, second_ticks, sent_ticks))

-- ---- behind a run

-- what a mover shows at the end
has_moved : {B C : Type 0} (tried given faults : B → ℕ) (l : LockState) (m n m' : Mover B C) → IsUnusedPass l m.pass.caller m.pass → m.bearers.failed ≡ false
    → HasMended m n → CarriesOn tried given faults n m' → m'.pass.short ≡ false
    → HasMoved tried given faults l m.pass.caller m.bearers.first m.bearers.second m'.pass m'.bearers.failed m'.bearers.first m'.bearers.second
has_moved tried given faults l m n m' unused clear mended goes memory = record {
  used = record {
    pass = (all.same.of_table ∙ unused.pass.0, all.same.own ∙ unused.pass.1);
    caller = all.same.caller;
    memory = memory;
  };
  shows = shown mended.shows;
  heard = λ room x y.
      let counts = all.carries.gave x y in
      let came = all.arrived room in
      let is = ap arrivals_made made in
      omega (arith, counts, came, is);
  sent = λ below x y.
      let counts = all.carries.took x y in
      let handed = all.handed below in
      let none = unused.handed in
      omega (arith, counts, handed, none);
  told = record { at_first = all.carries.at_first; at_second = all.carries.at_second; rose = λ failed. rises (all.carries.rose failed) };
}
  where
    all : CarriesOn tried given faults m m'
    all = goes_then tried given faults m n m' (goes_nothing tried given faults m n mended.carries) goes

    made : m'.pass.made ≡ all.more
    made = all.made ∙ ap (λ ms. ms ++ all.more) unused.made

    shown : (n.pass.full ≡ true) ⊎ ShowsMover (calls_made n.pass.made) → (m'.pass.full ≡ true) ⊎ ShowsMover (calls_made m'.pass.made)
    shown (inl full) = inl (goes.same.full full)
    shown (inr s) = inr (record {
      first = s.first;
      second = s.second;
      behind = s.behind ++ calls_made goes.more;
      is =
          ap calls_made goes.made ∙ map-append (λ (c : MadeCall). (c.call, c.answer)) n.pass.made goes.more ∙ ap (λ cs. cs ++ calls_made goes.more) s.is;
    })

    rises : (m.bearers.failed ≡ true) ⊎ (Rose (faults m.bearers.first) (faults m'.bearers.first) ⊎ Rose (faults m.bearers.second) (faults m'.bearers.second))
        → Rose (faults m.bearers.first) (faults m'.bearers.first) ⊎ Rose (faults m.bearers.second) (faults m'.bearers.second)
    rises (inl was) = absurd cc
    rises (inr rose) = rose

-- the mover's pass is still unused where it starts
pub unused_at : (l : LockState) (p q : PassState) → IsUnusedPass l p.caller p → q ≡ p → IsUnusedPass l q.caller q
unused_at l p q unused is = subst (λ (x : PassState). IsUnusedPass l x.caller x) (sym is) unused

-- what is given back shows that
pub move_done : {B C : Type 0} (tried given faults : B → ℕ) (l : LockState) (m n k : Mover B C) (pass p' : PassState) (first second first' second' : B) (failed' : Bool)
    → IsUnusedPass l pass.caller pass → m.pass ≡ pass → (m.bearers.first ≡ first) × (m.bearers.second ≡ second) × (m.bearers.failed ≡ false) → HasMended m n
    → CarriesOn tried given faults n k → (p' ≡ k.pass) × (k.pass.short ≡ false)
    → (first' ≡ k.bearers.first) × (second' ≡ k.bearers.second) × (failed' ≡ k.bearers.failed)
    → HasMoved tried given faults l pass.caller first second p' failed' first' second'
move_done {B} tried given faults l m n k pass p' first second first' second' failed' unused is bearers mended goes back given_back =
    subst (λ (t : ℕ × B × B × PassState × Bool × B × B). HasMoved tried given faults l t.0 t.1 t.2 t.3 t.4 t.5 t.6)
    (λ j. (
      ap (λ (q : PassState). q.caller) is j,
      bearers.0 j,
      bearers.1 j,
      sym back.0 j,
      sym given_back.2 j,
      sym given_back.0 j,
      sym given_back.1 j,
    ))
    (has_moved tried given faults l m n k (unused_at l pass m.pass unused is) bearers.2 mended goes back.1)
