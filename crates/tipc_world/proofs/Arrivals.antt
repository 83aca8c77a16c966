-- Frames that arrive, by the numbers of their places.
use Rattle.std.proofs.Common.{◌≡◌, ◌≢◌, ◌≤◌, ◌<◌, ◌+◌, ◌*◌, ◌/◌, ◌%◌, ◌-◌, ℕ, Bool, true, false, Option, Some, None, Result, Ok, Err, refl, sym, ap, subst, ◌∙◌, arith, if◌then◌else◌, is_some, slice_index_or}
use Rattle.std.specs.Prelude.{◌&&◌, ◌==◌}
use Rattle.std.proofs.lemmas.Bool.Decides.{nat_tests}
use Rattle.tipc_types.specs.Address.{node_word}
use Rattle.tipc_replay.specs.Due.{frame_for, is_for, kept_for}
use Rattle.tipc_replay.specs.Replayed.{IsReplayed}
use Rattle.tipc_replay.specs.Skies.{AirState, air_on}
use Rattle.tipc_replay.specs.States.{MemberState}
use Rattle.tipc_replay.proofs.journals.Stepping.{get_prefix}
use Rattle.tipc_world.specs.declared.faults.WorldFault.{WorldFault}
use Rattle.tipc_world.specs.declared.settling.Receivers.{Receivers}
use Rattle.tipc_world.specs.Courses.{Goes, Maybe, Takes, TakesCounted, go_on, numbers}
use Rattle.tipc_world.specs.Growth.{Grows}
use Rattle.tipc_world.specs.Settling.{IsForOne, arrival_asked, arrival_at, is_among}
use Rattle.tipc_world.specs.States.{WorldState, is_there}
use Rattle.tipc_world.proofs.CourseLaws.{goes_joined, goes_rest}

-- ---- the number of a node at a place

place_of : (place node : ℕ) → node < numbers → (numbers * place + node) / numbers ≡ place
place_of place node below = omega arith

node_of : (place node : ℕ) → node < numbers → (numbers * place + node) % numbers ≡ node
node_of place node below = omega arith

-- what it asks for
pub asked_at : (among : Receivers) (bearer place node : ℕ) (w : WorldState) → node < numbers → arrival_asked among bearer w (numbers * place + node) ≡ arrival_at among bearer w place node
asked_at among bearer place node w below =
    ap (λ k. arrival_at among bearer w k ((numbers * place + node) % numbers)) (place_of place node below) ∙ ap (λ k. arrival_at among bearer w place k) (node_of place node below)

-- the frame at the place arrived at the node, or it didn't, or a limit stopped it
pub reaches : (among : Receivers) (bearer place node : ℕ) (start : WorldState) (came : Result Bool WorldFault) (now : WorldState) → node < numbers → Maybe (arrival_at among bearer start place node) start came now
    → Takes (arrival_asked among bearer) (numbers * place + node) start came now
reaches among bearer place node start came now below h = subst (λ o. Maybe o start came now) (sym (asked_at among bearer place node start below)) h

-- ---- a frame for one node alone

other_word : (n m : ℕ) → m ≢ n → (node_word n == node_word m) ≡ false
other_word n m other = let apart : node_word n ≢ node_word m = λ same. other (omega arith) in grind (arith, nat_tests, apart)

same_word : (n : ℕ) → (node_word n == node_word n) ≡ true
same_word n = grind (arith, nat_tests)

-- it is for it
pub for_it : (air : AirState) (bearer place n : ℕ) → IsForOne air bearer place n → is_some (frame_for air n bearer place) ≡ true
unfolding frame_for
for_it air bearer place n one =
    let f = one.frame in
    ap (λ o. is_some (kept_for o n)) one.stands ∙ (ap (λ t. is_some (if is_for f.from t n then Some f else None)) one.to_is ∙ ap (λ b. is_some (if b then Some f else None)) (same_word n))

-- it is for no other
for_no_other : (air : AirState) (bearer place n m : ℕ) → IsForOne air bearer place n → m ≢ n → is_some (frame_for air m bearer place) ≡ false
unfolding frame_for
for_no_other air bearer place n m one other =
    let f = one.frame in
    ap (λ o. is_some (kept_for o m)) one.stands ∙ (ap (λ t. is_some (if is_for f.from t m then Some f else None)) one.to_is ∙ ap (λ b. is_some (if b then Some f else None)) (other_word n m other))

none_of : {A : Type 0} (a b c : Bool) (x : A) → c ≡ false → (if a && b && c then Some x else None) ≡ None
none_of true true c x is = ap (λ d. if d then Some x else None) is
none_of true false c x is = refl
none_of false b c x is = refl

-- so the number of another asks for nothing
asks_nothing : (among : Receivers) (bearer place n m : ℕ) (w : WorldState) → IsForOne w.air bearer place n → m < numbers → m ≢ n → arrival_asked among bearer w (numbers * place + m) ≡ None
asks_nothing among bearer place n m w one below other =
    asked_at among bearer place m w below ∙ none_of (is_among among m) (is_there w m) (is_some (frame_for w.air m bearer place)) _ (for_no_other w.air bearer place n m one other)

-- it stays for it alone
one_later : (a b : WorldState) (bearer place n : ℕ) → Grows a b → IsForOne a.air bearer place n → IsForOne b.air bearer place n
one_later a b bearer place n grown one =
    record { frame = one.frame; stands = get_prefix (air_on bearer a.air) (air_on bearer b.air) place one.frame (grown.air bearer) one.stands; to_is = one.to_is }

-- the numbers of the nodes before it
before_one : (among : Receivers) (bearer place n : ℕ) (start : WorldState) → n < numbers → IsForOne start.air bearer place n → Goes (arrival_asked among bearer) (numbers * place) start (numbers * place + n) 0 start
before_one among bearer place n start below one =
    goes_rest (arrival_asked among bearer) (numbers * place) start n (λ m less. asks_nothing among bearer place n m start one (omega (arith, less, below)) (λ same. let wrong : ⊥ = omega (arith, same, less) in wrong))

-- it arrived at that node, or that node isn't there or isn't a receiver
pub one_reached : (among : Receivers) (bearer place n : ℕ) (start : WorldState) (made : Bool) (now : WorldState) → n < numbers → IsForOne start.air bearer place n → Grows start now
    → Maybe (arrival_at among bearer start place n) start (Ok made) now → TakesCounted (arrival_asked among bearer) (numbers * place) (numbers * (place + 1)) start (Ok (if made then 1 else 0)) now
one_reached among bearer place n start made now below one grown h =
    let asks = arrival_asked among bearer in
    let first = numbers * place in
    let count : ℕ = if made then 1 else 0 in
    let upto : Goes asks first start (first + n + 1) count now =
    go_on (first + n) 0 start made now (before_one among bearer place n start below one) (reaches among bearer place n start (Ok made) now below h)
    in
    let later = one_later start now bearer place n grown one in
    let behind : Goes asks (first + n + 1) now (first + n + 1 + (32 - n)) 0 now =
    goes_rest asks (first + n + 1) now (32 - n) (λ i less. subst (λ k. asks now k ≡ None) (omega arith) (asks_nothing among bearer place n (n + 1 + i) now later (omega (arith, less, below)) (λ same. let wrong : ⊥ = omega (arith, same) in wrong)))
    in
    let end : first + n + 1 + (32 - n) ≡ numbers * (place + 1) = omega (arith, below) in
    subst (λ k. Goes asks first start k count now) end
    (subst (λ k. Goes asks first start (first + n + 1 + (32 - n)) k now) (omega arith) (goes_joined asks first (first + n + 1) start now (first + n + 1 + (32 - n)) count 0 now upto behind))

-- its arrival there was stopped
pub one_stopped : (among : Receivers) (bearer place n : ℕ) (start : WorldState) (stop : WorldFault) (now : WorldState) → n < numbers → IsForOne start.air bearer place n
    → Maybe (arrival_at among bearer start place n) start (Err stop) now → TakesCounted (arrival_asked among bearer) (numbers * place) (numbers * (place + 1)) start (Err stop) now
one_stopped among bearer place n start stop now below one h = (
  record { next = numbers * place + n; count = 0; before = start; goes = before_one among bearer place n start below one; stopped = reaches among bearer place n start (Err stop) now below h },
  omega (arith, below),
)

-- ---- what is told of nodes and frames

-- a node that is there has a number
pub number_there : (w : WorldState) (n : ℕ) → IsReplayed w.members w.air → is_there w n ≡ true → (1 ≤ n) × (n ≤ 32)
number_there w n kept there = at (slice_index_or w.members n None) refl there
  where
    at : (o : Option MemberState) → slice_index_or w.members n None ≡ o → is_some o ≡ true → (1 ≤ n) × (n ≤ 32)
    at None is there = absurd (let wrong : ⊥ = cc in wrong)
    at (Some m) is there = (kept.numbered n m is).0
