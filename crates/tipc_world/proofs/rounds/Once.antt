-- Each node ticks once a round, and each frame that is in the air then arrives once where it is for.
use Rattle.std.proofs.Common.{◌≡◌, ◌≢◌, ◌≤◌, ◌<◌, ◌+◌, ◌*◌, ℕ, Bool, true, false, [], Option, Some, None, Ok, if◌then◌else◌, length, is_some, slice_get, slice_index_or, refl, sym, ap, subst, ◌∙◌, arith}
use Rattle.std.specs.Prelude.{◌&&◌, ◌/◌, ◌%◌}
use Rattle.std.proofs.lemmas.Bool.{le-ltb}
use Rattle.tipc_types.specs.Limits.{most_age}
use Rattle.tipc_types.specs.declared.node_calls.Answer.{Answer}
use Rattle.tipc_types.specs.declared.node_calls.EventNote.TheVariants as call
use Rattle.tipc_replay.specs.declared.air.Sent.{Sent}
use Rattle.tipc_replay.specs.declared.events.WorldEvent.TheVariants.{Arrive, Call}
use Rattle.tipc_replay.specs.Due.{age_of, frame_for, kept_for}
use Rattle.tipc_replay.specs.Skies.{air_on}
use Rattle.tipc_replay.proofs.journals.Stepping.{get_prefix}
use Rattle.tipc_world.specs.declared.settling.Receivers.TheVariants.{Any}
use Rattle.tipc_world.specs.Courses.{Goes, Maybe, Takes, numbers}
use Rattle.tipc_world.specs.Growth.{Grows}
use Rattle.tipc_world.specs.RoundParts.{HappensWhole, HasArrivedOnce, HasTickedOnce}
use Rattle.tipc_world.specs.Settling.{arrival_asked, tick_asked}
use Rattle.tipc_world.specs.States.{WorldState, is_there}
use Rattle.tipc_world.proofs.Arrivals.{asked_at}
use Rattle.tipc_world.proofs.Continuing.{longer}
use Rattle.tipc_world.proofs.rounds.Events.{arrival_whole, tick_whole}
use Rattle.tipc_world.proofs.rounds.Flying.{flown}
use Rattle.tipc_world.proofs.rounds.Keeping.{here_is, other_stays}
use Rattle.tipc_world.proofs.rounds.Parts.{goes_keep, goes_part, goes_whole, takes_whole}
use Rattle.tipc_world.proofs.rounds.Walking.{arrivals_go_on, ticks_go_on}

-- ---- the ticks of other nodes

-- a number of the ticks leaves every other node as it is
tick_other : (number n : ℕ) (before : WorldState) (made : Bool) (after : WorldState) → Takes tick_asked number before (Ok made) after → after.lost ≡ false → n ≢ number
    → slice_index_or after.members n None ≡ slice_index_or before.members n None
tick_other number n before made after h whole other = by (is_there before number) h
  where
    by : (t : Bool) → Maybe (if t then Some (Call number call.Tick) else None) before (Ok made) after → slice_index_or after.members n None ≡ slice_index_or before.members n None
    by true h = other_stays before after (Call number call.Tick) [] h.1.0 (tick_whole before after number h.1.0 h.1.1.answered whole) n other
    by false h = ap (λ (w : WorldState). slice_index_or w.members n None) h.1

-- numbers before or behind it leave node n as it is
ticks_others : (n first : ℕ) (start : WorldState) (end count : ℕ) (now : WorldState) → Goes tick_asked first start end count now → now.lost ≡ false → ((number : ℕ) → first ≤ number → number < end → n ≢ number)
    → slice_index_or now.members n None ≡ slice_index_or start.members n None
ticks_others n first start end count now goes whole apart =
    goes_keep tick_asked (λ number w. slice_index_or w.members n None ≡ slice_index_or start.members n None) first start end count now
    (λ number before made after above below taken clear same. tick_other number n before made after taken clear (apart number above below) ∙ same) goes whole refl

-- ---- each node ticks once

-- what the number of a node that is there comes to
ticked_at : (n : ℕ) (before : WorldState) (made : Bool) (after : WorldState) → is_there before n ≡ true → Takes tick_asked n before (Ok made) after → after.lost ≡ false
    → (answered : Answer) × HappensWhole before after (Call n call.Tick) [] answered
ticked_at n before made after there h whole =
    let asked : tick_asked before n ≡ Some (Call n call.Tick) = ap (λ t. if t then Some (Call n call.Tick) else None) there in
    let came = subst (λ o. Maybe o before (Ok made) after) asked h in
    (came.1.0, tick_whole before after n came.1.0 came.1.1.answered whole)

pub ticks_once : (n : ℕ) (start : WorldState) (count : ℕ) (now : WorldState) → 1 ≤ n → n < numbers → is_there start n ≡ true → Goes tick_asked 1 start numbers count now → now.lost ≡ false → HasTickedOnce start now n
ticks_once n start count now from_one below there goes whole =
    let p = goes_part tick_asked 1 n start numbers count now from_one below goes in
    let clear_after = goes_whole tick_asked (n + 1) p.after numbers p.later now p.rest whole in
    let clear_before = takes_whole tick_asked n p.before p.made p.after p.taken clear_after in
    let earlier = ticks_go_on 1 start n p.earlier p.before p.front clear_before in
    let later = ticks_go_on (n + 1) p.after numbers p.later now p.rest whole in
    let came = ticked_at n p.before p.made p.after (earlier.nodes n ∙ there) p.taken clear_after in
    let before_same = ticks_others n 1 start n p.earlier p.before p.front clear_before (λ number above less same. omega (arith, less, same)) in
    let after_same = ticks_others n (n + 1) p.after numbers p.later now p.rest whole (λ number above less same. omega (arith, above, same)) in
    record {
      earlier = p.earlier;
      before = p.before;
      front = p.front;
      after = p.after;
      later = p.later;
      rest = p.rest;
      answered = came.0;
      ticks = came.1;
      was = sym before_same ∙ came.1.was;
      is = after_same ∙ here_is p.before p.after (Call n call.Tick) [] came.0 came.1;
      behind = λ bearer. longer start p.before earlier.grown bearer;
      flies = λ bearer k f on_one leaves. get_prefix (air_on bearer p.after.air) (air_on bearer now.air) (length (air_on bearer p.before.air) + k) f (later.grown.air bearer)
          (flown p.before p.after (Call n call.Tick) [] came.0 came.1 bearer k f on_one leaves);
    }

-- ---- each frame arrives once

-- a frame stays where it is
pub frame_stays : (a b : WorldState) (n bearer place : ℕ) (f : Sent) → Grows a b → frame_for a.air n bearer place ≡ Some f → frame_for b.air n bearer place ≡ Some f
unfolding frame_for
frame_stays a b n bearer place f grown here = by (slice_get (air_on bearer a.air) place) refl here
  where
    by : (o : Option Sent) → slice_get (air_on bearer a.air) place ≡ o → kept_for o n ≡ Some f → kept_for (slice_get (air_on bearer b.air) place) n ≡ Some f
    by None is kept = absurd cc
    by (Some g) is kept = ap (λ o. kept_for o n) (get_prefix (air_on bearer a.air) (air_on bearer b.air) place g (grown.air bearer) is) ∙ kept

all_hold : {A : Type 0} (a b : Bool) (x : A) → a ≡ true → b ≡ true → (if a && b then Some x else None) ≡ Some x
all_hold a b x first second = λ i. if first i && second i then Some x else None

-- what the number of a place and a node asks for, where the node is there and the frame is for it
asks_arrival : (bearer place n : ℕ) (w : WorldState) (f : Sent) → n < numbers → is_there w n ≡ true → frame_for w.air n bearer place ≡ Some f → arrival_asked Any bearer w (numbers * place + n) ≡ Some (Arrive n bearer place)
asks_arrival bearer place n w f below there here =
    asked_at Any bearer place n w below ∙ all_hold (is_there w n) (is_some (frame_for w.air n bearer place)) (Arrive n bearer place) there (ap is_some here)

pub arrives_once : (bearer first end : ℕ) (start : WorldState) (count : ℕ) (now : WorldState) (place n : ℕ) (f : Sent) → bearer ≤ 1 → n < numbers → first ≤ place → place < end → is_there start n ≡ true
    → frame_for start.air n bearer place ≡ Some f → Goes (arrival_asked Any bearer) (numbers * first) start (numbers * end) count now → now.lost ≡ false → HasArrivedOnce bearer first end start now place n f
arrives_once bearer first end start count now place n f on_one below from until there here goes whole =
    let asks = arrival_asked Any bearer in
    let number = numbers * place + n in
    let p = goes_part asks (numbers * first) number start (numbers * end) count now (omega (arith, from)) (omega (arith, until, below)) goes in
    let clear_after = goes_whole asks (number + 1) p.after (numbers * end) p.later now p.rest whole in
    let clear_before = takes_whole asks number p.before p.made p.after p.taken clear_after in
    let earlier = arrivals_go_on bearer first start number p.earlier p.before on_one p.front clear_before in
    let stays = frame_stays start p.before n bearer place f earlier.grown here in
    let asked = asks_arrival bearer place n p.before f below (earlier.nodes n ∙ there) stays in
    let came = subst (λ o. Maybe o p.before (Ok p.made) p.after) asked p.taken in
    record {
      earlier = p.earlier;
      before = p.before;
      front = p.front;
      after = p.after;
      later = p.later;
      rest = p.rest;
      clear = clear_before;
      here = stays;
      answered = came.1.0;
      arrives = λ fresh. arrival_whole p.before p.after n bearer place f came.1.0 stays came.1.1.answered clear_after (le-ltb most_age (age_of p.before.members f n bearer) fresh);
    }

-- no other number asks for it
pub asked_once : (bearer place n number : ℕ) (w : WorldState) → arrival_asked Any bearer w number ≡ Some (Arrive n bearer place) → number ≡ numbers * place + n
asked_once bearer place n number w asked = by (is_there w (number % numbers) && is_some (frame_for w.air (number % numbers) bearer (number / numbers))) asked
  where
    by : (t : Bool) → (if t then Some (Arrive (number % numbers) bearer (number / numbers)) else None) ≡ Some (Arrive n bearer place) → number ≡ numbers * place + n
    by false is = absurd cc
    by true is =
        let node : number % numbers ≡ n = cc in
        let at : number / numbers ≡ place = cc in
        omega (arith, node, at)
