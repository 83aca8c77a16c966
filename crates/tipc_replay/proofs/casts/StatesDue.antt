-- A STATE that is taken, as the caster has it of a member, and as a member has it of the caster.
use Rattle.std.specs.Prelude.{option_map}
use Rattle.std.specs.List.{Contains}
use Rattle.std.proofs.Common.{◌≡◌, ◌≤◌, ◌+◌, ◌==◌, ◌&&◌, ◌∙◌, ℕ, Bool, true, if◌then◌else◌, Option, Some, None, ap, subst, arith}
use Rattle.std.proofs.lemmas.Bool.Decides.{nat_tests}
use Rattle.tipc_types.specs.Address.{node_word}
use Rattle.tipc_types.specs.declared.link_words.BroadcastState.{BroadcastState}
use Rattle.tipc_contact.specs.Sides.{boot_of}
use Rattle.tipc_casters.specs.Sights.{contact_of, Told}
use Rattle.tipc_pair.specs.Facing.{PairEnds}
use Rattle.tipc_node.specs.Turns.{is_to}
use Rattle.tipc_replay.specs.Aged.{AreAged}
use Rattle.tipc_replay.specs.Casters.{cast_contact, casting_at, heard_contact, heard_of_caster, state_heard, state_told, told_to_caster}
use Rattle.tipc_replay.specs.Heard.{state_in}
use Rattle.tipc_replay.specs.Sound.{IsNumber}
use Rattle.tipc_replay.specs.States.{boot_at, cast_count_at}
use Rattle.tipc_replay.specs.Steps.{Stage}
use Rattle.tipc_replay.proofs.casts.CastsArrive.{listed_there}
use Rattle.tipc_replay.proofs.states.StatesArrive.{StateCame}

both_tests : (word from : ℕ) (to_is : Bool) (o : Option Told) (t : Told) → word ≡ from → to_is ≡ true → o ≡ Some t → (if (word == from) && to_is then o else None) ≡ Some t
both_tests word from to_is o t one two three =
    let first : (word == from) ≡ true = grind (arith, nat_tests, one) in
    ap (λ b. if b && to_is then o else None) first ∙ ap (λ b. if b then o else None) two ∙ three

-- ---- at node n, the caster, from its member b

abbrev pub told_there : (s : Stage) (n b : ℕ) (y : PairEnds) (seen : BroadcastState) → StateCame s n b y seen → Told
told_there s n b y seen c = record { contact = heard_contact c.frame.contact; stamp = c.frame.peer_casts; seen = seen }

pub record IsDue (s : Stage) (n b : ℕ) (y : PairEnds) (seen : BroadcastState) (c : StateCame s n b y seen) : Type 0 where
  pub there : Contains (told_to_caster s.air b n) (told_there s n b y seen c)
  pub contact : (told_there s n b y seen c).contact ≡ cast_contact (y.contact, y.seen)
  pub recent : cast_count_at s.members n (casting_at s.members n).boot ≤ c.frame.peer_casts + 30000

pub state_due : (s : Stage) (n b : ℕ) (y : PairEnds) (seen : BroadcastState) (c : StateCame s n b y seen) → AreAged s.members s.air → IsNumber n → boot_of y.contact ≡ boot_at s.members n → (casting_at s.members n).boot ≡ boot_at s.members n → IsDue s n b y seen c
unfolding told_to_caster
state_due s n b y seen c aged number present boot =
    let age = aged.frames c.bearer c.place c.frame c.there n number c.to_is in
    let low = age.0 in
    let high = age.1 in
    let own = c.own in
    let same : c.frame.peer_boot ≡ (casting_at s.members n).boot = (let of = ap boot_of own in omega (arith, low, high, of, present, boot)) in
    record {
      there = listed_there (λ bearer. state_told b n) s.air c.bearer c.place c.frame (told_there s n b y seen c) c.there
          (both_tests c.frame.from.word (node_word b) (is_to n c.frame.to) (option_map (λ seen'. record { contact = heard_contact c.frame.contact; stamp = c.frame.peer_casts; seen = seen' }) (state_in c.frame.frame)) (told_there s n b y seen c) c.from c.to_is
          (ap (option_map (λ seen'. record { contact = heard_contact c.frame.contact; stamp = c.frame.peer_casts; seen = seen' })) c.state));
      contact = (λ i. contact_of (c.own i) (c.theirs i));
      recent = subst (λ k. cast_count_at s.members n k ≤ c.frame.peer_casts + 30000) same c.recent;
    }

-- ---- at node n, the member, from its caster b

abbrev pub heard_there : (s : Stage) (n b : ℕ) (y : PairEnds) (seen : BroadcastState) → StateCame s n b y seen → Told
heard_there s n b y seen c = record { contact = cast_contact c.frame.contact; stamp = c.frame.casts; seen = seen }

pub state_heard_of : (s : Stage) (n b : ℕ) (y : PairEnds) (seen : BroadcastState) (c : StateCame s n b y seen) → Contains (heard_of_caster s.air b n) (heard_there s n b y seen c) × ((heard_there s n b y seen c).contact ≡ heard_contact (y.contact, y.seen))
unfolding heard_of_caster
state_heard_of s n b y seen c = (
  listed_there (λ bearer. state_heard b n) s.air c.bearer c.place c.frame (heard_there s n b y seen c) c.there
      (both_tests c.frame.from.word (node_word b) (is_to n c.frame.to) (option_map (λ seen'. record { contact = cast_contact c.frame.contact; stamp = c.frame.casts; seen = seen' }) (state_in c.frame.frame)) (heard_there s n b y seen c) c.from c.to_is
      (ap (option_map (λ seen'. record { contact = cast_contact c.frame.contact; stamp = c.frame.casts; seen = seen' })) c.state)),
  (λ i. contact_of (c.theirs i) (c.own i)),
)
