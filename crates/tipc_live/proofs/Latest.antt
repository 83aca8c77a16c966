-- The latest frame in the air with the bytes that arrived, and what becomes of it when it arrives again.
use Rattle.std.specs.Prelude.{Option, Some, None, is_some, nat_lt, slice_get, slice_index_or}
use Rattle.std.proofs.Common.{◌≡◌, ℕ, ◌<◌, ◌||◌, Bool, true, false, if◌then◌else◌, arith, List, length, refl, sym, subst, ◌∙◌, ap}
use Rattle.std.proofs.lemmas.Bool.Decides.{nat_tests}
use Rattle.std.proofs.lemmas.Option.{slice_get_within}
use Rattle.tipc_types.specs.Limits.{most_age}
use Rattle.tipc_types.specs.declared.node_calls.Answer.{Answer}
use Rattle.tipc_types.specs.declared.node_calls.Answer.TheVariants as answer
use Rattle.tipc_types.specs.declared.node_calls.By.{By}
use Rattle.tipc_types.specs.declared.node_calls.EventNote.{EventNote}
use Rattle.tipc_types.specs.declared.node_calls.EventNote.TheVariants as note
use Rattle.tipc_pick.specs.Choosing.{Choosing}
use Rattle.tipc_replay.specs.declared.air.Sent.{Sent}
use Rattle.tipc_replay.specs.declared.events.WorldEvent.{WorldEvent}
use Rattle.tipc_replay.specs.declared.events.WorldEvent.TheVariants.{Arrive, Call}
use Rattle.tipc_replay.specs.Choices.{ChoosesAt}
use Rattle.tipc_replay.specs.Due.{age_of, frame_for, stopped_by_age, unarrived}
use Rattle.tipc_replay.specs.Skies.{AirState, air_on}
use Rattle.tipc_replay.specs.States.{MemberState, ReplayState, has_member}
use Rattle.tipc_replay.specs.Steps.{IsReplayStep, Stage, stage}
use Rattle.tipc_replay.proofs.frames.Reaching.{placed as sent_at}
use Rattle.tipc_live.specs.declared.again.Again.{Again}
use Rattle.tipc_live.specs.Again.{HappensAgain, HasFrame, IsLatest, IsOutcomeOf, IsOutcomeOfBytes, IsOutcomeOfCall, became}

-- ---- the frame of a place

-- a frame that stands at that place, with these bytes and for that node
pub frame_has : (air : AirState) (n bearer place : ℕ) (bytes : List ℕ) (f : Sent) → slice_get (air_on bearer air) place ≡ Some f → f.frame ≡ bytes → is_some (frame_for air n bearer place) ≡ true
    → HasFrame air n bearer bytes place
frame_has air n bearer place bytes f there same for_it = by (frame_for air n bearer place) refl
  where
    by : (o : Option Sent) → frame_for air n bearer place ≡ o → HasFrame air n bearer bytes place
    by None none = let both : false ≡ true = sym (ap (λ (o : Option Sent). is_some o) none) ∙ for_it in absurd cc
    by (Some g) is =
        let both : Some g ≡ Some f = sym (sent_at air n bearer place g is).0 ∙ there in
        let one : g ≡ f = cc in
        record { frame = g; sent = is; bytes_are = ap (λ (x : Sent). x.frame) one ∙ same }

-- it has these bytes, and is for that node
pub has_bytes : (air : AirState) (n bearer place : ℕ) (bytes : List ℕ) (f : Sent) → slice_get (air_on bearer air) place ≡ Some f → HasFrame air n bearer bytes place → f.frame ≡ bytes
has_bytes air n bearer place bytes f there h =
    let both : Some h.frame ≡ Some f = sym (sent_at air n bearer place h.frame h.sent).0 ∙ there in
    let one : h.frame ≡ f = cc in
    ap (λ (x : Sent). x.frame) (sym one) ∙ h.bytes_are

pub is_for_it : (air : AirState) (n bearer place : ℕ) (bytes : List ℕ) → HasFrame air n bearer bytes place → is_some (frame_for air n bearer place) ≡ true
is_for_it air n bearer place bytes h = ap (λ (o : Option Sent). is_some o) h.sent

-- it stands in the air
pub stands_in_air : (air : AirState) (n bearer place : ℕ) (bytes : List ℕ) (h : HasFrame air n bearer bytes place) → slice_get (air_on bearer air) place ≡ Some h.frame
stands_in_air air n bearer place bytes h = (sent_at air n bearer place h.frame h.sent).0

pub frame_within : (air : AirState) (n bearer place : ℕ) (bytes : List ℕ) → HasFrame air n bearer bytes place → place < length (air_on bearer air)
frame_within air n bearer place bytes h = slice_get_within (air_on bearer air) place h.frame (stands_in_air air n bearer place bytes h)

-- ---- a frame that is too old

is_less : (x y : ℕ) → nat_lt x y ≡ true → x < y
is_less x y test = grind (arith, nat_tests)

-- so much is told of a frame that is there and doesn't arrive
stopped_is : (members : List (Option MemberState)) (n bearer : ℕ) (f : Sent) (why : Answer) → stopped_by_age members n bearer (Some f) ≡ Some why
    → (why ≡ answer.TooOld (age_of members f n bearer)) × (most_age < age_of members f n bearer)
stopped_is members n bearer f why stopped = by (nat_lt most_age (age_of members f n bearer)) refl stopped
  where
    by : (b : Bool) → nat_lt most_age (age_of members f n bearer) ≡ b → (if b then Some (answer.TooOld (age_of members f n bearer)) else None) ≡ Some why
        → (why ≡ answer.TooOld (age_of members f n bearer)) × (most_age < age_of members f n bearer)
    by true old is = let same : answer.TooOld (age_of members f n bearer) ≡ why = cc in (sym same, is_less most_age (age_of members f n bearer) old)
    by false young is = absurd cc

too_old : (members : List (Option MemberState)) (air : AirState) (n bearer place : ℕ) (f : Sent) (why : Answer) → frame_for air n bearer place ≡ Some f → unarrived members air n bearer place ≡ Some why
    → (why ≡ answer.TooOld (age_of members f n bearer)) × (most_age < age_of members f n bearer)
unfolding unarrived
too_old members air n bearer place f why there stopped = stopped_is members n bearer f why (ap (stopped_by_age members n bearer) (sym there) ∙ stopped)

-- ---- an arrival

-- nothing changed
or_none : (a b c : Bool) → a ≡ (b || c) → c ≡ false → a ≡ b
or_none a true c is none = is
or_none a false c is none = is ∙ none

replay_of : Stage → Bool → ReplayState
replay_of s lost = record { members = s.members; air = s.air; lost = lost }

same_replay : (old new : ReplayState) → stage new.members new.air ≡ stage old.members old.air → new.lost ≡ old.lost → new ≡ old
unfolding replay_of
same_replay old new staged lost = ap (λ (s : Stage). replay_of s new.lost) staged ∙ ap (λ (b : Bool). replay_of (stage old.members old.air) b) lost

-- an arrival turns no chooser
same_chooser : {Q : Type 0} (gives : Q → ℕ → ℕ → ℕ → Type 0) (members : List (Option MemberState)) (n bearer place : ℕ) (answered : Answer) (c c' : Choosing Q) → has_member members n ≡ true
    → ChoosesAt gives members (Arrive n bearer place) answered c c' → c' ≡ c
same_chooser gives members n bearer place answered c c' there chose = by (slice_index_or members n None) refl
  where
    by : (o : Option MemberState) → slice_index_or members n None ≡ o → c' ≡ c
    by None none = let both : false ≡ true = sym (ap (λ (o : Option MemberState). is_some o) none) ∙ there in absurd cc
    by (Some m) is = (chose m is).turns

-- what became of the latest frame with these bytes when it was to arrive again
pub arrived_again : {Q : Type 0} (gives : Q → ℕ → ℕ → ℕ → Type 0) (old new : ReplayState) (n : ℕ) (by : By) (bearer : ℕ) (bytes : List ℕ) (c c' : Choosing Q) (place : ℕ) (answered : Answer)
    → has_member old.members n ≡ true → IsLatest old.air n bearer bytes place → IsReplayStep old by (Arrive n bearer place) new answered
    → ChoosesAt gives old.members (Arrive n bearer place) answered c c' → IsOutcomeOfBytes gives old new n by bearer bytes c c' (became answered)
arrived_again gives old new n by bearer bytes c c' place answered there latest step chose = case (unarrived old.members old.air n bearer place) refl
  where
    case : (o : Option Answer) → unarrived old.members old.air n bearer place ≡ o → IsOutcomeOfBytes gives old new n by bearer bytes c c' (became answered)
    case None young =
        let arrives = step.becomes.arrives young in
        subst (λ (a : Answer). IsOutcomeOfBytes gives old new n by bearer bytes c c' (became a)) (sym arrives.2.does.answer_is)
        (record {
          place = place;
          latest = latest;
          young = young;
          happens = record {
            answer = answer.Arrived arrives.2.does.arrived;
            step = subst (λ (a : Answer). IsReplayStep old by (Arrive n bearer place) new a) arrives.2.does.answer_is step;
            chose = subst (λ (a : Answer). ChoosesAt gives old.members (Arrive n bearer place) a c c') arrives.2.does.answer_is chose;
          };
        })
    case (Some why) stopped =
        let aged = too_old old.members old.air n bearer place latest.here.frame why latest.here.sent stopped in
        let none = step.becomes.none why stopped in
        subst (λ (a : Answer). IsOutcomeOfBytes gives old new n by bearer bytes c c' (became a)) (sym (none.0 ∙ aged.0)) (
          (same_replay old new none.1 (or_none new.lost old.lost step.lost step.lost_is none.2), same_chooser gives old.members n bearer place answered c c' there chose),
          record { place = place; latest = latest; age = refl; old = aged.1 },
        )

-- ---- any call

-- a call that was made again
pub called_again : {Q : Type 0} (gives : Q → ℕ → ℕ → ℕ → Type 0) (old new : ReplayState) (n : ℕ) (by : By) (call : EventNote) (event : WorldEvent) (c c' : Choosing Q) (answered : Answer) → event ≡ Call n call
    → IsReplayStep old by event new answered → ChoosesAt gives old.members event answered c c' → HappensAgain gives old new by (Call n call) c c'
called_again gives old new n by call event c c' answered same step chose =
    subst (λ (x : WorldEvent). HappensAgain gives old new by x c c') same (record { answer = answered; step = step; chose = chose })

-- a call that is no arrival
abbrev pub IsOther : EventNote → Type 0
IsOther call = (bearer number : ℕ) → call ≡ note.Arrive bearer number → ⊥

pub other_outcome : {Q : Type 0} (gives : Q → ℕ → ℕ → ℕ → Type 0) (old new : ReplayState) (heard : List (List ℕ)) (n : ℕ) (by : By) (call : EventNote) (c c' : Choosing Q) (outcome : Again) → IsOther call
    → IsOutcomeOfCall gives old new n by call c c' outcome → IsOutcomeOf gives old new heard n by call c c' outcome
other_outcome gives old new heard n by (note.Arrive bearer number) c c' outcome other is = absurd (other bearer number refl)
other_outcome gives old new heard n by call c c' outcome other is = is
