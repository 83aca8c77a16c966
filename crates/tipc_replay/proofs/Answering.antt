-- Every call that a node recorded is answered as is promised, through every event.
use Rattle.std.proofs.Common.{◌≡◌, ℕ, Bool, List, [], ◌∷◌, Option, Some, None, slice_get, slice_index_or, slice_set, refl, sym, ap, subst, ◌∙◌, inl, inr, get_or-set_same, get_or-set_other}
use Rattle.std.proofs.lemmas.Bool.{cases_eq}
use Rattle.tipc_types.specs.Address.{node_word}
use Rattle.tipc_types.specs.declared.node_calls.Answer.{Answer}
use Rattle.tipc_types.specs.declared.node_calls.By.{By}
use Rattle.tipc_outside.specs.declared.outgoing.Outgoing.{Outgoing}
use Rattle.tipc_journal.specs.declared.entries.Entry.{Entry}
use Rattle.tipc_journal.specs.Fates.{AllHaveFates}
use Rattle.tipc_journal.specs.Licensed.{AllLicensed}
use Rattle.tipc_node.specs.Nodes.{NodeState}
use Rattle.tipc_node.specs.Telling.{IsTold}
use Rattle.tipc_node.specs.Turns.{addr_of}
use Rattle.tipc_node.specs.Works.{addr_of_word}
use Rattle.tipc_replay.specs.declared.events.WorldEvent.{WorldEvent}
use Rattle.tipc_replay.specs.declared.events.WorldEvent.TheVariants.{Restart, Call, Arrive}
use Rattle.tipc_replay.specs.Answered.{AllAnswered, AreAnswered}
use Rattle.tipc_replay.specs.Calls.{node_of}
use Rattle.tipc_replay.specs.Due.{unarrived}
use Rattle.tipc_replay.specs.Effects.{HasEffect}
use Rattle.tipc_replay.specs.Events.{JoinsAt}
use Rattle.tipc_replay.specs.Shared.{AreShared}
use Rattle.tipc_replay.specs.Skies.{AirState}
use Rattle.tipc_replay.specs.Sound.{IsSound}
use Rattle.tipc_replay.specs.States.{MemberState, journals_of}
use Rattle.tipc_replay.specs.Steps.{Becomes, Happens, IsArrival, Stage}
use Rattle.tipc_replay.proofs.calls.Journals.{get_more, journal_at-is, journal_at-none, past_at}
use Rattle.tipc_replay.proofs.calls.Outcomes.{some_is}
use Rattle.tipc_replay.proofs.LookUps.{place_within}
use Rattle.tipc_link.proofs.Directions.{slice_get-append as get_longer}

-- ---- one node

-- the journals of the boots before the present one are answered so
abbrev pub PastAnswered : List (Option MemberState) → Type 0
PastAnswered members = (n : ℕ) (m : MemberState) → slice_index_or members n None ≡ Some m → (k : ℕ) (journal : List Entry) → slice_get m.past k ≡ Some journal → AreAnswered (addr_of n) journal

-- what a node's own journal tells
told_answered : (n : ℕ) (x : NodeState) → x.own ≡ node_word n → IsTold x → AreAnswered (addr_of n) x.journal
told_answered n x own told = record {
  licensed = subst (λ w. AllLicensed (addr_of_word w) x.journal) own told.licensed;
  fates = subst (λ w. AllHaveFates (addr_of_word w) x.journal) own told.fates;
  full = told.full;
  callers = told.answered;
}

-- with the present ones, all journals are answered so
pub all_answered : (members : List (Option MemberState)) (air : AirState) → IsSound members air → AreShared members → PastAnswered members → AllAnswered members
all_answered members air sound shared past n boot journal there = case (slice_index_or members n None) refl
  where
    case : (o : Option MemberState) → slice_index_or members n None ≡ o → AreAnswered (addr_of n) journal
    case None none = absurd (let gone : None ≡ Some journal = sym (journal_at-none members n boot none) ∙ there in let wrong : ⊥ = cc in wrong)
    case (Some m) is = elim (get_more m.past m.node.journal boot journal (sym (journal_at-is members n boot m is) ∙ there)) [
      | inl old ↦ past n m is boot journal old
      | inr last ↦ subst (AreAnswered (addr_of n)) last.1 (told_answered n m.node (sound.numbered n m is).1 (shared n m is).told)
    ]

-- ---- an event at a node

-- each journal of a past boot was a journal of the node before
abbrev PastWas : MemberState → MemberState → Type 0
PastWas m m' = (k : ℕ) (journal : List Entry) → slice_get m'.past k ≡ Some journal → slice_get (journals_of m) k ≡ Some journal

past_same : (m m' : MemberState) → m'.past ≡ m.past → PastWas m m'
past_same m m' same k journal there = get_longer m.past (m.node.journal ∷ []) k journal (subst (λ js. slice_get js k ≡ Some journal) same there)

does_past : (by : By) (event : WorldEvent) (bytes : List ℕ) (m m' : MemberState) (frames : List Outgoing) (answered : Answer) → HasEffect by event bytes m m' frames answered → PastWas m m'
does_past by (Restart node) bytes m m' frames answered h = λ k journal there. subst (λ js. slice_get js k ≡ Some journal) h.0.past there
does_past by (Call node call) bytes m m' frames answered h = past_same m m' (ap (λ (x : MemberState). x.past) h.after)
does_past by (Arrive node bearer place) bytes m m' frames answered h = past_same m m' (ap (λ (x : MemberState). x.past) h.after)

-- ---- all nodes

set_past : (members : List (Option MemberState)) (a : ℕ) (before after : MemberState) → slice_index_or members a None ≡ Some before → AllAnswered members → PastWas before after → PastAnswered (slice_set members a (Some after))
set_past members a before after was all past n m there k journal stands = elim (cases_eq n a) [
  | inl same ↦
      let here : slice_index_or (slice_set members a (Some after)) a None ≡ Some after = get_or-set_same members a (Some after) None (place_within members a before was) in
      let is : after ≡ m = some_is after m (sym here ∙ ap (λ i. slice_index_or (slice_set members a (Some after)) i None) (sym same) ∙ there) in
      let at : slice_get (journals_of before) k ≡ Some journal = past k journal (subst (λ (x : MemberState). slice_get x.past k ≡ Some journal) (sym is) stands) in
      subst (λ i. AreAnswered (addr_of i) journal) (sym same) (all a k journal (journal_at-is members a k before was ∙ at))
  | inr apart ↦ all n k journal (past_at members n k m journal (sym (get_or-set_other members a n (Some after) None apart) ∙ there) stands)
]

happens_past : (old new : Stage) (by : By) (event : WorldEvent) (bytes : List ℕ) (answered : Answer) (lost : Bool) → AllAnswered old.members → Happens old new by event bytes answered lost → PastAnswered new.members
happens_past old new by event bytes answered lost all h =
    subst PastAnswered (sym h.turns.members) (set_past old.members (node_of event) h.before h.after h.turns.was all (does_past by event bytes h.before h.after h.frames answered h.does))

still_past : (members : List (Option MemberState)) → AllAnswered members → PastAnswered members
still_past members all n m there k journal stands = all n k journal (past_at members n k m journal there stands)

arrival_past : (old new : Stage) (by : By) (node bearer place : ℕ) (answered : Answer) (lost : Bool) → AllAnswered old.members → IsArrival old new by node bearer place answered lost → PastAnswered new.members
arrival_past old new by node bearer place answered lost all h = case (unarrived old.members old.air node bearer place) refl
  where
    case : (o : Option Answer) → unarrived old.members old.air node bearer place ≡ o → PastAnswered new.members
    case (Some why) stops = subst (λ (s : Stage). PastAnswered s.members) (sym (h.none why stops).1) (still_past old.members all)
    case None free = let a = h.arrives free in happens_past old new by (Arrive node bearer place) a.0.frame answered lost all a.2

becomes_past : (old new : Stage) (by : By) (event : WorldEvent) (answered : Answer) (lost : Bool) → AllAnswered old.members → Becomes old by event new answered lost → PastAnswered new.members
becomes_past old new by (Restart node) answered lost all h = happens_past old new by (Restart node) [] answered lost all h
becomes_past old new by (Call node call) answered lost all h = happens_past old new by (Call node call) [] answered lost all h
becomes_past old new by (Arrive node bearer place) answered lost all h = arrival_past old new by node bearer place answered lost all h

-- after one event
pub becomes_answered : (old new : Stage) (by : By) (event : WorldEvent) (answered : Answer) (lost : Bool) → IsSound new.members new.air → AreShared new.members → AllAnswered old.members → Becomes old by event new answered lost → AllAnswered new.members
becomes_answered old new by event answered lost sound shared all h = all_answered new.members new.air sound shared (becomes_past old new by event answered lost all h)

-- where no nodes are
pub start_answered : AllAnswered []
start_answered n boot journal there = absurd (let gone : None ≡ Some journal = sym (journal_at-none [] n boot refl) ∙ there in let wrong : ⊥ = cc in wrong)

joined_past : (old new : List (Option MemberState)) (n first : ℕ) → JoinsAt old new n first → AllAnswered old → PastAnswered new
joined_past old new n first j all k m there i journal stands = elim (cases_eq k n) [
  | inl same ↦
      let is : j.newcomer ≡ m = some_is j.newcomer m (sym j.here ∙ ap (λ e. slice_index_or new e None) (sym same) ∙ there) in
      absurd (nothing i (subst (λ js. slice_get js i ≡ Some journal) (ap (λ (x : MemberState). x.past) (sym is) ∙ j.fresh.past) stands))
  | inr apart ↦ all k i journal (past_at old k i m journal (sym (j.others k apart) ∙ there) stands)
]
  where
    nothing : (i : ℕ) → (let none : List (List Entry) = [] in slice_get none i ≡ Some journal) → ⊥
    nothing i at = absurd cc

-- a node comes in
pub joined_answered : (old new : List (Option MemberState)) (air : AirState) (n first : ℕ) → IsSound new air → AreShared new → JoinsAt old new n first → AllAnswered old → AllAnswered new
joined_answered old new air n first sound shared j all = all_answered new air sound shared (joined_past old new n first j all)
