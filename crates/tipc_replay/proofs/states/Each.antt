-- What an event keeps of the node at which it happens, it keeps of all nodes.
use Rattle.std.proofs.Common.{◌≡◌, ℕ, Bool, List, [], Option, Some, None, slice_index_or, slice_set, refl, sym, ap, ◌∙◌, subst, inl, inr, get_or-set_same, get_or-set_other}
use Rattle.std.proofs.lemmas.Bool.{cases_eq}
use Rattle.tipc_types.specs.declared.node_calls.Answer.{Answer}
use Rattle.tipc_types.specs.declared.node_calls.By.{By}
use Rattle.tipc_outside.specs.declared.outgoing.Outgoing.{Outgoing}
use Rattle.tipc_types.specs.Address.{node_word}
use Rattle.tipc_node.specs.Nodes.{NodeState}
use Rattle.tipc_replay.specs.declared.events.WorldEvent.{WorldEvent}
use Rattle.tipc_replay.specs.declared.events.WorldEvent.TheVariants.{Arrive, Call, Restart}
use Rattle.tipc_replay.specs.Calls.{node_of}
use Rattle.tipc_replay.specs.Due.{unarrived}
use Rattle.tipc_replay.specs.Effects.{HasEffect}
use Rattle.tipc_replay.specs.Ends.{OfEach}
use Rattle.tipc_replay.specs.Events.{JoinsAt}
use Rattle.tipc_replay.specs.Members.{IsFresh}
use Rattle.tipc_replay.specs.States.{MemberState}
use Rattle.tipc_replay.specs.Steps.{Becomes, Happens, Stage}
use Rattle.tipc_replay.proofs.LookUps.{place_within}

module _ (P : NodeState → Type 0) where
  -- an event keeps it of the node at which it happens
  abbrev pub Keeps : By → WorldEvent → Type 0
  Keeps by event = (bytes : List ℕ) (m m' : MemberState) (frames : List Outgoing) (answered : Answer) → HasEffect by event bytes m m' frames answered → P m.node → P m'.node

  set_each : (members : List (Option MemberState)) (a : ℕ) (before after : MemberState) → slice_index_or members a None ≡ Some before → OfEach P members → P after.node → OfEach P (slice_set members a (Some after))
  set_each members a before after was all new n m there = elim (cases_eq n a) [
    | inl same ↦
        let here : slice_index_or (slice_set members a (Some after)) a None ≡ Some after = get_or-set_same members a (Some after) None (place_within members a before was) in
        let is : after ≡ m = (let e : Some after ≡ Some m = sym here ∙ ap (λ k. slice_index_or (slice_set members a (Some after)) k None) (sym same) ∙ there in cc) in
        subst (λ (x : MemberState). P x.node) is new
    | inr apart ↦ all n m (sym (get_or-set_other members a n (Some after) None apart) ∙ there)
  ]

  happens_each : (old new : Stage) (by : By) (event : WorldEvent) (bytes : List ℕ) (answered : Answer) (lost : Bool) → Keeps by event → Happens old new by event bytes answered lost → OfEach P old.members → OfEach P new.members
  happens_each old new by event bytes answered lost keeps h all =
      subst (OfEach P) (sym h.turns.members)
      (set_each old.members (node_of event) h.before h.after h.turns.was all (keeps bytes h.before h.after h.frames answered h.does (all (node_of event) h.before h.turns.was)))

  pub becomes_each : (old new : Stage) (by : By) (event : WorldEvent) (answered : Answer) (lost : Bool) → Keeps by event → Becomes old by event new answered lost → OfEach P old.members → OfEach P new.members
  becomes_each old new by (Restart node) answered lost keeps h all = happens_each old new by (Restart node) [] answered lost keeps h all
  becomes_each old new by (Call node call) answered lost keeps h all = happens_each old new by (Call node call) [] answered lost keeps h all
  becomes_each old new by (Arrive node bearer place) answered lost keeps h all = case (unarrived old.members old.air node bearer place) refl
    where
      case : (o : Option Answer) → unarrived old.members old.air node bearer place ≡ o → OfEach P new.members
      case (Some why) stops = subst (λ (s : Stage). OfEach P s.members) (sym (h.none why stops).1) all
      case None free = (let a = h.arrives free in happens_each old new by (Arrive node bearer place) a.0.frame answered lost keeps a.2 all)

  -- where no node is, and where one comes in
  pub none_each : OfEach P []
  none_each n m there = absurd cc

  pub joined_each : (old new : List (Option MemberState)) (n first : ℕ) → ((fresh : NodeState) → IsFresh fresh (node_word n) first → P fresh) → JoinsAt old new n first → OfEach P old → OfEach P new
  joined_each old new n first begins j all k m there = elim (cases_eq k n) [
    | inl same ↦
        let is : j.newcomer ≡ m = (let e : Some j.newcomer ≡ Some m = sym j.here ∙ ap (λ i. slice_index_or new i None) (sym same) ∙ there in cc) in
        subst (λ (x : MemberState). P x.node) is (begins j.newcomer.node j.fresh.node)
    | inr apart ↦ all k m (sym (j.others k apart) ∙ there)
  ]
