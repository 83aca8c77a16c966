-- A call that was made again is a step of its node in the replay.
use Rattle.std.specs.Prelude.{Some, None, slice_get, slice_index_or}
use Rattle.std.proofs.Common.{◌≡◌, ℕ, ◌%◌, ◌^◌, Bool, List, sym, subst, ◌∙◌, ap}
use Rattle.tipc_types.specs.declared.node_calls.By.{By}
use Rattle.tipc_types.specs.declared.node_calls.EventNote.{EventNote}
use Rattle.tipc_types.specs.declared.node_calls.EventNote.TheVariants as note
use Rattle.tipc_pick.specs.Choosing.{Choosing}
use Rattle.tipc_journal.specs.Counting.{names_sent}
use Rattle.tipc_journal.specs.Licensed.{IsPicked}
use Rattle.tipc_node.specs.Calls.{CanPerform}
use Rattle.tipc_node.specs.Works.{addr_of_word}
use Rattle.tipc_node_lock.specs.Locked.{LockedState}
use Rattle.tipc_replay.specs.declared.air.Sent.{Sent}
use Rattle.tipc_replay.specs.declared.events.WorldEvent.TheVariants.{Arrive, Call}
use Rattle.tipc_replay.specs.Choices.{after_choice, is_named_send}
use Rattle.tipc_replay.specs.Due.{frame_for}
use Rattle.tipc_replay.specs.States.{MemberState, ReplayState}
use Rattle.tipc_replay.specs.Steps.{Happens, stage}
use Rattle.tipc_replay.proofs.Growing.{becomes_grows}
use Rattle.tipc_replay.proofs.frames.Reaching.{placed as sent_at}
use Rattle.tipc_live.specs.Again.{CanBeAgain, HappensAgain, IsOutcomeOf, MeetsAgain}
use Rattle.tipc_live.specs.declared.again.Again.TheVariants.{Made}
use Rattle.tipc_live.proofs.Stepping.{StepsSo, steps_arrival, steps_call}

-- A step of a node, and what became of its chooser.
pub record StepsAgain {P Q : Type 0} (gives : P → ℕ → ℕ → ℕ → Type 0) (n : LockedState P) (old new : ReplayState) (number : ℕ) (by : By) (call : EventNote) (m : MemberState) (c c' : Choosing Q) : Type 0 where
  pub sent : Bool
  pub steps : StepsSo gives n old new number by call m sent
  pub chooser : c' ≡ after_choice c sent

-- a call that isn't an arrival
call_steps : {P Q : Type 0} (gives : P → ℕ → ℕ → ℕ → Type 0) (pick_of : Q → P) (n : LockedState P) (old new : ReplayState) (number : ℕ) (by : By) (call : EventNote) (m : MemberState) (c c' : Choosing Q)
    → slice_index_or old.members number None ≡ Some m → m.node.own ≡ n.node.own → pick_of c.pick ≡ n.chooser.pick → c.turn ≡ names_sent m.node.journal % 2 ^ 64 → CanPerform call
    → HappensAgain (λ q. gives (pick_of q)) old new by (Call number call) c c' → StepsAgain gives n old new number by call m c c'
call_steps gives pick_of n old new number by call m c c' there own pick turn can h =
    let chose = h.chose m there in
    let picked : IsPicked (gives (pick_of c.pick)) (names_sent m.node.journal) (addr_of_word m.node.own) m.node.journal call h.answer = chose.picked (names_sent m.node.journal) (sym turn) in
    record {
      sent = is_named_send (Call number call) h.answer;
      steps =
          steps_call gives n old new number by call m h.answer there can h.step
          (subst (λ p. IsPicked (gives p) (names_sent m.node.journal) (addr_of_word n.node.own) m.node.journal call h.answer) pick
          (subst (λ w. IsPicked (gives (pick_of c.pick)) (names_sent m.node.journal) (addr_of_word w) m.node.journal call h.answer) own picked));
      chooser = chose.turns;
    }

-- an arrival
arrival_steps : {P Q : Type 0} (gives : P → ℕ → ℕ → ℕ → Type 0) (pick_of : Q → P) (n : LockedState P) (old new : ReplayState) (number : ℕ) (by : By) (bearer heard : ℕ) (bytes : List ℕ) (m : MemberState)
    (c c' : Choosing Q) → slice_index_or old.members number None ≡ Some m → slice_get n.heard heard ≡ Some bytes → MeetsAgain (λ q. gives (pick_of q)) old new number by bearer bytes c c'
    → StepsAgain gives n old new number by (note.Arrive bearer heard) m c c'
arrival_steps {P} {Q} gives pick_of n old new number by bearer heard bytes m c c' there heard_is h = of (h.happens.step.becomes.arrives h.young)
  where
    of : (f : Sent) × (frame_for old.air number bearer h.place ≡ Some f) × Happens (stage old.members old.air) (stage new.members new.air) by (Arrive number bearer h.place) f.frame h.happens.answer h.happens.step.lost
        → StepsAgain gives n old new number by (note.Arrive bearer heard) m c c'
    of (f, sent, happens) =
        let both : Some f ≡ Some h.latest.here.frame = sym sent ∙ h.latest.here.sent in
        let same : f ≡ h.latest.here.frame = cc in
        let grows = (becomes_grows (stage old.members old.air) (stage new.members new.air) by (Arrive number bearer h.place) h.happens.answer h.happens.step.lost h.happens.step.becomes).air in
        record {
          sent = is_named_send (Arrive number bearer h.place) h.happens.answer;
          steps =
              steps_arrival gives n old new number by bearer h.place heard m h.happens.answer f bytes there (sent_at old.air number bearer h.place f sent).0
              (ap (λ (x : Sent). x.frame) same ∙ h.latest.here.bytes_are) heard_is h.happens.step.lost happens grows;
          chooser = (h.happens.chose m there).turns;
        }

-- a call that was made again
pub made_again : {P Q : Type 0} (gives : P → ℕ → ℕ → ℕ → Type 0) (pick_of : Q → P) (n : LockedState P) (old new : ReplayState) (number : ℕ) (by : By) (call : EventNote) (m : MemberState) (c c' : Choosing Q)
    → slice_index_or old.members number None ≡ Some m → m.node.own ≡ n.node.own → pick_of c.pick ≡ n.chooser.pick → c.turn ≡ names_sent m.node.journal % 2 ^ 64 → CanBeAgain n.heard call
    → IsOutcomeOf (λ q. gives (pick_of q)) old new n.heard number by call c c' Made → StepsAgain gives n old new number by call m c c'
made_again gives pick_of n old new number by (note.Arrive bearer heard) m c c' there own pick turn can (bytes, heard_is, meets) =
    arrival_steps gives pick_of n old new number by bearer heard bytes m c c' there heard_is meets
made_again gives pick_of n old new number by other m c c' there own pick turn can happens = call_steps gives pick_of n old new number by other m c c' there own pick turn can happens
