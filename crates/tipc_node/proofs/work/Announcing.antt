-- A call that changes names and tells peers of it, as the code makes it: refused, or done behind a draft of the step.
use Rattle.std.proofs.Common.{◌≡◌, ◌-◌, ℕ, Bool, List, [], ◌∷◌, ◌++◌, Option, None, Result, refl, sym, ap, ◌∙◌, subst, append-nil}
use Rattle.std.specs.Prelude.{IfOk}
use Rattle.tipc_types.specs.declared.message_forms.Message.{Message}
use Rattle.tipc_types.specs.declared.node_calls.Answer.{Answer}
use Rattle.tipc_types.specs.declared.node_calls.Answer.TheVariants as answer
use Rattle.tipc_types.specs.declared.node_calls.By.{By}
use Rattle.tipc_types.specs.declared.node_calls.EventNote.{EventNote}
use Rattle.tipc_types.specs.declared.services.Publication.{Publication}
use Rattle.tipc_outside.specs.declared.outgoing.Outgoing.{Outgoing}
use Rattle.tipc_outside.specs.Frames.{Adds, Out, no_frames}
use Rattle.tipc_journal.specs.declared.entries.Entry.{Entry}
use Rattle.tipc_journal.specs.Steps.{step_entries}
use Rattle.tipc_name_dist.specs.Items.{telling, tellings}
use Rattle.tipc_sockets.specs.SocketTables.{SocketTable}
use Rattle.tipc_node.specs.declared.neighbours.Neighbour.{Neighbour}
use Rattle.tipc_node.specs.Drafts.{DraftState, ToldPeers, own_of, with_sockets_in}
use Rattle.tipc_node.specs.Nodes.{NodeState, step_of}
use Rattle.tipc_node.specs.Plans.{DoesUnless, names_plan}
use Rattle.tipc_node.specs.Sockets.{crowd_refusal, with_sockets_of}
use Rattle.tipc_outside.proofs.Adding.{adds_none}
use Rattle.tipc_node.specs.Works.{TellsEach, Work, all_told, concluded, none_left, one_told, peers_in_contact, work_of}
use Rattle.tipc_node.proofs.work.Making.{node_of}
use Rattle.tipc_node.proofs.work.Planned.{IsCarried}

-- peers were told by the call, and these frames left
abbrev pub IsAnnounced : NodeState → NodeState → By → EventNote → Option Answer → Work → List Message → Out → Out → Answer → Type 0
IsAnnounced n n' by call reason w told box box' answered = IsCarried n n' by call (names_plan n reason w told) box box' answered

-- ---- a call that is done

-- What was drafted, and what the call made of the rest of the node: every peer in contact is told behind these entries, the sockets are these,
-- and the step is recorded. What is in the box of the draft leaves.
pub record IsDrafted (k : NodeState) (by : By) (event : EventNote) (front : List Entry) (told : List Message) (xs : List (Option Neighbour)) (es journal : List Entry) (promised : ℕ) (drafted box box' : Out) : Type 0 where
  pub tells : (s : SocketTable) → ToldPeers k.own (work_of k.neighbours s front) told (work_of xs s es) no_frames drafted
  pub leaves : (frames : List Outgoing) → Adds no_frames drafted frames → Adds box box' frames
  pub recorded_is : journal ≡ k.journal ++ step_entries (step_of by event es answer.Done)
  pub used : promised ≡ k.promised - 1

-- What was shared in the draft of a step, and how it was concluded behind a change of the sockets.
pub record IsShared (k : NodeState) (by : By) (event : EventNote) (idle shared last : DraftState) (front : List Entry) (told : List Message) (ys : List (Option Neighbour)) (journal : List Entry) (promised : ℕ) (box box' : Out) : Type 0 where
  pub own : own_of idle ≡ k.own
  pub same : idle.work.neighbours ≡ k.neighbours
  pub tells : (t : SocketTable) → ToldPeers (own_of idle) (work_of idle.work.neighbours t front) told (with_sockets_of shared.work t) no_frames shared.out
  pub changed : SocketTable
  pub is : last ≡ with_sockets_in shared changed
  pub left : ys ≡ last.work.neighbours
  pub leaves : (frames : List Outgoing) → Adds no_frames last.out frames → Adds box box' frames
  pub recorded_is : journal ≡ k.journal ++ step_entries (step_of by event last.work.inside answer.Done)
  pub used : promised ≡ k.promised - 1

pub shared_drafted : (k : NodeState) (by : By) (event : EventNote) (idle shared last : DraftState) (front : List Entry) (told : List Message) (ys : List (Option Neighbour)) (journal : List Entry) (promised : ℕ) (box box' : Out)
    → IsShared k by event idle shared last front told ys journal promised box box' → IsDrafted k by event front told ys last.work.inside journal promised last.out box box'
shared_drafted k by event idle shared last front told ys journal promised box box' h = record {
  tells = λ t.
      subst (λ zs. ToldPeers k.own (work_of k.neighbours t front) told (work_of zs t last.work.inside) no_frames last.out) (sym h.left)
      (subst (λ zs. ToldPeers k.own (work_of zs t front) told (with_sockets_of last.work t) no_frames last.out) h.same
      (subst (λ word. ToldPeers word (work_of idle.work.neighbours t front) told (with_sockets_of last.work t) no_frames last.out) h.own
      (subst (λ (z : DraftState). ToldPeers (own_of idle) (work_of idle.work.neighbours t front) told (with_sockets_of z.work t) no_frames z.out) (sym h.is) (h.tells t))));
  leaves = h.leaves;
  recorded_is = h.recorded_is;
  used = h.used;
}

pub announced : (k : NodeState) (by : By) (event : EventNote) (w : Work) (front : List Entry) (told given : List Message) (xs : List (Option Neighbour)) (s : SocketTable) (es journal : List Entry) (promised : ℕ) (drafted box box' : Out)
    → crowd_refusal k.neighbours given ≡ None → given ≡ told → front ≡ w.inside → w.neighbours ≡ k.neighbours → s ≡ w.sockets → IsDrafted k by event front given xs es journal promised drafted box box'
    → IsAnnounced k (node_of k xs s journal promised) by event None w told box box' answer.Done
announced k by event w front told given xs s es journal promised drafted box box' clear same first neighbours sockets h =
    let t = h.tells w.sockets in
    let one = subst (λ ms. ToldPeers k.own (work_of k.neighbours w.sockets front) ms (work_of xs w.sockets es) no_frames drafted) same t in
    let two = subst (λ fs. ToldPeers k.own (work_of k.neighbours w.sockets fs) told (work_of xs w.sockets es) no_frames drafted) first one in
    let all = subst (λ ys. ToldPeers k.own (work_of ys w.sockets w.inside) told (work_of xs w.sockets es) no_frames drafted) (sym neighbours) two in
    let free : crowd_refusal k.neighbours told ≡ None = ap (crowd_refusal k.neighbours) (sym same) ∙ clear in (
      all.frames,
      subst (λ (o : Option Answer). DoesUnless o k by event (names_plan k None w told) (node_of k xs s journal promised) all.frames answer.Done) (sym free)
          (work_of xs w.sockets es, all.tells, (λ i. node_of k xs (sockets i) (h.recorded_is i) (h.used i)), refl),
      h.leaves all.frames all.adds,
    )

-- what was announced is what the call makes of its names: nothing speaks against it, and this is its work, and these are its messages
pub announced_as : {E : Type 0} (r : Result Answer E) (n n' : NodeState) (by : By) (event : EventNote) (reason : Option Answer) (w w' : Work) (told told' : List Message) (box box' : Out) → reason ≡ None → w ≡ w' → told ≡ told'
    → IfOk r (IsAnnounced n n' by event None w told box box') → IfOk r (IsAnnounced n n' by event reason w' told' box box')
announced_as r n n' by event reason w w' told told' box box' none work messages ok =
    subst (λ (o : Option Answer). IfOk r (IsAnnounced n n' by event o w' told' box box')) (sym none)
    (subst (λ (v : Work). IfOk r (IsAnnounced n n' by event None v told' box box')) work (subst (λ ms. IfOk r (IsAnnounced n n' by event None w ms box box')) messages ok))

-- the message of one publication is all that is told of it
pub telling_alone : (withdrawal : Bool) (p : Publication) → tellings withdrawal (p ∷ []) ≡ telling withdrawal p
telling_alone withdrawal p = append-nil (telling withdrawal p)

-- where there is nothing to tell, no peer is told, and nothing leaves
tells_nobody : (own : ℕ) (w : Work) (peers : List ℕ) → TellsEach own [] w peers w []
tells_nobody own w [] = all_told w
tells_nobody own w (peer ∷ peers) = one_told w w w peer peers [] [] (none_left w) (tells_nobody own w peers)

-- a call of which nobody is told is done by its work alone
pub announced_here : (n n' : NodeState) (by : By) (call : EventNote) (reason : Option Answer) (w : Work) (told : List Message) (box : Out) → reason ≡ None → told ≡ [] → n' ≡ concluded n by call w answer.Done
    → IsAnnounced n n' by call reason w told box box answer.Done
announced_here n n' by call reason w told box none empty is =
    subst (λ ms. IsAnnounced n n' by call reason w ms box box answer.Done) (sym empty)
    (subst (λ (o : Option Answer). IsAnnounced n n' by call o w [] box box answer.Done) (sym none)
    ([], (w, tells_nobody n.own w (peers_in_contact w.neighbours), is, refl), adds_none box))
