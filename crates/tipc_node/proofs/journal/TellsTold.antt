-- Calls that change names and tell peers of it: the journal tells of the node after each, whether it was refused or not.
use Rattle.std.proofs.Common.{◌≡◌, ℕ, false, true, List, [], ◌∷◌, Option, Some, None, inl, refl, sym, ◌∙◌, subst}
use Rattle.std.specs.Prelude.{option_map}
use Rattle.tipc_types.specs.declared.identity.Addr.{Addr}
use Rattle.tipc_types.specs.declared.message_forms.Message.{Message}
use Rattle.tipc_types.specs.declared.node_calls.Answer.{Answer}
use Rattle.tipc_types.specs.declared.node_calls.Answer.TheVariants as answer
use Rattle.tipc_types.specs.declared.node_calls.By.{By}
use Rattle.tipc_types.specs.declared.node_calls.EventNote.{EventNote}
use Rattle.tipc_outside.specs.declared.outgoing.Outgoing.{Outgoing}
use Rattle.tipc_journal.specs.Licensed.{IsAnswered}
use Rattle.tipc_journal.specs.Refusals.{is_congested, refusal, refusals}
use Rattle.tipc_journal.specs.Steps.{IsInside}
use Rattle.tipc_sockets.specs.SocketTables.{AreSockets, SocketTable}
use Rattle.tipc_node.specs.declared.neighbours.Neighbour.{Neighbour}
use Rattle.tipc_node.specs.Nodes.{NodeState, step_of}
use Rattle.tipc_node.specs.Plans.{names_plan, or_else}
use Rattle.tipc_node.specs.Sockets.{crowd_refusal, crowded_answer, first_crowded}
use Rattle.tipc_sockets.specs.Telling.{is_tick}
use Rattle.tipc_node.specs.Telling.{IsFull, IsTold}
use Rattle.tipc_node.specs.Works.{TellsPeers, Work, addr_of_word, begun, peers_in_contact, work_of}
use Rattle.tipc_node.proofs.journal.Calling.{AreRefusals, IsLawful, IsRefusal, IsWell, reason_told, refused_call}
use Rattle.tipc_node.proofs.journal.Concluding.{IsCall}
use Rattle.tipc_node.proofs.journal.PeersTold.{tells_each_sockets}
use Rattle.tipc_node.proofs.journal.Refusing.{none_first}

-- ---- a crowded peer

-- what holds of each answer that names a crowded peer
crowded_has : (P : Answer → Type 0) → ((peer waiting : ℕ) → P (answer.NamesCongested peer waiting)) → (xs : List (Option Neighbour)) (o : Option ℕ) (why : Answer) → option_map (crowded_answer xs) o ≡ Some why → P why
crowded_has P holds xs None why is = absurd cc
crowded_has P holds xs (Some peer) why is = (let same : crowded_answer xs peer ≡ why = cc in subst P same (holds peer _))

crowd_has : (P : Answer → Type 0) → ((peer waiting : ℕ) → P (answer.NamesCongested peer waiting)) → (xs : List (Option Neighbour)) (ms : List Message) (why : Answer) → crowd_refusal xs ms ≡ Some why → P why
crowd_has P holds xs [] why is = absurd cc
crowd_has P holds xs (m ∷ ms) why is = crowded_has P holds xs (first_crowded xs) why is

-- the call is refused since one is
abbrev IsCrowded : EventNote → Answer → Type 0
IsCrowded note why = is_congested note why ≡ true

-- ---- the call

-- A plan that changes names and tells peers of it. The entries tell of sockets that may be others than those in the work, as where a port is
-- closed behind its withdrawals.
pub names_lawful : {r : Option Answer} {w : Work} {told : List Message} (n : NodeState) (by : By) (note : EventNote) (s : SocketTable) → IsTold n → is_tick note ≡ false → r ≡ refusal (addr_of_word n.own) n.journal note
    → AreRefusals (refusals (addr_of_word n.own) n.journal note) → ((reason : Answer) → IsFull note reason) → ((peer waiting : ℕ) → IsCrowded note (answer.NamesCongested peer waiting))
    → ((last : Work) (frames : List Outgoing) → refusal (addr_of_word n.own) n.journal note ≡ None → TellsPeers n.own w told last frames → AreSockets w.sockets → IsInside last.inside
    → IsCall n by note answer.Done (work_of last.neighbours s last.inside) w.sockets)
    → IsLawful n by note (names_plan n r w told)
names_lawful {r} {w} {told} n by note s h still is refuse full congested done = record { refused = refused; done = does }
  where
    own : Addr
    own = addr_of_word n.own

    by_crowd : (reason : Answer) → r ≡ None → crowd_refusal n.neighbours told ≡ Some reason → IsCall n by note reason (begun n) n.sockets
    by_crowd reason none crowd =
        let crowded = crowd_has (IsCrowded note) congested n.neighbours told reason crowd in
        refused_call n by note reason h still (crowd_has IsRefusal (λ peer waiting. tt) n.neighbours told reason crowd) (subst (IsAnswered own n.journal (step_of by note [] reason)) (sym none ∙ is) (inl (crowded, refl))) (full reason)

    by_reason : (reason : Answer) (o : Option Answer) → r ≡ o → or_else o (crowd_refusal n.neighbours told) ≡ Some reason → IsCall n by note reason (begun n) n.sockets
    by_reason reason None none later = by_crowd reason none later
    by_reason reason (Some first) some same = reason_told n by note reason h still refuse full (sym is ∙ some ∙ same)

    refused : (reason : Answer) → or_else r (crowd_refusal n.neighbours told) ≡ Some reason → IsCall n by note reason (begun n) n.sockets
    refused reason some = by_reason reason r refl some

    does : or_else r (crowd_refusal n.neighbours told) ≡ None → (last : Work) (frames : List Outgoing) → TellsPeers n.own w told last frames → AreSockets last.sockets → IsInside last.inside → IsWell n by note answer.Done last
    does none last frames tells sound inner =
        let same : last.sockets ≡ w.sockets = tells_each_sockets n.own told w (peers_in_contact w.neighbours) last frames tells in
        let call = done last frames (sym is ∙ none_first r (crowd_refusal n.neighbours told) none) tells (subst AreSockets same sound) inner in
        (work_of last.neighbours s last.inside, refl, subst (IsCall n by note answer.Done (work_of last.neighbours s last.inside)) (sym same) call)
