-- Messages to a port and by name: the journal tells of the node after each, whether it was refused or went its way.
use Rattle.std.proofs.Common.{◌≡◌, ◌≤◌, ◌==◌, ◌&&◌, ◌||◌, ℕ, Bool, true, false, not, List, [], ◌∷◌, Option, Some, None, is_some, length, inl, refl, sym, ap, ◌∙◌, subst, arith}
use Rattle.std.specs.Prelude.{if◌then◌else◌, is_none, nat_le}
use Rattle.tipc_types.specs.declared.identity.Addr.{Addr}
use Rattle.tipc_types.specs.declared.identity.PortId.{PortId}
use Rattle.tipc_types.specs.declared.message_forms.Importance.{Importance}
use Rattle.tipc_types.specs.declared.message_forms.Importance.TheVariants.{Low, Medium, High, Critical}
use Rattle.tipc_types.specs.declared.message_forms.Message.{Message}
use Rattle.tipc_types.specs.declared.node_calls.Answer.{Answer}
use Rattle.tipc_types.specs.declared.node_calls.Answer.TheVariants as answer
use Rattle.tipc_types.specs.declared.node_calls.By.{By}
use Rattle.tipc_types.specs.declared.node_calls.EventNote.{EventNote}
use Rattle.tipc_types.specs.declared.node_calls.EventNote.TheVariants as event
use Rattle.tipc_outside.specs.declared.outgoing.Outgoing.{Outgoing}
use Rattle.tipc_journal.specs.Contacts.{contact}
use Rattle.tipc_journal.specs.Dues.{NothingDue}
use Rattle.tipc_journal.specs.Licensed.{IsAnswered, is_reached}
use Rattle.tipc_journal.specs.Refusals.{refusal}
use Rattle.tipc_journal.specs.Steps.{IsInside}
use Rattle.tipc_sockets.specs.SocketTables.{has_port}
use Rattle.tipc_node.specs.Calls.{sender_refusal}
use Rattle.tipc_node.specs.Messages.{direct, limit_of}
use Rattle.tipc_node.specs.Nodes.{NodeState, step_of}
use Rattle.tipc_node.specs.Plans.{GoesItsWay, message_plan, or_else, way_refusal}
use Rattle.tipc_node.specs.Telling.{ArePacked, IsFull, IsTold}
use Rattle.tipc_node.specs.Works.{Work, addr_of_word, begun}
use Rattle.tipc_node.proofs.journal.Calling.{IsLawful, IsRefusal, IsWell, done_answered, refused_call}
use Rattle.tipc_node.proofs.journal.Concluding.{IsCall, others_kept}
use Rattle.tipc_node.proofs.journal.Refusing.{none_first, none_other, sender_refused}
use Rattle.tipc_node.proofs.journal.SendsTold.{WayRefused, crowded, goes_worked, unreached, way_open, way_refused}

-- ---- a refused send

-- the sender has no socket there, or its body is too long
pub sender_is : (P : Answer → Type 0) (n : NodeState) (port : ℕ) (body : List ℕ) (reason : Answer) → P answer.NoSocket → P (answer.TooLong (length body)) → sender_refusal n port body ≡ Some reason → P reason
sender_is P n port body reason no_socket too_long is = by (has_port n.sockets port) (nat_le (length body) 66000) is
  where
    by : (there short : Bool) → (if there then (if short then None else Some (answer.TooLong (length body))) else Some answer.NoSocket) ≡ Some reason → P reason
    by true true none = absurd cc
    by true false long = (let here : answer.TooLong (length body) ≡ reason = cc in subst P here too_long)
    by false short gone = (let here : answer.NoSocket ≡ reason = cc in subst P here no_socket)

pub some_limit : (importance : Importance) → 1 ≤ limit_of importance
some_limit Low = omega arith
some_limit Medium = omega arith
some_limit High = omega arith
some_limit Critical = omega arith

-- ---- a message to a port

-- the refusal of a message to a node that isn't reached
abbrev link_answer : NodeState → Addr → Option Answer
link_answer n node = if not (node.word == n.own) && is_none (contact n.journal node) then Some answer.NoNode else None

-- the refusal of a message to a port, behind those of its sender
port_first : (n : NodeState) (port : ℕ) (to : PortId) (importance : Importance) (body : List ℕ) → IsTold n
    → refusal (addr_of_word n.own) n.journal (event.SendPort port to importance body)
    ≡ or_else (sender_refusal n port body) (link_answer n to.node)
port_first n port to importance body h = sender_refused n port body ((not (to.node.word == n.own) && is_none (contact n.journal to.node), answer.NoNode) ∷ []) h

-- none where the node is reached, and NoNode where it isn't
reach_refusal : (own : Bool) (c : Option (ℕ × ℕ)) (b : Bool) → (own || is_some c) ≡ b → (if not own && is_none c then Some answer.NoNode else None) ≡ (if b then None else Some answer.NoNode)
reach_refusal true c b is = ap (λ t. if t then None else Some answer.NoNode) is
reach_refusal false None b is = ap (λ t. if t then None else Some answer.NoNode) is
reach_refusal false (Some numbers) b is = ap (λ t. if t then None else Some answer.NoNode) is

port_refused_as : (n : NodeState) (port : ℕ) (to : PortId) (importance : Importance) (body : List ℕ) (b : Bool) → IsTold n → sender_refusal n port body ≡ None → is_reached (addr_of_word n.own) n.journal to.node ≡ b
    → refusal (addr_of_word n.own) n.journal (event.SendPort port to importance body) ≡ (if b then None else Some answer.NoNode)
port_refused_as n port to importance body b h sender reached =
    port_first n port to importance body h ∙ ap (λ o. or_else o (link_answer n to.node)) sender ∙ reach_refusal (to.node.word == n.own) (contact n.journal to.node) b reached

port_way : (n : NodeState) (by : By) (port : ℕ) (to : PortId) (importance : Importance) (body : List ℕ) (reason : Answer) → IsTold n → sender_refusal n port body ≡ None → WayRefused n to.node (limit_of importance) reason
    → IsCall n by (event.SendPort port to importance body) reason (begun n) n.sockets
port_way n by port to importance body _ h sender (unreached gone) =
    let note = event.SendPort port to importance body in
    let is = port_refused_as n port to importance body false h sender gone in
    refused_call n by note answer.NoNode h refl tt (subst (IsAnswered (addr_of_word n.own) n.journal (step_of by note [] answer.NoNode)) (sym is) (refl, refl)) tt
port_way n by port to importance body _ h sender (crowded in_flight waiting fifty most reached) =
    let note = event.SendPort port to importance body in
    let reason = answer.Congested in_flight waiting in
    let is = port_refused_as n port to importance body true h sender reached in
    refused_call n by note reason h refl tt (subst (IsAnswered (addr_of_word n.own) n.journal (step_of by note [] reason)) (sym is) (inl (refl, refl))) (fifty, most)

pub port_lawful : (n : NodeState) (by : By) (port : ℕ) (to : PortId) (importance : Importance) (body : List ℕ) → IsTold n → ArePacked n
    → IsLawful n by (event.SendPort port to importance body) (message_plan n (sender_refusal n port body) (direct n.own port to importance body) (limit_of importance) answer.Sent)
port_lawful n by port to importance body h packed = record { refused = λ reason some. refused reason (sender_refusal n port body) refl some; done = goes }
  where
    own : Addr
    own = addr_of_word n.own

    note : EventNote
    note = event.SendPort port to importance body

    m : Message
    m = direct n.own port to importance body

    way : Option Answer
    way = way_refusal n to.node (limit_of importance)

    refused : (reason : Answer) (o : Option Answer) → sender_refusal n port body ≡ o → or_else o way ≡ Some reason → IsCall n by note reason (begun n) n.sockets
    refused reason None sender some = port_way n by port to importance body reason h sender (way_refused n to.node (limit_of importance) reason h packed (some_limit importance) some)
    refused reason (Some first) is same =
        let sender = is ∙ same in
        let told = port_first n port to importance body h ∙ ap (λ o. or_else o (link_answer n to.node)) sender in
        refused_call n by note reason h refl (sender_is IsRefusal n port body reason tt tt sender) (subst (IsAnswered own n.journal (step_of by note [] reason)) (sym told) (refl, refl)) (sender_is (IsFull note) n port body reason tt tt sender)

    goes : or_else (sender_refusal n port body) way ≡ None → (last : Work) (frames : List Outgoing) → GoesItsWay n.own (begun n) m last frames → IsInside last.inside → IsWell n by note answer.Sent last
    goes none last frames went inner =
        let sender = none_first (sender_refusal n port body) way none in
        let reached = way_open n to.node (limit_of importance) h (none_other (sender_refusal n port body) way none) in
        let worked = goes_worked n m last frames h refl refl (λ home. refl) went in (
          last,
          refl,
          record {
            answered = done_answered own n.journal by note last.inside answer.Sent (port_refused_as n port to importance body true h sender reached) refl;
            worked = worked;
            kept = others_kept n by note answer.Sent NothingDue _ _ last h inner worked (record { stays = λ ports. refl; none = refl; quiet = λ q. refl; still = refl; nothing = λ number. refl });
            full = tt;
          },
        )
