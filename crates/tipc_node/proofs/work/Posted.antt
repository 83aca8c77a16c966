-- A message that a call sends, to a port or by name.
use Rattle.std.proofs.Common.{◌≡◌, ◌%◌, ◌^◌, ◌≤◌, ℕ, Bool, true, false, List, [], ◌∷◌, Option, None, Some, Result, length, refl, sym, ap, subst, ◌∙◌, eqb-true, arith}
use Rattle.std.specs.Prelude.{◌==◌, filter, if◌then◌else◌, nat_le, slice_get, unwrap_or, IfOk}
use Rattle.std.proofs.lemmas.Result.{IfOk-weaker}
use Rattle.tipc_types.specs.declared.identity.PortId.{PortId}
use Rattle.tipc_types.specs.declared.message_forms.Importance.{Importance}
use Rattle.tipc_types.specs.declared.message_forms.Message.{Message}
use Rattle.tipc_types.specs.declared.node_calls.Answer.{Answer}
use Rattle.tipc_types.specs.declared.node_calls.Answer.TheVariants as answer
use Rattle.tipc_types.specs.declared.node_calls.By.{By}
use Rattle.tipc_types.specs.declared.node_calls.EventNote.{EventNote}
use Rattle.tipc_types.specs.declared.node_calls.EventNote.TheVariants.{SendName, SendPort}
use Rattle.tipc_types.specs.declared.services.Publication.{Publication}
use Rattle.tipc_outside.specs.Frames.{Out}
use Rattle.tipc_journal.specs.Licensed.{IsPickedOf}
use Rattle.tipc_journal.specs.Refusals.{longest_body}
use Rattle.tipc_types.specs.Matching.{closest, covers}
use Rattle.tipc_sockets.specs.SocketTables.{has_port}
use Rattle.tipc_node.specs.Calls.{IsChoice, name_plan, sender_refusal}
use Rattle.tipc_node.specs.Messages.{direct, limit_of, named}
use Rattle.tipc_node.specs.Nodes.{NodeState}
use Rattle.tipc_node.specs.Plans.{message_plan, or_else, way_refusal}
use Rattle.tipc_node.specs.Sockets.{found_at}
use Rattle.tipc_node.proofs.work.Planned.{IsCarried, IsPerformed, IsRefused, performs_refused}
use Rattle.tipc_node.proofs.work.Wayfaring.{IsSentTo}

-- ---- a call that was answered

-- a message went its way or was refused there, and nothing else speaks against it
pub sent_as : (n n' : NodeState) (by : By) (call note : EventNote) (reason : Option Answer) (m m' : Message) (limit limit' : ℕ) (sent : Answer) (box box' : Out) (why : Option Answer) → reason ≡ None → note ≡ call → m ≡ m' → limit ≡ limit'
    → IsSentTo n n' by note m limit sent box box' why → IsCarried n n' by call (message_plan n reason m' limit' sent) box box' (unwrap_or why sent)
sent_as n n' by call note reason m m' limit limit' sent box box' why none noted message most h =
    subst (λ (o : Option Answer). IsCarried n n' by call (message_plan n o m' limit' sent) box box' (unwrap_or why sent)) (sym none)
    (subst (λ e. IsSentTo n n' by e m' limit' sent box box' why) noted
    (subst (λ x. IsSentTo n n' by note x limit' sent box box' why) message (subst (λ k. IsSentTo n n' by note m k sent box box' why) most h)))

pub port_refused : {E : Type 0} (r : Result Answer E) (n n' : NodeState) (by : By) (port : ℕ) (to : PortId) (importance : Importance) (body : List ℕ) (box : Out) (why : Answer) (note : EventNote) → sender_refusal n port body ≡ Some why
    → note ≡ SendPort port to importance body → IfOk r (IsRefused n n' by note why) → IfOk r (IsPerformed n n' by (SendPort port to importance body) box box)
port_refused r n n' by port to importance body box why note some is ok =
    performs_refused r n n' by (SendPort port to importance body) note None box why refl (ap (λ (o : Option Answer). or_else o (way_refusal n to.node (limit_of importance))) some) is ok

pub port_answered : (n n' : NodeState) (by : By) (port : ℕ) (to : PortId) (importance : Importance) (body : List ℕ) (box box' : Out) (note : EventNote) (m : Message) (limit : ℕ) (why : Option Answer) (answered : Answer) → sender_refusal n port body ≡ None
    → note ≡ SendPort port to importance body → m ≡ direct n.own port to importance body → limit ≡ limit_of importance → IsSentTo n n' by note m limit answer.Sent box box' why → unwrap_or why answer.Sent ≡ answered
    → IsPerformed n n' by (SendPort port to importance body) box box' answered
port_answered n n' by port to importance body box box' note m limit why answered none noted message most sent is =
    let h = sent_as n n' by (SendPort port to importance body) note (sender_refusal n port body) m (direct n.own port to importance body) limit (limit_of importance) answer.Sent box box' why none noted message most sent in
    subst (IsPerformed n n' by (SendPort port to importance body) box box') is (h.0, record { chosen = None; choice = refl; carried = h.1 }, h.2)

-- ---- by name

-- there is a choice of each list
a_choice : (found : List Publication) → (chosen : Option Publication) × IsChoice found chosen
a_choice [] = (None, refl)
a_choice (p ∷ ps) = (Some p, (0, refl))

-- what refuses the sender comes first, whatever was chosen
sender_first : (n : NodeState) (port kind instance : ℕ) (importance : Importance) (body : List ℕ) (chosen : Option Publication) (why : Answer) → sender_refusal n port body ≡ Some why → (name_plan n port kind instance importance body chosen).refusal ≡ Some why
sender_first n port kind instance importance body None why some = ap (λ (o : Option Answer). or_else o (Some answer.NoName)) some
sender_first n port kind instance importance body (Some p) why some = ap (λ (o : Option Answer). or_else o (way_refusal n p.at.node (limit_of importance))) some

pub name_refused_by : {E : Type 0} (r : Result Answer E) (n n' : NodeState) (by : By) (port kind instance : ℕ) (importance : Importance) (body : List ℕ) (box : Out) (why : Answer) (note : EventNote) → sender_refusal n port body ≡ Some why
    → note ≡ SendName port kind instance importance body → IfOk r (IsRefused n n' by note why) → IfOk r (IsPerformed n n' by (SendName port kind instance importance body) box box)
name_refused_by r n n' by port kind instance importance body box why note some is ok =
    let c = a_choice (found_at n kind instance) in
    performs_refused r n n' by (SendName port kind instance importance body) note c.0 box why c.1 (sender_first n port kind instance importance body c.0 why some) is ok

pub name_unfound_by : {E : Type 0} (r : Result Answer E) (n n' : NodeState) (by : By) (port kind instance : ℕ) (importance : Importance) (body : List ℕ) (box : Out) (note : EventNote) → sender_refusal n port body ≡ None → found_at n kind instance ≡ []
    → note ≡ SendName port kind instance importance body → IfOk r (IsRefused n n' by note answer.NoName) → IfOk r (IsPerformed n n' by (SendName port kind instance importance body) box box)
name_unfound_by r n n' by port kind instance importance body box note none empty is ok =
    performs_refused r n n' by (SendName port kind instance importance body) note None box answer.NoName empty (ap (λ (o : Option Answer). or_else o (Some answer.NoName)) none) is ok

-- it was answered, where it went its way or was refused there
pub name_answered : (n n' : NodeState) (by : By) (port kind instance : ℕ) (importance : Importance) (body : List ℕ) (box box' : Out) (place : ℕ) (p : Publication) (note : EventNote) (m : Message) (limit : ℕ) (why : Option Answer) (answered : Answer)
    → sender_refusal n port body ≡ None → slice_get (found_at n kind instance) place ≡ Some p → note ≡ SendName port kind instance importance body → m ≡ named n.own port p.at kind instance importance body → limit ≡ limit_of importance
    → IsSentTo n n' by note m limit (answer.SentTo p.at) box box' why → unwrap_or why (answer.SentTo p.at) ≡ answered → IsPerformed n n' by (SendName port kind instance importance body) box box' answered
name_answered n n' by port kind instance importance body box box' place p note m limit why answered none found noted message most sent is =
    let call = SendName port kind instance importance body in
    let h = sent_as n n' by call note (sender_refusal n port body) m (named n.own port p.at kind instance importance body) limit (limit_of importance) (answer.SentTo p.at) box box' why none noted message most sent in
    subst (IsPerformed n n' by call box box') is (h.0, record { chosen = Some p; choice = (place, found); carried = h.1 }, h.2)

-- ---- which match it went to

-- a sender's refusal isn't that a message was sent
pub refused_unpicked : {E : Type 0} (gives : ℕ → ℕ → ℕ → Type 0) (r : Result Answer E) (n : NodeState) (port : ℕ) (body : List ℕ) (found : List Publication) (why : Answer) (X : Type 0) → sender_refusal n port body ≡ Some why
    → IfOk r (λ a. (a ≡ why) × X) → (now : ℕ) → IfOk r (λ a. (turn : ℕ) → turn % 2 ^ 64 ≡ now → IsPickedOf gives turn found a)
refused_unpicked gives r n port body found why X some ok now =
    IfOk-weaker r (λ a. (a ≡ why) × X) (λ a. (turn : ℕ) → turn % 2 ^ 64 ≡ now → IsPickedOf gives turn found a)
    (λ a h turn at. subst (IsPickedOf gives turn found) (sym h.0) (by turn (has_port n.sockets port) (nat_le (length body) longest_body) some)) ok
  where
    by : (turn : ℕ) (there short : Bool) → (if there then (if short then None else Some (answer.TooLong (length body))) else Some answer.NoSocket) ≡ Some why → IsPickedOf gives turn found why
    by turn true true is = absurd cc
    by turn true false is = let same : answer.TooLong (length body) ≡ why = cc in subst (IsPickedOf gives turn found) same tt
    by turn false short is = let same : answer.NoSocket ≡ why = cc in subst (IsPickedOf gives turn found) same tt

-- one that was sent went to the place that was given
pub picked_at : (gives : ℕ → ℕ → ℕ → Type 0) (now count place : ℕ) (found : List Publication) (p : Publication) → gives now count place → count ≡ length found → slice_get found place ≡ Some p
    → (turn : ℕ) → turn % 2 ^ 64 ≡ now → IsPickedOf gives turn found (answer.SentTo p.at)
picked_at gives now count place found p gave is there turn at =
    (place, subst (λ k. gives (turn % 2 ^ 64) k place) is (subst (λ t. gives t count place) (sym at) gave), (p, there, refl))

-- ---- what the name found

-- what was looked up is what the name finds at the node
pub found_is : (n k : NodeState) (kind instance : ℕ) (found : List Publication) → k ≡ n → k.sockets.own ≡ k.own → found ≡ closest k.sockets.own (filter (covers kind instance) k.sockets.names) → found ≡ found_at n kind instance
found_is n k kind instance found same own is =
    is ∙ ap (λ (word : ℕ). closest word (filter (covers kind instance) k.sockets.names)) own ∙ ap (λ (z : NodeState). found_at z kind instance) same

pub nothing : (ps : List Publication) → length ps == 0 ≡ true → ps ≡ []
nothing [] is = refl
nothing (p ∷ ps) is = absurd (let zero = eqb-true (length (p ∷ ps)) 0 is in omega (arith, zero))

pub something : (ps : List Publication) → length ps == 0 ≡ false → 1 ≤ length ps
something [] is = absurd cc
something (p ∷ ps) is = omega arith
