-- A call whose plan the code carries out: it is refused for the reason of its plan, or done, and so it was performed.
use Rattle.std.proofs.Common.{◌≡◌, List, [], Option, None, Some, Result, refl, sym, subst}
use Rattle.std.specs.Prelude.{IfOk}
use Rattle.std.proofs.lemmas.Result.{IfOk-weaker}
use Rattle.tipc_types.specs.declared.node_calls.Answer.{Answer}
use Rattle.tipc_types.specs.declared.node_calls.By.{By}
use Rattle.tipc_types.specs.declared.node_calls.EventNote.{EventNote}
use Rattle.tipc_types.specs.declared.services.Publication.{Publication}
use Rattle.tipc_outside.specs.declared.outgoing.Outgoing.{Outgoing}
use Rattle.tipc_outside.specs.Frames.{Adds, Out}
use Rattle.tipc_outside.proofs.Adding.{adds_none}
use Rattle.tipc_node.specs.Calls.{IsChosen, Performs, plan_of}
use Rattle.tipc_node.specs.Nodes.{NodeState, recorded}
use Rattle.tipc_node.specs.Plans.{CarriesOut, DoesUnless, Plan}

-- a plan was carried out, and these frames left
abbrev pub IsCarried : NodeState → NodeState → By → EventNote → Plan → Out → Out → Answer → Type 0
IsCarried n n' by call p box box' answered = (frames : List Outgoing) × CarriesOut n by call p n' frames answered × Adds box box' frames

-- a call was performed, and these frames left
abbrev pub IsPerformed : NodeState → NodeState → By → EventNote → Out → Out → Answer → Type 0
IsPerformed n n' by call box box' answered = (frames : List Outgoing) × Performs n by call n' frames answered × Adds box box' frames

-- a refusal was recorded, and nothing else
abbrev pub IsRefused : NodeState → NodeState → By → EventNote → Answer → Answer → Type 0
IsRefused n n' by call why answered = (answered ≡ why) × (n' ≡ recorded n by call [] why)

-- it is refused for the reason of its plan
pub refused_as : (n n' : NodeState) (by : By) (call : EventNote) (p : Plan) (box : Out) (why answered : Answer) → p.refusal ≡ Some why → IsRefused n n' by call why answered → IsCarried n n' by call p box box answered
refused_as n n' by call p box why answered some is = ([], subst (λ (o : Option Answer). DoesUnless o n by call p n' [] answered) (sym some) (is.1, refl, is.0), adds_none box)

pub refused_by : {E : Type 0} (r : Result Answer E) (n n' : NodeState) (by : By) (call : EventNote) (p : Plan) (box : Out) (why : Answer) → p.refusal ≡ Some why → IfOk r (IsRefused n n' by call why) → IfOk r (IsCarried n n' by call p box box)
refused_by r n n' by call p box why some ok = IfOk-weaker r (IsRefused n n' by call why) (IsCarried n n' by call p box box) (λ a h. refused_as n n' by call p box why a some h) ok

-- its plan was carried out, so it was performed
pub performed : {E : Type 0} (r : Result Answer E) (n n' : NodeState) (by : By) (call : EventNote) (chosen : Option Publication) (box box' : Out) → IsChosen n call chosen → IfOk r (IsCarried n n' by call (plan_of n call chosen) box box')
    → IfOk r (IsPerformed n n' by call box box')
performed r n n' by call chosen box box' choice ok =
    IfOk-weaker r (IsCarried n n' by call (plan_of n call chosen) box box') (IsPerformed n n' by call box box') (λ a h. (h.0, record { chosen = chosen; choice = choice; carried = h.1 }, h.2)) ok

pub performs_refused : {E : Type 0} (r : Result Answer E) (n n' : NodeState) (by : By) (call note : EventNote) (chosen : Option Publication) (box : Out) (why : Answer) → IsChosen n call chosen → (plan_of n call chosen).refusal ≡ Some why → note ≡ call
    → IfOk r (IsRefused n n' by note why) → IfOk r (IsPerformed n n' by call box box)
performs_refused r n n' by call note chosen box why choice some is ok =
    performed r n n' by call chosen box box choice (refused_by r n n' by call (plan_of n call chosen) box why some (subst (λ e. IfOk r (IsRefused n n' by e why)) is ok))

-- a call that is made by its own function
pub called : {E : Type 0} (r : Result Answer E) (n n' : NodeState) (by : By) (call note : EventNote) (box box' : Out) → call ≡ note → IsChosen n note None → IfOk r (IsCarried n n' by note (plan_of n note None) box box') → IfOk r (IsPerformed n n' by call box box')
called r n n' by call note box box' is choice ok = subst (λ e. IfOk r (IsPerformed n n' by e box box')) (sym is) (performed r n n' by note None box box' choice ok)

-- one of which nothing leaves
pub called_alone : {E : Type 0} (r : Result Answer E) (n n' : NodeState) (by : By) (call note : EventNote) (box : Out) → call ≡ note → IsChosen n note None → IfOk r (CarriesOut n by note (plan_of n note None) n' []) → IfOk r (IsPerformed n n' by call box box)
called_alone r n n' by call note box is choice ok =
    called r n n' by call note box box is choice (IfOk-weaker r (CarriesOut n by note (plan_of n note None) n' []) (IsCarried n n' by note (plan_of n note None) box box) (λ a h. ([], h, adds_none box)) ok)
