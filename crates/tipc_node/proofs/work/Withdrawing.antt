-- A publication that no peer sees is withdrawn: no peer is told, and nothing leaves.
use Rattle.std.proofs.Common.{◌≡◌, ◌∙◌, ℕ, [], ◌∷◌, None, Result, Some, ap, false, if◌then◌else◌, refl, subst, sym, true}
use Rattle.std.specs.Prelude.{IfOk}
use Rattle.std.proofs.lemmas.Result.{IfOk-weaker}
use Rattle.tipc_types.specs.declared.message_forms.Message.TheVariants.{Items}
use Rattle.tipc_types.specs.declared.node_calls.Answer.{Answer}
use Rattle.tipc_types.specs.declared.node_calls.Answer.TheVariants as answer
use Rattle.tipc_types.specs.declared.node_calls.By.{By}
use Rattle.tipc_types.specs.declared.node_calls.EventNote.TheVariants.{Withdraw}
use Rattle.tipc_types.specs.declared.services.Publication.{Publication}
use Rattle.tipc_outside.specs.Frames.{Out}
use Rattle.tipc_journal.specs.declared.entries.Entry.TheVariants.{Withdrawn}
use Rattle.tipc_journal.specs.Names.{is_clusterwide}
use Rattle.tipc_name_dist.specs.Items.{item_of, tellings}
use Rattle.tipc_sockets.specs.Publishing.{published_at, withdrawn}
use Rattle.tipc_sockets.specs.SocketTables.{AreSockets, SocketTable, has_port}
use Rattle.tipc_node.specs.Nodes.{NodeState}
use Rattle.tipc_node.specs.Sockets.{told_withdrawal, withdrawal_refusal, withdrawn_work}
use Rattle.tipc_node.specs.Works.{Work, concluded, work_of}
use Rattle.tipc_node.proofs.work.Announcing.{IsAnnounced, announced_here, telling_alone}
use Rattle.tipc_node.proofs.work.Answering.{withdrawal_free, withdrawn_inside, withdrawn_sockets, withdrawn_told}
use Rattle.tipc_node.proofs.work.Planned.{IsPerformed, performed}

-- nothing is told of one that no peer sees
untold : (p : Publication) → is_clusterwide p.scope ≡ false → tellings true (p ∷ []) ≡ []
untold p local = telling_alone true p ∙ ap (λ b. if b then Items true (item_of p ∷ []) ∷ [] else []) local

-- it was withdrawn at its port, and nothing else was done
abbrev pub IsWithdrawnAt : NodeState → NodeState → By → ℕ → ℕ → Publication → Answer → Type 0
IsWithdrawnAt n n' by port key p answered =
    (answered ≡ answer.Done) × (n' ≡ concluded n by (Withdraw port key) (work_of n.neighbours (withdrawn n.sockets n.sockets.own key) (Withdrawn p ∷ [])) answer.Done)

pub withdrawn_here : {E : Type 0} (r : Result Answer E) (n n' : NodeState) (by : By) (port key : ℕ) (p : Publication) (box : Out) → AreSockets n.sockets → has_port n.sockets port ≡ true → published_at n.sockets port key ≡ Some p
    → is_clusterwide p.scope ≡ false → IfOk r (IsWithdrawnAt n n' by port key p) → IfOk r (IsPerformed n n' by (Withdraw port key) box box)
withdrawn_here r n n' by port key p box sound there found local ok =
    let w = withdrawn_work n port key in
    let reason = withdrawal_refusal n.sockets port key in
    let told = told_withdrawal n.sockets port key in
    let changed = withdrawn n.sockets n.sockets.own key in
    let empty : told ≡ [] = sym (withdrawn_told n port key p found) ∙ untold p local in
    let same : work_of n.neighbours changed (Withdrawn p ∷ []) ≡ w =
    ap (work_of n.neighbours changed) (withdrawn_inside n port key p found) ∙ ap (λ (t : SocketTable). work_of n.neighbours t w.inside) (withdrawn_sockets n port key p changed sound found refl) in
    performed r n n' by (Withdraw port key) None box box refl
    (IfOk-weaker r (IsWithdrawnAt n n' by port key p) (IsAnnounced n n' by (Withdraw port key) reason w told box box)
    (λ a h. subst (IsAnnounced n n' by (Withdraw port key) reason w told box box) (sym h.0)
    (announced_here n n' by (Withdraw port key) reason w told box (withdrawal_free n.sockets port key p there found) empty (h.1 ∙ ap (λ (u : Work). concluded n by (Withdraw port key) u answer.Done) same))) ok)
