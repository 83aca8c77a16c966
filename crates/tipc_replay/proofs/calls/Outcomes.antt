-- What calls come to.
use Rattle.std.proofs.Common.{◌≡◌, ◌<◌, ◌+◌, ◌++◌, ◌∷◌, ℕ, List, None, [], Some, Result, Ok, Err, refl, sym, ap, subst}
use Rattle.std.specs.Prelude.{IfOk, nat_eq, option_map, unwrap_or}
use Rattle.indexmap.specs.IndexMap.{insert_entry}
use Rattle.tipc_outside.specs.Frames.{Adds, Out}
use Rattle.tipc_outside.proofs.Adding.{adds_none as nothing_added}
use Rattle.tipc_journal.specs.declared.entries.Entry.{Entry}
use Rattle.tipc_node.specs.declared.neighbours.Neighbour.{Neighbour}
use Rattle.tipc_node.specs.Nodes.{NodeState, neighbour_of}
use Rattle.tipc_replay.specs.Members.{AreNoted, IsFresh, IsRestarted, Tally}
use Rattle.tipc_replay.specs.States.{MemberState}
use Rattle.tipc_replay.proofs.pairs.Counts.{counts_stay}

pub if_ok : {T E : Type 0} {P Q : T → Type 0} (r : Result T E) → ((x : T) → P x → Q x) → IfOk r P → IfOk r Q
if_ok (Ok x) more held = more x held
if_ok (Err e) more held = tt

pub some_is : {A : Type 0} (x y : A) → Some x ≡ Some y → x ≡ y
some_is x y same = ap (λ o. unwrap_or o x) same

pub adds_none : (box box' : Out) → box' ≡ box → Adds box box' []
adds_none box box' same = subst (λ b. Adds box b []) (sym same) (nothing_added box)

-- a node was restarted, after all its sessions and the numbers of its broadcast link were noted
pub restarted_as : (m : MemberState) (n : NodeState) (past : List (List Entry)) (before counts : List Tally) (casts : List (ℕ × ℕ)) → IsFresh n m.node.own (m.node.boot + 1) → past ≡ m.past ++ m.node.journal ∷ []
    → before ≡ m.counts → AreNoted before counts m.node 33 → ((peer : ℕ) → 32 < peer → neighbour_of m.node peer ≡ None) → casts ≡ insert_entry nat_eq m.casts m.node.boot m.node.casting.sending.numbered
    → IsRestarted m (record { node = n; past = past; calls = 0; arrivals = m.arrivals; counts = counts; casts = casts })
restarted_as m n past before counts casts fresh journals same noted few used = record {
  node = fresh;
  past = journals;
  calls = refl;
  arrivals = refl;
  counts = counts_stay m _ (subst (λ cs. AreNoted cs counts m.node 33) same noted) (λ peer. ap (option_map (λ (x : Neighbour). x.pair)) (fresh.alone peer)) (λ peer high. ap (option_map (λ (x : Neighbour). x.pair)) (few peer high));
  casts = used;
}
