-- What is done to the parts of a draft, as its value has it.
use Rattle.std.proofs.Common.{◌≡◌, ℕ, ◌-◌, Bool, true, false, List, [], ◌∷◌, ◌++◌, Option, Some, None, Result, Ok, Err, refl, sym, ap, subst, ◌∙◌, arith}
use Rattle.std.specs.Prelude.{IfOk, OnErr, OnOk, is_some, slice_index_or, slice_set}
use Rattle.tipc_types.specs.Address.{node_word}
use Rattle.tipc_types.specs.declared.message_forms.Message.{Message}
use Rattle.tipc_outside.specs.Frames.{Out}
use Rattle.tipc_journal.specs.declared.entries.Entry.{Entry}
use Rattle.tipc_broadcast.specs.Casting.{Casting}
use Rattle.tipc_discovery.specs.Hearing.{Neighbourhood}
use Rattle.tipc_sockets.specs.declared.fates.Fate.{Fate}
use Rattle.tipc_sockets.specs.Fates.{after_fate}
use Rattle.tipc_sockets.specs.SocketTables.{SocketTable}
use Rattle.tipc_sockets.specs.Telling.{fate_entry}
use Rattle.tipc_node.specs.declared.neighbours.Neighbour.{Neighbour}
use Rattle.tipc_node.specs.Drafts.{DraftState, IsIdle, own_of, restored, start_of}
use Rattle.tipc_node.specs.Hearings.{WentAway}
use Rattle.tipc_node.specs.Messages.{destination_of}
use Rattle.tipc_node.specs.Nodes.{NodeState}
use Rattle.tipc_node.specs.Works.{GivesFate, Puts, PutsOn, Work, back_of, fate_of, fated, work_of}
use Rattle.tipc_node.proofs.work.Changes.{IsSameNode}
use Rattle.tipc_node.proofs.work.Homing.{settles_node}
use Rattle.tipc_node.proofs.work.Restoring.{kept_changed, restored_none}
use Rattle.tipc_node.proofs.work.Returning.{fate_same, met_work, on_ok}
use Rattle.tipc_node.proofs.work.Wayfaring.{puts_by}

-- the draft of these parts
abbrev pub draft_of : List (Option Neighbour) → SocketTable → List Entry → List (Option Neighbour) → Out → DraftState
draft_of xs s es copies out = record { work = work_of xs s es; copies = copies; out = out }

-- the node of these parts, which works on that draft
abbrev pub core_of : ℕ → ℕ → Bool × Bool → Neighbourhood → ℕ → Casting → DraftState → List Entry → ℕ → NodeState
core_of own boot mended found ticks v d journal promised = record { own = own; boot = boot; mended = mended; found = found; ticks = ticks; neighbours = d.work.neighbours; sockets = d.work.sockets; journal = journal; casting = v; promised = promised }

-- A neighbour that was copied is changed, and the sockets are as they were.
pub start_changed : (d : DraftState) (xs seen copies copies' : List (Option Neighbour)) (s : SocketTable) (es es' : List Entry) (box box' : Out) (i : ℕ) (y : Option Neighbour)
    → draft_of xs s es copies box ≡ d → seen ≡ xs → is_some (slice_index_or copies' i None) ≡ true → restored copies' seen ≡ restored copies seen
    → start_of (draft_of (slice_set xs i y) s es' copies' box') ≡ start_of d
start_changed d xs seen copies copies' s es es' box box' i y is seen_is there same =
    ap (λ zs. (zs, s.own)) (kept_changed copies copies' seen xs i y seen_is there same) ∙ ap start_of is

-- a copy was made, and the neighbours and the sockets are as they were
pub start_kept : (d : DraftState) (xs seen copies copies' : List (Option Neighbour)) (s : SocketTable) (es es' : List Entry) (box box' : Out) → draft_of xs s es copies box ≡ d → seen ≡ xs → restored copies' seen ≡ restored copies seen
    → start_of (draft_of xs s es' copies' box') ≡ start_of d
start_kept d xs seen copies copies' s es es' box box' is seen_is same =
    ap (λ zs. (zs, s.own)) (ap (restored copies') (sym seen_is) ∙ same ∙ ap (restored copies) seen_is) ∙ ap start_of is

-- a message has its fate, where there was memory for it
pub met_here : {E : Type 0} (r : Result (Option Message) E) (d : DraftState) (xs seen copies : List (Option Neighbour)) (s s' : SocketTable) (es es' : List Entry) (box : Out) (arrived : Bool) (m : Message) → draft_of xs s es copies box ≡ d → seen ≡ xs
    → OnOk r (s' ≡ after_fate s m (fate_of (work_of seen s es) arrived m)) → OnOk r (es' ≡ es ++ fate_entry (fate_of (work_of seen s es) arrived m) ∷ []) → OnOk r (work_of xs s' es' ≡ fated d.work m (fate_of d.work arrived m))
met_here (Ok back) d xs seen copies s s' es es' box arrived m is seen_is one other =
    met_work xs seen s s' es es' arrived m (back_of (fate_of (work_of seen s es) arrived m)) (record { seen_is = seen_is; back_is = refl; sockets_are = one; entries_are = other })
    ∙ ap (λ (z : DraftState). fated z.work m (fate_of z.work arrived m)) is
met_here (Err e) d xs seen copies s s' es es' box arrived m is seen_is one other = tt

-- and what goes back by it
pub back_here : {E : Type 0} (r : Result (Option Message) E) (d : DraftState) (xs seen copies : List (Option Neighbour)) (s : SocketTable) (es : List Entry) (box : Out) (arrived : Bool) (m : Message) → draft_of xs s es copies box ≡ d → seen ≡ xs
    → IfOk r (λ back. back ≡ back_of (fate_of (work_of seen s es) arrived m)) → IfOk r (λ back. back_of (fate_of d.work arrived m) ≡ back)
back_here (Ok back) d xs seen copies s es box arrived m is seen_is h =
    ap (λ (z : DraftState). back_of (fate_of z.work arrived m)) (sym is) ∙ ap (λ zs. back_of (fate_of (work_of zs s es) arrived m)) (sym seen_is) ∙ sym h
back_here (Err e) d xs seen copies s es box arrived m is seen_is h = tt

-- whose node the sockets are stays, whether there was memory or not
pub met_own : {E : Type 0} (Q : Type 0) (r : Result (Option Message) E) (s s' : SocketTable) (m : Message) (f : Fate) → OnOk r (s' ≡ after_fate s m f) → OnErr r ((s' ≡ s) × Q) → s'.own ≡ s.own
met_own Q (Ok back) s s' m f one other = ap (λ (t : SocketTable). t.own) one ∙ (fate_same s m f).0
met_own Q (Err e) s s' m f one other = ap (λ (t : SocketTable). t.own) other.0

-- a return that was put on the link to the peer that it is for went away
pub put_back : {T E : Type 0} (r : Result T E) (d : DraftState) (own peer : ℕ) (xs copies : List (Option Neighbour)) (s : SocketTable) (es es' : List Entry) (x y : Neighbour) (back : Message) (box box' : Out)
    → draft_of xs s es copies box ≡ d → s.own ≡ own → slice_index_or xs peer None ≡ Some x → (destination_of back).word ≡ node_word peer → OnOk r (PutsOn own x y peer back es es' box box')
    → OnOk r (WentAway (own_of d) d.work back (work_of (slice_set xs peer (Some y)) s es') d.out box')
put_back r d own peer xs copies s es es' x y back box box' is node was named put =
    subst (λ (z : DraftState). OnOk r (WentAway (own_of z) z.work back (work_of (slice_set xs peer (Some y)) s es') z.out box')) is
    (on_ok r (λ p. (
    let place : peer ≡ (destination_of back).word - node_word 0 = omega (arith, named) in
    let one = subst (λ word. PutsOn word x y peer back es es' box box') (sym node) p in
    record {
      frames = one.frames;
      goes = subst (λ k. Puts s.own (work_of xs s es) k back (work_of (slice_set xs peer (Some y)) s es') one.frames) place (puts_by s.own peer xs s es es' x y back box box' was one);
      adds = one.adds;
    })) put)

-- a draft in which nothing is drafted has the neighbours that it began with
pub start_idle : (d : DraftState) → ((k : ℕ) → slice_index_or d.copies k None ≡ None) → start_of d ≡ (d.work.neighbours, own_of d)
start_idle d none = ap (λ zs. (zs, own_of d)) (restored_none d.copies d.work.neighbours none)

-- nor is anything in a draft of which only neighbours and sockets change
pub idle_work : (d d' : DraftState) (w : Work) → d' ≡ record d { work = w } → w.inside ≡ d.work.inside → IsIdle d → IsIdle d'
idle_work d d' w is same idle = subst IsIdle (sym is) (record { inside = same ∙ idle.inside; copies = idle.copies; out = idle.out })

-- the sockets are of the same node, and have the same ports, where a message of its own had its fate, and where there was no memory for it
pub settled_same : {T E : Type 0} (r : Result T E) (xs : List (Option Neighbour)) (s s' : SocketTable) (es es' : List Entry) (m : Message)
    → OnOk r (GivesFate s.own (work_of xs s es) false m (work_of xs s' es') []) → OnErr r (s' ≡ s) → IsSameNode s s'
settled_same (Ok x) xs s s' es es' m goes same = settles_node s.own (work_of xs s es) false m (work_of xs s' es') [] goes
settled_same (Err e) xs s s' es es' m goes same = record { own = ap (λ (t : SocketTable). t.own) same; ports = ap (λ (t : SocketTable). t.ports) same }
