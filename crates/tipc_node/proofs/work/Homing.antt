-- What comes of a message that a node sent to itself.
use Rattle.std.proofs.Common.{◌≡◌, ◌+◌, ℕ, Bool, true, false, List, [], ◌∷◌, ◌++◌, Option, None, Some, length, length-append, refl, sym, ap, ◌∙◌, subst, sum_by, true≢false, arith}
use Rattle.std.specs.Prelude.{◌==◌, ◌||◌, not, nat_le, if◌then◌else◌}
use Rattle.std.proofs.lemmas.List.Sums.{sum_by-append}
use Rattle.tipc_types.specs.declared.message_forms.Form.TheVariants as form
use Rattle.tipc_types.specs.declared.message_forms.Message.{Message}
use Rattle.tipc_types.specs.declared.message_forms.Message.TheVariants.{Payload, Items}
use Rattle.tipc_outside.specs.declared.outgoing.Outgoing.{Outgoing}
use Rattle.tipc_journal.specs.declared.entries.Entry.{Entry}
use Rattle.tipc_journal.specs.Dues.{comes_home, returned_message}
use Rattle.tipc_journal.specs.Fates.{return_limit}
use Rattle.tipc_journal.specs.Room.{entry_bytes}
use Rattle.tipc_sockets.specs.declared.fates.Fate.{Fate}
use Rattle.tipc_sockets.specs.declared.fates.Fate.TheVariants.{Dropped, Queued, ReturnDropped, Returned}
use Rattle.tipc_sockets.specs.Fates.{after_fate, fate, one_port_fate, refusal, return_fate, unqueued_fate}
use Rattle.tipc_sockets.specs.SocketTables.{SocketTable}
use Rattle.tipc_sockets.specs.Telling.{fate_entry, is_payload, origin_of}
use Rattle.tipc_sockets.proofs.Keeping.{eq_itself}
use Rattle.tipc_node.specs.declared.neighbours.Neighbour.{Neighbour}
use Rattle.tipc_node.proofs.work.Changes.{IsSameNode}
use Rattle.tipc_node.specs.Works.{Follows, GivesFate, Work, addr_of_word, back_of, fate_of, fated, work_of}

-- ---- what goes back

return_back : (home : Bool) (waiting : Option ℕ) (m back : Message) → return_fate home waiting m ≡ Returned back → back ≡ m
return_back true waiting m back is = cc
return_back false None m back is = absurd cc
return_back false (Some count) m back is = by (nat_le return_limit count) is
  where
    by : (many : Bool) → (if many then ReturnDropped count else Returned m) ≡ Returned back → back ≡ m
    by true is = absurd cc
    by false is = cc

unqueued_back : (own : ℕ) (waiting : Option ℕ) (why : ℕ) (m back : Message) → unqueued_fate own waiting why m ≡ Returned back → back ≡ returned_message why m
unqueued_back own waiting why (Payload importance form from to kind lower upper code droppable body) back is = by (droppable || not (code == 0)) is
  where
    by : (drops : Bool) → (if drops then Dropped else return_fate (from.node.word == own) waiting (returned_message why (Payload importance form from to kind lower upper code droppable body))) ≡ Returned back
        → back ≡ returned_message why (Payload importance form from to kind lower upper code droppable body)
    by true is = absurd cc
    by false is = return_back (from.node.word == own) waiting (returned_message why (Payload importance form from to kind lower upper code droppable body)) back is
unqueued_back own waiting why (Items withdrawal items) back is = absurd cc

-- what goes back is the message as it is returned for some reason
abbrev pub IsBack : Message → Message → Type 0
IsBack m back = (why : ℕ) × (back ≡ returned_message why m) × (is_payload m ≡ true)

one_port_back : (own : ℕ) (waiting : Option ℕ) (port : ℕ) (against : Option ℕ) (m back : Message) → one_port_fate own waiting port against m ≡ Returned back → IsBack m back
one_port_back own waiting port None m back is = absurd cc
one_port_back own waiting port (Some why) (Payload importance form from to kind lower upper code droppable body) back is =
    (why, unqueued_back own waiting why (Payload importance form from to kind lower upper code droppable body) back is, refl)
one_port_back own waiting port (Some why) (Items withdrawal items) back is = absurd cc

pub fate_back : (s : SocketTable) (arrived : Bool) (waiting : Option ℕ) (m back : Message) → fate s arrived waiting m ≡ Returned back → IsBack m back
fate_back s arrived waiting (Payload importance form.Connected from to kind lower upper code droppable body) back is = absurd cc
fate_back s arrived waiting (Payload importance form.Multicast from to kind lower upper code droppable body) back is = absurd cc
fate_back s arrived waiting (Payload importance form.Named from to kind lower upper code droppable body) back is =
    one_port_back s.own waiting to.port (refusal s arrived form.Named to.port kind lower) (Payload importance form.Named from to kind lower upper code droppable body) back is
fate_back s arrived waiting (Payload importance form.Direct from to kind lower upper code droppable body) back is =
    one_port_back s.own waiting to.port (refusal s arrived form.Direct to.port kind lower) (Payload importance form.Direct from to kind lower upper code droppable body) back is
fate_back s arrived waiting (Items withdrawal items) back is = absurd cc

-- it comes home to the node that the message is of
pub back_home : (own : ℕ) (m back : Message) → IsBack m back → (origin_of m).word ≡ own → comes_home (addr_of_word own) back ≡ true
back_home own (Payload importance form from to kind lower upper code droppable body) back is origin =
    ap (comes_home (addr_of_word own)) is.1 ∙ ap (λ (word : ℕ). word == own) origin ∙ eq_itself own
back_home own (Items withdrawal items) back is origin = absurd (true≢false (sym is.2))

-- ---- the whole of it

some_follow : (own : ℕ) (w : Work) (m back : Message) (f : Fate) → back_of f ≡ Some back → comes_home (addr_of_word own) back ≡ true
    → Follows own w m f (fated (fated w m f) back (fate_of (fated w m f) false back)) []
some_follow own w m back (Queued ports) some home = absurd cc
some_follow own w m back (Returned other) some home = by other cc
  where
    by : (other : Message) → back ≡ other → Follows own w m (Returned other) (fated (fated w m (Returned other)) back (fate_of (fated w m (Returned other)) false back)) []
    by other same = subst (λ (b : Message). Follows own w m (Returned b) (fated (fated w m (Returned b)) back (fate_of (fated w m (Returned b)) false back)) []) same
        (record { home = λ _. (refl, refl); away = λ no. absurd (true≢false (sym home ∙ no)) })
some_follow own w m back (ReturnDropped waiting) some home = absurd cc
some_follow own w m back Dropped some home = absurd cc

-- what meeting a message makes of the sockets and of what is told
pub record IsMet (xs : List (Option Neighbour)) (s s' : SocketTable) (es es' : List Entry) (m : Message) (back : Option Message) : Type 0 where
  pub back_is : back ≡ back_of (fate_of (work_of xs s es) false m)
  pub sockets : s' ≡ after_fate s m (fate_of (work_of xs s es) false m)
  pub entries : es' ≡ es ++ fate_entry (fate_of (work_of xs s es) false m) ∷ []

met_work : (xs : List (Option Neighbour)) (s s' : SocketTable) (es es' : List Entry) (m : Message) (back : Option Message) → IsMet xs s s' es es' m back
    → work_of xs s' es' ≡ fated (work_of xs s es) m (fate_of (work_of xs s es) false m)
met_work xs s s' es es' m back h =
    ap (λ t. work_of xs t es') h.sockets ∙ ap (λ fs. work_of xs (after_fate s m (fate_of (work_of xs s es) false m)) fs) h.entries

returned_by : (f : Fate) (back : Message) → Some back ≡ back_of f → f ≡ Returned back
returned_by (Queued ports) back is = absurd cc
returned_by (Returned other) back is = cc
returned_by (ReturnDropped waiting) back is = absurd cc
returned_by Dropped back is = absurd cc

pub settles_twice : (own : ℕ) (xs : List (Option Neighbour)) (s s' s'' : SocketTable) (es es' es'' : List Entry) (m back : Message) (last : Option Message) → (origin_of m).word ≡ own
    → IsMet xs s s' es es' m (Some back) → IsMet xs s' s'' es' es'' back last → GivesFate own (work_of xs s es) false m (work_of xs s'' es'') []
settles_twice own xs s s' s'' es es' es'' m back last origin first second =
    let w = work_of xs s es in
    let f = fate_of w false m in
    let home = back_home own m back (fate_back s false _ m back (returned_by f back first.back_is)) origin in
    let between = met_work xs s s' es es' m (Some back) first in
    let after = met_work xs s' s'' es' es'' back last second ∙ ap (λ v. fated v back (fate_of v false back)) between in
    subst (λ v. GivesFate own w false m v []) (sym after) (some_follow own w m back f (sym first.back_is) home)

-- the sockets stay where a message goes back
pub met_stays : (xs : List (Option Neighbour)) (s s' : SocketTable) (es es' : List Entry) (m back : Message) → IsMet xs s s' es es' m (Some back) → s' ≡ s
met_stays xs s s' es es' m back h = h.sockets ∙ ap (after_fate s m) (returned_by (fate_of (work_of xs s es) false m) back h.back_is)

-- ---- what is told of it

fate_light : (f : Fate) → entry_bytes (fate_entry f) ≡ 0
fate_light (Queued ports) = refl
fate_light (Returned (Payload importance form from to kind lower upper code droppable body)) = refl
fate_light (Returned (Items withdrawal items)) = refl
fate_light (ReturnDropped waiting) = refl
fate_light Dropped = refl

-- it is one entry, which counts for nothing
pub met_size : (xs : List (Option Neighbour)) (s s' : SocketTable) (es es' : List Entry) (m : Message) (back : Option Message) → IsMet xs s s' es es' m back
    → (length es' ≡ length es + 1) × (sum_by entry_bytes es' ≡ sum_by entry_bytes es)
met_size xs s s' es es' m back h =
    let f = fate_of (work_of xs s es) false m in
    let light = fate_light f in
    let bytes = ap (sum_by entry_bytes) h.entries ∙ sum_by-append entry_bytes es (fate_entry f ∷ []) in
    let long = ap length h.entries ∙ length-append es (fate_entry f ∷ []) in
    (omega (arith, long), omega (arith, bytes, light))

-- ---- the node of the sockets

fate_node : (s : SocketTable) (m : Message) (f : Fate) → IsSameNode s (after_fate s m f)
fate_node s m (Queued ports) = record { own = refl; ports = refl }
fate_node s m (Returned back) = record { own = refl; ports = refl }
fate_node s m (ReturnDropped waiting) = record { own = refl; ports = refl }
fate_node s m Dropped = record { own = refl; ports = refl }

follows_node : (own : ℕ) (w : Work) (m : Message) (f : Fate) (w' : Work) (frames : List Outgoing) → Follows own w m f w' frames → IsSameNode w.sockets w'.sockets
follows_node own w m (Queued ports) w' frames h = subst (λ v. IsSameNode w.sockets v.sockets) (sym h.0) (fate_node w.sockets m (Queued ports))
follows_node own w m (Returned back) w' frames h = by (comes_home (addr_of_word own) back) refl
  where
    by : (b : Bool) → comes_home (addr_of_word own) back ≡ b → IsSameNode w.sockets w'.sockets
    by true is = subst (λ v. IsSameNode w.sockets v.sockets) (sym (h.home is).0) (fate_node w.sockets back (fate_of (fated w m (Returned back)) false back))
    by false is = subst (λ v. IsSameNode w.sockets v.sockets) (sym (h.away is).after) (record { own = refl; ports = refl })
follows_node own w m (ReturnDropped waiting) w' frames h = subst (λ v. IsSameNode w.sockets v.sockets) (sym h.0) (fate_node w.sockets m (ReturnDropped waiting))
follows_node own w m Dropped w' frames h = subst (λ v. IsSameNode w.sockets v.sockets) (sym h.0) (fate_node w.sockets m Dropped)

-- a fate leaves the sockets those of the same node, with the same ports
pub settles_node : (own : ℕ) (w : Work) (arrived : Bool) (m : Message) (w' : Work) (frames : List Outgoing) → GivesFate own w arrived m w' frames → IsSameNode w.sockets w'.sockets
settles_node own w arrived m w' frames h = follows_node own w m (fate_of w arrived m) w' frames h
