-- What stays while a node works on a step: while messages are put, have their fates, and entries are noted.
use Rattle.std.proofs.Common.{◌≡◌, ℕ, zero, suc, Bool, true, false, List, [], ◌∷◌, Option, Some, None, refl, sym, ap, subst, ◌∙◌}
use Rattle.std.specs.Prelude.{is_some, slice_index_or, slice_set}
use Rattle.tipc_types.specs.declared.message_forms.Message.{Message}
use Rattle.tipc_types.specs.declared.message_forms.Message.TheVariants.{Items, Payload}
use Rattle.tipc_outside.specs.declared.outgoing.Outgoing.{Outgoing}
use Rattle.tipc_journal.specs.declared.entries.Entry.{Entry}
use Rattle.tipc_journal.specs.Dues.{comes_home}
use Rattle.tipc_name_dist.specs.Applying.{learnt_entries}
use Rattle.tipc_types.specs.Address.{node_word}
use Rattle.tipc_sockets.specs.declared.fates.Fate.{Fate}
use Rattle.tipc_sockets.specs.declared.fates.Fate.TheVariants.{Queued, Returned, ReturnDropped, Dropped}
use Rattle.tipc_sockets.specs.SocketTables.{SocketTable}
use Rattle.tipc_node.specs.declared.frames.Delivery.{Delivery}
use Rattle.tipc_node.specs.declared.neighbours.Neighbour.{Neighbour}
use Rattle.tipc_node.specs.Works.{Delivers, DeliversAll, DeliversTo, Follows, GoesBack, Puts, PutsEach, Work, addr_of_word, fate_of, fated, noted}
use Rattle.tipc_node.specs.Works.DeliversAll.{none_left, one_more}
use Rattle.tipc_node.specs.Works.PutsEach.{none_left as none_put, one_more as one_put}
use Rattle.tipc_node.proofs.work.Changes.{IsSameNode, same_folded}
use Rattle.tipc_node.proofs.work.Returning.{fate_same}

-- ---- what stays through each part of the work stays through all

pub record IsStable (own : ℕ) (P : Work → Type 0) : Type 0 where
  pub put : (w : Work) (peer : ℕ) (m : Message) (w' : Work) (frames : List Outgoing) → Puts own w peer m w' frames → P w → P w'
  pub fate : (w : Work) (m : Message) (f : Fate) → P w → P (fated w m f)
  pub note : (w : Work) (es : List Entry) → P w → P (noted w es)

module _ (own peer : ℕ) (P : Work → Type 0) (h : IsStable own P) where
  pub puts_stable : (w : Work) (ms : List Message) (w' : Work) (frames : List Outgoing) → PutsEach own peer w ms w' frames → P w → P w'
  puts_stable _ _ _ _ (none_put w) is = is
  puts_stable _ _ _ _ (one_put w between last m ms first rest one others) is = puts_stable between ms last rest others (h.put w peer m between first one is)

  goes_stable : (w : Work) (m : Message) (w' : Work) (frames : List Outgoing) → GoesBack own w m w' frames → P w → P w'
  goes_stable w m w' frames goes is = by (comes_home (addr_of_word own) m) refl
    where
      by : (home : Bool) → comes_home (addr_of_word own) m ≡ home → P w'
      by true here = subst P (sym (goes.home here).0) (h.fate w m (fate_of w false m) is)
      by false there = h.put w _ m w' frames (goes.away there) is

  follows_stable : (w : Work) (m : Message) (f : Fate) (w' : Work) (frames : List Outgoing) → Follows own w m f w' frames → P w → P w'
  follows_stable w m (Queued ports) w' frames k is = subst P (sym k.0) (h.fate w m (Queued ports) is)
  follows_stable w m (Returned back) w' frames k is = goes_stable (fated w m (Returned back)) back w' frames k (h.fate w m (Returned back) is)
  follows_stable w m (ReturnDropped waiting) w' frames k is = subst P (sym k.0) (h.fate w m (ReturnDropped waiting) is)
  follows_stable w m Dropped w' frames k is = subst P (sym k.0) (h.fate w m Dropped is)

  to_stable : (w : Work) (m : Option Message) (w' : Work) (frames : List Outgoing) → DeliversTo own peer w m w' frames → P w → P w'
  to_stable w None w' frames k is = subst P (sym k.0) is
  to_stable w (Some (Items withdrawal items)) w' frames k is = subst P (sym k.0) (h.note w (learnt_entries (node_word peer) w.sockets.names (Items withdrawal items)) is)
  to_stable w (Some (Payload importance form from to kind lower upper code droppable body)) w' frames k is =
      follows_stable w (Payload importance form from to kind lower upper code droppable body) _ w' frames k is

  pub delivers_stable : (w : Work) (d : Delivery) (w' : Work) (frames : List Outgoing) → Delivers own peer w d w' frames → P w → P w'
  delivers_stable w d w' frames k is = to_stable (noted w (d.entry ∷ [])) d.message w' frames k (h.note w (d.entry ∷ []) is)

  pub all_stable : (w : Work) (ds : List Delivery) (w' : Work) (frames : List Outgoing) → DeliversAll own peer w ds w' frames → P w → P w'
  all_stable _ _ _ _ (none_left w) is = is
  all_stable _ _ _ _ (one_more w between last d ds first rest one others) is = all_stable between ds last rest others (delivers_stable w d between first one is)

-- ---- a neighbour stays one

-- whether node k is a neighbour
abbrev pub is_there : ℕ → List (Option Neighbour) → Bool
is_there k xs = is_some (slice_index_or xs k None)

pub set_there : (xs : List (Option Neighbour)) (i k : ℕ) (y : Neighbour) → is_there k xs ≡ true → is_there k (slice_set xs i (Some y)) ≡ true
set_there [] i k y there = there
set_there (x ∷ xs) zero zero y there = refl
set_there (x ∷ xs) zero (suc k) y there = there
set_there (x ∷ xs) (suc i) zero y there = there
set_there (x ∷ xs) (suc i) (suc k) y there = set_there xs i k y there

pub there_stable : (own k : ℕ) → IsStable own (λ w. is_there k w.neighbours ≡ true)
there_stable own k = record {
  put = λ w peer m w' frames h is. ap (λ (u : Work). is_there k u.neighbours) h.after ∙ set_there w.neighbours peer k h.then is;
  fate = λ w m f is. is;
  note = λ w es is. is;
}

-- ---- the sockets are of the same node and have the same ports

pub ports_stable : (own : ℕ) (s : SocketTable) → IsStable own (λ w. IsSameNode s w.sockets)
ports_stable own s = record {
  put = λ w peer m w' frames h is. subst (λ (u : Work). IsSameNode s u.sockets) (sym h.after) is;
  fate = λ w m f is. (let same = fate_same w.sockets m f in record { own = same.0 ∙ is.own; ports = same.1 ∙ is.ports });
  note = λ w es is. (let same = same_folded w.sockets es in record { own = same.own ∙ is.own; ports = same.ports ∙ is.ports });
}

-- a neighbour stays one while it is greeted and something is delivered from it
pub still_there : (own peer : ℕ) (w told last : Work) (ms : List Message) (ds : List Delivery) (greeting returned : List Outgoing) → is_there peer w.neighbours ≡ true → PutsEach own peer w ms told greeting
    → DeliversAll own peer told ds last returned → is_there peer last.neighbours ≡ true
still_there own peer w told last ms ds greeting returned there puts delivers =
    let P : Work → Type 0 = λ u. is_there peer u.neighbours ≡ true in
    let stable = there_stable own peer in
    all_stable own peer P stable told ds last returned delivers (puts_stable own peer P stable w ms told greeting puts there)
