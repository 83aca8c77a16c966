-- A node gets another contact number, its own or the peer's, while no link is up: what it sends in the new contact
-- begins with nothing, and all other contacts are as they were.
use Rattle.std.proofs.Common.{◌≡◌, ◌<◌, ◌≤◌, nat_lt, ℕ, true, false, Option, Some, None, if◌then◌else◌, refl, sym, ap, ◌∙◌, subst, inl, inr, arith}
use Rattle.std.specs.Prelude.{slice_get}
use Rattle.std.proofs.lemmas.Bool.{cases_lt}
use Rattle.std.proofs.lemmas.Bool.Decides.{nat_tests}
use Rattle.tipc_link.specs.Links.{LinkEnd}
use Rattle.tipc_changeover.specs.Links.{First, Sender}
use Rattle.tipc_changeover.specs.Reached.{at_begin, unused}
use Rattle.tipc_two_nodes.specs.links.Sending.{StandFor, end_seen}
use Rattle.tipc_two_nodes.specs.links.Traffic.{Lines}
use Rattle.tipc_paired.specs.Views.{Begun, View, epoch_in, epoch_on}
use Rattle.tipc_two_nodes.specs.Carriages.{AreCounted, AreSessions, Carriage, IsPresent, IsSent, IsTaken, Numbers, ends_in, outset}
use Rattle.tipc_two_nodes.specs.Numbers.{AreNumbers}
use Rattle.tipc_two_nodes.specs.Steps.{Learns, Leaves, Rests, numbers_met, numbers_with}
use Rattle.tipc_two_nodes.specs.Twins.{Crosses}
use Rattle.tipc_two_nodes.proofs.contacts.Counting.{counted_new, counted_rests}
use Rattle.tipc_two_nodes.proofs.contacts.Outset.{none_had, outset_lines, outset_stands}

-- ---- views

seen_epoch : (contact : ℕ) (o : Option LinkEnd) → (end_seen contact o).epoch ≡ epoch_in contact o
seen_epoch contact None = refl
seen_epoch contact (Some e) = refl

-- the epoch of an end is that of its wire
pub epoch_seen : (x : View) (b : ℕ) → (end_seen x.node.contact (x.wires b).end).epoch ≡ epoch_on x.node (x.wires b)
unfolding epoch_on
epoch_seen x b = seen_epoch x.node.contact (x.wires b).end

pub above : {A : Type 0} (x : View) (own : ℕ) (c d : A) → x.node.contact < own → (if nat_lt x.node.contact own then c else d) ≡ c
above x own c d later = (let test : nat_lt x.node.contact own ≡ true = grind (arith, nat_tests) in rw test refl)

pub not_above : {A : Type 0} (x : View) (own : ℕ) (c d : A) → own ≤ x.node.contact → (if nat_lt x.node.contact own then c else d) ≡ d
not_above x own c d low = (let test : nat_lt x.node.contact own ≡ false = grind (arith, nat_tests) in rw test refl)

pub began_before : (x x' : View) (b epoch : ℕ) (g : Begun) → Rests x x' → (x'.wires b).begun epoch ≡ Some g → (x.wires b).begun epoch ≡ Some g
began_before x x' b epoch g q is = sym (q.begun b epoch) ∙ is

sessions_rest : (x x' : View) (own theirs b : ℕ) (l : Lines) (z : Sender) → Rests x x' → AreSessions x own theirs b l z → AreSessions x' own theirs b l z
sessions_rest x x' own theirs b l z q h = record {
  began = λ epoch low had. (let k = h.began epoch low had in (k.0, q.begun b epoch ∙ k.1, k.2, k.3));
  lines = λ epoch g is with_own with_theirs. (let k = h.lines epoch g (began_before x x' b epoch g q is) with_own with_theirs in (k.0, k.1 ∙ sym (q.line b epoch)));
  shown = λ k f there. h.shown k f (subst (λ fs. slice_get fs k ≡ Some f) q.told there);
}

-- the outset of the epochs that the ends have
abbrev pub outset_of : View → Carriage
outset_of x = outset (epoch_on x.node (x.wires 0)) (epoch_on x.node (x.wires 1))

outset_now : (x x' : View) → Rests x x' → StandFor First (ends_in x') (outset_of x').traffic (outset_of x').state
outset_now x x' q = outset_stands x' (epoch_on x'.node (x'.wires 0)) (epoch_on x'.node (x'.wires 1)) (epoch_seen x' 0) q.near (epoch_seen x' 1) q.far

-- ---- another contact number of its own

-- nothing began or was told under a new number
sessions_new : (x x' y : View) (n : Numbers) (own theirs b : ℕ) (l : Lines) → AreNumbers x y n → Leaves x x' → x.node.contact < own → AreSessions x' own theirs b l unused
sessions_new x x' y n own theirs b l h m later = record {
  began = λ epoch low had. absurd (none_had l epoch low had);
  lines = λ epoch g is with_own with_theirs. absurd (elim (h.entered b epoch g (began_before x x' b epoch g m.rests is)) [
    | inl before ↦ (let wrong : ⊥ = omega arith in wrong)
    | inr now ↦ (let same = now.0 in let wrong : ⊥ = omega arith in wrong)
  ]);
  shown = λ k f there bearer with_own with_theirs. absurd (let few = (h.frames k f (subst (λ fs. slice_get fs k ≡ Some f) m.rests.told there)).own in let wrong : ⊥ = omega arith in wrong);
}

sent_new : (x x' y : View) (n : Numbers) (own theirs : ℕ) → AreNumbers x y n → Leaves x x' → x.node.contact < own → IsSent x' (numbers_with n x x') own theirs (outset_of x')
sent_new x x' y n own theirs h m later = record {
  reached = at_begin;
  lines = outset_lines (epoch_on x'.node (x'.wires 0)) (epoch_on x'.node (x'.wires 1));
  near_first = sym (above x own (epoch_on x'.node (x'.wires 0)) (n.first 0 own) later);
  far_first = sym (above x own (epoch_on x'.node (x'.wires 1)) (n.first 1 own) later);
  near = sessions_new x x' y n own theirs 0 _ h m later;
  far = sessions_new x x' y n own theirs 1 _ h m later;
  now = λ here with_theirs. outset_now x x' m.rests;
  ahead = λ here apart higher. refl;
}

sent_before : (x x' : View) (n : Numbers) (own theirs : ℕ) (c : Carriage) → Leaves x x' → own ≤ x.node.contact → IsSent x n own theirs c → IsSent x' (numbers_with n x x') own theirs c
sent_before x x' n own theirs c m low h =
    let later = m.later in
    let differ = λ (here : x'.node.contact ≡ own). (let wrong : ⊥ = omega arith in wrong) in
    record {
      reached = h.reached;
      lines = h.lines;
      near_first = h.near_first ∙ sym (not_above x own (epoch_on x'.node (x'.wires 0)) (n.first 0 own) low);
      far_first = h.far_first ∙ sym (not_above x own (epoch_on x'.node (x'.wires 1)) (n.first 1 own) low);
      near = sessions_rest x x' own theirs 0 c.traffic.near c.state.near m.rests h.near;
      far = sessions_rest x x' own theirs 1 c.traffic.far c.state.far m.rests h.far;
      now = λ here with_theirs. absurd (differ here);
      ahead = λ here apart higher. absurd (differ here);
    }

carriage_with : (ℕ → ℕ → Carriage) → View → View → ℕ → ℕ → Carriage
carriage_with f x x' own theirs = if nat_lt x.node.contact own then outset_of x' else f own theirs

-- what holds of the outset under new numbers, and of the old ones under others, holds in each contact
on_left : (f : ℕ → ℕ → Carriage) (x x' : View) (P : ℕ → ℕ → Carriage → Type 0) → ((own theirs : ℕ) → x.node.contact < own → P own theirs (outset_of x')) → ((own theirs : ℕ) → own ≤ x.node.contact → P own theirs (f own theirs))
    → (own theirs : ℕ) → P own theirs (carriage_with f x x' own theirs)
unfolding carriage_with
on_left f x x' P new old own theirs = elim (cases_lt x.node.contact own) [
  | inl later ↦ subst (P own theirs) (sym (above x own (outset_of x') (f own theirs) later)) (new own theirs later)
  | inr low ↦ subst (P own theirs) (sym (not_above x own (outset_of x') (f own theirs) low)) (old own theirs low)
]

-- the receiver took nothing in a contact whose number it hasn't seen
taken_new : (x x' y : View) (own theirs : ℕ) → ((own theirs : ℕ) → IsPresent y theirs own → own ≤ x.node.contact) → x.node.contact < own → IsTaken y theirs own (outset_of x')
taken_new x x' y own theirs known later =
    let none = λ (here : IsPresent y theirs own). (let few = known own theirs here in let wrong : ⊥ = omega arith in wrong) in
    record {
      near = λ here. absurd (none here);
      far = λ here. absurd (none here);
      none = λ ahead. record { near = refl; far = refl; delivered = refl };
    }

pub leaves_crosses : (x x' y : View) (n : Numbers) → AreNumbers x y n → ((own theirs : ℕ) → IsPresent y theirs own → own ≤ x.node.contact) → Leaves x x' → Crosses x y n → Crosses x' y (numbers_with n x x')
leaves_crosses x x' y n h known m k = record {
  carriage = carriage_with k.carriage x x';
  sent = on_left k.carriage x x' (λ own theirs c. IsSent x' (numbers_with n x x') own theirs c) (λ own theirs later. sent_new x x' y n own theirs h m later) (λ own theirs low. sent_before x x' n own theirs (k.carriage own theirs) m low (k.sent own theirs));
  taken = on_left k.carriage x x' (λ own theirs c. IsTaken y theirs own c) (λ own theirs later. taken_new x x' y own theirs known later) (λ own theirs low. k.taken own theirs);
  counted = on_left k.carriage x x' (λ own theirs c. AreCounted x' y own theirs c) (λ own theirs later. counted_new x x' y n own theirs (outset_of x') h m.rests later)
      (λ own theirs low. counted_rests x x' y own theirs (k.carriage own theirs) m.rests (k.counted own theirs));
}

pub leaves_new : (x x' y : View) (n : Numbers) (h : AreNumbers x y n) (known : (own theirs : ℕ) → IsPresent y theirs own → own ≤ x.node.contact) (m : Leaves x x') (k : Crosses x y n) (own theirs : ℕ) → x.node.contact < own
    → (leaves_crosses x x' y n h known m k).carriage own theirs ≡ outset_of x'
unfolding leaves_crosses carriage_with
leaves_new x x' y n h known m k own theirs later = above x own (outset_of x') (k.carriage own theirs) later

pub leaves_old : (x x' y : View) (n : Numbers) (h : AreNumbers x y n) (known : (own theirs : ℕ) → IsPresent y theirs own → own ≤ x.node.contact) (m : Leaves x x') (k : Crosses x y n) (own theirs : ℕ) → own ≤ x.node.contact
    → (leaves_crosses x x' y n h known m k).carriage own theirs ≡ k.carriage own theirs
unfolding leaves_crosses carriage_with
leaves_old x x' y n h known m k own theirs low = not_above x own (outset_of x') (k.carriage own theirs) low

-- ---- a higher number of the peer

same_outset : (x x' : View) → ((b : ℕ) → epoch_on x'.node (x'.wires b) ≡ epoch_on x.node (x.wires b)) → outset_of x' ≡ outset_of x
same_outset x x' same = ap (λ e. outset e (epoch_on x'.node (x'.wires 1))) (same 0) ∙ ap (outset (epoch_on x.node (x.wires 0))) (same 1)

sent_learned : (x x' : View) (n : Numbers) (own theirs : ℕ) (c : Carriage) → Learns x x' → IsSent x n own theirs c → IsSent x' (numbers_met n x') own theirs c
sent_learned x x' n own theirs c m h =
    let higher = m.higher in
    record {
      reached = h.reached;
      lines = h.lines;
      near_first = h.near_first;
      far_first = h.far_first;
      near = sessions_rest x x' own theirs 0 c.traffic.near c.state.near m.rests h.near;
      far = sessions_rest x x' own theirs 1 c.traffic.far c.state.far m.rests h.far;
      now = λ here with_theirs. (
          let is = h.ahead (sym m.own ∙ here) m.apart (omega arith) in
          subst (λ (d : Carriage). StandFor First (ends_in x') d.traffic d.state) (same_outset x x' m.epochs ∙ sym is) (outset_now x x' m.rests));
      ahead = λ here apart more. h.ahead (sym m.own ∙ here) m.apart (omega arith) ∙ sym (same_outset x x' m.epochs);
    }

pub learns_crosses : (x x' y : View) (n : Numbers) → Learns x x' → Crosses x y n → Crosses x' y (numbers_met n x')
learns_crosses x x' y n m k = record {
  carriage = k.carriage;
  sent = λ own theirs. sent_learned x x' n own theirs (k.carriage own theirs) m (k.sent own theirs);
  taken = k.taken;
  counted = λ own theirs. counted_rests x x' y own theirs (k.carriage own theirs) m.rests (k.counted own theirs);
}

pub learns_same : (x x' y : View) (n : Numbers) (m : Learns x x') (k : Crosses x y n) → (learns_crosses x x' y n m k).carriage ≡ k.carriage
unfolding learns_crosses
learns_same x x' y n m k = refl
