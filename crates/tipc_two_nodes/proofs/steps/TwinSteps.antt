-- Two nodes stay what they are to each other, whatever step either takes.
use Rattle.std.proofs.Common.{◌≡◌, ℕ, [], Some, None, refl, sym, ap, ◌∙◌, inl, arith}
use Rattle.std.specs.Prelude.{slice_get}
use Rattle.tipc_changeover.specs.Reached.{at_begin}
use Rattle.tipc_two_nodes.specs.links.Sending.{end_seen}
use Rattle.tipc_two_nodes.specs.links.Receiving.{record_at}
use Rattle.tipc_two_nodes.specs.links.Traffic.{Traffic}
use Rattle.tipc_changeover.specs.Links.{Reset}
use Rattle.tipc_paired.proofs.PairedLaw.{start, turned}
use Rattle.tipc_paired.proofs.wires.Wires.{epoch_of_none, none_some}
use Rattle.tipc_paired.specs.Paired.{IsNew}
use Rattle.tipc_paired.specs.Views.{Begun, Frame, IsApart, View, Wire, epoch_on}
use Rattle.tipc_two_nodes.specs.Carriages.{IsSent, Numbers, outset, unsent}
use Rattle.tipc_two_nodes.specs.Numbers.{AreNumbers, AreRecorded}
use Rattle.tipc_two_nodes.specs.Steps.{Enters, Learns, Leaves, Receives, IsSendingPiece, Stays, numbers_met, numbers_with}
use Rattle.tipc_two_nodes.specs.Twins.{AreTwins, Crosses, GoesOn, sends_in, takes_in}
use Rattle.tipc_two_nodes.proofs.calls.HadSessions.{KeepsBegun}
use Rattle.tipc_two_nodes.proofs.steps.ContactSteps.{leaves_rise, none_above}
use Rattle.tipc_two_nodes.proofs.contacts.Entering.{enters_taken}
use Rattle.tipc_two_nodes.proofs.contacts.Hearing.{apart_crosses, present_known, receives_crosses}
use Rattle.tipc_two_nodes.proofs.contacts.Leaving.{epoch_seen, learns_crosses, leaves_crosses}
use Rattle.tipc_two_nodes.proofs.contacts.Numbered.{numbers_beside, numbers_learn, numbers_leave, numbers_stay}
use Rattle.tipc_two_nodes.proofs.contacts.Outset.{none_had, outset_lines, outset_stands}
use Rattle.tipc_two_nodes.proofs.contacts.Recorded.{recorded_beside}
use Rattle.tipc_two_nodes.proofs.contacts.Sending.{sends_crosses}
use Rattle.tipc_two_nodes.proofs.contacts.Stale.{apart_absent}

unfoldable pub twins_turned : (x y : View) → AreTwins x y → AreTwins y x
twins_turned x y h = record {
  paired = turned x y h.paired;
  here = h.there;
  there = h.here;
  numbers_here = h.numbers_there;
  numbers_there = h.numbers_here;
  recorded_here = h.recorded_there;
  recorded_there = h.recorded_here;
  sends = h.receives;
  receives = h.sends;
}

pub keeps_begun : (x x' y : View) (h : AreTwins x y) → GoesOn x x' y → Stays x x' y h.here → KeepsBegun x x' y h.here
keeps_begun x x' y h m stays = record { paired = h.paired; paired_then = m.paired; are = numbers_stay x x' y h.here h.numbers_here stays; begun = m.begun }

-- x goes on in its contacts: it sends, or takes, or neither
unfoldable pub goes_on_twins : (x x' y : View) (t : Traffic) (h : AreTwins x y) → GoesOn x x' y → Stays x x' y h.here → IsSendingPiece x x' (sends_in x y h) t → Receives x x' (takes_in x y h) → AreTwins x' y
goes_on_twins x x' y t h m stays sends receives = record {
  paired = m.paired;
  here = h.here;
  there = h.there;
  numbers_here = numbers_stay x x' y h.here h.numbers_here stays;
  numbers_there = numbers_beside y x x' h.there h.numbers_there m.tells;
  recorded_here = m.recorded;
  recorded_there = recorded_beside y x x' h.recorded_there m.tells m.begun;
  sends = sends_crosses x x' y h.here t h.sends (keeps_begun x x' y h m stays) sends;
  receives = receives_crosses y x x' h.there h.here (turned x y h.paired) h.numbers_there h.numbers_here h.receives receives;
}

-- a contact of x begins
unfoldable pub enters_twins : (x x' y : View) (t : Traffic) (h : AreTwins x y) → GoesOn x x' y → Stays x x' y h.here → IsSendingPiece x x' (sends_in x y h) t → Enters y x x' → AreTwins x' y
enters_twins x x' y t h m stays sends enters = record {
  paired = m.paired;
  here = h.here;
  there = h.there;
  numbers_here = numbers_stay x x' y h.here h.numbers_here stays;
  numbers_there = numbers_beside y x x' h.there h.numbers_there m.tells;
  recorded_here = m.recorded;
  recorded_there = recorded_beside y x x' h.recorded_there m.tells m.begun;
  sends = sends_crosses x x' y h.here t h.sends (keeps_begun x x' y h m stays) sends;
  receives = enters_taken y x x' h.there h.here (turned x y h.paired) h.numbers_there h.numbers_here h.recorded_here enters h.receives;
}

-- x leaves its contact, or restarts
unfoldable pub leaves_twins : (x x' y : View) → AreTwins x y → GoesOn x x' y → Leaves x x' → IsApart x' → AreTwins x' y
leaves_twins x x' y h m leaves apart = record {
  paired = m.paired;
  here = numbers_with h.here x x';
  there = h.there;
  numbers_here = numbers_leave x x' y h.here h.numbers_here leaves (leaves_rise x x' y h.here m.paired h.numbers_here leaves);
  numbers_there = numbers_beside y x x' h.there h.numbers_there m.tells;
  recorded_here = m.recorded;
  recorded_there = recorded_beside y x x' h.recorded_there m.tells m.begun;
  sends = leaves_crosses x x' y h.here h.numbers_here (present_known x y h.here h.there h.paired h.numbers_here h.numbers_there) leaves h.sends;
  receives = apart_crosses y x x' h.there apart m.begun leaves.rests.got h.receives;
}

-- x learns a higher number of its peer
unfoldable pub learns_twins : (x x' y : View) → AreTwins x y → GoesOn x x' y → Learns x x' → IsApart x' → AreTwins x' y
learns_twins x x' y h m learns apart = record {
  paired = m.paired;
  here = numbers_met h.here x';
  there = h.there;
  numbers_here = numbers_learn x x' y h.here h.numbers_here (none_above x y h.paired) learns;
  numbers_there = numbers_beside y x x' h.there h.numbers_there m.tells;
  recorded_here = m.recorded;
  recorded_there = recorded_beside y x x' h.recorded_there m.tells m.begun;
  sends = learns_crosses x x' y h.here learns h.sends;
  receives = apart_crosses y x x' h.there apart m.begun learns.rests.got h.receives;
}

-- ---- the beginning

new_none : (x : View) (b : ℕ) → IsNew x → (x.wires b).end ≡ None
new_none x b h = ap (λ (w : Wire). w.end) (h.wires b)

new_epoch : (x : View) (b : ℕ) → IsNew x → epoch_on x.node (x.wires b) ≡ x.node.contact
new_epoch x b h = epoch_of_none x.node (x.wires b) (new_none x b h)

nothing_begun : (x : View) (b epoch : ℕ) (g : Begun) → IsNew x → (x.wires b).begun epoch ≡ Some g → ⊥
nothing_begun x b epoch g h is = none_some g _ (ap (λ (w : Wire). w.begun epoch) (h.wires b)) is

nothing_told : (x : View) (k : ℕ) (f : Frame) → IsNew x → slice_get x.told k ≡ Some f → ⊥
nothing_told x k f h there = (let none : slice_get x.told k ≡ None = ap (λ fs. slice_get fs k) h.told in none_some f _ none there)

abbrev new_numbers : View → Numbers
new_numbers x = record { first = λ b own. x.node.contact; met = λ own. x.node.seen }

new_are_numbers : (x y : View) → IsNew x → AreNumbers x y (new_numbers x)
new_are_numbers x y h = record {
  now = refl;
  apart = λ apart b. new_epoch x b h;
  onward = λ b. (let same = new_epoch x b h in omega arith);
  each = λ b epoch low before. absurd (let same = new_epoch x b h in let wrong : ⊥ = omega arith in wrong);
  alone = λ b. inl (let same = new_epoch x b h in omega arith);
  entered = λ b epoch g is. absurd (nothing_begun x b epoch g h is);
  highest = λ b epoch g is. absurd (nothing_begun x b epoch g h is);
  heard = λ b epoch g is. absurd (nothing_begun x b epoch g h is);
  frames = λ k f there. absurd (nothing_told x k f h there);
}

new_recorded : (x y : View) → IsNew x → AreRecorded x y
new_recorded x y h b a is = absurd (let none : record_at (x.wires b).end ≡ None = ap record_at (new_none x b h) in none_some a _ none is)

new_reset : (x : View) (b : ℕ) → IsNew x → (end_seen x.node.contact (x.wires b).end).state ≡ Reset
new_reset x b h = ap (λ o. (end_seen x.node.contact o).state) (new_none x b h)

new_sent : (x : View) (own theirs : ℕ) → IsNew x → IsSent x (new_numbers x) own theirs (outset x.node.contact x.node.contact)
new_sent x own theirs h = record {
  reached = at_begin;
  lines = outset_lines x.node.contact x.node.contact;
  near_first = refl;
  far_first = refl;
  near = record { began = λ epoch low had. absurd (none_had (unsent x.node.contact) epoch low had); lines = λ epoch g is with_own with_theirs. absurd (nothing_begun x 0 epoch g h is); shown = λ k f there bearer with_own with_theirs. absurd (nothing_told x k f h there) };
  far = record { began = λ epoch low had. absurd (none_had (unsent x.node.contact) epoch low had); lines = λ epoch g is with_own with_theirs. absurd (nothing_begun x 1 epoch g h is); shown = λ k f there bearer with_own with_theirs. absurd (nothing_told x k f h there) };
  now = λ here seen. outset_stands x x.node.contact x.node.contact (epoch_seen x 0 ∙ new_epoch x 0 h) (new_reset x 0 h) (epoch_seen x 1 ∙ new_epoch x 1 h) (new_reset x 1 h);
  ahead = λ here apart higher. ap (λ e. outset e x.node.contact) (sym (new_epoch x 0 h)) ∙ ap (outset (epoch_on x.node (x.wires 0))) (sym (new_epoch x 1 h));
}

pub new_apart : (x : View) → IsNew x → IsApart x
new_apart x h b e is = absurd (none_some e _ (new_none x b h) is)

new_crosses : (x y : View) → IsNew x → IsNew y → Crosses x y (new_numbers x)
new_crosses x y h k = record {
  carriage = λ own theirs. outset x.node.contact x.node.contact;
  sent = λ own theirs. new_sent x own theirs h;
  taken = λ own theirs. record {
    near = λ here. absurd (apart_absent y theirs own (new_apart y k) here);
    far = λ here. absurd (apart_absent y theirs own (new_apart y k) here);
    none = λ ahead. record { near = refl; far = refl; delivered = refl };
  };
  counted = λ own theirs. record {
    near = λ epoch began. absurd (nothing_begun x 0 epoch began.0 h began.1);
    far = λ epoch began. absurd (nothing_begun x 1 epoch began.0 h began.1);
  };
}

pub start_twins : (x y : View) → IsNew x → IsNew y → AreTwins x y
start_twins x y h k = record {
  paired = start x y h k;
  here = new_numbers x;
  there = new_numbers y;
  numbers_here = new_are_numbers x y h;
  numbers_there = new_are_numbers y x k;
  recorded_here = new_recorded x y h;
  recorded_there = new_recorded y x k;
  sends = new_crosses x y h k;
  receives = new_crosses y x k h;
}

-- nothing was put yet
pub start_empty : (x y : View) (h : IsNew x) (k : IsNew y) (own theirs : ℕ) → (((start_twins x y h k).sends.carriage own theirs).traffic.put ≡ []) × (((start_twins x y h k).receives.carriage own theirs).traffic.put ≡ [])
unfolding start_twins new_crosses
start_empty x y h k own theirs = (refl, refl)
