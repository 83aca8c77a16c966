-- What crosses between two nodes stays so through every step of either, and through steps one after the other.
use Rattle.std.proofs.Common.{◌≡◌, ℕ, List, [], ◌++◌, length, take, refl, sym, ap, ◌∙◌, inl, inr, append_assoc, append-nil, arith}
use Rattle.std.proofs.lemmas.Bool.{cases_lt}
use Rattle.tipc_two_nodes.specs.links.Traffic.{Traffic}
use Rattle.tipc_paired.specs.Views.{IsApart, View}
use Rattle.tipc_paired.proofs.PairedLaw.{turned}
use Rattle.tipc_two_nodes.specs.Carriages.{Carriage, taken_of}
use Rattle.tipc_two_nodes.specs.Carrying.{Carries, CarriesPut, TakesOn, none_taken, taken_in_contact, with_in}
use Rattle.tipc_two_nodes.specs.Steps.{ChangedAt, Enters, Learns, Leaves, Receives, IsSendingPiece, Stays}
use Rattle.tipc_two_nodes.specs.Twins.{AreTwins, GoesOn, sends_in, takes_in}
use Rattle.tipc_two_nodes.proofs.contacts.Choosing.{on_changed, one_changed, with_one}
use Rattle.tipc_two_nodes.proofs.contacts.Entering.{enters_changed}
use Rattle.tipc_two_nodes.proofs.contacts.Hearing.{apart_same, present_known, receives_changed}
use Rattle.tipc_two_nodes.proofs.contacts.Leaving.{leaves_new, leaves_old, learns_same}
use Rattle.tipc_two_nodes.proofs.contacts.Sending.{sends_changed, sends_none}
use Rattle.tipc_two_nodes.proofs.steps.TwinSteps.{enters_twins, goes_on_twins, keeps_begun, learns_twins, leaves_twins}

-- ---- one contact

pub takes_none : (c d : Carriage) → d.traffic.put ≡ c.traffic.put → d.state.delivered ≡ c.state.delivered → TakesOn c d []
takes_none c d put delivered = record {
  put = put;
  longer = ap (λ (ds : List ℕ). take (length ds) d.traffic.put) delivered ∙ (ap (λ ps. take (length c.state.delivered) ps) put ∙ sym (append-nil (taken_of c)));
}

pub takes_same : (c d : Carriage) → d ≡ c → TakesOn c d []
takes_same c d same = takes_none c d (ap (λ (e : Carriage). e.traffic.put) same) (ap (λ (e : Carriage). e.state.delivered) same)

pub takes_then : (c d e : Carriage) (t u : List (List ℕ)) → TakesOn c d t → TakesOn d e u → TakesOn c e (t ++ u)
takes_then c d e t u f s = record {
  put = s.put ∙ f.put;
  longer = s.longer ∙ (ap (λ ps. ps ++ u) f.longer ∙ append_assoc (taken_of c) t u);
}

-- what is kept by contact is this in one of them
pub in_changed : {A : Type 0} (f : ℕ → ℕ → A) (own theirs : ℕ) (c : A) → ChangedAt f (with_in f own theirs c) own theirs c
unfolding with_one
in_changed f own theirs c = one_changed f own theirs c

-- these packets are those of one contact
pub taken_changed : (own theirs : ℕ) (packets : List (List ℕ)) → ChangedAt none_taken (taken_in_contact own theirs packets) own theirs packets
taken_changed own theirs packets = in_changed none_taken own theirs packets

-- ---- every contact

-- one step and then another
pub carries_then : (x x' x'' y : View) (h : AreTwins x y) (k : AreTwins x' y) (l : AreTwins x'' y) (t u : ℕ → ℕ → List (List ℕ)) → Carries x x' y h k t → Carries x' x'' y k l u → Carries x x'' y h l (λ own theirs. t own theirs ++ u own theirs)
carries_then x x' x'' y h k l t u f s = record {
  later = (let one = f.later in let two = s.later in omega arith);
  sends = λ own theirs. elim (s.sends own theirs) [
    | inl on ↦ elim (f.sends own theirs) [
      | inl was ↦ inl (takes_then _ _ _ [] [] was on)
      | inr new ↦ inr (new.0, on.put ∙ new.1)
    ]
    | inr new ↦ inr ((let one = f.later in let two = new.0 in omega arith), new.1)
  ];
  receives = λ own theirs. takes_then _ _ _ (t own theirs) (u own theirs) (f.receives own theirs) (s.receives own theirs);
}

-- ---- x goes on in its contacts

pub goes_on_carries : (x x' y : View) (t : Traffic) (h : AreTwins x y) (m : GoesOn x x' y) (stays : Stays x x' y h.here) (sends : IsSendingPiece x x' (sends_in x y h) t) (receives : Receives x x' (takes_in x y h)) (packets : List (List ℕ)) → t.put ≡ (sends_in x y h).traffic.put
    → taken_of (record { traffic = (takes_in x y h).traffic; state = receives.state }) ≡ taken_of (takes_in x y h) ++ packets → Carries x x' y h (goes_on_twins x x' y t h m stays sends receives) (taken_in_contact x.node.contact x.node.seen packets)
unfolding goes_on_twins
goes_on_carries x x' y t h m stays sends receives packets put longer =
    let f = h.sends.carriage in
    let j = h.receives.carriage in
    let own = x.node.contact in
    let theirs = x.node.seen in
    let taken = taken_changed own theirs packets in
    record {
      later = m.tells.contact;
      sends = λ own theirs. inl (on_changed f _ x.node.contact x.node.seen _ (λ i k d. TakesOn (f i k) d []) (sends_changed x x' y h.here t h.sends (keeps_begun x x' y h m stays) sends) (takes_none _ _ put (sends_none x x' (sends_in x y h) t sends)) (λ i k differ. takes_same _ _ refl) own theirs);
      receives = λ own theirs. on_changed j _ x.node.seen x.node.contact _ (λ i k d. TakesOn (j i k) d (taken_in_contact x.node.contact x.node.seen packets k i)) (receives_changed y x x' h.there h.here (turned x y h.paired) h.numbers_there h.numbers_here h.receives receives)
          (record { put = refl; longer = longer ∙ ap (λ ps. taken_of (takes_in x y h) ++ ps) (sym taken.here) })
          (λ i k differ. record { put = refl; longer = sym (append-nil (taken_of (j i k))) ∙ ap (λ ps. taken_of (j i k) ++ ps) (sym (taken.others k i (λ one two. differ two one))) })
          theirs own;
    }

-- and takes nothing
pub goes_on_same : (x x' y : View) (t : Traffic) (h : AreTwins x y) (m : GoesOn x x' y) (stays : Stays x x' y h.here) (sends : IsSendingPiece x x' (sends_in x y h) t) (receives : Receives x x' (takes_in x y h)) → t.put ≡ (sends_in x y h).traffic.put
    → receives.state.delivered ≡ (takes_in x y h).state.delivered → Carries x x' y h (goes_on_twins x x' y t h m stays sends receives) none_taken
unfolding goes_on_twins
goes_on_same x x' y t h m stays sends receives put same =
    let f = h.sends.carriage in
    let j = h.receives.carriage in
    record {
      later = m.tells.contact;
      sends = λ own theirs. inl (on_changed f _ x.node.contact x.node.seen _ (λ i k d. TakesOn (f i k) d []) (sends_changed x x' y h.here t h.sends (keeps_begun x x' y h m stays) sends) (takes_none _ _ put (sends_none x x' (sends_in x y h) t sends)) (λ i k differ. takes_same _ _ refl) own theirs);
      receives = λ own theirs. on_changed j _ x.node.seen x.node.contact _ (λ i k d. TakesOn (j i k) d []) (receives_changed y x x' h.there h.here (turned x y h.paired) h.numbers_there h.numbers_here h.receives receives) (takes_none _ _ refl same) (λ i k differ. takes_same _ _ refl) theirs own;
    }

-- or something was put
pub goes_on_puts : (x x' y : View) (t : Traffic) (h : AreTwins x y) (m : GoesOn x x' y) (stays : Stays x x' y h.here) (sends : IsSendingPiece x x' (sends_in x y h) t) (receives : Receives x x' (takes_in x y h))
    → receives.state.delivered ≡ (takes_in x y h).state.delivered → CarriesPut x x' y h (goes_on_twins x x' y t h m stays sends receives) t.put
unfolding goes_on_twins
goes_on_puts x x' y t h m stays sends receives same =
    let j = h.receives.carriage in
    let changed = sends_changed x x' y h.here t h.sends (keeps_begun x x' y h m stays) sends in
    record {
      node = sends.node;
      put_is = ap (λ (c : Carriage). c.traffic.put) changed.here;
      delivered = ap (λ (c : Carriage). c.state.delivered) changed.here ∙ sends_none x x' (sends_in x y h) t sends;
      others = changed.others;
      receives = λ own theirs. on_changed j _ x.node.seen x.node.contact _ (λ i k d. TakesOn (j i k) d []) (receives_changed y x x' h.there h.here (turned x y h.paired) h.numbers_there h.numbers_here h.receives receives) (takes_none _ _ refl same) (λ i k differ. takes_same _ _ refl) theirs own;
    }

-- a contact of x begins
pub enters_carries : (x x' y : View) (t : Traffic) (h : AreTwins x y) (m : GoesOn x x' y) (stays : Stays x x' y h.here) (sends : IsSendingPiece x x' (sends_in x y h) t) (enters : Enters y x x') → t.put ≡ (sends_in x y h).traffic.put → Carries x x' y h (enters_twins x x' y t h m stays sends enters) none_taken
unfolding enters_twins
enters_carries x x' y t h m stays sends enters put =
    let f = h.sends.carriage in
    let j = h.receives.carriage in
    let into = enters_changed y x x' h.there h.here (turned x y h.paired) h.numbers_there h.numbers_here h.recorded_here enters h.receives in
    record {
      later = m.tells.contact;
      sends = λ own theirs. inl (on_changed f _ x.node.contact x.node.seen _ (λ i k d. TakesOn (f i k) d []) (sends_changed x x' y h.here t h.sends (keeps_begun x x' y h m stays) sends) (takes_none _ _ put (sends_none x x' (sends_in x y h) t sends)) (λ i k differ. takes_same _ _ refl) own theirs);
      receives = λ own theirs. on_changed j _ x.node.seen x.node.contact _ (λ i k d. TakesOn (j i k) d []) into.changed (takes_none _ _ refl into.delivered) (λ i k differ. takes_same _ _ refl) theirs own;
    }

-- x leaves its contact, or restarts
pub leaves_carries : (x x' y : View) (h : AreTwins x y) (m : GoesOn x x' y) (leaves : Leaves x x') (apart : IsApart x') → Carries x x' y h (leaves_twins x x' y h m leaves apart) none_taken
unfolding leaves_twins
leaves_carries x x' y h m leaves apart =
    let known = present_known x y h.here h.there h.paired h.numbers_here h.numbers_there in
    record {
      later = m.tells.contact;
      sends = λ own theirs. elim (cases_lt x.node.contact own) [
        | inl later ↦ inr (later, ap (λ (c : Carriage). c.traffic.put) (leaves_new x x' y h.here h.numbers_here known leaves h.sends own theirs later))
        | inr low ↦ inl (takes_same _ _ (leaves_old x x' y h.here h.numbers_here known leaves h.sends own theirs low))
      ];
      receives = λ own theirs. takes_same _ _ (ap (λ (f : ℕ → ℕ → Carriage). f theirs own) (apart_same y x x' h.there apart m.begun leaves.rests.got h.receives));
    }

-- x learns a higher number of its peer
pub learns_carries : (x x' y : View) (h : AreTwins x y) (m : GoesOn x x' y) (learns : Learns x x') (apart : IsApart x') → Carries x x' y h (learns_twins x x' y h m learns apart) none_taken
unfolding learns_twins
learns_carries x x' y h m learns apart = record {
  later = m.tells.contact;
  sends = λ own theirs. inl (takes_same _ _ (ap (λ (f : ℕ → ℕ → Carriage). f own theirs) (learns_same x x' y h.here learns h.sends)));
  receives = λ own theirs. takes_same _ _ (ap (λ (f : ℕ → ℕ → Carriage). f theirs own) (apart_same y x x' h.there apart m.begun learns.rests.got h.receives));
}
