-- The messages between two nodes while one of them goes on, by what becomes of what crosses.
use Rattle.std.proofs.Common.{◌≡◌, ◌≤◌, ℕ, zero, suc, List, [], ◌++◌, length, map, take, refl, sym, ap, ◌∙◌, subst, inl, inr, append-nil, arith}
use Rattle.std.specs.Prelude.{All, ◌⊎◌}
use Rattle.std.specs.List.{flat_map}
use Rattle.tipc_types.specs.declared.packet_lists.Taken.{Taken}
use Rattle.tipc_fragments.specs.Joining.{Joining, fresh}
use Rattle.tipc_reassembly.specs.declared.opening.Opened.{Opened}
use Rattle.tipc_reassembly.specs.Opening.{BringsAll}
use Rattle.tipc_reassembly.specs.Slots.{HasOpened, IsWholePacket, packets_in, slot_items}
use Rattle.tipc_reassembly.proofs.FrontLaws.{opened_none}
use Rattle.tipc_paired.proofs.PairedLaw.{turned}
use Rattle.tipc_paired.specs.Views.{IsApart, View}
use Rattle.tipc_two_nodes.specs.Carriages.{Carriage, IsAhead, IsPresent, taken_of}
use Rattle.tipc_two_nodes.specs.Carrying.{Carries, TakesOn, taken_in_contact}
use Rattle.tipc_two_nodes.specs.Messages.{AreMessages, IsTalk, Talks}
use Rattle.tipc_two_nodes.specs.Steps.{ChangedAt}
use Rattle.tipc_two_nodes.specs.Twins.{AreTwins}
use Rattle.tipc_two_nodes.proofs.steps.Carrying.{taken_changed}
use Rattle.tipc_two_nodes.proofs.contacts.Choosing.{on_changed}
use Rattle.tipc_two_nodes.proofs.contacts.Fronts.{taken_within}
use Rattle.tipc_two_nodes.proofs.contacts.Hearing.{present_known}
use Rattle.tipc_two_nodes.proofs.contacts.Stale.{apart_absent}
use Rattle.tipc_two_nodes.proofs.messages.Talking.{gives_more, nothing_opened, taken_length}

-- ---- one contact

-- nothing more was put or taken
pub on_messages : (c d : Carriage) (put given : List (List ℕ)) (begun : Joining) → TakesOn c d [] → length c.state.delivered ≤ length c.traffic.put → length d.state.delivered ≤ length d.traffic.put → AreMessages c put given begun → AreMessages d put given begun
on_messages c d put given begun on within within' h =
    let one = taken_length c within in
    let two = taken_length d within' in
    let same : taken_of d ≡ taken_of c = on.longer ∙ append-nil (taken_of c) in
    let count : length d.state.delivered ≡ length c.state.delivered = sym two ∙ (ap (λ (ps : List (List ℕ)). length ps) same ∙ one) in
    record {
      messages = h.messages;
      slots = h.slots;
      sound = h.sound;
      bytes = h.bytes ∙ sym on.put;
      whole = h.whole;
      opened = subst (λ n. HasOpened (flat_map slot_items (take n h.slots)) given begun) (sym count) h.opened;
    }

-- nothing was put at all
pub empty_messages : (d : Carriage) (put given : List (List ℕ)) → d.traffic.put ≡ [] → put ≡ [] → given ≡ [] → AreMessages d put given fresh
empty_messages d put given none no_put no_given =
    subst (λ ms. AreMessages d ms given fresh) (sym no_put) (subst (λ ms. AreMessages d [] ms fresh) (sym no_given) (record {
      messages = λ k m there. absurd (let wrong : ⊥ = cc in wrong);
      slots = [];
      sound = λ k d within. absurd (omega arith);
      bytes = sym none;
      whole = refl;
      opened = subst (λ n. HasOpened n [] fresh) (nothing_in (length d.state.delivered)) opened_none;
    }))
  where
    nothing_in : (n : ℕ) → [] ≡ flat_map slot_items (take n [])
    nothing_in zero = refl
    nothing_in (suc n) = refl

-- ---- every contact

-- what x sends
pub sends_on_talks : (x x' y : View) (h : AreTwins x y) (k : AreTwins x' y) (taken put given : ℕ → ℕ → List (List ℕ)) (begun : Joining) → Carries x x' y h k taken → Talks x y h.sends.carriage put given begun → Talks x' y k.sends.carriage put given begun
sends_on_talks x x' y h k taken put given begun m t = record {
  each = λ own theirs. elim (m.sends own theirs) [
    | inl on ↦
        let e = t.each own theirs in
        record {
          last = e.last;
          are = on_messages _ _ (put own theirs) (given theirs own) e.last on (taken_within x h.here own theirs (h.sends.carriage own theirs) (h.sends.sent own theirs)) (taken_within x' k.here own theirs (k.sends.carriage own theirs) (k.sends.sent own theirs)) e.are;
          now = e.now;
        }
    | inr new ↦
        let none = t.none own theirs new.0 in
        record {
          last = fresh;
          are = empty_messages (k.sends.carriage own theirs) (put own theirs) (given theirs own) new.1 none.0 none.1;
          now = λ here. absurd (let later = new.0 in let known = present_known x y h.here h.there h.paired h.numbers_here h.numbers_there own theirs here in let wrong : ⊥ = omega arith in wrong);
        }
  ];
  none = λ own theirs later. (let more = m.later in t.none own theirs (omega arith));
}

-- what x is given, where it takes nothing
pub takes_on_talks : (x x' y : View) (h : AreTwins x y) (k : AreTwins x' y) (put given : ℕ → ℕ → List (List ℕ)) (begun begun' : Joining) → ((own theirs : ℕ) → TakesOn (h.receives.carriage theirs own) (k.receives.carriage theirs own) [])
    → ((own theirs : ℕ) → IsPresent x' own theirs → IsPresent x own theirs × (begun' ≡ begun)) → Talks y x h.receives.carriage put given begun → Talks y x' k.receives.carriage put given begun'
takes_on_talks x x' y h k put given begun begun' on lasts t = record {
  each = λ i j. (
      let e = t.each i j in
      record {
        last = e.last;
        are = on_messages _ _ (put i j) (given j i) e.last (on j i) (taken_within y h.there i j (h.receives.carriage i j) (h.receives.sent i j)) (taken_within y k.there i j (k.receives.carriage i j) (k.receives.sent i j)) e.are;
        now = λ here. (let was = lasts j i here in e.now was.0 ∙ sym was.1);
      });
  none = t.none;
}

-- what was taken in a contact that is ahead is nothing, so no message is begun in it
ahead_fresh : (x y : View) (h : AreTwins x y) (own theirs : ℕ) (put given : List (List ℕ)) (last : Joining) → IsAhead x own theirs → AreMessages (h.receives.carriage theirs own) put given last → last ≡ fresh
ahead_fresh x y h own theirs put given last ahead m =
    let none = ((h.receives.taken theirs own).none ahead).delivered in
    nothing_opened given last (subst (λ (ds : List ℕ). HasOpened (flat_map slot_items (take (length ds) m.slots)) given last) none m.opened)

-- nothing is taken, and a contact may begin
pub begins_on_talks : (x x' y : View) (h : AreTwins x y) (k : AreTwins x' y) (put given : ℕ → ℕ → List (List ℕ)) (begun begun' : Joining) → ((own theirs : ℕ) → TakesOn (h.receives.carriage theirs own) (k.receives.carriage theirs own) [])
    → ((own theirs : ℕ) → IsPresent x' own theirs → (IsPresent x own theirs × (begun' ≡ begun)) ⊎ (IsAhead x own theirs × (begun' ≡ fresh))) → Talks y x h.receives.carriage put given begun → Talks y x' k.receives.carriage put given begun'
begins_on_talks x x' y h k put given begun begun' on begins t = record {
  each = λ i j. (
      let e = t.each i j in
      record {
        last = e.last;
        are = on_messages _ _ (put i j) (given j i) e.last (on j i) (taken_within y h.there i j (h.receives.carriage i j) (h.receives.sent i j)) (taken_within y k.there i j (k.receives.carriage i j) (k.receives.sent i j)) e.are;
        now = λ here. elim (begins j i here) [
          | inl was ↦ e.now was.0 ∙ sym was.1
          | inr new ↦ ahead_fresh x y h j i (put i j) (given j i) e.last new.0 e.are ∙ sym new.1
        ];
      });
  none = t.none;
}

-- packets are taken in the contact of these numbers, and opened
pub brings_on_talks : (x x' y : View) (h : AreTwins x y) (k : AreTwins x' y) (put given given' : ℕ → ℕ → List (List ℕ)) (own theirs : ℕ) (begun before last : Joining) (brought : List Taken) (opened : List Opened)
    → ((i j : ℕ) → TakesOn (h.receives.carriage j i) (k.receives.carriage j i) (taken_in_contact own theirs (map (λ (t : Taken). t.packet) brought) i j)) → ChangedAt given given' own theirs (given own theirs ++ packets_in opened) → IsPresent x' own theirs
    → (IsPresent x own theirs × (before ≡ begun)) ⊎ (IsAhead x own theirs × (before ≡ fresh)) → BringsAll before brought opened last → Talks y x h.receives.carriage put given begun
    → Talks y x' k.receives.carriage put given' last × All IsWholePacket opened
brings_on_talks x x' y h k put given given' own theirs begun before last brought opened on more now start brings t =
    let known = present_known y x' k.there k.here (turned x' y k.paired) k.numbers_there k.numbers_here theirs own now in
    let packets = map (λ (t : Taken). t.packet) brought in
    let taken = taken_changed own theirs packets in
    let e = t.each theirs own in
    let c = h.receives.carriage theirs own in
    let d = k.receives.carriage theirs own in
    let within = taken_within y h.there theirs own c (h.receives.sent theirs own) in
    let within' = taken_within y k.there theirs own d (k.receives.sent theirs own) in
    let from : e.last ≡ before = elim start [
      | inl was ↦ e.now was.0 ∙ sym was.1
      | inr new ↦ ahead_fresh x y h own theirs (put theirs own) (given own theirs) e.last new.0 e.are ∙ sym new.1
    ] in
    let here = on own theirs in
    let longer = here.longer ∙ ap (λ ps. taken_of c ++ ps) taken.here in
    let both = gives_more c d (put theirs own) (given own theirs) before last brought opened (subst (AreMessages c (put theirs own) (given own theirs)) from e.are) here.put within within' longer brings in (
      record {
        each = λ i j. on_changed given given' own theirs (given own theirs ++ packets_in opened) (λ n m ms. IsTalk x' n m (k.receives.carriage m n) (put m n) ms last) more
            (record { last = last; are = both.0; now = λ here. refl })
            (λ n m differ. (
            let f = t.each m n in
            let same : taken_in_contact own theirs packets n m ≡ [] = taken.others n m differ in
            record {
              last = f.last;
              are = on_messages _ _ (put m n) (given n m) f.last (subst (TakesOn (h.receives.carriage m n) (k.receives.carriage m n)) same (on n m)) (taken_within y h.there m n (h.receives.carriage m n) (h.receives.sent m n)) (taken_within y k.there m n (k.receives.carriage m n) (k.receives.sent m n)) f.are;
              now = λ here. absurd (differ (here.own_is ∙ sym now.own_is) (here.theirs_is ∙ sym now.theirs_is));
            })) j i;
        none = λ i j later. (
            let was = t.none i j later in
            (was.0, more.others j i (λ one two. (let wrong : ⊥ = omega arith in wrong)) ∙ was.1));
      },
      both.1,
    )

-- nothing was put or given
pub new_talks : (x y : View) (f : ℕ → ℕ → Carriage) (put given : ℕ → ℕ → List (List ℕ)) (begun : Joining) → ((own theirs : ℕ) → (f own theirs).traffic.put ≡ []) → ((own theirs : ℕ) → put own theirs ≡ []) → ((own theirs : ℕ) → given own theirs ≡ []) → IsApart y → Talks x y f put given begun
new_talks x y f put given begun empty no_put no_given apart = record {
  each = λ own theirs. record {
    last = fresh;
    are = empty_messages (f own theirs) (put own theirs) (given theirs own) (empty own theirs) (no_put own theirs) (no_given theirs own);
    now = λ here. absurd (apart_absent y theirs own apart here);
  };
  none = λ own theirs later. (no_put own theirs, no_given theirs own);
}
