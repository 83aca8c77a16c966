-- A contact ends, a node restarts or learns a higher number of its peer, by deeds of the two nodes.
use Rattle.std.proofs.Common.{◌≡◌, ◌<◌, ◌≤◌, ◌+◌, ℕ, false, Option, Some, None, option_map, refl, sym, ap, ◌∙◌, subst, inl, inr, arith}
use Rattle.std.specs.Prelude.{slice_get}
use Rattle.std.proofs.lemmas.Bool.{cases_eq}
use Rattle.tipc_types.specs.LinkStates.{is_up}
use Rattle.tipc_link.specs.Links.{LinkEnd}
use Rattle.tipc_link_fsm.specs.Table.{Fsm, is_last}
use Rattle.tipc_link.proofs.Ends.{ended-is, forgotten-is}
use Rattle.tipc_changeover.specs.Links.{Reset}
use Rattle.tipc_two_nodes.specs.links.Sending.{end_seen, state_as}
use Rattle.tipc_two_nodes.specs.links.Receiving.{record_at}
use Rattle.tipc_link.specs.Records.{Received}
use Rattle.tipc_paired.proofs.contacts.ContactDeeds.{earlier}
use Rattle.tipc_paired.proofs.wires.Wires.{epoch_of_end, epoch_of_none, map_at, on_put}
use Rattle.tipc_paired.specs.Deeds.{ended_with, forgot_with, parted_view, restarted, risen_view}
use Rattle.tipc_paired.specs.Paired.{ArePaired}
use Rattle.tipc_paired.specs.Views.{Frame, IsApart, View, Wire, epoch_in, epoch_on, es_of, fsm_in, notice_of, with_end, with_wire}
use Rattle.tipc_two_nodes.specs.Carriages.{Numbers}
use Rattle.tipc_two_nodes.specs.Numbers.{AreNumbers, AreRecorded}
use Rattle.tipc_two_nodes.specs.Steps.{EpochsRise, Learns, Leaves}
use Rattle.tipc_two_nodes.proofs.contacts.Numbered.{NoneAbove}
use Rattle.tipc_two_nodes.proofs.contacts.Recorded.{recorded_on, timely_later}
use Rattle.tipc_two_nodes.proofs.contacts.Stale.{apart_absent}

-- ---- epochs that were told

by_end : (o : Option LinkEnd) (P : Type 0) → (o ≡ None → P) → ((e : LinkEnd) → o ≡ Some e → P) → P
by_end None P none some = none refl
by_end (Some e) P none some = some e refl

-- each epoch that a node told is no higher than the present one of its bearer
pub none_above : (x y : View) → ArePaired x y → NoneAbove x
none_above x y h k f there =
    let said = map_at notice_of x.told k f there in
    let speaks = h.peers.a_speaks in
    by_end (x.wires f.bearer).end (es_of f.bytes ≤ epoch_on x.node (x.wires f.bearer))
    (λ none. (let few = speaks.before k (notice_of f) said (ap fsm_in none) in let now = epoch_of_none x.node (x.wires f.bearer) none in omega arith))
    (λ e is. (let few = speaks.past k (notice_of f) e.fsm said (ap fsm_in is) in let now = epoch_of_end x.node (x.wires f.bearer) e is in omega arith))

-- an epoch that an end has under another number wasn't told before, but for the last one of a boot
told_under : (x y : View) (k : ℕ) (f : Frame) (e : LinkEnd) → ArePaired x y → slice_get x.told k ≡ Some f → (x.wires f.bearer).end ≡ Some e → es_of f.bytes ≡ e.fsm.own → is_last (es_of f.bytes) ≡ false → f.contact ≡ x.node.contact
told_under x y k f e h there is same goes_on =
    let speaks = h.peers.a_speaks in
    sym (speaks.shown k (notice_of f) (map_at notice_of x.told k f there) goes_on)
    ∙ (ap (speaks.contact_of f.bearer) same ∙ speaks.now f.bearer e.fsm (ap fsm_in is) (ap is_last (sym same) ∙ goes_on))

pub leaves_rise : (x x' y : View) (n : Numbers) → ArePaired x' y → AreNumbers x y n → Leaves x x' → EpochsRise x x'
leaves_rise x x' y n h numbers m = record {
  told = λ k f there. few k f (still k f there);
  below = λ k f there goes_on. (
      let most = few k f (still k f there) in
      let own = (numbers.frames k f there).own in
      let later = m.later in
      by_end (x'.wires f.bearer).end (es_of f.bytes < epoch_on x'.node (x'.wires f.bearer))
      (λ none. (let less = h.peers.a_speaks.before k (notice_of f) (map_at notice_of x'.told k f (still k f there)) (ap fsm_in none) in let now = epoch_of_none x'.node (x'.wires f.bearer) none in omega arith))
      (λ e is. (
      let now = epoch_of_end x'.node (x'.wires f.bearer) e is in
      elim (cases_eq (es_of f.bytes) e.fsm.own) [
        | inl same ↦ absurd (let number = told_under x' y k f e h (still k f there) is same goes_on in let wrong : ⊥ = omega arith in wrong)
        | inr differ ↦ omega (arith, differ)
      ])));
} where
  still : (k : ℕ) (f : Frame) → slice_get x.told k ≡ Some f → slice_get x'.told k ≡ Some f
  still k f there = subst (λ fs. slice_get fs k ≡ Some f) (sym m.rests.told) there

  few : NoneAbove x'
  few = none_above x' y h

-- ---- ends that are reset

ended_reset : (contact number : ℕ) (o : Option LinkEnd) → (end_seen contact (option_map (ended_with number) o)).state ≡ Reset
ended_reset contact number None = refl
ended_reset contact number (Some e) = ap (λ (f : Fsm). state_as f.state) (ended-is e.fsm)

forgot_reset : (contact number : ℕ) (o : Option LinkEnd) → ((e : LinkEnd) → o ≡ Some e → is_up e.fsm.state ≡ false) → (end_seen contact (option_map (forgot_with number) o)).state ≡ Reset
forgot_reset contact number None down = refl
forgot_reset contact number (Some e) down = ap (λ (f : Fsm). state_as f.state) (forgotten-is e.fsm (down e refl))

forgot_epoch : (contact number : ℕ) (o : Option LinkEnd) → ((e : LinkEnd) → o ≡ Some e → is_up e.fsm.state ≡ false) → epoch_in contact (option_map (forgot_with number) o) ≡ epoch_in contact o
forgot_epoch contact number None down = refl
forgot_epoch contact number (Some e) down = ap (λ (f : Fsm). f.own) (forgotten-is e.fsm (down e refl))

-- ---- the deeds

pub parted_leaves : (x : View) → Leaves x (parted_view x)
parted_leaves x = record {
  rests = record {
    begun = λ b epoch. refl;
    line = λ b epoch. refl;
    got = λ b epoch. refl;
    told = refl;
    near = ended_reset (x.node.contact + 1) (x.node.contact + 1) (x.wires 0).end;
    far = ended_reset (x.node.contact + 1) (x.node.contact + 1) (x.wires 1).end;
  };
  later = omega arith;
}

pub fallen_leaves : (x : View) (b : ℕ) (e' : LinkEnd) → Leaves x (parted_view (with_wire x b (with_end (x.wires b) e')))
fallen_leaves x b e' =
    let v = with_wire x b (with_end (x.wires b) e') in
    let L = parted_leaves v in
    record {
      rests = record {
        begun = λ c epoch. on_put x.wires b (with_end (x.wires b) e') (λ c (w : Wire). w.begun epoch ≡ (x.wires c).begun epoch) refl (λ c. refl) c;
        line = λ c epoch. on_put x.wires b (with_end (x.wires b) e') (λ c (w : Wire). w.line epoch ≡ (x.wires c).line epoch) refl (λ c. refl) c;
        got = λ c epoch. on_put x.wires b (with_end (x.wires b) e') (λ c (w : Wire). w.got epoch ≡ (x.wires c).got epoch) refl (λ c. refl) c;
        told = refl;
        near = L.rests.near;
        far = L.rests.far;
      };
      later = L.later;
    }

pub restarted_leaves : (x y : View) (boot : ℕ) → ArePaired x y → x.node.boot < boot → Leaves x (restarted x boot)
restarted_leaves x y boot h more = record {
  rests = record { begun = λ b epoch. refl; line = λ b epoch. refl; got = λ b epoch. refl; told = refl; near = refl; far = refl };
  later = earlier x.node.contact x.node.boot boot h.here.node.contact more;
}

pub risen_learns : (x : View) (number : ℕ) → x.node.seen < number → IsApart x → Learns x (risen_view x number)
unfolding epoch_on
risen_learns x number higher apart = record {
  rests = record {
    begun = λ b epoch. refl;
    line = λ b epoch. refl;
    got = λ b epoch. refl;
    told = refl;
    near = forgot_reset x.node.contact number (x.wires 0).end (apart 0);
    far = forgot_reset x.node.contact number (x.wires 1).end (apart 1);
  };
  own = refl;
  higher = higher;
  apart = apart;
  epochs = λ b. forgot_epoch x.node.contact number (x.wires b).end (apart b);
}

-- ---- records

ended_record : (number : ℕ) (o : Option LinkEnd) (a : Received) → record_at (option_map (ended_with number) o) ≡ Some a → record_at o ≡ Some a
ended_record number None a is = is
ended_record number (Some e) a is = is

forgot_record : (number : ℕ) (o : Option LinkEnd) (a : Received) → record_at (option_map (forgot_with number) o) ≡ Some a → record_at o ≡ Some a
forgot_record number None a is = is
forgot_record number (Some e) a is = is

pub parted_recorded : (y x : View) → AreRecorded y x → AreRecorded (parted_view y) x
parted_recorded y x h = recorded_on y (parted_view y) x h (λ g. timely_later y (parted_view y) g (omega arith)) (λ b a is. inl (ended_record (y.node.contact + 1) (y.wires b).end a is, omega arith))

-- a link goes down with the contact, and keeps its record
pub fallen_recorded : (y x : View) (b : ℕ) (e e' : LinkEnd) → (y.wires b).end ≡ Some e → record_at (Some e') ≡ record_at (Some e) → AreRecorded y x → AreRecorded (parted_view (with_wire y b (with_end (y.wires b) e'))) x
fallen_recorded y x b e e' is same h =
    let v = with_wire y b (with_end (y.wires b) e') in
    let y' = parted_view v in
    let kept : (c : ℕ) → record_at (v.wires c).end ≡ record_at (y.wires c).end = on_put y.wires b (with_end (y.wires b) e') (λ c (w : Wire). record_at w.end ≡ record_at (y.wires c).end) (same ∙ ap record_at (sym is)) (λ c. refl) in
    recorded_on y y' x h (λ g. timely_later y y' g (omega arith)) (λ c a there. inl (sym (kept c) ∙ ended_record (y.node.contact + 1) (v.wires c).end a there, omega arith))

pub restarted_recorded : (y x : View) (boot : ℕ) → AreRecorded (restarted y boot) x
restarted_recorded y x boot b a is = absurd (let wrong : ⊥ = cc in wrong)

pub risen_recorded : (y x : View) (number : ℕ) → y.node.seen < number → IsApart y → AreRecorded y x → AreRecorded (risen_view y number) x
risen_recorded y x number higher apart h =
    recorded_on y (risen_view y number) x h (λ g t. elim t [ inl before ↦ inl before | inr now ↦ absurd (apart_absent y y.node.contact y.node.seen apart now.1) ])
    (λ b a is. inl (forgot_record number (y.wires b).end a is, omega arith))
