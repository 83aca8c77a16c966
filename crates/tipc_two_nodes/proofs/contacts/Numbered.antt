-- The contact numbers and epochs of a node, through all that it does.
use Rattle.std.proofs.Common.{◌≡◌, ◌<◌, ◌≤◌, ◌⊎◌, ℕ, false, Some, sym, ap, ◌∙◌, subst, inl, inr, arith}
use Rattle.std.specs.Prelude.{slice_get}
use Rattle.std.proofs.lemmas.Bool.{cases_eq, cases_lt}
use Rattle.tipc_link_fsm.specs.Table.{is_last}
use Rattle.tipc_paired.proofs.wires.Wires.{put_other, put_same}
use Rattle.tipc_paired.specs.Views.{Begun, Frame, Node, View, epoch_on, es_of}
use Rattle.tipc_two_nodes.specs.Carriages.{BeganIn, IsPresent, Numbers}
use Rattle.tipc_two_nodes.specs.Numbers.{AreNumbers, IsTimely, IsToldIn}
use Rattle.tipc_two_nodes.specs.Steps.{EpochsRise, Learns, Leaves, Stays, TellsMore, numbers_met, numbers_with}
use Rattle.tipc_two_nodes.proofs.contacts.Leaving.{above, began_before, not_above}
use Rattle.tipc_two_nodes.proofs.contacts.Stale.{apart_absent}

-- ---- the other node does something

pub told_in_more : (y y' : View) (b epoch own theirs : ℕ) → TellsMore y y' → IsToldIn y.told b epoch own theirs → IsToldIn y'.told b epoch own theirs
told_in_more y y' b epoch own theirs m t = record {
  place = t.place;
  frame = t.frame;
  there = m.told t.place t.frame t.there;
  bearer_is = t.bearer_is;
  epoch_is = t.epoch_is;
  own_is = t.own_is;
  theirs_is = t.theirs_is;
}

pub numbers_beside : (x y y' : View) (n : Numbers) → AreNumbers x y n → TellsMore y y' → AreNumbers x y' n
numbers_beside x y y' n h m = record {
  now = h.now;
  apart = h.apart;
  onward = h.onward;
  each = h.each;
  alone = λ b. elim (h.alone b) [ inl first ↦ inl first | inr seen ↦ inr (let more = m.contact in omega arith) ];
  entered = h.entered;
  highest = h.highest;
  heard = λ b epoch g is. told_in_more y y' b g.peer_epoch g.peer_contact g.contact m (h.heard b epoch g is);
  frames = λ k f there. (
      let F = h.frames k f there in
      let more = m.contact in
      record {
        own = F.own;
        theirs = F.theirs;
        no_lower = F.no_lower;
        no_higher = F.no_higher;
        lower = F.lower;
        alone = elim F.alone [ inl first ↦ inl first | inr met ↦ inr (met.0, (let few = met.1 in omega arith)) ];
      });
}

-- ---- the node keeps its numbers

frame_new : (x y : View) (n : Numbers) (f : Frame) → AreNumbers x y n → f.contact ≡ x.node.contact → f.peer_contact ≡ x.node.seen → n.first f.bearer x.node.contact ≤ es_of f.bytes
    → ((es_of f.bytes ≤ n.first f.bearer x.node.contact) ⊎ (x.node.seen ≤ y.node.contact)) → IsTimely n x.node.contact y.node.contact f
frame_new x y n f h own theirs low alone =
    let met : n.met f.contact ≡ x.node.seen = ap n.met own ∙ h.now in
    let first : n.first f.bearer f.contact ≡ n.first f.bearer x.node.contact = ap (n.first f.bearer) own in
    record {
      own = omega arith;
      theirs = omega arith;
      no_lower = omega arith;
      no_higher = λ number before some. absurd (let wrong : ⊥ = omega arith in wrong);
      lower = λ number before some goes_on. absurd (let wrong : ⊥ = omega arith in wrong);
      alone = elim alone [ inl few ↦ inl (omega arith) | inr seen ↦ inr (theirs ∙ sym met, omega arith) ];
    }

pub numbers_stay : (x x' y : View) (n : Numbers) → AreNumbers x y n → Stays x x' y n → AreNumbers x' y n
numbers_stay x x' y n h m =
    let own : x'.node.contact ≡ x.node.contact = ap (λ (k : Node). k.contact) m.node in
    let seen : x'.node.seen ≡ x.node.seen = ap (λ (k : Node). k.seen) m.node in
    record {
      now = ap n.met own ∙ (h.now ∙ sym seen);
      apart = λ apart b. (let k = m.apart apart in k.1 b ∙ (h.apart k.0 b ∙ ap (n.first b) (sym own)));
      onward = λ b. (
          let low = h.onward b in
          let first : n.first b x'.node.contact ≡ n.first b x.node.contact = ap (n.first b) own in
          elim (m.epochs b) [ inl same ↦ omega arith | inr more ↦ (let rise = more.0 in omega arith) ]);
      each = λ b epoch low before. (
          let first : n.first b x'.node.contact ≡ n.first b x.node.contact = ap (n.first b) own in
          subst (λ (k : Node). BeganIn x' b epoch k.contact k.seen) (sym m.node) (elim (cases_lt epoch (epoch_on x.node (x.wires b))) [
            | inl was ↦ (let k = h.each b epoch (omega arith) was in (k.0, m.begun b epoch k.0 k.1, k.2, k.3))
            | inr later ↦ m.each b epoch later before
          ]));
      alone = λ b. (
          let first : n.first b x'.node.contact ≡ n.first b x.node.contact = ap (n.first b) own in
          elim (m.epochs b) [
            | inl same ↦ elim (h.alone b) [ inl few ↦ inl (omega arith) | inr known ↦ inr (omega arith) ]
            | inr more ↦ inr (let known = more.1 in omega arith)
          ]);
      entered = λ b epoch g is. elim (m.began b epoch g is) [
        | inl was ↦ elim (h.entered b epoch g was) [
          | inl before ↦ inl (omega arith)
          | inr now ↦ inr (now.0 ∙ sym own, subst (IsPresent x' x'.node.contact) (sym seen) (subst (λ k. IsPresent x' k x.node.seen) (sym own) (m.present now.1)))
        ]
        | inr new ↦ inr (new.0 ∙ sym own, subst (IsPresent x' x'.node.contact) (sym seen) (subst (λ k. IsPresent x' k x.node.seen) (sym own) new.2))
      ];
      highest = λ b epoch g is. elim (m.began b epoch g is) [
        | inl was ↦ h.highest b epoch g was
        | inr new ↦ new.1 ∙ (sym h.now ∙ ap n.met (sym new.0))
      ];
      heard = λ b epoch g is. elim (m.began b epoch g is) [
        | inl was ↦ h.heard b epoch g was
        | inr new ↦ subst (IsToldIn y.told b g.peer_epoch g.peer_contact) (sym new.0) (subst (λ k. IsToldIn y.told b g.peer_epoch k x.node.contact) (sym new.1) new.3)
      ];
      frames = λ k f there. subst (λ c. IsTimely n c y.node.contact f) (sym own) (elim (m.told k f there) [
        | inl was ↦ h.frames k f was
        | inr new ↦ frame_new x y n f h new.0 new.1 new.2 new.3
      ]);
    }

-- a frame that shows the present epoch of its bearer
pub told_now : (x y : View) (n : Numbers) (f : Frame) → AreNumbers x y n → es_of f.bytes ≡ epoch_on x.node (x.wires f.bearer)
    → (n.first f.bearer x.node.contact ≤ es_of f.bytes) × ((es_of f.bytes ≤ n.first f.bearer x.node.contact) ⊎ (x.node.seen ≤ y.node.contact))
told_now x y n f h epoch = (
  (let low = h.onward f.bearer in omega arith),
  elim (h.alone f.bearer) [ inl few ↦ inl (omega arith) | inr known ↦ inr known ],
)

-- ---- it leaves its contacts

-- a session that began did so under a number up to the present one
began_by : (x y : View) (n : Numbers) (b epoch : ℕ) (g : Begun) → AreNumbers x y n → (x.wires b).begun epoch ≡ Some g → g.contact ≤ x.node.contact
began_by x y n b epoch g h is = elim (h.entered b epoch g is) [
  | inl before ↦ omega arith
  | inr now ↦ (let same = now.0 in omega arith)
]

frame_left : (x x' y : View) (n : Numbers) (f : Frame) → es_of f.bytes ≤ epoch_on x'.node (x'.wires f.bearer) → (is_last (es_of f.bytes) ≡ false → es_of f.bytes < epoch_on x'.node (x'.wires f.bearer)) → x.node.contact < x'.node.contact
    → IsTimely n x.node.contact y.node.contact f → IsTimely (numbers_with n x x') x'.node.contact y.node.contact f
frame_left x x' y n f few below later F =
    let low = F.own in
    let met : (numbers_with n x x').met f.contact ≡ n.met f.contact = not_above x f.contact x'.node.seen (n.met f.contact) low in
    let first : (numbers_with n x x').first f.bearer f.contact ≡ n.first f.bearer f.contact = not_above x f.contact (epoch_on x'.node (x'.wires f.bearer)) (n.first f.bearer f.contact) low in
    let new = λ (own : ℕ) (over : x.node.contact < own). above x own (epoch_on x'.node (x'.wires f.bearer)) (n.first f.bearer own) over in
    let old = λ (own : ℕ) (under : own ≤ x.node.contact). not_above x own (epoch_on x'.node (x'.wires f.bearer)) (n.first f.bearer own) under in
    record {
      own = omega arith;
      theirs = subst (λ k. f.peer_contact ≤ k) (sym met) F.theirs;
      no_lower = subst (λ k. k ≤ es_of f.bytes) (sym first) F.no_lower;
      no_higher = λ own before some. elim (cases_lt x.node.contact own) [
        | inl over ↦ subst (λ k. es_of f.bytes ≤ k) (sym (new own over)) few
        | inr under ↦ subst (λ k. es_of f.bytes ≤ k) (sym (old own under)) (F.no_higher own before under)
      ];
      lower = λ own before some goes_on. elim (cases_lt x.node.contact own) [
        | inl over ↦ subst (λ k. es_of f.bytes < k) (sym (new own over)) (below goes_on)
        | inr under ↦ subst (λ k. es_of f.bytes < k) (sym (old own under)) (F.lower own before under goes_on)
      ];
      alone = elim F.alone [
        | inl low_one ↦ inl (subst (λ k. es_of f.bytes ≤ k) (sym first) low_one)
        | inr known ↦ inr (known.0 ∙ sym met, subst (λ k. k ≤ y.node.contact) (sym met) known.1)
      ];
    }

pub numbers_leave : (x x' y : View) (n : Numbers) → AreNumbers x y n → Leaves x x' → EpochsRise x x' → AreNumbers x' y (numbers_with n x x')
numbers_leave x x' y n h m rise =
    let later = m.later in
    record {
      now = above x x'.node.contact x'.node.seen (n.met x'.node.contact) later;
      apart = λ apart b. sym (above x x'.node.contact (epoch_on x'.node (x'.wires b)) (n.first b x'.node.contact) later);
      onward = λ b. subst (λ k. k ≤ epoch_on x'.node (x'.wires b)) (sym (above x x'.node.contact (epoch_on x'.node (x'.wires b)) (n.first b x'.node.contact) later)) (omega arith);
      each = λ b epoch low before. absurd (
          let first = above x x'.node.contact (epoch_on x'.node (x'.wires b)) (n.first b x'.node.contact) later in
          let wrong : ⊥ = omega arith in
          wrong);
      alone = λ b. inl (subst (λ k. epoch_on x'.node (x'.wires b) ≤ k) (sym (above x x'.node.contact (epoch_on x'.node (x'.wires b)) (n.first b x'.node.contact) later)) (omega arith));
      entered = λ b epoch g is. inl (let few = began_by x y n b epoch g h (began_before x x' b epoch g m.rests is) in omega arith);
      highest = λ b epoch g is. (
          let was = began_before x x' b epoch g m.rests is in
          h.highest b epoch g was ∙ sym (not_above x g.contact x'.node.seen (n.met g.contact) (began_by x y n b epoch g h was)));
      heard = λ b epoch g is. h.heard b epoch g (began_before x x' b epoch g m.rests is);
      frames = λ k f there. (
          let was = subst (λ fs. slice_get fs k ≡ Some f) m.rests.told there in
          frame_left x x' y n f (rise.told k f was) (rise.below k f was) later (h.frames k f was));
    }

-- ---- it learns a higher number

-- each epoch that was told is no higher than the present one of its bearer
abbrev pub NoneAbove : View → Type 0
NoneAbove x = (k : ℕ) (f : Frame) → slice_get x.told k ≡ Some f → es_of f.bytes ≤ epoch_on x.node (x.wires f.bearer)

frame_learned : (x x' y : View) (n : Numbers) (f : Frame) → AreNumbers x y n → Learns x x' → es_of f.bytes ≤ epoch_on x.node (x.wires f.bearer) → IsTimely n x.node.contact y.node.contact f → IsTimely (numbers_met n x') x'.node.contact y.node.contact f
frame_learned x x' y n f h m few F =
    let own = m.own in
    let low = F.own in
    let higher = m.higher in
    let now = h.now in
    let first = h.apart m.apart f.bearer in
    let top = F.theirs in
    elim (cases_eq f.contact x'.node.contact) [
      | inl here ↦
          let met : (numbers_met n x').met f.contact ≡ x'.node.seen = ap (numbers_met n x').met here ∙ put_same n.met x'.node.contact x'.node.seen in
          let was : n.met f.contact ≡ n.met x.node.contact = ap n.met (here ∙ own) in
          let at : n.first f.bearer f.contact ≡ n.first f.bearer x.node.contact = ap (n.first f.bearer) (here ∙ own) in
          record {
            own = omega arith;
            theirs = subst (λ k. f.peer_contact ≤ k) (sym met) (omega arith);
            no_lower = F.no_lower;
            no_higher = λ number before some. F.no_higher number before (omega arith);
            lower = λ number before some goes_on. F.lower number before (omega arith) goes_on;
            alone = inl (omega arith);
          }
      | inr differ ↦
          let met : (numbers_met n x').met f.contact ≡ n.met f.contact = put_other n.met x'.node.contact x'.node.seen f.contact differ in
          record {
            own = omega arith;
            theirs = subst (λ k. f.peer_contact ≤ k) (sym met) top;
            no_lower = F.no_lower;
            no_higher = λ number before some. F.no_higher number before (omega arith);
            lower = λ number before some goes_on. F.lower number before (omega arith) goes_on;
            alone = elim F.alone [
              | inl low_one ↦ inl low_one
              | inr known ↦ inr (known.0 ∙ sym met, subst (λ k. k ≤ y.node.contact) (sym met) known.1)
            ];
          }
    ]

pub numbers_learn : (x x' y : View) (n : Numbers) → AreNumbers x y n → NoneAbove x → Learns x x' → AreNumbers x' y (numbers_met n x')
numbers_learn x x' y n h none m =
    let own = m.own in
    let before = λ (b epoch : ℕ) (g : Begun) (is : (x.wires b).begun epoch ≡ Some g). (let few : g.contact < x.node.contact = elim (h.entered b epoch g is) [ inl before ↦ before | inr now ↦ absurd (apart_absent x x.node.contact x.node.seen m.apart now.1) ] in few) in
    record {
      now = put_same n.met x'.node.contact x'.node.seen;
      apart = λ apart b. m.epochs b ∙ (h.apart m.apart b ∙ ap (n.first b) (sym own));
      onward = λ b. (let same = m.epochs b in let first = h.apart m.apart b in let at : n.first b x'.node.contact ≡ n.first b x.node.contact = ap (n.first b) own in omega arith);
      each = λ b epoch low before. absurd (let same = m.epochs b in let first = h.apart m.apart b in let at : n.first b x'.node.contact ≡ n.first b x.node.contact = ap (n.first b) own in let wrong : ⊥ = omega arith in wrong);
      alone = λ b. inl (let same = m.epochs b in let first = h.apart m.apart b in let at : n.first b x'.node.contact ≡ n.first b x.node.contact = ap (n.first b) own in omega arith);
      entered = λ b epoch g is. inl (let few = before b epoch g (began_before x x' b epoch g m.rests is) in omega arith);
      highest = λ b epoch g is. (
          let was = began_before x x' b epoch g m.rests is in
          let few = before b epoch g was in
          h.highest b epoch g was ∙ sym (put_other n.met x'.node.contact x'.node.seen g.contact (λ same. (let wrong : ⊥ = omega arith in wrong))));
      heard = λ b epoch g is. h.heard b epoch g (began_before x x' b epoch g m.rests is);
      frames = λ k f there. (
          let was = subst (λ fs. slice_get fs k ≡ Some f) m.rests.told there in
          frame_learned x x' y n f h m (none k f was) (h.frames k f was));
    }
