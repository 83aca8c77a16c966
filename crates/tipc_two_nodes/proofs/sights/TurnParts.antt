-- A part of a node's turn at its pair, as deeds of the node, and two nodes that go on talking.
use Rattle.std.proofs.Common.{◌≡◌, ◌≤◌, ◌+◌, ◌⊎◌, ◌==◌, if◌then◌else◌, ℕ, true, false, List, [], ◌++◌, Option, Some, None, length, refl, sym, ap, ◌∙◌, inl, inr, append-nil, length-append, arith, Bool}
use Rattle.tipc_types.specs.declared.link_words.BroadcastState.{BroadcastState}
use Rattle.tipc_outside.specs.declared.outgoing.Outgoing.{Outgoing}
use Rattle.tipc_link.proofs.LinkLaw.{Each, Each-append}
use Rattle.tipc_pair.specs.Courses.{Course, rests as nothing_happens, sent_in}
use Rattle.tipc_pair.specs.Facing.{PairEnds, facing, in_contact, turned, with_made}
use Rattle.tipc_link.specs.Links.{LinkEnd}
use Rattle.tipc_link.specs.Parts.{IsShowable}
use Rattle.tipc_pair.specs.PairCalls.{answered_at as answered_at_end, answered_near, at_bearer, cut_near, mended, mended_near, tick_near, ticked}
use Rattle.tipc_pair.proofs.HeldLaws.{GoesQuietly, cut_goes, facing_quietly, quietly_facing, ticked_goes}
use Rattle.tipc_paired.proofs.PairedLaw.{all_then}
use Rattle.tipc_paired.specs.Deeds.{DoesAll, nothing}
use Rattle.tipc_paired.specs.Views.{Node, View}
use Rattle.tipc_two_nodes.proofs.deeds.Chains.{told_behind, told_since, told_still}
use Rattle.tipc_two_nodes.proofs.deeds.Pairs.{of_facing}
use Rattle.tipc_two_nodes.specs.deeds.PairDeeds.{Did, IsToldSince, none_more}
use Rattle.tipc_two_nodes.specs.Talkers.{AreTalking, Talker, TalksOn, went_on}
use Rattle.tipc_two_nodes.proofs.sights.ArrivingOnce.{ContactSo, contact_quiet, contact_then}
use Rattle.tipc_two_nodes.proofs.sights.Behind.{all_same}
use Rattle.tipc_two_nodes.proofs.sights.ByContact.{more_in, more_none, more_same, more_twice}
use Rattle.tipc_two_nodes.proofs.sights.CallSessions.{answered_last, cut_at_last, cut_last, mended_last, tick_last, ticked_last}
use Rattle.tipc_two_nodes.proofs.sights.EndingOnce.{cut_ends_once, ticked_ends_once}
use Rattle.tipc_two_nodes.proofs.sights.LastSessions.{AreOfLast, IsLastAt, KeepsLast, NumbersLast, last_at, last_then, none_last, numbers_facing, quiet_last, turned_at}
use Rattle.tipc_two_nodes.proofs.calls.SendTwins.{facing_numbers}
use Rattle.tipc_two_nodes.proofs.sights.StayingIn.{facing_contact}
use Rattle.tipc_two_nodes.proofs.calls.Talkers.{cuts_talk, makes_talk, mends_talk, ticks_talk}

-- ---- the numbers of a pair

-- the numbers of a pair stay, seen from any link
abbrev pub SameNumbers : PairEnds → PairEnds → Type 0
SameNumbers x y = (y.contact ≡ x.contact) × (y.seen ≡ x.seen)

pub near_mended : (z : PairEnds) (o : Option LinkEnd) → SameNumbers z (mended_near z o)
near_mended z None = (refl, refl)
near_mended z (Some e) = (refl, refl)

pub near_answered : (z : PairEnds) (o : Option LinkEnd) (taken : ℕ) (asks : Bool) (shown : BroadcastState) → SameNumbers z (answered_at_end z o taken asks shown).pair
near_answered z None taken asks shown = (refl, refl)
near_answered z (Some e) taken asks shown = (refl, refl)

pub at_numbers : (b : ℕ) (x : PairEnds) (call : PairEnds → Course) → SameNumbers (facing b x) (call (facing b x)).pair → SameNumbers x (at_bearer b x call).pair
at_numbers b x call same =
    let first = facing_numbers b x in
    let last = facing_numbers x.bearer (call (facing b x)).pair in
    (last.2 ∙ (same.0 ∙ first.2), last.3 ∙ (same.1 ∙ first.3))

pub numbers_so : (x y : PairEnds) → SameNumbers x y → ContactSo x y
numbers_so x y same = record { once = inl same.0; lasts = λ was there. same }

-- seen from another link
pub contact_facing : (b c : ℕ) (x y : PairEnds) → ContactSo (facing b x) y → ContactSo x (facing c y)
contact_facing b c x y h =
    let before = facing_numbers b x in
    let then_is = facing_numbers c y in
    let was = facing_contact b x in
    let now = facing_contact c y in
    record {
      once = elim h.once [
        | inl same ↦ inl (then_is.2 ∙ (same ∙ before.2))
        | inr left ↦ inr (sym was ∙ left.0, then_is.2 ∙ (left.1 ∙ ap (λ n. n + 1) before.2), now ∙ left.2)
      ];
      lasts = λ up there. (let k = h.lasts (was ∙ up) (sym now ∙ there) in (then_is.2 ∙ (k.0 ∙ before.2), then_is.3 ∙ (k.1 ∙ before.3)));
    }

pub at_quietly : (b : ℕ) (x : PairEnds) (call : PairEnds → Course) → GoesQuietly (facing b x) (call (facing b x)).pair → GoesQuietly x (at_bearer b x call).pair
at_quietly b x call quiet = facing_quietly b x _ (quietly_facing x.bearer (facing b x) (call (facing b x)).pair quiet)

-- ---- steps

-- By deeds of x these frames were told. These messages were put, and these given, in the contact whose numbers the node has after them.
-- Nothing was numbered but in the sessions that the link ends have then, or had last; and the two talk on.
pub record Stepped (x y after : Talker) (frames : List Outgoing) (put given : List (List ℕ)) : Type 0 where
  pub does : DoesAll x.view y.view after.view
  pub boot : after.view.node.boot ≡ x.view.node.boot
  pub told : Each (IsToldSince (length x.view.told) after.view) frames
  pub line : (b k : ℕ) → ((after.view.wires b).line k ≡ (x.view.wires b).line k) ⊎ IsLastAt after.pair b k
  pub talking : AreTalking after y
  pub put_is : (own theirs : ℕ) → after.put own theirs ≡ more_in x.put after.view.node put own theirs
  pub given_is : (own theirs : ℕ) → after.given own theirs ≡ more_in x.given after.view.node given own theirs
  pub contact : ContactSo x.pair after.pair

-- the node keeps its contact numbers, and its link ends their sessions; and it is in no contact in which it wasn't
pub record Keeps (x after : Talker) : Type 0 where
  pub node : after.view.node ≡ x.view.node
  pub last : KeepsLast x.pair after.pair
  pub stays : in_contact after.pair ≡ true → in_contact x.pair ≡ true

pub still : (x y : Talker) → AreTalking x y → Stepped x y x [] [] []
still x y h = record {
  does = nothing;
  boot = refl;
  told = λ k o is. absurd (let wrong : ⊥ = cc in wrong);
  line = λ b k. inl refl;
  talking = h;
  put_is = more_none x.put x.view.node;
  given_is = more_none x.given x.view.node;
  contact = numbers_so x.pair x.pair (refl, refl);
}

-- the node after deeds, by the numbers of its pair
node_kept : (x y after : Talker) (frames : List Outgoing) (put given : List (List ℕ)) → AreTalking x y → Stepped x y after frames put given → after.pair.contact ≡ x.pair.contact → after.pair.seen ≡ x.pair.seen → after.view.node ≡ x.view.node
node_kept x y after frames put given h s contact seen =
    let same = all_same x.view y.view after.view s.does in
    let was = h.here.of in
    let now = s.talking.here.of in
    let own = same.own in
    let peer = same.peer in
    let boot = s.boot in
    let contact_is : after.view.node.contact ≡ x.view.node.contact = now.contact ∙ (contact ∙ sym was.contact) in
    let seen_is : after.view.node.seen ≡ x.view.node.seen = now.seen ∙ (seen ∙ sym was.seen) in
    λ i. record { own = own i; peer = peer i; boot = boot i; contact = contact_is i; seen = seen_is i }

-- one behind the other
pub then_stepped : (x y mid after : Talker) (first second : List Outgoing) (put more given : List (List ℕ)) → Stepped x y mid first put given → Stepped mid y after second more [] → Keeps mid after → Stepped x y after (first ++ second) (put ++ more) given
then_stepped x y mid after first second put more given f s k =
    let behind = told_behind mid.view y.view after.view s.does in
    let before = told_behind x.view y.view mid.view f.does in
    let long : length x.view.told ≤ length mid.view.told = longer x.view.told before.0 mid.view.told before.1 in
    record {
      does = all_then x.view y.view mid.view after.view f.does s.does;
      boot = s.boot ∙ f.boot;
      told = Each-append (IsToldSince (length x.view.told) after.view) first second (λ i o is. told_still (length x.view.told) mid.view after.view o behind.0 behind.1 (f.told i o is))
          (λ i o is. told_since (length x.view.told) (length mid.view.told) after.view o long (s.told i o is));
      line = λ b i. elim (s.line b i) [
        | inr last ↦ inr last
        | inl same ↦ elim (f.line b i) [ inr was ↦ inr (last_at mid.pair after.pair b i k.last was) | inl before ↦ inl (same ∙ before) ]
      ];
      talking = s.talking;
      put_is = more_twice x.put mid.put after.put after.view.node put more (λ i j. f.put_is i j ∙ more_same x.put mid.view.node after.view.node put i j k.node) s.put_is;
      given_is = λ i j. s.given_is i j ∙ sym (more_none mid.given after.view.node i j) ∙ f.given_is i j ∙ more_same x.given mid.view.node after.view.node given i j k.node;
      contact = contact_then x.pair mid.pair after.pair f.contact (sym s.talking.here.of.contact ∙ (ap (λ (n : Node). n.contact) k.node ∙ f.talking.here.of.contact)) (sym s.talking.here.of.seen ∙ (ap (λ (n : Node). n.seen) k.node ∙ f.talking.here.of.seen)) k.stays;
    }
  where
    longer : {A : Type 0} (xs more ys : List A) → ys ≡ xs ++ more → length xs ≤ length ys
    longer xs more ys is = (let long = ap (λ (zs : List _). length zs) is in let sum = length-append xs more in omega arith)

pub keeps_then : (x mid after : Talker) → Keeps x mid → Keeps mid after → Keeps x after
keeps_then x mid after h k = record { node = k.node ∙ h.node; last = last_then x.pair mid.pair after.pair h.last k.last; stays = λ there. h.stays (k.stays there) }

-- ---- a call that brings nothing

-- By deeds of x its pair became this one.
abbrev pub StepsTo : Talker → Talker → PairEnds → List Outgoing → (put given : List (List ℕ)) → Type 0
StepsTo x y pair frames put given = (after : Talker) × Stepped x y after frames put given × (after.pair ≡ pair)

pub of_last_line : (x : View) (y : View) (frames : List Outgoing) (after : View) (n t : ℕ → ℕ → List (List ℕ)) (q : PairEnds) → Did x y after frames n t → AreOfLast n q → (b k : ℕ) → ((after.wires b).line k ≡ (x.wires b).line k) ⊎ IsLastAt q b k
of_last_line x y frames after n t q d are b k = elim (are b k) [
  | inl none ↦ inl (d.line b k ∙ (ap (λ ps. (x.wires b).line k ++ ps) none ∙ append-nil ((x.wires b).line k)))
  | inr at ↦ inr at
]

pub talks_stepped : (x y : Talker) (c : Course) (n : ℕ → ℕ → List (List ℕ)) → TalksOn x y c n → AreOfLast n c.pair → ContactSo x.pair c.pair → StepsTo x y c.pair (sent_in c) [] []
talks_stepped x y c n t are contact =
    let d = t.1.did in (
      went_on x t.0 c.pair,
      record {
        does = d.does;
        boot = d.boot;
        told = d.told;
        line = of_last_line x.view y.view (sent_in c) t.0 n none_more c.pair d are;
        talking = t.2;
        put_is = more_none x.put t.0.node;
        given_is = more_none x.given t.0.node;
        contact = contact;
      },
      refl,
    )

-- seen from another link
pub at_facing : (b : ℕ) (x : PairEnds) (i k : ℕ) → x.bearer ≤ 1 → IsLastAt x i k → IsLastAt (facing b x) i k
unfolding facing
at_facing b x i k two at = elim (x.bearer == b) as (λ t. IsLastAt (if t then x else turned x) i k) [ true ↦ at | false ↦ turned_at x i k two at ]

-- at the link of a bearer
at_last : (b : ℕ) (x : PairEnds) (call : PairEnds → Course) (n : ℕ → ℕ → List (List ℕ)) → x.bearer ≤ 1 → NumbersLast (facing b x) (call (facing b x)).pair n → NumbersLast x (at_bearer b x call).pair n
at_last b x call n two k = numbers_facing b x (call (facing b x)).pair n two k

pub mended_at : (b : ℕ) (x : PairEnds) → x.bearer ≤ 1 → KeepsLast x (at_bearer b x mended).pair
mended_at b x two = (at_last b x mended none_more two (quiet_last (facing b x) _ (mended_last (facing b x) (facing b x).near refl))).keeps

pub answered_at : (b : ℕ) (x : PairEnds) (taken : ℕ) (asks : Bool) (shown : BroadcastState) → x.bearer ≤ 1 → KeepsLast x (at_bearer b x (answered_near taken asks shown)).pair
answered_at b x taken asks shown two = (at_last b x (answered_near taken asks shown) none_more two (quiet_last (facing b x) _ (answered_last (facing b x) (facing b x).near taken asks shown refl))).keeps

pub mends_stepped : (x y : Talker) (b : ℕ) → AreTalking x y → StepsTo x y (at_bearer b x.pair mended).pair (sent_in (at_bearer b x.pair mended)) [] []
mends_stepped x y b h = talks_stepped x y (at_bearer b x.pair mended) none_more (mends_talk x y b h) (none_last (at_bearer b x.pair mended).pair) (numbers_so x.pair _ (at_numbers b x.pair mended (near_mended (facing b x.pair) (facing b x.pair).near)))

pub makes_stepped : (x y : Talker) (b : ℕ) → AreTalking x y → (facing b x.pair).near ≡ None → StepsTo x y (at_bearer b x.pair (λ z. nothing_happens (with_made z))).pair [] [] []
makes_stepped x y b h none = talks_stepped x y (at_bearer b x.pair (λ z. nothing_happens (with_made z))) none_more (makes_talk x y b h none) (none_last (at_bearer b x.pair (λ z. nothing_happens (with_made z))).pair) (numbers_so x.pair _ (at_numbers b x.pair (λ z. nothing_happens (with_made z)) (refl, refl)))

pub cuts_stepped : (x y : Talker) (b : ℕ) → AreTalking x y → StepsTo x y (at_bearer b x.pair cut_near).pair (sent_in (at_bearer b x.pair cut_near)) [] []
cuts_stepped x y b h =
    let z = facing b x.pair in
    let two = (of_facing x.view b x.pair h.here.of).two_bearers in
    talks_stepped x y (at_bearer b x.pair cut_near) _ (cuts_talk x y b h) (at_last b x.pair cut_near _ h.here.of.two_bearers (cut_last z two)).numbers
    (contact_quiet x.pair _ (at_quietly b x.pair cut_near (cut_goes z)) (cut_ends_once b x.pair (let is = (cut_at_last z z.near refl).keeps.bearer in omega arith)).once)

pub ticks_stepped : (x y : Talker) (shown : BroadcastState) → AreTalking x y → IsShowable shown → StepsTo x y (ticked shown x.pair).pair (sent_in (ticked shown x.pair)) [] []
ticks_stepped x y shown h showable =
    let two = h.here.of.two_bearers in
    let one = (at_bearer 0 x.pair (tick_near shown)).pair in
    let first = (tick_last 0 x.pair shown two).keeps.bearer in
    let second = (tick_last 1 one shown (omega arith)).keeps.bearer in
    talks_stepped x y (ticked shown x.pair) _ (ticks_talk x y shown h showable) (ticked_last x.pair shown two).numbers (contact_quiet x.pair _ (ticked_goes shown x.pair) (ticked_ends_once shown x.pair (omega arith)).once)

-- a step that keeps the numbers of the pair
pub keeps_of : (x y after : Talker) (frames : List Outgoing) (put given : List (List ℕ)) → AreTalking x y → Stepped x y after frames put given → SameNumbers x.pair after.pair → KeepsLast x.pair after.pair → GoesQuietly x.pair after.pair → Keeps x after
keeps_of x y after frames put given h s same last quiet = record { node = node_kept x y after frames put given h s same.0 same.1; last = last; stays = quiet.stays }
