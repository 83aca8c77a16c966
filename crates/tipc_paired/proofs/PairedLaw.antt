-- Two nodes stay paired, whatever either does.
use Rattle.std.proofs.Common.{◌≡◌, ℕ, [], None, map, refl, sym, ap, ◌∙◌, subst, arith}
use Rattle.tipc_types.specs.Prefixes.{IsPrefixOf}
use Rattle.tipc_contact.specs.Order.{AreInOrder}
use Rattle.tipc_contact.specs.Peers.{ArePeers}
use Rattle.tipc_contact.specs.Sides.{alone, boot_of, first_number}
use Rattle.tipc_contact.proofs.Ordering.{ordered_start, ordered_turned}
use Rattle.tipc_contact.proofs.Sessions.{start as start_peers, turned as turn_peers}
use Rattle.tipc_paired.proofs.wires.Sides.{same_side}
use Rattle.tipc_paired.proofs.sessions.BesideDeeds.{counts_paired, falls_beside_paired, hands_over_paired}
use Rattle.tipc_paired.proofs.sessions.CallDeeds.{calls_paired, turns_paired}
use Rattle.tipc_paired.proofs.contacts.ContactDeeds.{falls_paired, makes_paired, parts_paired, restarts_paired, shows_paired}
use Rattle.tipc_paired.proofs.sessions.RiseDeeds.{rises_paired}
use Rattle.tipc_paired.proofs.sessions.SessionDeeds.{notes_paired, puts_paired, releases_paired}
use Rattle.tipc_paired.proofs.sessions.SessionPackets.{numbers_paired, takes_paired}
use Rattle.tipc_paired.proofs.contacts.TellDeeds.{tells_paired}
use Rattle.tipc_paired.proofs.wires.Wires.{none_some, prefix_same, session_of_none}
use Rattle.tipc_paired.specs.Deeds.{Besides, Changes, DoesDeed, DoesAll, Works, besides, calls, changes, counts, falls, falls_beside, follows, hands_over, makes, nothing, notes, numbers, parts, puts, releases, restarts, rises, rises_beside, shows, takes, tells, turns, works}
use Rattle.tipc_paired.specs.Paired.{ArePaired, IsEpochs, IsHalf, IsNew, IsRecords, IsWire, untaken}
use Rattle.tipc_paired.specs.Views.{Node, View, Wire, fsm_in, notice_of, said_by, side_of, unused}

pub works_paired : (x y x' : View) → ArePaired x y → Works x y x' → ArePaired x' y
works_paired x y _ h (makes b none) = makes_paired x y b h none
works_paired x y _ h (turns b e mended is) = turns_paired x y b e mended h is
works_paired x y _ h (calls b e call is may quiet) = calls_paired x y b e call h is may quiet
works_paired x y _ h (shows number higher fits apart shown) = shows_paired x y number h higher fits apart shown
works_paired x y _ h (releases b e s p up a) = releases_paired x y b e s p h up a
works_paired x y _ h (notes b e s shown unanswered owes up most) = notes_paired x y b e s shown unanswered owes h up most
works_paired x y _ h (numbers b e s up) = numbers_paired x y b e s h up
works_paired x y _ h (tells b o may) = tells_paired x y b o h may

pub changes_paired : (x y x' : View) → ArePaired x y → Changes x y x' → ArePaired x' y
changes_paired x y _ h (rises b e call is may up apart) = rises_paired x y b e call h is may up
changes_paired x y _ h (falls b e call cause is may down) = falls_paired x y b e call cause h is may down
changes_paired x y _ h (parts b e is up) = parts_paired x y b e h is up
changes_paired x y _ h (restarts boot more fits) = restarts_paired x y boot h more fits

pub besides_paired : (x y x' : View) → ArePaired x y → Besides x y x' → ArePaired x' y
besides_paired x y _ h (rises_beside b e call is may up beside) = rises_paired x y b e call h is may up
besides_paired x y _ h (falls_beside b e call cause is may down beside) = falls_beside_paired x y b e call cause h is may down
besides_paired x y _ h (hands_over b e is down) = hands_over_paired x y b e h is down
besides_paired x y _ h (counts b e r more m) = counts_paired x y b e r more h m

pub does_paired : (x y x' : View) → ArePaired x y → DoesDeed x y x' → ArePaired x' y
does_paired x y x' h (works _ w) = works_paired x y x' h w
does_paired x y x' h (changes _ c) = changes_paired x y x' h c
does_paired x y x' h (besides _ c) = besides_paired x y x' h c
does_paired x y _ h (puts b e s waiting up packets) = puts_paired x y b e s waiting h up packets
does_paired x y _ h (takes b e s p number by packet up a is) = takes_paired x y b e s p number by packet h up a is

pub all_paired : (x y x' : View) → ArePaired x y → DoesAll x y x' → ArePaired x' y
all_paired x y _ h nothing = h
all_paired x y x'' h (follows x' _ all one) = does_paired x' y x'' (all_paired x y x' h all) one

-- deeds after deeds
pub all_then : (x y z x' : View) → DoesAll x y z → DoesAll z y x' → DoesAll x y x'
all_then x y z _ first nothing = first
all_then x y z x' first (follows w _ all one) = follows w x' (all_then x y z w first all) one

pub turned : (x y : View) → ArePaired x y → ArePaired y x
turned x y h = record { peers = turn_peers (side_of x) (side_of y) (said_by x) (said_by y) h.peers; order = ordered_turned (side_of x) (side_of y) (said_by x) (said_by y) h.order; here = h.there; there = h.here }

pub prefix : (x y : View) → ArePaired x y → (bearer epoch : ℕ) → IsPrefixOf ((x.wires bearer).got epoch) ((y.wires bearer).line epoch)
prefix x y h bearer epoch = (h.here.wires bearer).prefix epoch

-- ---- the beginning

new_side : (x : View) → IsNew x → side_of x ≡ alone x.node.boot
new_side x h = same_side x.node.contact (first_number x.node.boot) x.node.seen 0 _ _ (sym h.contact) (sym h.seen) (λ b. ap (λ (w : Wire). fsm_in w.end) (h.wires b))

unused_wire : (own : ℕ) → IsWire own unused unused
unused_wire own = record {
  unborn = λ epoch is. refl;
  packets = λ epoch k bytes is. absurd (let wrong : ⊥ = cc in wrong);
  window = λ epoch. omega arith;
  prefix = λ epoch. prefix_same [];
  going = λ s on. absurd (none_some s _ (session_of_none unused refl) on);
  kept = λ e r is has. absurd (let wrong : ⊥ = cc in wrong);
}

unused_records : (n : Node) → IsRecords n unused unused
unused_records n = record { reached = λ epoch. untaken refl; below = λ e r is has. absurd (let wrong : ⊥ = cc in wrong) }

unused_epochs : (n : Node) (b : ℕ) → IsEpochs n b [] [] unused unused
unused_epochs n b = record {
  unborn = λ epoch is. refl;
  some = λ epoch g is. absurd (let wrong : ⊥ = cc in wrong);
  lasts = λ epoch g is. absurd (let wrong : ⊥ = cc in wrong);
  shown = λ epoch g is. absurd (let wrong : ⊥ = cc in wrong);
  now = λ s g on is. absurd (let wrong : ⊥ = cc in wrong);
  named = λ k f there bearer boot. absurd (let wrong : ⊥ = cc in wrong);
  bounded = λ k f g there bearer is. absurd (let wrong : ⊥ = cc in wrong);
  told_in = λ k f g there bearer is. absurd (let wrong : ⊥ = cc in wrong);
  unheld = λ k f e there bearer is own. absurd (let wrong : ⊥ = cc in wrong);
  agree = λ epoch g h g_is h_is back. absurd (let wrong : ⊥ = cc in wrong);
  entered = λ epoch g is k f there before. absurd (let wrong : ⊥ = cc in wrong);
}

new_half : (x y : View) → IsNew x → IsNew y → IsHalf x y
new_half x y h k = record {
  node = record { own = h.own; peer = h.peer; boot = h.boot; contact = ap boot_of h.contact ∙ (let same : boot_of (first_number x.node.boot) ≡ x.node.boot = omega arith in same); seen = (let none = h.seen in omega arith) };
  ends = λ b e is. absurd (let none : (x.wires b).end ≡ None = ap (λ (w : Wire). w.end) (h.wires b) in let wrong : ⊥ = cc in wrong);
  wires = λ b. subst (λ w. IsWire x.node.own w (y.wires b)) (sym (h.wires b)) (subst (λ v. IsWire x.node.own unused v) (sym (k.wires b)) (unused_wire x.node.own));
  records = λ b. subst (λ w. IsRecords x.node w (y.wires b)) (sym (h.wires b)) (subst (λ v. IsRecords x.node unused v) (sym (k.wires b)) (unused_records x.node));
  epochs = λ b. subst (λ fs. IsEpochs x.node b fs y.told (x.wires b) (y.wires b)) (sym h.told) (subst (λ fs. IsEpochs x.node b [] fs (x.wires b) (y.wires b)) (sym k.told)
      (subst (λ w. IsEpochs x.node b [] [] w (y.wires b)) (sym (h.wires b)) (subst (λ v. IsEpochs x.node b [] [] unused v) (sym (k.wires b)) (unused_epochs x.node b))));
  highest = λ b e is. absurd (let none : (x.wires b).end ≡ None = ap (λ (w : Wire). w.end) (h.wires b) in let wrong : ⊥ = cc in wrong);
  frames = λ i f there. absurd (let none = h.told in let wrong : ⊥ = cc in wrong);
}

pub start : (x y : View) → IsNew x → IsNew y → ArePaired x y
start x y h k = record {
  peers = subst (λ s. ArePeers s (said_by x) (side_of y) (said_by y)) (sym (new_side x h)) (subst (λ t. ArePeers (alone x.node.boot) (said_by x) t (said_by y)) (sym (new_side y k))
      (subst (λ ns. ArePeers (alone x.node.boot) ns (alone y.node.boot) (said_by y)) (ap (map notice_of) (sym h.told)) (subst (λ ns. ArePeers (alone x.node.boot) [] (alone y.node.boot) ns) (ap (map notice_of) (sym k.told)) (start_peers x.node.boot y.node.boot))));
  order = subst (λ s. AreInOrder s (said_by x) (side_of y) (said_by y)) (sym (new_side x h)) (subst (λ t. AreInOrder (alone x.node.boot) (said_by x) t (said_by y)) (sym (new_side y k))
      (subst (λ ns. AreInOrder (alone x.node.boot) ns (alone y.node.boot) (said_by y)) (ap (map notice_of) (sym h.told)) (subst (λ ns. AreInOrder (alone x.node.boot) [] (alone y.node.boot) ns) (ap (map notice_of) (sym k.told)) (ordered_start x.node.boot y.node.boot))));
  here = new_half x y h k;
  there = new_half y x k h;
}
