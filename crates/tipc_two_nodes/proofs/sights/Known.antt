-- Two nodes know nothing of each other above what the other has; and a contact number and an epoch of it tell of each other.
use Rattle.std.proofs.Common.{◌≡◌, ◌<◌, ◌≤◌, ℕ, false, Option, Some, None, refl, sym, ap, ◌∙◌, subst, inl, inr, arith}
use Rattle.std.specs.Prelude.{slice_get}
use Rattle.tipc_link.specs.Links.{LinkEnd}
use Rattle.tipc_link_fsm.specs.Table.{is_last}
use Rattle.tipc_pair.specs.Facing.{in_contact, is_up_at}
use Rattle.tipc_paired.proofs.contacts.Mutual.{told_past, told_under}
use Rattle.tipc_paired.proofs.PairedLaw.{turned as turned_pair}
use Rattle.tipc_paired.proofs.wires.Wires.{epoch_of_end, epoch_of_none, map_at}
use Rattle.tipc_paired.specs.Paired.{ArePaired, IsUnder, IsHeardEpoch}
use Rattle.tipc_paired.specs.Views.{Frame, IsApart, Node, View, epoch_in, es_of, fsm_in, notice_of}
use Rattle.tipc_two_nodes.specs.Carriages.{Numbers}
use Rattle.tipc_two_nodes.specs.Known.{ContactTellsPresent, NothingHigherIsKnown, PresentTellsContact}
use Rattle.tipc_two_nodes.specs.Numbers.{AreNumbers}
use Rattle.tipc_two_nodes.proofs.calls.PairViews.{or_false}
use Rattle.tipc_two_nodes.proofs.deeds.Pairs.{apart_of}
use Rattle.tipc_two_nodes.proofs.sights.Ordered.{seen_no_higher}

-- ---- two views

-- a frame of y was told under an epoch below the number with which its link end will be made
told_before : (x y : View) (b k : ℕ) (f : Frame) → ArePaired x y → slice_get y.told k ≡ Some f → f.bearer ≡ b → (y.wires b).end ≡ None → es_of f.bytes < y.node.contact
told_before x y b k f h there bearer none =
    h.peers.b_speaks.before k (notice_of f) (map_at notice_of y.told k f there) (ap (λ c. fsm_in (y.wires c).end) bearer ∙ ap fsm_in none)

some_contact : (x y : View) → ArePaired x y → 1 ≤ y.node.contact
some_contact x y h = h.peers.b_speaks.some

-- an epoch of y that was told is no higher than that of its link end, and lower than the number of one that isn't made
no_higher : (x y : View) (b epoch : ℕ) → ArePaired x y → IsHeardEpoch y.told b epoch → (d : LinkEnd) → (y.wires b).end ≡ Some d → epoch ≤ d.fsm.own
no_higher x y b epoch h (inl none) d is = omega (arith, none)
no_higher x y b epoch h (inr t) d is =
    let f = t.1 in
    let past = told_past y x b f.place f.frame d (turned_pair x y h) f.there f.bearer_is is in
    let es = f.es_is in
    omega (arith, past, es)

lower : (x y : View) (b epoch : ℕ) → ArePaired x y → IsHeardEpoch y.told b epoch → (y.wires b).end ≡ None → epoch < y.node.contact
lower x y b epoch h (inl none) is = let some = some_contact x y h in omega (arith, none, some)
lower x y b epoch h (inr t) is =
    let f = t.1 in
    let low = told_before x y b f.place f.frame h f.there f.bearer_is is in
    let es = f.es_is in
    omega (arith, low, es)

-- an epoch that x knows was told under the highest number that x has seen
knows_under : (x y : View) (b epoch : ℕ) (e : LinkEnd) → ArePaired x y → (x.wires b).end ≡ Some e → e.fsm.peer ≡ Some epoch → IsUnder y.told b epoch x.node.seen
knows_under x y b epoch e h is peer = told_under y b epoch x.node.seen (h.peers.a_knows.told b epoch e.fsm (ap fsm_in is) peer)

-- where it is the present one, but the last one of a boot, that number is the present one of y
contact_of_present : (x y : View) (b : ℕ) (e d : LinkEnd) → ArePaired x y → (x.wires b).end ≡ Some e → (y.wires b).end ≡ Some d → e.fsm.peer ≡ Some d.fsm.own → is_last d.fsm.own ≡ false → x.node.seen ≡ y.node.contact
contact_of_present x y b e d h is there peer goes_on =
    let speaks = h.peers.b_speaks in
    let t = knows_under x y b d.fsm.own e h is peer in
    let f = t.frame in
    let shown = speaks.shown t.place (notice_of f) (map_at notice_of y.told t.place f t.there) (ap is_last t.es_is ∙ goes_on) in
    let now = speaks.now b d.fsm (ap fsm_in there) goes_on in
    sym t.contact_is ∙ sym shown ∙ ap (λ c. speaks.contact_of c (es_of f.bytes)) t.bearer_is ∙ ap (speaks.contact_of b) t.es_is ∙ now

-- where y has no contact, and x has seen its number, the epoch that x knows is the present one
present_of_contact : (x y : View) (n : Numbers) (b epoch : ℕ) (e : LinkEnd) → ArePaired x y → AreNumbers y x n → IsApart y → x.node.seen ≡ y.node.contact → (x.wires b).end ≡ Some e → e.fsm.peer ≡ Some epoch
    → (d : LinkEnd) × ((y.wires b).end ≡ Some d) × (d.fsm.own ≡ epoch)
present_of_contact x y n b epoch e h are apart same is peer = by (y.wires b).end refl
  where
    by : (o : Option LinkEnd) → (y.wires b).end ≡ o → (d : LinkEnd) × (o ≡ Some d) × (d.fsm.own ≡ epoch)
    by None none = absurd (
        let t = knows_under x y b epoch e h is peer in
        let timely = are.frames t.place t.frame t.there in
        let first = are.apart apart b in
        let now = epoch_of_none y.node (y.wires b) none in
        let low : n.first b y.node.contact ≤ es_of t.frame.bytes = subst (λ c. n.first b c ≤ es_of t.frame.bytes) (t.contact_is ∙ same) (subst (λ c. n.first c t.frame.contact ≤ es_of t.frame.bytes) t.bearer_is timely.no_lower) in
        let high = told_before x y b t.place t.frame h t.there t.bearer_is none in
        let wrong : ⊥ = omega (arith, first, now, low, high) in
        wrong)
    by (Some d) there =
        let t = knows_under x y b epoch e h is peer in
        let timely = are.frames t.place t.frame t.there in
        let first = are.apart apart b in
        let now = epoch_of_end y.node (y.wires b) d there in
        let low : n.first b y.node.contact ≤ es_of t.frame.bytes = subst (λ c. n.first b c ≤ es_of t.frame.bytes) (t.contact_is ∙ same) (subst (λ c. n.first c t.frame.contact ≤ es_of t.frame.bytes) t.bearer_is timely.no_lower) in
        let high = told_past y x b t.place t.frame d (turned_pair x y h) t.there t.bearer_is there in
        let es = t.es_is in
        (d, refl, omega (arith, first, now, low, high, es))

-- ---- as a world tells of them

pub nothing_higher_is_known : NothingHigherIsKnown
nothing_higher_is_known v w h =
    let x = h.here.view in
    let y = h.there.view in
    let paired = h.talking.twins.paired in
    let contact : y.node.contact ≡ w.node.contact = ap (λ (n : Node). n.contact) h.seen_there.node in
    record {
      seen = seen_no_higher v w h;
      highest = λ b e is. by contact (w.ends b) b e is refl;
      unmade = λ b e is none.
          let low = lower x y b e.fsm.highest paired (paired.here.highest b e (h.seen_here.ends b ∙ is)) (h.seen_there.ends b ∙ none) in
          omega (arith, low, contact);
    }
  where
    by : h.there.view.node.contact ≡ w.node.contact → (o : Option LinkEnd) (b : ℕ) (e : LinkEnd) → v.ends b ≡ Some e → w.ends b ≡ o → e.fsm.highest ≤ epoch_in w.node.contact o
    by contact None b e is none =
        let paired = h.talking.twins.paired in
        let low = lower h.here.view h.there.view b e.fsm.highest paired (paired.here.highest b e (h.seen_here.ends b ∙ is)) (h.seen_there.ends b ∙ none) in
        omega (arith, low, contact)
    by contact (Some d) b e is there =
        let paired = h.talking.twins.paired in
        no_higher h.here.view h.there.view b e.fsm.highest paired (paired.here.highest b e (h.seen_here.ends b ∙ is)) d (h.seen_there.ends b ∙ there)

pub present_tells_contact : PresentTellsContact
present_tells_contact v w b e d h is there peer goes_on =
    ap (λ (n : Node). n.seen) (sym h.seen_here.node)
    ∙ contact_of_present h.here.view h.there.view b e d h.talking.twins.paired (h.seen_here.ends b ∙ is) (h.seen_there.ends b ∙ there) peer goes_on
    ∙ ap (λ (n : Node). n.contact) h.seen_there.node

pub contact_tells_present : ContactTellsPresent
contact_tells_present v w b epoch e h down same is peer =
    let both = or_false (is_up_at h.there.pair.near) (is_up_at h.there.pair.far) (ap in_contact h.seen_there.pair ∙ down) in
    let apart = apart_of h.there.view h.there.pair h.talking.there.of both.0 both.1 in
    let met = ap (λ (n : Node). n.seen) h.seen_here.node ∙ same ∙ ap (λ (n : Node). n.contact) (sym h.seen_there.node) in
    let d = present_of_contact h.here.view h.there.view h.talking.twins.there b epoch e h.talking.twins.paired h.talking.twins.numbers_there apart met (h.seen_here.ends b ∙ is) peer in
    (d.0, sym (h.seen_there.ends b) ∙ d.1, d.2)
