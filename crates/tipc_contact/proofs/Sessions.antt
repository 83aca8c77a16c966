-- Two sides, and the contact of a session.
use Rattle.std.proofs.Common.{◌≡◌, ℕ, false, List, [], ◌∷◌, ◌++◌, Some, sym, ap, ◌∙◌, subst, arith}
use Rattle.std.specs.Prelude.{slice_get}
use Rattle.tipc_link_fsm.specs.Table.{Fsm, is_last}
use Rattle.tipc_contact.specs.Sides.{acted, alone, Action, IsSaid, IsNoticed, MayAct, Notice, Side}
use Rattle.tipc_contact.specs.Peers.{ArePeers, Speaks}
use Rattle.tipc_contact.proofs.Knowing.{knows_alone, knows_heard, knows_on, knows_said}
use Rattle.tipc_contact.proofs.Speaking.{speaks_alone, speaks_more, speaks_on}

pub start : (a b : ℕ) → ArePeers (alone a) [] (alone b) []
start a b = record { a_speaks = speaks_alone a; b_speaks = speaks_alone b; a_knows = knows_alone a []; b_knows = knows_alone b [] }

pub acts : (a b : Side) (said_a said_b : List Notice) (action : Action) → ArePeers a said_a b said_b → MayAct a said_b action → ArePeers (acted a action) said_a b said_b
acts a b said_a said_b action h may = record {
  a_speaks = speaks_on a said_a said_b action h.a_speaks may;
  b_speaks = h.b_speaks;
  a_knows = knows_on a said_a said_b action h.a_knows may;
  b_knows = h.b_knows;
}

pub says : (a b : Side) (said_a said_b : List Notice) (m : Notice) → ArePeers a said_a b said_b → IsSaid a m → ArePeers a (said_a ++ m ∷ []) b said_b
says a b said_a said_b m h is = record {
  a_speaks = speaks_more a said_a m h.a_speaks is;
  b_speaks = h.b_speaks;
  a_knows = knows_said a said_a said_b m h.a_knows is;
  b_knows = knows_heard b said_b said_a m h.b_knows;
}

pub turned : (a b : Side) (said_a said_b : List Notice) → ArePeers a said_a b said_b → ArePeers b said_b a said_a
turned a b said_a said_b h = record { a_speaks = h.b_speaks; b_speaks = h.a_speaks; a_knows = h.b_knows; b_knows = h.a_knows }

-- the contact number under which an epoch was told is that of the epoch
told_contact : (s : Side) (said : List Notice) (bearer epoch contact : ℕ) (h : Speaks s said) → IsNoticed said bearer epoch contact → is_last epoch ≡ false → h.contact_of bearer epoch ≡ contact
told_contact s said bearer epoch contact h t goes_on =
    ap (λ b. h.contact_of b epoch) (sym t.bearer_is)
    ∙ ap (h.contact_of t.notice.bearer) (sym t.epoch_is)
    ∙ h.shown t.place t.notice t.there (subst (λ e. is_last e ≡ false) (sym t.epoch_is) goes_on)
    ∙ t.contact_is

pub sent_in_contact : (a b : Side) (said_a said_b : List Notice) → ArePeers a said_a b said_b → (place : ℕ) (m : Notice) (end : Fsm) → slice_get said_a place ≡ Some m
    → b.ends m.bearer ≡ Some end → end.peer ≡ Some m.es → m.er ≡ end.own → is_last m.es ≡ false → is_last end.own ≡ false → (m.contact ≡ b.seen) × (m.peer_contact ≡ b.own)
sent_in_contact a b said_a said_b h place m end there is peer own goes_on goes_on_end =
    let order = h.b_speaks.order m.bearer end is in
    let some = h.b_speaks.some in
    let named = h.a_knows.named place m there (omega arith) in
    let sent : h.a_speaks.contact_of m.bearer m.es ≡ m.contact = h.a_speaks.shown place m there goes_on in
    let told = told_contact a said_a m.bearer m.es b.seen h.a_speaks (h.b_knows.told m.bearer m.es end is peer) goes_on in
    let seen = told_contact b said_b m.bearer m.er m.peer_contact h.b_speaks named (subst (λ e. is_last e ≡ false) (sym own) goes_on_end) in
    let now : h.b_speaks.contact_of m.bearer end.own ≡ b.own = h.b_speaks.now m.bearer end is goes_on_end in
    (sym sent ∙ told, sym seen ∙ ap (h.b_speaks.contact_of m.bearer) own ∙ now)

pub now_in_contact : (a b : Side) (said_a said_b : List Notice) → ArePeers a said_a b said_b → (bearer : ℕ) (one other : Fsm) → a.ends bearer ≡ Some one → b.ends bearer ≡ Some other
    → one.peer ≡ Some other.own → other.peer ≡ Some one.own → is_last one.own ≡ false → is_last other.own ≡ false → (a.own ≡ b.seen) × (b.own ≡ a.seen)
now_in_contact a b said_a said_b h bearer one other is_one is_other peer_one peer_other goes_on_one goes_on_other = (
  sym (h.a_speaks.now bearer one is_one goes_on_one) ∙ told_contact a said_a bearer one.own b.seen h.a_speaks (h.b_knows.told bearer one.own other is_other peer_other) goes_on_one,
  sym (h.b_speaks.now bearer other is_other goes_on_other) ∙ told_contact b said_b bearer other.own a.seen h.b_speaks (h.a_knows.told bearer other.own one is_one peer_one) goes_on_other,
)
