-- The contact in which a turn of a node tells its STATEs and numbered packets: that in which the node was before it, or else that after it.
use Rattle.std.proofs.Common.{◌≡◌, ℕ, true, false, if◌then◌else◌, refl, sym, ap, ◌∙◌, subst, inl, inr, arith}
use Rattle.std.proofs.lemmas.Bool.{cases_Bool}
use Rattle.tipc_outside.specs.declared.outgoing.Outgoing.{Outgoing}
use Rattle.tipc_header.specs.declared.packet.Header.{Header}
use Rattle.tipc_header.specs.declared.packet.Header.TheVariants as header
use Rattle.tipc_header.specs.Frames.{frame_of}
use Rattle.tipc_header.specs.Grammar.{Fits}
use Rattle.tipc_header.specs.Spelling.{Fields, spelling}
use Rattle.tipc_link.specs.Links.{LinkEnd, is_traffic, known, notice_fields, shown_by}
use Rattle.tipc_pair.specs.Facing.{PairEnds, in_contact}
use Rattle.tipc_pair.proofs.Followings.{far_down, near_down}
use Rattle.tipc_paired.proofs.wires.Frames.{same_packet}
use Rattle.tipc_paired.proofs.PairedLaw.{all_paired}
use Rattle.tipc_paired.proofs.contacts.TellDeeds.{notice_fits, shown_fits}
use Rattle.tipc_paired.specs.Deeds.{DoesAll, MayTell, activates, resets, sends, states}
use Rattle.tipc_paired.specs.Paired.{ArePaired}
use Rattle.tipc_paired.specs.Views.{Frame, Node, View}
use Rattle.tipc_two_nodes.proofs.deeds.Pairs.{apart_of}
use Rattle.tipc_two_nodes.specs.deeds.PairDeeds.{IsOfPair}
use Rattle.tipc_two_nodes.specs.Talkers.{AreTalking, Talker}
use Rattle.tipc_two_nodes.proofs.sights.ArrivingOnce.{ContactSo}
use Rattle.tipc_two_nodes.proofs.sights.Behind.{IsToldAt}
use Rattle.tipc_two_nodes.proofs.calls.PairViews.{in_contact_present}
use Rattle.tipc_two_nodes.proofs.sights.Remaining.{HasUp, all_remain, all_rise, apart_up}

-- a RESET or an ACTIVATE is no STATE and no numbered packet
notice_other : (mid y : View) (b : ℕ) (e : LinkEnd) (h : Header) (es er : ℕ) (p : Fields) → ArePaired mid y → Fits (notice_fields e h) → Fits p → frame_of e.fsm.own (known e.fsm.peer) (spelling (notice_fields e h)) ≡ frame_of es er (spelling p) → is_traffic h ≡ false → is_traffic p.header ≡ true → ⊥
notice_other mid y b e h es er p paired fits fits' bytes notice traffic =
    let same = same_packet e.fsm.own (known e.fsm.peer) es er (notice_fields e h) p fits fits' bytes in
    let wrong : false ≡ true = sym notice ∙ ap (λ (q : Fields). is_traffic q.header) same ∙ traffic in
    let no : ⊥ = cc in
    no

-- a link is up where one is told
traffic_up : (mid y : View) (b es er : ℕ) (o : Outgoing) (p : Fields) → ArePaired mid y → MayTell (mid.wires b) o → Fits p → o.frame ≡ frame_of es er (spelling p) → is_traffic p.header ≡ true → HasUp mid
traffic_up mid y b es er _ p h (resets e is unheld) fits bytes traffic =
    let end = h.here.ends b e is in
    absurd (notice_other mid y b e (header.Reset (shown_by e)) es er p h (notice_fits mid.node b e (header.Reset (shown_by e)) h.here.node end (shown_fits mid.node b e h.here.node end) (refl, refl) refl (omega arith)) fits bytes refl traffic)
traffic_up mid y b es er _ p h (activates e is unheld) fits bytes traffic =
    let end = h.here.ends b e is in
    absurd (notice_other mid y b e (header.Activate (shown_by e)) es er p h (notice_fits mid.node b e (header.Activate (shown_by e)) h.here.node end (shown_fits mid.node b e h.here.node end) (refl, refl) refl (omega arith)) fits bytes refl traffic)
traffic_up mid y b es er _ p h (states s shown probe on showable) fits bytes traffic = record { bearer = b; session = s; session_is = on }
traffic_up mid y b es er _ p h (sends s k packet on there) fits bytes traffic = record { bearer = b; session = s; session_is = on }

-- ---- a node and its pair

pair_up : (v y : View) (p : PairEnds) → ArePaired v y → IsOfPair v p → in_contact p ≡ true → HasUp v
pair_up v y p h of up = (let k = in_contact_present v y p h of up in record { bearer = k.bearer; session = k.session; session_is = k.session_is })

up_pair : (v : View) (p : PairEnds) → IsOfPair v p → HasUp v → in_contact p ≡ true
up_pair v p of up = elim (cases_Bool (in_contact p)) [
  | inl there ↦ there
  | inr down ↦ absurd (apart_up v (apart_of v p of (near_down p down) (far_down p down)) up)
]

-- these are the contact numbers of a frame
abbrev pub IsIn : Frame → Node → Type 0
IsIn f n = (f.contact ≡ n.contact) × (f.peer_contact ≡ n.seen)

in_same : (f : Frame) (n m : Node) → m ≡ n → IsIn f m → IsIn f n
in_same f n m same is = subst (IsIn f) same is

-- what became of the contact between the beginning of a turn, the moment at which a frame was told, and the end
before_it : (x y after : Talker) (f : Frame) (mid : View) → AreTalking x y → DoesAll x.view y.view mid → DoesAll mid y.view after.view → AreTalking after y → ContactSo x.pair after.pair → HasUp mid → in_contact x.pair ≡ true → IsIn f mid.node → IsIn f x.view.node
before_it x y after f mid h first last k so up was is =
    let paired = h.twins.paired in
    let start = pair_up x.view y.view x.pair paired h.here.of was in
    elim (all_remain x.view y.view mid paired start first) [
      | inl same ↦ in_same f x.view.node mid.node same.0 is
      | inr later ↦ elim (all_remain mid y.view after.view (all_paired x.view y.view mid paired first) up last) [
        | inl still ↦
            let lasts = so.lasts was (up_pair after.view after.pair k.here.of still.1) in
            let was_is = h.here.of.contact in
            let now_is = k.here.of.contact in
            let same = ap (λ (n : Node). n.contact) still.0 in
            let contact = lasts.0 in
            absurd (let wrong : ⊥ = omega arith in wrong)
        | inr over ↦
            let was_is = h.here.of.contact in
            let now_is = k.here.of.contact in
            absurd (elim so.once [
              | inl same ↦ (let wrong : ⊥ = omega arith in wrong)
              | inr left ↦ (let once = left.1 in let wrong : ⊥ = omega arith in wrong)
            ])
      ]
    ]

behind_it : (x y after : Talker) (f : Frame) (mid : View) → AreTalking x y → DoesAll x.view y.view mid → DoesAll mid y.view after.view → AreTalking after y → ContactSo x.pair after.pair → HasUp mid → in_contact x.pair ≡ false → IsIn f mid.node → IsIn f after.view.node
behind_it x y after f mid h first last k so up out is =
    let paired = h.twins.paired in
    elim (all_remain mid y.view after.view (all_paired x.view y.view mid paired first) up last) [
      | inl still ↦ in_same f after.view.node mid.node (sym still.0) is
      | inr over ↦
          let rise = all_rise x.view y.view mid paired first in
          let was_is = h.here.of.contact in
          let now_is = k.here.of.contact in
          absurd (elim so.once [
            | inl same ↦ (let wrong : ⊥ = omega arith in wrong)
            | inr left ↦ (let wrong : true ≡ false = sym left.0 ∙ out in let no : ⊥ = cc in no)
          ])
    ]

-- the node's numbers before the turn, where it was in contact, or else those after it
abbrev pub turn_node : Talker → Talker → Node
turn_node x after = if in_contact x.pair then x.view.node else after.view.node

pub told_in_turn : (x y after : Talker) (f : Frame) (es er : ℕ) (p : Fields) → AreTalking x y → AreTalking after y → ContactSo x.pair after.pair → IsToldAt x.view y.view after.view f → Fits p → f.bytes ≡ frame_of es er (spelling p) → is_traffic p.header ≡ true → IsIn f (turn_node x after)
told_in_turn x y after f es er p h k so t fits bytes traffic =
    let mid_paired = all_paired x.view y.view t.mid h.twins.paired t.before in
    let same : t.frame.frame ≡ f.bytes = ap (λ (g : Frame). g.bytes) (sym t.is) in
    let up = traffic_up t.mid y.view t.bearer es er t.frame p mid_paired t.may fits (same ∙ bytes) traffic in
    let is : IsIn f t.mid.node = (ap (λ (g : Frame). g.contact) t.is, ap (λ (g : Frame). g.peer_contact) t.is) in
    elim (in_contact x.pair) as (λ c. in_contact x.pair ≡ c → IsIn f (if c then x.view.node else after.view.node)) [
      | true ↦ λ was. before_it x y after f t.mid h t.before t.behind k so up was is
      | false ↦ λ out. behind_it x y after f t.mid h t.before t.behind k so up out is
    ] refl
