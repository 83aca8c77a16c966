-- While a link of a node is up, its contact remains what it is, or is over for good.
use Rattle.std.proofs.Common.{◌≡◌, ◌≤◌, ◌<◌, ◌+◌, ◌⊎◌, ℕ, false, true, Some, option_map, refl, sym, ap, ◌∙◌, inl, inr, arith}
use Rattle.tipc_link_fsm.specs.Runs.{outcome}
use Rattle.tipc_link.specs.Links.{LinkEnd, after}
use Rattle.tipc_link.specs.Sessions.{SessionEnd, brought, flushed, after_acknowledgement, took}
use Rattle.tipc_paired.proofs.sessions.CallDeeds.{calls_on, turns_on}
use Rattle.tipc_paired.proofs.PairedLaw.{all_paired}
use Rattle.tipc_paired.proofs.contacts.RestartDeeds.{restarts_leaves}
use Rattle.tipc_paired.proofs.wires.Wires.{is_up_of, on_put, put_other, session_of_up}
use Rattle.tipc_paired.specs.Deeds.{Besides, Changes, DoesDeed, DoesAll, IsBeside, Works, besides, calls, changes, counts, ended_with, falls, falls_beside, follows, forgot_with, hands_over, makes, notes, nothing, numbers, parted_view, parts, puts, releases, restarts, rises, rises_beside, risen_view, shows, takes, tells, turns, with_taken, works}
use Rattle.tipc_paired.specs.Paired.{ArePaired}
use Rattle.tipc_paired.specs.Views.{IsApart, Node, View, Wire, put_at, session_on, with_end, with_wire}
use Rattle.tipc_two_nodes.proofs.steps.BesideSteps.{counts_keeps, hands_keeps}
use Rattle.tipc_two_nodes.proofs.calls.Chaining.{IsLater, boots, contacts, order_of, shown}
use Rattle.tipc_two_nodes.proofs.steps.WireSteps.{KeepsOn, goes_keeps, makes_keeps, onward, session_keeps}

-- a link is up
pub record HasUp (x : View) : Type 0 where
  pub bearer : ℕ
  pub session : SessionEnd
  pub session_is : session_on (x.wires bearer) ≡ Some session

-- the node is in the same contact, or it has a later number
abbrev pub Remains : View → View → Type 0
Remains x v = ((v.node ≡ x.node) × HasUp v) ⊎ (x.node.contact < v.node.contact)

up_on : (x : View) (b : ℕ) (w' : Wire) → KeepsOn x.node (x.wires b) w' → HasUp x → Remains x (with_wire x b w')
up_on x b w' k h = (let on = onward x b w' k h.bearer h.session h.session_is in inl (refl, record { bearer = h.bearer; session = on.0; session_is = on.1 }))

-- no link is up
pub apart_up : (x : View) → IsApart x → HasUp x → ⊥
apart_up x apart h =
    let up = is_up_of (x.wires h.bearer) h.session h.session_is in
    let wrong : true ≡ false = sym up.1.up ∙ apart h.bearer up.0 up.1.end_is in
    let no : ⊥ = cc in
    no

-- another link is up, whatever became of this one
beside_up : (x y : View) (b : ℕ) (w' : Wire) → ArePaired x y → IsBeside x b → Remains x (with_wire x b w')
beside_up x y b w' h s =
    let going = (h.here.ends s.other s.end s.end_is).going s.up in
    let on = session_of_up (x.wires s.other) s.end going.0 (record { end_is = s.end_is; up = s.up; session_is = going.1 }) in
    inl (refl, record { bearer = s.other; session = going.0; session_is = ap session_on (put_other x.wires b w' s.other s.elsewhere) ∙ on })

works_remain : (x y v : View) → ArePaired x y → HasUp x → Works x y v → Remains x v
works_remain x y _ h up (makes b none) = up_on x b _ (makes_keeps x b none) up
works_remain x y _ h up (turns b e mended is) = up_on x b _ (goes_keeps x.node (x.wires b) e (record e { mended = mended }) (turns_on (x.wires b) e mended is)) up
works_remain x y _ h up (calls b e call is may quiet) = up_on x b _ (goes_keeps x.node (x.wires b) e (after e (outcome e.fsm call)) (calls_on x y b e call is may quiet)) up
works_remain x y _ h up (shows number higher fits apart heard) = absurd (apart_up x apart up)
works_remain x y _ h up (releases b e s p on heard) = up_on x b _ (session_keeps x.node (x.wires b) e s (after_acknowledgement s p.acknowledgement) (x.wires b).line (x.wires b).got on) up
works_remain x y _ h up (notes b e s seen unanswered owes on most) = up_on x b _ (session_keeps x.node (x.wires b) e s (record s { shown = seen; unanswered = unanswered; owes = owes }) (x.wires b).line (x.wires b).got on) up
works_remain x y _ h up (numbers b e s on) = up_on x b _ (session_keeps x.node (x.wires b) e s (flushed s) (put_at (x.wires b).line s.epoch _) (x.wires b).got on) up
works_remain x y _ h up (tells b o may) = inl (refl, record { bearer = up.bearer; session = up.session; session_is = up.session_is })

changes_remain : (x y v : View) → ArePaired x y → HasUp x → Changes x y v → Remains x v
changes_remain x y _ h up (rises b e call is may rise apart) = absurd (apart_up x apart up)
changes_remain x y _ h up (falls b e call cause is may down) = inr (omega arith)
changes_remain x y _ h up (parts b e is on) = inr (omega arith)
changes_remain x y _ h up (restarts boot more fits) = inr (restarts_leaves x y boot h more).contact

besides_remain : (x y v : View) → ArePaired x y → HasUp x → Besides x y v → Remains x v
besides_remain x y _ h up (rises_beside b e call is may rise beside) = beside_up x y b _ h beside
besides_remain x y _ h up (falls_beside b e call cause is may down beside) = beside_up x y b _ h beside
besides_remain x y _ h up (hands_over b e is down) = up_on x b _ (hands_keeps x b e is down) up
besides_remain x y _ h up (counts b e r more c) = up_on x b _ (counts_keeps x y b e r more c) up

does_remain : (x y v : View) → ArePaired x y → HasUp x → DoesDeed x y v → Remains x v
does_remain x y _ h up (works v w) = works_remain x y v h up w
does_remain x y _ h up (changes v c) = changes_remain x y v h up c
does_remain x y _ h up (besides v c) = besides_remain x y v h up c
does_remain x y _ h up (puts b e s waiting on packets) = up_on x b _ (session_keeps x.node (x.wires b) e s (record s { sending = record s.sending { waiting = waiting } }) (x.wires b).line (x.wires b).got on) up
does_remain x y _ h up (takes b e s p number by packet on heard carries) =
    up_on x b _ (session_keeps x.node (x.wires b) e s (took s (brought number packet by)) (x.wires b).line (with_taken (x.wires b) e s (brought number packet by)).got on) up

-- ---- contact numbers never fall

does_rise : (x y v : View) → ArePaired x y → DoesDeed x y v → x.node.contact ≤ v.node.contact
does_rise x y _ h (works _ (makes b none)) = omega arith
does_rise x y _ h (works _ (turns b e mended is)) = omega arith
does_rise x y _ h (works _ (calls b e call is may quiet)) = omega arith
does_rise x y _ h (works _ (shows number higher fits apart heard)) = omega arith
does_rise x y _ h (works _ (releases b e s p up heard)) = omega arith
does_rise x y _ h (works _ (notes b e s seen unanswered owes up most)) = omega arith
does_rise x y _ h (works _ (numbers b e s up)) = omega arith
does_rise x y _ h (works _ (tells b o may)) = omega arith
does_rise x y _ h (changes _ (rises b e call is may up apart)) = omega arith
does_rise x y _ h (changes _ (falls b e call cause is may down)) = omega arith
does_rise x y _ h (changes _ (parts b e is up)) = omega arith
does_rise x y _ h (changes _ (restarts boot more fits)) = (let later = (restarts_leaves x y boot h more).contact in omega arith)
does_rise x y _ h (besides _ (rises_beside b e call is may up beside)) = omega arith
does_rise x y _ h (besides _ (falls_beside b e call cause is may down beside)) = omega arith
does_rise x y _ h (besides _ (hands_over b e is down)) = omega arith
does_rise x y _ h (besides _ (counts b e r more c)) = omega arith
does_rise x y _ h (puts b e s waiting up packets) = omega arith
does_rise x y _ h (takes b e s p number by packet up heard carries) = omega arith

pub all_rise : (x y v : View) → ArePaired x y → DoesAll x y v → x.node.contact ≤ v.node.contact
all_rise x y _ h nothing = omega arith
all_rise x y v h (follows mid _ all one) = (let first = all_rise x y mid h all in let last = does_rise mid y v (all_paired x y mid h all) one in omega arith)

pub all_remain : (x y v : View) → ArePaired x y → HasUp x → DoesAll x y v → Remains x v
all_remain x y _ h up nothing = inl (refl, up)
all_remain x y v h up (follows mid _ all one) =
    let k = all_paired x y mid h all in
    elim (all_remain x y mid h up all) [
      | inr later ↦ inr (let last = does_rise mid y v k one in omega arith)
      | inl same ↦ elim (does_remain mid y v k same.1 one) [
        | inl again ↦ inl (again.0 ∙ same.0, again.1)
        | inr later ↦ inr (let was = ap (λ (n : Node). n.contact) same.0 in omega arith)
      ]
    ]

-- ---- a link end that is made stays

abbrev pub HasEnd : Wire → Type 0
HasEnd w = (e : LinkEnd) × (w.end ≡ Some e)

-- or the node is restarted
abbrev pub EndStays : View → View → Type 0
EndStays x v = ((b : ℕ) → HasEnd (x.wires b) → HasEnd (v.wires b)) ⊎ (x.node.boot < v.node.boot)

put_stays : (x : View) (b : ℕ) (w' : Wire) → HasEnd w' → EndStays x (with_wire x b w')
put_stays x b w' has = inl (on_put x.wires b w' (λ c (w : Wire). HasEnd (x.wires c) → HasEnd w) (λ h. has) (λ c h. h))

mapped_has : (f : LinkEnd → LinkEnd) (w v : Wire) → v.end ≡ option_map f w.end → HasEnd w → HasEnd v
mapped_has f w v same h = (f h.0, same ∙ ap (option_map f) h.1)

parted_has : (x : View) (b : ℕ) → HasEnd (x.wires b) → HasEnd ((parted_view x).wires b)
parted_has x b h = mapped_has (ended_with (x.node.contact + 1)) (x.wires b) ((parted_view x).wires b) refl h

does_stay : (x y v : View) → DoesDeed x y v → EndStays x v
does_stay x y _ (works _ (makes b none)) = put_stays x b _ (_, refl)
does_stay x y _ (works _ (turns b e mended is)) = put_stays x b _ (_, refl)
does_stay x y _ (works _ (calls b e call is may quiet)) = put_stays x b _ (_, refl)
does_stay x y _ (works _ (shows number higher fits apart heard)) = inl (λ b h. mapped_has (forgot_with number) (x.wires b) ((risen_view x number).wires b) refl h)
does_stay x y _ (works _ (releases b e s p up heard)) = put_stays x b _ (_, refl)
does_stay x y _ (works _ (notes b e s seen unanswered owes up most)) = put_stays x b _ (_, refl)
does_stay x y _ (works _ (numbers b e s up)) = put_stays x b _ (_, refl)
does_stay x y _ (works _ (tells b o may)) = inl (λ b h. h)
does_stay x y _ (changes _ (rises b e call is may up apart)) = put_stays x b _ (_, refl)
does_stay x y _ (changes _ (falls b e call cause is may down)) = elim (put_stays x b (with_end (x.wires b) (after e (outcome e.fsm call))) (_, refl)) [
  | inl stays ↦ inl (λ c h. parted_has (with_wire x b (with_end (x.wires b) (after e (outcome e.fsm call)))) c (stays c h))
  | inr later ↦ inr later
]
does_stay x y _ (changes _ (parts b e is up)) = inl (λ c h. parted_has x c h)
does_stay x y _ (changes _ (restarts boot more fits)) = inr more
does_stay x y _ (besides _ (rises_beside b e call is may up beside)) = put_stays x b _ (_, refl)
does_stay x y _ (besides _ (falls_beside b e call cause is may down beside)) = put_stays x b _ (_, refl)
does_stay x y _ (besides _ (hands_over b e is down)) = put_stays x b _ (_, refl)
does_stay x y _ (besides _ (counts b e r more c)) = put_stays x b _ (_, refl)
does_stay x y _ (puts b e s waiting up packets) = put_stays x b _ (_, refl)
does_stay x y _ (takes b e s p number by packet up heard carries) = put_stays x b _ (_, refl)

-- boots never fall
does_boot : (x y v : View) → DoesDeed x y v → x.node.boot ≤ v.node.boot
does_boot x y v one = elim (order_of x y v one) [
  | inl same ↦ (let boot = ap (λ (n : Node). n.boot) same in omega arith)
  | inr later ↦ by_later x.node v.node later
] where
  by_later : (m n : Node) → IsLater m n → m.boot ≤ n.boot
  by_later m n (boots more) = omega arith
  by_later m n (contacts same more) = omega arith
  by_later m n (shown same own more) = omega arith

all_boot : (x y v : View) → DoesAll x y v → x.node.boot ≤ v.node.boot
all_boot x y _ nothing = omega arith
all_boot x y v (follows mid _ all one) = (let first = all_boot x y mid all in let last = does_boot mid y v one in omega arith)

pub all_stay : (x y v : View) → DoesAll x y v → EndStays x v
all_stay x y _ nothing = inl (λ b h. h)
all_stay x y v (follows mid _ all one) = elim (all_stay x y mid all) [
  | inr later ↦ inr (let last = does_boot mid y v one in omega arith)
  | inl first ↦ elim (does_stay mid y v one) [
    | inl last ↦ inl (λ b h. last b (first b h))
    | inr later ↦ inr (let before = all_boot x y mid all in omega arith)
  ]
]

-- a node that isn't restarted has the ends then that it had between
pub ends_between : (x mid y v : View) → DoesAll x y mid → DoesAll mid y v → v.node.boot ≡ x.node.boot → (b : ℕ) → HasEnd (mid.wires b) → HasEnd (v.wires b)
ends_between x mid y v first last same b h = elim (all_stay mid y v last) [
  | inl stays ↦ stays b h
  | inr later ↦ absurd (let before = all_boot x y mid first in let wrong : ⊥ = omega arith in wrong)
]
