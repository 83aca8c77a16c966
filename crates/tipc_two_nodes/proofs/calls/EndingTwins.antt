-- A contact ends, or a node restarts or learns a higher number of its peer: the two stay what they are to each other.
use Rattle.std.proofs.Common.{◌≡◌, ◌<◌, ◌≤◌, ◌+◌, ◌^◌, ℕ, true, false, Some, sym, ap, ◌∙◌, subst, arith}
use Rattle.std.specs.Prelude.{slice_get}
use Rattle.tipc_types.specs.LinkStates.{is_up}
use Rattle.tipc_types.specs.declared.link_words.Cause.{Cause}
use Rattle.tipc_link.specs.Links.{LinkEnd, after}
use Rattle.tipc_link_fsm.specs.declared.changes.Change.TheVariants.{Down}
use Rattle.tipc_link_fsm.specs.Runs.{Call, outcome}
use Rattle.tipc_link_fsm.specs.Table.{Fsm}
use Rattle.tipc_link.proofs.Ends.{forgotten-is}
use Rattle.tipc_contact.specs.Order.{IsContactShown}
use Rattle.tipc_paired.proofs.contacts.ContactDeeds.{ended_down, falls_paired, mapped_end, parts_paired, restarts_paired, shows_paired}
use Rattle.tipc_paired.specs.Deeds.{MayCall, ended_with, forgot_with, parted_view, restarted, risen_view}
use Rattle.tipc_paired.specs.Paired.{ArePaired}
use Rattle.tipc_paired.specs.Views.{IsApart, View, said_by, with_end, with_wire}
use Rattle.tipc_two_nodes.specs.Carrying.{Carries, none_taken}
use Rattle.tipc_two_nodes.specs.Numbers.{AreRecorded}
use Rattle.tipc_two_nodes.specs.Steps.{Rests}
use Rattle.tipc_two_nodes.specs.Twins.{AreTwins, GoesOn}
use Rattle.tipc_two_nodes.proofs.steps.Carrying.{leaves_carries, learns_carries}
use Rattle.tipc_two_nodes.proofs.steps.ContactSteps.{fallen_leaves, fallen_recorded, parted_leaves, parted_recorded, restarted_leaves, restarted_recorded, risen_learns, risen_recorded}
use Rattle.tipc_two_nodes.proofs.steps.TwinSteps.{learns_twins, leaves_twins}
use Rattle.tipc_two_nodes.proofs.steps.WireSteps.{fallen_record}

-- nothing begins or is told
rests_on : (x x' y : View) → Rests x x' → x.node.contact ≤ x'.node.contact → ArePaired x' y → AreRecorded x' y → GoesOn x x' y
rests_on x x' y q more paired recorded = record {
  paired = paired;
  tells = record { told = λ k f there. subst (λ fs. slice_get fs k ≡ Some f) (sym q.told) there; contact = more };
  begun = λ b epoch g is. q.begun b epoch ∙ is;
  recorded = recorded;
}

pub parted_apart : (x : View) → IsApart (parted_view x)
parted_apart x b e is =
    let at = mapped_end (ended_with (x.node.contact + 1)) (x.wires b).end e is in
    subst (λ (d : LinkEnd). is_up d.fsm.state ≡ false) at.2 (ended_down (x.node.contact + 1) at.0)

risen_apart : (x : View) (number : ℕ) → IsApart x → IsApart (risen_view x number)
risen_apart x number apart b e is =
    let at = mapped_end (forgot_with number) (x.wires b).end e is in
    subst (λ (d : LinkEnd). is_up d.fsm.state ≡ false) at.2 (ap (λ (f : Fsm). is_up f.state) (forgotten-is at.0.fsm (apart b at.0 at.1)))

-- the contact of a link that is up ends
pub parts_twins : (x y : View) (b : ℕ) (e : LinkEnd) → AreTwins x y → (x.wires b).end ≡ Some e → is_up e.fsm.state ≡ true → AreTwins (parted_view x) y
parts_twins x y b e h is up =
    let leaves = parted_leaves x in
    leaves_twins x (parted_view x) y h (rests_on x (parted_view x) y leaves.rests (omega arith) (parts_paired x y b e h.paired is up) (parted_recorded x y h.recorded_here)) leaves (parted_apart x)

-- the last link that is up goes down, and with it the contact
pub falls_twins : (x y : View) (b : ℕ) (e : LinkEnd) (call : Call) (cause : Cause) → AreTwins x y → (x.wires b).end ≡ Some e → MayCall x y b call → (outcome e.fsm call).change ≡ Down cause
    → AreTwins (parted_view (with_wire x b (with_end (x.wires b) (after e (outcome e.fsm call))))) y
falls_twins x y b e call cause h is may down =
    let e' = after e (outcome e.fsm call) in
    let x' = parted_view (with_wire x b (with_end (x.wires b) e')) in
    let leaves = fallen_leaves x b e' in
    leaves_twins x x' y h (rests_on x x' y leaves.rests (omega arith) (falls_paired x y b e call cause h.paired is may down) (fallen_recorded x y b e e' is (fallen_record e (outcome e.fsm call) cause down) h.recorded_here)) leaves
    (parted_apart (with_wire x b (with_end (x.wires b) e')))

pub restarts_twins : (x y : View) (boot : ℕ) → AreTwins x y → x.node.boot < boot → boot < 2 ^ 32 → AreTwins (restarted x boot) y
restarts_twins x y boot h more fits =
    let leaves = restarted_leaves x y boot h.paired more in
    let later = leaves.later in
    leaves_twins x (restarted x boot) y h (rests_on x (restarted x boot) y leaves.rests (omega arith) (restarts_paired x y boot h.paired more fits) (restarted_recorded x y boot)) leaves (λ b e is. absurd (let wrong : ⊥ = cc in wrong))

-- out of contact the peer shows a higher number
pub shows_twins : (x y : View) (number : ℕ) → AreTwins x y → x.node.seen < number → number < 2 ^ 64 → IsApart x → IsContactShown (said_by y) number → AreTwins (risen_view x number) y
shows_twins x y number h higher fits apart named =
    let learns = risen_learns x number higher apart in
    learns_twins x (risen_view x number) y h (rests_on x (risen_view x number) y learns.rests (omega arith) (shows_paired x y number h.paired higher fits apart named) (risen_recorded x y number higher apart h.recorded_here)) learns (risen_apart x number apart)

-- ---- what crossed stays so

pub parts_carry : (x y : View) (b : ℕ) (e : LinkEnd) (h : AreTwins x y) (is : (x.wires b).end ≡ Some e) (up : is_up e.fsm.state ≡ true) → Carries x (parted_view x) y h (parts_twins x y b e h is up) none_taken
unfolding parts_twins
parts_carry x y b e h is up =
    let leaves = parted_leaves x in
    leaves_carries x (parted_view x) y h (rests_on x (parted_view x) y leaves.rests (omega arith) (parts_paired x y b e h.paired is up) (parted_recorded x y h.recorded_here)) leaves (parted_apart x)

pub falls_carry : (x y : View) (b : ℕ) (e : LinkEnd) (call : Call) (cause : Cause) (h : AreTwins x y) (is : (x.wires b).end ≡ Some e) (may : MayCall x y b call) (down : (outcome e.fsm call).change ≡ Down cause)
    → Carries x (parted_view (with_wire x b (with_end (x.wires b) (after e (outcome e.fsm call))))) y h (falls_twins x y b e call cause h is may down) none_taken
unfolding falls_twins
falls_carry x y b e call cause h is may down =
    let e' = after e (outcome e.fsm call) in
    let x' = parted_view (with_wire x b (with_end (x.wires b) e')) in
    let leaves = fallen_leaves x b e' in
    leaves_carries x x' y h (rests_on x x' y leaves.rests (omega arith) (falls_paired x y b e call cause h.paired is may down) (fallen_recorded x y b e e' is (fallen_record e (outcome e.fsm call) cause down) h.recorded_here)) leaves
    (parted_apart (with_wire x b (with_end (x.wires b) e')))

pub restarts_carry : (x y : View) (boot : ℕ) (h : AreTwins x y) (more : x.node.boot < boot) (fits : boot < 2 ^ 32) → Carries x (restarted x boot) y h (restarts_twins x y boot h more fits) none_taken
unfolding restarts_twins
restarts_carry x y boot h more fits =
    let leaves = restarted_leaves x y boot h.paired more in
    let later = leaves.later in
    leaves_carries x (restarted x boot) y h (rests_on x (restarted x boot) y leaves.rests (omega arith) (restarts_paired x y boot h.paired more fits) (restarted_recorded x y boot)) leaves (λ b e is. absurd (let wrong : ⊥ = cc in wrong))

pub shows_carry : (x y : View) (number : ℕ) (h : AreTwins x y) (higher : x.node.seen < number) (fits : number < 2 ^ 64) (apart : IsApart x) (named : IsContactShown (said_by y) number) → Carries x (risen_view x number) y h (shows_twins x y number h higher fits apart named) none_taken
unfolding shows_twins
shows_carry x y number h higher fits apart named =
    let learns = risen_learns x number higher apart in
    learns_carries x (risen_view x number) y h (rests_on x (risen_view x number) y learns.rests (omega arith) (shows_paired x y number h.paired higher fits apart named) (risen_recorded x y number higher apart h.recorded_here)) learns (risen_apart x number apart)
