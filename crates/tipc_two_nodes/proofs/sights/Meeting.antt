-- Two nodes that are seen to talk were in the contacts that they entered, whatever either does then.
use Rattle.std.proofs.Common.{◌≡◌, ◌∷◌, ℕ, List, [], Some, ap, ◌∙◌}
use Rattle.tipc_reassembly.specs.Slots.{packets_in}
use Rattle.tipc_link.specs.Links.{after}
use Rattle.tipc_link.proofs.LinkLaw.{Each-append, Each-one}
use Rattle.tipc_link_fsm.specs.Runs.{outcome}
use Rattle.tipc_pair.specs.Facing.{in_contact}
use Rattle.tipc_pair.specs.Messages.{opened_in}
use Rattle.tipc_paired.proofs.PairedLaw.{all_paired, turned as turned_pair}
use Rattle.tipc_paired.proofs.sessions.RiseDeeds.{went}
use Rattle.tipc_paired.proofs.wires.Wires.{on_put}
use Rattle.tipc_paired.specs.Deeds.{Besides, Changes, DoesDeed, DoesAll, Works, besides, calls, changes, counts, falls, falls_beside, follows, hands_over, makes, notes, nothing, numbers, parts, puts, releases, restarts, rises, rises_beside, shows, takes, tells, turns, works}
use Rattle.tipc_paired.specs.Paired.{ArePaired}
use Rattle.tipc_paired.specs.Views.{Begun, Node, View, Wire, with_wire}
use Rattle.tipc_two_nodes.specs.Order.{Contact, EntersMet, NoneMet, StepsMet, TurnedMet, WasIn, WasInEach, present_contact}
use Rattle.tipc_two_nodes.specs.Reaching.{restarts as restarts_node, turns as turns_node}
use Rattle.tipc_two_nodes.specs.Talkers.{Talker}
use Rattle.tipc_two_nodes.proofs.calls.PairViews.{in_contact_present}
use Rattle.tipc_two_nodes.proofs.contacts.Hearing.{present_held}
use Rattle.tipc_two_nodes.proofs.sights.Seeing.{turned_seen}
use Rattle.tipc_two_nodes.proofs.sights.Sights.{restarted as restarted_seen, turn_steps, turned as turn_seen}
use Rattle.tipc_two_nodes.proofs.steps.RiseSteps.{risen_begun}

-- ---- sessions that began

-- what began on any bearer stays so
abbrev Stays : View → View → Type 0
Stays x v = (b epoch : ℕ) (g : Begun) → (x.wires b).begun epoch ≡ Some g → (v.wires b).begun epoch ≡ Some g

stays_on : (x : View) (c : ℕ) (w' : Wire) → ((epoch : ℕ) (g : Begun) → (x.wires c).begun epoch ≡ Some g → w'.begun epoch ≡ Some g) → Stays x (with_wire x c w')
stays_on x c w' here b epoch g is = on_put x.wires c w' (λ b (w : Wire). (x.wires b).begun epoch ≡ Some g → w.begun epoch ≡ Some g) (here epoch g) (λ b is. is) b is

works_stay : (x y v : View) → Works x y v → Stays x v
works_stay x y _ (makes b none) = stays_on x b _ (λ epoch g is. is)
works_stay x y _ (turns b e mended is) = stays_on x b _ (λ epoch g is. is)
works_stay x y _ (calls b e call is may quiet) = stays_on x b _ (λ epoch g is. is)
works_stay x y _ (shows number higher fits apart heard) = λ b epoch g is. is
works_stay x y _ (releases b e s p up heard) = stays_on x b _ (λ epoch g is. is)
works_stay x y _ (notes b e s shown unanswered owes up most) = stays_on x b _ (λ epoch g is. is)
works_stay x y _ (numbers b e s up) = stays_on x b _ (λ epoch g is. is)
works_stay x y _ (tells b o may) = λ b epoch g is. is

changes_stay : (x y v : View) → ArePaired x y → Changes x y v → Stays x v
changes_stay x y _ h (rises b e call is may up apart) = (let m = went x y b e call h is may up in λ c epoch g was. risen_begun x y b e (after e (outcome e.fsm call)) m.0 c epoch g h m.1 was)
changes_stay x y _ h (falls b e call cause is may down) = λ c epoch g was. stays_on x b _ (λ epoch g is. is) c epoch g was
changes_stay x y _ h (parts b e is up) = λ c epoch g was. was
changes_stay x y _ h (restarts boot more fits) = λ c epoch g was. was

besides_stay : (x y v : View) → ArePaired x y → Besides x y v → Stays x v
besides_stay x y _ h (rises_beside b e call is may up beside) = (let m = went x y b e call h is may up in λ c epoch g was. risen_begun x y b e (after e (outcome e.fsm call)) m.0 c epoch g h m.1 was)
besides_stay x y _ h (falls_beside b e call cause is may down beside) = stays_on x b _ (λ epoch g is. is)
besides_stay x y _ h (hands_over b e is down) = stays_on x b _ (λ epoch g is. is)
besides_stay x y _ h (counts b e r more c) = stays_on x b _ (λ epoch g is. is)

does_stay : (x y v : View) → ArePaired x y → DoesDeed x y v → Stays x v
does_stay x y v h (works _ w) = works_stay x y v w
does_stay x y v h (changes _ c) = changes_stay x y v h c
does_stay x y v h (besides _ c) = besides_stay x y v h c
does_stay x y _ h (puts b e s waiting up packets) = stays_on x b _ (λ epoch g is. is)
does_stay x y _ h (takes b e s p number by packet up heard carries) = stays_on x b _ (λ epoch g is. is)

all_stay : (x y v : View) → ArePaired x y → DoesAll x y v → Stays x v
all_stay x y _ h nothing b epoch g was = was
all_stay x y v h (follows mid _ all one) b epoch g was = does_stay mid y v (all_paired x y mid h all) one b epoch g (all_stay x y mid h all b epoch g was)

-- ---- the contacts that a node was in

each_stays : (x x' : Talker) (contacts : List Contact) → Stays x.view x'.view → WasInEach x contacts → WasInEach x' contacts
each_stays x x' contacts stays h k c is = (let was = h k c is in let began = was.2 in (was.0, was.1, (began.0, stays was.0 was.1 began.0 began.1, began.2, began.3)))

pub none_met : NoneMet
none_met v w h = record { seen = h; were_here = λ k c is. absurd (let wrong : ⊥ = cc in wrong); were_there = λ k c is. absurd (let wrong : ⊥ = cc in wrong) }

pub turned_met : TurnedMet
unfolding turn_seen
turned_met v w here there h = record { seen = turn_seen v w h.seen; were_here = h.were_there; were_there = h.were_here }

pub enters_met : EntersMet
enters_met v w here there h up =
    let s = h.seen in
    let x = s.here.view in
    let y = s.there.view in
    let t = s.talking.twins in
    let present = in_contact_present x y s.here.pair t.paired s.talking.here.of (ap in_contact s.seen_here.pair ∙ up) in
    let held = present_held y x t.here x.node.contact x.node.seen (turned_pair x y t.paired) t.numbers_here present in
    let now : WasIn s.here (present_contact v) = (held.bearer, held.epoch, (held.session, held.begun, held.own_is ∙ ap (λ (n : Node). n.contact) s.seen_here.node, held.theirs_is ∙ ap (λ (n : Node). n.seen) s.seen_here.node)) in
    record { seen = s; were_here = Each-append (WasIn s.here) here (present_contact v ∷ []) h.were_here (Each-one (WasIn s.here) (present_contact v) now); were_there = h.were_there }

pub steps_met : StepsMet
unfolding turned_seen restarted_seen
steps_met v _ w here there h (turns_node v' opening messages reply pair frames may showable last are t goes) =
    let s = h.seen in
    let steps = turn_steps v w opening messages reply pair frames s may showable last are t in
    record {
      seen = turned_seen v v' w pair frames messages (packets_in (opened_in t.first.given)) s goes steps.0 steps.1 steps.2;
      were_here = each_stays s.here steps.0 here (all_stay s.here.view s.there.view steps.0.view s.talking.twins.paired steps.1.does) h.were_here;
      were_there = h.were_there;
    }
steps_met v _ w here there h (restarts_node v' again few) = record { seen = restarted_seen v v' w h.seen again few; were_here = h.were_here; were_there = h.were_there }
