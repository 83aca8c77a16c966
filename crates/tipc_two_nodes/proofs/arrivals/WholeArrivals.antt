-- Any packet arrives, as a whole call: the two nodes stay what they are, and what is given is next.
use Rattle.std.proofs.Common.{◌≡◌, ◌==◌, ◌&&◌, ◌∷◌, ◌++◌, ℕ, Bool, true, false, if◌then◌else◌, List, [], Option, Some, None, refl, sym, ap, ◌∙◌, subst, inl, inr}
use Rattle.std.proofs.lemmas.Bool.{cases_Bool}
use Rattle.tipc_types.specs.declared.link_words.BroadcastState.{BroadcastState}
use Rattle.tipc_types.specs.declared.packet_lists.Taken.{Taken}
use Rattle.tipc_header.specs.declared.packet.Header.{Header}
use Rattle.tipc_header.specs.declared.packet.Header.TheVariants as header
use Rattle.tipc_header.specs.Spelling.{Fields}
use Rattle.tipc_recv_window.specs.declared.outcomes.LinkOutcome.{LinkOutcome}
use Rattle.tipc_link.specs.Links.{LinkEnd, after, is_traffic, outcome_of}
use Rattle.tipc_link.specs.Parts.{IsShowable}
use Rattle.tipc_pair.specs.declared.changes.PairOutcome.{PairOutcome}
use Rattle.tipc_pair.specs.Courses.{Course}
use Rattle.tipc_pair.specs.Facing.{PairEnds, is_up_at}
use Rattle.tipc_pair.specs.PairArrivals.{Arrives, OpensInto, as_it_is, deferred, hears, ignored, none_taken, opens, taken_in, tunnel}
use Rattle.tipc_pair.specs.PairFacts.{AreHeldRightly, IsPairOfEnds}
use Rattle.tipc_paired.specs.Views.{View}
use Rattle.tipc_two_nodes.proofs.deeds.Arriving.{unheard}
use Rattle.tipc_two_nodes.proofs.deeds.Chains.{did_as}
use Rattle.tipc_two_nodes.specs.deeds.Arriving.{Reaches, arrival_more, arrival_taken, heard_taken, hears_taken, met_at_taken, opens_taken}
use Rattle.tipc_two_nodes.specs.deeds.PairDeeds.{IsOfPair, none_more}
use Rattle.tipc_two_nodes.specs.links.Arriving.{heard_pair}
use Rattle.tipc_two_nodes.specs.Arrivals.{ArrivalsKeep, KeepsGiving}
use Rattle.tipc_two_nodes.specs.Carrying.{Carries, TakesOn, none_taken as none_crosses, taken_in_contact as taken_in_contact}
use Rattle.tipc_two_nodes.specs.Twins.{AreTwins}
use Rattle.tipc_two_nodes.proofs.arrivals.NoticeArrivals.{hears_none, notices_arrive}
use Rattle.tipc_two_nodes.proofs.arrivals.TrafficArrivals.{traffic_arrives}

-- ---- a packet that brings nothing

pub some_none : (first : Taken) (others : List Taken) → (first ∷ others) ≡ [] → ⊥
some_none first others is = cc

opened_taken : (y : View) (z : PairEnds) (o : LinkOutcome) (c : Course) (given : PairOutcome) → taken_in o ≡ [] → (i : OpensInto z o c given) → (b k : ℕ) → opens_taken y z o c given i b k ≡ []
opened_taken y z _ _ _ none (opens none_taken all) b k = refl
opened_taken y z _ _ _ none (opens (as_it_is first others plain) all) b k = absurd (some_none first others none)
opened_taken y z _ _ _ none (opens (tunnel first others t speaks) all) b k = absurd (some_none first others none)
opened_taken y z _ _ _ none deferred b k = refl
opened_taken y z _ _ _ none ignored b k = refl

met_taken : (x : PairEnds) (o : Option LinkEnd) (es er : ℕ) (p : Fields) (by b k : ℕ) → is_traffic p.header ≡ false → met_at_taken es er p by x o b k ≡ []
met_taken x None es er p by b k notice = refl
met_taken x (Some e) es er p by b k notice =
    let o = outcome_of e.fsm p.header es er (is_up_at x.far) in
    ap (λ t. (if t then heard_taken x.bearer (after e o).session p by else none_more) b k) (unheard p o.change notice)

heard_none : (h : Header) (x : PairEnds) (es er : ℕ) (p : Fields) (by b k : ℕ) → p.header ≡ h → is_traffic h ≡ false → hears_taken h es er p by x b k ≡ []
heard_none (header.Reset said) x es er p by b k is notice = refl
heard_none (header.Activate said) x es er p by b k is notice = refl
heard_none other x es er p by b k is notice = met_taken x x.near es er p by b k (ap is_traffic is ∙ notice)

pub none_in : (own theirs i k : ℕ) → taken_in_contact own theirs [] i k ≡ []
none_in own theirs i k = elim ((i == own) && (k == theirs)) as (λ (t : Bool). ◌≡◌ {A = List (List ℕ)} (if t then [] else []) []) [ true ↦ refl | false ↦ refl ]

carries_none : (x x' y : View) (h : AreTwins x y) (k : AreTwins x' y) (own theirs : ℕ) → Carries x x' y h k none_crosses → Carries x x' y h k (taken_in_contact own theirs [])
carries_none x x' y h k own theirs m = record {
  later = m.later;
  sends = m.sends;
  receives = λ i j. subst (TakesOn (h.receives.carriage j i) (k.receives.carriage j i)) (sym (none_in own theirs i j)) (m.receives i j);
}

notice_arrives : (v y : View) (x : PairEnds) (es er : ℕ) (p : Fields) (by : ℕ) (shown : BroadcastState) (c : Course) (given : PairOutcome) (h : AreTwins v y) → IsOfPair v x → IsPairOfEnds x → AreHeldRightly x → IsShowable shown → Reaches v y x.bearer es er p
    → (a : Arrives x es er p by shown c given) → is_traffic p.header ≡ false → KeepsGiving v y h (heard_pair x es er p by shown) c (arrival_more x es er p by shown c given a) (arrival_taken y x es er p by shown c given a) given
notice_arrives v y x es er p by shown c given h pair ends held showable r a notice =
    let m = hears p.header es er p by shown x in
    let none = hears_none p.header es er p by shown x refl notice in
    let both = notices_arrive v y x es er p by shown c given h pair ends held showable r notice a in
    let k = both.0 in
    let more = arrival_more x es er p by shown c given a in
    let did = did_as v y k.0 _ _ more more none_more (arrival_taken y x es er p by shown c given a) k.1.did (λ P each. each) (λ b i. refl)
    (λ b i. sym (ap (λ ps. ps ++ opens_taken y m.course.pair m.outcome a.opened given a.opens b i) (heard_none p.header x es er p by b i refl notice) ∙ opened_taken y m.course.pair m.outcome a.opened given none a.opens b i)) in
    (k.0, record { did = did; pair = k.1.pair }, record { twins = k.2; carried = []; lasts = inl refl; begun = m.course.pair.begun; begun_is = inl refl; gives = both.1; carries = carries_none v k.0 y h k.2 v.node.contact v.node.seen k.3 })

-- ---- any packet

pub arrivals_keep : ArrivalsKeep
arrivals_keep v y x es er p by shown c given h pair ends held showable r a = elim (cases_Bool (is_traffic p.header)) [
  | inl traffic ↦ traffic_arrives v y x es er p by shown c given h pair ends held showable r a traffic
  | inr notice ↦ notice_arrives v y x es er p by shown c given h pair ends held showable r a notice
]
