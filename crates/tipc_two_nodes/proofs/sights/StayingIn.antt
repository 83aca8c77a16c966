-- Where an arrival gives something, the pair is in contact then, under the numbers that it had before.
use Rattle.std.proofs.Common.{◌≡◌, ◌⊎◌, ◌∷◌, ◌==◌, if◌then◌else◌, ℕ, true, false, List, [], refl, sym, ap, ◌∙◌, inl, inr}
use Rattle.std.proofs.lemmas.Bool.{cases_Bool}
use Rattle.tipc_types.specs.declared.link_words.BroadcastState.{BroadcastState}
use Rattle.tipc_types.specs.declared.packet_lists.Taken.{Taken}
use Rattle.tipc_header.specs.Spelling.{Fields}
use Rattle.tipc_recv_window.specs.declared.outcomes.LinkOutcome.{LinkOutcome}
use Rattle.tipc_link.specs.Links.{is_traffic}
use Rattle.tipc_pair.specs.declared.changes.PairOutcome.{PairOutcome}
use Rattle.tipc_pair.specs.Courses.{Course}
use Rattle.tipc_pair.specs.Facing.{PairEnds, facing, in_contact, is_up_at, turned}
use Rattle.tipc_pair.specs.PairArrivals.{Arrives, OpensInto, as_it_is, deferred, hears, ignored, none_taken, opens, taken_in, tunnel}
use Rattle.tipc_pair.specs.PairFacts.{IsPairOfEnds}
use Rattle.tipc_pair.specs.Messages.{opened_in}
use Rattle.tipc_pair.proofs.HeldLaws.{or_turns}
use Rattle.tipc_paired.specs.Paired.{ArePaired}
use Rattle.tipc_paired.specs.Views.{View}
use Rattle.tipc_two_nodes.proofs.deeds.Placing.{hears_some}
use Rattle.tipc_two_nodes.specs.deeds.PairDeeds.{IsOfPair}
use Rattle.tipc_two_nodes.specs.Sights.{StaysIn}
use Rattle.tipc_two_nodes.proofs.arrivals.NoticeArrivals.{hears_none}
use Rattle.tipc_two_nodes.proofs.calls.SendTwins.{facing_numbers}
use Rattle.tipc_two_nodes.proofs.arrivals.StayingUp.{arrival_up}
use Rattle.tipc_two_nodes.proofs.arrivals.Steady.{arrival_steady}
use Rattle.tipc_two_nodes.proofs.arrivals.TalkerArrivals.{brings_none}
use Rattle.tipc_two_nodes.proofs.arrivals.TrafficArrivals.{traffic_low, traffic_plain}
use Rattle.tipc_two_nodes.proofs.arrivals.WholeArrivals.{some_none as some_taken}

-- nothing is given, or the near link took something
opens_some : (z : PairEnds) (o : LinkOutcome) (c : Course) (given : PairOutcome) → OpensInto z o c given → (opened_in given ≡ []) ⊎ ((first : Taken) × (others : List Taken) × (o ≡ LinkOutcome.Took (first ∷ others)))
opens_some z _ _ _ (opens none_taken all) = inl (brings_none _ _ _ all).0
opens_some z _ _ _ (opens (as_it_is first others plain) all) = inr (first, others, refl)
opens_some z _ _ _ (opens (tunnel first others t speaks) all) = inr (first, others, refl)
opens_some z _ _ _ deferred = inl refl
opens_some z _ _ _ ignored = inl refl

pub arrival_stays : (v y : View) (x : PairEnds) (es er : ℕ) (p : Fields) (by : ℕ) (shown : BroadcastState) (c : Course) (given : PairOutcome) → ArePaired v y → IsOfPair v x → IsPairOfEnds x → Arrives x es er p by shown c given → (opened_in given ≡ []) ⊎ StaysIn x c.pair
arrival_stays v y x es er p by shown c given h pair ends a =
    let m = hears p.header es er p by shown x in
    elim (opens_some m.course.pair m.outcome a.opened given a.opens) [
      | inl none ↦ inl none
      | inr some ↦ elim (cases_Bool (is_traffic p.header)) [
        | inr notice ↦ absurd (some_taken some.0 some.1 (sym (ap taken_in some.2) ∙ hears_none p.header es er p by shown x refl notice))
        | inl traffic ↦
            let up = λ (first : Taken) (others : List Taken) (is : m.outcome ≡ LinkOutcome.Took (first ∷ others)). (hears_some p.header v y x es er p by shown first others refl h pair ends is).goes.up in
            let steady = arrival_steady x es er p by shown c given pair.two_bearers (traffic_plain p.header traffic) (traffic_low p.header x.seen traffic) up a in
            inr (record { there = arrival_up x es er p by shown c given a (up some.0 some.1 some.2); contact = steady.contact; seen = steady.seen })
      ]
    ]

-- seen from another link
pub facing_contact : (b : ℕ) (x : PairEnds) → in_contact (facing b x) ≡ in_contact x
unfolding facing
facing_contact b x = elim (x.bearer == b) as (λ t. in_contact (if t then x else turned x) ≡ in_contact x) [ true ↦ refl | false ↦ or_turns (is_up_at x.far) (is_up_at x.near) ]

pub stays_facing : (b c : ℕ) (x y : PairEnds) → StaysIn (facing b x) y → StaysIn x (facing c y)
stays_facing b c x y h =
    let before = facing_numbers b x in
    let after = facing_numbers c y in
    record { there = facing_contact c y ∙ h.there; contact = after.2 ∙ (h.contact ∙ before.2); seen = after.3 ∙ (h.seen ∙ before.3) }
