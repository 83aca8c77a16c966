-- A packet arrives at one of two nodes, and they go on talking with what it gives.
use Rattle.std.specs.Prelude.{All}
use Rattle.std.proofs.Common.{◌≡◌, ◌<◌, ◌⊎◌, ◌++◌, ℕ, true, false, List, [], refl, sym, ap, ◌∙◌, subst, inl, inr, append-nil, arith}
use Rattle.std.proofs.lemmas.Bool.{cases_Bool}
use Rattle.tipc_types.specs.declared.packet_lists.Taken.{Taken}
use Rattle.tipc_fragments.specs.Joining.{Joining}
use Rattle.tipc_reassembly.specs.declared.opening.Opened.{Opened}
use Rattle.tipc_reassembly.specs.Opening.{BringsAll, none}
use Rattle.tipc_reassembly.specs.Slots.{IsWholePacket, packets_in}
use Rattle.tipc_pair.specs.declared.changes.PairOutcome.{PairOutcome}
use Rattle.tipc_pair.specs.Facing.{PairEnds, facing, in_contact, is_up_at}
use Rattle.tipc_pair.specs.PairArrivals.{with_bytes}
use Rattle.tipc_pair.specs.Messages.{opened_in}
use Rattle.tipc_pair.proofs.ArrivalLaws.{arrival_held}
use Rattle.tipc_pair.proofs.Followings.{far_down, near_down}
use Rattle.tipc_pair.proofs.HeldLaws.{GoesQuietly, held_up, rightly_facing}
use Rattle.tipc_two_nodes.specs.links.Arriving.{Gives, brings, heard_pair, ignores, waits}
use Rattle.tipc_two_nodes.specs.links.Receiving.{bytes_in}
use Rattle.tipc_paired.specs.Views.{View}
use Rattle.tipc_two_nodes.proofs.deeds.ArrivalKept.{arrival_kept}
use Rattle.tipc_two_nodes.proofs.deeds.EndsKept.{ends_facing}
use Rattle.tipc_two_nodes.proofs.deeds.Pairs.{apart_of, of_facing}
use Rattle.tipc_pair.proofs.turns.PairKept.{facing_bearer}
use Rattle.tipc_two_nodes.specs.deeds.Arriving.{Reaches}
use Rattle.tipc_two_nodes.specs.deeds.PairDeeds.{IsOfPair}
use Rattle.tipc_two_nodes.specs.Carriages.{IsAhead, IsPresent}
use Rattle.tipc_two_nodes.specs.Carrying.{Carries, TakesOn, none_taken, taken_in_contact}
use Rattle.tipc_two_nodes.specs.Messages.{IsTalk}
use Rattle.tipc_two_nodes.specs.Talkers.{AreTalking, ArrivalsTalk, HasPair, IsBegunIn, Talker, given_more, given_on, went_on}
use Rattle.tipc_two_nodes.specs.Twins.{AreTwins}
use Rattle.tipc_two_nodes.proofs.arrivals.BegunArrivals.{HeardSo, begins, hears_so, lasts, opened_quietly, out}
use Rattle.tipc_two_nodes.proofs.steps.Carrying.{in_changed}
use Rattle.tipc_two_nodes.proofs.contacts.Choosing.{on_changed}
use Rattle.tipc_two_nodes.proofs.calls.PairViews.{in_contact_present, or_false}
use Rattle.tipc_two_nodes.proofs.contacts.Stale.{apart_absent}
use Rattle.tipc_two_nodes.proofs.calls.TalkerTurns.{notices_talk, opening_talks}
use Rattle.tipc_two_nodes.proofs.arrivals.WholeArrivals.{arrivals_keep, none_in}
use Rattle.tipc_pair.proofs.Facings.{facing_begun as facing_message}

-- ---- the message that is begun

-- no session began in a contact of this number of a node that has no contact
apart_ahead : (x y : Talker) (own theirs : ℕ) → AreTalking x y → (z : PairEnds) → IsOfPair x.view z → in_contact z ≡ false → own ≡ x.view.node.contact → IsAhead x.view own theirs
apart_ahead x y own theirs h z of apart is b epoch g began own_is theirs_is = elim (h.twins.numbers_here.entered b epoch g began) [
  | inl before ↦ (let wrong : ⊥ = omega arith in wrong)
  | inr now ↦ apart_absent x.view x.view.node.contact x.view.node.seen (apart_of x.view z of (near_down z apart) (far_down z apart)) now.1
]

begun_in : (x y : Talker) (h : AreTalking x y) (bearer : ℕ) (after : View) (heard q : PairEnds) (begun : Joining) → IsOfPair x.view (facing bearer x.pair) → IsOfPair after q → GoesQuietly heard q → HeardSo (facing bearer x.pair) heard → (begun ≡ heard.begun) ⊎ (heard.contact < q.contact) → (own theirs : ℕ) → IsPresent after own theirs
    → IsBegunIn x own theirs begun
begun_in x y h bearer after heard q begun of of' quiet so begun_is own theirs here = elim (cases_Bool (in_contact q)) [
  | inr down ↦ absurd (let both = or_false (is_up_at q.near) (is_up_at q.far) down in apart_absent after own theirs (apart_of after q of' both.0 both.1) here)
  | inl up ↦
      let z = facing bearer x.pair in
      let contact = quiet.goes.contact up in
      let message : begun ≡ heard.begun = elim begun_is [ inl same ↦ same | inr more ↦ absurd (let wrong : ⊥ = omega arith in wrong) ] in
      elim so [
        | out down ↦ absurd (let wrong : true ≡ false = sym (quiet.stays up) ∙ down in let no : ⊥ = cc in no)
        | lasts was same seen kept ↦
            let own_is : own ≡ x.view.node.contact = here.own_is ∙ (of'.contact ∙ (contact ∙ (same ∙ sym of.contact))) in
            let theirs_is : theirs ≡ x.view.node.seen = here.theirs_is ∙ (of'.seen ∙ (quiet.goes.seen ∙ (seen ∙ sym of.seen))) in
            let present = in_contact_present x.view y.view z h.twins.paired of was in
            inl (subst (λ k. IsPresent x.view k theirs) (sym own_is) (subst (λ k. IsPresent x.view x.view.node.contact k) (sym theirs_is) present), message ∙ (kept ∙ facing_message bearer x.pair))
        | begins apart same none_begun ↦
            let own_is : own ≡ x.view.node.contact = here.own_is ∙ (of'.contact ∙ (contact ∙ (same ∙ sym of.contact))) in
            inr (apart_ahead x y own theirs h z of apart own_is, message ∙ none_begun)
      ]
]

-- ---- what is given

gives_brings : (begun last : Joining) (carried : List Taken) (given : PairOutcome) → Gives begun carried given last → BringsAll begun (with_bytes carried) (opened_in given) last
gives_brings begun last _ _ (brings all) = all
gives_brings begun _ _ _ waits = none
gives_brings begun _ _ _ ignores = none

pub brings_none : (begun last : Joining) (items : List Opened) → BringsAll begun [] items last → (items ≡ []) × (last ≡ begun)
brings_none begun _ _ none = (refl, refl)

carries_none : (x x' y : View) (h : AreTwins x y) (k : AreTwins x' y) (own theirs : ℕ) → Carries x x' y h k (taken_in_contact own theirs []) → Carries x x' y h k none_taken
carries_none x x' y h k own theirs m = record {
  later = m.later;
  sends = m.sends;
  receives = λ i j. subst (TakesOn (h.receives.carriage j i) (k.receives.carriage j i)) (none_in own theirs i j) (m.receives i j);
}

-- nothing is given
given_none : (x y : Talker) (after : View) (pair : PairEnds) (opened : List Opened) → opened ≡ [] → AreTalking (went_on x after pair) y → AreTalking (given_on x opened after pair) y × All IsWholePacket opened
given_none x y after pair opened is h =
    let own = x.view.node.contact in
    let theirs = x.view.node.seen in
    let more = x.given own theirs ++ packets_in opened in
    let same : x.given own theirs ≡ more = sym (append-nil (x.given own theirs)) ∙ ap (λ (os : List Opened). x.given own theirs ++ packets_in os) (sym is) in
    let f = h.twins.receives.carriage in (
      record {
        twins = h.twins;
        here = record { of = h.here.of; ends = h.here.ends; held = h.here.held; first = h.here.first };
        there = h.there;
        sends = h.sends;
        receives = record {
          each = λ i j. on_changed x.given (given_more x opened) own theirs more (λ n m ms. IsTalk after n m (f m n) (y.put m n) ms pair.begun) (in_changed x.given own theirs more)
              (subst (λ ms. IsTalk after own theirs (f theirs own) (y.put theirs own) ms pair.begun) same (h.receives.each theirs own)) (λ n m differ. h.receives.each m n) j i;
          none = λ i j later. (
              let was = h.receives.none i j later in
              (was.0, on_changed x.given (given_more x opened) own theirs more (λ n m ms. x.given n m ≡ [] → ms ≡ []) (in_changed x.given own theirs more) (λ empty. sym same ∙ empty) (λ n m differ empty. empty) j i was.1));
        };
      },
      subst (All IsWholePacket) (sym is) (λ k d within. absurd (omega arith)),
    )

-- ---- the whole arrival

pub arrivals_talk : ArrivalsTalk
arrivals_talk x y bearer es er p by shown c given h low showable reaches a =
    let P = h.here in
    let v = x.view in
    let own = v.node.contact in
    let theirs = v.node.seen in
    let z = facing bearer x.pair in
    let of = of_facing v bearer x.pair P.of in
    let ends = ends_facing bearer x.pair P.ends in
    let held = rightly_facing bearer x.pair P.held in
    let r = subst (λ n. Reaches v y.view n es er p) (sym (facing_bearer bearer x.pair low P.of.two_bearers)) reaches in
    let m = arrivals_keep v y.view z es er p by shown c given h.twins of ends held showable r a in
    let N = m.2 in
    let after = m.0 in
    let pair = facing 0 c.pair in
    let kept = arrival_kept v y.view z es er p by shown c given h.twins.paired of ends showable r a in
    let message : pair.begun ≡ c.pair.begun = facing_message 0 c.pair in
    let has : HasPair (went_on x after pair) = record {
      of = of_facing after 0 c.pair m.1.pair;
      ends = ends_facing 0 c.pair kept;
      held = rightly_facing 0 c.pair (arrival_held z es er p by shown c given a (held_up z held));
      first = facing_bearer 0 c.pair (omega arith) kept.two_bearers;
    } in
    let start = begun_in x y h bearer after (heard_pair z es er p by shown) c.pair N.begun of m.1.pair (opened_quietly z es er p by shown c given a) (hears_so p.header es er p by shown z) N.begun_is in
    let brought = gives_brings N.begun c.pair.begun N.carried given N.gives in
    let last : AreTalking (given_on x (opened_in given) after pair) y × All IsWholePacket (opened_in given) = elim N.lasts [
      | inr here ↦ opening_talks x y after pair (with_bytes N.carried) (opened_in given) N.begun h N.twins N.carries has here (start own theirs here) (subst (BringsAll N.begun (with_bytes N.carried) (opened_in given)) (sym message) brought)
      | inl nothing ↦
          let empty = brings_none N.begun c.pair.begun (opened_in given) (subst (λ (ts : List Taken). BringsAll N.begun (with_bytes ts) (opened_in given) c.pair.begun) nothing brought) in
          let carries = carries_none v after y.view h.twins N.twins own theirs (subst (λ (ts : List Taken). Carries v after y.view h.twins N.twins (taken_in_contact own theirs (bytes_in ts))) nothing N.carries) in
          given_none x y after pair (opened_in given) empty.0 (notices_talk x y after pair h N.twins carries has (λ i j here. subst (IsBegunIn x i j) (sym (message ∙ empty.1)) (start i j here)))
    ] in
    (after, m.1, last.0, last.1)
