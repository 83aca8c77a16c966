-- What happens first in a node's turn at its pair: a call, or a packet that arrives; and two nodes go on talking.
use Rattle.std.specs.Prelude.{All}
use Rattle.std.proofs.Common.{◌≡◌, ◌≤◌, ◌⊎◌, ℕ, true, false, [], None, refl, sym, ap, ◌∙◌, subst, inl, inr, arith}
use Rattle.tipc_types.specs.declared.link_words.BroadcastState.{BroadcastState}
use Rattle.tipc_header.specs.Spelling.{Fields}
use Rattle.tipc_reassembly.specs.Slots.{IsWholePacket, packets_in}
use Rattle.tipc_pair.specs.declared.changes.PairOutcome.{PairOutcome}
use Rattle.tipc_pair.specs.Courses.{Course, going_on, rests as nothing_happens, sent_in}
use Rattle.tipc_pair.specs.Facing.{PairEnds, facing, with_made}
use Rattle.tipc_pair.specs.PairArrivals.{Arrives}
use Rattle.tipc_link.specs.Parts.{IsShowable}
use Rattle.tipc_pair.specs.PairCalls.{at_bearer, cut_near, mended, ticked}
use Rattle.tipc_pair.specs.Messages.{opened_in}
use Rattle.tipc_pair.specs.PairTurns.{Happened, Opening, Outset, ShowsIn, made_near, quietly, seen_as}
use Rattle.tipc_pair.specs.PairTurns.Opening.{cuts, hears, makes, mends, rests, ticks}
use Rattle.tipc_pair.proofs.Facings.{facing_back}
use Rattle.tipc_pair.proofs.HeldLaws.{GoesQuietly}
use Rattle.tipc_two_nodes.proofs.deeds.EndsKept.{ends_facing}
use Rattle.tipc_two_nodes.proofs.deeds.Pairs.{of_facing}
use Rattle.tipc_pair.proofs.turns.PairKept.{facing_bearer}
use Rattle.tipc_two_nodes.specs.deeds.Arriving.{Reaches}
use Rattle.tipc_two_nodes.specs.Sights.{StaysIn}
use Rattle.tipc_two_nodes.specs.Talkers.{AreTalking, Talker, given_on}
use Rattle.tipc_two_nodes.proofs.sights.ArrivingOnce.{arrival_contact}
use Rattle.tipc_two_nodes.proofs.sights.Behind.{all_same}
use Rattle.tipc_two_nodes.proofs.sights.ByContact.{more_in, more_none, more_same}
use Rattle.tipc_two_nodes.proofs.sights.CallSessions.{arrival_last}
use Rattle.tipc_two_nodes.proofs.sights.LastSessions.{KeepsLast}
use Rattle.tipc_two_nodes.proofs.calls.SendTwins.{facing_numbers}
use Rattle.tipc_two_nodes.proofs.sights.StayingIn.{arrival_stays, stays_facing}
use Rattle.tipc_two_nodes.proofs.arrivals.TalkerArrivals.{arrivals_talk}
use Rattle.tipc_two_nodes.proofs.calls.TalkerPairs.{mended_quiet}
use Rattle.tipc_two_nodes.proofs.sights.TurnParts.{SameNumbers, Stepped, StepsTo, at_facing, at_numbers, at_quietly, contact_facing, cuts_stepped, keeps_of, makes_stepped, mended_at, mends_stepped, near_mended, of_last_line, still, then_stepped, ticks_stepped}

-- ---- what happens first

-- what happens is at one of two bearers; an end is made where there is none, and what is heard was told
abbrev pub MayBegin : Talker → Talker → Opening → Type 0
MayBegin x y (makes b is_mended) = (b ≤ 1) × ((facing b x.pair).near ≡ None)
MayBegin x y (hears b es er p by shown) = (b ≤ 1) × Reaches x.view y.view b es er p
MayBegin x y other = Unit {0}

-- The pair becomes what it tells, and gives what comes: all of it is whole, and was given in the contact that was and is.
pub record Opened (x y : Talker) (o : Outset) : Type 0 where
  pub after : Talker
  pub stepped : Stepped x y after (sent_in o.course) [] (packets_in (opened_in o.given))
  pub pair_is : after.pair ≡ o.course.pair
  pub whole : All IsWholePacket (opened_in o.given)
  pub contact : (opened_in o.given ≡ []) ⊎ StaysIn x.pair o.course.pair

none_whole : All IsWholePacket []
none_whole k d within = absurd (let wrong : ⊥ = omega arith in wrong)

-- a call gives nothing
quiet_opened : (x y : Talker) (c : Course) (o : Outset) → StepsTo x y c.pair (sent_in c) [] [] → o ≡ quietly c → Opened x y o
quiet_opened x y c o s is = subst (Opened x y) (sym is) (record { after = s.0; stepped = s.1; pair_is = s.2; whole = none_whole; contact = inl refl })

-- an end is made, whose bearer is mended
mended_made : (x y : Talker) (b : ℕ) → b ≤ 1 → AreTalking x y → (facing b x.pair).near ≡ None → StepsTo x y (at_bearer b x.pair (made_near true)).pair (sent_in (at_bearer b x.pair (made_near true))) [] []
unfolding going_on
mended_made x y b low h none =
    let p = x.pair in
    let two = h.here.of.two_bearers in
    let z = facing b p in
    let made = with_made z in
    let first = makes_stepped x y b h none in
    let mid = first.0 in
    let second = mends_stepped mid y b first.1.talking in
    let bearer : z.bearer ≡ b = facing_bearer b p low two in
    let back : facing b (facing p.bearer made) ≡ made = subst (λ n. facing n (facing p.bearer made) ≡ made) bearer (facing_back p.bearer made two (of_facing x.view b p h.here.of).two_bearers) in
    let there : facing b mid.pair ≡ made = ap (facing b) first.2 ∙ back in
    let first_bearer : mid.pair.bearer ≡ p.bearer = ap (λ (q : PairEnds). q.bearer) first.2 ∙ facing_bearer p.bearer made two (of_facing x.view b p h.here.of).two_bearers in
    let pair : (at_bearer b mid.pair mended).pair ≡ facing p.bearer (mended made).pair = ap (λ q. facing mid.pair.bearer (mended q).pair) there ∙ ap (λ n. facing n (mended made).pair) first_bearer in
    let frames : sent_in (at_bearer b mid.pair mended) ≡ sent_in (mended made) = ap (λ q. sent_in (mended q)) there in
    let keeps = keeps_of mid y second.0 _ [] [] first.1.talking second.1 (subst (SameNumbers mid.pair) (sym second.2) (at_numbers b mid.pair mended (near_mended (facing b mid.pair) (facing b mid.pair).near)))
    (subst (KeepsLast mid.pair) (sym second.2) (mended_at b mid.pair (let is = first_bearer in omega arith)))
    (subst (GoesQuietly mid.pair) (sym second.2) (at_quietly b mid.pair mended (mended_quiet (facing b mid.pair) (facing b mid.pair).near refl))) in
    let both = then_stepped x y mid second.0 [] (sent_in (at_bearer b mid.pair mended)) [] [] [] first.1 second.1 keeps in
    (second.0, subst (λ fs. Stepped x y second.0 fs [] []) frames both, second.2 ∙ pair)

-- a packet arrives
heard_opened : (x y : Talker) (b es er : ℕ) (p : Fields) (by : ℕ) (shown : BroadcastState) (c : Course) (given : PairOutcome) → AreTalking x y → b ≤ 1 → IsShowable shown → Reaches x.view y.view b es er p → Arrives (facing b x.pair) es er p by shown c given
    → Opened x y (record { course = seen_as x.pair c; given = given })
heard_opened x y b es er p by shown c given h low showable reaches a =
    let z = facing b x.pair in
    let two = h.here.of.two_bearers in
    let t = arrivals_talk x y b es er p by shown c given h low showable reaches a in
    let view = t.0 in
    let did = t.1.did in
    let of_z = of_facing x.view b x.pair h.here.of in
    let after = given_on x (opened_in given) view (facing 0 c.pair) in
    let stays = arrival_stays x.view y.view z es er p by shown c given h.twins.paired of_z (ends_facing b x.pair h.here.ends) a in
    let first : facing 0 c.pair ≡ facing x.pair.bearer c.pair = ap (λ n. facing n c.pair) (sym h.here.first) in
    let line = of_last_line x.view y.view (sent_in c) view _ _ c.pair did (arrival_last z es er p by shown c given a of_z.two_bearers) in
    let same = all_same x.view y.view view did.does in
    let more = packets_in (opened_in given) in
    let stepped : Stepped x y after (sent_in c) [] more = record {
      does = did.does;
      boot = did.boot;
      told = did.told;
      line = λ i k. elim (line i k) [ inl was ↦ inl was | inr at ↦ inr (at_facing 0 c.pair i k t.1.pair.two_bearers at) ];
      talking = t.2;
      put_is = more_none x.put view.node;
      given_is = λ i j. elim stays [
        | inl none ↦
            let nothing_more : more ≡ [] = ap packets_in none in
            subst (λ ms. more_in x.given x.view.node ms i j ≡ more_in x.given view.node ms i j) (sym nothing_more) (sym (more_none x.given x.view.node i j) ∙ more_none x.given view.node i j)
        | inr in_it ↦
            let numbers = facing_numbers b x.pair in
            let contact_is : view.node.contact ≡ x.view.node.contact = t.1.pair.contact ∙ (in_it.contact ∙ (numbers.2 ∙ sym h.here.of.contact)) in
            let seen_is : view.node.seen ≡ x.view.node.seen = t.1.pair.seen ∙ (in_it.seen ∙ (numbers.3 ∙ sym h.here.of.seen)) in
            let own = same.own in
            let peer = same.peer in
            let boot = did.boot in
            let node : view.node ≡ x.view.node = λ k. record { own = own k; peer = peer k; boot = boot k; contact = contact_is k; seen = seen_is k } in
            more_same x.given x.view.node view.node more i j node
      ];
      contact = contact_facing b 0 x.pair c.pair (arrival_contact x.view y.view z es er p by shown c given h.twins.paired of_z (ends_facing b x.pair h.here.ends) a);
    } in
    record {
      after = after;
      stepped = stepped;
      pair_is = first;
      whole = t.3;
      contact = elim stays [ inl none ↦ inl none | inr in_it ↦ inr (stays_facing b x.pair.bearer x.pair c.pair in_it) ];
    }

pub opened : (x y : Talker) (opening : Opening) (o : Outset) → AreTalking x y → MayBegin x y opening → ShowsIn opening → Happened x.pair opening o → Opened x y o
opened x y rests o h may showable is = quiet_opened x y (nothing_happens x.pair) o (x, still x y h, refl) is
opened x y (makes b true) o h may showable is = quiet_opened x y (at_bearer b x.pair (made_near true)) o (mended_made x y b may.0 h may.1) is
opened x y (makes b false) o h may showable is = quiet_opened x y (at_bearer b x.pair (made_near false)) o (makes_stepped x y b h may.1) is
opened x y (mends b) o h may showable is = quiet_opened x y (at_bearer b x.pair mended) o (mends_stepped x y b h) is
opened x y (cuts b) o h may showable is = quiet_opened x y (at_bearer b x.pair cut_near) o (cuts_stepped x y b h) is
opened x y (ticks shown) o h may showable is = quiet_opened x y (ticked shown x.pair) o (ticks_stepped x y shown h showable) is
opened x y (hears b es er p by shown) o h may showable is = subst (Opened x y) (sym is.3) (heard_opened x y b es er p by shown is.0 is.1 h may.0 showable may.1 is.2)
