-- What a pair keeps through a packet that its near link takes: the bearers, the contact number, and the record of the far link, also where a tunnel
-- packet takes that link down.
use Rattle.std.proofs.Common.{◌≡◌, ◌≤◌, ◌<◌, ◌&&◌, ◌==◌, ℕ, Bool, true, false, if◌then◌else◌, List, ◌∷◌, Option, Some, None, length, option_map, refl, sym, ap, ◌∙◌, subst, inl, inr}
use Rattle.std.specs.Prelude.{nat_lt, not}
use Rattle.std.proofs.lemmas.Bool.{and_parts}
use Rattle.tipc_types.specs.LinkStates.{is_up}
use Rattle.tipc_types.specs.declared.link_words.BroadcastState.{BroadcastState}
use Rattle.tipc_types.specs.declared.link_words.Why.{Why}
use Rattle.tipc_types.specs.declared.link_words.Why.TheVariants as why
use Rattle.tipc_types.specs.declared.packet_lists.Taken.{Taken}
use Rattle.tipc_header.specs.declared.packet.ChangeoverType.{ChangeoverType}
use Rattle.tipc_header.specs.declared.packet.ChangeoverType.TheVariants as kind
use Rattle.tipc_header.specs.declared.packet.Header.{Header}
use Rattle.tipc_header.specs.declared.packet.Header.TheVariants as header
use Rattle.tipc_header.specs.Spelling.{Fields}
use Rattle.tipc_tunnel.specs.Tunnels.{Tunnelled}
use Rattle.tipc_recv_window.specs.declared.outcomes.LinkOutcome.{LinkOutcome}
use Rattle.tipc_link.specs.Links.{LinkEnd, after, change_outcome, handed_over, heard_end, heard_outcome, is_down, is_heard, is_taken, is_traffic, outcome_of, record_in, record_of, tunnelled_down, without_waiting}
use Rattle.tipc_link.specs.Records.{Early, is_next, named}
use Rattle.tipc_link.specs.Sessions.{SessionEnd, content_of, given_up, waiting_given}
use Rattle.tipc_link_fsm.specs.declared.changes.Change.{Change}
use Rattle.tipc_link_fsm.specs.declared.changes.Change.TheVariants.{Ignore}
use Rattle.tipc_link_fsm.specs.Table.{Fsm, Outcome, on_reset, on_traffic}
use Rattle.tipc_pair.specs.Changeovers.{contact_begins, contact_ends, fail_over, fail_over_to, failing, following, gone_down, gone_up, risen, switch, switch_from, switching}
use Rattle.tipc_pair.specs.Courses.{Course, going_on, rests}
use Rattle.tipc_pair.specs.Facing.{PairEnds, in_contact, is_up_at, other, turned, with_near}
use Rattle.tipc_pair.specs.PairArrivals.{Heard, activate_higher, activates, behind, by_number, hears, inside_of, met, met_at, met_near, passing, reset_change, reset_given, reset_near, taken_down, tunnelled_at}
use Rattle.tipc_pair.specs.PairFacts.{IsPairOfEnds}
use Rattle.tipc_pair.proofs.EndSteps.{fsm_after}
use Rattle.tipc_paired.specs.Paired.{ArePaired}
use Rattle.tipc_paired.specs.Views.{View}
use Rattle.tipc_two_nodes.proofs.deeds.EndsKept.{heard_kept}
use Rattle.tipc_two_nodes.proofs.deeds.Meeting.{IsTakenIn, taken_in}
use Rattle.tipc_two_nodes.proofs.deeds.Opening.{tunnel_change}
use Rattle.tipc_two_nodes.proofs.deeds.Pairs.{other_twice, up_end}
use Rattle.tipc_two_nodes.specs.deeds.Arriving.{IsAtPlace}
use Rattle.tipc_two_nodes.specs.deeds.PairDeeds.{IsOfPair}

-- ---- records

pub given_in : (o : Option SessionEnd) (early : Option Early) → record_in (option_map waiting_given o) early ≡ record_in o early
given_in None early = refl
given_in (Some s) early = refl

pub handed_in : (o : Option SessionEnd) (early : Option Early) → record_in (option_map given_up o) early ≡ record_in o early
handed_in None early = refl
handed_in (Some s) early = refl

-- An end is there only where one was, and its record is as it was.
abbrev HasRecordOf : Option LinkEnd → Option LinkEnd → Type 0
HasRecordOf after before = (e : LinkEnd) → after ≡ Some e → (d : LinkEnd) × (before ≡ Some d) × (record_of e ≡ record_of d)

same_record : (o : Option LinkEnd) → HasRecordOf o o
same_record o e is = (e, is, refl)

record_now : (before : Option LinkEnd) (d now : LinkEnd) → before ≡ Some d → record_of now ≡ record_of d → HasRecordOf (Some now) before
record_now before d now is same e has = (let one : now ≡ e = cc in (d, is, ap record_of (sym one) ∙ same))

-- the bearers, the contact numbers and the far record are those of before, and the near link is up
pub record GoesOn (x z : PairEnds) : Type 0 where
  pub bearer_is : z.bearer ≡ x.bearer
  pub contact_is : z.contact ≡ x.contact
  pub seen_is : z.seen ≡ x.seen
  pub far : HasRecordOf z.far x.far
  pub up : is_up_at z.near ≡ true

-- ---- the near link goes up

switching_goes : (z : PairEnds) (near far : LinkEnd) (s old : Option SessionEnd) → z.near ≡ Some near → z.far ≡ Some far → is_up_at z.near ≡ true → GoesOn z (switching z near far s old).pair
switching_goes z near far None old near_is far_is up = record { bearer_is = refl; contact_is = refl; seen_is = refl; far = same_record z.far; up = up }
switching_goes z near far (Some s) None near_is far_is up = record { bearer_is = refl; contact_is = refl; seen_is = refl; far = same_record z.far; up = up }
switching_goes z near far (Some s) (Some old) near_is far_is up = record {
  bearer_is = refl;
  contact_is = refl;
  seen_is = refl;
  far = record_now z.far far (without_waiting far) far_is (given_in far.session far.early);
  up = ap is_up_at (sym near_is) ∙ up;
}

up_goes : (z : PairEnds) (d : LinkEnd) → z.near ≡ Some d → is_up_at z.near ≡ true → GoesOn z (gone_up z).pair
up_goes z d near up =
    let still : GoesOn z z = record { bearer_is = refl; contact_is = refl; seen_is = refl; far = same_record z.far; up = up } in
    elim (is_up_at z.far) as (λ t. is_up_at z.far ≡ t → GoesOn z (if t then (if z.bearer == 0 then switch z else rests z) else contact_begins z).pair) [
      | true ↦ λ far_up.
          let at = up_end z.far far_up in
          let same : switch z ≡ switching z d at.0 d.session at.0.session = ap (λ o. switch_from z o z.far) near ∙ ap (switch_from z (Some d)) at.1 in
          elim (z.bearer == 0) as (λ t. GoesOn z (if t then switch z else rests z).pair) [
            | true ↦ subst (λ (c : Course). GoesOn z c.pair) (sym same) (switching_goes z d at.0 d.session at.0.session near at.1 up)
            | false ↦ still
          ]
      | false ↦ λ _. record { bearer_is = refl; contact_is = refl; seen_is = refl; far = same_record z.far; up = up }
    ] refl

heard_goes : (x : PairEnds) (e : LinkEnd) (es er : ℕ) (p : Fields) (by : ℕ) (shown : BroadcastState) → is_heard p.header (on_traffic e.fsm es er).change ≡ true → IsTakenIn es er (on_traffic e.fsm es er) → GoesOn x (met x e (on_traffic e.fsm es er) p es by shown).course.pair
unfolding going_on
heard_goes x e es er p by shown hears k =
    let o = on_traffic e.fsm es er in
    let d = heard_end (after e o) by p.acknowledgement (content_of p) in
    let z = with_near x d in
    let up : is_up_at z.near ≡ true = ap (λ (f : Fsm). is_up f.state) (fsm_after e o) ∙ k.up in
    let goes : GoesOn z (following z o.change es).pair = elim k.change [
      | inl rose ↦ subst (λ c. GoesOn z (following z c es).pair) (sym rose) (up_goes z d refl up)
      | inr stayed ↦ subst (λ c. GoesOn z (following z c es).pair) (sym stayed) (record { bearer_is = refl; contact_is = refl; seen_is = refl; far = same_record z.far; up = up })
    ] in
    let all : GoesOn x (following z o.change es).pair = record { bearer_is = goes.bearer_is; contact_is = goes.contact_is; seen_is = goes.seen_is; far = goes.far; up = goes.up } in
    subst (λ t. GoesOn x (following (with_near x (if t then d else after e o)) o.change es).pair) (sym hears) all

-- ---- a tunnel packet takes the far link down

-- seen from that link
record StaysNear (x z : PairEnds) : Type 0 where
  bearer_is : z.bearer ≡ x.bearer
  contact_is : z.contact ≡ x.contact
  seen_is : z.seen ≡ x.seen
  near : HasRecordOf z.near x.near
  up : is_up_at z.far ≡ true

failing_stays : (x z : PairEnds) (e near far : LinkEnd) (lost s : Option SessionEnd) → z.bearer ≡ x.bearer → z.contact ≡ x.contact → z.seen ≡ x.seen → z.near ≡ Some near → x.near ≡ Some e → record_of near ≡ record_of e → z.far ≡ Some far → is_up_at z.far ≡ true
    → StaysNear x (failing z near far lost s).pair
failing_stays x z e near far None s bearer contact seen near_is is same far_is up = record { bearer_is = bearer; contact_is = contact; seen_is = seen; near = λ k has. (let one : near ≡ k = cc in (e, is, ap record_of (sym one) ∙ same)); up = up }
failing_stays x z e near far (Some l) None bearer contact seen near_is is same far_is up = record { bearer_is = bearer; contact_is = contact; seen_is = seen; near = λ k has. (let one : near ≡ k = cc in (e, is, ap record_of (sym one) ∙ same)); up = up }
failing_stays x z e near far (Some l) (Some s) bearer contact seen near_is is same far_is up = record {
  bearer_is = bearer;
  contact_is = contact;
  seen_is = seen;
  near = record_now x.near e (handed_over near) is (handed_in near.session near.early ∙ same);
  up = ap is_up_at (sym far_is) ∙ up;
}

tunnelled_stays : (x : PairEnds) (o : Option LinkEnd) (epoch : ℕ) → x.near ≡ o → is_up_at x.far ≡ true → StaysNear x (tunnelled_at epoch x o).pair
tunnelled_stays x None epoch is up = record { bearer_is = refl; contact_is = refl; seen_is = refl; near = same_record x.near; up = up }
tunnelled_stays x (Some e) epoch is up =
    let d = tunnelled_down e epoch in
    let z = with_near x d in
    elim (tunnel_change e.fsm epoch) [
      | inl stay ↦ subst (λ c. StaysNear x (following z c epoch).pair) (sym stay) (record { bearer_is = refl; contact_is = refl; seen_is = refl; near = record_now x.near e d is refl; up = up })
      | inr down ↦
          let at = up_end x.far up in
          let same : gone_down z ≡ failing z d at.0 d.session at.0.session = ap (λ t. if t then fail_over z else contact_ends z (z.contact, z.seen) 0) up ∙ ap (fail_over_to z (Some d)) at.1 in
          subst (λ c. StaysNear x (following z c epoch).pair) (sym down.1) (subst (λ (c : Course). StaysNear x c.pair) (sym same) (failing_stays x z e d at.0 d.session at.0.session refl refl refl refl is refl at.1 up))
    ]

-- seen from the near link again
record StaysFar (x z : PairEnds) : Type 0 where
  bearer_is : z.bearer ≡ x.bearer
  contact_is : z.contact ≡ x.contact
  seen_is : z.seen ≡ x.seen
  far : HasRecordOf z.far x.far
  up : is_up_at z.near ≡ true

taken_down_stays : (x : PairEnds) (kind_is : ChangeoverType) (epoch : ℕ) → x.bearer ≤ 1 → is_up_at x.near ≡ true → StaysFar x (taken_down kind_is epoch x).pair
taken_down_stays x kind.Duplicate epoch two up = record { bearer_is = refl; contact_is = refl; seen_is = refl; far = same_record x.far; up = up }
taken_down_stays x kind.Original epoch two up =
    let h = tunnelled_stays (turned x) x.far epoch refl up in
    record { bearer_is = ap other h.bearer_is ∙ other_twice x.bearer two; contact_is = h.contact_is; seen_is = h.seen_is; far = h.near; up = h.up }

-- what is so of the pair before is so of it then
at_place_later : (y : View) (x z : PairEnds) (t : Tunnelled) (by : ℕ) → z.bearer ≡ x.bearer → z.contact ≡ x.contact → z.seen ≡ x.seen → HasRecordOf z.far x.far → IsAtPlace y x t by → IsAtPlace y z t by
at_place_later y x z t by bearer contact seen far h =
    let same : other z.bearer ≡ other x.bearer = ap other bearer in
    record {
      begun = h.begun;
      begun_is = ap (λ b. (y.wires b).begun t.old.epoch) same ∙ h.begun_is;
      contact_is = h.contact_is ∙ sym contact;
      seen_is = h.seen_is ∙ sym seen;
      place = λ e is some. (
          let was = far e is in
          subst (λ b. is_next (named (record_of e) t.old.epoch) t.old.epoch (inside_of t by) ≡ true → (named (record_of e) t.old.epoch).taken < length ((y.wires b).line t.old.epoch)) (sym same)
          (subst (λ r. is_next (named r t.old.epoch) t.old.epoch (inside_of t by) ≡ true → (named r t.old.epoch).taken < length ((y.wires (other x.bearer)).line t.old.epoch)) (sym was.2) (h.place was.0 was.1 some)));
    }

-- and the near link stays up
pub at_place_opened : (y : View) (x z : PairEnds) (t : Tunnelled) (by : ℕ) → x.bearer ≤ 1 → GoesOn x z → IsAtPlace y x t by → IsAtPlace y (taken_down t.kind t.old.epoch z).pair t by × (is_up_at (taken_down t.kind t.old.epoch z).pair.near ≡ true)
at_place_opened y x z t by two goes h =
    let bearer = goes.bearer_is in
    let s = taken_down_stays z t.kind t.old.epoch (subst (λ b. b ≤ 1) (sym bearer) two) goes.up in
    (at_place_later y z (taken_down t.kind t.old.epoch z).pair t by s.bearer_is s.contact_is s.seen_is s.far (at_place_later y x z t by bearer goes.contact_is goes.seen_is goes.far h), s.up)

-- ---- a packet of any kind

abbrev TakesNone : LinkOutcome → Type 0
TakesNone o = (first : Taken) (others : List Taken) → o ≡ LinkOutcome.Took (first ∷ others) → ⊥

change_none : (c : Change) → TakesNone (change_outcome c)
change_none (Ignore reason) first others is = (let wrong : ⊥ = cc in wrong)
change_none other first others is = (let wrong : ⊥ = cc in wrong)

ignored_none : (x : PairEnds) (reason : Why) → TakesNone (passing x reason).outcome
ignored_none x reason first others is = (let wrong : ⊥ = cc in wrong)

given_none : (es : ℕ) (held : Bool) (shown : BroadcastState) (x : PairEnds) (o : Option LinkEnd) → TakesNone (reset_given es held shown x o).outcome
given_none es held shown x None = ignored_none x why.Unknown
given_none es held shown x (Some e) = change_none (on_reset e.fsm es held).change

reset_none : (es : ℕ) (shown : BroadcastState) (x : PairEnds) → TakesNone (reset_near es shown x).outcome
reset_none es shown x =
    let first = reset_given es (is_up_at x.far) shown x x.near in
    let again : PairEnds → Heard = λ q. reset_given es false shown q q.near in
    elim (is_down (reset_change es (is_up_at x.far) x.near) && not (is_up_at x.far)) as (λ t. TakesNone (if t then behind first.course again else first).outcome) [
      | true ↦ given_none es false shown first.course.pair first.course.pair.near
      | false ↦ given_none es (is_up_at x.far) shown x x.near
    ]

number_none : (x : PairEnds) (number : ℕ) (same higher : Heard) → TakesNone same.outcome → TakesNone higher.outcome → TakesNone (by_number x number same higher).outcome
number_none x number same higher at above = elim (nat_lt number x.seen) as (λ t. TakesNone (if t then passing x why.Contact else (if number == x.seen then same else higher)).outcome) [
  | true ↦ ignored_none x why.Contact
  | false ↦ elim (number == x.seen) as (λ t. TakesNone (if t then same else higher).outcome) [ true ↦ at | false ↦ above ]
]

notice_none : (es er : ℕ) (p : Fields) (by : ℕ) (shown : BroadcastState) (x : PairEnds) (o : Option LinkEnd) → is_traffic p.header ≡ false → TakesNone (met_at es er p by shown x o).outcome
notice_none es er p by shown x None notice = ignored_none x why.Unknown
notice_none es er p by shown x (Some e) notice =
    let o = outcome_of e.fsm p.header es er (is_up_at x.far) in
    subst (λ t. TakesNone (if t && is_taken o.change then heard_outcome (after e o).session by (content_of p) else change_outcome o.change)) (sym notice) (change_none o.change)

higher_none : (es er : ℕ) (p : Fields) (by : ℕ) (shown : BroadcastState) (x : PairEnds) (number : ℕ) → is_traffic p.header ≡ false → TakesNone (activate_higher number (met_near es er p by shown) x).outcome
higher_none es er p by shown x number notice = elim (in_contact x) as (λ t. TakesNone (activates t (risen x number) (behind (risen x number) (met_near es er p by shown))).outcome) [
  | true ↦ λ first others is. (let wrong : ⊥ = cc in wrong)
  | false ↦ notice_none es er p by shown (risen x number).pair (risen x number).pair.near notice
]

-- a packet with which the near link took some is one that its session heard
pub record TookSome (x z : PairEnds) : Type 0 where
  pub ends : IsPairOfEnds z
  pub goes : GoesOn x z

met_some : (v y : View) (x : PairEnds) (o : Option LinkEnd) (es er : ℕ) (p : Fields) (by : ℕ) (shown : BroadcastState) (first : Taken) (others : List Taken) → ArePaired v y → IsOfPair v x → IsPairOfEnds x → x.near ≡ o
    → ((e : LinkEnd) → outcome_of e.fsm p.header es er (is_up_at x.far) ≡ on_traffic e.fsm es er) → (met_at es er p by shown x o).outcome ≡ LinkOutcome.Took (first ∷ others) → TookSome x (met_at es er p by shown x o).course.pair
met_some v y x None es er p by shown first others h pair ends near same = λ is. absurd (ignored_none x why.Unknown first others is)
met_some v y x (Some e) es er p by shown first others h pair ends near same =
    let o = on_traffic e.fsm es er in
    let P : Outcome → Type 0 = λ k. (met x e k p es by shown).outcome ≡ LinkOutcome.Took (first ∷ others) → TookSome x (met x e k p es by shown).course.pair in
    let some : is_heard p.header o.change ≡ true → TookSome x (met x e o p es by shown).course.pair = λ hears. record {
      ends = heard_kept v y x e es er p by shown h pair ends near hears;
      goes = heard_goes x e es er p by shown hears (taken_in e.fsm es er (and_parts (is_traffic p.header) (is_taken o.change) hears).1);
    } in
    subst P (sym (same e)) (
    elim (is_heard p.header o.change) as (λ t. is_heard p.header o.change ≡ t → (if t then heard_outcome (after e o).session by (content_of p) else change_outcome o.change) ≡ LinkOutcome.Took (first ∷ others) → TookSome x (met x e o p es by shown).course.pair) [
      | true ↦ λ hears _. some hears
      | false ↦ λ _ is. absurd (change_none o.change first others is)
    ] refl)

pub hears_some : (header_is : Header) (v y : View) (x : PairEnds) (es er : ℕ) (p : Fields) (by : ℕ) (shown : BroadcastState) (first : Taken) (others : List Taken) → p.header ≡ header_is → ArePaired v y → IsOfPair v x → IsPairOfEnds x
    → (hears header_is es er p by shown x).outcome ≡ LinkOutcome.Took (first ∷ others) → TookSome x (hears header_is es er p by shown x).course.pair
hears_some (header.Reset said) v y x es er p by shown first others is h pair ends some =
    absurd (number_none x said.contact (reset_near es shown x) (behind (risen x said.contact) (reset_near es shown)) (reset_none es shown x) (reset_none es shown (risen x said.contact).pair) first others some)
hears_some (header.Activate said) v y x es er p by shown first others is h pair ends some =
    absurd (number_none x said.contact (met_near es er p by shown x) (activate_higher said.contact (met_near es er p by shown) x) (notice_none es er p by shown x x.near (ap is_traffic is)) (higher_none es er p by shown x said.contact (ap is_traffic is)) first others some)
hears_some (header.Discovery said) v y x es er p by shown first others is h pair ends some = absurd (notice_none es er p by shown x x.near (ap is_traffic is) first others some)
hears_some other v y x es er p by shown first others is h pair ends some = met_some v y x x.near es er p by shown first others h pair ends refl (λ e. ap (λ k. outcome_of e.fsm k es er (is_up_at x.far)) is) some
