-- The pair of a node: what is seen of it, and a piece of a call that keeps the two nodes what they are.
use Rattle.std.proofs.Common.{◌≡◌, ◌||◌, ℕ, Bool, true, false, List, Option, refl, sym, ap, ◌∙◌, subst, inl, inr}
use Rattle.std.proofs.lemmas.Bool.{cases_Bool}
use Rattle.tipc_fragments.specs.Joining.{fresh}
use Rattle.tipc_link.specs.Links.{LinkEnd}
use Rattle.tipc_pair.specs.Courses.{Course}
use Rattle.tipc_pair.specs.Facing.{PairEnds, in_contact, is_up_at, other}
use Rattle.tipc_changeover.specs.Links.{Bearer, First, Second, State}
use Rattle.tipc_changeover.specs.Sound.{Sound}
use Rattle.tipc_two_nodes.specs.links.Acting.{Acted}
use Rattle.tipc_two_nodes.specs.links.Receiving.{record_at, records_of, Records}
use Rattle.tipc_two_nodes.specs.links.Sending.{SendingEnds, StandFor, end_seen, ends_seen, number_as, turned_sending as turned_ends}
use Rattle.tipc_two_nodes.specs.links.Traffic.{Traffic}
use Rattle.tipc_two_nodes.proofs.links.calls.Acted.{acted_back}
use Rattle.tipc_two_nodes.proofs.links.sender.Happening.{sound_turned}
use Rattle.tipc_two_nodes.proofs.links.sender.Turning.{stand_turned}
use Rattle.tipc_paired.proofs.wires.Wires.{session_of_up}
use Rattle.tipc_paired.specs.Paired.{ArePaired}
use Rattle.tipc_paired.specs.Views.{View}
use Rattle.tipc_two_nodes.proofs.deeds.Pairs.{apart_of, up_end}
use Rattle.tipc_two_nodes.specs.deeds.PairDeeds.{IsOfPair, TakesCourse, Took, none_more}
use Rattle.tipc_two_nodes.specs.Carriages.{IsPresent, ends_in, pair_of}
use Rattle.tipc_two_nodes.specs.Carrying.{Carries, KeepsCarried, none_taken}
use Rattle.tipc_two_nodes.specs.Pieces.{KeepsNumbers, RecordsStay, state_from, traffic_from}
use Rattle.tipc_two_nodes.specs.Twins.{AreTwins, sends_in}
use Rattle.tipc_two_nodes.proofs.calls.Chaining.{AreNow, deeds_piece}
use Rattle.tipc_two_nodes.proofs.calls.PieceTwins.{pieces_carry, pieces_twins}
use Rattle.tipc_two_nodes.proofs.contacts.Stale.{apart_absent}

-- ---- the ends of a view by bearer

pub end_first : (v : View) (p : PairEnds) → IsOfPair v p → p.bearer ≡ 0 → ((v.wires 0).end ≡ p.near) × ((v.wires 1).end ≡ p.far)
end_first v p h is = (ap (λ n. (v.wires n).end) (sym is) ∙ h.near, ap (λ n. (v.wires (other n)).end) (sym is) ∙ h.far)

pub end_second : (v : View) (p : PairEnds) → IsOfPair v p → p.bearer ≡ 1 → ((v.wires 1).end ≡ p.near) × ((v.wires 0).end ≡ p.far)
end_second v p h is = (ap (λ n. (v.wires n).end) (sym is) ∙ h.near, ap (λ n. (v.wires (other n)).end) (sym is) ∙ h.far)

same_ends : (n m c d : ℕ) (near near' far far' : Option LinkEnd) → n ≡ m → c ≡ d → near ≡ near' → far ≡ far'
    → ◌≡◌ {A = SendingEnds} (record { bearer = n; near = end_seen c near; far = end_seen c far }) (record { bearer = m; near = end_seen d near'; far = end_seen d far' })
same_ends n m c d near near' far far' one two three four =
    ap (λ k. record { bearer = k; near = end_seen c near; far = end_seen c far }) one
    ∙ (ap (λ k. record { bearer = m; near = end_seen k near; far = end_seen k far }) two
    ∙ (ap (λ o. record { bearer = m; near = end_seen d o; far = end_seen d far }) three ∙ ap (λ o. record { bearer = m; near = end_seen d near'; far = end_seen d o }) four))

ends_first : (v : View) (p : PairEnds) → IsOfPair v p → p.bearer ≡ 0 → ends_in v ≡ ends_seen p
ends_first v p h is = (let at = end_first v p h is in same_ends 0 p.bearer v.node.contact p.contact _ _ _ _ (sym is) h.contact at.0 at.1)

ends_second : (v : View) (p : PairEnds) → IsOfPair v p → p.bearer ≡ 1 → turned_ends (ends_in v) ≡ ends_seen p
ends_second v p h is = (let at = end_second v p h is in same_ends 1 p.bearer v.node.contact p.contact _ _ _ _ (sym is) h.contact at.0 at.1)

-- ---- the sender, seen from a bearer

pub stand_from : (b : Bearer) (v : View) (p : PairEnds) (t : Traffic) (s : State) → IsOfPair v p → p.bearer ≡ number_as b → StandFor First (ends_in v) t s → StandFor b (ends_seen p) (traffic_from b t) (state_from b s)
stand_from First v p t s h is stand = subst (λ e. StandFor First e t s) (ends_first v p h is) stand
stand_from Second v p t s h is stand = subst (λ e. StandFor Second e (traffic_from Second t) (state_from Second s)) (ends_second v p h is) (stand_turned First (ends_in v) t s stand)

pub sound_from : (b : Bearer) (s : State) → Sound First s → Sound b (state_from b s)
sound_from First s h = h
sound_from Second s h = sound_turned First s h

pub acted_from : (b : Bearer) (v v' : View) (p q : PairEnds) (t : Traffic) (s : State) → IsOfPair v p → IsOfPair v' q → p.bearer ≡ number_as b → q.bearer ≡ p.bearer → Acted b (ends_seen p) (ends_seen q) (traffic_from b t) (state_from b s) → Acted First (ends_in v) (ends_in v') t s
acted_from First v v' p q t s h h' is same a = subst (λ e. Acted First e (ends_in v') t s) (sym (ends_first v p h is)) (subst (λ e. Acted First (ends_seen p) e t s) (sym (ends_first v' q h' (same ∙ is))) a)
acted_from Second v v' p q t s h h' is same a =
    let first = subst (λ e. Acted Second e (ends_seen q) (traffic_from Second t) (state_from Second s)) (sym (ends_second v p h is)) a in
    subst (λ e. Acted First (ends_in v) e t s) (ap turned_ends (sym (ends_second v' q h' (same ∙ is)))) (acted_back First (pair_of v fresh) q t s first)

-- ---- records, and the contact

pub records_from : (b : Bearer) (v v' : View) (p q : PairEnds) → IsOfPair v p → IsOfPair v' q → p.bearer ≡ number_as b → q.bearer ≡ p.bearer → records_of q ≡ records_of p → RecordsStay v v'
records_from First v v' p q h h' is same records =
    let at = end_first v p h is in
    let now = end_first v' q h' (same ∙ is) in
    record {
      near = ap record_at now.0 ∙ (ap (λ (r : Records). r.near) records ∙ ap record_at (sym at.0));
      far = ap record_at now.1 ∙ (ap (λ (r : Records). r.far) records ∙ ap record_at (sym at.1));
    }
records_from Second v v' p q h h' is same records =
    let at = end_second v p h is in
    let now = end_second v' q h' (same ∙ is) in
    record {
      near = ap record_at now.1 ∙ (ap (λ (r : Records). r.far) records ∙ ap record_at (sym at.1));
      far = ap record_at now.0 ∙ (ap (λ (r : Records). r.near) records ∙ ap record_at (sym at.0));
    }

present_at : (v y : View) (n : ℕ) (o : Option LinkEnd) → ArePaired v y → (v.wires n).end ≡ o → is_up_at o ≡ true → IsPresent v v.node.contact v.node.seen
present_at v y n o h is up =
    let at = up_end o up in
    let end = is ∙ at.1 in
    let going = (h.here.ends n at.0 end).going at.2 in
    record { bearer = n; session = going.0; session_is = session_of_up (v.wires n) at.0 going.0 (record { end_is = end; up = at.2; session_is = going.1 }); own_is = refl; theirs_is = refl }

pub or_false : (a b : Bool) → (a || b) ≡ false → (a ≡ false) × (b ≡ false)
or_false true b is = absurd (let wrong : ⊥ = cc in wrong)
or_false false b is = (refl, is)

pub in_contact_present : (v y : View) (p : PairEnds) → ArePaired v y → IsOfPair v p → in_contact p ≡ true → IsPresent v v.node.contact v.node.seen
in_contact_present v y p h pair up = elim (cases_Bool (is_up_at p.near)) [
  | inl near ↦ present_at v y p.bearer p.near h pair.near near
  | inr down ↦ present_at v y (other p.bearer) p.far h pair.far (sym (ap (λ a. a || is_up_at p.far) down) ∙ up)
]

-- a contact that lasts, and lasted before
pub lasts_from : (v v' y : View) (p q : PairEnds) (own theirs : ℕ) → ArePaired v y → IsOfPair v p → IsOfPair v' q → (in_contact q ≡ true → in_contact p ≡ true) → IsPresent v' own theirs → IsPresent v v.node.contact v.node.seen
lasts_from v v' y p q own theirs h pair pair' before here = elim (cases_Bool (in_contact q)) [
  | inl up ↦ in_contact_present v y p h pair (before up)
  | inr down ↦ absurd (let both = or_false (is_up_at q.near) (is_up_at q.far) down in apart_absent v' own theirs (apart_of v' q pair' both.0 both.1) here)
]

pub same_node : (v v' : View) (p q : PairEnds) → IsOfPair v p → IsOfPair v' q → v'.node.boot ≡ v.node.boot → KeepsNumbers p q → v'.node ≡ v.node
same_node v v' p q h k boot m =
    ap (λ n. record v'.node { own = n }) (k.own ∙ m.own ∙ sym h.own)
    ∙ (ap (λ n. record v'.node { own = v.node.own; peer = n }) (k.peer ∙ m.peer ∙ sym h.peer)
    ∙ (ap (λ n. record v'.node { own = v.node.own; peer = v.node.peer; boot = n }) boot
    ∙ (ap (λ n. record v'.node { own = v.node.own; peer = v.node.peer; boot = v.node.boot; contact = n }) (k.contact ∙ m.contact ∙ sym h.contact)
    ∙ ap (λ n. record v.node { seen = n }) (k.seen ∙ m.seen ∙ sym h.seen))))

-- ---- a piece of a call

-- The course of a pair, in which no contact begins or ends and nothing is taken, is events of the sender.
pub record IsCourse (b : Bearer) (v y : View) (h : AreTwins v y) (p : PairEnds) (c : Course) : Type 0 where
  pub numbers : KeepsNumbers p c.pair
  pub records : records_of c.pair ≡ records_of p
  pub before : in_contact c.pair ≡ true → in_contact p ≡ true
  pub acted : Acted b (ends_seen p) (ends_seen c.pair) (traffic_from b (sends_in v y h).traffic) (state_from b (sends_in v y h).state)

pub course_twins : (b : Bearer) (v y : View) (h : AreTwins v y) (p : PairEnds) (c : Course) (numbered : ℕ → ℕ → List (List ℕ)) → IsOfPair v p → p.bearer ≡ number_as b → (v' : View) → Took v y v' c numbered none_more → IsCourse b v y h p c → AreNow v' numbered 0 → AreNow v' numbered 1
    → AreTwins v' y
course_twins b v y h p c numbered pair is v' took m near far =
    let node = same_node v v' p c.pair pair took.pair took.did.boot m.numbers in
    let piece = deeds_piece v v' y h _ numbered none_more took.did node near far (records_from b v v' p c.pair pair took.pair is m.numbers.bearer m.records)
    (λ here. lasts_from v v' y p c.pair v.node.contact v.node.seen h.paired pair took.pair m.before here) (λ b epoch. refl) in
    pieces_twins v v' y h piece (acted_from b v v' p c.pair (sends_in v y h).traffic (sends_in v y h).state pair took.pair is m.numbers.bearer m.acted)

-- and what crosses stays so
course_carry : (b : Bearer) (v y : View) (h : AreTwins v y) (p : PairEnds) (c : Course) (numbered : ℕ → ℕ → List (List ℕ)) (pair : IsOfPair v p) (is : p.bearer ≡ number_as b) (v' : View) (took : Took v y v' c numbered none_more) (m : IsCourse b v y h p c) (near : AreNow v' numbered 0)
    (far : AreNow v' numbered 1)
    → Carries v v' y h (course_twins b v y h p c numbered pair is v' took m near far) none_taken
unfolding course_twins
course_carry b v y h p c numbered pair is v' took m near far =
    let node = same_node v v' p c.pair pair took.pair took.did.boot m.numbers in
    let piece = deeds_piece v v' y h _ numbered none_more took.did node near far (records_from b v v' p c.pair pair took.pair is m.numbers.bearer m.records)
    (λ here. lasts_from v v' y p c.pair v.node.contact v.node.seen h.paired pair took.pair m.before here) (λ b epoch. refl) in
    pieces_carry v v' y h piece (acted_from b v v' p c.pair (sends_in v y h).traffic (sends_in v y h).state pair took.pair is m.numbers.bearer m.acted)

pub course_carried : (b : Bearer) (v y : View) (h : AreTwins v y) (p : PairEnds) (c : Course) (numbered : ℕ → ℕ → List (List ℕ)) → IsOfPair v p → p.bearer ≡ number_as b → (v' : View) → Took v y v' c numbered none_more → IsCourse b v y h p c → AreNow v' numbered 0 → AreNow v' numbered 1
    → (k : AreTwins v' y) × Carries v v' y h k none_taken
course_carried b v y h p c numbered pair is v' took m near far = (course_twins b v y h p c numbered pair is v' took m near far, course_carry b v y h p c numbered pair is v' took m near far)

-- by these deeds
pub with_carried : (v y : View) (h : AreTwins v y) (c : Course) (numbered : ℕ → ℕ → List (List ℕ)) (t : TakesCourse v y c numbered none_more) → (k : AreTwins t.0 y) × Carries v t.0 y h k none_taken → KeepsCarried v y h c numbered
with_carried v y h c numbered t k = (t.0, t.1, k.0, k.1)
