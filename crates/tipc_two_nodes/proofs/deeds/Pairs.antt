-- The pair of a view: seen from either link, with another end, and when it took a course.
use Rattle.std.proofs.Common.{◌≡◌, ◌≢◌, ◌≤◌, ◌==◌, ℕ, true, false, if◌then◌else◌, List, ◌++◌, Option, Some, None, refl, sym, ap, ◌∙◌, subst, inl, inr, arith}
use Rattle.std.proofs.lemmas.Bool.{cases_eq}
use Rattle.tipc_types.specs.LinkStates.{is_up}
use Rattle.tipc_link.specs.Links.{LinkEnd}
use Rattle.tipc_link.proofs.LinkLaw.{Each, Each-append}
use Rattle.tipc_pair.specs.Changeovers.{at_far}
use Rattle.tipc_pair.specs.Courses.{Course, going_on, rests, sent_in}
use Rattle.tipc_pair.specs.Facing.{PairEnds, facing, is_up_at, other, turned, with_far, with_near}
use Rattle.tipc_pair.specs.PairCalls.{at_bearer}
use Rattle.tipc_paired.proofs.PairedLaw.{all_paired}
use Rattle.tipc_paired.proofs.wires.Wires.{put_other, put_same}
use Rattle.tipc_paired.specs.Deeds.{IsBeside}
use Rattle.tipc_paired.specs.Paired.{ArePaired}
use Rattle.tipc_paired.specs.Views.{IsApart, Node, View, Wire, with_wire}
use Rattle.tipc_two_nodes.proofs.deeds.Chains.{did_as, did_nothing, did_then, each_first, each_last}
use Rattle.tipc_two_nodes.specs.deeds.PairDeeds.{IsOfPair, TakesCourse, Took, both_more, none_more}

-- ---- seen from either link

pub other_bearer : (b : ℕ) → b ≤ 1 → other b ≢ b
other_bearer b two same = let wrong : ⊥ = omega arith in wrong

pub other_twice : (b : ℕ) → b ≤ 1 → other (other b) ≡ b
other_twice b two = omega arith

pub of_turned : (v : View) (x : PairEnds) → IsOfPair v x → IsOfPair v (turned x)
of_turned v x h = record {
  own = h.own;
  peer = h.peer;
  contact = h.contact;
  seen = h.seen;
  two_bearers = (let two = h.two_bearers in omega arith);
  near = h.far;
  far = ap (λ b. (v.wires b).end) (other_twice x.bearer h.two_bearers) ∙ h.near;
  alone = h.alone;
}

pub of_facing : (v : View) (b : ℕ) (x : PairEnds) → IsOfPair v x → IsOfPair v (facing b x)
unfolding facing
of_facing v b x h = elim (x.bearer == b) as (λ t. IsOfPair v (if t then x else turned x)) [ true ↦ h | false ↦ of_turned v x h ]

-- ---- with another end

pub of_near : (v : View) (x : PairEnds) (w' : Wire) (e' : LinkEnd) → IsOfPair v x → w'.end ≡ Some e' → IsOfPair (with_wire v x.bearer w') (with_near x e')
of_near v x w' e' h is = record {
  own = h.own;
  peer = h.peer;
  contact = h.contact;
  seen = h.seen;
  two_bearers = h.two_bearers;
  near = ap (λ (w : Wire). w.end) (put_same v.wires x.bearer w') ∙ is;
  far = ap (λ (w : Wire). w.end) (put_other v.wires x.bearer w' (other x.bearer) (other_bearer x.bearer h.two_bearers)) ∙ h.far;
  alone = λ b more. (
      let two = h.two_bearers in
      ap (λ (w : Wire). w.end) (put_other v.wires x.bearer w' b (λ same. (let wrong : ⊥ = omega arith in wrong))) ∙ h.alone b more);
}

pub of_far : (v : View) (x : PairEnds) (w' : Wire) (e' : LinkEnd) → IsOfPair v x → w'.end ≡ Some e' → IsOfPair (with_wire v (other x.bearer) w') (with_far x e')
of_far v x w' e' h is =
    subst (λ b. IsOfPair (with_wire v (other x.bearer) w') (record x { bearer = b; far = Some e' })) (other_twice x.bearer h.two_bearers)
    (of_turned (with_wire v (other x.bearer) w') (with_near (turned x) e') (of_near v (turned x) w' e' (of_turned v x h) is))

-- ---- no link is up, or another one

pub apart_of : (v : View) (x : PairEnds) → IsOfPair v x → is_up_at x.near ≡ false → is_up_at x.far ≡ false → IsApart v
apart_of v x h near far b e is = elim (cases_eq b x.bearer) [
  | inl same ↦ ap is_up_at (sym is ∙ ap (λ c. (v.wires c).end) same ∙ h.near) ∙ near
  | inr not_near ↦ elim (cases_eq b (other x.bearer)) [
    | inl same ↦ ap is_up_at (sym is ∙ ap (λ c. (v.wires c).end) same ∙ h.far) ∙ far
    | inr not_far ↦
        let two = h.two_bearers in
        absurd (let none = h.alone b (omega arith) in let wrong : ⊥ = cc in wrong)
  ]
]

pub up_end : (o : Option LinkEnd) → is_up_at o ≡ true → (e : LinkEnd) × (o ≡ Some e) × (is_up e.fsm.state ≡ true)
up_end None up = absurd (let wrong : ⊥ = cc in wrong)
up_end (Some e) up = (e, refl, up)

pub beside_of : (v : View) (x : PairEnds) → IsOfPair v x → is_up_at x.far ≡ true → IsBeside v x.bearer
beside_of v x h up =
    let at = up_end x.far up in
    record { other = other x.bearer; elsewhere = other_bearer x.bearer h.two_bearers; end = at.0; end_is = h.far ∙ at.1; up = at.2 }

-- ---- courses

pub takes_rest : (v y : View) (x : PairEnds) → IsOfPair v x → TakesCourse v y (rests x) none_more none_more
takes_rest v y x h = (v, record { did = did_nothing v y; pair = h })

-- the frames of two courses, those of link states first
between : {A : Type 0} (P : A → Type 0) (a b c d : List A) → Each P ((a ++ b) ++ (c ++ d)) → Each P ((a ++ c) ++ (b ++ d))
between P a b c d h =
    let first = each_first P (a ++ b) (c ++ d) h in
    let last = each_last P (a ++ b) (c ++ d) h in
    Each-append P (a ++ c) (b ++ d) (Each-append P a c (each_first P a b first) (each_first P c d last)) (Each-append P b d (each_last P a b first) (each_last P c d last))

-- one step and then another
pub took_then : (v y mid last : View) (c : Course) (step : PairEnds → Course) (n m t u : ℕ → ℕ → List (List ℕ)) → Took v y mid c n t → Took mid y last (step c.pair) m u → Took v y last (going_on c step) (both_more n m) (both_more t u)
unfolding going_on
took_then v y mid last c step n m t u first next =
    let d = step c.pair in
    record {
      did = did_as v y last (sent_in c ++ sent_in d) ((c.states ++ d.states) ++ (c.numbered ++ d.numbered)) (both_more n m) (both_more n m) (both_more t u) (both_more t u)
          (did_then v y mid last (sent_in c) (sent_in d) n m t u first.did next.did) (λ P told. between P c.states c.numbered d.states d.numbered told) (λ b k. refl) (λ b k. refl);
      pair = next.pair;
    }

pub takes_then : (v y : View) (c : Course) (step : PairEnds → Course) (n m t u : ℕ → ℕ → List (List ℕ)) → ArePaired v y → TakesCourse v y c n t
    → ((mid : View) → ArePaired mid y → Took v y mid c n t → TakesCourse mid y (step c.pair) m u) → TakesCourse v y (going_on c step) (both_more n m) (both_more t u)
takes_then v y c step n m t u h first next =
    let mid = first.0 in
    let last = next mid (all_paired v y mid h first.1.did.does) first.1 in
    (last.0, took_then v y mid last.0 c step n m t u first.1 last.1)

-- the same packets by other words
pub takes_as : (v y : View) (c : Course) (n m t u : ℕ → ℕ → List (List ℕ)) → TakesCourse v y c n t → ((b k : ℕ) → n b k ≡ m b k) → ((b k : ℕ) → t b k ≡ u b k) → TakesCourse v y c m u
takes_as v y c n m t u h same_n same_t = (h.0, record { did = did_as v y h.0 (sent_in c) (sent_in c) n m t u h.1.did (λ P each. each) same_n same_t; pair = h.1.pair })

-- at the far link, and at the link of a bearer
pub takes_far : (v y : View) (x : PairEnds) (step : PairEnds → Course) (n t : ℕ → ℕ → List (List ℕ)) → TakesCourse v y (step (turned x)) n t → TakesCourse v y (at_far step x) n t
takes_far v y x step n t m = (m.0, record { did = m.1.did; pair = of_turned m.0 (step (turned x)).pair m.1.pair })

pub takes_at : (v y : View) (b : ℕ) (x : PairEnds) (call : PairEnds → Course) (n t : ℕ → ℕ → List (List ℕ)) → TakesCourse v y (call (facing b x)) n t → TakesCourse v y (at_bearer b x call) n t
takes_at v y b x call n t m = (m.0, record { did = m.1.did; pair = of_facing m.0 x.bearer (call (facing b x)).pair m.1.pair })

-- ---- an end that changed, by whatever deeds

pub of_changed : (v after : View) (x : PairEnds) (e' : LinkEnd) → IsOfPair v x → after.node ≡ v.node → (after.wires x.bearer).end ≡ Some e' → ((c : ℕ) → c ≢ x.bearer → (after.wires c).end ≡ (v.wires c).end) → IsOfPair after (with_near x e')
of_changed v after x e' h node end others = record {
  own = ap (λ (n : Node). n.own) node ∙ h.own;
  peer = ap (λ (n : Node). n.peer) node ∙ h.peer;
  contact = ap (λ (n : Node). n.contact) node ∙ h.contact;
  seen = ap (λ (n : Node). n.seen) node ∙ h.seen;
  two_bearers = h.two_bearers;
  near = end;
  far = others (other x.bearer) (other_bearer x.bearer h.two_bearers) ∙ h.far;
  alone = λ b more. (let two = h.two_bearers in others b (λ same. (let wrong : ⊥ = omega arith in wrong)) ∙ h.alone b more);
}

pub of_changed_far : (v after : View) (x : PairEnds) (e' : LinkEnd) → IsOfPair v x → after.node ≡ v.node → (after.wires (other x.bearer)).end ≡ Some e' → ((c : ℕ) → c ≢ other x.bearer → (after.wires c).end ≡ (v.wires c).end) → IsOfPair after (with_far x e')
of_changed_far v after x e' h node end others =
    subst (λ b. IsOfPair after (record x { bearer = b; far = Some e' })) (other_twice x.bearer h.two_bearers)
    (of_turned after (with_near (turned x) e') (of_changed v after (turned x) e' (of_turned v x h) node end others))
