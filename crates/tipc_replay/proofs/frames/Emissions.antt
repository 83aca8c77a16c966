-- The frames of one node to another, and what an event adds to them.
use Rattle.std.proofs.Common.{◌≡◌, ◌≢◌, ◌==◌, ◌&&◌, ℕ, Bool, true, false, List, [], ◌∷◌, ◌++◌, Option, Some, zero, suc, map, take, if◌then◌else◌, refl, sym, ap, ◌∙◌, subst, eqb-true, append-nil, inl, inr, arith}
use Rattle.std.specs.List.{filter}
use Rattle.std.specs.Prelude.{slice_get}
use Rattle.std.proofs.lemmas.Bool.{and_parts}
use Rattle.std.proofs.lemmas.Bool.Decides.{nat_tests}
use Rattle.std.proofs.lemmas.List.Elements.{filter-append}
use Rattle.tipc_types.specs.Address.{node_word}
use Rattle.tipc_types.specs.declared.identity.To.{To}
use Rattle.tipc_types.specs.declared.identity.To.TheVariants as to
use Rattle.tipc_outside.specs.declared.outgoing.Outgoing.{Outgoing}
use Rattle.tipc_header.specs.Frames.{is_of_link}
use Rattle.tipc_pair.specs.Facing.{PairEnds}
use Rattle.tipc_paired.specs.Views.{Frame, er_of, es_of}
use Rattle.tipc_two_nodes.specs.Sights.{IsSent, sent_as}
use Rattle.tipc_replay.specs.declared.air.Sent.{Sent}
use Rattle.tipc_node.specs.Turns.{frames_to, is_out_to, is_to}
use Rattle.tipc_replay.specs.Air.{Leaves, airborne, as_frame, goes, is_on, leaving_on, receiver_of, sent_between, sent_on}
use Rattle.tipc_replay.specs.Skies.{AirState}
use Rattle.tipc_replay.specs.States.{MemberState, contact_at, pair_at}
use Rattle.tipc_replay.specs.Views.{sight_at}
use Rattle.tipc_replay.proofs.frames.Released.{came}
use Rattle.tipc_replay.proofs.pairs.Pairings.{told_as}
use Rattle.tipc_replay.proofs.InLists.{Stands, stands_either, stands_front, stands_left, stands_map, stands_mapped, stands_passed, stands_passing, stands_right}

-- the number of the node that a frame is for
pub receiver_is : (b : ℕ) (t : To) → is_to b t ≡ true → receiver_of t ≡ b
receiver_is b (to.Node address) is = let word : address.word ≡ node_word b = eqb-true _ _ is in omega arith
receiver_is b to.All is = absurd cc

-- a frame of a node goes to another where it is of the links to that
goes_out : (met : ℕ → Option (ℕ × ℕ)) (members : List (Option MemberState)) (a b : ℕ) (o : Outgoing) → goes a b (airborne met members a o) ≡ is_out_to b o
goes_out met members a b o = let same : (node_word a == node_word a) ≡ true = grind (arith, nat_tests) in ap (λ t. t && is_out_to b o) same

goes_apart : (met : ℕ → Option (ℕ × ℕ)) (members : List (Option MemberState)) (a c b : ℕ) (o : Outgoing) → c ≢ a → goes c b (airborne met members a o) ≡ false
goes_apart met members a c b o apart = let differs : (node_word a == node_word c) ≡ false = grind (arith, nat_tests, apart) in ap (λ t. t && is_out_to b o) differs

-- a frame in the air is what the pair of nodes says of it
framed_as : (members members' : List (Option MemberState)) (air air' air'' : AirState) (a b bearer : ℕ) (o : Outgoing) → ((x : PairEnds) → pair_at members a b ≡ Some x → x.bearer ≡ 0)
    → is_out_to b o ≡ true → is_on bearer o ≡ true
    → as_frame bearer (airborne (contact_at members a) members' a o) ≡ sent_as (sight_at members air a b) (sight_at members' air' a b) (sight_at members' air'' b a) o
unfolding sight_at
framed_as members members' air air' air'' a b bearer o first is on =
    let there : o.bearer ≡ bearer = eqb-true _ _ on in
    let contact = told_as members members' air air' a b first in
    rw (receiver_is b o.to (and_parts (is_to b o.to) (is_of_link o.frame) is).0) (λ i. record {
      bearer = sym there i;
      bytes = o.frame;
      contact = (contact i).0;
      peer_contact = (contact i).1;
      numbered = (sight_at members' air' a b).numbered o.bearer (es_of o.frame);
      peer_numbered = (sight_at members' air'' b a).numbered o.bearer (er_of o.frame);
    })

-- ---- what an event adds

-- A frame of node a to b was in the air before the event at a, or leaves in it.
abbrev pub IsAdded : (members members' : List (Option MemberState)) (air air' air'' : AirState) (a b : ℕ) (frames : List Outgoing) → Frame → Type 0
IsAdded members members' air air' air'' a b frames f = IsSent (sight_at members air a b) (sight_at members' air' a b) (sight_at members' air'' b a) (frames_to b frames) f

-- so it is on each bearer
on_bearer : (members members' : List (Option MemberState)) (air air' air'' : AirState) (a b bearer count : ℕ) (sent : List Sent) (frames : List Outgoing) (f : Frame)
    → ((x : PairEnds) → pair_at members a b ≡ Some x → x.bearer ≡ 0)
    → (Stands (sent_on bearer sent a b) f → Stands (sent_between air a b) f)
    → Stands (sent_on bearer (sent ++ leaving_on bearer (contact_at members a) members' a (take count frames)) a b) f
    → IsAdded members members' air air' air'' a b frames f
unfolding sight_at
on_bearer members members' air air' air'' a b bearer count sent frames f first was here =
    let met = contact_at members a in
    let shown = stands_mapped (as_frame bearer) (filter (goes a b) (sent ++ leaving_on bearer met members' a (take count frames))) f here in
    let s = shown.0 in
    let passed = stands_passed (goes a b) (sent ++ leaving_on bearer met members' a (take count frames)) s shown.1 in
    elim (stands_either sent (leaving_on bearer met members' a (take count frames)) s passed.0) [
      | inl old ↦ inl (was (subst (Stands (sent_on bearer sent a b)) (sym shown.2) (stands_map (as_frame bearer) (filter (goes a b) sent) s (stands_passing (goes a b) sent s old passed.1))))
      | inr new ↦
          let left = stands_mapped (airborne met members' a) (filter (is_on bearer) (take count frames)) s new in
          let o = left.0 in
          let at = stands_passed (is_on bearer) (take count frames) o left.1 in
          let for_it : is_out_to b o ≡ true = sym (goes_out met members' a b o) ∙ ap (goes a b) (sym left.2) ∙ passed.1 in
          let place = stands_passing (is_out_to b) frames o (stands_front count frames o at.0) for_it in
          inr (place.0, o, place.1, shown.2 ∙ ap (as_frame bearer) left.2 ∙ framed_as members members' air air' air'' a b bearer o first for_it at.1)
    ]

pub sent_adds : (members members' : List (Option MemberState)) (old new air'' : AirState) (a b : ℕ) (frames : List Outgoing) (lost : Bool) → ((x : PairEnds) → pair_at members a b ≡ Some x → x.bearer ≡ 0)
    → Leaves old new (contact_at members a) members' a frames lost → (k : ℕ) (f : Frame) → slice_get (sent_between new a b) k ≡ Some f → IsAdded members members' old new air'' a b frames f
unfolding sent_between
sent_adds members members' old new air'' a b frames lost first l k f there =
    let met = contact_at members a in
    let front = came old new met members' a frames lost l in
    let left : (bearer : ℕ) → List Sent = λ bearer. leaving_on bearer met members' a (take front.0 frames) in
    let here : Stands (sent_on 0 (old.first ++ left 0) a b ++ sent_on 1 (old.second ++ left 1) a b) f =
    subst (λ (air : AirState). Stands (sent_on 0 air.first a b ++ sent_on 1 air.second a b) f) front.1 (k, there) in
    elim (stands_either (sent_on 0 (old.first ++ left 0) a b) (sent_on 1 (old.second ++ left 1) a b) f here) [
      | inl low ↦ on_bearer members members' old new air'' a b 0 front.0 old.first frames f first (stands_left (sent_on 0 old.first a b) (sent_on 1 old.second a b) f) low
      | inr high ↦ on_bearer members members' old new air'' a b 1 front.0 old.second frames f first (stands_right (sent_on 0 old.first a b) (sent_on 1 old.second a b) f) high
    ]

-- ---- where nothing is added

-- the frames of another node are none of these
emitted_apart : (met : ℕ → Option (ℕ × ℕ)) (members : List (Option MemberState)) (a c b bearer : ℕ) (frames : List Outgoing) → c ≢ a → filter (goes c b) (leaving_on bearer met members a frames) ≡ []
emitted_apart met members a c b bearer frames apart = none (filter (is_on bearer) frames)
  where
    none : (os : List Outgoing) → filter (goes c b) (map (airborne met members a) os) ≡ []
    none [] = refl
    none (o ∷ os) = rw (goes_apart met members a c b o apart) (none os)

-- nor are those for another node, where none is for this one
none_front : (b n : ℕ) (frames : List Outgoing) → frames_to b frames ≡ [] → frames_to b (take n frames) ≡ []
none_front b zero frames none = refl
none_front b (suc n) [] none = refl
none_front b (suc n) (o ∷ os) none = case (none_front b n os) (is_out_to b o) none
  where
    case : (frames_to b os ≡ [] → frames_to b (take n os) ≡ []) → (t : Bool) → (if t then o ∷ frames_to b os else frames_to b os) ≡ []
        → (if t then o ∷ frames_to b (take n os) else frames_to b (take n os)) ≡ []
    case more true is = absurd cc
    case more false is = more is

emitted_none : (met : ℕ → Option (ℕ × ℕ)) (members : List (Option MemberState)) (a b bearer : ℕ) (frames : List Outgoing) → frames_to b frames ≡ [] → filter (goes a b) (leaving_on bearer met members a frames) ≡ []
emitted_none met members a b bearer [] none = refl
emitted_none met members a b bearer (o ∷ os) none = case (emitted_none met members a b bearer os) (is_out_to b o) refl none
  where
    later : filter (goes a b) (leaving_on bearer met members a os) ≡ [] → (t : Bool) → is_out_to b o ≡ false
        → filter (goes a b) (map (airborne met members a) (if t then o ∷ filter (is_on bearer) os else filter (is_on bearer) os)) ≡ []
    later rest true other = rw (goes_out met members a b o ∙ other) rest
    later rest false other = rest

    case : (frames_to b os ≡ [] → filter (goes a b) (leaving_on bearer met members a os) ≡ []) → (t : Bool) → is_out_to b o ≡ t → (if t then o ∷ frames_to b os else frames_to b os) ≡ []
        → filter (goes a b) (leaving_on bearer met members a (o ∷ os)) ≡ []
    case more true is some = absurd cc
    case more false is rest = later (more rest) (is_on bearer o) is

-- so it is on each bearer
stays_on : (bearer c b : ℕ) (sent more : List Sent) → filter (goes c b) more ≡ [] → sent_on bearer (sent ++ more) c b ≡ sent_on bearer sent c b
stays_on bearer c b sent more none =
    ap (map (as_frame bearer)) (filter-append (goes c b) sent more ∙ ap (λ fs. filter (goes c b) sent ++ fs) none ∙ append-nil _)

stay_sent : (old new : AirState) (c b : ℕ) (first second : List Sent) → new ≡ record { first = old.first ++ first; second = old.second ++ second } → filter (goes c b) first ≡ [] → filter (goes c b) second ≡ []
    → sent_between new c b ≡ sent_between old c b
unfolding sent_between
stay_sent old new c b first second is one two =
    ap (λ (air : AirState). sent_on 0 air.first c b ++ sent_on 1 air.second c b) is
    ∙ ap (λ fs. fs ++ sent_on 1 (old.second ++ second) c b) (stays_on 0 c b old.first first one) ∙ ap (λ fs. sent_on 0 old.first c b ++ fs) (stays_on 1 c b old.second second two)

pub sent_same : (met : ℕ → Option (ℕ × ℕ)) (members : List (Option MemberState)) (old new : AirState) (a c b : ℕ) (frames : List Outgoing) (lost : Bool) → Leaves old new met members a frames lost → c ≢ a → sent_between new c b ≡ sent_between old c b
sent_same met members old new a c b frames lost l apart =
    let front = came old new met members a frames lost l in
    stay_sent old new c b _ _ front.1 (emitted_apart met members a c b 0 (take front.0 frames) apart) (emitted_apart met members a c b 1 (take front.0 frames) apart)

pub none_sent : (met : ℕ → Option (ℕ × ℕ)) (members : List (Option MemberState)) (old new : AirState) (a b : ℕ) (frames : List Outgoing) (lost : Bool) → Leaves old new met members a frames lost → frames_to b frames ≡ []
    → sent_between new a b ≡ sent_between old a b
none_sent met members old new a b frames lost l none =
    let front = came old new met members a frames lost l in
    let none_came = none_front b front.0 frames none in
    stay_sent old new a b _ _ front.1 (emitted_none met members a b 0 (take front.0 frames) none_came) (emitted_none met members a b 1 (take front.0 frames) none_came)
