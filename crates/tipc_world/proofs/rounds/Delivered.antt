-- Where no packet is under way in a world, all that nodes accepted for one another in their contacts was delivered.
use Rattle.std.specs.Prelude.{◌==◌, IfSome, nat_le, option_and_then, option_map, unwrap_or}
use Rattle.std.proofs.Common.{◌≡◌, ◌≢◌, ◌+◌, ◌∙◌, ℕ, zero, suc, Bool, true, false, List, [], ◌∷◌, ◌++◌, Option, Some, None, if◌then◌else◌, length, map, slice_index_or, sum_by, inl, inr, refl, sym, ap, subst, append-nil, length-append, arith}
use Rattle.std.proofs.lemmas.List.{length-map, nil_from_length}
use Rattle.std.proofs.lemmas.List.Sums.{sum_by-cons}
use Rattle.tipc_types.specs.Address.{node_word}
use Rattle.tipc_types.specs.Prefixes.{IsPrefixOf}
use Rattle.tipc_types.specs.declared.message_forms.Flow.{Flow}
use Rattle.tipc_types.specs.declared.message_forms.Flow.TheVariants.{Broadcast, One, Zero}
use Rattle.tipc_types.specs.declared.message_forms.Message.{Message}
use Rattle.tipc_broadcast.specs.Casting.{booted, Casting}
use Rattle.tipc_casters.specs.Sights.{contact_of}
use Rattle.tipc_link.specs.Links.{LinkEnd}
use Rattle.tipc_link.specs.Sessions.{SessionEnd}
use Rattle.tipc_pair.specs.Facing.{PairEnds, contact_between, facing, in_contact, turned}
use Rattle.tipc_two_nodes.specs.Quiet.{HasNothingLeft, IsEmptied}
use Rattle.tipc_two_nodes.proofs.sights.Quiet.{quiet_is_given}
use Rattle.tipc_node.specs.declared.neighbours.Neighbour.{Neighbour}
use Rattle.tipc_node.specs.Messages.{bytes_of}
use Rattle.tipc_node.specs.Nodes.{NodeState, neighbour_of, pair_with}
use Rattle.tipc_node.specs.Turns.{pair_in}
use Rattle.tipc_settling.specs.Loads.{end_sum, link_sum, peer_sum, session_sum, under_way}
use Rattle.tipc_settling.proofs.Calm.{packets_by_part}
use Rattle.tipc_replay.specs.Casters.{cast_contact, caster_at, casting_at, member_of_caster, members_of}
use Rattle.tipc_replay.specs.Skies.{AirState}
use Rattle.tipc_replay.specs.Numbers.{end_on, own_in, seen_in}
use Rattle.tipc_replay.specs.Sound.{IsNumber}
use Rattle.tipc_replay.specs.States.{MemberState, accepted_at, boot_at, contact_at, delivered_at, pair_at}
use Rattle.tipc_replay.specs.Steps.{stage}
use Rattle.tipc_replay.specs.Views.{sight_at}
use Rattle.tipc_replay.proofs.LookUps.{member_at-is, pair_at-is}
use Rattle.tipc_replay.proofs.Promise.{is_replayed}
use Rattle.tipc_replay.proofs.SoundWorlds.{absent_pair}
use Rattle.tipc_replay.proofs.calls.Outcomes.{some_is}
use Rattle.tipc_replay.proofs.casts.CastGiven.{numbers_fit}
use Rattle.tipc_replay.proofs.casts.MemberLooks.{is_member, put_for, word_is}
use Rattle.tipc_world.specs.Poised.{IsAllDelivered, packets_under_way}
use Rattle.tipc_world.specs.RoundParts.{IsKept, number_of_member}
use Rattle.tipc_world.specs.States.{WorldState}
use Rattle.tipc_world.proofs.rounds.AnyPeer.{which_peer}
use Rattle.tipc_world.proofs.rounds.Beginning.{known_pair}
use Rattle.tipc_world.proofs.rounds.CastDelivered.{IsEmptyWindow, cast_given}
use Rattle.tipc_world.proofs.rounds.HeardWorlds.{told_of}
use Rattle.tipc_world.proofs.rounds.Loads.{packets_are_total, packets_at}

-- ---- a sum that is 0

-- so is each of its parts
part_zero : {A : Type 0} (f : Option A → ℕ) → f None ≡ 0 → (xs : List (Option A)) (i : ℕ) → sum_by f xs ≡ 0 → f (slice_index_or xs i None) ≡ 0
part_zero f none [] i is = none
part_zero f none (x ∷ xs) zero is = (let all = sum_by-cons f x xs in omega (arith, all, is))
part_zero f none (x ∷ xs) (suc i) is = (let all = sum_by-cons f x xs in part_zero f none xs i (omega (arith, all, is)))

empty_list : {A : Type 0} (xs ys : List A) → length xs + length ys ≡ 0 → (xs ≡ []) × (ys ≡ [])
empty_list xs ys none = (nil_from_length xs (omega (arith, none)), nil_from_length ys (omega (arith, none)))

-- ---- links and broadcast links on which nothing is under way

session_left : (session : Option SessionEnd) → session_sum under_way session ≡ 0 → IfSome session IsEmptied
session_left None none = tt
session_left (Some s) none = empty_list s.sending.unacked s.sending.waiting none

end_left : (end : Option LinkEnd) → end_sum under_way end ≡ 0 → HasNothingLeft end
end_left None none = tt
end_left (Some e) none = λ up. session_left e.session (sym (ap (λ t. if t then session_sum under_way e.session else 0) up) ∙ none)

-- both ends of a pair, on either bearer
pair_left : (x : PairEnds) (bearer : ℕ) → end_sum under_way x.near + end_sum under_way x.far ≡ 0 → HasNothingLeft (facing bearer x).near
unfolding facing
pair_left x bearer none = by (x.bearer == bearer)
  where
    by : (t : Bool) → HasNothingLeft (if t then x else turned x).near
    by true = end_left x.near (omega (arith, none))
    by false = end_left x.far (omega (arith, none))

peer_left : (o : Option Neighbour) (bearer : ℕ) → peer_sum under_way o ≡ 0 → HasNothingLeft (end_on bearer (option_map (λ (x : Neighbour). x.pair) o))
peer_left None bearer none = tt
peer_left (Some x) bearer none = by (nat_le bearer 1)
  where
    by : (t : Bool) → HasNothingLeft (if t then (facing bearer x.pair).near else None)
    by true = pair_left x.pair bearer none
    by false = tt

-- a node on whose links and broadcast link nothing is under way
record IsIdle (n : NodeState) : Type 0 where
  links : (b bearer : ℕ) → HasNothingLeft (end_on bearer (pair_in n b))
  casts : IsEmptyWindow n.casting.sending

node_idle : (w : WorldState) (n : ℕ) (m : MemberState) → IsKept w → slice_index_or w.members n None ≡ Some m → packets_under_way w ≡ 0 → IsIdle m.node
unfolding link_sum
node_idle w n m kept there none =
    let total = packets_are_total w in
    let one : number_of_member packets_at (slice_index_or w.members n None) ≡ 0 = part_zero (number_of_member packets_at) refl w.members n (total ∙ none) in
    let here : packets_at m ≡ 0 = sym (ap (number_of_member packets_at) there) ∙ one in
    let parts = packets_by_part m.node (told_of w n m kept there) in
    let links : sum_by (peer_sum under_way) m.node.neighbours ≡ 0 = omega (arith, here, parts) in
    record {
      links = λ b bearer. peer_left (neighbour_of m.node b) bearer (part_zero (peer_sum under_way) refl m.node.neighbours b links);
      casts = empty_list m.node.casting.sending.unacked m.node.casting.sending.waiting (omega (arith, here, parts));
    }

-- ---- a contact

-- one of these numbers
abbrev met : ℕ → ℕ → Option (ℕ × ℕ)
met own theirs = Some (own, theirs)

-- its numbers are those of the pair
contact_shown : (members : List (Option MemberState)) (a b own theirs : ℕ) → contact_at members a b ≡ Some (own, theirs)
    → (x : PairEnds) × (pair_at members a b ≡ Some x) × (x.contact ≡ own) × (x.seen ≡ theirs)
unfolding contact_at
contact_shown members a b own theirs is = by (pair_at members a b) refl is
  where
    by : (o : Option PairEnds) → pair_at members a b ≡ o → option_and_then contact_between o ≡ Some (own, theirs) → (x : PairEnds) × (pair_at members a b ≡ Some x) × (x.contact ≡ own) × (x.seen ≡ theirs)
    by None none is = absurd cc
    by (Some x) there is = shown (in_contact x) is
      where
        shown : (t : Bool) → (if t then met x.contact x.seen else None) ≡ met own theirs → (y : PairEnds) × (pair_at members a b ≡ Some y) × (y.contact ≡ own) × (y.seen ≡ theirs)
        shown true is = (let same = some_is (x.contact, x.seen) (own, theirs) is in (x, there, ap (λ (k : ℕ × ℕ). k.0) same, ap (λ (k : ℕ × ℕ). k.1) same))
        shown false is = absurd cc

-- the two nodes, and the contact between them
record IsContactOf (w : WorldState) (a b own theirs : ℕ) : Type 0 where
  m : MemberState
  there : slice_index_or w.members a None ≡ Some m
  x : PairEnds
  pair : pair_at w.members a b ≡ Some x
  own_is : x.contact ≡ own
  theirs_is : x.seen ≡ theirs
  here : IsNumber a
  peer : IsNumber b
  apart : a ≢ b

no_neighbour : (w : WorldState) (a b : ℕ) (m : MemberState) (x : PairEnds) → slice_index_or w.members a None ≡ Some m → pair_at w.members a b ≡ Some x → neighbour_of m.node b ≡ None → ⊥
no_neighbour w a b m x there pair none =
    let wrong : None ≡ Some x = sym (ap (option_map (λ (k : Neighbour). k.pair)) none) ∙ (sym (pair_at-is w.members a b m (member_at-is w.members a m there)) ∙ pair) in
    cc

its_contact : (w : WorldState) (a b own theirs : ℕ) → IsKept w → contact_at w.members a b ≡ Some (own, theirs) → IsContactOf w a b own theirs
its_contact w a b own theirs kept is =
    let s = contact_shown w.members a b own theirs is in
    by s.0 s.1 s.2 s.3 (slice_index_or w.members a None) refl
  where
    by : (x : PairEnds) → pair_at w.members a b ≡ Some x → x.contact ≡ own → x.seen ≡ theirs → (o : Option MemberState) → slice_index_or w.members a None ≡ o → IsContactOf w a b own theirs
    by x pair own_is theirs_is None none = absurd (let wrong : None ≡ Some x = sym (absent_pair w.members a b none) ∙ pair in cc)
    by x pair own_is theirs_is (Some m) there = elim (which_peer w a b m kept there) [
      | inl number ↦ record { m = m; there = there; x = x; pair = pair; own_is = own_is; theirs_is = theirs_is; here = (kept.nodes.sound.numbered a m there).0; peer = number.0; apart = number.1 }
      | inr none ↦ absurd (no_neighbour w a b m x there pair none)
    ]

-- ---- messages

-- a front that is as long as the whole
whole_front : {A : Type 0} (xs ys : List A) → IsPrefixOf xs ys → length xs ≡ length ys → xs ≡ ys
whole_front {A} xs ys front long = by front.0 front.1
  where
    by : (rest : List A) → ys ≡ xs ++ rest → xs ≡ ys
    by [] is = sym (is ∙ append-nil xs)
    by (r ∷ rest) is = absurd (let all = ap length is ∙ length-append xs (r ∷ rest) in omega (arith, all, long))

same_long : (f : Message → List ℕ) (xs ys : List Message) → map f xs ≡ map f ys → length xs ≡ length ys
same_long f xs ys same = sym (length-map xs f) ∙ (ap length same ∙ length-map ys f)

-- ---- flow Zero, and flow Broadcast

zero_given : (w : WorldState) (a b own theirs : ℕ) (c : IsContactOf w a b own theirs) → IsKept w → IsIdle c.m.node
    → map (bytes_of (node_word a)) (delivered_at w.members b a theirs own Zero) ≡ map (bytes_of (node_word a)) (accepted_at w.members a b own theirs Zero)
unfolding sight_at accepted_at delivered_at
zero_given w a b own theirs c kept idle =
    let v = sight_at w.members w.air a b in
    let u = sight_at w.members w.air b a in
    let pair = sym (pair_at-is w.members a b c.m (member_at-is w.members a c.m c.there)) in
    let left : (bearer : ℕ) → HasNothingLeft (v.ends bearer) = λ bearer. subst (λ o. HasNothingLeft (end_on bearer o)) pair (idle.links b bearer) in
    let own_is : v.node.contact ≡ own = ap (own_in (boot_at w.members a)) c.pair ∙ c.own_is in
    let theirs_is : v.node.seen ≡ theirs = ap seen_in c.pair ∙ c.theirs_is in
    let given = quiet_is_given v u (kept.nodes.sound.pairs a b c.here c.peer c.apart) (left 0) (left 1) in
    subst (λ k. u.given theirs k ≡ v.put k theirs) own_is (subst (λ k. u.given k v.node.contact ≡ v.put v.node.contact k) theirs_is given)

given_for : (members : List (Option MemberState)) (air : AirState) (a b own theirs : ℕ)
    → (members_of members air a (node_word b)).given own theirs ≡ map (bytes_of (node_word a)) (delivered_at members b a theirs own Broadcast)
unfolding member_of_caster
given_for members air a b own theirs = ap (λ k. map (bytes_of (node_word a)) (delivered_at members k a theirs own Broadcast)) (word_is b)

cast_given_at : (w : WorldState) (a b own theirs : ℕ) (c : IsContactOf w a b own theirs) → contact_at w.members a b ≡ Some (own, theirs) → IsKept w → IsIdle c.m.node
    → map (bytes_of (node_word a)) (delivered_at w.members b a theirs own Broadcast) ≡ map (bytes_of (node_word a)) (accepted_at w.members a b own theirs Broadcast)
unfolding caster_at casting_at
cast_given_at w a b own theirs c is kept idle =
    let caster = kept.nodes.casts a c.here in
    let word = node_word b in
    let other = is_member w.members w.air a b caster.own c.peer c.apart in
    let known : pair_with c.m.node b ≡ c.x = known_pair c.m.node b c.x (sym (pair_at-is w.members a b c.m (member_at-is w.members a c.m c.there)) ∙ c.pair) in
    let fit = numbers_fit (stage w.members w.air) a b c.m kept.nodes.sound c.there c.peer (λ same. c.apart (sym same)) in
    let own_is : (pair_with c.m.node b).contact ≡ own = ap (λ (y : PairEnds). y.contact) known ∙ c.own_is in
    let theirs_is : (pair_with c.m.node b).seen ≡ theirs = ap (λ (y : PairEnds). y.seen) known ∙ c.theirs_is in
    let low = fit.0 in
    let high = fit.1 in
    let joined : (caster_at w.members w.air a).joined word ≡ Some (contact_of own theirs) = ap (λ k. option_map cast_contact (contact_at w.members a k)) (word_is b) ∙ ap (option_map cast_contact) is in
    let casting : casting_at w.members a ≡ c.m.node.casting = ap (λ (o : Option MemberState). unwrap_or (option_map (λ (k : MemberState). k.node.casting) o) (booted (node_word a) 1)) (member_at-is w.members a c.m c.there) in
    let all = cast_given (caster_at w.members w.air a) (members_of w.members w.air a) word own theirs caster.seen other (omega (arith, high, own_is), omega (arith, low, theirs_is)) joined (subst (λ (k : Casting). IsEmptyWindow k.sending) (sym casting) idle.casts) in
    sym (given_for w.members w.air a b own theirs) ∙ (all ∙ put_for w.members w.air a b own theirs)

-- ---- all flows

pub quiet_is_delivered : (w : WorldState) → IsKept w → packets_under_way w ≡ 0 → IsAllDelivered w
quiet_is_delivered w kept none a b own theirs flow is = by flow
  where
    c : IsContactOf w a b own theirs
    c = its_contact w a b own theirs kept is

    idle : IsIdle c.m.node
    idle = node_idle w a c.m kept c.there none

    same : (flow : Flow) → map (bytes_of (node_word a)) (delivered_at w.members b a theirs own flow) ≡ map (bytes_of (node_word a)) (accepted_at w.members a b own theirs flow)
        → delivered_at w.members b a theirs own flow ≡ accepted_at w.members a b own theirs flow
    same flow bytes =
        whole_front (delivered_at w.members b a theirs own flow) (accepted_at w.members a b own theirs flow) ((is_replayed w.members w.air kept.nodes).prefix a b own theirs flow)
        (same_long (bytes_of (node_word a)) (delivered_at w.members b a theirs own flow) (accepted_at w.members a b own theirs flow) bytes)

    by : (flow : Flow) → delivered_at w.members b a theirs own flow ≡ accepted_at w.members a b own theirs flow
    by Zero = same Zero (zero_given w a b own theirs c kept idle)
    by One = (kept.nodes.sound.no_flow_one b a theirs own).1 ∙ sym (kept.nodes.sound.no_flow_one a b own theirs).0
    by Broadcast = same Broadcast (cast_given_at w a b own theirs c is kept idle)
