-- Each frame that comes into the air is of a node, and addressed by its kind.
use Rattle.std.proofs.Common.{◌≡◌, ◌⊎◌, ◌≤◌, ◌==◌, inl, inr, ℕ, zero, suc, Bool, true, false, List, [], ◌∷◌, ◌++◌, Option, filter, if◌then◌else◌, map, take, refl, sym, ap, ◌∙◌, subst}
use Rattle.std.specs.Prelude.{All}
use Rattle.std.proofs.lemmas.List.Elements.{All-head, All-tail, All-take, All-weaker}
use Rattle.tipc_types.specs.Address.{node_word}
use Rattle.tipc_types.specs.declared.identity.Addr.{Addr}
use Rattle.tipc_types.specs.declared.identity.To.{To}
use Rattle.tipc_types.specs.declared.identity.To.TheVariants as to
use Rattle.tipc_header.specs.declared.frames.FrameKind.TheVariants.{Finds}
use Rattle.tipc_header.specs.Frames.{is_of_link, kind_in}
use Rattle.tipc_outside.specs.declared.outgoing.Outgoing.{Outgoing}
use Rattle.tipc_node.specs.Turns.{addr_of}
use Rattle.tipc_replay.specs.Addressed.{IsAddressed, IsPacketOf, IsToOther, of_a_link, of_broadcast, of_discovery}
use Rattle.tipc_link.proofs.LinkLaw.{Each, Each-append}
use Rattle.tipc_replay.specs.declared.air.Sent.{Sent}
use Rattle.tipc_replay.specs.Air.{IsOut, Leaves, airborne, is_on, leaving_on, with_leaving}
use Rattle.tipc_replay.specs.Skies.{AirState, air_on}
use Rattle.tipc_replay.specs.Sound.{IsAirborne, IsNumber, IsSentBy}
use Rattle.tipc_replay.specs.States.{MemberState, has_member}
use Rattle.tipc_replay.proofs.frames.Released.{came}

-- one that is for a node is for one of the 32
pub to_number : (a : ℕ) (o : Outgoing) (address : Addr) → IsOut a o → o.to ≡ to.Node address → (n : ℕ) × (1 ≤ n) × (n ≤ 32) × (address.word ≡ node_word n)
to_number a o address out is = by out.addressed
  where
    other : IsToOther a o.to → (n : ℕ) × (1 ≤ n) × (n ≤ 32) × (address.word ≡ node_word n)
    other r =
        let same : to.Node (addr_of r.receiver) ≡ to.Node address = sym r.to_is ∙ is in
        let there : addr_of r.receiver ≡ address = cc in
        (r.receiver, r.number.0, r.number.1, ap (λ (x : Addr). x.word) (sym there))

    by : IsAddressed a o.frame o.to → (n : ℕ) × (1 ≤ n) × (n ≤ 32) × (address.word ≡ node_word n)
    by (of_a_link link r) = other r
    by (of_discovery packet kind low (inl r)) = other r
    by (of_discovery packet kind low (inr all)) = absurd (let wrong : to.All ≡ to.Node address = sym all ∙ is in cc)
    by (of_broadcast packet kind all) = absurd (let wrong : to.All ≡ to.Node address = sym all ∙ is in cc)

-- a discovery packet of a node goes to another one, or to all
pub goes_out : (a : ℕ) (bytes : List ℕ) (t : To) → IsPacketOf a bytes → kind_in bytes ≡ Finds → is_of_link bytes ≡ false → IsToOther a t ⊎ (t ≡ to.All) → IsAddressed a bytes t
goes_out a bytes t said kind low receivers = of_discovery said kind low receivers

-- a frame in the air
flies : (met : ℕ → Option (ℕ × ℕ)) (members : List (Option MemberState)) (a : ℕ) (o : Outgoing) → IsNumber a → IsOut a o → IsAirborne (airborne met members a o)
flies met members a o number out = record {
  from = a;
  from_number = number;
  from_is = refl;
  addressed = out.addressed;
  size = out.size;
}

-- what is so of each frame that leaves is so of those that come into it on a bearer
all_come : (P : Sent → Type 0) (met : ℕ → Option (ℕ × ℕ)) (members : List (Option MemberState)) (a bearer : ℕ) (frames : List Outgoing) → All (λ o. P (airborne met members a o)) frames → Each P (leaving_on bearer met members a frames)
all_come P met members a bearer [] all = λ k f is. absurd cc
all_come P met members a bearer (o ∷ os) all =
    let Q : Outgoing → Type 0 = λ o. P (airborne met members a o) in
    one (is_on bearer o) (all_come P met members a bearer os (All-tail Q o os all)) (All-head Q o os all)
  where
    one : (t : Bool) → Each P (leaving_on bearer met members a os) → P (airborne met members a o) → Each P (map (airborne met members a) (if t then o ∷ filter (is_on bearer) os else filter (is_on bearer) os))
    one true rest here zero f is = let same : airborne met members a o ≡ f = cc in subst P same here
    one true rest here (suc k) f is = rest k f is
    one false rest here k f is = rest k f is

-- so it is of the frames in the air after some came into it
pub air_comes : (P : Sent → Type 0) (met : ℕ → Option (ℕ × ℕ)) (members : List (Option MemberState)) (old new : AirState) (a : ℕ) (frames : List Outgoing) (lost : Bool) → Leaves old new met members a frames lost → All (λ o. P (airborne met members a o)) frames
    → ((bearer : ℕ) → Each P (air_on bearer old)) → (bearer : ℕ) → Each P (air_on bearer new)
air_comes P met members old new a frames lost l all before bearer =
    subst (λ air. Each P (air_on bearer air)) (sym front.1) (by (bearer == 0) (bearer == 1) refl refl)
  where
    front : (count : ℕ) × (new ≡ with_leaving old met members a (take count frames))
    front = came old new met members a frames lost l

    more : (k : ℕ) → Each P (leaving_on k met members a (take front.0 frames))
    more k = all_come P met members a k (take front.0 frames) (All-take (λ o. P (airborne met members a o)) front.0 frames all)

    by : (s t : Bool) → (bearer == 0) ≡ s → (bearer == 1) ≡ t
        → Each P (if s then old.first ++ leaving_on 0 met members a (take front.0 frames) else (if t then old.second ++ leaving_on 1 met members a (take front.0 frames) else []))
    by true t is one = Each-append P old.first (leaving_on 0 met members a (take front.0 frames)) (before 0) (more 0)
    by false true is one = Each-append P old.second (leaving_on 1 met members a (take front.0 frames)) (before 1) (more 1)
    by false false is one = λ k f there. absurd cc

pub air_flies : (met : ℕ → Option (ℕ × ℕ)) (members : List (Option MemberState)) (old new : AirState) (a : ℕ) (frames : List Outgoing) (lost : Bool) → Leaves old new met members a frames lost → IsNumber a → All (IsOut a) frames
    → ((bearer : ℕ) → Each IsAirborne (air_on bearer old)) → (bearer : ℕ) → Each IsAirborne (air_on bearer new)
air_flies met members old new a frames lost l number out before bearer =
    air_comes IsAirborne met members old new a frames lost l (All-weaker (IsOut a) (λ o. IsAirborne (airborne met members a o)) (λ o is. flies met members a o number is) frames out) before bearer

-- each of them was sent by a node that is there
pub air_sent : (met : ℕ → Option (ℕ × ℕ)) (members : List (Option MemberState)) (old new : AirState) (a : ℕ) (frames : List Outgoing) (lost : Bool) → Leaves old new met members a frames lost → has_member members a ≡ true → All (IsOut a) frames
    → ((bearer : ℕ) → Each (IsSentBy members) (air_on bearer old)) → (bearer : ℕ) → Each (IsSentBy members) (air_on bearer new)
air_sent met members old new a frames lost l there out before bearer =
    air_comes (IsSentBy members) met members old new a frames lost l (All-weaker (IsOut a) (λ o. IsSentBy members (airborne met members a o)) (λ o is. (a, refl, there)) frames out) before bearer
