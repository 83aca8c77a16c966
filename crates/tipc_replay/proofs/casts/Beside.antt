-- A STATE in the air: what stands beside it, and what it is among the frames that left its node.
use Rattle.std.specs.Prelude.{All, option_map, slice_get, unwrap_or}
use Rattle.std.specs.List.{Contains, cons_option, filter_map}
use Rattle.std.proofs.Common.{◌≡◌, ◌⊎◌, ◌==◌, ◌&&◌, ◌∙◌, ℕ, suc, Bool, true, false, if◌then◌else◌, List, [], ◌∷◌, Option, Some, None, filter, refl, sym, ap, inl, inr}
use Rattle.std.proofs.lemmas.List.Elements.{All-append, All-cons, All-contains_itself, All-nil, All-weaker}
use Rattle.std.proofs.lemmas.Option.{get_or_from_slice_get, slice_get-get_or, slice_get_within}
use Rattle.tipc_types.specs.Address.{node_word}
use Rattle.tipc_types.specs.declared.link_words.BroadcastState.{BroadcastState}
use Rattle.tipc_outside.specs.declared.outgoing.Outgoing.{Outgoing}
use Rattle.tipc_header.specs.declared.frames.FrameKind.{FrameKind}
use Rattle.tipc_header.specs.declared.frames.FrameKind.TheVariants.{Casts, Finds, Links}
use Rattle.tipc_header.specs.Frames.{kind_in}
use Rattle.tipc_link.proofs.LinkLaw.{Each}
use Rattle.tipc_casters.specs.Sights.{Aired, Told}
use Rattle.tipc_pair.specs.Facing.{contact_between, in_contact}
use Rattle.tipc_node.specs.Nodes.{pair_with}
use Rattle.tipc_node.specs.Turns.{is_casts, is_to}
use Rattle.tipc_replay.specs.declared.air.Sent.{Sent}
use Rattle.tipc_replay.specs.Air.{Leaves, airborne}
use Rattle.tipc_replay.specs.Casters.{cast_contact, cast_in, listed, state_heard}
use Rattle.tipc_replay.specs.Heard.{state_in, state_of_kind}
use Rattle.tipc_replay.specs.Numbers.{own_in, seen_in}
use Rattle.tipc_replay.specs.Skies.{AirState, air_on}
use Rattle.tipc_replay.specs.States.{MemberState, boot_at, contact_at, member_at, numbers_at, pair_at}
use Rattle.tipc_replay.specs.Steps.{Stage}
use Rattle.tipc_replay.proofs.InLists.{Stands, stands_passing}
use Rattle.tipc_replay.proofs.LookUps.{boot_at-is, pair_at-is}
use Rattle.tipc_replay.proofs.casts.CasterLooks.{contact_at-is}
use Rattle.tipc_replay.proofs.casts.ToldStates.{told_numbers}
use Rattle.tipc_replay.proofs.frames.Emissions.{receiver_is}
use Rattle.tipc_replay.proofs.frames.Routes.{air_comes}
use Rattle.tipc_replay.proofs.pairs.Pairings.{own_read, seen_read}

-- ---- the contact beside it

either_one : {A : Type 0} (t : Bool) (x y : A) → unwrap_or (if t then Some x else None) y ≡ (if t then x else y)
either_one true x y = refl
either_one false x y = refl

-- that of the pair to its receiver before the event, or else that after it
pub beside_is : (old new : Stage) (n b : ℕ) (m m' : MemberState) (o : Outgoing) → member_at old.members n ≡ Some m → member_at new.members n ≡ Some m' → is_to b o.to ≡ true
    → (airborne (contact_at old.members n) new.members n o).contact ≡ told_numbers (pair_with m.node b) (pair_with m'.node b)
beside_is old new n b m m' o was is to_it =
    let x = pair_with m.node b in
    let y = pair_with m'.node b in
    let own : own_in (boot_at new.members n) (pair_at new.members n b) ≡ y.contact = (λ i. own_in (boot_at-is new.members n m' is i) (pair_at-is new.members n b m' is i)) ∙ own_read m'.node b in
    let seen : seen_in (pair_at new.members n b) ≡ y.seen = ap seen_in (pair_at-is new.members n b m' is) ∙ seen_read m'.node b in
    ap (λ k. unwrap_or (contact_at old.members n k) (numbers_at new.members n k)) (receiver_is b o.to to_it)
    ∙ ap (λ c. unwrap_or c (numbers_at new.members n b)) (contact_at-is old.members n b m was)
    ∙ (λ i. unwrap_or (contact_between x) (own i, seen i))
    ∙ either_one (in_contact x) (x.contact, x.seen) (y.contact, y.seen)

-- ---- what is read as a STATE

-- it is a link packet
state_links : (k : FrameKind) (bytes : List ℕ) (seen : BroadcastState) → state_of_kind k bytes ≡ Some seen → k ≡ Links
state_links Links bytes seen is = refl
state_links Casts bytes seen is = absurd (let wrong : None ≡ Some seen = is in let no : ⊥ = cc in no)
state_links Finds bytes seen is = absurd (let wrong : None ≡ Some seen = is in let no : ⊥ = cc in no)

pub state_kind : (bytes : List ℕ) (seen : BroadcastState) → state_in bytes ≡ Some seen → kind_in bytes ≡ Links
state_kind bytes seen is = state_links (kind_in bytes) bytes seen is

-- one of node n that is told to node b
pub record IsHeardIn (b : ℕ) (f : Sent) (t : Told) : Type 0 where
  pub seen : BroadcastState
  pub to_is : is_to b f.to ≡ true
  pub state : state_in f.frame ≡ Some seen
  pub told_is : t ≡ record { contact = cast_contact f.contact; stamp = f.casts; seen = seen }

pub heard_parts : (n b : ℕ) (f : Sent) (t : Told) → state_heard n b f ≡ Some t → IsHeardIn b f t
heard_parts n b f t is = by (f.from.word == node_word n) (is_to b f.to) refl (state_in f.frame) refl is
  where
    by : (p q : Bool) → is_to b f.to ≡ q → (o : Option BroadcastState) → state_in f.frame ≡ o
        → (if p && q then option_map (λ seen. record { contact = cast_contact f.contact; stamp = f.casts; seen = seen }) o else None) ≡ Some t → IsHeardIn b f t
    by true true to_it (Some seen) state some =
        let same : record { contact = cast_contact f.contact; stamp = f.casts; seen = seen } ≡ t = cc in
        record { seen = seen; to_is = to_it; state = state; told_is = sym same }
    by true true to_it None state some = absurd (let wrong : None ≡ Some t = some in let no : ⊥ = cc in no)
    by true false to_it o state some = absurd (let wrong : None ≡ Some t = some in let no : ⊥ = cc in no)
    by false q to_it o state some = absurd (let wrong : None ≡ Some t = some in let no : ⊥ = cc in no)

-- a broadcast frame of node a on a bearer
pub cast_parts : (a bearer : ℕ) (f : Sent) (x : Aired) → cast_in a bearer f ≡ Some x
    → (is_casts (kind_in f.frame) ≡ true) × (x ≡ record { frame = record { bearer = bearer; to = f.to; frame = f.frame }; stamp = f.casts })
cast_parts a bearer f x is = by (f.from.word == node_word a) (is_casts (kind_in f.frame)) refl is
  where
    aired : Aired
    aired = record { frame = record { bearer = bearer; to = f.to; frame = f.frame }; stamp = f.casts }

    by : (p q : Bool) → is_casts (kind_in f.frame) ≡ q → (if p && q then Some aired else None) ≡ Some x → (is_casts (kind_in f.frame) ≡ true) × (x ≡ aired)
    by true true kind some = (kind, (let same : aired ≡ x = cc in sym same))
    by true false kind some = absurd (let wrong : None ≡ Some x = some in let no : ⊥ = cc in no)
    by false q kind some = absurd (let wrong : None ≡ Some x = some in let no : ⊥ = cc in no)

-- ---- in lists

pub stands_in : {A : Type 0} (xs : List A) (x : A) → Contains xs x → Stands xs x
stands_in xs x there = (there.0, slice_get-get_or xs there.0 x there.1 ∙ ap Some there.2)

pub contains_at : {A : Type 0} (xs : List A) (x : A) → Stands xs x → Contains xs x
contains_at xs x there = (there.0, slice_get_within xs there.0 x there.1, get_or_from_slice_get xs there.0 x x there.1)

pub contains_passing : {A : Type 0} (p : A → Bool) (xs : List A) (x : A) → Contains xs x → p x ≡ true → Contains (filter p xs) x
contains_passing p xs x there passes = contains_at (filter p xs) x (stands_passing p xs x (stands_in xs x there) passes)

told_each : {T : Type 0} (told : Sent → Option T) (P : T → Type 0) (fs : List Sent) → ((k : ℕ) (f : Sent) (t : T) → slice_get fs k ≡ Some f → told f ≡ Some t → P t) → All P (filter_map told fs)
told_each told P [] each = All-nil P
told_each {T} told P (f ∷ fs) each = by (told f) refl (told_each told P fs (λ k g t there is. each (suc k) g t there is))
  where
    by : (o : Option T) → told f ≡ o → All P (filter_map told fs) → All P (cons_option o (filter_map told fs))
    by None is rest = rest
    by (Some t) is rest = All-cons P t (filter_map told fs) (each 0 f t refl is) rest

-- what is so of what is told of each frame in the air is so of all that is listed
pub listed_each : {T : Type 0} (told : ℕ → Sent → Option T) (air : AirState) (P : T → Type 0) → ((bearer k : ℕ) (f : Sent) (t : T) → slice_get (air_on bearer air) k ≡ Some f → told bearer f ≡ Some t → P t) → All P (listed told air)
listed_each told air P each =
    All-append P (filter_map (told 0) air.first) (filter_map (told 1) air.second) (told_each (told 0) P air.first (λ k f t there is. each 0 k f t there is))
    (told_each (told 1) P air.second (λ k f t there is. each 1 k f t there is))

-- a frame in the air after an event was there before it, or is one of those that left in it
abbrev pub CameOrWas : (old : AirState) (met : ℕ → Option (ℕ × ℕ)) (members : List (Option MemberState)) (a : ℕ) (frames : List Outgoing) → Sent → Type 0
CameOrWas old met members a frames f = ((bearer : ℕ) × (k : ℕ) × (slice_get (air_on bearer old) k ≡ Some f)) ⊎ ((o : Outgoing) × Contains frames o × (f ≡ airborne met members a o))

pub came_or_was : (old new : AirState) (met : ℕ → Option (ℕ × ℕ)) (members : List (Option MemberState)) (a : ℕ) (frames : List Outgoing) (lost : Bool) → Leaves old new met members a frames lost
    → (bearer : ℕ) → Each (CameOrWas old met members a frames) (air_on bearer new)
came_or_was old new met members a frames lost l =
    air_comes (CameOrWas old met members a frames) met members old new a frames lost l
    (All-weaker (Contains frames) (λ o. CameOrWas old met members a frames (airborne met members a o)) (λ o there. inr (o, there, refl)) frames (All-contains_itself frames))
    (λ bearer k f there. inl (bearer, k, there))
