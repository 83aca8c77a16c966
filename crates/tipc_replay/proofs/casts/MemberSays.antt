-- What the STATEs of a turn of a node tell the caster of which it is a member: what its broadcast link had before the turn, or what it has after it.
use Rattle.std.specs.Prelude.{◌⊎◌, All, IfSome, option_map}
use Rattle.std.specs.List.{Contains}
use Rattle.std.proofs.Common.{◌≡◌, ◌≢◌, ◌+◌, ◌==◌, ◌&&◌, ◌∙◌, ℕ, Bool, true, false, if◌then◌else◌, List, [], ◌∷◌, Option, Some, None, refl, sym, ap, subst, inl, inr, arith}
use Rattle.std.proofs.lemmas.List.Elements.{All-cons, All-head, All-nil, All-tail, All-weaker, Contains-append_left, Contains-append_right}
use Rattle.tipc_types.specs.Address.{node_word}
use Rattle.tipc_types.specs.Position.{number_of}
use Rattle.tipc_types.specs.declared.link_words.BroadcastState.{BroadcastState}
use Rattle.tipc_outside.specs.declared.outgoing.Outgoing.{Outgoing}
use Rattle.tipc_recv_window.specs.Receiving.{Receiving}
use Rattle.tipc_broadcast.specs.declared.contacts.Contact.{Contact}
use Rattle.tipc_broadcast.specs.Casting.{Casting, next_start, shown}
use Rattle.tipc_broadcast.specs.Contacts.{contact_with, shown_in as shown_with, shown_to}
use Rattle.tipc_casters.specs.Sights.{Told}
use Rattle.tipc_casters.specs.ViewLaws.{SaysTo}
use Rattle.tipc_casters.specs.Views.{CasterView}
use Rattle.tipc_casters.proofs.Consistent.{kept_in}
use Rattle.tipc_journal.specs.Steps.{NodeStep}
use Rattle.tipc_pair.specs.Facing.{in_contact}
use Rattle.tipc_pair.specs.PairTurns.{Opening, Reply}
use Rattle.tipc_pair.specs.PairTurns.Opening.{cuts, hears, makes, mends, rests, ticks}
use Rattle.tipc_node.specs.Nodes.{pair_with}
use Rattle.tipc_node.specs.Turns.{Shows, is_to}
use Rattle.tipc_replay.specs.declared.air.Sent.{Sent}
use Rattle.tipc_replay.specs.Air.{airborne}
use Rattle.tipc_replay.specs.Casters.{caster_at, casting_at, heard_contact, members_of, state_told, told_to_caster}
use Rattle.tipc_replay.specs.Castings.{AreCasting}
use Rattle.tipc_replay.specs.Heard.{state_in}
use Rattle.tipc_replay.specs.Sound.{IsNumber}
use Rattle.tipc_replay.specs.States.{MemberState, boot_at, cast_count_at, contact_at}
use Rattle.tipc_replay.specs.Steps.{Stage}
use Rattle.tipc_replay.proofs.LookUps.{boot_at-same}
use Rattle.tipc_replay.proofs.casts.Beside.{beside_is}
use Rattle.tipc_replay.proofs.casts.CasterLooks.{cast_count_at-same}
use Rattle.tipc_replay.proofs.casts.Listing.{IsListed, IsOfOne, listed_after}
use Rattle.tipc_replay.proofs.casts.MemberKnown.{looks, looks_then, other}
use Rattle.tipc_replay.proofs.casts.MemberLooks.{casting_of, numbered_at}
use Rattle.tipc_replay.proofs.casts.OwnStates.{said_at}
use Rattle.tipc_replay.proofs.casts.SteadyTurns.{SteadyTurn}
use Rattle.tipc_replay.proofs.casts.ToldStates.{says_after, says_before, told_numbers}
use Rattle.tipc_replay.proofs.casts.TurnFacts.{is_here, means_at, was_here}
use Rattle.tipc_replay.proofs.frames.Emissions.{receiver_is}
use Rattle.tipc_replay.proofs.pairs.Turning.{others_stay}
use Rattle.tipc_replay.proofs.states.TurnSays.{IsFirst, ShownBy, at_first, at_last, shown_by}

-- ---- what is shown

-- the next number alone is another one
with_next : (next was start : ℕ) (o : Option Contact) → record (shown_to was start o) { next = next } ≡ shown_to next start o
with_next next was start None = refl
with_next next was start (Some c) = by c.window
  where
    by : (o : Option Receiving) → record (shown_with was (number_of c.start) c.shown o) { next = next } ≡ shown_with next (number_of c.start) c.shown o
    by None = refl
    by (Some r) = refl

-- what is shown at first is what the broadcast link has for the peer
first_shows : (v w : Casting) (a : ℕ) (opening : Opening) (seen : BroadcastState) → Shows v w a opening → IsFirst opening seen → (next : ℕ) × (start : ℕ) × (seen ≡ shown_to next start (contact_with (node_word a) v.contacts))
first_shows v w a (ticks given) seen shows first = (
  number_of (shows.0 + 1),
  number_of (next_start v),
  first ∙ shows.3 ∙ with_next (number_of (shows.0 + 1)) (number_of (v.sending.numbered + 1)) (number_of (next_start v)) (contact_with (node_word a) v.contacts),
)
first_shows v w a (hears bearer es er p by given) seen shows first = (number_of (v.sending.numbered + 1), number_of (next_start v), first ∙ shows)
first_shows v w a rests seen shows first = absurd first
first_shows v w a (makes bearer is_mended) seen shows first = absurd first
first_shows v w a (mends bearer) seen shows first = absurd first
first_shows v w a (cuts bearer) seen shows first = absurd first

-- ---- a STATE to the caster

-- it is read of a frame to the caster
record IsToldIn (a : ℕ) (f : Sent) (t : Told) : Type 0 where
  seen : BroadcastState
  to_is : is_to a f.to ≡ true
  state : state_in f.frame ≡ Some seen
  told_is : t ≡ record { contact = heard_contact f.contact; stamp = f.peer_casts; seen = seen }

told_parts : (n a : ℕ) (f : Sent) (t : Told) → state_told n a f ≡ Some t → IsToldIn a f t
told_parts n a f t is = by (f.from.word == node_word n) (is_to a f.to) refl (state_in f.frame) refl is
  where
    by : (p q : Bool) → is_to a f.to ≡ q → (o : Option BroadcastState) → state_in f.frame ≡ o
        → (if p && q then option_map (λ seen. record { contact = heard_contact f.contact; stamp = f.peer_casts; seen = seen }) o else None) ≡ Some t → IsToldIn a f t
    by true true to_it (Some seen) state some =
        let same : record { contact = heard_contact f.contact; stamp = f.peer_casts; seen = seen } ≡ t = cc in
        record { seen = seen; to_is = to_it; state = state; told_is = sym same }
    by true true to_it None state some = absurd (let wrong : None ≡ Some t = some in let no : ⊥ = cc in no)
    by true false to_it o state some = absurd (let wrong : None ≡ Some t = some in let no : ⊥ = cc in no)
    by false q to_it o state some = absurd (let wrong : None ≡ Some t = some in let no : ⊥ = cc in no)

-- those of which the second is so, among elements of which each is one or the other
pub the_others : {T : Type 0} (P Q : T → Type 0) (ts : List T) → All (λ t. P t ⊎ Q t) ts → (more : List T) × All Q more × All (λ t. P t ⊎ Contains more t) ts
the_others P Q [] all = ([], All-nil Q, All-nil (λ t. P t ⊎ Contains [] t))
the_others {T} P Q (t ∷ ts) all = by (All-head (λ u. P u ⊎ Q u) t ts all) (the_others P Q ts (All-tail (λ u. P u ⊎ Q u) t ts all))
  where
    later : (more : List T) (u : T) → P u ⊎ Contains more u → P u ⊎ Contains (t ∷ more) u
    later more u (inl is) = inl is
    later more u (inr there) = inr (Contains-append_right (t ∷ []) more u there)

    by : P t ⊎ Q t → (more : List T) × All Q more × All (λ u. P u ⊎ Contains more u) ts → (more : List T) × All Q more × All (λ u. P u ⊎ Contains more u) (t ∷ ts)
    by (inl is) rest = (rest.0, rest.1, All-cons (λ u. P u ⊎ Contains rest.0 u) t ts (inl is) rest.2)
    by (inr is) rest = (
      t ∷ rest.0,
      All-cons Q t rest.0 is rest.1,
      All-cons (λ u. P u ⊎ Contains (t ∷ rest.0) u) t ts (inr (Contains-append_left (t ∷ []) rest.0 t (0, omega arith, refl)))
          (All-weaker (λ u. P u ⊎ Contains rest.0 u) (λ u. P u ⊎ Contains (t ∷ rest.0) u) (later rest.0) ts rest.2),
    )

module _ {old new : Stage} {n : ℕ} {m m' : MemberState} {bytes : List ℕ} {s : NodeStep} {frames : List Outgoing} {lost : Bool} (h : SteadyTurn old new n m m' bytes s frames lost) (casting : AreCasting old.members old.air)
    (a : ℕ) (a_is : IsNumber a) (apart : a ≢ n) where
  abbrev pub v : CasterView
  v = caster_at old.members old.air a

  abbrev pub word : ℕ
  word = node_word n

  -- what the node tells the caster then
  abbrev pub Says : Told → Type 0
  Says t = SaysTo v (members_of old.members old.air a word) t ⊎ SaysTo v (members_of new.members new.air a word) t

  -- how many numbers the caster used stands beside it
  stamped_as : (o : Outgoing) → is_to a o.to ≡ true → (airborne (contact_at old.members n) new.members n o).peer_casts ≡ v.numbered v.casting.boot
  stamped_as o to_it =
      let still = others_stay old new n m m' frames lost h.turns a apart in
      ap (λ k. cast_count_at new.members k (boot_at new.members k)) (receiver_is a o.to to_it)
      ∙ ap (cast_count_at new.members a) (boot_at-same old.members new.members a still) ∙ cast_count_at-same old.members new.members a (boot_at old.members a) still
      ∙ ap (cast_count_at old.members a) (sym (casting a a_is).boot) ∙ sym (numbered_at old.members old.air a (casting_at old.members a).boot)
      ∙ ap (λ (c : Casting). v.numbered c.boot) (sym (casting_of old.members old.air a))

  said : (t : Told) → IsOfOne (λ bearer. state_told n a) (contact_at old.members n) new.members n frames t → Says t
  said t (bearer, o, there, on, is) =
      let f = airborne (contact_at old.members n) new.members n o in
      let x = pair_with m.node a in
      let y = pair_with m'.node a in
      let told = told_parts n a f t is in
      let contact : t.contact ≡ heard_contact (told_numbers x y) = ap (λ (u : Told). u.contact) told.told_is ∙ ap heard_contact (beside_is old new n a m m' o (was_here h) (is_here h) told.to_is) in
      let stamp : t.stamp ≡ v.numbered v.casting.boot = ap (λ (u : Told). u.stamp) told.told_is ∙ stamped_as o told.to_is in
      let seen : t.seen ≡ told.seen = ap (λ (u : Told). u.seen) told.told_is in
      let shows = said_at h a a_is apart o there told.to_is told.seen told.state in
      by contact stamp shows.0 (seen ∙ sym shows.1)
    where
      by : t.contact ≡ heard_contact (told_numbers (pair_with m.node a) (pair_with m'.node a)) → t.stamp ≡ v.numbered v.casting.boot
          → (z : ShownBy (h.turn.turn.turns a).opening (h.turn.turn.turns a).reply (in_contact (pair_with m'.node a)))
          → t.seen ≡ shown_by (h.turn.turn.turns a).opening (h.turn.turn.turns a).reply (in_contact (pair_with m'.node a)) z → Says t
      by contact stamp (at_first seen first) is =
          let w = looks h casting a a_is apart in
          let shows = first_shows m.node.casting m'.node.casting a (h.turn.turn.turns a).opening seen (h.turn.turn.casts a).shows first in
          inl (says_before v (members_of old.members old.air a word) t (pair_with m.node a) (pair_with m'.node a) shows.0 shows.1 w.at
          (λ k heard. (let in_it = kept_in v (members_of old.members old.air a) word k (casting a a_is).seen (other h casting a a_is apart) heard in (in_it.contact, in_it.at)))
          contact stamp (is ∙ shows.2 ∙ ap (shown_to shows.0 shows.1) (sym w.heard)))
      by contact stamp (at_last r answers there) is =
          let w' = looks_then h casting a a_is apart in
          let c' = m'.node.casting in
          let shows : r.shown ≡ shown c' (node_word a) = subst (λ (o : Option Reply). IfSome o (λ (q : Reply). q.shown ≡ shown c' (node_word a))) answers (h.turn.turn.casts a).shows_last in
          let means = means_at h a in
          inr (says_after v (members_of new.members new.air a word) t (pair_with m.node a) (pair_with m'.node a) means.story (number_of (c'.sending.numbered + 1)) (number_of (next_start c')) means.means there w'.at
          contact stamp (is ∙ shows ∙ ap (shown_to (number_of (c'.sending.numbered + 1)) (number_of (next_start c'))) (sym w'.heard)))

  -- all that it tells, and what was told before
  pub says_more : (more : List Told) × All Says more × All (λ t. Contains (members_of old.members old.air a word).told t ⊎ Contains more t) (members_of new.members new.air a word).told
  unfolding told_to_caster
  says_more =
      let w = looks h casting a a_is apart in
      let w' = looks_then h casting a a_is apart in
      let told : ℕ → Sent → Option Told = λ bearer. state_told n a in
      let all = listed_after told old.air new.air (contact_at old.members n) new.members n frames lost h.turns.leaves in
      let parts : All (λ t. Contains (told_to_caster old.air n a) t ⊎ Says t) (told_to_caster new.air n a) =
      All-weaker (IsListed told old.air (contact_at old.members n) new.members n frames) (λ t. Contains (told_to_caster old.air n a) t ⊎ Says t) (λ t is. either_way t is) (told_to_caster new.air n a) all in
      the_others (Contains (members_of old.members old.air a word).told) Says (members_of new.members new.air a word).told
      (subst (λ ts. All (λ t. Contains (members_of old.members old.air a word).told t ⊎ Says t) ts) (sym w'.told) (subst (λ ts. All (λ t. Contains ts t ⊎ Says t) (told_to_caster new.air n a)) (sym w.told) parts))
    where
      either_way : (t : Told) → IsListed (λ bearer. state_told n a) old.air (contact_at old.members n) new.members n frames t → Contains (told_to_caster old.air n a) t ⊎ Says t
      either_way t (inl there) = inl there
      either_way t (inr of_one) = inr (said t of_one)
