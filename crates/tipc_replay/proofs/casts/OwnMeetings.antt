-- What an arrival of a link packet is to a node as a caster: a contact that begins may be joined, and a STATE that is taken was told in the present one.
use Rattle.std.specs.Prelude.{if◌then◌else◌, option_and_then, option_map}
use Rattle.std.specs.List.{Contains}
use Rattle.std.proofs.Common.{◌≡◌, ◌≢◌, ◌∙◌, ℕ, Bool, true, false, List, Option, Some, None, refl, sym, ap, subst, arith}
use Rattle.tipc_types.specs.Address.{node_word}
use Rattle.tipc_types.specs.declared.link_words.BroadcastState.{BroadcastState}
use Rattle.tipc_outside.specs.declared.outgoing.Outgoing.{Outgoing}
use Rattle.tipc_header.specs.declared.frames.FrameKind.TheVariants.{Links}
use Rattle.tipc_header.specs.Frames.{kind_in}
use Rattle.tipc_contact.specs.Sides.{boot_of}
use Rattle.tipc_journal.specs.Steps.{NodeStep}
use Rattle.tipc_casters.specs.Sights.{contact_of}
use Rattle.tipc_casters.specs.ViewLaws.{MayBeJoined, MeetsMember, TellsState, no_state, one_state}
use Rattle.tipc_casters.specs.Views.{MemberView}
use Rattle.tipc_pair.specs.Facing.{PairEnds, contact_between, in_contact}
use Rattle.tipc_pair.specs.PairTurns.{Happened, Opening, Outset, ShowsIn, Suits}
use Rattle.tipc_pair.specs.PairTurns.Opening.{hears}
use Rattle.tipc_pair.proofs.turns.PairPuts.{MeetsAs, meets_then}
use Rattle.tipc_pair.proofs.turns.PairTells.{Means, began}
use Rattle.tipc_pair.proofs.turns.TurnMeans.{meets_after}
use Rattle.tipc_two_nodes.specs.Sights.{pair_seen}
use Rattle.tipc_node.specs.Casting.{state_deeds, stated_by}
use Rattle.tipc_node.specs.Nodes.{pair_with}
use Rattle.tipc_node.specs.Turns.{IsBrought, IsFrom, PeerTurn}
use Rattle.tipc_replay.specs.Castings.{IsCaster}
use Rattle.tipc_replay.specs.Casters.{cast_contact, caster_at, casting_at, member_of_caster, told_to_caster}
use Rattle.tipc_replay.specs.Sound.{IsNumber, IsSound}
use Rattle.tipc_replay.specs.States.{MemberState, boot_at, contact_at, pair_at}
use Rattle.tipc_replay.specs.Steps.{Stage}
use Rattle.tipc_replay.proofs.LookUps.{boot_at-is}
use Rattle.tipc_replay.proofs.casts.CasterTurn.{joined_in, story_meets}
use Rattle.tipc_replay.proofs.casts.MemberGuards.{may_join}
use Rattle.tipc_replay.proofs.casts.MemberTurn.{between_some}
use Rattle.tipc_replay.proofs.casts.MetStories.{numbers_begun}
use Rattle.tipc_replay.proofs.casts.OwnDeeds.{stated_at, story_at}
use Rattle.tipc_replay.proofs.casts.OwnLaw.{begun_there}
use Rattle.tipc_replay.proofs.casts.OwnStates.{joined_after, joined_before}
use Rattle.tipc_replay.proofs.casts.StatesDue.{IsDue, state_due, told_there}
use Rattle.tipc_replay.proofs.casts.SteadyTurns.{SteadyTurn}
use Rattle.tipc_replay.proofs.casts.StoryDeeds.{story_deeds}
use Rattle.tipc_replay.proofs.casts.TurnFacts.{boot_after, contact_after, means_at, met_after, met_before, number_after, number_here, seen_after, sight_before, talks, there_after, was_here}
use Rattle.tipc_replay.proofs.frames.Ages.{number_is}
use Rattle.tipc_replay.proofs.frames.Coming.{from_peer}
use Rattle.tipc_replay.proofs.pairs.Pairings.{seen_is}
use Rattle.tipc_replay.proofs.pairs.Standing.{seen_node}
use Rattle.tipc_replay.proofs.pairs.Turning.{sight_in}
use Rattle.tipc_replay.proofs.states.StatesArrive.{StateCame, state_came}

-- ---- a node that is in contact

-- its numbers are those that its pair shows
shown_numbers : (x : PairEnds) (numbers : ℕ × ℕ) → contact_between x ≡ Some numbers → (in_contact x ≡ true) × (numbers ≡ (x.contact, x.seen))
shown_numbers x numbers is = by (in_contact x) refl is
  where
    by : (t : Bool) → in_contact x ≡ t → (if t then Some (x.contact, x.seen) else None) ≡ Some numbers → (in_contact x ≡ true) × (numbers ≡ (x.contact, x.seen))
    by true there some = (there, (let same : (x.contact, x.seen) ≡ numbers = cc in sym same))
    by false out some = absurd (let wrong : None ≡ Some numbers = some in let no : ⊥ = cc in no)

contact_sight : (s : Stage) (a b : ℕ) (numbers : ℕ × ℕ) → IsSound s.members s.air → contact_at s.members a b ≡ Some numbers
    → (in_contact (pair_seen (sight_in s a b)) ≡ true) × (numbers ≡ ((sight_in s a b).node.contact, (sight_in s a b).node.seen))
unfolding contact_at
contact_sight s a b numbers sound is = by (pair_at s.members a b) refl is
  where
    In : Type 0
    In = (in_contact (pair_seen (sight_in s a b)) ≡ true) × (numbers ≡ ((sight_in s a b).node.contact, (sight_in s a b).node.seen))

    by : (o : Option PairEnds) → pair_at s.members a b ≡ o → option_and_then contact_between o ≡ Some numbers → In
    by None none some = absurd (let wrong : None ≡ Some numbers = some in let no : ⊥ = cc in no)
    by (Some x) there some =
        let same : pair_seen (sight_in s a b) ≡ x = seen_is s.members s.air a b x there (sound.between a b x there) in
        let shown = shown_numbers x numbers some in
        (ap in_contact same ∙ shown.0, shown.1 ∙ (λ i. ((sym same i).contact, (sym same i).seen)))

-- A STATE of node b was taken at node n, whose pair is this then: b is another node.
pub record IsStateOf (s : Stage) (n b : ℕ) (y : PairEnds) (seen : BroadcastState) : Type 0 where
  pub number : IsNumber b
  pub apart : b ≢ n
  pub came : StateCame s n b y seen

module _ {old new : Stage} {n : ℕ} {m m' : MemberState} {bytes : List ℕ} {s : NodeStep} {frames : List Outgoing} {lost : Bool} (h : SteadyTurn old new n m m' bytes s frames lost) (c : IsCaster old.members old.air n) where
  -- ---- a contact begins

  may_join_then : (b : ℕ) (numbers : ℕ × ℕ) → in_contact (pair_with m.node b) ≡ false → in_contact (pair_with m'.node b) ≡ true → numbers ≡ ((pair_with m'.node b).contact, (pair_with m'.node b).seen)
      → (pair_with m'.node b).contact ≡ (pair_with m.node b).contact → MayBeJoined (caster_at old.members old.air n) (member_of_caster old.members old.air n b) (node_word b) (cast_contact numbers)
  may_join_then b numbers out there numbers_are still =
      let other = number_after h b there in
      let v' = sight_in new n b in
      let same = ap (λ (x : PairEnds). x.contact) (sight_before h b) in
      let now = contact_after h b in
      let boot : v'.node.boot ≡ (casting_at old.members n).boot = boot_after h b ∙ h.turn.turn.boot ∙ sym (boot_at-is old.members n m (was_here h)) ∙ sym c.boot in
      let may = may_join old.members old.air n b (node_word b) v' (met_before h b other.0 other.1) (met_after h b other.0 other.1) (ap in_contact (sight_before h b) ∙ out) (there_after h b ∙ there)
      (omega (arith, same, now, still)) boot (λ numbers is. contact_sight old b n numbers h.sound is) (number_is (node_word b) b refl) in
      let contact : contact_of v'.node.contact v'.node.seen ≡ cast_contact numbers = (λ i. contact_of (now i) (seen_after h b i)) ∙ ap cast_contact (sym numbers_are) in
      subst (λ k. MayBeJoined (caster_at old.members old.air n) (member_of_caster old.members old.air n b) (node_word b) k) contact may

  -- what the story is to the member, which is seen as this
  pub member_meets : (b : ℕ) (w : MemberView) → w.at ≡ (member_of_caster old.members old.air n b).at
      → MeetsMember (caster_at old.members old.air n) (caster_at new.members new.air n) w (node_word b) (story_deeds b (story_at h b))
  member_meets b w at =
      let number = number_is (node_word b) b refl in
      let x = pair_with m.node b in
      let y = pair_with m'.node b in
      let was : (caster_at old.members old.air n).joined (node_word b) ≡ joined_in x = joined_before h (node_word b) ∙ ap (λ k. joined_in (pair_with m.node k)) number in
      let is : (caster_at new.members new.air n).joined (node_word b) ≡ joined_in y = joined_after h (node_word b) ∙ ap (λ k. joined_in (pair_with m'.node k)) number in
      story_meets (caster_at old.members old.air n) (caster_at new.members new.air n) w b x y (story_at h b) was is (means_at h b).means (λ numbers begins. (
      let means : Means x y (began numbers) = subst (Means x y) begins (means_at h b).means in
      let may = may_join_then b numbers means.0 means.1 means.2 means.3 in
      (record { above = may.above; era = may.era; free = λ d there. may.free d (sym at ∙ there) }, begun_there h c b numbers (node_word b) number (ap numbers_begun begins))))

  -- ---- a STATE is taken

  pub state_of : (b : ℕ) (seen : BroadcastState) → stated_at h b ≡ Some seen → IsStateOf old n b (h.turn.turn.turns b).turn.first.course.pair seen
  state_of b seen is = by p.opening p.brought p.suits p.shows p.turn.happened is
    where
      p : PeerTurn m.node.own bytes s frames b (pair_with m.node b) (pair_with m'.node b)
      p = h.turn.turn.turns b

      o : Outset
      o = p.turn.first

      by : (opening : Opening) → IsBrought b bytes opening → Suits s.event opening → ShowsIn opening → Happened (pair_with m.node b) opening o → stated_by opening o.given ≡ Some seen → IsStateOf old n b o.course.pair seen
      by (hears bearer es er q number shown) brought suits shows happened stated =
          let came = h.came bearer number suits in
          let place = came.0 in
          let f = came.1 in
          let from : IsFrom b f.frame es er q = subst (λ bs. IsFrom b bs es er q) came.4 brought.0 in
          let kind : kind_in f.frame ≡ Links = ap kind_in (sym came.4) ∙ brought.1 in
          let peer = from_peer old n bearer place f b es er q h.sound came.2 from kind in
          record {
            number = peer.number;
            apart = peer.apart;
            came = state_came old n bearer place f b es er q number shown o seen h.sound (number_here h) came.2 came.3 from kind shows
                (subst (λ x. Happened x (hears bearer es er q number shown) o) (sym (sight_before h b)) happened) stated;
          }
      by other brought suits shows happened none = absurd (let wrong : None ≡ Some seen = none in let no : ⊥ = cc in no)

  -- the pair after what happened first is in the contact in which it is after the turn
  met_as : (b : ℕ) → MeetsAs (h.turn.turn.turns b).turn.first.course.pair (pair_with m'.node b)
  met_as b =
      let p = h.turn.turn.turns b in
      let both = meets_after (pair_with m.node b) (pair_with m'.node b) p.opening _ p.reply p.own_frames p.turn in
      meets_then p.turn.first.course.pair p.turn.put (pair_with m'.node b) both.0 both.1

  state_in_turn : (b : ℕ) (seen : BroadcastState) → (q : IsStateOf old n b (h.turn.turn.turns b).turn.first.course.pair seen) → IsDue old n b (h.turn.turn.turns b).turn.first.course.pair seen q.came
  state_in_turn b seen q =
      let y = (h.turn.turn.turns b).turn.first.course.pair in
      let v = sight_in new n b in
      let fits = (seen_node v (sight_in old b n) (talks h b q.number q.apart).0).contact in
      let contact : y.contact ≡ v.node.contact = sym (met_as b).contact ∙ sym (contact_after h b) in
      let present : boot_of y.contact ≡ boot_at old.members n = ap boot_of contact ∙ fits ∙ boot_after h b ∙ h.turn.turn.boot ∙ sym (boot_at-is old.members n m (was_here h)) in
      state_due old n b y seen q.came h.aged (number_here h) present c.boot

  -- what it is to the member, which is seen as this
  pub member_tells : (b : ℕ) (w : MemberView) → w.told ≡ told_to_caster old.air b n
      → TellsState (caster_at old.members old.air n) (caster_at new.members new.air n) w (node_word b) (state_deeds b (stated_at h b))
  unfolding caster_at
  member_tells b w told = by (stated_at h b) refl
    where
      by : (o : Option BroadcastState) → stated_at h b ≡ o → TellsState (caster_at old.members old.air n) (caster_at new.members new.air n) w (node_word b) (state_deeds b o)
      by None is = no_state
      by (Some seen) is = one_state seen (λ in_step. (
          let q = state_of b seen is in
          let y = (h.turn.turn.turns b).turn.first.course.pair in
          let met = met_as b in
          let due = state_in_turn b seen q in
          let number = number_is (node_word b) b refl in
          let there : in_contact (pair_with m'.node b) ≡ true = met.there ∙ q.came.in_it in
          let joined : (caster_at new.members new.air n).joined (node_word b) ≡ Some (told_there old n b y seen q.came).contact =
          joined_after h (node_word b) ∙ ap (λ k. joined_in (pair_with m'.node k)) number ∙ ap (option_map cast_contact) (between_some (pair_with m'.node b) there)
          ∙ ap Some ((λ i. cast_contact (met.contact i, met.seen i)) ∙ sym due.contact) in
          (told_there old n b y seen q.came, subst (λ ts. Contains ts (told_there old n b y seen q.came)) (sym told) due.there, refl, joined, due.recent)))
