-- What a turn of a node is to it as a member of another one's broadcast, whatever was heard in it.
use Rattle.std.specs.Prelude.{filter, option_map}
use Rattle.std.specs.List.{Contains, flat_map}
use Rattle.std.proofs.Common.{◌≡◌, ◌≢◌, ◌≤◌, ◌+◌, ◌%◌, ◌^◌, ◌==◌, ◌∙◌, ℕ, Bool, true, if◌then◌else◌, List, [], ◌∷◌, ◌++◌, Option, Some, None, map, refl, sym, ap, subst, arith}
use Rattle.tipc_types.specs.Address.{node_word}
use Rattle.tipc_types.specs.declared.link_words.BroadcastState.{BroadcastState}
use Rattle.tipc_types.specs.declared.message_forms.Flow.TheVariants.{Broadcast}
use Rattle.tipc_outside.specs.declared.outgoing.Outgoing.{Outgoing}
use Rattle.tipc_header.specs.declared.frames.FrameKind.TheVariants.{Links}
use Rattle.tipc_header.specs.Frames.{kind_in}
use Rattle.tipc_fragments.specs.Joining.{Joining}
use Rattle.tipc_reassembly.specs.Slots.{packets_in}
use Rattle.tipc_broadcast.specs.declared.contacts.Contact.{Contact}
use Rattle.tipc_broadcast.specs.Casting.{Casting, arriving_outcome}
use Rattle.tipc_broadcast.specs.Contacts.{contact_with}
use Rattle.tipc_broadcast.specs.Deeds.{CastDeed, after_deeds, is_deed_with}
use Rattle.tipc_casters.specs.MemberTurns.{HappensTo}
use Rattle.tipc_casters.specs.Sights.{boot_in, contact_of}
use Rattle.tipc_casters.specs.ViewLaws.{given_at}
use Rattle.tipc_contact.specs.Sides.{boot_of}
use Rattle.tipc_casters.specs.Views.{AreContactNumbers, CasterView}
use Rattle.tipc_casters.proofs.Consistent.{kept_in}
use Rattle.tipc_casters.proofs.Kept.{DeedsKeep}
use Rattle.tipc_journal.specs.Steps.{NodeStep}
use Rattle.tipc_pair.specs.Facing.{PairEnds, in_contact}
use Rattle.tipc_pair.specs.Messages.{OpensTo, opened_in}
use Rattle.tipc_pair.specs.PairTurns.{Happened, Opening, ShowsIn, Suits}
use Rattle.tipc_pair.specs.PairTurns.Opening.{cuts, hears, makes, mends, rests, ticks}
use Rattle.tipc_pair.proofs.turns.PairPuts.{MeetsAs, meets_then}
use Rattle.tipc_pair.proofs.turns.PairTells.{Means, Story, began, ended, stays}
use Rattle.tipc_pair.proofs.turns.TurnMeans.{meets_after}
use Rattle.tipc_node.specs.Casting.{arrival_deeds, state_deeds, stated_by}
use Rattle.tipc_node.specs.Messages.{bytes_of}
use Rattle.tipc_node.specs.Nodes.{kept, pair_with, shown_contact}
use Rattle.tipc_node.specs.Turns.HearsCasts.{hears_none, hears_one}
use Rattle.tipc_node.specs.Turns.{HearsCasts, HearsNone, HearsOne, IsBrought, IsFrom, PeerTurn, delivered_of, given_entries, is_cast_from}
use Rattle.tipc_replay.specs.Casters.{cast_contact, caster_at, heard_contact, members_of}
use Rattle.tipc_replay.specs.Castings.{AreCasting}
use Rattle.tipc_replay.specs.Sound.{IsNumber}
use Rattle.tipc_replay.specs.States.{MemberState, cast_count_at}
use Rattle.tipc_replay.specs.Steps.{Stage}
use Rattle.tipc_replay.proofs.casts.CastAgain.{contacts_test, told_again}
use Rattle.tipc_replay.proofs.casts.CastGiven.{casts_brought, contact_shown, frame as frame_heard, missed, named, numbers_fit}
use Rattle.tipc_replay.proofs.casts.CastTaken.{cast_missed, cast_taken}
use Rattle.tipc_replay.proofs.casts.MemberKnown.{given_still, given_then, known, looks, looks_then, other, own_fits}
use Rattle.tipc_replay.proofs.casts.MemberTurn.{between_same, between_some, heard_happens, unheard_happens}
use Rattle.tipc_replay.proofs.casts.StatesDue.{heard_there, state_heard_of}
use Rattle.tipc_replay.proofs.casts.SteadyTurns.{SteadyTurn}
use Rattle.tipc_replay.proofs.casts.StoryDeeds.{kept_of_story, story_deeds, story_told}
use Rattle.tipc_replay.proofs.casts.TurnFacts.{means_at, number_here, sight_before}
use Rattle.tipc_replay.proofs.states.StatesArrive.{StateCame, state_came}
use Rattle.tipc_replay.proofs.pairs.Turning.{sight_in}
use Rattle.tipc_two_nodes.specs.Sights.{pair_seen}

-- where nothing is done with a peer, the contact with it stays
no_story : (a : ℕ) (story : Story) (rest : List CastDeed) → story_deeds a story ++ rest ≡ [] → story ≡ stays
no_story a stays rest none = refl
no_story a (began numbers) rest none = absurd (let wrong : story_deeds a (began numbers) ++ rest ≡ [] = none in let no : ⊥ = cc in no)
no_story a (ended numbers states shown) rest none = absurd (let wrong : story_deeds a (ended numbers states shown) ++ rest ≡ [] = none in let no : ⊥ = cc in no)

module _ {old new : Stage} {n : ℕ} {m m' : MemberState} {bytes : List ℕ} {s : NodeStep} {frames : List Outgoing} {lost : Bool} (h : SteadyTurn old new n m m' bytes s frames lost) (casting : AreCasting old.members old.air)
    (a : ℕ) (a_is : IsNumber a) (apart : a ≢ n) where
  abbrev pub v : CasterView
  v = caster_at old.members old.air a

  abbrev pub word : ℕ
  word = node_word n

  abbrev pub Happens : Type 0
  Happens = HappensTo v (members_of old.members old.air a word) (members_of new.members new.air a word) word

  abbrev pub x : PairEnds
  x = pair_with m.node a

  abbrev pub y : PairEnds
  y = pair_with m'.node a

  -- what is kept of the caster after the turn
  heard_then : (ds : List CastDeed) → h.turn.turn.deeds ≡ ds → (members_of new.members new.air a word).heard ≡ contact_with (node_word a) (after_deeds ds m.node.casting).contacts
  heard_then ds is =
      (looks_then h casting a a_is apart).heard ∙ ap (λ (c : Casting). contact_with (node_word a) c.contacts) (h.turn.turn.casting ∙ ap (λ es. after_deeds es m.node.casting) is)

  -- ---- nothing was heard of the broadcast

  -- a STATE that was taken came from the caster
  stated_came : (opening : Opening) (seen : BroadcastState) → (h.turn.turn.turns a).opening ≡ opening → stated_by opening (h.turn.turn.turns a).turn.first.given ≡ Some seen
      → StateCame old n a (h.turn.turn.turns a).turn.first.course.pair seen
  stated_came (hears bearer es er q number shown) seen is stated =
      let p = h.turn.turn.turns a in
      let suits : Suits s.event (hears bearer es er q number shown) = subst (Suits s.event) is p.suits in
      let brought : IsBrought a bytes (hears bearer es er q number shown) = subst (IsBrought a bytes) is p.brought in
      let shows : ShowsIn (hears bearer es er q number shown) = subst ShowsIn is p.shows in
      let happened : Happened (pair_seen (sight_in old n a)) (hears bearer es er q number shown) p.turn.first =
      subst (λ (z : PairEnds). Happened z (hears bearer es er q number shown) p.turn.first) (sym (sight_before h a)) (subst (λ (o : Opening). Happened x o p.turn.first) is p.turn.happened) in
      let c = h.came bearer number suits in
      state_came old n bearer c.0 c.1 a es er q number shown p.turn.first seen h.sound (number_here h) c.2 c.3 (subst (λ (bs : List ℕ). IsFrom a bs es er q) c.4 brought.0)
      (subst (λ (bs : List ℕ). kind_in bs ≡ Links) c.4 brought.1) shows happened stated
  stated_came rests seen is stated = absurd (let wrong : None ≡ Some seen = stated in let no : ⊥ = cc in no)
  stated_came (ticks shown) seen is stated = absurd (let wrong : None ≡ Some seen = stated in let no : ⊥ = cc in no)
  stated_came (makes bearer is_mended) seen is stated = absurd (let wrong : None ≡ Some seen = stated in let no : ⊥ = cc in no)
  stated_came (mends bearer) seen is stated = absurd (let wrong : None ≡ Some seen = stated in let no : ⊥ = cc in no)
  stated_came (cuts bearer) seen is stated = absurd (let wrong : None ≡ Some seen = stated in let no : ⊥ = cc in no)

  -- in a contact of this boot of the caster
  boot_told : (z : PairEnds) (seen : BroadcastState) (came : StateCame old n a z seen) → z.contact ≡ y.contact → boot_of came.frame.contact.0 ≡ boot_in (cast_contact came.frame.contact)
  boot_told z seen came same =
      let fits = own_fits h casting a a_is apart in
      let own = came.own in
      omega (arith, fits, own, same)

  -- isn't too old
  since : (z : PairEnds) (seen : BroadcastState) (came : StateCame old n a z seen) → z.contact ≡ y.contact → v.numbered (boot_in (heard_there old n a z seen came).contact) ≤ (heard_there old n a z seen came).stamp + 30000
  unfolding caster_at
  since z seen came same = subst (λ k. cast_count_at old.members a k ≤ came.frame.casts + 30000) (boot_told z seen came same) came.since

  -- and tells of no more than the caster has used
  by_now : (z : PairEnds) (seen : BroadcastState) (came : StateCame old n a z seen) → z.contact ≡ y.contact → (heard_there old n a z seen came).stamp ≤ v.numbered (boot_in (heard_there old n a z seen came).contact)
  unfolding caster_at
  by_now z seen came same =
      let counted = h.aged.counted came.bearer came.place came.frame came.there a n a_is (number_here h) apart came.from came.to_is in
      subst (λ k. came.frame.casts ≤ cast_count_at old.members a k) (boot_told z seen came same) counted.1

  none_heard : HearsNone m.node m'.node s h.turn.turn.deeds a (h.turn.turn.turns a).turn.first.course.changes → Happens
  none_heard none = by (stated_by p.opening p.turn.first.given) refl keeps
    where
      p : PeerTurn m.node.own bytes s frames a x y
      p = h.turn.turn.turns a

      story : Story
      story = (means_at h a).story

      Keeps : Option BroadcastState → Type 0
      Keeps stated = DeedsKeep m.node.casting.own (node_word a) (story_deeds a story ++ state_deeds a stated) (members_of old.members old.air a word).heard (members_of new.members new.air a word).heard

      keeps : Keeps (stated_by p.opening p.turn.first.given)
      keeps =
          let all = kept_of_story a h.turn.turn.deeds (arrival_deeds a p.turn.first.course.changes (stated_by p.opening p.turn.first.given)) m.node.casting none.unheard (h.turn.turn.casts a).told in
          let told = story_told a p.turn.first.course.changes story (stated_by p.opening p.turn.first.given) (means_at h a).story_is in
          subst (λ o. DeedsKeep m.node.casting.own (node_word a) (story_deeds a story ++ state_deeds a (stated_by p.opening p.turn.first.given)) (members_of old.members old.air a word).heard o) (sym (heard_then h.turn.turn.deeds refl))
          (subst (λ o. DeedsKeep m.node.casting.own (node_word a) (story_deeds a story ++ state_deeds a (stated_by p.opening p.turn.first.given)) o (contact_with (node_word a) (after_deeds h.turn.turn.deeds m.node.casting).contacts)) (sym (looks h casting a a_is apart).heard)
          (subst (λ ds. DeedsKeep m.node.casting.own (node_word a) ds (contact_with (node_word a) m.node.casting.contacts) (contact_with (node_word a) (after_deeds h.turn.turn.deeds m.node.casting).contacts)) told all))

      by : (stated : Option BroadcastState) → stated_by p.opening p.turn.first.given ≡ stated → Keeps stated → Happens
      by None is ks = unheard_happens v (members_of old.members old.air a word) (members_of new.members new.air a word) word m.node.casting.own a x y story (known h casting a a_is apart none) ks
      by (Some seen) is ks =
          let came = stated_came p.opening seen refl is in
          let from = state_heard_of old n a p.turn.first.course.pair seen came in
          let t = heard_there old n a p.turn.first.course.pair seen came in
          let after = meets_after x y p.opening (map (bytes_of m.node.own) p.messages) p.reply p.own_frames p.turn in
          let all : MeetsAs p.turn.first.course.pair y = meets_then p.turn.first.course.pair p.turn.put y after.0 after.1 in
          let there : in_contact y ≡ true = all.there ∙ came.in_it in
          let at : (members_of new.members new.air a word).at ≡ Some t.contact =
          (looks_then h casting a a_is apart).at ∙ ap (option_map heard_contact) (between_some y there) ∙ (λ i. Some (heard_contact (all.contact i, all.seen i))) ∙ ap Some (sym from.1) in
          heard_happens v (members_of old.members old.air a word) (members_of new.members new.air a word) word m.node.casting.own a x y story seen t (known h casting a a_is apart none) ks
          (subst (λ ts. Contains ts t) (sym (looks h casting a a_is apart).hears) from.0) (by_now p.turn.first.course.pair seen came (sym all.contact)) (since p.turn.first.course.pair seen came (sym all.contact)) refl at

  -- ---- a broadcast packet was heard

  -- the contact stays
  story_stays : (one : HearsOne m.node m'.node bytes s h.turn.turn.deeds a) → (means_at h a).story ≡ stays
  story_stays one =
      let p = h.turn.turn.turns a in
      no_story a (means_at h a).story (state_deeds a (stated_by p.opening p.turn.first.given))
      (sym (story_told a p.turn.first.course.changes (means_at h a).story (stated_by p.opening p.turn.first.given) (means_at h a).story_is) ∙ sym (h.turn.turn.casts a).told ∙ ap (filter (is_deed_with (node_word a))) one.heard)

  at_stays : (one : HearsOne m.node m'.node bytes s h.turn.turn.deeds a) → (members_of new.members new.air a word).at ≡ (members_of old.members old.air a word).at
  at_stays one =
      (looks_then h casting a a_is apart).at ∙ ap (option_map heard_contact) (between_same x y (subst (Means x y) (story_stays one) (means_at h a).means)) ∙ sym (looks h casting a a_is apart).at

  -- what was given is delivered
  gives : (one : HearsOne m.node m'.node bytes s h.turn.turn.deeds a) (contact : ℕ) → contact ≡ heard_contact (x.contact, x.seen) → (own theirs : ℕ) → AreContactNumbers own theirs
      → (members_of new.members new.air a word).given own theirs ≡ given_at contact (packets_in (opened_in one.given)) (members_of old.members old.air a word).given own theirs
  gives one contact is own theirs numbers =
      let packets = packets_in (opened_in one.given) in
      let before = (members_of old.members old.air a word).given own theirs in
      let fits = numbers_fit old n a m h.sound h.turns.was a_is apart in
      let brought = casts_brought old n m m' bytes s h.turn.turn.deeds a h.sound h.turns.was h.came casting a_is apart one in
      given_then h casting a a_is apart (given_entries Broadcast a x one.given) one.delivered own theirs
      ∙ ap (λ ps. before ++ ps) (told_again (node_word a) a theirs own (shown_contact x) (opened_in one.given) brought)
      ∙ ap (λ t. before ++ (if t then packets else [])) (contacts_test x.contact x.seen own theirs fits.1 numbers.1 ∙ ap (λ c. contact_of own theirs == c) (sym is))

  one_heard : HearsOne m.node m'.node bytes s h.turn.turn.deeds a → Happens
  one_heard one = by (members_of old.members old.air a word).heard refl
    where
      is : (members_of new.members new.air a word).heard ≡ contact_with (node_word a) (after_deeds (CastDeed.hears one.first (one.second % 2 ^ 32) one.by one.packet ∷ []) m.node.casting).contacts
      is = heard_then (CastDeed.hears one.first (one.second % 2 ^ 32) one.by one.packet ∷ []) one.heard

      by : (o : Option Contact) → (members_of old.members old.air a word).heard ≡ o → Happens
      by None none =
          let nothing = missed old n m m' bytes s h.turn.turn.deeds a h.sound h.turns.was h.came casting a_is apart one none in
          let undelivered : filter (is_cast_from a) s.inside ≡ [] = one.delivered ∙ ap (flat_map (delivered_of Broadcast a (shown_contact x))) nothing.0 in
          cast_missed v (members_of old.members old.air a word) (members_of new.members new.air a word) word a one.first (one.second % 2 ^ 32) one.by one.packet m.node.casting one.from.previous (looks h casting a a_is apart).heard is none (record {
            at = at_stays one;
            given = given_still h casting a a_is apart undelivered;
            begun = (looks_then h casting a a_is apart).begun ∙ nothing.1 ∙ sym (looks h casting a a_is apart).begun;
          })
      by (Some k) here =
          let in_it = kept_in v (members_of old.members old.air a) word k (casting a a_is).seen (other h casting a a_is apart) here in
          let shown = contact_shown x in_it.contact (sym (looks h casting a a_is apart).at ∙ in_it.at) in
          let opens : OpensTo (members_of old.members old.air a word).begun (arriving_outcome m.node.casting one.first (one.second % 2 ^ 32) one.packet one.by) one.given (members_of new.members new.air a word).begun =
          subst (λ (b : Joining). OpensTo b (arriving_outcome m.node.casting one.first (one.second % 2 ^ 32) one.packet one.by) one.given (members_of new.members new.air a word).begun) (sym (looks h casting a a_is apart).begun)
          (subst (λ (b : Joining). OpensTo (kept m.node a).casts (arriving_outcome m.node.casting one.first (one.second % 2 ^ 32) one.packet one.by) one.given b) (sym (looks_then h casting a a_is apart).begun) one.opens) in
          cast_taken v (members_of old.members old.air a word) (members_of new.members new.air a word) word a one.first one.second one.by in_it.contact one.packet m.node.casting k one.given
          (named old n m m' bytes s h.turn.turn.deeds a h.sound h.turns.was h.came casting a_is apart one) one.from.previous (looks h casting a a_is apart).heard is here in_it.at (at_stays one)
          (frame_heard old n m m' bytes s h.turn.turn.deeds a h.sound h.turns.was h.came casting a_is apart one) opens (gives one in_it.contact shown)

  -- ---- either

  pub happens_to : Happens
  happens_to = by (h.turn.turn.casts a).heard
    where
      by : HearsCasts m.node m'.node bytes s h.turn.turn.deeds a (h.turn.turn.turns a).turn.first.course.changes → Happens
      by (hears_none none) = none_heard none
      by (hears_one one) = one_heard one
