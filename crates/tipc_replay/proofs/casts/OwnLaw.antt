-- What a node does in a turn at its own broadcast is what a caster may do.
use Rattle.std.specs.Prelude.{All, map, option_map, option_to_list, ◌++◌}
use Rattle.std.specs.List.{Contains, filter_map}
use Rattle.std.proofs.Common.{◌≡◌, ◌⊎◌, ◌<◌, ◌≤◌, ◌^◌, ◌==◌, ◌∙◌, ℕ, Bool, true, false, if◌then◌else◌, List, [], ◌∷◌, Option, Some, None, refl, sym, ap, subst, eqb-true, inl, inr, append-nil, arith}
use Rattle.std.proofs.lemmas.Bool.Decides.{nat_tests}
use Rattle.std.proofs.lemmas.List.{map-append}
use Rattle.std.proofs.lemmas.List.Elements.{All-contains_itself, All-weaker, Contains-append_left, Contains-append_right}
use Rattle.tipc_types.specs.Address.{node_word}
use Rattle.tipc_types.specs.declared.message_forms.Flow.TheVariants.{Broadcast}
use Rattle.tipc_types.specs.declared.message_forms.Message.{Message}
use Rattle.tipc_outside.specs.declared.outgoing.Outgoing.{Outgoing}
use Rattle.tipc_journal.specs.declared.entries.Entry.TheVariants as entry
use Rattle.tipc_journal.specs.Steps.{NodeStep, step_entries}
use Rattle.tipc_journal.specs.Streams.{accepted as accepted_in}
use Rattle.tipc_journal.proofs.StreamLaws.{accepted_nil}
use Rattle.tipc_broadcast.specs.Casting.{Casting}
use Rattle.tipc_broadcast.specs.Deeds.{AreLawful, after_deeds, deeds_frames}
use Rattle.tipc_broadcast.proofs.Deeds.{deeds_node}
use Rattle.tipc_casters.specs.Sights.{Aired, contact_of}
use Rattle.tipc_casters.specs.ViewLaws.{DoesDeeds, put_one_more}
use Rattle.tipc_casters.specs.Views.{AreContactNumbers}
use Rattle.tipc_pair.specs.Facing.{PairEnds, in_contact}
use Rattle.tipc_node.specs.Messages.{bytes_of}
use Rattle.tipc_node.specs.Nodes.{pair_with}
use Rattle.tipc_node.specs.Turns.{addr_of, cast_told, casts_in, is_cast_out}
use Rattle.tipc_replay.specs.Air.{airborne, number_of_node}
use Rattle.tipc_replay.specs.Castings.{IsCaster}
use Rattle.tipc_replay.specs.Casters.{cast_contact, cast_in, caster_at, casting_at, casts_from}
use Rattle.tipc_replay.specs.Met.{contact_begun, contacts_entered}
use Rattle.tipc_replay.specs.States.{MemberState, accepted_at, boot_at, cast_count_of, casts_noted, contact_at, history_at, stream_of}
use Rattle.tipc_replay.specs.Steps.{Stage}
use Rattle.tipc_replay.proofs.LookUps.{boot_at-is, history_at-is}
use Rattle.tipc_replay.proofs.casts.Beside.{cast_parts, contains_passing}
use Rattle.tipc_replay.proofs.casts.CastStreams.{cast_adds, cast_then}
use Rattle.tipc_replay.proofs.casts.CasterLooks.{cast_count_at-is, casting_at-is, count_noted, count_present}
use Rattle.tipc_replay.proofs.casts.CasterTurn.{joined_in}
use Rattle.tipc_replay.proofs.casts.Listing.{IsListed, listed_after}
use Rattle.tipc_replay.proofs.casts.MetStories.{numbers_begun, step_enters, turn_begins}
use Rattle.tipc_replay.proofs.casts.MemberTurn.{between_none}
use Rattle.tipc_replay.proofs.casts.OwnDeeds.{story_at}
use Rattle.tipc_replay.proofs.casts.OwnStates.{joined_before}
use Rattle.tipc_replay.proofs.casts.SteadyTurns.{SteadyTurn}
use Rattle.tipc_replay.proofs.casts.TurnFacts.{is_here, means_at, number_before, number_here, sight_before, was_here}
use Rattle.tipc_replay.proofs.pairs.PairedTurns.{turn_history}
use Rattle.tipc_replay.proofs.pairs.Standing.{seen_node}
use Rattle.tipc_replay.proofs.pairs.Turning.{sight_in}

-- what stood in a list stands in a longer one
pub longer_has : {A B : Type 0} (f : A → B) (xs ys more : List A) → ys ≡ xs ++ more → All (Contains (map f ys)) (map f xs)
longer_has f xs ys more is =
    All-weaker (Contains (map f xs)) (Contains (map f ys)) (λ x there. (
    subst (λ zs. Contains zs x) (sym (ap (map f) is ∙ map-append f xs more)) (Contains-append_left (map f xs) (map f more) x there))) (map f xs) (All-contains_itself (map f xs))

module _ {old new : Stage} {n : ℕ} {m m' : MemberState} {bytes : List ℕ} {s : NodeStep} {frames : List Outgoing} {lost : Bool} (h : SteadyTurn old new n m m' bytes s frames lost) (c : IsCaster old.members old.air n) where
  -- ---- the broadcast link

  link_before : casting_at old.members n ≡ m.node.casting
  link_before = casting_at-is old.members n m (was_here h)

  link_after : casting_at new.members n ≡ m'.node.casting
  link_after = casting_at-is new.members n m' (is_here h)

  boot_before : m.node.casting.boot ≡ m.node.boot
  boot_before = ap (λ (v : Casting). v.boot) (sym link_before) ∙ c.boot ∙ boot_at-is old.members n m (was_here h)

  pub boot_then : m'.node.casting.boot ≡ m'.node.boot
  boot_then = ap (λ (v : Casting). v.boot) h.turn.turn.casting ∙ (deeds_node h.turn.turn.deeds m.node.casting).boot ∙ boot_before ∙ sym h.turn.turn.boot

  pub own_then : m'.node.casting.own ≡ node_word n
  own_then = ap (λ (v : Casting). v.own) h.turn.turn.casting ∙ (deeds_node h.turn.turn.deeds m.node.casting).own ∙ ap (λ (v : Casting). v.own) (sym link_before) ∙ c.own

  -- ---- the contacts that it entered

  entries : history_at new.members n ≡ history_at old.members n ++ step_entries s
  entries = history_at-is new.members n m' (is_here h) ∙ turn_history m m' bytes s frames h.turn ∙ ap (λ es. es ++ step_entries s) (sym (history_at-is old.members n m (was_here h)))

  entered : (b : ℕ) → contacts_entered (history_at new.members n) (addr_of b) ≡ contacts_entered (history_at old.members n) (addr_of b) ++ filter_map (contact_begun (addr_of b)) s.inside
  entered b = ap (λ es. contacts_entered es (addr_of b)) entries ∙ step_enters (history_at old.members n) s (addr_of b)

  -- ---- what it did

  frame_stamp : (bearer : ℕ) (o : Outgoing) (x : Aired) → x ≡ record { frame = record { bearer = bearer; to = o.to; frame = o.frame }; stamp = (airborne (contact_at old.members n) new.members n o).casts } → x.stamp ≤ m'.node.casting.sending.numbered
  frame_stamp bearer o x is =
      let stamp : x.stamp ≡ m'.node.casting.sending.numbered = ap (λ (y : Aired). y.stamp) is ∙ cast_count_at-is new.members n (boot_at new.members n) m' (is_here h) ∙ count_present m' (boot_at new.members n) (boot_at-is new.members n m' (is_here h)) in
      omega (arith, stamp)

  sent_so : (x : Aired) → IsListed (cast_in n) old.air (contact_at old.members n) new.members n frames x
      → Contains (casts_from old.air n) x ⊎ (Contains (deeds_frames h.turn.turn.deeds m.node.casting) x.frame × (x.stamp ≤ m'.node.casting.sending.numbered))
  unfolding casts_from
  sent_so x (inl before) = inl before
  sent_so x (inr (bearer, o, there, on, is)) =
      let q = cast_parts n bearer (airborne (contact_at old.members n) new.members n o) x is in
      let same : o.bearer ≡ bearer = eqb-true o.bearer bearer on in
      let frame : o ≡ x.frame = (λ i. record { bearer = same i; to = o.to; frame = o.frame }) ∙ sym (ap (λ (y : Aired). y.frame) q.1) in
      let among : Contains (casts_in frames) o = contains_passing is_cast_out frames o there q.0 in
      inr (subst (λ k. Contains (deeds_frames h.turn.turn.deeds m.node.casting) k) frame (subst (λ os. Contains os o) h.turn.turn.cast_frames among), frame_stamp bearer o x q.1)

  pub does_deeds : DoesDeeds (caster_at old.members old.air n) (caster_at new.members new.air n) h.turn.turn.deeds
  unfolding caster_at casts_from
  does_deeds = record {
    lawful = subst (AreLawful h.turn.turn.deeds) (sym link_before) h.turn.turn.lawful;
    casting = link_after ∙ h.turn.turn.casting ∙ ap (after_deeds h.turn.turn.deeds) (sym link_before);
    numbered = λ boot other. (
        let past : boot ≡ m.node.boot → ⊥ = λ is. other (is ∙ sym boot_before ∙ ap (λ (v : Casting). v.boot) (sym link_before)) in
        cast_count_at-is new.members n boot m' (is_here h) ∙ count_noted m' boot (λ is. past (is ∙ h.turn.turn.boot)) ∙ ap (λ cs. casts_noted cs boot) h.counted
        ∙ sym (cast_count_at-is old.members n boot m (was_here h) ∙ count_noted m boot past));
    now = cast_count_at-is new.members n (casting_at new.members n).boot m' (is_here h) ∙ count_present m' (casting_at new.members n).boot (ap (λ (v : Casting). v.boot) link_after ∙ boot_then)
        ∙ ap (λ (v : Casting). v.sending.numbered) (sym link_after);
    entered = λ word. longer_has cast_contact (contacts_entered (history_at old.members n) (addr_of (number_of_node word))) (contacts_entered (history_at new.members n) (addr_of (number_of_node word)))
        (filter_map (contact_begun (addr_of (number_of_node word))) s.inside) (entered (number_of_node word));
    sent = All-weaker (IsListed (cast_in n) old.air (contact_at old.members n) new.members n frames)
        (λ (x : Aired). Contains (casts_from old.air n) x ⊎ (Contains (deeds_frames h.turn.turn.deeds (casting_at old.members n)) x.frame × (x.stamp ≤ (casting_at new.members n).sending.numbered)))
        (λ x is. subst (λ (v : Casting). Contains (casts_from old.air n) x ⊎ (Contains (deeds_frames h.turn.turn.deeds v) x.frame × (x.stamp ≤ (casting_at new.members n).sending.numbered))) (sym link_before)
        (subst (λ (v : Casting). Contains (casts_from old.air n) x ⊎ (Contains (deeds_frames h.turn.turn.deeds m.node.casting) x.frame × (x.stamp ≤ v.sending.numbered))) (sym link_after) (sent_so x is)))
        (casts_from new.air n) (listed_after (cast_in n) old.air new.air (contact_at old.members n) new.members n frames lost h.turns.leaves);
  }

  -- the contact that begins with node b is among those that it entered
  pub begun_there : (b : ℕ) (numbers : ℕ × ℕ) (word : ℕ) → number_of_node word ≡ b → numbers_begun (story_at h b) ≡ numbers ∷ [] → Contains ((caster_at new.members new.air n).entered word) (cast_contact numbers)
  unfolding caster_at
  begun_there b numbers word number begun =
      let before = contacts_entered (history_at old.members n) (addr_of b) in
      let all : contacts_entered (history_at new.members n) (addr_of b) ≡ before ++ numbers ∷ [] =
      entered b ∙ ap (λ ns. before ++ ns) (turn_begins m.node.own bytes s frames b (pair_with m.node b) (pair_with m'.node b) (story_at h b) (h.turn.turn.turns b) (means_at h b).story_is ∙ begun) in
      let last : Contains (map cast_contact before ++ cast_contact numbers ∷ []) (cast_contact numbers) = Contains-append_right (map cast_contact before) (cast_contact numbers ∷ []) (cast_contact numbers) (0, omega arith, refl) in
      subst (λ k. Contains (map cast_contact (contacts_entered (history_at new.members n) (addr_of k))) (cast_contact numbers)) (sym number)
      (subst (λ cs. Contains cs (cast_contact numbers)) (sym (ap (map cast_contact) all ∙ map-append cast_contact before (numbers ∷ []))) last)

  -- ---- what was accepted for its members

  put_after : (word own theirs : ℕ) → (caster_at new.members new.air n).put word own theirs
      ≡ (caster_at old.members old.air n).put word own theirs ++ map (bytes_of (node_word n)) (accepted_in (cast_told (number_of_node word) (pair_with m.node (number_of_node word)) h.turn.turn.cast) (stream_of (number_of_node word) own theirs Broadcast))
  unfolding caster_at accepted_at
  put_after word own theirs =
      let b = number_of_node word in
      ap (map (bytes_of (node_word n))) (cast_then (history_at old.members n) (history_at new.members n) s b own theirs (cast_told b (pair_with m.node b) h.turn.turn.cast) entries (h.turn.turn.casts b).accepted)
      ∙ map-append (bytes_of (node_word n)) (accepted_in (history_at old.members n) (stream_of b own theirs Broadcast)) (accepted_in (cast_told b (pair_with m.node b) h.turn.turn.cast) (stream_of b own theirs Broadcast))

  pub put_same : h.turn.turn.cast ≡ None → (word own theirs : ℕ) → (caster_at new.members new.air n).put word own theirs ≡ (caster_at old.members old.air n).put word own theirs
  put_same none word own theirs =
      let b = number_of_node word in
      let before = (caster_at old.members old.air n).put word own theirs in
      put_after word own theirs
      ∙ ap (λ ms. before ++ map (bytes_of (node_word n)) ms) (ap (λ o. accepted_in (cast_told b (pair_with m.node b) o) (stream_of b own theirs Broadcast)) none ∙ accepted_nil (stream_of b own theirs Broadcast))
      ∙ append-nil before

  -- what the peer showed has 64 bits
  seen_fits : (b : ℕ) → in_contact (pair_with m.node b) ≡ true → (pair_with m.node b).seen < 2 ^ 64
  seen_fits b there =
      let other = number_before h b there in
      let v = sight_in old n b in
      let w = sight_in old b n in
      let fits = (seen_node v w (h.sound.pairs n b (number_here h) other.0 (λ e. other.1 (sym e)))).seen in
      let same = ap (λ (x : PairEnds). x.seen) (sight_before h b) in
      omega (arith, fits, same)

  pub put_more : (msg : Message) → h.turn.turn.cast ≡ Some msg → (word own theirs : ℕ) → AreContactNumbers own theirs
      → (caster_at new.members new.air n).put word own theirs
      ≡ (caster_at old.members old.air n).put word own theirs ++ put_one_more (bytes_of (node_word n) msg) ((caster_at old.members old.air n).joined word) (contact_of own theirs)
  put_more msg is word own theirs numbers =
      put_after word own theirs ∙ ap (λ ms. (caster_at old.members old.air n).put word own theirs ++ ms) (
      ap (λ o. map spelled (accepted_in (cast_told b x o) (stream_of b own theirs Broadcast))) is ∙ by (in_contact x) refl ∙ ap (λ o. put_one_more (spelled msg) o (contact_of own theirs)) (sym (joined_before h word)))
    where
      b : ℕ
      b = number_of_node word

      x : PairEnds
      x = pair_with m.node b

      spelled : Message → List ℕ
      spelled = bytes_of (node_word n)

      by : (t : Bool) → in_contact x ≡ t → map spelled (accepted_in (cast_told b x (Some msg)) (stream_of b own theirs Broadcast)) ≡ put_one_more (spelled msg) (joined_in x) (contact_of own theirs)
      by true there = cast_adds spelled b own theirs x msg numbers (seen_fits b there)
      by false out =
          ap (λ (o : Option (ℕ × ℕ)). map spelled (accepted_in (option_to_list (option_map (λ k. entry.Accepted (addr_of b) k Broadcast msg) o)) (stream_of b own theirs Broadcast))) (between_none x out)
          ∙ ap (map spelled) (accepted_nil (stream_of b own theirs Broadcast)) ∙ ap (λ o. put_one_more (spelled msg) (option_map cast_contact o) (contact_of own theirs)) (sym (between_none x out))
