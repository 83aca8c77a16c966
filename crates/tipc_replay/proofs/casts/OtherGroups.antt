-- What an event at a node means for each other caster and its members: the node is one of them, and they stay cast.
use Rattle.std.specs.Prelude.{All, filter, map, option_map, slice_get}
use Rattle.std.specs.List.{Contains}
use Rattle.std.proofs.Common.{◌≡◌, ◌≢◌, ◌≤◌, ◌-◌, ◌∙◌, ℕ, Bool, List, [], Option, Some, None, refl, sym, ap, subst, inl, inr, arith}
use Rattle.std.proofs.lemmas.Bool.{cases_eq}
use Rattle.std.proofs.lemmas.List.Elements.{All-contains_itself, All-weaker}
use Rattle.tipc_types.specs.Address.{node_word}
use Rattle.tipc_types.specs.declared.message_forms.Flow.TheVariants.{Broadcast}
use Rattle.tipc_types.specs.declared.message_forms.Message.{Message}
use Rattle.tipc_outside.specs.declared.outgoing.Outgoing.{Outgoing}
use Rattle.tipc_fragments.specs.Joining.{fresh}
use Rattle.tipc_broadcast.specs.Casting.{Casting}
use Rattle.tipc_broadcast.specs.Contacts.{contact_with}
use Rattle.tipc_broadcast_law.proofs.Places.{put_other, put_same, same_or_not}
use Rattle.tipc_casters.specs.MemberTurns.{TurnsAt}
use Rattle.tipc_casters.specs.Sights.{Told}
use Rattle.tipc_casters.specs.ViewLaws.{SameView, with_view}
use Rattle.tipc_casters.specs.Views.{AreCastSeen, IsOther, MemberView}
use Rattle.tipc_casters.proofs.MemberCourses.{turns_stay}
use Rattle.tipc_casters.proofs.MemberViews.{quits_stays, same_stays}
use Rattle.tipc_journal.specs.declared.entries.Entry.{Entry}
use Rattle.tipc_journal.specs.Steps.{NodeStep}
use Rattle.tipc_journal.specs.Streams.{delivered}
use Rattle.tipc_journal.proofs.StreamLaws.{delivered_nil}
use Rattle.tipc_link.proofs.LinkLaw.{Each, Each-append, Each-none}
use Rattle.tipc_pair.specs.Facing.{contact_between}
use Rattle.tipc_pair.specs.Messages.{opened_in}
use Rattle.tipc_node.specs.Messages.{IsSendable, bytes_of}
use Rattle.tipc_node.specs.Nodes.{acquaintance, pair_with, shown_contact}
use Rattle.tipc_node.specs.Turns.HearsCasts.{hears_none, hears_one}
use Rattle.tipc_node.specs.Turns.{HearsCasts, addr_of, given_entries, is_cast_from}
use Rattle.tipc_node.proofs.pairs.Strangers.{pair_alone}
use Rattle.tipc_replay.specs.declared.air.Sent.{Sent}
use Rattle.tipc_replay.specs.Air.{number_of_node}
use Rattle.tipc_replay.specs.Casters.{caster_at, heard_contact, heard_of_caster, members_of, state_told, told_to_caster}
use Rattle.tipc_replay.specs.Castings.{AreCasting, IsCaster}
use Rattle.tipc_replay.specs.Members.{IsRestarted}
use Rattle.tipc_replay.specs.Met.{contacts_entered}
use Rattle.tipc_replay.specs.Sound.{IsNumber, IsSound}
use Rattle.tipc_replay.specs.States.{MemberState, contact_at, delivered_at, history, member_at, stream_of}
use Rattle.tipc_replay.specs.Steps.{Stage, Turns}
use Rattle.tipc_replay.proofs.LookUps.{boot_at-same, history_at-is, history_at-same}
use Rattle.tipc_replay.proofs.casts.CastAgain.{again_sendable}
use Rattle.tipc_replay.proofs.casts.CastGiven.{casts_brought}
use Rattle.tipc_replay.proofs.casts.CastStreams.{heard_then}
use Rattle.tipc_replay.proofs.casts.CasterLooks.{casting_at-same, casts_still, heard_still, same_caster, same_member, told_still}
use Rattle.tipc_replay.proofs.casts.Listing.{IsListed, listed_after}
use Rattle.tipc_replay.proofs.casts.MemberHappens.{happens_to}
use Rattle.tipc_replay.proofs.casts.MemberKnown.{entered_still, looks, looks_then, other}
use Rattle.tipc_replay.proofs.casts.MemberLooks.{IsMemberOf, is_member, member_looks}
use Rattle.tipc_replay.proofs.casts.MemberSays.{says_more}
use Rattle.tipc_replay.proofs.casts.SteadyTurns.{SteadyTurn}
use Rattle.tipc_replay.proofs.casts.TurnFacts.{number_here, was_here}
use Rattle.tipc_replay.proofs.pairs.PairedTurns.{turn_history}
use Rattle.tipc_replay.proofs.pairs.Turning.{is_there, others_stay as nodes_stay, was_there}
use Rattle.tipc_replay.proofs.streams.Histories.{history_restarted}

-- ---- a node that changed, seen as a member of another one's broadcast

itself : (w : MemberView) → SameView w w
itself w = record {
  at = refl;
  entered = All-contains_itself w.entered;
  heard = refl;
  given = λ own theirs numbers. refl;
  begun = refl;
  told = All-contains_itself w.told;
  hears = All-contains_itself w.hears;
}

-- the number of another address word
another_number : (k n : ℕ) → 16781313 ≤ k → (k ≡ node_word n → ⊥) → number_of_node k ≢ n
another_number k n low never = λ same. never (omega (arith, same, low))

delivered_is : (members : List (Option MemberState)) (n a own theirs : ℕ) (m : MemberState) → member_at members n ≡ Some m
    → delivered_at members n a own theirs Broadcast ≡ delivered (history m) (stream_of a own theirs Broadcast)
unfolding delivered_at
delivered_is members n a own theirs m is = ap (λ es. delivered es (stream_of a own theirs Broadcast)) (history_at-is members n m is)

delivered_same : (members members' : List (Option MemberState)) (n a own theirs : ℕ) → member_at members' n ≡ member_at members n
    → delivered_at members' n a own theirs Broadcast ≡ delivered_at members n a own theirs Broadcast
unfolding delivered_at
delivered_same members members' n a own theirs same = ap (λ es. delivered es (stream_of a own theirs Broadcast)) (history_at-same members members' n same)

module _ {old new : Stage} {n : ℕ} {m m' : MemberState} {frames : List Outgoing} {lost : Bool} (t : Turns old new n m m' frames lost) (a : ℕ) (apart : a ≢ n) (caster : IsCaster old.members old.air a) where
  abbrev pub before : ℕ → MemberView
  before = members_of old.members old.air a

  abbrev pub after : ℕ → MemberView
  after = members_of new.members new.air a

  -- the other members are seen the same
  same_each : (w : MemberView) → SameView w (after (node_word n)) → (k : ℕ) → IsOther (caster_at old.members old.air a) k → SameView (with_view before (node_word n) w k) (after k)
  same_each w same k is_other = elim (same_or_not k (node_word n)) [
    | inl is ↦ subst (λ j. SameView (with_view before (node_word n) w j) (after j)) (sym is) (subst (λ (u : MemberView). SameView u (after (node_word n))) (sym (put_same (node_word n) w before)) same)
    | inr never ↦
        let differs = another_number k n is_other.0.0 never in
        let met = contact_at old.members n in
        subst (λ (u : MemberView). SameView u (after k)) (sym (put_other (node_word n) w before k never))
        (same_member old.members new.members old.air new.air a (number_of_node k) (nodes_stay old new n m m' frames lost t (number_of_node k) differs)
        (told_still old.air new.air met new.members n a (number_of_node k) frames lost t.leaves differs) (heard_still old.air new.air met new.members n a (number_of_node k) frames lost t.leaves apart))
  ]

  -- so the caster and its members stay cast, where they do with the node as it is seen then
  still_caster : (w : MemberView) → AreCastSeen (caster_at old.members old.air a) (with_view before (node_word n) w) → SameView w (after (node_word n))
      → ((own theirs : ℕ) → Each (IsSendable (node_word a)) (delivered_at new.members n a own theirs Broadcast)) → IsCaster new.members new.air a
  still_caster w seen same sendable =
      let stays = nodes_stay old new n m m' frames lost t a apart in
      let casting = casting_at-same old.members new.members a stays in
      record {
        own = ap (λ (v : Casting). v.own) casting ∙ caster.own;
        boot = ap (λ (v : Casting). v.boot) casting ∙ caster.boot ∙ sym (boot_at-same old.members new.members a stays);
        seen = same_stays (caster_at old.members old.air a) (caster_at new.members new.air a) (with_view before (node_word n) w) after seen
            (same_caster old.members new.members old.air new.air a stays (casts_still old.air new.air (contact_at old.members n) new.members n a frames lost t.leaves apart)) (same_each w same);
        delivered = λ k own theirs place message k_is k_apart there. elim (cases_eq k n) [
          | inl is ↦ sendable own theirs place message (subst (λ j. slice_get (delivered_at new.members j a own theirs Broadcast) place ≡ Some message) is there)
          | inr differs ↦
              caster.delivered k own theirs place message k_is k_apart
              (ap (λ ms. slice_get ms place) (sym (delivered_same old.members new.members k a own theirs (nodes_stay old new n m m' frames lost t k differs))) ∙ there)
        ];
      }

  -- the STATEs of the caster are those that there were
  hears_still : (after (node_word n)).hears ≡ heard_of_caster new.air a n → (before (node_word n)).hears ≡ heard_of_caster old.air a n → All (Contains (before (node_word n)).hears) (after (node_word n)).hears
  hears_still is was =
      subst (All (Contains (before (node_word n)).hears)) (sym (is ∙ heard_still old.air new.air (contact_at old.members n) new.members n a n frames lost t.leaves apart ∙ sym was)) (All-contains_itself (before (node_word n)).hears)

-- ---- a turn

module _ {old new : Stage} {n : ℕ} {m m' : MemberState} {bytes : List ℕ} {s : NodeStep} {frames : List Outgoing} {lost : Bool} (h : SteadyTurn old new n m m' bytes s frames lost) (casting : AreCasting old.members old.air)
    (a : ℕ) (a_is : IsNumber a) (apart : a ≢ n) where
  at_member : TurnsAt (caster_at old.members old.air a) (members_of old.members old.air a (node_word n)) (members_of new.members new.air a (node_word n)) (node_word n)
  at_member =
      let says = says_more h casting a a_is apart in
      record {
        happens = happens_to h casting a a_is apart;
        entered = entered_still h casting a a_is apart;
        more = says.0;
        said = says.1;
        told_is = says.2;
        hears = hears_still h.turns a apart (casting a a_is) (looks_then h casting a a_is apart).hears (looks h casting a a_is apart).hears;
      }

  -- what was delivered of the caster's broadcast are messages that it can send
  sendable_then : (own theirs : ℕ) → Each (IsSendable (node_word a)) (delivered_at new.members n a own theirs Broadcast)
  sendable_then own theirs = subst (Each (IsSendable (node_word a))) (sym (delivered_is new.members n a own theirs m' (is_there old new n m m' frames lost h.turns))) (by (h.turn.turn.casts a).heard)
    where
      P : Message → Type 0
      P = IsSendable (node_word a)

      was : Each P (delivered (history m) (stream_of a own theirs Broadcast))
      was = subst (Each P) (delivered_is old.members n a own theirs m (was_here h)) (λ place message there. (casting a a_is).delivered n own theirs place message (number_here h) (λ e. apart (sym e)) there)

      more : (es : List Entry) → filter (is_cast_from a) s.inside ≡ es → Each P (delivered es (stream_of a own theirs Broadcast)) → Each P (delivered (history m') (stream_of a own theirs Broadcast))
      more es is all =
          subst (Each P) (sym (heard_then (history m) (history m') s a own theirs es (turn_history m m' bytes s frames h.turn) is))
          (Each-append P (delivered (history m) (stream_of a own theirs Broadcast)) (delivered es (stream_of a own theirs Broadcast)) was all)

      by : HearsCasts m.node m'.node bytes s h.turn.turn.deeds a (h.turn.turn.turns a).turn.first.course.changes → Each P (delivered (history m') (stream_of a own theirs Broadcast))
      by (hears_none none) = more [] none.delivered (subst (Each P) (sym (delivered_nil (stream_of a own theirs Broadcast))) (Each-none P))
      by (hears_one one) =
          more (given_entries Broadcast a (pair_with m.node a) one.given) one.delivered
          (again_sendable (node_word a) a own theirs (shown_contact (pair_with m.node a)) (opened_in one.given) (casts_brought old n m m' bytes s h.turn.turn.deeds a h.sound h.turns.was h.came casting a_is apart one))

  pub others_stay : IsCaster new.members new.air a
  others_stay =
      let w' = members_of new.members new.air a (node_word n) in
      still_caster h.turns a apart (casting a a_is) w'
      (turns_stay (caster_at old.members old.air a) (members_of old.members old.air a) (node_word n) w' (casting a a_is).seen (other h casting a a_is apart) at_member) (itself w') sendable_then

-- ---- a restart

-- nothing leaves a node that is restarted
no_more : (old new : Stage) (n a : ℕ) (m m' : MemberState) (frames : List Outgoing) (lost : Bool) → Turns old new n m m' frames lost → frames ≡ [] → All (Contains (told_to_caster old.air n a)) (told_to_caster new.air n a)
unfolding told_to_caster
no_more old new n a m m' frames lost t none =
    let told : ℕ → Sent → Option Told = λ bearer. state_told n a in
    All-weaker (IsListed told old.air (contact_at old.members n) new.members n frames) (Contains (told_to_caster old.air n a)) was (told_to_caster new.air n a) (listed_after told old.air new.air (contact_at old.members n) new.members n frames lost t.leaves)
  where
    nobody : (o : Outgoing) → Contains [] o → ⊥
    nobody o there = omega (arith, there.1)

    was : (x : Told) → IsListed (λ bearer. state_told n a) old.air (contact_at old.members n) new.members n frames x → Contains (told_to_caster old.air n a) x
    was x (inl there) = there
    was x (inr (bearer, o, left, on, is)) = absurd (nobody o (subst (λ os. Contains os o) none left))

-- the node is in no contact then
pub others_stay_restarted : (old new : Stage) (n : ℕ) (before after : MemberState) (frames : List Outgoing) (lost : Bool) → IsSound old.members old.air → Turns old new n before after frames lost → IsRestarted before after → frames ≡ []
    → (a : ℕ) → IsNumber a → a ≢ n → IsCaster old.members old.air a → IsCaster new.members new.air a
others_stay_restarted old new n before after frames lost sound t r none a a_is apart caster =
    still_caster t a apart caster (record w { at = None; heard = None; begun = fresh })
    (quits_stays (caster_at old.members old.air a) (members_of old.members old.air a) (node_word n) fresh caster.seen (is_member old.members old.air a n caster.own (sound.numbered n before t.was).0 apart)) (record {
      at = now.at ∙ ap (λ x. option_map heard_contact (contact_between x)) (pair_alone after.node a (r.node.alone a));
      entered = subst (λ cs. All (Contains cs) w.entered) (sym (now.entered ∙ ap (λ es. map heard_contact (contacts_entered es (addr_of a))) history_is ∙ sym earlier.entered)) (All-contains_itself w.entered);
      heard = now.heard ∙ ap (λ (v : Casting). contact_with (node_word a) v.contacts) r.node.casting;
      given = λ own theirs numbers. now.given own theirs ∙ ap (λ es. map (bytes_of (node_word a)) (delivered es (stream_of a theirs own Broadcast))) history_is ∙ sym (earlier.given own theirs);
      begun = now.begun ∙ ap (λ o. (acquaintance after.node a o).casts) (r.node.alone a);
      told = subst (λ ts. All (Contains w.told) ts) (sym now.told) (subst (λ ts. All (Contains ts) (told_to_caster new.air n a)) (sym earlier.told) (no_more old new n a before after frames lost t none));
      hears = hears_still t a apart caster now.hears earlier.hears;
    }) (λ own theirs. subst (Each (IsSendable (node_word a))) (delivered_is old.members n a own theirs before (was_there old new n before after frames lost t) ∙ ap (λ es. delivered es (stream_of a own theirs Broadcast)) (sym history_is) ∙ sym (delivered_is new.members n a own theirs after (is_there old new n before after frames lost t)))
    (λ place message there. caster.delivered n own theirs place message (sound.numbered n before t.was).0 (λ e. apart (sym e)) there))
  where
    w : MemberView
    w = members_of old.members old.air a (node_word n)

    earlier : IsMemberOf w old.air a n before
    earlier = member_looks old.members old.air a n before (was_there old new n before after frames lost t)

    now : IsMemberOf (members_of new.members new.air a (node_word n)) new.air a n after
    now = member_looks new.members new.air a n after (is_there old new n before after frames lost t)

    history_is : history after ≡ history before
    history_is = history_restarted before after r
