-- What is known of a node that took a turn as a member of another one's broadcast, where no broadcast packet of that one was heard.
use Rattle.std.specs.Prelude.{All, filter}
use Rattle.std.specs.List.{Contains}
use Rattle.std.proofs.Common.{◌≡◌, ◌≢◌, ◌<◌, ◌+◌, ◌^◌, ◌∙◌, ℕ, Bool, List, [], ◌∷◌, ◌++◌, map, refl, sym, ap, subst, append-nil, arith}
use Rattle.std.proofs.lemmas.List.{map-append}
use Rattle.std.proofs.lemmas.List.Elements.{All-contains_itself, All-weaker, Contains-append_left, Contains-append_right}
use Rattle.tipc_types.specs.Address.{node_word}
use Rattle.tipc_types.specs.declared.message_forms.Flow.TheVariants.{Broadcast}
use Rattle.tipc_outside.specs.declared.outgoing.Outgoing.{Outgoing}
use Rattle.tipc_casters.specs.Sights.{contact_of}
use Rattle.tipc_casters.specs.ViewLaws.{MayEnter}
use Rattle.tipc_casters.specs.Views.{CasterView, IsOther, MemberView}
use Rattle.tipc_casters.proofs.Consistent.{in_kept, out_unheard}
use Rattle.tipc_contact.specs.Sides.{boot_of}
use Rattle.tipc_journal.specs.declared.entries.Entry.{Entry}
use Rattle.tipc_journal.specs.Steps.{NodeStep}
use Rattle.tipc_journal.specs.Streams.{delivered}
use Rattle.tipc_journal.proofs.StreamLaws.{delivered_nil}
use Rattle.tipc_pair.specs.Facing.{PairEnds, in_contact}
use Rattle.tipc_pair.proofs.turns.PairTells.{Means, Story, began}
use Rattle.tipc_pair.proofs.turns.TurnMeans.{TurnMeans, least}
use Rattle.tipc_node.specs.Messages.{bytes_of}
use Rattle.tipc_node.specs.Nodes.{kept, pair_with}
use Rattle.tipc_node.specs.Turns.{HearsNone, addr_of, is_cast_from}
use Rattle.tipc_replay.specs.Casters.{caster_at, casting_at, heard_contact, member_of_caster, members_of}
use Rattle.tipc_replay.specs.Castings.{AreCasting}
use Rattle.tipc_replay.specs.Met.{contacts_entered}
use Rattle.tipc_replay.specs.Sound.{IsNumber}
use Rattle.tipc_replay.specs.States.{MemberState, boot_at, history, stream_of}
use Rattle.tipc_replay.specs.Steps.{Stage}
use Rattle.tipc_replay.specs.Views.{sight_at}
use Rattle.tipc_replay.proofs.casts.CasterLooks.{contact_at-is}
use Rattle.tipc_replay.proofs.casts.CastStreams.{heard_then}
use Rattle.tipc_replay.proofs.casts.MemberGuards.{may_enter}
use Rattle.tipc_replay.proofs.casts.MemberLooks.{IsMemberOf, is_member, member_looks, word_is}
use Rattle.tipc_replay.proofs.casts.MemberTurn.{Known, between_none}
use Rattle.tipc_replay.proofs.casts.MetStories.{numbers_begun, step_enters, turn_begins}
use Rattle.tipc_replay.proofs.casts.SteadyTurns.{SteadyTurn}
use Rattle.tipc_replay.proofs.casts.StoryDeeds.{begun_by, begun_then}
use Rattle.tipc_replay.proofs.casts.TurnFacts.{boot_after, contact_after, is_here, means_at, met_after, met_before, number_here, seen_after, sight_before, there_after, was_here}
use Rattle.tipc_replay.proofs.pairs.PairedTurns.{turn_history}
use Rattle.tipc_replay.proofs.pairs.Standing.{seen_node}
use Rattle.tipc_replay.proofs.pairs.Turning.{sight_in}

one_in : {A : Type 0} (x : A) → Contains (x ∷ []) x
one_in x = (0, omega arith, refl)

-- the boot of a node as another one sees it
boot_seen : (s : Stage) (a b : ℕ) → (sight_in s a b).node.boot ≡ boot_at s.members a
unfolding sight_at
boot_seen s a b = refl

module _ {old new : Stage} {n : ℕ} {m m' : MemberState} {bytes : List ℕ} {s : NodeStep} {frames : List Outgoing} {lost : Bool} (h : SteadyTurn old new n m m' bytes s frames lost) (casting : AreCasting old.members old.air)
    (a : ℕ) (a_is : IsNumber a) (apart : a ≢ n) where
  abbrev pub v : CasterView
  v = caster_at old.members old.air a

  abbrev pub ws : ℕ → MemberView
  ws = members_of old.members old.air a

  abbrev pub word : ℕ
  word = node_word n

  abbrev pub w' : MemberView
  w' = members_of new.members new.air a word

  abbrev pub x : PairEnds
  x = pair_with m.node a

  abbrev pub y : PairEnds
  y = pair_with m'.node a

  abbrev pub means : TurnMeans x y (h.turn.turn.turns a).opening (h.turn.turn.turns a).turn.first
  means = means_at h a

  pub looks : IsMemberOf (ws word) old.air a n m
  looks = member_looks old.members old.air a n m (was_here h)

  pub looks_then : IsMemberOf w' new.air a n m'
  looks_then = member_looks new.members new.air a n m' (is_here h)

  pub other : IsOther v word
  other = is_member old.members old.air a n (casting a a_is).own (number_here h) apart

  -- ---- contacts

  entered_then : w'.entered ≡ (ws word).entered ++ map heard_contact (numbers_begun means.story)
  entered_then =
      looks_then.entered
      ∙ ap (λ es. map heard_contact (contacts_entered es (addr_of a))) (turn_history m m' bytes s frames h.turn)
      ∙ ap (map heard_contact) (step_enters (history m) s (addr_of a) ∙ ap (λ ns. contacts_entered (history m) (addr_of a) ++ ns) (turn_begins m.node.own bytes s frames a x y means.story (h.turn.turn.turns a) means.story_is))
      ∙ map-append heard_contact (contacts_entered (history m) (addr_of a)) (numbers_begun means.story)
      ∙ ap (λ cs. cs ++ map heard_contact (numbers_begun means.story)) (sym looks.entered)

  pub entered_still : All (Contains w'.entered) (ws word).entered
  entered_still =
      let more = map heard_contact (numbers_begun means.story) in
      subst (λ cs. All (Contains cs) (ws word).entered) (sym entered_then)
      (All-weaker (Contains (ws word).entered) (Contains ((ws word).entered ++ more)) (λ c there. Contains-append_left (ws word).entered more c there) (ws word).entered (All-contains_itself (ws word).entered))

  entered_begun : (numbers : ℕ × ℕ) → means.story ≡ began numbers → Contains w'.entered (heard_contact numbers)
  entered_begun numbers is =
      subst (λ cs. Contains cs (heard_contact numbers)) (sym entered_then)
      (subst (λ (t : Story). Contains ((ws word).entered ++ map heard_contact (numbers_begun t)) (heard_contact numbers)) (sym is)
      (Contains-append_right (ws word).entered (heard_contact numbers ∷ []) (heard_contact numbers) (one_in (heard_contact numbers))))

  -- the node's own number fits
  pub own_fits : y.contact < 2 ^ 64
  own_fits =
      let node = seen_node (sight_in new n a) (sight_in old a n) (met_after h a a_is apart).seen in
      let contact = contact_after h a in
      let of_boot = node.contact in
      let fits = node.boot in
      omega (arith, contact, of_boot, fits)

  -- a contact that begins may be entered
  enters : (numbers : ℕ × ℕ) → Means x y (began numbers) → MayEnter v (ws word) word (heard_contact numbers) × (numbers.0 < 2 ^ 64)
  enters numbers began_so =
      let before = sight_in old n a in
      let after = sight_in new n a in
      let there = sight_in old a n in
      let met = met_before h a a_is apart in
      let met' = met_after h a a_is apart in
      let seen = sight_before h a in
      let contact : after.node.contact ≡ y.contact = contact_after h a in
      let theirs : after.node.seen ≡ y.seen = seen_after h a in
      let low = least x y (began numbers) began_so in
      let was : before.node.contact ≡ x.contact = ap (λ (z : PairEnds). z.contact) seen in
      let begun = h.aged.begun n m h.turns.was in
      let boot = boot_after h a in
      let still = h.turn.turn.boot in
      let of_caster : boot_of there.node.contact ≡ (casting_at old.members a).boot = (seen_node there before (h.sound.pairs a n a_is (number_here h) apart)).contact ∙ boot_seen old a n ∙ sym (casting a a_is).boot in
      let may = may_enter old.members old.air a n word after met met' (ap in_contact seen ∙ began_so.0) (there_after h a ∙ began_so.1) (omega (arith, was, contact, low)) (omega (arith, boot, still, begun)) of_caster
      (contact_at-is old.members n a m (was_here h) ∙ between_none x began_so.0) (word_is n) in
      let same : contact_of after.node.seen after.node.contact ≡ heard_contact numbers = (λ i. contact_of (theirs i) (contact i)) ∙ ap heard_contact (sym began_so.2) in
      let node = seen_node after there met'.seen in
      let of_boot = node.contact in
      let fits = node.boot in
      let first : numbers.0 ≡ y.contact = ap (λ (c : ℕ × ℕ). c.0) began_so.2 in (
        subst (λ k. MayEnter v (member_of_caster old.members old.air a k) word (heard_contact numbers)) (sym (word_is n))
            (subst (MayEnter v (member_of_caster old.members old.air a n) word) same may),
        omega (arith, first, contact, of_boot, fits),
      )

  -- ---- what is given

  -- a step delivers this of the broadcast
  pub given_then : (es : List Entry) → filter (is_cast_from a) s.inside ≡ es → (own theirs : ℕ) → w'.given own theirs ≡ (ws word).given own theirs ++ map (bytes_of (node_word a)) (delivered es (stream_of a theirs own Broadcast))
  given_then es is own theirs =
      looks_then.given own theirs
      ∙ ap (map (bytes_of (node_word a))) (heard_then (history m) (history m') s a theirs own es (turn_history m m' bytes s frames h.turn) is)
      ∙ map-append (bytes_of (node_word a)) (delivered (history m) (stream_of a theirs own Broadcast)) (delivered es (stream_of a theirs own Broadcast))
      ∙ ap (λ ps. ps ++ map (bytes_of (node_word a)) (delivered es (stream_of a theirs own Broadcast))) (sym (looks.given own theirs))

  pub given_still : filter (is_cast_from a) s.inside ≡ [] → (own theirs : ℕ) → w'.given own theirs ≡ (ws word).given own theirs
  given_still none own theirs =
      given_then [] none own theirs ∙ ap (λ ms. (ws word).given own theirs ++ map (bytes_of (node_word a)) ms) (delivered_nil (stream_of a theirs own Broadcast)) ∙ append-nil ((ws word).given own theirs)

  -- ---- all of it

  pub known : HearsNone m.node m'.node s h.turn.turn.deeds a (h.turn.turn.turns a).turn.first.course.changes → Known v (ws word) w' word x y means.story
  known none = record {
    at = looks.at;
    at_then = looks_then.at;
    kept = λ c at. in_kept v ws word c (casting a a_is).seen other at;
    none = out_unheard v ws word (casting a a_is).seen other;
    means = means.means;
    begun = looks_then.begun ∙ none.begun ∙ begun_then (h.turn.turn.turns a).turn.first.course.changes means.story (kept m.node a).casts means.story_is ∙ ap (begun_by means.story) (sym looks.begun);
    given = given_still none.delivered;
    enters = λ numbers is. (let e = enters numbers (subst (Means x y) is means.means) in (e.0, entered_begun numbers is, e.1));
  }
