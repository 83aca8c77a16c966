-- A node that took a turn stays a caster, and every other node its member.
use Rattle.std.specs.Prelude.{All, ◌%◌, filter, map, option_map, slice_get}
use Rattle.std.specs.List.{Contains, list_all}
use Rattle.std.proofs.Common.{◌≡◌, ◌≢◌, ◌⊎◌, ◌≤◌, ◌^◌, ◌∙◌, ℕ, Bool, true, List, [], ◌∷◌, ◌++◌, Option, Some, None, refl, sym, ap, subst, inl, inr, length, append_assoc, arith}
use Rattle.std.proofs.lemmas.Bool.{cases_eq, cases_lt}
use Rattle.std.proofs.lemmas.List.Elements.{All-append, All-cons, All-contains_itself, All-head, All-nil, All-tail, All-weaker, Contains-append_cases, Contains-append_left, Contains-append_right}
use Rattle.tipc_types.specs.Address.{node_word}
use Rattle.tipc_types.specs.declared.link_words.BroadcastState.{BroadcastState}
use Rattle.tipc_types.specs.declared.message_forms.Flow.TheVariants.{Broadcast}
use Rattle.tipc_types.specs.declared.message_forms.Message.{Message}
use Rattle.tipc_outside.specs.declared.outgoing.Outgoing.{Outgoing}
use Rattle.tipc_journal.specs.Steps.{NodeStep}
use Rattle.tipc_broadcast.specs.Casting.{Casting, accepted}
use Rattle.tipc_broadcast.specs.Contacts.{contact_with}
use Rattle.tipc_broadcast.specs.Deeds.{CastDeed, deeds_frames, is_deed_with}
use Rattle.tipc_casters.specs.Reading.{IsWritten}
use Rattle.tipc_casters.specs.Sights.{Told}
use Rattle.tipc_casters.specs.ViewLaws.{DoesDeeds, SameView, StaysCast, TellsTo, is_part, parted_from}
use Rattle.tipc_casters.specs.Views.{AreCastSeen, CasterView, IsOther, MemberView}
use Rattle.tipc_casters.proofs.CasterViews.{hears_other_stays, meets_stays, other_before, parts_stays, sends_stays, tells_stays}
use Rattle.tipc_casters.proofs.MemberViews.{same_stays}
use Rattle.tipc_pair.specs.Messages.{IsMessage, pieces_for}
use Rattle.tipc_pair.proofs.turns.PairTells.{Means, Story, began, ended, stays}
use Rattle.tipc_two_nodes.proofs.messages.Packets.{message_inner}
use Rattle.tipc_node.specs.Casting.{is_parting, state_deeds}
use Rattle.tipc_node.specs.Messages.{bytes_of}
use Rattle.tipc_node.specs.Nodes.{pair_with}
use Rattle.tipc_node.specs.Turns.{CastDoing, HearsOne, addr_of, hears_cast, meets, parts, sends_cast}
use Rattle.tipc_replay.specs.Air.{number_of_node}
use Rattle.tipc_replay.specs.Castings.{IsCaster}
use Rattle.tipc_replay.specs.Casters.{caster_at, heard_contact, heard_of_caster, member_of_caster, members_of, told_to_caster}
use Rattle.tipc_replay.specs.Met.{contacts_entered}
use Rattle.tipc_replay.specs.Sound.{IsNumber}
use Rattle.tipc_replay.specs.States.{MemberState, contact_at, member_at}
use Rattle.tipc_replay.specs.Steps.{Stage}
use Rattle.tipc_replay.proofs.LookUps.{boot_at-is, history_at-same}
use Rattle.tipc_replay.proofs.casts.CasterLooks.{all_in, among_same, begun_at-same, casting_at-is, casting_at-same, contact_at-same, delivered_at-same, told_still}
use Rattle.tipc_replay.proofs.casts.CasterTurn.{apart_joined, parts_joined}
use Rattle.tipc_replay.proofs.casts.CastSlots.{message_pieces}
use Rattle.tipc_replay.proofs.casts.OwnDeeds.{all_part, deeds_apart, done_with, meeting_quiet, none_cast, nothing_with, parted_with, parts_quiet, sent_is, stated_at, story_at}
use Rattle.tipc_replay.proofs.casts.OwnLaw.{boot_then, does_deeds, own_then, put_more, put_same}
use Rattle.tipc_replay.proofs.casts.OwnMeetings.{member_meets, member_tells, state_of}
use Rattle.tipc_replay.proofs.casts.OwnStates.{casting_after, casting_before, joined_after, joined_before, told_so}
use Rattle.tipc_replay.proofs.casts.SteadyTurns.{SteadyTurn}
use Rattle.tipc_replay.proofs.casts.StoryDeeds.{story_deeds}
use Rattle.tipc_replay.proofs.casts.TurnFacts.{is_here, means_at, number_after, number_before, own_before}
use Rattle.tipc_replay.proofs.frames.Ages.{number_is}
use Rattle.tipc_replay.proofs.frames.Messages.{message_is}
use Rattle.tipc_replay.proofs.pairs.Turning.{others_stay}

-- ---- what is told, in three parts

-- What is listed was there, or is of one kind, or of another.
record InThree {A : Type 0} (P Q : A → Type 0) (old now : List A) : Type 0 where
  first : List A
  first_is : All P first
  last : List A
  last_is : All Q last
  all : All (Contains ((old ++ first) ++ last)) now

in_three : {A : Type 0} (P Q : A → Type 0) (old now : List A) → All (λ t. Contains old t ⊎ (P t ⊎ Q t)) now → InThree P Q old now
in_three P Q old [] all = record { first = []; first_is = All-nil P; last = []; last_is = All-nil Q; all = All-nil (Contains ((old ++ []) ++ [])) }
in_three {A} P Q old (t ∷ ts) all = by (in_three P Q old ts (All-tail Is t ts all)) (All-head Is t ts all)
  where
    Is : A → Type 0
    Is x = Contains old x ⊎ (P x ⊎ Q x)

    by : InThree P Q old ts → Contains old t ⊎ (P t ⊎ Q t) → InThree P Q old (t ∷ ts)
    by r (inl there) = record {
      first = r.first;
      first_is = r.first_is;
      last = r.last;
      last_is = r.last_is;
      all = All-cons (Contains ((old ++ r.first) ++ r.last)) t ts (Contains-append_left (old ++ r.first) r.last t (Contains-append_left old r.first t there)) r.all;
    }
    by r (inr (inl is)) = record {
      first = r.first ++ t ∷ [];
      first_is = All-append P r.first (t ∷ []) r.first_is (All-cons P t [] is (All-nil P));
      last = r.last;
      last_is = r.last_is;
      all = All-cons (Contains ((old ++ (r.first ++ t ∷ [])) ++ r.last)) t ts
          (Contains-append_left (old ++ (r.first ++ t ∷ [])) r.last t (Contains-append_right old (r.first ++ t ∷ []) t (Contains-append_right r.first (t ∷ []) t (0, omega arith, refl))))
          (All-weaker (Contains ((old ++ r.first) ++ r.last)) (Contains ((old ++ (r.first ++ t ∷ [])) ++ r.last)) wider ts r.all);
    }
      where
        wider : (x : A) → Contains ((old ++ r.first) ++ r.last) x → Contains ((old ++ (r.first ++ t ∷ [])) ++ r.last) x
        wider x there = elim (Contains-append_cases (old ++ r.first) r.last x there) [
          | inl front ↦ Contains-append_left (old ++ (r.first ++ t ∷ [])) r.last x (subst (λ xs. Contains xs x) (append_assoc old r.first (t ∷ [])) (Contains-append_left (old ++ r.first) (t ∷ []) x front))
          | inr back ↦ Contains-append_right (old ++ (r.first ++ t ∷ [])) r.last x back
        ]
    by r (inr (inr is)) = record {
      first = r.first;
      first_is = r.first_is;
      last = r.last ++ t ∷ [];
      last_is = All-append Q r.last (t ∷ []) r.last_is (All-cons Q t [] is (All-nil Q));
      all = All-cons (Contains ((old ++ r.first) ++ (r.last ++ t ∷ []))) t ts
          (Contains-append_right (old ++ r.first) (r.last ++ t ∷ []) t (Contains-append_right r.last (t ∷ []) t (0, omega arith, refl)))
          (All-weaker (Contains ((old ++ r.first) ++ r.last)) (Contains ((old ++ r.first) ++ (r.last ++ t ∷ [])))
          (λ x there. subst (λ xs. Contains xs x) (append_assoc (old ++ r.first) r.last (t ∷ [])) (Contains-append_left ((old ++ r.first) ++ r.last) (t ∷ []) x there)) ts r.all);
    }

-- its parts, where it can be told whether it is so
abbrev first_part : {A X : Type 0} {P Q : A → Type 0} {old now : List A} → X ⊎ (X → ⊥) → (X → InThree P Q old now) → List A
first_part (inl x) f = (f x).first
first_part (inr never) f = []

abbrev last_part : {A X : Type 0} {P Q : A → Type 0} {old now : List A} → X ⊎ (X → ⊥) → (X → InThree P Q old now) → List A
last_part (inl x) f = (f x).last
last_part (inr never) f = []

first_part-is : {A X : Type 0} {P Q : A → Type 0} {old now : List A} (q : X ⊎ (X → ⊥)) (f : X → InThree P Q old now) → X → All P (first_part q f)
first_part-is (inl x) f is = (f x).first_is
first_part-is (inr never) f is = absurd (never is)

last_part-is : {A X : Type 0} {P Q : A → Type 0} {old now : List A} (q : X ⊎ (X → ⊥)) (f : X → InThree P Q old now) → X → All Q (last_part q f)
last_part-is (inl x) f is = (f x).last_is
last_part-is (inr never) f is = absurd (never is)

every_part : {A X : Type 0} {P Q : A → Type 0} {old now : List A} (q : X ⊎ (X → ⊥)) (f : X → InThree P Q old now) → X → All (Contains ((old ++ first_part q f) ++ last_part q f)) now
every_part (inl x) f is = (f x).all
every_part (inr never) f is = absurd (never is)

-- ---- another node, by its address word

pub record IsMemberWord (n word : ℕ) : Type 0 where
  pub number : IsNumber (number_of_node word)
  pub apart : number_of_node word ≢ n
  pub word_is : node_word (number_of_node word) ≡ word

pub member_word : (v : CasterView) (n word : ℕ) → v.casting.own ≡ node_word n → IsOther v word → IsMemberWord n word
member_word v n word own other =
    let low = other.0.0 in
    let high = other.0.1 in
    let word_is : node_word (number_of_node word) ≡ word = omega (arith, low) in
    record {
      number = (omega (arith, low), omega (arith, low, high));
      apart = λ same. other.1 (sym word_is ∙ ap node_word same ∙ sym own);
      word_is = word_is;
    }

pub word_member : (v : CasterView) (n b : ℕ) → v.casting.own ≡ node_word n → IsNumber b → b ≢ n → IsOther v (node_word b)
word_member v n b own number apart =
    let low = number.0 in
    let high = number.1 in
    ((omega (arith, low), omega (arith, high)), λ same. (let words : node_word b ≡ node_word n = same ∙ own in apart (omega (arith, words))))

-- whether it is one can be told
other_or_not : (v : CasterView) (word : ℕ) → IsOther v word ⊎ (IsOther v word → ⊥)
other_or_not v word = elim (cases_lt word 16781313) [
  | inl low ↦ inr (λ o. (let from = o.0.0 in omega (arith, low, from)))
  | inr from ↦ elim (cases_lt 16781344 word) [
    | inl high ↦ inr (λ o. (let to = o.0.1 in omega (arith, high, to)))
    | inr to ↦ elim (cases_eq word v.casting.own) [
      | inl same ↦ inr (λ o. o.1 same)
      | inr apart ↦ inl ((omega (arith, from), omega (arith, to)), apart)
    ]
  ]
]

module _ {old new : Stage} {n : ℕ} {m m' : MemberState} {bytes : List ℕ} {s : NodeStep} {frames : List Outgoing} {lost : Bool} (h : SteadyTurn old new n m m' bytes s frames lost) (c : IsCaster old.members old.air n) where
  abbrev v : CasterView
  v = caster_at old.members old.air n

  abbrev v' : CasterView
  v' = caster_at new.members new.air n

  own_is : v.casting.own ≡ node_word n
  unfolding caster_at
  own_is = c.own

  member_is : (word : ℕ) → IsOther v word → IsMemberWord n word
  member_is word other = member_word v n word own_is other

  -- few packets waited
  few : length m.node.casting.sending.waiting ≤ 246
  few = subst (λ (k : Casting). length k.sending.waiting ≤ 246) (c.seen.caster.casting ∙ casting_before h) c.seen.cast.caster.casting.few

  -- ---- the cases of what it did

  -- members that are seen so, whatever they hear
  abbrev AreSeenAs : (ℕ → MemberView) → Type 0
  AreSeenAs ws = (word : ℕ) → ((ws word).at ≡ (members_of old.members old.air n word).at) × ((ws word).told ≡ (members_of old.members old.air n word).told)

  -- where nothing is done with a member, it stays in contact or out of it
  joined_apart : (word : ℕ) → IsOther v word → filter (is_deed_with word) h.turn.turn.deeds ≡ [] → v'.joined word ≡ v.joined word
  joined_apart word other none =
      let b = number_of_node word in
      let k = member_is word other in
      let nothing : filter (is_deed_with (node_word b)) h.turn.turn.deeds ≡ [] = ap (λ w. filter (is_deed_with w) h.turn.turn.deeds) k.word_is ∙ none in
      joined_after h word ∙ apart_joined b h.turn.turn.deeds (pair_with m.node b) (pair_with m'.node b) (story_at h b) nothing (nothing_with h b nothing) (means_at h b).means ∙ sym (joined_before h word)

  parted : (word : ℕ) → IsOther v word → list_all is_part h.turn.turn.deeds ≡ true → v'.joined word ≡ parted_from word h.turn.turn.deeds (v.joined word)
  parted word other all =
      let b = number_of_node word in
      let k = member_is word other in
      joined_after h word ∙ parts_joined b h.turn.turn.deeds (pair_with m.node b) (pair_with m'.node b) (story_at h b) all (parted_with h b all) (means_at h b).means
      ∙ (λ i. parted_from (k.word_is i) h.turn.turn.deeds (sym (joined_before h word) i))

  parts_stay : (ws : ℕ → MemberView) → AreCastSeen v ws → list_all is_parting h.turn.turn.deeds ≡ true → StaysCast v v' ws h.turn.turn.deeds
  parts_stay ws seen all =
      let part : list_all is_part h.turn.turn.deeds ≡ true = all_part h.turn.turn.deeds ∙ all in
      parts_stays v v' ws h.turn.turn.deeds seen (does_deeds h c) part (λ word other. parted word other part) (put_same h c (none_cast h h.turn.turn.deeds refl (parts_quiet h.turn.turn.deeds all)))

  -- a link packet of node b arrives, or nothing is done
  with_other : (b : ℕ) → filter (is_deed_with (node_word b)) h.turn.turn.deeds ≡ h.turn.turn.deeds → (IsNumber b × (b ≢ n)) ⊎ (h.turn.turn.deeds ≡ [])
  with_other b all = by (story_at h b) refl (means_at h b).means (stated_at h b) refl
    where
      by : (story : Story) → story_at h b ≡ story → Means (pair_with m.node b) (pair_with m'.node b) story → (o : Option BroadcastState) → stated_at h b ≡ o → (IsNumber b × (b ≢ n)) ⊎ (h.turn.turn.deeds ≡ [])
      by (began numbers) is means o state = inl (number_after h b means.1)
      by (ended numbers states shown) is means o state = inl (number_before h b means.0)
      by stays is means (Some seen) state = (let q = state_of h c b seen state in inl (q.number, q.apart))
      by stays is means None state = inr (sym all ∙ done_with h b ∙ (λ i. story_deeds b (is i) ++ state_deeds b (state i)))

  meets_stay : (ws : ℕ → MemberView) → AreCastSeen v ws → AreSeenAs ws → (b : ℕ) → filter (is_deed_with (node_word b)) h.turn.turn.deeds ≡ h.turn.turn.deeds → IsNumber b → b ≢ n → StaysCast v v' ws h.turn.turn.deeds
  unfolding member_of_caster
  meets_stay ws seen so b all number apart =
      let first = story_deeds b (story_at h b) in
      let rest = state_deeds b (stated_at h b) in
      let are : h.turn.turn.deeds ≡ first ++ rest = sym all ∙ done_with h b in
      let here = number_is (node_word b) b refl in
      let others : (word : ℕ) → IsOther v word → (word ≡ node_word b → ⊥) → v'.joined word ≡ v.joined word =
      λ word other differs. joined_apart word other (ap (filter (is_deed_with word)) (sym all) ∙ deeds_apart (node_word b) word h.turn.turn.deeds (λ same. differs (sym same))) in
      subst (StaysCast v v' ws) (sym are)
      (meets_stays v v' ws (node_word b) first rest seen (subst (DoesDeeds v v') are (does_deeds h c)) (word_member v n b own_is number apart)
      (member_meets h c b (ws (node_word b)) ((so (node_word b)).0 ∙ ap (λ k. (member_of_caster old.members old.air n k).at) here))
      (member_tells h c b (ws (node_word b)) ((so (node_word b)).1 ∙ ap (λ k. told_to_caster old.air k n) here))
      others (put_same h c (none_cast h (first ++ rest) are (meeting_quiet b (story_at h b) (stated_at h b)))))

  -- a broadcast packet of another node arrives
  hears_stay : (ws : ℕ → MemberView) → AreCastSeen v ws → (b : ℕ) → HearsOne m.node m'.node bytes s h.turn.turn.deeds b → StaysCast v v' ws h.turn.turn.deeds
  hears_stay ws seen b one =
      let d = CastDeed.hears one.first (one.second % 2 ^ 32) one.by one.packet in
      subst (StaysCast v v' ws) (sym one.heard)
      (hears_other_stays v v' ws one.first (one.second % 2 ^ 32) one.by one.packet seen (subst (DoesDeeds v v') one.heard (does_deeds h c))
      (λ word other. joined_apart word other (ap (filter (is_deed_with word)) one.heard)) (put_same h c (none_cast h (d ∷ []) one.heard refl)))

  -- a message is cast
  sends_stay : (ws : ℕ → MemberView) → AreCastSeen v ws → (msg : Message) → h.turn.turn.cast ≡ Some msg → StaysCast v v' ws h.turn.turn.deeds
  sends_stay ws seen msg cast =
      let sent = sent_is h msg cast in
      let own = own_before h in
      let message = bytes_of (node_word n) msg in
      let are : h.turn.turn.deeds ≡ CastDeed.sends (pieces_for message) ∷ [] = sent.1 ∙ ap (λ w. CastDeed.sends (pieces_for (bytes_of w msg)) ∷ []) own in
      let counted : accepted v'.casting.sending ≤ 2 ^ 62 = subst (λ (k : Casting). accepted k.sending ≤ 2 ^ 62) (sym (casting_after h)) h.sending.counted in
      let pieces = message_pieces message (message_inner (node_word n) message (subst (λ w. IsMessage w (bytes_of w msg)) own (message_is m.node.own msg sent.0))) in
      subst (StaysCast v v' ws) (sym are)
      (sends_stays v v' ws message (pieces_for message) seen (subst (DoesDeeds v v') are (does_deeds h c)) counted pieces (λ word other. joined_apart word other (ap (filter (is_deed_with word)) are)) (put_more h c msg cast))

  -- so the caster and its members stay cast, and what left is written by the caster
  stays_as : (ws : ℕ → MemberView) → AreCastSeen v ws → AreSeenAs ws → StaysCast v v' ws h.turn.turn.deeds
  stays_as ws seen so = by h.turn.turn.doing
    where
      by : CastDoing m.node m'.node bytes s h.turn.turn.deeds h.turn.turn.cast → StaysCast v v' ws h.turn.turn.deeds
      by (parts all) = parts_stay ws seen all
      by (meets b all) = elim (with_other b all) [
        | inl other ↦ meets_stay ws seen so b all other.0 other.1
        | inr none ↦ parts_stay ws seen (ap (list_all is_parting) none)
      ]
      by (hears_cast b one) = hears_stay ws seen b one
      by (sends_cast msg cast) = sends_stay ws seen msg cast

  -- each broadcast frame that left is one that the node wrote
  pub own_written : All (IsWritten (node_word n)) (deeds_frames h.turn.turn.deeds m.node.casting)
  own_written =
      let written = (stays_as (members_of old.members old.air n) c.seen (λ word. (refl, refl))).written in
      subst (λ (k : Casting). All (IsWritten (node_word n)) (deeds_frames h.turn.turn.deeds k)) (casting_before h) (subst (λ w. All (IsWritten w) (deeds_frames h.turn.turn.deeds v.casting)) own_is written)

  -- ---- what it tells its members

  told_parts : (word : ℕ) → IsOther v word → InThree (TellsTo v word) (TellsTo v' word) (heard_of_caster old.air n (number_of_node word)) (heard_of_caster new.air n (number_of_node word))
  told_parts word other =
      let k = member_is word other in
      in_three (TellsTo v word) (TellsTo v' word) (heard_of_caster old.air n (number_of_node word)) (heard_of_caster new.air n (number_of_node word)) (told_so h word k.number k.apart k.word_is few)

  abbrev told_first : ℕ → List Told
  told_first word = first_part (other_or_not v word) (told_parts word)

  abbrev told_last : ℕ → List Told
  told_last word = last_part (other_or_not v word) (told_parts word)

  -- the members, behind what is told them at first, and behind all
  abbrev first_heard : ℕ → MemberView
  first_heard word = record (members_of old.members old.air n word) { hears = (members_of old.members old.air n word).hears ++ told_first word }

  abbrev all_heard : ℕ → MemberView
  all_heard word = record (first_heard word) { hears = (first_heard word).hears ++ told_last word }

  own_member : (word : ℕ) → IsOther v word → SameView (all_heard word) (members_of new.members new.air n word)
  unfolding member_of_caster
  own_member word other =
      let b = number_of_node word in
      let k = member_is word other in
      let same : member_at new.members b ≡ member_at old.members b = others_stay old new n m m' frames lost h.turns b k.apart in
      record {
        at = ap (option_map heard_contact) (contact_at-same old.members new.members b n same);
        entered = all_in _ _ (ap (λ es. map heard_contact (contacts_entered es (addr_of n))) (sym (history_at-same old.members new.members b same)));
        heard = ap (λ (k : Casting). contact_with (node_word n) k.contacts) (casting_at-same old.members new.members b same);
        given = λ own theirs numbers. ap (map (bytes_of (node_word n))) (delivered_at-same old.members new.members b n theirs own Broadcast same);
        begun = begun_at-same old.members new.members b n same;
        told = all_in _ _ (told_still old.air new.air (contact_at old.members n) new.members n n b frames lost h.turns.leaves k.apart);
        hears = every_part (other_or_not v word) (told_parts word) other;
      }

  own_cast : AreCastSeen v' (members_of new.members new.air n)
  own_cast =
      let first = tells_stays v (members_of old.members old.air n) told_first c.seen (λ word other. first_part-is (other_or_not v word) (told_parts word) other) in
      let done = stays_as first_heard first (λ word. (refl, refl)) in
      let before : (word : ℕ) → IsOther v' word → IsOther v word = λ word other. other_before v v' h.turn.turn.deeds word (does_deeds h c) other in
      let last = tells_stays v' first_heard told_last done.cast (λ word other. last_part-is (other_or_not v word) (told_parts word) (before word other)) in
      same_stays v' v' all_heard (members_of new.members new.air n) last (record {
        casting = refl;
        numbered = λ boot. refl;
        joined = λ word other. refl;
        entered = λ word. All-contains_itself (v'.entered word);
        put = λ word own theirs. refl;
        sent = among_same v'.sent v'.sent refl;
      }) (λ word other. own_member word (before word other))

  -- ---- the node after the turn

  pub own_stays : IsCaster new.members new.air n
  own_stays = record {
    own = ap (λ (k : Casting). k.own) (casting_at-is new.members n m' (is_here h)) ∙ own_then h c;
    boot = ap (λ (k : Casting). k.boot) (casting_at-is new.members n m' (is_here h)) ∙ boot_then h c ∙ sym (boot_at-is new.members n m' (is_here h));
    seen = own_cast;
    delivered = λ b own theirs k message number apart there. c.delivered b own theirs k message number apart
        (ap (λ ms. slice_get ms k) (sym (delivered_at-same old.members new.members b n own theirs Broadcast (others_stay old new n m m' frames lost h.turns b apart))) ∙ there);
  }
