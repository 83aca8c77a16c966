-- What a node did at its broadcast link in a turn, by what happened at the pair to each peer.
use Rattle.std.specs.Prelude.{◌&&◌, cond, filter, is_some}
use Rattle.std.specs.List.{list_all}
use Rattle.std.proofs.Common.{◌≡◌, ◌≢◌, ◌∙◌, ℕ, Bool, true, false, List, [], ◌∷◌, ◌++◌, Option, Some, None, refl, sym, ap, subst, eqb-true, inl, inr, append-nil, arith}
use Rattle.std.proofs.lemmas.Bool.{and_parts, cases_eq}
use Rattle.std.proofs.lemmas.Bool.Decides.{nat_tests}
use Rattle.tipc_types.specs.Address.{node_word}
use Rattle.tipc_types.specs.declared.link_words.BroadcastState.{BroadcastState}
use Rattle.tipc_types.specs.declared.message_forms.Message.{Message}
use Rattle.tipc_outside.specs.declared.outgoing.Outgoing.{Outgoing}
use Rattle.tipc_journal.specs.Steps.{NodeStep}
use Rattle.tipc_broadcast.specs.declared.contacts.Contact.{Contact}
use Rattle.tipc_broadcast.specs.Casting.{Casting, shown}
use Rattle.tipc_broadcast.specs.Contacts.{contact_with, has_joined}
use Rattle.tipc_broadcast.specs.Deeds.{AreLawful, CastDeed, after_deeds, is_deed_with, sends_nothing}
use Rattle.tipc_casters.specs.ViewLaws.{is_part}
use Rattle.tipc_pair.specs.Facing.{in_contact}
use Rattle.tipc_pair.specs.Messages.{pieces_for}
use Rattle.tipc_pair.proofs.turns.PairTells.{Means, Story, began, ended, stays}
use Rattle.tipc_node.specs.Casting.{boot_of_contact, is_parting, state_deeds, stated_by}
use Rattle.tipc_node.specs.Messages.{IsSendable, bytes_of}
use Rattle.tipc_node.specs.Nodes.{pair_with}
use Rattle.tipc_node.specs.Turns.{CastDoing, IsSent, hears_cast, meets, parts, sends_cast}
use Rattle.tipc_replay.specs.States.{MemberState}
use Rattle.tipc_replay.specs.Steps.{Stage}
use Rattle.tipc_replay.proofs.casts.CasterTurn.{all_filtered}
use Rattle.tipc_replay.proofs.casts.OwnStart.{began_start, began_told_start}
use Rattle.tipc_replay.proofs.casts.SteadyTurns.{SteadyTurn}
use Rattle.tipc_replay.proofs.casts.StoryDeeds.{story_deeds, story_told}
use Rattle.tipc_replay.proofs.casts.TurnFacts.{means_at}

-- ---- lists of deeds

-- what is done with one peer is done with no other
deed_apart : (w other : ℕ) (d : CastDeed) → w ≢ other → is_deed_with w d ≡ true → is_deed_with other d ≡ false
deed_apart w other (CastDeed.joins peer boot) apart is = (let same : peer ≡ w = eqb-true peer w is in grind (arith, nat_tests, same, apart))
deed_apart w other (CastDeed.leaves peer) apart is = (let same : peer ≡ w = eqb-true peer w is in grind (arith, nat_tests, same, apart))
deed_apart w other (CastDeed.states peer seen) apart is = (let same : peer ≡ w = eqb-true peer w is in grind (arith, nat_tests, same, apart))
deed_apart w other (CastDeed.bears bearer is_mended) apart is = refl
deed_apart w other (CastDeed.hears boot members by packet) apart is = refl
deed_apart w other (CastDeed.sends pieces) apart is = refl

pub deeds_apart : (w other : ℕ) (ds : List CastDeed) → w ≢ other → filter (is_deed_with other) (filter (is_deed_with w) ds) ≡ []
deeds_apart w other [] apart = refl
deeds_apart w other (d ∷ ds) apart = by (is_deed_with w d) refl (deeds_apart w other ds apart)
  where
    by : (b : Bool) → is_deed_with w d ≡ b → filter (is_deed_with other) (filter (is_deed_with w) ds) ≡ [] → filter (is_deed_with other) (cond b (d ∷ filter (is_deed_with w) ds) (filter (is_deed_with w) ds)) ≡ []
    by true is later = ap (λ c. cond c (d ∷ filter (is_deed_with other) (filter (is_deed_with w) ds)) (filter (is_deed_with other) (filter (is_deed_with w) ds))) (deed_apart w other d apart is) ∙ later
    by false is later = later

parting_part : (d : CastDeed) → is_part d ≡ is_parting d
parting_part (CastDeed.joins peer boot) = refl
parting_part (CastDeed.leaves peer) = refl
parting_part (CastDeed.states peer seen) = refl
parting_part (CastDeed.bears bearer is_mended) = refl
parting_part (CastDeed.hears boot members by packet) = refl
parting_part (CastDeed.sends pieces) = refl

pub all_part : (ds : List CastDeed) → list_all is_part ds ≡ list_all is_parting ds
all_part [] = refl
all_part (d ∷ ds) = (λ i. parting_part d i && all_part ds i)

-- in front of a list that is empty stands nothing
pub none_front : {A : Type 0} (xs ys : List A) → xs ++ ys ≡ [] → xs ≡ []
none_front [] ys none = refl
none_front (x ∷ xs) ys none = absurd (let wrong : x ∷ (xs ++ ys) ≡ [] = none in let no : ⊥ = cc in no)

-- a parting is no STATE
no_state : (b : ℕ) (story : Story) (seen : BroadcastState) → list_all is_part (story_deeds b story ++ state_deeds b (Some seen)) ≡ true → ⊥
no_state b stays seen all = (let wrong : false ≡ true = all in cc)
no_state b (began numbers) seen all = (let wrong : false ≡ true = all in cc)
no_state b (ended numbers states shown) seen all = (let wrong : false ≡ true = all in cc)

-- where bearers are mended or cut and peers leave, or a link packet arrives, no message is sent
pub parts_quiet : (ds : List CastDeed) → list_all is_parting ds ≡ true → list_all sends_nothing ds ≡ true
parts_quiet [] all = refl
parts_quiet (CastDeed.leaves peer ∷ ds) all = parts_quiet ds all
parts_quiet (CastDeed.bears bearer is_mended ∷ ds) all = parts_quiet ds all
parts_quiet (CastDeed.joins peer boot ∷ ds) all = absurd (let wrong : false ≡ true = all in let no : ⊥ = cc in no)
parts_quiet (CastDeed.states peer seen ∷ ds) all = absurd (let wrong : false ≡ true = all in let no : ⊥ = cc in no)
parts_quiet (CastDeed.hears boot members by packet ∷ ds) all = absurd (let wrong : false ≡ true = all in let no : ⊥ = cc in no)
parts_quiet (CastDeed.sends pieces ∷ ds) all = absurd (let wrong : false ≡ true = all in let no : ⊥ = cc in no)

pub meeting_quiet : (b : ℕ) (story : Story) (o : Option BroadcastState) → list_all sends_nothing (story_deeds b story ++ state_deeds b o) ≡ true
meeting_quiet b stays None = refl
meeting_quiet b stays (Some seen) = refl
meeting_quiet b (began numbers) None = refl
meeting_quiet b (began numbers) (Some seen) = refl
meeting_quiet b (ended numbers states shown) None = refl
meeting_quiet b (ended numbers states shown) (Some seen) = refl

-- nobody has joined
unjoined : (peer : ℕ) (cs : List Contact) → has_joined peer cs ≡ false → contact_with peer cs ≡ None
unjoined peer cs out = by (contact_with peer cs) out
  where
    by : (o : Option Contact) → is_some o ≡ false → o ≡ None
    by None none = refl
    by (Some c) some = absurd (let wrong : true ≡ false = some in let no : ⊥ = cc in no)

-- ---- the turn

module _ {old new : Stage} {n : ℕ} {m m' : MemberState} {bytes : List ℕ} {s : NodeStep} {frames : List Outgoing} {lost : Bool} (h : SteadyTurn old new n m m' bytes s frames lost) where
  -- the story of the contact with node b, and the STATE that was taken of it
  abbrev pub story_at : ℕ → Story
  story_at b = (means_at h b).story

  abbrev pub stated_at : ℕ → Option BroadcastState
  stated_at b = stated_by (h.turn.turn.turns b).opening (h.turn.turn.turns b).turn.first.given

  -- are what was done with it
  pub done_with : (b : ℕ) → filter (is_deed_with (node_word b)) h.turn.turn.deeds ≡ story_deeds b (story_at b) ++ state_deeds b (stated_at b)
  done_with b = (h.turn.turn.casts b).told ∙ story_told b (h.turn.turn.turns b).turn.first.course.changes (story_at b) (stated_at b) (means_at h b).story_is

  -- where nothing was done with it, nothing is told of the contact with it
  pub nothing_with : (b : ℕ) → filter (is_deed_with (node_word b)) h.turn.turn.deeds ≡ [] → filter (is_deed_with (node_word b)) h.turn.turn.deeds ≡ story_deeds b (story_at b)
  nothing_with b none = none ∙ sym (none_front (story_deeds b (story_at b)) (state_deeds b (stated_at b)) (sym (done_with b) ∙ none))

  -- where bearers are mended or cut and peers leave, no STATE is taken
  pub parted_with : (b : ℕ) → list_all is_part h.turn.turn.deeds ≡ true → filter (is_deed_with (node_word b)) h.turn.turn.deeds ≡ story_deeds b (story_at b)
  parted_with b all = by (stated_at b) refl
    where
      by : (o : Option BroadcastState) → stated_at b ≡ o → filter (is_deed_with (node_word b)) h.turn.turn.deeds ≡ story_deeds b (story_at b)
      by None is = done_with b ∙ ap (λ o. story_deeds b (story_at b) ++ state_deeds b o) is ∙ append-nil (story_deeds b (story_at b))
      by (Some seen) is = absurd (no_state b (story_at b) seen (
          ap (list_all is_part) (sym (done_with b ∙ ap (λ o. story_deeds b (story_at b) ++ state_deeds b o) is))
          ∙ all_filtered is_part (is_deed_with (node_word b)) h.turn.turn.deeds all))

  -- where a message was cast, that was all
  pub sent_is : (msg : Message) → h.turn.turn.cast ≡ Some msg → IsSendable m.node.own msg × (h.turn.turn.deeds ≡ CastDeed.sends (pieces_for (bytes_of m.node.own msg)) ∷ [])
  sent_is msg is = subst (IsSent m.node.own h.turn.turn.deeds) is h.turn.turn.sent

  -- where only this was done, none was
  pub none_cast : (ds : List CastDeed) → h.turn.turn.deeds ≡ ds → list_all sends_nothing ds ≡ true → h.turn.turn.cast ≡ None
  none_cast ds are quiet = by h.turn.turn.cast refl
    where
      by : (o : Option Message) → h.turn.turn.cast ≡ o → h.turn.turn.cast ≡ None
      by None is = is
      by (Some msg) is = absurd (let wrong : false ≡ true = ap (list_all sends_nothing) (sym (sent_is msg is).1 ∙ are) ∙ quiet in let no : ⊥ = cc in no)

  -- ---- the begin of a contact

  -- with its begin, and the STATE that is taken then, all is said that was done
  all_begun : (b : ℕ) (d : CastDeed) (ds : List CastDeed) → is_parting d ≡ false → filter (is_deed_with (node_word b)) h.turn.turn.deeds ≡ d ∷ ds → h.turn.turn.deeds ≡ d ∷ ds
  all_begun b d ds starts is = by h.turn.turn.doing
    where
      none : filter (is_deed_with (node_word b)) h.turn.turn.deeds ≡ [] → ⊥
      none nothing = (let wrong : [] ≡ d ∷ ds = sym nothing ∙ is in let no : ⊥ = cc in no)

      by : CastDoing m.node m'.node bytes s h.turn.turn.deeds h.turn.turn.cast → h.turn.turn.deeds ≡ d ∷ ds
      by (parts all) = absurd (
          let whole : list_all is_parting (d ∷ ds) ≡ true = ap (list_all is_parting) (sym is) ∙ all_filtered is_parting (is_deed_with (node_word b)) h.turn.turn.deeds all in
          let wrong : false ≡ true = sym starts ∙ (and_parts (is_parting d) (list_all is_parting ds) whole).0 in
          let no : ⊥ = cc in no)
      by (meets peer all) = elim (cases_eq (node_word peer) (node_word b)) [
        | inl same ↦ sym all ∙ ap (λ w. filter (is_deed_with w) h.turn.turn.deeds) same ∙ is
        | inr apart ↦ absurd (none (ap (filter (is_deed_with (node_word b))) (sym all) ∙ deeds_apart (node_word peer) (node_word b) h.turn.turn.deeds apart))
      ]
      by (hears_cast peer one) = absurd (none (ap (filter (is_deed_with (node_word b))) one.heard))
      by (sends_cast msg cast) = absurd (none (ap (filter (is_deed_with (node_word b))) (sent_is msg cast).1))

  -- the start that was shown before it is that which is shown after it
  pub start_stays : (b : ℕ) → in_contact (pair_with m.node b) ≡ false → in_contact (pair_with m'.node b) ≡ true → (shown m'.node.casting (node_word b)).start ≡ (shown m.node.casting (node_word b)).start
  start_stays b out there = by (story_at b) refl (means_at h b).means
    where
      v : Casting
      v = m.node.casting

      Stays : Type 0
      Stays = (shown m'.node.casting (node_word b)).start ≡ (shown m.node.casting (node_word b)).start

      joins : ℕ × ℕ → CastDeed
      joins numbers = CastDeed.joins (node_word b) (boot_of_contact numbers.1)

      joined : (numbers : ℕ × ℕ) (ds : List CastDeed) → h.turn.turn.deeds ≡ joins numbers ∷ ds → contact_with (node_word b) v.contacts ≡ None
      joined numbers ds are = unjoined (node_word b) v.contacts (subst (λ es. AreLawful es v) are h.turn.turn.lawful).0.1

      after : (ds : List CastDeed) → h.turn.turn.deeds ≡ ds → (shown m'.node.casting (node_word b)).start ≡ (shown (after_deeds ds v) (node_word b)).start
      after ds are = ap (λ (k : Casting). (shown k (node_word b)).start) (h.turn.turn.casting ∙ ap (λ es. after_deeds es v) are)

      with_state : (numbers : ℕ × ℕ) (o : Option BroadcastState) → h.turn.turn.deeds ≡ joins numbers ∷ state_deeds b o → Stays
      with_state numbers None are = after (joins numbers ∷ []) are ∙ began_start (node_word b) (boot_of_contact numbers.1) v (joined numbers [] are)
      with_state numbers (Some seen) are =
          after (joins numbers ∷ CastDeed.states (node_word b) seen ∷ []) are
          ∙ began_told_start (node_word b) (boot_of_contact numbers.1) seen v (joined numbers (CastDeed.states (node_word b) seen ∷ []) are)

      by : (story : Story) → story_at b ≡ story → Means (pair_with m.node b) (pair_with m'.node b) story → Stays
      by stays is means = absurd (let wrong : true ≡ false = sym there ∙ means.0 ∙ out in let no : ⊥ = cc in no)
      by (ended numbers states last) is means = absurd (let wrong : true ≡ false = sym means.0 ∙ out in let no : ⊥ = cc in no)
      by (began numbers) is means =
          with_state numbers (stated_at b) (all_begun b (joins numbers) (state_deeds b (stated_at b)) refl (done_with b ∙ ap (λ t. story_deeds b t ++ state_deeds b (stated_at b)) is))
