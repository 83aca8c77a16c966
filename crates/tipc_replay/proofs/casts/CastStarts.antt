-- Where no nodes are, every number is a caster that did nothing yet; and it stays one when a node comes in, in whatever boot.
use Rattle.std.specs.Prelude.{option_and_then, option_map, slice_get, slice_index_or, unwrap_or}
use Rattle.std.proofs.Common.{◌≡◌, ◌≢◌, ◌<◌, ◌≤◌, ◌+◌, ◌-◌, ◌^◌, ◌==◌, ◌∙◌, ℕ, zero, suc, List, [], Option, Some, None, map, refl, sym, ap, subst, inl, inr, arith}
use Rattle.std.proofs.lemmas.Bool.{cases_eq}
use Rattle.std.proofs.lemmas.List.Elements.{All-contains_itself, All-nil}
use Rattle.tipc_types.specs.Address.{node_word}
use Rattle.tipc_types.specs.declared.message_forms.Flow.TheVariants.{Broadcast}
use Rattle.tipc_types.specs.declared.message_forms.Message.{Message}
use Rattle.tipc_fragments.specs.Joining.{fresh}
use Rattle.tipc_journal.specs.Streams.{accepted, delivered}
use Rattle.tipc_journal.proofs.StreamLaws.{accepted_nil, delivered_nil}
use Rattle.tipc_broadcast.specs.Casting.{Casting, booted}
use Rattle.tipc_broadcast.specs.Contacts.{contact_with}
use Rattle.tipc_broadcast_law.specs.Groups.{put}
use Rattle.tipc_casters.specs.ViewLaws.{SameCaster, SameView, new_caster_view, new_member_view}
use Rattle.tipc_casters.specs.Views.{AreCastSeen, CasterView, MemberView}
use Rattle.tipc_casters.proofs.CasterViews.{begins_cast, restarts_stays}
use Rattle.tipc_casters.proofs.MemberViews.{same_stays}
use Rattle.tipc_pair.specs.Facing.{contact_between}
use Rattle.tipc_node.specs.declared.neighbours.Neighbour.{Neighbour}
use Rattle.tipc_node.specs.Messages.{IsSendable, bytes_of}
use Rattle.tipc_node.specs.Nodes.{acquaintance, kept}
use Rattle.tipc_node.specs.Turns.{addr_of}
use Rattle.tipc_replay.specs.Air.{number_of_node}
use Rattle.tipc_replay.specs.Castings.{AreCasting, IsCaster}
use Rattle.tipc_replay.specs.Casters.{cast_contact, caster_at, casting_at, casts_begun_at, casts_from, heard_contact, heard_of_caster, member_of_caster, members_of, told_to_caster}
use Rattle.tipc_replay.specs.Events.{JoinsAt}
use Rattle.tipc_replay.specs.Met.{contacts_entered}
use Rattle.tipc_replay.specs.Skies.{AirState, empty_air}
use Rattle.tipc_replay.specs.Sound.{IsNumber}
use Rattle.tipc_replay.specs.States.{MemberState, accepted_at, cast_count_of, casts_noted, contact_at, delivered_at, history_at, member_at, stream_of}
use Rattle.tipc_replay.proofs.LookUps.{boot_at-is, boot_at-same, either_way, member_at-is}
use Rattle.tipc_replay.proofs.SoundWorlds.{absent_boot, absent_history, absent_pair, all_same}
use Rattle.tipc_replay.proofs.casts.CasterLooks.{all_in, among_same, begun_at-is, begun_at-same, cast_count_at-is, casting_at-is, casting_at-same, same_caster, count_noted, count_present}
use Rattle.tipc_replay.proofs.casts.CastCounts.{absent_casts}
use Rattle.tipc_replay.proofs.casts.OwnRestart.{booted_right}
use Rattle.tipc_replay.proofs.streams.StreamsEvents.{member_alike}

-- ---- a node that isn't there

absent_casting : (members : List (Option MemberState)) (n : ℕ) → slice_index_or members n None ≡ None → casting_at members n ≡ booted (node_word n) 1
unfolding casting_at member_at
absent_casting members n none = ap (λ o. unwrap_or (option_map (λ (m : MemberState). m.node.casting) o) (booted (node_word n) 1)) none

absent_begun : (members : List (Option MemberState)) (n b : ℕ) → slice_index_or members n None ≡ None → casts_begun_at members n b ≡ fresh
unfolding casts_begun_at member_at
absent_begun members n b none = ap (λ o. unwrap_or (option_map (λ (m : MemberState). (kept m.node b).casts) o) fresh) none

absent_contact : (members : List (Option MemberState)) (n b : ℕ) → slice_index_or members n None ≡ None → contact_at members n b ≡ None
unfolding contact_at
absent_contact members n b none = ap (option_and_then contact_between) (absent_pair members n b none)

no_casts : (casts : List (ℕ × ℕ)) (boot : ℕ) → casts ≡ [] → casts_noted casts boot ≡ 0
unfolding casts_noted
no_casts casts boot none = ap (λ cs. casts_noted cs boot) none

-- ---- a caster that did nothing, in a later boot

-- a caster as it is in this boot, where it numbered nothing and is in no contact
abbrev idle_in : CasterView → ℕ → ℕ → CasterView
idle_in v own boot = record v { casting = booted own boot; numbered = λ f. 0; joined = λ word. None }

view_itself : (w : MemberView) → SameView w w
view_itself w = record {
  at = refl;
  entered = All-contains_itself w.entered;
  heard = refl;
  given = λ own theirs numbers. refl;
  begun = refl;
  told = All-contains_itself w.told;
  hears = All-contains_itself w.hears;
}

-- it is cast in each later boot
later_cast : (v : CasterView) (ws : ℕ → MemberView) (n boot more : ℕ) → IsNumber n → boot + more < 2 ^ 32 → AreCastSeen (idle_in v (node_word n) boot) ws → AreCastSeen (idle_in v (node_word n) (boot + more)) ws
later_cast v ws n boot zero number fits h = (let same : boot ≡ boot + 0 = omega arith in subst (λ k. AreCastSeen (idle_in v (node_word n) k) ws) same h)
later_cast v ws n boot (suc more) number fits h =
    let low : boot + more < 2 ^ 32 = omega (arith, fits) in
    let next : boot + more + 1 ≡ boot + suc more = omega arith in
    let small : boot + more + 1 < 2 ^ 32 = omega (arith, fits) in
    let u = idle_in v (node_word n) (boot + more) in
    let again = restarts_stays u ws (later_cast v ws n boot more number low h) (booted_right n (boot + more + 1) number small) in
    subst (λ k. AreCastSeen (idle_in v (node_word n) k) ws) next
    (same_stays (record u { casting = booted (node_word n) (boot + more + 1); numbered = put (boot + more + 1) 0 (λ f. 0); joined = λ word. None }) (idle_in v (node_word n) (boot + more + 1)) ws ws again
    (record {
      casting = refl;
      numbered = λ f. sym (either_way (f == boot + more + 1) 0);
      joined = λ word other. refl;
      entered = λ word. All-contains_itself (v.entered word);
      put = λ word own theirs. refl;
      sent = among_same v.sent v.sent refl;
    }) (λ word other. view_itself (ws word)))

-- ---- a node comes in

module _ (old new : List (Option MemberState)) (air : AirState) (n first : ℕ) (none : slice_index_or old n None ≡ None) (j : JoinsAt old new n first) where
  there : member_at new n ≡ Some j.newcomer
  there = member_at-is new n j.newcomer j.here

  same_entries : (b : ℕ) → history_at new b ≡ history_at old b
  same_entries b = (all_same old new n first none j b).entries

  same_contact : (a b : ℕ) → contact_at new a b ≡ contact_at old a b
  unfolding contact_at
  same_contact a b = ap (option_and_then contact_between) ((all_same old new n first none j a).pair b)

  same_accepted : (a b own theirs : ℕ) → accepted_at new a b own theirs Broadcast ≡ accepted_at old a b own theirs Broadcast
  unfolding accepted_at
  same_accepted a b own theirs = ap (λ es. accepted es (stream_of b own theirs Broadcast)) (same_entries a)

  same_delivered : (b a own theirs : ℕ) → delivered_at new b a own theirs Broadcast ≡ delivered_at old b a own theirs Broadcast
  unfolding delivered_at
  same_delivered b a own theirs = ap (λ es. delivered es (stream_of a own theirs Broadcast)) (same_entries b)

  -- what a broadcast link keeps of others, and what is begun of their broadcasts
  same_links : (b : ℕ) → (casting_at new b).contacts ≡ (casting_at old b).contacts
  same_links b = elim (cases_eq b n) [
    | inl same ↦
        ap (λ k. (casting_at new k).contacts) same ∙ ap (λ (v : Casting). v.contacts) (casting_at-is new n j.newcomer there ∙ j.fresh.node.casting)
        ∙ sym (ap (λ k. (casting_at old k).contacts) same ∙ ap (λ (v : Casting). v.contacts) (absent_casting old n none))
    | inr apart ↦ ap (λ (v : Casting). v.contacts) (casting_at-same old new b (member_alike old new b (j.others b apart)))
  ]

  same_begun : (b a : ℕ) → casts_begun_at new b a ≡ casts_begun_at old b a
  same_begun b a = elim (cases_eq b n) [
    | inl same ↦
        ap (λ k. casts_begun_at new k a) same ∙ begun_at-is new n a j.newcomer there ∙ ap (λ (o : Option Neighbour). (acquaintance j.newcomer.node a o).casts) (j.fresh.node.alone a)
        ∙ sym (ap (λ k. casts_begun_at old k a) same ∙ absent_begun old n a none)
    | inr apart ↦ begun_at-same old new b a (member_alike old new b (j.others b apart))
  ]

  same_views : (a word : ℕ) → SameView (members_of old air a word) (members_of new air a word)
  unfolding member_of_caster
  same_views a word =
      let b = number_of_node word in
      record {
        at = ap (option_map heard_contact) (same_contact b a);
        entered = all_in _ _ (ap (λ es. map heard_contact (contacts_entered es (addr_of a))) (sym (same_entries b)));
        heard = ap (contact_with (node_word a)) (same_links b);
        given = λ own theirs numbers. ap (map (bytes_of (node_word a))) (same_delivered b a theirs own);
        begun = same_begun b a;
        told = All-contains_itself (told_to_caster air b a);
        hears = All-contains_itself (heard_of_caster air a b);
      }

  -- what was delivered of a broadcast
  same_given : (a : ℕ) → IsCaster old air a → (b own theirs k : ℕ) (message : Message) → IsNumber b → b ≢ a → slice_get (delivered_at new b a own theirs Broadcast) k ≡ Some message → IsSendable (node_word a) message
  same_given a c b own theirs k message number apart at = c.delivered b own theirs k message number apart (ap (λ ms. slice_get ms k) (sym (same_delivered b a own theirs)) ∙ at)

  -- each other node
  other_caster : (a : ℕ) → a ≢ n → IsCaster old air a → IsCaster new air a
  other_caster a apart c =
      let same = member_alike old new a (j.others a apart) in
      record {
        own = ap (λ (v : Casting). v.own) (casting_at-same old new a same) ∙ c.own;
        boot = ap (λ (v : Casting). v.boot) (casting_at-same old new a same) ∙ c.boot ∙ sym (boot_at-same old new a same);
        seen = same_stays (caster_at old air a) (caster_at new air a) (members_of old air a) (members_of new air a) c.seen (same_caster old new air air a same refl) (λ word other. same_views a word);
        delivered = same_given a c;
      }

  -- the node itself, as it was while it wasn't there
  was_idle : IsCaster old air n → AreCastSeen (idle_in (caster_at old air n) (node_word n) 1) (members_of old air n)
  unfolding caster_at
  was_idle c = same_stays (caster_at old air n) (idle_in (caster_at old air n) (node_word n) 1) (members_of old air n) (members_of old air n) c.seen
      (record {
        casting = sym (absent_casting old n none);
        numbered = λ f. sym (absent_casts old n f none);
        joined = λ word other. sym (ap (option_map cast_contact) (absent_contact old n (number_of_node word) none));
        entered = λ word. All-contains_itself ((caster_at old air n).entered word);
        put = λ word own theirs. refl;
        sent = among_same (casts_from air n) (casts_from air n) refl;
      }) (λ word other. view_itself (members_of old air n word))

  new_count : (boot : ℕ) → cast_count_of j.newcomer boot ≡ 0
  new_count boot = elim (cases_eq boot j.newcomer.node.boot) [
    | inl same ↦ count_present j.newcomer boot same ∙ ap (λ (v : Casting). v.sending.numbered) j.fresh.node.casting
    | inr apart ↦ count_noted j.newcomer boot apart ∙ no_casts j.newcomer.casts boot j.fresh.casts
  ]

  is_idle : SameCaster (idle_in (caster_at old air n) (node_word n) first) (caster_at new air n)
  unfolding caster_at
  is_idle = record {
    casting = casting_at-is new n j.newcomer there ∙ j.fresh.node.casting;
    numbered = λ f. cast_count_at-is new n f j.newcomer there ∙ new_count f;
    joined = λ word other. ap (option_map cast_contact) (same_contact n (number_of_node word) ∙ absent_contact old n (number_of_node word) none);
    entered = λ word. all_in _ _ (ap (λ es. map cast_contact (contacts_entered es (addr_of (number_of_node word)))) (sym (same_entries n)));
    put = λ word own theirs. ap (map (bytes_of (node_word n))) (same_accepted n (number_of_node word) own theirs);
    sent = among_same (casts_from air n) (casts_from air n) refl;
  }

  new_caster : IsNumber n → 1 ≤ first → first < 2 ^ 32 → IsCaster old air n → IsCaster new air n
  new_caster number from few c =
      let link = casting_at-is new n j.newcomer there ∙ j.fresh.node.casting in
      let more : 1 + (first - 1) ≡ first = omega (arith, from) in
      let later = later_cast (caster_at old air n) (members_of old air n) n 1 (first - 1) number (omega (arith, from, few)) (was_idle c) in
      let now = subst (λ k. AreCastSeen (idle_in (caster_at old air n) (node_word n) k) (members_of old air n)) more later in
      record {
        own = ap (λ (v : Casting). v.own) link;
        boot = ap (λ (v : Casting). v.boot) link ∙ sym j.fresh.node.boot_is ∙ sym (boot_at-is new n j.newcomer there);
        seen = same_stays (idle_in (caster_at old air n) (node_word n) first) (caster_at new air n) (members_of old air n) (members_of new air n) now is_idle (λ word other. same_views n word);
        delivered = same_given n c;
      }

pub joined_casting : (old new : List (Option MemberState)) (air : AirState) (n first : ℕ) → IsNumber n → 1 ≤ first → first < 2 ^ 32 → slice_index_or old n None ≡ None → JoinsAt old new n first → AreCasting old air → AreCasting new air
joined_casting old new air n first number from few none j casts a a_is = elim (cases_eq a n) [
  | inl same ↦ subst (IsCaster new air) (sym same) (new_caster old new air n first none j number from few (casts n number))
  | inr apart ↦ other_caster old new air n first none j a apart (casts a a_is)
]

-- ---- the begin

nobody : (n : ℕ) → let members : List (Option MemberState) = [] in slice_index_or members n None ≡ None
nobody n = refl

none_accepted : (a b own theirs : ℕ) → accepted_at [] a b own theirs Broadcast ≡ []
unfolding accepted_at
none_accepted a b own theirs = ap (λ es. accepted es (stream_of b own theirs Broadcast)) (absent_history [] a (nobody a)) ∙ accepted_nil (stream_of b own theirs Broadcast)

none_delivered : (b a own theirs : ℕ) → delivered_at [] b a own theirs Broadcast ≡ []
unfolding delivered_at
none_delivered b a own theirs = ap (λ es. delivered es (stream_of a own theirs Broadcast)) (absent_history [] b (nobody b)) ∙ delivered_nil (stream_of a own theirs Broadcast)

first_caster : (a : ℕ) → SameCaster (new_caster_view (node_word a) 1) (caster_at [] empty_air a)
unfolding caster_at casts_from
first_caster a = record {
  casting = absent_casting [] a (nobody a);
  numbered = λ f. absent_casts [] a f (nobody a);
  joined = λ word other. ap (option_map cast_contact) (absent_contact [] a (number_of_node word) (nobody a));
  entered = λ word. All-nil _;
  put = λ word own theirs. ap (map (bytes_of (node_word a))) (none_accepted a (number_of_node word) own theirs);
  sent = All-nil _;
}

first_member : (a word : ℕ) → SameView new_member_view (members_of [] empty_air a word)
unfolding member_of_caster told_to_caster heard_of_caster
first_member a word =
    let b = number_of_node word in
    record {
      at = ap (option_map heard_contact) (absent_contact [] b a (nobody b));
      entered = All-nil _;
      heard = ap (λ (v : Casting). contact_with (node_word a) v.contacts) (absent_casting [] b (nobody b));
      given = λ own theirs numbers. ap (map (bytes_of (node_word a))) (none_delivered b a theirs own);
      begun = absent_begun [] b a (nobody b);
      told = All-nil _;
      hears = All-nil _;
    }

pub start_casting : AreCasting [] empty_air
start_casting a a_is = record {
  own = ap (λ (v : Casting). v.own) (absent_casting [] a (nobody a));
  boot = ap (λ (v : Casting). v.boot) (absent_casting [] a (nobody a)) ∙ sym (absent_boot [] a (nobody a));
  seen = same_stays (new_caster_view (node_word a) 1) (caster_at [] empty_air a) (λ word. new_member_view) (members_of [] empty_air a) (begins_cast (node_word a) 1 (booted_right a 1 a_is (omega arith))) (first_caster a)
      (λ word other. first_member a word);
  delivered = λ b own theirs k message number apart there. absurd (let wrong : None ≡ Some message = ap (λ ms. slice_get ms k) (sym (none_delivered b a own theirs)) ∙ there in let no : ⊥ = cc in no);
}
