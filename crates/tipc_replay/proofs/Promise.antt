-- What nodes and the air between them keep is what is promised of them.
use Rattle.std.proofs.Common.{◌≡◌, ℕ, zero, suc, List, [], ◌∷◌, ◌++◌, Option, map, refl, sym, ap, subst, ◌∙◌}
use Rattle.tipc_types.specs.Address.{node_word}
use Rattle.tipc_types.specs.Prefixes.{IsPrefixOf}
use Rattle.tipc_types.specs.declared.message_forms.Flow.{Flow}
use Rattle.tipc_types.specs.declared.message_forms.Flow.TheVariants.{Zero, One, Broadcast}
use Rattle.tipc_types.specs.declared.message_forms.Message.{Message}
use Rattle.tipc_journal.specs.declared.entries.Entry.TheVariants as entry
use Rattle.tipc_casters.proofs.CasterViews.{casts_are_true, fronts_are_cast}
use Rattle.tipc_link.proofs.LinkLaw.{Each}
use Rattle.tipc_two_nodes.proofs.sights.Sights.{front}
use Rattle.tipc_replay.specs.Skies.{AirState, empty_air}
use Rattle.tipc_replay.specs.Replayed.{IsReplayed}
use Rattle.tipc_node.specs.Messages.{IsSendable, bytes_of}
use Rattle.tipc_replay.specs.Casters.{caster_at, member_of_caster, members_of}
use Rattle.tipc_replay.specs.Castings.{AreCasting}
use Rattle.tipc_replay.specs.Sound.{IsBetween, IsSound}
use Rattle.tipc_replay.specs.States.{MemberState, accepted_at, delivered_at}
use Rattle.tipc_replay.specs.Views.{sight_at}
use Rattle.tipc_replay.specs.Steady.{IsSteady}
use Rattle.tipc_replay.proofs.Answering.{start_answered}
use Rattle.tipc_replay.proofs.Receiving.{start_received}
use Rattle.tipc_replay.proofs.SoundWorlds.{start_sound}
use Rattle.tipc_replay.proofs.casts.CastStarts.{start_casting}
use Rattle.tipc_replay.proofs.casts.MemberLooks.{is_member, put_for, word_is}
use Rattle.tipc_replay.proofs.casts.Meeting.{start_met}
use Rattle.tipc_replay.proofs.journals.KeptWorlds.{start_watched}
use Rattle.tipc_replay.proofs.states.CastLinksKept.{start_cast}
use Rattle.tipc_replay.proofs.states.EndsKept.{all_low, start_bounded, start_named, start_numbers, start_packed, start_right}
use Rattle.tipc_replay.proofs.states.PlainKept.{start_plain}
use Rattle.tipc_replay.proofs.names.Sharing.{start_shared}
use Rattle.tipc_replay.proofs.names.Rising.{numbers_rise}
use Rattle.tipc_replay.proofs.names.Agreed.{tables_agree}
use Rattle.tipc_replay.proofs.Telling.{journals_tell}
use Rattle.tipc_replay.proofs.streams.Entered.{both_entered}
use Rattle.tipc_replay.proofs.frames.AgedKept.{start_aged}
use Rattle.tipc_replay.proofs.frames.Messages.{same_bytes}
use Rattle.tipc_replay.proofs.frames.Truth.{frame_is_true, truth_is}

pub no_message : (ys : List Message) → IsPrefixOf [] ys
no_message ys = (ys, refl)

-- where packets stand in front, so do their messages
pub messages_in_front : (own : ℕ) (xs ys : List Message) → Each (IsSendable own) xs → Each (IsSendable own) ys → IsPrefixOf (map (bytes_of own) xs) (map (bytes_of own) ys) → IsPrefixOf xs ys
messages_in_front own [] ys hx hy h = no_message ys
messages_in_front own (x ∷ xs) [] hx hy h = let is = h.1 in absurd cc
messages_in_front own (x ∷ xs) (y ∷ ys) hx hy h =
    let is = h.1 in
    let firsts : bytes_of own y ≡ bytes_of own x = cc in
    let rests : map (bytes_of own) ys ≡ map (bytes_of own) xs ++ h.0 = cc in
    let same = same_bytes own y x (hy zero y refl) (hx zero x refl) firsts in
    let later = messages_in_front own xs ys (λ k m. hx (suc k) m) (λ k m. hy (suc k) m) (h.0, rests) in
    (later.0, ap (λ m. m ∷ ys) same ∙ ap (λ ms. x ∷ ms) later.1)

-- two nodes of a sound world that are apart keep the promise for flow Zero
zero_between : (members : List (Option MemberState)) (air : AirState) (a b own theirs : ℕ) → IsSound members air → IsBetween b a own theirs → IsPrefixOf (delivered_at members b a own theirs Zero) (accepted_at members a b theirs own Zero)
unfolding sight_at accepted_at delivered_at
zero_between members air a b own theirs h numbers =
    messages_in_front (node_word a) (delivered_at members b a own theirs Zero) (accepted_at members a b theirs own Zero) (h.delivered b a own theirs) (λ k m is. (h.accepted a b theirs own Zero k m is).sendable)
    (front (sight_at members air b a) (sight_at members air a b) (h.pairs b a numbers.0 numbers.1 numbers.2) own theirs)

-- and for flow Broadcast
given_for : (members : List (Option MemberState)) (air : AirState) (a b own theirs : ℕ) → (members_of members air a (node_word b)).given theirs own ≡ map (bytes_of (node_word a)) (delivered_at members b a own theirs Broadcast)
unfolding member_of_caster
given_for members air a b own theirs = ap (λ k. map (bytes_of (node_word a)) (delivered_at members k a own theirs Broadcast)) (word_is b)

cast_between : (members : List (Option MemberState)) (air : AirState) (a b own theirs : ℕ) → IsSound members air → AreCasting members air → IsBetween b a own theirs
    → IsPrefixOf (delivered_at members b a own theirs Broadcast) (accepted_at members a b theirs own Broadcast)
cast_between members air a b own theirs h casts numbers =
    let caster = casts a numbers.1 in
    let other = is_member members air a b caster.own numbers.0 (λ same. numbers.2 (sym same)) in
    let packets = fronts_are_cast (caster_at members air a) (members_of members air a) caster.seen (node_word b) theirs own other (numbers.4, numbers.3) in
    messages_in_front (node_word a) (delivered_at members b a own theirs Broadcast) (accepted_at members a b theirs own Broadcast)
    (λ k m is. caster.delivered b own theirs k m numbers.0 numbers.2 is) (λ k m is. (h.accepted a b theirs own Broadcast k m is).sendable)
    (subst (λ ps. IsPrefixOf (map (bytes_of (node_word a)) (delivered_at members b a own theirs Broadcast)) ps) (put_for members air a b theirs own)
    (subst (λ ps. IsPrefixOf ps ((caster_at members air a).put (node_word b) theirs own)) (given_for members air a b own theirs) packets))

-- what was delivered in a flow is nothing, or was delivered between two nodes
promise : (members : List (Option MemberState)) (air : AirState) (a b own theirs : ℕ) (flow : Flow) → IsSound members air → AreCasting members air
    → IsPrefixOf (delivered_at members b a own theirs flow) (accepted_at members a b theirs own flow)
promise members air a b own theirs flow h casts = case (delivered_at members b a own theirs flow) refl
  where
    between : (flow : Flow) → IsBetween b a own theirs → IsPrefixOf (delivered_at members b a own theirs flow) (accepted_at members a b theirs own flow)
    between Zero numbers = zero_between members air a b own theirs h numbers
    between One numbers = subst (λ ds. IsPrefixOf ds (accepted_at members a b theirs own One)) (sym (h.no_flow_one b a own theirs).1) (no_message (accepted_at members a b theirs own One))
    between Broadcast numbers = cast_between members air a b own theirs h casts numbers

    case : (ds : List Message) → delivered_at members b a own theirs flow ≡ ds → IsPrefixOf (delivered_at members b a own theirs flow) (accepted_at members a b theirs own flow)
    case [] none = subst (λ ds. IsPrefixOf ds (accepted_at members a b theirs own flow)) (sym none) (no_message (accepted_at members a b theirs own flow))
    case (d ∷ ds) some = between flow (h.nothing b a own theirs flow (λ none. (let wrong : ⊥ = cc in wrong)))

pub is_replayed : (members : List (Option MemberState)) (air : AirState) → IsSteady members air → IsReplayed members air
is_replayed members air w =
    let h = w.sound in
    let all = w.watched in
    let shared = w.shared in record {
      numbered = h.numbered;
      prefix = λ a b a_number b_number flow. promise members air a b b_number a_number flow h w.casts;
      entered = λ a b a_number b_number flow some. both_entered members air a b a_number b_number flow (λ n m there. (all n m there).lawful) (promise members air a b b_number a_number flow h w.casts) some;
      fresh = numbers_rise members shared;
      received = w.received;
      spelled = λ n m there k journal is i s at place peer numbers flow message by stands. ((((all n m there).lawful k journal is).steps_are i s at).entries place (entry.Delivered peer numbers flow message by) stands).1;
      frames = frame_is_true members air h;
      truth = truth_is members air h;
      casts = λ a number. casts_are_true (caster_at members air a) (members_of members air a) (w.casts a number).seen;
      lawful = λ n m there. (all n m there).lawful;
      told = journals_tell members shared;
      tables = tables_agree members air h shared (λ a b own theirs. promise members air a b own theirs Zero h w.casts);
      answered = w.answered;
      ends = w.ends;
      low = all_low members w.ends w.numbers w.bounded;
      originals = w.originals;
    }

-- where no nodes are
pub start_steady : IsSteady [] empty_air
start_steady = record {
  sound = start_sound;
  watched = start_watched;
  shared = start_shared;
  answered = start_answered;
  received = start_received;
  met = start_met start_sound;
  plain = start_plain;
  aged = start_aged;
  casts = start_casting;
  cast_links = start_cast;
  ends = start_right;
  bounded = start_bounded;
  numbers = start_numbers;
  packed = start_packed;
  originals = start_named;
}

pub start_replayed : IsReplayed [] empty_air
start_replayed = is_replayed [] empty_air start_steady
