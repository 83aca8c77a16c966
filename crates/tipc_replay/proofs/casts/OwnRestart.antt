-- A node that is restarted stays a caster, in its next boot.
use Rattle.std.specs.Prelude.{option_map, slice_get, take}
use Rattle.std.proofs.Common.{◌≡◌, ◌<◌, ◌+◌, ◌^◌, ◌==◌, ◌∙◌, ℕ, Bool, if◌then◌else◌, List, [], Option, Some, None, map, sym, ap, subst, arith}
use Rattle.std.proofs.lemmas.List.Elements.{All-nil}
use Rattle.std.proofs.Math.Seq.{take-nil}
use Rattle.tipc_types.specs.Address.{node_word}
use Rattle.tipc_types.specs.declared.message_forms.Flow.TheVariants.{Broadcast}
use Rattle.tipc_outside.specs.declared.outgoing.Outgoing.{Outgoing}
use Rattle.tipc_journal.specs.Streams.{accepted}
use Rattle.tipc_broadcast.specs.Casting.{Casting, booted}
use Rattle.tipc_broadcast_law.specs.Groups.{put}
use Rattle.tipc_casters.specs.Turns.{IsRight}
use Rattle.tipc_casters.specs.ViewLaws.{SameCaster, SameView}
use Rattle.tipc_casters.specs.Views.{AreCastSeen, CasterView, IsOther}
use Rattle.tipc_casters.proofs.CasterViews.{restarts_stays}
use Rattle.tipc_casters.proofs.MemberViews.{same_stays}
use Rattle.tipc_pair.specs.Facing.{contact_between}
use Rattle.tipc_node.specs.Messages.{bytes_of}
use Rattle.tipc_node.specs.Nodes.{NodeState, neighbour_of, pair_with}
use Rattle.tipc_node.specs.Turns.{addr_of}
use Rattle.tipc_node.proofs.pairs.Strangers.{pair_alone}
use Rattle.tipc_replay.specs.Air.{Leaves, number_of_node, with_leaving}
use Rattle.tipc_replay.specs.Castings.{IsCaster}
use Rattle.tipc_replay.specs.Casters.{cast_contact, caster_at, casting_at, casts_from, heard_of_caster, members_of, told_to_caster}
use Rattle.tipc_replay.specs.Members.{IsRestarted}
use Rattle.tipc_replay.specs.Met.{contacts_entered}
use Rattle.tipc_replay.specs.Skies.{AirState}
use Rattle.tipc_replay.specs.Sound.{IsNumber, IsSound}
use Rattle.tipc_replay.specs.States.{MemberState, accepted_at, cast_count_of, contact_at, history_at, member_at, stream_of}
use Rattle.tipc_replay.specs.Steps.{Stage, Turns}
use Rattle.tipc_replay.proofs.LookUps.{boot_at-is, history_at-is}
use Rattle.tipc_replay.proofs.casts.CasterLooks.{all_in, among_same, cast_count_at-is, casting_at-is, contact_at-is, delivered_at-same, same_member}
use Rattle.tipc_replay.proofs.casts.CastCounts.{count_then}
use Rattle.tipc_replay.proofs.casts.OwnGroup.{member_word}
use Rattle.tipc_replay.proofs.frames.Released.{came, with_none}
use Rattle.tipc_replay.proofs.pairs.Turning.{is_there, others_stay, was_there}
use Rattle.tipc_replay.proofs.streams.Histories.{history_restarted}

-- ---- a new broadcast link

pub booted_right : (n boot : ℕ) → IsNumber n → boot < 2 ^ 32 → IsRight (booted (node_word n) boot)
booted_right n boot number fits =
    let low = number.0 in
    let high = number.1 in
    record {
      window = record { window = omega arith; numbered = omega arith; counted = omega arith };
      casting = record {
        node = (omega (arith, low), omega (arith, high));
        few = omega arith;
        unacked = All-nil _;
        waiting = All-nil _;
        short_unacked = All-nil _;
        short_waiting = All-nil _;
        contacts = All-nil _;
      };
      boot = fits;
    }

-- a node that knows nobody is in no contact
pub alone_out : (k : NodeState) (b : ℕ) → neighbour_of k b ≡ None → contact_between (pair_with k b) ≡ None
alone_out k b none = ap contact_between (pair_alone k b none)

-- ---- the node after it

-- nothing left
air_still : (old new : AirState) (met : ℕ → Option (ℕ × ℕ)) (members : List (Option MemberState)) (a : ℕ) (frames : List Outgoing) (lost : Bool) → Leaves old new met members a frames lost → frames ≡ [] → new ≡ old
air_still old new met members a frames lost l none =
    let front = came old new met members a frames lost l in
    front.1 ∙ ap (λ fs. with_leaving old met members a (take front.0 fs)) none ∙ ap (with_leaving old met members a) (take-nil front.0) ∙ with_none old met members a

-- the caster in its next boot, as the law has it
abbrev again_at : CasterView → CasterView
again_at v = record v { casting = booted v.casting.own (v.casting.boot + 1); numbered = put (v.casting.boot + 1) 0 v.numbered; joined = λ word. None }

module _ (old new : Stage) (n : ℕ) (before after : MemberState) (frames : List Outgoing) (lost : Bool) (sound : IsSound old.members old.air) (t : Turns old new n before after frames lost)
    (r : IsRestarted before after) (nothing : frames ≡ []) (fits : before.node.boot + 1 < 2 ^ 32) (c : IsCaster old.members old.air n) where
  was : member_at old.members n ≡ Some before
  was = was_there old new n before after frames lost t

  is : member_at new.members n ≡ Some after
  is = is_there old new n before after frames lost t

  number : IsNumber n
  number = (sound.numbered n before t.was).0

  own : before.node.own ≡ node_word n
  own = (sound.numbered n before t.was).1

  same_air : new.air ≡ old.air
  same_air = air_still old.air new.air (contact_at old.members n) new.members n frames lost t.leaves nothing

  entries : history_at new.members n ≡ history_at old.members n
  entries = history_at-is new.members n after is ∙ history_restarted before after r ∙ sym (history_at-is old.members n before was)

  boot : (casting_at old.members n).boot ≡ before.node.boot
  boot = c.boot ∙ boot_at-is old.members n before was

  again : AreCastSeen (again_at (caster_at old.members old.air n)) (members_of old.members old.air n)
  unfolding caster_at
  again = restarts_stays (caster_at old.members old.air n) (members_of old.members old.air n) c.seen
      (subst (λ w. IsRight (booted w ((casting_at old.members n).boot + 1))) (sym c.own) (booted_right n ((casting_at old.members n).boot + 1) number (subst (λ k. k + 1 < 2 ^ 32) (sym boot) fits)))

  as_caster : SameCaster (again_at (caster_at old.members old.air n)) (caster_at new.members new.air n)
  unfolding caster_at accepted_at
  as_caster = record {
    casting = casting_at-is new.members n after is ∙ r.node.casting ∙ (λ i. booted ((own ∙ sym c.own) i) (sym boot i + 1));
    numbered = λ f. cast_count_at-is new.members n f after is ∙ count_then before after f r
        ∙ ap (λ k. if f == k + 1 then 0 else cast_count_of before f) (sym boot) ∙ ap (λ k. if f == (casting_at old.members n).boot + 1 then 0 else k) (sym (cast_count_at-is old.members n f before was));
    joined = λ word other. ap (option_map cast_contact) (contact_at-is new.members n (number_of_node word) after is ∙ alone_out after.node (number_of_node word) (r.node.alone (number_of_node word)));
    entered = λ word. all_in _ _ (ap (λ es. map cast_contact (contacts_entered es (addr_of (number_of_node word)))) (sym entries));
    put = λ word mine theirs. ap (λ es. map (bytes_of (node_word n)) (accepted es (stream_of (number_of_node word) mine theirs Broadcast))) entries;
    sent = among_same (casts_from old.air n) (casts_from new.air n) (ap (λ (air : AirState). casts_from air n) same_air);
  }

  as_member : (word : ℕ) → IsOther (again_at (caster_at old.members old.air n)) word → SameView (members_of old.members old.air n word) (members_of new.members new.air n word)
  unfolding caster_at
  as_member word other =
      let b = number_of_node word in
      let k = member_word (again_at (caster_at old.members old.air n)) n word c.own other in
      same_member old.members new.members old.air new.air n b (others_stay old new n before after frames lost t b k.apart) (ap (λ (air : AirState). told_to_caster air b n) same_air) (ap (λ (air : AirState). heard_of_caster air n b) same_air)

  pub own_stays_restarted : IsCaster new.members new.air n
  own_stays_restarted = record {
    own = ap (λ (v : Casting). v.own) (casting_at-is new.members n after is ∙ r.node.casting) ∙ own;
    boot = ap (λ (v : Casting). v.boot) (casting_at-is new.members n after is ∙ r.node.casting) ∙ sym r.node.boot_is ∙ sym (boot_at-is new.members n after is);
    seen = same_stays (again_at (caster_at old.members old.air n)) (caster_at new.members new.air n) (members_of old.members old.air n) (members_of new.members new.air n) again as_caster as_member;
    delivered = λ b mine theirs k message b_is apart there. c.delivered b mine theirs k message b_is apart
        (ap (λ ms. slice_get ms k) (sym (delivered_at-same old.members new.members b n mine theirs Broadcast (others_stay old new n before after frames lost t b apart))) ∙ there);
  }
