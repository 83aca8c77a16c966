-- What leaves since a moment of a call stands in the air beside counts that are no less than those of that moment.
use Rattle.std.proofs.Common.{◌≡◌, ◌≢◌, ◌≤◌, ◌+◌, ◌<◌, ◌^◌, ◌∙◌, ℕ, true, List, Some, None, length, slice_index_or, is_some, eqb-true, refl, sym, ap, subst, arith}
use Rattle.std.specs.Prelude.{◌==◌, slice_get}
use Rattle.std.specs.List.{All}
use Rattle.std.proofs.lemmas.Bool.{and_parts}
use Rattle.tipc_types.specs.Address.{node_word}
use Rattle.tipc_types.specs.declared.identity.To.TheVariants as to
use Rattle.tipc_outside.specs.declared.outgoing.Outgoing.{Outgoing}
use Rattle.tipc_header.specs.declared.frames.FrameKind.TheVariants.{Casts, Finds}
use Rattle.tipc_header.specs.Frames.{first_of, is_of_link, kind_in}
use Rattle.tipc_broadcast.specs.Casting.{Casting, accepted}
use Rattle.tipc_paired.specs.Views.{er_of, es_of}
use Rattle.tipc_node.specs.Nodes.{NodeState}
use Rattle.tipc_node.specs.Turns.{IsRouted, is_out_to, is_to}
use Rattle.tipc_node.specs.Turns.IsRouted.{of_broadcast, of_discovery, on_link}
use Rattle.tipc_node.proofs.turns.Discovery.{discovery_kind}
use Rattle.tipc_replay.specs.declared.air.Sent.{Sent}
use Rattle.tipc_replay.specs.Air.{airborne, goes, receiver_of}
use Rattle.tipc_replay.specs.Casters.{caster_at, casting_at}
use Rattle.tipc_replay.specs.Sound.{IsNumber}
use Rattle.tipc_replay.specs.States.{MemberState, boot_at, cast_count_at, contact_at, count_at}
use Rattle.tipc_replay.proofs.InLists.{all_at}
use Rattle.tipc_replay.proofs.LookUps.{boot_at-is, member_at-is}
use Rattle.tipc_replay.proofs.casts.CasterLooks.{cast_count_at-is, casting_at-is, count_present}
use Rattle.tipc_replay.proofs.frames.Emissions.{receiver_is}
use Rattle.tipc_world.specs.CalmWorlds.{IsCalmWorld, IsFromMended}
use Rattle.tipc_world.specs.RoundParts.{EachNode, IsKept}
use Rattle.tipc_world.specs.States.{WorldState, is_there}
use Rattle.tipc_world.specs.StillWorlds.{footing_at}
use Rattle.tipc_world.specs.YoungWorlds.{CastsNothing, IsCastSince, IsCountedSince, IsSince, NumbersFew, casts_at, link_count}
use Rattle.tipc_world.proofs.rounds.Pacing.{IsPaced}
use Rattle.tipc_world.proofs.rounds.StillWorlds.{node_number}
use Rattle.tipc_world.proofs.rounds.UpLinks.{the_member}

-- ---- broadcast links

-- at most 246 packets wait on a broadcast link
few_wait : (w : WorldState) (n : ℕ) → IsKept w → IsNumber n → casts_at w n ≤ (casting_at w.members n).sending.numbered + 246
unfolding caster_at
few_wait w n kept number =
    let seen = (kept.nodes.casts n number).seen in
    let few = seen.cast.caster.casting.few in
    let waits : length seen.caster_sight.casting.sending.waiting ≡ length (casting_at w.members n).sending.waiting = ap (λ (v : Casting). length v.sending.waiting) seen.caster.casting in
    omega (arith, few, waits)

-- how many numbers it used in the present boot of its node
pub numbers_used : (w : WorldState) (n boot : ℕ) (m : MemberState) → slice_index_or w.members n None ≡ Some m → boot ≡ boot_at w.members n → cast_count_at w.members n boot ≡ (casting_at w.members n).sending.numbered
numbers_used w n boot m there present =
    let at = member_at-is w.members n m there in
    cast_count_at-is w.members n boot m at ∙ (count_present m boot (present ∙ boot_at-is w.members n m at) ∙ ap (λ (v : Casting). v.sending.numbered) (sym (casting_at-is w.members n m at)))

-- nothing was accepted
pub casts_nothing : (start base w : WorldState) → EachNode (IsPaced start base) w → CastsNothing start w
casts_nothing start base w paced n here =
    let m = the_member (slice_index_or w.members n None) here in
    ap (λ (v : Casting). accepted v.sending) (casting_at-is w.members n m.0 (member_at-is w.members n m.0 m.1)) ∙ (paced n m.0 m.1).casts

-- what stands beside a frame of a node's broadcast
pub cast_beside : (start w : WorldState) (n : ℕ) → IsKept w → CastsNothing start w → is_there w n ≡ true → IsNumber n → casts_at start n ≤ cast_count_at w.members n (boot_at w.members n) + 246
cast_beside start w n kept casts here number =
    let m = the_member (slice_index_or w.members n None) here in
    let few = few_wait w n kept number in
    let used = numbers_used w n (boot_at w.members n) m.0 m.1 refl in
    let same = casts n here in
    omega (arith, few, used, same)

-- ---- what a frame is

-- a broadcast frame is of the node's boot
boot_of_cast : (n : NodeState) (o : Outgoing) → n.own < 2 ^ 32 → IsRouted n o → o.to ≡ to.All → kind_in o.frame ≡ Casts → first_of o.frame ≡ n.boot
boot_of_cast n o fits (on_link r) all kind = absurd (let wrong : to.All ≡ to.Node _ = sym all ∙ r.to_is in cc)
boot_of_cast n o fits (of_discovery r) all kind = absurd (let wrong : Finds ≡ Casts = sym (ap kind_in r.frame_is ∙ discovery_kind n.own n.boot r.form fits) ∙ kind in cc)
boot_of_cast n o fits (of_broadcast r) all kind = r.first_is

same_node : (a b : ℕ) → node_word a ≡ node_word b → a ≡ b
same_node a b words = omega (arith, words)

-- ---- what leaves

-- What leaves node n as the world becomes new.
counted_since : (start base old new : WorldState) (n : ℕ) (o : Outgoing) (a b : ℕ) → NumbersFew start base new 50 → IsFromMended start o.bearer (airborne (contact_at old.members n) new.members n o) → o.bearer ≤ 1 → IsNumber a → IsNumber b → a ≢ b
    → goes a b (airborne (contact_at old.members n) new.members n o) ≡ true → IsCountedSince start base o.bearer (airborne (contact_at old.members n) new.members n o) a b
counted_since start base old new n o a b few said on_one a_is b_is apart goes_to =
    let both = and_parts (node_word n == node_word a) (is_out_to b o) goes_to in
    let one : n ≡ a = same_node n a (eqb-true (node_word n) (node_word a) both.0) in
    let to_it = receiver_is b o.to (and_parts (is_to b o.to) (is_of_link o.frame) both.1).0 in
    let under : es_of o.frame ≡ (footing_at start a b).epoch o.bearer = (said a b a_is b_is apart goes_to).present.epoch in
    let own_count : count_at new.members n (receiver_of o.to) o.bearer (es_of o.frame) ≡ link_count start new a b o.bearer =
    ap (λ k. count_at new.members k (receiver_of o.to) o.bearer (es_of o.frame)) one ∙ (ap (λ k. count_at new.members a k o.bearer (es_of o.frame)) to_it ∙ ap (count_at new.members a b o.bearer) under) in
    let peer_count : count_at new.members (receiver_of o.to) n o.bearer (er_of o.frame) ≡ count_at new.members b a o.bearer (er_of o.frame) =
    ap (λ k. count_at new.members (receiver_of o.to) k o.bearer (er_of o.frame)) one ∙ ap (λ k. count_at new.members k a o.bearer (er_of o.frame)) to_it in
    record {
      own = λ up. (let more = few.more a b o.bearer a_is b_is apart on_one up in omega (arith, more, own_count));
      peer = λ named up. (
          let more = few.more b a o.bearer b_is a_is (λ same. apart (sym same)) on_one up in
          let count : count_at new.members b a o.bearer (er_of o.frame) ≡ link_count start new b a o.bearer = ap (count_at new.members b a o.bearer) named in
          omega (arith, more, peer_count, count));
    }

cast_since : (start old new : WorldState) (n : ℕ) (m' : MemberState) (o : Outgoing) → IsKept new → IsCalmWorld start new → CastsNothing start new → slice_index_or new.members n None ≡ Some m' → IsRouted m'.node o
    → IsCastSince start (airborne (contact_at old.members n) new.members n o)
cast_since start old new n m' o kept g casts there routed =
    let number = node_number new n m' kept there in
    let own = (kept.nodes.sound.numbered n m' there).1 in
    let low = number.1 in
    record {
      boot = λ a word all kind. (
          let one : n ≡ a = same_node n a word in
          let boot = boot_of_cast m'.node o (omega (arith, own, low)) routed all kind in
          let present = boot_at-is new.members n m' (member_at-is new.members n m' there) in
          boot ∙ (sym present ∙ (g.on.boots n ∙ ap (boot_at start.members) one)));
      own = λ a word. (
          let one : n ≡ a = same_node n a word in
          let beside = cast_beside start new n kept casts (ap is_some there) number in
          subst (λ k. casts_at start k ≤ cast_count_at new.members n (boot_at new.members n) + 246) one beside);
      peer_boot = λ b to_it. ap (boot_at new.members) (receiver_is b o.to to_it) ∙ g.on.boots b;
      peer = λ b here to_it. (
          let m = the_member (slice_index_or new.members b None) (g.on.nodes b ∙ here) in
          let beside = cast_beside start new b kept casts (ap is_some m.1) (node_number new b m.0 kept m.1) in
          subst (λ k. casts_at start b ≤ cast_count_at new.members k (boot_at new.members k) + 246) (sym (receiver_is b o.to to_it)) beside);
    }

pub sent_since : (start base old new : WorldState) (n : ℕ) (m' : MemberState) (frames : List Outgoing) → IsKept new → IsCalmWorld start new → NumbersFew start base new 50 → CastsNothing start new → slice_index_or new.members n None ≡ Some m'
    → All (IsRouted m'.node) frames → ((k : ℕ) (o : Outgoing) → slice_get frames k ≡ Some o → IsFromMended start o.bearer (airborne (contact_at old.members n) new.members n o))
    → (k : ℕ) (o : Outgoing) → slice_get frames k ≡ Some o → IsSince start base o.bearer (airborne (contact_at old.members n) new.members n o)
sent_since start base old new n m' frames kept g few casts there routed said k o at = record {
  links = λ a b on_one a_is b_is apart goes_to. counted_since start base old new n o a b few (said k o at) on_one a_is b_is apart goes_to;
  casts = cast_since start old new n m' o kept g casts there (all_at (IsRouted m'.node) frames k o routed at);
}

-- what was sent since a moment was sent since an earlier one
pub since_earlier : (start first base : WorldState) (bearer : ℕ) (f : Sent) (most : ℕ) → NumbersFew start first base most → IsSince start base bearer f → IsSince start first bearer f
since_earlier start first base bearer f most few h = record {
  links = λ a b on_one a_is b_is apart goes_to. (
      let c = h.links a b on_one a_is b_is apart goes_to in
      record {
        own = λ up. (let more = few.more a b bearer a_is b_is apart on_one up in let own = c.own up in omega (arith, more, own));
        peer = λ named up. (let more = few.more b a bearer b_is a_is (λ same. apart (sym same)) on_one up in let peer = c.peer named up in omega (arith, more, peer));
      });
  casts = h.casts;
}
