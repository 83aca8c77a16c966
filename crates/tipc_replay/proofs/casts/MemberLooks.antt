-- How a node looks as a member of another one's broadcast, by what it keeps itself; and what it may be given of it.
use Rattle.std.specs.Prelude.{option_map}
use Rattle.std.proofs.Common.{◌≡◌, ◌≢◌, ◌∙◌, ℕ, List, Option, Some, map, refl, sym, ap, subst, arith}
use Rattle.tipc_types.specs.Address.{node_word}
use Rattle.tipc_types.specs.declared.message_forms.Flow.TheVariants.{Broadcast}
use Rattle.tipc_broadcast.specs.Casting.{Casting}
use Rattle.tipc_broadcast.specs.Contacts.{contact_with}
use Rattle.tipc_casters.specs.Views.{IsOther, MemberView}
use Rattle.tipc_journal.specs.Streams.{delivered}
use Rattle.tipc_pair.specs.Facing.{contact_between}
use Rattle.tipc_node.specs.Messages.{bytes_of}
use Rattle.tipc_node.specs.Nodes.{kept, pair_with}
use Rattle.tipc_node.specs.Turns.{addr_of}
use Rattle.tipc_replay.specs.Air.{number_of_node}
use Rattle.tipc_replay.specs.Casters.{caster_at, casting_at, heard_contact, heard_of_caster, member_of_caster, members_of, told_to_caster}
use Rattle.tipc_replay.specs.Met.{contacts_entered}
use Rattle.tipc_replay.specs.Skies.{AirState}
use Rattle.tipc_replay.specs.Sound.{IsNumber}
use Rattle.tipc_replay.specs.States.{MemberState, accepted_at, cast_count_at, delivered_at, history, member_at, stream_of}
use Rattle.tipc_replay.proofs.LookUps.{history_at-is}
use Rattle.tipc_replay.proofs.casts.CasterLooks.{begun_at-is, casting_at-is, contact_at-is}
use Rattle.tipc_replay.proofs.frames.Ages.{number_is}

-- node n as a member of node a, in this air
pub record IsMemberOf (w : MemberView) (air : AirState) (a n : ℕ) (m : MemberState) : Type 0 where
  pub at : w.at ≡ option_map heard_contact (contact_between (pair_with m.node a))
  pub entered : w.entered ≡ map heard_contact (contacts_entered (history m) (addr_of a))
  pub heard : w.heard ≡ contact_with (node_word a) m.node.casting.contacts
  pub given : (own theirs : ℕ) → w.given own theirs ≡ map (bytes_of (node_word a)) (delivered (history m) (stream_of a theirs own Broadcast))
  pub begun : w.begun ≡ (kept m.node a).casts
  pub told : w.told ≡ told_to_caster air n a
  pub hears : w.hears ≡ heard_of_caster air a n

member_looks_so : (members : List (Option MemberState)) (air : AirState) (a n : ℕ) (m : MemberState) → member_at members n ≡ Some m → IsMemberOf (member_of_caster members air a n) air a n m
unfolding member_of_caster delivered_at
member_looks_so members air a n m is = record {
  at = ap (option_map heard_contact) (contact_at-is members n a m is);
  entered = ap (λ es. map heard_contact (contacts_entered es (addr_of a))) (history_at-is members n m is);
  heard = ap (λ (v : Casting). contact_with (node_word a) v.contacts) (casting_at-is members n m is);
  given = λ own theirs. ap (λ es. map (bytes_of (node_word a)) (delivered es (stream_of a theirs own Broadcast))) (history_at-is members n m is);
  begun = begun_at-is members n a m is;
  told = refl;
  hears = refl;
}

-- under its address word
pub word_is : (n : ℕ) → number_of_node (node_word n) ≡ n
word_is n = number_is (node_word n) n refl

pub member_looks : (members : List (Option MemberState)) (air : AirState) (a n : ℕ) (m : MemberState) → member_at members n ≡ Some m → IsMemberOf (members_of members air a (node_word n)) air a n m
member_looks members air a n m is = subst (λ k. IsMemberOf (member_of_caster members air a k) air a n m) (sym (word_is n)) (member_looks_so members air a n m is)

-- the caster
pub put_for : (members : List (Option MemberState)) (air : AirState) (a n own theirs : ℕ) → (caster_at members air a).put (node_word n) own theirs ≡ map (bytes_of (node_word a)) (accepted_at members a n own theirs Broadcast)
unfolding caster_at
put_for members air a n own theirs = ap (λ k. map (bytes_of (node_word a)) (accepted_at members a k own theirs Broadcast)) (word_is n)

pub numbered_at : (members : List (Option MemberState)) (air : AirState) (a boot : ℕ) → (caster_at members air a).numbered boot ≡ cast_count_at members a boot
unfolding caster_at
numbered_at members air a boot = refl

pub casting_of : (members : List (Option MemberState)) (air : AirState) (a : ℕ) → (caster_at members air a).casting ≡ casting_at members a
unfolding caster_at
casting_of members air a = refl

-- another node is one of its members
pub is_member : (members : List (Option MemberState)) (air : AirState) (a n : ℕ) → (casting_at members a).own ≡ node_word a → IsNumber n → a ≢ n → IsOther (caster_at members air a) (node_word n)
is_member members air a n own number apart = (
  (let low = number.0 in let high = number.1 in (omega (arith, low), omega (arith, high))),
  λ same. (let is = same ∙ ap (λ (v : Casting). v.own) (casting_of members air a) ∙ own in apart (omega (arith, is))),
)
