-- What is looked up of a caster and of its members, in a world where one node has changed: those apart from it stay as they were.
use Rattle.std.proofs.Common.{◌≡◌, ◌≢◌, ◌==◌, ◌&&◌, ℕ, Bool, true, false, List, Option, Some, None, if◌then◌else◌, map, sym, ap, ◌∙◌, subst, arith}
use Rattle.std.specs.Prelude.{All, option_and_then, option_map, unwrap_or}
use Rattle.std.specs.List.{Contains}
use Rattle.std.proofs.lemmas.Bool.Decides.{nat_tests}
use Rattle.std.proofs.lemmas.List.Elements.{All-contains_itself, All-weaker}
use Rattle.tipc_types.specs.Address.{node_word}
use Rattle.tipc_types.specs.declared.message_forms.Flow.{Flow}
use Rattle.tipc_types.specs.declared.message_forms.Flow.TheVariants.{Broadcast}
use Rattle.tipc_outside.specs.declared.outgoing.Outgoing.{Outgoing}
use Rattle.tipc_journal.specs.Streams.{accepted, delivered}
use Rattle.tipc_fragments.specs.Joining.{fresh}
use Rattle.tipc_broadcast.specs.Casting.{booted, Casting}
use Rattle.tipc_broadcast.specs.Contacts.{contact_with}
use Rattle.tipc_casters.specs.Sights.{Aired}
use Rattle.tipc_casters.specs.ViewLaws.{SameCaster, SameView}
use Rattle.tipc_casters.specs.Views.{IsAmongSent}
use Rattle.tipc_pair.specs.Facing.{contact_between}
use Rattle.tipc_node.specs.Messages.{bytes_of}
use Rattle.tipc_node.specs.Nodes.{kept, pair_with}
use Rattle.tipc_node.specs.Turns.{addr_of}
use Rattle.tipc_replay.specs.Air.{Leaves, airborne, number_of_node}
use Rattle.tipc_replay.specs.Casters.{cast_contact, cast_in, caster_at, casting_at, casts_begun_at, casts_from, heard_contact, heard_of_caster, member_of_caster, state_heard, state_told, told_to_caster}
use Rattle.tipc_replay.specs.Met.{contacts_entered}
use Rattle.tipc_replay.specs.Skies.{AirState}
use Rattle.tipc_replay.specs.States.{MemberState, accepted_at, cast_count_at, cast_count_of, casts_noted, contact_at, delivered_at, member_at, stream_of}
use Rattle.tipc_replay.proofs.LookUps.{history_at-same, pair_at-is, pair_at-same}
use Rattle.tipc_replay.proofs.casts.Listing.{listed_still}
use Rattle.tipc_replay.proofs.pairs.Pairings.{contact_read}

-- ---- of one node

pub casting_at-is : (members : List (Option MemberState)) (n : ℕ) (m : MemberState) → member_at members n ≡ Some m → casting_at members n ≡ m.node.casting
unfolding casting_at
casting_at-is members n m is = ap (λ o. unwrap_or (option_map (λ (x : MemberState). x.node.casting) o) (booted (node_word n) 1)) is

pub casting_at-same : (members members' : List (Option MemberState)) (n : ℕ) → member_at members' n ≡ member_at members n → casting_at members' n ≡ casting_at members n
unfolding casting_at
casting_at-same members members' n is = ap (λ o. unwrap_or (option_map (λ (x : MemberState). x.node.casting) o) (booted (node_word n) 1)) is

pub begun_at-is : (members : List (Option MemberState)) (n b : ℕ) (m : MemberState) → member_at members n ≡ Some m → casts_begun_at members n b ≡ (kept m.node b).casts
unfolding casts_begun_at
begun_at-is members n b m is = ap (λ o. unwrap_or (option_map (λ (x : MemberState). (kept x.node b).casts) o) fresh) is

pub begun_at-same : (members members' : List (Option MemberState)) (n b : ℕ) → member_at members' n ≡ member_at members n → casts_begun_at members' n b ≡ casts_begun_at members n b
unfolding casts_begun_at
begun_at-same members members' n b is = ap (λ o. unwrap_or (option_map (λ (x : MemberState). (kept x.node b).casts) o) fresh) is

pub cast_count_at-is : (members : List (Option MemberState)) (n boot : ℕ) (m : MemberState) → member_at members n ≡ Some m → cast_count_at members n boot ≡ cast_count_of m boot
unfolding cast_count_at
cast_count_at-is members n boot m is = ap (λ o. unwrap_or (option_map (λ (x : MemberState). cast_count_of x boot) o) 0) is

-- it is that of the present boot, or was noted
pub count_noted : (k : MemberState) (boot : ℕ) → (boot ≡ k.node.boot → ⊥) → cast_count_of k boot ≡ casts_noted k.casts boot
unfolding cast_count_of
count_noted k boot other = (let no : (boot == k.node.boot) ≡ false = grind (arith, nat_tests, other) in ap (λ b. if b then k.node.casting.sending.numbered else casts_noted k.casts boot) no)

pub count_present : (k : MemberState) (boot : ℕ) → boot ≡ k.node.boot → cast_count_of k boot ≡ k.node.casting.sending.numbered
unfolding cast_count_of
count_present k boot is = (let yes : (boot == k.node.boot) ≡ true = grind (arith, nat_tests, is) in ap (λ b. if b then k.node.casting.sending.numbered else casts_noted k.casts boot) yes)

pub cast_count_at-same : (members members' : List (Option MemberState)) (n boot : ℕ) → member_at members' n ≡ member_at members n → cast_count_at members' n boot ≡ cast_count_at members n boot
unfolding cast_count_at
cast_count_at-same members members' n boot is = ap (λ o. unwrap_or (option_map (λ (x : MemberState). cast_count_of x boot) o) 0) is

pub contact_at-is : (members : List (Option MemberState)) (a b : ℕ) (m : MemberState) → member_at members a ≡ Some m → contact_at members a b ≡ contact_between (pair_with m.node b)
unfolding contact_at
contact_at-is members a b m is = ap (option_and_then contact_between) (pair_at-is members a b m is) ∙ contact_read m.node b

pub contact_at-same : (members members' : List (Option MemberState)) (a b : ℕ) → member_at members' a ≡ member_at members a → contact_at members' a b ≡ contact_at members a b
unfolding contact_at
contact_at-same members members' a b is = ap (option_and_then contact_between) (pair_at-same members members' a b is)

pub accepted_at-same : (members members' : List (Option MemberState)) (a b own theirs : ℕ) (flow : Flow) → member_at members' a ≡ member_at members a → accepted_at members' a b own theirs flow ≡ accepted_at members a b own theirs flow
unfolding accepted_at
accepted_at-same members members' a b own theirs flow is = ap (λ es. accepted es (stream_of b own theirs flow)) (history_at-same members members' a is)

pub delivered_at-same : (members members' : List (Option MemberState)) (b a own theirs : ℕ) (flow : Flow) → member_at members' b ≡ member_at members b → delivered_at members' b a own theirs flow ≡ delivered_at members b a own theirs flow
unfolding delivered_at
delivered_at-same members members' b a own theirs flow is = ap (λ es. delivered es (stream_of a own theirs flow)) (history_at-same members members' b is)

-- ---- the same lists

pub all_in : {A : Type 0} (xs ys : List A) → ys ≡ xs → All (Contains xs) ys
all_in xs ys same = subst (All (Contains xs)) (sym same) (All-contains_itself xs)

pub among_same : (xs ys : List Aired) → ys ≡ xs → All (IsAmongSent xs) ys
among_same xs ys same = All-weaker (Contains xs) (IsAmongSent xs) (λ (f : Aired) there. (f.stamp, there, omega arith)) ys (all_in xs ys same)

-- ---- a caster, and a member, that are the same

pub same_caster : (old new : List (Option MemberState)) (air air' : AirState) (a : ℕ) → member_at new a ≡ member_at old a → casts_from air' a ≡ casts_from air a → SameCaster (caster_at old air a) (caster_at new air' a)
unfolding caster_at
same_caster old new air air' a is sent = record {
  casting = casting_at-same old new a is;
  numbered = λ boot. cast_count_at-same old new a boot is;
  joined = λ word other. ap (option_map cast_contact) (contact_at-same old new a (number_of_node word) is);
  entered = λ word. all_in _ _ (ap (λ es. map cast_contact (contacts_entered es (addr_of (number_of_node word)))) (sym (history_at-same old new a is)));
  put = λ word own theirs. ap (map (bytes_of (node_word a))) (accepted_at-same old new a (number_of_node word) own theirs Broadcast is);
  sent = among_same (casts_from air a) (casts_from air' a) sent;
}

pub same_member : (old new : List (Option MemberState)) (air air' : AirState) (a m : ℕ) → member_at new m ≡ member_at old m → told_to_caster air' m a ≡ told_to_caster air m a → heard_of_caster air' a m ≡ heard_of_caster air a m
    → SameView (member_of_caster old air a m) (member_of_caster new air' a m)
unfolding member_of_caster
same_member old new air air' a m is told hears = record {
  at = ap (option_map heard_contact) (contact_at-same old new m a is);
  entered = all_in _ _ (ap (λ es. map heard_contact (contacts_entered es (addr_of a))) (sym (history_at-same old new m is)));
  heard = ap (λ (v : Casting). contact_with (node_word a) v.contacts) (casting_at-same old new m is);
  given = λ own theirs numbers. ap (map (bytes_of (node_word a))) (delivered_at-same old new m a theirs own Broadcast is);
  begun = begun_at-same old new m a is;
  told = all_in _ _ told;
  hears = all_in _ _ hears;
}

-- ---- what stays in the air

-- a frame of node n is none of another node
of_another : (met : ℕ → Option (ℕ × ℕ)) (members : List (Option MemberState)) (n a : ℕ) (o : Outgoing) → a ≢ n → ((airborne met members n o).from.word == node_word a) ≡ false
of_another met members n a o apart = grind (arith, nat_tests, apart)

none_of : {T : Type 0} (b c : Bool) (o : Option T) → b ≡ false → (if b && c then o else None) ≡ None
none_of b c o is = ap (λ x. if x && c then o else None) is

pub casts_still : (old new : AirState) (met : ℕ → Option (ℕ × ℕ)) (members : List (Option MemberState)) (n a : ℕ) (frames : List Outgoing) (lost : Bool) → Leaves old new met members n frames lost → a ≢ n → casts_from new a ≡ casts_from old a
unfolding casts_from
casts_still old new met members n a frames lost l apart = listed_still (cast_in a) old new met members n frames lost l (λ bearer o. none_of _ _ _ (of_another met members n a o apart))

pub told_still : (old new : AirState) (met : ℕ → Option (ℕ × ℕ)) (members : List (Option MemberState)) (n a m : ℕ) (frames : List Outgoing) (lost : Bool) → Leaves old new met members n frames lost → m ≢ n → told_to_caster new m a ≡ told_to_caster old m a
unfolding told_to_caster
told_still old new met members n a m frames lost l apart = listed_still (λ bearer. state_told m a) old new met members n frames lost l (λ bearer o. none_of _ _ _ (of_another met members n m o apart))

pub heard_still : (old new : AirState) (met : ℕ → Option (ℕ × ℕ)) (members : List (Option MemberState)) (n a m : ℕ) (frames : List Outgoing) (lost : Bool) → Leaves old new met members n frames lost → a ≢ n → heard_of_caster new a m ≡ heard_of_caster old a m
unfolding heard_of_caster
heard_still old new met members n a m frames lost l apart = listed_still (λ bearer. state_heard a m) old new met members n frames lost l (λ bearer o. none_of _ _ _ (of_another met members n a o apart))
