-- A node of a world as a caster, and every other one as its member.
use Rattle.std.specs.Prelude.{◌==◌, ◌&&◌, ◌++◌, ℕ, if◌then◌else◌, List, Option, Some, None, map, option_map, unwrap_or}
use Rattle.std.specs.List.{filter_map}
use Rattle.tipc_types.specs.Address.{node_word}
use Rattle.tipc_types.specs.declared.message_forms.Flow.TheVariants.{Broadcast}
use Rattle.tipc_header.specs.Frames.{kind_in}
use Rattle.tipc_fragments.specs.Joining.{fresh, Joining}
use Rattle.tipc_broadcast.specs.Casting.{booted, Casting}
use Rattle.tipc_broadcast.specs.Contacts.{contact_with}
use Rattle.tipc_casters.specs.Sights.{Aired, contact_of, Told}
use Rattle.tipc_casters.specs.Views.{CasterView, MemberView}
use Rattle.tipc_node.specs.Messages.{bytes_of}
use Rattle.tipc_node.specs.Nodes.{kept}
use Rattle.tipc_node.specs.Turns.{addr_of, is_casts, is_to}
use Rattle.tipc_replay.specs.declared.air.Sent.{Sent}
use Rattle.tipc_replay.specs.Air.{number_of_node}
use Rattle.tipc_replay.specs.Heard.{state_in}
use Rattle.tipc_replay.specs.Met.{contacts_entered}
use Rattle.tipc_replay.specs.Skies.{AirState}
use Rattle.tipc_replay.specs.States.{MemberState, accepted_at, cast_count_at, contact_at, delivered_at, history_at, member_at}

-- ---- contacts

-- a contact by the caster's numbers, and by the member's
abbrev pub cast_contact : ℕ × ℕ → ℕ
cast_contact numbers = contact_of numbers.0 numbers.1

abbrev pub heard_contact : ℕ × ℕ → ℕ
heard_contact numbers = contact_of numbers.1 numbers.0

-- ---- what a node keeps

-- its broadcast link; a node that isn't there counts as one that has just begun its first boot
unfoldable pub casting_at : List (Option MemberState) → ℕ → Casting
casting_at members n = unwrap_or (option_map (λ m. m.node.casting) (member_at members n)) (booted (node_word n) 1)

-- the message that is begun at node n of the broadcast of node b
unfoldable pub casts_begun_at : List (Option MemberState) → ℕ → ℕ → Joining
casts_begun_at members n b = unwrap_or (option_map (λ m. (kept m.node b).casts) (member_at members n)) fresh

-- ---- frames in the air

-- a broadcast frame of node a, as it left on a bearer
abbrev pub cast_in : ℕ → ℕ → Sent → Option Aired
cast_in a bearer f =
    if (f.from.word == node_word a) && is_casts (kind_in f.frame)
    then Some (record { frame = record { bearer = bearer; to = f.to; frame = f.frame }; stamp = f.casts }) else None

-- what is told of frames, by the bearer of each: that of both bearers
abbrev pub listed : {T : Type 0} → (ℕ → Sent → Option T) → AirState → List T
listed told air = filter_map (told 0) air.first ++ filter_map (told 1) air.second

-- every one that it sent
unfoldable pub casts_from : AirState → ℕ → List Aired
casts_from air a = listed (cast_in a) air

-- a STATE from node m to node a, of which a is the caster
abbrev pub state_told : ℕ → ℕ → Sent → Option Told
state_told m a f =
    if (f.from.word == node_word m) && is_to a f.to
    then option_map (λ seen. record { contact = heard_contact f.contact; stamp = f.peer_casts; seen = seen }) (state_in f.frame) else None

-- a STATE from node a, the caster, to node m
abbrev pub state_heard : ℕ → ℕ → Sent → Option Told
state_heard a m f =
    if (f.from.word == node_word a) && is_to m f.to
    then option_map (λ seen. record { contact = cast_contact f.contact; stamp = f.casts; seen = seen }) (state_in f.frame) else None

-- those on both bearers
unfoldable pub told_to_caster : AirState → ℕ → ℕ → List Told
told_to_caster air m a = listed (λ bearer. state_told m a) air

unfoldable pub heard_of_caster : AirState → ℕ → ℕ → List Told
heard_of_caster air a m = listed (λ bearer. state_heard a m) air

-- ---- as a world tells of them

-- node a; members are named by their address words
unfoldable pub caster_at : List (Option MemberState) → AirState → ℕ → CasterView
caster_at members air a = record {
  casting = casting_at members a;
  numbered = cast_count_at members a;
  joined = λ word. option_map cast_contact (contact_at members a (number_of_node word));
  entered = λ word. map cast_contact (contacts_entered (history_at members a) (addr_of (number_of_node word)));
  put = λ word own theirs. map (bytes_of (node_word a)) (accepted_at members a (number_of_node word) own theirs Broadcast);
  sent = casts_from air a;
}

-- node m as a member of node a
unfoldable pub member_of_caster : List (Option MemberState) → AirState → ℕ → ℕ → MemberView
member_of_caster members air a m = record {
  at = option_map heard_contact (contact_at members m a);
  entered = map heard_contact (contacts_entered (history_at members m) (addr_of a));
  heard = contact_with (node_word a) (casting_at members m).contacts;
  given = λ own theirs. map (bytes_of (node_word a)) (delivered_at members m a theirs own Broadcast);
  begun = casts_begun_at members m a;
  told = told_to_caster air m a;
  hears = heard_of_caster air a m;
}

-- all members of node a, by their address words
abbrev pub members_of : List (Option MemberState) → AirState → ℕ → ℕ → MemberView
members_of members air a word = member_of_caster members air a (number_of_node word)
