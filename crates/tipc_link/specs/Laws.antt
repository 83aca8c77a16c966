-- Two ends of a link in one session, with all that each numbered, took and sent: whatever happens at one of them, both directions
-- stay whole, and what was taken is a beginning of what the other end numbered.
use Rattle.std.specs.Prelude.{◌≡◌, ℕ, ◌+◌, Bool, false, List, [], ◌∷◌, ◌++◌, Some, map, take, slice_get, if◌then◌else◌}
use Rattle.tipc_types.specs.Position.{number_of}
use Rattle.tipc_types.specs.Prefixes.{IsPrefixOf}
use Rattle.tipc_types.specs.declared.packet_lists.Kept.{Kept}
use Rattle.tipc_types.specs.declared.packet_lists.Taken.{Taken}
use Rattle.tipc_link.specs.Sessions.{SessionEnd, Content, Shows, Carries, Nothing, IsPut, answered, arrival_moving, arrived, begun, brought, due_with, flushed, gap, heard, is_due, moving, after_acknowledgement, repeated, after_state}
use Rattle.tipc_send_window.specs.Sending.{room}
use Rattle.tipc_link.specs.Direction.{Flight, IsDirection, IsFlight, IsFresh, IsReceiver, packet_flight, state_flight}

-- one side: its end, every packet that it numbered, every packet that it took, and every frame that it sent
pub record Side : Type 0 where
  pub end : SessionEnd
  pub line : List (List ℕ)
  pub took : List (List ℕ)
  pub sent : List Flight

-- one direction, from a to b
pub record Reaches (a b : Side) : Type 0 where
  pub direction : IsDirection a.end.sending b.end.taken a.line
  pub receiver : IsReceiver b.end.held b.end.taken a.line
  pub took : b.took ≡ take b.end.taken a.line
  pub flights : (k : ℕ) (f : Flight) → slice_get a.sent k ≡ Some f → IsFlight a.end.sending.numbered a.end.taken b.end.sending.numbered a.line f

-- the two sides of a session: each direction is whole
pub record AreJoined (a b : Side) : Type 0 where
  pub there : Reaches a b
  pub back : Reaches b a

-- ---- frames

-- the frames of packets, the first of them behind the position `before`
abbrev pub packet_flights : ℕ → ℕ → ℕ → ℕ → List (List ℕ) → List Flight
packet_flights taken numbered peer_numbered before [] = []
packet_flights taken numbered peer_numbered before (packet ∷ packets) =
    packet_flight taken numbered peer_numbered (before + 1) packet ∷ packet_flights taken numbered peer_numbered (before + 1) packets

-- the frames that leave an end when waiting packets move up, where the peer has numbered so many packets
abbrev pub flush_flights : SessionEnd → ℕ → List Flight
flush_flights e peer_numbered = packet_flights e.taken (e.sending.numbered + room e.sending) peer_numbered e.sending.numbered (moving e)

-- the frame of a packet that is sent again
abbrev pub kept_flight : ℕ → ℕ → ℕ → Kept → Flight
kept_flight taken numbered peer_numbered k =
    record { acknowledgement = number_of taken; content = Carries k.number k.packet; numbered = numbered; peer_numbered = peer_numbered }

-- the frames that leave an end at an arrival
abbrev pub arrival_flights : SessionEnd → ℕ → ℕ → ℕ → Content → List Flight
arrival_flights e peer_numbered by acknowledgement Nothing = []
arrival_flights e peer_numbered by acknowledgement (Shows next gap probe) =
    map (kept_flight e.taken (arrived e by acknowledgement (Shows next gap probe)).sending.numbered peer_numbered) (repeated (after_acknowledgement e acknowledgement) acknowledgement gap)
    ++ flush_flights (heard e by acknowledgement (Shows next gap probe)) peer_numbered
arrival_flights e peer_numbered by acknowledgement (Carries number packet) = flush_flights (heard e by acknowledgement (Carries number packet)) peer_numbered

-- the packets that are taken at an arrival
abbrev pub taken_from : SessionEnd → ℕ → Content → List (List ℕ)
taken_from e by (Carries number packet) = map (λ (t : Taken). t.packet) (due_with e (brought number packet by))
taken_from e by other = []

-- ---- what happens at a side whose other side has numbered so many packets

-- packets were put at its end, and waiting packets move up
abbrev pub puts : Side → ℕ → SessionEnd → Side
puts a peer_numbered put = record {
  end = flushed put;
  line = a.line ++ moving put;
  took = a.took;
  sent = a.sent ++ flush_flights put peer_numbered;
}

-- it sends a STATE
abbrev pub tells : Side → ℕ → Bool → Side
tells a peer_numbered probe = record {
  end = after_state a.end;
  line = a.line;
  took = a.took;
  sent = a.sent ++ state_flight a.end.taken a.end.sending.numbered peer_numbered (gap a.end) probe ∷ [];
}

-- a frame arrives
abbrev pub hears : Side → ℕ → ℕ → Flight → Side
hears a peer_numbered by f = record {
  end = arrived a.end by f.acknowledgement f.content;
  line = a.line ++ arrival_moving a.end by f.acknowledgement f.content;
  took = a.took ++ taken_from a.end by f.content;
  sent = a.sent ++ arrival_flights a.end peer_numbered by f.acknowledgement f.content;
}

-- it sends the STATE that is due, if one is
abbrev pub answers : Side → ℕ → Side
answers a peer_numbered = record {
  end = answered a.end;
  line = a.line;
  took = a.took;
  sent = a.sent ++ (if is_due a.end then state_flight a.end.taken a.end.sending.numbered peer_numbered (gap a.end) false ∷ [] else []);
}

-- ---- the law, step by step

-- a side whose session has just begun: nothing was numbered, taken or sent
abbrev pub new_side : ℕ → ℕ → ℕ → ℕ → ℕ → Side
new_side own peer bearer epoch peer_epoch = record { end = begun own peer bearer epoch peer_epoch; line = []; took = []; sent = [] }

-- two sides that have just begun are joined
abbrev pub BeginJoined : Type 0
BeginJoined = (own peer bearer epoch peer_epoch : ℕ) → AreJoined (new_side own peer bearer epoch peer_epoch) (new_side peer own bearer peer_epoch epoch)

-- what holds of the left side holds of the right one
abbrev pub TurnJoined : Type 0
TurnJoined = (a b : Side) → AreJoined a b → AreJoined b a

-- two sides stay joined when packets are put at one of them
abbrev pub PutsStayJoined : Type 0
PutsStayJoined = (a b : Side) (pieces : List (List ℕ)) (put : SessionEnd) → AreJoined a b → IsPut a.end pieces put → AreJoined (puts a b.end.sending.numbered put) b

-- two sides stay joined when one of them sends a STATE
abbrev pub StatesStayJoined : Type 0
StatesStayJoined = (a b : Side) (probe : Bool) → AreJoined a b → AreJoined (tells a b.end.sending.numbered probe) b

-- of all frames that were ever sent any may arrive, again and in any order, as long as it isn't too old
abbrev pub ArrivalsStayJoined : Type 0
ArrivalsStayJoined = (a b : Side) (k by : ℕ) (f : Flight) → AreJoined a b → slice_get b.sent k ≡ Some f → IsFresh b.end.sending.numbered a.end.sending.numbered f
    → AreJoined (hears a b.end.sending.numbered by f) b

-- two sides stay joined when one of them sends the STATE that is due
abbrev pub AnswersStayJoined : Type 0
AnswersStayJoined = (a b : Side) → AreJoined a b → AreJoined (answers a b.end.sending.numbered) b

-- of two sides that are joined, what one took is a prefix of what the other numbered
abbrev pub JoinedGivePrefix : Type 0
JoinedGivePrefix = (a b : Side) → AreJoined a b → IsPrefixOf b.took a.line
