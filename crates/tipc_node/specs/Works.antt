-- A node's work on one step: what it has made so far of its neighbours and its sockets, and what happened inside the step. A message that
-- arrived, or that the node sent to itself, has its fate at once; a return goes back at once.
use Rattle.std.specs.Prelude.{◌≡◌, ◌-◌, ℕ, Bool, true, false, List, [], ◌∷◌, ◌++◌, Option, Some, None, filter, fold, option_map, slice_index_or, slice_set}
use Rattle.std.specs.List.{range_with_len}
use Rattle.tipc_types.specs.declared.message_forms.Flow.TheVariants.{Zero}
use Rattle.tipc_types.specs.Address.{node_word}
use Rattle.tipc_types.specs.declared.identity.Addr.{Addr}
use Rattle.tipc_types.specs.declared.message_forms.Message.{Message}
use Rattle.tipc_types.specs.declared.message_forms.Message.TheVariants.{Items}
use Rattle.tipc_types.specs.declared.node_calls.Answer.{Answer}
use Rattle.tipc_types.specs.declared.node_calls.By.{By}
use Rattle.tipc_types.specs.declared.node_calls.EventNote.{EventNote}
use Rattle.tipc_outside.specs.declared.outgoing.Outgoing.{Outgoing}
use Rattle.tipc_outside.specs.Frames.{Adds, Out}
use Rattle.tipc_journal.specs.declared.entries.Entry.{Entry}
use Rattle.tipc_journal.specs.Dues.{comes_home}
use Rattle.tipc_journal.specs.Steps.{step_entries}
use Rattle.tipc_name_dist.specs.Applying.{learnt_entries}
use Rattle.tipc_pair.specs.Messages.{pieces_for}
use Rattle.tipc_sockets.specs.declared.fates.Fate.{Fate}
use Rattle.tipc_sockets.specs.declared.fates.Fate.TheVariants.{Returned}
use Rattle.tipc_sockets.specs.Fates.{after_fate, fate}
use Rattle.tipc_sockets.specs.SocketTables.{SocketTable}
use Rattle.tipc_sockets.specs.Telling.{after_entry, fate_entry, origin_of}
use Rattle.tipc_node.specs.declared.frames.Delivery.{Delivery}
use Rattle.tipc_node.specs.declared.neighbours.Neighbour.{Neighbour}
use Rattle.tipc_node.specs.Messages.{IsSendable, bytes_of, destination_of}
use Rattle.tipc_node.specs.Neighbours.{PutsThere}
use Rattle.tipc_node.specs.Nodes.{NodeState, accepted_entry, is_met, load_with, step_of}

-- the neighbours and the sockets so far, and the entries of the step so far
pub record Work : Type 0 where
  pub neighbours : List (Option Neighbour)
  pub sockets : SocketTable
  pub inside : List Entry

-- the work on a step that begins: nothing has happened yet
abbrev pub begun : NodeState → Work
begun n = record { neighbours = n.neighbours; sockets = n.sockets; inside = [] }

-- the node when the step is recorded
abbrev pub concluded : NodeState → By → EventNote → Work → Answer → NodeState
concluded n by event w answered =
    record n {
      neighbours = w.neighbours;
      sockets = w.sockets;
      journal = n.journal ++ step_entries (step_of by event w.inside answered);
      promised = n.promised - 1;
    }

-- the work that has these parts
abbrev pub work_of : List (Option Neighbour) → SocketTable → List Entry → Work
work_of neighbours sockets inside = record { neighbours = neighbours; sockets = sockets; inside = inside }

-- the address with that word
abbrev pub addr_of_word : ℕ → Addr
addr_of_word word = record { word = word }

-- ---- what is noted

-- these happened, and are no fates: names are learned and forgotten by them, and those of a peer are purged with its contact
abbrev pub noted : Work → List Entry → Work
noted w entries = record w { sockets = fold after_entry w.sockets entries; inside = w.inside ++ entries }

-- a message has this fate
abbrev pub fated : Work → Message → Fate → Work
fated w m f = record w { sockets = after_fate w.sockets m f; inside = w.inside ++ fate_entry f ∷ [] }

-- ---- what is put

-- what is kept of the node of an address; nothing where the address is none of the 32
abbrev pub neighbour_at : List (Option Neighbour) → Addr → Option Neighbour
neighbour_at neighbours node = slice_index_or neighbours (node.word - node_word 0) None

-- how many packets wait on the active link to a node, where there is contact
abbrev pub waiting_to : List (Option Neighbour) → Addr → Option ℕ
waiting_to neighbours node = option_map (λ (load : ℕ × ℕ). load.1) (load_with (neighbour_at neighbours node))

-- A message is accepted for the node of that number, and put on the active link to it in the packets that it takes; these frames leave.
pub record Puts (own : ℕ) (w : Work) (peer : ℕ) (m : Message) (w' : Work) (frames : List Outgoing) : Type 0 where
  pub neighbour : Neighbour
  pub was : slice_index_or w.neighbours peer None ≡ Some neighbour
  pub sendable : IsSendable own m
  pub then : Neighbour
  pub puts : PutsThere neighbour (pieces_for (bytes_of own m)) then frames
  pub after : w' ≡ record w {
    neighbours = slice_set w.neighbours peer (Some then);
    inside = w.inside ++ accepted_entry Zero peer neighbour.pair m ∷ [];
  }

-- what that makes of the neighbour alone, of what is told, and of the box of frames
pub record PutsOn (own : ℕ) (x x' : Neighbour) (peer : ℕ) (m : Message) (inside inside' : List Entry) (box box' : Out) : Type 0 where
  pub sendable : IsSendable own m
  pub frames : List Outgoing
  pub puts : PutsThere x (pieces_for (bytes_of own m)) x' frames
  pub told : inside' ≡ inside ++ accepted_entry Zero peer x.pair m ∷ []
  pub adds : Adds box box' frames

-- it is put for the node that it is for
abbrev pub GoesAway : ℕ → Work → Message → Work → List Outgoing → Type 0
GoesAway own w m w' frames = Puts own w ((destination_of m).word - node_word 0) m w' frames

-- ---- what is told to peers

-- messages are put for one peer, one behind the other
pub data PutsEach (own peer : ℕ) : Work → List Message → Work → List Outgoing → Type 0 where
  none_left : (w : Work) → PutsEach own peer w [] w []
  one_more : (w between last : Work) (m : Message) (ms : List Message) (first rest : List Outgoing)
      → Puts own w peer m between first → PutsEach own peer between ms last rest
      → PutsEach own peer w (m ∷ ms) last (first ++ rest)

-- whether there is contact with the peer of that number
abbrev pub is_in_contact : List (Option Neighbour) → ℕ → Bool
is_in_contact xs peer = is_met (slice_index_or xs peer None)

-- the peers with which there is contact, in order of their numbers
unfoldable pub peers_in_contact : List (Option Neighbour) → List ℕ
peers_in_contact xs = filter (is_in_contact xs) (range_with_len 1 32)

-- the same messages are put for each of these peers, for one peer after the other
pub data TellsEach (own : ℕ) (ms : List Message) : Work → List ℕ → Work → List Outgoing → Type 0 where
  all_told : (w : Work) → TellsEach own ms w [] w []
  one_told : (w between last : Work) (peer : ℕ) (peers : List ℕ) (first rest : List Outgoing)
      → PutsEach own peer w ms between first → TellsEach own ms between peers last rest
      → TellsEach own ms w (peer ∷ peers) last (first ++ rest)

-- every peer in contact is told by these messages
abbrev pub TellsPeers : ℕ → Work → List Message → Work → List Outgoing → Type 0
TellsPeers own w ms w' frames = TellsEach own ms w (peers_in_contact w.neighbours) w' frames

-- ---- fates

-- the fate of a message that arrived, or that the node sent to itself
abbrev pub fate_of : Work → Bool → Message → Fate
fate_of w arrived m = fate w.sockets arrived (waiting_to w.neighbours (origin_of m)) m

-- what goes back by a fate
abbrev pub back_of : Fate → Option Message
back_of (Returned back) = Some back
back_of f = None

-- A return goes back: at the own node it has its own fate, and it isn't returned again; for a peer it is accepted.
pub record GoesBack (own : ℕ) (w : Work) (m : Message) (w' : Work) (frames : List Outgoing) : Type 0 where
  pub home : comes_home (addr_of_word own) m ≡ true → (w' ≡ fated w m (fate_of w false m)) × (frames ≡ [])
  pub away : comes_home (addr_of_word own) m ≡ false → GoesAway own w m w' frames

-- what follows a message with this fate: a return goes back
abbrev pub Follows : ℕ → Work → Message → Fate → Work → List Outgoing → Type 0
Follows own w m (Returned back) w' frames = GoesBack own (fated w m (Returned back)) back w' frames
Follows own w m f w' frames = (w' ≡ fated w m f) × (frames ≡ [])

-- a message that arrived, or that the node sent to itself, has its fate
abbrev pub GivesFate : ℕ → Work → Bool → Message → Work → List Outgoing → Type 0
GivesFate own w arrived m w' frames = Follows own w m (fate_of w arrived m) w' frames

-- ---- what is delivered

-- the items of a peer's message are applied, and what is learned or forgotten by them is noted
abbrev pub with_items : ℕ → Work → Message → Work
with_items peer w m = noted w (learnt_entries (node_word peer) w.sockets.names m)

-- a user's message has its fate, and name items are applied
abbrev pub DeliversTo : (own peer : ℕ) → Work → Option Message → Work → List Outgoing → Type 0
DeliversTo own peer w None w' frames = (w' ≡ w) × (frames ≡ [])
DeliversTo own peer w (Some (Items withdrawal items)) w' frames = (w' ≡ with_items peer w (Items withdrawal items)) × (frames ≡ [])
DeliversTo own peer w (Some m) w' frames = GivesFate own w true m w' frames

-- what arrived is noted before
abbrev pub Delivers : (own peer : ℕ) → Work → Delivery → Work → List Outgoing → Type 0
Delivers own peer w d w' frames = DeliversTo own peer (noted w (d.entry ∷ [])) d.message w' frames

-- what arrived from a peer, one delivery after the other
pub data DeliversAll (own peer : ℕ) : Work → List Delivery → Work → List Outgoing → Type 0 where
  none_left : (w : Work) → DeliversAll own peer w [] w []
  one_more : (w between last : Work) (d : Delivery) (ds : List Delivery) (first rest : List Outgoing)
      → Delivers own peer w d between first → DeliversAll own peer between ds last rest
      → DeliversAll own peer w (d ∷ ds) last (first ++ rest)
