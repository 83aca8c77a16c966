-- A draft of a step that may fail: a node works on the step with copies of what its neighbours were.
use Rattle.std.specs.Prelude.{◌≡◌, ℕ, List, [], ◌∷◌, Option, Some, None, filter, length, slice_index_or, slice_set}
use Rattle.tipc_types.specs.declared.message_forms.Message.{Message}
use Rattle.tipc_outside.specs.declared.outgoing.Outgoing.{Outgoing}
use Rattle.tipc_outside.specs.Frames.{Adds, Out, no_frames}
use Rattle.tipc_sockets.specs.SocketTables.{SocketTable}
use Rattle.tipc_node.specs.declared.neighbours.Neighbour.{Neighbour}
use Rattle.tipc_node.specs.Works.{PutsEach, TellsEach, Work, peers_in_contact, is_in_contact, work_of}

-- each neighbour that was copied is as its copy, and the others are as they are
unfoldable pub restored : List (Option Neighbour) → List (Option Neighbour) → List (Option Neighbour)
restored copies [] = []
restored [] (x ∷ xs) = x ∷ xs
restored (Some copy ∷ copies) (x ∷ xs) = Some copy ∷ restored copies xs
restored (None ∷ copies) (x ∷ xs) = x ∷ restored copies xs

-- the neighbours where the one at a place is as its copy, where it has one
abbrev pub with_copy : List (Option Neighbour) → ℕ → Option Neighbour → List (Option Neighbour)
with_copy xs place None = xs
with_copy xs place (Some copy) = slice_set xs place (Some copy)

-- a draft: the work on the step so far, a copy of each neighbour that it changed as it was before, and the frames that leave with it
pub record DraftState : Type 0 where
  pub work : Work
  pub copies : List (Option Neighbour)
  pub out : Out

-- neighbours and copies have a place for each number, and nobody has the number 0
pub record AreTables (xs copies : List (Option Neighbour)) : Type 0 where
  pub wide : length xs ≡ 33
  pub copied : length copies ≡ 33
  pub nobody : slice_index_or xs 0 None ≡ None
  pub uncopied : slice_index_or copies 0 None ≡ None

-- the own address word
abbrev pub own_of : DraftState → ℕ
own_of d = d.work.sockets.own

-- what the step doesn't lose: the neighbours as they were when it began, and the own address word
abbrev pub start_of : DraftState → List (Option Neighbour) × ℕ
start_of d = (restored d.copies d.work.neighbours, own_of d)

-- the draft with these sockets in place of its own
abbrev pub with_sockets_in : DraftState → SocketTable → DraftState
with_sockets_in d s = record d { work = work_of d.work.neighbours s d.work.inside }

-- the draft with these neighbours in place of its own
abbrev pub with_neighbours_in : DraftState → List (Option Neighbour) → DraftState
with_neighbours_in d xs = record d { work = record d.work { neighbours = xs } }

-- nothing is drafted
pub record IsIdle (d : DraftState) : Type 0 where
  pub inside : d.work.inside ≡ []
  pub copies : (k : ℕ) → slice_index_or d.copies k None ≡ None
  pub out : d.out ≡ no_frames

-- ---- what is told to peers

-- messages were put for one peer, one behind the other, and what left for it is in the box
pub record PutEach (own : ℕ) (w : Work) (peer : ℕ) (ms : List Message) (w' : Work) (box box' : Out) : Type 0 where
  pub frames : List Outgoing
  pub puts : PutsEach own peer w ms w' frames
  pub adds : Adds box box' frames

-- the same messages were put for each of these peers
pub record ToldEach (own : ℕ) (w : Work) (ms : List Message) (peers : List ℕ) (w' : Work) (box box' : Out) : Type 0 where
  pub frames : List Outgoing
  pub tells : TellsEach own ms w peers w' frames
  pub adds : Adds box box' frames

-- the peer of that number, where there is contact with it
abbrev pub peer_in_contact : List (Option Neighbour) → ℕ → List ℕ
peer_in_contact xs peer = filter (is_in_contact xs) (peer ∷ [])

-- every peer in contact was told by these messages
abbrev pub ToldPeers : ℕ → Work → List Message → Work → Out → Out → Type 0
ToldPeers own w ms w' box box' = ToldEach own w ms (peers_in_contact w.neighbours) w' box box'
