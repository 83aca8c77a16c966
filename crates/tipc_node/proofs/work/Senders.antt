-- A frame that isn't stopped is of another node: a link packet that is due at a link end, or a discovery packet of the network.
use Rattle.std.proofs.Common.{◌≡◌, ◌-◌, ◌==◌, ◌&&◌, ℕ, Bool, true, false, length, not, List, Option, Some, None, if◌then◌else◌, refl, sym, ap, ◌∙◌}
use Rattle.std.specs.Prelude.{drop, is_some, nat_le, nat_lt, slice_index_or}
use Rattle.std.proofs.lemmas.Bool.{and_parts}
use Rattle.std.proofs.lemmas.List.{drop_at}
use Rattle.tipc_types.specs.Address.{node_word}
use Rattle.tipc_types.specs.declared.link_words.Why.TheVariants as why
use Rattle.tipc_header.specs.declared.fault.HeaderFault.{HeaderFault}
use Rattle.tipc_header.specs.declared.frames.FrameKind.{FrameKind}
use Rattle.tipc_header.specs.declared.frames.FrameKind.TheVariants.{Casts, Finds, Links}
use Rattle.tipc_header.specs.declared.packet.Header.{Header}
use Rattle.tipc_header.specs.Faults.{fault_of}
use Rattle.tipc_header.specs.Frames.{envelope, kind_in}
use Rattle.tipc_header.specs.Reading.{fields_at, word_at}
use Rattle.tipc_header.specs.Spelling.{Fields, spelling}
use Rattle.tipc_header.proofs.Again.{again}
use Rattle.tipc_header.proofs.FrameWords.{length-envelope}
use Rattle.tipc_discovery.specs.Hearing.{is_of_network}
use Rattle.tipc_node.specs.declared.neighbours.Neighbour.{Neighbour}
use Rattle.tipc_node.specs.Arrivals.{IsDue}
use Rattle.tipc_node.specs.Nodes.{NodeState, end_with, is_frame_size, is_mended_on, is_other, stop_among, stop_by_fault, stop_by_kind, stop_by_sender, stop_of}

pub previous_at : (packet : List ℕ) → (fields_at packet).previous ≡ word_at 3 packet
unfolding fields_at
previous_at packet = refl

-- ---- what its kind doesn't stop

-- a link packet is due at a link end
pub passes_link : (kind : FrameKind) (said : Header) (bearer : ℕ) (place : Option Neighbour) → stop_by_kind kind said bearer place ≡ None → kind ≡ Links → is_some (end_with bearer place) ≡ true
passes_link Links said bearer place passes is = there (is_some (end_with bearer place)) passes
  where
    there : (b : Bool) → (if b then None else Some why.Unknown) ≡ None → b ≡ true
    there true none = refl
    there false none = absurd cc
passes_link Finds said bearer place passes is = absurd cc
passes_link Casts said bearer place passes is = absurd cc

-- a discovery packet is of the network
pub passes_discovery : (kind : FrameKind) (said : Header) (bearer : ℕ) (place : Option Neighbour) → stop_by_kind kind said bearer place ≡ None → kind ≡ Finds → is_of_network said ≡ true
passes_discovery Finds said bearer place passes is = ours (is_of_network said) passes
  where
    ours : (b : Bool) → (if b then None else Some why.Network) ≡ None → b ≡ true
    ours true none = refl
    ours false none = absurd cc
passes_discovery Links said bearer place passes is = absurd cc
passes_discovery Casts said bearer place passes is = absurd cc

-- and a broadcast packet is of a peer that is known
pub passes_cast : (kind : FrameKind) (said : Header) (bearer : ℕ) (place : Option Neighbour) → stop_by_kind kind said bearer place ≡ None → kind ≡ Casts → is_some place ≡ true
passes_cast Casts said bearer place passes is = known (is_some place) passes
  where
    known : (b : Bool) → (if b then None else Some why.Unknown) ≡ None → b ≡ true
    known true none = refl
    known false none = absurd cc
passes_cast Links said bearer place passes is = absurd cc
passes_cast Finds said bearer place passes is = absurd cc

-- ---- the sender

-- the word that names the sender
sender_word : (n : NodeState) (bytes : List ℕ) (bearer peer first second : ℕ) (p : Fields) → IsDue n bytes bearer peer first second p → word_at 3 (drop 16 bytes) ≡ node_word peer
sender_word n bytes bearer peer first second p due =
    let rest : drop 16 bytes ≡ spelling p = ap (drop 16) due.opened ∙ drop_at (envelope first second) (spelling p) 16 (length-envelope first second) in
    ap (word_at 3) rest ∙ sym (previous_at (spelling p)) ∙ ap (λ (q : Fields). q.previous) (again p due.fits) ∙ due.previous

-- a frame that nothing stops isn't stopped by its sender, or by its kind
passes_sender : (own : ℕ) (mended : Bool × Bool) (xs : List (Option Neighbour)) (bearer : ℕ) (bytes : List ℕ) → stop_among own mended xs bearer bytes ≡ None
    → stop_by_sender own xs bearer (word_at 3 (drop 16 bytes)) (kind_in bytes) (fields_at (drop 16 bytes)).header ≡ None
unfolding stop_among
passes_sender own mended xs bearer bytes is = by (is_mended_on mended bearer) (is_frame_size (length bytes)) (fault_of (drop 16 bytes)) is
  where
    by : (open_bearer sized : Bool) (fault : Option HeaderFault) → (if open_bearer then (if sized then stop_by_fault own xs bearer bytes fault else Some why.Envelope) else Some why.Cut) ≡ None
        → stop_by_sender own xs bearer (word_at 3 (drop 16 bytes)) (kind_in bytes) (fields_at (drop 16 bytes)).header ≡ None
    by true true None passes = passes
    by true true (Some fault) passes = absurd cc
    by true false fault passes = absurd cc
    by false sized fault passes = absurd cc

passes_kind : (own : ℕ) (xs : List (Option Neighbour)) (bearer word : ℕ) (kind : FrameKind) (said : Header) → stop_by_sender own xs bearer word kind said ≡ None
    → (is_other own word ≡ true) × (stop_by_kind kind said bearer (slice_index_or xs (word - node_word 0) None) ≡ None)
passes_kind own xs bearer word kind said is = by (is_other own word) is
  where
    by : (other : Bool) → (if other then stop_by_kind kind said bearer (slice_index_or xs (word - node_word 0) None) else Some why.Own) ≡ None
        → (other ≡ true) × (stop_by_kind kind said bearer (slice_index_or xs (word - node_word 0) None) ≡ None)
    by true passes = (refl, passes)
    by false passes = absurd cc

pub isnt_own : (own word : ℕ) → is_other own word ≡ true → (word == own) ≡ false
unfolding is_other
isnt_own own word is = by (word == own) (and_parts (nat_le word (node_word 32)) (not (word == own)) (and_parts (nat_lt (node_word 0) word) (nat_le word (node_word 32) && not (word == own)) is).1).1
  where
    by : (b : Bool) → not b ≡ true → b ≡ false
    by true wrong = absurd cc
    by false other = refl

pub sender_other : (n : NodeState) (bearer : ℕ) (bytes : List ℕ) (peer first second : ℕ) (p : Fields) → IsDue n bytes bearer peer first second p → stop_of n bearer bytes ≡ None → (node_word peer == n.own) ≡ false
sender_other n bearer bytes peer first second p due passes =
    let word = sender_word n bytes bearer peer first second p due in
    ap (λ k. k == n.own) (sym word) ∙ isnt_own n.own (word_at 3 (drop 16 bytes)) (passes_kind n.own n.neighbours bearer (word_at 3 (drop 16 bytes)) (kind_in bytes) (fields_at (drop 16 bytes)).header (passes_sender n.own n.mended n.neighbours bearer bytes passes)).0
