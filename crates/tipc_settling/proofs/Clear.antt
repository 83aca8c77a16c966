-- What isn't stopped at a node: a link packet of another node that comes on a mended bearer, where the node has a link end to it.
use Rattle.std.specs.Prelude.{if◌then◌else◌, is_some, slice_index_or}
use Rattle.std.proofs.Common.{◌≡◌, ◌≤◌, ◌∙◌, ℕ, true, List, None, Some, length, sym, ap, arith, inl, inr}
use Rattle.tipc_types.specs.Address.{node_word}
use Rattle.tipc_types.specs.declared.link_words.Why.TheVariants as why
use Rattle.tipc_header.specs.declared.frames.FrameKind.TheVariants.{Links}
use Rattle.tipc_header.specs.Frames.{kind_in}
use Rattle.tipc_header.specs.Spelling.{Fields, spelling}
use Rattle.tipc_header.proofs.Again.{again, no_fault}
use Rattle.tipc_node.specs.Nodes.{NodeState, end_with, is_mended_on, is_other, neighbour_of, stop_by_kind, stop_of}
use Rattle.tipc_node.specs.Turns.{IsFrom}
use Rattle.tipc_node.proofs.work.Stops.{IsBadSize, IsOpened, by_sender, sender_kind}

pub nothing_stops : (n : NodeState) (bearer : ℕ) (bytes : List ℕ) (peer es er : ℕ) (p : Fields) → IsFrom peer bytes es er p → kind_in bytes ≡ Links → is_mended_on n.mended bearer ≡ true → 16 ≤ length bytes → length bytes ≤ 1516
    → is_other n.own (node_word peer) ≡ true → is_some (end_with bearer (neighbour_of n peer)) ≡ true → stop_of n bearer bytes ≡ None
nothing_stops n bearer bytes peer es er p from kind mended long short other there =
    let opened : IsOpened n.mended bearer bytes es er (spelling p) = record { open_bearer = mended; size = λ bad. good bad; opened = from.frame_is } in
    let word : is_other n.own p.previous ≡ true = ap (is_other n.own) from.previous ∙ other in
    by_sender n.own n.mended n.neighbours bearer bytes es er (spelling p) p opened (no_fault p from.fits) (sym (again p from.fits))
    ∙ (sender_kind n.own n.neighbours bearer peer p.previous (kind_in bytes) p.header word from.previous
    ∙ (ap (λ k. stop_by_kind k p.header bearer (slice_index_or n.neighbours peer None)) kind ∙ ap (λ b. if b then None else Some why.Unknown) there))
  where
    good : IsBadSize (length bytes) → ⊥
    good (inl few) = omega (arith, few, long)
    good (inr many) = omega (arith, many, short)
