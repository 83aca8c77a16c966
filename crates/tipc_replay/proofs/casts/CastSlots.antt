-- The packets in which a message is cast, as what is put into each of them.
use Rattle.std.proofs.Common.{◌∙◌, ℕ, List, [], ◌∷◌, refl, sym, append-nil, arith}
use Rattle.std.proofs.lemmas.List.Elements.{All-nil}
use Rattle.tipc_bundle.specs.Bundles.{IsInner}
use Rattle.tipc_fragments.specs.Streams.{items_of}
use Rattle.tipc_reassembly.specs.Slots.{IsSlot}
use Rattle.tipc_link.specs.Sessions.{SessionEnd, begun, put, waits}
use Rattle.tipc_casters.specs.Messages.{ArePiecesOf}
use Rattle.tipc_pair.specs.Messages.{pieces_for}
use Rattle.tipc_pair.proofs.Pieces.{All-one}
use Rattle.tipc_two_nodes.proofs.messages.Slots.{more_slots}

-- They are what is put on a link on which nothing waits.
pub message_pieces : (m : List ℕ) → IsInner m → ArePiecesOf (m ∷ []) (pieces_for m)
message_pieces m inner =
    let s : SessionEnd = begun 0 0 0 0 0 in
    let more = more_slots [] m [] s (put s (pieces_for m)) (pieces_for m) refl (waits (pieces_for m) (λ packets packet is may. (let some = may.waits in omega (arith, some)))) (All-nil IsSlot) refl inner in
    record {
      inner = All-one IsInner m inner;
      slots = more.0;
      sound = more.1.sound;
      packets_are = sym more.1.bytes;
      whole = more.1.items ∙ sym (append-nil (items_of m));
    }
