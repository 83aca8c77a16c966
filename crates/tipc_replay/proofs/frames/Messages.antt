-- Messages that can be sent, and their packets.
use Rattle.std.proofs.Common.{◌≡◌, ℕ, List, [], ◌∷◌, Some, map, refl, sym, ap, subst, ◌∙◌}
use Rattle.std.specs.Prelude.{All}
use Rattle.std.proofs.lemmas.List.Elements.{All-cons, All-head, All-nil, All-tail}
use Rattle.tipc_types.specs.declared.message_forms.Message.{Message}
use Rattle.tipc_types.specs.declared.message_forms.Message.TheVariants.{Items, Payload}
use Rattle.tipc_header.specs.Grammar.{Fits}
use Rattle.tipc_header.specs.Spelling.{Fields, spelling}
use Rattle.tipc_header.proofs.RoundTrip.{one_packet}
use Rattle.tipc_message.specs.Wire.{items_packet, message_of, packet_of, payload_of, payload_packet}
use Rattle.tipc_pair.specs.Messages.{IsMessage}
use Rattle.tipc_node.specs.Messages.{IsSendable, bytes_of, spelled}
use Rattle.tipc_replay.proofs.calls.Outcomes.{some_is}

-- the bytes of a message are those of its packet
pub bytes_are : (own : ℕ) (m : Message) (p : Fields) → packet_of own m ≡ Some p → bytes_of own m ≡ spelling p
unfolding bytes_of
bytes_are own m p is = ap spelled is

-- a message is known by the bytes of its packet
pub same_bytes : (own : ℕ) (m m' : Message) → IsSendable own m → IsSendable own m' → bytes_of own m ≡ bytes_of own m' → m ≡ m'
same_bytes own m m' h h' same =
    let spellings : spelling h.packet ≡ spelling h'.packet = sym (bytes_are own m h.packet h.packet_is) ∙ same ∙ bytes_are own m' h'.packet h'.packet_is in
    let packets = one_packet h.packet h'.packet h.fits h'.fits spellings in
    some_is m m' (sym h.read ∙ ap message_of packets ∙ h'.read)

-- the packet of a message is one of the node that sends it
pub message_is : (own : ℕ) (m : Message) → IsSendable own m → IsMessage own (bytes_of own m)
unfolding packet_of
message_is own (Payload importance form from to kind lower upper code droppable body) h =
    let m = Payload importance form from to kind lower upper code droppable body in
    let w = payload_of importance form from to kind lower upper code droppable in
    let same : payload_packet own w body ≡ h.packet = some_is _ h.packet h.packet_is in
    record {
      packet = payload_packet own w body;
      spelled = bytes_are own m h.packet h.packet_is ∙ ap spelling (sym same);
      fits = subst Fits (sym same) h.fits;
      waits = refl;
      inside = refl;
    }
message_is own (Items withdrawal items) h =
    let m = Items withdrawal items in
    let same : items_packet own withdrawal items ≡ h.packet = some_is _ h.packet h.packet_is in
    record {
      packet = items_packet own withdrawal items;
      spelled = bytes_are own m h.packet h.packet_is ∙ ap spelling (sym same);
      fits = subst Fits (sym same) h.fits;
      waits = refl;
      inside = refl;
    }

pub messages_are : (own : ℕ) (ms : List Message) → All (IsSendable own) ms → All (IsMessage own) (map (bytes_of own) ms)
messages_are own [] sendable = All-nil (IsMessage own)
messages_are own (m ∷ ms) sendable =
    All-cons (IsMessage own) (bytes_of own m) (map (bytes_of own) ms) (message_is own m (All-head (IsSendable own) m ms sendable))
    (messages_are own ms (All-tail (IsSendable own) m ms sendable))
