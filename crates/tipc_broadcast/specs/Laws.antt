-- What the laws of frames and member sets say.
use Rattle.std.specs.Prelude.{◌≡◌, ℕ, ◌≤◌, All, List, length}
use Rattle.tipc_types.specs.Address.{IsNodeWord}
use Rattle.tipc_header.specs.Frames.{frame_of, stamped}
use Rattle.tipc_broadcast.specs.declared.contacts.Contact.{Contact}
use Rattle.tipc_broadcast.specs.Contacts.{has_joined, is_member, member_set}
use Rattle.tipc_broadcast.specs.Frames.{accepted_frame, numbered_frame}

-- A frame that waits gets its number when it is sent, and is then the frame of the packet with that number and the
-- node's own address in words 2 and 3.
abbrev pub FramesAreStamped : Type 0
FramesAreStamped = (own boot members number : ℕ) (packet : List ℕ) → 16 ≤ length packet
    → numbered_frame number (accepted_frame own boot members packet) ≡ frame_of boot members (stamped 0 number own packet)

-- the set of members in a broadcast packet has the bits of just the peers that are in contact
abbrev pub SetsTellMembers : Type 0
SetsTellMembers = (contacts : List Contact) (node : ℕ) → IsNodeWord node → All (λ c. IsNodeWord c.peer.word) contacts
    → is_member node (member_set contacts) ≡ has_joined node contacts
