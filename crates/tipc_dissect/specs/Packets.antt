-- A packet as lines: its fields, what follows them, and the packet inside a tunnel packet.
use Rattle.std.specs.Prelude.{ℕ, ◌+◌, ◌*◌, ◌/◌, Bool, ◌&&◌, ◌==◌, if◌then◌else◌, List, [], ◌∷◌, ◌++◌, length, is_none, codes}
use Rattle.std.specs.List.{flat_map, join_with_byte, range_with_len}
use Rattle.std.specs.Fmt.{decimal}
use Rattle.tipc_header.specs.declared.packet.Header.{Header}
use Rattle.tipc_header.specs.declared.packet.Header.TheVariants as header
use Rattle.tipc_header.specs.Faults.{fault_of}
use Rattle.tipc_header.specs.Reading.{fields_at, word_at}
use Rattle.tipc_header.specs.Spelling.{Fields}
use Rattle.tipc_tunnel.specs.Tunnels.{may_stand_in_tunnel, is_tunnel, inner_number}
use Rattle.tipc_dissect.specs.Lines.{bytes_text, fields_text, shown_line}
use Rattle.tipc_dissect.specs.Table.{fields_of}

-- the lines of a frame's packet stand one space in
abbrev pub outer : List ℕ
outer = 32 ∷ []

-- those of a packet inside it two
abbrev pub inner : List ℕ
inner = 32 ∷ 32 ∷ []

-- ---- what follows the fields

-- the item of this index: type, lower and upper bound, port and key, with commas between
abbrev pub item_text : ℕ → List ℕ → List ℕ
item_text index rest =
    join_with_byte 44 (
    decimal (word_at (5 * index) rest) ∷ decimal (word_at (5 * index + 1) rest) ∷ decimal (word_at (5 * index + 2) rest)
    ∷ decimal (word_at (5 * index + 3) rest) ∷ decimal (word_at (5 * index + 4) rest) ∷ []
    )

-- the line of an item
abbrev pub item_line : List ℕ → List ℕ → ℕ → List ℕ
item_line indent rest index = shown_line indent (codes "item") (item_text index rest)

-- a line for each item, which has 20 bytes
unfoldable pub items_text : List ℕ → List ℕ → List ℕ
items_text indent rest = flat_map (item_line indent rest) (range_with_len 0 (length rest / 20))

-- What follows the fields: the bytes of a message, a bundle or a fragment, or the items. Other headers show nothing more,
-- or, in a tunnel packet, what it carries.
abbrev pub rest_text : List ℕ → Header → List ℕ → List ℕ
rest_text indent (header.Payload m) rest = shown_line indent (codes "rest") (bytes_text rest)
rest_text indent (header.Bundler b) rest = shown_line indent (codes "rest") (bytes_text rest)
rest_text indent (header.Fragmenter f) rest = shown_line indent (codes "rest") (bytes_text rest)
rest_text indent (header.NameDistributor n) rest = items_text indent rest
rest_text indent other rest = []

-- a packet, without what a tunnel packet carries
unfoldable pub packet_text : List ℕ → Fields → List ℕ
packet_text indent p = fields_text indent (fields_of p) ++ rest_text indent p.header p.rest

-- ---- what a tunnel packet carries

-- whether some bytes are a packet that may stand inside a tunnel packet, under this number
unfoldable pub is_inner_packet : ℕ → List ℕ → Bool
is_inner_packet number bytes =
    is_none (fault_of bytes) && may_stand_in_tunnel (fields_at bytes).header && ((fields_at bytes).sequence == number)

-- the packet inside: its size, and its own lines further in
abbrev pub inner_text : List ℕ → List ℕ
inner_text bytes = shown_line outer (codes "inner") (decimal (length bytes)) ++ packet_text inner (fields_at bytes)

-- what a tunnel packet with this inner number carries: nothing, a packet, or bytes that aren't one
abbrev pub carried_text : ℕ → List ℕ → List ℕ
carried_text number [] = shown_line outer (codes "inner") (codes "none")
carried_text number (byte ∷ bytes) =
    if is_inner_packet number (byte ∷ bytes) then inner_text (byte ∷ bytes) else shown_line outer (codes "inner bad") (bytes_text (byte ∷ bytes))

-- a packet with all that is in it
unfoldable pub whole_text : Fields → List ℕ
whole_text p = packet_text outer p ++ (if is_tunnel p.header then carried_text (inner_number p.header) p.rest else [])
