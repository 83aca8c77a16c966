-- The text of what is told of a line.
use Rattle.std.specs.Prelude.{ℕ, ◌%◌, List, [], ◌∷◌, ◌++◌, Option, Some, None, codes}
use Rattle.std.specs.List.{flat_map, join_with_byte}
use Rattle.std.specs.Fmt.{decimal}
use Rattle.hex.specs.Hex.{encode_lower}
use Rattle.tipc_types.specs.declared.identity.To.{To}
use Rattle.tipc_types.specs.declared.identity.To.TheVariants as to
use Rattle.tipc_types.specs.declared.services.Publication.{Publication}
use Rattle.tipc_types.specs.declared.link_words.LinkState.{LinkState}
use Rattle.tipc_types.specs.declared.link_words.LinkState.TheVariants as state
use Rattle.tipc_types.specs.declared.node_calls.PeerLinks.{PeerLinks}
use Rattle.tipc_report.specs.declared.told.Told.{Told}
use Rattle.tipc_report.specs.declared.told.Told.TheVariants as told
use Rattle.tipc_report.specs.Answering.{port_text, text_of}
use Rattle.tipc_report.specs.Closing.{spaced}

-- whom a frame is for: a node's number, or `all`. An address has the node's number in its low 12 bits.
abbrev pub to_text : To → List ℕ
to_text (to.Node address) = decimal (address.word % 4096)
to_text to.All = codes "all"

-- a publication: the numbers of its range, its port, and its key
abbrev pub publication_text : Publication → List ℕ
publication_text p =
    join_with_byte 44 (decimal p.range.kind ∷ decimal p.range.lower ∷ decimal p.range.upper ∷ port_text p.at.node.word p.at.port ∷ decimal p.key ∷ [])

-- the publications that a node knows: for each a space and its text
abbrev pub table_text : List Publication → List ℕ
table_text ps = codes "table" ++ flat_map (λ p. 32 ∷ publication_text p) ps

-- a link end: `W` up, `H` held, `R` in reset, `-` where there is none
abbrev pub end_letter : Option LinkState → List ℕ
end_letter None = codes "-"
end_letter (Some state.ResetUnknown) = codes "R"
end_letter (Some state.ResetReset) = codes "R"
end_letter (Some state.WorkingWorking) = codes "W"
end_letter (Some state.WorkingUnknown) = codes "W"
end_letter (Some state.Held) = codes "H"

-- the link ends to one peer: its number, a colon, and a letter for each bearer
abbrev pub peer_text : PeerLinks → List ℕ
peer_text links = decimal (links.peer.word % 4096) ++ (58 ∷ (end_letter links.first ++ end_letter links.second))

-- the link ends of a node: for each peer a space and its text
abbrev pub links_text : List PeerLinks → List ℕ
links_text peers = codes "links" ++ flat_map (λ peer. 32 ∷ peer_text peer) peers

-- the text of what is told of a line; a frame's bytes are told in lower-case hexadecimal
abbrev pub told_text : Told → List ℕ
told_text told.Nothing = codes "-"
told_text (told.Answer answer) = text_of answer
told_text (told.Times count last) = spaced (codes "times" ∷ decimal count ∷ text_of last ∷ [])
told_text told.Up = codes "up"
told_text told.Down = codes "down"
told_text (told.Pumped count) = spaced (codes "pumped" ∷ decimal count ∷ [])
told_text (told.Drained count) = spaced (codes "drained" ∷ decimal count ∷ [])
told_text (told.Moved count) = spaced (codes "moved" ∷ decimal count ∷ [])
told_text told.Quiet = codes "quiet"
told_text (told.Unsettled unacked waiting) = spaced (codes "unsettled" ∷ decimal unacked ∷ decimal waiting ∷ [])
told_text (told.Air count) = spaced (codes "air" ∷ decimal count ∷ [])
told_text (told.Links peers) = links_text peers
told_text (told.Table publications) = table_text publications
told_text (told.Frame from to bytes) = spaced (decimal (from.word % 4096) ∷ to_text to ∷ encode_lower bytes ∷ [])
told_text (told.Flow accepted delivered) = spaced (codes "accepted" ∷ decimal accepted ∷ codes "delivered" ∷ decimal delivered ∷ [])
told_text told.NoContact = codes "no-contact"
