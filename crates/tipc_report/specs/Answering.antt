-- The text of each answer.
use Rattle.std.specs.Prelude.{ℕ, ◌%◌, ◌==◌, nat_le, Bool, ◌&&◌, if◌then◌else◌, List, [], ◌∷◌, ◌++◌, length, codes}
use Rattle.std.specs.List.{list_all}
use Rattle.std.specs.Fmt.{decimal}
use Rattle.tipc_types.specs.declared.link_words.Why.{Why}
use Rattle.tipc_types.specs.declared.link_words.Why.TheVariants as why
use Rattle.tipc_types.specs.declared.message_forms.Message.{Message}
use Rattle.tipc_types.specs.declared.message_forms.Message.TheVariants.{Payload, Items}
use Rattle.tipc_types.specs.declared.node_calls.Event.{Event}
use Rattle.tipc_types.specs.declared.node_calls.Arrival.{Arrival}
use Rattle.tipc_types.specs.declared.node_calls.Arrival.TheVariants as arrival
use Rattle.tipc_types.specs.declared.node_calls.Answer.{Answer}
use Rattle.tipc_types.specs.declared.node_calls.Answer.TheVariants as answer
use Rattle.tipc_script.specs.Kinds.{is_visible}
use Rattle.tipc_report.specs.Closing.{spaced}

-- a port: its node's number, a colon, and its own number. An address has the node's number in its low 12 bits.
abbrev pub port_text : ℕ → ℕ → List ℕ
port_text word port = decimal (word % 4096) ++ (58 ∷ decimal port)

-- a body is shown where it has 1 to 64 bytes that are all visible characters, else as `-`
abbrev pub is_shown : List ℕ → Bool
is_shown body = nat_le 1 (length body) && nat_le (length body) 64 && list_all is_visible body

-- the text of a body: its characters where they are shown, else `-`
unfoldable pub body_text : List ℕ → List ℕ
body_text body = if is_shown body then body else codes "-"

-- a message that was taken: its origin, code, length and body
abbrev pub message_text : Message → List ℕ
message_text (Payload importance form from to kind lower upper code droppable body) =
    spaced (codes "got" ∷ port_text from.node.word from.port ∷ decimal code ∷ decimal (length body) ∷ body_text body ∷ [])
message_text (Items withdrawal items) = codes "got"

-- what an event of a subscription tells: 1 a publication, 2 a withdrawal, any other the timeout
abbrev pub what_word : ℕ → List ℕ
what_word what = if what == 1 then codes "published" else if what == 2 then codes "withdrawn" else codes "timeout"

-- an event of a subscription: what it tells, the bounds of the range, and the port that published it
abbrev pub event_text : Event → List ℕ
event_text event = spaced (what_word event.what ∷ decimal event.lower ∷ decimal event.upper ∷ port_text event.at_node event.at_port ∷ [])

-- why a frame was ignored
abbrev pub why_words : Why → List ℕ
why_words why.Cut = codes "cut"
why_words why.Envelope = codes "envelope"
why_words (why.Header fault) = spaced (codes "header" ∷ decimal fault ∷ [])
why_words why.Own = codes "own"
why_words why.Network = codes "network"
why_words why.Unknown = codes "unknown"
why_words why.Contact = codes "contact"
why_words why.Held = codes "held"
why_words why.Epoch = codes "epoch"
why_words why.OutOfStep = codes "out-of-step"
why_words why.NotMember = codes "not-member"
why_words why.Old = codes "old"

-- what became of a frame that arrived
abbrev pub arrival_text : Arrival → List ℕ
arrival_text (arrival.Took messages) = spaced (codes "took" ∷ decimal messages ∷ [])
arrival_text arrival.Deferred = codes "deferred"
arrival_text (arrival.Ignored reason) = spaced (codes "ignored" ∷ why_words reason ∷ [])

-- an answer that refuses a call
abbrev pub IsRefusal : Answer → Type 0
IsRefusal answer.NoSocket = Unit {0}
IsRefusal (answer.TooLong length) = Unit {0}
IsRefusal answer.BadRange = Unit {0}
IsRefusal answer.BadFilter = Unit {0}
IsRefusal answer.NoName = Unit {0}
IsRefusal answer.NoNode = Unit {0}
IsRefusal (answer.Congested in_flight waiting) = Unit {0}
IsRefusal (answer.NamesCongested peer waiting) = Unit {0}
IsRefusal answer.Reserved = Unit {0}
IsRefusal (answer.Duplicate key) = Unit {0}
IsRefusal (answer.Full limit) = Unit {0}
IsRefusal answer.Unknown = Unit {0}
IsRefusal other = ⊥

-- The text of an answer. No line of a script is answered Got, BadFilter, or with received items.
abbrev pub text_of : Answer → List ℕ
text_of answer.Done = codes "ok"
text_of (answer.Socket port) = spaced (codes "socket" ∷ decimal port ∷ [])
text_of (answer.SentTo to) = spaced (codes "sent" ∷ port_text to.node.word to.port ∷ [])
text_of answer.Sent = codes "sent"
text_of (answer.Received message) = message_text message
text_of answer.Got = codes "got"
text_of answer.Empty = codes "empty"
text_of (answer.Subscribed number) = spaced (codes "sub" ∷ decimal number ∷ [])
text_of (answer.Next event) = event_text event
text_of answer.NoEvent = codes "none"
text_of (answer.Arrived what) = arrival_text what
text_of (answer.TooOld count) = spaced (codes "too-old" ∷ decimal count ∷ [])
text_of answer.NoFrame = codes "no-frame"
text_of answer.NoSocket = codes "no-socket"
text_of (answer.TooLong length) = spaced (codes "too-long" ∷ decimal length ∷ [])
text_of answer.BadRange = codes "bad-range"
text_of answer.BadFilter = codes "bad-filter"
text_of answer.NoName = codes "no-name"
text_of answer.NoNode = codes "no-node"
text_of (answer.Congested in_flight waiting) = spaced (codes "congested" ∷ decimal in_flight ∷ decimal waiting ∷ [])
text_of (answer.NamesCongested peer waiting) = spaced (codes "names-congested" ∷ decimal peer ∷ decimal waiting ∷ [])
text_of answer.Reserved = codes "reserved"
text_of (answer.Duplicate key) = spaced (codes "duplicate" ∷ decimal key ∷ [])
text_of (answer.Full limit) = spaced (codes "full" ∷ decimal limit ∷ [])
text_of answer.Unknown = codes "unknown"
