-- The grammar of a line: a row for each first word, with the kinds of the tokens behind that word, and what a line with
-- these values asks for.
use Rattle.std.specs.Prelude.{◌≡◌, ℕ, nat_le, List, [], ◌∷◌, Option, Some, None, codes, true, if◌then◌else◌}
use Rattle.std.specs.Str.{bytes_eq}
use Rattle.tipc_types.specs.declared.node_calls.EventNote.{EventNote}
use Rattle.tipc_types.specs.declared.node_calls.EventNote.TheVariants as call
use Rattle.tipc_types.specs.declared.node_calls.Subscription.{Subscription}
use Rattle.tipc_types.specs.declared.services.Scope.{Scope}
use Rattle.tipc_script.specs.declared.lines.Filter.{Filter}
use Rattle.tipc_script.specs.declared.lines.Filter.TheVariants as filter
use Rattle.tipc_script.specs.declared.lines.Line.{Line}
use Rattle.tipc_script.specs.declared.lines.Line.TheVariants as line
use Rattle.tipc_script.specs.declared.lines.NodeToken.{NodeToken}
use Rattle.tipc_script.specs.declared.lines.SendForm.{SendForm}
use Rattle.tipc_script.specs.declared.lines.SendForm.TheVariants as form
use Rattle.tipc_script.specs.Splitting.{Left, whole, first_token, behind}
use Rattle.tipc_script.specs.Kinds.{Kind, NewNode, OldNode, AnyNode, BearerNumber, AnyNumber, FrameNumber, RoundsNumber, TimesNumber, SendWord, FormWord, ScopeWord, FilterWord, ImportanceWord, BodyText, is_remark}
use Rattle.tipc_script.specs.Spelling.{port_at, spaced}
use Rattle.tipc_script.specs.Shapes.{Behind, Ends, Shape, Spells, line_in, nodes_in, shape_of}

-- a row: a first word, and what stands behind it
pub record Row : Type 0 where
  pub word : List ℕ
  pub shape : Shape

-- a row whose tokens are of these kinds, where their values give what is asked for
abbrev pub row_for : List ℕ → (kinds : List Kind) → Behind kinds → Row
row_for word kinds rest = record { word = word; shape = shape_of kinds rest }

-- a node is called
abbrev pub calls : ℕ → EventNote → Shape
calls node call = Ends (line.Call node call)

-- a node is called with the instances from one to another, where there are any
abbrev pub calls_in_range : ℕ → ℕ → ℕ → EventNote → Shape
calls_in_range lower upper node call = Ends (if nat_le lower upper then line.Call node call else line.BadRange node)

-- `node n`: makes node n, which isn't there yet
abbrev pub node_row : Row
node_row = row_for (codes "node") (NewNode ∷ []) (λ node. Ends (line.Node node))

-- `mend n x`: mends bearer x of node n
abbrev pub mend_row : Row
mend_row = row_for (codes "mend") (OldNode ∷ BearerNumber ∷ []) (λ node bearer. calls node (call.Mend bearer))

-- `cut n x`: cuts bearer x of node n
abbrev pub cut_row : Row
cut_row = row_for (codes "cut") (OldNode ∷ BearerNumber ∷ []) (λ node bearer. calls node (call.Cut bearer))

-- `tick n`: a tick passes at node n
abbrev pub tick_row : Row
tick_row = row_for (codes "tick") (OldNode ∷ []) (λ node. calls node call.Tick)

-- `restart n`: begins the next boot of node n
abbrev pub restart_row : Row
restart_row = row_for (codes "restart") (OldNode ∷ []) (λ node. Ends (line.Restart node))

-- `link a b x`: bearer x is mended at nodes a and b where it is cut, and the frames that this sends arrive at the two
abbrev pub link_row : Row
link_row = row_for (codes "link") (OldNode ∷ OldNode ∷ BearerNumber ∷ []) (λ first second bearer. Ends (line.Link first second bearer))

-- `mark`: places of frames count from here on
abbrev pub mark_row : Row
mark_row = row_for (codes "mark") [] (Ends line.Mark)

-- `socket n`: makes a socket at node n
abbrev pub socket_row : Row
socket_row = row_for (codes "socket") (OldNode ∷ []) (λ node. calls node call.Socket)

-- `close n p`: closes the socket of port p at node n
abbrev pub close_row : Row
close_row = row_for (codes "close") (OldNode ∷ AnyNumber ∷ []) (λ node port. calls node (call.Close port))

-- the call that offers a range of instances of a service type
abbrev pub offering : ℕ → ℕ → ℕ → ℕ → Scope → ℕ → EventNote
offering port kind lower upper scope key = call.Publish port (record { kind = kind; lower = lower; upper = upper }) scope key

-- `publish n p type lower upper scope key`: port p of node n offers a range of instances of a service type
abbrev pub publish_row : Row
publish_row =
    row_for (codes "publish") (OldNode ∷ AnyNumber ∷ AnyNumber ∷ AnyNumber ∷ AnyNumber ∷ ScopeWord ∷ AnyNumber ∷ [])
    (λ node port kind lower upper scope key. calls_in_range lower upper node (offering port kind lower upper scope key))

-- `withdraw n p key`: port p of node n no longer offers the publication of this key
abbrev pub withdraw_row : Row
withdraw_row = row_for (codes "withdraw") (OldNode ∷ AnyNumber ∷ AnyNumber ∷ []) (λ node port key. calls node (call.Withdraw port key))

-- the number of a filter
abbrev pub filter_number : Filter → ℕ
filter_number filter.Ports = 1
filter_number filter.Service = 2

-- the handle of a script's subscribers
abbrev pub no_handle : List ℕ
no_handle = 0 ∷ 0 ∷ 0 ∷ 0 ∷ 0 ∷ 0 ∷ 0 ∷ 0 ∷ []

-- what a line subscribes to
abbrev pub wished : ℕ → ℕ → ℕ → ℕ → Filter → Subscription
wished kind lower upper timeout filter =
    record { range_kind = kind; lower = lower; upper = upper; timeout = timeout; filter = filter_number filter; handle = no_handle }

-- `subscribe n type lower upper timeout filter`: begins a subscription at node n, which lasts so many ticks
abbrev pub subscribe_row : Row
subscribe_row =
    row_for (codes "subscribe") (OldNode ∷ AnyNumber ∷ AnyNumber ∷ AnyNumber ∷ AnyNumber ∷ FilterWord ∷ [])
    (λ node kind lower upper timeout filter. calls_in_range lower upper node (call.Subscribe (wished kind lower upper timeout filter)))

-- `event n s`: takes the next event of subscription s of node n
abbrev pub event_row : Row
event_row = row_for (codes "event") (OldNode ∷ AnyNumber ∷ []) (λ node number. calls node (call.NextEvent number))

-- `cancel n s`: ends subscription s of node n
abbrev pub cancel_row : Row
cancel_row = row_for (codes "cancel") (OldNode ∷ AnyNumber ∷ []) (λ node number. calls node (call.Cancel number))

-- a node is called to send a message: once, or up to so many times
abbrev pub sent_line : Option ℕ → ℕ → EventNote → Line
sent_line None node call = line.Call node call
sent_line (Some times) node call = line.Repeat times node call

-- what stands behind the word that tells the form of a destination: for `name` the service type and the instance, for
-- `port` the node and its port, for `cast` the service type and the bounds, and for each the importance and the body
abbrev pub sends_by : SendForm → Option ℕ → ℕ → ℕ → Shape
sends_by form.Name times node port =
    shape_of (AnyNumber ∷ AnyNumber ∷ ImportanceWord ∷ BodyText ∷ [])
    (λ kind instance importance body. Ends (sent_line times node (call.SendName port kind instance importance body)))
sends_by form.Port times node port =
    shape_of (AnyNode ∷ AnyNumber ∷ ImportanceWord ∷ BodyText ∷ [])
    (λ to_node to_port importance body. Ends (sent_line times node (call.SendPort port (port_at to_node to_port) importance body)))
sends_by form.Cast times node port =
    shape_of (AnyNumber ∷ AnyNumber ∷ AnyNumber ∷ ImportanceWord ∷ BodyText ∷ [])
    (λ kind lower upper importance body. Ends (sent_line times node (call.Multicast port kind lower upper importance body)))

-- what stands behind `send`: the node, its port, the form of the destination, and what follows that form
abbrev pub sending : Option ℕ → Shape
sending times = shape_of (OldNode ∷ AnyNumber ∷ FormWord ∷ []) (λ node port by. sends_by by times node port)

-- `send n p port m q importance body`, `send n p name type instance importance body`,
-- `send n p cast type lower upper importance body`: sends a message from port p of node n
abbrev pub send_row : Row
send_row = record { word = codes "send"; shape = sending None }

-- `repeat c send ..`: sends that message up to c times
abbrev pub repeat_row : Row
repeat_row = row_for (codes "repeat") (TimesNumber ∷ SendWord ∷ []) (λ times send. sending (Some times))

-- `arrive n x k`: frame k of bearer x arrives at node n
abbrev pub arrive_row : Row
arrive_row = row_for (codes "arrive") (OldNode ∷ BearerNumber ∷ FrameNumber ∷ []) (λ node bearer frame. Ends (line.Arrive node bearer frame))

-- `receive n p`: takes the next message of port p at node n
abbrev pub receive_row : Row
receive_row = row_for (codes "receive") (OldNode ∷ AnyNumber ∷ []) (λ node port. calls node (call.Receive port))

-- `drain n p`: takes all messages of port p at node n
abbrev pub drain_row : Row
drain_row = row_for (codes "drain") (OldNode ∷ AnyNumber ∷ []) (λ node port. Ends (line.Drain node port))

-- `burst n p m q c body`: sends a message from port p of node n to port q of node m, lets frames arrive and receives
-- it, up to c times
abbrev pub burst_row : Row
burst_row =
    row_for (codes "burst") (OldNode ∷ AnyNumber ∷ OldNode ∷ AnyNumber ∷ TimesNumber ∷ BodyText ∷ [])
    (λ node port to_node to_port times body. Ends (line.Burst node port to_node to_port times body))

-- `pump x`: lets the frames of bearer x arrive
abbrev pub pump_row : Row
pump_row = row_for (codes "pump") (BearerNumber ∷ []) (λ bearer. Ends (line.Pump bearer))

-- `settle r`: lets r rounds of ticks and arrivals pass
abbrev pub settle_row : Row
settle_row = row_for (codes "settle") (RoundsNumber ∷ []) (λ rounds. Ends (line.Settle rounds))

-- `air x`: tells how many frames were sent on bearer x
abbrev pub air_row : Row
air_row = row_for (codes "air") (BearerNumber ∷ []) (λ bearer. Ends (line.Air bearer))

-- `show x k`: shows frame k of bearer x
abbrev pub show_row : Row
show_row = row_for (codes "show") (BearerNumber ∷ FrameNumber ∷ []) (λ bearer frame. Ends (line.Show bearer frame))

-- `links n`: tells the link ends of node n
abbrev pub links_row : Row
links_row = row_for (codes "links") (OldNode ∷ []) (λ node. Ends (line.Links node))

-- `table n`: tells which services node n knows
abbrev pub table_row : Row
table_row = row_for (codes "table") (OldNode ∷ []) (λ node. Ends (line.Table node))

-- `flow a b`: counts the messages from node a to node b in their contact
abbrev pub flow_row : Row
flow_row = row_for (codes "flow") (OldNode ∷ OldNode ∷ []) (λ from to. Ends (line.Flow from to))

-- the rows of lines about frames and links
abbrev pub frame_rows : List Row
frame_rows = arrive_row ∷ pump_row ∷ settle_row ∷ air_row ∷ show_row ∷ links_row ∷ table_row ∷ flow_row ∷ []

-- the rows of lines about messages, frames and links
abbrev pub traffic_rows : List Row
traffic_rows = send_row ∷ repeat_row ∷ receive_row ∷ drain_row ∷ burst_row ∷ frame_rows

-- the rows of lines about subscriptions and all of these
abbrev pub subscription_rows : List Row
subscription_rows = subscribe_row ∷ event_row ∷ cancel_row ∷ traffic_rows

-- the rows of lines about sockets, services and all of these
abbrev pub service_rows : List Row
service_rows = socket_row ∷ close_row ∷ publish_row ∷ withdraw_row ∷ subscription_rows

-- the whole grammar: the rows of all first words
abbrev pub rows : List Row
rows = node_row ∷ mend_row ∷ cut_row ∷ tick_row ∷ restart_row ∷ link_row ∷ mark_row ∷ service_rows

-- the row of these that has this first word
abbrev pub row_among : List Row → List ℕ → Option Row
row_among [] word = None
row_among (row ∷ rows) word = if bytes_eq word row.word then Some row else row_among rows word

-- the row of a first word
unfoldable pub row_of : List ℕ → Option Row
row_of word = row_among rows word

-- A text asks for a line: it is a remark, which asks for nothing; or it is the first word of a row, and words that are
-- spelled in the shape behind that word, with single spaces between them.
pub data Asks (text : List ℕ) : Line → Type 0 where
  by_remark : is_remark text ≡ true → Asks text line.Nothing
  by_row : (row : Row) (words : List (List ℕ)) (wanted : Line)
      → row_of row.word ≡ Some row → text ≡ spaced (row.word ∷ words) → Spells row.shape words wanted
      → Asks text wanted

-- what the tokens behind a first word ask for; a first word that has no row asks for nothing
abbrev pub asked_by : Option Row → Left → Line
asked_by None left = line.Nothing
asked_by (Some row) left = line_in row.shape left

-- what a line asks for
unfoldable pub asked : List ℕ → Line
asked text = if is_remark text then line.Nothing else asked_by (row_of (first_token (whole text))) (behind (whole text))

-- the nodes behind a first word; none where it has no row
abbrev pub nodes_by : Option Row → Left → List NodeToken
nodes_by None left = []
nodes_by (Some row) left = nodes_in row.shape left

-- the nodes that a line asks something of, from the left
unfoldable pub nodes_of : List ℕ → List NodeToken
nodes_of text = if is_remark text then [] else nodes_by (row_of (first_token (whole text))) (behind (whole text))
