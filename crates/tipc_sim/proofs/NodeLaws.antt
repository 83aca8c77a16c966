-- A line without fault can be done.
use Rattle.std.proofs.Common.{◌≡◌, ℕ, ◌≤◌, ◌++◌, leb, Bool, true, false, not, IfSome, Option, Some, None, List, [], ◌∷◌, refl, sym, subst, ◌∙◌, inl, inr}
use Rattle.std.specs.List.{AllByRecursion}
use Rattle.std.proofs.lemmas.Bool.{cases_Bool}
use Rattle.tipc_types.specs.declared.node_calls.EventNote.{EventNote}
use Rattle.tipc_types.specs.declared.node_calls.EventNote.TheVariants as call
use Rattle.tipc_script.specs.declared.lines.Line.{Line}
use Rattle.tipc_script.specs.declared.lines.Line.TheVariants.{Node, Call, Restart, Arrive}
use Rattle.tipc_script.specs.declared.lines.NodeToken.{NodeToken}
use Rattle.tipc_script.specs.declared.lines.SendForm.{SendForm}
use Rattle.tipc_script.specs.declared.lines.SendForm.TheVariants as form
use Rattle.tipc_script.specs.declared.faults.LineWhy.TheVariants as why
use Rattle.tipc_script.specs.Splitting.{Left, whole, first_token, behind}
use Rattle.tipc_script.specs.Kinds.{Kind, NewNode, OldNode, is_remark, number_of, takes}
use Rattle.tipc_script.specs.Values.{IsValueOf, ValueOf, value_of}
use Rattle.tipc_script.specs.Shapes.{Ends, Shape, Token, line_in, node_in, nodes_in}
use Rattle.tipc_script.specs.Grammar.{Row, asked, asked_by, calls_in_range, frame_rows, nodes_by, nodes_of, offering, row_of, rows, sending, sends_by, sent_line, service_rows, subscription_rows, traffic_rows, wished, node_row, mend_row, cut_row, tick_row, restart_row, link_row, mark_row, socket_row, close_row, publish_row, withdraw_row, subscribe_row, event_row, cancel_row, send_row, repeat_row, receive_row, drain_row, burst_row, arrive_row, pump_row, settle_row, air_row, show_row, links_row, table_row, flow_row}
use Rattle.tipc_script.specs.Spelling.{port_at}
use Rattle.tipc_script.specs.Faults.{fault_by, fault_in, fault_of, row_fault, why_not}
use Rattle.tipc_script.proofs.Reading.{or_none, row_found, taken}
use Rattle.tipc_script.proofs.Values.{token_written}
use Rattle.tipc_node.specs.Calls.{CanPerform}
use Rattle.tipc_replay.specs.declared.events.WorldEvent.{WorldEvent}
use Rattle.tipc_world.specs.Events.{CanHappen}
use Rattle.tipc_world.specs.States.{WorldState, is_there}
use Rattle.tipc_sim.specs.Happenings.{event_of}
use Rattle.tipc_sim.specs.Noted.{NotesState}
use Rattle.tipc_sim.specs.Nodes.{is_misplaced, makes, node_fault, fault_where, CanBeDone}

-- without a fault, the first node is as it has to be, and so are the others
first_in_place : (there : ℕ → Bool) (token : NodeToken) (tokens : List NodeToken) → node_fault there (token ∷ tokens) ≡ None → (is_misplaced there token ≡ false) × (node_fault there tokens ≡ None)
first_in_place there token tokens e =
    elim (cases_Bool (is_misplaced there token)) [
      | inl wrong ↦ absurd (let f : node_fault there (token ∷ tokens) ≡ Some (token.place, why.Node) = rw wrong refl in cc)
      | inr right ↦ (right, (let f : node_fault there (token ∷ tokens) ≡ node_fault there tokens = rw right refl in sym f ∙ e))
    ]

not_absent : (b : Bool) → not b ≡ false → b ≡ true
not_absent true e = refl
not_absent false e = absurd cc

-- a token's node is as it has to be
abbrev IsInPlace : (ℕ → Bool) → (kind : Kind) → ValueOf kind → Type 0
IsInPlace there NewNode node = there node ≡ false
IsInPlace there OldNode node = there node ≡ true
IsInPlace there other value = Unit {0}

node_in_place : (there : ℕ → Bool) (kind : Kind) (left : Left) (others : List NodeToken) → node_fault there (node_in kind left ++ others) ≡ None
    → IsInPlace there kind (value_of kind (first_token left)) × (node_fault there others ≡ None)
node_in_place there NewNode left others e = first_in_place there (record { place = left.place; node = number_of (first_token left); there = false }) others e
node_in_place there OldNode left others e =
    let first = first_in_place there (record { place = left.place; node = number_of (first_token left); there = true }) others e in
    (not_absent _ first.0, first.1)
node_in_place there other left others e = (tt, e)

-- what is asked for in a shape can be done, by whatever values, where they fit and their nodes are in place
abbrev CanDo : (ℕ → Bool) → Shape → Type 0
CanDo there (Ends line) = CanBeDone there line
CanDo there (Token kind rest) = (value : ValueOf kind) → IsValueOf kind value → IsInPlace there kind value → CanDo there (rest value)

tokens_can : (there : ℕ → Bool) (shape : Shape) (left : Left) → CanDo there shape → fault_in shape left ≡ None → node_fault there (nodes_in shape left) ≡ None → CanBeDone there (line_in shape left)
tokens_can there (Ends line) left can sound e = can
tokens_can there (Token kind rest) left can sound e =
    let value = value_of kind (first_token left) in
    let parts = or_none _ _ sound in
    let token = token_written kind (first_token left) (taken (takes kind) (why_not kind) left parts.0).passes in
    let node = node_in_place there kind left (nodes_in (rest value) (behind left)) e in
    tokens_can there (rest value) (behind left) (can value token.fits node.0) parts.1 node.1

-- ---- each row

-- what a line of a row asks for can be done
abbrev CanRow : Row → Type 0
CanRow row = (there : ℕ → Bool) → CanDo there row.shape

-- a node is called with a range only where that has instances
ranged_can : (there : ℕ → Bool) (lower upper node : ℕ) (call : EventNote) → there node ≡ true → CanPerform call → CanDo there (calls_in_range lower upper node call)
ranged_can there lower upper node call here can = elim (cases_Bool (leb lower upper)) [ inl some ↦ rw some (here, can) | inr none ↦ rw none here ]

-- a message is sent once, or up to so many times
sent_can : (there : ℕ → Bool) (times : Option ℕ) (node : ℕ) (call : EventNote) → IfSome times (λ n. 1 ≤ n) → there node ≡ true → CanPerform call → CanBeDone there (sent_line times node call)
sent_can there None node call some here can = (here, can)
sent_can there (Some times) node call some here can = (here, can, some)

sends_by_can : (there : ℕ → Bool) (by : SendForm) (times : Option ℕ) (node port : ℕ) → IfSome times (λ n. 1 ≤ n) → there node ≡ true → CanDo there (sends_by by times node port)
sends_by_can there form.Name times node port some here =
    λ kind _ _ instance _ _ importance _ _ body _ _. sent_can there times node (call.SendName port kind instance importance body) some here tt
sends_by_can there form.Port times node port some here =
    λ to_node _ _ to_port _ _ importance _ _ body _ _. sent_can there times node (call.SendPort port (port_at to_node to_port) importance body) some here tt
sends_by_can there form.Cast times node port some here =
    λ kind _ _ lower _ _ upper _ _ importance _ _ body _ _. sent_can there times node (call.Multicast port kind lower upper importance body) some here tt

sending_can : (there : ℕ → Bool) (times : Option ℕ) → IfSome times (λ n. 1 ≤ n) → CanDo there (sending times)
sending_can there times some node _ here port _ _ by _ _ = sends_by_can there by times node port some here

arrive_can : CanRow arrive_row
arrive_can there node _ here bearer low _ frame _ _ = (here, low)

pump_can : CanRow pump_row
pump_can there bearer low _ = low

settle_can : CanRow settle_row
settle_can there rounds _ _ = tt

air_can : CanRow air_row
air_can there bearer _ _ = tt

show_can : CanRow show_row
show_can there bearer _ _ frame _ _ = tt

links_can : CanRow links_row
links_can there node is here = (here, is)

table_can : CanRow table_row
table_can there node is here = (here, is)

flow_can : CanRow flow_row
flow_can there from is-from from-here to is-to to-here = (from-here, to-here, is-from, is-to)

frames_can : AllByRecursion CanRow frame_rows
frames_can = (arrive_can, (pump_can, (settle_can, (air_can, (show_can, (links_can, (table_can, (flow_can, tt))))))))

send_can : CanRow send_row
send_can there = sending_can there None tt

repeat_can : CanRow repeat_row
repeat_can there times is _ send _ _ = sending_can there (Some times) is.0

receive_can : CanRow receive_row
receive_can there node _ here port _ _ = (here, tt)

drain_can : CanRow drain_row
drain_can there node _ here port _ _ = here

burst_can : CanRow burst_row
burst_can there node _ here port _ _ to_node is to_here to_port _ _ times _ _ body _ _ = (here, to_here, is)

traffic_can : AllByRecursion CanRow traffic_rows
traffic_can = (send_can, (repeat_can, (receive_can, (drain_can, (burst_can, frames_can)))))

subscribe_can : CanRow subscribe_row
subscribe_can there node _ here kind _ _ lower _ _ upper _ _ timeout _ _ filter _ _ = ranged_can there lower upper node (call.Subscribe (wished kind lower upper timeout filter)) here tt

event_can : CanRow event_row
event_can there node _ here number _ _ = (here, tt)

cancel_can : CanRow cancel_row
cancel_can there node _ here number _ _ = (here, tt)

subscriptions_can : AllByRecursion CanRow subscription_rows
subscriptions_can = (subscribe_can, (event_can, (cancel_can, traffic_can)))

socket_can : CanRow socket_row
socket_can there node _ here = (here, tt)

close_can : CanRow close_row
close_can there node _ here port _ _ = (here, tt)

publish_can : CanRow publish_row
publish_can there node _ here port _ _ kind _ _ lower _ _ upper _ _ scope _ _ key _ _ = ranged_can there lower upper node (offering port kind lower upper scope key) here tt

withdraw_can : CanRow withdraw_row
withdraw_can there node _ here port _ _ key _ _ = (here, tt)

services_can : AllByRecursion CanRow service_rows
services_can = (socket_can, (close_can, (publish_can, (withdraw_can, subscriptions_can))))

node_can : CanRow node_row
node_can there node is absent = (is, absent)

mend_can : CanRow mend_row
mend_can there node _ here bearer low _ = (here, low)

cut_can : CanRow cut_row
cut_can there node _ here bearer low _ = (here, low)

tick_can : CanRow tick_row
tick_can there node _ here = (here, tt)

restart_can : CanRow restart_row
restart_can there node _ here = here

link_can : CanRow link_row
link_can there first _ first-here second _ second-here bearer low _ = (first-here, second-here, low)

mark_can : CanRow mark_row
mark_can there = tt

all_can : AllByRecursion CanRow rows
all_can = (node_can, (mend_can, (cut_can, (tick_can, (restart_can, (link_can, (mark_can, services_can)))))))

-- ---- a line

row_can : (there : ℕ → Bool) (text : List ℕ) (row : Option Row) → row_of (first_token (whole text)) ≡ row → fault_by row (behind (whole text)) ≡ None
    → node_fault there (nodes_by row (behind (whole text))) ≡ None → CanBeDone there (asked_by row (behind (whole text)))
unfolding row_of row_fault
row_can there text None found sound e = tt
row_can there text (Some row) found sound e =
    tokens_can there row.shape (behind (whole text)) ((row_found CanRow rows (first_token (whole text)) row all_can found).0 there) sound e

can_be_done : (there : ℕ → Bool) (text : List ℕ) → fault_of text ≡ None → node_fault there (nodes_of text) ≡ None → CanBeDone there (asked text)
unfolding asked nodes_of fault_of
can_be_done there text sound e =
    elim (cases_Bool (is_remark text)) [
      | inl remark ↦ rw remark tt
      | inr words ↦ rw words (row_can there text (row_of (first_token (whole text))) refl (rw words at sound) (rw words at e))
    ]

-- a line without fault can be done
pub sound_can_be_done : (there : ℕ → Bool) (text : List ℕ) → fault_where there text ≡ None → CanBeDone there (asked text)
unfolding fault_where
sound_can_be_done there text e = let none = or_none _ _ e in can_be_done there text none.0 none.1

inside : {A : Type 0} {x y : A} → Some x ≡ Some y → x ≡ y
inside e = cc

-- the event that a line is can happen where the line can be done
pub can_happen : (w : WorldState) (notes : NotesState) (line : Line) (event : WorldEvent) → CanBeDone (is_there w) line → event_of line notes ≡ Some event → CanHappen w event
can_happen w notes (Call node call) event can e = subst (CanHappen w) (inside e) (can.0, can.1)
can_happen w notes (Restart node) event can e = subst (CanHappen w) (inside e) can
can_happen w notes (Arrive node bearer frame) event can e = subst (CanHappen w) (inside e) (can.0, can.1)
can_happen w notes other event can e = absurd cc

-- a line that is an event makes no node
pub event_makes_none : (line : Line) (notes : NotesState) (event : WorldEvent) (n : ℕ) → event_of line notes ≡ Some event → makes line n ≡ false
event_makes_none (Node node) notes event n e = absurd cc
event_makes_none other notes event n e = refl
