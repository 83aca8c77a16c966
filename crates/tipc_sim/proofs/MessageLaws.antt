-- Messages that are sent and received again and again, step by step.
use Rattle.std.proofs.Common.{◌≡◌, ℕ, ◌+◌, ◌<◌, ◌≤◌, Bool, true, List, Result, Ok, Err, refl, sym, ap, subst, ◌∙◌, inr, arith}
use Rattle.tipc_types.specs.declared.node_calls.EventNote.TheVariants as call
use Rattle.tipc_types.specs.declared.node_calls.EventNote.{EventNote}
use Rattle.tipc_types.specs.declared.node_calls.Answer.{Answer}
use Rattle.tipc_script.specs.declared.lines.Line.{Line}
use Rattle.tipc_script.specs.declared.lines.Line.TheVariants.{Burst, Drain, Repeat}
use Rattle.tipc_report.specs.declared.told.Told.{Told}
use Rattle.tipc_replay.specs.declared.events.WorldEvent.{WorldEvent}
use Rattle.tipc_replay.specs.declared.events.WorldEvent.TheVariants as event
use Rattle.tipc_world.specs.declared.faults.WorldFault.{WorldFault}
use Rattle.tipc_world.specs.Events.{CanHappen}
use Rattle.tipc_world.specs.States.{WorldState, WorldView}
use Rattle.tipc_sim.specs.declared.messages.Socket.{Socket}
use Rattle.tipc_world.specs.declared.places.Places.{Places}
use Rattle.tipc_world.specs.Courses.{Continues, Once}
use Rattle.tipc_world.proofs.Continuing.{continues_more}
use Rattle.tipc_sim.specs.Meanings.{Pumps}
use Rattle.tipc_sim.specs.Happenings.{beside, told_of, Conversed, Moves, Repeated}
use Rattle.tipc_sim.specs.Messages.{is_call, is_message, is_sent, low_message, Bursts, FollowsSending, PumpsAndReceives, PumpsBoth, ReceivesAll, Repeats, go_on, SendsAgain, Turn, MakesTurns}
use Rattle.tipc_sim.specs.Noted.{NotesState}

-- a message that can be sent can be sent later
pub send_can : {P : Type 0} {gives : P → ℕ → ℕ → ℕ → Type 0} (old new : WorldView P) (send : WorldEvent) → Continues gives old new → is_call send ≡ true → CanHappen old.state send → CanHappen new.state send
send_can old new (event.Call node call) continues e can = (continues.nodes node ∙ can.0, can.1)
send_can old new (event.Restart node) continues e can = absurd cc
send_can old new (event.Arrive node bearer place) continues e can = absurd cc

-- the next message was stopped
pub send_halts : (times : ℕ) (send : WorldEvent) (start : WorldState) (count : ℕ) (before now : WorldState) (f : WorldFault) → count < times → Repeats send is_sent start count before → Once send before (Err f) now
    → SendsAgain times send start (Err f) now
send_halts times send start count before now stop fewer passed stopped = (record { count = count; before = before; passed = passed; stopped = stopped }, fewer)

-- the next receive was stopped
pub receive_halts : (node port : ℕ) (start : WorldState) (count : ℕ) (before now : WorldState) (f : WorldFault) → Repeats (event.Call node (call.Receive port)) is_message start count before
    → Once (event.Call node (call.Receive port)) before (Err f) now → ReceivesAll node port start (Err f) now
receive_halts node port start count before now stop passed stopped = record { count = count; before = before; passed = passed; stopped = stopped }

-- how many events a receive leaves
pub receive_counts : (old : WorldState) (node port : ℕ) (new : WorldState) (answer : Answer) → Once (event.Call node (call.Receive port)) old (Ok answer) new → (old.events < 300000) × (new.events ≡ old.events + 1)
receive_counts old node port new answer made = (made.answered.free.below refl, made.answered.step.events)

-- one message more was received
pub received_more : {P : Type 0} {gives : P → ℕ → ℕ → ℕ → Type 0} (start old new : WorldView P) (node port count : ℕ) (answer : Answer) → Repeats (event.Call node (call.Receive port)) is_message start.state count old.state
    → Continues gives start old → count ≤ old.state.events → Once (event.Call node (call.Receive port)) old.state (Ok answer) new.state → Continues gives old new → is_message answer ≡ true
    → Repeats (event.Call node (call.Receive port)) is_message start.state (count + 1) new.state × Continues gives start new × (count + 1 ≤ new.state.events)
received_more start old new node port count answer passed continues fewer once more is =
    let counts = receive_counts old.state node port new.state answer once in
    (go_on count old.state answer new.state passed once is, continues_more start old new continues more, omega (arith, fewer, counts.1))

-- the frames of bearer 0 were pumped, and an arrival on bearer 1 was stopped
pub second_halts : (places : Places) (start between now : WorldState) (first : Told) (f : WorldFault) → Pumps 0 places.first start (Ok first) between → Pumps 1 places.second between (Err f) now
    → PumpsBoth places start (Err f) now
second_halts places start between now first stop came stopped = inr (between, first, came, stopped)

-- frames were pumped, and the receive was stopped
pub last_halts : (places : Places) (receive : WorldEvent) (start between now : WorldState) (ends : Places) (f : WorldFault) → PumpsBoth places start (Ok ends) between → Once receive between (Err f) now
    → PumpsAndReceives places receive start (Err f) now
last_halts places receive start between now ends stop came stopped = inr (between, ends, came, stopped)

-- a message was sent, and then frames are pumped and a message is received
pub turn_goes_on : (send receive : WorldEvent) (places : Places) (start between now : WorldState) (answer : Answer) (came : Result (Bool × Places) WorldFault) → Once send start (Ok answer) between → is_sent answer ≡ true
    → PumpsAndReceives places receive between came now → Turn send receive places start came now
turn_goes_on send receive places start between now answer (Ok value) once sent came = (between, answer, once, subst (λ b. FollowsSending b places receive between (Ok value) now) (sym sent) came)
turn_goes_on send receive places start between now answer (Err stop) once sent came = inr (between, answer, once, subst (λ b. FollowsSending b places receive between (Err stop) now) (sym sent) came)

-- an event of the next turn was stopped
pub turn_halts : (times : ℕ) (send receive : WorldEvent) (first : Places) (start : WorldState) (count : ℕ) (places : Places) (before now : WorldState) (f : WorldFault) → count < times → MakesTurns send receive first start count places before
    → Turn send receive places before (Err f) now → Bursts times send receive first start (Err f) now
turn_halts times send receive first start count places before now stop fewer made stopped = record { count = count; fewer = fewer; places = places; before = before; made = made; stopped = stopped }

-- a line of another kind than these three leaves everything as it is
pub stays : (line : Line) (notes : NotesState) (w : WorldState) (given : Told)
    → ((times node : ℕ) (call : EventNote) → line ≡ Repeat times node call → ⊥) → ((node port : ℕ) → line ≡ Drain node port → ⊥)
    → ((node port to_node to_port times : ℕ) (body : List ℕ) → line ≡ Burst node port to_node to_port times body → ⊥) → given ≡ told_of line notes w → Conversed line notes w (Ok (given, notes)) w
stays (Repeat times node call) notes w given repeat drain burst e = absurd (repeat times node call refl)
stays (Drain node port) notes w given repeat drain burst e = absurd (drain node port refl)
stays (Burst node port to_node to_port times body) notes w given repeat drain burst e = absurd (burst node port to_node to_port times body refl)
stays other notes w given repeat drain burst e = (refl, ap (λ told. (told, notes)) e)

-- a line that sends again and again comes to what the sending of its message comes to
pub repeats_line : (line : Line) (times node : ℕ) (call : EventNote) (notes : NotesState) (start now : WorldState) (came : Result Told WorldFault) → line ≡ Repeat times node call
    → Repeated (SendsAgain times (event.Call node call)) notes start (beside came notes) now → Conversed line notes start (beside came notes) now
repeats_line line times node call notes start now came is h = subst (λ l. Conversed l notes start (beside came notes) now) (sym is) h

-- a line that bursts comes to what its bursts come to
pub bursts_line : (line : Line) (node port to_node to_port times : ℕ) (body : List ℕ) (at : Socket) (message : WorldEvent) (notes : NotesState) (start now : WorldState) (came : Result (Told × NotesState) WorldFault)
    → line ≡ Burst node port to_node to_port times body → at ≡ record { node = to_node; port = to_port } → message ≡ low_message node port at.node at.port body
    → Moves (Bursts times message (event.Call at.node (call.Receive at.port)) notes.places) notes start came now → Conversed line notes start came now
bursts_line line node port to_node to_port times body at message notes start now came is there sends h =
    let sent : message ≡ low_message node port to_node to_port body = subst (λ (a : Socket). message ≡ low_message node port a.node a.port body) there sends in
    let comes = subst (λ (a : Socket). Moves (Bursts times message (event.Call a.node (call.Receive a.port)) notes.places) notes start came now) there h in
    subst (λ l. Conversed l notes start came now) (sym is) (subst (λ m. Moves (Bursts times m (event.Call to_node (call.Receive to_port)) notes.places) notes start came now) sent comes)
