-- An event among the nodes and in the air, put together from what its calls say.
use Rattle.std.proofs.Common.{◌≡◌, ◌<◌, ◌≤◌, ℕ, suc, zero, Bool, true, List, Option, Some, None, [], ◌∷◌, take, refl, sym, ap, ◌∙◌, subst, arith}
use Rattle.std.proofs.Math.Path.{fun_ext}
use Rattle.std.specs.Prelude.{if◌then◌else◌, is_some, option_map, slice_get, slice_index_or, unwrap_or, filter, map}
use Rattle.tipc_types.specs.Address.{node_word}
use Rattle.tipc_types.specs.declared.node_calls.Answer.{Answer}
use Rattle.tipc_types.specs.declared.node_calls.By.{By}
use Rattle.tipc_outside.specs.declared.outgoing.Outgoing.{Outgoing}
use Rattle.tipc_outside.specs.Frames.{Adds, Out, frames_leaving, no_frames}
use Rattle.tipc_node.specs.declared.neighbours.Neighbour.{Neighbour}
use Rattle.tipc_node.specs.Nodes.{neighbour_of}
use Rattle.tipc_replay.specs.declared.air.Sent.{Sent}
use Rattle.tipc_replay.specs.declared.events.WorldEvent.{WorldEvent}
use Rattle.tipc_replay.specs.declared.flying.Met.{Met}
use Rattle.tipc_replay.specs.declared.events.WorldEvent.TheVariants.{Restart, Call, Arrive}
use Rattle.tipc_replay.specs.Air.{airborne, is_on, met_in, met_sender, receiver_of, Emits}
use Rattle.tipc_replay.specs.Skies.{AirState, air_on, with_both}
use Rattle.tipc_replay.specs.Calls.{CanDoAt, CanHappenAt, HasNextBoot, may_end_contact, node_of}
use Rattle.tipc_replay.specs.Due.{frame_for, unarrived}
use Rattle.tipc_replay.specs.Events.{AreSettled, DidAt}
use Rattle.tipc_replay.specs.Members.{sender_of}
use Rattle.tipc_replay.specs.Sound.{IsSound}
use Rattle.tipc_replay.specs.States.{MemberState, contact_at, numbers_at}
use Rattle.tipc_replay.specs.Steps.{stage, Happens, IsArrival}
use Rattle.tipc_replay.proofs.calls.Calls.{the_some}
use Rattle.tipc_replay.proofs.frames.Lasting.{StandsFor, stands_before, stands_sender}
use Rattle.tipc_replay.proofs.LookUps.{member_at-is, pair_at-is}

-- the frame in the air, whichever contact stands beside it
abbrev stamped : List (Option MemberState) → ℕ → Outgoing → ℕ × ℕ → Sent
stamped members a o contact = record (airborne (λ b. None) members a o) { contact = contact }

same_frame : (met met' : ℕ → Option (ℕ × ℕ)) (members : List (Option MemberState)) (a : ℕ) → ((b : ℕ) → unwrap_or (met b) (numbers_at members a b) ≡ unwrap_or (met' b) (numbers_at members a b)) → (o : Outgoing) → airborne met members a o ≡ airborne met' members a o
same_frame met met' members a same o = ap (stamped members a o) (same (receiver_of o.to))

-- what is emitted is the same with contacts that stand for the same
same_emits : (air air' : AirState) (met met' : ℕ → Option (ℕ × ℕ)) (members : List (Option MemberState)) (a : ℕ) (box : Out) (lost : Bool) → ((b : ℕ) → unwrap_or (met b) (numbers_at members a b) ≡ unwrap_or (met' b) (numbers_at members a b))
    → Emits air air' met members a box lost → Emits air air' met' members a box lost
same_emits air air' met met' members a box lost same emits = record {
  count = emits.count;
  air = emits.air ∙ ap (λ f. with_both air (map f (filter (is_on 0) (take emits.count (frames_leaving box)))) (map f (filter (is_on 1) (take emits.count (frames_leaving box))))) (fun_ext (same_frame met met' members a same));
  lost_is = emits.lost_is;
}

-- Beside each frame stands the contact before the event, of those contacts that may end in it.
pub happens_of : (old new : List (Option MemberState)) (air air' : AirState) (met : Met) (by : By) (event : WorldEvent) (bytes : List ℕ) (box box' : Out) (answered : Answer) (lost : Bool)
    → ((b : ℕ) → StandsFor old new (node_of event) met b) → box ≡ no_frames → DidAt old new by event bytes box box' answered → Emits air air' (met_in met) new (node_of event) box' lost → Happens (stage old air) (stage new air') by event bytes answered lost
happens_of old new air air' met by event bytes box box' answered lost stands empty did emits = record {
  before = did.before;
  after = did.after;
  frames = did.did.frames;
  does = did.did.does;
  turns = record {
    was = did.was;
    members = did.new_is;
    leaves = record {
      box = box';
      boxed = subst (λ b. Adds b box' did.did.frames) empty did.did.adds;
      emits = same_emits air air' (met_in met) (contact_at old (node_of event)) new (node_of event) box' lost stands emits;
    };
  };
}

-- an event other than an arrival, of nodes and contacts as the calls see them
pub happens_before : (old before new after : List (Option MemberState)) (air air' : AirState) (met : Met) (by : By) (node : ℕ) (event : WorldEvent) (box box' : Out) (answered : Answer) (lost : Bool)
    → AreSettled old → node ≡ node_of event → before ≡ old → ((b : ℕ) → b ≤ 32 → met_in met b ≡ (if may_end_contact event then contact_at before (node_of event) b else None)) → ((b : ℕ) → 32 < b → met_in met b ≡ None)
    → after ≡ new → box ≡ no_frames → DidAt old new by event [] box box' answered → Emits air air' (met_in met) after node box' lost → Happens (stage old air) (stage new air') by event [] answered lost
happens_before old before new after air air' met by node event box box' answered lost settled at was each beyond now empty did emits =
    let contacts : (b : ℕ) → b ≤ 32 → met_in met b ≡ (if may_end_contact event then contact_at old (node_of event) b else None) =
    λ b low. each b low ∙ ap (λ ms. if may_end_contact event then contact_at ms (node_of event) b else None) was in
    let here = subst (λ n. Emits air air' (met_in met) after n box' lost) at emits in
    happens_of old new air air' met by event [] box box' answered lost (stands_before old new by event [] box box' answered met settled did contacts beyond) empty did
    (subst (λ ms. Emits air air' (met_in met) ms (node_of event) box' lost) now here)

-- an arrival, likewise
pub happens_sender : (old before new after : List (Option MemberState)) (air air' : AirState) (met : Met) (by : By) (node bearer place : ℕ) (bytes : List ℕ) (box box' : Out) (answered : Answer) (lost : Bool)
    → IsSound old air → before ≡ old → met ≡ met_sender before node (sender_of bytes) → after ≡ new → box ≡ no_frames → DidAt old new by (Arrive node bearer place) bytes box box' answered
    → Emits air air' (met_in met) after node box' lost → Happens (stage old air) (stage new air') by (Arrive node bearer place) bytes answered lost
happens_sender old before new after air air' met by node bearer place bytes box box' answered lost sound was met_is now empty did emits =
    let is : met ≡ met_sender old node (sender_of bytes) = met_is ∙ ap (λ ms. met_sender ms node (sender_of bytes)) was in
    happens_of old new air air' met by (Arrive node bearer place) bytes box box' answered lost
    (λ b. subst (λ m. StandsFor old new node m b) (sym is) (stands_sender old new air by node bearer place bytes box box' answered sound did b)) empty did
    (subst (λ ms. Emits air air' (met_in met) ms node box' lost) now emits)

-- a frame arrived
pub arrival_of : (old new : List (Option MemberState)) (air air' : AirState) (by : By) (node bearer place : ℕ) (f : Sent) (answered : Answer) (lost : Bool)
    → frame_for air node bearer place ≡ Some f → unarrived old air node bearer place ≡ None → Happens (stage old air) (stage new air') by (Arrive node bearer place) f.frame answered lost
    → IsArrival (stage old air) (stage new air') by node bearer place answered lost
arrival_of old new air air' by node bearer place f answered lost there arrives happens = record {
  none = λ why stops. absurd cc;
  arrives = λ due. (f, there, happens);
}

-- the frames in the air were sent by nodes
pub senders_of : (members : List (Option MemberState)) (air : AirState) → IsSound members air → (bearer k : ℕ) (f : Sent) → slice_get (air_on bearer air) k ≡ Some f
    → (n : ℕ) × (1 ≤ n) × (n ≤ 32) × (f.from.word ≡ node_word n)
senders_of members air sound bearer k f there = let flies = sound.frames bearer k f there in (flies.from, flies.from_number.0, flies.from_number.1, flies.from_is)

-- ---- what an event needs of its node

pub there_settled : (members : List (Option MemberState)) (n : ℕ) → AreSettled members → is_some (slice_index_or members n None) ≡ true → (1 ≤ n) × (n ≤ 32)
there_settled members n settled there =
    let m = the_some (slice_index_or members n None) there in
    let is = settled n m.0 m.1 in
    (is.from_one, is.to_32)

-- an event that can happen and is no arrival, at the node where it happens
pub can_do : (members : List (Option MemberState)) (event : WorldEvent) → ((node bearer frame : ℕ) → event ≡ Arrive node bearer frame → ⊥) → CanHappenAt members event → HasNextBoot members event → CanDoAt members event
can_do members (Restart node) other can next m was = next m was
can_do members (Call node call) other can next m was = can.1
can_do members (Arrive node bearer frame) other can next m was = absurd (other node bearer frame refl)

pub at_its_node : (members : List (Option MemberState)) (event : WorldEvent) → ((node bearer frame : ℕ) → event ≡ Arrive node bearer frame → ⊥) → CanHappenAt members event → is_some (slice_index_or members (node_of event) None) ≡ true
at_its_node members (Restart node) other can = can
at_its_node members (Call node call) other can = can.0
at_its_node members (Arrive node bearer frame) other can = can.0

-- what stands at a place, whatever would stand beyond the end
pub stands_at : {A : Type 0} (xs : List (Option A)) (k n : ℕ) (o : Option A) → k ≡ n → is_some (slice_index_or xs n None) ≡ true → o ≡ slice_index_or xs k o → slice_index_or xs n None ≡ o
stands_at {A = A} xs k n o same there is = by xs n there (is ∙ ap (λ i. slice_index_or xs i o) same)
  where
    by : (xs : List (Option A)) (n : ℕ) → is_some (slice_index_or xs n None) ≡ true → o ≡ slice_index_or xs n o → slice_index_or xs n None ≡ o
    by [] n there is = absurd cc
    by (x ∷ xs) zero there is = sym is
    by (x ∷ xs) (suc n) there is = by xs n there is

-- ---- what the nodes of every world are

nobody : (o : Option Neighbour) → option_map (λ (x : Neighbour). x.pair) o ≡ None → o ≡ None
nobody None none = refl
nobody (Some x) none = absurd cc

pub settled_of : (members : List (Option MemberState)) (air : AirState) → IsSound members air → AreSettled members
settled_of members air sound n m there =
    let number = sound.numbered n m there in
    record {
      from_one = number.0.0;
      to_32 = number.0.1;
      own = number.1;
      known = λ peer above. nobody (neighbour_of m.node peer) (sym (pair_at-is members n peer m (member_at-is members n m there)) ∙ sound.known n peer (λ is. absurd (let most = is.1 in omega (arith, above, most))));
    }
