-- The links of a node that are up, as senders: their epochs are those of their ends, and their unacknowledged packets are as they waited.
use Rattle.std.proofs.Common.{◌≡◌, ◌<◌, ◌^◌, ◌+◌, ℕ, suc, All, List, [], ◌∷◌, Some, refl, ap, ◌∙◌, subst, arith}
use Rattle.std.specs.Prelude.{slice_get}
use Rattle.std.proofs.lemmas.List.Elements.{All-cons, All-nil}
use Rattle.tipc_header.specs.declared.packet.Header.{Header}
use Rattle.tipc_header.specs.declared.packet.Header.TheVariants as header
use Rattle.tipc_header.specs.Frames.{sent_as}
use Rattle.tipc_header.specs.Grammar.{Fits}
use Rattle.tipc_header.specs.Spelling.{Fields, spelling}
use Rattle.tipc_send_window.specs.Sending.{acked_of}
use Rattle.tipc_link.specs.Sessions.{Carries, as_waiting, content_by, content_of, previous_waiting}
use Rattle.tipc_link.proofs.Directions.{slice_get-drop}
use Rattle.tipc_link.proofs.Standing.{waiting_fits}
use Rattle.tipc_pair.specs.PairArrivals.{restored}
use Rattle.tipc_pair.proofs.Restoring.{restored_spelled}
use Rattle.tipc_two_nodes.specs.links.Turning.{IsUnderOwn}
use Rattle.tipc_paired.proofs.Facts.{up_on_record}
use Rattle.tipc_paired.proofs.sessions.SessionDeeds.{epoch_small}
use Rattle.tipc_paired.proofs.wires.Wires.{session_of_up}
use Rattle.tipc_paired.specs.Deeds.{IsUp}
use Rattle.tipc_paired.specs.Paired.{ArePaired, IsPacket}
use Rattle.tipc_paired.specs.Views.{View}

-- a packet that waited is as it waits
waiting_again : (h : Header) (previous : ℕ) → previous_waiting h (previous_waiting h previous) ≡ previous_waiting h previous
waiting_again (header.Bundler b) previous = refl
waiting_again (header.Changeover c) previous = refl
waiting_again (header.Fragmenter f) previous = refl
waiting_again other previous = refl

restored_waiting : (p : Fields) → Fits p → restored (spelling (as_waiting p)) ≡ spelling (as_waiting p)
restored_waiting p fits = restored_spelled (as_waiting p) (waiting_fits p fits) ∙ ap (λ previous. spelling (sent_as 0 0 previous p)) (waiting_again p.header p.previous)

-- what a frame carries is its packet as it waited
carries_packet : (h : Header) (sequence number : ℕ) (packet bytes : List ℕ) → content_by h sequence packet ≡ Carries number bytes → packet ≡ bytes
carries_packet (header.State s) sequence number packet bytes is = absurd (let wrong : ⊥ = cc in wrong)
carries_packet (header.Reset r) sequence number packet bytes is = absurd (let wrong : ⊥ = cc in wrong)
carries_packet (header.Activate a) sequence number packet bytes is = absurd (let wrong : ⊥ = cc in wrong)
carries_packet (header.Discovery d) sequence number packet bytes is = absurd (let wrong : ⊥ = cc in wrong)
carries_packet other sequence number packet bytes is = (let same : packet ≡ bytes = cc in same)

-- a packet that a node can put on a link is as it waits
packet_restored : (own : ℕ) (bytes : List ℕ) → own < 2 ^ 32 → IsPacket own bytes → restored bytes ≡ bytes
unfolding content_of
packet_restored own bytes small p =
    let q = sent_as 0 0 own p.packet in
    let same : spelling (as_waiting q) ≡ bytes = carries_packet q.header q.sequence 0 (spelling (as_waiting q)) bytes (p.carried 0 0) in
    subst (λ packet. restored packet ≡ packet) same (restored_waiting q (p.fits 0 0 (omega arith) (omega arith) small))

each_all : (P : List ℕ → Type 0) (packets : List (List ℕ)) → ((k : ℕ) (packet : List ℕ) → slice_get packets k ≡ Some packet → P packet) → All P packets
each_all P [] each = All-nil P
each_all P (packet ∷ packets) each = All-cons P packet packets (each 0 packet refl) (each_all P packets (λ k other there. each (suc k) other there))

-- each link of a node is under its end's epoch
pub under_own : (x y : View) (b : ℕ) → ArePaired x y → IsUnderOwn (x.wires b).end
under_own x y b h e s is up session =
    let on : IsUp (x.wires b) e s = record { end_is = is; up = up; session_is = session } in
    let end = h.here.ends b e is in
    let sends = ((h.here.wires b).going s (session_of_up (x.wires b) e s on)).sends in
    record {
      epoch = (up_on_record x y b e s h on).0;
      fits = epoch_small e.fsm.own x.node.boot end.boot h.here.node.boot;
      waited = each_all (λ packet. restored packet ≡ packet) s.sending.unacked (λ k packet there. packet_restored x.node.own packet h.here.node.own (
          (h.here.wires b).packets s.epoch (acked_of s.sending + k) packet (slice_get-drop (acked_of s.sending) ((x.wires b).line s.epoch) k packet (ap (λ ps. slice_get ps k) sends.kept ∙ there))));
    }
