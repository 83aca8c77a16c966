-- A contact in which nothing was put yet; and how many sessions an end has had that is held.
use Rattle.std.proofs.Common.{◌≡◌, ◌≢◌, ◌≤◌, ◌+◌, ◌⊎◌, ℕ, [], refl, ap, sym, ◌∙◌, inl, inr, arith}
use Rattle.tipc_paired.specs.Views.{View}
use Rattle.tipc_changeover.specs.Links.{turned_state, Bearer, EndState, First, Held, Reset, Second, State, Up}
use Rattle.tipc_changeover.specs.Events.{acted, happened, Acknowledge, Event, Failover, LinkUp, Number, Put, Record, Release, Switch, TakePlain, TakeTunnel}
use Rattle.tipc_changeover.specs.Reached.{after, at_begin, begun, IsReached, unused}
use Rattle.tipc_changeover.proofs.Staying.{reached_sound}
use Rattle.tipc_two_nodes.specs.links.Packets.{IsFor}
use Rattle.tipc_two_nodes.specs.links.Receiving.{AreLines}
use Rattle.tipc_two_nodes.specs.links.Sending.{IsSender, SendingEnd, StandFor}
use Rattle.tipc_two_nodes.specs.links.Traffic.{Lines}
use Rattle.tipc_two_nodes.specs.Carriages.{IsHad, ends_in, outset, unsent}

pub cases_up : (state : EndState) → (state ≡ Up) ⊎ (state ≢ Up)
cases_up Up = inl refl
cases_up Reset = inr (λ up. (let wrong : ⊥ = cc in wrong))
cases_up Held = inr (λ up. (let wrong : ⊥ = cc in wrong))

-- ---- the outset

pub outset_lines : (first second : ℕ) → AreLines 0 (outset first second).traffic (outset first second).state
outset_lines first second = record { put = refl; near = λ session. tt; far = λ session. tt }

unused_sender : (bearer first second : ℕ) (e : SendingEnd) → e.epoch ≡ first → e.state ≡ Reset → IsSender (IsFor [] bearer (unsent second)) (unsent first) e unused
unused_sender bearer first second e epoch reset = record {
  epoch = ap (λ n. n + 1) (sym epoch);
  state = sym reset;
  lines = λ session. tt;
  queue = λ up. absurd (let wrong : ⊥ = (let both : Reset ≡ Up = sym reset ∙ up in cc) in wrong);
}

-- two ends that are reset stand for it
pub outset_stands : (x : View) (first second : ℕ) → (ends_in x).near.epoch ≡ first → (ends_in x).near.state ≡ Reset → (ends_in x).far.epoch ≡ second → (ends_in x).far.state ≡ Reset
    → StandFor First (ends_in x) (outset first second).traffic (outset first second).state
outset_stands x first second near near_reset far far_reset = record {
  bearer = refl;
  put = refl;
  near = unused_sender 1 first second (ends_in x).near near near_reset;
  far = unused_sender 0 second first (ends_in x).far far far_reset;
}

-- and no session was had
pub none_had : (l : Lines) (epoch : ℕ) → l.first ≤ epoch → IsHad l unused epoch → ⊥
none_had l epoch low (inl over) = (let wrong : ⊥ = omega arith in wrong)
none_had l epoch low (inr present) = (let up = present.1 in let wrong : ⊥ = cc in wrong)

-- ---- ends that are held

-- an end that is held isn't in its first session
pub record HeldLate (s : State) : Type 0 where
  pub near : s.near.state ≡ Held → 2 ≤ s.near.session
  pub far : s.far.state ≡ Held → 2 ≤ s.far.session

late_turned : (s : State) → HeldLate s → HeldLate (turned_state s)
late_turned s h = record { near = h.far; far = h.near }

late_one : (s : State) (event : Event) → HeldLate s → 1 ≤ s.near.session → HeldLate (acted s event)
late_one s Put h begun = record { near = h.near; far = h.far }
late_one s (Number slot rest) h begun = record { near = h.near; far = h.far }
late_one s (Acknowledge places) h begun = record { near = h.near; far = h.far }
late_one s Release h begun = record { near = λ held. absurd (let wrong : ⊥ = cc in wrong); far = h.far }
late_one s (Record session) h begun = record { near = h.near; far = h.far }
late_one s (TakePlain index) h begun = record { near = h.near; far = h.far }
late_one s (TakeTunnel session place full opening) h begun = record { near = h.near; far = h.far }
late_one s LinkUp h begun = record { near = λ held. absurd (let wrong : ⊥ = cc in wrong); far = h.far }
late_one s Switch h begun = record { near = λ held. absurd (let wrong : ⊥ = cc in wrong); far = h.far }
late_one s Failover h begun = record { near = λ held. omega arith; far = h.far }

late_happened : (b : Bearer) (s : State) (event : Event) → HeldLate s → 1 ≤ s.near.session → 1 ≤ s.far.session → HeldLate (happened b s event)
late_happened First s event h near far = late_one s event h near
late_happened Second s event h near far = late_turned (acted (turned_state s) event) (late_one (turned_state s) event (late_turned s h) far)

pub reached_late : (s : State) → IsReached s → HeldLate s
reached_late _ at_begin = record { near = λ held. absurd (let wrong : ⊥ = cc in wrong); far = λ held. absurd (let wrong : ⊥ = cc in wrong) }
reached_late _ (after b s event reached may) =
    let sound = reached_sound s reached in
    late_happened b s event (reached_late s reached) sound.near.ends.session_begun sound.far.ends.session_begun
