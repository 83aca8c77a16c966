-- Places stay near to one another, and what that gives of the numbers that frames and tunnel packets carry.
use Rattle.std.proofs.Common.{◌≡◌, ℕ, ◌+◌, ◌<◌, ◌≤◌, Bool, false, Some, length, ap, ◌∙◌, subst, inl, inr, arith}
use Rattle.std.proofs.lemmas.Bool.{cases_eq, cases_lt}
use Rattle.tipc_changeover.specs.Slots.{at, LinkSlot, Tunnel}
use Rattle.tipc_changeover.specs.Links.{seen, slots, turned_state, Bearer, First, Past, Receiver, Second, State}
use Rattle.tipc_changeover.specs.Events.{acted, happened, session_told, window, Acknowledge, Event, Failover, IsNext, LinkUp, MayAct, Number, Put, Record, Release, Switch, TakePlain, TakeTunnel}
use Rattle.tipc_changeover.specs.Sound.{Sound}
use Rattle.tipc_changeover.specs.Distances.{Bounded, Bounds}
use Rattle.tipc_changeover.specs.Reached.{after, at_begin, begun, no_record, unused, IsReached}
use Rattle.tipc_changeover.proofs.Lists.{at_either, at_front, at_none, at_within}
use Rattle.tipc_changeover.proofs.Records.{next_not_past, turn}
use Rattle.tipc_changeover.proofs.Receiving.{told_fresh, told_none}
use Rattle.tipc_changeover.proofs.Distances.{acknowledge_bounded, link_up_bounded, put_bounded, record_bounded, release_bounded, switch_bounded, take_plain_bounded, take_tunnel_bounded}
use Rattle.tipc_changeover.proofs.DistancesFar.{failover_bounded, number_bounded}
use Rattle.tipc_changeover.proofs.Staying.{reached_sound}

-- ---- each event

begun_bounds : Bounds unused unused no_record
begun_bounds = record {
  window_kept = record { in_flight = λ _. omega arith };
  near = record { recorded = omega arith; unrecorded = λ e later shown. omega arith };
  close = record {
    both_present = λ p f q full there low open_still is. absurd (at_none p (Tunnel f q full) there);
    target_ended = λ p f q full there low open_still ended. absurd (at_none p (Tunnel f q full) there);
    own_ended = λ e p f q full own there low open_still is. absurd (at_none p (Tunnel f q full) there);
    both_ended = λ e p f q full own there low open_still ended. absurd (at_none p (Tunnel f q full) there);
  };
}

pub begins_bounded : Bounded begun
begins_bounded = record { near = begun_bounds; far = begun_bounds }

acts_bounded : (b : Bearer) (s : State) (event : Event) → Sound b s → Bounded s → MayAct b s event → Bounded (acted s event)
acts_bounded b s Put h w may = put_bounded b s w
acts_bounded b s (Number slot rest) h w may = number_bounded b s slot rest h w may
acts_bounded b s (Acknowledge places) h w may = acknowledge_bounded b s places w may
acts_bounded b s Release h w may = release_bounded b s w
acts_bounded b s (Record session) h w may = record_bounded b s session h w may
acts_bounded b s (TakePlain index) h w may = take_plain_bounded b s index w
acts_bounded b s (TakeTunnel session place full opening) h w may = take_tunnel_bounded b s session place full opening h w may
acts_bounded b s LinkUp h w may = link_up_bounded b s h w may
acts_bounded b s Switch h w may = switch_bounded b s h w may
acts_bounded b s Failover h w may = failover_bounded b s h w may

turn_bounded : (s : State) → Bounded s → Bounded (turned_state s)
turn_bounded s w = record { near = w.far; far = w.near }

pub seen_bounded : (b : Bearer) (s : State) → Bounded s → Bounded (seen b s)
seen_bounded First s w = w
seen_bounded Second s w = turn_bounded s w

pub stays_bounded : (b : Bearer) (s : State) (event : Event) → Sound First s → Bounded s → MayAct b (seen b s) event → Bounded (happened b s event)
stays_bounded First s event h w may = acts_bounded First s event h w may
stays_bounded Second s event h w may = turn_bounded (acted (turned_state s) event) (acts_bounded Second (turned_state s) event (turn First s h) (turn_bounded s w) may)

pub reached_bounded : (s : State) → IsReached s → Bounded s
reached_bounded _ at_begin = begins_bounded
reached_bounded _ (after b s event reached may) = stays_bounded b s event (reached_sound s reached) (reached_bounded s reached) may

-- ---- what that gives

-- a frame of the record's session
pub frame_near : (b : Bearer) (s : State) (p : ℕ) (z : LinkSlot) → Bounded s → at (s.near.line s.near_record.session) p ≡ Some z → p ≤ s.near_record.taken + window
frame_near b s p z w there = let real = (at_within (s.near.line s.near_record.session) p z there).1 in let near = w.near.near.recorded in omega arith

-- the tunnel packet at the next place, against a record of the session of which it speaks
same_session_close : (b : Bearer) (s : State) (f q : ℕ) (full : Bool) → Sound b s → Bounded s → IsNext s (Tunnel f q full) → 1 ≤ q → s.far_record.session ≡ f → s.far_record.taken < q + window
same_session_close b s f q full h w here low recorded =
    let x = s.near in
    let y = s.far in
    let r = s.near_record in
    let t = s.far_record in
    let target = h.near.target.lines r.session (r.taken + 1) f q full here in
    let shown = target.shown in
    let taken : t.taken ≤ length (y.line f) = subst (λ n. t.taken ≤ length (y.line n)) recorded h.far.ends.taken in
    elim (cases_eq x.session r.session) [
      | inl present ↦ (
          let in_slots : at (slots x) (r.taken + 1) ≡ Some (Tunnel f q full) = at_front (x.line x.session) x.waiting (r.taken + 1) (Tunnel f q full) (ap (λ n. at (x.line n) (r.taken + 1)) present ∙ here) in
          let open_still : Past r x.session (r.taken + 1) → ⊥ = (λ past. next_not_past r (subst (λ n. Past r n (r.taken + 1)) present past)) in
          elim (cases_eq f y.session) [
            | inl is ↦ (let close = w.near.close.both_present (r.taken + 1) f q full in_slots low open_still is in omega arith)
            | inr ended ↦ (let close = w.near.close.target_ended (r.taken + 1) f q full in_slots low open_still (omega arith) in omega arith)
          ])
      | inr differ ↦ (
          let own : r.session < x.session = (let known = h.near.ends.record_shown in omega arith) in
          elim (cases_eq f y.session) [
            | inl is ↦ (
                let stood = w.near.close.own_ended r.session (r.taken + 1) f q full own here low (next_not_past r) is in
                let no_further = stood.no_further in
                elim (cases_lt t.taken stood.where_it_stands) [
                  | inl before ↦ omega arith
                  | inr passed ↦ absurd (elim (at_either (y.line y.session) y.waiting stood.where_it_stands (Tunnel r.session (r.taken + 1) false) stood.there) [
                    | inl numbered ↦ next_not_past r (h.far.effect.done y.session stood.where_it_stands r.session (r.taken + 1) false numbered (omega arith) (inr (recorded ∙ is, passed)))
                    | inr behind ↦ (
                        let some = (at_within y.waiting behind.place (Tunnel r.session (r.taken + 1) false) behind.there).0 in
                        let place = behind.is in
                        let within : t.taken ≤ length (y.line y.session) = subst (λ n. t.taken ≤ length (y.line n)) is taken in
                        omega arith)
                  ])
                ])
            | inr ended ↦ (let close = w.near.close.both_ended r.session (r.taken + 1) f q full own here low (next_not_past r) (omega arith) in omega arith)
          ])
    ]

pub tunnel_close : (b : Bearer) (s : State) (f q : ℕ) (full : Bool) → Sound b s → Bounded s → IsNext s (Tunnel f q full) → 1 ≤ q → s.far_record.session ≤ f → (session_told s.far_record f).taken < q + window
tunnel_close b s f q full h w here low no_later = elim (cases_lt s.far_record.session f) [
  | inl less ↦ (let none : (session_told s.far_record f).taken ≡ 0 = ap (λ (z : Receiver). z.taken) (told_fresh s.far_record f less) in omega arith)
  | inr high ↦ (
      let same : (session_told s.far_record f).taken ≡ s.far_record.taken = ap (λ (z : Receiver). z.taken) (told_none s.far_record f high) in
      let close = same_session_close b s f q full h w here low (let is : s.far_record.session ≡ f = omega arith in is) in
      omega arith)
]
