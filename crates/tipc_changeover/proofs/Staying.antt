-- The laws: the begin, each event, and what follows of what always holds.
use Rattle.std.proofs.Common.{◌≡◌, ◌+◌, ◌-◌, true, false, ◌++◌, refl, sym, ap, ◌∙◌, arith}
use Rattle.tipc_changeover.specs.Slots.{counted, Plain, Tunnel}
use Rattle.tipc_changeover.specs.Links.{leads, seen, turned_state, Bearer, First, Reset, Second, State}
use Rattle.tipc_changeover.specs.Events.{acted, happened, Acknowledge, Event, Failover, LinkUp, MayAct, Number, Put, Record, Release, Switch, TakePlain, TakeTunnel}
use Rattle.tipc_changeover.specs.Sound.{Holds, Sound}
use Rattle.tipc_changeover.specs.Reached.{after, at_begin, begun, no_record, unused, IsFront, IsReached}
use Rattle.tipc_changeover.proofs.Lists.{at_none, plains-nil}
use Rattle.tipc_changeover.proofs.Numbers.{counted-append, counted-none}
use Rattle.tipc_changeover.proofs.Records.{turn, turn_back}
use Rattle.tipc_changeover.proofs.Receiving.{begin_record, take_plain, take_tunnel}
use Rattle.tipc_changeover.proofs.Sending.{acknowledge, put, release}
use Rattle.tipc_changeover.proofs.Numbering.{number}
use Rattle.tipc_changeover.proofs.Uplinks.{link_up, switch}
use Rattle.tipc_changeover.proofs.Failing.{failover}

-- ---- the begin

no_flow : (b : Bearer) → leads b Reset Reset ≡ true → ⊥
no_flow First e = cc
no_flow Second e = cc

begun_holds : (b : Bearer) → Holds b unused unused no_record no_record 0 0 0
begun_holds b = record {
  ends = record {
    session_begun = omega arith;
    record_shown = omega arith;
    held = λ is. absurd (let wrong : ⊥ = cc in wrong);
    taken = omega arith;
    down = λ _. (refl, refl, refl);
    later = λ e later. refl;
    acked = omega arith;
    acked_past = λ p low high. absurd (omega arith);
  };
  homes = record {
    within = λ e p i there. absurd (at_none p (Plain i) there);
    once = λ e p f q i here there. absurd (at_none p (Plain i) here);
    apart = λ e p f q i here there. at_none p (Plain i) here;
    waits = λ leading. absurd (no_flow b leading);
    none_waits = λ _. plains-nil;
  };
  order = record { rise = λ e p q i j here there less. absurd (at_none p (Plain i) here) };
  barrier = record {
    same_link = λ e p f q i j here there less differ. absurd (at_none p (Plain j) here);
    other_link = λ e p f q i j here there less. absurd (at_none p (Plain j) here);
  };
  ready = record { same_link = λ leading. absurd (no_flow b leading); other_link = λ leading. absurd (no_flow b leading) };
  runs = record {
    lines = λ e p f q full q' there low less. absurd (at_none p (Tunnel f q full) there);
    now = λ p f q full q' there low less. absurd (at_none p (Tunnel f q full) there);
  };
  target = record {
    lines = λ e p f q full there. absurd (at_none p (Tunnel f q full) there);
    now = λ p f q full there. absurd (at_none p (Tunnel f q full) there);
  };
  inner = record {
    lines = λ e. record { full = λ p f q there low. absurd (at_none p (Tunnel f q true) there); placeholder = λ p f q there. absurd (at_none p (Tunnel f q false) there) };
    now = record { full = λ p f q there low. absurd (at_none p (Tunnel f q true) there); placeholder = λ p f q there. absurd (at_none p (Tunnel f q false) there) };
  };
  effect = record { done = λ e p f q full there low past. absurd (at_none p (Tunnel f q full) there) };
  carrier = record {
    none = λ _ p f q full there. absurd (at_none p (Tunnel f q full) there);
    present = λ _ p f q full there live. absurd (at_none p (Tunnel f q full) there);
  };
  cover = record { covered = λ e q ended low high. absurd (omega arith) };
  delivered = record { all = λ e p i there low. absurd (at_none p (Plain i) there); only = λ e p i there past. absurd (at_none p (Plain i) there) };
}

pub begins : Sound First begun
begins = record {
  count = 0;
  taken = sym (counted-none 0);
  within = omega arith;
  numbers = omega arith;
  found = λ i low high. absurd (omega arith);
  idle = λ _ _. refl;
  near = begun_holds First;
  far = begun_holds Second;
}

-- ---- each event

pub acts : (b : Bearer) (s : State) (event : Event) → Sound b s → MayAct b s event → Sound b (acted s event)
acts b s Put h may = put b s h may
acts b s (Number slot rest) h may = number b s slot rest h may
acts b s (Acknowledge places) h may = acknowledge b s places h may
acts b s Release h may = release b s h may
acts b s (Record session) h may = begin_record b s session h may
acts b s (TakePlain index) h may = take_plain b s index h may
acts b s (TakeTunnel session place full opening) h may = take_tunnel b s session place full opening h may
acts b s LinkUp h may = link_up b s h may
acts b s Switch h may = switch b s h may
acts b s Failover h may = failover b s h may

pub stays : (b : Bearer) (s : State) (event : Event) → Sound First s → MayAct b (seen b s) event → Sound First (happened b s event)
stays First s event h may = acts First s event h may
stays Second s event h may = turn_back First (acted (turned_state s) event) (acts Second (turned_state s) event (turn First s h) may)

pub reached_sound : (s : State) → IsReached s → Sound First s
reached_sound _ at_begin = begins
reached_sound _ (after b s event reached may) = stays b s event (reached_sound s reached) may

-- ---- what follows

pub front_of_sent : (s : State) → Sound First s → IsFront s
front_of_sent s h =
    let within = h.within in
    let numbers = h.numbers in
    let sum : s.put ≡ h.count + (s.put - h.count) = omega arith in
    let start : 0 + h.count ≡ h.count = omega arith in
    record {
      rest = counted (0 + h.count) (s.put - h.count);
      front = ap (λ n. counted 0 n) sum ∙ (counted-append 0 h.count (s.put - h.count) ∙ ap (λ is. is ++ counted (0 + h.count) (s.put - h.count)) (sym h.taken));
    }

pub reached_front : (s : State) → IsReached s → IsFront s
reached_front s reached = front_of_sent s (reached_sound s reached)

pub seen_sound : (b : Bearer) (s : State) → Sound First s → Sound b (seen b s)
seen_sound First s h = h
seen_sound Second s h = turn First s h
