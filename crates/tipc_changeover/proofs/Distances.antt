-- Places stay near to one another, whatever happens but a failover and a number, which have files of their own.
use Rattle.std.proofs.Common.{◌≡◌, ℕ, ◌+◌, ◌<◌, ◌≤◌, Bool, true, false, List, [], ◌∷◌, ◌++◌, Some, length, sym, ap, ◌∙◌, subst, inl, inr, arith}
use Rattle.std.proofs.lemmas.Bool.{cases_lt}
use Rattle.std.proofs.lemmas.List.{append-nil}
use Rattle.tipc_changeover.specs.Slots.{at, duplicates, Plain, LinkSlot, Tunnel}
use Rattle.tipc_changeover.specs.Links.{slots, Bearer, EndState, Past, Receiver, Reset, Sender, State, Up}
use Rattle.tipc_changeover.specs.Events.{acted, after_next, gone_up, opened, session_told, window, with_waiting, Acknowledge, Deferred, Late, LinkUp, MayAct, Next, Old, Opening, Passed, Put, Record, Release, Switch, TakePlain, TakeTunnel}
use Rattle.tipc_changeover.specs.Parts.{IsTarget}
use Rattle.tipc_changeover.specs.Sound.{Sound}
use Rattle.tipc_changeover.specs.Distances.{Bounded, Bounds, Close, Near, Window}
use Rattle.tipc_changeover.proofs.Lists.{at_back, at_either, at_front, at_within}
use Rattle.tipc_changeover.proofs.Records.{past_next}
use Rattle.tipc_changeover.proofs.Receiving.{fresh, fresh_past, told_fresh, told_none}
use Rattle.tipc_changeover.proofs.Runs.{marks, of_run, stands}
use Rattle.tipc_changeover.proofs.Keeping.{not_up, over}
use Rattle.tipc_changeover.proofs.Sending.{put_slots, put_tunnels}
use Rattle.tipc_changeover.proofs.Uplinks.{reset_down}

-- ---- a change of a record

-- what isn't past wasn't
close_grown : (x y : Sender) (r r' : Receiver) → Close x y r → ((e q : ℕ) → Past r e q → Past r' e q) → Close x y r'
close_grown x y r r' h grows = record {
  both_present = λ p f q full there low open_still is. h.both_present p f q full there low (λ past. open_still (grows x.session p past)) is;
  target_ended = λ p f q full there low open_still ended. h.target_ended p f q full there low (λ past. open_still (grows x.session p past)) ended;
  own_ended = λ e p f q full own there low open_still is. h.own_ended e p f q full own there low (λ past. open_still (grows e p past)) is;
  both_ended = λ e p f q full own there low open_still ended. h.both_ended e p f q full own there low (λ past. open_still (grows e p past)) ended;
}

bounds_next : (x y : Sender) (r : Receiver) → Bounds x y r → Bounds x y (after_next r)
bounds_next x y r h = record {
  window_kept = h.window_kept;
  near = record { recorded = (let old = h.near.recorded in omega arith); unrecorded = h.near.unrecorded };
  close = close_grown x y r (after_next r) h.close (past_next r);
}

bounds_fresh : (x y : Sender) (r : Receiver) (e : ℕ) → Bounds x y r → r.session < e → e ≤ x.session → Bounds x y (fresh e)
bounds_fresh x y r e h less shown = record {
  window_kept = h.window_kept;
  near = record { recorded = (let few = h.near.unrecorded e less shown in omega arith); unrecorded = λ f later present. h.near.unrecorded f (omega arith) present };
  close = close_grown x y r (fresh e) h.close (λ f q past. fresh_past r e f q less past);
}

bounds_told : (x y : Sender) (r : Receiver) (f q : ℕ) → Bounds x y r → IsTarget x f q → Bounds x y (session_told r f)
bounds_told x y r f q h target = elim (cases_lt r.session f) [
  | inl less ↦ subst (λ z. Bounds x y z) (sym (told_fresh r f less)) (bounds_fresh x y r f h less target.shown)
  | inr high ↦ subst (λ z. Bounds x y z) (sym (told_none r f high)) h
]

bounds_opened : (x y : Sender) (r : Receiver) (opening : Opening) → Bounds x y r → Bounds x y (opened r opening)
bounds_opened x y r Late h = h
bounds_opened x y r Old h = h
bounds_opened x y r Passed h = bounds_next x y r h
bounds_opened x y r (Next i) h = bounds_next x y r h
bounds_opened x y r Deferred h = h

pub record_bounded : (b : Bearer) (s : State) (e : ℕ) → Sound b s → Bounded s → MayAct b s (Record e) → Bounded (acted s (Record e))
record_bounded b s e h w may = record { near = bounds_fresh s.near s.far s.near_record e w.near may.0 may.1; far = w.far }

pub take_plain_bounded : (b : Bearer) (s : State) (i : ℕ) → Bounded s → Bounded (acted s (TakePlain i))
take_plain_bounded b s i w = record { near = bounds_next s.near s.far s.near_record w.near; far = w.far }

pub take_tunnel_bounded : (b : Bearer) (s : State) (f q : ℕ) (full : Bool) (opening : Opening) → Sound b s → Bounded s → MayAct b s (TakeTunnel f q full opening) → Bounded (acted s (TakeTunnel f q full opening))
take_tunnel_bounded b s f q full opening h w may = record {
  near = bounds_next s.near s.far s.near_record w.near;
  far = bounds_opened s.far s.near (session_told s.far_record f) opening (bounds_told s.far s.near s.far_record f q w.far (h.near.target.lines s.near_record.session (s.near_record.taken + 1) f q full may.0));
}

-- ---- a change of the ends alone

close_same : (x y : Sender) (r : Receiver) (st su : EndState) (a c : ℕ) → Close x y r → Close (over x.line x.session st x.waiting a) (over y.line y.session su y.waiting c) r
close_same x y r st su a c h = record { both_present = h.both_present; target_ended = h.target_ended; own_ended = h.own_ended; both_ended = h.both_ended }

near_same : (x : Sender) (r : Receiver) (st : EndState) (waiting : List LinkSlot) (a : ℕ) → Near x r → Near (over x.line x.session st waiting a) r
near_same x r st waiting a h = record { recorded = h.recorded; unrecorded = h.unrecorded }

pub put_bounded : (b : Bearer) (s : State) → Bounded s → Bounded (acted s Put)
put_bounded b s w =
    let x = s.near in
    let y = s.far in
    let z = Plain (s.put + 1) in
    record {
      near = record {
        window_kept = record { in_flight = w.near.window_kept.in_flight };
        near = near_same x s.near_record x.state (x.waiting ++ z ∷ []) x.acked w.near.near;
        close = record {
          both_present = λ p f q full there low open_still is. w.near.close.both_present p f q full (put_tunnels x (s.put + 1) p f q full there) low open_still is;
          target_ended = λ p f q full there low open_still ended. w.near.close.target_ended p f q full (put_tunnels x (s.put + 1) p f q full there) low open_still ended;
          own_ended = w.near.close.own_ended;
          both_ended = w.near.close.both_ended;
        };
      };
      far = record {
        window_kept = w.far.window_kept;
        near = w.far.near;
        close = record {
          both_present = w.far.close.both_present;
          target_ended = w.far.close.target_ended;
          own_ended = λ e p f q full own there low open_still is. (
              let stood = w.far.close.own_ended e p f q full own there low open_still is in
              record {
                where_it_stands = stood.where_it_stands;
                there = ap (λ zs. at zs stood.where_it_stands) (sym (put_slots x z)) ∙ at_front (slots x) (z ∷ []) stood.where_it_stands (Tunnel e p false) stood.there;
                no_further = stood.no_further;
              });
          both_ended = w.far.close.both_ended;
        };
      };
    }

pub acknowledge_bounded : (b : Bearer) (s : State) (places : ℕ) → Bounded s → MayAct b s (Acknowledge places) → Bounded (acted s (Acknowledge places))
acknowledge_bounded b s places w may =
    let more : s.near.acked < places = may.2 in
    record {
      near = record {
        window_kept = record { in_flight = λ up. (let old = w.near.window_kept.in_flight up in omega arith) };
        near = near_same s.near s.near_record s.near.state s.near.waiting places w.near.near;
        close = close_same s.near s.far s.near_record s.near.state s.far.state places s.far.acked w.near.close;
      };
      far = record { window_kept = w.far.window_kept; near = w.far.near; close = close_same s.far s.near s.far_record s.far.state s.near.state s.far.acked places w.far.close };
    }

pub release_bounded : (b : Bearer) (s : State) → Bounded s → Bounded (acted s Release)
release_bounded b s w = record {
  near = record {
    window_kept = record { in_flight = λ up. absurd (reset_down up) };
    near = near_same s.near s.near_record Reset s.near.waiting s.near.acked w.near.near;
    close = close_same s.near s.far s.near_record Reset s.far.state s.near.acked s.far.acked w.near.close;
  };
  far = record { window_kept = w.far.window_kept; near = w.far.near; close = close_same s.far s.near s.far_record s.far.state Reset s.far.acked s.near.acked w.far.close };
}

-- nothing is in flight on a link that goes up
up_window : (b : Bearer) (s : State) (waiting : List LinkSlot) → Sound b s → s.near.state ≡ Reset → Window (gone_up s.near waiting)
up_window b s waiting h reset = record {
  in_flight = λ _. (let none : length (s.near.line s.near.session) ≡ 0 = ap length (h.near.ends.down (not_up reset reset_down)).0 in omega arith);
}

pub link_up_bounded : (b : Bearer) (s : State) → Sound b s → Bounded s → MayAct b s LinkUp → Bounded (acted s LinkUp)
link_up_bounded b s h w may = record {
  near = record {
    window_kept = up_window b s s.near.waiting h may.0;
    near = near_same s.near s.near_record Up s.near.waiting s.near.acked w.near.near;
    close = close_same s.near s.far s.near_record Up s.far.state s.near.acked s.far.acked w.near.close;
  };
  far = record { window_kept = w.far.window_kept; near = w.far.near; close = close_same s.far s.near s.far_record s.far.state Up s.far.acked s.near.acked w.far.close };
}

pub switch_bounded : (b : Bearer) (s : State) → Sound b s → Bounded s → MayAct b s Switch → Bounded (acted s Switch)
switch_bounded b s h w may =
    let x = s.near in
    let y = s.far in
    let xs = y.line y.session in
    let dup = duplicates y.session y.acked (y.line y.session) in
    let in_flight : length (y.line y.session) ≤ y.acked + window = w.far.window_kept.in_flight may.2 in
    let down = not_up may.0 reset_down in
    let moved : slots (gone_up x (dup ++ y.waiting)) ≡ dup ++ y.waiting = ap (λ zs. zs ++ (dup ++ y.waiting)) (h.near.ends.down down).0 in
    let stays : slots (with_waiting y []) ≡ y.line y.session = append-nil (y.line y.session) in
    let no_waiting = (λ (p f q : ℕ) (full : Bool) (there : at y.waiting p ≡ Some (Tunnel f q full)). (
    let some = (at_within y.waiting p (Tunnel f q full) there).0 in
    let acknowledged = h.far.carrier.none may.0 (length xs + p) f q full (at_back xs y.waiting p (Tunnel f q full) there) in
    let within = h.far.ends.acked in
    let wrong : ⊥ = omega arith in wrong)) in
    record {
      near = record {
        window_kept = up_window b s (dup ++ y.waiting) h may.0;
        near = near_same x s.near_record Up (dup ++ y.waiting) x.acked w.near.near;
        close = record {
          both_present = λ p f q full there low open_still is. elim (at_either dup y.waiting p (Tunnel f q full) (ap (λ zs. at zs p) (sym moved) ∙ there)) [
            | inl here ↦ elim (of_run (λ z. true) y.session y.acked (y.line y.session) p (Tunnel f q full) here) [
              | marks mark ↦ absurd (let none : q ≡ 0 = cc in omega arith)
              | stands slot at_line spoken ↦ (
                  let place : q ≡ y.acked + p = cc in
                  subst (λ n. length (y.line n) + p ≤ q + window) (sym is) (omega arith))
            ]
            | inr behind ↦ absurd (no_waiting behind.place f q full behind.there)
          ];
          target_ended = λ p f q full there low open_still ended. absurd (elim (at_either dup y.waiting p (Tunnel f q full) (ap (λ zs. at zs p) (sym moved) ∙ there)) [
            | inl here ↦ elim (of_run (λ z. true) y.session y.acked (y.line y.session) p (Tunnel f q full) here) [
              | marks mark ↦ (let session : f ≡ y.session = cc in omega arith)
              | stands slot at_line spoken ↦ (let session : f ≡ y.session = cc in omega arith)
            ]
            | inr behind ↦ no_waiting behind.place f q full behind.there
          ]);
          own_ended = λ e p f q full own there low open_still is. (
              let stood = w.near.close.own_ended e p f q full own there low open_still is in
              elim (at_either xs y.waiting stood.where_it_stands (Tunnel e p false) stood.there) [
                | inl here ↦ record { where_it_stands = stood.where_it_stands; there = ap (λ zs. at zs stood.where_it_stands) stays ∙ here; no_further = stood.no_further }
                | inr behind ↦ absurd (no_waiting behind.place e p false behind.there)
              ]);
          both_ended = w.near.close.both_ended;
        };
      };
      far = record {
        window_kept = record { in_flight = w.far.window_kept.in_flight };
        near = near_same y s.far_record y.state [] y.acked w.far.near;
        close = record {
          both_present = λ p f q full there low open_still is. absurd (down ((h.far.target.lines y.session p f q full (ap (λ zs. at zs p) (sym stays) ∙ there)).up is));
          target_ended = λ p f q full there low open_still ended. w.far.close.target_ended p f q full (at_front xs y.waiting p (Tunnel f q full) (ap (λ zs. at zs p) (sym stays) ∙ there)) low open_still ended;
          own_ended = λ e p f q full own there low open_still is. absurd (down ((h.far.target.lines e p f q full there).up is));
          both_ended = w.far.close.both_ended;
        };
      };
    }
