-- A session takes packets of its peer, and numbers packets of its own.
use Rattle.std.proofs.Common.{◌≡◌, ◌⊎◌, ℕ, zero, suc, ◌+◌, ◌≤◌, List, [], ◌∷◌, ◌++◌, Some, None, length, take, drop, refl, sym, ap, ◌∙◌, subst, inl, inr, take-append-drop, length-append, arith}
use Rattle.std.proofs.lemmas.List.{length-map}
use Rattle.tipc_types.specs.Prefixes.{IsPrefixOf}
use Rattle.tipc_types.specs.declared.packet_lists.Taken.{Taken}
use Rattle.tipc_header.specs.Spelling.{Fields}
use Rattle.tipc_link.specs.Direction.{IsDirection}
use Rattle.tipc_link.specs.Links.{LinkEnd, with_session}
use Rattle.tipc_link.specs.Sessions.{Carries, SessionEnd, brought, content_of, due_with, flushed, moving, took}
use Rattle.tipc_send_window.specs.Sending.{room}
use Rattle.tipc_link.proofs.Directions.{moves_up, taken_recently}
use Rattle.tipc_link.proofs.LinkLaw.{Each, Each-append}
use Rattle.tipc_link.proofs.Receivings.{received}
use Rattle.tipc_paired.proofs.wires.Fronts.{each_front}
use Rattle.tipc_link.specs.Parts.{packets_in}
use Rattle.tipc_paired.proofs.wires.EpochsKept.{session_is}
use Rattle.tipc_paired.proofs.sessions.SessionDeeds.{hears_session, kept_going, session_step}
use Rattle.tipc_paired.proofs.wires.Wires.{none_some, on_put, prefix_append, prefix_long, prefix_same, put_same, same_some, session_of_up}
use Rattle.tipc_paired.specs.Deeds.{Hears, IsUp, with_going, with_taken}
use Rattle.tipc_paired.specs.Paired.{ArePaired, IsGoing, IsPacket}
use Rattle.tipc_paired.specs.Views.{View, Wire, put_at, with_wire}

-- ---- lists

-- a front of a list, and what stands next in it
next_front : (xs line : List (List ℕ)) → take (length xs) line ≡ xs → IsPrefixOf xs line
next_front xs line is = (drop (length xs) line, sym (take-append-drop (length xs) line) ∙ ap (λ ys. ys ++ drop (length xs) line) is)

pub more_front : (front xs line : List (List ℕ)) → IsPrefixOf front line → take (length xs) (drop (length front) line) ≡ xs → IsPrefixOf (front ++ xs) line
more_front [] xs line h is = next_front xs line is
more_front (f ∷ front) xs [] h is = absurd (let none : ⊥ = cc in none)
more_front (f ∷ front) xs (p ∷ line) h is =
    let first : p ≡ f = cc in
    let later : line ≡ front ++ h.0 = cc in
    let rest = more_front front xs line (h.0, later) is in
    (rest.0, ap (λ q. q ∷ line) first ∙ ap (λ qs. f ∷ qs) rest.1)

each_behind : {own : ℕ} (n : ℕ) (xs : List (List ℕ)) → Each (IsPacket own) xs → Each (IsPacket own) (drop n xs)
each_behind zero xs h = h
each_behind (suc n) [] h = h
each_behind (suc n) (x ∷ xs) h = each_behind n xs (λ k bytes is. h (suc k) bytes is)

-- ---- packets are taken

pub takes_paired : (x y : View) (b : ℕ) (e : LinkEnd) (s : SessionEnd) (p : Fields) (number by : ℕ) (packet : List ℕ) → ArePaired x y → IsUp (x.wires b) e s → Hears x y b s p → content_of p ≡ Carries number packet
    → ArePaired (with_wire x b (with_taken (x.wires b) e s (brought number packet by))) y
takes_paired x y b e s p number by packet h up a is =
    let w = x.wires b in
    let v = y.wires b in
    let t = brought number packet by in
    let s' = took s t in
    let due = packets_in (due_with s t) in
    let got = put_at w.got s.peer_epoch (w.got s.peer_epoch ++ due) in
    let w' : Wire = record { end = Some (with_session e s'); begun = w.begun; line = w.line; got = got } in
    let wire = h.here.wires b in
    let g = wire.going s (session_of_up w e s up) in
    let o = hears_session x y b e s p h up a in
    let c = o.carried number packet is in
    let takes = g.takes in
    let recent = o.recent in
    let fresh = a.peer_fresh in
    let sent = c.sent in
    let last = c.recent in
    let within = prefix_long (w.got s.peer_epoch) (v.line s.peer_epoch) (wire.prefix s.peer_epoch) in
    let m = received s t (v.line s.peer_epoch) a.frame.numbered g.holds (omega arith) c (omega arith) (omega arith) in
    let long : length due ≡ length (due_with s t) = length-map (due_with s t) (λ (u : Taken). u.packet) in
    let front : take (length due) (drop (length (w.got s.peer_epoch)) (v.line s.peer_epoch)) ≡ due =
    ap (λ n. take n (drop (length (w.got s.peer_epoch)) (v.line s.peer_epoch))) long ∙ ap (λ n. take (length (due_with s t)) (drop n (v.line s.peer_epoch))) takes ∙ m.front in
    let now : got s.peer_epoch ≡ w.got s.peer_epoch ++ due = put_same w.got s.peer_epoch (w.got s.peer_epoch ++ due) in
    let together = length-append (w.got s.peer_epoch) due in
    let going : IsGoing x.node.own w' v s' = record {
      begun = g.begun;
      begun_is = g.begun_is;
      peer_is = g.peer_is;
      waiting = g.waiting;
      sends = g.sends;
      takes = ap (λ (xs : List (List ℕ)). length xs) now ∙ (let sum : length (w.got s.peer_epoch ++ due) ≡ s'.taken = omega arith in sum);
      holds = m.receiver;
      shown = g.shown;
      record_is = g.record_is;
    } in
    session_step x y b e s s' w.line got h up (record { own = refl; peer = refl; bearer = refl; epoch = refl; peer_epoch = refl }) refl
    (on_put w.got s.peer_epoch (w.got s.peer_epoch ++ due) (λ epoch xs. (xs ≡ w.got epoch) ⊎ (epoch ≡ s.record_epoch)) (inr (sym g.record_is)) (λ epoch. inl refl))
    (record {
      line = λ epoch. prefix_same (w.line epoch);
      got = on_put w.got s.peer_epoch (w.got s.peer_epoch ++ due) (λ epoch xs. IsPrefixOf (w.got epoch) xs) (prefix_append (w.got s.peer_epoch) due) (λ epoch. prefix_same (w.got epoch));
      begun = λ epoch g is. is;
    })
    (record {
      unborn = wire.unborn;
      packets = wire.packets;
      window = wire.window;
      prefix = on_put w.got s.peer_epoch (w.got s.peer_epoch ++ due) (λ epoch xs. IsPrefixOf xs (v.line epoch)) (more_front (w.got s.peer_epoch) due (v.line s.peer_epoch) (wire.prefix s.peer_epoch) front) wire.prefix;
      going = λ r r_is. subst (IsGoing x.node.own w' v) (same_some s' r _ (session_is e s s' w.begun w.line got up.up) r_is) going;
      kept = kept_going x.node.own w' v e s' refl going;
    })

-- ---- packets are numbered

pub numbers_paired : (x y : View) (b : ℕ) (e : LinkEnd) (s : SessionEnd) → ArePaired x y → IsUp (x.wires b) e s
    → ArePaired (with_wire x b (record (with_going (x.wires b) e (flushed s)) { line = put_at (x.wires b).line s.epoch ((x.wires b).line s.epoch ++ moving s) })) y
unfolding flushed
numbers_paired x y b e s h up =
    let w = x.wires b in
    let v = y.wires b in
    let s' = flushed s in
    let n = room s.sending in
    let line = put_at w.line s.epoch (w.line s.epoch ++ moving s) in
    let w' : Wire = record { end = Some (with_session e s'); begun = w.begun; line = line; got = w.got } in
    let wire = h.here.wires b in
    let g = wire.going s (session_of_up w e s up) in
    let moved = moves_up s.sending (length (v.got s.epoch)) (w.line s.epoch) g.sends in
    let recently = taken_recently s'.sending (length (v.got s.epoch)) (w.line s.epoch ++ moving s) moved in
    let count = moved.count in
    let now : line s.epoch ≡ w.line s.epoch ++ moving s = put_same w.line s.epoch (w.line s.epoch ++ moving s) in
    let going : IsGoing x.node.own w' v s' = record {
      begun = g.begun;
      begun_is = g.begun_is;
      peer_is = g.peer_is;
      waiting = each_behind n s.sending.waiting g.waiting;
      sends = subst (IsDirection s'.sending (length (v.got s.epoch))) (sym now) moved;
      takes = g.takes;
      holds = g.holds;
      shown = g.shown;
      record_is = g.record_is;
    } in
    session_step x y b e s s' line w.got h up (record { own = refl; peer = refl; bearer = refl; epoch = refl; peer_epoch = refl }) refl (λ epoch. inl refl)
    (record {
      line = on_put w.line s.epoch (w.line s.epoch ++ moving s) (λ epoch xs. IsPrefixOf (w.line epoch) xs) (prefix_append (w.line s.epoch) (moving s)) (λ epoch. prefix_same (w.line epoch));
      got = λ epoch. prefix_same (w.got epoch);
      begun = λ epoch g is. is;
    })
    (record {
      unborn = on_put w.line s.epoch (w.line s.epoch ++ moving s) (λ epoch xs. w.begun epoch ≡ None → xs ≡ []) (λ none. absurd (none_some g.begun (w.begun s.epoch) none g.begun_is)) wire.unborn;
      packets = on_put w.line s.epoch (w.line s.epoch ++ moving s) (λ epoch xs. Each (IsPacket x.node.own) xs)
          (Each-append (IsPacket x.node.own) (w.line s.epoch) (moving s) (wire.packets s.epoch) (each_front n s.sending.waiting g.waiting)) wire.packets;
      window = on_put w.line s.epoch (w.line s.epoch ++ moving s) (λ epoch (xs : List (List ℕ)). length xs ≤ length (v.got epoch) + 50) (omega arith) wire.window;
      prefix = wire.prefix;
      going = λ r r_is. subst (IsGoing x.node.own w' v) (same_some s' r _ (session_is e s s' w.begun line w.got up.up) r_is) going;
      kept = kept_going x.node.own w' v e s' refl going;
    })
