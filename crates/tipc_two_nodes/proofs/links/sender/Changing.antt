-- A link goes down while the other is up, goes up in its place, or is held no longer, as events of two links and their tunnels.
use Rattle.std.proofs.Common.{◌≡◌, ℕ, ◌+◌, ◌-◌, ◌≤◌, Bool, true, not, List, Some, length, drop, refl, sym, ap, ◌∙◌, subst, inl, inr, arith}
use Rattle.std.specs.Prelude.{filter}
use Rattle.std.proofs.lemmas.Bool.{cases_lt}
use Rattle.std.proofs.Math.Seq.{drop-nil}
use Rattle.tipc_types.specs.declared.link_words.OldSession.{OldSession}
use Rattle.tipc_header.specs.declared.packet.ChangeoverType.TheVariants.{Duplicate, Original}
use Rattle.tipc_send_window.specs.Sending.{Sending, acked_of, kept_after, kept_of}
use Rattle.tipc_link.specs.Records.{is_tunnel}
use Rattle.tipc_pair.specs.Runs.{run_of}
use Rattle.tipc_changeover.specs.Slots.{at, duplicates, is_plain, originals, plain_slots, LinkSlot, Tunnel}
use Rattle.tipc_changeover.specs.Links.{slots, Bearer, First, Held, Reset, Sender, State, Up}
use Rattle.tipc_changeover.specs.Events.{acted, lost_slots, switched_slots, Failover, Release, Switch}
use Rattle.tipc_changeover.specs.Sound.{Sound}
use Rattle.tipc_changeover.proofs.Lists.{at_back, at_drop, at_dropped, at_either, at_front, at_within}
use Rattle.tipc_changeover.proofs.Runs.{HasNone}
use Rattle.tipc_two_nodes.specs.links.Traffic.{Lines, Traffic, epoch_of}
use Rattle.tipc_two_nodes.specs.links.Packets.{AreFor, IsFor}
use Rattle.tipc_two_nodes.specs.links.Sending.{IsQueue, IsSender, SendingEnd, SendingEnds, StandFor, beside}
use Rattle.tipc_two_nodes.specs.links.Following.{Become}
use Rattle.tipc_two_nodes.proofs.links.sender.Lists.{are_append, are_drop}
use Rattle.tipc_two_nodes.proofs.links.sender.Grown.{kind_of}
use Rattle.tipc_two_nodes.proofs.links.sender.Happening.{follows_one}
use Rattle.tipc_two_nodes.proofs.links.sender.Calls.{reset_down, unused_line}
use Rattle.tipc_two_nodes.specs.links.Steps.{ArePlain, CanTravel, failed, far_session, left, let_go, near_session, switched, taken_from}
use Rattle.tipc_two_nodes.proofs.links.sender.Travelling.{may_wrap, plain_left, plain_over, plain_slots_alone, plain_whole, run_stands}

-- where an end stands with its window
queue_acked : (P : LinkSlot → List ℕ → Type 0) (line : List (List ℕ)) (w : Sending) (x : Sender) → IsQueue P line w x → acked_of w ≡ x.acked
queue_acked P line w x h = let acked = h.acked in omega arith

epoch_is : (first session epoch : ℕ) → first + session ≡ epoch + 1 → epoch_of first session ≡ epoch
epoch_is first session epoch is = omega arith

-- the unacknowledged packets of an end that is up, with their slots
unacked_for : (P : LinkSlot → List ℕ → Type 0) (l : Lines) (e : SendingEnd) (x : Sender) → IsSender P l e x → e.state ≡ Up → AreFor P (drop x.acked (x.line x.session)) e.window.unacked
unacked_for P l e x h up = subst (λ ps. AreFor P (drop x.acked (x.line x.session)) ps) (sym (h.queue up).kept) (are_drop P x.acked (x.line x.session) (l.line x.session) (h.lines x.session))

-- ---- a link goes down while the other is up

lost_for : (b : Bearer) (own : ℕ) (x : SendingEnds) (t : Traffic) (s : State) → StandFor b x t s → Sound b s → x.near.state ≡ Up → CanTravel Original (near_session x) x.near.window.unacked
    → AreFor (IsFor t.put x.bearer t.near) (lost_slots s.near) (left (near_session x) own x.near.window)
lost_for b own x t s h sound up can =
    let P = IsFor t.put (beside x.bearer) t.far in
    let w = x.near.window in
    let q = h.near.queue up in
    let session = epoch_is t.near.first s.near.session x.near.epoch h.near.epoch in
    let old : ◌≡◌ {A = OldSession} (near_session x) (record { bearer = x.bearer; epoch = epoch_of t.near.first s.near.session }) = ap (λ e. record { bearer = x.bearer; epoch = e }) (sym session) in
    let can' = subst (λ (o : OldSession). CanTravel Original o w.unacked) old can in
    let wraps = may_wrap P Original (record { bearer = x.bearer; epoch = epoch_of t.near.first s.near.session }) (length w.unacked) is_plain (drop s.near.acked (s.near.line s.near.session)) w.unacked
    (λ z p is. kind_of t.put (beside x.bearer) t.far z p is) (unacked_for P t.near x.near s.near h.near up) can'.each in
    let run = run_stands t.put x.bearer t.near Original own is_plain s.near.session s.near.acked (s.near.line s.near.session) w.unacked sound.near.ends.session_begun q.kept wraps can'.mark in
    are_append (IsFor t.put x.bearer t.near) (originals s.near.session s.near.acked (s.near.line s.near.session)) (plain_slots s.near.waiting) (run_of Original (near_session x) own (kept_of w)) (filter (λ packet. not (is_tunnel packet)) w.waiting)
    (subst (λ (o : OldSession). AreFor (IsFor t.put x.bearer t.near) (originals s.near.session s.near.acked (s.near.line s.near.session)) (run_of Original o own (kept_of w))) (sym old)
    (subst (λ n. AreFor (IsFor t.put x.bearer t.near) (originals s.near.session s.near.acked (s.near.line s.near.session)) (run_of Original (record { bearer = x.bearer; epoch = epoch_of t.near.first s.near.session }) own (kept_after n w.unacked))) (sym (queue_acked P (t.near.line s.near.session) w s.near q)) run))
    (plain_left t.put (beside x.bearer) x.bearer t.far t.near s.near.waiting w.waiting q.waits)

pub fails : (b : Bearer) (own : ℕ) (x : SendingEnds) (t : Traffic) (s : State) (last : Sending) → StandFor b x t s → Sound b s → x.near.state ≡ Up → x.far.state ≡ Up → CanTravel Original (near_session x) x.near.window.unacked
    → Become b (failed own x last) t s
fails b own x t s last h sound up far_up can =
    let k = h.far.queue far_up in
    let epoch = h.near.epoch in
    record {
      state = acted s Failover;
      follows = follows_one b s Failover (h.near.state ∙ up, h.far.state ∙ far_up) refl;
      stand = record {
        bearer = h.bearer;
        put = h.put;
        near = record {
          epoch = omega arith;
          state = refl;
          lines = h.near.lines;
          queue = λ held_up. absurd (let wrong : ⊥ = cc in wrong);
        };
        far = record {
          epoch = h.far.epoch;
          state = h.far.state;
          lines = h.far.lines;
          queue = λ _. record {
            numbered = k.numbered;
            acked = k.acked;
            kept = k.kept;
            waits = are_append (IsFor t.put x.bearer t.near) s.far.waiting (lost_slots s.near) x.far.window.waiting (left (near_session x) own x.near.window) k.waits (lost_for b own x t s h sound up can);
          };
        };
      };
    }

-- ---- a link goes up in place of the other

-- while an end is reset, the other one has no tunnel packet that isn't acknowledged
none_unacked : (b : Bearer) (s : State) → Sound b s → s.near.state ≡ Reset → HasNone (drop s.far.acked (s.far.line s.far.session))
none_unacked b s sound reset p f q full there =
    let y = s.far in
    let in_line = at_dropped y.acked (y.line y.session) p (Tunnel f q full) there in
    let low = (at_within (drop y.acked (y.line y.session)) p (Tunnel f q full) there).0 in
    let acked = sound.far.carrier.none reset (y.acked + p) f q full (at_front (y.line y.session) y.waiting (y.acked + p) (Tunnel f q full) in_line) in
    omega arith

none_waiting : (b : Bearer) (s : State) → Sound b s → s.near.state ≡ Reset → HasNone s.far.waiting
none_waiting b s sound reset p f q full there =
    let y = s.far in
    let low = (at_within y.waiting p (Tunnel f q full) there).0 in
    let most = sound.far.ends.acked in
    let acked = sound.far.carrier.none reset (length (y.line y.session) + p) f q full (at_back (y.line y.session) y.waiting p (Tunnel f q full) there) in
    omega arith

over_for : (b : Bearer) (own : ℕ) (x : SendingEnds) (t : Traffic) (s : State) → StandFor b x t s → Sound b s → x.near.state ≡ Reset → x.far.state ≡ Up → CanTravel Duplicate (far_session x) x.far.window.unacked
    → AreFor (IsFor t.put (beside x.bearer) t.far) (switched_slots s.far) (taken_from (far_session x) own x.far.window)
over_for b own x t s h sound reset up can =
    let P = IsFor t.put (beside x.bearer) t.far in
    let Q = IsFor t.put x.bearer t.near in
    let w = x.far.window in
    let y = s.far in
    let is_reset : s.near.state ≡ Reset = h.near.state ∙ reset in
    let q = h.far.queue up in
    let session = epoch_is t.far.first y.session x.far.epoch h.far.epoch in
    let old : ◌≡◌ {A = OldSession} (far_session x) (record { bearer = beside x.bearer; epoch = epoch_of t.far.first y.session }) = ap (λ e. record { bearer = beside x.bearer; epoch = e }) (sym session) in
    let can' = subst (λ (o : OldSession). CanTravel Duplicate o w.unacked) old can in
    let wraps = plain_whole t.put x.bearer t.near Duplicate (record { bearer = beside x.bearer; epoch = epoch_of t.far.first y.session }) (length w.unacked) (drop y.acked (y.line y.session)) w.unacked
    (none_unacked b s sound is_reset) (unacked_for Q t.far x.far y h.far up) can'.each in
    let run = run_stands t.put (beside x.bearer) t.far Duplicate own (λ z. true) y.session y.acked (y.line y.session) w.unacked sound.far.ends.session_begun q.kept wraps can'.mark in
    are_append P (duplicates y.session y.acked (y.line y.session)) y.waiting (run_of Duplicate (far_session x) own (kept_of w)) w.waiting
    (subst (λ (o : OldSession). AreFor P (duplicates y.session y.acked (y.line y.session)) (run_of Duplicate o own (kept_of w))) (sym old)
    (subst (λ n. AreFor P (duplicates y.session y.acked (y.line y.session)) (run_of Duplicate (record { bearer = beside x.bearer; epoch = epoch_of t.far.first y.session }) own (kept_after n w.unacked))) (sym (queue_acked Q (t.far.line y.session) w y q)) run))
    (plain_over t.put x.bearer (beside x.bearer) t.near t.far y.waiting w.waiting (none_waiting b s sound is_reset) q.waits)

pub switches : (b : Bearer) (own : ℕ) (x : SendingEnds) (t : Traffic) (s : State) → StandFor b x t s → Sound b s → b ≡ First → x.near.state ≡ Reset → x.far.state ≡ Up → CanTravel Duplicate (far_session x) x.far.window.unacked
    → Become b (switched own x) t s
switches b own x t s h sound first reset far_up can =
    let is_reset : s.near.state ≡ Reset = h.near.state ∙ reset in
    let down = reset_down s.near.state is_reset in
    let none = sound.near.ends.down down in
    let empty = unused_line b x t s h sound down in
    let k = h.far.queue far_up in
    record {
      state = acted s Switch;
      follows = follows_one b s Switch (is_reset, first, h.far.state ∙ far_up) refl;
      stand = record {
        bearer = h.bearer;
        put = h.put;
        near = record {
          epoch = h.near.epoch;
          state = refl;
          lines = h.near.lines;
          queue = λ _. record {
            numbered = ap length empty;
            acked = (let acked = none.2 in omega arith);
            kept = sym (ap (λ ps. drop s.near.acked ps) empty ∙ drop-nil s.near.acked);
            waits = over_for b own x t s h sound reset far_up can;
          };
        };
        far = record {
          epoch = h.far.epoch;
          state = h.far.state;
          lines = h.far.lines;
          queue = λ _. record { numbered = k.numbered; acked = k.acked; kept = k.kept; waits = tt };
        };
      };
    }

-- ---- an end is held no longer

-- a link without tunnel packets has none that isn't acknowledged
clear_slots : (b : Bearer) (x : SendingEnds) (t : Traffic) (s : State) → StandFor b x t s → x.far.state ≡ Up → ArePlain x.far.window.unacked → ArePlain x.far.window.waiting
    → (p f q : ℕ) (full : Bool) → at (slots s.far) p ≡ Some (Tunnel f q full) → p ≤ s.far.acked
clear_slots b x t s h up unacked waiting p f q full there =
    let Q = IsFor t.put x.bearer t.near in
    let y = s.far in
    let k = h.far.queue up in
    elim (at_either (y.line y.session) y.waiting p (Tunnel f q full) there) [
      | inl numbered ↦ elim (cases_lt y.acked p) [
        | inl live ↦ absurd (
            let place : y.acked + (p - y.acked) ≡ p = omega arith in
            let low : 1 ≤ p - y.acked = omega arith in
            let dropped = at_drop y.acked (y.line y.session) (p - y.acked) (Tunnel f q full) (ap (λ n. at (y.line y.session) n) place ∙ numbered) low in
            plain_slots_alone t.put x.bearer t.near (drop y.acked (y.line y.session)) x.far.window.unacked (unacked_for Q t.far x.far y h.far up) unacked (p - y.acked) f q full dropped)
        | inr acked ↦ (omega arith)
      ]
      | inr behind ↦ absurd (plain_slots_alone t.put x.bearer t.near y.waiting x.far.window.waiting k.waits waiting behind.place f q full behind.there)
    ]

pub releases : (b : Bearer) (x : SendingEnds) (t : Traffic) (s : State) (last : Sending) → StandFor b x t s → x.near.state ≡ Held → x.far.state ≡ Up → ArePlain x.far.window.unacked → ArePlain x.far.window.waiting
    → Become b (let_go x last) t s
releases b x t s last h held far_up unacked waiting = record {
  state = acted s Release;
  follows = follows_one b s Release (h.near.state ∙ held, clear_slots b x t s h far_up unacked waiting) refl;
  stand = record {
    bearer = h.bearer;
    put = h.put;
    near = record {
      epoch = h.near.epoch;
      state = refl;
      lines = h.near.lines;
      queue = λ reset_up. absurd (let wrong : ⊥ = cc in wrong);
    };
    far = h.far;
  };
}
