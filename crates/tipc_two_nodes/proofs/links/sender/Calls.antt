-- What a sender does with its ends as they are, as events: it hears an acknowledgement, puts packets, holds an end no longer, and has a link
-- that goes up beside none.
use Rattle.std.proofs.Common.{◌≡◌, ◌≢◌, ℕ, zero, suc, ◌+◌, ◌-◌, ◌≤◌, true, false, List, [], ◌∷◌, ◌++◌, Some, length, drop, refl, sym, ap, ◌∙◌, subst, arith, append_assoc, append-nil}
use Rattle.std.specs.List.{slice_get}
use Rattle.std.proofs.lemmas.List.{drop-drop, length-append, length-drop}
use Rattle.std.proofs.Math.Seq.{drop-nil}
use Rattle.tipc_send_window.specs.Sending.{Sending, offered, released}
use Rattle.tipc_link.specs.Records.{is_tunnel}
use Rattle.tipc_changeover.specs.Slots.{Plain, LinkSlot}
use Rattle.tipc_changeover.specs.Links.{leads, Bearer, EndState, First, Reset, Sender, State, Up}
use Rattle.tipc_changeover.specs.Events.{acted, with_acked, Acknowledge, LinkUp, Put}
use Rattle.tipc_changeover.specs.Sound.{Sound}
use Rattle.tipc_two_nodes.specs.links.Traffic.{Traffic}
use Rattle.tipc_two_nodes.specs.links.Packets.{AreFor, IsFor, IsPlain}
use Rattle.tipc_two_nodes.specs.links.Sending.{IsQueue, SendingEnds, StandFor, beside}
use Rattle.tipc_two_nodes.specs.links.Following.{Become, stays}
use Rattle.tipc_two_nodes.proofs.links.sender.Lists.{are_append, are_map}
use Rattle.tipc_two_nodes.proofs.links.sender.Grown.{for_put}
use Rattle.tipc_two_nodes.proofs.links.sender.Happening.{follows_one, follows_then}
use Rattle.tipc_two_nodes.specs.links.Steps.{ArePlain, AreTaken, near_up, near_window, with_put}

-- ---- an acknowledgement

released_queue : (P : LinkSlot → List ℕ → Type 0) (line : List (List ℕ)) (w : Sending) (x : Sender) (count : ℕ) → IsQueue P line w x → count ≤ length w.unacked → IsQueue P line (released w count) (with_acked x (x.acked + count))
released_queue P line w x count h within =
    let acked = h.acked in
    let left = length-drop count w.unacked in
    record {
      numbered = h.numbered;
      acked = omega arith;
      kept = ap (λ ps. drop count ps) h.kept ∙ drop-drop count x.acked line;
      waits = h.waits;
    }

pub acknowledges : (count : ℕ) (b : Bearer) (x : SendingEnds) (t : Traffic) (s : State) → StandFor b x t s → x.near.state ≡ Up → count ≤ length x.near.window.unacked → (1 ≤ count → AreTaken s count)
    → Become b (near_window x (released x.near.window count)) t s
acknowledges zero b x t s h up within taken = record { state = s; follows = stays; stand = h }
acknowledges (suc n) b x t s h up within taken =
    let count = suc n in
    let k = taken (omega arith) in
    let places = k.places in
    let places' = s.near.acked + count in
    record {
      state = acted s (Acknowledge places');
      follows = follows_one b s (Acknowledge places') (h.near.state ∙ up, k.session, omega arith, omega arith) refl;
      stand = record {
        bearer = h.bearer;
        put = h.put;
        near = record {
          epoch = h.near.epoch;
          state = h.near.state;
          lines = h.near.lines;
          queue = λ is_up. released_queue (IsFor t.put (beside x.bearer) t.far) (t.near.line s.near.session) x.near.window s.near count (h.near.queue is_up) within;
        };
        far = h.far;
      };
    }

-- ---- packets are put

behind_get : (xs : List (List ℕ)) (x : List ℕ) → slice_get (xs ++ x ∷ []) (length xs) ≡ Some x
behind_get [] x = refl
behind_get (y ∷ xs) x = behind_get xs x

put_plain : (put : List (List ℕ)) (packet : List ℕ) (n : ℕ) → length put ≡ n → is_tunnel packet ≡ false → IsPlain (put ++ packet ∷ []) (n + 1) packet
put_plain put packet n is plain = record {
  counts = omega arith;
  there = (let place : n + 1 - 1 ≡ length put = omega arith in rw place (behind_get put packet));
  plain = plain;
}

pub put_one : (b : Bearer) (x : SendingEnds) (t : Traffic) (s : State) (packet : List ℕ) → StandFor b x t s → is_tunnel packet ≡ false → StandFor b (near_window x (offered x.near.window (packet ∷ []))) (with_put t (packet ∷ [])) (acted s Put)
put_one b x t s packet h plain =
    let P = IsFor t.put (beside x.bearer) t.far in
    let P' = IsFor (t.put ++ packet ∷ []) (beside x.bearer) t.far in
    let Q = IsFor t.put x.bearer t.near in
    let Q' = IsFor (t.put ++ packet ∷ []) x.bearer t.near in
    let near_more = λ (z : LinkSlot) (p : List ℕ). for_put t.put (packet ∷ []) (beside x.bearer) t.far z p in
    let far_more = λ (z : LinkSlot) (p : List ℕ). for_put t.put (packet ∷ []) x.bearer t.near z p in
    record {
      bearer = h.bearer;
      put = length-append t.put (packet ∷ []) ∙ ap (λ n. n + 1) h.put;
      near = record {
        epoch = h.near.epoch;
        state = h.near.state;
        lines = λ e. are_map P P' (s.near.line e) (t.near.line e) near_more (h.near.lines e);
        queue = λ up. (let q = h.near.queue up in record {
          numbered = q.numbered;
          acked = q.acked;
          kept = q.kept;
          waits = are_append P' s.near.waiting (Plain (s.put + 1) ∷ []) x.near.window.waiting (packet ∷ []) (are_map P P' s.near.waiting x.near.window.waiting near_more q.waits) (put_plain t.put packet s.put h.put plain, tt);
        });
      };
      far = record {
        epoch = h.far.epoch;
        state = h.far.state;
        lines = λ e. are_map Q Q' (s.far.line e) (t.far.line e) far_more (h.far.lines e);
        queue = λ up. (let q = h.far.queue up in record {
          numbered = q.numbered;
          acked = q.acked;
          kept = q.kept;
          waits = are_map Q Q' s.far.waiting x.far.window.waiting far_more q.waits;
        });
      };
    }

offered_more : (w : Sending) (packet : List ℕ) (packets : List (List ℕ)) → offered (offered w (packet ∷ [])) packets ≡ offered w (packet ∷ packets)
offered_more w packet packets = ap (λ ws. record { numbered = w.numbered; unacked = w.unacked; waiting = ws }) (append_assoc w.waiting (packet ∷ []) packets)

offered_none : (w : Sending) → offered w [] ≡ w
offered_none w = ap (λ ws. record { numbered = w.numbered; unacked = w.unacked; waiting = ws }) (append-nil w.waiting)

put_more : (t : Traffic) (packet : List ℕ) (packets : List (List ℕ)) → with_put (with_put t (packet ∷ [])) packets ≡ with_put t (packet ∷ packets)
put_more t packet packets = ap (λ ps. record { put = ps; near = t.near; far = t.far }) (append_assoc t.put (packet ∷ []) packets)

put_none : (t : Traffic) → with_put t [] ≡ t
put_none t = ap (λ ps. record { put = ps; near = t.near; far = t.far }) (append-nil t.put)

pub puts : (packets : List (List ℕ)) (b : Bearer) (x : SendingEnds) (t : Traffic) (s : State) → StandFor b x t s → leads b x.near.state x.far.state ≡ true → ArePlain packets
    → Become b (near_window x (offered x.near.window packets)) (with_put t packets) s
puts [] b x t s h leading plain = record {
  state = s;
  follows = stays;
  stand = subst (λ (u : Traffic). StandFor b (near_window x (offered x.near.window [])) u s) (sym (put_none t)) (subst (λ (w : Sending). StandFor b (near_window x w) t s) (sym (offered_none x.near.window)) h);
}
puts (packet ∷ packets) b x t s h leading plain =
    let w = x.near.window in
    let x' = near_window x (offered w (packet ∷ [])) in
    let t' = with_put t (packet ∷ []) in
    let s' = acted s Put in
    let may : leads b s.near.state s.far.state ≡ true = ap (λ z. leads b z s.far.state) h.near.state ∙ (ap (λ z. leads b x.near.state z) h.far.state ∙ leading) in
    let others = puts packets b x' t' s' (put_one b x t s packet h plain.0) leading plain.1 in
    record {
      state = others.state;
      follows = follows_then b s s' others.state (follows_one b s Put may refl) others.follows;
      stand = subst (λ (u : Traffic). StandFor b (near_window x (offered w (packet ∷ packets))) u others.state) (put_more t packet packets)
          (subst (λ (v : Sending). StandFor b (near_window x v) (with_put t' packets) others.state) (offered_more w packet packets) others.stand);
    }

-- ---- a link goes up, and takes nothing over

pub empty_line : (P : LinkSlot → List ℕ → Type 0) (zs : List LinkSlot) (ps : List (List ℕ)) → AreFor P zs ps → zs ≡ [] → ps ≡ []
empty_line P [] [] h none = refl
empty_line P [] (p ∷ ps) h none = absurd h
empty_line P (z ∷ zs) ps h none = absurd (let wrong : ⊥ = cc in wrong)

-- nothing stands in the present session of an end that isn't up
pub unused_line : (b : Bearer) (x : SendingEnds) (t : Traffic) (s : State) → StandFor b x t s → Sound b s → s.near.state ≢ Up → t.near.line s.near.session ≡ []
unused_line b x t s h sound down = empty_line (IsFor t.put (beside x.bearer) t.far) (s.near.line s.near.session) (t.near.line s.near.session) (h.near.lines s.near.session) (sound.near.ends.down down).0

pub reset_down : (z : EndState) → z ≡ Reset → z ≢ Up
reset_down z is e = cc

pub goes_up : (b : Bearer) (x : SendingEnds) (t : Traffic) (s : State) → StandFor b x t s → Sound b s → x.near.state ≡ Reset → (b ≡ First → x.far.state ≢ Up) → Become b (near_up x) t s
goes_up b x t s h sound reset beside_none =
    let is_reset : s.near.state ≡ Reset = h.near.state ∙ reset in
    let down = reset_down s.near.state is_reset in
    let none = sound.near.ends.down down in
    let empty = unused_line b x t s h sound down in
    record {
      state = acted s LinkUp;
      follows = follows_one b s LinkUp (is_reset, λ first is_up. beside_none first (sym h.far.state ∙ is_up)) refl;
      stand = record {
        bearer = h.bearer;
        put = h.put;
        near = record {
          epoch = h.near.epoch;
          state = refl;
          lines = h.near.lines;
          queue = λ _. record {
            numbered = ap length empty;
            acked = (let acked = none.2 in omega arith);
            kept = sym (ap (λ ps. drop s.near.acked ps) empty ∙ drop-nil s.near.acked);
            waits = subst (λ zs. AreFor (IsFor t.put (beside x.bearer) t.far) zs []) (sym none.1) tt;
          };
        };
        far = h.far;
      };
    }
