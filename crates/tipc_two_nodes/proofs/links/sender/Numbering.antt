-- Packets that wait get numbers: each is an event of two links and their tunnels.
use Rattle.std.proofs.Common.{◌≡◌, ℕ, zero, suc, ◌+◌, ◌<◌, ◌≤◌, ◌==◌, Bool, true, false, if◌then◌else◌, List, [], ◌∷◌, ◌++◌, length, take, drop, refl, sym, ap, ◌∙◌, subst, arith, append_assoc, append-nil}
use Rattle.std.proofs.Math.Path.{fun_ext}
use Rattle.std.proofs.lemmas.List.{drop-append-le, length-append}
use Rattle.tipc_send_window.specs.Sending.{Sending, moved, advanced}
use Rattle.tipc_changeover.specs.Slots.{LinkSlot}
use Rattle.tipc_changeover.specs.Links.{Bearer, Sender, State, Up}
use Rattle.tipc_changeover.specs.Events.{acted, with_number, MayAct, Number}
use Rattle.tipc_two_nodes.specs.links.Traffic.{Lines, Traffic, with_more}
use Rattle.tipc_two_nodes.specs.links.Packets.{AreFor, IsFor}
use Rattle.tipc_two_nodes.specs.links.Sending.{IsQueue, SendingEnds, StandFor, beside}
use Rattle.tipc_two_nodes.specs.links.Following.{Become, stays}
use Rattle.tipc_two_nodes.specs.links.Steps.{near_more, near_window}
use Rattle.tipc_two_nodes.proofs.links.sender.Lists.{are_length, are_map}
use Rattle.tipc_two_nodes.proofs.links.sender.Happening.{follows_one, follows_then}
use Rattle.tipc_two_nodes.proofs.links.sender.Grown.{for_grown, lines_more, more_grows, more_here}

number_queue : (P : LinkSlot → List ℕ → Type 0) (line : List (List ℕ)) (w : Sending) (x : Sender) (slot : LinkSlot) (rest : List LinkSlot) (packet : List ℕ) (packets : List (List ℕ)) → IsQueue P line w x
    → w.waiting ≡ packet ∷ packets → AreFor P rest packets → IsQueue P (line ++ packet ∷ []) (moved w) (with_number x slot rest)
number_queue P line w x slot rest packet packets h is follow =
    let numbered = h.numbered in
    let acked = h.acked in
    let first : take 1 w.waiting ≡ packet ∷ [] = ap (λ ps. take 1 ps) is in
    record {
      numbered = length-append line (packet ∷ []) ∙ ap (λ n. n + 1) h.numbered;
      acked = (let more : length (w.unacked ++ take 1 w.waiting) ≡ length w.unacked + 1 = ap (λ ps. length (w.unacked ++ ps)) first ∙ length-append w.unacked (packet ∷ []) in omega arith);
      kept = ap (λ ps. ps ++ take 1 w.waiting) h.kept ∙ ap (λ ps. drop x.acked line ++ ps) first ∙ sym (drop-append-le x.acked line (packet ∷ []) (omega arith));
      waits = subst (λ ps. AreFor P rest ps) (sym (ap (λ ps. drop 1 ps) is)) follow;
    }

pub number_one : (b : Bearer) (x : SendingEnds) (t : Traffic) (s : State) (slot : LinkSlot) (rest : List LinkSlot) (packet : List ℕ) (packets : List (List ℕ)) → StandFor b x t s → x.near.state ≡ Up
    → s.near.waiting ≡ slot ∷ rest → x.near.window.waiting ≡ packet ∷ packets
    → StandFor b (near_window x (moved x.near.window)) (near_more t s.near.session (packet ∷ [])) (acted s (Number slot rest))
number_one b x t s slot rest packet packets h up waits is =
    let P = IsFor t.put (beside x.bearer) t.far in
    let q = h.near.queue up in
    let both : AreFor P (slot ∷ rest) (packet ∷ packets) = subst (λ zs. AreFor P zs (packet ∷ packets)) waits (subst (λ ps. AreFor P s.near.waiting ps) is q.waits) in
    record {
      bearer = h.bearer;
      put = h.put;
      near = record {
        epoch = h.near.epoch;
        state = h.near.state;
        lines = lines_more P s.near.line t.near s.near.session slot packet h.near.lines both.0;
        queue = λ _. subst (λ line. IsQueue P line (moved x.near.window) (with_number s.near slot rest)) (sym (more_here t.near s.near.session (packet ∷ [])))
            (number_queue P (t.near.line s.near.session) x.near.window s.near slot rest packet packets q is both.1);
      };
      far = record {
        epoch = h.far.epoch;
        state = h.far.state;
        lines = λ e. are_map (IsFor t.put x.bearer t.near) (IsFor t.put x.bearer (with_more t.near s.near.session (packet ∷ []))) (s.far.line e) (t.far.line e) (λ z p. for_grown t.put x.bearer t.near (with_more t.near s.near.session (packet ∷ [])) z p (more_grows t.near s.near.session (packet ∷ []))) (h.far.lines e);
        queue = λ far_up. (let k = h.far.queue far_up in record {
          numbered = k.numbered;
          acked = k.acked;
          kept = k.kept;
          waits = are_map (IsFor t.put x.bearer t.near) (IsFor t.put x.bearer (with_more t.near s.near.session (packet ∷ []))) s.far.waiting x.far.window.waiting (λ z p. for_grown t.put x.bearer t.near (with_more t.near s.near.session (packet ∷ [])) z p (more_grows t.near s.near.session (packet ∷ []))) k.waits;
        });
      };
    }

-- it may get one
pub number_may : (b : Bearer) (x : SendingEnds) (t : Traffic) (s : State) (slot : LinkSlot) (rest : List LinkSlot) → StandFor b x t s → x.near.state ≡ Up → s.near.waiting ≡ slot ∷ rest → length x.near.window.unacked < 50
    → MayAct b s (Number slot rest)
number_may b x t s slot rest h up waits room =
    let q = h.near.queue up in
    let acked = q.acked in
    let numbered = q.numbered in
    let long = are_length (IsFor t.put (beside x.bearer) t.far) (s.near.line s.near.session) (t.near.line s.near.session) (h.near.lines s.near.session) in
    (h.near.state ∙ up, waits, omega arith)

-- ---- so many of them

same_sending : (n n' : ℕ) (u u' w w' : List (List ℕ)) → n ≡ n' → u ≡ u' → w ≡ w' → ◌≡◌ {A = Sending} (record { numbered = n; unacked = u; waiting = w }) (record { numbered = n'; unacked = u'; waiting = w' })
same_sending n n' u u' w w' a b c = ap (λ k. record { numbered = k; unacked = u; waiting = w }) a ∙ (ap (λ us. record { numbered = n'; unacked = us; waiting = w }) b ∙ ap (λ ws. record { numbered = n'; unacked = u'; waiting = ws }) c)

moved_more : (n : ℕ) (w : Sending) (packet : List ℕ) (packets : List (List ℕ)) → w.waiting ≡ packet ∷ packets → advanced n (moved w) ≡ advanced (suc n) w
moved_more n w packet packets is =
    let one : take 1 w.waiting ≡ packet ∷ [] = ap (λ ps. take 1 ps) is in
    let rest : drop 1 w.waiting ≡ packets = ap (λ ps. drop 1 ps) is in
    let all : take (suc n) w.waiting ≡ packet ∷ take n packets = ap (λ ps. take (suc n) ps) is in
    let left : drop (suc n) w.waiting ≡ drop n packets = ap (λ ps. drop (suc n) ps) is in
    same_sending _ _ _ _ _ _ (omega arith) (append_assoc w.unacked (take 1 w.waiting) (take n (drop 1 w.waiting)) ∙ ap (λ ps. w.unacked ++ ps) (ap (λ ps. ps ++ take n (drop 1 w.waiting)) one ∙ ap (λ ps. packet ∷ take n ps) rest ∙ sym all)) (ap (λ ps. drop n ps) rest ∙ sym left)

more_twice : (b : Bool) (xs ys zs : List (List ℕ)) → (if b then (if b then xs ++ ys else xs) ++ zs else (if b then xs ++ ys else xs)) ≡ (if b then xs ++ (ys ++ zs) else xs)
more_twice true xs ys zs = append_assoc xs ys zs
more_twice false xs ys zs = refl

pub lines_twice : (l : Lines) (session : ℕ) (packets more : List (List ℕ)) → with_more (with_more l session packets) session more ≡ with_more l session (packets ++ more)
lines_twice l session packets more = ap (λ (line : ℕ → List (List ℕ)). record { first = l.first; line = line }) (fun_ext (λ e. more_twice (e == session) (l.line e) packets more))

none_more : (b : Bool) (xs : List (List ℕ)) → (if b then xs ++ [] else xs) ≡ xs
none_more true xs = append-nil xs
none_more false xs = refl

pub lines_none : (l : Lines) (session : ℕ) → with_more l session [] ≡ l
lines_none l session = ap (λ (line : ℕ → List (List ℕ)). record { first = l.first; line = line }) (fun_ext (λ e. none_more (e == session) (l.line e)))

pub traffic_none : (t : Traffic) (session : ℕ) → near_more t session [] ≡ t
traffic_none t session = ap (λ (l : Lines). record { put = t.put; near = l; far = t.far }) (lines_none t.near session)

pub traffic_twice : (t : Traffic) (session : ℕ) (packets more : List (List ℕ)) → near_more (near_more t session packets) session more ≡ near_more t session (packets ++ more)
traffic_twice t session packets more = ap (λ (l : Lines). record { put = t.put; near = l; far = t.far }) (lines_twice t.near session packets more)

advanced_none : (w : Sending) → advanced 0 w ≡ w
advanced_none w = same_sending _ _ _ _ _ _ (omega arith) (append-nil w.unacked) refl

-- the first slot that waits, and its packet
first_slot : (P : LinkSlot → List ℕ → Type 0) (zs : List LinkSlot) (ps : List (List ℕ)) → AreFor P zs ps → 1 ≤ length ps
    → (z : LinkSlot) × (ws : List LinkSlot) × (p : List ℕ) × (qs : List (List ℕ)) × (zs ≡ z ∷ ws) × (ps ≡ p ∷ qs)
first_slot P [] [] h some = absurd (let wrong : ⊥ = omega arith in wrong)
first_slot P [] (p ∷ ps) h some = absurd h
first_slot P (z ∷ zs) [] h some = absurd h
first_slot P (z ∷ zs) (p ∷ ps) h some = (z, zs, p, ps, refl, refl)

pub numbers : (n : ℕ) (b : Bearer) (x : SendingEnds) (t : Traffic) (s : State) → StandFor b x t s → x.near.state ≡ Up → n ≤ length x.near.window.waiting → length x.near.window.unacked + n ≤ 50
    → Become b (near_window x (advanced n x.near.window)) (near_more t s.near.session (take n x.near.window.waiting)) s
numbers zero b x t s h up some room = record {
  state = s;
  follows = stays;
  stand = subst (λ (u : Traffic). StandFor b (near_window x (advanced 0 x.near.window)) u s) (sym (traffic_none t s.near.session)) (subst (λ (w : Sending). StandFor b (near_window x w) t s) (sym (advanced_none x.near.window)) h);
}
numbers (suc n) b x t s h up some room =
    let w = x.near.window in
    let q = h.near.queue up in
    let f = first_slot (IsFor t.put (beside x.bearer) t.far) s.near.waiting w.waiting q.waits (omega arith) in
    let slot = f.0 in
    let rest = f.1 in
    let packet = f.2 in
    let packets = f.3 in
    let x' = near_window x (moved w) in
    let t' = near_more t s.near.session (packet ∷ []) in
    let s' = acted s (Number slot rest) in
    let one : take 1 w.waiting ≡ packet ∷ [] = ap (λ ps. take 1 ps) f.5 in
    let follow : drop 1 w.waiting ≡ packets = ap (λ ps. drop 1 ps) f.5 in
    let all : take (suc n) w.waiting ≡ packet ∷ take n packets = ap (λ ps. take (suc n) ps) f.5 in
    let long : length w.waiting ≡ suc (length packets) = ap length f.5 in
    let longer : length (w.unacked ++ take 1 w.waiting) ≡ length w.unacked + 1 = ap (λ ps. length (w.unacked ++ ps)) one ∙ length-append w.unacked (packet ∷ []) in
    let shorter : length (drop 1 w.waiting) ≡ length packets = ap length follow in
    let first : StandFor b x' t' s' = number_one b x t s slot rest packet packets h up f.4 f.5 in
    let others = numbers n b x' t' s' first up (omega arith) (omega arith) in
    record {
      state = others.state;
      follows = follows_then b s s' others.state (follows_one b s (Number slot rest) (number_may b x t s slot rest h up f.4 (omega arith)) refl) others.follows;
      stand = subst (λ (u : Traffic). StandFor b (near_window x (advanced (suc n) w)) u others.state) (traffic_twice t s.near.session (packet ∷ []) (take n (drop 1 w.waiting)) ∙ ap (λ ps. near_more t s.near.session (packet ∷ take n ps)) follow ∙ ap (λ ps. near_more t s.near.session ps) (sym all))
          (subst (λ (v : Sending). StandFor b (near_window x v) (near_more t' s.near.session (take n (drop 1 w.waiting))) others.state) (moved_more n w packet packets f.5) others.stand);
    }
