-- Packets that a call of a pair numbers, and events of the sender one after the other.
use Rattle.std.proofs.Common.{◌≡◌, ℕ, ◌+◌, ◌-◌, List, [], ◌++◌, length, refl, sym, ap, ◌∙◌, subst, arith, append-nil, append_assoc, length-append}
use Rattle.tipc_send_window.specs.Sending.{Sending}
use Rattle.tipc_pair.specs.Facing.{PairEnds, turned as turned_pair}
use Rattle.tipc_changeover.specs.Links.{other, turned_state, Bearer, EndState, Held, Reset, State, Up}
use Rattle.tipc_two_nodes.specs.links.Traffic.{Lines, Traffic, with_more, turned_traffic as turned_traffic}
use Rattle.tipc_two_nodes.specs.links.Sending.{SendingEnd, SendingEnds, StandFor, ends_seen}
use Rattle.tipc_two_nodes.specs.links.Following.{Become}
use Rattle.tipc_two_nodes.specs.links.Ends.{far_more, session_by}
use Rattle.tipc_two_nodes.specs.links.Steps.{near_more}
use Rattle.tipc_two_nodes.specs.links.Acting.{Acted, HasNumbered, had, sent_with}
use Rattle.tipc_two_nodes.proofs.links.calls.Freeing.{bearer_back, become_later, ends_back}
use Rattle.tipc_two_nodes.proofs.links.sender.Happening.{follows_then}
use Rattle.tipc_two_nodes.proofs.links.sender.Numbering.{lines_none, traffic_twice}
use Rattle.tipc_two_nodes.proofs.links.sender.Turning.{become_turned}

-- ---- packets on one link

had_same : (state : EndState) (count : ℕ) → had state state count ≡ count
had_same Reset count = refl
had_same Up count = refl
had_same Held count = refl

-- none was numbered
pub numbers_none : (e e' : SendingEnd) → e'.window.numbered ≡ had e'.state e.state e.window.numbered → HasNumbered e e' []
numbers_none e e' same = record {
  count = same ∙ (let more : had e'.state e.state e.window.numbered ≡ had e'.state e.state e.window.numbered + 0 = omega arith in more);
  older = e'.window.unacked;
  unacked = sym (append-nil e'.window.unacked);
}

pub numbers_same : (e : SendingEnd) → HasNumbered e e []
numbers_same e = numbers_none e e (sym (had_same e.state e.window.numbered))

-- an end keeps its session, and isn't held any longer, if it was
pub record Still (e e' : SendingEnd) : Type 0 where
  pub epoch : e'.epoch ≡ e.epoch
  pub window : e'.window ≡ e.window
  pub had_is : (before : EndState) (count : ℕ) → had e'.state before count ≡ had e.state before count

pub still_same : (e e' : SendingEnd) → e' ≡ e → Still e e'
still_same e e' same = record {
  epoch = ap (λ (d : SendingEnd). d.epoch) same;
  window = ap (λ (d : SendingEnd). d.window) same;
  had_is = λ before count. ap (λ (d : SendingEnd). had d.state before count) same;
}

pub still_then : (e e' e'' : SendingEnd) → Still e e' → Still e' e'' → Still e e''
still_then e e' e'' h k = record { epoch = k.epoch ∙ h.epoch; window = k.window ∙ h.window; had_is = λ before count. k.had_is before count ∙ h.had_is before count }

pub numbers_on : (e e' e'' : SendingEnd) (packets : List (List ℕ)) → HasNumbered e e' packets → Still e' e'' → HasNumbered e e'' packets
numbers_on e e' e'' packets h k = record {
  count = ap (λ (w : Sending). w.numbered) k.window ∙ (h.count ∙ ap (λ n. n + length packets) (sym (k.had_is e.state e.window.numbered)));
  older = h.older;
  unacked = ap (λ (w : Sending). w.unacked) k.window ∙ h.unacked;
}

-- ---- both links

sent_none : (t : Traffic) (y : SendingEnds) → sent_with t y [] [] ≡ t
sent_none t y =
    ap (λ (l : Lines). record { put = t.put; near = l; far = with_more t.far (session_by t.far y.far) [] }) (lines_none t.near (session_by t.near y.near))
    ∙ ap (λ (l : Lines). record { put = t.put; near = t.near; far = l }) (lines_none t.far (session_by t.far y.far))

-- the same sessions
sent_same : (t : Traffic) (x y : SendingEnds) (near far : List (List ℕ)) → y.near.epoch ≡ x.near.epoch → y.far.epoch ≡ x.far.epoch → sent_with t x near far ≡ sent_with t y near far
sent_same t x y near far n f =
    ap (λ e. record { put = t.put; near = with_more t.near (session_by t.near (record x.near { epoch = e })) near; far = with_more t.far (session_by t.far x.far) far }) (sym n)
    ∙ ap (λ e. record { put = t.put; near = with_more t.near (session_by t.near y.near) near; far = with_more t.far (session_by t.far (record x.far { epoch = e })) far }) (sym f)

-- no packet got a number
pub acted_none : (b : Bearer) (x y : SendingEnds) (t : Traffic) (z : State) → HasNumbered x.near y.near [] → HasNumbered x.far y.far [] → Become b y t z → Acted b x y t z
acted_none b x y t z near far h = record { near = []; far = []; near_is = near; far_is = far; become = subst (λ u. Become b y u z) (sym (sent_none t y)) h }

-- what came before
pub acted_first : (b : Bearer) (x x' y : SendingEnds) (t : Traffic) (z : State) → x' ≡ x → Acted b x' y t z → Acted b x y t z
acted_first b x x' y t z same h = subst (λ w. Acted b w y t z) same h

-- and then its ends keep their sessions
pub acted_on : (b : Bearer) (x w y : SendingEnds) (t : Traffic) (z : State) → Acted b x w t z → Still w.near y.near → Still w.far y.far → ((u : Traffic) (s : State) → StandFor b w u s → Become b y u s) → Acted b x y t z
acted_on b x w y t z h near far next =
    let u = sent_with t w h.near h.far in
    record {
      near = h.near;
      far = h.far;
      near_is = numbers_on x.near w.near y.near h.near h.near_is near;
      far_is = numbers_on x.far w.far y.far h.far h.far_is far;
      become = subst (λ v. Become b y v z) (sent_same t w y h.near h.far near.epoch far.epoch) (become_later b w y u z h.become (next u h.become.state h.become.stand));
    }

-- ---- packets on the near link alone

pub record ActedNear (b : Bearer) (x y : SendingEnds) (t : Traffic) (z : State) : Type 0 where
  pub packets : List (List ℕ)
  pub near_is : HasNumbered x.near y.near packets
  pub count : y.far.window.numbered ≡ x.far.window.numbered
  pub state : y.far.state ≡ x.far.state
  pub become : Become b y (near_more t (session_by t.near y.near) packets) z

pub near_acted : (b : Bearer) (x y : SendingEnds) (t : Traffic) (z : State) → ActedNear b x y t z → Acted b x y t z
near_acted b x y t z h = record {
  near = h.packets;
  far = [];
  near_is = h.near_is;
  far_is = numbers_none x.far y.far (h.count ∙ (sym (had_same x.far.state x.far.window.numbered) ∙ ap (λ s. had s x.far.state x.far.window.numbered) (sym h.state)));
  become = subst (λ (l : Lines). Become b y (record { put = t.put; near = with_more t.near (session_by t.near y.near) h.packets; far = l }) z) (sym (lines_none t.far (session_by t.far y.far))) h.become;
}

-- what came before, and behind it the same ends
pub near_first : (b : Bearer) (x x' y y' : SendingEnds) (t : Traffic) (z : State) → x' ≡ x → y' ≡ y → ActedNear b x' y' t z → ActedNear b x y t z
near_first b x x' y y' t z same after h = subst (λ w. ActedNear b x w t z) after (subst (λ w. ActedNear b w y' t z) same h)

-- ---- one link goes down, and the other one gets what it leaves

-- the near link goes down, and packets of the far one get numbers
pub record Falls (b : Bearer) (x y : SendingEnds) (t : Traffic) (z : State) : Type 0 where
  pub packets : List (List ℕ)
  pub was : x.near.state ≡ Up
  pub held : y.near.state ≡ Held
  pub count : y.near.window.numbered ≡ x.near.window.numbered
  pub epoch : y.far.epoch ≡ x.far.epoch
  pub far_was : x.far.state ≡ Up
  pub far_is : y.far.state ≡ Up
  pub more : y.far.window.numbered ≡ x.far.window.numbered + length packets
  pub behind : y.far.window.unacked ≡ x.far.window.unacked ++ packets
  pub become : Become b y (far_more t (session_by t.far y.far) packets) z

pub falls_acted : (b : Bearer) (x y : SendingEnds) (t : Traffic) (z : State) → Falls b x y t z → Acted b x y t z
falls_acted b x y t z h = record {
  near = [];
  far = h.packets;
  near_is = numbers_none x.near y.near (h.count ∙ ap (λ s. had s x.near.state x.near.window.numbered) (sym h.held));
  far_is = record {
    count = h.more ∙ ap (λ n. n + length h.packets) (ap (λ s. had Up s x.far.window.numbered) (sym h.far_was) ∙ ap (λ s. had s x.far.state x.far.window.numbered) (sym h.far_is));
    older = x.far.window.unacked;
    unacked = h.behind;
  };
  become = subst (λ (l : Lines). Become b y (record { put = t.put; near = l; far = with_more t.far (session_by t.far y.far) h.packets }) z) (sym (lines_none t.near (session_by t.near y.near))) h.become;
}

become_then : (b : Bearer) (x y : SendingEnds) (u v : Traffic) (z : State) (h : Become b x u z) → Become b y v h.state → Become b y v z
become_then b x y u v z h k = record { state = k.state; follows = follows_then b z h.state k.state h.follows k.follows; stand = k.stand }

-- or it is the far link that goes down
pub record FallsFar (b : Bearer) (x y : SendingEnds) (t : Traffic) (z : State) : Type 0 where
  pub packets : List (List ℕ)
  pub held : y.far.state ≡ Held
  pub count : y.far.window.numbered ≡ x.far.window.numbered
  pub epoch : y.near.epoch ≡ x.near.epoch
  pub state : y.near.state ≡ x.near.state
  pub more : y.near.window.numbered ≡ x.near.window.numbered + length packets
  pub behind : y.near.window.unacked ≡ x.near.window.unacked ++ packets
  pub become : Become b y (near_more t (session_by t.near y.near) packets) z

pub falls_back : (b : Bearer) (x y : PairEnds) (t : Traffic) (z : State) → Falls (other b) (ends_seen (turned_pair x)) (ends_seen y) (turned_traffic t) (turned_state z) → FallsFar b (ends_seen x) (ends_seen (turned_pair y)) t z
falls_back b x y t z h =
    let is = h.become.stand.bearer in
    record {
      packets = h.packets;
      held = h.held;
      count = h.count;
      epoch = h.epoch;
      state = h.far_is ∙ sym h.far_was;
      more = h.more;
      behind = h.behind;
      become = become_turned b (ends_seen (turned_pair y)) (near_more t (session_by t.near (ends_seen y).far) h.packets) z
          (subst (λ e. Become (other b) e (far_more (turned_traffic t) (session_by t.near (ends_seen y).far) h.packets) (turned_state z)) (sym (ends_back b y is)) h.become) (bearer_back b y.bearer is);
    }

-- packets got numbers on the near link, and then the far one goes down
pub acted_falls : (b : Bearer) (x w y : SendingEnds) (t : Traffic) (z : State) (h : ActedNear b x w t z) → FallsFar b w y (near_more t (session_by t.near w.near) h.packets) h.become.state → Acted b x y t z
acted_falls b x w y t z h k =
    let first = h.near_is in
    let packets = h.packets ++ k.packets in
    let session = session_by t.near w.near in
    let counts = had y.near.state x.near.state x.near.window.numbered in
    let same : had w.near.state x.near.state x.near.window.numbered ≡ counts = ap (λ s. had s x.near.state x.near.window.numbered) (sym k.state) in
    let one = first.count in
    let two = k.more in
    let long = length-append h.packets k.packets in
    let now = become_then b w y (near_more t session h.packets) (near_more (near_more t session h.packets) (session_by t.near y.near) k.packets) z h.become k.become in
    let there = subst (λ e. Become b y (near_more (near_more t session h.packets) (e + 1 - t.near.first) k.packets) z) k.epoch now in
    let all : Become b y (near_more t (session_by t.near y.near) packets) z = subst (λ e. Become b y (near_more t (e + 1 - t.near.first) packets) z) (sym k.epoch) (subst (λ u. Become b y u z) (traffic_twice t session h.packets k.packets) there) in
    record {
      near = packets;
      far = [];
      near_is = record {
        count = (let total : y.near.window.numbered ≡ counts + length packets = omega arith in total);
        older = first.older;
        unacked = k.behind ∙ (ap (λ ps. ps ++ k.packets) first.unacked ∙ append_assoc first.older h.packets k.packets);
      };
      far_is = numbers_none x.far y.far (k.count ∙ (h.count ∙ ap (λ s. had s x.far.state x.far.window.numbered) (sym k.held)));
      become = subst (λ (l : Lines). Become b y (record { put = t.put; near = with_more t.near (session_by t.near y.near) packets; far = l }) z) (sym (lines_none t.far (session_by t.far y.far))) all;
    }

-- ---- seen from the other link

pub acted_back : (b : Bearer) (x y : PairEnds) (t : Traffic) (z : State) → Acted (other b) (ends_seen (turned_pair x)) (ends_seen y) (turned_traffic t) (turned_state z) → Acted b (ends_seen x) (ends_seen (turned_pair y)) t z
acted_back b x y t z h =
    let is = h.become.stand.bearer in
    record {
      near = h.far;
      far = h.near;
      near_is = h.far_is;
      far_is = h.near_is;
      become = become_turned b (ends_seen (turned_pair y)) (sent_with t (ends_seen (turned_pair y)) h.far h.near) z
          (subst (λ e. Become (other b) e (sent_with (turned_traffic t) (ends_seen y) h.near h.far) (turned_state z)) (sym (ends_back b y is)) h.become) (bearer_back b y.bearer is);
    }
