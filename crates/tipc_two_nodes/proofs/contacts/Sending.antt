-- A piece of a call at the sender in which no contact ends: what it sends in the contact goes on, by events, and all
-- other contacts are as they were.
use Rattle.std.proofs.Common.{◌≡◌, ◌<◌, ◌≤◌, ◌⊎◌, ℕ, ◌+◌, ◌-◌, true, List, refl, sym, ap, ◌∙◌, subst, inl, inr, arith}
use Rattle.tipc_changeover.specs.Links.{turned_state, Bearer, First, Held, Sender, State}
use Rattle.tipc_changeover.specs.Events.{acted, Acknowledge, Event, Failover, LinkUp, Number, Put, Record, Release, Switch, TakePlain, TakeTunnel}
use Rattle.tipc_two_nodes.specs.links.Following.{SenderFollows, far, is_sent, near, stays}
use Rattle.tipc_changeover.specs.Slots.{LinkSlot}
use Rattle.tipc_two_nodes.specs.links.Laws.{TakesNone}
use Rattle.tipc_two_nodes.specs.links.Sending.{IsSender}
use Rattle.tipc_two_nodes.specs.links.Traffic.{Lines, Traffic}
use Rattle.tipc_two_nodes.proofs.links.sender.Grown.{Grows}
use Rattle.tipc_two_nodes.proofs.links.sender.Happening.{follows_none, follows_reached}
use Rattle.tipc_two_nodes.proofs.links.sender.Turning.{stand_lines}
use Rattle.tipc_paired.specs.Views.{Node, View, epoch_on, es_of}
use Rattle.tipc_two_nodes.specs.Carriages.{AreCounted, AreSessions, BeganIn, Carriage, IsHad, IsSent, IsShownIn, IsTaken, Numbers, ends_in, outset}
use Rattle.tipc_two_nodes.specs.Steps.{ChangedAt, IsSendingPiece, SendsOn}
use Rattle.tipc_two_nodes.specs.Twins.{Crosses}
use Rattle.tipc_two_nodes.proofs.calls.HadSessions.{KeepsBegun, had_began}
use Rattle.tipc_two_nodes.proofs.contacts.Choosing.{on_one, one_changed, with_one}
use Rattle.tipc_two_nodes.proofs.contacts.Counting.{counted_sent}
use Rattle.tipc_two_nodes.proofs.contacts.Lasting.{taken_sent}
use Rattle.tipc_two_nodes.proofs.calls.Linking.{seen_at}

-- ---- sessions go on

-- an end has its session still, and is held only if it was; or a later session
abbrev pub GoesOn : Sender → Sender → Type 0
GoesOn z z' = (z.session < z'.session) ⊎ ((z'.session ≡ z.session) × (z'.state ≡ Held → z.state ≡ Held))

pub record BothGoOn (s s' : State) : Type 0 where
  pub near : GoesOn s.near s'.near
  pub far : GoesOn s.far s'.far

same_end : (z : Sender) → GoesOn z z
same_end z = inr (refl, λ held. held)

then_end : (z z' z'' : Sender) → GoesOn z z' → GoesOn z' z'' → GoesOn z z''
then_end z z' z'' (inl more) (inl again) = inl (omega arith)
then_end z z' z'' (inl more) (inr still) = inl (let same = still.0 in omega arith)
then_end z z' z'' (inr still) (inl more) = inl (let same = still.0 in omega arith)
then_end z z' z'' (inr still) (inr again) = inr (again.0 ∙ still.0, λ held. still.1 (again.1 held))

on_then : (s s' s'' : State) → BothGoOn s s' → BothGoOn s' s'' → BothGoOn s s''
on_then s s' s'' f g = record { near = then_end s.near s'.near s''.near f.near g.near; far = then_end s.far s'.far s''.far f.far g.far }

goes_on : (s : State) (event : Event) → is_sent event ≡ true → BothGoOn s (acted s event)
goes_on s Put is = record { near = inr (refl, λ held. held); far = same_end s.far }
goes_on s (Number slot rest) is = record { near = inr (refl, λ held. held); far = same_end s.far }
goes_on s (Acknowledge places) is = record { near = inr (refl, λ held. held); far = same_end s.far }
goes_on s Release is = record { near = inr (refl, λ held. absurd (let wrong : ⊥ = cc in wrong)); far = same_end s.far }
goes_on s (Record session) is = absurd (let wrong : ⊥ = cc in wrong)
goes_on s (TakePlain index) is = absurd (let wrong : ⊥ = cc in wrong)
goes_on s (TakeTunnel session place full opening) is = absurd (let wrong : ⊥ = cc in wrong)
goes_on s LinkUp is = record { near = inr (refl, λ held. absurd (let wrong : ⊥ = cc in wrong)); far = same_end s.far }
goes_on s Switch is = record { near = inr (refl, λ held. absurd (let wrong : ⊥ = cc in wrong)); far = inr (refl, λ held. held) }
goes_on s Failover is = record { near = inl (omega arith); far = inr (refl, λ held. held) }

on_turned : (s s' : State) → BothGoOn (turned_state s) (turned_state s') → BothGoOn s s'
on_turned s s' h = record { near = h.far; far = h.near }

pub follows_on : (b : Bearer) (s s' : State) → SenderFollows b s s' → BothGoOn s s'
follows_on b s s' stays = record { near = same_end s.near; far = same_end s.far }
follows_on b s s' (near next event f may sent) = on_then s next _ (follows_on b s next f) (goes_on next event sent)
follows_on b s s' (far next event f may sent) = on_then s next _ (follows_on b s next f) (on_turned next (turned_state (acted (turned_state next) event)) (goes_on (turned_state next) event sent))

shown_on : (l l' : Lines) (z z' : Sender) (epoch : ℕ) → l'.first ≡ l.first → GoesOn z z' → IsShownIn l z epoch → IsShownIn l' z' epoch
shown_on l l' z z' epoch first (inl more) h =
    let low = h.no_lower in
    let high = h.no_higher in
    record { no_lower = omega arith; no_higher = omega arith; held = λ held. omega arith }
shown_on l l' z z' epoch first (inr still) h =
    let low = h.no_lower in
    let high = h.no_higher in
    let same = still.0 in
    record { no_lower = omega arith; no_higher = omega arith; held = λ held. (let before = h.held (still.1 held) in omega arith) }

-- ---- a piece of a call

sessions_sent : (x x' : View) (own theirs b : ℕ) (l l' : Lines) (z z' : Sender) → own ≡ x.node.contact → theirs ≡ x.node.seen → SendsOn x x' b l l' z' → GoesOn z z' → ((epoch : ℕ) → l'.first ≤ epoch → IsHad l' z' epoch → BeganIn x' b epoch own theirs)
    → AreSessions x own theirs b l z → AreSessions x' own theirs b l' z'
sessions_sent x x' own theirs b l l' z z' here seen m on began h = record {
  began = began;
  lines = λ epoch g is with_own with_theirs. elim (m.began epoch g is) [
    | inl was ↦ (let k = h.lines epoch g was with_own with_theirs in moved epoch k.0 k.1)
    | inr new ↦ moved epoch new.2 new.3
  ];
  shown = λ k f there bearer with_own with_theirs. elim (m.told k f there bearer) [
    | inl was ↦ shown_on l l' z z' (es_of f.bytes) m.first on (h.shown k f was bearer with_own with_theirs)
    | inr new ↦ new.2
  ];
} where
  moved : (epoch : ℕ) → l.first ≤ epoch → l.line (epoch + 1 - l.first) ≡ (x.wires b).line epoch → (l'.first ≤ epoch) × (l'.line (epoch + 1 - l'.first) ≡ (x'.wires b).line epoch)
  moved epoch low same = (let first = m.first in let low' : l'.first ≤ epoch = omega arith in (low', ap (λ n. l'.line (epoch + 1 - n)) first ∙ m.lines epoch low same))

sessions_other : (x x' y : View) (n : Numbers) (own theirs b : ℕ) (l d d' : Lines) (z z' : Sender) → (own ≡ x.node.contact → theirs ≡ x.node.seen → ⊥) → SendsOn x x' b d d' z' → KeepsBegun x x' y n → AreSessions x own theirs b l z → AreSessions x' own theirs b l z
sessions_other x x' y n own theirs b l d d' z z' differ m g h = record {
  began = λ epoch low had. (let k = h.began epoch low had in (k.0, g.begun b epoch k.0 k.1, k.2, k.3));
  lines = λ epoch g is with_own with_theirs. elim (m.began epoch g is) [
    | inl was ↦ (
        let k = h.lines epoch g was with_own with_theirs in
        (k.0, k.1 ∙ sym (m.others epoch g was (λ one two. differ (sym with_own ∙ one) (sym with_theirs ∙ two)))))
    | inr new ↦ absurd (differ (sym with_own ∙ new.0) (sym with_theirs ∙ new.1))
  ];
  shown = λ k f there bearer with_own with_theirs. elim (m.told k f there bearer) [
    | inl was ↦ h.shown k f was bearer with_own with_theirs
    | inr new ↦ absurd (differ (sym with_own ∙ new.0) (sym with_theirs ∙ new.1))
  ];
}

began_here : (P : LinkSlot → List ℕ → Type 0) (x x' y : View) (n : Numbers) (b : ℕ) (l : Lines) (z : Sender) → KeepsBegun x x' y n → x'.node ≡ x.node → l.first ≡ n.first b x.node.contact → IsSender P l (seen_at x' b) z → (epoch : ℕ) → l.first ≤ epoch → IsHad l z epoch
    → BeganIn x' b epoch x.node.contact x.node.seen
began_here P x x' y n b l z g node first sender epoch low had =
    let own : x'.node.contact ≡ x.node.contact = ap (λ (k : Node). k.contact) node in
    subst (λ (k : Node). BeganIn x' b epoch k.contact k.seen) node (had_began P x' y n b l z g.paired_then g.are (first ∙ ap (n.first b) (sym own)) sender epoch low had)

sent_here : (x x' y : View) (n : Numbers) (c : Carriage) (t : Traffic) → KeepsBegun x x' y n → IsSent x n x.node.contact x.node.seen c → (m : IsSendingPiece x x' c t) → IsSent x' n x.node.contact x.node.seen (record { traffic = t; state = m.become.state })
sent_here x x' y n c t g h m =
    let s' = m.become.state in
    let on = follows_on First c.state s' m.become.follows in
    record {
      reached = follows_reached First c.state s' h.reached m.become.follows;
      lines = stand_lines First (ends_in x') t s' m.become.stand;
      near_first = m.near.first ∙ h.near_first;
      far_first = m.far.first ∙ h.far_first;
      near = sessions_sent x x' x.node.contact x.node.seen 0 c.traffic.near t.near c.state.near s'.near refl refl m.near on.near (began_here _ x x' y n 0 t.near s'.near g m.node (m.near.first ∙ h.near_first) m.become.stand.near) h.near;
      far = sessions_sent x x' x.node.contact x.node.seen 1 c.traffic.far t.far c.state.far s'.far refl refl m.far on.far (began_here _ x x' y n 1 t.far s'.far g m.node (m.far.first ∙ h.far_first) m.become.stand.far) h.far;
      now = λ own theirs. m.become.stand;
      ahead = λ own apart higher. absurd (let same = ap (λ (k : Node). k.seen) m.node in let wrong : ⊥ = omega arith in wrong);
    }

sent_other : (x x' y : View) (n : Numbers) (c d : Carriage) (t : Traffic) (own theirs : ℕ) → KeepsBegun x x' y n → (own ≡ x.node.contact → theirs ≡ x.node.seen → ⊥) → IsSendingPiece x x' c t → IsSent x n own theirs d → IsSent x' n own theirs d
sent_other x x' y n c d t own theirs g differ m h =
    let contact : x'.node.contact ≡ x.node.contact = ap (λ (k : Node). k.contact) m.node in
    let seen : x'.node.seen ≡ x.node.seen = ap (λ (k : Node). k.seen) m.node in
    record {
      reached = h.reached;
      lines = h.lines;
      near_first = h.near_first;
      far_first = h.far_first;
      near = sessions_other x x' y n own theirs 0 d.traffic.near c.traffic.near t.near d.state.near m.become.state.near differ m.near g h.near;
      far = sessions_other x x' y n own theirs 1 d.traffic.far c.traffic.far t.far d.state.far m.become.state.far differ m.far g h.far;
      now = λ here with_theirs. absurd (differ (sym here ∙ contact) (sym with_theirs ∙ seen));
      ahead = λ here apart higher. (
          let before = m.apart apart in
          let more : x.node.seen < theirs = omega arith in
          h.ahead (sym contact ∙ here) before.0 more ∙ (ap (λ e. outset e (epoch_on x.node (x.wires 1))) (sym (before.1 0)) ∙ ap (outset (epoch_on x'.node (x'.wires 0))) (sym (before.1 1))));
    }

grown : (x x' : View) (b : ℕ) (l l' : Lines) (z' : Sender) → SendsOn x x' b l l' z' → Grows l l'
grown x x' b l l' z' m = record { first = m.first; stays = m.stays }

counted_then : (x x' y : View) (n : Numbers) (own theirs : ℕ) (c c' : Carriage) → KeepsBegun x x' y n → c'.traffic.near.first ≡ c.traffic.near.first → c'.traffic.far.first ≡ c.traffic.far.first → TakesNone c.state c'.state → AreCounted x y own theirs c → AreCounted x' y own theirs c'
counted_then x x' y n own theirs c c' g first second none k = record {
  near = counted_sent x x' y 0 own theirs c.traffic.near c'.traffic.near c.state.near_record c'.state.near_record g.paired g.begun first none.near k.near;
  far = counted_sent x x' y 1 own theirs c.traffic.far c'.traffic.far c.state.far_record c'.state.far_record g.paired g.begun second none.far k.far;
}

no_taking : (s : State) → TakesNone s s
no_taking s = record { near = refl; far = refl; delivered = refl }

pub sends_crosses : (x x' y : View) (n : Numbers) (t : Traffic) (k : Crosses x y n) → KeepsBegun x x' y n → IsSendingPiece x x' (k.carriage x.node.contact x.node.seen) t → Crosses x' y n
sends_crosses x x' y n t k g m =
    let own = x.node.contact in
    let theirs = x.node.seen in
    let c = k.carriage own theirs in
    let c' : Carriage = record { traffic = t; state = m.become.state } in
    record {
      carriage = with_one k.carriage own theirs c';
      sent = on_one k.carriage own theirs c' (λ i j d. IsSent x' n i j d) (sent_here x x' y n c t g (k.sent own theirs) m) (λ i j differ. sent_other x x' y n c (k.carriage i j) t i j g differ m (k.sent i j));
      taken = on_one k.carriage own theirs c' (λ i j d. IsTaken y j i d) (taken_sent y theirs own c c' (k.taken own theirs) (follows_none First c.state m.become.state m.become.follows) (grown x x' 0 c.traffic.near t.near m.become.state.near m.near) (grown x x' 1 c.traffic.far t.far m.become.state.far m.far)) (λ i j differ. k.taken i j);
      counted = on_one k.carriage own theirs c' (λ i j d. AreCounted x' y i j d) (counted_then x x' y n own theirs c c' g m.near.first m.far.first (follows_none First c.state m.become.state m.become.follows) (k.counted own theirs))
          (λ i j differ. counted_then x x' y n i j (k.carriage i j) (k.carriage i j) g refl refl (no_taking (k.carriage i j).state) (k.counted i j));
    }

-- no other contact changed
pub sends_changed : (x x' y : View) (n : Numbers) (t : Traffic) (k : Crosses x y n) (g : KeepsBegun x x' y n) (m : IsSendingPiece x x' (k.carriage x.node.contact x.node.seen) t)
    → ChangedAt k.carriage (sends_crosses x x' y n t k g m).carriage x.node.contact x.node.seen (record { traffic = t; state = m.become.state })
unfolding sends_crosses
sends_changed x x' y n t k g m = one_changed k.carriage x.node.contact x.node.seen (record { traffic = t; state = m.become.state })

pub sends_none : (x x' : View) (c : Carriage) (t : Traffic) (m : IsSendingPiece x x' c t) → m.become.state.delivered ≡ c.state.delivered
sends_none x x' c t m = (follows_none First c.state m.become.state m.become.follows).delivered
