-- Events of the sender one after the other.
use Rattle.std.proofs.Common.{◌≡◌, Bool, true, refl, ◌∙◌, inl, inr}
use Rattle.tipc_changeover.specs.Links.{other, seen, turned_state, Bearer, First, Second, State}
use Rattle.tipc_changeover.specs.Events.{acted, Acknowledge, Event, Failover, LinkUp, MayAct, Number, Put, Record, Release, Switch, TakePlain, TakeTunnel}
use Rattle.tipc_changeover.specs.Reached.{after, IsReached}
use Rattle.tipc_changeover.specs.Sound.{Sound}
use Rattle.tipc_changeover.specs.Distances.{Bounded}
use Rattle.tipc_changeover.proofs.Reaching.{reached_bounded, seen_bounded}
use Rattle.tipc_changeover.proofs.Staying.{acts, reached_sound}
use Rattle.tipc_two_nodes.specs.links.Following.{Events, acted_far, far, is_sent, near, stays, SenderFollows}
use Rattle.tipc_two_nodes.specs.links.Laws.{TakesNone}

pub follows_then : {kind : Event → Bool} (b : Bearer) (s s' s'' : State) → Events kind b s s' → Events kind b s' s'' → Events kind b s s''
follows_then b s s' s'' f stays = f
follows_then b s s' s'' f (near next event g may sent) = near next event (follows_then b s s' next f g) may sent
follows_then b s s' s'' f (far next event g may sent) = far next event (follows_then b s s' next f g) may sent

-- one event
pub follows_one : {kind : Event → Bool} (b : Bearer) (s : State) (event : Event) → MayAct b s event → kind event ≡ true → Events kind b s (acted s event)
follows_one b s event may sent = near s event stays may sent

-- ---- what is sound stays sound

pub sound_turned : (b : Bearer) (s : State) → Sound b s → Sound (other b) (turned_state s)
sound_turned First s h = record {
  count = h.count;
  taken = h.taken;
  within = h.within;
  numbers = h.numbers;
  found = λ i low high. elim (h.found i low high) [ inl n ↦ inr n | inr f ↦ inl f ];
  idle = λ n f. h.idle f n;
  near = h.far;
  far = h.near;
}
sound_turned Second s h = record {
  count = h.count;
  taken = h.taken;
  within = h.within;
  numbers = h.numbers;
  found = λ i low high. elim (h.found i low high) [ inl n ↦ inr n | inr f ↦ inl f ];
  idle = λ n f. h.idle f n;
  near = h.far;
  far = h.near;
}

pub sound_back : (b : Bearer) (s : State) → Sound (other b) (turned_state s) → Sound b s
sound_back First s h = sound_turned Second (turned_state s) h
sound_back Second s h = sound_turned First (turned_state s) h

pub follows_sound : {kind : Event → Bool} (b : Bearer) (s s' : State) → Sound b s → Events kind b s s' → Sound b s'
follows_sound b s s' h stays = h
follows_sound b s s' h (near next event g may sent) = acts b next event (follows_sound b s next h g) may
follows_sound b s s' h (far next event g may sent) = sound_back b _ (acts (other b) (turned_state next) event (sound_turned b next (follows_sound b s next h g)) may)

-- ---- what is reached goes on to be

reached_near : (b : Bearer) (s : State) (event : Event) → IsReached (seen b s) → MayAct b s event → IsReached (seen b (acted s event))
reached_near First s event h may = after First s event h may
reached_near Second s event h may = after Second (turned_state s) event h may

reached_far : (b : Bearer) (s : State) (event : Event) → IsReached (seen b s) → MayAct (other b) (turned_state s) event → IsReached (seen b (acted_far s event))
reached_far First s event h may = after Second s event h may
reached_far Second s event h may = after First (turned_state s) event h may

pub follows_reached : {kind : Event → Bool} (b : Bearer) (s s' : State) → IsReached (seen b s) → Events kind b s s' → IsReached (seen b s')
follows_reached b s s' h stays = h
follows_reached b s s' h (near next event g may sent) = reached_near b next event (follows_reached b s next h g) may
follows_reached b s s' h (far next event g may sent) = reached_far b next event (follows_reached b s next h g) may

-- ---- nothing is taken

none_one : (s : State) (event : Event) → is_sent event ≡ true → TakesNone s (acted s event)
none_one s Put sent = record { near = refl; far = refl; delivered = refl }
none_one s (Number slot rest) sent = record { near = refl; far = refl; delivered = refl }
none_one s (Acknowledge places) sent = record { near = refl; far = refl; delivered = refl }
none_one s Release sent = record { near = refl; far = refl; delivered = refl }
none_one s (Record session) sent = absurd (let wrong : ⊥ = cc in wrong)
none_one s (TakePlain index) sent = absurd (let wrong : ⊥ = cc in wrong)
none_one s (TakeTunnel session place full opening) sent = absurd (let wrong : ⊥ = cc in wrong)
none_one s LinkUp sent = record { near = refl; far = refl; delivered = refl }
none_one s Switch sent = record { near = refl; far = refl; delivered = refl }
none_one s Failover sent = record { near = refl; far = refl; delivered = refl }

none_then : (s s' s'' : State) → TakesNone s s' → TakesNone s' s'' → TakesNone s s''
none_then s s' s'' f g = record { near = g.near ∙ f.near; far = g.far ∙ f.far; delivered = g.delivered ∙ f.delivered }

none_turned : (s s' : State) → TakesNone (turned_state s) (turned_state s') → TakesNone s s'
none_turned s s' h = record { near = h.far; far = h.near; delivered = h.delivered }

pub follows_none : (b : Bearer) (s s' : State) → SenderFollows b s s' → TakesNone s s'
follows_none b s s' stays = record { near = refl; far = refl; delivered = refl }
follows_none b s s' (near next event g may sent) = none_then s next _ (follows_none b s next g) (none_one next event sent)
follows_none b s s' (far next event g may sent) = none_then s next _ (follows_none b s next g) (none_turned next (turned_state (acted (turned_state next) event)) (none_one (turned_state next) event sent))

-- what was reached is as two links always are
pub reached_holds : (b : Bearer) (s : State) → IsReached (seen b s) → Sound b s × Bounded s
reached_holds First s h = (reached_sound s h, reached_bounded s h)
reached_holds Second s h = (sound_back Second s (reached_sound (turned_state s) h), seen_bounded Second (turned_state s) (reached_bounded (turned_state s) h))
