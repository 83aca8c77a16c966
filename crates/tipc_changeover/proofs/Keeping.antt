-- What a change of the two senders' ends keeps that leaves the lines alone.
use Rattle.std.proofs.Common.{◌≡◌, ◌≢◌, ℕ, ◌-◌, ◌≤◌, true, false, List, [], refl, sym, ap, ◌∙◌}
use Rattle.tipc_changeover.specs.Slots.{counted, plains, LinkSlot}
use Rattle.tipc_changeover.specs.Links.{leads, other, slots, Bearer, EndState, First, Held, Receiver, Reset, Second, Sender, State, Up}
use Rattle.tipc_changeover.specs.Parts.{Carrier, Cover, Ends, InnerIn, Ready, RunsIn, TargetIn}
use Rattle.tipc_changeover.specs.Sound.{Holds, Sound}

-- ---- the link over which the flow goes

pub leads_up : (b : Bearer) (st su : EndState) → leads b st su ≡ true → st ≡ Up
leads_up b Up su e = refl
leads_up First Reset su e = absurd (let wrong : ⊥ = cc in wrong)
leads_up First Held su e = absurd (let wrong : ⊥ = cc in wrong)
leads_up Second Reset su e = absurd (let wrong : ⊥ = cc in wrong)
leads_up Second Held su e = absurd (let wrong : ⊥ = cc in wrong)

pub leads_one : (b : Bearer) (st su : EndState) → leads b st su ≡ true → leads (other b) su st ≡ false
leads_one First Up Up e = refl
leads_one First Up Reset e = refl
leads_one First Up Held e = refl
leads_one First Reset su e = absurd (let wrong : ⊥ = cc in wrong)
leads_one First Held su e = absurd (let wrong : ⊥ = cc in wrong)
leads_one Second Up Up e = absurd (let wrong : ⊥ = cc in wrong)
leads_one Second Up Reset e = refl
leads_one Second Up Held e = refl
leads_one Second Reset su e = absurd (let wrong : ⊥ = cc in wrong)
leads_one Second Held su e = absurd (let wrong : ⊥ = cc in wrong)

-- an end that isn't up is the same to the other
pub leads_same : (b : Bearer) (st su : EndState) → su ≢ Up → leads b st su ≡ leads b st Reset
leads_same First Up su down = refl
leads_same First Reset su down = refl
leads_same First Held su down = refl
leads_same Second Up Up down = absurd (down refl)
leads_same Second Up Reset down = refl
leads_same Second Up Held down = refl
leads_same Second Reset su down = refl
leads_same Second Held su down = refl

-- where a link has the flow beside an up one, it has it beside any
pub leads_beside : (b : Bearer) (st su : EndState) → leads b st Up ≡ true → leads b st su ≡ true
leads_beside First Up su e = refl
leads_beside First Reset su e = e
leads_beside First Held su e = e
leads_beside Second Up su e = absurd (let wrong : ⊥ = cc in wrong)
leads_beside Second Reset su e = e
leads_beside Second Held su e = e

pub leads_alone : (b : Bearer) (st : EndState) → st ≡ Up → leads b st Held ≡ true
leads_alone First st up = ap (λ z. leads First z Held) up
leads_alone Second st up = ap (λ z. leads Second z Held) up

pub not_up : {st su : EndState} → st ≡ su → su ≢ Up → st ≢ Up
not_up same down = λ up. down (sym same ∙ up)

-- ---- a change that leaves the lines alone

-- what such a change has to show of one link
pub record Kept (b : Bearer) (x y : Sender) (r t : Receiver) (numbered put : ℕ) : Type 0 where
  pub ends : Ends x r
  pub waits : leads b x.state y.state ≡ true → plains x.waiting ≡ counted numbered (put - numbered)
  pub none_waits : leads b x.state y.state ≡ false → plains x.waiting ≡ []
  pub ready : Ready b x y r t
  pub runs : RunsIn (slots x) t
  pub target_lines : (e : ℕ) → TargetIn (x.line e) y
  pub target : TargetIn (slots x) y
  pub inner : InnerIn (slots x) x.session y.line
  pub carrier : Carrier b x y
  pub cover : Cover x y r

abbrev pub over : (ℕ → List LinkSlot) → ℕ → EndState → List LinkSlot → ℕ → Sender
over line session state waiting acked = record { session = session; state = state; line = line; waiting = waiting; acked = acked }

kept : (b : Bearer) (x y x' y' : Sender) (r t : Receiver) (m n n' k : ℕ) → Holds b x y r t m n k → Kept b (over x.line x'.session x'.state x'.waiting x'.acked) (over y.line y'.session y'.state y'.waiting y'.acked) r t m n' →
    Holds b (over x.line x'.session x'.state x'.waiting x'.acked) (over y.line y'.session y'.state y'.waiting y'.acked) r t m n' k
kept b x y x' y' r t m n n' k h w = record {
  ends = w.ends;
  homes = record { within = h.homes.within; once = h.homes.once; apart = h.homes.apart; waits = w.waits; none_waits = w.none_waits };
  order = h.order;
  barrier = h.barrier;
  ready = w.ready;
  runs = record { lines = h.runs.lines; now = w.runs };
  target = record { lines = w.target_lines; now = w.target };
  inner = record { lines = h.inner.lines; now = w.inner };
  effect = h.effect;
  carrier = w.carrier;
  cover = w.cover;
  delivered = h.delivered;
}

abbrev pub ends_changed : State → Sender → Sender → ℕ → State
ends_changed s x' y' put = record {
  near = over s.near.line x'.session x'.state x'.waiting x'.acked;
  near_record = s.near_record;
  far = over s.far.line y'.session y'.state y'.waiting y'.acked;
  far_record = s.far_record;
  put = put;
  numbered = s.numbered;
  delivered = s.delivered;
}

pub all_kept : (b : Bearer) (s : State) (x' y' : Sender) (put : ℕ) → Sound b s →
    Kept b (over s.near.line x'.session x'.state x'.waiting x'.acked) (over s.far.line y'.session y'.state y'.waiting y'.acked) s.near_record s.far_record s.numbered put →
    Kept (other b) (over s.far.line y'.session y'.state y'.waiting y'.acked) (over s.near.line x'.session x'.state x'.waiting x'.acked) s.far_record s.near_record s.numbered put →
    s.numbered ≤ put → (x'.state ≢ Up → y'.state ≢ Up → s.numbered ≡ put) → Sound b (ends_changed s x' y' put)
all_kept b s x' y' put h near far numbers idle = record {
  count = h.count;
  taken = h.taken;
  within = h.within;
  numbers = numbers;
  found = h.found;
  idle = idle;
  near = kept b s.near s.far x' y' s.near_record s.far_record s.numbered s.put put h.count h.near near;
  far = kept (other b) s.far s.near y' x' s.far_record s.near_record s.numbered s.put put h.count h.far far;
}
