-- What always holds of two links and their tunnels.
use Rattle.std.specs.Prelude.{◌≡◌, ◌≢◌, ℕ, ◌≤◌, ◌⊎◌}
use Rattle.tipc_changeover.specs.Slots.{counted}
use Rattle.tipc_changeover.specs.Links.{other, Bearer, Receiver, Sender, State, Up}
use Rattle.tipc_changeover.specs.Parts.{Barrier, Carrier, Cover, Delivered, Effect, Ends, Homes, Inner, Order, Ready, Runs, Stands, Target}

-- the parts of one link, towards the other
pub record Holds (b : Bearer) (x y : Sender) (r t : Receiver) (numbered put count : ℕ) : Type 0 where
  pub ends : Ends x r
  pub homes : Homes b x y numbered put
  pub order : Order x.line
  pub barrier : Barrier x.line y.line r t
  pub ready : Ready b x y r t
  pub runs : Runs x t
  pub target : Target x y
  pub inner : Inner x y.line
  pub effect : Effect x.line r t
  pub carrier : Carrier b x y
  pub cover : Cover x y r
  pub delivered : Delivered x.line r count

-- of both links, seen from that of a bearer; and that the packets taken are the first ones, in their order
pub record Sound (b : Bearer) (s : State) : Type 0 where
  pub count : ℕ
  pub taken : s.delivered ≡ counted 0 count
  pub within : count ≤ s.numbered
  pub numbers : s.numbered ≤ s.put
  pub found : (i : ℕ) → 1 ≤ i → i ≤ s.numbered → Stands s.near.line i ⊎ Stands s.far.line i
  pub idle : s.near.state ≢ Up → s.far.state ≢ Up → s.numbered ≡ s.put
  pub near : Holds b s.near s.far s.near_record s.far_record s.numbered s.put count
  pub far : Holds (other b) s.far s.near s.far_record s.near_record s.numbered s.put count
