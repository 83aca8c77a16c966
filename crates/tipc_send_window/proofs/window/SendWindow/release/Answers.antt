use Rattle.std.proofs.Common.{◌≡◌, ◌+◌, ◌-◌, ◌≤◌, ℕ, List, length, vec_len, vec_capacity, refl, sym, ◌∙◌, ap, arith, length-drop}
use Rattle.tipc_types.specs.declared.packet_lists.Kept.{Kept}
use Rattle.tipc_send_window.proofs.Keeping.{IsStored-clear, IsStored-skip, length-live, packets_of-release}
use Rattle.tipc_send_window.proofs.window.SendWindow.release.Goals as goal

-- the released packets stay stored for now
pub invariant_of-self : goal.invariant_of-self
invariant_of-self c = IsStored-skip _ _ _ _ _ c.args.count _ (omega arith) c.self.invariant

-- the acknowledged packets are cleared
pub invariant_of-self-else-released-len : goal.invariant_of-self-else-released-len
invariant_of-self-else-released-len c =
    let w = c.self.inside in
    let cleared = c.drop-drain.ensures in
    let rest = c.drop-drain.new.self.0 in
    let half = c.self.invariant.half in
    let long = sym w.stored.ok.0 in
    let live = length-live w.released (vec_len w.stored) w.stored.items long in
    let some = rw (← c.self.view_is) at c.requires in
    let few : c.args.count ≤ vec_len w.stored - w.released = rw live at some in
    let same = cleared.items ∙ c.drain.ensures.kept in
    let left : vec_len rest ≡ vec_len w.stored - (w.released + c.args.count) =
    rest.ok.0 ∙ ap (λ (ks : List Kept). length ks) same ∙ length-drop _ w.stored.items ∙ ap (λ (n : ℕ). n - (w.released + c.args.count)) long in
    let room : vec_capacity rest ≡ vec_capacity w.stored = cleared.capacity ∙ c.drain.ensures.capacity in
    rw room (IsStored-clear _ _ _ _ _ c.args.count _ w.stored.items rest.items (omega arith) left same c.self.invariant)

pub returns-then-released-len : goal.returns-then-released-len
returns-then-released-len c = rw (← c.self.view_is, packets_of-release) refl

pub returns-else-released-len : goal.returns-else-released-len
returns-else-released-len c =
    rw (← c.self.view_is, c.drop-drain.ensures.items, c.drain.ensures.kept, packets_of-release) refl
