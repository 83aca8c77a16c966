-- What was taken in a contact is a front of what was put in it.
use Rattle.std.proofs.Common.{◌≡◌, ◌≤◌, ◌+◌, ℕ, zero, suc, length, refl, ap, ◌∙◌, arith}
use Rattle.tipc_changeover.specs.Slots.{counted}
use Rattle.tipc_changeover.specs.Links.{Bearer, First, State}
use Rattle.tipc_changeover.specs.Sound.{Sound}
use Rattle.tipc_changeover.proofs.Staying.{reached_sound}
use Rattle.tipc_paired.specs.Views.{View}
use Rattle.tipc_two_nodes.specs.Carriages.{Carriage, IsSent, Numbers}

counted_length : (before count : ℕ) → length (counted before count) ≡ count
unfolding counted
counted_length before zero = refl
counted_length before (suc count) = ap suc (counted_length (before + 1) count)

pub delivered_count : (b : Bearer) (s : State) → (sound : Sound b s) → length s.delivered ≡ sound.count
delivered_count b s sound = ap length sound.taken ∙ counted_length 0 sound.count

-- no more was taken than was put
pub taken_within : (x : View) (n : Numbers) (own theirs : ℕ) (c : Carriage) → IsSent x n own theirs c → length c.state.delivered ≤ length c.traffic.put
taken_within x n own theirs c h =
    let sound = reached_sound c.state h.reached in
    let count : length c.state.delivered ≡ sound.count = delivered_count First c.state sound in
    let within = sound.within in
    let numbers = sound.numbers in
    let put = h.lines.put in
    omega arith
