-- A broadcast frame that its caster wrote may come into the air.
use Rattle.std.specs.Prelude.{◌&&◌, nat_le}
use Rattle.std.proofs.Common.{◌≡◌, ◌≤◌, ◌∙◌, ℕ, true, length, ap, arith}
use Rattle.std.proofs.lemmas.Bool.Decides.{nat_tests}
use Rattle.tipc_types.specs.Address.{node_word}
use Rattle.tipc_outside.specs.declared.outgoing.Outgoing.{Outgoing}
use Rattle.tipc_broadcast.specs.Pieces.{IsOfBroadcast}
use Rattle.tipc_casters.specs.Reading.{IsWritten}
use Rattle.tipc_node.specs.Nodes.{is_frame_size}
use Rattle.tipc_replay.specs.Addressed.{of_broadcast}
use Rattle.tipc_replay.specs.Air.{IsOut}

sized : (n : ℕ) → 16 ≤ n → n ≤ 1516 → is_frame_size n ≡ true
sized n whole short =
    let first : nat_le 16 n ≡ true = grind (arith, nat_tests, whole) in
    let second : nat_le n 1516 ≡ true = grind (arith, nat_tests, short) in
    ap (λ b. b && nat_le n 1516) first ∙ second

pub written_out : (a boot : ℕ) (o : Outgoing) → IsWritten (node_word a) o → IsOfBroadcast boot o → IsOut a o
written_out a boot o w b =
    let one = w.boot_fits in
    let two = w.set_fits in
    record {
      bearer = b.on_one;
      addressed = of_broadcast (record { es = w.boot; er = w.set; packet = w.packet; is_from = record { es_fits = omega (arith, one); er_fits = omega (arith, two); fits = w.fits; frame_is = w.bytes; previous = w.previous } }) b.kind w.to_all;
      size = sized (length o.frame) w.whole w.short;
    }
