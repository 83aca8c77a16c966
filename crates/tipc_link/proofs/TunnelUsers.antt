-- Bytes that name another user are no tunnel packet.
use Rattle.std.proofs.Common.{◌≡◌, ◌==◌, ℕ, Bool, true, false, List, is_none, refl}
use Rattle.std.specs.Prelude.{◌&&◌, if◌then◌else◌, nat_le}
use Rattle.tipc_header.specs.declared.packet.Header.TheVariants as header
use Rattle.tipc_header.specs.Faults.{fault_of}
use Rattle.tipc_header.specs.Reading.{bundle_at, changeover_at, discovery_at, distribution_at, fields_at, fragment_at, header_at, payload_at, reset_at, state_at, type_at, user_at}
use Rattle.tipc_link.specs.Records.{is_changeover, is_tunnel}

-- the header of no other user is a tunnel packet's
other_header : (u t : ℕ) (b : List ℕ) (payload bundle protocol names fragment state reset : Bool)
    → is_changeover (if payload then payload_at u t b
    else (if bundle then bundle_at b
    else (if protocol then (if state then state_at b else (if reset then header.Reset (reset_at b) else header.Activate (reset_at b)))
    else (if false then changeover_at t b
    else (if names then distribution_at t b
    else (if fragment then fragment_at t b
    else discovery_at t b)))))) ≡ false
unfolding payload_at bundle_at state_at distribution_at fragment_at discovery_at
other_header u t b true bundle protocol names fragment state reset = refl
other_header u t b false true protocol names fragment state reset = refl
other_header u t b false false true names fragment true reset = refl
other_header u t b false false true names fragment false true = refl
other_header u t b false false true names fragment false false = refl
other_header u t b false false false true fragment state reset = refl
other_header u t b false false false false true state reset = refl
other_header u t b false false false false false state reset = refl

other_user : (u t : ℕ) (b : List ℕ) → (u == 10) ≡ false → is_changeover (header_at u t b) ≡ false
unfolding header_at
other_user u t b is = rw is (other_header u t b (nat_le u 3) (u == 6) (u == 7) (u == 11) (u == 12) (t == 0) (t == 1))

pub no_tunnel : (b : List ℕ) → (user_at b == 10) ≡ false → is_tunnel b ≡ false
unfolding is_tunnel fields_at
no_tunnel b is = by (is_none (fault_of b))
  where
    none : is_changeover (header_at (user_at b) (type_at b) b) ≡ false
    none = other_user (user_at b) (type_at b) b is

    by : (clear : Bool) → (clear && is_changeover (header_at (user_at b) (type_at b) b)) ≡ false
    by true = none
    by false = refl
