use Rattle.std.proofs.Common.{◌≡◌, take}
use Rattle.std.specs.Str.Parse.{AllDigits, digits_value}
use Rattle.tipc_script.proofs.numbers.digits_in.Given as goal

abbrev pub invariant-loop-byte : goal.invariant-loop-byte
invariant-loop-byte l = record { digits : AllDigits 10 (take l.byte-index l.token); value : l.number ≡ digits_value 10 (take l.byte-index l.token) }
