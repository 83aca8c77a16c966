-- Fronts of lists.
use Rattle.std.proofs.Common.{◌∙◌, ◌∷◌, ◌≡◌, ◌≤◌, List, Some, [], ap, arith, get_or, length, suc, sym, take, zero, ℕ}
use Rattle.std.proofs.lemmas.List.{get_or-take}
use Rattle.std.proofs.lemmas.Option.{get_or_from_slice_get, slice_get-get_or, slice_get_within}
use Rattle.tipc_link.proofs.LinkLaw.{Each}
use Rattle.tipc_paired.specs.Paired.{IsPacket}

pub length-take-most : {A : Type 0} (n : ℕ) (xs : List A) → length (take n xs) ≤ n
length-take-most zero xs = omega arith
length-take-most (suc n) [] = omega arith
length-take-most (suc n) (x ∷ xs) = let h = length-take-most n xs in omega arith

pub length-take-short : {A : Type 0} (n : ℕ) (xs : List A) → length (take n xs) ≤ length xs
length-take-short zero xs = omega arith
length-take-short (suc n) [] = omega arith
length-take-short (suc n) (x ∷ xs) = let h = length-take-short n xs in omega arith

-- of packets that can be sent, those that move up and those that don't can be sent
pub each_front : {own : ℕ} (n : ℕ) (xs : List (List ℕ)) → Each (IsPacket own) xs → Each (IsPacket own) (take n xs)
each_front n xs h k bytes is =
    let within = slice_get_within (take n xs) k bytes is in
    let most = length-take-most n xs in
    let short = length-take-short n xs in
    let value : get_or xs k bytes ≡ bytes = sym (get_or-take n xs k bytes (omega arith)) ∙ get_or_from_slice_get (take n xs) k bytes bytes is in
    h k bytes (slice_get-get_or xs k bytes (omega arith) ∙ ap Some value)
