-- What is known of bytes that break no rule.
use Rattle.std.proofs.Common.{◌≡◌, ℕ, ◌-◌, ◌*◌, ◌<◌, ◌≤◌, Bool, true, false, cond, List, [], ◌∷◌, length, Option, Some, None, refl, arith}
use Rattle.std.specs.Prelude.{◌&&◌, ◌||◌, nat_le, nat_lt, ◌==◌}
use Rattle.std.proofs.lemmas.Bool.{eqb-true, ltb-true, leb-true}
use Rattle.std.proofs.lemmas.Bool.Decides.{nat_tests}
use Rattle.tipc_header.specs.declared.fault.HeaderFault.{HeaderFault}
use Rattle.tipc_header.specs.declared.fault.HeaderFault.TheVariants.{Short, Version, HeaderSize, Size, User, «Type», Reserved}
use Rattle.tipc_header.specs.Reading.{field, user_at, size_in_words, type_at}
use Rattle.tipc_header.specs.Faults.{is_one_of, has_user, types_of, size_of_type, has_start, word_0_is_clean, user_is_clean, has_version, has_header, has_size, has_type, is_clean, fault_of}

-- a test that let the bytes pass
passes : (t : Bool) (e : HeaderFault) (next : Option HeaderFault) → cond t next (Some e) ≡ None → (t ≡ true) × (next ≡ None)
passes true e next h = (refl, h)
passes false e next h = absurd cc

pub both : (x y : Bool) → (x && y) ≡ true → (x ≡ true) × (y ≡ true)
both true y h = (refl, h)
both false y h = absurd cc

not_above : (u n : ℕ) → (nat_lt 3 u || nat_le n 66000) ≡ true → u ≤ 3 → n ≤ 66000
not_above u n h low = grind (arith, nat_tests)

pub record IsSound (b : List ℕ) : Type 0 where
  pub short : 24 ≤ length b
  pub version : field 0 31 29 b ≡ 2
  pub header : 4 * size_in_words b ≤ length b
  pub size : field 0 16 0 b ≡ length b
  pub payload : user_at b ≤ 3 → length b - 4 * size_in_words b ≤ 66000
  pub user : has_user (user_at b) ≡ true
  pub type : type_at b < types_of (user_at b)
  pub size_of_type : size_in_words b ≡ size_of_type (user_at b) (type_at b)
  pub word_0 : word_0_is_clean (user_at b) b ≡ true
  pub clean : user_is_clean (user_at b) (type_at b) b ≡ true

pub is_sound : (b : List ℕ) → fault_of b ≡ None → IsSound b
unfolding fault_of
is_sound b h =
    let a = passes (has_start b) Short _ h in
    let c = passes (has_version b) Version _ a.1 in
    let d = passes (has_header b) HeaderSize _ c.1 in
    let e = passes (has_size b) Size _ d.1 in
    let f = passes (has_user (user_at b)) User _ e.1 in
    let g = passes (has_type b) «Type» _ f.1 in
    let k = passes (is_clean b) Reserved None g.1 in
    let header = both (is_one_of (6 ∷ 8 ∷ 10 ∷ 11 ∷ []) (size_in_words b)) (nat_le (4 * size_in_words b) (length b)) d.0 in
    let size = both (field 0 16 0 b == length b) (nat_lt 3 (user_at b) || nat_le (length b - 4 * size_in_words b) 66000) e.0 in
    let type = both _ _ g.0 in
    let clean = both _ _ k.0 in
    record {
      short = leb-true _ _ a.0;
      version = eqb-true _ _ c.0;
      header = leb-true _ _ header.1;
      size = eqb-true _ _ size.0;
      payload = λ low. not_above (user_at b) (length b - 4 * size_in_words b) size.1 low;
      user = f.0;
      type = ltb-true _ _ type.0;
      size_of_type = eqb-true _ _ type.1;
      word_0 = clean.0;
      clean = clean.1;
    }
