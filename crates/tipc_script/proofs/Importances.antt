-- Words of importance.
use Rattle.std.proofs.Common.{◌≡◌, true, false, List, ℕ, refl, inl, inr}
use Rattle.std.specs.Prelude.{codes}
use Rattle.std.specs.Str.{bytes_eq}
use Rattle.std.proofs.lemmas.Bool.{cases_Bool}
use Rattle.std.proofs.lemmas.Slice.Eq.{bytes_eq-Decides}
use Rattle.tipc_types.specs.declared.message_forms.Importance.{Importance}
use Rattle.tipc_types.specs.declared.message_forms.Importance.TheVariants.{Low, Medium, High, Critical}
use Rattle.tipc_script.specs.Kinds.{importance_in, importance_of, is_importance}
use Rattle.tipc_script.specs.Spelling.{importance_word}
use Rattle.tipc_script.proofs.Spaces.{has_no_space}

is_the_word : (token word : List ℕ) → bytes_eq token word ≡ true → token ≡ word
is_the_word token word e = (bytes_eq-Decides token word).0 e

-- a word of importance is that of the importance that it stands for
pub importance_spelled : (token : List ℕ) → is_importance token ≡ true → token ≡ importance_word (importance_of token)
unfolding importance_in
importance_spelled token e =
    elim (cases_Bool (bytes_eq token (codes "low"))) [
      | inl low ↦ rw low (is_the_word token (codes "low") low)
      | inr not_low ↦
          elim (cases_Bool (bytes_eq token (codes "medium"))) [
            | inl medium ↦ rw (not_low, medium) (is_the_word token (codes "medium") medium)
            | inr not_medium ↦
                elim (cases_Bool (bytes_eq token (codes "high"))) [
                  | inl high ↦ rw (not_low, not_medium, high) (is_the_word token (codes "high") high)
                  | inr not_high ↦
                      elim (cases_Bool (bytes_eq token (codes "critical"))) [
                        | inl critical ↦ rw (not_low, not_medium, not_high, critical) (is_the_word token (codes "critical") critical)
                        | inr not_critical ↦ absurd (let f : is_importance token ≡ false = rw (not_low, not_medium, not_high, not_critical) refl in cc)
                      ]
                ]
          ]
    ]

pub is_importance-word : (importance : Importance) → is_importance (importance_word importance) ≡ true
unfolding importance_in
is_importance-word Low = refl
is_importance-word Medium = refl
is_importance-word High = refl
is_importance-word Critical = refl

pub importance_of-word : (importance : Importance) → importance_of (importance_word importance) ≡ importance
unfolding importance_in
importance_of-word Low = refl
importance_of-word Medium = refl
importance_of-word High = refl
importance_of-word Critical = refl

pub no_space-importance : (importance : Importance) → has_no_space (importance_word importance) ≡ true
no_space-importance Low = refl
no_space-importance Medium = refl
no_space-importance High = refl
no_space-importance Critical = refl
