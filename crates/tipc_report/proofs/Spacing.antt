-- Words with single spaces between them.
use Rattle.std.proofs.Common.{◌≡◌, ℕ, List, [], ◌∷◌, ◌++◌, append_assoc, ap, ◌∙◌}
use Rattle.tipc_report.specs.Closing.{spaced}

-- one word more, after a space
pub spaced_more : (a b c d e : List ℕ) → (spaced (a ∷ b ∷ c ∷ d ∷ []) ++ 32 ∷ []) ++ e ≡ spaced (a ∷ b ∷ c ∷ d ∷ e ∷ [])
spaced_more a b c d e = simp append_assoc

-- two words, and one more after a space
pub two_and_one : (a b c : List ℕ) → (spaced (a ∷ b ∷ []) ++ 32 ∷ []) ++ c ≡ spaced (a ∷ b ∷ c ∷ [])
two_and_one a b c = simp append_assoc

-- words and others, with a space between
words_then : (x : List ℕ) (xs : List (List ℕ)) (y : List ℕ) (ys : List (List ℕ)) → (spaced (x ∷ xs) ++ 32 ∷ []) ++ spaced (y ∷ ys) ≡ spaced (x ∷ (xs ++ y ∷ ys))
words_then x [] y ys = append_assoc x (32 ∷ []) (spaced (y ∷ ys))
words_then x (z ∷ xs) y ys =
    ap (λ u. u ++ spaced (y ∷ ys)) (append_assoc x (32 ∷ spaced (z ∷ xs)) (32 ∷ []))
    ∙ append_assoc x (32 ∷ (spaced (z ∷ xs) ++ 32 ∷ [])) (spaced (y ∷ ys))
    ∙ ap (λ u. x ++ 32 ∷ u) (words_then z xs y ys)

-- a text that begins with two words, to which a space, four words, a space and two more are added
pub two_four_two : (a b c d e f g h t m n s u v w x y : List ℕ) → t ≡ spaced (a ∷ b ∷ []) → m ≡ spaced (c ∷ d ∷ e ∷ f ∷ []) → n ≡ spaced (g ∷ h ∷ [])
    → s ≡ t ++ 32 ∷ [] → x ≡ m → u ≡ s ++ x → v ≡ u ++ 32 ∷ [] → y ≡ n → w ≡ v ++ y → w ≡ spaced (a ∷ b ∷ c ∷ d ∷ e ∷ f ∷ g ∷ h ∷ [])
two_four_two a b c d e f g h t m n s u v w x y t_is m_is n_is s_is x_is u_is v_is y_is w_is =
    w_is ∙ ap (λ z. v ++ z) (y_is ∙ n_is) ∙ ap (λ z. z ++ spaced (g ∷ h ∷ [])) (v_is ∙ ap (λ z. z ++ 32 ∷ []) front) ∙ words_then a (b ∷ c ∷ d ∷ e ∷ f ∷ []) g (h ∷ [])
  where
    front : u ≡ spaced (a ∷ b ∷ c ∷ d ∷ e ∷ f ∷ [])
    front =
        u_is ∙ ap (λ z. s ++ z) (x_is ∙ m_is) ∙ ap (λ z. z ++ spaced (c ∷ d ∷ e ∷ f ∷ [])) (s_is ∙ ap (λ z. z ++ 32 ∷ []) t_is)
        ∙ words_then a (b ∷ []) c (d ∷ e ∷ f ∷ [])
