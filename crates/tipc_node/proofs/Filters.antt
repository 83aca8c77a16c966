-- What of a list passes a test.
use Rattle.std.proofs.Common.{◌≡◌, Bool, false, List, [], ◌∷◌, filter, refl}
use Rattle.std.specs.Prelude.{All}
use Rattle.std.proofs.lemmas.List.Elements.{All-head, All-tail}

-- none passes where each is such that it doesn't
pub filter-none : {A : Type 0} (test : A → Bool) (xs : List A) (P : A → Type 0) → ((x : A) → P x → test x ≡ false) → All P xs → filter test xs ≡ []
filter-none test [] P fails all = refl
filter-none test (x ∷ xs) P fails all = rw (fails x (All-head P x xs all)) (filter-none test xs P fails (All-tail P x xs all))
