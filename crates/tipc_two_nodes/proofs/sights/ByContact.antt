-- What is kept by contact, and what comes to one of the contacts.
use Rattle.std.proofs.Common.{◌≡◌, ◌==◌, ◌&&◌, ℕ, true, false, List, [], ◌++◌, if◌then◌else◌, refl, sym, ap, ◌∙◌, subst, inl, inr, append_assoc, append-nil, arith}
use Rattle.std.proofs.lemmas.Bool.{cases_eq}
use Rattle.std.proofs.lemmas.Bool.Decides.{nat_tests}
use Rattle.tipc_paired.specs.Views.{Node}
use Rattle.tipc_two_nodes.specs.Carrying.{with_in}

-- another contact
abbrev pub IsElse : ℕ → ℕ → ℕ → ℕ → Type 0
IsElse own theirs k l = k ≡ own → l ≡ theirs → ⊥

pub in_same : {A : Type 0} (own theirs k l : ℕ) (u v : A) → k ≡ own → l ≡ theirs → (if (k == own) && (l == theirs) then u else v) ≡ u
in_same own theirs k l u v a b = let test : ((k == own) && (l == theirs)) ≡ true = grind (arith, nat_tests, a, b) in rw test refl

pub in_else : {A : Type 0} (own theirs k l : ℕ) (u v : A) → IsElse own theirs k l → (if (k == own) && (l == theirs) then u else v) ≡ v
in_else own theirs k l u v other = elim (cases_eq k own) [
  | inl a ↦ elim (cases_eq l theirs) [
    | inl b ↦ absurd (other a b)
    | inr b ↦ (let test : ((k == own) && (l == theirs)) ≡ false = grind (arith, nat_tests, b) in rw test refl)
  ]
  | inr a ↦ (let test : ((k == own) && (l == theirs)) ≡ false = grind (arith, nat_tests, a) in rw test refl)
]

pub here_is : {A : Type 0} (f : ℕ → ℕ → A) (own theirs : ℕ) (v : A) → with_in f own theirs v own theirs ≡ v
here_is f own theirs v = in_same own theirs own theirs v (f own theirs) refl refl

pub else_is : {A : Type 0} (f : ℕ → ℕ → A) (own theirs : ℕ) (v : A) (k l : ℕ) → IsElse own theirs k l → with_in f own theirs v k l ≡ f k l
else_is f own theirs v k l other = in_else own theirs k l v (f k l) other

pub by_contact : (own theirs : ℕ) (P : ℕ → ℕ → Type 0) → P own theirs → ((k l : ℕ) → IsElse own theirs k l → P k l) → (k l : ℕ) → P k l
by_contact own theirs P here others k l = elim (cases_eq k own) [
  | inl a ↦ elim (cases_eq l theirs) [
    | inl b ↦ subst (λ m. P m l) (sym a) (subst (λ m. P own m) (sym b) here)
    | inr b ↦ others k l (λ _ same. b same)
  ]
  | inr a ↦ others k l (λ same _. a same)
]

-- what comes to the messages of a contact, under the contact numbers of a node
abbrev pub more_in : (ℕ → ℕ → List (List ℕ)) → Node → List (List ℕ) → ℕ → ℕ → List (List ℕ)
more_in f n more = with_in f n.contact n.seen (f n.contact n.seen ++ more)

-- more comes to a contact, and then more
pub more_twice : (f g h : ℕ → ℕ → List (List ℕ)) (n : Node) (first second : List (List ℕ)) → ((k l : ℕ) → g k l ≡ more_in f n first k l) → ((k l : ℕ) → h k l ≡ more_in g n second k l) → (k l : ℕ) → h k l ≡ more_in f n (first ++ second) k l
more_twice f g h n first second g_is h_is =
    let own = n.contact in
    let theirs = n.seen in
    by_contact own theirs (λ k l. h k l ≡ more_in f n (first ++ second) k l)
    (h_is own theirs ∙ here_is g own theirs (g own theirs ++ second) ∙ ap (λ xs. xs ++ second) (g_is own theirs ∙ here_is f own theirs (f own theirs ++ first))
    ∙ append_assoc (f own theirs) first second ∙ sym (here_is f own theirs (f own theirs ++ (first ++ second))))
    (λ k l other. h_is k l ∙ else_is g own theirs (g own theirs ++ second) k l other ∙ g_is k l ∙ else_is f own theirs (f own theirs ++ first) k l other
    ∙ sym (else_is f own theirs (f own theirs ++ (first ++ second)) k l other))

-- nothing comes
pub more_none : (f : ℕ → ℕ → List (List ℕ)) (n : Node) (k l : ℕ) → f k l ≡ more_in f n [] k l
more_none f n = by_contact n.contact n.seen (λ k l. f k l ≡ more_in f n [] k l)
    (sym (append-nil (f n.contact n.seen)) ∙ sym (here_is f n.contact n.seen (f n.contact n.seen ++ [])))
    (λ k l other. sym (else_is f n.contact n.seen (f n.contact n.seen ++ []) k l other))

-- nothing comes to a contact, or it is the same one
pub more_same : (f : ℕ → ℕ → List (List ℕ)) (n m : Node) (more : List (List ℕ)) → (k l : ℕ) → m ≡ n → more_in f n more k l ≡ more_in f m more k l
more_same f n m more k l same = ap (λ (i : Node). more_in f i more k l) (sym same)
