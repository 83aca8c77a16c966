-- Packets whose fields are shown alike have the same numbers, header and size.
use Rattle.std.proofs.Common.{◌≡◌, ℕ, List, [], ◌++◌, refl, sym, ap, ◌∙◌, append_assoc}
use Rattle.tipc_header.specs.Spelling.{Fields, size_of}
use Rattle.tipc_header.specs.Grammar.{Fits}
use Rattle.tipc_dissect.specs.Lines.{Field, fields_text}
use Rattle.tipc_dissect.specs.Table.{fields_of, further_fields, start_fields}
use Rattle.tipc_dissect.proofs.Appending.{fields_text-append}
use Rattle.tipc_dissect.proofs.Back.{packet_back, shape_back, shown_by, value_at, with_rest}
use Rattle.tipc_dissect.proofs.Shapes.{fields_tell, shape_of}
use Rattle.tipc_dissect.proofs.Widths.{further_bits, numbers_fit, start_bits}

-- what the fields of two packets tell, where they are shown alike
pub record SameHead (p q : Fields) : Type 0 where
  pub size : size_of p ≡ size_of q
  pub shown : (rest : List ℕ) → with_rest p rest ≡ with_rest q rest

parts_text : (indent : List ℕ) (p : Fields) (xs : List ℕ) → fields_text indent (fields_of p) ++ xs ≡ fields_text indent (start_fields p) ++ (fields_text indent (further_fields p) ++ xs)
parts_text indent p xs =
    ap (λ (t : List ℕ). t ++ xs) (fields_text-append indent (start_fields p) (further_fields p)) ∙ append_assoc (fields_text indent (start_fields p)) (fields_text indent (further_fields p)) xs

same_head : (p q : Fields) → Fits p → Fits q → start_fields p ≡ start_fields q → further_fields p ≡ further_fields q → SameHead p q
same_head p q f g start further =
    let all : fields_of p ≡ fields_of q = ap (λ (fs : List Field). fs ++ further_fields p) start ∙ ap (λ (fs : List Field). start_fields q ++ fs) further in
    record { size = ap (value_at 5) start; shown = λ rest. sym (packet_back p rest f) ∙ ap (λ (fs : List Field). shown_by fs rest) all ∙ packet_back q rest g }

-- whatever is behind them
pub heads_tell : (indent : List ℕ) (p q : Fields) (xs ys : List ℕ) → Fits p → Fits q → fields_text indent (fields_of p) ++ xs ≡ fields_text indent (fields_of q) ++ ys → SameHead p q × (xs ≡ ys)
heads_tell indent p q xs ys f g e =
    let start = fields_tell indent (start_fields p) (start_fields q) _ _ refl (start_bits p f) (start_bits q g) (sym (parts_text indent p xs) ∙ e ∙ parts_text indent q ys) in
    let shape : shape_of (further_fields p) ≡ shape_of (further_fields q) = shape_back p f ∙ ap (λ (fs : List Field). shape_of (further_fields (shown_by fs []))) start.0 ∙ sym (shape_back q g) in
    let further = fields_tell indent (further_fields p) (further_fields q) xs ys shape (further_bits p.header p f.header (numbers_fit p f)) (further_bits q.header q g.header (numbers_fit q g)) start.1 in
    (same_head p q f g start.0 further.0, further.1)
