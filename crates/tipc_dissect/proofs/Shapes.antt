-- Lists of fields with the same names and kinds of values: where their lines are the same, so are they.
use Rattle.std.proofs.Common.{◌≡◌, ℕ, ◌^◌, ◌<◌, Bool, true, false, List, [], ◌∷◌, ◌++◌, refl, sym, ap, ◌∙◌, append_assoc, arith}
use Rattle.std.proofs.lemmas.List.{append_cancel_left}
use Rattle.std.proofs.lemmas.Fmt.{decimal_injective}
use Rattle.std.proofs.lemmas.List.Concat.{flat_map-cons}
use Rattle.tipc_dissect.specs.declared.lines.Value.{Value}
use Rattle.tipc_dissect.specs.declared.lines.Value.TheVariants.{Number, Address}
use Rattle.tipc_dissect.specs.Lines.{Field, field_line, fields_text, shown_line, value_text}
use Rattle.tipc_dissect.proofs.Cutting.{AllAbove, address_above, address_injective, cut_at, decimal_above}

-- a value has at most 64 bits, an address 32
abbrev pub HasBits : Value → Type 0
HasBits (Number n) = n < 2 ^ 64
HasBits (Address word) = word < 2 ^ 32

abbrev pub HaveBits : List Field → Type 0
HaveBits [] = Unit {0}
HaveBits (field ∷ fields) = HasBits field.1 × HaveBits fields

abbrev is_number : Value → Bool
is_number (Number n) = true
is_number (Address word) = false

-- the shape of a field: its name, and whether it is a number
abbrev pub Shape : Type 0
Shape = List ℕ × Bool

abbrev pub shape_of : List Field → List Shape
shape_of [] = []
shape_of (field ∷ fields) = (field.0, is_number field.1) ∷ shape_of fields

value_above : (v : Value) → HasBits v → AllAbove 10 (value_text v)
value_above (Number n) wide = decimal_above 10 n (omega arith) wide
value_above (Address word) wide = address_above 10 word (omega arith) wide

value_injective : (v w : Value) → is_number v ≡ is_number w → HasBits v → HasBits w → value_text v ≡ value_text w → v ≡ w
value_injective (Number m) (Number n) same p q e = ap Number (decimal_injective m n p q e)
value_injective (Number m) (Address w) same p q e = absurd (cc same)
value_injective (Address v) (Number n) same p q e = absurd (cc same)
value_injective (Address v) (Address w) same p q e = ap Address (address_injective v w p q e)

-- a line as what stands before its text, the text, and what stands behind it
line_parts : (indent name text more : List ℕ) → shown_line indent name text ++ more ≡ (indent ++ (name ++ (32 ∷ []))) ++ (text ++ (10 ∷ more))
line_parts indent name text more = simp append_assoc

-- two lines under one name tell their texts
pub line_tells : (indent name a b xs ys : List ℕ) → AllAbove 10 a → AllAbove 10 b → shown_line indent name a ++ xs ≡ shown_line indent name b ++ ys → (a ≡ b) × (xs ≡ ys)
line_tells indent name a b xs ys p q e =
    cut_at 10 a b xs ys p q
    (append_cancel_left (indent ++ (name ++ (32 ∷ []))) (a ++ (10 ∷ xs)) (b ++ (10 ∷ ys)) (sym (line_parts indent name a xs) ∙ e ∙ line_parts indent name b ys))

first_field : (indent : List ℕ) (f : Field) (fs : List Field) (xs : List ℕ) → fields_text indent (f ∷ fs) ++ xs ≡ field_line indent f ++ (fields_text indent fs ++ xs)
unfolding fields_text
first_field indent f fs xs = ap (λ (t : List ℕ). t ++ xs) (flat_map-cons (field_line indent) f fs) ∙ append_assoc (field_line indent f) (fields_text indent fs) xs

-- the first of some shapes, and the others
abbrev first_of : List Shape → Shape
first_of [] = ([], true)
first_of (s ∷ ss) = s

abbrev others_of : List Shape → List Shape
others_of [] = []
others_of (s ∷ ss) = ss

no_shape : (s : Shape) (ss : List Shape) → ◌≡◌ {A = List Shape} [] (s ∷ ss) → ⊥
no_shape s ss e = cc e

field_same : (n m : List ℕ) (v w : Value) → n ≡ m → v ≡ w → ◌≡◌ {A = Field} (n, v) (m, w)
field_same n m v w e f = cc

fields_same : (f g : Field) (fs gs : List Field) → f ≡ g → fs ≡ gs → ◌≡◌ {A = List Field} (f ∷ fs) (g ∷ gs)
fields_same f g fs gs e h = cc

-- fields of one shape are told by their lines, whatever is behind them
pub fields_tell : (indent : List ℕ) (fs gs : List Field) (xs ys : List ℕ) → shape_of fs ≡ shape_of gs → HaveBits fs → HaveBits gs → fields_text indent fs ++ xs ≡ fields_text indent gs ++ ys
    → (fs ≡ gs) × (xs ≡ ys)
unfolding fields_text
fields_tell indent [] [] xs ys shape p q e = (refl, e)
fields_tell indent [] (g ∷ gs) xs ys shape p q e = absurd (no_shape (g.0, is_number g.1) (shape_of gs) shape)
fields_tell indent (f ∷ fs) [] xs ys shape p q e = absurd (no_shape (f.0, is_number f.1) (shape_of fs) (sym shape))
fields_tell indent (f ∷ fs) (g ∷ gs) xs ys shape p q e =
    let name : f.0 ≡ g.0 = ap (λ (ss : List Shape). (first_of ss).0) shape in
    let kind : is_number f.1 ≡ is_number g.1 = ap (λ (ss : List Shape). (first_of ss).1) shape in
    let renamed : shown_line indent g.0 (value_text f.1) ≡ field_line indent f = ap (λ (n : List ℕ). shown_line indent n (value_text f.1)) (sym name) in
    let lines = ap (λ (t : List ℕ). t ++ (fields_text indent fs ++ xs)) renamed ∙ sym (first_field indent f fs xs) ∙ e ∙ first_field indent g gs ys in
    let here = line_tells indent g.0 (value_text f.1) (value_text g.1) _ _ (value_above f.1 p.0) (value_above g.1 q.0) lines in
    let later = fields_tell indent fs gs xs ys (ap others_of shape) p.1 q.1 here.1 in
    (fields_same f g fs gs (field_same f.0 g.0 f.1 g.1 name (value_injective f.1 g.1 kind p.0 q.0 here.0)) later.0, later.1)
