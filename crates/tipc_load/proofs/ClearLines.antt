-- Lines of the kinds that a generated script has: they are in the grammar, ask for nodes 1 to 4 alone, and are one
-- line.
use Rattle.std.proofs.Common.{◌≡◌, ℕ, ◌≤◌, ◌<◌, ◌^◌, Some, List, [], ◌∷◌, length, refl, sym, ap, subst, inr, arith}
use Rattle.std.specs.List.{AllByRecursion}
use Rattle.std.specs.Prelude.{codes}
use Rattle.std.specs.Fmt.{decimal}
use Rattle.std.proofs.lemmas.Bool.{le-leb}
use Rattle.std.proofs.lemmas.List.Elements.{All-from_recursion}
use Rattle.tipc_types.specs.declared.message_forms.Importance.{Importance}
use Rattle.tipc_types.specs.declared.message_forms.Importance.TheVariants as level
use Rattle.tipc_types.specs.declared.node_calls.EventNote.{EventNote}
use Rattle.tipc_types.specs.declared.node_calls.EventNote.TheVariants as call
use Rattle.tipc_types.specs.declared.services.Scope.TheVariants as scope
use Rattle.tipc_script.specs.declared.lines.Line.{Line}
use Rattle.tipc_script.specs.declared.lines.Line.TheVariants as line
use Rattle.tipc_script.specs.declared.lines.SendForm.TheVariants as form
use Rattle.tipc_script.specs.Kinds.{form_in, number_of, pattern}
use Rattle.tipc_script.specs.Shapes.{Spells, nodes_in}
use Rattle.tipc_script.specs.Grammar.{Asks, Row, cut_row, flow_row, mend_row, nodes_of, offering, publish_row, receive_row, row_of, send_row, settle_row, socket_row}
use Rattle.tipc_script.specs.Grammar.Asks.{by_row}
use Rattle.tipc_script.specs.Spelling.{IsBody, spaced}
use Rattle.tipc_script.proofs.Accepted.{IsParted, asks_accepted, left_behind, row_parted}
use Rattle.tipc_script.proofs.Bodies.{length_pattern, pattern_word}
use Rattle.tipc_script.proofs.Numerals.{number_of-decimal}
use Rattle.tipc_load.specs.Clear.{AsksForOne, IsClear, IsOfFour, IsOneLine}
use Rattle.tipc_load.specs.Spelling.{spelling_of}
use Rattle.tipc_load.proofs.Words.{IsWord, decimal_word, literal, row_of_words, star_word}

-- a message that a generated script sends
pub record IsLoadMessage (port kind instance : ℕ) (importance : Importance) (body : List ℕ) : Type 0 where
  pub from_port : port ≤ 5000
  pub type_fits : kind ≤ 5000
  pub instance_fits : instance ≤ 5000
  pub least : importance ≡ level.Low
  pub count : ℕ
  pub few : count ≤ 5000
  pub told : body ≡ pattern count

-- a call that a generated script makes, with values that fit
abbrev pub IsLoadCall : EventNote → Type 0
IsLoadCall (call.Mend bearer) = bearer ≤ 1
IsLoadCall (call.Cut bearer) = bearer ≤ 1
IsLoadCall call.Socket = Unit {0}
IsLoadCall (call.Publish port range at key) =
    (port ≤ 5000) × (range.kind ≤ 5000) × (range.lower ≤ range.upper) × (range.upper ≤ 5000) × (at ≡ scope.Cluster) × (key ≤ 5000)
IsLoadCall (call.SendName port kind instance importance body) = IsLoadMessage port kind instance importance body
IsLoadCall (call.Receive port) = port ≤ 5000
IsLoadCall other = ⊥

-- a line of a kind that a generated script has behind its first four, with values that fit
abbrev pub IsLoadLine : Line → Type 0
IsLoadLine (line.Call node call) = IsOfFour node × IsLoadCall call
IsLoadLine (line.Settle rounds) = rounds ≤ 400
IsLoadLine (line.Flow from to) = IsOfFour from × IsOfFour to
IsLoadLine other = ⊥

-- what is shown of each of them
pub record IsSoundLine (line : Line) : Type 0 where
  pub asked : Asks (spelling_of line) line
  pub clear : IsClear (spelling_of line)
  pub whole : IsOneLine (spelling_of line)

-- a line whose first word has this row, and these words behind it
record IsOfRow (row : Row) (words : List (List ℕ)) (line : Line) : Type 0 where
  spelled : spelling_of line ≡ spaced (row.word ∷ words)
  found : row_of row.word ≡ Some row
  spells : Spells row.shape words line
  nodes : AllByRecursion AsksForOne (nodes_in row.shape (left_behind (spelling_of line) row.word words))
  small : AllByRecursion IsWord (row.word ∷ words)
  few : length (row.word ∷ words) ≤ 10

nodes_spelled : (text : List ℕ) (row : Row) (words : List (List ℕ)) → IsParted text row words → row_of row.word ≡ Some row → nodes_of text ≡ nodes_in row.shape (left_behind text row.word words)
unfolding nodes_of
nodes_spelled text row words cut found = rw (cut.no_remark, cut.tokens, found) refl

sound_of_row : (row : Row) (words : List (List ℕ)) (line : Line) → IsOfRow row words line → IsSoundLine line
sound_of_row row words line h =
    let text = spelling_of line in
    let asked : Asks text line = by_row row words line h.found h.spelled h.spells in
    let same = nodes_spelled text row words (row_parted text row words line h.found h.spelled h.spells) h.found in
    let whole = row_of_words row.word words h.small in
    record {
      asked = asked;
      clear = record { fault = (asks_accepted text line asked).fault; nodes = All-from_recursion AsksForOne (nodes_of text) (rw same h.nodes) };
      whole = rw h.spelled (record { some = whole.some; short = omega (arith, whole.short, h.few); whole = whole.whole });
    }

-- what a number up to 5,000 is written with
record IsShort (n : ℕ) : Type 0 where
  word : IsWord (decimal n)
  value : number_of (decimal n) ≡ n
  fits : n < 2 ^ 32

short_number : (n : ℕ) → n ≤ 5000 → IsShort n
short_number n low = record { word = decimal_word n (omega arith); value = number_of-decimal n (omega arith); fits = omega arith }

-- one of the four nodes is a node
is_node : (n : ℕ) → IsOfFour n → (1 ≤ n) × (n ≤ 32)
is_node n h = (h.0, omega (arith, h.1))

mend_line : (n x : ℕ) → IsOfFour n → x ≤ 1 → IsSoundLine (line.Call n (call.Mend x))
unfolding row_of
mend_line n x h bearer =
    let node = short_number n (omega (arith, h.1)) in
    let other = short_number x (omega (arith, bearer)) in
    sound_of_row mend_row (decimal n ∷ decimal x ∷ []) (line.Call n (call.Mend x)) (record {
      spelled = refl;
      found = refl;
      spells = (n, _, is_node n h, refl, (x, _, bearer, refl, (refl, refl)));
      nodes = rw (node.value) ((refl, h), tt);
      small = (literal (codes "mend") refl refl refl, (node.word, (other.word, tt)));
      few = omega arith;
    })

cut_line : (n x : ℕ) → IsOfFour n → x ≤ 1 → IsSoundLine (line.Call n (call.Cut x))
unfolding row_of
cut_line n x h bearer =
    let node = short_number n (omega (arith, h.1)) in
    let other = short_number x (omega (arith, bearer)) in
    sound_of_row cut_row (decimal n ∷ decimal x ∷ []) (line.Call n (call.Cut x)) (record {
      spelled = refl;
      found = refl;
      spells = (n, _, is_node n h, refl, (x, _, bearer, refl, (refl, refl)));
      nodes = rw (node.value) ((refl, h), tt);
      small = (literal (codes "cut") refl refl refl, (node.word, (other.word, tt)));
      few = omega arith;
    })

settle_line : (r : ℕ) → r ≤ 400 → IsSoundLine (line.Settle r)
unfolding row_of
settle_line r low =
    let rounds = short_number r (omega arith) in
    sound_of_row settle_row (decimal r ∷ []) (line.Settle r) (record {
      spelled = refl;
      found = refl;
      spells = (r, _, omega arith, refl, (refl, refl));
      nodes = tt;
      small = (literal (codes "settle") refl refl refl, (rounds.word, tt));
      few = omega arith;
    })

socket_line : (n : ℕ) → IsOfFour n → IsSoundLine (line.Call n call.Socket)
unfolding row_of
socket_line n h =
    let node = short_number n (omega (arith, h.1)) in
    sound_of_row socket_row (decimal n ∷ []) (line.Call n call.Socket) (record {
      spelled = refl;
      found = refl;
      spells = (n, _, is_node n h, refl, (refl, refl));
      nodes = rw (node.value) ((refl, h), tt);
      small = (literal (codes "socket") refl refl refl, (node.word, tt));
      few = omega arith;
    })

publish_line : (n p k l u y : ℕ) → IsOfFour n → p ≤ 5000 → k ≤ 5000 → l ≤ u → u ≤ 5000 → y ≤ 5000 → IsSoundLine (line.Call n (offering p k l u scope.Cluster y))
unfolding row_of
publish_line n p k l u y h p-low k-low ordered u-low y-low =
    let node = short_number n (omega (arith, h.1)) in
    let port = short_number p p-low in
    let kind = short_number k k-low in
    let lower = short_number l (omega (arith, ordered, u-low)) in
    let upper = short_number u u-low in
    let key = short_number y y-low in
    let at = codes "cluster" in
    let words : List (List ℕ) = decimal n ∷ decimal p ∷ decimal k ∷ decimal l ∷ decimal u ∷ at ∷ decimal y ∷ [] in
    sound_of_row publish_row words (line.Call n (offering p k l u scope.Cluster y)) (record {
      spelled = refl;
      found = refl;
      spells = (n, _, is_node n h, refl, (p, _, port.fits, refl, (k, _, kind.fits, refl, (l, _, lower.fits, refl, (u, _, upper.fits, refl, (scope.Cluster, _, tt, refl, (y, _, key.fits, refl, (refl, rw (le-leb l u ordered) refl))))))));
      nodes = rw (node.value) ((refl, h), tt);
      small = (
        literal (codes "publish") refl refl refl,
        (node.word, (port.word, (kind.word, (lower.word, (upper.word, (literal at refl refl refl, (key.word, tt))))))),
      );
      few = omega arith;
    })

send_line : (n p k i c : ℕ) → IsOfFour n → p ≤ 5000 → k ≤ 5000 → i ≤ 5000 → c ≤ 5000
    → IsSoundLine (line.Call n (call.SendName p k i level.Low (pattern c)))
unfolding row_of form_in
send_line n p k i c h p-low k-low i-low c-low =
    let node = short_number n (omega (arith, h.1)) in
    let port = short_number p p-low in
    let kind = short_number k k-low in
    let instance = short_number i i-low in
    let by = codes "name" in
    let low = codes "low" in
    let star : List ℕ = 42 ∷ decimal c in
    let words : List (List ℕ) = decimal n ∷ decimal p ∷ by ∷ decimal k ∷ decimal i ∷ low ∷ star ∷ [] in
    let told : IsBody (pattern c) = inr (omega (arith, length_pattern c, c-low), ap pattern (sym (length_pattern c))) in
    sound_of_row send_row words (line.Call n (call.SendName p k i level.Low (pattern c))) (record {
      spelled = ap (λ w. spaced (codes "send" ∷ decimal n ∷ decimal p ∷ by ∷ decimal k ∷ decimal i ∷ low ∷ w ∷ [])) (pattern_word c);
      found = refl;
      spells = (n, _, is_node n h, refl, (p, _, port.fits, refl, (form.Name, _, tt, refl, (k, _, kind.fits, refl, (i, _, instance.fits, refl, (level.Low, _, tt, refl, (pattern c, _, told, ap (λ w. w ∷ []) (sym (pattern_word c)), (refl, refl))))))));
      nodes = rw (node.value) ((refl, h), tt);
      small = (
        literal (codes "send") refl refl refl,
        (node.word, (port.word, (literal by refl refl refl, (kind.word, (instance.word, (literal low refl refl refl, (star_word c (omega (arith, c-low)), tt))))))),
      );
      few = omega arith;
    })

receive_line : (n p : ℕ) → IsOfFour n → p ≤ 5000 → IsSoundLine (line.Call n (call.Receive p))
unfolding row_of
receive_line n p h p-low =
    let node = short_number n (omega (arith, h.1)) in
    let port = short_number p p-low in
    sound_of_row receive_row (decimal n ∷ decimal p ∷ []) (line.Call n (call.Receive p)) (record {
      spelled = refl;
      found = refl;
      spells = (n, _, is_node n h, refl, (p, _, port.fits, refl, (refl, refl)));
      nodes = rw (node.value) ((refl, h), tt);
      small = (literal (codes "receive") refl refl refl, (node.word, (port.word, tt)));
      few = omega arith;
    })

flow_line : (a b : ℕ) → IsOfFour a → IsOfFour b → IsSoundLine (line.Flow a b)
unfolding row_of
flow_line a b h g =
    let from = short_number a (omega (arith, h.1)) in
    let to = short_number b (omega (arith, g.1)) in
    sound_of_row flow_row (decimal a ∷ decimal b ∷ []) (line.Flow a b) (record {
      spelled = refl;
      found = refl;
      spells = (a, _, is_node a h, refl, (b, _, is_node b g, refl, (refl, refl)));
      nodes = rw (from.value, to.value) ((refl, h), ((refl, g), tt));
      small = (literal (codes "flow") refl refl refl, (from.word, (to.word, tt)));
      few = omega arith;
    })

sound_call : (node : ℕ) (note : EventNote) → IsOfFour node → IsLoadCall note → IsSoundLine (line.Call node note)
sound_call node (call.Mend bearer) h g = mend_line node bearer h g
sound_call node (call.Cut bearer) h g = cut_line node bearer h g
sound_call node call.Socket h g = socket_line node h
sound_call node (call.Publish port range at key) h g =
    subst (λ s. IsSoundLine (line.Call node (call.Publish port range s key))) (sym g.4) (publish_line node port range.kind range.lower range.upper key h g.0 g.1 g.2 g.3 g.5)
sound_call node (call.SendName port kind instance importance body) h g =
    subst (λ (w : Importance). IsSoundLine (line.Call node (call.SendName port kind instance w body))) (sym g.least)
    (subst (λ (b : List ℕ). IsSoundLine (line.Call node (call.SendName port kind instance level.Low b))) (sym g.told)
    (send_line node port kind instance g.count h g.from_port g.type_fits g.instance_fits g.few))
sound_call node (call.Receive port) h g = receive_line node port h g
sound_call node other h g = absurd g

pub sound_line : (line : Line) → IsLoadLine line → IsSoundLine line
sound_line (line.Call node call) h = sound_call node call h.0 h.1
sound_line (line.Settle rounds) h = settle_line rounds h
sound_line (line.Flow from to) h = flow_line from to h.0 h.1
sound_line other h = absurd h
