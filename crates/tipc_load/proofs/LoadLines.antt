-- The lines of a generated script are of the kinds that are sound.
use Rattle.std.proofs.Common.{◌≡◌, ℕ, ◌+◌, ◌/◌, ◌%◌, ◌==◌, ◌≤◌, zero, suc, List, [], ◌∷◌, ◌++◌, length, drop, refl, inl, inr, arith}
use Rattle.std.specs.Prelude.{nat_le, map}
use Rattle.std.specs.List.{AllByRecursion}
use Rattle.std.proofs.lemmas.Bool.{cases_Bool}
use Rattle.std.proofs.lemmas.List.{length-append}
use Rattle.tipc_types.specs.declared.services.Scope.TheVariants as scope
use Rattle.tipc_types.specs.declared.node_calls.EventNote.TheVariants as call
use Rattle.tipc_script.specs.declared.lines.Line.{Line}
use Rattle.tipc_script.specs.declared.lines.Line.TheVariants as line
use Rattle.tipc_script.specs.Grammar.{offering}
use Rattle.tipc_load.specs.Clear.{IsOfFour}
use Rattle.tipc_load.specs.Load.{closing, drawn, drawn_line, drawn_lines, flows, for_each_node, generated_lines, mends, offers, opening, state_after, to_four}
use Rattle.tipc_load.proofs.ClearLines.{IsLoadLine}

-- each of these lines is of such a kind
abbrev pub AreLoadLines : List Line → Type 0
AreLoadLines lines = AllByRecursion IsLoadLine lines

both : (first second : List Line) → AreLoadLines first → AreLoadLines second → AreLoadLines (first ++ second)
both [] second h g = g
both (line ∷ first) second h g = (h.0, both first second h.1 g)

-- the numbers from 1 to 4
one : IsOfFour 1
one = (omega arith, omega arith)

two : IsOfFour 2
two = (omega arith, omega arith)

three : IsOfFour 3
three = (omega arith, omega arith)

four : IsOfFour 4
four = (omega arith, omega arith)

-- what holds of the lines of each node holds of all of them
for_each : (lines : ℕ → List Line) → ((node : ℕ) → IsOfFour node → AreLoadLines (lines node)) → AreLoadLines (for_each_node lines)
for_each lines h =
    both (lines 1) (lines 2 ++ (lines 3 ++ (lines 4 ++ []))) (h 1 one) (both (lines 2) (lines 3 ++ (lines 4 ++ [])) (h 2 two) (both (lines 3) (lines 4 ++ []) (h 3 three) (both (lines 4) [] (h 4 four) tt)))

mends_load : (node : ℕ) → IsOfFour node → AreLoadLines (mends node)
mends_load node h = ((h, omega arith), ((h, omega arith), tt))

offer_load : (node instance : ℕ) → IsOfFour node → instance ≤ 5 → IsLoadLine (line.Call node (offering 1 (1000 + node) instance instance scope.Cluster instance))
offer_load node instance h low =
    (h, (omega arith, omega (arith, h.1), omega arith, omega (arith, low), refl, omega (arith, low)))

offers_load : (node : ℕ) → IsOfFour node → AreLoadLines (offers node)
offers_load node h =
    (offer_load node 1 h (omega arith), (offer_load node 2 h (omega arith), (offer_load node 3 h (omega arith), (offer_load node 4 h (omega arith), (offer_load node 5 h (omega arith), tt)))))

-- the lines before the drawn ones, but for those that make the nodes
opening_load : AreLoadLines (drop 4 opening)
unfolding opening
opening_load =
    let sockets : List Line = map (λ node. line.Call node call.Socket) to_four in
    let last : AreLoadLines (for_each_node offers ++ (line.Settle 12 ∷ [])) = both (for_each_node offers) (line.Settle 12 ∷ []) (for_each offers offers_load) (omega arith, tt) in
    let rest : AreLoadLines (line.Settle 12 ∷ (sockets ++ (for_each_node offers ++ (line.Settle 12 ∷ [])))) = (omega arith, ((one, tt), ((two, tt), ((three, tt), ((four, tt), last))))) in
    both (for_each_node mends) (line.Settle 12 ∷ (sockets ++ (for_each_node offers ++ (line.Settle 12 ∷ [])))) (for_each mends mends_load) rest

flows_load : AreLoadLines (for_each_node flows)
flows_load =
    let first : AreLoadLines (flows 1) = ((one, two), ((one, three), ((one, four), tt))) in
    let second : AreLoadLines (flows 2) = ((two, one), ((two, three), ((two, four), tt))) in
    let third : AreLoadLines (flows 3) = ((three, one), ((three, two), ((three, four), tt))) in
    let fourth : AreLoadLines (flows 4) = ((four, one), ((four, two), ((four, three), tt))) in
    both (flows 1) (flows 2 ++ (flows 3 ++ (flows 4 ++ []))) first (both (flows 2) (flows 3 ++ (flows 4 ++ [])) second (both (flows 3) (flows 4 ++ []) third (both (flows 4) [] fourth tt)))

closing_load : AreLoadLines closing
unfolding closing
closing_load =
    let rest : AreLoadLines (line.Settle 40 ∷ line.Settle 400 ∷ for_each_node flows) = (omega arith, (omega arith, flows_load)) in
    both (for_each_node mends) (line.Settle 40 ∷ line.Settle 400 ∷ for_each_node flows) (for_each mends mends_load) rest

-- the line of a drawn number
drawn_load : (number : ℕ) → IsLoadLine (drawn_line number)
drawn_load number =
    let node : IsOfFour (1 + number / 16 % 4) = (omega arith, omega arith) in
    let bearer : number / 2048 % 2 ≤ 1 = omega arith in
    elim (cases_Bool (nat_le (number % 16) 8)) [
      | inl send ↦ rw send (
        node,
        (record {
          from_port = omega arith;
          type_fits = omega arith;
          instance_fits = omega arith;
          least = refl;
          count = number / 4096 % 3000;
          few = omega arith;
          told = refl;
        }),
      )
      | inr other ↦ rw other (elim (cases_Bool (nat_le (number % 16) 11)) [
        | inl receive ↦ rw receive (node, omega arith)
        | inr other ↦ rw other (elim (cases_Bool (nat_le (number % 16) 13)) [
          | inl settle ↦ rw settle (omega arith)
          | inr other ↦ rw other (elim (cases_Bool (number % 16 == 14)) [ inl cut ↦ rw cut (node, bearer) | inr mend ↦ rw mend (node, bearer) ])
        ])
      ])
    ]

drawn_lines_load : (count seed : ℕ) → AreLoadLines (drawn_lines count seed)
unfolding drawn_lines
drawn_lines_load zero seed = tt
drawn_lines_load (suc count) seed =
    both (drawn_lines count seed) (drawn_line (drawn (state_after (suc count) seed)) ∷ []) (drawn_lines_load count seed) (drawn_load (drawn (state_after (suc count) seed)), tt)

length-drawn_lines : (count seed : ℕ) → length (drawn_lines count seed) ≡ count
unfolding drawn_lines
length-drawn_lines zero seed = refl
length-drawn_lines (suc count) seed =
    omega (arith, length-append (drawn_lines count seed) (drawn_line (drawn (state_after (suc count) seed)) ∷ []), length-drawn_lines count seed)

-- the lines behind the first four
pub load_behind : (seed : ℕ) → AreLoadLines (drop 4 (generated_lines seed))
unfolding opening
load_behind seed = both (drop 4 opening) (drawn_lines 1000 seed ++ closing) opening_load (both (drawn_lines 1000 seed) closing (drawn_lines_load 1000 seed) closing_load)

pub length-generated_lines : (seed : ℕ) → length (generated_lines seed) ≡ 1060
unfolding opening closing
length-generated_lines seed =
    let behind = length-append (drawn_lines 1000 seed) closing in
    let drawn = length-drawn_lines 1000 seed in
    let all = length-append opening (drawn_lines 1000 seed ++ closing) in
    omega (arith, behind, drawn, all)
