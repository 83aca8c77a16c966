-- Texts that are written piece by piece, and what is written of a source that isn't read.
use Rattle.std.proofs.Common.{◌≡◌, ℕ, ◌+◌, ◌-◌, ◌<◌, List, [], ◌∷◌, ◌++◌, Option, Some, None, length, take, drop, refl, subst, sym, inl, inr, arith}
use Rattle.std.specs.Prelude.{IfSome}
use Rattle.std.specs.Fmt.{decimal}
use Rattle.std.specs.Io.KnownBytes.{Appends}
use Rattle.std.proofs.KnownBytes.{Appends-nil, Appends-trans}
use Rattle.std.proofs.lemmas.List.{take_all, length-append, length-drop}
use Rattle.std.proofs.Math.Seq.{take-add, take-append-add}
use Rattle.tipc_report.specs.Closing.{bad_text, limit_text}
use Rattle.tipc_report.specs.Text.{bad_line, limit_line, line_of}
use Rattle.tipc_report.specs.declared.limits.Which.{Which}
use Rattle.tipc_report.specs.declared.limits.Which.TheVariants as which
use Rattle.tipc_script.specs.declared.faults.LineWhy.{LineWhy}
use Rattle.tipc_sim.specs.declared.reading.ReadStop.{ReadStop}
use Rattle.tipc_sim.specs.declared.reading.ReadStop.TheVariants as stop
use Rattle.tipc_sim.specs.declared.status.Status.{Status}
use Rattle.tipc_sim.specs.declared.status.Status.TheVariants as status
use Rattle.tipc_sim.specs.Lines.{IsWithin}
use Rattle.tipc_sim.specs.Output.{AppendsPart, EndsOver}
use Rattle.tipc_sim.specs.Steps.{IsLimitStatus}
use Rattle.tipc_sim.specs.Unread.{EndsUnread, StopsReading, IsUnreadStatus}

-- a front was written, and then a front of what is left
pub appends_more : (a b c : Option (List ℕ)) (text : List ℕ) (done count : ℕ) → Appends a b (take done text) → Appends b c (take count (take (length text - done) (drop done text))) → Appends a c (take (done + count) text)
appends_more a b c text done count front more =
    let rest = take_all (length text - done) (drop done text) (omega (arith, length-drop done text)) in
    subst (Appends a c) (sym (take-add done count text)) (Appends-trans a b c _ _ front (subst (λ r. Appends b c (take count r)) rest more))

-- nothing was written yet of a line of a report, which isn't empty
line_unwritten : (before : Option (List ℕ)) (number : ℕ) (text : List ℕ) → AppendsPart before before (line_of number text)
line_unwritten before number text =
    let whole : length (line_of number text) ≡ length (decimal number ++ (32 ∷ text)) + length {A = ℕ} (10 ∷ []) = length-append (decimal number ++ (32 ∷ text)) (10 ∷ []) in
    (0, omega (arith, whole), Appends-nil before)

-- nothing was written yet of the closing line of a bad line
pub bad_unwritten : (before : Option (List ℕ)) (number place : ℕ) (why : LineWhy) → AppendsPart before before (bad_line number place why)
unfolding bad_line
bad_unwritten before number place why = line_unwritten before number (bad_text place why)

-- nothing was written yet of the closing line of a limit
pub limit_unwritten : (before : Option (List ℕ)) (number : ℕ) (which : Which) → AppendsPart before before (limit_line number which)
unfolding limit_line
limit_unwritten before number which = line_unwritten before number (limit_text which)

-- a text and a part of another are a part of both
pub part_more : (a b c : Option (List ℕ)) (text more : List ℕ) → Appends a b text → AppendsPart b c more → AppendsPart a c (text ++ more)
part_more a b c text more whole part = (
  length text + part.0,
  omega (arith, part.1, length-append text more),
  subst (Appends a c) (sym (take-append-add text more part.0)) (Appends-trans a b c text (take part.0 more) whole part.2),
)

-- a source that is over a limit isn't within them
pub over_limits : (script : List ℕ) (done : ℕ) (closing : List ℕ) → EndsOver script done closing → IsWithin script → ⊥
over_limits script done closing over within = elim over.1 [ inl long ↦ omega (arith, long.0, within.0) | inr many ↦ omega (arith, many.1, within.1) ]

-- ---- of what may be known

-- what follows for a value follows for a value that may be known
pub known : {A : Type 0} (o : Option A) (P Q : A → Type 0) → ((x : A) → P x → Q x) → IfSome o P → IfSome o Q
known None P Q step h = h
known (Some x) P Q step h = step x h

-- what holds of each value holds of a value that may be known
pub always : {A : Type 0} (o : Option A) (Q : A → Type 0) → ((x : A) → Q x) → IfSome o Q
always None Q step = tt
always (Some x) Q step = step x

-- ---- a source that isn't read

-- what stopped the reading of a source that isn't counted yet
pub stopped : (s : ReadStop) (o : Option (List ℕ)) → (s ≡ stop.TooLong → IfSome o (λ bytes. 16777216 < length bytes)) → (s ≡ stop.TooMany → ⊥) → IfSome o (λ bytes. StopsReading s bytes)
stopped stop.Failed o long many = always o _ (λ bytes. tt)
stopped stop.TooLong o long many = long refl
stopped stop.TooMany o long many = absurd (many refl)
stopped stop.NoMemory o long many = always o _ (λ bytes. tt)

-- a run whose source isn't read, and within the limits, ends so only by a failure outside
pub unread_ends : (s : Status) (script : List ℕ) (before after : Option (List ℕ)) → IsUnreadStatus s → EndsUnread s script before after → IsWithin script → (s ≡ status.ReadFault → ⊥) → (s ≡ status.WriteFault → ⊥) → s ≡ status.NoMemory
unread_ends status.NoMemory script before after is ends within read write = refl
unread_ends status.Limit script before after is ends within read write = absurd (over_limits script 0 ends.0 ends.1 within)
unread_ends status.ReadFault script before after is ends within read write = absurd (read refl)
unread_ends status.WriteFault script before after is ends within read write = absurd (write refl)
unread_ends status.Ok script before after is ends within read write = absurd is
unread_ends status.Usage script before after is ends within read write = absurd is
unread_ends status.BadLine script before after is ends within read write = absurd is
unread_ends status.BearerFault script before after is ends within read write = absurd is
unread_ends status.Differ script before after is ends within read write = absurd is

-- one that ends at a limit isn't within them
pub unread_limit : (s : Status) (script : List ℕ) (before after : Option (List ℕ)) → s ≡ status.Limit → EndsUnread s script before after → IsWithin script → ⊥
unread_limit s script before after is ends =
    let limited = subst (λ t. EndsUnread t script before after) is ends in
    over_limits script 0 limited.0 limited.1
