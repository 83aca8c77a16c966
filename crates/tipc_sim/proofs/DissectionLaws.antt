-- The run over frames: its beginning, one line more, and its ends.
use Rattle.std.proofs.Common.{◌≡◌, ℕ, zero, suc, ◌+◌, ◌-◌, ◌≤◌, Option, Some, None, Ok, Err, List, [], ◌∷◌, ◌++◌, ◌⊎◌, length, take, drop, refl, sym, ap, subst, ◌∙◌, arith, inl, inr, append-nil, append_assoc, add-one}
use Rattle.std.specs.Prelude.{slice_get}
use Rattle.std.specs.Io.KnownBytes.{Appends}
use Rattle.std.proofs.KnownBytes.{Appends-trans, Appends-nil}
use Rattle.std.proofs.lemmas.List.{length-drop, length-take}
use Rattle.std.proofs.lemmas.List.Elements.{All-head, All-nil, All-push, All-tail}
use Rattle.tipc_sim.specs.declared.status.Status.{Status}
use Rattle.tipc_sim.specs.declared.status.Status.TheVariants as status
use Rattle.tipc_sim.specs.Dissections.{AreFrames, AreDissected, DissectEnds, Dissects, EndsOther, IsDissectStatus, IsFirstOther, LineDissects, TellsFrame, TellsNone, frame_fault, dissected_line, texts_from}
use Rattle.tipc_sim.specs.Lines.{lines_of}
use Rattle.tipc_sim.specs.Output.{AppendsPart, WritesReport}
use Rattle.tipc_sim.specs.Unread.{EndsUnread}
use Rattle.tipc_sim.proofs.LineLaws.{lines_of-nil}
use Rattle.tipc_sim.proofs.ListLaws.{here}
use Rattle.tipc_sim.proofs.OutputLaws.{part_more}

-- ---- lists of lines

texts_more : (number : ℕ) (lines : List (List ℕ)) (line : List ℕ) → texts_from number (lines ++ line ∷ []) ≡ texts_from number lines ++ dissected_line (number + length lines) line
texts_more number [] line = append-nil (dissected_line number line) ∙ ap (λ n. dissected_line n line) (omega arith)
texts_more number (first ∷ lines) line =
    ap (λ t. dissected_line number first ++ t) (texts_more (number + 1) lines line)
    ∙ sym (append_assoc (dissected_line number first) (texts_from (number + 1) lines) (dissected_line (number + 1 + length lines) line))
    ∙ ap (λ n. (dissected_line number first ++ texts_from (number + 1) lines) ++ dissected_line n line) (omega arith)

frame_at : (lines : List (List ℕ)) (i : ℕ) (line : List ℕ) → AreFrames lines → slice_get lines i ≡ Some line → frame_fault line ≡ None
frame_at [] i line are e = absurd cc
frame_at (first ∷ lines) zero line are e =
    let same : first ≡ line = cc in
    ap frame_fault (sym same) ∙ All-head (λ l. frame_fault l ≡ None) first lines are
frame_at (first ∷ lines) (suc i) line are e = frame_at lines i line (All-tail (λ l. frame_fault l ≡ None) first lines are) e

some_or_none : (place : ℕ) (o : Option ℕ) → o ≡ Some place → o ≡ None → ⊥
some_or_none place o e f = cc (sym e ∙ f)

-- where a line is no frame, not all are
pub other_is_none : (lines : List (List ℕ)) (i place : ℕ) → IsFirstOther lines i place → AreFrames lines → ⊥
other_is_none lines i place first are = some_or_none place (frame_fault first.line) first.bad (frame_at lines i first.line are first.there)

-- ---- the beginning, and one line more

-- before the first line
pub begins : (frames : List ℕ) (before : Option (List ℕ)) → AreDissected frames frames 0 before before
begins frames before = record { few = omega arith; left = refl; clear = All-nil (λ l. frame_fault l ≡ None); written = Appends-nil before }

-- where lines were told, the next one
abbrev Next : List ℕ → List ℕ → List ℕ → Type 0
Next rest line behind = lines_of rest ≡ line ∷ lines_of behind

-- what is behind a line that was told
record IsMore (frames line behind told : List ℕ) (number : ℕ) : Type 0 where
  few : number + 1 ≤ length (lines_of frames)
  left : lines_of behind ≡ drop (number + 1) (lines_of frames)
  clear : AreFrames (take (number + 1) (lines_of frames))
  texts : texts_from 1 (take (number + 1) (lines_of frames)) ≡ texts_from 1 (take number (lines_of frames)) ++ told

one_more : (frames rest line behind told : List ℕ) (number : ℕ) (before between : Option (List ℕ)) → AreDissected frames rest number before between → Next rest line behind → TellsFrame (number + 1) line told
    → IsMore frames line behind told number
one_more frames rest line behind told number before between u next tells =
    let lines = lines_of frames in
    let h = here lines number line (lines_of behind) (sym u.left ∙ next) in
    let plus = add-one number in
    let front : take number lines ++ line ∷ [] ≡ take (number + 1) lines = sym (ap (λ k. take k lines) plus ∙ h.front) in
    let count : 1 + length (take number lines) ≡ number + 1 = omega (arith, length-take number lines, u.few) in
    record {
      few = omega (arith, h.within);
      left = sym (ap (λ k. drop k lines) plus ∙ h.behind);
      clear = subst AreFrames front (All-push (λ l. frame_fault l ≡ None) (take number lines) line u.clear tells.0);
      texts = ap (texts_from 1) (sym front) ∙ texts_more 1 (take number lines) line
          ∙ ap (λ n. texts_from 1 (take number lines) ++ dissected_line n line) count
          ∙ ap (λ t. texts_from 1 (take number lines) ++ t) (sym tells.1);
    }

-- one line more was told
pub goes_on : (frames rest line behind : List ℕ) (number : ℕ) (before between after : Option (List ℕ)) → AreDissected frames rest number before between → Next rest line behind
    → LineDissects (Ok tt) (number + 1) line between after → AreDissected frames behind (number + 1) before after
goes_on frames rest line behind number before between after u next line_told =
    let m = one_more frames rest line behind line_told.0 number before between u next line_told.1 in
    record {
      few = m.few;
      left = m.left;
      clear = m.clear;
      written = subst (Appends before after) (sym m.texts) (Appends-trans before between after (texts_from 1 (take number (lines_of frames))) line_told.0 u.written line_told.2);
    }

-- ---- the ends

-- each line was told
pub ends_whole : (frames rest : List ℕ) (number : ℕ) (before after : Option (List ℕ)) → AreDissected frames rest number before after → rest ≡ [] → Dissects frames status.Ok before after
ends_whole frames rest number before after u none =
    let past : drop number (lines_of frames) ≡ [] = sym u.left ∙ ap lines_of none ∙ lines_of-nil in
    let all : length (lines_of frames) - number ≡ 0 = sym (length-drop number (lines_of frames)) ∙ ap length past in
    record {
      done = number;
      few = u.few;
      clear = u.clear;
      closing = [];
      ends = (omega (arith, all, u.few), refl);
      written = subst (Appends before after) (sym (append-nil (texts_from 1 (take number (lines_of frames))))) u.written;
    }

-- it ends behind the lines that were told
ends_behind : (frames rest closing : List ℕ) (number : ℕ) (before between after : Option (List ℕ)) (s : Status) → AreDissected frames rest number before between → DissectEnds s frames number closing
    → WritesReport s before after (texts_from 1 (take number (lines_of frames))) closing → Dissects frames s before after
ends_behind frames rest closing number before between after s u ends written = record { done = number; few = u.few; clear = u.clear; closing = closing; ends = ends; written = written }

-- the closing line of a line that is no frame
ends_other : (frames rest line behind told : List ℕ) (number : ℕ) (before between : Option (List ℕ)) → AreDissected frames rest number before between → Next rest line behind → TellsNone (number + 1) line told
    → EndsOther frames number told
ends_other frames rest line behind told number before between u next tells =
    let h = here (lines_of frames) number line (lines_of behind) (sym u.left ∙ next) in
    (tells.0, record { before = u.clear; line = line; there = h.at; bad = tells.1 }, tells.2)

-- what a line comes to was written in part
record IsCut (line : List ℕ) (number : ℕ) (between after : Option (List ℕ)) : Type 0 where
  told : List ℕ
  tells : TellsFrame (number + 1) line told ⊎ TellsNone (number + 1) line told
  part : AppendsPart between after told

-- the sink or memory gave out
cut_short : (frames rest line behind : List ℕ) (number : ℕ) (before between after : Option (List ℕ)) → AreDissected frames rest number before between → Next rest line behind → IsCut line number between after
    → Dissects frames status.WriteFault before after
cut_short frames rest line behind number before between after u next cut =
    let written : AppendsPart before after (texts_from 1 (take number (lines_of frames)) ++ cut.told) = part_more before between after (texts_from 1 (take number (lines_of frames))) cut.told u.written cut.part in
    elim cut.tells [
      | inl frame ↦
          let m = one_more frames rest line behind cut.told number before between u next frame in
          record {
            done = number + 1;
            few = m.few;
            clear = m.clear;
            closing = [];
            ends = inl refl;
            written = subst (AppendsPart before after) (sym m.texts ∙ sym (append-nil (texts_from 1 (take (number + 1) (lines_of frames))))) written;
          }
      | inr none ↦
          ends_behind frames rest cut.told number before between after status.WriteFault u (inr (inl (ends_other frames rest line behind cut.told number before between u next none))) written
    ]

-- what a line that ends the run comes to
pub stops : (frames rest line behind : List ℕ) (number : ℕ) (before between after : Option (List ℕ)) (s : Status) → AreDissected frames rest number before between → Next rest line behind
    → LineDissects (Err s) (number + 1) line between after → Dissects frames s before after
stops frames rest line behind number before between after status.BadLine u next run =
    ends_behind frames rest run.0 number before between after status.BadLine u (ends_other frames rest line behind run.0 number before between u next run.1)
    (Appends-trans before between after (texts_from 1 (take number (lines_of frames))) run.0 u.written run.2)
stops frames rest line behind number before between after status.WriteFault u next run =
    cut_short frames rest line behind number before between after u next (record { told = run.0; tells = run.1; part = run.2 })
stops frames rest line behind number before between after status.NoMemory u next run =
    elim run [
      | inl none ↦
          let texts = texts_from 1 (take number (lines_of frames)) in
          ends_behind frames rest [] number before between after status.NoMemory u (inl refl)
          (inr (refl, subst (Appends before after) (append-nil texts) (Appends-trans before between after texts [] u.written none)))
      | inr cut ↦
          let d = cut_short frames rest line behind number before between after u next (record { told = cut.0; tells = cut.1; part = cut.2 }) in
          record { done = d.done; few = d.few; clear = d.clear; closing = d.closing; ends = d.ends; written = inl d.written }
    ]
stops frames rest line behind number before between after status.Ok u next run = absurd run
stops frames rest line behind number before between after status.Usage u next run = absurd run
stops frames rest line behind number before between after status.ReadFault u next run = absurd run
stops frames rest line behind number before between after status.Limit u next run = absurd run
stops frames rest line behind number before between after status.BearerFault u next run = absurd run
stops frames rest line behind number before between after status.Differ u next run = absurd run

-- ---- what is told where the frames aren't read

only_closing : (frames closing : List ℕ) (before after : Option (List ℕ)) (s : Status) → DissectEnds s frames 0 closing → WritesReport s before after [] closing → Dissects frames s before after
only_closing frames closing before after s ends written = record { done = 0; few = omega arith; clear = All-nil (λ l. frame_fault l ≡ None); closing = closing; ends = ends; written = written }

pub not_read : (frames : List ℕ) (before after : Option (List ℕ)) (s : Status) → EndsUnread s frames before after → Dissects frames s before after
not_read frames before after status.ReadFault ends = only_closing frames [] before after status.ReadFault (inl refl) (inr (refl, ends))
not_read frames before after status.Limit ends = only_closing frames ends.0 before after status.Limit ends.1 ends.2
not_read frames before after status.WriteFault ends = only_closing frames ends.0 before after status.WriteFault (inr (inr ends.1)) ends.2
not_read frames before after status.NoMemory ends =
    elim ends [
      | inl none ↦ only_closing frames [] before after status.NoMemory (inl refl) (inr (refl, none))
      | inr cut ↦ only_closing frames cut.0 before after status.NoMemory (inr (inr cut.1)) (inl cut.2)
    ]
not_read frames before after status.Ok ends = absurd ends
not_read frames before after status.Usage ends = absurd ends
not_read frames before after status.BadLine ends = absurd ends
not_read frames before after status.BearerFault ends = absurd ends
not_read frames before after status.Differ ends = absurd ends

-- ---- a run over frames alone is one to the end

pub told_all : (frames : List ℕ) (s : Status) (before after : Option (List ℕ)) → IsDissectStatus s → Dissects frames s before after → AreFrames (lines_of frames) → (s ≡ status.WriteFault → ⊥) → (s ≡ status.Ok) ⊎ (s ≡ status.NoMemory)
told_all frames status.Ok before after is d are write = inl refl
told_all frames status.NoMemory before after is d are write = inr refl
told_all frames status.BadLine before after is d are write = absurd (other_is_none (lines_of frames) d.done d.ends.0 d.ends.1 are)
told_all frames status.WriteFault before after is d are write = absurd (write refl)
told_all frames status.Usage before after is d are write = absurd is
told_all frames status.ReadFault before after is d are write = absurd is
told_all frames status.Limit before after is d are write = absurd is
told_all frames status.BearerFault before after is d are write = absurd is
told_all frames status.Differ before after is d are write = absurd is
