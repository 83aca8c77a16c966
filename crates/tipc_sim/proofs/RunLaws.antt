-- The run of a script: its beginning, one line more, and its ends.
use Rattle.std.proofs.Common.{◌≡◌, ℕ, ◌+◌, ◌-◌, ◌≤◌, ◌||◌, Option, Some, None, Err, List, [], ◌∷◌, ◌++◌, length, take, drop, refl, sym, ap, subst, ◌∙◌, arith, inl, inr, append-nil, add-one, false}
use Rattle.std.specs.Prelude.{IfSome, slice_get}
use Rattle.std.specs.Io.KnownBytes.{Appends}
use Rattle.std.proofs.KnownBytes.{Appends-trans, Appends-nil}
use Rattle.std.proofs.lemmas.List.{length-append, length-drop, length-take, take_all}
use Rattle.std.proofs.Math.Seq.{take-append-add}
use Rattle.tipc_script.specs.Grammar.{asked}
use Rattle.tipc_world.specs.Growth.{Grows}
use Rattle.tipc_world.specs.States.{WorldState, is_there}
use Rattle.tipc_sim.specs.declared.status.Status.{Status}
use Rattle.tipc_sim.specs.declared.status.Status.TheVariants as status
use Rattle.tipc_sim.specs.Happenings.{IsBegun, Runs, Scene, begin, go_on, scene, written_line}
use Rattle.tipc_sim.specs.Lines.{IsWithin, lines_of}
use Rattle.tipc_sim.specs.Nodes.{AreSound, IsFirstBad, fault_where, made_by, makes}
use Rattle.tipc_sim.specs.Noted.{no_notes}
use Rattle.tipc_sim.specs.Output.{AppendsPart, EndsOver, WritesReport}
use Rattle.tipc_sim.specs.Reports.{Ends, EndsBadly, EndsLimited, EndsUntold, ReachesLimit, Reports}
use Rattle.tipc_sim.specs.Steps.{IsUnderWay, IsDone, IsHalted, IsRefused, IsCut, IsUntold, TellsAnswer, TellsFault, TellsLimit, LineRuns, IsLimitStatus}
use Rattle.tipc_sim.specs.Unread.{EndsUnread}
use Rattle.tipc_sim.proofs.LineLaws.{lines_of-nil}
use Rattle.tipc_sim.proofs.ListLaws.{here}
use Rattle.tipc_sim.proofs.OutputLaws.{over_limits, part_more}
use Rattle.tipc_sim.proofs.ReportLaws.{fault_where_same, made_by_more, sound_more, sound_none}
use Rattle.tipc_world.proofs.Continuing.{grows_equal, grows_same}

-- a script before its first line
pub begins : {from : ℕ} (script : List ℕ) (start : WorldState) (contents : Option (List ℕ)) → ((n : ℕ) → is_there start n ≡ false) → IsUnderWay from script script 0 (scene start no_notes) (scene start no_notes) contents contents
unfolding made_by
begins script start contents none = record {
  few = omega arith;
  left = refl;
  sound = sound_none;
  nodes = none;
  report = [];
  runs = begin;
  written = Appends-nil contents;
}

-- where a script is under way, its next line
abbrev Next : List ℕ → List ℕ → List ℕ → Type 0
Next rest line behind = lines_of rest ≡ line ∷ lines_of behind

-- what is behind a line that was done
record IsMore (from : ℕ) (script line behind : List ℕ) (number : ℕ) (start now : Scene) (report text : List ℕ) : Type 0 where
  few : number + 1 ≤ length (lines_of script)
  left : lines_of behind ≡ drop (number + 1) (lines_of script)
  sound : AreSound (take (number + 1) (lines_of script))
  nodes : (n : ℕ) → is_there now.world n ≡ made_by (take (number + 1) (lines_of script)) n
  runs : Runs from start (take (number + 1) (lines_of script)) now (report ++ text)

-- a line that was done comes behind those that were done
one_more : {from : ℕ} (script rest line behind text : List ℕ) (number : ℕ) (start old new : Scene) (before between : Option (List ℕ)) (u : IsUnderWay from script rest number start old before between) → Next rest line behind
    → TellsAnswer from (number + 1) line old new text → IsMore from script line behind number start new u.report text
one_more {from} script rest line behind text number start old new before between u next told =
    let lines = lines_of script in
    let h = here lines number line (lines_of behind) (sym u.left ∙ next) in
    let answered = told.1 in
    let none : fault_where (made_by (take number lines)) line ≡ None = sym (fault_where_same (is_there old.world) (made_by (take number lines)) line u.nodes) ∙ told.0 in
    let plus = add-one number in
    let front : take number lines ++ line ∷ [] ≡ take (number + 1) lines = sym (ap (λ k. take k lines) plus ∙ h.front) in
    let count : length (take number lines) + 1 ≡ number + 1 = omega (arith, length-take number lines, u.few) in
    let spelled : written_line from (length (take number lines) + 1) answered.given ≡ text = ap (λ k. written_line from k answered.given) count ∙ sym answered.spelled in
    record {
      few = omega (arith, h.within);
      left = sym (ap (λ k. drop k lines) plus ∙ h.behind);
      sound = subst AreSound front (sound_more (take number lines) line u.sound none);
      nodes = λ n. answered.happened.nodes n ∙ ap (λ b. makes (asked line) n || b) (u.nodes n) ∙ sym (made_by_more (take number lines) line n) ∙ ap (λ ls. made_by ls n) front;
      runs = subst (λ t. Runs from start (take (number + 1) lines) new (u.report ++ t)) spelled
          (subst (λ ls. Runs from start ls new (u.report ++ written_line from (length (take number lines) + 1) answered.given)) front
          (go_on (take number lines) old u.report line new answered.given u.runs answered.happened));
    }

-- one line more was done
pub goes_on : {from : ℕ} (script rest line behind : List ℕ) (number : ℕ) (start old new : Scene) (before between after : Option (List ℕ)) → IsUnderWay from script rest number start old before between → Next rest line behind
    → IsDone from (number + 1) line old new between after → IsUnderWay from script behind (number + 1) start new before after
goes_on script rest line behind number start old new before between after u next done =
    let m = one_more script rest line behind done.text number start old new before between u next done.told in
    record {
      few = m.few;
      left = m.left;
      sound = m.sound;
      nodes = m.nodes;
      report = u.report ++ done.text;
      runs = m.runs;
      written = Appends-trans before between after u.report done.text u.written done.written;
    }

-- where a script is under way, from its beginning on
abbrev IsRunning : ℕ → List ℕ → List ℕ → ℕ → WorldState → Scene → Option (List ℕ) → Option (List ℕ) → Type 0
IsRunning from script rest number start now before after = IsUnderWay from script rest number (scene start no_notes) now before after

-- each line was done
pub ends_whole : {from : ℕ} (script rest : List ℕ) (number : ℕ) (start : WorldState) (now : Scene) (before after : Option (List ℕ)) → IsRunning from script rest number start now before after → rest ≡ [] → Reports [] from script status.Ok start now.world before after
ends_whole script rest number start now before after u none =
    let past : drop number (lines_of script) ≡ [] = sym u.left ∙ ap lines_of none ∙ lines_of-nil in
    let all : length (lines_of script) - number ≡ 0 = sym (length-drop number (lines_of script)) ∙ ap length past in
    record {
      done = number;
      few = u.few;
      sound = u.sound;
      left = now;
      report = u.report;
      runs = u.runs;
      grown = grows_same now.world;
      closing = [];
      ends = (omega (arith, all, u.few), refl, refl);
      written = subst (Appends before after) (sym (append-nil u.report)) u.written;
    }

-- ---- the line that ends a run

-- a line stands behind those that were done, which are without fault, and its fault is the one that it has in the world
-- that they left
record IsNext (script line : List ℕ) (number : ℕ) (old : Scene) : Type 0 where
  sound : AreSound (take number (lines_of script))
  there : slice_get (lines_of script) number ≡ Some line
  fault : fault_where (made_by (take number (lines_of script))) line ≡ fault_where (is_there old.world) line

-- the line that ends a run stands so
comes_next : {from : ℕ} (script rest line behind : List ℕ) (number : ℕ) (start old : Scene) (before between : Option (List ℕ)) → IsUnderWay from script rest number start old before between → Next rest line behind
    → IsNext script line number old
comes_next script rest line behind number start old before between u next =
    let lines = lines_of script in
    record {
      sound = u.sound;
      there = (here lines number line (lines_of behind) (sym u.left ∙ next)).at;
      fault = sym (fault_where_same (is_there old.world) (made_by (take number lines)) line u.nodes);
    }

-- the closing line of a bad line
ends_badly : (script line text : List ℕ) (number : ℕ) (old new : Scene) → IsNext script line number old → TellsFault (number + 1) line old new text → EndsBadly script number text × (new.world ≡ old.world)
ends_badly script line text number old new n told =
    let bad : IsFirstBad (lines_of script) number told.0 = record { before = n.sound; line = line; there = n.there; bad = n.fault ∙ told.1 } in
    ((told.0, bad, told.2), ap (λ s. s.world) told.3)

-- the closing line of a limit
ends_limited : (script line text : List ℕ) (number : ℕ) (old new : Scene) → IsNext script line number old → TellsLimit (number + 1) line old new text → EndsLimited script number old new.world text
ends_limited script line text number old new n told =
    record { line = line; there = n.there; clear = n.fault ∙ told.1; stop = told.0; limited = told.2; told = told.3 }

-- a line that was begun, of which nothing is told
ends_untold : (script line : List ℕ) (number : ℕ) (old new : Scene) → IsNext script line number old → fault_where (is_there old.world) line ≡ None → IsBegun (asked line) old new.world → EndsUntold script number old new.world []
ends_untold script line number old new n clear begun = record { line = line; there = n.there; clear = n.fault ∙ clear; begun = begun; told = refl }

-- a run ends behind the lines that were done
ends_behind : {from : ℕ} (script rest closing : List ℕ) (number : ℕ) (start now : WorldState) (old : Scene) (before between after : Option (List ℕ)) (s : Status) (u : IsRunning from script rest number start old before between) → Grows old.world now
    → Ends s script number old now closing → WritesReport s before after u.report closing → Reports [] from script s start now before after
ends_behind script rest closing number start now old before between after s u grown ends written = record {
  done = number;
  few = u.few;
  sound = u.sound;
  left = old;
  report = u.report;
  runs = u.runs;
  grown = grown;
  closing = closing;
  ends = ends;
  written = written;
}

-- the line is bad, and that was told
refused : {from : ℕ} (script rest line behind : List ℕ) (number : ℕ) (start : WorldState) (old new : Scene) (before between after : Option (List ℕ)) → IsRunning from script rest number start old before between → Next rest line behind
    → IsRefused (number + 1) line old new between after → Reports [] from script status.BadLine start new.world before after
refused script rest line behind number start old new before between after u next bad =
    let ends = ends_badly script line bad.text number old new (comes_next script rest line behind number (scene start no_notes) old before between u next) bad.told in
    ends_behind script rest bad.text number start new.world old before between after status.BadLine u (grows_equal old.world new.world ends.1) ends
    (Appends-trans before between after u.report bad.text u.written bad.written)

-- a limit stopped the line, and that was told
halted : {from : ℕ} (script rest line behind : List ℕ) (number : ℕ) (start : WorldState) (old new : Scene) (before between after : Option (List ℕ)) → IsRunning from script rest number start old before between → Next rest line behind
    → IsHalted (number + 1) line old new between after → Reports [] from script status.Limit start new.world before after
halted script rest line behind number start old new before between after u next halt =
    ends_behind script rest halt.text number start new.world old before between after status.Limit u halt.told.2.grown
    (inr (ends_limited script line halt.text number old new (comes_next script rest line behind number (scene start no_notes) old before between u next) halt.told))
    (Appends-trans before between after u.report halt.text u.written halt.written)

-- the sink or memory gave out
cut_short : {from : ℕ} (script rest line behind : List ℕ) (number : ℕ) (start : WorldState) (old new : Scene) (before between after : Option (List ℕ)) → IsRunning from script rest number start old before between → Next rest line behind
    → IsCut from (number + 1) line old new between after → Reports [] from script status.WriteFault start new.world before after
cut_short script rest line behind number start old new before between after u next cut =
    let written : AppendsPart before after (u.report ++ cut.text) = part_more before between after u.report cut.text u.written cut.written in
    let n = comes_next script rest line behind number (scene start no_notes) old before between u next in
    elim cut.told [
      | inl shown ↦
          let m = one_more script rest line behind cut.text number (scene start no_notes) old new before between u next shown in
          record {
            done = number + 1;
            few = m.few;
            sound = m.sound;
            left = new;
            report = u.report ++ cut.text;
            runs = m.runs;
            grown = grows_same new.world;
            closing = [];
            ends = inl (refl, refl);
            written = subst (AppendsPart before after) (sym (append-nil (u.report ++ cut.text))) written;
          }
      | inr other ↦ elim other [
        | inl told ↦
            let ends = ends_badly script line cut.text number old new n told in
            ends_behind script rest cut.text number start new.world old before between after status.WriteFault u (grows_equal old.world new.world ends.1) (inr (inl ends)) written
        | inr told ↦
            ends_behind script rest cut.text number start new.world old before between after status.WriteFault u told.2.grown (inr (inr (inr (ends_limited script line cut.text number old new n told)))) written
      ]
    ]

-- memory ran out before anything was written of a line: it wasn't begun, or it was
untold : {from : ℕ} (script rest line behind : List ℕ) (number : ℕ) (start : WorldState) (old new : Scene) (before between after : Option (List ℕ)) → IsRunning from script rest number start old before between → Next rest line behind
    → IsUntold line old new between after → Reports [] from script status.NoMemory start new.world before after
untold {from} script rest line behind number start old new before between after u next none =
    let n = comes_next script rest line behind number (scene start no_notes) old before between u next in
    let ends_so : Ends status.NoMemory script number old new.world [] → Grows old.world new.world → Reports [] from script status.NoMemory start new.world before after =
    λ ends grown. ends_behind script rest [] number start new.world old before between after status.NoMemory u grown ends
    (inr (refl, subst (Appends before after) (append-nil u.report) (Appends-trans before between after u.report [] u.written none.written)))
    in
    elim none.begun [
      | inl same ↦ ends_so (inr (inl (refl, same))) (grows_equal old.world new.world same)
      | inr begun ↦ ends_so (inl (ends_untold script line number old new n begun.0 begun.1)) begun.1.grown
    ]

-- what a line that ends the run comes to
pub stops : {from : ℕ} (script rest line behind : List ℕ) (number : ℕ) (start : WorldState) (old new : Scene) (before between after : Option (List ℕ)) (s : Status) → IsRunning from script rest number start old before between → Next rest line behind
    → LineRuns (Err s) from (number + 1) line old new between after → Reports [] from script s start new.world before after
stops script rest line behind number start old new before between after status.BadLine u next run = refused script rest line behind number start old new before between after u next run
stops script rest line behind number start old new before between after status.Limit u next run = halted script rest line behind number start old new before between after u next run
stops script rest line behind number start old new before between after status.WriteFault u next run = cut_short script rest line behind number start old new before between after u next run
stops script rest line behind number start old new before between after status.NoMemory u next run =
    elim run [
      | inl none ↦ untold script rest line behind number start old new before between after u next none
      | inr cut ↦
          let r = cut_short script rest line behind number start old new before between after u next cut in
          record { done = r.done; few = r.few; sound = r.sound; left = r.left; report = r.report; runs = r.runs; grown = r.grown; closing = r.closing; ends = inr r.ends; written = inl r.written }
    ]
stops script rest line behind number start old new before between after status.Ok u next run = absurd run
stops script rest line behind number start old new before between after status.Usage u next run = absurd run
stops script rest line behind number start old new before between after status.ReadFault u next run = absurd run
stops script rest line behind number start old new before between after status.BearerFault u next run = absurd run
stops script rest line behind number start old new before between after status.Differ u next run = absurd run

-- what telling a limit comes to
pub limit_told : (from number : ℕ) (line : List ℕ) (old new : Scene) (before after : Option (List ℕ)) (text : List ℕ) (s : Status) → TellsLimit number line old new text → IsLimitStatus s → (s ≡ status.Limit → Appends before after text)
    → ((s ≡ status.Limit → ⊥) → AppendsPart before after text) → LineRuns (Err s) from number line old new before after
limit_told from number line old new before after text status.Limit told is whole part = record { text = text; told = told; written = whole refl }
limit_told from number line old new before after text status.WriteFault told is whole part = record { text = text; told = inr (inr told); written = part (λ e. cc) }
limit_told from number line old new before after text status.NoMemory told is whole part = inr (record { text = text; told = inr (inr told); written = part (λ e. cc) })
limit_told from number line old new before after text status.Ok told is whole part = absurd is
limit_told from number line old new before after text status.Usage told is whole part = absurd is
limit_told from number line old new before after text status.BadLine told is whole part = absurd is
limit_told from number line old new before after text status.ReadFault told is whole part = absurd is
limit_told from number line old new before after text status.BearerFault told is whole part = absurd is
limit_told from number line old new before after text status.Differ told is whole part = absurd is

-- a script that was run to its end is without fault
pub sound_at_end : {from : ℕ} (script : List ℕ) (start now : WorldState) (before after : Option (List ℕ)) (s : Status) → s ≡ status.Ok → Reports [] from script s start now before after → AreSound (lines_of script)
sound_at_end {from} script start now before after s ok reports =
    let r = subst (λ t. Reports [] from script t start now before after) ok reports in
    let all : take r.done (lines_of script) ≡ lines_of script = take_all r.done (lines_of script) (omega (arith, r.ends.0)) in
    subst AreSound all r.sound

-- a closing line alone was written, or a part of it
only_closing : {from : ℕ} (script closing : List ℕ) (start : WorldState) (before after : Option (List ℕ)) (s : Status) → Ends s script 0 (scene start no_notes) start closing → WritesReport s before after [] closing → Reports [] from script s start start before after
only_closing script closing start before after s ends written = record {
  done = 0;
  few = omega arith;
  sound = sound_none;
  left = scene start no_notes;
  report = [];
  runs = begin;
  grown = grows_same start;
  closing = closing;
  ends = ends;
  written = written;
}

-- the source isn't read to its end, or is over a limit of a script: nothing was done
pub not_read : {from : ℕ} (script : List ℕ) (start : WorldState) (before after : Option (List ℕ)) (s : Status) → EndsUnread s script before after → Reports [] from script s start start before after
not_read script start before after status.ReadFault ends = only_closing script [] start before after status.ReadFault (inl (refl, refl)) (inr (refl, ends))
not_read script start before after status.Limit ends = only_closing script ends.0 start before after status.Limit (inl (ends.1, refl)) ends.2
not_read script start before after status.WriteFault ends = only_closing script ends.0 start before after status.WriteFault (inr (inr (inl (ends.1, refl)))) ends.2
not_read script start before after status.NoMemory ends =
    elim ends [
      | inl none ↦ only_closing script [] start before after status.NoMemory (inr (inl (refl, refl))) (inr (refl, none))
      | inr cut ↦ only_closing script cut.0 start before after status.NoMemory (inr (inr (inr (inl (cut.1, refl))))) (inl cut.2)
    ]
not_read script start before after status.Ok ends = absurd ends
not_read script start before after status.Usage ends = absurd ends
not_read script start before after status.BadLine ends = absurd ends
not_read script start before after status.BearerFault ends = absurd ends
not_read script start before after status.Differ ends = absurd ends

-- a script within the limits of a script was stopped by a limit of the world
pub limit_reached : {from : ℕ} (head script : List ℕ) (s : Status) (start now : WorldState) (before after : Option (List ℕ)) → IsWithin script → s ≡ status.Limit → Reports head from script s start now before after → ReachesLimit from script start now
limit_reached {from} head script s start now before after within is reports =
    let r = subst (λ t. Reports head from script t start now before after) is reports in
    elim r.ends [
      | inl over ↦ absurd (over_limits script r.done r.closing over.0 within)
      | inr limited ↦ record { done = r.done; left = r.left; report = r.report; runs = r.runs; closing = r.closing; ends = limited }
    ]
