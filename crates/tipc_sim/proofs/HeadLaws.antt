-- What stands before a report.
use Rattle.std.proofs.Common.{◌≡◌, ℕ, Option, List, [], ◌∷◌, ◌++◌, refl, sym, subst, arith, inl, inr, append-nil, append_assoc, ◌⊎◌}
use Rattle.std.specs.Prelude.{codes}
use Rattle.std.specs.Fmt.{decimal}
use Rattle.std.specs.Io.KnownBytes.{Appends}
use Rattle.std.proofs.KnownBytes.{Appends-trans, Appends-nil}
use Rattle.std.proofs.lemmas.List.{length-append}
use Rattle.tipc_report.specs.Closing.{spaced}
use Rattle.tipc_report.specs.Text.{seed_line}
use Rattle.tipc_world.specs.States.{WorldState}
use Rattle.tipc_sim.specs.declared.status.Status.{Status}
use Rattle.tipc_sim.specs.declared.status.Status.TheVariants as status
use Rattle.tipc_sim.specs.Happenings.{begin, scene}
use Rattle.tipc_sim.specs.Noted.{no_notes}
use Rattle.tipc_sim.specs.Output.{AppendsPart, WritesReport}
use Rattle.tipc_sim.specs.Reports.{Ends, Reports}
use Rattle.tipc_sim.specs.Steps.{IsWriteStatus}
use Rattle.tipc_sim.proofs.ReportLaws.{sound_none}
use Rattle.tipc_sim.proofs.OutputLaws.{part_more}
use Rattle.tipc_world.proofs.Continuing.{grows_same}

-- nothing was written yet of the line of a number
pub head_unwritten : (before : Option (List ℕ)) (seed : ℕ) → AppendsPart before before (seed_line seed)
unfolding seed_line
head_unwritten before seed =
    let whole = length-append (spaced (codes "gen" ∷ decimal seed ∷ [])) (10 ∷ []) in
    (0, omega (arith, whole), Appends-nil before)

-- behind a head, a text is the head and the text
whole_behind : (head report closing : List ℕ) (before between after : Option (List ℕ)) → Appends before between head → Appends between after (report ++ closing) → Appends before after ((head ++ report) ++ closing)
whole_behind head report closing before between after first rest =
    subst (Appends before after) (sym (append_assoc head report closing)) (Appends-trans before between after head (report ++ closing) first rest)

part_behind : (head report closing : List ℕ) (before between after : Option (List ℕ)) → Appends before between head → AppendsPart between after (report ++ closing) → AppendsPart before after ((head ++ report) ++ closing)
part_behind head report closing before between after first rest =
    subst (AppendsPart before after) (sym (append_assoc head report closing)) (part_more before between after head (report ++ closing) first rest)

some_behind : (head report closing : List ℕ) (before between after : Option (List ℕ)) → Appends before between head
    → AppendsPart between after (report ++ closing) ⊎ ((closing ≡ []) × Appends between after report)
    → AppendsPart before after ((head ++ report) ++ closing) ⊎ ((closing ≡ []) × Appends before after (head ++ report))
some_behind head report closing before between after first rest =
    elim rest [
      | inl part ↦ inl (part_behind head report closing before between after first part)
      | inr all ↦ inr (all.0, Appends-trans before between after head report first all.1)
    ]

-- behind a head, what was written is the head and the rest
written_behind : (head report closing : List ℕ) (s : Status) (before between after : Option (List ℕ)) → Appends before between head → WritesReport s between after report closing → WritesReport s before after (head ++ report) closing
written_behind head report closing status.Ok before between after first rest = whole_behind head report closing before between after first rest
written_behind head report closing status.BadLine before between after first rest = whole_behind head report closing before between after first rest
written_behind head report closing status.Limit before between after first rest = whole_behind head report closing before between after first rest
written_behind head report closing status.WriteFault before between after first rest = part_behind head report closing before between after first rest
written_behind head report closing status.Usage before between after first rest = some_behind head report closing before between after first rest
written_behind head report closing status.ReadFault before between after first rest = some_behind head report closing before between after first rest
written_behind head report closing status.BearerFault before between after first rest = some_behind head report closing before between after first rest
written_behind head report closing status.Differ before between after first rest = some_behind head report closing before between after first rest
written_behind head report closing status.NoMemory before between after first rest = some_behind head report closing before between after first rest

pub with_head : {from : ℕ} (head script : List ℕ) (s : Status) (start now : WorldState) (before between after : Option (List ℕ)) → Appends before between head → Reports [] from script s start now between after → Reports head from script s start now before after
with_head head script s start now before between after first r = record {
  done = r.done;
  few = r.few;
  sound = r.sound;
  left = r.left;
  report = r.report;
  runs = r.runs;
  grown = r.grown;
  closing = r.closing;
  ends = r.ends;
  written = written_behind head r.report r.closing s before between after first r.written;
}

-- nothing but a head is there, and it wasn't written whole
only_head : {from : ℕ} (head script : List ℕ) (s : Status) (start : WorldState) (before after : Option (List ℕ)) → Ends s script 0 (scene start no_notes) start [] → WritesReport s before after (head ++ []) [] → Reports head from script s start start before after
only_head head script s start before after ends written = record {
  done = 0;
  few = omega arith;
  sound = sound_none;
  left = scene start no_notes;
  report = [];
  runs = begin;
  grown = grows_same start;
  closing = [];
  ends = ends;
  written = written;
}

-- the head was written in part, or not at all
pub head_cut : {from : ℕ} (head script : List ℕ) (s : Status) (start : WorldState) (before after : Option (List ℕ)) → AppendsPart before after head → IsWriteStatus s → Reports head from script s start start before after
head_cut head script status.WriteFault start before after part is = only_head head script status.WriteFault start before after (inl (refl, refl)) (rw (append-nil head, append-nil head) part)
head_cut head script status.NoMemory start before after part is = only_head head script status.NoMemory start before after (inr (inl (refl, refl))) (inl (rw (append-nil head, append-nil head) part))
head_cut head script status.Ok start before after part is = absurd is
head_cut head script status.Usage start before after part is = absurd is
head_cut head script status.BadLine start before after part is = absurd is
head_cut head script status.ReadFault start before after part is = absurd is
head_cut head script status.BearerFault start before after part is = absurd is
head_cut head script status.Differ start before after part is = absurd is
head_cut head script status.Limit start before after part is = absurd is

-- memory ran out first: nothing was done or written
pub unbegun : {from : ℕ} (seed : ℕ) (script : List ℕ) (start : WorldState) (before : Option (List ℕ)) → Reports (seed_line seed) from script status.NoMemory start start before before
unbegun seed script start before = head_cut (seed_line seed) script status.NoMemory start before before (head_unwritten before seed) tt
