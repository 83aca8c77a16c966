use Rattle.std.proofs.Common.{◌≡◌, ◌∙◌, [], refl, sym, subst}
use Rattle.tipc_header.specs.Spelling.{view}
use Rattle.tipc_pair.specs.declared.changes.PairOutcome.{PairOutcome}
use Rattle.tipc_outside.specs.Frames.{no_frames}
use Rattle.tipc_pair.specs.Courses.{Course, IsToldOf, LeavingState}
use Rattle.tipc_pair.specs.PairArrivals.{Arrives}
use Rattle.tipc_pair.specs.Preparing.{IsPrepared}
use Rattle.tipc_pair.proofs.Quietly.{lower_arrives}
use Rattle.tipc_pair.proofs.Sendings.{adds_alone, told_alone}
use Rattle.tipc_pair.proofs.link_ends.LinkEnds.take.Goals as goal

pub returns-in-Passes-clause-told : goal.returns-in-Passes-clause-told
returns-in-Passes-clause-told c = λ es er by given prepared.
    let x = c.args.self.now in
    let p = view c.args.packet.now in
    let last = c.let_pass.new.self in
    let told = c.let_pass.result in
    let nothing : LeavingState = record { changes = []; out = no_frames } in
    let passed = subst (λ w. IsPrepared x es er p by c.args.shown w given) c.in-Passes.is prepared in
    let h = lower_arrives x last es er p by c.args.shown nothing told passed.0 c.let_pass.ensures.after (adds_alone told _ c.let_pass.ensures.told) in
    subst (λ (g : PairOutcome). (k : Course) × Arrives x es er p by c.args.shown k g × (last ≡ k.pair) × IsToldOf k told) (sym passed.1) (h.0, h.1, h.2, told_alone nothing told h.0 refl refl h.3)

pub returns-in-Whole-clause-told : goal.returns-in-Whole-clause-told
returns-in-Whole-clause-told c = λ es er by given prepared.
    let x = c.args.self.now in
    let p = view c.args.packet.now in
    let whole = subst (λ w. IsPrepared x es er p by c.args.shown w given) c.in-Whole.is prepared in
    (whole.0, whole.1, c.into_inner.ensures ∙ whole.2, whole.3)
