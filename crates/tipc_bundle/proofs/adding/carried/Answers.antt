use Rattle.std.proofs.Common.{inl, inr, length, sym, ap, ◌∙◌}
use Rattle.std.proofs.lemmas.List.{append-nil}
use Rattle.tipc_header.specs.Spelling.{view}
use Rattle.tipc_bundle.specs.Bundles.{bundle_of, in_a_row, padded}
use Rattle.tipc_bundle.proofs.Bundling.{bundler_carries, one_or_several, other_carries}
use Rattle.tipc_bundle.proofs.adding.carried.Goals as goal

pub unreachable-requires : goal.unreachable-requires
unreachable-requires c =
    elim (one_or_several c.args.bytes.now c.requires.0 c.requires.1) [
      | inl one ↦ c.in_default.ensures.only one.0.packet one.0.fits one.0.spelled
      | inr several ↦ c.in_default.ensures.only (bundle_of c.requires.0) several.1 several.2
    ]

pub returns-in-Bundler-clause-count : goal.returns-in-Bundler-clause-count
returns-in-Bundler-clause-count c = λ packets h. (bundler_carries c.args.bytes.now packets (view c.in-Ok.packet) c.in-Bundler.bundle h c.in-Ok.ensures.only c.in-Bundler.is).0

pub returns-in-Bundler-clause-rest : goal.returns-in-Bundler-clause-rest
returns-in-Bundler-clause-rest c = λ packets h. (bundler_carries c.args.bytes.now packets (view c.in-Ok.packet) c.in-Bundler.bundle h c.in-Ok.ensures.only c.in-Bundler.is).1

pub returns-in_default-header : goal.returns-in_default-header
returns-in_default-header c = record {
  count = λ packets h. ap length (sym (other_carries c.args.bytes.now packets (view c.in-Ok.packet) h c.in-Ok.ensures.only c.in_default-header.not-Bundler));
  rest = λ packets h. sym (ap in_a_row (other_carries c.args.bytes.now packets (view c.in-Ok.packet) h c.in-Ok.ensures.only c.in_default-header.not-Bundler) ∙ append-nil (padded c.args.bytes.now));
  within = c.requires.1.size;
}
