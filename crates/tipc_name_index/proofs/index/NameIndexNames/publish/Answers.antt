use Rattle.std.proofs.Common.{◌≡◌, ◌<◌, false, sym, rules}
use Rattle.std.proofs.Math.Path.{subst₃}
use Rattle.std.specs.Prelude.{count_by}
use Rattle.std.specs.List.{list_any}
use Rattle.tipc_types.specs.Tables.{is_named, is_of}
use Rattle.tipc_name_index.specs.Ranges.{IsIndex}
use Rattle.tipc_name_index.proofs.Indexed.{index_put}
use Rattle.tipc_name_index.proofs.index.NameIndexNames.publish.Goals as goal

pub invariant_of-self : goal.invariant_of-self
invariant_of-self c =
    let same = c.in_err-put_each.ensures.err in
    subst₃ IsIndex (sym same.1) (sym same.2) (sym same.3) c.self.invariant

pub invariant_of-self-2 : goal.invariant_of-self-2
invariant_of-self-2 c =
    let p = c.args.p in
    let held = c.self.inside.held.items in
    let unheld : list_any (is_named p.at.node.word p.key) held ≡ false = search rules in
    let room : count_by (is_of p.at.node.word) held < 1024 = search rules in
    subst₃ IsIndex (sym c.in_ok-put_each.ensures.held) (sym c.in_ok-put_each.ensures.ranges) (sym c.in_ok-put_each.ensures.names)
    (index_put p held c.self.inside.ranges.items c.self.inside.named.items c.self.invariant c.requires unheld room)

pub returns-clause-sound : goal.returns-clause-sound
returns-clause-sound c = (invariant_of-self-2 c).table
