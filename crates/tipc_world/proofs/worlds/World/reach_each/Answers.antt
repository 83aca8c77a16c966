use Rattle.std.proofs.Common.{◌≡◌, ◌+◌, ◌*◌, true, false, subst, sym, arith}
use Rattle.std.specs.Prelude.{if◌then◌else◌}
use Rattle.std.proofs.lemmas.Result.{err_from_is_err_and}
use Rattle.tipc_world.specs.Courses.{numbers, Goes, begin, go_on}
use Rattle.tipc_world.specs.Settling.{arrival_asked}
use Rattle.tipc_world.proofs.Arrivals.{reaches}
use Rattle.tipc_world.proofs.CourseLaws.{counted_halts}
use Rattle.tipc_world.proofs.Continuing.{continues_same, continues_more}
use Rattle.tipc_world.proofs.worlds.World.reach_each.Goals.{then-branch, else-branch}
use Rattle.tipc_world.proofs.worlds.World.reach_each.Goals as goal

pub loop-node-init : goal.loop-node-init
loop-node-init g c =
    let start = c.args.self.now.state in
    record {
      goes = subst (λ k. Goes (arrival_asked c.args.among c.args.bearer) (numbers * c.args.place) start k 0 start) (omega arith) begin;
      few = omega arith;
      continues = continues_same c.args.self.now;
    }

pub returns-in_err-try_to_reach-clause-comes : goal.returns-in_err-try_to_reach-clause-comes
returns-in_err-try_to_reach-clause-comes g c =
    let l = c.loop-node in
    let p = err_from_is_err_and c.from_residual.result c.from_residual.ensures.1 in
    let below = c.loop-node-test.true in
    rw (p.1, p.2) (counted_halts (arrival_asked c.args.among c.args.bearer) (numbers * c.args.place) (numbers * (c.args.place + 1)) c.args.self.now.state (numbers * c.args.place + l.node) l.count l.self.state c.try_to_reach.new.self.state c.in_err-try_to_reach.field-0.0
    (omega (arith, below)) l.invariant.goes (reaches c.args.among c.args.bearer c.args.place l.node l.self.state _ c.try_to_reach.new.self.state (omega (arith, below)) c.in_err-try_to_reach.ensures.comes))

pub returns-in_err-try_to_reach-clause-continues : goal.returns-in_err-try_to_reach-clause-continues
returns-in_err-try_to_reach-clause-continues g c = continues_more c.args.self.now c.loop-node.self c.try_to_reach.new.self c.loop-node.invariant.continues c.try_to_reach.ensures.continues

pub loop-node-preserved : goal.loop-node-preserved
loop-node-preserved g c =
    let l = c.loop-node in
    let made = c.in_ok-try_to_reach.field-0 in
    let asks = arrival_asked c.args.among c.args.bearer in
    let first = numbers * c.args.place in
    let below = c.loop-node-test.true in
    let taken = reaches c.args.among c.args.bearer c.args.place l.node l.self.state _ c.try_to_reach.new.self.state (omega (arith, below)) c.in_ok-try_to_reach.ensures.comes in
    let counted : (if made then l.count + 1 else l.count) ≡ c.if-branch.count =
    elim c.if-branch.branch [ then-branch w ↦ let is : made ≡ true = w.if-branch.true in rw is (sym w.count-is) | else-branch w ↦ let is : made ≡ false = w.if-branch.false in rw is (sym w.count-is) ]
    in
    record {
      goes = subst (λ k. Goes asks first c.args.self.now.state (first + (l.node + 1)) k c.try_to_reach.new.self.state) counted
          (subst (λ n. Goes asks first c.args.self.now.state n (if made then l.count + 1 else l.count) c.try_to_reach.new.self.state) (omega arith) (go_on (first + l.node) l.count l.self.state made c.try_to_reach.new.self.state l.invariant.goes taken));
      few = elim c.if-branch.branch [ then-branch w ↦ omega (arith, w.count-is, l.invariant.few) | else-branch w ↦ omega (arith, w.count-is, l.invariant.few) ];
      continues = continues_more c.args.self.now l.self c.try_to_reach.new.self l.invariant.continues c.try_to_reach.ensures.continues;
    }
