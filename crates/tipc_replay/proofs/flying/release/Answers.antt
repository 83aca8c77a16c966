-- The loop that brings frames into the air.
use Rattle.std.proofs.lemmas.List.Elements.{All-same}
use Rattle.tipc_replay.specs.Air.{IsOut}
use Rattle.tipc_replay.proofs.frames.Released.{releasing-start, releasing-step}
use Rattle.tipc_replay.proofs.flying.release.Goals as goal

pub loop-outgoing-init : goal.loop-outgoing-init
loop-outgoing-init c =
    let are = c.from_vec-waiting.ensures.items in
    releasing-start _ _ _ _ _ _ are (All-same (IsOut c.args.a) _ _ are c.requires.outward)

pub loop-outgoing-preserved : goal.loop-outgoing-preserved
loop-outgoing-preserved c = releasing-step _ _ _ _ _ _ _ _ _ c.in-Some.outgoing c.loop-outgoing.invariant c.in-Some.ensures.items c.in-Ok.ensures.came
