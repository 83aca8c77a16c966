use Rattle.std.proofs.Common.{refl, subst, sym, ◌||◌}
use Rattle.tipc_replay.specs.Calls.{CanHappenAt, HasNextBoot}
use Rattle.tipc_replay.specs.States.{ReplayState}
use Rattle.tipc_replay.specs.Steady.{IsSteady}
use Rattle.tipc_replay.specs.Steps.{stage, IsReplayStep, Stage}
use Rattle.tipc_replay.proofs.Answering.{becomes_answered}
use Rattle.tipc_replay.proofs.Happening.{settled_of}
use Rattle.tipc_replay.proofs.Receiving.{becomes_received}
use Rattle.tipc_replay.proofs.SoundWorlds.{becomes_sound}
use Rattle.tipc_replay.proofs.casts.Casts.{becomes_casting}
use Rattle.tipc_replay.proofs.casts.Meeting.{becomes_met}
use Rattle.tipc_replay.proofs.frames.AgedKept.{becomes_aged}
use Rattle.tipc_replay.proofs.journals.KeptWorlds.{becomes_watched}
use Rattle.tipc_replay.proofs.names.Sharing.{becomes_shared}
use Rattle.tipc_replay.proofs.states.CastLinksKept.{becomes_cast}
use Rattle.tipc_replay.proofs.states.EndsKept.{becomes_bounded, becomes_named, becomes_numbers, becomes_packed, becomes_right}
use Rattle.tipc_replay.proofs.states.PlainKept.{becomes_plain}
use Rattle.tipc_replay.proofs.replays.Replay.happen.Goals as goal

pub happen-requires-clause-settled : goal.happen-requires-clause-settled
happen-requires-clause-settled g c = settled_of _ _ c.self.invariant.sound

pub invariant_of-self-2 : goal.invariant_of-self-2
invariant_of-self-2 g c =
    let w = c.self.inside in
    let h = c.self.invariant in
    let old : Stage = stage w.members.items w.air in
    let new : Stage = stage c.happen.new.members.items c.happen.new.air in
    let can = subst (λ (r : ReplayState). CanHappenAt r.members c.args.event) (sym c.self.view_is) c.requires.can in
    let next = subst (λ (r : ReplayState). HasNextBoot r.members c.args.event) (sym c.self.view_is) c.requires.next in
    let becomes = c.in_ok-happened.ensures.becomes in
    let sound = becomes_sound old new c.args.by c.args.event _ _ h next becomes in
    let met = becomes_met old new c.args.by c.args.event _ _ h.sound sound next becomes h.met in
    let shared = becomes_shared old new c.args.by c.args.event _ _ h.sound h.shared becomes in
    record {
      sound = sound;
      watched = becomes_watched old new c.args.by c.args.event _ _ h next becomes;
      shared = shared;
      answered = becomes_answered old new c.args.by c.args.event _ _ sound shared h.answered becomes;
      received = becomes_received old new c.args.by c.args.event _ _ h.received becomes;
      met = met;
      plain = becomes_plain old new c.args.by c.args.event _ _ becomes h.plain;
      aged = becomes_aged old new c.args.by c.args.event _ _ h.sound sound becomes h.aged;
      casts = becomes_casting old new c.args.by c.args.event _ _ h.sound h.met h.plain h.aged next becomes h.casts;
      cast_links = becomes_cast old new c.args.by c.args.event _ _ can becomes h.cast_links;
      ends = becomes_right old new c.args.by c.args.event _ _ can becomes h.ends;
      bounded = becomes_bounded old new c.args.by c.args.event _ _ becomes h.bounded;
      numbers = becomes_numbers old new c.args.by c.args.event _ _ becomes h.numbers;
      packed = becomes_packed old new c.args.by c.args.event _ _ becomes h.packed;
      originals = becomes_named old new c.args.by c.args.event _ _ becomes h.numbers h.originals;
    }

pub invariant_of-self : goal.invariant_of-self
invariant_of-self g c =
    let w = c.self.inside in
    let same = c.in_err-happened.ensures.err in
    subst (λ ms. IsSteady ms c.happen.new.air) (sym same.0) (subst (λ air. IsSteady w.members.items air) (sym same.1) c.self.invariant)

pub returns-clause-happened : goal.returns-clause-happened
returns-clause-happened g c =
    let w = c.self.inside in
    let h = c.in_ok-happened.happened in
    let new : ReplayState = record { members = c.happen.new.members.items; air = c.happen.new.air; lost = w.lost || h.lost } in
    subst (λ (r : ReplayState). IsReplayStep r c.args.by c.args.event new h.answer) c.self.view_is (record { lost = h.lost; becomes = c.in_ok-happened.ensures.becomes; lost_is = refl })
