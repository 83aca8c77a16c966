use Rattle.std.proofs.Common.{◌≡◌, false, List, Option, subst, sym}
use Rattle.tipc_replay.specs.States.{has_member, MemberState, ReplayState}
use Rattle.tipc_replay.specs.Steady.{IsSteady}
use Rattle.tipc_replay.proofs.Answering.{joined_answered}
use Rattle.tipc_replay.proofs.Receiving.{joined_received}
use Rattle.tipc_replay.proofs.SoundWorlds.{joined_sound, none_there}
use Rattle.tipc_replay.proofs.casts.CastStarts.{joined_casting}
use Rattle.tipc_replay.proofs.casts.MetStarts.{joined_met}
use Rattle.tipc_replay.proofs.frames.AgedKept.{joined_aged}
use Rattle.tipc_replay.proofs.journals.KeptWorlds.{joined_watched}
use Rattle.tipc_replay.proofs.names.Sharing.{joined_shared}
use Rattle.tipc_replay.proofs.states.CastLinksKept.{joined_cast}
use Rattle.tipc_replay.proofs.states.EndsKept.{joined_bounded, joined_named, joined_numbers, joined_packed, joined_right}
use Rattle.tipc_replay.proofs.states.PlainKept.{joined_plain}
use Rattle.tipc_replay.proofs.replays.Replay.join.Goals as goal

pub invariant_of-self-2 : goal.invariant_of-self-2
invariant_of-self-2 c =
    let w = c.self.inside in
    let h = c.self.invariant in
    let j = c.in_ok-add_at.ensures.joins in
    let absent = none_there w.members.items c.args.n (subst (λ (r : ReplayState). has_member r.members c.args.n ≡ false) (sym c.self.view_is) c.requires.absent) in
    let few = c.ranges.boot.fits in
    let sound = joined_sound w.members.items _ w.air c.args.n c.args.boot c.requires.range c.requires.boot few absent h.sound j in
    let shared = joined_shared _ _ c.args.n c.args.boot j h.shared in
    record {
      sound = sound;
      watched = joined_watched _ _ w.air c.args.n c.args.boot j h.watched;
      shared = shared;
      answered = joined_answered _ _ w.air c.args.n c.args.boot sound shared j h.answered;
      received = joined_received _ _ w.air c.args.n c.args.boot j h.received;
      met = joined_met w.members.items _ w.air c.args.n c.args.boot c.requires.boot few absent j h.met;
      plain = joined_plain w.members.items _ c.args.n c.args.boot j h.plain;
      aged = joined_aged w.members.items _ w.air c.args.n c.args.boot c.requires.boot absent j h.aged;
      casts = joined_casting w.members.items _ w.air c.args.n c.args.boot c.requires.range c.requires.boot few absent j h.casts;
      cast_links = joined_cast w.members.items _ c.args.n c.args.boot j h.cast_links;
      ends = joined_right w.members.items _ c.args.n c.args.boot j h.ends;
      bounded = joined_bounded w.members.items _ c.args.n c.args.boot j h.bounded;
      numbers = joined_numbers w.members.items _ c.args.n c.args.boot j h.numbers;
      packed = joined_packed w.members.items _ c.args.n c.args.boot j h.packed;
      originals = joined_named w.members.items _ c.args.n c.args.boot j h.originals;
    }

pub invariant_of-self : goal.invariant_of-self
invariant_of-self c =
    let w = c.self.inside in
    subst (λ ms. IsSteady ms w.air) (sym {A = List (Option MemberState)} c.in_err-add_at.ensures.err) c.self.invariant
