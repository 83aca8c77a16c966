-- A call of 200 rounds acknowledges every packet that was numbered before, and brings no more under way.
use Rattle.std.specs.Prelude.{if◌then◌else◌, OnOk}
use Rattle.std.proofs.Common.{◌≡◌, ◌≤◌, ◌∙◌, ℕ, true, false, None, Some, Result, Ok, Err, slice_index_or, sym, ap, subst, arith}
use Rattle.tipc_types.specs.LinkStates.{is_up}
use Rattle.tipc_send_window.specs.Sending.{acked_of}
use Rattle.tipc_link.specs.Links.{LinkEnd}
use Rattle.tipc_link.specs.Sessions.{SessionEnd}
use Rattle.tipc_settling.specs.Goings.{up_session}
use Rattle.tipc_settling.specs.Repairs.{session_with}
use Rattle.tipc_replay.specs.Numbers.{end_on}
use Rattle.tipc_replay.specs.States.{MemberState, link_at, pair_at}
use Rattle.tipc_replay.proofs.calls.Calls.{the_some}
use Rattle.tipc_world.specs.declared.faults.WorldFault.{WorldFault}
use Rattle.tipc_world.specs.declared.places.Places.{Places}
use Rattle.tipc_world.specs.declared.settling.Settled.{Settled}
use Rattle.tipc_world.specs.Acknowledged.{AllCastsAreReleased, AllIsAcknowledged, IsAcknowledged}
use Rattle.tipc_world.specs.CalmWorlds.{IsCalmWorld}
use Rattle.tipc_world.specs.CastRows.{IsCastReleased}
use Rattle.tipc_world.specs.Directions.{IsReleased, StandsIn, WasNumbered}
use Rattle.tipc_world.specs.Ends.{ends_of}
use Rattle.tipc_world.specs.Measures.{NoMoreIsUnderWay}
use Rattle.tipc_world.specs.Poised.{IsPoised}
use Rattle.tipc_world.specs.RoundParts.{IsKept, MoreRounds, none_more, one_more}
use Rattle.tipc_world.specs.Rows.{WasUp}
use Rattle.tipc_world.specs.Settling.{Rounds, Settles, begin, go_on}
use Rattle.tipc_world.specs.States.{WorldState}
use Rattle.tipc_world.specs.StillWorlds.{footing_at}
use Rattle.tipc_world.proofs.casts.Releasing.{cast_windows_are_released, many_through as casts_through}
use Rattle.tipc_world.proofs.casts.Standing.{released_on as cast_stays_released}
use Rattle.tipc_world.proofs.rounds.Beginning.{end_two, node_there, peer_there}
use Rattle.tipc_world.proofs.rounds.CalmWorlds.{call_begins_calm, up_seen}
use Rattle.tipc_world.proofs.rounds.HeardWorlds.{call_stays_calm}
use Rattle.tipc_world.proofs.rounds.Measuring.{never_grows}
use Rattle.tipc_world.proofs.rounds.Pacing.{same_session}
use Rattle.tipc_world.proofs.rounds.PoisedAgain.{end_is, link_seen, number_there}
use Rattle.tipc_world.proofs.rounds.Releasing.{rounds_join}
use Rattle.tipc_world.proofs.rounds.Rows.{released_on}
use Rattle.tipc_world.proofs.rounds.UpLinks.{UpSide, session_near, up_side}
use Rattle.tipc_world.proofs.rounds.Windows.{many_through, more_whole, parts_behind, windows_are_released}

-- ---- the rounds of a call

-- they are rounds behind its begin
pub from_begin : (start : WorldState) (rounds : ℕ) (places : Places) (now : WorldState) → Rounds start rounds places now → MoreRounds 0 (ends_of start.air) start rounds places now
from_begin start _ _ _ begin = none_more
from_begin start _ _ _ (go_on done places before ends now made round) = one_more done places before ends now (from_begin start done places before made) round

-- 200 of them release what was numbered before
call_releases : (start : WorldState) (rounds : ℕ) (places : Places) (now : WorldState) (a b bearer position : ℕ) → IsKept start → IsPoised start → Rounds start rounds places now → now.lost ≡ false → 200 ≤ rounds → WasUp start a b bearer
    → StandsIn start (WasNumbered position) a b bearer → StandsIn now (IsReleased position) a b bearer
call_releases start rounds places now a b bearer position kept poised made whole many u numbered =
    let first = ends_of start.air in
    let p = parts_behind 0 first start 200 rounds places now (omega arith) many (from_begin start rounds places now made) in
    let clear = more_whole 200 p.middle p.between rounds places now p.rest whole in
    let released = windows_are_released start 0 first start p.middle p.between a b bearer position kept poised begin p.front clear u numbered in
    many_through start 200 p.middle p.between rounds places now a b bearer (IsReleased position) (released_on position) kept poised (rounds_join start 0 first start 200 p.middle p.between begin p.front) p.rest whole u released

-- ---- a link end that was up

was_up : (w : WorldState) (a b bearer : ℕ) (e : LinkEnd) → IsKept w → link_at w.members a b bearer ≡ Some e → is_up e.fsm.state ≡ true → WasUp w a b bearer
was_up w a b bearer e kept is up =
    let on_one = end_two bearer (pair_at w.members a b) e is in
    record {
      here = number_there w a kept (node_there w a b bearer e is);
      there = number_there w b kept (peer_there w a b bearer e kept is);
      apart = λ same. absurd (let wrong : None ≡ Some e = sym (ap (end_on bearer) (kept.nodes.sound.apart a)) ∙ (ap (λ k. link_at w.members a k bearer) same ∙ is) in cc);
      on_one = on_one;
      up = up_seen w a b bearer e on_one is up;
    }

-- the session of a node's link is that of its link end
session_of : (w : WorldState) (a b bearer : ℕ) (m : MemberState) (e : LinkEnd) (s : SessionEnd) → IsKept w → bearer ≤ 1 → slice_index_or w.members a None ≡ Some m → link_at w.members a b bearer ≡ Some e → is_up e.fsm.state ≡ true → e.session ≡ Some s
    → session_with m.node b bearer ≡ Some s
session_of w a b bearer m e s kept on_one there is up has =
    session_near m.node b bearer ∙ (ap up_session (end_is w a b bearer m kept on_one there ∙ is) ∙ (ap (λ t. if t then e.session else None) up ∙ has))

-- a node's side of a link that was up when the call began
side_of : (start w : WorldState) (a b bearer : ℕ) (m : MemberState) → IsKept start → IsCalmWorld start w → WasUp start a b bearer → slice_index_or w.members a None ≡ Some m → UpSide start w a b bearer m
side_of start w a b bearer m kept calm u there = up_side start w a b bearer m (calm.on.kept kept) u.there u.apart u.on_one there (calm.nodes a m there b u.there u.apart) u.up

-- its session is under the epoch of the begin
side_epoch : (start w : WorldState) (a b bearer : ℕ) (m : MemberState) (s : SessionEnd) → UpSide start w a b bearer m → session_with m.node b bearer ≡ Some s → s.epoch ≡ (footing_at start a b).epoch bearer
side_epoch start w a b bearer m s side is = sym (ap (λ (q : SessionEnd). q.epoch) (same_session (session_with m.node b bearer) side.session s side.in_session is)) ∙ side.epoch

acknowledged_then : (start now : WorldState) (a b bearer epoch position : ℕ) → IsKept start → IsCalmWorld start now → WasUp start a b bearer → epoch ≡ (footing_at start a b).epoch bearer → StandsIn now (IsReleased position) a b bearer
    → IsAcknowledged now.members a b bearer epoch position
acknowledged_then start now a b bearer epoch position kept calm u epoch_is (m, there, (s, is, released)) =
    let side = side_of start now a b bearer m kept calm u there in
    let same = same_session (session_with m.node b bearer) side.session s side.in_session is in
    record {
      end = side.link.end;
      there = sym (link_seen now a b bearer) ∙ side.end_is;
      up = side.link.up;
      session = side.session;
      has = side.has;
      same = side.epoch ∙ sym epoch_is;
      so_far = subst (λ (q : SessionEnd). position ≤ acked_of q.sending) (sym same) released;
    }

-- ---- a call

pub call_acknowledges : (start : WorldState) (rounds : ℕ) (places : Places) (now : WorldState) → IsKept start → IsPoised start → Rounds start rounds places now → now.lost ≡ false → 200 ≤ rounds → AllIsAcknowledged start now
call_acknowledges start rounds places now kept poised made whole many a b bearer e s is up has =
    let u = was_up start a b bearer e kept is up in
    let calm = (call_stays_calm start rounds places now kept poised made whole).calm in
    let m = the_some (slice_index_or start.members a None) (node_there start a b bearer e is) in
    let in_session = session_of start a b bearer m.0 e s kept u.on_one m.1 is up has in
    let epoch = side_epoch start start a b bearer m.0 s (side_of start start a b bearer m.0 kept (call_begins_calm start kept poised calm.on.whole) u m.1) in_session in
    acknowledged_then start now a b bearer s.epoch s.sending.numbered kept calm u epoch
    (call_releases start rounds places now a b bearer s.sending.numbered kept poised made whole many u (m.0, m.1, (s, in_session, omega arith)))

pub settled_acknowledges : (rounds : ℕ) (start : WorldState) (answered : Result Settled WorldFault) (now : WorldState) → IsKept start → Settles rounds start answered now → OnOk answered (IsPoised start → 200 ≤ rounds → AllIsAcknowledged start now)
settled_acknowledges rounds start (Ok settled) now kept h = λ poised many. call_acknowledges start rounds h.0.0 now kept poised h.0.1 h.1 many
settled_acknowledges rounds start (Err stop) now kept h = tt

-- so it is with broadcast packets
call_releases_casts : (start : WorldState) (rounds : ℕ) (places : Places) (now : WorldState) → IsKept start → IsPoised start → Rounds start rounds places now → now.lost ≡ false → 200 ≤ rounds → AllCastsAreReleased start now
call_releases_casts start rounds places now kept poised made whole many a m there =
    let position = m.node.casting.sending.numbered in
    let first = ends_of start.air in
    let p = parts_behind 0 first start 200 rounds places now (omega arith) many (from_begin start rounds places now made) in
    let clear = more_whole 200 p.middle p.between rounds places now p.rest whole in
    let released = cast_windows_are_released start 0 first start p.middle p.between a position kept poised begin p.front clear (m, there, omega arith) in
    casts_through start 200 p.middle p.between rounds places now a (IsCastReleased position) (cast_stays_released position) kept poised (rounds_join start 0 first start 200 p.middle p.between begin p.front) p.rest whole released

pub settled_releases_casts : (rounds : ℕ) (start : WorldState) (answered : Result Settled WorldFault) (now : WorldState) → IsKept start → Settles rounds start answered now → OnOk answered (IsPoised start → 200 ≤ rounds → AllCastsAreReleased start now)
settled_releases_casts rounds start (Ok settled) now kept h = λ poised many. call_releases_casts start rounds h.0.0 now kept poised h.0.1 h.1 many
settled_releases_casts rounds start (Err stop) now kept h = tt

pub settled_grows_no_more : (rounds : ℕ) (start : WorldState) (answered : Result Settled WorldFault) (now : WorldState) → IsKept start → Settles rounds start answered now → OnOk answered (IsPoised start → NoMoreIsUnderWay start now)
settled_grows_no_more rounds start (Ok settled) now kept h = λ poised. never_grows start rounds h.0.0 now kept poised h.0.1 h.1
settled_grows_no_more rounds start (Err stop) now kept h = tt
