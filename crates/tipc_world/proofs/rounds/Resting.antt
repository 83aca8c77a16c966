-- A call of enough rounds leaves a poised world at rest.
use Rattle.std.specs.Prelude.{IfOk}
use Rattle.std.proofs.Common.{◌≤◌, ◌+◌, ◌*◌, ◌∙◌, ℕ, Result, Ok, Err}
use Rattle.tipc_world.specs.declared.faults.WorldFault.{WorldFault}
use Rattle.tipc_world.specs.declared.settling.Settled.{Settled}
use Rattle.tipc_world.specs.Poised.{ComesToRest, IsPoised, load_under_way}
use Rattle.tipc_world.specs.RoundParts.{IsKept}
use Rattle.tipc_world.specs.Settling.{Settles}
use Rattle.tipc_world.specs.States.{WorldState}
use Rattle.tipc_world.proofs.rounds.CastFalling.{cast_waits, four_rounds_bring_less_cast}
use Rattle.tipc_world.proofs.rounds.Delivered.{quiet_is_delivered}
use Rattle.tipc_world.proofs.rounds.Emptying.{CastsFall, call_empties}
use Rattle.tipc_world.proofs.rounds.HeardWorlds.{call_stays_calm}
use Rattle.tipc_world.proofs.rounds.Loads.{none_is_quiet}
use Rattle.tipc_world.proofs.rounds.Windows.{more_whole}

-- where packets of a broadcast are under way, four rounds leave less
casts_fall : (start : WorldState) → IsKept start → IsPoised start → CastsFall start
casts_fall start kept poised done places outset ends now a m front rest whole there some =
    let calm = (call_stays_calm start done places outset kept poised front (more_whole done places outset (done + 4) ends now rest whole)).calm in
    four_rounds_bring_less_cast start done places outset ends now a kept poised front rest whole (m, there, cast_waits outset a m (calm.on.kept kept) there some)

pub settled_rests : (rounds : ℕ) (start : WorldState) (answered : Result Settled WorldFault) (now : WorldState) → IsKept start → Settles rounds start answered now
    → IfOk answered (λ settled. IsPoised start → 16 + 16 * load_under_way start ≤ rounds → ComesToRest settled now)
settled_rests rounds start (Ok settled) now kept h = λ poised many. (
    let stands = call_stays_calm start rounds h.0.0 now kept poised h.0.1 h.1 in
    let none = call_empties start rounds h.0.0 now kept poised (casts_fall start kept poised) h.0.1 h.1 many in
    record { quiet = h.2 ∙ none_is_quiet now none; delivered = quiet_is_delivered now (stands.calm.on.kept kept) none })
settled_rests rounds start (Err stop) now kept h = tt
