-- What holds of every link end, whatever is called.
use Rattle.std.specs.Prelude.{◌≡◌, ◌≤◌, ◌↔◌, true, false}
use Rattle.tipc_types.specs.LinkStates.{is_up}
use Rattle.tipc_types.specs.declared.link_words.LinkState.TheVariants.{WorkingUnknown}
use Rattle.tipc_link_fsm.specs.Table.{Fsm, is_last}

-- what each link end keeps
pub record IsSound (s : Fsm) : Type 0 where
  -- the silent count is at most 4, and 0 unless the end is up
  pub few : s.silent ≤ 4
  pub quiet : is_up s.state ≡ false → s.silent ≡ 0
  -- it is in WORKING_UNKNOWN exactly where its silent count is at least 2
  pub unknown : (s.state ≡ WorkingUnknown) ↔ (2 ≤ s.silent)
  -- an end that is up isn't at the last epoch of its boot
  pub going_on : is_up s.state ≡ true → is_last s.own ≡ false
