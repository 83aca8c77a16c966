-- What the state of a link end says of its link.
use Rattle.std.specs.Prelude.{Bool, true, false}
use Rattle.tipc_types.specs.declared.link_words.LinkState.{LinkState}
use Rattle.tipc_types.specs.declared.link_words.LinkState.TheVariants.{WorkingWorking, WorkingUnknown}

-- whether a link in this state is up
abbrev pub is_up : LinkState → Bool
is_up WorkingWorking = true
is_up WorkingUnknown = true
is_up _ = false
