-- What a peer was told makes it hold what a node has published.
use Rattle.std.specs.Prelude.{◌≡◌, ℕ, List, [], None}
use Rattle.tipc_types.specs.declared.message_forms.Message.{Message}
use Rattle.tipc_types.specs.declared.services.Publication.{Publication}
use Rattle.tipc_types.specs.Tables.{IsTable}
use Rattle.tipc_name_dist.specs.Agreeing.{Agrees}
use Rattle.tipc_name_dist.specs.Applying.{applied_each}

-- A peer that holds nothing of a node, and applies these messages of it, holds what the node has published. Each item fits.
pub record HasTold (own : ℕ) (published : List Publication) (messages : List Message) : Type 0 where
  pub fits : (applied_each own [] messages).bad ≡ None
  pub table : IsTable (applied_each own [] messages).table
  pub agrees : Agrees own published (applied_each own [] messages).table
