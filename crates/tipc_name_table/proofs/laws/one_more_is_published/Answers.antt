use Rattle.tipc_types.proofs.Places.{filter-put}
use Rattle.tipc_name_table.proofs.TableLaws.{put_held, put_itself, put_others}
use Rattle.tipc_name_table.proofs.laws.one_more_is_published.Goals as goal

pub returns : goal.returns
returns c = record { looked_up = filter-put; held = put_held; itself = put_itself; others = put_others }
