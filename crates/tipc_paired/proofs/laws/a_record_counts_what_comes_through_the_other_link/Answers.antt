use Rattle.tipc_paired.proofs.Facts.{begun_named, names_count, same_records, tunnels_count}
use Rattle.tipc_paired.proofs.laws.a_record_counts_what_comes_through_the_other_link.Goals as goal

pub returns-clause-named : goal.returns-clause-named
returns-clause-named c = begun_named

pub returns-clause-names : goal.returns-clause-names
returns-clause-names c = names_count

pub returns-clause-tunnels : goal.returns-clause-tunnels
returns-clause-tunnels c = tunnels_count

pub returns-clause-same : goal.returns-clause-same
returns-clause-same c = same_records
