use Rattle.tipc_dissect.proofs.table.put_addressing.Goals as goal

pub returns-in-Multicast : goal.returns-in-Multicast
returns-in-Multicast c = rw c.in-Multicast.is c.put_fields-in-Multicast.ensures

pub returns-in-Named : goal.returns-in-Named
returns-in-Named c = rw c.in-Named.is c.put_fields-in-Named.ensures
