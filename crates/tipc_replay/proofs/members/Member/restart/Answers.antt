use Rattle.std.proofs.Common.{◌≡◌, ◌<◌, ◌+◌, ◌++◌, ◌∷◌, ◌∙◌, ℕ, [], None, map, ap, refl, sym, subst}
use Rattle.std.specs.Prelude.{nat_eq}
use Rattle.std.proofs.lemmas.List.{map-append}
use Rattle.indexmap.specs.IndexMap.{insert_entry}
use Rattle.tipc_broadcast.specs.Casting.{booted}
use Rattle.tipc_sockets.specs.SocketTables.{no_sockets}
use Rattle.tipc_node.specs.Discovery.{nobody_heard}
use Rattle.tipc_node.specs.Nodes.{neighbour_of}
use Rattle.tipc_replay.specs.Members.{IsFresh, IsRestarted}
use Rattle.tipc_replay.specs.States.{MemberState}
use Rattle.tipc_replay.proofs.calls.Outcomes.{restarted_as}
use Rattle.tipc_replay.proofs.members.Member.restart.Goals as goal

pub returns-clause-ok : goal.returns-clause-ok
returns-clause-ok c =
    let w = c.self.inside in
    let m : MemberState = record { node = w.node; past = map (λ j. j.entries) w.past.items; calls = w.calls; arrivals = w.arrivals.items; counts = w.counts.entries; casts = w.casts.entries } in
    let fresh : IsFresh c.replace-last.new.dest m.node.own (m.node.boot + 1) = subst (λ n. IsFresh n m.node.own (m.node.boot + 1)) (sym c.replace-last.ensures.after) (record {
      own_is = c.in_ok-next.ensures.own.0 ∙ c.own.ensures;
      boot_is = c.in_ok-next.ensures.own.1 ∙ ap (λ b. b + 1) c.boot.ensures;
      cut = c.in_ok-next.ensures.own.2;
      unheard = c.in_ok-next.ensures.unheard ∙ ap nobody_heard c.own.ensures;
      unticked = c.in_ok-next.ensures.ticks;
      alone = c.in_ok-next.ensures.alone;
      casting = c.in_ok-next.ensures.casting ∙ ap (λ own. booted own (c.boot.result + 1)) c.own.ensures ∙ ap (λ b. booted m.node.own (b + 1)) c.boot.ensures;
      sockets = c.in_ok-next.ensures.empty.0 ∙ ap (λ own. no_sockets own (c.boot.result + 1)) c.own.ensures ∙ ap (λ b. no_sockets m.node.own (b + 1)) c.boot.ensures;
      no_history = c.in_ok-next.ensures.empty.1;
      told = c.in_ok-next.ensures.told;
      shares = c.in_ok-next.ensures.shares;
      bounded = c.in_ok-next.ensures.bounded;
    }) in
    let past : map (λ j. j.entries) c.push_reserved.new.self.items ≡ m.past ++ m.node.journal ∷ [] =
    ap (map (λ j. j.entries)) (c.push_reserved.ensures.items ∙ ap (λ js. js ++ c.into_journal.result ∷ []) c.in_ok-reserve.ensures.items) ∙ map-append (λ j. j.entries) w.past.items (c.into_journal.result ∷ [])
    ∙ ap (λ es. m.past ++ es ∷ []) (c.into_journal.ensures ∙ ap (λ n. n.journal) c.replace-last.ensures.value) in
    let few : (peer : ℕ) → 32 < peer → neighbour_of m.node peer ≡ None = subst (λ (n : MemberState). (peer : ℕ) → 32 < peer → neighbour_of n.node peer ≡ None) (sym c.self.view_is) c.requires.settled.1.known in
    let used : c.note_casts.new.casts.entries ≡ insert_entry nat_eq m.casts m.node.boot m.node.casting.sending.numbered =
    c.note_casts.ensures ∙ ap (λ es. insert_entry nat_eq es m.node.boot m.node.casting.sending.numbered) c.in_ok-reserve-3.ensures.entries in
    let done = restarted_as m c.replace-last.new.dest _ _ c.note_all.new.counts.entries c.note_casts.new.casts.entries fresh past c.in_ok-reserve-2.ensures.entries c.note_all.ensures few used in
    (subst (λ (n : MemberState). IsRestarted n (record { node = c.replace-last.new.dest; past = map (λ j. j.entries) c.push_reserved.new.self.items; calls = 0; arrivals = w.arrivals.items; counts = c.note_all.new.counts.entries; casts = c.note_casts.new.casts.entries })) c.self.view_is done, refl)
