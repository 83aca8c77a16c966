use Rattle.std.proofs.Common.{◌-◌, ◌≡◌, ◌∙◌, ◌++◌, ◌∷◌, [], None, if◌then◌else◌, ap, length, sym, subst, arith}
use Rattle.std.specs.Prelude.{slice_index_or}
use Rattle.tipc_types.specs.Address.{node_word}
use Rattle.tipc_types.specs.declared.identity.To.TheVariants as to
use Rattle.tipc_types.specs.declared.node_calls.Answer.TheVariants as answer
use Rattle.tipc_types.specs.declared.node_calls.Arrival.TheVariants as arrival
use Rattle.tipc_types.specs.declared.node_calls.EventNote.TheVariants.{Arrive}
use Rattle.tipc_outside.specs.Frames.{AddsFirst}
use Rattle.tipc_header.specs.declared.packet.DiscoveryType.TheVariants.{Response}
use Rattle.tipc_journal.specs.Steps.{step_entries}
use Rattle.tipc_discovery.specs.Finding.{after_hearing}
use Rattle.tipc_discovery.specs.Hearing.{heard_on}
use Rattle.tipc_node.specs.contracts.cores.Core.{the_view}
use Rattle.tipc_node.specs.Drafts.{DraftState}
use Rattle.tipc_node.specs.Discovery.{AreFound, discovery_frame, is_request}
use Rattle.tipc_node.specs.Hearings.{FindsAt, FindsDue}
use Rattle.tipc_node.specs.Nodes.{NodeState, step_of}
use Rattle.tipc_node.proofs.work.Drafting.{core_of}
use Rattle.tipc_node.proofs.work.Discovery.{HasHeardOf, discovered_left, discovered_recorded, finds_due, found_shown, new_none}
use Rattle.tipc_node.proofs.cores.Core.find.Goals as goal

pub welcome-requires-clause-alone : goal.welcome-requires-clause-alone
welcome-requires-clause-alone c =
    let n = the_view c.self.inside in
    let d = c.args.due.now in
    let due = subst (λ (k : NodeState). FindsAt k d) (sym c.self.view_is) c.requires.due in
    let are = subst AreFound (sym c.self.view_is) c.requires.found in
    let shown = found_shown n c.in_ok-found.found d.packet.previous d.peer d.bearer d.packet.header c.self.invariant.4 due.3 (due.0, due.1) due.4 due.5 c.in_ok-found.ensures.found in
    λ new. new_none n d.peer d.bearer c.in_ok-found.found are due.2 shown new

pub invariant_of-self-2 : goal.invariant_of-self-2
invariant_of-self-2 c =
    let i = c.self.invariant in
    let set = c.welcome.ensures.after in (
      record {
        inside = ap (λ (z : DraftState). z.work.inside) set ∙ i.0.inside;
        copies = λ k. ap (λ (z : DraftState). slice_index_or z.copies k None) set ∙ i.0.copies k;
        out = ap (λ (z : DraftState). z.out) set ∙ i.0.out;
      },
      i.1,
      ap (λ (z : DraftState). z.work.sockets.own) set ∙ i.2,
      ap (λ (z : DraftState). z.work.sockets.ports.boot) set ∙ i.3,
      c.heard.ensures.own ∙ i.4,
      i.5,
      i.6,
    )

pub returns-clause-found : goal.returns-clause-found
returns-clause-found c =
    let w = c.self.inside in
    let n = the_view w in
    let d = c.args.due.now in
    let f = c.in_ok-found.found in
    let now = c.heard.new.self in
    let journal = c.record.new.journal.entries in
    let due = subst (λ (k : NodeState). FindsAt k d) (sym c.self.view_is) c.requires.due in
    let shown = found_shown n f d.packet.previous d.peer d.bearer d.packet.header c.self.invariant.4 due.3 (due.0, due.1) due.4 due.5 c.in_ok-found.ensures.found in
    let heard : HasHeardOf n d.peer d.bearer f now = record {
      one = due.2;
      is = shown;
      own = c.heard.ensures.own;
      here = c.in_ok-found.ensures.here ∙ ap (λ word. after_hearing f word (heard_on d.bearer n.found)) due.3;
      there = c.heard.ensures.there;
    } in
    let wide : length n.neighbours ≡ 33 = ap (λ (k : NodeState). length k.neighbours) c.self.view_is ∙ c.sound.ensures.wide in
    let most = due.1 in
    let told : journal ≡ n.journal ++ step_entries (step_of c.args.by (Arrive d.bearer c.args.number) [] (answer.Arrived (arrival.Took 0))) =
    c.record.ensures.journal ∙ ap (λ front. front ++ step_entries (step_of c.args.by (Arrive d.bearer c.args.number) c.new.result.items (answer.Arrived (arrival.Took 0)))) c.begin.ensures.journal
    ∙ ap (λ inside. n.journal ++ step_entries (step_of c.args.by (Arrive d.bearer c.args.number) inside (answer.Arrived (arrival.Took 0)))) c.new.ensures.items in
    let used = c.record.ensures.kept ∙ ap (λ k. k - 1) c.begin.ensures.kept in
    let promised = c.record.new.journal.kept in
    let last = core_of w.own.word w.boot w.mended now w.ticks w.broadcast c.welcome.new.draft journal promised in
    let after =
    ap (λ z. core_of w.own.word w.boot w.mended now w.ticks w.broadcast z journal promised) c.welcome.ensures.after
    ∙ discovered_recorded n c.args.by c.args.number d.peer d.bearer f now journal promised heard told used in
    let responded = subst (λ own. AddsFirst c.new-event.result c.respond.new.event
    (if is_request d.packet.header then record { bearer = d.bearer; to = to.Node (record { word = node_word d.peer }); frame = discovery_frame own w.boot Response } ∷ [] else []))
    (c.heard.ensures.own ∙ c.self.invariant.4) c.respond.ensures in
    let left = discovered_left n d.peer d.bearer f d.packet.header c.new-event.result c.respond.new.event c.welcome.new.event c.args.out.now c.append.new.self shown c.new-event.ensures responded c.welcome.ensures.frames c.append.ensures in
    subst (λ k. FindsDue k last c.args.by c.args.number d c.args.out.now c.append.new.self (arrival.Took 0)) c.self.view_is
    (finds_due n last c.args.by c.args.number d c.args.out.now c.append.new.self (omega (arith, wide, most)) after left)
