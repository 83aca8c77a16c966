-- The arrival of a frame, put together from what its calls say.
use Rattle.std.proofs.Common.{◌≡◌, None, refl, ap, ◌∙◌, subst}
use Rattle.tipc_replay.specs.declared.events.WorldEvent.TheVariants.{Arrive}
use Rattle.tipc_replay.specs.Air.{met_sender}
use Rattle.tipc_replay.specs.Due.{unarrived}
use Rattle.tipc_replay.specs.Events.{DidAt}
use Rattle.tipc_replay.specs.Members.{sender_of}
use Rattle.tipc_replay.proofs.Happening.{arrival_of, happens_sender, senders_of, there_settled}
use Rattle.tipc_replay.proofs.pairs.Outward.{boxed_out}
use Rattle.tipc_replay.proofs.replays.arrive.Goals as goal

pub find-requires-clause-senders : goal.find-requires-clause-senders
find-requires-clause-senders c = senders_of c.args.members.now.items c.args.air.now c.requires.steady.sound c.args.bearer

pub emit-lost-requires : goal.emit-lost-requires
emit-lost-requires c =
    let ms = c.args.members.now.items in
    let f = c.in-Ok.sent.now in
    let found = c.in-Ok.ensures.found in
    let did = subst (λ bytes. DidAt ms c.arrive_at.new.members.items c.args.by (Arrive c.args.node c.args.bearer c.args.place) bytes c.new-out.result c.arrive_at.new.out c.in_ok-answer.answer) c.as_slice-frame.ensures c.in_ok-answer.ensures.did in
    let arrives = subst (λ old. unarrived old c.args.air.now c.args.node c.args.bearer c.args.place ≡ None) c.deref.ensures.value found.1 in
    record {
      number = there_settled ms c.args.node c.requires.settled c.requires.there;
      outward = boxed_out ms _ c.args.air.now _ (Arrive c.args.node c.args.bearer c.args.place) f.frame _ _ _ c.requires.steady (λ m was. (f, found.0, arrives, refl)) c.new-out.ensures did;
    }

pub returns-clause-arrives : goal.returns-clause-arrives
returns-clause-arrives c =
    let f = c.in-Ok.sent.now in
    let found = c.in-Ok.ensures.found in
    let did = subst (λ bytes. DidAt c.args.members.now.items c.arrive_at.new.members.items c.args.by (Arrive c.args.node c.args.bearer c.args.place) bytes c.new-out.result c.arrive_at.new.out c.in_ok-answer.answer) c.as_slice-frame.ensures c.in_ok-answer.ensures.did in
    let arrives = subst (λ ms. unarrived ms c.args.air.now c.args.node c.args.bearer c.args.place ≡ None) c.deref.ensures.value found.1 in
    let met_is = c.met_sender-met.ensures ∙ ap (λ bytes. met_sender c.deref-2.result.now c.args.node (sender_of bytes)) c.as_slice-frame.ensures in
    arrival_of _ _ _ _ _ _ _ _ f _ _ found.0 arrives
    (happens_sender _ _ _ _ _ _ _ _ _ _ _ _ _ _ _ _ c.requires.steady.sound c.deref-2.ensures.value met_is c.deref-3.ensures.value c.new-out.ensures did c.emit-lost.ensures)
