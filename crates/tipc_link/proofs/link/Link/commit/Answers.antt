use Rattle.std.proofs.Common.{◌≡◌, true, false, option_map, sym, ◌∙◌, subst}
use Rattle.tipc_header.specs.Spelling.{view}
use Rattle.tipc_outside.specs.Frames.{Gains, Out}
use Rattle.tipc_link_fsm.specs.Table.{Outcome}
use Rattle.tipc_link.specs.Records.{early_of}
use Rattle.tipc_link.specs.Sessions.{content_of}
use Rattle.tipc_link.specs.Links.{LinkEnd, heard_by, is_heard, link_frames}
use Rattle.tipc_link.specs.Hearings.{ArrivingState}
use Rattle.tipc_link.proofs.Arrivals.{heard_gains, unheard_gains}
use Rattle.tipc_link.proofs.link.Link.commit.Goals as goal
use Rattle.tipc_link.proofs.link.Link.commit.Goals.{then-is_heard, else-is_heard}

pub returns-clause-frames : goal.returns-clause-frames
returns-clause-frames c =
    let i = c.self.inside in
    let e : LinkEnd = record { own = i.own.word; peer = i.peer.word; bearer = i.bearer; mended = i.mended; fsm = i.fsm; contact = i.contact; peer_contact = i.peer_contact; session = i.session; early = option_map early_of i.early } in
    let o : Outcome = record { after = c.arriving.inside.fsm; change = c.arriving.inside.change } in
    let a : ArrivingState = record { states = o; hearing = c.arriving.inside.hearing } in
    let p = view c.args.packet.now in
    let by = c.arriving.inside.hearing.by in
    let shown = c.args.shown in
    let told : Gains c.args.out.now c.if-is_heard.out (link_frames e o p by shown) = elim c.if-is_heard.branch [
      | then-is_heard w ↦
          let heard : is_heard p.header o.change ≡ true = sym c.is_heard.ensures.value ∙ w.if-is_heard.true in
          let more = subst (λ (l : LinkEnd). Gains c.follow.new.out w.hear-outcome.new.out (heard_by l.session by p.acknowledgement (content_of p))) c.follow.ensures.after w.hear-outcome.ensures.frames in
          subst (λ (b : Out). Gains c.args.out.now b (link_frames e o p by shown)) (sym w.out-is) (heard_gains _ _ _ e o p by shown heard c.follow.ensures.frames more)
      | else-is_heard w ↦
          let unheard : is_heard p.header o.change ≡ false = sym c.is_heard.ensures.value ∙ w.if-is_heard.false in
          subst (λ (b : Out). Gains c.args.out.now b (link_frames e o p by shown)) (sym w.out-is) (unheard_gains _ _ e o p by shown unheard c.follow.ensures.frames)
    ] in
    subst (λ (v : LinkEnd). Gains c.args.out.now c.if-is_heard.out (link_frames v c.args.arriving.states p c.args.arriving.hearing.by shown)) c.self.view_is
    (subst (λ (x : ArrivingState). Gains c.args.out.now c.if-is_heard.out (link_frames e x.states p x.hearing.by shown)) c.arriving.view_is told)
