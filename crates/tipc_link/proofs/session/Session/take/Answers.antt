use Rattle.std.proofs.Common.{◌≡◌, ◌==◌, ◌&&◌, ◌+◌, ◌-◌, false, refl, sym, ap, ◌∙◌}
use Rattle.tipc_recv_window.specs.Receiving.{Coming, Receiving, coming, deferred_count, place_at}
use Rattle.tipc_link.specs.Records.{is_early_tunnel, with_coming}
use Rattle.tipc_link.specs.Sessions.{SessionEnd, is_deferred, past, receiving, took}
use Rattle.tipc_link.proofs.Takings.{IsSession-took, took_is}
use Rattle.tipc_link.proofs.session.Session.take.Goals as goal

pub commit-requires : goal.commit-requires
commit-requires c = let t = c.requires.0 in (t, c.requires.2 ∙ ap (λ (s : SessionEnd). coming (receiving s) t) (sym c.self.view_is))

pub invariant_of-self : goal.invariant_of-self
invariant_of-self c = rw (c.taken.ensures, c.taken-before.ensures) (IsSession-took _ _ _ _ _ c.commit.ensures.more c.self.invariant)

pub returns : goal.returns
returns c = λ t plain is.
    let i = c.self.inside in
    let e : SessionEnd = record {
      own = i.own.word;
      peer = i.peer.word;
      bearer = i.bearer;
      epoch = i.epoch;
      peer_epoch = i.peer_epoch;
      sending = i.window;
      record_epoch = i.received.epoch;
      taken = i.received.taken;
      held = i.received.held;
      shown = i.received.shown;
      unanswered = record { packets = i.unanswered; broadcasts = i.broadcasts };
      owes = i.owes;
    } in
    let told : c.args.arrival ≡ coming (receiving e) t = is ∙ ap (λ (s : SessionEnd). coming (receiving s) t) (sym c.self.view_is) in
    let waits : is_early_tunnel (receiving e) t ≡ false = ap (λ (s : SessionEnd). is_early_tunnel (receiving s) t) c.self.view_is ∙ plain in
    let after : c.commit.new.self ≡ with_coming i.received t = c.commit.ensures.after t told in
    let at : c.place-place.result ≡ place_at (receiving e) (past e t.number) = c.place-place.ensures ∙ ap (λ (a : Coming). a.place) told in
    let count : i.unanswered + (c.taken.result - c.taken-before.result) ≡ e.unanswered.packets + (c.commit.new.self.taken - e.taken) = rw (c.taken.ensures, c.taken-before.ensures) refl in
    took_is e t c.commit.new.self (i.unanswered + (c.taken.result - c.taken-before.result)) c.is_only_deferred-self-inside.result c.place-place.result c.commit.ensures.free waits after at count
    (c.is_only_deferred-self-inside.ensures ∙ ap (λ (w : Receiving). is_deferred c.place-place.result && (deferred_count w == 1)) c.window.ensures.value)
    ∙ ap (λ (s : SessionEnd). took s t) c.self.view_is
