use Rattle.std.proofs.Common.{◌≡◌, ◌-◌, None, ap, sym, subst, ◌∙◌, arith}
use Rattle.tipc_types.specs.declared.packet_lists.Taken.{Taken}
use Rattle.tipc_recv_window.specs.Receiving.{Receiving, coming, drained, next_of, with_packet}
use Rattle.tipc_link.specs.Records.{Received, window_of, with_coming}
use Rattle.tipc_link.proofs.Takings.{IsRecord-coming, drained_wanted, window_is}
use Rattle.tipc_link.proofs.record.Record.commit.Goals as goal

pub commit-requires-clause-arrival : goal.commit-requires-clause-arrival
commit-requires-clause-arrival c =
    let same : c.self.inside.window ≡ window_of c.args.self.now = window_is c.self.inside.window c.self.invariant.wanted ∙ ap window_of c.self.view_is in
    (c.requires.0, c.requires.1 ∙ ap (λ w. coming w c.requires.0) (sym same))

-- the window after it
after : (c : goal.After-commit) (t : Taken) → c.args.arrival ≡ coming (window_of c.args.self.now) t → c.commit.new.self ≡ drained (with_packet c.self.inside.window t)
after c t is =
    let same : c.self.inside.window ≡ window_of c.args.self.now = window_is c.self.inside.window c.self.invariant.wanted ∙ ap window_of c.self.view_is in
    c.commit.ensures.after t (is ∙ ap (λ w. coming w t) (sym same))

pub invariant_of-self : goal.invariant_of-self
invariant_of-self c = IsRecord-coming _ _ _ c.requires.0 (after c c.requires.0 c.requires.1) c.self.invariant

pub returns-clause-after : goal.returns-clause-after
returns-clause-after c = λ t is.
    let i = c.self.inside in
    let same : i.window ≡ window_of c.args.self.now = window_is i.window c.self.invariant.wanted ∙ ap window_of c.self.view_is in
    ap (λ (w : Receiving). record { epoch = i.epoch; taken = w.wanted - 1; held = w.held; shown = i.shown }) (after c t is ∙ ap (λ w. drained (with_packet w t)) (window_is i.window c.self.invariant.wanted))
    ∙ ap (λ (r : Received). with_coming r t) c.self.view_is

pub returns-clause-more : goal.returns-clause-more
returns-clause-more c =
    let t = c.requires.0 in
    omega (arith, ap (λ (r : Received). r.taken) c.self.view_is, ap (λ (w : Receiving). w.wanted) (after c t c.requires.1), drained_wanted c.self.inside.window t)

pub returns-clause-free : goal.returns-clause-free
returns-clause-free c =
    let same : c.self.inside.window ≡ window_of c.args.self.now = window_is c.self.inside.window c.self.invariant.wanted ∙ ap window_of c.self.view_is in
    subst (λ w. next_of w ≡ None) same c.self.invariant.wants
