use Rattle.std.proofs.Common.{true, false, ◌≡◌, ◌∙◌, sym, ap, subst, true≢false}
use Rattle.tipc_outside.specs.Frames.{Out}
use Rattle.tipc_journal.specs.Dues.{comes_home}
use Rattle.tipc_node.specs.Drafts.{own_of}
use Rattle.tipc_node.specs.Hearings.{WentBack}
use Rattle.tipc_node.specs.Works.{addr_of_word}
use Rattle.tipc_node.proofs.work.Returning.{back_home, on_ok}
use Rattle.tipc_node.proofs.drafts.Draft.go_back.Goals as goal

pub send_back-requires-clause-contact : goal.send_back-requires-clause-contact
send_back-requires-clause-contact c =
    c.requires.contact (ap (λ word. comes_home (addr_of_word word) c.args.back) (sym c.own.ensures) ∙ sym c.comes_home.ensures ∙ c.if-not-comes_home.true)

pub returns-then-not-comes_home-clause-went : goal.returns-then-not-comes_home-clause-went
returns-then-not-comes_home-clause-went c =
    let d = c.args.self.now in
    let away : comes_home (addr_of_word (own_of d)) c.args.back ≡ false =
    ap (λ word. comes_home (addr_of_word word) c.args.back) (sym c.own.ensures) ∙ sym c.comes_home.ensures ∙ c.if-not-comes_home.true in
    on_ok c.send_back.result (λ went. record {
      frames = went.frames;
      goes = record { home = λ home. absurd (true≢false (sym home ∙ away)); away = λ _. went.goes };
      adds = went.adds;
    }) c.send_back.ensures.went

pub returns-clause-went : goal.returns-clause-went
returns-clause-went c =
    let d = c.args.self.now in
    let home : comes_home (addr_of_word (own_of d)) c.args.back ≡ true =
    ap (λ word. comes_home (addr_of_word word) c.args.back) (sym c.own.ensures) ∙ sym c.comes_home.ensures ∙ c.if-not-comes_home.false in
    subst (λ (b : Out). WentBack (own_of d) d.work c.args.back c.meet.new.self.work d.out b) (sym c.meet.ensures.out)
    (back_home (own_of d) d.work c.args.back c.meet.new.self.work d.out home c.in_ok-meet.ensures.work)
