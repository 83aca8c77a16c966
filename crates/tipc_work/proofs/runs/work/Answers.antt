use Rattle.tipc_work.specs.declared.crews.Crew.{Crew}
use Rattle.tipc_work.specs.declared.crews.Crewed.{Crewed}
use Rattle.tipc_work.proofs.Crewing.{crews_ready, have_worked}
use Rattle.tipc_work.proofs.runs.work.Goals as goal

pub work_each-requires : goal.work_each-requires
work_each-requires g c =
    let ready =
    crews_ready (λ (k : Crew _ _). k.place) (λ (k : Crew _ _). k.passes) (λ v. v.items) c.args.plan.now c.args.locks.now c.args.passes.items
    c.in_ok-crews.crews.items _ _ c.requires.can c.in_ok-crews.ensures.passes c.in_ok-crews.ensures.places in
    (c.type_bounds.send-P, (c.type_bounds.send-B, (c.type_bounds.send-C, (c.type_bounds.sync-R, (c.type_bounds.sync-P, (c.type_bounds.sync-G, ready))))))

pub returns : goal.returns
returns g c = record {
  worked =
      have_worked _ _ _ (λ (k : Crew _ _). k.place) (λ (k : Crew _ _). k.passes) (λ (k : Crew _ _). k.first) (λ (k : Crew _ _). k.second)
      (λ (d : Crewed _). d.passes) (λ (d : Crewed _). d.failed) (λ (d : Crewed _). d.first) (λ (d : Crewed _). d.second) (λ v. v.items)
      c.args.plan.now c.args.locks.now c.args.passes.items _ c.args.bearers.items _ _ _ _ _ _
      c.requires.can c.in_ok-crews.ensures.passes c.in_ok-crews.ensures.places c.in_ok-crews.ensures.bearers c.in_ok-done.ensures.len c.in_ok-done.ensures.each
      c.in_ok-gathered.ensures.passes c.in_ok-gathered.ensures.bearers c.in_ok-gathered.ensures.failed;
}
