-- The record with which a link goes up, and what a tunnel packet makes of an end that has a session.
use Rattle.std.proofs.Common.{◌≡◌, ◌==◌, ℕ, true, false, if◌then◌else◌, Option, Some, None, Result, Ok, Err, refl, sym, ap, ◌∙◌}
use Rattle.std.specs.Prelude.{OnOk}
use Rattle.std.proofs.lemmas.Bool.{eq-eqb, eqb-true}
use Rattle.tipc_types.specs.declared.packet_lists.Taken.{Taken}
use Rattle.tipc_link_fsm.specs.declared.changes.Change.TheVariants.{Up}
use Rattle.tipc_link.specs.Records.{Received, kept_for, named, tunnelled, unheard}
use Rattle.tipc_link.specs.Sessions.{SessionEnd, begun_with, receiving_record, with_record}
use Rattle.tipc_link.specs.Links.{LinkEnd, followed, known, record_of, session_of, tunnelled_end}

pub kept_same : (r : Received) (epoch : ℕ) → (r.epoch == epoch) ≡ true → kept_for (Some r) epoch ≡ r
kept_same r epoch same = rw same refl

pub kept_other : (r : Received) (epoch : ℕ) → (r.epoch == epoch) ≡ false → kept_for (Some r) epoch ≡ kept_for None epoch
kept_other r epoch other = rw other refl

pub kept_epoch : (o : Option Received) (epoch : ℕ) → (kept_for o epoch).epoch ≡ epoch
kept_epoch None epoch = refl
kept_epoch (Some r) epoch = elim (r.epoch == epoch) as (λ b. (r.epoch == epoch) ≡ b → (if b then r else unheard epoch).epoch ≡ epoch) [
  | true ↦ λ same. eqb-true r.epoch epoch same
  | false ↦ λ other. refl
] refl

-- a link that goes up has the record with which it would go up again
pub session_again : (e : LinkEnd) → session_of e ≡ session_of (followed e Up)
session_again e =
    let epoch = known e.fsm.peer in
    let r = kept_for (record_of e) epoch in
    ap (begun_with e.own e.peer e.bearer e.fsm.own epoch) (sym (kept_same r epoch (eq-eqb r.epoch epoch (kept_epoch (record_of e) epoch))))

-- a packet of a tunnel packet comes to the session's record
pub session_tunnelled : {A F : Type 0} (r : Result A F) (e : LinkEnd) (s new : SessionEnd) (epoch : ℕ) (t : Taken) → e.session ≡ Some s
    → OnOk r (new ≡ with_record s (tunnelled (named (Some (receiving_record s)) epoch) epoch t)) → OnOk r (record e { session = Some new } ≡ tunnelled_end e epoch t)
session_tunnelled (Ok given) e s new epoch t has is =
    ap (λ (n : SessionEnd). record e { session = Some n }) is ∙ ap (λ (o : Option SessionEnd). tunnelled_end (record e { session = o }) epoch t) (sym has)
session_tunnelled (Err fault) e s new epoch t has is = is
