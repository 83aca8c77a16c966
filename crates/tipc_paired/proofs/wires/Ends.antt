-- A link end keeps what holds of it, whatever is called.
use Rattle.std.proofs.Common.{◌≡◌, ◌<◌, ◌≤◌, ◌^◌, ℕ, true, false, Some, None, refl, sym, ap, ◌∙◌, arith, if◌then◌else◌, ◌+◌}
use Rattle.std.proofs.lemmas.Bool.{true≢false}
use Rattle.tipc_types.specs.LinkStates.{is_up}
use Rattle.tipc_contact.specs.Sides.{boot_of}
use Rattle.tipc_contact.proofs.Calls.{next_boot}
use Rattle.tipc_link_fsm.specs.Table.{contact_ended, forget_peer, is_last, next_epoch}
use Rattle.tipc_link.specs.Links.{LinkEnd, known, session_of}
use Rattle.tipc_link.specs.Sessions.{SessionEnd}
use Rattle.tipc_link.proofs.Ends.{IsRaised, IsStill, IsTaught, ended-is, forgotten-is}
use Rattle.tipc_paired.specs.Deeds.{ended_with, forgot_with, made_on}
use Rattle.tipc_paired.specs.Paired.{IsEnd, IsNode}
use Rattle.tipc_paired.specs.Views.{Node}

pub still_end : (n : Node) (b : ℕ) (e e' : LinkEnd) → IsEnd n b e → IsStill e e' → IsEnd n b e'
still_end n b e e' h m = record {
  own = m.own ∙ h.own;
  peer = m.peer ∙ h.peer;
  bearer_is = m.bearer ∙ h.bearer_is;
  contact = m.contact ∙ h.contact;
  seen = m.seen ∙ h.seen;
  boot = ap boot_of m.epoch ∙ h.boot;
  order = (let epoch = m.epoch in let order = h.order in omega arith);
  peer_fits = λ epoch is. (let fits = h.peer_fits epoch (sym m.peer_epoch ∙ is) in (fits.0, fits.1 ∙ sym m.highest));
  going = λ up.
      let going = h.going (sym m.up ∙ up) in
      let on = m.sessions.onward going.0 going.1 in
      let alike = on.2 in
      (on.0, on.1, alike.epoch ∙ going.2 ∙ sym m.epoch, m.peer_epoch ∙ going.3 ∙ ap Some (sym alike.peer_epoch), ap is_last m.epoch ∙ going.4);
  session = λ s' is.
      let back = m.sessions.back s' is in
      let old = h.session back.0 back.1 in
      let alike = back.2 in
      (alike.own ∙ old.0, alike.peer ∙ old.1, alike.bearer ∙ old.2);
}

pub taught_end : (n : Node) (b : ℕ) (e e' : LinkEnd) → IsEnd n b e → IsTaught e e' → e'.peer_contact ≡ n.seen → ((epoch : ℕ) → e'.fsm.peer ≡ Some epoch → (epoch < 2 ^ 64) × (epoch ≡ e'.fsm.highest)) → IsEnd n b e'
taught_end n b e e' h m seen peer = record {
  own = m.own ∙ h.own;
  peer = m.peer ∙ h.peer;
  bearer_is = m.bearer ∙ h.bearer_is;
  contact = m.contact ∙ h.contact;
  seen = seen;
  boot = ap boot_of m.epoch ∙ h.boot;
  order = (let epoch = m.epoch in let order = h.order in omega arith);
  peer_fits = peer;
  going = λ up. absurd (true≢false (sym up ∙ m.down));
  session = λ s is. h.session s (sym m.session ∙ is);
}

pub raised_end : (n : Node) (b : ℕ) (e e' : LinkEnd) → IsEnd n b e → IsRaised e e' → e'.peer_contact ≡ n.seen → ((epoch : ℕ) → e'.fsm.peer ≡ Some epoch → (epoch < 2 ^ 64) × (epoch ≡ e'.fsm.highest)) → IsEnd n b e'
raised_end n b e e' h m seen peer = record {
  own = m.own ∙ h.own;
  peer = m.peer ∙ h.peer;
  bearer_is = m.bearer ∙ h.bearer_is;
  contact = m.contact ∙ h.contact;
  seen = seen;
  boot = ap boot_of m.epoch ∙ h.boot;
  order = (let epoch = m.epoch in let order = h.order in omega arith);
  peer_fits = peer;
  going = λ up. (session_of e', m.session, refl, m.peer_is ∙ ap (λ p. Some (known p)) (sym m.peer_is), ap is_last m.epoch ∙ m.goes_on);
  session = λ s is.
      let same : session_of e' ≡ s = (let has = m.session in cc) in
      (ap (λ (t : SessionEnd). t.own) (sym same) ∙ m.own ∙ h.own, ap (λ (t : SessionEnd). t.peer) (sym same) ∙ m.peer ∙ h.peer, ap (λ (t : SessionEnd). t.bearer) (sym same) ∙ m.bearer ∙ h.bearer_is);
}

pub next_no_lower : (epoch : ℕ) → epoch ≤ next_epoch epoch
next_no_lower epoch = elim (is_last epoch) as (λ b. epoch ≤ (if b then epoch else epoch + 1)) [ true ↦ omega arith | false ↦ omega arith ]

-- the contact of a node ended, whose contact number isn't above this end's next epoch
pub ended_end : (n n' : Node) (b : ℕ) (e : LinkEnd) → IsEnd n b e → n'.own ≡ n.own → n'.peer ≡ n.peer → n'.boot ≡ n.boot → n'.seen ≡ n.seen → n'.contact ≤ next_epoch e.fsm.own → IsEnd n' b (ended_with n'.contact e)
ended_end n n' b e h own peer boot seen order =
    let is = ended-is e.fsm in
    let next : (contact_ended e.fsm).after.own ≡ next_epoch e.fsm.own = ap (λ f. f.own) is in
    let none : (contact_ended e.fsm).after.peer ≡ None = ap (λ f. f.peer) is in
    let down : is_up (contact_ended e.fsm).after.state ≡ false = ap (λ f. is_up f.state) is in
    record {
      own = h.own ∙ sym own;
      peer = h.peer ∙ sym peer;
      bearer_is = h.bearer_is;
      contact = refl;
      seen = h.seen ∙ sym seen;
      boot = ap boot_of next ∙ next_boot e.fsm.own ∙ h.boot ∙ sym boot;
      order = omega arith;
      peer_fits = λ epoch some. absurd (let wrong : ⊥ = cc in wrong);
      going = λ up. absurd (true≢false (sym up ∙ down));
      session = λ s there. (let old = h.session s there in (old.0 ∙ sym own, old.1 ∙ sym peer, old.2));
    }

-- the peer showed a higher contact number
pub forgot_end : (n n' : Node) (b : ℕ) (e : LinkEnd) → IsEnd n b e → is_up e.fsm.state ≡ false → n'.own ≡ n.own → n'.peer ≡ n.peer → n'.boot ≡ n.boot → n'.contact ≡ n.contact → IsEnd n' b (forgot_with n'.seen e)
forgot_end n n' b e h rests own peer boot contact =
    let is = forgotten-is e.fsm rests in
    let same : (forget_peer e.fsm).after.own ≡ e.fsm.own = ap (λ f. f.own) is in
    let none : (forget_peer e.fsm).after.peer ≡ None = ap (λ f. f.peer) is in
    let down : is_up (forget_peer e.fsm).after.state ≡ false = ap (λ f. is_up f.state) is in
    record {
      own = h.own ∙ sym own;
      peer = h.peer ∙ sym peer;
      bearer_is = h.bearer_is;
      contact = h.contact ∙ sym contact;
      seen = refl;
      boot = ap boot_of same ∙ h.boot ∙ sym boot;
      order = (let order = h.order in omega arith);
      peer_fits = λ epoch some. absurd (let wrong : ⊥ = cc in wrong);
      going = λ up. absurd (true≢false (sym up ∙ down));
      session = λ s there. (let old = h.session s there in (old.0 ∙ sym own, old.1 ∙ sym peer, old.2));
    }

pub made_end : (n : Node) (b : ℕ) → IsNode n → IsEnd n b (made_on n b)
made_end n b h = record {
  own = refl;
  peer = refl;
  bearer_is = refl;
  contact = refl;
  seen = refl;
  boot = h.contact;
  order = omega arith;
  peer_fits = λ epoch is. absurd (let wrong : ⊥ = cc in wrong);
  going = λ up. absurd (let wrong : ⊥ = cc in wrong);
  session = λ s is. absurd (let wrong : ⊥ = cc in wrong);
}
