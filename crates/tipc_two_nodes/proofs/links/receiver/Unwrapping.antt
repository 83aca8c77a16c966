-- What a receiver does with the packets that its near link took, the first of which may be a tunnel packet.
use Rattle.std.proofs.Common.{◌≡◌, ◌⊎◌, ℕ, ◌&&◌, if◌then◌else◌, [], Option, Some, None, refl, sym, ap, ◌∙◌, inl, inr, arith, is_some, option_map}
use Rattle.std.proofs.lemmas.Bool.{cases_Bool}
use Rattle.tipc_types.specs.LinkStates.{is_up}
use Rattle.tipc_types.specs.declared.link_words.Cause.TheVariants.{PeerTunnel}
use Rattle.tipc_header.specs.declared.packet.ChangeoverType.{ChangeoverType}
use Rattle.tipc_header.specs.declared.packet.ChangeoverType.TheVariants.{Duplicate, Original}
use Rattle.tipc_link_fsm.specs.declared.changes.Change.TheVariants.{Down, Stay}
use Rattle.tipc_link_fsm.specs.Table.{Fsm, is_peer, on_peer_tunnel}
use Rattle.tipc_link.specs.Links.{LinkEnd, early_with, record_in, record_of, recorded, tunnelled_down}
use Rattle.tipc_link.specs.Records.{Early, Received}
use Rattle.tipc_link.specs.Sessions.{SessionEnd, flushed, with_record}
use Rattle.tipc_pair.specs.Changeovers.{contact_ends, fail_over, fail_over_to, failing, following, gone_down}
use Rattle.tipc_pair.specs.Facing.{PairEnds, is_up_at, with_near, turned as turned_pair}
use Rattle.tipc_pair.specs.PairArrivals.{taken_down, tunnelled_at}
use Rattle.tipc_changeover.specs.Links.{Receiver}
use Rattle.tipc_two_nodes.specs.links.Traffic.{Lines}
use Rattle.tipc_two_nodes.specs.links.Receiving.{IsSessionRecord, IsRecordFor, record_at}
-- ---- an end with another record
use Rattle.tipc_two_nodes.proofs.deeds.Placing.{handed_in as given_record}

early_for : (l : Lines) (r : Received) (x : Receiver) → IsSessionRecord l r x → IsSessionRecord l (record { epoch = r.epoch; taken = r.taken; held = []; shown = 1 }) x
early_for l r x h = record {
  begun = h.begun;
  epoch = h.epoch;
  taken = h.taken;
  holds = record { window = omega arith; wants = refl; holds = λ d t there. absurd (let wrong : ⊥ = cc in wrong) };
  plain = λ d t there. absurd (let wrong : ⊥ = cc in wrong);
}

recorded_in : (l : Lines) (o : Option SessionEnd) (early : Option Early) (r : Received) (x : Receiver) → IsSessionRecord l r x → IsRecordFor l (record_in (option_map (λ s. with_record s r) o) (early_with o early r)) x
recorded_in l None early r x h = inr (early_for l r x h)
recorded_in l (Some s) early r x h = inr h

-- the record that an end gets stands for what it did; before there was a session none is held
pub recorded_for : (l : Lines) (e : LinkEnd) (r : Received) (x : Receiver) → IsSessionRecord l r x → IsRecordFor l (record_of (recorded e r)) x
recorded_for l e r x h = recorded_in l e.session e.early r x h

-- ---- records that changeover leaves as they are

failing_record : (x : PairEnds) (near far : LinkEnd) (lost s : Option SessionEnd) → x.near ≡ Some near → record_at (failing x near far lost s).pair.near ≡ record_at x.near
failing_record x near far (Some lost) (Some s) is = given_record near.session near.early ∙ ap record_at (sym is)
failing_record x near far (Some lost) None is = refl
failing_record x near far None s is = refl

fallen_record : (x : PairEnds) (near far : Option LinkEnd) → x.near ≡ near → record_at (fail_over_to x near far).pair.near ≡ record_at x.near
fallen_record x (Some near) (Some far) is = failing_record x near far near.session far.session is
fallen_record x (Some near) None is = refl
fallen_record x None far is = refl

parted_record : (x : PairEnds) (near : Option LinkEnd) → x.near ≡ near → record_at (contact_ends x (x.contact, x.seen) 0).pair.near ≡ record_at x.near
parted_record x None is = ap (λ o. record_at (contact_ends (record x { near = o }) (x.contact, x.seen) 0).pair.near) is ∙ ap record_at (sym is)
parted_record x (Some e) is = ap (λ o. record_at (contact_ends (record x { near = o }) (x.contact, x.seen) 0).pair.near) is ∙ ap record_at (sym is)

pub down_record : (x : PairEnds) → record_at (gone_down x).pair.near ≡ record_at x.near
down_record x = elim (cases_Bool (is_up_at x.far)) [
  | inl up ↦ ap (λ b. record_at (if b then fail_over x else contact_ends x (x.contact, x.seen) 0).pair.near) up ∙ fallen_record x x.near x.far refl
  | inr down ↦ ap (λ b. record_at (if b then fail_over x else contact_ends x (x.contact, x.seen) 0).pair.near) down ∙ parted_record x x.near refl
]

-- an original takes its link down, or changes nothing
tunnel_changes : (fsm : Fsm) (epoch : ℕ) → ((on_peer_tunnel fsm epoch).change ≡ Stay) ⊎ ((on_peer_tunnel fsm epoch).change ≡ Down PeerTunnel)
unfolding on_peer_tunnel
tunnel_changes fsm epoch = elim (cases_Bool (is_up fsm.state && is_peer fsm.peer epoch)) [ inl yes_it_is ↦ inr (rw yes_it_is refl) | inr not_it ↦ inl (rw not_it refl) ]

tunnelled_record : (epoch : ℕ) (x : PairEnds) (near : Option LinkEnd) → record_at (tunnelled_at epoch (record x { near = near }) near).pair.near ≡ record_at near
tunnelled_record epoch x None = refl
tunnelled_record epoch x (Some e) = elim (tunnel_changes e.fsm epoch) [
  | inl same ↦ ap (λ c. record_at (following (with_near x (tunnelled_down e epoch)) c epoch).pair.near) same
  | inr down ↦ ap (λ c. record_at (following (with_near x (tunnelled_down e epoch)) c epoch).pair.near) down ∙ down_record (with_near x (tunnelled_down e epoch))
]

pub taken_down_record : (kind : ChangeoverType) (epoch : ℕ) (y : PairEnds) → record_at (taken_down kind epoch y).pair.far ≡ record_at y.far
taken_down_record Duplicate epoch y = refl
taken_down_record Original epoch y = tunnelled_record epoch (turned_pair y) y.far

-- ---- ends that changeover leaves made

failing_made : (x : PairEnds) (near far : LinkEnd) (lost s : Option SessionEnd) → x.near ≡ Some near → is_some (failing x near far lost s).pair.near ≡ is_some x.near
failing_made x near far (Some lost) (Some s) is = ap is_some (sym is)
failing_made x near far (Some lost) None is = refl
failing_made x near far None s is = refl

fallen_made : (x : PairEnds) (near far : Option LinkEnd) → x.near ≡ near → is_some (fail_over_to x near far).pair.near ≡ is_some x.near
fallen_made x (Some near) (Some far) is = failing_made x near far near.session far.session is
fallen_made x (Some near) None is = refl
fallen_made x None far is = refl

parted_made : (x : PairEnds) (near : Option LinkEnd) → x.near ≡ near → is_some (contact_ends x (x.contact, x.seen) 0).pair.near ≡ is_some x.near
parted_made x None is = ap (λ o. is_some (contact_ends (record x { near = o }) (x.contact, x.seen) 0).pair.near) is ∙ ap is_some (sym is)
parted_made x (Some e) is = ap (λ o. is_some (contact_ends (record x { near = o }) (x.contact, x.seen) 0).pair.near) is ∙ ap is_some (sym is)

down_made : (x : PairEnds) → is_some (gone_down x).pair.near ≡ is_some x.near
down_made x = elim (cases_Bool (is_up_at x.far)) [
  | inl up ↦ ap (λ b. is_some (if b then fail_over x else contact_ends x (x.contact, x.seen) 0).pair.near) up ∙ fallen_made x x.near x.far refl
  | inr down ↦ ap (λ b. is_some (if b then fail_over x else contact_ends x (x.contact, x.seen) 0).pair.near) down ∙ parted_made x x.near refl
]

tunnelled_made : (epoch : ℕ) (x : PairEnds) (near : Option LinkEnd) → is_some (tunnelled_at epoch (record x { near = near }) near).pair.near ≡ is_some near
tunnelled_made epoch x None = refl
tunnelled_made epoch x (Some e) = elim (tunnel_changes e.fsm epoch) [
  | inl same ↦ ap (λ c. is_some (following (with_near x (tunnelled_down e epoch)) c epoch).pair.near) same
  | inr down ↦ ap (λ c. is_some (following (with_near x (tunnelled_down e epoch)) c epoch).pair.near) down ∙ down_made (with_near x (tunnelled_down e epoch))
]

pub taken_down_made : (kind : ChangeoverType) (epoch : ℕ) (y : PairEnds) → is_some (taken_down kind epoch y).pair.far ≡ is_some y.far
taken_down_made Duplicate epoch y = refl
taken_down_made Original epoch y = tunnelled_made epoch (turned_pair y) y.far

-- ---- the record of the link that gets what another one leaves

failing_far : (x : PairEnds) (near far : LinkEnd) (lost o : Option SessionEnd) → x.far ≡ Some far → far.session ≡ o → record_at (failing x near far lost o).pair.far ≡ record_at x.far
unfolding flushed
failing_far x near far (Some lost) (Some s) is session = ap (λ u. record_in u far.early) (sym session) ∙ ap record_at (sym is)
failing_far x near far (Some lost) None is session = refl
failing_far x near far None o is session = refl

fallen_far : (x : PairEnds) (near far : Option LinkEnd) → x.far ≡ far → record_at (fail_over_to x near far).pair.far ≡ record_at x.far
fallen_far x (Some near) (Some far) is = failing_far x near far near.session far.session is refl
fallen_far x (Some near) None is = refl
fallen_far x None far is = refl

parted_far : (x : PairEnds) (far : Option LinkEnd) → x.far ≡ far → record_at (contact_ends x (x.contact, x.seen) 0).pair.far ≡ record_at x.far
parted_far x None is = ap (λ o. record_at (contact_ends (record x { far = o }) (x.contact, x.seen) 0).pair.far) is ∙ ap record_at (sym is)
parted_far x (Some e) is = ap (λ o. record_at (contact_ends (record x { far = o }) (x.contact, x.seen) 0).pair.far) is ∙ ap record_at (sym is)

pub down_far : (x : PairEnds) → record_at (gone_down x).pair.far ≡ record_at x.far
down_far x = elim (cases_Bool (is_up_at x.far)) [
  | inl up ↦ ap (λ b. record_at (if b then fail_over x else contact_ends x (x.contact, x.seen) 0).pair.far) up ∙ fallen_far x x.near x.far refl
  | inr down ↦ ap (λ b. record_at (if b then fail_over x else contact_ends x (x.contact, x.seen) 0).pair.far) down ∙ parted_far x x.far refl
]

tunnelled_far : (epoch : ℕ) (x : PairEnds) (near : Option LinkEnd) → record_at (tunnelled_at epoch x near).pair.far ≡ record_at x.far
tunnelled_far epoch x None = refl
tunnelled_far epoch x (Some e) = elim (tunnel_changes e.fsm epoch) [
  | inl same ↦ ap (λ c. record_at (following (with_near x (tunnelled_down e epoch)) c epoch).pair.far) same
  | inr down ↦ ap (λ c. record_at (following (with_near x (tunnelled_down e epoch)) c epoch).pair.far) down ∙ down_far (with_near x (tunnelled_down e epoch))
]

-- and the near link's own
pub taken_down_near : (kind : ChangeoverType) (epoch : ℕ) (y : PairEnds) → record_at (taken_down kind epoch y).pair.near ≡ record_at y.near
taken_down_near Duplicate epoch y = refl
taken_down_near Original epoch y = tunnelled_far epoch (turned_pair y) y.far
