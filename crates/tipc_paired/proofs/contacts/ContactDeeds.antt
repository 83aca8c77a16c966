-- No session is left: a link goes down, a contact ends, a higher contact number is shown, a link end is made, and a node restarts.
use Rattle.std.proofs.Common.{◌≡◌, ◌≢◌, ◌<◌, ◌≤◌, ◌+◌, ◌==◌, ◌^◌, ℕ, true, false, if◌then◌else◌, [], Option, Some, None, option_map, refl, sym, ap, ◌∙◌, subst, inl, inr, append-nil, arith}
use Rattle.std.specs.Prelude.{slice_get}
use Rattle.std.proofs.lemmas.Bool.{cases_Bool, cases_eq, true≢false}
use Rattle.tipc_types.specs.LinkStates.{is_up}
use Rattle.tipc_types.specs.declared.link_words.Cause.{Cause}
use Rattle.tipc_contact.specs.Order.{AreInOrder, IsContactShown}
use Rattle.tipc_contact.specs.Peers.{ArePeers}
use Rattle.tipc_contact.specs.Sides.{ContactEnded, EndMade, HigherShown, Restarted, acted, after_call, boot_of, first_number}
use Rattle.tipc_contact.proofs.Calls.{next_boot, next_of_last, next_of_other, same_boot, not_last}
use Rattle.tipc_contact.proofs.Ordering.{ordered_acts}
use Rattle.tipc_contact.proofs.Sessions.{acts}
use Rattle.tipc_contact.proofs.Speaking.{at_other, at_same}
use Rattle.tipc_link.specs.Links.{LinkEnd, after, followed, record_of, with_fsm}
use Rattle.tipc_link.specs.Records.{Received}
use Rattle.tipc_link.specs.Sessions.{SessionEnd}
use Rattle.tipc_link_fsm.specs.declared.changes.Change.TheVariants.{Down}
use Rattle.tipc_link_fsm.specs.Runs.{Call, ContactEnds, ForgetsPeer, outcome}
use Rattle.tipc_link_fsm.specs.Table.{Fsm, contact_ended, forget_peer, fresh, is_held, is_last, next_epoch}
use Rattle.tipc_link.proofs.Ends.{ended-is, forgotten-is}
use Rattle.tipc_link.proofs.EndsTurns.{Falls, Turn, fall, learn, rise, stay}
use Rattle.tipc_link.specs.Parts.{is_quiet}
use Rattle.tipc_paired.proofs.sessions.CallDeeds.{call_named}
use Rattle.tipc_paired.proofs.wires.Ends.{ended_end, forgot_end, made_end, next_no_lower}
use Rattle.tipc_paired.proofs.wires.Growing.{Grows, frame_here, half_back, told_none}
use Rattle.tipc_paired.proofs.wires.EpochsKept.{reached_on, records_on}
use Rattle.tipc_paired.proofs.contacts.Mutual.{told_past}
use Rattle.tipc_paired.proofs.wires.Sides.{ordered_still, peers_called, same_side}
use Rattle.tipc_paired.proofs.wires.Turns.{call_turns, shown_to}
use Rattle.tipc_paired.proofs.wires.WireDeeds.{agree_turned, high_still, wire_deed}
use Rattle.tipc_paired.proofs.wires.Wires.{epoch_of_end, epoch_of_none, is_up_of, map_at, none_some, prefix_of_none, prefix_same, put_other, put_same, same_some, session_of_down, session_of_none}
use Rattle.tipc_paired.specs.Deeds.{MayCall, ended_with, forgot_with, made_on, parted_view, restarted, risen_view}
use Rattle.tipc_paired.specs.Paired.{ArePaired, IsEnd, IsFrame, IsNoHigher, IsNode, IsReached, IsRecordOf, IsRecords, IsWire, IsHeardEpoch, long_ago, untaken}
use Rattle.tipc_paired.specs.Views.{Begun, Frame, IsApart, Node, View, Wire, epoch_in, epoch_on, er_of, es_of, fsm_in, notice_of, put_at, said_by, session_on, side_of, with_end, with_wire}

-- ---- other ends, and nothing else done

-- x with another node and other link ends
abbrev pub rested : View → Node → (ℕ → Option LinkEnd) → View
rested x n ends = record {
  node = n;
  wires = λ b. record { end = ends b; begun = (x.wires b).begun; line = (x.wires b).line; got = (x.wires b).got };
  told = x.told;
}

-- The link ends of x became others. Where one stays up it is as it was; the epochs rise, or the end says nothing new.
pub record Rests (x y : View) (n : Node) (ends : ℕ → Option LinkEnd) : Type 0 where
  pub own : n.own ≡ x.node.own
  pub node : IsNode n
  pub end : (b : ℕ) (e : LinkEnd) → ends b ≡ Some e → IsEnd n b e
  pub none : (b : ℕ) (s : SessionEnd) → session_on ((rested x n ends).wires b) ≡ Some s → ⊥
  -- their receiving records are those of before
  pub kept : (b : ℕ) (e : LinkEnd) → ends b ≡ Some e → (d : LinkEnd) × ((x.wires b).end ≡ Some d) × (record_of e ≡ record_of d)
  pub records : (b : ℕ) → IsRecords n ((rested x n ends).wires b) (y.wires b)
  pub unborn : (b epoch : ℕ) → epoch_on n ((rested x n ends).wires b) ≤ epoch → (x.wires b).begun epoch ≡ None
  pub named : (b k : ℕ) (f : Frame) → slice_get x.told k ≡ Some f → f.bearer ≡ b → boot_of (es_of f.bytes) ≡ n.boot → IsNoHigher ((rested x n ends).wires b) (er_of f.bytes)
  pub unheld : (b : ℕ) (e : LinkEnd) → ends b ≡ Some e → is_held e.fsm.state ≡ false
  pub highest : (b : ℕ) (e : LinkEnd) → ends b ≡ Some e → IsHeardEpoch y.told b e.fsm.highest
  pub peers : ArePeers (side_of (rested x n ends)) (said_by x) (side_of y) (said_by y)
  pub order : AreInOrder (side_of (rested x n ends)) (said_by x) (side_of y) (said_by y)

pub rests_paired : (x y : View) (n : Node) (ends : ℕ → Option LinkEnd) → ArePaired x y → Rests x y n ends → ArePaired (rested x n ends) y
rests_paired x y n ends h m =
    let x' = rested x n ends in
    let grows : (b : ℕ) → Grows (x.wires b) (x'.wires b) = λ b. record { line = λ epoch. prefix_same ((x.wires b).line epoch); got = λ epoch. prefix_same ((x.wires b).got epoch); begun = λ epoch g is. is } in
    record {
      peers = m.peers;
      order = m.order;
      here = record {
        node = m.node;
        ends = m.end;
        wires = λ b. (
            let old = h.here.wires b in
            subst (λ k. IsWire k (x'.wires b) (y.wires b)) (sym m.own) (record {
              unborn = old.unborn;
              packets = old.packets;
              window = old.window;
              prefix = old.prefix;
              going = λ s on. absurd (m.none b s on);
              kept = λ e r is has. (let at = m.kept b e is in let k = old.kept at.0 r at.1 (sym at.2 ∙ has) in record { takes = k.takes; holds = k.holds; shown = k.shown });
            }));
        records = m.records;
        highest = m.highest;
        epochs = λ b. (
            let old = h.here.epochs b in
            record {
              unborn = λ epoch is. m.unborn b epoch is.0;
              some = old.some;
              lasts = old.lasts;
              now = λ s g on is. absurd (m.none b s on);
              shown = old.shown;
              named = m.named b;
              bounded = old.bounded;
              told_in = old.told_in;
              unheld = λ k f e there bearer is own. m.unheld b e is;
              agree = old.agree;
              entered = old.entered;
            });
        frames = λ k f there. subst (λ own. IsFrame own (x'.wires f.bearer) (y.wires f.bearer) f) (sym m.own) (frame_here x.node.own (x.wires f.bearer) (x'.wires f.bearer) (y.wires f.bearer) f (h.here.frames k f there) (grows f.bearer));
      };
      there = half_back y x x' [] h.there grows (λ b epoch. (h.here.wires b).prefix epoch) (λ b. agree_turned (x'.wires b) (y.wires b) (h.here.epochs b).agree) (told_none y) (sym (append-nil x.told));
    }

-- under an epoch that isn't below the next one nothing began
begun_none : (x y : View) (b epoch : ℕ) (e : LinkEnd) → ArePaired x y → (x.wires b).end ≡ Some e → next_epoch e.fsm.own ≤ epoch → (x.wires b).begun epoch ≡ None
begun_none x y b epoch e h is least =
    let w = x.wires b in
    let epochs = h.here.epochs b in
    let now = epoch_of_end x.node w e is in
    elim (cases_Bool (is_last e.fsm.own)) [
      | inl last ↦
          let same = next_of_last e.fsm.own last in
          epochs.unborn epoch (
            (let low : epoch_on x.node w ≤ epoch = omega arith in low),
            λ s on equal. (
                let up = is_up_of w s on in
                let one : up.0 ≡ e = same_some up.0 e w.end up.1.end_is is in
                let going = ((h.here.ends b e is).going (ap (λ (d : LinkEnd). is_up d.fsm.state) (sym one) ∙ up.1.up)).4 in
                true≢false (sym last ∙ going)),
          )
      | inr more ↦
          let next = next_of_other e.fsm.own more in
          epochs.unborn epoch (
            (let low : epoch_on x.node w ≤ epoch = omega arith in low),
            λ s on equal. (
                let up = is_up_of w s on in
                let one : up.0 ≡ e = same_some up.0 e w.end up.1.end_is is in
                let going = (h.here.ends b e is).going (ap (λ (d : LinkEnd). is_up d.fsm.state) (sym one) ∙ up.1.up) in
                let t : going.0 ≡ s = same_some going.0 s e.session going.1 (ap (λ (d : LinkEnd). d.session) (sym one) ∙ up.1.session_is) in
                let own : s.epoch ≡ e.fsm.own = ap (λ (u : SessionEnd). u.epoch) (sym t) ∙ going.2 in
                let wrong : ⊥ = omega arith in wrong),
          )
    ]

-- ---- the contact ends

pub mapped_end : (f : LinkEnd → LinkEnd) (o : Option LinkEnd) (e' : LinkEnd) → option_map f o ≡ Some e' → (e : LinkEnd) × (o ≡ Some e) × (f e ≡ e')
mapped_end f None e' is = absurd (let wrong : ⊥ = cc in wrong)
mapped_end f (Some e) e' is = (e, refl, (let same : f e ≡ e' = cc in same))

-- link ends that became others, which took no other epoch
mapped_high : (x y : View) (b : ℕ) (f : LinkEnd → LinkEnd) → ArePaired x y → ((e : LinkEnd) → (x.wires b).end ≡ Some e → (f e).fsm.highest ≡ e.fsm.highest) → (e' : LinkEnd) → option_map f (x.wires b).end ≡ Some e'
    → IsHeardEpoch y.told b e'.fsm.highest
mapped_high x y b f h same e' is =
    let at = mapped_end f (x.wires b).end e' is in
    high_still x y b at.0 (f at.0) h at.1 (same at.0 at.1) e' (ap Some at.2)

-- link ends that became others, with the same records, which took no other epoch
pub mapped_records : (n n' : Node) (w w' v : Wire) (f : LinkEnd → LinkEnd) → IsRecords n w v → n'.boot ≡ n.boot → w'.end ≡ option_map f w.end → ((epoch : ℕ) → w'.got epoch ≡ w.got epoch)
    → ((e : LinkEnd) → w.end ≡ Some e → (record_of (f e) ≡ record_of e) × ((f e).fsm.highest ≡ e.fsm.highest)) → IsRecords n' w' v
mapped_records n n' w w' v f h boot end got each = record {
  reached = λ epoch. subst (λ k. IsReached k w' v epoch) (sym boot) (reached_on n.boot w w' v epoch (h.reached epoch) (got epoch) (λ d r is has. (
    f d,
    r,
    end ∙ ap (option_map f) is,
    (each d is).0 ∙ has,
    (let low : r.epoch ≤ r.epoch = omega arith in low),
  )));
  below = λ d r is has. (
      let at = mapped_end f w.end d (sym end ∙ is) in
      let same = each at.0 at.1 in
      let few = h.below at.0 r at.1 (sym same.0 ∙ ap record_of at.2 ∙ has) in
      let top : at.0.fsm.highest ≡ d.fsm.highest = sym same.1 ∙ ap (λ (k : LinkEnd). k.fsm.highest) at.2 in
      omega arith);
}

mapped_named : (w w' : Wire) (f : LinkEnd → LinkEnd) (epoch : ℕ) → IsNoHigher w epoch → w'.end ≡ option_map f w.end → ((e : LinkEnd) → w.end ≡ Some e → (f e).fsm.highest ≡ e.fsm.highest) → IsNoHigher w' epoch
mapped_named w w' f epoch h end each =
    let low = h.highest in
    let same = each h.end h.end_is in
    record { end = f h.end; end_is = end ∙ ap (option_map f) h.end_is; highest = omega arith }

next_most : (epoch : ℕ) → next_epoch epoch ≤ epoch + 1
next_most epoch = elim (is_last epoch) as (λ b. (if b then epoch else epoch + 1) ≤ epoch + 1) [ true ↦ omega arith | false ↦ omega arith ]

-- the next contact number isn't above the next epoch
next_above : (contact own : ℕ) → contact ≤ own → is_last contact ≡ false → contact + 1 ≤ next_epoch own
next_above contact own order goes_on =
    elim (cases_Bool (is_last own)) [
      | inl last ↦
          let same = next_of_last own last in
          let other : contact ≢ own = λ equal. true≢false (sym last ∙ ap is_last (sym equal) ∙ goes_on) in
          omega arith
      | inr more ↦ (let next = next_of_other own more in omega arith)
    ]

ended_side : (contact : ℕ) (o : Option LinkEnd) → after_call ContactEnds (fsm_in o) ≡ fsm_in (option_map (ended_with contact) o)
ended_side contact None = refl
ended_side contact (Some e) = refl

pub ended_down : (contact : ℕ) (e : LinkEnd) → is_up (ended_with contact e).fsm.state ≡ false
ended_down contact e = ap (λ (f : Fsm). is_up f.state) (ended-is e.fsm)

-- an end that is down has no session
pub down_none : (w : Wire) (s : SessionEnd) → ((e : LinkEnd) → w.end ≡ Some e → is_up e.fsm.state ≡ false) → session_on w ≡ Some s → ⊥
down_none w s down on = let up = is_up_of w s on in true≢false (sym up.1.up ∙ down up.0 up.1.end_is)

-- under the epochs that the end of the contact leaves nothing began
unborn_after : (x y : View) (b epoch contact : ℕ) → ArePaired x y → contact ≡ x.node.contact + 1 → (o : Option LinkEnd) → (x.wires b).end ≡ o → epoch_in contact (option_map (ended_with contact) o) ≤ epoch → (x.wires b).begun epoch ≡ None
unborn_after x y b epoch contact h next None is least = (
    let w = x.wires b in
    let now = epoch_of_none x.node w is in
    (h.here.epochs b).unborn epoch ((let few : epoch_on x.node w ≤ epoch = omega arith in few), λ s on. absurd (none_some s _ (session_of_none w is) on)))
unborn_after x y b epoch contact h next (Some e) is least = (
    let after : (contact_ended e.fsm).after.own ≡ next_epoch e.fsm.own = ap (λ (f : Fsm). f.own) (ended-is e.fsm) in
    begun_none x y b epoch e h is (omega arith))

epoch_computed : (n : Node) (w : Wire) → epoch_on n w ≡ epoch_in n.contact w.end
unfolding epoch_on
epoch_computed n w = refl

ended_high : (e : LinkEnd) → (contact_ended e.fsm).after.highest ≡ e.fsm.highest
ended_high e = ap (λ (f : Fsm). f.highest) (ended-is e.fsm)

pub parted_paired : (x y : View) → ArePaired x y → is_last x.node.contact ≡ false → ArePaired (parted_view x) y
parted_paired x y h goes_on =
    let contact = x.node.contact + 1 in
    let n : Node = record x.node { contact = contact } in
    let ends : ℕ → Option LinkEnd = λ b. option_map (ended_with contact) (x.wires b).end in
    let peers = subst (λ s. ArePeers s (said_by x) (side_of y) (said_by y)) (same_side contact contact x.node.seen x.node.seen _ _ refl refl (λ b. ended_side contact (x.wires b).end))
    (acts (side_of x) (side_of y) (said_by x) (said_by y) ContactEnded h.peers goes_on) in
    let order = ordered_acts (side_of x) (side_of y) (said_by x) (said_by y) ContactEnded h.order goes_on tt in
    rests_paired x y n ends h (record {
      own = refl;
      node = record { own = h.here.node.own; peer = h.here.node.peer; boot = h.here.node.boot; contact = same_boot x.node.contact goes_on ∙ h.here.node.contact; seen = h.here.node.seen };
      end = λ b e' is. (
          let at = mapped_end (ended_with contact) (x.wires b).end e' is in
          let end = h.here.ends b at.0 at.1 in
          subst (IsEnd n b) at.2 (ended_end x.node n b at.0 end refl refl refl refl (next_above x.node.contact at.0.fsm.own end.order goes_on)));
      none = λ b s on. down_none ((rested x n ends).wires b) s (λ e' is. (
          let at = mapped_end (ended_with contact) (x.wires b).end e' is in
          ap (λ (d : LinkEnd). is_up d.fsm.state) (sym at.2) ∙ ended_down contact at.0)) on;
      kept = λ b e' is. (let at = mapped_end (ended_with contact) (x.wires b).end e' is in (at.0, at.1, ap record_of (sym at.2)));
      unborn = λ b epoch least. (let same = epoch_computed n ((rested x n ends).wires b) in unborn_after x y b epoch contact h refl (x.wires b).end refl (omega arith));
      records = λ b. mapped_records x.node n (x.wires b) ((rested x n ends).wires b) (y.wires b) (ended_with contact) (h.here.records b) refl refl (λ epoch. refl) (λ e is. (refl, ended_high e));
      named = λ b k f there bearer boot. mapped_named (x.wires b) ((rested x n ends).wires b) (ended_with contact) (er_of f.bytes) ((h.here.epochs b).named k f there bearer boot) refl (λ e is. ended_high e);
      unheld = λ b e' is. (
          let at = mapped_end (ended_with contact) (x.wires b).end e' is in
          ap (λ (d : LinkEnd). is_held d.fsm.state) (sym at.2) ∙ ap (λ (f : Fsm). is_held f.state) (ended-is at.0.fsm));
      highest = λ b e' is. mapped_high x y b (ended_with contact) h (λ e there. ended_high e) e' is;
      peers = peers;
      order = ordered_still (acted (side_of x) ContactEnded) (side_of y) (said_by x) (said_by y) (side_of (rested x n ends)).ends order;
    })

-- the contact number of a node with a link that is up isn't the last of its boot
pub contact_goes_on : (x y : View) (b : ℕ) (e : LinkEnd) → ArePaired x y → (x.wires b).end ≡ Some e → is_up e.fsm.state ≡ true → is_last x.node.contact ≡ false
contact_goes_on x y b e h is up =
    let end = h.here.ends b e is in
    not_last x.node.contact e.fsm.own end.order (h.here.node.contact ∙ sym end.boot) (end.going up).4

pub parts_paired : (x y : View) (b : ℕ) (e : LinkEnd) → ArePaired x y → (x.wires b).end ≡ Some e → is_up e.fsm.state ≡ true → ArePaired (parted_view x) y
parts_paired x y b e h is up = parted_paired x y h (contact_goes_on x y b e h is up)

-- ---- a link goes down

-- the end that went down
fell_end : (n : Node) (b : ℕ) (e : LinkEnd) (f : Fsm) → IsEnd n b e → f.own ≡ next_epoch e.fsm.own → f.peer ≡ e.fsm.peer → f.highest ≡ e.fsm.highest → is_up f.state ≡ false → IsEnd n b (with_fsm e f)
fell_end n b e f h own peer highest down =
    let low = next_no_lower e.fsm.own in
    let order = h.order in
    record {
      own = h.own;
      peer = h.peer;
      bearer_is = h.bearer_is;
      contact = h.contact;
      seen = h.seen;
      boot = ap boot_of own ∙ next_boot e.fsm.own ∙ h.boot;
      order = omega arith;
      peer_fits = λ epoch is. (let fits = h.peer_fits epoch (sym peer ∙ is) in (fits.0, fits.1 ∙ sym highest));
      going = λ up. absurd (true≢false (sym up ∙ down));
      session = h.session;
    }

-- a wire whose end has no session now
pub none_wire : (own : ℕ) (w v : Wire) (e' : LinkEnd) → IsWire own w v → is_up e'.fsm.state ≡ false → ((r : Received) → record_of e' ≡ Some r → IsRecordOf w v r) → IsWire own (with_end w e') v
none_wire own w v e' h down kept = record {
  unborn = h.unborn;
  packets = h.packets;
  window = h.window;
  prefix = h.prefix;
  going = λ s on. absurd (none_some s _ (session_of_down (with_end w e') e' refl down) on);
  kept = λ d r is has. (let same : e' ≡ d = cc in let k = kept r (ap record_of same ∙ has) in record { takes = k.takes; holds = k.holds; shown = k.shown });
}

pub fell : (x y : View) (b : ℕ) (e : LinkEnd) (call : Call) → ArePaired x y → (x.wires b).end ≡ Some e → MayCall x y b call → Falls e.fsm (outcome e.fsm call)
    → ArePaired (with_wire x b (with_end (x.wires b) (after e (outcome e.fsm call)))) y
fell x y b e call h is may m =
    let w = x.wires b in
    let o = outcome e.fsm call in
    let d = with_fsm e o.after in
    let w' = with_end w d in
    let same : d ≡ after e o = sym (ap (followed (with_fsm e o.after)) m.change) in
    let old = h.here.epochs b in
    let none : session_on w' ≡ None = session_of_down w' d refl m.down in
    let now = epoch_of_end x.node w' d refl in
    let own = m.own in
    let high = m.highest in
    subst (λ (k : LinkEnd). ArePaired (with_wire x b (with_end w k)) y) same (wire_deed x y b w' h (record {
      grows = record { line = λ epoch. prefix_same (w.line epoch); got = λ epoch. prefix_same (w.got epoch); begun = λ epoch g is. is };
      end = λ k there. (let one : d ≡ k = cc in subst (IsEnd x.node b) one (fell_end x.node b e o.after (h.here.ends b e is) m.own m.peer m.highest m.down));
      wire = none_wire x.node.own w (y.wires b) d (h.here.wires b) m.down (λ r has. (h.here.wires b).kept e r is has);
      records = records_on x.node w w' (y.wires b) e d (h.here.records b) is refl (λ epoch. refl) refl (omega arith);
      highest = high_still x y b e d h is m.highest;
      epochs = record {
        unborn = λ epoch least. (let low = least.0 in begun_none x y b epoch e h is (omega arith));
        some = old.some;
        lasts = old.lasts;
        now = λ s g on there. absurd (none_some s _ none on);
        shown = old.shown;
        named = λ k f there bearer boot. (
            let n = old.named k f there bearer boot in
            let one : n.end ≡ e = same_some n.end e _ n.end_is is in
            let top : n.end.fsm.highest ≡ e.fsm.highest = ap (λ (u : LinkEnd). u.fsm.highest) one in
            let low = n.highest in
            record { end = d; end_is = refl; highest = omega arith });
        bounded = old.bounded;
        told_in = old.told_in;
        unheld = λ k f k' there bearer end same_own. absurd (
            let one : d ≡ k' = cc in
            let past = told_past x y b k f e h there bearer is in
            let at : es_of f.bytes ≡ next_epoch e.fsm.own = same_own ∙ ap (λ (u : LinkEnd). u.fsm.own) (sym one) ∙ m.own in
            let next = next_of_other e.fsm.own ((h.here.ends b e is).going m.was).4 in
            let wrong : ⊥ = omega arith in wrong);
        agree = old.agree;
        entered = old.entered;
      };
      peers = peers_called x y b w' e call h is may refl;
    }))

-- what a call does that takes a link down
pub fallen : (x y : View) (b : ℕ) (e : LinkEnd) (call : Call) (cause : Cause) → MayCall x y b call → (outcome e.fsm call).change ≡ Down cause → Falls e.fsm (outcome e.fsm call)
fallen x y b e call cause may down = (let named = call_named x y b call may in of (call_turns e.fsm call named.0 named.1)) where
  of : Turn e.fsm (shown_to call) (outcome e.fsm call) → Falls e.fsm (outcome e.fsm call)
  of (stay m) = absurd (true≢false (sym m.quiet ∙ ap is_quiet down))
  of (learn m) = absurd (let one = m.change in let wrong : ⊥ = cc in wrong)
  of (rise m) = absurd (let one = m.change in let wrong : ⊥ = cc in wrong)
  of (fall m) = m

pub falls_paired : (x y : View) (b : ℕ) (e : LinkEnd) (call : Call) (cause : Cause) → ArePaired x y → (x.wires b).end ≡ Some e → MayCall x y b call → (outcome e.fsm call).change ≡ Down cause
    → ArePaired (parted_view (with_wire x b (with_end (x.wires b) (after e (outcome e.fsm call))))) y
falls_paired x y b e call cause h is may down =
    let m = fallen x y b e call cause may down in
    parted_paired (with_wire x b (with_end (x.wires b) (after e (outcome e.fsm call)))) y (fell x y b e call h is may m) (contact_goes_on x y b e h is m.was)

-- ---- a higher contact number is shown

forgot_side : (seen : ℕ) (o : Option LinkEnd) → after_call ForgetsPeer (fsm_in o) ≡ fsm_in (option_map (forgot_with seen) o)
forgot_side seen None = refl
forgot_side seen (Some e) = refl

end_of_fsm : (o : Option LinkEnd) (f : Fsm) → fsm_in o ≡ Some f → (e : LinkEnd) × (o ≡ Some e) × (e.fsm ≡ f)
end_of_fsm None f is = absurd (let wrong : ⊥ = cc in wrong)
end_of_fsm (Some e) f is = (e, refl, (let same : e.fsm ≡ f = cc in same))

unborn_apart : (x y : View) (b epoch seen : ℕ) → ArePaired x y → IsApart x → (o : Option LinkEnd) → (x.wires b).end ≡ o → epoch_in x.node.contact (option_map (forgot_with seen) o) ≤ epoch → (x.wires b).begun epoch ≡ None
unborn_apart x y b epoch seen h apart None is least = (
    let w = x.wires b in
    let now = epoch_of_none x.node w is in
    (h.here.epochs b).unborn epoch ((let few : epoch_on x.node w ≤ epoch = omega arith in few), λ s on. absurd (none_some s _ (session_of_none w is) on)))
unborn_apart x y b epoch seen h apart (Some e) is least = (
    let w = x.wires b in
    let now = epoch_of_end x.node w e is in
    let down = apart b e is in
    let after : (forget_peer e.fsm).after.own ≡ e.fsm.own = ap (λ (f : Fsm). f.own) (forgotten-is e.fsm down) in
    (h.here.epochs b).unborn epoch ((let few : epoch_on x.node w ≤ epoch = omega arith in few), λ s on. absurd (none_some s _ (session_of_down w e is down) on)))

forgot_high : (e : LinkEnd) → is_up e.fsm.state ≡ false → (forget_peer e.fsm).after.highest ≡ e.fsm.highest
forgot_high e down = ap (λ (f : Fsm). f.highest) (forgotten-is e.fsm down)

pub shows_paired : (x y : View) (number : ℕ) → ArePaired x y → x.node.seen < number → number < 2 ^ 64 → IsApart x → IsContactShown (said_by y) number → ArePaired (risen_view x number) y
shows_paired x y number h higher fits apart shown =
    let n : Node = record x.node { seen = number } in
    let ends : ℕ → Option LinkEnd = λ b. option_map (forgot_with number) (x.wires b).end in
    let down : (b : ℕ) (f : Fsm) → fsm_in (x.wires b).end ≡ Some f → is_up f.state ≡ false = λ b f is. (
    let at = end_of_fsm (x.wires b).end f is in ap (λ (k : Fsm). is_up k.state) (sym at.2) ∙ apart b at.0 at.1) in
    let peers = subst (λ s. ArePeers s (said_by x) (side_of y) (said_by y)) (same_side x.node.contact x.node.contact number number _ _ refl refl (λ b. forgot_side number (x.wires b).end))
    (acts (side_of x) (side_of y) (said_by x) (said_by y) (HigherShown number) h.peers (higher, down)) in
    let order = ordered_acts (side_of x) (side_of y) (said_by x) (said_by y) (HigherShown number) h.order (higher, down) shown in
    rests_paired x y n ends h (record {
      own = refl;
      node = record { own = h.here.node.own; peer = h.here.node.peer; boot = h.here.node.boot; contact = h.here.node.contact; seen = fits };
      end = λ b e' is. (
          let at = mapped_end (forgot_with number) (x.wires b).end e' is in
          subst (IsEnd n b) at.2 (forgot_end x.node n b at.0 (h.here.ends b at.0 at.1) (apart b at.0 at.1) refl refl refl refl));
      none = λ b s on. down_none ((rested x n ends).wires b) s (λ e' is. (
          let at = mapped_end (forgot_with number) (x.wires b).end e' is in
          ap (λ (d : LinkEnd). is_up d.fsm.state) (sym at.2) ∙ ap (λ (f : Fsm). is_up f.state) (forgotten-is at.0.fsm (apart b at.0 at.1)))) on;
      kept = λ b e' is. (let at = mapped_end (forgot_with number) (x.wires b).end e' is in (at.0, at.1, ap record_of (sym at.2)));
      unborn = λ b epoch least. (let same = epoch_computed n ((rested x n ends).wires b) in unborn_apart x y b epoch number h apart (x.wires b).end refl (omega arith));
      records = λ b. mapped_records x.node n (x.wires b) ((rested x n ends).wires b) (y.wires b) (forgot_with number) (h.here.records b) refl refl (λ epoch. refl) (λ e is. (refl, forgot_high e (apart b e is)));
      named = λ b k f there bearer boot. mapped_named (x.wires b) ((rested x n ends).wires b) (forgot_with number) (er_of f.bytes) ((h.here.epochs b).named k f there bearer boot) refl (λ e is. forgot_high e (apart b e is));
      unheld = λ b e' is. (
          let at = mapped_end (forgot_with number) (x.wires b).end e' is in
          ap (λ (d : LinkEnd). is_held d.fsm.state) (sym at.2) ∙ ap (λ (f : Fsm). is_held f.state) (forgotten-is at.0.fsm (apart b at.0 at.1)));
      highest = λ b e' is. mapped_high x y b (forgot_with number) h (λ e there. forgot_high e (apart b e there)) e' is;
      peers = peers;
      order = ordered_still (acted (side_of x) (HigherShown number)) (side_of y) (said_by x) (said_by y) (side_of (rested x n ends)).ends order;
    })

-- ---- a link end is made

side_made : (x : View) (b : ℕ) → (x.wires b).end ≡ None → acted (side_of x) (EndMade b) ≡ side_of (with_wire x b (with_end (x.wires b) (made_on x.node b)))
side_made x b none =
    let w' = with_end (x.wires b) (made_on x.node b) in
    let at : (c : ℕ) → (if c == b then Some (fresh x.node.contact) else fsm_in (x.wires c).end) ≡ fsm_in (put_at x.wires b w' c).end =
    λ c. elim (cases_eq c b) [
      | inl same ↦ at_same c b _ _ same ∙ ap (λ (w : Wire). fsm_in w.end) (sym (ap (put_at x.wires b w') same ∙ put_same x.wires b w'))
      | inr other ↦ at_other c b _ _ other ∙ ap (λ (w : Wire). fsm_in w.end) (sym (put_other x.wires b w' c other))
    ] in
    same_side x.node.contact x.node.contact x.node.seen x.node.seen _ _ refl refl at

pub makes_paired : (x y : View) (b : ℕ) → ArePaired x y → (x.wires b).end ≡ None → ArePaired (with_wire x b (with_end (x.wires b) (made_on x.node b))) y
makes_paired x y b h none =
    let w = x.wires b in
    let d = made_on x.node b in
    let w' = with_end w d in
    let old = h.here.epochs b in
    let no : session_on w' ≡ None = session_of_down w' d refl refl in
    let now = epoch_of_end x.node w' d refl in
    let was = epoch_of_none x.node w none in
    wire_deed x y b w' h (record {
      grows = record { line = λ epoch. prefix_same (w.line epoch); got = λ epoch. prefix_same (w.got epoch); begun = λ epoch g is. is };
      end = λ k there. (let one : d ≡ k = cc in subst (IsEnd x.node b) one (made_end x.node b h.here.node));
      wire = none_wire x.node.own w (y.wires b) d (h.here.wires b) refl (λ r has. absurd (let wrong : ⊥ = cc in wrong));
      records = record {
        reached = λ epoch. reached_on x.node.boot w w' (y.wires b) epoch ((h.here.records b).reached epoch) refl (λ k r is has. absurd (none_some k _ none is));
        below = λ k r is has. (let one : d ≡ k = cc in absurd (none_some r _ (ap record_of (sym one)) has));
      };
      highest = λ k there. (let one : d ≡ k = cc in inl (ap (λ (u : LinkEnd). u.fsm.highest) (sym one)));
      epochs = record {
        unborn = λ epoch least. (let low = least.0 in old.unborn epoch ((let few : epoch_on x.node w ≤ epoch = omega arith in few), λ s on. absurd (none_some s _ (session_of_none w none) on)));
        some = old.some;
        lasts = old.lasts;
        now = λ s g on there. absurd (none_some s _ no on);
        shown = old.shown;
        named = λ k f there bearer boot. (let n = old.named k f there bearer boot in absurd (none_some n.end _ none n.end_is));
        bounded = old.bounded;
        told_in = old.told_in;
        unheld = λ k f k' there bearer end same_own. (let one : d ≡ k' = cc in ap (λ (u : LinkEnd). is_held u.fsm.state) (sym one));
        agree = old.agree;
        entered = old.entered;
      };
      peers = subst (λ s. ArePeers s (said_by x) (side_of y) (said_by y)) (side_made x b none) (acts (side_of x) (side_of y) (said_by x) (said_by y) (EndMade b) h.peers (ap fsm_in none));
    })

-- ---- the node is restarted

-- an epoch of an earlier boot is below the first number of a later one
pub earlier : (epoch boot later : ℕ) → boot_of epoch ≡ boot → boot < later → epoch < first_number later
earlier epoch boot later is more = omega arith

first_boot : (boot : ℕ) → boot_of (first_number boot) ≡ boot
first_boot boot = omega arith

unborn_restarted : (x y : View) (b epoch boot : ℕ) → ArePaired x y → x.node.boot < boot → first_number boot ≤ epoch → (o : Option LinkEnd) → (x.wires b).end ≡ o → (x.wires b).begun epoch ≡ None
unborn_restarted x y b epoch boot h more least None is = (
    let w = x.wires b in
    let now = epoch_of_none x.node w is in
    let low = earlier x.node.contact x.node.boot boot h.here.node.contact more in
    (h.here.epochs b).unborn epoch ((let few : epoch_on x.node w ≤ epoch = omega arith in few), λ s on. absurd (none_some s _ (session_of_none w is) on)))
unborn_restarted x y b epoch boot h more least (Some e) is = (
    let low = earlier e.fsm.own x.node.boot boot (h.here.ends b e is).boot more in
    let next = next_most e.fsm.own in
    begun_none x y b epoch e h is (omega arith))

-- what was taken before was taken of sessions with earlier boots
restarted_reached : (x y : View) (b epoch boot : ℕ) → ArePaired x y → x.node.boot < boot → IsReached boot ((restarted x boot).wires b) (y.wires b) epoch
restarted_reached x y b epoch boot h more = of ((y.wires b).begun epoch) refl where
  of : (o : Option Begun) → (y.wires b).begun epoch ≡ o → IsReached boot ((restarted x boot).wires b) (y.wires b) epoch
  of None is = untaken (prefix_of_none _ _ ((h.here.wires b).prefix epoch) ((h.there.wires b).unborn epoch is))
  of (Some k) is =
      let t = (h.there.epochs b).shown epoch k is in
      let old = h.peers.a_speaks.boots t.place (notice_of t.frame) (map_at notice_of x.told t.place t.frame t.there) in
      let now = h.here.node.contact in
      let es = t.es_is in
      let same : boot_of (es_of t.frame.bytes) ≡ boot_of k.peer_epoch = ap boot_of es in
      long_ago k is (omega arith)

pub restarts_paired : (x y : View) (boot : ℕ) → ArePaired x y → x.node.boot < boot → boot < 2 ^ 32 → ArePaired (restarted x boot) y
restarts_paired x y boot h more fits =
    let n : Node = record x.node { boot = boot; contact = first_number boot; seen = 0 } in
    let now = h.here.node.contact in
    let later : boot_of x.node.contact < boot = (let same = h.here.node.contact in omega arith) in
    let peers = subst (λ s. ArePeers s (said_by x) (side_of y) (said_by y)) (same_side (first_number boot) (first_number boot) 0 0 _ _ refl refl (λ b. refl))
    (acts (side_of x) (side_of y) (said_by x) (said_by y) (Restarted boot) h.peers later) in
    let order = ordered_acts (side_of x) (side_of y) (said_by x) (said_by y) (Restarted boot) h.order later tt in
    rests_paired x y n (λ b. None) h (record {
      own = refl;
      node = record { own = h.here.node.own; peer = h.here.node.peer; boot = fits; contact = first_boot boot; seen = omega arith };
      end = λ b e is. absurd (let wrong : ⊥ = cc in wrong);
      none = λ b s on. none_some s _ (session_of_none ((rested x n (λ b. None)).wires b) refl) on;
      kept = λ b e is. absurd (let wrong : ⊥ = cc in wrong);
      unborn = λ b epoch least. (let same = epoch_computed n ((rested x n (λ b. None)).wires b) in unborn_restarted x y b epoch boot h more (omega arith) (x.wires b).end refl);
      records = λ b. record { reached = λ epoch. restarted_reached x y b epoch boot h more; below = λ e r is has. absurd (let wrong : ⊥ = cc in wrong) };
      named = λ b k f there bearer of_boot. absurd (
          let old = h.peers.a_speaks.boots k (notice_of f) (map_at notice_of x.told k f there) in
          let wrong : ⊥ = omega arith in wrong);
      unheld = λ b e is. absurd (let wrong : ⊥ = cc in wrong);
      highest = λ b e is. absurd (let wrong : ⊥ = cc in wrong);
      peers = peers;
      order = ordered_still (acted (side_of x) (Restarted boot)) (side_of y) (said_by x) (said_by y) (side_of (rested x n (λ b. None))).ends order;
    })
