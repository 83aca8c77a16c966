-- The last link that is up goes down, and the contact ends: each end of the pair says RESET.
use Rattle.std.specs.List.{flat_map}
use Rattle.std.proofs.Common.{◌≡◌, ◌≤◌, ◌+◌, ℕ, false, [], ◌++◌, Option, Some, None, option_map, refl, sym, ap, ◌∙◌, subst, arith}
use Rattle.std.proofs.lemmas.Grind.{flat_map-append}
use Rattle.tipc_types.specs.declared.link_words.Cause.{Cause}
use Rattle.tipc_outside.specs.declared.outgoing.Outgoing.{Outgoing}
use Rattle.tipc_link.specs.Links.{LinkEnd, after, reset_frames}
use Rattle.tipc_link.proofs.Ends.{ended-is, seen_after}
use Rattle.tipc_link.proofs.LinkLaw.{Each, Each-append, Each-none}
use Rattle.tipc_link_fsm.specs.declared.changes.Change.TheVariants.{Down}
use Rattle.tipc_link_fsm.specs.Runs.{Call, outcome}
use Rattle.tipc_link_fsm.specs.Table.{Fsm, is_held}
use Rattle.tipc_pair.specs.Changeovers.{parted as parted_pair, parted_end}
use Rattle.tipc_pair.specs.Facing.{PairEnds, ends_of, facing, made_of, other, with_near}
use Rattle.tipc_paired.proofs.contacts.ContactDeeds.{mapped_end}
use Rattle.tipc_paired.proofs.PairedLaw.{all_paired, does_paired}
use Rattle.tipc_paired.proofs.wires.Wires.{on_put}
use Rattle.tipc_paired.specs.Deeds.{DoesDeed, MayCall, MayTell, changes, ended_with, falls, parted_view}
use Rattle.tipc_paired.specs.Paired.{ArePaired}
use Rattle.tipc_paired.specs.Views.{View, Wire, with_end, with_wire}
use Rattle.tipc_two_nodes.proofs.deeds.Calling.{of_told, resets_may, resets_on}
use Rattle.tipc_two_nodes.proofs.deeds.Chains.{did_as, did_quietly, did_tell, did_then, told_all}
use Rattle.tipc_two_nodes.proofs.deeds.Pairs.{of_facing, of_near}
use Rattle.tipc_pair.proofs.turns.PairKept.{facing_bearer}
use Rattle.tipc_two_nodes.specs.deeds.PairDeeds.{Did, IsOfPair, none_more}

-- ---- the ends of a pair say RESET

told_at : (v y : View) (b : ℕ) (o : Option LinkEnd) → ArePaired v y → (v.wires b).end ≡ o → ((e : LinkEnd) → (v.wires b).end ≡ Some e → is_held e.fsm.state ≡ false)
    → Did v y (told_all v y b (flat_map reset_frames (made_of o))) (flat_map reset_frames (made_of o)) none_more none_more
told_at v y b None h is unheld = did_tell v y b [] (Each-none (MayTell (v.wires b))) (Each-none (λ (q : Outgoing). q.bearer ≡ b))
told_at v y b (Some e) h is unheld = did_tell v y b (reset_frames e ++ []) (Each-append (MayTell (v.wires b)) (reset_frames e) [] (resets_may v y b e is (unheld e is)) (Each-none (MayTell (v.wires b))))
    (Each-append (λ (q : Outgoing). q.bearer ≡ b) (reset_frames e) [] (resets_on b e (h.here.ends b e is).bearer_is) (Each-none (λ (q : Outgoing). q.bearer ≡ b)))

-- the end of a bearer
end_at : (v : View) (b : ℕ) (x : PairEnds) → IsOfPair v x → b ≤ 1 → (v.wires b).end ≡ (facing b x).near
end_at v b x h two = ap (λ c. (v.wires c).end) (sym (facing_bearer b x two h.two_bearers)) ∙ (of_facing v b x h).near

pub all_told : (v y : View) (x : PairEnds) → ArePaired v y → IsOfPair v x → ((b : ℕ) (e : LinkEnd) → (v.wires b).end ≡ Some e → is_held e.fsm.state ≡ false)
    → (last : View) × Did v y last (flat_map reset_frames (ends_of x)) none_more none_more × IsOfPair last x
all_told v y x h pair unheld =
    let first = (facing 0 x).near in
    let second = (facing 1 x).near in
    let a = told_at v y 0 first h (end_at v 0 x pair (omega arith)) (unheld 0) in
    let mid = told_all v y 0 (flat_map reset_frames (made_of first)) in
    let h' = all_paired v y mid h a.does in
    let b = told_at mid y 1 second h' (end_at v 1 x pair (omega arith)) (unheld 1) in
    let last = told_all mid y 1 (flat_map reset_frames (made_of second)) in
    let all = flat_map-append reset_frames (made_of first) (made_of second) in (
      last,
      did_as v y last (flat_map reset_frames (made_of first) ++ flat_map reset_frames (made_of second)) (flat_map reset_frames (ends_of x)) none_more none_more none_more none_more
          (did_then v y mid last _ _ none_more none_more none_more none_more a b) (λ P each. subst (Each P) (sym all) each) (λ c k. refl) (λ c k. refl),
      of_told mid x y 1 _ (of_told v x y 0 _ pair),
    )

-- ---- the contact ends

ended_as : (c next seen : ℕ) (e : LinkEnd) → c ≡ next → e.peer_contact ≡ seen → ended_with c e ≡ parted_end next seen e
ended_as c next seen e same shows = ap (λ n. ended_with n e) same ∙ ap (λ n. parted_end next n e) shows

mapped_as : (c next seen : ℕ) (o shown : Option LinkEnd) → o ≡ shown → c ≡ next → ((e : LinkEnd) → o ≡ Some e → e.peer_contact ≡ seen) → option_map (ended_with c) o ≡ option_map (parted_end next seen) shown
mapped_as c next seen o None is same shows = ap (option_map (ended_with c)) is
mapped_as c next seen o (Some e) is same shows = ap (option_map (ended_with c)) is ∙ ap Some (ended_as c next seen e same (shows e is))

of_parted : (v : View) (x : PairEnds) → IsOfPair v x → ((b : ℕ) (e : LinkEnd) → (v.wires b).end ≡ Some e → e.peer_contact ≡ x.seen) → IsOfPair (parted_view v) (parted_pair x)
of_parted v x h shows =
    let next : v.node.contact + 1 ≡ x.contact + 1 = ap (λ n. n + 1) h.contact in
    record {
      own = h.own;
      peer = h.peer;
      contact = next;
      seen = h.seen;
      two_bearers = h.two_bearers;
      near = mapped_as (v.node.contact + 1) (x.contact + 1) x.seen (v.wires x.bearer).end x.near h.near next (shows x.bearer);
      far = mapped_as (v.node.contact + 1) (x.contact + 1) x.seen (v.wires (other x.bearer)).end x.far h.far next (shows (other x.bearer));
      alone = λ b more. ap (option_map (ended_with (v.node.contact + 1))) (h.alone b more);
    }

-- a call takes the last link down, and the contact is over
abbrev pub fallen_view : View → ℕ → LinkEnd → View
fallen_view v b d = parted_view (with_wire v b (with_end (v.wires b) d))

pub fallen_did : (v y : View) (b : ℕ) (e : LinkEnd) (call : Call) (cause : Cause) → (v.wires b).end ≡ Some e → MayCall v y b call → (outcome e.fsm call).change ≡ Down cause → Did v y (fallen_view v b (after e (outcome e.fsm call))) [] none_more none_more
fallen_did v y b e call cause is may down =
    let w' = with_end (v.wires b) (after e (outcome e.fsm call)) in
    did_quietly v y (parted_view (with_wire v b w')) (changes _ (falls b e call cause is may down)) refl (λ c k. on_put v.wires b w' (λ c (w : Wire). w.line k ≡ (v.wires c).line k) refl (λ c. refl) c) (λ c k. on_put v.wires b w' (λ c (w : Wire). w.got k ≡ (v.wires c).got k) refl (λ c. refl) c)

-- then each end says RESET
pub ended_told : (v y : View) (x : PairEnds) (e : LinkEnd) (call : Call) (cause : Cause) → ArePaired v y → IsOfPair v x → x.near ≡ Some e → MayCall v y x.bearer call → (outcome e.fsm call).change ≡ Down cause
    → (last : View) × Did (fallen_view v x.bearer (after e (outcome e.fsm call))) y last (flat_map reset_frames (ends_of (parted_pair (with_near x (after e (outcome e.fsm call)))))) none_more none_more
    × IsOfPair (fallen_view v x.bearer (after e (outcome e.fsm call))) (parted_pair (with_near x (after e (outcome e.fsm call)))) × IsOfPair last (parted_pair (with_near x (after e (outcome e.fsm call))))
ended_told v y x e call cause h pair near_is may down =
    let b = x.bearer in
    let o = outcome e.fsm call in
    let d = after e o in
    let w' = with_end (v.wires b) d in
    let v0 = with_wire v b w' in
    let v1 = parted_view v0 in
    let end_is = pair.near ∙ near_is in
    let one : DoesDeed v y v1 = changes v1 (falls b e call cause end_is may down) in
    let h1 = does_paired v y v1 h one in
    let pair0 : IsOfPair v0 (with_near x d) = of_near v x w' d pair refl in
    let shows : (c : ℕ) (f : LinkEnd) → (v0.wires c).end ≡ Some f → f.peer_contact ≡ x.seen =
    on_put v.wires b w' (λ c (w : Wire). (f : LinkEnd) → w.end ≡ Some f → f.peer_contact ≡ x.seen)
    (λ f is. (let same : d ≡ f = cc in ap (λ (k : LinkEnd). k.peer_contact) (sym same) ∙ seen_after e o ∙ (h.here.ends b e end_is).seen ∙ pair.seen))
    (λ c f is. (h.here.ends c f is).seen ∙ pair.seen) in
    let pair1 = of_parted v0 (with_near x d) pair0 shows in
    let unheld : (c : ℕ) (f : LinkEnd) → (v1.wires c).end ≡ Some f → is_held f.fsm.state ≡ false = λ c f is. (
    let at = mapped_end (ended_with (v.node.contact + 1)) (v0.wires c).end f is in
    ap (λ (k : LinkEnd). is_held k.fsm.state) (sym at.2) ∙ ap (λ (k : Fsm). is_held k.state) (ended-is at.0.fsm)) in
    let told = all_told v1 y (parted_pair (with_near x d)) h1 pair1 unheld in
    (told.0, told.1, pair1, told.2)

pub ended_takes : (v y : View) (x : PairEnds) (e : LinkEnd) (call : Call) (cause : Cause) → ArePaired v y → IsOfPair v x → x.near ≡ Some e → MayCall v y x.bearer call → (outcome e.fsm call).change ≡ Down cause
    → (last : View) × Did v y last (flat_map reset_frames (ends_of (parted_pair (with_near x (after e (outcome e.fsm call)))))) none_more none_more × IsOfPair last (parted_pair (with_near x (after e (outcome e.fsm call))))
ended_takes v y x e call cause h pair near_is may down =
    let told = ended_told v y x e call cause h pair near_is may down in
    (told.0, did_then v y (fallen_view v x.bearer (after e (outcome e.fsm call))) told.0 [] _ none_more none_more none_more none_more (fallen_did v y x.bearer e call cause (pair.near ∙ near_is) may down) told.1, told.3)
