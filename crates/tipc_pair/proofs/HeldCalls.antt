-- An end stays held rightly in each call of a pair that takes no link up or down.
use Rattle.std.specs.Prelude.{IfSome, OnErr, OnOk, cond, min, slice_index_or}
use Rattle.std.specs.List.{count_by}
use Rattle.std.proofs.Common.{◌≡◌, ◌<◌, ◌≤◌, ◌+◌, ◌-◌, ℕ, Bool, suc, true, false, if◌then◌else◌, List, [], ◌∷◌, ◌++◌, length, take, drop, Option, Some, None, Result, Ok, Err, option_map, refl, sym, ap, ◌∙◌, subst, take-append-drop, arith}
use Rattle.std.proofs.lemmas.List.Sums.{sum_by-append, sum_by-cons}
use Rattle.tipc_types.specs.LinkStates.{is_up}
use Rattle.tipc_types.specs.declared.link_words.BroadcastState.{BroadcastState}
use Rattle.tipc_outside.specs.Frames.{Out}
use Rattle.tipc_outside.specs.declared.outgoing.Outgoing.{Outgoing}
use Rattle.tipc_bundle.specs.Bundles.{joined}
use Rattle.tipc_link.specs.Links.{LinkEnd, answered_with, mended_end, tunnels_of, with_session}
use Rattle.tipc_link.specs.Records.{is_tunnel}
use Rattle.tipc_link.specs.Sessions.{IsPut, SessionEnd, answered, flushed, joins, last_of, waits, with_broadcast}
use Rattle.tipc_send_window.specs.Sending.{room}
use Rattle.tipc_link_fsm.specs.Table.{Fsm, is_held}
use Rattle.tipc_pair.specs.Courses.{Course}
use Rattle.tipc_pair.specs.Facing.{PairEnds, facing, turned, with_made, with_near}
use Rattle.tipc_pair.specs.PairCalls.{SendsWithin, answered_at, at_bearer, mended_near}
use Rattle.tipc_pair.specs.PairFacts.{AreHeldRightly, HasCarrier}
use Rattle.tipc_pair.proofs.HeldLaws.{rightly_facing}
use Rattle.tipc_pair.proofs.PairSends.{PutNear, bearer_stays}
use Rattle.tipc_pair.proofs.Putting.{carries_plain}

-- another near end, in the same state, that has tunnel packets where the other had
pub record StaysRight (e e' : LinkEnd) : Type 0 where
  pub fsm : e'.fsm ≡ e.fsm
  pub tunnels : 0 < tunnels_of e.session → 0 < tunnels_of e'.session

carrier_kept : (o : Option LinkEnd) (e e' : LinkEnd) → StaysRight e e' → IfSome o (HasCarrier (Some e)) → IfSome o (HasCarrier (Some e'))
carrier_kept None e e' s h = h
carrier_kept (Some f) e e' s h = record { up = λ held. ap (λ (k : Fsm). is_up k.state) s.fsm ∙ h.up held; tunnel = λ held. s.tunnels (h.tunnel held) }

pub near_right : (x : PairEnds) (e e' : LinkEnd) → x.near ≡ Some e → StaysRight e e' → AreHeldRightly x → AreHeldRightly (with_near x e')
near_right x e e' near s h =
    let was = subst (λ o. IfSome o (HasCarrier x.far)) near h.near in
    record {
      near = record { up = λ held. was.up (sym (ap (λ (k : Fsm). is_held k.state) s.fsm) ∙ held); tunnel = λ held. was.tunnel (sym (ap (λ (k : Fsm). is_held k.state) s.fsm) ∙ held) };
      far = carrier_kept x.far e e' s (subst (λ o. IfSome x.far (HasCarrier o)) near h.far);
    }

new_carrier : (o : Option LinkEnd) (e : LinkEnd) → IfSome o (HasCarrier None) → IfSome o (HasCarrier (Some e))
new_carrier None e h = h
new_carrier (Some f) e h = record { up = λ held. absurd (let no = h.up held in let wrong : ⊥ = cc in wrong); tunnel = λ held. absurd (let no = h.up held in let wrong : ⊥ = cc in wrong) }

pub made_right : (x : PairEnds) → x.near ≡ None → AreHeldRightly x → AreHeldRightly (with_made x)
made_right x none h = record {
  near = record { up = λ held. absurd (let wrong : ⊥ = cc in wrong); tunnel = λ held. absurd (let wrong : ⊥ = cc in wrong) };
  far = new_carrier x.far _ (subst (λ o. IfSome x.far (HasCarrier o)) none h.far);
}

pub mended_right : (x : PairEnds) (o : Option LinkEnd) → x.near ≡ o → AreHeldRightly x → AreHeldRightly (mended_near x o)
mended_right x None near h = h
mended_right x (Some e) near h = near_right x e (mended_end e) near (record { fsm = refl; tunnels = λ some. some }) h

answered_tunnels : (o : Option SessionEnd) (taken : ℕ) (asks : Bool) → tunnels_of (option_map (λ s. answered (with_broadcast s taken asks)) o) ≡ tunnels_of o
answered_tunnels None taken asks = refl
answered_tunnels (Some s) taken asks = refl

pub answered_stays : (e : LinkEnd) (taken : ℕ) (asks : Bool) → StaysRight e (answered_with e taken asks)
answered_stays e taken asks = elim (is_up e.fsm.state) as (λ t. StaysRight e (if t then record e { session = option_map (λ s. answered (with_broadcast s taken asks)) e.session } else e)) [
  | true ↦ record { fsm = refl; tunnels = λ some. subst (λ n. 0 < n) (sym (answered_tunnels e.session taken asks)) some }
  | false ↦ record { fsm = refl; tunnels = λ some. some }
]

pub answered_right : (x : PairEnds) (o : Option LinkEnd) (taken : ℕ) (asks : Bool) (shown : BroadcastState) → x.near ≡ o → AreHeldRightly x → AreHeldRightly (answered_at x o taken asks shown).pair
answered_right x None taken asks shown near h = h
answered_right x (Some e) taken asks shown near h = near_right x e (answered_with e taken asks) near (answered_stays e taken asks) h

count_more : (ps qs : List (List ℕ)) → count_by is_tunnel (ps ++ qs) ≡ count_by is_tunnel ps + count_by is_tunnel qs
count_more ps qs = sum_by-append (λ (p : List ℕ). cond (is_tunnel p) 1 0) ps qs

abbrev tunnels_in : SessionEnd → ℕ
tunnels_in s = count_by is_tunnel s.sending.unacked + count_by is_tunnel s.sending.waiting

flushed_tunnels : (s : SessionEnd) → tunnels_in (flushed s) ≡ tunnels_in s
unfolding flushed
flushed_tunnels s =
    let n = room s.sending in
    let w = s.sending.waiting in
    let one = count_more s.sending.unacked (take n w) in
    let two : count_by is_tunnel w ≡ count_by is_tunnel (take n w) + count_by is_tunnel (drop n w) = ap (count_by is_tunnel) (sym (take-append-drop n w)) ∙ count_more (take n w) (drop n w) in
    omega arith

last_split : (xs : List (List ℕ)) → 0 < length xs → xs ≡ take (length xs - 1) xs ++ slice_index_or xs (length xs - 1) [] ∷ []
last_split [] some = absurd (let wrong : ⊥ = omega arith in wrong)
last_split (y ∷ []) some = refl
last_split (y ∷ z ∷ xs) some =
    let n : length (y ∷ z ∷ xs) - 1 ≡ suc (length (z ∷ xs) - 1) = omega arith in
    ap (λ ys. y ∷ ys) (last_split (z ∷ xs) (omega arith)) ∙ ap (λ k. take k (y ∷ z ∷ xs) ++ slice_index_or (y ∷ z ∷ xs) k [] ∷ []) (sym n)

put_tunnels : (s v : SessionEnd) (pieces : List (List ℕ)) → IsPut s pieces v → tunnels_in s ≤ tunnels_in v
put_tunnels s _ _ (waits pieces alone) = (let more = count_more s.sending.waiting pieces in omega arith)
put_tunnels s _ _ (joins packets packet may) =
    let w = s.sending.waiting in
    let plain = carries_plain (last_of s) packets may.last in
    let split = ap (count_by is_tunnel) (last_split w may.waits) ∙ count_more (take (length w - 1) w) (last_of s ∷ []) in
    let one : count_by is_tunnel (last_of s ∷ []) ≡ 0 = sum_by-cons (λ (p : List ℕ). cond (is_tunnel p) 1 0) (last_of s) [] ∙ ap (λ t. cond t 1 0 + count_by is_tunnel []) plain in
    let more = count_more (take (length w - 1) w) (joined (packets ++ packet ∷ []) ∷ []) in
    omega arith

put_stays : (e : LinkEnd) (s v : SessionEnd) (pieces : List (List ℕ)) → e.session ≡ Some s → IsPut s pieces v → StaysRight e (with_session e (flushed v))
put_stays e s v pieces is h = record {
  fsm = refl;
  tunnels = λ some. (
      let before : 0 < min (tunnels_in s) 4294967295 = subst (λ o. 0 < tunnels_of o) is some in
      let more = put_tunnels s v pieces h in
      let same = flushed_tunnels v in
      let after : 0 < min (tunnels_in (flushed v)) 4294967295 = omega arith in
      after);
}

pub at_right : (b : ℕ) (x : PairEnds) (call : PairEnds → Course) → AreHeldRightly (call (facing b x)).pair → AreHeldRightly (at_bearer b x call).pair
at_right b x call h = rightly_facing x.bearer (call (facing b x)).pair h

pub sent_right : (x x' : PairEnds) (pieces : List (List ℕ)) (limit : ℕ) (frames : List Outgoing) → SendsWithin x pieces limit x' frames → AreHeldRightly x → AreHeldRightly x'
sent_right x x' pieces limit frames s h =
    let p = s.puts in
    subst AreHeldRightly (sym s.after) (rightly_facing x.bearer s.near (subst AreHeldRightly (sym p.after) (near_right (facing s.bearer x) p.end (with_session p.end (flushed p.put)) p.end_is (put_stays p.end p.session p.put pieces p.session_is p.is_put) (rightly_facing s.bearer x h))))

-- the same of a pair that is seen from the other link
pub turned_right : (x : PairEnds) → AreHeldRightly x → AreHeldRightly (turned x)
turned_right x h = record { near = h.far; far = h.near }

-- packets that the near link was given, or that it didn't take
pub put_right : {T F : Type 0} (r : Result T F) (x now : PairEnds) (pieces : List (List ℕ)) (limit : ℕ) (a b : Out) → OnOk r (PutNear x pieces limit now a b) → OnErr r ((now ≡ x) × (b ≡ a))
    → AreHeldRightly x → (now.bearer ≡ x.bearer) × AreHeldRightly now
put_right (Err fault) x now pieces limit a b put kept h = (ap (λ (y : PairEnds). y.bearer) kept.0, subst AreHeldRightly (sym kept.0) h)
put_right (Ok done) x now pieces limit a b put kept h =
    let p = put.1.0 in (
      bearer_stays x now pieces put.0 p,
      subst AreHeldRightly (sym p.after) (near_right x p.end (with_session p.end (flushed p.put)) p.end_is (put_stays p.end p.session p.put pieces p.session_is p.is_put) h),
    )
