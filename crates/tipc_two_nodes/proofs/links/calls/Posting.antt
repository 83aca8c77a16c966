-- The packets of a message are put on the active link of a pair.
use Rattle.std.proofs.Common.{◌≡◌, ◌≢◌, ◌==◌, ◌≤◌, ℕ, ◌+◌, ◌-◌, true, false, if◌then◌else◌, List, [], ◌∷◌, ◌++◌, Option, Some, None, length, refl, sym, ap, ◌∙◌, subst, inl, inr, arith, length-append}
use Rattle.std.proofs.lemmas.Bool.{cases_Bool}
use Rattle.std.proofs.lemmas.List.Elements.{All-append}
use Rattle.tipc_outside.specs.declared.outgoing.Outgoing.{Outgoing}
use Rattle.tipc_bundle.specs.Bundles.{IsInner, joined}
use Rattle.tipc_link.specs.Links.{LinkEnd, with_session}
use Rattle.tipc_link.specs.Records.{is_tunnel}
use Rattle.tipc_link.specs.Sessions.{IsPut, MayJoin, SessionEnd, flushed, joins, last_of, moving, put, waits, with_last as with_last_packet}
use Rattle.tipc_send_window.specs.Sending.{advanced, room}
use Rattle.tipc_pair.specs.Facing.{PairEnds, active_of, facing, is_up_at, with_near, turned as turned_pair}
use Rattle.tipc_pair.specs.PairCalls.{Puts, SendsWithin}
use Rattle.tipc_pair.proofs.Facings.{facing_far, facing_near}
use Rattle.tipc_pair.proofs.Pieces.{All-one}
use Rattle.tipc_pair.proofs.Putting.{carries_plain}
use Rattle.tipc_changeover.specs.Links.{leads, other, turned_state, Bearer, EndState, First, Held, Reset, Second, State, Up}
use Rattle.tipc_changeover.specs.Sound.{Sound}
use Rattle.tipc_two_nodes.specs.links.Traffic.{Traffic, turned_traffic as turned_traffic}
use Rattle.tipc_two_nodes.specs.links.Sending.{StandFor, end_seen, ends_seen}
use Rattle.tipc_two_nodes.specs.links.Following.{Become}
use Rattle.tipc_two_nodes.specs.links.Steps.{ArePlain, near_more, near_window, with_last_put, with_put}
use Rattle.tipc_two_nodes.specs.links.Ends.{IsUpAt, StaysUp, session_by, up_beside}
use Rattle.tipc_two_nodes.specs.links.Turning.{AreEnds, RunsWhereUp}
use Rattle.tipc_two_nodes.specs.links.Acting.{Acted, Acts, acts, put_in}
use Rattle.tipc_two_nodes.proofs.links.calls.Acted.{ActedNear, acted_back, near_acted, near_first}
use Rattle.tipc_two_nodes.proofs.links.calls.FollowingOn.{far_not_up}
use Rattle.tipc_two_nodes.proofs.links.sender.Happening.{sound_turned}
use Rattle.tipc_two_nodes.proofs.links.sender.LinkSteps.{after_seen, joins_on, near_seen, puts_on}
use Rattle.tipc_two_nodes.proofs.links.calls.Stepping.{numbers_moved}
use Rattle.tipc_two_nodes.proofs.links.calls.Ticking.{far_differs}
use Rattle.tipc_two_nodes.proofs.links.sender.Turning.{stand_turned}

-- ---- packets that wait for others are no tunnel packets

joins_plain : (s : SessionEnd) (packets : List (List ℕ)) (packet : List ℕ) → MayJoin s packets packet → is_tunnel (joined (packets ++ packet ∷ [])) ≡ false
joins_plain s packets packet may =
    let all = packets ++ packet ∷ [] in
    let fits : length (joined all) ≤ 1452 = may.fits in
    carries_plain (joined all) all (record {
      some = omega (arith, length-append packets (packet ∷ []));
      inner = All-append IsInner packets (packet ∷ []) may.last.inner (All-one IsInner packet may.inner);
      joined = refl;
      size = omega arith;
    })

-- ---- on the near link

-- another window of the near link, in which packets moved up
moved_near : (b : Bearer) (x : PairEnds) (e : LinkEnd) (s : SessionEnd) (v : SessionEnd) (t : Traffic) (z : State) → IsUpAt x.bearer x.near e s → v.sending.numbered ≡ s.sending.numbered
    → Become b (ends_seen (with_near x (with_session e (flushed v)))) (near_more t (e.fsm.own + 1 - t.near.first) (moving v)) z → ActedNear b (ends_seen x) (ends_seen (with_near x (with_session e (flushed v)))) t z
unfolding flushed
moved_near b x e s v t z k count B =
    let w = v.sending in
    let e' = with_session e (flushed v) in
    let stays : StaysUp e e' (advanced (room w) w) = record { own = refl; up = k.up; session = flushed v; session_is = refl; window_is = refl } in
    let X = up_beside x e s in
    let Y = near_window X (advanced (room w) w) in
    let acted : ActedNear b X Y t z = record {
      packets = moving v;
      near_is = numbers_moved X.near e.fsm.own w count;
      count = refl;
      state = refl;
      become = subst (λ q. Become b q (near_more t (session_by t.near Y.near) (moving v)) z) (after_seen x e e' s (advanced (room w) w) stays) B;
    } in
    near_first b (ends_seen x) X (ends_seen (with_near x e')) Y t z (sym (near_seen x e s k)) (sym (after_seen x e e' s (advanced (room w) w) stays)) acted

put_acted : (b : Bearer) (x : PairEnds) (e : LinkEnd) (s v : SessionEnd) (pieces : List (List ℕ)) (t : Traffic) (z : State) → IsUpAt x.bearer x.near e s → leads b Up (end_seen x.contact x.far).state ≡ true → ArePlain pieces → (h : IsPut s pieces v) → StandFor b (ends_seen x) t z → Sound b z
    → ActedNear b (ends_seen x) (ends_seen (with_near x (with_session e (flushed v)))) (put_in t h) z
put_acted b x e s v pieces t z k leading plain (joins packets packet may) stand sound =
    let bundle = joined (packets ++ packet ∷ []) in
    let some = may.waits in
    moved_near b x e s (with_last_packet s bundle) (with_last_put t bundle) z k refl
    (joins_on b x e s bundle t z k (omega arith) (carries_plain (last_of s) packets may.last) (joins_plain s packets packet may) stand sound)
put_acted b x e s v pieces t z k leading plain (waits others alone) stand sound =
    moved_near b x e s (put s others) (with_put t others) z k refl (puts_on b x e s others t z k leading plain stand)

same_session : (o : Option SessionEnd) (s u : SessionEnd) → o ≡ Some s → o ≡ Some u → s ≡ u
same_session o s u is same = let both : Some s ≡ Some u = sym is ∙ same in cc

pub near_puts : (b : Bearer) (x x' : PairEnds) (pieces : List (List ℕ)) (frames : List Outgoing) (t : Traffic) (z : State) → RunsWhereUp x.bearer x.near → is_up_at x.near ≡ true → leads b Up (end_seen x.contact x.far).state ≡ true → ArePlain pieces → (h : Puts x pieces x' frames)
    → StandFor b (ends_seen x) t z → Sound b z → ActedNear b (ends_seen x) (ends_seen x') (put_in t h.is_put) z
near_puts b x x' pieces frames t z runs up leading plain h stand sound =
    let e = h.end in
    let r = runs e h.end_is (ap is_up_at (sym h.end_is) ∙ up) in
    let k = subst (λ s. IsUpAt x.bearer x.near e s) (same_session e.session r.session h.session r.up_at.session_is h.session_is) r.up_at in
    subst (λ y. ActedNear b (ends_seen x) (ends_seen y) (put_in t h.is_put) z) (sym h.after) (put_acted b x e h.session h.put pieces t z k leading plain h.is_put stand sound)

-- ---- the active link

-- bearer 0's link where that is up, else bearer 1's
pub data Leads (first second : Option LinkEnd) (bearer : ℕ) : Type 0 where
  one : bearer ≡ 0 → is_up_at first ≡ true → Leads first second bearer
  two : bearer ≡ 1 → is_up_at first ≡ false → is_up_at second ≡ true → Leads first second bearer

none_some : (n : ℕ) → ◌≡◌ {A = Option ℕ} None (Some n) → ⊥
none_some n wrong = cc

pub which_leads : (first second : Option LinkEnd) (bearer : ℕ) → active_of first second ≡ Some bearer → Leads first second bearer
which_leads first second bearer is = elim (cases_Bool (is_up_at first)) [
  | inl up ↦ one (let same : Some 0 ≡ Some bearer = sym (ap (λ b. if b then Some 0 else (if is_up_at second then Some 1 else None)) up) ∙ is in let zero_is : 0 ≡ bearer = cc in sym zero_is) up
  | inr down ↦ elim (cases_Bool (is_up_at second)) [
    | inl up ↦ (
        let step : active_of first second ≡ Some 1 = ap (λ b. if b then Some 0 else (if is_up_at second then Some 1 else None)) down ∙ ap (λ b. if b then Some 1 else None) up in
        let same : Some 1 ≡ Some bearer = sym step ∙ is in
        let one_is : 1 ≡ bearer = cc in
        two (sym one_is) down up)
    | inr none ↦ absurd (
        let step : active_of first second ≡ None = ap (λ b. if b then Some 0 else (if is_up_at second then Some 1 else None)) down ∙ ap (λ b. if b then Some 1 else None) none in
        none_some bearer (sym step ∙ is))
  ]
]

second_leads : (state : EndState) → state ≢ Up → leads Second Up state ≡ true
second_leads Up other = absurd (other refl)
second_leads Reset other = refl
second_leads Held other = refl

-- the same puts, of a pair that is the same
puts_at : (x y near : PairEnds) (pieces : List (List ℕ)) (frames : List Outgoing) → x ≡ y → Puts x pieces near frames → Puts y pieces near frames
puts_at x y near pieces frames same h = record {
  end = h.end;
  end_is = ap (λ (q : PairEnds). q.near) (sym same) ∙ h.end_is;
  session = h.session;
  session_is = h.session_is;
  put = h.put;
  is_put = h.is_put;
  after = h.after ∙ ap (λ q. with_near q (with_session h.end (flushed h.put))) same;
  frames_are = h.frames_are;
}

put_turned : {s v : SessionEnd} {pieces : List (List ℕ)} (t : Traffic) (h : IsPut s pieces v) → put_in (turned_traffic t) h ≡ turned_traffic (put_in t h)
put_turned t (joins packets packet may) = refl
put_turned t (waits pieces alone) = refl

-- on the near link of a pair, which is the active one
here_acts : (b : Bearer) (x x' y near : PairEnds) (pieces : List (List ℕ)) (frames : List Outgoing) (t : Traffic) (z : State) → AreEnds x → y ≡ x → is_up_at y.near ≡ true → leads b Up (end_seen x.contact x.far).state ≡ true → ArePlain pieces → (h : Puts y pieces near frames)
    → x' ≡ facing x.bearer near → StandFor b (ends_seen x) t z → Sound b z → Acts b x x' (put_in t h.is_put) z
unfolding puts_at
here_acts b x x' y near pieces frames t z ends same up leading plain h is stand sound =
    let k = puts_at y x near pieces frames same h in
    let A = near_puts b x near pieces frames t z ends.near (ap (λ (q : PairEnds). is_up_at q.near) (sym same) ∙ up) leading plain k stand sound in
    let bearer : near.bearer ≡ x.bearer = ap (λ (q : PairEnds). q.bearer) k.after in
    let after : x' ≡ near = is ∙ facing_near x.bearer near bearer in
    let contact : near.contact ≡ x.contact = ap (λ (q : PairEnds). q.contact) k.after in
    subst (λ q. Acts b x q (put_in t h.is_put) z) (sym after) (acts contact (near_acted b (ends_seen x) (ends_seen near) (put_in t h.is_put) z A))

-- or on the far one
there_acts : (b : Bearer) (x x' y near : PairEnds) (pieces : List (List ℕ)) (frames : List Outgoing) (t : Traffic) (z : State) → AreEnds x → y ≡ turned_pair x → is_up_at y.near ≡ true → leads (other b) Up (end_seen x.contact x.near).state ≡ true → ArePlain pieces → (h : Puts y pieces near frames)
    → x' ≡ facing x.bearer near → StandFor b (ends_seen x) t z → Sound b z → Acts b x x' (put_in t h.is_put) z
unfolding puts_at
there_acts b x x' y near pieces frames t z ends same up leading plain h is stand sound =
    let k = puts_at y (turned_pair x) near pieces frames same h in
    let far = stand_turned b (ends_seen x) t z stand in
    let A = near_puts (other b) (turned_pair x) near pieces frames (turned_traffic t) (turned_state z) ends.far (ap (λ (q : PairEnds). is_up_at q.near) (sym same) ∙ up) leading plain k far (sound_turned b z sound) in
    let there = near_acted (other b) (ends_seen (turned_pair x)) (ends_seen near) (put_in (turned_traffic t) h.is_put) (turned_state z) A in
    let back = acted_back b x near (put_in t h.is_put) z (subst (λ u. Acted (other b) (ends_seen (turned_pair x)) (ends_seen near) u (turned_state z)) (put_turned t h.is_put) there) in
    let bearer : near.bearer ≡ 1 - x.bearer = ap (λ (q : PairEnds). q.bearer) k.after in
    let low = ends.two_bearers in
    let after : x' ≡ turned_pair near = is ∙ facing_far x.bearer near (far_differs x.bearer near.bearer low bearer) in
    let contact : near.contact ≡ x.contact = ap (λ (q : PairEnds). q.contact) k.after in
    subst (λ q. Acts b x q (put_in t h.is_put) z) (sym after) (acts contact back)

-- ---- the call

send_first : (b : Bearer) (x x' : PairEnds) (pieces : List (List ℕ)) (limit : ℕ) (frames : List Outgoing) (t : Traffic) (z : State) → AreEnds x → ArePlain pieces → (h : SendsWithin x pieces limit x' frames) → h.bearer ≡ 0 → is_up_at (facing 0 x).near ≡ true
    → StandFor b (ends_seen x) t z → Sound b z → Acts b x x' (put_in t h.puts.is_put) z
send_first First x x' pieces limit frames t z ends plain h zero_is up stand sound =
    let face : facing h.bearer x ≡ x = ap (λ n. facing n x) zero_is ∙ facing_near 0 x stand.bearer in
    here_acts First x x' (facing h.bearer x) h.near pieces frames t z ends face (ap (λ n. is_up_at (facing n x).near) zero_is ∙ up) refl plain h.puts h.after stand sound
send_first Second x x' pieces limit frames t z ends plain h zero_is up stand sound =
    let face : facing h.bearer x ≡ turned_pair x = ap (λ n. facing n x) zero_is ∙ facing_far 0 x (ap (λ n. n == 0) stand.bearer) in
    there_acts Second x x' (facing h.bearer x) h.near pieces frames t z ends face (ap (λ n. is_up_at (facing n x).near) zero_is ∙ up) refl plain h.puts h.after stand sound

send_second : (b : Bearer) (x x' : PairEnds) (pieces : List (List ℕ)) (limit : ℕ) (frames : List Outgoing) (t : Traffic) (z : State) → AreEnds x → ArePlain pieces → (h : SendsWithin x pieces limit x' frames) → h.bearer ≡ 1 → is_up_at (facing 0 x).near ≡ false → is_up_at (facing 1 x).near ≡ true
    → StandFor b (ends_seen x) t z → Sound b z → Acts b x x' (put_in t h.puts.is_put) z
send_second First x x' pieces limit frames t z ends plain h one_is down up stand sound =
    let face : facing h.bearer x ≡ turned_pair x = ap (λ n. facing n x) one_is ∙ facing_far 1 x (ap (λ n. n == 1) stand.bearer) in
    let first_down : is_up_at x.near ≡ false = ap (λ (q : PairEnds). is_up_at q.near) (sym (facing_near 0 x stand.bearer)) ∙ down in
    there_acts First x x' (facing h.bearer x) h.near pieces frames t z ends face (ap (λ n. is_up_at (facing n x).near) one_is ∙ up) (second_leads (end_seen x.contact x.near).state (far_not_up x.contact x.near first_down)) plain h.puts h.after stand sound
send_second Second x x' pieces limit frames t z ends plain h one_is down up stand sound =
    let face : facing h.bearer x ≡ x = ap (λ n. facing n x) one_is ∙ facing_near 1 x stand.bearer in
    let first_down : is_up_at x.far ≡ false = ap (λ (q : PairEnds). is_up_at q.near) (sym (facing_far 0 x (ap (λ n. n == 0) stand.bearer))) ∙ down in
    here_acts Second x x' (facing h.bearer x) h.near pieces frames t z ends face (ap (λ n. is_up_at (facing n x).near) one_is ∙ up) (second_leads (end_seen x.contact x.far).state (far_not_up x.contact x.far first_down)) plain h.puts h.after stand sound

pub sends_act : (b : Bearer) (x x' : PairEnds) (pieces : List (List ℕ)) (limit : ℕ) (frames : List Outgoing) (t : Traffic) (z : State) → AreEnds x → ArePlain pieces → (h : SendsWithin x pieces limit x' frames) → StandFor b (ends_seen x) t z → Sound b z
    → Acts b x x' (put_in t h.puts.is_put) z
sends_act b x x' pieces limit frames t z ends plain h stand sound = elim (which_leads (facing 0 x).near (facing 1 x).near h.bearer h.active_is) [
  | one is up ↦ send_first b x x' pieces limit frames t z ends plain h is up stand sound
  | two is down up ↦ send_second b x x' pieces limit frames t z ends plain h is down up stand sound
]
