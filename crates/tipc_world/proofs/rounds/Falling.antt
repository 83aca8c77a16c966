-- Where a packet of a link isn't acknowledged, four rounds of a poised world leave less under way.
use Rattle.std.specs.Prelude.{◌≢◌, if◌then◌else◌, is_some}
use Rattle.std.proofs.Common.{◌≡◌, ◌≤◌, ◌+◌, ◌∙◌, ℕ, zero, suc, true, false, List, [], ◌∷◌, Option, Some, None, length, slice_index_or, sum_by, inl, inr, refl, sym, ap, subst, arith}
use Rattle.std.proofs.lemmas.List.Sums.{sum_by-cons}
use Rattle.tipc_types.specs.LinkStates.{is_up}
use Rattle.tipc_send_window.specs.Sending.{Sending, acked_of}
use Rattle.tipc_link.specs.Links.{LinkEnd}
use Rattle.tipc_link.specs.Sessions.{SessionEnd}
use Rattle.tipc_pair.specs.Facing.{PairEnds, facing}
use Rattle.tipc_node.specs.declared.neighbours.Neighbour.{Neighbour}
use Rattle.tipc_node.specs.Nodes.{NodeState, acquaintance, neighbour_of, pair_with}
use Rattle.tipc_settling.specs.Goings.{EndGoesOn, EndsGoOn, up_session}
use Rattle.tipc_settling.specs.Loads.{end_sum, link_sum, pair_sum, peer_sum, put_into, session_sum, under_way}
use Rattle.tipc_settling.specs.Repairs.{session_with}
use Rattle.tipc_settling.proofs.Calm.{packets_by_part}
use Rattle.tipc_replay.specs.Sound.{IsNumber}
use Rattle.tipc_replay.specs.States.{MemberState}
use Rattle.tipc_world.specs.declared.places.Places.{Places}
use Rattle.tipc_world.specs.CalmWorlds.{IsCalmWorld}
use Rattle.tipc_world.specs.Directions.{IsAwaited}
use Rattle.tipc_world.specs.Measures.{FourRoundsBringLess, NoMoreWasPut, weight_ever, weight_put}
use Rattle.tipc_world.specs.Poised.{IsPoised}
use Rattle.tipc_world.specs.RoundParts.{IsKept, MoreRounds, number_of_member, total_of}
use Rattle.tipc_world.specs.Settling.{Rounds}
use Rattle.tipc_world.specs.States.{WorldState}
use Rattle.tipc_world.proofs.casts.Going.{casts_then}
use Rattle.tipc_world.proofs.rounds.AnyPeer.{which_peer}
use Rattle.tipc_world.proofs.rounds.CalmWalk.{round_keeps}
use Rattle.tipc_world.proofs.rounds.Going.{Going, begins_going}
use Rattle.tipc_world.proofs.rounds.HeardWorlds.{call_stays_calm, told_of}
use Rattle.tipc_world.proofs.rounds.Keeping.{settles_more}
use Rattle.tipc_world.proofs.rounds.Lasting.{ends_then}
use Rattle.tipc_world.proofs.rounds.Measuring.{arrivals_put_nothing, ticks_put_nothing}
use Rattle.tipc_world.proofs.rounds.Pacing.{pair_first, same_session}
use Rattle.tipc_world.proofs.rounds.Releasing.{begins_there, calm_round, four_rounds_release, more_keep}
use Rattle.tipc_world.proofs.rounds.RoundParts.{round_parts}
use Rattle.tipc_world.proofs.rounds.TickStates.{round_going}
use Rattle.tipc_world.proofs.rounds.UpLinks.{session_near, the_member, up_sides}
use Rattle.tipc_world.proofs.rounds.Windows.{more_whole}

-- ---- sums of lists, place by place

sum_below : {A : Type 0} (f : Option A → ℕ) → f None ≡ 0 → (xs ys : List (Option A)) → ((i : ℕ) → f (slice_index_or xs i None) ≤ f (slice_index_or ys i None)) → sum_by f xs ≤ sum_by f ys
sum_below f none [] ys each = omega arith
sum_below f none (x ∷ xs) [] each =
    let first = each 0 in
    let others = sum_below f none xs [] (λ i. each (suc i)) in
    let all = sum_by-cons f x xs in
    omega (arith, none, first, others, all)
sum_below f none (x ∷ xs) (y ∷ ys) each =
    let first = each 0 in
    let others = sum_below f none xs ys (λ i. each (suc i)) in
    let one = sum_by-cons f x xs in
    let two = sum_by-cons f y ys in
    omega (arith, first, others, one, two)

-- and by so much at one of them
pub sum_more : {A : Type 0} (f : Option A → ℕ) (b more : ℕ) → f None ≡ 0 → (xs ys : List (Option A)) → ((i : ℕ) → f (slice_index_or xs i None) ≤ f (slice_index_or ys i None)) → f (slice_index_or xs b None) + more ≤ f (slice_index_or ys b None)
    → sum_by f xs + more ≤ sum_by f ys
sum_more f b more none [] [] each here = omega (arith, none, here)
sum_more f zero more none [] (y ∷ ys) each here = (let two = sum_by-cons f y ys in omega (arith, none, here, two))
sum_more f (suc b) more none [] (y ∷ ys) each here =
    let others = sum_more f b more none [] ys (λ i. each (suc i)) here in
    let two = sum_by-cons f y ys in
    omega (arith, others, two)
sum_more f zero more none (x ∷ xs) [] each here =
    let others = sum_below f none xs [] (λ i. each (suc i)) in
    let one = sum_by-cons f x xs in
    omega (arith, none, here, others, one)
sum_more f (suc b) more none (x ∷ xs) [] each here =
    let first = each 0 in
    let others = sum_more f b more none xs [] (λ i. each (suc i)) here in
    let one = sum_by-cons f x xs in
    omega (arith, none, first, others, one)
sum_more f zero more none (x ∷ xs) (y ∷ ys) each here =
    let others = sum_below f none xs ys (λ i. each (suc i)) in
    let one = sum_by-cons f x xs in
    let two = sum_by-cons f y ys in
    omega (arith, here, others, one, two)
sum_more f (suc b) more none (x ∷ xs) (y ∷ ys) each here =
    let first = each 0 in
    let others = sum_more f b more none xs ys (λ i. each (suc i)) here in
    let one = sum_by-cons f x xs in
    let two = sum_by-cons f y ys in
    omega (arith, first, others, one, two)

-- of two numbers together
pub sum_both : {A : Type 0} (f g h : Option A → ℕ) (xs : List (Option A)) → ((i : ℕ) → h (slice_index_or xs i None) ≡ f (slice_index_or xs i None) + g (slice_index_or xs i None)) → sum_by h xs ≡ sum_by f xs + sum_by g xs
sum_both f g h [] each = refl
sum_both f g h (x ∷ xs) each =
    let first = each 0 in
    let others = sum_both f g h xs (λ i. each (suc i)) in
    let one = sum_by-cons f x xs in
    let two = sum_by-cons g x xs in
    let both = sum_by-cons h x xs in
    omega (arith, first, others, one, two, both)

-- ---- what is acknowledged on links

end_sum_is : (f : Sending → ℕ) (end : Option LinkEnd) → end_sum f end ≡ session_sum f (up_session end)
end_sum_is f None = refl
end_sum_is f (Some e) = elim (is_up e.fsm.state) as (λ b. (if b then session_sum f e.session else 0) ≡ session_sum f (if b then e.session else None)) [ true ↦ refl | false ↦ refl ]

acked_at : (end : Option LinkEnd) (session : Option SessionEnd) → up_session end ≡ session → end_sum acked_of end ≡ session_sum acked_of session
acked_at end session is = end_sum_is acked_of end ∙ ap (session_sum acked_of) is

end_acked : (before now : Option LinkEnd) → EndGoesOn before now → end_sum acked_of before ≤ end_sum acked_of now
end_acked before now goes = by (up_session before) refl
  where
    by : (o : Option SessionEnd) → up_session before ≡ o → end_sum acked_of before ≤ end_sum acked_of now
    by None is = (let none = acked_at before None is in omega (arith, none))
    by (Some s) is =
        let went = goes s is in
        let was = acked_at before (Some s) is in
        let there = acked_at now (Some went.0) went.1 in
        let more = went.2.goes.acked in
        omega (arith, was, there, more)

pair_acked : (x y : PairEnds) → EndsGoOn x y → pair_sum acked_of x ≤ pair_sum acked_of y
pair_acked x y h =
    let near = end_acked x.near y.near h.near in
    let far = end_acked x.far y.far h.far in
    omega (arith, near, far)

-- an end, seen from its bearer
pub near_at_0 : (x : PairEnds) → x.bearer ≡ 0 → (facing 0 x).near ≡ x.near
unfolding facing
near_at_0 x first = rw first refl

pub near_at_1 : (x : PairEnds) → x.bearer ≡ 0 → (facing 1 x).near ≡ x.far
unfolding facing
near_at_1 x first = rw first refl

pair_more : (x y : PairEnds) (bearer more : ℕ) → x.bearer ≡ 0 → y.bearer ≡ 0 → bearer ≤ 1 → EndsGoOn x y → end_sum acked_of (facing bearer x).near + more ≤ end_sum acked_of (facing bearer y).near → pair_sum acked_of x + more ≤ pair_sum acked_of y
pair_more x y zero more first first' one h here =
    let was = ap (end_sum acked_of) (near_at_0 x first) in
    let there = ap (end_sum acked_of) (near_at_0 y first') in
    let far = end_acked x.far y.far h.far in
    omega (arith, was, there, far, here)
pair_more x y (suc zero) more first first' one h here =
    let was = ap (end_sum acked_of) (near_at_1 x first) in
    let there = ap (end_sum acked_of) (near_at_1 y first') in
    let near = end_acked x.near y.near h.near in
    omega (arith, was, there, near, here)
pair_more x y (suc (suc others)) more first first' one h here = absurd (omega (arith, one))

pub peer_pair : (f : Sending → ℕ) (n : NodeState) (b : ℕ) (o : Option Neighbour) → peer_sum f o ≡ pair_sum f (acquaintance n b o).pair
peer_pair f n b None = refl
peer_pair f n b (Some x) = refl

-- ---- of a node

links_acked : MemberState → ℕ
links_acked m = link_sum acked_of m.node.neighbours

module _ (start base w : WorldState) (kept : IsKept start) (calm : IsCalmWorld start base) (g : Going start base w) (n : ℕ) (k m : MemberState) (was : slice_index_or base.members n None ≡ Some k) (is : slice_index_or w.members n None ≡ Some m) where
  peer_acked : (b : ℕ) → peer_sum acked_of (neighbour_of k.node b) ≤ peer_sum acked_of (neighbour_of m.node b)
  peer_acked b = elim (which_peer base n b k (calm.on.kept kept) was) [
    | inl number ↦
        let more = pair_acked (pair_with k.node b) (pair_with m.node b) (g.goes n m is k was b number.0 number.1) in
        let one = peer_pair acked_of k.node b (neighbour_of k.node b) in
        let two = peer_pair acked_of m.node b (neighbour_of m.node b) in
        omega (arith, more, one, two)
    | inr none ↦ (let nothing = ap (peer_sum acked_of) none in omega (arith, nothing))
  ]

  node_acked : links_acked k ≤ links_acked m
  unfolding links_acked link_sum
  node_acked = sum_below (peer_sum acked_of) refl k.node.neighbours m.node.neighbours peer_acked

  node_more : (b bearer more : ℕ) (s t : SessionEnd) → IsNumber b → n ≢ b → bearer ≤ 1 → session_with k.node b bearer ≡ Some s → session_with m.node b bearer ≡ Some t → acked_of s.sending + more ≤ acked_of t.sending → links_acked k + more ≤ links_acked m
  unfolding links_acked link_sum
  node_more b bearer more s t number apart on_one s_is t_is most =
      let before = acked_at (facing bearer (pair_with k.node b)).near (Some s) (sym (session_near k.node b bearer) ∙ s_is) in
      let after = acked_at (facing bearer (pair_with m.node b)).near (Some t) (sym (session_near m.node b bearer) ∙ t_is) in
      let pair = pair_more (pair_with k.node b) (pair_with m.node b) bearer more (pair_first base n b k (calm.on.kept kept) was) (pair_first w n b m (g.calm.on.kept kept) is) on_one (g.goes n m is k was b number apart) (omega (arith, before, after, most)) in
      let one = peer_pair acked_of k.node b (neighbour_of k.node b) in
      let two = peer_pair acked_of m.node b (neighbour_of m.node b) in
      sum_more (peer_sum acked_of) b more refl k.node.neighbours m.node.neighbours peer_acked (omega (arith, pair, one, two))

-- ---- of all nodes

-- what was put on links is under way or acknowledged
peer_put : (o : Option Neighbour) → peer_sum put_into o ≡ peer_sum acked_of o + peer_sum under_way o
peer_put None = refl
peer_put (Some x) =
    let near = end_put x.pair.near in
    let far = end_put x.pair.far in
    omega (arith, near, far)
  where
    session_put : (o : Option SessionEnd) → session_sum put_into o ≡ session_sum acked_of o + session_sum under_way o
    session_put None = refl
    session_put (Some s) = refl

    end_put : (o : Option LinkEnd) → end_sum put_into o ≡ end_sum acked_of o + end_sum under_way o
    end_put o =
        let put = end_sum_is put_into o in
        let acked = end_sum_is acked_of o in
        let way = end_sum_is under_way o in
        let both = session_put (up_session o) in
        omega (arith, put, acked, way, both)

node_put : (w : WorldState) (n : ℕ) (m : MemberState) → IsKept w → slice_index_or w.members n None ≡ Some m → weight_ever m ≡ links_acked m + weight_put m
unfolding links_acked link_sum
node_put w n m kept there =
    let links = sum_both (peer_sum acked_of) (peer_sum under_way) (peer_sum put_into) m.node.neighbours (λ i. peer_put (slice_index_or m.node.neighbours i None)) in
    let load = packets_by_part m.node (told_of w n m kept there) in
    omega (arith, links, load)

world_put : (w : WorldState) → IsKept w → total_of weight_ever w ≡ total_of links_acked w + total_of weight_put w
world_put w kept = sum_both (number_of_member links_acked) (number_of_member weight_put) (number_of_member weight_ever) w.members (λ n. at n (slice_index_or w.members n None) refl)
  where
    at : (n : ℕ) (o : Option MemberState) → slice_index_or w.members n None ≡ o → number_of_member weight_ever (slice_index_or w.members n None) ≡ number_of_member links_acked (slice_index_or w.members n None) + number_of_member weight_put (slice_index_or w.members n None)
    at n None none =
        let ever = ap (number_of_member weight_ever) none in
        let acked = ap (number_of_member links_acked) none in
        let put = ap (number_of_member weight_put) none in
        omega (arith, ever, acked, put)
    at n (Some m) there =
        let ever = ap (number_of_member weight_ever) there in
        let acked = ap (number_of_member links_acked) there in
        let put = ap (number_of_member weight_put) there in
        let both = node_put w n m kept there in
        omega (arith, ever, acked, put, both)

-- no acknowledgement is taken back by any node
member_acked : (start base w : WorldState) → IsKept start → IsCalmWorld start base → Going start base w → (n : ℕ) → number_of_member links_acked (slice_index_or base.members n None) ≤ number_of_member links_acked (slice_index_or w.members n None)
member_acked start base w kept calm g n = at (slice_index_or base.members n None) refl
  where
    at : (o : Option MemberState) → slice_index_or base.members n None ≡ o → number_of_member links_acked (slice_index_or base.members n None) ≤ number_of_member links_acked (slice_index_or w.members n None)
    at None none = (let nothing = ap (number_of_member links_acked) none in omega (arith, nothing))
    at (Some k) was =
        let m = the_member (slice_index_or w.members n None) (g.on.nodes n ∙ ap (λ o. is_some o) was) in
        let before = ap (number_of_member links_acked) was in
        let after = ap (number_of_member links_acked) m.1 in
        let more = node_acked start base w kept calm g n k m.0 was m.1 in
        omega (arith, before, after, more)

-- ---- through the rounds

going_then : (start base middle w : WorldState) → Going start base middle → Going start middle w → Going start base w
going_then start base middle w one two = record {
  calm = two.calm;
  on = settles_more base middle w one.on two.on;
  goes = λ n m there k was b number apart. (
      let between = the_member (slice_index_or middle.members n None) (one.on.nodes n ∙ ap (λ o. is_some o) was) in
      ends_then (pair_with k.node b) (pair_with between.0.node b) (pair_with m.node b) (one.goes n between.0 between.1 k was b number apart) (two.goes n m there between.0 between.1 b number apart));
  casts = casts_then start base middle w one.on one.casts two.casts;
}

pub many_going : (start : WorldState) (done : ℕ) (places : Places) (outset : WorldState) (rounds : ℕ) (ends : Places) (now : WorldState) → IsKept start → IsPoised start → Rounds start done places outset → MoreRounds done places outset rounds ends now → now.lost ≡ false → Going start outset now
many_going start done places outset rounds ends now kept poised front rest whole =
    let clear = more_whole done places outset rounds ends now rest whole in
    let calm = (call_stays_calm start done places outset kept poised front clear).calm in
    (more_keep start (λ n at w. Going start outset w) done places outset rounds ends now front
    (λ n at before next after from so_far round still g.
    let r = round_parts at before next after round in
    let begins = begins_there start n at before next after kept poised so_far r still in
    going_then start outset before after g (round_going start at before next after r (calm_round start at before next after r begins)))
    rest whole (begins_going start outset clear calm)).1

many_put : (start : WorldState) (done : ℕ) (places : Places) (outset : WorldState) (rounds : ℕ) (ends : Places) (now : WorldState) → IsKept start → IsPoised start → Rounds start done places outset → MoreRounds done places outset rounds ends now → now.lost ≡ false → NoMoreWasPut outset now
many_put start done places outset rounds ends now kept poised front rest whole =
    (more_keep start (λ n at w. NoMoreWasPut outset w) done places outset rounds ends now front
    (λ n at before next after from so_far round still h. round_keeps start (NoMoreWasPut outset) n at before next after kept poised (ticks_put_nothing start outset kept) (arrivals_put_nothing start outset kept poised) so_far round still h)
    rest whole (omega arith)).1

pub four_rounds_bring_less : FourRoundsBringLess
four_rounds_bring_less start done places outset ends now a b bearer kept poised front rest whole u (m, there, (s, is, some)) =
    let clear = more_whole done places outset (done + 4) ends now rest whole in
    let calm = (call_stays_calm start done places outset kept poised front clear).calm in
    let sides = up_sides start outset a b bearer m kept poised calm u.there u.apart u.on_one there u.up in
    let same = same_session (session_with m.node b bearer) sides.here.session s sides.here.in_session is in
    let below = subst (λ (q : SessionEnd). length q.sending.unacked ≤ q.sending.numbered) same sides.sends.sends.direction.below in
    let position = acked_of s.sending + 1 in
    let awaited : IsAwaited position s = record { numbered = omega (arith, below, some); first = omega arith } in
    let last = four_rounds_release start done places outset ends now a b bearer position kept poised front rest whole u (m, there, (s, is, awaited)) in
    let released = last.2.2 in
    let g = many_going start done places outset (done + 4) ends now kept poised front rest whole in
    let one = node_more start outset now kept calm g a m last.0 there last.1 b bearer 1 s last.2.0 u.there u.apart u.on_one is last.2.1 (omega (arith, released)) in
    let before = ap (number_of_member links_acked) there in
    let after = ap (number_of_member links_acked) last.1 in
    let acked = sum_more (number_of_member links_acked) a 1 refl outset.members now.members (member_acked start outset now kept calm g) (omega (arith, before, after, one)) in
    let put = many_put start done places outset (done + 4) ends now kept poised front rest whole in
    let was = world_put outset (calm.on.kept kept) in
    let behind_all = world_put now (g.calm.on.kept kept) in
    omega (arith, acked, put, was, behind_all)
