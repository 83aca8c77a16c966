-- Where packets of links are under way at a node of a calm world, one isn't acknowledged on a link that was up when the
-- call began.
use Rattle.std.specs.Prelude.{IfSome, if◌then◌else◌}
use Rattle.std.proofs.Common.{◌≡◌, ◌≢◌, ◌≤◌, ◌∙◌, ℕ, suc, Bool, true, false, List, [], ◌∷◌, Option, Some, None, length, slice_index_or, sum_by, inl, inr, refl, sym, ap, subst, arith}
use Rattle.std.proofs.lemmas.Bool.{cases_lt}
use Rattle.std.proofs.lemmas.List.Sums.{sum_by-cons}
use Rattle.tipc_types.specs.LinkStates.{is_up}
use Rattle.tipc_link.specs.Links.{LinkEnd}
use Rattle.tipc_link.specs.Sessions.{SessionEnd}
use Rattle.tipc_pair.specs.Facing.{facing, is_up_at}
use Rattle.tipc_pair.specs.LinkReadings.{IsPacked, IsPackedEnd, IsPackedPair}
use Rattle.tipc_node.specs.Nodes.{neighbour_of, pair_with}
use Rattle.tipc_node.proofs.pairs.Strangers.{kept_by}
use Rattle.tipc_settling.specs.Goings.{up_session}
use Rattle.tipc_settling.specs.Loads.{end_sum, link_sum, pair_sum, peer_sum, session_sum, under_way}
use Rattle.tipc_replay.specs.Sound.{IsNumber}
use Rattle.tipc_replay.specs.States.{MemberState}
use Rattle.tipc_world.specs.CalmWorlds.{IsCalmWorld}
use Rattle.tipc_world.specs.Directions.{StandsIn}
use Rattle.tipc_world.specs.Measures.{HasUnacknowledged}
use Rattle.tipc_world.specs.RoundParts.{IsKept}
use Rattle.tipc_world.specs.Rows.{WasUp}
use Rattle.tipc_world.specs.States.{WorldState}
use Rattle.tipc_world.proofs.rounds.AnyPeer.{which_peer}
use Rattle.tipc_world.proofs.rounds.Falling.{near_at_0, near_at_1, peer_pair}
use Rattle.tipc_world.proofs.rounds.Pacing.{pair_first}
use Rattle.tipc_world.proofs.rounds.StillWorlds.{node_number}
use Rattle.tipc_world.proofs.rounds.UpLinks.{session_near}

-- a place of a list that counts, where the list does
pub counts_somewhere : {A : Type 0} (f : Option A → ℕ) (xs : List (Option A)) → 1 ≤ sum_by f xs → (i : ℕ) × (1 ≤ f (slice_index_or xs i None))
counts_somewhere f [] some = absurd (omega (arith, some))
counts_somewhere f (x ∷ xs) some =
    let all = sum_by-cons f x xs in
    elim (cases_lt (f x) 1) [
      | inr here ↦ (0, here)
      | inl none ↦ (let later = counts_somewhere f xs (omega (arith, some, all, none)) in (suc later.0, later.1))
    ]

-- a session in which something is under way isn't without an unacknowledged packet
pub waits_unacknowledged : (s : SessionEnd) → IsPacked s → 1 ≤ under_way s.sending → HasUnacknowledged s
waits_unacknowledged s packed some = elim (packed.1) [
  | inl none ↦ (let nothing = ap (λ (ps : List (List ℕ)). length ps) none in omega (arith, some, nothing))
  | inr full ↦ omega (arith, full)
]

-- a link end that is up in such a session
record IsBehind (o : Option LinkEnd) : Type 0 where
  session : SessionEnd
  in_session : up_session o ≡ Some session
  up : is_up_at o ≡ true
  unacknowledged : HasUnacknowledged session

end_behind : (o : Option LinkEnd) → IfSome o IsPackedEnd → 1 ≤ end_sum under_way o → IsBehind o
end_behind None packed some = absurd (omega (arith, some))
end_behind (Some e) packed some = by (is_up e.fsm.state) refl some
  where
    on : (session : Option SessionEnd) → e.session ≡ session → is_up e.fsm.state ≡ true → IfSome session IsPacked → 1 ≤ session_sum under_way session → IsBehind (Some e)
    on None is up is_packed most = absurd (omega (arith, most))
    on (Some s) is up is_packed most = record {
      session = s;
      in_session = ap (λ t. if t then e.session else None) up ∙ is;
      up = up;
      unacknowledged = waits_unacknowledged s is_packed most;
    }

    by : (t : Bool) → is_up e.fsm.state ≡ t → 1 ≤ (if t then session_sum under_way e.session else 0) → IsBehind (Some e)
    by true up most = on e.session refl up packed most
    by false down most = absurd (omega (arith, most))

-- a packet that isn't acknowledged on a link of a node that was up when the call began
pub record IsUnfinished (start w : WorldState) (a : ℕ) : Type 0 where
  pub peer : ℕ
  pub bearer : ℕ
  pub was_up : WasUp start a peer bearer
  pub stands : StandsIn w HasUnacknowledged a peer bearer

module _ (start w : WorldState) (kept : IsKept start) (calm : IsCalmWorld start w) (a : ℕ) (m : MemberState) (there : slice_index_or w.members a None ≡ Some m) where
  -- on a bearer of the pair to a node
  on_bearer : (b bearer : ℕ) → IsNumber b → a ≢ b → bearer ≤ 1 → IsBehind (facing bearer (pair_with m.node b)).near → IsUnfinished start w a
  on_bearer b bearer number apart on_one behind = record {
    peer = b;
    bearer = bearer;
    was_up = record {
      here = node_number w a m (calm.on.kept kept) there;
      there = number;
      apart = apart;
      on_one = on_one;
      up = sym ((calm.nodes a m there b number apart).ups bearer on_one) ∙ behind.up;
    };
    stands = (m, there, (behind.session, session_near m.node b bearer ∙ behind.in_session, behind.unacknowledged));
  }

  -- in the pair
  in_pair : (b : ℕ) → IsNumber b → a ≢ b → 1 ≤ pair_sum under_way (pair_with m.node b) → IsUnfinished start w a
  in_pair b number apart some =
      let x = pair_with m.node b in
      let kept_now = calm.on.kept kept in
      let first = pair_first w a b m kept_now there in
      let packed : IsPackedPair x = kept_by IsPackedPair m.node b (λ none. record { near = tt; far = tt }) ((kept_now.nodes.packed a m there).0 b) in
      elim (cases_lt (end_sum under_way x.near) 1) [
        | inr near ↦ on_bearer b 0 number apart (omega arith) (subst IsBehind (sym (near_at_0 x first)) (end_behind x.near packed.near near))
        | inl none ↦ on_bearer b 1 number apart (omega arith) (subst IsBehind (sym (near_at_1 x first)) (end_behind x.far packed.far (omega (arith, some, none))))
      ]

  pub links_unfinished : 1 ≤ link_sum under_way m.node.neighbours → IsUnfinished start w a
  unfolding link_sum
  links_unfinished some =
      let found = counts_somewhere (peer_sum under_way) m.node.neighbours some in
      let b = found.0 in
      let here = found.1 in
      elim (which_peer w a b m (calm.on.kept kept) there) [
        | inl number ↦ (let pair = peer_pair under_way m.node b (neighbour_of m.node b) in in_pair b number.0 number.1 (omega (arith, here, pair)))
        | inr none ↦ (let nothing = ap (peer_sum under_way) none in absurd (omega (arith, here, nothing)))
      ]
