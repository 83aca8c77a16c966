-- In rounds enough for what is under way in a poised world everything is acknowledged, and all that was accepted
-- between nodes in contact is delivered.
use Rattle.std.specs.Prelude.{◌-◌, ◌⊎◌}
use Rattle.std.proofs.Common.{◌≡◌, ◌≤◌, ◌+◌, ◌*◌, ◌∙◌, ℕ, zero, suc, false, List, Option, Some, None, length, slice_index_or, inl, inr, refl, ap, subst, arith}
use Rattle.std.proofs.lemmas.Bool.{cases_lt}
use Rattle.tipc_types.specs.declared.message_forms.Flow.TheVariants.{Broadcast, One, Zero}
use Rattle.tipc_types.specs.declared.message_forms.Message.{Message}
use Rattle.tipc_settling.specs.Loads.{link_sum, under_way}
use Rattle.tipc_settling.proofs.Calm.{packets_by_part}
use Rattle.tipc_replay.specs.States.{MemberState, contact_at}
use Rattle.tipc_world.specs.declared.places.Places.{Places}
use Rattle.tipc_world.specs.Answered.{sum_to}
use Rattle.tipc_world.specs.CalmWorlds.{IsCalmWorld}
use Rattle.tipc_world.specs.Ends.{ends_of}
use Rattle.tipc_world.specs.Measures.{LessIsUnderWay, NoMoreIsUnderWay, weight_given, weight_put}
use Rattle.tipc_world.specs.Poised.{IsAllDelivered, IsPoised, load_under_way, messages_under_way, packets_under_way, undelivered, undelivered_with}
use Rattle.tipc_world.specs.RoundParts.{IsKept, MoreRounds, number_of_member, total_of}
use Rattle.tipc_world.specs.Settling.{Rounds, begin}
use Rattle.tipc_world.specs.States.{WorldState}
use Rattle.tipc_world.proofs.rounds.Acknowledging.{from_begin}
use Rattle.tipc_world.proofs.rounds.Bounded.{delivered_bounded, weight_taken}
use Rattle.tipc_world.proofs.rounds.CallJournals.{rounds_record}
use Rattle.tipc_world.proofs.rounds.CalmWalk.{round_keeps}
use Rattle.tipc_world.proofs.rounds.Delivered.{quiet_is_delivered}
use Rattle.tipc_world.proofs.rounds.Falling.{four_rounds_bring_less, many_going, sum_both}
use Rattle.tipc_world.proofs.rounds.HeardWorlds.{call_stays_calm, told_of}
use Rattle.tipc_world.proofs.rounds.Loads.{packets_are_total, packets_at}
use Rattle.tipc_world.proofs.rounds.Measuring.{arrivals_add_nothing, never_grows, ticks_add_nothing}
use Rattle.tipc_world.proofs.rounds.NumberSums.{sums_none}
use Rattle.tipc_world.proofs.rounds.PoisedAgain.{stays_poised}
use Rattle.tipc_world.proofs.rounds.Releasing.{more_keep}
use Rattle.tipc_world.proofs.rounds.RoundParts.{rounds_part}
use Rattle.tipc_world.proofs.rounds.Waiting.{IsUnfinished, counts_somewhere, links_unfinished}
use Rattle.tipc_world.proofs.rounds.Windows.{more_whole}

-- ---- what is under way

-- what was put is under way or was accepted
put_by_part : (w : WorldState) → total_of weight_put w ≡ packets_under_way w + total_of weight_taken w
put_by_part w =
    let both = sum_both (number_of_member packets_at) (number_of_member weight_taken) (number_of_member weight_put) w.members (λ n. at (slice_index_or w.members n None)) in
    let packets = packets_are_total w in
    omega (arith, both, packets)
  where
    at : (o : Option MemberState) → number_of_member weight_put o ≡ number_of_member packets_at o + number_of_member weight_taken o
    at None = refl
    at (Some m) = refl

-- where all is delivered no message is left
none_left : (w : WorldState) → IsAllDelivered w → messages_under_way w ≡ 0
unfolding undelivered
none_left w all = sums_none (λ a. sum_to (λ b. undelivered w.members a b) 32) 32 (λ a. sums_none (λ b. undelivered w.members a b) 32 (λ b. none a b))
  where
    none : (a b : ℕ) → undelivered w.members a b ≡ 0
    none a b = by (contact_at w.members a b) refl
      where
        same : (xs ys : List Message) → xs ≡ ys → length ys - length xs ≡ 0
        same xs ys is = (let long = ap (λ (ms : List Message). length ms) is in omega (arith, long))

        by : (o : Option (ℕ × ℕ)) → contact_at w.members a b ≡ o → undelivered_with w.members a b (contact_at w.members a b) ≡ 0
        by None none_there = ap (undelivered_with w.members a b) none_there
        by (Some c) is =
            let first = same _ _ (all a b c.0 c.1 Zero is) in
            let second = same _ _ (all a b c.0 c.1 One is) in
            let third = same _ _ (all a b c.0 c.1 Broadcast is) in
            ap (undelivered_with w.members a b) is ∙ omega (arith, first, second, third)

-- so much less is under way than at an earlier moment
abbrev IsLessBy : WorldState → WorldState → ℕ → Type 0
IsLessBy base now less = total_of weight_put now + total_of weight_given base + less ≤ total_of weight_put base + total_of weight_given now

-- ---- from one boundary of a call to a later one

module _ (start : WorldState) (done : ℕ) (places : Places) (outset : WorldState) (rounds : ℕ) (ends : Places) (now : WorldState) (kept : IsKept start) (poised : IsPoised start) (front : Rounds start done places outset)
    (rest : MoreRounds done places outset rounds ends now) (whole : now.lost ≡ false) where
  clear : outset.lost ≡ false
  clear = more_whole done places outset rounds ends now rest whole

  calm : IsCalmWorld start outset
  calm = (call_stays_calm start done places outset kept poised front clear).calm

  poised_there : IsPoised outset
  poised_there = (stays_poised start places outset kept poised (call_stays_calm start done places outset kept poised front clear)).poised

  -- no more is under way
  no_more : NoMoreIsUnderWay outset now
  no_more = (more_keep start (λ n at w. NoMoreIsUnderWay outset w) done places outset rounds ends now front
      (λ n at before next after from so_far round still h. round_keeps start (NoMoreIsUnderWay outset) n at before next after kept poised (ticks_add_nothing start outset kept) (arrivals_add_nothing start outset kept poised) so_far round still h)
      rest whole (omega arith)).1

  -- no more is delivered than was left, and is accepted
  bounded : total_of weight_given now + total_of weight_taken outset ≤ total_of weight_taken now + total_of weight_given outset + 3 * messages_under_way outset
  bounded =
      let g = many_going start done places outset rounds ends now kept poised front rest whole in
      delivered_bounded outset now (calm.on.kept kept) (g.calm.on.kept kept) poised_there g.on.nodes (rounds_record start done places outset rounds ends now kept poised front rest whole)

  -- where no packet is under way, none is again
  pub stays_quiet : packets_under_way outset ≡ 0 → packets_under_way now ≡ 0
  stays_quiet none =
      let left = none_left outset (quiet_is_delivered outset (calm.on.kept kept) none) in
      let was = put_by_part outset in
      let is = put_by_part now in
      let less = no_more in
      let bound = bounded in
      omega (arith, none, left, was, is, less, bound)

  -- and where as much less is under way as ever could be, none is
  pub all_fell : IsLessBy outset now (packets_under_way outset + 3 * messages_under_way outset) → packets_under_way now ≡ 0
  all_fell less =
      let was = put_by_part outset in
      let is = put_by_part now in
      let bound = bounded in
      omega (arith, less, was, is, bound)

-- ---- four rounds

-- where packets of a broadcast are under way at a node, four rounds of a call leave less
abbrev pub CastsFall : WorldState → Type 0
CastsFall start = (done : ℕ) (places : Places) (outset : WorldState) (ends : Places) (now : WorldState) (a : ℕ) (m : MemberState) → Rounds start done places outset → MoreRounds done places outset (done + 4) ends now → now.lost ≡ false
    → slice_index_or outset.members a None ≡ Some m → 1 ≤ under_way m.node.casting.sending → LessIsUnderWay outset now

-- where any packets are, they do
four_rounds_fall : (start : WorldState) (done : ℕ) (places : Places) (outset : WorldState) (ends : Places) (now : WorldState) → IsKept start → IsPoised start → CastsFall start → Rounds start done places outset → MoreRounds done places outset (done + 4) ends now → now.lost ≡ false
    → 1 ≤ packets_under_way outset → LessIsUnderWay outset now
four_rounds_fall start done places outset ends now kept poised casts front rest whole some =
    let total = packets_are_total outset in
    let found = counts_somewhere (number_of_member packets_at) outset.members (omega (arith, some, total)) in
    at found.0 (slice_index_or outset.members found.0 None) refl found.1
  where
    still : IsCalmWorld start outset
    still = (call_stays_calm start done places outset kept poised front (more_whole done places outset (done + 4) ends now rest whole)).calm

    on_links : (a : ℕ) → IsUnfinished start outset a → LessIsUnderWay outset now
    on_links a u = four_rounds_bring_less start done places outset ends now a u.peer u.bearer kept poised front rest whole u.was_up u.stands

    at : (a : ℕ) (o : Option MemberState) → slice_index_or outset.members a None ≡ o → 1 ≤ number_of_member packets_at (slice_index_or outset.members a None) → LessIsUnderWay outset now
    at a None none here = absurd (let nothing = ap (number_of_member packets_at) none in let wrong : ⊥ = omega (arith, here, nothing) in wrong)
    at a (Some m) there here =
        let load = ap (number_of_member packets_at) there in
        let parts = packets_by_part m.node (told_of outset a m (still.on.kept kept) there) in
        elim (cases_lt (link_sum under_way m.node.neighbours) 1) [
          | inr linked ↦ on_links a (links_unfinished start outset kept still a m there linked)
          | inl none ↦ casts done places outset ends now a m front rest whole there (omega (arith, here, load, parts, none))
        ]

-- ---- through a call

-- after so many times four rounds none is under way, or that much less
emptied : (many : ℕ) (start : WorldState) (places : Places) (now : WorldState) → IsKept start → IsPoised start → CastsFall start → Rounds start (4 * many) places now → now.lost ≡ false → (packets_under_way now ≡ 0) ⊎ IsLessBy start now many
emptied zero start places now kept poised casts made whole = inr (let less = never_grows start (4 * 0) places now kept poised made whole in omega (arith, less))
emptied (suc many) start places now kept poised casts made whole =
    let p = rounds_part start (4 * many) (4 * suc many) places now (omega arith) made in
    let as_many : 4 * suc many ≡ 4 * many + 4 = omega arith in
    let four = subst (λ k. MoreRounds (4 * many) p.middle p.between k places now) as_many p.rest in
    let clear_there = more_whole (4 * many) p.middle p.between (4 * suc many) places now p.rest whole in
    by p.middle p.between p.front four (emptied many start p.middle p.between kept poised casts p.front clear_there)
  where
    quiet_on : (middle : Places) (between : WorldState) → Rounds start (4 * many) middle between → MoreRounds (4 * many) middle between (4 * many + 4) places now → packets_under_way between ≡ 0 → packets_under_way now ≡ 0
    quiet_on middle between front four none = stays_quiet start (4 * many) middle between (4 * many + 4) places now kept poised front four whole none

    by : (middle : Places) (between : WorldState) → Rounds start (4 * many) middle between → MoreRounds (4 * many) middle between (4 * many + 4) places now → (packets_under_way between ≡ 0) ⊎ IsLessBy start between many
        → (packets_under_way now ≡ 0) ⊎ IsLessBy start now (suc many)
    by middle between front four (inl none) = inl (quiet_on middle between front four none)
    by middle between front four (inr less) = elim (cases_lt (packets_under_way between) 1) [
      | inl none ↦ inl (quiet_on middle between front four (omega (arith, none)))
      | inr some ↦ inr (let more = four_rounds_fall start (4 * many) middle between places now kept poised casts front four whole some in omega (arith, less, more))
    ]

-- in four rounds for each packet, and twelve for each message, nothing is left under way
pub call_empties : (start : WorldState) (rounds : ℕ) (places : Places) (now : WorldState) → IsKept start → IsPoised start → CastsFall start → Rounds start rounds places now → now.lost ≡ false → 16 + 16 * load_under_way start ≤ rounds → packets_under_way now ≡ 0
unfolding load_under_way
call_empties start rounds places now kept poised casts made whole many =
    let least = packets_under_way start + 3 * messages_under_way start in
    let p = rounds_part start (4 * least) rounds places now (omega (arith, many)) made in
    let clear_there = more_whole (4 * least) p.middle p.between rounds places now p.rest whole in
    stays_quiet start (4 * least) p.middle p.between rounds places now kept poised p.front p.rest whole
    (by p.middle p.between clear_there p.front (emptied least start p.middle p.between kept poised casts p.front clear_there))
  where
    by : (middle : Places) (between : WorldState) → between.lost ≡ false → Rounds start (4 * (packets_under_way start + 3 * messages_under_way start)) middle between
        → (packets_under_way between ≡ 0) ⊎ IsLessBy start between (packets_under_way start + 3 * messages_under_way start) → packets_under_way between ≡ 0
    by middle between clear_there front (inl none) = none
    by middle between clear_there front (inr less) =
        all_fell start 0 (ends_of start.air) start (4 * (packets_under_way start + 3 * messages_under_way start)) middle between kept poised begin (from_begin start (4 * (packets_under_way start + 3 * messages_under_way start)) middle between front) clear_there less
