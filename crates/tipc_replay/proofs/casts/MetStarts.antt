-- A node that comes in met nobody, in whatever boot it begins.
use Rattle.std.proofs.Common.{◌≡◌, ◌≢◌, ◌+◌, ◌-◌, ◌<◌, ◌≤◌, ◌^◌, ℕ, zero, suc, List, None, Option, slice_index_or, refl, sym, ◌∙◌, subst, inl, inr, arith}
use Rattle.std.proofs.lemmas.Bool.{cases_eq}
use Rattle.tipc_two_nodes.specs.Order.{Contact, HaveMet}
use Rattle.tipc_two_nodes.specs.Reaching.{restarts as restarts_node}
use Rattle.tipc_two_nodes.specs.Sights.{Sight}
use Rattle.tipc_two_nodes.proofs.sights.Meeting.{steps_met, turned_met}
use Rattle.tipc_replay.specs.Events.{JoinsAt}
use Rattle.tipc_replay.specs.Met.{AreMet, contacts_met}
use Rattle.tipc_replay.specs.Skies.{AirState}
use Rattle.tipc_replay.specs.States.{MemberState}
use Rattle.tipc_replay.specs.Views.{sight_at}
use Rattle.tipc_replay.proofs.SoundWorlds.{absent_bare, absent_first, all_same, in_boot, IsBare, newcomer_sight, other_sight}
use Rattle.tipc_replay.proofs.casts.Meeting.{met_same}

-- such a node met in each later boot whom it met in this one
later_met : (v w : Sight) (here there : List Contact) (more boot : ℕ) → IsBare v → HaveMet v w here there → boot ≡ v.node.boot + more → boot < 2 ^ 32 → HaveMet (in_boot v boot) w here there
later_met v w here there zero boot bare h is few =
    let same : v.node.boot ≡ boot = omega (arith, is) in
    let placed : v ≡ in_boot v v.node.boot = λ i. record v { node = bare.node i } in
    subst (λ k. HaveMet (in_boot v k) w here there) same (subst (λ u. HaveMet u w here there) placed h)
later_met v w here there (suc more) boot bare h is few =
    let before = v.node.boot + more in
    let next : before + 1 ≡ boot = omega (arith, is) in
    let low : before < 2 ^ 32 = omega (arith, few, next) in
    let fits : before + 1 < 2 ^ 32 = omega (arith, few, next) in
    subst (λ k. HaveMet (in_boot v k) w here there) next
    (steps_met (in_boot v before) (in_boot v (before + 1)) w here there (later_met v w here there more before bare h refl low) (restarts_node (in_boot v (before + 1)) (record {
      node = refl;
      ends = bare.ends;
      put_is = λ own theirs. refl;
      given_is = λ own theirs. refl;
      partial_is = bare.partial;
      numbered_is = λ b epoch. refl;
      sent = refl;
    }) fits))

-- two nodes of a world
abbrev MetAt : List (Option MemberState) → AirState → ℕ → ℕ → Type 0
MetAt members air a b = HaveMet (sight_at members air a b) (sight_at members air b a) (contacts_met members a b) (contacts_met members b a)

same_contacts : (old new : List (Option MemberState)) (air : AirState) (a b : ℕ) → contacts_met new a b ≡ contacts_met old a b → contacts_met new b a ≡ contacts_met old b a
    → HaveMet (sight_at new air a b) (sight_at new air b a) (contacts_met old a b) (contacts_met old b a) → MetAt new air a b
same_contacts old new air a b one two h =
    subst (λ cs. HaveMet (sight_at new air a b) (sight_at new air b a) cs (contacts_met new b a)) (sym one) (subst (λ cs. HaveMet (sight_at new air a b) (sight_at new air b a) (contacts_met old a b) cs) (sym two) h)

newcomer_met : (old new : List (Option MemberState)) (air : AirState) (n b first : ℕ) → slice_index_or old n None ≡ None → 1 ≤ first → first < 2 ^ 32 → b ≢ n → JoinsAt old new n first → MetAt old air n b → MetAt new air n b
newcomer_met old new air n b first none from few apart j h =
    let one = absent_first old air n b none in
    let more : first ≡ (sight_at old air n b).node.boot + (first - 1) = omega (arith, from, one) in
    let here = contacts_met old n b in
    let there = contacts_met old b n in
    let same = all_same old new n first none j in
    same_contacts old new air n b (met_same old new n b (same n).entries) (met_same old new b n (same b).entries)
    (subst (λ w. HaveMet (sight_at new air n b) w here there) (sym (other_sight old new air b n (j.others b apart)))
    (subst (λ v. HaveMet v (sight_at old air b n) here there) (sym (newcomer_sight old new air n b first none j))
    (later_met (sight_at old air n b) (sight_at old air b n) here there (first - 1) first (absent_bare old air n b none) h more few)))

turned_at : (members : List (Option MemberState)) (air : AirState) (a b : ℕ) → MetAt members air a b → MetAt members air b a
turned_at members air a b h = turned_met (sight_at members air a b) (sight_at members air b a) (contacts_met members a b) (contacts_met members b a) h

-- after a node came in under a number that no node had
pub joined_met : (old new : List (Option MemberState)) (air : AirState) (n first : ℕ) → 1 ≤ first → first < 2 ^ 32 → slice_index_or old n None ≡ None → JoinsAt old new n first → AreMet old air → AreMet new air
joined_met old new air n first from few none j met a b a_is b_is apart = elim (cases_eq a n) [
  | inl same ↦
      let other : b ≢ n = λ e. apart (same ∙ sym e) in
      subst (λ k. MetAt new air k b) (sym same) (newcomer_met old new air n b first none from few other j (subst (λ k. MetAt old air k b) same (met a b a_is b_is apart)))
  | inr a_other ↦ elim (cases_eq b n) [
    | inl same ↦
        subst (λ k. MetAt new air a k) (sym same)
        (turned_at new air n a (newcomer_met old new air n a first none from few a_other j (turned_at old air a n (subst (λ k. MetAt old air a k) same (met a b a_is b_is apart)))))
    | inr b_other ↦
        let same = all_same old new n first none j in
        same_contacts old new air a b (met_same old new a b (same a).entries) (met_same old new b a (same b).entries)
        (subst (λ w. HaveMet (sight_at new air a b) w (contacts_met old a b) (contacts_met old b a)) (sym (other_sight old new air b a (j.others b b_other)))
        (subst (λ v. HaveMet v (sight_at old air b a) (contacts_met old a b) (contacts_met old b a)) (sym (other_sight old new air a b (j.others a a_other))) (met a b a_is b_is apart)))
  ]
]
