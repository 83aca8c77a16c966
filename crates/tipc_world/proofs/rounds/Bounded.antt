-- From one boundary of a calm call to a later one no more is delivered than was left of what was accepted, and what is
-- accepted anew.
use Rattle.std.specs.Prelude.{◌-◌, ◌⊎◌, ◌||◌, is_some, if◌then◌else◌, option_and_then, option_map, unwrap_or}
use Rattle.std.specs.List.{flat_map}
use Rattle.std.proofs.Common.{◌≡◌, ◌≤◌, ◌+◌, ◌*◌, ◌∙◌, ℕ, Bool, true, false, List, [], ◌++◌, Option, Some, None, length, slice_index_or, append_assoc, append-nil, inl, inr, refl, sym, ap, subst, arith}
use Rattle.std.proofs.lemmas.Bool.{true≢false}
use Rattle.std.proofs.lemmas.List.Sums.{sum_by-append}
use Rattle.tipc_types.specs.Prefixes.{IsPrefixOf}
use Rattle.tipc_types.specs.declared.message_forms.Flow.{Flow}
use Rattle.tipc_types.specs.declared.message_forms.Flow.TheVariants.{Broadcast, One, Zero}
use Rattle.tipc_journal.specs.declared.entries.Entry.{Entry}
use Rattle.tipc_journal.specs.Streams.{accepted, delivered}
use Rattle.tipc_journal.proofs.StreamLaws.{accepted_append, delivered_append}
use Rattle.tipc_link.proofs.LinkLaw.{Each, Each-none}
use Rattle.tipc_pair.specs.Facing.{PairEnds, contact_between, in_contact, is_up_at}
use Rattle.tipc_settling.specs.Loads.{accepted_weight, accepts_weight, delivered_weight, delivers_weight}
use Rattle.tipc_replay.specs.Numbers.{end_on}
use Rattle.tipc_replay.specs.States.{MemberState, accepted_at, contact_at, delivered_at, history, history_at, is_link_up_at, link_at, member_at, pair_at, stream_of}
use Rattle.tipc_replay.proofs.LookUps.{history_at-is, member_at-is}
use Rattle.tipc_replay.proofs.Promise.{is_replayed}
use Rattle.tipc_world.specs.Answered.{sum_to}
use Rattle.tipc_world.specs.Measures.{weight_given}
use Rattle.tipc_world.specs.Poised.{IsPoised, LinkStands, messages_under_way, undelivered, undelivered_with}
use Rattle.tipc_world.specs.RoundParts.{EachNode, IsKept, number_of_member, total_of}
use Rattle.tipc_world.specs.States.{WorldState, is_there}
use Rattle.tipc_world.proofs.Staying.{absent_at}
use Rattle.tipc_world.proofs.calls.Sums.{sum_to-same}
use Rattle.tipc_world.proofs.rounds.Beginning.{node_there, peer_there}
use Rattle.tipc_world.proofs.rounds.CallJournals.{RecordsMore}
use Rattle.tipc_world.proofs.rounds.Falling.{near_at_0, near_at_1}
use Rattle.tipc_world.proofs.rounds.NumberSums.{number_at, sums_below, sums_thrice, sums_together, sums_turned, total_by_number}
use Rattle.tipc_world.proofs.rounds.StreamWeights.{IsInContact, accepted_in_all, accepted_with, delivered_in_contact, delivered_with, left_bounds, weight_all}
use Rattle.tipc_world.proofs.rounds.UpLinks.{up_there}

-- the weight of what a node accepted in its present boot
abbrev pub weight_taken : MemberState → ℕ
weight_taken m = accepted_weight m.node.journal

-- ---- contacts of a poised world

-- where a pair is in contact one of its links is up
up_in_contact : (x : PairEnds) → in_contact x ≡ true → (is_up_at x.near ≡ true) ⊎ (is_up_at x.far ≡ true)
up_in_contact x there = by (is_up_at x.near) (is_up_at x.far) refl refl there
  where
    by : (s t : Bool) → is_up_at x.near ≡ s → is_up_at x.far ≡ t → (s || t) ≡ true → (is_up_at x.near ≡ true) ⊎ (is_up_at x.far ≡ true)
    by true t near far is = inl near
    by false true near far is = inr far
    by false false near far is = absurd (let wrong : false ≡ true = is in cc)

-- a link that is up stands, and its nodes are in one contact
stands_there : (w : WorldState) (a b bearer : ℕ) → IsKept w → IsPoised w → bearer ≤ 1 → is_link_up_at w.members a b bearer ≡ true → LinkStands w.members a b bearer
stands_there w a b bearer kept poised on_one up =
    let e = up_there (link_at w.members a b bearer) up in
    elim (poised a b bearer (node_there w a b bearer e.0 e.1) (peer_there w a b bearer e.0 kept e.1) (λ same. absurd (let wrong : None ≡ Some e.0 = sym (ap (end_on bearer) (kept.nodes.sound.apart a)) ∙ (ap (λ k. link_at w.members a k bearer) same ∙ e.1) in cc)) on_one) [
      | inl stands ↦ stands
      | inr is_cut ↦ absurd (true≢false (sym up ∙ is_cut.near))
    ]

-- where one node is in contact with another one, that one is in the same contact
pub both_meet : (w : WorldState) (a b own theirs : ℕ) → IsKept w → IsPoised w → contact_at w.members a b ≡ Some (own, theirs) → contact_at w.members b a ≡ Some (theirs, own)
unfolding contact_at
both_meet w a b own theirs kept poised meets = by (pair_at w.members a b) refl
  where
    shared : (bearer : ℕ) → LinkStands w.members a b bearer → contact_at w.members b a ≡ Some (theirs, own)
    shared bearer stands =
        let both : Some stands.contact.numbers ≡ Some (own, theirs) = sym stands.contact.here ∙ meets in
        let same : stands.contact.numbers ≡ (own, theirs) = cc in
        stands.contact.there ∙ ap (λ (c : ℕ × ℕ). Some (c.1, c.0)) same

    on : (x : PairEnds) → pair_at w.members a b ≡ Some x → (t : Bool) → in_contact x ≡ t → contact_at w.members b a ≡ Some (theirs, own)
    on x is false out = absurd (let wrong : None ≡ Some (own, theirs) = sym (ap (option_and_then contact_between) is ∙ ap (λ t. if t then Some (x.contact, x.seen) else None) out) ∙ meets in cc)
    on x is true within =
        let first = (kept.nodes.sound.between a b x is).first in
        elim (up_in_contact x within) [
          | inl near ↦ shared 0 (stands_there w a b 0 kept poised (omega arith) (ap (λ o. is_up_at (end_on 0 o)) is ∙ (ap is_up_at (near_at_0 x first) ∙ near)))
          | inr far ↦ shared 1 (stands_there w a b 1 kept poised (omega arith) (ap (λ o. is_up_at (end_on 1 o)) is ∙ (ap is_up_at (near_at_1 x first) ∙ far)))
        ]

    by : (o : Option PairEnds) → pair_at w.members a b ≡ o → contact_at w.members b a ≡ Some (theirs, own)
    by None none = absurd (let wrong : None ≡ Some (own, theirs) = sym (ap (option_and_then contact_between) none) ∙ meets in cc)
    by (Some x) is = on x is (in_contact x) refl

-- ---- what one number added

record AddedAt (base now : WorldState) (n : ℕ) : Type 0 where
  added : List Entry
  given : number_at weight_given now n ≡ number_at weight_given base n + delivered_weight added
  taken : number_at weight_taken now n ≡ number_at weight_taken base n + accepted_weight added
  history : history_at now.members n ≡ history_at base.members n ++ added
  in_contact : Each (IsInContact (contact_at base.members n)) added

no_history : (members : List (Option MemberState)) (n : ℕ) → slice_index_or members n None ≡ None → history_at members n ≡ []
unfolding history_at member_at
no_history members n none = ap (λ o. unwrap_or (option_map history o) []) none

longer_history : (k m : MemberState) (added : List Entry) → m.past ≡ k.past → m.node.journal ≡ k.node.journal ++ added → history m ≡ history k ++ added
unfolding history
longer_history k m added past journal =
    let boots = flat_map (λ entries. entries) k.past in
    ap (λ (js : List (List Entry)). flat_map (λ entries. entries) js ++ m.node.journal) past ∙ (ap (λ es. boots ++ es) journal ∙ sym (append_assoc boots k.node.journal added))

node_added : (base now : WorldState) → ((n : ℕ) → is_there now n ≡ is_there base n) → EachNode (RecordsMore base) now → (n : ℕ) → AddedAt base now n
node_added base now nodes all n = at (slice_index_or now.members n None) refl
  where
    at : (o : Option MemberState) → slice_index_or now.members n None ≡ o → AddedAt base now n
    at None none =
        let was = absent_at base n (sym (nodes n) ∙ ap is_some none) in
        let given = ap (number_of_member weight_given) none in
        let given_before = ap (number_of_member weight_given) was in
        let taken = ap (number_of_member weight_taken) none in
        let taken_before = ap (number_of_member weight_taken) was in
        record {
          added = [];
          given = omega (arith, given, given_before);
          taken = omega (arith, taken, taken_before);
          history = no_history now.members n none ∙ sym (append-nil (history_at base.members n) ∙ no_history base.members n was);
          in_contact = Each-none (IsInContact (contact_at base.members n));
        }
    at (Some m) there =
        let r = all n m there in
        let given = ap (number_of_member weight_given) there in
        let given_before = ap (number_of_member weight_given) r.was in
        let taken = ap (number_of_member weight_taken) there in
        let taken_before = ap (number_of_member weight_taken) r.was in
        let given_more = ap delivered_weight r.journal ∙ sum_by-append delivers_weight r.earlier.node.journal r.added in
        let taken_more = ap accepted_weight r.journal ∙ sum_by-append accepts_weight r.earlier.node.journal r.added in
        record {
          added = r.added;
          given = omega (arith, given, given_before, given_more);
          taken = omega (arith, taken, taken_before, taken_more);
          history = history_at-is now.members n m (member_at-is now.members n m there)
              ∙ (longer_history r.earlier m r.added r.past r.journal ∙ ap (λ es. es ++ r.added) (sym (history_at-is base.members n r.earlier (member_at-is base.members n r.earlier r.was))));
          in_contact = r.in_contact;
        }

-- ---- what one node delivers from another

three_flows : (d d' d'' a a' a'' l l' l'' : ℕ) → d ≤ a + 3 * l → d' ≤ a' + 3 * l' → d'' ≤ a'' + 3 * l'' → d + d' + d'' ≤ a + a' + a'' + 3 * (l + l' + l'')
three_flows d d' d'' a a' a'' l l' l'' first second third = omega (arith, first, second, third)

module _ (base now : WorldState) (kept_base : IsKept base) (kept_now : IsKept now) (poised : IsPoised base) (nodes : (n : ℕ) → is_there now n ≡ is_there base n) (all : EachNode (RecordsMore base) now) where
  abbrev added : (n : ℕ) → List Entry
  added n = (node_added base now nodes all n).added

  -- in one flow
  abbrev flow_left : (n b own theirs : ℕ) → Flow → ℕ
  flow_left n b own theirs flow = length (accepted_at base.members b n theirs own flow) - length (delivered_at base.members n b own theirs flow)

  flow_bound : (n b own theirs : ℕ) (flow : Flow) → weight_all (delivered (added n) (stream_of b own theirs flow)) ≤ weight_all (accepted (added b) (stream_of n theirs own flow)) + 3 * flow_left n b own theirs flow
  unfolding accepted_at delivered_at
  flow_bound n b own theirs flow =
      let s = stream_of b own theirs flow in
      let t = stream_of n theirs own flow in
      let given = ap (λ es. delivered es s) (node_added base now nodes all n).history ∙ delivered_append (history_at base.members n) (added n) s in
      let put = ap (λ es. accepted es t) (node_added base now nodes all b).history ∙ accepted_append (history_at base.members b) (added b) t in
      let was = (is_replayed base.members base.air kept_base.nodes).prefix b n theirs own flow in
      let is = (is_replayed now.members now.air kept_now.nodes).prefix b n theirs own flow in
      left_bounds (delivered (history_at base.members n) s) (accepted (history_at base.members b) t) (delivered (added n) s) (accepted (added b) t) was
      (subst (λ ms. IsPrefixOf (delivered (history_at base.members n) s ++ delivered (added n) s) ms) put (subst (λ ms. IsPrefixOf ms (accepted (history_at now.members b) t)) given is))

  -- in all of them
  pair_bound : (n b : ℕ) → delivered_with (added n) b (contact_at base.members n b) ≤ accepted_with (added b) n (contact_at base.members b n) + 3 * undelivered base.members b n
  unfolding undelivered
  pair_bound n b = by (contact_at base.members n b) refl
    where
      by : (o : Option (ℕ × ℕ)) → contact_at base.members n b ≡ o → delivered_with (added n) b (contact_at base.members n b) ≤ accepted_with (added b) n (contact_at base.members b n) + 3 * undelivered base.members b n
      by None none = (let here = ap (delivered_with (added n) b) none in omega (arith, here))
      by (Some c) is =
          let back = both_meet base n b c.0 c.1 kept_base poised is in
          let here = ap (delivered_with (added n) b) is in
          let there = ap (accepted_with (added b) n) back in
          let left : undelivered base.members b n ≡ flow_left n b c.0 c.1 Zero + flow_left n b c.0 c.1 One + flow_left n b c.0 c.1 Broadcast = ap (undelivered_with base.members b n) back in
          let bound = three_flows _ _ _ _ _ _ (flow_left n b c.0 c.1 Zero) (flow_left n b c.0 c.1 One) (flow_left n b c.0 c.1 Broadcast) (flow_bound n b c.0 c.1 Zero) (flow_bound n b c.0 c.1 One) (flow_bound n b c.0 c.1 Broadcast) in
          let all_left = ap (λ k. 3 * k) left in
          omega (arith, here, there, all_left, bound)

  -- ---- what all nodes deliver

  abbrev given_at : ℕ → ℕ
  given_at n = delivered_weight (added n)

  abbrev taken_at : ℕ → ℕ
  taken_at n = accepted_weight (added n)

  -- what node n accepts for each other one
  abbrev taken_for : ℕ → ℕ → ℕ
  taken_for b n = accepted_with (added b) n (contact_at base.members b n)

  abbrev left_for : ℕ → ℕ → ℕ
  left_for b n = 3 * undelivered base.members b n

  node_bound : (n : ℕ) → given_at n ≤ sum_to (λ b. taken_for b n) 32 + sum_to (λ b. left_for b n) 32
  node_bound n =
      let all_given = delivered_in_contact (contact_at base.members n) (added n) (node_added base now nodes all n).in_contact in
      let each = sums_below (λ b. delivered_with (added n) b (contact_at base.members n b)) (λ b. taken_for b n + left_for b n) 32 (λ b from to. pair_bound n b) in
      let both = sums_together (λ b. taken_for b n) (λ b. left_for b n) (λ b. taken_for b n + left_for b n) 32 (λ b. refl) in
      omega (arith, all_given, each, both)

  all_bound : sum_to given_at 32 ≤ sum_to taken_at 32 + 3 * messages_under_way base
  all_bound =
      let each = sums_below given_at (λ n. sum_to (λ b. taken_for b n) 32 + sum_to (λ b. left_for b n) 32) 32 (λ n from to. node_bound n) in
      let both = sums_together (λ n. sum_to (λ b. taken_for b n) 32) (λ n. sum_to (λ b. left_for b n) 32) (λ n. sum_to (λ b. taken_for b n) 32 + sum_to (λ b. left_for b n) 32) 32 (λ n. refl) in
      let taken_turned = sums_turned (λ n b. taken_for b n) 32 32 in
      let left_turned = sums_turned (λ n b. left_for b n) 32 32 in
      let taken = sums_below (λ b. sum_to (taken_for b) 32) taken_at 32 (λ b from to. accepted_in_all (contact_at base.members b) (added b)) in
      let left = left_is in
      omega (arith, each, both, taken_turned, left_turned, taken, left)
    where
      left_is : sum_to (λ b. sum_to (left_for b) 32) 32 ≡ 3 * messages_under_way base
      left_is = sum_to-same (λ b. 3 * sum_to (undelivered base.members b) 32) (λ b. sum_to (left_for b) 32) 32 (λ b. sums_thrice (undelivered base.members b) 32) ∙ sums_thrice (λ b. sum_to (undelivered base.members b) 32) 32

  pub delivered_bounded : total_of weight_given now + total_of weight_taken base ≤ total_of weight_taken now + total_of weight_given base + 3 * messages_under_way base
  delivered_bounded =
      let given = total_by_number weight_given now kept_now in
      let given_before = total_by_number weight_given base kept_base in
      let taken = total_by_number weight_taken now kept_now in
      let taken_before = total_by_number weight_taken base kept_base in
      let given_more = sums_together (number_at weight_given base) given_at (number_at weight_given now) 32 (λ n. (node_added base now nodes all n).given) in
      let taken_more = sums_together (number_at weight_taken base) taken_at (number_at weight_taken now) 32 (λ n. (node_added base now nodes all n).taken) in
      let bound = all_bound in
      omega (arith, given, given_before, taken, taken_before, given_more, taken_more, bound)
