-- Nodes and the air between them are sound at the beginning, when a node comes in, and after every step.
use Rattle.std.proofs.Common.{◌≡◌, ◌≢◌, ◌==◌, ◌≤◌, ◌<◌, ◌+◌, ◌-◌, ◌^◌, ℕ, zero, suc, Bool, List, [], Option, Some, None, map, option_map, option_and_then, slice_index_or, unwrap_or, refl, sym, ap, ◌∙◌, subst, inl, inr, arith, true}
use Rattle.std.specs.Prelude.{false, if◌then◌else◌, is_some, slice_get}
use Rattle.std.specs.Map.{lookup}
use Rattle.std.proofs.lemmas.Bool.{cases_eq}
use Rattle.tipc_types.specs.Address.{node_word}
use Rattle.tipc_types.specs.declared.message_forms.Flow.TheVariants.{Zero}
use Rattle.tipc_types.specs.declared.node_calls.Answer.{Answer}
use Rattle.tipc_types.specs.declared.node_calls.By.{By}
use Rattle.tipc_contact.specs.Sides.{first_number}
use Rattle.tipc_fragments.specs.Joining.{fresh}
use Rattle.tipc_journal.proofs.StreamLaws.{accepted_nil, delivered_nil}
use Rattle.tipc_two_nodes.specs.Sights.{AreSeen, IsNew, Sight}
use Rattle.tipc_two_nodes.proofs.sights.Sights.{restarted, starts, turned}
use Rattle.tipc_node.specs.declared.neighbours.Neighbour.{Neighbour}
use Rattle.tipc_replay.specs.declared.air.Sent.{Sent}
use Rattle.tipc_replay.specs.declared.events.WorldEvent.{WorldEvent}
use Rattle.tipc_replay.specs.declared.events.WorldEvent.TheVariants.{Restart, Call, Arrive}
use Rattle.tipc_replay.specs.Air.{sent_between}
use Rattle.tipc_replay.specs.Calls.{HasNextBoot}
use Rattle.tipc_replay.specs.Due.{unarrived}
use Rattle.tipc_node.specs.Messages.{bytes_of}
use Rattle.tipc_node.specs.Turns.{pair_in}
use Rattle.tipc_replay.specs.Members.{IsNewcomer, Tally}
use Rattle.tipc_replay.specs.Numbers.{begun_of, end_on, own_in, seen_in}
use Rattle.tipc_replay.specs.Skies.{AirState, air_on, empty_air}
use Rattle.tipc_replay.specs.Sound.{IsNumber, IsSound}
use Rattle.tipc_replay.specs.States.{has_member, MemberState, boot_at, count_at, count_in, count_of, history, history_at, member_at, pair_at, same_session, stream_of}
use Rattle.tipc_replay.specs.Events.{JoinsAt}
use Rattle.tipc_replay.specs.Steady.{IsSteady}
use Rattle.tipc_replay.specs.Steps.{Becomes, IsArrival, Stage}
use Rattle.tipc_replay.specs.Views.{given_in, node_from, put_in, sight_at, sight_from}
use Rattle.tipc_replay.proofs.pairs.Counts.{count_alone}
use Rattle.tipc_replay.proofs.LookUps.{boot_at-is, boot_at-same, count_at-is, count_at-same, either_way, history_at-is, history_at-same, member_at-is, pair_at-is, pair_at-same}
use Rattle.tipc_replay.proofs.SoundEvents.{happens_sound}
use Rattle.tipc_replay.proofs.streams.StreamsEvents.{joined_keeps_streams, streams_start, no_history as new_history, member_alike}
use Rattle.tipc_replay.proofs.streams.StreamsKept.{streams_of}

-- ---- after an event

arrival_sound : (old new : Stage) (by : By) (node bearer place : ℕ) (answered : Answer) (lost : Bool) → IsSteady old.members old.air → IsArrival old new by node bearer place answered lost → IsSound new.members new.air
arrival_sound old new by node bearer place answered lost steady h = case (unarrived old.members old.air node bearer place) refl
  where
    case : (o : Option Answer) → unarrived old.members old.air node bearer place ≡ o → IsSound new.members new.air
    case (Some why) stops = subst (λ (s : Stage). IsSound s.members s.air) (sym (h.none why stops).1) steady.sound
    case None free =
        let a = h.arrives free in
        happens_sound old new by (Arrive node bearer place) a.0.frame answered lost steady a.2 (a.0, a.1, free, refl)

pub becomes_sound : (old new : Stage) (by : By) (event : WorldEvent) (answered : Answer) (lost : Bool) → IsSteady old.members old.air → HasNextBoot old.members event → Becomes old by event new answered lost
    → IsSound new.members new.air
becomes_sound old new by (Restart node) answered lost steady boots h =
    happens_sound old new by (Restart node) [] answered lost steady h (let next = boots h.before h.turns.was in omega arith)
becomes_sound old new by (Call node call) answered lost steady boots h = happens_sound old new by (Call node call) [] answered lost steady h tt
becomes_sound old new by (Arrive node bearer place) answered lost steady boots h = arrival_sound old new by node bearer place answered lost steady h

-- ---- a node comes in

pub absent_boot : (members : List (Option MemberState)) (n : ℕ) → slice_index_or members n None ≡ None → boot_at members n ≡ 1
unfolding boot_at member_at
absent_boot members n none = ap (λ o. unwrap_or (option_map (λ (m : MemberState). m.node.boot) o) 1) none

pub absent_history : (members : List (Option MemberState)) (n : ℕ) → slice_index_or members n None ≡ None → history_at members n ≡ []
unfolding history_at member_at
absent_history members n none = ap (λ o. unwrap_or (option_map history o) []) none

pub absent_pair : (members : List (Option MemberState)) (n b : ℕ) → slice_index_or members n None ≡ None → pair_at members n b ≡ None
unfolding pair_at member_at
absent_pair members n b none = ap (λ o. option_and_then (λ (m : MemberState). pair_in m.node b) o) none

absent_count : (members : List (Option MemberState)) (n b bearer epoch : ℕ) → slice_index_or members n None ≡ None → count_at members n b bearer epoch ≡ 0
unfolding count_at member_at
absent_count members n b bearer epoch none = ap (λ o. unwrap_or (option_map (λ (m : MemberState). count_of m b bearer epoch) o) 0) none

no_count : (counts : List Tally) (b bearer epoch : ℕ) → counts ≡ [] → count_in counts b bearer epoch ≡ 0
unfolding count_in
no_count counts b bearer epoch none = ap (λ cs. unwrap_or (lookup (same_session (b, bearer, epoch)) cs) 0) none

new_count : (m : MemberState) (n first b bearer epoch : ℕ) → IsNewcomer m n first → count_of m b bearer epoch ≡ 0
new_count m n first b bearer epoch c =
    count_alone m b bearer epoch (ap (λ o. end_on bearer (option_map (λ (x : Neighbour). x.pair) o)) (c.node.alone b)) ∙ no_count m.counts b bearer epoch c.counts

-- a node is to each other as before, but for its boot
pub record IsSame (members members' : List (Option MemberState)) (a : ℕ) : Type 0 where
  pub pair : (b : ℕ) → pair_at members' a b ≡ pair_at members a b
  pub entries : history_at members' a ≡ history_at members a
  pub numbered : (b bearer epoch : ℕ) → count_at members' a b bearer epoch ≡ count_at members a b bearer epoch

-- a node that has just come in is as the one that wasn't there
newcomer_same : (members members' : List (Option MemberState)) (n first : ℕ) (m : MemberState) → slice_index_or members n None ≡ None → slice_index_or members' n None ≡ Some m → IsNewcomer m n first → IsSame members members' n
newcomer_same members members' n first m none there c =
    let is = member_at-is members' n m there in record {
      pair = λ b. pair_at-is members' n b m is ∙ ap (option_map (λ (x : Neighbour). x.pair)) (c.node.alone b) ∙ sym (absent_pair members n b none);
      entries = history_at-is members' n m is ∙ new_history m n first c ∙ sym (absent_history members n none);
      numbered = λ b bearer epoch. count_at-is members' n b bearer epoch m is ∙ new_count m n first b bearer epoch c ∙ sym (absent_count members n b bearer epoch none);
    }

-- each other node is as it was
other_same : (old new : List (Option MemberState)) (a : ℕ) → slice_index_or new a None ≡ slice_index_or old a None → IsSame old new a
other_same old new a same =
    let is = member_alike old new a same in record {
      pair = λ b. pair_at-same old new a b is;
      entries = history_at-same old new a is;
      numbered = λ b bearer epoch. count_at-same old new a b bearer epoch is;
    }

pub all_same : (old new : List (Option MemberState)) (n first : ℕ) → slice_index_or old n None ≡ None → JoinsAt old new n first → (a : ℕ) → IsSame old new a
all_same old new n first none j a = elim (cases_eq a n) [
  | inl same ↦ subst (λ k. IsSame old new k) (sym same) (newcomer_same old new n first j.newcomer none j.here j.fresh)
  | inr other ↦ other_same old new a (j.others a other)
]

-- what a node is to another one, in this boot
sight_in : (old new : List (Option MemberState)) (air : AirState) (a b boot : ℕ) → boot_at new a ≡ boot → IsSame old new a
    → sight_at new air a b ≡ sight_from a b boot (pair_at old a b) (put_in (node_word a) (history_at old a) b) (given_in (history_at old a) b) (count_at old a b) (sent_between air a b)
unfolding sight_at
sight_in old new air a b boot boots s =
    let pair = s.pair b in
    let entries = s.entries in
    λ i. sight_from a b (boots i) (pair i) (put_in (node_word a) (entries i) b) (given_in (entries i) b) (λ bearer epoch. s.numbered b bearer epoch i) (sent_between air a b)

-- a node that was there is to each other what it was
pub other_sight : (old new : List (Option MemberState)) (air : AirState) (a b : ℕ) → slice_index_or new a None ≡ slice_index_or old a None → sight_at new air a b ≡ sight_at old air a b
unfolding sight_at
other_sight old new air a b same = sight_in old new air a b (boot_at old a) (boot_at-same old new a (member_alike old new a same)) (other_same old new a same)

-- ---- a boot that isn't the first one

-- what a node is to another one, in another boot, where it has nothing of it
abbrev pub in_boot : Sight → ℕ → Sight
in_boot v boot = record v { node = record { own = v.node.own; peer = v.node.peer; boot = boot; contact = first_number boot; seen = 0 } }

pub record IsBare (v : Sight) : Type 0 where
  pub node : v.node ≡ record { own = v.node.own; peer = v.node.peer; boot = v.node.boot; contact = first_number v.node.boot; seen = 0 }
  pub ends : (b : ℕ) → v.ends b ≡ None
  pub partial : v.partial ≡ fresh

-- such a node talks in each later boot as it does in this one
later_seen : (v w : Sight) (more boot : ℕ) → IsBare v → AreSeen v w → boot ≡ v.node.boot + more → boot < 2 ^ 32 → AreSeen (in_boot v boot) w
later_seen v w zero boot bare h is few =
    let same : v.node.boot ≡ boot = omega (arith, is) in
    let placed : v ≡ in_boot v v.node.boot = λ i. record v { node = bare.node i } in
    subst (λ k. AreSeen (in_boot v k) w) same (subst (λ u. AreSeen u w) placed h)
later_seen v w (suc more) boot bare h is few =
    let before = v.node.boot + more in
    let next : before + 1 ≡ boot = omega (arith, is) in
    let low : before < 2 ^ 32 = omega (arith, few, next) in
    let fits : before + 1 < 2 ^ 32 = omega (arith, few, next) in
    subst (λ k. AreSeen (in_boot v k) w) next
    (restarted (in_boot v before) (in_boot v (before + 1)) w (later_seen v w more before bare h refl low) (record {
      node = refl;
      ends = bare.ends;
      put_is = λ own theirs. refl;
      given_is = λ own theirs. refl;
      partial_is = bare.partial;
      numbered_is = λ b epoch. refl;
      sent = refl;
    }) fits)

-- a node that isn't there has nothing of any other
pub absent_bare : (members : List (Option MemberState)) (air : AirState) (n b : ℕ) → slice_index_or members n None ≡ None → IsBare (sight_at members air n b)
unfolding sight_at
absent_bare members air n b none =
    let pair = absent_pair members n b none in record {
      node = λ i. node_from n b (boot_at members n) (pair i);
      ends = λ bearer. ap (end_on bearer) pair;
      partial = ap begun_of pair;
    }

pub absent_first : (members : List (Option MemberState)) (air : AirState) (n b : ℕ) → slice_index_or members n None ≡ None → (sight_at members air n b).node.boot ≡ 1
unfolding sight_at
absent_first members air n b none = absent_boot members n none

-- a newcomer is to each other node as the one that wasn't there, in its boot
pub newcomer_sight : (old new : List (Option MemberState)) (air : AirState) (n b first : ℕ) → slice_index_or old n None ≡ None → JoinsAt old new n first → sight_at new air n b ≡ in_boot (sight_at old air n b) first
unfolding sight_at
newcomer_sight old new air n b first none j =
    let boots = boot_at-is new n j.newcomer (member_at-is new n j.newcomer j.here) ∙ j.fresh.node.boot_is in
    let pair = absent_pair old n b none in
    sight_in old new air n b first boots (newcomer_same old new n first j.newcomer none j.here j.fresh)
    ∙ (λ i. record (sight_at old air n b) { node = node_from n b first (pair i) })

newcomer_seen : (old new : List (Option MemberState)) (air : AirState) (n b first : ℕ) → slice_index_or old n None ≡ None → 1 ≤ first → first < 2 ^ 32 → b ≢ n → JoinsAt old new n first
    → AreSeen (sight_at old air n b) (sight_at old air b n) → AreSeen (sight_at new air n b) (sight_at new air b n)
newcomer_seen old new air n b first none from few apart j h =
    let one = absent_first old air n b none in
    let more : first ≡ (sight_at old air n b).node.boot + (first - 1) = omega (arith, from, one) in
    subst (λ w. AreSeen (sight_at new air n b) w) (sym (other_sight old new air b n (j.others b apart)))
    (subst (λ v. AreSeen v (sight_at old air b n)) (sym (newcomer_sight old new air n b first none j))
    (later_seen (sight_at old air n b) (sight_at old air b n) (first - 1) first (absent_bare old air n b none) h more few))

others_seen : (old new : List (Option MemberState)) (air : AirState) (a b : ℕ) → slice_index_or new a None ≡ slice_index_or old a None → slice_index_or new b None ≡ slice_index_or old b None
    → AreSeen (sight_at old air a b) (sight_at old air b a) → AreSeen (sight_at new air a b) (sight_at new air b a)
others_seen old new air a b first second h =
    subst (λ w. AreSeen (sight_at new air a b) w) (sym (other_sight old new air b a second)) (subst (λ v. AreSeen v (sight_at old air b a)) (sym (other_sight old new air a b first)) h)

-- ---- the nodes after one came in

joined_numbers : (old new : List (Option MemberState)) (air : AirState) (n first : ℕ) → IsNumber n → IsSound old air → JoinsAt old new n first → (k : ℕ) (m : MemberState) → slice_index_or new k None ≡ Some m → IsNumber k × (m.node.own ≡ node_word k)
joined_numbers old new air n first number sound j k m there = elim (cases_eq k n) [
  | inl same ↦
      let there_n : slice_index_or new n None ≡ Some m = ap (λ i. slice_index_or new i None) (sym same) ∙ there in
      let here = j.here in
      let is : j.newcomer ≡ m = cc in
      (subst IsNumber (sym same) number, ap (λ (x : MemberState). x.node.own) (sym is) ∙ j.fresh.node.own_is ∙ ap node_word (sym same))
  | inr other ↦ sound.numbered k m (sym (j.others k other) ∙ there)
]

joined_absent : (old new : List (Option MemberState)) (n first b : ℕ) → JoinsAt old new n first → slice_index_or new b None ≡ None → slice_index_or old b None ≡ None
joined_absent old new n first b j none = elim (cases_eq b n) [
  | inl same ↦ absurd (let here = j.here in let gone : slice_index_or new n None ≡ None = ap (λ i. slice_index_or new i None) (sym same) ∙ none in let wrong : ⊥ = cc in wrong)
  | inr other ↦ sym (j.others b other) ∙ none
]

joined_there : (old new : List (Option MemberState)) (n first b : ℕ) → JoinsAt old new n first → has_member old b ≡ true → has_member new b ≡ true
joined_there old new n first b j there = elim (cases_eq b n) [
  | inl same ↦ ap (has_member new) same ∙ ap is_some j.here
  | inr other ↦ ap is_some (j.others b other) ∙ there
]

joined_pairs : (old new : List (Option MemberState)) (air : AirState) (n first a b : ℕ) → slice_index_or old n None ≡ None → 1 ≤ first → first < 2 ^ 32 → JoinsAt old new n first → a ≢ b
    → AreSeen (sight_at old air a b) (sight_at old air b a) → AreSeen (sight_at new air a b) (sight_at new air b a)
joined_pairs old new air n first a b none from few j apart h = elim (cases_eq a n) [
  | inl same ↦
      let other : b ≢ n = λ e. apart (same ∙ sym e) in
      subst (λ k. AreSeen (sight_at new air k b) (sight_at new air b k)) (sym same)
      (newcomer_seen old new air n b first none from few other j (subst (λ k. AreSeen (sight_at old air k b) (sight_at old air b k)) same h))
  | inr a_other ↦ elim (cases_eq b n) [
    | inl same ↦
        subst (λ k. AreSeen (sight_at new air a k) (sight_at new air k a)) (sym same)
        (turned (sight_at new air n a) (sight_at new air a n)
        (newcomer_seen old new air n a first none from few a_other j (turned (sight_at old air a n) (sight_at old air n a) (subst (λ k. AreSeen (sight_at old air a k) (sight_at old air k a)) same h))))
    | inr b_other ↦ others_seen old new air a b (j.others a a_other) (j.others b b_other) h
  ]
]

-- after a node came in under a number that no node had, in any boot
pub joined_sound : (old new : List (Option MemberState)) (air : AirState) (n first : ℕ) → IsNumber n → 1 ≤ first → first < 2 ^ 32 → slice_index_or old n None ≡ None → IsSound old air → JoinsAt old new n first → IsSound new air
joined_sound old new air n first number from few none sound j =
    let same = all_same old new n first none j in
    let streams = joined_keeps_streams old new n first (streams_of old air sound) j in
    record {
      numbered = joined_numbers old new air n first number sound j;
      apart = λ a. (same a).pair a ∙ sound.apart a;
      known = λ a b absent. (same a).pair b ∙ sound.known a b (λ is. joined_absent old new n first b j (absent is));
      between = λ a b x is. sound.between a b x (sym ((same a).pair b) ∙ is);
      pairs = λ a b a_is b_is apart. joined_pairs old new air n first a b none from few j apart (sound.pairs a b a_is b_is apart);
      no_flow_one = streams.no_flow_one;
      accepted = streams.accepted;
      delivered = streams.delivered;
      nothing = streams.nothing;
      frames = sound.frames;
      senders = λ bearer k f there. (let by = sound.senders bearer k f there in (by.0, by.1, joined_there old new n first by.0 j by.2));
    }

-- a node that isn't there
pub none_there : (members : List (Option MemberState)) (n : ℕ) → has_member members n ≡ false → slice_index_or members n None ≡ None
none_there members n absent = by (slice_index_or members n None) absent
  where
    by : (o : Option MemberState) → is_some o ≡ false → o ≡ None
    by None e = refl
    by (Some m) e = absurd cc

-- ---- the beginning

nothing_there : (n : ℕ) → let nobody : List (Option MemberState) = [] in slice_index_or nobody n None ≡ None
nothing_there n = refl

new_sight : (a b : ℕ) → IsNumber a → IsNumber b → IsNew (sight_at [] empty_air a b)
unfolding sight_at sent_between
new_sight a b a_is b_is =
    let a_high = a_is.1 in
    let b_high = b_is.1 in
    let entries = absent_history [] a (nothing_there a) in
    let pair = absent_pair [] a b (nothing_there a) in
    record {
      own = omega arith;
      peer = omega arith;
      boot = let first = absent_boot [] a (nothing_there a) in omega arith;
      contact = ap (own_in (boot_at [] a)) pair;
      seen = ap seen_in pair;
      ends = λ bearer. ap (end_on bearer) pair;
      put = λ own theirs. ap (λ es. put_in (node_word a) es b own theirs) entries ∙ ap (map (bytes_of (node_word a))) (accepted_nil (stream_of b own theirs Zero));
      given = λ own theirs. ap (λ es. given_in es b own theirs) entries ∙ ap (map (bytes_of (node_word b))) (delivered_nil (stream_of b own theirs Zero));
      partial = ap begun_of pair;
      numbered = λ bearer epoch. absent_count [] a b bearer epoch (nothing_there a);
      sent = refl;
    }

-- no frame is in an air in which none was sent
none_flies : (bearer k : ℕ) (f : Sent) → slice_get (air_on bearer empty_air) k ≡ Some f → ⊥
none_flies bearer k f there = (
    let none : air_on bearer empty_air ≡ [] = (λ i. if bearer == 0 then [] else either_way (bearer == 1) [] i) ∙ either_way (bearer == 0) [] in
    let gone : slice_get [] k ≡ Some f = subst (λ fs. slice_get fs k ≡ Some f) none there in
    let wrong : ⊥ = cc in wrong)

-- where no nodes are
pub start_sound : IsSound [] empty_air
start_sound = record {
  numbered = λ n m there. absurd cc;
  apart = λ a. absent_pair [] a a (nothing_there a);
  known = λ a b _. absent_pair [] a b (nothing_there a);
  between = λ a b x is. absurd (let none = absent_pair [] a b (nothing_there a) in let wrong : ⊥ = cc in wrong);
  pairs = λ a b a_is b_is apart. starts (sight_at [] empty_air a b) (sight_at [] empty_air b a) (new_sight a b a_is b_is) (new_sight b a b_is a_is);
  no_flow_one = streams_start.no_flow_one;
  accepted = streams_start.accepted;
  delivered = streams_start.delivered;
  nothing = streams_start.nothing;
  frames = λ bearer k f there. absurd (none_flies bearer k f there);
  senders = λ bearer k f there. absurd (none_flies bearer k f there);
}
