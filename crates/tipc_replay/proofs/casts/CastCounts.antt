-- How many broadcast numbers a node has used in a boot never falls; so beside a frame of it stand no more than it has used in the boot of the contact there.
use Rattle.std.specs.Prelude.{All, nat_eq, option_map, unwrap_or}
use Rattle.std.specs.Map.{lookup}
use Rattle.std.proofs.Common.{◌≡◌, ◌≢◌, ◌≤◌, ◌+◌, ◌==◌, ◌∙◌, ℕ, Bool, true, false, if◌then◌else◌, List, [], ◌∷◌, Option, Some, None, slice_index_or, refl, sym, ap, subst, inl, inr, eqb-true, arith}
use Rattle.std.proofs.lemmas.Bool.{cases_eq}
use Rattle.std.proofs.lemmas.Bool.Decides.{nat_tests}
use Rattle.std.proofs.lemmas.List.Elements.{All-cons, All-nil}
use Rattle.indexmap.specs.IndexMap.{insert_entry}
use Rattle.tipc_types.specs.declared.node_calls.Answer.{Answer}
use Rattle.tipc_types.specs.declared.node_calls.By.{By}
use Rattle.tipc_outside.specs.declared.outgoing.Outgoing.{Outgoing}
use Rattle.tipc_contact.specs.Sides.{boot_of}
use Rattle.tipc_broadcast.specs.Casting.{Casting}
use Rattle.tipc_broadcast.proofs.Apart.{deeds_rise}
use Rattle.tipc_broadcast_law.specs.Groups.{put}
use Rattle.tipc_journal.specs.Steps.{NodeStep}
use Rattle.tipc_pair.specs.Facing.{in_contact}
use Rattle.tipc_two_nodes.specs.Sights.{Sight, pair_seen, told_in}
use Rattle.tipc_replay.specs.declared.air.Sent.{Sent}
use Rattle.tipc_replay.specs.declared.events.WorldEvent.{WorldEvent}
use Rattle.tipc_replay.specs.declared.events.WorldEvent.TheVariants.{Arrive, Call, Restart}
use Rattle.tipc_replay.specs.Aged.{HasCastsCounted}
use Rattle.tipc_replay.specs.Air.{airborne, receiver_of}
use Rattle.tipc_replay.specs.Calls.{node_of}
use Rattle.tipc_replay.specs.Effects.{HasEffect}
use Rattle.tipc_replay.specs.Events.{JoinsAt}
use Rattle.tipc_replay.specs.Members.{IsRestarted}
use Rattle.tipc_replay.specs.Sound.{IsNumber, IsSound}
use Rattle.tipc_replay.specs.States.{MemberState, boot_at, cast_count_at, cast_count_of, casts_noted, contact_at, member_at, numbers_at}
use Rattle.tipc_replay.specs.Steps.{Happens, Stage, Turns}
use Rattle.tipc_replay.specs.Views.{sight_at}
use Rattle.tipc_replay.proofs.LookUps.{boot_at-is}
use Rattle.tipc_replay.proofs.casts.CasterLooks.{cast_count_at-is, cast_count_at-same, count_noted, count_present}
use Rattle.tipc_replay.proofs.frames.Emissions.{receiver_is}
use Rattle.tipc_replay.proofs.pairs.PairedEvents.{made_step, made_turn, met_step, met_turn}
use Rattle.tipc_replay.proofs.pairs.PairedTurns.{TakesTurn}
use Rattle.tipc_replay.proofs.pairs.Pairings.{told_as}
use Rattle.tipc_replay.proofs.pairs.Standing.{seen_node}
use Rattle.tipc_replay.proofs.pairs.Turning.{is_there, others_stay, sight_in, was_there}

-- ---- how many numbers are noted of a boot

noted_here : (casts : List (ℕ × ℕ)) (boot count : ℕ) → casts_noted (insert_entry nat_eq casts boot count) boot ≡ count
unfolding casts_noted
noted_here [] boot count = (let itself : (boot == boot) ≡ true = grind (arith, nat_tests) in ap (λ b. unwrap_or (if b then Some count else None) 0) itself)
noted_here (e ∷ es) boot count = by (boot == e.0) refl (noted_here es boot count)
  where
    by : (b : Bool) → (boot == e.0) ≡ b → unwrap_or (lookup (nat_eq boot) (insert_entry nat_eq es boot count)) 0 ≡ count
        → unwrap_or (lookup (nat_eq boot) (if b then (e.0, count) ∷ es else e ∷ insert_entry nat_eq es boot count)) 0 ≡ count
    by true is later = rw is refl
    by false is later = rw is later

noted_apart : (casts : List (ℕ × ℕ)) (boot count other : ℕ) → other ≢ boot → casts_noted (insert_entry nat_eq casts boot count) other ≡ casts_noted casts other
unfolding casts_noted
noted_apart [] boot count other apart = (let no : (other == boot) ≡ false = grind (arith, nat_tests, apart) in ap (λ b. unwrap_or (if b then Some count else None) 0) no)
noted_apart (e ∷ es) boot count other apart = by (boot == e.0) refl (other == e.0) refl (noted_apart es boot count other apart)
  where
    by : (b : Bool) → (boot == e.0) ≡ b → (d : Bool) → (other == e.0) ≡ d → unwrap_or (lookup (nat_eq other) (insert_entry nat_eq es boot count)) 0 ≡ unwrap_or (lookup (nat_eq other) es) 0
        → unwrap_or (lookup (nat_eq other) (if b then (e.0, count) ∷ es else e ∷ insert_entry nat_eq es boot count)) 0 ≡ unwrap_or (lookup (nat_eq other) (e ∷ es)) 0
    by true is true at later = absurd (let one : boot ≡ e.0 = eqb-true boot e.0 is in let two : other ≡ e.0 = eqb-true other e.0 at in apart (two ∙ sym one))
    by true is false at later = rw at refl
    by false is true at later = rw at refl
    by false is false at later = rw at later

-- after a restart the boot before is noted
pub count_then : (before after : MemberState) (boot : ℕ) → IsRestarted before after → cast_count_of after boot ≡ put (before.node.boot + 1) 0 (cast_count_of before) boot
count_then before after boot r = elim (cases_eq boot (before.node.boot + 1)) [
  | inl same ↦
      let here : (boot == before.node.boot + 1) ≡ true = grind (arith, nat_tests, same) in
      count_present after boot (same ∙ sym r.node.boot_is) ∙ ap (λ (v : Casting). v.sending.numbered) r.node.casting ∙ ap (λ b. if b then 0 else cast_count_of before boot) (sym here)
  | inr apart ↦
      let there : (boot == before.node.boot + 1) ≡ false = grind (arith, nat_tests, apart) in
      count_noted after boot (λ is. apart (is ∙ r.node.boot_is)) ∙ ap (λ cs. casts_noted cs boot) r.casts ∙ noted ∙ ap (λ b. if b then 0 else cast_count_of before boot) (sym there)
]
  where
    noted : casts_noted (insert_entry nat_eq before.casts before.node.boot before.node.casting.sending.numbered) boot ≡ cast_count_of before boot
    noted = elim (cases_eq boot before.node.boot) [
      | inl same ↦
          ap (casts_noted (insert_entry nat_eq before.casts before.node.boot before.node.casting.sending.numbered)) same ∙ noted_here before.casts before.node.boot before.node.casting.sending.numbered
          ∙ sym (count_present before boot same)
      | inr apart ↦ noted_apart before.casts before.node.boot before.node.casting.sending.numbered boot apart ∙ sym (count_noted before boot apart)
    ]

-- a node that isn't there used none
pub absent_casts : (members : List (Option MemberState)) (n boot : ℕ) → slice_index_or members n None ≡ None → cast_count_at members n boot ≡ 0
unfolding cast_count_at member_at
absent_casts members n boot none = ap (λ o. unwrap_or (option_map (λ (m : MemberState). cast_count_of m boot) o) 0) none

-- ---- a node uses no fewer

turn_rises : (m m' : MemberState) (bytes : List ℕ) (s : NodeStep) (frames : List Outgoing) → TakesTurn m m' bytes s frames → m'.casts ≡ m.casts → (boot : ℕ) → cast_count_of m boot ≤ cast_count_of m' boot
turn_rises m m' bytes s frames t counted boot = elim (cases_eq boot m.node.boot) [
  | inl same ↦
      let was = count_present m boot same in
      let is = count_present m' boot (same ∙ sym t.turn.boot) in
      let more = deeds_rise t.turn.deeds m.node.casting in
      let link = ap (λ (v : Casting). v.sending.numbered) t.turn.casting in
      omega (arith, was, is, more, link)
  | inr apart ↦
      let was = count_noted m boot apart in
      let is = count_noted m' boot (λ e. apart (e ∙ t.turn.boot)) in
      let same = ap (λ cs. casts_noted cs boot) counted in
      omega (arith, was, is, same)
]

-- in each boot that it has begun
does_rise : (by : By) (event : WorldEvent) (bytes : List ℕ) (m m' : MemberState) (frames : List Outgoing) (answered : Answer) → HasEffect by event bytes m m' frames answered → (boot : ℕ) → boot ≤ m.node.boot
    → cast_count_of m boot ≤ cast_count_of m' boot
does_rise by (Restart a) bytes m m' frames answered h boot begun =
    let apart : (boot == m.node.boot + 1) ≡ false = grind (arith, nat_tests, begun) in
    let same : cast_count_of m' boot ≡ cast_count_of m boot = count_then m m' boot h.0 ∙ ap (λ b. if b then 0 else cast_count_of m boot) apart in
    omega (arith, same)
does_rise by (Call a call) bytes m m' frames answered h boot begun =
    turn_rises m m' [] (made_step by call m m' frames answered h) frames (made_turn by call m m' frames answered h) (ap (λ (x : MemberState). x.casts) h.after) boot
does_rise by (Arrive a bearer place) bytes m m' frames answered h boot begun =
    turn_rises m m' bytes (met_step by bearer place bytes m m' frames answered h) frames (met_turn by bearer place bytes m m' frames answered h) (ap (λ (x : MemberState). x.casts) h.after) boot

pub counts_rise : (old new : Stage) (by : By) (event : WorldEvent) (bytes : List ℕ) (answered : Answer) (lost : Bool) → Happens old new by event bytes answered lost → (a boot : ℕ) → boot ≤ boot_at old.members a
    → cast_count_at old.members a boot ≤ cast_count_at new.members a boot
counts_rise old new by event bytes answered lost h a boot begun = elim (cases_eq a (node_of event)) [
  | inl same ↦
      let n = node_of event in
      let was_here = was_there old new n h.before h.after h.frames lost h.turns in
      let is_here = is_there old new n h.before h.after h.frames lost h.turns in
      let present = boot_at-is old.members n h.before was_here in
      let at = ap (boot_at old.members) same in
      let more = does_rise by event bytes h.before h.after h.frames answered h.does boot (omega (arith, begun, at, present)) in
      let was = cast_count_at-is old.members n boot h.before was_here in
      let is = cast_count_at-is new.members n boot h.after is_here in
      let one = ap (λ k. cast_count_at old.members k boot) same in
      let two = ap (λ k. cast_count_at new.members k boot) same in
      omega (arith, was, is, more, one, two)
  | inr apart ↦ (let still = cast_count_at-same old.members new.members a boot (others_stay old new (node_of event) h.before h.after h.frames lost h.turns a apart) in omega (arith, still))
]

-- ---- frames that leave

-- the boot of a node as another one sees it
pub own_boot : (s : Stage) (a b : ℕ) → (sight_in s a b).node.boot ≡ boot_at s.members a
unfolding sight_at
own_boot s a b = refl

-- its number in the contact is of its present boot
contact_boot : (s : Stage) (a b : ℕ) → IsSound s.members s.air → IsNumber a → IsNumber b → a ≢ b → boot_of (sight_in s a b).node.contact ≡ boot_at s.members a
contact_boot s a b sound a_is b_is apart = (seen_node (sight_in s a b) (sight_in s b a) (sound.pairs a b a_is b_is apart)).contact ∙ own_boot s a b

either_boot : (v v' : Sight) (boot : ℕ) → boot_of v.node.contact ≡ boot → boot_of v'.node.contact ≡ boot → boot_of (told_in v v').contact ≡ boot
either_boot v v' boot was is = elim (in_contact (pair_seen v)) as (λ b. boot_of (if b then v.node else v'.node).contact ≡ boot) [ true ↦ was | false ↦ is ]

leaves_counted : (old new : Stage) (n : ℕ) (before after : MemberState) (frames : List Outgoing) (lost : Bool) → IsSound old.members old.air → IsSound new.members new.air → Turns old new n before after frames lost → after.node.boot ≡ before.node.boot
    → (o : Outgoing) → HasCastsCounted new.members (airborne (contact_at old.members n) new.members n o)
leaves_counted old new n before after frames lost sound sound' t boot o a b a_is b_is apart from to_it =
    let same : n ≡ a = omega (arith, from) in
    let differs : n ≢ b = λ e. apart (sym same ∙ e) in
    let n_is = (sound.numbered n before t.was).0 in
    let still : boot_at old.members n ≡ boot_at new.members n =
    boot_at-is old.members n before (was_there old new n before after frames lost t) ∙ sym boot ∙ sym (boot_at-is new.members n after (is_there old new n before after frames lost t)) in
    let v = sight_in old n b in
    let v' = sight_in new n b in
    let in_it = either_boot v v' (boot_at new.members n) (contact_boot old n b sound n_is b_is differs ∙ still) (contact_boot new n b sound' n_is b_is differs) in
    let contact : unwrap_or (contact_at old.members n (receiver_of o.to)) (numbers_at new.members n (receiver_of o.to)) ≡ unwrap_or (contact_at old.members n b) (numbers_at new.members n b) =
    ap (λ k. unwrap_or (contact_at old.members n k) (numbers_at new.members n k)) (receiver_is b o.to to_it) in
    let told = told_as old.members new.members old.air new.air n b (λ x there. (sound.between n b x there).first) in
    let beside : boot_of (unwrap_or (contact_at old.members n (receiver_of o.to)) (numbers_at new.members n (receiver_of o.to))).0 ≡ boot_at new.members n = ap (λ (c : ℕ × ℕ). boot_of c.0) (contact ∙ told) ∙ in_it in
    let here = ap (boot_at new.members) same in
    let used : cast_count_at new.members n (boot_at new.members n) ≡ cast_count_at new.members a (boot_of (unwrap_or (contact_at old.members n (receiver_of o.to)) (numbers_at new.members n (receiver_of o.to))).0) =
    (λ i. cast_count_at new.members (same i) (sym beside i)) in
    (omega (arith, beside, here), omega (arith, used))

all_new : (P : Outgoing → Type 0) → ((o : Outgoing) → P o) → (os : List Outgoing) → All P os
all_new P each [] = All-nil P
all_new P each (o ∷ os) = All-cons P o os (each o) (all_new P each os)

does_counted : (old new : Stage) (by : By) (event : WorldEvent) (bytes : List ℕ) (before after : MemberState) (frames : List Outgoing) (answered : Answer) (lost : Bool) → IsSound old.members old.air → IsSound new.members new.air
    → Turns old new (node_of event) before after frames lost → HasEffect by event bytes before after frames answered → All (λ o. HasCastsCounted new.members (airborne (contact_at old.members (node_of event)) new.members (node_of event) o)) frames
does_counted old new by (Restart a) bytes before after frames answered lost sound sound' t h =
    subst (All (λ o. HasCastsCounted new.members (airborne (contact_at old.members a) new.members a o))) (sym h.1) (All-nil (λ o. HasCastsCounted new.members (airborne (contact_at old.members a) new.members a o)))
does_counted old new by (Call a call) bytes before after frames answered lost sound sound' t h =
    let boot = (made_turn by call before after frames answered h).turn.boot in
    all_new (λ o. HasCastsCounted new.members (airborne (contact_at old.members a) new.members a o)) (leaves_counted old new a before after frames lost sound sound' t boot) frames
does_counted old new by (Arrive a bearer place) bytes before after frames answered lost sound sound' t h =
    let boot = (met_turn by bearer place bytes before after frames answered h).turn.boot in
    all_new (λ o. HasCastsCounted new.members (airborne (contact_at old.members a) new.members a o)) (leaves_counted old new a before after frames lost sound sound' t boot) frames

-- each that leaves in an event
pub come_counted : (old new : Stage) (by : By) (event : WorldEvent) (bytes : List ℕ) (answered : Answer) (lost : Bool) → IsSound old.members old.air → IsSound new.members new.air → (h : Happens old new by event bytes answered lost)
    → All (λ o. HasCastsCounted new.members (airborne (contact_at old.members (node_of event)) new.members (node_of event) o)) h.frames
come_counted old new by event bytes answered lost sound sound' h = does_counted old new by event bytes h.before h.after h.frames answered lost sound sound' h.turns h.does

-- and one that was there is so yet
pub stays_counted : (members members' : List (Option MemberState)) (f : Sent) → ((a : ℕ) → boot_at members a ≤ boot_at members' a) → ((a boot : ℕ) → boot ≤ boot_at members a → cast_count_at members a boot ≤ cast_count_at members' a boot)
    → HasCastsCounted members f → HasCastsCounted members' f
stays_counted members members' f boots counts was a b a_is b_is apart from to_it =
    let h = was a b a_is b_is apart from to_it in
    let low = h.0 in
    let few = h.1 in
    let up = boots a in
    let more = counts a (boot_of f.contact.0) low in
    (omega (arith, low, up), omega (arith, few, more))

-- ---- a node that comes in

pub joined_counts : (old new : List (Option MemberState)) (n first : ℕ) → slice_index_or old n None ≡ None → JoinsAt old new n first → (a boot : ℕ) → cast_count_at old a boot ≤ cast_count_at new a boot
unfolding member_at
joined_counts old new n first none j a boot = elim (cases_eq a n) [
  | inl same ↦ (let was = absent_casts old n boot none in let one = ap (λ k. cast_count_at old k boot) same in omega (arith, was, one))
  | inr apart ↦ (let still = cast_count_at-same old new a boot (j.others a apart) in omega (arith, still))
]
