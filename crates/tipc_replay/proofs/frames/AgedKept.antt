-- Every event leaves the receivers' boots that stand beside the frames as they are to be.
use Rattle.std.specs.Prelude.{All, option_and_then, slice_get, unwrap_or}
use Rattle.std.proofs.Common.{◌≡◌, ◌≢◌, ◌≤◌, ◌==◌, ℕ, Bool, true, false, if◌then◌else◌, List, [], ◌∷◌, Option, Some, None, slice_index_or, slice_set, refl, sym, ap, ◌∙◌, subst, inl, inr, get_or-set_same, get_or-set_other, arith}
use Rattle.std.proofs.lemmas.Bool.{cases_eq}
use Rattle.std.proofs.lemmas.List.Elements.{All-cons, All-nil}
use Rattle.tipc_types.specs.declared.node_calls.Answer.{Answer}
use Rattle.tipc_types.specs.declared.node_calls.By.{By}
use Rattle.tipc_outside.specs.declared.outgoing.Outgoing.{Outgoing}
use Rattle.tipc_contact.specs.Sides.{boot_of}
use Rattle.tipc_pair.specs.Facing.{contact_between, in_contact}
use Rattle.tipc_two_nodes.specs.Sights.{Sight, pair_seen, told_in}
use Rattle.tipc_two_nodes.proofs.sights.Ordered.{seen_no_higher}
use Rattle.tipc_replay.specs.declared.events.WorldEvent.{WorldEvent}
use Rattle.tipc_replay.specs.declared.events.WorldEvent.TheVariants.{Arrive, Call, Restart}
use Rattle.tipc_replay.specs.Aged.{AreAged, IsAged, HasCastsCounted}
use Rattle.tipc_replay.specs.Air.{airborne, receiver_of}
use Rattle.tipc_replay.specs.Calls.{node_of}
use Rattle.tipc_replay.specs.Due.{unarrived}
use Rattle.tipc_replay.specs.Effects.{HasEffect}
use Rattle.tipc_replay.specs.Events.{JoinsAt}
use Rattle.tipc_replay.specs.Numbers.{seen_in}
use Rattle.tipc_replay.specs.Skies.{AirState, air_on, empty_air}
use Rattle.tipc_replay.specs.Sound.{IsNumber, IsSound}
use Rattle.tipc_replay.specs.States.{MemberState, boot_at, contact_at, member_at, numbers_at, pair_at}
use Rattle.tipc_replay.specs.Steps.{Becomes, Happens, Stage, Turns}
use Rattle.tipc_replay.proofs.LookUps.{boot_at-is, boot_at-same, member_at-is, place_within}
use Rattle.tipc_replay.proofs.SoundWorlds.{absent_boot}
use Rattle.tipc_replay.proofs.casts.CastCounts.{come_counted, counts_rise, joined_counts, own_boot, stays_counted}
use Rattle.tipc_replay.proofs.frames.Emissions.{receiver_is}
use Rattle.tipc_replay.proofs.frames.Routes.{air_comes}
use Rattle.tipc_replay.proofs.pairs.PairedEvents.{made_turn, met_turn}
use Rattle.tipc_replay.proofs.pairs.Pairings.{told_as}
use Rattle.tipc_replay.proofs.pairs.Standing.{seen_node}
use Rattle.tipc_replay.proofs.pairs.Turning.{is_there, others_stay, sight_in, was_there}

-- ---- the number that a node has seen of another

-- it is of no later boot than the other's present one
seen_boot : (s : Stage) (a b : ℕ) → IsSound s.members s.air → IsNumber a → IsNumber b → b ≢ a → boot_of (sight_in s a b).node.seen ≤ boot_at s.members b
seen_boot s a b sound a_is b_is apart =
    let low = seen_no_higher (sight_in s a b) (sight_in s b a) (sound.pairs a b a_is b_is (λ e. apart (sym e))) in
    let boot = (seen_node (sight_in s b a) (sight_in s a b) (sound.pairs b a b_is a_is apart)).contact in
    let present = own_boot s b a in
    omega (arith, low, boot, present)

told_boot : (v v' : Sight) (boot : ℕ) → boot_of v.node.seen ≤ boot → boot_of v'.node.seen ≤ boot → boot_of (told_in v v').seen ≤ boot
told_boot v v' boot was is = elim (in_contact (pair_seen v)) as (λ b. boot_of (if b then v.node else v'.node).seen ≤ boot) [ true ↦ was | false ↦ is ]

-- ---- frames that leave

-- to itself a node sends nothing of a contact
to_itself : (members members' : List (Option MemberState)) (n : ℕ) → pair_at members n n ≡ None → pair_at members' n n ≡ None → boot_of (unwrap_or (contact_at members n n) (numbers_at members' n n)).1 ≡ 0
unfolding contact_at
to_itself members members' n none none' =
    ap (λ o. boot_of (unwrap_or (option_and_then contact_between o) (numbers_at members' n n)).1) none ∙ ap (λ o. boot_of (seen_in o)) none'

new_aged : (old new : Stage) (n : ℕ) (before after : MemberState) (frames : List Outgoing) (lost : Bool) → IsSound old.members old.air → IsSound new.members new.air → Turns old new n before after frames lost → (o : Outgoing)
    → IsAged new.members (airborne (contact_at old.members n) new.members n o)
new_aged old new n before after frames lost sound sound' t o b b_is is =
    let at : receiver_of o.to ≡ b = receiver_is b o.to is in
    let boot : boot_at new.members (receiver_of o.to) ≡ boot_at new.members b = ap (boot_at new.members) at in
    let n_is = (sound.numbered n before t.was).0 in
    let contact : unwrap_or (contact_at old.members n (receiver_of o.to)) (numbers_at new.members n (receiver_of o.to)) ≡ unwrap_or (contact_at old.members n b) (numbers_at new.members n b) =
    ap (λ k. unwrap_or (contact_at old.members n k) (numbers_at new.members n k)) at in
    let seen = ap (λ (c : ℕ × ℕ). boot_of c.1) contact in
    elim (cases_eq b n) [
      | inl same ↦
          let none = to_itself old.members new.members n (sound.apart n) (sound'.apart n) in
          let here = ap (λ k. boot_of (unwrap_or (contact_at old.members n k) (numbers_at new.members n k)).1) same in
          (omega (arith, seen, here, none), omega (arith, boot))
      | inr apart ↦
          let v = sight_in old n b in
          let v' = sight_in new n b in
          let still = boot_at-same old.members new.members b (others_stay old new n before after frames lost t b apart) in
          let was = seen_boot old n b sound n_is b_is apart in
          let low = told_boot v v' (boot_at new.members b) (omega (arith, was, still)) (seen_boot new n b sound' n_is b_is apart) in
          let told = ap (λ (c : ℕ × ℕ). boot_of c.1) (told_as old.members new.members old.air new.air n b (λ x there. (sound.between n b x there).first)) in
          (omega (arith, seen, told, low, boot), omega (arith, boot))
    ]

-- ---- boots rise

rises : (old new : Stage) (n : ℕ) (before after : MemberState) (frames : List Outgoing) (lost : Bool) → Turns old new n before after frames lost → before.node.boot ≤ after.node.boot → (b : ℕ) → boot_at old.members b ≤ boot_at new.members b
rises old new n before after frames lost t more b = elim (cases_eq b n) [
  | inl same ↦
      let was = boot_at-is old.members n before (was_there old new n before after frames lost t) in
      let is = boot_at-is new.members n after (is_there old new n before after frames lost t) in
      let one = ap (boot_at old.members) same in
      let two = ap (boot_at new.members) same in
      omega (arith, was, is, one, two, more)
  | inr apart ↦ (let still = boot_at-same old.members new.members b (others_stay old new n before after frames lost t b apart) in omega (arith, still))
]

does_rise : (by : By) (event : WorldEvent) (bytes : List ℕ) (m m' : MemberState) (frames : List Outgoing) (answered : Answer) → HasEffect by event bytes m m' frames answered → m.node.boot ≤ m'.node.boot
does_rise by (Restart a) bytes m m' frames answered h = (let next = h.0.node.boot_is in omega (arith, next))
does_rise by (Call a call) bytes m m' frames answered h = (let same = (made_turn by call m m' frames answered h).turn.boot in omega (arith, same))
does_rise by (Arrive a bearer place) bytes m m' frames answered h = (let same = (met_turn by bearer place bytes m m' frames answered h).turn.boot in omega (arith, same))

-- ---- one event

all_new : (P : Outgoing → Type 0) → ((o : Outgoing) → P o) → (os : List Outgoing) → All P os
all_new P each [] = All-nil P
all_new P each (o ∷ os) = All-cons P o os (each o) (all_new P each os)

happens_aged : (old new : Stage) (by : By) (event : WorldEvent) (bytes : List ℕ) (answered : Answer) (lost : Bool) → IsSound old.members old.air → IsSound new.members new.air → Happens old new by event bytes answered lost
    → AreAged old.members old.air → AreAged new.members new.air
happens_aged old new by event bytes answered lost sound sound' h all =
    let n = node_of event in
    let t = h.turns in
    let more = does_rise by event bytes h.before h.after h.frames answered h.does in
    let rise = rises old new n h.before h.after h.frames lost t more in
    let met = contact_at old.members n in
    record {
      frames = λ bearer. air_comes (IsAged new.members) met new.members old.air new.air n h.frames lost t.leaves
          (all_new (λ o. IsAged new.members (airborne met new.members n o)) (new_aged old new n h.before h.after h.frames lost sound sound' t) h.frames)
          (λ k i f there b b_is is. (let was = all.frames k i f there b b_is is in let low = was.1 in let up = rise b in (was.0, omega (arith, low, up)))) bearer;
      counted = λ bearer. air_comes (HasCastsCounted new.members) met new.members old.air new.air n h.frames lost t.leaves (come_counted old new by event bytes answered lost sound sound' h)
          (λ k i f there. stays_counted old.members new.members f rise (counts_rise old new by event bytes answered lost h) (all.counted k i f there)) bearer;
      begun = λ k m there. elim (cases_eq k n) [
        | inl same ↦
            let here : slice_index_or (slice_set old.members n (Some h.after)) n None ≡ Some h.after = get_or-set_same old.members n (Some h.after) None (place_within old.members n h.before t.was) in
            let is : h.after ≡ m = (let e : Some h.after ≡ Some m = sym here ∙ ap (λ ms. slice_index_or ms n None) (sym t.members) ∙ ap (λ j. slice_index_or new.members j None) (sym same) ∙ there in cc) in
            let first = all.begun n h.before t.was in
            let boot = ap (λ (x : MemberState). x.node.boot) is in
            omega (arith, first, more, boot)
        | inr apart ↦ all.begun k m (sym (ap (λ ms. slice_index_or ms k None) t.members ∙ get_or-set_other old.members n k (Some h.after) None apart) ∙ there)
      ];
    }

pub becomes_aged : (old new : Stage) (by : By) (event : WorldEvent) (answered : Answer) (lost : Bool) → IsSound old.members old.air → IsSound new.members new.air → Becomes old by event new answered lost → AreAged old.members old.air → AreAged new.members new.air
becomes_aged old new by (Restart node) answered lost sound sound' h all = happens_aged old new by (Restart node) [] answered lost sound sound' h all
becomes_aged old new by (Call node call) answered lost sound sound' h all = happens_aged old new by (Call node call) [] answered lost sound sound' h all
becomes_aged old new by (Arrive node bearer place) answered lost sound sound' h all = case (unarrived old.members old.air node bearer place) refl
  where
    case : (o : Option Answer) → unarrived old.members old.air node bearer place ≡ o → AreAged new.members new.air
    case (Some why) stops = subst (λ (s : Stage). AreAged s.members s.air) (sym (h.none why stops).1) all
    case None free = (let a = h.arrives free in happens_aged old new by (Arrive node bearer place) a.0.frame answered lost sound sound' a.2 all)

-- ---- the begin

empty_on : (bearer : ℕ) → air_on bearer empty_air ≡ []
empty_on bearer = by (bearer == 0) (bearer == 1)
  where
    by : (s t : Bool) → (if s then empty_air.first else (if t then empty_air.second else [])) ≡ []
    by true t = refl
    by false true = refl
    by false false = refl

pub start_aged : AreAged [] empty_air
start_aged = record {
  frames = λ bearer k f there. absurd (let none : None ≡ Some f = ap (λ fs. slice_get fs k) (sym (empty_on bearer)) ∙ there in let wrong : ⊥ = cc in wrong);
  counted = λ bearer k f there. absurd (let none : None ≡ Some f = ap (λ fs. slice_get fs k) (sym (empty_on bearer)) ∙ there in let wrong : ⊥ = cc in wrong);
  begun = λ n m there. absurd cc;
}

same_member : (old new : List (Option MemberState)) (b : ℕ) → slice_index_or new b None ≡ slice_index_or old b None → member_at new b ≡ member_at old b
unfolding member_at
same_member old new b same = same

pub joined_aged : (old new : List (Option MemberState)) (air : AirState) (n first : ℕ) → 1 ≤ first → slice_index_or old n None ≡ None → JoinsAt old new n first → AreAged old air → AreAged new air
joined_aged old new air n first from none j all = record {
  frames = λ bearer k f there b b_is is. (let was = all.frames bearer k f there b b_is is in let low = was.1 in let up = later b in (was.0, omega (arith, low, up)));
  counted = λ bearer k f there. stays_counted old new f later (λ a boot low. joined_counts old new n first none j a boot) (all.counted bearer k f there);
  begun = λ k m there. elim (cases_eq k n) [
    | inl same ↦
        let is : j.newcomer ≡ m = (let e : Some j.newcomer ≡ Some m = sym j.here ∙ ap (λ i. slice_index_or new i None) (sym same) ∙ there in cc) in
        let boot = j.fresh.node.boot_is in
        let here = ap (λ (x : MemberState). x.node.boot) is in
        omega (arith, from, boot, here)
    | inr apart ↦ all.begun k m (sym (j.others k apart) ∙ there)
  ];
}
  where
    later : (b : ℕ) → boot_at old b ≤ boot_at new b
    later b = elim (cases_eq b n) [
      | inl same ↦
          let was = absent_boot old n none in
          let is = boot_at-is new n j.newcomer (member_at-is new n j.newcomer j.here) in
          let boot = j.fresh.node.boot_is in
          let one = ap (boot_at old) same in
          let two = ap (boot_at new) same in
          omega (arith, was, is, boot, one, two, from)
      | inr apart ↦ (let still = boot_at-same old new b (same_member old new b (j.others b apart)) in omega (arith, still))
    ]
