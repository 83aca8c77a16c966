-- Every event keeps the names of all nodes shared: a node's own, and those that it has of its peers.
use Rattle.std.proofs.Common.{◌≡◌, ◌≤◌, ◌<◌, ◌+◌, ℕ, Bool, List, [], Option, Some, None, slice_get, slice_index_or, slice_set, refl, sym, ap, ◌∙◌, subst, inl, inr, get_or-set_same, get_or-set_other, arith}
use Rattle.std.proofs.lemmas.Bool.{cases_eq}
use Rattle.tipc_types.specs.declared.node_calls.Answer.{Answer}
use Rattle.tipc_types.specs.declared.node_calls.By.{By}
use Rattle.tipc_outside.specs.declared.outgoing.Outgoing.{Outgoing}
use Rattle.tipc_journal.specs.declared.entries.Entry.{Entry}
use Rattle.tipc_contact.specs.Sides.{boot_of}
use Rattle.tipc_node.specs.declared.neighbours.Neighbour.{Neighbour}
use Rattle.tipc_node.specs.Nodes.{neighbour_of, pair_with}
use Rattle.tipc_pair.specs.Facing.{PairEnds}
use Rattle.tipc_node.proofs.pairs.Strangers.{kept_by}
use Rattle.tipc_node.specs.Sharing.{IsUnused, SharesNames}
use Rattle.tipc_node.specs.Telling.{IsTold}
use Rattle.tipc_replay.specs.declared.events.WorldEvent.{WorldEvent}
use Rattle.tipc_replay.specs.declared.events.WorldEvent.TheVariants.{Restart, Call, Arrive}
use Rattle.tipc_replay.specs.Calls.{node_of}
use Rattle.tipc_replay.specs.Effects.{HasEffect}
use Rattle.tipc_replay.specs.Due.{unarrived}
use Rattle.tipc_replay.specs.Entered.{HasRisen}
use Rattle.tipc_replay.specs.Events.{JoinsAt}
use Rattle.tipc_replay.specs.Members.{IsNewcomer, IsRestarted}
use Rattle.tipc_replay.specs.Numbers.{own_in}
use Rattle.tipc_replay.specs.Shared.{AreShared, IsShared}
use Rattle.tipc_replay.specs.Sound.{IsSound}
use Rattle.tipc_replay.specs.States.{MemberState, boot_at, pair_at}
use Rattle.tipc_replay.specs.Steps.{Becomes, Happens, IsArrival, Stage}
use Rattle.tipc_replay.specs.Views.{sight_at}
use Rattle.tipc_replay.proofs.calls.Journals.{get_more}
use Rattle.tipc_replay.proofs.LookUps.{boot_at-is, member_at-is, place_within}
use Rattle.tipc_replay.proofs.calls.Outcomes.{some_is}
use Rattle.tipc_replay.proofs.names.Rising.{newcomer_rises, restart_rises, turn_rises}
use Rattle.tipc_replay.proofs.pairs.PairedEvents.{made_step, met_step}
use Rattle.tipc_replay.proofs.pairs.Standing.{acquainted, neighbour_apart, pair_is, seen_node}

-- ---- contact numbers

-- the contact number that a node has for another one is of its boot
pub boot_is : (s : Stage) (a b : ℕ) (m : MemberState) (x : Neighbour) → IsSound s.members s.air → slice_index_or s.members a None ≡ Some m → neighbour_of m.node b ≡ Some x → boot_of x.pair.contact ≡ m.node.boot
unfolding sight_at
boot_is s a b m x sound was is =
    let there = member_at-is s.members a m was in
    let peer = neighbour_apart s a m (acquainted s.members s.air a m sound was) there b x is in
    let seen = sound.pairs a b (sound.numbered a m was).0 peer.0 (λ same. peer.1 (sym same)) in
    let node = seen_node (sight_at s.members s.air a b) (sight_at s.members s.air b a) seen in
    let number : own_in (boot_at s.members a) (pair_at s.members a b) ≡ x.pair.contact = ap (own_in (boot_at s.members a)) (pair_is s a b m (Some x) there is) in
    ap boot_of (sym number) ∙ node.contact ∙ boot_at-is s.members a m there

-- ---- one node

newcomer_shared : (m : MemberState) (n first : ℕ) → IsNewcomer m n first → IsShared m
newcomer_shared m n first c = record {
  told = c.node.told;
  shares = c.node.shares;
  spent = λ k j there b number above. absurd (none k j (subst (λ js. slice_get js k ≡ Some j) c.past there));
  rises = λ b. newcomer_rises m n first b c;
}
  where
    none : (k : ℕ) (j : List Entry) → slice_get [] k ≡ Some j → ⊥
    none k j there = cc

-- the boot goes on
same_boot : (m m' : MemberState) → IsShared m → m'.past ≡ m.past → m'.node.boot ≡ m.node.boot → IsTold m'.node → SharesNames m'.node → ((b : ℕ) → HasRisen m' b) → IsShared m'
same_boot m m' h past boot told shares rises = record {
  told = told;
  shares = shares;
  spent = λ k j there b number above. h.spent k j (subst (λ js. slice_get js k ≡ Some j) past there) b number (subst (λ n. n ≤ boot_of number) boot above);
  rises = rises;
}

-- what ended with a boot is under the contact numbers of that boot
ended : (s : Stage) (a : ℕ) (m : MemberState) (b number : ℕ) → IsSound s.members s.air → slice_index_or s.members a None ≡ Some m → SharesNames m.node → m.node.boot < boot_of number → IsUnused m.node.journal b number
ended s a m b number sound was h above =
    let boot : boot_of (pair_with m.node b).contact ≡ m.node.boot = kept_by (λ (x : PairEnds). boot_of x.contact ≡ m.node.boot) m.node b (λ none. omega arith) (λ x is. boot_is s a b m x sound was is) in
    h.unused.later b number (omega (arith, boot, above))

restart_shared : (s : Stage) (a : ℕ) (m m' : MemberState) → IsSound s.members s.air → slice_index_or s.members a None ≡ Some m → IsShared m → IsRestarted m m' → IsShared m'
restart_shared s a m m' sound was h r = record {
  told = r.node.told;
  shares = r.node.shares;
  spent = λ k j there b number above.
      let next : m.node.boot + 1 ≤ boot_of number = subst (λ n. n ≤ boot_of number) r.node.boot_is above in
      elim (get_more m.past m.node.journal k j (subst (λ js. slice_get js k ≡ Some j) r.past there)) [
        | inl old ↦ h.spent k j old b number (omega (arith, next))
        | inr last ↦ subst (λ es. IsUnused es b number) last.1 (ended s a m b number sound was h.shares (omega (arith, next)))
      ];
  rises = λ b. restart_rises m m' b (λ x is. boot_is s a b m x sound was is) r (h.rises b);
}

does_shared : (s : Stage) (by : By) (event : WorldEvent) (bytes : List ℕ) (m m' : MemberState) (frames : List Outgoing) (answered : Answer) → IsSound s.members s.air → slice_index_or s.members (node_of event) None ≡ Some m → IsShared m
    → HasEffect by event bytes m m' frames answered → IsShared m'
does_shared s by (Restart a) bytes m m' frames answered sound was h d = restart_shared s a m m' sound was h d.0
does_shared s by (Call a call) bytes m m' frames answered sound was h d =
    let past = ap (λ (x : MemberState). x.past) d.after in
    same_boot m m' h past d.turn.turn.boot d.turn.told d.turn.shared
    (λ b. turn_rises m m' [] (made_step by call m m' frames answered d) frames b past d.turn.turn h.told (h.rises b))
does_shared s by (Arrive a bearer place) bytes m m' frames answered sound was h d =
    let past = ap (λ (x : MemberState). x.past) d.after in
    same_boot m m' h past d.turn.turn.boot d.turn.told d.turn.shared
    (λ b. turn_rises m m' bytes (met_step by bearer place bytes m m' frames answered d) frames b past d.turn.turn h.told (h.rises b))

-- ---- the world

set_shared : (members : List (Option MemberState)) (a : ℕ) (before after : MemberState) → slice_index_or members a None ≡ Some before → AreShared members → IsShared after → AreShared (slice_set members a (Some after))
set_shared members a before after was all new n m there = elim (cases_eq n a) [
  | inl same ↦
      let here : slice_index_or (slice_set members a (Some after)) a None ≡ Some after = get_or-set_same members a (Some after) None (place_within members a before was) in
      subst IsShared (some_is after m (sym here ∙ ap (λ k. slice_index_or (slice_set members a (Some after)) k None) (sym same) ∙ there)) new
  | inr apart ↦ all n m (sym (get_or-set_other members a n (Some after) None apart) ∙ there)
]

happens_shared : (old new : Stage) (by : By) (event : WorldEvent) (bytes : List ℕ) (answered : Answer) (lost : Bool) → IsSound old.members old.air → AreShared old.members
    → Happens old new by event bytes answered lost → AreShared new.members
happens_shared old new by event bytes answered lost sound all h =
    let a = node_of event in
    subst AreShared (sym h.turns.members)
    (set_shared old.members a h.before h.after h.turns.was all (does_shared old by event bytes h.before h.after h.frames answered sound h.turns.was (all a h.before h.turns.was) h.does))

arrival_shared : (old new : Stage) (by : By) (node bearer place : ℕ) (answered : Answer) (lost : Bool) → IsSound old.members old.air → AreShared old.members → IsArrival old new by node bearer place answered lost → AreShared new.members
arrival_shared old new by node bearer place answered lost sound all h = case (unarrived old.members old.air node bearer place) refl
  where
    case : (o : Option Answer) → unarrived old.members old.air node bearer place ≡ o → AreShared new.members
    case (Some reason) stops = subst (λ (s : Stage). AreShared s.members) (sym (h.none reason stops).1) all
    case None free = let a = h.arrives free in happens_shared old new by (Arrive node bearer place) a.0.frame answered lost sound all a.2

-- after one event
pub becomes_shared : (old new : Stage) (by : By) (event : WorldEvent) (answered : Answer) (lost : Bool) → IsSound old.members old.air → AreShared old.members → Becomes old by event new answered lost → AreShared new.members
becomes_shared old new by (Restart node) answered lost sound all h = happens_shared old new by (Restart node) [] answered lost sound all h
becomes_shared old new by (Call node call) answered lost sound all h = happens_shared old new by (Call node call) [] answered lost sound all h
becomes_shared old new by (Arrive node bearer place) answered lost sound all h = arrival_shared old new by node bearer place answered lost sound all h

-- where no nodes are
pub start_shared : AreShared []
start_shared n m there = absurd cc

-- a node comes in
pub joined_shared : (old new : List (Option MemberState)) (n first : ℕ) → JoinsAt old new n first → AreShared old → AreShared new
joined_shared old new n first j all k m there = elim (cases_eq k n) [
  | inl same ↦ subst IsShared (some_is j.newcomer m (sym j.here ∙ ap (λ i. slice_index_or new i None) (sym same) ∙ there)) (newcomer_shared j.newcomer n first j.fresh)
  | inr apart ↦ all k m (sym (j.others k apart) ∙ there)
]
