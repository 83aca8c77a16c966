-- What a broadcast packet gives at a member are messages that its caster accepted.
use Rattle.std.specs.Prelude.{option_map}
use Rattle.std.proofs.Common.{◌≡◌, ◌≢◌, ◌^◌, ◌%◌, ◌==◌, ◌∙◌, ℕ, Bool, true, false, if◌then◌else◌, List, [], ◌++◌, Option, Some, None, map, refl, sym, ap, subst, slice_index_or, arith}
use Rattle.std.proofs.lemmas.Bool.Decides.{nat_tests}
use Rattle.tipc_types.specs.Address.{node_word}
use Rattle.tipc_types.specs.declared.link_words.Why.{Why}
use Rattle.tipc_types.specs.declared.link_words.Why.TheVariants as why
use Rattle.tipc_types.specs.declared.message_forms.Flow.TheVariants.{Broadcast}
use Rattle.tipc_types.specs.declared.message_forms.Message.{Message}
use Rattle.tipc_header.specs.declared.frames.FrameKind.TheVariants.{Casts}
use Rattle.tipc_header.specs.Frames.{kind_in}
use Rattle.tipc_fragments.specs.Joining.{Joining}
use Rattle.tipc_reassembly.specs.Opening.{BringsAll}
use Rattle.tipc_reassembly.specs.Slots.{packets_in}
use Rattle.tipc_recv_window.specs.declared.outcomes.LinkOutcome.{LinkOutcome}
use Rattle.tipc_broadcast.specs.declared.contacts.Contact.{Contact}
use Rattle.tipc_broadcast.specs.Casting.{Casting, arriving_outcome, hearing_outcome}
use Rattle.tipc_broadcast.specs.Contacts.{carried, contact_with, heard, heard_outcome, refusal}
use Rattle.tipc_broadcast.specs.Deeds.{CastDeed}
use Rattle.tipc_broadcast_law.proofs.Places.{put_same}
use Rattle.tipc_casters.specs.ViewLaws.{HearsFrame, given_at, packets_due, with_view}
use Rattle.tipc_casters.specs.Views.{AreContactNumbers, CasterView, IsOther, MemberView}
use Rattle.tipc_casters.proofs.CasterViews.{fronts_are_cast}
use Rattle.tipc_casters.proofs.Consistent.{kept_in}
use Rattle.tipc_casters.proofs.MemberViews.{takes_stays}
use Rattle.tipc_journal.specs.Steps.{NodeStep}
use Rattle.tipc_link.proofs.LinkLaw.{Each}
use Rattle.tipc_pair.specs.declared.changes.PairOutcome.{PairOutcome}
use Rattle.tipc_pair.specs.Facing.{PairEnds, contact_between, in_contact}
use Rattle.tipc_pair.specs.Messages.{OpensTo, deferred, ignored, opened_in, took}
use Rattle.tipc_node.specs.Messages.{bytes_of}
use Rattle.tipc_node.specs.Nodes.{kept, pair_with}
use Rattle.tipc_node.specs.Turns.{HearsOne, IsFrom}
use Rattle.tipc_replay.specs.Casters.{caster_at, heard_contact, members_of}
use Rattle.tipc_replay.specs.Castings.{AreCasting}
use Rattle.tipc_replay.specs.Sound.{IsNumber, IsSaid, IsSound}
use Rattle.tipc_replay.specs.States.{MemberState, accepted_at}
use Rattle.tipc_replay.specs.Steps.{Stage}
use Rattle.tipc_replay.proofs.InLists.{Stands, stands_left, stands_mapped, stands_right}
use Rattle.tipc_replay.proofs.LookUps.{member_at-is}
use Rattle.tipc_replay.proofs.casts.CastTaken.{answered_of, opens_brings}
use Rattle.tipc_replay.proofs.casts.CasterLooks.{casting_at-is}
use Rattle.tipc_replay.proofs.casts.CastsArrive.{cast_came}
use Rattle.tipc_replay.proofs.casts.MemberLooks.{IsMemberOf, is_member, member_looks, put_for}
use Rattle.tipc_replay.proofs.casts.SteadyTurns.{CameOut}
use Rattle.tipc_replay.proofs.pairs.Standing.{kept_sight, seen_node}
use Rattle.tipc_replay.proofs.pairs.Turning.{sight_in}

-- a packet of a message that the node of this address word may broadcast
abbrev pub IsCastBrought : ℕ → List ℕ → Type 0
IsCastBrought word packet = (x : Message) × IsSaid Broadcast word x × (bytes_of word x ≡ packet)

-- of one that is ignored nothing comes
pub ignored_opens : (begun last : Joining) (o : LinkOutcome) (given : PairOutcome) (reason : Why) → OpensTo begun o given last → o ≡ LinkOutcome.Ignored reason → (opened_in given ≡ []) × (last ≡ begun)
ignored_opens begun last _ _ reason (took {taken} brings) is = absurd (let wrong : LinkOutcome.Took taken ≡ LinkOutcome.Ignored reason = is in cc)
ignored_opens begun _ _ _ reason deferred is = absurd (let wrong : LinkOutcome.Deferred ≡ LinkOutcome.Ignored reason = is in cc)
ignored_opens begun _ _ _ reason ignored is = (refl, refl)

-- the numbers of the contact that a pair shows fit
pub numbers_fit : (s : Stage) (n a : ℕ) (m : MemberState) → IsSound s.members s.air → slice_index_or s.members n None ≡ Some m → IsNumber a → a ≢ n → AreContactNumbers (pair_with m.node a).seen (pair_with m.node a).contact
numbers_fit s n a m sound was a_is apart =
    let named = sound.numbered n m was in
    let v = sight_in s n a in
    let node = seen_node v (sight_in s a n) (sound.pairs n a named.0 a_is (λ e. apart (sym e))) in
    let seen = kept_sight s n a m sound (member_at-is s.members n m was) named.1 in
    let contact : v.node.contact ≡ (pair_with m.node a).contact = ap (λ (z : PairEnds). z.contact) seen in
    let theirs : v.node.seen ≡ (pair_with m.node a).seen = ap (λ (z : PairEnds). z.seen) seen in
    let boot = node.contact in
    let low = node.boot in
    let fits = node.seen in
    (omega (arith, fits, theirs), omega (arith, contact, boot, low))

same_test : (k : ℕ) → (k == k) ≡ true
same_test k = grind (arith, nat_tests)

-- in the contact of these numbers all is given that an arrival gives there
given_here : (given : ℕ → ℕ → List (List ℕ)) (more : List (List ℕ)) (contact seen : ℕ) → given_at (heard_contact (contact, seen)) more given seen contact ≡ given seen contact ++ more
given_here given more contact seen =
    ap (λ b. given seen contact ++ (if b then more else [])) (same_test (heard_contact (contact, seen)))

-- where the pair is in the contact of a number, it is that which it shows
pub contact_shown : (x : PairEnds) (c : ℕ) → option_map heard_contact (contact_between x) ≡ Some c → c ≡ heard_contact (x.contact, x.seen)
contact_shown x c is = by (in_contact x) refl is
  where
    by : (b : Bool) → in_contact x ≡ b → option_map heard_contact (if b then Some (x.contact, x.seen) else None) ≡ Some c → c ≡ heard_contact (x.contact, x.seen)
    by true there some = (let same : heard_contact (x.contact, x.seen) ≡ c = cc in sym same)
    by false out some = absurd (let wrong : None ≡ Some c = some in cc)

-- packets behind those that were given, where all are a front of what was accepted, are of messages that may be broadcast
front_brought : (s : Stage) (a n own theirs : ℕ) (before packets rest : List (List ℕ)) → IsSound s.members s.air → map (bytes_of (node_word a)) (accepted_at s.members a n own theirs Broadcast) ≡ (before ++ packets) ++ rest
    → Each (IsCastBrought (node_word a)) packets
front_brought s a n own theirs before packets rest sound front place p there =
    let among : Stands (map (bytes_of (node_word a)) (accepted_at s.members a n own theirs Broadcast)) p =
    subst (λ ps. Stands ps p) (sym front) (stands_left (before ++ packets) rest p (stands_right before packets p (place, there))) in
    let found = stands_mapped (bytes_of (node_word a)) (accepted_at s.members a n own theirs Broadcast) p among in
    (found.0, sound.accepted a n own theirs Broadcast found.1.0 found.0 found.1.1, sym found.2)

module _ (old : Stage) (n : ℕ) (m m' : MemberState) (bytes : List ℕ) (s : NodeStep) (deeds : List CastDeed) (a : ℕ) (sound : IsSound old.members old.air) (was : slice_index_or old.members n None ≡ Some m) (came : CameOut old n s.event bytes)
    (casting : AreCasting old.members old.air) (a_is : IsNumber a) (apart : a ≢ n) (h : HearsOne m.node m'.node bytes s deeds a) where
  abbrev pub v : CasterView
  v = caster_at old.members old.air a

  abbrev pub ws : ℕ → MemberView
  ws = members_of old.members old.air a

  abbrev pub word : ℕ
  word = node_word n

  abbrev pub x : PairEnds
  x = pair_with m.node a

  looks : IsMemberOf (ws word) old.air a n m
  looks = member_looks old.members old.air a n m (member_at-is old.members n m was)

  other : IsOther v word
  other = is_member old.members old.air a n (casting a a_is).own (sound.numbered n m was).0 apart

  -- the node itself is of that address
  pub named : m.node.casting.own ≡ word
  named = ap (λ (c : Casting). c.own) (sym (casting_at-is old.members n m (member_at-is old.members n m was))) ∙ (casting n (sound.numbered n m was).0).own

  -- the frame stands in the air
  pub frame : HearsFrame v h.first h.second h.packet
  frame =
      let c = came h.bearer h.by h.event in
      cast_came old n h.bearer c.0 c.1 a h.first h.second h.packet sound c.2 c.3 (subst (λ (b : List ℕ). IsFrom a b h.first h.second h.packet) c.4 h.from) (subst (λ (b : List ℕ). kind_in b ≡ Casts) c.4 h.kind)

  -- out of contact it gives nothing
  pub missed : (ws word).heard ≡ None → (opened_in h.given ≡ []) × ((kept m'.node a).casts ≡ (kept m.node a).casts)
  missed none =
      let unknown : contact_with h.packet.previous m.node.casting.contacts ≡ None = ap (λ k. contact_with k m.node.casting.contacts) h.from.previous ∙ sym looks.heard ∙ none in
      ignored_opens (kept m.node a).casts (kept m'.node a).casts (arriving_outcome m.node.casting h.first (h.second % 2 ^ 32) h.packet h.by) h.given why.OutOfStep h.opens (ap (hearing_outcome m.node.casting h.first (h.second % 2 ^ 32) (carried h.packet h.by)) unknown)

  -- in a contact each packet is of a message that was accepted
  taken : (k : Contact) → (ws word).heard ≡ Some k → Each (IsCastBrought (node_word a)) (packets_in (opened_in h.given))
  taken k here =
      let set = h.second % 2 ^ 32 in
      let in_it = kept_in v ws word k (casting a a_is).seen other here in
      let answer : arriving_outcome m.node.casting h.first set h.packet h.by ≡ heard_outcome (carried h.packet h.by) k (refusal word h.first set k) =
      answered_of m.node.casting a h.first set h.by h.packet k h.from.previous (sym looks.heard ∙ here) ∙ ap (λ o. heard_outcome (carried h.packet h.by) k (refusal o h.first set k)) named in
      let opens = subst (λ o. OpensTo (kept m.node a).casts o h.given (kept m'.node a).casts) answer h.opens in
      let brings = opens_brings (kept m.node a).casts (heard_outcome (carried h.packet h.by) k (refusal word h.first set k)) h.given (kept m'.node a).casts opens in
      let l = heard (carried h.packet h.by) k (refusal word h.first set k) in
      let packets = packets_in (opened_in h.given) in
      let seen = takes_stays v ws word in_it.contact h.first h.second h.by h.packet k l (opened_in h.given) (kept m'.node a).casts (casting a a_is).seen other here in_it.at frame (record { boot = refl; window = refl; shown = refl })
      (subst (λ (b : Joining). BringsAll b (packets_due (heard_outcome (carried h.packet h.by) k (refusal word h.first set k))) (opened_in h.given) (kept m'.node a).casts) (sym looks.begun) brings) in
      let w : MemberView = record (ws word) { heard = Some l; given = given_at in_it.contact packets (ws word).given; begun = (kept m'.node a).casts } in
      let front = fronts_are_cast v (with_view ws word w) seen word x.seen x.contact other (numbers_fit old n a m sound was a_is apart) in
      let at : (with_view ws word w word).given x.seen x.contact ≡ (ws word).given x.seen x.contact ++ packets =
      ap (λ (u : MemberView). u.given x.seen x.contact) (put_same word w ws) ∙ ap (λ c. given_at c packets (ws word).given x.seen x.contact) (contact_shown x in_it.contact (sym looks.at ∙ in_it.at)) ∙ given_here (ws word).given packets x.contact x.seen in
      let all : map (bytes_of (node_word a)) (accepted_at old.members a n x.seen x.contact Broadcast) ≡ ((ws word).given x.seen x.contact ++ packets) ++ front.0 =
      sym (put_for old.members old.air a n x.seen x.contact) ∙ front.1 ∙ ap (λ ps. ps ++ front.0) at in
      front_brought old a n x.seen x.contact ((ws word).given x.seen x.contact) packets front.0 sound all

  pub casts_brought : Each (IsCastBrought (node_word a)) (packets_in (opened_in h.given))
  casts_brought = by (ws word).heard refl
    where
      by : (o : Option Contact) → (ws word).heard ≡ o → Each (IsCastBrought (node_word a)) (packets_in (opened_in h.given))
      by (Some k) here = taken k here
      by None none = subst (λ os. Each (IsCastBrought (node_word a)) (packets_in os)) (sym (missed none).0) (λ k p there. absurd (let wrong : None ≡ Some p = there in cc))
