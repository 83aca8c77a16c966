-- A broadcast packet that stands in the air for a member arrives there in a round, and is taken.
use Rattle.std.specs.Prelude.{◌==◌, if◌then◌else◌, is_some, nat_le, not}
use Rattle.std.proofs.Common.{◌≡◌, ◌≢◌, ◌≤◌, ◌<◌, ◌⊎◌, ◌+◌, ◌-◌, ◌∙◌, ℕ, true, false, Bool, List, None, Some, length, slice_index_or, eq-eqb, inl, inr, refl, sym, ap, subst, arith}
use Rattle.std.proofs.lemmas.Bool.{and_parts, cases_lt, leb-true}
use Rattle.std.proofs.lemmas.Bool.Decides.{nat_tests}
use Rattle.tipc_types.specs.Address.{node_word}
use Rattle.tipc_types.specs.Position.{number_of}
use Rattle.tipc_types.specs.declared.identity.Addr.{Addr}
use Rattle.tipc_types.specs.declared.identity.To.{To}
use Rattle.tipc_types.specs.declared.identity.To.TheVariants as to
use Rattle.tipc_types.specs.declared.link_words.Why.TheVariants as why
use Rattle.tipc_header.specs.declared.frames.FrameKind.TheVariants.{Casts}
use Rattle.tipc_header.specs.Frames.{frame_of, kind_in}
use Rattle.tipc_header.specs.Spelling.{Fields, spelling}
use Rattle.tipc_header.proofs.Again.{again, no_fault}
use Rattle.tipc_recv_window.specs.Receiving.{Receiving}
use Rattle.tipc_broadcast.specs.declared.contacts.Contact.{Contact}
use Rattle.tipc_broadcast.specs.Casting.{Casting, arriving}
use Rattle.tipc_broadcast.specs.Contacts.{IsFree, carried, contact_with, heard, is_in_step, is_member, refusal, taken_in, with_changed}
use Rattle.tipc_broadcast.proofs.Deeds.{heard_keeps}
use Rattle.tipc_broadcast_law.proofs.calls.Crediting.{changed-here}
use Rattle.tipc_broadcast_repair.proofs.Mending.{repeats_are_taken}
use Rattle.tipc_paired.specs.Views.{er_of, es_of}
use Rattle.tipc_paired.proofs.wires.Frames.{er_of-frame, es_of-frame, same_packet}
use Rattle.tipc_node.specs.CastArrivals.{members_in}
use Rattle.tipc_node.specs.Nodes.{NodeState, is_mended_on, is_other, stop_by_kind, stop_of}
use Rattle.tipc_node.specs.Turns.{IsFrom}
use Rattle.tipc_node.proofs.work.Stops.{IsBadSize, IsOpened, by_sender, sender_kind}
use Rattle.tipc_replay.specs.declared.air.Sent.{Sent}
use Rattle.tipc_replay.specs.declared.events.WorldEvent.TheVariants.{Arrive}
use Rattle.tipc_replay.specs.Due.{is_for}
use Rattle.tipc_replay.specs.Skies.{air_on}
use Rattle.tipc_replay.specs.States.{MemberState}
use Rattle.tipc_replay.proofs.frames.Reaching.{placed}
use Rattle.tipc_replay.proofs.journals.Stepping.{get_prefix}
use Rattle.tipc_world.specs.declared.places.Places.{Places}
use Rattle.tipc_world.specs.CastRows.{BringsCastTo, CastIsOnItsWay, CastsAs, HasTakenCast, IsCastAwaited, IsCastKnown, MemberIs}
use Rattle.tipc_world.specs.RoundParts.{IsRound}
use Rattle.tipc_world.specs.Rows.{WasUp}
use Rattle.tipc_world.specs.States.{WorldState}
use Rattle.tipc_world.proofs.casts.Going.{pair_stands}
use Rattle.tipc_world.proofs.casts.Law.{kept_boot}
use Rattle.tipc_world.proofs.casts.Repeating.{boot_on, open_on}
use Rattle.tipc_world.proofs.casts.Rows.{back, going}
use Rattle.tipc_world.proofs.casts.Standing.{awaited_on, casts_on, known_on, member_on, taken_on}
use Rattle.tipc_world.proofs.rounds.Going.{Going}
use Rattle.tipc_world.proofs.rounds.Keeping.{here_is, other_stays}
use Rattle.tipc_world.proofs.rounds.TickStates.{ArrivedOnce, CalmRound, clear_ticked, found_here, frame_arrives}
use Rattle.tipc_world.proofs.rounds.UpLinks.{other_is}
use Rattle.tipc_world.proofs.rounds.Walking.{ticks_go_on}

-- ---- nothing stops it

-- a broadcast packet of another node that comes on a mended bearer isn't stopped where that node is known
cast_passes : (n : NodeState) (bearer : ℕ) (bytes : List ℕ) (peer es er : ℕ) (p : Fields) → IsFrom peer bytes es er p → kind_in bytes ≡ Casts → is_mended_on n.mended bearer ≡ true → 16 ≤ length bytes → length bytes ≤ 1516 → is_other n.own (node_word peer) ≡ true
    → is_some (slice_index_or n.neighbours peer None) ≡ true → stop_of n bearer bytes ≡ None
cast_passes n bearer bytes peer es er p from kind mended long short other there =
    let opened : IsOpened n.mended bearer bytes es er (spelling p) = record { open_bearer = mended; size = λ bad. good bad; opened = from.frame_is } in
    let word : is_other n.own p.previous ≡ true = ap (is_other n.own) from.previous ∙ other in
    by_sender n.own n.mended n.neighbours bearer bytes es er (spelling p) p opened (no_fault p from.fits) (sym (again p from.fits))
    ∙ (sender_kind n.own n.neighbours bearer peer p.previous (kind_in bytes) p.header word from.previous
    ∙ (ap (λ k. stop_by_kind k p.header bearer (slice_index_or n.neighbours peer None)) kind ∙ ap (λ b. if b then None else Some why.Unknown) there))
  where
    good : IsBadSize (length bytes) → ⊥
    good (inl few) = omega (arith, few, long)
    good (inr many) = omega (arith, many, short)

-- one for all is for each other node
for_others : (a b : ℕ) (from : Addr) (t : To) → from.word ≡ node_word a → t ≡ to.All → a ≢ b → is_for from t b ≡ true
for_others a b from t sender all apart = ap (λ x. is_for from x b) all ∙ by (from.word == node_word b) refl
  where
    by : (x : Bool) → (from.word == node_word b) ≡ x → not (from.word == node_word b) ≡ true
    by true is = absurd (apart (let word : from.word ≡ node_word b = grind (arith, nat_tests, is) in omega (arith, word, sender)))
    by false is = ap not is

-- ---- it is heard

-- what a packet makes of a contact that it isn't refused in
none_refused : (own boot members word : ℕ) (c : Contact) (r : Receiving) → boot ≡ c.boot → c.window ≡ Some r → own ≡ word → is_member word members ≡ true → refusal own boot members c ≡ None
none_refused own boot members word c r same window is member =
    ap (λ t. if not t then Some why.Epoch else (if not (is_in_step c) then Some why.OutOfStep else (if not (is_member own members) then Some why.NotMember else None))) (eq-eqb boot c.boot same)
    ∙ (ap (λ o. if not (is_some o) then Some why.OutOfStep else (if not (is_member own members) then Some why.NotMember else None)) window
    ∙ (ap (λ k. if not (is_member k members) then Some why.NotMember else None) is ∙ ap (λ t. if not t then Some why.NotMember else None) member))

-- the contact after it
record TakesIt (v : Casting) (word boot members : ℕ) (p : Fields) (by : ℕ) (c : Contact) (r : Receiving) (so_far position : ℕ) : Type 0 where
  contact : Contact
  there : contact_with word (arriving v boot members p by).contacts ≡ Some contact
  window : Receiving
  in_step : contact.window ≡ Some window
  far : r.wanted + (position - so_far) ≤ window.wanted

takes_it : (v : Casting) (word boot members : ℕ) (p : Fields) (by : ℕ) (c : Contact) (r : Receiving) (so_far position : ℕ) → contact_with word v.contacts ≡ Some c → c.window ≡ Some r → p.previous ≡ word → refusal v.own boot members c ≡ None → IsFree (Some r) → number_of (so_far + 1) ≡ number_of r.wanted
    → p.sequence ≡ number_of position → so_far < position → position ≤ so_far + 1 → TakesIt v word boot members p by c r so_far position
takes_it v word boot members p by c r so_far position there window from passes free wanted number waits near =
    let t = carried p by in
    let next : position ≡ so_far + 1 = omega (arith, waits, near) in
    let takes = repeats_are_taken c r t so_far so_far free wanted (number ∙ ap number_of next) (omega arith) in
    let change : Contact → Contact = λ d. heard t d (refusal v.own boot members d) in
    let here = changed-here change (λ d. (heard_keeps v.own boot members t d).1) word v.contacts c there in
    let is : change c ≡ taken_in c t (Some r) = ap (heard t c) passes ∙ ap (taken_in c t) window in
    let far = takes.2 in
    record {
      contact = taken_in c t (Some r);
      there = subst (λ w. contact_with word (with_changed w change v.contacts) ≡ Some (taken_in c t (Some r))) (sym from) (here ∙ ap Some is);
      window = takes.0;
      in_step = takes.1;
      far = omega (arith, far, next);
    }

-- ---- the third round: it is taken

module _ {start : WorldState} {places : Places} {outset : WorldState} {ends : Places} {now : WorldState} {r : IsRound places outset ends now} (k : CalmRound start places outset ends now r) {a b bearer : ℕ} (u : WasUp start a b bearer) where
  taken_further : (position : ℕ) (w : WorldState) → Going start w now → MemberIs w (HasTakenCast position) a b → MemberIs now (HasTakenCast position) a b
  taken_further position w later taken = member_on start w now (HasTakenCast position) a b bearer (taken_on position) u later taken

  took : (position : ℕ) (f : Sent) (q : BringsCastTo outset a b position f) → CastsAs outset (IsCastAwaited position) a → (once : ArrivedOnce start outset now b bearer f) → (known : MemberIs once.before (IsCastKnown position) a b) → known.so.so_far < position → MemberIs now (HasTakenCast position) a b
  took position f q due once known waits =
      let h = once.arrives in
      let member = h.before in
      let v = member.node.casting in
      let by = length member.arrivals in
      let word = node_word a in
      let calm = once.since.calm in
      let kept = calm.on.kept k.kept in
      let w = known.so.window in
      let same : known.member ≡ member = (let both : Some known.member ≡ Some member = sym known.member_is ∙ h.was in cc) in
      let opens = open_on start once.before b a bearer member k.kept k.poised calm (back k u) h.was in
      let size = (kept.nodes.sound.frames bearer once.place f (placed once.before.air b bearer once.place f once.found).0).size in
      let both_sizes = and_parts (nat_le 16 (length f.frame)) (nat_le (length f.frame) 1516) size in
      let other = subst (λ x. is_other x word ≡ true) (sym (kept.nodes.sound.numbered b member h.was).1) (other_is b a u.here (back k u).apart) in
      let passes = cast_passes member.node bearer f.frame a q.boot q.set q.packet q.from q.kind opens.mended_there (leb-true 16 (length f.frame) both_sizes.0) (leb-true (length f.frame) 1516 both_sizes.1) other opens.knows in
      let x = h.does.arrives.cast passes q.kind in
      let from = x.brings.from in
      let framed : frame_of x.first x.second (spelling x.packet) ≡ frame_of q.boot q.set (spelling q.packet) = sym from.frame_is ∙ q.from.frame_is in
      let packet : x.packet ≡ q.packet = same_packet x.first x.second q.boot q.set x.packet q.packet from.fits q.from.fits framed in
      let first : x.first ≡ q.boot = sym (es_of-frame x.first x.second (spelling x.packet) from.es_fits from.er_fits) ∙ (ap es_of framed ∙ es_of-frame q.boot q.set (spelling q.packet) q.from.es_fits q.from.er_fits) in
      let second : x.second ≡ q.set = sym (er_of-frame x.first x.second (spelling x.packet) from.es_fits from.er_fits) ∙ (ap er_of framed ∙ er_of-frame q.boot q.set (spelling q.packet) q.from.es_fits q.from.er_fits) in
      let casting : h.after.node.casting ≡ arriving v x.first (members_in x.second) x.packet by = ap (λ (m : NodeState). m.casting) x.after ∙ x.casting_is in
      let heard_it : arriving v x.first (members_in x.second) x.packet by ≡ arriving v q.boot (members_in q.set) q.packet by = (λ i. arriving v (first i) (members_in (second i)) (packet i) by) in
      let kept_is : contact_with word v.contacts ≡ Some known.kept = ap (λ (m : MemberState). contact_with word m.node.casting.contacts) (sym same) ∙ known.kept_is in
      let pair = pair_stands start once.before a b bearer known.caster member k.kept k.poised calm u known.caster_is h.was in
      let one : pair.kept ≡ known.kept = (let both : Some pair.kept ≡ Some known.kept = sym pair.heard ∙ kept_is in cc) in
      let present = casts_on start outset once.before (λ (y : Casting). q.boot ≡ y.boot) a (boot_on q.boot) once.since q.present in
      let sender : present.0 ≡ known.caster = (let both : Some present.0 ≡ Some known.caster = sym present.1 ∙ known.caster_is in cc) in
      let boot : q.boot ≡ known.kept.boot = present.2 ∙ (ap (λ (m : MemberState). m.node.casting.boot) sender ∙ (sym (kept_boot pair) ∙ ap (λ (c : Contact). c.boot) one)) in
      let refused = none_refused v.own q.boot (members_in q.set) (node_word b) known.kept w boot known.so.in_step opens.own q.meant in
      let free : IsFree (Some w) = subst IsFree (ap (λ (c : Contact). c.window) one ∙ known.so.in_step) pair.member.free in
      let awaits = casts_on start outset once.before (IsCastAwaited position) a (awaited_on position) once.since due in
      let waiter : awaits.0 ≡ known.caster = (let both : Some awaits.0 ≡ Some known.caster = sym awaits.1 ∙ known.caster_is in cc) in
      let now_due : IsCastAwaited position known.caster.node.casting = subst (λ (m : MemberState). IsCastAwaited position m.node.casting) waiter awaits.2 in
      let near = now_due.first in
      let low = known.so.wants.low in
      let t = takes_it v word q.boot (members_in q.set) q.packet by known.kept w known.so.so_far position kept_is known.so.in_step q.from.previous refused free known.so.wants.number q.number waits (omega (arith, near, low)) in
      let new_is = here_is once.before once.after (Arrive b bearer once.place) f.frame once.answered h in
      let caster_is = other_stays once.before once.after (Arrive b bearer once.place) f.frame once.answered h a u.apart ∙ known.caster_is in
      let contact_is = ap (λ (y : Casting). contact_with word y.contacts) (casting ∙ heard_it) ∙ t.there in
      let goes = once.step.casts.pairs a b bearer u known.caster known.caster known.member h.after known.caster_is caster_is known.member_is new_is known.kept t.contact known.kept_is contact_is in
      let far = t.far in
      taken_further position once.after once.later (record {
        caster = known.caster;
        caster_is = caster_is;
        member = h.after;
        member_is = new_is;
        kept = t.contact;
        kept_is = contact_is;
        so = record {
          window = t.window;
          in_step = t.in_step;
          so_far = known.so.so_far + (t.window.wanted - w.wanted);
          wants = goes.places w t.window known.so.so_far known.so.in_step t.in_step known.so.wants;
          taken = omega (arith, far, waits);
        };
      })

  pub row_taken : (position : ℕ) → CastsAs outset (IsCastAwaited position) a → MemberIs outset (IsCastKnown position) a b → MemberIs outset (HasTakenCast position) a b ⊎ CastIsOnItsWay places outset a b bearer position → MemberIs now (HasTakenCast position) a b
  row_taken position due known (inl taken) = taken_further position outset (going k u) taken
  row_taken position due known (inr way) =
      let q = way.brings in
      let f = way.frame in
      let goes = ticks_go_on 1 outset _ r.ticks r.ticked r.tick_part (clear_ticked k) in
      let stands = get_prefix (air_on bearer outset.air) (air_on bearer r.ticked.air) way.place f (goes.grown.air bearer) way.there in
      let meant = for_others a b f.from f.to q.sender q.to_all u.apart in
      let once = frame_arrives start places outset ends now r b bearer way.place f k u.there u.on_one (ap (λ o. is_some o) known.member_is) way.behind (found_here r.ticked b bearer way.place f stands meant) in
      let before = member_on start outset once.before (IsCastKnown position) a b bearer (known_on position) u once.since known in
      elim (cases_lt before.so.so_far position) [
        | inl waits ↦ took position f q due once before waits
        | inr all ↦ taken_further position once.after once.later (member_on start once.before once.after (HasTakenCast position) a b bearer (taken_on position) u once.step (record {
          caster = before.caster;
          caster_is = before.caster_is;
          member = before.member;
          member_is = before.member_is;
          kept = before.kept;
          kept_is = before.kept_is;
          so = record { window = before.so.window; in_step = before.so.in_step; so_far = before.so.so_far; wants = before.so.wants; taken = all };
        }))
      ]
