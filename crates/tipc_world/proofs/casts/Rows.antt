-- What each round does for a broadcast packet at a member: it is shown, asked for, sent again and acknowledged.
use Rattle.std.specs.Prelude.{All, is_some}
use Rattle.std.proofs.Common.{◌≡◌, ◌≤◌, ◌⊎◌, ◌+◌, ◌-◌, ◌%◌, ◌∙◌, ℕ, true, if◌then◌else◌, Option, Some, None, slice_index_or, inl, inr, refl, sym, ap, subst, arith}
use Rattle.std.proofs.lemmas.List.Elements.{All-contains}
use Rattle.tipc_types.specs.Address.{node_word}
use Rattle.tipc_types.specs.Position.{number_of}
use Rattle.tipc_types.specs.declared.link_words.BroadcastState.{BroadcastState}
use Rattle.tipc_send_window.specs.Sending.{acked_of}
use Rattle.tipc_recv_window.specs.Receiving.{Receiving, fresh, gap_to}
use Rattle.tipc_broadcast.specs.declared.contacts.Contact.{Contact}
use Rattle.tipc_broadcast.specs.Casting.{Casting, accepted, next_start, stating}
use Rattle.tipc_broadcast.specs.Contacts.{IsContact, contact_with, noted_in, shown_in, shown_to, stepped, told}
use Rattle.tipc_broadcast_law.specs.Groups.{Group, place}
use Rattle.tipc_broadcast_law.specs.Listening.{IsWindow}
use Rattle.tipc_broadcast_law.specs.Steps.{Shows}
use Rattle.tipc_broadcast_law.proofs.calls.Stating.{told_places_show}
use Rattle.tipc_broadcast_law.proofs.MemberEvents.{place-begun}
use Rattle.tipc_broadcast_repair.proofs.Mending.{states_acknowledge, states_release, states_show}
use Rattle.tipc_casters.specs.Sights.{IsToldBy, IsToldTo, Told, contact_of}
use Rattle.tipc_replay.specs.Casters.{cast_contact, heard_contact, heard_of_caster, told_to_caster}
use Rattle.tipc_replay.specs.States.{MemberState}
use Rattle.tipc_world.specs.declared.places.Places.{Places}
use Rattle.tipc_world.specs.CalmWorlds.{IsCalmWorld}
use Rattle.tipc_world.specs.CastRows.{CastsAs, HasAcknowledged, HasTakenCast, IsCastAwaited, IsCastKnown, ReleasedByAll, MemberIs, Wants}
use Rattle.tipc_world.specs.Poised.{IsPoised}
use Rattle.tipc_world.specs.RoundParts.{IsKept, IsRound}
use Rattle.tipc_world.specs.Rows.{WasUp}
use Rattle.tipc_world.specs.States.{WorldState}
use Rattle.tipc_world.specs.StillWorlds.{footing_at}
use Rattle.tipc_world.proofs.casts.Going.{IsGoodLink, good_link, pair_stands}
use Rattle.tipc_world.proofs.casts.Heard.{CastHeard, heard_cast, stating_here}
use Rattle.tipc_world.proofs.casts.Law.{CastPair, contact_right, place_bounds, released_acked, wants_place, window_is}
use Rattle.tipc_world.proofs.casts.Links.{LinkGoes, told_window}
use Rattle.tipc_world.proofs.casts.Standing.{acknowledged_on, casts_on, known_on, member_on, settled_on}
use Rattle.tipc_world.proofs.rounds.Going.{Going}
use Rattle.tipc_world.proofs.rounds.TickStates.{CalmRound, round_going, state_heard}
use Rattle.tipc_world.proofs.rounds.UpLinks.{both_up, the_member, up_sides}

-- ---- what a STATE shows

next_in : (next start shown : ℕ) (o : Option Receiving) → (shown_in next start shown o).next ≡ next
next_in next start shown None = refl
next_in next start shown (Some r) = refl

next_shown : (next start : ℕ) (o : Option Contact) → (shown_to next start o).next ≡ next
next_shown next start None = refl
next_shown next start (Some c) = next_in next (number_of c.start) c.shown c.window

-- the same numbers of a boot, that both lie close before another
same_number : (n m stamp : ℕ) → number_of (n + 1) ≡ number_of (m + 1) → n ≤ stamp → stamp ≤ n + 246 → m ≤ stamp → stamp ≤ m + 246 → n ≡ m
unfolding number_of
same_number n m stamp same low high low' high' = omega arith

again_number : (n : ℕ) → number_of n ≡ number_of (number_of n)
unfolding number_of
again_number n = omega arith

-- the receive window after a STATE wants the place up to which the member has all
told_wants : {w : WorldState} {a b own theirs : ℕ} {v u : Casting} (h : CastPair w a b own theirs v u) (s next : ℕ) → (h.group.members (node_word b)).begun (contact_of own theirs) ≡ Some s → (r : Receiving) → (told (number_of (s + 1)) next h.kept).window ≡ Some r
    → Wants v r (place (h.group.members (node_word b)) (contact_of own theirs))
told_wants {w} {a} {b} {own} {theirs} {v} {u} h s next begun r is = by h.kept.window refl (window_is h)
  where
    m : ℕ
    m = node_word b

    c : ℕ
    c = contact_of own theirs

    by : (o : Option Receiving) → h.kept.window ≡ o → IsWindow h.group m c o → Wants v r (place (h.group.members m) c)
    by None none window =
        let start = number_of (s + 1) in
        let anew : Contact = record h.kept { window = Some (fresh start); shown = start } in
        let stepping : stepped start h.kept ≡ anew = ap (λ o. if is_some o then h.kept else anew) none in
        let first : (told start next h.kept).window ≡ Some (fresh start) = ap (λ (d : Contact). (noted_in next d d.window).window) stepping in
        let same : fresh start ≡ r = (let both : Some (fresh start) ≡ Some r = sym first ∙ is in cc) in
        let here : place (h.group.members m) c ≡ s = place-begun (h.group.members m) c s window begun in
        let bounds = place_bounds h in
        let low = bounds.0 in
        let high = bounds.1 in
        let released = released_acked h in
        record {
          number = ap (λ x. number_of (x + 1)) here ∙ (again_number (s + 1) ∙ ap (λ (q : Receiving). number_of q.wanted) same);
          low = omega (arith, released, low);
          high = high;
        }
    by (Some q) there window =
        let same : q ≡ r = (let both : Some q ≡ Some r = sym (told_window (number_of (s + 1)) next h.kept q there) ∙ is in cc) in
        (wants_place h r (there ∙ ap Some same)).0

shown_far : (position numbered behind wanted shown : ℕ) → (numbered ≤ behind) ⊎ (wanted + (numbered - behind) ≤ shown) → position ≤ numbered → (position ≤ behind) ⊎ (wanted + (position - behind) ≤ shown)
shown_far position numbered behind wanted shown (inl all) low = inl (omega (arith, all, low))
shown_far position numbered behind wanted shown (inr known) low = inr (omega (arith, known, low))

-- ---- what a member acknowledges

last_number : (x wanted : ℕ) → number_of (x + 1) ≡ number_of wanted → number_of (wanted + 65535) ≡ number_of x
unfolding number_of
last_number x wanted same = omega arith

-- a STATE to a peer shows what the receive window wants
shows_window : (next start : ℕ) (o : Option Contact) (c : Contact) (r : Receiving) → o ≡ Some c → c.window ≡ Some r → shown_to next start o ≡ shown_in next (number_of c.start) c.shown (Some r)
shows_window next start o c r there is = ap (shown_to next start) there ∙ ap (shown_in next (number_of c.start) c.shown) is

-- two places of the same number near what was released
near_places : (x y first numbered released more acked all : ℕ) → first ≤ x → x ≤ numbered + 246 → numbered ≤ first + 50 → first ≤ released → released ≤ acked → acked ≤ y + 60000 → (y ≤ more) ⊎ (y ≡ acked) → more ≤ all → acked ≤ all → all ≤ numbered + 246
    → y % 65536 ≡ x % 65536 → y ≡ x
near_places x y first numbered released more acked all a b c d e f (inl within) g i j k = omega arith
near_places x y first numbered released more acked all a b c d e f (inr is) g i j k = omega arith

same_places : (v u : Casting) (r : Receiving) (x : ℕ) (g : Group) (word number : ℕ) → LinkGoes v u → IsGoodLink v → Wants v r x → (shows : Shows g u word number) → IsContact (acked_of u.sending) (accepted u.sending) shows.contact → number ≡ number_of x → shows.place ≡ x
unfolding number_of
same_places v u r x g word number goes good wants shows contact is =
    let window = good.sending.window in
    let below = good.sending.numbered in
    let few = good.few in
    let all = goes.accepted_is in
    near_places x shows.place (acked_of v.sending) v.sending.numbered (acked_of u.sending) u.sending.numbered shows.contact.acked (accepted u.sending) wants.low wants.high (omega (arith, window, below)) goes.acked contact.after_release shows.recent shows.is_numbered (omega arith)
    contact.before_accepted (omega (arith, all, few)) (sym shows.number_is ∙ is)

-- Node a heard a STATE in which node b, in step, acknowledged all up to a position, by what it kept of node a; kb is
-- node b then.
pub record ToldAt (start outset ticked now : WorldState) (a b bearer : ℕ) (h : CastHeard start outset ticked now b a bearer) (kb : MemberState) (c : Contact) (r : Receiving) (x : ℕ) : Type 0 where
  pub pair : CastPair h.before a b (footing_at start a b).contact (footing_at start b a).contact h.member.node.casting kb.node.casting
  pub in_step : h.seen.in_step ≡ true
  pub gap_is : h.seen.gap ≡ gap_to r c.shown
  pub shows : Shows pair.group h.member.node.casting (node_word b) h.seen.acknowledged
  pub place_is : shows.place ≡ x

pub told_at : (start outset ticked now : WorldState) (a b bearer : ℕ) (h : CastHeard start outset ticked now b a bearer) (m mb kb : MemberState) (c : Contact) (r : Receiving) (x : ℕ) → IsKept start → IsPoised start → IsCalmWorld start outset → WasUp start a b bearer → slice_index_or outset.members a None ≡ Some m
    → slice_index_or outset.members b None ≡ Some mb → slice_index_or h.before.members b None ≡ Some kb → contact_with (node_word a) mb.node.casting.contacts ≡ Some c → c.window ≡ Some r → Wants m.node.casting r x → ToldAt start outset ticked now a b bearer h kb c r x
told_at start outset ticked now a b bearer h m mb kb c r x kept_start poised calm u at_a at_b at_kb c_is r_is wants =
    let va = h.member.node.casting in
    let own = (footing_at start a b).contact in
    let theirs = (footing_at start b a).contact in
    let contact = contact_of own theirs in
    let pair = pair_stands start h.before a b bearer h.member kb kept_start poised h.since.calm u h.member_is at_kb in
    let goes = h.since.casts.links a m h.member at_a h.member_is in
    let good = good_link outset a m (calm.on.kept kept_start) at_a in
    let said = h.tells.shows mb at_b ∙ shows_window (number_of (mb.node.casting.sending.numbered + 1)) (number_of (next_start mb.node.casting)) (contact_with (node_word a) mb.node.casting.contacts) c r c_is r_is in
    let step : h.seen.in_step ≡ true = ap (λ (s : BroadcastState). s.in_step) said in
    let acked : h.seen.acknowledged ≡ number_of x = ap (λ (s : BroadcastState). s.acknowledged) said ∙ last_number x r.wanted wants.number in
    let note : Told = record { contact = contact; stamp = h.sent.peer_casts; seen = h.seen } in
    let t = All-contains (IsToldBy pair.group (node_word b)) (told_to_caster h.before.air b a) note pair.told (h.told contact (ap heard_contact h.tells.contact)) step in
    let stamp = h.tells.peer_casts m at_a in
    let all = goes.accepted_is in
    let few = good.few in
    let now_numbered = pair.stands.numbered in
    let shows = subst (λ n. Shows pair.group va (node_word b) n) (sym t.1) (told_places_show pair.group va (node_word b) contact t.0 h.sent.peer_casts pair.law pair.stands pair.member.joined t.2 (omega (arith, stamp, all, few, now_numbered))) in
    let right = contact_right (node_word b) va.contacts (IsContact (acked_of va.sending) (accepted va.sending)) pair.casting.contacts shows.contact shows.there in
    record { pair = pair; in_step = step; gap_is = ap (λ (s : BroadcastState). s.gap) said; shows = shows; place_is = same_places m.node.casting va r x pair.group (node_word b) h.seen.acknowledged goes good wants shows right acked }

-- through a round
module _ {start : WorldState} {places : Places} {outset : WorldState} {ends : Places} {now : WorldState} {r : IsRound places outset ends now} (k : CalmRound start places outset ends now r) {a b bearer : ℕ} (u : WasUp start a b bearer) where
  pub back : WasUp start b a bearer
  back = record { here = u.there; there = u.here; apart = λ same. u.apart (sym same); on_one = u.on_one; up = (both_up start a b bearer k.kept k.poised u.apart u.on_one u.up).0 }

  pub going : Going start outset now
  going = round_going start places outset ends now r k

  -- what one of them tells when the round begins is heard
  pub tells_there : (m : MemberState) → slice_index_or outset.members a None ≡ Some m → CastHeard start outset r.ticked now a b bearer
  tells_there m there =
      let sides = up_sides start outset a b bearer m k.kept k.poised k.calm u.there u.apart u.on_one there u.up in
      heard_cast start outset r.ticked now a b bearer sides.here.session (state_heard start places outset ends now r a b bearer m k u.here u.there u.apart u.on_one there sides.here u.up)

  -- ---- the first round: it is shown

  pub row_shown : (position : ℕ) → CastsAs outset (IsCastAwaited position) a → MemberIs now (IsCastKnown position) a b
  row_shown position (m, there, due) =
      let h = tells_there m there in
      let ma = the_member (slice_index_or h.before.members a None) (h.since.on.nodes a ∙ ap (λ o. is_some o) there) in
      let own = (footing_at start a b).contact in
      let theirs = (footing_at start b a).contact in
      let contact = contact_of own theirs in
      let pair = pair_stands start h.before a b bearer ma.0 h.member k.kept k.poised h.since.calm u ma.1 h.member_is in
      let note : Told = record { contact = contact; stamp = h.sent.casts; seen = h.seen } in
      let t = All-contains (IsToldTo pair.group (node_word b)) (heard_of_caster h.before.air a b) note pair.hears (h.hears contact (ap cast_contact h.tells.contact)) in
      let next = t.3 in
      let shows = states_show pair.group (node_word b) contact t.0 h.seen.next h.sent.casts pair.kept pair.member t.1 next in
      let said : h.seen.next ≡ number_of (m.node.casting.sending.numbered + 1) = ap (λ (s : BroadcastState). s.next) (h.tells.shows m there) ∙ next_shown (number_of (m.node.casting.sending.numbered + 1)) (number_of (next_start m.node.casting)) (contact_with (node_word b) m.node.casting.contacts) in
      let stamp = h.tells.casts m there in
      let numbered : next.numbered ≡ m.node.casting.sending.numbered = same_number next.numbered m.node.casting.sending.numbered h.sent.casts (sym next.next_is ∙ said) next.by_then next.stamped stamp.0 stamp.1 in
      let so_far = place (pair.group.members (node_word b)) contact in
      let stated = stating_here h.member.node.casting (node_word a) h.seen pair.kept pair.heard in
      let start_is : told (number_of (t.0 + 1)) h.seen.next pair.kept ≡ told h.seen.start h.seen.next pair.kept = ap (λ s. told s h.seen.next pair.kept) (sym t.2) in
      let window = stated.window ∙ (ap (λ (c : Contact). c.window) (sym start_is) ∙ shows.in_step) in
      let shown_is = ap (λ (c : Contact). c.shown) start_is ∙ sym stated.shown in
      let due_numbered = due.numbered in
      let known = shown_far position next.numbered so_far shows.window.wanted (told (number_of (t.0 + 1)) h.seen.next pair.kept).shown shows.so_far (omega (arith, due_numbered, numbered)) in
      member_on start h.after now (IsCastKnown position) a b bearer (known_on position) u h.later (record {
        caster = ma.0;
        caster_is = h.others a u.apart ∙ ma.1;
        member = h.new;
        member_is = h.new_is;
        kept = stated.contact;
        kept_is = ap (λ (v : Casting). contact_with (node_word a) v.contacts) h.casting ∙ stated.there;
        so = record {
          window = shows.window;
          in_step = window;
          so_far = so_far;
          wants = told_wants pair t.0 h.seen.next t.1 shows.window shows.in_step;
          known = subst (λ s. (position ≤ so_far) ⊎ (shows.window.wanted + (position - so_far) ≤ s)) shown_is known;
        };
      })

  -- ---- the last round: it is acknowledged

  pub row_acknowledged : (position : ℕ) → CastsAs outset (IsCastAwaited position) a → MemberIs outset (HasTakenCast position) a b → (h : CastHeard start outset r.ticked now b a bearer) → CastsAs now (HasAcknowledged position b) a × CastsAs now (ReleasedByAll position) a
  row_acknowledged position (m, there, due) taken h =
      let kb = the_member (slice_index_or h.before.members b None) (h.since.on.nodes b ∙ ap (λ o. is_some o) taken.member_is) in
      let same : taken.caster ≡ m = (let both : Some taken.caster ≡ Some m = sym taken.caster_is ∙ there in cc) in
      let took = taken.so in
      let wants : Wants m.node.casting took.window took.so_far = subst (λ (x : MemberState). Wants x.node.casting took.window took.so_far) same took.wants in
      let t = told_at start outset r.ticked now a b bearer h m taken.member kb.0 taken.kept took.window took.so_far k.kept k.poised k.calm u there taken.member_is kb.1 taken.kept_is took.in_step wants in
      let v = h.member.node.casting in
      let word = node_word b in
      let d = states_acknowledge t.pair.group v word h.seen t.pair.stands t.in_step t.shows in
      let far = took.taken in
      let place_is = t.place_is in
      let acked = d.2 in
      let goes = h.since.casts.links a m h.member there h.member_is in
      let stays = h.step.casts.links a h.member h.new h.member_is h.new_is in
      let first = due.numbered in
      let more = goes.numbered in
      let further = stays.numbered in
      let settles : (All (λ (c : Contact). position ≤ c.acked) (stating v word h.seen).contacts → position ≤ acked_of (stating v word h.seen).sending) = states_release v word h.seen position t.pair.sending t.in_step (omega (arith, first, more)) in (
        casts_on start h.after now (HasAcknowledged position b) a (acknowledged_on position b) h.later
            (h.new, h.new_is, record { contact = d.0; there = ap (λ (w : Casting). contact_with word w.contacts) h.casting ∙ d.1; acked = omega (arith, far, place_is, acked) }),
        casts_on start h.after now (ReleasedByAll position) a (settled_on position) h.later
            (h.new, h.new_is, record { numbered = omega (arith, first, more, further); settles = subst (λ (w : Casting). All (λ (c : Contact). position ≤ c.acked) w.contacts → position ≤ acked_of w.sending) (sym h.casting) settles }),
      )
