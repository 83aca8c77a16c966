-- In a round in which nothing goes down no link frame that leaves at a tick is too old when it arrives: since then each
-- link, be it one that comes up in the round, numbers at most two windows' packets, and no broadcast link accepts
-- anything.
use Rattle.std.proofs.Common.{◌≡◌, ◌≢◌, ◌≤◌, ◌<◌, ◌+◌, ◌*◌, ◌∙◌, ℕ, false, true, [], Option, None, Some, length, slice_index_or, is_some, inl, inr, refl, sym, ap, subst, arith}
use Rattle.std.specs.Prelude.{◌/◌, drop}
use Rattle.std.proofs.lemmas.List.{drop_at}
use Rattle.tipc_types.specs.Address.{node_word}
use Rattle.tipc_types.specs.Limits.{most_age}
use Rattle.tipc_types.specs.declared.node_calls.Answer.{Answer}
use Rattle.tipc_types.specs.declared.node_calls.EventNote.TheVariants as note
use Rattle.tipc_outside.specs.declared.outgoing.Outgoing.{Outgoing}
use Rattle.tipc_header.specs.declared.frames.FrameKind.TheVariants.{Casts, Links}
use Rattle.tipc_header.specs.Faults.{fault_of}
use Rattle.tipc_header.specs.Frames.{envelope, kind_in}
use Rattle.tipc_header.specs.Reading.{fields_at}
use Rattle.tipc_header.specs.Spelling.{Fields, spelling}
use Rattle.tipc_header.proofs.Again.{again, no_fault}
use Rattle.tipc_header.proofs.FrameWords.{length-envelope}
use Rattle.tipc_contact.specs.Sides.{boot_of}
use Rattle.tipc_broadcast.specs.Casting.{Casting, accepted}
use Rattle.tipc_link.specs.Links.{is_traffic}
use Rattle.tipc_paired.specs.Views.{er_of, es_of}
use Rattle.tipc_paired.proofs.wires.Frames.{er_of-frame, es_of-frame}
use Rattle.tipc_node.specs.Nodes.{pair_with}
use Rattle.tipc_node.specs.Turns.{IsFrom}
use Rattle.tipc_settling.specs.Freshness.{AreAckedTo}
use Rattle.tipc_replay.specs.declared.events.WorldEvent.TheVariants.{Arrive, Call}
use Rattle.tipc_replay.specs.Air.{airborne, number_of_node, receiver_of}
use Rattle.tipc_replay.specs.Due.{age_of, frame_for, state_age}
use Rattle.tipc_replay.specs.Skies.{air_on}
use Rattle.tipc_replay.specs.Sound.{IsAirborne, IsNumber}
use Rattle.tipc_replay.specs.States.{MemberState, boot_at, cast_count_at, contact_at, count_at}
use Rattle.tipc_replay.specs.Steps.{stage}
use Rattle.tipc_replay.proofs.LookUps.{member_at-is}
use Rattle.tipc_replay.proofs.casts.CasterLooks.{casting_at-is}
use Rattle.tipc_replay.proofs.frames.Ages.{number_is}
use Rattle.tipc_replay.proofs.frames.Coming.{for_node, spoken_to}
use Rattle.tipc_replay.proofs.frames.Emissions.{receiver_is}
use Rattle.tipc_replay.proofs.frames.Reaching.{placed}
use Rattle.tipc_world.specs.declared.places.Places.{Places}
use Rattle.tipc_world.specs.declared.settling.Receivers.TheVariants.{Any}
use Rattle.tipc_world.specs.Courses.{Goes, numbers}
use Rattle.tipc_world.specs.Ends.{AreBefore, ends_of, place_on}
use Rattle.tipc_world.specs.RoundParts.{EachNode, FrameArrives, HappensWhole, HasArrivedOnce, HasTickedOnce, IsKept, IsRound, SettlesOn}
use Rattle.tipc_world.specs.Settling.{arrival_asked, tick_asked}
use Rattle.tipc_world.specs.States.{WorldState, is_there}
use Rattle.tipc_world.specs.StillWorlds.{HasHeardAll, IsStillNode, IsStillWorld, IsUnderPresent, footing_at}
use Rattle.tipc_world.specs.YoungWorlds.{CastsNothing, casts_at, link_count}
use Rattle.tipc_world.proofs.rounds.CastsKept.{arrival_casts, tick_casts}
use Rattle.tipc_world.proofs.rounds.Events.{arrives_at, tick_either}
use Rattle.tipc_world.proofs.rounds.FrameAges.{age_at_most, foot_boot, used_within}
use Rattle.tipc_world.proofs.rounds.Guarded.{one_arrival, place_there, tick_guarded, ticks_guarded}
use Rattle.tipc_world.proofs.rounds.Keeping.{arrival_on, nodes_keep, settles_more, settles_same}
use Rattle.tipc_world.proofs.rounds.Pacing.{arrival_acks, few_since, most_at, paced_begins, tick_acks}
use Rattle.tipc_world.proofs.rounds.Parts.{goes_keep, goes_rises, goes_whole, takes_whole}
use Rattle.tipc_world.proofs.rounds.Since.{cast_beside}
use Rattle.tipc_world.proofs.rounds.StillWorlds.{arrival_still, sender_there, tick_still}
use Rattle.tipc_world.proofs.rounds.TickStates.{clear_before}
use Rattle.tipc_world.proofs.rounds.Traffic.{of_present}
use Rattle.tipc_world.proofs.rounds.UpLinks.{the_member}
use Rattle.tipc_world.proofs.rounds.Walking.{ticks_go_on}
use Rattle.tipc_world.proofs.rounds.Young.{stood_there}

-- ---- what is carried

-- node n since a moment: its links acknowledged no more than what was numbered by then, and its broadcast link accepted
-- nothing
record IsSlow (base : WorldState) (n : ℕ) (m : MemberState) : Type 0 where
  acked : (b : ℕ) → IsNumber b → n ≢ b → AreAckedTo (most_at base n b) (pair_with m.node b)
  casts : accepted m.node.casting.sending ≡ casts_at base n

slow_begins : (base : WorldState) → IsKept base → EachNode (IsSlow base) base
slow_begins base kept n m there = (let p = paced_begins base base n m kept there refl in record { acked = p.acked; casts = p.casts })

-- through ticks
slow_tick : (base old new : WorldState) (node : ℕ) (answered : Answer) (h : HappensWhole old new (Call node note.Tick) [] answered) → IsSlow base node h.before → IsSlow base node h.after
slow_tick base old new node answered h was = record {
  acked = λ b number apart. tick_acks base old new node answered h b (was.acked b number apart);
  casts = tick_casts _ h.before h.after h.frames answered h.does ∙ was.casts;
}

ticks_slow : (base : WorldState) (first : ℕ) (outset : WorldState) (end count : ℕ) (now : WorldState) → Goes tick_asked first outset end count now → now.lost ≡ false → EachNode (IsSlow base) outset → EachNode (IsSlow base) now
ticks_slow base first outset end count now goes whole all = goes_keep tick_asked (λ number. EachNode (IsSlow base)) first outset end count now
    (λ number before made after above below taken clear slow.
    elim (tick_either number before made after taken clear) [
      | inl same ↦ subst (EachNode (IsSlow base)) (sym same) slow
      | inr ticked ↦ nodes_keep (IsSlow base) before after (Call number note.Tick) [] ticked.0 ticked.1 (slow_tick base before after number ticked.0 ticked.1) slow
    ]) goes whole all

-- The frames that stand in the air at a moment arrive, while nothing goes down.
record Slows (start base w : WorldState) : Type 0 where
  still : IsStillWorld start w
  on : SettlesOn base w
  slow : EachNode (IsSlow base) w

one_slow : (start base : WorldState) → IsKept start → IsStillWorld start base → (old new : WorldState) → old.lost ≡ false → (a : FrameArrives (ends_of start.air) old new) → a.place < length (air_on a.bearer base.air) → Slows start base old → Slows start base new
one_slow start base kept g_base old new clear a within s =
    let h = a.arrives in
    let at = (placed old.air a.node a.bearer a.place a.frame a.found).0 in
    let under = s.still.frames a.bearer a.place a.frame a.on_one a.behind at in
    let stood = stood_there (air_on a.bearer base.air) (air_on a.bearer old.air) a.place a.frame (s.on.grown.air a.bearer) within at in
    let here = sym (s.on.nodes a.node) ∙ ap (λ o. is_some o) h.was in
    record {
      still = one_arrival start (ends_of start.air) (IsStillNode start) (IsUnderPresent start) old new (arrival_still start kept) clear a s.still;
      on = settles_more base old new s.on (arrival_on (ends_of start.air) old new clear a);
      slow = nodes_keep (IsSlow base) old new (Arrive a.node a.bearer a.place) a.frame.frame a.answered h
          (λ was. record {
            acked = λ b number apart. arrival_acks start base kept g_base old new a s.still under stood here b number apart (was.acked b number apart);
            casts = arrival_casts _ a.bearer a.place a.frame.frame h.before h.after h.frames a.answered h.does ∙ was.casts;
          })
          s.slow;
    }

arrivals_slow : (start base : WorldState) (bearer first : ℕ) (outset : WorldState) (end count : ℕ) (now : WorldState) → IsKept start → IsStillWorld start base → bearer ≤ 1 → place_on bearer (ends_of start.air) ≤ first / numbers
    → end ≤ numbers * length (air_on bearer base.air) → Goes (arrival_asked Any bearer) first outset end count now → now.lost ≡ false → Slows start base outset → Slows start base now
arrivals_slow start base bearer first outset end count now kept g_base on_one behind within goes whole slows = goes_keep (arrival_asked Any bearer) (λ number. Slows start base) first outset end count now
    (λ number before made after above below taken clear s.
    let was_clear = takes_whole (arrival_asked Any bearer) number before made after taken clear in
    let at : first / numbers ≤ number / numbers = omega (arith, above) in
    let place : number / numbers < length (air_on bearer base.air) = omega (arith, below, within) in
    elim (arrives_at (ends_of start.air) bearer number before made after on_one (omega (arith, behind, at)) taken clear) [
      | inl same ↦ subst (Slows start base) (sym same) s
      | inr arrived ↦
          let in_time : arrived.0.place < length (air_on arrived.0.bearer base.air) = subst (λ k. arrived.0.place < length (air_on k base.air)) (sym arrived.1) (subst (λ k. k < length (air_on bearer base.air)) (sym arrived.2) place) in
          one_slow start base kept g_base before after was_clear arrived.0 in_time s
    ]) goes whole slows

-- ---- from a tick to an arrival

-- from the world in which a node has just ticked, by that in which all nodes have, to that in which a frame arrives
record Passes (start sent ticked w : WorldState) : Type 0 where
  sent_still : IsStillWorld start sent
  ticked_still : IsStillWorld start ticked
  ticks_on : SettlesOn sent ticked
  ticks : EachNode (IsSlow sent) ticked
  arrivals : Slows start ticked w

casts_same : (base w : WorldState) → EachNode (IsSlow base) w → CastsNothing base w
casts_same base w slow n here =
    let m = the_member (slice_index_or w.members n None) here in
    ap (λ (v : Casting). accepted v.sending) (casting_at-is w.members n m.0 (member_at-is w.members n m.0 m.1)) ∙ (slow n m.0 m.1).casts

module _ (start sent ticked w : WorldState) (kept : IsKept start) (p : Passes start sent ticked w) where
  still_now : IsStillWorld start w
  still_now = (let q = p.arrivals in q.still)

  slow_now : EachNode (IsSlow ticked) w
  slow_now = (let q = p.arrivals in q.slow)

  on_ticked : SettlesOn ticked w
  on_ticked = (let q = p.arrivals in q.on)

  all_on : SettlesOn sent w
  all_on = settles_more sent ticked w p.ticks_on on_ticked

  sent_world : IsStillWorld start sent
  sent_world = p.sent_still

  kept_sent : IsKept sent
  kept_sent = p.sent_still.on.kept kept

  -- no broadcast link accepted anything
  none_cast : CastsNothing sent w
  none_cast n here = casts_same ticked w slow_now n here ∙ casts_same sent ticked p.ticks n (sym (on_ticked.nodes n) ∙ here)

  -- each link numbered at most two windows' packets
  two_windows : (a b bearer : ℕ) → is_there start a ≡ true → IsNumber a → IsNumber b → a ≢ b → bearer ≤ 1 → link_count start w a b bearer ≤ link_count start sent a b bearer + 100
  two_windows a b bearer here a_is b_is apart on_one =
      let j = the_member (slice_index_or sent.members a None) (p.sent_still.on.nodes a ∙ here) in
      let k = the_member (slice_index_or ticked.members a None) (p.ticked_still.on.nodes a ∙ here) in
      let m = the_member (slice_index_or w.members a None) (still_now.on.nodes a ∙ here) in
      let j_still = p.sent_still.nodes a j.0 j.1 b b_is apart in
      let k_still = p.ticked_still.nodes a k.0 k.1 b b_is apart in
      let m_still = still_now.nodes a m.0 m.1 b b_is apart in
      let kept_ticked = p.ticked_still.on.kept kept in
      let one = few_since start sent ticked a b bearer j.0 k.0 kept_sent kept_ticked a_is b_is apart on_one j.1 j_still k.1 k_still ((p.ticks a k.0 k.1).acked b b_is apart) in
      let two = few_since start ticked w a b bearer k.0 m.0 kept_ticked (still_now.on.kept kept) a_is b_is apart on_one k.1 k_still m.1 m_still ((slow_now a m.0 m.1).acked b b_is apart) in
      omega (arith, one, two)

  -- a STATE or a numbered packet
  session_young : (b n bearer place : ℕ) (met : ℕ → Option (ℕ × ℕ)) (o : Outgoing) (es er : ℕ) (packet : Fields) → bearer ≤ 1 → o.bearer ≡ bearer → place_on bearer (ends_of start.air) ≤ place → is_there start n ≡ true → IsNumber n
      → frame_for w.air n bearer place ≡ Some (airborne met sent.members b o) → IsFrom b o.frame es er packet → kind_in o.frame ≡ Links → is_traffic packet.header ≡ true
      → state_age w.members (airborne met sent.members b o) n bearer (es_of o.frame) (er_of o.frame) ≤ 346
  session_young b n bearer place met o es er packet on_one on_it behind here n_is found brings kind_is traffic =
      let f = airborne met sent.members b o in
      let kept_now = still_now.on.kept kept in
      let sound = kept_now.nodes.sound in
      let under = still_now.frames bearer place f on_one behind (placed w.air n bearer place f found).0 in
      let sent_by = sender_there w n bearer place f b es er packet kept_now found brings kind_is in
      let sender = the_member (slice_index_or w.members b None) sent_by.there in
      let b_here : is_there start b ≡ true = sym (still_now.on.nodes b) ∙ sent_by.there in
      let back : n ≢ b = λ same. sent_by.apart (sym same) in
      let link = of_present start w b n bearer sent_by.place f sender.0 es er packet kept still_now under sent_by.number n_is sent_by.apart on_one sent_by.goes_here sender.1 sent_by.sent brings traffic in
      let es_is : es_of o.frame ≡ (footing_at start b n).epoch bearer = ap es_of brings.frame_is ∙ (es_of-frame es er (spelling packet) brings.es_fits brings.er_fits ∙ link.es_is) in
      let er_is : er_of o.frame ≡ (footing_at start n b).epoch bearer = ap er_of brings.frame_is ∙ (er_of-frame es er (spelling packet) brings.es_fits brings.er_fits ∙ link.er_is) in
      let number : number_of_node f.from.word ≡ b = number_is f.from.word b refl in
      let receiver : receiver_of o.to ≡ n = receiver_is n o.to (for_node (stage w.members w.air) n bearer place f sound found kind_is) in
      let own : f.numbered ≡ link_count start sent b n bearer =
      ap (λ k. count_at sent.members b k o.bearer (es_of o.frame)) receiver ∙ (ap (λ k. count_at sent.members b n k (es_of o.frame)) on_it ∙ ap (count_at sent.members b n bearer) es_is) in
      let peer : f.peer_numbered ≡ link_count start sent n b bearer =
      ap (λ k. count_at sent.members k b o.bearer (er_of o.frame)) receiver ∙ (ap (λ k. count_at sent.members n b k (er_of o.frame)) on_it ∙ ap (count_at sent.members n b bearer) er_is) in
      let own_now : count_at w.members (number_of_node f.from.word) n bearer (es_of o.frame) ≡ link_count start w b n bearer = ap (λ k. count_at w.members k n bearer (es_of o.frame)) number ∙ ap (count_at w.members b n bearer) es_is in
      let peer_now : count_at w.members n (number_of_node f.from.word) bearer (er_of o.frame) ≡ link_count start w n b bearer = ap (λ k. count_at w.members n k bearer (er_of o.frame)) number ∙ ap (count_at w.members n b bearer) er_is in
      let own_few = two_windows b n bearer b_here sent_by.number n_is sent_by.apart on_one in
      let peer_few = two_windows n b bearer here n_is sent_by.number back on_one in
      let present : boot_of (es_of o.frame) ≡ boot_at sent.members b = ap boot_of es_is ∙ (foot_boot start b n bearer kept sent_by.number n_is sent_by.apart on_one ∙ sym (sent_boot b)) in
      let cast : cast_count_at w.members (number_of_node f.from.word) (boot_of (es_of o.frame)) ≡ cast_count_at w.members b (boot_of (es_of o.frame)) = ap (λ k. cast_count_at w.members k (boot_of (es_of o.frame))) number in
      let cast_few = used_within sent w b (boot_of (es_of o.frame)) all_on none_cast sent_by.there present in
      let cast_beside_it = cast_beside sent sent b kept_sent (λ k there. refl) (sent_there b b_here) sent_by.number in
      let peer_cast_few = used_within sent w n f.peer_boot all_on none_cast (still_now.on.nodes n ∙ here) (ap (boot_at sent.members) receiver) in
      let peer_cast_beside : casts_at sent n ≤ f.peer_casts + 246 = subst (λ k. casts_at sent n ≤ cast_count_at sent.members k (boot_at sent.members k) + 246) (sym receiver) (cast_beside sent sent n kept_sent (λ k there. refl) (sent_there n here) n_is) in
      omega (arith, own, peer, own_now, peer_now, own_few, peer_few, cast, cast_few, cast_beside_it, peer_cast_few, peer_cast_beside)
    where
      sent_boot : (k : ℕ) → boot_at sent.members k ≡ boot_at start.members k
      sent_boot k = (let g = sent_world in g.on.boots k)

      sent_there : (k : ℕ) → is_there start k ≡ true → is_there sent k ≡ true
      sent_there k there = (let g = sent_world in g.on.nodes k ∙ there)

  -- any frame of a link
  frame_young : (b n bearer place : ℕ) (met : ℕ → Option (ℕ × ℕ)) (o : Outgoing) → bearer ≤ 1 → o.bearer ≡ bearer → place_on bearer (ends_of start.air) ≤ place → is_there start n ≡ true → IsNumber n
      → frame_for w.air n bearer place ≡ Some (airborne met sent.members b o) → kind_in o.frame ≡ Links → age_of w.members (airborne met sent.members b o) n bearer ≤ most_age
  frame_young b n bearer place met o on_one on_it behind here n_is found kind_is =
      let f = airborne met sent.members b o in
      let kept_now = still_now.on.kept kept in
      let spoken = spoken_to (stage w.members w.air) n bearer place f kept_now.nodes.sound found in
      let q = spoken.said in
      let words : node_word b ≡ node_word spoken.sender = spoken.from in
      let one : spoken.sender ≡ b = omega (arith, words) in
      let from : IsFrom b o.frame q.es q.er q.packet = subst (λ k. IsFrom k o.frame q.es q.er q.packet) one q.is_from in
      let flown : IsAirborne f = kept_now.nodes.sound.frames bearer place f (placed w.air n bearer place f found).0 in
      let packet : drop 16 o.frame ≡ spelling q.packet = ap (drop 16) from.frame_is ∙ drop_at (envelope q.es q.er) (spelling q.packet) 16 (length-envelope q.es q.er) in
      let read : fields_at (drop 16 o.frame) ≡ q.packet = ap fields_at packet ∙ again q.packet from.fits in
      let clear : fault_of (drop 16 o.frame) ≡ None = ap fault_of packet ∙ no_fault q.packet from.fits in
      let age = age_at_most w.members f n bearer 346 Links flown.size clear kind_is
      (λ is traffic. session_young b n bearer place met o q.es q.er q.packet on_one on_it behind here n_is found from kind_is (ap (λ (r : Fields). is_traffic r.header) (sym read) ∙ traffic))
      (λ is. absurd (let wrong : Links ≡ Casts = is in cc)) in
      omega (arith, age)

-- ---- a round

module _ (start : WorldState) (places : Places) (outset : WorldState) (ends : Places) (now : WorldState) (kept : IsKept start) (behind : AreBefore (ends_of start.air) places) (r : IsRound places outset ends now) (whole : now.lost ≡ false)
    (g : IsStillWorld start outset) (heard : EachNode HasHeardAll outset) where
  clear_between : r.between.lost ≡ false
  clear_between = goes_whole _ _ r.between _ _ now r.second_part whole

  clear_ticked : r.ticked.lost ≡ false
  clear_ticked = goes_whole _ _ r.ticked _ _ r.between r.first_part clear_between

  still_ticked : IsStillWorld start r.ticked
  still_ticked = ticks_guarded start (ends_of start.air) (IsStillNode start) HasHeardAll (IsUnderPresent start) outset r.ticks r.ticked (tick_still start (ends_of start.air) kept) r.tick_part clear_ticked g heard

  -- the arrivals begin
  begins : Slows start r.ticked r.ticked
  begins = (let still = still_ticked in record { still = still; on = settles_same r.ticked clear_ticked; slow = slow_begins r.ticked (still.on.kept kept) })

  between : Slows start r.ticked r.between
  between =
      arrivals_slow start r.ticked 0 (numbers * places.first) r.ticked (numbers * length r.ticked.air.first) r.arrivals r.between kept still_ticked (omega arith) (place_there places.first (ends_of start.air).first behind.0) (omega arith) r.first_part
      clear_between begins

  -- from a tick to a moment of the arrivals
  passes : (b : ℕ) (t : HasTickedOnce outset r.ticked b) (w : WorldState) → Slows start r.ticked w → Passes start t.after r.ticked w
  passes b t w arrived =
      let clear_after = goes_whole tick_asked (b + 1) t.after numbers t.later r.ticked t.rest clear_ticked in
      let clear = clear_before t.before t.after (Call b note.Tick) [] t.answered t.ticks clear_after in
      let still = tick_guarded start (ends_of start.air) (IsStillNode start) HasHeardAll (IsUnderPresent start) outset r.ticked b (tick_still start (ends_of start.air) kept) t clear g heard in
      record {
        sent_still = still;
        ticked_still = still_ticked;
        ticks_on = ticks_go_on (b + 1) t.after numbers t.later r.ticked t.rest clear_ticked;
        ticks = ticks_slow t.after (b + 1) t.after numbers t.later r.ticked t.rest clear_ticked (slow_begins t.after (still.on.kept kept));
        arrivals = arrived;
      }

  -- a frame that arrives once
  once_young : (b n bearer from end place : ℕ) (t : HasTickedOnce outset r.ticked b) (o : Outgoing) (part later : WorldState) → Slows start r.ticked part → bearer ≤ 1 → o.bearer ≡ bearer → kind_in o.frame ≡ Links → is_there start n ≡ true → IsNumber n
      → place_on bearer (ends_of start.air) ≤ from → end ≤ length (air_on bearer r.ticked.air) → (once : HasArrivedOnce bearer from end part later place n (airborne (contact_at t.before.members b) t.after.members b o))
      → age_of once.before.members (airborne (contact_at t.before.members b) t.after.members b o) n bearer ≤ most_age
  once_young b n bearer from end place t o part later slows on_one on_it kind_is here n_is from_places within once =
      let high = n_is.1 in
      let last = goes_rises (arrival_asked Any bearer) (numbers * place + n + 1) once.after (numbers * end) once.later later once.rest in
      let from_first = goes_rises (arrival_asked Any bearer) (numbers * from) part (numbers * place + n) once.earlier once.before once.front in
      let arrived = arrivals_slow start r.ticked bearer (numbers * from) part (numbers * place + n) once.earlier once.before kept still_ticked on_one (place_there from (place_on bearer (ends_of start.air)) from_places) (omega (arith, last, within)) once.front
      once.clear slows in
      frame_young start t.after r.ticked once.before kept (passes b t once.before arrived) b n bearer place (contact_at t.before.members b) o on_one on_it (omega (arith, from_first, from_places, high)) here n_is once.here kind_is

  -- No frame of a link that leaves at a tick is too old when it arrives: on bearer 0, and on bearer 1.
  pub young_first : (b n place : ℕ) (t : HasTickedOnce outset r.ticked b) (o : Outgoing) → o.bearer ≡ 0 → kind_in o.frame ≡ Links → is_there start n ≡ true → IsNumber n
      → (once : HasArrivedOnce 0 places.first (length r.ticked.air.first) r.ticked r.between place n (airborne (contact_at t.before.members b) t.after.members b o))
      → age_of once.before.members (airborne (contact_at t.before.members b) t.after.members b o) n 0 ≤ most_age
  young_first b n place t o on_it kind_is here n_is once = once_young b n 0 places.first (length r.ticked.air.first) place t o r.ticked r.between begins (omega arith) on_it kind_is here n_is behind.0 (omega arith) once

  pub young_second : (b n place : ℕ) (t : HasTickedOnce outset r.ticked b) (o : Outgoing) → o.bearer ≡ 1 → kind_in o.frame ≡ Links → is_there start n ≡ true → IsNumber n
      → (once : HasArrivedOnce 1 places.second (length r.ticked.air.second) r.between now place n (airborne (contact_at t.before.members b) t.after.members b o))
      → age_of once.before.members (airborne (contact_at t.before.members b) t.after.members b o) n 1 ≤ most_age
  young_second b n place t o on_it kind_is here n_is once = once_young b n 1 places.second (length r.ticked.air.second) place t o r.between now between (omega arith) on_it kind_is here n_is behind.1 (omega arith) once
