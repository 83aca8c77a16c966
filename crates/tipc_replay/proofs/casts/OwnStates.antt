-- Each STATE that a node tells another one in a turn shows the start that its broadcast link has for it, before the turn or after it.
use Rattle.std.specs.Prelude.{All, IfSome, drop, map, nat_le, option_map, slice_get, ◌&&◌}
use Rattle.std.specs.List.{Contains}
use Rattle.std.proofs.Common.{◌≡◌, ◌≢◌, ◌⊎◌, ◌<◌, ◌≤◌, ◌+◌, ◌∙◌, ℕ, Bool, true, false, List, Option, Some, None, length, refl, sym, ap, subst, inl, inr, arith}
use Rattle.std.proofs.lemmas.Bool.{and_parts}
use Rattle.std.proofs.lemmas.Bool.Decides.{nat_tests}
use Rattle.std.proofs.lemmas.List.{drop_at}
use Rattle.std.proofs.lemmas.List.Elements.{All-contains}
use Rattle.tipc_types.specs.Address.{node_word}
use Rattle.tipc_types.specs.Position.{number_of}
use Rattle.tipc_types.specs.declared.link_words.BroadcastState.{BroadcastState}
use Rattle.tipc_types.specs.declared.message_forms.Message.{Message}
use Rattle.tipc_outside.specs.declared.outgoing.Outgoing.{Outgoing}
use Rattle.tipc_header.specs.declared.frames.FrameKind.TheVariants.{Casts, Finds, Links}
use Rattle.tipc_header.specs.declared.packet.Header.{Header}
use Rattle.tipc_header.specs.declared.packet.Header.TheVariants as header
use Rattle.tipc_header.specs.Frames.{envelope, is_of_link, kind_in}
use Rattle.tipc_header.specs.Reading.{fields_at}
use Rattle.tipc_header.specs.Spelling.{Fields, spelling}
use Rattle.tipc_header.proofs.Again.{again}
use Rattle.tipc_header.proofs.FrameWords.{length-envelope}
use Rattle.tipc_journal.specs.Steps.{NodeStep}
use Rattle.tipc_link.specs.Links.{is_traffic}
use Rattle.tipc_recv_window.specs.Receiving.{Receiving}
use Rattle.tipc_broadcast.specs.declared.contacts.Contact.{Contact}
use Rattle.tipc_broadcast.specs.Casting.{Casting, next_start, shown}
use Rattle.tipc_broadcast.specs.Contacts.{contact_with, shown_in, shown_to}
use Rattle.tipc_broadcast.specs.Deeds.{AreLawful, CanSend, CastDeed, after_deeds}
use Rattle.tipc_broadcast.proofs.Apart.{deeds_accepted, deeds_rise}
use Rattle.tipc_casters.specs.Sights.{Told}
use Rattle.tipc_casters.specs.ViewLaws.{TellsTo}
use Rattle.tipc_pair.specs.Facing.{PairEnds, in_contact}
use Rattle.tipc_pair.specs.Messages.{pieces_for}
use Rattle.tipc_pair.specs.PairTurns.{Opening, Reply}
use Rattle.tipc_pair.specs.PairTurns.Opening.{hears, ticks}
use Rattle.tipc_pair.proofs.turns.PairKept.{Both}
use Rattle.tipc_casters.proofs.DeedTurns.{accepted_sent, accepted_with}
use Rattle.tipc_paired.specs.Views.{Frame}
use Rattle.tipc_two_nodes.specs.Sights.{AreSeen, IsSpoken, Sight, pair_seen}
use Rattle.tipc_two_nodes.proofs.sights.Sights.{frames as spoken_frames}
use Rattle.tipc_node.specs.Messages.{bytes_of}
use Rattle.tipc_node.specs.Nodes.{pair_with}
use Rattle.tipc_node.specs.Turns.{IsRouted, IsSent, Shows, is_out_to, is_to}
use Rattle.tipc_node.specs.Turns.IsRouted.{of_broadcast, of_discovery, on_link}
use Rattle.tipc_node.proofs.turns.Discovery.{discovery_kind}
use Rattle.tipc_replay.specs.declared.air.Sent.{Sent}
use Rattle.tipc_replay.specs.Air.{airborne, as_frame, number_of_node}
use Rattle.tipc_replay.specs.Casters.{cast_contact, caster_at, heard_of_caster, state_heard}
use Rattle.tipc_replay.specs.Heard.{broadcast_of, state_in}
use Rattle.tipc_replay.specs.Skies.{air_on}
use Rattle.tipc_replay.specs.Sound.{IsNumber}
use Rattle.tipc_replay.specs.States.{MemberState, boot_at, contact_at}
use Rattle.tipc_replay.specs.Steps.{Stage}
use Rattle.tipc_replay.specs.Views.{sight_at}
use Rattle.tipc_replay.proofs.InLists.{stands_passing}
use Rattle.tipc_replay.proofs.LookUps.{boot_at-is}
use Rattle.tipc_replay.proofs.casts.Beside.{CameOrWas, IsHeardIn, beside_is, came_or_was, contains_passing, heard_parts, listed_each, stands_in, state_kind}
use Rattle.tipc_replay.proofs.casts.CasterLooks.{cast_count_at-is, casting_at-is, contact_at-is, count_present}
use Rattle.tipc_replay.proofs.casts.CasterTurn.{joined_in}
use Rattle.tipc_replay.proofs.casts.CastsArrive.{listed_there}
use Rattle.tipc_replay.proofs.casts.OwnDeeds.{start_stays}
use Rattle.tipc_replay.proofs.casts.SteadyTurns.{SteadyTurn}
use Rattle.tipc_replay.proofs.casts.ToldStates.{TellsNext, tells_after, tells_before, told_numbers, told_out}
use Rattle.tipc_replay.proofs.casts.TurnFacts.{contact_after, is_here, means_at, number_here, own_after, talks, there_after, was_here}
use Rattle.tipc_replay.proofs.frames.Messages.{messages_are}
use Rattle.tipc_replay.proofs.frames.Reaching.{goes_there, sent_at}
use Rattle.tipc_replay.proofs.pairs.Turning.{sight_in}
use Rattle.tipc_replay.proofs.states.InContact.{not_out}
use Rattle.tipc_replay.proofs.states.Shown.{HasPlain, IsSaid, links_only}
use Rattle.tipc_replay.proofs.states.TurnSays.{IsFirst, ShownBy, at_first, at_last, showable, shown_by, states_shown}

-- ---- a frame that is read as a STATE

-- its packet is of a session
state_traffic : (h : Header) (seen : BroadcastState) → broadcast_of h ≡ Some seen → is_traffic h ≡ true
state_traffic (header.State said) seen is = refl
state_traffic (header.Payload m) seen is = absurd (let wrong : None ≡ Some seen = is in let no : ⊥ = cc in no)
state_traffic (header.Bundler m) seen is = absurd (let wrong : None ≡ Some seen = is in let no : ⊥ = cc in no)
state_traffic (header.Reset m) seen is = absurd (let wrong : None ≡ Some seen = is in let no : ⊥ = cc in no)
state_traffic (header.Activate m) seen is = absurd (let wrong : None ≡ Some seen = is in let no : ⊥ = cc in no)
state_traffic (header.Changeover m) seen is = absurd (let wrong : None ≡ Some seen = is in let no : ⊥ = cc in no)
state_traffic (header.NameDistributor m) seen is = absurd (let wrong : None ≡ Some seen = is in let no : ⊥ = cc in no)
state_traffic (header.Fragmenter m) seen is = absurd (let wrong : None ≡ Some seen = is in let no : ⊥ = cc in no)
state_traffic (header.Discovery m) seen is = absurd (let wrong : None ≡ Some seen = is in let no : ⊥ = cc in no)

state_spoken : (own : ℕ) (f : Frame) (seen : BroadcastState) (s : IsSpoken own f) → state_in f.bytes ≡ Some seen → is_traffic s.packet.header ≡ true
state_spoken own f seen s state =
    let packet : drop 16 f.bytes ≡ spelling s.packet = ap (drop 16) s.bytes ∙ drop_at (envelope s.es s.er) (spelling s.packet) 16 (length-envelope s.es s.er) in
    let read : fields_at (drop 16 f.bytes) ≡ s.packet = ap fields_at packet ∙ again s.packet s.fits in
    state_traffic s.packet.header seen (ap (λ (q : Fields). broadcast_of q.header) (sym read) ∙ links_only (kind_in f.bytes) f.bytes seen state)

-- one that a node sent was told in a contact that is over, where the node is in none
state_in_past : (v w : Sight) (k : ℕ) (f : Frame) (seen : BroadcastState) → AreSeen v w → slice_get v.sent k ≡ Some f → state_in f.bytes ≡ Some seen → in_contact (pair_seen v) ≡ false → f.contact < v.node.contact
state_in_past v w k f seen h there state out =
    let s = spoken_frames v w k f h there in
    not_out v w k f s.es s.er s.packet h there s.fits s.bytes (state_spoken v.node.own f seen s state) out

-- what happened first shows the start for the peer
first_start : (v w : Casting) (b : ℕ) (opening : Opening) (seen : BroadcastState) → Shows v w b opening → IsFirst opening seen → seen.start ≡ (shown v (node_word b)).start
first_start v w b (ticks told) seen shows is = ap (λ (k : BroadcastState). k.start) is ∙ ap (λ (k : BroadcastState). k.start) shows.3
first_start v w b (hears bearer es er p by told) seen shows is = ap (λ (k : BroadcastState). k.start) is ∙ ap (λ (k : BroadcastState). k.start) shows
first_start v w b other seen shows is = absurd is

last_start : (v : Casting) (b : ℕ) (reply : Option Reply) (r : Reply) → reply ≡ Some r → IfSome reply (λ (x : Reply). x.shown ≡ shown v (node_word b)) → r.shown ≡ shown v (node_word b)
last_start v b reply r is shows = subst (λ o. IfSome o (λ (x : Reply). x.shown ≡ shown v (node_word b))) is shows

-- and the next number
shown_next : (v : Casting) (w : ℕ) → (shown v w).next ≡ number_of (v.sending.numbered + 1)
shown_next v w = by (contact_with w v.contacts)
  where
    in_it : (start seen : ℕ) (o : Option Receiving) → (shown_in (number_of (v.sending.numbered + 1)) start seen o).next ≡ number_of (v.sending.numbered + 1)
    in_it start seen None = refl
    in_it start seen (Some r) = refl

    by : (o : Option Contact) → (shown_to (number_of (v.sending.numbered + 1)) (number_of (next_start v)) o).next ≡ number_of (v.sending.numbered + 1)
    by None = refl
    by (Some c) = in_it (number_of c.start) c.shown c.window

-- as many had a number then as before the turn, or more, but no more than after it
first_next : (v w : Casting) (b : ℕ) (opening : Opening) (seen : BroadcastState) → v.sending.numbered ≤ w.sending.numbered → Shows v w b opening → IsFirst opening seen
    → (n : ℕ) × (seen.next ≡ number_of (n + 1)) × (v.sending.numbered ≤ n) × (n ≤ w.sending.numbered)
first_next v w b (ticks told) seen rises shows is = (shows.0, ap (λ (k : BroadcastState). k.next) is ∙ ap (λ (k : BroadcastState). k.next) shows.3, shows.1, shows.2)
first_next v w b (hears bearer es er p by told) seen rises shows is =
    (v.sending.numbered, ap (λ (k : BroadcastState). k.next) is ∙ ap (λ (k : BroadcastState). k.next) shows ∙ shown_next v (node_word b), omega arith, rises)
first_next v w b other seen rises shows is = absurd is

-- ---- how many get a number in a turn

-- no more than had one before, or waited, or may be accepted
few_more : (own : ℕ) (ds : List CastDeed) (v : Casting) (cast : Option Message) → IsSent own ds cast → AreLawful ds v → length v.sending.waiting ≤ 246 → (after_deeds ds v).sending.numbered ≤ v.sending.numbered + 246
few_more own ds v None quiet lawful few = (let same = deeds_accepted ds v quiet in omega (arith, same, few))
few_more own ds v (Some msg) sent lawful few =
    let pieces = pieces_for (bytes_of own msg) in
    let may : CanSend v pieces = (subst (λ es. AreLawful es v) sent.1 lawful).0 in
    let room = may.room in
    let short = may.few in
    let count = accepted_sent v pieces ∙ accepted_with v pieces in
    subst (λ es. (after_deeds es v).sending.numbered ≤ v.sending.numbered + 246) (sym sent.1) (omega (arith, count, room, short))

sized_short : (k : ℕ) → (nat_le 16 k && nat_le k 1516) ≡ true → k ≤ 1516
sized_short k is = (let short : nat_le k 1516 ≡ true = (and_parts (nat_le 16 k) (nat_le k 1516) is).1 in grind (arith, nat_tests, short))

module _ {old new : Stage} {n : ℕ} {m m' : MemberState} {bytes : List ℕ} {s : NodeStep} {frames : List Outgoing} {lost : Bool} (h : SteadyTurn old new n m m' bytes s frames lost) where
  -- such a frame of the node is of a link
  state_linked : (o : Outgoing) → Contains frames o → (seen : BroadcastState) → state_in o.frame ≡ Some seen → is_of_link o.frame ≡ true
  state_linked o there seen state = by (All-contains (IsRouted m'.node) frames o h.turn.turn.routed there)
    where
      kind : kind_in o.frame ≡ Links
      kind = state_kind o.frame seen state

      number : IsNumber n
      number = number_here h

      by : IsRouted m'.node o → is_of_link o.frame ≡ true
      by (on_link r) = r.link
      by (of_discovery r) =
          let low = number.1 in
          let own = own_after h in
          let finds : kind_in o.frame ≡ Finds = ap kind_in r.frame_is ∙ discovery_kind m'.node.own m'.node.boot r.form (omega (arith, low, own)) in
          absurd (let wrong : Finds ≡ Links = sym finds ∙ kind in let no : ⊥ = cc in no)
      by (of_broadcast r) = absurd (let wrong : Casts ≡ Links = sym r.kind ∙ kind in let no : ⊥ = cc in no)

  plain_both : (b : ℕ) → Both HasPlain (pair_with m.node b)
  plain_both b = (let q = h.plain n m h.turns.was b in record { two = q.two; near = q.near; far = q.far })

  -- it shows what was shown of broadcast as something happened at the pair, or in the answer
  pub said_at : (b : ℕ) → IsNumber b → b ≢ n → (o : Outgoing) → Contains frames o → is_to b o.to ≡ true → (seen : BroadcastState) → state_in o.frame ≡ Some seen
      → (x : ShownBy (h.turn.turn.turns b).opening (h.turn.turn.turns b).reply (in_contact (pair_with m'.node b)))
      × (shown_by (h.turn.turn.turns b).opening (h.turn.turn.turns b).reply (in_contact (pair_with m'.node b)) x ≡ seen)
  said_at b number apart o there to_it seen state =
      let p = h.turn.turn.turns b in
      let x = pair_with m.node b in
      let y = pair_with m'.node b in
      let up = in_contact y in
      let out : is_out_to b o ≡ true = ap (λ t. t && is_of_link o.frame) to_it ∙ state_linked o there seen state in
      let fit = (talks h b number apart).1 o (stands_passing (is_out_to b) frames o (stands_in frames o there) out) in
      let own : Contains p.own_frames o = subst (λ os. Contains os o) p.frames_are (contains_passing (is_out_to b) frames o there out) in
      let said = (states_shown x y p.opening (map (bytes_of m.node.own) p.messages) p.reply p.own_frames m.node.own (plain_both b) (messages_are m.node.own p.messages p.sendable) p.shows p.shows_last p.turn).1 in
      All-contains (IsSaid (ShownBy p.opening p.reply up) (shown_by p.opening p.reply up) (showable p.opening p.reply up p.shows p.shows_last)) p.own_frames o said own seen (sized_short (length o.frame) fit.1) state

  -- none stands in the air under the numbers that the node has out of contact
  none_out : (b : ℕ) → IsNumber b → b ≢ n → (bearer place : ℕ) (o : Outgoing) → slice_get (air_on bearer new.air) place ≡ Some (airborne (contact_at old.members n) new.members n o) → Contains frames o → is_to b o.to ≡ true
      → (seen : BroadcastState) → state_in o.frame ≡ Some seen → in_contact (pair_with m.node b) ≡ false → in_contact (pair_with m'.node b) ≡ false → ⊥
  unfolding sight_at
  none_out b number apart bearer place o there left to_it seen state was is =
      let f = airborne (contact_at old.members n) new.members n o in
      let v = sight_in new n b in
      let w = sight_in old b n in
      let sent = sent_at new.air n b bearer place f there (goes_there n b f refl to_it (state_linked o left seen state)) in
      let low = state_in_past v w sent.1.0 (as_frame bearer f) seen (talks h b number apart).0 sent.1.1 state (there_after h b ∙ is) in
      let beside : f.contact.0 ≡ (pair_with m'.node b).contact = ap (λ (c : ℕ × ℕ). c.0) (beside_is old new n b m m' o (was_here h) (is_here h) to_it ∙ told_out (pair_with m.node b) (pair_with m'.node b) was) in
      let own = contact_after h b in
      omega (arith, low, beside, own)

  -- ---- what it tells the member of that address word

  pub joined_before : (word : ℕ) → (caster_at old.members old.air n).joined word ≡ joined_in (pair_with m.node (number_of_node word))
  unfolding caster_at
  joined_before word = ap (option_map cast_contact) (contact_at-is old.members n (number_of_node word) m (was_here h))

  pub joined_after : (word : ℕ) → (caster_at new.members new.air n).joined word ≡ joined_in (pair_with m'.node (number_of_node word))
  unfolding caster_at
  joined_after word = ap (option_map cast_contact) (contact_at-is new.members n (number_of_node word) m' (is_here h))

  pub casting_before : (caster_at old.members old.air n).casting ≡ m.node.casting
  unfolding caster_at
  casting_before = casting_at-is old.members n m (was_here h)

  pub casting_after : (caster_at new.members new.air n).casting ≡ m'.node.casting
  unfolding caster_at
  casting_after = casting_at-is new.members n m' (is_here h)

  -- it was there before, or tells the start before the turn or after it
  abbrev pub IsToldSo : ℕ → Told → Type 0
  IsToldSo word t = Contains (heard_of_caster old.air n (number_of_node word)) t ⊎ (TellsTo (caster_at old.members old.air n) word t ⊎ TellsTo (caster_at new.members new.air n) word t)

  told_in_turn : (word : ℕ) → IsNumber (number_of_node word) → number_of_node word ≢ n → node_word (number_of_node word) ≡ word → length m.node.casting.sending.waiting ≤ 246 → (bearer place : ℕ) (o : Outgoing) → Contains frames o
      → slice_get (air_on bearer new.air) place ≡ Some (airborne (contact_at old.members n) new.members n o) → (t : Told) → IsHeardIn (number_of_node word) (airborne (contact_at old.members n) new.members n o) t
      → TellsTo (caster_at old.members old.air n) word t ⊎ TellsTo (caster_at new.members new.air n) word t
  told_in_turn word number apart word_is few bearer place o left there t heard = by said.0 said.1
    where
      b : ℕ
      b = number_of_node word

      x : PairEnds
      x = pair_with m.node b

      y : PairEnds
      y = pair_with m'.node b

      said : (k : ShownBy (h.turn.turn.turns b).opening (h.turn.turn.turns b).reply (in_contact y)) × (shown_by (h.turn.turn.turns b).opening (h.turn.turn.turns b).reply (in_contact y) k ≡ heard.seen)
      said = said_at b number apart o left heard.to_is heard.seen heard.state

      contact : t.contact ≡ cast_contact (told_numbers x y)
      contact = ap (λ (k : Told). k.contact) heard.told_is ∙ ap cast_contact (beside_is old new n b m m' o (was_here h) (is_here h) heard.to_is)

      seen : t.seen ≡ heard.seen
      seen = ap (λ (k : Told). k.seen) heard.told_is

      start_before : (shown m.node.casting (node_word b)).start ≡ (shown (caster_at old.members old.air n).casting word).start
      start_before = ap (λ w. (shown m.node.casting w).start) word_is ∙ ap (λ (k : Casting). (shown k word).start) (sym casting_before)

      start_after : (shown m'.node.casting (node_word b)).start ≡ (shown (caster_at new.members new.air n).casting word).start
      start_after = ap (λ w. (shown m'.node.casting w).start) word_is ∙ ap (λ (k : Casting). (shown k word).start) (sym casting_after)

      stamp : t.stamp ≡ m'.node.casting.sending.numbered
      stamp = ap (λ (k : Told). k.stamp) heard.told_is ∙ cast_count_at-is new.members n (boot_at new.members n) m' (is_here h) ∙ count_present m' (boot_at new.members n) (boot_at-is new.members n m' (is_here h))

      more : m'.node.casting.sending.numbered ≤ m.node.casting.sending.numbered + 246
      more = subst (λ (k : Casting). k.sending.numbered ≤ m.node.casting.sending.numbered + 246) (sym h.turn.turn.casting) (few_more m.node.own h.turn.turn.deeds m.node.casting h.turn.turn.cast h.turn.turn.sent h.turn.turn.lawful few)

      -- the next number that was told in the turn, where so many had one then
      next_told : (k : ℕ) → t.seen.next ≡ number_of (k + 1) → m.node.casting.sending.numbered ≤ k → k ≤ m'.node.casting.sending.numbered
          → TellsNext (caster_at old.members old.air n) t × TellsNext (caster_at new.members new.air n) t
      next_told k next low high =
          let was = ap (λ (v : Casting). v.sending.numbered) casting_before in
          let is = ap (λ (v : Casting). v.sending.numbered) casting_after in (
            record { numbered = k; next = next; by_then = omega (arith, stamp, high); stamped = omega (arith, stamp, more, low); near = omega (arith, stamp, more, was) },
            record { numbered = k; next = next; by_then = omega (arith, stamp, high); stamped = omega (arith, stamp, more, low); near = omega (arith, stamp, is) },
          )

      before : in_contact x ≡ true → t.seen.start ≡ (shown m.node.casting (node_word b)).start → TellsNext (caster_at old.members old.air n) t → TellsTo (caster_at old.members old.air n) word t
      before up start told = tells_before (caster_at old.members old.air n) word t x y (joined_before word) up contact (start ∙ start_before) told

      after : in_contact y ≡ true → t.seen.start ≡ (shown m'.node.casting (node_word b)).start → TellsNext (caster_at new.members new.air n) t → TellsTo (caster_at new.members new.air n) word t
      after up start told = tells_after (caster_at new.members new.air n) word t x y (means_at h b).story (means_at h b).means (joined_after word) up contact (start ∙ start_after) told

      first : t.seen.start ≡ (shown m.node.casting (node_word b)).start → TellsNext (caster_at old.members old.air n) t × TellsNext (caster_at new.members new.air n) t → (c d : Bool) → in_contact x ≡ c → in_contact y ≡ d
          → TellsTo (caster_at old.members old.air n) word t ⊎ TellsTo (caster_at new.members new.air n) word t
      first start told true d up is = inl (before up start told.0)
      first start told false true out up = inr (after up (start ∙ sym (start_stays h b out up)) told.1)
      first start told false false out is = absurd (none_out b number apart bearer place o there left heard.to_is heard.seen heard.state out is)

      rises : m.node.casting.sending.numbered ≤ m'.node.casting.sending.numbered
      rises = subst (λ (k : Casting). m.node.casting.sending.numbered ≤ k.sending.numbered) (sym h.turn.turn.casting) (deeds_rise h.turn.turn.deeds m.node.casting)

      by : (k : ShownBy (h.turn.turn.turns b).opening (h.turn.turn.turns b).reply (in_contact y)) → shown_by (h.turn.turn.turns b).opening (h.turn.turn.turns b).reply (in_contact y) k ≡ heard.seen
          → TellsTo (caster_at old.members old.air n) word t ⊎ TellsTo (caster_at new.members new.air n) word t
      by (at_first told is) same =
          let shows = (h.turn.turn.casts b).shows in
          let said_so : t.seen ≡ told = seen ∙ sym same in
          let start : t.seen.start ≡ (shown m.node.casting (node_word b)).start = ap (λ (k : BroadcastState). k.start) said_so ∙ first_start m.node.casting m'.node.casting b (h.turn.turn.turns b).opening told shows is in
          let next = first_next m.node.casting m'.node.casting b (h.turn.turn.turns b).opening told rises shows is in
          first start (next_told next.0 (ap (λ (k : BroadcastState). k.next) said_so ∙ next.1) next.2 next.3) (in_contact x) (in_contact y) refl refl
      by (at_last r is up) same =
          let shows = seen ∙ sym same ∙ last_start m'.node.casting b (h.turn.turn.turns b).reply r is (h.turn.turn.casts b).shows_last in
          let numbered = m'.node.casting.sending.numbered in
          let told = next_told numbered (ap (λ (k : BroadcastState). k.next) shows ∙ shown_next m'.node.casting (node_word b)) rises (omega arith) in
          inr (after up (ap (λ (k : BroadcastState). k.start) shows) told.1)

  pub told_so : (word : ℕ) → IsNumber (number_of_node word) → number_of_node word ≢ n → node_word (number_of_node word) ≡ word → length m.node.casting.sending.waiting ≤ 246 → All (IsToldSo word) (heard_of_caster new.air n (number_of_node word))
  unfolding heard_of_caster
  told_so word number apart word_is few = listed_each (λ bearer. state_heard n b) new.air (IsToldSo word) each
    where
      b : ℕ
      b = number_of_node word

      met : ℕ → Option (ℕ × ℕ)
      met = contact_at old.members n

      each : (bearer k : ℕ) (f : Sent) (t : Told) → slice_get (air_on bearer new.air) k ≡ Some f → state_heard n b f ≡ Some t → IsToldSo word t
      each bearer k f t there is = by (came_or_was old.air new.air met new.members n frames lost h.turns.leaves bearer k f there)
        where
          by : CameOrWas old.air met new.members n frames f → IsToldSo word t
          by (inl (on, place, was)) = inl (listed_there (λ bearer. state_heard n b) old.air on place f t was is)
          by (inr (o, left, same)) =
              inr (told_in_turn word number apart word_is few bearer k o left (there ∙ ap Some same) t (heard_parts n b (airborne met new.members n o) t (ap (state_heard n b) (sym same) ∙ is)))
