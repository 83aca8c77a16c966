-- What each round does for a packet that was numbered in a session in which a link is up: it is shown, asked for, sent
-- again, taken and released.
use Rattle.std.specs.Prelude.{◌==◌, ◌&&◌, ◌-◌, Bool, false, if◌then◌else◌, is_some, map, slice_get}
use Rattle.std.specs.List.{Contains}
use Rattle.std.proofs.Common.{◌≡◌, ◌≢◌, ◌≤◌, ◌<◌, ◌+◌, ◌⊎◌, ◌∙◌, ◌^◌, ℕ, true, List, [], Some, None, eq-eqb, get_or, length, slice_index_or, inl, inr, refl, sym, ap, subst, arith}
use Rattle.std.proofs.lemmas.Bool.{and_parts, cases_lt}
use Rattle.std.proofs.lemmas.Bool.Decides.{nat_tests}
use Rattle.std.proofs.lemmas.List.{drop_at}
use Rattle.std.proofs.lemmas.Option.{slice_get-get_or, slice_get_within}
use Rattle.tipc_types.specs.Address.{node_word}
use Rattle.tipc_types.specs.Position.{number_of}
use Rattle.tipc_types.specs.declared.identity.Addr.{Addr}
use Rattle.tipc_types.specs.declared.identity.To.{To}
use Rattle.tipc_types.specs.declared.identity.To.TheVariants as to
use Rattle.tipc_types.specs.declared.link_words.BroadcastState.{BroadcastState}
use Rattle.tipc_types.specs.declared.packet_lists.Kept.{Kept}
use Rattle.tipc_types.proofs.PositionLaws.{number_of-below}
use Rattle.tipc_header.specs.declared.frames.FrameKind.TheVariants.{Casts, Links}
use Rattle.tipc_header.specs.declared.packet.Header.{Header}
use Rattle.tipc_header.specs.declared.packet.Header.TheVariants as header
use Rattle.tipc_header.specs.Grammar.{Fits}
use Rattle.tipc_header.specs.Frames.{envelope, first_of, frame_of, is_epoch, is_of_link, kind_in, kind_of, sent_as, stamped}
use Rattle.tipc_header.specs.Reading.{fields_at}
use Rattle.tipc_header.specs.Spelling.{Fields, spelling}
use Rattle.tipc_header.proofs.Again.{again}
use Rattle.tipc_header.proofs.FrameWords.{length-envelope, stamped-spelling}
use Rattle.tipc_send_window.specs.Sending.{acked_of}
use Rattle.tipc_link.specs.Links.{is_traffic}
use Rattle.tipc_link.specs.Sessions.{Carries, Content, Nothing, SessionEnd, Shows, after_acknowledgement, again_frames, as_waiting, content_by, content_of, gap, heard, packet_frame, repeat_frames, repeated, state_fields}
use Rattle.tipc_paired.specs.Paired.{IsNode, IsPacket}
use Rattle.tipc_paired.proofs.wires.Frames.{es_of-frame}
use Rattle.tipc_paired.proofs.wires.Wires.{map_at}
use Rattle.tipc_repair.specs.Laws.{SendsTo, repeated_at}
use Rattle.tipc_repair.proofs.Mending.{earlier_gaps_are_repeated, earlier_states_release, earlier_states_show, gaps_are_told, repeats_are_taken}
use Rattle.tipc_two_nodes.proofs.sights.Sights.{ends}
use Rattle.tipc_node.specs.Turns.{IsFrom, is_to}
use Rattle.tipc_settling.specs.Goings.{StaysOn}
use Rattle.tipc_settling.specs.Repairs.{session_with}
use Rattle.tipc_replay.specs.Air.{airborne}
use Rattle.tipc_replay.specs.Due.{is_for}
use Rattle.tipc_replay.specs.Skies.{air_on}
use Rattle.tipc_replay.specs.Sound.{IsNumber}
use Rattle.tipc_replay.specs.States.{MemberState, contact_at}
use Rattle.tipc_replay.specs.Views.{sight_at}
use Rattle.tipc_replay.proofs.LookUps.{boot_at-is, member_at-is}
use Rattle.tipc_replay.proofs.frames.Reaching.{goes_there}
use Rattle.tipc_replay.proofs.journals.Stepping.{get_prefix}
use Rattle.tipc_world.specs.declared.places.Places.{Places}
use Rattle.tipc_world.specs.Directions.{IsAwaited, IsReleased, WasTaken, IsOnItsWay, StandsIn}
use Rattle.tipc_world.specs.CalmWorlds.{IsCalmWorld}
use Rattle.tipc_world.specs.Ends.{ends_of}
use Rattle.tipc_world.specs.RoundParts.{IsKept, IsRound}
use Rattle.tipc_world.specs.Rows.{IsKnown}
use Rattle.tipc_world.specs.States.{WorldState}
use Rattle.tipc_world.specs.StillWorlds.{footing_at}
use Rattle.tipc_world.proofs.rounds.Going.{Going, session_went}
use Rattle.tipc_world.proofs.rounds.Pacing.{same_session}
use Rattle.tipc_world.proofs.rounds.TickStates.{CalmRound, IsHeardOnce, StateHeard, clear_ticked, found_here, frame_heard, on_places, round_going, slice_there, state_heard}
use Rattle.tipc_world.proofs.rounds.UpLinks.{UpSide, UpSides, both_up, the_member, up_sides}
use Rattle.tipc_world.proofs.rounds.Walking.{ticks_go_on}

-- ---- what stands goes on

-- what a session keeps as it goes on
abbrev pub GoesWith : (SessionEnd → Type 0) → Type 0
GoesWith P = (s t : SessionEnd) → StaysOn s t → P s → P t

stands_on : (start base w : WorldState) (P : SessionEnd → Type 0) (a b bearer : ℕ) → GoesWith P → IsKept start → Going start base w → IsCalmWorld start base → IsNumber b → a ≢ b → bearer ≤ 1 → StandsIn base P a b bearer → StandsIn w P a b bearer
stands_on start base w P a b bearer keeps kept r g number apart on_one h =
    let m = the_member (slice_index_or w.members a None) (r.on.nodes a ∙ ap (λ o. is_some o) h.1) in
    let went = session_went start base w a b bearer h.0 m.0 h.2.0 kept g r h.1 m.1 number apart on_one h.2.1 in
    (m.0, m.1, (went.0, went.1, keeps h.2.0 went.0 went.2 h.2.2))

pub due_on : (position : ℕ) → GoesWith (IsAwaited position)
due_on position s t stays due =
    let more = stays.goes.numbered in
    let acked = stays.goes.acked in
    let numbered = due.numbered in
    let first = due.first in
    record { numbered = omega (arith, more, numbered); first = omega (arith, acked, first) }

pub released_on : (position : ℕ) → GoesWith (IsReleased position)
released_on position s t stays h = (let acked = stays.goes.acked in omega (arith, acked, h))

taken_on : (position : ℕ) → GoesWith (WasTaken position)
taken_on position s t stays h = (let taken = stays.goes.taken in omega (arith, taken, h))

-- taken, or shown
known_on : (position : ℕ) → GoesWith (IsKnown position)
known_on position s t stays (inl taken) = inl (taken_on position s t stays taken)
known_on position s t stays (inr shown) = inr (let more = stays.goes.shown in omega (arith, more, shown))

-- ---- a packet that is sent again

-- it is numbered, so of a session
carries_traffic : (h : Header) (sequence number : ℕ) (bytes packet : List ℕ) → content_by h sequence bytes ≡ Carries number packet → is_traffic h ≡ true
carries_traffic (header.Reset m) sequence number bytes packet is = absurd (let wrong : Nothing ≡ Carries number packet = is in cc)
carries_traffic (header.Activate m) sequence number bytes packet is = absurd (let wrong : Nothing ≡ Carries number packet = is in cc)
carries_traffic (header.Discovery m) sequence number bytes packet is = absurd (let wrong : Nothing ≡ Carries number packet = is in cc)
carries_traffic other sequence number bytes packet is = refl

numbered_traffic : (p : Fields) (number : ℕ) (packet : List ℕ) → content_of p ≡ Carries number packet → is_traffic p.header ≡ true
unfolding content_of
numbered_traffic p number packet is = carries_traffic p.header p.sequence number (spelling (as_waiting p)) packet is

-- under an epoch it is a link packet
traffic_kind : (first : ℕ) (h : Header) → is_epoch first ≡ true → is_traffic h ≡ true → kind_of first h ≡ Links
traffic_kind first (header.Discovery m) epoch traffic = absurd (let wrong : false ≡ true = traffic in cc)
traffic_kind first (header.Payload m) epoch traffic = ap (λ t. if t then Links else Casts) epoch
traffic_kind first (header.Fragmenter m) epoch traffic = ap (λ t. if t then Links else Casts) epoch
traffic_kind first other epoch traffic = refl

link_kind : (es er : ℕ) (p : Fields) → es < 2 ^ 64 → er < 2 ^ 64 → Fits p → is_epoch es ≡ true → is_traffic p.header ≡ true → kind_in (frame_of es er (spelling p)) ≡ Links
unfolding kind_in
link_kind es er p es_fits er_fits fits epoch traffic =
    let first : first_of (frame_of es er (spelling p)) ≡ es = es_of-frame es er (spelling p) es_fits er_fits in
    ap (λ xs. kind_of (first_of (frame_of es er (spelling p))) (fields_at xs).header) (drop_at (envelope es er) (spelling p) 16 (length-envelope es er))
    ∙ (ap (λ (q : Fields). kind_of (first_of (frame_of es er (spelling p))) q.header) (again p fits) ∙ traffic_kind (first_of (frame_of es er (spelling p))) p.header (ap is_epoch first ∙ epoch) traffic)

-- a node's boot, as its sight has it
boot_there : (w : WorldState) (a b : ℕ) (m : MemberState) → slice_index_or w.members a None ≡ Some m → (sight_at w.members w.air a b).node.boot ≡ m.node.boot
unfolding sight_at
boot_there w a b m there = boot_at-is w.members a m (member_at-is w.members a m there)

-- the frame of a packet that was numbered, under its number
record BringsAgain (start : WorldState) (a b bearer : ℕ) (s : SessionEnd) (position : ℕ) (bytes : List ℕ) : Type 0 where
  packet : Fields
  from : IsFrom a (packet_frame s (number_of position) bytes).frame ((footing_at start a b).epoch bearer) ((footing_at start b a).epoch bearer) packet
  kind : kind_in (packet_frame s (number_of position) bytes).frame ≡ Links
  link : is_of_link (packet_frame s (number_of position) bytes).frame ≡ true
  carries : content_of packet ≡ Carries (number_of position) bytes

brings_again : (start w : WorldState) (a b bearer : ℕ) (m : MemberState) (position : ℕ) (bytes : List ℕ) → IsKept w → IsNumber a → IsNumber b → a ≢ b → slice_index_or w.members a None ≡ Some m → (u : UpSide start w a b bearer m) → IsPacket (node_word a) bytes
    → BringsAgain start a b bearer u.session position bytes
brings_again start w a b bearer m position bytes kept a_is b_is apart there u pk =
    let v = sight_at w.members w.air a b in
    let o = sight_at w.members w.air b a in
    let s = u.session in
    let h = kept.nodes.sound.pairs a b a_is b_is apart in
    let node : IsNode v.node = subst IsNode h.seen_here.node h.talking.twins.paired.here.node in
    let end = ends v o bearer u.link.end h u.end_is in
    let own = u.own in
    let boot = end.boot in
    let low = node.boot in
    let high = (end.peer_fits ((footing_at start b a).epoch bearer) u.peer).0 in
    let es = (footing_at start a b).epoch bearer in
    let er = (footing_at start b a).epoch bearer in
    let es_fits : es < 2 ^ 64 = omega (arith, own, boot, low) in
    let begun = kept.nodes.aged.begun a m there in
    let present : v.node.boot ≡ m.node.boot = boot_there w a b m there in
    let epoch : is_epoch es ≡ true = (let some : 2 ^ 32 ≤ es = omega (arith, own, boot, begun, present) in grind (arith, nat_tests, some)) in
    let p = sent_as (number_of s.taken) (number_of position) (node_word a) pk.packet in
    let to_32 = a_is.1 in
    let fits : Fits p = pk.fits (number_of s.taken) (number_of position) (number_of-below s.taken) (number_of-below position) (omega (arith, to_32)) in
    let carried = pk.carried (number_of s.taken) (number_of position) in
    let spelled : stamped (number_of s.taken) (number_of position) s.own bytes ≡ spelling p =
    ap (λ k. stamped (number_of s.taken) (number_of position) k bytes) u.own_word ∙ (ap (stamped (number_of s.taken) (number_of position) (node_word a)) pk.spelled ∙ stamped-spelling pk.packet (number_of s.taken) (number_of position) (node_word a)) in
    let frame : frame_of s.epoch s.peer_epoch (stamped (number_of s.taken) (number_of position) s.own bytes) ≡ frame_of es er (spelling p) =
    (λ i. frame_of (u.epoch i) (u.peer_epoch i) (spelled i)) in
    let kind = link_kind es er p es_fits high fits epoch (numbered_traffic p (number_of position) bytes carried) in
    record {
      packet = p;
      from = record { es_fits = es_fits; er_fits = high; fits = fits; frame_is = frame; previous = refl };
      kind = ap kind_in frame ∙ kind;
      link = ap is_of_link frame ∙ (ap is_epoch (es_of-frame es er (spelling p) es_fits high) ∙ epoch);
      carries = carried;
    }

none_contained : {A : Type 0} (x : A) → Contains [] x → ⊥
none_contained x (i, within, is) = omega (arith, within)

-- one for a node is for it
goes_for : (from : Addr) (t : To) (b : ℕ) → is_to b t ≡ true → is_for from t b ≡ true
goes_for from (to.Node address) b is = is
goes_for from to.All b is = absurd (let wrong : false ≡ true = is in cc)

-- a place that isn't before the ends of an air
behind_place : {x y z : ℕ} → x ≡ y → y ≤ z → x ≤ z
behind_place same low = omega (arith, same, low)

-- what a list contains, its image contains
contains_map : {A B : Type 0} (f : A → B) (xs : List A) (x : A) → Contains xs x → Contains (map f xs) (f x)
contains_map f xs x (i, within, is) =
    let at = map_at f xs i x (slice_there xs i x within is) in
    let inside = slice_get_within (map f xs) i (f x) at in
    let both : Some (get_or (map f xs) i (f x)) ≡ Some (f x) = sym (slice_get-get_or (map f xs) i (f x) inside) ∙ at in
    (i, inside, cc)

-- what is asked for leaves
again_has : (e : SessionEnd) (acknowledgement : ℕ) (content : Content) (k : Kept) → Contains (repeated_at e acknowledgement content) k → Contains (again_frames e acknowledgement content) (packet_frame (after_acknowledgement e acknowledgement) k.number k.packet)
unfolding repeat_frames
again_has e acknowledgement (Shows next gap probe) k there = contains_map (λ (j : Kept). packet_frame (after_acknowledgement e acknowledgement) j.number j.packet) (repeated (after_acknowledgement e acknowledgement) acknowledgement gap) k there
again_has e acknowledgement (Carries number packet) k there = absurd (none_contained k there)
again_has e acknowledgement Nothing k there = absurd (none_contained k there)

-- through a round
module _ {start : WorldState} {places : Places} {outset : WorldState} {ends : Places} {now : WorldState} {r : IsRound places outset ends now} (k : CalmRound start places outset ends now r) {a b bearer : ℕ} (a_is : IsNumber a) (b_is : IsNumber b) (apart : a ≢ b) (on_one : bearer ≤ 1)
    (up : (footing_at start a b).up bearer ≡ true) where
  pub through : (P : SessionEnd → Type 0) → GoesWith P → StandsIn outset P a b bearer → StandsIn now P a b bearer
  through P keeps h = stands_on start outset now P a b bearer keeps k.kept (round_going start places outset ends now r k) k.calm b_is apart on_one h

  back : b ≢ a
  back same = apart (sym same)

  back_up : (footing_at start b a).up bearer ≡ true
  back_up = (both_up start a b bearer k.kept k.poised apart on_one up).0

  through_back : (P : SessionEnd → Type 0) → GoesWith P → StandsIn outset P b a bearer → StandsIn now P b a bearer
  through_back P keeps h = stands_on start outset now P b a bearer keeps k.kept (round_going start places outset ends now r k) k.calm a_is back on_one h

  -- the two ends when the round begins, where something stands at the one
  sides_of : (m : MemberState) → slice_index_or outset.members a None ≡ Some m → UpSides start outset a b bearer m
  sides_of m there = up_sides start outset a b bearer m k.kept k.poised k.calm b_is apart on_one there up

  sides_back : (m : MemberState) → slice_index_or outset.members b None ≡ Some m → UpSides start outset b a bearer m
  sides_back m there = up_sides start outset b a bearer m k.kept k.poised k.calm a_is back on_one there back_up

  -- what is so after something was heard is so at the end
  at_the_end : (P : SessionEnd → Type 0) (c d : ℕ) (p : Fields) → GoesWith P → IsNumber d → c ≢ d → (h : IsHeardOnce start outset r.ticked now d c bearer p) → P h.hears.then → StandsIn now P c d bearer
  at_the_end P c d p keeps number other h so =
      stands_on start h.after now P c d bearer keeps k.kept h.later h.calm number other on_one (h.new, h.new_is, (h.hears.then, h.hears.then_is, so))

  -- the session of the node that told, when it is heard
  told_went : (m : MemberState) (s : SessionEnd) (p : Fields) → slice_index_or outset.members a None ≡ Some m → session_with m.node b bearer ≡ Some s → (h : IsHeardOnce start outset r.ticked now a b bearer p) → StaysOn s h.sides.there.session
  told_went m s p there is h =
      let went = session_went start outset h.before a b bearer m h.sides.peer s k.kept k.calm h.since there h.sides.peer_is b_is apart on_one is in
      subst (StaysOn s) (same_session (session_with h.sides.peer.node b bearer) went.0 h.sides.there.session went.1 h.sides.there.in_session) went.2

  -- and that of the node that hears
  hearer_went : (m : MemberState) (s : SessionEnd) (p : Fields) → slice_index_or outset.members a None ≡ Some m → session_with m.node b bearer ≡ Some s → (h : IsHeardOnce start outset r.ticked now b a bearer p) → StaysOn s h.sides.here.session
  hearer_went m s p there is h =
      let went = session_went start outset h.before a b bearer m h.member s k.kept k.calm h.since there h.member_is b_is apart on_one is in
      subst (StaysOn s) (same_session (session_with h.member.node b bearer) went.0 h.sides.here.session went.1 h.sides.here.in_session) went.2

  -- ---- the first round: it is shown

  pub row_shown : (position : ℕ) → StandsIn outset (IsAwaited position) a b bearer → StandsIn now (IsKnown position) b a bearer
  row_shown position (m, there, (s, is, due)) =
      let sides = sides_of m there in
      let u = sides.here in
      let one : u.session ≡ s = same_session (session_with m.node b bearer) u.session s u.in_session is in
      let told = state_heard start places outset ends now r a b bearer m k a_is b_is apart on_one there u up in
      let p = state_fields u.session told.seen told.probe in
      let h = told.heard in
      let went = told_went m u.session p there u.in_session h in
      let sends = h.sides.receives in
      let hears = h.hears.hears in
      let stays = h.hears.stays in
      let numbered : position ≤ u.session.sending.numbered = subst (λ (q : SessionEnd). position ≤ q.sending.numbered) (sym one) due.numbered in
      at_the_end (IsKnown position) b a p (known_on position) a_is back h (elim (cases_lt u.session.sending.numbered h.sides.here.session.taken) [
        | inl past ↦ inl (let taken = stays.goes.taken in omega (arith, numbered, past, taken))
        | inr within ↦
            let shows = earlier_states_show u.session h.sides.there.session h.sides.here.session sends.line told.seen told.probe h.by sends.sends went.goes within in
            let more = hears.shown in
            inr (omega (arith, numbered, shows, more))
      ])

  -- ---- the last round: it is released

  pub row_released : (position : ℕ) → StandsIn outset (WasTaken position) b a bearer → StandsIn now (IsReleased position) a b bearer
  row_released position (m, there, (t, is, taken)) =
      let sides = sides_back m there in
      let u = sides.here in
      let one : u.session ≡ t = same_session (session_with m.node a bearer) u.session t u.in_session is in
      let told = state_heard start places outset ends now r b a bearer m k b_is a_is back on_one there u back_up in
      let p = state_fields u.session told.seen told.probe in
      let h = told.heard in
      let took : position ≤ u.session.taken = subst (λ (q : SessionEnd). position ≤ q.taken) (sym one) taken in
      at_the_end (IsReleased position) a b p (released_on position) b_is apart h (releases u.session m told.seen told.probe there u.in_session h position took)
    where
      releases : (s : SessionEnd) (m : MemberState) (seen : BroadcastState) (probe : Bool) → slice_index_or outset.members b None ≡ Some m → session_with m.node a bearer ≡ Some s → (h : IsHeardOnce start outset r.ticked now b a bearer (state_fields s seen probe)) → (position : ℕ) → position ≤ s.taken
          → position ≤ acked_of h.hears.then.sending
      releases s m seen probe there is h position took =
          let went = session_went start outset h.before b a bearer m h.sides.peer s k.kept k.calm h.since there h.sides.peer_is a_is back on_one is in
          let goes : StaysOn s h.sides.there.session = subst (StaysOn s) (same_session (session_with h.sides.peer.node a bearer) went.0 h.sides.there.session went.1 h.sides.there.in_session) went.2 in
          let sends = h.sides.sends in
          let released = earlier_states_release h.sides.here.session s h.sides.there.session sends.line seen probe h.by sends.sends goes.goes in
          let acked = h.hears.hears.acked in
          omega (arith, took, released, acked)

  -- ---- the second round: it is released, or taken, or on its way

  -- the packet at a position of a line that has it
  packet_at : (line : List (List ℕ)) (position : ℕ) → 1 ≤ position → position ≤ length line → (bytes : List ℕ) × (slice_get line (position - 1) ≡ Some bytes)
  packet_at line position some within = (get_or line (position - 1) [], slice_get-get_or line (position - 1) [] (omega (arith, some, within)))

  -- the STATE of the receiver asks for the packet, which the sender sends again
  asked : (position : ℕ) (s : SessionEnd) (mb : MemberState) (t : SessionEnd) (seen : BroadcastState) (probe : Bool) → slice_index_or outset.members b None ≡ Some mb → session_with mb.node a bearer ≡ Some t → (h : IsHeardOnce start outset r.ticked now b a bearer (state_fields t seen probe))
      → StaysOn s h.sides.here.session → IsAwaited position s → t.taken + 1 ≡ position → 1 ≤ gap t → gap t ≤ 50 → StandsIn now (IsReleased position) a b bearer ⊎ IsOnItsWay start (ends_of r.ticked.air) now a b bearer position
  asked position s mb t seen probe there is h went due wanted some most =
      let told = session_went start outset h.before b a bearer mb h.sides.peer t k.kept k.calm h.since there h.sides.peer_is a_is back on_one is in
      let goes : StaysOn t h.sides.there.session = subst (StaysOn t) (same_session (session_with h.sides.peer.node a bearer) told.0 h.sides.there.session told.1 h.sides.there.in_session) told.2 in
      let now_due = due_on position s h.sides.here.session went due in
      let sends = h.sides.sends in
      elim (cases_lt (acked_of h.sides.here.session.sending) position) [
        | inr released ↦ inl (at_the_end (IsReleased position) a b (state_fields t seen probe) (released_on position) b_is apart h (let acked = h.hears.stays.goes.acked in omega (arith, released, acked)))
        | inl waits ↦
            let count = sends.sends.direction.count in
            let numbered = now_due.numbered in
            let packet = packet_at sends.line position (omega (arith, wanted)) (omega (arith, count, numbered)) in
            let asks = earlier_gaps_are_repeated h.sides.here.session t h.sides.there.session sends.line seen probe position packet.0 sends.sends goes.goes (omega (arith, waits, wanted)) most (omega (arith, wanted)) (omega (arith, wanted, some)) packet.1 in
            inr (sent_again position t seen probe packet.0 h (sends.packets (position - 1) packet.0 packet.1) asks)
      ]
    where
      sent_again : (position : ℕ) (t : SessionEnd) (seen : BroadcastState) (probe : Bool) (bytes : List ℕ) (h : IsHeardOnce start outset r.ticked now b a bearer (state_fields t seen probe)) → IsPacket (node_word a) bytes
          → Contains (repeated_at h.sides.here.session (state_fields t seen probe).acknowledgement (content_of (state_fields t seen probe))) (record { number = number_of position; packet = bytes }) → IsOnItsWay start (ends_of r.ticked.air) now a b bearer position
      sent_again position t seen probe bytes h pk asks =
          let p = state_fields t seen probe in
          let s = h.sides.here.session in
          let o = packet_frame (after_acknowledgement s p.acknowledgement) (number_of position) bytes in
          let leaves = h.hears.again o (again_has s p.acknowledgement (content_of p) (record { number = number_of position; packet = bytes }) asks) in
          let left = h.leaves leaves.0 o h.sides.here.on_bearer (slice_there h.frames leaves.0 o leaves.1 leaves.2) in
          let f = airborne (contact_at h.before.members a) h.after.members a o in
          let brings = brings_again start h.before a b bearer h.member position bytes (h.since.calm.on.kept k.kept) a_is b_is apart h.member_is h.sides.here pk in
          let longer = h.behind in
          let later = left.1 in
          record {
            place = left.0;
            behind = behind_place (on_places r.ticked bearer on_one) (omega (arith, longer, later));
            frame = f;
            there = get_prefix (air_on bearer h.after.air) (air_on bearer now.air) left.0 f (h.later.on.grown.air bearer) left.2;
            brings = record {
              packet = brings.packet;
              from = brings.from;
              kind = brings.kind;
              goes_there = goes_there a b f refl (eq-eqb s.peer (node_word b) h.sides.here.peer_word) brings.link;
              bytes = bytes;
              carries = brings.carries;
            };
          }

  pub row_asked : (position : ℕ) → StandsIn outset (IsAwaited position) a b bearer → StandsIn outset (IsKnown position) b a bearer
      → StandsIn now (IsReleased position) a b bearer ⊎ (StandsIn now (WasTaken position) b a bearer ⊎ IsOnItsWay start ends now a b bearer position)
  row_asked position (m, there, (s, is, due)) (mb, mb_there, (t, t_is, known)) =
      let sides = sides_of m there in
      let u = sides.here in
      let w = sides.there in
      let one : u.session ≡ s = same_session (session_with m.node b bearer) u.session s u.in_session is in
      let member : sides.peer ≡ mb = (let both : Some sides.peer ≡ Some mb = sym sides.peer_is ∙ mb_there in cc) in
      let other : w.session ≡ t = same_session (session_with mb.node a bearer) w.session t (subst (λ (q : MemberState). session_with q.node a bearer ≡ Some w.session) member w.in_session) t_is in
      let sends = subst (λ q. SendsTo q t sides.sends.line) one (subst (λ q. SendsTo u.session q sides.sends.line) other sides.sends.sends) in
      elim (cases_lt t.taken position) [
        | inr taken ↦ inl (row_released position (mb, mb_there, (t, t_is, taken)))
        | inl waits ↦
            let first = due.first in
            let acked = sends.direction.acked_taken in
            let wanted : t.taken + 1 ≡ position = omega (arith, first, acked, waits) in
            let shown = shown_next position t known waits in
            let gap_is = gaps_are_told s t sides.sends.line sends (omega (arith, shown, wanted)) in
            let u_b = sides_back mb mb_there in
            let same_b : u_b.here.session ≡ t = same_session (session_with mb.node a bearer) u_b.here.session t u_b.here.in_session t_is in
            let told = subst (StateHeard start outset r.ticked now b a bearer) same_b (state_heard start places outset ends now r b a bearer mb k b_is a_is back on_one mb_there u_b.here back_up) in
            let went = hearer_went m s (state_fields t told.seen told.probe) there is told.heard in
            elim (asked position s mb t told.seen told.probe mb_there t_is told.heard went due wanted gap_is.some gap_is.most) [
              | inl released ↦ inl released
              | inr on_its_way ↦ inr (inr (subst (λ e. IsOnItsWay start e now a b bearer position) (sym r.ends_are) on_its_way))
            ]
      ]
    where
      shown_next : (position : ℕ) (t : SessionEnd) → IsKnown position t → t.taken < position → position < t.shown
      shown_next position t (inl taken) waits = absurd (omega (arith, taken, waits))
      shown_next position t (inr shown) waits = shown

  -- ---- the third round: it is taken

  pub row_taken : (position : ℕ) → StandsIn outset (IsAwaited position) a b bearer → StandsIn outset (WasTaken position) b a bearer ⊎ IsOnItsWay start places outset a b bearer position → StandsIn now (WasTaken position) b a bearer
  row_taken position due (inl taken) = through_back (WasTaken position) (taken_on position) taken
  row_taken position (m, there, (s, is, due)) (inr way) =
      let q = way.brings in
      let f = way.frame in
      let goes = ticks_go_on 1 outset _ r.ticks r.ticked r.tick_part (clear_ticked k) in
      let stands = get_prefix (air_on bearer outset.air) (air_on bearer r.ticked.air) way.place f (goes.grown.air bearer) way.there in
      let both = and_parts (f.from.word == node_word a) (is_to b f.to && is_of_link f.frame) q.goes_there in
      let meant = goes_for f.from f.to b (and_parts (is_to b f.to) (is_of_link f.frame) both.1).0 in
      let traffic = numbered_traffic q.packet (number_of position) q.bytes q.carries in
      let h = (frame_heard start places outset ends now r a b bearer way.place f q.packet k a_is b_is back on_one back_up way.behind (found_here r.ticked b bearer way.place f stands meant) q.from q.kind traffic).0 in
      let went = told_went m s q.packet there is h in
      let due_now = due_on position s h.sides.there.session went due in
      let sends = h.sides.receives in
      let first = due_now.first in
      let acked = sends.sends.direction.acked_taken in
      let takes = repeats_are_taken h.sides.there.session h.sides.here.session sends.line h.by q.packet.acknowledgement position q.bytes sends.sends (omega (arith, first, acked)) in
      let takes_it : position ≤ (heard h.sides.here.session h.by q.packet.acknowledgement (content_of q.packet)).taken = subst (λ c. position ≤ (heard h.sides.here.session h.by q.packet.acknowledgement c).taken) (sym q.carries) takes in
      let more = h.hears.hears.taken in
      at_the_end (WasTaken position) b a q.packet (taken_on position) a_is back h (omega (arith, takes_it, more))
