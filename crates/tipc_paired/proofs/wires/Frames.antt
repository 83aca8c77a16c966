-- The frames that a link end sends, read back: the epochs of the envelope, the packet in it, and what that carries and acknowledges.
use Rattle.std.proofs.Common.{[], ◌++◌, ◌+◌, ◌<◌, ◌==◌, ◌^◌, ◌∙◌, ◌∷◌, ◌≡◌, ◌≤◌, Bool, List, None, Option, Some, ap, arith, drop, false, get_or, if◌then◌else◌, is_some, length, position, refl, slice_get, subst, suc, sym, true, unwrap_or, zero, ℕ}
use Rattle.std.proofs.lemmas.Bool.Decides.{nat_tests}
use Rattle.std.proofs.lemmas.List.{drop_at}
use Rattle.std.proofs.lemmas.List.Quantifiers.{position-Some}
use Rattle.tipc_types.specs.Position.{number_of}
use Rattle.tipc_types.specs.declared.link_words.BroadcastState.{BroadcastState}
use Rattle.tipc_types.proofs.PositionLaws.{number_of-below}
use Rattle.tipc_outside.specs.declared.outgoing.Outgoing.{Outgoing}
use Rattle.tipc_header.specs.Frames.{envelope, frame_of, sent_as, stamped}
use Rattle.tipc_header.specs.Grammar.{Fits}
use Rattle.tipc_header.specs.Reading.{word_at}
use Rattle.tipc_header.specs.Spelling.{Fields, spelling, two_words}
use Rattle.tipc_header.specs.declared.packet.Header.{Header}
use Rattle.tipc_header.specs.declared.packet.Header.TheVariants as header
use Rattle.tipc_header.proofs.FrameWords.{length-envelope, stamped-spelling}
use Rattle.tipc_header.proofs.Places.{long-joined}
use Rattle.tipc_header.proofs.RoundTrip.{one_packet}
use Rattle.tipc_header.proofs.Words.{AreWords, word_at-words}
use Rattle.tipc_recv_window.specs.Receiving.{gap_of, gap_to, missing}
use Rattle.tipc_link.specs.Direction.{IsCarried}
use Rattle.tipc_link.specs.Links.{is_traffic}
use Rattle.tipc_link.specs.Sessions.{Carries, SessionEnd, Shows, as_waiting, content_by, content_of, gap, packet_frame, packet_frames, receiving, state_fields, state_frame}
use Rattle.tipc_link.specs.Parts.{IsShowable}
use Rattle.tipc_paired.specs.Paired.{IsPacket, ShowsContact}
use Rattle.tipc_paired.specs.Views.{er_of, es_of}

-- ---- an envelope and its packet

are_words : (a b : ℕ) → a < 2 ^ 64 → b < 2 ^ 64 → AreWords (two_words a ++ two_words b)
are_words a b fit_a fit_b = (omega arith, (omega arith, (omega arith, (omega arith, tt))))

envelope_word : (i a b : ℕ) (rest : List ℕ) → a < 2 ^ 64 → b < 2 ^ 64 → i < 4 → word_at i (frame_of a b rest) ≡ get_or (two_words a ++ two_words b) i 0
unfolding envelope
envelope_word i a b rest fit_a fit_b low = word_at-words i (two_words a ++ two_words b) rest (are_words a b fit_a fit_b) low

-- the first epoch of a frame is read back
pub es_of-frame : (a b : ℕ) (rest : List ℕ) → a < 2 ^ 64 → b < 2 ^ 64 → es_of (frame_of a b rest) ≡ a
es_of-frame a b rest fit_a fit_b =
    let high = envelope_word 0 a b rest fit_a fit_b (omega arith) in
    let low = envelope_word 1 a b rest fit_a fit_b (omega arith) in
    rw (high, low) (long-joined a)

-- and so is the second
pub er_of-frame : (a b : ℕ) (rest : List ℕ) → a < 2 ^ 64 → b < 2 ^ 64 → er_of (frame_of a b rest) ≡ b
er_of-frame a b rest fit_a fit_b =
    let high = envelope_word 2 a b rest fit_a fit_b (omega arith) in
    let low = envelope_word 3 a b rest fit_a fit_b (omega arith) in
    rw (high, low) (long-joined b)

-- a frame holds one packet
pub same_packet : (es er es' er' : ℕ) (p q : Fields) → Fits p → Fits q → frame_of es er (spelling p) ≡ frame_of es' er' (spelling q) → p ≡ q
same_packet es er es' er' p q p_fits q_fits same =
    one_packet p q p_fits q_fits (sym (drop_at (envelope es er) (spelling p) 16 (length-envelope es er)) ∙ ap (drop 16) same ∙ drop_at (envelope es' er') (spelling q) 16 (length-envelope es' er'))

-- a STATE or a numbered packet shows no contact number
pub traffic_shows : (h : Header) (own theirs : ℕ) → is_traffic h ≡ true → ShowsContact h own theirs
traffic_shows (header.Reset r) own theirs traffic = absurd (let wrong : ⊥ = cc in wrong)
traffic_shows (header.Activate a) own theirs traffic = absurd (let wrong : ⊥ = cc in wrong)
traffic_shows other own theirs traffic = tt

-- ---- the frame of a session

-- a STATE or a numbered packet of this node under these epochs: it acknowledges so many packets, its sender has numbered so
-- many, and what it carries was put
pub record IsSaid (own es er told numbered : ℕ) (put : List (List ℕ)) (bytes : List ℕ) : Type 0 where
  pub packet : Fields
  pub fits : Fits packet
  pub frame : bytes ≡ frame_of es er (spelling packet)
  pub previous : packet.previous ≡ own
  pub traffic : is_traffic packet.header ≡ true
  pub told_is : packet.acknowledgement ≡ number_of told
  pub carried : (number : ℕ) (carries : List ℕ) → content_of packet ≡ Carries number carries → IsCarried put numbered number carries
  pub shows : (next gap : ℕ) (probe : Bool) → content_of packet ≡ Shows next gap probe → next ≡ number_of (numbered + 1)

-- the words of a session
pub record IsWorded (node : ℕ) (s : SessionEnd) : Type 0 where
  pub own : s.own ≡ node
  pub own_fits : s.own < 2 ^ 32
  pub peer_fits : s.peer < 2 ^ 32

-- a frame shows the epochs of the session
pub record SaysIn (s : SessionEnd) (o : Outgoing) : Type 0 where
  pub es : es_of o.frame ≡ s.epoch
  pub er : er_of o.frame ≡ s.peer_epoch

-- ---- a STATE

-- the first place that passes is one of the list
first_small : {A : Type 0} (p : A → Bool) (xs : List A) (d : A) (o : Option ℕ) → position p xs ≡ o → unwrap_or o 0 ≤ length xs
first_small p xs d None is = omega arith
first_small p xs d (Some i) is = let at = position-Some p xs i d is in let within = at.0 in omega arith

missing_small : (s : SessionEnd) → missing (receiving s) s.shown ≤ 50
missing_small s = grind (arith, nat_tests)

gap_small : (s : SessionEnd) → length s.held ≤ 50 → gap s ≤ 50
unfolding gap_to
gap_small s window =
    let held = first_small (λ t. is_some t) s.held None (position (λ t. is_some t) s.held) refl in
    let none = missing_small s in
    elim (gap_of (receiving s) == 0) as (λ b. (if b then missing (receiving s) s.shown else gap_of (receiving s)) ≤ 50) [ true ↦ none | false ↦ omega (arith, held, window) ]

state_fits : (own : ℕ) (s : SessionEnd) (shown : BroadcastState) (probe : Bool) → IsWorded own s → length s.held ≤ 50 → IsShowable shown → Fits (state_fields s shown probe)
unfolding state_fields
state_fits own s shown probe words window showable =
    let here = words.own_fits in
    let there = words.peer_fits in
    record {
      acknowledgement = number_of-below s.taken;
      sequence = omega arith;
      previous = omega arith;
      header = record {
        gap = (let small = gap_small s window in omega arith);
        broadcast_acknowledgement = showable.acknowledged;
        next = number_of-below (s.sending.numbered + 1);
        broadcast_next = showable.next;
        broadcast_start = showable.start;
        broadcast_gap = showable.gap;
        destination_node = omega arith;
        priority = grind (arith, nat_tests);
      };
      numbering = refl;
      rest = refl;
      size = omega arith;
    }

state_content : (s : SessionEnd) (shown : BroadcastState) (probe : Bool) → content_of (state_fields s shown probe) ≡ Shows (number_of (s.sending.numbered + 1)) (gap s) probe
unfolding state_fields content_of
state_content s shown probe = refl

state_acknowledges : (s : SessionEnd) (shown : BroadcastState) (probe : Bool) → (state_fields s shown probe).acknowledgement ≡ number_of s.taken
unfolding state_fields
state_acknowledges s shown probe = refl

state_previous : (s : SessionEnd) (shown : BroadcastState) (probe : Bool) → (state_fields s shown probe).previous ≡ s.own
unfolding state_fields
state_previous s shown probe = refl

state_traffic : (s : SessionEnd) (shown : BroadcastState) (probe : Bool) → is_traffic (state_fields s shown probe).header ≡ true
unfolding state_fields
state_traffic s shown probe = refl

-- a STATE of a session says what was taken, and carries nothing
pub state_said : (own numbered : ℕ) (s : SessionEnd) (put : List (List ℕ)) (shown : BroadcastState) (probe : Bool) → IsWorded own s → length s.held ≤ 50 → IsShowable shown → numbered ≡ s.sending.numbered
    → IsSaid own s.epoch s.peer_epoch s.taken numbered put (state_frame s shown probe).frame
state_said own numbered s put shown probe words window showable count = record {
  packet = state_fields s shown probe;
  fits = state_fits own s shown probe words window showable;
  frame = refl;
  previous = state_previous s shown probe ∙ words.own;
  traffic = state_traffic s shown probe;
  told_is = state_acknowledges s shown probe;
  carried = λ number carries is. let shows = state_content s shown probe in absurd (let wrong : ⊥ = cc in wrong);
  shows = λ next missed asks is. (
      let shows = state_content s shown probe in
      let same : next ≡ number_of (s.sending.numbered + 1) = cc in
      same ∙ ap (λ n. number_of (n + 1)) (sym count));
}

-- a STATE shows the epochs of its session
pub state_says : (s : SessionEnd) (shown : BroadcastState) (probe : Bool) → s.epoch < 2 ^ 64 → s.peer_epoch < 2 ^ 64 → SaysIn s (state_frame s shown probe)
state_says s shown probe fits peer_fits = record {
  es = es_of-frame s.epoch s.peer_epoch (spelling (state_fields s shown probe)) fits peer_fits;
  er = er_of-frame s.epoch s.peer_epoch (spelling (state_fields s shown probe)) fits peer_fits;
}

-- ---- a packet that was numbered

content_by_traffic : (h : Header) (sequence number : ℕ) (packet carries : List ℕ) → content_by h sequence packet ≡ Carries number carries → is_traffic h ≡ true
content_by_traffic (header.Reset r) sequence number packet carries is = absurd (let wrong : ⊥ = cc in wrong)
content_by_traffic (header.Activate a) sequence number packet carries is = absurd (let wrong : ⊥ = cc in wrong)
content_by_traffic (header.Discovery d) sequence number packet carries is = absurd (let wrong : ⊥ = cc in wrong)
content_by_traffic (header.Payload m) sequence number packet carries is = refl
content_by_traffic (header.Bundler b) sequence number packet carries is = refl
content_by_traffic (header.State s) sequence number packet carries is = refl
content_by_traffic (header.Changeover c) sequence number packet carries is = refl
content_by_traffic (header.NameDistributor n) sequence number packet carries is = refl
content_by_traffic (header.Fragmenter f) sequence number packet carries is = refl

content_traffic : (p : Fields) (number : ℕ) (carries : List ℕ) → content_of p ≡ Carries number carries → is_traffic p.header ≡ true
unfolding content_of
content_traffic p number carries is = content_by_traffic p.header p.sequence number (spelling (as_waiting p)) carries is

-- each of the frames of packets that move up has its packet and its number
pub packet_frames-at : (s : SessionEnd) (before : ℕ) (qs : List (List ℕ)) (k : ℕ) (o : Outgoing) → slice_get (packet_frames s before qs) k ≡ Some o → (q : List ℕ) × (slice_get qs k ≡ Some q) × (o ≡ packet_frame s (number_of (before + k + 1)) q)
packet_frames-at s before [] k o is = absurd (let none : ⊥ = cc in none)
packet_frames-at s before (x ∷ qs) zero o is =
    let same : packet_frame s (number_of (before + 1)) x ≡ o = cc in
    (x, refl, sym same ∙ ap (λ i. packet_frame s (number_of i) x) (omega arith))
packet_frames-at s before (x ∷ qs) (suc k) o is =
    let h = packet_frames-at s (before + 1) qs k o is in
    (h.0, h.1, h.2 ∙ ap (λ i. packet_frame s (number_of i) h.0) (omega arith))

-- the frame of a packet that was numbered
pub packet_said : (own numbered num : ℕ) (s : SessionEnd) (line : List (List ℕ)) (q : List ℕ) → IsWorded own s → IsPacket own q → IsCarried line numbered num q → IsSaid own s.epoch s.peer_epoch s.taken numbered line (packet_frame s num q).frame
packet_said own numbered num s line q words h carried =
    let ack = number_of s.taken in
    let content = h.carried ack num in
    let small : num < 2 ^ 16 = subst (λ n. n < 2 ^ 16) (sym carried.number_is) (number_of-below carried.position) in
    record {
      packet = sent_as ack num own h.packet;
      fits = h.fits ack num (number_of-below s.taken) small (subst (λ n. n < 2 ^ 32) words.own words.own_fits);
      frame =
          ap (λ n. frame_of s.epoch s.peer_epoch (stamped ack num n q)) words.own ∙ ap (λ xs. frame_of s.epoch s.peer_epoch (stamped ack num own xs)) h.spelled
          ∙ ap (frame_of s.epoch s.peer_epoch) (stamped-spelling h.packet ack num own);
      previous = refl;
      traffic = content_traffic (sent_as ack num own h.packet) num q content;
      told_is = refl;
      carried = λ number carries is.
          let same : Carries num q ≡ Carries number carries = sym content ∙ is in
          let same_number : num ≡ number = cc in
          let same_packet : q ≡ carries = cc in
          subst (λ m. IsCarried line numbered m carries) same_number (subst (λ p. IsCarried line numbered num p) same_packet carried);
      shows = λ next missed asks is. absurd (let wrong : ⊥ = cc in wrong);
    }

-- a packet that was numbered shows the epochs of its session
pub packet_says : (s : SessionEnd) (number : ℕ) (packet : List ℕ) → s.epoch < 2 ^ 64 → s.peer_epoch < 2 ^ 64 → SaysIn s (packet_frame s number packet)
packet_says s number packet fits peer_fits = record {
  es = es_of-frame s.epoch s.peer_epoch (stamped (number_of s.taken) number s.own packet) fits peer_fits;
  er = er_of-frame s.epoch s.peer_epoch (stamped (number_of s.taken) number s.own packet) fits peer_fits;
}
