-- A frame that brings an original tunnel packet of a link end's lists names a session that is over; a frame of link states brings none.
use Rattle.std.specs.Prelude.{All, filter, map, drop}
use Rattle.std.specs.Int.{from_be_bytes, to_be_bytes, w32}
use Rattle.std.proofs.Common.{◌≡◌, ◌<◌, ◌+◌, ◌==◌, ◌^◌, ◌∙◌, ℕ, Bool, true, false, List, [], ◌∷◌, ◌++◌, take, refl, sym, ap, subst, append_assoc, arith}
use Rattle.std.proofs.lemmas.List.{drop_at, take_at}
use Rattle.std.proofs.lemmas.List.Concat.{flat_map-cons}
use Rattle.std.proofs.lemmas.List.Elements.{All-cons, All-filter, All-head, All-nil, All-tail, All-take}
use Rattle.std.proofs.lemmas.Nat.{from_be_bytes-to_be_bytes_4}
use Rattle.tipc_types.specs.declared.link_words.BroadcastState.{BroadcastState}
use Rattle.tipc_types.specs.declared.packet_lists.Kept.{Kept}
use Rattle.tipc_types.specs.Position.{number_of}
use Rattle.tipc_outside.specs.declared.outgoing.Outgoing.{Outgoing}
use Rattle.tipc_header.specs.declared.packet.Header.{Header}
use Rattle.tipc_header.specs.declared.packet.Header.TheVariants as header
use Rattle.tipc_header.specs.declared.packet.Reset.{Reset}
use Rattle.tipc_header.specs.Frames.{envelope, frame_of, sent_as, stamped}
use Rattle.tipc_header.specs.Grammar.{Fits}
use Rattle.tipc_header.specs.Reading.{bits, word_at}
use Rattle.tipc_header.specs.Spelling.{Fields, all_words, spelling, word, word_0, word_1, word_2, words}
use Rattle.tipc_header.proofs.FrameWords.{length-envelope, stamped-spelling}
use Rattle.tipc_header.proofs.RoundTrip.{one_packet}
use Rattle.tipc_tunnel.specs.Tunnels.{Carries, Tunnelled, may_stand_in_tunnel, tunnel_packet}
use Rattle.tipc_tunnel.proofs.TunnelLaws.{carried_once, tunnel_fits}
use Rattle.tipc_send_window.specs.Sending.{acked_of, kept_after, kept_of, room}
use Rattle.tipc_link.specs.Links.{LinkEnd, notice_fields}
use Rattle.tipc_link.specs.Records.{is_changeover, is_tunnel}
use Rattle.tipc_link.specs.Sessions.{SessionEnd, flush_frames, is_behind, packet_frame, packet_frames, repeat_frames, repeated, state_fields, state_frame}
use Rattle.tipc_link.proofs.Standing.{waiting_fits}
use Rattle.tipc_link.proofs.TunnelUsers.{no_tunnel}
use Rattle.tipc_pair.specs.Runs.{IsListed, plain, tunnel}
use Rattle.tipc_pair.proofs.Listed.{both_ways, spelled_tunnel}
use Rattle.tipc_node.specs.Originals.{BringsEnded, NamesEnded}

-- ---- the packet in a frame

inner : (first second : ℕ) (packet : List ℕ) → drop 16 (frame_of first second packet) ≡ packet
inner first second packet = drop_at (envelope first second) packet 16 (length-envelope first second)

same_inner : (a b c d : ℕ) (x y : List ℕ) → frame_of a b x ≡ frame_of c d y → x ≡ y
same_inner a b c d x y same = sym (inner a b x) ∙ ap (drop 16) same ∙ inner c d y

-- a packet that carries something is a tunnel packet
carries_tunnel : (p : Fields) (t : Tunnelled) → Fits p → Carries p t → is_tunnel (spelling p) ≡ true
carries_tunnel p t fits h = spelled_tunnel p fits ∙ ap is_changeover h.header

-- a frame of another packet brings none
silent : (F : ℕ → ℕ) (o : Outgoing) (first second : ℕ) (packet : List ℕ) → o.frame ≡ frame_of first second packet → is_tunnel packet ≡ false → BringsEnded F o
silent F o first second packet is none es er p t fits there carries kind =
    let same : packet ≡ spelling p = same_inner first second es er packet (spelling p) (sym is ∙ there) in
    both_ways (is_tunnel (spelling p)) (carries_tunnel p t fits carries) (ap is_tunnel (sym same) ∙ none)

-- ---- a packet of the lists, as it is sent

zero_fits : (p : Fields) → Fits p → Fits (sent_as 0 0 0 p)
zero_fits p fits =
    let w = waiting_fits p fits in
    record { acknowledgement = w.acknowledgement; sequence = w.sequence; previous = omega arith; header = w.header; numbering = w.numbering; rest = w.rest; size = w.size }

-- what was sent is read, but for its numbers and its sender
read_back : (acknowledgement number own : ℕ) (q p : Fields) → Fits q → Fits p → stamped acknowledgement number own (spelling q) ≡ spelling p → sent_as 0 0 0 q ≡ sent_as 0 0 0 p
read_back acknowledgement number own q p one two same =
    let again : spelling (sent_as 0 0 0 q) ≡ spelling (sent_as 0 0 0 p) =
    sym (stamped-spelling (sent_as acknowledgement number own q) 0 0 0) ∙ ap (stamped 0 0 0) (sym (stamped-spelling q acknowledgement number own) ∙ same) ∙ stamped-spelling p 0 0 0 in
    one_packet (sent_as 0 0 0 q) (sent_as 0 0 0 p) (zero_fits q one) (zero_fits p two) again

inside_plain : (h : Header) → may_stand_in_tunnel h ≡ true → is_changeover h ≡ false
inside_plain (header.Changeover c) e = absurd (let wrong : false ≡ true = e in let no_way : ⊥ = cc in no_way)
inside_plain other e = refl

pub packet_brings : (F : ℕ → ℕ) (s : SessionEnd) (number : ℕ) (packet : List ℕ) → IsListed packet → NamesEnded F packet → BringsEnded F (packet_frame s number packet)
packet_brings F s number packet (plain waits inside size) named es er p t fits there carries kind =
    let bytes = stamped (number_of s.taken) number s.own packet in
    let read : bytes ≡ spelling p = same_inner s.epoch s.peer_epoch es er bytes (spelling p) there in
    let q = inside.packet in
    let same = read_back (number_of s.taken) number s.own q p inside.fits fits (ap (stamped (number_of s.taken) number s.own) (sym inside.spelled) ∙ read) in
    let heads : q.header ≡ p.header = ap (λ (z : Fields). z.header) same in
    both_ways (is_changeover p.header) (ap is_changeover carries.header) (ap is_changeover (sym heads) ∙ inside_plain q.header inside.inside)
packet_brings F s number packet (tunnel made) named es er p t fits there carries kind =
    let bytes = stamped (number_of s.taken) number s.own packet in
    let read : bytes ≡ spelling p = same_inner s.epoch s.peer_epoch es er bytes (spelling p) there in
    let q = tunnel_packet made.told in
    let same = read_back (number_of s.taken) number s.own q p (tunnel_fits made.told made.whole) fits (ap (stamped (number_of s.taken) number s.own) (sym made.spelled) ∙ read) in
    let heads : q.header ≡ p.header = ap (λ (z : Fields). z.header) same in
    let rest : q.rest ≡ p.rest = ap (λ (z : Fields). z.rest) same in
    let mine : Carries q made.told = record { broadcast_acknowledgement = 0; header = refl; rest = refl; inner = made.whole.inner } in
    let its : Carries q t = record { broadcast_acknowledgement = carries.broadcast_acknowledgement; header = heads ∙ carries.header; rest = rest ∙ carries.rest; inner = carries.inner } in
    let told : made.told ≡ t = carried_once q made.told t mine its in
    subst (λ (w : Tunnelled). w.old.epoch < F w.old.bearer) told (named made.told made.whole made.spelled (ap (λ (w : Tunnelled). w.kind) told ∙ kind))

-- ---- frames of link states

first_word : (n : ℕ) (b : List ℕ) → n < 2 ^ 32 → word_at 0 (word n ++ b) ≡ n
unfolding word word_at
first_word n b fits = ap (from_be_bytes w32) (take_at (to_be_bytes w32 n) b 4 refl) ∙ from_be_bytes-to_be_bytes_4 n fits

-- a packet begins with its first word
shows_first : (p : Fields) → word_0 p < 2 ^ 32 → word_at 0 (spelling p) ≡ word_0 p
unfolding spelling
shows_first p fits =
    let others = word_1 p.header ∷ word_2 p ∷ drop 3 (all_words p) in
    ap (word_at 0) (ap (λ (x : List ℕ). x ++ p.rest) (flat_map-cons word (word_0 p) others) ∙ append_assoc (word (word_0 p)) (words others) p.rest) ∙ first_word (word_0 p) (words others ++ p.rest) fits

-- by the user that its first word shows
other_user : (p : Fields) → word_0 p < 2 ^ 32 → (bits 28 25 (word_0 p) == 10) ≡ false → is_tunnel (spelling p) ≡ false
other_user p fits other = no_tunnel (spelling p) (ap (λ w. bits 28 25 w == 10) (shows_first p fits) ∙ other)

pub reset_plain : (e : LinkEnd) (r : Reset) → is_tunnel (spelling (notice_fields e (header.Reset r))) ≡ false
unfolding word_0
reset_plain e r = other_user (notice_fields e (header.Reset r)) (omega arith) refl

pub activate_plain : (e : LinkEnd) (r : Reset) → is_tunnel (spelling (notice_fields e (header.Activate r))) ≡ false
unfolding word_0
activate_plain e r = other_user (notice_fields e (header.Activate r)) (omega arith) refl

state_plain : (s : SessionEnd) (shown : BroadcastState) (probe : Bool) → is_tunnel (spelling (state_fields s shown probe)) ≡ false
unfolding word_0 state_fields
state_plain s shown probe = other_user (state_fields s shown probe) (omega arith) refl

pub state_brings : (F : ℕ → ℕ) (s : SessionEnd) (shown : BroadcastState) (probe : Bool) → BringsEnded F (state_frame s shown probe)
state_brings F s shown probe = silent F (state_frame s shown probe) s.epoch s.peer_epoch (spelling (state_fields s shown probe)) refl (state_plain s shown probe)

pub notice_brings : (F : ℕ → ℕ) (o : Outgoing) (first second : ℕ) (packet : List ℕ) → o.frame ≡ frame_of first second packet → is_tunnel packet ≡ false → BringsEnded F o
notice_brings F o first second packet is none = silent F o first second packet is none

-- ---- the frames of a session

-- a packet may stand in the lists, and names a session that is over
pub record IsStanding (F : ℕ → ℕ) (packet : List ℕ) : Type 0 where
  pub listed : IsListed packet
  pub named : NamesEnded F packet

pub each_standing : (F : ℕ → ℕ) (packets : List (List ℕ)) → All IsListed packets → All (NamesEnded F) packets → All (IsStanding F) packets
each_standing F [] listed named = All-nil (IsStanding F)
each_standing F (p ∷ ps) listed named =
    All-cons (IsStanding F) p ps (record { listed = All-head IsListed p ps listed; named = All-head (NamesEnded F) p ps named }) (each_standing F ps (All-tail IsListed p ps listed) (All-tail (NamesEnded F) p ps named))

packets_bring : (F : ℕ → ℕ) (s : SessionEnd) (before : ℕ) (packets : List (List ℕ)) → All (IsStanding F) packets → All (BringsEnded F) (packet_frames s before packets)
packets_bring F s before [] all = All-nil (BringsEnded F)
packets_bring F s before (p ∷ ps) all =
    let h = All-head (IsStanding F) p ps all in
    All-cons (BringsEnded F) _ _ (packet_brings F s (number_of (before + 1)) p h.listed h.named) (packets_bring F s (before + 1) ps (All-tail (IsStanding F) p ps all))

-- packets that move up
pub flush_brings : (F : ℕ → ℕ) (s : SessionEnd) → All (IsStanding F) s.sending.waiting → All (BringsEnded F) (flush_frames s)
unfolding flush_frames
flush_brings F s all = packets_bring F s s.sending.numbered (take (room s.sending) s.sending.waiting) (All-take (IsStanding F) (room s.sending) s.sending.waiting all)

kept_standing : (F : ℕ → ℕ) (before : ℕ) (packets : List (List ℕ)) → All (IsStanding F) packets → All (λ (k : Kept). IsStanding F k.packet) (kept_after before packets)
kept_standing F before [] all = All-nil (λ (k : Kept). IsStanding F k.packet)
kept_standing F before (p ∷ ps) all =
    All-cons (λ (k : Kept). IsStanding F k.packet) _ _ (All-head (IsStanding F) p ps all) (kept_standing F (before + 1) ps (All-tail (IsStanding F) p ps all))

each_brings : (F : ℕ → ℕ) (s : SessionEnd) (ks : List Kept) → All (λ (k : Kept). IsStanding F k.packet) ks → All (BringsEnded F) (map (λ k. packet_frame s k.number k.packet) ks)
each_brings F s [] all = All-nil (BringsEnded F)
each_brings F s (k ∷ ks) all =
    let h = All-head (λ (j : Kept). IsStanding F j.packet) k ks all in
    All-cons (BringsEnded F) _ _ (packet_brings F s k.number k.packet h.listed h.named) (each_brings F s ks (All-tail (λ (j : Kept). IsStanding F j.packet) k ks all))

-- packets that are sent again
pub repeat_brings : (F : ℕ → ℕ) (s : SessionEnd) (acknowledgement gap : ℕ) → All (IsStanding F) s.sending.unacked → All (BringsEnded F) (repeat_frames s acknowledgement gap)
unfolding repeat_frames repeated
repeat_brings F s acknowledgement gap all =
    each_brings F s (filter (is_behind acknowledgement gap) (kept_of s.sending)) (All-filter (is_behind acknowledgement gap) (λ (k : Kept). IsStanding F k.packet) (kept_of s.sending) (kept_standing F (acked_of s.sending) s.sending.unacked all))
