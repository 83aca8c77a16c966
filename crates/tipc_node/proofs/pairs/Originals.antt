-- What stands in the lists of a session: each packet may stand there, and each original tunnel packet names a session that is over.
use Rattle.std.specs.Prelude.{All, filter, not}
use Rattle.std.proofs.Common.{◌≡◌, ◌≤◌, ◌<◌, ◌+◌, ◌-◌, ◌^◌, ◌∙◌, ℕ, true, false, if◌then◌else◌, List, [], ◌∷◌, ◌++◌, Ok, Some, None, length, take, inl, inr, refl, sym, ap, subst, length-append, arith}
use Rattle.std.proofs.lemmas.Bool.{cases_lt}
use Rattle.std.proofs.lemmas.List.Elements.{All-append, All-cons, All-drop, All-filter, All-head, All-map, All-nil, All-tail, All-take, All-weaker}
use Rattle.tipc_types.specs.Position.{number_of}
use Rattle.tipc_types.specs.declared.link_words.OldSession.{OldSession}
use Rattle.tipc_types.specs.declared.message_forms.Message.{Message}
use Rattle.tipc_types.specs.declared.packet_lists.Kept.{Kept}
use Rattle.tipc_types.proofs.PositionLaws.{number_of-below}
use Rattle.tipc_header.specs.declared.packet.ChangeoverType.{ChangeoverType}
use Rattle.tipc_header.specs.declared.packet.ChangeoverType.TheVariants.{Duplicate, Original}
use Rattle.tipc_header.specs.declared.packet.Header.{Header}
use Rattle.tipc_header.specs.declared.packet.Header.TheVariants as header
use Rattle.tipc_header.specs.Spelling.{Fields, spelling}
use Rattle.tipc_message.specs.Wire.{message_of, message_with}
use Rattle.tipc_fragments.specs.Cutting.{Piece, fragment_fields, packets_of, pieces_of}
use Rattle.tipc_fragments.proofs.CutLaws.{sent_fits}
use Rattle.tipc_reassembly.specs.Slots.{IsCut}
use Rattle.tipc_bundle.specs.Bundles.{Carries as Waits, IsInner as IsBundled, joined}
use Rattle.tipc_tunnel.specs.Tunnels.{IsTunnel, MayBeWrapped, Tunnelled, numbered, tunnel_packet}
use Rattle.tipc_tunnel.proofs.InnerLaws.{numbered-none}
use Rattle.tipc_tunnel.proofs.TunnelLaws.{one_tunnel, wrapped_tunnel}
use Rattle.tipc_send_window.specs.Sending.{acked_of, kept_after, release_count, room}
use Rattle.tipc_link.specs.Records.{is_changeover, is_tunnel}
use Rattle.tipc_link.specs.Sessions.{Carries, Content, IsPut, MayJoin, Nothing, SessionEnd, Shows, after_acknowledgement, arrived, flushed, heard, joins, put, repeated, spoke, waits}
use Rattle.tipc_link.proofs.Repeating.{kept_count}
use Rattle.tipc_pair.specs.Messages.{pieces_for}
use Rattle.tipc_pair.specs.PairFacts.{IsSessionOn}
use Rattle.tipc_pair.specs.Runs.{IsListed, inner_of, left_by, marker, old_of, run_of, shown_by, taken_over, tunnel, wrapped}
use Rattle.tipc_pair.proofs.Listed.{both_ways, made_tunnel, spelled_tunnel}
use Rattle.tipc_pair.proofs.Pieces.{All-one, pieces_cut}
use Rattle.tipc_pair.proofs.Putting.{carries_plain}
use Rattle.tipc_pair.proofs.RunFacts.{plain_listed}
use Rattle.tipc_pair.proofs.Shown.{shown_may}
use Rattle.tipc_node.specs.Messages.{IsSendable, bytes_of, spelled}
use Rattle.tipc_node.specs.Originals.{NamesEnded}
use Rattle.tipc_node.proofs.work.Sendings.{IsSpelled, many_listed, many_pieces, one_listed, one_piece, spelled_most}

-- ---- the packets of a message

bytes_are : (own : ℕ) (m : Message) (h : IsSendable own m) → bytes_of own m ≡ spelling h.packet
unfolding bytes_of
bytes_are own m h = ap spelled h.packet_is

-- they may stand in the lists of a link
pub sent_listed : (own : ℕ) (m : Message) → IsSendable own m → All IsListed (pieces_for (bytes_of own m))
sent_listed own m h =
    let bytes = bytes_of own m in
    let s : IsSpelled own m bytes = (h.packet, h.packet_is, h.fits, bytes_are own m h, h.read) in
    elim (cases_lt (length bytes) 1453) [
      | inl short ↦ subst (All IsListed) (one_piece own m bytes (bytes ∷ []) s short refl) (one_listed own m bytes (bytes ∷ []) s short refl)
      | inr long ↦ subst (All IsListed) (many_pieces {E = ℕ} own m bytes bytes (Ok (packets_of bytes)) s refl long refl) (many_listed {E = ℕ} own m bytes bytes (Ok (packets_of bytes)) s refl refl)
    ]

-- a packet that carries a message is no tunnel packet
carrier_plain : (p : Fields) (m : Message) → message_of p ≡ Some m → is_changeover p.header ≡ false
unfolding message_of
carrier_plain p m read = by p.header read
  where
    by : (h : Header) → message_with h p.rest ≡ Some m → is_changeover h ≡ false
    by (header.Changeover c) is = absurd (let wrong : None ≡ Some m = is in cc)
    by other is = refl

piece_plain : (piece : Piece) → IsCut piece → is_tunnel (spelling (fragment_fields piece)) ≡ false
piece_plain piece cut = spelled_tunnel (fragment_fields piece) (sent_fits piece 0 0 0 cut.first cut.number cut.some cut.most (omega arith) (omega arith) (omega arith))

-- nor is any of its packets
pub sent_plain : (own : ℕ) (m : Message) → IsSendable own m → All (λ packet. is_tunnel packet ≡ false) (pieces_for (bytes_of own m))
sent_plain own m h =
    let P : List ℕ → Type 0 = λ packet. is_tunnel packet ≡ false in
    let bytes = bytes_of own m in
    let s : IsSpelled own m bytes = (h.packet, h.packet_is, h.fits, bytes_are own m h, h.read) in
    let most = spelled_most own m bytes bytes s refl in
    let whole : P bytes = ap is_tunnel (bytes_are own m h) ∙ spelled_tunnel h.packet h.fits ∙ carrier_plain h.packet m h.read in
    elim (cases_lt (length bytes) 1453) [
      | inl short ↦ subst (All P) (one_piece own m bytes (bytes ∷ []) s short refl) (All-one P bytes whole)
      | inr long ↦ subst (All P) (many_pieces {E = ℕ} own m bytes bytes (Ok (packets_of bytes)) s refl long refl)
          (All-map P (λ (p : Piece). spelling (fragment_fields p)) (pieces_of bytes) (All-weaker IsCut (λ p. P (spelling (fragment_fields p))) piece_plain (pieces_of bytes) (pieces_cut bytes (omega (arith, most)))))
    ]

-- ---- what a tunnel packet names

-- a packet that is none names nothing
pub plain_names : (epochs : ℕ → ℕ) (packet : List ℕ) → is_tunnel packet ≡ false → NamesEnded epochs packet
plain_names epochs packet plain t whole spelled kind = both_ways (is_tunnel packet) (ap is_tunnel spelled ∙ made_tunnel t whole) plain

-- one names what it was made of
made_names : (epochs : ℕ → ℕ) (v : Tunnelled) → IsTunnel v → (v.kind ≡ Original → v.old.epoch < epochs v.old.bearer) → NamesEnded epochs (spelling (tunnel_packet v))
made_names epochs v is low t whole spelled kind =
    let same : v ≡ t = one_tunnel v t is whole spelled in
    subst (λ (w : Tunnelled). w.old.epoch < epochs w.old.bearer) same (low (ap (λ (w : Tunnelled). w.kind) same ∙ kind))

-- where the own epochs rose
pub names_later : (epochs later : ℕ → ℕ) → ((b : ℕ) → b ≤ 1 → epochs b ≤ later b) → (packet : List ℕ) → NamesEnded epochs packet → NamesEnded later packet
names_later epochs later rose packet h t whole spelled kind =
    let low = h t whole spelled kind in
    let more = rose t.old.bearer whole.bearer in
    omega (arith, low, more)

-- ---- runs of tunnel packets

-- a packet may stand in the lists, and names a session that is over
abbrev Stands : (ℕ → ℕ) → List ℕ → Type 0
Stands epochs packet = IsListed packet × NamesEnded epochs packet

made_stands : (epochs : ℕ → ℕ) (v : Tunnelled) → IsTunnel v → (v.kind ≡ Original → v.old.epoch < epochs v.old.bearer) → Stands epochs (spelling (tunnel_packet v))
made_stands epochs v is low = (tunnel (record { told = v; whole = is; spelled = refl }), made_names epochs v is low)

-- what is wrapped of a packet of this node: nothing of a tunnel packet
abbrev load_of : ℕ → List ℕ → List ℕ
load_of own packet = if is_tunnel packet then [] else shown_by own packet

load_inner : (own : ℕ) (k : Kept) → inner_of own k ≡ numbered k.number (load_of own k.packet)
load_inner own k = elim (is_tunnel k.packet) as (λ t. (if t then [] else numbered k.number (shown_by own k.packet)) ≡ numbered k.number (if t then [] else shown_by own k.packet)) [
  | true ↦ sym (numbered-none k.number)
  | false ↦ refl
]

load_may : (own : ℕ) (packet : List ℕ) → IsListed packet → MayBeWrapped (load_of own packet) × (length (load_of own packet) ≤ 1452)
load_may own packet listed = elim (is_tunnel packet) as (λ t. is_tunnel packet ≡ t → MayBeWrapped (if t then [] else shown_by own packet) × (length (if t then [] else shown_by own packet) ≤ 1452)) [
  | true ↦ λ is. (inl refl, omega arith)
  | false ↦ λ other. shown_may own packet listed other
] refl

-- a session on one of the two bearers whose packets may travel; its originals name a session that is over
record MayTravel (epochs : ℕ → ℕ) (kind : ChangeoverType) (old : OldSession) : Type 0 where
  bearer : old.bearer ≤ 1
  fits : old.epoch < 2 ^ 64
  over : kind ≡ Original → old.epoch < epochs old.bearer

wrapped_stands : (epochs : ℕ → ℕ) (kind : ChangeoverType) (old : OldSession) (own count : ℕ) (k : Kept) → MayTravel epochs kind old → IsListed k.packet → k.number < 2 ^ 16 → 1 ≤ count → count < 2 ^ 16
    → Stands epochs (wrapped kind old own count k)
wrapped_stands epochs kind old own count k may listed number some few =
    let load = load_may own k.packet listed in
    let is = wrapped_tunnel kind old count k.number (load_of own k.packet) may.bearer may.fits few number (λ none. absurd (let wrong : ⊥ = omega (arith, none, some) in wrong)) load.0 load.1 in
    let whole = subst (λ inner. IsTunnel (record { kind = kind; old = old; count = count; number = k.number; inner = inner })) (sym (load_inner own k)) is in
    made_stands epochs (record { kind = kind; old = old; count = count; number = k.number; inner = inner_of own k }) whole may.over

kept_stand : (epochs : ℕ → ℕ) (kind : ChangeoverType) (old : OldSession) (own count before : ℕ) (packets : List (List ℕ)) → MayTravel epochs kind old → All IsListed packets → 1 ≤ count → count < 2 ^ 16
    → All (λ (k : Kept). Stands epochs (wrapped kind old own count k)) (kept_after before packets)
kept_stand epochs kind old own count before [] may listed some few = All-nil (λ (k : Kept). Stands epochs (wrapped kind old own count k))
kept_stand epochs kind old own count before (p ∷ ps) may listed some few =
    All-cons (λ (k : Kept). Stands epochs (wrapped kind old own count k)) (record { number = number_of (before + 1); packet = p }) (kept_after (before + 1) ps)
    (wrapped_stands epochs kind old own count (record { number = number_of (before + 1); packet = p }) may (All-head IsListed p ps listed) (let low = number_of-below (before + 1) in omega (arith, low)) some few)
    (kept_stand epochs kind old own count (before + 1) ps may (All-tail IsListed p ps listed) some few)

run_stands : (epochs : ℕ → ℕ) (kind : ChangeoverType) (old : OldSession) (own before : ℕ) (packets : List (List ℕ)) → MayTravel epochs kind old → All IsListed packets → length packets ≤ 50
    → All (Stands epochs) (run_of kind old own (kept_after before packets))
unfolding run_of
run_stands epochs kind old own before [] may listed few =
    All-one (Stands epochs) (marker kind old)
    (made_stands epochs (record { kind = kind; old = old; count = 0; number = 0; inner = [] }) (record {
      bearer = may.bearer;
      epoch = may.fits;
      count = omega arith;
      number = omega arith;
      run = λ none. (refl, refl);
      inner = inl refl;
      size = omega arith;
    }) may.over)
run_stands epochs kind old own before (p ∷ ps) may listed few =
    let ks = kept_after before (p ∷ ps) in
    let long = kept_count before (p ∷ ps) in
    All-map (Stands epochs) (wrapped kind old own (length ks)) ks (kept_stand epochs kind old own (length ks) before (p ∷ ps) may listed (omega (arith, long)) (omega (arith, long, few)))

-- ---- the lists of a session

-- so is each packet that waits or is unacknowledged
pub record AreAll (P : List ℕ → Type 0) (s : SessionEnd) : Type 0 where
  pub waiting : All P s.sending.waiting
  pub unacked : All P s.sending.unacked

module _ (P : List ℕ → Type 0) where
  pub flushed_all : (s : SessionEnd) → AreAll P s → AreAll P (flushed s)
  unfolding flushed
  flushed_all s h =
      let n : ℕ = room s.sending in
      record {
        waiting = All-drop P n s.sending.waiting h.waiting;
        unacked = All-append P s.sending.unacked (take n s.sending.waiting) h.unacked (All-take P n s.sending.waiting h.waiting);
      }

  released_all : (s : SessionEnd) (acknowledgement : ℕ) → AreAll P s → AreAll P (after_acknowledgement s acknowledgement)
  released_all s acknowledgement h = record { waiting = h.waiting; unacked = All-drop P (release_count s.sending acknowledgement) s.sending.unacked h.unacked }

  spoke_all : {A : Type 0} (s : SessionEnd) (sent : List A) → AreAll P s → AreAll P (spoke s sent)
  spoke_all s [] h = h
  spoke_all s (first ∷ others) h = record { waiting = h.waiting; unacked = h.unacked }

  pub arrived_all : (s : SessionEnd) (by acknowledgement : ℕ) (c : Content) → AreAll P s → AreAll P (arrived s by acknowledgement c)
  arrived_all s by acknowledgement Nothing h = h
  arrived_all s by acknowledgement (Shows next gap probe) h =
      let clear = after_acknowledgement s acknowledgement in
      let said = spoke_all clear (repeated clear acknowledgement gap) (released_all s acknowledgement h) in
      flushed_all (heard s by acknowledgement (Shows next gap probe)) (record { waiting = said.waiting; unacked = said.unacked })
  arrived_all s by acknowledgement (Carries number packet) h =
      let clear = released_all s acknowledgement h in
      flushed_all (heard s by acknowledgement (Carries number packet)) (record { waiting = clear.waiting; unacked = clear.unacked })

  pub more_all : (s : SessionEnd) (packets : List (List ℕ)) → All P packets → AreAll P s → AreAll P (put s packets)
  more_all s packets all h = record { waiting = All-append P s.sending.waiting packets h.waiting all; unacked = h.unacked }

-- packets that join are a bundle
joined_plain : (s : SessionEnd) (packets : List (List ℕ)) (packet : List ℕ) → MayJoin s packets packet → is_tunnel (joined (packets ++ packet ∷ [])) ≡ false
joined_plain s packets packet m =
    let all = packets ++ packet ∷ [] in
    let fits : length (joined all) ≤ 1452 = m.fits in
    let waiting : Waits (joined all) all = record {
      some = omega (arith, length-append packets (packet ∷ []));
      inner = All-append IsBundled packets (packet ∷ []) m.last.inner (All-one IsBundled packet m.inner);
      joined = refl;
      size = omega (arith, fits);
    } in
    carries_plain (joined all) all waiting

pub put_all : (epochs : ℕ → ℕ) (s after : SessionEnd) (pieces : List (List ℕ)) → All (λ packet. is_tunnel packet ≡ false) pieces → IsPut s pieces after → AreAll (NamesEnded epochs) s → AreAll (NamesEnded epochs) after
put_all epochs s after pieces plain (joins packets packet m) h =
    let P = NamesEnded epochs in
    let bundle = joined (packets ++ packet ∷ []) in
    record {
      waiting = All-append P (take (length s.sending.waiting - 1) s.sending.waiting) (bundle ∷ []) (All-take P (length s.sending.waiting - 1) s.sending.waiting h.waiting)
          (All-one P bundle (plain_names epochs bundle (joined_plain s packets packet m)));
      unacked = h.unacked;
    }
put_all epochs s after pieces plain (waits others alone) h =
    more_all (NamesEnded epochs) s others (All-weaker (λ packet. is_tunnel packet ≡ false) (NamesEnded epochs) (plain_names epochs) others plain) h

-- ---- what one link leaves to the other, or takes over from it

-- what is handed over of a session
pub record IsHandedOver (epochs : ℕ → ℕ) (packets : List (List ℕ)) : Type 0 where
  pub listed : All IsListed packets
  pub named : All (NamesEnded epochs) packets

handed : (epochs : ℕ → ℕ) (run others : List (List ℕ)) → All (Stands epochs) run → All IsListed others → All (NamesEnded epochs) others → IsHandedOver epochs (run ++ others)
handed epochs run others stand listed named = record {
  listed = All-append IsListed run others (All-weaker (Stands epochs) IsListed (λ packet h. h.0) run stand) listed;
  named = All-append (NamesEnded epochs) run others (All-weaker (Stands epochs) (NamesEnded epochs) (λ packet h. h.1) run stand) named;
}

-- the originals of a session that is over, and what waited there but for tunnel packets
pub left_stands : (epochs : ℕ → ℕ) (bearer : ℕ) (s : SessionEnd) → bearer ≤ 1 → IsSessionOn bearer s → AreAll (NamesEnded epochs) s → s.epoch < 2 ^ 64 → s.epoch < epochs bearer → IsHandedOver epochs (left_by s)
left_stands epochs bearer s two on all fits over =
    let at = on.bearer_is in
    let may : MayTravel epochs Original (old_of s) = record { bearer = omega (arith, two, at); fits = fits; over = λ is. subst (λ b. s.epoch < epochs b) (sym at) over } in
    handed epochs (run_of Original (old_of s) s.own (kept_after (acked_of s.sending) s.sending.unacked)) (filter (λ packet. not (is_tunnel packet)) s.sending.waiting)
    (run_stands epochs Original (old_of s) s.own (acked_of s.sending) s.sending.unacked may on.unacked on.few) (plain_listed s.sending.waiting on.waiting)
    (All-filter (λ packet. not (is_tunnel packet)) (NamesEnded epochs) s.sending.waiting all.waiting)

-- the duplicates of the present session, and what waits there
pub over_stands : (epochs : ℕ → ℕ) (bearer : ℕ) (s : SessionEnd) → bearer ≤ 1 → IsSessionOn bearer s → AreAll (NamesEnded epochs) s → s.epoch < 2 ^ 64 → IsHandedOver epochs (taken_over s)
over_stands epochs bearer s two on all fits =
    let at = on.bearer_is in
    let may : MayTravel epochs Duplicate (old_of s) = record { bearer = omega (arith, two, at); fits = fits; over = λ is. absurd (let wrong : Duplicate ≡ Original = is in let no_way : ⊥ = cc in no_way) } in
    handed epochs (run_of Duplicate (old_of s) s.own (kept_after (acked_of s.sending) s.sending.unacked)) s.sending.waiting
    (run_stands epochs Duplicate (old_of s) s.own (acked_of s.sending) s.sending.unacked may on.unacked on.few) on.waiting all.waiting
