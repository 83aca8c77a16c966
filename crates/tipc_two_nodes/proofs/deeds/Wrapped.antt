-- What a link hands over can be put on the other link: tunnel packets of its unacknowledged packets, and what waited.
use Rattle.std.proofs.Common.{◌≡◌, ◌≤◌, ◌<◌, ◌+◌, ◌^◌, ℕ, zero, suc, Bool, true, false, if◌then◌else◌, List, [], ◌∷◌, length, map, refl, sym, subst, inl, arith}
use Rattle.std.specs.Prelude.{All, filter, not}
use Rattle.std.proofs.lemmas.List.Elements.{All-cons, All-head, All-nil, All-tail}
use Rattle.tipc_types.specs.Position.{number_of}
use Rattle.tipc_types.specs.declared.link_words.OldSession.{OldSession}
use Rattle.tipc_types.specs.declared.packet_lists.Kept.{Kept}
use Rattle.tipc_types.proofs.PositionLaws.{number_of-below}
use Rattle.tipc_header.specs.declared.packet.ChangeoverType.{ChangeoverType}
use Rattle.tipc_header.specs.declared.packet.ChangeoverType.TheVariants.{Duplicate, Original}
use Rattle.tipc_header.specs.Frames.{sent_as}
use Rattle.tipc_header.specs.Spelling.{spelling}
use Rattle.tipc_tunnel.specs.Tunnels.{IsTunnel, MayBeWrapped, Tunnelled, numbered, tunnel_packet}
use Rattle.tipc_tunnel.proofs.InnerLaws.{numbered-none}
use Rattle.tipc_tunnel.proofs.TunnelLaws.{sent_fits, wrapped_tunnel}
use Rattle.tipc_send_window.specs.Sending.{acked_of, kept_after, kept_of}
use Rattle.tipc_link.specs.Records.{is_tunnel}
use Rattle.tipc_link.specs.Sessions.{Carries, SessionEnd, content_of}
use Rattle.tipc_link.proofs.LinkLaw.{Each, Each-append, Each-none, Each-one}
use Rattle.tipc_pair.specs.PairFacts.{IsSessionOn}
use Rattle.tipc_pair.specs.Runs.{IsListed, IsTunnelPacket, inner_of, left_by, marker, old_of, run_of, shown_by, taken_over, wrapped}
use Rattle.tipc_pair.proofs.RunFacts.{plain_listed, run_listed}
use Rattle.tipc_link.proofs.Repeating.{kept_count as kept_length}
use Rattle.tipc_pair.proofs.Shown.{shown_may}
use Rattle.tipc_paired.specs.Paired.{IsPacket}

-- ---- one tunnel packet

tunnel_carries : (t : Tunnelled) (own acknowledgement number : ℕ) → content_of (sent_as acknowledgement number own (tunnel_packet t)) ≡ Carries number (spelling (tunnel_packet t))
unfolding content_of
tunnel_carries t own acknowledgement number = refl

pub tunnel_put : (own : ℕ) (t : Tunnelled) → IsTunnel t → IsPacket own (spelling (tunnel_packet t))
tunnel_put own t h = record {
  packet = tunnel_packet t;
  spelled = refl;
  fits = λ acknowledgement number a n m. sent_fits t acknowledgement number own h a n m;
  carried = λ acknowledgement number. tunnel_carries t own acknowledgement number;
}

-- what is wrapped of a packet of this node: nothing of a tunnel packet
abbrev load_of : ℕ → List ℕ → List ℕ
load_of own packet = if is_tunnel packet then [] else shown_by own packet

load_inner : (own : ℕ) (k : Kept) → inner_of own k ≡ numbered k.number (load_of own k.packet)
load_inner own k = elim (is_tunnel k.packet) as (λ t. (if t then [] else numbered k.number (shown_by own k.packet)) ≡ numbered k.number (if t then [] else shown_by own k.packet)) [
  | true ↦ sym (numbered-none k.number)
  | false ↦ refl
]

load_may : (own : ℕ) (packet : List ℕ) → IsListed packet → MayBeWrapped (load_of own packet) × (length (load_of own packet) ≤ 1452)
load_may own packet listed = elim (is_tunnel packet) as (λ t. is_tunnel packet ≡ t → MayBeWrapped (if t then [] else shown_by own packet) × (length (if t then [] else shown_by own packet) ≤ 1452)) [
  | true ↦ λ tunnel. (inl refl, omega arith)
  | false ↦ λ other. shown_may own packet listed other
] refl

wrapped_is : (kind : ChangeoverType) (old : OldSession) (own count : ℕ) (k : Kept) → IsListed k.packet → old.bearer ≤ 1 → old.epoch < 2 ^ 64 → count < 2 ^ 16 → k.number < 2 ^ 16 → 1 ≤ count → IsTunnelPacket (wrapped kind old own count k)
wrapped_is kind old own count k listed two fits few number some =
    let may = load_may own k.packet listed in
    let is = wrapped_tunnel kind old count k.number (load_of own k.packet) two fits few number (λ none. absurd (let wrong : ⊥ = omega arith in wrong)) may.0 may.1 in
    record { told = _; whole = subst (λ inner. IsTunnel (record { kind = kind; old = old; count = count; number = k.number; inner = inner })) (sym (load_inner own k)) is; spelled = refl }

-- ---- a run

each_wrapped : (kind : ChangeoverType) (old : OldSession) (own count before : ℕ) (packets : List (List ℕ)) → All IsListed packets → old.bearer ≤ 1 → old.epoch < 2 ^ 64 → count < 2 ^ 16 → 1 ≤ count
    → Each IsTunnelPacket (map (wrapped kind old own count) (kept_after before packets))
each_wrapped kind old own count before [] listed two fits few some k bytes is = absurd (let none : ⊥ = cc in none)
each_wrapped kind old own count before (p ∷ ps) listed two fits few some zero bytes is =
    let k : Kept = record { number = number_of (before + 1); packet = p } in
    let same : wrapped kind old own count k ≡ bytes = cc in
    subst IsTunnelPacket same (wrapped_is kind old own count k (All-head IsListed p ps listed) two fits few (number_of-below (before + 1)) some)
each_wrapped kind old own count before (p ∷ ps) listed two fits few some (suc i) bytes is =
    each_wrapped kind old own count (before + 1) ps (All-tail IsListed p ps listed) two fits few some i bytes is

run_is : (kind : ChangeoverType) (old : OldSession) (own before : ℕ) (packets : List (List ℕ)) → All IsListed packets → old.bearer ≤ 1 → old.epoch < 2 ^ 64 → length packets ≤ 50 → Each IsTunnelPacket (run_of kind old own (kept_after before packets))
unfolding run_of
run_is kind old own before [] listed two fits few = Each-one IsTunnelPacket (marker kind old) (record {
  told = _;
  whole = record {
    bearer = two;
    epoch = fits;
    count = omega arith;
    number = omega arith;
    run = λ none. (refl, refl);
    inner = inl refl;
    size = omega arith;
  };
  spelled = refl;
})
run_is kind old own before (p ∷ ps) listed two fits few =
    let long = kept_length before (p ∷ ps) in
    each_wrapped kind old own (length (kept_after before (p ∷ ps))) before (p ∷ ps) listed two fits (omega arith) (omega arith)

run_put : (own : ℕ) (kind : ChangeoverType) (old : OldSession) (sender before : ℕ) (packets : List (List ℕ)) → All IsListed packets → old.bearer ≤ 1 → old.epoch < 2 ^ 64 → length packets ≤ 50
    → Each (IsPacket own) (run_of kind old sender (kept_after before packets))
run_put own kind old sender before packets listed two fits few k bytes is =
    (let t = run_is kind old sender before packets listed two fits few k bytes is in subst (IsPacket own) (sym t.spelled) (tunnel_put own t.told t.whole))

-- ---- what is handed over

each_filter : (P : List ℕ → Type 0) (f : List ℕ → Bool) (xs : List (List ℕ)) → Each P xs → Each P (filter f xs)
each_filter P f [] h = Each-none P
each_filter P f (x ∷ xs) h = elim (f x) as (λ t. Each P (if t then x ∷ filter f xs else filter f xs)) [
  | true ↦ Each-append P (x ∷ []) (filter f xs) (Each-one P x (h 0 x refl)) (each_filter P f xs (λ k y is. h (suc k) y is))
  | false ↦ each_filter P f xs (λ k y is. h (suc k) y is)
]

-- a session on one of the two bearers, whose waiting packets can be put
pub record CanHandOver (own : ℕ) (s : SessionEnd) : Type 0 where
  pub two : s.bearer ≤ 1
  pub fits : s.epoch < 2 ^ 64
  pub few : length s.sending.unacked ≤ 50
  pub unacked : All IsListed s.sending.unacked
  pub waiting : Each (IsPacket own) s.sending.waiting

pub left_put : (own : ℕ) (s : SessionEnd) → CanHandOver own s → Each (IsPacket own) (left_by s)
left_put own s h = Each-append (IsPacket own) _ _ (run_put own Original (old_of s) s.own (acked_of s.sending) s.sending.unacked h.unacked h.two h.fits h.few) (each_filter (IsPacket own) (λ packet. not (is_tunnel packet)) s.sending.waiting h.waiting)

pub over_put : (own : ℕ) (s : SessionEnd) → CanHandOver own s → Each (IsPacket own) (taken_over s)
over_put own s h = Each-append (IsPacket own) _ _ (run_put own Duplicate (old_of s) s.own (acked_of s.sending) s.sending.unacked h.unacked h.two h.fits h.few) h.waiting

-- what holds of each holds of all
pub all_of : (P : List ℕ → Type 0) (xs : List (List ℕ)) → Each P xs → All P xs
all_of P [] h = All-nil P
all_of P (x ∷ xs) h = All-cons P x xs (h 0 x refl) (all_of P xs (λ k y is. h (suc k) y is))

-- a session of a link of a pair, under an epoch
pub record CanTravel (s : SessionEnd) : Type 0 where
  pub bearer : ℕ
  pub two : bearer ≤ 1
  pub on : IsSessionOn bearer s
  pub fits : s.epoch < 2 ^ 64

run_all : (kind : ChangeoverType) (s : SessionEnd) → CanTravel s → All IsTunnelPacket (run_of kind (old_of s) s.own (kept_of s.sending))
run_all kind s h =
    let two = h.two in
    let is = h.on.bearer_is in
    all_of IsTunnelPacket _ (run_is kind (old_of s) s.own (acked_of s.sending) s.sending.unacked h.on.unacked (omega arith) h.fits h.on.few)

pub left_listed : (s : SessionEnd) → CanTravel s → All IsListed (left_by s)
left_listed s h = run_listed (run_of Original (old_of s) s.own (kept_of s.sending)) _ (run_all Original s h) (plain_listed s.sending.waiting h.on.waiting)

pub over_listed : (s : SessionEnd) → CanTravel s → All IsListed (taken_over s)
over_listed s h = run_listed (run_of Duplicate (old_of s) s.own (kept_of s.sending)) s.sending.waiting (run_all Duplicate s h) h.on.waiting
