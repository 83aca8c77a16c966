-- Runs of tunnel packets stand in the lists of a link, and before what follows them.
use Rattle.std.specs.Prelude.{All, IfOk, filter, not}
use Rattle.std.proofs.Common.{◌≡◌, ◌≤◌, ◌<◌, ◌+◌, ◌^◌, ◌∙◌, ℕ, List, [], ◌∷◌, ◌++◌, Result, Ok, Err, length, refl, subst, ap, arith}
use Rattle.std.proofs.lemmas.List.Elements.{All-append, All-cons, All-filter, All-head, All-nil, All-tail, All-weaker}
use Rattle.tipc_types.specs.Position.{number_of}
use Rattle.tipc_types.specs.declared.link_words.OldSession.{OldSession}
use Rattle.tipc_types.specs.declared.packet_lists.Kept.{Kept}
use Rattle.tipc_header.specs.declared.packet.ChangeoverType.{ChangeoverType}
use Rattle.tipc_header.specs.Spelling.{spelling}
use Rattle.tipc_tunnel.specs.Tunnels.{IsRun, IsTunnel, MayBeWrapped, Tunnelled, numbered, tunnel_packet}
use Rattle.tipc_tunnel.proofs.InnerLaws.{numbered-none}
use Rattle.tipc_tunnel.proofs.TunnelLaws.{wrapped_inner, wrapped_length}
use Rattle.tipc_send_window.specs.Sending.{kept_after}
use Rattle.tipc_link.specs.Records.{is_tunnel}
use Rattle.tipc_pair.specs.Runs.{BeginsWithTunnel, IsListed, IsTunnelPacket, run_of, tunnel}
use Rattle.tipc_pair.proofs.Listed.{packet_tunnel}

-- ---- one tunnel packet

pub made_tunnel_is : (kind : ChangeoverType) (bearer epoch count number : ℕ) (inner : List ℕ) → bearer ≤ 1 → epoch < 2 ^ 64 → count < 2 ^ 16 → number < 2 ^ 16
    → IsRun count number inner → MayBeWrapped inner → length inner ≤ 1452
    → IsTunnel (record { kind = kind; old = record { bearer = bearer; epoch = epoch }; count = count; number = number; inner = numbered number inner })
made_tunnel_is kind bearer epoch count number inner two fits counted below run may size = record {
  bearer = two;
  epoch = fits;
  count = counted;
  number = below;
  run = λ none. (let r = run none in (r.0, ap (λ (xs : List ℕ). numbered number xs) r.1 ∙ numbered-none number));
  inner = wrapped_inner number inner below may;
  size = omega (arith, wrapped_length number inner may);
}

pub made_packet : {F : Type 0} (r : Result (List ℕ) F) (t : Tunnelled) → IsTunnel t → IfOk r (λ bytes. bytes ≡ spelling (tunnel_packet t)) → IfOk r (λ bytes. IsTunnelPacket bytes)
made_packet (Ok bytes) t is spelled = record { told = t; whole = is; spelled = spelled }
made_packet (Err fault) t is spelled = spelled

-- ---- a run

pub kept_listed : (before : ℕ) (packets : List (List ℕ)) → All IsListed packets → All (λ (k : Kept). IsListed k.packet) (kept_after before packets)
kept_listed before [] h = All-nil (λ (k : Kept). IsListed k.packet)
kept_listed before (p ∷ ps) h =
    All-cons (λ (k : Kept). IsListed k.packet) (record { number = number_of (before + 1); packet = p }) (kept_after (before + 1) ps) (All-head IsListed p ps h)
    (kept_listed (before + 1) ps (All-tail IsListed p ps h))

pub run_some : (kind : ChangeoverType) (old : OldSession) (own : ℕ) (kept : List Kept) → 0 < length (run_of kind old own kept)
unfolding run_of
run_some kind old own [] = omega arith
run_some kind old own (first ∷ others) = omega arith

pub begins_with_tunnel : (run others : List (List ℕ)) → All IsTunnelPacket run → 0 < length run → BeginsWithTunnel (run ++ others)
begins_with_tunnel [] others h some = absurd (omega arith)
begins_with_tunnel (p ∷ ps) others h some = packet_tunnel p (All-head IsTunnelPacket p ps h)

pub run_listed : (run others : List (List ℕ)) → All IsTunnelPacket run → All IsListed others → All IsListed (run ++ others)
run_listed run others h listed = All-append IsListed run others (All-weaker IsTunnelPacket IsListed (λ p made. tunnel made) run h) listed

pub plain_listed : (packets : List (List ℕ)) → All IsListed packets → All IsListed (filter (λ packet. not (is_tunnel packet)) packets)
plain_listed packets h = All-filter (λ packet. not (is_tunnel packet)) IsListed packets h

pub old_is : (o : OldSession) (bearer epoch : ℕ) → o.bearer ≡ bearer → o.epoch ≡ epoch → o ≡ record { bearer = bearer; epoch = epoch }
old_is o bearer epoch on named = subst (λ n. o ≡ record { bearer = n; epoch = epoch }) on (subst (λ n. o ≡ record { bearer = o.bearer; epoch = n }) named refl)
