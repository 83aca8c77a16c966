-- Packets that stand in the lists of a link: which of them are tunnel packets.
use Rattle.std.proofs.Common.{◌≡◌, ◌≤◌, ℕ, Bool, true, false, List, [], ◌∷◌, length, refl, sym, subst, ap, arith, is_none, ◌&&◌, ◌∙◌, ◌++◌, not, map, ◌<◌, get_or}
use Rattle.std.specs.Prelude.{All, filter, nat_lt}
use Rattle.tipc_types.specs.declared.packet_lists.Taken.{Taken}
use Rattle.tipc_pair.specs.PairArrivals.{with_bytes}
use Rattle.std.proofs.lemmas.List.Elements.{All-get_or, filter-append}
use Rattle.tipc_header.specs.Reading.{fields_at}
use Rattle.tipc_header.specs.Spelling.{Fields, spelling}
use Rattle.tipc_header.specs.Grammar.{Fits}
use Rattle.tipc_header.proofs.Again.{again, no_fault}
use Rattle.tipc_link.specs.Records.{is_changeover, is_tunnel}
use Rattle.tipc_tunnel.specs.Tunnels.{IsTunnellable, IsTunnel, Tunnelled, tunnel_packet}
use Rattle.tipc_tunnel.proofs.TunnelLaws.{tunnel_fits}
use Rattle.tipc_types.specs.declared.link_words.OldSession.{OldSession}
use Rattle.tipc_types.specs.declared.packet_lists.Kept.{Kept}
use Rattle.tipc_header.specs.declared.packet.ChangeoverType.{ChangeoverType}
use Rattle.tipc_pair.specs.Runs.{IsListed, IsTunnelPacket, marker, plain, run_of, tunnel, wrapped}

pub spelled_tunnel : (p : Fields) → Fits p → is_tunnel (spelling p) ≡ is_changeover p.header
unfolding is_tunnel
spelled_tunnel p fits =
    ap (λ o. is_none o && is_changeover (fields_at (spelling p)).header) (no_fault p fits) ∙ ap (λ (q : Fields). is_changeover q.header) (again p fits)

pub made_tunnel : (t : Tunnelled) → IsTunnel t → is_tunnel (spelling (tunnel_packet t)) ≡ true
made_tunnel t h = spelled_tunnel (tunnel_packet t) (tunnel_fits t h)

pub packet_tunnel : (packet : List ℕ) → IsTunnelPacket packet → is_tunnel packet ≡ true
packet_tunnel packet made = ap is_tunnel made.spelled ∙ made_tunnel made.told made.whole

-- no test is both
pub both_ways : {A : Type 0} (b : Bool) → b ≡ true → b ≡ false → A
both_ways true h k = grind arith
both_ways false h k = grind arith

-- a packet that is no tunnel packet may stand in one
pub listed_inner : (packet : List ℕ) → IsListed packet → is_tunnel packet ≡ false → IsTunnellable packet
listed_inner packet (plain waits inner size) other = inner
listed_inner packet (tunnel made) other = both_ways (is_tunnel packet) (packet_tunnel packet made) other

pub listed_size : (packet : List ℕ) → IsListed packet → is_tunnel packet ≡ false → length packet ≤ 1452
listed_size packet (plain waits inner size) other = size
listed_size packet (tunnel made) other = both_ways (is_tunnel packet) (packet_tunnel packet made) other

pub run_of_none : (kind : ChangeoverType) (old : OldSession) (own : ℕ) (kept : List Kept) → length kept ≡ 0 → run_of kind old own kept ≡ marker kind old ∷ []
unfolding run_of
run_of_none kind old own [] none = refl
run_of_none kind old own (first ∷ others) none = grind arith

-- the packets of a list that are no tunnel packets
pub plain_append : (xs ys : List (List ℕ)) → filter (λ packet. not (is_tunnel packet)) (xs ++ ys)
    ≡ filter (λ packet. not (is_tunnel packet)) xs ++ filter (λ packet. not (is_tunnel packet)) ys
plain_append xs ys = filter-append (λ packet. not (is_tunnel packet)) xs ys

pub run_of_some : (kind : ChangeoverType) (old : OldSession) (own : ℕ) (kept : List Kept) → 0 < length kept → run_of kind old own kept ≡ map (wrapped kind old own (length kept)) kept
unfolding run_of
run_of_some kind old own [] some = grind arith
run_of_some kind old own (first ∷ others) some = refl

-- the packet at a place of a list
pub listed_at : (kept : List Kept) (i : ℕ) (k : Kept) → All (λ (q : Kept). IsListed q.packet) kept → i < length kept → k ≡ get_or kept i k → IsListed k.packet
listed_at kept i k h within is = subst (λ (q : Kept). IsListed q.packet) (sym is) (All-get_or (λ (q : Kept). IsListed q.packet) kept i k within h)

-- the packets of a list that have bytes
pub bytes_append : (xs ys : List Taken) → with_bytes (xs ++ ys) ≡ with_bytes xs ++ with_bytes ys
bytes_append xs ys = filter-append (λ (t : Taken). nat_lt 0 (length t.packet)) xs ys
