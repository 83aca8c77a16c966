-- A run is put behind all that a link has: nothing of it joins the last packet that waits.
use Rattle.std.proofs.Common.{◌≡◌, ℕ, true, false, List, inl, inr, refl, ap, ◌∙◌}
use Rattle.tipc_header.specs.declared.packet.Header.{Header}
use Rattle.tipc_header.specs.declared.packet.Header.TheVariants as header
use Rattle.tipc_bundle.specs.Bundles.{Carries, IsInner, bundle_of, may_stand_inside}
use Rattle.tipc_bundle.proofs.Bundling.{one_or_several}
use Rattle.tipc_link.specs.Records.{is_changeover, is_tunnel}
use Rattle.tipc_link.specs.Sessions.{IsPut, SessionEnd, joins, put, waits}
use Rattle.tipc_pair.specs.Runs.{BeginsWithTunnel}
use Rattle.tipc_pair.proofs.Listed.{both_ways, spelled_tunnel}

inside_plain : (h : Header) → may_stand_inside h ≡ true → is_changeover h ≡ false
inside_plain (header.Changeover c) e = both_ways false e refl
inside_plain other e = refl

pub inner_plain : (packet : List ℕ) → IsInner packet → is_tunnel packet ≡ false
inner_plain packet h = ap is_tunnel h.spelled ∙ (spelled_tunnel h.packet h.fits ∙ inside_plain h.packet.header h.inside)

-- a packet that carries others is no tunnel packet
pub carries_plain : (bytes : List ℕ) (packets : List (List ℕ)) → Carries bytes packets → is_tunnel bytes ≡ false
carries_plain bytes packets h = elim (one_or_several bytes packets h) [
  | inl one ↦ inner_plain bytes one.0
  | inr several ↦ ap is_tunnel several.2 ∙ spelled_tunnel (bundle_of packets) several.1
]

pub put_is : (s after : SessionEnd) (pieces : List (List ℕ)) → BeginsWithTunnel pieces → IsPut s pieces after → after ≡ put s pieces
put_is s after pieces run (joins packets packet m) = both_ways (is_tunnel packet) run (inner_plain packet m.inner)
put_is s after pieces run (waits others alone) = refl
