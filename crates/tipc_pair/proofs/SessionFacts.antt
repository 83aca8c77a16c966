-- What is true of a session of a pair stays so at what its link and the pair do with it.
use Rattle.std.proofs.Common.{◌≡◌, ◌≤◌, ◌-◌, ℕ, Bool, true, List, [], ◌∷◌, ◌++◌, inl, inr, length, take, refl, sym, subst, arith, length-append, length-drop}
use Rattle.std.specs.Prelude.{All}
use Rattle.std.proofs.lemmas.List.{length-take}
use Rattle.std.proofs.lemmas.List.Elements.{All-append, All-drop, All-nil, All-take, All-weaker}
use Rattle.tipc_header.specs.declared.packet.Header.{Header}
use Rattle.tipc_header.specs.declared.packet.Header.TheVariants as header
use Rattle.tipc_tunnel.specs.Tunnels.{IsTunnellable, may_stand_in_tunnel, tunnel_packet}
use Rattle.tipc_tunnel.proofs.TunnelLaws.{tunnel_fits}
use Rattle.tipc_bundle.specs.Bundles.{Carries as Waits, IsInner as IsBundled, bundle_of, joined, may_stand_inside as may_be_bundled}
use Rattle.tipc_bundle.proofs.Bundling.{one_or_several}
use Rattle.tipc_send_window.specs.Sending.{release_count, room}
use Rattle.tipc_link.specs.Records.{Received}
use Rattle.tipc_link.specs.Sessions.{SessionEnd, Content, Carries, Nothing, Shows, IsPut, IsWaiting, MayJoin, arrived, begun_with, flushed, given_up, heard, joins, noted, put, after_acknowledgement, repeated, spoke, after_state, waiting_given, waits, with_record, tunnel as over_tunnel}
use Rattle.tipc_link.proofs.JoinLaws.{carried_waits, other_waits}
use Rattle.tipc_pair.specs.PairFacts.{IsSessionOn}
use Rattle.tipc_pair.specs.Runs.{IsListed, plain, tunnel}
use Rattle.tipc_pair.proofs.Pieces.{All-one}

-- ---- packets that stand in a list may wait

pub listed_waits : (packet : List ℕ) → IsListed packet → IsWaiting packet
listed_waits packet (plain may inner size) = may
listed_waits packet (tunnel made) =
    subst IsWaiting (sym made.spelled) (other_waits (tunnel_packet made.told) (tunnel_fits made.told made.whole) (λ b e. let wrong : ⊥ = cc in wrong) (over_tunnel made.told made.whole refl))

pub all_wait : (packets : List (List ℕ)) → All IsListed packets → All IsWaiting packets
all_wait packets h = All-weaker IsListed IsWaiting listed_waits packets h

-- what may stand in a bundle may stand in a tunnel packet
inside_too : (h : Header) → may_be_bundled h ≡ true → may_stand_in_tunnel h ≡ true
inside_too (header.Payload m) e = refl
inside_too (header.NameDistributor n) e = refl
inside_too other e = cc

inner_carried : (bundle : List ℕ) (packets : List (List ℕ)) → Waits bundle packets → IsTunnellable bundle
inner_carried bundle packets h = elim (one_or_several bundle packets h) [
  | inl one ↦ record { packet = one.0.packet; fits = one.0.fits; spelled = one.0.spelled; inside = inside_too one.0.packet.header one.0.inside }
  | inr several ↦ record { packet = bundle_of packets; fits = several.1; spelled = several.2; inside = refl }
]

joined_listed : (s : SessionEnd) (packets : List (List ℕ)) (packet : List ℕ) → MayJoin s packets packet → IsListed (joined (packets ++ packet ∷ []))
joined_listed s packets packet m =
    let all = packets ++ packet ∷ [] in
    let fits : length (joined all) ≤ 1452 = m.fits in
    let waiting : Waits (joined all) all = record {
      some = omega (arith, length-append packets (packet ∷ []));
      inner = All-append IsBundled packets (packet ∷ []) m.last.inner (All-one IsBundled packet m.inner);
      joined = refl;
      size = omega arith;
    } in
    plain (carried_waits (joined all) all waiting fits) (inner_carried (joined all) all waiting) fits

-- no packet stands in an empty list
none_listed : All IsListed []
none_listed = All-nil IsListed

-- ---- what a session does with its packets

-- a session that has just begun
pub begun_on : (bearer own peer on epoch peer_epoch : ℕ) (r : Received) → on ≡ bearer → IsSessionOn bearer (begun_with own peer on epoch peer_epoch r)
begun_on bearer own peer on epoch peer_epoch r is = record { bearer_is = is; few = omega arith; waiting = none_listed; unacked = none_listed }

pub put_on : (bearer : ℕ) (s after : SessionEnd) (pieces : List (List ℕ)) → IsSessionOn bearer s → All IsListed pieces → IsPut s pieces after → IsSessionOn bearer after
put_on bearer s after pieces h listed (joins packets packet m) =
    let before = take (length s.sending.waiting - 1) s.sending.waiting in
    record {
      bearer_is = h.bearer_is;
      few = h.few;
      waiting = All-append IsListed before (joined (packets ++ packet ∷ []) ∷ []) (All-take IsListed (length s.sending.waiting - 1) s.sending.waiting h.waiting)
          (All-one IsListed (joined (packets ++ packet ∷ [])) (joined_listed s packets packet m));
      unacked = h.unacked;
    }
put_on bearer s after pieces h listed (waits others alone) = record {
  bearer_is = h.bearer_is;
  few = h.few;
  waiting = All-append IsListed s.sending.waiting others h.waiting listed;
  unacked = h.unacked;
}

pub put_listed : (bearer : ℕ) (s : SessionEnd) (pieces : List (List ℕ)) → IsSessionOn bearer s → All IsListed pieces → IsSessionOn bearer (put s pieces)
put_listed bearer s pieces h listed = record { bearer_is = h.bearer_is; few = h.few; waiting = All-append IsListed s.sending.waiting pieces h.waiting listed; unacked = h.unacked }

pub flushed_on : (bearer : ℕ) (s : SessionEnd) → IsSessionOn bearer s → IsSessionOn bearer (flushed s)
unfolding flushed
flushed_on bearer s h =
    let n : ℕ = room s.sending in
    let few = h.few in
    record {
      bearer_is = h.bearer_is;
      few = omega (arith, length-append s.sending.unacked (take n s.sending.waiting), length-take n s.sending.waiting);
      waiting = All-drop IsListed n s.sending.waiting h.waiting;
      unacked = All-append IsListed s.sending.unacked (take n s.sending.waiting) h.unacked (All-take IsListed n s.sending.waiting h.waiting);
    }

released_on : (bearer : ℕ) (s : SessionEnd) (acknowledgement : ℕ) → IsSessionOn bearer s → IsSessionOn bearer (after_acknowledgement s acknowledgement)
released_on bearer s acknowledgement h =
    let n : ℕ = release_count s.sending acknowledgement in
    let few = h.few in
    record {
      bearer_is = h.bearer_is;
      few = omega (arith, length-drop n s.sending.unacked);
      waiting = h.waiting;
      unacked = All-drop IsListed n s.sending.unacked h.unacked;
    }

spoke_on : {A : Type 0} (bearer : ℕ) (s : SessionEnd) (sent : List A) → IsSessionOn bearer s → IsSessionOn bearer (spoke s sent)
spoke_on bearer s [] h = h
spoke_on bearer s (first ∷ others) h = record { bearer_is = h.bearer_is; few = h.few; waiting = h.waiting; unacked = h.unacked }

noted_on : (bearer : ℕ) (s : SessionEnd) (next : ℕ) (probe : Bool) → IsSessionOn bearer s → IsSessionOn bearer (noted s next probe)
noted_on bearer s next probe h = record { bearer_is = h.bearer_is; few = h.few; waiting = h.waiting; unacked = h.unacked }

pub arrived_on : (bearer : ℕ) (s : SessionEnd) (by acknowledgement : ℕ) (c : Content) → IsSessionOn bearer s → IsSessionOn bearer (arrived s by acknowledgement c)
arrived_on bearer s by acknowledgement Nothing h = h
arrived_on bearer s by acknowledgement (Shows next gap probe) h =
    let sent = repeated (after_acknowledgement s acknowledgement) acknowledgement gap in
    flushed_on bearer (heard s by acknowledgement (Shows next gap probe))
    (noted_on bearer (spoke (after_acknowledgement s acknowledgement) sent) next probe (spoke_on bearer (after_acknowledgement s acknowledgement) sent (released_on bearer s acknowledgement h)))
arrived_on bearer s by acknowledgement (Carries number packet) h =
    let now = released_on bearer s acknowledgement h in
    flushed_on bearer (heard s by acknowledgement (Carries number packet)) (record { bearer_is = now.bearer_is; few = now.few; waiting = now.waiting; unacked = now.unacked })

pub told_on : (bearer : ℕ) (s : SessionEnd) → IsSessionOn bearer s → IsSessionOn bearer (after_state s)
told_on bearer s h = record { bearer_is = h.bearer_is; few = h.few; waiting = h.waiting; unacked = h.unacked }

pub record_on : (bearer : ℕ) (r : Received) (s : SessionEnd) → IsSessionOn bearer s → IsSessionOn bearer (with_record s r)
record_on bearer r s h = record { bearer_is = h.bearer_is; few = h.few; waiting = h.waiting; unacked = h.unacked }

pub given_up_on : (bearer : ℕ) (s : SessionEnd) → IsSessionOn bearer s → IsSessionOn bearer (given_up s)
given_up_on bearer s h = record { bearer_is = h.bearer_is; few = omega arith; waiting = none_listed; unacked = none_listed }

pub waiting_given_on : (bearer : ℕ) (s : SessionEnd) → IsSessionOn bearer s → IsSessionOn bearer (waiting_given s)
waiting_given_on bearer s h = record { bearer_is = h.bearer_is; few = h.few; waiting = none_listed; unacked = h.unacked }
