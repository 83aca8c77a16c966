-- A packet that joins the last one that waits.
use Rattle.std.proofs.Common.{◌≡◌, ℕ, ◌-◌, ◌≤◌, true, List, [], ◌∷◌, ◌++◌, Option, Some, None, Result, Ok, Err, length, slice_get, inl, inr, refl, sym, ap, subst, ◌∙◌, arith}
use Rattle.std.specs.Prelude.{IfNone, OnOk}
use Rattle.std.proofs.lemmas.Option.{get_or_from_slice_get, slice_get_within}
use Rattle.tipc_header.specs.declared.packet.Bundle.{Bundle}
use Rattle.tipc_header.specs.declared.packet.Fragment.{Fragment}
use Rattle.tipc_header.specs.declared.packet.Header.{Header}
use Rattle.tipc_header.specs.declared.packet.Header.TheVariants as header
use Rattle.tipc_header.specs.Spelling.{Fields, spelling}
use Rattle.tipc_header.specs.Grammar.{Fits}
use Rattle.tipc_header.proofs.RoundTrip.{one_packet, spelling-least}
use Rattle.tipc_bundle.specs.Bundles.{Carries as Waits, IsInner, bundle_of, may_stand_inside as may_be_bundled}
use Rattle.tipc_bundle.specs.Splitting.{IsBundle}
use Rattle.tipc_bundle.proofs.Bundling.{carries_itself, length-bundle, one_or_several}
use Rattle.tipc_bundle.proofs.InnerLaws.{inner-least}
use Rattle.tipc_tunnel.specs.Tunnels.{IsTunnellable as MayStandInside, may_stand_in_tunnel as may_be_tunnelled}
use Rattle.tipc_link.specs.Sessions.{SessionEnd, IsPut, IsWaiting, MayChangeOver, MayJoin, inside, joins, last_of, put, waits, with_last}
use Rattle.tipc_link.specs.Hearings.{IsJoined}

-- what waits for others is payload, name items or a bundle
pub other_waits_for_none : (last : List ℕ) (packets : List (List ℕ)) → (IsInner last → ⊥) → (IsBundle last → ⊥) → Waits last packets → ⊥
other_waits_for_none last packets not_inner not_bundle h = elim (one_or_several last packets h) [
  | inl one ↦ not_inner one.0
  | inr several ↦ not_bundle (record {
    packet = bundle_of packets;
    bundle = record { broadcast_acknowledgement = 0; count = length packets };
    fits = several.1;
    spelled = several.2;
    user = refl;
  })
]

pub joins_last : (e : SessionEnd) (pieces : List (List ℕ)) (packet last bundle : List ℕ) (packets : List (List ℕ))
    → pieces ≡ packet ∷ [] → slice_get e.sending.waiting (length e.sending.waiting - 1) ≡ Some last → Waits last packets → IsInner packet → Waits bundle (packets ++ packet ∷ []) → length bundle ≤ 1452
    → IsJoined e pieces bundle
joins_last e pieces packet last bundle packets alone there carried inner made fits =
    let within = slice_get_within e.sending.waiting (length e.sending.waiting - 1) last there in
    let same : last_of e ≡ last = get_or_from_slice_get e.sending.waiting (length e.sending.waiting - 1) last [] there in
    record {
      packets = packets;
      packet = packet;
      alone = alone;
      may_join = record {
        waits = omega (arith, within);
        last = subst (λ q. Waits q packets) (sym same) carried;
        inner = inner;
        fits = subst (λ q. length q ≤ 1452) made.joined fits;
      };
      joined = made;
    }

pub joined_is_put : (e : SessionEnd) (pieces : List (List ℕ)) (bundle : List ℕ) → IsJoined e pieces bundle → IsPut e pieces (with_last e bundle)
joined_is_put e pieces bundle h =
    let all = h.packets ++ h.packet ∷ [] in
    subst (λ ps. IsPut e ps (with_last e bundle)) (sym h.alone) (subst (λ q. IsPut e (h.packet ∷ []) (with_last e q)) (sym h.joined.joined) (joins h.packets h.packet h.may_join))

-- packets that may not join wait behind the others
pub waiting_is_put : {F : Type 0} (r : Result (Unit {0}) F) (e after : SessionEnd) (pieces : List (List ℕ))
    → ((packets : List (List ℕ)) (packet : List ℕ) → pieces ≡ packet ∷ [] → MayJoin e packets packet → ⊥)
    → OnOk r (after ≡ put e pieces) → OnOk r (IsPut e pieces after)
waiting_is_put (Ok done) e after pieces none ok = subst (IsPut e pieces) (sym ok) (waits pieces none)
waiting_is_put (Err fault) e after pieces none ok = ok

pub none_given : (o : Option (List ℕ)) (P : Type 0) → ((x : List ℕ) → o ≡ Some x → ⊥) → IfNone o P → P
none_given None P none h = h
none_given (Some x) P none h = absurd (none x refl)

-- ---- what may wait

-- what may stand inside a bundle may stand inside a tunnel packet
inside_tunnels : (h : Header) → may_be_bundled h ≡ true → may_be_tunnelled h ≡ true
inside_tunnels (header.Payload m) fits = refl
inside_tunnels (header.NameDistributor n) fits = refl
inside_tunnels (header.Bundler b) fits = refl
inside_tunnels (header.Fragmenter f) fits = refl
inside_tunnels other fits = fits

inner_inside : (packet : List ℕ) → IsInner packet → MayStandInside packet
inner_inside packet h = record { packet = h.packet; fits = h.fits; spelled = h.spelled; inside = inside_tunnels h.packet.header h.inside }

-- payload and name items
pub inner_waits : (packet : List ℕ) → IsInner packet → length packet ≤ 1452 → IsWaiting packet
inner_waits packet h short = record {
  long = omega (arith, inner-least packet h);
  made = λ _. (packet ∷ [], carries_itself packet h);
  changes_over = inside (inner_inside packet h) short;
}

-- a bundle that was made of packets
pub carried_waits : (bundle : List ℕ) (packets : List (List ℕ)) → Waits bundle packets → length bundle ≤ 1452 → IsWaiting bundle
carried_waits bundle packets h short = elim (one_or_several bundle packets h) [
  | inl one ↦ inner_waits bundle one.0 short
  | inr several ↦ record {
    long = omega (arith, ap length several.2, length-bundle packets);
    made = λ _. (packets, h);
    changes_over = inside (record { packet = bundle_of packets; fits = several.1; spelled = several.2; inside = refl }) short;
  }
]

-- and so may the bundle that a packet joins
pub joined_waits : (e : SessionEnd) (pieces : List (List ℕ)) (bundle : List ℕ) → IsJoined e pieces bundle → IsWaiting bundle
joined_waits e pieces bundle h =
    carried_waits bundle (h.packets ++ h.packet ∷ []) h.joined (subst (λ q. length q ≤ 1452) (sym h.joined.joined) h.may_join.fits)

-- any other packet that may change over
pub other_waits : (p : Fields) → Fits p → ((b : Bundle) → p.header ≡ header.Bundler b → ⊥) → MayChangeOver (spelling p) → IsWaiting (spelling p)
other_waits p fits none may = record {
  long = omega (arith, spelling-least p);
  made = λ h.
      let same : p ≡ h.packet = one_packet p h.packet fits h.fits h.spelled in
      absurd (none h.bundle (ap (λ (q : Fields). q.header) same ∙ h.user));
  changes_over = may;
}

-- a fragment
pub fragment_waits : (p : Fields) (f : Fragment) → Fits p → p.header ≡ header.Fragmenter f → length (spelling p) ≤ 1452 → IsWaiting (spelling p)
fragment_waits p f fits is short =
    other_waits p fits (λ b other. let no : header.Fragmenter f ≡ header.Bundler b = sym is ∙ other in absurd cc)
    (inside (record { packet = p; fits = fits; spelled = refl; inside = ap may_be_tunnelled is }) short)
