-- A message that is sent is the last one that was put in its contact, whether its packets wait behind all others or one joins the last packet
-- that waits.
use Rattle.std.proofs.Common.{◌≡◌, ◌<◌, ◌≤◌, ◌-◌, ℕ, false, List, [], ◌∷◌, ◌++◌, length, take, refl, sym, ap, ◌∙◌, subst, arith}
use Rattle.tipc_outside.specs.declared.outgoing.Outgoing.{Outgoing}
use Rattle.tipc_bundle.specs.Bundles.{IsInner, joined}
use Rattle.tipc_fragments.specs.Joining.{Joining}
use Rattle.tipc_link.specs.Records.{is_tunnel}
use Rattle.tipc_link.specs.Sessions.{IsPut, MayJoin, SessionEnd, joins, last_of, waits}
use Rattle.tipc_pair.specs.Facing.{PairEnds, facing, is_up_at}
use Rattle.tipc_pair.specs.PairCalls.{SendsWithin}
use Rattle.tipc_pair.specs.PairFacts.{IsPairOfEnds}
use Rattle.tipc_pair.specs.Messages.{pieces_for}
use Rattle.tipc_two_nodes.proofs.messages.Packets.{one_piece}
use Rattle.tipc_changeover.specs.Links.{Bearer, First, Second, State}
use Rattle.tipc_changeover.proofs.Staying.{reached_sound}
use Rattle.tipc_two_nodes.specs.links.Acting.{put_in}
use Rattle.tipc_two_nodes.specs.links.Ends.{IsUpAt, up_beside}
use Rattle.tipc_two_nodes.specs.links.Sending.{StandFor}
use Rattle.tipc_two_nodes.specs.links.Traffic.{Traffic}
use Rattle.tipc_two_nodes.proofs.links.sender.LinkSteps.{near_seen}
use Rattle.tipc_pair.proofs.Putting.{carries_plain}
use Rattle.tipc_paired.proofs.wires.Wires.{same_some}
use Rattle.tipc_paired.specs.Views.{View}
use Rattle.tipc_two_nodes.proofs.deeds.EndsKept.{ends_facing}
use Rattle.tipc_two_nodes.proofs.deeds.Pairs.{of_facing}
use Rattle.tipc_two_nodes.specs.deeds.PairDeeds.{IsOfPair}
use Rattle.tipc_two_nodes.specs.Carriages.{Carriage}
use Rattle.tipc_two_nodes.specs.Messages.{AreMessages}
use Rattle.tipc_two_nodes.specs.Pieces.{state_from, traffic_from}
use Rattle.tipc_two_nodes.specs.Twins.{AreTwins, sends_in}
use Rattle.tipc_two_nodes.proofs.calls.CallCourses.{are_ends_of}
use Rattle.tipc_two_nodes.proofs.contacts.Fronts.{taken_within}
use Rattle.tipc_two_nodes.proofs.calls.PairViews.{sound_from}
use Rattle.tipc_two_nodes.proofs.calls.QuietCourses.{bearer_of, stand_at}
use Rattle.tipc_two_nodes.proofs.calls.SendTwins.{active_at}
use Rattle.tipc_two_nodes.proofs.messages.Talking.{LastPut, joins_last, last_put, puts_behind}

-- by what the session did
put_messages : (c c' : Carriage) (put given : List (List ℕ)) (begun : Joining) (s v : SessionEnd) (m : List ℕ) (pieces : List (List ℕ)) → pieces ≡ pieces_for m → AreMessages c put given begun → IsInner m → length c.state.delivered ≤ length c.traffic.put
    → (0 < length s.sending.waiting → is_tunnel (last_of s) ≡ false → LastPut c.traffic.put (length c.state.delivered) (last_of s)) → (is_put : IsPut s pieces v) → c'.traffic.put ≡ (put_in c.traffic is_put).put → c'.state.delivered ≡ c.state.delivered
    → AreMessages c' (put ++ m ∷ []) given begun
put_messages c c' put given begun s _ m _ are h inner within last (waits pieces alone) is same =
    puts_behind c c' put given begun s m h inner (is ∙ ap (λ ps. c.traffic.put ++ ps) are) same within
put_messages c c' put given begun s _ m _ are h inner within last (joins packets packet may) is same =
    let one = (one_piece m packet (sym are)).0 in
    let line = take (length c.traffic.put - 1) c.traffic.put in
    let L = last may.waits (carries_plain (last_of s) packets may.last) in
    joins_last c c' put given begun s packets m line h inner (sym are ∙ ap (λ p. p ∷ []) (sym one)) (subst (MayJoin s packets) (sym one) may) L.last (is ∙ ap (λ p. line ++ joined (packets ++ p ∷ []) ∷ []) (sym one)) same L.behind

-- ---- the packet that waits last on the active link

put_same : (b : Bearer) (t : Traffic) → (traffic_from b t).put ≡ t.put
put_same First t = refl
put_same Second t = refl

delivered_same : (b : Bearer) (s : State) → (state_from b s).delivered ≡ s.delivered
delivered_same First s = refl
delivered_same Second s = refl

last_waiting : (v y : View) (x x' : PairEnds) (pieces : List (List ℕ)) (limit : ℕ) (frames : List Outgoing) (h : AreTwins v y) → IsOfPair v x → IsPairOfEnds x → (s : SendsWithin x pieces limit x' frames) → 0 < length s.puts.session.sending.waiting → is_tunnel (last_of s.puts.session) ≡ false
    → LastPut (sends_in v y h).traffic.put (length (sends_in v y h).state.delivered) (last_of s.puts.session)
last_waiting v y x x' pieces limit frames h pair ends s some plain =
    let z = facing s.bearer x in
    let e = s.puts.end in
    let u = s.puts.session in
    let c = sends_in v y h in
    let of = of_facing v s.bearer x pair in
    let at = bearer_of z.bearer of.two_bearers in
    let b = at.0 in
    let up = ap is_up_at (sym s.puts.end_is) ∙ (active_at x x' pieces limit frames s).up in
    let r = (are_ends_of v y z h of (ends_facing s.bearer x ends)).near e s.puts.end_is up in
    let k = subst (λ w. IsUpAt z.bearer z.near e w) (same_some r.session u e.session r.up_at.session_is s.puts.session_is) r.up_at in
    let stand = subst (λ w. StandFor b w (traffic_from b c.traffic) (state_from b c.state)) (near_seen z e u k) (stand_at b v y h z of at.1) in
    let sound = sound_from b c.state (reached_sound c.state (h.sends.sent v.node.contact v.node.seen).reached) in
    let L = last_put b (up_beside z e u) (traffic_from b c.traffic) (state_from b c.state) stand sound refl (omega arith) plain in
    subst (λ ps. LastPut ps (length c.state.delivered) (last_of u)) (put_same b c.traffic) (subst (λ (ds : List ℕ). LastPut (traffic_from b c.traffic).put (length ds) (last_of u)) (delivered_same b c.state) L)

-- ---- the call

pub sent_messages : (v y : View) (x x' : PairEnds) (m : List ℕ) (limit : ℕ) (frames : List Outgoing) (h : AreTwins v y) (c' : Carriage) (put given : List (List ℕ)) (begun : Joining) → IsOfPair v x → IsPairOfEnds x → IsInner m → (s : SendsWithin x (pieces_for m) limit x' frames)
    → c'.traffic.put ≡ (put_in (sends_in v y h).traffic s.puts.is_put).put → c'.state.delivered ≡ (sends_in v y h).state.delivered → AreMessages (sends_in v y h) put given begun → AreMessages c' (put ++ m ∷ []) given begun
sent_messages v y x x' m limit frames h c' put given begun pair ends inner s is same are =
    let c = sends_in v y h in
    put_messages c c' put given begun s.puts.session s.puts.put m (pieces_for m) refl are inner (taken_within v h.here v.node.contact v.node.seen c (h.sends.sent v.node.contact v.node.seen))
    (λ some plain. last_waiting v y x x' (pieces_for m) limit frames h pair ends s some plain) s.puts.is_put is same
