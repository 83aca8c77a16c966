-- A message is sent: its packets are put on the active link, and the two nodes stay what they are to each other.
use Rattle.std.specs.Prelude.{All, nat_le}
use Rattle.std.proofs.Common.{◌≡◌, ◌≤◌, ◌||◌, ◌==◌, ℕ, true, false, if◌then◌else◌, List, [], ◌∷◌, length, map, Some, refl, sym, ap, ◌∙◌, subst, arith}
use Rattle.std.proofs.lemmas.List.Elements.{All-head, All-tail}
use Rattle.tipc_outside.specs.declared.outgoing.Outgoing.{Outgoing}
use Rattle.tipc_header.specs.Spelling.{spelling}
use Rattle.tipc_bundle.specs.Bundles.{IsInner}
use Rattle.tipc_bundle.proofs.InnerLaws.{inner-most}
use Rattle.tipc_fragments.specs.Cutting.{Piece, fragment_fields, packets_of, pieces_of}
use Rattle.tipc_fragments.proofs.CutLaws.{sent_fits}
use Rattle.tipc_reassembly.specs.Slots.{IsCut}
use Rattle.tipc_link.specs.Links.{with_session}
use Rattle.tipc_link.specs.Sessions.{IsPut, SessionEnd, flushed, joins, moving, waits}
use Rattle.tipc_pair.specs.Facing.{PairEnds, facing, in_contact, is_up_at, turned}
use Rattle.tipc_pair.specs.PairCalls.{SendsWithin}
use Rattle.tipc_pair.specs.Messages.{pieces_for}
use Rattle.tipc_pair.proofs.Facings.{facing_back}
use Rattle.tipc_pair.proofs.HeldLaws.{or_turns}
use Rattle.tipc_pair.proofs.Listed.{spelled_tunnel}
use Rattle.tipc_pair.proofs.Pieces.{pieces_cut}
use Rattle.tipc_pair.proofs.Putting.{inner_plain}
use Rattle.tipc_changeover.specs.Links.{Bearer, First, Second}
use Rattle.tipc_changeover.proofs.Staying.{reached_sound}
use Rattle.tipc_two_nodes.specs.links.Acting.{Acted, put_in}
use Rattle.tipc_two_nodes.specs.links.Sending.{ends_seen}
use Rattle.tipc_two_nodes.specs.links.Steps.{ArePlain}
use Rattle.tipc_two_nodes.specs.links.Traffic.{Traffic}
use Rattle.tipc_two_nodes.proofs.links.calls.Posting.{one, sends_act, two, which_leads}
use Rattle.tipc_two_nodes.proofs.links.receiver.Preserving.{send_records}
use Rattle.tipc_paired.proofs.wires.Wires.{epoch_of_end, same_some}
use Rattle.tipc_paired.specs.Deeds.{IsUp}
use Rattle.tipc_paired.specs.Paired.{ArePaired}
use Rattle.tipc_paired.specs.Views.{View, epoch_on}
use Rattle.tipc_two_nodes.proofs.deeds.Pairs.{of_facing}
use Rattle.tipc_pair.proofs.turns.PairKept.{facing_bearer}
use Rattle.tipc_two_nodes.proofs.deeds.WholeCalls.{sends}
use Rattle.tipc_two_nodes.specs.deeds.PairDeeds.{IsOfPair, none_more}
use Rattle.tipc_two_nodes.specs.PieceLaws.{SendsKeep}
use Rattle.tipc_two_nodes.specs.Pieces.{KeepsNumbers, state_from, traffic_from}
use Rattle.tipc_two_nodes.specs.Twins.{sends_in}
use Rattle.tipc_two_nodes.proofs.calls.CallCourses.{are_ends_of}
use Rattle.tipc_two_nodes.proofs.calls.Chaining.{deeds_piece}
use Rattle.tipc_two_nodes.proofs.calls.PairViews.{acted_from, lasts_from, records_from, same_node, sound_from}
use Rattle.tipc_two_nodes.proofs.calls.PieceTwins.{put_as, puts_carry, puts_twins}
use Rattle.tipc_two_nodes.proofs.calls.QuietCourses.{acted_of, bearer_of, stand_at}
use Rattle.tipc_two_nodes.proofs.calls.TurnCourses.{more_now}

-- ---- the packets of a message

fragments_plain : (pieces : List Piece) → All IsCut pieces → ArePlain (map (λ p. spelling (fragment_fields p)) pieces)
fragments_plain [] cut = tt
fragments_plain (p ∷ pieces) cut =
    let h = All-head IsCut p pieces cut in
    (spelled_tunnel (fragment_fields p) (sent_fits p 0 0 0 h.first h.number h.some h.most (omega arith) (omega arith) (omega arith)) ∙ refl, fragments_plain pieces (All-tail IsCut p pieces cut))

-- none is a tunnel packet
pub pieces_plain : (m : List ℕ) → IsInner m → ArePlain (pieces_for m)
unfolding pieces_for
pieces_plain m inner = elim (nat_le (length m) 1452) as (λ t. ArePlain (if t then m ∷ [] else packets_of m)) [
  | true ↦ (inner_plain m inner, tt)
  | false ↦ fragments_plain (pieces_of m) (pieces_cut m (inner-most m inner))
]

-- ---- what was put, seen from a bearer

put_from : (b : Bearer) {s v : SessionEnd} {pieces : List (List ℕ)} (t : Traffic) (h : IsPut s pieces v) → put_in (traffic_from b t) h ≡ traffic_from b (put_as t (put_in t h).put)
put_from First t (joins packets packet may) = refl
put_from First t (waits pieces alone) = refl
put_from Second t (joins packets packet may) = refl
put_from Second t (waits pieces alone) = refl

-- ---- the pair

pub facing_numbers : (b : ℕ) (x : PairEnds) → ((facing b x).own ≡ x.own) × ((facing b x).peer ≡ x.peer) × ((facing b x).contact ≡ x.contact) × ((facing b x).seen ≡ x.seen)
unfolding facing
facing_numbers b x = elim (x.bearer == b) as (λ t. ((if t then x else turned x).own ≡ x.own) × ((if t then x else turned x).peer ≡ x.peer) × ((if t then x else turned x).contact ≡ x.contact) × ((if t then x else turned x).seen ≡ x.seen)) [
  | true ↦ (refl, refl, refl, refl)
  | false ↦ (refl, refl, refl, refl)
]

facing_contact_in : (b : ℕ) (x : PairEnds) → is_up_at (facing b x).near ≡ true → in_contact x ≡ true
unfolding facing
facing_contact_in b x = elim (x.bearer == b) as (λ t. is_up_at (if t then x else turned x).near ≡ true → in_contact x ≡ true) [
  | true ↦ λ up. ap (λ a. a || is_up_at x.far) up
  | false ↦ λ up. or_turns (is_up_at x.near) (is_up_at x.far) ∙ ap (λ a. a || is_up_at x.near) up
]

-- the active link has one of the two bearers, and is up
pub record IsActive (x : PairEnds) (b : ℕ) : Type 0 where
  pub two : b ≤ 1
  pub up : is_up_at (facing b x).near ≡ true

pub active_at : (x x' : PairEnds) (pieces : List (List ℕ)) (limit : ℕ) (frames : List Outgoing) → (s : SendsWithin x pieces limit x' frames) → IsActive x s.bearer
active_at x x' pieces limit frames s = elim (which_leads (facing 0 x).near (facing 1 x).near s.bearer s.active_is) [
  | one is up ↦ record { two = omega arith; up = ap (λ n. is_up_at (facing n x).near) is ∙ up }
  | two is down up ↦ record { two = omega arith; up = ap (λ n. is_up_at (facing n x).near) is ∙ up }
]

-- the pair keeps its numbers
pub send_numbers : (x x' : PairEnds) (pieces : List (List ℕ)) (limit : ℕ) (frames : List Outgoing) → x.bearer ≤ 1 → (s : SendsWithin x pieces limit x' frames) → KeepsNumbers x x'
send_numbers x x' pieces limit frames low s =
    let e' = with_session s.puts.end (flushed s.puts.put) in
    let at = active_at x x' pieces limit frames s in
    let first = facing_numbers s.bearer x in
    let last = facing_numbers x.bearer s.near in
    let after = s.puts.after in
    let there : s.near.bearer ≡ s.bearer = ap (λ (q : PairEnds). q.bearer) after ∙ facing_bearer s.bearer x at.two low in
    record {
      own = ap (λ (q : PairEnds). q.own) s.after ∙ (last.0 ∙ (ap (λ (q : PairEnds). q.own) after ∙ first.0));
      peer = ap (λ (q : PairEnds). q.peer) s.after ∙ (last.1 ∙ (ap (λ (q : PairEnds). q.peer) after ∙ first.1));
      contact = ap (λ (q : PairEnds). q.contact) s.after ∙ (last.2 ∙ (ap (λ (q : PairEnds). q.contact) after ∙ first.2));
      seen = ap (λ (q : PairEnds). q.seen) s.after ∙ (last.3 ∙ (ap (λ (q : PairEnds). q.seen) after ∙ first.3));
      bearer = ap (λ (q : PairEnds). q.bearer) s.after ∙ facing_bearer x.bearer s.near low (let low' = at.two in omega arith);
    }

-- the active link with its session, by the view
pub active_going : (v : View) (x x' : PairEnds) (pieces : List (List ℕ)) (limit : ℕ) (frames : List Outgoing) → IsOfPair v x → (s : SendsWithin x pieces limit x' frames) → IsUp (v.wires s.bearer) s.puts.end s.puts.session
active_going v x x' pieces limit frames pair s =
    let at = active_at x x' pieces limit frames s in
    record {
      end_is = ap (λ n. (v.wires n).end) (sym (facing_bearer s.bearer x at.two pair.two_bearers)) ∙ ((of_facing v s.bearer x pair).near ∙ s.puts.end_is);
      up = ap is_up_at (sym s.puts.end_is) ∙ at.up;
      session_is = s.puts.session_is;
    }

-- the epoch of the session on which they are put is that of its bearer then
send_epoch : (v y after : View) (x x' : PairEnds) (pieces : List (List ℕ)) (limit : ℕ) (frames : List Outgoing) → ArePaired v y → IsOfPair v x → IsOfPair after x' → (s : SendsWithin x pieces limit x' frames) → s.puts.session.epoch ≡ epoch_on after.node (after.wires s.bearer)
send_epoch v y after x x' pieces limit frames h pair pair' s =
    let e = s.puts.end in
    let e' = with_session e (flushed s.puts.put) in
    let at = active_at x x' pieces limit frames s in
    let low = pair.two_bearers in
    let bearer = facing_bearer s.bearer x at.two low in
    let there : s.near.bearer ≡ s.bearer = ap (λ (q : PairEnds). q.bearer) s.puts.after ∙ bearer in
    let up = active_going v x x' pieces limit frames pair s in
    let going = (h.here.ends s.bearer e up.end_is).going up.up in
    let same : going.0 ≡ s.puts.session = same_some going.0 s.puts.session _ going.1 s.puts.session_is in
    let face : facing s.near.bearer x' ≡ s.near = ap (facing s.near.bearer) s.after ∙ facing_back x.bearer s.near low (let low' = at.two in omega arith) in
    let near = subst (IsOfPair after) face (of_facing after s.near.bearer x' pair') in
    let end' : (after.wires s.bearer).end ≡ Some e' = ap (λ n. (after.wires n).end) (sym there) ∙ (near.near ∙ ap (λ (q : PairEnds). q.near) s.puts.after) in
    ap (λ (u : SessionEnd). u.epoch) (sym same) ∙ (going.2 ∙ sym (epoch_of_end after.node (after.wires s.bearer) e' end'))

-- ---- the call

pub sends_keep : SendsKeep
sends_keep v y x x' pieces limit frames h pair ends plain s packets =
    let d = sends v y x x' pieces limit frames h.paired pair s packets in
    let after = d.0 in
    let at = bearer_of x.bearer pair.two_bearers in
    let b = at.0 in
    let c = sends_in v y h in
    let P = (put_in c.traffic s.puts.is_put).put in
    let numbers = send_numbers x x' pieces limit frames pair.two_bearers s in
    let active = active_at x x' pieces limit frames s in
    let epoch = send_epoch v y after x x' pieces limit frames h.paired pair d.2 s in
    let now = λ (n : ℕ). more_now after s.bearer s.puts.session.epoch n (moving s.puts.put) epoch in
    let records = records_from b v after x x' pair d.2 at.1 numbers.bearer (send_records x x' pieces limit frames pair.two_bearers s) in
    let node = same_node v after x x' pair d.2 d.1.boot numbers in
    let piece = deeds_piece v after y h frames _ none_more d.1 node (now 0) (now 1) records
    (λ here. lasts_from v after y x x' v.node.contact v.node.seen h.paired pair d.2 (λ up. facing_contact_in s.bearer x active.up) here) (λ b epoch. refl) in
    let sound = sound_from b c.state (reached_sound c.state (h.sends.sent v.node.contact v.node.seen).reached) in
    let acts = sends_act b x x' pieces limit frames (traffic_from b c.traffic) (state_from b c.state) (are_ends_of v y x h pair ends) plain s (stand_at b v y h x pair at.1) sound in
    let acted = subst (λ t. Acted b (ends_seen x) (ends_seen x') t (state_from b c.state)) (put_from b c.traffic s.puts.is_put) (acted_of b x x' _ (state_from b c.state) numbers.contact acts) in
    let first = acted_from b v after x x' (put_as c.traffic P) c.state pair d.2 at.1 numbers.bearer acted in
    (after, d.1, d.2, puts_twins v after y h P piece first, puts_carry v after y h P piece first)
