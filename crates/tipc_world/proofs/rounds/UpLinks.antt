-- The ends of links that are up in a world that settles: each is in a session of both nodes' present epochs. And of a
-- link that was up when the call began both ends are up in a calm world, and joined.
use Rattle.std.specs.Prelude.{◌==◌, if◌then◌else◌, slice_get}
use Rattle.std.proofs.Common.{◌≡◌, ◌≢◌, ◌≤◌, ◌+◌, ◌∙◌, ℕ, zero, suc, Bool, true, List, length, Option, Some, None, slice_index_or, is_some, inl, inr, refl, sym, ap, subst, arith}
use Rattle.std.proofs.lemmas.Bool.{true≢false}
use Rattle.std.proofs.lemmas.Bool.Decides.{nat_tests}
use Rattle.tipc_types.specs.Address.{node_word}
use Rattle.tipc_types.specs.LinkStates.{is_up}
use Rattle.tipc_link.specs.Direction.{IsDirection, IsReceiver}
use Rattle.tipc_link.specs.Links.{LinkEnd}
use Rattle.tipc_link.specs.Sessions.{SessionEnd}
use Rattle.tipc_repair.specs.Laws.{SendsTo}
use Rattle.tipc_pair.specs.Facing.{PairEnds, facing, is_up_at, other, turned}
use Rattle.tipc_paired.specs.Deeds.{IsUp}
use Rattle.tipc_paired.specs.Paired.{ArePaired, IsPacket}
use Rattle.tipc_paired.specs.Views.{Node, View, epoch_in, fsm_in}
use Rattle.tipc_paired.proofs.wires.Wires.{session_of_up}
use Rattle.tipc_two_nodes.specs.Sights.{AreSeen, Sight, pair_seen}
use Rattle.tipc_two_nodes.proofs.sights.Sights.{ends}
use Rattle.tipc_node.specs.declared.neighbours.Neighbour.{Neighbour}
use Rattle.tipc_node.specs.Ends.{BothStand, StandsOn}
use Rattle.tipc_node.specs.Nodes.{NodeState, acquaintance, end_with, is_mended_on, is_other, neighbour_of, pair_with}
use Rattle.tipc_node.proofs.pairs.Strangers.{kept_near}
use Rattle.tipc_settling.specs.Goings.{up_session}
use Rattle.tipc_settling.specs.Repairs.{session_with}
use Rattle.tipc_settling.specs.Stillness.{Footing, IsStill, IsStillAt}
use Rattle.tipc_replay.specs.Sound.{IsNumber}
use Rattle.tipc_replay.specs.States.{MemberState, link_at}
use Rattle.tipc_replay.specs.Views.{sight_at}
use Rattle.tipc_world.specs.CalmWorlds.{IsCalmPair, IsCalmWorld}
use Rattle.tipc_world.specs.Poised.{IsPoised}
use Rattle.tipc_world.specs.RoundParts.{IsKept}
use Rattle.tipc_world.specs.States.{WorldState, is_there}
use Rattle.tipc_world.specs.StillWorlds.{footing_at}
use Rattle.tipc_world.proofs.rounds.Beginning.{its_end, node_there, peer_there}
use Rattle.tipc_world.proofs.rounds.CalmWorlds.{up_seen}
use Rattle.tipc_world.proofs.rounds.StillWorlds.{node_number, seen_end, sight_is, still_epoch}

-- ---- an end that is up

-- the end of a pair is that of the neighbour
pub near_is : (n : NodeState) (b bearer : ℕ) (o : Option Neighbour) → end_with bearer o ≡ (facing bearer (acquaintance n b o).pair).near
near_is n b bearer None = sym (kept_near n b bearer None refl)
near_is n b bearer (Some x) = refl

-- and so is its session
pub session_near : (n : NodeState) (b bearer : ℕ) → session_with n b bearer ≡ up_session (facing bearer (pair_with n b)).near
session_near n b bearer = ap up_session (near_is n b bearer (neighbour_of n b))

pub up_there : (o : Option LinkEnd) → is_up_at o ≡ true → (e : LinkEnd) × (o ≡ Some e) × (is_up e.fsm.state ≡ true)
up_there None up = absurd cc
up_there (Some e) up = (e, refl, up)

-- the end to node b on a bearer, where its link is up
pub record UpLink (n : NodeState) (b bearer : ℕ) : Type 0 where
  pub end : LinkEnd
  pub with_it : end_with bearer (neighbour_of n b) ≡ Some end
  pub near : (facing bearer (pair_with n b)).near ≡ Some end
  pub up : is_up end.fsm.state ≡ true

pub up_link : (n : NodeState) (b bearer : ℕ) → is_up_at (facing bearer (pair_with n b)).near ≡ true → UpLink n b bearer
up_link n b bearer up =
    let there = up_there (facing bearer (pair_with n b)).near up in
    record { end = there.0; with_it = near_is n b bearer (neighbour_of n b) ∙ there.1; near = there.1; up = there.2 }

-- a link that is up stands on a mended bearer
pub up_mended : (mended : Bool × Bool) (x : PairEnds) (bearer : ℕ) (e : LinkEnd) → x.bearer ≡ 0 → bearer ≤ 1 → BothStand mended x → (facing bearer x).near ≡ Some e → is_up e.fsm.state ≡ true → is_mended_on mended bearer ≡ true
unfolding facing
up_mended mended x zero e first on_one stand near up =
    let here : x.near ≡ Some e = ap (λ k. (if k == 0 then x else turned x).near) (sym first) ∙ near in
    subst (λ k. is_mended_on mended k ≡ true) first ((its_end (StandsOn (is_mended_on mended x.bearer)) x.near e here stand.near).up up)
up_mended mended x (suc zero) e first on_one stand near up =
    let here : x.far ≡ Some e = ap (λ k. (if k == 1 then x else turned x).near) (sym first) ∙ near in
    subst (λ k. is_mended_on mended (other k) ≡ true) first ((its_end (StandsOn (is_mended_on mended (other x.bearer))) x.far e here stand.far).up up)
up_mended mended x (suc (suc more)) e first on_one stand near up = absurd (omega (arith, on_one))

-- node b is another one than node n
pub other_is : (n b : ℕ) → IsNumber b → n ≢ b → is_other (node_word n) (node_word b) ≡ true
unfolding is_other
other_is n b number apart =
    let low = number.0 in
    let high = number.1 in
    let differ : node_word b ≢ node_word n = λ same. apart (omega (arith, same)) in
    grind (arith, nat_tests, low, high, differ)

-- ---- as two nodes that talk have it

-- the end of a sight on a bearer is that of the pair
pub sight_near : (v : Sight) (bearer : ℕ) → bearer ≤ 1 → (facing bearer (pair_seen v)).near ≡ v.ends bearer
unfolding facing
sight_near v zero on_one = refl
sight_near v (suc zero) on_one = refl
sight_near v (suc (suc more)) on_one = absurd (omega (arith, on_one))

-- a still end that is up knows the peer's present epoch
pub still_knows : (own peer : Footing) (v : Sight) (bearer : ℕ) (e : LinkEnd) → bearer ≤ 1 → v.ends bearer ≡ Some e → is_up e.fsm.state ≡ true → IsStill own peer (pair_seen v) → e.fsm.peer ≡ Some (peer.epoch bearer)
still_knows own peer v zero e on_one is up still = (subst (λ o. IsStillAt own peer v.node.seen 0 (fsm_in o)) is still.near).up up
still_knows own peer v (suc zero) e on_one is up still = (subst (λ o. IsStillAt own peer v.node.seen 1 (fsm_in o)) is still.far).up up
still_knows own peer v (suc (suc more)) e on_one is up still = absurd (omega (arith, on_one))

-- the record of a session is of the peer's epoch
pub own_record : (v w : Sight) (bearer : ℕ) (e : LinkEnd) (s : SessionEnd) → AreSeen v w → v.ends bearer ≡ Some e → is_up e.fsm.state ≡ true → e.session ≡ Some s → s.record_epoch ≡ s.peer_epoch
own_record v w bearer e s h is up has =
    let x = h.here.view in
    let there : IsUp (x.wires bearer) e s = record { end_is = h.seen_here.ends bearer ∙ is; up = up; session_is = has } in
    ((h.talking.twins.paired.here.wires bearer).going s (session_of_up (x.wires bearer) e s there)).record_is

-- ---- one end of the link

-- Node a of a world is up with node b on a bearer: in a session of the epochs that both have at present, whose record
-- is of the peer's.
pub record UpSide (start w : WorldState) (a b bearer : ℕ) (m : MemberState) : Type 0 where
  pub link : UpLink m.node b bearer
  pub session : SessionEnd
  pub has : link.end.session ≡ Some session
  pub in_session : session_with m.node b bearer ≡ Some session
  pub end_is : (sight_at w.members w.air a b).ends bearer ≡ Some link.end
  pub own : link.end.fsm.own ≡ (footing_at start a b).epoch bearer
  pub peer : link.end.fsm.peer ≡ Some ((footing_at start b a).epoch bearer)
  pub epoch : session.epoch ≡ (footing_at start a b).epoch bearer
  pub peer_epoch : session.peer_epoch ≡ (footing_at start b a).epoch bearer
  pub record_epoch : session.record_epoch ≡ (footing_at start b a).epoch bearer
  -- whose it is
  pub own_word : session.own ≡ node_word a
  pub peer_word : session.peer ≡ node_word b
  pub on_bearer : session.bearer ≡ bearer

pub sight_words : (w : WorldState) (a b : ℕ) → ((sight_at w.members w.air a b).node.own ≡ node_word a) × ((sight_at w.members w.air a b).node.peer ≡ node_word b)
unfolding sight_at
sight_words w a b = (refl, refl)

same_peer : (o : Option ℕ) (x y : ℕ) → o ≡ Some x → o ≡ Some y → x ≡ y
same_peer o x y one two = let both : Some x ≡ Some y = sym one ∙ two in cc

-- Where node a's pair is still, and its link is up now.
pub still_side : (start w : WorldState) (a b bearer : ℕ) (m : MemberState) → IsKept w → IsNumber b → a ≢ b → bearer ≤ 1 → slice_index_or w.members a None ≡ Some m → IsStill (footing_at start a b) (footing_at start b a) (pair_with m.node b)
    → is_up_at (facing bearer (pair_with m.node b)).near ≡ true → UpSide start w a b bearer m
still_side start w a b bearer m kept b_is apart on_one there still_pair up =
    let own = footing_at start a b in
    let peer = footing_at start b a in
    let v = sight_at w.members w.air a b in
    let u = sight_at w.members w.air b a in
    let link = up_link m.node b bearer up in
    let sight = sight_is w a b m kept there in
    let end_is : v.ends bearer ≡ Some link.end = sym (sight_near v bearer on_one) ∙ (ap (λ x. (facing bearer x).near) sight ∙ link.near) in
    let seen = kept.nodes.sound.pairs a b (node_number w a m kept there) b_is apart in
    let still : IsStill own peer (pair_seen v) = subst (IsStill own peer) (sym sight) still_pair in
    let going = (ends v u bearer link.end seen end_is).going link.up in
    let epoch_is : link.end.fsm.own ≡ own.epoch bearer = sym (ap (epoch_in v.node.contact) end_is) ∙ (sym (seen_end v bearer on_one) ∙ still_epoch own peer v bearer on_one still) in
    let knows = still_knows own peer v bearer link.end on_one end_is link.up still in
    let peer_is = same_peer link.end.fsm.peer going.0.peer_epoch (peer.epoch bearer) going.3 knows in
    let words = (ends v u bearer link.end seen end_is).session going.0 going.1 in
    let names = sight_words w a b in
    record {
      link = link;
      session = going.0;
      has = going.1;
      in_session = ap up_session link.with_it ∙ (ap (λ t. if t then link.end.session else None) link.up ∙ going.1);
      end_is = end_is;
      own = epoch_is;
      peer = knows;
      epoch = going.2 ∙ epoch_is;
      peer_epoch = peer_is;
      record_epoch = own_record v u bearer link.end going.0 seen end_is link.up going.1 ∙ peer_is;
      own_word = words.0 ∙ names.0;
      peer_word = words.1 ∙ names.1;
      on_bearer = words.2;
    }

-- Where its pair is calm, and its link was up when the call began.
pub up_side : (start w : WorldState) (a b bearer : ℕ) (m : MemberState) → IsKept w → IsNumber b → a ≢ b → bearer ≤ 1 → slice_index_or w.members a None ≡ Some m → IsCalmPair (footing_at start a b) (footing_at start b a) (pair_with m.node b)
    → (footing_at start a b).up bearer ≡ true → UpSide start w a b bearer m
up_side start w a b bearer m kept b_is apart on_one there calm up = still_side start w a b bearer m kept b_is apart on_one there calm.still (calm.ups bearer on_one ∙ up)

-- ---- the other end

-- a link that was up when the call began
foot_end : (w : WorldState) (a b bearer : ℕ) → bearer ≤ 1 → (footing_at w a b).up bearer ≡ true → (e : LinkEnd) × (link_at w.members a b bearer ≡ Some e) × (is_up e.fsm.state ≡ true)
unfolding facing sight_at
foot_end w a b zero on_one up = up_there (link_at w.members a b 0) up
foot_end w a b (suc zero) on_one up = up_there (link_at w.members a b 1) up
foot_end w a b (suc (suc more)) on_one up = absurd (omega (arith, on_one))

-- is up at both its ends, and both nodes are there
pub both_up : (start : WorldState) (a b bearer : ℕ) → IsKept start → IsPoised start → a ≢ b → bearer ≤ 1 → (footing_at start a b).up bearer ≡ true → ((footing_at start b a).up bearer ≡ true) × (is_there start b ≡ true)
both_up start a b bearer kept poised apart on_one up =
    let e = foot_end start a b bearer on_one up in
    let there = peer_there start a b bearer e.0 kept e.1 in
    elim (poised a b bearer (node_there start a b bearer e.0 e.1) there apart on_one) [
      | inl stands ↦ (up_seen start b a bearer stands.far on_one stands.far_is stands.far_up.up, there)
      | inr is_cut ↦ absurd (true≢false (sym e.2 ∙ (sym (ap is_up_at e.1) ∙ is_cut.near)))
    ]

pub the_member : (o : Option MemberState) → is_some o ≡ true → (m : MemberState) × (o ≡ Some m)
the_member None there = absurd cc
the_member (Some m) there = (m, refl)

-- ---- what one sends the other

-- What the session s of node a numbered, and how the session t of its peer stands to it.
pub record Sends (a : ℕ) (s t : SessionEnd) : Type 0 where
  pub line : List (List ℕ)
  pub sends : SendsTo s t line
  pub packets : (k : ℕ) (bytes : List ℕ) → slice_get line k ≡ Some bytes → IsPacket (node_word a) bytes

sends_line : (x y : View) (a b : ℕ) (e d : LinkEnd) (s t : SessionEnd) → ArePaired x y → IsUp (x.wires b) e s → IsUp (y.wires b) d t → t.peer_epoch ≡ s.epoch → x.node.own ≡ node_word a → Sends a s t
sends_line x y a b e d s t h here there with_it own =
    let g = (h.here.wires b).going s (session_of_up (x.wires b) e s here) in
    let k = (h.there.wires b).going t (session_of_up (y.wires b) d t there) in
    let took_it : length ((y.wires b).got s.epoch) ≡ t.taken = ap (λ n. length ((y.wires b).got n)) (sym with_it) ∙ k.takes in
    let shown = subst (λ n. t.shown ≤ length ((x.wires b).line n) + 1) with_it k.shown in
    let count = g.sends.count in
    record {
      line = (x.wires b).line s.epoch;
      sends = record {
        direction = subst (λ n. IsDirection s.sending n ((x.wires b).line s.epoch)) took_it g.sends;
        receiver = subst (λ n. IsReceiver t.held t.taken ((x.wires b).line n)) with_it k.holds;
        shown = omega (arith, shown, count);
      };
      packets = λ i bytes at. subst (λ word. IsPacket word bytes) own ((h.here.wires b).packets s.epoch i bytes at);
    }

-- The two ends of such a link are up with each other.
pub record UpSides (start w : WorldState) (a b bearer : ℕ) (m : MemberState) : Type 0 where
  pub here : UpSide start w a b bearer m
  pub peer : MemberState
  pub peer_is : slice_index_or w.members b None ≡ Some peer
  pub there : UpSide start w b a bearer peer
  pub sends : Sends a here.session there.session
  pub receives : Sends b there.session here.session

one_sends : (start w : WorldState) (a b bearer : ℕ) (m k : MemberState) → AreSeen (sight_at w.members w.air a b) (sight_at w.members w.air b a) → (here : UpSide start w a b bearer m) → (there : UpSide start w b a bearer k) → Sends a here.session there.session
one_sends start w a b bearer m k h here there =
    let x = h.here.view in
    let y = h.there.view in
    let near : IsUp (x.wires bearer) here.link.end here.session = record { end_is = h.seen_here.ends bearer ∙ here.end_is; up = here.link.up; session_is = here.has } in
    let far : IsUp (y.wires bearer) there.link.end there.session = record { end_is = h.seen_there.ends bearer ∙ there.end_is; up = there.link.up; session_is = there.has } in
    sends_line x y a bearer here.link.end there.link.end here.session there.session h.talking.twins.paired near far (there.peer_epoch ∙ sym here.epoch) (ap (λ (n : Node). n.own) h.seen_here.node ∙ (sight_words w a b).0)

pub up_sides : (start w : WorldState) (a b bearer : ℕ) (m : MemberState) → IsKept start → IsPoised start → IsCalmWorld start w → IsNumber b → a ≢ b → bearer ≤ 1 → slice_index_or w.members a None ≡ Some m
    → (footing_at start a b).up bearer ≡ true → UpSides start w a b bearer m
up_sides start w a b bearer m kept_start poised g b_is apart on_one there up =
    let kept = g.on.kept kept_start in
    let a_is = node_number w a m kept there in
    let back : b ≢ a = λ same. apart (sym same) in
    let other = both_up start a b bearer kept_start poised apart on_one up in
    let k = the_member (slice_index_or w.members b None) (g.on.nodes b ∙ other.1) in
    let here = up_side start w a b bearer m kept b_is apart on_one there (g.nodes a m there b b_is apart) up in
    let peer = up_side start w b a bearer k.0 kept a_is back on_one k.1 (g.nodes b k.0 k.1 a a_is back) other.0 in
    record {
      here = here;
      peer = k.0;
      peer_is = k.1;
      there = peer;
      sends = one_sends start w a b bearer m k.0 (kept.nodes.sound.pairs a b a_is b_is apart) here peer;
      receives = one_sends start w b a bearer k.0 m (kept.nodes.sound.pairs b a b_is a_is back) peer here;
    }
