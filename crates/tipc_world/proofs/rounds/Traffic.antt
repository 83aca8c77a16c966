-- In a world that settles a STATE or a numbered packet in the air was sent by a link that is up, under the epochs that
-- both nodes have at present.
use Rattle.std.specs.Prelude.{slice_get}
use Rattle.std.proofs.Common.{◌≡◌, ◌≢◌, ◌<◌, ◌≤◌, ◌^◌, ◌∙◌, ℕ, true, Option, Some, None, slice_index_or, refl, sym, ap, subst, arith}
use Rattle.tipc_types.specs.LinkStates.{is_up}
use Rattle.tipc_header.specs.Frames.{frame_of}
use Rattle.tipc_header.specs.Grammar.{Fits}
use Rattle.tipc_header.specs.Spelling.{Fields, spelling}
use Rattle.tipc_link.specs.Links.{LinkEnd, is_traffic}
use Rattle.tipc_link.specs.Sessions.{SessionEnd}
use Rattle.tipc_pair.specs.Facing.{facing, is_up_at}
use Rattle.tipc_paired.specs.Deeds.{IsUp}
use Rattle.tipc_paired.specs.Paired.{ArePaired}
use Rattle.tipc_paired.specs.Views.{Begun, Frame, Node, View, epoch_in, epoch_on, es_of, session_on}
use Rattle.tipc_paired.proofs.sessions.SessionDeeds.{of_session}
use Rattle.tipc_paired.proofs.wires.Frames.{es_of-frame, same_packet}
use Rattle.tipc_paired.proofs.wires.Wires.{epoch_of_none, none_some, session_of_none, session_of_up}
use Rattle.tipc_two_nodes.specs.Sights.{AreSeen, Sight, pair_seen}
use Rattle.tipc_node.specs.Nodes.{pair_with}
use Rattle.tipc_node.specs.Turns.{IsFrom}
use Rattle.tipc_settling.specs.Stillness.{IsStill}
use Rattle.tipc_settling.proofs.UpTold.{traffic_tells_up}
use Rattle.tipc_replay.specs.declared.air.Sent.{Sent}
use Rattle.tipc_replay.specs.Air.{as_frame, goes}
use Rattle.tipc_replay.specs.Sound.{IsNumber}
use Rattle.tipc_replay.specs.States.{MemberState}
use Rattle.tipc_replay.specs.Views.{sight_at}
use Rattle.tipc_world.specs.CalmWorlds.{IsCalmWorld, IsFromMended}
use Rattle.tipc_world.specs.RoundParts.{IsKept}
use Rattle.tipc_world.specs.States.{WorldState}
use Rattle.tipc_world.specs.StillWorlds.{IsStillWorld, IsUnderPresent, footing_at}
use Rattle.tipc_world.proofs.rounds.CalmWorlds.{calm_is_still}
use Rattle.tipc_world.proofs.rounds.StillWorlds.{seen_end, sight_is, still_epoch}
use Rattle.tipc_world.proofs.rounds.UpLinks.{sight_near, still_side}

-- ---- two nodes

-- a frame in the air is this packet under these two epochs, and the packet is a STATE or numbered
pub record IsTraffic (f : Frame) (es er : ℕ) (p : Fields) : Type 0 where
  pub es_fits : es < 2 ^ 64
  pub er_fits : er < 2 ^ 64
  pub fits : Fits p
  pub bytes : f.bytes ≡ frame_of es er (spelling p)
  pub traffic : is_traffic p.header ≡ true

-- it is none of an end that isn't made yet
none_unmade : (x y : View) (place : ℕ) (f : Frame) (es er : ℕ) (p : Fields) → ArePaired x y → slice_get x.told place ≡ Some f → (x.wires f.bearer).end ≡ None → IsTraffic f es er p → es ≡ x.node.contact → ⊥
none_unmade x y place f es er p h there end is now =
    let half = h.here in
    let frame = half.frames place f there in
    let bytes : frame_of frame.es frame.er (spelling frame.packet) ≡ frame_of es er (spelling p) = sym frame.bytes ∙ is.bytes in
    let packet : frame.packet ≡ p = same_packet frame.es frame.er es er frame.packet p frame.fits is.fits bytes in
    let under : frame.es ≡ es = sym (es_of-frame frame.es frame.er (spelling frame.packet) frame.es_fits frame.er_fits) ∙ ap es_of bytes ∙ es_of-frame es er (spelling p) is.es_fits is.er_fits in
    let session = frame.session (ap (λ (q : Fields). is_traffic q.header) packet ∙ is.traffic) in
    let w = x.wires f.bearer in
    let epochs = half.epochs f.bearer in
    let next = epoch_of_none x.node w end in
    let low : epoch_on x.node w ≤ frame.es = omega (arith, next, under, now) in
    let none : session_on w ≡ None = session_of_none w end in
    none_some session.begun _ (epochs.unborn frame.es (low, λ s on. absurd (none_some s _ none on))) session.begun_is

-- a link is up that sent such a packet under its present epoch
sender_up : (v w : Sight) (place : ℕ) (f : Frame) (es er : ℕ) (p : Fields) (o : Option LinkEnd) → AreSeen v w → slice_get v.sent place ≡ Some f → v.ends f.bearer ≡ o → IsTraffic f es er p → es ≡ epoch_in v.node.contact o → is_up_at o ≡ true
sender_up v w place f es er p None h there end is now =
    let t = h.seen_here.sent place f there in
    let x = h.here.view in
    let unmade : (x.wires t.frame.bearer).end ≡ None = ap (λ b. (x.wires b).end) t.bearer_is ∙ h.seen_here.ends f.bearer ∙ end in
    let contact : es ≡ x.node.contact = now ∙ sym (ap (λ (n : Node). n.contact) h.seen_here.node) in
    absurd (none_unmade x h.there.view t.place t.frame es er p h.talking.twins.paired t.there unmade (record { es_fits = is.es_fits; er_fits = is.er_fits; fits = is.fits; bytes = t.bytes ∙ is.bytes; traffic = is.traffic }) contact)
sender_up v w place f es er p (Some e) h there end is now = traffic_tells_up v w place f e es er p h there end is.es_fits is.er_fits is.fits is.bytes now is.traffic

-- what it is under as the epoch of its receiver is what the session of the link has
names_peer : (v w : Sight) (place : ℕ) (f : Frame) (e : LinkEnd) (s : SessionEnd) (es er : ℕ) (p : Fields) → AreSeen v w → slice_get v.sent place ≡ Some f → v.ends f.bearer ≡ Some e → is_up e.fsm.state ≡ true → e.session ≡ Some s → s.epoch ≡ es
    → IsTraffic f es er p → er ≡ s.peer_epoch
names_peer v w place f e s es er p h there end up has own is =
    let t = h.seen_here.sent place f there in
    let x = h.here.view in
    let y = h.there.view in
    let b = t.frame.bearer in
    let half = h.talking.twins.paired.here in
    let k = of_session x.node.own (x.wires b) (y.wires b) t.frame es er p (half.frames t.place t.frame t.there) is.es_fits is.er_fits is.fits (t.bytes ∙ is.bytes) is.traffic in
    let end_is : (x.wires b).end ≡ Some e = ap (λ c. (x.wires c).end) t.bearer_is ∙ h.seen_here.ends f.bearer ∙ end in
    let there_up : IsUp (x.wires b) e s = record { end_is = end_is; up = up; session_is = has } in
    let g = (half.wires b).going s (session_of_up (x.wires b) e s there_up) in
    let both : Some k.begun ≡ Some g.begun = sym k.begun_is ∙ (ap (x.wires b).begun (sym own) ∙ g.begun_is) in
    let same : k.begun ≡ g.begun = cc in
    sym k.peer_is ∙ (ap (λ (c : Begun). c.peer_epoch) same ∙ g.peer_is)

-- ---- a world that settles

-- a STATE or a numbered packet of node b to node n in the air: b's link is up, and it is under both present epochs
pub record IsOfPresent (start : WorldState) (b n bearer es er : ℕ) (m : MemberState) : Type 0 where
  pub up : is_up_at (facing bearer (pair_with m.node n)).near ≡ true
  pub es_is : es ≡ (footing_at start b n).epoch bearer
  pub er_is : er ≡ (footing_at start n b).epoch bearer

pub of_present : (start w : WorldState) (b n bearer k : ℕ) (f : Sent) (m : MemberState) (es er : ℕ) (p : Fields) → IsKept start → IsStillWorld start w → IsUnderPresent start bearer f → IsNumber b → IsNumber n → b ≢ n → bearer ≤ 1 → goes b n f ≡ true
    → slice_index_or w.members b None ≡ Some m → slice_get (sight_at w.members w.air b n).sent k ≡ Some (as_frame bearer f) → IsFrom b f.frame es er p → is_traffic p.header ≡ true → IsOfPresent start b n bearer es er m
of_present start w b n bearer k f m es er p kept_start g said b_is n_is apart on_one goes_to there at brings traffic =
    let kept = g.on.kept kept_start in
    let own = footing_at start b n in
    let peer = footing_at start n b in
    let v = sight_at w.members w.air b n in
    let u = sight_at w.members w.air n b in
    let seen = kept.nodes.sound.pairs b n b_is n_is apart in
    let still_pair = g.nodes b m there n n_is apart in
    let sight = sight_is w b n m kept there in
    let still : IsStill own peer (pair_seen v) = subst (IsStill own peer) (sym sight) still_pair in
    let is : IsTraffic (as_frame bearer f) es er p = record { es_fits = brings.es_fits; er_fits = brings.er_fits; fits = brings.fits; bytes = brings.frame_is; traffic = traffic } in
    let under : es ≡ own.epoch bearer = sym (es_of-frame es er (spelling p) brings.es_fits brings.er_fits) ∙ (ap es_of (sym brings.frame_is) ∙ (said b n b_is n_is apart goes_to).epoch) in
    let now : es ≡ epoch_in v.node.contact (v.ends bearer) = under ∙ (sym (still_epoch own peer v bearer on_one still) ∙ seen_end v bearer on_one) in
    let end_up = sender_up v u k (as_frame bearer f) es er p (v.ends bearer) seen at refl is now in
    let near : is_up_at (facing bearer (pair_with m.node n)).near ≡ true = ap is_up_at (sym (ap (λ x. (facing bearer x).near) sight) ∙ sight_near v bearer on_one) ∙ end_up in
    let side = still_side start w b n bearer m kept n_is apart on_one there still_pair near in
    let named = names_peer v u k (as_frame bearer f) side.link.end side.session es er p seen at side.end_is side.link.up side.has (side.epoch ∙ sym under) is in
    record { up = near; es_is = under; er_is = named ∙ side.peer_epoch }

-- in a calm world the link was up when the call began
pub record IsOfUpLink (start : WorldState) (b n bearer es er : ℕ) : Type 0 where
  pub up : (footing_at start b n).up bearer ≡ true
  pub es_is : es ≡ (footing_at start b n).epoch bearer
  pub er_is : er ≡ (footing_at start n b).epoch bearer

pub of_up_link : (start w : WorldState) (b n bearer k : ℕ) (f : Sent) (m : MemberState) (es er : ℕ) (p : Fields) → IsKept start → IsCalmWorld start w → IsFromMended start bearer f → IsNumber b → IsNumber n → b ≢ n → bearer ≤ 1 → goes b n f ≡ true
    → slice_index_or w.members b None ≡ Some m → slice_get (sight_at w.members w.air b n).sent k ≡ Some (as_frame bearer f) → IsFrom b f.frame es er p → is_traffic p.header ≡ true → IsOfUpLink start b n bearer es er
of_up_link start w b n bearer k f m es er p kept g said b_is n_is apart on_one goes_to there at brings traffic =
    let under : IsUnderPresent start bearer f = λ s d s_is d_is two to_it. (said s d s_is d_is two to_it).present in
    let q = of_present start w b n bearer k f m es er p kept (calm_is_still start w g) under b_is n_is apart on_one goes_to there at brings traffic in
    record { up = sym ((g.nodes b m there n n_is apart).ups bearer on_one) ∙ q.up; es_is = q.es_is; er_is = q.er_is }
