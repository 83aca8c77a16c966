-- A STATE that a link takes was told by the peer in the contact in which the node is then, and what it says of the node's broadcast is recent.
use Rattle.std.specs.Prelude.{drop, slice_get}
use Rattle.std.proofs.Common.{◌≡◌, ◌≤◌, ◌+◌, ℕ, true, Some, None, refl, sym, ap, subst, ◌∙◌}
use Rattle.std.proofs.lemmas.List.{drop_at}
use Rattle.tipc_types.specs.Address.{node_word}
use Rattle.tipc_types.specs.declared.link_words.BroadcastState.{BroadcastState}
use Rattle.tipc_header.specs.declared.frames.FrameKind.TheVariants.{Links}
use Rattle.tipc_header.specs.declared.packet.Header.{Header}
use Rattle.tipc_header.specs.declared.packet.Header.TheVariants as header
use Rattle.tipc_header.specs.declared.packet.State.{State}
use Rattle.tipc_header.specs.Faults.{fault_of}
use Rattle.tipc_header.specs.Frames.{envelope, frame_of, kind_in}
use Rattle.tipc_header.specs.Reading.{fields_at}
use Rattle.tipc_header.specs.Spelling.{Fields, spelling}
use Rattle.tipc_header.proofs.Again.{again, no_fault}
use Rattle.tipc_header.proofs.FrameWords.{length-envelope}
use Rattle.tipc_link.specs.Links.{is_traffic}
use Rattle.tipc_link.specs.Parts.{IsShowable}
use Rattle.tipc_pair.specs.declared.changes.PairOutcome.{PairOutcome}
use Rattle.tipc_pair.specs.Facing.{PairEnds, in_contact}
use Rattle.tipc_pair.specs.PairTurns.{Happened, Opening, Outset}
use Rattle.tipc_contact.specs.Sides.{boot_of}
use Rattle.tipc_paired.specs.Views.{Frame, es_of}
use Rattle.tipc_two_nodes.specs.Order.{WasHeard}
use Rattle.tipc_paired.proofs.wires.Frames.{es_of-frame}
use Rattle.tipc_two_nodes.specs.Sights.{AreSeen, Comes, Sight, pair_seen}
use Rattle.tipc_two_nodes.proofs.sights.HeardIn.{heard_in_contact}
use Rattle.tipc_node.specs.Casting.{broadcast_in, stated_in}
use Rattle.tipc_node.specs.Turns.{IsFrom, is_to}
use Rattle.tipc_replay.specs.declared.air.Sent.{Sent}
use Rattle.tipc_replay.specs.Due.{frame_for, unarrived}
use Rattle.tipc_replay.specs.Heard.{broadcast_of, state_in, state_of_kind}
use Rattle.tipc_replay.specs.Skies.{air_on}
use Rattle.tipc_replay.specs.Sound.{IsNumber, IsSound}
use Rattle.tipc_replay.specs.States.{cast_count_at}
use Rattle.tipc_replay.specs.Steps.{Stage}
use Rattle.tipc_replay.proofs.frames.Ages.{number_is}
use Rattle.tipc_replay.proofs.frames.Coming.{comes_as, for_node, from_peer}
use Rattle.tipc_replay.proofs.frames.Reaching.{placed, young}
use Rattle.tipc_replay.proofs.frames.Recent.{state_cast_recent, state_recent}
use Rattle.tipc_replay.proofs.pairs.Turning.{sight_in}

-- Node b told node n this of broadcast, in a frame that is in the air; the pair of n is in the contact whose numbers stand beside it.
pub record StateCame (s : Stage) (n b : ℕ) (y : PairEnds) (seen : BroadcastState) : Type 0 where
  pub frame : Sent
  pub bearer : ℕ
  pub place : ℕ
  pub there : slice_get (air_on bearer s.air) place ≡ Some frame
  pub from : frame.from.word ≡ node_word b
  pub to_is : is_to n frame.to ≡ true
  pub state : state_in frame.frame ≡ Some seen
  pub in_it : in_contact y ≡ true
  pub theirs : frame.contact.0 ≡ y.seen
  pub own : frame.contact.1 ≡ y.contact
  pub recent : cast_count_at s.members n frame.peer_boot ≤ frame.peer_casts + 30000
  pub since : cast_count_at s.members b (boot_of frame.contact.0) ≤ frame.casts + 30000

-- what is told was in a STATE that was taken
record IsStated (h : Header) (given : PairOutcome) (seen : BroadcastState) : Type 0 where
  said : State
  states : h ≡ header.State said
  seen_is : broadcast_in said ≡ seen
  heard : WasHeard given

stated : (h : Header) (given : PairOutcome) (seen : BroadcastState) → stated_in h given ≡ Some seen → IsStated h given seen
stated (header.State said) (PairOutcome.Took opened) seen is = record {
  said = said;
  states = refl;
  seen_is = cc;
  heard = record {
    unknown = λ e. (let wrong : ⊥ = cc in wrong);
    epoch = λ e. (let wrong : ⊥ = cc in wrong);
  };
}
stated (header.State said) PairOutcome.Deferred seen is = absurd (let wrong : None ≡ Some seen = is in cc)
stated (header.State said) (PairOutcome.Ignored reason) seen is = absurd (let wrong : None ≡ Some seen = is in cc)
stated (header.Payload m) given seen is = absurd (let wrong : None ≡ Some seen = is in cc)
stated (header.Bundler m) given seen is = absurd (let wrong : None ≡ Some seen = is in cc)
stated (header.Reset m) given seen is = absurd (let wrong : None ≡ Some seen = is in cc)
stated (header.Activate m) given seen is = absurd (let wrong : None ≡ Some seen = is in cc)
stated (header.Changeover m) given seen is = absurd (let wrong : None ≡ Some seen = is in cc)
stated (header.NameDistributor m) given seen is = absurd (let wrong : None ≡ Some seen = is in cc)
stated (header.Fragmenter m) given seen is = absurd (let wrong : None ≡ Some seen = is in cc)
stated (header.Discovery m) given seen is = absurd (let wrong : None ≡ Some seen = is in cc)

-- the boot of the sender's epoch is that of its number in the contact beside the frame
boot_beside : (v w : Sight) (b es er : ℕ) (p : Fields) (c : Comes v w b es er p) → AreSeen v w → is_traffic p.header ≡ true → boot_of es ≡ boot_of c.frame.contact
boot_beside v w b es er p c h traffic =
    let t = h.seen_there.sent c.place c.frame c.there in
    let is = h.talking.twins.paired.there.frames t.place t.frame t.there in
    let spelled : t.frame.bytes ≡ frame_of es er (spelling p) = t.bytes ∙ c.bytes in
    let same : is.es ≡ es = sym (es_of-frame is.es is.er (spelling is.packet) is.es_fits is.er_fits) ∙ ap es_of (sym is.bytes ∙ spelled) ∙ es_of-frame es er (spelling p) c.es_fits c.er_fits in
    ap boot_of (sym same) ∙ is.boot ∙ ap boot_of (t.contact es er p c.fits spelled traffic).0

pub state_came : (s : Stage) (n bearer place : ℕ) (f : Sent) (b es er : ℕ) (p : Fields) (by : ℕ) (shown : BroadcastState) (o : Outset) (seen : BroadcastState) → IsSound s.members s.air → IsNumber n → frame_for s.air n bearer place ≡ Some f
    → unarrived s.members s.air n bearer place ≡ None → IsFrom b f.frame es er p → kind_in f.frame ≡ Links → IsShowable shown → Happened (pair_seen (sight_in s n b)) (Opening.hears bearer es er p by shown) o → stated_in p.header o.given ≡ Some seen
    → StateCame s n b o.course.pair seen
state_came s n bearer place f b es er p by shown o seen sound number found free from kind may happened is =
    let peer = from_peer s n bearer place f b es er p sound found from kind in
    let t = stated p.header o.given seen is in
    let traffic : is_traffic p.header ≡ true = ap is_traffic t.states in
    let c = comes_as s n bearer place f b es er p sound found free from kind in
    let present = heard_in_contact (sight_in s n b) (sight_in s b n) bearer es er p by shown o (sound.pairs n b number peer.number (λ e. peer.apart (sym e))) peer.two c.0 may traffic happened t.heard in
    let packet : drop 16 f.frame ≡ spelling p = ap (drop 16) from.frame_is ∙ drop_at (envelope es er) (spelling p) 16 (length-envelope es er) in
    let read : fields_at (drop 16 f.frame) ≡ p = ap fields_at packet ∙ again p from.fits in
    let clear = ap fault_of packet ∙ no_fault p from.fits in
    let seen_two = sound.pairs n b number peer.number (λ e. peer.apart (sym e)) in
    let boot : boot_of (es_of f.frame) ≡ boot_of f.contact.0 =
    ap boot_of (ap es_of from.frame_is ∙ es_of-frame es er (spelling p) from.es_fits from.er_fits) ∙ boot_beside (sight_in s n b) (sight_in s b n) bearer es er p c.0 seen_two traffic ∙ ap (λ (g : Frame). boot_of g.contact) c.1 in
    record {
      frame = f;
      bearer = bearer;
      place = place;
      there = (placed s.air n bearer place f found).0;
      from = peer.from;
      to_is = for_node s n bearer place f sound found kind;
      state = ap (λ k. state_of_kind k f.frame) kind ∙ ap (λ (q : Fields). broadcast_of q.header) read ∙ ap broadcast_of t.states ∙ ap Some t.seen_is;
      in_it = present.there;
      theirs = ap (λ (g : Frame). g.contact) (sym c.1) ∙ present.theirs;
      own = ap (λ (g : Frame). g.peer_contact) (sym c.1) ∙ present.own;
      recent = state_recent s.members f n bearer p t.said peer.size clear read kind t.states (young s.members s.air n bearer place f found free);
      since = subst (λ k. cast_count_at s.members b k ≤ f.casts + 30000) boot
          (subst (λ k. cast_count_at s.members k (boot_of (es_of f.frame)) ≤ f.casts + 30000) (number_is f.from.word b peer.from)
          (state_cast_recent s.members f n bearer p t.said peer.size clear read kind t.states (young s.members s.air n bearer place f found free)));
    }
