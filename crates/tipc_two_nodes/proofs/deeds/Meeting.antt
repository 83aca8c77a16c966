-- A STATE, a numbered packet or an ACTIVATE arrives on the near link, and what follows.
use Rattle.std.proofs.Common.{◌≡◌, ◌≢◌, ◌&&◌, ◌⊎◌, ℕ, Bool, true, false, if◌then◌else◌, List, [], ◌++◌, Some, length, option_map, refl, sym, ap, ◌∙◌, subst, inl, inr, append-nil, eqb-true, arith}
use Rattle.std.specs.Prelude.{not}
use Rattle.std.proofs.lemmas.Bool.{and_parts}
use Rattle.tipc_types.specs.LinkStates.{is_up}
use Rattle.tipc_types.specs.declared.link_words.BroadcastState.{BroadcastState}
use Rattle.tipc_outside.specs.declared.outgoing.Outgoing.{Outgoing}
use Rattle.tipc_header.specs.declared.packet.Header.{Header}
use Rattle.tipc_header.specs.declared.packet.Header.TheVariants as header
use Rattle.tipc_header.specs.Frames.{frame_of}
use Rattle.tipc_header.specs.Spelling.{Fields, spelling}
use Rattle.tipc_link.specs.Links.{LinkEnd, after, frames, heard_end, is_heard, is_taken, is_traffic, newly_numbered, sent_again}
use Rattle.tipc_link.specs.Parts.{IsShowable}
use Rattle.tipc_link.specs.Sessions.{Nothing, SessionEnd, arrived, content_by, content_of}
use Rattle.tipc_link.proofs.EndsTurns.{peer_is}
use Rattle.tipc_link_fsm.specs.declared.changes.Change.TheVariants.{Stay, Up}
use Rattle.tipc_link_fsm.specs.Runs.{Call, TrafficArrives, outcome}
use Rattle.tipc_link_fsm.specs.Table.{Fsm, Outcome, is_last, is_peer, is_reset_reset, is_session, on_traffic}
use Rattle.tipc_link_fsm.proofs.Moves.{cases_on}
use Rattle.tipc_pair.specs.Changeovers.{following}
use Rattle.tipc_pair.specs.Courses.{Course, going_on, rests}
use Rattle.tipc_pair.specs.Facing.{PairEnds, with_near}
use Rattle.tipc_pair.specs.PairArrivals.{met}
use Rattle.tipc_paired.specs.Deeds.{Hears, IsUp, MayCall}
use Rattle.tipc_paired.specs.Paired.{ArePaired}
use Rattle.tipc_paired.specs.Views.{View}
use Rattle.tipc_two_nodes.proofs.deeds.Hearing.{heard_takes}
use Rattle.tipc_two_nodes.proofs.deeds.Pairs.{takes_as, takes_rest, takes_then}
use Rattle.tipc_two_nodes.proofs.deeds.Stepping.{CanHand, First, called_fsm, first_takes, hand_far, stepped_takes, up_takes}
use Rattle.tipc_two_nodes.specs.deeds.Arriving.{Reaches, heard_more, heard_taken, linked_taken, met_more}
use Rattle.tipc_two_nodes.specs.deeds.PairDeeds.{IsOfPair, TakesCourse, both_more, followed_more, none_more}

-- ---- the link states

-- the link states took a packet of the session: the link is up then, under the epochs that it shows
pub record IsTakenIn (es er : ℕ) (o : Outcome) : Type 0 where
  pub peer : o.after.peer ≡ Some es
  pub own : er ≡ o.after.own
  pub up : is_up o.after.state ≡ true
  pub change : (o.change ≡ Up) ⊎ (o.change ≡ Stay)

pub taken_in : (f : Fsm) (es er : ℕ) → is_taken (on_traffic f es er).change ≡ true → IsTakenIn es er (on_traffic f es er)
unfolding on_traffic
taken_in f es er =
    let P : Outcome → Type 0 = λ o. is_taken o.change ≡ true → IsTakenIn es er o in
    let epochs : is_session f es er ≡ true → (f.peer ≡ Some es) × (er ≡ f.own) = λ is. (let both = and_parts (is_peer f.peer es) _ is in (peer_is f.peer es both.0, eqb-true er f.own both.1)) in
    cases_on P (is_session f es er && (is_reset_reset f.state && not (is_last f.own))) _ _
    (λ fits taken. (let all = and_parts (is_session f es er) _ fits in record { peer = (epochs all.0).0; own = (epochs all.0).1; up = refl; change = inl refl }))
    (λ _. cases_on P (is_session f es er && is_up f.state) _ _
    (λ fits taken. (let all = and_parts (is_session f es er) _ fits in record { peer = (epochs all.0).0; own = (epochs all.0).1; up = refl; change = inr refl }))
    (λ _ taken. absurd (let wrong : ⊥ = cc in wrong)))

-- ---- the session

pub some_content : (h : Header) (number : ℕ) (packet : List ℕ) → is_traffic h ≡ true → content_by h number packet ≢ Nothing
some_content (header.Reset said) number packet traffic = absurd (let wrong : ⊥ = cc in wrong)
some_content (header.Activate said) number packet traffic = absurd (let wrong : ⊥ = cc in wrong)
some_content (header.Discovery said) number packet traffic = absurd (let wrong : ⊥ = cc in wrong)
some_content (header.State said) number packet traffic = λ none. (let wrong : ⊥ = cc in wrong)
some_content other number packet traffic = λ none. (let wrong : ⊥ = cc in wrong)

pub brings : (p : Fields) → is_traffic p.header ≡ true → content_of p ≢ Nothing
unfolding content_of
brings p traffic = some_content p.header p.sequence _ traffic

-- the frame reaches the session of these epochs, after deeds that number nothing
pub reached_session : (v y mid : View) (b es er : ℕ) (p : Fields) (s : SessionEnd) → Reaches v y b es er p → is_traffic p.header ≡ true → s.epoch ≡ er → s.peer_epoch ≡ es → ((epoch : ℕ) → (mid.wires b).line epoch ≡ (v.wires b).line epoch) → Hears mid y b s p
reached_session v y mid b es er p s r traffic own peer lines =
    let own_fresh = r.own_fresh traffic in
    let peer_fresh = r.peer_fresh traffic in
    let here : length ((mid.wires b).line s.epoch) ≡ length ((v.wires b).line er) = ap (λ (xs : List (List ℕ)). length xs) (lines s.epoch ∙ ap (λ n. (v.wires b).line n) own) in
    let there : length ((y.wires b).line s.peer_epoch) ≡ length ((y.wires b).line es) = ap (λ n. length ((y.wires b).line n)) peer in
    record {
      place = r.place;
      frame = r.frame;
      there = r.there;
      bearer_is = r.bearer_is;
      fits = r.fits;
      bytes = r.bytes ∙ ap (λ n. frame_of n er (spelling p)) (sym peer) ∙ ap (λ n. frame_of s.peer_epoch n (spelling p)) (sym own);
      traffic = traffic;
      own_fresh = omega arith;
      peer_fresh = omega arith;
    }

-- what the session of the near link makes of the packet
abbrev pub Listening : PairEnds → LinkEnd → Fields → ℕ → Course
Listening z d p by = record (rests (with_near z (heard_end d by p.acknowledgement (content_of p)))) {
  states = sent_again d.session p.acknowledgement (content_of p);
  numbered = newly_numbered d.session by p.acknowledgement (content_of p);
}

pub listening_takes : (v y : View) (z : PairEnds) (d : LinkEnd) (s : SessionEnd) (p : Fields) (by : ℕ) → ArePaired v y → IsOfPair v z → IsUp (v.wires z.bearer) d s → Hears v y z.bearer s p → is_traffic p.header ≡ true
    → TakesCourse v y (Listening z d p by) (heard_more z.bearer d.session p by) (heard_taken z.bearer d.session p by)
listening_takes v y z d s p by h pair up a traffic =
    let c = content_of p in
    subst
    (λ o. TakesCourse v y (record (rests (with_near z (record d { session = option_map (λ k. arrived k by p.acknowledgement c) o }))) { states = sent_again o p.acknowledgement c; numbered = newly_numbered o by p.acknowledgement c })
    (heard_more z.bearer o p by) (heard_taken z.bearer o p by)) (sym up.session_is) (heard_takes v y z d s p by c h pair up a refl (brings p traffic))

-- the link goes up with a packet, or stays up, and its session hears it
pub heard_first_takes : (v y : View) (x : PairEnds) (e : LinkEnd) (es er : ℕ) (p : Fields) (by : ℕ) (shown : BroadcastState) → ArePaired v y → IsOfPair v x → x.near ≡ Some e → Reaches v y x.bearer es er p → is_traffic p.header ≡ true → MayCall v y x.bearer (TrafficArrives es er) → IsShowable shown
    → IsTakenIn es er (on_traffic e.fsm es er) → is_taken (on_traffic e.fsm es er).change ≡ true
    → TakesCourse v y (going_on (First x e (TrafficArrives es er) (on_traffic e.fsm es er).change shown) (λ z. Listening z (after e (on_traffic e.fsm es er)) p by)) (heard_more x.bearer (after e (on_traffic e.fsm es er)).session p by) (heard_taken x.bearer (after e (on_traffic e.fsm es er)).session p by)
heard_first_takes v y x e es er p by shown h pair near r traffic may showable k taken =
    let call = TrafficArrives es er in
    let o = on_traffic e.fsm es er in
    let d = after e o in
    let fsm = called_fsm e call in
    takes_then v y (First x e call o.change shown) (λ z. Listening z d p by) none_more (heard_more x.bearer d.session p by) none_more (heard_taken x.bearer d.session p by) h (first_takes v y x e call shown h pair near may showable taken)
    (λ mid paired took. (
    let up = ap (λ (f : Fsm). is_up f.state) fsm ∙ k.up in
    let going = (paired.here.ends x.bearer d took.pair.near).going up in
    let own = going.2 ∙ ap (λ (f : Fsm). f.own) fsm ∙ sym k.own in
    let peers : going.0.peer_epoch ≡ es = (let one = going.3 in let two = ap (λ (f : Fsm). f.peer) fsm ∙ k.peer in cc) in
    let a = reached_session v y mid x.bearer es er p going.0 r traffic own peers (λ epoch. took.did.line x.bearer epoch ∙ append-nil ((v.wires x.bearer).line epoch)) in
    listening_takes mid y (with_near x d) d going.0 p by paired took.pair (record { end_is = took.pair.near; up = up; session_is = going.1 }) a traffic))

-- ---- what follows

-- a packet that is heard is a STATE or a numbered packet of the session
pub record MayHear (v y : View) (x : PairEnds) (e : LinkEnd) (call : Call) (es er : ℕ) (p : Fields) : Type 0 where
  pub call_is : call ≡ TrafficArrives es er
  pub reaches : Reaches v y x.bearer es er p

abbrev Linked : PairEnds → LinkEnd → Outcome → Fields → ℕ → BroadcastState → Bool → Course
Linked x e o p by shown t = record (rests (with_near x (if t then heard_end (after e o) by p.acknowledgement (content_of p) else after e o))) {
  states = frames e o shown ++ (if t then sent_again (after e o).session p.acknowledgement (content_of p) else []);
  numbered = if t then newly_numbered (after e o).session by p.acknowledgement (content_of p) else [];
}

abbrev Met : View → View → PairEnds → LinkEnd → Outcome → Fields → ℕ → ℕ → BroadcastState → Bool → Type 0
Met v y x e o p es by shown t = TakesCourse v y (going_on (Linked x e o p by shown t) (λ z. following z o.change es))
    (both_more (if t then heard_more x.bearer (after e o).session p by else none_more) (followed_more (with_near x (if t then heard_end (after e o) by p.acknowledgement (content_of p) else after e o)) o.change))
    (if t then heard_taken x.bearer (after e o).session p by else none_more)

heard_met : (v y : View) (x : PairEnds) (e : LinkEnd) (es er : ℕ) (p : Fields) (by : ℕ) (shown : BroadcastState) → ArePaired v y → IsOfPair v x → x.near ≡ Some e → Reaches v y x.bearer es er p → MayCall v y x.bearer (TrafficArrives es er) → CanHand v x → IsShowable shown
    → is_traffic p.header ≡ true → is_taken (on_traffic e.fsm es er).change ≡ true → Met v y x e (on_traffic e.fsm es er) p es by shown true
unfolding going_on
heard_met v y x e es er p by shown h pair near r may can showable traffic taken =
    let o = on_traffic e.fsm es er in
    let d = after e o in
    let hd = heard_end d by p.acknowledgement (content_of p) in
    let z = with_near x hd in
    let k = taken_in e.fsm es er taken in
    let n = heard_more x.bearer d.session p by in
    let t = heard_taken x.bearer d.session p by in
    let up : is_up hd.fsm.state ≡ true = ap (λ (f : Fsm). is_up f.state) (called_fsm e (TrafficArrives es er)) ∙ k.up in
    let linked : TakesCourse v y (Linked x e o p by shown true) n t = heard_first_takes v y x e es er p by shown h pair near r traffic may showable k taken in
    takes_as v y (going_on (Linked x e o p by shown true) (λ w. following w o.change es)) (both_more n (followed_more z o.change)) (both_more n (followed_more z o.change)) (both_more t none_more) t
    (takes_then v y (Linked x e o p by shown true) (λ w. following w o.change es) n (followed_more z o.change) t none_more h linked
    (λ mid paired took. elim k.change [
      | inl rose ↦ subst (λ c. TakesCourse mid y (following z c es) (followed_more z c) none_more) (sym rose) (up_takes mid y z hd es paired took.pair refl up (hand_far v mid x z pair took.pair refl refl refl can))
      | inr stayed ↦ subst (λ c. TakesCourse mid y (following z c es) (followed_more z c) none_more) (sym stayed) (takes_rest mid y z took.pair)
    ])) (λ i j. refl) (λ i j. append-nil (t i j))

pub met_takes : (v y : View) (x : PairEnds) (e : LinkEnd) (call : Call) (es er : ℕ) (p : Fields) (by : ℕ) (shown : BroadcastState) → ArePaired v y → IsOfPair v x → x.near ≡ Some e → MayCall v y x.bearer call → CanHand v x → IsShowable shown
    → (is_heard p.header (outcome e.fsm call).change ≡ true → MayHear v y x e call es er p) → TakesCourse v y (met x e (outcome e.fsm call) p es by shown).course (met_more x e (outcome e.fsm call) p by) (linked_taken x e (outcome e.fsm call) p by)
met_takes v y x e call es er p by shown h pair near may can showable hear =
    let o = outcome e.fsm call in
    elim (is_heard p.header o.change) as (λ t. is_heard p.header o.change ≡ t → Met v y x e o p es by shown t) [
      | true ↦ λ is.
          let m = hear is in
          let both = and_parts (is_traffic p.header) (is_taken o.change) is in
          subst (λ c. Met v y x e (outcome e.fsm c) p es by shown true) (sym m.call_is)
          (heard_met v y x e es er p by shown h pair near m.reaches (subst (MayCall v y x.bearer) m.call_is may) can showable both.0 (ap (λ c. is_taken (outcome e.fsm c).change) (sym m.call_is) ∙ both.1))
      | false ↦ λ _.
          let z = with_near x (after e o) in
          subst (λ (fs : List Outgoing). TakesCourse v y (going_on (record (rests z) { states = fs }) (λ w. following w o.change es)) (followed_more z o.change) none_more) (sym (append-nil (frames e o shown)))
          (stepped_takes v y x e call es shown h pair near may can showable)
    ] refl
