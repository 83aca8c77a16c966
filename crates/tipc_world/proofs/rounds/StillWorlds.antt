-- While a world settles nothing goes down: each event keeps each two nodes still, and what leaves shows what its sender
-- has at present.
use Rattle.std.proofs.Common.{◌≡◌, ◌≢◌, ◌≤◌, ◌<◌, ◌^◌, ◌∙◌, ℕ, zero, suc, true, false, List, [], Option, Some, None, length, slice_get, slice_index_or, is_some, eqb-true, refl, sym, ap, subst, arith}
use Rattle.std.specs.Prelude.{◌==◌}
use Rattle.std.proofs.lemmas.Bool.{and_parts}
use Rattle.std.proofs.lemmas.Bool.Decides.{nat_tests}
use Rattle.tipc_types.specs.Address.{node_word}
use Rattle.tipc_types.specs.declared.node_calls.Answer.{Answer}
use Rattle.tipc_types.specs.declared.node_calls.Answer.TheVariants as answer
use Rattle.tipc_types.specs.declared.node_calls.EventNote.TheVariants as note
use Rattle.tipc_outside.specs.declared.outgoing.Outgoing.{Outgoing}
use Rattle.tipc_header.specs.declared.frames.FrameKind.TheVariants.{Casts, Finds, Links}
use Rattle.tipc_header.specs.Frames.{frame_of, is_of_link, kind_in}
use Rattle.tipc_header.specs.Grammar.{Fits, HeaderFits}
use Rattle.tipc_header.specs.Spelling.{Fields, spelling}
use Rattle.tipc_journal.specs.Steps.{NodeStep}
use Rattle.tipc_link.specs.Links.{LinkEnd}
use Rattle.tipc_link_fsm.specs.Table.{is_last}
use Rattle.tipc_tunnel.specs.Tunnels.{Carries, Tunnelled}
use Rattle.tipc_pair.specs.Facing.{PairEnds, facing, other}
use Rattle.tipc_paired.specs.Views.{Frame, Node, epoch_in, es_of, fsm_in, notice_of}
use Rattle.tipc_paired.proofs.wires.Frames.{es_of-frame}
use Rattle.tipc_paired.proofs.wires.Wires.{map_at}
use Rattle.tipc_two_nodes.specs.Sights.{AreSeen, Sight, pair_seen}
use Rattle.tipc_settling.specs.Beginnings.{epoch_at}
use Rattle.tipc_settling.specs.Stillness.{Footing, IsStill, IsStillAt, MayComeTo, ShowsNumber, ShowsPresent}
use Rattle.tipc_settling.proofs.Beginnings.{begins_still, shows_present_contact}
use Rattle.tipc_settling.proofs.Nodes.{events_send_under_present, events_still}
use Rattle.tipc_node.specs.Nodes.{pair_with, step_of}
use Rattle.tipc_node.specs.Numbers.{own_epoch, own_epoch_on}
use Rattle.tipc_node.specs.Originals.{BringsEnded}
use Rattle.tipc_node.specs.Sockets.{kept_answer}
use Rattle.tipc_node.specs.Telling.{IsTold}
use Rattle.tipc_node.specs.Turns.{IsFrom, NodeTurn, frames_to, is_out_to, is_to}
use Rattle.tipc_node.proofs.pairs.Numbers.{turn_ended_frames}
use Rattle.tipc_node.proofs.pairs.Rising.{first_on, second_on}
use Rattle.tipc_node.proofs.pairs.Strangers.{kept_abreast}
use Rattle.tipc_replay.specs.declared.air.Sent.{Sent}
use Rattle.tipc_replay.specs.declared.events.WorldEvent.{WorldEvent}
use Rattle.tipc_replay.specs.declared.events.WorldEvent.TheVariants.{Arrive, Call}
use Rattle.tipc_replay.specs.Addressed.{IsAddressed, of_a_link, of_broadcast, of_discovery}
use Rattle.tipc_replay.specs.Air.{airborne, as_frame, goes, sent_between}
use Rattle.tipc_replay.specs.Calls.{node_of}
use Rattle.tipc_replay.specs.Due.{frame_for}
use Rattle.tipc_replay.specs.Sound.{IsAirborne, IsNumber, IsSound}
use Rattle.tipc_replay.specs.States.{MemberState, contact_at}
use Rattle.tipc_replay.specs.Steps.{stage, Stage}
use Rattle.tipc_replay.specs.Views.{sight_at}
use Rattle.tipc_replay.proofs.calls.Calls.{the_some}
use Rattle.tipc_replay.proofs.InLists.{all_at, stands_passing}
use Rattle.tipc_replay.proofs.LookUps.{member_at-is}
use Rattle.tipc_replay.proofs.frames.Coming.{from_peer}
use Rattle.tipc_replay.proofs.frames.Reaching.{goes_there, placed, same_receiver}
use Rattle.tipc_replay.proofs.pairs.Standing.{kept_sight}
use Rattle.tipc_world.specs.declared.places.Places.{Places}
use Rattle.tipc_world.specs.Ends.{ends_of, AreBefore}
use Rattle.tipc_world.specs.RoundParts.{EachNode, FrameArrives, HappensWhole, IsKept, IsRound}
use Rattle.tipc_world.specs.States.{WorldState}
use Rattle.tipc_world.specs.Steps.{by_in}
use Rattle.tipc_world.specs.StillWorlds.{FrameTellsEnded, HasHeardAll, IsStillNode, IsStillWorld, IsUnderPresent, MayBeStill, footing_at}
use Rattle.tipc_world.proofs.rounds.Beginning.{more_contacts, more_epochs}
use Rattle.tipc_world.proofs.rounds.Flying.{none_behind}
use Rattle.tipc_world.proofs.rounds.Guarded.{ArrivalsGuarded, TicksGuarded, round_guarded}
use Rattle.tipc_world.proofs.rounds.Keeping.{settles_same}

-- ---- two nodes of a world

-- the number of a node that is there
pub node_number : (w : WorldState) (n : ℕ) (m : MemberState) → IsKept w → slice_index_or w.members n None ≡ Some m → IsNumber n
node_number w n m kept there = (kept.nodes.sound.numbered n m there).0

-- what a node sees of another one is its pair with it
pub sight_is : (w : WorldState) (n b : ℕ) (m : MemberState) → IsKept w → slice_index_or w.members n None ≡ Some m → pair_seen (sight_at w.members w.air n b) ≡ pair_with m.node b
sight_is w n b m kept there = kept_sight (stage w.members w.air) n b m kept.nodes.sound (member_at-is w.members n m there) (kept.nodes.sound.numbered n m there).1

-- ---- the begin

pub begins_still_all : (start : WorldState) → IsKept start → MayBeStill start → EachNode (IsStillNode start) start
begins_still_all start kept may n m there b number apart =
    let n_is = node_number start n m kept there in
    subst (IsStill (footing_at start n b) (footing_at start b n)) (sight_is start n b m kept there)
    (begins_still (sight_at start.members start.air n b) (sight_at start.members start.air b n) (kept.nodes.sound.pairs n b n_is number apart) (may n b n_is number apart) (more_epochs start b n kept))

-- ---- what leaves

-- a number below the own epoch of a still pair is below that of its footing
below_end : (own peer : Footing) (seen bearer : ℕ) (o : Option LinkEnd) (number : ℕ) → IsStillAt own peer seen bearer (fsm_in o) → number < own_epoch o → number < own.epoch bearer
below_end own peer seen bearer None number still below = absurd (let none : number < 0 = below in omega (arith, none))
below_end own peer seen bearer (Some e) number still below = let is = still.epoch in let low : number < e.fsm.own = below in omega (arith, is, low)

below_footing : (own peer : Footing) (x : PairEnds) (bearer number : ℕ) → x.bearer ≡ 0 → bearer ≤ 1 → IsStill own peer x → number < own_epoch_on x bearer → number < own.epoch bearer
below_footing own peer x zero number first on_one still below =
    below_end own peer x.seen 0 x.near number (subst (λ k. IsStillAt own peer x.seen k (fsm_in x.near)) first still.near) (subst (λ k. number < k) (first_on x first) below)
below_footing own peer x (suc zero) number first on_one still below =
    below_end own peer x.seen 1 x.far number (subst (λ k. IsStillAt own peer x.seen (other k) (fsm_in x.far)) first still.far) (subst (λ k. number < k) (second_on x first) below)
below_footing own peer x (suc (suc more)) number first on_one still below = absurd (omega (arith, on_one))

-- a tunnel packet names one of the two bearers
names_bearer : (p : Fields) (t : Tunnelled) → Fits p → Carries p t → t.old.bearer ≤ 1
names_bearer p t fits carries = (subst HeaderFits carries.header fits.header).old_bearer

-- where an event leaves a pair still, the frames of the links that left name ended sessions alone
sends_ended : (start old new : WorldState) (event : WorldEvent) (bytes : List ℕ) (answered : Answer) (h : HappensWhole old new event bytes answered) (s : NodeStep) → IsKept old → IsTold h.before.node → IsTold h.after.node
    → NodeTurn h.before.node h.after.node bytes s h.frames → (d : ℕ) → IsStill (footing_at start (node_of event) d) (footing_at start d (node_of event)) (pair_with h.after.node d) → (k : ℕ) (o : Outgoing) → slice_get h.frames k ≡ Some o
    → is_out_to d o ≡ true → FrameTellsEnded (footing_at start (node_of event) d) o.frame
sends_ended start old new event bytes answered h s kept told after turn d still k o at goes_out es er p fits is t carries kind =
    let n = node_of event in
    let all = turn_ended_frames h.before.node h.after.node bytes s h.frames told after turn (kept.nodes.numbers n h.before h.was) (kept.nodes.originals n h.before h.was) d in
    let passed = stands_passing (is_out_to d) h.frames o (k, at) goes_out in
    let brings = all_at (BringsEnded (own_epoch_on (pair_with h.after.node d))) (frames_to d h.frames) passed.0 o all passed.1 in
    below_footing (footing_at start n d) (footing_at start d n) (pair_with h.after.node d) t.old.bearer t.old.epoch (kept_abreast h.after.node d after).first (names_bearer p t fits carries) still (brings es er p t fits is carries kind)

-- the frames of an event are of what the node has at present
sends_present : (start old new : WorldState) (event : WorldEvent) (bytes : List ℕ) (answered : Answer) (h : HappensWhole old new event bytes answered) (s : NodeStep) → IsKept old → IsTold h.before.node → IsTold h.after.node
    → NodeTurn h.before.node h.after.node bytes s h.frames → ((b : ℕ) → IsNumber b → node_of event ≢ b → MayComeTo (footing_at start b (node_of event)) b (pair_with h.before.node b) s.event bytes)
    → IsStillNode start (node_of event) h.before → IsStillNode start (node_of event) h.after → (k : ℕ) (o : Outgoing) → slice_get h.frames k ≡ Some o
    → IsUnderPresent start o.bearer (airborne (contact_at old.members (node_of event)) new.members (node_of event) o)
sends_present start old new event bytes answered h s kept told after turn comes still stays k o at sender d sender_is d_is apart goes_to =
    let n = node_of event in
    let both = and_parts (node_word n == node_word sender) (is_out_to d o) goes_to in
    let word : node_word n ≡ node_word sender = eqb-true (node_word n) (node_word sender) both.0 in
    let one : n ≡ sender = omega (arith, word) in
    let n_is : IsNumber n = subst IsNumber (sym one) sender_is in
    let another : n ≢ d = λ same. apart (sym one ∙ same) in
    let all = events_send_under_present (sight_at old.members old.air n d) (sight_at old.members old.air d n) (footing_at start n d) (footing_at start d n) h.before.node h.after.node bytes s h.frames d told turn
    (kept.nodes.sound.pairs n d n_is d_is another) (sight_is old n d h.before kept h.was) (comes d d_is another) (still d d_is another) in
    let passed = stands_passing (is_out_to d) h.frames o (k, at) both.1 in
    let link = (and_parts (is_to d o.to) (is_of_link o.frame) both.1).1 in
    let under : es_of o.frame ≡ (footing_at start n d).epoch o.bearer =
    all_at (λ (q : Outgoing). is_of_link q.frame ≡ true → es_of q.frame ≡ (footing_at start n d).epoch q.bearer) (frames_to d h.frames) passed.0 o all passed.1 link in
    let ended = sends_ended start old new event bytes answered h s kept told after turn d (stays d d_is another) k o at both.1 in
    record {
      epoch = subst (λ a. es_of o.frame ≡ (footing_at start a d).epoch o.bearer) one under;
      ended = subst (λ a. FrameTellsEnded (footing_at start a d) o.frame) one ended;
    }

-- ---- a tick

pub tick_still : (start : WorldState) (from : Places) → IsKept start → TicksGuarded start from (IsStillNode start) HasHeardAll (IsUnderPresent start)
tick_still start from kept old new node answered h g next ready =
    let t = h.does.turn in
    let s = step_of (by_in old.members old.stamps (Call node note.Tick)) note.Tick t.inside (kept_answer answered) in
    let still = g.nodes node h.before h.was in
    let stays : IsStillNode start node h.after =
    λ b number apart. events_still (footing_at start node b) (footing_at start b node) h.before.node h.after.node [] s h.frames b t.told_before t.turn (ready b number apart) (still b number apart) in
    record { node = stays; sent = sends_present start old new (Call node note.Tick) [] answered h s (g.on.kept kept) t.told_before t.told t.turn (λ b number apart. ready b number apart) still stays }

-- ---- an arrival

-- a link packet of node b came in a frame of the links from it
goes_to : (s : Stage) (n bearer place : ℕ) (f : Sent) (b es er : ℕ) (p : Fields) → IsSound s.members s.air → frame_for s.air n bearer place ≡ Some f → IsFrom b f.frame es er p → kind_in f.frame ≡ Links → f.from.word ≡ node_word b
    → goes b n f ≡ true
goes_to s n bearer place f b es er p sound found from kind_is word = by flown.addressed
  where
    flown : IsAirborne f
    flown = sound.frames bearer place f (placed s.air n bearer place f found).0

    by : IsAddressed flown.from f.frame f.to → goes b n f ≡ true
    by (of_a_link link other) =
        let to_it : is_to other.receiver f.to ≡ true = ap (is_to other.receiver) other.to_is ∙ grind (arith, nat_tests) in
        let here : other.receiver ≡ n = sym (same_receiver n other.receiver f.from f.to (placed s.air n bearer place f found).1 to_it) in
        goes_there b n f word (subst (λ k. is_to k f.to ≡ true) here to_it) link
    by (of_discovery packet finds low receivers) = absurd (let wrong : Finds ≡ Links = sym finds ∙ kind_is in cc)
    by (of_broadcast packet casts all) = absurd (let wrong : Casts ≡ Links = sym casts ∙ kind_is in cc)

-- the epoch of a still pair on a bearer is that of its footing
still_end : (own peer : Footing) (seen contact bearer : ℕ) (o : Option LinkEnd) → contact ≡ own.contact → IsStillAt own peer seen bearer (fsm_in o) → epoch_in contact o ≡ own.epoch bearer
still_end own peer seen contact bearer None is still = is ∙ sym still.epoch
still_end own peer seen contact bearer (Some e) is still = still.epoch

pub still_epoch : (own peer : Footing) (v : Sight) (bearer : ℕ) → bearer ≤ 1 → IsStill own peer (pair_seen v) → epoch_at (pair_seen v) bearer ≡ own.epoch bearer
unfolding facing
still_epoch own peer v zero on_one still = still_end own peer v.node.seen v.node.contact 0 (v.ends 0) still.contact still.near
still_epoch own peer v (suc zero) on_one still = still_end own peer v.node.seen v.node.contact 1 (v.ends 1) still.contact still.far
still_epoch own peer v (suc (suc more)) on_one still = absurd (omega (arith, on_one))

-- A frame in the air is of a link end that is made, where it is under no lower epoch than the contact number of its
-- sender.
pub no_end_below : (v w : Sight) (place : ℕ) (f : Frame) → AreSeen v w → slice_get v.sent place ≡ Some f → v.ends f.bearer ≡ None → es_of f.bytes < v.node.contact
no_end_below v w place f h there none =
    let t = h.seen_here.sent place f there in
    let x = h.here.view in
    let speaks = h.talking.twins.paired.peers.a_speaks in
    let unmade : fsm_in (x.wires t.frame.bearer).end ≡ None = ap fsm_in (ap (λ b. (x.wires b).end) t.bearer_is ∙ (h.seen_here.ends f.bearer ∙ none)) in
    let below : es_of t.frame.bytes < x.node.contact = speaks.before t.place (notice_of t.frame) (map_at notice_of x.told t.place t.frame t.there) unmade in
    let bytes : es_of t.frame.bytes ≡ es_of f.bytes = ap es_of t.bytes in
    let contact : x.node.contact ≡ v.node.contact = ap (λ (n : Node). n.contact) h.seen_here.node in
    omega (arith, below, bytes, contact)

-- A RESET or an ACTIVATE under the present epoch of its sender, which isn't a boot's last, shows its contact number.
shows_number : (v w : Sight) (place : ℕ) (f : Frame) (es er : ℕ) (p : Fields) → AreSeen v w → slice_get v.sent place ≡ Some f → es < 2 ^ 64 → er < 2 ^ 64 → Fits p → f.bytes ≡ frame_of es er (spelling p)
    → (o : Option LinkEnd) → v.ends f.bearer ≡ o → es ≡ epoch_in v.node.contact o → is_last es ≡ false → ShowsNumber v.node.contact p.header
shows_number v w place f es er p h there es_fits er_fits fits bytes None none now last =
    let below = no_end_below v w place f h there none in
    let under : es_of f.bytes ≡ es = ap es_of bytes ∙ es_of-frame es er (spelling p) es_fits er_fits in
    absurd (omega (arith, below, under, now))
shows_number v w place f es er p h there es_fits er_fits fits bytes (Some e) is now last =
    shows_present_contact v w place f e es er p h there is (ap is_last (sym now) ∙ last) es_fits er_fits fits bytes now

-- the end of the node on a bearer
pub seen_end : (v : Sight) (bearer : ℕ) → bearer ≤ 1 → epoch_at (pair_seen v) bearer ≡ epoch_in v.node.contact (v.ends bearer)
unfolding facing
seen_end v zero on_one = refl
seen_end v (suc zero) on_one = refl
seen_end v (suc (suc more)) on_one = absurd (omega (arith, on_one))

-- the epoch of a footing isn't a boot's last
pub present_goes_on : (start : WorldState) (a b bearer : ℕ) → IsKept start → bearer ≤ 1 → is_last ((footing_at start a b).epoch bearer) ≡ false
present_goes_on start a b bearer kept on_one =
    let v = sight_at start.members start.air a b in
    ap is_last (seen_end v bearer on_one) ∙ by (v.ends bearer) refl
  where
    by : (o : Option LinkEnd) → (sight_at start.members start.air a b).ends bearer ≡ o → is_last (epoch_in (sight_at start.members start.air a b).node.contact o) ≡ false
    by None none = more_contacts start a b kept
    by (Some e) is = more_epochs start a b kept bearer e is

-- what a node ever sent to another one, as it has it
sent_there : (w : WorldState) (b n place : ℕ) (f : Frame) → slice_get (sent_between w.air b n) place ≡ Some f → slice_get (sight_at w.members w.air b n).sent place ≡ Some f
unfolding sight_at
sent_there w b n place f there = there

-- the sender of a link packet that is found: another node that is there, which sent it in a frame of the links
pub record IsSentFrom (w : WorldState) (n bearer : ℕ) (f : Sent) (b : ℕ) : Type 0 where
  pub number : IsNumber b
  pub apart : b ≢ n
  pub goes_here : goes b n f ≡ true
  pub there : is_some (slice_index_or w.members b None) ≡ true
  pub place : ℕ
  pub sent : slice_get (sight_at w.members w.air b n).sent place ≡ Some (as_frame bearer f)

pub sender_there : (w : WorldState) (n bearer place : ℕ) (f : Sent) (b es er : ℕ) (p : Fields) → IsKept w → frame_for w.air n bearer place ≡ Some f → IsFrom b f.frame es er p → kind_in f.frame ≡ Links → IsSentFrom w n bearer f b
sender_there w n bearer place f b es er p kept found brings kind_is =
    let s = stage w.members w.air in
    let peer = from_peer s n bearer place f b es er p kept.nodes.sound found brings kind_is in
    let sent_by = kept.nodes.sound.senders bearer place f (placed w.air n bearer place f found).0 in
    let words : node_word sent_by.0 ≡ node_word b = sym sent_by.1 ∙ peer.from in
    let one : sent_by.0 ≡ b = omega (arith, words) in
    record {
      number = peer.number;
      apart = peer.apart;
      goes_here = goes_to s n bearer place f b es er p kept.nodes.sound found brings kind_is peer.from;
      there = subst (λ k. is_some (slice_index_or w.members k None) ≡ true) one sent_by.2;
      place = peer.place;
      sent = sent_there w b n peer.place (as_frame bearer f) peer.there;
    }

-- a frame that arrives shows what its sender has at present
pub shows_present : (start : WorldState) → IsKept start → (old new : WorldState) (a : FrameArrives (ends_of start.air) old new) → IsStillWorld start old → IsUnderPresent start a.bearer a.frame
    → (b es er : ℕ) (p : Fields) → IsFrom b a.frame.frame es er p → kind_in a.frame.frame ≡ Links → ShowsPresent (footing_at start b a.node) a.bearer es p
shows_present start kept old new a g under b es er p brings kind_is =
    let n = a.node in
    let kept_old = g.on.kept kept in
    let peer = sender_there old n a.bearer a.place a.frame b es er p kept_old a.found brings kind_is in
    let n_is = node_number old n a.arrives.before kept_old a.arrives.was in
    let said = under b n peer.number n_is peer.apart peer.goes_here in
    let epoch : es ≡ (footing_at start b n).epoch a.bearer = sym (es_of-frame es er (spelling p) brings.es_fits brings.er_fits) ∙ (ap es_of (sym brings.frame_is) ∙ said.epoch) in
    let there = the_some (slice_index_or old.members b None) peer.there in
    let v = sight_at old.members old.air b n in
    let still = subst (IsStill (footing_at start b n) (footing_at start n b)) (sym (sight_is old b n there.0 kept_old there.1)) (g.nodes b there.0 there.1 n n_is peer.apart) in
    let now : es ≡ epoch_in v.node.contact (v.ends a.bearer) = epoch ∙ (sym (still_epoch (footing_at start b n) (footing_at start n b) v a.bearer a.on_one still) ∙ seen_end v a.bearer a.on_one) in
    let goes_on : is_last es ≡ false = ap is_last epoch ∙ present_goes_on start b n a.bearer kept a.on_one in
    record {
      epoch = epoch;
      fits = brings.fits;
      number = subst (λ c. ShowsNumber c p.header) still.contact
          (shows_number v (sight_at old.members old.air n b) peer.place (as_frame a.bearer a.frame) es er p (kept_old.nodes.sound.pairs b n peer.number n_is peer.apart) peer.sent brings.es_fits brings.er_fits brings.fits brings.frame_is
          (v.ends a.bearer) refl now goes_on);
      ended = said.ended es er p brings.fits brings.frame_is;
    }

pub arrival_still : (start : WorldState) → IsKept start → ArrivalsGuarded start (ends_of start.air) (IsStillNode start) (IsUnderPresent start)
arrival_still start kept old new a g next under =
    let h = a.arrives in
    let t = h.does.turn in
    let note_is = note.Arrive a.bearer (length h.before.arrivals) in
    let s = step_of (by_in old.members old.stamps (Arrive a.node a.bearer a.place)) note_is t.inside (answer.Arrived h.does.arrived) in
    let still = g.nodes a.node h.before h.was in
    let comes : (b : ℕ) → IsNumber b → a.node ≢ b → MayComeTo (footing_at start b a.node) b (pair_with h.before.node b) s.event a.frame.frame =
    λ b number apart es er p brings kind_is. shows_present start kept old new a g under b es er p brings kind_is in
    let stays : IsStillNode start a.node h.after =
    λ b number apart. events_still (footing_at start a.node b) (footing_at start b a.node) h.before.node h.after.node a.frame.frame s h.frames b t.told_before t.turn (comes b number apart) (still b number apart) in
    record { node = stays; sent = sends_present start old new (Arrive a.node a.bearer a.place) a.frame.frame a.answered h s (g.on.kept kept) t.told_before t.told t.turn comes still stays }

-- ---- a round

-- nothing goes down in a round that begins when each node has heard all others
pub round_still : (start : WorldState) (places : Places) (outset : WorldState) (ends : Places) (now : WorldState) → IsKept start → AreBefore (ends_of start.air) places → IsRound places outset ends now
    → now.lost ≡ false → IsStillWorld start outset → EachNode HasHeardAll outset → IsStillWorld start now
round_still start places outset ends now kept behind r whole still heard =
    (round_guarded start (ends_of start.air) (IsStillNode start) HasHeardAll (IsUnderPresent start) places outset ends now (tick_still start (ends_of start.air) kept) (arrival_still start kept) behind r whole still heard).round

-- so it is when the call begins
pub call_begins_still : (start : WorldState) → IsKept start → MayBeStill start → start.lost ≡ false → IsStillWorld start start
call_begins_still start kept may clear = record { on = settles_same start clear; nodes = begins_still_all start kept may; frames = none_behind (IsUnderPresent start) start }
