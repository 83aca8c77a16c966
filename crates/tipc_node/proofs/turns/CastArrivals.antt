-- A broadcast packet that arrives is a turn of the node: at the pair to its sender what it brings is delivered, and the STATE that is due leaves;
-- at all others the node rests.
use Rattle.std.proofs.Common.{◌≡◌, ◌≢◌, ◌<◌, ◌^◌, ◌∙◌, ℕ, true, false, if◌then◌else◌, List, [], ◌++◌, Option, Some, None, filter, inl, inr, is_some, length, refl, sym, ap, subst, append-nil}
use Rattle.std.specs.Prelude.{◌==◌, IfSome, slice_index_or, slice_set}
use Rattle.std.specs.List.{All}
use Rattle.std.proofs.lemmas.Bool.{cases_eq}
use Rattle.std.proofs.lemmas.List.{get_or-set_other}
use Rattle.std.proofs.lemmas.List.Elements.{All-append, filter-append}
use Rattle.tipc_types.specs.Address.{node_word}
use Rattle.tipc_types.specs.declared.message_forms.Flow.TheVariants.{Broadcast, Zero}
use Rattle.tipc_types.specs.declared.node_calls.Answer.TheVariants as answer
use Rattle.tipc_types.specs.declared.node_calls.Arrival.{Arrival}
use Rattle.tipc_types.specs.declared.node_calls.By.{By}
use Rattle.tipc_types.specs.declared.node_calls.EventNote.TheVariants as event
use Rattle.tipc_outside.specs.declared.outgoing.Outgoing.{Outgoing}
use Rattle.tipc_header.specs.declared.frames.FrameKind.TheVariants.{Casts, Links}
use Rattle.tipc_header.specs.Frames.{kind_in}
use Rattle.tipc_broadcast.specs.Casting.{Casting, arriving_outcome, shown}
use Rattle.tipc_broadcast.specs.Contacts.{contact_with}
use Rattle.tipc_broadcast.specs.Deeds.{AreSmall, CastDeed, is_hearing_of}
use Rattle.tipc_broadcast.proofs.Deeds.{deeds_small}
use Rattle.tipc_journal.specs.declared.entries.Entry.{Entry}
use Rattle.tipc_journal.specs.Steps.{IsInside, NodeStep}
use Rattle.tipc_pair.specs.Courses.{rests as nothing}
use Rattle.tipc_pair.specs.Facing.{PairEnds}
use Rattle.tipc_pair.specs.Messages.{OpensTo, opened_in}
use Rattle.tipc_pair.specs.PairTurns.{Reply, ShowsAtLast, quietly, replied}
use Rattle.tipc_pair.specs.PairTurns.Opening.{rests}
use Rattle.tipc_pair.proofs.turns.Addressing.{AreFor}
use Rattle.tipc_recv_window.specs.declared.outcomes.LinkOutcome.{LinkOutcome}
use Rattle.tipc_recv_window.specs.declared.outcomes.LinkOutcome.TheVariants as outcome
use Rattle.tipc_node.specs.declared.neighbours.Neighbour.{Neighbour}
use Rattle.tipc_node.specs.CastArrivals.{HearsCast, asks_by, cast_answering, cast_deeds, cast_work, members_in}
use Rattle.tipc_node.specs.Neighbours.{with_casts, with_pair}
use Rattle.tipc_node.specs.Nodes.{NodeState, kept, neighbour_of, shown_contact, step_of}
use Rattle.tipc_node.specs.Turns.HearsCasts.{hears_one}
use Rattle.tipc_node.specs.Turns.CastDoing.{hears_cast}
use Rattle.tipc_node.specs.Turns.{AreCast, AreNamed, CastTurn, HearsOne, IsPlaced, IsRouted, NodeTurn, PeerTurn, casts_in, frames_to, given_entries, is_accepted_for, is_cast_for, is_cast_from, is_change_of, is_delivered_from, is_out_to}
use Rattle.tipc_node.proofs.Places.{set_none, set_there}
use Rattle.tipc_node.proofs.pairs.Strangers.{named_there, pair_there}
use Rattle.tipc_node.proofs.turns.CastFrames.{casts_both, links_uncast}
use Rattle.tipc_node.proofs.turns.Entries.{given_elsewhere, given_in, given_other, given_own, other_word, routed_to}
use Rattle.tipc_node.proofs.turns.MessageRuns.{delivers_all_run}
use Rattle.tipc_node.proofs.turns.Named.{replied_named}
use Rattle.tipc_node.proofs.turns.Runs.{IsRun, RunAt, Runs, accepted_now, stand_set}
use Rattle.tipc_node.proofs.turns.Shares.{frames_to-other, frames_to-own}
use Rattle.tipc_node.proofs.turns.Turning.{IsTurn, NeighbourTurn, cast_rests, casts_there, named_stand, node_turn, rests_turn, shows_link}

-- ---- the STATE that is due

-- as a reply: none where the packet is ignored
abbrev cast_reply : LinkOutcome → ℕ → ℕ → Casting → Option Reply
cast_reply (outcome.Ignored reason) bearer word v = None
cast_reply (outcome.Took taken) bearer word v = Some (record { bearer = bearer; taken = length taken; asks = false; shown = shown v word })
cast_reply outcome.Deferred bearer word v = Some (record { bearer = bearer; taken = 0; asks = asks_by outcome.Deferred (contact_with word v.contacts); shown = shown v word })

replies : (o : LinkOutcome) (bearer word : ℕ) (v : Casting) (x : Neighbour) → cast_answering o bearer word v x ≡ replied (cast_reply o bearer word v) x.pair
replies (outcome.Ignored reason) bearer word v x = refl
replies (outcome.Took taken) bearer word v x = refl
replies outcome.Deferred bearer word v x = refl

reply_shows : (o : LinkOutcome) (bearer word : ℕ) (v : Casting) → AreSmall v → ShowsAtLast (cast_reply o bearer word v)
reply_shows (outcome.Ignored reason) bearer word v small = tt
reply_shows (outcome.Took taken) bearer word v small = shows_link v word small
reply_shows outcome.Deferred bearer word v small = shows_link v word small

reply_is : (o : LinkOutcome) (bearer word : ℕ) (v w : Casting) → w ≡ v → IfSome (cast_reply o bearer word v) (λ (r : Reply). r.shown ≡ shown w word)
reply_is (outcome.Ignored reason) bearer word v w same = tt
reply_is (outcome.Took taken) bearer word v w same = ap (λ (u : Casting). shown u word) (sym same)
reply_is outcome.Deferred bearer word v w same = ap (λ (u : Casting). shown u word) (sym same)

-- ---- the run of work

cast_run : (n n' : NodeState) (by : By) (bearer number : ℕ) (bytes : List ℕ) (frames : List Outgoing) (answered : Arrival) → AreNamed n → (h : HearsCast n n' by bearer number bytes frames answered)
    → IsRun n (cast_work n h.peer h.neighbour h.joining) (given_in Broadcast h.peer (shown_contact h.neighbour.pair) (opened_in h.given)) h.returned h.work
cast_run n n' by bearer number bytes frames answered named h =
    let x = h.neighbour in
    let there : is_some (neighbour_of n h.peer) ≡ true = ap is_some h.was in
    let stand = stand_set n n.neighbours h.peer (with_casts x h.joining) (named_stand n named) (named_there n h.peer x named h.was) there in
    delivers_all_run n (cast_work n h.peer x h.joining) h.work Broadcast h.peer (shown_contact x.pair) (opened_in h.given) h.returned tt there stand h.delivers

-- ---- the turns

module _ (n n' : NodeState) (by : By) (bearer number : ℕ) (bytes : List ℕ) (frames : List Outgoing) (answered : Arrival) (named : AreNamed n) (low : n.boot < 2 ^ 32) (cast : AreCast n)
    (h : HearsCast n n' by bearer number bytes frames answered) (es : List Entry)
    (r : Runs n (cast_work n h.peer h.neighbour h.joining) es (given_in Broadcast h.peer (shown_contact h.neighbour.pair) (opened_in h.given)) h.returned h.work) where
  abbrev peer : ℕ
  peer = h.peer

  abbrev x : Neighbour
  x = h.neighbour

  abbrev contact : ℕ × ℕ
  contact = shown_contact x.pair

  abbrev deeds : List CastDeed
  deeds = cast_deeds h.first h.second h.packet number

  abbrev reply : Option Reply
  reply = cast_reply h.outcome bearer (node_word peer) h.casting

  abbrev last : Neighbour
  last = with_pair h.then (cast_answering h.outcome bearer (node_word peer) h.casting h.then).pair

  abbrev last_frames : List Outgoing
  last_frames = (cast_answering h.outcome bearer (node_word peer) h.casting h.then).states

  abbrev s : NodeStep
  s = step_of by (event.Arrive bearer number) h.work.inside (answer.Arrived answered)

  then_casting : n'.casting ≡ h.casting
  then_casting = ap (λ (k : NodeState). k.casting) h.after

  small : AreSmall h.casting
  small = subst AreSmall (sym h.casting_is) (deeds_small deeds n.casting cast.small)

  others : n'.neighbours ≡ slice_set h.work.neighbours peer (Some last)
  others = ap (λ (k : NodeState). k.neighbours) h.after

  sender_there : neighbour_of n' peer ≡ Some last
  sender_there = ap (λ xs. slice_index_or xs peer None) others ∙ set_there h.work.neighbours peer h.then last h.then_is

  -- the STATE is for the sender
  last_for : AreFor (node_word peer) last_frames
  last_for = subst (AreFor (node_word peer)) (sym (ap (λ c. c.states) (replies h.outcome bearer (node_word peer) h.casting h.then)))
      (replied_named (node_word peer) reply h.then.pair (r.stand.named peer h.then h.then_is)).frames_are

  -- what was noted is all that the step tells
  none_linked : kind_in bytes ≡ Links → ⊥
  none_linked link = (let wrong : Casts ≡ Links = sym h.brings.kind ∙ link in cc)

  sender_run : RunAt n.own peer es h.returned (with_casts x h.joining) h.then
  sender_run =
      let at = r.at peer (with_casts x h.joining) (set_there n.neighbours peer x (with_casts x h.joining) h.was) in
      let still : at.now ≡ h.then = (let both : Some at.now ≡ Some h.then = sym at.now_is ∙ h.then_is in cc) in
      subst (RunAt n.own peer es h.returned (with_casts x h.joining)) still at.run

  none_delivered : (b : ℕ) → filter (is_delivered_from b) s.inside ≡ []
  none_delivered b = ap (filter (is_delivered_from b)) r.inside_is ∙ r.delivered b ∙ given_elsewhere Zero Broadcast b peer contact (opened_in h.given) refl

  sender_turn : PeerTurn n.own bytes s frames peer x.pair last.pair
  sender_turn = record {
    opening = rests;
    suits = tt;
    on_one = tt;
    anew = tt;
    brought = tt;
    shows = tt;
    messages = sender_run.messages;
    sendable = sender_run.sendable;
    reply = reply;
    shows_last = reply_shows h.outcome bearer (node_word peer) h.casting small;
    own_frames = frames_to peer h.returned ++ last_frames;
    turn = record {
      first = quietly (nothing x.pair);
      happened = refl;
      put_frames = frames_to peer h.returned;
      put = h.then.pair;
      puts = sender_run.puts;
      after = ap (λ c. c.pair) (replies h.outcome bearer (node_word peer) h.casting h.then);
      frames_are = ap (λ c. frames_to peer h.returned ++ c.states) (replies h.outcome bearer (node_word peer) h.casting h.then);
    };
    frames_are = ap (frames_to peer) h.frames_are ∙ filter-append (is_out_to peer) h.returned last_frames ∙ ap (λ fs. frames_to peer h.returned ++ fs) (frames_to-own peer last_frames last_for);
    changes = ap (filter (is_change_of peer)) r.inside_is ∙ sender_run.changes;
    accepted = ap (filter (is_accepted_for peer)) r.inside_is ∙ accepted_now n.own peer es h.returned (with_casts x h.joining) h.then sender_run;
    delivered = none_delivered peer;
    taken = λ a es' er q is taken from link. absurd (none_linked link);
  }

  -- what was heard of its broadcast
  heard : HearsOne n n' bytes s deeds peer
  heard =
      let begun : (kept n' peer).casts ≡ h.joining = casts_there n' peer last sender_there ∙ sender_run.casts in
      record {
        bearer = bearer;
        on_one = h.brings.on_one;
        first = h.first;
        boot = h.brings.boot;
        second = h.second;
        packet = h.packet;
        from = h.brings.from;
        kind = h.brings.kind;
        there = h.brings.there;
        by = number;
        event = refl;
        heard = refl;
        given = h.given;
        opens =
            subst (OpensTo (kept n peer).casts (arriving_outcome n.casting h.first (members_in h.second) h.packet number) h.given) (sym begun)
            (subst (λ (o : LinkOutcome). OpensTo (kept n peer).casts o h.given h.joining) h.outcome_is (subst (λ joining. OpensTo joining h.outcome h.given h.joining) (sym (casts_there n peer x h.was)) h.opens));
        delivered =
            ap (filter (is_cast_from peer)) r.inside_is ∙ r.heard peer ∙ given_own Broadcast peer contact (opened_in h.given)
            ∙ ap (λ (y : PairEnds). given_entries Broadcast peer y h.given) (sym (pair_there n peer x h.was));
      }

  sender_cast : CastTurn n n' bytes s deeds None peer rests (quietly (nothing x.pair)) reply
  sender_cast = record {
    told = refl;
    shows = tt;
    shows_last = reply_is h.outcome bearer (node_word peer) h.casting n'.casting then_casting;
    accepted = ap (filter (is_cast_for peer)) r.inside_is ∙ r.uncast peer;
    heard = hears_one heard;
  }

  at_sender : NeighbourTurn n n' bytes s frames deeds None peer x
  unfolding sender_turn
  at_sender = record { after = last; after_is = sender_there; turns = (sender_turn, sender_cast) }

  -- it is heard of no other peer
  unheard : (b : ℕ) → (b ≡ peer → ⊥) → filter (is_hearing_of (node_word b)) deeds ≡ []
  unheard b other =
      ap (λ word. if word == node_word b then deeds else []) h.brings.from.previous ∙ ap (λ t. if t then deeds else []) (other_word b peer (λ e. other (sym e)))

  at_other : (b : ℕ) (y : Neighbour) → neighbour_of n b ≡ Some y → (b ≡ peer → ⊥) → NeighbourTurn n n' bytes s frames deeds None b y
  unfolding rests_turn
  at_other b y there other =
      let apart : peer ≢ b = λ e. other (sym e) in
      let at = r.at b y (get_or-set_other n.neighbours peer b (Some (with_casts x h.joining)) None other ∙ there) in
      let after : neighbour_of n' b ≡ Some at.now = ap (λ xs. slice_index_or xs b None) others ∙ get_or-set_other h.work.neighbours peer b (Some last) None other ∙ at.now_is in
      record {
        after = at.now;
        after_is = after;
        turns = (
          rests_turn n.own bytes s frames b es h.returned y at.now (record {
            frames_are =
                ap (frames_to b) h.frames_are ∙ filter-append (is_out_to b) h.returned last_frames ∙ ap (λ fs. frames_to b h.returned ++ fs) (frames_to-other b peer last_frames apart last_for)
                ∙ append-nil (frames_to b h.returned);
            changes = ap (filter (is_change_of b)) r.inside_is;
            accepted = ap (filter (is_accepted_for b)) r.inside_is;
            delivered = none_delivered b;
            taken = λ a es' er q is taken from link. none_linked link;
          }) at.run,
          cast_rests n n' bytes s deeds None b y.pair (record {
            apart = refl;
            unheard = unheard b other;
            delivered = ap (filter (is_cast_from b)) r.inside_is ∙ r.heard b ∙ given_other Broadcast Broadcast b peer contact (opened_in h.given) apart;
            accepted = ap (filter (is_cast_for b)) r.inside_is ∙ r.uncast b;
            begun = casts_there n' b at.now after ∙ at.run.casts ∙ sym (casts_there n b y there);
          }),
        );
      }

  at_each : (b : ℕ) (y : Neighbour) → neighbour_of n b ≡ Some y → NeighbourTurn n n' bytes s frames deeds None b y
  at_each b y there = elim (cases_eq b peer) [
    | inl here ↦
        let same : x ≡ y = (let both : Some x ≡ Some y = sym h.was ∙ subst (λ k. neighbour_of n k ≡ Some y) here there in cc) in
        subst (λ k. NeighbourTurn n n' bytes s frames deeds None k y) (sym here) (subst (NeighbourTurn n n' bytes s frames deeds None peer) same at_sender)
    | inr other ↦ at_other b y there other
  ]

  stranger_other : (b : ℕ) → neighbour_of n b ≡ None → b ≡ peer → ⊥
  stranger_other b none here = (let wrong : Some x ≡ None = sym h.was ∙ subst (λ k. neighbour_of n k ≡ None) here none in cc)

  hears_cast_turn : NodeTurn n n' bytes s frames
  hears_cast_turn = node_turn n n' bytes s frames (record {
    own = ap (λ (k : NodeState). k.own) h.after;
    boot = ap (λ (k : NodeState). k.boot) h.after;
    journal = ap (λ (k : NodeState). k.journal) h.after;
    inside = subst IsInside (sym r.inside_is) r.inside;
    deeds = deeds;
    casting = then_casting ∙ h.casting_is;
    lawful = (h.brings.from.fits, tt);
    cast_frames = ap casts_in h.frames_are ∙ casts_both h.returned last_frames ∙ ap (λ fs. fs ++ casts_in last_frames) r.unsent ∙ links_uncast (node_word peer) last_frames last_for;
    cast = None;
    sent = refl;
    doing = hears_cast peer heard;
    turns = at_each;
    alone = λ b none. ap (λ (k : NodeState). neighbour_of k b) h.after ∙ set_none h.work.neighbours peer b h.then last h.then_is (r.alone b (set_none n.neighbours peer b x (with_casts x h.joining) h.was none));
    untaken = λ b none a es' er q is taken from link. none_linked link;
    apart = λ b none. (refl, unheard b (stranger_other b none));
    routed = subst (All (IsRouted n)) (sym h.frames_are) (All-append (IsRouted n) h.returned last_frames r.routed (routed_to n peer last_frames (ap is_some h.was) last_for));
    placed = subst (All (IsPlaced n)) (sym r.inside_is) r.placed;
  })

pub cast_turn : (n n' : NodeState) (by : By) (bearer number : ℕ) (bytes : List ℕ) (frames : List Outgoing) (answered : Arrival) → AreNamed n → n.boot < 2 ^ 32 → AreCast n → HearsCast n n' by bearer number bytes frames answered
    → IsTurn n n' by (event.Arrive bearer number) bytes frames (answer.Arrived answered)
cast_turn n n' by bearer number bytes frames answered named low cast h =
    let run = cast_run n n' by bearer number bytes frames answered named h in
    (h.work.inside, hears_cast_turn n n' by bearer number bytes frames answered named low cast h run.noted run.runs)
