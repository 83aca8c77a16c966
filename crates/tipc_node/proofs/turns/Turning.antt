-- How a turn of a node is put together from what happened first at each pair and from a run of work.
use Rattle.std.proofs.Common.{◌≡◌, ◌==◌, ◌&&◌, ℕ, true, false, List, [], ◌++◌, Option, Some, None, filter, is_some, inl, inr, refl, sym, ap, ◌∙◌, subst, append-nil, arith}
use Rattle.std.specs.Prelude.{IfSome, length, ◌+◌, ◌<◌, ◌≤◌, ◌^◌}
use Rattle.std.specs.List.{All}
use Rattle.std.proofs.lemmas.List.Elements.{All-nil, All-weaker}
use Rattle.tipc_types.specs.Address.{node_word}
use Rattle.tipc_types.specs.declared.identity.Addr.{Addr}
use Rattle.tipc_types.specs.declared.message_forms.Flow.TheVariants.{Broadcast, Zero}
use Rattle.tipc_types.specs.declared.message_forms.Message.{Message}
use Rattle.tipc_types.specs.declared.node_calls.Answer.{Answer}
use Rattle.tipc_types.specs.declared.node_calls.Answer.TheVariants as answer
use Rattle.tipc_types.specs.declared.node_calls.Arrival.{Arrival}
use Rattle.tipc_types.specs.declared.node_calls.By.{By}
use Rattle.tipc_types.specs.declared.node_calls.EventNote.{EventNote}
use Rattle.tipc_outside.specs.declared.outgoing.Outgoing.{Outgoing}
use Rattle.tipc_header.specs.declared.frames.FrameKind.TheVariants.{Links}
use Rattle.tipc_header.specs.Frames.{is_of_link, kind_in}
use Rattle.tipc_journal.specs.Streams.{flow_eq}
use Rattle.tipc_header.specs.Spelling.{Fields}
use Rattle.tipc_journal.specs.declared.entries.Entry.{Entry}
use Rattle.tipc_journal.specs.declared.entries.Entry.TheVariants as entry
use Rattle.tipc_journal.specs.Steps.{IsInside, NodeStep, step_entries}
use Rattle.tipc_pair.specs.Courses.{rests as nothing}
use Rattle.tipc_pair.specs.Facing.{PairEnds, alone}
use Rattle.tipc_pair.specs.PairTurns.{Happened, MakesNew, Opening, Outset, ShowsIn, quietly, IsOnOne, IsTakenBy, Suits}
use Rattle.tipc_link.specs.Parts.{IsShowable}
use Rattle.tipc_pair.specs.PairTurns.Opening.{rests}
use Rattle.tipc_pair.specs.PairTurns.PutsAll.{none_put}
use Rattle.tipc_node.specs.declared.neighbours.Neighbour.{Neighbour}
use Rattle.tipc_node.specs.Discovery.{discovery_frame}
use Rattle.tipc_node.specs.Messages.{IsSendable}
use Rattle.tipc_types.specs.Position.{number_of}
use Rattle.tipc_types.proofs.PositionLaws.{number_of-below}
use Rattle.tipc_recv_window.specs.Receiving.{Receiving}
use Rattle.tipc_broadcast.specs.declared.contacts.Contact.{Contact}
use Rattle.tipc_broadcast.specs.Casting.{Casting, next_start, shown}
use Rattle.tipc_broadcast.specs.Contacts.{contact_with, shown_in, shown_to}
use Rattle.tipc_broadcast.specs.Deeds.{AreLawful, AreSmall, CastDeed, HasSmallWindow, after_deeds, deeds_frames, is_deed_with, is_hearing_of}
use Rattle.tipc_broadcast.specs.Pieces.{IsOfBroadcast}
use Rattle.tipc_fragments.specs.Joining.{fresh}
use Rattle.tipc_broadcast.proofs.Deeds.{gap_small, small_with}
use Rattle.tipc_node.specs.Neighbours.{stranger}
use Rattle.tipc_node.specs.Nodes.{NodeState, acquaintance, change_entries, is_other, kept, neighbour_of, pair_with, step_of}
use Rattle.tipc_node.specs.Turns.HearsCasts.{hears_none}
use Rattle.tipc_node.specs.Turns.CastDoing.{parts}
use Rattle.tipc_node.specs.Turns.IsRouted.{of_broadcast, of_discovery, on_link}
use Rattle.tipc_node.specs.Turns.{AreNamed, CastDoing, CastTurn, IsBrought, IsFrom, IsOfNeighbour, IsPlaced, IsRouted, IsSent, IsTakenIn, NodeTurn, PeerTurn, cast_told, casts_in, frames_to, given_entries, is_accepted_for, is_cast_for, is_cast_from, is_change_of, is_delivered_from, is_out_to, is_to}
use Rattle.tipc_node.specs.Works.{Work, begun, concluded}
use Rattle.tipc_node.proofs.turns.Runs.{IsRun, RunAt, Runs, StandFor, accepted_now, still_at}
use Rattle.tipc_node.proofs.turns.Entries.{other_word as apart_word}
use Rattle.tipc_node.proofs.turns.Discovery.{never_to}
use Rattle.tipc_node.proofs.Filters.{filter-none}
use Rattle.tipc_node.proofs.pairs.Strangers.{named_there, pair_alone, pair_there}

below : (k : ℕ) → number_of k < 2 ^ 16
below k = number_of-below k

-- what a node shows of its broadcast link fits its places
pub shows_link : (v : Casting) (peer : ℕ) → AreSmall v → IsShowable (shown v peer)
shows_link v peer small = by (contact_with peer v.contacts) (small_with peer v.contacts small)
  where
    by_window : (next start said : ℕ) (o : Option Receiving) → next < 2 ^ 16 → start < 2 ^ 16 → IfSome o (λ r. length r.held ≤ 50) → IsShowable (shown_in next start said o)
    by_window next start said None high low few = record { acknowledged = omega arith; next = high; start = low; gap = omega arith }
    by_window next start said (Some r) high low few = record { acknowledged = below (r.wanted + 65535); next = high; start = low; gap = gap_small r said few }

    by : (o : Option Contact) → IfSome o HasSmallWindow → IsShowable (shown_to (number_of (v.sending.numbered + 1)) (number_of (next_start v)) o)
    by None few = record { acknowledged = omega arith; next = below (v.sending.numbered + 1); start = below (next_start v); gap = omega arith }
    by (Some c) few = by_window (number_of (v.sending.numbered + 1)) (number_of c.start) c.shown c.window (below (v.sending.numbered + 1)) (below c.start) few

-- an answer that doesn't tell of a packet that a link's session took
abbrev pub IsUntaken : Answer → Type 0
IsUntaken (answer.Arrived answered) = IsTakenIn answered → ⊥
IsUntaken other = Unit {0}

not_taken : (kept : Answer) (answered : Arrival) → IsUntaken kept → kept ≡ answer.Arrived answered → IsTakenIn answered → ⊥
not_taken kept answered untaken is = subst IsUntaken is untaken

-- ---- a peer to which no message is put

-- what happens first at the pair to node b in a step, which tells of it
pub record Opens (bytes : List ℕ) (s : NodeStep) (frames : List Outgoing) (b : ℕ) (x : PairEnds) (opening : Opening) (o : Outset) : Type 0 where
  pub suits : Suits s.event opening
  pub on_one : IsOnOne opening
  pub anew : MakesNew x opening
  pub brought : IsBrought b bytes opening
  pub shows : ShowsIn opening
  pub happened : Happened x opening o
  pub frames_are : frames_to b frames ≡ o.course.states ++ o.course.numbered
  pub changes : filter (is_change_of b) s.inside ≡ change_entries b o.course.changes
  pub accepted : filter (is_accepted_for b) s.inside ≡ []
  pub delivered : filter (is_delivered_from b) s.inside ≡ given_entries Zero b x o.given
  pub taken : (answered : Arrival) (es er : ℕ) (p : Fields) → s.answer ≡ answer.Arrived answered → IsTakenIn answered → IsFrom b bytes es er p → kind_in bytes ≡ Links → IsTakenBy opening o.given

unfoldable pub opens_turn : (own : ℕ) (bytes : List ℕ) (s : NodeStep) (frames : List Outgoing) (b : ℕ) (x : PairEnds) (opening : Opening) (o : Outset) → Opens bytes s frames b x opening o
    → PeerTurn own bytes s frames b x o.course.pair
opens_turn own bytes s frames b x opening o h = record {
  opening = opening;
  suits = h.suits;
  on_one = h.on_one;
  anew = h.anew;
  brought = h.brought;
  shows = h.shows;
  messages = [];
  sendable = All-nil (IsSendable own);
  reply = None;
  shows_last = tt;
  own_frames = o.course.states ++ (o.course.numbered ++ []);
  turn = record { first = o; happened = h.happened; put_frames = []; put = o.course.pair; puts = none_put o.course.pair; after = refl; frames_are = refl };
  frames_are = h.frames_are ∙ ap (λ fs. o.course.states ++ fs) (sym (append-nil o.course.numbered));
  changes = h.changes;
  accepted = h.accepted;
  delivered = h.delivered;
  taken = h.taken;
}

-- ---- a peer at which nothing else happens but a run of work

-- what a step tells of it is what the run noted, and the frames for it are the run's
pub record IsRested (bytes : List ℕ) (s : NodeStep) (frames : List Outgoing) (b : ℕ) (es : List Entry) (own_frames : List Outgoing) : Type 0 where
  pub frames_are : frames_to b frames ≡ frames_to b own_frames
  pub changes : filter (is_change_of b) s.inside ≡ filter (is_change_of b) es
  pub accepted : filter (is_accepted_for b) s.inside ≡ filter (is_accepted_for b) es
  pub delivered : filter (is_delivered_from b) s.inside ≡ []
  pub taken : (answered : Arrival) (es er : ℕ) (p : Fields) → s.answer ≡ answer.Arrived answered → IsTakenIn answered → IsFrom b bytes es er p → kind_in bytes ≡ Links → ⊥

unfoldable pub rests_turn : (own : ℕ) (bytes : List ℕ) (s : NodeStep) (frames : List Outgoing) (b : ℕ) (es : List Entry) (own_frames : List Outgoing) (x x' : Neighbour)
    → IsRested bytes s frames b es own_frames → RunAt own b es own_frames x x' → PeerTurn own bytes s frames b x.pair x'.pair
rests_turn own bytes s frames b es own_frames x x' h run = record {
  opening = rests;
  suits = tt;
  on_one = tt;
  anew = tt;
  brought = tt;
  shows = tt;
  messages = run.messages;
  sendable = run.sendable;
  reply = None;
  shows_last = tt;
  own_frames = frames_to b own_frames ++ [];
  turn = record {
    first = quietly (nothing x.pair);
    happened = refl;
    put_frames = frames_to b own_frames;
    put = x'.pair;
    puts = run.puts;
    after = refl;
    frames_are = refl;
  };
  frames_are = h.frames_are ∙ sym (append-nil (frames_to b own_frames));
  changes = h.changes ∙ run.changes;
  accepted = h.accepted ∙ accepted_now own b es own_frames x x' run;
  delivered = h.delivered;
  taken = h.taken;
}

-- ---- a stranger

other_word : (n : NodeState) (b : ℕ) (word : ℕ) → neighbour_of n b ≡ None → (c : ℕ) → is_some (neighbour_of n c) ≡ true → word ≡ node_word c → (word == node_word b) ≡ false
other_word n b word none c there is = ap (λ w. w == node_word b) is ∙ apart_word b c (λ same. let has = ap (λ k. is_some (neighbour_of n k)) (sym same) ∙ there in let wrong : false ≡ true = sym (ap is_some none) ∙ has in cc)

-- what tells of a neighbour tells of no stranger
pub of_other : (n : NodeState) (b : ℕ) (peer : Addr) → neighbour_of n b ≡ None → IsOfNeighbour n peer → (peer.word == node_word b) ≡ false
of_other n b peer none of = other_word n b peer.word none of.0 of.1 (ap (λ (a : Addr). a.word) of.2)

pub never_changed : (n : NodeState) (b : ℕ) → neighbour_of n b ≡ None → (e : Entry) → IsPlaced n e → is_change_of b e ≡ false
never_changed n b none (entry.LinkUp peer bearer own theirs) of = of_other n b peer none of
never_changed n b none (entry.LinkDown peer bearer cause shown) of = of_other n b peer none of
never_changed n b none (entry.ContactUp peer numbers) of = of_other n b peer none of
never_changed n b none (entry.ContactDown peer numbers states shown) of = of_other n b peer none of
never_changed n b none other of = refl

never_accepted : (n : NodeState) (b : ℕ) → neighbour_of n b ≡ None → (e : Entry) → IsPlaced n e → is_accepted_for b e ≡ false
never_accepted n b none (entry.Accepted peer numbers flow message) of = ap (λ t. t && flow_eq flow Zero) (of_other n b peer none of.0)
never_accepted n b none other of = refl

never_delivered : (n : NodeState) (b : ℕ) → neighbour_of n b ≡ None → (e : Entry) → IsPlaced n e → is_delivered_from b e ≡ false
never_delivered n b none (entry.Delivered peer numbers flow message by) of = ap (λ t. t && flow_eq flow Zero) (of_other n b peer none of.0)
never_delivered n b none other of = refl

never_cast : (n : NodeState) (b : ℕ) → neighbour_of n b ≡ None → (e : Entry) → IsPlaced n e → is_cast_for b e ≡ false
never_cast n b none (entry.Accepted peer numbers flow message) of = ap (λ t. t && flow_eq flow Broadcast) (of_other n b peer none of.0)
never_cast n b none other of = refl

never_heard : (n : NodeState) (b : ℕ) → neighbour_of n b ≡ None → (e : Entry) → IsPlaced n e → is_cast_from b e ≡ false
never_heard n b none (entry.Delivered peer numbers flow message by) of = ap (λ t. t && flow_eq flow Broadcast) (of_other n b peer none of.0)
never_heard n b none other of = refl

never_out : (n : NodeState) (b : ℕ) → neighbour_of n b ≡ None → (o : Outgoing) → IsRouted n o → is_out_to b o ≡ false
never_out n b none o (on_link r) = ap (λ t. t && is_of_link o.frame) (ap (is_to b) r.to_is ∙ other_word n b (node_word r.peer) none r.peer r.there refl)
never_out n b none o (of_discovery d) = never_to b o d.low
never_out n b none o (of_broadcast d) = never_to b o d.low

-- a node of the same address and boot routes a frame too, where each neighbour stays one
pub routed_then : (n n' : NodeState) → n'.own ≡ n.own → n'.boot ≡ n.boot → ((b : ℕ) → is_some (neighbour_of n b) ≡ true → is_some (neighbour_of n' b) ≡ true) → (o : Outgoing) → IsRouted n o → IsRouted n' o
routed_then n n' own boot lasts o (on_link r) = on_link (record { peer = r.peer; there = lasts r.peer r.there; to_is = r.to_is; link = r.link })
routed_then n n' own boot lasts o (of_discovery d) = of_discovery (record {
  on_one = d.on_one;
  form = d.form;
  frame_is = d.frame_is ∙ ap (λ word. discovery_frame word n.boot d.form) (sym own) ∙ ap (λ number. discovery_frame n'.own number d.form) (sym boot);
  low = d.low;
  receivers = elim d.receivers [
    | inl all ↦ inl all
    | inr another ↦ inr (record { peer = another.peer; other = ap (λ word. is_other word (node_word another.peer)) own ∙ another.other; to_is = another.to_is })
  ];
})
routed_then n n' own boot lasts o (of_broadcast d) = of_broadcast (subst (λ number. IsOfBroadcast number o) (sym boot) d)

-- ---- the broadcast link

-- what is begun of the broadcast of a neighbour
pub casts_there : (n : NodeState) (b : ℕ) (x : Neighbour) → neighbour_of n b ≡ Some x → (kept n b).casts ≡ x.casts
casts_there n b x is = ap (λ o. (acquaintance n b o).casts) is

casts_alone : (n : NodeState) (b : ℕ) → neighbour_of n b ≡ None → (kept n b).casts ≡ fresh
casts_alone n b none = ap (λ o. (acquaintance n b o).casts) none

-- a peer with which nothing is done at the broadcast link, and of whose broadcast nothing is heard
pub record CastRests (n n' : NodeState) (s : NodeStep) (deeds : List CastDeed) (cast : Option Message) (b : ℕ) : Type 0 where
  pub apart : filter (is_deed_with (node_word b)) deeds ≡ []
  pub unheard : filter (is_hearing_of (node_word b)) deeds ≡ []
  pub delivered : filter (is_cast_from b) s.inside ≡ []
  pub accepted : filter (is_cast_for b) s.inside ≡ cast_told b (pair_with n b) cast
  pub begun : (kept n' b).casts ≡ (kept n b).casts

pub cast_rests : (n n' : NodeState) (bytes : List ℕ) (s : NodeStep) (deeds : List CastDeed) (cast : Option Message) (b : ℕ) (x : PairEnds) → CastRests n n' s deeds cast b
    → CastTurn n n' bytes s deeds cast b rests (quietly (nothing x)) None
cast_rests n n' bytes s deeds cast b x h = record {
  told = h.apart;
  shows = tt;
  shows_last = tt;
  accepted = h.accepted;
  heard = hears_none (record { unheard = h.unheard; delivered = h.delivered; begun = h.begun });
}

-- for a stranger nothing is cast
cast_none : (n : NodeState) (b : ℕ) (cast : Option Message) → neighbour_of n b ≡ None → cast_told b (pair_with n b) cast ≡ []
cast_none n b None none = refl
cast_none n b (Some m) none = ap (λ x. cast_told b x (Some m)) (pair_alone n b none)

-- ---- the turn of the node

-- the turn at the pair to node b, and at the broadcast link with it
abbrev pub BothTurns : NodeState → NodeState → List ℕ → NodeStep → List Outgoing → List CastDeed → Option Message → ℕ → PairEnds → PairEnds → Type 0
BothTurns n n' bytes s frames deeds cast b x y = (t : PeerTurn n.own bytes s frames b x y) × CastTurn n n' bytes s deeds cast b t.opening t.turn.first t.reply

-- the turn at a neighbour, which stays one
pub record NeighbourTurn (n n' : NodeState) (bytes : List ℕ) (s : NodeStep) (frames : List Outgoing) (deeds : List CastDeed) (cast : Option Message) (b : ℕ) (x : Neighbour) : Type 0 where
  pub after : Neighbour
  pub after_is : neighbour_of n' b ≡ Some after
  pub turns : BothTurns n n' bytes s frames deeds cast b x.pair after.pair

-- The node took a turn at each neighbour, and knows no other one then; what was taken didn't come from a stranger, and nothing was done with one
-- at the broadcast link.
pub record TurnsTaken (n n' : NodeState) (bytes : List ℕ) (s : NodeStep) (frames : List Outgoing) : Type 0 where
  pub own : n'.own ≡ n.own
  pub boot : n'.boot ≡ n.boot
  pub journal : n'.journal ≡ n.journal ++ step_entries s
  pub inside : IsInside s.inside
  pub deeds : List CastDeed
  pub casting : n'.casting ≡ after_deeds deeds n.casting
  pub lawful : AreLawful deeds n.casting
  pub cast_frames : casts_in frames ≡ deeds_frames deeds n.casting
  pub cast : Option Message
  pub sent : IsSent n.own deeds cast
  pub doing : CastDoing n n' bytes s deeds cast
  pub turns : (b : ℕ) (x : Neighbour) → neighbour_of n b ≡ Some x → NeighbourTurn n n' bytes s frames deeds cast b x
  pub alone : (b : ℕ) → neighbour_of n b ≡ None → neighbour_of n' b ≡ None
  pub untaken : (b : ℕ) → neighbour_of n b ≡ None → (answered : Arrival) (es er : ℕ) (p : Fields) → s.answer ≡ answer.Arrived answered → IsTakenIn answered → IsFrom b bytes es er p → kind_in bytes ≡ Links → ⊥
  pub apart : (b : ℕ) → neighbour_of n b ≡ None → (filter (is_deed_with (node_word b)) deeds ≡ []) × (filter (is_hearing_of (node_word b)) deeds ≡ [])
  pub routed : All (IsRouted n) frames
  pub placed : All (IsPlaced n) s.inside

-- at a stranger the node rests
stranger_turns : (n n' : NodeState) (bytes : List ℕ) (s : NodeStep) (frames : List Outgoing) (b : ℕ) (h : TurnsTaken n n' bytes s frames) → neighbour_of n b ≡ None
    → BothTurns n n' bytes s frames h.deeds h.cast b (alone n.own (node_word b) n.boot) (alone n.own (node_word b) n.boot)
unfolding rests_turn
stranger_turns n n' bytes s frames b h none =
    let x = stranger n.own b n.boot in (
      rests_turn n.own bytes s frames b [] [] x x (record {
        frames_are = filter-none (is_out_to b) frames (IsRouted n) (never_out n b none) h.routed;
        changes = filter-none (is_change_of b) s.inside (IsPlaced n) (never_changed n b none) h.placed;
        accepted = filter-none (is_accepted_for b) s.inside (IsPlaced n) (never_accepted n b none) h.placed;
        delivered = filter-none (is_delivered_from b) s.inside (IsPlaced n) (never_delivered n b none) h.placed;
        taken = h.untaken b none;
      }) (still_at n.own b [] [] x refl refl refl),
      cast_rests n n' bytes s h.deeds h.cast b x.pair (record {
        apart = (h.apart b none).0;
        unheard = (h.apart b none).1;
        delivered = filter-none (is_cast_from b) s.inside (IsPlaced n) (never_heard n b none) h.placed;
        accepted = filter-none (is_cast_for b) s.inside (IsPlaced n) (never_cast n b none) h.placed ∙ sym (cast_none n b h.cast none);
        begun = casts_alone n' b (h.alone b none) ∙ sym (casts_alone n b none);
      }),
    )

-- so it took a turn at all
pub node_turn : (n n' : NodeState) (bytes : List ℕ) (s : NodeStep) (frames : List Outgoing) → TurnsTaken n n' bytes s frames → NodeTurn n n' bytes s frames
node_turn n n' bytes s frames h = record {
  own = h.own;
  boot = h.boot;
  journal = h.journal;
  inside = h.inside;
  turns = λ b. (by b (neighbour_of n b) refl).0;
  deeds = h.deeds;
  casting = h.casting;
  lawful = h.lawful;
  cast_frames = h.cast_frames;
  cast = h.cast;
  sent = h.sent;
  doing = h.doing;
  casts = λ b. (by b (neighbour_of n b) refl).1;
  lasts = λ b. lasts b (neighbour_of n b) refl;
  stays = λ b none. inl (h.alone b none);
  routed = All-weaker (IsRouted n) (IsRouted n') (routed_then n n' h.own h.boot (λ b. lasts b (neighbour_of n b) refl)) frames h.routed;
  placed = h.placed;
}
  where
    by : (b : ℕ) (o : Option Neighbour) → neighbour_of n b ≡ o → BothTurns n n' bytes s frames h.deeds h.cast b (acquaintance n b o).pair (pair_with n' b)
    by b None none =
        let there : pair_with n' b ≡ alone n.own (node_word b) n.boot = pair_alone n' b (h.alone b none) ∙ ap (λ own. alone own (node_word b) n'.boot) h.own ∙ ap (alone n.own (node_word b)) h.boot in
        subst (BothTurns n n' bytes s frames h.deeds h.cast b (alone n.own (node_word b) n.boot)) (sym there) (stranger_turns n n' bytes s frames b h none)
    by b (Some x) is =
        let at = h.turns b x is in
        subst (BothTurns n n' bytes s frames h.deeds h.cast b x.pair) (sym (pair_there n' b at.after at.after_is)) at.turns

    lasts : (b : ℕ) (o : Option Neighbour) → neighbour_of n b ≡ o → is_some o ≡ true → is_some (neighbour_of n' b) ≡ true
    lasts b None is some = absurd (let wrong : false ≡ true = some in cc)
    lasts b (Some x) is some = let at = h.turns b x is in ap is_some at.after_is

-- ---- a step that is a run of work

pub named_stand : (n : NodeState) → AreNamed n → StandFor n n.neighbours
named_stand n named = record { named = λ b x is. named_there n b x named is; within = λ b x is. ap is_some is }

runs_turn : (n : NodeState) (by : By) (note : EventNote) (bytes : List ℕ) (kept : Answer) (w : Work) (es : List Entry) (frames : List Outgoing) → IsUntaken kept → Runs n (begun n) es [] frames w
    → NodeTurn n (concluded n by note w kept) bytes (step_of by note w.inside kept) frames
unfolding rests_turn
runs_turn n by note bytes kept w es frames untaken h = node_turn n n' bytes s frames (record {
  own = refl;
  boot = refl;
  journal = refl;
  inside = subst IsInside (sym h.inside_is) h.inside;
  deeds = [];
  casting = refl;
  lawful = tt;
  cast_frames = h.unsent;
  cast = None;
  sent = refl;
  doing = parts refl;
  turns = λ b x there. (let at = h.at b x there in record {
    after = at.now;
    after_is = at.now_is;
    turns = (
      rests_turn n.own bytes s frames b es frames x at.now (record {
        frames_are = refl;
        changes = ap (filter (is_change_of b)) h.inside_is;
        accepted = ap (filter (is_accepted_for b)) h.inside_is;
        delivered = ap (filter (is_delivered_from b)) h.inside_is ∙ h.delivered b;
        taken = λ answered es er p is taken from link. not_taken kept answered untaken is taken;
      }) at.run,
      cast_rests n n' bytes s [] None b x.pair (record {
        apart = refl;
        unheard = refl;
        delivered = ap (filter (is_cast_from b)) h.inside_is ∙ h.heard b;
        accepted = ap (filter (is_cast_for b)) h.inside_is ∙ h.uncast b;
        begun = casts_there n' b at.now at.now_is ∙ at.run.casts ∙ sym (casts_there n b x there);
      }),
    );
  });
  alone = h.alone;
  untaken = λ b none answered es er p is taken from link. not_taken kept answered untaken is taken;
  apart = λ b none. (refl, refl);
  routed = h.routed;
  placed = subst (All (IsPlaced n)) (sym h.inside_is) h.placed;
})
  where
    n' : NodeState
    n' = concluded n by note w kept

    s : NodeStep
    s = step_of by note w.inside kept

-- a step of a node was a turn of it in which such entries were recorded
abbrev pub IsTurn : NodeState → NodeState → By → EventNote → List ℕ → List Outgoing → Answer → Type 0
IsTurn n n' by note bytes frames kept = (inside : List Entry) × NodeTurn n n' bytes (step_of by note inside kept) frames

pub run_turn : (n : NodeState) (by : By) (note : EventNote) (bytes : List ℕ) (kept : Answer) (w : Work) (frames : List Outgoing) → IsUntaken kept → IsRun n (begun n) [] frames w
    → IsTurn n (concluded n by note w kept) by note bytes frames kept
run_turn n by note bytes kept w frames untaken h = (w.inside, runs_turn n by note bytes kept w h.noted frames untaken h.runs)

pub turn_as : (n n' m : NodeState) (by : By) (note : EventNote) (bytes : List ℕ) (frames gs : List Outgoing) (kept k : Answer) → n' ≡ m → frames ≡ gs → kept ≡ k → IsTurn n m by note bytes gs k → IsTurn n n' by note bytes frames kept
turn_as n n' m by note bytes frames gs kept k node out given t =
    subst (λ j. IsTurn n j by note bytes frames kept) (sym node) (subst (λ fs. IsTurn n m by note bytes fs kept) (sym out) (subst (λ a. IsTurn n m by note bytes gs a) (sym given) t))
