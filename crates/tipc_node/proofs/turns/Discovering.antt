-- A discovery packet is a turn of the node: a link end is made to its sender where that is new on the bearer, and the node rests at all others.
use Rattle.std.proofs.Common.{◌≡◌, ◌≢◌, ◌⊎◌, ◌≤◌, ◌<◌, ◌^◌, ◌∙◌, ℕ, Bool, true, false, List, [], ◌++◌, Some, None, inl, inr, is_some, length, refl, sym, ap, subst, append-nil}
use Rattle.std.specs.Prelude.{if◌then◌else◌}
use Rattle.std.specs.List.{All}
use Rattle.std.proofs.lemmas.Bool.{cases_eq}
use Rattle.std.proofs.lemmas.List.{get_or-set_other, get_or-set_same}
use Rattle.std.proofs.lemmas.List.Elements.{All-append, All-nil, All-weaker, filter-append}
use Rattle.tipc_types.specs.Address.{IsNodeWord, node_word}
use Rattle.tipc_types.specs.declared.node_calls.Answer.TheVariants as answer
use Rattle.tipc_types.specs.declared.node_calls.Arrival.{Arrival}
use Rattle.tipc_types.specs.declared.node_calls.Arrival.TheVariants as arrival
use Rattle.tipc_types.specs.declared.node_calls.By.{By}
use Rattle.tipc_types.specs.declared.node_calls.EventNote.TheVariants as event
use Rattle.tipc_outside.specs.declared.outgoing.Outgoing.{Outgoing}
use Rattle.tipc_header.specs.declared.frames.FrameKind.TheVariants.{Finds, Links}
use Rattle.tipc_header.specs.Frames.{kind_in}
use Rattle.tipc_header.specs.Spelling.{Fields}
use Rattle.tipc_broadcast.specs.Deeds.{CastDeed}
use Rattle.tipc_journal.specs.Steps.{NodeStep}
use Rattle.tipc_pair.specs.declared.transitions.Transition.{Transition}
use Rattle.tipc_pair.specs.Courses.{going_on}
use Rattle.tipc_pair.specs.Facing.{PairEnds}
use Rattle.tipc_pair.specs.PairCalls.{at_bearer}
use Rattle.tipc_pair.specs.PairTurns.{made_near, quietly}
use Rattle.tipc_pair.specs.PairTurns.Opening.{makes}
use Rattle.tipc_pair.proofs.turns.Addressing.{AreFor}
use Rattle.tipc_pair.proofs.turns.TurnMoves.{made_changes}
use Rattle.tipc_node.specs.Arrivals.{Discovers}
use Rattle.tipc_node.specs.Casting.{arrival_deeds}
use Rattle.tipc_node.specs.Discovery.{AreFound, discovered_frames, discovered_node, found_course, found_frames, found_neighbour, found_node, has_found, responses}
use Rattle.tipc_node.specs.Neighbours.{casts_after}
use Rattle.tipc_node.specs.Nodes.{NodeState, acquaintance, change_entries, end_with, is_other, kept, neighbour_of, pair_with, recorded, step_of}
use Rattle.tipc_node.specs.Turns.HearsCasts.{hears_none}
use Rattle.tipc_node.specs.Turns.CastDoing.{parts}
use Rattle.tipc_node.specs.Turns.{AreNamed, CastTurn, IsFrom, IsMaking, IsPlaced, IsRouted, NodeTurn, PeerTurn, casts_in, frames_to, is_out_to}
use Rattle.tipc_node.proofs.pairs.Strangers.{kept_near, pair_there}
use Rattle.tipc_node.proofs.turns.CastFrames.{casts_both, links_uncast, responses_uncast}
use Rattle.tipc_node.proofs.turns.Entries.{routed_to}
use Rattle.tipc_node.proofs.turns.Discovery.{responses_routed, responses_to}
use Rattle.tipc_node.proofs.turns.Named.{first_frames}
use Rattle.tipc_node.proofs.turns.Runs.{still_at}
use Rattle.tipc_node.proofs.turns.Shares.{frames_to-other, frames_to-own}
use Rattle.tipc_node.proofs.turns.Turning.{BothTurns, CastRests, cast_rests, casts_there, opens_turn, rests_turn, routed_then}
use Rattle.tipc_node.proofs.work.Discovery.{unheard_none}

-- the step of such an arrival, and the node that recorded it
abbrev found_step : By → ℕ → ℕ → NodeStep
found_step by bearer number = step_of by (event.Arrive bearer number) [] (answer.Arrived (arrival.Took 0))

abbrev with_step : NodeState → By → ℕ → ℕ → NodeState
with_step n by bearer number = recorded n by (event.Arrive bearer number) [] (answer.Arrived (arrival.Took 0))

-- the node that found the peer then
abbrev new_node : NodeState → By → ℕ → ℕ → ℕ → NodeState
new_node n by bearer number peer = with_step (found_node n peer bearer) by bearer number

-- what was taken is no link packet
no_link : (bytes : List ℕ) → kind_in bytes ≡ Finds → kind_in bytes ≡ Links → ⊥
no_link bytes finds link = (let wrong : Finds ≡ Links = sym finds ∙ link in cc)

-- ---- where nothing happens

still_turn : (n : NodeState) (by : By) (bearer number : ℕ) (bytes : List ℕ) (frames : List Outgoing) (b : ℕ) → kind_in bytes ≡ Finds → frames_to b frames ≡ []
    → PeerTurn n.own bytes (found_step by bearer number) frames b (pair_with n b) (pair_with n b)
still_turn n by bearer number bytes frames b finds none = rests_turn n.own bytes (found_step by bearer number) frames b [] [] (kept n b) (kept n b) (record {
  frames_are = none;
  changes = refl;
  accepted = refl;
  delivered = refl;
  taken = λ a es er p is taken from link. no_link bytes finds link;
}) (still_at n.own b [] [] (kept n b) refl refl refl)

-- nor does it at the broadcast link
still_cast : (n n' : NodeState) (by : By) (bearer number b : ℕ) → (kept n' b).casts ≡ (kept n b).casts → CastRests n n' (found_step by bearer number) [] None b
still_cast n n' by bearer number b begun = record { apart = refl; unheard = refl; delivered = refl; accepted = refl; begun = begun }

still_both : (n : NodeState) (by : By) (bearer number : ℕ) (bytes : List ℕ) (frames : List Outgoing) (b : ℕ) → kind_in bytes ≡ Finds → frames_to b frames ≡ []
    → BothTurns n (with_step n by bearer number) bytes (found_step by bearer number) frames [] None b (pair_with n b) (pair_with n b)
unfolding rests_turn still_turn
still_both n by bearer number bytes frames b finds none = (
  still_turn n by bearer number bytes frames b finds none,
  cast_rests n (with_step n by bearer number) bytes (found_step by bearer number) [] None b (pair_with n b) (still_cast n (with_step n by bearer number) by bearer number b refl),
)

known_turn : (n : NodeState) (by : By) (bearer number : ℕ) (bytes : List ℕ) (frames : List Outgoing) → kind_in bytes ≡ Finds → All (IsRouted n) frames → ((b : ℕ) → frames_to b frames ≡ []) → casts_in frames ≡ []
    → NodeTurn n (with_step n by bearer number) bytes (found_step by bearer number) frames
known_turn n by bearer number bytes frames finds routed none uncast = record {
  own = refl;
  boot = refl;
  journal = refl;
  inside = refl;
  turns = λ b. (still_both n by bearer number bytes frames b finds (none b)).0;
  deeds = [];
  casting = refl;
  lawful = tt;
  cast_frames = uncast;
  cast = None;
  sent = refl;
  doing = parts refl;
  casts = λ b. (still_both n by bearer number bytes frames b finds (none b)).1;
  lasts = λ b there. there;
  stays = λ b gone. inl gone;
  routed = All-weaker (IsRouted n) (IsRouted (with_step n by bearer number)) (routed_then n (with_step n by bearer number) refl refl (λ b there. there)) frames routed;
  placed = All-nil (IsPlaced n);
}

-- ---- where the link end is made

-- no packet is numbered by that
none_numbered : (bearer : ℕ) (x : PairEnds) → (at_bearer bearer x (made_near true)).numbered ≡ []
unfolding going_on
none_numbered bearer x = refl

-- nothing is done at the broadcast link where nothing is told of the contact
abbrev contact_told : ℕ → List Transition → List CastDeed
contact_told peer changes = arrival_deeds peer changes None

-- what the turn needs of the arrival
record IsNew (n : NodeState) (bytes : List ℕ) (bearer peer : ℕ) (responded : List Outgoing) : Type 0 where
  first : ℕ
  second : ℕ
  packet : Fields
  on_one : bearer ≤ 1
  from : IsFrom peer bytes first second packet
  kind : kind_in bytes ≡ Finds
  other : is_other n.own (node_word peer) ≡ true
  within : peer < length n.neighbours
  none : end_with bearer (neighbour_of n peer) ≡ None
  routed : All (IsRouted n) responded
  out : (b : ℕ) → frames_to b responded ≡ []
  uncast : casts_in responded ≡ []

-- the frames of the new end are of the links to the peer
new_for : (n : NodeState) (peer bearer : ℕ) → AreNamed n → AreFor (node_word peer) (found_frames n peer bearer)
new_for n peer bearer named = (first_frames (node_word peer) (pair_with n peer) (makes bearer true) (quietly (found_course n peer bearer)) (named peer) refl).0

-- it stands at the number of the peer, and all others are as they were
pub new_there : (n : NodeState) (peer bearer : ℕ) → peer < length n.neighbours → neighbour_of (found_node n peer bearer) peer ≡ Some (found_neighbour n peer bearer)
new_there n peer bearer within = get_or-set_same n.neighbours peer (Some (found_neighbour n peer bearer)) None within

pub others_there : (n : NodeState) (peer bearer b : ℕ) → b ≢ peer → neighbour_of (found_node n peer bearer) b ≡ neighbour_of n b
others_there n peer bearer b apart = get_or-set_other n.neighbours peer b (Some (found_neighbour n peer bearer)) None apart

-- a node's turn at a peer, and at the broadcast link with it, and how it becomes a neighbour
abbrev TurnTo : NodeState → NodeState → List ℕ → NodeStep → List Outgoing → ℕ → PairEnds → Type 0
TurnTo n n' bytes s frames b y = (t : PeerTurn n.own bytes s frames b (pair_with n b) y)
    × (neighbour_of n b ≡ None → (neighbour_of n' b ≡ None) ⊎ (IsMaking t.opening × (is_other n.own (node_word b) ≡ true)))
    × CastTurn n n' bytes s [] None b t.opening t.turn.first t.reply

abbrev TurnAt : NodeState → NodeState → List ℕ → NodeStep → List Outgoing → ℕ → Type 0
TurnAt n n' bytes s frames b = TurnTo n n' bytes s frames b (pair_with n' b)

module _ (n : NodeState) (by : By) (bearer number : ℕ) (bytes : List ℕ) (peer : ℕ) (responded : List Outgoing) (named : AreNamed n) (h : IsNew n bytes bearer peer responded) where
  frames_for : (b : ℕ) → frames_to b (responded ++ found_frames n peer bearer) ≡ frames_to b (found_frames n peer bearer)
  frames_for b = filter-append (is_out_to b) responded (found_frames n peer bearer) ∙ ap (λ zs. zs ++ frames_to b (found_frames n peer bearer)) (h.out b)

  -- at the peer
  new_turn_at : PeerTurn n.own bytes (found_step by bearer number) (responded ++ found_frames n peer bearer) peer (pair_with n peer) (found_neighbour n peer bearer).pair
  new_turn_at = opens_turn n.own bytes (found_step by bearer number) (responded ++ found_frames n peer bearer) peer (pair_with n peer) (makes bearer true) (quietly (found_course n peer bearer)) (record {
    suits = (refl, (number, refl));
    on_one = h.on_one;
    anew = kept_near n peer bearer (neighbour_of n peer) h.none;
    brought = (h.first, h.second, h.packet, h.from, h.kind);
    shows = tt;
    happened = refl;
    frames_are =
        frames_for peer ∙ frames_to-own peer (found_frames n peer bearer) (new_for n peer bearer named)
        ∙ sym (append-nil (found_frames n peer bearer)) ∙ ap (λ fs. found_frames n peer bearer ++ fs) (sym (none_numbered bearer (pair_with n peer)));
    changes = ap (change_entries peer) (sym (made_changes bearer true (pair_with n peer)));
    accepted = refl;
    delivered = refl;
    taken = λ a es er p is taken from link. absurd (no_link bytes h.kind link);
  })

  -- what is begun of its broadcast stays
  new_cast : CastTurn n (new_node n by bearer number peer) bytes (found_step by bearer number) [] None peer (makes bearer true) (quietly (found_course n peer bearer)) None
  new_cast = record {
    told = ap (contact_told peer) (sym (made_changes bearer true (pair_with n peer)));
    shows = tt;
    shows_last = tt;
    accepted = refl;
    heard = hears_none (record {
      unheard = refl;
      delivered = refl;
      begun =
          casts_there (found_node n peer bearer) peer (found_neighbour n peer bearer) (new_there n peer bearer h.within)
          ∙ ap (casts_after (kept n peer).casts) (sym (made_changes bearer true (pair_with n peer)));
    });
  }

  at_peer : TurnAt n (new_node n by bearer number peer) bytes (found_step by bearer number) (responded ++ found_frames n peer bearer) peer
  unfolding new_turn_at opens_turn
  at_peer =
      let pair : pair_with (new_node n by bearer number peer) peer ≡ (found_neighbour n peer bearer).pair = pair_there (found_node n peer bearer) peer (found_neighbour n peer bearer) (new_there n peer bearer h.within) in
      subst (TurnTo n (new_node n by bearer number peer) bytes (found_step by bearer number) (responded ++ found_frames n peer bearer) peer) (sym pair) (new_turn_at, λ none. inr (tt, h.other), new_cast)

  -- and at any other node
  at_other : (b : ℕ) → b ≢ peer → TurnAt n (new_node n by bearer number peer) bytes (found_step by bearer number) (responded ++ found_frames n peer bearer) b
  unfolding rests_turn still_turn
  at_other b apart =
      let same = others_there n peer bearer b apart in
      let none : frames_to b (responded ++ found_frames n peer bearer) ≡ [] = frames_for b ∙ frames_to-other b peer (found_frames n peer bearer) (λ e. apart (sym e)) (new_for n peer bearer named) in
      let pair : pair_with (new_node n by bearer number peer) b ≡ pair_with n b = ap (λ o. (acquaintance n b o).pair) same in
      let begun : (kept (new_node n by bearer number peer) b).casts ≡ (kept n b).casts = ap (λ o. (acquaintance n b o).casts) same in
      subst (TurnTo n (new_node n by bearer number peer) bytes (found_step by bearer number) (responded ++ found_frames n peer bearer) b) (sym pair) (
        still_turn n by bearer number bytes (responded ++ found_frames n peer bearer) b h.kind none,
        λ gone. inl (same ∙ gone),
        cast_rests n (new_node n by bearer number peer) bytes (found_step by bearer number) [] None b (pair_with n b) (still_cast n (new_node n by bearer number peer) by bearer number b begun),
      )

  at_each : (b : ℕ) → TurnAt n (new_node n by bearer number peer) bytes (found_step by bearer number) (responded ++ found_frames n peer bearer) b
  at_each b = elim (cases_eq b peer) [
    | inl here ↦ subst (TurnAt n (new_node n by bearer number peer) bytes (found_step by bearer number) (responded ++ found_frames n peer bearer)) (sym here) at_peer
    | inr apart ↦ at_other b apart
  ]

  lasts : (b : ℕ) → is_some (neighbour_of n b) ≡ true → is_some (neighbour_of (new_node n by bearer number peer) b) ≡ true
  lasts b there = elim (cases_eq b peer) [
    | inl here ↦ subst (λ k. is_some (neighbour_of (new_node n by bearer number peer) k) ≡ true) (sym here) (ap is_some (new_there n peer bearer h.within))
    | inr apart ↦ ap is_some (others_there n peer bearer b apart) ∙ there
  ]

  new_turn : NodeTurn n (new_node n by bearer number peer) bytes (found_step by bearer number) (responded ++ found_frames n peer bearer)
  new_turn = record {
    own = refl;
    boot = refl;
    journal = refl;
    inside = refl;
    turns = λ b. (at_each b).0;
    deeds = [];
    casting = refl;
    lawful = tt;
    cast_frames = casts_both responded (found_frames n peer bearer) ∙ ap (λ fs. fs ++ casts_in (found_frames n peer bearer)) h.uncast ∙ links_uncast (node_word peer) (found_frames n peer bearer) (new_for n peer bearer named);
    cast = None;
    sent = refl;
    doing = parts refl;
    casts = λ b. (at_each b).2;
    lasts = lasts;
    stays = λ b none. (at_each b).1 none;
    routed = All-append (IsRouted (new_node n by bearer number peer)) responded (found_frames n peer bearer) (All-weaker (IsRouted n) (IsRouted (new_node n by bearer number peer)) (routed_then n (new_node n by bearer number peer) refl refl lasts) responded h.routed)
        (routed_to (new_node n by bearer number peer) peer (found_frames n peer bearer) (ap is_some (new_there n peer bearer h.within)) (new_for n peer bearer named));
    placed = All-nil (IsPlaced n);
  }

-- ---- the arrival

pub discovers_turn : (n n' : NodeState) (by : By) (bearer number : ℕ) (bytes : List ℕ) (frames : List Outgoing) (answered : Arrival) → AreNamed n → AreFound n → IsNodeWord n.own → n.boot < 2 ^ 32
    → Discovers n n' by bearer number bytes frames answered → NodeTurn n n' bytes (step_of by (event.Arrive bearer number) [] (answer.Arrived answered)) frames
discovers_turn n n' by bearer number bytes frames answered named found node low h =
    subst (λ m. NodeTurn n m bytes (step_of by (event.Arrive bearer number) [] (answer.Arrived answered)) frames) (sym h.after)
    (subst (λ fs. NodeTurn n (with_step (discovered_node n h.peer bearer) by bearer number) bytes (step_of by (event.Arrive bearer number) [] (answer.Arrived answered)) fs) (sym h.frames_are)
    (subst (λ (a : Arrival). NodeTurn n (with_step (discovered_node n h.peer bearer) by bearer number) bytes (step_of by (event.Arrive bearer number) [] (answer.Arrived a)) (responded ++ discovered_frames n h.peer bearer)) (sym h.answer_is)
    (turn (has_found n bearer h.peer) refl)))
  where
    responded : List Outgoing
    responded = responses n h.peer bearer h.packet.header

    routed : All (IsRouted n) responded
    routed = responses_routed n h.peer bearer h.packet.header h.brings.on_one low (record { peer = h.peer; other = h.brings.other; to_is = refl })

    out : (b : ℕ) → frames_to b responded ≡ []
    out b = responses_to n h.peer bearer b h.packet.header low

    uncast : casts_in responded ≡ []
    uncast = responses_uncast n h.peer bearer h.packet.header node

    turn : (heard : Bool) → has_found n bearer h.peer ≡ heard
        → NodeTurn n (with_step (if heard then n else found_node n h.peer bearer) by bearer number) bytes (found_step by bearer number) (responded ++ (if heard then [] else found_frames n h.peer bearer))
    turn true known =
        subst (λ fs. NodeTurn n (with_step n by bearer number) bytes (found_step by bearer number) fs) (sym (append-nil responded)) (known_turn n by bearer number bytes responded h.brings.kind routed out uncast)
    turn false new = new_turn n by bearer number bytes h.peer responded named (record {
      first = h.first;
      second = h.second;
      packet = h.packet;
      on_one = h.brings.on_one;
      from = h.brings.from;
      kind = h.brings.kind;
      other = h.brings.other;
      within = h.within;
      none = unheard_none n h.peer bearer found h.brings.on_one new;
      routed = routed;
      out = out;
      uncast = uncast;
    })
