-- A node's journals stay lawful with a turn, and tell how long its links were silent.
use Rattle.std.specs.Prelude.{◌⊎◌, ◌≢◌, All, is_some, nat_le, if◌then◌else◌, ◌&&◌}
use Rattle.std.specs.List.{filter}
use Rattle.std.proofs.Common.{◌≡◌, ◌<◌, ◌≤◌, ◌==◌, ℕ, zero, suc, Bool, true, false, List, [], ◌∷◌, ◌++◌, Some, None, map, slice_get, refl, sym, ap, ◌∙◌, subst, inl, inr, arith}
use Rattle.std.proofs.lemmas.Bool.Decides.{nat_tests}
use Rattle.tipc_types.specs.Address.{node_word}
use Rattle.tipc_types.specs.declared.identity.Addr.{Addr}
use Rattle.tipc_types.specs.declared.link_words.Cause.{Cause}
use Rattle.tipc_types.specs.declared.link_words.Cause.TheVariants as cause
use Rattle.tipc_types.specs.declared.node_calls.EventNote.{EventNote}
use Rattle.tipc_types.specs.declared.node_calls.EventNote.TheVariants as event
use Rattle.tipc_outside.specs.declared.outgoing.Outgoing.{Outgoing}
use Rattle.tipc_journal.specs.declared.entries.Entry.{Entry}
use Rattle.tipc_journal.specs.declared.entries.Entry.TheVariants as entry
use Rattle.tipc_journal.specs.Steps.{steps, step_entries, NodeStep, PlacedStep}
use Rattle.tipc_link.proofs.LinkLaw.{Each}
use Rattle.tipc_pair.specs.declared.transitions.Transition.{Transition}
use Rattle.tipc_pair.specs.declared.transitions.Transition.TheVariants.{ContactDown, ContactUp, LinkDown, LinkUp}
use Rattle.tipc_pair.specs.Facing.{PairEnds, contact_between, facing, in_contact}
use Rattle.tipc_pair.specs.PairTurns.{Happened, Opening, Outset, Suits}
use Rattle.tipc_pair.specs.PairTurns.Opening.{cuts, hears, makes, mends, rests, ticks}
use Rattle.tipc_pair.specs.Messages.{opened_in}
use Rattle.tipc_journal.specs.Streams.{flow_eq}
use Rattle.tipc_types.specs.declared.message_forms.Flow.{Flow}
use Rattle.tipc_types.specs.declared.message_forms.Flow.TheVariants.{Broadcast, One, Zero}
use Rattle.tipc_node.specs.Nodes.{NodeState, change_entry, neighbour_of, pair_with}
use Rattle.tipc_node.proofs.pairs.Strangers.{kept_tells}
use Rattle.tipc_replay.specs.Sound.{IsNumber}
use Rattle.tipc_replay.proofs.pairs.Pairings.{end_read}
use Rattle.tipc_node.specs.Telling.{IsTold, TellsOf}
use Rattle.tipc_pair.specs.LinkReadings.{AreAbreast, epochs_on, silence_in}
use Rattle.tipc_node.specs.Turns.{HaveJoined, IsBrought, IsPlaced, NodeTurn, PeerTurn, addr_of, is_accepted_for, is_cast_for, is_cast_from, is_change_of, is_delivered_from, pair_in}
use Rattle.tipc_pair.proofs.turns.Moves.{epochs_at}
use Rattle.tipc_node.proofs.journal.Telling.{same_word}
use Rattle.tipc_replay.specs.Causes.{HasTicked, IsCaused, arrived_frame, IsNumberOf, IsResetOf, IsTunnelOf, Seen}
use Rattle.tipc_replay.specs.Lawful.{IsLawfulEntry}
use Rattle.tipc_replay.specs.Numbers.{end_on}
use Rattle.tipc_replay.proofs.InLists.{all_at}
use Rattle.tipc_replay.proofs.journals.Kept.{IsKept, kept_step}
use Rattle.tipc_replay.proofs.journals.Parted.{turn_parted}
use Rattle.tipc_pair.proofs.turns.Reasons.{CutsOff, HearsHigher, HearsReset, HearsTunnel, IsReason, IsTick, MayGoDown}
use Rattle.tipc_replay.proofs.journals.Stepping.{Arrives, passed, passes}
use Rattle.tipc_replay.proofs.journals.TunnelsTaken.{TakesTunnels}
use Rattle.tipc_replay.proofs.journals.TurnContacts.{contact_ended}
use Rattle.tipc_replay.proofs.journals.TurnCasts.{AreCastSpelled, AreCastsLawful, casts_lawful}
use Rattle.tipc_replay.proofs.journals.TurnMessages.{messages_lawful}
use Rattle.tipc_pair.proofs.turns.TurnReasons.{BringsFit, first_reasons}
use Rattle.tipc_replay.proofs.journals.TurnTimed.{turn_timed}
use Rattle.tipc_replay.proofs.journals.TurnTraced.{AreCarried, AreGivenSpelled, IsGivenSpelled, sender_is}
-- ---- lists of entries
use Rattle.tipc_replay.proofs.calls.Singles.{read_at as mapped_there}

each_mapped : {A B : Type 0} (P : B → Type 0) (f : A → B) (xs : List A) → ((k : ℕ) (x : A) → slice_get xs k ≡ Some x → P (f x)) → Each P (map f xs)
each_mapped P f [] h k y there = absurd cc
each_mapped P f (x ∷ xs) h zero y there = let same : f x ≡ y = cc in subst P same (h zero x refl)
each_mapped P f (x ∷ xs) h (suc k) y there = each_mapped P f xs (λ j z at. h (suc j) z at) k y there

named : (peer : Addr) (b : ℕ) → peer ≡ addr_of b → (peer.word == node_word b) ≡ true
named peer b is = ap (λ (a : Addr). a.word == node_word b) is ∙ same_word b

named_in : (peer : Addr) (b : ℕ) (its flow : Flow) → peer ≡ addr_of b → flow_eq its flow ≡ true → ((peer.word == node_word b) && flow_eq its flow) ≡ true
named_in peer b its flow is same = ap (λ t. t && flow_eq its flow) (named peer b is) ∙ same

-- ---- what happened first, and the event of the step

brings_fit : (b : ℕ) (bytes : List ℕ) (opening : Opening) → IsBrought b bytes opening → BringsFit opening
brings_fit b bytes (hears bearer es er p by shown) brought = brought.0.fits
brings_fit b bytes rests brought = tt
brings_fit b bytes (makes bearer is_mended) brought = tt
brings_fit b bytes (mends bearer) brought = tt
brings_fit b bytes (cuts bearer) brought = tt
brings_fit b bytes (ticks shown) brought = tt

cut_event : (note : EventNote) (opening : Opening) (bearer : ℕ) → Suits note opening → CutsOff opening bearer → note ≡ event.Cut bearer
cut_event note (cuts b) bearer suits off = suits ∙ ap event.Cut off
cut_event note rests bearer suits off = absurd off
cut_event note (makes b is_mended) bearer suits off = absurd off
cut_event note (mends b) bearer suits off = absurd off
cut_event note (ticks shown) bearer suits off = absurd off
cut_event note (hears b es er p by shown) bearer suits off = absurd off

tick_event : (note : EventNote) (opening : Opening) → Suits note opening → IsTick opening → note ≡ event.Tick
tick_event note (ticks shown) suits is = suits
tick_event note rests suits is = absurd is
tick_event note (makes b is_mended) suits is = absurd is
tick_event note (mends b) suits is = absurd is
tick_event note (cuts b) suits is = absurd is
tick_event note (hears b es er p by shown) suits is = absurd is

-- ---- the causes that arrive

-- an arrival shows the number of the peer that its packet shows
number_shown : (seen : Seen) (s : NodeStep) (bytes : List ℕ) (b : ℕ) (opening : Opening) (before number : ℕ) → Suits s.event opening → IsBrought b bytes opening → AreCarried seen s bytes → HearsHigher before opening number → IsNumberOf seen s (addr_of b) number
number_shown seen s bytes b (hears bearer es er p by shown) before number suits from carried h =
    let c = (carried bearer by suits).1 in
    record {
      bearer = bearer;
      frame = c.frame;
      arrives = record { number = by; event_is = suits; frame_is = c.arrived; from = sender_is seen bearer by bytes b es er p c from.0 };
      packet = p;
      epoch = es;
      other_epoch = er;
      fits = from.0.fits;
      bytes = c.bytes_are ∙ from.0.frame_is;
      shows = h.0;
    }
number_shown seen s bytes b rests before number suits from carried h = absurd h
number_shown seen s bytes b (makes bearer is_mended) before number suits from carried h = absurd h
number_shown seen s bytes b (mends bearer) before number suits from carried h = absurd h
number_shown seen s bytes b (cuts bearer) before number suits from carried h = absurd h
number_shown seen s bytes b (ticks shown) before number suits from carried h = absurd h

-- it is above the number that was seen
number_above : (opening : Opening) (before number : ℕ) → HearsHigher before opening number → before < number
number_above (hears bearer es er p by shown) before number h = h.1
number_above rests before number h = absurd h
number_above (makes bearer is_mended) before number h = absurd h
number_above (mends bearer) before number h = absurd h
number_above (cuts bearer) before number h = absurd h
number_above (ticks shown) before number h = absurd h

reset_shown : (seen : Seen) (s : NodeStep) (bytes : List ℕ) (b : ℕ) (opening : Opening) (bearer epoch : ℕ) → Suits s.event opening → IsBrought b bytes opening → AreCarried seen s bytes → HearsReset opening bearer epoch → IsResetOf seen s (addr_of b) bearer epoch
reset_shown seen s bytes b (hears on es er p by shown) bearer epoch suits from carried h =
    let c = (carried on by suits).1 in
    subst (λ n. IsResetOf seen s (addr_of b) n epoch) h.0 (subst (IsResetOf seen s (addr_of b) on) h.1 (record {
      frame = c.frame;
      arrives = record { number = by; event_is = suits; frame_is = c.arrived; from = sender_is seen on by bytes b es er p c from.0 };
      packet = p;
      other_epoch = er;
      epoch_fits = from.0.es_fits;
      fits = from.0.fits;
      bytes = c.bytes_are ∙ from.0.frame_is;
      reset = h.2;
    }))
reset_shown seen s bytes b rests bearer epoch suits from carried h = absurd h
reset_shown seen s bytes b (makes on is_mended) bearer epoch suits from carried h = absurd h
reset_shown seen s bytes b (mends on) bearer epoch suits from carried h = absurd h
reset_shown seen s bytes b (cuts on) bearer epoch suits from carried h = absurd h
reset_shown seen s bytes b (ticks shown) bearer epoch suits from carried h = absurd h

tunnel_shown : (seen : Seen) (n : NodeState) (s : NodeStep) (bytes : List ℕ) (b : ℕ) (opening : Opening) (o : Outset) (bearer epoch place : ℕ) (e : Entry) → Happened (pair_with n b) opening o → Suits s.event opening
    → IsBrought b bytes opening → AreCarried seen s bytes → TakesTunnels n s bytes → slice_get s.inside place ≡ Some e → HearsTunnel opening o.given bearer epoch → IsTunnelOf seen s (addr_of b) bearer epoch
tunnel_shown seen n s bytes b (hears on es er p by shown) o bearer epoch place e happened suits from carried answers inside h =
    let c = (carried on by suits).1 in
    let names = h.2 in
    let answered = answers on by place e suits inside (record {
      sender = b;
      es = es;
      er = er;
      packet = p;
      is_from = from.0;
      tunnel = names.tunnel;
      header_is = names.header_is;
      shown = shown;
      outset = o;
      happened = happened;
      took = h.1;
    }) in
    record {
      frame = c.frame;
      arrives = record { number = by; event_is = suits ∙ ap (λ k. event.Arrive k by) h.0; frame_is = subst (λ k. arrived_frame seen k by ≡ Some c.frame) h.0 c.arrived; from = sender_is seen on by bytes b es er p c from.0 };
      messages = answered.0;
      answer_is = answered.1;
      packet = p;
      first_epoch = es;
      second_epoch = er;
      fits = from.0.fits;
      bytes = c.bytes_are ∙ from.0.frame_is;
      tunnel = names.tunnel;
      header_is = names.header_is;
      original = names.original;
      bearer_is = names.bearer_is;
      epoch_is = names.epoch_is;
    }
tunnel_shown seen n s bytes b rests o bearer epoch place e happened suits from carried answers inside h = absurd h
tunnel_shown seen n s bytes b (makes on is_mended) o bearer epoch place e happened suits from carried answers inside h = absurd h
tunnel_shown seen n s bytes b (mends on) o bearer epoch place e happened suits from carried answers inside h = absurd h
tunnel_shown seen n s bytes b (cuts on) o bearer epoch place e happened suits from carried answers inside h = absurd h
tunnel_shown seen n s bytes b (ticks shown) o bearer epoch place e happened suits from carried answers inside h = absurd h

-- ---- the entries of changes

-- the end on one of the two bearers
on_two : (x : PairEnds) (bearer : ℕ) → bearer ≤ 1 → end_on bearer (Some x) ≡ (facing bearer x).near
on_two x bearer two = let is : nat_le bearer 1 ≡ true = grind (arith, nat_tests, two) in ap (λ t. if t then (facing bearer x).near else None) is

epochs_two : (x : PairEnds) (bearer : ℕ) → bearer ≤ 1 → epochs_on bearer x ≡ epochs_at (facing bearer x).near
epochs_two x bearer two = let is : nat_le bearer 1 ≡ true = grind (arith, nat_tests, two) in ap (λ t. if t then epochs_at (facing bearer x).near else None) is

-- the numbers of a contact are those of the pair
seen_number : (x : PairEnds) (numbers : ℕ × ℕ) → contact_between x ≡ Some numbers → x.seen ≡ numbers.1
seen_number x numbers = case (in_contact x)
  where
    case : (t : Bool) → (if t then Some (x.contact, x.seen) else None) ≡ Some numbers → x.seen ≡ numbers.1
    case true is = let same : (x.contact, x.seen) ≡ numbers = cc in ap (λ (k : ℕ × ℕ). k.1) same
    case false is = absurd cc

-- what is known of a turn at another node, and of the step that tells of it
record PeerKnown (seen : Seen) (n : NodeState) (s : NodeStep) (bytes : List ℕ) (b : ℕ) : Type 0 where
  before : TellsOf n.journal b (Some (pair_with n b))
  ticked : (bearer : ℕ) → HasTicked seen (steps n.journal) (addr_of b) bearer (silence_in (end_on bearer (Some (pair_with n b))))
  carried : AreCarried seen s bytes
  answers : TakesTunnels n s bytes

abbrev placed_in : NodeState → NodeStep → PlacedStep
placed_in n s = record { before = n.journal; step = s }

-- a link that goes down has a cause that can be seen
down_caused : (seen : Seen) (n : NodeState) (bytes : List ℕ) (s : NodeStep) (frames : List Outgoing) (b : ℕ) (x' : PairEnds) (t : PeerTurn n.own bytes s frames b (pair_with n b) x') → PeerKnown seen n s bytes b
    → (bearer theirs : ℕ) (because : Cause) (shown place : ℕ) (e : Entry) → bearer ≤ 1 → slice_get s.inside place ≡ Some e → MayGoDown (pair_with n b) t.opening t.turn.first.given t.turn.first.course.changes bearer theirs because shown
    → IsCaused seen (steps n.journal) (placed_in n s) (addr_of b) bearer theirs because shown
down_caused seen n bytes s frames b x' t k bearer theirs cause.Cut shown place e two inside may = cut_event s.event t.opening bearer t.suits may
down_caused seen n bytes s frames b x' t k bearer theirs cause.Silent shown place e two inside may = (
  tick_event s.event t.opening t.suits may.0,
  λ i u at heard. (let more = k.ticked bearer i u at heard in let four = subst (λ o. 4 ≤ silence_in o) (sym (on_two (pair_with n b) bearer two)) may.1 in omega (arith, more, four)),
)
down_caused seen n bytes s frames b x' t k bearer theirs cause.PeerReset shown place e two inside may = (reset_shown seen s bytes b t.opening bearer shown t.suits t.brought k.carried may.0, may.1)
down_caused seen n bytes s frames b x' t k bearer theirs cause.PeerTunnel shown place e two inside may = (
  tunnel_shown seen n s bytes b t.opening t.turn.first bearer shown place e t.turn.happened t.suits t.brought k.carried k.answers inside may.0,
  may.1,
)
down_caused seen n bytes s frames b x' t k bearer theirs cause.ContactEnded shown place e two inside may =
    let number = may.0 in
    let ends = may.2 in
    let numbers : ℕ × ℕ = ((pair_with n b).contact, (pair_with n b).seen) in
    let told = entry.ContactDown (addr_of b) numbers ends.states number in
    let found = passed (is_change_of b) s.inside ends.place told (ap (λ es. slice_get es ends.place) t.changes ∙ mapped_there (change_entry b) t.turn.first.course.changes ends.place (ContactDown numbers ends.states number) ends.there) in
    (found.0, numbers, ends.states, number, found.1, number_shown seen s bytes b t.opening (pair_with n b).seen number t.suits t.brought k.carried may.1, number_above t.opening (pair_with n b).seen number may.1)

-- each change is lawful by its reason
change_lawful : (seen : Seen) (n : NodeState) (bytes : List ℕ) (s : NodeStep) (frames : List Outgoing) (b : ℕ) (x' : PairEnds) (t : PeerTurn n.own bytes s frames b (pair_with n b) x') → PeerKnown seen n s bytes b → AreAbreast (pair_with n b)
    → TellsOf (n.journal ++ step_entries s) b (Some x') → (k : ℕ) (c : Transition) → slice_get t.turn.first.course.changes k ≡ Some c → IsReason (pair_with n b) t.opening t.turn.first.given t.turn.first.course.changes c
    → IsLawfulEntry seen (steps n.journal) (placed_in n s) (change_entry b c)
change_lawful seen n bytes s frames b x' t known abreast told k (LinkUp bearer own theirs) at reason = reason
change_lawful seen n bytes s frames b x' t known abreast told k (LinkDown bearer because shown) at reason =
    let e = change_entry b (LinkDown bearer because shown) in
    let found = passed (is_change_of b) s.inside k e (ap (λ es. slice_get es k) t.changes ∙ mapped_there (change_entry b) t.turn.first.course.changes k (LinkDown bearer because shown) at) in (
      reason.two,
      (
        reason.own,
        reason.theirs,
        known.before.epochs_are bearer ∙ epochs_two (pair_with n b) bearer reason.two ∙ reason.epochs,
        down_caused seen n bytes s frames b x' t known bearer reason.theirs because shown found.0 e reason.two found.1 reason.cause_is,
      ),
    )
change_lawful seen n bytes s frames b x' t known abreast told k (ContactUp numbers) at reason = tt
change_lawful seen n bytes s frames b x' t known abreast told k (ContactDown numbers states number) at reason =
    let over = contact_ended n.journal n.own bytes s frames b (pair_with n b) x' t abreast known.before told k numbers states number at in
    let seen_is : (pair_with n b).seen ≡ numbers.1 = seen_number (pair_with n b) numbers (sym known.before.contact_is ∙ over.contact_is) in
    (over.contact_is, over.none, by seen_is reason)
  where
    by : (pair_with n b).seen ≡ numbers.1 → (number ≡ 0) ⊎ HearsHigher (pair_with n b).seen t.opening number → (number ≡ 0) ⊎ (IsNumberOf seen s (addr_of b) number × (numbers.1 < number))
    by seen_is (inl none) = inl none
    by seen_is (inr h) = inr (number_shown seen s bytes b t.opening (pair_with n b).seen number t.suits t.brought known.carried h, subst (λ m. m < number) seen_is (number_above t.opening (pair_with n b).seen number h))

-- ---- the turn at a peer

-- what a step tells of another node is lawful
record PeerLawful (seen : Seen) (earlier : List PlacedStep) (s : PlacedStep) (b : ℕ) : Type 0 where
  changes : Each (IsLawfulEntry seen earlier s) (filter (is_change_of b) s.step.inside)
  accepted : Each (IsLawfulEntry seen earlier s) (filter (is_accepted_for b) s.step.inside)
  delivered : Each (IsLawfulEntry seen earlier s) (filter (is_delivered_from b) s.step.inside)
  casts : AreCastsLawful seen earlier s b

peer_lawful : (seen : Seen) (n : NodeState) (bytes : List ℕ) (s : NodeStep) (frames : List Outgoing) (b : ℕ) (x' : PairEnds) (t : PeerTurn n.own bytes s frames b (pair_with n b) x') → PeerKnown seen n s bytes b
    → TellsOf (n.journal ++ step_entries s) b (Some x') → All (IsGivenSpelled seen s b) (opened_in t.turn.first.given) → AreCastsLawful seen (steps n.journal) (placed_in n s) b → PeerLawful seen (steps n.journal) (placed_in n s) b
peer_lawful seen n bytes s frames b x' t k told spelled casts =
    let first = t.turn.first in
    let P = IsLawfulEntry seen (steps n.journal) (placed_in n s) in
    let abreast : AreAbreast (pair_with n b) = k.before.abreast in
    let reasons = first_reasons (pair_with n b) t.opening first abreast t.on_one (brings_fit b bytes t.opening t.brought) t.turn.happened in
    let messages = messages_lawful seen (steps n.journal) n.journal n.own bytes s frames b (pair_with n b) x' t abreast told spelled in
    record {
      changes = subst (Each P) (sym t.changes) (each_mapped P (change_entry b) first.course.changes
          (λ i c at. change_lawful seen n bytes s frames b x' t k abreast told i c at (all_at (IsReason (pair_with n b) t.opening first.given first.course.changes) first.course.changes i c reasons at)));
      accepted = messages.accepted;
      delivered = messages.delivered;
      casts = casts;
    }

-- ---- the turn

-- what a step tells of each other node is lawful
turn_lawful : (seen : Seen) (a : ℕ) (n n' : NodeState) (bytes : List ℕ) (s : NodeStep) (frames : List Outgoing) (t : NodeTurn n n' bytes s frames) → IsTold n → ((p : ℕ) → TellsOf (n.journal ++ step_entries s) p (Some (pair_with n' p)))
    → ((p bearer : ℕ) → HasTicked seen (steps n.journal) (addr_of p) bearer (silence_in (end_on bearer (pair_in n p)))) → AreCarried seen s bytes → TakesTunnels n s bytes → AreGivenSpelled seen a n n' bytes s frames t
    → HaveJoined n → AreCastSpelled seen n n' bytes s frames t → (b : ℕ) → IsNumber b → b ≢ a → PeerLawful seen (steps n.journal) (placed_in n s) b
turn_lawful seen a n n' bytes s frames t told later ticked carried answers spelled joined cast_spelled b number apart =
    peer_lawful seen n bytes s frames b (pair_with n' b) (t.turns b) (record {
      before = kept_tells n b told;
      ticked = λ bearer. subst (λ o. HasTicked seen (steps n.journal) (addr_of b) bearer (silence_in o)) (end_read n b bearer) (ticked b bearer);
      carried = carried;
      answers = answers;
    }) (later b) (spelled b number apart) (casts_lawful seen (steps n.journal) n n' bytes s frames b t told joined (later b) cast_spelled)

-- an entry that tells of a neighbour is lawful as those of the neighbour are
entry_lawful : (seen : Seen) (earlier : List PlacedStep) (s : PlacedStep) (n : NodeState) (place : ℕ) (e : Entry) → ((b : ℕ) → is_some (neighbour_of n b) ≡ true → PeerLawful seen earlier s b) → slice_get s.step.inside place ≡ Some e → IsPlaced n e
    → IsLawfulEntry seen earlier s e
entry_lawful seen earlier s n place (entry.LinkUp peer bearer own theirs) h there at =
    let found = passes (is_change_of at.0) s.step.inside place (entry.LinkUp peer bearer own theirs) there (named peer at.0 at.2) in (h at.0 at.1).changes found.0 (entry.LinkUp peer bearer own theirs) found.1
entry_lawful seen earlier s n place (entry.LinkDown peer bearer cause shown) h there at =
    let found = passes (is_change_of at.0) s.step.inside place (entry.LinkDown peer bearer cause shown) there (named peer at.0 at.2) in (h at.0 at.1).changes found.0 (entry.LinkDown peer bearer cause shown) found.1
entry_lawful seen earlier s n place (entry.ContactDown peer numbers states shown) h there at =
    let found = passes (is_change_of at.0) s.step.inside place (entry.ContactDown peer numbers states shown) there (named peer at.0 at.2) in (h at.0 at.1).changes found.0 (entry.ContactDown peer numbers states shown) found.1
entry_lawful seen earlier s n place (entry.Accepted peer numbers Zero message) h there at =
    let found = passes (is_accepted_for at.0.0) s.step.inside place (entry.Accepted peer numbers Zero message) there (named_in peer at.0.0 Zero Zero at.0.2 refl) in (h at.0.0 at.0.1).accepted found.0 (entry.Accepted peer numbers Zero message) found.1
entry_lawful seen earlier s n place (entry.Accepted peer numbers Broadcast message) h there at =
    let found = passes (is_cast_for at.0.0) s.step.inside place (entry.Accepted peer numbers Broadcast message) there (named_in peer at.0.0 Broadcast Broadcast at.0.2 refl) in (h at.0.0 at.0.1).casts.accepted found.0 (entry.Accepted peer numbers Broadcast message) found.1
entry_lawful seen earlier s n place (entry.Accepted peer numbers One message) h there at = absurd at.1
entry_lawful seen earlier s n place (entry.Delivered peer numbers Zero message by) h there at =
    let found = passes (is_delivered_from at.0.0) s.step.inside place (entry.Delivered peer numbers Zero message by) there (named_in peer at.0.0 Zero Zero at.0.2 refl) in (h at.0.0 at.0.1).delivered found.0 (entry.Delivered peer numbers Zero message by) found.1
entry_lawful seen earlier s n place (entry.Delivered peer numbers Broadcast message by) h there at =
    let found = passes (is_cast_from at.0.0) s.step.inside place (entry.Delivered peer numbers Broadcast message by) there (named_in peer at.0.0 Broadcast Broadcast at.0.2 refl) in
    (h at.0.0 at.0.1).casts.delivered found.0 (entry.Delivered peer numbers Broadcast message by) found.1
entry_lawful seen earlier s n place (entry.Delivered peer numbers One message by) h there at = absurd at.1
entry_lawful seen earlier s n place other_entry h there at = tt

carried_arrives : (seen : Seen) (s : NodeStep) (bytes : List ℕ) → AreCarried seen s bytes → Arrives seen s
carried_arrives seen s bytes carried bearer number is = let c = carried bearer number is in (c.1.frame, c.0, c.1.arrived)

pub turn_kept : (seen : Seen) (past : List (List Entry)) (a : ℕ) (n n' : NodeState) (bytes : List ℕ) (s : NodeStep) (frames : List Outgoing) (t : NodeTurn n n' bytes s frames) → IsKept seen past n.journal (pair_in n) → IsTold n → IsTold n'
    → AreCarried seen s bytes → TakesTunnels n s bytes → AreGivenSpelled seen a n n' bytes s frames t → HaveJoined n → AreCastSpelled seen n n' bytes s frames t → ((b : ℕ) → is_some (neighbour_of n b) ≡ true → IsNumber b × (b ≢ a)) → IsKept seen past n'.journal (pair_in n')
turn_kept seen past a n n' bytes s frames t h told told' carried answers spelled joined cast_spelled other =
    let later : (p : ℕ) → TellsOf (n.journal ++ step_entries s) p (Some (pair_with n' p)) = λ p. subst (λ j. TellsOf j p (Some (pair_with n' p))) t.journal (kept_tells n' p told') in
    let after : (p : ℕ) → TellsOf (n.journal ++ step_entries s) p (pair_in n' p) = λ p. subst (λ j. TellsOf j p (pair_in n' p)) t.journal (told'.links p) in
    let each : (b : ℕ) → is_some (neighbour_of n b) ≡ true → PeerLawful seen (steps n.journal) (placed_in n s) b = λ b there. (let peer = other b there in turn_lawful seen a n n' bytes s frames t told later h.ticked carried answers spelled joined cast_spelled b peer.0 peer.1) in
    let entries : Each (IsLawfulEntry seen (steps n.journal) (placed_in n s)) s.inside =
    λ place e there. entry_lawful seen (steps n.journal) (placed_in n s) n place e each there (all_at (IsPlaced n) s.inside place e t.placed there) in
    let parted = turn_parted n n' bytes s frames t told (λ place peer numbers states number there. (entries place (entry.ContactDown peer numbers states number) there).1) in
    subst (λ j. IsKept seen past j (pair_in n')) (sym t.journal)
    (kept_step seen past n.journal (pair_in n) (pair_in n') s h t.inside (carried_arrives seen s bytes carried) after (turn_timed seen n n' bytes s frames told t carried) entries parted)
