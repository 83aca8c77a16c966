-- What a sound world says of the messages that were accepted and delivered, after each event.
use Rattle.std.specs.Prelude.{is_some}
use Rattle.std.proofs.Common.{◌≡◌, ◌≢◌, ◌<◌, ◌^◌, ◌==◌, ◌&&◌, ℕ, Bool, true, false, List, [], ◌++◌, Option, Some, None, inl, inr, refl, slice_index_or, slice_set, sym, ap, subst, ◌∙◌, eqb-true}
use Rattle.std.proofs.lemmas.Bool.{and_parts, cases_eq}
use Rattle.tipc_types.specs.Address.{node_word}
use Rattle.tipc_types.specs.declared.message_forms.Flow.{Flow}
use Rattle.tipc_types.specs.declared.message_forms.Flow.TheVariants.{One, Zero}
use Rattle.tipc_outside.specs.declared.outgoing.Outgoing.{Outgoing}
use Rattle.tipc_journal.specs.Steps.{NodeStep, step_entries}
use Rattle.tipc_journal.specs.Streams.{accepted, delivered}
use Rattle.tipc_link.proofs.LinkLaw.{Each}
use Rattle.tipc_node.specs.Nodes.{neighbour_of, pair_with}
use Rattle.tipc_node.specs.Messages.{IsSendable}
use Rattle.tipc_node.specs.Turns.{NodeTurn}
use Rattle.tipc_replay.specs.Skies.{AirState}
use Rattle.tipc_replay.specs.Sound.{IsBetween, IsNumber, IsSaid, IsSound}
use Rattle.tipc_replay.specs.States.{MemberState, accepted_at, delivered_at, history, history_at, stream_of}
use Rattle.tipc_replay.specs.Steps.{stage}
use Rattle.tipc_replay.proofs.LookUps.{history_at-is, history_at-same, member_at-changed, member_at-is, member_at-other}
use Rattle.tipc_replay.proofs.casts.CastGiven.{numbers_fit}
use Rattle.tipc_replay.proofs.pairs.Standing.{neighbour_number}
use Rattle.tipc_replay.proofs.streams.TurnStreams.{AreBrought, accepted_one, delivered_apart, delivered_none, delivered_one, gained, turn_accepts, turn_delivers}

-- what a sound world says of messages
pub record StreamsSound (members : List (Option MemberState)) : Type 0 where
  pub no_flow_one : (a b own theirs : ℕ) → (accepted_at members a b own theirs One ≡ []) × (delivered_at members a b own theirs One ≡ [])
  pub accepted : (a b own theirs : ℕ) (flow : Flow) → Each (IsSaid flow (node_word a)) (accepted_at members a b own theirs flow)
  pub delivered : (a b own theirs : ℕ) → Each (IsSendable (node_word b)) (delivered_at members a b own theirs Zero)
  pub nothing : (a b own theirs : ℕ) (flow : Flow) → delivered_at members a b own theirs flow ≢ [] → IsBetween a b own theirs

pub streams_of : (members : List (Option MemberState)) (air : AirState) → IsSound members air → StreamsSound members
streams_of members air h = record { no_flow_one = h.no_flow_one; accepted = h.accepted; delivered = h.delivered; nothing = h.nothing }

-- ---- the streams of the nodes

pub accepted_by : (members members' : List (Option MemberState)) (n b own theirs : ℕ) (flow : Flow) → history_at members' n ≡ history_at members n → accepted_at members' n b own theirs flow ≡ accepted_at members n b own theirs flow
unfolding accepted_at
accepted_by members members' n b own theirs flow same = ap (λ es. accepted es (stream_of b own theirs flow)) same

pub delivered_by : (members members' : List (Option MemberState)) (n b own theirs : ℕ) (flow : Flow) → history_at members' n ≡ history_at members n → delivered_at members' n b own theirs flow ≡ delivered_at members n b own theirs flow
unfolding delivered_at
delivered_by members members' n b own theirs flow same = ap (λ es. delivered es (stream_of b own theirs flow)) same

-- those of a node with this history
accepted_in : (members : List (Option MemberState)) (a b own theirs : ℕ) (flow : Flow) (m : MemberState) → history_at members a ≡ history m → accepted_at members a b own theirs flow ≡ accepted (history m) (stream_of b own theirs flow)
unfolding accepted_at
accepted_in members a b own theirs flow m is = ap (λ es. accepted es (stream_of b own theirs flow)) is

delivered_in : (members : List (Option MemberState)) (a b own theirs : ℕ) (flow : Flow) (m : MemberState) → history_at members a ≡ history m → delivered_at members a b own theirs flow ≡ delivered (history m) (stream_of b own theirs flow)
unfolding delivered_at
delivered_in members a b own theirs flow m is = ap (λ es. delivered es (stream_of b own theirs flow)) is

-- ---- one node changed

-- the streams of the nodes, of which those of node a are these
record Changed (members members' : List (Option MemberState)) (a : ℕ) (m m' : MemberState) : Type 0 where
  others : (n : ℕ) → n ≢ a → history_at members' n ≡ history_at members n
  was : history_at members a ≡ history m
  is : history_at members' a ≡ history m'

changed : (members members' : List (Option MemberState)) (a : ℕ) (m m' : MemberState) → slice_index_or members a None ≡ Some m → members' ≡ slice_set members a (Some m') → Changed members members' a m m'
changed members members' a m m' was is = record {
  others = λ n apart. subst (λ ms. history_at ms n ≡ history_at members n) (sym is) (history_at-same members (slice_set members a (Some m')) n (member_at-other members a n m' apart));
  was = history_at-is members a m (member_at-is members a m was);
  is = subst (λ ms. history_at ms a ≡ history m') (sym is) (history_at-is (slice_set members a (Some m')) a m' (member_at-changed members a m m' was));
}

-- what a sound world says of the messages of node n with node b in a contact
record OneStream (members' : List (Option MemberState)) (n b own theirs : ℕ) : Type 0 where
  no_flow_one : (accepted_at members' n b own theirs One ≡ []) × (delivered_at members' n b own theirs One ≡ [])
  accepted : (flow : Flow) → Each (IsSaid flow (node_word n)) (accepted_at members' n b own theirs flow)
  delivered : Each (IsSendable (node_word b)) (delivered_at members' n b own theirs Zero)
  nothing : (flow : Flow) → delivered_at members' n b own theirs flow ≢ [] → IsBetween n b own theirs

same_stream : (members members' : List (Option MemberState)) (n b own theirs : ℕ) → StreamsSound members → history_at members' n ≡ history_at members n → OneStream members' n b own theirs
same_stream members members' n b own theirs h same = record {
  no_flow_one = (
    accepted_by members members' n b own theirs One same ∙ (h.no_flow_one n b own theirs).0,
    delivered_by members members' n b own theirs One same ∙ (h.no_flow_one n b own theirs).1,
  );
  accepted = λ flow. subst (Each (IsSaid flow (node_word n))) (sym (accepted_by members members' n b own theirs flow same)) (h.accepted n b own theirs flow);
  delivered = subst (Each (IsSendable (node_word b))) (sym (delivered_by members members' n b own theirs Zero same)) (h.delivered n b own theirs);
  nothing = λ flow some. h.nothing n b own theirs flow (λ none. some (delivered_by members members' n b own theirs flow same ∙ none));
}

streams_from : (members' : List (Option MemberState)) → ((n b own theirs : ℕ) → OneStream members' n b own theirs) → StreamsSound members'
streams_from members' each = record {
  no_flow_one = λ n b own theirs. (each n b own theirs).no_flow_one;
  accepted = λ n b own theirs. (each n b own theirs).accepted;
  delivered = λ n b own theirs. (each n b own theirs).delivered;
  nothing = λ n b own theirs. (each n b own theirs).nothing;
}

-- where node a alone changed
all_streams : (members members' : List (Option MemberState)) (a : ℕ) (m m' : MemberState) → StreamsSound members → Changed members members' a m m' → ((b own theirs : ℕ) → OneStream members' a b own theirs) → StreamsSound members'
all_streams members members' a m m' h c here = streams_from members' (λ n b own theirs. elim (cases_eq n a) [
  | inl same ↦ subst (λ k. OneStream members' k b own theirs) (sym same) (here b own theirs)
  | inr other ↦ same_stream members members' n b own theirs h (c.others n other)
])

-- nothing was accepted or delivered
pub streams_same : (members members' : List (Option MemberState)) (a : ℕ) (m m' : MemberState) → StreamsSound members → slice_index_or members a None ≡ Some m → members' ≡ slice_set members a (Some m')
    → history m' ≡ history m → StreamsSound members'
streams_same members members' a m m' h was is same =
    let c = changed members members' a m m' was is in
    all_streams members members' a m m' h c (λ b own theirs. same_stream members members' a b own theirs h (c.is ∙ same ∙ sym c.was))

-- ---- a turn

-- a stream of the node that took the turn
turned_stream : (members members' : List (Option MemberState)) (air : AirState) (a : ℕ) (m m' : MemberState) (bytes : List ℕ) (s : NodeStep) (frames : List Outgoing) (b own theirs : ℕ) → IsSound members air → slice_index_or members a None ≡ Some m
    → Changed members members' a m m' → history m' ≡ history m ++ step_entries s → (t : NodeTurn m.node m'.node bytes s frames) → AreBrought a m.node m'.node bytes s frames t → OneStream members' a b own theirs
turned_stream members members' air a m m' bytes s frames b own theirs sound was c longer t brings =
    let h = streams_of members air sound in
    let old_accepted : (flow : Flow) → accepted (history m) (stream_of b own theirs flow) ≡ accepted_at members a b own theirs flow = λ flow. sym (accepted_in members a b own theirs flow m c.was) in
    let old_delivered : (flow : Flow) → delivered (history m) (stream_of b own theirs flow) ≡ delivered_at members a b own theirs flow = λ flow. sym (delivered_in members a b own theirs flow m c.was) in
    let new_accepted = λ (flow : Flow). accepted_in members' a b own theirs flow m' c.is in
    let new_delivered = λ (flow : Flow). delivered_in members' a b own theirs flow m' c.is in
    let named = (sound.numbered a m was).1 in
    record {
      no_flow_one = (
        new_accepted One ∙ accepted_one (history m) (history m') m.node s b own theirs t.placed longer ∙ old_accepted One ∙ (h.no_flow_one a b own theirs).0,
        new_delivered One ∙ delivered_one (history m) (history m') m.node s b own theirs t.placed longer ∙ old_delivered One ∙ (h.no_flow_one a b own theirs).1,
      );
      accepted = λ flow. subst (Each (IsSaid flow (node_word a))) (sym (new_accepted flow)) (subst (λ k. Each (IsSaid flow k) (accepted (history m') (stream_of b own theirs flow))) named
          (gained (IsSaid flow m.node.own) (accepted (history m) (stream_of b own theirs flow)) (accepted (history m') (stream_of b own theirs flow))
          (turn_accepts (history m) (history m') m.node m'.node bytes s frames b own theirs flow t longer)
          (subst (λ k. Each (IsSaid flow k) (accepted (history m) (stream_of b own theirs flow))) (sym named) (subst (Each (IsSaid flow (node_word a))) (sym (old_accepted flow)) (h.accepted a b own theirs flow)))));
      delivered = subst (Each (IsSendable (node_word b))) (sym (new_delivered Zero))
          (gained (IsSendable (node_word b)) (delivered (history m) (stream_of b own theirs Zero)) (delivered (history m') (stream_of b own theirs Zero))
          (turn_delivers (history m) (history m') a m.node m'.node bytes s frames b own theirs t brings other longer)
          (subst (Each (IsSendable (node_word b))) (sym (old_delivered Zero)) (h.delivered a b own theirs)));
      nothing = λ flow some. by flow (is_some (neighbour_of m.node b)) refl some;
    }
  where
    -- a neighbour is another node, and has a number
    other : is_some (neighbour_of m.node b) ≡ true → IsNumber b × (b ≢ a)
    other there = neighbour_number members air a b m sound was there

    -- nothing more was delivered
    before : (flow : Flow) → delivered (history m') (stream_of b own theirs flow) ≡ delivered (history m) (stream_of b own theirs flow) → delivered_at members' a b own theirs flow ≢ [] → IsBetween a b own theirs
    before flow same some = sound.nothing a b own theirs flow (λ none. some (delivered_in members' a b own theirs flow m' c.is ∙ same ∙ sym (delivered_in members a b own theirs flow m c.was) ∙ none))

    in_it : (there : is_some (neighbour_of m.node b) ≡ true) (flow : Flow) (t' : Bool) → ((own == (pair_with m.node b).contact) && (theirs == (pair_with m.node b).seen)) ≡ t' → delivered_at members' a b own theirs flow ≢ [] → IsBetween a b own theirs
    in_it there flow true is some =
        let peer = other there in
        let fits = numbers_fit (stage members air) a b m sound was peer.0 peer.1 in
        let both = and_parts (own == (pair_with m.node b).contact) (theirs == (pair_with m.node b).seen) is in (
          (sound.numbered a m was).0,
          peer.0,
          λ same. peer.1 (sym same),
          subst (λ k. k < 2 ^ 64) (sym (eqb-true own (pair_with m.node b).contact both.0)) fits.1,
          subst (λ k. k < 2 ^ 64) (sym (eqb-true theirs (pair_with m.node b).seen both.1)) fits.0,
        )
    in_it there flow false apart some = before flow (delivered_apart (history m) (history m') m.node m'.node bytes s frames b own theirs flow t apart longer) some

    by : (flow : Flow) (known : Bool) → is_some (neighbour_of m.node b) ≡ known → delivered_at members' a b own theirs flow ≢ [] → IsBetween a b own theirs
    by flow false alone some = before flow (delivered_none (history m) (history m') m.node s b own theirs flow alone t.placed longer) some
    by flow true there some = in_it there flow ((own == (pair_with m.node b).contact) && (theirs == (pair_with m.node b).seen)) refl some

-- node a took a turn, in which what it was given is messages
pub turn_streams : (members members' : List (Option MemberState)) (air : AirState) (a : ℕ) (m m' : MemberState) (bytes : List ℕ) (s : NodeStep) (frames : List Outgoing) → IsSound members air → slice_index_or members a None ≡ Some m
    → members' ≡ slice_set members a (Some m') → history m' ≡ history m ++ step_entries s → (t : NodeTurn m.node m'.node bytes s frames) → AreBrought a m.node m'.node bytes s frames t → StreamsSound members'
turn_streams members members' air a m m' bytes s frames sound was is longer t brings =
    let c = changed members members' a m m' was is in
    all_streams members members' a m m' (streams_of members air sound) c (λ b own theirs. turned_stream members members' air a m m' bytes s frames b own theirs sound was c longer t brings)
