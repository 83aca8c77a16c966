-- What a turn of a node adds to what it ever accepted for each peer and delivered from it.
use Rattle.std.specs.Prelude.{All, is_some, option_to_list}
use Rattle.std.specs.List.{filter}
use Rattle.std.proofs.Common.{◌≡◌, ◌≢◌, ◌⊎◌, ◌==◌, ◌&&◌, ℕ, suc, Bool, true, false, if◌then◌else◌, List, [], ◌∷◌, ◌++◌, Option, Some, None, inl, inr, map, option_map, slice_get, refl, sym, ap, subst, ◌∙◌, append-nil}
use Rattle.std.proofs.lemmas.List.{map-append}
use Rattle.std.proofs.lemmas.List.Elements.{All-head, All-tail}
use Rattle.std.proofs.lemmas.Option.{slice_get-map}
use Rattle.tipc_types.specs.Address.{node_word}
use Rattle.tipc_types.specs.declared.message_forms.Flow.{Flow}
use Rattle.tipc_types.specs.declared.message_forms.Flow.TheVariants.{Broadcast, One, Zero}
use Rattle.tipc_types.specs.declared.message_forms.Message.{Message}
use Rattle.tipc_outside.specs.declared.outgoing.Outgoing.{Outgoing}
use Rattle.tipc_header.specs.Reading.{fields_at}
use Rattle.tipc_header.specs.Spelling.{spelling}
use Rattle.tipc_header.proofs.Again.{again}
use Rattle.tipc_message.specs.Wire.{message_of}
use Rattle.tipc_broadcast.specs.Deeds.{AreLawful}
use Rattle.tipc_journal.specs.declared.entries.Entry.{Entry}
use Rattle.tipc_journal.specs.declared.entries.Entry.TheVariants as entry
use Rattle.tipc_journal.specs.Steps.{NodeStep, step_entries}
use Rattle.tipc_journal.specs.Streams.{accepted, accepted_message, delivered, delivered_message}
use Rattle.tipc_journal.proofs.StreamLaws.{accepted_nil, delivered_nil}
use Rattle.tipc_reassembly.specs.declared.opening.Opened.{Opened}
use Rattle.tipc_reassembly.specs.declared.opening.Opened.TheVariants.{Whole, Passed}
use Rattle.tipc_reassembly.specs.Slots.{IsWholePacket, packets_in}
use Rattle.tipc_link.proofs.LinkLaw.{Each, Each-append, Each-none, Each-one}
use Rattle.tipc_pair.specs.Facing.{PairEnds, contact_between}
use Rattle.tipc_pair.specs.PairTurns.{Outset}
use Rattle.tipc_pair.specs.Messages.{opened_in}
use Rattle.tipc_two_nodes.specs.Sights.{StaysIn}
use Rattle.tipc_node.specs.Nodes.{NodeState, accepted_entry, neighbour_of, pair_with}
use Rattle.tipc_node.specs.Messages.{IsSendable, bytes_of, message_in}
use Rattle.tipc_node.specs.Turns.HearsCasts.{hears_none, hears_one}
use Rattle.tipc_node.specs.Turns.{HearsCasts, IsPlaced, IsSent, NodeTurn, PeerTurn, addr_of, cast_told, given_entries, is_cast_from}
use Rattle.tipc_node.proofs.turns.Turning.{of_other}
use Rattle.tipc_replay.specs.Sound.{IsNumber, IsSaid}
use Rattle.tipc_pair.proofs.turns.PairPuts.{MeetsAs, puts_meet, replied_meets}
use Rattle.tipc_replay.specs.States.{stream_of}
use Rattle.tipc_replay.specs.Views.{given_in, put_in}
use Rattle.tipc_replay.proofs.streams.Histories.{accepted_grows, accepted_holds, accepted_stays, come_to, delivered_grows, delivered_stays, flows_apart, given_apart, given_holds, messages_given, other_peer}
use Rattle.tipc_replay.proofs.casts.CastPlain.{cast_stays}
use Rattle.tipc_replay.proofs.casts.CastStreams.{cast_then, entry_told, heard_then}
use Rattle.tipc_replay.proofs.LookUps.{either_way}
use Rattle.tipc_replay.proofs.frames.Messages.{bytes_are}

-- ---- the messages of packets

-- a packet is that of a message which the node of this address word can send
abbrev pub IsOfMessage : ℕ → List ℕ → Type 0
IsOfMessage word packet = (m : Message) × IsSendable word m × (bytes_of word m ≡ packet)

-- each packet that was put is
pub put_message : (word : ℕ) (ms : List Message) (k : ℕ) (packet : List ℕ) → Each (IsSendable word) ms → slice_get (map (bytes_of word) ms) k ≡ Some packet → IsOfMessage word packet
put_message word ms k packet h there = case (slice_get ms k) refl
  where
    case : (o : Option Message) → slice_get ms k ≡ o → IsOfMessage word packet
    case None none = let is : option_map (bytes_of word) None ≡ Some packet = ap (option_map (bytes_of word)) (sym none) ∙ sym (slice_get-map (bytes_of word) ms k) ∙ there in absurd cc
    case (Some m) some = let is : Some (bytes_of word m) ≡ Some packet = ap (option_map (bytes_of word)) (sym some) ∙ sym (slice_get-map (bytes_of word) ms k) ∙ there in
        (m, h k m some, cc)

-- What was given is whole packets of messages that the node of this address word can send; it was given in the contact in which the pair was
-- before, and is.
pub record Brings (word : ℕ) (x : PairEnds) (o : Outset) : Type 0 where
  pub whole : All IsWholePacket (opened_in o.given)
  pub known : Each (IsOfMessage word) (packets_in (opened_in o.given))
  pub contact : (opened_in o.given ≡ []) ⊎ StaysIn x o.course.pair

-- and so is all that was given in a turn of node a, by each other node
abbrev pub AreBrought : (a : ℕ) (n n' : NodeState) (bytes : List ℕ) (s : NodeStep) (frames : List Outgoing) → NodeTurn n n' bytes s frames → Type 0
AreBrought a n n' bytes s frames t = (b : ℕ) → IsNumber b → b ≢ a → Brings (node_word b) (pair_with n b) (t.turns b).turn.first

-- the messages of whole packets
record AreGiven (word : ℕ) (opened : List Opened) : Type 0 where
  sendable : Each (IsSendable word) (messages_given opened)
  packets : map (bytes_of word) (messages_given opened) ≡ packets_in opened

pub message_is_in : (word : ℕ) (m : Message) (packet : List ℕ) → IsSendable word m → bytes_of word m ≡ packet → message_in packet ≡ Some m
message_is_in word m packet h is =
    let bytes : packet ≡ spelling h.packet = sym is ∙ bytes_are word m h.packet h.packet_is in
    ap (λ (b : List ℕ). message_of (fields_at b)) bytes ∙ ap message_of (again h.packet h.fits) ∙ h.read

one_more : (word : ℕ) (m : Message) (ms : List Message) → IsSendable word m → Each (IsSendable word) ms → Each (IsSendable word) (m ∷ ms)
one_more word m ms h hs = Each-append (IsSendable word) (m ∷ []) ms (Each-one (IsSendable word) m h) hs

given_messages : (word : ℕ) (opened : List Opened) → All IsWholePacket opened → Each (IsOfMessage word) (packets_in opened) → AreGiven word opened
given_messages word [] whole known = record { sendable = Each-none (IsSendable word); packets = refl }
given_messages word (Whole packet by ∷ os) whole known =
    let first = known 0 packet refl in
    let rest = given_messages word os (All-tail IsWholePacket (Whole packet by) os whole) (λ k p is. known (suc k) p is) in
    let here : messages_given (Whole packet by ∷ os) ≡ first.0 ∷ messages_given os = ap (λ o. option_to_list o ++ messages_given os) (message_is_in word first.0 packet first.1 first.2) in
    record {
      sendable = subst (Each (IsSendable word)) (sym here) (one_more word first.0 (messages_given os) first.1 rest.sendable);
      packets = ap (map (bytes_of word)) here ∙ ap (λ ps. bytes_of word first.0 ∷ ps) rest.packets ∙ ap (λ p. p ∷ packets_in os) first.2;
    }
given_messages word (Passed place ∷ os) whole known = absurd (All-head IsWholePacket (Passed place) os whole)

-- ---- what concerns no neighbour

never_delivered : (n : NodeState) (b own theirs : ℕ) (flow : Flow) → neighbour_of n b ≡ None → (e : Entry) → IsPlaced n e → delivered_message (stream_of b own theirs flow) e ≡ None
never_delivered n b own theirs flow alone (entry.Delivered peer numbers flow' message by) h =
    ap (λ t. if t then Some message else None) (other_peer peer.word (node_word b) numbers (own, theirs) flow' flow (of_other n b peer alone h.0))
never_delivered n b own theirs flow alone other h = refl

-- nor is any in flow One
never_accepted_one : (n : NodeState) (b own theirs : ℕ) (e : Entry) → IsPlaced n e → accepted_message (stream_of b own theirs One) e ≡ None
never_accepted_one n b own theirs (entry.Accepted peer numbers Zero message) h = ap (λ t. if t then Some message else None) (flows_apart peer.word (node_word b) numbers (own, theirs) Zero One refl)
never_accepted_one n b own theirs (entry.Accepted peer numbers One message) h = absurd h.1
never_accepted_one n b own theirs (entry.Accepted peer numbers Broadcast message) h = ap (λ t. if t then Some message else None) (flows_apart peer.word (node_word b) numbers (own, theirs) Broadcast One refl)
never_accepted_one n b own theirs other h = refl

never_delivered_one : (n : NodeState) (b own theirs : ℕ) (e : Entry) → IsPlaced n e → delivered_message (stream_of b own theirs One) e ≡ None
never_delivered_one n b own theirs (entry.Delivered peer numbers Zero message by) h = ap (λ t. if t then Some message else None) (flows_apart peer.word (node_word b) numbers (own, theirs) Zero One refl)
never_delivered_one n b own theirs (entry.Delivered peer numbers One message by) h = absurd h.1
never_delivered_one n b own theirs (entry.Delivered peer numbers Broadcast message by) h = ap (λ t. if t then Some message else None) (flows_apart peer.word (node_word b) numbers (own, theirs) Broadcast One refl)
never_delivered_one n b own theirs other h = refl

-- ---- the packets

-- packets were put, by the node of this address word, and given in the contact whose numbers a pair has
pub record Recorded (word : ℕ) (old new : List Entry) (b : ℕ) (x : PairEnds) (put given : List (List ℕ)) : Type 0 where
  pub put_is : (own theirs : ℕ) → put_in word new b own theirs ≡ put_in word old b own theirs ++ (if (own == x.contact) && (theirs == x.seen) then put else [])
  pub given_is : (own theirs : ℕ) → given_in new b own theirs ≡ given_in old b own theirs ++ (if (own == x.contact) && (theirs == x.seen) then given else [])

chosen_packets : (word : ℕ) (t : Bool) (ms : List Message) → map (bytes_of word) (if t then ms else []) ≡ (if t then map (bytes_of word) ms else [])
chosen_packets word true ms = refl
chosen_packets word false ms = refl

more_packets : (word : ℕ) (old new ms : List Message) (c seen own theirs : ℕ) (x : PairEnds) → x.contact ≡ c → x.seen ≡ seen → new ≡ old ++ come_to c seen ms own theirs Zero
    → map (bytes_of word) new ≡ map (bytes_of word) old ++ (if (own == x.contact) && (theirs == x.seen) then map (bytes_of word) ms else [])
more_packets word old new ms c seen own theirs x c_is seen_is grew =
    ap (map (bytes_of word)) grew ∙ map-append (bytes_of word) old (come_to c seen ms own theirs Zero)
    ∙ ap (λ ps. map (bytes_of word) old ++ ps) (chosen_packets word ((own == c) && (theirs == seen)) ms)
    ∙ ap (λ k. map (bytes_of word) old ++ (if (own == k) && (theirs == seen) then map (bytes_of word) ms else [])) (sym c_is)
    ∙ ap (λ k. map (bytes_of word) old ++ (if (own == x.contact) && (theirs == k) then map (bytes_of word) ms else [])) (sym seen_is)

none_come : (own theirs own' theirs' : ℕ) → come_to own theirs [] own' theirs' Zero ≡ []
none_come own theirs own' theirs' = either_way ((own' == own) && (theirs' == theirs)) []

-- the turn at another node: its messages were put, and what it was given is the packets of messages
pub turn_records : (old new : List Entry) (own : ℕ) (bytes : List ℕ) (s : NodeStep) (frames : List Outgoing) (b : ℕ) (x x' : PairEnds) (t : PeerTurn own bytes s frames b x x') → new ≡ old ++ step_entries s
    → Brings (node_word b) x t.turn.first → Recorded own old new b x' (map (bytes_of own) t.messages) (packets_in (opened_in t.turn.first.given))
turn_records old new own bytes s frames b x x' t is brings =
    let y = t.turn.first.course.pair in
    let last : MeetsAs t.turn.put x' = subst (MeetsAs t.turn.put) (sym t.turn.after) (replied_meets t.reply t.turn.put) in
    let put = puts_meet y (map (bytes_of own) t.messages) t.turn.put_frames t.turn.put t.turn.puts in
    let opened = opened_in t.turn.first.given in
    let given = given_messages (node_word b) opened brings.whole brings.known in
    let came : (c seen : ℕ) → delivered new (stream_of b c seen Zero) ≡ delivered old (stream_of b c seen Zero) ++ come_to x.contact x.seen (messages_given opened) c seen Zero =
    λ c seen. delivered_grows old new s b (given_entries Zero b x t.turn.first.given) c seen is t.delivered ∙ ap (λ ms. delivered old (stream_of b c seen Zero) ++ ms) (given_holds b x t.turn.first.given c seen Zero) in
    record {
      put_is = λ c seen. more_packets own (accepted old (stream_of b c seen Zero)) (accepted new (stream_of b c seen Zero)) t.messages t.turn.put.contact t.turn.put.seen c seen x' last.contact last.seen
          (accepted_grows old new s b (map (accepted_entry Zero b t.turn.put) t.messages) c seen is t.accepted ∙ ap (λ ms. accepted old (stream_of b c seen Zero) ++ ms) (accepted_holds b t.turn.put t.messages c seen Zero));
      given_is = λ c seen. elim brings.contact [
        | inl none ↦
            let nobody : messages_given opened ≡ [] = ap messages_given none in
            ap (map (bytes_of (node_word b))) (came c seen ∙ ap (λ ms. delivered old (stream_of b c seen Zero) ++ come_to x.contact x.seen ms c seen Zero) nobody
            ∙ ap (λ ms. delivered old (stream_of b c seen Zero) ++ ms) (none_come x.contact x.seen c seen) ∙ append-nil (delivered old (stream_of b c seen Zero)))
            ∙ sym (ap (λ os. given_in old b c seen ++ (if (c == x'.contact) && (seen == x'.seen) then packets_in os else [])) none
            ∙ ap (λ ps. given_in old b c seen ++ ps) (either_way ((c == x'.contact) && (seen == x'.seen)) []) ∙ append-nil (given_in old b c seen))
        | inr stays ↦
            more_packets (node_word b) (delivered old (stream_of b c seen Zero)) (delivered new (stream_of b c seen Zero)) (messages_given opened) x.contact x.seen c seen x' (last.contact ∙ (put.contact ∙ stays.contact)) (last.seen ∙ (put.seen ∙ stays.seen)) (came c seen)
            ∙ ap (λ ps. given_in old b c seen ++ (if (c == x'.contact) && (seen == x'.seen) then ps else [])) given.packets
      ];
    }

none_of : {A : Type 0} (o : Option A) → is_some o ≡ false → o ≡ None
none_of None is = refl
none_of (Some x) is = absurd cc

-- nothing is given but by a neighbour
pub delivered_none : (old new : List Entry) (n : NodeState) (s : NodeStep) (b own theirs : ℕ) (flow : Flow) → is_some (neighbour_of n b) ≡ false → All (IsPlaced n) s.inside → new ≡ old ++ step_entries s
    → delivered new (stream_of b own theirs flow) ≡ delivered old (stream_of b own theirs flow)
delivered_none old new n s b own theirs flow alone placed is =
    delivered_stays old new s (stream_of b own theirs flow) (IsPlaced n) is (never_delivered n b own theirs flow (none_of (neighbour_of n b) alone)) placed

-- nothing is accepted or given in flow One
pub accepted_one : (old new : List Entry) (n : NodeState) (s : NodeStep) (b own theirs : ℕ) → All (IsPlaced n) s.inside → new ≡ old ++ step_entries s → accepted new (stream_of b own theirs One) ≡ accepted old (stream_of b own theirs One)
accepted_one old new n s b own theirs placed is = accepted_stays old new s (stream_of b own theirs One) (IsPlaced n) is (never_accepted_one n b own theirs) placed

pub delivered_one : (old new : List Entry) (n : NodeState) (s : NodeStep) (b own theirs : ℕ) → All (IsPlaced n) s.inside → new ≡ old ++ step_entries s → delivered new (stream_of b own theirs One) ≡ delivered old (stream_of b own theirs One)
delivered_one old new n s b own theirs placed is = delivered_stays old new s (stream_of b own theirs One) (IsPlaced n) is (never_delivered_one n b own theirs) placed

-- ---- the messages

-- what came to a stream
pub record Gains (P : Message → Type 0) (old new : List Message) : Type 0 where
  pub more : List Message
  pub is : new ≡ old ++ more
  pub all : Each P more

-- so each of its messages is one where each was before
pub gained : (P : Message → Type 0) (old new : List Message) → Gains P old new → Each P old → Each P new
gained P old new g h = subst (Each P) (sym g.is) (Each-append P old g.more h g.all)

no_gain : (P : Message → Type 0) (old new : List Message) → new ≡ old → Gains P old new
no_gain P old new same = record { more = []; is = same ∙ sym (append-nil old); all = Each-none P }

each_chosen : (P : Message → Type 0) (t : Bool) (ms : List Message) → Each P ms → Each P (if t then ms else [])
each_chosen P true ms h = h
each_chosen P false ms h = Each-none P

gain : (P : Message → Type 0) (old new ms : List Message) (c seen own theirs : ℕ) → Each P ms → new ≡ old ++ come_to c seen ms own theirs Zero → Gains P old new
gain P old new ms c seen own theirs all is = record {
  more = come_to c seen ms own theirs Zero;
  is = is;
  all = each_chosen P ((own == c) && (theirs == seen)) ms all;
}

-- what is sent to one node alone may be name items
said_alone : (own : ℕ) (m : Message) → IsSendable own m → IsSaid Zero own m
said_alone own m h = record { sendable = h; stays = refl }

each_said : (own : ℕ) (ms : List Message) → All (IsSendable own) ms → Each (IsSaid Zero own) ms
each_said own [] h = Each-none (IsSaid Zero own)
each_said own (m ∷ ms) h =
    Each-append (IsSaid Zero own) (m ∷ []) ms (Each-one (IsSaid Zero own) m (said_alone own m (All-head (IsSendable own) m ms h))) (each_said own ms (All-tail (IsSendable own) m ms h))

-- the message that was cast, where one was
cast_said : (n n' : NodeState) (bytes : List ℕ) (s : NodeStep) (frames : List Outgoing) (b own theirs : ℕ) → (t : NodeTurn n n' bytes s frames)
    → Each (IsSaid Broadcast n.own) (accepted (cast_told b (pair_with n b) t.cast) (stream_of b own theirs Broadcast))
cast_said n n' bytes s frames b own theirs t = by t.cast t.sent
  where
    P : Message → Type 0
    P = IsSaid Broadcast n.own

    nothing : Each P (accepted [] (stream_of b own theirs Broadcast))
    nothing = subst (Each P) (sym (accepted_nil (stream_of b own theirs Broadcast))) (Each-none P)

    met : (m : Message) (o : Option (ℕ × ℕ)) → P m → Each P (accepted (option_to_list (option_map (λ numbers. entry.Accepted (addr_of b) numbers Broadcast m) o)) (stream_of b own theirs Broadcast))
    met m None h = nothing
    met m (Some numbers) h = subst (Each P) (sym (entry_told b own theirs numbers m)) (each_chosen P ((numbers.0 == own) && (numbers.1 == theirs)) (m ∷ []) (Each-one P m h))

    by : (o : Option Message) → IsSent n.own t.deeds o → Each P (accepted (cast_told b (pair_with n b) o) (stream_of b own theirs Broadcast))
    by None sent = nothing
    by (Some m) sent = met m (contact_between (pair_with n b)) (record { sendable = sent.0; stays = cast_stays n.own n.casting m sent.0 (subst (λ ds. AreLawful ds n.casting) sent.1 t.lawful) })

-- a turn adds messages that the node can send
pub turn_accepts : (old new : List Entry) (n n' : NodeState) (bytes : List ℕ) (s : NodeStep) (frames : List Outgoing) (b own theirs : ℕ) (flow : Flow) → NodeTurn n n' bytes s frames → new ≡ old ++ step_entries s
    → Gains (IsSaid flow n.own) (accepted old (stream_of b own theirs flow)) (accepted new (stream_of b own theirs flow))
turn_accepts old new n n' bytes s frames b own theirs Zero t is =
    let p = t.turns b in
    gain (IsSaid Zero n.own) (accepted old (stream_of b own theirs Zero)) (accepted new (stream_of b own theirs Zero)) p.messages p.turn.put.contact p.turn.put.seen own theirs (each_said n.own p.messages p.sendable)
    (accepted_grows old new s b (map (accepted_entry Zero b p.turn.put) p.messages) own theirs is p.accepted ∙ ap (λ ms. accepted old (stream_of b own theirs Zero) ++ ms) (accepted_holds b p.turn.put p.messages own theirs Zero))
turn_accepts old new n n' bytes s frames b own theirs One t is =
    no_gain (IsSaid One n.own) (accepted old (stream_of b own theirs One)) (accepted new (stream_of b own theirs One)) (accepted_one old new n s b own theirs t.placed is)
turn_accepts old new n n' bytes s frames b own theirs Broadcast t is = record {
  more = accepted (cast_told b (pair_with n b) t.cast) (stream_of b own theirs Broadcast);
  is = cast_then old new s b own theirs (cast_told b (pair_with n b) t.cast) is (t.casts b).accepted;
  all = cast_said n n' bytes s frames b own theirs t;
}

-- what was given by another node in flow Zero are messages that it can send
pub turn_delivers : (old new : List Entry) (a : ℕ) (n n' : NodeState) (bytes : List ℕ) (s : NodeStep) (frames : List Outgoing) (b own theirs : ℕ) (t : NodeTurn n n' bytes s frames) → AreBrought a n n' bytes s frames t
    → (is_some (neighbour_of n b) ≡ true → IsNumber b × (b ≢ a)) → new ≡ old ++ step_entries s
    → Gains (IsSendable (node_word b)) (delivered old (stream_of b own theirs Zero)) (delivered new (stream_of b own theirs Zero))
turn_delivers old new a n n' bytes s frames b own theirs t brings other is = case (is_some (neighbour_of n b)) refl
  where
    P : Message → Type 0
    P = IsSendable (node_word b)

    case : (known : Bool) → is_some (neighbour_of n b) ≡ known → Gains P (delivered old (stream_of b own theirs Zero)) (delivered new (stream_of b own theirs Zero))
    case false alone = no_gain P (delivered old (stream_of b own theirs Zero)) (delivered new (stream_of b own theirs Zero)) (delivered_none old new n s b own theirs Zero alone t.placed is)
    case true there =
        let p = t.turns b in
        let x = pair_with n b in
        let peer = other there in
        let given = brings b peer.0 peer.1 in
        gain P (delivered old (stream_of b own theirs Zero)) (delivered new (stream_of b own theirs Zero)) (messages_given (opened_in p.turn.first.given)) x.contact x.seen own theirs
        (given_messages (node_word b) (opened_in p.turn.first.given) given.whole given.known).sendable
        (delivered_grows old new s b (given_entries Zero b x p.turn.first.given) own theirs is p.delivered ∙ ap (λ ms. delivered old (stream_of b own theirs Zero) ++ ms) (given_holds b x p.turn.first.given own theirs Zero))

-- nothing is given in another contact than the pair has
pub delivered_apart : (old new : List Entry) (n n' : NodeState) (bytes : List ℕ) (s : NodeStep) (frames : List Outgoing) (b own theirs : ℕ) (flow : Flow) (t : NodeTurn n n' bytes s frames)
    → ((own == (pair_with n b).contact) && (theirs == (pair_with n b).seen)) ≡ false → new ≡ old ++ step_entries s → delivered new (stream_of b own theirs flow) ≡ delivered old (stream_of b own theirs flow)
delivered_apart old new n n' bytes s frames b own theirs Zero t apart is =
    let given = (t.turns b).turn.first.given in
    delivered_grows old new s b (given_entries Zero b (pair_with n b) given) own theirs is (t.turns b).delivered
    ∙ ap (λ ms. delivered old (stream_of b own theirs Zero) ++ ms) (given_apart Zero Zero b (pair_with n b) given own theirs apart) ∙ append-nil (delivered old (stream_of b own theirs Zero))
delivered_apart old new n n' bytes s frames b own theirs One t apart is = delivered_one old new n s b own theirs t.placed is
delivered_apart old new n n' bytes s frames b own theirs Broadcast t apart is = by (t.casts b).heard
  where
    none : (es : List Entry) → filter (is_cast_from b) s.inside ≡ es → delivered es (stream_of b own theirs Broadcast) ≡ [] → delivered new (stream_of b own theirs Broadcast) ≡ delivered old (stream_of b own theirs Broadcast)
    none es of_peer nothing =
        heard_then old new s b own theirs es is of_peer ∙ ap (λ ms. delivered old (stream_of b own theirs Broadcast) ++ ms) nothing ∙ append-nil (delivered old (stream_of b own theirs Broadcast))

    by : HearsCasts n n' bytes s t.deeds b (t.turns b).turn.first.course.changes → delivered new (stream_of b own theirs Broadcast) ≡ delivered old (stream_of b own theirs Broadcast)
    by (hears_none h) = none [] h.delivered (delivered_nil (stream_of b own theirs Broadcast))
    by (hears_one h) = none (given_entries Broadcast b (pair_with n b) h.given) h.delivered (given_apart Broadcast Broadcast b (pair_with n b) h.given own theirs apart)
