-- What a node has of the broadcasts of its peers was brought by frames that they sent to all, also after a turn; and each message of a broadcast
-- that a turn delivers is spelled.
use Rattle.std.specs.Prelude.{All, IfSome, not, replicate}
use Rattle.std.specs.List.{list_all}
use Rattle.std.proofs.Common.{◌≡◌, ◌+◌, ◌-◌, ◌^◌, ◌%◌, ◌∙◌, ℕ, suc, Bool, true, false, cond, if◌then◌else◌, List, [], ◌∷◌, ◌++◌, Option, Some, None, drop, length, refl, sym, ap, subst, eqb-true}
use Rattle.std.proofs.lemmas.Bool.{and_parts}
use Rattle.std.proofs.lemmas.List.{drop_at}
use Rattle.std.proofs.lemmas.List.Elements.{All-append, All-cons, All-drop, All-filter, All-head, All-nil, All-push, All-replicate, All-set, All-tail, All-weaker}
use Rattle.tipc_types.specs.Address.{node_word}
use Rattle.tipc_types.specs.declared.identity.Addr.{Addr}
use Rattle.tipc_types.specs.declared.link_words.BroadcastState.{BroadcastState}
use Rattle.tipc_types.specs.declared.link_words.Why.{Why}
use Rattle.tipc_types.specs.declared.message_forms.Flow.{Flow}
use Rattle.tipc_types.specs.declared.message_forms.Flow.TheVariants.{Broadcast}
use Rattle.tipc_types.specs.declared.message_forms.Message.{Message}
use Rattle.tipc_types.specs.declared.node_calls.EventNote.TheVariants as event
use Rattle.tipc_types.specs.declared.packet_lists.Taken.{Taken}
use Rattle.tipc_outside.specs.declared.outgoing.Outgoing.{Outgoing}
use Rattle.tipc_header.specs.declared.frames.FrameKind.TheVariants.{Casts, Finds, Links}
use Rattle.tipc_header.specs.declared.packet.Header.{Header}
use Rattle.tipc_header.specs.declared.packet.Header.TheVariants as header
use Rattle.tipc_header.specs.Frames.{envelope, first_of, kind_in, kind_of, sent_as}
use Rattle.tipc_header.specs.Reading.{fields_at}
use Rattle.tipc_header.specs.Spelling.{Fields, spelling}
use Rattle.tipc_header.proofs.Again.{again}
use Rattle.tipc_header.proofs.FrameWords.{length-envelope}
use Rattle.tipc_fragments.specs.Joining.{fresh, Joining}
use Rattle.tipc_recv_window.specs.declared.outcomes.LinkOutcome.{LinkOutcome}
use Rattle.tipc_recv_window.specs.declared.outcomes.LinkOutcome.TheVariants as outcome
use Rattle.tipc_recv_window.specs.declared.outcomes.Place.{Place}
use Rattle.tipc_recv_window.specs.declared.outcomes.Place.TheVariants as place
use Rattle.tipc_recv_window.specs.Receiving.{Receiving, filled, is_new, outcome_at, past_wanted, place_at, run_of, with_packet}
use Rattle.tipc_broadcast.specs.declared.contacts.Contact.{Contact}
use Rattle.tipc_broadcast.specs.Casting.{Casting, accepting, answered, arriving_outcome, booted, credited, hearing_outcome, informed, leaving, next_start, with_contacts}
use Rattle.tipc_broadcast.specs.Contacts.{acknowledging, as_accepted, carried, contact_with, heard, heard_outcome, is_in_step, is_with, joined, noted_in, previous_before, refusal, stepped, taken_in, told, with_changed, without}
use Rattle.tipc_broadcast.specs.Deeds.{CastDeed, after_deed, after_deeds}
use Rattle.tipc_broadcast.proofs.Deeds.{accepting_alike, answered_alike, changed_all, left_alike}
use Rattle.tipc_journal.specs.Steps.{NodeStep}
use Rattle.tipc_reassembly.specs.declared.opening.Opened.{Opened}
use Rattle.tipc_reassembly.specs.declared.opening.Opened.TheVariants.{Whole, Passed}
use Rattle.tipc_reassembly.specs.Slots.{packets_in}
use Rattle.tipc_reassembly.specs.Tracing.{IsBegunBy, IsOpenedBy, IsTraced}
use Rattle.tipc_reassembly.proofs.TraceLaws.{begun_more, begun_none, begun_weaker, opened_traced, traced_weaker}
use Rattle.tipc_link.proofs.LinkLaw.{Each}
use Rattle.tipc_link.specs.Sessions.{as_waiting, previous_waiting}
use Rattle.tipc_pair.specs.declared.changes.PairOutcome.{PairOutcome}
use Rattle.tipc_pair.specs.declared.transitions.Transition.{Transition}
use Rattle.tipc_pair.specs.declared.transitions.Transition.TheVariants.{ContactDown, ContactUp, LinkDown, LinkUp}
use Rattle.tipc_pair.specs.Held.{CameBy}
use Rattle.tipc_pair.specs.Messages.{OpensTo, opened_in}
use Rattle.tipc_pair.specs.Messages.OpensTo.{deferred, ignored, took}
use Rattle.tipc_pair.proofs.Pieces.{All-one}
use Rattle.tipc_node.specs.Casting.{contact_deeds, is_parting, state_deeds, stated_by}
use Rattle.tipc_node.specs.Messages.{in_flow, message_in_flow}
use Rattle.tipc_node.specs.declared.neighbours.Neighbour.{Neighbour}
use Rattle.tipc_node.specs.Nodes.{NodeState, acquaintance, kept, neighbour_of}
use Rattle.tipc_node.specs.Turns.CastDoing.{hears_cast, meets, parts, sends_cast}
use Rattle.tipc_node.specs.Turns.HearsCasts.{hears_none, hears_one}
use Rattle.tipc_node.specs.Turns.{CastDoing, HearsCasts, HearsOne, IsFrom, IsSent, NodeTurn, addr_of}
use Rattle.tipc_replay.specs.Causes.{Seen}
use Rattle.tipc_replay.specs.Spelled.{Brings, HasBrought, IsBy, IsSpelled}
use Rattle.tipc_replay.specs.Spelled.Brings.{itself}
use Rattle.tipc_replay.specs.Watched.{AreCastsTraced, IsHeldBy}
use Rattle.tipc_replay.proofs.casts.CastGiven.{IsCastBrought}
use Rattle.tipc_replay.proofs.journals.Stepping.{Widens, brought_wider}
use Rattle.tipc_replay.proofs.journals.TurnCasts.{AreCastSpelled, IsCastSpelled}
use Rattle.tipc_replay.proofs.journals.TurnTraced.{AreCarried, IsCarried, brought_by_now, came_weaker, sender_is}
use Rattle.tipc_replay.proofs.streams.TurnStreams.{message_is_in}

-- ---- the packet that arrives

-- payload and fragments wait on a broadcast link as they do on any other
same_before : (first : ℕ) (h : Header) (previous : ℕ) → kind_of first h ≡ Casts → previous_waiting h previous ≡ previous_before h previous
same_before first (header.Payload payload) previous is = refl
same_before first (header.Fragmenter fragment) previous is = refl
same_before first (header.Discovery discovery) previous is = absurd (let wrong : Finds ≡ Casts = is in cc)
same_before first other previous is = absurd (let wrong : Links ≡ Casts = is in cc)

same_waiting : (first second : ℕ) (bytes : List ℕ) (b : ℕ) (p : Fields) → IsFrom b bytes first second p → kind_in bytes ≡ Casts → spelling (as_waiting p) ≡ spelling (as_accepted p)
unfolding kind_in
same_waiting first second bytes b p from kind =
    let rest : drop 16 bytes ≡ spelling p = ap (drop 16) from.frame_is ∙ drop_at (envelope first second) (spelling p) 16 (length-envelope first second) in
    let same : fields_at (drop 16 bytes) ≡ p = ap fields_at rest ∙ again p from.fits in
    let its : kind_of (first_of bytes) p.header ≡ Casts = ap (λ (q : Fields). kind_of (first_of bytes) q.header) (sym same) ∙ kind in
    ap (λ k. spelling (sent_as 0 0 k p)) (same_before (first_of bytes) p.header p.previous its)

-- a broadcast packet that arrived was brought by a frame that its sender sent to all
cast_brought : (seen : Seen) (bearer number : ℕ) (bytes : List ℕ) (b first second : ℕ) (p : Fields) (peer : Addr) → IsCarried seen bearer number bytes → IsFrom b bytes first second p → kind_in bytes ≡ Casts → peer.word ≡ p.previous
    → HasBrought seen Broadcast peer number (spelling (as_accepted p))
cast_brought seen bearer number bytes b first second p peer c from kind its = record {
  bearer = bearer;
  frame = c.frame;
  arrived = c.arrived;
  from = sender_is seen bearer number bytes b first second p c from ∙ sym from.previous ∙ sym its;
  sent = c.all kind;
  es = first;
  er = second;
  packet = p;
  fits = from.fits;
  frame_is = c.bytes_are ∙ from.frame_is;
  brings = subst (Brings p) (same_waiting first second bytes b p from kind) itself;
}

-- what was brought of a peer was brought of the one of that address word
brought_of : (seen : Seen) (flow : Flow) (peer other : Addr) (by : ℕ) (bytes : List ℕ) → peer.word ≡ other.word → HasBrought seen flow peer by bytes → HasBrought seen flow other by bytes
brought_of seen flow peer other by bytes same h = record {
  bearer = h.bearer;
  frame = h.frame;
  arrived = h.arrived;
  from = h.from ∙ same;
  sent = h.sent;
  es = h.es;
  er = h.er;
  packet = h.packet;
  fits = h.fits;
  frame_is = h.frame_is;
  brings = h.brings;
}

-- ---- a receive window

run_by : (P : ℕ → List ℕ → Type 0) (held : List (Option Taken)) → All (CameBy P) held → All (λ t. P t.by t.packet) (run_of held)
run_by P [] h = All-nil (λ t. P t.by t.packet)
run_by P (None ∷ held) h = All-nil (λ t. P t.by t.packet)
run_by P (Some t ∷ held) h = All-cons (λ u. P u.by u.packet) t (run_of held) (All-head (CameBy P) (Some t) held h) (run_by P held (All-tail (CameBy P) (Some t) held h))

packet_by : (P : ℕ → List ℕ → Type 0) (r : Receiving) (t : Taken) → All (CameBy P) r.held → P t.by t.packet → All (CameBy P) (with_packet r t).held
packet_by P r t h came = by (is_new r d)
  where
    d : ℕ
    d = past_wanted r t.number

    by : (b : Bool) → All (CameBy P) (if b then record { wanted = r.wanted; held = filled r.held d t } else r).held
    by true =
        All-set (CameBy P) (r.held ++ replicate (d + 1 - length r.held) None) d (Some t) came
        (All-append (CameBy P) r.held (replicate (d + 1 - length r.held) None) h (All-replicate (CameBy P) (d + 1 - length r.held) None tt))
    by false = h

-- ---- what is held of the peers

told_held : (seen : Seen) (start next : ℕ) (c : Contact) → IsHeldBy seen c → IsHeldBy seen (told start next c)
told_held seen start next c h = noted_held (stepped start c) (stepped start c).window (step (is_in_step c)) refl
  where
    step : (b : Bool) → IsHeldBy seen (if b then c else record c { window = Some (record { wanted = start; held = [] }); shown = start })
    step true = h
    step false = All-nil (CameBy (HasBrought seen Broadcast c.peer))

    noted_held : (k : Contact) (o : Option Receiving) → IsHeldBy seen k → k.window ≡ o → IsHeldBy seen (noted_in next k o)
    noted_held k None is same = is
    noted_held k (Some r) is same = is

taken_held : (seen : Seen) (t : Taken) (c : Contact) (o : Option Receiving) → HasBrought seen Broadcast c.peer t.by t.packet → c.window ≡ o → IsHeldBy seen c → IsHeldBy seen (taken_in c t o)
taken_held seen t c None came is h = h
taken_held seen t c (Some r) came is h =
    let P = HasBrought seen Broadcast c.peer in
    let all : All (CameBy P) r.held = subst (λ o. IfSome o (λ q. All (CameBy P) q.held)) is h in
    All-drop (CameBy P) (length (run_of (with_packet r t).held)) (with_packet r t).held (packet_by P r t all came)

heard_held : (seen : Seen) (own boot members : ℕ) (t : Taken) (c : Contact) → HasBrought seen Broadcast c.peer t.by t.packet → IsHeldBy seen c → IsHeldBy seen (heard t c (refusal own boot members c))
heard_held seen own boot members t c came h = by (refusal own boot members c)
  where
    by : (o : Option Why) → IsHeldBy seen (heard t c o)
    by None = taken_held seen t c c.window came refl h
    by (Some reason) = h

changed_at : (P : Contact → Type 0) (peer : ℕ) (change : Contact → Contact) (cs : List Contact) → ((c : Contact) → c.peer.word ≡ peer → P c → P (change c)) → All P cs → All P (with_changed peer change cs)
changed_at P peer change [] keeps all = all
changed_at P peer change (c ∷ cs) keeps all = by (changed_at P peer change cs keeps (All-tail P c cs all)) (is_with peer c) refl
  where
    by : All P (with_changed peer change cs) → (b : Bool) → is_with peer c ≡ b → All P (if b then change c ∷ cs else c ∷ with_changed peer change cs)
    by later true is = All-cons P (change c) cs (keeps c (eqb-true c.peer.word peer is) (All-head P c cs all)) (All-tail P c cs all)
    by later false is = All-cons P c (with_changed peer change cs) (All-head P c cs all) later

-- a packet that a deed hears was brought by a frame that its sender sent
abbrev IsBroughtBy : Seen → CastDeed → Type 0
IsBroughtBy seen (CastDeed.hears boot members by packet) = (peer : Addr) → peer.word ≡ packet.previous → HasBrought seen Broadcast peer by (spelling (as_accepted packet))
IsBroughtBy seen other = Unit {0}

abbrev AreHeld : Seen → Casting → Type 0
AreHeld seen v = All (IsHeldBy seen) v.contacts

same_held : (seen : Seen) (u v : Casting) → u.contacts ≡ v.contacts → AreHeld seen v → AreHeld seen u
same_held seen u v same h = subst (All (IsHeldBy seen)) (sym same) h

stated_held : (seen : Seen) (v : Casting) (peer : ℕ) (s : BroadcastState) (b : Bool) → AreHeld seen v → AreHeld seen (if b then answered (informed v peer s.start s.next) peer s.acknowledged else informed v peer s.start s.next)
stated_held seen v peer s b h = by b
  where
    u : Casting
    u = informed v peer s.start s.next

    informed_so : AreHeld seen u
    informed_so = changed_all (IsHeldBy seen) peer (told s.start s.next) v.contacts (told_held seen s.start s.next) h

    by : (b : Bool) → AreHeld seen (if b then answered u peer s.acknowledged else u)
    by true =
        same_held seen (answered u peer s.acknowledged) (credited u peer s.acknowledged) (answered_alike u peer s.acknowledged).contacts
        (changed_all (IsHeldBy seen) peer (acknowledging u.sending.numbered s.acknowledged) u.contacts (λ c is. is) informed_so)
    by false = informed_so

deed_held : (seen : Seen) (d : CastDeed) (v : Casting) → IsBroughtBy seen d → AreHeld seen v → AreHeld seen (after_deed d v)
deed_held seen (CastDeed.joins peer boot) v came h = All-push (IsHeldBy seen) v.contacts (joined peer boot (next_start v)) h tt
deed_held seen (CastDeed.leaves peer) v came h =
    let u = with_contacts v (without peer v.contacts) in
    same_held seen (leaving v peer) u (left_alike (without peer v.contacts) u).contacts (All-filter (λ c. not (is_with peer c)) (IsHeldBy seen) v.contacts h)
deed_held seen (CastDeed.states peer s) v came h = stated_held seen v peer s s.in_step h
deed_held seen (CastDeed.bears bearer is_mended) v came h = h
deed_held seen (CastDeed.hears boot members by packet) v came h =
    changed_at (IsHeldBy seen) packet.previous _ v.contacts (λ c its is. heard_held seen v.own boot members (carried packet by) c (came c.peer its) is) h
deed_held seen (CastDeed.sends pieces) v came h = same_held seen (accepting v pieces) v (accepting_alike v pieces).contacts h

deeds_held : (seen : Seen) (ds : List CastDeed) (v : Casting) → All (IsBroughtBy seen) ds → AreHeld seen v → AreHeld seen (after_deeds ds v)
deeds_held seen [] v came h = h
deeds_held seen (d ∷ ds) v came h = deeds_held seen ds (after_deed d v) (All-tail (IsBroughtBy seen) d ds came) (deed_held seen d v (All-head (IsBroughtBy seen) d ds came) h)

-- ---- the deeds of a turn

contact_quiet : (seen : Seen) (b : ℕ) (changes : List Transition) → All (IsBroughtBy seen) (contact_deeds b changes)
contact_quiet seen b [] = All-nil (IsBroughtBy seen)
contact_quiet seen b (LinkUp bearer own theirs ∷ changes) = contact_quiet seen b changes
contact_quiet seen b (LinkDown bearer cause number ∷ changes) = contact_quiet seen b changes
contact_quiet seen b (ContactUp numbers ∷ changes) = All-cons (IsBroughtBy seen) (CastDeed.joins (node_word b) _) (contact_deeds b changes) tt (contact_quiet seen b changes)
contact_quiet seen b (ContactDown numbers gone number ∷ changes) = All-cons (IsBroughtBy seen) (CastDeed.leaves (node_word b)) (contact_deeds b changes) tt (contact_quiet seen b changes)

state_quiet : (seen : Seen) (b : ℕ) (stated : Option BroadcastState) → All (IsBroughtBy seen) (state_deeds b stated)
state_quiet seen b None = All-nil (IsBroughtBy seen)
state_quiet seen b (Some s) = All-one (IsBroughtBy seen) (CastDeed.states (node_word b) s) tt

parts_quiet : (seen : Seen) (ds : List CastDeed) → list_all is_parting ds ≡ true → All (IsBroughtBy seen) ds
parts_quiet seen [] is = All-nil (IsBroughtBy seen)
parts_quiet seen (d ∷ ds) is =
    let both = and_parts (is_parting d) (list_all is_parting ds) is in
    All-cons (IsBroughtBy seen) d ds (one d both.0) (parts_quiet seen ds both.1)
  where
    one : (d : CastDeed) → is_parting d ≡ true → IsBroughtBy seen d
    one (CastDeed.hears boot members by packet) parting = absurd (let wrong : false ≡ true = parting in cc)
    one other parting = tt

-- the packet that was heard was brought
one_brought : (seen : Seen) (n n' : NodeState) (bytes : List ℕ) (s : NodeStep) (deeds : List CastDeed) (b : ℕ) (h : HearsOne n n' bytes s deeds b) → AreCarried seen s bytes → (peer : Addr) → peer.word ≡ h.packet.previous
    → HasBrought seen Broadcast peer h.by (spelling (as_accepted h.packet))
one_brought seen n n' bytes s deeds b h came peer its = cast_brought seen h.bearer h.by bytes b h.first h.second h.packet peer (came h.bearer h.by h.event).1 h.from h.kind its

turn_brought : (seen : Seen) (n n' : NodeState) (bytes : List ℕ) (s : NodeStep) (frames : List Outgoing) (t : NodeTurn n n' bytes s frames) → AreCarried seen s bytes → All (IsBroughtBy seen) t.deeds
turn_brought seen n n' bytes s frames t came = by t.doing
  where
    sent : (o : Option Message) (m : Message) → o ≡ Some m → IsSent n.own t.deeds o → All (IsBroughtBy seen) t.deeds
    sent None m is h = absurd (let wrong : None ≡ Some m = is in cc)
    sent (Some k) m is h = subst (All (IsBroughtBy seen)) (sym h.1) (All-one (IsBroughtBy seen) (CastDeed.sends _) tt)

    by : CastDoing n n' bytes s t.deeds t.cast → All (IsBroughtBy seen) t.deeds
    by (parts is) = parts_quiet seen t.deeds is
    by (meets b same) =
        let changes = (t.turns b).turn.first.course.changes in
        let stated = stated_by (t.turns b).opening (t.turns b).turn.first.given in
        subst (All (IsBroughtBy seen)) (sym (t.casts b).told ∙ same) (All-append (IsBroughtBy seen) (contact_deeds b changes) (state_deeds b stated) (contact_quiet seen b changes) (state_quiet seen b stated))
    by (hears_cast b h) = subst (All (IsBroughtBy seen)) (sym h.heard) (All-one (IsBroughtBy seen) (CastDeed.hears h.first (h.second % 2 ^ 32) h.by h.packet) (one_brought seen n n' bytes s t.deeds b h came))
    by (sends_cast m is) = sent t.cast m is t.sent

-- ---- what comes of a packet

-- each packet that is taken was brought
outcome_by : (P : ℕ → List ℕ → Type 0) (at : Place) (due taken : List Taken) → All (λ t. P t.by t.packet) due → outcome_at at due ≡ outcome.Took taken → All (λ t. P t.by t.packet) taken
outcome_by P place.InOrder due taken h is = (let same : due ≡ taken = cc in subst (All (λ t. P t.by t.packet)) same h)
outcome_by P place.Deferred due taken h is = absurd (let wrong : outcome.Deferred ≡ outcome.Took taken = is in cc)
outcome_by P place.Old due taken h is = absurd (let wrong : outcome.Ignored _ ≡ outcome.Took taken = is in cc)

-- the contact with a peer is held as it stands in the list
found_held : (P : Contact → Type 0) (w : ℕ) (cs : List Contact) (c : Contact) → contact_with w cs ≡ Some c → All P cs → P c × (c.peer.word ≡ w)
found_held P w [] c is all = absurd (let wrong : None ≡ Some c = is in cc)
found_held P w (x ∷ xs) c is all = by (λ same. found_held P w xs c same (All-tail P x xs all)) (is_with w x) refl is
  where
    by : (contact_with w xs ≡ Some c → P c × (c.peer.word ≡ w)) → (t : Bool) → is_with w x ≡ t → cond t (Some x) (contact_with w xs) ≡ Some c → P c × (c.peer.word ≡ w)
    by later true its same = (let one : x ≡ c = cc in (subst P one (All-head P x xs all), ap (λ (k : Contact). k.peer.word) (sym one) ∙ eqb-true x.peer.word w its))
    by later false its same = later same

taken_by : (seen : Seen) (v : Casting) (boot members : ℕ) (p : Fields) (by b : ℕ) (taken : List Taken) → AreHeld seen v → p.previous ≡ node_word b
    → ((peer : Addr) → peer.word ≡ p.previous → HasBrought seen Broadcast peer by (spelling (as_accepted p))) → arriving_outcome v boot members p by ≡ outcome.Took taken
    → All (λ t. HasBrought seen Broadcast (addr_of b) t.by t.packet) taken
taken_by seen v boot members p by b taken h its came is = case (contact_with p.previous v.contacts) refl is
  where
    P : ℕ → List ℕ → Type 0
    P = HasBrought seen Broadcast (addr_of b)

    t : Taken
    t = carried p by

    window : (c : Contact) → c.peer.word ≡ p.previous → (o : Option Receiving) → IfSome o (λ r. All (CameBy (HasBrought seen Broadcast c.peer)) r.held) → heard_outcome t (record c { window = o }) None ≡ outcome.Took taken
        → All (λ u. P u.by u.packet) taken
    window c word None held out = absurd (let wrong : outcome.Ignored _ ≡ outcome.Took taken = out in cc)
    window c word (Some r) held out =
        let all : All (CameBy P) r.held = All-weaker (CameBy (HasBrought seen Broadcast c.peer)) (CameBy P)
        (came_weaker (HasBrought seen Broadcast c.peer) P (λ k bytes x. brought_of seen Broadcast c.peer (addr_of b) k bytes (word ∙ its) x)) r.held held in
        outcome_by P (place_at r (past_wanted r t.number)) (run_of (with_packet r t).held) taken (run_by P (with_packet r t).held (packet_by P r t all (came (addr_of b) (sym its)))) out

    refused : (c : Contact) (o : Option Why) → c.peer.word ≡ p.previous → IsHeldBy seen c → heard_outcome t c o ≡ outcome.Took taken → All (λ u. P u.by u.packet) taken
    refused c (Some reason) word held out = absurd (let wrong : outcome.Ignored reason ≡ outcome.Took taken = out in cc)
    refused c None word held out = window c word c.window held out

    case : (o : Option Contact) → contact_with p.previous v.contacts ≡ o → hearing_outcome v boot members t o ≡ outcome.Took taken → All (λ u. P u.by u.packet) taken
    case None none out = absurd (let wrong : outcome.Ignored _ ≡ outcome.Took taken = out in cc)
    case (Some c) there out = let found = found_held (IsHeldBy seen) p.previous v.contacts c there h in refused c (refusal v.own boot members c) found.1 found.0 out

-- what is begun then was brought, and so was all that was opened
record OpenedBy (P : ℕ → List ℕ → Type 0) (given : PairOutcome) (last : Joining) : Type 0 where
  begun : IsBegunBy P last
  opened : All (IsOpenedBy P) (opened_in given)

opens_by : (P : ℕ → List ℕ → Type 0) (begun last : Joining) (o : LinkOutcome) (given : PairOutcome) → OpensTo begun o given last → IsBegunBy P begun → ((taken : List Taken) → o ≡ outcome.Took taken → All (λ t. P t.by t.packet) taken)
    → OpenedBy P given last
opens_by P begun last _ _ (took {taken} {opened} brings) h came =
    record { begun = begun_more P begun taken opened last brings h (came taken refl); opened = opened_traced P begun taken opened last brings h (came taken refl) }
opens_by P begun _ _ _ deferred h came = record { begun = h; opened = All-nil (IsOpenedBy P) }
opens_by P begun _ _ _ ignored h came = record { begun = h; opened = All-nil (IsOpenedBy P) }

heard_by : (seen : Seen) (n n' : NodeState) (bytes : List ℕ) (s : NodeStep) (deeds : List CastDeed) (b : ℕ) → AreCastsTraced seen n → AreCarried seen s bytes → (h : HearsOne n n' bytes s deeds b)
    → OpenedBy (HasBrought seen Broadcast (addr_of b)) h.given (kept n' b).casts
heard_by seen n n' bytes s deeds b traced came h =
    opens_by (HasBrought seen Broadcast (addr_of b)) (kept n b).casts (kept n' b).casts (arriving_outcome n.casting h.first (h.second % 2 ^ 32) h.packet h.by) h.given h.opens (traced.begun b)
    (λ taken is. taken_by seen n.casting h.first (h.second % 2 ^ 32) h.packet h.by b taken traced.held h.from.previous (one_brought seen n n' bytes s deeds b h came) is)

-- ---- a turn

begun_after : (P : ℕ → List ℕ → Type 0) (joining : Joining) (t : Bool) → IsBegunBy P joining → IsBegunBy P (if t then fresh else joining)
begun_after P joining true h = begun_none P
begun_after P joining false h = h

pub turn_casts_traced : (seen : Seen) (n n' : NodeState) (bytes : List ℕ) (s : NodeStep) (frames : List Outgoing) (t : NodeTurn n n' bytes s frames) → AreCastsTraced seen n → AreCarried seen s bytes → AreCastsTraced seen n'
turn_casts_traced seen n n' bytes s frames t traced came = record {
  held = subst (AreHeld seen) (sym t.casting) (deeds_held seen t.deeds n.casting (turn_brought seen n n' bytes s frames t came) traced.held);
  begun = λ b. by b (t.casts b).heard;
}
  where
    by : (b : ℕ) → HearsCasts n n' bytes s t.deeds b (t.turns b).turn.first.course.changes → IsBegunBy (HasBrought seen Broadcast (addr_of b)) (kept n' b).casts
    by b (hears_none h) = subst (IsBegunBy (HasBrought seen Broadcast (addr_of b))) (sym h.begun) (begun_after (HasBrought seen Broadcast (addr_of b)) (kept n b).casts _ (traced.begun b))
    by b (hears_one h) = (heard_by seen n n' bytes s t.deeds b traced came h).begun

-- the messages that a broadcast gave are spelled
given_cast_spelled : (seen : Seen) (s : NodeStep) (q bearer number : ℕ) (opened : List Opened) → s.event ≡ event.Arrive bearer number → length seen.arrivals ≡ number + 1
    → All (IsOpenedBy (HasBrought seen Broadcast (addr_of q))) opened → Each (IsCastBrought (node_word q)) (packets_in opened) → All (IsCastSpelled seen s q) opened
given_cast_spelled seen s q bearer number [] is size traced known = All-nil (IsCastSpelled seen s q)
given_cast_spelled seen s q bearer number (Whole packet by ∷ os) is size traced known =
    let P = HasBrought seen Broadcast (addr_of q) in
    let first = known 0 packet refl in
    let one : IsCastSpelled seen s q (Whole packet by) = λ m has.
    let reads : message_in_flow Broadcast packet ≡ Some first.0 = ap (in_flow Broadcast) (message_is_in (node_word q) first.0 packet first.1.sendable first.2) ∙ first.1.stays in
    let same : first.0 ≡ m = (let e : Some first.0 ≡ Some m = sym reads ∙ has in cc) in
    subst (λ k. IsSpelled seen s Broadcast (addr_of q) k by) same
    (subst (λ bs. IsTraced (λ n b. P n b × IsBy s n) bs by) (sym first.2) (traced_weaker P (λ n b. P n b × IsBy s n) (brought_by_now seen s Broadcast (addr_of q) bearer number is size) packet by (All-head (IsOpenedBy P) (Whole packet by) os traced))) in
    All-cons (IsCastSpelled seen s q) (Whole packet by) os one
    (given_cast_spelled seen s q bearer number os is size (All-tail (IsOpenedBy P) (Whole packet by) os traced) (λ k p there. known (suc k) p there))
given_cast_spelled seen s q bearer number (Passed place ∷ os) is size traced known =
    All-cons (IsCastSpelled seen s q) (Passed place) os tt (given_cast_spelled seen s q bearer number os is size (All-tail (IsOpenedBy (HasBrought seen Broadcast (addr_of q))) (Passed place) os traced) known)

-- what was given of broadcasts in a turn are packets of messages that were cast
abbrev pub AreCastsBrought : (n n' : NodeState) (bytes : List ℕ) (s : NodeStep) (frames : List Outgoing) → NodeTurn n n' bytes s frames → Type 0
AreCastsBrought n n' bytes s frames t = (b : ℕ) (h : HearsOne n n' bytes s t.deeds b) → Each (IsCastBrought (node_word b)) (packets_in (opened_in h.given))

pub turn_casts_spelled : (seen : Seen) (n n' : NodeState) (bytes : List ℕ) (s : NodeStep) (frames : List Outgoing) (t : NodeTurn n n' bytes s frames) → AreCastsTraced seen n → AreCarried seen s bytes → AreCastsBrought n n' bytes s frames t
    → AreCastSpelled seen n n' bytes s frames t
turn_casts_spelled seen n n' bytes s frames t traced came known b h =
    given_cast_spelled seen s b h.bearer h.by (opened_in h.given) h.event (came h.bearer h.by h.event).2 (heard_by seen n n' bytes s t.deeds b traced came h).opened (known b h)

-- ---- the air and the arrivals grow

held_wider : (old new : Seen) → Widens old new → (c : Contact) → IsHeldBy old c → IsHeldBy new c
held_wider old new w c h = by c.window h
  where
    by : (o : Option Receiving) → IfSome o (λ r. All (CameBy (HasBrought old Broadcast c.peer)) r.held) → IfSome o (λ r. All (CameBy (HasBrought new Broadcast c.peer)) r.held)
    by None held = tt
    by (Some r) held =
        All-weaker (CameBy (HasBrought old Broadcast c.peer)) (CameBy (HasBrought new Broadcast c.peer))
        (came_weaker (HasBrought old Broadcast c.peer) (HasBrought new Broadcast c.peer) (λ k bytes x. brought_wider old new Broadcast c.peer k bytes w x)) r.held held

pub casts_traced_wider : (old new : Seen) (n : NodeState) → Widens old new → AreCastsTraced old n → AreCastsTraced new n
casts_traced_wider old new n w h = record {
  held = All-weaker (IsHeldBy old) (IsHeldBy new) (held_wider old new w) n.casting.contacts h.held;
  begun = λ b. begun_weaker (HasBrought old Broadcast (addr_of b)) (HasBrought new Broadcast (addr_of b)) (λ k bytes x. brought_wider old new Broadcast (addr_of b) k bytes w x) (kept n b).casts (h.begun b);
}

-- ---- a boot begins

-- a node that has joined nobody has nothing of a broadcast
pub fresh_casts_traced : (seen : Seen) (n : NodeState) (own boot : ℕ) → n.casting ≡ booted own boot → ((peer : ℕ) → neighbour_of n peer ≡ None) → AreCastsTraced seen n
fresh_casts_traced seen n own boot none alone = record {
  held = subst (AreHeld seen) (sym none) (All-nil (IsHeldBy seen));
  begun = λ b. subst (λ (x : Neighbour). IsBegunBy (HasBrought seen Broadcast (addr_of b)) x.casts) (sym (ap (acquaintance n b) (alone b))) (begun_none (HasBrought seen Broadcast (addr_of b)));
}
