-- What the events of a calm call add to the journals: nothing of links and contacts, and what is delivered is so in the
-- contact in which the node was.
use Rattle.std.specs.Prelude.{cond, count_by, fold, is_some, option_and_then}
use Rattle.std.proofs.Common.{◌≡◌, ◌∙◌, ℕ, true, false, List, [], ◌∷◌, ◌++◌, Option, Some, None, length, slice_get, slice_index_or, append_assoc, append-nil, inl, inr, refl, sym, ap, arith}
use Rattle.std.proofs.lemmas.List.Sums.{fold-append, sum_by-append, sum_by-cons}
use Rattle.tipc_types.specs.declared.identity.Addr.{Addr}
use Rattle.tipc_types.specs.declared.node_calls.Answer.{Answer}
use Rattle.tipc_types.specs.declared.node_calls.By.{By}
use Rattle.tipc_types.specs.declared.node_calls.EventNote.{EventNote}
use Rattle.tipc_types.specs.declared.node_calls.EventNote.TheVariants as note
use Rattle.tipc_outside.specs.declared.outgoing.Outgoing.{Outgoing}
use Rattle.tipc_journal.specs.declared.entries.Entry.{Entry}
use Rattle.tipc_journal.specs.declared.entries.Entry.TheVariants as entry
use Rattle.tipc_journal.specs.Contacts.{contact, contact_after}
use Rattle.tipc_journal.specs.Steps.{NodeStep, PlacedStep, step_entries, steps}
use Rattle.tipc_journal.proofs.StepLaws.{steps_more}
use Rattle.tipc_link.proofs.LinkLaw.{Each, Each-append, Each-none, Each-one}
use Rattle.tipc_pair.specs.Facing.{contact_between}
use Rattle.tipc_node.specs.Calls.{CallTurn}
use Rattle.tipc_node.specs.Nodes.{NodeState, is_change, neighbour_of, step_of}
use Rattle.tipc_node.specs.Turns.{IsPlaced, addr_of}
use Rattle.tipc_settling.specs.Loads.{IsCalm}
use Rattle.tipc_replay.specs.declared.events.WorldEvent.TheVariants.{Arrive, Call}
use Rattle.tipc_replay.specs.Causes.{Seen}
use Rattle.tipc_replay.specs.Lawful.{IsLawfulEntry, after}
use Rattle.tipc_replay.specs.Sound.{IsNumber}
use Rattle.tipc_replay.specs.States.{MemberState, contact_at}
use Rattle.tipc_replay.proofs.InLists.{all_at}
use Rattle.tipc_replay.proofs.LookUps.{member_at-is, pair_at-is}
use Rattle.tipc_replay.proofs.journals.Kept.{get_last}
use Rattle.tipc_world.specs.declared.places.Places.{Places}
use Rattle.tipc_world.specs.CalmWorlds.{IsCalmWorld}
use Rattle.tipc_world.specs.Poised.{IsPoised}
use Rattle.tipc_world.specs.RoundParts.{EachNode, IsKept, MoreRounds}
use Rattle.tipc_world.specs.Settling.{Rounds}
use Rattle.tipc_world.specs.States.{WorldState}
use Rattle.tipc_world.proofs.rounds.AnyPeer.{tick_is_calm, which_peer}
use Rattle.tipc_world.proofs.rounds.CalmWalk.{CalmArrivalsKeep, CalmTicksKeep, round_keeps}
use Rattle.tipc_world.proofs.rounds.HeardWorlds.{call_stays_calm}
use Rattle.tipc_world.proofs.rounds.Keeping.{answered_kept, here_is, nodes_keep}
use Rattle.tipc_world.proofs.rounds.Measuring.{each_arrival_calm}
use Rattle.tipc_world.proofs.rounds.PoisedAgain.{contacts_stay}
use Rattle.tipc_world.proofs.rounds.Releasing.{more_keep}
use Rattle.tipc_world.proofs.rounds.StreamWeights.{Contacts, IsInContact}
use Rattle.tipc_world.proofs.rounds.Windows.{more_whole}

-- a node recorded more since a moment, in the same boot; what it delivered in that is of the contacts that it had then
pub record RecordsMore (base : WorldState) (n : ℕ) (m : MemberState) : Type 0 where
  pub earlier : MemberState
  pub was : slice_index_or base.members n None ≡ Some earlier
  pub added : List Entry
  pub past : m.past ≡ earlier.past
  pub journal : m.node.journal ≡ earlier.node.journal ++ added
  pub in_contact : Each (IsInContact (contact_at base.members n)) added

-- ---- entries that tell of no contact

-- what counts an entry that tells of a link or a contact
counted_change : Entry → ℕ
counted_change e = cond (is_change e) 1 0

quiet_fold : (p : Addr) (z : Option (ℕ × ℕ)) (es : List Entry) → count_by is_change es ≡ 0 → fold (contact_after p) z es ≡ z
unfolding counted_change
quiet_fold p z [] none = refl
quiet_fold p z (e ∷ es) none = (let all = sum_by-cons counted_change e es in by e (omega (arith, none, all)) (quiet_fold p z es (omega (arith, none, all))))
  where
    by : (x : Entry) → counted_change x ≡ 0 → fold (contact_after p) z es ≡ z → fold (contact_after p) z (x ∷ es) ≡ z
    by (entry.LinkUp peer bearer own theirs) first others = absurd (omega (arith, first))
    by (entry.LinkDown peer bearer cause shown) first others = absurd (omega (arith, first))
    by (entry.ContactUp peer numbers) first others = absurd (omega (arith, first))
    by (entry.ContactDown peer numbers states shown) first others = absurd (omega (arith, first))
    by other first others = others

-- a calm step leaves the contacts that the journal tells
calm_contact : (n n' : NodeState) (s : NodeStep) (p : Addr) → n'.journal ≡ n.journal ++ step_entries s → IsCalm n n' → contact (n.journal ++ step_entries s) p ≡ contact n.journal p
unfolding contact counted_change
calm_contact n n' s p grew calm =
    let many = ap (count_by is_change) grew in
    let both = sum_by-append counted_change n.journal (step_entries s) in
    fold-append (contact_after p) None n.journal (step_entries s) ∙ quiet_fold p (contact n.journal p) (step_entries s) (omega (arith, many, both, calm))

-- ---- a step

-- an entry inside a lawful step of a calm node
inside_one : (contacts : Contacts) (n : NodeState) (seen : Seen) (earlier : List PlacedStep) (s : PlacedStep) → ((b : ℕ) → is_some (neighbour_of n b) ≡ true → IsNumber b)
    → ((b : ℕ) (numbers : ℕ × ℕ) → contact (after s) (addr_of b) ≡ Some numbers → contacts b ≡ Some numbers) → (e : Entry) → IsLawfulEntry seen earlier s e → IsPlaced n e → IsInContact contacts e
inside_one contacts n seen earlier s numbered present (entry.Delivered peer numbers flow message by) lawful ((b, there, peer_is), flow_is) =
    (b, numbered b there, peer_is, present b numbers (sym (ap (contact (after s)) peer_is) ∙ lawful.0))
inside_one contacts n seen earlier s numbered present other lawful placed = tt

-- one more step of a calm world
one_more_step : (start base old new : WorldState) (n : ℕ) (m m' : MemberState) (by : By) (event : EventNote) (bytes : List ℕ) (answered : Answer) (frames : List Outgoing)
    → IsKept start → IsPoised start → IsCalmWorld start base → IsCalmWorld start old → IsKept new → slice_index_or old.members n None ≡ Some m → slice_index_or new.members n None ≡ Some m'
    → CallTurn m.node m'.node by event bytes answered frames → IsCalm m.node m'.node → m'.past ≡ m.past → RecordsMore base n m → RecordsMore base n m'
unfolding contact_at
one_more_step start base old new n m m' by event bytes answered frames kept poised at_base at_old kept_new was is t calm past so =
    let s = step_of by event t.inside answered in
    let placed : PlacedStep = record { before = m.node.journal; step = s } in
    let grew : m'.node.journal ≡ m.node.journal ++ step_entries s = t.turn.journal in
    let made = steps m.node.journal in
    let lawful = (kept_new.nodes.watched n m' is).lawful (length m'.past) m'.node.journal (get_last m'.past m'.node.journal) in
    let last : slice_get (steps m'.node.journal) (length made) ≡ Some placed =
    ap (λ j. slice_get (steps j) (length made)) grew ∙ (ap (λ ss. slice_get ss (length made)) (steps_more m.node.journal s t.told_before.whole t.turn.inside) ∙ get_last made placed) in
    let step = lawful.steps_are (length made) placed last in
    let present : (b : ℕ) (numbers : ℕ × ℕ) → contact (after placed) (addr_of b) ≡ Some numbers → contact_at base.members n b ≡ Some numbers = λ b numbers now.
    contacts_stay start base n b kept poised at_base ∙ (sym (contacts_stay start old n b kept poised at_old)
    ∙ (contact_told b ∙ (sym (calm_contact m.node m'.node s (addr_of b) grew calm) ∙ now))) in
    let inside : Each (IsInContact (contact_at base.members n)) t.inside = λ k e at.
    inside_one (contact_at base.members n) m.node _ _ placed (λ b there. number_of b there) present e (step.entries k e at) (all_at (IsPlaced m.node) t.inside k e t.turn.placed at) in
    let around = Each-append (IsInContact (contact_at base.members n)) (entry.Step by event ∷ []) (t.inside ++ entry.Answered by.caller by.call answered ∷ []) (Each-one (IsInContact (contact_at base.members n)) (entry.Step by event) tt)
    (Each-append (IsInContact (contact_at base.members n)) t.inside (entry.Answered by.caller by.call answered ∷ []) inside (Each-one (IsInContact (contact_at base.members n)) (entry.Answered by.caller by.call answered) tt)) in
    record {
      earlier = so.earlier;
      was = so.was;
      added = so.added ++ step_entries s;
      past = past ∙ so.past;
      journal = grew ∙ (ap (λ es. es ++ step_entries s) so.journal ∙ append_assoc so.earlier.node.journal so.added (step_entries s));
      in_contact = Each-append (IsInContact (contact_at base.members n)) so.added (step_entries s) so.in_contact around;
    }
  where
    -- the contact that the node's journal tells
    contact_told : (b : ℕ) → contact_at old.members n b ≡ contact m.node.journal (addr_of b)
    contact_told b = ap (option_and_then contact_between) (pair_at-is old.members n b m (member_at-is old.members n m was)) ∙ sym (t.told_before.links b).contact_is

    number_of : (b : ℕ) → is_some (neighbour_of m.node b) ≡ true → IsNumber b
    number_of b there = elim (which_peer old n b m (at_old.on.kept kept) was) [
      | inl number ↦ number.0
      | inr none ↦ absurd (let wrong : false ≡ true = sym (ap is_some none) ∙ there in cc)
    ]

-- ---- through the rounds

ticks_record : (start base : WorldState) → IsKept start → IsPoised start → IsCalmWorld start base → CalmTicksKeep start (EachNode (RecordsMore base))
ticks_record start base kept poised at_base old new node answered h g heard all =
    let kept_old = g.on.kept kept in
    let kept_new = answered_kept old new (Call node note.Tick) answered (ap is_some h.was, tt) tt h.happened kept_old in
    nodes_keep (RecordsMore base) old new (Call node note.Tick) [] answered h
    (one_more_step start base old new node h.before h.after _ note.Tick [] _ h.frames kept poised at_base g kept_new h.was (here_is old new (Call node note.Tick) [] answered h) h.does.turn
    (tick_is_calm start old new node answered h kept_old g heard) (ap (λ (m : MemberState). m.past) h.does.after)) all

arrivals_record : (start base : WorldState) → IsKept start → IsPoised start → IsCalmWorld start base → CalmArrivalsKeep start (EachNode (RecordsMore base))
arrivals_record start base kept poised at_base old new a g said all =
    let h = a.arrives in
    let event = Arrive a.node a.bearer a.place in
    let kept_new = answered_kept old new event a.answered (ap is_some h.was, a.on_one) tt h.happened (g.on.kept kept) in
    nodes_keep (RecordsMore base) old new event a.frame.frame a.answered h
    (one_more_step start base old new a.node h.before h.after _ (note.Arrive a.bearer (length h.before.arrivals)) a.frame.frame _ h.frames kept poised at_base g kept_new h.was (here_is old new event a.frame.frame a.answered h) h.does.turn
    (each_arrival_calm start kept poised old new a g said) (ap (λ (m : MemberState). m.past) h.does.after)) all

same_record : (base : WorldState) (n : ℕ) (m : MemberState) → slice_index_or base.members n None ≡ Some m → RecordsMore base n m
same_record base n m there = record { earlier = m; was = there; added = []; past = refl; journal = sym (append-nil m.node.journal); in_contact = Each-none (IsInContact (contact_at base.members n)) }

-- from any boundary of a call on
pub rounds_record : (start : WorldState) (done : ℕ) (places : Places) (outset : WorldState) (rounds : ℕ) (ends : Places) (now : WorldState) → IsKept start → IsPoised start → Rounds start done places outset → MoreRounds done places outset rounds ends now → now.lost ≡ false
    → EachNode (RecordsMore outset) now
rounds_record start done places outset rounds ends now kept poised front rest whole =
    let clear = more_whole done places outset rounds ends now rest whole in
    let calm = (call_stays_calm start done places outset kept poised front clear).calm in
    (more_keep start (λ n at w. EachNode (RecordsMore outset) w) done places outset rounds ends now front
    (λ n at before next after from so_far round still h.
    round_keeps start (EachNode (RecordsMore outset)) n at before next after kept poised (ticks_record start outset kept poised calm) (arrivals_record start outset kept poised calm) so_far round still h)
    rest whole (same_record outset)).1
