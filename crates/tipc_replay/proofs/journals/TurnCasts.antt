-- What a turn tells of broadcasts is lawful: a message was accepted for a peer in the contact in which the node is, and one that was delivered is
-- spelled by its arrivals.
use Rattle.std.specs.Prelude.{All}
use Rattle.std.specs.List.{filter, flat_map}
use Rattle.std.proofs.Common.{◌≡◌, ◌^◌, ◌%◌, ◌/◌, ◌∙◌, ℕ, Bool, true, false, List, [], ◌∷◌, ◌++◌, Option, Some, None, fold, is_some, option_map, option_to_list, refl, sym, ap, subst}
use Rattle.std.proofs.lemmas.List.Elements.{All-head, All-tail}
use Rattle.tipc_types.specs.Address.{node_word}
use Rattle.tipc_types.specs.declared.message_forms.Flow.TheVariants.{Broadcast}
use Rattle.tipc_types.specs.declared.message_forms.Message.{Message}
use Rattle.tipc_outside.specs.declared.outgoing.Outgoing.{Outgoing}
use Rattle.tipc_header.specs.Spelling.{Fields}
use Rattle.tipc_fragments.specs.Joining.{Joining}
use Rattle.tipc_recv_window.specs.declared.outcomes.LinkOutcome.{LinkOutcome}
use Rattle.tipc_recv_window.specs.declared.outcomes.LinkOutcome.TheVariants as outcome
use Rattle.tipc_types.specs.declared.packet_lists.Taken.{Taken}
use Rattle.tipc_broadcast.specs.declared.contacts.Contact.{Contact}
use Rattle.tipc_broadcast.specs.Casting.{Casting, arriving_outcome, hearing_outcome}
use Rattle.tipc_broadcast.specs.Contacts.{carried, contact_with}
use Rattle.tipc_broadcast.specs.Deeds.{CastDeed, boot_with, is_deed_with}
use Rattle.tipc_journal.specs.declared.entries.Entry.{Entry}
use Rattle.tipc_journal.specs.declared.entries.Entry.TheVariants as entry
use Rattle.tipc_journal.specs.Contacts.{contact}
use Rattle.tipc_journal.specs.Steps.{step_entries, NodeStep, PlacedStep}
use Rattle.tipc_reassembly.specs.declared.opening.Opened.{Opened}
use Rattle.tipc_reassembly.specs.declared.opening.Opened.TheVariants.{Whole, Passed}
use Rattle.tipc_link.proofs.LinkLaw.{Each, Each-append}
use Rattle.tipc_pair.specs.declared.changes.PairOutcome.{PairOutcome}
use Rattle.tipc_pair.specs.declared.transitions.Transition.{Transition}
use Rattle.tipc_pair.specs.declared.transitions.Transition.TheVariants.{ContactDown, ContactUp, LinkDown, LinkUp}
use Rattle.tipc_pair.specs.Facing.{PairEnds, contact_between, in_contact}
use Rattle.tipc_pair.specs.Messages.{OpensTo, opened_in}
use Rattle.tipc_pair.specs.Messages.OpensTo.{deferred, ignored, took}
use Rattle.tipc_pair.proofs.turns.Moves.{contact_by, contact_gone, contact_there}
use Rattle.tipc_pair.proofs.turns.TurnMoves.{turn_moves}
use Rattle.tipc_node.specs.Casting.{contact_deeds, met_boot, state_deeds, stated_by}
use Rattle.tipc_node.specs.Messages.{message_in_flow}
use Rattle.tipc_node.specs.Nodes.{NodeState, pair_with, shown_contact}
use Rattle.tipc_node.specs.Telling.{IsTold, TellsOf}
use Rattle.tipc_node.specs.Turns.HearsCasts.{hears_none, hears_one}
use Rattle.tipc_node.specs.Turns.{HaveJoined, HearsCasts, HearsOne, IsSent, NodeTurn, addr_of, cast_told, delivered_entries, delivered_of, is_cast_for, is_cast_from}
use Rattle.tipc_node.proofs.pairs.Strangers.{kept_abreast}
use Rattle.tipc_replay.specs.Causes.{Seen}
use Rattle.tipc_replay.specs.Lawful.{after, IsLawfulEntry}
use Rattle.tipc_replay.specs.Spelled.{IsSpelled}
use Rattle.tipc_replay.proofs.journals.TurnMessages.{none_lawful, one_lawful}

-- ---- what is spelled

-- the message of what was given of a broadcast is spelled
abbrev pub IsCastSpelled : Seen → NodeStep → ℕ → Opened → Type 0
IsCastSpelled seen s q (Whole packet by) = (m : Message) → message_in_flow Broadcast packet ≡ Some m → IsSpelled seen s Broadcast (addr_of q) m by
IsCastSpelled seen s q (Passed place) = Unit {0}

-- so is all that was given of the broadcast of a node in a turn
abbrev pub AreCastSpelled : (seen : Seen) (n n' : NodeState) (bytes : List ℕ) (s : NodeStep) (frames : List Outgoing) → NodeTurn n n' bytes s frames → Type 0
AreCastSpelled seen n n' bytes s frames t = (b : ℕ) (h : HearsOne n n' bytes s t.deeds b) → All (IsCastSpelled seen s b) (opened_in h.given)

-- ---- the contact

-- changes that make nothing of the broadcast link leave it
no_deeds : (b : ℕ) (changes : List Transition) (z : Option (ℕ × ℕ)) → contact_deeds b changes ≡ [] → fold contact_by z changes ≡ z
no_deeds b [] z none = refl
no_deeds b (LinkUp bearer own theirs ∷ changes) z none = no_deeds b changes z none
no_deeds b (LinkDown bearer cause number ∷ changes) z none = no_deeds b changes z none
no_deeds b (ContactUp numbers ∷ changes) z none = absurd (let wrong : CastDeed.joins (node_word b) _ ∷ contact_deeds b changes ≡ [] = none in cc)
no_deeds b (ContactDown numbers gone number ∷ changes) z none = absurd (let wrong : CastDeed.leaves (node_word b) ∷ contact_deeds b changes ≡ [] = none in cc)

front_none : (xs ys : List CastDeed) → xs ++ ys ≡ [] → xs ≡ []
front_none [] ys none = refl
front_none (x ∷ xs) ys none = absurd (let wrong : x ∷ (xs ++ ys) ≡ [] = none in cc)

-- where nothing is done with a peer at the broadcast link, the contact with it stays
same_contact : (n n' : NodeState) (bytes : List ℕ) (s : NodeStep) (frames : List Outgoing) (b : ℕ) (t : NodeTurn n n' bytes s frames) → IsTold n → filter (is_deed_with (node_word b)) t.deeds ≡ []
    → contact_between (pair_with n' b) ≡ contact_between (pair_with n b)
same_contact n n' bytes s frames b t told none =
    let at = t.turns b in
    let changes = at.turn.first.course.changes in
    let moves = turn_moves (pair_with n b) (pair_with n' b) at.opening _ at.reply at.own_frames (kept_abreast n b told) at.anew at.turn in
    moves.tells.contact
    ∙ no_deeds b changes (contact_between (pair_with n b)) (front_none (contact_deeds b changes) (state_deeds b (stated_by at.opening at.turn.first.given)) (sym (t.casts b).told ∙ none))

-- ---- what was accepted

cast_accepted : (seen : Seen) (earlier : List PlacedStep) (n n' : NodeState) (bytes : List ℕ) (s : NodeStep) (frames : List Outgoing) (b : ℕ) (t : NodeTurn n n' bytes s frames) → IsTold n
    → TellsOf (n.journal ++ step_entries s) b (Some (pair_with n' b)) → Each (IsLawfulEntry seen earlier (record { before = n.journal; step = s })) (filter (is_cast_for b) s.inside)
cast_accepted seen earlier n n' bytes s frames b t told later = subst (Each P) (sym (t.casts b).accepted) (by t.cast t.sent)
  where
    P : Entry → Type 0
    P = IsLawfulEntry seen earlier (record { before = n.journal; step = s })

    x : PairEnds
    x = pair_with n b

    met : (m : Message) (o : Option (ℕ × ℕ)) → contact (n.journal ++ step_entries s) (addr_of b) ≡ o → Each P (option_to_list (option_map (λ numbers. entry.Accepted (addr_of b) numbers Broadcast m) o))
    met m None is = none_lawful P
    met m (Some numbers) is = one_lawful P (entry.Accepted (addr_of b) numbers Broadcast m) is

    by : (o : Option Message) → IsSent n.own t.deeds o → Each P (cast_told b x o)
    by None sent = none_lawful P
    by (Some m) sent = met m (contact_between x) (later.contact_is ∙ same_contact n n' bytes s frames b t told (ap (filter (is_deed_with (node_word b))) sent.1))

-- ---- what was delivered

-- something was given only where packets were taken
opens_taken : (begun last : Joining) (o : LinkOutcome) (given : PairOutcome) → OpensTo begun o given last → (first : Opened) (os : List Opened) → opened_in given ≡ first ∷ os → (taken : List Taken) × (o ≡ outcome.Took taken)
opens_taken begun last _ _ (took {taken} brings) first os is = (taken, refl)
opens_taken begun last _ _ deferred first os is = absurd (let wrong : [] ≡ first ∷ os = is in cc)
opens_taken begun last _ _ ignored first os is = absurd (let wrong : [] ≡ first ∷ os = is in cc)

-- and that only of a peer in contact
taken_joined : (v : Casting) (boot members : ℕ) (p : Fields) (by : ℕ) (taken : List Taken) → arriving_outcome v boot members p by ≡ outcome.Took taken → is_some (boot_with p.previous v) ≡ true
taken_joined v boot members p by taken is = case (contact_with p.previous v.contacts) is
  where
    case : (o : Option Contact) → hearing_outcome v boot members (carried p by) o ≡ outcome.Took taken → is_some (option_map (λ (c : Contact). c.boot) o) ≡ true
    case None out = absurd (let wrong : outcome.Ignored _ ≡ outcome.Took taken = out in cc)
    case (Some c) out = refl

met_shown : (x : PairEnds) → is_some (met_boot x) ≡ true → contact_between x ≡ Some (shown_contact x)
met_shown x some = case (in_contact x) refl
  where
    case : (t : Bool) → in_contact x ≡ t → contact_between x ≡ Some (shown_contact x)
    case true is = contact_there x is
    case false is = absurd (let wrong : false ≡ true = sym (ap (λ (z : Option (ℕ × ℕ)). is_some (option_map (λ (c : ℕ × ℕ). c.1 / 4294967296) z)) (contact_gone x is)) ∙ some in cc)

message_lawful : (seen : Seen) (earlier : List PlacedStep) (s : PlacedStep) (b : ℕ) (c : ℕ × ℕ) → contact (after s) (addr_of b) ≡ Some c → (message : Option Message) (by : List ℕ)
    → ((m : Message) → message ≡ Some m → IsSpelled seen s.step Broadcast (addr_of b) m by) → Each (IsLawfulEntry seen earlier s) (delivered_entries Broadcast b c message by)
message_lawful seen earlier s b c is (Some m) by h = one_lawful (IsLawfulEntry seen earlier s) (entry.Delivered (addr_of b) c Broadcast m by) (is, h m refl)
message_lawful seen earlier s b c is None by h = none_lawful (IsLawfulEntry seen earlier s)

one_opened : (seen : Seen) (earlier : List PlacedStep) (s : PlacedStep) (b : ℕ) (c : ℕ × ℕ) (o : Opened) → contact (after s) (addr_of b) ≡ Some c → IsCastSpelled seen s.step b o → Each (IsLawfulEntry seen earlier s) (delivered_of Broadcast b c o)
one_opened seen earlier s b c (Whole packet by) is h = message_lawful seen earlier s b c is (message_in_flow Broadcast packet) by h
one_opened seen earlier s b c (Passed place) is h = none_lawful (IsLawfulEntry seen earlier s)

all_opened : (seen : Seen) (earlier : List PlacedStep) (s : PlacedStep) (b : ℕ) (c : ℕ × ℕ) (opened : List Opened) → ((o : Opened) (os : List Opened) → opened ≡ o ∷ os → contact (after s) (addr_of b) ≡ Some c) → All (IsCastSpelled seen s.step b) opened
    → Each (IsLawfulEntry seen earlier s) (flat_map (delivered_of Broadcast b c) opened)
all_opened seen earlier s b c [] is h = none_lawful (IsLawfulEntry seen earlier s)
all_opened seen earlier s b c (o ∷ os) is h =
    let there = is o os refl in
    Each-append (IsLawfulEntry seen earlier s) (delivered_of Broadcast b c o) (flat_map (delivered_of Broadcast b c) os) (one_opened seen earlier s b c o there (All-head (IsCastSpelled seen s.step b) o os h))
    (all_opened seen earlier s b c os (λ p ps same. there) (All-tail (IsCastSpelled seen s.step b) o os h))

cast_delivered : (seen : Seen) (earlier : List PlacedStep) (n n' : NodeState) (bytes : List ℕ) (s : NodeStep) (frames : List Outgoing) (b : ℕ) (t : NodeTurn n n' bytes s frames) → IsTold n → HaveJoined n
    → TellsOf (n.journal ++ step_entries s) b (Some (pair_with n' b)) → AreCastSpelled seen n n' bytes s frames t → Each (IsLawfulEntry seen earlier (record { before = n.journal; step = s })) (filter (is_cast_from b) s.inside)
cast_delivered seen earlier n n' bytes s frames b t told joined later spelled = by (t.casts b).heard
  where
    placed : PlacedStep
    placed = record { before = n.journal; step = s }

    x : PairEnds
    x = pair_with n b

    changes : List Transition
    changes = (t.turns b).turn.first.course.changes

    there : (h : HearsOne n n' bytes s t.deeds b) (o : Opened) (os : List Opened) → opened_in h.given ≡ o ∷ os → contact (after placed) (addr_of b) ≡ Some (shown_contact x)
    there h o os is =
        let taken = opens_taken _ _ _ h.given h.opens o os is in
        let met : is_some (met_boot x) ≡ true = ap is_some (sym (joined b)) ∙ ap (λ word. is_some (boot_with word n.casting)) (sym h.from.previous) ∙ taken_joined n.casting h.first (h.second % 2 ^ 32) h.packet h.by taken.0 taken.1 in
        later.contact_is ∙ same_contact n n' bytes s frames b t told (ap (filter (is_deed_with (node_word b))) h.heard) ∙ met_shown x met

    by : HearsCasts n n' bytes s t.deeds b changes → Each (IsLawfulEntry seen earlier placed) (filter (is_cast_from b) s.inside)
    by (hears_none h) = subst (Each (IsLawfulEntry seen earlier placed)) (sym h.delivered) (none_lawful (IsLawfulEntry seen earlier placed))
    by (hears_one h) =
        subst (Each (IsLawfulEntry seen earlier placed)) (sym h.delivered) (all_opened seen earlier placed b (shown_contact x) (opened_in h.given) (there h) (spelled b h))

-- ---- the turn

-- what a step tells of broadcasts for a node, and of its own, is lawful
pub record AreCastsLawful (seen : Seen) (earlier : List PlacedStep) (s : PlacedStep) (b : ℕ) : Type 0 where
  pub accepted : Each (IsLawfulEntry seen earlier s) (filter (is_cast_for b) s.step.inside)
  pub delivered : Each (IsLawfulEntry seen earlier s) (filter (is_cast_from b) s.step.inside)

pub casts_lawful : (seen : Seen) (earlier : List PlacedStep) (n n' : NodeState) (bytes : List ℕ) (s : NodeStep) (frames : List Outgoing) (b : ℕ) (t : NodeTurn n n' bytes s frames) → IsTold n → HaveJoined n
    → TellsOf (n.journal ++ step_entries s) b (Some (pair_with n' b)) → AreCastSpelled seen n n' bytes s frames t → AreCastsLawful seen earlier (record { before = n.journal; step = s }) b
casts_lawful seen earlier n n' bytes s frames b t told joined later spelled =
    record { accepted = cast_accepted seen earlier n n' bytes s frames b t told later; delivered = cast_delivered seen earlier n n' bytes s frames b t told joined later spelled }
