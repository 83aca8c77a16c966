-- What a turn tells of messages is lawful: they were accepted and delivered in the contact in which the node is, and each that was delivered is
-- spelled by its arrivals.
use Rattle.std.specs.Prelude.{All}
use Rattle.std.specs.List.{filter, flat_map}
use Rattle.std.proofs.Common.{◌≡◌, ℕ, zero, suc, true, List, [], ◌∷◌, ◌++◌, Option, Some, None, map, refl, sym, ap, ◌∙◌, subst}
use Rattle.std.proofs.lemmas.List.Elements.{All-head, All-tail}
use Rattle.tipc_types.specs.declared.message_forms.Flow.TheVariants.{Zero}
use Rattle.tipc_types.specs.declared.message_forms.Message.{Message}
use Rattle.tipc_outside.specs.declared.outgoing.Outgoing.{Outgoing}
use Rattle.tipc_journal.specs.declared.entries.Entry.{Entry}
use Rattle.tipc_journal.specs.declared.entries.Entry.TheVariants as entry
use Rattle.tipc_journal.specs.Contacts.{contact}
use Rattle.tipc_journal.specs.Steps.{step_entries, NodeStep, PlacedStep}
use Rattle.tipc_reassembly.specs.declared.opening.Opened.{Opened}
use Rattle.tipc_reassembly.specs.declared.opening.Opened.TheVariants.{Whole, Passed}
use Rattle.tipc_link.proofs.LinkLaw.{Each, Each-append}
use Rattle.tipc_pair.specs.Facing.{PairEnds, contact_between, in_contact}
use Rattle.tipc_pair.specs.PairTurns.{PutsAll, puts_one}
use Rattle.tipc_pair.specs.Messages.{opened_in}
use Rattle.tipc_node.specs.Messages.{bytes_of, message_in}
use Rattle.tipc_node.specs.Nodes.{accepted_entry, shown_contact}
use Rattle.tipc_node.specs.Telling.{TellsOf}
use Rattle.tipc_pair.specs.LinkReadings.{AreAbreast}
use Rattle.tipc_node.specs.Turns.{PeerTurn, addr_of, delivered_entries, delivered_of, is_accepted_for, is_delivered_from}
use Rattle.tipc_pair.proofs.turns.Moves.{contact_there}
use Rattle.tipc_pair.proofs.turns.PairEvents.{happened_so}
use Rattle.tipc_pair.proofs.turns.PairPuts.{MeetsAs, active_there, meets_contact, meets_then, puts_meet, replied_meets}
use Rattle.tipc_replay.specs.Causes.{Seen}
use Rattle.tipc_replay.specs.Lawful.{after, IsLawfulEntry}
use Rattle.tipc_replay.specs.Spelled.{IsSpelled}
use Rattle.tipc_replay.proofs.journals.TurnTraced.{IsGivenSpelled}
-- ---- lists of entries
use Rattle.tipc_pair.proofs.turns.TurnMeans.{on_bearers as are_on}

pub none_lawful : (P : Entry → Type 0) → Each P []
none_lawful P k x e = absurd cc

pub one_lawful : (P : Entry → Type 0) (a : Entry) → P a → Each P (a ∷ [])
one_lawful P a ha zero x e = let same : a ≡ x = cc in subst P same ha
one_lawful P a ha (suc k) x e = absurd cc

-- ---- messages that were put

put_entries : (seen : Seen) (earlier : List PlacedStep) (s : PlacedStep) (b : ℕ) (x : PairEnds) (ms : List Message) → contact (after s) (addr_of b) ≡ Some (shown_contact x) → Each (IsLawfulEntry seen earlier s) (map (accepted_entry Zero b x) ms)
put_entries seen earlier s b x [] is = none_lawful (IsLawfulEntry seen earlier s)
put_entries seen earlier s b x (m ∷ ms) is =
    Each-append (IsLawfulEntry seen earlier s) (accepted_entry Zero b x m ∷ []) (map (accepted_entry Zero b x) ms) (one_lawful (IsLawfulEntry seen earlier s) (accepted_entry Zero b x m) is) (put_entries seen earlier s b x ms is)

-- a message is put only where the node is in contact
put_there : (x : PairEnds) (m : List ℕ) (messages : List (List ℕ)) (frames : List Outgoing) (y : PairEnds) → PutsAll x (m ∷ messages) frames y → in_contact x ≡ true
put_there x _ _ _ y (puts_one _ between _ m messages first frames one more) = active_there x one.bearer one.active_is

-- they were accepted in the contact of the pair
put_lawful : (own : ℕ) (seen : Seen) (earlier : List PlacedStep) (s : PlacedStep) (b : ℕ) (x y last : PairEnds) (frames : List Outgoing) (ms : List Message) → PutsAll x (map (bytes_of own) ms) frames y → MeetsAs y last
    → contact (after s) (addr_of b) ≡ contact_between last → Each (IsLawfulEntry seen earlier s) (map (accepted_entry Zero b y) ms)
put_lawful own seen earlier s b x y last frames [] puts meets is = none_lawful (IsLawfulEntry seen earlier s)
put_lawful own seen earlier s b x y last frames (m ∷ ms) puts meets is =
    let there : in_contact y ≡ true = (puts_meet x (map (bytes_of own) (m ∷ ms)) frames y puts).there ∙ put_there x (bytes_of own m) (map (bytes_of own) ms) frames y puts in
    put_entries seen earlier s b y (m ∷ ms) (is ∙ meets_contact y last meets ∙ contact_there y there)

-- ---- messages that were given

message_lawful : (seen : Seen) (earlier : List PlacedStep) (s : PlacedStep) (b : ℕ) (c : ℕ × ℕ) → contact (after s) (addr_of b) ≡ Some c → (message : Option Message) (by : List ℕ)
    → ((m : Message) → message ≡ Some m → IsSpelled seen s.step Zero (addr_of b) m by) → Each (IsLawfulEntry seen earlier s) (delivered_entries Zero b c message by)
message_lawful seen earlier s b c is (Some m) by h = one_lawful (IsLawfulEntry seen earlier s) (entry.Delivered (addr_of b) c Zero m by) (is, h m refl)
message_lawful seen earlier s b c is None by h = none_lawful (IsLawfulEntry seen earlier s)

opened_lawful : (seen : Seen) (earlier : List PlacedStep) (s : PlacedStep) (b : ℕ) (c : ℕ × ℕ) (o : Opened) → contact (after s) (addr_of b) ≡ Some c → IsGivenSpelled seen s.step b o → Each (IsLawfulEntry seen earlier s) (delivered_of Zero b c o)
opened_lawful seen earlier s b c (Whole packet by) is h = message_lawful seen earlier s b c is (message_in packet) by h
opened_lawful seen earlier s b c (Passed place) is h = none_lawful (IsLawfulEntry seen earlier s)

all_opened : (seen : Seen) (earlier : List PlacedStep) (s : PlacedStep) (b : ℕ) (c : ℕ × ℕ) (opened : List Opened) → contact (after s) (addr_of b) ≡ Some c → All (IsGivenSpelled seen s.step b) opened
    → Each (IsLawfulEntry seen earlier s) (flat_map (delivered_of Zero b c) opened)
all_opened seen earlier s b c [] is h = none_lawful (IsLawfulEntry seen earlier s)
all_opened seen earlier s b c (o ∷ os) is h =
    Each-append (IsLawfulEntry seen earlier s) (delivered_of Zero b c o) (flat_map (delivered_of Zero b c) os) (opened_lawful seen earlier s b c o is (All-head (IsGivenSpelled seen s.step b) o os h))
    (all_opened seen earlier s b c os is (All-tail (IsGivenSpelled seen s.step b) o os h))

-- what was given was delivered in the contact of the link
given_lawful : (seen : Seen) (earlier : List PlacedStep) (s : PlacedStep) (b : ℕ) (c : ℕ × ℕ) (opened : List Opened) → ((o : Opened) (os : List Opened) → opened ≡ o ∷ os → contact (after s) (addr_of b) ≡ Some c) → All (IsGivenSpelled seen s.step b) opened
    → Each (IsLawfulEntry seen earlier s) (flat_map (delivered_of Zero b c) opened)
given_lawful seen earlier s b c [] is h = none_lawful (IsLawfulEntry seen earlier s)
given_lawful seen earlier s b c (o ∷ os) is h = all_opened seen earlier s b c (o ∷ os) (is o os refl) h

-- ---- the turn at a peer

-- what a step tells of messages for a neighbour, and of it, is lawful
pub record AreMessagesLawful (seen : Seen) (earlier : List PlacedStep) (s : PlacedStep) (b : ℕ) : Type 0 where
  pub accepted : Each (IsLawfulEntry seen earlier s) (filter (is_accepted_for b) s.step.inside)
  pub delivered : Each (IsLawfulEntry seen earlier s) (filter (is_delivered_from b) s.step.inside)

pub messages_lawful : (seen : Seen) (earlier : List PlacedStep) (journal : List Entry) (own : ℕ) (bytes : List ℕ) (s : NodeStep) (frames : List Outgoing) (b : ℕ) (x x' : PairEnds) (t : PeerTurn own bytes s frames b x x')
    → AreAbreast x → TellsOf (journal ++ step_entries s) b (Some x') → All (IsGivenSpelled seen s b) (opened_in t.turn.first.given) → AreMessagesLawful seen earlier (record { before = journal; step = s }) b
messages_lawful seen earlier journal own bytes s frames b x x' t abreast told spelled =
    let placed : PlacedStep = record { before = journal; step = s } in
    let y = t.turn.first.course.pair in
    let so = happened_so x t.opening t.turn.first (are_on x abreast) t.anew t.turn.happened in
    let last : MeetsAs t.turn.put x' = subst (MeetsAs t.turn.put) (sym t.turn.after) (replied_meets t.reply t.turn.put) in
    let put = puts_meet y (map (bytes_of own) t.messages) t.turn.put_frames t.turn.put t.turn.puts in
    let given : (o : Opened) (os : List Opened) → opened_in t.turn.first.given ≡ o ∷ os → contact (journal ++ step_entries s) (addr_of b) ≡ Some (shown_contact x) = λ o os some.
    (let l = so.lasts o os some in
    told.contact_is ∙ meets_contact y x' (meets_then y t.turn.put x' put last) ∙ contact_there y l.0 ∙ ap (λ n. Some (n, y.seen)) l.1 ∙ ap (λ n. Some (x.contact, n)) l.2) in
    record {
      accepted = subst (Each (IsLawfulEntry seen earlier placed)) (sym t.accepted) (put_lawful own seen earlier placed b y t.turn.put x' t.turn.put_frames t.messages t.turn.puts last told.contact_is);
      delivered = subst (Each (IsLawfulEntry seen earlier placed)) (sym t.delivered) (given_lawful seen earlier placed b (shown_contact x) (opened_in t.turn.first.given) given spelled);
    }
