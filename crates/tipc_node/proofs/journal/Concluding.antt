-- When a step is recorded the journal tells of the node after it, by the node's turn and its work on the step.
use Rattle.std.proofs.Common.{◌≡◌, ◌<◌, ◌==◌, ◌||◌, ℕ, Bool, true, false, List, [], ◌∷◌, ◌++◌, Option, Some, None, fold, is_some, refl, sym, ap, ◌∙◌, subst, arith}
use Rattle.std.specs.Prelude.{if◌then◌else◌}
use Rattle.std.specs.List.{All, list_all}
use Rattle.std.proofs.lemmas.Bool.Decides.{nat_tests}
use Rattle.std.proofs.lemmas.List.{append_cancel_left, same_from_push}
use Rattle.std.proofs.lemmas.List.Elements.{All-push}
use Rattle.tipc_types.specs.Address.{node_word}
use Rattle.tipc_types.specs.declared.identity.Addr.{Addr}
use Rattle.tipc_types.specs.declared.node_calls.Answer.{Answer}
use Rattle.tipc_types.specs.declared.node_calls.By.{By}
use Rattle.tipc_types.specs.declared.node_calls.EventNote.{EventNote}
use Rattle.tipc_types.specs.declared.services.Publication.{Publication}
use Rattle.tipc_outside.specs.declared.outgoing.Outgoing.{Outgoing}
use Rattle.tipc_journal.specs.declared.entries.Entry.{Entry}
use Rattle.tipc_journal.specs.declared.entries.Entry.TheVariants as entry
use Rattle.tipc_journal.specs.Contacts.{contact, contact_after}
use Rattle.tipc_journal.specs.Counting.{AllAnsweredToCallers}
use Rattle.tipc_journal.specs.Dues.{Due, NothingDue, first_due, sent_message}
use Rattle.tipc_journal.specs.Fates.{AllHaveFates}
use Rattle.tipc_journal.specs.Licensed.{AllLicensed, IsAnswered, accepted_of, asked, event_given}
use Rattle.tipc_journal.specs.Prefixes.{list_with}
use Rattle.tipc_journal.specs.Queues.{is_taking, sockets_after}
use Rattle.tipc_journal.specs.Refusals.{is_among, made_by, refusal, sockets_made}
use Rattle.tipc_journal.specs.Steps.{IsInside, NodeStep, PlacedStep, step_entries, steps}
use Rattle.tipc_journal.proofs.CountLaws.{AllAnsweredToCallers_step, sockets_made_step}
use Rattle.tipc_journal.proofs.FateLaws.{AllHaveFates_step}
use Rattle.tipc_journal.proofs.LicenceLaws.{AllLicensed_step}
use Rattle.tipc_journal.proofs.StepLaws.{steps_more}
use Rattle.tipc_journal.proofs.WholeSteps.{contact_step as contact_whole}
use Rattle.tipc_ports.specs.Numbers.{port_number}
use Rattle.tipc_sockets.specs.SocketTables.{AreSockets, SocketTable}
use Rattle.tipc_sockets.specs.Telling.{AreTold, is_tick}
use Rattle.tipc_sockets.proofs.FatesTold.{list_all_agree}
use Rattle.tipc_sockets.proofs.StepsTold.{told_other}
use Rattle.tipc_node.specs.Nodes.{NodeState, step_of}
use Rattle.tipc_node.specs.Telling.{AllFull, IsFull, IsTold, TellsSockets, is_in_reach}
use Rattle.tipc_node.specs.Turns.{IsPlaced, NodeTurn}
use Rattle.tipc_node.specs.Works.{Work, addr_of_word}
use Rattle.tipc_node.proofs.Filters.{filter-none}
use Rattle.tipc_node.proofs.journal.Noting.{IsWorked}
use Rattle.tipc_node.proofs.journal.Telling.{contact_step, folded}
use Rattle.tipc_node.proofs.journal.Turned.{turn_links, turn_nobody, turn_whole}

-- ---- the step that was recorded

pub same_step : (journal : List Entry) (by : By) (note : EventNote) (xs ys : List Entry) (a b : Answer) → journal ++ step_entries (step_of by note xs a) ≡ journal ++ step_entries (step_of by note ys b)
    → (xs ≡ ys) × (a ≡ b)
same_step journal by note xs ys a b is =
    let one = append_cancel_left journal (step_entries (step_of by note xs a)) (step_entries (step_of by note ys b)) is in
    let two : xs ++ entry.Answered by.caller by.call a ∷ [] ≡ ys ++ entry.Answered by.caller by.call b ∷ [] = cc in
    let three = same_from_push xs ys (entry.Answered by.caller by.call a) (entry.Answered by.caller by.call b) two in
    let four = three.1 in
    (three.0, cc)

pub same_turn : (n n' : NodeState) (bytes : List ℕ) (by : By) (note : EventNote) (inside inside' : List Entry) (kept given : Answer) (frames : List Outgoing) → NodeTurn n n' bytes (step_of by note inside kept) frames
    → n'.journal ≡ n.journal ++ step_entries (step_of by note inside' given) → NodeTurn n n' bytes (step_of by note inside' given) frames
same_turn n n' bytes by note inside inside' kept given frames t is =
    let same = same_step n.journal by note inside inside' kept given (sym t.journal ∙ is) in
    subst (λ a. NodeTurn n n' bytes (step_of by note inside' a) frames) same.1 (subst (λ es. NodeTurn n n' bytes (step_of by note es kept) frames) same.0 t)

-- ---- the sockets after a step

-- what a node's sockets are after a step is what the journal tells then
pub record IsKeptBy (n : NodeState) (st : NodeStep) (s : SocketTable) : Type 0 where
  pub told : (later : Due) → AreTold (addr_of_word n.own) (n.journal ++ step_entries st) later [] s
  pub boot : s.ports.boot ≡ n.sockets.ports.boot
  pub reached : list_all (is_in_reach n.own (n.journal ++ st.inside)) s.names ≡ true
  pub unmade : (port : ℕ) → port_number s.ports.boot s.ports.made < port → is_among (sockets_made (n.journal ++ step_entries st)) port ≡ false

sockets_told : (n n' : NodeState) (bytes : List ℕ) (st : NodeStep) (frames : List Outgoing) (s : SocketTable) → IsTold n → NodeTurn n n' bytes st frames → AreSockets n'.sockets → n'.sockets ≡ s → IsKeptBy n st s
    → TellsSockets n'
sockets_told n n' bytes st frames s h t sound is k = record {
  told = λ later.
      subst (λ o. AreTold (addr_of_word o) n'.journal later [] n'.sockets) (sym t.own)
      (subst (λ es. AreTold (addr_of_word n.own) es later [] n'.sockets) (sym t.journal) (subst (λ x. AreTold (addr_of_word n.own) (n.journal ++ step_entries st) later [] x) (sym is) (k.told later)));
  sound = sound;
  boot = ap (λ (x : SocketTable). x.ports.boot) is ∙ k.boot ∙ h.sockets.boot ∙ sym t.boot;
  reached =
      ap (λ o. list_all (is_in_reach o n'.journal) n'.sockets.names) t.own ∙ ap (λ es. list_all (is_in_reach n.own es) n'.sockets.names) t.journal
      ∙ ap (λ (x : SocketTable). list_all (is_in_reach n.own (n.journal ++ step_entries st)) x.names) is
      ∙ list_all_agree _ _ (λ (p : Publication). ap (λ (c : Option (ℕ × ℕ)). (p.at.node.word == n.own) || is_some c) (contact_whole n.journal st p.at.node)) s.names ∙ k.reached;
  unmade = λ port above. ap (λ es. is_among (sockets_made es) port) t.journal ∙ k.unmade port (subst (λ (x : SocketTable). port_number x.ports.boot x.ports.made < port) is above);
}

-- a call that makes no socket, closes none, takes no message, gives no event, and is no tick
pub record IsOther (note : EventNote) (given : Answer) : Type 0 where
  pub stays : (ports : List ℕ) → sockets_after ports note given ≡ ports
  pub none : made_by note given ≡ None
  pub quiet : (port : ℕ) → is_taking port note given ≡ false
  pub still : is_tick note ≡ false
  pub nothing : (number : ℕ) → event_given number note given ≡ None

pub same_made : (n : NodeState) (st : NodeStep) (made : ℕ) (boot port : ℕ) → IsTold n → IsInside st.inside → made_by st.event st.answer ≡ None → boot ≡ n.sockets.ports.boot → made ≡ n.sockets.ports.made
    → port_number boot made < port → is_among (sockets_made (n.journal ++ step_entries st)) port ≡ false
same_made n st made boot port h inner none boot_is made_is above =
    ap (λ ps. is_among ps port) (sockets_made_step n.journal st h.whole inner ∙ ap (λ o. list_with (sockets_made n.journal) o) none)
    ∙ h.sockets.unmade port (subst (λ k. port_number n.sockets.ports.boot k < port) made_is (subst (λ k. port_number k made < port) boot_is above))

pub others_kept : (n : NodeState) (by : By) (note : EventNote) (given : Answer) (now : Due) (sends asks : List Entry) (w : Work) → IsTold n → IsInside w.inside
    → IsWorked n (first_due (addr_of_word n.own) note given) now sends asks w → IsOther note given → IsKeptBy n (step_of by note w.inside given) w.sockets
others_kept n by note given now sends asks w h inner k o = record {
  told = λ later. told_other (addr_of_word n.own) n.journal (step_of by note w.inside given) w.sockets later h.whole inner k.told o.stays o.none o.quiet o.still o.nothing;
  boot = ap (λ p. p.boot) k.ports;
  reached = k.reached;
  unmade = λ port above. same_made n (step_of by note w.inside given) w.sockets.ports.made w.sockets.ports.boot port h inner o.none (ap (λ p. p.boot) k.ports) (ap (λ p. p.made) k.ports) above;
}

-- ---- addresses below those of the cluster

abbrev is_contact_of : ℕ → Entry → Bool
is_contact_of word (entry.ContactUp peer numbers) = peer.word == word
is_contact_of word (entry.ContactDown peer numbers states shown) = peer.word == word
is_contact_of word e = false

low_word : (low word b : ℕ) → low < node_word 0 → word ≡ node_word b → (word == low) ≡ false
low_word low word b below is = grind (arith, nat_tests, below, is)

none_low : (n : NodeState) (low : ℕ) → low < node_word 0 → (e : Entry) → IsPlaced n e → is_contact_of low e ≡ false
none_low n low below (entry.ContactUp peer numbers) h = low_word low peer.word h.0 below (ap (λ (a : Addr). a.word) h.2)
none_low n low below (entry.ContactDown peer numbers states shown) h = low_word low peer.word h.0 below (ap (λ (a : Addr). a.word) h.2)
none_low n low below e h = refl

keeps_low : (a : Addr) (z : Option (ℕ × ℕ)) (e : Entry) → is_contact_of a.word e ≡ false → contact_after a z e ≡ z
keeps_low a z (entry.ContactUp peer numbers) is = ap (λ b. if b then Some numbers else z) is
keeps_low a z (entry.ContactDown peer numbers states shown) is = ap (λ b. if b then None else z) is
keeps_low a z e is = refl

low_told : (n n' : NodeState) (bytes : List ℕ) (st : NodeStep) (frames : List Outgoing) → IsTold n → NodeTurn n n' bytes st frames → (a : Addr) → a.word < node_word 0 → contact n'.journal a ≡ None
low_told n n' bytes st frames h t a below =
    ap (λ es. contact es a) t.journal ∙ contact_step n.journal st a ∙ folded (contact_after a) (is_contact_of a.word) (contact n.journal a) st.inside (keeps_low a)
    ∙ ap (fold (contact_after a) (contact n.journal a)) (filter-none (is_contact_of a.word) st.inside (IsPlaced n) (none_low n a.word below) t.placed) ∙ h.below a below

-- ---- a call

-- What is to be known of a call that was recorded with this work and this answer: it is answered as it may be, with what it asks for and
-- sends; nothing is left due; and the sockets are told.
pub record IsCall (n : NodeState) (by : By) (note : EventNote) (given : Answer) (w : Work) (s : SocketTable) : Type 0 where
  pub answered : IsAnswered (addr_of_word n.own) n.journal (step_of by note w.inside given) (refusal (addr_of_word n.own) n.journal note)
  pub worked : IsWorked n (first_due (addr_of_word n.own) note given) NothingDue (accepted_of (addr_of_word n.own) n.journal (sent_message (addr_of_word n.own) note given))
      (asked (addr_of_word n.own) n.journal note given) w
  pub kept : IsKeptBy n (step_of by note w.inside given) s
  pub full : IsFull note given

pub call_told : (n n' : NodeState) (bytes : List ℕ) (by : By) (note : EventNote) (inside : List Entry) (kept given : Answer) (frames : List Outgoing) (w : Work) (s : SocketTable) → IsTold n
    → NodeTurn n n' bytes (step_of by note inside kept) frames → n'.journal ≡ n.journal ++ step_entries (step_of by note w.inside given) → n'.sockets ≡ s → AreSockets n'.sockets
    → (IsInside w.inside → IsCall n by note given w s) → IsTold n'
call_told n n' bytes by note inside kept given frames w s h before journal is sound called =
    let st = step_of by note w.inside given in
    let own = addr_of_word n.own in
    let t = same_turn n n' bytes by note inside w.inside kept given frames before journal in
    let c = called t.inside in
    let licensed = AllLicensed_step own n.journal st h.whole t.inside h.licensed (record { answered = c.answered; asked = c.worked.asked_are; sends = c.worked.sends_are }) in
    let fates = AllHaveFates_step own n.journal st h.whole t.inside h.fates (record { each = c.worked.stands; none_left = c.worked.due }) in
    let callers = AllAnsweredToCallers_step n.journal st h.whole t.inside h.answered (record { caller = refl; call = refl }) in
    let full = subst (λ (ps : List PlacedStep). All (λ p. IsFull p.step.event p.step.answer) ps) (sym (steps_more n.journal st h.whole t.inside))
    (All-push (λ (p : PlacedStep). IsFull p.step.event p.step.answer) (steps n.journal) (record { before = n.journal; step = st }) h.full c.full) in
    record {
      whole = turn_whole n n' bytes st frames h t;
      links = turn_links n n' bytes st frames h t;
      nobody = turn_nobody n n' bytes st frames h t;
      alone = ap (λ o. contact n'.journal (addr_of_word o)) t.own ∙ ap (λ es. contact es own) t.journal ∙ contact_whole n.journal st own ∙ c.worked.alone;
      below = low_told n n' bytes st frames h t;
      sockets = sockets_told n n' bytes st frames s h t sound is c.kept;
      licensed = subst (λ o. AllLicensed (addr_of_word o) n'.journal) (sym t.own) (subst (AllLicensed own) (sym t.journal) licensed);
      answered = subst AllAnsweredToCallers (sym t.journal) callers;
      fates = subst (λ o. AllHaveFates (addr_of_word o) n'.journal) (sym t.own) (subst (AllHaveFates own) (sym t.journal) fates);
      full = subst AllFull (sym t.journal) full;
    }
