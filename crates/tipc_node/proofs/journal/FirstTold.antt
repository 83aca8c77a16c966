-- The journal tells of a node that knows nobody.
use Rattle.std.proofs.Common.{◌≡◌, ℕ, List, [], None, option_map, sym, ap, ◌∙◌, subst}
use Rattle.std.specs.List.{All, list_all}
use Rattle.std.proofs.lemmas.List.Elements.{All-nil}
use Rattle.tipc_journal.specs.Contacts.{contact}
use Rattle.tipc_journal.specs.Counting.{AllAnsweredToCallers}
use Rattle.tipc_journal.specs.Fates.{AllHaveFates}
use Rattle.tipc_journal.specs.Licensed.{AllLicensed}
use Rattle.tipc_journal.specs.Refusals.{is_among, sockets_made}
use Rattle.tipc_journal.specs.Steps.{IsWhole, PlacedStep}
use Rattle.tipc_journal.proofs.ContactLaws.{contact_nil, up_epochs_nil}
use Rattle.tipc_journal.proofs.CountLaws.{AllAnsweredToCallers_nil, sockets_made_nil}
use Rattle.tipc_journal.proofs.FateLaws.{AllHaveFates_nil}
use Rattle.tipc_journal.proofs.LicenceLaws.{AllLicensed_nil}
use Rattle.tipc_journal.proofs.StepLaws.{IsWhole_nil, steps_nil}
use Rattle.tipc_sockets.specs.SocketTables.{AreSockets, SocketTable, no_sockets}
use Rattle.tipc_sockets.specs.Telling.{AreTold}
use Rattle.tipc_sockets.proofs.Entries.{told_nil}
use Rattle.tipc_node.specs.declared.neighbours.Neighbour.{Neighbour}
use Rattle.tipc_node.specs.Nodes.{NodeState, neighbour_of}
use Rattle.tipc_node.specs.Telling.{AllFull, IsFull, IsTold, TellsOf, is_in_reach}
use Rattle.tipc_node.specs.Turns.{addr_of, pair_in}
use Rattle.tipc_node.specs.Works.{addr_of_word}

none_told : (p : ℕ) → TellsOf [] p None
none_told p = record { contact_is = contact_nil (addr_of p); epochs_are = λ bearer. up_epochs_nil (addr_of p) bearer; abreast = tt }

pub new_told : (n : NodeState) → n.sockets ≡ no_sockets n.own n.boot → AreSockets n.sockets → n.journal ≡ [] → ((peer : ℕ) → neighbour_of n peer ≡ None) → IsTold n
new_told n none sound empty nobody = record {
  whole = subst IsWhole (sym empty) IsWhole_nil;
  links = λ p. subst (λ es. TellsOf es p (pair_in n p)) (sym empty) (subst (TellsOf [] p) (sym (ap (option_map (λ (x : Neighbour). x.pair)) (nobody p))) (none_told p));
  nobody = nobody 0;
  alone = ap (λ es. contact es (addr_of_word n.own)) empty ∙ contact_nil (addr_of_word n.own);
  below = λ a low. ap (λ es. contact es a) empty ∙ contact_nil a;
  sockets = record {
    told = λ d. subst (λ es. AreTold (addr_of_word n.own) es d [] n.sockets) (sym empty) (subst (AreTold (addr_of_word n.own) [] d []) (sym none) (told_nil (addr_of_word n.own) n.boot d));
    sound = sound;
    boot = ap (λ (s : SocketTable). s.ports.boot) none;
    reached = ap (λ (s : SocketTable). list_all (is_in_reach n.own n.journal) s.names) none;
    unmade = λ port above. ap (λ es. is_among (sockets_made es) port) empty ∙ ap (λ ps. is_among ps port) sockets_made_nil;
  };
  licensed = subst (AllLicensed (addr_of_word n.own)) (sym empty) (AllLicensed_nil (addr_of_word n.own));
  answered = subst AllAnsweredToCallers (sym empty) AllAnsweredToCallers_nil;
  fates = subst (AllHaveFates (addr_of_word n.own)) (sym empty) (AllHaveFates_nil (addr_of_word n.own));
  full = subst AllFull (sym empty) (subst (λ (ps : List PlacedStep). All (λ p. IsFull p.step.event p.step.answer) ps) (sym steps_nil) (All-nil (λ (p : PlacedStep). IsFull p.step.event p.step.answer)));
}
