-- What happens to all neighbours alike: the journal tells of the node after it.
use Rattle.std.proofs.Common.{◌≡◌, ◌+◌, ◌==◌, ℕ, suc, Bool, true, false, List, [], ◌∷◌, ◌++◌, Option, Some, None, refl, sym, ap, ◌∙◌, subst, eqb-true, arith}
use Rattle.std.specs.Prelude.{IfSome, option_and_then, option_map, slice_index_or}
use Rattle.tipc_types.specs.Address.{node_word}
use Rattle.tipc_types.specs.declared.node_calls.Answer.TheVariants as answer
use Rattle.tipc_types.specs.declared.node_calls.By.{By}
use Rattle.tipc_journal.specs.declared.entries.Entry.{Entry}
use Rattle.tipc_journal.specs.Contacts.{contact}
use Rattle.tipc_journal.specs.Dues.{NothingDue}
use Rattle.tipc_journal.specs.Steps.{IsInside}
use Rattle.tipc_pair.specs.declared.transitions.Transition.{Transition}
use Rattle.tipc_pair.specs.declared.transitions.Transition.TheVariants.{ContactDown, ContactUp, LinkDown, LinkUp}
use Rattle.tipc_pair.specs.Facing.{contact_between}
use Rattle.tipc_pair.specs.PairTurns.{quietly}
use Rattle.tipc_node.specs.declared.neighbours.Neighbour.{Neighbour}
use Rattle.tipc_node.specs.declared.neighbours.Upkeep.{Upkeep}
use Rattle.tipc_node.specs.declared.neighbours.Upkeep.TheVariants as upkeep
use Rattle.tipc_node.specs.Calls.{upkeep_work}
use Rattle.tipc_node.specs.Neighbours.{Done, course_of, done}
use Rattle.tipc_pair.specs.Contacts.{begins}
use Rattle.tipc_node.specs.Nodes.{NodeState, after_all, change_entries, upkeep_note, entries_all, entries_one, neighbour_of, parts_of}
use Rattle.tipc_node.specs.Telling.{IsTold}
use Rattle.tipc_pair.specs.LinkReadings.{AreAbreast}
use Rattle.tipc_node.specs.Works.{addr_of_word, begun}
use Rattle.tipc_node.proofs.journal.Calling.{done_answered}
use Rattle.tipc_node.proofs.journal.Concluding.{IsCall, others_kept}
use Rattle.tipc_broadcast.specs.Casting.{shown}
use Rattle.tipc_types.specs.declared.link_words.BroadcastState.{BroadcastState}
use Rattle.tipc_node.proofs.turns.Parts.{IsPartOf, parts_from}
use Rattle.tipc_node.proofs.pairs.Calm.{upkeep_happens, opening_of, own_calm}
use Rattle.tipc_pair.proofs.turns.Moves.{AreSo, Goes, abreast_apt}
use Rattle.tipc_pair.proofs.turns.TurnMoves.{first_runs}
use Rattle.tipc_node.proofs.journal.Noting.{AreQuiet, IsWorked, all_noted, begun_worked, worked_beside}

-- ---- the entries of a change are quiet

pub changes_quiet : (own peer : ℕ) (cs : List Transition) → (node_word peer == own) ≡ false → AreQuiet own (change_entries peer cs)
changes_quiet own peer [] other = tt
changes_quiet own peer (LinkUp bearer mine theirs ∷ cs) other = (tt, changes_quiet own peer cs other)
changes_quiet own peer (LinkDown bearer because shown ∷ cs) other = (tt, changes_quiet own peer cs other)
changes_quiet own peer (ContactUp numbers ∷ cs) other = (other, changes_quiet own peer cs other)
changes_quiet own peer (ContactDown numbers states shown ∷ cs) other = (other, changes_quiet own peer cs other)

quiet_both : (own : ℕ) (xs ys : List Entry) → AreQuiet own xs → AreQuiet own ys → AreQuiet own (xs ++ ys)
quiet_both own [] ys all rest = rest
quiet_both own (x ∷ xs) ys all rest = (all.0, quiet_both own xs ys all.1 rest)

-- there is no contact with the node itself
self_apart : (n : NodeState) (b : ℕ) (x : Neighbour) → IsTold n → neighbour_of n b ≡ Some x → (node_word b == n.own) ≡ true → contact_between x.pair ≡ None
self_apart n b x h there mine =
    let same : node_word b ≡ n.own = eqb-true (node_word b) n.own mine in
    sym (sym h.alone ∙ ap (λ k. contact n.journal (addr_of_word k)) (sym same) ∙ (h.links b).contact_is ∙ ap (option_and_then contact_between) (ap (option_map (λ (y : Neighbour). y.pair)) there))

-- what is so without contact, and begins none, tells of none
apart_quiet : (own peer : ℕ) (cs : List Transition) → AreSo None cs → begins cs ≡ false → AreQuiet own (change_entries peer cs)
apart_quiet own peer [] so calm = tt
apart_quiet own peer (LinkUp bearer mine theirs ∷ cs) so calm = (tt, apart_quiet own peer cs so.1 calm)
apart_quiet own peer (LinkDown bearer because shown ∷ cs) so calm = (tt, apart_quiet own peer cs so.1 calm)
apart_quiet own peer (ContactUp numbers ∷ cs) so calm = absurd cc
apart_quiet own peer (ContactDown numbers states shown ∷ cs) so calm = absurd (let wrong : None ≡ Some numbers = so.0 in cc)

-- so its entries are quiet, also those of the node itself
upkeep_quiet : (n : NodeState) (b : ℕ) (d : Upkeep) (shown : BroadcastState) (x : Neighbour) → IsTold n → neighbour_of n b ≡ Some x → AreAbreast x.pair → AreQuiet n.own (change_entries b (done d shown x).changes)
upkeep_quiet n b d shown x h there abreast = by (node_word b == n.own) refl
  where
    cs : List Transition
    cs = (done d shown x).changes

    goes : Goes x.pair (course_of d shown x).pair cs
    goes = first_runs x.pair (opening_of d shown x) (quietly (course_of d shown x)) (abreast_apt x.pair abreast) (upkeep_happens d shown x).2 (upkeep_happens d shown x).0

    by : (mine : Bool) → (node_word b == n.own) ≡ mine → AreQuiet n.own (change_entries b cs)
    by false other = changes_quiet n.own b cs other
    by true same = apart_quiet n.own b cs (subst (λ z. AreSo z cs) (self_apart n b x h there same) goes.so) (own_calm x.pair (opening_of d shown x) (quietly (course_of d shown x)) (upkeep_happens d shown x).1 (upkeep_happens d shown x).0).0

-- the parts from a number on came of neighbours of the node
abbrev AreOf : NodeState → Upkeep → ℕ → List (Option Done) → Type 0
AreOf n d first os = (k : ℕ) (y : Done) → slice_index_or os k None ≡ Some y → IsPartOf n d (first + k) y

first_quiet : (n : NodeState) (d : Upkeep) (first : ℕ) (o : Option Done) (os : List (Option Done)) → IsTold n → AreOf n d first (o ∷ os) → AreQuiet n.own (entries_one first o)
first_quiet n d first None os h all = tt
first_quiet n d first (Some y) os h all =
    let part : IsPartOf n d first y = subst (λ k. IsPartOf n d k y) (omega arith) (all 0 y refl) in
    let there = part.there in
    let abreast = subst (λ o. IfSome o AreAbreast) (ap (option_map (λ (z : Neighbour). z.pair)) there) (h.links first).abreast in
    subst (λ (z : Done). AreQuiet n.own (change_entries first z.changes)) (sym part.is) (upkeep_quiet n first d (shown part.link (node_word first)) part.neighbour h there abreast)

all_quiet : (n : NodeState) (d : Upkeep) (first : ℕ) (os : List (Option Done)) → IsTold n → AreOf n d first os → AreQuiet n.own (entries_all first os)
unfolding entries_all
all_quiet n d first [] h all = tt
all_quiet n d first (o ∷ os) h all =
    quiet_both n.own (entries_one first o) (entries_all (first + 1) os) (first_quiet n d first o os h all)
    (all_quiet n d (first + 1) os h (λ k y there. subst (λ j. IsPartOf n d j y) (omega arith) (all (suc k) y there)))

-- ---- the call

-- the work on what happens to all neighbours, whose entries are quiet
pub upkeep_worked : (n : NodeState) (d : Upkeep) → IsTold n → IsWorked n NothingDue NothingDue [] [] (upkeep_work d n) × AreQuiet n.own (entries_all 0 (parts_of d n))
upkeep_worked n d h =
    let es = entries_all 0 (parts_of d n) in
    let quiet : AreQuiet n.own es = all_quiet n d 0 (parts_of d n) h (λ k y there. subst (λ j. IsPartOf n d j y) (omega arith) (parts_from n d k y there)) in (
      all_noted n NothingDue [] [] (record (begun n) { neighbours = after_all (parts_of d n) }) es
          (worked_beside n NothingDue NothingDue [] [] _ (after_all (parts_of d n)) (begun_worked n NothingDue h)) quiet,
      quiet,
    )

-- a tick is another call
abbrev pub IsNoTick : Upkeep → Type 0
IsNoTick upkeep.Tick = ⊥
IsNoTick d = Unit {0}

pub upkeep_call : (n : NodeState) (by : By) (d : Upkeep) → IsTold n → IsNoTick d → IsInside (upkeep_work d n).inside → IsCall n by (upkeep_note d) answer.Done (upkeep_work d n) (upkeep_work d n).sockets
upkeep_call n by d h other inner = of d refl
  where
    worked : IsWorked n NothingDue NothingDue [] [] (upkeep_work d n)
    worked = (upkeep_worked n d h).0

    of : (kind : Upkeep) → d ≡ kind → IsCall n by (upkeep_note d) answer.Done (upkeep_work d n) (upkeep_work d n).sockets
    of (upkeep.Mend bearer) is = subst (λ k. IsCall n by (upkeep_note k) answer.Done (upkeep_work d n) (upkeep_work d n).sockets) (sym is) (record {
      answered = done_answered (addr_of_word n.own) n.journal by (upkeep_note (upkeep.Mend bearer)) (upkeep_work d n).inside answer.Done refl refl;
      worked = worked;
      kept = others_kept n by (upkeep_note (upkeep.Mend bearer)) answer.Done NothingDue [] [] (upkeep_work d n) h inner worked (record { stays = λ ports. refl; none = refl; quiet = λ q. refl; still = refl; nothing = λ number. refl });
      full = tt;
    })
    of (upkeep.Cut bearer) is = subst (λ k. IsCall n by (upkeep_note k) answer.Done (upkeep_work d n) (upkeep_work d n).sockets) (sym is) (record {
      answered = done_answered (addr_of_word n.own) n.journal by (upkeep_note (upkeep.Cut bearer)) (upkeep_work d n).inside answer.Done refl refl;
      worked = worked;
      kept = others_kept n by (upkeep_note (upkeep.Cut bearer)) answer.Done NothingDue [] [] (upkeep_work d n) h inner worked (record { stays = λ ports. refl; none = refl; quiet = λ q. refl; still = refl; nothing = λ number. refl });
      full = tt;
    })
    of upkeep.Tick is = absurd (subst IsNoTick is other)
