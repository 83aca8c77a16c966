-- A node's journals stay lawful, and tell how long its links were silent, while the air grows and with one more step.
use Rattle.std.proofs.Common.{◌≡◌, ◌≤◌, ◌+◌, ℕ, Bool, true, false, List, [], ◌∷◌, ◌++◌, Option, Some, None, if◌then◌else◌, length, slice_get, refl, sym, ap, ◌∙◌, subst, arith}
use Rattle.std.specs.Prelude.{◌⊎◌, ◌||◌, IfSome, is_some, option_and_then}
use Rattle.tipc_types.specs.LinkStates.{is_up}
use Rattle.tipc_journal.specs.declared.entries.Entry.{Entry}
use Rattle.tipc_journal.specs.Steps.{steps, step_entries, IsInside, NodeStep, PlacedStep}
use Rattle.tipc_journal.proofs.StepLaws.{IsWhole_nil, steps_more, steps_nil}
use Rattle.tipc_link.specs.Links.{LinkEnd, known}
use Rattle.tipc_link.proofs.LinkLaw.{Each}
use Rattle.tipc_pair.specs.Facing.{PairEnds, contact_between, facing, in_contact, is_up_at}
use Rattle.tipc_node.specs.Telling.{TellsOf}
use Rattle.tipc_pair.specs.LinkReadings.{AreAbreast, epochs_of, epochs_on, silence_in}
use Rattle.tipc_node.specs.Turns.{addr_of, pair_in}
use Rattle.tipc_replay.specs.Numbers.{end_on}
use Rattle.tipc_replay.specs.Skies.{AirState}
use Rattle.tipc_replay.specs.Causes.{tick_of, BringsUp, HasTicked, IsTakenFrom, Seen}
use Rattle.tipc_replay.specs.Lawful.{IsLawful, IsLawfulEntry}
use Rattle.tipc_replay.specs.States.{MemberState}
use Rattle.tipc_replay.specs.Watched.{AreCastsTraced, AreTicked, AreTraced, IsWatched}
use Rattle.tipc_replay.proofs.pairs.Pairings.{first_end, second_end}
use Rattle.tipc_replay.proofs.journals.Parted.{AreParted}
use Rattle.tipc_replay.proofs.journals.Stepping.{Arrives, Widens, journal_ticked, lawful_more, lawful_wider, one_more, ticked_more}
use Rattle.tipc_link.proofs.Directions.{slice_get-append as get_longer}

-- ---- a node's journals and links

-- the link ends of a node, by peer and bearer
abbrev pub links_of : (ℕ → Option PairEnds) → ℕ → ℕ → Option LinkEnd
links_of pairs p bearer = end_on bearer (pairs p)

pub record IsKept (seen : Seen) (past : List (List Entry)) (journal : List Entry) (pairs : ℕ → Option PairEnds) : Type 0 where
  pub past_lawful : (k : ℕ) (j : List Entry) → slice_get past k ≡ Some j → IsLawful seen j
  pub lawful : IsLawful seen journal
  pub ticked : AreTicked seen journal (links_of pairs)

abbrev pub seen_by : AirState → MemberState → Seen
seen_by air m = record { air = air; arrivals = m.arrivals }

pub get_last : {A : Type 0} (xs : List A) (y : A) → slice_get (xs ++ y ∷ []) (length xs) ≡ Some y
get_last [] y = refl
get_last (x ∷ xs) y = get_last xs y

pub kept_of : (air : AirState) (m : MemberState) → IsWatched air m → IsKept (seen_by air m) m.past m.node.journal (pair_in m.node)
kept_of air m w = record {
  past_lawful = λ k j there. w.lawful k j (get_longer m.past (m.node.journal ∷ []) k j there);
  lawful = w.lawful (length m.past) m.node.journal (get_last m.past m.node.journal);
  ticked = w.ticked;
}

pub watched_of : (air : AirState) (m : MemberState) → IsKept (seen_by air m) m.past m.node.journal (pair_in m.node) → AreTraced (seen_by air m) m.node.neighbours → AreCastsTraced (seen_by air m) m.node → IsWatched air m
watched_of air m h traced casts = record {
  lawful = λ k j there. one_more m.past m.node.journal j k (IsLawful (seen_by air m) j) there (λ old below. h.past_lawful k j old) (λ at same. subst (IsLawful (seen_by air m)) same h.lawful);
  ticked = h.ticked;
  traced = traced;
  casts = casts;
}

-- the air and the arrivals grow
pub kept_wider : (old new : Seen) (past : List (List Entry)) (journal : List Entry) (pairs : ℕ → Option PairEnds) → Widens old new → IsKept old past journal pairs → IsKept new past journal pairs
kept_wider old new past journal pairs w h = record {
  past_lawful = λ k j there. lawful_wider old new j w (h.past_lawful k j there);
  lawful = lawful_wider old new journal w h.lawful;
  ticked = λ p bearer. journal_ticked old new journal (addr_of p) bearer (silence_in (end_on bearer (pairs p))) w h.lawful (h.ticked p bearer);
}

-- ---- one more step

some_if : {A : Type 0} (t : Bool) (x : A) → is_some (if t then Some x else None) ≡ t
some_if true x = refl
some_if false x = refl

-- an end tells of epochs exactly where its link is up
pub up_some : (o : Option LinkEnd) → is_some (option_and_then epochs_of o) ≡ is_up_at o
up_some None = refl
up_some (Some e) = some_if (is_up e.fsm.state) (e.fsm.own, known e.fsm.peer)

contact_some : (x : PairEnds) → is_some (contact_between x) ≡ in_contact x
contact_some x = some_if (in_contact x) (x.contact, x.seen)

-- a pair tells of a contact exactly where a link of it is up
same_some : (o : Option PairEnds) → IfSome o AreAbreast → is_some (option_and_then contact_between o) ≡ (is_some (option_and_then (epochs_on 0) o) || is_some (option_and_then (epochs_on 1) o))
same_some None abreast = refl
same_some (Some x) abreast =
    let one = up_some (facing 0 x).near ∙ ap is_up_at (first_end x abreast.first) in
    let two = up_some (facing 1 x).near ∙ ap is_up_at (second_end x abreast.first) in
    contact_some x ∙ (λ i. sym one i || sym two i)

-- how long the link to p on a bearer was silent after a step: not for longer than before it and the tick, and no longer where the peer was heard in it
pub record IsTimed (seen : Seen) (s : NodeStep) (p bearer : ℕ) (o o' : Option LinkEnd) : Type 0 where
  pub heard : BringsUp s (addr_of p) bearer ⊎ IsTakenFrom seen s (addr_of p) bearer → silence_in o' ≡ 0
  pub most : silence_in o' ≤ silence_in o + tick_of s.event

pub kept_step : (seen : Seen) (past : List (List Entry)) (journal : List Entry) (pairs pairs' : ℕ → Option PairEnds) (s : NodeStep) → IsKept seen past journal pairs → IsInside s.inside → Arrives seen s
    → ((p : ℕ) → TellsOf (journal ++ step_entries s) p (pairs' p)) → ((p bearer : ℕ) → IsTimed seen s p bearer (end_on bearer (pairs p)) (end_on bearer (pairs' p)))
    → Each (IsLawfulEntry seen (steps journal) (record { before = journal; step = s })) s.inside → AreParted (record { before = journal; step = s }) → IsKept seen past (journal ++ step_entries s) pairs'
kept_step seen past journal pairs pairs' s h inside arrives told timed entries parted =
    let made : PlacedStep = record { before = journal; step = s } in
    record {
      past_lawful = h.past_lawful;
      lawful = lawful_more seen journal s h.lawful inside (record {
        arrives = arrives;
        entries = entries;
        parted = parted;
        contacts = λ n. (let t = told n in let zero_is = t.epochs_are 0 in let one_is = t.epochs_are 1 in
            ap is_some t.contact_is ∙ same_some (pairs' n) t.abreast ∙ (λ i. is_some (sym zero_is i) || is_some (sym one_is i)));
      });
      ticked = λ p bearer. subst (λ ss. HasTicked seen ss (addr_of p) bearer (silence_in (end_on bearer (pairs' p)))) (sym (steps_more journal s h.lawful.whole inside))
          (ticked_more seen (steps journal) made (addr_of p) bearer (silence_in (end_on bearer (pairs p))) (silence_in (end_on bearer (pairs' p))) (h.ticked p bearer) (timed p bearer).heard (timed p bearer).most);
    }

-- ---- links that aren't silent for longer

-- ---- a boot begins

pub started_kept : (seen : Seen) (past : List (List Entry)) (pairs : ℕ → Option PairEnds) → ((k : ℕ) (j : List Entry) → slice_get past k ≡ Some j → IsLawful seen j) → ((p : ℕ) → pairs p ≡ None) → IsKept seen past [] pairs
started_kept seen past pairs lawful alone = record {
  past_lawful = lawful;
  lawful = record { whole = IsWhole_nil; within = λ k e there. absurd cc; steps_are = λ k s there. absurd (let wrong : slice_get [] k ≡ Some s = subst (λ made. slice_get made k ≡ Some s) steps_nil there in cc) };
  ticked = λ p bearer. subst (λ o. HasTicked seen (steps []) (addr_of p) bearer (silence_in (end_on bearer o))) (sym (alone p)) (λ k s there heard. omega arith);
}

pub restarted_kept : (seen : Seen) (past : List (List Entry)) (journal : List Entry) (pairs pairs' : ℕ → Option PairEnds) → IsKept seen past journal pairs → ((p : ℕ) → pairs' p ≡ None) → IsKept seen (past ++ journal ∷ []) [] pairs'
restarted_kept seen past journal pairs pairs' h alone =
    started_kept seen (past ++ journal ∷ []) pairs' (λ k j there. one_more past journal j k (IsLawful seen j) there (λ old below. h.past_lawful k j old) (λ at same. subst (IsLawful seen) same h.lawful)) alone
