-- What a node keeps of another one, be it a neighbour or a stranger: a stranger's pair has no link end, and so no contact.
use Rattle.std.proofs.Common.{◌≡◌, ◌==◌, ◌∙◌, ℕ, true, false, List, Option, Some, None, refl, sym, ap, arith, subst}
use Rattle.std.specs.Prelude.{if◌then◌else◌, nat_le, option_map}
use Rattle.tipc_types.specs.Address.{node_word}
use Rattle.tipc_journal.specs.declared.entries.Entry.{Entry}
use Rattle.tipc_pair.specs.Addressed.{Names}
use Rattle.tipc_pair.specs.Facing.{PairEnds, alone, facing, turned}
use Rattle.tipc_pair.specs.LinkReadings.{AreAbreast, epochs_on}
use Rattle.tipc_pair.proofs.turns.Moves.{IsApt, apt_abreast, epochs_at}
use Rattle.tipc_node.specs.declared.neighbours.Neighbour.{Neighbour}
use Rattle.tipc_node.specs.Nodes.{NodeState, acquaintance, end_with, neighbour_of, pair_with}
use Rattle.tipc_node.specs.Telling.{IsTold, TellsOf}
use Rattle.tipc_node.specs.Turns.{AreNamed, pair_in}

-- what is so of a stranger's pair and of each neighbour's is so of the pair
pub kept_by : (P : PairEnds → Type 0) (n : NodeState) (b : ℕ) → (neighbour_of n b ≡ None → P (alone n.own (node_word b) n.boot)) → ((x : Neighbour) → neighbour_of n b ≡ Some x → P x.pair) → P (pair_with n b)
kept_by P n b none some = by (neighbour_of n b) refl
  where
    by : (o : Option Neighbour) → neighbour_of n b ≡ o → P (acquaintance n b o).pair
    by None is = none is
    by (Some x) is = some x is

pub pair_there : (n : NodeState) (b : ℕ) (x : Neighbour) → neighbour_of n b ≡ Some x → pair_with n b ≡ x.pair
pair_there n b x is = ap (λ o. (acquaintance n b o).pair) is

pub pair_alone : (n : NodeState) (b : ℕ) → neighbour_of n b ≡ None → pair_with n b ≡ alone n.own (node_word b) n.boot
pair_alone n b is = ap (λ o. (acquaintance n b o).pair) is

-- it is for the peer
pub named_there : (n : NodeState) (b : ℕ) (x : Neighbour) → AreNamed n → neighbour_of n b ≡ Some x → Names (node_word b) x.pair
named_there n b x named is = subst (Names (node_word b)) (pair_there n b x is) (named b)

-- ---- a stranger's pair

pub alone_near : (bearer own peer boot : ℕ) → (facing bearer (alone own peer boot)).near ≡ None
unfolding facing
alone_near bearer own peer boot = elim (0 == bearer) as (λ b. (if b then alone own peer boot else turned (alone own peer boot)).near ≡ None) [ true ↦ refl | false ↦ refl ]

alone_apt : (own peer boot : ℕ) → IsApt (alone own peer boot)
alone_apt own peer boot = record { two = omega arith; near = tt; far = tt }

none_on : (bearer own word boot : ℕ) → epochs_on bearer (alone own word boot) ≡ None
none_on bearer own word boot = elim (nat_le bearer 1) as (λ b. (if b then epochs_at (facing bearer (alone own word boot)).near else None) ≡ None) [ true ↦ ap epochs_at (alone_near bearer own word boot) | false ↦ refl ]

-- where there is no end on a bearer, the pair has none there
pub kept_near : (n : NodeState) (b bearer : ℕ) (o : Option Neighbour) → end_with bearer o ≡ None → (facing bearer (acquaintance n b o).pair).near ≡ None
kept_near n b bearer None none = alone_near bearer n.own (node_word b) n.boot
kept_near n b bearer (Some x) none = none

-- ---- what the journal tells

-- the journal tells of the pair what it tells of the neighbour, or that there is none
pub kept_tells : (n : NodeState) (b : ℕ) → IsTold n → TellsOf n.journal b (Some (pair_with n b))
kept_tells n b told = by (neighbour_of n b) refl (told.links b)
  where
    by : (o : Option Neighbour) → neighbour_of n b ≡ o → TellsOf n.journal b (option_map (λ (y : Neighbour). y.pair) o) → TellsOf n.journal b (Some (acquaintance n b o).pair)
    by None is t = record {
      contact_is = t.contact_is;
      epochs_are = λ bearer. t.epochs_are bearer ∙ sym (none_on bearer n.own (node_word b) n.boot);
      abreast = apt_abreast (alone n.own (node_word b) n.boot) refl (alone_apt n.own (node_word b) n.boot);
    }
    by (Some x) is t = t

pub tells_kept : (journal : List Entry) (n : NodeState) (b : ℕ) → TellsOf journal b (Some (pair_with n b)) → TellsOf journal b (pair_in n b)
tells_kept journal n b t = by (neighbour_of n b) t
  where
    by : (o : Option Neighbour) → TellsOf journal b (Some (acquaintance n b o).pair) → TellsOf journal b (option_map (λ (y : Neighbour). y.pair) o)
    by None t = record { contact_is = t.contact_is; epochs_are = λ bearer. t.epochs_are bearer ∙ none_on bearer n.own (node_word b) n.boot; abreast = tt }
    by (Some x) t = t

pub kept_abreast : (n : NodeState) (b : ℕ) → IsTold n → AreAbreast (pair_with n b)
kept_abreast n b told = (kept_tells n b told).abreast
