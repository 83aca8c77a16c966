-- A run of a node's work in a step: entries that are noted, and messages that are put. What it does at each peer, and how one follows another.
use Rattle.std.proofs.Common.{◌≡◌, ℕ, Bool, true, List, [], ◌++◌, Option, Some, None, filter, is_some, map, inl, inr, refl, sym, ap, ◌∙◌, subst, append_assoc}
use Rattle.std.specs.Prelude.{slice_index_or, slice_set}
use Rattle.std.specs.List.{All}
use Rattle.std.proofs.lemmas.List.{map-append}
use Rattle.std.proofs.lemmas.List.Elements.{All-append, All-nil, filter-append}
use Rattle.tipc_types.specs.Address.{node_word}
use Rattle.tipc_types.specs.declared.message_forms.Flow.TheVariants.{Zero}
use Rattle.tipc_types.specs.declared.message_forms.Message.{Message}
use Rattle.tipc_outside.specs.declared.outgoing.Outgoing.{Outgoing}
use Rattle.tipc_journal.specs.declared.entries.Entry.{Entry}
use Rattle.tipc_journal.specs.declared.entries.Entry.TheVariants as entry
use Rattle.tipc_journal.specs.Steps.{IsInside}
use Rattle.tipc_pair.specs.Facing.{PairEnds}
use Rattle.tipc_pair.specs.PairTurns.{PutsAll}
use Rattle.tipc_pair.specs.PairTurns.PutsAll.{none_put}
use Rattle.tipc_node.specs.declared.neighbours.Neighbour.{Neighbour}
use Rattle.tipc_node.specs.Messages.{IsSendable, bytes_of}
use Rattle.tipc_node.specs.Nodes.{NodeState, accepted_entry, neighbour_of, shown_contact}
use Rattle.tipc_node.specs.Turns.{IsPlaced, IsRouted, addr_of, casts_in, frames_to, is_accepted_for, is_cast_for, is_cast_from, is_cast_out, is_change_of, is_delivered_from, is_out_to}
use Rattle.tipc_pair.specs.Addressed.{Names}
use Rattle.tipc_node.specs.Works.{Work}
use Rattle.tipc_node.proofs.turns.Entries.{inside_both}
use Rattle.tipc_node.proofs.Places.{set_cases}
use Rattle.tipc_pair.proofs.turns.PairPuts.{puts_meet, puts_more}

-- ---- neighbours

-- these stand under numbers of the node's neighbours, each with a pair for the peer of its number
pub record StandFor (n : NodeState) (xs : List (Option Neighbour)) : Type 0 where
  pub named : (b : ℕ) (x : Neighbour) → slice_index_or xs b None ≡ Some x → Names (node_word b) x.pair
  pub within : (b : ℕ) (x : Neighbour) → slice_index_or xs b None ≡ Some x → is_some (neighbour_of n b) ≡ true

-- so they do when another one stands at a number
pub stand_set : (n : NodeState) (xs : List (Option Neighbour)) (peer : ℕ) (y : Neighbour) → StandFor n xs → Names (node_word peer) y.pair → is_some (neighbour_of n peer) ≡ true
    → StandFor n (slice_set xs peer (Some y))
stand_set n xs peer y stand named there = record {
  named = λ b x is. elim (set_cases xs peer b x y is) [
    | inl h ↦ subst (λ k. Names (node_word k) x.pair) (sym h.0) (subst (λ (z : Neighbour). Names (node_word peer) z.pair) h.1 named)
    | inr before ↦ stand.named b x before
  ];
  within = λ b x is. elim (set_cases xs peer b x y is) [
    | inl h ↦ subst (λ k. is_some (neighbour_of n k) ≡ true) (sym h.0) there
    | inr before ↦ stand.within b x before
  ];
}

-- ---- one peer

-- What a run in which these entries were noted, and these frames left, does at the pair to node b: messages are put there, and accepted.
pub record RunAt (own b : ℕ) (es : List Entry) (frames : List Outgoing) (x x' : Neighbour) : Type 0 where
  pub messages : List Message
  pub sendable : All (IsSendable own) messages
  pub puts : PutsAll x.pair (map (bytes_of own) messages) (frames_to b frames) x'.pair
  pub changes : filter (is_change_of b) es ≡ []
  pub accepted : filter (is_accepted_for b) es ≡ map (accepted_entry Zero b x.pair) messages
  -- what is begun of its broadcast stays
  pub casts : x'.casts ≡ x.casts

-- what of both parts passes a test
pub both_parts : (test : Entry → Bool) (xs ys front back : List Entry) → filter test xs ≡ front → filter test ys ≡ back → filter test (xs ++ ys) ≡ front ++ back
both_parts test xs ys front back first second = filter-append test xs ys ∙ ap (λ es. es ++ filter test ys) first ∙ ap (λ es. front ++ es) second

-- the contact stays
puts_stay : (x : PairEnds) (ms : List (List ℕ)) (fs : List Outgoing) (y : PairEnds) → PutsAll x ms fs y → shown_contact y ≡ shown_contact x
puts_stay x ms fs y h = let same = puts_meet x ms fs y h in ap (λ n. (n, y.seen)) same.contact ∙ ap (λ n. (x.contact, n)) same.seen

abbrev accepted_in : ℕ → ℕ × ℕ → Message → Entry
accepted_in b contact m = entry.Accepted (addr_of b) contact Zero m

then_at : (own b : ℕ) (es es' : List Entry) (fs fs' : List Outgoing) (x y z : Neighbour) → RunAt own b es fs x y → RunAt own b es' fs' y z → RunAt own b (es ++ es') (fs ++ fs') x z
then_at own b es es' fs fs' x y z h k =
    let packets = map (bytes_of own) h.messages ++ map (bytes_of own) k.messages in
    let all = puts_more x.pair (map (bytes_of own) h.messages) (frames_to b fs) y.pair (map (bytes_of own) k.messages) (frames_to b fs') z.pair h.puts k.puts in
    let same = puts_stay x.pair (map (bytes_of own) h.messages) (frames_to b fs) y.pair h.puts in record {
      messages = h.messages ++ k.messages;
      sendable = All-append (IsSendable own) h.messages k.messages h.sendable k.sendable;
      puts = subst (λ ms. PutsAll x.pair ms (frames_to b (fs ++ fs')) z.pair) (sym (map-append (bytes_of own) h.messages k.messages))
          (subst (λ gs. PutsAll x.pair packets gs z.pair) (sym (filter-append (is_out_to b) fs fs')) all);
      changes = both_parts (is_change_of b) es es' [] [] h.changes k.changes;
      accepted =
          both_parts (is_accepted_for b) es es' (map (accepted_entry Zero b x.pair) h.messages) (map (accepted_entry Zero b x.pair) k.messages) h.accepted
          (k.accepted ∙ ap (λ contact. map (accepted_in b contact) k.messages) same)
          ∙ sym (map-append (accepted_entry Zero b x.pair) h.messages k.messages);
      casts = k.casts ∙ h.casts;
    }

-- they are accepted in the contact that there is behind them
pub accepted_now : (own b : ℕ) (es : List Entry) (frames : List Outgoing) (x x' : Neighbour) (h : RunAt own b es frames x x') → filter (is_accepted_for b) es ≡ map (accepted_entry Zero b x'.pair) h.messages
accepted_now own b es frames x x' h =
    h.accepted ∙ ap (λ contact. map (accepted_in b contact) h.messages) (sym (puts_stay x.pair (map (bytes_of own) h.messages) (frames_to b frames) x'.pair h.puts))

-- no message is put where no frame leaves and nothing is told
pub still_at : (own b : ℕ) (es : List Entry) (frames : List Outgoing) (x : Neighbour) → frames_to b frames ≡ [] → filter (is_change_of b) es ≡ [] → filter (is_accepted_for b) es ≡ [] → RunAt own b es frames x x
still_at own b es frames x none changes accepted = record {
  messages = [];
  sendable = All-nil (IsSendable own);
  puts = subst (λ fs. PutsAll x.pair [] fs x.pair) (sym none) (none_put x.pair);
  changes = changes;
  accepted = accepted;
  casts = refl;
}

-- ---- all peers

-- what became of one that stood there
pub record NowAt (own b : ℕ) (es : List Entry) (frames : List Outgoing) (x : Neighbour) (xs : List (Option Neighbour)) : Type 0 where
  pub now : Neighbour
  pub now_is : slice_index_or xs b None ≡ Some now
  pub run : RunAt own b es frames x now

-- A run of work noted these entries, in which the deliveries are these ones, and these frames left. It tells of no message that was cast, and none
-- of its frames is of a broadcast.
pub record Runs (n : NodeState) (w : Work) (es given : List Entry) (frames : List Outgoing) (w' : Work) : Type 0 where
  pub inside_is : w'.inside ≡ w.inside ++ es
  pub at : (b : ℕ) (x : Neighbour) → slice_index_or w.neighbours b None ≡ Some x → NowAt n.own b es frames x w'.neighbours
  pub alone : (b : ℕ) → slice_index_or w.neighbours b None ≡ None → slice_index_or w'.neighbours b None ≡ None
  pub delivered : (b : ℕ) → filter (is_delivered_from b) es ≡ filter (is_delivered_from b) given
  pub heard : (b : ℕ) → filter (is_cast_from b) es ≡ filter (is_cast_from b) given
  pub uncast : (b : ℕ) → filter (is_cast_for b) es ≡ []
  pub inside : IsInside es
  pub placed : All (IsPlaced n) es
  pub routed : All (IsRouted n) frames
  pub unsent : casts_in frames ≡ []
  pub stand : StandFor n w'.neighbours

runs_then : (n : NodeState) (w v u : Work) (es es' given given' : List Entry) (fs fs' : List Outgoing) → Runs n w es given fs v → Runs n v es' given' fs' u → Runs n w (es ++ es') (given ++ given') (fs ++ fs') u
runs_then n w v u es es' given given' fs fs' h k = record {
  inside_is = k.inside_is ∙ ap (λ xs. xs ++ es') h.inside_is ∙ append_assoc w.inside es es';
  at = λ b x there. let first = h.at b x there in let next = k.at b first.now first.now_is in record {
    now = next.now;
    now_is = next.now_is;
    run = then_at n.own b es es' fs fs' x first.now next.now first.run next.run;
  };
  alone = λ b none. k.alone b (h.alone b none);
  delivered = λ b.
      both_parts (is_delivered_from b) es es' (filter (is_delivered_from b) given) (filter (is_delivered_from b) given') (h.delivered b) (k.delivered b)
      ∙ sym (filter-append (is_delivered_from b) given given');
  heard = λ b.
      both_parts (is_cast_from b) es es' (filter (is_cast_from b) given) (filter (is_cast_from b) given') (h.heard b) (k.heard b)
      ∙ sym (filter-append (is_cast_from b) given given');
  uncast = λ b. both_parts (is_cast_for b) es es' [] [] (h.uncast b) (k.uncast b);
  inside = inside_both es es' h.inside k.inside;
  placed = All-append (IsPlaced n) es es' h.placed k.placed;
  routed = All-append (IsRouted n) fs fs' h.routed k.routed;
  unsent = filter-append is_cast_out fs fs' ∙ ap (λ gs. gs ++ casts_in fs') h.unsent ∙ k.unsent;
  stand = k.stand;
}

-- the same, whatever entries were noted
pub record IsRun (n : NodeState) (w : Work) (given : List Entry) (frames : List Outgoing) (w' : Work) : Type 0 where
  pub noted : List Entry
  pub runs : Runs n w noted given frames w'

pub run_then : (n : NodeState) (w v u : Work) (given given' : List Entry) (fs fs' : List Outgoing) → IsRun n w given fs v → IsRun n v given' fs' u → IsRun n w (given ++ given') (fs ++ fs') u
run_then n w v u given given' fs fs' h k = record { noted = h.noted ++ k.noted; runs = runs_then n w v u h.noted k.noted given given' fs fs' h.runs k.runs }

pub run_as : (n : NodeState) (w v u : Work) (given : List Entry) (fs gs : List Outgoing) → u ≡ v → fs ≡ gs → IsRun n w given gs v → IsRun n w given fs u
run_as n w v u given fs gs work frames h = subst (λ x. IsRun n w given fs x) (sym work) (subst (λ hs. IsRun n w given hs v) (sym frames) h)
