-- A contact that is yet to begin stays unused: nothing was accepted or delivered in it, before a turn and after it.
use Rattle.std.proofs.Common.{◌≡◌, ◌<◌, ℕ, false, List, [], ◌∷◌, ◌++◌, map, refl, sym, ap, ◌∙◌, subst, inl, inr, true≢false, arith}
use Rattle.tipc_types.specs.declared.message_forms.Flow.TheVariants.{Zero}
use Rattle.tipc_types.specs.declared.message_forms.Message.{Message}
use Rattle.tipc_outside.specs.declared.outgoing.Outgoing.{Outgoing}
use Rattle.tipc_journal.specs.declared.entries.Entry.{Entry}
use Rattle.tipc_journal.specs.Steps.{NodeStep, step_entries}
use Rattle.tipc_journal.specs.Streams.{accepted, delivered}
use Rattle.tipc_journal.proofs.StreamLaws.{accepted_nil, delivered_nil}
use Rattle.tipc_pair.specs.Facing.{PairEnds, in_contact}
use Rattle.tipc_pair.specs.PairTurns.{PutsAll}
use Rattle.tipc_pair.specs.PairTurns.PutsAll.{puts_one}
use Rattle.tipc_node.specs.Messages.{bytes_of}
use Rattle.tipc_node.specs.Nodes.{NodeState, accepted_entry, pair_with, shown_contact}
use Rattle.tipc_node.specs.Sharing.{AreUnused, IsUnused, flow_with}
use Rattle.tipc_node.specs.Telling.{IsTold}
use Rattle.tipc_pair.specs.LinkReadings.{AreAbreast}
use Rattle.tipc_node.specs.Turns.{NodeTurn, PeerTurn}
use Rattle.tipc_node.proofs.pairs.Strangers.{kept_abreast}
use Rattle.tipc_pair.proofs.turns.PairPuts.{active_there}
use Rattle.tipc_pair.proofs.turns.TurnMeans.{TurnMeans, down, down_none, least, meets_after, turn_means}
use Rattle.tipc_node.proofs.names.SharingFlows.{accepted_of, accepted_then, delivered_of_peer, delivered_then, entries_in, given_elsewhere, given_nothing, puts_elsewhere}

-- nothing of a step is of this contact
record IsPassed (entries : List Entry) (b number : ℕ) : Type 0 where
  pub accepted_none : (theirs : ℕ) → accepted entries (flow_with b (number, theirs)) ≡ []
  pub delivered_none : (theirs : ℕ) → delivered entries (flow_with b (number, theirs)) ≡ []

still_unused : (old new : List Entry) (s : NodeStep) (b number : ℕ) → new ≡ old ++ step_entries s → IsUnused old b number → IsPassed s.inside b number → IsUnused new b number
still_unused old new s b number is unused h = λ theirs. (
  accepted_then old new s b (number, theirs) [] is (h.accepted_none theirs) ∙ ap (λ ms. ms ++ []) (unused theirs).0,
  delivered_then old new s b (number, theirs) [] is (h.delivered_none theirs) ∙ ap (λ ms. ms ++ []) (unused theirs).1,
)

-- ---- a turn at a peer

-- what a turn at a peer means for the contact with it
pub peer_means : (own : ℕ) (bytes : List ℕ) (s : NodeStep) (frames : List Outgoing) (b : ℕ) (x x' : PairEnds) → AreAbreast x → (t : PeerTurn own bytes s frames b x x') → TurnMeans x x' t.opening t.turn.first
peer_means own bytes s frames b x x' abreast t = turn_means x x' t.opening _ t.reply t.own_frames abreast t.anew t.turn

-- nothing is put where there is no contact
none_put : (own : ℕ) (x : PairEnds) (ms : List Message) (frames : List Outgoing) (y : PairEnds) → PutsAll x (map (bytes_of own) ms) frames y → in_contact x ≡ false → ms ≡ []
none_put own x [] frames y puts down = refl
none_put own x (m ∷ ms) _ y (puts_one _ between _ _ _ first fs one all) down = absurd (true≢false (sym (active_there x one.bearer one.active_is) ∙ down))

-- the entries of a turn are of the contact that the pair showed before it, or shows then
later_passed : (own : ℕ) (bytes : List ℕ) (s : NodeStep) (frames : List Outgoing) (b number : ℕ) (x x' : PairEnds) → PeerTurn own bytes s frames b x x' → (x.contact ≡ number → ⊥) → (x'.contact ≡ number → ⊥) → IsPassed s.inside b number
later_passed own bytes s frames b number x x' t before apart =
    let after = (meets_after x x' t.opening _ t.reply t.own_frames t.turn).1 in
    record {
      accepted_none = λ theirs. accepted_of b (number, theirs) s.inside _ [] (t.accepted ∙ entries_in b t.turn.put t.messages) (puts_elsewhere b (number, theirs) (shown_contact t.turn.put) t.messages (λ same. apart (after.contact ∙ same)));
      delivered_none = λ theirs. delivered_of_peer b (number, theirs) s.inside _ [] t.delivered (given_elsewhere b (number, theirs) x t.turn.first.given before);
    }

-- and there are none without contact
down_passed : (own : ℕ) (bytes : List ℕ) (s : NodeStep) (frames : List Outgoing) (b number : ℕ) (x x' : PairEnds) → AreAbreast x → PeerTurn own bytes s frames b x x' → in_contact x' ≡ false → IsPassed s.inside b number
down_passed own bytes s frames b number x x' abreast t down =
    let y = t.turn.first.course.pair in
    let m = meets_after x x' t.opening _ t.reply t.own_frames t.turn in
    let put = m.0 in
    let after = m.1 in
    let low : in_contact y ≡ false = sym put.there ∙ sym after.there ∙ down in
    let none : t.messages ≡ [] = none_put own y t.messages t.turn.put_frames t.turn.put t.turn.puts low in
    record {
      accepted_none = λ theirs. accepted_of b (number, theirs) s.inside [] [] (t.accepted ∙ ap (λ ms. map (accepted_entry Zero b t.turn.put) ms) none) (accepted_nil (flow_with b (number, theirs)));
      delivered_none = λ theirs. delivered_of_peer b (number, theirs) s.inside _ [] t.delivered (given_nothing b (number, theirs) x t.turn.first.given (down_none x x' t.opening t.turn.first (peer_means own bytes s frames b x x' abreast t) down));
    }

-- ---- a turn of the node

pub turn_unused : (n n' : NodeState) (bytes : List ℕ) (s : NodeStep) (frames : List Outgoing) → IsTold n → NodeTurn n n' bytes s frames → AreUnused n → AreUnused n'
turn_unused n n' bytes s frames told t u = record { later = later; next = next }
  where
    later : (b number : ℕ) → (pair_with n' b).contact < number → IsUnused n'.journal b number
    later b number higher =
        let x = pair_with n b in
        let y = pair_with n' b in
        let m = peer_means n.own bytes s frames b x y (kept_abreast n b told) (t.turns b) in
        let lowest = least x y m.story m.means in
        still_unused n.journal n'.journal s b number t.journal (u.later b number (omega (arith, lowest, higher)))
        (later_passed n.own bytes s frames b number x y (t.turns b) (λ same. omega (arith, same, lowest, higher)) (λ same. omega (arith, same, higher)))

    next : (b : ℕ) → in_contact (pair_with n' b) ≡ false → IsUnused n'.journal b (pair_with n' b).contact
    next b none =
        let x = pair_with n b in
        let y = pair_with n' b in
        let number = y.contact in
        let abreast = kept_abreast n b told in
        let m = peer_means n.own bytes s frames b x y abreast (t.turns b) in
        let before : IsUnused n.journal b number = elim (down x y m.story m.means none) [
          | inl higher ↦ u.later b number higher
          | inr same ↦ subst (IsUnused n.journal b) (sym same.0) (u.next b same.1)
        ] in
        still_unused n.journal n'.journal s b number t.journal before (down_passed n.own bytes s frames b number x y abreast (t.turns b) none)

-- ---- a node that knows nobody

pub none_used : (journal : List Entry) (b number : ℕ) → journal ≡ [] → IsUnused journal b number
none_used journal b number empty = λ theirs. (
  ap (λ es. accepted es (flow_with b (number, theirs))) empty ∙ accepted_nil (flow_with b (number, theirs)),
  ap (λ es. delivered es (flow_with b (number, theirs))) empty ∙ delivered_nil (flow_with b (number, theirs)),
)

pub new_unused : (n : NodeState) → n.journal ≡ [] → AreUnused n
new_unused n empty = record {
  later = λ b number higher. none_used n.journal b number empty;
  next = λ b none. none_used n.journal b (pair_with n b).contact empty;
}
