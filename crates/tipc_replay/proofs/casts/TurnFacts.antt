-- What is known of the node that took a turn, and of its pairs, by the world before the turn alone.
use Rattle.std.proofs.Common.{◌≡◌, ◌≢◌, ◌||◌, ℕ, Bool, true, false, List, Option, Some, None, refl, sym, ap, ◌∙◌}
use Rattle.std.specs.Prelude.{is_some}
use Rattle.tipc_types.specs.Address.{node_word}
use Rattle.tipc_outside.specs.declared.outgoing.Outgoing.{Outgoing}
use Rattle.tipc_journal.specs.Steps.{NodeStep}
use Rattle.tipc_pair.specs.Facing.{in_contact, is_up_at}
use Rattle.tipc_pair.proofs.turns.TurnMeans.{TurnMeans}
use Rattle.tipc_two_nodes.specs.Order.{HaveMet}
use Rattle.tipc_two_nodes.specs.Sights.{AreSeen, pair_seen}
use Rattle.tipc_two_nodes.proofs.sights.Meeting.{steps_met}
use Rattle.tipc_node.specs.declared.neighbours.Neighbour.{Neighbour}
use Rattle.tipc_node.specs.Nodes.{neighbour_of, pair_with}
use Rattle.tipc_node.specs.Turns.{frames_to}
use Rattle.tipc_node.proofs.names.SharingUnused.{peer_means}
use Rattle.tipc_node.proofs.pairs.Strangers.{kept_abreast, pair_alone}
use Rattle.tipc_replay.specs.Met.{contacts_met}
use Rattle.tipc_replay.specs.Numbers.{end_on, own_in, seen_in}
use Rattle.tipc_replay.specs.Sound.{IsNumber}
use Rattle.tipc_replay.specs.States.{MemberState, member_at}
use Rattle.tipc_replay.specs.Steps.{Stage}
use Rattle.tipc_replay.specs.Views.{sight_at}
use Rattle.tipc_replay.proofs.LookUps.{boot_at-is, pair_at-is}
use Rattle.tipc_replay.proofs.casts.SteadyTurns.{SteadyTurn, came_comes}
use Rattle.tipc_replay.proofs.frames.Coming.{ComesOut}
use Rattle.tipc_replay.proofs.frames.Fitting.{AreFit}
use Rattle.tipc_replay.proofs.pairs.Bringing.{are_brought}
use Rattle.tipc_replay.proofs.pairs.PairedTurns.{steps_with, turned_with}
use Rattle.tipc_replay.proofs.pairs.Pairings.{end_read, first_end, own_read, second_end, seen_read}
use Rattle.tipc_replay.proofs.pairs.Standing.{after_number, kept_sight, neighbour_number}
use Rattle.tipc_replay.proofs.pairs.Turning.{is_there, sight_in, was_there}
use Rattle.tipc_replay.proofs.streams.TurnStreams.{AreBrought}

module _ {old new : Stage} {n : ℕ} {m m' : MemberState} {bytes : List ℕ} {s : NodeStep} {frames : List Outgoing} {lost : Bool} (h : SteadyTurn old new n m m' bytes s frames lost) where
  -- ---- the node

  pub was_here : member_at old.members n ≡ Some m
  was_here = was_there old new n m m' frames lost h.turns

  pub is_here : member_at new.members n ≡ Some m'
  is_here = is_there old new n m m' frames lost h.turns

  pub number_here : IsNumber n
  number_here = (h.sound.numbered n m h.turns.was).0

  pub own_before : m.node.own ≡ node_word n
  own_before = (h.sound.numbered n m h.turns.was).1

  pub own_after : m'.node.own ≡ node_word n
  own_after = h.turn.turn.own ∙ own_before

  -- ---- its pairs

  pub means_at : (b : ℕ) → TurnMeans (pair_with m.node b) (pair_with m'.node b) (h.turn.turn.turns b).opening (h.turn.turn.turns b).turn.first
  means_at b = peer_means m.node.own bytes s frames b (pair_with m.node b) (pair_with m'.node b) (kept_abreast m.node b h.turn.told) (h.turn.turn.turns b)

  -- the node is in contact with other nodes alone
  pub number_before : (b : ℕ) → in_contact (pair_with m.node b) ≡ true → IsNumber b × (b ≢ n)
  number_before b there = case (neighbour_of m.node b) refl
    where
      case : (o : Option Neighbour) → neighbour_of m.node b ≡ o → IsNumber b × (b ≢ n)
      case None none = absurd (let wrong : true ≡ false = sym there ∙ ap in_contact (pair_alone m.node b none) in let no : ⊥ = cc in no)
      case (Some x) is = neighbour_number old.members old.air n b m h.sound h.turns.was (ap is_some is)

  pub number_after : (b : ℕ) → in_contact (pair_with m'.node b) ≡ true → IsNumber b × (b ≢ n)
  number_after b there = case (neighbour_of m'.node b) refl
    where
      case : (o : Option Neighbour) → neighbour_of m'.node b ≡ o → IsNumber b × (b ≢ n)
      case None none = absurd (let wrong : true ≡ false = sym there ∙ ap in_contact (pair_alone m'.node b none) in let no : ⊥ = cc in no)
      case (Some x) is = after_number old.members old.air n b m m'.node bytes s frames h.sound h.turns.was h.turn.turn (ap is_some is)

  -- ---- the pair that it sees

  pub sight_before : (b : ℕ) → pair_seen (sight_in old n b) ≡ pair_with m.node b
  sight_before b = kept_sight old n b m h.sound was_here own_before

  pub contact_after : (b : ℕ) → (sight_in new n b).node.contact ≡ (pair_with m'.node b).contact
  unfolding sight_at
  contact_after b = (λ i. own_in (boot_at-is new.members n m' is_here i) (pair_at-is new.members n b m' is_here i)) ∙ own_read m'.node b

  pub seen_after : (b : ℕ) → (sight_in new n b).node.seen ≡ (pair_with m'.node b).seen
  unfolding sight_at
  seen_after b = ap seen_in (pair_at-is new.members n b m' is_here) ∙ seen_read m'.node b

  pub boot_after : (b : ℕ) → (sight_in new n b).node.boot ≡ m'.node.boot
  unfolding sight_at
  boot_after b = boot_at-is new.members n m' is_here

  pub there_after : (b : ℕ) → in_contact (pair_seen (sight_in new n b)) ≡ in_contact (pair_with m'.node b)
  unfolding sight_at
  there_after b =
      let y = pair_with m'.node b in
      let first = (kept_abreast m'.node b h.told_then).first in
      let end : (bearer : ℕ) → end_on bearer (Some y) ≡ (sight_in new n b).ends bearer = λ bearer. sym (ap (end_on bearer) (pair_at-is new.members n b m' is_here) ∙ end_read m'.node b bearer) in
      let near : (sight_in new n b).ends 0 ≡ y.near = sym (end 0) ∙ first_end y first in
      let far : (sight_in new n b).ends 1 ≡ y.far = sym (end 1) ∙ second_end y first in
      λ i. is_up_at (near i) || is_up_at (far i)

  -- ---- the two nodes of it

  pub came_out : ComesOut old n s.event bytes
  came_out = came_comes old n s.event bytes h.sound h.came

  brought : AreBrought n m.node m'.node bytes s frames h.turn.turn
  brought = are_brought old n m m' bytes s frames h.sound h.turns.was h.turn.turn came_out

  -- they talk on, and each frame to the other fits the air
  pub talks : (b : ℕ) → IsNumber b → b ≢ n → AreSeen (sight_in new n b) (sight_in old b n) × AreFit (frames_to b frames)
  talks b number apart =
      turned_with old new n m m' bytes s frames lost h.sound h.turns h.turn came_out brought b number apart (h.sound.pairs n b number_here number (λ e. apart (sym e)))

  pub met_before : (b : ℕ) → IsNumber b → b ≢ n → HaveMet (sight_in old n b) (sight_in old b n) (contacts_met old.members n b) (contacts_met old.members b n)
  met_before b number apart = h.met n b number_here number (λ e. apart (sym e))

  -- what they met before they met after it
  pub met_after : (b : ℕ) → IsNumber b → b ≢ n → HaveMet (sight_in new n b) (sight_in old b n) (contacts_met old.members n b) (contacts_met old.members b n)
  met_after b number apart =
      steps_met (sight_in old n b) (sight_in new n b) (sight_in old b n) (contacts_met old.members n b) (contacts_met old.members b n) (met_before b number apart)
      (steps_with old new n m m' bytes s frames lost h.sound h.turns h.turn came_out brought b number apart)
