-- What happens to all neighbours alike, as the code does it: to one after the other, and what has come of it so far.
use Rattle.std.specs.Prelude.{◌≡◌, ◌≤◌, ℕ, List, ◌++◌, Option, None, slice_index_or}
use Rattle.tipc_types.specs.Address.{node_word}
use Rattle.tipc_outside.specs.Frames.{Adds, Gains}
use Rattle.tipc_broadcast.specs.Casting.{Casting}
use Rattle.tipc_broadcast.specs.Contacts.{has_joined}
use Rattle.tipc_broadcast.specs.Deeds.{after_deeds, deeds_frames}
use Rattle.tipc_node.specs.declared.neighbours.Neighbour.{Neighbour}
use Rattle.tipc_node.specs.declared.neighbours.Parting.{Parting}
use Rattle.tipc_node.specs.declared.neighbours.Upkeep.{Upkeep}
use Rattle.tipc_node.specs.Casting.{bearer_deeds, casting_in}
use Rattle.tipc_node.specs.Neighbours.{Done}
use Rattle.tipc_node.specs.Nodes.{after_all, after_one, deeds_all, deeds_one, entries_all, entries_one, is_met, made_all, made_one, part_all, part_at}

-- each of the 32 peers is in contact at the broadcast link exactly where there is contact with it
abbrev pub AreAllJoined : List (Option Neighbour) → Casting → Type 0
AreAllJoined xs v = (b : ℕ) → 1 ≤ b → b ≤ 32 → has_joined (node_word b) v.contacts ≡ is_met (slice_index_or xs b None)

-- of the neighbour of a number that part came, with the broadcast link as it was
pub record ComesOf (number : ℕ) (w : Casting) (part : Option Done) (after : Option Neighbour) (w' : Casting) (old new : Parting) : Type 0 where
  pub after_is : after ≡ after_one part
  pub entries : new.inside.items ≡ old.inside.items ++ entries_one number part
  pub frames : Gains old.out new.out (made_one part)
  pub casting : w' ≡ after_deeds (deeds_one number part) w
  pub casts : Adds old.casts new.casts (deeds_frames (deeds_one number part) w)

-- the neighbour of a number took part
abbrev pub TookPart : Upkeep → ℕ → Casting → Option Neighbour → Option Neighbour → Parting → Parting → Type 0
TookPart d number v place after old new =
    ComesOf number (casting_in d v old.broadcast) (part_at d number (casting_in d v old.broadcast) place) after (casting_in d v new.broadcast) old new

-- of all neighbours these parts came, with the broadcast link as it was
pub record ComesOfAll (w : Casting) (parts : List (Option Done)) (after : List (Option Neighbour)) (w' : Casting) (old new : Parting) : Type 0 where
  pub after_is : after ≡ after_all parts
  pub entries : new.inside.items ≡ entries_all 0 parts
  pub frames : Gains old.out new.out (made_all parts)
  pub casting : w' ≡ after_deeds (deeds_all 0 parts) w
  pub casts : Adds old.casts new.casts (deeds_frames (deeds_all 0 parts) w)

-- all neighbours took part
abbrev pub TookParts : Upkeep → Casting → List (Option Neighbour) → List (Option Neighbour) → Parting → Parting → Type 0
TookParts d v xs after old new =
    ComesOfAll (after_deeds (bearer_deeds d) v) (part_all d 0 (after_deeds (bearer_deeds d) v) xs) after (casting_in d v new.broadcast) old new
