-- What crosses between two nodes while one of them goes on: what was put in each contact, and what was
-- taken of it.
use Rattle.std.specs.Prelude.{◌≡◌, ◌==◌, ◌&&◌, ◌<◌, ◌≤◌, ◌⊎◌, ℕ, List, [], ◌++◌, if◌then◌else◌}
use Rattle.tipc_pair.specs.Courses.{Course}
use Rattle.tipc_paired.specs.Views.{View}
use Rattle.tipc_two_nodes.specs.deeds.PairDeeds.{Took, none_more}
use Rattle.tipc_two_nodes.specs.Carriages.{Carriage, taken_of}
use Rattle.tipc_two_nodes.specs.Twins.{AreTwins, sends_in}

-- In a contact the same was put as before, and these packets were taken behind those before.
pub record TakesOn (c d : Carriage) (taken : List (List ℕ)) : Type 0 where
  pub put : d.traffic.put ≡ c.traffic.put
  pub longer : taken_of d ≡ taken_of c ++ taken

-- A step of x puts nothing, and takes these packets, by contact, the own number of x first: what was put and taken
-- stays in each contact, and nothing was put under a contact number that x didn't have before.
pub record Carries (x x' y : View) (h : AreTwins x y) (k : AreTwins x' y)
    (taken : ℕ → ℕ → List (List ℕ)) : Type 0 where
  pub later : x.node.contact ≤ x'.node.contact
  pub sends : (own theirs : ℕ) → TakesOn (h.sends.carriage own theirs) (k.sends.carriage own theirs) []
      ⊎ ((x.node.contact < own) × ((k.sends.carriage own theirs).traffic.put ≡ []))
  pub receives : (own theirs : ℕ)
      → TakesOn (h.receives.carriage theirs own) (k.receives.carriage theirs own) (taken own theirs)

-- A step of x takes nothing, and what was put in its contact is this then, of which as much was taken as before.
pub record CarriesPut (x x' y : View) (h : AreTwins x y) (k : AreTwins x' y) (put : List (List ℕ)) : Type 0 where
  pub node : x'.node ≡ x.node
  pub put_is : (k.sends.carriage x.node.contact x.node.seen).traffic.put ≡ put
  pub delivered : (k.sends.carriage x.node.contact x.node.seen).state.delivered ≡ (sends_in x y h).state.delivered
  pub others : (own theirs : ℕ) → (own ≡ x.node.contact → theirs ≡ x.node.seen → ⊥)
      → k.sends.carriage own theirs ≡ h.sends.carriage own theirs
  pub receives : (own theirs : ℕ)
      → TakesOn (h.receives.carriage theirs own) (k.receives.carriage theirs own) []

-- what is kept by contact, with this in one of them
abbrev pub with_in : {A : Type 0} → (ℕ → ℕ → A) → ℕ → ℕ → A → ℕ → ℕ → A
with_in f own theirs value k l = if (k == own) && (l == theirs) then value else f k l

-- no packets, by contact; and these in one contact
abbrev pub none_taken : ℕ → ℕ → List (List ℕ)
none_taken own theirs = []

-- these packets in the contact of these numbers, and none in any other
abbrev pub taken_in_contact : ℕ → ℕ → List (List ℕ) → ℕ → ℕ → List (List ℕ)
taken_in_contact own theirs packets = with_in none_taken own theirs packets

-- By deeds of v, beside y, its pair took this course, in which these packets were numbered and none was taken; the two
-- are then what they were to each other, and what crossed between them stays so.
abbrev pub KeepsCarried : (v y : View) → AreTwins v y → Course → (ℕ → ℕ → List (List ℕ)) → Type 0
KeepsCarried v y h c numbered = (after : View) × Took v y after c numbered none_more
    × (k : AreTwins after y) × Carries v after y h k none_taken
