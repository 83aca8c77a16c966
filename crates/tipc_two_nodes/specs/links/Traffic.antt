-- What a node sends its peer in one contact, over two links: the packets that were put, and those that its links
-- numbered.
use Rattle.std.specs.Prelude.{ℕ, ◌+◌, ◌-◌, ◌==◌, List, ◌++◌, if◌then◌else◌}

-- The sessions of one link in a contact, which count from 1: the epoch of the first one, and the packets that were
-- numbered in each. The epochs of a link's sessions follow one another.
pub record Lines : Type 0 where
  pub first : ℕ
  pub line : ℕ → List (List ℕ)

-- the epoch of a session, which counts from 1, by that of the first one
abbrev pub epoch_of : ℕ → ℕ → ℕ
epoch_of first session = first + session - 1

-- more packets are numbered in a session
abbrev pub with_more : Lines → ℕ → List (List ℕ) → Lines
with_more l session packets = record {
  first = l.first;
  line = λ e. if e == session then l.line e ++ packets else l.line e;
}

-- The packets that were put, in order, as they are sent: messages, bundles and fragments, but no tunnel packets; and
-- the sessions of both links, seen from one of them.
pub record Traffic : Type 0 where
  pub put : List (List ℕ)
  pub near : Lines
  pub far : Lines

-- what a node sends in a contact, seen from the other link
abbrev pub turned_traffic : Traffic → Traffic
turned_traffic t = record { put = t.put; near = t.far; far = t.near }
