-- Under which of its numbers a node entered contacts with a peer.
use Rattle.std.specs.Prelude.{◌==◌, ◌<◌, ◌+◌, ℕ, if◌then◌else◌, List, Option, Some, None}
use Rattle.std.specs.List.{All, filter_map}
use Rattle.std.specs.List.Sorted.{IsStrictlySortedBy}
use Rattle.std.specs.Ordering.{nat_cmp}
use Rattle.tipc_types.specs.declared.identity.Addr.{Addr}
use Rattle.tipc_journal.specs.declared.entries.Entry.{Entry}
use Rattle.tipc_journal.specs.declared.entries.Entry.TheVariants.{ContactUp}
use Rattle.tipc_contact.specs.Sides.{first_number}
use Rattle.tipc_pair.specs.Facing.{PairEnds, in_contact}
use Rattle.tipc_node.specs.Turns.{addr_of, pair_in}
use Rattle.tipc_replay.specs.States.{MemberState, history}

-- the own number of the contact with the peer that begins with an entry
abbrev pub entered_by : Addr → Entry → Option ℕ
entered_by p (ContactUp peer numbers) = if peer.word == p.word then Some numbers.0 else None
entered_by p other = None

-- the own numbers of all contacts with the peer that began, in order
unfoldable pub numbers_entered : List Entry → Addr → List ℕ
numbers_entered entries p = filter_map (entered_by p) entries

-- the lowest number under which the next contact may begin: that of the pair, or the one above it where the node is in contact
abbrev pub next_in : ℕ → Option PairEnds → ℕ
next_in boot None = first_number boot
next_in boot (Some x) = if in_contact x then x.contact + 1 else x.contact

-- these numbers rise, and are below that one
pub record RiseBelow (numbers : List ℕ) (next : ℕ) : Type 0 where
  pub rise : IsStrictlySortedBy nat_cmp numbers
  pub below : All (λ number. number < next) numbers

-- So it is with the numbers under which a node entered contacts with node b, over all its boots, and the one under which the next may begin.
abbrev pub HasRisen : MemberState → ℕ → Type 0
HasRisen m b = RiseBelow (numbers_entered (history m) (addr_of b)) (next_in m.node.boot (pair_in m.node b))
