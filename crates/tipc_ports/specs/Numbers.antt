-- The numbers of a node's ports.
use Rattle.std.specs.Prelude.{ℕ, ◌==◌, ◌+◌, ◌-◌, ◌*◌, ◌%◌, ◌<◌, ◌≤◌, List, not, filter}
use Rattle.std.specs.List.{All, AllPairs}

-- the number of the k-th port of a boot; boots and ports are counted from 1
abbrev pub port_number : ℕ → ℕ → ℕ
port_number boot k = (boot - 1) % 4096 * 1048576 + k

-- a node's ports in one boot: how many were made, and those that are there, in the order in which they were made
pub record PortTable : Type 0 where
  pub boot : ℕ
  pub made : ℕ
  pub present : List ℕ

-- the others
abbrev pub without_port : ℕ → List ℕ → List ℕ
without_port port ports = filter (λ other. not (port == other)) ports

-- These ports are among the first so many of the boot, in the order in which they were made.
pub record ArePresent (boot made : ℕ) (ports : List ℕ) : Type 0 where
  pub above : All (λ port. port_number boot 1 ≤ port) ports
  pub below : All (λ port. port ≤ port_number boot made) ports
  pub rising : AllPairs (λ port later. port < later) ports
