-- The age of a frame.
use Rattle.std.proofs.Common.{◌≡◌, ◌≤◌, ◌<◌, ◌⊎◌, ℕ, Bool, true, false, List, Option, Some, None, length, max, inl, inr, ap, arith}
use Rattle.std.proofs.lemmas.Bool.Decides.{nat_tests}
use Rattle.std.specs.Prelude.{if◌then◌else◌, drop, slice_get}
use Rattle.tipc_types.specs.Address.{node_word}
use Rattle.tipc_header.specs.declared.fault.HeaderFault.{HeaderFault}
use Rattle.tipc_header.specs.declared.frames.FrameKind.{FrameKind}
use Rattle.tipc_header.specs.declared.frames.FrameKind.TheVariants.{Casts, Finds, Links}
use Rattle.tipc_header.specs.declared.packet.Header.{Header}
use Rattle.tipc_header.specs.Faults.{fault_of}
use Rattle.tipc_header.specs.Frames.{first_of, kind_in}
use Rattle.tipc_header.specs.Reading.{fields_at}
use Rattle.tipc_link.specs.Links.{is_traffic}
use Rattle.tipc_node.specs.Nodes.{is_frame_size}
use Rattle.tipc_paired.specs.Views.{er_of, es_of}
use Rattle.tipc_replay.specs.declared.air.Sent.{Sent}
use Rattle.tipc_replay.specs.Air.{number_of_node}
use Rattle.tipc_replay.specs.declared.flying.Aging.TheVariants as aging
use Rattle.tipc_replay.specs.Due.{age_by, age_of, aging_by_fault, aging_by_header, aging_by_kind, aging_of, cast_age, frame_for, is_for, is_state, kept_for, state_age}
use Rattle.tipc_replay.specs.Skies.{AirState, air_on}
use Rattle.tipc_replay.specs.States.{MemberState}

pub number_is : (word n : ℕ) → word ≡ node_word n → number_of_node word ≡ n
number_is word n is = omega (arith, is)

-- ---- no frame is older than the largest of all counts

-- that largest one
abbrev pub most_of_all : List (Option MemberState) → Sent → ℕ → ℕ → ℕ
most_of_all members f n bearer = max (state_age members f n bearer (es_of f.frame) (er_of f.frame)) (cast_age members f (first_of f.frame))

header_within : (members : List (Option MemberState)) (f : Sent) (n bearer : ℕ) (h : Header) → age_by members f n bearer (aging_by_header (es_of f.frame) (er_of f.frame) h) ≤ most_of_all members f n bearer
header_within members f n bearer h = by (is_traffic h) (is_state h)
  where
    by : (b c : Bool) → age_by members f n bearer (if b then (if c then aging.State (es_of f.frame) (er_of f.frame) else aging.Numbered (es_of f.frame) (er_of f.frame)) else aging.Never) ≤ most_of_all members f n bearer
    by true true = grind arith
    by true false = grind arith
    by false c = grind arith

kind_within : (members : List (Option MemberState)) (f : Sent) (n bearer : ℕ) (k : FrameKind) (h : Header) → age_by members f n bearer (aging_by_kind f.frame k h) ≤ most_of_all members f n bearer
kind_within members f n bearer Finds h = grind arith
kind_within members f n bearer Casts h = grind arith
kind_within members f n bearer Links h = header_within members f n bearer h

fault_within : (members : List (Option MemberState)) (f : Sent) (n bearer : ℕ) (fault : Option HeaderFault) → age_by members f n bearer (aging_by_fault f.frame fault) ≤ most_of_all members f n bearer
fault_within members f n bearer None = kind_within members f n bearer (kind_in f.frame) (fields_at (drop 16 f.frame)).header
fault_within members f n bearer (Some fault) = grind arith

pub age_within : (members : List (Option MemberState)) (f : Sent) (n bearer : ℕ) → age_of members f n bearer ≤ most_of_all members f n bearer
unfolding age_of aging_of
age_within members f n bearer = sized (is_frame_size (length f.frame))
  where
    sized : (b : Bool) → age_by members f n bearer (if b then aging_by_fault f.frame (fault_of (drop 16 f.frame)) else aging.Never) ≤ most_of_all members f n bearer
    sized true = fault_within members f n bearer (fault_of (drop 16 f.frame))
    sized false = grind arith

-- ---- what has no frame's size has no age

unsized : (m : ℕ) → (m < 16) ⊎ (1516 < m) → is_frame_size m ≡ false
unsized m (inl few) = grind (arith, nat_tests, few)
unsized m (inr many) = grind (arith, nat_tests, many)

pub unsized_age : (members : List (Option MemberState)) (f : Sent) (n bearer : ℕ) → (length f.frame < 16) ⊎ (1516 < length f.frame) → age_of members f n bearer ≡ 0
unfolding age_of aging_of
unsized_age members f n bearer size =
    ap (λ b. age_by members f n bearer (if b then aging_by_fault f.frame (fault_of (drop 16 f.frame)) else aging.Never)) (unsized (length f.frame) size)

kept_is : (o : Option Sent) (n : ℕ) (f : Sent) → kept_for o n ≡ Some f → o ≡ Some f
kept_is None n f e = absurd cc
kept_is (Some g) n f e = by (is_for g.from g.to n) e
  where
    by : (b : Bool) → (if b then Some g else None) ≡ Some f → Some g ≡ Some f
    by true e = e
    by false e = absurd cc

-- a frame for a node stands at its place in the air of its bearer
pub frame_is_there : (air : AirState) (n bearer k : ℕ) (f : Sent) → frame_for air n bearer k ≡ Some f → slice_get (air_on bearer air) k ≡ Some f
unfolding frame_for
frame_is_there air n bearer k f e = kept_is (slice_get (air_on bearer air) k) n f e
