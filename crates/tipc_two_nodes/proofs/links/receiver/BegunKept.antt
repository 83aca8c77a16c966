-- The message that is begun at a pair stays so in what follows at its links, or the contact is over: for steps that take no link up.
use Rattle.std.proofs.Common.{◌≡◌, ◌<◌, ◌≤◌, ◌⊎◌, ℕ, List, true, false, if◌then◌else◌, Option, Some, None, option_map, refl, inl, inr, arith, ◌∙◌}
use Rattle.tipc_header.specs.declared.packet.ChangeoverType.{ChangeoverType}
use Rattle.tipc_header.specs.declared.packet.ChangeoverType.TheVariants as kind
use Rattle.tipc_types.specs.declared.packet_lists.Taken.{Taken}
use Rattle.tipc_tunnel.specs.Tunnels.{Tunnelled}
use Rattle.tipc_link.specs.Links.{LinkEnd, tunnelled_down}
use Rattle.tipc_link.specs.Sessions.{SessionEnd}
use Rattle.tipc_link_fsm.specs.declared.changes.Change.{Change}
use Rattle.tipc_link_fsm.specs.declared.changes.Change.TheVariants.{Down, Up}
use Rattle.tipc_link_fsm.specs.Table.{on_peer_tunnel}
use Rattle.tipc_link_fsm.proofs.Moves.{is_going_up}
use Rattle.tipc_pair.specs.Changeovers.{contact_ends, fail_over, fail_over_to, failing, following, is_clear, let_go, let_go_frames, release_near, released}
use Rattle.tipc_pair.specs.Courses.{Course, going_on, rests}
use Rattle.tipc_pair.specs.Facing.{PairEnds, is_up_at, turned, with_near}
use Rattle.tipc_pair.specs.PairArrivals.{Unwraps, as_it_is, inner_at, none_taken, taken_down, tunnel, tunnelled_at}
use Rattle.tipc_pair.proofs.EndSteps.{tunnel_quiet}

-- the same message is begun, or the node has a later contact number
pub record KeepsBegun (p q : PairEnds) : Type 0 where
  pub later : p.contact ≤ q.contact
  pub begun : (q.begun ≡ p.begun) ⊎ (p.contact < q.contact)

pub begun_same : (p q : PairEnds) → q.contact ≡ p.contact → q.begun ≡ p.begun → KeepsBegun p q
begun_same p q contact begun = record { later = omega arith; begun = inl begun }

pub begun_then : (p q r : PairEnds) → KeepsBegun p q → KeepsBegun q r → KeepsBegun p r
begun_then p q r f s =
    let one = f.later in
    let two = s.later in
    record {
      later = omega arith;
      begun = elim s.begun [
        | inr more ↦ inr (omega arith)
        | inl same ↦ elim f.begun [ inr more ↦ inr (omega arith) | inl before ↦ inl (same ∙ before) ]
      ];
    }

-- ---- what follows

failing_begun : (z : PairEnds) (near far : LinkEnd) (lost s : Option SessionEnd) → KeepsBegun z (failing z near far lost s).pair
failing_begun z near far None s = begun_same z z refl refl
failing_begun z near far (Some l) None = begun_same z z refl refl
failing_begun z near far (Some l) (Some s) = begun_same z _ refl refl

fail_begun : (z : PairEnds) (near far : Option LinkEnd) → KeepsBegun z (fail_over_to z near far).pair
fail_begun z None far = begun_same z z refl refl
fail_begun z (Some e) None = begun_same z z refl refl
fail_begun z (Some e) (Some f) = failing_begun z e f e.session f.session

pub following_begun : (z : PairEnds) (k : Change) (epoch : ℕ) → is_going_up k ≡ false → KeepsBegun z (following z k epoch).pair
following_begun z Up epoch quiet = absurd (let wrong : ⊥ = cc in wrong)
following_begun z (Down cause) epoch quiet = elim (is_up_at z.far) as (λ t. KeepsBegun z (if t then fail_over z else contact_ends z (z.contact, z.seen) 0).pair) [
  | true ↦ fail_begun z z.near z.far
  | false ↦ record { later = omega arith; begun = inr (omega arith) }
]
following_begun z other epoch quiet = begun_same z z refl refl

-- ---- held ends are released

release_same : (x : PairEnds) → ((release_near x).pair.begun ≡ x.begun) × ((release_near x).pair.contact ≡ x.contact)
release_same x = elim (is_clear x.far) as (λ t. ((if t then record (rests (record x { near = option_map let_go x.near })) { states = let_go_frames x.near } else rests x).pair.begun ≡ x.begun) × ((if t then record (rests (record x { near = option_map let_go x.near })) { states = let_go_frames x.near } else rests x).pair.contact ≡ x.contact)) [
  | true ↦ (refl, refl)
  | false ↦ (refl, refl)
]

pub released_same : (x : PairEnds) → ((released x).pair.begun ≡ x.begun) × ((released x).pair.contact ≡ x.contact)
unfolding released going_on
released_same x =
    let one = release_same x in
    let next = release_same (turned (release_near x).pair) in
    (next.0 ∙ one.0, next.1 ∙ one.1)

pub released_begun : (x : PairEnds) → KeepsBegun x (released x).pair
released_begun x = (let same = released_same x in begun_same x (released x).pair same.1 same.0)

-- ---- what is opened

inner_begun : (t : Tunnelled) (by : ℕ) (y : PairEnds) (o : Option LinkEnd) → KeepsBegun y (inner_at t by y o).pair
inner_begun t by y None = begun_same y y refl refl
inner_begun t by y (Some e) = begun_same y _ refl refl

tunnelled_begun : (epoch : ℕ) (y : PairEnds) (o : Option LinkEnd) → KeepsBegun y (tunnelled_at epoch y o).pair
tunnelled_begun epoch y None = begun_same y y refl refl
tunnelled_begun epoch y (Some e) = (let z = with_near y (tunnelled_down e epoch) in begun_then y z _ (begun_same y z refl refl) (following_begun z (on_peer_tunnel e.fsm epoch).change epoch (tunnel_quiet e.fsm epoch)))

taken_down_begun : (k : ChangeoverType) (epoch : ℕ) (y : PairEnds) → KeepsBegun y (taken_down k epoch y).pair
taken_down_begun kind.Duplicate epoch y = begun_same y y refl refl
taken_down_begun kind.Original epoch y = (let h = tunnelled_begun epoch (turned y) y.far in record { later = h.later; begun = h.begun })

pub unwraps_begun : (y : PairEnds) (taken : List Taken) (c : Course) (carried : List Taken) → Unwraps y taken c carried → KeepsBegun y c.pair
unfolding going_on
unwraps_begun y taken c carried none_taken = begun_same y y refl refl
unwraps_begun y taken c carried (as_it_is first others not_far) = begun_same y y refl refl
unwraps_begun y taken c carried (tunnel first others v far) =
    let z = (taken_down v.kind v.old.epoch y).pair in
    begun_then y z _ (taken_down_begun v.kind v.old.epoch y) (inner_begun v first.by z z.far)
