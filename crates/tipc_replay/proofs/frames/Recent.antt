-- What a frame says of broadcast that isn't too old is recent: few numbers were used since, by its sender or by the node that hears it.
use Rattle.std.proofs.Common.{◌≡◌, ◌≤◌, ◌+◌, ℕ, true, if◌then◌else◌, List, Option, None, length, ap, ◌∙◌, arith}
use Rattle.std.specs.Prelude.{drop}
use Rattle.tipc_header.specs.declared.frames.FrameKind.TheVariants.{Casts, Links}
use Rattle.tipc_header.specs.declared.packet.Header.TheVariants as header
use Rattle.tipc_header.specs.declared.packet.State.{State}
use Rattle.tipc_header.specs.Faults.{fault_of}
use Rattle.tipc_header.specs.Frames.{first_of, kind_in}
use Rattle.tipc_header.specs.Reading.{fields_at}
use Rattle.tipc_header.specs.Spelling.{Fields}
use Rattle.tipc_contact.specs.Sides.{boot_of}
use Rattle.tipc_node.specs.Nodes.{is_frame_size}
use Rattle.tipc_paired.specs.Views.{er_of, es_of}
use Rattle.tipc_replay.specs.declared.air.Sent.{Sent}
use Rattle.tipc_replay.specs.declared.flying.Aging.TheVariants as aging
use Rattle.tipc_replay.specs.Air.{number_of_node}
use Rattle.tipc_replay.specs.Due.{age_by, age_of, aging_by_fault, aging_by_header, aging_by_kind, aging_of}
use Rattle.tipc_replay.specs.States.{MemberState, cast_count_at}
use Rattle.tipc_replay.proofs.frames.Reaching.{link_aging}

state_aging : (f : Sent) (p : Fields) (said : State) → is_frame_size (length f.frame) ≡ true → fault_of (drop 16 f.frame) ≡ None → fields_at (drop 16 f.frame) ≡ p → kind_in f.frame ≡ Links → p.header ≡ header.State said
    → aging_of f.frame ≡ aging.State (es_of f.frame) (er_of f.frame)
state_aging f p said size clear is kind states = link_aging f p size clear is kind ∙ ap (aging_by_header (es_of f.frame) (er_of f.frame)) states

-- a STATE to node n: of the broadcast of n
pub state_recent : (members : List (Option MemberState)) (f : Sent) (n bearer : ℕ) (p : Fields) (said : State) → is_frame_size (length f.frame) ≡ true → fault_of (drop 16 f.frame) ≡ None → fields_at (drop 16 f.frame) ≡ p → kind_in f.frame ≡ Links
    → p.header ≡ header.State said → age_of members f n bearer ≤ 30000 → cast_count_at members n f.peer_boot ≤ f.peer_casts + 30000
unfolding age_of
state_recent members f n bearer p said size clear is kind states young =
    let age = ap (age_by members f n bearer) (state_aging f p said size clear is kind states) in
    omega (arith, age, young)

-- and of the broadcast of its sender, in the boot of its epoch
pub state_cast_recent : (members : List (Option MemberState)) (f : Sent) (n bearer : ℕ) (p : Fields) (said : State) → is_frame_size (length f.frame) ≡ true → fault_of (drop 16 f.frame) ≡ None → fields_at (drop 16 f.frame) ≡ p → kind_in f.frame ≡ Links
    → p.header ≡ header.State said → age_of members f n bearer ≤ 30000 → cast_count_at members (number_of_node f.from.word) (boot_of (es_of f.frame)) ≤ f.casts + 30000
unfolding age_of
state_cast_recent members f n bearer p said size clear is kind states young =
    let age = ap (age_by members f n bearer) (state_aging f p said size clear is kind states) in
    omega (arith, age, young)

cast_aging : (f : Sent) → is_frame_size (length f.frame) ≡ true → fault_of (drop 16 f.frame) ≡ None → kind_in f.frame ≡ Casts → aging_of f.frame ≡ aging.Cast (first_of f.frame)
unfolding aging_of
cast_aging f size clear kind =
    ap (λ b. if b then aging_by_fault f.frame (fault_of (drop 16 f.frame)) else aging.Never) size
    ∙ ap (aging_by_fault f.frame) clear ∙ ap (λ k. aging_by_kind f.frame k (fields_at (drop 16 f.frame)).header) kind

-- a broadcast packet: of the broadcast of its sender, in the boot of its envelope
pub cast_recent : (members : List (Option MemberState)) (f : Sent) (n bearer : ℕ) → is_frame_size (length f.frame) ≡ true → fault_of (drop 16 f.frame) ≡ None → kind_in f.frame ≡ Casts → age_of members f n bearer ≤ 30000
    → cast_count_at members (number_of_node f.from.word) (first_of f.frame) ≤ f.casts + 30000
unfolding age_of
cast_recent members f n bearer size clear kind young =
    let age = ap (age_by members f n bearer) (cast_aging f size clear kind) in
    omega (arith, age, young)
