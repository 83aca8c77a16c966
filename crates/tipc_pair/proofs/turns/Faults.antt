-- A whole packet that was given breaks no rule of the header.
use Rattle.std.proofs.Common.{◌≡◌, ℕ, true, false, List, [], ◌∷◌, None, Result, Ok, Err, refl, sym, subst, ap, ◌∙◌, if◌then◌else◌}
use Rattle.std.specs.Prelude.{All, slice_index_or}
use Rattle.std.proofs.lemmas.List.Elements.{All-append, All-map, All-nil}
use Rattle.tipc_types.specs.declared.packet_lists.Taken.{Taken}
use Rattle.tipc_types.specs.declared.link_words.BroadcastState.{BroadcastState}
use Rattle.tipc_header.specs.Faults.{fault_of}
use Rattle.tipc_header.specs.Spelling.{Fields}
use Rattle.tipc_header.specs.Reading.{fields_at}
use Rattle.tipc_header.proofs.Again.{no_fault}
use Rattle.tipc_bundle.specs.Bundles.{IsInner}
use Rattle.tipc_fragments.specs.declared.joining.Joined.{Joined}
use Rattle.tipc_fragments.specs.declared.joining.Joined.TheVariants as joined
use Rattle.tipc_fragments.specs.declared.joining.JoinFault.{JoinFault}
use Rattle.tipc_fragments.specs.Cutting.{Piece}
use Rattle.tipc_fragments.specs.Joining.{Joining, answer_of}
use Rattle.tipc_recv_window.specs.declared.outcomes.LinkOutcome.{LinkOutcome}
use Rattle.tipc_reassembly.specs.declared.opening.Opened.{Opened}
use Rattle.tipc_reassembly.specs.declared.opening.Opened.TheVariants.{Whole, Passed}
use Rattle.tipc_reassembly.specs.Opening.{bad_bundle, Brings, BringsAll, brought_by, bundle, fragment, go_on, is_payload, joined_members, message, none, other}
use Rattle.tipc_reassembly.proofs.AnswerLaws.{answer_whole}
use Rattle.tipc_pair.specs.declared.changes.PairOutcome.{PairOutcome}
use Rattle.tipc_pair.specs.Messages.{OpensTo, deferred, ignored, opened_in, took, HasNoFault}
use Rattle.tipc_pair.specs.declared.preparing.Way.{Way}
use Rattle.tipc_pair.specs.declared.preparing.Way.TheVariants as way
use Rattle.tipc_pair.specs.Courses.{Course}
use Rattle.tipc_pair.specs.Facing.{PairEnds, facing}
use Rattle.tipc_pair.specs.PairArrivals.{OpensInto, with_bytes}
use Rattle.tipc_pair.specs.PairArrivals.OpensInto.{opens, deferred as put_off, ignored as passed_by}
use Rattle.tipc_pair.specs.Preparing.{IsPrepared, Prepared, Prepares}
use Rattle.tipc_pair.proofs.Pieces.{All-one}

inner_sound : (bytes : List ℕ) → IsInner bytes → fault_of bytes ≡ None
inner_sound bytes h = ap fault_of h.spelled ∙ no_fault h.packet h.fits

passed_sound : (place : ℕ) → All HasNoFault (Passed place ∷ [])
passed_sound place = All-one HasNoFault (Passed place) tt

-- a message that was joined
members_sound : (s : Joining) (piece : Piece) (by : ℕ) (answer : Result Joined JoinFault) → answer_of s piece by ≡ answer → All HasNoFault (joined_members answer)
members_sound s piece by (Ok joined.More) is = All-nil HasNoFault
members_sound s piece by (Ok (joined.Whole whole arrivals)) is =
    elim (is_payload (fields_at whole).header) as (λ b. All HasNoFault (if b then Whole whole arrivals ∷ [] else Passed 0 ∷ [])) [
      | true ↦ All-one HasNoFault (Whole whole arrivals) (answer_whole s piece by whole arrivals is).packet
      | false ↦ passed_sound 0
    ]
members_sound s piece by (Err fault) is = passed_sound 0

one_sound : (s : Joining) (bytes : List ℕ) (by : ℕ) (opened : List Opened) (last : Joining) → Brings s bytes by opened last → All HasNoFault opened
one_sound s bytes by opened last (message inner) = All-one HasNoFault (brought_by by bytes) (inner_sound bytes inner)
one_sound s bytes by opened last (bundle {packets = packets} bundled stand) = All-map HasNoFault (brought_by by) packets (λ k d within. inner_sound (slice_index_or packets k d) (stand.inner k d within))
one_sound s bytes by opened last (bad_bundle {place = place} bundled bad) = passed_sound place
one_sound s bytes by opened last (fragment {piece = piece} is) = members_sound s piece by (answer_of s piece by) refl
one_sound s bytes by opened last (other no_inner no_bundle no_fragment) = passed_sound 0

all_sound : (s : Joining) (taken : List Taken) (opened : List Opened) (last : Joining) → BringsAll s taken opened last → All HasNoFault opened
all_sound s taken opened last none = All-nil HasNoFault
all_sound s taken opened last (go_on {between = between} {packet = packet} {packets = packets} {opened = first} {more = more} one rest) =
    All-append HasNoFault first more (one_sound s packet.packet packet.by first between one) (all_sound between packets more last rest)

pub opens_sound : (begun last : Joining) (o : LinkOutcome) (out : PairOutcome) → OpensTo begun o out last → All HasNoFault (opened_in out)
opens_sound begun last _ _ (took {taken = taken} {opened = opened} brings) = all_sound begun taken opened last brings
opens_sound begun last _ _ deferred = All-nil HasNoFault
opens_sound begun last _ _ ignored = All-nil HasNoFault

into_sound : (x : PairEnds) (o : LinkOutcome) (c : Course) (out : PairOutcome) → OpensInto x o c out → All HasNoFault (opened_in out)
into_sound x _ _ _ (opens {carried = carried} {c = c} {given = given} {last = last} unwraps brings) = all_sound c.pair.begun (with_bytes carried) given last brings
into_sound x _ _ _ put_off = All-nil HasNoFault
into_sound x _ _ _ passed_by = All-nil HasNoFault

-- what is told of a packet before it is taken
pub prepared_sound : (x : PairEnds) (es er : ℕ) (p : Fields) (by : ℕ) (shown : BroadcastState) (a : Prepared) → Prepares x es er p by shown a → All HasNoFault (opened_in a.outcome)
prepared_sound x es er p by shown a h = of a.way a.outcome h.told
  where
    of : (w : Way) (given : PairOutcome) → IsPrepared (facing a.bearer x) es er p by shown w given → All HasNoFault (opened_in given)
    of way.Passes given told = subst (λ (g : PairOutcome). All HasNoFault (opened_in g)) (sym told.1) (All-nil HasNoFault)
    of (way.Quiet arriving begun) given told = opens_sound (facing a.bearer x).begun begun arriving.hearing.outcome given told.2
    of (way.Whole ends leaving) given told = let a = told.1 in into_sound _ _ a.opened given a.opens
