-- What an answer of the joiner tells of the fragment that it answers.
use Rattle.std.proofs.Common.{◌≡◌, ℕ, Bool, true, false, List, [], ◌∷◌, ◌++◌, Option, Some, None, Result, Ok, Err, refl, sym, ap, ◌∙◌}
use Rattle.std.specs.Prelude.{not, if◌then◌else◌}
use Rattle.tipc_header.specs.declared.fault.HeaderFault.{HeaderFault}
use Rattle.tipc_header.specs.Faults.{fault_of}
use Rattle.tipc_fragments.specs.declared.joining.Joined.{Joined}
use Rattle.tipc_fragments.specs.declared.joining.Joined.TheVariants.{More, Whole}
use Rattle.tipc_fragments.specs.declared.joining.JoinFault.{JoinFault}
use Rattle.tipc_fragments.specs.declared.joining.JoinFault.TheVariants.{NotInOrder, TooLong, BadMessage, NoMemory}
use Rattle.tipc_fragments.specs.Cutting.{is_last, Piece}
use Rattle.tipc_fragments.specs.Joining.{after, answer_of, grown, has_room, is_more, is_next, IsFault, Joining, whole_of, with_fault}
use Rattle.tipc_fragments.proofs.JoinLaws.{after-else}
use Rattle.tipc_reassembly.specs.declared.opening.Opened.{Opened}
use Rattle.tipc_reassembly.specs.Opening.{joined_members}

-- It ends the message that is begun, and this is the message, with these arrivals.
pub record Ends (s : Joining) (p : Piece) (by : ℕ) (message bys : List ℕ) : Type 0 where
  pub next : is_next s p.kind p.number ≡ true
  pub last : is_last p.kind ≡ true
  pub bytes : message ≡ s.bytes ++ p.bytes
  pub arrivals : bys ≡ s.arrivals ++ by ∷ []
  pub packet : fault_of message ≡ None

-- the answer by its tests
abbrev chosen : Bool → Bool → Bool → Result Joined JoinFault → Result Joined JoinFault
chosen next room last whole = if not next then Err NotInOrder else (if not room then Err TooLong else (if last then whole else Ok More))

chosen_whole : (next room last : Bool) (whole : Result Joined JoinFault) (message arrivals : List ℕ)
    → chosen next room last whole ≡ Ok (Whole message arrivals) → (next ≡ true) × (last ≡ true) × (whole ≡ Ok (Whole message arrivals))
chosen_whole false room last whole message arrivals e = absurd cc
chosen_whole true false last whole message arrivals e = absurd cc
chosen_whole true true false whole message arrivals e = absurd cc
chosen_whole true true true whole message arrivals e = (refl, refl, e)

whole_is : (s : Joining) (fault : Option HeaderFault) (message arrivals : List ℕ) → with_fault s fault ≡ Ok (Whole message arrivals)
    → (fault ≡ None) × (s.bytes ≡ message) × (s.arrivals ≡ arrivals)
whole_is s None message arrivals e = (refl, cc, cc)
whole_is s (Some fault) message arrivals e = absurd cc

pub answer_whole : (s : Joining) (p : Piece) (by : ℕ) (message arrivals : List ℕ) → answer_of s p by ≡ Ok (Whole message arrivals) → Ends s p by message arrivals
unfolding answer_of
answer_whole s p by message arrivals e =
    let tests = chosen_whole (is_next s p.kind p.number) (has_room s p.bytes) (is_last p.kind) (whole_of (grown s p.bytes by)) message arrivals e in
    let is = whole_is (grown s p.bytes by) (fault_of (grown s p.bytes by).bytes) message arrivals tests.2 in
    record {
      next = tests.0;
      last = tests.1;
      bytes = sym is.1;
      arrivals = sym is.2;
      packet = ap fault_of (sym is.1) ∙ is.0;
    }

-- It is added to the message that is begun.
pub record Adds (s : Joining) (p : Piece) : Type 0 where
  pub next : is_next s p.kind p.number ≡ true
  pub last : is_last p.kind ≡ false

whole_ends : (s : Joining) (fault : Option HeaderFault) → with_fault s fault ≡ Ok More → ⊥
whole_ends s None e = absurd cc
whole_ends s (Some fault) e = absurd cc

chosen_more : (next room last : Bool) (s : Joining) → chosen next room last (whole_of s) ≡ Ok More → (next ≡ true) × (last ≡ false)
chosen_more false room last s e = absurd cc
chosen_more true false last s e = absurd cc
chosen_more true true false s e = (refl, refl)
chosen_more true true true s e = absurd (whole_ends s (fault_of s.bytes) e)

pub answer_more : (s : Joining) (p : Piece) (by : ℕ) → answer_of s p by ≡ Ok More → Adds s p
unfolding answer_of
answer_more s p by e =
    let tests = chosen_more (is_next s p.kind p.number) (has_room s p.bytes) (is_last p.kind) (grown s p.bytes by) e in
    record { next = tests.0; last = tests.1 }

-- A fault that isn't want of memory is the answer, and leaves what is to be left.
pub answer_fault : (s new : Joining) (p : Piece) (by : ℕ) (fault : JoinFault) → (fault ≡ NoMemory → ⊥) → IsFault s new (answer_of s p by) fault
    → (answer_of s p by ≡ Err fault) × (new ≡ after s p by)
answer_fault s new p by NotInOrder other is = (is.0, is.1 ∙ sym (after-else s p by (ap is_more is.0)))
answer_fault s new p by TooLong other is = (is.0, is.1 ∙ sym (after-else s p by (ap is_more is.0)))
answer_fault s new p by (BadMessage fault) other is = (is.0, is.1 ∙ sym (after-else s p by (ap is_more is.0)))
answer_fault s new p by NoMemory other is = absurd (other refl)

-- what is made of an answer
pub makes : (old s new : Joining) (p : Piece) (by : ℕ) (answer : Result Joined JoinFault) (opened : List Opened) → s ≡ old
    → answer_of s p by ≡ answer → opened ≡ joined_members answer → new ≡ after s p by
    → (opened ≡ joined_members (answer_of old p by)) × (new ≡ after old p by)
makes old s new p by answer opened same answered brought left =
    (brought ∙ ap joined_members (sym answered ∙ ap (λ (x : Joining). answer_of x p by) same), left ∙ ap (λ (x : Joining). after x p by) same)

-- a list with one put into it
pub one_pushed : (opened items old : List Opened) (x : Opened) → opened ≡ items → items ≡ old ++ x ∷ [] → old ≡ [] → opened ≡ x ∷ []
one_pushed opened items old x same pushed empty = same ∙ pushed ∙ ap (λ (xs : List Opened). xs ++ x ∷ []) empty
