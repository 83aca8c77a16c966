-- What is answered to a fragment, by its cases.
use Rattle.std.proofs.Common.{◌≡◌, ℕ, true, false, Option, Some, None, Ok, Err, IfErr, IfOk, refl, sym, ap, ◌∙◌}
use Rattle.tipc_header.specs.declared.fault.HeaderFault.{HeaderFault}
use Rattle.tipc_fragments.specs.declared.joining.Joined.TheVariants.{More}
use Rattle.tipc_fragments.specs.declared.joining.JoinFault.TheVariants.{NotInOrder, TooLong}
use Rattle.tipc_fragments.specs.Cutting.{is_last, Piece}
use Rattle.tipc_fragments.specs.Joining.{after, answer_of, fresh, grown, has_room, is_more, is_next, whole_of, with_fault, IsFault, Joining}

pub answer_of-not_next : (s : Joining) (p : Piece) (by : ℕ) → is_next s p.kind p.number ≡ false → answer_of s p by ≡ Err NotInOrder
unfolding answer_of
answer_of-not_next s p by h = rw h refl

pub answer_of-too_long : (s : Joining) (p : Piece) (by : ℕ) → is_next s p.kind p.number ≡ true → has_room s p.bytes ≡ false
    → answer_of s p by ≡ Err TooLong
unfolding answer_of
answer_of-too_long s p by h room = rw (h, room) refl

pub answer_of-more : (s : Joining) (p : Piece) (by : ℕ) → is_next s p.kind p.number ≡ true → has_room s p.bytes ≡ true
    → is_last p.kind ≡ false → answer_of s p by ≡ Ok More
unfolding answer_of
answer_of-more s p by h room last = rw (h, room, last) refl

pub answer_of-last : (s : Joining) (p : Piece) (by : ℕ) → is_next s p.kind p.number ≡ true → has_room s p.bytes ≡ true
    → is_last p.kind ≡ true → answer_of s p by ≡ whole_of (grown s p.bytes by)
unfolding answer_of
answer_of-last s p by h room last = rw (h, room, last) refl

pub after-more : (s : Joining) (p : Piece) (by : ℕ) → answer_of s p by ≡ Ok More → after s p by ≡ grown s p.bytes by
unfolding after
after-more s p by h = rw h refl

pub after-else : (s : Joining) (p : Piece) (by : ℕ) → is_more (answer_of s p by) ≡ false → after s p by ≡ fresh
unfolding after
after-else s p by h = rw h refl

-- what a last fragment leaves

pub finished_ok : (s : Joining) (p : Piece) (by : ℕ) (whole : Joining) (fault : Option HeaderFault) (new : Joining)
    → answer_of s p by ≡ with_fault whole fault → new ≡ fresh
    → IfOk (with_fault whole fault) (λ joined. (answer_of s p by ≡ Ok joined) × (new ≡ after s p by))
finished_ok s p by whole None new h is = (h, is ∙ sym (after-else s p by (ap is_more h)))
finished_ok s p by whole (Some fault) new h is = tt

pub finished_fault : (s : Joining) (p : Piece) (by : ℕ) (whole : Joining) (fault : Option HeaderFault) (new : Joining)
    → answer_of s p by ≡ with_fault whole fault → new ≡ fresh
    → IfErr (with_fault whole fault) (IsFault s new (answer_of s p by))
finished_fault s p by whole None new h is = tt
finished_fault s p by whole (Some fault) new h is = (h, is)
