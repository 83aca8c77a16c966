-- The STATE that is due, where an arrival brought something of the broadcast.
use Rattle.std.proofs.Common.{◌≡◌, ℕ, Bool, true, false, [], ◌∷◌, refl, sym, subst}
use Rattle.tipc_types.specs.declared.link_words.BroadcastState.{BroadcastState}
use Rattle.tipc_outside.specs.declared.outgoing.Outgoing.{Outgoing}
use Rattle.tipc_outside.specs.Frames.{Adds, Out}
use Rattle.tipc_outside.proofs.Adding.{adds_none}
use Rattle.tipc_link.specs.Sessions.{SessionEnd, answer_frames, is_due, state_fields, state_frame, with_broadcast}

-- what is counted doesn't bear on what a STATE says
pub state_counted : (e : SessionEnd) (taken : ℕ) (asks : Bool) (shown : BroadcastState) (probe : Bool) → state_frame (with_broadcast e taken asks) shown probe ≡ state_frame e shown probe
unfolding state_fields
state_counted e taken asks shown probe = refl

-- the frames where one is due, and where none is
pub due_frames : (e : SessionEnd) (taken : ℕ) (asks : Bool) (shown : BroadcastState) (a b : Out) → is_due (with_broadcast e taken asks) ≡ true
    → Adds a b (state_frame e shown false ∷ []) → Adds a b (answer_frames (with_broadcast e taken asks) shown)
due_frames e taken asks shown a b due sent = rw due (subst (λ (f : Outgoing). Adds a b (f ∷ [])) (sym (state_counted e taken asks shown false)) sent)

pub undue_frames : (e : SessionEnd) (taken : ℕ) (asks : Bool) (shown : BroadcastState) (a : Out) → is_due (with_broadcast e taken asks) ≡ false
    → Adds a a (answer_frames (with_broadcast e taken asks) shown)
undue_frames e taken asks shown a undue = rw undue (adds_none a)
