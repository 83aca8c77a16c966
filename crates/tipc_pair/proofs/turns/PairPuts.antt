-- Messages that are put on the active link of a pair, and a STATE that leaves, change nothing of the contact, or of the states of the links.
use Rattle.std.specs.Prelude.{◌||◌, ◌==◌, if◌then◌else◌}
use Rattle.std.proofs.Common.{◌≡◌, ◌∙◌, ◌++◌, ℕ, Bool, true, false, List, ◌∷◌, Option, Some, None, option_map, refl, sym, subst, ap, append_assoc}
use Rattle.tipc_types.specs.LinkStates.{is_up}
use Rattle.tipc_types.specs.declared.link_words.BroadcastState.{BroadcastState}
use Rattle.tipc_outside.specs.declared.outgoing.Outgoing.{Outgoing}
use Rattle.tipc_link_fsm.specs.Table.{Fsm}
use Rattle.tipc_link.specs.Links.{LinkEnd, answered_with, with_session}
use Rattle.tipc_link.specs.Sessions.{answered, flushed, with_broadcast}
use Rattle.tipc_pair.specs.Facing.{PairEnds, active, contact_between, facing, in_contact, is_up_at, turned, with_near}
use Rattle.tipc_pair.specs.PairCalls.{Puts, answered_at, answered_near, at_bearer}
use Rattle.tipc_pair.specs.PairTurns.{PutsAll, PutsOne, Reply, replied}
use Rattle.tipc_pair.specs.PairTurns.PutsAll.{none_put, puts_one}
use Rattle.tipc_pair.specs.Messages.{pieces_for}
use Rattle.tipc_pair.proofs.HeldLaws.{or_turns}

-- the link states of an end, where there is one
abbrev pub states_at : Option LinkEnd → Option Fsm
states_at end = option_map (λ (e : LinkEnd). e.fsm) end

-- The contact numbers and the link states of two pairs, seen from the same link, are the same.
pub record IsAs (x y : PairEnds) : Type 0 where
  pub contact : y.contact ≡ x.contact
  pub seen : y.seen ≡ x.seen
  pub near : states_at y.near ≡ states_at x.near
  pub far : states_at y.far ≡ states_at x.far

pub as_itself : (x : PairEnds) → IsAs x x
as_itself x = record { contact = refl; seen = refl; near = refl; far = refl }

-- whether a link is up is told by its states
abbrev up_by : Option Fsm → Bool
up_by None = false
up_by (Some f) = is_up f.state

pub up_is : (end : Option LinkEnd) → is_up_at end ≡ up_by (states_at end)
up_is None = refl
up_is (Some e) = refl

pub same_up : (a b : Option LinkEnd) → states_at b ≡ states_at a → is_up_at b ≡ is_up_at a
same_up a b same = up_is b ∙ (ap up_by same ∙ sym (up_is a))

pub as_in_contact : (x y : PairEnds) → IsAs x y → in_contact y ≡ in_contact x
as_in_contact x y h = ap (λ b. b || is_up_at y.far) (same_up x.near y.near h.near) ∙ ap (λ b. is_up_at x.near || b) (same_up x.far y.far h.far)

-- ---- from either link

-- the contact of a pair is the same from either link
pub record MeetsAs (x y : PairEnds) : Type 0 where
  pub contact : y.contact ≡ x.contact
  pub seen : y.seen ≡ x.seen
  pub there : in_contact y ≡ in_contact x

pub meets_itself : (x : PairEnds) → MeetsAs x x
meets_itself x = record { contact = refl; seen = refl; there = refl }

pub meets_then : (x y z : PairEnds) → MeetsAs x y → MeetsAs y z → MeetsAs x z
meets_then x y z h k = record { contact = k.contact ∙ h.contact; seen = k.seen ∙ h.seen; there = k.there ∙ h.there }

pub meets_facing : (bearer : ℕ) (x : PairEnds) → MeetsAs x (facing bearer x)
unfolding facing
meets_facing bearer x = elim (x.bearer == bearer) as (λ b. MeetsAs x (if b then x else turned x)) [
  | true ↦ meets_itself x
  | false ↦ record { contact = refl; seen = refl; there = or_turns (is_up_at x.far) (is_up_at x.near) }
]

meets_by : (x y : PairEnds) → IsAs x y → MeetsAs x y
meets_by x y h = record { contact = h.contact; seen = h.seen; there = as_in_contact x y h }

pub meets_contact : (x y : PairEnds) → MeetsAs x y → contact_between y ≡ contact_between x
meets_contact x y h =
    ap (λ b. if b then Some (y.contact, y.seen) else None) h.there
    ∙ (ap (λ n. if in_contact x then Some (n, y.seen) else None) h.contact ∙ ap (λ n. if in_contact x then Some (x.contact, n) else None) h.seen)

-- a step at the link of a bearer that changes none of it
meets_at : (bearer : ℕ) (x y : PairEnds) → IsAs (facing bearer x) y → MeetsAs x (facing x.bearer y)
meets_at bearer x y h = meets_then x (facing bearer x) (facing x.bearer y) (meets_facing bearer x) (meets_then (facing bearer x) y (facing x.bearer y) (meets_by (facing bearer x) y h) (meets_facing x.bearer y))

near_as : (x : PairEnds) (e new : LinkEnd) → x.near ≡ Some e → new.fsm ≡ e.fsm → IsAs x (with_near x new)
near_as x e new is same = record { contact = refl; seen = refl; near = ap Some same ∙ sym (ap states_at is); far = refl }

put_there : (x y : PairEnds) (pieces : List (List ℕ)) (fs : List Outgoing) → Puts x pieces y fs → IsAs x y
put_there x y pieces fs h = subst (IsAs x) (sym h.after) (near_as x h.end (with_session h.end (flushed h.put)) h.end_is refl)

pub put_meets : (x : PairEnds) (pieces : List (List ℕ)) (y : PairEnds) (fs : List Outgoing) → PutsOne x pieces y fs → MeetsAs x y
put_meets x pieces y fs h = subst (MeetsAs x) (sym h.after) (meets_at h.bearer x h.near (put_there (facing h.bearer x) h.near pieces fs h.puts))

pub puts_meet : (x : PairEnds) (messages : List (List ℕ)) (fs : List Outgoing) (y : PairEnds) → PutsAll x messages fs y → MeetsAs x y
puts_meet x _ _ _ (none_put _) = meets_itself x
puts_meet x _ _ y (puts_one _ between _ m messages first fs one all) = meets_then x between y (put_meets x (pieces_for m) between first one) (puts_meet between messages fs y all)

-- an end that answers
pub answered_states : (e : LinkEnd) (taken : ℕ) (asks : Bool) → (answered_with e taken asks).fsm ≡ e.fsm
answered_states e taken asks = by (is_up e.fsm.state)
  where
    by : (b : Bool) → (if b then record e { session = option_map (λ s. answered (with_broadcast s taken asks)) e.session } else e).fsm ≡ e.fsm
    by true = refl
    by false = refl

answer_as : (x : PairEnds) (end : Option LinkEnd) (taken : ℕ) (asks : Bool) (shown : BroadcastState) → x.near ≡ end → IsAs x (answered_at x end taken asks shown).pair
answer_as x None taken asks shown is = as_itself x
answer_as x (Some e) taken asks shown is =
    near_as x e (answered_with e taken asks) is (answered_states e taken asks)

pub answer_meets : (bearer : ℕ) (x : PairEnds) (taken : ℕ) (asks : Bool) (shown : BroadcastState) → MeetsAs x (at_bearer bearer x (answered_near taken asks shown)).pair
answer_meets bearer x taken asks shown = meets_at bearer x (answered_near taken asks shown (facing bearer x)).pair (answer_as (facing bearer x) (facing bearer x).near taken asks shown refl)

pub replied_meets : (reply : Option Reply) (x : PairEnds) → MeetsAs x (replied reply x).pair
replied_meets None x = meets_itself x
replied_meets (Some r) x = answer_meets r.bearer x r.taken r.asks r.shown

-- ---- messages and then more of them

pub puts_more : (x : PairEnds) (ms : List (List ℕ)) (fs : List Outgoing) (y : PairEnds) (ns : List (List ℕ)) (gs : List Outgoing) (z : PairEnds) → PutsAll x ms fs y → PutsAll y ns gs z → PutsAll x (ms ++ ns) (fs ++ gs) z
puts_more x _ _ _ ns gs z (none_put _) rest = rest
puts_more x _ _ y ns gs z (puts_one _ between _ m ms first fs one all) rest =
    subst (λ hs. PutsAll x (m ∷ (ms ++ ns)) hs z) (sym (append_assoc first fs gs))
    (puts_one x between z m (ms ++ ns) first (fs ++ gs) one (puts_more between ms fs y ns gs z all rest))

-- the contact with a peer to which something is put
pub active_there : (x : PairEnds) (bearer : ℕ) → active x ≡ Some bearer → in_contact x ≡ true
active_there x bearer is = by (is_up_at (facing 0 x).near) (is_up_at (facing 1 x).near) refl refl is
  where
    up_in : (b : ℕ) → is_up_at (facing b x).near ≡ true → in_contact x ≡ true
    up_in b up = sym (let m = meets_facing b x in m.there) ∙ ap (λ t. t || is_up_at (facing b x).far) up

    by : (first second : Bool) → is_up_at (facing 0 x).near ≡ first → is_up_at (facing 1 x).near ≡ second → (if first then Some 0 else (if second then Some 1 else None)) ≡ Some bearer → in_contact x ≡ true
    by true second up other some = up_in 0 up
    by false true down up some = up_in 1 up
    by false false down low some = absurd cc
