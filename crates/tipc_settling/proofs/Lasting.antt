-- What a still pair has come to it keeps: an end that answers, a link that is up, and the contact number that was seen.
use Rattle.std.specs.Prelude.{◌==◌, ◌&&◌, ◌||◌}
use Rattle.std.proofs.Common.{◌≡◌, ◌≤◌, ◌∙◌, ℕ, true, Option, Some, None, refl, sym, ap, subst, arith}
use Rattle.std.proofs.lemmas.Bool.{true≢false}
use Rattle.std.proofs.lemmas.Bool.Decides.{nat_tests}
use Rattle.tipc_types.specs.LinkStates.{is_up}
use Rattle.tipc_link_fsm.specs.Table.{is_reset_reset}
use Rattle.tipc_link.specs.Links.{LinkEnd}
use Rattle.tipc_pair.specs.Facing.{PairEnds, facing, is_up_at}
use Rattle.tipc_pair.proofs.turns.PairKept.{facing_bearer}
use Rattle.tipc_paired.specs.Views.{fsm_in}
use Rattle.tipc_settling.specs.Beginnings.{is_answering, standing}
use Rattle.tipc_settling.specs.Rises.{AnswersAt}
use Rattle.tipc_settling.specs.Stillness.{AnswersTo, Footing, HasNoEnd, IsStill, IsStillAt, IsStillEnd}
use Rattle.tipc_settling.proofs.Pairs.{still_facing}
use Rattle.tipc_settling.proofs.Rows.{peer_known}

-- the near end of a pair on a footing, on the bearer from which it is seen
still_near : (now peer : Footing) (bearer : ℕ) (x : PairEnds) (o : Option LinkEnd) → IsStill now peer x → (facing bearer x).near ≡ o → IsStillAt now peer (facing bearer x).seen (facing bearer x).bearer (fsm_in o)
still_near now peer bearer x o h near =
    let z = facing bearer x in
    let hz = still_facing now peer bearer x h in
    subst (λ o. IsStillAt now peer z.seen z.bearer (fsm_in o)) near hz.near

pub answering_stays : (own peer : Footing) (x x' : PairEnds) (bearer : ℕ) → bearer ≤ 1 → IsStill (standing own peer x) peer x' → AnswersAt (peer.epoch bearer) (facing bearer x).near → AnswersAt (peer.epoch bearer) (facing bearer x').near
answering_stays own peer x x' bearer one h says = at (facing bearer x').near refl
  where
    now : Footing
    now = standing own peer x

    on : (facing bearer x').bearer ≡ bearer
    on = facing_bearer bearer x' one h.two

    was : now.answers (facing bearer x').bearer ≡ true
    was =
        ap now.answers on ∙ (ap (is_answering (peer.epoch bearer)) says.there
        ∙ (let k = says.answers in ap (λ b. b && (is_up says.end.fsm.state || is_reset_reset says.end.fsm.state)) (peer_known says.end.fsm.peer (peer.epoch bearer) k.knows) ∙ k.heard))

    at : (o : Option LinkEnd) → (facing bearer x').near ≡ o → AnswersAt (peer.epoch bearer) (facing bearer x').near
    at None near = absurd (let none : HasNoEnd now (facing bearer x').bearer = still_near now peer bearer x' None h near in true≢false (sym was ∙ none.unanswered))
    at (Some e) near =
        let end : IsStillEnd now peer (facing bearer x').seen (facing bearer x').bearer e.fsm = still_near now peer bearer x' (Some e) h near in
        record { end = e; there = near; answers = subst (λ b. AnswersTo (peer.epoch b) e.fsm) on (end.answers was) }

pub up_stays : (own peer : Footing) (x x' : PairEnds) (bearer : ℕ) → bearer ≤ 1 → IsStill (standing own peer x) peer x' → is_up_at (facing bearer x).near ≡ true → is_up_at (facing bearer x').near ≡ true
up_stays own peer x x' bearer one h up = at (facing bearer x').near refl
  where
    now : Footing
    now = standing own peer x

    was : now.up (facing bearer x').bearer ≡ true
    was = ap now.up (facing_bearer bearer x' one h.two) ∙ up

    at : (o : Option LinkEnd) → (facing bearer x').near ≡ o → is_up_at (facing bearer x').near ≡ true
    at None near = absurd (let none : HasNoEnd now (facing bearer x').bearer = still_near now peer bearer x' None h near in true≢false (sym was ∙ none.down))
    at (Some e) near =
        let end : IsStillEnd now peer (facing bearer x').seen (facing bearer x').bearer e.fsm = still_near now peer bearer x' (Some e) h near in ap is_up_at near ∙ end.lasts was

pub seen_stays : (own peer : Footing) (x x' : PairEnds) → IsStill (standing own peer x) peer x' → x.seen ≡ peer.contact → x'.seen ≡ peer.contact
seen_stays own peer x x' h sees = h.sees (let same : (x.seen == peer.contact) ≡ true = grind (arith, nat_tests, sees) in same)
