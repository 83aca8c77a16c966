-- Packets that are put on the near link of a pair, and on its active link.
use Rattle.std.specs.Prelude.{OnOk, if◌then◌else◌, ◌==◌, ◌||◌}
use Rattle.std.proofs.Common.{◌≡◌, ◌<◌, ◌∙◌, ℕ, true, false, List, Some, None, Result, Ok, Err, refl, sym, ap, arith, is_some, length}
use Rattle.std.proofs.lemmas.Bool.Decides.{nat_tests}
use Rattle.tipc_outside.specs.Frames.{Adds, Out}
use Rattle.tipc_outside.specs.declared.outgoing.Outgoing.{Outgoing}
use Rattle.tipc_link.specs.Links.{LinkEnd, with_session}
use Rattle.tipc_link.specs.Sessions.{SessionEnd, IsPut, flush_frames, flushed}
use Rattle.tipc_pair.specs.Facing.{PairEnds, active, active_of, facing, in_contact, is_up_at, other, turned, with_near}
use Rattle.tipc_pair.specs.PairCalls.{Puts, SendsWithin, active_session, session_at}
use Rattle.tipc_pair.proofs.Facings.{facing_far, facing_near}
use Rattle.tipc_pair.proofs.Followings.{some_there}

-- what the near link did, where it found memory
abbrev pub PutNear : PairEnds → List (List ℕ) → ℕ → PairEnds → Out → Out → Type 0
PutNear x pieces limit now a b = (frames : List Outgoing) × ((puts : Puts x pieces now frames) × (length puts.session.sending.waiting < limit)) × Adds a b frames

pub put_near : {T F : Type 0} (r : Result T F) (x now : PairEnds) (e new : LinkEnd) (pieces : List (List ℕ)) (limit : ℕ) (a b : Out) → x.near ≡ Some e → is_some e.session ≡ true
    → ((s : SessionEnd) → e.session ≡ Some s
    → OnOk r ((length s.sending.waiting < limit) × ((put : SessionEnd) × IsPut s pieces put × (new ≡ with_session e (flushed put)) × Adds a b (flush_frames put))))
    → now ≡ with_near x new → OnOk r (PutNear x pieces limit now a b)
put_near (Err fault) x now e new pieces limit a b near_is some ok now_is = tt
put_near (Ok done) x now e new pieces limit a b near_is some ok now_is =
    let there = some_there e.session some in
    let got = ok there.0 there.1 in
    let puts : Puts x pieces now (flush_frames got.1.0) = record {
      end = e;
      end_is = near_is;
      session = there.0;
      session_is = there.1;
      put = got.1.0;
      is_put = got.1.1;
      after = now_is ∙ ap (with_near x) got.1.2;
      frames_are = refl;
    } in
    (flush_frames got.1.0, (puts, got.0), got.1.3)

-- ---- the active link

-- what the active link did
abbrev pub PutActive : PairEnds → List (List ℕ) → ℕ → PairEnds → Out → Out → Type 0
PutActive x pieces limit now a b = (frames : List Outgoing) × SendsWithin x pieces limit now frames × Adds a b frames

active_first : (x : PairEnds) → x.bearer ≡ 0 → is_up_at x.near ≡ true → active x ≡ Some 0
active_first x first up =
    ap (λ (y : PairEnds). active_of y.near (facing 1 x).near) (facing_near 0 x first) ∙ ap (λ b. if b then Some 0 else (if is_up_at (facing 1 x).near then Some 1 else None)) up

pub second_is : (x : PairEnds) → x.bearer ≡ 0 → facing 1 x ≡ turned x
second_is x first = let differs : (x.bearer == 1) ≡ false = grind (arith, nat_tests) in facing_far 1 x differs

active_second : (x : PairEnds) → x.bearer ≡ 0 → is_up_at x.near ≡ false → is_up_at x.far ≡ true → active x ≡ Some 1
active_second x first down up =
    ap (λ (y : PairEnds). active_of y.near (facing 1 x).near) (facing_near 0 x first)
    ∙ (ap (λ (y : PairEnds). active_of x.near y.near) (second_is x first)
    ∙ (ap (λ b. if b then Some 0 else (if is_up_at x.far then Some 1 else None)) down ∙ ap (λ b. if b then Some 1 else None) up))

pub session_first : (x : PairEnds) → x.bearer ≡ 0 → is_up_at x.near ≡ true → active_session x ≡ session_at x.near
session_first x first up =
    ap (λ (y : PairEnds). if is_up_at y.near then session_at y.near else session_at (facing 1 x).near) (facing_near 0 x first)
    ∙ ap (λ b. if b then session_at x.near else session_at (facing 1 x).near) up

pub session_second : (x : PairEnds) → x.bearer ≡ 0 → is_up_at x.near ≡ false → active_session x ≡ session_at x.far
session_second x first down =
    ap (λ (y : PairEnds). if is_up_at y.near then session_at y.near else session_at (facing 1 x).near) (facing_near 0 x first)
    ∙ (ap (λ b. if b then session_at x.near else session_at (facing 1 x).near) down ∙ ap (λ (y : PairEnds). session_at y.near) (second_is x first))

puts_facing : (x y now : PairEnds) (pieces : List (List ℕ)) (frames : List Outgoing) → y ≡ x → Puts x pieces now frames → Puts y pieces now frames
puts_facing x y now pieces frames same puts = record {
  end = puts.end;
  end_is = ap (λ (z : PairEnds). z.near) same ∙ puts.end_is;
  session = puts.session;
  session_is = puts.session_is;
  put = puts.put;
  is_put = puts.is_put;
  after = puts.after ∙ ap (λ z. with_near z (with_session puts.end (flushed puts.put))) (sym same);
  frames_are = puts.frames_are;
}

pub bearer_stays : (x now : PairEnds) (pieces : List (List ℕ)) (frames : List Outgoing) → Puts x pieces now frames → now.bearer ≡ x.bearer
bearer_stays x now pieces frames puts = ap (λ (z : PairEnds). z.bearer) puts.after

pub put_first : {T F : Type 0} (r : Result T F) (x now : PairEnds) (pieces : List (List ℕ)) (limit : ℕ) (a b : Out) → x.bearer ≡ 0 → is_up_at x.near ≡ true
    → OnOk r (PutNear x pieces limit now a b) → OnOk r (PutActive x pieces limit now a b)
unfolding puts_facing
put_first (Err fault) x now pieces limit a b first up h = tt
put_first (Ok done) x now pieces limit a b first up h =
    let puts = h.1.0 in
    let sends : SendsWithin x pieces limit now h.0 = record {
      bearer = 0;
      active_is = active_first x first up;
      near = now;
      puts = puts_facing x (facing 0 x) now pieces h.0 (facing_near 0 x first) puts;
      within = h.1.1;
      after = sym (facing_near x.bearer now (bearer_stays x now pieces h.0 puts));
    } in
    (h.0, sends, h.2)

pub put_second : {T F : Type 0} (r : Result T F) (x far near now : PairEnds) (pieces : List (List ℕ)) (limit : ℕ) (a b : Out) → x.bearer ≡ 0 → is_up_at x.near ≡ false → is_up_at x.far ≡ true
    → far ≡ turned x → now ≡ turned near → OnOk r (PutNear far pieces limit near a b) → OnOk r (PutActive x pieces limit now a b)
unfolding puts_facing
put_second (Err fault) x far near now pieces limit a b first down up far_is now_is h = tt
put_second (Ok done) x far near now pieces limit a b first down up far_is now_is h =
    let puts = h.1.0 in
    let is : near.bearer ≡ other x.bearer = bearer_stays far near pieces h.0 puts ∙ ap (λ (z : PairEnds). z.bearer) far_is in
    let differs : (near.bearer == x.bearer) ≡ false = grind (arith, nat_tests) in
    let sends : SendsWithin x pieces limit now h.0 = record {
      bearer = 1;
      active_is = active_second x first down up;
      near = near;
      puts = puts_facing far (facing 1 x) near pieces h.0 (second_is x first ∙ sym far_is) puts;
      within = h.1.1;
      after = now_is ∙ sym (facing_far x.bearer near differs);
    } in
    (h.0, sends, h.2)

-- in contact one of the links is up
pub other_is_up : (x : PairEnds) → in_contact x ≡ true → is_up_at x.near ≡ false → is_up_at x.far ≡ true
other_is_up x contact down = ap (λ b. b || is_up_at x.far) (sym down) ∙ contact
