-- What a push leaves of a box, whose frames stand in one list, those that leave first before the others; and the frames of an event
-- that leave behind those of a box.
use Rattle.std.proofs.Common.{◌≡◌, ◌≤◌, ◌<◌, ◌+◌, ◌-◌, ◌||◌, ℕ, zero, suc, Bool, if◌then◌else◌, true, false, List, [], ◌∷◌, ◌++◌, length, take, drop, refl, sym, subst, ap, ◌∙◌, arith, append-nil, length-append}
use Rattle.std.proofs.lemmas.List.{drop-append-le, length-take, length-take-le, take-append-le, take-take, take_all}
use Rattle.std.proofs.Math.ListN.{drop_of_length-le}
use Rattle.std.proofs.Math.Seq.{drop-append-add, take-append-add}
use Rattle.tipc_outside.specs.Frames.{Adds, AddsFirst, Gains, FrameGroup, GroupGrows, Made, Out, is_lost, leaves_first, frames_leaving, made_as, made_behind, made_first, no_frames}
use Rattle.tipc_outside.specs.declared.outgoing.Class.{Class}
use Rattle.tipc_outside.specs.declared.outgoing.Outgoing.{Outgoing}
use Rattle.tipc_outside.proofs.Adding.{alone_all, alone_fewer, gains_more, gains_none, grows_fewer, grows_none, neither, take-nil}

-- a box whose frames are these, of which so many leave first
abbrev pub boxed : List Outgoing → ℕ → Bool → Bool → Out
boxed xs first first_lost lost = record {
  first = record { frames = take first xs; lost = first_lost };
  behind = record { frames = drop first xs; lost = lost };
}

-- one more stands last
last_whole : (xs ys : List Outgoing) (first : ℕ) (x : Outgoing) → first ≤ length xs → ys ≡ xs ++ x ∷ [] → Adds (boxed xs first false false) (boxed ys first false false) (x ∷ [])
last_whole xs ys first x within is = record {
  first = subst (λ fs. GroupGrows (record { frames = take first xs; lost = false }) (record { frames = fs; lost = false }) [])
      (sym (ap (take first) is ∙ take-append-le first xs (x ∷ []) within)) (grows_none (record { frames = take first xs; lost = false }));
  behind = record {
    count = 1;
    within = omega arith;
    front = ap (drop first) is ∙ drop-append-le first xs (x ∷ []) within;
    lost_is = refl;
    none = λ e. absurd cc;
  };
}

pub put_last : (xs ys : List Outgoing) (first : ℕ) (first_lost lost : Bool) (x : Outgoing) → first ≤ length xs → (first_lost || lost) ≡ false → ys ≡ xs ++ x ∷ []
    → Adds (boxed xs first first_lost lost) (boxed ys first first_lost lost) (x ∷ [])
put_last xs ys first first_lost lost x within whole is =
    let parts = neither first_lost lost whole in
    subst (λ f. Adds (boxed xs first f lost) (boxed ys first f lost) (x ∷ [])) (sym parts.0)
    (subst (λ l. Adds (boxed xs first false l) (boxed ys first false l) (x ∷ [])) (sym parts.1) (last_whole xs ys first x within is))

-- one more stands behind those that leave first
first_whole : (xs ys : List Outgoing) (first : ℕ) (x : Outgoing) (lost : Bool) → first ≤ length xs → ys ≡ take first xs ++ x ∷ drop first xs
    → AddsFirst (boxed xs first false lost) (boxed ys (first + 1) false lost) (x ∷ [])
first_whole xs ys first x lost within is =
    let long = length-take-le first xs within in
    record {
      first = record {
        count = 1;
        within = omega arith;
        front = ap (take (first + 1)) is ∙ (ap (λ n. take (n + 1) (take first xs ++ x ∷ drop first xs)) (sym long) ∙ take-append-add (take first xs) (x ∷ drop first xs) 1);
        lost_is = refl;
        none = λ e. absurd cc;
      };
      behind = subst (λ fs. GroupGrows (record { frames = drop first xs; lost = lost }) (record { frames = fs; lost = lost }) [])
          (sym (ap (drop (first + 1)) is ∙ (ap (λ n. drop (n + 1) (take first xs ++ x ∷ drop first xs)) (sym long) ∙ drop-append-add (take first xs) (x ∷ drop first xs) 1)))
          (grows_none (record { frames = drop first xs; lost = lost }));
    }

pub put_first : (xs ys : List Outgoing) (first : ℕ) (first_lost lost : Bool) (x : Outgoing) → first ≤ length xs → first_lost ≡ false → ys ≡ take first xs ++ x ∷ drop first xs
    → AddsFirst (boxed xs first first_lost lost) (boxed ys (first + 1) first_lost lost) (x ∷ [])
put_first xs ys first first_lost lost x within whole is =
    subst (λ f. AddsFirst (boxed xs first f lost) (boxed ys (first + 1) f lost) (x ∷ [])) (sym whole) (first_whole xs ys first x lost within is)

-- a frame was lost
missing : (fs : List Outgoing) (lost : Bool) (x : Outgoing) → GroupGrows (record { frames = fs; lost = lost }) (record { frames = fs; lost = true }) (x ∷ [])
missing fs lost x = grows_fewer (record { frames = fs; lost = lost }) (record { frames = fs; lost = true }) (x ∷ []) 0 (omega arith) (sym (append-nil fs)) refl (λ e. refl)

pub lose_last : (o : Out) (x : Outgoing) → Adds o (record o { behind = record o.behind { lost = true } }) (x ∷ [])
lose_last o x = record { first = grows_none o.first; behind = missing o.behind.frames o.behind.lost x }

pub lose_first : (o : Out) (x : Outgoing) → AddsFirst o (record o { first = record o.first { lost = true } }) (x ∷ [])
lose_first o x = record { first = missing o.first.frames o.first.lost x; behind = grows_none o.behind }

-- ---- classes

pub first_as : (class : Class) (a b : Out) (frames : List Outgoing) → leaves_first class ≡ true → AddsFirst a b frames → Gains a b (made_as class frames)
first_as class a b frames is h = subst (λ f. Gains a b (if f then made_first frames else made_behind frames)) (sym is) h

pub behind_as : (class : Class) (a b : Out) (frames : List Outgoing) → leaves_first class ≡ false → Adds a b frames → Gains a b (made_as class frames)
behind_as class a b frames is h = subst (λ f. Gains a b (if f then made_first frames else made_behind frames)) (sym is) h

-- ---- an event ended

-- none of those that leave first was lost
leaving_whole : (o : Out) → o.first.lost ≡ false → frames_leaving o ≡ o.first.frames ++ o.behind.frames
leaving_whole o kept = ap (λ l. if l then o.first.frames else o.first.frames ++ o.behind.frames) kept

-- one of them was
leaving_first : (o : Out) → o.first.lost ≡ true → frames_leaving o ≡ o.first.frames
leaving_first o lost = ap (λ l. if l then o.first.frames else o.first.frames ++ o.behind.frames) lost

-- all frames of an event leave
left_all : (event : Out) (made : Made) → Gains no_frames event made → is_lost event ≡ false → frames_leaving event ≡ made.first ++ made.behind
left_all event made h whole =
    let parts = neither event.first.lost event.behind.lost whole in
    leaving_whole event parts.0
    ∙ (ap (λ fs. fs ++ event.behind.frames) (alone_all event.first made.first h.first parts.0)
    ∙ ap (λ fs. made.first ++ fs) (alone_all event.behind made.behind h.behind parts.1))

-- of the frames of an event those leave that stand before the first that was lost
record LeavesFewer (event : Out) (frames : List Outgoing) : Type 0 where
  pub count : ℕ
  pub fewer : count < length frames
  pub front : frames_leaving event ≡ take count frames

left_fewer : (event : Out) (made : Made) → Gains no_frames event made → is_lost event ≡ true → LeavesFewer event (made.first ++ made.behind)
left_fewer event made h lost =
    elim event.first.lost as (λ l. event.first.lost ≡ l → LeavesFewer event (made.first ++ made.behind)) [
      | false ↦ λ kept.
          let later : event.behind.lost ≡ true = ap (λ l. l || event.behind.lost) (sym kept) ∙ lost in
          let few = alone_fewer event.behind made.behind h.behind later in
          record {
            count = length made.first + h.behind.count;
            fewer = omega (arith, few, length-append made.first made.behind);
            front = leaving_whole event kept
                ∙ (ap (λ fs. fs ++ event.behind.frames) (alone_all event.first made.first h.first kept)
                ∙ (ap (λ fs. made.first ++ fs) h.behind.front ∙ sym (take-append-add made.first made.behind h.behind.count)));
          }
      | true ↦ λ missing.
          let few = alone_fewer event.first made.first h.first missing in
          let within = h.first.within in
          record {
            count = h.first.count;
            fewer = omega (arith, few, length-append made.first made.behind);
            front = leaving_first event missing ∙ (h.first.front ∙ sym (take-append-le h.first.count made.first made.behind within));
          }
    ] refl

pub sent_whole : (a b event : Out) (made : Made) → Adds a b (frames_leaving event) → Gains no_frames event made → is_lost event ≡ false → Adds a b (made.first ++ made.behind)
sent_whole a b event made h gains whole = subst (Adds a b) (left_all event made gains whole) h

pub sent_lost : (a b c event : Out) (made : Made) → Adds a b (frames_leaving event) → Gains no_frames event made → is_lost event ≡ true
    → c ≡ record b { behind = record b.behind { lost = true } } → Adds a c (made.first ++ made.behind)
sent_lost a b c event made h gains lost marked =
    let some = left_fewer event made gains lost in
    let few = some.fewer in
    let left = h.behind in
    let within = left.within in
    let long : length (frames_leaving event) ≤ some.count = omega (arith, ap length some.front, length-take some.count (made.first ++ made.behind)) in
    let count : left.count ≤ some.count = omega (arith, within, long) in
    let frames : (record b.behind { lost = true }).frames ≡ a.behind.frames ++ take left.count (made.first ++ made.behind) =
    left.front ∙ ap (λ fs. a.behind.frames ++ fs) (ap (take left.count) some.front ∙ take-take left.count some.count (made.first ++ made.behind) count) in
    subst (λ o. Adds a o (made.first ++ made.behind)) (sym marked) (record {
      first = h.first;
      behind = grows_fewer a.behind (record b.behind { lost = true }) (made.first ++ made.behind) left.count (omega (arith, count, few)) frames refl (λ e. (left.none e).1);
    })

-- ---- two boxes of one event

-- what was made of a group stands behind what is in another, and the mark says of both whether one was lost
joined : (a b f : FrameGroup) (made : List Outgoing) → GroupGrows a b f.frames → GroupGrows (record { frames = []; lost = false }) f made → GroupGrows a (record { frames = b.frames; lost = b.lost || f.lost }) made
joined a b f made h k =
    elim f.lost as (λ l. f.lost ≡ l → GroupGrows a (record { frames = b.frames; lost = b.lost || l }) made) [
      | false ↦ λ kept.
          subst (λ l. GroupGrows a (record { frames = b.frames; lost = l }) made) (sym (or_none b.lost)) (subst (GroupGrows a b) (alone_all f made k kept) h)
      | true ↦ λ missing.
          let few = alone_fewer f made k missing in
          let within = h.within in
          let long : length f.frames ≤ k.count = omega (arith, ap length k.front, length-take k.count made) in
          let count : h.count ≤ k.count = omega (arith, within, long) in
          grows_fewer a (record { frames = b.frames; lost = b.lost || true }) made h.count (omega (arith, count, few))
          (h.front ∙ ap (λ fs. a.frames ++ fs) (ap (take h.count) k.front ∙ take-take h.count k.count made count)) (or_true b.lost) (λ e. (h.none e).1)
    ] refl
  where
    or_none : (l : Bool) → (l || false) ≡ l
    or_none true = refl
    or_none false = refl

    or_true : (l : Bool) → (l || true) ≡ true
    or_true true = refl
    or_true false = refl

pub merged : (a b c event : Out) (made : Made) → Gains a b (record { first = event.first.frames; behind = event.behind.frames }) → Gains no_frames event made
    → c ≡ record { first = record { frames = b.first.frames; lost = b.first.lost || event.first.lost }; behind = record { frames = b.behind.frames; lost = b.behind.lost || event.behind.lost } }
    → Gains a c made
merged a b c event made h k is = subst (λ o. Gains a o made) (sym is) (record {
  first = joined a.first b.first event.first made.first h.first k.first;
  behind = joined a.behind b.behind event.behind made.behind h.behind k.behind;
})

-- a box with no frame, in whose place another one is
pub replaced : (a event : Out) (made : Made) → a ≡ no_frames → Gains no_frames event made → Gains a event made
replaced a event made none h = subst (λ o. Gains o event made) (sym none) h

drop-nil : (n : ℕ) → drop {A = Outgoing} n [] ≡ []
drop-nil zero = refl
drop-nil (suc n) = refl

-- the frames of a box were put into another one, of those that leave first so many are left to go
pub record IsMerging (before now : Out) (first left : ℕ) (frames : List Outgoing) : Type 0 where
  pub left_is : left ≡ first - length frames
  pub gains : Gains before now (record { first = take first frames; behind = drop first frames })

pub merging-start : (o : Out) (first : ℕ) → IsMerging o o first first []
merging-start o first = record {
  left_is = omega arith;
  gains = subst (λ m. Gains o o m) (sym (ap (λ fs. record { first = fs; behind = drop first [] }) (take-nil first) ∙ ap (λ fs. record { first = []; behind = fs }) (drop-nil first))) (gains_none o);
}

pub merging-first : (before now now' : Out) (first left : ℕ) (frames : List Outgoing) (x : Outgoing) → 0 < left → AddsFirst now now' (x ∷ []) → IsMerging before now first left frames
    → IsMerging before now' first (left - 1) (frames ++ x ∷ [])
merging-first before now now' first left frames x more adds h =
    let left_is = h.left_is in
    let long = length-append frames (x ∷ []) in
    let fits : length (frames ++ x ∷ []) ≤ first = omega (arith, long, left_is, more) in
    let fit : length frames ≤ first = omega (arith, left_is, more) in
    let one : take first (frames ++ x ∷ []) ≡ take first frames ++ x ∷ [] = take_all first (frames ++ x ∷ []) fits ∙ ap (λ fs. fs ++ x ∷ []) (sym (take_all first frames fit)) in
    let two : drop first (frames ++ x ∷ []) ≡ drop first frames ++ [] = drop_of_length-le (frames ++ x ∷ []) fits ∙ (sym (drop_of_length-le frames fit) ∙ sym (append-nil (drop first frames))) in
    record {
      left_is = omega (arith, long, left_is, more);
      gains = subst (λ fs. Gains before now' (record { first = fs; behind = drop first (frames ++ x ∷ []) })) (sym one)
          (subst (λ fs. Gains before now' (record { first = take first frames ++ x ∷ []; behind = fs })) (sym two)
          (gains_more before now now' (record { first = take first frames; behind = drop first frames }) (made_first (x ∷ [])) h.gains adds));
    }

pub merging-behind : (before now now' : Out) (first left : ℕ) (frames : List Outgoing) (x : Outgoing) → left ≡ 0 → Adds now now' (x ∷ []) → IsMerging before now first left frames
    → IsMerging before now' first left (frames ++ x ∷ [])
merging-behind before now now' first left frames x none adds h =
    let left_is = h.left_is in
    let long = length-append frames (x ∷ []) in
    let past : first ≤ length frames = omega (arith, left_is, none) in
    let one : take first (frames ++ x ∷ []) ≡ take first frames ++ [] = take-append-le first frames (x ∷ []) past ∙ sym (append-nil (take first frames)) in
    let two : drop first (frames ++ x ∷ []) ≡ drop first frames ++ x ∷ [] = drop-append-le first frames (x ∷ []) past in
    record {
      left_is = omega (arith, long, left_is, none);
      gains = subst (λ fs. Gains before now' (record { first = fs; behind = drop first (frames ++ x ∷ []) })) (sym one)
          (subst (λ fs. Gains before now' (record { first = take first frames ++ []; behind = fs })) (sym two)
          (gains_more before now now' (record { first = take first frames; behind = drop first frames }) (made_behind (x ∷ [])) h.gains adds));
    }

-- all were put
pub merging_done : (before now : Out) (first left : ℕ) (frames all : List Outgoing) → IsMerging before now first left frames → frames ≡ all
    → Gains before now (record { first = take first all; behind = drop first all })
merging_done before now first left frames all h is = subst (λ fs. Gains before now (record { first = take first fs; behind = drop first fs })) is h.gains
