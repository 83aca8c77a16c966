-- Deeds one after the other: what was told, numbered and taken.
use Rattle.std.proofs.Common.{◌≡◌, ◌≤◌, ◌+◌, ℕ, suc, List, [], ◌∷◌, ◌++◌, Some, length, map, refl, sym, ap, ◌∙◌, subst, append_assoc, append-nil, length-append, arith}
use Rattle.std.specs.Prelude.{slice_get}
use Rattle.tipc_outside.specs.declared.outgoing.Outgoing.{Outgoing}
use Rattle.tipc_link.proofs.Directions.{slice_get-append, slice_get-behind}
use Rattle.tipc_link.proofs.LinkLaw.{Each, Each-append, Each-none}
use Rattle.tipc_paired.proofs.PairedLaw.{all_then}
use Rattle.tipc_paired.proofs.wires.Wires.{map_at, on_put}
use Rattle.tipc_paired.specs.Deeds.{Besides, Changes, DoesDeed, DoesAll, MayTell, Works, besides, calls, changes, counts, falls, falls_beside, follows, framed, hands_over, makes, notes, nothing, numbers, parts, puts, releases, restarts, rises, rises_beside, shows, takes, tells, turns, works}
use Rattle.tipc_paired.specs.Views.{Frame, View, Wire, with_told, with_wire}
use Rattle.tipc_two_nodes.specs.deeds.PairDeeds.{Did, IsToldSince, both_more, none_more}

-- ---- what was told stays told

work_told : (x y v : View) → Works x y v → (more : List Frame) × (v.told ≡ x.told ++ more)
work_told x y _ (makes b none) = ([], sym (append-nil x.told))
work_told x y _ (turns b e mended is) = ([], sym (append-nil x.told))
work_told x y _ (calls b e call is may quiet) = ([], sym (append-nil x.told))
work_told x y _ (shows number higher fits apart heard) = ([], sym (append-nil x.told))
work_told x y _ (releases b e s p up a) = ([], sym (append-nil x.told))
work_told x y _ (notes b e s shown unanswered owes up most) = ([], sym (append-nil x.told))
work_told x y _ (numbers b e s up) = ([], sym (append-nil x.told))
work_told x y _ (tells b o may) = (framed x y b o ∷ [], refl)

change_told : (x y v : View) → Changes x y v → (more : List Frame) × (v.told ≡ x.told ++ more)
change_told x y _ (rises b e call is may up apart) = ([], sym (append-nil x.told))
change_told x y _ (falls b e call cause is may down) = ([], sym (append-nil x.told))
change_told x y _ (parts b e is up) = ([], sym (append-nil x.told))
change_told x y _ (restarts boot more fits) = ([], sym (append-nil x.told))

beside_told : (x y v : View) → Besides x y v → (more : List Frame) × (v.told ≡ x.told ++ more)
beside_told x y _ (rises_beside b e call is may up beside) = ([], sym (append-nil x.told))
beside_told x y _ (falls_beside b e call cause is may down beside) = ([], sym (append-nil x.told))
beside_told x y _ (hands_over b e is down) = ([], sym (append-nil x.told))
beside_told x y _ (counts b e r more m) = ([], sym (append-nil x.told))

does_told : (x y v : View) → DoesDeed x y v → (more : List Frame) × (v.told ≡ x.told ++ more)
does_told x y v (works _ w) = work_told x y v w
does_told x y v (changes _ c) = change_told x y v c
does_told x y v (besides _ c) = beside_told x y v c
does_told x y _ (puts b e s waiting up packets) = ([], sym (append-nil x.told))
does_told x y _ (takes b e s p number by packet up a is) = ([], sym (append-nil x.told))

pub told_behind : (x y v : View) → DoesAll x y v → (more : List Frame) × (v.told ≡ x.told ++ more)
told_behind x y _ nothing = ([], sym (append-nil x.told))
told_behind x y v (follows mid _ all one) =
    let first = told_behind x y mid all in
    let last = does_told mid y v one in
    (first.0 ++ last.0, last.1 ∙ ap (λ fs. fs ++ last.0) first.1 ∙ append_assoc x.told first.0 last.0)

pub told_still : (since : ℕ) (x v : View) (o : Outgoing) (more : List Frame) → v.told ≡ x.told ++ more → IsToldSince since x o → IsToldSince since v o
told_still since x v o more is h = record {
  place = h.place;
  recent = h.recent;
  frame = h.frame;
  there = subst (λ fs. slice_get fs h.place ≡ Some h.frame) (sym is) (slice_get-append x.told more h.place h.frame h.there);
  bearer_is = h.bearer_is;
  bytes = h.bytes;
}

pub told_since : (least since : ℕ) (x : View) (o : Outgoing) → least ≤ since → IsToldSince since x o → IsToldSince least x o
told_since least since x o fewer h = record {
  place = h.place;
  recent = (let behind = h.recent in omega arith);
  frame = h.frame;
  there = h.there;
  bearer_is = h.bearer_is;
  bytes = h.bytes;
}

-- ---- deeds after deeds

pub did_nothing : (v y : View) → Did v y v [] none_more none_more
did_nothing v y = record {
  does = nothing;
  boot = refl;
  told = Each-none (IsToldSince (length v.told) v);
  line = λ b k. sym (append-nil ((v.wires b).line k));
  got = λ b k. sym (append-nil ((v.wires b).got k));
}

pub did_then : (v y mid after : View) (first second : List Outgoing) (n m t u : ℕ → ℕ → List (List ℕ)) → Did v y mid first n t → Did mid y after second m u → Did v y after (first ++ second) (both_more n m) (both_more t u)
did_then v y mid after first second n m t u f s =
    let more = told_behind v y mid f.does in
    let last = told_behind mid y after s.does in
    let long = ap (λ (fs : List Frame). length fs) more.1 ∙ length-append v.told more.0 in
    record {
      does = all_then v y mid after f.does s.does;
      boot = s.boot ∙ f.boot;
      told = Each-append (IsToldSince (length v.told) after) first second (λ k o is. told_still (length v.told) mid after o last.0 last.1 (f.told k o is))
          (λ k o is. told_since (length v.told) (length mid.told) after o (omega arith) (s.told k o is));
      line = λ b k. s.line b k ∙ ap (λ xs. xs ++ m b k) (f.line b k) ∙ append_assoc ((v.wires b).line k) (n b k) (m b k);
      got = λ b k. s.got b k ∙ ap (λ xs. xs ++ u b k) (f.got b k) ∙ append_assoc ((v.wires b).got k) (t b k) (u b k);
    }

-- the same packets by other words, and frames among those that were told
pub did_as : (v y after : View) (frames fewer : List Outgoing) (n m t u : ℕ → ℕ → List (List ℕ)) → Did v y after frames n t → ((P : Outgoing → Type 0) → Each P frames → Each P fewer)
    → ((b k : ℕ) → n b k ≡ m b k) → ((b k : ℕ) → t b k ≡ u b k) → Did v y after fewer m u
did_as v y after frames fewer n m t u d among same_n same_t = record {
  does = d.does;
  boot = d.boot;
  told = among (IsToldSince (length v.told) after) d.told;
  line = λ b k. d.line b k ∙ ap (λ xs. (v.wires b).line k ++ xs) (same_n b k);
  got = λ b k. d.got b k ∙ ap (λ xs. (v.wires b).got k ++ xs) (same_t b k);
}

-- the two parts of a list
pub each_first : {A : Type 0} (P : A → Type 0) (xs ys : List A) → Each P (xs ++ ys) → Each P xs
each_first P xs ys h k x is = h k x (slice_get-append xs ys k x is)

pub each_last : {A : Type 0} (P : A → Type 0) (xs ys : List A) → Each P (xs ++ ys) → Each P ys
each_last P xs ys h k y is = h (length xs + k) y (slice_get-behind xs ys k y is)

-- ---- one deed

-- a deed that tells, numbers and takes nothing
pub did_quietly : (v y after : View) → DoesDeed v y after → after.node.boot ≡ v.node.boot → ((b k : ℕ) → (after.wires b).line k ≡ (v.wires b).line k) → ((b k : ℕ) → (after.wires b).got k ≡ (v.wires b).got k)
    → Did v y after [] none_more none_more
did_quietly v y after one boot line got = record {
  does = follows v after nothing one;
  boot = boot;
  told = Each-none (IsToldSince (length v.told) after);
  line = λ b k. line b k ∙ sym (append-nil ((v.wires b).line k));
  got = λ b k. got b k ∙ sym (append-nil ((v.wires b).got k));
}

-- on one wire
pub did_on : (v y : View) (b : ℕ) (w' : Wire) → DoesDeed v y (with_wire v b w') → ((k : ℕ) → w'.line k ≡ (v.wires b).line k) → ((k : ℕ) → w'.got k ≡ (v.wires b).got k) → Did v y (with_wire v b w') [] none_more none_more
did_on v y b w' one line got = did_quietly v y (with_wire v b w') one refl
    (λ c k. on_put v.wires b w' (λ c (w : Wire). w.line k ≡ (v.wires c).line k) (line k) (λ c. refl) c) (λ c k. on_put v.wires b w' (λ c (w : Wire). w.got k ≡ (v.wires c).got k) (got k) (λ c. refl) c)

-- ---- frames are told

abbrev pub told_all : View → View → ℕ → List Outgoing → View
told_all v y b frames = record { node = v.node; wires = v.wires; told = v.told ++ map (framed v y b) frames }

does_tell : (v y : View) (b : ℕ) (frames : List Outgoing) → Each (MayTell (v.wires b)) frames → DoesAll v y (told_all v y b frames)
does_tell v y b [] may = subst (DoesAll v y) (ap (λ fs. record { node = v.node; wires = v.wires; told = fs }) (sym (append-nil v.told))) nothing
does_tell v y b (o ∷ frames) may =
    let f = framed v y b o in
    let v' = with_told v f in
    let first : DoesAll v y v' = follows v v' nothing (works v' (tells b o (may 0 o refl))) in
    let rest = does_tell v' y b frames (λ k q is. may (suc k) q is) in
    subst (DoesAll v y) (ap (λ fs. record { node = v.node; wires = v.wires; told = fs }) (append_assoc v.told (f ∷ []) (map (framed v y b) frames))) (all_then v y v' _ first rest)

pub did_tell : (v y : View) (b : ℕ) (frames : List Outgoing) → Each (MayTell (v.wires b)) frames → Each (λ (o : Outgoing). o.bearer ≡ b) frames → Did v y (told_all v y b frames) frames none_more none_more
did_tell v y b frames may on = record {
  does = does_tell v y b frames may;
  boot = refl;
  told = λ k o is. record {
    place = length v.told + k;
    recent = omega arith;
    frame = framed v y b o;
    there = slice_get-behind v.told (map (framed v y b) frames) k (framed v y b o) (map_at (framed v y b) frames k o is);
    bearer_is = sym (on k o is);
    bytes = refl;
  };
  line = λ c k. sym (append-nil ((v.wires c).line k));
  got = λ c k. sym (append-nil ((v.wires c).got k));
}
