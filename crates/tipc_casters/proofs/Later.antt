-- Whatever happens, what was is still so.
use Rattle.std.proofs.Common.{◌≡◌, ℕ, ◌+◌, ◌<◌, ◌≤◌, List, [], ◌∷◌, ◌++◌, length, Some, None, refl, sym, ap, ◌∙◌, subst, length-append, inl, inr, arith}
use Rattle.std.specs.Prelude.{slice_get}
use Rattle.std.proofs.lemmas.List.{get_or_append_left}
use Rattle.std.proofs.lemmas.Option.{get_or_from_slice_get, same_Some, slice_get-get_or, slice_get_within}
use Rattle.tipc_broadcast_law.specs.Groups.{Accepted, Caster, Group, length_now, Member, numbered_now, put}
use Rattle.tipc_broadcast_law.specs.Events.{accepting_entry, accepts, acknowledges, booted_again, caster_begins, caster_ends, Changes, changes, empties, go_on, Happens, line_with, member_begins, member_ends, none, numbered_to, numbers, restarts, Runs, steps_in, takes, without_contact}
use Rattle.tipc_broadcast_law.specs.Law.{IsGroup}
use Rattle.tipc_broadcast_law.proofs.CasterEvents.{event_keeps}
use Rattle.tipc_broadcast_law.proofs.Places.{put_other, put_same, same_or_not}
use Rattle.tipc_casters.specs.Later.{IsLater, IsLaterCaster, IsLaterMember}

pub same_caster : (a : Caster) → IsLaterCaster a a
same_caster a = record { boot = omega arith; numbered = λ f within. omega arith; line = λ f x e within is. is }

pub same_member : (k : Member) → IsLaterMember k k
same_member k = record { boots = λ c. refl; begun = λ c s is. is; want = λ c w is. (w, is, omega arith); joined = λ c s begun is. is }

-- ---- what happens to one member

changed_later : (a : Caster) (m : ℕ) (k l : Member) → Changes a m k l → IsLaterMember k l
changed_later a m k _ (caster_begins {c = c} out above era free) = record {
  boots = λ d. refl;
  begun = λ d s is. put_other c (Some (length_now a)) k.begun d (λ same. (let less = above d s is in let no : ⊥ = omega arith in no)) ∙ is;
  want = λ d w is. (w, is, omega arith);
  joined = λ d s begun is. (let less = above d s begun in let same : c ≡ d = same_Some c d is in absurd (omega arith));
}
changed_later a m k _ caster_ends = record { boots = λ d. refl; begun = λ d s is. is; want = λ d w is. (w, is, omega arith); joined = λ d s begun is. absurd (let no : ⊥ = cc in no) }
changed_later a m k _ (member_begins {c = c} away above era newest) = record { boots = λ d. refl; begun = λ d s is. is; want = λ d w is. (w, is, omega arith); joined = λ d s begun is. is }
changed_later a m k _ member_ends = record { boots = λ d. refl; begun = λ d s is. is; want = λ d w is. (w, is, omega arith); joined = λ d s begun is. is }
changed_later a m k _ (steps_in {c = c} {s = s} at unwanted begun) = record {
  boots = λ d. refl;
  begun = λ d t is. is;
  want = λ d w is. elim (same_or_not d c) [
    | inl same ↦ absurd (let clash : None ≡ Some w = sym unwanted ∙ subst (λ e. k.want e ≡ Some w) same is in let no : ⊥ = cc in no)
    | inr never ↦ (w, put_other c (Some s) k.want d never ∙ is, omega arith)
  ];
  joined = λ d t from is. is;
}
changed_later a m k _ (takes {c = c} {w = w} at want numbered marked) = record {
  boots = λ d. refl;
  begun = λ d t is. is;
  want = λ d v is. elim (same_or_not d c) [
    | inl same ↦
        let here : w ≡ v = same_Some w v (sym want ∙ subst (λ e. k.want e ≡ Some v) same is) in
        (w + 1, subst (λ e. put c (Some (w + 1)) k.want e ≡ Some (w + 1)) (sym same) (put_same c (Some (w + 1)) k.want), omega arith)
    | inr never ↦ (v, put_other c (Some (w + 1)) k.want d never ∙ is, omega arith)
  ];
  joined = λ d t from is. is;
}
changed_later a m k _ (acknowledges joined want more within) = record { boots = λ d. refl; begun = λ d s is. is; want = λ d w is. (w, is, omega arith); joined = λ d s begun is. is }

-- ---- the caster

got_more : (line more : List Accepted) (x : ℕ) (e : Accepted) → slice_get line x ≡ Some e → slice_get (line ++ more) x ≡ Some e
got_more line more x e is =
    let within : x < length line = slice_get_within line x e is in
    let inside : x < length (line ++ more) = omega (arith, within, length-append line more) in
    slice_get-get_or (line ++ more) x e inside ∙ ap Some (get_or_append_left line more e x within ∙ get_or_from_slice_get line x e e is)

accepted_later : (a : Caster) (x : Accepted) → IsLaterCaster a (line_with a x)
accepted_later a x = record {
  boot = omega arith;
  numbered = λ f within. omega arith;
  line = λ f y e within is. elim (same_or_not f a.boot) [
    | inl same ↦
        let old : slice_get (a.line a.boot) y ≡ Some e = subst (λ b. slice_get (a.line b) y ≡ Some e) same is in
        subst (λ b. slice_get (put a.boot (a.line a.boot ++ x ∷ []) a.line b) y ≡ Some e) (sym same)
        (ap (λ l. slice_get l y) (put_same a.boot (a.line a.boot ++ x ∷ []) a.line) ∙ got_more (a.line a.boot) (x ∷ []) y e old)
    | inr never ↦ ap (λ l. slice_get l y) (put_other a.boot (a.line a.boot ++ x ∷ []) a.line f never) ∙ is
  ];
}

numbered_later : (a : Caster) (n : ℕ) → numbered_now a ≤ n → IsLaterCaster a (numbered_to a n)
numbered_later a n more = record {
  boot = omega arith;
  numbered = λ f within. elim (same_or_not f a.boot) [
    | inl same ↦ subst (λ b. a.numbered b ≤ put a.boot n a.numbered b) (sym same) (omega (arith, more, put_same a.boot n a.numbered))
    | inr never ↦ omega (arith, put_other a.boot n a.numbered f never)
  ];
  line = λ f y e within is. is;
}

restarted_later : (a : Caster) → IsLaterCaster a (booted_again a)
restarted_later a = record {
  boot = omega arith;
  numbered = λ f within. (let never : f ≡ a.boot + 1 → ⊥ = λ same. (let no : ⊥ = omega arith in no) in omega (arith, put_other (a.boot + 1) 0 a.numbered f never));
  line = λ f y e within is. (let never : f ≡ a.boot + 1 → ⊥ = λ same. (let no : ⊥ = omega arith in no) in ap (λ l. slice_get l y) (put_other (a.boot + 1) [] a.line f never) ∙ is);
}

-- ---- what happens

happens_later : (g h : Group) → Happens g h → IsGroup g → IsLater g h
happens_later g _ (accepts packet room) law = record { caster = accepted_later g.caster (accepting_entry g packet); members = λ m. same_member (g.members m) }
happens_later g _ (numbers some near) law = record { caster = numbered_later g.caster (numbered_now g.caster + 1) (omega arith); members = λ m. same_member (g.members m) }
happens_later g _ (empties alone) law = record { caster = numbered_later g.caster (length_now g.caster) (law.counted g.caster.boot); members = λ m. same_member (g.members m) }
happens_later g _ restarts law = record { caster = restarted_later g.caster; members = λ m. changed_later g.caster m (g.members m) (without_contact (g.members m)) caster_ends }
happens_later g _ (changes m k change) law = record {
  caster = same_caster g.caster;
  members = λ i. elim (same_or_not i m) [
    | inl same ↦ subst (λ j. IsLaterMember (g.members j) (put m k g.members j)) (sym same) (subst (IsLaterMember (g.members m)) (sym (put_same m k g.members)) (changed_later g.caster m (g.members m) k change))
    | inr never ↦ subst (IsLaterMember (g.members i)) (sym (put_other m k g.members i never)) (same_member (g.members i))
  ];
}

later_caster : (a b c : Caster) → IsLaterCaster a b → IsLaterCaster b c → IsLaterCaster a c
later_caster a b c one two =
    let first = one.boot in
    let second = two.boot in
    record {
      boot = omega arith;
      numbered = λ f within. let low = one.numbered f within in let high = two.numbered f (omega arith) in omega arith;
      line = λ f x e within is. two.line f x e (omega arith) (one.line f x e within is);
    }

later_member : (k l n : Member) → IsLaterMember k l → IsLaterMember l n → IsLaterMember k n
later_member k l n one two = record {
  boots = λ c. two.boots c ∙ one.boots c;
  begun = λ c s is. two.begun c s (one.begun c s is);
  want = λ c w is. let first = one.want c w is in let second = two.want c first.0 first.1 in (second.0, second.1, (let low = first.2 in let high = second.2 in omega arith));
  joined = λ c s begun is. one.joined c s begun (two.joined c s (one.begun c s begun) is);
}

pub runs_later : (g h : Group) → Runs g h → IsGroup g → IsLater g h
runs_later g _ none law = record { caster = same_caster g.caster; members = λ m. same_member (g.members m) }
runs_later g h (go_on {between = between} one more) law =
    let first = happens_later g between one law in
    let rest = runs_later between h more (event_keeps g between one law) in
    record { caster = later_caster g.caster between.caster h.caster first.caster rest.caster; members = λ m. later_member (g.members m) (between.members m) (h.members m) (first.members m) (rest.members m) }
