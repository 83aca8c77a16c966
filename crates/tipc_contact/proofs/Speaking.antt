-- A side and what it has said, through all that it does.
use Rattle.std.proofs.Common.{◌≡◌, ◌≢◌, ◌⊎◌, ℕ, zero, suc, ◌<◌, ◌≤◌, ◌==◌, true, false, List, [], ◌∷◌, ◌++◌, Option, Some, None, if◌then◌else◌, refl, sym, ap, ◌∙◌, subst, inl, inr, arith}
use Rattle.std.specs.Prelude.{slice_get}
use Rattle.std.proofs.lemmas.Bool.{cases_Bool, cases_eq, true≢false}
use Rattle.std.proofs.lemmas.Bool.Decides.{nat_tests}
use Rattle.tipc_types.specs.LinkStates.{is_up}
use Rattle.tipc_link_fsm.specs.Table.{Fsm, fresh, is_last, next_epoch}
use Rattle.tipc_link_fsm.specs.Runs.{Call, ForgetsPeer, ContactEnds, outcome}
use Rattle.tipc_link_fsm.proofs.Rising.{own_rises}
use Rattle.tipc_contact.specs.Sides.{acted, after_call, alone, boot_of, Action, ContactEnded, EndCalled, EndMade, HigherShown, IsSaid, MayAct, Notice, Restarted, Side}
use Rattle.tipc_contact.specs.Peers.{Speaks}
use Rattle.tipc_contact.proofs.Calls.{ended_own, forgotten_own, next_boot, next_of_last, next_of_other, own_after, same_boot}

-- ---- ends by bearer

pub at_same : {A : Type 0} (x b : ℕ) (u v : A) → x ≡ b → (if x == b then u else v) ≡ u
at_same x b u v same = let test : (x == b) ≡ true = grind (arith, nat_tests, same) in rw test refl

pub at_other : {A : Type 0} (x b : ℕ) (u v : A) → x ≢ b → (if x == b then u else v) ≡ v
at_other x b u v differ = let test : (x == b) ≡ false = grind (arith, nat_tests, differ) in rw test refl

-- the end before a call
pub called_end : (call : Call) (o : Option Fsm) (end' : Fsm) → after_call call o ≡ Some end' → (end : Fsm) × (o ≡ Some end) × ((outcome end call).after ≡ end')
called_end call None end' is = absurd (let wrong : ⊥ = cc in wrong)
called_end call (Some end) end' is = (end, refl, (let same : (outcome end call).after ≡ end' = cc in same))

pub called_none : (call : Call) (o : Option Fsm) → after_call call o ≡ None → o ≡ None
called_none call None is = refl
called_none call (Some end) is = absurd (let wrong : ⊥ = cc in wrong)

-- ---- contact numbers

-- a node's contact number never gets lower
pub own_no_lower : (s : Side) (heard : List Notice) (action : Action) → MayAct s heard action → s.own ≤ (acted s action).own
own_no_lower s heard (EndMade bearer) may = omega arith
own_no_lower s heard (EndCalled bearer call) may = omega arith
own_no_lower s heard (HigherShown number) may = omega arith
own_no_lower s heard ContactEnded may = omega arith
own_no_lower s heard (Restarted boot) may = omega (arith, may)

-- an epoch belongs to the contact number under which an end has it
abbrev noted_by : Option Fsm → ℕ → ℕ → ℕ → ℕ
noted_by None own epoch before = before
noted_by (Some end) own epoch before = if epoch == end.own then own else before

-- what a side has to keep through an action
record Keeps (s s' : Side) (said : List Notice) : Type 0 where
  renewed : (place : ℕ) (m : Notice) (end' : Fsm) → slice_get said place ≡ Some m → s'.ends m.bearer ≡ Some end' → is_last m.es ≡ false → m.es ≡ end'.own → s'.own ≡ m.contact
  past : (place : ℕ) (m : Notice) (end' : Fsm) → slice_get said place ≡ Some m → s'.ends m.bearer ≡ Some end' → m.es ≤ end'.own
  before : (place : ℕ) (m : Notice) → slice_get said place ≡ Some m → s'.ends m.bearer ≡ None → m.es < s'.own
  boots : boot_of s.own ≤ boot_of s'.own
  boot : (bearer : ℕ) (end' : Fsm) → s'.ends bearer ≡ Some end' → boot_of end'.own ≡ boot_of s'.own
  some : 1 ≤ s'.own
  order : (bearer : ℕ) (end' : Fsm) → s'.ends bearer ≡ Some end' → s'.own ≤ end'.own

noted_now : (o : Option Fsm) (end : Fsm) (own before : ℕ) → o ≡ Some end → noted_by o own end.own before ≡ own
noted_now o end own before is = ap (λ z. noted_by z own end.own before) is ∙ at_same end.own end.own own before refl

noted_shown : (o : Option Fsm) (own before contact es : ℕ) → before ≡ contact → ((end' : Fsm) → o ≡ Some end' → es ≡ end'.own → own ≡ contact) → noted_by o own es before ≡ contact
noted_shown None own before contact es old renewed = old
noted_shown (Some end') own before contact es old renewed = elim (cases_eq es end'.own) [
  | inl same ↦ at_same es end'.own own before same ∙ renewed end' refl same
  | inr differ ↦ at_other es end'.own own before differ ∙ old
]

kept : (s s' : Side) (said : List Notice) → Speaks s said → Keeps s s' said → Speaks s' said
kept s s' said h k = record {
  contact_of = λ bearer epoch. noted_by (s'.ends bearer) s'.own epoch (h.contact_of bearer epoch);
  now = λ bearer end is _. noted_now (s'.ends bearer) end s'.own (h.contact_of bearer end.own) is;
  shown = λ place m there goes_on. noted_shown (s'.ends m.bearer) s'.own (h.contact_of m.bearer m.es) m.contact m.es (h.shown place m there goes_on)
      (λ end' is same. k.renewed place m end' there is goes_on same);
  past = k.past;
  before = k.before;
  boots = λ place m there. (let old = h.boots place m there in let higher = k.boots in omega arith);
  boot = k.boot;
  some = k.some;
  order = k.order;
}

-- where the end of a bearer has its epoch still, it has its contact number
same_epoch : (s : Side) (said : List Notice) (place : ℕ) (m : Notice) (end : Fsm) → Speaks s said → slice_get said place ≡ Some m → s.ends m.bearer ≡ Some end → is_last m.es ≡ false → m.es ≡ end.own → s.own ≡ m.contact
same_epoch s said place m end h there is goes_on same =
    let goes_on_end : is_last end.own ≡ false = subst (λ e. is_last e ≡ false) same goes_on in
    sym (h.now m.bearer end is goes_on_end) ∙ ap (h.contact_of m.bearer) (sym same) ∙ h.shown place m there goes_on

-- ---- a link end is made

made_keeps : (s : Side) (said : List Notice) (bearer : ℕ) → Speaks s said → s.ends bearer ≡ None → Keeps s (acted s (EndMade bearer)) said
made_keeps s said bearer h none =
    let s' = acted s (EndMade bearer) in
    let new : (x : ℕ) (end' : Fsm) → x ≡ bearer → s'.ends x ≡ Some end' → end'.own ≡ s.own =
    λ x end' same is. (
    let fresh_is : Some (fresh s.own) ≡ Some end' = sym (at_same x bearer (Some (fresh s.own)) (s.ends x) same) ∙ is in
    let own_is : fresh s.own ≡ end' = cc in ap (λ (e : Fsm). e.own) (sym own_is)) in
    let old : (x : ℕ) (o : Option Fsm) → x ≢ bearer → s'.ends x ≡ o → s.ends x ≡ o =
    λ x o differ is. sym (at_other x bearer (Some (fresh s.own)) (s.ends x) differ) ∙ is in
    let absent : (x : ℕ) → x ≡ bearer → s.ends x ≡ None = λ x same. ap s.ends same ∙ none in
    record {
      renewed = λ place m end' there is goes_on same. elim (cases_eq m.bearer bearer) [
        | inl here ↦ absurd (let lower = h.before place m there (absent m.bearer here) in let own = new m.bearer end' here is in let wrong : ⊥ = omega arith in wrong)
        | inr differ ↦ same_epoch s said place m end' h there (old m.bearer (Some end') differ is) goes_on same
      ];
      past = λ place m end' there is. elim (cases_eq m.bearer bearer) [
        | inl here ↦ (let lower = h.before place m there (absent m.bearer here) in let own = new m.bearer end' here is in omega arith)
        | inr differ ↦ h.past place m end' there (old m.bearer (Some end') differ is)
      ];
      before = λ place m there is. elim (cases_eq m.bearer bearer) [
        | inl here ↦ h.before place m there (absent m.bearer here)
        | inr differ ↦ h.before place m there (old m.bearer None differ is)
      ];
      boots = omega arith;
      boot = λ x end' is. elim (cases_eq x bearer) [
        | inl here ↦ ap boot_of (new x end' here is)
        | inr differ ↦ h.boot x end' (old x (Some end') differ is)
      ];
      some = h.some;
      order = λ x end' is. elim (cases_eq x bearer) [
        | inl here ↦ (let own = new x end' here is in omega arith)
        | inr differ ↦ h.order x end' (old x (Some end') differ is)
      ];
    }

-- ---- a call is made at a link end

-- the end of a bearer before a call was made at one bearer
old_end : (s : Side) (bearer : ℕ) (call : Call) (x : ℕ) (end' : Fsm) → (acted s (EndCalled bearer call)).ends x ≡ Some end'
    → (end : Fsm) × (s.ends x ≡ Some end) × ((end'.own ≡ end.own) ⊎ (end'.own ≡ next_epoch end.own)) × (end.own ≤ end'.own)
old_end s bearer call x end' is = elim (cases_eq x bearer) [
  | inl here ↦
      let found = called_end call (s.ends x) end' (sym (at_same x bearer (after_call call (s.ends x)) (s.ends x) here) ∙ is) in
      let own : (outcome found.0 call).after.own ≡ end'.own = ap (λ (e : Fsm). e.own) found.2 in
      (found.0, found.1, elim (own_after found.0 call) [ inl same ↦ inl (sym own ∙ same) | inr next ↦ inr (sym own ∙ next) ], (let rises = own_rises found.0 call in omega arith))
  | inr differ ↦ (end', sym (at_other x bearer (after_call call (s.ends x)) (s.ends x) differ) ∙ is, inl refl, omega arith)
]

old_none : (s : Side) (bearer : ℕ) (call : Call) (x : ℕ) → (acted s (EndCalled bearer call)).ends x ≡ None → s.ends x ≡ None
old_none s bearer call x is = elim (cases_eq x bearer) [
  | inl here ↦ called_none call (s.ends x) (sym (at_same x bearer (after_call call (s.ends x)) (s.ends x) here) ∙ is)
  | inr differ ↦ sym (at_other x bearer (after_call call (s.ends x)) (s.ends x) differ) ∙ is
]

-- an epoch that a side has named is no next one
no_next : (s : Side) (said : List Notice) (place : ℕ) (m : Notice) (end end' : Fsm) → Speaks s said → slice_get said place ≡ Some m → s.ends m.bearer ≡ Some end → is_last m.es ≡ false → m.es ≡ end'.own
    → end'.own ≡ next_epoch end.own → is_last end.own ≡ true
no_next s said place m end end' h there is goes_on same next = elim (cases_Bool (is_last end.own)) [
  | inl last ↦ last
  | inr other ↦ absurd (let past = h.past place m end there is in let more = next_of_other end.own other in let wrong : ⊥ = omega arith in wrong)
]

call_keeps : (s : Side) (said : List Notice) (bearer : ℕ) (call : Call) → Speaks s said → Keeps s (acted s (EndCalled bearer call)) said
call_keeps s said bearer call h = record {
  renewed = λ place m end' there is goes_on same.
      let old = old_end s bearer call m.bearer end' is in
      elim old.2 [
        | inl own ↦ same_epoch s said place m old.0 h there old.1 goes_on (same ∙ own)
        | inr next ↦
            let last = no_next s said place m old.0 end' h there old.1 goes_on same next in
            same_epoch s said place m old.0 h there old.1 goes_on (same ∙ next ∙ next_of_last old.0.own last)
      ];
  past = λ place m end' there is.
      let old = old_end s bearer call m.bearer end' is in
      let past = h.past place m old.0 there old.1 in
      let rises = old.3 in
      omega arith;
  before = λ place m there is. h.before place m there (old_none s bearer call m.bearer is);
  boots = omega arith;
  boot = λ x end' is.
      let old = old_end s bearer call x end' is in
      elim old.2 [
        | inl own ↦ ap boot_of own ∙ h.boot x old.0 old.1
        | inr next ↦ ap boot_of next ∙ next_boot old.0.own ∙ h.boot x old.0 old.1
      ];
  some = h.some;
  order = λ x end' is.
      let old = old_end s bearer call x end' is in
      let order = h.order x old.0 old.1 in
      let rises = old.3 in
      omega arith;
}

-- ---- the peer shows a higher contact number

shown_end : (s : Side) (number x : ℕ) (end' : Fsm) → ((bearer : ℕ) (end : Fsm) → s.ends bearer ≡ Some end → is_up end.state ≡ false) → (acted s (HigherShown number)).ends x ≡ Some end'
    → (end : Fsm) × (s.ends x ≡ Some end) × (end'.own ≡ end.own)
shown_end s number x end' down is =
    let found = called_end ForgetsPeer (s.ends x) end' is in
    (found.0, found.1, ap (λ (e : Fsm). e.own) (sym found.2) ∙ forgotten_own found.0 (down x found.0 found.1))

shown_keeps : (s : Side) (said : List Notice) (number : ℕ) → Speaks s said → ((bearer : ℕ) (end : Fsm) → s.ends bearer ≡ Some end → is_up end.state ≡ false) → Keeps s (acted s (HigherShown number)) said
shown_keeps s said number h down = record {
  renewed = λ place m end' there is goes_on same.
      let old = shown_end s number m.bearer end' down is in
      same_epoch s said place m old.0 h there old.1 goes_on (same ∙ old.2);
  past = λ place m end' there is.
      let old = shown_end s number m.bearer end' down is in
      let past = h.past place m old.0 there old.1 in
      let own = old.2 in
      omega arith;
  before = λ place m there is. h.before place m there (called_none ForgetsPeer (s.ends m.bearer) is);
  boots = omega arith;
  boot = λ x end' is. (let old = shown_end s number x end' down is in ap boot_of old.2 ∙ h.boot x old.0 old.1);
  some = h.some;
  order = λ x end' is.
      let old = shown_end s number x end' down is in
      let order = h.order x old.0 old.1 in
      let own = old.2 in
      omega arith;
}

-- ---- the contact ends

ended_end : (s : Side) (x : ℕ) (end' : Fsm) → (acted s ContactEnded).ends x ≡ Some end' → (end : Fsm) × (s.ends x ≡ Some end) × (end'.own ≡ next_epoch end.own)
ended_end s x end' is =
    let found = called_end ContactEnds (s.ends x) end' is in
    (found.0, found.1, ap (λ (e : Fsm). e.own) (sym found.2) ∙ ended_own found.0)

ended_keeps : (s : Side) (said : List Notice) → Speaks s said → is_last s.own ≡ false → Keeps s (acted s ContactEnded) said
ended_keeps s said h goes_on_own = record {
  renewed = λ place m end' there is goes_on same.
      let old = ended_end s m.bearer end' is in
      let last = no_next s said place m old.0 end' h there old.1 goes_on same old.2 in
      absurd (true≢false (sym last ∙ subst (λ e. is_last e ≡ false) (same ∙ old.2 ∙ next_of_last old.0.own last) goes_on));
  past = λ place m end' there is.
      let old = ended_end s m.bearer end' is in
      let past = h.past place m old.0 there old.1 in
      elim (cases_Bool (is_last old.0.own)) [
        | inl last ↦ (let own = old.2 ∙ next_of_last old.0.own last in omega arith)
        | inr other ↦ (let own = old.2 ∙ next_of_other old.0.own other in omega arith)
      ];
  before = λ place m there is. (let before = h.before place m there (called_none ContactEnds (s.ends m.bearer) is) in omega arith);
  boots = omega arith;
  boot = λ x end' is.
      let old = ended_end s x end' is in
      ap boot_of old.2 ∙ next_boot old.0.own ∙ h.boot x old.0 old.1 ∙ sym (same_boot s.own goes_on_own);
  some = omega arith;
  order = λ x end' is.
      let old = ended_end s x end' is in
      let order = h.order x old.0 old.1 in
      elim (cases_Bool (is_last old.0.own)) [
        | inl last ↦
            let differ : s.own ≢ old.0.own = λ same. true≢false (sym last ∙ subst (λ e. is_last e ≡ false) same goes_on_own) in
            let own = old.2 ∙ next_of_last old.0.own last in
            omega (arith, differ)
        | inr other ↦ (let own = old.2 ∙ next_of_other old.0.own other in omega arith)
      ];
}

-- ---- the node is restarted

restarted_keeps : (s : Side) (said : List Notice) (boot : ℕ) → Speaks s said → boot_of s.own < boot → Keeps s (acted s (Restarted boot)) said
restarted_keeps s said boot h later = record {
  renewed = λ place m end' there is _ _. absurd (let wrong : ⊥ = cc in wrong);
  past = λ place m end' there is. absurd (let wrong : ⊥ = cc in wrong);
  before = λ place m there _. (let boots = h.boots place m there in omega arith);
  boots = omega arith;
  boot = λ x end' is. absurd (let wrong : ⊥ = cc in wrong);
  some = omega arith;
  order = λ x end' is. absurd (let wrong : ⊥ = cc in wrong);
}

pub speaks_on : (s : Side) (said heard : List Notice) (action : Action) → Speaks s said → MayAct s heard action → Speaks (acted s action) said
speaks_on s said heard (EndMade bearer) h may = kept s (acted s (EndMade bearer)) said h (made_keeps s said bearer h may)
speaks_on s said heard (EndCalled bearer call) h may = kept s (acted s (EndCalled bearer call)) said h (call_keeps s said bearer call h)
speaks_on s said heard (HigherShown number) h may = kept s (acted s (HigherShown number)) said h (shown_keeps s said number h may.1)
speaks_on s said heard ContactEnded h may = kept s (acted s ContactEnded) said h (ended_keeps s said h may)
speaks_on s said heard (Restarted boot) h may = kept s (acted s (Restarted boot)) said h (restarted_keeps s said boot h may)

pub speaks_alone : (boot : ℕ) → Speaks (alone boot) []
speaks_alone boot = record {
  contact_of = λ bearer epoch. 0;
  now = λ bearer end is _. absurd (let wrong : ⊥ = cc in wrong);
  shown = λ place m there _. absurd (let wrong : ⊥ = cc in wrong);
  past = λ place m end there _. absurd (let wrong : ⊥ = cc in wrong);
  before = λ place m there _. absurd (let wrong : ⊥ = cc in wrong);
  boots = λ place m there. absurd (let wrong : ⊥ = cc in wrong);
  boot = λ bearer end is. absurd (let wrong : ⊥ = cc in wrong);
  some = omega arith;
  order = λ bearer end is. absurd (let wrong : ⊥ = cc in wrong);
}

-- ---- a side says something

-- a notice in a list with one more is in the list, or is the one more
pub one_of : (said : List Notice) (new m : Notice) (place : ℕ) (P : Notice → Type 0) → slice_get (said ++ new ∷ []) place ≡ Some m → ((k : ℕ) → slice_get said k ≡ Some m → P m) → P new → P m
one_of [] new m zero P there old now = let same : new ≡ m = cc in subst P same now
one_of [] new m (suc k) P there old now = absurd (let wrong : ⊥ = cc in wrong)
one_of (x ∷ said) new m zero P there old now = old 0 there
one_of (x ∷ said) new m (suc k) P there old now = one_of said new m k P there (λ j is. old (suc j) is) now

pub speaks_more : (s : Side) (said : List Notice) (new : Notice) → Speaks s said → IsSaid s new → Speaks s (said ++ new ∷ [])
speaks_more s said new h is = record {
  contact_of = h.contact_of;
  now = h.now;
  shown = λ place m there. one_of said new m place (λ n. is_last n.es ≡ false → h.contact_of n.bearer n.es ≡ n.contact) there (λ k old. h.shown k m old)
      (λ goes_on. ap (h.contact_of new.bearer) is.es ∙ h.now new.bearer is.end is.there (subst (λ e. is_last e ≡ false) is.es goes_on) ∙ sym is.contact);
  past = λ place m end there. one_of said new m place (λ n. s.ends n.bearer ≡ Some end → n.es ≤ end.own) there (λ k old. h.past k m end old)
      (λ present. (let there_is = is.there in let same : is.end ≡ end = cc in let own = ap (λ (e : Fsm). e.own) same in let es = is.es in omega arith));
  before = λ place m there. one_of said new m place (λ n. s.ends n.bearer ≡ None → n.es < s.own) there (λ k old. h.before k m old)
      (λ none. absurd (let there_is = is.there in let wrong : ⊥ = cc in wrong));
  boots = λ place m there. one_of said new m place (λ n. boot_of n.es ≤ boot_of s.own) there (λ k old. h.boots k m old)
      (let same = h.boot new.bearer is.end is.there in let es = ap boot_of is.es in omega arith);
  boot = h.boot;
  some = h.some;
  order = h.order;
}
