-- Where no call is recorded, the calls of all nodes stay in order.
use Rattle.std.proofs.Common.{◌≡◌, ◌≢◌, ◌<◌, ◌⊎◌, ◌%◌, ◌^◌, ℕ, zero, suc, List, [], ◌∷◌, ◌++◌, Option, Some, None, length, slice_get, slice_index_or, slice_set, sum_by, refl, sym, ap, subst, ◌∙◌, inl, inr, get_or-set_same, get_or-set_other, arith}
use Rattle.std.specs.List.{All}
use Rattle.std.proofs.lemmas.Bool.{cases_eq}
use Rattle.std.proofs.lemmas.List.Elements.{All-nil}
use Rattle.tipc_types.specs.declared.identity.Addr.{Addr}
use Rattle.tipc_pick.specs.Choosing.{Choosing}
use Rattle.tipc_journal.specs.declared.entries.Entry.{Entry}
use Rattle.tipc_journal.specs.Counting.{calls_of, names_sent_before, stamps}
use Rattle.tipc_journal.specs.Licensed.{AllPicked}
use Rattle.tipc_journal.proofs.CountLaws.{CallsCount_nil, StampsRise_nil, calls_of_nil, names_sent_before_nil, stamps_nil}
use Rattle.tipc_journal.proofs.LicenceLaws.{AllPicked_nil, AllPicked_same}
use Rattle.tipc_node.specs.Turns.{addr_of}
use Rattle.tipc_world.specs.Answered.{AreInOrder, sent_in, sum_to, turn_at, AreOrderly, HasStamp}
use Rattle.tipc_replay.specs.States.{journal_at, journals_of, MemberState}
use Rattle.tipc_replay.specs.Events.{JoinsAt}
use Rattle.tipc_replay.specs.Members.{IsNewcomer, IsRestarted}
use Rattle.tipc_world.proofs.calls.Adding.{stamp_lasts, stay_longer, Stay}
use Rattle.tipc_replay.proofs.calls.Journals.{restart_journals, get_more, journal_at-is, journal_at-none, journal_at-same}
use Rattle.tipc_replay.proofs.LookUps.{place_within}
use Rattle.tipc_world.proofs.calls.Sums.{sent_split, sum_last, turn_same}

-- ---- an empty journal

empty_in_order : AreInOrder []
empty_in_order = record { counted = CallsCount_nil; rise = StampsRise_nil }

empty_below : (recorded : ℕ) → All (λ stamp. stamp < recorded) (stamps [])
empty_below recorded = subst (All (λ stamp. stamp < recorded)) (sym stamps_nil) (All-nil (λ (stamp : ℕ). stamp < recorded))

never_stamped : (place stamp : ℕ) → slice_get (stamps []) place ≡ Some stamp → ⊥
never_stamped place stamp there = absurd (let wrong : slice_get [] place ≡ Some stamp = ap (λ xs. slice_get xs place) (sym stamps_nil) ∙ there in none place stamp wrong)
  where
    none : (place stamp : ℕ) → (let nothing : List ℕ = [] in slice_get nothing place ≡ Some stamp) → ⊥
    none place stamp there = absurd cc

-- ---- no new journal but empty ones

-- how many calls a node has recorded in its present boot
abbrev pub IsCounted : MemberState → Type 0
IsCounted m = m.calls ≡ length (calls_of m.node.journal 0)

-- each journal stood there before or is empty, each stamp stays, and no node sent more
pub record NoneNew (old new : List (Option MemberState)) : Type 0 where
  pub journals : (n boot : ℕ) (journal : List Entry) → journal_at new n boot ≡ Some journal → (journal_at old n boot ≡ Some journal) ⊎ (journal ≡ [])
  pub lasts : (n boot stamp : ℕ) → HasStamp old n boot stamp → HasStamp new n boot stamp
  pub sent : (n stamp : ℕ) → sent_in (slice_index_or new n None) stamp ≡ sent_in (slice_index_or old n None) stamp
  pub calls : (n : ℕ) (m : MemberState) → slice_index_or new n None ≡ Some m → IsCounted m

quiet_in_order : (journal : List Entry) (stood : Type 0) → (stood → AreInOrder journal) → stood ⊎ (journal ≡ []) → AreInOrder journal
quiet_in_order journal stood is (inl old) = is old
quiet_in_order journal stood is (inr none) = subst AreInOrder (sym none) empty_in_order

quiet_stamped : (recorded : ℕ) (journal : List Entry) (stood : Type 0) → (stood → All (λ stamp. stamp < recorded) (stamps journal)) → stood ⊎ (journal ≡ []) → All (λ stamp. stamp < recorded) (stamps journal)
quiet_stamped recorded journal stood is (inl old) = is old
quiet_stamped recorded journal stood is (inr none) = subst (λ j. All (λ stamp. stamp < recorded) (stamps j)) (sym none) (empty_below recorded)

quiet_picked : (gives : ℕ → ℕ → ℕ → Type 0) (turn : ℕ → ℕ) (own : Addr) (journal : List Entry) (stood : Type 0) → (stood → AllPicked gives turn own journal) → stood ⊎ (journal ≡ []) → AllPicked gives turn own journal
quiet_picked gives turn own journal stood is (inl old) = is old
quiet_picked gives turn own journal stood is (inr none) = subst (AllPicked gives turn own) (sym none) (AllPicked_nil gives turn own)

quiet_stamp : (old new : List (Option MemberState)) (n boot stamp : ℕ) → NoneNew old new → HasStamp new n boot stamp → HasStamp old n boot stamp
quiet_stamp old new n boot stamp q h = by (q.journals n boot h.journal h.there)
  where
    by : (journal_at old n boot ≡ Some h.journal) ⊎ (h.journal ≡ []) → HasStamp old n boot stamp
    by (inl stood) = record { journal = h.journal; there = stood; place = h.place; stands = h.stands }
    by (inr none) = absurd (never_stamped h.place stamp (ap (λ j. slice_get (stamps j) h.place) (sym none) ∙ h.stands))

pub quiet_orderly : {P : Type 0} (gives : P → ℕ → ℕ → ℕ → Type 0) (old new : List (Option MemberState)) (recorded : ℕ) (chooser : Choosing P) → AreOrderly gives old recorded chooser → NoneNew old new → AreOrderly gives new recorded chooser
quiet_orderly gives old new recorded chooser h q =
    let turns : (stamp : ℕ) → turn_at new stamp ≡ turn_at old stamp = λ stamp. turn_same old new stamp stamp (λ n. q.sent n stamp) in
    record {
      numbered = λ n boot journal there. quiet_in_order journal (journal_at old n boot ≡ Some journal) (h.numbered n boot journal) (q.journals n boot journal there);
      stamped = λ n boot journal there. quiet_stamped recorded journal (journal_at old n boot ≡ Some journal) (h.stamped n boot journal) (q.journals n boot journal there);
      every = λ stamp below. (let one = h.every stamp below in (one.0, one.1, q.lasts one.0 one.1 stamp one.2));
      once = λ n boot n' boot' stamp one other. h.once n boot n' boot' stamp (quiet_stamp old new n boot stamp q one) (quiet_stamp old new n' boot' stamp q other);
      picked = λ n boot journal there. quiet_picked (gives chooser.pick) (turn_at new) (addr_of n) journal (journal_at old n boot ≡ Some journal)
          (λ stood. AllPicked_same (gives chooser.pick) (turn_at old) (turn_at new) (addr_of n) journal recorded (h.stamped n boot journal stood) (λ x _. sym (turns x)) (h.picked n boot journal stood)) (q.journals n boot journal there);
      calls = q.calls;
      turn = ap (λ t. t % 2 ^ 64) (turns recorded) ∙ h.turn;
    }

-- ---- at one node

-- what a node has after such an event
record QuietAt (before after : MemberState) : Type 0 where
  journals : (boot : ℕ) (journal : List Entry) → slice_get (journals_of after) boot ≡ Some journal → (slice_get (journals_of before) boot ≡ Some journal) ⊎ (journal ≡ [])
  stay : Stay before after
  sent : (stamp : ℕ) → sent_in (Some after) stamp ≡ sent_in (Some before) stamp
  calls : IsCounted before → IsCounted after

quiet_set : (old : List (Option MemberState)) (a : ℕ) (before after : MemberState) → slice_index_or old a None ≡ Some before → ((n : ℕ) (m : MemberState) → slice_index_or old n None ≡ Some m → IsCounted m)
    → QuietAt before after → NoneNew old (slice_set old a (Some after))
quiet_set old a before after was counted q = record {
  journals = λ n boot journal there. elim (cases_eq n a) [
    | inl same ↦
        let at_a : slice_get (journals_of after) boot ≡ Some journal = sym (journal_at-is new a boot after here) ∙ ap (λ k. journal_at new k boot) (sym same) ∙ there in
        subst (λ k. (journal_at old k boot ≡ Some journal) ⊎ (journal ≡ [])) (sym same)
        (subst (λ o. (o ≡ Some journal) ⊎ (journal ≡ [])) (sym (journal_at-is old a boot before was)) (q.journals boot journal at_a))
    | inr apart ↦ inl (sym (journal_at-same old new n boot (others n apart)) ∙ there)
  ];
  lasts = λ n boot stamp. stamp_lasts old a n boot stamp before after was q.stay;
  sent = λ n stamp. elim (cases_eq n a) [
    | inl same ↦ subst (λ k. sent_in (slice_index_or new k None) stamp ≡ sent_in (slice_index_or old k None) stamp) (sym same)
        (ap (λ o. sent_in o stamp) here ∙ q.sent stamp ∙ ap (λ o. sent_in o stamp) (sym was))
    | inr apart ↦ ap (λ o. sent_in o stamp) (others n apart)
  ];
  calls = λ n m there. elim (cases_eq n a) [
    | inl same ↦
        let is : after ≡ m = (let e : Some after ≡ Some m = sym here ∙ ap (λ k. slice_index_or new k None) (sym same) ∙ there in cc) in
        subst IsCounted is (q.calls (counted a before was))
    | inr apart ↦ counted n m (sym (others n apart) ∙ there)
  ];
}
  where
    new : List (Option MemberState)
    new = slice_set old a (Some after)

    here : slice_index_or new a None ≡ Some after
    here = get_or-set_same old a (Some after) None (place_within old a before was)

    others : (n : ℕ) → n ≢ a → slice_index_or new n None ≡ slice_index_or old n None
    others n apart = get_or-set_other old a n (Some after) None apart

-- a node is restarted
restart_quiet : (m m' : MemberState) → IsRestarted m m' → QuietAt m m'
restart_quiet m m' r = record {
  journals = λ boot journal there.
      by journal (get_more (m.past ++ m.node.journal ∷ []) [] boot journal (subst (λ js. slice_get js boot ≡ Some journal) journals there));
  stay = stay_longer m m' ([] ∷ []) journals;
  sent = λ stamp.
      let now = sum_last (λ j. names_sent_before j stamp) (m.past ++ m.node.journal ∷ []) [] in
      let none = names_sent_before_nil stamp in
      let all : sent_in (Some m') stamp ≡ sum_by (λ j. names_sent_before j stamp) ((m.past ++ m.node.journal ∷ []) ++ [] ∷ []) = ap (sum_by (λ j. names_sent_before j stamp)) journals in
      omega (arith, now, none, all);
  calls = λ h. r.calls ∙ sym (ap (λ j. length (calls_of j 0)) r.node.no_history ∙ ap length (calls_of_nil 0));
}
  where
    journals : journals_of m' ≡ (m.past ++ m.node.journal ∷ []) ++ [] ∷ []
    journals = restart_journals m m' r

    by : (journal : List Entry) {boot : ℕ} → (slice_get (journals_of m) boot ≡ Some journal) ⊎ ((boot ≡ length (journals_of m)) × ([] ≡ journal)) → (slice_get (journals_of m) boot ≡ Some journal) ⊎ (journal ≡ [])
    by journal (inl old) = inl old
    by journal (inr last) = inr (sym last.1)

pub restart_orderly : {P : Type 0} (gives : P → ℕ → ℕ → ℕ → Type 0) (old : List (Option MemberState)) (recorded a : ℕ) (chooser : Choosing P) (before after : MemberState) → slice_index_or old a None ≡ Some before
    → IsRestarted before after → AreOrderly gives old recorded chooser → AreOrderly gives (slice_set old a (Some after)) recorded chooser
restart_orderly gives old recorded a chooser before after was r h =
    quiet_orderly gives old (slice_set old a (Some after)) recorded chooser h (quiet_set old a before after was h.calls (restart_quiet before after r))

-- ---- a node comes in, and the beginning

newcomer_sent : (m : MemberState) (n stamp : ℕ) → IsNewcomer m n 1 → sent_in (Some m) stamp ≡ 0
newcomer_sent m n stamp c =
    let split = sent_split m stamp in
    let past : sum_by (λ j. names_sent_before j stamp) m.past ≡ 0 = ap (sum_by (λ j. names_sent_before j stamp)) c.past in
    let present : names_sent_before m.node.journal stamp ≡ 0 = ap (λ j. names_sent_before j stamp) c.node.no_history ∙ names_sent_before_nil stamp in
    omega (arith, split, past, present)

newcomer_counted : (m : MemberState) (n : ℕ) → IsNewcomer m n 1 → IsCounted m
newcomer_counted m n c = c.calls ∙ sym (ap (λ j. length (calls_of j 0)) c.node.no_history ∙ ap length (calls_of_nil 0))

newcomer_journal : (m : MemberState) (n boot : ℕ) (journal : List Entry) → IsNewcomer m n 1 → slice_get (journals_of m) boot ≡ Some journal → journal ≡ []
newcomer_journal m n boot journal c there = by (get_more [] [] boot journal (subst (λ js. slice_get js boot ≡ Some journal) journals there))
  where
    journals : journals_of m ≡ [] ∷ []
    journals = ap (λ js. js ++ m.node.journal ∷ []) c.past ∙ ap (λ j. j ∷ []) c.node.no_history

    by : (slice_get [] boot ≡ Some journal) ⊎ ((boot ≡ 0) × ([] ≡ journal)) → journal ≡ []
    by (inl old) = absurd cc
    by (inr last) = sym last.1

joined_none_new : (old new : List (Option MemberState)) (n : ℕ) → slice_index_or old n None ≡ None → JoinsAt old new n 1 → ((k : ℕ) (m : MemberState) → slice_index_or old k None ≡ Some m → IsCounted m) → NoneNew old new
joined_none_new old new n absent j counted = record {
  journals = λ k boot journal there. elim (cases_eq k n) [
    | inl same ↦ inr (newcomer_journal j.newcomer n boot journal j.fresh (sym (journal_at-is new n boot j.newcomer j.here) ∙ ap (λ i. journal_at new i boot) (sym same) ∙ there))
    | inr apart ↦ inl (sym (journal_at-same old new k boot (j.others k apart)) ∙ there)
  ];
  lasts = λ k boot stamp h. elim (cases_eq k n) [
    | inl same ↦ absurd (let none = sym (ap (λ i. journal_at old i boot) same ∙ journal_at-none old n boot absent) ∙ h.there in let wrong : ⊥ = cc in wrong)
    | inr apart ↦ record { journal = h.journal; there = journal_at-same old new k boot (j.others k apart) ∙ h.there; place = h.place; stands = h.stands }
  ];
  sent = λ k stamp. elim (cases_eq k n) [
    | inl same ↦ subst (λ i. sent_in (slice_index_or new i None) stamp ≡ sent_in (slice_index_or old i None) stamp) (sym same)
        (ap (λ o. sent_in o stamp) j.here ∙ newcomer_sent j.newcomer n stamp j.fresh ∙ sym (ap (λ o. sent_in o stamp) absent))
    | inr apart ↦ ap (λ o. sent_in o stamp) (j.others k apart)
  ];
  calls = λ k m there. elim (cases_eq k n) [
    | inl same ↦
        let is : j.newcomer ≡ m = (let e : Some j.newcomer ≡ Some m = sym j.here ∙ ap (λ i. slice_index_or new i None) (sym same) ∙ there in cc) in
        subst IsCounted is (newcomer_counted j.newcomer n j.fresh)
    | inr apart ↦ counted k m (sym (j.others k apart) ∙ there)
  ];
}

pub joined_orderly : {P : Type 0} (gives : P → ℕ → ℕ → ℕ → Type 0) (old new : List (Option MemberState)) (n recorded : ℕ) (chooser : Choosing P) → slice_index_or old n None ≡ None → JoinsAt old new n 1
    → AreOrderly gives old recorded chooser → AreOrderly gives new recorded chooser
joined_orderly gives old new n recorded chooser absent j h = quiet_orderly gives old new recorded chooser h (joined_none_new old new n absent j h.calls)

nowhere : (n boot : ℕ) (journal : List Entry) → journal_at [] n boot ≡ Some journal → ⊥
nowhere n boot journal there = absurd (let none = journal_at-none [] n boot refl in let wrong : ⊥ = cc in wrong)

sum_none : (n : ℕ) → sum_to (λ k. 0) n ≡ 0
unfolding sum_to
sum_none zero = refl
sum_none (suc n) = let none = sum_none n in omega (arith, none)

none_sent : turn_at [] 0 ≡ 0
unfolding turn_at
none_sent = sum_none 32

-- where no nodes are
pub start_orderly : {P : Type 0} (gives : P → ℕ → ℕ → ℕ → Type 0) (chooser : Choosing P) → chooser.turn ≡ 0 → AreOrderly gives [] 0 chooser
start_orderly gives chooser first = record {
  numbered = λ n boot journal there. absurd (nowhere n boot journal there);
  stamped = λ n boot journal there. absurd (nowhere n boot journal there);
  every = λ stamp below. absurd (omega (arith, below));
  once = λ n boot n' boot' stamp one other. absurd (nowhere n boot one.journal one.there);
  picked = λ n boot journal there. absurd (nowhere n boot journal there);
  calls = λ n m there. absurd cc;
  turn = ap (λ t. t % 2 ^ 64) none_sent ∙ sym first;
}
