-- Where a call is recorded, the calls of all nodes stay in order.
use Rattle.std.proofs.Common.{◌≡◌, ◌≤◌, ◌<◌, ◌⊎◌, ◌%◌, ◌^◌, ◌+◌, ◌==◌, ◌&&◌, ℕ, Bool, true, false, List, [], ◌∷◌, ◌++◌, Option, Some, None, cond, nat_lt, length, sum_by, slice_get, slice_index_or, slice_set, refl, sym, ap, subst, ◌∙◌, inl, inr, get_or-set_other, length-append, arith}
use Rattle.std.specs.List.{All}
use Rattle.std.proofs.lemmas.Bool.{cases_eq, cases_lt}
use Rattle.std.proofs.lemmas.Bool.Decides.{nat_tests}
use Rattle.std.proofs.lemmas.List.Elements.{All-push, All-weaker}
use Rattle.tipc_pick.specs.Choosing.{Choosing}
use Rattle.tipc_journal.specs.declared.entries.Entry.{Entry}
use Rattle.tipc_journal.specs.Counting.{calls_of, is_sent_by_name, names_sent_before, stamps, CallsCount, StampsRise}
use Rattle.tipc_journal.specs.Licensed.{AllPicked, IsPicked}
use Rattle.tipc_journal.specs.Prefixes.{list_with}
use Rattle.tipc_journal.specs.Steps.{step_entries, IsInside, IsWhole, NodeStep}
use Rattle.tipc_journal.proofs.CountLaws.{calls_of_step, names_sent_before_all, names_sent_before_step, stamps_step, CallsCount_step, StampsRise_step}
use Rattle.tipc_journal.proofs.LicenceLaws.{AllPicked_same, AllPicked_step}
use Rattle.tipc_node.specs.Turns.{addr_of}
use Rattle.tipc_world.specs.Answered.{AreInOrder, sent_in, turn_at, AreOrderly, HasStamp}
use Rattle.tipc_replay.specs.States.{journal_at, journals_of, MemberState}
use Rattle.tipc_replay.specs.Choices.{after_choice}
use Rattle.tipc_world.proofs.calls.Adding.{stamp_lasts, stay_recorded, step_made, here}
use Rattle.tipc_replay.proofs.calls.Journals.{all_get, get_more, journal_at-is, journal_at-same, past_at, present_at}
use Rattle.tipc_world.proofs.calls.Merging.{stamp_of}
use Rattle.tipc_world.proofs.calls.Quiet.{IsCounted}
use Rattle.tipc_world.proofs.calls.Sums.{sent_split, sum_same, turn_more, turn_same}

-- Node a recorded this step as the call of that number.
pub record Records (a recorded : ℕ) (before after : MemberState) (s : NodeStep) : Type 0 where
  pub from_one : 1 ≤ a
  pub to_32 : a ≤ 32
  pub past : after.past ≡ before.past
  pub journal : after.node.journal ≡ before.node.journal ++ step_entries s
  pub calls : after.calls ≡ before.calls + 1
  pub whole : IsWhole before.node.journal
  pub inside : IsInside s.inside
  pub stamp : s.by.stamp ≡ recorded
  pub caller : s.caller ≡ 0
  pub call : s.call ≡ before.calls

-- ---- look-ups

-- the journals are those of before, but for the present one of the node
journal_cases : (old : List (Option MemberState)) (a recorded n boot : ℕ) (before after : MemberState) (s : NodeStep) (journal : List Entry) → slice_index_or old a None ≡ Some before → Records a recorded before after s
    → journal_at (slice_set old a (Some after)) n boot ≡ Some journal → (journal_at old n boot ≡ Some journal) ⊎ ((n ≡ a) × (boot ≡ length before.past) × (after.node.journal ≡ journal))
journal_cases old a recorded n boot before after s journal was r there = elim (cases_eq n a) [
  | inl same ↦
      let at_a : slice_get (journals_of after) boot ≡ Some journal = sym (journal_at-is new a boot after (here old a before after was)) ∙ ap (λ k. journal_at new k boot) (sym same) ∙ there in
      by same (get_more before.past after.node.journal boot journal (subst (λ js. slice_get (js ++ after.node.journal ∷ []) boot ≡ Some journal) r.past at_a))
  | inr apart ↦ inl (sym (journal_at-same old new n boot (get_or-set_other old a n (Some after) None apart)) ∙ there)
]
  where
    new : List (Option MemberState)
    new = slice_set old a (Some after)

    by : n ≡ a → (slice_get before.past boot ≡ Some journal) ⊎ ((boot ≡ length before.past) × (after.node.journal ≡ journal)) → (journal_at old n boot ≡ Some journal) ⊎ ((n ≡ a) × (boot ≡ length before.past) × (after.node.journal ≡ journal))
    by same (inl stood) = inl (ap (λ k. journal_at old k boot) same ∙ past_at old a boot before journal was stood)
    by same (inr last) = inr (same, last.0, last.1)

-- ---- the journal of the node

recorded_in_order : (a recorded : ℕ) (before after : MemberState) (s : NodeStep) → Records a recorded before after s → AreInOrder before.node.journal → IsCounted before → All (λ stamp. stamp < recorded) (stamps before.node.journal)
    → AreInOrder after.node.journal
recorded_in_order a recorded before after s r h counted below =
    let J = before.node.journal in
    record {
      counted = subst CallsCount (sym r.journal) (CallsCount_step J s r.whole r.inside h.counted (r.call ∙ counted ∙ ap (λ c. length (calls_of J c)) (sym r.caller)));
      rise = subst StampsRise (sym r.journal) (StampsRise_step J s r.whole r.inside h.rise (subst (λ n. All (λ stamp. stamp < n) (stamps J)) (sym r.stamp) below));
    }

stamps_after : (a recorded : ℕ) (before after : MemberState) (s : NodeStep) → Records a recorded before after s → stamps after.node.journal ≡ stamps before.node.journal ++ recorded ∷ []
stamps_after a recorded before after s r = ap stamps r.journal ∙ stamps_step before.node.journal s r.whole r.inside ∙ ap (λ n. stamps before.node.journal ++ n ∷ []) r.stamp

counted_after : (a recorded : ℕ) (before after : MemberState) (s : NodeStep) → Records a recorded before after s → IsCounted before → IsCounted after
counted_after a recorded before after s r counted =
    let J = before.node.journal in
    let more : calls_of after.node.journal 0 ≡ list_with (calls_of J 0) (Some s.call) =
    ap (λ j. calls_of j 0) r.journal ∙ calls_of_step J s 0 r.whole r.inside ∙ ap (λ c. list_with (calls_of J 0) (cond (c == 0) (Some s.call) None)) r.caller in
    let size = ap length more ∙ length-append (calls_of J 0) (s.call ∷ []) in
    r.calls ∙ ap (λ n. n + 1) counted ∙ sym size

-- ---- stamps

all_later : (xs : List ℕ) (recorded : ℕ) → All (λ stamp. stamp < recorded) xs → All (λ stamp. stamp < recorded + 1) xs
all_later xs recorded all = All-weaker (λ stamp. stamp < recorded) (λ stamp. stamp < recorded + 1) (λ stamp below. omega (arith, below)) xs all

stamp_cases : (old : List (Option MemberState)) (a recorded n boot stamp : ℕ) (before after : MemberState) (s : NodeStep) → slice_index_or old a None ≡ Some before → Records a recorded before after s → HasStamp (slice_set old a (Some after)) n boot stamp
    → HasStamp old n boot stamp ⊎ ((n ≡ a) × (boot ≡ length before.past) × (stamp ≡ recorded))
stamp_cases old a recorded n boot stamp before after s was r h = by (journal_cases old a recorded n boot before after s h.journal was r h.there)
  where
    last_one : n ≡ a → boot ≡ length before.past → (slice_get (stamps before.node.journal) h.place ≡ Some stamp) ⊎ ((h.place ≡ length (stamps before.node.journal)) × (recorded ≡ stamp))
        → HasStamp old n boot stamp ⊎ ((n ≡ a) × (boot ≡ length before.past) × (stamp ≡ recorded))
    last_one same present (inl stood) = inl (record {
      journal = before.node.journal;
      there = ap (λ k. journal_at old k boot) same ∙ ap (λ b. journal_at old a b) present ∙ present_at old a before was;
      place = h.place;
      stands = stood;
    })
    last_one same present (inr last) = inr (same, present, sym last.1)

    by : (journal_at old n boot ≡ Some h.journal) ⊎ ((n ≡ a) × (boot ≡ length before.past) × (after.node.journal ≡ h.journal)) → HasStamp old n boot stamp ⊎ ((n ≡ a) × (boot ≡ length before.past) × (stamp ≡ recorded))
    by (inl stood) = inl (record { journal = h.journal; there = stood; place = h.place; stands = h.stands })
    by (inr last) =
        let stands : slice_get (stamps before.node.journal ++ recorded ∷ []) h.place ≡ Some stamp =
        ap (λ xs. slice_get xs h.place) (sym (stamps_after a recorded before after s r)) ∙ ap (λ j. slice_get (stamps j) h.place) last.2 ∙ h.stands in
        last_one last.0 last.1 (get_more (stamps before.node.journal) recorded h.place stamp stands)

stamp_below : {P : Type 0} (gives : P → ℕ → ℕ → ℕ → Type 0) (old : List (Option MemberState)) (recorded n boot stamp : ℕ) (chooser : Choosing P) → AreOrderly gives old recorded chooser → HasStamp old n boot stamp → stamp < recorded
stamp_below gives old recorded n boot stamp chooser h one = all_get (λ x. x < recorded) (stamps one.journal) one.place stamp (h.stamped n boot one.journal one.there) one.stands

recorded_once : {P : Type 0} (gives : P → ℕ → ℕ → ℕ → Type 0) (old : List (Option MemberState)) (a recorded n boot n' boot' stamp : ℕ) (before after : MemberState) (s : NodeStep) (chooser : Choosing P) → AreOrderly gives old recorded chooser
    → HasStamp old n boot stamp ⊎ ((n ≡ a) × (boot ≡ length before.past) × (stamp ≡ recorded)) → HasStamp old n' boot' stamp ⊎ ((n' ≡ a) × (boot' ≡ length before.past) × (stamp ≡ recorded)) → (n ≡ n') × (boot ≡ boot')
recorded_once gives old a recorded n boot n' boot' stamp before after s chooser h (inl one) (inl other) = h.once n boot n' boot' stamp one other
recorded_once gives old a recorded n boot n' boot' stamp before after s chooser h (inl one) (inr last) =
    absurd (let below = stamp_below gives old recorded n boot stamp chooser h one in let is = last.2 in omega (arith, below, is))
recorded_once gives old a recorded n boot n' boot' stamp before after s chooser h (inr last) (inl other) =
    absurd (let below = stamp_below gives old recorded n' boot' stamp chooser h other in let is = last.2 in omega (arith, below, is))
recorded_once gives old a recorded n boot n' boot' stamp before after s chooser h (inr one) (inr other) = (one.0 ∙ sym other.0, one.1 ∙ sym other.1)

-- ---- turns

-- whether the step counts for a turn
abbrev counts_for : ℕ → ℕ → NodeStep → ℕ
counts_for recorded stamp s = cond (nat_lt recorded stamp && is_sent_by_name s.event s.answer) 1 0

sent_after : (a recorded stamp : ℕ) (before after : MemberState) (s : NodeStep) → Records a recorded before after s → sent_in (Some after) stamp ≡ sent_in (Some before) stamp + counts_for recorded stamp s
sent_after a recorded stamp before after s r =
    let now = sent_split after stamp in
    let then_ = sent_split before stamp in
    let past = ap (λ js. sum_by (λ j. names_sent_before j stamp) js) r.past in
    let journal : names_sent_before after.node.journal stamp ≡ names_sent_before before.node.journal stamp + counts_for recorded stamp s =
    ap (λ j. names_sent_before j stamp) r.journal ∙ names_sent_before_step before.node.journal s stamp r.whole r.inside
    ∙ ap (λ n. names_sent_before before.node.journal stamp + counts_for n stamp s) r.stamp in
    omega (arith, now, then_, past, journal)

turn_after : (old : List (Option MemberState)) (a recorded stamp : ℕ) (before after : MemberState) (s : NodeStep) → slice_index_or old a None ≡ Some before → Records a recorded before after s
    → turn_at (slice_set old a (Some after)) stamp ≡ turn_at old stamp + counts_for recorded stamp s
turn_after old a recorded stamp before after s was r = turn_more old a stamp (counts_for recorded stamp s) before after r.from_one r.to_32 was (sent_after a recorded stamp before after s r)

-- at the stamps of before
turn_until : (old : List (Option MemberState)) (a recorded stamp : ℕ) (before after : MemberState) (s : NodeStep) → slice_index_or old a None ≡ Some before → Records a recorded before after s → stamp ≤ recorded
    → turn_at (slice_set old a (Some after)) stamp ≡ turn_at old stamp
turn_until old a recorded stamp before after s was r until =
    let more = turn_after old a recorded stamp before after s was r in
    let later : nat_lt recorded stamp ≡ false = grind (arith, nat_tests, until) in
    let none : counts_for recorded stamp s ≡ 0 = ap (λ b. cond (b && is_sent_by_name s.event s.answer) 1 0) later in
    omega (arith, more, none)

-- no message was sent by name in the step of the next stamp yet
turn_steady : {P : Type 0} (gives : P → ℕ → ℕ → ℕ → Type 0) (old : List (Option MemberState)) (recorded : ℕ) (chooser : Choosing P) → AreOrderly gives old recorded chooser → turn_at old (recorded + 1) ≡ turn_at old recorded
turn_steady gives old recorded chooser h = turn_same old old recorded (recorded + 1) (λ n. by n (slice_index_or old n None) refl)
  where
    by : (n : ℕ) (o : Option MemberState) → slice_index_or old n None ≡ o → sent_in o (recorded + 1) ≡ sent_in o recorded
    by n None none = refl
    by n (Some m) there = sum_same (λ j. names_sent_before j recorded) (λ j. names_sent_before j (recorded + 1)) (journals_of m) (λ boot j at.
        (let below = h.stamped n boot j (journal_at-is old n boot m there ∙ at) in
        names_sent_before_all j (recorded + 1) (all_later (stamps j) recorded below) ∙ sym (names_sent_before_all j recorded below)))

turn_next : {P : Type 0} (gives : P → ℕ → ℕ → ℕ → Type 0) (old : List (Option MemberState)) (a recorded : ℕ) (before after : MemberState) (s : NodeStep) (chooser : Choosing P) → slice_index_or old a None ≡ Some before
    → Records a recorded before after s → AreOrderly gives old recorded chooser → turn_at (slice_set old a (Some after)) (recorded + 1) ≡ turn_at old recorded + cond (is_sent_by_name s.event s.answer) 1 0
turn_next gives old a recorded before after s chooser was r h =
    let sooner : nat_lt recorded (recorded + 1) ≡ true = grind (arith, nat_tests) in
    turn_after old a recorded (recorded + 1) before after s was r
    ∙ ap (λ t. t + counts_for recorded (recorded + 1) s) (turn_steady gives old recorded chooser h)
    ∙ ap (λ b. turn_at old recorded + cond (b && is_sent_by_name s.event s.answer) 1 0) sooner

-- the chooser turns with them
next_turn : (now turn next : ℕ) (sent : Bool) → now ≡ turn + cond sent 1 0 → turn % 2 ^ 64 ≡ next → now % 2 ^ 64 ≡ cond sent ((next + 1) % 2 ^ 64) next
next_turn now turn next true is was = omega (arith, is, was)
next_turn now turn next false is was = omega (arith, is, was)

-- ---- picks

picked_until : {P : Type 0} (gives : P → ℕ → ℕ → ℕ → Type 0) (old : List (Option MemberState)) (a recorded n boot : ℕ) (before after : MemberState) (s : NodeStep) (journal : List Entry) (chooser : Choosing P) → slice_index_or old a None ≡ Some before
    → Records a recorded before after s → AreOrderly gives old recorded chooser → journal_at old n boot ≡ Some journal → AllPicked (gives chooser.pick) (turn_at (slice_set old a (Some after))) (addr_of n) journal
picked_until gives old a recorded n boot before after s journal chooser was r h stood =
    AllPicked_same (gives chooser.pick) (turn_at old) (turn_at (slice_set old a (Some after))) (addr_of n) journal recorded (h.stamped n boot journal stood)
    (λ x below. sym (turn_until old a recorded x before after s was r (omega (arith, below)))) (h.picked n boot journal stood)

picked_now : {P : Type 0} (gives : P → ℕ → ℕ → ℕ → Type 0) (old : List (Option MemberState)) (a recorded : ℕ) (before after : MemberState) (s : NodeStep) (chooser : Choosing P) → slice_index_or old a None ≡ Some before
    → Records a recorded before after s → AreOrderly gives old recorded chooser → IsPicked (gives chooser.pick) (turn_at old recorded) (addr_of a) before.node.journal s.event s.answer
    → AllPicked (gives chooser.pick) (turn_at (slice_set old a (Some after))) (addr_of a) after.node.journal
picked_now gives old a recorded before after s chooser was r h one =
    let turn = turn_at (slice_set old a (Some after)) in
    let same : turn_at old recorded ≡ turn s.by.stamp = sym (turn_until old a recorded recorded before after s was r (omega arith)) ∙ ap turn (sym r.stamp) in
    subst (AllPicked (gives chooser.pick) turn (addr_of a)) (sym r.journal)
    (AllPicked_step (gives chooser.pick) turn (addr_of a) before.node.journal s r.whole r.inside (picked_until gives old a recorded a (length before.past) before after s before.node.journal chooser was r h (present_at old a before was))
    (subst (λ t. IsPicked (gives chooser.pick) t (addr_of a) before.node.journal s.event s.answer) same one))

-- ---- all

pub recorded_orderly : {P : Type 0} (gives : P → ℕ → ℕ → ℕ → Type 0) (old : List (Option MemberState)) (a recorded : ℕ) (before after : MemberState) (s : NodeStep) (chooser chooser' : Choosing P) → slice_index_or old a None ≡ Some before
    → Records a recorded before after s → ((turn : ℕ) → turn % 2 ^ 64 ≡ chooser.turn → IsPicked (gives chooser.pick) turn (addr_of a) before.node.journal s.event s.answer) → chooser' ≡ after_choice chooser (is_sent_by_name s.event s.answer)
    → AreOrderly gives old recorded chooser → AreOrderly gives (slice_set old a (Some after)) (recorded + 1) chooser'
recorded_orderly gives old a recorded before after s chooser chooser' was r one turns h = subst (AreOrderly gives new (recorded + 1)) (sym turns) (record {
  numbered = λ n boot journal there. elim (journal_cases old a recorded n boot before after s journal was r there) [
    | inl stood ↦ h.numbered n boot journal stood
    | inr last ↦ subst AreInOrder last.2 (recorded_in_order a recorded before after s r (h.numbered a (length before.past) before.node.journal present) (h.calls a before was) (h.stamped a (length before.past) before.node.journal present))
  ];
  stamped = λ n boot journal there. elim (journal_cases old a recorded n boot before after s journal was r there) [
    | inl stood ↦ all_later (stamps journal) recorded (h.stamped n boot journal stood)
    | inr last ↦ subst (λ j. All (λ stamp. stamp < recorded + 1) (stamps j)) last.2 (subst (All (λ stamp. stamp < recorded + 1)) (sym (stamps_after a recorded before after s r))
        (All-push (λ stamp. stamp < recorded + 1) (stamps before.node.journal) recorded (all_later (stamps before.node.journal) recorded (h.stamped a (length before.past) before.node.journal present)) (omega arith)))
  ];
  every = λ stamp below. elim (cases_lt stamp recorded) [
    | inl old_one ↦ let one = h.every stamp old_one in (one.0, one.1, stamp_lasts old a one.0 one.1 stamp before after was (stay_recorded before after s r.past r.journal r.whole r.inside) one.2)
    | inr last ↦
        let same : stamp ≡ recorded = omega (arith, below, last) in
        (a, length after.past, subst (HasStamp new a (length after.past)) (r.stamp ∙ sym same) (stamp_of new a (length after.past) s (step_made old a before after s was r.journal r.whole r.inside)))
  ];
  once = λ n boot n' boot' stamp first second.
      recorded_once gives old a recorded n boot n' boot' stamp before after s chooser h (stamp_cases old a recorded n boot stamp before after s was r first) (stamp_cases old a recorded n' boot' stamp before after s was r second);
  picked = λ n boot journal there. elim (journal_cases old a recorded n boot before after s journal was r there) [
    | inl stood ↦ picked_until gives old a recorded n boot before after s journal chooser was r h stood
    | inr last ↦ subst (λ k. AllPicked (gives chooser.pick) (turn_at new) (addr_of k) journal) (sym last.0)
        (subst (AllPicked (gives chooser.pick) (turn_at new) (addr_of a)) last.2 (picked_now gives old a recorded before after s chooser was r h (one (turn_at old recorded) h.turn)))
  ];
  calls = λ n m there. elim (cases_eq n a) [
    | inl same ↦
        let is : after ≡ m = (let e : Some after ≡ Some m = sym (here old a before after was) ∙ ap (λ k. slice_index_or new k None) (sym same) ∙ there in cc) in
        subst IsCounted is (counted_after a recorded before after s r (h.calls a before was))
    | inr apart ↦ h.calls n m (sym (get_or-set_other old a n (Some after) None apart) ∙ there)
  ];
  turn = next_turn (turn_at new (recorded + 1)) (turn_at old recorded) chooser.turn (is_sent_by_name s.event s.answer) (turn_next gives old a recorded before after s chooser was r h) h.turn;
})
  where
    new : List (Option MemberState)
    new = slice_set old a (Some after)

    present : journal_at old a (length before.past) ≡ Some before.node.journal
    present = present_at old a before was
