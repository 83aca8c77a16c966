-- By deeds that leave the contact numbers of a node as they are packets get numbers on a bearer under the epochs that it
-- has meanwhile, and are taken of sessions of the contact.
use Rattle.std.proofs.Common.{◌≡◌, ◌≤◌, ◌⊎◌, ℕ, List, [], refl, sym, ap, ◌∙◌, subst, inl, inr, arith}
use Rattle.std.proofs.lemmas.Bool.{cases_eq}
use Rattle.tipc_outside.specs.declared.outgoing.Outgoing.{Outgoing}
use Rattle.tipc_types.specs.declared.packet_lists.Taken.{Taken}
use Rattle.tipc_header.specs.Spelling.{Fields}
use Rattle.tipc_link.specs.Links.{LinkEnd}
use Rattle.tipc_link.specs.Records.{Received}
use Rattle.tipc_link.specs.Sessions.{SessionEnd, brought, flushed, took}
use Rattle.tipc_paired.proofs.Facts.{up_on_record}
use Rattle.tipc_paired.proofs.PairedLaw.{does_paired}
use Rattle.tipc_paired.proofs.sessions.SessionDeeds.{hears_session}
use Rattle.tipc_paired.proofs.wires.Wires.{epoch_of_end, on_put, put_other, session_of_up}
use Rattle.tipc_paired.specs.Deeds.{Besides, Changes, Counts, DoesDeed, DoesAll, Hears, IsUp, Works, besides, calls, changes, counts, falls, falls_beside, follows, hands_over, makes, notes, nothing, numbers, parts, puts, releases, restarts, rises, rises_beside, shows, takes, tells, turns, with_counted, with_going, with_taken, works}
use Rattle.tipc_paired.specs.Paired.{ArePaired}
use Rattle.tipc_paired.specs.Views.{Node, View, Wire, epoch_on, put_at, with_wire}
use Rattle.tipc_two_nodes.specs.deeds.PairDeeds.{Did}
use Rattle.tipc_two_nodes.specs.Carriages.{BeganIn, IsPresent, Numbers}
use Rattle.tipc_two_nodes.specs.Numbers.{AreNumbers, AreRecorded}
use Rattle.tipc_two_nodes.specs.Pieces.{GrowsAt}
use Rattle.tipc_two_nodes.proofs.calls.Chaining.{Along, GoesAlong, IsLater, along_same, along_tells, along_then, boots, contacts, does_goes, epochs_rise, grows_at, later_then, order_of, shown}
use Rattle.tipc_two_nodes.proofs.steps.BesideSteps.{counts_keeps, beside_present}
use Rattle.tipc_two_nodes.proofs.steps.Deeds.{does_recorded}
use Rattle.tipc_two_nodes.proofs.steps.WireSteps.{onward, present_on, session_keeps}
use Rattle.tipc_two_nodes.proofs.contacts.Numbered.{numbers_beside, numbers_stay}

-- packets got numbers under no lower epoch than the bearer had, and under no higher one than it has then
abbrev pub Within : View → View → Type 0
Within x x' = (b epoch : ℕ) → ((x'.wires b).line epoch ≡ (x.wires b).line epoch) ⊎ ((epoch_on x.node (x.wires b) ≤ epoch) × (epoch ≤ epoch_on x'.node (x'.wires b)))

-- ---- one deed

abbrev NumbersNow : View → View → Type 0
NumbersNow x x' = (b epoch : ℕ) → ((x'.wires b).line epoch ≡ (x.wires b).line epoch) ⊎ (epoch ≡ epoch_on x.node (x.wires b))

same_lines : (x : View) (b : ℕ) (w' : Wire) → ((epoch : ℕ) → w'.line epoch ≡ (x.wires b).line epoch) → NumbersNow x (with_wire x b w')
same_lines x b w' same c epoch = inl (on_put x.wires b w' (λ c (w : Wire). w.line epoch ≡ (x.wires c).line epoch) (same epoch) (λ c. refl) c)

numbers_now : (x y : View) (b : ℕ) (e : LinkEnd) (s : SessionEnd) (more : List (List ℕ)) → ArePaired x y → IsUp (x.wires b) e s
    → NumbersNow x (with_wire x b (record (with_going (x.wires b) e (flushed s)) { line = put_at (x.wires b).line s.epoch more }))
numbers_now x y b e s more h up c epoch =
    let own : s.epoch ≡ epoch_on x.node (x.wires b) = (up_on_record x y b e s h up).0 ∙ sym (epoch_of_end x.node (x.wires b) e up.end_is) in
    let w' = record (with_going (x.wires b) e (flushed s)) { line = put_at (x.wires b).line s.epoch more } in
    let here : (w'.line epoch ≡ (x.wires b).line epoch) ⊎ (epoch ≡ epoch_on x.node (x.wires b)) = elim (cases_eq epoch s.epoch) [
      | inl same ↦ inr (same ∙ own)
      | inr differ ↦ inl (put_other (x.wires b).line s.epoch more epoch differ)
    ] in
    on_put x.wires b w' (λ c (w : Wire). (w.line epoch ≡ (x.wires c).line epoch) ⊎ (epoch ≡ epoch_on x.node (x.wires c))) here (λ c. inl refl) c

works_now : (x y x' : View) → ArePaired x y → Works x y x' → NumbersNow x x'
works_now x y _ h (makes b none) = same_lines x b _ (λ epoch. refl)
works_now x y _ h (turns b e mended is) = same_lines x b _ (λ epoch. refl)
works_now x y _ h (calls b e call is may quiet) = same_lines x b _ (λ epoch. refl)
works_now x y _ h (shows number higher fits apart heard) = λ b epoch. inl refl
works_now x y _ h (releases b e s p up heard) = same_lines x b _ (λ epoch. refl)
works_now x y _ h (notes b e s seen unanswered owes up most) = same_lines x b _ (λ epoch. refl)
works_now x y _ h (numbers b e s up) = numbers_now x y b e s _ h up
works_now x y _ h (tells b o may) = λ b epoch. inl refl

changes_now : (x y x' : View) → Changes x y x' → NumbersNow x x'
changes_now x y _ (rises b e call is may up apart) = same_lines x b _ (λ epoch. refl)
changes_now x y _ (falls b e call cause is may down) = λ c epoch. same_lines x b _ (λ epoch. refl) c epoch
changes_now x y _ (parts b e is up) = λ b epoch. inl refl
changes_now x y _ (restarts boot more fits) = λ b epoch. inl refl

besides_now : (x y x' : View) → Besides x y x' → NumbersNow x x'
besides_now x y _ (rises_beside b e call is may up beside) = same_lines x b _ (λ epoch. refl)
besides_now x y _ (falls_beside b e call cause is may down beside) = same_lines x b _ (λ epoch. refl)
besides_now x y _ (hands_over b e is down) = same_lines x b _ (λ epoch. refl)
besides_now x y _ (counts b e r more c) = same_lines x b _ (λ epoch. refl)

does_now : (x y x' : View) → ArePaired x y → DoesDeed x y x' → NumbersNow x x'
does_now x y x' h (works _ w) = works_now x y x' h w
does_now x y x' h (changes _ c) = changes_now x y x' c
does_now x y x' h (besides _ c) = besides_now x y x' c
does_now x y _ h (puts b e s waiting up packets) = same_lines x b _ (λ epoch. refl)
does_now x y _ h (takes b e s p number by packet up heard carries) = same_lines x b _ (λ epoch. refl)

-- ---- what one deed takes

-- where packets of a session were taken, it began in the contact, which lasts then
abbrev pub GotIn : View → View → View → Type 0
GotIn x x' y = (b epoch : ℕ) → ((x'.wires b).got epoch ≡ (x.wires b).got epoch) ⊎ (BeganIn y b epoch x.node.seen x.node.contact × IsPresent x' x.node.contact x.node.seen)

same_got : (x y : View) (b : ℕ) (w' : Wire) → ((epoch : ℕ) → w'.got epoch ≡ (x.wires b).got epoch) → GotIn x (with_wire x b w') y
same_got x y b w' same c epoch = inl (on_put x.wires b w' (λ c (w : Wire). w.got epoch ≡ (x.wires c).got epoch) (same epoch) (λ c. refl) c)

-- more of one session is taken
more_got : (x y : View) (b epoch_is : ℕ) (w' : Wire) (more : List (List ℕ)) → ((epoch : ℕ) → w'.got epoch ≡ put_at (x.wires b).got epoch_is more epoch) → BeganIn y b epoch_is x.node.seen x.node.contact → IsPresent (with_wire x b w') x.node.contact x.node.seen
    → GotIn x (with_wire x b w') y
more_got x y b epoch_is w' more got began here c epoch =
    let P : ℕ → Wire → Type 0 = λ c w. (w.got epoch ≡ (x.wires c).got epoch) ⊎ (BeganIn y c epoch x.node.seen x.node.contact × IsPresent (with_wire x b w') x.node.contact x.node.seen) in
    let now : P b w' = elim (cases_eq epoch epoch_is) [
      | inl same ↦ inr (subst (λ n. BeganIn y b n x.node.seen x.node.contact) (sym same) began, here)
      | inr differ ↦ inl (got epoch ∙ put_other (x.wires b).got epoch_is more epoch differ)
    ] in
    on_put x.wires b w' P now (λ c. inl refl) c

takes_got : (x y : View) (b : ℕ) (e : LinkEnd) (s : SessionEnd) (p : Fields) (t : Taken) → ArePaired x y → IsUp (x.wires b) e s → Hears x y b s p → GotIn x (with_wire x b (with_taken (x.wires b) e s t)) y
takes_got x y b e s p t h up heard =
    let on = session_of_up (x.wires b) e s up in
    let going = (h.here.wires b).going s on in
    let now = (h.here.epochs b).now s going.begun on going.begun_is in
    let from = hears_session x y b e s p h up heard in
    let both = (h.here.epochs b).agree s.epoch going.begun from.begun going.begun_is (ap (y.wires b).begun going.peer_is ∙ from.begun_is) from.peer_is in
    let w' = with_taken (x.wires b) e s t in
    let keeps = session_keeps x.node (x.wires b) e s (took s t) (x.wires b).line w'.got up in
    let here : IsPresent x x.node.contact x.node.seen = record { bearer = b; session = s; session_is = on; own_is = refl; theirs_is = refl } in
    more_got x y b s.peer_epoch w' _ (λ epoch. refl) (from.begun, from.begun_is, sym both.1 ∙ now.1, sym both.0 ∙ now.0) (present_on x (with_wire x b w') x.node.contact x.node.seen refl (onward x b w' keeps) here)

counts_got : (x y : View) (b : ℕ) (e : LinkEnd) (r : Received) (more : List (List ℕ)) → ArePaired x y → Counts x y b e r more → GotIn x (with_wire x b (with_counted (x.wires b) e r more)) y
counts_got x y b e r more h c =
    let w' = with_counted (x.wires b) e r more in
    more_got x y b r.epoch w' _ (λ epoch. refl) (c.begun, c.begun_is, c.seen_is, c.contact_is)
    (present_on x (with_wire x b w') x.node.contact x.node.seen refl (onward x b w' (counts_keeps x y b e r more c)) (beside_present x y b h c.lasts))

works_got : (x y x' : View) → Works x y x' → GotIn x x' y
works_got x y _ (makes b none) = same_got x y b _ (λ epoch. refl)
works_got x y _ (turns b e mended is) = same_got x y b _ (λ epoch. refl)
works_got x y _ (calls b e call is may quiet) = same_got x y b _ (λ epoch. refl)
works_got x y _ (shows number higher fits apart heard) = λ b epoch. inl refl
works_got x y _ (releases b e s p up heard) = same_got x y b _ (λ epoch. refl)
works_got x y _ (notes b e s seen unanswered owes up most) = same_got x y b _ (λ epoch. refl)
works_got x y _ (numbers b e s up) = same_got x y b _ (λ epoch. refl)
works_got x y _ (tells b o may) = λ b epoch. inl refl

changes_got : (x y x' : View) → x'.node ≡ x.node → Changes x y x' → GotIn x x' y
changes_got x y _ same (rises b e call is may up apart) = same_got x y b _ (λ epoch. refl)
changes_got x y _ same (falls b e call cause is may down) = (let own = ap (λ (n : Node). n.contact) same in absurd (let wrong : ⊥ = omega arith in wrong))
changes_got x y _ same (parts b e is up) = λ b epoch. inl refl
changes_got x y _ same (restarts boot more fits) = λ b epoch. inl refl

besides_got : (x y x' : View) → ArePaired x y → Besides x y x' → GotIn x x' y
besides_got x y _ h (rises_beside b e call is may up beside) = same_got x y b _ (λ epoch. refl)
besides_got x y _ h (falls_beside b e call cause is may down beside) = same_got x y b _ (λ epoch. refl)
besides_got x y _ h (hands_over b e is down) = same_got x y b _ (λ epoch. refl)
besides_got x y _ h (counts b e r more c) = counts_got x y b e r more h c

does_got : (x y x' : View) → ArePaired x y → x'.node ≡ x.node → DoesDeed x y x' → GotIn x x' y
does_got x y x' h same (works _ w) = works_got x y x' w
does_got x y x' h same (changes _ c) = changes_got x y x' same c
does_got x y x' h same (besides _ c) = besides_got x y x' h c
does_got x y _ h same (puts b e s waiting up packets) = same_got x y b _ (λ epoch. refl)
does_got x y _ h same (takes b e s p number by packet up heard carries) = takes_got x y b e s p (brought number packet by) h up heard

-- ---- deeds one after the other

got_then : (x x' x'' y : View) (n : Numbers) → GotIn x x' y → GoesAlong x x' y n → GoesAlong x' x'' y n → GotIn x' x'' y → GotIn x x'' y
got_then x x' x'' y n w f s now b epoch =
    let node = f.stays.node in
    let present : IsPresent x' x.node.contact x.node.seen → IsPresent x'' x.node.contact x.node.seen = subst (λ (k : Node). IsPresent x' k.contact k.seen → IsPresent x'' k.contact k.seen) node s.stays.present in
    elim (now b epoch) [
      | inl same ↦ elim (w b epoch) [ inl was ↦ inl (same ∙ was) | inr both ↦ inr (both.0, present both.1) ]
      | inr both ↦ inr (subst (λ (k : Node). BeganIn y b epoch k.seen k.contact × IsPresent x'' k.contact k.seen) node both)
    ]

within_then : (x x' x'' y : View) (n : Numbers) → Within x x' → GoesAlong x x' y n → GoesAlong x' x'' y n → NumbersNow x' x'' → Within x x''
within_then x x' x'' y n w f s now b epoch =
    let rise = epochs_rise x x' y n b f.stays in
    let more = epochs_rise x' x'' y n b s.stays in
    elim (now b epoch) [
      | inl same ↦ elim (w b epoch) [ inl was ↦ inl (same ∙ was) | inr both ↦ inr (both.0, (let high = both.1 in omega arith)) ]
      | inr here ↦ inr (omega arith, omega arith)
    ]

-- what holds of a node behind its deeds, and under which epochs packets got numbers
pub record AlongWithin (x x' y : View) (n : Numbers) : Type 0 where
  pub along : Along x x' y n
  pub within : Within x x'
  pub got : GotIn x x' y

one_within : (x x' x'' y : View) (n m : Numbers) → AreNumbers y x m → AlongWithin x x' y n → DoesDeed x' y x'' → AlongWithin x x'' y n ⊎ IsLater x.node x''.node
one_within x x' x'' y n m back k one =
    let a = k.along in
    elim (does_goes x' y x'' n m a.paired a.are (numbers_beside y x x' m back (along_tells x x' y n a.goes)) one) [
      | inl g ↦ inl (record {
        along = record {
          goes = along_then x x' x'' y n a.goes g;
          paired = does_paired x' y x'' a.paired one;
          are = numbers_stay x' x'' y n a.are g.stays;
          recorded = does_recorded x' y x'' n a.paired a.are a.recorded one;
        };
        within = within_then x x' x'' y n k.within a.goes g (does_now x' y x'' a.paired one);
        got = got_then x x' x'' y n k.got a.goes g (does_got x' y x'' a.paired g.stays.node one);
      })
      | inr later ↦ inr (subst (λ k. IsLater k x''.node) a.goes.stays.node later)
    ]

all_within : (x y x' : View) (n m : Numbers) → ArePaired x y → AreNumbers x y n → AreNumbers y x m → AreRecorded x y → DoesAll x y x' → AlongWithin x x' y n ⊎ IsLater x.node x'.node
all_within x y _ n m h are back recorded nothing = inl (record { along = record { goes = along_same x y n; paired = h; are = are; recorded = recorded }; within = λ b epoch. inl refl; got = λ b epoch. inl refl })
all_within x y x'' n m h are back recorded (follows x' _ all one) = elim (all_within x y x' n m h are back recorded all) [
  | inl a ↦ one_within x x' x'' y n m back a one
  | inr later ↦ inr (elim (order_of x' y x'' one) [ inl same ↦ subst (IsLater x.node) (sym same) later | inr more ↦ later_then x.node x'.node x''.node later more ])
]

not_later : (m n : Node) → n.boot ≡ m.boot → n.contact ≡ m.contact → n.seen ≡ m.seen → IsLater m n → ⊥
not_later m n boot own seen (boots more) = (let wrong : ⊥ = omega arith in wrong)
not_later m n boot own seen (contacts same more) = (let wrong : ⊥ = omega arith in wrong)
not_later m n boot own seen (shown same same_own more) = (let wrong : ⊥ = omega arith in wrong)

-- deeds that leave the contact numbers as they are
pub deeds_within : (x y x' : View) (n m : Numbers) → ArePaired x y → AreNumbers x y n → AreNumbers y x m → AreRecorded x y → DoesAll x y x' → x'.node.boot ≡ x.node.boot → x'.node.contact ≡ x.node.contact → x'.node.seen ≡ x.node.seen → AlongWithin x x' y n
deeds_within x y x' n m h are back recorded all boot own seen = elim (all_within x y x' n m h are back recorded all) [ inl a ↦ a | inr later ↦ absurd (not_later x.node x'.node boot own seen later) ]

-- ---- packets that get numbers

-- what a call numbered on a bearer, whose epoch is as it was, or on which it numbered nothing
pub grows_on : (x x' y : View) (n : Numbers) (b : ℕ) (frames : List Outgoing) (numbered taken : ℕ → ℕ → List (List ℕ)) → Did x y x' frames numbered taken → AlongWithin x x' y n
    → (epoch_on x'.node (x'.wires b) ≡ epoch_on x.node (x.wires b)) ⊎ ((epoch : ℕ) → numbered b epoch ≡ []) → GrowsAt x x' b
grows_on x x' y n b frames numbered taken d a (inl same) = record {
  packets = numbered b (epoch_on x'.node (x'.wires b));
  line = d.line b (epoch_on x'.node (x'.wires b));
  others = λ epoch differ. elim (a.within b epoch) [ inl still ↦ still | inr both ↦ absurd (differ (let low = both.0 in let high = both.1 in omega arith)) ];
  began = a.along.goes.began b;
}
grows_on x x' y n b frames numbered taken d a (inr none) = grows_at x x' y n b frames numbered taken d a.along.goes (λ epoch differ. none epoch)
