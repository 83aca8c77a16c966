-- Deeds of a node one after the other, which leave its contact numbers as they are: what they keep.
use Rattle.std.specs.Prelude.{slice_get}
use Rattle.std.proofs.Common.{◌≡◌, ◌≢◌, ◌<◌, ◌≤◌, ◌⊎◌, ℕ, List, [], ◌++◌, Some, refl, sym, ap, ◌∙◌, subst, inl, inr, append-nil, arith}
use Rattle.std.proofs.lemmas.Bool.{cases_lt}
use Rattle.tipc_outside.specs.declared.outgoing.Outgoing.{Outgoing}
use Rattle.tipc_link.specs.Links.{LinkEnd, after}
use Rattle.tipc_link.specs.Sessions.{brought, flushed, moving, after_acknowledgement, took}
use Rattle.tipc_link.proofs.Directions.{slice_get-append}
use Rattle.tipc_link_fsm.specs.Runs.{outcome}
use Rattle.tipc_paired.proofs.sessions.CallDeeds.{calls_on, turns_on}
use Rattle.tipc_paired.proofs.contacts.ContactDeeds.{fallen}
use Rattle.tipc_paired.proofs.PairedLaw.{does_paired}
use Rattle.tipc_paired.proofs.sessions.RiseDeeds.{Went, went}
use Rattle.tipc_paired.proofs.wires.Wires.{epoch_of_end, on_put}
use Rattle.tipc_paired.specs.Deeds.{Besides, Changes, DoesDeed, DoesAll, Works, besides, calls, changes, counts, falls, falls_beside, follows, framed, hands_over, makes, notes, nothing, numbers, parts, puts, releases, restarts, rises, rises_beside, shows, takes, tells, turns, with_taken, works}
use Rattle.tipc_paired.specs.Paired.{ArePaired}
use Rattle.tipc_paired.specs.Views.{Begun, Frame, Node, View, Wire, epoch_on, es_of, put_at, with_end, with_wire}
use Rattle.tipc_two_nodes.specs.deeds.PairDeeds.{Did}
use Rattle.tipc_two_nodes.specs.Carriages.{BeganIn, IsPresent, Numbers}
use Rattle.tipc_two_nodes.specs.Numbers.{AreNumbers, AreRecorded, IsToldIn}
use Rattle.tipc_two_nodes.specs.Steps.{Stays, TellsMore}
use Rattle.tipc_two_nodes.specs.Pieces.{GrowsAt, IsPiece, RecordsStay}
use Rattle.tipc_two_nodes.specs.Twins.{AreTwins}
use Rattle.tipc_two_nodes.proofs.steps.BesideSteps.{counts_keeps, fell_higher, fell_next, fell_stays, hands_keeps}
use Rattle.tipc_two_nodes.proofs.steps.Deeds.{does_recorded, told_epoch}
use Rattle.tipc_two_nodes.proofs.contacts.Numbered.{numbers_beside, numbers_stay}
use Rattle.tipc_two_nodes.proofs.steps.RiseSteps.{began_then, rises_stays, risen_begun, risen_view, went_told}
use Rattle.tipc_two_nodes.proofs.steps.WireSteps.{KeepsOn, goes_keeps, keeps_stays, makes_keeps, session_keeps, tells_stays}

-- ---- what deeds keep

abbrev ToldFor : View → ℕ → Begun → Node → Type 0
ToldFor y b g k = IsToldIn y.told b g.peer_epoch k.seen k.contact

abbrev IsNewFrame : View → Numbers → Frame → Node → Type 0
IsNewFrame y n f k = (f.contact ≡ k.contact) × (f.peer_contact ≡ k.seen) × (n.first f.bearer k.contact ≤ es_of f.bytes)
    × ((es_of f.bytes ≤ n.first f.bearer k.contact) ⊎ (k.seen ≤ y.node.contact))

-- What began and was told stays so, and a session begins under no lower epoch than its bearer had.
pub record GoesAlong (x x' y : View) (n : Numbers) : Type 0 where
  pub stays : Stays x x' y n
  pub told : (k : ℕ) (f : Frame) → slice_get x.told k ≡ Some f → slice_get x'.told k ≡ Some f
  pub begun : (b epoch : ℕ) (g : Begun) → (x.wires b).begun epoch ≡ Some g → (x'.wires b).begun epoch ≡ Some g
  pub began : (b epoch : ℕ) (g : Begun) → (x'.wires b).begun epoch ≡ Some g → ((x.wires b).begun epoch ≡ Some g) ⊎ (epoch_on x.node (x.wires b) ≤ epoch)

pub epochs_rise : (x x' y : View) (n : Numbers) (b : ℕ) → Stays x x' y n → epoch_on x.node (x.wires b) ≤ epoch_on x'.node (x'.wires b)
epochs_rise x x' y n b m = elim (m.epochs b) [ inl same ↦ omega arith | inr rise ↦ rise.0 ]

stays_same : (x y : View) (n : Numbers) → Stays x x y n
stays_same x y n = record {
  node = refl;
  apart = λ apart. (apart, λ b. refl);
  epochs = λ b. inl refl;
  present = λ here. here;
  begun = λ b epoch g is. is;
  each = λ b epoch low before. absurd (let wrong : ⊥ = omega arith in wrong);
  began = λ b epoch g is. inl is;
  told = λ k f there. inl there;
}

pub along_same : (x y : View) (n : Numbers) → GoesAlong x x y n
along_same x y n = record { stays = stays_same x y n; told = λ k f there. there; begun = λ b epoch g is. is; began = λ b epoch g is. inl is }

stays_then : (x x' x'' y : View) (n : Numbers) → Stays x x' y n → Stays x' x'' y n → Stays x x'' y n
stays_then x x' x'' y n f s =
    let own : x'.node.contact ≡ x.node.contact = ap (λ (k : Node). k.contact) f.node in
    let seen : x'.node.seen ≡ x.node.seen = ap (λ (k : Node). k.seen) f.node in
    let on : IsPresent x' x.node.contact x.node.seen → IsPresent x'' x.node.contact x.node.seen =
    subst (λ c. IsPresent x' c x.node.seen → IsPresent x'' c x.node.seen) own (subst (λ c. IsPresent x' x'.node.contact c → IsPresent x'' x'.node.contact c) seen s.present) in
    record {
      node = s.node ∙ f.node;
      apart = λ apart. (let k = s.apart apart in let l = f.apart k.0 in (l.0, λ b. k.1 b ∙ l.1 b));
      epochs = λ b. elim (f.epochs b) [
        | inl same ↦ elim (s.epochs b) [ inl again ↦ inl (again ∙ same) | inr rise ↦ inr (let low = rise.0 in omega arith, let known = rise.1 in omega arith) ]
        | inr rise ↦ inr (let low = rise.0 in let more = epochs_rise x' x'' y n b s in omega arith, rise.1)
      ];
      present = λ here. on (f.present here);
      begun = λ b epoch g is. s.begun b epoch g (f.begun b epoch g is);
      each = λ b epoch low before. elim (cases_lt epoch (epoch_on x'.node (x'.wires b))) [
        | inl was ↦ (let k = f.each b epoch low was in (k.0, s.begun b epoch k.0 k.1, k.2, k.3))
        | inr later ↦ subst (λ (k : Node). BeganIn x'' b epoch k.contact k.seen) f.node (s.each b epoch later before)
      ];
      began = λ b epoch g is. elim (s.began b epoch g is) [
        | inl was ↦ elim (f.began b epoch g was) [ inl before ↦ inl before | inr new ↦ inr (new.0, new.1, on new.2, new.3) ]
        | inr new ↦ inr (new.0 ∙ own, new.1 ∙ seen, subst (IsPresent x'' x.node.contact) seen (subst (λ c. IsPresent x'' c x'.node.seen) own new.2), subst (λ (k : Node). ToldFor y b g k) f.node new.3)
      ];
      told = λ k fr there. elim (s.told k fr there) [
        | inl was ↦ f.told k fr was
        | inr new ↦ inr (subst (λ (k : Node). IsNewFrame y n fr k) f.node new)
      ];
    }

pub along_then : (x x' x'' y : View) (n : Numbers) → GoesAlong x x' y n → GoesAlong x' x'' y n → GoesAlong x x'' y n
along_then x x' x'' y n f s = record {
  stays = stays_then x x' x'' y n f.stays s.stays;
  told = λ k fr there. s.told k fr (f.told k fr there);
  begun = λ b epoch g is. s.begun b epoch g (f.begun b epoch g is);
  began = λ b epoch g is. elim (s.began b epoch g is) [
    | inl was ↦ f.began b epoch g was
    | inr low ↦ inr (let rise = epochs_rise x x' y n b f.stays in omega arith)
  ];
}

-- ---- one deed

keeps_along : (x y : View) (n : Numbers) (b : ℕ) (w' : Wire) → KeepsOn x.node (x.wires b) w' → GoesAlong x (with_wire x b w') y n
keeps_along x y n b w' m = record {
  stays = keeps_stays x y n b w' m;
  told = λ k f there. there;
  begun = λ c epoch g is. on_put x.wires b w' (λ c (w : Wire). (x.wires c).begun epoch ≡ Some g → w.begun epoch ≡ Some g) (λ was. m.begun epoch ∙ was) (λ c was. was) c is;
  began = λ c epoch g is. inl (on_put x.wires b w' (λ c (w : Wire). w.begun epoch ≡ Some g → (x.wires c).begun epoch ≡ Some g) (λ now. sym (m.begun epoch) ∙ now) (λ c now. now) c is);
}

-- the contact numbers are higher ones, or the boot is
pub data IsLater (m n : Node) : Type 0 where
  boots : m.boot < n.boot → IsLater m n
  contacts : n.boot ≡ m.boot → m.contact < n.contact → IsLater m n
  shown : n.boot ≡ m.boot → n.contact ≡ m.contact → m.seen < n.seen → IsLater m n

pub later_same : (m n : Node) → n ≡ m → IsLater m n → ⊥
later_same m n same (boots more) = (let boot = ap (λ (k : Node). k.boot) same in let wrong : ⊥ = omega arith in wrong)
later_same m n same (contacts boot more) = (let own = ap (λ (k : Node). k.contact) same in let wrong : ⊥ = omega arith in wrong)
later_same m n same (shown boot own more) = (let seen = ap (λ (k : Node). k.seen) same in let wrong : ⊥ = omega arith in wrong)

pub later_then : (l m n : Node) → IsLater l m → IsLater m n → IsLater l n
later_then l m n (boots a) (boots b) = boots (omega arith)
later_then l m n (boots a) (contacts b c) = boots (omega arith)
later_then l m n (boots a) (shown b c d) = boots (omega arith)
later_then l m n (contacts a c) (boots b) = boots (omega arith)
later_then l m n (contacts a c) (contacts b d) = contacts (b ∙ a) (omega arith)
later_then l m n (contacts a c) (shown b d e) = contacts (b ∙ a) (omega arith)
later_then l m n (shown a c d) (boots b) = boots (omega arith)
later_then l m n (shown a c d) (contacts b e) = contacts (b ∙ a) (omega arith)
later_then l m n (shown a c d) (shown b e f) = shown (b ∙ a) (e ∙ c) (omega arith)

rises_along : (x y : View) (n : Numbers) (b : ℕ) (e e' : LinkEnd) (es : ℕ) → ArePaired x y → Went x y b e e' es → GoesAlong x (risen_view x b e') y n
rises_along x y n b e e' es h m = record {
  stays = rises_stays x y n b e e' es h m (went_told x y b e e' es h m);
  told = λ k f there. there;
  begun = λ c epoch g is. risen_begun x y b e e' es c epoch g h m is;
  began = λ c epoch g is. elim (began_then x y b e e' es c epoch g m is) [
    | inl was ↦ inl was
    | inr new ↦ inr (
        let own = m.raised.epoch in
        let epoch_is = new.2 in
        let now = epoch_of_end x.node (x.wires b) e m.end_is in
        let at : epoch_on x.node (x.wires c) ≡ epoch_on x.node (x.wires b) = ap (λ i. epoch_on x.node (x.wires i)) new.0 in
        omega arith)
  ];
}

falls_along : (x y : View) (n m : Numbers) (b : ℕ) (e e' : LinkEnd) → Stays x (with_wire x b (with_end (x.wires b) e')) y n → GoesAlong x (with_wire x b (with_end (x.wires b) e')) y n
falls_along x y n m b e e' s =
    let w' = with_end (x.wires b) e' in
    record {
      stays = s;
      told = λ k f there. there;
      begun = λ c epoch g is. on_put x.wires b w' (λ c (w : Wire). (x.wires c).begun epoch ≡ Some g → w.begun epoch ≡ Some g) (λ was. was) (λ c was. was) c is;
      began = λ c epoch g is. inl (on_put x.wires b w' (λ c (w : Wire). w.begun epoch ≡ Some g → (x.wires c).begun epoch ≡ Some g) (λ now. now) (λ c now. now) c is);
    }

-- a deed goes along, or the contact numbers are later ones
abbrev pub Goes : View → View → View → Numbers → Type 0
Goes x x' y n = GoesAlong x x' y n ⊎ IsLater x.node x'.node

works_goes : (x y x' : View) (n : Numbers) → ArePaired x y → AreNumbers x y n → Works x y x' → Goes x x' y n
works_goes x y _ n h are (makes b none) = inl (keeps_along x y n b _ (makes_keeps x b none))
works_goes x y _ n h are (turns b e mended is) = inl (keeps_along x y n b _ (goes_keeps x.node (x.wires b) e (record e { mended = mended }) (turns_on (x.wires b) e mended is)))
works_goes x y _ n h are (calls b e call is may quiet) = inl (keeps_along x y n b _ (goes_keeps x.node (x.wires b) e (after e (outcome e.fsm call)) (calls_on x y b e call is may quiet)))
works_goes x y _ n h are (shows number higher fits apart heard) = inr (shown refl refl higher)
works_goes x y _ n h are (releases b e s p up heard) = inl (keeps_along x y n b _ (session_keeps x.node (x.wires b) e s (after_acknowledgement s p.acknowledgement) (x.wires b).line (x.wires b).got up))
works_goes x y _ n h are (notes b e s seen unanswered owes up most) = inl (keeps_along x y n b _ (session_keeps x.node (x.wires b) e s (record s { shown = seen; unanswered = unanswered; owes = owes }) (x.wires b).line (x.wires b).got up))
works_goes x y _ n h are (numbers b e s up) = inl (keeps_along x y n b _ (session_keeps x.node (x.wires b) e s (flushed s) (put_at (x.wires b).line s.epoch ((x.wires b).line s.epoch ++ moving s)) (x.wires b).got up))
works_goes x y _ n h are (tells b o may) = inl (record {
  stays = tells_stays x y n (framed x y b o) are refl refl (told_epoch x y b o h may);
  told = λ k f there. slice_get-append x.told _ k f there;
  begun = λ c epoch g is. is;
  began = λ c epoch g is. inl is;
})

changes_goes : (x y x' : View) (n : Numbers) → ArePaired x y → Changes x y x' → Goes x x' y n
changes_goes x y _ n h (rises b e call is may up apart) = (let m = went x y b e call h is may up in inl (rises_along x y n b e (after e (outcome e.fsm call)) m.0 h m.1))
changes_goes x y _ n h (falls b e call cause is may down) = inr (contacts refl (omega arith))
changes_goes x y _ n h (parts b e is up) = inr (contacts refl (omega arith))
changes_goes x y _ n h (restarts boot more fits) = inr (boots more)

besides_goes : (x y x' : View) (n m : Numbers) → ArePaired x y → AreNumbers x y n → AreNumbers y x m → Besides x y x' → Goes x x' y n
besides_goes x y _ n m h are back (rises_beside b e call is may up beside) = (let k = went x y b e call h is may up in inl (rises_along x y n b e (after e (outcome e.fsm call)) k.0 h k.1))
besides_goes x y _ n m h are back (falls_beside b e call cause is may down beside) =
    let f = fallen x y b e call cause may down in
    inl (falls_along x y n m b e (after e (outcome e.fsm call)) (fell_stays x y n m b e (after e (outcome e.fsm call)) h are back is f.was (fell_higher e (outcome e.fsm call) f) (fell_next e (outcome e.fsm call) f) beside))
besides_goes x y _ n m h are back (hands_over b e is down) = inl (keeps_along x y n b _ (hands_keeps x b e is down))
besides_goes x y _ n m h are back (counts b e r more c) = inl (keeps_along x y n b _ (counts_keeps x y b e r more c))

pub does_goes : (x y x' : View) (n m : Numbers) → ArePaired x y → AreNumbers x y n → AreNumbers y x m → DoesDeed x y x' → Goes x x' y n
does_goes x y x' n m h are back (works _ w) = works_goes x y x' n h are w
does_goes x y x' n m h are back (changes _ c) = changes_goes x y x' n h c
does_goes x y x' n m h are back (besides _ c) = besides_goes x y x' n m h are back c
does_goes x y _ n m h are back (puts b e s waiting up packets) =
    inl (keeps_along x y n b _ (session_keeps x.node (x.wires b) e s (record s { sending = record s.sending { waiting = waiting } }) (x.wires b).line (x.wires b).got up))
does_goes x y _ n m h are back (takes b e s p number by packet up heard carries) =
    inl (keeps_along x y n b _ (session_keeps x.node (x.wires b) e s (took s (brought number packet by)) (x.wires b).line (with_taken (x.wires b) e s (brought number packet by)).got up))

-- ---- deeds one after the other

pub order_of : (x y x' : View) → DoesDeed x y x' → (x'.node ≡ x.node) ⊎ IsLater x.node x'.node
order_of x y _ (works _ (makes b none)) = inl refl
order_of x y _ (works _ (turns b e mended is)) = inl refl
order_of x y _ (works _ (calls b e call is may quiet)) = inl refl
order_of x y _ (works _ (shows number higher fits apart heard)) = inr (shown refl refl higher)
order_of x y _ (works _ (releases b e s p up heard)) = inl refl
order_of x y _ (works _ (notes b e s seen unanswered owes up most)) = inl refl
order_of x y _ (works _ (numbers b e s up)) = inl refl
order_of x y _ (works _ (tells b o may)) = inl refl
order_of x y _ (changes _ (rises b e call is may up apart)) = inl refl
order_of x y _ (changes _ (falls b e call cause is may down)) = inr (contacts refl (omega arith))
order_of x y _ (changes _ (parts b e is up)) = inr (contacts refl (omega arith))
order_of x y _ (changes _ (restarts boot more fits)) = inr (boots more)
order_of x y _ (besides _ (rises_beside b e call is may up beside)) = inl refl
order_of x y _ (besides _ (falls_beside b e call cause is may down beside)) = inl refl
order_of x y _ (besides _ (hands_over b e is down)) = inl refl
order_of x y _ (besides _ (counts b e r more c)) = inl refl
order_of x y _ (puts b e s waiting up packets) = inl refl
order_of x y _ (takes b e s p number by packet up heard carries) = inl refl

-- what holds of a node behind its deeds, as before them
pub record Along (x x' y : View) (n : Numbers) : Type 0 where
  pub goes : GoesAlong x x' y n
  pub paired : ArePaired x' y
  pub are : AreNumbers x' y n
  pub recorded : AreRecorded x' y

pub along_tells : (x x' y : View) (n : Numbers) → GoesAlong x x' y n → TellsMore x x'
along_tells x x' y n g = record { told = g.told; contact = (let own = ap (λ (k : Node). k.contact) g.stays.node in omega arith) }

along_one : (x x' x'' y : View) (n m : Numbers) → AreNumbers y x m → Along x x' y n → DoesDeed x' y x'' → Along x x'' y n ⊎ IsLater x.node x''.node
along_one x x' x'' y n m back a one = elim (does_goes x' y x'' n m a.paired a.are (numbers_beside y x x' m back (along_tells x x' y n a.goes)) one) [
  | inl g ↦ inl (record {
    goes = along_then x x' x'' y n a.goes g;
    paired = does_paired x' y x'' a.paired one;
    are = numbers_stay x' x'' y n a.are g.stays;
    recorded = does_recorded x' y x'' n a.paired a.are a.recorded one;
  })
  | inr later ↦ inr (subst (λ k. IsLater k x''.node) a.goes.stays.node later)
]

all_along : (x y x' : View) (n m : Numbers) → ArePaired x y → AreNumbers x y n → AreNumbers y x m → AreRecorded x y → DoesAll x y x' → Along x x' y n ⊎ IsLater x.node x'.node
all_along x y _ n m h are back recorded nothing = inl (record { goes = along_same x y n; paired = h; are = are; recorded = recorded })
all_along x y x'' n m h are back recorded (follows x' _ all one) = elim (all_along x y x' n m h are back recorded all) [
  | inl a ↦ along_one x x' x'' y n m back a one
  | inr later ↦ inr (elim (order_of x' y x'' one) [ inl same ↦ subst (IsLater x.node) (sym same) later | inr more ↦ later_then x.node x'.node x''.node later more ])
]

-- deeds that leave the contact numbers as they are
pub deeds_along : (x y x' : View) (n m : Numbers) → ArePaired x y → AreNumbers x y n → AreNumbers y x m → AreRecorded x y → DoesAll x y x' → x'.node ≡ x.node → Along x x' y n
deeds_along x y x' n m h are back recorded all same = elim (all_along x y x' n m h are back recorded all) [ inl a ↦ a | inr later ↦ absurd (later_same x.node x'.node same later) ]

-- ---- a piece of a call

-- packets get numbers in the present sessions alone
abbrev pub AreNow : View → (ℕ → ℕ → List (List ℕ)) → ℕ → Type 0
AreNow x' numbered b = (epoch : ℕ) → epoch ≢ epoch_on x'.node (x'.wires b) → numbered b epoch ≡ []

pub grows_at : (x x' y : View) (n : Numbers) (b : ℕ) (frames : List Outgoing) (numbered taken : ℕ → ℕ → List (List ℕ)) → Did x y x' frames numbered taken → GoesAlong x x' y n → AreNow x' numbered b → GrowsAt x x' b
grows_at x x' y n b frames numbered taken d g now = record {
  packets = numbered b (epoch_on x'.node (x'.wires b));
  line = d.line b (epoch_on x'.node (x'.wires b));
  others = λ epoch differ. d.line b epoch ∙ (ap (λ ps. (x.wires b).line epoch ++ ps) (now epoch differ) ∙ append-nil ((x.wires b).line epoch));
  began = g.began b;
}

pub deeds_piece : (x x' y : View) (h : AreTwins x y) (frames : List Outgoing) (numbered taken : ℕ → ℕ → List (List ℕ)) → Did x y x' frames numbered taken → x'.node ≡ x.node → AreNow x' numbered 0 → AreNow x' numbered 1 → RecordsStay x x'
    → (IsPresent x' x.node.contact x.node.seen → IsPresent x x.node.contact x.node.seen) → ((b epoch : ℕ) → taken b epoch ≡ []) → IsPiece x x' y h.here
deeds_piece x x' y h frames numbered taken d same near far records lasts none =
    let a = deeds_along x y x' h.here h.there h.paired h.numbers_here h.numbers_there h.recorded_here d.does same in
    record {
      paired = a.paired;
      tells = along_tells x x' y h.here a.goes;
      begun = a.goes.begun;
      recorded = a.recorded;
      stays = a.goes.stays;
      near = grows_at x x' y h.here 0 frames numbered taken d a.goes near;
      far = grows_at x x' y h.here 1 frames numbered taken d a.goes far;
      records = records;
      got = λ b epoch. d.got b epoch ∙ (ap (λ ps. (x.wires b).got epoch ++ ps) (none b epoch) ∙ append-nil ((x.wires b).got epoch));
      lasts = lasts;
    }
