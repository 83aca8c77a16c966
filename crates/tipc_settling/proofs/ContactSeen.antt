-- A RESET or an ACTIVATE that shows the present tells a still pair the contact number of its peer.
use Rattle.std.specs.Prelude.{◌==◌, nat_lt, if◌then◌else◌}
use Rattle.std.proofs.Common.{◌≡◌, ◌∙◌, ℕ, Bool, true, false, refl, sym, ap, subst, arith}
use Rattle.std.proofs.lemmas.Bool.Decides.{nat_tests}
use Rattle.tipc_types.specs.declared.link_words.BroadcastState.{BroadcastState}
use Rattle.tipc_types.specs.declared.link_words.Why.TheVariants as why
use Rattle.tipc_header.specs.declared.packet.Header.{Header}
use Rattle.tipc_header.specs.declared.packet.Header.TheVariants as header
use Rattle.tipc_header.specs.declared.packet.Reset.{Reset}
use Rattle.tipc_header.specs.Spelling.{Fields}
use Rattle.tipc_pair.specs.Changeovers.{risen}
use Rattle.tipc_pair.specs.Courses.{Course, going_on}
use Rattle.tipc_pair.specs.Facing.{PairEnds, facing}
use Rattle.tipc_pair.specs.PairArrivals.{Heard, activate_higher, activates, behind, hears as heard_by, met_near, passing, reset_near}
use Rattle.tipc_pair.proofs.acts.Acting.{hears_ran}
use Rattle.tipc_pair.proofs.turns.PairKept.{facing_bearer}
use Rattle.tipc_settling.specs.Beginnings.{standing}
use Rattle.tipc_settling.specs.Rises.{IsNotice, NoticesTellContact}
use Rattle.tipc_settling.specs.Stillness.{Footing, IsStill, ShowsNumber}
use Rattle.tipc_settling.proofs.Pairs.{May, still_facing}
use Rattle.tipc_settling.proofs.Rising.{behind_heard, not_less, risen_still, same_number}
use Rattle.tipc_settling.proofs.Standing.{stands_anew}
use Rattle.tipc_settling.proofs.Turns.{may_hear, ran_still}

module _ (own peer : Footing) where
  -- a pair that has seen the number has seen it behind what it hears
  keeps_seen : (h : Header) (es er : ℕ) (p : Fields) (by : ℕ) (shown : BroadcastState) (y : PairEnds) → p.header ≡ h → IsStill own peer y → es ≡ peer.epoch y.bearer → ShowsNumber peer.contact h → y.seen ≡ peer.contact
      → (heard_by h es er p by shown y).course.pair.seen ≡ peer.contact
  keeps_seen h es er p by shown y is still same number sees =
      let now = standing own peer y in
      let hy = stands_anew own peer y still in
      let after = ran_still now peer y (heard_by h es er p by shown y).course (hears_ran (May now peer) h es er p by shown y (may_hear now peer h es er p by shown y is still.two hy same number)) hy in
      after.sees (ap (λ n. n == peer.contact) sees ∙ same_number peer.contact)

  -- the number isn't below that which was seen
  no_lower : (z : PairEnds) (number : ℕ) → IsStill own peer z → number ≡ peer.contact → nat_lt number z.seen ≡ false
  no_lower z number h is = not_less number z.seen (let most = h.seen in omega (arith, most, is))

  reset_sees : (said : Reset) (es er : ℕ) (p : Fields) (by : ℕ) (shown : BroadcastState) (z : PairEnds) → p.header ≡ header.Reset said → IsStill own peer z → es ≡ peer.epoch z.bearer → said.contact ≡ peer.contact
      → (heard_by (header.Reset said) es er p by shown z).course.pair.seen ≡ peer.contact
  unfolding going_on
  reset_sees said es er p by shown z is h same number = at (said.contact == z.seen) refl
    where
      n : ℕ
      n = said.contact

      at : (t : Bool) → (said.contact == z.seen) ≡ t → (heard_by (header.Reset said) es er p by shown z).course.pair.seen ≡ peer.contact
      at true equal = keeps_seen (header.Reset said) es er p by shown z is h same number (grind (arith, nat_tests, equal, number))
      at false differs =
          let r = risen_still own peer z n h number differs in
          let c = risen z n in
          let y = c.pair in
          let still : IsStill own peer y = subst (λ (d : Course). IsStill own peer d.pair) (sym r.rises) r.still in
          let sees : y.seen ≡ peer.contact = ap (λ (d : Course). d.pair.seen) r.rises ∙ number in
          let bearer : y.bearer ≡ z.bearer = ap (λ (d : Course). d.pair.bearer) r.rises in
          let later = keeps_seen (header.Reset said) es er p by shown y is still (same ∙ ap (λ b. peer.epoch b) (sym bearer)) number sees in
          let equal : (n == y.seen) ≡ true = ap (λ k. n == k) (sees ∙ sym number) ∙ same_number n in
          let meet = reset_near es shown in
          let at_z : heard_by (header.Reset said) es er p by shown z ≡ behind c meet =
          ap (λ b. if b then passing z why.Contact else (if n == z.seen then meet z else behind c meet)) (no_lower z n h number) ∙ ap (λ b. if b then meet z else behind c meet) differs in
          let at_y : heard_by (header.Reset said) es er p by shown y ≡ meet y =
          ap (λ b. if b then passing y why.Contact else (if n == y.seen then meet y else behind (risen y n) meet)) (no_lower y n still number) ∙ ap (λ b. if b then meet y else behind (risen y n) meet) equal in
          ap (λ (q : Heard). q.course.pair.seen) at_z ∙ (ap (λ (q : Heard). q.course.pair.seen) (sym at_y) ∙ later)

  activate_sees : (said : Reset) (es er : ℕ) (p : Fields) (by : ℕ) (shown : BroadcastState) (z : PairEnds) → p.header ≡ header.Activate said → IsStill own peer z → es ≡ peer.epoch z.bearer → said.contact ≡ peer.contact
      → (heard_by (header.Activate said) es er p by shown z).course.pair.seen ≡ peer.contact
  unfolding going_on
  activate_sees said es er p by shown z is h same number = at (said.contact == z.seen) refl
    where
      n : ℕ
      n = said.contact

      at : (t : Bool) → (said.contact == z.seen) ≡ t → (heard_by (header.Activate said) es er p by shown z).course.pair.seen ≡ peer.contact
      at true equal = keeps_seen (header.Activate said) es er p by shown z is h same number (grind (arith, nat_tests, equal, number))
      at false differs =
          let r = risen_still own peer z n h number differs in
          let c = risen z n in
          let y = c.pair in
          let still : IsStill own peer y = subst (λ (d : Course). IsStill own peer d.pair) (sym r.rises) r.still in
          let sees : y.seen ≡ peer.contact = ap (λ (d : Course). d.pair.seen) r.rises ∙ number in
          let bearer : y.bearer ≡ z.bearer = ap (λ (d : Course). d.pair.bearer) r.rises in
          let later = keeps_seen (header.Activate said) es er p by shown y is still (same ∙ ap (λ b. peer.epoch b) (sym bearer)) number sees in
          let equal : (n == y.seen) ≡ true = ap (λ k. n == k) (sees ∙ sym number) ∙ same_number n in
          let meet = met_near es er p by shown in
          let at_z : heard_by (header.Activate said) es er p by shown z ≡ behind c meet =
          ap (λ b. if b then passing z why.Contact else (if n == z.seen then meet z else activate_higher n meet z)) (no_lower z n h number) ∙ (ap (λ b. if b then meet z else activate_higher n meet z) differs
          ∙ ap (λ b. activates b c (behind c meet)) r.apart) in
          let at_y : heard_by (header.Activate said) es er p by shown y ≡ meet y =
          ap (λ b. if b then passing y why.Contact else (if n == y.seen then meet y else activate_higher n meet y)) (no_lower y n still number) ∙ ap (λ b. if b then meet y else activate_higher n meet y) equal in
          ap (λ (q : Heard). q.course.pair.seen) at_z ∙ (ap (λ (q : Heard). q.course.pair.seen) (sym at_y) ∙ later)

  notice_sees : (h : Header) (es er : ℕ) (p : Fields) (by : ℕ) (shown : BroadcastState) (z : PairEnds) → p.header ≡ h → IsStill own peer z → es ≡ peer.epoch z.bearer → ShowsNumber peer.contact h → IsNotice h
      → (heard_by h es er p by shown z).course.pair.seen ≡ peer.contact
  notice_sees (header.Reset said) es er p by shown z is h same number notice = reset_sees said es er p by shown z is h same number
  notice_sees (header.Activate said) es er p by shown z is h same number notice = activate_sees said es er p by shown z is h same number
  notice_sees other es er p by shown z is h same number notice = absurd notice

pub notices_tell_contact : NoticesTellContact
notices_tell_contact own peer x x' bearer es er p by shown messages reply frames zero_is one h shows notice t =
    let z = facing bearer x in
    let hz = still_facing own peer bearer x h in
    let on : z.bearer ≡ bearer = facing_bearer bearer x one h.two in
    let seen = notice_sees own peer p.header es er p by shown z refl hz (shows.epoch ∙ ap (λ b. peer.epoch b) (sym on)) shows.number notice in
    let after = behind_heard own peer x x' bearer es er p by shown messages reply frames zero_is one h shows t in
    after.sees (ap (λ n. n == peer.contact) seen ∙ same_number peer.contact)
