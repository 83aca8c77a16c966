-- A packet shows a higher contact number than the highest seen: a contact ends, or without contact each end forgets the peer's epoch. It keeps two
-- nodes what they are.
use Rattle.std.proofs.Common.{◌≡◌, ◌<◌, ◌+◌, ◌^◌, ◌||◌, ℕ, true, false, if◌then◌else◌, [], ◌++◌, Option, Some, None, option_map, refl, sym, ap, ◌∙◌, subst, inl, inr, append-nil}
use Rattle.std.specs.List.{flat_map}
use Rattle.std.proofs.lemmas.Bool.{cases_Bool}
use Rattle.tipc_types.specs.LinkStates.{is_up}
use Rattle.tipc_contact.specs.Order.{IsContactShown}
use Rattle.tipc_link.specs.Links.{LinkEnd, reset_frames}
use Rattle.tipc_link.proofs.Ends.{ended-is, forgotten-is}
use Rattle.tipc_link.proofs.LinkLaw.{Each}
use Rattle.tipc_link_fsm.specs.Table.{Fsm, contact_ended, forget_peer, forgot_peer as forgotten_states, is_held}
use Rattle.tipc_pair.specs.Changeovers.{contact_ends, forgotten, parted as parted_pair, parted_end, risen}
use Rattle.tipc_pair.specs.Courses.{rests}
use Rattle.tipc_pair.specs.Facing.{PairEnds, ends_of, in_contact, is_up_at, other}
use Rattle.tipc_paired.proofs.contacts.ContactDeeds.{ended_down, mapped_end}
use Rattle.tipc_paired.specs.Deeds.{changes, ended_with, forgot_with, parted_view, parts, risen_view as risen_view, shows, works}
use Rattle.tipc_paired.specs.Views.{View, said_by}
use Rattle.tipc_two_nodes.proofs.deeds.Chains.{did_as, did_quietly, did_then}
use Rattle.tipc_two_nodes.proofs.deeds.Ending.{all_told}
use Rattle.tipc_two_nodes.proofs.deeds.Pairs.{apart_of, up_end}
use Rattle.tipc_two_nodes.specs.deeds.PairDeeds.{IsOfPair, none_more}
use Rattle.tipc_two_nodes.specs.Carrying.{KeepsCarried, none_taken}
use Rattle.tipc_two_nodes.specs.Twins.{AreTwins}
use Rattle.tipc_two_nodes.proofs.steps.Carrying.{carries_then}
use Rattle.tipc_two_nodes.proofs.calls.CallCourses.{told_both}
use Rattle.tipc_two_nodes.proofs.calls.EndingTwins.{parted_apart, parts_carry, parts_twins, shows_carry, shows_twins}
use Rattle.tipc_two_nodes.proofs.calls.PairViews.{or_false}

-- ---- the ends of a contact that ended, whose peer showed the number

pub ended_as : (contact next seen : ℕ) (e : LinkEnd) → contact ≡ next → forgot_with seen (ended_with contact e) ≡ parted_end next seen e
ended_as contact next seen e same =
    let forgets : (forget_peer (contact_ended e.fsm).after).after ≡ (contact_ended e.fsm).after =
    forgotten-is (contact_ended e.fsm).after (ended_down contact e) ∙ ap forgotten_states (ended-is e.fsm) ∙ sym (ended-is e.fsm) in
    λ i. record e { fsm = forgets i; contact = same i; peer_contact = seen }

pub mapped_as : (contact next seen : ℕ) (o shown : Option LinkEnd) → o ≡ shown → contact ≡ next → option_map (forgot_with seen) (option_map (ended_with contact) o) ≡ option_map (parted_end next seen) shown
mapped_as contact next seen o None is same = ap (λ k. option_map (forgot_with seen) (option_map (ended_with contact) k)) is
mapped_as contact next seen o (Some e) is same = ap (λ k. option_map (forgot_with seen) (option_map (ended_with contact) k)) is ∙ ap Some (ended_as contact next seen e same)

of_ended : (v : View) (x : PairEnds) (number : ℕ) → IsOfPair v x → IsOfPair (risen_view (parted_view v) number) (parted_pair (record x { seen = number }))
of_ended v x number pair =
    let next = v.node.contact + 1 in
    let same : next ≡ x.contact + 1 = ap (λ n. n + 1) pair.contact in
    record {
      own = pair.own;
      peer = pair.peer;
      contact = same;
      seen = refl;
      two_bearers = pair.two_bearers;
      near = mapped_as next (x.contact + 1) number (v.wires x.bearer).end x.near pair.near same;
      far = mapped_as next (x.contact + 1) number (v.wires (other x.bearer)).end x.far pair.far same;
      alone = λ b more. ap (λ k. option_map (forgot_with number) (option_map (ended_with next) k)) (pair.alone b more);
    }

of_forgotten : (v : View) (x : PairEnds) (number : ℕ) → IsOfPair v x → IsOfPair (risen_view v number) (forgotten x number)
of_forgotten v x number pair = record {
  own = pair.own;
  peer = pair.peer;
  contact = pair.contact;
  seen = refl;
  two_bearers = pair.two_bearers;
  near = ap (option_map (forgot_with number)) pair.near;
  far = ap (option_map (forgot_with number)) pair.far;
  alone = λ b more. ap (option_map (forgot_with number)) (pair.alone b more);
}

-- none of them is held
ended_unheld : (v : View) (number b : ℕ) (e : LinkEnd) → ((risen_view (parted_view v) number).wires b).end ≡ Some e → is_held e.fsm.state ≡ false
ended_unheld v number b e is =
    let from = mapped_end (forgot_with number) ((parted_view v).wires b).end e is in
    ap (λ (k : LinkEnd). is_held k.fsm.state) (sym from.2) ∙ ap (λ (f : Fsm). is_held f.state) (forgotten-is from.0.fsm (parted_apart v b from.0 from.1))

-- ---- an end of the node that is up

record HasUp (v : View) : Type 0 where
  bearer : ℕ
  end : LinkEnd
  end_is : (v.wires bearer).end ≡ Some end
  up : is_up end.fsm.state ≡ true

has_up : (v : View) (x : PairEnds) → IsOfPair v x → in_contact x ≡ true → HasUp v
has_up v x pair contact = elim (cases_Bool (is_up_at x.near)) [
  | inl up ↦ (let at = up_end x.near up in record { bearer = x.bearer; end = at.0; end_is = pair.near ∙ at.1; up = at.2 })
  | inr down ↦ (let at = up_end x.far (ap (λ t. t || is_up_at x.far) (sym down) ∙ contact) in record { bearer = other x.bearer; end = at.0; end_is = pair.far ∙ at.1; up = at.2 })
]

-- ---- the contact ends, and the number is the highest

ended_number : (v y : View) (x : PairEnds) (number : ℕ) (h : AreTwins v y) → IsOfPair v x → x.seen < number → number < 2 ^ 64 → IsContactShown (said_by y) number → in_contact x ≡ true → KeepsCarried v y h (contact_ends (record x { seen = number }) (x.contact, x.seen) number) none_more
ended_number v y x number h pair higher fits named contact =
    let at = has_up v x pair contact in
    let v1 = parted_view v in
    let apart1 = parted_apart v in
    let more : v1.node.seen < number = subst (λ n. n < number) (sym pair.seen) higher in
    let v2 = risen_view v1 number in
    let q = parted_pair (record x { seen = number }) in
    let h1 = parts_twins v y at.bearer at.end h at.end_is at.up in
    let h2 = shows_twins v1 y number h1 more fits apart1 named in
    let pair2 = of_ended v x number pair in
    let told = all_told v2 y q h2.paired pair2 (ended_unheld v number) in
    let said = flat_map reset_frames (ends_of q) in
    let last = told_both v2 y q told.0 said h2 pair2 told.1 told.2 in
    let fell = did_quietly v y v1 (changes v1 (parts at.bearer at.end at.end_is at.up)) refl (λ b k. refl) (λ b k. refl) in
    let rose = did_quietly v1 y v2 (works v2 (shows number more fits apart1 named)) refl (λ b k. refl) (λ b k. refl) in (
      told.0,
      record {
        did = did_as v y told.0 ([] ++ ([] ++ said)) (said ++ []) none_more none_more none_more none_more (did_then v y v1 told.0 [] ([] ++ said) none_more none_more none_more none_more fell (did_then v1 y v2 told.0 [] said none_more none_more none_more none_more rose told.1))
            (λ P each. subst (Each P) (sym (append-nil said)) each) (λ b k. refl) (λ b k. refl);
        pair = told.2;
      },
      last.0,
      carries_then v v1 told.0 y h h1 last.0 none_taken none_taken (parts_carry v y at.bearer at.end h at.end_is at.up) (carries_then v1 v2 told.0 y h1 h2 last.0 none_taken none_taken (shows_carry v1 y number h1 more fits apart1 named) last.1),
    )

-- without contact each end forgets the peer's epoch
forgotten_number : (v y : View) (x : PairEnds) (number : ℕ) (h : AreTwins v y) → IsOfPair v x → x.seen < number → number < 2 ^ 64 → IsContactShown (said_by y) number → is_up_at x.near ≡ false → is_up_at x.far ≡ false → KeepsCarried v y h (rests (forgotten x number)) none_more
forgotten_number v y x number h pair higher fits named near far =
    let more : v.node.seen < number = subst (λ n. n < number) (sym pair.seen) higher in
    let apart = apart_of v x pair near far in
    let v1 = risen_view v number in (
      v1,
      record { did = did_quietly v y v1 (works v1 (shows number more fits apart named)) refl (λ b k. refl) (λ b k. refl); pair = of_forgotten v x number pair },
      shows_twins v y number h more fits apart named,
      shows_carry v y number h more fits apart named,
    )

pub number_carried : (v y : View) (x : PairEnds) (number : ℕ) (h : AreTwins v y) → IsOfPair v x → x.seen < number → number < 2 ^ 64 → IsContactShown (said_by y) number → KeepsCarried v y h (risen x number) none_more
number_carried v y x number h pair higher fits named = elim (in_contact x) as (λ t. in_contact x ≡ t → KeepsCarried v y h (if t then contact_ends (record x { seen = number }) (x.contact, x.seen) number else rests (forgotten x number)) none_more) [
  | true ↦ λ contact. ended_number v y x number h pair higher fits named contact
  | false ↦ λ none. (let both = or_false (is_up_at x.near) (is_up_at x.far) none in forgotten_number v y x number h pair higher fits named both.0 both.1)
] refl
