-- An event at a member leaves it and its caster cast.
use Rattle.std.proofs.Common.{◌≡◌, ℕ, List, [], ◌∷◌, ◌++◌, Option, Some, None, refl, sym, subst, ◌∙◌, inl, inr, arith}
use Rattle.std.specs.Prelude.{◌⊎◌, All}
use Rattle.std.specs.List.{Contains}
use Rattle.std.proofs.lemmas.List.Elements.{All-append, All-cons, All-contains, All-contains_itself, All-head, All-nil, All-tail, All-weaker, Contains-append_left, Contains-append_right}
use Rattle.tipc_fragments.specs.Joining.{fresh}
use Rattle.tipc_reassembly.specs.Opening.{BringsAll}
use Rattle.tipc_reassembly.specs.Slots.{packets_in}
use Rattle.tipc_broadcast.specs.declared.contacts.Contact.{Contact}
use Rattle.tipc_broadcast.specs.Contacts.{carried, heard_outcome}
use Rattle.tipc_broadcast_law.proofs.Places.{put_other, put_same, same_or_not}
use Rattle.tipc_casters.specs.MemberTurns.{EntersAnew, enters, enters_told, HappensTo, keeps, Lasts, learns, quits, rests, takes, TurnsStayCast}
use Rattle.tipc_casters.specs.Sights.{Told}
use Rattle.tipc_casters.specs.ViewLaws.{given_at, MayEnter, refused, SameCaster, SameView, says_apart, says_there, SaysTo, packets_due, with_view}
use Rattle.tipc_casters.specs.Views.{AreCastSeen, AreContactNumbers, CasterView, IsAmongSent, IsOther, MemberView}
use Rattle.tipc_casters.proofs.MemberViews.{enters_stays, keeps_stays, learns_stays, quits_stays, same_stays, says_stays, takes_stays}

-- ---- members that are the same

same_caster : (v : CasterView) → SameCaster v v
same_caster v = record {
  casting = refl;
  numbered = λ f. refl;
  joined = λ m o. refl;
  entered = λ m. All-contains_itself (v.entered m);
  put = λ m own theirs. refl;
  sent = All-weaker (Contains v.sent) (IsAmongSent v.sent) (λ f there. (f.stamp, there, omega arith)) v.sent (All-contains_itself v.sent);
}

same_view : (w : MemberView) → SameView w w
same_view w = record {
  at = refl;
  entered = All-contains_itself w.entered;
  heard = refl;
  given = λ own theirs numbers. refl;
  begun = refl;
  told = All-contains_itself w.told;
  hears = All-contains_itself w.hears;
}

-- one member may be seen otherwise, where that is the same
seen_as : (v : CasterView) (ws : ℕ → MemberView) (m : ℕ) (w w' : MemberView) → AreCastSeen v (with_view ws m w) → SameView w w' → AreCastSeen v (with_view ws m w')
seen_as v ws m w w' h same = same_stays v v (with_view ws m w) (with_view ws m w') h (same_caster v) (λ j o. elim (same_or_not j m) [
  | inl at ↦ subst (λ i. SameView (with_view ws m w i) (with_view ws m w' i)) (sym at) (subst (λ x. SameView x (with_view ws m w' m)) (sym (put_same m w ws)) (subst (SameView w) (sym (put_same m w' ws)) same))
  | inr never ↦ subst (λ x. SameView x (with_view ws m w' j)) (sym (put_other m w ws j never)) (subst (SameView (ws j)) (sym (put_other m w' ws j never)) (same_view (ws j)))
])

-- a member that is put twice is the last one
twice : (v : CasterView) (ws : ℕ → MemberView) (m : ℕ) (w w' : MemberView) → AreCastSeen v (with_view (with_view ws m w) m w') → AreCastSeen v (with_view ws m w')
twice v ws m w w' h = same_stays v v (with_view (with_view ws m w) m w') (with_view ws m w') h (same_caster v) (λ j o. elim (same_or_not j m) [
  | inl at ↦ subst (λ i. SameView (with_view (with_view ws m w) m w' i) (with_view ws m w' i)) (sym at)
      (subst (λ x. SameView x (with_view ws m w' m)) (sym (put_same m w' (with_view ws m w))) (subst (SameView w') (sym (put_same m w' ws)) (same_view w')))
  | inr never ↦ subst (λ x. SameView x (with_view ws m w' j)) (sym (put_other m w' (with_view ws m w) j never ∙ put_other m w ws j never))
      (subst (SameView (ws j)) (sym (put_other m w' ws j never)) (same_view (ws j)))
])

-- what leaves any members cast does so where this one is put
carried_on : (v : CasterView) (ws : ℕ → MemberView) (m : ℕ) (w : MemberView) (May : MemberView → Type 0) (f : MemberView → MemberView)
    → ((ns : ℕ → MemberView) → AreCastSeen v ns → May (ns m) → AreCastSeen v (with_view ns m (f (ns m)))) → AreCastSeen v (with_view ws m w) → May w → AreCastSeen v (with_view ws m (f w))
carried_on v ws m w May f law h may =
    let ns = with_view ws m w in
    let here : ns m ≡ w = put_same m w ws in
    twice v ws m w (f w) (subst (λ x. AreCastSeen v (with_view ns m (f x))) here (law ns h (subst May (sym here) may)))

-- ---- STATEs before and after

record Split (v : CasterView) (w w' : MemberView) (more : List Told) : Type 0 where
  before : List Told
  after : List Told
  said_before : All (SaysTo v w) before
  said_after : All (SaysTo v w') after
  all : All (λ t. Contains before t ⊎ Contains after t) more

-- one more of them
split_more : (v : CasterView) (w w' : MemberView) (t : Told) (more : List Told) → SaysTo v w t ⊎ SaysTo v w' t → Split v w w' more → Split v w w' (t ∷ more)
split_more v w w' t more (inl says) s = record {
  before = t ∷ s.before;
  after = s.after;
  said_before = All-cons (SaysTo v w) t s.before says s.said_before;
  said_after = s.said_after;
  all = All-cons (λ u. Contains (t ∷ s.before) u ⊎ Contains s.after u) t more (inl (Contains-append_left (t ∷ []) s.before t (0, omega arith, refl)))
      (All-weaker (λ u. Contains s.before u ⊎ Contains s.after u) (λ u. Contains (t ∷ s.before) u ⊎ Contains s.after u) (λ u there. elim there as (λ _. Contains (t ∷ s.before) u ⊎ Contains s.after u) [
        | inl first ↦ inl (Contains-append_right (t ∷ []) s.before u first)
        | inr last ↦ inr last
      ]) more s.all);
}
split_more v w w' t more (inr says) s = record {
  before = s.before;
  after = t ∷ s.after;
  said_before = s.said_before;
  said_after = All-cons (SaysTo v w') t s.after says s.said_after;
  all = All-cons (λ u. Contains s.before u ⊎ Contains (t ∷ s.after) u) t more (inr (Contains-append_left (t ∷ []) s.after t (0, omega arith, refl)))
      (All-weaker (λ u. Contains s.before u ⊎ Contains s.after u) (λ u. Contains s.before u ⊎ Contains (t ∷ s.after) u) (λ u there. elim there as (λ _. Contains s.before u ⊎ Contains (t ∷ s.after) u) [
        | inl first ↦ inl first
        | inr last ↦ inr (Contains-append_right (t ∷ []) s.after u last)
      ]) more s.all);
}

split : (v : CasterView) (w w' : MemberView) (more : List Told) → All (λ t. SaysTo v w t ⊎ SaysTo v w' t) more → Split v w w' more
split v w w' [] said = record { before = []; after = []; said_before = All-nil (SaysTo v w); said_after = All-nil (SaysTo v w'); all = All-nil _ }
split v w w' (t ∷ more) said = split_more v w w' t more (All-head (λ u. SaysTo v w u ⊎ SaysTo v w' u) t more said) (split v w w' more (All-tail (λ u. SaysTo v w u ⊎ SaysTo v w' u) t more said))

-- what it told besides
abbrev says_too : MemberView → List Told → MemberView
says_too w more = record w { told = w.told ++ more }

-- ---- what happens between

-- the member then, which told these STATEs before: but for what it tells after that, it is as the event leaves it
record Reached (w w' then : MemberView) (before : List Told) : Type 0 where
  at : w'.at ≡ then.at
  entered : All (Contains w'.entered) then.entered
  heard : w'.heard ≡ then.heard
  given : (own theirs : ℕ) → AreContactNumbers own theirs → w'.given own theirs ≡ then.given own theirs
  begun : w'.begun ≡ then.begun
  told : then.told ≡ w.told ++ before
  hears : All (Contains then.hears) w'.hears

says_on : (v : CasterView) (w w' : MemberView) (t : Told) → w'.at ≡ w.at → w'.heard ≡ w.heard → SaysTo v w' t → SaysTo v w t
says_on v w w' t at heard (says_there next start k here there stamp shows) = says_there next start k (sym heard ∙ here) (sym at ∙ there) stamp shows
says_on v w w' t at heard (says_apart out) = says_apart out

-- what it told is all that it ever told
told_all : (w w' : MemberView) (more before after told : List Told) → told ≡ w.told ++ before → All (λ t. Contains before t ⊎ Contains after t) more → All (λ t. Contains w.told t ⊎ Contains more t) w'.told → All (Contains (told ++ after)) w'.told
told_all w w' more before after told is split told_is = All-weaker (λ t. Contains w.told t ⊎ Contains more t) (Contains (told ++ after)) (λ t there. subst (λ ts. Contains (ts ++ after) t) (sym is) (by t there)) w'.told told_is
  where
    early : (t : Told) → Contains before t ⊎ Contains after t → Contains ((w.told ++ before) ++ after) t
    early t (inl first) = Contains-append_left (w.told ++ before) after t (Contains-append_right w.told before t first)
    early t (inr last) = Contains-append_right (w.told ++ before) after t last

    by : (t : Told) → Contains w.told t ⊎ Contains more t → Contains ((w.told ++ before) ++ after) t
    by t (inl old) = Contains-append_left (w.told ++ before) after t (Contains-append_left w.told before t old)
    by t (inr new) = early t (All-contains (λ u. Contains before u ⊎ Contains after u) more t split new)

-- and then it tells the rest
finish : (v : CasterView) (ws : ℕ → MemberView) (m : ℕ) (w' then : MemberView) (more : List Told) (s : Split v (ws m) w' more) → IsOther v m → All (λ t. Contains (ws m).told t ⊎ Contains more t) w'.told
    → AreCastSeen v (with_view ws m then) → Reached (ws m) w' then s.before → AreCastSeen v (with_view ws m w')
finish v ws m w' then more s other told_is h r =
    let says : All (SaysTo v then) s.after = All-weaker (SaysTo v w') (SaysTo v then) (λ t one. says_on v then w' t r.at r.heard one) s.after s.said_after in
    let all = carried_on v ws m then (λ w. All (SaysTo v w) s.after) (λ w. says_too w s.after) (λ ns k may. says_stays v ns m s.after k other may) h says in
    seen_as v ws m (says_too then s.after) w' all (record {
      at = r.at;
      entered = r.entered;
      heard = r.heard;
      given = r.given;
      begun = r.begun;
      told = told_all (ws m) w' more s.before s.after then.told r.told s.all told_is;
      hears = r.hears;
    })

pub turns_stay : TurnsStayCast
turns_stay v ws m w' h other t = by t.happens
  where
    w : MemberView
    w = ws m

    s : Split v w w' t.more
    s = split v w w' t.more t.said

    w1 : MemberView
    w1 = says_too w s.before

    first : AreCastSeen v (with_view ws m w1)
    first = says_stays v ws m s.before h other s.said_before

    -- the contact stays, and this is kept of the caster
    lasting : (l : Option Contact) → Lasts w w' → w'.heard ≡ l → Reached w w' (record w1 { heard = l }) s.before
    lasting l stays heard = record { at = stays.at; entered = t.entered; heard = heard; given = λ own theirs numbers. stays.given own theirs; begun = stays.begun; told = refl; hears = t.hears }

    entering : (c : ℕ) (k l : Contact) → EntersAnew v w w' m c k → w'.heard ≡ Some l → Reached w w' (record w1 { at = Some c; entered = w.entered ++ c ∷ []; heard = Some l; begun = fresh }) s.before
    entering c k l e heard = record {
      at = e.at;
      entered = All-append (Contains w'.entered) w.entered (c ∷ []) t.entered (All-cons (Contains w'.entered) c [] e.entered (All-nil (Contains w'.entered)));
      heard = heard;
      given = λ own theirs numbers. e.given own theirs;
      begun = e.begun;
      told = refl;
      hears = t.hears;
    }

    entered : (c : ℕ) (k : Contact) → EntersAnew v w w' m c k → AreCastSeen v (with_view ws m (record w1 { at = Some c; entered = w.entered ++ c ∷ []; heard = Some k; begun = fresh }))
    entered c k e = carried_on v ws m w1 (λ x. MayEnter v x m c) (λ x. record x { at = Some c; entered = x.entered ++ c ∷ []; heard = Some k; begun = fresh })
        (λ ns g may. enters_stays v ns m c k g other may e.boot e.window) first (let may = e.may in record { away = may.away; some = may.some; above = may.above; era = may.era; newest = may.newest })

    by : HappensTo v w w' m → AreCastSeen v (with_view ws m w')
    by (rests stays heard) = finish v ws m w' w1 t.more s other t.told_is first (lasting w.heard stays heard)
    by (keeps k l stays here heard same) = finish v ws m w' (record w1 { heard = Some l }) t.more s other t.told_is
        (carried_on v ws m w1 (λ x. x.heard ≡ Some k) (λ x. record x { heard = Some l }) (λ ns g is. keeps_stays v ns m k l g other is same) first here) (lasting (Some l) stays heard)
    by (learns k stays here l) = finish v ws m w' (record w1 { heard = Some l.kept }) t.more s other t.told_is
        (carried_on v ws m w1 (λ x. (x.heard ≡ Some k) × Contains x.hears l.state × (x.at ≡ Some l.state.contact)) (λ x. record x { heard = Some l.kept })
        (λ ns g is. learns_stays v ns m l.state k l.kept g other is.0 is.1 is.2 l.by_now l.recent l.as_told) first (here, l.there, l.contact)) (lasting (Some l.kept) stays l.heard_is)
    by (takes k) = finish v ws m w' (record w1 { heard = Some k.after; given = given_at k.contact (packets_in k.opened) w.given; begun = w'.begun }) t.more s other t.told_is
        (carried_on v ws m w1 (λ x. (x.heard ≡ Some k.before) × (x.at ≡ Some k.contact) × BringsAll x.begun (packets_due (heard_outcome (carried k.packet k.by) k.before (refused m k.boot k.set k.before))) k.opened w'.begun)
        (λ x. record x { heard = Some k.after; given = given_at k.contact (packets_in k.opened) x.given; begun = w'.begun })
        (λ ns g is. takes_stays v ns m k.contact k.boot k.set k.by k.packet k.before k.after k.opened w'.begun g other is.0 is.1 k.frame k.as_heard is.2) first (k.here, k.at, k.brings))
        (record { at = k.stays_at; entered = t.entered; heard = k.heard_is; given = k.given_is; begun = refl; told = refl; hears = t.hears })
    by (enters c k e heard) = finish v ws m w' (record w1 { at = Some c; entered = w.entered ++ c ∷ []; heard = Some k; begun = fresh }) t.more s other t.told_is (entered c k e) (entering c k k e heard)
    by (enters_told c k e l) = finish v ws m w' (record w1 { at = Some c; entered = w.entered ++ c ∷ []; heard = Some l.kept; begun = fresh }) t.more s other t.told_is
        (carried_on v ws m (record w1 { at = Some c; entered = w.entered ++ c ∷ []; heard = Some k; begun = fresh }) (λ x. (x.heard ≡ Some k) × Contains x.hears l.state × (x.at ≡ Some l.state.contact))
        (λ x. record x { heard = Some l.kept }) (λ ns g is. learns_stays v ns m l.state k l.kept g other is.0 is.1 is.2 l.by_now l.recent l.as_told) (entered c k e) (refl, l.there, sym e.at ∙ l.contact)) (entering c k l.kept e l.heard_is)
    by (quits away heard given) = finish v ws m w' (record w1 { at = None; heard = None; begun = w'.begun }) t.more s other t.told_is
        (carried_on v ws m w1 (λ x. Unit {0}) (λ x. record x { at = None; heard = None; begun = w'.begun }) (λ ns g is. quits_stays v ns m w'.begun g other) first tt)
        (record { at = away; entered = t.entered; heard = heard; given = λ own theirs numbers. given own theirs; begun = refl; told = refl; hears = t.hears })
