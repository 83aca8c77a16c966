-- What a turn of a node is to it as a member of another node's broadcast, where no broadcast packet of that node was heard in it.
use Rattle.std.specs.Prelude.{option_map}
use Rattle.std.specs.List.{Contains}
use Rattle.std.proofs.Common.{◌≡◌, ◌<◌, ◌≤◌, ◌+◌, ◌^◌, ◌∙◌, ℕ, Bool, true, false, if◌then◌else◌, [], ◌∷◌, ◌++◌, Option, Some, None, refl, sym, ap, subst, arith}
use Rattle.tipc_types.specs.Address.{node_word}
use Rattle.tipc_types.specs.declared.link_words.BroadcastState.{BroadcastState}
use Rattle.tipc_broadcast.specs.declared.contacts.Contact.{Contact}
use Rattle.tipc_broadcast.specs.Contacts.{joined, told as told_by}
use Rattle.tipc_broadcast.specs.Deeds.{CastDeed}
use Rattle.tipc_casters.specs.MemberTurns.{EntersAnew, HappensTo, Lasts, LearnsOf, enters as entering, enters_told, learns, quits, rests}
use Rattle.tipc_casters.specs.Sights.{boot_in, Told}
use Rattle.tipc_casters.specs.ViewLaws.{IsKeptAs, MayEnter}
use Rattle.tipc_casters.specs.Views.{CasterView, MemberView}
use Rattle.tipc_casters.proofs.Kept.{DeedsKeep}
use Rattle.tipc_pair.specs.Facing.{PairEnds, contact_between, in_contact}
use Rattle.tipc_pair.proofs.turns.PairTells.{Means, Story, began, ended, stays}
use Rattle.tipc_node.specs.Casting.{boot_of_contact}
use Rattle.tipc_replay.specs.Casters.{heard_contact}
use Rattle.tipc_replay.proofs.casts.StoryDeeds.{begun_by, kept_once, kept_still, kept_twice, story_deeds}

-- ---- the contact

pub between_none : (x : PairEnds) → in_contact x ≡ false → contact_between x ≡ None
between_none x out = ap (λ b. if b then Some (x.contact, x.seen) else None) out

pub between_some : (x : PairEnds) → in_contact x ≡ true → contact_between x ≡ Some (x.contact, x.seen)
between_some x there = ap (λ b. if b then Some (x.contact, x.seen) else None) there

-- it is the same where it stays
pub between_same : (x y : PairEnds) → Means x y stays → contact_between y ≡ contact_between x
between_same x y m = by (in_contact x) refl
  where
    by : (b : Bool) → in_contact x ≡ b → contact_between y ≡ contact_between x
    by true there = between_some y (m.0 ∙ there) ∙ (λ i. Some (m.1 i, m.2 there i)) ∙ sym (between_some x there)
    by false out = between_none y (m.0 ∙ out) ∙ sym (between_none x out)

boot_as : (numbers : ℕ × ℕ) → numbers.0 < 2 ^ 64 → boot_of_contact numbers.1 ≡ boot_in (heard_contact numbers)
boot_as numbers fits = omega (arith, fits)

-- ---- what is known

-- How the member is seen before the turn and after it, where the pair to the caster goes from x to y. What it begins to be in it may enter.
pub record Known (v : CasterView) (w w' : MemberView) (word : ℕ) (x y : PairEnds) (story : Story) : Type 0 where
  pub at : w.at ≡ option_map heard_contact (contact_between x)
  pub at_then : w'.at ≡ option_map heard_contact (contact_between y)
  pub kept : (c : ℕ) → w.at ≡ Some c → (k : Contact) × (w.heard ≡ Some k)
  pub none : w.at ≡ None → w.heard ≡ None
  pub means : Means x y story
  pub begun : w'.begun ≡ begun_by story w.begun
  pub given : (own theirs : ℕ) → w'.given own theirs ≡ w.given own theirs
  pub enters : (numbers : ℕ × ℕ) → story ≡ began numbers → MayEnter v w word (heard_contact numbers) × Contains w'.entered (heard_contact numbers) × (numbers.0 < 2 ^ 64)

lasting : (v : CasterView) (w w' : MemberView) (word : ℕ) (x y : PairEnds) → Known v w w' word x y stays → Lasts w w'
lasting v w w' word x y k = record { at = k.at_then ∙ ap (option_map heard_contact) (between_same x y k.means) ∙ sym k.at; given = k.given; begun = k.begun }

was_out : (v : CasterView) (w w' : MemberView) (word : ℕ) (x y : PairEnds) (numbers : ℕ × ℕ) → Known v w w' word x y (began numbers) → w.at ≡ None
was_out v w w' word x y numbers k = k.at ∙ ap (option_map heard_contact) (between_none x k.means.0)

anew : (v : CasterView) (w w' : MemberView) (word a start : ℕ) (x y : PairEnds) (numbers : ℕ × ℕ) → Known v w w' word x y (began numbers)
    → EntersAnew v w w' word (heard_contact numbers) (joined (node_word a) (boot_of_contact numbers.1) start)
anew v w w' word a start x y numbers k =
    let e = k.enters numbers refl in
    record {
      may = e.0;
      boot = boot_as numbers e.2;
      window = refl;
      at = k.at_then ∙ ap (option_map heard_contact) (between_some y k.means.1 ∙ ap Some (sym k.means.2));
      entered = e.1;
      given = k.given;
      begun = k.begun;
    }

is_out : (v : CasterView) (w w' : MemberView) (word : ℕ) (x y : PairEnds) (story : Story) → Known v w w' word x y story → in_contact y ≡ false → w'.at ≡ None
is_out v w w' word x y story k out = k.at_then ∙ ap (option_map heard_contact) (between_none y out)

-- ---- with no STATE

pub unheard_happens : (v : CasterView) (w w' : MemberView) (word own a : ℕ) (x y : PairEnds) (story : Story) → Known v w w' word x y story → DeedsKeep own (node_word a) (story_deeds a story ++ []) w.heard w'.heard → HappensTo v w w' word
unheard_happens v w w' word own a x y stays k keeps = rests (lasting v w w' word x y k) (kept_still own (node_word a) w.heard w'.heard keeps)
unheard_happens v w w' word own a x y (began numbers) k keeps =
    let joins = kept_once own (node_word a) (CastDeed.joins (node_word a) (boot_of_contact numbers.1)) w.heard w'.heard keeps (k.none (was_out v w w' word x y numbers k)) in
    entering (heard_contact numbers) (joined (node_word a) (boot_of_contact numbers.1) joins.0) (anew v w w' word a joins.0 x y numbers k) joins.1
unheard_happens v w w' word own a x y (ended numbers states shown) k keeps =
    quits (is_out v w w' word x y (ended numbers states shown) k k.means.2) (kept_once own (node_word a) (CastDeed.leaves (node_word a)) w.heard w'.heard keeps) k.given

-- ---- with one that the caster told in the present contact

learned : (v : CasterView) (w w' : MemberView) (c : Option ℕ) (k l : Contact) (t : Told) (seen : BroadcastState) → Contains w.hears t → t.stamp ≤ v.numbered (boot_in t.contact) → v.numbered (boot_in t.contact) ≤ t.stamp + 30000 → t.seen ≡ seen → c ≡ Some t.contact → w'.heard ≡ Some l
    → IsKeptAs (told_by seen.start seen.next k) l → LearnsOf v w w' c k
learned v w w' c k l t seen there by_now recent same contact heard kept = record {
  state = t;
  there = there;
  by_now = by_now;
  recent = recent;
  contact = contact;
  kept = l;
  heard_is = heard;
  as_told = subst (λ (s : BroadcastState). IsKeptAs (told_by s.start s.next k) l) (sym same) kept;
}

pub heard_happens : (v : CasterView) (w w' : MemberView) (word own a : ℕ) (x y : PairEnds) (story : Story) (seen : BroadcastState) (t : Told) → Known v w w' word x y story
    → DeedsKeep own (node_word a) (story_deeds a story ++ CastDeed.states (node_word a) seen ∷ []) w.heard w'.heard → Contains w.hears t → t.stamp ≤ v.numbered (boot_in t.contact) → v.numbered (boot_in t.contact) ≤ t.stamp + 30000 → t.seen ≡ seen → w'.at ≡ Some t.contact → HappensTo v w w' word
heard_happens v w w' word own a x y stays seen t k keeps there by_now recent same at =
    let lasts = lasting v w w' word x y k in
    let was : w.at ≡ Some t.contact = sym lasts.at ∙ at in
    let c = k.kept t.contact was in
    let l = kept_once own (node_word a) (CastDeed.states (node_word a) seen) w.heard w'.heard keeps c.0 c.1 in
    learns c.0 lasts c.1 (learned v w w' w.at c.0 l.0 t seen there by_now recent same was l.1 l.2)
heard_happens v w w' word own a x y (began numbers) seen t k keeps there by_now recent same at =
    let both = kept_twice own (node_word a) (CastDeed.joins (node_word a) (boot_of_contact numbers.1)) (CastDeed.states (node_word a) seen) w.heard w'.heard keeps in
    let joins = both.1 (k.none (was_out v w w' word x y numbers k)) in
    let c = joined (node_word a) (boot_of_contact numbers.1) joins.0 in
    let l = both.2 c joins.1 in
    enters_told (heard_contact numbers) c (anew v w w' word a joins.0 x y numbers k) (learned v w w' w'.at c l.0 t seen there by_now recent same at l.1 l.2)
heard_happens v w w' word own a x y (ended numbers states shown) seen t k keeps there by_now recent same at =
    absurd (let wrong : None ≡ Some t.contact = sym (is_out v w w' word x y (ended numbers states shown) k k.means.2) ∙ at in let no : ⊥ = cc in no)
