-- What a STATE tells that leaves in a turn: a member says to the caster what it has, and the caster tells a member the start that it has for it, before the
-- turn or after it.
use Rattle.std.specs.Prelude.{option_map}
use Rattle.std.proofs.Common.{◌≡◌, ◌≤◌, ◌+◌, ◌∙◌, ℕ, Bool, true, false, if◌then◌else◌, Option, Some, None, refl, sym, ap}
use Rattle.tipc_types.specs.Position.{number_of}
use Rattle.tipc_types.specs.declared.link_words.BroadcastState.{BroadcastState}
use Rattle.tipc_broadcast.specs.declared.contacts.Contact.{Contact}
use Rattle.tipc_broadcast.specs.Casting.{shown}
use Rattle.tipc_broadcast.specs.Contacts.{shown_to}
use Rattle.tipc_broadcast_law.specs.Groups.{queue}
use Rattle.tipc_casters.specs.Sights.{Told}
use Rattle.tipc_casters.specs.ViewLaws.{SaysTo, TellsTo, says_apart, says_there}
use Rattle.tipc_casters.specs.Views.{CasterView, MemberView}
use Rattle.tipc_pair.specs.Facing.{PairEnds, contact_between, in_contact}
use Rattle.tipc_pair.proofs.turns.PairTells.{Means, Story, began, ended, stays}
use Rattle.tipc_replay.specs.Casters.{cast_contact, heard_contact}
use Rattle.tipc_replay.proofs.casts.MemberTurn.{between_none, between_some}

-- ---- the contact beside it

-- that before the turn, or else that after it
abbrev pub told_numbers : PairEnds → PairEnds → ℕ × ℕ
told_numbers x y = if in_contact x then (x.contact, x.seen) else (y.contact, y.seen)

told_before : (x y : PairEnds) → in_contact x ≡ true → told_numbers x y ≡ (x.contact, x.seen)
told_before x y there = ap (λ b. if b then (x.contact, x.seen) else (y.contact, y.seen)) there

pub told_out : (x y : PairEnds) → in_contact x ≡ false → told_numbers x y ≡ (y.contact, y.seen)
told_out x y out = ap (λ b. if b then (x.contact, x.seen) else (y.contact, y.seen)) out

pub told_after : (x y : PairEnds) (story : Story) → Means x y story → in_contact y ≡ true → told_numbers x y ≡ (y.contact, y.seen)
told_after x y stays m there = (let was : in_contact x ≡ true = sym m.0 ∙ there in told_before x y was ∙ (λ i. (sym m.1 i, sym (m.2 was) i)))
told_after x y (began numbers) m there = told_out x y m.0
told_after x y (ended numbers states shown) m there = absurd (let wrong : false ≡ true = sym m.2 ∙ there in let no : ⊥ = cc in no)

-- where it is the contact of the pair, there is one
in_it : (x : PairEnds) (f : ℕ × ℕ → ℕ) (c : ℕ) → option_map f (contact_between x) ≡ Some c → in_contact x ≡ true
in_it x f c is = by (in_contact x) refl
  where
    by : (b : Bool) → in_contact x ≡ b → in_contact x ≡ true
    by true there = there
    by false out = absurd (let wrong : None ≡ Some c = sym (ap (option_map f) (between_none x out)) ∙ is in let no : ⊥ = cc in no)

-- ---- a member

says : (v : CasterView) (w : MemberView) (t : Told) (next start : ℕ) (o : Option Contact) → w.heard ≡ o → ((k : Contact) → o ≡ Some k → w.at ≡ Some t.contact) → t.stamp ≡ v.numbered v.casting.boot → t.seen ≡ shown_to next start o → SaysTo v w t
says v w t next start None heard at stamp is = says_apart (ap (λ (s : BroadcastState). s.in_step) is)
says v w t next start (Some k) heard at stamp is = says_there next (number_of k.start) k heard (at k refl) stamp is

pub says_before : (v : CasterView) (w : MemberView) (t : Told) (x y : PairEnds) (next start : ℕ) → w.at ≡ option_map heard_contact (contact_between x) → ((k : Contact) → w.heard ≡ Some k → (c : ℕ) × (w.at ≡ Some c))
    → t.contact ≡ heard_contact (told_numbers x y) → t.stamp ≡ v.numbered v.casting.boot → t.seen ≡ shown_to next start w.heard → SaysTo v w t
says_before v w t x y next start at kept contact stamp is = says v w t next start w.heard refl (λ k heard. (
    let c = kept k heard in
    let there = in_it x heard_contact c.0 (sym at ∙ c.1) in
    at ∙ ap (option_map heard_contact) (between_some x there) ∙ ap (λ n. Some (heard_contact n)) (sym (told_before x y there)) ∙ ap Some (sym contact))) stamp is

pub says_after : (v : CasterView) (w' : MemberView) (t : Told) (x y : PairEnds) (story : Story) (next start : ℕ) → Means x y story → in_contact y ≡ true → w'.at ≡ option_map heard_contact (contact_between y)
    → t.contact ≡ heard_contact (told_numbers x y) → t.stamp ≡ v.numbered v.casting.boot → t.seen ≡ shown_to next start w'.heard → SaysTo v w' t
says_after v w' t x y story next start means there at contact stamp is = says v w' t next start w'.heard refl (λ k heard.
    at ∙ ap (option_map heard_contact) (between_some y there) ∙ ap (λ n. Some (heard_contact n)) (sym (told_after x y story means there)) ∙ ap Some (sym contact)) stamp is

-- ---- the caster

-- The next number that was told, in a turn before or after which the caster stands so: how many had a number when it was told, and when all was done.
pub record TellsNext (v : CasterView) (t : Told) : Type 0 where
  pub numbered : ℕ
  pub next : t.seen.next ≡ number_of (numbered + 1)
  pub by_then : numbered ≤ t.stamp
  pub stamped : t.stamp ≤ numbered + queue
  pub near : t.stamp ≤ v.casting.sending.numbered + queue

pub tells_before : (v : CasterView) (m : ℕ) (t : Told) (x y : PairEnds) → v.joined m ≡ option_map cast_contact (contact_between x) → in_contact x ≡ true → t.contact ≡ cast_contact (told_numbers x y) → t.seen.start ≡ (shown v.casting m).start → TellsNext v t
    → TellsTo v m t
tells_before v m t x y joined there contact start told = record {
  contact = joined ∙ ap (option_map cast_contact) (between_some x there) ∙ ap (λ n. Some (cast_contact n)) (sym (told_before x y there)) ∙ ap Some (sym contact);
  start = start;
  numbered = told.numbered;
  next = told.next;
  by_then = told.by_then;
  stamped = told.stamped;
  near = told.near;
}

pub tells_after : (v' : CasterView) (m : ℕ) (t : Told) (x y : PairEnds) (story : Story) → Means x y story → v'.joined m ≡ option_map cast_contact (contact_between y) → in_contact y ≡ true → t.contact ≡ cast_contact (told_numbers x y)
    → t.seen.start ≡ (shown v'.casting m).start → TellsNext v' t → TellsTo v' m t
tells_after v' m t x y story means joined there contact start told = record {
  contact = joined ∙ ap (option_map cast_contact) (between_some y there) ∙ ap (λ n. Some (cast_contact n)) (sym (told_after x y story means there)) ∙ ap Some (sym contact);
  start = start;
  numbered = told.numbered;
  next = told.next;
  by_then = told.by_then;
  stamped = told.stamped;
  near = told.near;
}
