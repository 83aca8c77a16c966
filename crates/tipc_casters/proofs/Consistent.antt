-- What the broadcast link of a member keeps of the caster, and the contact in which the member is, go together.
use Rattle.std.proofs.Common.{◌≡◌, ℕ, Option, Some, None, refl, sym, subst, ◌∙◌}
use Rattle.tipc_broadcast.specs.declared.contacts.Contact.{Contact}
use Rattle.tipc_broadcast_law.specs.Listening.{IsListening}
use Rattle.tipc_casters.specs.Sights.{boot_in}
use Rattle.tipc_casters.specs.Views.{AreCastSeen, CasterView, IsOther, MemberView}

-- the member is in a contact, of whose boot this is kept
pub record KeptIn (w : MemberView) (k : Contact) : Type 0 where
  pub contact : ℕ
  pub at : w.at ≡ Some contact
  pub boot : k.boot ≡ boot_in contact

pub kept_in : (v : CasterView) (ws : ℕ → MemberView) (m : ℕ) (k : Contact) → AreCastSeen v ws → IsOther v m → (ws m).heard ≡ Some k → KeptIn (ws m) k
kept_in v ws m k h other heard =
    let is = h.cast.members m in
    let seen = h.members m other in
    let l = subst (IsListening h.cast.group m) (seen.heard ∙ heard) is.listens in
    record { contact = l.0; at = sym seen.at ∙ sym is.at ∙ l.1; boot = l.2 ∙ is.boots l.0 }

pub unheard_out : (v : CasterView) (ws : ℕ → MemberView) (m : ℕ) → AreCastSeen v ws → IsOther v m → (ws m).heard ≡ None → (ws m).at ≡ None
unheard_out v ws m h other none =
    let is = h.cast.members m in
    let seen = h.members m other in
    let l = subst (IsListening h.cast.group m) (seen.heard ∙ none) is.listens in
    sym seen.at ∙ sym is.at ∙ l

-- where the member is in a contact, something is kept; where it is in none, nothing is
pub in_kept : (v : CasterView) (ws : ℕ → MemberView) (m c : ℕ) → AreCastSeen v ws → IsOther v m → (ws m).at ≡ Some c → (k : Contact) × ((ws m).heard ≡ Some k)
in_kept v ws m c h other at = by (ws m).heard refl
  where
    by : (o : Option Contact) → (ws m).heard ≡ o → (k : Contact) × ((ws m).heard ≡ Some k)
    by (Some k) is = (k, is)
    by None none = absurd (let wrong : None ≡ Some c = sym (unheard_out v ws m h other none) ∙ at in let no : ⊥ = cc in no)

pub out_unheard : (v : CasterView) (ws : ℕ → MemberView) (m : ℕ) → AreCastSeen v ws → IsOther v m → (ws m).at ≡ None → (ws m).heard ≡ None
out_unheard v ws m h other out = by (ws m).heard refl
  where
    by : (o : Option Contact) → (ws m).heard ≡ o → (ws m).heard ≡ None
    by None none = none
    by (Some k) is = (let l = kept_in v ws m k h other is in absurd (let wrong : None ≡ Some l.contact = sym out ∙ l.at in let no : ⊥ = cc in no))
