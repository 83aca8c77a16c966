-- An acknowledgement at the broadcast link is one in the law, or tells nothing new.
use Rattle.std.proofs.Common.{◌≡◌, ℕ, ◌==◌, true, false, cond, if◌then◌else◌, List, [], ◌∷◌, Some, None, refl, sym, ap, ◌∙◌, subst, inl, inr, eqb-true, arith}
use Rattle.std.specs.List.{find}
use Rattle.std.specs.Prelude.{All}
use Rattle.std.proofs.lemmas.Bool.{cases_lt}
use Rattle.std.proofs.lemmas.List.Elements.{All-cons, All-head, All-tail}
use Rattle.std.proofs.lemmas.Option.{same_Some}
use Rattle.tipc_types.specs.Position.{number_of}
use Rattle.tipc_types.specs.declared.identity.Addr.{Addr}
use Rattle.tipc_broadcast.specs.declared.contacts.Contact.{Contact}
use Rattle.tipc_broadcast.specs.Contacts.{acknowledged_to, acknowledging, contact_with, is_with, with_changed}
use Rattle.tipc_broadcast.specs.Casting.{Casting, credited, with_contacts}
use Rattle.tipc_broadcast_law.specs.Groups.{Group, Member, put}
use Rattle.tipc_broadcast_law.specs.Events.{acknowledged, acknowledges, Changes, changes, go_on, none}
use Rattle.tipc_broadcast_law.proofs.Places.{put_other, put_same, same_or_not}
use Rattle.tipc_broadcast_law.specs.Steps.{Casts, credited_member, IsSeen, Leads, line_of, Shows}
use Rattle.tipc_broadcast_law.proofs.calls.Calls.{other-test, with_members}
use Rattle.tipc_broadcast_law.proofs.calls.Numbering.{tells_place}

-- the contact that a change was made to, where the change keeps the peer
pub changed-here : (change : Contact → Contact) → ((d : Contact) → (change d).peer ≡ d.peer) → (peer : ℕ) (cs : List Contact) (c : Contact) → contact_with peer cs ≡ Some c → contact_with peer (with_changed peer change cs) ≡ Some (change c)
changed-here change keeps peer [] c = λ e. let clash : None ≡ Some c = e in cc
changed-here change keeps peer (d ∷ cs) c =
    elim (is_with peer d) as (λ b. is_with peer d ≡ b → cond b (Some d) (find (is_with peer) cs) ≡ Some c → find (is_with peer) (if b then change d ∷ cs else d ∷ with_changed peer change cs) ≡ Some (change c)) [
      | true ↦ λ t e.
          let still : is_with peer (change d) ≡ true = ap (λ (a : Addr). a.word == peer) (keeps d) ∙ t in
          ap (λ b. cond b (Some (change d)) (find (is_with peer) cs)) still ∙ ap (λ x. Some (change x)) (same_Some d c e)
      | false ↦ λ t e. ap (λ b. cond b (Some d) (find (is_with peer) (with_changed peer change cs))) t ∙ changed-here change keeps peer cs c e
    ] refl

pub changed-there : (change : Contact → Contact) → ((d : Contact) → (change d).peer ≡ d.peer) → (peer m : ℕ) (cs : List Contact) → (m ≡ peer → ⊥) → contact_with m (with_changed peer change cs) ≡ contact_with m cs
changed-there change keeps peer m [] never = refl
changed-there change keeps peer m (d ∷ cs) never =
    elim (is_with peer d) as (λ b. is_with peer d ≡ b → find (is_with m) (if b then change d ∷ cs else d ∷ with_changed peer change cs) ≡ find (is_with m) (d ∷ cs)) [
      | true ↦ λ t.
          let other : (d.peer.word == m) ≡ false = ap (λ a. a == m) (eqb-true d.peer.word peer t) ∙ other-test peer m never in
          let still : is_with m (change d) ≡ false = ap (λ (a : Addr). a.word == m) (keeps d) ∙ other in
          ap (λ b. cond b (Some (change d)) (find (is_with m) cs)) still ∙ sym (ap (λ b. cond b (Some d) (find (is_with m) cs)) other)
      | false ↦ λ t. ap (λ rest. cond (is_with m d) (Some d) rest) (changed-there change keeps peer m cs never)
    ] refl

pub changed-all : (P : Contact → Type 0) (change : Contact → Contact) → ((d : Contact) → P d → P (change d)) → (peer : ℕ) (cs : List Contact) → All P cs → All P (with_changed peer change cs)
changed-all P change keeps peer [] all = all
changed-all P change keeps peer (d ∷ cs) all =
    elim (is_with peer d) as (λ b. All P (if b then change d ∷ cs else d ∷ with_changed peer change cs)) [
      | true ↦ All-cons P (change d) cs (keeps d (All-head P d cs all)) (All-tail P d cs all)
      | false ↦ All-cons P d (with_changed peer change cs) (All-head P d cs all) (changed-all P change keeps peer cs (All-tail P d cs all))
    ]

-- A change of the contact with a peer: the group stands as the link does where the member stands as the changed contact.
pub stands_with : (g : Group) (v : Casting) (peer : ℕ) (change : Contact → Contact) → ((d : Contact) → (change d).peer ≡ d.peer) → (c : Contact) (l : Member) → Casts g v → contact_with peer v.contacts ≡ Some c → IsSeen l (Some (change c))
    → Casts (record { caster = g.caster; members = put peer l g.members }) (with_contacts v (with_changed peer change v.contacts))
stands_with g v peer change keeps c l h there seen = record {
  numbered = h.numbered;
  accepted_all = h.accepted_all;
  members = λ m. elim (same_or_not m peer) [
    | inl is ↦
        subst (λ n. IsSeen (put peer l g.members n) (contact_with n (with_changed peer change v.contacts))) (sym is)
        (subst (λ o. IsSeen (put peer l g.members peer) o) (sym (changed-here change keeps peer v.contacts c there)) (subst (λ n. IsSeen n (Some (change c))) (sym (put_same peer l g.members)) seen))
    | inr never ↦
        subst (λ n. IsSeen n (contact_with m (with_changed peer change v.contacts))) (sym (put_other peer l g.members m never))
        (subst (λ o. IsSeen (g.members m) o) (sym (changed-there change keeps peer m v.contacts never)) (h.members m))
  ];
}

-- A change that the law doesn't see: the group stands as the link does.
pub stands_still : (g : Group) (v : Casting) (peer : ℕ) (change : Contact → Contact) → ((d : Contact) → (change d).peer ≡ d.peer) → (c : Contact) → Casts g v → contact_with peer v.contacts ≡ Some c → IsSeen (g.members peer) (Some (change c))
    → Casts g (with_contacts v (with_changed peer change v.contacts))
stands_still g v peer change keeps c h there seen = record {
  numbered = h.numbered;
  accepted_all = h.accepted_all;
  members = λ m. elim (same_or_not m peer) [
    | inl is ↦
        subst (λ i. IsSeen (g.members i) (contact_with i (with_changed peer change v.contacts))) (sym is)
        (subst (λ o. IsSeen (g.members peer) o) (sym (changed-here change keeps peer v.contacts c there)) seen)
    | inr never ↦ subst (λ o. IsSeen (g.members m) o) (sym (changed-there change keeps peer m v.contacts never)) (h.members m)
  ];
}

credited_runs : (g : Group) (v : Casting) (peer number : ℕ) → Casts g v → (shows : Shows g v peer number)
    → Leads g (line_of g) (put peer (acknowledged (g.members peer) (acknowledged_to v.sending.numbered shows.contact.acked (number_of shows.place))) g.members) (credited v peer (number_of shows.place))
credited_runs g v peer number h shows =
    let k = g.members peer in
    let c = shows.contact in
    let n = v.sending.numbered in
    let place = shows.place in
    let change = acknowledging n (number_of place) in
    let keeps : (d : Contact) → (change d).peer ≡ d.peer = λ d. refl in
    let seen : IsSeen k (Some c) = subst (IsSeen k) shows.there (h.members peer) in
    let told = tells_place n c.acked place shows.in_window shows.is_numbered shows.recent in
    let to = acknowledged_to n c.acked (number_of place) in
    elim (cases_lt k.acked place) [
      | inl more ↦
          let later : to ≡ place = told.later (omega (arith, more, seen.4)) in
          let l = acknowledged k to in
          record {
            after = record { caster = g.caster; members = put peer l g.members };
            runs = go_on (changes peer l (subst (λ p. Changes g.caster peer k (acknowledged k p)) (sym later) (acknowledges shows.joined shows.wants more shows.had))) none;
            stands = stands_with g v peer change keeps c l h shows.there (seen.0, seen.1, seen.2, seen.3, refl);
            becomes = with_members g (put peer l g.members);
          }
      | inr before ↦
          let earlier : to ≡ c.acked = told.earlier (omega (arith, before, seen.4)) in
          let same : k.acked ≡ to = seen.4 ∙ sym earlier in
          record {
            after = g;
            runs = none;
            stands = stands_still g v peer change keeps c h shows.there (seen.0, seen.1, seen.2, seen.3, same);
            becomes = record {
              boot = refl;
              line_now = refl;
              lines = λ f other. refl;
              numbered = λ f other. refl;
              each = λ m. elim (same_or_not m peer) [
                | inl is ↦ subst (λ i. g.members i ≡ put peer (acknowledged k to) g.members i) (sym is) (ap (acknowledged k) same ∙ sym (put_same peer (acknowledged k to) g.members))
                | inr never ↦ sym (put_other peer (acknowledged k to) g.members m never)
              ];
            };
          }
    ]

pub acknowledgement_runs : (g : Group) (v : Casting) (peer number : ℕ) → Casts g v → (shows : Shows g v peer number)
    → Leads g (line_of g) (put peer (credited_member shows) g.members) (credited v peer number)
acknowledgement_runs g v peer number h shows =
    subst (λ n. Leads g (line_of g) (put peer (acknowledged (g.members peer) (acknowledged_to v.sending.numbered shows.contact.acked n)) g.members) (credited v peer n)) (sym shows.number_is) (credited_runs g v peer number h shows)
