-- What is true of members, frames and STATEs stays so while other things happen.
use Rattle.std.proofs.Common.{◌≡◌, ℕ, ◌+◌, ◌-◌, ◌≤◌, List, Option, Some, None, refl, sym, ◌∙◌, subst, inl, inr, arith}
use Rattle.std.specs.Prelude.{slice_get}
use Rattle.std.proofs.lemmas.List.Elements.{All-weaker}
use Rattle.tipc_recv_window.specs.Receiving.{Receiving}
use Rattle.tipc_broadcast.specs.declared.contacts.Contact.{Contact}
use Rattle.tipc_broadcast_law.specs.Groups.{Accepted, Caster, Group, mark, mark_in, Member, put}
use Rattle.tipc_broadcast_law.specs.Law.{IsGroup}
use Rattle.tipc_broadcast_law.specs.Lines.{IsCastFrame}
use Rattle.tipc_broadcast_law.specs.Listening.{HadCome, IsAt, IsListening, WasShownIn, IsWindow}
use Rattle.tipc_broadcast_law.specs.Steps.{ToldPlace}
use Rattle.tipc_broadcast_law.proofs.Listening.{mark-is, packets_one}
use Rattle.tipc_broadcast_law.proofs.Places.{put_other, put_same, same_or_not}
use Rattle.tipc_casters.specs.Later.{IsLater, IsLaterCaster, IsLaterMember}
use Rattle.tipc_casters.specs.Sights.{Aired, IsAired, IsMember, IsToldBy, IsToldTo, MemberSight, Told}

-- ---- packets at their places

entry_of : (line : List Accepted) (m c x : ℕ) → mark line m x ≡ Some c → (e : Accepted) × (slice_get line x ≡ Some e)
unfolding mark
entry_of line m c x = elim (slice_get line x) as (λ o. mark_in m o ≡ Some c → (e : Accepted) × (o ≡ Some e)) [
  | None ↦ λ is. absurd (let no : ⊥ = cc in no)
  | Some e ↦ λ is. (e, refl)
]

is_at_later : (a b : Caster) (m c f x : ℕ) (packet : List ℕ) → IsLaterCaster a b → f ≤ a.boot → IsAt a m c f x packet → IsAt b m c f x packet
is_at_later a b m c f x packet later within h =
    let found = entry_of (a.line f) m c x h.own in
    let e = found.0 in
    let there : slice_get (b.line f) x ≡ Some e = later.line f x e within found.1 in
    let more = later.numbered f within in
    let low = h.numbered in
    record {
      numbered = omega arith;
      own = mark-is (b.line f) m x e there ∙ sym (mark-is (a.line f) m x e found.1) ∙ h.own;
      packet_is = packets_one (b.line f) x e there ∙ sym (packets_one (a.line f) x e found.1) ∙ h.packet_is;
    }

-- ---- a member that nothing happened to, but at the caster

-- the member's own side is the same
pub record SameMember (k l : Member) : Type 0 where
  pub boots : (c : ℕ) → l.boots c ≡ k.boots c
  pub at : l.at ≡ k.at
  pub last : l.last ≡ k.last
  pub want : (c : ℕ) → l.want c ≡ k.want c
  pub out : (c : ℕ) → l.out c ≡ k.out c

pub same_side : (k : Member) → SameMember k k
same_side k = record { boots = λ c. refl; at = refl; last = refl; want = λ c. refl; out = λ c. refl }

pub same_put : (members : ℕ → Member) (m : ℕ) (l : Member) → SameMember (members m) l → (i : ℕ) → SameMember (members i) (put m l members i)
same_put members m l same i = elim (same_or_not i m) [
  | inl is ↦ subst (λ j. SameMember (members j) (put m l members j)) (sym is) (subst (SameMember (members m)) (sym (put_same m l members)) same)
  | inr never ↦ subst (SameMember (members i)) (sym (put_other m l members i never)) (same_side (members i))
]

window_later : (g h : Group) (m c : ℕ) (o : Option Receiving) → IsLaterCaster g.caster h.caster → SameMember (g.members m) (h.members m) → (g.members m).boots c ≤ g.caster.boot → IsWindow g m c o → IsWindow h m c o
window_later g h m c None later same within is = same.want c ∙ is
window_later g h m c (Some r) later same within is =
    let f = (g.members m).boots c in
    (is.0, same.want c ∙ is.1, is.2, λ d t there. subst (λ b. IsAt h.caster m c b (is.0 + d) t.packet) (sym (same.boots c)) (is_at_later g.caster h.caster m c f (is.0 + d) t.packet later within (is.3 d t there)))

shown_later : (g h : Group) (m c shown : ℕ) (o : Option Receiving) → IsLaterCaster g.caster h.caster → SameMember (g.members m) (h.members m) → (g.members m).boots c ≤ g.caster.boot → WasShownIn g m c shown o → WasShownIn h m c shown o
shown_later g h m c shown None later same within is = tt
shown_later g h m c shown (Some r) later same within is = λ w want.
    let low = is w (sym (same.want c) ∙ want) in
    let more = later.numbered ((g.members m).boots c) within in
    let here : shown ≤ r.wanted + (h.caster.numbered ((g.members m).boots c) - w) = omega (arith, low, more) in
    subst (λ b. shown ≤ r.wanted + (h.caster.numbered b - w)) (sym (same.boots c)) here

pub listening_later : (g h : Group) (m : ℕ) (o : Option Contact) → IsLaterCaster g.caster h.caster → SameMember (g.members m) (h.members m) → ((c : ℕ) → (g.members m).at ≡ Some c → (g.members m).boots c ≤ g.caster.boot) → IsListening g m o → IsListening h m o
listening_later g h m None later same within is = same.at ∙ is
listening_later g h m (Some k) later same within is =
    (is.0, same.at ∙ is.1, is.2 ∙ sym (same.boots is.0), window_later g h m is.0 k.window later same (within is.0 is.1) is.3, shown_later g h m is.0 k.shown k.window later same (within is.0 is.1) is.4)

-- ---- what is in the air

pub aired_later : (g h : Group) (own : ℕ) (f : Aired) → IsLaterCaster g.caster h.caster → IsAired g own f → IsAired h own f
aired_later g h own f later is =
    let c : IsCastFrame g.caster own f.stamp f.frame = is in
    let at = c.cast in
    let more = later.numbered c.boot c.in_boot in
    let low = at.numbered in
    let rises = later.boot in
    let within = c.in_boot in
    record {
      to_all = c.to_all;
      boot = c.boot;
      in_boot = omega arith;
      place = c.place;
      set = c.set;
      set_fits = c.set_fits;
      packet = c.packet;
      bytes = c.bytes;
      cast = record { entry = at.entry; there = later.line c.boot c.place at.entry within at.there; packet_is = at.packet_is; numbered = omega arith; members = at.members; stamped = at.stamped };
    }

told_place_later : (g h : Group) (m c place stamp : ℕ) → IsLaterMember (g.members m) (h.members m) → ToldPlace g m c place stamp → ToldPlace h m c place stamp
told_place_later g h m c place stamp later t =
    let more = later.want c t.wanted t.wants in
    let had = t.had in
    let rises = more.2 in
    record {
      start = t.start;
      begun = later.begun c t.start t.begun;
      from_start = t.from_start;
      wanted = more.0;
      wants = more.1;
      had = omega arith;
      in_window = λ joined. t.in_window (later.joined c t.start t.begun joined);
    }

pub told_by_later : (g h : Group) (m : ℕ) (t : Told) → IsLaterMember (g.members m) (h.members m) → IsToldBy g m t → IsToldBy h m t
told_by_later g h m t later is = λ step. let told = is step in (told.0, told.1, told_place_later g h m t.contact told.0 t.stamp later told.2)

had_come_later : (k l : Member) (c place : ℕ) → IsLaterMember k l → HadCome k c place → HadCome l c place
had_come_later k l c place later (inl start) = inl (later.begun c place start)
had_come_later k l c place later (inr come) = inr (let more = later.want c come.0 come.1 in let had = come.2 in let rises = more.2 in (more.0, more.1, omega (arith, had, rises)))

pub told_to_later : (g h : Group) (m : ℕ) (t : Told) → IsLaterMember (g.members m) (h.members m) → IsToldTo g m t → IsToldTo h m t
told_to_later g h m t later is =
    let n = is.3 in
    let c = t.contact in (
      is.0,
      later.begun c is.0 is.1,
      is.2,
      record {
        numbered = n.numbered;
        next_is = n.next_is;
        by_then = n.by_then;
        stamped = n.stamped;
        place = n.place;
        had_come = had_come_later (g.members m) (h.members m) c n.place later n.had_come;
        near = n.near;
      },
    )

-- ---- a member while other things happen

pub member_later : (g h : Group) (m : ℕ) (s : MemberSight) → IsGroup g → IsLater g h → SameMember (g.members m) (h.members m) → IsMember g m s → IsMember h m s
member_later g h m s law later same is = record {
  boots = λ c. same.boots c ∙ is.boots c;
  at = same.at ∙ is.at;
  last = same.last ∙ is.last;
  listens = listening_later g h m s.heard later.caster same (λ c at. (law.each m).at_boot c at) is.listens;
  free = is.free;
  given = λ c. same.out c ∙ is.given c;
  told = All-weaker (IsToldBy g m) (IsToldBy h m) (λ t. told_by_later g h m t (later.members m)) s.told is.told;
  hears = All-weaker (IsToldTo g m) (IsToldTo h m) (λ t. told_to_later g h m t (later.members m)) s.hears is.hears;
}
