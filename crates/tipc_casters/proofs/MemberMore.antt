-- More that may happen at a member: it tells a STATE out of step, its broadcast link keeps other things of the caster, and a broadcast frame is read.
use Rattle.std.proofs.Common.{◌≡◌, ◌⊎◌, ◌%◌, ◌<◌, ◌^◌, ℕ, true, false, List, [], ◌++◌, Option, Some, None, refl, sym, ap, subst, ◌∙◌, inl, inr, arith}
use Rattle.std.specs.Prelude.{All, IfSome}
use Rattle.std.proofs.lemmas.List.Elements.{All-append, All-weaker}
use Rattle.tipc_header.specs.Frames.{frame_of}
use Rattle.tipc_header.specs.Grammar.{Fits}
use Rattle.tipc_header.specs.Spelling.{Fields, spelling}
use Rattle.tipc_recv_window.specs.Receiving.{Receiving}
use Rattle.tipc_broadcast.specs.declared.contacts.Contact.{Contact}
use Rattle.tipc_broadcast.specs.Contacts.{carried, IsFree}
use Rattle.tipc_broadcast_law.specs.Groups.{Group, Member}
use Rattle.tipc_broadcast_law.specs.Listening.{IsListening, WasShownIn, IsWindow}
use Rattle.tipc_broadcast_law.proofs.Places.{put_other, put_same, same_or_not}
use Rattle.tipc_casters.specs.Sights.{Aired, CasterSight, IsCast, IsMember, IsToldBy, IsToldTo, MemberSight, ReadsAs, Told}
use Rattle.tipc_casters.specs.Turns.{IsToldToMember, listens_as, with_member}
use Rattle.tipc_casters.proofs.MemberTurns.{seen_anew, told_of}
use Rattle.tipc_casters.proofs.Reading.{frames_are_read}

-- the same members, one by one
pub same_members : (a : CasterSight) (ms ns : ℕ → MemberSight) → ((m : ℕ) → ms m ≡ ns m) → IsCast a ms → IsCast a ns
same_members a ms ns same h = record { group = h.group; law = h.law; caster = h.caster; members = λ m. subst (IsMember h.group m) (same m) (h.members m) }

-- one that is put twice is the last
put_twice : (ms : ℕ → MemberSight) (m : ℕ) (s t : MemberSight) (i : ℕ) → with_member (with_member ms m s) m t i ≡ with_member ms m t i
put_twice ms m s t i = elim (same_or_not i m) [
  | inl is ↦ subst (λ j. with_member (with_member ms m s) m t j ≡ with_member ms m t j) (sym is) (put_same m t (with_member ms m s) ∙ sym (put_same m t ms))
  | inr never ↦ put_other m t (with_member ms m s) i never ∙ put_other m s ms i never ∙ sym (put_other m t ms i never)
]

-- a STATE that doesn't say that the member is in step tells nothing
pub tells_nothing : (g : Group) (m : ℕ) (t : Told) → t.seen.in_step ≡ false → IsToldBy g m t
tells_nothing g m t apart step = absurd (let both : true ≡ false = sym step ∙ apart in let wrong : ⊥ = cc in wrong)

-- what was shown is the same, or there is no window, of which it would tell
abbrev pub ShowsAs : Contact → Contact → Type 0
ShowsAs k l = (l.shown ≡ k.shown) ⊎ (l.window ≡ None)

shown_on : (g : Group) (m c : ℕ) (k l : Contact) → l.window ≡ k.window → ShowsAs k l → WasShownIn g m c k.shown k.window → WasShownIn g m c l.shown l.window
shown_on g m c k l window (inl shows) is = subst (λ n. WasShownIn g m c n l.window) (sym shows) (subst (λ (o : Option Receiving). WasShownIn g m c k.shown o) (sym window) is)
shown_on g m c k l window (inr none) is = subst (λ (o : Option Receiving). WasShownIn g m c l.shown o) (sym none) tt

-- the law sees only the boot, the window and what was shown of what is kept of the caster
listens_on : (g : Group) (m : ℕ) (k l : Contact) → l.boot ≡ k.boot → l.window ≡ k.window → ShowsAs k l → IsListening g m (Some k) → IsListening g m (Some l)
listens_on g m k l boot window shows is = (is.0, is.1, boot ∙ is.2, subst (λ (o : Option Receiving). IsWindow g m is.0 o) (sym window) is.3, shown_on g m is.0 k l window shows is.4)

pub member_keeps : (a : CasterSight) (ms : ℕ → MemberSight) (m : ℕ) (k l : Contact) → IsCast a ms → (ms m).heard ≡ Some k → l.boot ≡ k.boot → l.window ≡ k.window → ShowsAs k l → IsCast a (with_member ms m (listens_as (ms m) l))
member_keeps a ms m k l h here boot window shows =
    let is = h.members m in
    seen_anew a ms m (listens_as (ms m) l) h (record {
      boots = is.boots;
      at = is.at;
      last = is.last;
      listens = listens_on h.group m k l boot window shows (subst (IsListening h.group m) here is.listens);
      free = subst (λ (o : Option Receiving). IsFree o) (sym window) (subst (λ o. IfSome o (λ d. IsFree d.window)) here is.free);
      given = is.given;
      told = is.told;
      hears = is.hears;
    })

-- what is kept of the caster after something else happened to the member
pub keeps_then : (a : CasterSight) (ms : ℕ → MemberSight) (m : ℕ) (s : MemberSight) (k l : Contact) → IsCast a (with_member ms m s) → s.heard ≡ Some k → l.boot ≡ k.boot → l.window ≡ k.window → ShowsAs k l → IsCast a (with_member ms m (listens_as s l))
keeps_then a ms m s k l h here boot window shows =
    let ns = with_member ms m s in
    let at : ns m ≡ s = put_same m s ms in
    same_members a (with_member ns m (listens_as s l)) (with_member ms m (listens_as s l)) (put_twice ms m s (listens_as s l))
    (subst (λ (x : MemberSight). IsCast a (with_member ns m (listens_as x l))) at (member_keeps a ns m k l h (ap (λ (x : MemberSight). x.heard) at ∙ here) boot window shows))

-- the caster tells members
pub caster_tells_all : (a : CasterSight) (ms : ℕ → MemberSight) (more : ℕ → List Told) → IsCast a ms → ((m : ℕ) → All (IsToldToMember a m) (more m))
    → IsCast a (λ m. record (ms m) { hears = (ms m).hears ++ more m })
caster_tells_all a ms more h all = record {
  group = h.group;
  law = h.law;
  caster = h.caster;
  members = λ m.
      let is = h.members m in
      record {
        boots = is.boots;
        at = is.at;
        last = is.last;
        listens = is.listens;
        free = is.free;
        given = is.given;
        told = is.told;
        hears = All-append (IsToldTo h.group m) (ms m).hears (more m) is.hears
            (All-weaker (IsToldToMember a m) (IsToldTo h.group m) (λ t tells. told_of a ms m t h tells) (more m) (all m));
      };
}

-- a set in an envelope of the caster has 32 bits
pub reads_as : (a : CasterSight) (ms : ℕ → MemberSight) (h : IsCast a ms) (f : Aired) (boot set by : ℕ) (p : Fields) → boot < 2 ^ 64 → set < 2 ^ 64 → Fits p → f.frame.frame ≡ frame_of boot set (spelling p)
    → ReadsAs h.group a.casting.own f boot (set % 2 ^ 32) (carried p by)
reads_as a ms h f boot set by p boot_fits set_fits fits bytes c =
    let read = frames_are_read a ms h f boot set by p boot_fits set_fits fits bytes c in
    let same = read.1 in
    let low = c.set_fits in
    (read.0, omega (arith, same, low), read.2, read.3)

-- in a contact above the last one that it entered, a member was given nothing
pub nothing_given : (a : CasterSight) (ms : ℕ → MemberSight) (m c : ℕ) → IsCast a ms → (ms m).last < c → (ms m).given c ≡ []
nothing_given a ms m c h above = sym ((h.members m).given c) ∙ (h.law.each m).took_none c (unwanted (k.want c) refl)
  where
    k : Member
    k = h.group.members m

    unwanted : (o : Option ℕ) → k.want c ≡ o → k.want c ≡ None
    unwanted None is = is
    unwanted (Some w) is = (
        let within = (h.law.each m).want_last c w is in
        let last = (h.members m).last in
        absurd (omega (arith, within, last, above)))
