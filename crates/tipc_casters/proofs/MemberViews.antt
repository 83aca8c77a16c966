-- What happens at a member, as a world tells of it, leaves it and its caster cast.
use Rattle.std.proofs.Common.{◌≡◌, ◌%◌, ◌<◌, ◌≤◌, ◌^◌, ◌+◌, ◌==◌, ℕ, true, false, if◌then◌else◌, List, [], ◌∷◌, ◌++◌, map, Some, None, refl, sym, ap, subst, ◌∙◌, inl, inr, append_assoc, append-nil, arith}
use Rattle.std.specs.Prelude.{◌⊎◌, All}
use Rattle.std.specs.List.{Contains}
use Rattle.std.proofs.lemmas.Bool.Decides.{nat_tests}
use Rattle.std.proofs.lemmas.Grind.{flat_map-append}
use Rattle.std.proofs.lemmas.List.{map-append}
use Rattle.std.proofs.lemmas.List.Elements.{All-append, All-contains, All-contains_itself, All-weaker, Contains-append_left, Contains-append_right, Contains-push}
use Rattle.std.proofs.lemmas.Option.{same_Some}
use Rattle.tipc_types.specs.declared.packet_lists.Taken.{Taken}
use Rattle.tipc_fragments.specs.Joining.{fresh, Joining}
use Rattle.tipc_reassembly.specs.declared.opening.Opened.{Opened}
use Rattle.tipc_reassembly.specs.Opening.{BringsAll, go_on, none}
use Rattle.tipc_reassembly.specs.Slots.{packets_in, whole_in}
use Rattle.tipc_recv_window.specs.declared.outcomes.LinkOutcome.{LinkOutcome}
use Rattle.tipc_recv_window.specs.declared.outcomes.LinkOutcome.TheVariants as outcome
use Rattle.tipc_broadcast.specs.declared.contacts.Contact.{Contact}
use Rattle.tipc_broadcast.specs.Contacts.{carried, heard, heard_outcome, joined as new_contact, told}
use Rattle.tipc_broadcast_law.specs.Groups.{put}
use Rattle.tipc_broadcast_law.specs.Listening.{given}
use Rattle.tipc_broadcast_law.proofs.Places.{put_other, put_same, same_or_not}
use Rattle.tipc_casters.specs.Messages.{ArePiecesOf}
use Rattle.tipc_casters.specs.Sights.{Aired, boot_in, CasterSight, contact_of, IsCast, IsToldBy, MemberSight, Told}
use Rattle.tipc_casters.specs.Turns.{enters, hears_packet, is_told, listens_as, quits, with_member}
use Rattle.tipc_casters.specs.ViewLaws.{EntersStaysCast, given_at, KeepsStaysCast, LearnsStaysCast, QuitsStaysCast, refused, SameCaster, SameStaysCast, SameView, says_apart, says_there, SaysStaysCast, SaysTo, packets_due, TakesStaysCast, with_view}
use Rattle.tipc_casters.specs.Views.{AreCastSeen, AreContactNumbers, CasterView, IsAmongSent, IsCasterSeen, IsGivenIn, IsJoinedOf, IsMemberSeen, IsOther, MemberView}
use Rattle.tipc_casters.proofs.MemberMore.{keeps_then, member_keeps, nothing_given, reads_as, tells_nothing}
use Rattle.tipc_casters.proofs.MemberTurns.{member_enters, member_hears, member_is_told, member_quits, says_more, tells_place}

-- ---- the same

among : (sent : List Aired) (told : List Aired) (f : Aired) → All (IsAmongSent sent) told → IsAmongSent told f → IsAmongSent sent f
among sent told f all is =
    let there = All-contains (IsAmongSent sent) told (record { frame = f.frame; stamp = is.0 }) all is.1 in
    let low = is.2 in
    let high = there.2 in
    (there.0, there.1, omega (arith, low, high))

contains_on : {A : Type 0} (xs ys : List A) (x : A) → All (Contains ys) xs → Contains xs x → Contains ys x
contains_on xs ys x all there = All-contains (Contains ys) xs x all there

other_on : (v v' : CasterView) (m : ℕ) → SameCaster v v' → IsOther v' m → IsOther v m
other_on v v' m same o = (o.0, λ is. o.1 (is ∙ ap (λ c. c.own) (sym same.casting)))

caster_on : (a : CasterSight) (v v' : CasterView) → SameCaster v v' → IsCasterSeen a v → IsCasterSeen a v'
caster_on a v v' same h = record {
  casting = h.casting ∙ sym same.casting;
  numbered = λ f. h.numbered f ∙ sym (same.numbered f);
  joined = λ m o. h.joined m (other_on v v' m same o) ∙ sym (same.joined m (other_on v v' m same o));
  begun = λ m c s o is. contains_on (v.entered m) (v'.entered m) c (same.entered m) (h.begun m c s (other_on v v' m same o) is);
  put = λ m own theirs o numbers. subst (λ ms. ArePiecesOf ms (a.put m (contact_of own theirs))) (sym (same.put m own theirs)) (h.put m own theirs (other_on v v' m same o) numbers);
  sent = All-weaker (IsAmongSent v.sent) (IsAmongSent a.sent) (λ f is. among a.sent v.sent f h.sent is) v'.sent same.sent;
}

last_on : (s : MemberSight) (xs ys : List ℕ) → All (Contains ys) xs → (s.last ≡ 0) ⊎ Contains xs s.last → (s.last ≡ 0) ⊎ Contains ys s.last
last_on s xs ys all (inl nil) = inl nil
last_on s xs ys all (inr there) = inr (contains_on xs ys s.last all there)

member_on : (s : MemberSight) (w w' : MemberView) → SameView w w' → IsMemberSeen s w → IsMemberSeen s w'
member_on s w w' same h = record {
  at = h.at ∙ sym same.at;
  last = last_on s w.entered w'.entered same.entered h.last;
  heard = h.heard ∙ sym same.heard;
  given = λ own theirs numbers. (
      let g = h.given own theirs numbers in
      record {
        last = g.last;
        joined = subst (λ ms. IsJoinedOf (s.given (contact_of own theirs)) ms g.last) (sym (same.given own theirs numbers)) g.joined;
        present = λ here. g.present (sym same.at ∙ here) ∙ sym same.begun;
      });
  told = All-weaker (Contains w.told) (Contains s.told) (λ t there. contains_on w.told s.told t h.told there) w'.told same.told;
  hears = All-weaker (Contains w.hears) (Contains s.hears) (λ t there. contains_on w.hears s.hears t h.hears there) w'.hears same.hears;
}

pub same_stays : SameStaysCast
same_stays v v' ws ws' h same each = record {
  caster_sight = h.caster_sight;
  member_sights = h.member_sights;
  cast = h.cast;
  caster = caster_on h.caster_sight v v' same h.caster;
  members = λ m o. member_on (h.member_sights m) (ws m) (ws' m) (each m (other_on v v' m same o)) (h.members m (other_on v v' m same o));
}

-- ---- one member

one_member : (v : CasterView) (ws : ℕ → MemberView) (m : ℕ) (s : MemberSight) (w : MemberView) (h : AreCastSeen v ws) → IsCast h.caster_sight (with_member h.member_sights m s) → IsMemberSeen s w → AreCastSeen v (with_view ws m w)
one_member v ws m s w h cast is =
    let ms = h.member_sights in
    record {
      caster_sight = h.caster_sight;
      member_sights = with_member ms m s;
      cast = cast;
      caster = h.caster;
      members = λ j o. elim (same_or_not j m) [
        | inl at ↦ subst (λ i. IsMemberSeen (with_member ms m s i) (with_view ws m w i)) (sym at) (subst (λ x. IsMemberSeen x (with_view ws m w m)) (sym (put_same m s ms)) (subst (λ x. IsMemberSeen s x) (sym (put_same m w ws)) is))
        | inr never ↦ subst (λ x. IsMemberSeen x (with_view ws m w j)) (sym (put_other m s ms j never)) (subst (λ x. IsMemberSeen (ms j) x) (sym (put_other m w ws j never)) (h.members j o))
      ];
    }

-- the count in the present boot is the caster's
count_now : (a : CasterSight) (v : CasterView) → IsCasterSeen a v → a.numbered a.casting.boot ≡ v.numbered v.casting.boot
count_now a v h = ap (λ c. a.numbered c.boot) h.casting ∙ h.numbered v.casting.boot

-- ---- it tells the caster

by_saying : (v : CasterView) (ws : ℕ → MemberView) (m : ℕ) (t : Told) (h : AreCastSeen v ws) → IsMemberSeen (h.member_sights m) (ws m) → SaysTo v (ws m) t → IsToldBy h.cast.group m t
by_saying v ws m t h is (says_there next start k heard at stamp shows) =
    tells_place h.caster_sight h.member_sights m next start k t h.cast (is.heard ∙ heard) (is.at ∙ at) (stamp ∙ sym (count_now h.caster_sight v h.caster)) shows
by_saying v ws m t h is (says_apart out) = tells_nothing h.cast.group m t out

pub says_stays : SaysStaysCast
says_stays v ws m more h other says =
    let s = h.member_sights m in
    let is = h.members m other in
    let all = All-weaker (SaysTo v (ws m)) (IsToldBy h.cast.group m) (λ t one. by_saying v ws m t h is one) more says in
    one_member v ws m (record s { told = s.told ++ more }) (record (ws m) { told = (ws m).told ++ more }) h (says_more h.caster_sight h.member_sights m more h.cast all) (record {
      at = is.at;
      last = is.last;
      heard = is.heard;
      given = λ own theirs numbers. (let g = is.given own theirs numbers in record { last = g.last; joined = g.joined; present = g.present });
      told = All-append (Contains (s.told ++ more)) (ws m).told more
          (All-weaker (Contains s.told) (Contains (s.told ++ more)) (λ t there. Contains-append_left s.told more t there) (ws m).told is.told)
          (All-weaker (Contains more) (Contains (s.told ++ more)) (λ t there. Contains-append_right s.told more t there) more (All-contains_itself more));
      hears = is.hears;
    })

-- ---- contacts

-- of no packets nothing is begun
none_brought : (taken : List Taken) (opened : List Opened) (last : Joining) → map (λ (t : Taken). t.packet) taken ≡ [] → BringsAll fresh taken opened last → last ≡ fresh
none_brought [] _ _ is none = refl
none_brought (t ∷ ts) opened last is brings = absurd (let wrong : ⊥ = cc in wrong)

none_begun : (packets messages : List (List ℕ)) (last : Joining) → packets ≡ [] → IsJoinedOf packets messages last → last ≡ fresh
none_begun packets messages last is j = none_brought j.taken j.opened last (j.packets_are ∙ is) j.brings

low_last : (s : MemberSight) (entered : List ℕ) (c : ℕ) → (s.last ≡ 0) ⊎ Contains entered s.last → 0 < c → All (λ d. d < c) entered → s.last < c
low_last s entered c (inl nil) some above = subst (λ n. n < c) (sym nil) some
low_last s entered c (inr there) some above = All-contains (λ d. d < c) entered s.last above there

pub enters_stays : EntersStaysCast
enters_stays v ws m c k h other may boot window =
    let a = h.caster_sight in
    let s = h.member_sights m in
    let is = h.members m other in
    let low = low_last s (ws m).entered c is.last may.some may.above in
    let s1 = enters s k.peer.word k.start c in
    let s2 = listens_as s1 k in
    let cast = member_enters a h.member_sights m k.peer.word k.start c h.cast (is.at ∙ may.away) low (subst (λ (n : ℕ). boot_in c ≤ n) (ap (λ x. x.boot) (sym h.caster.casting)) may.era)
    (λ d t begun. All-contains (λ (d : ℕ). d ≤ c) (v.entered m) d may.newest (h.caster.begun m d t other begun)) in
    one_member v ws m s2 (record (ws m) { at = Some c; entered = (ws m).entered ++ c ∷ []; heard = Some k; begun = fresh }) h
    (keeps_then a h.member_sights m s1 (new_contact k.peer.word (boot_in c) k.start) k cast refl boot window (inr window)) (record {
      at = refl;
      last = inr (Contains-push (ws m).entered c);
      heard = refl;
      given = λ own theirs numbers. (
          let g = is.given own theirs numbers in
          record {
            last = g.last;
            joined = g.joined;
            present = λ here. (
                let at : c ≡ contact_of own theirs = same_Some c (contact_of own theirs) here in
                none_begun (s.given (contact_of own theirs)) ((ws m).given own theirs) g.last (ap s.given (sym at) ∙ nothing_given a h.member_sights m c h.cast low) g.joined);
          });
      told = is.told;
      hears = is.hears;
    })

pub quits_stays : QuitsStaysCast
quits_stays v ws m begun h other =
    let is = h.members m other in
    one_member v ws m (quits (h.member_sights m)) (record (ws m) { at = None; heard = None; begun = begun }) h (member_quits h.caster_sight h.member_sights m h.cast) (record {
      at = refl;
      last = is.last;
      heard = refl;
      given = λ own theirs numbers. (let g = is.given own theirs numbers in record { last = g.last; joined = g.joined; present = λ here. absurd (let wrong : ⊥ = cc in wrong) });
      told = is.told;
      hears = is.hears;
    })

-- ---- what is kept of the caster

-- a member seen with something else kept
heard_seen : (s : MemberSight) (w : MemberView) (l : Contact) → IsMemberSeen s w → IsMemberSeen (listens_as s l) (record w { heard = Some l })
heard_seen s w l is = record {
  at = is.at;
  last = is.last;
  heard = refl;
  given = λ own theirs numbers. (let g = is.given own theirs numbers in record { last = g.last; joined = g.joined; present = g.present });
  told = is.told;
  hears = is.hears;
}

pub keeps_stays : KeepsStaysCast
keeps_stays v ws m k l h other here same =
    let is = h.members m other in
    one_member v ws m (listens_as (h.member_sights m) l) (record (ws m) { heard = Some l }) h
    (member_keeps h.caster_sight h.member_sights m k l h.cast (is.heard ∙ here) same.boot same.window (inl same.shown)) (heard_seen (h.member_sights m) (ws m) l is)

pub learns_stays : LearnsStaysCast
learns_stays v ws m t k l h other here there at by_now recent same =
    let s = h.member_sights m in
    let is = h.members m other in
    let s1 = is_told s k t.seen in
    let cast = member_is_told h.caster_sight h.member_sights m k t h.cast (is.heard ∙ here) (contains_on (ws m).hears s.hears t is.hears there) (is.at ∙ at)
    (subst (λ n. t.stamp ≤ n) (sym (h.caster.numbered (boot_in t.contact))) by_now) (subst (λ n. n ≤ t.stamp + 30000) (sym (h.caster.numbered (boot_in t.contact))) recent) in
    one_member v ws m (listens_as s1 l) (record (ws m) { heard = Some l }) h
    (keeps_then h.caster_sight h.member_sights m s1 (told t.seen.start t.seen.next k) l cast refl same.boot same.window (inl same.shown)) (heard_seen s (ws m) l is)

-- ---- a broadcast packet

given_of : (o : LinkOutcome) → map (λ (t : Taken). t.packet) (packets_due o) ≡ given o
given_of (outcome.Took due) = refl
given_of outcome.Deferred = refl
given_of (outcome.Ignored why) = refl

brings_more : (first between last : Joining) (taken more : List Taken) (opened others : List Opened) → BringsAll first taken opened between → BringsAll between more others last → BringsAll first (taken ++ more) (opened ++ others) last
brings_more first _ last _ more _ others none rest = rest
brings_more first between last _ more _ others (go_on {between = mid} {packet = p} {packets = ps} {opened = here} {more = there} one behind) rest =
    subst (λ os. BringsAll first (p ∷ (ps ++ more)) os last) (sym (append_assoc here there others)) (go_on {packet = p} one (brings_more mid between last ps more there others behind rest))

joined_more : (packets messages ps : List (List ℕ)) (begun last : Joining) (more : List Taken) (opened : List Opened) → map (λ (t : Taken). t.packet) more ≡ ps → BringsAll begun more opened last → IsJoinedOf packets messages begun
    → IsJoinedOf (packets ++ ps) (messages ++ packets_in opened) last
joined_more packets messages ps begun last more opened are brings j = record {
  taken = j.taken ++ more;
  packets_are = map-append (λ (t : Taken). t.packet) j.taken more ∙ (ap (λ xs. xs ++ map (λ (t : Taken). t.packet) more) j.packets_are ∙ ap (λ ys. packets ++ ys) are);
  opened = j.opened ++ opened;
  brings = brings_more fresh begun last j.taken more j.opened opened j.brings brings;
  messages_are = flat_map-append whole_in j.opened opened ∙ ap (λ xs. xs ++ packets_in opened) j.messages_are;
}

-- what is given by an arrival in the present contact, and in others
taken_here : (s : MemberSight) (w : MemberView) (c own theirs : ℕ) (ps : List (List ℕ)) (more : List Taken) (opened : List Opened) (begun : Joining) → IsMemberSeen s w → AreContactNumbers own theirs → w.at ≡ Some c → contact_of own theirs ≡ c
    → map (λ (t : Taken). t.packet) more ≡ ps → BringsAll w.begun more opened begun
    → IsGivenIn (put c (s.given c ++ ps) s.given (contact_of own theirs)) (given_at c (packets_in opened) w.given own theirs) w.at (contact_of own theirs) begun
taken_here s w c own theirs ps more opened begun is numbers at here are brings =
    let g = is.given own theirs numbers in
    let now : g.last ≡ w.begun = g.present (at ∙ ap Some (sym here)) in
    let joined : IsJoinedOf (s.given (contact_of own theirs) ++ ps) (w.given own theirs ++ packets_in opened) begun =
    joined_more (s.given (contact_of own theirs)) (w.given own theirs) ps w.begun begun more opened are brings (subst (λ l. IsJoinedOf (s.given (contact_of own theirs)) (w.given own theirs) l) now g.joined) in
    let test : (contact_of own theirs == c) ≡ true = grind (arith, nat_tests, here) in
    let packets : put c (s.given c ++ ps) s.given (contact_of own theirs) ≡ s.given (contact_of own theirs) ++ ps =
    ap (λ x. put c (s.given c ++ ps) s.given x) here ∙ put_same c (s.given c ++ ps) s.given ∙ ap (λ x. s.given x ++ ps) (sym here) in
    record {
      last = begun;
      joined = subst (λ b. IsJoinedOf (put c (s.given c ++ ps) s.given (contact_of own theirs)) (w.given own theirs ++ (if b then packets_in opened else [])) begun) (sym test) (subst (λ xs. IsJoinedOf xs (w.given own theirs ++ packets_in opened) begun) (sym packets) joined);
      present = λ _. refl;
    }

taken_there : (s : MemberSight) (w : MemberView) (c own theirs : ℕ) (ps : List (List ℕ)) (opened : List Opened) (begun : Joining) → IsMemberSeen s w → AreContactNumbers own theirs → w.at ≡ Some c → (contact_of own theirs ≡ c → ⊥)
    → IsGivenIn (put c (s.given c ++ ps) s.given (contact_of own theirs)) (given_at c (packets_in opened) w.given own theirs) w.at (contact_of own theirs) begun
taken_there s w c own theirs ps opened begun is numbers at never =
    let g = is.given own theirs numbers in
    let test : (contact_of own theirs == c) ≡ false = grind (arith, nat_tests, never) in
    record {
      last = g.last;
      joined = subst (λ b. IsJoinedOf (put c (s.given c ++ ps) s.given (contact_of own theirs)) (w.given own theirs ++ (if b then packets_in opened else [])) g.last) (sym test)
          (subst (λ ms. IsJoinedOf (put c (s.given c ++ ps) s.given (contact_of own theirs)) ms g.last) (sym (append-nil (w.given own theirs)))
          (subst (λ xs. IsJoinedOf xs (w.given own theirs) g.last) (sym (put_other c (s.given c ++ ps) s.given (contact_of own theirs) never)) g.joined));
      present = λ now. absurd (never (same_Some (contact_of own theirs) c (sym now ∙ at)));
    }

pub takes_stays : TakesStaysCast
takes_stays v ws m c boot set by p k l opened begun h other here at f same brings =
    let a = h.caster_sight in
    let s = h.member_sights m in
    let is = h.members m other in
    let t = carried p by in
    let why = refused m boot set k in
    let ps = given (heard_outcome t k why) in
    let found = All-contains (IsAmongSent a.sent) v.sent f.frame h.caster.sent f.there in
    let frame : Aired = record { frame = f.frame.frame; stamp = found.0 } in
    let count = h.caster.numbered boot in
    let late = f.recent in
    let stamp = found.2 in
    let fresh_still : a.numbered boot ≤ found.0 + 30000 = omega (arith, count, late, stamp) in
    let cast = member_hears a h.member_sights m c boot (set % 2 ^ 32) frame k t h.cast other.0 (is.heard ∙ here) (is.at ∙ at) found.1 (reads_as a h.member_sights h.cast frame boot set by p f.boot_fits f.set_fits f.fits f.bytes) fresh_still in
    let s1 = hears_packet s m c boot (set % 2 ^ 32) k t in
    one_member v ws m (listens_as s1 l) (record (ws m) { heard = Some l; given = given_at c (packets_in opened) (ws m).given; begun = begun }) h
    (keeps_then a h.member_sights m s1 (heard t k why) l cast refl same.boot same.window (inl same.shown)) (record {
      at = is.at;
      last = is.last;
      heard = refl;
      given = λ own theirs numbers. elim (same_or_not (contact_of own theirs) c) [
        | inl present ↦ taken_here s (ws m) c own theirs ps (packets_due (heard_outcome t k why)) opened begun is numbers at present (given_of (heard_outcome t k why)) brings
        | inr past ↦ taken_there s (ws m) c own theirs ps opened begun is numbers at past
      ];
      told = is.told;
      hears = is.hears;
    })
