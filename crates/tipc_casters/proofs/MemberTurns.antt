-- What happens at a member keeps what is true of it, of the caster and of the other members.
use Rattle.std.proofs.Common.{◌≡◌, ℕ, ◌+◌, ◌<◌, ◌≤◌, true, false, if◌then◌else◌, List, [], ◌∷◌, ◌++◌, Option, Some, None, refl, sym, ap, ◌∙◌, subst, inl, inr, arith}
use Rattle.std.specs.Prelude.{All, IfSome}
use Rattle.std.specs.List.{Contains}
use Rattle.std.proofs.lemmas.List.Elements.{All-append, All-contains, All-cons, All-nil, All-weaker}
use Rattle.std.proofs.lemmas.Option.{same_Some}
use Rattle.tipc_types.specs.Address.{IsNodeWord}
use Rattle.tipc_types.specs.Prefixes.{IsPrefixOf}
use Rattle.tipc_types.specs.declared.link_words.BroadcastState.{BroadcastState}
use Rattle.tipc_types.specs.declared.link_words.Why.{Why}
use Rattle.tipc_types.specs.declared.packet_lists.Taken.{Taken}
use Rattle.tipc_recv_window.specs.Receiving.{fresh, Receiving, with_packet}
use Rattle.tipc_recv_window.proofs.Runs.{run_leaves}
use Rattle.tipc_broadcast.specs.declared.contacts.Contact.{Contact}
use Rattle.tipc_broadcast.specs.Contacts.{contact_with, heard, heard_outcome, is_in_step, IsFree, joined, noted_in, refusal, shown_in, stepped, taken_in, told}
use Rattle.tipc_broadcast.specs.Casting.{accepted, booted}
use Rattle.tipc_broadcast_law.specs.Groups.{Accepted, accepted_for, Caster, Group, length_now, Member, numbered_now, place, put}
use Rattle.tipc_broadcast_law.specs.Events.{entered, left}
use Rattle.tipc_broadcast_law.specs.Law.{IsGroup}
use Rattle.tipc_broadcast_law.specs.Lines.{IsLined}
use Rattle.tipc_broadcast_law.specs.Listening.{given, HadCome, IsCastAt, IsListening, IsWindow, stepped_member, TookIn, MemberTurns}
use Rattle.tipc_broadcast_law.specs.Steps.{IsSeen}
use Rattle.tipc_broadcast_law.proofs.CasterEvents.{run_keeps}
use Rattle.tipc_broadcast_law.proofs.Consequences.{begins_sound, taken_front}
use Rattle.tipc_broadcast_law.proofs.Listening.{enter_runs, hear_runs, quit_runs, taken_is_shown, tell_runs}
use Rattle.tipc_broadcast_law.proofs.MemberEvents.{place-begun, place-want}
use Rattle.tipc_broadcast_law.proofs.calls.Stating.{starts_are_shown}
use Rattle.tipc_broadcast_law.proofs.Places.{put_other, put_same, same_or_not}
use Rattle.tipc_casters.specs.Later.{IsLater}
use Rattle.tipc_casters.specs.Sights.{Aired, boot_in, CasterSight, IsAired, IsCast, IsCaster, IsMember, IsSentPiece, IsToldBy, IsToldTo, MemberSight, ReadsAs, Told}
use Rattle.tipc_casters.specs.Turns.{enters, hears_packet, is_to_hear, is_told, IsRight, IsToldToMember, new_caster, new_member, quits, tells, with_member}
use Rattle.tipc_casters.proofs.Later.{runs_later}
use Rattle.tipc_casters.proofs.Standing.{aired_later, member_later, same_side, SameMember, told_by_later, told_to_later}

-- what the caster keeps of a member doesn't change with the member's own side
record SameSeen (k l : Member) : Type 0 where
  joined : l.joined ≡ k.joined
  acked : l.acked ≡ k.acked
  begun : l.begun ≡ k.begun

seen_still : (k l : Member) (o : Option Contact) → SameSeen k l → IsSeen k o → IsSeen l o
seen_still k l None same seen = same.joined ∙ seen
seen_still k l (Some c) same seen = (seen.0, same.joined ∙ seen.1, ap (λ (b : ℕ → Option ℕ). b seen.0) same.begun ∙ seen.2, seen.3, same.acked ∙ seen.4)

caster_still : (g h : Group) (a : CasterSight) (m : ℕ) → h.caster ≡ g.caster → IsLater g h → ((i : ℕ) → SameSeen (g.members i) (h.members i)) → IsCaster g a → IsCaster h a
caster_still g h a m same later seen is =
    let own = a.casting.own in
    record {
      boot = ap (λ (c : Caster). c.boot) same ∙ is.boot;
      numbered = λ f. ap (λ (c : Caster). c.numbered f) same ∙ is.numbered f;
      window = is.window;
      casting = is.casting;
      stands = record {
        numbered = is.stands.numbered ∙ ap numbered_now (sym same);
        accepted_all = subst (λ (c : Caster). accepted a.casting.sending ≡ length_now c) (sym same) is.stands.accepted_all;
        members = λ i. seen_still (g.members i) (h.members i) (contact_with i a.casting.contacts) (seen i) (is.stands.members i);
      };
      lined = subst (λ (c : Caster). IsLined (c.line c.boot) a.casting) (sym same) is.lined;
      joined = λ i. (seen i).joined ∙ is.joined i;
      begun = λ i c. ap (λ (b : ℕ → Option ℕ). b c) (seen i).begun ∙ is.begun i c;
      put = λ i c. ap (λ (d : Caster). accepted_for i c (d.line (boot_in c))) same ∙ is.put i c;
      sent = All-weaker (IsAired g own) (IsAired h own) (λ f. aired_later g h own f later.caster) a.sent is.sent;
      spelled = λ f. subst (λ (c : Caster). All (λ (e : Accepted). IsSentPiece own e.packet) (c.line f)) (sym same) (is.spelled f);
      boot_fits = is.boot_fits;
      ahead = λ f past. (
          let was = is.ahead f (subst (λ (c : Caster). c.boot < f) same past) in
          (ap (λ (c : Caster). c.line f) same ∙ was.0, ap (λ (c : Caster). c.numbered f) same ∙ was.1));
    }

-- a turn of one member
turned_at : (a : CasterSight) (ms : ℕ → MemberSight) (m : ℕ) (s : MemberSight) (kept : Option Contact) (IsOne : Member → Type 0) (h : IsCast a ms) (turn : MemberTurns h.group m IsOne kept) → SameSeen (h.group.members m) (turn.after.members m)
    → (IsLater h.group turn.after → IsMember turn.after m s) → IsCast a (with_member ms m s)
turned_at a ms m s kept IsOne h turn seen is =
    let g = h.group in
    let i = turn.after in
    let later = runs_later g i turn.runs h.law in
    let others : (j : ℕ) → (j ≡ m → ⊥) → SameMember (g.members j) (i.members j) = λ j never. subst (SameMember (g.members j)) (sym (turn.others j never)) (same_side (g.members j)) in
    record {
      group = i;
      law = run_keeps g i turn.runs h.law;
      caster = caster_still g i a m turn.caster later (λ j. elim (same_or_not j m) [
        | inl at ↦ subst (λ n. SameSeen (g.members n) (i.members n)) (sym at) seen
        | inr never ↦ subst (SameSeen (g.members j)) (sym (turn.others j never)) (record { joined = refl; acked = refl; begun = refl })
      ]) h.caster;
      members = λ j. elim (same_or_not j m) [
        | inl at ↦ subst (λ n. IsMember i n (with_member ms m s n)) (sym at) (subst (IsMember i m) (sym (put_same m s ms)) (is later))
        | inr never ↦ subst (IsMember i j) (sym (put_other m s ms j never)) (member_later g i j (ms j) h.law later (others j never) (h.members j))
      ];
    }

-- the STATEs in the air of a member that something happened to
told_still : (g h : Group) (m : ℕ) (ts : List Told) → IsLater g h → All (IsToldBy g m) ts → All (IsToldBy h m) ts
told_still g h m ts later all = All-weaker (IsToldBy g m) (IsToldBy h m) (λ t. told_by_later g h m t (later.members m)) ts all

hears_still : (g h : Group) (m : ℕ) (ts : List Told) → IsLater g h → All (IsToldTo g m) ts → All (IsToldTo h m) ts
hears_still g h m ts later all = All-weaker (IsToldTo g m) (IsToldTo h m) (λ t. told_to_later g h m t (later.members m)) ts all

-- ---- contacts

pub member_enters : (a : CasterSight) (ms : ℕ → MemberSight) (m peer start c : ℕ) → IsCast a ms → (ms m).at ≡ None → (ms m).last < c → boot_in c ≤ a.casting.boot → ((d s : ℕ) → a.begun m d ≡ Some s → d ≤ c) → IsCast a (with_member ms m (enters (ms m) peer start c))
member_enters a ms m peer start c h away above era newest =
    let g = h.group in
    let k = g.members m in
    let is = h.members m in
    let low : k.last < c = subst (λ n. n < c) (sym is.last) above in
    let within : k.boots c ≤ g.caster.boot = subst (λ n. n ≤ g.caster.boot) (sym (is.boots c)) (subst (λ n. boot_in c ≤ n) (sym h.caster.boot) era) in
    let turn = enter_runs g m c peer start h.law (is.at ∙ away) low within (λ d s begun. newest d s (sym (h.caster.begun m d) ∙ begun)) in
    let one : turn.after.members m ≡ entered k c = turn.one in
    turned_at a ms m (enters (ms m) peer start c) _ (λ l. l ≡ entered k c) h turn (subst (SameSeen k) (sym one) (record { joined = refl; acked = refl; begun = refl })) (λ later. record {
      boots = λ d. ap (λ (l : Member). l.boots d) one ∙ is.boots d;
      at = ap (λ (l : Member). l.at) one;
      last = ap (λ (l : Member). l.last) one;
      listens = subst (λ b. IsListening turn.after m (Some (joined peer b start))) (is.boots c) turn.listens;
      free = tt;
      given = λ d. ap (λ (l : Member). l.out d) one ∙ is.given d;
      told = told_still g turn.after m (ms m).told later is.told;
      hears = hears_still g turn.after m (ms m).hears later is.hears;
    })

pub member_quits : (a : CasterSight) (ms : ℕ → MemberSight) (m : ℕ) → IsCast a ms → IsCast a (with_member ms m (quits (ms m)))
member_quits a ms m h =
    let g = h.group in
    let k = g.members m in
    let is = h.members m in
    let turn = quit_runs g m in
    let one : turn.after.members m ≡ left k = turn.one in
    turned_at a ms m (quits (ms m)) _ (λ l. l ≡ left k) h turn (subst (SameSeen k) (sym one) (record { joined = refl; acked = refl; begun = refl })) (λ later. record {
      boots = λ d. ap (λ (l : Member). l.boots d) one ∙ is.boots d;
      at = ap (λ (l : Member). l.at) one;
      last = ap (λ (l : Member). l.last) one ∙ is.last;
      listens = turn.listens;
      free = tt;
      given = λ d. ap (λ (l : Member). l.out d) one ∙ is.given d;
      told = told_still g turn.after m (ms m).told later is.told;
      hears = hears_still g turn.after m (ms m).hears later is.hears;
    })

-- ---- a STATE of the caster

record SameSides (k l : Member) : Type 0 where
  seen : SameSeen k l
  boots : (d : ℕ) → l.boots d ≡ k.boots d
  at : l.at ≡ k.at
  last : l.last ≡ k.last
  out : (d : ℕ) → l.out d ≡ k.out d

stepped_sides : (k : Member) (c s : ℕ) (o : Option Receiving) → SameSides k (stepped_member k c s o)
stepped_sides k c s None = record { seen = record { joined = refl; acked = refl; begun = refl }; boots = λ d. refl; at = refl; last = refl; out = λ d. refl }
stepped_sides k c s (Some r) = record { seen = record { joined = refl; acked = refl; begun = refl }; boots = λ d. refl; at = refl; last = refl; out = λ d. refl }

noted_free : (next : ℕ) (k : Contact) (o : Option Receiving) → IsFree k.window → IsFree (noted_in next k o).window
noted_free next k None free = free
noted_free next k (Some r) free = free

told_free : (start next : ℕ) (k : Contact) → IsFree k.window → IsFree (told start next k).window
told_free start next k free = noted_free next (stepped start k) (stepped start k).window (elim (is_in_step k) as (λ b. IsFree (if b then k else record k { window = Some (fresh start); shown = start }).window) [
  | true ↦ free
  | false ↦ refl
])

pub member_is_told : (a : CasterSight) (ms : ℕ → MemberSight) (m : ℕ) (k : Contact) (t : Told) → IsCast a ms → (ms m).heard ≡ Some k → Contains (ms m).hears t → (ms m).at ≡ Some t.contact
    → t.stamp ≤ a.numbered (boot_in t.contact) → a.numbered (boot_in t.contact) ≤ t.stamp + 30000 → IsCast a (with_member ms m (is_told (ms m) k t.seen))
member_is_told a ms m k t h keeps there at by_now recent =
    let g = h.group in
    let n = g.members m in
    let is = h.members m in
    let shown : IsToldTo g m t = All-contains (IsToldTo g m) (ms m).hears t is.hears there in
    let s = shown.0 in
    let recent_here : g.caster.numbered (n.boots t.contact) ≤ t.stamp + 30000 =
    subst (λ b. g.caster.numbered b ≤ t.stamp + 30000) (sym (is.boots t.contact)) (subst (λ x. x ≤ t.stamp + 30000) (sym (h.caster.numbered (boot_in t.contact))) recent) in
    let by_now_here : t.stamp ≤ g.caster.numbered (n.boots t.contact) =
    subst (λ b. t.stamp ≤ g.caster.numbered b) (sym (is.boots t.contact)) (subst (λ x. t.stamp ≤ x) (sym (h.caster.numbered (boot_in t.contact))) by_now) in
    let turn = tell_runs g m t.contact s t.seen.next t.stamp k h.law (subst (IsListening g m) keeps is.listens) (is.at ∙ at) shown.1 shown.3 by_now_here recent_here in
    let one : turn.after.members m ≡ stepped_member n t.contact s k.window = turn.one in
    let same : SameSides n (turn.after.members m) = subst (SameSides n) (sym one) (stepped_sides n t.contact s k.window) in
    turned_at a ms m (is_told (ms m) k t.seen) _ (λ l. l ≡ stepped_member n t.contact s k.window) h turn same.seen (λ later. record {
      boots = λ d. same.boots d ∙ is.boots d;
      at = same.at ∙ is.at;
      last = same.last ∙ is.last;
      listens = subst (λ p. IsListening turn.after m (Some (told p t.seen.next k))) (sym shown.2) turn.listens;
      free = told_free t.seen.start t.seen.next k (subst (λ o. IfSome o (λ d. IsFree d.window)) keeps is.free);
      given = λ d. same.out d ∙ is.given d;
      told = told_still g turn.after m (ms m).told later is.told;
      hears = hears_still g turn.after m (ms m).hears later is.hears;
    })

-- ---- a broadcast packet

-- what could be taken was
taken_free : (t : Taken) (k : Contact) (o : Option Receiving) → IsFree k.window → IsFree (taken_in k t o).window
taken_free t k None free = free
taken_free t k (Some r) free = run_leaves (with_packet r t).held

heard_free : (t : Taken) (k : Contact) (o : Option Why) → IsFree k.window → IsFree (heard t k o).window
heard_free t k (Some why) free = free
heard_free t k None free = taken_free t k k.window free

-- these packets were given to it
took_sides : (k l : Member) (c : ℕ) (ps : List (List ℕ)) (s : ℕ → List (List ℕ)) → TookIn k l c ps → ((d : ℕ) → k.out d ≡ s d) → (d : ℕ) → l.out d ≡ put c (s c ++ ps) s d
took_sides k l c ps s took same d = elim (same_or_not d c) [
  | inl is ↦ subst (λ e. l.out e ≡ put c (s c ++ ps) s e) (sym is) (took.out_here ∙ ap (λ xs. xs ++ ps) (same c) ∙ sym (put_same c (s c ++ ps) s))
  | inr never ↦ took.out d never ∙ same d ∙ sym (put_other c (s c ++ ps) s d never)
]

pub member_hears : (a : CasterSight) (ms : ℕ → MemberSight) (m c boot members : ℕ) (f : Aired) (k : Contact) (t : Taken) (h : IsCast a ms) → IsNodeWord m → (ms m).heard ≡ Some k → (ms m).at ≡ Some c → Contains a.sent f
    → ReadsAs h.group a.casting.own f boot members t → a.numbered boot ≤ f.stamp + 30000 → IsCast a (with_member ms m (hears_packet (ms m) m c boot members k t))
member_hears a ms m c boot members f k t h node keeps at there reads fresh =
    let g = h.group in
    let n = g.members m in
    let is = h.members m in
    let own = a.casting.own in
    let cast : IsAired g own f = All-contains (IsAired g own) a.sent f h.caster.sent there in
    let read = reads cast in
    let why = refusal m boot members k in
    let ps = given (heard_outcome t k why) in
    let sent : IsCastAt g.caster boot cast.place members f.stamp t.packet =
    subst (λ p. IsCastAt g.caster boot cast.place members f.stamp p) (sym read.3) (subst (λ w. IsCastAt g.caster boot cast.place w f.stamp cast.packet) (sym read.1) (subst (λ b. IsCastAt g.caster b cast.place cast.set f.stamp cast.packet) (sym read.0) cast.cast)) in
    let free : IsFree k.window = subst (λ o. IfSome o (λ d. IsFree d.window)) keeps is.free in
    let recent : g.caster.numbered boot ≤ f.stamp + 30000 = subst (λ x. x ≤ f.stamp + 30000) (sym (h.caster.numbered boot)) fresh in
    let turn = hear_runs g m boot cast.place members f.stamp k t h.law node (subst (IsListening g m) keeps is.listens) free sent recent read.2 in
    let one = turn.one in
    let here : one.0 ≡ c = same_Some one.0 c (sym one.1 ∙ is.at ∙ at) in
    let l = turn.after.members m in
    let took : TookIn n l c ps = subst (λ d. TookIn n l d ps) here one.2 in
    turned_at a ms m (hears_packet (ms m) m c boot members k t) (Some (heard t k why)) (λ x. (d : ℕ) × (n.at ≡ Some d) × TookIn n x d ps) h turn (record { joined = took.joined_is; acked = took.acked; begun = took.begun }) (λ later. record {
      boots = λ d. ap (λ (b : ℕ → ℕ). b d) took.boots ∙ is.boots d;
      at = took.at ∙ is.at;
      last = took.last ∙ is.last;
      listens = turn.listens;
      free = heard_free t k why free;
      given = took_sides n l c ps (ms m).given took is.given;
      told = told_still g turn.after m (ms m).told later is.told;
      hears = hears_still g turn.after m (ms m).hears later is.hears;
    })

-- ---- STATEs come into the air

-- one member's sight changed, and nothing in the law
pub seen_anew : (a : CasterSight) (ms : ℕ → MemberSight) (m : ℕ) (s : MemberSight) (h : IsCast a ms) → IsMember h.group m s → IsCast a (with_member ms m s)
seen_anew a ms m s h is = record {
  group = h.group;
  law = h.law;
  caster = h.caster;
  members = λ j. elim (same_or_not j m) [
    | inl at ↦ subst (λ n. IsMember h.group n (with_member ms m s n)) (sym at) (subst (IsMember h.group m) (sym (put_same m s ms)) is)
    | inr never ↦ subst (IsMember h.group j) (sym (put_other m s ms j never)) (h.members j)
  ];
}

-- what a STATE of the member tells, in the contact in which it is
pub tells_place : (a : CasterSight) (ms : ℕ → MemberSight) (m next start : ℕ) (k : Contact) (t : Told) (h : IsCast a ms) → (ms m).heard ≡ Some k → (ms m).at ≡ Some t.contact → t.stamp ≡ a.numbered a.casting.boot → t.seen ≡ shown_in next start k.shown k.window
    → IsToldBy h.group m t
tells_place a ms m next start k t h keeps at stamp shows step =
    let g = h.group in
    let n = g.members m in
    let is = h.members m in
    let keeps_law = h.law.each m in
    let listens : IsListening g m (Some k) = subst (IsListening g m) keeps is.listens in
    let here : listens.0 ≡ t.contact = same_Some listens.0 t.contact (sym listens.1 ∙ is.at ∙ at) in
    let window : IsWindow g m t.contact k.window = subst (λ c. IsWindow g m c k.window) here listens.3 in
    let count : t.stamp ≡ numbered_now g.caster = stamp ∙ sym (h.caster.numbered a.casting.boot) ∙ ap g.caster.numbered (sym h.caster.boot) in
    let at_place = taken_is_shown g m t.contact next start k.shown k.window window (sym (ap (λ (s : BroadcastState). s.in_step) shows) ∙ step) in
    let w = at_place.0 in
    let begun = keeps_law.want_begun t.contact w at_place.1 in
    let place_is : place n t.contact ≡ w = place-want n t.contact w at_place.1 in (
      w,
      ap (λ (s : BroadcastState). s.acknowledged) shows ∙ at_place.2,
      record {
        start = begun.0;
        begun = begun.1;
        from_start = keeps_law.want_from t.contact w begun.0 at_place.1 begun.1;
        wanted = w;
        wants = at_place.1;
        had = omega arith;
        in_window = λ joined. (let near = keeps_law.joined_near t.contact joined in omega (arith, near, count, place_is));
      },
    )

-- STATEs of a member came into the air, each of which tells a place
pub says_more : (a : CasterSight) (ms : ℕ → MemberSight) (m : ℕ) (more : List Told) (h : IsCast a ms) → All (IsToldBy h.group m) more → IsCast a (with_member ms m (record (ms m) { told = (ms m).told ++ more }))
says_more a ms m more h all =
    let is = h.members m in
    seen_anew a ms m (record (ms m) { told = (ms m).told ++ more }) h (record {
      boots = is.boots;
      at = is.at;
      last = is.last;
      listens = is.listens;
      free = is.free;
      given = is.given;
      told = All-append (IsToldBy h.group m) (ms m).told more is.told all;
      hears = is.hears;
    })

pub member_tells : (a : CasterSight) (ms : ℕ → MemberSight) (m next start : ℕ) (k : Contact) (t : Told) → IsCast a ms → (ms m).heard ≡ Some k → (ms m).at ≡ Some t.contact → t.stamp ≡ a.numbered a.casting.boot → t.seen ≡ shown_in next start k.shown k.window
    → IsCast a (with_member ms m (tells (ms m) t))
member_tells a ms m next start k t h keeps at stamp shows =
    let told : IsToldBy h.group m t = tells_place a ms m next start k t h keeps at stamp shows in
    says_more a ms m (t ∷ []) h (All-cons (IsToldBy h.group m) t [] told (All-nil (IsToldBy h.group m)))

-- how far the member had come
came_to : (k : Member) (c s : ℕ) → k.begun c ≡ Some s → HadCome k c (place k c)
came_to k c s begun = by (k.want c) refl
  where
    by : (o : Option ℕ) → k.want c ≡ o → HadCome k c (place k c)
    by None none = inl (begun ∙ ap Some (sym (place-begun k c s none begun)))
    by (Some w) want = inr (w, want, (let is = place-want k c w want in omega (arith, is)))

pub told_of : (a : CasterSight) (ms : ℕ → MemberSight) (m : ℕ) (t : Told) (h : IsCast a ms) → IsToldToMember a m t → IsToldTo h.group m t
told_of a ms m t h told =
    let g = h.group in
    let k = g.members m in
    let c = t.contact in
    let here : k.joined ≡ Some c = h.caster.joined m ∙ told.contact in
    let begun = (h.law.each m).joined_begun c here in
    let low = told.near in
    let near = (h.law.each m).joined_near c here in
    let now = h.caster.stands.numbered in (
      begun.0,
      begun.1,
      told.start ∙ starts_are_shown g a.casting m c begun.0 h.caster.stands here begun.1,
      record {
        numbered = told.numbered;
        next_is = told.next;
        by_then = told.by_then;
        stamped = told.stamped;
        place = place k c;
        had_come = came_to k c begun.0 begun.1;
        near = omega (arith, near, now, low);
      },
    )

pub caster_tells : (a : CasterSight) (ms : ℕ → MemberSight) (m : ℕ) (t : Told) → IsCast a ms → IsToldToMember a m t → IsCast a (with_member ms m (is_to_hear (ms m) t))
caster_tells a ms m t h tells =
    let g = h.group in
    let is = h.members m in
    let told : IsToldTo g m t = told_of a ms m t h tells in
    seen_anew a ms m (is_to_hear (ms m) t) h (record {
      boots = is.boots;
      at = is.at;
      last = is.last;
      listens = is.listens;
      free = is.free;
      given = is.given;
      told = is.told;
      hears = All-append (IsToldTo g m) (ms m).hears (t ∷ []) is.hears (All-cons (IsToldTo g m) t [] told (All-nil (IsToldTo g m)));
    })

-- ---- the begin, and what follows

nothing_accepted : (m c : ℕ) → accepted_for m c [] ≡ []
unfolding accepted_for
nothing_accepted m c = refl

pub casters_begin : (own boot : ℕ) → IsRight (booted own boot) → IsCast (new_caster own boot) (λ m. new_member)
casters_begin own boot right =
    let g : Group = record {
      caster = record { boot = boot; line = λ f. []; numbered = λ f. 0 };
      members = λ m. record { boots = boot_in; joined = None; acked = 0; begun = λ c. None; at = None; last = 0; want = λ c. None; out = λ c. [] };
    } in
    record {
      group = g;
      law = begins_sound g (record { line = λ f. refl; numbered = λ f. refl; members = λ m. record { joined = refl; begun = λ c. refl; at = refl; want = λ c. refl; out = λ c. refl } });
      caster = record {
        boot = refl;
        numbered = λ f. refl;
        window = right.window;
        casting = right.casting;
        stands = record { numbered = refl; accepted_all = refl; members = λ m. refl };
        lined = record { unacked = tt; waiting = tt };
        joined = λ m. refl;
        begun = λ m c. refl;
        put = λ m c. nothing_accepted m c;
        sent = All-nil (IsAired g own);
        spelled = λ f. All-nil (λ (e : Accepted). IsSentPiece own e.packet);
        boot_fits = right.boot;
        ahead = λ f past. (refl, refl);
      };
      members = λ m. record { boots = λ c. refl; at = refl; last = refl; listens = refl; free = tt; given = λ c. refl; told = All-nil (IsToldBy g m); hears = All-nil (IsToldTo g m) };
    }

pub gives_a_prefix : (a : CasterSight) (ms : ℕ → MemberSight) → IsCast a ms → (m c : ℕ) → IsPrefixOf ((ms m).given c) (a.put m c)
gives_a_prefix a ms h m c =
    let g = h.group in
    let is = h.members m in
    let front = taken_front g.caster m (g.members m) c (h.law.each m) in
    subst (λ xs. IsPrefixOf xs (a.put m c)) (is.given c) (subst (λ ys. IsPrefixOf ((g.members m).out c) ys) (ap (λ f. accepted_for m c (g.caster.line f)) (is.boots c) ∙ h.caster.put m c) front)
