-- The member's calls are runs of the law.
use Rattle.std.proofs.Common.{◌≡◌, ℕ, ◌+◌, ◌-◌, ◌<◌, ◌≤◌, ◌==◌, true, false, not, if◌then◌else◌, List, [], ◌∷◌, ◌++◌, length, take, drop, map, Option, Some, None, is_some, refl, sym, ap, ◌∙◌, subst, append_assoc, append-nil, inl, inr, eqb-true, arith}
use Rattle.std.specs.Prelude.{max, nat_le, slice_get, slice_index_or}
use Rattle.std.proofs.lemmas.Bool.{cases_lt}
use Rattle.std.proofs.lemmas.Bool.Decides.{nat_tests}
use Rattle.std.proofs.lemmas.List.{get_or-drop, take_more, length-drop}
use Rattle.std.proofs.lemmas.Option.{get_or_from_slice_get, same_Some, slice_get_within}
use Rattle.tipc_types.specs.Limits.{window_size}
use Rattle.tipc_types.specs.Address.{IsNodeWord}
use Rattle.tipc_types.specs.Position.{distance_of, number_of}
use Rattle.tipc_types.proofs.PositionLaws.{distance_of-ahead, distance_of-behind}
use Rattle.tipc_types.specs.declared.link_words.Why.{Why}
use Rattle.tipc_types.specs.declared.link_words.Why.TheVariants as why
use Rattle.tipc_types.specs.declared.packet_lists.Taken.{Taken}
use Rattle.tipc_recv_window.specs.declared.outcomes.Place.{Place}
use Rattle.tipc_recv_window.specs.declared.outcomes.Place.TheVariants.{InOrder, Deferred, Old}
use Rattle.tipc_recv_window.specs.Receiving.{Receiving, ahead, arrived_at, drained, filled, fresh, is_new, next_of, outcome_at, past_wanted, place_at, run_of, with_packet}
use Rattle.tipc_recv_window.specs.Laws.{ArrivesByPosition}
use Rattle.tipc_recv_window.proofs.ArrivalLaws.{arrives}
use Rattle.tipc_recv_window.proofs.Comings.{due_none}
use Rattle.tipc_recv_window.proofs.Holding.{filled-other, filled-same}
use Rattle.tipc_broadcast.specs.declared.contacts.Contact.{Contact}
use Rattle.tipc_broadcast.specs.Contacts.{heard, heard_outcome, is_in_step, is_member, IsFree, joined, noted_in, outcome_in, refusal, shown_in, stepped, taken_in, told}
use Rattle.tipc_broadcast_law.specs.Groups.{Accepted, Caster, Group, mark, mark_in, Member, packets, place, put, queue}
use Rattle.tipc_broadcast_law.specs.Events.{changes, entered, go_on, in_step_from, left, member_begins, member_ends, none, Runs, steps_in, takes, taking}
use Rattle.tipc_broadcast_law.specs.Law.{IsGroup}
use Rattle.tipc_broadcast_law.specs.Listening.{given, HadCome, HoldsAt, IsAt, IsCastAt, IsListening, WasShownIn, IsWindow, stepped_member, ToldNext, TookIn, MemberTurns}
use Rattle.tipc_broadcast_law.specs.Promises.{IsNear}
use Rattle.tipc_broadcast_law.proofs.Consequences.{all_are_near}
use Rattle.tipc_broadcast_law.proofs.MemberEvents.{place-begun, place-want}
use Rattle.tipc_broadcast_law.proofs.Places.{put_other, put_same, same_or_not}

-- ---- contacts begin and end

never_wanted : (k : Member) (c : ℕ) → ((w : ℕ) → k.want c ≡ Some w → c ≤ k.last) → k.last < c → k.want c ≡ None
never_wanted k c within above = elim (k.want c) as (λ o. k.want c ≡ o → o ≡ None) [
  | None ↦ λ is. refl
  | Some w ↦ λ is. let low = within w is in absurd (omega arith)
] refl

pub enter_runs : (g : Group) (m c peer start : ℕ) → IsGroup g → (g.members m).at ≡ None → (g.members m).last < c → (g.members m).boots c ≤ g.caster.boot
    → ((d s : ℕ) → (g.members m).begun d ≡ Some s → d ≤ c)
    → MemberTurns g m (λ l. l ≡ entered (g.members m) c) (Some (joined peer ((g.members m).boots c) start))
enter_runs g m c peer start h away above era newest =
    let k = g.members m in
    let l = entered k c in
    let after : Group = record { caster = g.caster; members = put m l g.members } in
    let here : after.members m ≡ l = put_same m l g.members in
    record {
      after = after;
      runs = go_on (changes m l (member_begins away above era newest)) none;
      caster = refl;
      others = λ i never. put_other m l g.members i never;
      one = here;
      listens = subst (λ (n : Member). (d : ℕ) × (n.at ≡ Some d) × (k.boots c ≡ n.boots d) × (n.want d ≡ None) × Unit {0}) (sym here) (c, refl, refl, never_wanted k c (λ w e. (h.each m).want_last c w e) above, tt);
    }

pub quit_runs : (g : Group) (m : ℕ) → MemberTurns g m (λ l. l ≡ left (g.members m)) None
quit_runs g m =
    let l = left (g.members m) in
    let here = put_same m l g.members in
    record {
      after = record { caster = g.caster; members = put m l g.members };
      runs = go_on (changes m l member_ends) none;
      caster = refl;
      others = λ i never. put_other m l g.members i never;
      one = here;
      listens = subst (λ (n : Member). n.at ≡ None) (sym here) refl;
    }

-- ---- in step

-- what is noted of the next number leaves boot and window
noted_window : (next : ℕ) (c : Contact) (o : Option Receiving) → ((noted_in next c o).window ≡ c.window) × ((noted_in next c o).boot ≡ c.boot)
noted_window next c None = (refl, refl)
noted_window next c (Some r) = (refl, refl)

number_again : (n : ℕ) → number_of n ≡ number_of (number_of n)
unfolding number_of
number_again n = omega arith

stepped_none : (start : ℕ) (k : Contact) → k.window ≡ None → stepped start k ≡ record k { window = Some (fresh start); shown = start }
stepped_none start k is = ap (λ o. if is_some o then k else record k { window = Some (fresh start); shown = start }) is

stepped_some : (start : ℕ) (k : Contact) (r : Receiving) → k.window ≡ Some r → stepped start k ≡ k
stepped_some start k r is = ap (λ o. if is_some o then k else record k { window = Some (fresh start); shown = start }) is

-- listening is told by boot, window and what was shown
listens_as : (g : Group) (m c shown : ℕ) (k : Contact) (boot : ℕ) (o : Option Receiving) → k.boot ≡ boot → k.window ≡ o → k.shown ≡ shown → (g.members m).at ≡ Some c → boot ≡ (g.members m).boots c → IsWindow g m c o → WasShownIn g m c shown o
    → IsListening g m (Some k)
listens_as g m c shown k boot o boots windows shows at same is within =
    (c, at, boots ∙ same, subst (IsWindow g m c) (sym windows) is, subst (λ n. WasShownIn g m c n k.window) (sym shows) (subst (WasShownIn g m c shown) (sym windows) within))

-- ---- the next number

-- the member had come no further than to the place that it wants, or its start
pub had_come-place : (g : Group) (m c s p : ℕ) → IsGroup g → (g.members m).begun c ≡ Some s → HadCome (g.members m) c p → (w : ℕ) → (g.members m).want c ≡ Some w → p ≤ w
had_come-place g m c s p h begun (inl start) w want =
    let same : p ≡ s = same_Some p s (sym start ∙ begun) in
    let from = (h.each m).want_from c w s want begun in
    omega (arith, same, from)
had_come-place g m c s p h begun (inr come) w want =
    let same : come.0 ≡ w = same_Some come.0 w (sym come.1 ∙ want) in
    let had = come.2 in
    omega (arith, same, had)

pub had_come-start : (g : Group) (m c s p : ℕ) → (g.members m).begun c ≡ Some s → HadCome (g.members m) c p → (g.members m).want c ≡ None → p ≡ s
had_come-start g m c s p begun (inl start) out = same_Some p s (sym start ∙ begun)
had_come-start g m c s p begun (inr come) out = absurd (let wrong : None ≡ Some come.0 = sym out ∙ come.1 in let no : ⊥ = cc in no)

-- A next number leads at most so far past the wanted place as packets are numbered: where it lies before that place, it tells nothing.
ahead_within : (r : Receiving) (w n numbered : ℕ) → number_of (w + 1) ≡ number_of r.wanted → n ≤ w + 296 → w ≤ n + 30542 → n ≤ numbered → ahead r (number_of (n + 1)) ≤ numbered - w
unfolding ahead
ahead_within r w n numbered wanted near recent by_now = elim (cases_lt n w) [
  | inl before ↦
      let far : distance_of (number_of (w + 1)) (number_of (n + 1)) ≡ 65536 - (w - n) = (let sum = distance_of-behind (w + 1) (n + 1) (omega arith) (omega arith) in omega (arith, sum)) in
      let past : past_wanted r (number_of (n + 1)) ≡ 65536 - (w - n) = ap (λ x. distance_of x (number_of (n + 1))) (sym wanted) ∙ far in
      let test : nat_le (65536 - (w - n)) 32767 ≡ false = grind (arith, nat_tests) in
      rw past (rw test (omega arith))
  | inr from ↦
      let far : distance_of (number_of (w + 1)) (number_of (n + 1)) ≡ n + 1 - (w + 1) = distance_of-ahead (w + 1) (n + 1) (omega arith) (omega arith) in
      let past : past_wanted r (number_of (n + 1)) ≡ n - w = ap (λ x. distance_of x (number_of (n + 1))) (sym wanted) ∙ far ∙ omega arith in
      let test : nat_le (n - w) 32767 ≡ true = grind (arith, nat_tests) in
      rw past (rw test (omega arith))
]

-- where the member is in step first by this STATE
shown_anew : (g : Group) (m c s next stamp : ℕ) → IsGroup g → (g.members m).begun c ≡ Some s → (g.members m).want c ≡ None → ToldNext (g.members m) c next stamp → stamp ≤ g.caster.numbered ((g.members m).boots c) → g.caster.numbered ((g.members m).boots c) ≤ stamp + 30000
    → max (number_of (s + 1)) (number_of (s + 1) + ahead (fresh (number_of (s + 1))) next) ≤ number_of (s + 1) + (g.caster.numbered ((g.members m).boots c) - s)
shown_anew g m c s next stamp h begun out t by_now recent =
    let n = t.numbered in
    let start = number_of (s + 1) in
    let numbered = g.caster.numbered ((g.members m).boots c) in
    let come = had_come-start g m c s t.place begun t.had_come out in
    let near = t.near in
    let by_then = t.by_then in
    let stamped = t.stamped in
    let place_is : place (g.members m) c ≡ s = place-begun (g.members m) c s out begun in
    let leads = (h.each m).place_near c s begun in
    let far : ahead (fresh start) (number_of (n + 1)) ≤ numbered - s = ahead_within (fresh start) s n numbered (number_again (s + 1)) (omega arith) (omega arith) (omega arith) in
    subst (λ x. max start (start + ahead (fresh start) x) ≤ start + (numbered - s)) (sym t.next_is) (omega (arith, far))

-- and where it was
shown_more : (g : Group) (m c s next stamp w shown : ℕ) (r : Receiving) → IsGroup g → (g.members m).begun c ≡ Some s → (g.members m).want c ≡ Some w → number_of (w + 1) ≡ number_of r.wanted → ToldNext (g.members m) c next stamp → stamp ≤ g.caster.numbered ((g.members m).boots c)
    → g.caster.numbered ((g.members m).boots c) ≤ stamp + 30000 → shown ≤ r.wanted + (g.caster.numbered ((g.members m).boots c) - w)
    → max shown (r.wanted + ahead r next) ≤ r.wanted + (g.caster.numbered ((g.members m).boots c) - w)
shown_more g m c s next stamp w shown r h begun want wanted t by_now recent before =
    let n = t.numbered in
    let numbered = g.caster.numbered ((g.members m).boots c) in
    let come = had_come-place g m c s t.place h begun t.had_come w want in
    let near = t.near in
    let by_then = t.by_then in
    let stamped = t.stamped in
    let place_is : place (g.members m) c ≡ w = place-want (g.members m) c w want in
    let leads = (h.each m).place_near c s begun in
    let far : ahead r (number_of (n + 1)) ≤ numbered - w = ahead_within r w n numbered wanted (omega arith) (omega arith) (omega arith) in
    subst (λ x. max shown (r.wanted + ahead r x) ≤ r.wanted + (numbered - w)) (sym t.next_is) (omega (arith, far, before))

noted_shown : (next : ℕ) (c : Contact) (o : Option Receiving) (r : Receiving) → o ≡ Some r → (noted_in next c o).shown ≡ max c.shown (r.wanted + ahead r next)
noted_shown next c o r is = ap (λ p. (noted_in next c p).shown) is

tell_in : (g : Group) (m c s next stamp : ℕ) (k : Contact) (o : Option Receiving) → k.window ≡ o → IsGroup g → (g.members m).at ≡ Some c → k.boot ≡ (g.members m).boots c → IsWindow g m c o → WasShownIn g m c k.shown o → (g.members m).begun c ≡ Some s
    → ToldNext (g.members m) c next stamp → stamp ≤ g.caster.numbered ((g.members m).boots c) → g.caster.numbered ((g.members m).boots c) ≤ stamp + 30000
    → MemberTurns g m (λ l. l ≡ stepped_member (g.members m) c s o) (Some (told (number_of (s + 1)) next k))
tell_in g m c s next stamp k None there h at boots is within begun t by_now recent =
    let n = g.members m in
    let l = in_step_from n c s in
    let after : Group = record { caster = g.caster; members = put m l g.members } in
    let here : after.members m ≡ l = put_same m l g.members in
    let start = number_of (s + 1) in
    let stepping = stepped_none start k there in
    let kept = noted_window next (stepped start k) (stepped start k).window in
    let wants : (after.members m).want c ≡ Some s = ap (λ (i : Member). i.want c) here ∙ put_same c (Some s) n.want in
    let shows : (told start next k).shown ≡ max start (start + ahead (fresh start) next) =
    noted_shown next (stepped start k) (stepped start k).window (fresh start) (ap (λ (d : Contact). d.window) stepping) ∙ ap (λ (d : Contact). max d.shown (start + ahead (fresh start) next)) stepping in
    let low = shown_anew g m c s next stamp h begun is t by_now recent in
    let low_after : WasShownIn after m c (max start (start + ahead (fresh start) next)) (Some (fresh start)) = λ w want.
    let same : s ≡ w = same_Some s w (sym wants ∙ want) in
    subst (λ x. max start (start + ahead (fresh start) next) ≤ start + (g.caster.numbered ((after.members m).boots c) - x)) same
    (subst (λ (i : Member). max start (start + ahead (fresh start) next) ≤ start + (g.caster.numbered (i.boots c) - s)) (sym here) low) in
    record {
      after = after;
      runs = go_on (changes m l (steps_in at is begun)) none;
      caster = refl;
      others = λ i never. put_other m l g.members i never;
      one = here;
      listens = listens_as after m c (max start (start + ahead (fresh start) next)) (told start next k) k.boot (Some (fresh start)) (kept.1 ∙ ap (λ (d : Contact). d.boot) stepping) (kept.0 ∙ ap (λ (d : Contact). d.window) stepping) shows (ap (λ (i : Member). i.at) here ∙ at)
          (boots ∙ sym (ap (λ (i : Member). i.boots c) here)) (s, wants, number_again (s + 1), λ d u e. absurd (let no : ⊥ = cc in no)) low_after;
    }
tell_in g m c s next stamp k (Some r) there h at boots is within begun t by_now recent =
    let start = number_of (s + 1) in
    let stepping = stepped_some start k r there in
    let kept = noted_window next (stepped start k) (stepped start k).window in
    let shows : (told start next k).shown ≡ max k.shown (r.wanted + ahead r next) =
    noted_shown next (stepped start k) (stepped start k).window r (ap (λ (d : Contact). d.window) stepping ∙ there) ∙ ap (λ (d : Contact). max d.shown (r.wanted + ahead r next)) stepping in
    record {
      after = g;
      runs = none;
      caster = refl;
      others = λ i never. refl;
      one = refl;
      listens = listens_as g m c (max k.shown (r.wanted + ahead r next)) (told start next k) k.boot (Some r) (kept.1 ∙ ap (λ (d : Contact). d.boot) stepping) (kept.0 ∙ ap (λ (d : Contact). d.window) stepping ∙ there) shows at boots is
          (λ w want. shown_more g m c s next stamp w k.shown r h begun want (subst (λ x. number_of (x + 1) ≡ number_of r.wanted) (same_Some is.0 w (sym is.1 ∙ want)) is.2) t by_now recent (within w want));
    }

-- the contact in which the member is
same_contact : (g : Group) (m c d : ℕ) → (g.members m).at ≡ Some c → (g.members m).at ≡ Some d → c ≡ d
same_contact g m c d one two = same_Some c d (sym one ∙ two)

pub tell_runs : (g : Group) (m c s next stamp : ℕ) (k : Contact) → IsGroup g → IsListening g m (Some k) → (g.members m).at ≡ Some c → (g.members m).begun c ≡ Some s → ToldNext (g.members m) c next stamp → stamp ≤ g.caster.numbered ((g.members m).boots c)
    → g.caster.numbered ((g.members m).boots c) ≤ stamp + 30000 → MemberTurns g m (λ l. l ≡ stepped_member (g.members m) c s k.window) (Some (told (number_of (s + 1)) next k))
tell_runs g m c s next stamp k law h at begun t by_now recent =
    let same = same_contact g m h.0 c h.1 at in
    tell_in g m c s next stamp k k.window refl law at (subst (λ d. k.boot ≡ (g.members m).boots d) same h.2) (subst (λ d. IsWindow g m d k.window) same h.3) (subst (λ d. WasShownIn g m d k.shown k.window) same h.4) begun t by_now recent

-- ---- packets are taken

took_none : (k : Member) (c : ℕ) → TookIn k k c []
took_none k c = record {
  boots = refl;
  joined_is = refl;
  acked = refl;
  begun = refl;
  at = refl;
  last = refl;
  want = λ d other. refl;
  out_here = sym (append-nil (k.out c));
  out = λ d other. refl;
}

took_more : (k l n : Member) (c : ℕ) (ps qs : List (List ℕ)) → TookIn k l c ps → TookIn l n c qs → TookIn k n c (ps ++ qs)
took_more k l n c ps qs one two = record {
  boots = two.boots ∙ one.boots;
  joined_is = two.joined_is ∙ one.joined_is;
  acked = two.acked ∙ one.acked;
  begun = two.begun ∙ one.begun;
  at = two.at ∙ one.at;
  last = two.last ∙ one.last;
  want = λ d other. two.want d other ∙ one.want d other;
  out_here = two.out_here ∙ ap (λ xs. xs ++ qs) one.out_here ∙ append_assoc (k.out c) ps qs;
  out = λ d other. two.out d other ∙ one.out d other;
}

took_one : (k : Member) (c w : ℕ) (ps : List (List ℕ)) → TookIn k (taking k c w ps) c ps
took_one k c w ps = record {
  boots = refl;
  joined_is = refl;
  acked = refl;
  begun = refl;
  at = refl;
  last = refl;
  want = λ d other. put_other c (Some (w + 1)) k.want d other;
  out_here = put_same c (k.out c ++ ps) k.out;
  out = λ d other. put_other c (k.out c ++ ps) k.out d other;
}

abbrev taken_packets : List (Option Taken) → List (List ℕ)
taken_packets held = map (λ (t : Taken). t.packet) (run_of held)

-- these packets were taken, and the place behind them is wanted
record Drains (g : Group) (m c w : ℕ) (ps : List (List ℕ)) : Type 0 where
  after : Group
  runs : Runs g after
  caster : after.caster ≡ g.caster
  others : (i : ℕ) → (i ≡ m → ⊥) → after.members i ≡ g.members i
  wants : (after.members m).want c ≡ Some w
  took : TookIn (g.members m) (after.members m) c ps

drains_none : (g : Group) (m c w : ℕ) → (g.members m).want c ≡ Some w → Drains g m c (w + 0) []
drains_none g m c w want =
    let same : w ≡ w + 0 = omega arith in
    record { after = g; runs = none; caster = refl; others = λ i never. refl; wants = want ∙ ap Some same; took = took_none (g.members m) c }

drain_runs : (held : List (Option Taken)) (g : Group) (m c boot w : ℕ) → (g.members m).at ≡ Some c → (g.members m).want c ≡ Some w → (g.members m).boots c ≡ boot → HoldsAt g.caster m c boot w held
    → Drains g m c (w + length (run_of held)) (taken_packets held)
drain_runs [] g m c boot w at want boots holds = drains_none g m c w want
drain_runs (None ∷ held) g m c boot w at want boots holds = drains_none g m c w want
drain_runs (Some t ∷ held) g m c boot w at want boots holds =
    let k = g.members m in
    let a = g.caster in
    let first : IsAt a m c boot (w + 0) t.packet = holds 0 t refl in
    let zero : w + 0 ≡ w = omega arith in
    let now : IsAt a m c (k.boots c) w t.packet = subst (λ f. IsAt a m c f w t.packet) (sym boots) (subst (λ x. IsAt a m c boot x t.packet) zero first) in
    let ps = packets w (w + 1) (a.line (k.boots c)) in
    let l = taking k c w ps in
    let h : Group = record { caster = a; members = put m l g.members } in
    let here : h.members m ≡ l = put_same m l g.members in
    let behind : HoldsAt a m c boot (w + 1) held = λ d u is.
    let there : slice_index_or (Some t ∷ held) (1 + d) None ≡ Some u = sym (get_or-drop 1 (Some t ∷ held) d None) ∙ is in
    let sum : w + (1 + d) ≡ w + 1 + d = omega arith in
    subst (λ x. IsAt a m c boot x u.packet) sum (holds (1 + d) u there) in
    let more = drain_runs held h m c boot (w + 1) (ap (λ (i : Member). i.at) here ∙ at) (ap (λ (i : Member). i.want c) here ∙ put_same c (Some (w + 1)) k.want) (ap (λ (i : Member). i.boots c) here ∙ boots) behind in
    let count : w + 1 + length (run_of held) ≡ w + length (run_of (Some t ∷ held)) = omega arith in
    let took : TookIn k (h.members m) c (t.packet ∷ []) = subst (λ i. TookIn k i c (t.packet ∷ [])) (sym here) (subst (λ qs. TookIn k l c qs) now.packet_is (took_one k c w ps)) in
    record {
      after = more.after;
      runs = go_on (changes m l (takes at want now.numbered now.own)) more.runs;
      caster = more.caster;
      others = λ i never. more.others i never ∙ put_other m l g.members i never;
      wants = more.wants ∙ ap Some count;
      took = took_more k (h.members m) (more.after.members m) c (t.packet ∷ []) (taken_packets held) took more.took;
    }

-- ---- a packet arrives

-- it is held at its distance, where it is new there
holds_more : (a : Caster) (m c boot w : ℕ) (r : Receiving) (d : ℕ) (t : Taken) → HoldsAt a m c boot w r.held → IsAt a m c boot (w + d) t.packet → HoldsAt a m c boot w (arrived_at r d t).held
holds_more a m c boot w r d t holds now =
    elim (is_new r d) as (λ b. HoldsAt a m c boot w (if b then record { wanted = r.wanted; held = filled r.held d t } else r).held) [
      | true ↦ λ e u is. elim (same_or_not e d) [
        | inl same ↦
            let both : Some t ≡ Some u = sym (filled-same r.held d t) ∙ subst (λ i. slice_index_or (filled r.held d t) i None ≡ Some u) same is in
            subst (λ i. IsAt a m c boot (w + i) u.packet) (sym same) (subst (λ (v : Taken). IsAt a m c boot (w + d) v.packet) (same_Some t u both) now)
        | inr never ↦ holds e u (sym (filled-other r.held d e t never) ∙ is)
      ]
      | false ↦ holds
    ]

stays_wanted : (r : Receiving) (d : ℕ) (t : Taken) → (arrived_at r d t).wanted ≡ r.wanted
stays_wanted r d t = elim (is_new r d) as (λ b. (if b then record { wanted = r.wanted; held = filled r.held d t } else r).wanted ≡ r.wanted) [
  | true ↦ refl
  | false ↦ refl
]

pub packets_one : (line : List Accepted) (x : ℕ) (e : Accepted) → slice_get line x ≡ Some e → packets x (x + 1) line ≡ e.packet ∷ []
unfolding packets
packets_one line x e is =
    let within : x < length line = slice_get_within line x e is in
    let some : 0 < length (drop x line) = omega (arith, within, length-drop x line) in
    let one : x + 1 - x ≡ 0 + 1 = omega arith in
    let zero : x + 0 ≡ x = omega arith in
    let first : take (0 + 1) (drop x line) ≡ e ∷ [] = take_more (drop x line) 0 e some ∙ ap (λ y. y ∷ []) (get_or-drop x line 0 e ∙ ap (λ i. slice_index_or line i e) zero ∙ get_or_from_slice_get line x e e is) in
    ap (λ n. map (λ (y : Accepted). y.packet) (take n (drop x line))) one ∙ ap (map (λ (y : Accepted). y.packet)) first

pub mark-is : (line : List Accepted) (m x : ℕ) (e : Accepted) → slice_get line x ≡ Some e → mark line m x ≡ e.members m
unfolding mark
mark-is line m x e is = ap (mark_in m) is

-- the window after a packet that is for the member: each packet in it stands at its place
arrived_holds : (g : Group) (m c w boot x set stamp : ℕ) (r : Receiving) (t : Taken) → IsGroup g → IsNodeWord m → (g.members m).at ≡ Some c → (g.members m).want c ≡ Some w → (g.members m).boots c ≡ boot → number_of (w + 1) ≡ number_of r.wanted
    → HoldsAt g.caster m c boot w r.held → IsCastAt g.caster boot x set stamp t.packet → is_member m set ≡ true → g.caster.numbered boot ≤ stamp + 30000 → t.number ≡ number_of (x + 1)
    → HoldsAt g.caster m c boot w (with_packet r t).held × ((with_packet r t).wanted ≡ r.wanted)
arrived_holds g m c w boot x set stamp r t h node at want boots wanted holds cast member fresh number =
    let k = g.members m in
    let a = g.caster in
    let e = cast.entry in
    let b = (h.each m).want_begun c w want in
    let marked : mark (a.line boot) m x ≡ e.members m = mark-is (a.line boot) m x e cast.there in
    let some : is_some (e.members m) ≡ true = sym (cast.members m node) ∙ member in
    elim (e.members m) as (λ o. e.members m ≡ o → HoldsAt a m c boot w (with_packet r t).held × ((with_packet r t).wanted ≡ r.wanted)) [
      | None ↦ λ is. let no : false ≡ true = sym (ap is_some is) ∙ some in absurd (let wrong : ⊥ = cc in wrong)
      | Some d ↦ λ is.
          let near : IsNear g m c d x =
          all_are_near g h m c d b.0 x stamp at b.1 (subst (λ f. mark (a.line f) m x ≡ Some d) (sym boots) (marked ∙ is)) cast.stamped (subst (λ f. a.numbered f ≤ stamp + 30000) (sym boots) fresh) in
          let here : place k c ≡ w = place-want k c w want in
          let low : w ≤ x + 30542 = subst (λ p. p ≤ x + 30542) here near.behind in
          let high : x < w + window_size + queue = subst (λ p. x < p + window_size + queue) here near.ahead in
          let by : ArrivesByPosition r (w + 1) (x + 1) t = arrives r (w + 1) (x + 1) t wanted (omega arith) (omega arith) in
          let at_number : with_packet r t ≡ arrived_at r (past_wanted r (number_of (x + 1))) t = ap (λ n. arrived_at r (past_wanted r n) t) number in
          elim (cases_lt x w) [
            | inl before ↦
                let same : with_packet r t ≡ r = at_number ∙ by.unchanged (omega arith) in
                (subst (λ (q : Receiving). HoldsAt a m c boot w q.held) (sym same) holds, ap (λ (q : Receiving). q.wanted) same)
            | inr from ↦
                let same : with_packet r t ≡ arrived_at r (x + 1 - (w + 1)) t = at_number ∙ by.after (omega arith) in
                let own : d ≡ c = near.own (subst (λ p. p ≤ x) (sym here) from) in
                let sum : w + (x + 1 - (w + 1)) ≡ x = omega arith in
                let now : IsAt a m c boot (w + (x + 1 - (w + 1))) t.packet = subst (λ y. IsAt a m c boot y t.packet) (sym sum) (record {
                  numbered = cast.numbered;
                  own = marked ∙ is ∙ ap Some own;
                  packet_is = packets_one (a.line boot) x e cast.there ∙ ap (λ p. p ∷ []) (sym cast.packet_is);
                }) in (
                  subst (λ (q : Receiving). HoldsAt a m c boot w q.held) (sym same) (holds_more a m c boot w r (x + 1 - (w + 1)) t holds now),
                  ap (λ (q : Receiving). q.wanted) same ∙ stays_wanted r (x + 1 - (w + 1)) t,
                )
          ]
    ] refl

-- what is given is what leaves the window
given_by : (p : Place) (due : List Taken) → ((p ≡ InOrder → ⊥) → due ≡ []) → map (λ (t : Taken). t.packet) due ≡ given (outcome_at p due)
given_by InOrder due empty = refl
given_by Deferred due empty = ap (map (λ (t : Taken). t.packet)) (empty (λ e. cc))
given_by Old due empty = ap (map (λ (t : Taken). t.packet)) (empty (λ e. cc))

number_moves : (w n wanted : ℕ) → number_of (w + 1) ≡ number_of wanted → number_of (w + n + 1) ≡ number_of (wanted + n)
unfolding number_of
number_moves w n wanted same = omega arith

abbrev Hears : Group → ℕ → List (List ℕ) → Member → Type 0
Hears g m ps l = (c : ℕ) × ((g.members m).at ≡ Some c) × TookIn (g.members m) l c ps

hear_in : (g : Group) (m c boot x set stamp : ℕ) (k : Contact) (r : Receiving) (t : Taken) → IsGroup g → IsNodeWord m → (g.members m).at ≡ Some c → k.boot ≡ (g.members m).boots c → boot ≡ k.boot → IsWindow g m c (Some r) → next_of r ≡ None
    → IsCastAt g.caster boot x set stamp t.packet → is_member m set ≡ true → g.caster.numbered boot ≤ stamp + 30000 → t.number ≡ number_of (x + 1) → WasShownIn g m c k.shown (Some r)
    → MemberTurns g m (Hears g m (given (outcome_in t (Some r)))) (Some (taken_in k t (Some r)))
hear_in g m c boot x set stamp k r t h node at boots era is free cast member fresh number within =
    let n = g.members m in
    let a = g.caster in
    let w = is.0 in
    let same : n.boots c ≡ boot = sym (era ∙ boots) in
    let q = with_packet r t in
    let held : HoldsAt a m c boot w r.held = subst (λ f. HoldsAt a m c f w r.held) same is.3 in
    let arrived = arrived_holds g m c w boot x set stamp r t h node at is.1 same is.2 held cast member fresh number in
    let drained_by = drain_runs q.held g m c boot w at is.1 same arrived.0 in
    let count = length (run_of q.held) in
    let after = drained_by.after in
    let l = after.members m in
    let took = drained_by.took in
    let told : taken_packets q.held ≡ given (outcome_in t (Some r)) = given_by (place_at r (past_wanted r t.number)) (run_of q.held) (λ other. due_none r (past_wanted r t.number) t free other) in
    let boots_now : l.boots c ≡ boot = ap (λ f. f c) took.boots ∙ same in
    let numbers : number_of (w + count + 1) ≡ number_of (q.wanted + count) = number_moves w count q.wanted (is.2 ∙ ap number_of (sym arrived.1)) in
    let holds : HoldsAt after.caster m c (l.boots c) (w + count) (drained q).held = λ d u there.
    let at_place : slice_index_or q.held (count + d) None ≡ Some u = sym (get_or-drop count q.held d None) ∙ there in
    let sum : w + (count + d) ≡ w + count + d = omega arith in
    subst (λ (b : Caster). IsAt b m c (l.boots c) (w + count + d) u.packet) (sym drained_by.caster)
    (subst (λ f. IsAt a m c f (w + count + d) u.packet) (sym boots_now) (subst (λ y. IsAt a m c boot y u.packet) sum (arrived.0 (count + d) u at_place))) in
    let low = within w is.1 in
    let wanted_is = arrived.1 in
    let within_here : k.shown ≤ (drained q).wanted + (a.numbered (n.boots c) - (w + count)) = omega (arith, low, wanted_is) in
    let within_after : WasShownIn after m c k.shown (Some (drained q)) = λ v want.
    let same : w + count ≡ v = same_Some (w + count) v (sym drained_by.wants ∙ want) in
    subst (λ y. k.shown ≤ (drained q).wanted + (after.caster.numbered (l.boots c) - y)) same
    (subst (λ (b : Caster). k.shown ≤ (drained q).wanted + (b.numbered (l.boots c) - (w + count))) (sym drained_by.caster)
    (subst (λ f. k.shown ≤ (drained q).wanted + (a.numbered f - (w + count))) (sym (ap (λ f. f c) took.boots)) within_here)) in
    record {
      after = after;
      runs = drained_by.runs;
      caster = drained_by.caster;
      others = drained_by.others;
      one = (c, at, subst (λ ps. TookIn n l c ps) told took);
      listens = (c, took.at ∙ at, boots ∙ sym (ap (λ f. f c) took.boots), (w + count, drained_by.wants, numbers, holds), within_after);
    }

-- ---- packets that are refused

refused_none : (own boot members : ℕ) (k : Contact) → refusal own boot members k ≡ None → (boot ≡ k.boot) × (is_in_step k ≡ true) × (is_member own members ≡ true)
refused_none own boot members k =
    elim (boot == k.boot) as (λ b. (boot == k.boot) ≡ b → (if not b then Some why.Epoch else (if not (is_in_step k) then Some why.OutOfStep else (if not (is_member own members) then Some why.NotMember else None))) ≡ None → (boot ≡ k.boot) × (is_in_step k ≡ true) × (is_member own members ≡ true)) [
      | true ↦ λ same. elim (is_in_step k) as (λ b. (if not b then Some why.OutOfStep else (if not (is_member own members) then Some why.NotMember else None)) ≡ None → (boot ≡ k.boot) × (b ≡ true) × (is_member own members ≡ true)) [
        | true ↦ elim (is_member own members) as (λ b. (if not b then Some why.NotMember else None) ≡ None → (boot ≡ k.boot) × (true ≡ true) × (b ≡ true)) [
          | true ↦ λ e. (eqb-true boot k.boot same, refl, refl)
          | false ↦ λ e. absurd (let no : ⊥ = cc in no)
        ]
        | false ↦ λ e. absurd (let no : ⊥ = cc in no)
      ]
      | false ↦ λ same e. absurd (let no : ⊥ = cc in no)
    ] refl

heard_in : (g : Group) (m c boot x set stamp : ℕ) (k : Contact) (o : Option Receiving) (t : Taken) → is_some o ≡ true → IsGroup g → IsNodeWord m → (g.members m).at ≡ Some c → k.boot ≡ (g.members m).boots c → boot ≡ k.boot → IsWindow g m c o → IsFree o
    → IsCastAt g.caster boot x set stamp t.packet → is_member m set ≡ true → g.caster.numbered boot ≤ stamp + 30000 → t.number ≡ number_of (x + 1) → WasShownIn g m c k.shown o
    → MemberTurns g m (Hears g m (given (outcome_in t o))) (Some (taken_in k t o))
heard_in g m c boot x set stamp k None t some h node at boots era is free cast member fresh number within = absurd (let no : ⊥ = cc in no)
heard_in g m c boot x set stamp k (Some r) t some h node at boots era is free cast member fresh number within = hear_in g m c boot x set stamp k r t h node at boots era is free cast member fresh number within

hear_by : (g : Group) (m boot x set stamp : ℕ) (k : Contact) (t : Taken) (o : Option Why) → refusal m boot set k ≡ o → IsGroup g → IsNodeWord m → IsListening g m (Some k) → IsFree k.window → IsCastAt g.caster boot x set stamp t.packet → g.caster.numbered boot ≤ stamp + 30000 → t.number ≡ number_of (x + 1)
    → MemberTurns g m (Hears g m (given (heard_outcome t k o))) (Some (heard t k o))
hear_by g m boot x set stamp k t (Some reason) refused h node listens free cast fresh number =
    record { after = g; runs = none; caster = refl; others = λ i never. refl; one = (listens.0, listens.1, took_none (g.members m) listens.0); listens = listens }
hear_by g m boot x set stamp k t None refused h node listens free cast fresh number =
    let may = refused_none m boot set k refused in
    heard_in g m listens.0 boot x set stamp k k.window t may.1 h node listens.1 listens.2 may.0 listens.3 free cast may.2 fresh number listens.4

pub hear_runs : (g : Group) (m boot x set stamp : ℕ) (k : Contact) (t : Taken) → IsGroup g → IsNodeWord m → IsListening g m (Some k) → IsFree k.window → IsCastAt g.caster boot x set stamp t.packet → g.caster.numbered boot ≤ stamp + 30000 → t.number ≡ number_of (x + 1)
    → MemberTurns g m (Hears g m (given (heard_outcome t k (refusal m boot set k)))) (Some (heard t k (refusal m boot set k)))
hear_runs g m boot x set stamp k t h node listens free cast fresh number = hear_by g m boot x set stamp k t (refusal m boot set k) refl h node listens free cast fresh number

-- ---- what a STATE of the member shows

last_number : (w wanted : ℕ) → number_of (w + 1) ≡ number_of wanted → number_of (wanted + 65535) ≡ number_of w
unfolding number_of
last_number w wanted same = omega arith

pub taken_is_shown : (g : Group) (m c next start : ℕ) (shown : ℕ) (received : Option Receiving) → IsWindow g m c received → (shown_in next start shown received).in_step ≡ true
    → (w : ℕ) × ((g.members m).want c ≡ Some w) × ((shown_in next start shown received).acknowledged ≡ number_of w)
taken_is_shown g m c next start shown None is step = absurd (let no : ⊥ = cc in no)
taken_is_shown g m c next start shown (Some r) is step = (is.0, is.1, last_number is.0 r.wanted is.2)
