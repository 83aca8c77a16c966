-- The calls of the caster are runs of the law.
use Rattle.std.proofs.Common.{◌≡◌, ℕ, zero, suc, ◌+◌, ◌-◌, ◌<◌, ◌≤◌, ◌==◌, true, false, not, cond, List, [], ◌∷◌, ◌++◌, length, map, Option, Some, None, refl, sym, ap, ◌∙◌, subst, append_assoc, append-nil, length-append, length-drop, inl, inr, eqb-true, arith}
use Rattle.std.specs.Prelude.{All}
use Rattle.std.specs.List.{find}
use Rattle.std.specs.Option.{option_or}
use Rattle.std.proofs.lemmas.Bool.Decides.{nat_tests}
use Rattle.std.proofs.lemmas.List.{length-map}
use Rattle.std.proofs.lemmas.List.Folds.{find-append}
use Rattle.tipc_send_window.specs.Sending.{IsSending, passed_over, released, Sending}
use Rattle.tipc_broadcast.specs.declared.contacts.Contact.{Contact}
use Rattle.tipc_broadcast.specs.Contacts.{contact_with, is_with, joined, member_set, without}
use Rattle.tipc_broadcast.specs.Frames.{accepted_frame}
use Rattle.tipc_broadcast.specs.Casting.{accepting, Casting, flushed, IsCasting, joining, kept_for, leaving, left_with, moved_up, next_start, rounds_of_departure, settled, with_contacts, with_message, with_sending}
use Rattle.tipc_broadcast.proofs.Keeping.{leave-keeps, offer-keeps, release-keeps, to_release}
use Rattle.tipc_broadcast.proofs.Lawful.{moved_right}
use Rattle.tipc_broadcast_law.specs.Groups.{Accepted, Caster, Group, length_now, Member, numbered_now, put, queue}
use Rattle.tipc_broadcast_law.specs.Events.{accepting_entry as accepting_one, accepts, caster_begins, caster_ends, changes, empties, go_on, joined_in, line_with, none, numbered_to, Runs, without_contact}
use Rattle.tipc_broadcast_law.proofs.Places.{put_other, put_same, same_or_not}
use Rattle.tipc_broadcast_law.specs.Steps.{Becomes, Casts, IsSeen, Leads, line_of}
use Rattle.tipc_broadcast_law.proofs.calls.Numbering.{flush_runs}

pub follow : {g h i : Group} → Runs g h → Runs h i → Runs g i
follow none more = more
follow (go_on one rest) more = go_on one (follow rest more)

-- a group with other members
pub with_members : (g : Group) (members : ℕ → Member) → Becomes g (line_of g) members (record { caster = g.caster; members = members })
with_members g members = record { boot = refl; line_now = refl; lines = λ f other. refl; numbered = λ f other. refl; each = λ m. refl }

-- what became of a group, where list and members then stayed as they were
pub stays : {g h i : Group} {line : List Accepted} {members : ℕ → Member} → Becomes g line members h → Becomes h (line_of h) h.members i → Becomes g line members i
stays {g} {h} {i} {line} one two = record {
  boot = two.boot ∙ one.boot;
  line_now = subst (λ f. i.caster.line f ≡ h.caster.line f) one.boot two.line_now ∙ one.line_now;
  lines = λ f other. two.lines f (λ is. other (is ∙ one.boot)) ∙ one.lines f other;
  numbered = λ f other. two.numbered f (λ is. other (is ∙ one.boot)) ∙ one.numbered f other;
  each = λ m. two.each m ∙ one.each m;
}

-- ---- joining

same-test : (p : ℕ) → (p == p) ≡ true
same-test p = grind (arith, nat_tests)

pub other-test : (p m : ℕ) → (m ≡ p → ⊥) → (p == m) ≡ false
other-test p m never = grind (arith, nat_tests)

or-none : (o : Option Contact) → option_or o None ≡ o
or-none None = refl
or-none (Some c) = refl

pub join_runs : (g : Group) (v : Casting) (peer boot c : ℕ) → Casts g v → contact_with peer v.contacts ≡ None
    → ((d s : ℕ) → (g.members peer).begun d ≡ Some s → d < c) → (g.members peer).boots c ≡ g.caster.boot → ((d : ℕ) → (g.members peer).at ≡ Some d → c ≤ d)
    → Leads g (line_of g) (put peer (joined_in (g.members peer) c (length_now g.caster)) g.members) (joining v peer boot)
join_runs g v peer boot c h away above era free =
    let k = g.members peer in
    let start = next_start v in
    let x = joined peer boot start in
    let l = joined_in k c (length_now g.caster) in
    let out : k.joined ≡ None = subst (IsSeen k) away (h.members peer) in
    let counted : length_now g.caster ≡ start - 1 = omega (arith, h.accepted_all) in
    let found : contact_with peer (v.contacts ++ x ∷ []) ≡ Some x = find-append (is_with peer) v.contacts (x ∷ []) ∙ ap (λ o. option_or o (cond (peer == peer) (Some x) None)) away ∙ ap (λ b. cond b (Some x) None) (same-test peer) in
    record {
      after = record { caster = g.caster; members = put peer l g.members };
      runs = go_on (changes peer l (caster_begins out above era free)) none;
      stands = record {
        numbered = h.numbered;
        accepted_all = h.accepted_all;
        members = λ m. elim (same_or_not m peer) [
          | inl is ↦
              subst (λ n. IsSeen (put peer l g.members n) (contact_with n (v.contacts ++ x ∷ []))) (sym is)
              (subst (λ o. IsSeen (put peer l g.members peer) o) (sym found) (subst (λ n. IsSeen n (Some x)) (sym (put_same peer l g.members)) (c, refl, put_same c (Some (length_now g.caster)) k.begun ∙ ap Some counted, omega arith, counted)))
          | inr never ↦
              let same : contact_with m (v.contacts ++ x ∷ []) ≡ contact_with m v.contacts = find-append (is_with m) v.contacts (x ∷ []) ∙ ap (λ b. option_or (contact_with m v.contacts) (cond b (Some x) None)) (other-test peer m never) ∙ or-none (contact_with m v.contacts) in
              subst (λ n. IsSeen n (contact_with m (v.contacts ++ x ∷ []))) (sym (put_other peer l g.members m never)) (subst (λ o. IsSeen (g.members m) o) (sym same) (h.members m))
        ];
      };
      becomes = with_members g (put peer l g.members);
    }

-- ---- leaving

gone : (peer : ℕ) (cs : List Contact) → contact_with peer (without peer cs) ≡ None
gone peer [] = refl
gone peer (c ∷ cs) =
    elim (is_with peer c) as (λ b. is_with peer c ≡ b → find (is_with peer) (cond (not b) (c ∷ without peer cs) (without peer cs)) ≡ None) [
      | true ↦ λ e. gone peer cs
      | false ↦ λ e. ap (λ b. cond b (Some c) (find (is_with peer) (without peer cs))) e ∙ gone peer cs
    ] refl

others-stay : (peer m : ℕ) (cs : List Contact) → (m ≡ peer → ⊥) → contact_with m (without peer cs) ≡ contact_with m cs
others-stay peer m [] never = refl
others-stay peer m (c ∷ cs) never =
    elim (is_with peer c) as (λ b. is_with peer c ≡ b → find (is_with m) (cond (not b) (c ∷ without peer cs) (without peer cs)) ≡ find (is_with m) (c ∷ cs)) [
      | true ↦ λ e.
          let same : c.peer.word ≡ peer = eqb-true c.peer.word peer e in
          let other : (c.peer.word == m) ≡ false = ap (λ w. w == m) same ∙ other-test peer m never in
          others-stay peer m cs never ∙ sym (ap (λ b. cond b (Some c) (find (is_with m) cs)) other)
      | false ↦ λ e. ap (λ rest. cond (is_with m c) (Some c) rest) (others-stay peer m cs never)
    ] refl

ended_stands : (g : Group) (v : Casting) (peer : ℕ) → Casts g v → Casts (record { caster = g.caster; members = put peer (without_contact (g.members peer)) g.members }) (with_contacts v (without peer v.contacts))
ended_stands g v peer h =
    let l = without_contact (g.members peer) in
    record {
      numbered = h.numbered;
      accepted_all = h.accepted_all;
      members = λ m. elim (same_or_not m peer) [
        | inl is ↦
            subst (λ n. IsSeen (put peer l g.members n) (contact_with n (without peer v.contacts))) (sym is)
            (subst (λ o. IsSeen (put peer l g.members peer) o) (sym (gone peer v.contacts)) (subst (λ n. IsSeen n None) (sym (put_same peer l g.members)) refl))
        | inr never ↦
            subst (λ n. IsSeen n (contact_with m (without peer v.contacts))) (sym (put_other peer l g.members m never))
            (subst (λ o. IsSeen (g.members m) o) (sym (others-stay peer m v.contacts never)) (h.members m))
      ];
    }

-- with nobody in contact everything is passed over
given_up : (g : Group) (v : Casting) → Casts g v → v.contacts ≡ [] → Leads g (line_of g) g.members (with_sending v (passed_over v.sending))
given_up g v h nobody =
    let a = g.caster in
    record {
      after = record { caster = numbered_to a (length_now a); members = g.members };
      runs = go_on (empties (λ m. subst (λ cs. IsSeen (g.members m) (contact_with m cs)) nobody (h.members m))) none;
      stands = record {
        numbered = h.accepted_all ∙ sym (put_same a.boot (length_now a) a.numbered);
        accepted_all = omega (arith, h.accepted_all);
        members = h.members;
      };
      becomes = record { boot = refl; line_now = refl; lines = λ f other. refl; numbered = λ f other. put_other a.boot (length_now a) a.numbered f other; each = λ m. refl };
    }

pub released-sending : (s : Sending) (n : ℕ) → IsSending s → IsSending (released s n)
released-sending s n h =
    let window = h.window in
    let begun = h.numbered in
    record { window = omega (arith, length-drop n s.unacked); numbered = omega (arith, length-drop n s.unacked); counted = h.counted }

pub settled_flush : (g : Group) (v : Casting) → Casts g v → IsSending v.sending → IsCasting v.own v.sending v.contacts → Leads g (line_of g) g.members (flushed (settled v))
unfolding settled
settled_flush g v h window is =
    flush_runs g (with_sending v (released v.sending (to_release v.sending v.contacts))) (record { numbered = h.numbered; accepted_all = h.accepted_all; members = h.members }) (released-sending v.sending (to_release v.sending v.contacts) window) (release-keeps v.own v.sending v.contacts window is)

-- however often packets are released and move up
moved_runs : (n : ℕ) (g : Group) (v : Casting) → Casts g v → IsSending v.sending → IsCasting v.own v.sending v.contacts → Leads g (line_of g) g.members (moved_up n v)
unfolding moved_up
moved_runs zero g v h window is = record { after = g; runs = none; stands = h; becomes = with_members g g.members }
moved_runs (suc n) g v h window is =
    let before = moved_runs n g v h window is in
    let right = moved_right n v (record { window = window; casting = is }) in
    let one = settled_flush before.after (moved_up n v) before.stands right.window right.casting in
    record { after = one.after; runs = follow before.runs one.runs; stands = one.stands; becomes = stays before.becomes one.becomes }

follow_departure : (g : Group) (v : Casting) (cs : List Contact) → cs ≡ v.contacts → Casts g v → IsSending v.sending → IsCasting v.own v.sending v.contacts → Leads g (line_of g) g.members (left_with cs v)
follow_departure g v [] same h window is = given_up g v h (sym same)
follow_departure g v (c ∷ cs) same h window is = moved_runs rounds_of_departure g v h window is

pub leave_runs : (g : Group) (v : Casting) (peer : ℕ) → Casts g v → IsSending v.sending → IsCasting v.own v.sending v.contacts
    → Leads g (line_of g) (put peer (without_contact (g.members peer)) g.members) (leaving v peer)
leave_runs g v peer h window is =
    let l = without_contact (g.members peer) in
    let ended : Group = record { caster = g.caster; members = put peer l g.members } in
    let rest = follow_departure ended (with_contacts v (without peer v.contacts)) (without peer v.contacts) refl (ended_stands g v peer h) window (leave-keeps v.own v.sending v.contacts peer is) in
    record { after = rest.after; runs = go_on (changes peer l caster_ends) rest.runs; stands = rest.stands; becomes = stays (with_members g (put peer l g.members)) rest.becomes }

-- ---- sending

-- the packets of a message were accepted, one behind the other, and nothing else changed
pub record Grown (g : Group) (message : List (List ℕ)) : Type 0 where
  pub after : Group
  pub runs : Runs g after
  pub count : length_now after.caster ≡ length_now g.caster + length message
  pub same : numbered_now after.caster ≡ numbered_now g.caster
  pub becomes : Becomes g (line_of g ++ map (accepting_one g) message) g.members after

line-now : (a : Caster) (x : Accepted) → put a.boot (a.line a.boot ++ x ∷ []) a.line a.boot ≡ a.line a.boot ++ x ∷ []
line-now a x = put_same a.boot (a.line a.boot ++ x ∷ []) a.line

accept_all : (message : List (List ℕ)) (g : Group) → length_now g.caster + length message ≤ numbered_now g.caster + queue → Grown g message
accept_all [] g within = record {
  after = g;
  runs = none;
  count = omega arith;
  same = refl;
  becomes = record { boot = refl; line_now = sym (append-nil (line_of g)); lines = λ f other. refl; numbered = λ f other. refl; each = λ m. refl };
}
accept_all (piece ∷ message) g within =
    let a = g.caster in
    let x = accepting_one g piece in
    let h : Group = record { caster = line_with a x; members = g.members } in
    let longer : length_now h.caster ≡ length_now a + 1 = ap length (line-now a x) ∙ length-append (a.line a.boot) (x ∷ []) in
    let more = accept_all message h (omega (arith, longer, within)) in
    let count = more.count in
    let b = more.becomes in
    record {
      after = more.after;
      runs = go_on (accepts piece (omega arith)) more.runs;
      count = omega (arith, longer, count);
      same = more.same;
      becomes = record {
        boot = b.boot;
        line_now = b.line_now ∙ ap (λ l. l ++ map (accepting_one g) message) (line-now a x) ∙ append_assoc (a.line a.boot) (x ∷ []) (map (accepting_one g) message);
        lines = λ f other. b.lines f other ∙ put_other a.boot (a.line a.boot ++ x ∷ []) a.line f other;
        numbered = b.numbered;
        each = b.each;
      };
    }

-- what waits is kept, or given up with nobody in contact
kept_runs : (g h : Group) (v : Casting) (line : List Accepted) (cs : List Contact) → cs ≡ v.contacts → Runs g h → Becomes g line g.members h → Casts h v → Leads g line g.members (kept_for cs v)
kept_runs g h v line [] same runs is stands =
    let rest = given_up h v stands (sym same) in
    record { after = rest.after; runs = follow runs rest.runs; stands = rest.stands; becomes = stays is rest.becomes }
kept_runs g h v line (c ∷ cs) same runs is stands = record { after = h; runs = runs; stands = stands; becomes = is }

pub send_runs : (g : Group) (v : Casting) (pieces : List (List ℕ)) → Casts g v → IsSending (with_message v pieces).sending → IsCasting v.own v.sending v.contacts
    → All (λ piece. 16 ≤ length piece) pieces → All (λ piece. length piece ≤ 1452) pieces → length v.sending.waiting < 200 → length pieces ≤ 47
    → Leads g (line_of g ++ map (accepting_one g) pieces) g.members (accepting v pieces)
unfolding flushed
send_runs g v pieces h window is long short few most =
    let w = with_message v pieces in
    let more = accept_all pieces g (omega (arith, h.numbered, h.accepted_all, few, most)) in
    let count = more.count in
    let same = more.same in
    let frames = map (accepted_frame v.own v.boot (member_set v.contacts)) pieces in
    let stands : Casts more.after w = record {
      numbered = h.numbered ∙ sym same;
      accepted_all = omega (arith, count, h.accepted_all, length-append v.sending.waiting frames, length-map pieces (accepted_frame v.own v.boot (member_set v.contacts)));
      members = λ m. subst (λ k. IsSeen k (contact_with m v.contacts)) (sym (more.becomes.each m)) (h.members m);
    } in
    let moved = flush_runs more.after w stands window (offer-keeps v.own v.boot (member_set v.contacts) v.sending v.contacts pieces long short few most is) in
    kept_runs g moved.after (flushed w) (line_of g ++ map (accepting_one g) pieces) v.contacts refl (follow more.runs moved.runs) (stays more.becomes moved.becomes) moved.stands
