-- What happens at the caster keeps what is true of it and its members.
use Rattle.std.proofs.Common.{◌≡◌, ℕ, ◌+◌, ◌<◌, ◌≤◌, true, false, if◌then◌else◌, List, [], ◌∷◌, ◌++◌, length, map, Option, Some, None, refl, sym, ap, ◌∙◌, subst, append-nil, eqb-true, inl, inr, arith}
use Rattle.std.specs.Prelude.{All}
use Rattle.std.specs.List.{Contains}
use Rattle.std.proofs.lemmas.List.Elements.{All-append, All-cons, All-contains, All-head, All-map, All-nil, All-tail, All-weaker}
use Rattle.tipc_types.specs.declared.link_words.BroadcastState.{BroadcastState}
use Rattle.tipc_outside.specs.declared.outgoing.Outgoing.{Outgoing}
use Rattle.tipc_send_window.specs.Sending.{IsSending}
use Rattle.tipc_broadcast.specs.Contacts.{acknowledged_to, contact_with}
use Rattle.tipc_broadcast.specs.Casting.{accepted, accepting, accepting_frames, booted, Casting, joining, leaving, leaving_frames, stating, stating_frames, with_message}
use Rattle.tipc_broadcast_law.specs.Groups.{Accepted, accepted_for, Group, is_contact, length_now, Member, numbered_now, put}
use Rattle.tipc_broadcast_law.specs.Events.{accepting_entry as accepting_one, acknowledged, booted_again, go_on, joined_in, none, restarts, Runs, without_contact}
use Rattle.tipc_broadcast_law.specs.Lines.{IsCastFrame, IsLined, KeepsLines}
use Rattle.tipc_broadcast_law.specs.Steps.{Leads, line_of, Shows}
use Rattle.tipc_broadcast_law.proofs.CasterEvents.{run_keeps}
use Rattle.tipc_broadcast_law.proofs.Consequences.{stands_together}
use Rattle.tipc_broadcast_law.proofs.Lining.{join_lines, leave_lines, send_lines, state_lines}
use Rattle.tipc_broadcast_law.proofs.Places.{put_other, put_same, same_or_not}
use Rattle.tipc_broadcast_law.proofs.calls.Calls.{join_runs, leave_runs, send_runs}
use Rattle.tipc_broadcast_law.proofs.calls.Stating.{states_run, told_places_show}
use Rattle.tipc_broadcast.specs.Pieces.{IsCastPiece}
use Rattle.tipc_casters.specs.Sights.{Aired, boot_in, CasterSight, IsAired, IsCast, IsSentPiece, IsToldBy, MemberSight, Told}
use Rattle.tipc_casters.specs.Turns.{aired, IsCall, IsRight, joins, leaves, restarted, sends, states}
use Rattle.tipc_casters.proofs.Later.{runs_later}
use Rattle.tipc_casters.proofs.Standing.{aired_later, member_later, same_put, same_side, SameMember}

-- a packet that was accepted is one that the node can cast, and of its size
abbrev IsSpelled : ℕ → Accepted → Type 0
IsSpelled own e = IsSentPiece own e.packet

-- What the caster keeps after a turn that leads to a group with this list and these members.
record IsTurn (a b : CasterSight) (g : Group) (line : List Accepted) (members : ℕ → Member) : Type 0 where
  boot : b.casting.boot ≡ a.casting.boot
  own : b.casting.own ≡ a.casting.own
  right : IsRight b.casting
  lined : IsLined line b.casting
  sides : (m : ℕ) → SameMember (g.members m) (members m)
  joined : (m : ℕ) → (members m).joined ≡ b.joined m
  begun : (m c : ℕ) → (members m).begun c ≡ b.begun m c
  numbered : (f : ℕ) → (f ≡ a.casting.boot → ⊥) → b.numbered f ≡ a.numbered f
  numbered_now_is : b.numbered a.casting.boot ≡ b.casting.sending.numbered
  put : (m c : ℕ) → boot_in c ≡ a.casting.boot → accepted_for m c line ≡ b.put m c
  put_other : (m c : ℕ) → (boot_in c ≡ a.casting.boot → ⊥) → b.put m c ≡ a.put m c
  spelled : All (IsSpelled a.casting.own) line

turned : (a b : CasterSight) (ms : ℕ → MemberSight) (line : List Accepted) (members : ℕ → Member) (more : List Aired) (h : IsCast a ms) (leads : Leads h.group line members b.casting) → IsTurn a b h.group line members
    → b.sent ≡ a.sent ++ more → All (IsAired leads.after a.casting.own) more → IsCast b ms
turned a b ms line members more h leads turn sent_is came =
    let g = h.group in
    let i = leads.after in
    let is = leads.becomes in
    let later = runs_later g i leads.runs h.law in
    let boot : g.caster.boot ≡ a.casting.boot = h.caster.boot in
    let same : (m : ℕ) → SameMember (g.members m) (i.members m) = λ m. subst (SameMember (g.members m)) (sym (is.each m)) (turn.sides m) in
    let own = a.casting.own in
    let old : All (IsAired i own) a.sent = All-weaker (IsAired g own) (IsAired i own) (λ f. aired_later g i own f later.caster) a.sent h.caster.sent in
    record {
      group = i;
      law = run_keeps g i leads.runs h.law;
      caster = record {
        boot = is.boot ∙ boot ∙ sym turn.boot;
        numbered = λ f. elim (same_or_not f a.casting.boot) [
          | inl here ↦
              let now : i.caster.numbered i.caster.boot ≡ b.casting.sending.numbered = sym leads.stands.numbered in
              let at : i.caster.boot ≡ f = is.boot ∙ boot ∙ sym here in
              ap i.caster.numbered (sym at) ∙ now ∙ sym turn.numbered_now_is ∙ ap b.numbered (sym here)
          | inr other ↦ is.numbered f (λ e. other (e ∙ boot)) ∙ h.caster.numbered f ∙ sym (turn.numbered f other)
        ];
        window = turn.right.window;
        casting = turn.right.casting;
        stands = leads.stands;
        lined = subst (λ l. IsLined l b.casting) (sym (ap i.caster.line is.boot ∙ is.line_now)) turn.lined;
        joined = λ m. ap (λ (k : Member). k.joined) (is.each m) ∙ turn.joined m;
        begun = λ m c. ap (λ (k : Member). k.begun c) (is.each m) ∙ turn.begun m c;
        put = λ m c. elim (same_or_not (boot_in c) a.casting.boot) [
          | inl here ↦ ap (accepted_for m c) (ap i.caster.line (here ∙ sym boot) ∙ is.line_now) ∙ turn.put m c here
          | inr other ↦ ap (accepted_for m c) (is.lines (boot_in c) (λ e. other (e ∙ boot))) ∙ h.caster.put m c ∙ sym (turn.put_other m c other)
        ];
        sent = subst (λ n. All (IsAired i n) b.sent) (sym turn.own) (subst (All (IsAired i own)) (sym sent_is) (All-append (IsAired i own) a.sent more old came));
        spelled = λ f. subst (λ n. All (IsSpelled n) (i.caster.line f)) (sym turn.own) (elim (same_or_not f g.caster.boot) [
          | inl here ↦ subst (All (IsSpelled own)) (sym (ap i.caster.line here ∙ is.line_now)) turn.spelled
          | inr other ↦ subst (All (IsSpelled own)) (sym (is.lines f other)) (h.caster.spelled f)
        ]);
        boot_fits = turn.right.boot;
        ahead = λ f past. (
            let low : g.caster.boot < f = subst (λ b. b < f) is.boot past in
            let was = h.caster.ahead f low in
            let other : f ≡ g.caster.boot → ⊥ = λ e. (let no : ⊥ = omega arith in no) in
            (is.lines f other ∙ was.0, is.numbered f other ∙ was.1));
      };
      members = λ m. member_later g i m (ms m) h.law later (same m) (h.members m);
    }

-- the frames of a call come into the air
came : (g : Group) (own stamp : ℕ) (frames : List Outgoing) → All (IsCastFrame g.caster own stamp) frames → All (IsAired g own) (aired stamp frames)
came g own stamp frames all = All-map (IsAired g own) (λ f. record { frame = f; stamp = stamp }) frames all

-- what left in a call whose list is this one
left_in : (a : CasterSight) (ms : ℕ → MemberSight) (line : List Accepted) (members : ℕ → Member) (v : Casting) (frames : List Outgoing) (h : IsCast a ms) (leads : Leads h.group line members v) → v.boot ≡ a.casting.boot → KeepsLines a.casting.own line v frames
    → All (IsAired leads.after a.casting.own) (aired (accepted v.sending) frames)
left_in a ms line members v frames h leads boot keeps =
    let i = leads.after in
    let at : i.caster.boot ≡ v.boot = leads.becomes.boot ∙ h.caster.boot ∙ sym boot in
    let before : h.group.caster.boot ≡ v.boot = h.caster.boot ∙ sym boot in
    came i a.casting.own (accepted v.sending) frames (keeps.sent i.caster at (ap i.caster.line (sym before) ∙ leads.becomes.line_now) (ap i.caster.numbered (sym at) ∙ sym leads.stands.numbered))

-- ---- a contact begins

pub cast_joins : (a : CasterSight) (ms : ℕ → MemberSight) (m boot c : ℕ) → IsCast a ms → contact_with m a.casting.contacts ≡ None → ((d s : ℕ) → a.begun m d ≡ Some s → d < c) → boot_in c ≡ a.casting.boot → ((d : ℕ) → (ms m).at ≡ Some d → c ≤ d)
    → IsRight (joining a.casting m boot) → IsCast (joins a m boot c) ms
cast_joins a ms m boot c h away above era free right =
    let g = h.group in
    let k = g.members m in
    let n = length_now g.caster in
    let l = joined_in k c n in
    let counted : accepted a.casting.sending ≡ n = h.caster.stands.accepted_all in
    let leads = join_runs g a.casting m boot c h.caster.stands away (λ d s is. above d s (sym (h.caster.begun m d) ∙ is)) ((h.members m).boots c ∙ era ∙ sym h.caster.boot) (λ d is. free d (sym (h.members m).at ∙ is)) in
    let b = joins a m boot c in
    turned a b ms (line_of g) (put m l g.members) [] h leads (record {
      boot = refl;
      own = refl;
      right = right;
      lined = join_lines (line_of g) a.casting m boot h.caster.lined;
      sides = same_put g.members m l (record { boots = λ d. refl; at = refl; last = refl; want = λ d. refl; out = λ d. refl });
      joined = λ i. elim (same_or_not i m) [
        | inl is ↦ subst (λ j. (put m l g.members j).joined ≡ put m (Some c) a.joined j) (sym is) (ap (λ (x : Member). x.joined) (put_same m l g.members) ∙ sym (put_same m (Some c) a.joined))
        | inr never ↦ ap (λ (x : Member). x.joined) (put_other m l g.members i never) ∙ h.caster.joined i ∙ sym (put_other m (Some c) a.joined i never)
      ];
      begun = λ i d. elim (same_or_not i m) [
        | inl is ↦
            let now : (put m l g.members m).begun d ≡ put c (Some n) k.begun d = ap (λ (x : Member). x.begun d) (put_same m l g.members) in
            let later : put c (Some n) k.begun d ≡ put c (Some (accepted a.casting.sending)) (a.begun m) d = elim (same_or_not d c) [
              | inl at ↦ subst (λ e. put c (Some n) k.begun e ≡ put c (Some (accepted a.casting.sending)) (a.begun m) e) (sym at) (put_same c (Some n) k.begun ∙ ap Some (sym counted) ∙ sym (put_same c (Some (accepted a.casting.sending)) (a.begun m)))
              | inr other ↦ put_other c (Some n) k.begun d other ∙ h.caster.begun m d ∙ sym (put_other c (Some (accepted a.casting.sending)) (a.begun m) d other)
            ] in
            subst (λ j. (put m l g.members j).begun d ≡ b.begun j d) (sym is) (now ∙ later ∙ sym (ap (λ (t : ℕ → Option ℕ). t d) (put_same m (put c (Some (accepted a.casting.sending)) (a.begun m)) a.begun)))
        | inr never ↦ ap (λ (x : Member). x.begun d) (put_other m l g.members i never) ∙ h.caster.begun i d ∙ sym (ap (λ (t : ℕ → Option ℕ). t d) (put_other m (put c (Some (accepted a.casting.sending)) (a.begun m)) a.begun i never))
      ];
      numbered = λ f other. refl;
      numbered_now_is = sym (h.caster.numbered a.casting.boot) ∙ ap g.caster.numbered (sym h.caster.boot) ∙ sym h.caster.stands.numbered;
      put = λ i d here. ap (accepted_for i d) (ap g.caster.line (h.caster.boot ∙ sym here)) ∙ h.caster.put i d;
      put_other = λ i d other. refl;
      spelled = h.caster.spelled g.caster.boot;
    }) (sym (append-nil a.sent)) (All-nil (IsAired leads.after a.casting.own))

-- ---- a contact ends

pub cast_leaves : (a : CasterSight) (ms : ℕ → MemberSight) (m : ℕ) → IsCast a ms → IsCall a.casting (leaving a.casting m) → IsCast (leaves a m) ms
cast_leaves a ms m h call =
    let g = h.group in
    let k = g.members m in
    let l = without_contact k in
    let v = leaving a.casting m in
    let leads = leave_runs g a.casting m h.caster.stands h.caster.window h.caster.casting in
    let keeps = leave_lines (line_of g) a.casting m h.caster.window h.caster.casting h.caster.lined in
    turned a (leaves a m) ms (line_of g) (put m l g.members) (aired (accepted v.sending) (leaving_frames a.casting m)) h leads (record {
      boot = call.boot;
      own = call.own;
      right = call.right;
      lined = keeps.lined;
      sides = same_put g.members m l (record { boots = λ d. refl; at = refl; last = refl; want = λ d. refl; out = λ d. refl });
      joined = λ i. elim (same_or_not i m) [
        | inl is ↦ subst (λ j. (put m l g.members j).joined ≡ put m None a.joined j) (sym is) (ap (λ (x : Member). x.joined) (put_same m l g.members) ∙ sym (put_same m None a.joined))
        | inr never ↦ ap (λ (x : Member). x.joined) (put_other m l g.members i never) ∙ h.caster.joined i ∙ sym (put_other m None a.joined i never)
      ];
      begun = λ i d. elim (same_or_not i m) [
        | inl is ↦ subst (λ j. (put m l g.members j).begun d ≡ a.begun j d) (sym is) (ap (λ (x : Member). x.begun d) (put_same m l g.members) ∙ h.caster.begun m d)
        | inr never ↦ ap (λ (x : Member). x.begun d) (put_other m l g.members i never) ∙ h.caster.begun i d
      ];
      numbered = λ f other. put_other a.casting.boot v.sending.numbered a.numbered f other;
      numbered_now_is = put_same a.casting.boot v.sending.numbered a.numbered;
      put = λ i d here. ap (accepted_for i d) (ap g.caster.line (h.caster.boot ∙ sym here)) ∙ h.caster.put i d;
      put_other = λ i d other. refl;
      spelled = h.caster.spelled g.caster.boot;
    }) refl (left_in a ms (line_of g) (put m l g.members) v (leaving_frames a.casting m) h leads call.boot keeps)

-- ---- a message

is_that : (c : ℕ) (o : Option ℕ) → is_contact c o ≡ true → o ≡ Some c
is_that c None is = absurd (let no : ⊥ = cc in no)
is_that c (Some d) is = ap Some (eqb-true d c is)

-- pieces of their size that can be cast
sent_pieces : (own : ℕ) (pieces : List (List ℕ)) → All (IsCastPiece own) pieces → All (λ piece. 16 ≤ length piece) pieces → All (λ piece. length piece ≤ 1452) pieces → All (IsSentPiece own) pieces
sent_pieces own [] cast long short = All-nil (IsSentPiece own)
sent_pieces own (p ∷ ps) cast long short =
    let Long : List ℕ → Type 0 = λ piece. 16 ≤ length piece in
    let Short : List ℕ → Type 0 = λ piece. length piece ≤ 1452 in
    All-cons (IsSentPiece own) p ps (record { piece = All-head (IsCastPiece own) p ps cast; long = All-head Long p ps long; short = All-head Short p ps short })
    (sent_pieces own ps (All-tail (IsCastPiece own) p ps cast) (All-tail Long p ps long) (All-tail Short p ps short))

-- the contact in which the caster is with a member is of its present boot
joined_era : (a : CasterSight) (ms : ℕ → MemberSight) (m c : ℕ) → IsCast a ms → a.joined m ≡ Some c → boot_in c ≡ a.casting.boot
joined_era a ms m c h is = sym ((h.members m).boots c) ∙ (h.law.each m).joined_boot c (h.caster.joined m ∙ is) ∙ h.caster.boot

pub cast_sends : (a : CasterSight) (ms : ℕ → MemberSight) (pieces : List (List ℕ)) → IsCast a ms → IsSending (with_message a.casting pieces).sending → All (λ piece. 16 ≤ length piece) pieces → All (λ piece. length piece ≤ 1452) pieces
    → All (IsCastPiece a.casting.own) pieces → length a.casting.sending.waiting < 200 → length pieces ≤ 47 → IsCall a.casting (accepting a.casting pieces) → IsCast (sends a pieces) ms
cast_sends a ms pieces h window long short cast few most call =
    let g = h.group in
    let v = accepting a.casting pieces in
    let line = line_of g ++ map (accepting_one g) pieces in
    let leads = send_runs g a.casting pieces h.caster.stands window h.caster.casting long short few most in
    let keeps = send_lines g a.casting pieces h.caster.stands window h.caster.casting long short few most h.caster.lined in
    turned a (sends a pieces) ms line g.members (aired (accepted v.sending) (accepting_frames a.casting pieces)) h leads (record {
      boot = call.boot;
      own = call.own;
      right = call.right;
      lined = keeps.lined;
      sides = λ m. same_side (g.members m);
      joined = h.caster.joined;
      begun = h.caster.begun;
      numbered = λ f other. put_other a.casting.boot v.sending.numbered a.numbered f other;
      numbered_now_is = put_same a.casting.boot v.sending.numbered a.numbered;
      put = λ m c here. stands_together g (line_of g) pieces m c ∙ ap (λ xs. xs ++ (if is_contact c (g.members m).joined then pieces else [])) (ap (accepted_for m c) (ap g.caster.line (h.caster.boot ∙ sym here)) ∙ h.caster.put m c) ∙ ap (λ o. a.put m c ++ (if is_contact c o then pieces else [])) (h.caster.joined m);
      put_other = λ m c other. elim (is_contact c (a.joined m)) as (λ b. is_contact c (a.joined m) ≡ b → a.put m c ++ (if b then pieces else []) ≡ a.put m c) [
        | true ↦ λ yes. (let at = joined_era a ms m c h (is_that c (a.joined m) yes) in absurd (other at))
        | false ↦ λ _. append-nil (a.put m c)
      ] refl;
      spelled = All-append (IsSpelled a.casting.own) (line_of g) (map (accepting_one g) pieces) (h.caster.spelled g.caster.boot) (All-map (IsSpelled a.casting.own) (accepting_one g) pieces (sent_pieces a.casting.own pieces cast long short));
    }) refl (left_in a ms line g.members v (accepting_frames a.casting pieces) h leads call.boot keeps)

-- ---- a STATE

-- the call at the caster after a STATE that leads so
stated : (a : CasterSight) (ms : ℕ → MemberSight) (m : ℕ) (seen : BroadcastState) (members : ℕ → Member) (h : IsCast a ms) → Leads h.group (line_of h.group) members (stating a.casting m seen) → ((i : ℕ) → SameMember (h.group.members i) (members i))
    → ((i : ℕ) → (members i).joined ≡ a.joined i) → ((i c : ℕ) → (members i).begun c ≡ a.begun i c) → (stating a.casting m seen).boot ≡ a.casting.boot → (stating a.casting m seen).own ≡ a.casting.own → IsRight (stating a.casting m seen) → IsCast (states a m seen) ms
stated a ms m seen members h leads sides joined begun same own right =
    let g = h.group in
    let v = stating a.casting m seen in
    let keeps = state_lines (line_of g) a.casting m seen h.caster.window h.caster.casting h.caster.lined in
    turned a (states a m seen) ms (line_of g) members (aired (accepted v.sending) (stating_frames a.casting m seen)) h leads (record {
      boot = same;
      own = own;
      right = right;
      lined = keeps.lined;
      sides = sides;
      joined = joined;
      begun = begun;
      numbered = λ f other. put_other a.casting.boot v.sending.numbered a.numbered f other;
      numbered_now_is = put_same a.casting.boot v.sending.numbered a.numbered;
      put = λ i d here. ap (accepted_for i d) (ap g.caster.line (h.caster.boot ∙ sym here)) ∙ h.caster.put i d;
      put_other = λ i d other. refl;
      spelled = h.caster.spelled g.caster.boot;
    }) refl (left_in a ms (line_of g) members v (stating_frames a.casting m seen) h leads same keeps)

-- one that doesn't say that it is in step
pub cast_states_apart : (a : CasterSight) (ms : ℕ → MemberSight) (m : ℕ) (seen : BroadcastState) → IsCast a ms → seen.in_step ≡ false → IsCall a.casting (stating a.casting m seen) → IsCast (states a m seen) ms
cast_states_apart a ms m seen h apart call =
    let g = h.group in
    let run = states_run g a.casting m seen h.caster.stands h.caster.window h.caster.casting in
    stated a ms m seen g.members h (run.apart apart) (λ i. same_side (g.members i)) h.caster.joined h.caster.begun call.boot call.own call.right

-- one that says so, and was told in the present contact, with at most 30,000 numbered since
pub cast_states : (a : CasterSight) (ms : ℕ → MemberSight) (m : ℕ) (t : Told) → IsCast a ms → Contains (ms m).told t → t.seen.in_step ≡ true → a.joined m ≡ Some t.contact → a.numbered a.casting.boot ≤ t.stamp + 30000
    → IsCall a.casting (stating a.casting m t.seen) → IsCast (states a m t.seen) ms
cast_states a ms m t h there step joined fresh call =
    let g = h.group in
    let k = g.members m in
    let told : IsToldBy g m t = All-contains (IsToldBy g m) (ms m).told t (h.members m).told there in
    let place = (told step).0 in
    let now : numbered_now g.caster ≤ t.stamp + 30000 = subst (λ n. n ≤ t.stamp + 30000) (sym (h.caster.numbered a.casting.boot) ∙ ap g.caster.numbered (sym h.caster.boot)) fresh in
    let shows : Shows g a.casting m t.seen.acknowledged = subst (λ n. Shows g a.casting m n) (sym (told step).1) (told_places_show g a.casting m t.contact place t.stamp h.law h.caster.stands (h.caster.joined m ∙ joined) (told step).2 now) in
    let run = states_run g a.casting m t.seen h.caster.stands h.caster.window h.caster.casting in
    let l = acknowledged k (acknowledged_to a.casting.sending.numbered shows.contact.acked t.seen.acknowledged) in
    stated a ms m t.seen (put m l g.members) h (run.in_step step shows) (same_put g.members m l (record { boots = λ d. refl; at = refl; last = refl; want = λ d. refl; out = λ d. refl }))
    (λ i. elim (same_or_not i m) [
      | inl is ↦ subst (λ j. (put m l g.members j).joined ≡ a.joined j) (sym is) (ap (λ (x : Member). x.joined) (put_same m l g.members) ∙ h.caster.joined m)
      | inr never ↦ ap (λ (x : Member). x.joined) (put_other m l g.members i never) ∙ h.caster.joined i
    ])
    (λ i d. elim (same_or_not i m) [
      | inl is ↦ subst (λ j. (put m l g.members j).begun d ≡ a.begun j d) (sym is) (ap (λ (x : Member). x.begun d) (put_same m l g.members) ∙ h.caster.begun m d)
      | inr never ↦ ap (λ (x : Member). x.begun d) (put_other m l g.members i never) ∙ h.caster.begun i d
    ]) call.boot call.own call.right

-- ---- a restart

pub cast_restarts : (a : CasterSight) (ms : ℕ → MemberSight) → IsCast a ms → IsRight (booted a.casting.own (a.casting.boot + 1)) → IsCast (restarted a) ms
cast_restarts a ms h right =
    let g = h.group in
    let i : Group = record { caster = booted_again g.caster; members = λ m. without_contact (g.members m) } in
    let e = g.caster.boot + 1 in
    let next : e ≡ a.casting.boot + 1 = ap (λ n. n + 1) h.caster.boot in
    let runs : Runs g i = go_on restarts none in
    let later = runs_later g i runs h.law in
    let own = a.casting.own in
    let fresh_line : put e [] g.caster.line e ≡ [] = put_same e [] g.caster.line in
    let low : g.caster.boot < e = omega arith in
    record {
      group = i;
      law = run_keeps g i runs h.law;
      caster = record {
        boot = next;
        numbered = λ f. elim (same_or_not f e) [
          | inl here ↦
              subst (λ n. put e 0 g.caster.numbered n ≡ put (a.casting.boot + 1) 0 a.numbered n) (sym here)
              (put_same e 0 g.caster.numbered ∙ sym (subst (λ n. put (a.casting.boot + 1) 0 a.numbered n ≡ 0) (sym next) (put_same (a.casting.boot + 1) 0 a.numbered)))
          | inr other ↦ put_other e 0 g.caster.numbered f other ∙ h.caster.numbered f ∙ sym (put_other (a.casting.boot + 1) 0 a.numbered f (λ is. other (is ∙ sym next)))
        ];
        window = right.window;
        casting = right.casting;
        stands = record { numbered = sym (put_same e 0 g.caster.numbered); accepted_all = sym (ap length fresh_line); members = λ m. refl };
        lined = record { unacked = tt; waiting = tt };
        joined = λ m. refl;
        begun = h.caster.begun;
        put = λ m c. elim (same_or_not (boot_in c) e) [
          | inl here ↦ ap (accepted_for m c) (ap (put e [] g.caster.line) here ∙ fresh_line ∙ sym (h.caster.ahead e low).0 ∙ ap g.caster.line (sym here)) ∙ h.caster.put m c
          | inr other ↦ ap (accepted_for m c) (put_other e [] g.caster.line (boot_in c) other) ∙ h.caster.put m c
        ];
        sent = All-weaker (IsAired g own) (IsAired i own) (λ f. aired_later g i own f later.caster) a.sent h.caster.sent;
        spelled = λ f. elim (same_or_not f e) [
          | inl here ↦ subst (All (IsSpelled own)) (sym (ap (put e [] g.caster.line) here ∙ fresh_line)) (All-nil (IsSpelled own))
          | inr other ↦ subst (All (IsSpelled own)) (sym (put_other e [] g.caster.line f other)) (h.caster.spelled f)
        ];
        boot_fits = right.boot;
        ahead = λ f past. (
            let before : g.caster.boot < f = omega arith in
            let was = h.caster.ahead f before in
            let other : f ≡ e → ⊥ = λ is. (let no : ⊥ = omega arith in no) in
            (put_other e [] g.caster.line f other ∙ was.0, put_other e 0 g.caster.numbered f other ∙ was.1));
      };
      members = λ m. member_later g i m (ms m) h.law later (record { boots = λ c. refl; at = refl; last = refl; want = λ c. refl; out = λ c. refl }) (h.members m);
    }
