-- What deeds one after the other leave behind: how much the session of each link end numbered, and the moment at which each frame was told.
use Rattle.std.proofs.Common.{◌≡◌, ◌⊎◌, ◌+◌, ◌≤◌, ℕ, zero, suc, true, List, [], ◌∷◌, ◌++◌, Option, Some, None, length, option_map, refl, sym, ap, ◌∙◌, subst, inl, inr, arith}
use Rattle.std.specs.Prelude.{slice_get}
use Rattle.std.proofs.lemmas.Option.{slice_get_within}
use Rattle.tipc_types.specs.declared.link_words.Reply.TheVariants as reply
use Rattle.tipc_outside.specs.declared.outgoing.Outgoing.{Outgoing}
use Rattle.tipc_send_window.specs.Sending.{Sending}
use Rattle.tipc_link_fsm.specs.declared.changes.Change.{Change}
use Rattle.tipc_link_fsm.specs.declared.changes.Change.TheVariants.{Stay, Up, Down, Answer, Ignore}
use Rattle.tipc_link_fsm.specs.Runs.{Call, outcome}
use Rattle.tipc_link.specs.Links.{LinkEnd, after, followed, handed_over, recorded, session_of, with_fsm, with_session}
use Rattle.tipc_link.specs.Parts.{is_quiet}
use Rattle.tipc_link.specs.Sessions.{SessionEnd, flushed, given_up, after_state, with_record}
use Rattle.tipc_paired.proofs.contacts.ContactDeeds.{mapped_end}
use Rattle.tipc_paired.proofs.PairedLaw.{all_paired, does_paired}
use Rattle.tipc_paired.proofs.sessions.RiseDeeds.{went}
use Rattle.tipc_paired.proofs.wires.Wires.{on_put, prefix_long, put_same, same_some, session_of_up}
use Rattle.tipc_paired.specs.Deeds.{Besides, Changes, DoesDeed, DoesAll, IsUp, MayTell, Works, besides, calls, changes, counts, ended_with, falls, falls_beside, follows, forgot_with, framed, hands_over, makes, notes, nothing, numbers, parted_view, parts, puts, releases, restarts, rises, rises_beside, shows, takes, tells, turns, with_begun, works}
use Rattle.tipc_paired.specs.Paired.{ArePaired}
use Rattle.tipc_paired.specs.Views.{Frame, Node, View, Wire, er_of, es_of, with_end, with_wire}

-- ---- how much was numbered

-- how many packets the present session numbered, or the last one
abbrev pub IsLastCounted : Wire → Type 0
IsLastCounted w = (e : LinkEnd) (s : SessionEnd) → w.end ≡ Some e → e.session ≡ Some s → length (w.line s.epoch) ≡ s.sending.numbered

abbrev pub AreLastCounted : View → Type 0
AreLastCounted x = (b : ℕ) → IsLastCounted (x.wires b)

counted_on : (x : View) (b : ℕ) (w' : Wire) → AreLastCounted x → IsLastCounted w' → AreLastCounted (with_wire x b w')
counted_on x b w' h here = on_put x.wires b w' (λ c (w : Wire). IsLastCounted w) here h

-- a link that is up
up_counted : (x y : View) (b : ℕ) (e : LinkEnd) (s : SessionEnd) → ArePaired x y → IsUp (x.wires b) e s → IsLastCounted (x.wires b)
up_counted x y b e s h up d t is has =
    let same : e ≡ d = same_some e d _ up.end_is is in
    let session : s ≡ t = same_some s t _ up.session_is (ap (λ (k : LinkEnd). k.session) same ∙ has) in
    let going = (h.here.wires b).going s (session_of_up (x.wires b) e s up) in
    subst (λ (u : SessionEnd). length ((x.wires b).line u.epoch) ≡ u.sending.numbered) session going.sends.count

-- the wire on which a link is up now
up_on_put : (x y : View) (b : ℕ) (w' : Wire) (e : LinkEnd) (s : SessionEnd) → AreLastCounted x → ArePaired (with_wire x b w') y → IsUp w' e s → AreLastCounted (with_wire x b w')
up_on_put x y b w' e s h paired up =
    let same = put_same x.wires b w' in
    counted_on x b w' h (subst IsLastCounted same (up_counted (with_wire x b w') y b e s paired (subst (λ w. IsUp w e s) (sym same) up)))

-- a call after which no session begins keeps the session, or the last one
kept_session : (e : LinkEnd) (c : Change) (s : SessionEnd) → (c ≡ Up → ⊥) → (followed e c).session ≡ Some s → (t : SessionEnd) × (e.session ≡ Some t) × (s.epoch ≡ t.epoch) × (s.sending ≡ t.sending)
kept_session e Up s apart has = absurd (apart refl)
kept_session e (Answer (reply.State probe)) s apart has = kept e.session refl has where
  kept : (o : Option SessionEnd) → e.session ≡ o → option_map after_state o ≡ Some s → (t : SessionEnd) × (e.session ≡ Some t) × (s.epoch ≡ t.epoch) × (s.sending ≡ t.sending)
  kept None is has = absurd (let wrong : ⊥ = cc in wrong)
  kept (Some t) is has = (let same : after_state t ≡ s = cc in (t, is, ap (λ (u : SessionEnd). u.epoch) (sym same), ap (λ (u : SessionEnd). u.sending) (sym same)))
kept_session e (Answer reply.Reset) s apart has = (s, has, refl, refl)
kept_session e (Answer reply.Activate) s apart has = (s, has, refl, refl)
kept_session e Stay s apart has = (s, has, refl, refl)
kept_session e (Ignore why) s apart has = (s, has, refl, refl)
kept_session e (Down cause) s apart has = (s, has, refl, refl)

-- a session of the same epoch that has sent the same
still_counted : (w : Wire) (s t : SessionEnd) → s.epoch ≡ t.epoch → s.sending ≡ t.sending → length (w.line t.epoch) ≡ t.sending.numbered → length (w.line s.epoch) ≡ s.sending.numbered
still_counted w s t epoch sending counted = ap (λ n. length (w.line n)) epoch ∙ counted ∙ ap (λ (z : Sending). z.numbered) (sym sending)

called_counted : (w : Wire) (e : LinkEnd) (call : Call) → IsLastCounted w → w.end ≡ Some e → ((outcome e.fsm call).change ≡ Up → ⊥) → IsLastCounted (with_end w (after e (outcome e.fsm call)))
called_counted w e call h is apart d s is_d has =
    let o = outcome e.fsm call in
    let same : after e o ≡ d = cc in
    let old = kept_session (with_fsm e o.after) o.change s apart (ap (λ (k : LinkEnd). k.session) same ∙ has) in
    still_counted w s old.0 old.2 old.3 (h e old.0 is old.1)

-- ends that keep their sessions
mapped_counted : (f : LinkEnd → LinkEnd) (w : Wire) → ((e : LinkEnd) → (f e).session ≡ e.session) → IsLastCounted w → IsLastCounted (record w { end = option_map f w.end })
mapped_counted f w still h d s is has = (let at = mapped_end f w.end d is in h at.0 s at.1 (sym (still at.0) ∙ ap (λ (k : LinkEnd). k.session) at.2 ∙ has))

quiet_no_up : (c : Change) → is_quiet c ≡ true → c ≡ Up → ⊥
quiet_no_up Up quiet is = absurd (let wrong : ⊥ = cc in wrong)
quiet_no_up other quiet is = (let wrong : ⊥ = cc in wrong)

work_counted : (x y v : View) → AreLastCounted x → ArePaired v y → Works x y v → AreLastCounted v
work_counted x y _ h paired (makes b none) = counted_on x b _ h (λ d s is has. absurd (let wrong : ⊥ = cc in wrong))
work_counted x y _ h paired (turns b e mended is) = counted_on x b _ h (λ d s is_d has. (let same : record e { mended = mended } ≡ d = cc in h b e s is (ap (λ (k : LinkEnd). k.session) same ∙ has)))
work_counted x y _ h paired (calls b e call is may quiet) = counted_on x b _ h (called_counted (x.wires b) e call (h b) is (quiet_no_up (outcome e.fsm call).change quiet))
work_counted x y _ h paired (shows number higher fits apart heard) = λ b. mapped_counted (forgot_with number) (x.wires b) (λ e. refl) (h b)
work_counted x y _ h paired (releases b e s p up a) = up_on_put x y b _ (with_session e _) _ h paired (record { end_is = refl; up = up.up; session_is = refl })
work_counted x y _ h paired (notes b e s shown unanswered owes up most) = up_on_put x y b _ (with_session e _) _ h paired (record { end_is = refl; up = up.up; session_is = refl })
work_counted x y _ h paired (numbers b e s up) = up_on_put x y b _ (with_session e (flushed s)) (flushed s) h paired (record { end_is = refl; up = up.up; session_is = refl })
work_counted x y _ h paired (tells b o may) = h

parted_counted : (x : View) → AreLastCounted x → AreLastCounted (parted_view x)
parted_counted x h b = mapped_counted (ended_with (x.node.contact + 1)) (x.wires b) (λ e. refl) (h b)

change_counted : (x y v : View) → AreLastCounted x → ArePaired x y → ArePaired v y → Changes x y v → AreLastCounted v
change_counted x y _ h was paired (rises b e call is may up apart) =
    let m = went x y b e call was is may up in
    up_on_put x y b (with_begun x.node (x.wires b) (after e (outcome e.fsm call))) (after e (outcome e.fsm call)) (session_of (after e (outcome e.fsm call))) h paired (record { end_is = refl; up = m.1.raised.up; session_is = m.1.raised.session })
change_counted x y _ h was paired (falls b e call cause is may down) =
    parted_counted (with_wire x b (with_end (x.wires b) (after e (outcome e.fsm call)))) (counted_on x b _ h (called_counted (x.wires b) e call (h b) is (λ up. (let both = sym down ∙ up in let wrong : ⊥ = cc in wrong))))
change_counted x y _ h was paired (parts b e is up) = parted_counted x h
change_counted x y _ h was paired (restarts boot more fits) = λ b d s is has. absurd (let wrong : ⊥ = cc in wrong)

-- a session that a step of its end made
mapped_session : (f : SessionEnd → SessionEnd) (o : Option SessionEnd) (s : SessionEnd) → option_map f o ≡ Some s → (t : SessionEnd) × (o ≡ Some t) × (f t ≡ s)
mapped_session f None s is = absurd (let wrong : ⊥ = cc in wrong)
mapped_session f (Some t) s is = (t, refl, (let same : f t ≡ s = cc in same))

beside_counted : (x y v : View) → AreLastCounted x → ArePaired x y → ArePaired v y → Besides x y v → AreLastCounted v
beside_counted x y _ h was paired (rises_beside b e call is may up beside) =
    let m = went x y b e call was is may up in
    up_on_put x y b (with_begun x.node (x.wires b) (after e (outcome e.fsm call))) (after e (outcome e.fsm call)) (session_of (after e (outcome e.fsm call))) h paired (record { end_is = refl; up = m.1.raised.up; session_is = m.1.raised.session })
beside_counted x y _ h was paired (falls_beside b e call cause is may down beside) =
    counted_on x b _ h (called_counted (x.wires b) e call (h b) is (λ up. (let both = sym down ∙ up in let wrong : ⊥ = cc in wrong)))
beside_counted x y _ h was paired (hands_over b e is down) = counted_on x b _ h (λ d s is_d has. (
    let same : handed_over e ≡ d = cc in
    let old = mapped_session given_up e.session s (ap (λ (k : LinkEnd). k.session) same ∙ has) in
    let counted = h b e old.0 is old.1 in
    ap (λ (u : SessionEnd). length ((x.wires b).line u.epoch)) (sym old.2) ∙ counted ∙ ap (λ (u : SessionEnd). u.sending.numbered) old.2))
beside_counted x y _ h was paired (counts b e r more m) = counted_on x b _ h (λ d s is_d has. (
    let same : recorded e r ≡ d = cc in
    let old = mapped_session (λ t. with_record t r) e.session s (ap (λ (k : LinkEnd). k.session) same ∙ has) in
    let counted = h b e old.0 m.end_is old.1 in
    ap (λ (u : SessionEnd). length ((x.wires b).line u.epoch)) (sym old.2) ∙ counted ∙ ap (λ (u : SessionEnd). u.sending.numbered) old.2))

does_counted : (x y v : View) → AreLastCounted x → ArePaired x y → DoesDeed x y v → AreLastCounted v
does_counted x y v h was one = of_deed (does_paired x y v was one) one where
  of_deed : {z : View} → ArePaired z y → DoesDeed x y z → AreLastCounted z
  of_deed paired (works z w) = work_counted x y z h paired w
  of_deed paired (changes z c) = change_counted x y z h was paired c
  of_deed paired (besides z c) = beside_counted x y z h was paired c
  of_deed paired (puts b e s waiting up packets) = up_on_put x y b _ (with_session e _) _ h paired (record { end_is = refl; up = up.up; session_is = refl })
  of_deed paired (takes b e s p number by packet up a is) = up_on_put x y b _ (with_session e _) _ h paired (record { end_is = refl; up = up.up; session_is = refl })

pub all_counted : (x y after : View) → AreLastCounted x → ArePaired x y → DoesAll x y after → AreLastCounted after
all_counted x y _ h paired nothing = h
all_counted x y after h paired (follows mid _ all one) = does_counted mid y after (all_counted x y mid h paired all) (all_paired x y mid paired all) one

-- ---- the frames that were told

-- A frame that x told between two moments: the moment between at which it did.
pub record IsToldAt (x y after : View) (f : Frame) : Type 0 where
  pub mid : View
  pub before : DoesAll x y mid
  pub behind : DoesAll mid y after
  pub bearer : ℕ
  pub frame : Outgoing
  pub may : MayTell (mid.wires bearer) frame
  pub is : f ≡ framed mid y bearer frame

-- what one deed tells
abbrev Tells : View → View → View → Frame → Type 0
Tells x y v f = (b : ℕ) × (o : Outgoing) × MayTell (x.wires b) o × (f ≡ framed x y b o)

told_by_work : (x y v : View) (k : ℕ) (f : Frame) → Works x y v → slice_get v.told k ≡ Some f → (slice_get x.told k ≡ Some f) ⊎ Tells x y v f
told_by_work x y _ k f (makes b none) there = inl there
told_by_work x y _ k f (turns b e mended is) there = inl there
told_by_work x y _ k f (calls b e call is may quiet) there = inl there
told_by_work x y _ k f (shows number higher fits apart heard) there = inl there
told_by_work x y _ k f (releases b e s p up a) there = inl there
told_by_work x y _ k f (notes b e s shown unanswered owes up most) there = inl there
told_by_work x y _ k f (numbers b e s up) there = inl there
told_by_work x y _ k f (tells b o may) there = last_of x.told k there where
  last_of : (after_state : List Frame) (k : ℕ) → slice_get (after_state ++ framed x y b o ∷ []) k ≡ Some f → (slice_get after_state k ≡ Some f) ⊎ Tells x y x f
  last_of [] zero there = inr (b, o, may, (let same : framed x y b o ≡ f = cc in sym same))
  last_of [] (suc k) there = absurd (let wrong : ⊥ = cc in wrong)
  last_of (g ∷ after_state) zero there = inl there
  last_of (g ∷ after_state) (suc k) there = last_of after_state k there

told_by_change : (x y v : View) (k : ℕ) (f : Frame) → Changes x y v → slice_get v.told k ≡ Some f → slice_get x.told k ≡ Some f
told_by_change x y _ k f (rises b e call is may up apart) there = there
told_by_change x y _ k f (falls b e call cause is may down) there = there
told_by_change x y _ k f (parts b e is up) there = there
told_by_change x y _ k f (restarts boot more fits) there = there

told_by_beside : (x y v : View) (k : ℕ) (f : Frame) → Besides x y v → slice_get v.told k ≡ Some f → slice_get x.told k ≡ Some f
told_by_beside x y _ k f (rises_beside b e call is may up beside) there = there
told_by_beside x y _ k f (falls_beside b e call cause is may down beside) there = there
told_by_beside x y _ k f (hands_over b e is down) there = there
told_by_beside x y _ k f (counts b e r more m) there = there

told_by : (x y v : View) (k : ℕ) (f : Frame) → DoesDeed x y v → slice_get v.told k ≡ Some f → (slice_get x.told k ≡ Some f) ⊎ Tells x y v f
told_by x y _ k f (works v w) there = told_by_work x y v k f w there
told_by x y _ k f (changes v c) there = inl (told_by_change x y v k f c there)
told_by x y _ k f (besides v c) there = inl (told_by_beside x y v k f c there)
told_by x y _ k f (puts b e s waiting up packets) there = inl there
told_by x y _ k f (takes b e s p number by packet up a is) there = inl there

-- a frame that stands behind those of before was told by these deeds
pub told_at : (x y after : View) → DoesAll x y after → (k : ℕ) (f : Frame) → slice_get after.told k ≡ Some f → length x.told ≤ k → IsToldAt x y after f
told_at x y _ nothing k f there behind = absurd (let within = slice_get_within x.told k f there in let wrong : ⊥ = omega arith in wrong)
told_at x y after (follows mid _ all one) k f there behind = elim (told_by mid y after k f one there) [
  | inl before ↦
      let t = told_at x y mid all k f before behind in
      record { mid = t.mid; before = t.before; behind = follows mid after t.behind one; bearer = t.bearer; frame = t.frame; may = t.may; is = t.is }
  | inr new ↦ record { mid = mid; before = all; behind = follows mid after nothing one; bearer = new.0; frame = new.1; may = new.2; is = new.3 }
]

-- nothing that y took was numbered behind it
pub told_taken : (x y after : View) (f : Frame) → ArePaired x y → IsToldAt x y after f → length ((y.wires f.bearer).got (es_of f.bytes)) ≤ f.numbered
told_taken x y after f h t = subst (λ (g : Frame). length ((y.wires g.bearer).got (es_of g.bytes)) ≤ g.numbered) (sym t.is) (prefix_long _ _ (((all_paired x y t.mid h t.before).there.wires t.bearer).prefix (es_of t.frame.frame)))

pub told_peer : (x y after : View) (f : Frame) → IsToldAt x y after f → f.peer_numbered ≡ length ((y.wires f.bearer).line (er_of f.bytes))
told_peer x y after f t = subst (λ (g : Frame). g.peer_numbered ≡ length ((y.wires g.bearer).line (er_of g.bytes))) (sym t.is) refl

-- ---- the node

-- no deed gives a node or its peer another address
pub record IsSameNode (n m : Node) : Type 0 where
  pub own : m.own ≡ n.own
  pub peer : m.peer ≡ n.peer

same_node : (n m : Node) → m ≡ n → IsSameNode n m
same_node n m same = record { own = ap (λ (k : Node). k.own) same; peer = ap (λ (k : Node). k.peer) same }

works_same : (x y v : View) → Works x y v → IsSameNode x.node v.node
works_same x y _ (makes b none) = same_node x.node x.node refl
works_same x y _ (turns b e mended is) = same_node x.node x.node refl
works_same x y _ (calls b e call is may quiet) = same_node x.node x.node refl
works_same x y _ (shows number higher fits apart heard) = record { own = refl; peer = refl }
works_same x y _ (releases b e s p up a) = same_node x.node x.node refl
works_same x y _ (notes b e s shown unanswered owes up most) = same_node x.node x.node refl
works_same x y _ (numbers b e s up) = same_node x.node x.node refl
works_same x y _ (tells b o may) = same_node x.node x.node refl

changes_same : (x y v : View) → Changes x y v → IsSameNode x.node v.node
changes_same x y _ (rises b e call is may up apart) = same_node x.node x.node refl
changes_same x y _ (falls b e call cause is may down) = record { own = refl; peer = refl }
changes_same x y _ (parts b e is up) = record { own = refl; peer = refl }
changes_same x y _ (restarts boot more fits) = record { own = refl; peer = refl }

besides_same : (x y v : View) → Besides x y v → IsSameNode x.node v.node
besides_same x y _ (rises_beside b e call is may up beside) = same_node x.node x.node refl
besides_same x y _ (falls_beside b e call cause is may down beside) = same_node x.node x.node refl
besides_same x y _ (hands_over b e is down) = same_node x.node x.node refl
besides_same x y _ (counts b e r more m) = same_node x.node x.node refl

does_same : (x y v : View) → DoesDeed x y v → IsSameNode x.node v.node
does_same x y _ (works v w) = works_same x y v w
does_same x y _ (changes v c) = changes_same x y v c
does_same x y _ (besides v c) = besides_same x y v c
does_same x y _ (puts b e s waiting up packets) = same_node x.node x.node refl
does_same x y _ (takes b e s p number by packet up a is) = same_node x.node x.node refl

pub all_same : (x y after : View) → DoesAll x y after → IsSameNode x.node after.node
all_same x y _ nothing = same_node x.node x.node refl
all_same x y after (follows mid _ all one) = (let f = all_same x y mid all in let g = does_same mid y after one in record { own = g.own ∙ f.own; peer = g.peer ∙ f.peer })
