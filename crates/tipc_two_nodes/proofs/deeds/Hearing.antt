-- A STATE or a numbered packet of the session arrives at a link that is up.
use Rattle.std.proofs.Common.{◌≡◌, ◌≤◌, ◌+◌, ◌-◌, nat_le, ℕ, Bool, true, false, List, [], ◌∷◌, ◌++◌, Some, length, refl, sym, ap, ◌∙◌, subst, inl, inr, append-nil, arith}
use Rattle.std.proofs.lemmas.Bool.{cases_eq, cases_lt}
use Rattle.std.proofs.lemmas.Bool.Decides.{nat_tests}
use Rattle.tipc_types.specs.Position.{number_of}
use Rattle.tipc_types.proofs.PositionLaws.{distance_of-ahead, distance_of-behind}
use Rattle.tipc_recv_window.specs.Receiving.{ahead}
use Rattle.tipc_types.specs.declared.packet_lists.Kept.{Kept}
use Rattle.tipc_outside.specs.declared.outgoing.Outgoing.{Outgoing}
use Rattle.tipc_header.specs.Spelling.{Fields}
use Rattle.tipc_link.specs.Links.{LinkEnd, newly_numbered, sent_again, with_session}
use Rattle.tipc_link.specs.Parts.{packets_in}
use Rattle.tipc_link.specs.Sessions.{Carries, Content, Nothing, SessionEnd, Shows, arrived, brought, content_of, due_with, flush_frames, flushed, heard, highest, moving, noted, packet_frame, past, after_acknowledgement as acknowledged, repeat_frames, repeated, spoke, took}
use Rattle.tipc_link.proofs.LinkLaw.{Each, Each-map, Each-none}
use Rattle.tipc_pair.specs.Courses.{rests}
use Rattle.tipc_pair.specs.Facing.{PairEnds, with_near}
use Rattle.tipc_paired.proofs.PairedLaw.{all_paired}
use Rattle.tipc_paired.proofs.sessions.SessionDeeds.{hears_session}
use Rattle.tipc_paired.proofs.sessions.SessionFrames.{repeats_may}
use Rattle.tipc_paired.proofs.wires.Wires.{on_put, prefix_long, put_other, put_same, session_of_up}
use Rattle.tipc_paired.specs.Deeds.{DoesDeed, Hears, IsUp, follows, notes, nothing, releases, takes, with_going, with_taken, works}
use Rattle.tipc_paired.specs.Paired.{ArePaired}
use Rattle.tipc_paired.specs.Views.{View, Wire, put_at, with_wire}
use Rattle.tipc_two_nodes.proofs.deeds.Chains.{did_as, did_on, did_tell, did_then, told_all}
use Rattle.tipc_two_nodes.proofs.deeds.Loading.{flushes, more_here}
use Rattle.tipc_two_nodes.proofs.deeds.Pairs.{of_changed}
use Rattle.tipc_two_nodes.specs.deeds.Arriving.{taken_of}
use Rattle.tipc_two_nodes.specs.deeds.PairDeeds.{Did, IsOfPair, IsToldSince, TakesCourse, both_more, more_at, none_more}

-- ---- what is taken

-- one wire took more under one epoch
pub more_taken : (ws : ℕ → Wire) (b epoch : ℕ) (w' : Wire) (packets : List (List ℕ)) → ((k : ℕ) → w'.got k ≡ put_at (ws b).got epoch ((ws b).got epoch ++ packets) k) → (c k : ℕ) → (put_at ws b w' c).got k ≡ (ws c).got k ++ more_at b epoch packets c k
more_taken ws b epoch w' packets is c k = elim (cases_eq c b) [
  | inl same ↦
      ap (λ i. (put_at ws b w' i).got k) same ∙ ap (λ (w : Wire). w.got k) (put_same ws b w') ∙ is k ∙ more_here (ws b).got epoch packets k
      ∙ ap (λ (f : ℕ → List (List ℕ)). (ws b).got k ++ f k) (sym (put_same none_more b (put_at (none_more b) epoch packets))) ∙ ap (λ i. (ws i).got k ++ more_at b epoch packets i k) (sym same)
  | inr other ↦
      ap (λ (w : Wire). w.got k) (put_other ws b w' c other) ∙ sym (append-nil ((ws c).got k))
      ∙ ap (λ (f : ℕ → List (List ℕ)). (ws c).got k ++ f k) (sym (put_other none_more b (put_at (none_more b) epoch packets) c other))
]

-- and none of it
pub none_taken_at : (b epoch c k : ℕ) → none_more c k ≡ more_at b epoch [] c k
none_taken_at b epoch c k = on_put none_more b (put_at (none_more b) epoch []) (λ c (f : ℕ → List (List ℕ)). [] ≡ f k) (on_put (none_more b) epoch [] (λ k (xs : List (List ℕ)). [] ≡ xs) refl (λ k. refl) k) (λ c. refl) c

-- ---- the session hears it

-- The session s of the link end e on a bearer became s', which was not done with what waits.
record Became (v y after : View) (b : ℕ) (e : LinkEnd) (s' : SessionEnd) (frames : List Outgoing) (taken : ℕ → ℕ → List (List ℕ)) : Type 0 where
  did : Did v y after frames none_more taken
  up : IsUp (after.wires b) (with_session e s') s'
  others : (c : ℕ) → (c ≡ b → ⊥) → (after.wires c).end ≡ (v.wires c).end
  node : after.node ≡ v.node

going_up : (v : View) (b : ℕ) (e : LinkEnd) (s s' : SessionEnd) (w' : Wire) → IsUp (v.wires b) e s → w'.end ≡ Some (with_session e s') → IsUp ((with_wire v b w').wires b) (with_session e s') s'
going_up v b e s s' w' up is = record { end_is = ap (λ (w : Wire). w.end) (put_same v.wires b w') ∙ is; up = up.up; session_is = refl }

hears_released : (v y : View) (b : ℕ) (e : LinkEnd) (s : SessionEnd) (p : Fields) → ArePaired v y → IsUp (v.wires b) e s → Hears v y b s p → (after : View) × Became v y after b e (acknowledged s p.acknowledgement) [] none_more × Hears after y b (acknowledged s p.acknowledgement) p
hears_released v y b e s p h up a =
    let s1 = acknowledged s p.acknowledgement in
    let w' = with_going (v.wires b) e s1 in
    let v1 = with_wire v b w' in
    let one : DoesDeed v y v1 = works v1 (releases b e s p up a) in (
      v1,
      record {
        did = did_on v y b w' one (λ k. refl) (λ k. refl);
        up = going_up v b e s s1 w' up refl;
        others = λ c other. ap (λ (w : Wire). w.end) (put_other v.wires b w' c other);
        node = refl;
      },
      record {
        place = a.place;
        frame = a.frame;
        there = a.there;
        bearer_is = a.bearer_is;
        fits = a.fits;
        bytes = a.bytes;
        traffic = a.traffic;
        own_fresh = subst (λ (w : Wire). length (w.line s.epoch) ≤ a.frame.peer_numbered + 30000) (sym (put_same v.wires b w')) a.own_fresh;
        peer_fresh = a.peer_fresh;
      },
    )

repeats_on : (s : SessionEnd) (b acknowledgement missed : ℕ) → s.bearer ≡ b → Each (λ (o : Outgoing). o.bearer ≡ b) (repeat_frames s acknowledgement missed)
unfolding repeat_frames
repeats_on s b acknowledgement missed is = Each-map (λ (o : Outgoing). o.bearer ≡ b) (λ (k : Kept). packet_frame s k.number k.packet) (repeated s acknowledgement missed) (λ i k there. is)

noted_as : {A : Type 0} (s : SessionEnd) (frames : List A) (next : ℕ) (probe : Bool) → noted (spoke s frames) next probe ≡ record s { shown = (noted (spoke s frames) next probe).shown; unanswered = (noted (spoke s frames) next probe).unanswered; owes = (noted (spoke s frames) next probe).owes }
noted_as s [] next probe = refl
noted_as s (first ∷ others) next probe = refl

-- ---- what a STATE shows

-- the position that a STATE shows, where that is no more than 30,050 old, leaves no higher one than the next that its sender will number
highest_most : (s : SessionEnd) (told numbered : ℕ) → s.shown ≤ numbered + 1 → s.taken ≤ numbered → numbered ≤ s.taken + 50 → told ≤ numbered → numbered ≤ told + 30050 → highest s (number_of (told + 1)) ≤ numbered + 1
unfolding highest ahead
highest_most s told numbered shown taken near within fresh = elim (cases_lt told s.taken) [
  | inl before ↦
      let far : past s (number_of (told + 1)) + (s.taken + 1) ≡ 65536 + (told + 1) = distance_of-behind (s.taken + 1) (told + 1) (omega (arith, before)) (omega (arith, taken, fresh)) in
      let test : nat_le (past s (number_of (told + 1))) 32767 ≡ false = grind (arith, nat_tests, far, taken, fresh) in
      rw test (omega (arith, shown, taken))
  | inr after ↦
      let far : past s (number_of (told + 1)) ≡ told + 1 - (s.taken + 1) = distance_of-ahead (s.taken + 1) (told + 1) (omega (arith, after)) (omega (arith, within, near)) in
      let test : nat_le (told + 1 - (s.taken + 1)) 32767 ≡ true = grind (arith, nat_tests, within, near) in
      rw far (rw test (omega (arith, shown, within, after)))
]

-- what was sent again changes nothing of that
noted_shown : {A : Type 0} (s : SessionEnd) (acknowledgement : ℕ) (frames : List A) (next : ℕ) (probe : Bool) → (noted (spoke (acknowledged s acknowledgement) frames) next probe).shown ≡ highest s next
unfolding highest ahead
noted_shown s acknowledgement [] next probe = refl
noted_shown s acknowledgement (first ∷ others) next probe = refl

-- a session that hears a STATE keeps no position above the one that the peer has
hears_most : (v y : View) (b : ℕ) (e : LinkEnd) (s : SessionEnd) (p : Fields) (next missed : ℕ) (probe : Bool) → ArePaired v y → IsUp (v.wires b) e s → Hears v y b s p → content_of p ≡ Shows next missed probe
    → highest s next ≤ length ((y.wires b).line s.peer_epoch) + 1
hears_most v y b e s p next missed probe h up a is =
    let o = hears_session v y b e s p h up a in
    let g = (h.here.wires b).going s (session_of_up (v.wires b) e s up) in
    let took_it = g.takes in
    let front = prefix_long ((v.wires b).got s.peer_epoch) ((y.wires b).line s.peer_epoch) ((h.here.wires b).prefix s.peer_epoch) in
    let window = (h.there.wires b).window s.peer_epoch in
    subst (λ n. highest s n ≤ length ((y.wires b).line s.peer_epoch) + 1) (sym (o.shows next missed probe is))
    (highest_most s a.frame.numbered (length ((y.wires b).line s.peer_epoch)) g.shown (omega (arith, took_it, front)) (omega (arith, took_it, window)) o.so_far a.peer_fresh)

hears_content : (v y : View) (b : ℕ) (e : LinkEnd) (s : SessionEnd) (p : Fields) (by : ℕ) (c : Content) → ArePaired v y → IsUp (v.wires b) e s → Hears v y b s p → content_of p ≡ c → (c ≡ Nothing → ⊥)
    → (after : View) × Became v y after b e (heard s by p.acknowledgement c) (sent_again (Some s) p.acknowledgement c) (more_at b s.peer_epoch (taken_of s p by c))
hears_content v y b e s p by Nothing h up a is some = absurd (some refl)
hears_content v y b e s p by (Carries number packet) h up a is some =
    let first = hears_released v y b e s p h up a in
    let v1 = first.0 in
    let s1 = acknowledged s p.acknowledgement in
    let t = brought number packet by in
    let e1 = with_session e s1 in
    let w' = with_taken (v1.wires b) e1 s1 t in
    let v2 = with_wire v1 b w' in
    let one : DoesDeed v1 y v2 = takes b e1 s1 p number by packet first.1.up first.2 is in
    let took_it : Did v1 y v2 [] none_more (more_at b s.peer_epoch (packets_in (due_with s1 t))) = record {
      does = follows v1 v2 nothing one;
      boot = refl;
      told = Each-none (IsToldSince (length v1.told) v2);
      line = λ c k. on_put v1.wires b w' (λ c (z : Wire). z.line k ≡ (v1.wires c).line k) refl (λ c. refl) c ∙ sym (append-nil ((v1.wires c).line k));
      got = more_taken v1.wires b s.peer_epoch w' (packets_in (due_with s1 t)) (λ k. refl);
    } in (
      v2,
      record {
        did = did_then v y v1 v2 [] [] none_more none_more none_more (more_at b s.peer_epoch (packets_in (due_with s1 t))) first.1.did took_it;
        up = going_up v1 b e1 s1 (took s1 t) w' first.1.up refl;
        others = λ c other. ap (λ (w : Wire). w.end) (put_other v1.wires b w' c other) ∙ first.1.others c other;
        node = first.1.node;
      },
    )
hears_content v y b e s p by (Shows next missed probe) h up a is some =
    let first = hears_released v y b e s p h up a in
    let v1 = first.0 in
    let h1 = all_paired v y v1 h first.1.did.does in
    let s1 = acknowledged s p.acknowledgement in
    let e1 = with_session e s1 in
    let said = repeat_frames s1 p.acknowledgement missed in
    let on = session_of_up (v1.wires b) e1 s1 first.1.up in
    let bearer : s1.bearer ≡ b = ((h1.here.ends b e1 first.1.up.end_is).session s1 refl).2 in
    let mid = told_all v1 y b said in
    let told = did_tell v1 y b said (repeats_may (v1.wires b) s1 p.acknowledgement missed on) (repeats_on s1 b p.acknowledgement missed bearer) in
    let s2 = noted (spoke s1 (repeated s1 p.acknowledgement missed)) next probe in
    let same : s2 ≡ record s1 { shown = s2.shown; unanswered = s2.unanswered; owes = s2.owes } = noted_as s1 (repeated s1 p.acknowledgement missed) next probe in
    let s3 : SessionEnd = record s1 { shown = s2.shown; unanswered = s2.unanswered; owes = s2.owes } in
    let w' = with_going (mid.wires b) e1 s3 in
    let v2 = with_wire mid b w' in
    let most = subst (λ n. n ≤ length ((y.wires b).line s.peer_epoch) + 1) (sym (noted_shown s p.acknowledgement (repeated s1 p.acknowledgement missed) next probe)) (hears_most v y b e s p next missed probe h up a is) in
    let one : DoesDeed mid y v2 = works v2 (notes b e1 s1 s2.shown s2.unanswered s2.owes first.1.up most) in
    let noted_it = did_on mid y b w' one (λ k. refl) (λ k. refl) in
    let none = none_taken_at b s.peer_epoch in (
      v2,
      record {
        did = did_as v y v2 ([] ++ (said ++ [])) said none_more none_more none_more (more_at b s.peer_epoch []) (did_then v y v1 v2 [] (said ++ []) none_more none_more none_more none_more first.1.did (did_then v1 y mid v2 said [] none_more none_more none_more none_more told noted_it))
            (λ P each. subst (Each P) (append-nil said) each) (λ c k. refl) none;
        up = subst (λ k. IsUp (v2.wires b) (with_session e k) k) (sym same) (going_up mid b e1 s1 s3 w' first.1.up refl);
        others = λ c other. ap (λ (w : Wire). w.end) (put_other v1.wires b w' c other) ∙ first.1.others c other;
        node = first.1.node;
      },
    )

-- ---- and numbers what waits

numbered_as : (s : SessionEnd) (p : Fields) (by : ℕ) (c : Content) → (c ≡ Nothing → ⊥) → (newly_numbered (Some s) by p.acknowledgement c ≡ flush_frames (heard s by p.acknowledgement c)) × (arrived s by p.acknowledgement c ≡ flushed (heard s by p.acknowledgement c))
numbered_as s p by Nothing some = absurd (some refl)
numbered_as s p by (Shows next missed probe) some = (refl, refl)
numbered_as s p by (Carries number packet) some = (refl, refl)

-- the epochs of a session that hears stay
heard_epoch : (s : SessionEnd) (p : Fields) (by : ℕ) (c : Content) → (heard s by p.acknowledgement c).epoch ≡ s.epoch
heard_epoch s p by Nothing = refl
heard_epoch s p by (Shows next missed probe) = ap (λ (k : SessionEnd). k.epoch) (noted_as (acknowledged s p.acknowledgement) (repeated (acknowledged s p.acknowledgement) p.acknowledgement missed) next probe)
heard_epoch s p by (Carries number packet) = refl

pub heard_takes : (v y : View) (x : PairEnds) (e : LinkEnd) (s : SessionEnd) (p : Fields) (by : ℕ) (c : Content) → ArePaired v y → IsOfPair v x → IsUp (v.wires x.bearer) e s → Hears v y x.bearer s p → content_of p ≡ c → (c ≡ Nothing → ⊥)
    → TakesCourse v y (record (rests (with_near x (with_session e (arrived s by p.acknowledgement c)))) { states = sent_again (Some s) p.acknowledgement c; numbered = newly_numbered (Some s) by p.acknowledgement c })
    (more_at x.bearer s.epoch (moving (heard s by p.acknowledgement c))) (more_at x.bearer s.peer_epoch (taken_of s p by c))
heard_takes v y x e s p by c h pair up a is some =
    let b = x.bearer in
    let s1 = heard s by p.acknowledgement c in
    let again = sent_again (Some s) p.acknowledgement c in
    let m = hears_content v y b e s p by c h up a is some in
    let v1 = m.0 in
    let h1 = all_paired v y v1 h m.1.did.does in
    let f = flushes v1 y b (with_session e s1) s1 h1 m.1.up in
    let said = numbered_as s p by c some in
    let t = taken_of s p by c in
    let n = moving s1 in
    let pair1 = of_changed v v1 x (with_session e s1) pair m.1.node m.1.up.end_is m.1.others in
    let pair2 = of_changed v1 f.0 (with_near x (with_session e s1)) (with_session e (flushed s1)) pair1 f.1.node f.1.end f.1.others in (
      f.0,
      record {
        did = did_as v y f.0 (again ++ flush_frames s1) (again ++ newly_numbered (Some s) by p.acknowledgement c) (both_more none_more (more_at b s1.epoch n)) (more_at b s.epoch n) (both_more (more_at b s.peer_epoch t) none_more) (more_at b s.peer_epoch t)
            (did_then v y v1 f.0 again (flush_frames s1) none_more (more_at b s1.epoch n) (more_at b s.peer_epoch t) none_more m.1.did f.1.did)
            (λ P each. subst (λ (fs : List Outgoing). Each P (again ++ fs)) (sym said.0) each) (λ i k. ap (λ j. more_at b j n i k) (heard_epoch s p by c)) (λ i k. append-nil (more_at b s.peer_epoch t i k));
        pair = subst (λ k. IsOfPair f.0 (with_near x (with_session e k))) (sym said.1) pair2;
      },
    )
