-- Packets are put on a link that is up, and those that move up are numbered and told.
use Rattle.std.proofs.Common.{◌≡◌, ◌≢◌, ℕ, List, [], ◌++◌, Some, length, refl, sym, ap, ◌∙◌, subst, inl, inr, append-nil}
use Rattle.std.proofs.lemmas.Bool.{cases_eq}
use Rattle.tipc_outside.specs.declared.outgoing.Outgoing.{Outgoing}
use Rattle.tipc_link.specs.Links.{LinkEnd, with_session}
use Rattle.tipc_link.specs.Sessions.{SessionEnd, flush_frames, flushed, moving}
use Rattle.tipc_link.proofs.LinkLaw.{Each, Each-none}
use Rattle.tipc_paired.proofs.wires.EpochsKept.{session_is}
use Rattle.tipc_paired.proofs.wires.Frames.{packet_frames-at}
use Rattle.tipc_paired.proofs.PairedLaw.{does_paired}
use Rattle.tipc_paired.proofs.sessions.SessionFrames.{flush_may}
use Rattle.tipc_paired.proofs.wires.Wires.{on_put, put_other, put_same, session_of_up}
use Rattle.tipc_paired.specs.Deeds.{DoesDeed, IsUp, follows, nothing, numbers, puts, with_going, works}
use Rattle.tipc_paired.specs.Paired.{ArePaired, IsPacket}
use Rattle.tipc_paired.specs.Views.{View, Wire, put_at, session_on, with_wire}
use Rattle.tipc_two_nodes.proofs.deeds.Chains.{did_as, did_on, did_tell, did_then, told_all}
use Rattle.tipc_two_nodes.specs.deeds.PairDeeds.{Did, IsToldSince, both_more, more_at, none_more}

-- ---- what is numbered

pub more_here : (line : ℕ → List (List ℕ)) (epoch : ℕ) (packets : List (List ℕ)) (k : ℕ) → put_at line epoch (line epoch ++ packets) k ≡ line k ++ put_at (λ i. []) epoch packets k
more_here line epoch packets k = elim (cases_eq k epoch) [
  | inl same ↦
      ap (put_at line epoch (line epoch ++ packets)) same ∙ put_same line epoch (line epoch ++ packets)
      ∙ ap (λ xs. line epoch ++ xs) (sym (put_same (λ i. []) epoch packets)) ∙ ap (λ i. line i ++ put_at (λ i. []) epoch packets i) (sym same)
  | inr other ↦
      put_other line epoch (line epoch ++ packets) k other ∙ sym (append-nil (line k)) ∙ ap (λ xs. line k ++ xs) (sym (put_other (λ i. []) epoch packets k other))
]

-- one wire numbered more under one epoch
pub more_numbered : (ws : ℕ → Wire) (b epoch : ℕ) (w' : Wire) (packets : List (List ℕ)) → ((k : ℕ) → w'.line k ≡ put_at (ws b).line epoch ((ws b).line epoch ++ packets) k) → (c k : ℕ)
    → (put_at ws b w' c).line k ≡ (ws c).line k ++ more_at b epoch packets c k
more_numbered ws b epoch w' packets is c k = elim (cases_eq c b) [
  | inl same ↦
      ap (λ i. (put_at ws b w' i).line k) same ∙ ap (λ (w : Wire). w.line k) (put_same ws b w') ∙ is k ∙ more_here (ws b).line epoch packets k
      ∙ ap (λ (f : ℕ → List (List ℕ)). (ws b).line k ++ f k) (sym (put_same none_more b (put_at (none_more b) epoch packets))) ∙ ap (λ i. (ws i).line k ++ more_at b epoch packets i k) (sym same)
  | inr other ↦
      ap (λ (w : Wire). w.line k) (put_other ws b w' c other) ∙ sym (append-nil ((ws c).line k))
      ∙ ap (λ (f : ℕ → List (List ℕ)). (ws c).line k ++ f k) (sym (put_other none_more b (put_at (none_more b) epoch packets) c other))
]

-- ---- packets are put

-- The link on bearer b is up with the end e and the session s, in which other packets wait now: those that moved up were numbered and told.
pub record Loaded (v y after : View) (b : ℕ) (e : LinkEnd) (s : SessionEnd) : Type 0 where
  pub did : Did v y after (flush_frames s) (more_at b s.epoch (moving s)) none_more
  pub end : (after.wires b).end ≡ Some (with_session e (flushed s))
  pub others : (c : ℕ) → c ≢ b → (after.wires c).end ≡ (v.wires c).end
  pub node : after.node ≡ v.node

abbrev pub waiting_in : SessionEnd → List (List ℕ) → SessionEnd
waiting_in s waiting = record s { sending = record s.sending { waiting = waiting } }

flush_bearer : (s : SessionEnd) (b : ℕ) → s.bearer ≡ b → Each (λ (o : Outgoing). o.bearer ≡ b) (flush_frames s)
unfolding flush_frames
flush_bearer s b is k o there = (let at = packet_frames-at s s.sending.numbered (moving s) k o there in ap (λ (q : Outgoing). q.bearer) at.2 ∙ is)

-- those that wait are numbered and told
pub flushes : (v y : View) (b : ℕ) (e : LinkEnd) (s : SessionEnd) → ArePaired v y → IsUp (v.wires b) e s → (after : View) × Loaded v y after b e s
flushes v y b e s h up =
    let w = v.wires b in
    let w' : Wire = record (with_going w e (flushed s)) { line = put_at w.line s.epoch (w.line s.epoch ++ moving s) } in
    let v' = with_wire v b w' in
    let one : DoesDeed v y v' = works v' (numbers b e s up) in
    let on : session_on w' ≡ Some (flushed s) = session_is e s (flushed s) w.begun w'.line w.got up.up in
    let here : session_on (v'.wires b) ≡ Some (flushed s) = ap session_on (put_same v.wires b w') ∙ on in
    let g = (h.here.wires b).going s (session_of_up w e s up) in
    let told = told_all v' y b (flush_frames s) in
    let numbered : Did v y v' [] (more_at b s.epoch (moving s)) none_more = numbered_did v y b w' s one (λ k. refl) (λ k. refl) in
    let tells = did_tell v' y b (flush_frames s) (flush_may (v'.wires b) s (length ((y.wires b).got s.epoch)) (w.line s.epoch) g.sends here)
    (flush_bearer s b ((h.here.ends b e up.end_is).session s up.session_is).2) in (
      told,
      record {
        did = did_as v y told (flush_frames s) (flush_frames s) (both_more (more_at b s.epoch (moving s)) none_more) (more_at b s.epoch (moving s)) none_more none_more
            (did_then v y v' told [] (flush_frames s) (more_at b s.epoch (moving s)) none_more none_more none_more numbered tells) (λ P each. each) (λ c k. append-nil (more_at b s.epoch (moving s) c k)) (λ c k. refl);
        end = ap (λ (z : Wire). z.end) (put_same v.wires b w');
        others = λ c other. ap (λ (z : Wire). z.end) (put_other v.wires b w' c other);
        node = refl;
      },
    )
  where
    numbered_did : (v y : View) (b : ℕ) (w' : Wire) (s : SessionEnd) → DoesDeed v y (with_wire v b w') → ((k : ℕ) → w'.line k ≡ put_at (v.wires b).line s.epoch ((v.wires b).line s.epoch ++ moving s) k) → ((k : ℕ) → w'.got k ≡ (v.wires b).got k)
        → Did v y (with_wire v b w') [] (more_at b s.epoch (moving s)) none_more
    numbered_did v y b w' s one line got = record {
      does = follows v (with_wire v b w') nothing one;
      boot = refl;
      told = Each-none (IsToldSince (length v.told) (with_wire v b w'));
      line = more_numbered v.wires b s.epoch w' (moving s) line;
      got = λ c k. on_put v.wires b w' (λ c (z : Wire). z.got k ≡ (v.wires c).got k) (got k) (λ c. refl) c ∙ sym (append-nil ((v.wires c).got k));
    }

pub loads : (v y : View) (b : ℕ) (e : LinkEnd) (s : SessionEnd) (waiting : List (List ℕ)) → ArePaired v y → IsUp (v.wires b) e s → Each (IsPacket v.node.own) waiting → (after : View) × Loaded v y after b e (waiting_in s waiting)
loads v y b e s waiting h up packets =
    let w = v.wires b in
    let s' = waiting_in s waiting in
    let w' = with_going w e s' in
    let v' = with_wire v b w' in
    let one : DoesDeed v y v' = puts b e s waiting up packets in
    let h' = does_paired v y v' h one in
    let same = put_same v.wires b w' in
    let up' : IsUp (v'.wires b) (with_session e s') s' = subst (λ (z : Wire). IsUp z (with_session e s') s') (sym same) (record { end_is = refl; up = up.up; session_is = refl }) in
    let m = flushes v' y b (with_session e s') s' h' up' in
    let put = did_on v y b w' one (λ k. refl) (λ k. refl) in (
      m.0,
      record {
        did = did_then v y v' m.0 [] (flush_frames s') none_more (more_at b s.epoch (moving s')) none_more none_more put m.1.did;
        end = m.1.end;
        others = λ c other. m.1.others c other ∙ ap (λ (z : Wire). z.end) (put_other v.wires b w' c other);
        node = m.1.node;
      },
    )
