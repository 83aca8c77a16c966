-- What a side knows of its peer, through all that either does.
use Rattle.std.proofs.Common.{◌≡◌, ◌≢◌, ℕ, zero, suc, List, [], ◌∷◌, ◌++◌, Option, Some, None, sym, ap, ◌∙◌, subst, inl, inr}
use Rattle.std.specs.Prelude.{slice_get}
use Rattle.std.proofs.lemmas.Bool.{cases_eq}
use Rattle.tipc_link_fsm.specs.Table.{Fsm, fresh}
use Rattle.tipc_link_fsm.specs.Runs.{Call, ResetArrives, ActivateArrives, TrafficArrives, TickPasses, BearerIsCut, TunnelNames, Releases, ForgetsPeer, ContactEnds, outcome}
use Rattle.tipc_contact.specs.Sides.{acted, after_call, alone, known, Action, ContactEnded, EndCalled, EndMade, HigherShown, IsSaid, IsNoticed, MayAct, MayBeGiven, Notice, Restarted, Side}
use Rattle.tipc_contact.specs.Peers.{Knows}
use Rattle.tipc_contact.proofs.Calls.{ended_peer, forgotten_peer, keeps, forgets, takes, learns, shown_by}
use Rattle.tipc_contact.proofs.Speaking.{at_same, at_other, called_end, one_of}

-- ---- what was heard stays heard

get_front : (heard : List Notice) (new : Notice) (place : ℕ) (m : Notice) → slice_get heard place ≡ Some m → slice_get (heard ++ new ∷ []) place ≡ Some m
get_front [] new place m there = absurd (let wrong : ⊥ = cc in wrong)
get_front (x ∷ heard) new zero m there = there
get_front (x ∷ heard) new (suc k) m there = get_front heard new k m there

told_more : (heard : List Notice) (new : Notice) (bearer epoch contact : ℕ) → IsNoticed heard bearer epoch contact → IsNoticed (heard ++ new ∷ []) bearer epoch contact
told_more heard new bearer epoch contact t = record {
  place = t.place;
  notice = t.notice;
  there = get_front heard new t.place t.notice t.there;
  bearer_is = t.bearer_is;
  epoch_is = t.epoch_is;
  contact_is = t.contact_is;
}

-- the peer says something
pub knows_heard : (s : Side) (said heard : List Notice) (new : Notice) → Knows s said heard → Knows s said (heard ++ new ∷ [])
knows_heard s said heard new h = record {
  told = λ bearer epoch end there peer. told_more heard new bearer epoch s.seen (h.told bearer epoch end there peer);
  named = λ place m there some. told_more heard new m.bearer m.er m.peer_contact (h.named place m there some);
}

-- ---- the side says something

known_some : (o : Option ℕ) (epoch : ℕ) → epoch ≡ known o → epoch ≢ 0 → o ≡ Some epoch
known_some None epoch is some = absurd (some is)
known_some (Some e) epoch is some = ap Some (sym is)

pub knows_said : (s : Side) (said heard : List Notice) (new : Notice) → Knows s said heard → IsSaid s new → Knows s (said ++ new ∷ []) heard
knows_said s said heard new h is = record {
  told = h.told;
  named = λ place m there. one_of said new m place (λ n. n.er ≢ 0 → IsNoticed heard n.bearer n.er n.peer_contact) there (λ k old. h.named k m old)
      (λ some. subst (λ c. IsNoticed heard new.bearer new.er c) (sym is.peer_contact) (h.told new.bearer new.er is.end is.there (known_some is.end.peer new.er is.er some)));
}

-- ---- the side does something

abbrev Told : Side → List Notice → Type 0
Told s heard = (bearer epoch : ℕ) (end : Fsm) → s.ends bearer ≡ Some end → end.peer ≡ Some epoch → IsNoticed heard bearer epoch s.seen

made_told : (s : Side) (heard : List Notice) (bearer : ℕ) → Told s heard → Told (acted s (EndMade bearer)) heard
made_told s heard bearer h x epoch end' is peer = elim (cases_eq x bearer) [
  | inl here ↦ absurd (
      let fresh_is : Some (fresh s.own) ≡ Some end' = sym (at_same x bearer (Some (fresh s.own)) (s.ends x) here) ∙ is in
      let end_is : fresh s.own ≡ end' = cc in
      let none : (fresh s.own).peer ≡ Some epoch = ap (λ (e : Fsm). e.peer) end_is ∙ peer in
      let wrong : ⊥ = cc in wrong)
  | inr differ ↦ h x epoch end' (sym (at_other x bearer (Some (fresh s.own)) (s.ends x) differ) ∙ is) peer
]

-- what a RESET or an ACTIVATE shows was told
may_shown : (s : Side) (heard : List Notice) (bearer : ℕ) (call : Call) (epoch : ℕ) → MayBeGiven s heard bearer call → shown_by call ≡ Some epoch → IsNoticed heard bearer epoch s.seen
may_shown s heard bearer (ResetArrives es held) epoch may is = let same : es ≡ epoch = cc in subst (λ e. IsNoticed heard bearer e s.seen) same may
may_shown s heard bearer (ActivateArrives es er) epoch may is = let same : es ≡ epoch = cc in subst (λ e. IsNoticed heard bearer e s.seen) same may
may_shown s heard bearer (TrafficArrives es er) epoch may is = absurd (let wrong : ⊥ = cc in wrong)
may_shown s heard bearer (TickPasses held) epoch may is = absurd (let wrong : ⊥ = cc in wrong)
may_shown s heard bearer (BearerIsCut held) epoch may is = absurd (let wrong : ⊥ = cc in wrong)
may_shown s heard bearer (TunnelNames tunnel) epoch may is = absurd (let wrong : ⊥ = cc in wrong)
may_shown s heard bearer Releases epoch may is = absurd (let wrong : ⊥ = cc in wrong)
may_shown s heard bearer ForgetsPeer epoch may is = absurd may
may_shown s heard bearer ContactEnds epoch may is = absurd may

call_told : (s : Side) (heard : List Notice) (bearer : ℕ) (call : Call) → Told s heard → MayBeGiven s heard bearer call → Told (acted s (EndCalled bearer call)) heard
call_told s heard bearer call h may x epoch end' is peer = elim (cases_eq x bearer) [
  | inl here ↦
      let found = called_end call (s.ends x) end' (sym (at_same x bearer (after_call call (s.ends x)) (s.ends x) here) ∙ is) in
      let now : (outcome found.0 call).after.peer ≡ Some epoch = ap (λ (e : Fsm). e.peer) found.2 ∙ peer in
      elim (learns found.0 call) as (λ _. IsNoticed heard x epoch s.seen) [
        | keeps same ↦ h x epoch found.0 found.1 (sym same ∙ now)
        | forgets none ↦ absurd (let wrong : ⊥ = cc in wrong)
        | takes es shown took ↦
            let same : es ≡ epoch = (let both : Some es ≡ Some epoch = sym took ∙ now in cc) in
            subst (λ b. IsNoticed heard b epoch s.seen) (sym here) (may_shown s heard bearer call epoch may (shown ∙ ap Some same))
      ]
  | inr differ ↦ h x epoch end' (sym (at_other x bearer (after_call call (s.ends x)) (s.ends x) differ) ∙ is) peer
]

shown_told : (s : Side) (heard : List Notice) (number : ℕ) → Told (acted s (HigherShown number)) heard
shown_told s heard number x epoch end' is peer =
    let found = called_end ForgetsPeer (s.ends x) end' is in
    let now : (outcome found.0 ForgetsPeer).after.peer ≡ Some epoch = ap (λ (e : Fsm). e.peer) found.2 ∙ peer in
    let none = forgotten_peer found.0 in
    absurd (let wrong : ⊥ = cc in wrong)

ended_told : (s : Side) (heard : List Notice) → Told (acted s ContactEnded) heard
ended_told s heard x epoch end' is peer =
    let found = called_end ContactEnds (s.ends x) end' is in
    let now : (outcome found.0 ContactEnds).after.peer ≡ Some epoch = ap (λ (e : Fsm). e.peer) found.2 ∙ peer in
    let none = ended_peer found.0 in
    absurd (let wrong : ⊥ = cc in wrong)

alone_told : (boot : ℕ) (heard : List Notice) → Told (alone boot) heard
alone_told boot heard x epoch end is peer = absurd (let wrong : ⊥ = cc in wrong)

told_on : (s : Side) (heard : List Notice) (action : Action) → Told s heard → MayAct s heard action → Told (acted s action) heard
told_on s heard (EndMade bearer) h may = made_told s heard bearer h
told_on s heard (EndCalled bearer call) h may = call_told s heard bearer call h may
told_on s heard (HigherShown number) h may = shown_told s heard number
told_on s heard ContactEnded h may = ended_told s heard
told_on s heard (Restarted boot) h may = alone_told boot heard

pub knows_on : (s : Side) (said heard : List Notice) (action : Action) → Knows s said heard → MayAct s heard action → Knows (acted s action) said heard
knows_on s said heard action h may = record { told = told_on s heard action h.told may; named = h.named }

pub knows_alone : (boot : ℕ) (heard : List Notice) → Knows (alone boot) [] heard
knows_alone boot heard = record {
  told = alone_told boot heard;
  named = λ place m there _. absurd (let wrong : ⊥ = cc in wrong);
}
