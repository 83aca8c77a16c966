-- The link states of both ends of a pair stay sound, whatever a turn does.
use Rattle.std.proofs.Common.{◌≡◌, ◌≤◌, ℕ, Bool, true, false, List, option_map, refl, sym, subst, arith}
use Rattle.std.specs.Prelude.{All, if◌then◌else◌}
use Rattle.tipc_types.specs.LinkStates.{is_up}
use Rattle.tipc_outside.specs.declared.outgoing.Outgoing.{Outgoing}
use Rattle.tipc_header.specs.declared.contents.HeaderContent.{HeaderContent}
use Rattle.tipc_header.specs.declared.contents.HeaderContent.TheVariants as content
use Rattle.tipc_header.specs.declared.contents.Notice.TheVariants as notices
use Rattle.tipc_header.specs.Contents.{header_content}
use Rattle.tipc_journal.specs.Steps.{NodeStep}
use Rattle.tipc_link_fsm.specs.Ends.{IsSound}
use Rattle.tipc_link_fsm.specs.Runs.{ActivateArrives, BearerIsCut, ContactEnds, ForgetsPeer, Releases, ResetArrives, TickPasses, TrafficArrives, TunnelNames}
use Rattle.tipc_link_fsm.specs.Table.{Fsm, Outcome, fresh}
use Rattle.tipc_link_fsm.proofs.Keeping.{sound_after}
use Rattle.tipc_link.specs.Links.{LinkEnd, answered_with, outcome_as}
use Rattle.tipc_link.specs.Sessions.{answered, with_broadcast}
use Rattle.tipc_pair.specs.Facing.{PairEnds, facing, with_made}
use Rattle.tipc_pair.proofs.EndSteps.{fsm_after}
use Rattle.tipc_pair.proofs.turns.PairKept.{Both, Closed, Made, both_facing, by_packet, by_reset, by_tick, turn_kept}
use Rattle.tipc_node.specs.Ends.{AreSoundEnds}
use Rattle.tipc_node.specs.Turns.{PeerTurn}

-- an end, on whatever bearer
abbrev Sound : ℕ → LinkEnd → Type 0
Sound bearer e = IsSound e.fsm

-- nothing is said of frames
abbrev Any : Outgoing → Type 0
Any o = Unit {0}

any_frames : (fs : List Outgoing) → All Any fs
any_frames fs = λ k d within. tt

as_sound : (f : Fsm) (c : HeaderContent) (es er : ℕ) (held : Bool) → IsSound f → IsSound (outcome_as f c es er held).after
as_sound f (content.Notice (notices.Reset r)) es er held h = sound_after f (ResetArrives es held) h
as_sound f (content.Notice (notices.Activate a)) es er held h = sound_after f (ActivateArrives es er) h
as_sound f content.Discovery es er held h = h
as_sound f content.Numbered es er held h = sound_after f (TrafficArrives es er) h
as_sound f (content.State t) es er held h = sound_after f (TrafficArrives es er) h

made_sound : (f : Fsm) (o : Outcome) → Made f o → IsSound f → IsSound o.after
made_sound f _ (by_packet t es er held) h = as_sound f (header_content t) es er held h
made_sound f _ (by_reset es held) h = sound_after f (ResetArrives es held) h
made_sound f _ (by_tick held) h = sound_after f (TickPasses held) h

answered_sound : (e : LinkEnd) (taken : ℕ) (asks : Bool) → IsSound e.fsm → IsSound (answered_with e taken asks).fsm
answered_sound e taken asks h = elim (is_up e.fsm.state) as (λ b. IsSound (if b then record e { session = option_map (λ s. answered (with_broadcast s taken asks)) e.session } else e).fsm) [ true ↦ h | false ↦ h ]

-- each step of an end leaves it so
sound_closed : Closed Sound Any
sound_closed = record {
  steps = λ b e o made h. subst IsSound (sym (fsm_after e o)) (made_sound e.fsm o made h);
  step_frames = λ b e o shown made h. any_frames _;
  hears = λ b e by acknowledgement c h. h;
  again = λ b e acknowledgement c h. any_frames _;
  newly = λ b e by acknowledgement c h. any_frames _;
  mends = λ b e h. h;
  mend_frames = λ b e h. any_frames _;
  cuts = λ b e held h. sound_after e.fsm (BearerIsCut held) h;
  tunnels = λ b e epoch h. sound_after e.fsm (TunnelNames epoch) h;
  parts = λ b e contact seen h. sound_after e.fsm ContactEnds h;
  resets = λ b e h. any_frames _;
  forgets = λ b e seen h. sound_after e.fsm ForgetsPeer h;
  hands = λ b e h. h;
  loads = λ b e s packets is h. h;
  load_frames = λ b e s packets is h. any_frames _;
  empties = λ b e h. h;
  lets_go = λ b e h. sound_after e.fsm Releases h;
  go_frames = λ b e h. any_frames _;
  records = λ b e r h. h;
  puts = λ b e s pieces p is put h. h;
  put_frames = λ b e s pieces p is put h. any_frames _;
  answers = λ b e taken asks h. answered_sound e taken asks h;
  answer_frames = λ b e taken asks shown h. any_frames _;
}

-- ---- a pair

-- an end that is made is down, and wasn't silent for any tick
fresh_sound : (epoch : ℕ) → IsSound (fresh epoch)
fresh_sound epoch = record {
  few = omega arith;
  quiet = λ down. refl;
  unknown = (λ is. absurd (let wrong : ⊥ = cc in wrong), λ two. absurd (let wrong : ⊥ = omega (arith, two) in wrong));
  going_on = λ up. absurd (let wrong : ⊥ = cc in wrong);
}

both_sound : (x : PairEnds) → x.bearer ≤ 1 → AreSoundEnds x → Both Sound x
both_sound x two h = record { two = two; near = h.near; far = h.far }

made_sounds : (x : PairEnds) → x.bearer ≤ 1 → AreSoundEnds x → (bearer : ℕ) → Both Sound (with_made (facing bearer x))
made_sounds x two h bearer =
    let there = both_facing Sound bearer x (both_sound x two h) in
    record { two = there.two; near = fresh_sound _; far = there.far }

-- after the turn at a pair
pub turn_sound : (own : ℕ) (bytes : List ℕ) (s : NodeStep) (frames : List Outgoing) (b : ℕ) (x y : PairEnds) → x.bearer ≡ 0 → AreSoundEnds x → PeerTurn own bytes s frames b x y → AreSoundEnds y
turn_sound own bytes s frames b x y first h t =
    let two : x.bearer ≤ 1 = omega (arith, first) in
    let after = turn_kept Sound Any sound_closed x y t.opening _ t.reply t.own_frames (made_sounds x two h) (both_sound x two h) t.turn in
    let both = after.0 in
    record { near = both.near; far = both.far }
