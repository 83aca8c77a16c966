-- A STATE or a numbered packet is heard by the near link of a pair: what that makes of the pair as a sender.
use Rattle.std.proofs.Common.{◌≡◌, ◌⊎◌, ℕ, ◌∷◌, not, ◌≤◌, ◌&&◌, Bool, true, false, if◌then◌else◌, List, [], Some, option_map, length, take, refl, sym, ap, ◌∙◌, subst, inl, inr, arith, length-append}
use Rattle.std.proofs.lemmas.Bool.{and_parts}
use Rattle.std.proofs.lemmas.List.{drop_all, length-drop, length-take}
use Rattle.tipc_types.specs.LinkStates.{is_up}
use Rattle.tipc_types.specs.declared.link_words.BroadcastState.{BroadcastState}
use Rattle.tipc_header.specs.Spelling.{Fields}
use Rattle.tipc_send_window.specs.Sending.{Sending, acknowledged, fresh, release_count, advanced, room}
use Rattle.tipc_link_fsm.specs.declared.changes.Change.{Change}
use Rattle.tipc_link_fsm.specs.declared.changes.Change.TheVariants.{Answer, Down, Ignore, Stay, Up as GoesUp}
use Rattle.tipc_link_fsm.specs.Table.{Fsm, Outcome, is_last, is_reset_reset, is_session, on_traffic}
use Rattle.tipc_link_fsm.proofs.Moves.{cases_on}
use Rattle.tipc_link.specs.Links.{LinkEnd, after, arrival_end, followed, heard_end, is_down, is_heard, is_taken, is_traffic, session_of, with_fsm}
use Rattle.tipc_link.specs.Sessions.{Carries, Content, Nothing, SessionEnd, Shows, arrived, content_of, flushed, moving, after_acknowledgement, repeated, spoke}
use Rattle.tipc_pair.specs.Changeovers.{following, gone_up}
use Rattle.tipc_pair.specs.Courses.{going_on}
use Rattle.tipc_pair.specs.Facing.{PairEnds, with_near}
use Rattle.tipc_pair.specs.PairArrivals.{met}
use Rattle.tipc_pair.proofs.EndSteps.{fsm_arrived}
use Rattle.tipc_changeover.specs.Links.{Bearer, Reset, State, Up}
use Rattle.tipc_changeover.specs.Sound.{Sound}
use Rattle.tipc_two_nodes.specs.links.Traffic.{Traffic}
use Rattle.tipc_two_nodes.specs.links.Sending.{StandFor, ends_seen, state_as}
use Rattle.tipc_two_nodes.specs.links.Following.{Become}
use Rattle.tipc_two_nodes.specs.links.Steps.{AreTaken, near_more, near_window}
use Rattle.tipc_two_nodes.specs.links.Ends.{IsRisen, StaysUp, heard_window, session_by, up_beside}
use Rattle.tipc_two_nodes.specs.links.Turning.{TurnsEnd, goes_down, goes_up, is_rise, stays_so}
use Rattle.tipc_two_nodes.proofs.links.calls.Acted.{ActedNear, near_first}
use Rattle.tipc_two_nodes.proofs.links.sender.LinkSteps.{after_seen, arrived_window, hears, near_seen}
use Rattle.tipc_two_nodes.proofs.links.calls.Noticing.{MayChange}
use Rattle.tipc_two_nodes.proofs.links.calls.States.{traffic_turns}
use Rattle.tipc_two_nodes.proofs.links.calls.Stepping.{Rise, goes_up_rise, numbers_moved, rise_same, up_some}
-- ---- what a session hears
use Rattle.tipc_two_nodes.proofs.deeds.Meeting.{brings}

pub spoke_epoch : {A : Type 0} (s : SessionEnd) (xs : List A) → (spoke s xs).epoch ≡ s.epoch
spoke_epoch s [] = refl
spoke_epoch s (x ∷ xs) = refl

pub arrived_epoch : (s : SessionEnd) (by acknowledgement : ℕ) (c : Content) → (arrived s by acknowledgement c).epoch ≡ s.epoch
unfolding flushed
arrived_epoch s by acknowledgement Nothing = refl
arrived_epoch s by acknowledgement (Shows next gap probe) = spoke_epoch (after_acknowledgement s acknowledgement) (repeated (after_acknowledgement s acknowledgement) acknowledgement gap)
arrived_epoch s by acknowledgement (Carries number packet) = refl

few_heard : (w : Sending) (acknowledgement : ℕ) → length w.unacked ≤ 50 → length (heard_window w acknowledgement).unacked ≤ 50
few_heard w acknowledgement few =
    let v = acknowledged w acknowledgement in
    let n : ℕ = room v in
    omega (arith, length-drop (release_count w acknowledgement) w.unacked, length-append v.unacked (take n v.waiting), length-take n v.waiting)

-- one that has just begun has nothing to number
fresh_heard : (acknowledgement : ℕ) → heard_window fresh acknowledgement ≡ fresh
fresh_heard acknowledgement =
    ap (λ (us : List (List ℕ)). advanced (room (record { numbered = 0; unacked = us; waiting = [] })) (record { numbered = 0; unacked = us; waiting = [] })) (drop_all (release_count fresh acknowledgement) [] (omega arith))

-- ---- what the link makes of it

arrival_session : (e : LinkEnd) (o : Outcome) (p : Fields) (by : ℕ) (s : SessionEnd) → is_heard p.header o.change ≡ true → (after e o).session ≡ Some s → (arrival_end e o p by).session ≡ Some (arrived s by p.acknowledgement (content_of p))
arrival_session e o p by s heard session =
    ap (λ b. (if b then heard_end (after e o) by p.acknowledgement (content_of p) else after e o).session) heard ∙ ap (option_map (λ u. arrived u by p.acknowledgement (content_of p))) session

-- an end that stays up
pub record Keeps (fsm : Fsm) (o : Outcome) : Type 0 where
  pub own : o.after.own ≡ fsm.own
  pub was : is_up fsm.state ≡ true
  pub up : is_up o.after.state ≡ true

pub stay_keeps : (fsm : Fsm) (es er : ℕ) → (on_traffic fsm es er).change ≡ Stay → Keeps fsm (on_traffic fsm es er)
unfolding on_traffic
stay_keeps fsm es er =
    let P : Outcome → Type 0 = (λ o. o.change ≡ Stay → Keeps fsm o) in
    cases_on P (is_session fsm es er && (is_reset_reset fsm.state && not (is_last fsm.own))) _ _ (λ fits change. absurd (let wrong : ⊥ = cc in wrong))
    (λ _. cases_on P (is_session fsm es er && is_up fsm.state) _ _ (λ fits change. record { own = refl; was = (and_parts (is_session fsm es er) _ fits).1; up = refl }) (λ _ change. absurd (let wrong : ⊥ = cc in wrong)))

pub hears_stay : (b : Bearer) (x : PairEnds) (e : LinkEnd) (es er : ℕ) (p : Fields) (by : ℕ) (shown : BroadcastState) (t : Traffic) (z : State) → x.near ≡ Some e → MayChange x → is_traffic p.header ≡ true → (on_traffic e.fsm es er).change ≡ Stay → is_heard p.header (on_traffic e.fsm es er).change ≡ true
    → ((s : SessionEnd) → e.session ≡ Some s → 1 ≤ release_count s.sending p.acknowledgement → AreTaken z (release_count s.sending p.acknowledgement)) → StandFor b (ends_seen x) t z → Rise b x (met x e (on_traffic e.fsm es er) p es by shown).course.pair t z
unfolding going_on
hears_stay b x e es er p by shown t z is may traffic stay heard taken stand =
    let o = on_traffic e.fsm es er in
    let keeps = stay_keeps e.fsm es er stay in
    let r = may.near e is keeps.was in
    let s = r.session in
    let k = r.up_at in
    let e' = arrival_end e o p by in
    let v = arrived s by p.acknowledgement (content_of p) in
    let again : (after e o).session ≡ Some s = ap (λ (q : Change). (followed (with_fsm e o.after) q).session) stay ∙ k.session_is in
    let session = arrival_session e o p by s heard again in
    let fsm = fsm_arrived e o p by in
    let window = arrived_window s by p.acknowledgement (content_of p) (brings p traffic) in
    let w = heard_window s.sending p.acknowledgement in
    let stays : StaysUp e e' w = record { own = ap (λ (f : Fsm). f.own) fsm ∙ keeps.own; up = ap (λ (f : Fsm). is_up f.state) fsm ∙ keeps.up; session = v; session_is = session; window_is = window } in
    let B = hears b x e e' s t z p.acknowledgement k stays stand (taken s k.session_is) in
    let X = up_beside x e s in
    let Y = near_window X w in
    let acted : ActedNear b X Y t z = record {
      packets = moving (record s { sending = acknowledged s.sending p.acknowledgement });
      near_is = numbers_moved X.near e.fsm.own (acknowledged s.sending p.acknowledgement) refl;
      count = refl;
      state = refl;
      become = subst (λ q. Become b q (near_more t (session_by t.near Y.near) (moving (record s { sending = acknowledged s.sending p.acknowledgement }))) z) (after_seen x e e' s w stays) B;
    } in
    let pair : with_near x e' ≡ (following (with_near x e') o.change es).pair = ap (λ (q : Change). (following (with_near x e') q es).pair) (sym stay) in
    rise_same b x (with_near x e') (following (with_near x e') o.change es).pair t z pair (record {
      contact = refl;
      near = near_first b (ends_seen x) X (ends_seen (with_near x e')) Y t z (sym (near_seen x e s k)) (sym (after_seen x e e' s w stays)) acted;
      up = record {
        near = up_some e' v session (arrived_epoch s by p.acknowledgement (content_of p) ∙ (k.epoch_is ∙ sym stays.own)) (subst (λ (q : Sending). length q.unacked ≤ 50) (sym window) (few_heard s.sending p.acknowledgement k.few));
        far = may.up.far;
      };
      runs = λ far. far;
    })

-- ---- a link that goes up with it

up_outcome : (fsm : Fsm) (o : Outcome) (held : Bool) → TurnsEnd held fsm o → o.change ≡ GoesUp → (state_as fsm.state ≡ Reset) × (o.after.own ≡ fsm.own) × (state_as o.after.state ≡ Up)
up_outcome fsm o held (goes_down cause change up low) rise = absurd (let wrong : true ≡ false = sym (ap is_down change) ∙ ap is_down rise in let no : ⊥ = cc in no)
up_outcome fsm o held (goes_up change reset own state) rise = (reset, own, state)
up_outcome fsm o held (stays_so other so own state) rise = absurd (let wrong : true ≡ false = sym (ap is_rise rise) ∙ other in let no : ⊥ = cc in no)

pub hears_up : (b : Bearer) (x : PairEnds) (e : LinkEnd) (es er : ℕ) (p : Fields) (by : ℕ) (shown : BroadcastState) (t : Traffic) (z : State) → x.near ≡ Some e → MayChange x → is_traffic p.header ≡ true → (on_traffic e.fsm es er).change ≡ GoesUp → is_heard p.header (on_traffic e.fsm es er).change ≡ true
    → StandFor b (ends_seen x) t z → Sound b z → Rise b x (met x e (on_traffic e.fsm es er) p es by shown).course.pair t z
unfolding going_on
hears_up b x e es er p by shown t z is may traffic up heard stand sound =
    let o = on_traffic e.fsm es er in
    let turn = up_outcome e.fsm o true (traffic_turns e.fsm es er true) up in
    let first = session_of (with_fsm e o.after) in
    let e' = arrival_end e o p by in
    let s = arrived first by p.acknowledgement (content_of p) in
    let begun : (after e o).session ≡ Some first = ap (λ (q : Change). (followed (with_fsm e o.after) q).session) up in
    let fsm = fsm_arrived e o p by in
    let risen : IsRisen e e' s = record {
      reset = turn.0;
      own = ap (λ (f : Fsm). f.own) fsm ∙ turn.1;
      up = ap (λ (f : Fsm). state_as f.state) fsm ∙ turn.2;
      session_is = arrival_session e o p by first heard begun;
      fresh_is = arrived_window first by p.acknowledgement (content_of p) (brings p traffic) ∙ fresh_heard p.acknowledgement;
    } in
    let epoch : s.epoch ≡ e'.fsm.own = arrived_epoch first by p.acknowledgement (content_of p) ∙ ap (λ (f : Fsm). f.own) (sym fsm) in
    let pair : (gone_up (with_near x e')).pair ≡ (following (with_near x e') o.change es).pair = ap (λ (q : Change). (following (with_near x e') q es).pair) (sym up) in
    rise_same b x (gone_up (with_near x e')).pair (following (with_near x e') o.change es).pair t z pair (goes_up_rise b x e e' s t z may.two_bearers is risen epoch may.up.far may.far stand sound)

-- ---- one of the two

taken_change : (k : Change) → is_taken k ≡ true → (k ≡ Stay) ⊎ (k ≡ GoesUp)
taken_change GoesUp so = inr refl
taken_change Stay so = inl refl
taken_change (Down cause) so = absurd (let wrong : ⊥ = cc in wrong)
taken_change (Answer r) so = absurd (let wrong : ⊥ = cc in wrong)
taken_change (Ignore reason) so = absurd (let wrong : ⊥ = cc in wrong)

pub hears_rise : (b : Bearer) (x : PairEnds) (e : LinkEnd) (es er : ℕ) (p : Fields) (by : ℕ) (shown : BroadcastState) (t : Traffic) (z : State) → x.near ≡ Some e → MayChange x → is_heard p.header (on_traffic e.fsm es er).change ≡ true
    → ((s : SessionEnd) → e.session ≡ Some s → (on_traffic e.fsm es er).change ≡ Stay → 1 ≤ release_count s.sending p.acknowledgement → AreTaken z (release_count s.sending p.acknowledgement))
    → StandFor b (ends_seen x) t z → Sound b z → Rise b x (met x e (on_traffic e.fsm es er) p es by shown).course.pair t z
hears_rise b x e es er p by shown t z is may heard taken stand sound =
    let change = (on_traffic e.fsm es er).change in
    let parts = and_parts (is_traffic p.header) (is_taken change) heard in
    elim (taken_change change parts.1) [
      | inl stay ↦ hears_stay b x e es er p by shown t z is may parts.0 stay heard (λ s session. taken s session stay) stand
      | inr up ↦ hears_up b x e es er p by shown t z is may parts.0 up heard stand sound
    ]
