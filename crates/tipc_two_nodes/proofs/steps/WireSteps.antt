-- A deed at one link of a node by which no link goes up or down: its contact numbers and epochs stay, and so do its
-- records, but for one.
use Rattle.std.proofs.Common.{◌≡◌, ◌<◌, ◌≤◌, ◌⊎◌, ℕ, zero, suc, false, List, [], ◌∷◌, ◌++◌, Some, None, refl, sym, ap, ◌∙◌, subst, inl, inr, arith}
use Rattle.std.specs.Prelude.{slice_get}
use Rattle.tipc_types.specs.LinkStates.{is_up}
use Rattle.tipc_types.specs.declared.link_words.Cause.{Cause}
use Rattle.tipc_link.specs.Links.{LinkEnd, after, followed, record_of, with_fsm, with_session}
use Rattle.tipc_link.specs.Records.{Received}
use Rattle.tipc_link.specs.Sessions.{SessionEnd}
use Rattle.tipc_link_fsm.specs.declared.changes.Change.{Change}
use Rattle.tipc_link_fsm.specs.declared.changes.Change.TheVariants.{Down}
use Rattle.tipc_link_fsm.specs.Table.{Outcome}
use Rattle.tipc_two_nodes.specs.links.Receiving.{record_at}
use Rattle.tipc_paired.proofs.sessions.CallDeeds.{GoesOn, session_onward}
use Rattle.tipc_paired.proofs.wires.EpochsKept.{session_is}
use Rattle.tipc_paired.proofs.wires.Wires.{epoch_of_end, epoch_of_none, none_some, on_put, same_some, session_of_none}
use Rattle.tipc_paired.specs.Deeds.{IsUp, made_on}
use Rattle.tipc_paired.specs.Views.{Begun, Frame, Node, View, Wire, epoch_on, es_of, session_on, with_end, with_told, with_wire}
use Rattle.tipc_two_nodes.specs.Carriages.{IsPresent, Numbers}
use Rattle.tipc_two_nodes.specs.Numbers.{AreNumbers, AreRecorded, IsRecorded, IsTimelyFor}
use Rattle.tipc_two_nodes.specs.Steps.{Stays}
use Rattle.tipc_two_nodes.proofs.contacts.Numbered.{told_now}
use Rattle.tipc_two_nodes.proofs.contacts.Recorded.{recorded_on}

-- ---- one wire

-- the wire keeps its epoch, what began and was numbered on it, and a session where it has one
pub record KeepsOn (n : Node) (w w' : Wire) : Type 0 where
  pub begun : (epoch : ℕ) → w'.begun epoch ≡ w.begun epoch
  pub epoch : epoch_on n w' ≡ epoch_on n w
  pub onward : (s : SessionEnd) → session_on w ≡ Some s → (s' : SessionEnd) × (session_on w' ≡ Some s')
  pub down : ((e' : LinkEnd) → w'.end ≡ Some e' → is_up e'.fsm.state ≡ false)
      → (e : LinkEnd) → w.end ≡ Some e → is_up e.fsm.state ≡ false

keeps_same : (n : Node) (w : Wire) → KeepsOn n w w
keeps_same n w = record { begun = λ epoch. refl; epoch = refl; onward = λ s on. (s, on); down = λ down. down }

keeps_all : (x : View) (b : ℕ) (w' : Wire) → KeepsOn x.node (x.wires b) w' → (c : ℕ) → KeepsOn x.node (x.wires c) ((with_wire x b w').wires c)
keeps_all x b w' m c = on_put x.wires b w' (λ c w. KeepsOn x.node (x.wires c) w) m (λ c. keeps_same x.node (x.wires c)) c

pub present_on : (x x' : View) (own theirs : ℕ) → x'.node ≡ x.node → ((c : ℕ) (s : SessionEnd) → session_on (x.wires c) ≡ Some s → (s' : SessionEnd) × (session_on (x'.wires c) ≡ Some s')) → IsPresent x own theirs → IsPresent x' own theirs
present_on x x' own theirs node onward here =
    let next = onward here.bearer here.session here.session_is in
    record {
      bearer = here.bearer;
      session = next.0;
      session_is = next.1;
      own_is = here.own_is ∙ ap (λ (n : Node). n.contact) (sym node);
      theirs_is = here.theirs_is ∙ ap (λ (n : Node). n.seen) (sym node);
    }

-- each session that lasts on a wire lasts then
pub onward : (x : View) (b : ℕ) (w' : Wire) → KeepsOn x.node (x.wires b) w' → (c : ℕ) (s : SessionEnd) → session_on (x.wires c) ≡ Some s → (s' : SessionEnd) × (session_on ((with_wire x b w').wires c) ≡ Some s')
onward x b w' m c s on = (keeps_all x b w' m c).onward s on

pub keeps_stays : (x y : View) (n : Numbers) (b : ℕ) (w' : Wire) → KeepsOn x.node (x.wires b) w' → Stays x (with_wire x b w') y n
keeps_stays x y n b w' m =
    let all = keeps_all x b w' m in
    record {
      node = refl;
      apart = λ apart. (λ c. (all c).down (apart c), λ c. (all c).epoch);
      epochs = λ c. inl (all c).epoch;
      present = present_on x (with_wire x b w') x.node.contact x.node.seen refl (λ c. (all c).onward);
      begun = λ c epoch g is. (all c).begun epoch ∙ is;
      each = λ c epoch low before. absurd (let same = (all c).epoch in let wrong : ⊥ = omega arith in wrong);
      began = λ c epoch g is. inl (sym ((all c).begun epoch) ∙ is);
      told = λ k f there. inl there;
    }

-- ---- which deeds do so

pub makes_keeps : (x : View) (b : ℕ) → (x.wires b).end ≡ None → KeepsOn x.node (x.wires b) (with_end (x.wires b) (made_on x.node b))
makes_keeps x b none = record {
  begun = λ epoch. refl;
  epoch = epoch_of_end x.node (with_end (x.wires b) (made_on x.node b)) (made_on x.node b) refl ∙ sym (epoch_of_none x.node (x.wires b) none);
  onward = λ s on. absurd (none_some s _ (session_of_none (x.wires b) none) on);
  down = λ down e is. absurd (none_some e _ none is);
}

-- an end is called or turned, and stays up or down
pub goes_keeps : (n : Node) (w : Wire) (e e' : LinkEnd) → GoesOn w e e' → KeepsOn n w (with_end w e')
goes_keeps n w e e' m = record {
  begun = λ epoch. refl;
  epoch = epoch_of_end n (with_end w e') e' refl ∙ (m.own ∙ sym (epoch_of_end n w e m.end_is));
  onward = λ s on. (let next = session_onward w e e' m s on in (next.0, next.1));
  down = λ down d is. (let same : e ≡ d = same_some e d w.end m.end_is is in subst (λ (d : LinkEnd). is_up d.fsm.state ≡ false) same (sym m.up ∙ down e' refl));
}

-- a session of a link that is up becomes another one
pub session_keeps : (n : Node) (w : Wire) (e : LinkEnd) (s s' : SessionEnd) (line got : ℕ → List (List ℕ)) → IsUp w e s → KeepsOn n w (record { end = Some (with_session e s'); begun = w.begun; line = line; got = got })
session_keeps n w e s s' line got up =
    let w' : Wire = record { end = Some (with_session e s'); begun = w.begun; line = line; got = got } in
    record {
      begun = λ epoch. refl;
      epoch = epoch_of_end n w' (with_session e s') refl ∙ sym (epoch_of_end n w e up.end_is);
      onward = λ t on. (s', session_is e s s' w.begun line got up.up);
      down = λ down d is. (let same : e ≡ d = same_some e d w.end up.end_is is in subst (λ (d : LinkEnd). is_up d.fsm.state ≡ false) same (down (with_session e s') refl));
    }

-- ---- a frame is told

last_or : (told : List Frame) (f g : Frame) (k : ℕ) → slice_get (told ++ f ∷ []) k ≡ Some g → (slice_get told k ≡ Some g) ⊎ (f ≡ g)
last_or [] f g zero there = inr (let same : f ≡ g = cc in same)
last_or [] f g (suc k) there = absurd (let wrong : ⊥ = cc in wrong)
last_or (h ∷ told) f g zero there = inl there
last_or (h ∷ told) f g (suc k) there = last_or told f g k there

pub tells_stays : (x y : View) (n : Numbers) (f : Frame) → AreNumbers x y n → f.contact ≡ x.node.contact → f.peer_contact ≡ x.node.seen → es_of f.bytes ≡ epoch_on x.node (x.wires f.bearer) → Stays x (with_told x f) y n
tells_stays x y n f h own theirs epoch = record {
  node = refl;
  apart = λ apart. (apart, λ b. refl);
  epochs = λ b. inl refl;
  present = λ here. present_on x (with_told x f) x.node.contact x.node.seen refl (λ c s on. (s, on)) here;
  begun = λ b epoch g is. is;
  each = λ b epoch low before. absurd (let wrong : ⊥ = omega arith in wrong);
  began = λ b epoch g is. inl is;
  told = λ k g there. elim (last_or x.told f g k there) [
    | inl was ↦ inl was
    | inr new ↦ inr (subst (λ (g : Frame). (g.contact ≡ x.node.contact) × (g.peer_contact ≡ x.node.seen) × (n.first g.bearer x.node.contact ≤ es_of g.bytes) × ((es_of g.bytes ≤ n.first g.bearer x.node.contact) ⊎ (x.node.seen ≤ y.node.contact))) new
        (own, theirs, (told_now x y n f h epoch).0, (told_now x y n f h epoch).1))
  ];
}

-- ---- records

-- a session lasts, so what came in the contact came in one that lasts
pub timely_on : (y y' : View) (g : Begun) → y'.node ≡ y.node → (IsPresent y y.node.contact y.node.seen → IsPresent y' y.node.contact y.node.seen) → IsTimelyFor y g → IsTimelyFor y' g
timely_on y y' g node on (inl before) = inl (subst (λ (n : Node). g.peer_contact < n.contact) (sym node) before)
timely_on y y' g node on (inr now) = inr (subst (λ (n : Node). (g.peer_contact ≡ n.contact) × IsPresent y' n.contact n.seen × (g.contact ≡ n.seen)) (sym node) (now.0, on now.1, now.2))

-- a link that goes down keeps its record
pub fallen_record : (e : LinkEnd) (o : Outcome) (cause : Cause) → o.change ≡ Down cause → record_at (Some (after e o)) ≡ record_at (Some e)
fallen_record e o cause down = ap (λ (c : Change). record_of (followed (with_fsm e o.after) c)) down

-- one wire has another record, or the one that it had
pub recorded_wire : (y x : View) (b : ℕ) (w' : Wire) → AreRecorded y x → KeepsOn y.node (y.wires b) w' → ((a : Received) → record_at w'.end ≡ Some a → (record_at (y.wires b).end ≡ Some a) ⊎ IsRecorded (with_wire y b w') x b a)
    → AreRecorded (with_wire y b w') x
recorded_wire y x b w' h m after =
    let y' = with_wire y b w' in
    let all = keeps_all y b w' m in
    let here : (c : ℕ) (a : Received) → record_at (y'.wires c).end ≡ Some a → ((record_at (y.wires c).end ≡ Some a) × (y.node.seen ≤ y.node.seen)) ⊎ IsRecorded y' x c a = on_put y.wires b w' (λ c (w : Wire). (a : Received) → record_at w.end ≡ Some a → ((record_at (y.wires c).end ≡ Some a) × (y.node.seen ≤ y.node.seen)) ⊎ IsRecorded y' x c a)
    (λ a is. elim (after a is) [ inl was ↦ inl (was, omega arith) | inr new ↦ inr new ])
    (λ c a is. inl (is, omega arith)) in
    recorded_on y y' x h (λ g. timely_on y y' g refl (present_on y y' y.node.contact y.node.seen refl (λ c. (all c).onward))) here
