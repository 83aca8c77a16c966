-- A STATE that a node told of the broadcast in a round, and how it was heard.
use Rattle.std.specs.Prelude.{◌&&◌, if◌then◌else◌, option_map}
use Rattle.std.specs.List.{Contains}
use Rattle.std.proofs.Common.{◌≡◌, ◌≤◌, ◌∙◌, ℕ, Bool, true, false, List, None, Some, eq-eqb, length, slice_get, slice_index_or, refl, sym, ap, subst, arith}
use Rattle.std.proofs.lemmas.List.{drop_at}
use Rattle.tipc_types.specs.Address.{node_word}
use Rattle.tipc_types.specs.declared.link_words.BroadcastState.{BroadcastState}
use Rattle.tipc_outside.specs.declared.outgoing.Outgoing.{Outgoing}
use Rattle.tipc_header.specs.declared.frames.FrameKind.TheVariants.{Links}
use Rattle.tipc_header.specs.declared.packet.Header.TheVariants as header
use Rattle.tipc_header.specs.declared.packet.State.{State}
use Rattle.tipc_header.specs.Frames.{envelope, kind_in}
use Rattle.tipc_header.specs.Reading.{fields_at}
use Rattle.tipc_header.specs.Spelling.{Fields, spelling}
use Rattle.tipc_header.proofs.Again.{again}
use Rattle.tipc_header.proofs.FrameWords.{length-envelope}
use Rattle.tipc_broadcast.specs.declared.contacts.Contact.{Contact}
use Rattle.tipc_broadcast.specs.Casting.{Casting, answered, informed, stating, stating_frames}
use Rattle.tipc_broadcast.specs.Contacts.{acknowledging, contact_with, told}
use Rattle.tipc_broadcast.proofs.Deeds.{answered_alike}
use Rattle.tipc_broadcast.proofs.Keeping.{told-same}
use Rattle.tipc_broadcast_law.proofs.calls.Crediting.{changed-here}
use Rattle.tipc_link.specs.Sessions.{SessionEnd, state_fields}
use Rattle.tipc_casters.specs.Sights.{Told}
use Rattle.tipc_node.specs.Casting.{broadcast_in}
use Rattle.tipc_node.specs.Turns.{IsFrom, is_to}
use Rattle.tipc_replay.specs.declared.air.Sent.{Sent}
use Rattle.tipc_replay.specs.Air.{airborne}
use Rattle.tipc_replay.specs.Casters.{cast_contact, heard_contact, heard_of_caster, state_heard, state_told, told_to_caster}
use Rattle.tipc_replay.specs.Heard.{broadcast_of, state_in, state_of_kind}
use Rattle.tipc_replay.specs.Skies.{air_on}
use Rattle.tipc_replay.specs.States.{MemberState, contact_at}
use Rattle.tipc_replay.proofs.casts.CastsArrive.{listed_there}
use Rattle.tipc_replay.proofs.frames.Reaching.{placed}
use Rattle.tipc_replay.proofs.journals.Stepping.{get_prefix}
use Rattle.tipc_world.specs.States.{WorldState}
use Rattle.tipc_world.proofs.casts.Hearing.{state_taken}
use Rattle.tipc_world.proofs.casts.Telling.{TellsCast}
use Rattle.tipc_world.proofs.rounds.Going.{Going}
use Rattle.tipc_world.proofs.rounds.TickStates.{IsHeardOnce, StateHeard, slice_there}

-- ---- what is read of it

-- the STATE that a session tells shows what it was given of the broadcast
record Says (s : SessionEnd) (seen : BroadcastState) (probe : Bool) : Type 0 where
  said : State
  states : (state_fields s seen probe).header ≡ header.State said
  seen_is : broadcast_in said ≡ seen

says : (s : SessionEnd) (seen : BroadcastState) (probe : Bool) → Says s seen probe
unfolding state_fields
says s seen probe = record { said = _; states = refl; seen_is = refl }

state_read : (bytes : List ℕ) (b es er : ℕ) (p : Fields) (said : State) → IsFrom b bytes es er p → kind_in bytes ≡ Links → p.header ≡ header.State said → state_in bytes ≡ Some (broadcast_in said)
state_read bytes b es er p said from kind states =
    ap (λ k. state_of_kind k bytes) kind
    ∙ (ap (state_of_kind Links) from.frame_is
    ∙ (ap (λ xs. broadcast_of (fields_at xs).header) (drop_at (envelope es er) (spelling p) 16 (length-envelope es er)) ∙ (ap (λ (q : Fields). broadcast_of q.header) (again p from.fits) ∙ ap broadcast_of states)))

-- ---- it stands among those that a member told, and among those that it hears

told_by : (b a contact : ℕ) (f : Sent) (seen : BroadcastState) → f.from.word ≡ node_word b → is_to a f.to ≡ true → heard_contact f.contact ≡ contact → state_in f.frame ≡ Some seen → state_told b a f ≡ Some (record { contact = contact; stamp = f.peer_casts; seen = seen })
told_by b a contact f seen sender meant in_it read =
    let note : ℕ → BroadcastState → Told = λ c s. record { contact = c; stamp = f.peer_casts; seen = s } in
    ap (λ t. if t && is_to a f.to then option_map (note (heard_contact f.contact)) (state_in f.frame) else None) (eq-eqb f.from.word (node_word b) sender)
    ∙ (ap (λ t. if t then option_map (note (heard_contact f.contact)) (state_in f.frame) else None) meant ∙ (ap (λ c. option_map (note c) (state_in f.frame)) in_it ∙ ap (option_map (note contact)) read))

heard_by : (a b contact : ℕ) (f : Sent) (seen : BroadcastState) → f.from.word ≡ node_word a → is_to b f.to ≡ true → cast_contact f.contact ≡ contact → state_in f.frame ≡ Some seen → state_heard a b f ≡ Some (record { contact = contact; stamp = f.casts; seen = seen })
heard_by a b contact f seen sender meant in_it read =
    let note : ℕ → BroadcastState → Told = λ c s. record { contact = c; stamp = f.casts; seen = s } in
    ap (λ t. if t && is_to b f.to then option_map (note (cast_contact f.contact)) (state_in f.frame) else None) (eq-eqb f.from.word (node_word a) sender)
    ∙ (ap (λ t. if t then option_map (note (cast_contact f.contact)) (state_in f.frame) else None) meant ∙ (ap (λ c. option_map (note c) (state_in f.frame)) in_it ∙ ap (option_map (note contact)) read))

told_there : (w : WorldState) (b a bearer place : ℕ) (f : Sent) (t : Told) → slice_get (air_on bearer w.air) place ≡ Some f → state_told b a f ≡ Some t → Contains (told_to_caster w.air b a) t
unfolding told_to_caster
told_there w b a bearer place f t there is = listed_there (λ k. state_told b a) w.air bearer place f t there is

heard_there : (w : WorldState) (a b bearer place : ℕ) (f : Sent) (t : Told) → slice_get (air_on bearer w.air) place ≡ Some f → state_heard a b f ≡ Some t → Contains (heard_of_caster w.air a b) t
unfolding heard_of_caster
heard_there w a b bearer place f t there is = listed_there (λ k. state_heard a b) w.air bearer place f t there is

-- ---- the contact with its node

-- what was shown is noted in the contact
pub record StatedContact (v : Casting) (word : ℕ) (seen : BroadcastState) (c : Contact) : Type 0 where
  pub contact : Contact
  pub there : contact_with word (stating v word seen).contacts ≡ Some contact
  pub window : contact.window ≡ (told seen.start seen.next c).window
  pub shown : contact.shown ≡ (told seen.start seen.next c).shown

pub stating_here : (v : Casting) (word : ℕ) (seen : BroadcastState) (c : Contact) → contact_with word v.contacts ≡ Some c → StatedContact v word seen c
stating_here v word seen c there = by seen.in_step refl
  where
    tell : Contact → Contact
    tell = told seen.start seen.next

    credit : Contact → Contact
    credit = acknowledging v.sending.numbered seen.acknowledged

    u : Casting
    u = informed v word seen.start seen.next

    here : contact_with word u.contacts ≡ Some (tell c)
    here = changed-here tell (λ d. (told-same seen.start seen.next d).peer) word v.contacts c there

    by : (b : Bool) → seen.in_step ≡ b → StatedContact v word seen c
    by false is = record { contact = tell c; there = ap (λ b. contact_with word (if b then answered u word seen.acknowledged else u).contacts) is ∙ here; window = refl; shown = refl }
    by true is = record {
      contact = credit (tell c);
      there = ap (λ b. contact_with word (if b then answered u word seen.acknowledged else u).contacts) is ∙ (ap (contact_with word) (answered_alike u word seen.acknowledged).contacts ∙ changed-here credit (λ d. refl) word u.contacts (tell c) here);
      window = refl;
      shown = refl;
    }

-- ---- in a round

-- Node n heard what node b told of the broadcast when the round began: what its broadcast link made of it, and what
-- left.
pub record CastHeard (start outset ticked now : WorldState) (b n bearer : ℕ) : Type 0 where
  pub seen : BroadcastState
  pub before : WorldState
  pub since : Going start outset before
  pub member : MemberState
  pub member_is : slice_index_or before.members n None ≡ Some member
  pub after : WorldState
  pub step : Going start before after
  pub others : (i : ℕ) → (i ≡ n → ⊥) → slice_index_or after.members i None ≡ slice_index_or before.members i None
  pub new : MemberState
  pub new_is : slice_index_or after.members n None ≡ Some new
  pub later : Going start after now
  pub casting : new.node.casting ≡ stating member.node.casting (node_word b) seen
  pub sent : Sent
  pub tells : TellsCast start outset b n sent seen
  pub told : (contact : ℕ) → heard_contact sent.contact ≡ contact → Contains (told_to_caster before.air b n) (record { contact = contact; stamp = sent.peer_casts; seen = seen })
  pub hears : (contact : ℕ) → cast_contact sent.contact ≡ contact → Contains (heard_of_caster before.air b n) (record { contact = contact; stamp = sent.casts; seen = seen })
  pub leaves : (o : Outgoing) → Contains (stating_frames member.node.casting (node_word b) seen) o → o.bearer ≡ bearer → (place : ℕ) × (length (air_on bearer ticked.air) ≤ place) × (slice_get (air_on bearer now.air) place ≡ Some (airborne (contact_at before.members n) after.members n o))

pub heard_cast : (start outset ticked now : WorldState) (b n bearer : ℕ) (s : SessionEnd) → StateHeard start outset ticked now b n bearer s → CastHeard start outset ticked now b n bearer
heard_cast start outset ticked now b n bearer s t =
    let h = t.heard in
    let y = says s t.seen t.probe in
    let takes = state_taken start outset ticked now b n bearer (state_fields s t.seen t.probe) y.said h y.states in
    let word = node_word b in
    let there = (placed h.before.air n bearer h.sent_at h.sent h.found).0 in
    let read : state_in h.sent.frame ≡ Some t.seen = state_read h.sent.frame b _ _ (state_fields s t.seen t.probe) y.said h.brings h.kind y.states ∙ ap Some y.seen_is in
    record {
      seen = t.seen;
      before = h.before;
      since = h.since;
      member = h.member;
      member_is = h.member_is;
      after = h.after;
      step = h.step;
      others = h.others;
      new = h.new;
      new_is = h.new_is;
      later = h.later;
      casting = takes.casting ∙ ap (stating h.member.node.casting word) y.seen_is;
      sent = h.sent;
      tells = t.tells;
      told = λ contact is. told_there h.before b n bearer h.sent_at h.sent _ there (told_by b n contact h.sent t.seen t.tells.sender t.tells.meant is read);
      hears = λ contact is. heard_there h.before b n bearer h.sent_at h.sent _ there (heard_by b n contact h.sent t.seen t.tells.sender t.tells.meant is read);
      leaves = λ o asked on.
          let all = takes.leaves o (subst_frames h y o asked) in
          let left = h.leaves all.0 o on (slice_there h.frames all.0 o all.1 all.2) in
          let longer = h.behind in
          let later = left.1 in
          (left.0, omega (arith, longer, later), get_prefix (air_on bearer h.after.air) (air_on bearer now.air) left.0 _ (h.later.on.grown.air bearer) left.2);
    }
  where
    subst_frames : (h : IsHeardOnce start outset ticked now b n bearer (state_fields s t.seen t.probe)) (y : Says s t.seen t.probe) (o : Outgoing) → Contains (stating_frames h.member.node.casting (node_word b) t.seen) o → Contains (stating_frames h.member.node.casting (node_word b) (broadcast_in y.said)) o
    subst_frames h y o asked = subst (λ x. Contains (stating_frames h.member.node.casting (node_word b) x) o) (sym y.seen_is) asked
