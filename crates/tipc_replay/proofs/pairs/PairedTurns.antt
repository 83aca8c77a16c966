-- A node's turn leaves it paired with each other node.
use Rattle.std.proofs.Common.{◌⊎◌, ◌≡◌, ◌≢◌, ℕ, Bool, true, false, List, ◌++◌, Option, Some, None, map, option_map, refl, sym, ap, ◌∙◌, subst, inl, inr}
use Rattle.std.specs.Prelude.{All}
use Rattle.tipc_types.specs.Address.{node_word}
use Rattle.tipc_types.specs.LinkStates.{is_up}
use Rattle.tipc_types.specs.declared.link_words.BroadcastState.{BroadcastState}
use Rattle.tipc_types.specs.declared.node_calls.EventNote.TheVariants as event
use Rattle.std.proofs.lemmas.Bool.{cases_eq}
use Rattle.tipc_outside.specs.declared.outgoing.Outgoing.{Outgoing}
use Rattle.tipc_header.specs.Spelling.{Fields}
use Rattle.tipc_reassembly.specs.Slots.{packets_in}
use Rattle.tipc_journal.specs.Steps.{NodeStep, step_entries}
use Rattle.tipc_link.specs.Links.{LinkEnd}
use Rattle.tipc_link.specs.Sessions.{SessionEnd}
use Rattle.tipc_pair.specs.Facing.{PairEnds, is_up_at}
use Rattle.tipc_pair.specs.Messages.{IsMessage, opened_in}
use Rattle.tipc_pair.specs.PairTurns.{Opening, PairTurn, Reply, ShowsAtLast, ShowsIn, Suits}
use Rattle.tipc_pair.specs.PairTurns.Opening.{cuts, hears, makes, mends, rests, ticks}
use Rattle.tipc_two_nodes.specs.Reaching.{Steps, turns as turns_node}
use Rattle.tipc_two_nodes.specs.Sights.{AreSeen, PairBecomes, HasSession, MayHappen, Sight, pair_seen}
use Rattle.tipc_two_nodes.proofs.sights.Sights.{turns}
use Rattle.tipc_two_nodes.proofs.sights.LastSessions.{last_epoch}
use Rattle.tipc_node.specs.Messages.{bytes_of}
use Rattle.tipc_node.specs.Nodes.{pair_with}
use Rattle.tipc_node.specs.Telling.{IsTold}
use Rattle.tipc_node.specs.Turns.{IsBrought, NodeTurn, frames_to}
use Rattle.tipc_node.proofs.pairs.Strangers.{kept_abreast}
use Rattle.tipc_replay.specs.Members.{noted, over_with, sender_of}
use Rattle.tipc_replay.specs.Sound.{IsNumber, IsSound}
use Rattle.tipc_replay.specs.Numbers.{end_on}
use Rattle.tipc_replay.specs.States.{MemberState, count_in, count_of, history, link_in}
use Rattle.tipc_replay.specs.Steps.{Stage, Turns}
use Rattle.tipc_replay.specs.Views.{sight_at}
use Rattle.tipc_replay.proofs.frames.Coming.{ComesOut, may_happen}
use Rattle.tipc_replay.proofs.frames.Fitting.{AreFit, turn_fits}
use Rattle.tipc_replay.proofs.pairs.Counts.{count_alone, count_here, count_noted, sender_else, sender_here, session_cases}
use Rattle.tipc_replay.proofs.streams.Histories.{history_longer}
use Rattle.tipc_replay.proofs.pairs.LastSessions.{IsSteady, turn_last}
use Rattle.tipc_replay.proofs.frames.Messages.{messages_are}
use Rattle.tipc_replay.proofs.frames.Senders.{sender_is}
use Rattle.tipc_replay.proofs.pairs.Pairings.{end_read, with_in}
use Rattle.tipc_replay.proofs.pairs.Standing.{kept_sight}
use Rattle.tipc_replay.proofs.streams.TurnStreams.{AreBrought, Recorded, turn_records}
use Rattle.tipc_replay.proofs.pairs.Turning.{AllPaired, IsChanged, PartnersIn, all_paired, goes, sight_in, was_there}

-- The node of a member took a turn. The journals of the boots before stay, and the last session with the sender of these bytes was noted, on
-- the bearer on which they came.
pub record TakesTurn (m m' : MemberState) (bytes : List ℕ) (s : NodeStep) (frames : List Outgoing) : Type 0 where
  pub turn : NodeTurn m.node m'.node bytes s frames
  pub told : IsTold m.node
  pub past : m'.past ≡ m.past
  pub bearer : ℕ
  pub on : (k number : ℕ) → s.event ≡ event.Arrive k number → k ≡ bearer
  pub counts : m'.counts ≡ noted m.counts (over_with m (sender_of bytes) bearer)

-- the step stands last in all that ever happened at the node
pub turn_history : (m m' : MemberState) (bytes : List ℕ) (s : NodeStep) (frames : List Outgoing) → TakesTurn m m' bytes s frames → history m' ≡ history m ++ step_entries s
turn_history m m' bytes s frames t = history_longer m m' (step_entries s) t.past t.turn.journal

-- ---- how many packets were numbered

-- whether a link end has or had last a session of an epoch
pub has_session : (o : Option LinkEnd) (epoch : ℕ) → HasSession o epoch ⊎ (HasSession o epoch → ⊥)
has_session None epoch = inr (λ h. (let is = h.2 in let wrong : ⊥ = cc in wrong))
has_session (Some e) epoch = elim (session_cases e.session epoch) [
  | inl had ↦ inl (e, had.0, refl, had.1, had.2)
  | inr none ↦ inr (λ h. (let same : e ≡ h.0 = (let is = h.2 in cc) in none h.1 (ap (λ (d : LinkEnd). d.session) same ∙ h.3) h.4))
]

-- where it has none, what is noted counts
pub count_unsaid : (m : MemberState) (peer bearer epoch : ℕ) → (HasSession (link_in m.node peer bearer) epoch → ⊥) → count_of m peer bearer epoch ≡ count_in m.counts peer bearer epoch
count_unsaid m peer bearer epoch none = case (link_in m.node peer bearer) refl
  where
    case : (o : Option LinkEnd) → link_in m.node peer bearer ≡ o → count_of m peer bearer epoch ≡ count_in m.counts peer bearer epoch
    case None is = count_alone m peer bearer epoch is
    case (Some e) is = count_noted m peer bearer epoch e is (λ s has same. none (e, s, is, has, same))

-- an arrival may find the link down
abbrev FindsDown : PairEnds → ℕ → Opening → Type 0
FindsDown x b opening = (es : ℕ) × (er : ℕ) × (p : Fields) × (by : ℕ) × (shown : BroadcastState) × (opening ≡ hears b es er p by shown) × (is_up_at (end_on b (Some x)) ≡ false)

steady_or : (x : PairEnds) (b : ℕ) (opening : Opening) → IsSteady x b opening ⊎ FindsDown x b opening
steady_or x b rests = inl tt
steady_or x b (makes bearer mended) = inl tt
steady_or x b (mends bearer) = inl tt
steady_or x b (cuts bearer) = inl tt
steady_or x b (ticks shown) = inl tt
steady_or x b (hears bearer es er p by shown) = elim (cases_eq b bearer) [
  | inr apart ↦ inl (λ same. absurd (apart same))
  | inl same ↦ by_state (is_up_at (end_on b (Some x))) refl same
]
  where
    by_state : (up : Bool) → is_up_at (end_on b (Some x)) ≡ up → b ≡ bearer → IsSteady x b (hears bearer es er p by shown) ⊎ FindsDown x b (hears bearer es er p by shown)
    by_state true up same = inl (λ _. up)
    by_state false down same = inr (es, er, p, by, shown, ap (λ k. hears k es er p by shown) (sym same), down)

-- a session of the epoch of the last one
pub of_last : (o : Option LinkEnd) (epoch : ℕ) → last_epoch o ≡ Some epoch → HasSession o epoch
of_last None epoch is = absurd cc
of_last (Some e) epoch is = case e.session refl
  where
    case : (session : Option SessionEnd) → e.session ≡ session → HasSession (Some e) epoch
    case None none = absurd (let wrong : None ≡ Some epoch = sym (ap (option_map (λ (s : SessionEnd). s.epoch)) none) ∙ is in let no : ⊥ = cc in no)
    case (Some s) there = (e, s, refl, there, (let same : Some s.epoch ≡ Some epoch = sym (ap (option_map (λ (s : SessionEnd). s.epoch)) there) ∙ is in cc))

pub last_of : (o : Option LinkEnd) (epoch : ℕ) → HasSession o epoch → last_epoch o ≡ Some epoch
last_of o epoch h = ap last_epoch h.2 ∙ ap (option_map (λ (s : SessionEnd). s.epoch)) h.3 ∙ ap Some h.4

-- ---- how many packets were numbered

counts_else : (m m' : MemberState) (bytes : List ℕ) (s : NodeStep) (frames : List Outgoing) (b : ℕ) → IsNumber b → (pair_with m.node b).bearer ≡ 0 → TakesTurn m m' bytes s frames
    → (bearer epoch : ℕ) → (HasSession (link_in m'.node b bearer) epoch → ⊥) → count_of m' b bearer epoch ≡ count_of m b bearer epoch
counts_else m m' bytes s frames b number first t bearer epoch apart = elim (has_session (link_in m.node b bearer) epoch) [
  | inr none ↦
      now ∙ sender_else m (sender_of bytes) t.bearer b bearer epoch (λ _ e link u has same. none (e, u, link, has, same)) ∙ sym (count_unsaid m b bearer epoch none)
  | inl had ↦
      let p = t.turn.turns b in
      let x = pair_with m.node b in
      let y = pair_with m'.node b in
      let before : count_of m b bearer epoch ≡ had.1.sending.numbered = ap (count_of m b bearer) (sym had.4) ∙ count_here m b bearer had.0 had.1 had.2 had.3 in
      elim (steady_or x bearer p.opening) [
        | inl steady ↦ absurd (
            let last = (turn_last x y p.opening (map (bytes_of m.node.own) p.messages) p.reply p.own_frames first p.on_one p.anew p.turn).last bearer steady in
            let there = ap last_epoch (end_read m'.node b bearer) ∙ last ∙ ap last_epoch (sym (end_read m.node b bearer)) ∙ last_of (link_in m.node b bearer) epoch had in
            apart (of_last (link_in m'.node b bearer) epoch there))
        | inr (es, er, q, by, shown, opening_is, down) ↦
            let brought : IsBrought b bytes (hears bearer es er q by shown) = subst (IsBrought b bytes) opening_is p.brought in
            let suits : Suits s.event (hears bearer es er q by shown) = subst (Suits s.event) opening_is p.suits in
            let here : bearer ≡ t.bearer = t.on bearer by suits in
            let low : is_up had.0.fsm.state ≡ false = ap is_up_at (sym had.2 ∙ end_read m.node b bearer) ∙ down in
            now ∙ ap (λ k. count_in (noted m.counts (over_with m (sender_of bytes) k)) b bearer epoch) (sym here)
            ∙ sender_here m (sender_of bytes) b bearer epoch had.0 had.1 (sender_is b bytes es er q number brought.0) had.2 low had.3 had.4 ∙ sym before
      ]
]
  where
    now : count_of m' b bearer epoch ≡ count_in (noted m.counts (over_with m (sender_of bytes) t.bearer)) b bearer epoch
    now = count_unsaid m' b bearer epoch apart ∙ ap (λ cs. count_in cs b bearer epoch) t.counts

-- ---- the turn at another node

changed : (word : ℕ) (m m' : MemberState) (bytes : List ℕ) (s : NodeStep) (frames : List Outgoing) (b : ℕ) → IsNumber b → (pair_with m.node b).bearer ≡ 0 → (t : TakesTurn m m' bytes s frames)
    → Recorded word (history m) (history m') b (pair_with m'.node b) (map (bytes_of m.node.own) (t.turn.turns b).messages) (packets_in (opened_in (t.turn.turns b).turn.first.given))
    → IsChanged word m m' frames b (pair_with m'.node b) (t.turn.turns b).own_frames (map (bytes_of m.node.own) (t.turn.turns b).messages) (packets_in (opened_in (t.turn.turns b).turn.first.given))
changed word m m' bytes s frames b number first t h = record {
  boot = t.turn.boot;
  pair = refl;
  first = λ y there. subst (λ (z : PairEnds). z.bearer ≡ 0) (with_in m.node b y there) first;
  frames_are = (t.turn.turns b).frames_are;
  put_is = h.put_is;
  given_is = h.given_is;
  numbered_else = counts_else m m' bytes s frames b number first t;
}

own_word : (s : Stage) (a b : ℕ) → (sight_in s a b).node.own ≡ node_word a
unfolding sight_at
own_word s a b = refl

-- A turn of the pair that the node sees: the two talk on, and each frame of it fits the air.
pub turned_by : (v v' w : Sight) (x x' : PairEnds) (opening : Opening) (messages : List (List ℕ)) (reply : Option Reply) (frames : List Outgoing) → pair_seen v ≡ x → AreSeen v w → MayHappen v w opening
    → ShowsIn opening → ShowsAtLast reply → All (IsMessage v.node.own) messages → (t : PairTurn x opening messages reply x' frames)
    → PairBecomes v v' w x' frames messages (packets_in (opened_in t.first.given)) → AreSeen v' w × AreFit frames
turned_by v v' w x x' opening messages reply frames pair h may shows shows_last all =
    subst (λ q. (t : PairTurn q opening messages reply x' frames) → PairBecomes v v' w x' frames messages (packets_in (opened_in t.first.given)) → AreSeen v' w × AreFit frames) pair
    (λ t g. (turns v v' w opening messages reply x' frames h may shows shows_last all t g, turn_fits v v' w opening messages reply x' frames h may shows shows_last all t g))

-- It is a step of the node beside the other.
steps_by : (v v' w : Sight) (x x' : PairEnds) (opening : Opening) (messages : List (List ℕ)) (reply : Option Reply) (frames : List Outgoing) → pair_seen v ≡ x → MayHappen v w opening
    → ShowsIn opening → ShowsAtLast reply → All (IsMessage v.node.own) messages → (t : PairTurn x opening messages reply x' frames)
    → PairBecomes v v' w x' frames messages (packets_in (opened_in t.first.given)) → Steps v w v'
steps_by v v' w x x' opening messages reply frames pair may shows shows_last all =
    subst (λ q. (t : PairTurn q opening messages reply x' frames) → PairBecomes v v' w x' frames messages (packets_in (opened_in t.first.given)) → Steps v w v') pair
    (λ t g. turns_node v' opening messages reply x' frames may shows shows_last all t g)

-- A node that took a turn made a step beside each other one.
pub steps_with : (old new : Stage) (a : ℕ) (m m' : MemberState) (bytes : List ℕ) (s : NodeStep) (frames : List Outgoing) (lost : Bool) → IsSound old.members old.air → Turns old new a m m' frames lost
    → (turn : TakesTurn m m' bytes s frames) → ComesOut old a s.event bytes → AreBrought a m.node m'.node bytes s frames turn.turn → (b : ℕ) → IsNumber b → b ≢ a
    → Steps (sight_in old a b) (sight_in old b a) (sight_in new a b)
steps_with old new a m m' bytes s frames lost sound t turn out brought b number apart =
    let p = turn.turn.turns b in
    let x = pair_with m.node b in
    let y = pair_with m'.node b in
    let v = sight_in old a b in
    let put = map (bytes_of m.node.own) p.messages in
    let given = packets_in (opened_in p.turn.first.given) in
    let named = (sound.numbered a m t.was).1 in
    let own : v.node.own ≡ m.node.own = own_word old a b ∙ sym named in
    let seen = kept_sight old a b m sound (was_there old new a m m' frames lost t) named in
    let first = (kept_abreast m.node b turn.told).first in
    let longer : history m' ≡ history m ++ step_entries s = turn_history m m' bytes s frames turn in
    let recorded : Recorded (node_word a) (history m) (history m') b y put given =
    subst (λ k. Recorded k (history m) (history m') b y put given) named (turn_records (history m) (history m') m.node.own bytes s frames b x y p longer (brought b number apart)) in
    steps_by v (sight_in new a b) (sight_in old b a) x y p.opening put p.reply p.own_frames seen
    (may_happen v (sight_in old b a) b s.event bytes x p.opening seen p.anew (λ bearer number es er q. out bearer number b es er q) p.suits p.on_one p.brought)
    p.shows p.shows_last (subst (λ k. All (IsMessage k) put) (sym own) (messages_are m.node.own p.messages p.sendable)) p.turn
    (goes old new a m m' frames lost b y p.own_frames put given t apart (changed (node_word a) m m' bytes s frames b number first turn recorded))

-- Another node and the node that took a turn talk on, and each frame for it fits the air.
pub turned_with : (old new : Stage) (a : ℕ) (m m' : MemberState) (bytes : List ℕ) (s : NodeStep) (frames : List Outgoing) (lost : Bool) → IsSound old.members old.air → Turns old new a m m' frames lost
    → (turn : TakesTurn m m' bytes s frames) → ComesOut old a s.event bytes → AreBrought a m.node m'.node bytes s frames turn.turn → (b : ℕ) → IsNumber b → b ≢ a → PartnersIn old old a b
    → PartnersIn new old a b × AreFit (frames_to b frames)
turned_with old new a m m' bytes s frames lost sound t turn out brought b number apart h =
    let p = turn.turn.turns b in
    let x = pair_with m.node b in
    let y = pair_with m'.node b in
    let v = sight_in old a b in
    let w = sight_in old b a in
    let put = map (bytes_of m.node.own) p.messages in
    let given = packets_in (opened_in p.turn.first.given) in
    let named = (sound.numbered a m t.was).1 in
    let own : v.node.own ≡ m.node.own = own_word old a b ∙ sym named in
    let seen = kept_sight old a b m sound (was_there old new a m m' frames lost t) named in
    let first = (kept_abreast m.node b turn.told).first in
    let longer : history m' ≡ history m ++ step_entries s = turn_history m m' bytes s frames turn in
    let recorded : Recorded (node_word a) (history m) (history m') b y put given =
    subst (λ k. Recorded k (history m) (history m') b y put given) named (turn_records (history m) (history m') m.node.own bytes s frames b x y p longer (brought b number apart)) in
    let both = turned_by v (sight_in new a b) w x y p.opening put p.reply p.own_frames seen h
    (may_happen v w b s.event bytes x p.opening seen p.anew (λ bearer number es er q. out bearer number b es er q) p.suits p.on_one p.brought)
    p.shows p.shows_last (subst (λ k. All (IsMessage k) put) (sym own) (messages_are m.node.own p.messages p.sendable)) p.turn
    (goes old new a m m' frames lost b y p.own_frames put given t apart (changed (node_word a) m m' bytes s frames b number first turn recorded)) in
    (both.0, subst AreFit (sym p.frames_are) both.1)

-- a turn leaves each two nodes paired
pub turn_pairs : (old new : Stage) (a : ℕ) (m m' : MemberState) (bytes : List ℕ) (s : NodeStep) (frames : List Outgoing) (lost : Bool) → IsSound old.members old.air → Turns old new a m m' frames lost
    → (turn : TakesTurn m m' bytes s frames) → ComesOut old a s.event bytes → AreBrought a m.node m'.node bytes s frames turn.turn → AllPaired new
turn_pairs old new a m m' bytes s frames lost sound t turn out brought =
    all_paired old new a m m' frames lost sound.pairs t (λ b a_is b_is apart h. (turned_with old new a m m' bytes s frames lost sound t turn out brought b b_is apart h).0)
