-- Beside a frame stands the same contact whether all contacts before the event are looked up, or those alone that may end in it: the others
-- are after the event what they were before.
use Rattle.std.specs.Prelude.{◌==◌, if◌then◌else◌, not, option_and_then, unwrap_or}
use Rattle.std.proofs.Common.{◌≡◌, ◌≤◌, ◌<◌, ℕ, Bool, true, false, List, [], Option, Some, None, length, map, eqb-true, inl, inr, refl, sym, ap, ◌∙◌, subst, arith}
use Rattle.std.proofs.lemmas.Bool.{cases_lt}
use Rattle.std.proofs.lemmas.Bool.Decides.{nat_tests}
use Rattle.tipc_types.specs.declared.node_calls.Answer.{Answer}
use Rattle.tipc_types.specs.declared.node_calls.By.{By}
use Rattle.tipc_types.specs.declared.node_calls.Answer.TheVariants as answer
use Rattle.tipc_types.specs.declared.node_calls.EventNote.{EventNote}
use Rattle.tipc_types.specs.declared.node_calls.EventNote.TheVariants as note
use Rattle.tipc_outside.specs.declared.outgoing.Outgoing.{Outgoing}
use Rattle.tipc_outside.specs.Frames.{Out}
use Rattle.tipc_journal.specs.Steps.{NodeStep}
use Rattle.tipc_pair.specs.Facing.{PairEnds, contact_between, in_contact}
use Rattle.tipc_pair.specs.PairTurns.{Happened, Opening, Suits}
use Rattle.tipc_pair.specs.PairTurns.Opening.{cuts, hears, makes, mends, rests, ticks}
use Rattle.tipc_node.specs.Messages.{bytes_of}
use Rattle.tipc_node.specs.Nodes.{NodeState, pair_with, step_of}
use Rattle.tipc_node.specs.Sockets.{kept_answer}
use Rattle.tipc_node.specs.Turns.{IsBrought, NodeTurn, PeerTurn, pair_in}
use Rattle.tipc_pair.proofs.turns.PairPuts.{MeetsAs, meets_contact, meets_then, puts_meet, replied_meets}
use Rattle.tipc_replay.specs.Air.{met_in, met_sender}
use Rattle.tipc_replay.specs.declared.events.WorldEvent.{WorldEvent}
use Rattle.tipc_replay.specs.declared.events.WorldEvent.TheVariants.{Restart, Call, Arrive}
use Rattle.tipc_replay.specs.declared.flying.Met.{Met}
use Rattle.tipc_replay.specs.declared.flying.Met.TheVariants.{Lasting, Sender}
use Rattle.tipc_replay.specs.Calls.{is_of_user, may_end_contact, node_of}
use Rattle.tipc_replay.specs.Effects.{Meets}
use Rattle.tipc_replay.specs.Events.{AreSettled, DidAt}
use Rattle.tipc_replay.specs.Members.{sender_of}
use Rattle.tipc_replay.specs.Numbers.{own_in, seen_in}
use Rattle.tipc_replay.specs.Skies.{AirState}
use Rattle.tipc_replay.specs.Sound.{IsNumber, IsSound}
use Rattle.tipc_replay.specs.States.{MemberState, boot_at, contact_at, member_at, numbers_at, pair_at}
use Rattle.tipc_replay.proofs.frames.Senders.{sender_is}
use Rattle.tipc_replay.proofs.pairs.Contacts.{no_contact}
use Rattle.tipc_replay.proofs.pairs.Pairings.{contact_read}
use Rattle.tipc_replay.proofs.LookUps.{member_at-changed, member_at-is, pair_at-is}

-- ---- a contact is its contact numbers

abbrev numbers : ℕ → Option PairEnds → ℕ × ℕ
numbers boot o = (own_in boot o, seen_in o)

numbers_told : (boot : ℕ) (o : Option PairEnds) → unwrap_or (option_and_then contact_between o) (numbers boot o) ≡ numbers boot o
numbers_told boot None = refl
numbers_told boot (Some x) = by (in_contact x)
  where
    by : (t : Bool) → unwrap_or (if t then Some (numbers boot (Some x)) else None) (numbers boot (Some x)) ≡ numbers boot (Some x)
    by true = refl
    by false = refl

pub numbers_are_told : (members : List (Option MemberState)) (a b : ℕ) → unwrap_or (contact_at members a b) (numbers_at members a b) ≡ numbers_at members a b
unfolding contact_at
numbers_are_told members a b = numbers_told (boot_at members a) (pair_at members a b)

-- ---- where nothing happens at a pair but what is put and answered

rests_contact : (own : ℕ) (bytes : List ℕ) (s : NodeStep) (frames : List Outgoing) (b : ℕ) (x x' : PairEnds) (t : PeerTurn own bytes s frames b x x') → t.opening ≡ rests → contact_between x' ≡ contact_between x
rests_contact own bytes s frames b x x' t is =
    let start : x ≡ t.turn.first.course.pair = sym (ap (λ o. o.course.pair) (subst (λ o. Happened x o t.turn.first) is t.turn.happened)) in
    let put : MeetsAs x t.turn.put = subst (λ y. MeetsAs y t.turn.put) (sym start) (puts_meet t.turn.first.course.pair (map (bytes_of own) t.messages) t.turn.put_frames t.turn.put t.turn.puts) in
    let last : MeetsAs t.turn.put x' = subst (MeetsAs t.turn.put) (sym t.turn.after) (replied_meets t.reply t.turn.put) in
    meets_contact x x' (meets_then x t.turn.put x' put last)

-- nothing happens first at a pair in a call of a user
rests_for_user : (call : EventNote) (opening : Opening) → is_of_user call ≡ true → Suits call opening → opening ≡ rests
rests_for_user call rests user suits = refl
rests_for_user call (makes bearer is_mended) user suits = absurd (let wrong : false ≡ true = sym (ap is_of_user suits.1.1) ∙ user in cc)
rests_for_user call (mends bearer) user suits = absurd (let wrong : false ≡ true = sym (ap is_of_user suits) ∙ user in cc)
rests_for_user call (cuts bearer) user suits = absurd (let wrong : false ≡ true = sym (ap is_of_user suits) ∙ user in cc)
rests_for_user call (ticks shown) user suits = absurd (let wrong : false ≡ true = sym (ap is_of_user suits) ∙ user in cc)
rests_for_user call (hears bearer es er p by shown) user suits = absurd (let wrong : false ≡ true = sym (ap is_of_user suits) ∙ user in cc)

-- nor at one whose node isn't the sender of what arrives
rests_for_other : (bearer number b : ℕ) (bytes : List ℕ) (opening : Opening) → IsNumber b → (sender_of bytes ≡ Some b → ⊥) → Suits (note.Arrive bearer number) opening → IsBrought b bytes opening → opening ≡ rests
rests_for_other bearer number b bytes rests is other suits brought = refl
rests_for_other bearer number b bytes (makes on is_mended) is other suits brought = absurd (other (sender_is b bytes brought.0 brought.1 brought.2 is brought.3))
rests_for_other bearer number b bytes (mends on) is other suits brought = absurd cc
rests_for_other bearer number b bytes (cuts on) is other suits brought = absurd cc
rests_for_other bearer number b bytes (ticks shown) is other suits brought = absurd cc
rests_for_other bearer number b bytes (hears on es er p by shown) is other suits brought = absurd (other (sender_is b bytes es er p is brought.0))

-- ---- of a node

abbrev pub contact_with : NodeState → ℕ → Option (ℕ × ℕ)
contact_with n b = option_and_then contact_between (pair_in n b)

-- a contact with a peer stays where at the pair with it nothing happens first
contact_lasts : (n n' : NodeState) (bytes : List ℕ) (s : NodeStep) (frames : List Outgoing) (b : ℕ) (turn : NodeTurn n n' bytes s frames) → ((x x' : PairEnds) (t : PeerTurn n.own bytes s frames b x x') → t.opening ≡ rests)
    → contact_with n' b ≡ contact_with n b
contact_lasts n n' bytes s frames b turn still =
    let t = turn.turns b in
    contact_read n' b ∙ rests_contact n.own bytes s frames b (pair_with n b) (pair_with n' b) t (still (pair_with n b) (pair_with n' b) t) ∙ sym (contact_read n b)

pub contact_lasts_for_user : (n n' : NodeState) (s : NodeStep) (frames : List Outgoing) (b : ℕ) → is_of_user s.event ≡ true → NodeTurn n n' [] s frames → contact_with n' b ≡ contact_with n b
contact_lasts_for_user n n' s frames b user turn = contact_lasts n n' [] s frames b turn (λ x x' t. rests_for_user s.event t.opening user t.suits)

pub contact_lasts_for_other : (n n' : NodeState) (bytes : List ℕ) (s : NodeStep) (frames : List Outgoing) (bearer number b : ℕ) → s.event ≡ note.Arrive bearer number → IsNumber b → (sender_of bytes ≡ Some b → ⊥)
    → NodeTurn n n' bytes s frames → contact_with n' b ≡ contact_with n b
contact_lasts_for_other n n' bytes s frames bearer number b event is other turn =
    contact_lasts n n' bytes s frames b turn (λ x x' t. rests_for_other bearer number b bytes t.opening is other (subst (λ e. Suits e t.opening) event t.suits) t.brought)

-- ---- of a world

contact_at-is : (members : List (Option MemberState)) (a b : ℕ) (m : MemberState) → member_at members a ≡ Some m → contact_at members a b ≡ contact_with m.node b
unfolding contact_at
contact_at-is members a b m is = ap (option_and_then contact_between) (pair_at-is members a b m is)

-- the contact is after the event what it was before, where it is at the node
at_node : (old new : List (Option MemberState)) (by : By) (event : WorldEvent) (bytes : List ℕ) (box box' : Out) (answered : Answer) (b : ℕ) (did : DidAt old new by event bytes box box' answered)
    → contact_with did.after.node b ≡ contact_with did.before.node b → contact_at new (node_of event) b ≡ contact_at old (node_of event) b
at_node old new by event bytes box box' answered b did same =
    let a = node_of event in
    let now : member_at new a ≡ Some did.after = ap (λ ms. member_at ms a) did.new_is ∙ member_at-changed old a did.before did.after did.was in
    contact_at-is new a b did.after now ∙ (same ∙ sym (contact_at-is old a b did.before (member_at-is old a did.before did.was)))

-- what stands beside a frame for b is the same
abbrev pub StandsFor : List (Option MemberState) → List (Option MemberState) → ℕ → Met → ℕ → Type 0
StandsFor old new a met b = unwrap_or (met_in met b) (numbers_at new a b) ≡ unwrap_or (contact_at old a b) (numbers_at new a b)

looked_up : (old new : List (Option MemberState)) (a : ℕ) (met : Met) (b : ℕ) → met_in met b ≡ contact_at old a b → StandsFor old new a met b
looked_up old new a met b is = ap (λ c. unwrap_or c (numbers_at new a b)) is

left_out : (old new : List (Option MemberState)) (a : ℕ) (met : Met) (b : ℕ) → met_in met b ≡ None → contact_at new a b ≡ contact_at old a b → StandsFor old new a met b
left_out old new a met b none lasts =
    ap (λ c. unwrap_or c (numbers_at new a b)) none ∙ (sym (numbers_are_told new a b) ∙ ap (λ c. unwrap_or c (numbers_at new a b)) lasts)

nobody : (old new : List (Option MemberState)) (a : ℕ) (met : Met) (b : ℕ) → met_in met b ≡ None → contact_at old a b ≡ None → StandsFor old new a met b
nobody old new a met b none alone = looked_up old new a met b (none ∙ sym alone)

-- an event other than an arrival
pub stands_before : (old new : List (Option MemberState)) (by : By) (event : WorldEvent) (bytes : List ℕ) (box box' : Out) (answered : Answer) (met : Met) → AreSettled old → DidAt old new by event bytes box box' answered
    → ((b : ℕ) → b ≤ 32 → met_in met b ≡ (if may_end_contact event then contact_at old (node_of event) b else None)) → ((b : ℕ) → 32 < b → met_in met b ≡ None)
    → (b : ℕ) → StandsFor old new (node_of event) met b
stands_before old new by event bytes box box' answered met settled did each beyond b = elim (cases_lt b 33) [
  | inl low ↦ at event did (each b (omega (arith, low)))
  | inr high ↦ nobody old new (node_of event) met b (beyond b (omega (arith, high))) (no_contact old (node_of event) b settled (omega (arith, high)))
]
  where
    at : (event : WorldEvent) → DidAt old new by event bytes box box' answered → met_in met b ≡ (if may_end_contact event then contact_at old (node_of event) b else None) → StandsFor old new (node_of event) met b
    at (Restart node) did is = looked_up old new node met b is
    at (Arrive node bearer place) did is = looked_up old new node met b is
    at (Call node call) did is = case (is_of_user call) refl
      where
        case : (t : Bool) → is_of_user call ≡ t → StandsFor old new node met b
        case false other = looked_up old new node met b (is ∙ ap (λ t. if not t then contact_at old node b else None) other)
        case true user = left_out old new node met b (is ∙ ap (λ t. if not t then contact_at old node b else None) user)
            (at_node old new by (Call node call) bytes box box' answered b did
            (contact_lasts_for_user did.before.node did.after.node (step_of by call did.did.does.turn.inside (kept_answer answered)) did.did.frames b user did.did.does.turn.turn))

-- a node is in no contact with another number than those of nodes
no_number : (members : List (Option MemberState)) (air : AirState) → IsSound members air → (a b : ℕ) → (IsNumber b → ⊥) → contact_at members a b ≡ None
unfolding contact_at
no_number members air sound a b other = ap (option_and_then contact_between) (sound.known a b (λ number. absurd (other number)))

-- an arrival
pub stands_sender : (old new : List (Option MemberState)) (air : AirState) (by : By) (node bearer place : ℕ) (bytes : List ℕ) (box box' : Out) (answered : Answer) → IsSound old air
    → DidAt old new by (Arrive node bearer place) bytes box box' answered → (b : ℕ) → StandsFor old new node (met_sender old node (sender_of bytes)) b
stands_sender old new air by node bearer place bytes box box' answered sound did b = case (sender_of bytes) refl
  where
    does : Meets by bearer place bytes did.before did.after did.did.frames answered
    does = did.did.does

    stranger : (met : Met) → met_in met b ≡ None → (IsNumber b → ⊥) → StandsFor old new node met b
    stranger met none other = nobody old new node met b none (no_number old air sound node b other)

    peer : (met : Met) → met_in met b ≡ None → (sender_of bytes ≡ Some b → ⊥) → IsNumber b → StandsFor old new node met b
    peer met none other number = left_out old new node met b none
        (at_node old new by (Arrive node bearer place) bytes box box' answered b did
        (contact_lasts_for_other did.before.node did.after.node bytes (step_of by (note.Arrive bearer (length did.before.arrivals)) does.turn.inside (answer.Arrived does.arrived)) did.did.frames bearer (length did.before.arrivals) b refl number other does.turn.turn))

    else_one : (met : Met) → met_in met b ≡ None → (sender_of bytes ≡ Some b → ⊥) → StandsFor old new node met b
    else_one met none other = elim (cases_lt b 1) [
      | inl low ↦ stranger met none (λ number. omega (arith, low, number.0))
      | inr from_one ↦ elim (cases_lt b 33) [
        | inl to_32 ↦ peer met none other (from_one, omega (arith, to_32))
        | inr high ↦ stranger met none (λ number. omega (arith, high, number.1))
      ]
    ]

    case : (o : Option ℕ) → sender_of bytes ≡ o → StandsFor old new node (met_sender old node o) b
    case None is = else_one Lasting refl (λ same. (let wrong : None ≡ Some b = sym is ∙ same in cc))
    case (Some p) is = here (b == p) refl
      where
        here : (t : Bool) → (b == p) ≡ t → StandsFor old new node (Sender p (contact_at old node p)) b
        here true same = looked_up old new node (Sender p (contact_at old node p)) b (ap (λ t. if t then contact_at old node p else None) same ∙ ap (contact_at old node) (sym (eqb-true b p same)))
        here false apart = else_one (Sender p (contact_at old node p)) (ap (λ t. if t then contact_at old node p else None) apart)
            (λ sent. (let p_is : p ≡ b = (let q : Some p ≡ Some b = sym is ∙ sent in cc) in let wrong : true ≡ false = grind (arith, nat_tests, p_is, apart) in cc))
