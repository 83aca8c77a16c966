-- A step that the replay made again, and how far it follows the journals then.
use Rattle.std.specs.Prelude.{Option, Some, None, option_map, option_to_list, slice_get, slice_index_or, slice_set}
use Rattle.std.proofs.Common.{◌≡◌, ℕ, zero, suc, ◌+◌, ◌<◌, ◌≤◌, Bool, arith, List, [], ◌∷◌, ◌++◌, get_or, length, length-append, refl, sym, subst, ◌∙◌, ap}
use Rattle.std.proofs.lemmas.Option.{slice_get-get_or, slice_get_within}
use Rattle.tipc_types.specs.Prefixes.{IsPrefixOf}
use Rattle.tipc_types.specs.declared.identity.Addr.{Addr}
use Rattle.tipc_types.specs.declared.node_calls.Answer.{Answer}
use Rattle.tipc_types.specs.declared.node_calls.Answer.TheVariants as answer
use Rattle.tipc_types.specs.declared.node_calls.By.{By}
use Rattle.tipc_types.specs.declared.node_calls.EventNote.{EventNote}
use Rattle.tipc_types.specs.declared.node_calls.EventNote.TheVariants as note
use Rattle.tipc_journal.specs.declared.entries.Entry.{Entry}
use Rattle.tipc_journal.specs.Counting.{is_sent_by_name, names_sent}
use Rattle.tipc_journal.specs.Licensed.{IsPicked}
use Rattle.tipc_journal.specs.Steps.{NodeStep}
use Rattle.tipc_node.specs.Calls.{CanPerform}
use Rattle.tipc_node.specs.Sockets.{kept_answer}
use Rattle.tipc_node.specs.Works.{addr_of_word}
use Rattle.tipc_node_lock.specs.Journals.{arrival_number}
use Rattle.tipc_node_lock.specs.Locked.{LockedState}
use Rattle.tipc_node_lock.proofs.Counted.{performed_numbers}
use Rattle.tipc_replay.specs.declared.air.Arrived.{Arrived}
use Rattle.tipc_replay.specs.declared.air.Sent.{Sent}
use Rattle.tipc_replay.specs.declared.events.WorldEvent.TheVariants.{Arrive, Call}
use Rattle.tipc_replay.specs.Choices.{is_named_send}
use Rattle.tipc_replay.specs.Effects.{Makes, Meets}
use Rattle.tipc_replay.specs.Skies.{AirState, air_on}
use Rattle.tipc_replay.specs.States.{MemberState, ReplayState}
use Rattle.tipc_replay.specs.Steps.{Happens, IsReplayStep, stage}
use Rattle.tipc_replay.proofs.Growing.{becomes_grows}
use Rattle.tipc_replay.proofs.pairs.PairedEvents.{made_step, met_step}
use Rattle.tipc_live.specs.Following.{HaveBytes, IsMadeBelow, arrived_bytes, called_again, heard_in}
use Rattle.tipc_live.proofs.Nexts.{get_longer}
use Rattle.tipc_live.proofs.Running.{RecordsStep}

-- ---- what the journal keeps of an answer

-- of a message that was given it keeps only that one was, which is no send
kept_picked : (gives : ℕ → ℕ → ℕ → Type 0) (turn : ℕ) (own : Addr) (journal : List Entry) (call : EventNote) (answered : Answer) → IsPicked gives turn own journal call answered
    → IsPicked gives turn own journal call (kept_answer answered)
kept_picked gives turn own journal (note.SendName port kind instance importance body) (answer.Received message) h = tt
kept_picked gives turn own journal (note.SendName port kind instance importance body) other h = h
kept_picked gives turn own journal other answered h = tt

kept_named : (call : EventNote) (answered : Answer) → is_sent_by_name call (kept_answer answered) ≡ is_sent_by_name call answered
kept_named (note.SendName port kind instance importance body) (answer.Received message) = refl
kept_named (note.SendName port kind instance importance body) other = refl
kept_named other answered = refl

-- a call that is performed has no number
performed_again : (count : ℕ) (call : EventNote) → CanPerform call → called_again count call ≡ call
performed_again count (note.Arrive bearer number) can = absurd can
performed_again count other can = refl

-- ---- the step

-- What an event at node `number` made of the nodes and the air, as a step of that node, which was `m` before; and
-- whether it sent a message by name.
pub record StepsSo {P : Type 0} (gives : P → ℕ → ℕ → ℕ → Type 0) (n : LockedState P) (old new : ReplayState) (number : ℕ) (by : By) (event : EventNote) (m : MemberState) (sent : Bool) : Type 0 where
  pub after : MemberState
  pub members : new.members ≡ slice_set old.members number (Some after)
  pub step : NodeStep
  pub by_is : step.by ≡ by
  pub event_is : step.event ≡ called_again (length m.arrivals) event
  pub records : RecordsStep m after step
  pub grows : (bearer : ℕ) → IsPrefixOf (air_on bearer old.air) (air_on bearer new.air)
  pub before : (k : ℕ) → k < length m.arrivals → slice_get after.arrivals k ≡ slice_get m.arrivals k
  pub few : length after.arrivals ≤ length m.arrivals + 1
  pub last : (a : Arrived) → slice_get after.arrivals (length m.arrivals) ≡ Some a → arrived_bytes new.air a ≡ heard_in n.heard event
  pub picked : IsPicked (gives n.chooser.pick) (names_sent m.node.journal) (addr_of_word n.node.own) m.node.journal step.event step.answer
  pub sent_is : is_sent_by_name step.event step.answer ≡ sent

-- the member that was there
the_member : (members : List (Option MemberState)) (number : ℕ) (m before : MemberState) → slice_index_or members number None ≡ Some m
    → slice_index_or members number None ≡ Some before → before ≡ m
the_member members number m before there was = let both : Some before ≡ Some m = sym was ∙ there in cc

-- a call that isn't an arrival
pub steps_call : {P : Type 0} (gives : P → ℕ → ℕ → ℕ → Type 0) (n : LockedState P) (old new : ReplayState) (number : ℕ) (by : By) (call : EventNote) (m : MemberState) (answered : Answer)
    → slice_index_or old.members number None ≡ Some m → CanPerform call → IsReplayStep old by (Call number call) new answered
    → IsPicked (gives n.chooser.pick) (names_sent m.node.journal) (addr_of_word n.node.own) m.node.journal call answered → StepsSo gives n old new number by call m (is_named_send (Call number call) answered)
steps_call {P} gives n old new number by call m answered there can h picked = of h.becomes
  where
    none_more : (xs : List Arrived) (k : ℕ) (a : Arrived) → length xs ≤ k → slice_get xs k ≡ Some a → ⊥
    none_more xs k a past is = let within = slice_get_within xs k a is in absurd (omega (arith, past, within))

    of : Happens (stage old.members old.air) (stage new.members new.air) by (Call number call) [] answered h.lost → StepsSo gives n old new number by call m (is_named_send (Call number call) answered)
    of s =
        let same = the_member old.members number m s.before there s.turns.was in
        let does : Makes by call m s.after s.frames answered = subst (λ x. Makes by call x s.after s.frames answered) same s.does in
        let made = made_step by call m s.after s.frames answered does in
        let arrivals : s.after.arrivals ≡ m.arrivals = ap (λ (x : MemberState). x.arrivals) does.after in
        let count = ap length arrivals in
        let number_is : length (option_to_list (arrival_number call)) ≡ 0 = ap (λ (o : Option ℕ). length (option_to_list o)) (performed_numbers call can) in
        record {
          after = s.after;
          members = s.turns.members;
          step = made;
          by_is = refl;
          event_is = sym (performed_again (length m.arrivals) call can);
          records = record {
            own = does.turn.turn.own;
            boot = does.turn.turn.boot;
            past = ap (λ (x : MemberState). x.past) does.after;
            inside = does.turn.turn.inside;
            journal = does.turn.turn.journal;
            arrived = omega (arith, count, number_is);
          };
          grows = (becomes_grows (stage old.members old.air) (stage new.members new.air) by (Call number call) answered h.lost h.becomes).air;
          before = λ k less. ap (λ xs. slice_get xs k) arrivals;
          few = omega (arith, count);
          last = λ a is. absurd (none_more s.after.arrivals (length m.arrivals) a (omega (arith, count)) is);
          picked = kept_picked (gives n.chooser.pick) (names_sent m.node.journal) (addr_of_word n.node.own) m.node.journal call answered picked;
          sent_is = kept_named call answered;
        }

-- the last of a list and one more
last_more : (xs : List Arrived) (x a : Arrived) → slice_get (xs ++ x ∷ []) (length xs) ≡ Some a → x ≡ a
last_more [] x a is = let one : Some x ≡ Some a = is in cc
last_more (y ∷ ys) x a is = last_more ys x a is

pub front_same : (xs ys : List Arrived) (k : ℕ) → k < length xs → slice_get (xs ++ ys) k ≡ slice_get xs k
front_same [] ys k less = absurd (omega (arith, less))
front_same (x ∷ xs) ys zero less = refl
front_same (x ∷ xs) ys (suc k) less = front_same xs ys k (omega (arith, less))

-- an arrival of the frame at that place, which has the bytes that were heard under its number
pub steps_arrival : {P : Type 0} (gives : P → ℕ → ℕ → ℕ → Type 0) (n : LockedState P) (old new : ReplayState) (number : ℕ) (by : By) (bearer place : ℕ) (heard : ℕ) (m : MemberState)
    (answered : Answer) (f : Sent) (bytes : List ℕ) → slice_index_or old.members number None ≡ Some m → slice_get (air_on bearer old.air) place ≡ Some f → f.frame ≡ bytes
    → slice_get n.heard heard ≡ Some bytes → (lost : Bool) → Happens (stage old.members old.air) (stage new.members new.air) by (Arrive number bearer place) f.frame answered lost
    → ((x : ℕ) → IsPrefixOf (air_on x old.air) (air_on x new.air)) → StepsSo gives n old new number by (note.Arrive bearer heard) m (is_named_send (Arrive number bearer place) answered)
steps_arrival {P} gives n old new number by bearer place heard m answered f bytes there sent bytes_are heard_is lost s grows =
    let came : Arrived = record { bearer = bearer; frame = place } in
    let same = the_member old.members number m s.before there s.turns.was in
    let does : Meets by bearer place f.frame m s.after s.frames answered = subst (λ x. Meets by bearer place f.frame x s.after s.frames answered) same s.does in
    let made = met_step by bearer place f.frame m s.after s.frames answered does in
    let arrivals : s.after.arrivals ≡ m.arrivals ++ came ∷ [] = ap (λ (x : MemberState). x.arrivals) does.after in
    let count = ap length arrivals ∙ length-append m.arrivals (came ∷ []) in
    let one : length (came ∷ []) ≡ 1 = refl in
    let number_is : length (option_to_list (arrival_number made.event)) ≡ 1 = refl in
    let grown = grows bearer in
    let still : slice_get (air_on bearer new.air) place ≡ Some f =
    ap (λ xs. slice_get xs place) grown.1 ∙ get_longer (air_on bearer old.air) grown.0 place f sent in
    let has : arrived_bytes new.air (came) ≡ Some bytes = ap (option_map (λ (x : Sent). x.frame)) still ∙ ap Some bytes_are in
    record {
      after = s.after;
      members = s.turns.members;
      step = made;
      by_is = refl;
      event_is = refl;
      records = record {
        own = does.turn.turn.own;
        boot = does.turn.turn.boot;
        past = ap (λ (x : MemberState). x.past) does.after;
        inside = does.turn.turn.inside;
        journal = does.turn.turn.journal;
        arrived = omega (arith, count, one, number_is);
      };
      grows = grows;
      before = λ k less. ap (λ xs. slice_get xs k) arrivals ∙ front_same m.arrivals _ k less;
      few = omega (arith, count, one);
      last = λ a is.
          let last_is = last_more m.arrivals (came) a (sym (ap (λ xs. slice_get xs (length m.arrivals)) arrivals) ∙ is) in
          sym (ap (arrived_bytes new.air) last_is) ∙ has ∙ sym heard_is;
      picked = tt;
      sent_is = refl;
    }

-- ---- frames stay

-- what arrived has its bytes when more frames are in the air
pub bytes_stay : (old new : AirState) (a : Arrived) (bytes : List ℕ) → ((bearer : ℕ) → IsPrefixOf (air_on bearer old) (air_on bearer new))
    → arrived_bytes old a ≡ Some bytes → arrived_bytes new a ≡ Some bytes
bytes_stay old new a bytes grows has = by (slice_get (air_on a.bearer old) a.frame) refl
  where
    by : (o : Option Sent) → slice_get (air_on a.bearer old) a.frame ≡ o → arrived_bytes new a ≡ Some bytes
    by None is = let none : None ≡ Some bytes = sym (ap (option_map (λ (x : Sent). x.frame)) is) ∙ has in absurd cc
    by (Some f) is =
        let grown = grows a.bearer in
        let still = ap (λ xs. slice_get xs a.frame) grown.1 ∙ get_longer (air_on a.bearer old) grown.0 a.frame f is in
        ap (option_map (λ (x : Sent). x.frame)) still ∙ sym (ap (option_map (λ (x : Sent). x.frame)) is) ∙ has

pub have_still : (old new : AirState) (arrivals : List Arrived) (heard : List (List ℕ)) → ((bearer : ℕ) → IsPrefixOf (air_on bearer old) (air_on bearer new))
    → HaveBytes old arrivals heard → HaveBytes new arrivals heard
have_still old new arrivals heard grows h = record { few = h.few; each = λ k a is. by k a is (slice_get heard k) refl }
  where
    by : (k : ℕ) (a : Arrived) → slice_get arrivals k ≡ Some a → (o : Option (List ℕ)) → slice_get heard k ≡ o → arrived_bytes new a ≡ slice_get heard k
    by k a is None none = absurd (past (slice_get_within arrivals k a is))
      where
        past : k < length arrivals → ⊥
        past less = let few = h.few in let here = slice_get-get_or heard k [] (omega (arith, less, few)) in let both : None ≡ Some (get_or heard k []) = sym none ∙ here in absurd cc
    by k a is (Some bytes) some = bytes_stay old new a bytes grows (h.each k a is ∙ some) ∙ sym some

-- another node's part stays
pub made_still : {P : Type 0} (gives : P → ℕ → ℕ → ℕ → Type 0) (old new : AirState) (stamp : ℕ) (n : LockedState P) (m : MemberState) → ((bearer : ℕ) → IsPrefixOf (air_on bearer old) (air_on bearer new))
    → IsMadeBelow gives old stamp n m → IsMadeBelow gives new stamp n m
made_still gives old new stamp n m grows h = record { run = h.run; heard = have_still old new m.arrivals n.heard grows h.heard; front = h.front }
