-- A turn that tells of the end of a contact tells of the contact in which the node was, and no link to the peer is up then.
use Rattle.std.specs.Prelude.{nat_le, option_and_then, if◌then◌else◌}
use Rattle.std.proofs.Common.{◌≡◌, ◌==◌, ℕ, zero, suc, true, false, List, ◌++◌, Option, Some, None, map, slice_get, refl, sym, ap, ◌∙◌, subst}
use Rattle.tipc_types.specs.declared.link_words.LinkState.{LinkState}
use Rattle.tipc_outside.specs.declared.outgoing.Outgoing.{Outgoing}
use Rattle.tipc_journal.specs.declared.entries.Entry.{Entry}
use Rattle.tipc_journal.specs.Contacts.{contact, up_epochs}
use Rattle.tipc_journal.specs.Steps.{step_entries, NodeStep}
use Rattle.tipc_pair.specs.declared.transitions.Transition.TheVariants.{ContactDown, ContactUp}
use Rattle.tipc_pair.specs.Facing.{PairEnds, facing, in_contact, turned}
use Rattle.tipc_pair.proofs.Followings.{far_down, near_down}
use Rattle.tipc_node.specs.Messages.{bytes_of}
use Rattle.tipc_pair.specs.Contacts.{is_of_contact}
use Rattle.tipc_node.specs.Telling.{TellsOf}
use Rattle.tipc_pair.specs.LinkReadings.{AreAbreast, epochs_of, epochs_on}
use Rattle.tipc_node.specs.Turns.{PeerTurn, addr_of}
use Rattle.tipc_pair.proofs.turns.Moves.{contact_there, down_at}
use Rattle.tipc_pair.proofs.turns.PairEvents.{happened_so}
use Rattle.tipc_pair.proofs.turns.PairPuts.{MeetsAs, meets_then, puts_meet, replied_meets}
use Rattle.tipc_pair.proofs.turns.PairTells.{Means, Story, began, contact_changes, ended, stays}
use Rattle.tipc_replay.proofs.journals.Stepping.{passes}
use Rattle.tipc_pair.proofs.turns.TurnMeans.{on_bearers as are_on}

-- without contact no link is up
none_on : (x : PairEnds) (bearer : ℕ) → in_contact x ≡ false → epochs_on bearer x ≡ None
unfolding facing
none_on x bearer none = elim (nat_le bearer 1) as (λ t. (if t then option_and_then epochs_of (if x.bearer == bearer then x else turned x).near else None) ≡ None) [
  | true ↦ elim (x.bearer == bearer) as (λ b. option_and_then epochs_of (if b then x else turned x).near ≡ None) [
    | true ↦ down_at x.near (near_down x none)
    | false ↦ down_at x.far (far_down x none)
  ]
  | false ↦ refl
]

-- the pair was in that contact, and is in none then
record IsOver (x y : PairEnds) (numbers : ℕ × ℕ) : Type 0 where
  there : in_contact x ≡ true
  numbers_are : numbers ≡ (x.contact, x.seen)
  gone : in_contact y ≡ false

over_by : (x y : PairEnds) (story : Story) (j : ℕ) (numbers : ℕ × ℕ) (states : Option LinkState × Option LinkState) (shown : ℕ) → Means x y story → slice_get (contact_changes story) j ≡ Some (ContactDown numbers states shown) → IsOver x y numbers
over_by x y stays j numbers states shown means at = absurd cc
over_by x y (began fresh) zero numbers states shown means at = absurd (let wrong : ContactUp fresh ≡ ContactDown numbers states shown = cc in let no : ⊥ = cc in no)
over_by x y (began fresh) (suc j) numbers states shown means at = absurd cc
over_by x y (ended old was number) zero numbers states shown means at = (let same : old ≡ numbers = cc in record { there = means.0; numbers_are = sym same ∙ means.1; gone = means.2 })
over_by x y (ended old was number) (suc j) numbers states shown means at = absurd cc

-- the contact was that one before the step, and no link is up after it
pub record HasEnded (journal : List Entry) (s : NodeStep) (b : ℕ) (numbers : ℕ × ℕ) : Type 0 where
  pub contact_is : contact journal (addr_of b) ≡ Some numbers
  pub none : (bearer : ℕ) → up_epochs (journal ++ step_entries s) (addr_of b) bearer ≡ None

pub contact_ended : (journal : List Entry) (own : ℕ) (bytes : List ℕ) (s : NodeStep) (frames : List Outgoing) (b : ℕ) (x x' : PairEnds) (t : PeerTurn own bytes s frames b x x') → AreAbreast x
    → TellsOf journal b (Some x) → TellsOf (journal ++ step_entries s) b (Some x') → (k : ℕ) (numbers : ℕ × ℕ) (states : Option LinkState × Option LinkState) (shown : ℕ)
    → slice_get t.turn.first.course.changes k ≡ Some (ContactDown numbers states shown) → HasEnded journal s b numbers
contact_ended journal own bytes s frames b x x' t abreast before told k numbers states shown there =
    let y = t.turn.first.course.pair in
    let so = happened_so x t.opening t.turn.first (are_on x abreast) t.anew t.turn.happened in
    let last : MeetsAs t.turn.put x' = subst (MeetsAs t.turn.put) (sym t.turn.after) (replied_meets t.reply t.turn.put) in
    let meets = meets_then y t.turn.put x' (puts_meet y (map (bytes_of own) t.messages) t.turn.put_frames t.turn.put t.turn.puts) last in
    let found = passes is_of_contact t.turn.first.course.changes k (ContactDown numbers states shown) there refl in
    let over = over_by x y so.tells.story found.0 numbers states shown so.tells.means (subst (λ cs. slice_get cs found.0 ≡ Some (ContactDown numbers states shown)) so.tells.story_is found.1) in
    record {
      contact_is = before.contact_is ∙ contact_there x over.there ∙ ap Some (sym over.numbers_are);
      none = λ bearer. told.epochs_are bearer ∙ none_on x' bearer (meets.there ∙ over.gone);
    }
