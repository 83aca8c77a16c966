-- Contacts and links are what the journals tell.
use Rattle.std.proofs.Common.{◌≡◌, ℕ, Bool, true, false, List, Option, Some, None, option_and_then, slice_index_or, refl, sym, ap, ◌∙◌}
use Rattle.std.specs.Prelude.{if◌then◌else◌, is_some, nat_le}
use Rattle.tipc_journal.specs.Contacts.{contact, up_epochs}
use Rattle.tipc_journal.proofs.ContactLaws.{contact_nil, up_epochs_nil}
use Rattle.tipc_pair.specs.Facing.{PairEnds, contact_between, facing, is_up_at as is_up_in}
use Rattle.tipc_pair.specs.LinkReadings.{epochs_of, epochs_on}
use Rattle.tipc_node.specs.Turns.{addr_of, pair_in}
use Rattle.tipc_replay.specs.Numbers.{end_on}
use Rattle.tipc_replay.specs.Shared.{AreShared}
use Rattle.tipc_replay.specs.States.{MemberState, contact_at, pair_at}
use Rattle.tipc_replay.specs.Told.{IsToldOf}
use Rattle.tipc_replay.proofs.journals.Kept.{up_some}
use Rattle.tipc_replay.proofs.LookUps.{member_at-is, pair_at-is}
use Rattle.tipc_replay.proofs.names.Agreed.{journal_is, no_journal}
use Rattle.tipc_replay.proofs.SoundWorlds.{absent_pair as no_pair}

-- the link of a bearer is up exactly where it is told by its epochs
up_told : (o : Option PairEnds) (bearer : ℕ) → is_up_in (end_on bearer o) ≡ is_some (option_and_then (epochs_on bearer) o)
up_told None bearer = refl
up_told (Some x) bearer = by (nat_le bearer 1)
  where
    by : (t : Bool) → is_up_in (if t then (facing bearer x).near else None) ≡ is_some (if t then option_and_then epochs_of (facing bearer x).near else None)
    by true = sym (up_some (facing bearer x).near)
    by false = refl

contact_of : (members : List (Option MemberState)) (a b : ℕ) (o : Option PairEnds) → pair_at members a b ≡ o → contact_at members a b ≡ option_and_then contact_between o
unfolding contact_at
contact_of members a b o is = ap (option_and_then contact_between) is

-- of every two nodes
pub journals_tell : (members : List (Option MemberState)) → AreShared members → (a b : ℕ) → IsToldOf members a b
journals_tell members all a b = by (slice_index_or members a None) refl
  where
    by : (o : Option MemberState) → slice_index_or members a None ≡ o → IsToldOf members a b
    by None is =
        let pair = no_pair members a b is in
        let journal = no_journal members a is in
        record {
          contact_is = contact_of members a b None pair ∙ sym (ap (λ es. contact es (addr_of b)) journal ∙ contact_nil (addr_of b));
          links_are = λ bearer. ap (λ o. is_up_in (end_on bearer o)) pair ∙ sym (ap (λ es. is_some (up_epochs es (addr_of b) bearer)) journal ∙ ap is_some (up_epochs_nil (addr_of b) bearer));
        }
    by (Some m) is =
        let pair = pair_at-is members a b m (member_at-is members a m is) in
        let journal = journal_is members a m is in
        let tells = (all a m is).told.links b in
        record {
          contact_is = contact_of members a b (pair_in m.node b) pair ∙ sym (ap (λ es. contact es (addr_of b)) journal ∙ tells.contact_is);
          links_are = λ bearer.
              ap (λ o. is_up_in (end_on bearer o)) pair ∙ up_told (pair_in m.node b) bearer
              ∙ sym (ap (λ es. is_some (up_epochs es (addr_of b) bearer)) journal ∙ ap is_some (tells.epochs_are bearer));
        }
