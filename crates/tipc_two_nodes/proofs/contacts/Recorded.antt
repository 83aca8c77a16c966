-- The records of a node, beside the sessions and frames of the other one, through all that either does.
use Rattle.std.proofs.Common.{◌≡◌, ◌==◌, ◌<◌, ◌≤◌, ◌⊎◌, ℕ, true, false, Option, Some, None, if◌then◌else◌, refl, subst, inl, inr, arith}
use Rattle.tipc_link.specs.Records.{Received, kept_for, unheard}
use Rattle.tipc_two_nodes.specs.links.Receiving.{record_at}
use Rattle.tipc_paired.specs.Views.{Begun, View}
use Rattle.tipc_two_nodes.specs.Numbers.{AreRecorded, IsRecorded, IsTimelyFor, IsToldBy, IsToldIn}
use Rattle.tipc_two_nodes.specs.Steps.{TellsMore}

told_by_more : (x x' : View) (b epoch own own' : ℕ) → TellsMore x x' → own ≤ own' → IsToldBy x.told b epoch own → IsToldBy x'.told b epoch own'
told_by_more x x' b epoch own own' m more t = record {
  place = t.place;
  frame = t.frame;
  there = m.told t.place t.frame t.there;
  bearer_is = t.bearer_is;
  epoch_is = t.epoch_is;
  no_later = (let few = t.no_later in omega arith);
}

-- the other node begins and tells more
pub recorded_beside : (y x x' : View) → AreRecorded y x → TellsMore x x' → ((b epoch : ℕ) (g : Begun) → (x.wires b).begun epoch ≡ Some g → (x'.wires b).begun epoch ≡ Some g) → AreRecorded y x'
recorded_beside y x x' h more begun b a is =
    let r = h b a is in
    record {
      told = told_by_more x x' b a.epoch y.node.seen y.node.seen more (omega arith) r.told;
      used = elim r.used [ inl unused ↦ inl unused | inr used ↦ inr (used.0, begun b a.epoch used.0 used.1, used.2) ];
    }

-- the node keeps a record while its numbers rise or stay, or the record is new
pub recorded_on : (y y' x : View) → AreRecorded y x → ((g : Begun) → IsTimelyFor y g → IsTimelyFor y' g)
    → ((b : ℕ) (a : Received) → record_at (y'.wires b).end ≡ Some a → ((record_at (y.wires b).end ≡ Some a) × (y.node.seen ≤ y'.node.seen)) ⊎ IsRecorded y' x b a) → AreRecorded y' x
recorded_on y y' x h timely after b a is = elim (after b a is) [
  | inl was ↦
      let r = h b a was.0 in
      record {
        told = told_by_more x x b a.epoch y.node.seen y'.node.seen (record { told = λ k f there. there; contact = omega arith }) was.1 r.told;
        used = elim r.used [ inl unused ↦ inl unused | inr used ↦ inr (used.0, used.1, timely used.0 used.2) ];
      }
  | inr new ↦ new
]

-- what came in an earlier contact, or in one that is over now, came in an earlier one
pub timely_later : (y y' : View) (g : Begun) → y.node.contact < y'.node.contact → IsTimelyFor y g → IsTimelyFor y' g
timely_later y y' g later (inl before) = inl (omega arith)
timely_later y y' g later (inr now) = inl (let same = now.0 in omega arith)

-- an epoch that was told in the contact is named in a record that is kept or made for it
pub kept_recorded : (y y' x : View) (b epoch : ℕ) (o : Option Received) (a : Received) → ((r : Received) → o ≡ Some r → IsRecorded y' x b r) → IsToldIn x.told b epoch y'.node.seen y'.node.contact → kept_for o epoch ≡ a → IsRecorded y' x b a
kept_recorded y y' x b epoch o a before t is = subst (IsRecorded y' x b) is (of o before) where
  new : IsRecorded y' x b (unheard epoch)
  new = record {
    told = record {
      place = t.place;
      frame = t.frame;
      there = t.there;
      bearer_is = t.bearer_is;
      epoch_is = t.epoch_is;
      no_later = (let own = t.own_is in omega arith);
    };
    used = inl (record { taken = refl; held = refl });
  }

  of : (o : Option Received) → ((r : Received) → o ≡ Some r → IsRecorded y' x b r) → IsRecorded y' x b (kept_for o epoch)
  of None before = new
  of (Some r) before = elim (r.epoch == epoch) as (λ c. IsRecorded y' x b (if c then r else unheard epoch)) [
    | true ↦ before r refl
    | false ↦ new
  ]
