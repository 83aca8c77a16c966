-- A contact begins at the receiver: by events its records, which are of older contacts or unused, stand for those of
-- the state.
use Rattle.std.proofs.Common.{◌≡◌, ◌==◌, ◌<◌, ◌≤◌, ◌⊎◌, ℕ, ◌+◌, ◌-◌, true, false, if◌then◌else◌, List, Option, Some, None, refl, sym, ap, ◌∙◌, subst, inl, inr, arith}
use Rattle.std.specs.Prelude.{slice_index_or, length}
use Rattle.tipc_types.specs.declared.packet_lists.Taken.{Taken}
use Rattle.tipc_link.specs.Direction.{IsReceiver}
use Rattle.tipc_link.specs.Records.{Received, is_tunnel, kept_for, unheard}
use Rattle.tipc_changeover.specs.Links.{turned_state, Bearer, First, Receiver, Second, Sender, State}
use Rattle.tipc_two_nodes.specs.links.Following.{stays, ReceiverFollows}
use Rattle.tipc_two_nodes.specs.links.Receiving.{AreLines, IsSessionRecord, IsRecordFor}
use Rattle.tipc_two_nodes.specs.links.Traffic.{Lines, Traffic, epoch_of, turned_traffic as turned_traffic}
use Rattle.tipc_two_nodes.proofs.links.sender.Happening.{follows_then}
use Rattle.tipc_two_nodes.proofs.links.receiver.Tunnelling.{keeps_record}
use Rattle.tipc_two_nodes.proofs.links.sender.Turning.{follows_from, lines_turned}
use Rattle.tipc_two_nodes.specs.Carriages.{IsShownIn}
use Rattle.tipc_two_nodes.specs.Numbers.{IsUnused}
use Rattle.tipc_two_nodes.proofs.contacts.Lasting.{takes_stay}

-- a record that may be there when a contact begins: of an older one, or unused and of an epoch that was told in this one
abbrev pub MayStand : Lines → Sender → Received → Type 0
MayStand l z a = (a.epoch < l.first) ⊎ (IsUnused a × IsShownIn l z a.epoch)

-- the record of the near link stands for that of a state, and nothing else changed
pub record StandsNear (b : Bearer) (bearer : ℕ) (t : Traffic) (s : State) (o : Option Received) : Type 0 where
  pub state : State
  pub takes : ReceiverFollows b s state
  pub lines : AreLines bearer t state
  pub near_is : IsRecordFor t.near o state.near_record
  pub far_is : state.far_record ≡ s.far_record
  pub delivered : state.delivered ≡ s.delivered

-- an unused record is as a new one
unused_session : (l : Lines) (epoch : ℕ) (a : Received) (r : Receiver) → epoch ≡ a.epoch → IsUnused a → IsSessionRecord l (unheard epoch) r → IsSessionRecord l a r
unused_session l epoch a r is unused h = record {
  begun = h.begun;
  epoch = h.epoch ∙ ap (λ n. n + 1) is;
  taken = h.taken ∙ sym unused.taken;
  holds = subst (λ n. IsReceiver a.held n (l.line r.session)) (sym unused.taken) (subst (λ (held : List (Option Taken)). IsReceiver held 0 (l.line r.session)) (sym unused.held) h.holds);
  plain = subst (λ (held : List (Option Taken)). (d : ℕ) (t : Taken) → slice_index_or held d None ≡ Some t → (is_tunnel t.packet ≡ false) × (1 ≤ length t.packet)) (sym unused.held) h.plain;
}

stands_unused : (b : Bearer) (bearer : ℕ) (t : Traffic) (s : State) (a : Received) → AreLines bearer t s → s.near_record.session ≡ 0 → IsUnused a → IsShownIn t.near s.near a.epoch → StandsNear b bearer t s (Some a)
stands_unused b bearer t s a lines none unused shown =
    let low = shown.no_lower in
    let high = shown.no_higher in
    let session = a.epoch + 1 - t.near.first in
    let R = keeps_record b bearer t s None session lines none (omega arith) (omega arith) (omega arith) (λ held. (let below = shown.held held in omega arith)) in
    record {
      state = R.state;
      takes = R.takes;
      lines = R.lines;
      near_is = inr (unused_session t.near (epoch_of t.near.first session) a R.state.near_record (omega arith) unused R.near_is);
      far_is = R.far_is;
      delivered = R.delivered;
    }

stands_near : (b : Bearer) (bearer : ℕ) (t : Traffic) (s : State) (o : Option Received) → AreLines bearer t s → s.near_record.session ≡ 0 → ((a : Received) → o ≡ Some a → MayStand t.near s.near a) → StandsNear b bearer t s o
stands_near b bearer t s None lines none may = record { state = s; takes = stays; lines = lines; near_is = none; far_is = refl; delivered = refl }
stands_near b bearer t s (Some a) lines none may = elim (may a refl) [
  | inl old ↦ record { state = s; takes = stays; lines = lines; near_is = inl (old, none); far_is = refl; delivered = refl }
  | inr shown ↦ stands_unused b bearer t s a lines none shown.0 shown.1
]

-- both records stand for those of a state
pub record StandsBoth (t : Traffic) (s : State) (o o' : Option Received) : Type 0 where
  pub state : State
  pub takes : ReceiverFollows First s state
  pub near : IsRecordFor t.near o state.near_record
  pub far : IsRecordFor t.far o' state.far_record
  pub delivered : state.delivered ≡ s.delivered

pub stands_both : (t : Traffic) (s : State) (o o' : Option Received) → AreLines 0 t s → s.near_record.session ≡ 0 → s.far_record.session ≡ 0 → ((a : Received) → o ≡ Some a → MayStand t.near s.near a) → ((a : Received) → o' ≡ Some a → MayStand t.far s.far a)
    → StandsBoth t s o o'
stands_both t s o o' lines none none' may may' =
    let N = stands_near First 0 t s o lines none may in
    let same = takes_stay First s N.state N.takes in
    let F = stands_near Second 1 (turned_traffic t) (turned_state N.state) o' (lines_turned 0 t N.state (omega arith) N.lines) (ap (λ (r : Receiver). r.session) N.far_is ∙ none')
    (λ a is. subst (λ z. MayStand t.far z a) (sym same.far) (may' a is)) in
    record {
      state = turned_state F.state;
      takes = follows_then First s N.state (turned_state F.state) N.takes (follows_from Second First N.state F.state refl F.takes);
      near = subst (λ r. IsRecordFor t.near o r) (sym F.far_is) N.near_is;
      far = F.near_is;
      delivered = F.delivered ∙ N.delivered;
    }

-- a link that goes up under an epoch that was told in the contact keeps its record, or has a new one
pub kept_stands : (l : Lines) (z : Sender) (o : Option Received) (epoch : ℕ) (a : Received) → ((r : Received) → o ≡ Some r → MayStand l z r) → IsShownIn l z epoch → kept_for o epoch ≡ a → MayStand l z a
kept_stands l z o epoch a may shown is = subst (MayStand l z) is (of o may) where
  new : MayStand l z (unheard epoch)
  new = inr (record { taken = refl; held = refl }, shown)

  kept : (r : Received) → r.epoch ≡ epoch → MayStand l z r → MayStand l z r
  kept r is (inl old) = absurd (let low = shown.no_lower in let wrong : ⊥ = omega arith in wrong)
  kept r is (inr now) = inr now

  of : (o : Option Received) → ((r : Received) → o ≡ Some r → MayStand l z r) → MayStand l z (kept_for o epoch)
  of None may = new
  of (Some r) may = elim (r.epoch == epoch) as (λ b. MayStand l z (if b then r else unheard epoch)) [
    | true ↦ may r refl
    | false ↦ new
  ]
