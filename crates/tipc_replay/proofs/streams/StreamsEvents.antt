-- What a sound world says of messages is so at the beginning, and when a node comes in.
use Rattle.std.proofs.Common.{◌≡◌, ◌≢◌, ◌⊎◌, ℕ, List, [], ◌++◌, Option, Some, None, inl, inr, slice_get, slice_index_or, refl, ap, subst, ◌∙◌}
use Rattle.std.specs.List.{flat_map}
use Rattle.std.proofs.lemmas.Bool.{cases_eq}
use Rattle.tipc_types.specs.Address.{node_word}
use Rattle.tipc_types.specs.declared.message_forms.Flow.{Flow}
use Rattle.tipc_types.specs.declared.message_forms.Flow.TheVariants.{One, Zero}
use Rattle.tipc_types.specs.declared.message_forms.Message.{Message}
use Rattle.tipc_journal.specs.Streams.{accepted, delivered}
use Rattle.tipc_journal.proofs.StreamLaws.{accepted_nil, delivered_nil}
use Rattle.tipc_link.proofs.LinkLaw.{Each-none}
use Rattle.tipc_node.specs.Messages.{IsSendable}
use Rattle.tipc_replay.specs.Members.{IsNewcomer}
use Rattle.tipc_replay.specs.Sound.{IsBetween, IsSaid}
use Rattle.tipc_replay.specs.States.{MemberState, accepted_at, delivered_at, history, history_at, member_at, stream_of}
use Rattle.tipc_replay.specs.Events.{JoinsAt}
use Rattle.tipc_replay.proofs.LookUps.{history_at-is, history_at-same, member_at-is}
use Rattle.tipc_replay.proofs.streams.StreamsKept.{StreamsSound, accepted_by, delivered_by}

pub no_history : (m : MemberState) (n first : ℕ) → IsNewcomer m n first → history m ≡ []
unfolding history
no_history m n first h = ap (λ p. flat_map (λ entries. entries) p ++ m.node.journal) h.past ∙ h.node.no_history

-- a node without a history has no streams
accepted_nothing : (members : List (Option MemberState)) (n b own theirs : ℕ) (flow : Flow) → history_at members n ≡ [] → accepted_at members n b own theirs flow ≡ []
unfolding accepted_at
accepted_nothing members n b own theirs flow none = ap (λ es. accepted es (stream_of b own theirs flow)) none ∙ accepted_nil (stream_of b own theirs flow)

delivered_nothing : (members : List (Option MemberState)) (n b own theirs : ℕ) (flow : Flow) → history_at members n ≡ [] → delivered_at members n b own theirs flow ≡ []
unfolding delivered_at
delivered_nothing members n b own theirs flow none = ap (λ es. delivered es (stream_of b own theirs flow)) none ∙ delivered_nil (stream_of b own theirs flow)

-- each node has the history of before, or none
pub record FewerHistories (members members' : List (Option MemberState)) : Type 0 where
  pub each : (n : ℕ) → (history_at members' n ≡ []) ⊎ (history_at members' n ≡ history_at members n)

none_or_same_one : (members members' : List (Option MemberState)) (n b own theirs : ℕ) → StreamsSound members → (history_at members' n ≡ []) ⊎ (history_at members' n ≡ history_at members n)
    → (accepted_at members' n b own theirs One ≡ []) × (delivered_at members' n b own theirs One ≡ [])
none_or_same_one members members' n b own theirs h (inl none) = (accepted_nothing members' n b own theirs One none, delivered_nothing members' n b own theirs One none)
none_or_same_one members members' n b own theirs h (inr same) =
    let before = h.no_flow_one n b own theirs in
    (accepted_by members members' n b own theirs One same ∙ before.0, delivered_by members members' n b own theirs One same ∙ before.1)

none_or_same_accepted : (members members' : List (Option MemberState)) (n b own theirs : ℕ) (flow : Flow) (k : ℕ) (m : Message) → StreamsSound members → (history_at members' n ≡ []) ⊎ (history_at members' n ≡ history_at members n)
    → slice_get (accepted_at members' n b own theirs flow) k ≡ Some m → IsSaid flow (node_word n) m
none_or_same_accepted members members' n b own theirs flow k m h (inl none) is = Each-none (IsSaid flow (node_word n)) k m (subst (λ ms. slice_get ms k ≡ Some m) (accepted_nothing members' n b own theirs flow none) is)
none_or_same_accepted members members' n b own theirs flow k m h (inr same) is = h.accepted n b own theirs flow k m (subst (λ ms. slice_get ms k ≡ Some m) (accepted_by members members' n b own theirs flow same) is)

none_or_same_delivered : (members members' : List (Option MemberState)) (n b own theirs k : ℕ) (m : Message) → StreamsSound members → (history_at members' n ≡ []) ⊎ (history_at members' n ≡ history_at members n)
    → slice_get (delivered_at members' n b own theirs Zero) k ≡ Some m → IsSendable (node_word b) m
none_or_same_delivered members members' n b own theirs k m h (inl none) is = Each-none (IsSendable (node_word b)) k m (subst (λ ms. slice_get ms k ≡ Some m) (delivered_nothing members' n b own theirs Zero none) is)
none_or_same_delivered members members' n b own theirs k m h (inr same) is = h.delivered n b own theirs k m (subst (λ ms. slice_get ms k ≡ Some m) (delivered_by members members' n b own theirs Zero same) is)

none_or_same_nothing : (members members' : List (Option MemberState)) (n b own theirs : ℕ) (flow : Flow) → StreamsSound members → (history_at members' n ≡ []) ⊎ (history_at members' n ≡ history_at members n)
    → delivered_at members' n b own theirs flow ≢ [] → IsBetween n b own theirs
none_or_same_nothing members members' n b own theirs flow h (inl none) some = absurd (some (delivered_nothing members' n b own theirs flow none))
none_or_same_nothing members members' n b own theirs flow h (inr same) some = h.nothing n b own theirs flow (λ before. some (delivered_by members members' n b own theirs flow same ∙ before))

pub fewer_keep_streams : (members members' : List (Option MemberState)) → StreamsSound members → FewerHistories members members' → StreamsSound members'
fewer_keep_streams members members' h f = record {
  no_flow_one = λ n b own theirs. none_or_same_one members members' n b own theirs h (f.each n);
  accepted = λ n b own theirs flow k m. none_or_same_accepted members members' n b own theirs flow k m h (f.each n);
  delivered = λ n b own theirs k m. none_or_same_delivered members members' n b own theirs k m h (f.each n);
  nothing = λ n b own theirs flow. none_or_same_nothing members members' n b own theirs flow h (f.each n);
}

pub member_alike : (members members' : List (Option MemberState)) (n : ℕ) → slice_index_or members' n None ≡ slice_index_or members n None → member_at members' n ≡ member_at members n
unfolding member_at
member_alike members members' n same = same

pub joined_keeps_streams : (old new : List (Option MemberState)) (n first : ℕ) → StreamsSound old → JoinsAt old new n first → StreamsSound new
joined_keeps_streams old new n first h j = fewer_keep_streams old new h (record {
  each = λ k. elim (cases_eq k n) [
    | inl same ↦ inl (ap (λ i. history_at new i) same ∙ history_at-is new n j.newcomer (member_at-is new n j.newcomer j.here) ∙ no_history j.newcomer n first j.fresh)
    | inr other ↦ inr (history_at-same old new k (member_alike old new k (j.others k other)))
  ];
})

no_history_there : (n : ℕ) → history_at [] n ≡ []
unfolding history_at member_at
no_history_there n = refl

-- where no nodes are, nothing was said
pub streams_start : StreamsSound []
streams_start = record {
  no_flow_one = λ n b own theirs. (accepted_nothing [] n b own theirs One (no_history_there n), delivered_nothing [] n b own theirs One (no_history_there n));
  accepted = λ n b own theirs flow k m is. Each-none (IsSaid flow (node_word n)) k m (subst (λ ms. slice_get ms k ≡ Some m) (accepted_nothing [] n b own theirs flow (no_history_there n)) is);
  delivered = λ n b own theirs k m is. Each-none (IsSendable (node_word b)) k m (subst (λ ms. slice_get ms k ≡ Some m) (delivered_nothing [] n b own theirs Zero (no_history_there n)) is);
  nothing = λ n b own theirs flow some. absurd (some (delivered_nothing [] n b own theirs flow (no_history_there n)));
}
