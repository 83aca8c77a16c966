-- Look-ups through the nodes of a world of which one changed.
use Rattle.std.proofs.Common.{◌≡◌, ◌≢◌, ℕ, ◌<◌, Bool, true, false, List, [], Option, Some, None, length, option_map, option_and_then, unwrap_or, slice_index_or, slice_set, if◌then◌else◌, refl, ap, inl, inr, get_or-set_same, get_or-set_other}
use Rattle.std.proofs.lemmas.Bool.{cases_lt}
use Rattle.std.proofs.lemmas.List.{get_or_past}
use Rattle.tipc_node.specs.Turns.{pair_in}
use Rattle.tipc_replay.specs.States.{MemberState, boot_at, count_at, count_of, history, history_at, member_at, pair_at}

-- a choice of the same
pub either_way : {A : Type 0} (t : Bool) (x : A) → (if t then x else x) ≡ x
either_way true x = refl
either_way false x = refl

-- ---- a table of which one place was written

-- a place that holds something is within the table
pub place_within : {A : Type 0} (xs : List (Option A)) (k : ℕ) (x : A) → slice_index_or xs k None ≡ Some x → k < length xs
place_within xs k x is = elim (cases_lt k (length xs)) [
  | inl within ↦ within
  | inr past ↦ absurd (let none = get_or_past xs k None past in let wrong : ⊥ = cc in wrong)
]

-- ---- the nodes

pub member_at-changed : (members : List (Option MemberState)) (a : ℕ) (before after : MemberState) → slice_index_or members a None ≡ Some before → member_at (slice_set members a (Some after)) a ≡ Some after
unfolding member_at
member_at-changed members a before after was = get_or-set_same members a (Some after) None (place_within members a before was)

pub member_at-other : (members : List (Option MemberState)) (a x : ℕ) (after : MemberState) → x ≢ a → member_at (slice_set members a (Some after)) x ≡ member_at members x
unfolding member_at
member_at-other members a x after other = get_or-set_other members a x (Some after) None other

pub member_at-is : (members : List (Option MemberState)) (a : ℕ) (m : MemberState) → slice_index_or members a None ≡ Some m → member_at members a ≡ Some m
unfolding member_at
member_at-is members a m is = is

-- ---- of one node

pub boot_at-is : (members : List (Option MemberState)) (a : ℕ) (m : MemberState) → member_at members a ≡ Some m → boot_at members a ≡ m.node.boot
unfolding boot_at
boot_at-is members a m is = ap (λ o. unwrap_or (option_map (λ (n : MemberState). n.node.boot) o) 1) is

pub pair_at-is : (members : List (Option MemberState)) (a b : ℕ) (m : MemberState) → member_at members a ≡ Some m → pair_at members a b ≡ pair_in m.node b
unfolding pair_at
pair_at-is members a b m is = ap (λ o. option_and_then (λ (n : MemberState). pair_in n.node b) o) is

pub history_at-is : (members : List (Option MemberState)) (a : ℕ) (m : MemberState) → member_at members a ≡ Some m → history_at members a ≡ history m
unfolding history_at
history_at-is members a m is = ap (λ o. unwrap_or (option_map history o) []) is

pub count_at-is : (members : List (Option MemberState)) (a b bearer epoch : ℕ) (m : MemberState) → member_at members a ≡ Some m → count_at members a b bearer epoch ≡ count_of m b bearer epoch
unfolding count_at
count_at-is members a b bearer epoch m is = ap (λ o. unwrap_or (option_map (λ (n : MemberState). count_of n b bearer epoch) o) 0) is

pub boot_at-same : (members members' : List (Option MemberState)) (a : ℕ) → member_at members' a ≡ member_at members a → boot_at members' a ≡ boot_at members a
unfolding boot_at
boot_at-same members members' a is = ap (λ o. unwrap_or (option_map (λ (n : MemberState). n.node.boot) o) 1) is

pub pair_at-same : (members members' : List (Option MemberState)) (a b : ℕ) → member_at members' a ≡ member_at members a → pair_at members' a b ≡ pair_at members a b
unfolding pair_at
pair_at-same members members' a b is = ap (λ o. option_and_then (λ (n : MemberState). pair_in n.node b) o) is

pub history_at-same : (members members' : List (Option MemberState)) (a : ℕ) → member_at members' a ≡ member_at members a → history_at members' a ≡ history_at members a
unfolding history_at
history_at-same members members' a is = ap (λ o. unwrap_or (option_map history o) []) is

pub count_at-same : (members members' : List (Option MemberState)) (a b bearer epoch : ℕ) → member_at members' a ≡ member_at members a → count_at members' a b bearer epoch ≡ count_at members a b bearer epoch
unfolding count_at
count_at-same members members' a b bearer epoch is = ap (λ o. unwrap_or (option_map (λ (n : MemberState). count_of n b bearer epoch) o) 0) is
