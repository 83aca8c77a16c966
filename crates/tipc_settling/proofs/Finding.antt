-- A node asks who is there where no link of it is up, and one that is asked makes its end.
use Rattle.std.specs.Prelude.{◌==◌, ◌&&◌, ◌||◌, not, slice_index_or, if◌then◌else◌}
use Rattle.std.specs.List.{Contains, list_any}
use Rattle.std.proofs.Common.{◌≡◌, ◌≤◌, ◌∙◌, ℕ, zero, suc, Bool, true, false, List, [], ◌∷◌, ◌++◌, Option, Some, None, is_some, length, inl, inr, eq-eqb, refl, sym, ap, subst, arith}
use Rattle.std.proofs.lemmas.Bool.{true≢false}
use Rattle.std.proofs.lemmas.List.Folds.{list_any-append}
use Rattle.std.proofs.lemmas.List.Elements.{Contains-append_left, Contains-append_right}
use Rattle.tipc_types.specs.Address.{node_word}
use Rattle.tipc_types.specs.declared.link_words.Why.TheVariants as why
use Rattle.tipc_outside.specs.declared.outgoing.Outgoing.{Outgoing}
use Rattle.tipc_header.specs.declared.frames.FrameKind.TheVariants.{Finds}
use Rattle.tipc_header.specs.Frames.{frame_of, kind_in}
use Rattle.tipc_header.specs.Spelling.{Fields, spelling}
use Rattle.tipc_header.proofs.Again.{again, no_fault}
use Rattle.tipc_broadcast.specs.Deeds.{deeds_frames}
use Rattle.tipc_discovery.specs.Hearing.{Neighbourhood, heard_on, is_of_network}
use Rattle.tipc_paired.proofs.wires.Frames.{same_packet}
use Rattle.tipc_node.specs.declared.neighbours.Neighbour.{Neighbour}
use Rattle.tipc_node.specs.declared.neighbours.Upkeep.TheVariants as upkeep
use Rattle.tipc_node.specs.Discovery.{asks_on, discovered_node, found_node, has_found, has_link_up, next_tick, request_on, requests_by, tick_requests, with_found}
use Rattle.tipc_node.specs.Nodes.{NodeState, acquaintance, after_all, end_with, is_mended_on, is_other, neighbour_of, numbered_all, pair_with, parts_of, states_all, stop_by_kind, stop_of, upkeep_deeds}
use Rattle.tipc_node.specs.Turns.{IsFrom}
use Rattle.tipc_node.proofs.work.Stops.{IsBadSize, IsOpened, by_sender, sender_kind}
use Rattle.tipc_pair.specs.Facing.{facing, is_up_at}
use Rattle.tipc_settling.specs.Findings.{ArrivalsFind, NodesAsk}

-- ---- who asks

none_so : {A : Type 0} (f : Option A → Bool) (xs : List (Option A)) → ((k : ℕ) → f (slice_index_or xs k None) ≡ false) → list_any f xs ≡ false
none_so f [] none = refl
none_so f (x ∷ xs) none = ap (λ t. t || list_any f xs) (none zero) ∙ none_so f xs (λ k. none (suc k))

both_so : (a b c : Bool) → a ≡ true → b ≡ false → (a && (not b || c)) ≡ true
both_so true false c one two = refl
both_so true true c one two = absurd (true≢false two)
both_so false b c one two = absurd (true≢false (sym one))

asks_so : (n : NodeState) (bearer : ℕ) → is_mended_on n.mended bearer ≡ true → has_link_up bearer (after_all (parts_of upkeep.Tick n)) ≡ false → tick_requests n bearer ≡ request_on n bearer ∷ []
asks_so n bearer mended none =
    let asks : asks_on n bearer ≡ true = both_so (is_mended_on n.mended bearer) (has_link_up bearer (after_all (parts_of upkeep.Tick n))) (next_tick n.ticks == 0) mended none in
    ap (λ (t : Bool). if t then request_on n bearer ∷ [] else []) asks

first_of : (o : Outgoing) (behind : List Outgoing) → Contains (o ∷ behind) o
first_of o behind = (0, omega arith, refl)

in_requests : (n : NodeState) (bearer : ℕ) → bearer ≤ 1 → tick_requests n bearer ≡ request_on n bearer ∷ [] → Contains (requests_by upkeep.Tick n) (request_on n bearer)
unfolding requests_by
in_requests n zero one is = Contains-append_left (tick_requests n 0) (tick_requests n 1) (request_on n 0) (subst (λ fs. Contains fs (request_on n 0)) (sym is) (first_of (request_on n 0) []))
in_requests n (suc zero) one is = Contains-append_right (tick_requests n 0) (tick_requests n 1) (request_on n 1) (subst (λ fs. Contains fs (request_on n 1)) (sym is) (first_of (request_on n 1) []))
in_requests n (suc (suc more)) one is = absurd (omega (arith, one))

pub nodes_ask : NodesAsk
nodes_ask n n' by frames answered bearer h one mended down =
    let parts = parts_of upkeep.Tick n in
    let carried = h.carried in
    let after : (k : ℕ) → neighbour_of n' k ≡ slice_index_or (after_all parts) k None = λ k. ap (λ (m : NodeState). neighbour_of m k) carried.0 in
    let none : has_link_up bearer (after_all parts) ≡ false = none_so (λ x. is_up_at (end_with bearer x)) (after_all parts) (λ k. ap (λ x. is_up_at (end_with bearer x)) (sym (after k)) ∙ down k) in
    let o = request_on n bearer in
    subst (λ fs. Contains fs o) (sym carried.1)
    (Contains-append_left (states_all parts ++ requests_by upkeep.Tick n) (numbered_all parts ++ deeds_frames (upkeep_deeds upkeep.Tick n) n.casting) o
    (Contains-append_right (states_all parts) (requests_by upkeep.Tick n) o (in_requests n bearer one (asks_so n bearer mended none))))

-- ---- what isn't stopped

-- a discovery packet of the network that another node sent, on a mended bearer
pub nothing_stops_finding : (n : NodeState) (bearer : ℕ) (bytes : List ℕ) (peer es er : ℕ) (p : Fields) → IsFrom peer bytes es er p → kind_in bytes ≡ Finds → is_of_network p.header ≡ true → is_mended_on n.mended bearer ≡ true → 16 ≤ length bytes
    → length bytes ≤ 1516 → is_other n.own (node_word peer) ≡ true → stop_of n bearer bytes ≡ None
nothing_stops_finding n bearer bytes peer es er p from kind network mended long short other =
    let opened : IsOpened n.mended bearer bytes es er (spelling p) = record { open_bearer = mended; size = λ bad. good bad; opened = from.frame_is } in
    let word : is_other n.own p.previous ≡ true = ap (is_other n.own) from.previous ∙ other in
    by_sender n.own n.mended n.neighbours bearer bytes es er (spelling p) p opened (no_fault p from.fits) (sym (again p from.fits))
    ∙ (sender_kind n.own n.neighbours bearer peer p.previous (kind_in bytes) p.header word from.previous
    ∙ (ap (λ k. stop_by_kind k p.header bearer (slice_index_or n.neighbours peer None)) kind ∙ ap (λ b. if b then None else Some why.Network) network))
  where
    good : IsBadSize (length bytes) → ⊥
    good (inl few) = omega (arith, few, long)
    good (inr many) = omega (arith, many, short)

-- ---- who is found

or_last : (a b : Bool) → b ≡ true → (a || b) ≡ true
or_last true b is = refl
or_last false b is = is

-- a node that was found is among those that were heard
among_found : (n : NodeState) (bearer peer : ℕ) → bearer ≤ 1 → has_found (found_node n peer bearer) bearer peer ≡ true
among_found n zero peer one =
    list_any-append (λ w. node_word peer == w) n.found.on_bearer_0 (node_word peer ∷ [])
    ∙ or_last (list_any (λ w. node_word peer == w) n.found.on_bearer_0) _ (ap (λ t. t || false) (eq-eqb (node_word peer) (node_word peer) refl))
among_found n (suc zero) peer one =
    list_any-append (λ w. node_word peer == w) n.found.on_bearer_1 (node_word peer ∷ [])
    ∙ or_last (list_any (λ w. node_word peer == w) n.found.on_bearer_1) _ (ap (λ t. t || false) (eq-eqb (node_word peer) (node_word peer) refl))
among_found n (suc (suc more)) peer one = absurd (omega (arith, one))

discovered : (n : NodeState) (peer bearer : ℕ) → bearer ≤ 1 → has_found (discovered_node n peer bearer) bearer peer ≡ true
discovered n peer bearer one = by (has_found n bearer peer) refl
  where
    by : (t : Bool) → has_found n bearer peer ≡ t → has_found (if t then n else found_node n peer bearer) bearer peer ≡ true
    by true is = is
    by false is = among_found n bearer peer one

pub arrivals_find : ArrivalsFind
arrivals_find n n' by bearer number bytes frames answered b es er p arrives turn one passes from kind =
    let h = arrives.discovered passes kind in
    let brings = h.brings in
    let own_from = brings.from in
    let packet : h.packet ≡ p = same_packet h.first h.second es er h.packet p own_from.fits from.fits (sym own_from.frame_is ∙ from.frame_is) in
    let words : node_word h.peer ≡ node_word b = sym own_from.previous ∙ ap (λ (q : Fields). q.previous) packet ∙ from.previous in
    let who : h.peer ≡ b = omega (arith, words) in
    let has : has_found n' bearer h.peer ≡ true = ap (λ (m : NodeState). has_found m bearer h.peer) h.after ∙ discovered n h.peer bearer one in
    let end : is_some (end_with bearer (neighbour_of n' b)) ≡ true = turn.found b bearer one ∙ ap (has_found n' bearer) (sym who) ∙ has in
    end_near n' b bearer (neighbour_of n' b) end
  where
    end_near : (n : NodeState) (b bearer : ℕ) (x : Option Neighbour) → is_some (end_with bearer x) ≡ true → is_some (facing bearer (acquaintance n b x).pair).near ≡ true
    end_near n b bearer None there = absurd (true≢false (sym there))
    end_near n b bearer (Some x) there = there
