-- A message that a node sends goes its way or is refused there, as its journal tells.
use Rattle.std.proofs.Common.{◌≡◌, ◌≤◌, ◌<◌, ◌==◌, ◌-◌, ◌||◌, ℕ, Bool, true, false, List, [], ◌∷◌, Option, Some, None, is_some, length, inl, inr, refl, sym, ap, ◌∙◌, subst, arith}
use Rattle.std.specs.Prelude.{◌⊎◌, IfSome, if◌then◌else◌, nat_le, option_and_then, option_map, option_to_list}
use Rattle.std.proofs.lemmas.Bool.{cases_lt}
use Rattle.std.proofs.lemmas.Bool.Decides.{nat_tests}
use Rattle.std.proofs.lemmas.List.{append-nil}
use Rattle.tipc_types.specs.Address.{node_word}
use Rattle.tipc_types.specs.LinkStates.{is_up}
use Rattle.tipc_types.specs.declared.identity.Addr.{Addr}
use Rattle.tipc_types.specs.declared.message_forms.Flow.TheVariants.{Zero}
use Rattle.tipc_types.specs.declared.message_forms.Message.{Message}
use Rattle.tipc_types.specs.declared.node_calls.Answer.{Answer}
use Rattle.tipc_types.specs.declared.node_calls.Answer.TheVariants as answer
use Rattle.tipc_outside.specs.declared.outgoing.Outgoing.{Outgoing}
use Rattle.tipc_journal.specs.declared.entries.Entry.{Entry}
use Rattle.tipc_journal.specs.declared.entries.Entry.TheVariants as entry
use Rattle.tipc_journal.specs.Contacts.{contact}
use Rattle.tipc_journal.specs.Dues.{FateDue, NothingDue, comes_home, due_of_sent}
use Rattle.tipc_journal.specs.Licensed.{accepted_for, accepted_of, is_reached}
use Rattle.tipc_link.specs.Links.{LinkEnd}
use Rattle.tipc_link.specs.Sessions.{SessionEnd}
use Rattle.tipc_pair.specs.Facing.{PairEnds, active, contact_between, facing, turned}
use Rattle.tipc_pair.specs.PairCalls.{load_in, load_of as link_load}
use Rattle.tipc_sockets.specs.Telling.{is_for_one_there, is_payload}
use Rattle.tipc_node.specs.declared.neighbours.Neighbour.{Neighbour}
use Rattle.tipc_node.specs.Messages.{destination_of}
use Rattle.tipc_node.specs.Nodes.{NodeState, neighbour_of, load_with, shown_contact}
use Rattle.tipc_node.specs.Plans.{GoesItsWay, link_refusal, way_refusal}
use Rattle.tipc_node.specs.Telling.{ArePacked, IsTold}
use Rattle.tipc_pair.specs.LinkReadings.{IsPacked, IsPackedEnd, IsPackedPair}
use Rattle.tipc_node.specs.Works.{Work, addr_of_word, begun, neighbour_at}
use Rattle.tipc_node.proofs.journal.Fating.{IsLinked, contact_at, load_some}
use Rattle.tipc_node.proofs.journal.Noting.{IsWorked, begun_worked}
use Rattle.tipc_node.proofs.pairs.Packed.{first_bearer}
use Rattle.tipc_node.proofs.journal.Putting.{put_contact, put_node, sent_worked, settles_worked}

-- ---- contacts at the beginning of a step

pub of_pair : (o : Option Neighbour) → option_and_then contact_between (option_map (λ (x : Neighbour). x.pair) o) ≡ option_and_then (λ (x : Neighbour). contact_between x.pair) o
of_pair None = refl
of_pair (Some x) = refl

pub begun_linked : (n : NodeState) → IsTold n → IsLinked n (begun n)
begun_linked n h = record {
  contacts = λ a. ap (λ es. contact es a) (append-nil n.journal) ∙ at a (cases_lt a.word (node_word 0));
  two = λ b x there. (let first = first_bearer n b x h there in omega (arith, first));
  nobody = h.nobody;
}
  where
    at : (a : Addr) → (a.word < node_word 0) ⊎ (node_word 0 ≤ a.word) → contact n.journal a ≡ contact_at n.neighbours a
    at a (inl low) =
        let none : a.word - node_word 0 ≡ 0 = omega (arith, low) in
        h.below a low ∙ sym (ap (λ k. option_and_then (λ (x : Neighbour). contact_between x.pair) (neighbour_of n k)) none ∙ ap (option_and_then (λ (x : Neighbour). contact_between x.pair)) h.nobody)
    at a (inr high) =
        let is : a.word ≡ node_word (a.word - node_word 0) = omega (arith, high) in
        ap (λ k. contact n.journal (addr_of_word k)) is ∙ (h.links (a.word - node_word 0)).contact_is ∙ of_pair (neighbour_of n (a.word - node_word 0))

-- there is a load exactly where the journal tells of a contact
pub load_told : (n : NodeState) (a : Addr) → IsTold n → is_some (load_with (neighbour_at n.neighbours a)) ≡ is_some (contact n.journal a)
load_told n a h =
    let linked = begun_linked n h in
    load_some (neighbour_at n.neighbours a) (λ x there. linked.two _ x there) ∙ ap is_some (sym (linked.contacts a)) ∙ ap (λ es. is_some (contact es a)) (append-nil n.journal)

-- ---- the way of a message

-- why a message is refused on its way: there is no contact, or with 50 packets unacknowledged as many wait as may
pub data WayRefused (n : NodeState) (node : Addr) (limit : ℕ) : Answer → Type 0 where
  unreached : is_reached (addr_of_word n.own) n.journal node ≡ false → WayRefused n node limit answer.NoNode
  crowded : (in_flight waiting : ℕ) → in_flight ≡ 50 → limit ≤ waiting → is_reached (addr_of_word n.own) n.journal node ≡ true → WayRefused n node limit (answer.Congested in_flight waiting)

-- where packets wait on a link, 50 are unacknowledged there
fifty : (end : Option LinkEnd) → IfSome end IsPackedEnd → 1 ≤ (link_load end).1 → (link_load end).0 ≡ 50
fifty None packed some = absurd (let wrong : ⊥ = omega (arith, some) in wrong)
fifty (Some e) packed some = by (is_up e.fsm.state) some
  where
    waits : (session : Option SessionEnd) → IfSome session IsPacked → 1 ≤ (load_in session).1 → (load_in session).0 ≡ 50
    waits None is most = absurd (let wrong : ⊥ = omega (arith, most) in wrong)
    waits (Some s) is most = full s.sending.waiting refl is.1 most
      where
        full : (packets : List (List ℕ)) → s.sending.waiting ≡ packets → (s.sending.waiting ≡ []) ⊎ (length s.sending.unacked ≡ 50) → 1 ≤ length s.sending.waiting → length s.sending.unacked ≡ 50
        full packets same (inl none) most = absurd (let zero : length s.sending.waiting ≡ 0 = ap length none in let wrong : ⊥ = omega (arith, most, zero) in wrong)
        full packets same (inr is) most = is

    by : (b : Bool) → 1 ≤ (if b then load_in e.session else (0, 0)).1 → (if b then load_in e.session else (0, 0)).0 ≡ 50
    by true most = waits e.session packed most
    by false most = absurd (let wrong : ⊥ = omega (arith, most) in wrong)

facing_packed : (bearer : ℕ) (x : PairEnds) → IsPackedPair x → IfSome (facing bearer x).near IsPackedEnd
unfolding facing
facing_packed bearer x h = elim (x.bearer == bearer) as (λ b. IfSome (if b then x else turned x).near IsPackedEnd) [ true ↦ h.near | false ↦ h.far ]

-- a load is a neighbour's
full_load : (o : Option Neighbour) (load : ℕ × ℕ) → load_with o ≡ Some load → ((x : Neighbour) → o ≡ Some x → IsPackedPair x.pair) → 1 ≤ load.1 → load.0 ≡ 50
full_load None load is packed some = absurd cc
full_load (Some x) load is packed some = by (active x.pair) refl is
  where
    by : (a : Option ℕ) → active x.pair ≡ a → option_map (λ bearer. link_load (facing bearer x.pair).near) a ≡ Some load → load.0 ≡ 50
    by None none there = absurd cc
    by (Some bearer) on there =
        let same : link_load (facing bearer x.pair).near ≡ load = cc in
        sym (ap (λ (l : ℕ × ℕ). l.0) same) ∙ fifty (facing bearer x.pair).near (facing_packed bearer x.pair (packed x refl)) (subst (λ (l : ℕ × ℕ). 1 ≤ l.1) (sym same) some)

reached_by : (own : ℕ) (journal : List Entry) (node : Addr) (b : Bool) → (node.word == own) ≡ false → is_some (contact journal node) ≡ b → is_reached (addr_of_word own) journal node ≡ b
reached_by own journal node b other is = ap (λ c. c || is_some (contact journal node)) other ∙ is

pub way_refused : (n : NodeState) (node : Addr) (limit : ℕ) (reason : Answer) → IsTold n → ArePacked n → 1 ≤ limit → way_refusal n node limit ≡ Some reason → WayRefused n node limit reason
way_refused n node limit reason h packed some is = by (node.word == n.own) refl is
  where
    link : (o : Option (ℕ × ℕ)) → load_with (neighbour_at n.neighbours node) ≡ o → (node.word == n.own) ≡ false → link_refusal o limit ≡ Some reason → WayRefused n node limit reason
    link None load_is other refused =
        let here : answer.NoNode ≡ reason = cc in
        subst (WayRefused n node limit) here (unreached (reached_by n.own n.journal node false other (sym (load_told n node h) ∙ ap is_some load_is)))
    link (Some load) load_is other refused = crowd (nat_le limit load.1) refl refused
      where
        crowd : (b : Bool) → nat_le limit load.1 ≡ b → (if b then Some (answer.Congested load.0 load.1) else None) ≡ Some reason → WayRefused n node limit reason
        crowd false few none = absurd cc
        crowd true many full =
            let here : answer.Congested load.0 load.1 ≡ reason = cc in
            let most : limit ≤ load.1 = grind (arith, nat_tests, many) in
            subst (WayRefused n node limit) here (crowded load.0 load.1 (full_load (neighbour_at n.neighbours node) load load_is (λ x there. packed.0 (node.word - node_word 0) x there) (omega (arith, some, most))) most
            (reached_by n.own n.journal node true other (sym (load_told n node h) ∙ ap is_some load_is)))

    by : (b : Bool) → (node.word == n.own) ≡ b → (if b then None else link_refusal (load_with (neighbour_at n.neighbours node)) limit) ≡ Some reason → WayRefused n node limit reason
    by true mine none = absurd cc
    by false other refused = link (load_with (neighbour_at n.neighbours node)) refl other refused

pub way_open : (n : NodeState) (node : Addr) (limit : ℕ) → IsTold n → way_refusal n node limit ≡ None → is_reached (addr_of_word n.own) n.journal node ≡ true
way_open n node limit h is = by (node.word == n.own) refl is
  where
    link : (o : Option (ℕ × ℕ)) → load_with (neighbour_at n.neighbours node) ≡ o → link_refusal o limit ≡ None → is_some (contact n.journal node) ≡ true
    link None load_is open_way = absurd cc
    link (Some load) load_is open_way = sym (load_told n node h) ∙ ap is_some load_is

    by : (b : Bool) → (node.word == n.own) ≡ b → (if b then None else link_refusal (load_with (neighbour_at n.neighbours node)) limit) ≡ None → is_reached (addr_of_word n.own) n.journal node ≡ true
    by true mine none = ap (λ c. c || is_some (contact n.journal node)) mine
    by false other open_way = reached_by n.own n.journal node true other (link (load_with (neighbour_at n.neighbours node)) refl open_way)

-- ---- a message goes

-- at another node it is accepted in the present contact
accepted_there : (journal : List Entry) (m : Message) (node peer : Addr) (numbers : ℕ × ℕ) → contact journal node ≡ Some numbers → peer ≡ node
    → accepted_for journal Zero m node ≡ entry.Accepted peer numbers Zero m ∷ []
accepted_there journal m node peer numbers there is =
    ap (λ (o : Option (ℕ × ℕ)). option_to_list (option_map (λ (z : ℕ × ℕ). entry.Accepted node z Zero m) o)) there ∙ ap (λ (a : Addr). entry.Accepted a numbers Zero m ∷ []) (sym is)

pub goes_worked : (n : NodeState) (m : Message) (w : Work) (frames : List Outgoing) → IsTold n → is_payload m ≡ true
    → accepted_of (addr_of_word n.own) n.journal (Some m) ≡ (if comes_home (addr_of_word n.own) m then [] else accepted_for n.journal Zero m (destination_of m))
    → (comes_home (addr_of_word n.own) m ≡ true → is_for_one_there n.sockets m ≡ true) → GoesItsWay n.own (begun n) m w frames
    → IsWorked n (due_of_sent (addr_of_word n.own) (Some m)) NothingDue (accepted_of (addr_of_word n.own) n.journal (Some m)) [] w
goes_worked n m w frames h payload accepts there goes = by (comes_home (addr_of_word n.own) m) refl
  where
    own : Addr
    own = addr_of_word n.own

    linked : IsLinked n (begun n)
    linked = begun_linked n h

    -- what is due, and what is accepted, by where the message is for
    put : (b : Bool) → comes_home own m ≡ b → IsWorked n (if b then FateDue m false else NothingDue) NothingDue (if b then [] else accepted_for n.journal Zero m (destination_of m)) [] w
        → IsWorked n (due_of_sent own (Some m)) NothingDue (accepted_of own n.journal (Some m)) [] w
    put b is k =
        subst (λ d. IsWorked n d NothingDue (accepted_of own n.journal (Some m)) [] w) (ap (λ (c : Bool). if c then FateDue m false else NothingDue) (sym is))
        (subst (λ es. IsWorked n (if b then FateDue m false else NothingDue) NothingDue es [] w) (ap (λ (c : Bool). if c then [] else accepted_for n.journal Zero m (destination_of m)) (sym is) ∙ sym accepts) k)

    by : (b : Bool) → comes_home own m ≡ b → IsWorked n (due_of_sent own (Some m)) NothingDue (accepted_of own n.journal (Some m)) [] w
    by true is = put true is (settles_worked n (FateDue m false) [] [] (begun n) false m w frames (begun_worked n (FateDue m false) h) linked payload (λ _. there is) (goes.home is)).0
    by false is =
        let away = goes.away is in
        let met : contact n.journal (destination_of m) ≡ Some (shown_contact away.neighbour.pair) = ap (λ es. contact es (destination_of m)) (sym (append-nil n.journal)) ∙ put_contact n (begun n) m w frames linked away in
        let peer = addr_of_word (node_word ((destination_of m).word - node_word 0)) in
        put false is (subst (λ es. IsWorked n NothingDue NothingDue es [] w) (sym (accepted_there n.journal m (destination_of m) peer (shown_contact away.neighbour.pair) met (put_node n (begun n) m w frames linked away)))
        (sent_worked n NothingDue [] (begun n) ((destination_of m).word - node_word 0) m w frames (begun_worked n NothingDue h) payload away))
