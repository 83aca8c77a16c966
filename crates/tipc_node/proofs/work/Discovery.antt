-- What a discovery packet makes of the parts of a node.
use Rattle.std.proofs.Common.{◌≡◌, ◌≤◌, ◌<◌, ◌-◌, ◌==◌, ◌||◌, ◌∙◌, ℕ, zero, suc, Bool, true, false, not, List, [], ◌∷◌, ◌++◌, Option, Some, None, is_some, length, if◌then◌else◌, refl, sym, ap, arith, append-nil, subst}
use Rattle.std.specs.Prelude.{slice_set}
use Rattle.std.specs.List.{list_any}
use Rattle.std.proofs.lemmas.Bool.Decides.{nat_tests}
use Rattle.tipc_types.specs.Address.{node_word}
use Rattle.tipc_types.specs.LinkStates.{is_up}
use Rattle.tipc_types.specs.declared.link_words.LinkState.{LinkState}
use Rattle.tipc_types.specs.declared.link_words.Why.TheVariants as why
use Rattle.tipc_types.specs.declared.node_calls.Answer.TheVariants as answer
use Rattle.tipc_types.specs.declared.node_calls.Arrival.TheVariants as arrival
use Rattle.tipc_types.specs.declared.node_calls.By.{By}
use Rattle.tipc_types.specs.declared.node_calls.EventNote.TheVariants.{Arrive}
use Rattle.tipc_outside.specs.Frames.{Adds, AddsFirst, Gains, Made, Out, made_first, no_frames}
use Rattle.tipc_outside.proofs.Adding.{first_more}
use Rattle.tipc_header.specs.declared.packet.Header.{Header}
use Rattle.tipc_header.specs.Spelling.{view}
use Rattle.tipc_journal.specs.declared.entries.Entry.{Entry}
use Rattle.tipc_journal.specs.Steps.{step_entries}
use Rattle.tipc_discovery.specs.declared.neighbours.Found.{Found}
use Rattle.tipc_discovery.specs.declared.neighbours.Found.TheVariants.{Ignored, Known, New}
use Rattle.tipc_discovery.specs.Finding.{after_hearing, found_of}
use Rattle.tipc_discovery.specs.Hearing.{Neighbourhood, has_node, heard_on, is_of_network}
use Rattle.tipc_link.specs.Links.{LinkEnd}
use Rattle.tipc_pair.specs.Facing.{is_up_at, state_of}
use Rattle.tipc_node.specs.declared.frames.Due.{Due}
use Rattle.tipc_node.specs.declared.neighbours.Neighbour.{Neighbour}
use Rattle.tipc_node.specs.Discovery.{AreFound, discovered_frames, discovered_node, found_frames, found_node, has_found, responses, welcome_frames, welcomed, with_found}
use Rattle.tipc_node.specs.Neighbours.{making, with_pair}
use Rattle.tipc_node.specs.Hearings.{FindsDue}
use Rattle.tipc_node.specs.Nodes.{NodeState, end_with, is_other, neighbour_of, recorded, step_of}
use Rattle.tipc_node.proofs.pairs.Acquainting.{same_acquaintance}
use Rattle.tipc_node.proofs.work.Senders.{isnt_own}

-- ---- the state of a link end

-- a link is up by the state of its end
pub up_by_state : (o : Option LinkEnd) (s : LinkState) → state_of o ≡ Some s → is_up_at o ≡ is_up s
up_by_state None s is = absurd cc
up_by_state (Some e) s is = (let same : e.fsm.state ≡ s = cc in ap is_up same)

pub down_by_state : (o : Option LinkEnd) → state_of o ≡ None → is_up_at o ≡ false
down_by_state None is = refl
down_by_state (Some e) is = absurd cc

-- ---- what is found

-- a peer is known or new by whether it was heard before
abbrev pub found_by : Bool → Found
found_by heard = if heard then Known else New

by_tests : (own node ours heard : Bool) → own ≡ false → node ≡ true → ours ≡ true → (if own || not node then Ignored why.Own else (if not ours then Ignored why.Network else found_by heard)) ≡ found_by heard
by_tests own node ours heard a b c = rw (a, b, c) refl

-- a packet of the network from another node shows that
pub found_is : (own peer : ℕ) (said : Header) (heard : List ℕ) → (1 ≤ peer) × (peer ≤ 32) → is_other own (node_word peer) ≡ true → is_of_network said ≡ true
    → found_of own (node_word peer) said heard ≡ found_by (list_any (λ other. node_word peer == other) heard)
unfolding found_of
found_is own peer said heard range other ours =
    let least = range.0 in
    let most = range.1 in
    let node : has_node (node_word peer) ≡ true = grind (arith, nat_tests, least, most) in
    by_tests (node_word peer == own) (has_node (node_word peer)) (is_of_network said) (list_any (λ other. node_word peer == other) heard) (isnt_own own (node_word peer) other) node ours

-- ---- who was heard then

found_same : (old now : Neighbourhood) (bearer : ℕ) → bearer ≤ 1 → now.own ≡ old.own → heard_on bearer now ≡ heard_on bearer old → heard_on (1 - bearer) now ≡ heard_on (1 - bearer) old → now ≡ old
found_same old now zero one own here there = (λ i. record { own = own i; on_bearer_0 = here i; on_bearer_1 = there i })
found_same old now (suc zero) one own here there = (λ i. record { own = own i; on_bearer_0 = there i; on_bearer_1 = here i })
found_same old now (suc (suc bearer)) one own here there = absurd (omega (arith, one))

found_more : (old now : Neighbourhood) (bearer word : ℕ) → bearer ≤ 1 → now.own ≡ old.own → heard_on bearer now ≡ heard_on bearer old ++ word ∷ [] → heard_on (1 - bearer) now ≡ heard_on (1 - bearer) old → now ≡ with_found old bearer word
found_more old now zero word one own here there = (λ i. record { own = own i; on_bearer_0 = here i; on_bearer_1 = there i })
found_more old now (suc zero) word one own here there = (λ i. record { own = own i; on_bearer_0 = there i; on_bearer_1 = here i })
found_more old now (suc (suc bearer)) word one own here there = absurd (omega (arith, one))

-- what was found, and who was heard on which bearer then
pub record HasHeardOf (n : NodeState) (peer bearer : ℕ) (f : Found) (now : Neighbourhood) : Type 0 where
  pub one : bearer ≤ 1
  pub is : f ≡ found_by (has_found n bearer peer)
  pub own : now.own ≡ n.found.own
  pub here : heard_on bearer now ≡ after_hearing f (node_word peer) (heard_on bearer n.found)
  pub there : heard_on (1 - bearer) now ≡ heard_on (1 - bearer) n.found

-- ---- the node

-- the node where it found the peer, or knew it before, and its journal is this
pub discovered_by : (n : NodeState) (peer bearer : ℕ) (f : Found) (now : Neighbourhood) (journal : List Entry) (promised : ℕ) → HasHeardOf n peer bearer f now
    → record n { found = now; neighbours = welcomed n.own n.boot f peer bearer n.neighbours; journal = journal; promised = promised } ≡ record (discovered_node n peer bearer) { journal = journal; promised = promised }
discovered_by n peer bearer f now journal promised h = by (has_found n bearer peer) h.is
  where
    by : (heard : Bool) → f ≡ found_by heard → record n { found = now; neighbours = welcomed n.own n.boot f peer bearer n.neighbours; journal = journal; promised = promised } ≡ record (if heard then n else found_node n peer bearer) { journal = journal; promised = promised }
    by true known =
        let same : now ≡ n.found = found_same n.found now bearer h.one h.own (h.here ∙ ap (λ g. after_hearing g (node_word peer) (heard_on bearer n.found)) known) h.there in
        let neighbours = ap (λ g. welcomed n.own n.boot g peer bearer n.neighbours) known in
        (λ i. record n { found = same i; neighbours = neighbours i; journal = journal; promised = promised })
    by false new =
        let more : now ≡ with_found n.found bearer (node_word peer) =
        found_more n.found now bearer (node_word peer) h.one h.own (h.here ∙ ap (λ g. after_hearing g (node_word peer) (heard_on bearer n.found)) new) h.there in
        let neighbours =
        ap (λ g. welcomed n.own n.boot g peer bearer n.neighbours) new
        ∙ ap (λ (x : Neighbour). slice_set n.neighbours peer (Some (with_pair x (making bearer x).pair))) (same_acquaintance n peer (neighbour_of n peer)) in
        (λ i. record n { found = more i; neighbours = neighbours i; journal = journal; promised = promised })

-- the parts of a node after a discovery packet that it doesn't touch
pub discovered_same : (n : NodeState) (peer bearer : ℕ) → ((discovered_node n peer bearer).journal ≡ n.journal) × ((discovered_node n peer bearer).sockets ≡ n.sockets)
discovered_same n peer bearer = elim (has_found n bearer peer) as (λ b. ((if b then n else found_node n peer bearer).journal ≡ n.journal) × ((if b then n else found_node n peer bearer).sockets ≡ n.sockets)) [
  | true ↦ (refl, refl)
  | false ↦ (refl, refl)
]

-- nor does it touch what was promised
pub discovered_promised : (n : NodeState) (peer bearer : ℕ) → (discovered_node n peer bearer).promised ≡ n.promised
discovered_promised n peer bearer = elim (has_found n bearer peer) as (λ b. (if b then n else found_node n peer bearer).promised ≡ n.promised) [
  | true ↦ refl
  | false ↦ refl
]

-- the frames that leave with the link end
pub discovered_frames_by : (n : NodeState) (peer bearer : ℕ) (f : Found) → f ≡ found_by (has_found n bearer peer) → welcome_frames n.own n.boot f peer bearer n.neighbours ≡ discovered_frames n peer bearer
discovered_frames_by n peer bearer f is = by (has_found n bearer peer) is
  where
    by : (heard : Bool) → f ≡ found_by heard → welcome_frames n.own n.boot f peer bearer n.neighbours ≡ (if heard then [] else found_frames n peer bearer)
    by true known = ap (λ g. welcome_frames n.own n.boot g peer bearer n.neighbours) known
    by false new = ap (λ g. welcome_frames n.own n.boot g peer bearer n.neighbours) new ∙ ap (λ (x : Neighbour). (making bearer x).states) (same_acquaintance n peer (neighbour_of n peer))

-- ---- where there is an end

pub none_of : {A : Type 0} (o : Option A) → is_some o ≡ false → o ≡ None
none_of None is = refl
none_of (Some a) is = absurd cc

-- a peer that wasn't heard on a bearer has no link end there
pub unheard_none : (n : NodeState) (peer bearer : ℕ) → AreFound n → bearer ≤ 1 → has_found n bearer peer ≡ false → end_with bearer (neighbour_of n peer) ≡ None
unheard_none n peer bearer are one unheard = none_of (end_with bearer (neighbour_of n peer)) (are peer bearer one ∙ unheard)

-- so has one that is new
pub new_none : (n : NodeState) (peer bearer : ℕ) (f : Found) → AreFound n → bearer ≤ 1 → f ≡ found_by (has_found n bearer peer) → f ≡ New → end_with bearer (neighbour_of n peer) ≡ None
new_none n peer bearer f are one is new = unheard_none n peer bearer are one (unheard (has_found n bearer peer) (sym is ∙ new))
  where
    unheard : (heard : Bool) → found_by heard ≡ New → heard ≡ false
    unheard true wrong = absurd cc
    unheard false right = refl

-- ---- the arrival

-- what the packet showed, by who was heard so far
pub found_shown : (n : NodeState) (f : Found) (previous peer bearer : ℕ) (said : Header) → n.found.own ≡ n.own → previous ≡ node_word peer → (1 ≤ peer) × (peer ≤ 32) → is_other n.own (node_word peer) ≡ true → is_of_network said ≡ true
    → f ≡ found_of n.found.own previous said (heard_on bearer n.found) → f ≡ found_by (has_found n bearer peer)
found_shown n f previous peer bearer said own from range other ours is =
    is ∙ ap (λ word. found_of word previous said (heard_on bearer n.found)) own ∙ ap (λ word. found_of n.own word said (heard_on bearer n.found)) from
    ∙ found_is n.own peer said (heard_on bearer n.found) range other ours

-- the node that recorded it
pub discovered_recorded : (n : NodeState) (by : By) (number peer bearer : ℕ) (f : Found) (now : Neighbourhood) (journal : List Entry) (promised : ℕ) → HasHeardOf n peer bearer f now
    → journal ≡ n.journal ++ step_entries (step_of by (Arrive bearer number) [] (answer.Arrived (arrival.Took 0))) → promised ≡ n.promised - 1
    → record n { found = now; neighbours = welcomed n.own n.boot f peer bearer n.neighbours; journal = journal; promised = promised } ≡ recorded (discovered_node n peer bearer) by (Arrive bearer number) [] (answer.Arrived (arrival.Took 0))
discovered_recorded n by number peer bearer f now journal promised h is used =
    let s = step_of by (Arrive bearer number) [] (answer.Arrived (arrival.Took 0)) in
    let told = is ∙ ap (λ es. es ++ step_entries s) (sym (discovered_same n peer bearer).0) in
    let left = used ∙ ap (λ k. k - 1) (sym (discovered_promised n peer bearer)) in
    discovered_by n peer bearer f now journal promised h ∙ (λ i. record (discovered_node n peer bearer) { journal = told i; promised = left i })

-- the frames of the event, as they leave
pub discovered_left : (n : NodeState) (peer bearer : ℕ) (f : Found) (said : Header) (box event event' out out' : Out) → f ≡ found_by (has_found n bearer peer) → box ≡ no_frames
    → AddsFirst box event (responses n peer bearer said) → AddsFirst event event' (welcome_frames n.own n.boot f peer bearer n.neighbours)
    → ((made : Made) → Gains no_frames event' made → Adds out out' (made.first ++ made.behind)) → Adds out out' (responses n peer bearer said ++ discovered_frames n peer bearer)
discovered_left n peer bearer f said box event event' out out' is none one two leaves =
    let first = responses n peer bearer said in
    let second = discovered_frames n peer bearer in
    let whole : AddsFirst no_frames event' (first ++ second) =
    subst (λ b. AddsFirst b event' (first ++ second)) none
    (first_more box event event' first second one (subst (AddsFirst event event') (discovered_frames_by n peer bearer f is) two)) in
    subst (Adds out out') (append-nil (first ++ second)) (leaves (made_first (first ++ second)) whole)

-- the arrival as it is told
pub finds_due : (n n' : NodeState) (by : By) (number : ℕ) (d : Due) (out out' : Out) → d.peer < length n.neighbours → n' ≡ recorded (discovered_node n d.peer d.bearer) by (Arrive d.bearer number) [] (answer.Arrived (arrival.Took 0))
    → Adds out out' (responses n d.peer d.bearer d.packet.header ++ discovered_frames n d.peer d.bearer) → FindsDue n n' by number d out out' (arrival.Took 0)
finds_due n n' by number d out out' within after left = λ bytes brings. (
  responses n d.peer d.bearer d.packet.header ++ discovered_frames n d.peer d.bearer,
  record { peer = d.peer; first = d.first; second = d.second; packet = view d.packet; brings = brings; within = within; after = after; frames_are = refl; answer_is = refl },
  left,
)
