-- A turn leaves each pair for the peer under whose number it stands, and its frames are of the links to that peer.
use Rattle.std.proofs.Common.{◌≡◌, ◌≤◌, ◌<◌, ◌+◌, ◌*◌, ◌^◌, ℕ, List, ◌++◌, Option, None, refl, sym, ◌∙◌, subst, arith}
use Rattle.tipc_types.specs.Address.{node_word}
use Rattle.tipc_outside.specs.declared.outgoing.Outgoing.{Outgoing}
use Rattle.tipc_link.specs.Links.{LinkEnd}
use Rattle.tipc_pair.specs.Courses.{Course}
use Rattle.tipc_pair.specs.Facing.{PairEnds, alone, facing, with_made}
use Rattle.tipc_pair.specs.PairTurns.{Happened, Opening, Outset, PairTurn, PutsOne, Reply, replied}
use Rattle.tipc_journal.specs.Steps.{NodeStep}
use Rattle.tipc_node.specs.Nodes.{NodeState, neighbour_of, pair_with}
use Rattle.tipc_node.proofs.pairs.Strangers.{pair_alone}
use Rattle.tipc_node.specs.Turns.{AreNamed, NodeTurn}
use Rattle.tipc_pair.specs.Addressed.{HasEpochs, IsEndTo, IsEpoch, Names}
use Rattle.tipc_pair.proofs.Facings.{facing_contact}
use Rattle.tipc_pair.proofs.turns.Addressing.{AreFor, IsFor, all_for, for_both, keeps_to}
use Rattle.tipc_pair.proofs.turns.ContactEpochs.{first_epochs, put_epochs, replied_epochs, turn_keeps_epochs}
use Rattle.tipc_pair.proofs.turns.PairKept.{Both, Kept, both_facing, facing_peer, happened_kept, put_kept, replied_kept, turn_kept}

-- a pair is for that node, and these frames are of the links to it
pub record IsNamed (word : ℕ) (x : PairEnds) (frames : List Outgoing) : Type 0 where
  pub pair_is : Names word x
  pub frames_are : AreFor word frames

-- whatever bearer they are on
abbrev ToPeer : ℕ → ℕ → LinkEnd → Type 0
ToPeer word b e = IsEndTo word e

two_bearers : (word : ℕ) (x : PairEnds) → Names word x → x.bearer ≤ 1
two_bearers word x n = (let first = n.first in omega (arith, first))

named_both : (word : ℕ) (x : PairEnds) → Names word x → Both (ToPeer word) x
named_both word x n = record { two = two_bearers word x n; near = n.near; far = n.far }

both_named : (word : ℕ) (x : PairEnds) → x.bearer ≡ 0 → x.peer ≡ word → HasEpochs x → Both (ToPeer word) x → Names word x
both_named word x first peer epochs h = record { first = first; peer = peer; epochs = epochs; near = h.near; far = h.far }

-- what a course leaves is so
by_course : (word : ℕ) (x : PairEnds) (c : Course) → Names word x → HasEpochs c.pair → Kept (ToPeer word) (IsFor word) x c → IsNamed word c.pair (c.states ++ c.numbered)
by_course word x c n epochs k = record {
  pair_is = both_named word c.pair (k.bearer ∙ n.first) (k.peer ∙ n.peer) epochs k.both;
  frames_are = for_both word c.states c.numbered (all_for word c.states k.states) (all_for word c.numbered k.numbered);
}

-- an end that is made is to the peer
made_both : (word : ℕ) (x : PairEnds) → Names word x → (bearer : ℕ) → Both (ToPeer word) (with_made (facing bearer x))
made_both word x n bearer =
    let there = both_facing (ToPeer word) bearer x (named_both word x n) in
    let epoch : IsEpoch (facing bearer x).contact = subst IsEpoch (sym (facing_contact bearer x)) n.epochs.contact in
    record { two = there.two; near = record { peer = facing_peer bearer x ∙ n.peer; epoch = epoch; session = λ s has. absurd cc }; far = there.far }

-- what happens first
pub first_named : (word : ℕ) (x : PairEnds) (opening : Opening) (o : Outset) → Names word x → Happened x opening o → IsNamed word o.course.pair (o.course.states ++ o.course.numbered)
first_named word x opening o n h = by_course word x o.course n (first_epochs x opening o (two_bearers word x n) h n.epochs) (happened_kept (ToPeer word) (IsFor word) (keeps_to word) x opening o (made_both word x n) (named_both word x n) h)

-- the two kinds of frames of it
pub first_frames : (word : ℕ) (x : PairEnds) (opening : Opening) (o : Outset) → Names word x → Happened x opening o → AreFor word o.course.states × AreFor word o.course.numbered
first_frames word x opening o n h =
    let k = happened_kept (ToPeer word) (IsFor word) (keeps_to word) x opening o (made_both word x n) (named_both word x n) h in
    (all_for word o.course.states k.states, all_for word o.course.numbered k.numbered)

-- messages that are put
pub put_named : (word : ℕ) (x : PairEnds) (pieces : List (List ℕ)) (y : PairEnds) (frames : List Outgoing) → Names word x → PutsOne x pieces y frames → IsNamed word y frames
put_named word x pieces y frames n h =
    let k = put_kept (ToPeer word) (IsFor word) (keeps_to word) x pieces y frames h (named_both word x n) in
    let epochs = put_epochs x pieces y frames (two_bearers word x n) h n.epochs in
    record { pair_is = both_named word y (k.bearer ∙ n.first) (k.peer ∙ n.peer) epochs k.both; frames_are = all_for word frames k.numbered }

-- the answer
pub replied_named : (word : ℕ) (reply : Option Reply) (x : PairEnds) → Names word x → IsNamed word (replied reply x).pair (replied reply x).states
replied_named word reply x n =
    let k = replied_kept (ToPeer word) (IsFor word) (keeps_to word) reply x (named_both word x n) in
    let epochs = replied_epochs reply x (two_bearers word x n) n.epochs in
    record { pair_is = both_named word (replied reply x).pair (k.bearer ∙ n.first) (k.peer ∙ n.peer) epochs k.both; frames_are = all_for word (replied reply x).states k.states }

-- a pair is for the peer after a turn of it, and the frames are for the peer
pub turn_for : (word : ℕ) (x y : PairEnds) (opening : Opening) (messages : List (List ℕ)) (reply : Option Reply) (frames : List Outgoing) → Names word x → PairTurn x opening messages reply y frames
    → IsNamed word y frames
turn_for word x y opening messages reply frames n t =
    let k = turn_kept (ToPeer word) (IsFor word) (keeps_to word) x y opening messages reply frames (made_both word x n) (named_both word x n) t in
    let epochs = turn_keeps_epochs x y opening messages reply frames (two_bearers word x n) t n.epochs in
    record { pair_is = both_named word y (k.1 ∙ n.first) (k.2 ∙ n.peer) epochs k.0; frames_are = all_for word frames k.3 }

-- ---- the node

pub turn_named : (n n' : NodeState) (bytes : List ℕ) (s : NodeStep) (frames : List Outgoing) → AreNamed n → NodeTurn n n' bytes s frames → AreNamed n'
turn_named n n' bytes s frames named t b =
    let at = t.turns b in (turn_for (node_word b) (pair_with n b) (pair_with n' b) at.opening _ at.reply at.own_frames (named b) at.turn).pair_is

-- ---- a node that knows nobody

-- a boot number, whose contact numbers are epochs
abbrev pub IsBoot : ℕ → Type 0
IsBoot boot = (1 ≤ boot) × (boot < 2 ^ 32)

-- a stranger's pair is for the peer
alone_named : (own b boot : ℕ) → IsBoot boot → Names (node_word b) (alone own (node_word b) boot)
alone_named own b boot is = record { first = refl; peer = refl; epochs = record { contact = number; near = tt; far = tt }; near = tt; far = tt }
  where
    number : IsEpoch (boot * 4294967296 + 1)
    number = (let first = is.0 in let fits = is.1 in (omega (arith, first), omega (arith, fits)))

pub new_named : (n : NodeState) → IsBoot n.boot → ((peer : ℕ) → neighbour_of n peer ≡ None) → AreNamed n
new_named n boot nobody b = subst (Names (node_word b)) (sym (pair_alone n b (nobody b))) (alone_named n.own b n.boot boot)
