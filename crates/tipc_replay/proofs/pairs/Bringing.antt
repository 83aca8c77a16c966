-- What a turn gives was put by the peer.
use Rattle.std.proofs.Common.{◌≡◌, ◌+◌, ◌<◌, ◌⊎◌, ℕ, List, [], ◌++◌, Option, Some, None, length, slice_get, slice_index_or, sym, ap, subst, ◌∙◌, length-append, arith}
use Rattle.std.proofs.lemmas.List.{get_or-append-add}
use Rattle.std.proofs.lemmas.Option.{get_or_from_slice_get, slice_get-get_or, slice_get_within}
use Rattle.std.proofs.Math.ListN.{get_or-append}
use Rattle.tipc_types.specs.Address.{node_word}
use Rattle.tipc_types.specs.declared.message_forms.Flow.TheVariants.{Zero}
use Rattle.tipc_outside.specs.declared.outgoing.Outgoing.{Outgoing}
use Rattle.tipc_journal.specs.Steps.{NodeStep}
use Rattle.tipc_reassembly.specs.Slots.{packets_in}
use Rattle.tipc_link.proofs.LinkLaw.{Each}
use Rattle.tipc_pair.specs.Facing.{PairEnds}
use Rattle.tipc_pair.specs.PairTurns.{Happened, Opening, Outset, ShowsIn}
use Rattle.tipc_pair.specs.Messages.{opened_in}
use Rattle.tipc_two_nodes.specs.Sights.{AreSeen, MayHappen, Sight, StaysIn, pair_seen}
use Rattle.tipc_two_nodes.proofs.sights.Sights.{gives}
use Rattle.tipc_node.specs.Nodes.{pair_with}
use Rattle.tipc_node.specs.Turns.{NodeTurn}
use Rattle.tipc_replay.specs.Skies.{AirState}
use Rattle.tipc_replay.specs.Sound.{IsSound}
use Rattle.tipc_replay.specs.States.{MemberState, accepted_at}
use Rattle.tipc_replay.specs.Steps.{Stage}
use Rattle.tipc_replay.specs.Views.{sight_at}
use Rattle.tipc_replay.proofs.frames.Coming.{ComesOut, may_happen}
use Rattle.tipc_replay.proofs.LookUps.{member_at-is}
use Rattle.tipc_replay.proofs.pairs.Standing.{kept_sight}
use Rattle.tipc_replay.proofs.pairs.Turning.{sight_in}
use Rattle.tipc_replay.proofs.streams.TurnStreams.{AreBrought, Brings, IsOfMessage, put_message}

in_middle : {A : Type 0} (xs ys zs : List A) (k : ℕ) (x : A) → slice_get ys k ≡ Some x → slice_get ((xs ++ ys) ++ zs) (length xs + k) ≡ Some x
in_middle xs ys zs k x there =
    let within = slice_get_within ys k x there in
    let front : length xs + k < length (xs ++ ys) = omega (arith, length-append xs ys, within) in
    let whole : length xs + k < length ((xs ++ ys) ++ zs) = omega (arith, length-append (xs ++ ys) zs, front) in
    slice_get-get_or ((xs ++ ys) ++ zs) (length xs + k) x whole
    ∙ ap Some (get_or-append (xs ++ ys) zs x (length xs + k) front ∙ get_or-append-add xs ys k x ∙ get_or_from_slice_get ys k x x there)

-- what happens first at a pair gives packets of messages, where each packet that the peer put is one
opening_brings : (word : ℕ) (v w : Sight) (x : PairEnds) (opening : Opening) (o : Outset) → pair_seen v ≡ x → AreSeen v w → MayHappen v w opening → ShowsIn opening → Happened x opening o
    → ((own theirs : ℕ) → Each (IsOfMessage word) (w.put own theirs)) → Brings word x o
opening_brings word v w x opening o pair h may shows happened known =
    let g = gives v w opening o h may shows (subst (λ y. Happened y opening o) (sym pair) happened) in
    let before = v.given v.node.contact v.node.seen in
    record {
      whole = g.whole;
      known = λ k packet there.
          known v.node.seen v.node.contact (length before + k) packet (subst (λ ps. slice_get ps (length before + k) ≡ Some packet) (sym g.front.1) (in_middle before (packets_in (opened_in o.given)) g.front.0 k packet there));
      contact = subst (λ y. (opened_in o.given ≡ []) ⊎ StaysIn y o.course.pair) pair g.contact;
    }

-- what a node of a sound world put is of a message that it can send
put_known : (members : List (Option MemberState)) (air : AirState) (a b : ℕ) → IsSound members air → (own theirs : ℕ) → Each (IsOfMessage (node_word a)) ((sight_at members air a b).put own theirs)
unfolding sight_at accepted_at
put_known members air a b h own theirs k packet there = put_message (node_word a) (accepted_at members a b own theirs Zero) k packet (λ j m is. (h.accepted a b own theirs Zero j m is).sendable) there

-- in a sound world a node's turn gives the messages of each other node
pub are_brought : (old : Stage) (a : ℕ) (m m' : MemberState) (bytes : List ℕ) (s : NodeStep) (frames : List Outgoing) → IsSound old.members old.air → slice_index_or old.members a None ≡ Some m
    → (t : NodeTurn m.node m'.node bytes s frames) → ComesOut old a s.event bytes → AreBrought a m.node m'.node bytes s frames t
are_brought old a m m' bytes s frames sound there t out b number apart =
    let was = member_at-is old.members a m there in
    let named = sound.numbered a m there in
    let p = t.turns b in
    let v = sight_in old a b in
    let w = sight_in old b a in
    let seen = kept_sight old a b m sound was named.1 in
    opening_brings (node_word b) v w (pair_with m.node b) p.opening p.turn.first seen (sound.pairs a b named.0 number (λ e. apart (sym e)))
    (may_happen v w b s.event bytes (pair_with m.node b) p.opening seen p.anew (λ bearer number es er q. out bearer number b es er q) p.suits p.on_one p.brought) p.shows p.turn.happened (put_known old.members old.air b a sound)
