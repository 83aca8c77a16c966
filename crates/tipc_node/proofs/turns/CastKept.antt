-- The broadcast link is of the node in its boot, has just the peers in contact, holds no more of them than a window has, and what stands in its
-- lists can be cast: so it stays after each turn of the node.
use Rattle.std.specs.Prelude.{◌/◌, ◌<◌, ◌^◌, filter, fold, if◌then◌else◌, option_map}
use Rattle.std.proofs.Common.{◌≡◌, ◌∙◌, ℕ, Bool, true, false, List, [], ◌∷◌, ◌++◌, Option, None, append-nil, refl, sym, ap, subst}
use Rattle.std.proofs.lemmas.List.Elements.{All-nil, filter-append}
use Rattle.tipc_types.specs.Address.{IsNodeWord, node_word}
use Rattle.tipc_types.specs.declared.link_words.BroadcastState.{BroadcastState}
use Rattle.tipc_outside.specs.declared.outgoing.Outgoing.{Outgoing}
use Rattle.tipc_broadcast.specs.Casting.{Casting, booted}
use Rattle.tipc_broadcast.specs.Deeds.{AreSmall, CastDeed, HasSmallWindow, boot_by, boot_with, is_contact_of, is_deed_with}
use Rattle.tipc_broadcast.specs.Pieces.{AreFramed, IsFramed}
use Rattle.tipc_broadcast.proofs.Deeds.{deeds_boots, deeds_node, deeds_small}
use Rattle.tipc_broadcast.proofs.Framed.{deeds_framed}
use Rattle.tipc_journal.specs.Steps.{NodeStep}
use Rattle.tipc_pair.specs.declared.transitions.Transition.{Transition}
use Rattle.tipc_pair.specs.Facing.{contact_between}
use Rattle.tipc_pair.proofs.turns.TurnMoves.{TurnMoves, turn_moves}
use Rattle.tipc_node.specs.Casting.{contact_deeds, met_boot, state_deeds, stated_by}
use Rattle.tipc_node.specs.Nodes.{NodeState, neighbour_of, pair_with}
use Rattle.tipc_node.specs.Telling.{IsTold}
use Rattle.tipc_node.specs.Turns.{AreCast, HaveJoined, NodeTurn, PeerTurn}
use Rattle.tipc_node.proofs.pairs.Strangers.{kept_abreast, pair_alone}
use Rattle.tipc_node.proofs.work.Casting.{boots_follow, deeds_own, state_apart}

-- ---- a turn

-- a deed by which a peer joins or leaves is one with it
no_contact : (w : ℕ) (d : CastDeed) → is_deed_with w d ≡ false → is_contact_of w d ≡ false
no_contact w (CastDeed.joins peer boot) is = is
no_contact w (CastDeed.leaves peer) is = is
no_contact w other is = refl

contacts_with : (w : ℕ) (ds : List CastDeed) → filter (is_contact_of w) (filter (is_deed_with w) ds) ≡ filter (is_contact_of w) ds
contacts_with w [] = refl
contacts_with w (d ∷ ds) = by (contacts_with w ds) (is_deed_with w d) refl
  where
    by : filter (is_contact_of w) (filter (is_deed_with w) ds) ≡ filter (is_contact_of w) ds → (b : Bool) → is_deed_with w d ≡ b
        → filter (is_contact_of w) (if b then d ∷ filter (is_deed_with w) ds else filter (is_deed_with w) ds) ≡ filter (is_contact_of w) (d ∷ ds)
    by later true is = ap (λ xs. if is_contact_of w d then d ∷ xs else xs) later
    by later false is = later ∙ sym (ap (λ c. if c then d ∷ filter (is_contact_of w) ds else filter (is_contact_of w) ds) (no_contact w d is))

turn_joined : (n n' : NodeState) (bytes : List ℕ) (s : NodeStep) (frames : List Outgoing) → IsTold n → HaveJoined n → NodeTurn n n' bytes s frames → HaveJoined n'
turn_joined n n' bytes s frames told joined t b =
    ap (boot_with (node_word b)) t.casting ∙ deeds_boots (node_word b) t.deeds n.casting
    ∙ ap (fold (boot_by (node_word b)) (boot_with (node_word b) n.casting)) deeds
    ∙ ap (λ o. fold (boot_by (node_word b)) o (contact_deeds b cs)) (joined b)
    ∙ boots_follow b (contact_between (pair_with n b)) cs moves.tells.so
    ∙ ap (λ (z : Option (ℕ × ℕ)). option_map (λ (contact : ℕ × ℕ). contact.1 / 4294967296) z) (sym moves.tells.contact)
  where
    at : PeerTurn n.own bytes s frames b (pair_with n b) (pair_with n' b)
    at = t.turns b

    cs : List Transition
    cs = at.turn.first.course.changes

    moves : TurnMoves (pair_with n b) (pair_with n' b) at.turn.first
    moves = turn_moves (pair_with n b) (pair_with n' b) at.opening _ at.reply at.own_frames (kept_abreast n b told) at.anew at.turn

    stated : Option BroadcastState
    stated = stated_by at.opening at.turn.first.given

    deeds : filter (is_contact_of (node_word b)) t.deeds ≡ contact_deeds b cs
    deeds =
        sym (contacts_with (node_word b) t.deeds) ∙ ap (filter (is_contact_of (node_word b))) (t.casts b).told
        ∙ filter-append (is_contact_of (node_word b)) (contact_deeds b cs) (state_deeds b stated)
        ∙ ap (λ ds. filter (is_contact_of (node_word b)) (contact_deeds b cs) ++ ds) (state_apart b b stated)
        ∙ append-nil (filter (is_contact_of (node_word b)) (contact_deeds b cs)) ∙ deeds_own b cs

pub turn_cast : (n n' : NodeState) (bytes : List ℕ) (s : NodeStep) (frames : List Outgoing) → IsTold n → n.boot < 2 ^ 32 → AreCast n → NodeTurn n n' bytes s frames → AreCast n'
turn_cast n n' bytes s frames told low cast t =
    let of_node = deeds_node t.deeds n.casting in
    record {
      node = subst IsNodeWord (sym t.own) cast.node;
      own = ap (λ (v : Casting). v.own) t.casting ∙ of_node.own ∙ cast.own ∙ sym t.own;
      boot = ap (λ (v : Casting). v.boot) t.casting ∙ of_node.boot ∙ cast.boot ∙ sym t.boot;
      joined = turn_joined n n' bytes s frames told cast.joined t;
      small = subst AreSmall (sym t.casting) (deeds_small t.deeds n.casting cast.small);
      framed = subst AreFramed (sym t.casting) (deeds_framed t.deeds n.casting (subst (λ boot. boot < 2 ^ 32) (sym cast.boot) low) t.lawful cast.framed).after;
    }

-- ---- a node that knows nobody

pub new_cast : (n : NodeState) → IsNodeWord n.own → ((peer : ℕ) → neighbour_of n peer ≡ None) → n.casting ≡ booted n.own n.boot → AreCast n
new_cast n node nobody fresh = record {
  node = node;
  own = ap (λ (v : Casting). v.own) fresh;
  boot = ap (λ (v : Casting). v.boot) fresh;
  joined = λ b. ap (boot_with (node_word b)) fresh ∙ sym (ap met_boot (pair_alone n b (nobody b)));
  small = subst AreSmall (sym fresh) (All-nil HasSmallWindow);
  framed = subst AreFramed (sym fresh) (record { unacked = All-nil (IsFramed n.own n.boot); waiting = All-nil (IsFramed n.own n.boot) });
}
