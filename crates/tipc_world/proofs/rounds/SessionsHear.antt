-- In a calm world each STATE and each numbered packet that arrives is heard by the session of its link.
use Rattle.std.specs.Prelude.{◌==◌, ◌&&◌, is_some, nat_le}
use Rattle.std.proofs.Common.{◌≡◌, ◌≢◌, ◌∙◌, ℕ, true, None, Some, length, sym, ap, subst, arith}
use Rattle.std.proofs.lemmas.Bool.{and_parts, leb-true}
use Rattle.std.proofs.lemmas.Bool.Decides.{nat_tests}
use Rattle.tipc_types.specs.Address.{node_word}
use Rattle.tipc_header.specs.declared.frames.FrameKind.TheVariants.{Links}
use Rattle.tipc_header.specs.Frames.{kind_in}
use Rattle.tipc_header.specs.Spelling.{Fields}
use Rattle.tipc_broadcast.specs.Casting.{shown}
use Rattle.tipc_link_fsm.specs.Table.{is_session}
use Rattle.tipc_link.specs.Links.{LinkEnd, is_traffic}
use Rattle.tipc_pair.specs.Facing.{facing}
use Rattle.tipc_pair.specs.PairArrivals.{hears as heard_by}
use Rattle.tipc_two_nodes.specs.Sights.{pair_seen}
use Rattle.tipc_node.specs.Ends.{BothStand}
use Rattle.tipc_node.specs.Nodes.{is_other, pair_with, stop_of}
use Rattle.tipc_node.specs.Turns.{IsFrom}
use Rattle.tipc_node.proofs.pairs.Strangers.{kept_abreast, kept_by}
use Rattle.tipc_settling.specs.Goings.{HaveRecords, OpensKnown, up_session}
use Rattle.tipc_settling.specs.Repairs.{NodeHears}
use Rattle.tipc_settling.specs.Stillness.{IsStill}
use Rattle.tipc_settling.proofs.Arrivals.{node_hears}
use Rattle.tipc_settling.proofs.Clear.{nothing_stops}
use Rattle.tipc_settling.proofs.Rows.{peer_known}
use Rattle.tipc_replay.specs.Sound.{IsNumber}
use Rattle.tipc_replay.specs.Views.{sight_at}
use Rattle.tipc_replay.proofs.frames.Reaching.{placed}
use Rattle.tipc_world.specs.CalmWorlds.{IsCalmWorld, IsFromMended}
use Rattle.tipc_world.specs.Ends.{ends_of}
use Rattle.tipc_world.specs.Poised.{IsPoised}
use Rattle.tipc_world.specs.RoundParts.{FrameArrives, IsKept}
use Rattle.tipc_world.specs.States.{WorldState}
use Rattle.tipc_world.specs.StillWorlds.{footing_at}
use Rattle.tipc_world.proofs.rounds.AnyPeer.{arrival_is_calm}
use Rattle.tipc_world.proofs.rounds.CalmEvents.{hears_present}
use Rattle.tipc_world.proofs.rounds.Lasting.{known_records}
use Rattle.tipc_world.proofs.rounds.Openings.{opens_known}
use Rattle.tipc_world.proofs.rounds.StillWorlds.{node_number, sight_is}
use Rattle.tipc_world.proofs.rounds.UpLinks.{UpSide, other_is, up_mended}

-- the epochs of a frame are those of the session
pub in_session : (e : LinkEnd) (es er : ℕ) → e.fsm.peer ≡ Some es → e.fsm.own ≡ er → is_session e.fsm es er ≡ true
in_session e es er peer own =
    let same : (er == e.fsm.own) ≡ true = grind (arith, nat_tests, own) in
    ap (λ t. t && (er == e.fsm.own)) (peer_known e.fsm.peer es peer) ∙ same

-- Nothing stops a link packet of node b that arrives where the link to b is up.
pub clear_here : (start : WorldState) → IsKept start → (old new : WorldState) (a : FrameArrives (ends_of start.air) old new) → IsCalmWorld start old → (b : ℕ) → IsNumber b → a.node ≢ b → (es er : ℕ) (p : Fields) → IsFrom b a.frame.frame es er p → kind_in a.frame.frame ≡ Links
    → UpSide start old a.node b a.bearer a.arrives.before → stop_of a.arrives.before.node a.bearer a.frame.frame ≡ None
clear_here start kept_start old new a g b number apart es er p brings kind_is side =
    let n = a.node in
    let h = a.arrives in
    let t = h.does.turn in
    let kept = g.on.kept kept_start in
    let e = side.link in
    let first = (kept_abreast h.before.node b t.told_before).first in
    let right = kept.nodes.ends n h.before h.was in
    let stand = kept_by (BothStand h.before.node.mended) h.before.node b (λ none. record { near = tt; far = tt }) (right.stand b) in
    let mended = up_mended h.before.node.mended (pair_with h.before.node b) a.bearer e.end first a.on_one stand e.near e.up in
    let size = (kept.nodes.sound.frames a.bearer a.place a.frame (placed old.air n a.bearer a.place a.frame a.found).0).size in
    let both = and_parts (nat_le 16 (length a.frame.frame)) (nat_le (length a.frame.frame) 1516) size in
    let word = (kept.nodes.sound.numbered n h.before h.was).1 in
    nothing_stops h.before.node a.bearer a.frame.frame b es er p brings kind_is mended (leb-true 16 (length a.frame.frame) both.0) (leb-true (length a.frame.frame) 1516 both.1)
    (subst (λ w. is_other w (node_word b) ≡ true) (sym word) (other_is n b number apart)) (ap is_some e.with_it)

-- A packet of node b that arrives where the link to b is up, under the present epochs of both, is heard in the session
-- there.
pub session_hears : (start : WorldState) → IsKept start → IsPoised start → (old new : WorldState) (a : FrameArrives (ends_of start.air) old new) → IsCalmWorld start old → IsFromMended start a.bearer a.frame
    → (b : ℕ) → IsNumber b → a.node ≢ b → (es er : ℕ) (p : Fields) → IsFrom b a.frame.frame es er p → kind_in a.frame.frame ≡ Links → is_traffic p.header ≡ true → es ≡ (footing_at start b a.node).epoch a.bearer → er ≡ (footing_at start a.node b).epoch a.bearer
    → (side : UpSide start old a.node b a.bearer a.arrives.before) → NodeHears a.arrives.after.node a.arrives.frames b a.bearer (length a.arrives.before.arrivals) p side.session
session_hears start kept_start poised old new a g said b number apart es er p brings kind_is traffic es_is er_is side =
    let n = a.node in
    let h = a.arrives in
    let t = h.does.turn in
    let kept = g.on.kept kept_start in
    let own = footing_at start n b in
    let peer = footing_at start b n in
    let e = side.link in
    let free = clear_here start kept_start old new a g b number apart es er p brings kind_is side in
    let calm = arrival_is_calm start kept_start poised old new a g said free in
    let v = sight_at old.members old.air n b in
    let u = sight_at old.members old.air b n in
    let sight = sight_is old n b h.before kept h.was in
    let seen = kept.nodes.sound.pairs n b (node_number old n h.before kept h.was) number apart in
    let still : IsStill own peer (pair_seen v) = subst (IsStill own peer) (sym sight) (g.nodes n h.before h.was b number apart).still in
    let came = hears_present start kept_start poised old new a g said b es er p brings kind_is in
    let records = subst (HaveRecords peer.epoch) sight (known_records v u own peer seen still) in
    let opens = opens_known v u own peer a.bearer es er p (length h.before.arrivals) (shown h.before.node.casting (node_word b)) seen a.on_one still came.shows came.comes in
    node_hears peer.epoch h.before.node h.after.node _ a.bearer (length h.before.arrivals) a.frame.frame h.frames h.does.arrived b es er p e.end side.session h.does.arrives t calm free brings kind_is e.with_it
    (sym (ap up_session e.with_it) ∙ side.in_session) (in_session e.end es er (side.peer ∙ ap Some (sym es_is)) (side.own ∙ sym er_is)) traffic records
    (subst (λ x. OpensKnown peer.epoch (heard_by p.header es er p (length h.before.arrivals) (shown h.before.node.casting (node_word b)) (facing a.bearer x)).course.pair
    (heard_by p.header es er p (length h.before.arrivals) (shown h.before.node.casting (node_word b)) (facing a.bearer x)).outcome) sight opens)
