-- In a calm world the session of each link that is up goes on, whatever happens: of what was numbered, acknowledged,
-- taken and shown in it nothing is taken back.
use Rattle.std.proofs.Common.{◌≡◌, ◌≢◌, ◌≤◌, ◌∙◌, ℕ, zero, suc, List, [], ◌∷◌, Option, Some, None, slice_index_or, refl, sym, ap, subst, arith}
use Rattle.std.specs.Prelude.{map}
use Rattle.tipc_types.specs.declared.link_words.BroadcastState.{BroadcastState}
use Rattle.tipc_types.specs.declared.node_calls.EventNote.{EventNote}
use Rattle.tipc_types.specs.declared.node_calls.EventNote.TheVariants as note
use Rattle.tipc_outside.specs.declared.outgoing.Outgoing.{Outgoing}
use Rattle.tipc_header.specs.declared.frames.FrameKind.TheVariants.{Links}
use Rattle.tipc_header.specs.Frames.{kind_in}
use Rattle.tipc_header.specs.Spelling.{Fields}
use Rattle.tipc_journal.specs.Steps.{NodeStep}
use Rattle.tipc_link.specs.Links.{LinkEnd}
use Rattle.tipc_link.specs.Sessions.{SessionEnd}
use Rattle.tipc_pair.specs.declared.transitions.Transition.{Transition}
use Rattle.tipc_pair.specs.Facing.{PairEnds, facing}
use Rattle.tipc_pair.specs.PairTurns.{Opening, Suits}
use Rattle.tipc_pair.specs.PairTurns.Opening.{cuts, hears, makes, mends, rests, ticks}
use Rattle.tipc_two_nodes.specs.Sights.{AreSeen, Sight, pair_seen}
use Rattle.tipc_two_nodes.proofs.sights.Sights.{ends}
use Rattle.tipc_node.specs.Messages.{bytes_of}
use Rattle.tipc_node.specs.Nodes.{change_entries, pair_with}
use Rattle.tipc_node.specs.Turns.{IsBrought, IsFrom}
use Rattle.tipc_settling.specs.Goings.{BringsKnown, EndGoesOn, EndsGoOn, HaveRecords, up_session}
use Rattle.tipc_settling.specs.Stillness.{Footing, IsStill}
use Rattle.tipc_settling.proofs.SessionsGoing.{end_stays, end_then, turn_goes, up_now}
use Rattle.tipc_replay.specs.Sound.{IsNumber}
use Rattle.tipc_replay.specs.States.{MemberState}
use Rattle.tipc_replay.specs.Views.{sight_at}
use Rattle.tipc_world.specs.CalmWorlds.{IsCalmPair}
use Rattle.tipc_world.specs.RoundParts.{IsKept}
use Rattle.tipc_world.specs.States.{WorldState}
use Rattle.tipc_world.specs.StillWorlds.{footing_at}
use Rattle.tipc_world.proofs.rounds.CalmEvents.{CalmTurn, HearsPresent}
use Rattle.tipc_world.proofs.rounds.Openings.{opens_known, still_end_at}
use Rattle.tipc_world.proofs.rounds.StillWorlds.{node_number, sight_is}
use Rattle.tipc_world.proofs.rounds.UpLinks.{own_record}

-- ---- records

-- the record of a session in which a link is up is of the peer's present epoch
known_record : (v w : Sight) (own peer : Footing) (bearer : ℕ) (o : Option LinkEnd) (s : SessionEnd) → AreSeen v w → IsStill own peer (pair_seen v) → bearer ≤ 1 → v.ends bearer ≡ o → up_session o ≡ Some s → s.record_epoch ≡ peer.epoch bearer
known_record v w own peer bearer None s h still one end is = absurd (let wrong : None ≡ Some s = is in cc)
known_record v w own peer bearer (Some e) s h still one end is =
    let now = up_now e s is in
    let going = (ends v w bearer e h end).going now.0 in
    let same : going.0 ≡ s = (let both : Some going.0 ≡ Some s = sym going.1 ∙ now.1 in cc) in
    let knows = (still_end_at own peer v bearer e one end still).up now.0 in
    let epochs : Some s.peer_epoch ≡ Some (peer.epoch bearer) = sym (going.3 ∙ ap (λ (t : SessionEnd). Some t.peer_epoch) same) ∙ knows in
    own_record v w bearer e s h end now.0 now.1 ∙ cc

pub known_records : (v w : Sight) (own peer : Footing) → AreSeen v w → IsStill own peer (pair_seen v) → HaveRecords peer.epoch (pair_seen v)
known_records v w own peer h still = record {
  two = omega arith;
  near = λ s is. (let same = known_record v w own peer 0 (v.ends 0) s h still (omega arith) refl is in omega (arith, same));
  far = λ s is. (let same = known_record v w own peer 1 (v.ends 1) s h still (omega arith) refl is in omega (arith, same));
}

-- ---- a turn

-- where no packet is heard no tunnel packet is opened
brings_known : (known : ℕ → ℕ) (x : PairEnds) (b : ℕ) (event : EventNote) (bytes : List ℕ) (opening : Opening) → Suits event opening → IsBrought b bytes opening
    → ((bearer number es er : ℕ) (p : Fields) (shown : BroadcastState) → event ≡ note.Arrive bearer number → IsFrom b bytes es er p → kind_in bytes ≡ Links → BringsKnown known x (hears bearer es er p number shown)) → BringsKnown known x opening
brings_known known x b event bytes rests suits brought heard = tt
brings_known known x b event bytes (makes bearer is_mended) suits brought heard = tt
brings_known known x b event bytes (mends bearer) suits brought heard = tt
brings_known known x b event bytes (cuts bearer) suits brought heard = tt
brings_known known x b event bytes (ticks shown) suits brought heard = tt
brings_known known x b event bytes (hears bearer es er p by shown) suits brought heard = heard bearer by es er p shown suits brought.0 brought.1

-- nothing was told
none_told : (b : ℕ) (changes : List Transition) → change_entries b changes ≡ [] → changes ≡ []
none_told b [] none = refl
none_told b (t ∷ ts) none = absurd (let wrong : ⊥ = cc in wrong)

pub turn_lasts : (start old : WorldState) (n b : ℕ) (m m' : MemberState) (bytes : List ℕ) (s : NodeStep) (frames : List Outgoing) → IsKept old → slice_index_or old.members n None ≡ Some m → IsNumber b → n ≢ b
    → IsCalmPair (footing_at start n b) (footing_at start b n) (pair_with m.node b) → CalmTurn start old n b m m' bytes s frames → EndsGoOn (pair_with m.node b) (pair_with m'.node b)
turn_lasts start old n b m m' bytes s frames kept there number apart calm c =
    let own = footing_at start n b in
    let peer = footing_at start b n in
    let v = sight_at old.members old.air n b in
    let w = sight_at old.members old.air b n in
    let sight = sight_is old n b m kept there in
    let seen = kept.nodes.sound.pairs n b (node_number old n m kept there) number apart in
    let still : IsStill own peer (pair_seen v) = subst (IsStill own peer) (sym sight) calm.still in
    let p = c.turn.turns b in
    let brings = brings_known peer.epoch (pair_seen v) b s.event bytes p.opening p.suits p.brought
    (λ bearer place es er q shown is brings kind_is. (let k : HearsPresent start old n b bearer es er q = c.hears bearer place es er q is brings kind_is in opens_known v w own peer bearer es er q place shown seen k.on_one still k.shows k.comes)) in
    let none = none_told b p.turn.first.course.changes (sym p.changes ∙ c.none) in
    let last = turn_goes peer.epoch (pair_with m.node b) (pair_with m'.node b) p.opening (map (bytes_of m.node.own) p.messages) p.reply p.own_frames (subst (HaveRecords peer.epoch) sight (known_records v w own peer seen still)) p.anew
    (subst (λ x. BringsKnown peer.epoch x p.opening) sight brings) p.turn none in
    last.goes

pub same_lasts : (x y : PairEnds) → y ≡ x → EndsGoOn x y
same_lasts x y same = subst (EndsGoOn x) (sym same) (record { near = end_stays x.near; far = end_stays x.far })

-- ---- on a bearer

-- the session on a bearer goes on
pub lasts_on : (x y : PairEnds) (bearer : ℕ) → x.bearer ≡ 0 → y.bearer ≡ 0 → bearer ≤ 1 → EndsGoOn x y → EndGoesOn (facing bearer x).near (facing bearer y).near
unfolding facing
lasts_on x y zero first first' one h = rw (first, first') h.near
lasts_on x y (suc zero) first first' one h = rw (first, first') h.far
lasts_on x y (suc (suc more)) first first' one h = absurd (omega (arith, one))

-- ---- one behind the other

pub ends_then : (x y z : PairEnds) → EndsGoOn x y → EndsGoOn y z → EndsGoOn x z
ends_then x y z h k = record { near = end_then x.near y.near z.near h.near k.near; far = end_then x.far y.far z.far h.far k.far }
