-- Two nodes talk on as a world tells of them, whatever either does.
use Rattle.std.specs.Prelude.{All, slice_get}
use Rattle.std.proofs.Common.{◌≡◌, ◌≤◌, ◌⊎◌, ℕ, ◌+◌, zero, suc, List, [], ◌++◌, Option, Some, None, refl, sym, ap, ◌∙◌, subst, inl, inr, append-nil, arith}
use Rattle.tipc_types.specs.Prefixes.{IsPrefixOf}
use Rattle.tipc_header.specs.Spelling.{Fields}
use Rattle.tipc_outside.specs.declared.outgoing.Outgoing.{Outgoing}
use Rattle.tipc_fragments.specs.Joining.{fresh}
use Rattle.tipc_reassembly.specs.Slots.{packets_in}
use Rattle.tipc_contact.specs.Sides.{first_number}
use Rattle.tipc_pair.specs.Facing.{PairEnds, alone, facing}
use Rattle.tipc_pair.specs.Messages.{IsMessage, opened_in}
use Rattle.tipc_pair.specs.PairTurns.{Happened, Opening, Outset, PairTurn, Reply, ShowsAtLast, ShowsIn}
use Rattle.tipc_pair.specs.PairTurns.Opening.{cuts, hears, makes, mends, rests, ticks}
use Rattle.tipc_paired.proofs.wires.Wires.{none_some}
use Rattle.tipc_paired.specs.Paired.{IsEnd}
use Rattle.tipc_paired.specs.Views.{Frame, Node, unused}
use Rattle.tipc_two_nodes.specs.deeds.Arriving.{Reaches}
use Rattle.tipc_two_nodes.specs.Sights.{AreSeen, Comes, EndsSeen, FramesSeen, FrontsSeen, GivesSeen, IsNew, IsSeen, MayHappen, RestartsSeen, Sight, StartsSeen, StaysIn, TurnedSeen, TurnsSeen, pair_seen}
use Rattle.tipc_two_nodes.specs.Talkers.{AreTalking, IsNewTalker, Talker, begun_again}
use Rattle.tipc_two_nodes.proofs.sights.ByContact.{here_is}
use Rattle.tipc_two_nodes.proofs.sights.Seeing.{facing_first, turned_seen}
use Rattle.tipc_pair.proofs.PairSends.{second_is as facing_second}
use Rattle.tipc_two_nodes.proofs.calls.TalkerTurns.{new_are_talking, restarts_talk}
use Rattle.tipc_two_nodes.proofs.calls.Talkers.{given_is_front, turned_talk}
use Rattle.tipc_two_nodes.proofs.sights.Turning.{turned_steps}
use Rattle.tipc_two_nodes.proofs.sights.TurnParts.{Stepped, StepsTo}
use Rattle.tipc_two_nodes.proofs.sights.TurnSteps.{MayBegin, Opened, opened}

-- ---- the beginning, and a restart

-- a node that did nothing
new_talker : Sight → Talker
new_talker v = record {
  view = record { node = v.node; wires = λ b. unused; told = [] };
  pair = alone v.node.own v.node.peer v.node.boot;
  put = λ own theirs. [];
  given = λ own theirs. [];
}

-- the pair of a node that keeps nothing of its peer
pub alone_seen : (v : Sight) (boot : ℕ) → v.node.contact ≡ first_number boot → v.node.seen ≡ 0 → ((b : ℕ) → v.ends b ≡ None) → v.partial ≡ fresh → alone v.node.own v.node.peer boot ≡ pair_seen v
alone_seen v boot contact seen ends begun = λ i. record {
  own = v.node.own;
  peer = v.node.peer;
  contact = (sym contact) i;
  seen = (sym seen) i;
  bearer = 0;
  near = (sym (ends 0)) i;
  far = (sym (ends 1)) i;
  begun = (sym begun) i;
}

new_seen : (v : Sight) → IsNew v → IsSeen (new_talker v) v
unfolding new_talker
new_seen v h = record {
  node = refl;
  pair = alone_seen v v.node.boot h.contact h.seen h.ends h.partial;
  ends = λ b. sym (h.ends b);
  put = λ own theirs. sym (h.put own theirs);
  given = λ own theirs. sym (h.given own theirs);
  numbered = λ b epoch. h.numbered b epoch;
  counts = λ b e s is has. absurd (none_some e (v.ends b) (h.ends b) is);
  sent = λ k f is. absurd (let there : slice_get [] k ≡ Some f = subst (λ (fs : List Frame). slice_get fs k ≡ Some f) h.sent is in let wrong : ⊥ = cc in wrong);
}

is_new : (v : Sight) → IsNew v → IsNewTalker (new_talker v)
unfolding new_talker
is_new v h = record {
  view = record { own = h.own; peer = h.peer; boot = h.boot; contact = h.contact; seen = h.seen; wires = λ b. refl; told = refl };
  pair = refl;
  put = λ own theirs. refl;
  given = λ own theirs. refl;
}

pub starts : StartsSeen
starts v w h k = record {
  here = new_talker v;
  there = new_talker w;
  talking = new_are_talking (new_talker v) (new_talker w) (is_new v h) (is_new w k);
  seen_here = new_seen v h;
  seen_there = new_seen w k;
}

unfoldable pub turned : TurnedSeen
turned v w h = record { here = h.there; there = h.here; talking = turned_talk h.here h.there h.talking; seen_here = h.seen_there; seen_there = h.seen_here }

unfoldable pub restarted : RestartsSeen
restarted v v' w h r fits =
    let x = h.here in
    let s = h.seen_here in
    let boot = x.view.node.boot + 1 in
    let same_boot : x.view.node.boot ≡ v.node.boot = ap (λ (n : Node). n.boot) s.node in
    let after = begun_again x boot in
    let node : after.view.node ≡ record { own = v.node.own; peer = v.node.peer; boot = v.node.boot + 1; contact = first_number (v.node.boot + 1); seen = 0 } =
    λ i. record { own = (s.node i).own; peer = (s.node i).peer; boot = (s.node i).boot + 1; contact = first_number ((s.node i).boot + 1); seen = 0 } in
    let now : after.view.node ≡ v'.node = node ∙ sym r.node in
    let numbers = alone_seen v' boot (ap (λ (n : Node). n.contact) (sym now)) (ap (λ (n : Node). n.seen) (sym now)) r.ends r.partial_is in
    let pair : after.pair ≡ pair_seen v' = ap (λ (n : Node). alone n.own n.peer boot) now ∙ numbers in
    record {
      here = after;
      there = h.there;
      talking = restarts_talk x h.there boot h.talking (omega arith) (omega (arith, same_boot, fits));
      seen_here = record {
        node = now;
        pair = pair;
        ends = λ b. sym (r.ends b);
        put = λ own theirs. s.put own theirs ∙ sym (r.put_is own theirs);
        given = λ own theirs. s.given own theirs ∙ sym (r.given_is own theirs);
        numbered = λ b epoch. r.numbered_is b epoch ∙ s.numbered b epoch;
        counts = λ b e t is has. absurd (none_some e (v'.ends b) (r.ends b) is);
        sent = λ k f is. (
            let t = s.sent k f (subst (λ (fs : List Frame). slice_get fs k ≡ Some f) r.sent is) in
            record { place = t.place; frame = t.frame; there = t.there; bearer_is = t.bearer_is; two_bearers = t.two_bearers; bytes = t.bytes; numbered = t.numbered; peer_numbered = t.peer_numbered; contact = t.contact });
      };
      seen_there = h.seen_there;
    }

-- ---- a turn

-- the frame in the air was told
reached : (v w : Sight) (b es er : ℕ) (p : Fields) → (h : AreSeen v w) → Comes v w b es er p → Reaches h.here.view h.there.view b es er p
reached v w b es er p h c =
    let t = h.seen_there.sent c.place c.frame c.there in
    let here = h.seen_here.numbered b er in
    let there = h.seen_there.numbered b es in
    let behind = t.numbered in
    let theirs = t.peer_numbered in
    record {
      place = t.place;
      frame = t.frame;
      there = t.there;
      bearer_is = t.bearer_is ∙ c.bearer_is;
      es_fits = c.es_fits;
      er_fits = c.er_fits;
      fits = c.fits;
      bytes = t.bytes ∙ c.bytes;
      own_fresh = λ traffic. (let fresh = c.own_fresh traffic in omega arith);
      peer_fresh = λ traffic. (let fresh = c.peer_fresh traffic in omega arith);
    }

-- there is no end at the pair where there is none on the bearer
none_there : (x : Talker) (v : Sight) (b : ℕ) → IsSeen x v → b ≤ 1 → v.ends b ≡ None → (facing b x.pair).near ≡ None
none_there x v zero h low none = ap (λ q. (facing 0 q).near) h.pair ∙ (ap (λ (q : PairEnds). q.near) (facing_first (pair_seen v) refl) ∙ none)
none_there x v (suc zero) h low none = ap (λ q. (facing 1 q).near) h.pair ∙ (ap (λ (q : PairEnds). q.near) (facing_second (pair_seen v) refl) ∙ none)
none_there x v (suc (suc b)) h low none = absurd (let wrong : ⊥ = omega arith in wrong)

pub may_begin : (v w : Sight) (opening : Opening) → (h : AreSeen v w) → MayHappen v w opening → MayBegin h.here h.there opening
may_begin v w (makes b is_mended) h may = (may.0, none_there h.here v b h.seen_here may.0 may.1)
may_begin v w (hears b es er p by shown) h may = (may.0, reached v w b es er p h may.1)
may_begin v w rests h may = tt
may_begin v w (mends b) h may = tt
may_begin v w (cuts b) h may = tt
may_begin v w (ticks shown) h may = tt

-- the node after a turn
pub turn_steps : (v w : Sight) (opening : Opening) (messages : List (List ℕ)) (reply : Option Reply) (pair : PairEnds) (frames : List Outgoing) → (h : AreSeen v w) → MayHappen v w opening → ShowsIn opening → ShowsAtLast reply → All (IsMessage v.node.own) messages
    → (t : PairTurn (pair_seen v) opening messages reply pair frames) → StepsTo h.here h.there pair frames messages (packets_in (opened_in t.first.given))
turn_steps v w opening messages reply pair frames h may showable showable' are t =
    let x = h.here in
    let o = t.first in
    let given = packets_in (opened_in o.given) in
    let same = h.seen_here.pair in
    let happened = subst (λ q. Happened q opening o) (sym same) t.happened in
    let are' = subst (λ (n : Node). All (IsMessage n.own) messages) (sym h.seen_here.node) are in
    let steps = turned_steps x h.there opening o messages t.put_frames t.put reply h.talking (may_begin v w opening h may) showable showable' are' happened t.puts in
    (steps.0, subst (λ fs. Stepped x h.there steps.0 fs messages given) (sym t.frames_are) steps.1, steps.2 ∙ sym t.after)

pub turns : TurnsSeen
turns v v' w opening messages reply pair frames h may showable showable' are t g =
    let steps = turn_steps v w opening messages reply pair frames h may showable showable' are t in
    turned_seen v v' w pair frames messages (packets_in (opened_in t.first.given)) h g steps.0 steps.1 steps.2

-- What is given with what was given before it in the contact of the node: nothing is given, or the node was and is in it.
given_before : (x y : Talker) (o : Outset) → AreTalking x y → (p : Opened x y o) → IsPrefixOf (x.given x.view.node.contact x.view.node.seen ++ packets_in (opened_in o.given)) (y.put x.view.node.seen x.view.node.contact)
given_before x y o h p =
    let n = x.view.node in
    let given = packets_in (opened_in o.given) in
    let before = given_is_front y x (turned_talk x y h) n.seen n.contact in
    elim p.contact [
      | inl none ↦ subst (λ ms. IsPrefixOf ms (y.put n.seen n.contact)) (sym (ap (λ ms. x.given n.contact n.seen ++ packets_in ms) none ∙ append-nil (x.given n.contact n.seen))) before
      | inr stays ↦
          let after = p.after in
          let s = p.stepped in
          let of = s.talking.here.of in
          let contact : after.view.node.contact ≡ n.contact = of.contact ∙ (ap (λ (q : PairEnds). q.contact) p.pair_is ∙ (stays.contact ∙ sym h.here.of.contact)) in
          let seen : after.view.node.seen ≡ n.seen = of.seen ∙ (ap (λ (q : PairEnds). q.seen) p.pair_is ∙ (stays.seen ∙ sym h.here.of.seen)) in
          let here = given_is_front y after (turned_talk after y s.talking) in
          let came : after.given after.view.node.contact after.view.node.seen ≡ x.given after.view.node.contact after.view.node.seen ++ given =
          s.given_is after.view.node.contact after.view.node.seen ∙ here_is x.given after.view.node.contact after.view.node.seen (x.given after.view.node.contact after.view.node.seen ++ given) in
          let front : IsPrefixOf (x.given after.view.node.contact after.view.node.seen ++ given) (y.put after.view.node.seen after.view.node.contact) =
          subst (λ ms. IsPrefixOf ms (y.put after.view.node.seen after.view.node.contact)) came (here after.view.node.seen after.view.node.contact) in
          subst (λ i. IsPrefixOf (x.given i n.seen ++ given) (y.put n.seen i)) contact (subst (λ j. IsPrefixOf (x.given after.view.node.contact j ++ given) (y.put j after.view.node.contact)) seen front)
    ]

pub gives : GivesSeen
gives v w opening o h may showable is =
    let x = h.here in
    let n = x.view.node in
    let given = packets_in (opened_in o.given) in
    let same = h.seen_here.pair in
    let p = opened x h.there opening o h.talking (may_begin v w opening h may) showable (subst (λ q. Happened q opening o) (sym same) is) in
    let front = given_before x h.there o h.talking p in
    let seen : IsPrefixOf (v.given n.contact n.seen ++ given) (w.put n.seen n.contact) =
    subst (λ ms. IsPrefixOf (ms ++ given) (w.put n.seen n.contact)) (h.seen_here.given n.contact n.seen) (subst (IsPrefixOf (x.given n.contact n.seen ++ given)) (h.seen_there.put n.seen n.contact) front) in
    record {
      whole = p.whole;
      front = subst (λ (k : Node). IsPrefixOf (v.given k.contact k.seen ++ given) (w.put k.seen k.contact)) h.seen_here.node seen;
      contact = subst (λ q. (opened_in o.given ≡ []) ⊎ StaysIn q o.course.pair) same p.contact;
    }

-- ---- what holds of both

pub front : FrontsSeen
front v w h own theirs = subst (IsPrefixOf (v.given own theirs)) (h.seen_there.put theirs own)
    (subst (λ ms. IsPrefixOf ms (h.there.put theirs own)) (h.seen_here.given own theirs) (given_is_front h.there h.here (turned_talk h.here h.there h.talking) theirs own))

pub ends : EndsSeen
ends v w b e h is = subst (λ n. IsEnd n b e) h.seen_here.node (h.talking.twins.paired.here.ends b e (h.seen_here.ends b ∙ is))

pub frames : FramesSeen
frames v w k f h there =
    let t = h.seen_here.sent k f there in
    let is = h.talking.twins.paired.here.frames t.place t.frame t.there in
    record {
      es = is.es;
      er = is.er;
      es_fits = is.es_fits;
      er_fits = is.er_fits;
      packet = is.packet;
      fits = is.fits;
      bytes = sym t.bytes ∙ is.bytes;
      previous = is.previous ∙ ap (λ (n : Node). n.own) h.seen_here.node;
    }
