-- What a world tells of one of two nodes after a turn, from what the node did.
use Rattle.std.proofs.Common.{◌≡◌, ◌≤◌, ◌-◌, ◌⊎◌, ◌==◌, if◌then◌else◌, ℕ, zero, suc, true, List, [], ◌++◌, Option, Some, None, length, option_map, refl, sym, ap, ◌∙◌, subst, inl, inr, append-nil, arith}
use Rattle.std.specs.Prelude.{slice_get}
use Rattle.std.proofs.lemmas.Bool.{cases_eq, cases_lt}
use Rattle.tipc_outside.specs.declared.outgoing.Outgoing.{Outgoing}
use Rattle.tipc_link.specs.Links.{LinkEnd}
use Rattle.tipc_link.specs.Sessions.{SessionEnd}
use Rattle.tipc_link.proofs.Directions.{slice_get-append}
use Rattle.tipc_pair.specs.Facing.{PairEnds, facing, in_contact, turned}
use Rattle.tipc_paired.proofs.PairedLaw.{all_paired}
use Rattle.tipc_paired.proofs.wires.Wires.{is_up_of, none_some, same_some}
use Rattle.tipc_paired.specs.Deeds.{DoesAll, MayTell, activates, resets, sends, states}
use Rattle.tipc_paired.specs.Views.{Frame, Node, View, Wire, er_of, es_of}
use Rattle.tipc_two_nodes.proofs.deeds.Chains.{told_behind}
use Rattle.tipc_two_nodes.specs.deeds.PairDeeds.{IsToldSince}
use Rattle.tipc_two_nodes.specs.Sights.{AreSeen, PairBecomes, HasSession, IsSeen, Sight, WasTold, come, pair_seen, sent_as, told_in}
use Rattle.tipc_two_nodes.specs.Talkers.{AreTalking, Talker}
use Rattle.tipc_two_nodes.proofs.sights.Behind.{IsToldAt, AreLastCounted, all_counted, all_same, told_at, told_peer, told_taken}
use Rattle.tipc_two_nodes.proofs.sights.ByContact.{by_contact, else_is, here_is, in_else, in_same, more_in}
use Rattle.tipc_two_nodes.proofs.sights.LastSessions.{IsLastAt, last_epoch}
use Rattle.tipc_two_nodes.proofs.sights.Remaining.{HasEnd, ends_between}
use Rattle.tipc_two_nodes.proofs.sights.ToldIn.{IsIn, told_in_turn, turn_node}
use Rattle.tipc_two_nodes.proofs.sights.TurnParts.{Stepped}
-- ---- the pair of a node
use Rattle.tipc_pair.proofs.PairSends.{second_is as facing_second}

pub facing_first : (x : PairEnds) → x.bearer ≡ 0 → facing 0 x ≡ x
unfolding facing
facing_first x is = ap (λ t. if t then x else turned x) (same x.bearer is) where
  same : (n : ℕ) → n ≡ 0 → (n == 0) ≡ true
  same n is = subst (λ k. (k == 0) ≡ true) (sym is) refl

-- ---- messages

-- what came to the messages of a contact, as the world tells of it
more_seen : (f g f' g' : ℕ → ℕ → List (List ℕ)) (n : Node) (v : Sight) (more : List (List ℕ)) → n ≡ v.node → ((k l : ℕ) → f k l ≡ g k l) → ((k l : ℕ) → f' k l ≡ more_in f n more k l)
    → ((k l : ℕ) → g' k l ≡ g k l ++ come v more k l) → (k l : ℕ) → f' k l ≡ g' k l
more_seen f g f' g' n v more same was is told = by_contact n.contact n.seen (λ k l. f' k l ≡ g' k l)
    (is n.contact n.seen ∙ here_is f n.contact n.seen (f n.contact n.seen ++ more) ∙ ap (λ ms. ms ++ more) (was n.contact n.seen)
    ∙ ap (λ ms. g n.contact n.seen ++ ms) (sym (in_same v.node.contact v.node.seen n.contact n.seen more [] (ap (λ (k : Node). k.contact) same) (ap (λ (k : Node). k.seen) same))) ∙ sym (told n.contact n.seen))
    (λ k l other. is k l ∙ else_is f n.contact n.seen (f n.contact n.seen ++ more) k l other ∙ was k l ∙ sym (append-nil (g k l))
    ∙ ap (λ ms. g k l ++ ms) (sym (in_else v.node.contact v.node.seen k l more [] (λ one two. other (one ∙ ap (λ (m : Node). m.contact) (sym same)) (two ∙ ap (λ (m : Node). m.seen) (sym same)))))
    ∙ sym (told k l))

-- ---- how much was numbered

counted : (x : Talker) (v : Sight) → IsSeen x v → AreLastCounted x.view
counted x v h b e s is has = sym (h.numbered b s.epoch) ∙ h.counts b e s (sym (h.ends b) ∙ is) has

session_of : (o : Option LinkEnd) (k : ℕ) → last_epoch o ≡ Some k → HasSession o k
session_of None k is = absurd (let wrong : ⊥ = cc in wrong)
session_of (Some e) k is = in_end e.session refl where
  in_end : (s : Option SessionEnd) → e.session ≡ s → HasSession (Some e) k
  in_end None none = absurd (let wrong : None ≡ Some k = sym (ap (option_map (λ (s : SessionEnd). s.epoch)) none) ∙ is in let no : ⊥ = cc in no)
  in_end (Some s) has = (let epoch : Some s.epoch ≡ Some k = sym (ap (option_map (λ (s : SessionEnd). s.epoch)) has) ∙ is in let same : s.epoch ≡ k = cc in (e, s, refl, has, same))

-- a link end has a session of an epoch, or it hasn't
has_session : (o : Option LinkEnd) (k : ℕ) → HasSession o k ⊎ (HasSession o k → ⊥)
has_session None k = inr (λ h. none_some h.0 None refl h.2)
has_session (Some e) k = in_end e.session refl where
  in_end : (o : Option SessionEnd) → e.session ≡ o → HasSession (Some e) k ⊎ (HasSession (Some e) k → ⊥)
  in_end None none = inr (λ h. (let same : e ≡ h.0 = same_some e h.0 (Some e) refl h.2 in none_some h.1 e.session none (ap (λ (d : LinkEnd). d.session) same ∙ h.3)))
  in_end (Some s) has = elim (cases_eq s.epoch k) [
    | inl same ↦ inl (e, s, refl, has, same)
    | inr apart ↦ inr (λ h. (
        let same : e ≡ h.0 = same_some e h.0 (Some e) refl h.2 in
        let session : s ≡ h.1 = same_some s h.1 e.session has (ap (λ (d : LinkEnd). d.session) same ∙ h.3) in
        apart (ap (λ (t : SessionEnd). t.epoch) session ∙ h.4)))
  ]

-- ---- frames

pub told_so_far : (x y after : View) (f : Frame) → DoesAll x y after → WasTold x f → WasTold after f
told_so_far x y after f does h =
    let more = told_behind x y after does in
    record {
      place = h.place;
      frame = h.frame;
      there = subst (λ fs. slice_get fs h.place ≡ Some h.frame) (sym more.1) (slice_get-append x.told more.0 h.place h.frame h.there);
      bearer_is = h.bearer_is;
      two_bearers = h.two_bearers;
      bytes = h.bytes;
      numbered = h.numbered;
      peer_numbered = h.peer_numbered;
      contact = h.contact;
    }

-- ---- the frames of a turn

-- the contact of the frames, as the world tells of it
turn_same : (x after : Talker) (v v' : Sight) → IsSeen x v → after.view.node ≡ v'.node → turn_node x after ≡ told_in v v'
turn_same x after v v' h now =
    ap (λ q. if in_contact q then x.view.node else after.view.node) h.pair ∙ ap (λ (n : Node). if in_contact (pair_seen v) then n else after.view.node) h.node ∙ ap (λ (n : Node). if in_contact (pair_seen v) then v.node else n) now

-- the frame was told on a bearer that has an end
told_on : (x y after : Talker) (frames : List Outgoing) (put given : List (List ℕ)) (f : Frame) → Stepped x y after frames put given → IsToldAt x.view y.view after.view f → f.bearer ≤ 1
told_on x y after frames put given f s t =
    let end = ends_between x.view t.mid y.view after.view t.before t.behind s.boot t.bearer (told_end (t.mid.wires t.bearer) t.frame t.may) in
    let bearer : f.bearer ≡ t.bearer = ap (λ (g : Frame). g.bearer) t.is in
    elim (cases_lt 1 t.bearer) [
      | inl more ↦ absurd (none_some end.0 _ (s.talking.here.of.alone t.bearer more) end.1)
      | inr few ↦ omega arith
    ]
  where
    told_end : (w : Wire) (o : Outgoing) → MayTell w o → HasEnd w
    told_end w _ (resets e is unheld) = (e, is)
    told_end w _ (activates e is unheld) = (e, is)
    told_end w _ (states u shown probe on showable) = (let up = is_up_of w u on in (up.0, up.1.end_is))
    told_end w _ (sends u k packet on there) = (let up = is_up_of w u on in (up.0, up.1.end_is))

told_seen : (x y after : Talker) (v v' w : Sight) (frames : List Outgoing) (put given : List (List ℕ)) (o : Outgoing) → AreTalking x y → IsSeen x v → IsSeen y w → Stepped x y after frames put given → after.view.node ≡ v'.node → ((b k : ℕ) → v'.numbered b k ≡ length ((after.view.wires b).line k)) → IsToldSince (length x.view.told) after.view o
    → WasTold after.view (sent_as v v' w o)
told_seen x y after v v' w frames put given o h seen there s node numbers t =
    let f = t.frame in
    let p = h.twins.paired in
    let at = told_at x.view y.view after.view s.does t.place f t.there t.recent in
    let es = es_of o.frame in
    let window = ((all_paired x.view y.view after.view p s.does).here.wires o.bearer).window es in
    let taken : length ((y.view.wires o.bearer).got es) ≤ f.numbered =
    subst (λ c. length ((y.view.wires c).got es) ≤ f.numbered) t.bearer_is (subst (λ bs. length ((y.view.wires f.bearer).got (es_of bs)) ≤ f.numbered) t.bytes (told_taken x.view y.view after.view f p at)) in
    let lines = numbers o.bearer es in
    let peers : w.numbered o.bearer (er_of o.frame) ≡ f.peer_numbered =
    there.numbered o.bearer (er_of o.frame) ∙ ap (λ bs. length ((y.view.wires o.bearer).line (er_of bs))) (sym t.bytes) ∙ ap (λ c. length ((y.view.wires c).line (er_of f.bytes))) (sym t.bearer_is) ∙ sym (told_peer x.view y.view after.view f at) in
    record {
      place = t.place;
      frame = f;
      there = t.there;
      bearer_is = t.bearer_is;
      two_bearers = subst (λ n. n ≤ 1) t.bearer_is (told_on x y after frames put given f s at);
      bytes = t.bytes;
      numbered = omega arith;
      peer_numbered = omega arith;
      contact = λ i j q fits bytes traffic. subst (IsIn f) (turn_same x after v v' seen node) (told_in_turn x y after f i j q h s.talking s.contact at fits bytes traffic);
    }

-- ---- a node after a turn

-- what a turn made of the node, beside what the world tells of it
pub record Turned (x y after : Talker) (v v' w : Sight) (frames : List Outgoing) (put given : List (List ℕ)) : Type 0 where
  pub talking : AreTalking x y
  pub seen : IsSeen x v
  pub there : IsSeen y w
  pub stepped : Stepped x y after frames put given
  pub goes : PairBecomes v v' w after.pair frames put given

node_seen : (x y after : Talker) (v v' w : Sight) (frames : List Outgoing) (put given : List (List ℕ)) → Turned x y after v v' w frames put given → after.view.node ≡ v'.node
node_seen x y after v v' w frames put given t =
    let same = all_same x.view y.view after.view t.stepped.does in
    let of = t.stepped.talking.here.of in
    let own : after.view.node.own ≡ v.node.own = same.own ∙ ap (λ (n : Node). n.own) t.seen.node in
    let peer : after.view.node.peer ≡ v.node.peer = same.peer ∙ ap (λ (n : Node). n.peer) t.seen.node in
    let boot : after.view.node.boot ≡ v.node.boot = t.stepped.boot ∙ ap (λ (n : Node). n.boot) t.seen.node in
    let contact = of.contact in
    let seen = of.seen in
    let is : after.view.node ≡ record { own = v.node.own; peer = v.node.peer; boot = v.node.boot; contact = after.pair.contact; seen = after.pair.seen } =
    λ i. record { own = own i; peer = peer i; boot = boot i; contact = contact i; seen = seen i } in
    is ∙ sym t.goes.node

first_end : (x y after : Talker) (v v' w : Sight) (frames : List Outgoing) (put given : List (List ℕ)) → Turned x y after v v' w frames put given → after.pair.near ≡ v'.ends 0
first_end x y after v v' w frames put given t = ap (λ (q : PairEnds). q.near) (sym (facing_first after.pair t.stepped.talking.here.first)) ∙ sym t.goes.first

second_end : (x y after : Talker) (v v' w : Sight) (frames : List Outgoing) (put given : List (List ℕ)) → Turned x y after v v' w frames put given → after.pair.far ≡ v'.ends 1
second_end x y after v v' w frames put given t = ap (λ (q : PairEnds). q.near) (sym (facing_second after.pair t.stepped.talking.here.first)) ∙ sym t.goes.second

pair_is : (x y after : Talker) (v v' w : Sight) (frames : List Outgoing) (put given : List (List ℕ)) → Turned x y after v v' w frames put given → after.pair ≡ pair_seen v'
pair_is x y after v v' w frames put given t =
    let h = t.stepped.talking.here in
    let node = node_seen x y after v v' w frames put given t in
    let own = sym h.of.own ∙ ap (λ (n : Node). n.own) node in
    let peer = sym h.of.peer ∙ ap (λ (n : Node). n.peer) node in
    let contact = sym h.of.contact ∙ ap (λ (n : Node). n.contact) node in
    let seen = sym h.of.seen ∙ ap (λ (n : Node). n.seen) node in
    let bearer = h.first in
    let near = first_end x y after v v' w frames put given t in
    let far = second_end x y after v v' w frames put given t in
    let begun = sym t.goes.partial_is in
    λ i. record { own = own i; peer = peer i; contact = contact i; seen = seen i; bearer = bearer i; near = near i; far = far i; begun = begun i }

ends_seen : (x y after : Talker) (v v' w : Sight) (frames : List Outgoing) (put given : List (List ℕ)) → Turned x y after v v' w frames put given → (b : ℕ) → (after.view.wires b).end ≡ v'.ends b
ends_seen x y after v v' w frames put given t zero =
    let h = t.stepped.talking.here in
    ap (λ n. (after.view.wires n).end) (sym h.first) ∙ h.of.near ∙ first_end x y after v v' w frames put given t
ends_seen x y after v v' w frames put given t (suc zero) =
    let h = t.stepped.talking.here in
    ap (λ n. (after.view.wires (1 - n)).end) (sym h.first) ∙ h.of.far ∙ second_end x y after v v' w frames put given t
ends_seen x y after v v' w frames put given t (suc (suc b)) = t.stepped.talking.here.of.alone (suc (suc b)) (omega arith) ∙ sym (t.goes.alone (suc (suc b)) (omega arith))

-- the sessions that the ends have then
last_seen : (x y after : Talker) (v v' w : Sight) (frames : List Outgoing) (put given : List (List ℕ)) → Turned x y after v v' w frames put given → (b k : ℕ) → IsLastAt after.pair b k → HasSession (v'.ends b) k
last_seen x y after v v' w frames put given t b k (inl near) =
    let zero_is : b ≡ 0 = near.0 ∙ t.stepped.talking.here.first in
    subst (λ o. HasSession o k) (first_end x y after v v' w frames put given t ∙ ap v'.ends (sym zero_is)) (session_of after.pair.near k near.1)
last_seen x y after v v' w frames put given t b k (inr far) =
    let first = t.stepped.talking.here.first in
    let one_is : b ≡ 1 = far.0 ∙ ap (λ n. 1 - n) first in
    subst (λ o. HasSession o k) (second_end x y after v v' w frames put given t ∙ ap v'.ends (sym one_is)) (session_of after.pair.far k far.1)

numbered_seen : (x y after : Talker) (v v' w : Sight) (frames : List Outgoing) (put given : List (List ℕ)) → Turned x y after v v' w frames put given → (b k : ℕ) → v'.numbered b k ≡ length ((after.view.wires b).line k)
numbered_seen x y after v v' w frames put given t b k = elim (has_session (v'.ends b) k) [
  | inl has ↦
      let counts = all_counted x.view y.view after.view (counted x v t.seen) t.talking.twins.paired t.stepped.does in
      let now = t.goes.numbered_now b has.0 has.1 has.2 has.3 ∙ sym (counts b has.0 has.1 (ends_seen x y after v v' w frames put given t b ∙ has.2) has.3) in
      subst (λ n. v'.numbered b n ≡ length ((after.view.wires b).line n)) has.4 now
  | inr none ↦ elim (t.stepped.line b k) [
    | inl same ↦ t.goes.numbered_else b k none ∙ t.seen.numbered b k ∙ ap (λ (xs : List (List ℕ)). length xs) (sym same)
    | inr last ↦ absurd (none (last_seen x y after v v' w frames put given t b k last))
  ]
]

pub seen_after : (x y after : Talker) (v v' w : Sight) (frames : List Outgoing) (put given : List (List ℕ)) → Turned x y after v v' w frames put given → IsSeen after v'
seen_after x y after v v' w frames put given t =
    let node = node_seen x y after v v' w frames put given t in
    let numbers = numbered_seen x y after v v' w frames put given t in
    let g = t.goes in
    let s = t.stepped in
    record {
      node = node;
      pair = pair_is x y after v v' w frames put given t;
      ends = ends_seen x y after v v' w frames put given t;
      put = more_seen x.put v.put after.put v'.put after.view.node v' put node t.seen.put s.put_is g.put_is;
      given = more_seen x.given v.given after.given v'.given after.view.node v' given node t.seen.given s.given_is g.given_is;
      numbered = numbers;
      counts = g.numbered_now;
      sent = λ k f is. elim (g.sent k f is) [
        | inl was ↦ told_so_far x.view y.view after.view f s.does (t.seen.sent was.0 f was.1)
        | inr new ↦ subst (WasTold after.view) (sym new.3) (told_seen x y after v v' w frames put given new.1 t.talking t.seen t.there s node numbers (s.told new.0 new.1 new.2))
      ];
    }

-- two nodes talk on after a turn, as the world tells of them
unfoldable pub turned_seen : (v v' w : Sight) (pair : PairEnds) (frames : List Outgoing) (put given : List (List ℕ)) → (h : AreSeen v w) → PairBecomes v v' w pair frames put given → (after : Talker) → Stepped h.here h.there after frames put given → after.pair ≡ pair → AreSeen v' w
turned_seen v v' w pair frames put given h g after s is = record {
  here = after;
  there = h.there;
  talking = s.talking;
  seen_here = seen_after h.here h.there after v v' w frames put given (record { talking = h.talking; seen = h.seen_here; there = h.seen_there; stepped = s; goes = subst (λ q. PairBecomes v v' w q frames put given) (sym is) g });
  seen_there = h.seen_there;
}
