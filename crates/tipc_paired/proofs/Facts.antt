-- What follows for two nodes that are paired.
use Rattle.std.proofs.Common.{◌≡◌, ◌==◌, ◌<◌, ◌≤◌, ◌+◌, ℕ, true, false, if◌then◌else◌, nat_lt, List, [], ◌++◌, Option, Some, None, option_map, length, take, drop, refl, sym, ap, ◌∙◌, subst, append-nil, length-append, length-drop, length-take, arith}
use Rattle.std.proofs.lemmas.Bool.{true≢false}
use Rattle.std.proofs.lemmas.Bool.Decides.{nat_tests}
use Rattle.tipc_types.specs.Prefixes.{IsPrefixOf}
use Rattle.tipc_contact.specs.Sides.{boot_of}
use Rattle.tipc_send_window.specs.Sending.{acked_of}
use Rattle.tipc_link.specs.Direction.{IsReceiver}
use Rattle.tipc_link.specs.Links.{LinkEnd, after, early_with, record_in, record_of}
use Rattle.tipc_link.specs.Records.{Early, Received, advanced_by, early_of, early_record, freed, named, unheard}
use Rattle.tipc_link.specs.Sessions.{SessionEnd, receiving_record, after_acknowledgement, with_record}
use Rattle.tipc_link.proofs.Directions.{holds_none, releases as direction_releases}
use Rattle.tipc_link.proofs.Outliving.{frees}
use Rattle.tipc_link_fsm.specs.Runs.{outcome}
use Rattle.tipc_paired.proofs.sessions.BesideDeeds.{begun_boot, named_began}
use Rattle.tipc_paired.proofs.sessions.RiseDeeds.{Went, peer_under, went}
use Rattle.tipc_paired.proofs.sessions.SessionDeeds.{hears_session}
use Rattle.tipc_paired.proofs.sessions.SessionPackets.{more_front}
use Rattle.tipc_paired.proofs.wires.Wires.{map_at, same_some, session_of_up}
use Rattle.tipc_paired.specs.Deeds.{Counts}
use Rattle.tipc_paired.specs.Facts.{BegunWasNamed, HeardWasTaken, IsOfPeer, Names, NamesCount, RisesAreOfPeer, SameRecordsStay, TunnelsCount, UpIsOnRecord}
use Rattle.tipc_paired.specs.Paired.{ArePaired, IsReached, long_ago, on_record, untaken}
use Rattle.tipc_paired.specs.Views.{Begun, View, fsm_in, notice_of}

-- ---- what an acknowledgement names

pub heard_taken : HeardWasTaken
heard_taken x y b e s p h up a =
    let g = (h.here.wires b).going s (session_of_up (x.wires b) e s up) in
    let o = hears_session x y b e s p h up a in
    let count = g.sends.count in
    let fresh = a.own_fresh in
    let near = o.told_recent in
    let d = direction_releases s.sending (length ((y.wires b).got s.epoch)) ((x.wires b).line s.epoch) o.told g.sends o.told_taken (omega arith) in
    subst (λ n. acked_of (after_acknowledgement s n).sending ≤ length ((y.wires b).got s.epoch)) (sym o.told_is) d.acked_taken

-- ---- under which epochs a link goes up

went_of_peer : (x y : View) (b : ℕ) (e e' : LinkEnd) (es : ℕ) → ArePaired x y → Went x y b e e' es → IsOfPeer x y b es
went_of_peer x y b e e' es h m =
    let t = m.shown in
    let es_is = t.es_is in
    let there = map_at notice_of y.told t.place t.frame t.there in
    let past : (d : LinkEnd) → (y.wires b).end ≡ Some d → es ≤ d.fsm.own = λ d is. (
    let few = h.peers.b_speaks.past t.place (notice_of t.frame) d.fsm there (ap (λ c. fsm_in (y.wires c).end) t.bearer_is ∙ ap fsm_in is) in
    omega arith) in
    record {
      told = peer_under x y b e e' es m;
      no_higher = past;
      lower = λ d is held. (
          let most = past d is in
          let other : es ≡ d.fsm.own → ⊥ = λ same. true≢false (sym held ∙ (h.there.epochs b).unheld t.place t.frame d t.there t.bearer_is is (es_is ∙ same)) in
          omega arith);
      before = λ none. (
          let few = h.peers.b_speaks.before t.place (notice_of t.frame) there (ap (λ c. fsm_in (y.wires c).end) t.bearer_is ∙ ap fsm_in none) in
          omega arith);
      on_record = λ d r is has. (
          let one : d ≡ e = same_some d e _ is m.end_is in
          let few = (h.here.records b).below e r m.end_is (ap record_of (sym one) ∙ has) in
          let low = m.no_lower in
          omega arith);
    }

pub rises_of_peer : RisesAreOfPeer
rises_of_peer x y b e call h is may up =
    let m = went x y b e call h is may up in
    (m.0, m.1.peer_is, went_of_peer x y b e (after e (outcome e.fsm call)) m.0 h m.1)

pub up_on_record : UpIsOnRecord
up_on_record x y b e s h up =
    let going = (h.here.ends b e up.end_is).going up.up in
    let same : going.0 ≡ s = same_some going.0 s e.session going.1 up.session_is in
    let g = (h.here.wires b).going s (session_of_up (x.wires b) e s up) in
    (ap (λ (t : SessionEnd). t.epoch) (sym same) ∙ going.2, going.3 ∙ ap (λ (t : SessionEnd). Some t.peer_epoch) same, g.record_is)

pub begun_named : BegunWasNamed
begun_named x y b epoch g h is contact =
    let n = named_began x y b epoch g h is contact in
    let low = n.highest in
    record {
      end = n.end;
      end_is = n.end_is;
      highest = n.highest;
      known = λ peer knows. (let same = ((h.here.ends b n.end n.end_is).peer_fits peer knows).1 in omega arith);
    }

-- ---- a receiving record counts

-- the record of the session that is named, against what was taken of it
record IsNow (x y : View) (b epoch : ℕ) (r : Received) : Type 0 where
  epoch_is : r.epoch ≡ epoch
  takes : length ((x.wires b).got epoch) ≡ r.taken
  holds : IsReceiver r.held r.taken ((y.wires b).line epoch)
  shown : r.shown ≤ length ((y.wires b).line epoch) + 1

new_now : (x y : View) (b epoch : ℕ) → (x.wires b).got epoch ≡ [] → IsNow x y b epoch (unheard epoch)
new_now x y b epoch none = record { epoch_is = refl; takes = ap (λ (xs : List (List ℕ)). length xs) none; holds = holds_none _; shown = omega arith }

-- no record is of it, nor of a later one: nothing was taken of it
none_of : (x y : View) (b : ℕ) (e : LinkEnd) (epoch : ℕ) → ArePaired x y → Names x y b e epoch → ((r : Received) → record_of e ≡ Some r → r.epoch < epoch) → (x.wires b).got epoch ≡ []
none_of x y b e epoch h m before = of ((h.here.records b).reached epoch) where
  of : IsReached x.node.boot (x.wires b) (y.wires b) epoch → (x.wires b).got epoch ≡ []
  of (untaken none) = none
  of (on_record d r is has low) =
      let one : d ≡ e = same_some d e _ is m.end_is in
      let below = before r (ap record_of (sym one) ∙ has) in
      absurd (let wrong : ⊥ = omega arith in wrong)
  of (long_ago k is old) =
      let one = same_some k m.begun _ is m.begun_is in
      let boot = begun_boot x y b epoch m.begun h m.begun_is m.contact_is in
      let same : boot_of k.peer_epoch ≡ boot_of m.begun.peer_epoch = ap (λ (g : Begun). boot_of g.peer_epoch) one in
      absurd (let wrong : ⊥ = omega arith in wrong)

named_now : (x y : View) (b : ℕ) (e : LinkEnd) (epoch : ℕ) → ArePaired x y → Names x y b e epoch → IsNow x y b epoch (named (record_of e) epoch)
named_now x y b e epoch h m = of (record_of e) refl where
  of : (o : Option Received) → record_of e ≡ o → IsNow x y b epoch (named o epoch)
  of None is = new_now x y b epoch (none_of x y b e epoch h m (λ r has. absurd (let wrong : ⊥ = cc in wrong)))
  of (Some r) is = elim (nat_lt r.epoch epoch) as (λ t. nat_lt r.epoch epoch ≡ t → IsNow x y b epoch (if t then unheard epoch else r)) [
    | true ↦ λ below.
        let less : r.epoch < epoch = grind (arith, nat_tests) in
        new_now x y b epoch (none_of x y b e epoch h m (λ o has. (let one : r ≡ o = same_some r o _ is has in subst (λ (k : Received). k.epoch < epoch) one less)))
    | false ↦ λ least.
        let low = m.no_lower r is in
        let most : epoch ≤ r.epoch = grind (arith, nat_tests) in
        let same : r.epoch ≡ epoch = omega arith in
        let k = (h.here.wires b).kept e r m.end_is is in
        record {
          epoch_is = same;
          takes = ap (λ n. length ((x.wires b).got n)) (sym same) ∙ k.takes;
          holds = subst (λ n. IsReceiver r.held r.taken ((y.wires b).line n)) same k.holds;
          shown = subst (λ n. r.shown ≤ length ((y.wires b).line n) + 1) same k.shown;
        }
  ] refl

counts_of : (x y : View) (b : ℕ) (e : LinkEnd) (epoch : ℕ) (r : Received) (more : List (List ℕ)) → Names x y b e epoch → r.epoch ≡ epoch → IsPrefixOf ((x.wires b).got epoch ++ more) ((y.wires b).line epoch)
    → length ((x.wires b).got epoch ++ more) ≡ r.taken → IsReceiver r.held r.taken ((y.wires b).line epoch) → r.shown ≤ length ((y.wires b).line epoch) + 1
    → Counts x y b e r more
counts_of x y b e epoch r more m same next takes holds shown = record {
  end_is = m.end_is;
  begun = m.begun;
  begun_is = ap (y.wires b).begun same ∙ m.begun_is;
  contact_is = m.contact_is;
  seen_is = m.seen_is;
  lasts = m.lasts;
  no_lower = λ old has. (let low = m.no_lower old has in omega arith);
  up = λ up. m.up up ∙ ap Some (sym same);
  next = subst (λ n. IsPrefixOf ((x.wires b).got n ++ more) ((y.wires b).line n)) (sym same) next;
  takes = ap (λ n. length ((x.wires b).got n ++ more)) same ∙ takes;
  holds = subst (λ n. IsReceiver r.held r.taken ((y.wires b).line n)) (sym same) holds;
  shown = subst (λ n. r.shown ≤ length ((y.wires b).line n) + 1) (sym same) shown;
}

pub names_count : NamesCount
names_count x y b e epoch h m =
    let r = named (record_of e) epoch in
    let k = named_now x y b e epoch h m in
    let got = (x.wires b).got epoch in
    let all = sym (append-nil got) in
    counts_of x y b e epoch r [] m k.epoch_is (subst (λ xs. IsPrefixOf xs ((y.wires b).line epoch)) all ((h.here.wires b).prefix epoch)) (ap (λ (xs : List (List ℕ)). length xs) (append-nil got) ∙ k.takes) k.holds k.shown

pub tunnels_count : TunnelsCount
tunnels_count x y b e epoch t r h m is more =
    let k = subst (IsNow x y b epoch) is (named_now x y b e epoch h m) in
    let got = (x.wires b).got epoch in
    let line = (y.wires b).line epoch in
    let f = frees r line t k.holds more in
    let n = length (freed r t) in
    let part = take n (drop r.taken line) in
    let within : r.taken + n ≤ length line = f.within in
    let long : length part ≡ n = omega (arith, length-take n (drop r.taken line), length-drop r.taken line, within) in
    let takes = k.takes in
    let front : take (length part) (drop (length got) line) ≡ part = ap (λ i. take i (drop (length got) line)) long ∙ ap (λ i. take n (drop i line)) takes in
    let together = length-append got part in
    counts_of x y b e epoch (advanced_by r t) part m k.epoch_is (more_front got part line ((h.here.wires b).prefix epoch) front) (let sum : length (got ++ part) ≡ r.taken + n = omega arith in sum) f.receiver k.shown

-- ---- a record that stays as it was

with_same : (s : SessionEnd) (r : Received) → receiving_record s ≡ r → with_record s r ≡ s
with_same s r same = subst (λ (k : Received). with_record s k ≡ s) same (let own : (s.record_epoch == s.record_epoch) ≡ true = grind (arith, nat_tests) in rw own refl)

session_same : (o : Option SessionEnd) (early : Option Early) (r : Received) → record_in o early ≡ Some r → option_map (λ s. with_record s r) o ≡ o
session_same None early r is = refl
session_same (Some s) early r is = (let same : receiving_record s ≡ r = cc in ap Some (with_same s r same))

early_same : (o : Option SessionEnd) (early : Option Early) (r : Received) → record_in o early ≡ Some r → early_with o early r ≡ early
early_same (Some s) early r is = refl
early_same None None r is = absurd (let wrong : ⊥ = cc in wrong)
early_same None (Some a) r is = (let same : early_record a ≡ r = cc in ap Some (subst (λ (k : Received). early_of k ≡ a) same refl))

pub same_records : SameRecordsStay
same_records e r is =
    let session = session_same e.session e.early r is in
    let early = early_same e.session e.early r is in
    λ i. record e { session = session i; early = early i }
