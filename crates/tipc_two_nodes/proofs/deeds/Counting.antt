-- The record of the far link counts what a tunnel packet brings.
use Rattle.std.proofs.Common.{◌≡◌, ◌<◌, ◌≤◌, ◌==◌, ◌⊎◌, ℕ, true, false, if◌then◌else◌, List, [], Option, Some, None, length, refl, sym, ap, ◌∙◌, subst, inl, inr, append-nil, arith, drop, take}
use Rattle.std.specs.Prelude.{nat_lt}
use Rattle.std.proofs.lemmas.Bool.Decides.{nat_tests}
use Rattle.tipc_types.specs.declared.packet_lists.Taken.{Taken}
use Rattle.tipc_tunnel.specs.Tunnels.{Tunnelled}
use Rattle.tipc_link.specs.Links.{LinkEnd, named_end, record_in, record_of, recorded, tunnelled_end}
use Rattle.tipc_link.specs.Records.{Received, advanced_by, freed, is_next, named, unheard}
use Rattle.tipc_link.specs.Sessions.{receiving_record}
use Rattle.tipc_link.proofs.LinkLaw.{Each-none}
use Rattle.tipc_pair.specs.Courses.{rests}
use Rattle.tipc_pair.specs.Facing.{PairEnds, is_up_at, other, with_far}
use Rattle.tipc_pair.specs.PairArrivals.{inner_at, inside_of}
use Rattle.tipc_paired.proofs.Facts.{begun_named, names_count, same_records, tunnels_count, up_on_record}
use Rattle.tipc_paired.proofs.wires.Wires.{on_put, same_some}
use Rattle.tipc_paired.specs.Deeds.{Counts, DoesDeed, IsBeside, besides, counts, follows, nothing, with_counted}
use Rattle.tipc_paired.specs.Facts.{Names}
use Rattle.tipc_paired.specs.Paired.{ArePaired}
use Rattle.tipc_paired.specs.Views.{Begun, View, Wire, with_wire}
use Rattle.tipc_two_nodes.proofs.deeds.Hearing.{more_taken, none_taken_at}
use Rattle.tipc_two_nodes.proofs.deeds.Pairs.{of_far, other_bearer, takes_as, takes_rest, up_end}
use Rattle.tipc_two_nodes.specs.deeds.Arriving.{IsAtPlace, counted_in, inner_taken_at}
use Rattle.tipc_two_nodes.specs.deeds.PairDeeds.{IsOfPair, IsToldSince, TakesCourse, more_at, none_more}

-- the deed
pub counted_takes : (v y : View) (x : PairEnds) (e : LinkEnd) (r : Received) (more : List (List ℕ)) → IsOfPair v x → Counts v y (other x.bearer) e r more → TakesCourse v y (rests (with_far x (recorded e r))) none_more (more_at (other x.bearer) r.epoch more)
counted_takes v y x e r more pair m =
    let b = other x.bearer in
    let w' = with_counted (v.wires b) e r more in
    let v' = with_wire v b w' in
    let one : DoesDeed v y v' = besides v' (counts b e r more m) in (
      v',
      record {
        did = record {
          does = follows v v' nothing one;
          boot = refl;
          told = Each-none (IsToldSince (length v.told) v');
          line = λ c k. on_put v.wires b w' (λ c (w : Wire). w.line k ≡ (v.wires c).line k) refl (λ c. refl) c ∙ sym (append-nil ((v.wires c).line k));
          got = more_taken v.wires b r.epoch w' more (λ k. refl);
        };
        pair = of_far v x w' (recorded e r) pair refl;
      },
    )

-- a record that stays as it was
stays_takes : (v y : View) (x : PairEnds) (e : LinkEnd) (r : Received) (epoch : ℕ) → IsOfPair v x → x.far ≡ Some e → record_of e ≡ Some r → TakesCourse v y (rests (with_far x (recorded e r))) none_more (more_at (other x.bearer) epoch [])
stays_takes v y x e r epoch pair far is =
    let same : with_far x (recorded e r) ≡ x = ap (with_far x) (same_records e r is) ∙ ap (λ o. record x { far = o }) (sym far) in
    subst (λ q. TakesCourse v y (rests q) none_more (more_at (other x.bearer) epoch [])) (sym same) (takes_as v y (rests x) none_more none_more none_more (more_at (other x.bearer) epoch []) (takes_rest v y x pair) (λ b k. refl) (none_taken_at (other x.bearer) epoch))

-- ---- what is named

named_epoch : (o : Option Received) (epoch : ℕ) → ((old : Received) → o ≡ Some old → old.epoch ≤ epoch) → (named o epoch).epoch ≡ epoch
named_epoch None epoch no_lower = refl
named_epoch (Some r) epoch no_lower = elim (nat_lt r.epoch epoch) as (λ t. nat_lt r.epoch epoch ≡ t → (if t then unheard epoch else r).epoch ≡ epoch) [
  | true ↦ λ _. refl
  | false ↦ λ least. (let low = no_lower r refl in let most : epoch ≤ r.epoch = grind (arith, nat_tests) in omega (arith, low, most))
] refl

-- while the far link is up its session is the one that is named
names : (v y : View) (b epoch : ℕ) (e : LinkEnd) (g : Begun) → ArePaired v y → (v.wires b).end ≡ Some e → (y.wires b).begun epoch ≡ Some g → g.peer_contact ≡ v.node.contact → g.contact ≡ v.node.seen → IsBeside v b → ((old : Received) → record_of e ≡ Some old → old.epoch ≤ epoch) → Names v y b e epoch
names v y b epoch e g h is begun contact seen lasts no_lower = record {
  end_is = is;
  begun = g;
  begun_is = begun;
  contact_is = contact;
  seen_is = seen;
  lasts = lasts;
  no_lower = no_lower;
  up = λ up. (
      let going = (h.here.ends b e is).going up in
      let s = going.0 in
      let on = up_on_record v y b e s h (record { end_is = is; up = up; session_is = going.1 }) in
      let low = no_lower (receiving_record s) (ap (λ o. record_in o e.early) going.1) in
      let named_before = begun_named v y b epoch g h begun contact in
      let same : named_before.end ≡ e = same_some named_before.end e (v.wires b).end named_before.end_is is in
      let high = named_before.known s.peer_epoch (ap (λ (k : LinkEnd). k.fsm.peer) same ∙ going.3) in
      let record_is = on.2 in
      let one : s.peer_epoch ≡ epoch = omega arith in
      going.3 ∙ ap Some one);
}

-- ---- the inner packet

-- its session's record becomes what it becomes
abbrev CountsOn : View → View → PairEnds → LinkEnd → ℕ → Received → List (List ℕ) → Type 0
CountsOn v y x e epoch r more = TakesCourse v y (rests (with_far x (recorded e r))) none_more (more_at (other x.bearer) epoch more)

counts_on : (v y : View) (x : PairEnds) (e : LinkEnd) (epoch : ℕ) (r : Received) (more : List (List ℕ)) → IsOfPair v x → r.epoch ≡ epoch → Counts v y (other x.bearer) e r more → CountsOn v y x e epoch r more
counts_on v y x e epoch r more pair same m = subst (λ n. TakesCourse v y (rests (with_far x (recorded e r))) none_more (more_at (other x.bearer) n more)) same (counted_takes v y x e r more pair m)

-- the near link is beside the far one
beside_far : (v : View) (x : PairEnds) → IsOfPair v x → is_up_at x.near ≡ true → IsBeside v (other x.bearer)
beside_far v x pair up =
    let at = up_end x.near up in
    record { other = x.bearer; elsewhere = λ same. other_bearer x.bearer pair.two_bearers (sym same); end = at.0; end_is = pair.near ∙ at.1; up = at.2 }

-- the record is of an earlier session, or of this one
present_takes : (v y : View) (x : PairEnds) (e : LinkEnd) (t : Tunnelled) (by : ℕ) → ArePaired v y → IsOfPair v x → x.far ≡ Some e → is_up_at x.near ≡ true → IsAtPlace y x t by → ((old : Received) → record_of e ≡ Some old → old.epoch ≤ t.old.epoch)
    → TakesCourse v y (inner_at t by x (Some e)) none_more (inner_taken_at y x t by (Some e))
present_takes v y x e t by h pair far up at no_lower =
    let b = other x.bearer in
    let epoch = t.old.epoch in
    let r = named (record_of e) epoch in
    let u = inside_of t by in
    let line = (y.wires b).line epoch in
    let m = names v y b epoch e at.begun h (pair.far ∙ far) at.begun_is (at.contact_is ∙ sym pair.contact) (at.seen_is ∙ sym pair.seen) (beside_far v x pair up) no_lower in
    let same = named_epoch (record_of e) epoch no_lower in
    let only = counts_on v y x e epoch r [] pair same (names_count v y b e epoch h m) in
    elim (t.count == 0) as (λ k. (t.count == 0) ≡ k → TakesCourse v y (rests (with_far x (if k then named_end e epoch else tunnelled_end e epoch u))) none_more (more_at b epoch (if k then [] else counted_in r epoch u line))) [
      | true ↦ λ _. only
      | false ↦ λ some. elim (is_next r epoch u) as (λ k. is_next r epoch u ≡ k → CountsOn v y x e epoch (if k then advanced_by r u else r) (if k then take (length (freed r u)) (drop r.taken line) else [])) [
        | true ↦ λ next. counts_on v y x e epoch (advanced_by r u) _ pair same (tunnels_count v y b e epoch u r h m refl (at.place e far some next))
        | false ↦ λ _. only
      ] refl
    ] refl

-- it is of a later one, and stays
named_past : (old : Received) (epoch : ℕ) → epoch < old.epoch → named (Some old) epoch ≡ old
named_past old epoch later = (let not_lower : nat_lt old.epoch epoch ≡ false = grind (arith, nat_tests) in rw not_lower refl)

past_next : (old : Received) (epoch : ℕ) (u : Taken) → epoch < old.epoch → is_next old epoch u ≡ false
unfolding is_next
past_next old epoch u later = (let other : (epoch == old.epoch) ≡ false = grind (arith, nat_tests) in rw other refl)

past_takes : (v y : View) (x : PairEnds) (e : LinkEnd) (t : Tunnelled) (by : ℕ) (old : Received) → IsOfPair v x → x.far ≡ Some e → record_of e ≡ Some old → t.old.epoch < old.epoch → TakesCourse v y (inner_at t by x (Some e)) none_more (inner_taken_at y x t by (Some e))
past_takes v y x e t by old pair far is later =
    let b = other x.bearer in
    let epoch = t.old.epoch in
    let u = inside_of t by in
    let line = (y.wires b).line epoch in
    let stays : named (record_of e) epoch ≡ old = ap (λ o. named o epoch) is ∙ named_past old epoch later in
    let not_next : is_next old epoch u ≡ false = past_next old epoch u later in
    let done = stays_takes v y x e old epoch pair far is in
    let P : Received → Type 0 = λ r. TakesCourse v y (rests (with_far x (if t.count == 0 then recorded e r else recorded e (if is_next r epoch u then advanced_by r u else r)))) none_more
    (more_at b epoch (if t.count == 0 then [] else (if is_next r epoch u then take (length (freed r u)) (drop r.taken line) else []))) in
    subst P (sym stays) (
    elim (t.count == 0) as (λ k. TakesCourse v y (rests (with_far x (if k then recorded e old else recorded e (if is_next old epoch u then advanced_by old u else old)))) none_more (more_at b epoch (if k then [] else (if is_next old epoch u then take (length (freed old u)) (drop old.taken line) else [])))) [
      | true ↦ done
      | false ↦ subst (λ k. TakesCourse v y (rests (with_far x (recorded e (if k then advanced_by old u else old)))) none_more (more_at b epoch (if k then take (length (freed old u)) (drop old.taken line) else []))) (sym not_next) done
    ])

record_split : (o : Option Received) (epoch : ℕ) → ((old : Received) → o ≡ Some old → old.epoch ≤ epoch) ⊎ ((old : Received) × (o ≡ Some old) × (epoch < old.epoch))
record_split None epoch = inl (λ old is. absurd (let wrong : ⊥ = cc in wrong))
record_split (Some r) epoch = elim (nat_lt epoch r.epoch) as (λ t. nat_lt epoch r.epoch ≡ t → ((old : Received) → ◌≡◌ {A = Option Received} (Some r) (Some old) → old.epoch ≤ epoch) ⊎ ((old : Received) × (◌≡◌ {A = Option Received} (Some r) (Some old)) × (epoch < old.epoch))) [
  | true ↦ λ less. inr (r, refl, (let later : epoch < r.epoch = grind (arith, nat_tests) in later))
  | false ↦ λ least. inl (λ old is. (let one : r ≡ old = cc in let most : r.epoch ≤ epoch = grind (arith, nat_tests) in subst (λ (k : Received). k.epoch ≤ epoch) one most))
] refl

pub inner_takes : (v y : View) (x : PairEnds) (o : Option LinkEnd) (t : Tunnelled) (by : ℕ) → ArePaired v y → IsOfPair v x → x.far ≡ o → is_up_at x.near ≡ true → IsAtPlace y x t by → TakesCourse v y (inner_at t by x o) none_more (inner_taken_at y x t by o)
inner_takes v y x None t by h pair far up at = takes_rest v y x pair
inner_takes v y x (Some e) t by h pair far up at = elim (record_split (record_of e) t.old.epoch) [
  | inl no_lower ↦ present_takes v y x e t by h pair far up at no_lower
  | inr past ↦ past_takes v y x e t by past.0 pair far past.1 past.2
]
