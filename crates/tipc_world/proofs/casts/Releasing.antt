-- Four rounds of a poised world release a broadcast packet that has its number: round by round.
use Rattle.std.specs.Prelude.{◌-◌, All, cond}
use Rattle.std.proofs.Common.{◌≡◌, ◌≤◌, ◌<◌, ◌⊎◌, ◌+◌, ◌*◌, ◌∙◌, ℕ, zero, suc, Bool, true, false, List, [], ◌∷◌, None, Ok, Some, length, slice_index_or, eq-eqb, inl, inr, refl, sym, ap, subst, arith}
use Rattle.std.proofs.lemmas.Bool.{cases_lt}
use Rattle.std.proofs.lemmas.Bool.Decides.{nat_tests}
use Rattle.std.proofs.lemmas.List.Elements.{All-cons, All-nil}
use Rattle.tipc_types.specs.Limits.{window_size}
use Rattle.tipc_send_window.specs.Sending.{acked_of}
use Rattle.tipc_broadcast.specs.declared.contacts.Contact.{Contact}
use Rattle.tipc_broadcast.specs.Casting.{Casting, accepted}
use Rattle.tipc_broadcast.specs.Contacts.{IsContact, contact_with, is_with}
use Rattle.tipc_replay.specs.CastLinks.{AreWithOthers}
use Rattle.tipc_replay.specs.States.{MemberState}
use Rattle.tipc_world.specs.declared.places.Places.{Places}
use Rattle.tipc_world.specs.CastRows.{CastIsOnItsWay, CastWindowsAreReleased, CastsAs, FourRoundsReleaseCasts, HasAcknowledged, HasTakenCast, IsCastAwaited, IsCastKnown, IsCastReleased, ReleasedByAll, MemberIs, RoundCasts}
use Rattle.tipc_world.specs.HeardWorlds.{BeginsRound}
use Rattle.tipc_world.specs.Poised.{IsPoised}
use Rattle.tipc_world.specs.RoundParts.{IsKept, IsRound, MoreRounds}
use Rattle.tipc_world.specs.Rows.{WasUp}
use Rattle.tipc_world.specs.Settling.{Round, Rounds}
use Rattle.tipc_world.specs.States.{WorldState}
use Rattle.tipc_world.proofs.casts.Going.{KeepsLink, good_casting, good_link}
use Rattle.tipc_world.proofs.casts.Joined.{IsPeerOf, peer_after}
use Rattle.tipc_world.proofs.casts.Law.{contact_right}
use Rattle.tipc_world.proofs.casts.Repeating.{row_asked}
use Rattle.tipc_world.proofs.casts.Rows.{back, row_acknowledged, row_shown, tells_there}
use Rattle.tipc_world.proofs.casts.Standing.{awaited_on, casts_on, known_on, member_on, released_on, taken_on}
use Rattle.tipc_world.proofs.casts.Taking.{row_taken}
use Rattle.tipc_world.proofs.rounds.HeardWorlds.{call_stays_calm}
use Rattle.tipc_world.proofs.rounds.Releasing.{begins_there, calm_round, more_keep, rounds_join}
use Rattle.tipc_world.proofs.rounds.RoundParts.{round_parts}
use Rattle.tipc_world.proofs.rounds.TickStates.{CalmRound, round_going}
use Rattle.tipc_world.proofs.rounds.Windows.{more_whole, parts_behind}

-- ---- one round

pub round_casts : (start : WorldState) (places : Places) (outset : WorldState) (ends : Places) (now : WorldState) (a b bearer position : ℕ) → IsRound places outset ends now → BeginsRound start places outset now → WasUp start a b bearer → RoundCasts places outset ends now a b bearer position
round_casts start places outset ends now a b bearer position r begins u =
    let k = calm_round start places outset ends now r begins in
    let goes = round_going start places outset ends now r k in
    record {
      shows = row_shown k u position;
      asks = row_asked k u position;
      takes = row_taken k u position;
      acknowledges = λ due taken. row_acknowledged k u position due taken (tells_there k (back k u) taken.member taken.member_is);
      known = member_on start outset now (IsCastKnown position) a b bearer (known_on position) u goes;
      taken = member_on start outset now (HasTakenCast position) a b bearer (taken_on position) u goes;
      released = casts_on start outset now (IsCastReleased position) a (released_on position) goes;
      awaited = casts_on start outset now (IsCastAwaited position) a (awaited_on position) goes;
    }

-- ---- all that are in contact acknowledged it

-- each contact is the one with its peer
each_contact : (cs : List Contact) (P : Contact → Type 0) → AreWithOthers cs → ((c : Contact) → contact_with c.peer.word cs ≡ Some c → P c) → All P cs
each_contact [] P others each = All-nil P
each_contact (c ∷ cs) P others each = All-cons P c cs (each c first) (each_contact cs P others.1 (λ d is. each d (later d is)))
  where
    itself : (d : Contact) → is_with d.peer.word d ≡ true
    itself d = eq-eqb d.peer.word d.peer.word refl

    first : contact_with c.peer.word (c ∷ cs) ≡ Some c
    first = ap (λ t. cond t (Some c) (contact_with c.peer.word cs)) (itself c)

    later : (d : Contact) → contact_with d.peer.word cs ≡ Some d → contact_with d.peer.word (c ∷ cs) ≡ Some d
    later d is = by (is_with d.peer.word c) refl
      where
        by : (t : Bool) → is_with d.peer.word c ≡ t → contact_with d.peer.word (c ∷ cs) ≡ Some d
        by false other = ap (λ t. cond t (Some c) (contact_with d.peer.word cs)) other ∙ is
        by true same_one =
            let same : c.peer.word ≡ d.peer.word = grind (arith, nat_tests, same_one) in
            absurd (let wrong : None ≡ Some d = sym (ap (λ k. contact_with k cs) (sym same) ∙ others.0) ∙ is in cc)

module _ {start : WorldState} {places : Places} {outset : WorldState} {ends : Places} {now : WorldState} {r : IsRound places outset ends now} (k : CalmRound start places outset ends now r) {a : ℕ} where
  -- the last round: it is released
  released_last : (position : ℕ) → CastsAs outset (IsCastAwaited position) a → ((b bearer : ℕ) → WasUp start a b bearer → MemberIs outset (HasTakenCast position) a b) → CastsAs now (IsCastReleased position) a
  released_last position due taken =
      let goes = round_going start places outset ends now r k in
      let now_due = casts_on start outset now (IsCastAwaited position) a (awaited_on position) goes due in
      (now_due.0, now_due.1, released now_due.0 now_due.1 now_due.2)
    where
      acknowledges : (b bearer : ℕ) → WasUp start a b bearer → CastsAs now (HasAcknowledged position b) a × CastsAs now (ReleasedByAll position) a
      acknowledges b bearer u = (let t = taken b bearer u in row_acknowledged k u position due t (tells_there k (back k u) t.member t.member_is))

      acked_by : (m : MemberState) → slice_index_or now.members a None ≡ Some m → (c : Contact) → contact_with c.peer.word m.node.casting.contacts ≡ Some c → (p : IsPeerOf start a c.peer.word) → position ≤ c.acked
      acked_by m there c is p =
          let h = (acknowledges p.peer p.bearer p.up).0 in
          let same : h.0 ≡ m = (let both : Some h.0 ≡ Some m = sym h.1 ∙ there in cc) in
          let found : contact_with c.peer.word m.node.casting.contacts ≡ Some h.2.contact = ap (λ (y : MemberState). contact_with c.peer.word y.node.casting.contacts) (sym same) ∙ (ap (λ word. contact_with word h.0.node.casting.contacts) (sym p.word_is) ∙ h.2.there) in
          let one : h.2.contact ≡ c = (let both : Some h.2.contact ≡ Some c = sym found ∙ is in cc) in
          subst (λ (d : Contact). position ≤ d.acked) one h.2.acked

      released : (m : MemberState) → slice_index_or now.members a None ≡ Some m → IsCastAwaited position m.node.casting → IsCastReleased position m.node.casting
      released m there awaited = by m.node.casting.contacts refl
        where
          kept : IsKept now
          kept = (round_going start places outset ends now r k).calm.on.kept k.kept

          nodes : All (IsContact (acked_of m.node.casting.sending) (accepted m.node.casting.sending)) m.node.casting.contacts
          nodes = good_casting now a m kept there

          peer_of : (c : Contact) → contact_with c.peer.word m.node.casting.contacts ≡ Some c → IsPeerOf start a c.peer.word
          peer_of c is = peer_after k due.0 due.1 m there c.peer.word c (contact_right c.peer.word m.node.casting.contacts (IsContact (acked_of m.node.casting.sending) (accepted m.node.casting.sending)) nodes c is).node is

          by : (cs : List Contact) → m.node.casting.contacts ≡ cs → IsCastReleased position m.node.casting
          by [] none =
              let alone = ((kept.nodes.cast_links a m there).alone none).0 in
              let nothing = ap (λ (us : List (List ℕ)). length us) alone in
              let numbered = awaited.numbered in
              omega (arith, nothing, numbered)
          by (c ∷ cs) some =
              let others : AreWithOthers (c ∷ cs) = subst AreWithOthers some (kept.nodes.cast_links a m there).others in
              let first : contact_with c.peer.word m.node.casting.contacts ≡ Some c = ap (contact_with c.peer.word) some ∙ ap (λ t. cond t (Some c) (contact_with c.peer.word cs)) (eq-eqb c.peer.word c.peer.word refl) in
              let p = peer_of c first in
              let settled = (acknowledges p.peer p.bearer p.up).1 in
              let same : settled.0 ≡ m = (let both : Some settled.0 ≡ Some m = sym settled.1 ∙ there in cc) in
              let settles : ReleasedByAll position m.node.casting = subst (λ (y : MemberState). ReleasedByAll position y.node.casting) same settled.2 in
              settles.settles (each_contact m.node.casting.contacts (λ d. position ≤ d.acked) (kept.nodes.cast_links a m there).others (λ d is. acked_by m there d is (peer_of d is)))

-- ---- four rounds

-- how far the packet is after so many rounds
abbrev IsFarCast : (start : WorldState) (a position rounds : ℕ) → Places → WorldState → Type 0
IsFarCast start a position zero places w = CastsAs w (IsCastAwaited position) a
IsFarCast start a position (suc zero) places w = CastsAs w (IsCastAwaited position) a × ((b bearer : ℕ) → WasUp start a b bearer → MemberIs w (IsCastKnown position) a b)
IsFarCast start a position (suc (suc zero)) places w = CastsAs w (IsCastReleased position) a
    ⊎ (CastsAs w (IsCastAwaited position) a × ((b bearer : ℕ) → WasUp start a b bearer → MemberIs w (IsCastKnown position) a b × (MemberIs w (HasTakenCast position) a b ⊎ CastIsOnItsWay places w a b bearer position)))
IsFarCast start a position (suc (suc (suc zero))) places w = CastsAs w (IsCastReleased position) a ⊎ (CastsAs w (IsCastAwaited position) a × ((b bearer : ℕ) → WasUp start a b bearer → MemberIs w (HasTakenCast position) a b))
IsFarCast start a position (suc (suc (suc (suc more)))) places w = CastsAs w (IsCastReleased position) a

module _ {start : WorldState} {places : Places} {outset : WorldState} {ends : Places} {now : WorldState} {r : IsRound places outset ends now} (k : CalmRound start places outset ends now r) (a position : ℕ) where
  still : CastsAs outset (IsCastReleased position) a → CastsAs now (IsCastReleased position) a
  still = casts_on start outset now (IsCastReleased position) a (released_on position) (round_going start places outset ends now r k)

  waits : CastsAs outset (IsCastAwaited position) a → CastsAs now (IsCastAwaited position) a
  waits = casts_on start outset now (IsCastAwaited position) a (awaited_on position) (round_going start places outset ends now r k)

  further : (rounds : ℕ) → IsFarCast start a position rounds places outset → IsFarCast start a position (suc rounds) ends now
  further zero due = (waits due, λ b bearer u. row_shown k u position due)
  further (suc zero) (due, known) = by (waits due)
    where
      by : CastsAs now (IsCastAwaited position) a → IsFarCast start a position 2 ends now
      by (m, there, awaited) = elim (cases_lt (acked_of m.node.casting.sending) position) [
        | inr released ↦ inl (m, there, released)
        | inl open_one ↦ inr (
          (m, there, awaited),
          λ b bearer u. (
            member_on start outset now (IsCastKnown position) a b bearer (known_on position) u (round_going start places outset ends now r k) (known b bearer u),
            way m there open_one b bearer (row_asked k u position due (known b bearer u)),
          ),
        )
      ]
        where
          way : (m : MemberState) → slice_index_or now.members a None ≡ Some m → acked_of m.node.casting.sending < position → (b bearer : ℕ) → CastsAs now (IsCastReleased position) a ⊎ (MemberIs now (HasTakenCast position) a b ⊎ CastIsOnItsWay ends now a b bearer position)
              → MemberIs now (HasTakenCast position) a b ⊎ CastIsOnItsWay ends now a b bearer position
          way m there open_one b bearer (inr on) = on
          way m there open_one b bearer (inl (n, at, released)) =
              let same : n ≡ m = (let both : Some n ≡ Some m = sym at ∙ there in cc) in
              let acked = subst (λ (y : MemberState). position ≤ acked_of y.node.casting.sending) same released in
              absurd (omega (arith, acked, open_one))
  further (suc (suc zero)) (inl released) = inl (still released)
  further (suc (suc zero)) (inr (due, way)) = inr (waits due, λ b bearer u. (let h = way b bearer u in row_taken k u position due h.0 h.1))
  further (suc (suc (suc zero))) (inl released) = still released
  further (suc (suc (suc zero))) (inr (due, taken)) = released_last k position due taken
  further (suc (suc (suc (suc more)))) released = still released

pub four_rounds_release_casts : FourRoundsReleaseCasts
four_rounds_release_casts start done places outset ends now a position kept poised front rest whole due =
    let last = more_keep start (λ rounds at w. IsFarCast start a position (rounds - done) at w) done places outset (done + 4) ends now front each rest whole (subst (λ k. IsFarCast start a position k places outset) (sym (no_more done)) due) in
    subst (λ k. IsFarCast start a position k ends now) (four_more done) last.1
  where
    no_more : (n : ℕ) → n - n ≡ 0
    no_more n = omega arith

    four_more : (n : ℕ) → n + 4 - n ≡ 4
    four_more n = omega arith

    one_further : (n m : ℕ) → n ≤ m → m + 1 - n ≡ suc (m - n)
    one_further n m from = omega (arith, from)

    each : (rounds : ℕ) (at : Places) (before : WorldState) (next : Places) (after : WorldState) → done ≤ rounds → Rounds start rounds at before → Round at before (Ok next) after → after.lost ≡ false → IsFarCast start a position (rounds - done) at before → IsFarCast start a position (rounds + 1 - done) next after
    each rounds at before next after from so_far round clear h =
        let r = round_parts at before next after round in
        let begins = begins_there start rounds at before next after kept poised so_far r clear in
        subst (λ k. IsFarCast start a position k next after) (sym (one_further done rounds from)) (further (calm_round start at before next after r begins) a position (rounds - done) h)

-- ---- four rounds for each packet of a window

-- it has its number, and all but so many before it are released
record IsNear (many position : ℕ) (v : Casting) : Type 0 where
  numbered : position ≤ v.sending.numbered
  near : position ≤ acked_of v.sending + many

numbered_on : (position : ℕ) → KeepsLink (λ v. position ≤ v.sending.numbered)
numbered_on position v u goes numbered = (let more = goes.numbered in omega (arith, more, numbered))

-- what a broadcast link keeps as it goes on
pub many_through : (start : WorldState) (done : ℕ) (places : Places) (outset : WorldState) (rounds : ℕ) (ends : Places) (now : WorldState) (a : ℕ) (P : Casting → Type 0) → KeepsLink P → IsKept start → IsPoised start → Rounds start done places outset → MoreRounds done places outset rounds ends now → now.lost ≡ false
    → CastsAs outset P a → CastsAs now P a
many_through start done places outset rounds ends now a P keeps kept poised front rest whole h = (more_keep start (λ n at w. CastsAs w P a) done places outset rounds ends now front
    (λ n at before next after from so_far round clear stands.
    let r = round_parts at before next after round in
    let begins = begins_there start n at before next after kept poised so_far r clear in
    casts_on start before after P a keeps (round_going start at before next after r (calm_round start at before next after r begins)) stands)
    rest whole h).1

nearer : (many position : ℕ) (w : WorldState) (a : ℕ) → CastsAs w (IsCastReleased (position - many)) a → CastsAs w (λ v. position ≤ v.sending.numbered) a → CastsAs w (IsNear many position) a
nearer many position w a (m, there, released) (n, there', numbered) =
    let same : n ≡ m = (let both : Some n ≡ Some m = sym there' ∙ there in cc) in
    (m, there, record { numbered = subst (λ (y : MemberState). position ≤ y.node.casting.sending.numbered) same numbered; near = omega (arith, released) })

-- four rounds for each
so_many_released : (many : ℕ) (start : WorldState) (done : ℕ) (places : Places) (outset : WorldState) (ends : Places) (now : WorldState) (a position : ℕ) → IsKept start → IsPoised start → Rounds start done places outset → MoreRounds done places outset (done + 4 * many) ends now → now.lost ≡ false
    → CastsAs outset (IsNear many position) a → CastsAs now (IsCastReleased position) a
so_many_released zero start done places outset ends now a position kept poised front rest whole (m, there, h) =
    many_through start done places outset (done + 4 * 0) ends now a (IsCastReleased position) (released_on position) kept poised front rest whole (m, there, (let near = h.near in omega (arith, near)))
so_many_released (suc many) start done places outset ends now a position kept poised front rest whole (m, there, h) =
    let p = parts_behind done places outset (done + 4) (done + 4 * suc many) ends now (omega arith) (omega arith) rest in
    let clear = more_whole (done + 4) p.middle p.between (done + 4 * suc many) ends now p.rest whole in
    let numbered = h.numbered in
    let near = h.near in
    let first = four_rounds_release_casts start done places outset p.middle p.between a (position - many) kept poised front p.front clear (m, there, record { numbered = omega (arith, numbered); first = omega (arith, near) }) in
    let still = many_through start done places outset (done + 4) p.middle p.between a (λ v. position ≤ v.sending.numbered) (numbered_on position) kept poised front p.front clear (m, there, numbered) in
    let as_many : done + 4 * suc many ≡ done + 4 + 4 * many = omega arith in
    so_many_released many start (done + 4) p.middle p.between ends now a position kept poised (rounds_join start done places outset (done + 4) p.middle p.between front p.front)
    (subst (λ k. MoreRounds (done + 4) p.middle p.between k ends now) as_many p.rest) whole (nearer many position p.between a first still)

pub cast_windows_are_released : CastWindowsAreReleased
cast_windows_are_released start done places outset ends now a position kept poised front rest whole (m, there, numbered) =
    let clear = more_whole done places outset (done + 4 * window_size) ends now rest whole in
    let calm = (call_stays_calm start done places outset kept poised front clear).calm in
    let good = (good_link outset a m (calm.on.kept kept) there).sending in
    let window = good.window in
    let below = good.numbered in
    so_many_released window_size start done places outset ends now a position kept poised front rest whole (m, there, record { numbered = numbered; near = omega (arith, window, below, numbered) })
