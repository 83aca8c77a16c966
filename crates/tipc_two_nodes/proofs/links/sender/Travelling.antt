-- Runs of tunnel packets, and the plain packets behind them, as the slots that they are for.
use Rattle.std.proofs.Common.{◌≡◌, ℕ, zero, suc, ◌+◌, ◌-◌, ◌≤◌, Bool, true, false, not, List, [], ◌∷◌, Some, length, map, drop, refl, sym, ap, subst, arith}
use Rattle.std.specs.Prelude.{filter}
use Rattle.std.specs.List.{slice_get}
use Rattle.tipc_types.specs.Position.{number_of}
use Rattle.tipc_types.specs.declared.link_words.OldSession.{OldSession}
use Rattle.tipc_header.specs.declared.packet.ChangeoverType.{ChangeoverType}
use Rattle.tipc_send_window.specs.Sending.{kept_after}
use Rattle.tipc_link.specs.Records.{is_tunnel}
use Rattle.tipc_pair.specs.Runs.{run_of, wrapped}
use Rattle.tipc_changeover.specs.Slots.{at, or_marker, plain_slots, plains, run, tunnelled, Plain, LinkSlot, Tunnel}
use Rattle.tipc_changeover.proofs.Runs.{HasNone}
use Rattle.tipc_two_nodes.specs.links.Traffic.{Lines, epoch_of}
use Rattle.tipc_two_nodes.specs.links.Packets.{AreFor, IsFor, MayBeIn, SpeaksOf, marks, told_by_marker, told_by_packet, wraps}
use Rattle.tipc_tunnel.specs.Tunnels.{IsTunnel}
use Rattle.tipc_pair.proofs.Listed.{made_tunnel}
use Rattle.tipc_two_nodes.specs.links.Steps.{ArePlain, EachWraps}
-- ---- what can travel
use Rattle.tipc_link.proofs.Repeating.{kept_count as kept_length}

-- a packet makes a tunnel packet, which is full as its slot asks for
pub record MayWrap (kind : ChangeoverType) (old : OldSession) (count : ℕ) (fullness : LinkSlot → Bool) (z : LinkSlot) (packet : List ℕ) : Type 0 where
  pub full : fullness z ≡ not (is_tunnel packet)
  pub may : MayBeIn kind old count packet

pub may_wrap : (P : LinkSlot → List ℕ → Type 0) (kind : ChangeoverType) (old : OldSession) (count : ℕ) (fullness : LinkSlot → Bool) (zs : List LinkSlot) (ps : List (List ℕ)) → ((z : LinkSlot) (p : List ℕ) → P z p → fullness z ≡ not (is_tunnel p))
    → AreFor P zs ps → EachWraps kind old count ps → AreFor (MayWrap kind old count fullness) zs ps
may_wrap P kind old count fullness [] [] full h each = tt
may_wrap P kind old count fullness [] (p ∷ ps) full h each = absurd h
may_wrap P kind old count fullness (z ∷ zs) [] full h each = absurd h
may_wrap P kind old count fullness (z ∷ zs) (p ∷ ps) full h each = (record { full = full z p h.0; may = each.0 }, may_wrap P kind old count fullness zs ps full h.1 each.1)

-- ---- lists

dropped_get : (n : ℕ) (xs : List (List ℕ)) (j : ℕ) (x : List ℕ) → slice_get (drop n xs) j ≡ Some x → slice_get xs (n + j) ≡ Some x
dropped_get zero xs j x there = (let same : 0 + j ≡ j = omega arith in rw same there)
dropped_get (suc n) [] j x there = absurd (let wrong : ⊥ = cc in wrong)
dropped_get (suc n) (y ∷ xs) j x there = (let same : suc n + j ≡ suc (n + j) = omega arith in rw same (dropped_get n xs j x there))

pub no_place : (zs : List LinkSlot) (z : LinkSlot) → at zs 0 ≡ Some z → ⊥
unfolding at
no_place [] z there = cc
no_place (w ∷ zs) z there = cc

pub both_tests : (b : Bool) → b ≡ true → b ≡ false → ⊥
both_tests true h k = cc
both_tests false h k = cc

kept_plain : (p : List ℕ) (ps : List (List ℕ)) → is_tunnel p ≡ false → filter (λ packet. not (is_tunnel packet)) (p ∷ ps) ≡ p ∷ filter (λ packet. not (is_tunnel packet)) ps
kept_plain p ps plain = rw plain refl

dropped_tunnel : (p : List ℕ) (ps : List (List ℕ)) → is_tunnel p ≡ true → filter (λ packet. not (is_tunnel packet)) (p ∷ ps) ≡ filter (λ packet. not (is_tunnel packet)) ps
dropped_tunnel p ps tunnel = rw tunnel refl

-- ---- a run

run_from : (put : List (List ℕ)) (bearer : ℕ) (l : Lines) (kind : ChangeoverType) (own count : ℕ) (fullness : LinkSlot → Bool) (e k : ℕ) (zs : List LinkSlot) (ps : List (List ℕ)) → 1 ≤ e
    → AreFor (MayWrap kind (record { bearer = bearer; epoch = epoch_of l.first e }) count fullness) zs ps
    → ((j : ℕ) (inner : List ℕ) → slice_get ps j ≡ Some inner → slice_get (l.line e) (k + j) ≡ Some inner)
    → AreFor (IsFor put bearer l) (tunnelled fullness e k zs) (map (wrapped kind (record { bearer = bearer; epoch = epoch_of l.first e }) own count) (kept_after k ps))
unfolding tunnelled
run_from put bearer l kind own count fullness e k [] [] low h stand = tt
run_from put bearer l kind own count fullness e k [] (p ∷ ps) low h stand = absurd h
run_from put bearer l kind own count fullness e k (z ∷ zs) [] low h stand = absurd h
run_from put bearer l kind own count fullness e k (z ∷ zs) (p ∷ ps) low h stand =
    let old : OldSession = record { bearer = bearer; epoch = epoch_of l.first e } in
    let packet = wrapped kind old own count (record { number = number_of (k + 1); packet = p }) in
    let first : slice_get (l.line e) (k + 1 - 1) ≡ Some p = (let place : k + 1 - 1 ≡ k + 0 = omega arith in rw place (stand 0 p refl)) in (
      record {
        begun = low;
        tunnel = made_tunnel (told_by_packet kind old own count (record { number = number_of (k + 1); packet = p })) (h.0.may.made own (k + 1));
        speaks = subst (λ full. SpeaksOf old (l.line e) packet (k + 1) full) (sym h.0.full) (wraps kind own count (k + 1) p (omega arith) first h.0.may refl);
      },
      run_from put bearer l kind own count fullness e (k + 1) zs ps low h.1 (λ j inner there. (let place : k + 1 + j ≡ k + suc j = omega arith in rw place (stand (suc j) inner there))),
    )

-- the packets of a run are those of its slots
run_for : (put : List (List ℕ)) (bearer : ℕ) (l : Lines) (kind : ChangeoverType) (own : ℕ) (fullness : LinkSlot → Bool) (e k : ℕ) (zs : List LinkSlot) (ps : List (List ℕ)) → 1 ≤ e
    → AreFor (MayWrap kind (record { bearer = bearer; epoch = epoch_of l.first e }) (length ps) fullness) zs ps
    → ((j : ℕ) (inner : List ℕ) → slice_get ps j ≡ Some inner → slice_get (l.line e) (k + j) ≡ Some inner)
    → IsTunnel (told_by_marker kind (record { bearer = bearer; epoch = epoch_of l.first e }))
    → AreFor (IsFor put bearer l) (or_marker e (tunnelled fullness e k zs)) (run_of kind (record { bearer = bearer; epoch = epoch_of l.first e }) own (kept_after k ps))
unfolding tunnelled or_marker run_of
run_for put bearer l kind own fullness e k [] [] low h stand mark = (record { begun = low; tunnel = made_tunnel (told_by_marker kind (record { bearer = bearer; epoch = epoch_of l.first e })) mark; speaks = marks kind mark refl }, tt)
run_for put bearer l kind own fullness e k [] (p ∷ ps) low h stand mark = absurd h
run_for put bearer l kind own fullness e k (z ∷ zs) [] low h stand mark = absurd h
run_for put bearer l kind own fullness e k (z ∷ zs) (p ∷ ps) low h stand mark =
    let old : OldSession = record { bearer = bearer; epoch = epoch_of l.first e } in
    let count : length (kept_after k (p ∷ ps)) ≡ length (p ∷ ps) = kept_length k (p ∷ ps) in
    subst (λ n. AreFor (IsFor put bearer l) (tunnelled fullness e k (z ∷ zs)) (map (wrapped kind old own n) (kept_after k (p ∷ ps)))) (sym count)
    (run_from put bearer l kind own (length (p ∷ ps)) fullness e k (z ∷ zs) (p ∷ ps) low h stand)

-- the run for what isn't acknowledged of a session's line
pub run_stands : (put : List (List ℕ)) (bearer : ℕ) (l : Lines) (kind : ChangeoverType) (own : ℕ) (fullness : LinkSlot → Bool) (e acked : ℕ) (line : List LinkSlot) (ps : List (List ℕ)) → 1 ≤ e → ps ≡ drop acked (l.line e)
    → AreFor (MayWrap kind (record { bearer = bearer; epoch = epoch_of l.first e }) (length ps) fullness) (drop acked line) ps
    → IsTunnel (told_by_marker kind (record { bearer = bearer; epoch = epoch_of l.first e }))
    → AreFor (IsFor put bearer l) (run fullness e acked line) (run_of kind (record { bearer = bearer; epoch = epoch_of l.first e }) own (kept_after acked ps))
run_stands put bearer l kind own fullness e acked line ps low is h mark =
    run_for put bearer l kind own fullness e acked (drop acked line) ps low h (λ j inner there. dropped_get acked (l.line e) j inner (subst (λ qs. slice_get qs j ≡ Some inner) is there)) mark

-- ---- plain packets

-- the packets of lists without tunnel packets are those of their slots on either link
pub none_tail : (z : LinkSlot) (zs : List LinkSlot) → HasNone (z ∷ zs) → HasNone zs
unfolding at
none_tail z zs none zero f q full there = absurd (no_place zs (Tunnel f q full) there)
none_tail z zs none (suc p) f q full there = none (suc (suc p)) f q full there

pub plain_over : (put : List (List ℕ)) (bearer bearer' : ℕ) (l l' : Lines) (zs : List LinkSlot) (ps : List (List ℕ)) → HasNone zs → AreFor (IsFor put bearer l) zs ps → AreFor (IsFor put bearer' l') zs ps
unfolding at
plain_over put bearer bearer' l l' [] [] none h = tt
plain_over put bearer bearer' l l' [] (p ∷ ps) none h = absurd h
plain_over put bearer bearer' l l' (z ∷ zs) [] none h = absurd h
plain_over put bearer bearer' l l' (Plain i ∷ zs) (p ∷ ps) none h = (h.0, plain_over put bearer bearer' l l' zs ps (none_tail (Plain i) zs none) h.1)
plain_over put bearer bearer' l l' (Tunnel f q full ∷ zs) (p ∷ ps) none h = absurd (none 1 f q full refl)

-- and can be duplicated whole
pub plain_whole : (put : List (List ℕ)) (bearer : ℕ) (l : Lines) (kind : ChangeoverType) (old : OldSession) (count : ℕ) (zs : List LinkSlot) (ps : List (List ℕ)) → HasNone zs → AreFor (IsFor put bearer l) zs ps → EachWraps kind old count ps
    → AreFor (MayWrap kind old count (λ z. true)) zs ps
unfolding at
plain_whole put bearer l kind old count [] [] none h each = tt
plain_whole put bearer l kind old count [] (p ∷ ps) none h each = absurd h
plain_whole put bearer l kind old count (z ∷ zs) [] none h each = absurd h
plain_whole put bearer l kind old count (Plain i ∷ zs) (p ∷ ps) none h each = (record { full = ap not (sym h.0.plain); may = each.0 }, plain_whole put bearer l kind old count zs ps (none_tail (Plain i) zs none) h.1 each.1)
plain_whole put bearer l kind old count (Tunnel f q full ∷ zs) (p ∷ ps) none h each = absurd (none 1 f q full refl)

-- lists of packets that are no tunnel packets have no tunnel slots
pub plain_slots_alone : (put : List (List ℕ)) (bearer : ℕ) (l : Lines) (zs : List LinkSlot) (ps : List (List ℕ)) → AreFor (IsFor put bearer l) zs ps → ArePlain ps → HasNone zs
unfolding at
plain_slots_alone put bearer l [] ps h plain p f q full there = cc
plain_slots_alone put bearer l (z ∷ zs) [] h plain p f q full there = absurd h
plain_slots_alone put bearer l (z ∷ zs) (x ∷ ps) h plain zero f q full there = cc
plain_slots_alone put bearer l (z ∷ zs) (x ∷ ps) h plain (suc zero) f q full there =
    let is : z ≡ Tunnel f q full = cc in
    let carrier = subst (λ w. IsFor put bearer l w x) is h.0 in
    both_tests (is_tunnel x) carrier.tunnel plain.0
plain_slots_alone put bearer l (z ∷ zs) (x ∷ ps) h plain (suc (suc p)) f q full there = plain_slots_alone put bearer l zs ps h.1 plain.1 (suc p) f q full there

-- the plain packets that wait go over to the other link
pub plain_left : (put : List (List ℕ)) (bearer bearer' : ℕ) (l l' : Lines) (zs : List LinkSlot) (ps : List (List ℕ)) → AreFor (IsFor put bearer l) zs ps
    → AreFor (IsFor put bearer' l') (plain_slots zs) (filter (λ packet. not (is_tunnel packet)) ps)
unfolding plains
plain_left put bearer bearer' l l' [] [] h = tt
plain_left put bearer bearer' l l' [] (p ∷ ps) h = absurd h
plain_left put bearer bearer' l l' (z ∷ zs) [] h = absurd h
plain_left put bearer bearer' l l' (Plain i ∷ zs) (p ∷ ps) h =
    let others = plain_left put bearer bearer' l l' zs ps h.1 in
    subst (λ (qs : List (List ℕ)). AreFor (IsFor put bearer' l') (Plain i ∷ plain_slots zs) qs) (sym (kept_plain p ps h.0.plain)) (h.0, others)
plain_left put bearer bearer' l l' (Tunnel f q full ∷ zs) (p ∷ ps) h =
    let others = plain_left put bearer bearer' l l' zs ps h.1 in
    subst (λ (qs : List (List ℕ)). AreFor (IsFor put bearer' l') (plain_slots zs) qs) (sym (dropped_tunnel p ps h.0.tunnel)) others
