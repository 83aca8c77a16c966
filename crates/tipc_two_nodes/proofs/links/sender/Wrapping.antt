-- The packets of a link can travel in tunnel packets.
use Rattle.std.proofs.Common.{◌≡◌, ℕ, ◌<◌, ◌≤◌, ◌^◌, false, if◌then◌else◌, List, [], ◌∷◌, length, refl, sym, ap, ◌∙◌, subst, inl, inr, arith}
use Rattle.std.proofs.lemmas.Bool.{cases_Bool}
use Rattle.tipc_types.specs.Position.{number_of}
use Rattle.tipc_types.specs.declared.link_words.OldSession.{OldSession}
use Rattle.tipc_header.specs.declared.packet.ChangeoverType.{ChangeoverType}
use Rattle.tipc_tunnel.specs.Tunnels.{IsTunnel, numbered}
use Rattle.tipc_tunnel.proofs.TunnelLaws.{wrapped_tunnel}
use Rattle.tipc_link.specs.Records.{is_tunnel}
use Rattle.tipc_pair.specs.PairArrivals.{restored}
use Rattle.tipc_pair.specs.Runs.{IsListed, plain, shown_by, tunnel}
use Rattle.tipc_pair.proofs.Listed.{both_ways, listed_inner, made_tunnel}
use Rattle.tipc_pair.proofs.Shown.{restored_inside, shown_may}
use Rattle.tipc_two_nodes.specs.links.Packets.{MayBeIn, told_by_marker, told_by_packet}
use Rattle.tipc_two_nodes.specs.links.Ends.{AreListed, WaitsAsListed}
use Rattle.tipc_two_nodes.specs.links.Steps.{CanTravel, EachWraps}

short_number : (n : ℕ) → number_of n < 2 ^ 16
unfolding number_of
short_number n = omega arith

listed_long : (packet : List ℕ) → IsListed packet → is_tunnel packet ≡ false → 16 ≤ length packet
listed_long packet (plain waits inner size) other = waits.long
listed_long packet (tunnel made) other = both_ways (is_tunnel packet) (ap is_tunnel made.spelled ∙ made_tunnel made.told made.whole) other

placeholder_tunnel : (kind : ChangeoverType) (old : OldSession) (count number : ℕ) → old.bearer ≤ 1 → old.epoch < 2 ^ 64 → count < 2 ^ 16 → number < 2 ^ 16 → 1 ≤ count
    → IsTunnel (record { kind = kind; old = old; count = count; number = number; inner = [] })
placeholder_tunnel kind old count number bearer epoch c n some = record {
  bearer = bearer;
  epoch = epoch;
  count = c;
  number = n;
  run = λ none. absurd (let wrong : ⊥ = omega arith in wrong);
  inner = inl refl;
  size = omega arith;
}

told_tunnel : (kind : ChangeoverType) (old : OldSession) (count : ℕ) (packet : List ℕ) → IsListed packet → old.bearer ≤ 1 → old.epoch < 2 ^ 64 → count < 2 ^ 16 → 1 ≤ count → (own n : ℕ)
    → IsTunnel (told_by_packet kind old own count (record { number = number_of n; packet = packet }))
told_tunnel kind old count packet listed bearer epoch few some own n = elim (cases_Bool (is_tunnel packet)) [
  | inl is ↦ subst (λ bytes. IsTunnel (record { kind = kind; old = old; count = count; number = number_of n; inner = bytes })) (sym (ap (λ t. if t then [] else numbered (number_of n) (shown_by own packet)) is))
      (placeholder_tunnel kind old count (number_of n) bearer epoch few (short_number n) some)
  | inr other ↦ subst (λ bytes. IsTunnel (record { kind = kind; old = old; count = count; number = number_of n; inner = bytes })) (sym (ap (λ t. if t then [] else numbered (number_of n) (shown_by own packet)) other))
      (let may = shown_may own packet listed other in
      wrapped_tunnel kind old count (number_of n) (shown_by own packet) bearer epoch few (short_number n) (λ none. absurd (let wrong : ⊥ = omega arith in wrong)) may.0 may.1)
]

-- it is given back as it waits
listed_back : (packet : List ℕ) → WaitsAsListed packet → (own n : ℕ) → is_tunnel packet ≡ false → restored (numbered (number_of n) (shown_by own packet)) ≡ packet
listed_back packet h own n other = restored_inside own packet (number_of n) (listed_inner packet h.listed other) (short_number n) ∙ h.as_waiting

listed_may : (kind : ChangeoverType) (old : OldSession) (count : ℕ) (packet : List ℕ) → WaitsAsListed packet → old.bearer ≤ 1 → old.epoch < 2 ^ 64 → count < 2 ^ 16 → 1 ≤ count → MayBeIn kind old count packet
listed_may kind old count packet h bearer epoch few some = record {
  some = some;
  made = told_tunnel kind old count packet h.listed bearer epoch few some;
  bytes = λ other. (let long = listed_long packet h.listed other in omega arith);
  back = listed_back packet h;
}

each_wraps : (kind : ChangeoverType) (old : OldSession) (count : ℕ) (packets : List (List ℕ)) → AreListed packets → old.bearer ≤ 1 → old.epoch < 2 ^ 64 → count < 2 ^ 16 → 1 ≤ count → EachWraps kind old count packets
each_wraps kind old count [] listed bearer epoch few some = tt
each_wraps kind old count (packet ∷ packets) listed bearer epoch few some = (listed_may kind old count packet listed.0 bearer epoch few some, each_wraps kind old count packets listed.1 bearer epoch few some)

each_of : (kind : ChangeoverType) (old : OldSession) (packets : List (List ℕ)) → AreListed packets → old.bearer ≤ 1 → old.epoch < 2 ^ 64 → length packets < 2 ^ 16 → EachWraps kind old (length packets) packets
each_of kind old [] listed bearer epoch few = tt
each_of kind old (packet ∷ packets) listed bearer epoch few = each_wraps kind old (length (packet ∷ packets)) (packet ∷ packets) listed bearer epoch few (omega arith)

marker_tunnel : (kind : ChangeoverType) (old : OldSession) → old.bearer ≤ 1 → old.epoch < 2 ^ 64 → IsTunnel (told_by_marker kind old)
marker_tunnel kind old bearer epoch = record {
  bearer = bearer;
  epoch = epoch;
  count = omega arith;
  number = omega arith;
  run = λ none. (refl, refl);
  inner = inl refl;
  size = omega arith;
}

pub can_travel : (kind : ChangeoverType) (old : OldSession) (packets : List (List ℕ)) → AreListed packets → old.bearer ≤ 1 → old.epoch < 2 ^ 64 → length packets < 2 ^ 16 → CanTravel kind old packets
can_travel kind old packets listed bearer epoch few = record { mark = marker_tunnel kind old bearer epoch; each = each_of kind old packets listed bearer epoch few }
