use Rattle.std.proofs.Common.{◌≡◌, ◌≢◌, ℕ, ◌+◌, ◌-◌, ◌<◌, ◌≤◌, ◌^◌, List, ◌++◌, length, Option, Some, None, refl, sym, ◌∙◌, ap, inl, inr, arith, length-append, length-set, get_or-set_same, get_or-set_other}
use Rattle.std.specs.Prelude.{replicate, slice_index_or}
use Rattle.std.proofs.lemmas.Bool.{cases_eq, cases_lt}
use Rattle.std.proofs.lemmas.List.{get_or-append_right, get_or-replicate, get_or_append_left, get_or_past, length-replicate}
use Rattle.tipc_types.specs.Position.{number_of}
use Rattle.tipc_types.specs.declared.packet_lists.Taken.{Taken}
use Rattle.tipc_recv_window.specs.Receiving.{filled, IsReceiving, Receiving}

-- empty places at the end hold nothing, as no place does
pub at_widened : (held : List (Option Taken)) (n k : ℕ)
    → slice_index_or (held ++ replicate n None) k None ≡ slice_index_or held k None
at_widened held n k = elim (cases_lt k (length held)) [
  | inl within ↦ get_or_append_left held (replicate n None) None k within
  | inr past ↦
      let there : slice_index_or (held ++ replicate n None) k None ≡ slice_index_or (replicate n None) (k - length held) None =
      get_or-append_right held (replicate n None) (length held) k None refl past in
      let nothing : slice_index_or {A = Option Taken} (replicate n None) (k - length held) None ≡ None = elim (cases_lt (k - length held) n) [
        | inl short ↦ get_or-replicate n (k - length held) None None short
        | inr long ↦ get_or_past (replicate n None) (k - length held) None (rw length-replicate long)
      ] in
      there ∙ nothing ∙ sym (get_or_past held k None past)
]

pub length-filled : (held : List (Option Taken)) (d : ℕ) (packet : Taken) → length (filled held d packet) ≡ length held + (d + 1 - length held)
length-filled held d packet = rw (length-set, length-append, length-replicate) refl

-- the packet is held at its place
pub filled-same : (held : List (Option Taken)) (d : ℕ) (packet : Taken) → slice_index_or (filled held d packet) d None ≡ Some packet
filled-same held d packet =
    let within : d < length (held ++ replicate (d + 1 - length held) None) = rw (length-append, length-replicate) (omega arith) in
    get_or-set_same (held ++ replicate (d + 1 - length held) None) d (Some packet) None within

-- and all other places hold what they held
pub filled-other : (held : List (Option Taken)) (d k : ℕ) (packet : Taken) → k ≢ d → slice_index_or (filled held d packet) k None ≡ slice_index_or held k None
filled-other held d k packet other =
    get_or-set_other (held ++ replicate (d + 1 - length held) None) d k (Some packet) None other
    ∙ at_widened held (d + 1 - length held) k

-- a window keeps its facts where a packet is held at the distance that its number tells
pub IsReceiving-filled : (r : Receiving) (d : ℕ) (packet : Taken)
    → d < 50 → r.wanted + 50 ≤ 2 ^ 62 → packet.number ≡ number_of (r.wanted + d)
    → IsReceiving r → IsReceiving (record { wanted = r.wanted; held = filled r.held d packet })
IsReceiving-filled r d packet near low number h =
    let window = h.window in
    let long = length-filled r.held d packet in
    record {
      window = rw long (omega arith);
      counted = rw long (omega arith);
      numbers = λ k other is. elim (cases_eq k d) [
        | inl same ↦
            let there = filled-same r.held d packet in
            let here : slice_index_or (filled r.held d packet) k None ≡ Some packet = rw same there in
            let one : packet ≡ other = cc in
            ap (λ (p : Taken). p.number) (sym one) ∙ number ∙ ap (λ (n : ℕ). number_of (r.wanted + n)) (sym same)
        | inr apart ↦ h.numbers k other (sym (filled-other r.held d k packet apart) ∙ is)
      ];
    }
