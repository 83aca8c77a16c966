-- A packet from inside a tunnel packet, as it waited on its own link.
use Rattle.std.specs.Prelude.{if◌then◌else◌}
use Rattle.std.proofs.Common.{◌≡◌, ◌∙◌, ◌<◌, ◌^◌, ℕ, List, [], refl, sym, ap, inl, inr, is_none}
use Rattle.tipc_header.specs.Faults.{fault_of}
use Rattle.tipc_header.specs.Grammar.{Fits}
use Rattle.tipc_header.specs.Reading.{fields_at}
use Rattle.tipc_header.specs.Spelling.{Fields, renumbered, spelling}
use Rattle.tipc_header.proofs.Again.{again, no_fault}
use Rattle.tipc_link.specs.Sessions.{as_waiting}
use Rattle.tipc_tunnel.specs.Tunnels.{MayBeWrapped, numbered}
use Rattle.tipc_tunnel.proofs.InnerLaws.{numbered-inner, numbered-none, renumbered-inner-fits}
use Rattle.tipc_pair.specs.PairArrivals.{restored}

-- a placeholder's nothing stays so
pub restored_none : restored [] ≡ []
unfolding restored fault_of
restored_none = refl

pub restored_spelled : (p : Fields) → Fits p → restored (spelling p) ≡ spelling (as_waiting p)
unfolding restored
restored_spelled p fits =
    ap (λ o. if is_none o then spelling (as_waiting (fields_at (spelling p))) else spelling p) (no_fault p fits) ∙ ap (λ (q : Fields). spelling (as_waiting q)) (again p fits)

-- its number is no part of it
pub restored_numbered : (packet : List ℕ) (number : ℕ) → MayBeWrapped packet → number < 2 ^ 16 → restored (numbered number packet) ≡ restored packet
restored_numbered packet number (inl none) below = ap (λ ps. restored (numbered number ps)) none ∙ (ap restored (numbered-none number) ∙ sym (ap restored none))
restored_numbered packet number (inr h) below =
    ap restored (numbered-inner packet number h) ∙ (restored_spelled (renumbered h.packet h.packet.acknowledgement number) (renumbered-inner-fits h.packet number h.fits h.inside below)
    ∙ (sym (restored_spelled h.packet h.fits) ∙ sym (ap restored h.spelled)))
