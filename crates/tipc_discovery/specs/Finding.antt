-- What a node that hears a discovery packet finds.
use Rattle.std.specs.Prelude.{ℕ, ◌==◌, ◌||◌, not, if◌then◌else◌, List, [], ◌∷◌, ◌++◌}
use Rattle.std.specs.List.{list_any}
use Rattle.tipc_types.specs.declared.link_words.Why.TheVariants as why
use Rattle.tipc_header.specs.declared.packet.Header.{Header}
use Rattle.tipc_discovery.specs.declared.neighbours.Found.{Found}
use Rattle.tipc_discovery.specs.declared.neighbours.Found.TheVariants.{New, Known, Ignored}
use Rattle.tipc_discovery.specs.Hearing.{has_node, is_of_network}

-- What a packet of this previous node shows to a node that heard these on the same bearer: the first that fits.
unfoldable pub found_of : ℕ → ℕ → Header → List ℕ → Found
found_of own previous header heard =
    if (previous == own) || not (has_node previous) then Ignored why.Own
    else (if not (is_of_network header) then Ignored why.Network
    else (if list_any (λ other. previous == other) heard then Known
    else New))

-- who was heard then: a new neighbour behind the others
abbrev pub after_hearing : Found → ℕ → List ℕ → List ℕ
after_hearing New previous heard = heard ++ previous ∷ []
after_hearing _ previous heard = heard
