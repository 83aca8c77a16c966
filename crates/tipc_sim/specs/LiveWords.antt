-- The words of a live run.
use Rattle.std.specs.Prelude.{ℕ, ◌&&◌, if◌then◌else◌, Bool, true, false, List, [], ◌∷◌, Option, Some, None, codes}
use Rattle.std.specs.Option.{option_map}
use Rattle.std.specs.Str.{bytes_eq}
use Rattle.tipc_script.specs.Kinds.{is_number, number_of}
use Rattle.tipc_work.specs.declared.plans.LivePlan.{LivePlan}

-- whether the bearers are sockets of UDP: `memory` or `udp`
abbrev pub medium_of : List ℕ → Option Bool
medium_of word = if bytes_eq word (codes "memory") then Some false else (if bytes_eq word (codes "udp") then Some true else None)

-- the words for numbers are such: from 2 to 8 nodes, from 1 to 8 callers of each, and from 1 to 1,000 messages of each
-- of these, all in decimal digits without sign or leading zero
abbrev pub are_numbers : List ℕ → List ℕ → List ℕ → Bool
are_numbers nodes callers messages = is_number 2 8 nodes && (is_number 1 8 callers && is_number 1 1000 messages)

-- the plan of the words behind `live`
unfoldable pub plan_behind : List ℕ → List ℕ → List ℕ → List ℕ → Option LivePlan
plan_behind medium nodes callers messages =
    if are_numbers nodes callers messages
    then option_map (λ udp. record { udp = udp; nodes = number_of nodes; callers = number_of callers; messages = number_of messages }) (medium_of medium)
    else None

-- the plan that some words are, if any: `live`, the medium, and how many nodes, callers and messages
abbrev pub live_plan : List (List ℕ) → Option LivePlan
live_plan (live ∷ medium ∷ nodes ∷ callers ∷ messages ∷ []) = if bytes_eq live (codes "live") then plan_behind medium nodes callers messages else None
live_plan other = None
