-- Packets that are opened one after the other.
use Rattle.std.proofs.Common.{◌≡◌, ℕ, ◌+◌, ◌<◌, ◌≤◌, List, [], ◌∷◌, ◌++◌, length, take, get_or, Result, Ok, Err, IfOk, refl, sym, ap, subst, ◌∙◌, append_assoc, arith}
use Rattle.std.proofs.lemmas.List.{append-nil, take_more}
use Rattle.tipc_types.specs.declared.packet_lists.Taken.{Taken}
use Rattle.tipc_fragments.specs.Joining.{Joining}
use Rattle.tipc_reassembly.specs.declared.opening.Opened.{Opened}
use Rattle.tipc_reassembly.specs.Opening.{Brings, BringsAll, go_on, none}

-- the same, where the lists are written otherwise
same_all : {s last : Joining} {taken others : List Taken} {opened more : List Opened} → taken ≡ others → opened ≡ more → BringsAll s taken opened last → BringsAll s others more last
same_all {s} {last} {taken} {others} {opened} {more} packets brought is =
    subst (λ (x : List Taken). BringsAll s x more last) packets (subst (λ (x : List Opened). BringsAll s taken x last) brought is)

-- one packet
pub brings_one : (s last : Joining) (packet : Taken) (opened : List Opened) → Brings s packet.packet packet.by opened last → BringsAll s (packet ∷ []) opened last
brings_one s last packet opened is = same_all refl (append-nil opened) (go_on is none)

-- one packet more
pub brings_next : {s between last : Joining} {taken : List Taken} {opened : List Opened} (packet : Taken) (more : List Opened)
    → BringsAll s taken opened between → Brings between packet.packet packet.by more last → BringsAll s (taken ++ packet ∷ []) (opened ++ more) last
brings_next packet more none is = brings_one _ _ packet more is
brings_next packet more (go_on {opened = opened} {more = others} first rest) is =
    same_all refl (sym (append_assoc opened others more)) (go_on first (brings_next packet more rest is))

-- ---- what the code answers

pub nothing_taken : (s : Joining) (taken : List Taken) (opened : List Opened) → length taken < 1 → opened ≡ [] → BringsAll s taken opened s
nothing_taken s [] opened short brought = same_all refl (sym brought) none
nothing_taken s (packet ∷ taken) opened short brought = absurd (omega arith)

one_is : (taken : List Taken) (packet : Taken) → 1 ≤ length taken → length taken < 2 → packet ≡ get_or taken 0 packet → packet ∷ [] ≡ taken
one_is [] packet least short read = absurd (omega arith)
one_is (first ∷ []) packet least short read = ap (λ (x : Taken). x ∷ []) read
one_is (first ∷ second ∷ others) packet least short read = absurd (omega arith)

pub one_taken : {E : Type 0} (s last : Joining) (taken : List Taken) (packet : Taken) (answer : Result (List Opened) E)
    → 1 ≤ length taken → length taken < 2 → packet ≡ get_or taken 0 packet
    → IfOk answer (λ opened. Brings s packet.packet packet.by opened last) → IfOk answer (λ opened. BringsAll s taken opened last)
one_taken s last taken packet (Ok opened) least short read is = same_all (one_is taken packet least short read) refl (brings_one s last packet opened is)
one_taken s last taken packet (Err fault) least short read is = tt

pub next_taken : (s between last : Joining) (taken : List Taken) (i : ℕ) (packet : Taken) (opened more now : List Opened) → i < length taken
    → packet ≡ get_or taken i packet → now ≡ opened ++ more → BringsAll s (take i taken) opened between → Brings between packet.packet packet.by more last
    → BringsAll s (take (i + 1) taken) now last
next_taken s between last taken i packet opened more now within read brought is next =
    same_all (sym (take_more taken i packet within ∙ ap (λ (x : Taken). take i taken ++ x ∷ []) (sym read))) (sym brought) (brings_next packet more is next)
