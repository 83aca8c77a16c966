-- The packets of slots, while more packets are put and numbered.
use Rattle.std.proofs.Common.{◌≡◌, ℕ, ◌+◌, ◌-◌, ◌==◌, Bool, true, false, if◌then◌else◌, List, [], ◌∷◌, ◌++◌, Some, not, refl, sym, ap, subst}
use Rattle.std.specs.List.{slice_get}
use Rattle.tipc_types.specs.declared.link_words.OldSession.{OldSession}
use Rattle.tipc_link.specs.Records.{is_tunnel}
use Rattle.tipc_changeover.specs.Slots.{is_plain, Plain, LinkSlot, Tunnel}
use Rattle.tipc_changeover.specs.Events.{extended}
use Rattle.tipc_two_nodes.specs.links.Traffic.{Lines, with_more}
use Rattle.tipc_two_nodes.specs.links.Packets.{AreFor, IsFor, SpeaksOf, marks, wraps}
use Rattle.tipc_two_nodes.proofs.links.sender.Lists.{are_append, front_get}
use Rattle.tipc_pair.proofs.turns.CourseMoves.{itself as same_test}

-- ---- lines that grow

-- what was numbered stays
pub record Grows (l l' : Lines) : Type 0 where
  pub first : l'.first ≡ l.first
  pub stays : (session k : ℕ) (packet : List ℕ) → slice_get (l.line session) k ≡ Some packet → slice_get (l'.line session) k ≡ Some packet

more_get : (b : Bool) (xs ys : List (List ℕ)) (k : ℕ) (x : List ℕ) → slice_get xs k ≡ Some x → slice_get (if b then xs ++ ys else xs) k ≡ Some x
more_get true xs ys k x e = front_get xs ys k x e
more_get false xs ys k x e = e

pub more_grows : (l : Lines) (session : ℕ) (packets : List (List ℕ)) → Grows l (with_more l session packets)
more_grows l session packets = record { first = refl; stays = λ f k packet there. more_get (f == session) (l.line f) packets k packet there }

speaks_on : (old : OldSession) (line line' : List (List ℕ)) (packet : List ℕ) (place : ℕ) (full : Bool) → ((k : ℕ) (inner : List ℕ) → slice_get line k ≡ Some inner → slice_get line' k ≡ Some inner)
    → SpeaksOf old line packet place full → SpeaksOf old line' packet place full
speaks_on old line line' packet place full stays (marks kind made is) = marks kind made is
speaks_on old line line' packet place full stays (wraps kind own count q inner low there may is) = wraps kind own count q inner low (stays (q - 1) inner there) may is

pub for_grown : (put : List (List ℕ)) (bearer : ℕ) (l l' : Lines) (z : LinkSlot) (packet : List ℕ) → Grows l l' → IsFor put bearer l z packet → IsFor put bearer l' z packet
for_grown put bearer l l' (Plain i) packet grows h = h
for_grown put bearer l l' (Tunnel f q full) packet grows h = record {
  begun = h.begun;
  tunnel = h.tunnel;
  speaks = subst (λ first. SpeaksOf (record { bearer = bearer; epoch = first + f - 1 }) (l'.line f) packet q full) (sym grows.first) (speaks_on _ (l.line f) (l'.line f) packet q full (grows.stays f) h.speaks);
}

-- ---- more packets are put

pub for_put : (put more : List (List ℕ)) (bearer : ℕ) (l : Lines) (z : LinkSlot) (packet : List ℕ) → IsFor put bearer l z packet → IsFor (put ++ more) bearer l z packet
for_put put more bearer l (Plain i) packet h = record { counts = h.counts; there = front_get put more (i - 1) packet h.there; plain = h.plain }
for_put put more bearer l (Tunnel f q full) packet h = h

-- ---- which packets are tunnel packets

pub kind_of : (put : List (List ℕ)) (bearer : ℕ) (l : Lines) (z : LinkSlot) (packet : List ℕ) → IsFor put bearer l z packet → is_plain z ≡ not (is_tunnel packet)
kind_of put bearer l (Plain i) packet h = ap not (sym h.plain)
kind_of put bearer l (Tunnel f q full) packet h = ap not (sym h.tunnel)

-- ---- more packets get numbers

more_by : (P : LinkSlot → List ℕ → Type 0) (b : Bool) (zs ws : List LinkSlot) (ps qs : List (List ℕ)) → AreFor P zs ps → AreFor P ws qs → AreFor P (if b then zs ++ ws else zs) (if b then ps ++ qs else ps)
more_by P true zs ws ps qs h k = are_append P zs ws ps qs h k
more_by P false zs ws ps qs h k = h

pub lines_more : (P : LinkSlot → List ℕ → Type 0) (line : ℕ → List LinkSlot) (l : Lines) (session : ℕ) (z : LinkSlot) (packet : List ℕ) → ((e : ℕ) → AreFor P (line e) (l.line e)) → P z packet
    → (e : ℕ) → AreFor P (extended line session z e) ((with_more l session (packet ∷ [])).line e)
unfolding extended
lines_more P line l session z packet h is e = more_by P (e == session) (line e) (z ∷ []) (l.line e) (packet ∷ []) (h e) (is, tt)

pub more_here : (l : Lines) (session : ℕ) (packets : List (List ℕ)) → (with_more l session packets).line session ≡ l.line session ++ packets
more_here l session packets = rw (same_test session) refl
