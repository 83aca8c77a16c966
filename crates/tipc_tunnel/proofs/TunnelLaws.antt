-- Tunnel packets: packets of the grammar, which carry what was put into them.
use Rattle.std.proofs.Common.{◌≡◌, ℕ, ◌+◌, ◌<◌, ◌≤◌, ◌^◌, ◌⊎◌, List, [], length, inl, inr, refl, sym, ap, subst, ◌∙◌, arith}
use Rattle.tipc_types.specs.declared.link_words.OldSession.{OldSession}
use Rattle.tipc_header.specs.declared.packet.Changeover.{Changeover}
use Rattle.tipc_header.specs.declared.packet.ChangeoverType.{ChangeoverType}
use Rattle.tipc_header.specs.declared.packet.Header.{Header}
use Rattle.tipc_header.specs.declared.packet.Header.TheVariants as header
use Rattle.tipc_header.specs.Spelling.{Fields, spelling}
use Rattle.tipc_header.specs.Frames.{sent_as, stamped}
use Rattle.tipc_header.specs.Grammar.{Fits}
use Rattle.tipc_header.proofs.Again.{length-spelling}
use Rattle.tipc_header.proofs.FrameWords.{stamped-spelling}
use Rattle.tipc_header.proofs.RoundTrip.{one_packet}
use Rattle.tipc_tunnel.specs.Tunnels.{header_of, numbered, told_by_header, tunnel_packet, Carries, IsNumbered, IsRun, IsTunnel, MayBeWrapped, Tunnelled}
use Rattle.tipc_tunnel.proofs.InnerLaws.{length-numbered, numbered-none, numbered_inside}

no_bytes : (bytes : List ℕ) → bytes ≡ [] → length bytes ≡ 0
no_bytes bytes e = ap length e

pub sent_fits : (t : Tunnelled) (acknowledgement sequence previous : ℕ) → IsTunnel t → acknowledgement < 2 ^ 16 → sequence < 2 ^ 16 → previous < 2 ^ 32 → Fits (sent_as acknowledgement sequence previous (tunnel_packet t))
sent_fits t acknowledgement sequence previous h a s p = record {
  acknowledgement = a;
  sequence = s;
  previous = p;
  header = record { broadcast_acknowledgement = omega arith; count = h.count; inner_number = h.number; old_bearer = h.bearer; old_epoch = h.epoch };
  numbering = tt;
  rest = λ none. ((h.run none).0, no_bytes t.inner (h.run none).1);
  size = omega (arith, h.size);
}

pub tunnel_fits : (t : Tunnelled) → IsTunnel t → Fits (tunnel_packet t)
tunnel_fits t h = sent_fits t 0 0 0 h (omega arith) (omega arith) (omega arith)

pub length-tunnel : (t : Tunnelled) → length (spelling (tunnel_packet t)) ≡ 48 + length t.inner
length-tunnel t = length-spelling (tunnel_packet t)

-- a packet with the header and the rest of a tunnel packet carries what that does
carries_so : (packet : Fields) (t : Tunnelled) → IsTunnel t → packet.header ≡ header_of 0 t → packet.rest ≡ t.inner → Carries packet t
carries_so packet t h header rest = record { broadcast_acknowledgement = 0; header = header; rest = rest; inner = h.inner }

pub carried_back : (t : Tunnelled) (packet : Fields) (acknowledgement sequence previous : ℕ) → IsTunnel t → acknowledgement < 2 ^ 16 → sequence < 2 ^ 16 → previous < 2 ^ 32 → Fits packet → stamped acknowledgement sequence previous (spelling (tunnel_packet t)) ≡ spelling packet → Carries packet t
carried_back t packet acknowledgement sequence previous h a s p fits e =
    let sent = sent_as acknowledgement sequence previous (tunnel_packet t) in
    let same : packet ≡ sent = one_packet packet sent fits (sent_fits t acknowledgement sequence previous h a s p) (sym e ∙ stamped-spelling (tunnel_packet t) acknowledgement sequence previous) in
    carries_so packet t h (ap (λ (q : Fields). q.header) same) (ap (λ (q : Fields). q.rest) same)

-- the values of which these are the fields
abbrev session_of : ℕ → ℕ → OldSession
session_of bearer epoch = record { bearer = bearer; epoch = epoch }

abbrev tunnelled_of : ChangeoverType → OldSession → ℕ → ℕ → List ℕ → Tunnelled
tunnelled_of kind old count number inner = record { kind = kind; old = old; count = count; number = number; inner = inner }

same_tunnel : (t u : Tunnelled) → t.kind ≡ u.kind → t.old.bearer ≡ u.old.bearer → t.old.epoch ≡ u.old.epoch → t.count ≡ u.count → t.number ≡ u.number → t.inner ≡ u.inner → t ≡ u
same_tunnel t u kind bearer epoch count number inner =
    let old : session_of t.old.bearer t.old.epoch ≡ session_of u.old.bearer u.old.epoch = cc in
    let all : tunnelled_of t.kind t.old t.count t.number t.inner ≡ tunnelled_of u.kind u.old u.count u.number u.inner = cc in
    all

pub same_change : (x y : Changeover) → header.Changeover x ≡ header.Changeover y → x ≡ y
same_change x y e = cc

pub carried_once : (packet : Fields) (t u : Tunnelled) → Carries packet t → Carries packet u → t ≡ u
carried_once packet t u g h =
    let e = same_change _ _ (sym g.header ∙ h.header) in
    same_tunnel t u
    (ap (λ (c : Changeover). c.changeover_type) e)
    (ap (λ (c : Changeover). c.old_bearer) e)
    (ap (λ (c : Changeover). c.old_epoch) e)
    (ap (λ (c : Changeover). c.count) e)
    (ap (λ (c : Changeover). c.inner_number) e)
    (sym g.rest ∙ h.rest)

-- a header of changeover and what follows it carry what they tell
pub told_carries : (packet : Fields) (c : Changeover) → packet.header ≡ header.Changeover c → (packet.rest ≡ []) ⊎ IsNumbered c.inner_number packet.rest → Carries packet (told_by_header c packet.rest)
told_carries packet c header inner = record { broadcast_acknowledgement = c.broadcast_acknowledgement; header = header; rest = refl; inner = inner }

pub one_tunnel : (t u : Tunnelled) → IsTunnel t → IsTunnel u → spelling (tunnel_packet t) ≡ spelling (tunnel_packet u) → t ≡ u
one_tunnel t u g h e =
    let same : tunnel_packet t ≡ tunnel_packet u = one_packet (tunnel_packet t) (tunnel_packet u) (tunnel_fits t g) (tunnel_fits u h) e in
    carried_once (tunnel_packet t) t u (carries_so (tunnel_packet t) t g refl refl) (carries_so (tunnel_packet t) u h (ap (λ (q : Fields). q.header) same) (ap (λ (q : Fields). q.rest) same))

-- ---- what `wrap` makes

pub wrapped_inner : (number : ℕ) (inner : List ℕ) → number < 2 ^ 16 → MayBeWrapped inner → (numbered number inner ≡ []) ⊎ IsNumbered number (numbered number inner)
wrapped_inner number inner below (inl none) = inl (ap (λ (xs : List ℕ). numbered number xs) none ∙ numbered-none number)
wrapped_inner number inner below (inr h) = inr (numbered_inside inner number h below)

pub wrapped_length : (number : ℕ) (inner : List ℕ) → MayBeWrapped inner → length (numbered number inner) ≡ length inner
wrapped_length number inner (inl none) = ap length (ap (λ (xs : List ℕ). numbered number xs) none ∙ numbered-none number ∙ sym none)
wrapped_length number inner (inr h) = length-numbered inner number h

pub wrapped_tunnel : (kind : ChangeoverType) (old : OldSession) (count number : ℕ) (inner : List ℕ) → old.bearer ≤ 1 → old.epoch < 2 ^ 64 → count < 2 ^ 16 → number < 2 ^ 16 → IsRun count number inner → MayBeWrapped inner → length inner ≤ 1452
    → IsTunnel (record { kind = kind; old = old; count = count; number = number; inner = numbered number inner })
wrapped_tunnel kind old count number inner bearer epoch c n run may size = record {
  bearer = bearer;
  epoch = epoch;
  count = c;
  number = n;
  run = λ none. ((run none).0, ap (λ (xs : List ℕ). numbered number xs) (run none).1 ∙ numbered-none number);
  inner = wrapped_inner number inner n may;
  size = omega (arith, wrapped_length number inner may, size);
}

-- the packet of this header and these bytes, as it waits
abbrev waiting_packet : Header → List ℕ → Fields
waiting_packet header rest = record { acknowledgement = 0; sequence = 0; previous = 0; header = header; rest = rest }

waiting_tunnel : (header : Header) (rest : List ℕ) (t : Tunnelled) → header ≡ header_of 0 t → rest ≡ t.inner → tunnel_packet t ≡ waiting_packet header rest
waiting_tunnel header rest t h r = ap (λ (x : Header). waiting_packet x t.inner) (sym h) ∙ ap (λ (xs : List ℕ). waiting_packet header xs) (sym r)

pub made_fits : (header : Header) (rest : List ℕ) (t : Tunnelled) → header ≡ header_of 0 t → rest ≡ t.inner → IsTunnel t → Fits (record { acknowledgement = 0; sequence = 0; previous = 0; header = header; rest = rest })
made_fits header rest t h r is = subst Fits (waiting_tunnel header rest t h r) (tunnel_fits t is)

pub made_length : (header : Header) (rest : List ℕ) (t : Tunnelled) → header ≡ header_of 0 t → rest ≡ t.inner → length (spelling (record { acknowledgement = 0; sequence = 0; previous = 0; header = header; rest = rest })) ≡ 48 + length t.inner
made_length header rest t h r = ap (λ (p : Fields). length (spelling p)) (sym (waiting_tunnel header rest t h r)) ∙ length-tunnel t
