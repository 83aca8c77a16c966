-- The frames of discovery: each brings the discovery packet of its node under a boot number, and so none is of a link.
use Rattle.std.proofs.Common.{◌≡◌, ◌≤◌, ◌<◌, ◌+◌, ◌*◌, ◌^◌, ◌&&◌, ℕ, Bool, true, false, [], ◌∷◌, ◌++◌, inl, inr, length, refl, ap, ◌∙◌, subst, length-append, arith}
use Rattle.std.specs.List.{All}
use Rattle.std.proofs.lemmas.Bool.Decides.{nat_tests}
use Rattle.std.proofs.lemmas.List.{drop_at}
use Rattle.std.proofs.lemmas.List.Elements.{All-append, All-cons, All-nil, filter-append}
use Rattle.tipc_types.specs.Address.{node_word}
use Rattle.tipc_outside.specs.declared.outgoing.Outgoing.{Outgoing}
use Rattle.tipc_header.specs.declared.frames.FrameKind.TheVariants.{Finds}
use Rattle.tipc_header.specs.declared.packet.DiscoveryType.{DiscoveryType}
use Rattle.tipc_header.specs.declared.packet.DiscoveryType.TheVariants.{Request, Response}
use Rattle.tipc_header.specs.declared.packet.Header.{Header}
use Rattle.tipc_header.specs.Frames.{envelope, first_of, frame_of, is_epoch, is_of_link, kind_in, kind_of}
use Rattle.tipc_header.specs.Grammar.{Fits}
use Rattle.tipc_header.specs.Reading.{fields_at}
use Rattle.tipc_header.specs.Spelling.{Fields, spelling}
use Rattle.tipc_header.proofs.Again.{again, length-spelling}
use Rattle.tipc_header.proofs.FrameWords.{first_of-frame, length-envelope}
use Rattle.tipc_discovery.specs.Hearing.{discovery_packet}
use Rattle.tipc_pair.specs.Addressed.{IsEpoch}
use Rattle.tipc_pair.specs.Facing.{PairEnds}
use Rattle.tipc_pair.proofs.turns.Addressing.{either}
use Rattle.tipc_node.specs.declared.neighbours.Upkeep.{Upkeep}
use Rattle.tipc_node.specs.declared.neighbours.Upkeep.TheVariants as upkeep
use Rattle.tipc_node.specs.Discovery.{asks_on, discovery_frame, is_request, request_on, requests_by, response_to, responses, tick_requests}
use Rattle.tipc_node.specs.Neighbours.{IsOnBearer}
use Rattle.tipc_node.specs.Nodes.{NodeState, is_frame_size}
use Rattle.tipc_node.specs.Telling.{IsTold}
use Rattle.tipc_node.specs.Turns.{AreNamed, IsFrom, IsRouted, IsToAnother, frames_to, is_out_to, is_to}
use Rattle.tipc_node.specs.Turns.IsRouted.{of_discovery}
use Rattle.tipc_node.proofs.pairs.Strangers.{pair_alone}

-- ---- one frame

-- the discovery packet of a node has a spelling
discovery_fits : (own : ℕ) (form : DiscoveryType) → own < 2 ^ 32 → Fits (discovery_packet own form)
discovery_fits own form low = record { acknowledgement = omega arith; sequence = omega arith; previous = low; header = omega arith; numbering = (refl, refl); rest = refl; size = omega arith }

-- its frame is under the boot number, which is no epoch
pub discovery_low : (own boot : ℕ) (form : DiscoveryType) → boot < 2 ^ 32 → is_of_link (discovery_frame own boot form) ≡ false
unfolding discovery_frame
discovery_low own boot form low = ap is_epoch (first_of-frame boot 0 (spelling (discovery_packet own form)) (omega (arith, low))) ∙ grind (arith, nat_tests, low)

-- it names the node as its sender
pub discovery_from : (a boot : ℕ) (form : DiscoveryType) → a ≤ 32 → boot < 2 ^ 32 → IsFrom a (discovery_frame (node_word a) boot form) boot 0 (discovery_packet (node_word a) form)
unfolding discovery_frame
discovery_from a boot form most low = record { es_fits = omega (arith, low); er_fits = omega arith; fits = discovery_fits (node_word a) form (omega (arith, most)); frame_is = refl; previous = refl }

pub discovery_kind : (own boot : ℕ) (form : DiscoveryType) → own < 2 ^ 32 → kind_in (discovery_frame own boot form) ≡ Finds
unfolding discovery_frame kind_in
discovery_kind own boot form low =
    let p = discovery_packet own form in
    let first = first_of (frame_of boot 0 (spelling p)) in
    ap (λ xs. kind_of first (fields_at xs).header) (drop_at (envelope boot 0) (spelling p) 16 (length-envelope boot 0))
    ∙ ap (λ (q : Fields). kind_of first q.header) (again p (discovery_fits own form low))

-- it has 56 bytes
pub discovery_size : (own boot : ℕ) (form : DiscoveryType) → is_frame_size (length (discovery_frame own boot form)) ≡ true
unfolding discovery_frame
discovery_size own boot form =
    let p = discovery_packet own form in
    let bytes : length (envelope boot 0 ++ spelling p) ≡ 56 = length-append (envelope boot 0) (spelling p) ∙ ap (λ n. n + length (spelling p)) (length-envelope boot 0) ∙ ap (λ n. 16 + n) (length-spelling p) in
    ap is_frame_size bytes ∙ grind (arith, nat_tests)

-- ---- the boot number of a node

-- its contact numbers are of its boot
pub boot_low : (n : NodeState) → IsTold n → AreNamed n → n.boot < 2 ^ 32
boot_low n told named =
    let first : IsEpoch (n.boot * 4294967296 + 1) = subst (λ (x : PairEnds). IsEpoch x.contact) (pair_alone n 0 told.nobody) (named 0).epochs.contact in
    let most = first.1 in
    omega (arith, most)

-- ---- none is of the links to a node

not_out : (b : Bool) (b' : Bool) → b' ≡ false → (b && b') ≡ false
not_out true b' is = is
not_out false b' is = refl

pub never_to : (b : ℕ) (o : Outgoing) → is_of_link o.frame ≡ false → is_out_to b o ≡ false
never_to b o low = not_out (is_to b o.to) (is_of_link o.frame) low

alone_to : (b : ℕ) (o : Outgoing) → is_of_link o.frame ≡ false → frames_to b (o ∷ []) ≡ []
alone_to b o low = rw (never_to b o low) refl

pub responses_to : (n : NodeState) (peer bearer b : ℕ) (said : Header) → n.boot < 2 ^ 32 → frames_to b (responses n peer bearer said) ≡ []
responses_to n peer bearer b said low =
    either (λ fs. frames_to b fs ≡ []) (is_request said) (response_to n peer bearer ∷ []) [] (alone_to b (response_to n peer bearer) (discovery_low n.own n.boot Response low)) refl

tick_to : (n : NodeState) (bearer b : ℕ) → frames_to b (tick_requests n bearer) ≡ []
tick_to n bearer b = either (λ fs. frames_to b fs ≡ []) (asks_on n bearer) (request_on n bearer ∷ []) [] refl refl

pub requests_to : (d : Upkeep) (n : NodeState) (b : ℕ) → frames_to b (requests_by d n) ≡ []
unfolding requests_by
requests_to (upkeep.Mend bearer) n b = refl
requests_to (upkeep.Cut bearer) n b = refl
requests_to upkeep.Tick n b = filter-append (is_out_to b) (tick_requests n 0) (tick_requests n 1) ∙ ap (λ zs. zs ++ frames_to b (tick_requests n 1)) (tick_to n 0 b) ∙ tick_to n 1 b

-- ---- each is routed

request_routed : (n : NodeState) (bearer : ℕ) → bearer ≤ 1 → n.boot < 2 ^ 32 → All (IsRouted n) (request_on n bearer ∷ [])
request_routed n bearer one low = All-cons (IsRouted n) (request_on n bearer) [] (of_discovery (record {
  on_one = one;
  form = Request;
  frame_is = refl;
  low = discovery_low n.own n.boot Request low;
  receivers = inl refl;
})) (All-nil (IsRouted n))

tick_routed : (n : NodeState) (bearer : ℕ) → bearer ≤ 1 → n.boot < 2 ^ 32 → All (IsRouted n) (tick_requests n bearer)
tick_routed n bearer one low = either (All (IsRouted n)) (asks_on n bearer) (request_on n bearer ∷ []) [] (request_routed n bearer one low) (All-nil (IsRouted n))

pub requests_routed : (d : Upkeep) (n : NodeState) → IsOnBearer d → n.boot < 2 ^ 32 → All (IsRouted n) (requests_by d n)
unfolding requests_by
requests_routed (upkeep.Mend bearer) n one low = request_routed n bearer one low
requests_routed (upkeep.Cut bearer) n one low = All-nil (IsRouted n)
requests_routed upkeep.Tick n one low = All-append (IsRouted n) (tick_requests n 0) (tick_requests n 1) (tick_routed n 0 (omega arith) low) (tick_routed n 1 (omega arith) low)

pub responses_routed : (n : NodeState) (peer bearer : ℕ) (said : Header) → bearer ≤ 1 → n.boot < 2 ^ 32 → IsToAnother n (response_to n peer bearer).to → All (IsRouted n) (responses n peer bearer said)
responses_routed n peer bearer said one low another =
    either (All (IsRouted n)) (is_request said) (response_to n peer bearer ∷ []) [] (All-cons (IsRouted n) (response_to n peer bearer) [] (of_discovery (record {
      on_one = one;
      form = Response;
      frame_is = refl;
      low = discovery_low n.own n.boot Response low;
      receivers = inr another;
    })) (All-nil (IsRouted n))) (All-nil (IsRouted n))
