-- Which of a node's frames are of its broadcast: none of those of the links, and none of discovery.
use Rattle.std.proofs.Common.{◌≡◌, ◌<◌, ◌^◌, ◌∙◌, ℕ, Bool, true, false, if◌then◌else◌, List, [], ◌∷◌, ◌++◌, refl, sym, ap, subst, arith}
use Rattle.std.specs.Prelude.{All, cond}
use Rattle.std.proofs.lemmas.List.Elements.{All-head, All-tail, filter-append}
use Rattle.tipc_types.specs.Address.{IsNodeWord}
use Rattle.tipc_outside.specs.declared.outgoing.Outgoing.{Outgoing}
use Rattle.tipc_header.specs.declared.frames.FrameKind.TheVariants.{Casts, Finds, Links}
use Rattle.tipc_header.specs.declared.packet.DiscoveryType.TheVariants.{Request, Response}
use Rattle.tipc_header.specs.declared.packet.Header.{Header}
use Rattle.tipc_header.specs.declared.packet.Header.TheVariants as header
use Rattle.tipc_header.specs.Frames.{first_of, is_epoch, is_of_link, kind_in, kind_of}
use Rattle.tipc_broadcast.specs.Deeds.{AreLawful, CastDeed, deeds_frames}
use Rattle.tipc_broadcast.specs.Pieces.{IsOfBroadcast}
use Rattle.tipc_broadcast.proofs.Framed.{deeds_framed}
use Rattle.tipc_pair.proofs.turns.Addressing.{AreFor, either}
use Rattle.tipc_node.specs.declared.neighbours.Upkeep.{Upkeep}
use Rattle.tipc_node.specs.declared.neighbours.Upkeep.TheVariants as upkeep
use Rattle.tipc_node.specs.Discovery.{asks_on, is_request, request_on, requests_by, response_to, responses, tick_requests}
use Rattle.tipc_node.specs.Nodes.{NodeState}
use Rattle.tipc_node.specs.Turns.{AreCast, casts_in, frames_to, is_cast_out, is_casts}
use Rattle.tipc_node.proofs.turns.Discovery.{discovery_kind, never_to}

-- a frame of a kind passes, or doesn't
one_out : (o : Outgoing) (rest : List Outgoing) (t : Bool) → is_cast_out o ≡ t → casts_in (o ∷ rest) ≡ cond t (o ∷ casts_in rest) (casts_in rest)
one_out o rest t is = ap (λ b. cond b (o ∷ casts_in rest) (casts_in rest)) is

pub casts_both : (fs gs : List Outgoing) → casts_in (fs ++ gs) ≡ casts_in fs ++ casts_in gs
casts_both fs gs = filter-append is_cast_out fs gs

-- ---- of a link

-- under an epoch there is no broadcast packet
epoch_kind : (first : ℕ) (h : Header) → is_epoch first ≡ true → is_casts (kind_of first h) ≡ false
epoch_kind first (header.Payload payload) is = ap (λ b. is_casts (if b then Links else Casts)) is
epoch_kind first (header.Fragmenter fragment) is = ap (λ b. is_casts (if b then Links else Casts)) is
epoch_kind first other is = refl

link_uncast : (o : Outgoing) → is_of_link o.frame ≡ true → is_cast_out o ≡ false
unfolding kind_in
link_uncast o is = epoch_kind (first_of o.frame) _ is

pub links_uncast : (word : ℕ) (frames : List Outgoing) → AreFor word frames → casts_in frames ≡ []
links_uncast word [] all = refl
links_uncast word (o ∷ os) all = one_out o os false (link_uncast o all.0.1) ∙ links_uncast word os all.1

-- ---- of discovery

alone_uncast : (o : Outgoing) → kind_in o.frame ≡ Finds → casts_in (o ∷ []) ≡ []
alone_uncast o finds = one_out o [] false (ap is_casts finds)

low_word : (n : NodeState) → IsNodeWord n.own → n.own < 2 ^ 32
low_word n node = (let most = node.1 in omega (arith, most))

request_uncast : (n : NodeState) (bearer : ℕ) → IsNodeWord n.own → casts_in (request_on n bearer ∷ []) ≡ []
request_uncast n bearer node = alone_uncast (request_on n bearer) (discovery_kind n.own n.boot Request (low_word n node))

tick_uncast : (n : NodeState) (bearer : ℕ) → IsNodeWord n.own → casts_in (tick_requests n bearer) ≡ []
tick_uncast n bearer node = either (λ fs. casts_in fs ≡ []) (asks_on n bearer) (request_on n bearer ∷ []) [] (request_uncast n bearer node) refl

pub requests_uncast : (d : Upkeep) (n : NodeState) → IsNodeWord n.own → casts_in (requests_by d n) ≡ []
unfolding requests_by
requests_uncast (upkeep.Mend bearer) n node = request_uncast n bearer node
requests_uncast (upkeep.Cut bearer) n node = refl
requests_uncast upkeep.Tick n node = casts_both (tick_requests n 0) (tick_requests n 1) ∙ ap (λ fs. fs ++ casts_in (tick_requests n 1)) (tick_uncast n 0 node) ∙ tick_uncast n 1 node

pub responses_uncast : (n : NodeState) (peer bearer : ℕ) (said : Header) → IsNodeWord n.own → casts_in (responses n peer bearer said) ≡ []
responses_uncast n peer bearer said node =
    either (λ fs. casts_in fs ≡ []) (is_request said) (response_to n peer bearer ∷ []) [] (alone_uncast (response_to n peer bearer) (discovery_kind n.own n.boot Response (low_word n node))) refl

-- ---- of a broadcast

-- the frames of what a node does at its broadcast link
pub deeds_cast : (n : NodeState) (deeds : List CastDeed) → n.boot < 2 ^ 32 → AreCast n → AreLawful deeds n.casting → All (IsOfBroadcast n.boot) (deeds_frames deeds n.casting)
deeds_cast n deeds low cast lawful =
    subst (λ boot. All (IsOfBroadcast boot) (deeds_frames deeds n.casting)) cast.boot (deeds_framed deeds n.casting (subst (λ boot. boot < 2 ^ 32) (sym cast.boot) low) lawful cast.framed).frames

pub casts_all : (boot : ℕ) (frames : List Outgoing) → All (IsOfBroadcast boot) frames → casts_in frames ≡ frames
casts_all boot [] all = refl
casts_all boot (o ∷ os) all =
    let is = All-head (IsOfBroadcast boot) o os all in
    one_out o os true (ap is_casts is.kind) ∙ ap (λ fs. o ∷ fs) (casts_all boot os (All-tail (IsOfBroadcast boot) o os all))

-- they are of the links to nobody
pub casts_to_none : (boot b : ℕ) (frames : List Outgoing) → All (IsOfBroadcast boot) frames → frames_to b frames ≡ []
casts_to_none boot b [] all = refl
casts_to_none boot b (o ∷ os) all =
    let is = All-head (IsOfBroadcast boot) o os all in
    ap (λ t. cond t (o ∷ frames_to b os) (frames_to b os)) (never_to b o is.low) ∙ casts_to_none boot b os (All-tail (IsOfBroadcast boot) o os all)
