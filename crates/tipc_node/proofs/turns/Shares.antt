-- Of the frames of a upkeep those to one node are those of that neighbour.
use Rattle.std.proofs.Common.{◌≡◌, ◌≢◌, ◌&&◌, ℕ, zero, suc, ◌+◌, ◌<◌, true, false, List, [], ◌∷◌, ◌++◌, Option, Some, None, map, slice_index_or, refl, ap, ◌∙◌, subst, append-nil, arith}
use Rattle.std.specs.List.{All, flat_map}
use Rattle.std.proofs.lemmas.Bool.Decides.{nat_tests}
use Rattle.std.proofs.lemmas.List.Elements.{filter-append}
use Rattle.tipc_types.specs.Address.{IsNodeWord, node_word}
use Rattle.tipc_types.specs.declared.identity.To.{To}
use Rattle.tipc_types.specs.declared.identity.To.TheVariants as to
use Rattle.tipc_outside.specs.declared.outgoing.Outgoing.{Outgoing}
use Rattle.tipc_header.specs.Frames.{is_of_link}
use Rattle.tipc_node.specs.declared.neighbours.Upkeep.{Upkeep}
use Rattle.tipc_broadcast.specs.Deeds.{deeds_frames}
use Rattle.tipc_broadcast.specs.Pieces.{IsOfBroadcast}
use Rattle.tipc_node.specs.Neighbours.{Done}
use Rattle.tipc_node.specs.Discovery.{requests_by, upkeep_frames}
use Rattle.tipc_node.specs.Nodes.{NodeState, after_all, after_one, numbered_all, numbered_one, parts_of, states_all, states_one, upkeep_deeds}
use Rattle.tipc_node.specs.Turns.{casts_in, frames_to, is_out_to, is_to}
use Rattle.tipc_node.proofs.turns.CastFrames.{casts_all, casts_both, casts_to_none, links_uncast, requests_uncast}
use Rattle.tipc_pair.proofs.turns.Addressing.{AreFor, IsFor}
use Rattle.tipc_node.proofs.turns.Entries.{AreForEach, numbered_are, part_of, states_are}
use Rattle.tipc_node.proofs.turns.Discovery.{requests_to}

-- ---- frames that are all for one node

to_it : (b : ℕ) (t : To) → t ≡ to.Node (record { word = node_word b }) → is_to b t ≡ true
to_it b t is = ap (is_to b) is ∙ grind (arith, nat_tests)

to_another : (b c : ℕ) (t : To) → c ≢ b → t ≡ to.Node (record { word = node_word c }) → is_to b t ≡ false
to_another b c t apart is = ap (is_to b) is ∙ grind (arith, nat_tests, apart)

for_it : (b : ℕ) (o : Outgoing) → IsFor (node_word b) o → is_out_to b o ≡ true
for_it b o is = ap (λ t. t && is_of_link o.frame) (to_it b o.to is.0) ∙ is.1

for_another : (b c : ℕ) (o : Outgoing) → c ≢ b → IsFor (node_word c) o → is_out_to b o ≡ false
for_another b c o apart is = ap (λ t. t && is_of_link o.frame) (to_another b c o.to apart is.0)

pub frames_to-own : (b : ℕ) (frames : List Outgoing) → AreFor (node_word b) frames → frames_to b frames ≡ frames
frames_to-own b [] all = refl
frames_to-own b (o ∷ os) all = rw (for_it b o all.0) (ap (λ zs. o ∷ zs) (frames_to-own b os all.1))

pub frames_to-other : (b c : ℕ) (frames : List Outgoing) → c ≢ b → AreFor (node_word c) frames → frames_to b frames ≡ []
frames_to-other b c [] apart all = refl
frames_to-other b c (o ∷ os) apart all = rw (for_another b c o apart all.0) (frames_to-other b c os apart all.1)

-- ---- the frames of all neighbours

-- each neighbour's frames are for it, those of one part of what it sends; the first of them has that number
abbrev AreShares : (Done → List Outgoing) → ℕ → List (Option Done) → Type 0
AreShares part first xs = (k : ℕ) (x : Done) → slice_index_or xs k None ≡ Some x → AreFor (node_word (first + k)) (part x)

one_for : (part : Done → List Outgoing) (first : ℕ) (x : Option Done) (xs : List (Option Done)) → AreShares part first (x ∷ xs) → AreFor (node_word first) (part_of part x)
one_for part first None xs all = tt
one_for part first (Some x) xs all = subst (λ k. AreFor (node_word k) (part x)) (omega arith) (all 0 x refl)

later_shares : (part : Done → List Outgoing) (first : ℕ) (x : Option Done) (xs : List (Option Done)) → AreShares part first (x ∷ xs) → AreShares part (first + 1) xs
later_shares part first x xs all k y is = subst (λ j. AreFor (node_word j) (part y)) (omega arith) (all (suc k) y is)

none_to : (part : Done → List Outgoing) (first : ℕ) (xs : List (Option Done)) (b : ℕ) → b < first → AreShares part first xs → frames_to b (flat_map (part_of part) xs) ≡ []
none_to part first [] b below all = refl
none_to part first (x ∷ xs) b below all =
    filter-append (is_out_to b) (part_of part x) (flat_map (part_of part) xs)
    ∙ ap (λ zs. zs ++ frames_to b (flat_map (part_of part) xs)) (frames_to-other b first (part_of part x) (λ e. omega arith) (one_for part first x xs all))
    ∙ none_to part (first + 1) xs b (omega arith) (later_shares part first x xs all)

one_to : (part : Done → List Outgoing) (first : ℕ) (xs : List (Option Done)) (k : ℕ) → AreShares part first xs → frames_to (first + k) (flat_map (part_of part) xs) ≡ part_of part (slice_index_or xs k None)
one_to part first [] k all = refl
one_to part first (x ∷ xs) zero all =
    filter-append (is_out_to (first + 0)) (part_of part x) (flat_map (part_of part) xs)
    ∙ ap (λ zs. zs ++ frames_to (first + 0) (flat_map (part_of part) xs)) (frames_to-own (first + 0) (part_of part x) (subst (λ j. AreFor (node_word j) (part_of part x)) (omega arith) (one_for part first x xs all)))
    ∙ ap (λ zs. part_of part x ++ zs) (none_to part (first + 1) xs (first + 0) (omega arith) (later_shares part first x xs all)) ∙ append-nil _
one_to part first (x ∷ xs) (suc k) all =
    filter-append (is_out_to (first + suc k)) (part_of part x) (flat_map (part_of part) xs)
    ∙ ap (λ zs. zs ++ frames_to (first + suc k) (flat_map (part_of part) xs)) (frames_to-other (first + suc k) first (part_of part x) (λ e. omega arith) (one_for part first x xs all))
    ∙ ap (λ j. frames_to j (flat_map (part_of part) xs)) (omega arith) ∙ one_to part (first + 1) xs k (later_shares part first x xs all)

part_shares : (part : Done → List Outgoing) (xs : List (Option Done)) (b : ℕ) → ((k : ℕ) (x : Done) → slice_index_or xs k None ≡ Some x → AreFor (node_word k) (part x)) → frames_to b (flat_map (part_of part) xs) ≡ part_of part (slice_index_or xs b None)
part_shares part xs b all = ap (λ j. frames_to j (flat_map (part_of part) xs)) (omega arith) ∙ one_to part 0 xs b (λ k x is. subst (λ j. AreFor (node_word j) (part x)) (omega arith) (all k x is))

part_states : (o : Option Done) → part_of (λ x. x.states) o ≡ states_one o
part_states None = refl
part_states (Some x) = refl

part_numbered : (o : Option Done) → part_of (λ x. x.numbered) o ≡ numbered_one o
part_numbered None = refl
part_numbered (Some x) = refl

-- those of broadcast packets are for nobody alone
pub shares : (d : Upkeep) (n : NodeState) (b : ℕ) → All (IsOfBroadcast n.boot) (deeds_frames (upkeep_deeds d n) n.casting) → AreForEach (parts_of d n)
    → frames_to b (upkeep_frames d n) ≡ states_one (slice_index_or (parts_of d n) b None) ++ numbered_one (slice_index_or (parts_of d n) b None)
shares d n b cast all =
    let os = parts_of d n in
    let part = slice_index_or os b None in
    let casts = deeds_frames (upkeep_deeds d n) n.casting in
    let one = ap (frames_to b) (states_are os) ∙ part_shares (λ x. x.states) os b (λ k x is. (all k x is).0) ∙ part_states part in
    let two = ap (frames_to b) (numbered_are os) ∙ part_shares (λ x. x.numbered) os b (λ k x is. (all k x is).1) ∙ part_numbered part in
    let first : frames_to b (states_all os ++ requests_by d n) ≡ states_one part =
    filter-append (is_out_to b) (states_all os) (requests_by d n) ∙ ap (λ zs. zs ++ frames_to b (requests_by d n)) one ∙ ap (λ zs. states_one part ++ zs) (requests_to d n b) ∙ append-nil (states_one part) in
    let behind : frames_to b (numbered_all os ++ casts) ≡ numbered_one part =
    filter-append (is_out_to b) (numbered_all os) casts ∙ ap (λ zs. zs ++ frames_to b casts) two ∙ ap (λ zs. numbered_one part ++ zs) (casts_to_none n.boot b casts cast) ∙ append-nil (numbered_one part) in
    filter-append (is_out_to b) (states_all os ++ requests_by d n) (numbered_all os ++ casts) ∙ ap (λ zs. zs ++ frames_to b (numbered_all os ++ casts)) first ∙ ap (λ zs. states_one part ++ zs) behind

-- ---- the frames of the broadcast

-- none is among those of one part of what the neighbours send
part_uncast : (part : Done → List Outgoing) (first : ℕ) (xs : List (Option Done)) → AreShares part first xs → casts_in (flat_map (part_of part) xs) ≡ []
part_uncast part first [] all = refl
part_uncast part first (x ∷ xs) all =
    casts_both (part_of part x) (flat_map (part_of part) xs) ∙ ap (λ fs. fs ++ casts_in (flat_map (part_of part) xs)) (links_uncast (node_word first) (part_of part x) (one_for part first x xs all))
    ∙ part_uncast part (first + 1) xs (later_shares part first x xs all)

-- so those of a upkeep are those of its deeds
pub upkeep_casts : (d : Upkeep) (n : NodeState) → IsNodeWord n.own → All (IsOfBroadcast n.boot) (deeds_frames (upkeep_deeds d n) n.casting) → AreForEach (parts_of d n)
    → casts_in (upkeep_frames d n) ≡ deeds_frames (upkeep_deeds d n) n.casting
upkeep_casts d n node cast all =
    let os = parts_of d n in
    let casts = deeds_frames (upkeep_deeds d n) n.casting in
    let each : (part : Done → List Outgoing) → ((b : ℕ) (x : Done) → slice_index_or os b None ≡ Some x → AreFor (node_word b) (part x)) → casts_in (flat_map (part_of part) os) ≡ [] =
    λ part all. part_uncast part 0 os (λ k x is. subst (λ j. AreFor (node_word j) (part x)) (omega arith) (all k x is)) in
    let one : casts_in (states_all os) ≡ [] = ap casts_in (states_are os) ∙ each (λ x. x.states) (λ b x is. (all b x is).0) in
    let two : casts_in (numbered_all os) ≡ [] = ap casts_in (numbered_are os) ∙ each (λ x. x.numbered) (λ b x is. (all b x is).1) in
    let first : casts_in (states_all os ++ requests_by d n) ≡ [] = casts_both (states_all os) (requests_by d n) ∙ ap (λ fs. fs ++ casts_in (requests_by d n)) one ∙ requests_uncast d n node in
    let behind : casts_in (numbered_all os ++ casts) ≡ casts = casts_both (numbered_all os) casts ∙ ap (λ fs. fs ++ casts_in casts) two ∙ casts_all n.boot casts cast in
    casts_both (states_all os ++ requests_by d n) (numbered_all os ++ casts) ∙ ap (λ fs. fs ++ casts_in (numbered_all os ++ casts)) first ∙ behind

-- ---- the neighbours after a upkeep

pub mapped_at : (os : List (Option Done)) (b : ℕ) → slice_index_or (map after_one os) b None ≡ after_one (slice_index_or os b None)
mapped_at [] b = refl
mapped_at (o ∷ os) zero = refl
mapped_at (o ∷ os) (suc b) = mapped_at os b

pub after_at : (os : List (Option Done)) (b : ℕ) → slice_index_or (after_all os) b None ≡ after_one (slice_index_or os b None)
unfolding after_all
after_at os b = mapped_at os b
