-- How old a frame can be that was sent since a moment of a call: what links numbered since, or what waited on broadcast
-- links.
use Rattle.std.specs.Prelude.{drop, if◌then◌else◌}
use Rattle.std.proofs.Common.{◌≡◌, ◌≢◌, ◌≤◌, ◌+◌, ◌∙◌, ℕ, Bool, true, false, List, Option, Some, None, length, slice_index_or, refl, sym, ap, subst, arith}
use Rattle.std.proofs.lemmas.List.{drop_at}
use Rattle.tipc_types.specs.Address.{node_word}
use Rattle.tipc_types.specs.Limits.{most_age}
use Rattle.tipc_header.specs.declared.fault.HeaderFault.{HeaderFault}
use Rattle.tipc_header.specs.declared.frames.FrameKind.{FrameKind}
use Rattle.tipc_header.specs.declared.frames.FrameKind.TheVariants.{Casts, Finds, Links}
use Rattle.tipc_header.specs.declared.packet.Header.{Header}
use Rattle.tipc_header.specs.Faults.{fault_of}
use Rattle.tipc_header.specs.Frames.{envelope, first_of, kind_in}
use Rattle.tipc_header.specs.Reading.{fields_at}
use Rattle.tipc_header.specs.Spelling.{Fields, spelling}
use Rattle.tipc_header.proofs.Again.{again, no_fault}
use Rattle.tipc_header.proofs.FrameWords.{length-envelope}
use Rattle.tipc_contact.specs.Sides.{boot_of}
use Rattle.tipc_link.specs.Links.{LinkEnd, is_traffic}
use Rattle.tipc_paired.specs.Paired.{IsNode}
use Rattle.tipc_paired.specs.Views.{epoch_in, er_of, es_of}
use Rattle.tipc_paired.proofs.wires.Frames.{er_of-frame, es_of-frame}
use Rattle.tipc_two_nodes.specs.Sights.{AreSeen, Sight}
use Rattle.tipc_two_nodes.proofs.sights.Sights.{ends}
use Rattle.tipc_node.specs.Nodes.{is_frame_size}
use Rattle.tipc_node.specs.Turns.{IsFrom}
use Rattle.tipc_replay.specs.declared.air.Sent.{Sent}
use Rattle.tipc_replay.specs.declared.flying.Aging.TheVariants as aging
use Rattle.tipc_replay.specs.Air.{number_of_node}
use Rattle.tipc_replay.specs.Due.{age_by, age_of, aging_by_fault, aging_by_kind, aging_of, cast_age, frame_for, is_state, state_age}
use Rattle.tipc_replay.specs.Sound.{IsAirborne, IsNumber}
use Rattle.tipc_replay.specs.States.{MemberState, boot_at, cast_count_at, count_at}
use Rattle.tipc_replay.specs.Steps.{stage}
use Rattle.tipc_replay.specs.Views.{sight_at}
use Rattle.tipc_replay.proofs.frames.Ages.{number_is}
use Rattle.tipc_replay.proofs.frames.Coming.{for_node, spoken_to, to_all_nodes}
use Rattle.tipc_replay.proofs.frames.Reaching.{placed}
use Rattle.tipc_world.specs.CalmWorlds.{IsCalmWorld, IsFromMended}
use Rattle.tipc_world.specs.Poised.{IsPoised}
use Rattle.tipc_world.specs.RoundParts.{IsKept, SettlesOn}
use Rattle.tipc_world.specs.States.{WorldState, is_there}
use Rattle.tipc_world.specs.StillWorlds.{footing_at}
use Rattle.tipc_world.specs.YoungWorlds.{CastsNothing, IsSince, NumbersFew, casts_at, link_count}
use Rattle.tipc_world.proofs.rounds.Since.{numbers_used}
use Rattle.tipc_world.proofs.rounds.StillWorlds.{seen_end, sender_there}
use Rattle.tipc_world.proofs.rounds.Traffic.{of_up_link}
use Rattle.tipc_world.proofs.rounds.UpLinks.{both_up, the_member}

-- ---- what an age is counted by

kind_aging : (f : Sent) (k : FrameKind) → is_frame_size (length f.frame) ≡ true → fault_of (drop 16 f.frame) ≡ None → kind_in f.frame ≡ k → aging_of f.frame ≡ aging_by_kind f.frame k (fields_at (drop 16 f.frame)).header
unfolding aging_of
kind_aging f k size clear is =
    ap (λ b. if b then aging_by_fault f.frame (fault_of (drop 16 f.frame)) else aging.Never) size
    ∙ (ap (aging_by_fault f.frame) clear ∙ ap (λ j. aging_by_kind f.frame j (fields_at (drop 16 f.frame)).header) is)

by_session : (members : List (Option MemberState)) (f : Sent) (n bearer most : ℕ) (h : Header) → (is_traffic h ≡ true → state_age members f n bearer (es_of f.frame) (er_of f.frame) ≤ most)
    → age_by members f n bearer (aging_by_kind f.frame Links h) ≤ most
by_session members f n bearer most h young = by (is_traffic h) (is_state h) young
  where
    by : (b c : Bool) → (b ≡ true → state_age members f n bearer (es_of f.frame) (er_of f.frame) ≤ most)
        → age_by members f n bearer (if b then (if c then aging.State (es_of f.frame) (er_of f.frame) else aging.Numbered (es_of f.frame) (er_of f.frame)) else aging.Never) ≤ most
    by true true young = young refl
    by true false young = (let all = young refl in omega (arith, all))
    by false c young = omega arith

-- a discovery packet is never too old
never_ages : (bytes : List ℕ) → kind_in bytes ≡ Finds → aging_of bytes ≡ aging.Never
unfolding aging_of
never_ages bytes is = by (is_frame_size (length bytes)) (fault_of (drop 16 bytes))
  where
    by : (size : Bool) (fault : Option HeaderFault) → (if size then aging_by_fault bytes fault else aging.Never) ≡ aging.Never
    by true (Some fault) = refl
    by true None = ap (λ k. aging_by_kind bytes k (fields_at (drop 16 bytes)).header) is
    by false fault = refl

pub finds_young : (members : List (Option MemberState)) (f : Sent) (n bearer : ℕ) → kind_in f.frame ≡ Finds → age_of members f n bearer ≤ most_age
unfolding age_of
finds_young members f n bearer is = (let none : age_by members f n bearer (aging_of f.frame) ≡ 0 = ap (age_by members f n bearer) (never_ages f.frame is) in omega (arith, none))

-- the age of a frame by its kind
pub age_at_most : (members : List (Option MemberState)) (f : Sent) (n bearer most : ℕ) (k : FrameKind) → is_frame_size (length f.frame) ≡ true → fault_of (drop 16 f.frame) ≡ None → kind_in f.frame ≡ k
    → (k ≡ Links → is_traffic (fields_at (drop 16 f.frame)).header ≡ true → state_age members f n bearer (es_of f.frame) (er_of f.frame) ≤ most)
    → (k ≡ Casts → cast_age members f (first_of f.frame) ≤ most) → age_of members f n bearer ≤ most
unfolding age_of
age_at_most members f n bearer most k size clear is links casts = subst (λ c. age_by members f n bearer c ≤ most) (sym (kind_aging f k size clear is)) (by k links casts)
  where
    by : (j : FrameKind) → (j ≡ Links → is_traffic (fields_at (drop 16 f.frame)).header ≡ true → state_age members f n bearer (es_of f.frame) (er_of f.frame) ≤ most) → (j ≡ Casts → cast_age members f (first_of f.frame) ≤ most)
        → age_by members f n bearer (aging_by_kind f.frame j (fields_at (drop 16 f.frame)).header) ≤ most
    by Links young cast = by_session members f n bearer most (fields_at (drop 16 f.frame)).header (young refl)
    by Casts young cast = cast refl
    by Finds young cast = omega arith

-- ---- boots

-- the epochs of a footing are of the node's boot
pub foot_boot : (start : WorldState) (a b bearer : ℕ) → IsKept start → IsNumber a → IsNumber b → a ≢ b → bearer ≤ 1 → boot_of ((footing_at start a b).epoch bearer) ≡ boot_at start.members a
unfolding sight_at
foot_boot start a b bearer kept a_is b_is apart on_one = ap boot_of (seen_end v bearer on_one) ∙ by (v.ends bearer) refl
  where
    v : Sight
    v = sight_at start.members start.air a b

    seen : AreSeen (sight_at start.members start.air a b) (sight_at start.members start.air b a)
    seen = kept.nodes.sound.pairs a b a_is b_is apart

    node : IsNode v.node
    node = subst IsNode seen.seen_here.node seen.talking.twins.paired.here.node

    by : (o : Option LinkEnd) → v.ends bearer ≡ o → boot_of (epoch_in v.node.contact o) ≡ boot_at start.members a
    by None none = node.contact
    by (Some e) is = (ends v (sight_at start.members start.air b a) bearer e seen is).boot

-- ---- broadcast

-- a broadcast link has used no more numbers than it had accepted packets when the call began
pub used_within : (start w : WorldState) (n boot : ℕ) → SettlesOn start w → CastsNothing start w → is_there w n ≡ true → boot ≡ boot_at start.members n → cast_count_at w.members n boot ≤ casts_at start n
used_within start w n boot on casts here present =
    let m = the_member (slice_index_or w.members n None) here in
    let used = numbers_used w n boot m.0 m.1 (present ∙ sym (on.boots n)) in
    let same = casts n here in
    omega (arith, used, same)

-- ---- a frame

state_young : (start base w : WorldState) (b n bearer most : ℕ) (f : Sent) (es er : ℕ) (p : Fields) → IsKept start → IsPoised start → IsCalmWorld start w → NumbersFew start base w most → CastsNothing start w → IsSince start base bearer f → IsFromMended start bearer f → bearer ≤ 1
    → (place : ℕ) → frame_for w.air n bearer place ≡ Some f → IsNumber n → IsFrom b f.frame es er p → kind_in f.frame ≡ Links → is_traffic p.header ≡ true → f.from.word ≡ node_word b → state_age w.members f n bearer (es_of f.frame) (er_of f.frame) ≤ most + 246
state_young start base w b n bearer most f es er p kept_start poised g few casts since said on_one place found n_is brings kind_is traffic from =
    let kept = g.on.kept kept_start in
    let sent_by = sender_there w n bearer place f b es er p kept found brings kind_is in
    let sender = the_member (slice_index_or w.members b None) sent_by.there in
    let back : n ≢ b = λ same. sent_by.apart (sym same) in
    let link = of_up_link start w b n bearer sent_by.place f sender.0 es er p kept_start g said sent_by.number n_is sent_by.apart on_one sent_by.goes_here sender.1 sent_by.sent brings traffic in
    let up = both_up start b n bearer kept_start poised sent_by.apart on_one link.up in
    let es_is : es_of f.frame ≡ (footing_at start b n).epoch bearer = ap es_of brings.frame_is ∙ (es_of-frame es er (spelling p) brings.es_fits brings.er_fits ∙ link.es_is) in
    let er_is : er_of f.frame ≡ (footing_at start n b).epoch bearer = ap er_of brings.frame_is ∙ (er_of-frame es er (spelling p) brings.es_fits brings.er_fits ∙ link.er_is) in
    let number : number_of_node f.from.word ≡ b = number_is f.from.word b from in
    let counted = since.links b n on_one sent_by.number n_is sent_by.apart sent_by.goes_here in
    let own = counted.own link.up in
    let peer = counted.peer er_is up.0 in
    let own_few = few.few b n bearer sent_by.number n_is sent_by.apart on_one link.up in
    let peer_few = few.few n b bearer n_is sent_by.number back on_one up.0 in
    let first : count_at w.members (number_of_node f.from.word) n bearer (es_of f.frame) ≡ link_count start w b n bearer = ap (λ k. count_at w.members k n bearer (es_of f.frame)) number ∙ ap (count_at w.members b n bearer) es_is in
    let second : count_at w.members n (number_of_node f.from.word) bearer (er_of f.frame) ≡ link_count start w n b bearer = ap (λ k. count_at w.members n k bearer (er_of f.frame)) number ∙ ap (count_at w.members n b bearer) er_is in
    let boot : boot_of (es_of f.frame) ≡ boot_at start.members b = ap boot_of es_is ∙ foot_boot start b n bearer kept_start sent_by.number n_is sent_by.apart on_one in
    let cast : cast_count_at w.members (number_of_node f.from.word) (boot_of (es_of f.frame)) ≡ cast_count_at w.members b (boot_of (es_of f.frame)) = ap (λ k. cast_count_at w.members k (boot_of (es_of f.frame))) number in
    let cast_few = used_within start w b (boot_of (es_of f.frame)) g.on casts sent_by.there boot in
    let cast_since = since.casts.own b from in
    let to_it = for_node (stage w.members w.air) n bearer place f kept.nodes.sound found kind_is in
    let here : is_there w n ≡ true = g.on.nodes n ∙ up.1 in
    let peer_cast_few = used_within start w n f.peer_boot g.on casts here (since.casts.peer_boot n to_it) in
    let peer_cast_since = since.casts.peer n up.1 to_it in
    omega (arith, own, peer, own_few, peer_few, first, second, cast, cast_few, cast_since, peer_cast_few, peer_cast_since)

pub age_since : (start base w : WorldState) (n bearer place most : ℕ) (f : Sent) → IsKept start → IsPoised start → IsCalmWorld start w → NumbersFew start base w most → CastsNothing start w → IsSince start base bearer f → IsFromMended start bearer f → bearer ≤ 1
    → frame_for w.air n bearer place ≡ Some f → IsNumber n → age_of w.members f n bearer ≤ most + 246
age_since start base w n bearer place most f kept_start poised g few casts since said on_one found n_is =
    let kept = g.on.kept kept_start in
    let spoken = spoken_to (stage w.members w.air) n bearer place f kept.nodes.sound found in
    let q = spoken.said in
    let flown : IsAirborne f = kept.nodes.sound.frames bearer place f (placed w.air n bearer place f found).0 in
    let packet : drop 16 f.frame ≡ spelling q.packet = ap (drop 16) q.is_from.frame_is ∙ drop_at (envelope q.es q.er) (spelling q.packet) 16 (length-envelope q.es q.er) in
    let read : fields_at (drop 16 f.frame) ≡ q.packet = ap fields_at packet ∙ again q.packet q.is_from.fits in
    let clear : fault_of (drop 16 f.frame) ≡ None = ap fault_of packet ∙ no_fault q.packet q.is_from.fits in
    age_at_most w.members f n bearer (most + 246) (kind_in f.frame) flown.size clear refl
    (λ kind_is traffic. state_young start base w spoken.sender n bearer most f q.es q.er q.packet kept_start poised g few casts since said on_one place found n_is q.is_from kind_is
    (ap (λ (r : Fields). is_traffic r.header) (sym read) ∙ traffic) spoken.from)
    (λ kind_is. cast_young kind_is spoken.sender spoken.from)
  where
    cast_young : kind_in f.frame ≡ Casts → (a : ℕ) → f.from.word ≡ node_word a → cast_age w.members f (first_of f.frame) ≤ most + 246
    cast_young kind_is a from =
        let sound = (g.on.kept kept_start).nodes.sound in
        let at = (placed w.air n bearer place f found).0 in
        let all = to_all_nodes (stage w.members w.air) n bearer place f sound found kind_is in
        let by = sound.senders bearer place f at in
        let words : node_word by.0 ≡ node_word a = sym by.1 ∙ from in
        let one : by.0 ≡ a = omega (arith, words) in
        let here : is_there w a ≡ true = subst (λ k. is_there w k ≡ true) one by.2 in
        let used = used_within start w a (first_of f.frame) g.on casts here (since.casts.boot a from all kind_is) in
        let beside = since.casts.own a from in
        let number : cast_count_at w.members (number_of_node f.from.word) (first_of f.frame) ≡ cast_count_at w.members a (first_of f.frame) = ap (λ k. cast_count_at w.members k (first_of f.frame)) (number_is f.from.word a from) in
        omega (arith, used, beside, number)
