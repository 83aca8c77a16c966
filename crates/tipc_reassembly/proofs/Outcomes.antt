-- One thing comes of packets: what they bring, and what is begun then.
use Rattle.std.proofs.Common.{◌≡◌, ℕ, List, [], ◌∷◌, ◌++◌, refl, sym, ap, subst, ◌∙◌}
use Rattle.tipc_types.specs.declared.packet_lists.Taken.{Taken}
use Rattle.tipc_fragments.specs.Cutting.{Piece}
use Rattle.tipc_fragments.specs.Joining.{Joining}
use Rattle.tipc_fragments.specs.Streams.{CameItem}
use Rattle.tipc_bundle.specs.Bundles.{IsInner}
use Rattle.tipc_bundle.specs.Splitting.{IsBundle, IsFirstBad}
use Rattle.tipc_bundle.proofs.Places.{bad_place_once, inside_or_bad}
use Rattle.tipc_reassembly.specs.declared.opening.Opened.{Opened}
use Rattle.tipc_reassembly.specs.declared.opening.Opened.TheVariants.{Passed}
use Rattle.tipc_reassembly.specs.Opening.{bad_bundle, Brings, BringsAll, bundle, fragment, go_on, IsFragment, message, none, other}
use Rattle.tipc_reassembly.specs.Slots.{BringsItems}
use Rattle.tipc_reassembly.proofs.OnePacket.{bundle_no_fragment, inner_no_bundle}
use Rattle.tipc_reassembly.proofs.SlotLaws.{bundle_brings, fragment_brings, one_brings}

-- two outcomes that are the same
pub record AreSame (opened more : List Opened) (last after : Joining) : Type 0 where
  pub opened_is : opened ≡ more
  pub left : last ≡ after

turned : {opened more : List Opened} {last after : Joining} → AreSame opened more last after → AreSame more opened after last
turned is = record { opened_is = sym is.opened_is; left = sym is.left }

both_same : {opened middle more : List Opened} {last between after : Joining} → AreSame opened middle last between → AreSame middle more between after → AreSame opened more last after
both_same one two = record { opened_is = one.opened_is ∙ two.opened_is; left = one.left ∙ two.left }

same_items : (s : Joining) (came : List CameItem) (opened more : List Opened) (last after : Joining)
    → BringsItems s came opened last → BringsItems s came more after → AreSame opened more last after
same_items s came opened more last after one two = record { opened_is = one.opened_is ∙ sym two.opened_is; left = one.left ∙ sym two.left }

-- what a bad bundle brings
bad_brings : (s : Joining) (bytes : List ℕ) (place by : ℕ) (opened : List Opened) (last : Joining) → IsBundle bytes → IsFirstBad bytes place
    → Brings s bytes by opened last → AreSame opened (Passed place ∷ []) last s
bad_brings s bytes place by opened last is bad (message inner) = absurd (inner_no_bundle bytes inner is)
bad_brings s bytes place by opened last is bad (bundle {packets = packets} bundled stand) = absurd (inside_or_bad packets bytes place stand bad)
bad_brings s bytes place by opened last is bad (bad_bundle {place = found} bundled first) =
    record { opened_is = ap (λ (k : ℕ). Passed k ∷ []) (bad_place_once bytes found place first bad); left = refl }
bad_brings s bytes place by opened last is bad (fragment {piece = piece} cut) = absurd (bundle_no_fragment bytes piece is cut)
bad_brings s bytes place by opened last is bad (other inner bundled cut) = absurd (bundled is)

-- what any other packet brings
other_brings : (s : Joining) (bytes : List ℕ) (by : ℕ) (opened : List Opened) (last : Joining) → (IsInner bytes → ⊥) → (IsBundle bytes → ⊥)
    → ((piece : Piece) → IsFragment bytes piece → ⊥) → Brings s bytes by opened last → AreSame opened (Passed 0 ∷ []) last s
other_brings s bytes by opened last no_inner no_bundle no_piece (message inner) = absurd (no_inner inner)
other_brings s bytes by opened last no_inner no_bundle no_piece (bundle bundled stand) = absurd (no_bundle bundled)
other_brings s bytes by opened last no_inner no_bundle no_piece (bad_bundle bundled bad) = absurd (no_bundle bundled)
other_brings s bytes by opened last no_inner no_bundle no_piece (fragment {piece = piece} cut) = absurd (no_piece piece cut)
other_brings s bytes by opened last no_inner no_bundle no_piece (other inner bundled cut) = record { opened_is = refl; left = refl }

pub one_outcome : (s : Joining) (bytes : List ℕ) (by : ℕ) (opened more : List Opened) (last after : Joining)
    → Brings s bytes by opened last → Brings s bytes by more after → AreSame opened more last after
one_outcome s bytes by opened more last after (message inner) two =
    same_items s _ _ more _ after (one_brings s bytes by _ _ inner (message inner)) (one_brings s bytes by more after inner two)
one_outcome s bytes by opened more last after (bundle {packets = packets} is stand) two =
    same_items s _ _ more _ after (bundle_brings s bytes packets by _ _ is stand (bundle is stand)) (bundle_brings s bytes packets by more after is stand two)
one_outcome s bytes by opened more last after (bad_bundle {place = place} is bad) two = turned (bad_brings s bytes place by more after is bad two)
one_outcome s bytes by opened more last after (fragment {piece = piece} is) two =
    same_items s _ _ more _ after (fragment_brings s bytes piece by _ _ is (fragment is)) (fragment_brings s bytes piece by more after is two)
one_outcome s bytes by opened more last after (other inner bundled cut) two = turned (other_brings s bytes by more after inner bundled cut two)

-- ---- packets one after the other

-- the first packet, and then the others
pub record Begins (s : Joining) (packet : Taken) (packets : List Taken) (opened : List Opened) (last : Joining) : Type 0 where
  pub between : Joining
  pub first : List Opened
  pub more : List Opened
  pub one : Brings s packet.packet packet.by first between
  pub rest : BringsAll between packets more last
  pub opened_is : opened ≡ first ++ more

pub begins : (s : Joining) (packet : Taken) (packets : List Taken) (opened : List Opened) (last : Joining) → BringsAll s (packet ∷ packets) opened last
    → Begins s packet packets opened last
begins s packet packets opened last (go_on {between = between} {opened = first} {more = more} one rest) =
    record { between = between; first = first; more = more; one = one; rest = rest; opened_is = refl }

none_is : (s : Joining) (opened : List Opened) (last : Joining) → BringsAll s [] opened last → AreSame [] opened s last
none_is s opened last none = record { opened_is = refl; left = refl }

pub one_outcome_of_all : (taken : List Taken) (s : Joining) (opened more : List Opened) (last after : Joining)
    → BringsAll s taken opened last → BringsAll s taken more after → AreSame opened more last after
one_outcome_of_all [] s opened more last after one two = both_same (turned (none_is s opened last one)) (none_is s more after two)
one_outcome_of_all (packet ∷ packets) s opened more last after one two =
    let a = begins s packet packets opened last one in
    let b = begins s packet packets more after two in
    let here = one_outcome s packet.packet packet.by a.first b.first a.between b.between a.one b.one in
    let others = one_outcome_of_all packets b.between a.more b.more last after (subst (λ (x : Joining). BringsAll x packets a.more last) here.left a.rest) b.rest in
    record {
      opened_is = a.opened_is
          ∙ ap (λ (os : List Opened). os ++ a.more) here.opened_is
          ∙ ap (λ (os : List Opened). b.first ++ os) others.opened_is
          ∙ sym b.opened_is;
      left = others.left;
    }
