-- Who is in contact at a node's broadcast link: other nodes, to which a link was up when the call began.
use Rattle.std.specs.Prelude.{◌||◌, if◌then◌else◌, is_some, option_map}
use Rattle.std.proofs.Common.{◌≡◌, ◌≢◌, ◌-◌, ◌∙◌, ℕ, Bool, true, false, None, Option, Some, slice_index_or, inl, inr, refl, sym, ap, arith}
use Rattle.tipc_types.specs.Address.{IsNodeWord, node_word}
use Rattle.tipc_broadcast.specs.declared.contacts.Contact.{Contact}
use Rattle.tipc_broadcast.specs.Contacts.{contact_with}
use Rattle.tipc_pair.specs.Facing.{contact_between}
use Rattle.tipc_node.specs.Casting.{boot_of_contact}
use Rattle.tipc_node.specs.Nodes.{is_met, pair_with}
use Rattle.tipc_node.specs.Turns.{HaveJoined}
use Rattle.tipc_node.proofs.work.Casting.{joined_there}
use Rattle.tipc_replay.specs.Sound.{IsNumber}
use Rattle.tipc_replay.specs.States.{MemberState}
use Rattle.tipc_replay.proofs.LookUps.{member_at-is}
use Rattle.tipc_replay.proofs.casts.CasterLooks.{contact_at-is}
use Rattle.tipc_world.specs.declared.places.Places.{Places}
use Rattle.tipc_world.specs.CalmWorlds.{IsCalmWorld}
use Rattle.tipc_world.specs.RoundParts.{IsKept, IsRound}
use Rattle.tipc_world.specs.Rows.{WasUp}
use Rattle.tipc_world.specs.States.{WorldState}
use Rattle.tipc_world.specs.StillWorlds.{footing_at}
use Rattle.tipc_world.proofs.casts.Going.{contact_after}
use Rattle.tipc_world.proofs.rounds.AnyPeer.{which_peer}
use Rattle.tipc_world.proofs.rounds.Contacts.{contact_with_footings}
use Rattle.tipc_world.proofs.rounds.StillWorlds.{node_number}
use Rattle.tipc_world.proofs.rounds.TickStates.{CalmRound, round_going, ticking}

-- the node of an address word in contact, and a bearer on which the link to it was up
pub record IsPeerOf (start : WorldState) (a word : ℕ) : Type 0 where
  pub peer : ℕ
  pub bearer : ℕ
  pub word_is : node_word peer ≡ word
  pub up : WasUp start a peer bearer

some_of_if : (t : Bool) (p : ℕ × ℕ) (o : Option (ℕ × ℕ)) → o ≡ (if t then Some p else None) → is_some o ≡ true → t ≡ true
some_of_if true p o is some = refl
some_of_if false p o is some = sym (ap (λ x. is_some x) is) ∙ some

mapped_some : {A B : Type 0} (f : A → B) (o : Option A) (y : B) → option_map f o ≡ Some y → is_some o ≡ true
mapped_some f None y is = absurd cc
mapped_some f (Some x) y is = refl

either_up : (start : WorldState) (a b : ℕ) → IsNumber a → IsNumber b → a ≢ b → (s t : Bool) → (footing_at start a b).up 0 ≡ s → (footing_at start a b).up 1 ≡ t → (s || t) ≡ true → (bearer : ℕ) × WasUp start a b bearer
either_up start a b a_is b_is apart true t first second is = (0, record { here = a_is; there = b_is; apart = apart; on_one = omega arith; up = first })
either_up start a b a_is b_is apart false t first second is = (1, record { here = a_is; there = b_is; apart = apart; on_one = omega arith; up = second ∙ is })

peer_there : (start w : WorldState) (a : ℕ) (m : MemberState) (word : ℕ) (c : Contact) → IsKept w → IsCalmWorld start w → slice_index_or w.members a None ≡ Some m → HaveJoined m.node → IsNodeWord word → contact_with word m.node.casting.contacts ≡ Some c → IsPeerOf start a word
peer_there start w a m word c kept calm there joined node is = elim (which_peer w a b m kept there) [
  | inr none ↦
      let no : true ≡ false = sym (ap (λ o. is_some o) here) ∙ (joined_there m.node b joined ∙ ap is_met none) in
      absurd cc
  | inl other ↦
      let met = mapped_some (λ (numbers : ℕ × ℕ). boot_of_contact numbers.1) (contact_between (pair_with m.node b)) c.boot (sym (joined b) ∙ ap (option_map (λ (d : Contact). d.boot)) here) in
      let stands = sym (contact_at-is w.members a b m (member_at-is w.members a m there)) ∙ contact_with_footings start w a b m kept calm there other.0 other.1 in
      let up = some_of_if ((footing_at start a b).up 0 || (footing_at start a b).up 1) ((footing_at start a b).contact, (footing_at start b a).contact) (contact_between (pair_with m.node b)) stands met in
      let link = either_up start a b (node_number w a m kept there) other.0 other.1 ((footing_at start a b).up 0) ((footing_at start a b).up 1) refl refl up in
      record { peer = b; bearer = link.0; word_is = word_is; up = link.1 }
]
  where
    b : ℕ
    b = word - 16781312

    word_is : node_word b ≡ word
    word_is = (let low = node.0 in omega (arith, low))

    here : contact_with (node_word b) m.node.casting.contacts ≡ Some c
    here = ap (λ k. contact_with k m.node.casting.contacts) word_is ∙ is

-- through a round
module _ {start : WorldState} {places : Places} {outset : WorldState} {ends : Places} {now : WorldState} {r : IsRound places outset ends now} (k : CalmRound start places outset ends now r) {a : ℕ} (m : MemberState) (there : slice_index_or outset.members a None ≡ Some m) where
  -- in contact when it begins
  pub peer_before : (word : ℕ) (c : Contact) → IsNodeWord word → contact_with word m.node.casting.contacts ≡ Some c → IsPeerOf start a word
  peer_before word c node is =
      let t = ticking start places outset ends now r a k (node_number outset a m (k.calm.on.kept k.kept) there) (ap (λ o. is_some o) there) in
      let before = t.0.ticks.before in
      let goes = t.1.casts.links a m before there t.0.ticks.was in
      let more = contact_after (contact_with word m.node.casting.contacts) (contact_with word before.node.casting.contacts) c (goes.contacts word) is in
      peer_there start t.0.before a before word more.0 (t.1.calm.on.kept k.kept) t.1.calm t.0.ticks.was t.0.ticks.does.turn.joined_before node more.1

  -- in contact when it is over
  pub peer_after : (n : MemberState) → slice_index_or now.members a None ≡ Some n → (word : ℕ) (c : Contact) → IsNodeWord word → contact_with word n.node.casting.contacts ≡ Some c → IsPeerOf start a word
  peer_after n there_now word c node is = by (contact_with word m.node.casting.contacts) refl
    where
      by : (o : Option Contact) → contact_with word m.node.casting.contacts ≡ o → IsPeerOf start a word
      by (Some d) was = peer_before word d node was
      by None none =
          let goes = (round_going start places outset ends now r k).casts.links a m n there there_now in
          absurd (let wrong : None ≡ Some c = sym (goes.none word none) ∙ is in cc)
