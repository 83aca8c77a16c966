-- What stands beside a STATE that a node tells at its tick in a round of a calm world, and what it shows of the
-- broadcast.
use Rattle.std.specs.Prelude.{is_some, unwrap_or}
use Rattle.std.proofs.Common.{◌≡◌, ◌≢◌, ◌≤◌, ◌+◌, ◌∙◌, ℕ, true, [], Some, None, slice_index_or, refl, sym, ap, arith}
use Rattle.tipc_types.specs.Address.{node_word}
use Rattle.tipc_types.specs.declared.link_words.BroadcastState.{BroadcastState}
use Rattle.tipc_types.specs.declared.node_calls.EventNote.TheVariants as note
use Rattle.tipc_outside.specs.declared.outgoing.Outgoing.{Outgoing}
use Rattle.tipc_broadcast.specs.Casting.{Casting, shown}
use Rattle.tipc_node.specs.Turns.{is_to}
use Rattle.tipc_replay.specs.declared.air.Sent.{Sent}
use Rattle.tipc_replay.specs.declared.events.WorldEvent.TheVariants.{Call}
use Rattle.tipc_replay.specs.Air.{airborne, receiver_of}
use Rattle.tipc_replay.specs.Sound.{IsNumber}
use Rattle.tipc_replay.specs.States.{MemberState, boot_at, cast_count_at, contact_at, numbers_at}
use Rattle.tipc_replay.proofs.LookUps.{member_at-is}
use Rattle.tipc_replay.proofs.casts.CasterLooks.{casting_at-is}
use Rattle.tipc_replay.proofs.frames.Emissions.{receiver_is}
use Rattle.tipc_world.specs.CalmWorlds.{IsCalmWorld}
use Rattle.tipc_world.specs.Poised.{IsPoised}
use Rattle.tipc_world.specs.RoundParts.{HasTickedOnce, IsKept}
use Rattle.tipc_world.specs.States.{WorldState}
use Rattle.tipc_world.specs.StillWorlds.{HasHeardAll, footing_at}
use Rattle.tipc_world.proofs.casts.Events.{tick_cast}
use Rattle.tipc_world.proofs.casts.Going.{good_link}
use Rattle.tipc_world.proofs.rounds.Contacts.{contact_of_up}
use Rattle.tipc_world.proofs.rounds.Going.{Going}
use Rattle.tipc_world.proofs.rounds.Keeping.{here_is, other_stays}
use Rattle.tipc_world.proofs.rounds.Since.{numbers_used}
use Rattle.tipc_world.proofs.rounds.UpLinks.{the_member}

-- Node b told node n this of the broadcast, as its link stood when the round began, in a frame beside which stand their
-- contact, about as many numbers as b had used then, and no fewer than n had.
pub record TellsCast (start outset : WorldState) (b n : ℕ) (f : Sent) (seen : BroadcastState) : Type 0 where
  pub shows : (m : MemberState) → slice_index_or outset.members b None ≡ Some m → seen ≡ shown m.node.casting (node_word n)
  pub sender : f.from.word ≡ node_word b
  pub meant : is_to n f.to ≡ true
  pub contact : f.contact ≡ ((footing_at start b n).contact, (footing_at start n b).contact)
  pub casts : (m : MemberState) → slice_index_or outset.members b None ≡ Some m → (m.node.casting.sending.numbered ≤ f.casts) × (f.casts ≤ m.node.casting.sending.numbered + 246)
  pub peer_casts : (k : MemberState) → slice_index_or outset.members n None ≡ Some k → k.node.casting.sending.numbered ≤ f.peer_casts

-- how many numbers a node has used
used_by : (w : WorldState) (n : ℕ) (m : MemberState) → slice_index_or w.members n None ≡ Some m → cast_count_at w.members n (boot_at w.members n) ≡ m.node.casting.sending.numbered
used_by w n m there = numbers_used w n (boot_at w.members n) m there refl ∙ ap (λ (v : Casting). v.sending.numbered) (casting_at-is w.members n m (member_at-is w.members n m there))

pub tells_cast : (start outset ticked : WorldState) (b n bearer : ℕ) (t : HasTickedOnce outset ticked b) (o : Outgoing) → IsKept start → IsPoised start → IsCalmWorld start outset → Going start outset t.before → HasHeardAll b t.ticks.before → IsNumber n → b ≢ n → bearer ≤ 1
    → (footing_at start b n).up bearer ≡ true → is_to n o.to ≡ true → TellsCast start outset b n (airborne (contact_at t.before.members b) t.after.members b o) (shown t.ticks.before.node.casting (node_word n))
tells_cast start outset ticked b n bearer t o kept_start poised calm going heard n_is apart on_one up to_it =
    let before = t.ticks.before in
    let after = t.ticks.after in
    let at : slice_index_or t.before.members b None ≡ Some before = t.ticks.was in
    let receiver : receiver_of o.to ≡ n = receiver_is n o.to to_it in
    let kept = going.calm.on.kept kept_start in
    let rests = tick_cast start t.before t.after b t.answered t.ticks kept_start going.calm heard in
    let here = here_is t.before t.after (Call b note.Tick) [] t.answered t.ticks in
    record {
      shows = λ m there. (let both : Some before ≡ Some m = sym t.was ∙ there in let same : before ≡ m = cc in ap (λ (x : MemberState). shown x.node.casting (node_word n)) same);
      sender = refl;
      meant = to_it;
      contact =
          ap (λ k. unwrap_or (contact_at t.before.members b k) (numbers_at t.after.members b k)) receiver
          ∙ ap (λ x. unwrap_or x (numbers_at t.after.members b n)) (contact_of_up start t.before b n bearer before kept going.calm at n_is apart on_one up);
      casts = λ m there.
          let used = used_by t.after b after here in
          let same = ap (λ (v : Casting). v.sending.numbered) rests in
          let goes = going.casts.links b m before there at in
          let few = (good_link outset b m (calm.on.kept kept_start) there).few in
          let more = goes.numbered in
          let accepted = goes.accepted_is in
          (omega (arith, used, same, more), omega (arith, used, same, accepted, few));
      peer_casts = λ k there.
          let k' = the_member (slice_index_or t.before.members n None) (going.on.nodes n ∙ ap (λ x. is_some x) there) in
          let stays = other_stays t.before t.after (Call b note.Tick) [] t.answered t.ticks n (λ same. apart (sym same)) ∙ k'.1 in
          let used = ap (λ i. cast_count_at t.after.members i (boot_at t.after.members i)) receiver ∙ used_by t.after n k'.0 stays in
          let more = (going.casts.links n k k'.0 there k'.1).numbered in
          omega (arith, used, more);
    }
