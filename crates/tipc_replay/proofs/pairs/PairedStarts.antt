-- A node that is restarted is seen by each other as one that it talks with.
use Rattle.std.proofs.Common.{◌≡◌, ◌<◌, ◌+◌, ◌^◌, ℕ, Bool, List, [], Some, None, option_map, sym, ap, ◌∙◌, subst}
use Rattle.tipc_types.specs.Address.{node_word}
use Rattle.tipc_outside.specs.declared.outgoing.Outgoing.{Outgoing}
use Rattle.tipc_two_nodes.specs.Sights.{Restarts}
use Rattle.tipc_two_nodes.proofs.sights.Sights.{restarted}
use Rattle.tipc_node.specs.declared.neighbours.Neighbour.{Neighbour}
use Rattle.tipc_node.specs.Turns.{frames_to}
use Rattle.tipc_replay.specs.Members.{IsRestarted}
use Rattle.tipc_replay.specs.Numbers.{begun_of, end_on}
use Rattle.tipc_replay.specs.States.{MemberState, boot_at, member_at, pair_at}
use Rattle.tipc_replay.specs.Steps.{Stage, Turns}
use Rattle.tipc_replay.specs.Views.{given_in, node_from, put_in, sight_at}
use Rattle.tipc_replay.proofs.streams.Histories.{history_restarted}
use Rattle.tipc_replay.proofs.LookUps.{boot_at-is, pair_at-is}
use Rattle.tipc_replay.proofs.pairs.Turning.{AllPaired, all_paired, is_there, same_given, same_numbered, same_put, same_sent, sight_in, was_there}

pub restarts : (old new : Stage) (a : ℕ) (before after : MemberState) (frames : List Outgoing) (lost : Bool) (b : ℕ) → Turns old new a before after frames lost → IsRestarted before after → frames ≡ []
    → Restarts (sight_in old a b) (sight_in new a b)
unfolding sight_at
restarts old new a before after frames lost b t s none =
    let was = was_there old new a before after frames lost t in
    let is = is_there old new a before after frames lost t in
    let boot : boot_at new.members a ≡ boot_at old.members a + 1 = boot_at-is new.members a after is ∙ s.node.boot_is ∙ ap (λ n. n + 1) (sym (boot_at-is old.members a before was)) in
    let pair : pair_at new.members a b ≡ None = pair_at-is new.members a b after is ∙ ap (option_map (λ (y : Neighbour). y.pair)) (s.node.alone b) in
    let entries = history_restarted before after s in record {
      node = λ i. node_from a b (boot i) (pair i);
      ends = λ bearer. ap (end_on bearer) pair;
      put_is = same_put old new a before after frames lost b t (λ own theirs. ap (λ es. put_in (node_word a) es b own theirs) entries);
      given_is = same_given old new a before after frames lost b t (λ own theirs. ap (λ es. given_in es b own theirs) entries);
      partial_is = ap begun_of pair;
      numbered_is = same_numbered old new a before after frames lost b t (s.counts b);
      sent = same_sent old new a before after frames lost b t (ap (frames_to b) none);
    }

pub boot_is : (s : Stage) (a b : ℕ) (m : MemberState) → member_at s.members a ≡ Some m → (sight_in s a b).node.boot ≡ m.node.boot
unfolding sight_at
boot_is s a b m was = boot_at-is s.members a m was

-- the number of the next boot has 32 bits
pub restart_pairs : (old new : Stage) (a : ℕ) (before after : MemberState) (frames : List Outgoing) (lost : Bool) → AllPaired old → Turns old new a before after frames lost → IsRestarted before after → frames ≡ []
    → before.node.boot + 1 < 2 ^ 32 → AllPaired new
restart_pairs old new a before after frames lost paired t s none fits =
    all_paired old new a before after frames lost paired t (λ b a_is b_is apart h.
    restarted (sight_in old a b) (sight_in new a b) (sight_in old b a) h (restarts old new a before after frames lost b t s none)
    (subst (λ n. n + 1 < 2 ^ 32) (sym (boot_is old a b before (was_there old new a before after frames lost t))) fits))
