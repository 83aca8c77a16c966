-- What an event at one node is to each pair of nodes.
use Rattle.std.proofs.Common.{◌≡◌, ◌≢◌, ◌<◌, ℕ, ◌==◌, ◌&&◌, Bool, false, List, [], ◌++◌, Option, Some, None, if◌then◌else◌, sym, ap, ◌∙◌, subst, append-nil, inl, inr, arith}
use Rattle.std.specs.Prelude.{nat_le}
use Rattle.std.proofs.lemmas.Bool.{cases_eq}
use Rattle.std.proofs.lemmas.Bool.Decides.{nat_tests}
use Rattle.tipc_types.specs.Address.{node_word}
use Rattle.tipc_outside.specs.declared.outgoing.Outgoing.{Outgoing}
use Rattle.tipc_pair.specs.Facing.{PairEnds, facing}
use Rattle.tipc_two_nodes.specs.Sights.{AreSeen, PairBecomes, HasSession, IsSent, Sight, come}
use Rattle.tipc_two_nodes.proofs.sights.Sights.{turned}
use Rattle.tipc_replay.specs.Sound.{IsNumber}
use Rattle.tipc_node.specs.Nodes.{pair_with}
use Rattle.tipc_node.specs.Turns.{frames_to, pair_in}
use Rattle.tipc_replay.specs.States.{MemberState, boot_at, contact_at, count_at, count_of, history, history_at, link_in, member_at, pair_at}
use Rattle.tipc_replay.specs.Steps.{Stage, Turns}
use Rattle.tipc_replay.specs.Skies.{AirState}
use Rattle.tipc_replay.specs.Views.{given_in, put_in, sight_at, sight_from}
use Rattle.tipc_replay.specs.Air.{sent_between}
use Rattle.tipc_replay.proofs.frames.Emissions.{none_sent, sent_adds, sent_same}
use Rattle.tipc_replay.specs.Numbers.{begun_of, end_on, own_in, seen_in}
use Rattle.tipc_replay.proofs.pairs.Counts.{count_here}
use Rattle.tipc_replay.proofs.pairs.Pairings.{begun_read, end_read, own_read, seen_read}
use Rattle.tipc_replay.proofs.LookUps.{boot_at-is, boot_at-same, count_at-is, count_at-same, history_at-is, history_at-same, member_at-changed, member_at-is, member_at-other, pair_at-is, pair_at-same}

-- two nodes of a stage as a pair
abbrev pub sight_in : Stage → ℕ → ℕ → Sight
sight_in s a b = sight_at s.members s.air a b

-- two nodes, each in a stage of its own, are partners
abbrev pub PartnersIn : Stage → Stage → ℕ → ℕ → Type 0
PartnersIn s t a b = AreSeen (sight_in s a b) (sight_in t b a)

-- ---- the node that changed, and the others

pub was_there : (old new : Stage) (a : ℕ) (before after : MemberState) (frames : List Outgoing) (lost : Bool) → Turns old new a before after frames lost → member_at old.members a ≡ Some before
was_there old new a before after frames lost t = member_at-is old.members a before t.was

pub is_there : (old new : Stage) (a : ℕ) (before after : MemberState) (frames : List Outgoing) (lost : Bool) → Turns old new a before after frames lost → member_at new.members a ≡ Some after
is_there old new a before after frames lost t = ap (λ ms. member_at ms a) t.members ∙ member_at-changed old.members a before after t.was

pub others_stay : (old new : Stage) (a : ℕ) (before after : MemberState) (frames : List Outgoing) (lost : Bool) → Turns old new a before after frames lost → (x : ℕ) → x ≢ a → member_at new.members x ≡ member_at old.members x
others_stay old new a before after frames lost t x apart = ap (λ ms. member_at ms x) t.members ∙ member_at-other old.members a x after apart

-- another node is to every node as it was
pub sights_apart : (old new : Stage) (a : ℕ) (before after : MemberState) (frames : List Outgoing) (lost : Bool) → Turns old new a before after frames lost → (c d : ℕ) → c ≢ a → sight_in new c d ≡ sight_in old c d
unfolding sight_at
sights_apart old new a before after frames lost t c d apart =
    let same = others_stay old new a before after frames lost t c apart in
    let boot = boot_at-same old.members new.members c same in
    let pair = pair_at-same old.members new.members c d same in
    let entries = history_at-same old.members new.members c same in
    let numbered : (bearer epoch : ℕ) → count_at new.members c d bearer epoch ≡ count_at old.members c d bearer epoch = λ bearer epoch. count_at-same old.members new.members c d bearer epoch same in
    let sent = sent_same (contact_at old.members a) new.members old.air new.air a c d frames lost t.leaves apart in
    λ i. sight_from c d (boot i) (pair i) (put_in (node_word c) (entries i) d) (given_in (entries i) d) (λ bearer epoch. numbered bearer epoch i) (sent i)

-- so it is the partner that it was
here_stays : (old new : Stage) (a : ℕ) (before after : MemberState) (frames : List Outgoing) (lost : Bool) → Turns old new a before after frames lost → (c d : ℕ) → c ≢ a → (w : Sight) → AreSeen (sight_in old c d) w → AreSeen (sight_in new c d) w
here_stays old new a before after frames lost t c d apart w h = subst (λ v. AreSeen v w) (sym (sights_apart old new a before after frames lost t c d apart)) h

there_stays : (old new : Stage) (a : ℕ) (before after : MemberState) (frames : List Outgoing) (lost : Bool) → Turns old new a before after frames lost → (c d : ℕ) → c ≢ a → (v : Sight) → AreSeen v (sight_in old c d) → AreSeen v (sight_in new c d)
there_stays old new a before after frames lost t c d apart v h = subst (λ w. AreSeen v w) (sym (sights_apart old new a before after frames lost t c d apart)) h

-- ---- the node towards another

-- what came to the messages of a contact that has these numbers
abbrev pub come_in : ℕ → ℕ → List (List ℕ) → ℕ → ℕ → List (List ℕ)
come_in contact seen more own theirs = if (own == contact) && (theirs == seen) then more else []

-- The pair with b became x, and fs of the frames are for it. These packets were put, by the node of this address word, and given in its
-- contact.
pub record IsChanged (word : ℕ) (before after : MemberState) (frames : List Outgoing) (b : ℕ) (x : PairEnds) (fs : List Outgoing) (put given : List (List ℕ)) : Type 0 where
  pub boot : after.node.boot ≡ before.node.boot
  pub pair : pair_with after.node b ≡ x
  pub first : (y : PairEnds) → pair_in before.node b ≡ Some y → y.bearer ≡ 0
  pub frames_are : frames_to b frames ≡ fs
  pub put_is : (own theirs : ℕ) → put_in word (history after) b own theirs ≡ put_in word (history before) b own theirs ++ come_in x.contact x.seen put own theirs
  pub given_is : (own theirs : ℕ) → given_in (history after) b own theirs ≡ given_in (history before) b own theirs ++ come_in x.contact x.seen given own theirs
  pub numbered_else : (bearer epoch : ℕ) → (HasSession (link_in after.node b bearer) epoch → ⊥) → count_of after b bearer epoch ≡ count_of before b bearer epoch

-- the packets of two histories, as the pair has them
put_was : (old new : Stage) (a : ℕ) (before after : MemberState) (frames : List Outgoing) (lost : Bool) (b : ℕ) (more : ℕ → ℕ → List (List ℕ)) → Turns old new a before after frames lost
    → ((own theirs : ℕ) → put_in (node_word a) (history after) b own theirs ≡ put_in (node_word a) (history before) b own theirs ++ more own theirs) → (own theirs : ℕ) → put_in (node_word a) (history_at new.members a) b own theirs ≡ put_in (node_word a) (history_at old.members a) b own theirs ++ more own theirs
put_was old new a before after frames lost b more t is own theirs =
    ap (λ es. put_in (node_word a) es b own theirs) (history_at-is new.members a after (is_there old new a before after frames lost t)) ∙ is own theirs
    ∙ ap (λ es. put_in (node_word a) es b own theirs ++ more own theirs) (sym (history_at-is old.members a before (was_there old new a before after frames lost t)))

given_was : (old new : Stage) (a : ℕ) (before after : MemberState) (frames : List Outgoing) (lost : Bool) (b : ℕ) (more : ℕ → ℕ → List (List ℕ)) → Turns old new a before after frames lost
    → ((own theirs : ℕ) → given_in (history after) b own theirs ≡ given_in (history before) b own theirs ++ more own theirs) → (own theirs : ℕ) → given_in (history_at new.members a) b own theirs ≡ given_in (history_at old.members a) b own theirs ++ more own theirs
given_was old new a before after frames lost b more t is own theirs =
    ap (λ es. given_in es b own theirs) (history_at-is new.members a after (is_there old new a before after frames lost t)) ∙ is own theirs
    ∙ ap (λ es. given_in es b own theirs ++ more own theirs) (sym (history_at-is old.members a before (was_there old new a before after frames lost t)))

-- the contact numbers of a node are those of its pair
come_by : (members : List (Option MemberState)) (air : AirState) (a b : ℕ) (x : PairEnds) (more : List (List ℕ)) (own theirs : ℕ) → own_in (boot_at members a) (pair_at members a b) ≡ x.contact → seen_in (pair_at members a b) ≡ x.seen
    → come_in x.contact x.seen more own theirs ≡ come (sight_at members air a b) more own theirs
unfolding sight_at
come_by members air a b x more own theirs contact seen =
    ap (λ k. come_in k x.seen more own theirs) (sym contact) ∙ ap (λ k. come_in (own_in (boot_at members a) (pair_at members a b)) k more own theirs) (sym seen)

no_third : (x : PairEnds) (bearer : ℕ) → 1 < bearer → end_on bearer (Some x) ≡ None
no_third x bearer high = let past : nat_le bearer 1 ≡ false = grind (arith, nat_tests) in ap (λ t. if t then (facing bearer x).near else None) past

pub goes : (old new : Stage) (a : ℕ) (before after : MemberState) (frames : List Outgoing) (lost : Bool) (b : ℕ) (x : PairEnds) (fs : List Outgoing) (put given : List (List ℕ))
    → Turns old new a before after frames lost → b ≢ a → IsChanged (node_word a) before after frames b x fs put given
    → PairBecomes (sight_in old a b) (sight_in new a b) (sight_in old b a) x fs put given
unfolding sight_at
goes old new a before after frames lost b x fs put given t apart c =
    let was = was_there old new a before after frames lost t in
    let is = is_there old new a before after frames lost t in
    let present = boot_at-is new.members a after is in
    let boot = present ∙ c.boot ∙ sym (boot_at-is old.members a before was) in
    let pair = pair_at-is new.members a b after is in
    let contact : own_in (boot_at new.members a) (pair_at new.members a b) ≡ x.contact = (λ i. own_in (present i) (pair i)) ∙ own_read after.node b ∙ ap (λ (y : PairEnds). y.contact) c.pair in
    let seen : seen_in (pair_at new.members a b) ≡ x.seen = ap seen_in pair ∙ seen_read after.node b ∙ ap (λ (y : PairEnds). y.seen) c.pair in
    let ends : (bearer : ℕ) → end_on bearer (pair_at new.members a b) ≡ end_on bearer (Some x) = λ bearer. ap (end_on bearer) pair ∙ end_read after.node b bearer ∙ ap (λ (y : PairEnds). end_on bearer (Some y)) c.pair in
    let other = sights_apart old new a before after frames lost t b a apart in
    let first : (y : PairEnds) → pair_at old.members a b ≡ Some y → y.bearer ≡ 0 = λ y there. c.first y (sym (pair_at-is old.members a b before was) ∙ there) in
    record {
      node = λ i. record { own = node_word a; peer = node_word b; boot = boot i; contact = contact i; seen = seen i };
      first = ends 0;
      second = ends 1;
      alone = λ bearer high. ends bearer ∙ no_third x bearer high;
      put_is = λ own theirs. put_was old new a before after frames lost b (come_in x.contact x.seen put) t c.put_is own theirs
          ∙ ap (λ ps. put_in (node_word a) (history_at old.members a) b own theirs ++ ps) (come_by new.members new.air a b x put own theirs contact seen);
      given_is = λ own theirs. given_was old new a before after frames lost b (come_in x.contact x.seen given) t c.given_is own theirs
          ∙ ap (λ ps. given_in (history_at old.members a) b own theirs ++ ps) (come_by new.members new.air a b x given own theirs contact seen);
      partial_is = ap begun_of pair ∙ begun_read after.node b ∙ ap (λ (y : PairEnds). y.begun) c.pair;
      numbered_now = λ bearer e s there has. count_at-is new.members a b bearer s.epoch after is
          ∙ count_here after b bearer e s (ap (end_on bearer) (sym (pair_at-is new.members a b after is)) ∙ there) has;
      numbered_else = λ bearer epoch none. count_at-is new.members a b bearer epoch after is
          ∙ c.numbered_else bearer epoch (λ had. none (subst (λ o. HasSession (end_on bearer o) epoch) (sym (pair_at-is new.members a b after is)) had))
          ∙ sym (count_at-is old.members a b bearer epoch before was);
      sent = λ k f there.
          let added = sent_adds old.members new.members old.air new.air new.air a b frames lost first t.leaves k f there in
          subst (λ w. IsSent (sight_in old a b) (sight_in new a b) w fs f) other (subst (λ os. IsSent (sight_in old a b) (sight_in new a b) (sight_in new b a) os f) c.frames_are added);
    }

-- where no message concerned b, what was put and given is as it was
pub same_put : (old new : Stage) (a : ℕ) (before after : MemberState) (frames : List Outgoing) (lost : Bool) (b : ℕ) → Turns old new a before after frames lost
    → ((own theirs : ℕ) → put_in (node_word a) (history after) b own theirs ≡ put_in (node_word a) (history before) b own theirs) → (own theirs : ℕ) → put_in (node_word a) (history_at new.members a) b own theirs ≡ put_in (node_word a) (history_at old.members a) b own theirs
same_put old new a before after frames lost b t same own theirs =
    put_was old new a before after frames lost b (λ own theirs. []) t (λ own theirs. same own theirs ∙ sym (append-nil _)) own theirs ∙ append-nil _

pub same_given : (old new : Stage) (a : ℕ) (before after : MemberState) (frames : List Outgoing) (lost : Bool) (b : ℕ) → Turns old new a before after frames lost
    → ((own theirs : ℕ) → given_in (history after) b own theirs ≡ given_in (history before) b own theirs) → (own theirs : ℕ) → given_in (history_at new.members a) b own theirs ≡ given_in (history_at old.members a) b own theirs
same_given old new a before after frames lost b t same own theirs =
    given_was old new a before after frames lost b (λ own theirs. []) t (λ own theirs. same own theirs ∙ sym (append-nil _)) own theirs ∙ append-nil _

-- where no frame is for b, the frames to b are as they were
pub same_sent : (old new : Stage) (a : ℕ) (before after : MemberState) (frames : List Outgoing) (lost : Bool) (b : ℕ) → Turns old new a before after frames lost → frames_to b frames ≡ [] → sent_between new.air a b ≡ sent_between old.air a b
same_sent old new a before after frames lost b t none = none_sent (contact_at old.members a) new.members old.air new.air a b frames lost t.leaves none

pub same_numbered : (old new : Stage) (a : ℕ) (before after : MemberState) (frames : List Outgoing) (lost : Bool) (b : ℕ) → Turns old new a before after frames lost
    → ((bearer epoch : ℕ) → count_of after b bearer epoch ≡ count_of before b bearer epoch) → (bearer epoch : ℕ) → count_at new.members a b bearer epoch ≡ count_at old.members a b bearer epoch
same_numbered old new a before after frames lost b t same bearer epoch =
    count_at-is new.members a b bearer epoch after (is_there old new a before after frames lost t) ∙ same bearer epoch ∙ sym (count_at-is old.members a b bearer epoch before (was_there old new a before after frames lost t))

-- ---- all pairs

-- each two nodes are partners
abbrev pub AllPaired : Stage → Type 0
AllPaired s = (a b : ℕ) → IsNumber a → IsNumber b → a ≢ b → PartnersIn s s a b

-- after an event at node a each two nodes are partners, where a is with each other
pub all_paired : (old new : Stage) (a : ℕ) (before after : MemberState) (frames : List Outgoing) (lost : Bool) → AllPaired old → Turns old new a before after frames lost
    → ((b : ℕ) → IsNumber a → IsNumber b → b ≢ a → PartnersIn old old a b → PartnersIn new old a b) → AllPaired new
all_paired old new a before after frames lost paired t here c d c_is d_is apart =
    let both : (b : ℕ) → IsNumber a → IsNumber b → b ≢ a → PartnersIn new new a b =
    λ b a_is b_is other. there_stays old new a before after frames lost t b a other (sight_in new a b) (here b a_is b_is other (paired a b a_is b_is (λ e. other (sym e)))) in
    elim (cases_eq c a) [
      | inl at_c ↦ subst (λ k. PartnersIn new new k d) (sym at_c) (both d (subst IsNumber at_c c_is) d_is (λ e. apart (at_c ∙ sym e)))
      | inr c_apart ↦ elim (cases_eq d a) [
        | inl at_d ↦ subst (λ k. PartnersIn new new c k) (sym at_d) (turned (sight_in new a c) (sight_in new c a) (both c (subst IsNumber at_d d_is) c_is c_apart))
        | inr d_apart ↦
            there_stays old new a before after frames lost t d c d_apart (sight_in new c d) (here_stays old new a before after frames lost t c d c_apart (sight_in old d c) (paired c d c_is d_is apart))
      ]
    ]
