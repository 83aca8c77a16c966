-- A node shares its names with its peers after each call.
use Rattle.std.proofs.Common.{◌≡◌, ◌+◌, ◌==◌, ◌||◌, ℕ, Bool, true, false, not, List, [], ◌∷◌, ◌++◌, Option, Some, None, filter, if◌then◌else◌, map, refl, sym, ap, ◌∙◌, subst, append-nil, true≢false}
use Rattle.std.specs.List.{list_all}
use Rattle.std.proofs.lemmas.Bool.{and_from, and_parts}
use Rattle.tipc_types.specs.Address.{node_word}
use Rattle.tipc_types.specs.declared.message_forms.Message.TheVariants.{Items, Payload}
use Rattle.tipc_types.specs.declared.node_calls.Answer.{Answer}
use Rattle.tipc_types.specs.declared.node_calls.By.{By}
use Rattle.tipc_types.specs.declared.node_calls.EventNote.{EventNote}
use Rattle.tipc_outside.specs.declared.outgoing.Outgoing.{Outgoing}
use Rattle.tipc_name_dist.specs.Agreeing.{AreOwn}
use Rattle.tipc_name_dist.specs.Applying.{held_after}
use Rattle.tipc_journal.specs.declared.entries.Entry.{Entry}
use Rattle.tipc_journal.specs.declared.entries.Entry.TheVariants as entry
use Rattle.tipc_journal.specs.Contacts.{contact}
use Rattle.tipc_journal.specs.Names.{live}
use Rattle.tipc_journal.specs.Steps.{NodeStep, step_entries}
use Rattle.tipc_journal.specs.Streams.{accepted}
use Rattle.tipc_pair.specs.declared.transitions.Transition.{Transition}
use Rattle.tipc_pair.specs.declared.transitions.Transition.TheVariants.{ContactDown, ContactUp, LinkDown, LinkUp}
use Rattle.tipc_sockets.specs.declared.fates.Fate.{Fate}
use Rattle.tipc_sockets.specs.declared.fates.Fate.TheVariants.{Dropped, Queued, ReturnDropped, Returned}
use Rattle.tipc_sockets.specs.Telling.{fate_entry, is_payload}
use Rattle.tipc_node.specs.Neighbours.{Done}
use Rattle.tipc_node.specs.Nodes.{NodeState, change_entries, entries_all, entries_one, step_of}
use Rattle.tipc_node.specs.Sharing.{SharesNames, flow_with}
use Rattle.tipc_name_dist.specs.Told.{HasTold}
use Rattle.tipc_node.specs.Sockets.{kept_answer}
use Rattle.tipc_node.specs.Telling.{IsTold}
use Rattle.tipc_node.specs.Turns.{NodeTurn, addr_of}
use Rattle.tipc_node.proofs.journal.Concluding.{same_turn}
use Rattle.tipc_node.proofs.journal.Noting.{all_from}
use Rattle.tipc_node.proofs.names.SharingEntries.{is_beside, is_end_of, is_plain_for, keeps_live, live_then, names_stay, plain_accepted, same_live}
use Rattle.tipc_node.proofs.names.SharingFlows.{accepted_then, delivered_then}
use Rattle.tipc_node.proofs.names.SharingSteps.{IsOwnCall, SharesAt, call_steady, other_than, shares_from}
use Rattle.tipc_sockets.proofs.ToldNames.{told_users}
use Rattle.tipc_node.proofs.names.SharingWork.{IsOpen, all_both}

-- ---- a call that changes no names

-- an entry of such a call: users' messages alone are accepted
abbrev pub is_usual : Entry → Bool
is_usual (entry.Accepted peer numbers flow message) = is_payload message
is_usual (entry.Published p) = false
is_usual (entry.Withdrawn p) = false
is_usual (entry.Learned p) = false
is_usual (entry.Forgot p) = false
is_usual other = true

usual_fate : (f : Fate) → is_usual (fate_entry f) ≡ true
usual_fate (Queued ports) = refl
usual_fate (Returned (Payload importance form from to kind lower upper code droppable body)) = refl
usual_fate (Returned (Items withdrawal items)) = refl
usual_fate (ReturnDropped waiting) = refl
usual_fate Dropped = refl

pub usual_open : IsOpen is_usual
usual_open = record { fates = usual_fate; users = λ peer numbers flow m user. user }

usual_live : (e : Entry) → is_usual e ≡ true → keeps_live e ≡ true
usual_live (entry.Published p) is = is
usual_live (entry.Withdrawn p) is = is
usual_live other is = refl

usual_plain : (b : ℕ) (e : Entry) → is_usual e ≡ true → is_plain_for b e ≡ true
usual_plain b (entry.Accepted peer numbers flow m) is = ap (λ t. t || not (peer.word == node_word b)) is
usual_plain b other is = refl

one_beside : (b : ℕ) (e : Entry) → is_usual e ≡ true → is_end_of b e ≡ false → is_beside b e ≡ true
one_beside b (entry.Learned p) is apart = absurd (true≢false (sym is))
one_beside b (entry.Forgot p) is apart = absurd (true≢false (sym is))
one_beside b (entry.ContactDown peer numbers states shown) is apart = ap not apart
one_beside b other is apart = refl

-- none passes the test
none_first : {A : Type 0} (test : A → Bool) (x : A) (xs : List A) → filter test (x ∷ xs) ≡ [] → (test x ≡ false) × (filter test xs ≡ [])
none_first {A} test x xs none = by (test x) refl none
  where
    by : (b : Bool) → test x ≡ b → (if b then x ∷ filter test xs else filter test xs) ≡ [] → (test x ≡ false) × (filter test xs ≡ [])
    by true is h = absurd (let wrong : x ∷ filter test xs ≡ [] = h in cc)
    by false is h = (is, h)

pub usual_beside : (b : ℕ) (es : List Entry) → list_all is_usual es ≡ true → filter (is_end_of b) es ≡ [] → list_all (is_beside b) es ≡ true
usual_beside b [] usual none = refl
usual_beside b (e ∷ es) usual none =
    let both = and_parts (is_usual e) _ usual in
    let parts = none_first (is_end_of b) e es none in
    and_from _ _ (one_beside b e both.0 parts.0) (usual_beside b es both.1 parts.1)

-- ---- a call

-- what is to be known of a call for the peers in contact
pub record CallShares (n : NodeState) (journal : List Entry) (inside : List Entry) : Type 0 where
  pub own : AreOwn n.own (live journal)
  pub beside : (b : ℕ) → (node_word b == n.own) ≡ false → filter (is_end_of b) inside ≡ [] → list_all (is_beside b) inside ≡ true
  pub told : (b : ℕ) (numbers : ℕ × ℕ) → contact n.journal (addr_of b) ≡ Some numbers
      → HasTold n.own (live journal) (accepted n.journal (flow_with b numbers) ++ accepted inside (flow_with b numbers))

pub call_shares : (n n' : NodeState) (bytes : List ℕ) (s : NodeStep) (frames : List Outgoing) → IsTold n → IsTold n' → SharesNames n → NodeTurn n n' bytes s frames → IsOwnCall s.event → CallShares n n'.journal s.inside → SharesNames n'
call_shares n n' bytes s frames h h' shares t own c = shares_from n n' bytes s frames h shares t (subst (λ o. AreOwn o (live n'.journal)) (sym t.own) c.own) at
  where
    at : (b : ℕ) (numbers : ℕ × ℕ) → contact n'.journal (addr_of b) ≡ Some numbers → SharesAt n' b numbers
    at b numbers is =
        let steady = call_steady n n' bytes s frames b numbers h h' t own is in
        let apart = other_than n b numbers h steady.before in
        let told = subst (HasTold n.own (live n'.journal)) (sym (accepted_then n.journal n'.journal s b numbers (accepted s.inside (flow_with b numbers)) t.journal refl)) (c.told b numbers steady.before) in
        let none = delivered_then n.journal n'.journal s b numbers [] t.journal steady.none_delivered ∙ append-nil _ in
        record {
          told = subst (λ o. HasTold o (live n'.journal) (accepted n'.journal (flow_with b numbers))) (sym t.own) told;
          holds =
              names_stay n n' s b h h' t.own t.journal apart (c.beside b apart steady.no_end) ∙ shares.holds b numbers steady.before
              ∙ ap (held_after (node_word b) []) (sym none);
        }

-- one whose entries change no names
usual_shares : (n n' : NodeState) (bytes : List ℕ) (s : NodeStep) (frames : List Outgoing) → IsTold n → IsTold n' → SharesNames n → NodeTurn n n' bytes s frames → IsOwnCall s.event → list_all is_usual s.inside ≡ true → SharesNames n'
usual_shares n n' bytes s frames h h' shares t own usual =
    let lives : live n'.journal ≡ live n.journal = live_then n.journal n'.journal s t.journal ∙ same_live (live n.journal) s.inside (all_from is_usual keeps_live usual_live s.inside usual) in
    call_shares n n' bytes s frames h h' shares t own (record {
      own = subst (AreOwn n.own) (sym lives) shares.own_names;
      beside = λ b apart none. usual_beside b s.inside usual none;
      told = λ b numbers is.
          subst (λ ps. HasTold n.own ps (accepted n.journal (flow_with b numbers) ++ accepted s.inside (flow_with b numbers))) (sym lives)
          (told_users n.own (live n.journal) (accepted n.journal (flow_with b numbers)) (accepted s.inside (flow_with b numbers)) (shares.told b numbers is)
          (plain_accepted b numbers s.inside (all_from is_usual (is_plain_for b) (usual_plain b) s.inside usual)));
    })

-- a turn of a call, as it is recorded
abbrev pub IsTurnOf : NodeState → NodeState → By → EventNote → List Entry → List Outgoing → Answer → Type 0
IsTurnOf n n' by note inside frames answered = NodeTurn n n' [] (step_of by note inside (kept_answer answered)) frames

-- the step has these entries
pub record_shares : (n n' : NodeState) (by : By) (note : EventNote) (inside es : List Entry) (given : Answer) (frames : List Outgoing) (answered : Answer) → IsTold n → IsTold n' → SharesNames n → IsTurnOf n n' by note inside frames answered
    → IsOwnCall note → n'.journal ≡ n.journal ++ step_entries (step_of by note es given) → list_all is_usual es ≡ true → SharesNames n'
record_shares n n' by note inside es given frames answered h h' shares t own is usual =
    usual_shares n n' [] (step_of by note es given) frames h h' shares (same_turn n n' [] by note inside es (kept_answer answered) given frames t is) own usual

-- ---- what happens to all neighbours

changes_usual : (b : ℕ) (cs : List Transition) → list_all is_usual (change_entries b cs) ≡ true
changes_usual b [] = refl
changes_usual b (LinkUp bearer own theirs ∷ cs) = changes_usual b cs
changes_usual b (LinkDown bearer because shown ∷ cs) = changes_usual b cs
changes_usual b (ContactUp numbers ∷ cs) = changes_usual b cs
changes_usual b (ContactDown numbers states shown ∷ cs) = changes_usual b cs

one_usual : (first : ℕ) (o : Option Done) → list_all is_usual (entries_one first o) ≡ true
one_usual first None = refl
one_usual first (Some x) = changes_usual first x.changes

pub all_usual : (first : ℕ) (os : List (Option Done)) → list_all is_usual (entries_all first os) ≡ true
unfolding entries_all
all_usual first [] = refl
all_usual first (o ∷ os) = all_both is_usual (entries_one first o) (entries_all (first + 1) os) (one_usual first o) (all_usual (first + 1) os)

-- ---- a tick

pub timed_usual : (numbers : List ℕ) → list_all is_usual (map entry.TimedOut numbers) ≡ true
timed_usual [] = refl
timed_usual (number ∷ numbers) = timed_usual numbers
