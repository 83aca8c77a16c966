-- What the entries of a step leave as it is: the node's own publications, the names that it holds of a peer, and what a peer was told of names.
use Rattle.std.proofs.Common.{◌≡◌, ◌==◌, ◌&&◌, ◌||◌, ℕ, Bool, true, false, not, List, [], ◌∷◌, ◌++◌, Option, Some, None, filter, fold, if◌then◌else◌, refl, sym, ap, ◌∙◌, subst, append-nil, true≢false, eqb-true}
use Rattle.std.specs.List.{cons_option, list_all}
use Rattle.std.proofs.lemmas.Bool.{and_from, and_parts}
use Rattle.std.proofs.lemmas.List.Elements.{filter-append}
use Rattle.tipc_types.specs.declared.message_forms.Flow.TheVariants.{Zero}
use Rattle.tipc_types.specs.Address.{node_word}
use Rattle.tipc_types.specs.declared.message_forms.Message.{Message}
use Rattle.tipc_types.specs.declared.services.Publication.{Publication}
use Rattle.tipc_types.specs.Tables.{is_of}
use Rattle.tipc_journal.specs.declared.entries.Entry.{Entry}
use Rattle.tipc_journal.specs.declared.entries.Entry.TheVariants as entry
use Rattle.tipc_journal.specs.Dues.{NothingDue}
use Rattle.tipc_journal.specs.Matches.{arranged, names}
use Rattle.tipc_journal.specs.Names.{AreAtHome, learned, learned_after, live, live_after}
use Rattle.tipc_journal.specs.Steps.{NodeStep, step_entries}
use Rattle.tipc_journal.specs.Streams.{accepted, accepted_message, flow_eq}
use Rattle.tipc_journal.proofs.MatchLaws.{filter_arranged, live_at_home}
use Rattle.tipc_journal.proofs.NameLaws.{learned_append, live_append}
use Rattle.tipc_journal.proofs.WholeSteps.{learned_step, live_step}
use Rattle.tipc_sockets.specs.Telling.{is_payload}
use Rattle.tipc_sockets.proofs.Closing.{eq_turned}
use Rattle.tipc_pair.specs.declared.transitions.Transition.{Transition}
use Rattle.tipc_pair.specs.declared.transitions.Transition.TheVariants.{ContactDown, ContactUp, LinkDown, LinkUp}
use Rattle.tipc_pair.specs.Contacts.{is_of_contact}
use Rattle.tipc_node.specs.Nodes.{NodeState, change_entries}
use Rattle.tipc_node.specs.Sharing.{flow_with}
use Rattle.tipc_node.specs.Telling.{IsTold}
use Rattle.tipc_node.specs.Turns.{is_change_of}
use Rattle.tipc_node.specs.Works.{addr_of_word}
use Rattle.tipc_node.proofs.names.SharingFlows.{accepted_elsewhere}
-- ---- the node's own publications
use Rattle.tipc_link_fsm.proofs.Moves.{not_true as not_so}

-- an entry that doesn't publish and doesn't withdraw
abbrev pub keeps_live : Entry → Bool
keeps_live (entry.Published p) = false
keeps_live (entry.Withdrawn p) = false
keeps_live other = true

kept_live : (live : List Publication) (e : Entry) → keeps_live e ≡ true → live_after live e ≡ live
kept_live live (entry.Published p) is = absurd (true≢false (sym is))
kept_live live (entry.Withdrawn p) is = absurd (true≢false (sym is))
kept_live live other is = refl

pub same_live : (live : List Publication) (es : List Entry) → list_all keeps_live es ≡ true → fold live_after live es ≡ live
same_live live [] all = refl
same_live live (e ∷ es) all =
    let both = and_parts (keeps_live e) _ all in
    ap (λ ps. fold live_after ps es) (kept_live live e both.0) ∙ same_live live es both.1

-- a step goes by the entries that it made
pub live_then : (old new : List Entry) (s : NodeStep) → new ≡ old ++ step_entries s → live new ≡ fold live_after (live old) s.inside
live_then old new s is = ap live is ∙ live_step old s ∙ live_append old s.inside

learned_then : (old new : List Entry) (s : NodeStep) → new ≡ old ++ step_entries s → learned new ≡ fold learned_after (learned old) s.inside
learned_then old new s is = ap learned is ∙ learned_step old s ∙ learned_append old s.inside

-- ---- the names of a peer

-- an entry by which nothing of the names of node b is learned or forgotten, and by which no contact with it ends
abbrev pub is_beside : ℕ → Entry → Bool
is_beside b (entry.Learned p) = not (is_of (node_word b) p)
is_beside b (entry.Forgot p) = not (is_of (node_word b) p)
is_beside b (entry.ContactDown peer numbers states shown) = not (peer.word == node_word b)
is_beside b other = true

-- an entry by which the contact with node b ends
abbrev pub is_end_of : ℕ → Entry → Bool
is_end_of b (entry.ContactDown peer numbers states shown) = peer.word == node_word b
is_end_of b other = false

end_changes : (b : ℕ) (e : Entry) → is_end_of b e ≡ true → is_change_of b e ≡ true
end_changes b (entry.ContactDown peer numbers states shown) is = is
end_changes b other is = absurd (true≢false (sym is))

-- of those that pass a test that is weaker anyway
passed_both : {A : Type 0} (test weak : A → Bool) → ((x : A) → test x ≡ true → weak x ≡ true) → (xs : List A) → filter test (filter weak xs) ≡ filter test xs
passed_both test weak all [] = refl
passed_both {A} test weak all (x ∷ xs) = by (test x) (weak x) refl refl (passed_both test weak all xs)
  where
    by : (b c : Bool) → test x ≡ b → weak x ≡ c → filter test (filter weak xs) ≡ filter test xs → filter test (if c then x ∷ filter weak xs else filter weak xs) ≡ (if b then x ∷ filter test xs else filter test xs)
    by true true hit passes later = ap (λ t. if t then x ∷ filter test (filter weak xs) else filter test (filter weak xs)) hit ∙ ap (λ ys. x ∷ ys) later
    by true false hit passes later = absurd (true≢false (sym (all x hit) ∙ passes))
    by false true hit passes later = ap (λ t. if t then x ∷ filter test (filter weak xs) else filter test (filter weak xs)) hit ∙ later
    by false false hit passes later = later

-- changes that don't tell of the contact end none
changes_end : (b : ℕ) (cs : List Transition) → filter is_of_contact cs ≡ [] → filter (is_end_of b) (change_entries b cs) ≡ []
changes_end b [] none = refl
changes_end b (LinkUp bearer own theirs ∷ cs) none = changes_end b cs none
changes_end b (LinkDown bearer because shown ∷ cs) none = changes_end b cs none
changes_end b (ContactUp numbers ∷ cs) none = absurd (let wrong : ContactUp numbers ∷ filter is_of_contact cs ≡ [] = none in cc)
changes_end b (ContactDown numbers states shown ∷ cs) none = absurd (let wrong : ContactDown numbers states shown ∷ filter is_of_contact cs ≡ [] = none in cc)

-- a step that tells of such changes alone ends no contact with the peer
pub none_ends : (b : ℕ) (es : List Entry) (cs : List Transition) → filter (is_change_of b) es ≡ change_entries b cs → filter is_of_contact cs ≡ [] → filter (is_end_of b) es ≡ []
none_ends b es cs is none = sym (passed_both (is_end_of b) (is_change_of b) (end_changes b) es) ∙ ap (filter (is_end_of b)) is ∙ changes_end b cs none

-- of those that are kept anyway
kept_both : (test kept : Publication → Bool) → ((p : Publication) → test p ≡ true → kept p ≡ true) → (ps : List Publication) → filter test (filter kept ps) ≡ filter test ps
kept_both test kept all [] = refl
kept_both test kept all (p ∷ ps) = by (test p) (kept p) refl refl (kept_both test kept all ps)
  where
    by : (b c : Bool) → test p ≡ b → kept p ≡ c → filter test (filter kept ps) ≡ filter test ps → filter test (if c then p ∷ filter kept ps else filter kept ps) ≡ (if b then p ∷ filter test ps else filter test ps)
    by true true hit keeps later = ap (λ t. if t then p ∷ filter test (filter kept ps) else filter test (filter kept ps)) hit ∙ ap (λ qs. p ∷ qs) later
    by true false hit keeps later = absurd (true≢false (sym (all p hit) ∙ keeps))
    by false true hit keeps later = ap (λ t. if t then p ∷ filter test (filter kept ps) else filter test (filter kept ps)) hit ∙ later
    by false false hit keeps later = later

-- a publication of one node isn't of another
other_node : (word other : ℕ) (p : Publication) → (other == word) ≡ false → is_of word p ≡ true → (other == p.at.node.word) ≡ false
other_node word other p apart is = let same : p.at.node.word ≡ word = eqb-true _ _ is in ap (λ w. other == w) same ∙ apart

beside_kept : (b : ℕ) (ps : List Publication) (e : Entry) → is_beside b e ≡ true → filter (is_of (node_word b)) (learned_after ps e) ≡ filter (is_of (node_word b)) ps
beside_kept b ps (entry.Learned p) is =
    filter-append (is_of (node_word b)) ps (p ∷ [])
    ∙ ap (λ t. filter (is_of (node_word b)) ps ++ (if t then p ∷ [] else [])) (not_so (is_of (node_word b) p) is) ∙ append-nil (filter (is_of (node_word b)) ps)
beside_kept b ps (entry.Forgot q) is =
    kept_both (is_of (node_word b)) (λ p. not ((q.at.node.word == p.at.node.word) && (q.key == p.key)))
    (λ p mine. ap (λ t. not (t && (q.key == p.key))) (other_node (node_word b) q.at.node.word p (not_so (is_of (node_word b) q) is) mine)) ps
beside_kept b ps (entry.ContactDown peer numbers states shown) is =
    kept_both (is_of (node_word b)) (λ p. not (peer.word == p.at.node.word)) (λ p mine. ap not (other_node (node_word b) peer.word p (not_so (peer.word == node_word b) is) mine)) ps
beside_kept b ps other is = refl

learned_beside : (b : ℕ) (ps : List Publication) (es : List Entry) → list_all (is_beside b) es ≡ true → filter (is_of (node_word b)) (fold learned_after ps es) ≡ filter (is_of (node_word b)) ps
learned_beside b ps [] all = refl
learned_beside b ps (e ∷ es) all =
    let both = and_parts (is_beside b e) _ all in
    learned_beside b (learned_after ps e) es both.1 ∙ beside_kept b ps e both.0

-- ---- what the node's sockets hold, by its journal

pub sockets_names : (n : NodeState) → IsTold n → n.sockets.names ≡ names n.journal
sockets_names n h = (h.sockets.told NothingDue).names ∙ ap names (append-nil n.journal)

pub sockets_live : (n : NodeState) → IsTold n → n.sockets.live ≡ live n.journal
sockets_live n h = (h.sockets.told NothingDue).live ∙ ap live (append-nil n.journal)

at_home : (n : NodeState) → IsTold n → AreAtHome (addr_of_word n.own) n.journal
at_home n h = subst (AreAtHome (addr_of_word n.own)) (append-nil n.journal) (h.sockets.told NothingDue).home

-- none of the node's own is of another one
none_mine : (own word : ℕ) (ps : List Publication) → (word == own) ≡ false → list_all (is_of own) ps ≡ true → filter (is_of word) ps ≡ []
none_mine own word [] apart all = refl
none_mine own word (p ∷ ps) apart all =
    let both = and_parts (is_of own p) _ all in
    let other : is_of word p ≡ false = eq_turned p.at.node.word word ∙ other_node own word p apart both.0 in
    ap (λ t. if t then p ∷ filter (is_of word) ps else filter (is_of word) ps) other ∙ none_mine own word ps apart both.1

-- of another node it holds what it learned
held_of : (n : NodeState) (word : ℕ) → IsTold n → (word == n.own) ≡ false → filter (is_of word) n.sockets.names ≡ arranged (filter (is_of word) (learned n.journal))
held_of n word h apart =
    let mine = none_mine n.own word (live n.journal) apart (live_at_home (addr_of_word n.own) n.journal (at_home n h)) in
    ap (filter (is_of word)) (sockets_names n h) ∙ filter_arranged (is_of word) (live n.journal ++ learned n.journal)
    ∙ ap arranged (filter-append (is_of word) (live n.journal) (learned n.journal) ∙ ap (λ ps. ps ++ filter (is_of word) (learned n.journal)) mine)

-- the names of a peer stay in a step beside them
pub names_stay : (n n' : NodeState) (s : NodeStep) (b : ℕ) → IsTold n → IsTold n' → n'.own ≡ n.own → n'.journal ≡ n.journal ++ step_entries s → (node_word b == n.own) ≡ false → list_all (is_beside b) s.inside ≡ true
    → filter (is_of (node_word b)) n'.sockets.names ≡ filter (is_of (node_word b)) n.sockets.names
names_stay n n' s b h h' own journal apart all =
    held_of n' (node_word b) h' (ap (λ w. node_word b == w) own ∙ apart)
    ∙ ap (λ ps. arranged (filter (is_of (node_word b)) ps)) (learned_then n.journal n'.journal s journal)
    ∙ ap arranged (learned_beside b (learned n.journal) s.inside all)
    ∙ sym (held_of n (node_word b) h apart)

-- ---- what a peer was told

-- an entry by which none but a user's message is accepted for node b
abbrev pub is_plain_for : ℕ → Entry → Bool
is_plain_for b (entry.Accepted peer numbers flow message) = is_payload message || not (peer.word == node_word b)
is_plain_for b other = true

one_plain : (o : Option Message) (b : Bool) (m : Message) → is_payload m ≡ true → o ≡ (if b then Some m else None) → (ms : List Message) → list_all is_payload ms ≡ true → list_all is_payload (cons_option o ms) ≡ true
one_plain o true m user is ms all = ap (λ x. list_all is_payload (cons_option x ms)) is ∙ and_from (is_payload m) _ user all
one_plain o false m user is ms all = ap (λ x. list_all is_payload (cons_option x ms)) is ∙ all

pub plain_accepted : (b : ℕ) (numbers : ℕ × ℕ) (es : List Entry) → list_all (is_plain_for b) es ≡ true → list_all is_payload (accepted es (flow_with b numbers)) ≡ true
unfolding accepted
plain_accepted b numbers [] all = refl
plain_accepted b numbers (entry.Accepted peer c flow m ∷ es) all =
    let both = and_parts (is_payload m || not (peer.word == node_word b)) _ all in
    by (is_payload m) refl both.0 (plain_accepted b numbers es both.1)
  where
    by : (t : Bool) → is_payload m ≡ t → t || not (peer.word == node_word b) ≡ true → list_all is_payload (accepted es (flow_with b numbers)) ≡ true
        → list_all is_payload (cons_option (accepted_message (flow_with b numbers) (entry.Accepted peer c flow m)) (accepted es (flow_with b numbers))) ≡ true
    by true user is later = one_plain (accepted_message (flow_with b numbers) (entry.Accepted peer c flow m)) _ m user refl (accepted es (flow_with b numbers)) later
    by false user is later =
        ap (λ o. list_all is_payload (cons_option o (accepted es (flow_with b numbers)))) (accepted_elsewhere b numbers (entry.Accepted peer c flow m) (ap (λ t. t && flow_eq flow Zero) (not_so (peer.word == node_word b) is))) ∙ later
plain_accepted b numbers (other ∷ es) all = plain_accepted b numbers es (and_parts (is_plain_for b other) (list_all (is_plain_for b) es) all).1
