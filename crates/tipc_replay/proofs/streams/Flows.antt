-- How many messages were accepted and delivered in all boots of a node.
use Rattle.std.proofs.Common.{◌≡◌, ◌<◌, ◌≤◌, ◌+◌, ◌-◌, ℕ, suc, Option, take, List, [], ◌∷◌, ◌++◌, map, length, refl, sym, ap, ◌∙◌, append_assoc, append-nil, arith}
use Rattle.std.specs.List.{flat_map}
use Rattle.std.proofs.Math.ListN.{get_or}
use Rattle.std.proofs.lemmas.List.{length-append, take_more}
use Rattle.tipc_journal.specs.declared.entries.Entry.{Entry}
use Rattle.tipc_journal.specs.Room.{JournalState}
use Rattle.tipc_journal.specs.Streams.{Stream, accepted, delivered}
use Rattle.tipc_journal.proofs.StreamLaws.{accepted_append, accepted_nil, delivered_append, delivered_nil}
use Rattle.tipc_types.specs.Address.{node_word}
use Rattle.tipc_types.specs.declared.identity.Addr.{Addr}
use Rattle.tipc_types.specs.declared.message_forms.Flow.TheVariants.{Zero}
use Rattle.tipc_types.specs.declared.node_calls.PeerLinks.{PeerLinks}
use Rattle.tipc_replay.specs.Readers.{link_shown, links_up_to}
use Rattle.tipc_replay.specs.States.{MemberState, counted, history, joined, pair_at, stream_of}

pub joined_are : (journals : List JournalState) → joined journals ≡ flat_map (λ entries. entries) (map (λ j. j.entries) journals)
joined_are [] = refl
joined_are (j ∷ js) = ap (λ es. j.entries ++ es) (joined_are js)

joined_more : (journals : List JournalState) (j : JournalState) → joined (journals ++ j ∷ []) ≡ joined journals ++ j.entries
joined_more [] j = append-nil j.entries
joined_more (k ∷ ks) j = ap (λ es. k.entries ++ es) (joined_more ks j) ∙ sym (append_assoc k.entries (joined ks) j.entries)

saturates : (a b : ℕ) → counted (counted a + b) ≡ counted (a + b)
saturates a b = omega arith

-- a count goes on with one more journal
pub accepted_on : (xs ys : List Entry) (s : Stream) (count : ℕ) → count ≡ counted (length (accepted xs s)) → counted (count + length (accepted ys s)) ≡ counted (length (accepted (xs ++ ys) s))
accepted_on xs ys s count is =
    let size : length (accepted (xs ++ ys) s) ≡ length (accepted xs s) + length (accepted ys s) = ap length (accepted_append xs ys s) ∙ length-append (accepted xs s) (accepted ys s) in
    ap (λ n. counted (n + length (accepted ys s))) is ∙ (saturates (length (accepted xs s)) (length (accepted ys s)) ∙ ap counted (sym size))

pub delivered_on : (xs ys : List Entry) (s : Stream) (count : ℕ) → count ≡ counted (length (delivered xs s)) → counted (count + length (delivered ys s)) ≡ counted (length (delivered (xs ++ ys) s))
delivered_on xs ys s count is =
    let size : length (delivered (xs ++ ys) s) ≡ length (delivered xs s) + length (delivered ys s) = ap length (delivered_append xs ys s) ∙ length-append (delivered xs s) (delivered ys s) in
    ap (λ n. counted (n + length (delivered ys s))) is ∙ (saturates (length (delivered xs s)) (length (delivered ys s)) ∙ ap counted (sym size))

-- a count goes on with the next journal
pub accepted_next : (js : List JournalState) (i : ℕ) (j : JournalState) (node : Addr) (peer : ℕ) (contact : ℕ × ℕ) (count more next : ℕ) → i < length js → j ≡ get_or js i j → node.word ≡ node_word peer
    → count ≡ counted (length (accepted (joined (take i js)) (stream_of peer contact.0 contact.1 Zero))) → more ≡ length (accepted j.entries (record { peer = node; contact = contact; flow = Zero })) → next ≡ counted (count + more)
    → next ≡ counted (length (accepted (joined (take (i + 1) js)) (stream_of peer contact.0 contact.1 Zero)))
accepted_next js i j node peer contact count more next within item named so_far more_is next_is =
    let s = stream_of peer contact.0 contact.1 Zero in
    let taken : take (i + 1) js ≡ take i js ++ j ∷ [] = take_more js i j within ∙ ap (λ x. take i js ++ x ∷ []) (sym item) in
    let all : joined (take (i + 1) js) ≡ joined (take i js) ++ j.entries = ap joined taken ∙ joined_more (take i js) j in
    let here : more ≡ length (accepted j.entries s) = more_is ∙ ap (λ w. length (accepted j.entries (record { peer = record { word = w }; contact = contact; flow = Zero }))) named in
    next_is ∙ (ap (λ n. counted (count + n)) here ∙ (accepted_on (joined (take i js)) j.entries s count so_far ∙ ap (λ es. counted (length (accepted es s))) (sym all)))

-- a count goes on with the next journal
pub delivered_next : (js : List JournalState) (i : ℕ) (j : JournalState) (node : Addr) (peer : ℕ) (contact : ℕ × ℕ) (count more next : ℕ) → i < length js → j ≡ get_or js i j → node.word ≡ node_word peer
    → count ≡ counted (length (delivered (joined (take i js)) (stream_of peer contact.0 contact.1 Zero))) → more ≡ length (delivered j.entries (record { peer = node; contact = contact; flow = Zero })) → next ≡ counted (count + more)
    → next ≡ counted (length (delivered (joined (take (i + 1) js)) (stream_of peer contact.0 contact.1 Zero)))
delivered_next js i j node peer contact count more next within item named so_far more_is next_is =
    let s = stream_of peer contact.0 contact.1 Zero in
    let taken : take (i + 1) js ≡ take i js ++ j ∷ [] = take_more js i j within ∙ ap (λ x. take i js ++ x ∷ []) (sym item) in
    let all : joined (take (i + 1) js) ≡ joined (take i js) ++ j.entries = ap joined taken ∙ joined_more (take i js) j in
    let here : more ≡ length (delivered j.entries s) = more_is ∙ ap (λ w. length (delivered j.entries (record { peer = record { word = w }; contact = contact; flow = Zero }))) named in
    next_is ∙ (ap (λ n. counted (count + n)) here ∙ (delivered_on (joined (take i js)) j.entries s count so_far ∙ ap (λ es. counted (length (delivered es s))) (sym all)))

history_is : (m : MemberState) (js : List JournalState) → m.past ≡ map (λ j. j.entries) js → joined js ++ m.node.journal ≡ history m
unfolding history
history_is m js past = ap (λ es. es ++ m.node.journal) (joined_are js ∙ ap (flat_map (λ entries. entries)) (sym past))

-- the present boot goes on where the past ones end
pub accepted_whole : (m : MemberState) (js : List JournalState) (s : Stream) (count more next : ℕ) → m.past ≡ map (λ j. j.entries) js → count ≡ counted (length (accepted (joined js) s)) → more ≡ length (accepted m.node.journal s)
    → next ≡ counted (count + more) → next ≡ counted (length (accepted (history m) s))
accepted_whole m js s count more next past so_far more_is next_is =
    next_is ∙ (ap (λ n. counted (count + n)) more_is ∙ (accepted_on (joined js) m.node.journal s count so_far ∙ ap (λ es. counted (length (accepted es s))) (history_is m js past)))

-- the present boot goes on where the past ones end
pub delivered_whole : (m : MemberState) (js : List JournalState) (s : Stream) (count more next : ℕ) → m.past ≡ map (λ j. j.entries) js → count ≡ counted (length (delivered (joined js) s)) → more ≡ length (delivered m.node.journal s)
    → next ≡ counted (count + more) → next ≡ counted (length (delivered (history m) s))
delivered_whole m js s count more next past so_far more_is next_is =
    next_is ∙ (ap (λ n. counted (count + n)) more_is ∙ (delivered_on (joined js) m.node.journal s count so_far ∙ ap (λ es. counted (length (delivered es s))) (history_is m js past)))

pub accepted_none : (s : Stream) → 0 ≡ counted (length (accepted [] s))
accepted_none s = sym (ap (λ xs. counted (length xs)) (accepted_nil s))

pub delivered_none : (s : Stream) → 0 ≡ counted (length (delivered [] s))
delivered_none s = sym (ap (λ xs. counted (length xs)) (delivered_nil s))

-- the link ends to the peers below a number, and the one to that peer
pub links_more : (members : List (Option MemberState)) (n peer : ℕ) (links links' : List PeerLinks) → 1 ≤ peer → links ≡ links_up_to members n (peer - 1) → links' ≡ links ++ link_shown peer (pair_at members n peer)
    → links' ≡ links_up_to members n (peer + 1 - 1)
unfolding links_up_to
links_more members n peer links links' some so_far more =
    let next : suc (peer - 1) ≡ peer = omega (arith, some) in
    let all : peer + 1 - 1 ≡ suc (peer - 1) = omega (arith, some) in
    more ∙ (ap (λ xs. xs ++ link_shown peer (pair_at members n peer)) so_far
    ∙ (ap (λ k. links_up_to members n (peer - 1) ++ link_shown k (pair_at members n k)) (sym next) ∙ ap (links_up_to members n) (sym all)))
