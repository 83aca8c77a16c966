-- The entries that the work on a message adds to a step, and what it makes of the names that the sockets hold.
use Rattle.std.proofs.Common.{◌≡◌, ◌&&◌, ℕ, Bool, true, false, List, [], ◌∷◌, ◌++◌, refl, sym, ap, ◌∙◌, subst, append_assoc}
use Rattle.std.specs.List.{list_all}
use Rattle.std.proofs.lemmas.Bool.{and_from}
use Rattle.std.proofs.lemmas.List.Folds.{list_all-append}
use Rattle.tipc_types.specs.declared.identity.Addr.{Addr}
use Rattle.tipc_types.specs.declared.message_forms.Flow.{Flow}
use Rattle.tipc_types.specs.declared.message_forms.Message.{Message}
use Rattle.tipc_outside.specs.declared.outgoing.Outgoing.{Outgoing}
use Rattle.tipc_journal.specs.declared.entries.Entry.{Entry}
use Rattle.tipc_journal.specs.declared.entries.Entry.TheVariants as entry
use Rattle.tipc_journal.specs.Dues.{comes_home}
use Rattle.tipc_sockets.specs.declared.fates.Fate.{Fate}
use Rattle.tipc_sockets.specs.declared.fates.Fate.TheVariants.{Dropped, Queued, ReturnDropped, Returned}
use Rattle.tipc_sockets.specs.Telling.{fate_entry, is_payload}
use Rattle.tipc_node.specs.Plans.{GoesItsWay}
use Rattle.tipc_node.specs.Works.{Follows, GoesBack, Puts, GivesFate, Work, addr_of_word, fate_of, fated}
use Rattle.tipc_node.proofs.journal.Fating.{returned_is, fate_names}

-- ---- entries that pass a test

-- the entries of a fate pass it, and those of users' messages that are accepted
pub record IsOpen (test : Entry → Bool) : Type 0 where
  pub fates : (f : Fate) → test (fate_entry f) ≡ true
  pub users : (peer : Addr) (numbers : ℕ × ℕ) (flow : Flow) (m : Message) → is_payload m ≡ true → test (entry.Accepted peer numbers flow m) ≡ true

-- the work adds entries that pass it
pub record AddsOf (test : Entry → Bool) (w w' : Work) : Type 0 where
  pub entries : List Entry
  pub inside : w'.inside ≡ w.inside ++ entries
  pub all : list_all test entries ≡ true

pub all_both : (test : Entry → Bool) (xs ys : List Entry) → list_all test xs ≡ true → list_all test ys ≡ true → list_all test (xs ++ ys) ≡ true
all_both test xs ys h k = list_all-append test xs ys ∙ ap (λ b. b && list_all test ys) h ∙ k

pub adds_one : (test : Entry → Bool) (w w' : Work) (e : Entry) → w'.inside ≡ w.inside ++ e ∷ [] → test e ≡ true → AddsOf test w w'
adds_one test w w' e is passes = record { entries = e ∷ []; inside = is; all = and_from (test e) true passes refl }

pub adds_then : (test : Entry → Bool) (u v w : Work) → AddsOf test u v → AddsOf test v w → AddsOf test u w
adds_then test u v w h k = record {
  entries = h.entries ++ k.entries;
  inside = k.inside ∙ ap (λ es. es ++ k.entries) h.inside ∙ append_assoc u.inside h.entries k.entries;
  all = all_both test h.entries k.entries h.all k.all;
}

-- ---- a user's message

put_adds : (test : Entry → Bool) (own : ℕ) (w : Work) (peer : ℕ) (m : Message) (w' : Work) (frames : List Outgoing) → IsOpen test → is_payload m ≡ true → Puts own w peer m w' frames → AddsOf test w w'
put_adds test own w peer m w' frames free user p = adds_one test w w' _ (ap (λ (v : Work). v.inside) p.after) (free.users _ _ _ m user)

fated_adds : (test : Entry → Bool) (w : Work) (m : Message) (f : Fate) → IsOpen test → AddsOf test w (fated w m f)
fated_adds test w m f free = adds_one test w (fated w m f) (fate_entry f) refl (free.fates f)

-- the work is this
adds_as : (test : Entry → Bool) (w v v' : Work) → v' ≡ v → AddsOf test w v → AddsOf test w v'
adds_as test w v v' is h = subst (AddsOf test w) (sym is) h

back_adds : (test : Entry → Bool) (own : ℕ) (w : Work) (m : Message) (w' : Work) (frames : List Outgoing) → IsOpen test → is_payload m ≡ true → GoesBack own w m w' frames → AddsOf test w w'
back_adds test own w m w' frames free user h = by (comes_home (addr_of_word own) m) refl
  where
    by : (home : Bool) → comes_home (addr_of_word own) m ≡ home → AddsOf test w w'
    by true is = adds_as test w (fated w m (fate_of w false m)) w' (h.home is).0 (fated_adds test w m (fate_of w false m) free)
    by false is = put_adds test own w _ m w' frames free user (h.away is)

follows_adds : (test : Entry → Bool) (own : ℕ) (w : Work) (m : Message) (f : Fate) (w' : Work) (frames : List Outgoing) → IsOpen test → ((back : Message) → f ≡ Returned back → is_payload back ≡ true) → Follows own w m f w' frames → AddsOf test w w'
follows_adds test own w m (Returned back) w' frames free user h =
    adds_then test w (fated w m (Returned back)) w' (fated_adds test w m (Returned back) free) (back_adds test own (fated w m (Returned back)) back w' frames free (user back refl) h)
follows_adds test own w m (Queued ports) w' frames free user h = adds_as test w (fated w m (Queued ports)) w' h.0 (fated_adds test w m (Queued ports) free)
follows_adds test own w m (ReturnDropped waiting) w' frames free user h = adds_as test w (fated w m (ReturnDropped waiting)) w' h.0 (fated_adds test w m (ReturnDropped waiting) free)
follows_adds test own w m Dropped w' frames free user h = adds_as test w (fated w m Dropped) w' h.0 (fated_adds test w m Dropped free)

pub settles_adds : (test : Entry → Bool) (own : ℕ) (w : Work) (arrived : Bool) (m : Message) (w' : Work) (frames : List Outgoing) → IsOpen test → GivesFate own w arrived m w' frames → AddsOf test w w'
settles_adds test own w arrived m w' frames free h =
    follows_adds test own w m (fate_of w arrived m) w' frames free (λ back is. (let r = returned_is (addr_of_word own) w.sockets arrived _ m back is in r.payload)) h

pub goes_adds : (test : Entry → Bool) (own : ℕ) (w : Work) (m : Message) (w' : Work) (frames : List Outgoing) → IsOpen test → is_payload m ≡ true → GoesItsWay own w m w' frames → AddsOf test w w'
goes_adds test own w m w' frames free user h = by (comes_home (addr_of_word own) m) refl
  where
    by : (home : Bool) → comes_home (addr_of_word own) m ≡ home → AddsOf test w w'
    by true is = settles_adds test own w false m w' frames free (h.home is)
    by false is = put_adds test own w _ m w' frames free user (h.away is)

-- ---- the names that the sockets hold

names_as : (w v : Work) → w ≡ v → w.sockets.names ≡ v.sockets.names
names_as w v is = ap (λ (u : Work). u.sockets.names) is

back_names : (own : ℕ) (w : Work) (m : Message) (w' : Work) (frames : List Outgoing) → GoesBack own w m w' frames → w'.sockets.names ≡ w.sockets.names
back_names own w m w' frames h = by (comes_home (addr_of_word own) m) refl
  where
    by : (home : Bool) → comes_home (addr_of_word own) m ≡ home → w'.sockets.names ≡ w.sockets.names
    by true is = names_as w' (fated w m (fate_of w false m)) (h.home is).0 ∙ fate_names w.sockets m (fate_of w false m)
    by false is = (let p = h.away is in names_as w' _ p.after)

follows_names : (own : ℕ) (w : Work) (m : Message) (f : Fate) (w' : Work) (frames : List Outgoing) → Follows own w m f w' frames → w'.sockets.names ≡ w.sockets.names
follows_names own w m (Returned back) w' frames h = back_names own (fated w m (Returned back)) back w' frames h
follows_names own w m (Queued ports) w' frames h = names_as w' (fated w m (Queued ports)) h.0
follows_names own w m (ReturnDropped waiting) w' frames h = names_as w' (fated w m (ReturnDropped waiting)) h.0
follows_names own w m Dropped w' frames h = names_as w' (fated w m Dropped) h.0

pub settles_names : (own : ℕ) (w : Work) (arrived : Bool) (m : Message) (w' : Work) (frames : List Outgoing) → GivesFate own w arrived m w' frames → w'.sockets.names ≡ w.sockets.names
settles_names own w arrived m w' frames h = follows_names own w m (fate_of w arrived m) w' frames h
