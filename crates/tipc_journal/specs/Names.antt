-- Names in a journal: the node's live publications, and those that it learned of its peers.
use Rattle.std.specs.Prelude.{◌≡◌, ◌==◌, ◌&&◌, if◌then◌else◌, not, Bool, true, false, List, [], ◌∷◌, ◌++◌, Option, Some, None, filter}
use Rattle.std.specs.List.{cons_option, list_all, list_any}
use Rattle.tipc_types.specs.declared.identity.Addr.{Addr}
use Rattle.tipc_types.specs.declared.services.Publication.{Publication}
use Rattle.tipc_types.specs.declared.services.Scope.{Scope}
use Rattle.tipc_types.specs.declared.services.Scope.TheVariants.{Node}
use Rattle.tipc_journal.specs.declared.entries.Entry.{Entry}
use Rattle.tipc_journal.specs.declared.entries.Entry.TheVariants.{Published, Withdrawn, Learned, Forgot, ContactDown}

-- the publication, where no later entry removes it
abbrev pub unless_removed : (Publication → Entry → Bool) → Option Publication → List Entry → Option Publication
unless_removed removes None later = None
unless_removed removes (Some p) later = if list_any (removes p) later then None else Some p

-- the publications that entries add, each where no later entry removes it, in order
abbrev pub standing : (Entry → Option Publication) → (Publication → Entry → Bool) → List Entry → List Publication
standing adds removes [] = []
standing adds removes (e ∷ later) = cons_option (unless_removed removes (adds e) later) (standing adds removes later)

-- the publication of a Published entry
abbrev pub published : Entry → Option Publication
published (Published p) = Some p
published _ = None

-- whether the entry is a Withdrawn of the publication's key
abbrev pub withdraws : Publication → Entry → Bool
withdraws p (Withdrawn q) = q.key == p.key
withdraws p _ = false

-- the node's live publications: those Published without a Withdrawn of that key after them, in order
unfoldable pub live : List Entry → List Publication
live entries = standing published withdraws entries

-- the publication of a Learned entry
abbrev pub learned_in : Entry → Option Publication
learned_in (Learned p) = Some p
learned_in _ = None

-- whether the entry is a Forgot of the publication's node and key, or a ContactDown of its node
abbrev pub forgets : Publication → Entry → Bool
forgets p (Forgot q) = (q.at.node.word == p.at.node.word) && (q.key == p.key)
forgets p (ContactDown peer numbers states shown) = peer.word == p.at.node.word
forgets p _ = false

-- the peers' publications: those Learned without a Forgot of that key of that peer,
-- or a ContactDown of that peer, after them, in order
unfoldable pub learned : List Entry → List Publication
learned entries = standing learned_in forgets entries

-- the table: the node's live publications, then the peers'
abbrev pub table : List Entry → List Publication
table entries = live entries ++ learned entries

-- whether a publication of this scope is seen in the whole cluster
abbrev pub is_clusterwide : Scope → Bool
is_clusterwide Node = false
is_clusterwide _ = true

-- the cluster part of publications: all but those of node scope
abbrev pub cluster_part : List Publication → List Publication
cluster_part ps = filter (λ p. is_clusterwide p.scope) ps

-- the live publications after an entry
abbrev pub live_after : List Publication → Entry → List Publication
live_after ps (Published p) = ps ++ p ∷ []
live_after ps (Withdrawn q) = filter (λ p. not (q.key == p.key)) ps
live_after ps _ = ps

-- the peers' publications after an entry
abbrev pub learned_after : List Publication → Entry → List Publication
learned_after ps (Learned p) = ps ++ p ∷ []
learned_after ps (Forgot q) = filter (λ p. not ((q.at.node.word == p.at.node.word) && (q.key == p.key))) ps
learned_after ps (ContactDown peer numbers states shown) = filter (λ p. not (peer.word == p.at.node.word)) ps
learned_after ps _ = ps

-- whether an entry tells of publications as a journal of this node may: it publishes and withdraws its own,
-- and learns and forgets those of its peers
abbrev pub is_at_home : Addr → Entry → Bool
is_at_home own (Published p) = p.at.node.word == own.word
is_at_home own (Withdrawn p) = p.at.node.word == own.word
is_at_home own (Learned p) = not (p.at.node.word == own.word)
is_at_home own (Forgot p) = not (p.at.node.word == own.word)
is_at_home own (ContactDown peer numbers states shown) = not (peer.word == own.word)
is_at_home own _ = true

-- the entries are of this node: each tells of publications as its journal may
abbrev pub AreAtHome : Addr → List Entry → Type 0
AreAtHome own entries = list_all (is_at_home own) entries ≡ true
