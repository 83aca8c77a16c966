-- What is due behind one more entry, and what one more entry queues.
use Rattle.std.proofs.Common.{◌≡◌, ℕ, List, [], ◌∷◌, ◌++◌, refl, sym, ◌∙◌, ap, append_assoc}
use Rattle.std.proofs.lemmas.List.{append-nil}
use Rattle.std.proofs.lemmas.List.Sums.{fold-append}
use Rattle.tipc_types.specs.declared.identity.Addr.{Addr}
use Rattle.tipc_journal.specs.declared.entries.Entry.{Entry}
use Rattle.tipc_journal.specs.Dues.{Due, due_after, due_behind}
use Rattle.tipc_journal.specs.Queues.{queued_by, queued_in, queue, queue_inside}

-- behind no entry the same is due
pub due_behind_nil : (own : Addr) (d : Due) → due_behind own d [] ≡ d
unfolding due_behind
due_behind_nil own d = refl

-- behind one more entry is due what that entry makes of what was due
pub due_behind_more : (own : Addr) (d : Due) (es : List Entry) (e : Entry) → due_behind own d (es ++ e ∷ []) ≡ due_after own (due_behind own d es) e
unfolding due_behind
due_behind_more own d es e = fold-append (due_after own) d es (e ∷ [])

-- behind one more entry in front
pub due_behind_cons : (own : Addr) (d : Due) (e : Entry) (es : List Entry) → due_behind own d (e ∷ es) ≡ due_behind own (due_after own d e) es
unfolding due_behind
due_behind_cons own d e es = refl

-- no entry queues nothing
pub queued_in_nil : (own : Addr) (port : ℕ) (d : Due) → queued_in own port d [] ≡ []
unfolding queued_in
queued_in_nil own port d = refl

-- one more entry queues what is due where it is a Queued to the port
pub queued_in_more : (own : Addr) (port : ℕ) (d : Due) (es : List Entry) (e : Entry)
    → queued_in own port d (es ++ e ∷ []) ≡ queued_in own port d es ++ queued_by port (due_behind own d es) e
unfolding queued_in
queued_in_more own port d [] e = append-nil (queued_by port d e) ∙ ap (λ w. queued_by port w e) (sym (due_behind_nil own d))
queued_in_more own port d (x ∷ xs) e =
    let next : Due = due_after own d x in
    ap (λ w. queued_by port d x ++ w) (queued_in_more own port next xs e)
    ∙ sym (append_assoc (queued_by port d x) (queued_in own port next xs) (queued_by port (due_behind own next xs) e))
    ∙ ap (λ w. (queued_by port d x ++ queued_in own port next xs) ++ queued_by port w e) (sym (due_behind_cons own d x xs))

-- at the beginning of a step the queue is that of the journal before it
pub queue_inside_nil : (own : Addr) (J : List Entry) (d : Due) (port : ℕ) → queue_inside own J d [] port ≡ queue own J port
queue_inside_nil own J d port = ap (λ w. queue own J port ++ w) (queued_in_nil own port d) ∙ append-nil (queue own J port)

-- one more entry of a step puts what it queues behind the queue
pub queue_inside_more : (own : Addr) (J : List Entry) (d : Due) (front : List Entry) (e : Entry) (port : ℕ)
    → queue_inside own J d (front ++ e ∷ []) port ≡ queue_inside own J d front port ++ queued_by port (due_behind own d front) e
queue_inside_more own J d front e port =
    ap (λ w. queue own J port ++ w) (queued_in_more own port d front e)
    ∙ sym (append_assoc (queue own J port) (queued_in own port d front) (queued_by port (due_behind own d front) e))
