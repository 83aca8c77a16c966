-- The messages between two nodes, in every contact, whatever either does.
use Rattle.std.proofs.Common.{◌≡◌, ◌<◌, ℕ, List, sym, ap, ◌∙◌, subst, arith}
use Rattle.tipc_types.specs.Prefixes.{IsPrefixOf}
use Rattle.tipc_fragments.specs.Joining.{Joining}
use Rattle.tipc_paired.specs.Views.{Node, View}
use Rattle.tipc_two_nodes.specs.Carriages.{Carriage}
use Rattle.tipc_two_nodes.specs.Messages.{AreMessages, IsTalk, Talks}
use Rattle.tipc_two_nodes.specs.Steps.{ChangedAt}
use Rattle.tipc_two_nodes.proofs.contacts.Choosing.{on_changed}
use Rattle.tipc_two_nodes.proofs.messages.Talking.{given_front}

-- what y is given of each contact is a front of what x put
pub talks_front : (x y : View) (f : ℕ → ℕ → Carriage) (put given : ℕ → ℕ → List (List ℕ)) (begun : Joining) → Talks x y f put given begun → (own theirs : ℕ) → IsPrefixOf (given theirs own) (put own theirs)
talks_front x y f put given begun h own theirs = (let e = h.each own theirs in given_front (f own theirs) (put own theirs) (given theirs own) e.last e.are)

-- ---- the sender

-- x sends on in its contact, and keeps its number: a message may be put
pub talks_send : (x x' y : View) (f g : ℕ → ℕ → Carriage) (c : Carriage) (put put' given : ℕ → ℕ → List (List ℕ)) (begun : Joining) (messages : List (List ℕ)) → x'.node ≡ x.node → ChangedAt f g x.node.contact x.node.seen c → ChangedAt put put' x.node.contact x.node.seen messages
    → (h : Talks x y f put given begun) → AreMessages c messages (given x.node.seen x.node.contact) (h.each x.node.contact x.node.seen).last → Talks x' y g put' given begun
talks_send x x' y f g c put put' given begun messages node m m' h new =
    let contact : x'.node.contact ≡ x.node.contact = ap (λ (n : Node). n.contact) node in
    record {
      each = on_changed put put' x.node.contact x.node.seen messages (λ i j ms. IsTalk y j i (g i j) ms (given j i) begun) m'
          (let e = h.each x.node.contact x.node.seen in record {
            last = e.last;
            are = subst (λ (d : Carriage). AreMessages d messages (given x.node.seen x.node.contact) e.last) (sym m.here) new;
            now = e.now;
          })
          (λ i j differ. subst (λ (d : Carriage). IsTalk y j i d (put i j) (given j i) begun) (sym (m.others i j differ)) (h.each i j));
      none = λ i j later. (
          let before : x.node.contact < i = omega arith in
          let was = h.none i j before in
          (m'.others i j (λ one two. (let wrong : ⊥ = omega arith in wrong)) ∙ was.0, was.1));
    }
