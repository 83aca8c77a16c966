-- The order of contacts is kept, whatever either side does and says.
use Rattle.std.proofs.Common.{◌≡◌, ℕ, ◌<◌, ◌≤◌, List, [], ◌∷◌, ◌++◌, Some, arith}
use Rattle.std.specs.Prelude.{slice_get}
use Rattle.tipc_contact.specs.Sides.{acted, alone, Action, ContactEnded, EndCalled, EndMade, HigherShown, IsSaid, MayAct, Notice, Restarted, Side}
use Rattle.tipc_contact.specs.Order.{AreInOrder, SaysNoHigher, WasShown}
use Rattle.tipc_contact.proofs.Speaking.{one_of, own_no_lower}

says_none : (own peer : ℕ) → SaysNoHigher [] own peer
says_none own peer = record { own_number = λ k m is. absurd (let no : ⊥ = cc in no); peer_number = λ k m is. absurd (let no : ⊥ = cc in no) }

pub ordered_start : (a b : ℕ) → AreInOrder (alone a) [] (alone b) []
ordered_start a b = record {
  a_seen = omega arith;
  b_seen = omega arith;
  a_says = says_none (alone a).own (alone b).own;
  b_says = says_none (alone b).own (alone a).own;
  crossed = λ k l f g is other less. absurd (let no : ⊥ = cc in no);
}

-- numbers of the sides only rise
says_on : (said : List Notice) (own peer own' peer' : ℕ) → own ≤ own' → peer ≤ peer' → SaysNoHigher said own peer → SaysNoHigher said own' peer'
says_on said own peer own' peer' low high h = record {
  own_number = λ k m is. let old = h.own_number k m is in omega arith;
  peer_number = λ k m is. let old = h.peer_number k m is in omega arith;
}

-- what a side has seen of the peer's number after an action, the peer has
seen_after : (a : Side) (own : ℕ) (said : List Notice) (action : Action) → a.seen ≤ own → ((k : ℕ) (m : Notice) → slice_get said k ≡ Some m → m.contact ≤ own) → WasShown said action → (acted a action).seen ≤ own
seen_after a own said (EndMade bearer) seen says shown = seen
seen_after a own said (EndCalled bearer call) seen says shown = seen
seen_after a own said (HigherShown number) seen says shown = let low = says shown.place shown.notice shown.there in let is = shown.contact_is in omega arith
seen_after a own said ContactEnded seen says shown = seen
seen_after a own said (Restarted boot) seen says shown = omega arith

pub ordered_acts : (a b : Side) (said_a said_b : List Notice) (action : Action) → AreInOrder a said_a b said_b → MayAct a said_b action → WasShown said_b action → AreInOrder (acted a action) said_a b said_b
ordered_acts a b said_a said_b action h may shown =
    let rises = own_no_lower a said_b action may in
    let seen = h.b_seen in
    record {
      a_seen = seen_after a b.own said_b action h.a_seen h.b_says.own_number shown;
      b_seen = omega arith;
      a_says = says_on said_a a.own b.own (acted a action).own b.own rises (omega arith) h.a_says;
      b_says = says_on said_b b.own a.own b.own (acted a action).own (omega arith) rises h.b_says;
      crossed = h.crossed;
    }

pub ordered_says : (a b : Side) (said_a said_b : List Notice) (m : Notice) → AreInOrder a said_a b said_b → IsSaid a m → AreInOrder a (said_a ++ m ∷ []) b said_b
ordered_says a b said_a said_b m h is =
    let contact = is.contact in
    let peer = is.peer_contact in
    let seen = h.a_seen in
    record {
      a_seen = h.a_seen;
      b_seen = h.b_seen;
      a_says = record {
        own_number = λ k n at. one_of said_a m n k (λ x. x.contact ≤ a.own) at (λ j old. h.a_says.own_number j n old) (omega arith);
        peer_number = λ k n at. one_of said_a m n k (λ x. x.peer_contact ≤ b.own) at (λ j old. h.a_says.peer_number j n old) (omega arith);
      };
      b_says = h.b_says;
      crossed = λ k l f g at there.
          let named = h.b_says.peer_number l g there in
          one_of said_a m f k (λ x. g.contact < x.peer_contact → g.peer_contact ≤ x.contact) at (λ j old. h.crossed j l f g old there) (λ less. omega arith);
    }

not_above : (p q : ℕ) → (q < p → ⊥) → p ≤ q
not_above p q never = omega (arith, never)

pub ordered_turned : (a b : Side) (said_a said_b : List Notice) → AreInOrder a said_a b said_b → AreInOrder b said_b a said_a
ordered_turned a b said_a said_b h = record {
  a_seen = h.b_seen;
  b_seen = h.a_seen;
  a_says = h.b_says;
  b_says = h.a_says;
  crossed = λ k l f g at there less. not_above g.peer_contact f.contact (λ above. (let back = h.crossed l k g f there at above in let wrong : ⊥ = omega arith in wrong));
}
