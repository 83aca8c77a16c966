-- A packet joins the last one that waits, and the bundle of both stands in its place: no event of two links and their tunnels.
use Rattle.std.proofs.Common.{◌≡◌, ℕ, zero, suc, ◌+◌, ◌-◌, ◌<◌, ◌≤◌, false, List, [], ◌∷◌, ◌++◌, Some, length, take, refl, sym, ap, ◌∙◌, subst, inl, inr, arith}
use Rattle.std.specs.Prelude.{slice_index_or}
use Rattle.std.specs.List.{slice_get}
use Rattle.std.proofs.lemmas.Bool.{cases_Bool}
use Rattle.std.proofs.lemmas.List.{length-append, length-take}
use Rattle.tipc_send_window.specs.Sending.{swapped}
use Rattle.tipc_link.specs.Records.{is_tunnel}
use Rattle.tipc_changeover.specs.Slots.{at, counted, plains, Plain, LinkSlot, Tunnel}
use Rattle.tipc_changeover.specs.Links.{leads, other, Bearer, State, Up}
use Rattle.tipc_changeover.specs.Sound.{Sound}
use Rattle.tipc_changeover.proofs.Lists.{plains-append, plains-none, plains_of_plain}
use Rattle.tipc_changeover.proofs.Keeping.{leads_one}
use Rattle.tipc_changeover.proofs.Numbers.{counted-cons}
use Rattle.tipc_two_nodes.specs.links.Traffic.{Lines, Traffic}
use Rattle.tipc_two_nodes.specs.links.Packets.{AreFor, IsFor, IsPlain}
use Rattle.tipc_two_nodes.specs.links.Sending.{SendingEnds, StandFor, beside}
use Rattle.tipc_two_nodes.specs.links.Steps.{near_window, with_last_put}
use Rattle.tipc_two_nodes.proofs.links.sender.Lists.{are_append}
use Rattle.tipc_two_nodes.proofs.links.receiver.Taking.{counted_last, plain_slot}
use Rattle.tipc_two_nodes.proofs.links.sender.Travelling.{no_place}

-- ---- lists

tail_at : (z : LinkSlot) (zs : List LinkSlot) (P Q : LinkSlot → List ℕ → Type 0) → ((p : ℕ) (w : LinkSlot) (packet : List ℕ) → at (z ∷ zs) p ≡ Some w → P w packet → Q w packet) → (p : ℕ) (w : LinkSlot) (packet : List ℕ) → at zs p ≡ Some w → P w packet → Q w packet
unfolding at
tail_at z zs P Q f zero w packet there h = absurd (no_place zs w there)
tail_at z zs P Q f (suc p) w packet there h = f (suc (suc p)) w packet there h

are_map_at : (P Q : LinkSlot → List ℕ → Type 0) (zs : List LinkSlot) (ps : List (List ℕ)) → ((p : ℕ) (z : LinkSlot) (packet : List ℕ) → at zs p ≡ Some z → P z packet → Q z packet) → AreFor P zs ps → AreFor Q zs ps
unfolding at
are_map_at P Q [] [] f h = tt
are_map_at P Q [] (p ∷ ps) f h = absurd h
are_map_at P Q (z ∷ zs) [] f h = absurd h
are_map_at P Q (z ∷ zs) (p ∷ ps) f h = (f 1 z p refl h.0, are_map_at P Q zs ps (tail_at z zs P Q f) h.1)

-- the last slot, and the packet that waits last
pub record LastSlot (P : LinkSlot → List ℕ → Type 0) (zs : List LinkSlot) (ps : List (List ℕ)) : Type 0 where
  pub before : List LinkSlot
  pub slot : LinkSlot
  pub slots : zs ≡ before ++ slot ∷ []
  pub are : AreFor P before (take (length ps - 1) ps)
  pub is : P slot (slice_index_or ps (length ps - 1) [])

last_slot : (P : LinkSlot → List ℕ → Type 0) (zs : List LinkSlot) (ps : List (List ℕ)) → AreFor P zs ps → 1 ≤ length ps → LastSlot P zs ps
last_slot P [] [] h some = absurd (let wrong : ⊥ = omega arith in wrong)
last_slot P [] (p ∷ ps) h some = absurd h
last_slot P (z ∷ zs) [] h some = absurd h
last_slot P (z ∷ []) (p ∷ []) h some = record { before = []; slot = z; slots = refl; are = tt; is = h.0 }
last_slot P (z ∷ []) (p ∷ q ∷ ps) h some = absurd h.1
last_slot P (z ∷ w ∷ zs) (p ∷ []) h some = absurd h.1
last_slot P (z ∷ w ∷ zs) (p ∷ q ∷ ps) h some =
    let rest = last_slot P (w ∷ zs) (q ∷ ps) h.1 (omega arith) in
    let count : length (p ∷ q ∷ ps) - 1 ≡ suc (length (q ∷ ps) - 1) = omega arith in
    record {
      before = z ∷ rest.before;
      slot = rest.slot;
      slots = ap (λ ws. z ∷ ws) rest.slots;
      are = subst (λ n. AreFor P (z ∷ rest.before) (take n (p ∷ q ∷ ps))) (sym count) (h.0, rest.are);
      is = subst (λ n. P rest.slot (slice_index_or (p ∷ q ∷ ps) n [])) (sym count) rest.is;
    }

-- packets before the last of those that are counted up are lower
lower_before : (zs : List LinkSlot) (i before count p j : ℕ) → plains zs ++ i ∷ [] ≡ counted before count → at zs p ≡ Some (Plain j) → j < i
unfolding at plains
lower_before [] i before count p j is there = absurd (let wrong : ⊥ = cc in wrong)
lower_before (Plain k ∷ zs) i before count zero j is there = absurd (let wrong : ⊥ = cc in wrong)
lower_before (Plain k ∷ zs) i before count (suc zero) j is there =
    let first = (counted-cons before count k (plains zs ++ i ∷ []) is).number in
    let last = counted_last (k ∷ plains zs) i before count is in
    let same : k ≡ j = cc in
    omega arith
lower_before (Plain k ∷ zs) i before count (suc (suc p)) j is there = lower_before zs i (before + 1) (count - 1) (suc p) j (counted-cons before count k (plains zs ++ i ∷ []) is).follow there
lower_before (Tunnel f q full ∷ zs) i before count zero j is there = absurd (let wrong : ⊥ = cc in wrong)
lower_before (Tunnel f q full ∷ zs) i before count (suc zero) j is there = absurd (let wrong : ⊥ = cc in wrong)
lower_before (Tunnel f q full ∷ zs) i before count (suc (suc p)) j is there = lower_before zs i before count (suc p) j is there

front_take : (n : ℕ) (xs ys : List (List ℕ)) (k : ℕ) (x : List ℕ) → slice_get xs k ≡ Some x → k < n → slice_get (take n xs ++ ys) k ≡ Some x
front_take zero xs ys k x there less = absurd (let wrong : ⊥ = omega arith in wrong)
front_take (suc n) [] ys k x there less = absurd (let wrong : ⊥ = cc in wrong)
front_take (suc n) (y ∷ xs) ys zero x there less = there
front_take (suc n) (y ∷ xs) ys (suc k) x there less = front_take n xs ys k x there (omega arith)

last_get : (n : ℕ) (xs : List (List ℕ)) (x : List ℕ) → n ≤ length xs → slice_get (take n xs ++ x ∷ []) n ≡ Some x
last_get zero xs x low = refl
last_get (suc n) [] x low = absurd (let wrong : ⊥ = omega arith in wrong)
last_get (suc n) (y ∷ xs) x low = last_get n xs x (omega arith)

counted_empty : (before count : ℕ) → [] ≡ counted before count → count ≡ 0
unfolding counted
counted_empty before zero is = refl
counted_empty before (suc count) is = absurd (let wrong : ⊥ = cc in wrong)

none_more : (before count whole : ℕ) → [] ≡ counted before (whole - 1) → 1 ≤ whole → whole ≡ 0 + 1
none_more before count whole is some = (let none = counted_empty before (whole - 1) is in omega arith)

length_counted : (xs : List ℕ) (i before count : ℕ) → xs ++ i ∷ [] ≡ counted before count → count ≡ length xs + 1
length_counted [] i before count is = (let first = counted-cons before count i [] is in let some = first.some in none_more (before + 1) (count - 1) count first.follow some)
length_counted (x ∷ xs) i before count is = (let first = counted-cons before count x (xs ++ i ∷ []) is in let some = first.some in let more = length_counted xs i (before + 1) (count - 1) first.follow in omega arith)

nothing_there : (xs : List ℕ) (i : ℕ) → xs ++ i ∷ [] ≡ [] → ⊥
nothing_there [] i is = cc
nothing_there (x ∷ xs) i is = cc

-- ---- packets that were put before the last one

before_last : (put : List (List ℕ)) (bundle : List ℕ) (bearer : ℕ) (l : Lines) (z : LinkSlot) (packet : List ℕ) → ((i : ℕ) → z ≡ Plain i → i < length put) → IsFor put bearer l z packet
    → IsFor (take (length put - 1) put ++ bundle ∷ []) bearer l z packet
before_last put bundle bearer l (Plain i) packet lower h =
    let less = lower i refl in
    let counts = h.counts in
    record { counts = h.counts; there = front_take (length put - 1) put (bundle ∷ []) (i - 1) packet h.there (omega arith); plain = h.plain }
before_last put bundle bearer l (Tunnel f q full) packet lower h = h

-- ---- the last packet that waits

-- the last slot that waits is that of the last packet that was put
pub record LastWaits (b : Bearer) (x : SendingEnds) (t : Traffic) (s : State) : Type 0 where
  pub last : LastSlot (IsFor t.put (beside x.bearer) t.far) s.near.waiting x.near.window.waiting
  pub slot_is : last.slot ≡ Plain (length t.put)
  pub lower : (p j : ℕ) → at last.before p ≡ Some (Plain j) → j < length t.put
  pub numbered : s.numbered < length t.put
  pub none : plains s.far.waiting ≡ []

one_plain : (z : LinkSlot) (i : ℕ) → z ≡ Plain i → plains (z ∷ []) ≡ i ∷ []
one_plain z i is = ap (λ w. plains (w ∷ [])) is ∙ plains_of_plain i

pub last_waits : (b : Bearer) (x : SendingEnds) (t : Traffic) (s : State) → StandFor b x t s → Sound b s → x.near.state ≡ Up → 1 ≤ length x.near.window.waiting
    → is_tunnel (slice_index_or x.near.window.waiting (length x.near.window.waiting - 1) []) ≡ false → LastWaits b x t s
last_waits b x t s h sound up some plain =
    let P = IsFor t.put (beside x.bearer) t.far in
    let w = last_slot P s.near.waiting x.near.window.waiting (h.near.queue up).waits some in
    let one = plain_slot t.put (beside x.bearer) t.far w.slot (slice_index_or x.near.window.waiting (length x.near.window.waiting - 1) []) w.is plain in
    let put = h.put in
    let within = sound.numbers in
    let all : plains s.near.waiting ≡ plains w.before ++ one.0 ∷ [] = ap plains w.slots ∙ (plains-append w.before (w.slot ∷ []) ∙ ap (λ is. plains w.before ++ is) (one_plain w.slot one.0 one.1)) in
    elim (cases_Bool (leads b s.near.state s.far.state)) [
      | inl leading ↦ (
          let counted_up : plains w.before ++ one.0 ∷ [] ≡ counted s.numbered (s.put - s.numbered) = sym all ∙ sound.near.homes.waits leading in
          let place = counted_last (plains w.before) one.0 s.numbered (s.put - s.numbered) counted_up in
          let long = length_counted (plains w.before) one.0 s.numbered (s.put - s.numbered) counted_up in
          let last : one.0 ≡ length t.put = omega arith in
          record {
            last = w;
            slot_is = one.1 ∙ ap Plain last;
            lower = λ p j there. (let less = lower_before w.before one.0 s.numbered (s.put - s.numbered) p j counted_up there in omega arith);
            numbered = omega arith;
            none = sound.far.homes.none_waits (leads_one b s.near.state s.far.state leading);
          })
      | inr other ↦ absurd (nothing_there (plains w.before) one.0 (sym all ∙ sound.near.homes.none_waits other))
    ]

pub joins : (b : Bearer) (x : SendingEnds) (t : Traffic) (s : State) (bundle : List ℕ) → StandFor b x t s → Sound b s → x.near.state ≡ Up → 1 ≤ length x.near.window.waiting
    → is_tunnel (slice_index_or x.near.window.waiting (length x.near.window.waiting - 1) []) ≡ false → is_tunnel bundle ≡ false → StandFor b (near_window x (swapped x.near.window bundle)) (with_last_put t bundle) s
joins b x t s bundle h sound up some plain plain' =
    let P = IsFor t.put (beside x.bearer) t.far in
    let P' = IsFor (take (length t.put - 1) t.put ++ bundle ∷ []) (beside x.bearer) t.far in
    let Q = IsFor t.put x.bearer t.near in
    let Q' = IsFor (take (length t.put - 1) t.put ++ bundle ∷ []) x.bearer t.near in
    let w = last_waits b x t s h sound up some plain in
    let numbered = w.numbered in
    let short = length-take (length t.put - 1) t.put in
    let put = h.put in
    let bundle_is : IsPlain (take (length t.put - 1) t.put ++ bundle ∷ []) (length t.put) bundle = record { counts = omega arith; there = last_get (length t.put - 1) t.put bundle (omega arith); plain = plain' } in
    let new_waits : AreFor P' (w.last.before ++ w.last.slot ∷ []) (take (length x.near.window.waiting - 1) x.near.window.waiting ++ bundle ∷ []) =
    are_append P' w.last.before (w.last.slot ∷ []) (take (length x.near.window.waiting - 1) x.near.window.waiting) (bundle ∷ [])
    (are_map_at P P' w.last.before (take (length x.near.window.waiting - 1) x.near.window.waiting) (λ p z packet there. before_last t.put bundle (beside x.bearer) t.far z packet (λ i is. w.lower p i (there ∙ ap Some is))) w.last.are)
    (subst (λ z. P' z bundle) (sym w.slot_is) bundle_is, tt) in
    record {
      bearer = h.bearer;
      put = length-append (take (length t.put - 1) t.put) (bundle ∷ []) ∙ (omega arith);
      near = record {
        epoch = h.near.epoch;
        state = h.near.state;
        lines = λ e. are_map_at P P' (s.near.line e) (t.near.line e) (λ p z packet there. before_last t.put bundle (beside x.bearer) t.far z packet (λ i is. (let within = (sound.near.homes.within e p i (there ∙ ap Some is)).1 in omega arith))) (h.near.lines e);
        queue = λ near_up. (let q = h.near.queue near_up in record {
          numbered = q.numbered;
          acked = q.acked;
          kept = q.kept;
          waits = subst (λ zs. AreFor P' zs (take (length x.near.window.waiting - 1) x.near.window.waiting ++ bundle ∷ [])) (sym w.last.slots) new_waits;
        });
      };
      far = record {
        epoch = h.far.epoch;
        state = h.far.state;
        lines = λ e. are_map_at Q Q' (s.far.line e) (t.far.line e) (λ p z packet there. before_last t.put bundle x.bearer t.near z packet (λ i is. (let within = (sound.far.homes.within e p i (there ∙ ap Some is)).1 in omega arith))) (h.far.lines e);
        queue = λ far_up. (let q = h.far.queue far_up in record {
          numbered = q.numbered;
          acked = q.acked;
          kept = q.kept;
          waits = are_map_at Q Q' s.far.waiting x.far.window.waiting (λ p z packet there. before_last t.put bundle x.bearer t.near z packet (λ i is. absurd (plains-none s.far.waiting p i w.none (there ∙ ap Some is)))) q.waits;
        });
      };
    }
