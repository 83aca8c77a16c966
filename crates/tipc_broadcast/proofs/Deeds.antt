-- Deeds at the broadcast link: one list behind another, what stays, and who is in contact after them.
use Rattle.std.proofs.Common.{◌≡◌, ◌∙◌, ℕ, zero, suc, ◌^◌, ◌+◌, ◌-◌, ◌<◌, ◌≤◌, ◌==◌, Bool, true, false, not, cond, if◌then◌else◌, List, [], ◌∷◌, ◌++◌, Option, Some, None, option_map, filter, fold, refl, sym, ap, subst, append_assoc, arith}
use Rattle.std.specs.Prelude.{IfSome, drop, is_some, length, nat_lt, replicate, unwrap_or}
use Rattle.std.specs.Option.{option_or}
use Rattle.std.specs.List.{All, find, list_all, position_or_len}
use Rattle.std.proofs.lemmas.Bool.{and_parts}
use Rattle.std.proofs.lemmas.Bool.Decides.{nat_tests}
use Rattle.std.proofs.lemmas.List.{length-append, length-replicate, length-set}
use Rattle.std.proofs.lemmas.List.Elements.{All-cons, All-filter, All-head, All-push, All-tail}
use Rattle.std.proofs.lemmas.List.Folds.{find-append}
use Rattle.tipc_types.specs.declared.identity.Addr.{Addr}
use Rattle.tipc_types.specs.declared.link_words.BroadcastState.{BroadcastState}
use Rattle.tipc_types.specs.declared.packet_lists.Taken.{Taken}
use Rattle.tipc_types.specs.declared.link_words.Why.{Why}
use Rattle.tipc_recv_window.specs.Receiving.{Receiving, drained, filled, fresh, gap_of, gap_to, is_new, missing, past_wanted, run_of, with_packet}
use Rattle.tipc_broadcast.specs.declared.contacts.Contact.{Contact}
use Rattle.tipc_broadcast.specs.Contacts.{acknowledging, carried, heard, is_in_step, is_with, joined, noted_in, refusal, stepped, taken_in, told, with_changed, without}
use Rattle.tipc_broadcast.specs.Casting.{Casting, accepting, answered, credited, flushed, informed, kept_for, leaving, left_with, moved_up, next_start, rounds_of_departure, settled, with_contacts, with_message}
use Rattle.tipc_broadcast.specs.Deeds.{AreSmall, CastDeed, HasSmallWindow, after_deed, after_deeds, boot_by, boot_with, deed_frames, deeds_frames, is_contact_of, leaves_bearers}

-- ---- one list behind another

pub after_more : (ds es : List CastDeed) (v : Casting) → after_deeds (ds ++ es) v ≡ after_deeds es (after_deeds ds v)
after_more [] es v = refl
after_more (d ∷ ds) es v = after_more ds es (after_deed d v)

pub frames_more : (ds es : List CastDeed) (v : Casting) → deeds_frames (ds ++ es) v ≡ deeds_frames ds v ++ deeds_frames es (after_deeds ds v)
frames_more [] es v = refl
frames_more (d ∷ ds) es v =
    ap (λ fs. deed_frames d v ++ fs) (frames_more ds es (after_deed d v))
    ∙ sym (append_assoc (deed_frames d v) (deeds_frames ds (after_deed d v)) (deeds_frames es (after_deeds ds (after_deed d v))))

-- ---- what stays

-- the node, its boot and its bearers
pub record IsAlike (v w : Casting) : Type 0 where
  pub own : w.own ≡ v.own
  pub boot : w.boot ≡ v.boot
  pub mended : w.mended ≡ v.mended
  pub contacts : w.contacts ≡ v.contacts

flushed_alike : (v : Casting) → IsAlike v (flushed v)
unfolding flushed
flushed_alike v = record { own = refl; boot = refl; mended = refl; contacts = refl }

settled_alike : (v : Casting) → IsAlike v (settled v)
unfolding settled
settled_alike v = record { own = refl; boot = refl; mended = refl; contacts = refl }

alike_then : (u v w : Casting) → IsAlike u v → IsAlike v w → IsAlike u w
alike_then u v w h k = record { own = k.own ∙ h.own; boot = k.boot ∙ h.boot; mended = k.mended ∙ h.mended; contacts = k.contacts ∙ h.contacts }

moved_alike : (v : Casting) → IsAlike v (flushed (settled v))
moved_alike v = alike_then v (settled v) (flushed (settled v)) (settled_alike v) (flushed_alike (settled v))

pub moved_up_alike : (n : ℕ) (v : Casting) → IsAlike v (moved_up n v)
unfolding moved_up
moved_up_alike zero v = record { own = refl; boot = refl; mended = refl; contacts = refl }
moved_up_alike (suc n) v = alike_then v (moved_up n v) (moved_up (suc n) v) (moved_up_alike n v) (moved_alike (moved_up n v))

pub left_alike : (contacts : List Contact) (v : Casting) → IsAlike v (left_with contacts v)
left_alike [] v = record { own = refl; boot = refl; mended = refl; contacts = refl }
left_alike (c ∷ contacts) v = moved_up_alike rounds_of_departure v

kept_alike : (contacts : List Contact) (v : Casting) → IsAlike v (kept_for contacts v)
kept_alike [] v = record { own = refl; boot = refl; mended = refl; contacts = refl }
kept_alike (c ∷ contacts) v = record { own = refl; boot = refl; mended = refl; contacts = refl }

pub accepting_alike : (v : Casting) (pieces : List (List ℕ)) → IsAlike v (accepting v pieces)
accepting_alike v pieces =
    let first : IsAlike v (with_message v pieces) = record { own = refl; boot = refl; mended = refl; contacts = refl } in
    alike_then v (flushed (with_message v pieces)) (accepting v pieces) (alike_then v (with_message v pieces) (flushed (with_message v pieces)) first (flushed_alike (with_message v pieces)))
    (kept_alike v.contacts (flushed (with_message v pieces)))

pub answered_alike : (v : Casting) (peer number : ℕ) → IsAlike (credited v peer number) (answered v peer number)
answered_alike v peer number = moved_alike (credited v peer number)

-- the node and its boot stay
pub record IsOfNode (v w : Casting) : Type 0 where
  pub own : w.own ≡ v.own
  pub boot : w.boot ≡ v.boot

of_alike : (u v w : Casting) → v.own ≡ u.own → v.boot ≡ u.boot → IsAlike v w → IsOfNode u w
of_alike u v w own boot h = record { own = h.own ∙ own; boot = h.boot ∙ boot }

stating_node : (v : Casting) (peer : ℕ) (seen : BroadcastState) (b : Bool)
    → IsOfNode v (if b then answered (informed v peer seen.start seen.next) peer seen.acknowledged else informed v peer seen.start seen.next)
stating_node v peer seen true =
    let w = informed v peer seen.start seen.next in
    of_alike v (credited w peer seen.acknowledged) (answered w peer seen.acknowledged) refl refl (answered_alike w peer seen.acknowledged)
stating_node v peer seen false = record { own = refl; boot = refl }

pub deed_node : (d : CastDeed) (v : Casting) → IsOfNode v (after_deed d v)
deed_node (CastDeed.joins peer boot) v = record { own = refl; boot = refl }
deed_node (CastDeed.leaves peer) v =
    let w = with_contacts v (without peer v.contacts) in
    of_alike v w (leaving v peer) refl refl (left_alike (without peer v.contacts) w)
deed_node (CastDeed.states peer seen) v = stating_node v peer seen seen.in_step
deed_node (CastDeed.bears bearer is_mended) v = record { own = refl; boot = refl }
deed_node (CastDeed.hears boot members by packet) v = record { own = refl; boot = refl }
deed_node (CastDeed.sends pieces) v = of_alike v v (accepting v pieces) refl refl (accepting_alike v pieces)

pub deeds_node : (ds : List CastDeed) (v : Casting) → IsOfNode v (after_deeds ds v)
deeds_node [] v = record { own = refl; boot = refl }
deeds_node (d ∷ ds) v =
    let first = deed_node d v in
    let rest = deeds_node ds (after_deed d v) in
    record { own = rest.own ∙ first.own; boot = rest.boot ∙ first.boot }

-- ---- who is in contact

abbrev boot_of : Contact → ℕ
boot_of c = c.boot

abbrev boot_in : ℕ → List Contact → Option ℕ
boot_in peer cs = option_map boot_of (find (is_with peer) cs)

joined_boot : (o : Option Contact) (b : Bool) (c : Contact) → option_map boot_of (option_or o (cond b (Some c) None)) ≡ (if b then option_or (option_map boot_of o) (Some c.boot) else option_map boot_of o)
joined_boot None true c = refl
joined_boot None false c = refl
joined_boot (Some d) true c = refl
joined_boot (Some d) false c = refl

joins_boots : (w peer boot start : ℕ) (cs : List Contact) → boot_in w (cs ++ joined peer boot start ∷ []) ≡ (if peer == w then option_or (boot_in w cs) (Some boot) else boot_in w cs)
joins_boots w peer boot start cs =
    ap (option_map boot_of) (find-append (is_with w) cs (joined peer boot start ∷ [])) ∙ joined_boot (find (is_with w) cs) (peer == w) (joined peer boot start)

map_cond : (b : Bool) (c : Contact) (o : Option Contact) → option_map boot_of (cond b (Some c) o) ≡ (if b then Some c.boot else option_map boot_of o)
map_cond true c o = refl
map_cond false c o = refl

-- a contact that is left out says nothing of another peer, and one that stays is of another one
left_out : (a peer w x : ℕ) (o : Option ℕ) → (a == peer) ≡ true → (if peer == w then None else o) ≡ (if peer == w then None else (if a == w then Some x else o))
left_out a peer w x o is = grind (arith, nat_tests, is)

left_in : (a peer w x : ℕ) (o : Option ℕ) → (a == peer) ≡ false → (if a == w then Some x else (if peer == w then None else o)) ≡ (if peer == w then None else (if a == w then Some x else o))
left_in a peer w x o is = grind (arith, nat_tests, is)

none_either : (b : Bool) (o : Option ℕ) → o ≡ None → o ≡ (if b then None else o)
none_either true o none = none
none_either false o none = refl

left_boots : (w peer : ℕ) (cs : List Contact) → boot_in w (without peer cs) ≡ (if peer == w then None else boot_in w cs)
left_boots w peer [] = none_either (peer == w) None refl
left_boots w peer (c ∷ cs) = by (left_boots w peer cs) (a == peer) refl ∙ ap (λ o. if peer == w then None else o) (sym (map_cond (a == w) c (find (is_with w) cs)))
  where
    a : ℕ
    a = c.peer.word

    rest : Option ℕ
    rest = boot_in w cs

    by : boot_in w (without peer cs) ≡ (if peer == w then None else rest) → (b : Bool) → (a == peer) ≡ b
        → boot_in w (cond (not b) (c ∷ without peer cs) (without peer cs)) ≡ (if peer == w then None else (if a == w then Some c.boot else rest))
    by later true is = later ∙ left_out a peer w c.boot rest is
    by later false is = map_cond (a == w) c (find (is_with w) (without peer cs)) ∙ ap (λ o. if a == w then Some c.boot else o) later ∙ left_in a peer w c.boot rest is

-- a change of a contact that leaves whose it is, and the boot
abbrev pub LeavesBoot : (Contact → Contact) → Type 0
LeavesBoot change = (c : Contact) → ((change c).boot ≡ c.boot) × ((change c).peer ≡ c.peer)

changed_boots : (w peer : ℕ) (change : Contact → Contact) (cs : List Contact) → LeavesBoot change → boot_in w (with_changed peer change cs) ≡ boot_in w cs
changed_boots w peer change [] keeps = refl
changed_boots w peer change (c ∷ cs) keeps = elim (is_with peer c) as (λ b. boot_in w (if b then change c ∷ cs else c ∷ with_changed peer change cs) ≡ boot_in w (c ∷ cs)) [
  | true ↦
      map_cond (is_with w (change c)) (change c) (find (is_with w) cs)
      ∙ ap (λ n. if is_with w (change c) then Some n else boot_in w cs) (keeps c).0
      ∙ ap (λ (node : Addr). if node.word == w then Some c.boot else boot_in w cs) (keeps c).1
      ∙ sym (map_cond (is_with w c) c (find (is_with w) cs))
  | false ↦
      map_cond (is_with w c) c (find (is_with w) (with_changed peer change cs))
      ∙ ap (λ o. if is_with w c then Some c.boot else o) (changed_boots w peer change cs keeps)
      ∙ sym (map_cond (is_with w c) c (find (is_with w) cs))
]

pub told_keeps : (start next : ℕ) → LeavesBoot (told start next)
told_keeps start next c = noted_keeps (stepped start c) (stepped start c).window (step (is_in_step c))
  where
    step : (b : Bool) → ((if b then c else record c { window = Some (fresh start); shown = start }).boot ≡ c.boot) × ((if b then c else record c { window = Some (fresh start); shown = start }).peer ≡ c.peer)
    step true = (refl, refl)
    step false = (refl, refl)

    noted_keeps : (k : Contact) (o : Option Receiving) → (k.boot ≡ c.boot) × (k.peer ≡ c.peer) → ((noted_in next k o).boot ≡ c.boot) × ((noted_in next k o).peer ≡ c.peer)
    noted_keeps k None same = same
    noted_keeps k (Some r) same = same

pub heard_keeps : (own boot members : ℕ) (t : Taken) → LeavesBoot (λ c. heard t c (refusal own boot members c))
heard_keeps own boot members t c = by (refusal own boot members c)
  where
    taken : (o : Option Receiving) → ((taken_in c t o).boot ≡ c.boot) × ((taken_in c t o).peer ≡ c.peer)
    taken None = (refl, refl)
    taken (Some r) = (refl, refl)

    by : (o : Option Why) → ((heard t c o).boot ≡ c.boot) × ((heard t c o).peer ≡ c.peer)
    by None = taken c.window
    by (Some reason) = (refl, refl)

-- contacts that are the same
same_boots : (w : ℕ) (u v : Casting) → u.contacts ≡ v.contacts → boot_with w u ≡ boot_with w v
same_boots w u v same = ap (boot_in w) same

stated_boots : (w : ℕ) (v : Casting) (peer : ℕ) (seen : BroadcastState) (b : Bool)
    → boot_with w (if b then answered (informed v peer seen.start seen.next) peer seen.acknowledged else informed v peer seen.start seen.next) ≡ boot_with w v
stated_boots w v peer seen true =
    let u = informed v peer seen.start seen.next in
    same_boots w (answered u peer seen.acknowledged) (credited u peer seen.acknowledged) (answered_alike u peer seen.acknowledged).contacts
    ∙ changed_boots w peer (acknowledging u.sending.numbered seen.acknowledged) u.contacts (λ c. (refl, refl))
    ∙ changed_boots w peer (told seen.start seen.next) v.contacts (told_keeps seen.start seen.next)
stated_boots w v peer seen false = changed_boots w peer (told seen.start seen.next) v.contacts (told_keeps seen.start seen.next)

-- each deed
pub deed_boots : (w : ℕ) (d : CastDeed) (v : Casting) → boot_with w (after_deed d v) ≡ boot_by w (boot_with w v) d
deed_boots w (CastDeed.joins peer boot) v = joins_boots w peer boot (next_start v) v.contacts
deed_boots w (CastDeed.leaves peer) v =
    let u = with_contacts v (without peer v.contacts) in
    same_boots w (leaving v peer) u (left_alike (without peer v.contacts) u).contacts ∙ left_boots w peer v.contacts
deed_boots w (CastDeed.states peer seen) v = stated_boots w v peer seen seen.in_step
deed_boots w (CastDeed.bears bearer is_mended) v = refl
deed_boots w (CastDeed.hears boot members by packet) v = changed_boots w packet.previous _ v.contacts (heard_keeps v.own boot members (carried packet by))
deed_boots w (CastDeed.sends pieces) v = same_boots w (accepting v pieces) v (accepting_alike v pieces).contacts

-- a deed that isn't of a peer's contact leaves it
other_boot : (w : ℕ) (o : Option ℕ) (d : CastDeed) → is_contact_of w d ≡ false → boot_by w o d ≡ o
other_boot w o (CastDeed.joins peer boot) apart = ap (λ b. if b then option_or o (Some boot) else o) apart
other_boot w o (CastDeed.leaves peer) apart = ap (λ b. if b then None else o) apart
other_boot w o other apart = refl

-- deeds make of a peer's contact what those of them do that are of it
pub deeds_boots : (w : ℕ) (ds : List CastDeed) (v : Casting) → boot_with w (after_deeds ds v) ≡ fold (boot_by w) (boot_with w v) (filter (is_contact_of w) ds)
deeds_boots w [] v = refl
deeds_boots w (d ∷ ds) v = deeds_boots w ds (after_deed d v) ∙ ap (λ o. fold (boot_by w) o (filter (is_contact_of w) ds)) (deed_boots w d v) ∙ by (is_contact_of w d) refl
  where
    by : (b : Bool) → is_contact_of w d ≡ b → fold (boot_by w) (boot_by w (boot_with w v) d) (filter (is_contact_of w) ds) ≡ fold (boot_by w) (boot_with w v) (cond b (d ∷ filter (is_contact_of w) ds) (filter (is_contact_of w) ds))
    by true is = refl
    by false is = ap (λ o. fold (boot_by w) o (filter (is_contact_of w) ds)) (other_boot w (boot_with w v) d is)

-- ---- what is held of the peers

pub changed_all : (P : Contact → Type 0) (peer : ℕ) (change : Contact → Contact) (cs : List Contact) → ((c : Contact) → P c → P (change c)) → All P cs → All P (with_changed peer change cs)
changed_all P peer change [] keeps all = all
changed_all P peer change (c ∷ cs) keeps all =
    let first = All-head P c cs all in
    let rest = All-tail P c cs all in
    elim (is_with peer c) as (λ b. All P (if b then change c ∷ cs else c ∷ with_changed peer change cs)) [
      | true ↦ All-cons P (change c) cs (keeps c first) rest
      | false ↦ All-cons P c (with_changed peer change cs) first (changed_all P peer change cs keeps rest)
    ]

told_small : (start next : ℕ) (c : Contact) → HasSmallWindow c → HasSmallWindow (told start next c)
told_small start next c small = noted_small (stepped start c) (stepped start c).window (step (is_in_step c)) refl
  where
    step : (b : Bool) → HasSmallWindow (if b then c else record c { window = Some (fresh start); shown = start })
    step true = small
    step false = (let none : 0 ≤ 50 = omega arith in none)

    noted_small : (k : Contact) (o : Option Receiving) → HasSmallWindow k → k.window ≡ o → HasSmallWindow (noted_in next k o)
    noted_small k None is same = is
    noted_small k (Some r) is same = is

length_rest : (n : ℕ) (xs : List (Option Taken)) → length (drop n xs) ≤ length xs
length_rest zero xs = omega arith
length_rest (suc n) [] = omega arith
length_rest (suc n) (x ∷ xs) = let rest = length_rest n xs in omega (arith, rest)

filled_small : (held : List (Option Taken)) (d : ℕ) (t : Taken) → length held ≤ 50 → d < 50 → length (filled held d t) ≤ 50
filled_small held d t few within =
    let made = length-set (held ++ replicate (d + 1 - length held) None) d (Some t) in
    let both = length-append held (replicate (d + 1 - length held) None) in
    let more = length-replicate (d + 1 - length held) (nothing_held) in
    omega (arith, made, both, more, few, within)
  where
    nothing_held : Option Taken
    nothing_held = None

packet_small : (r : Receiving) (t : Taken) → length r.held ≤ 50 → length (with_packet r t).held ≤ 50
packet_small r t few = by (is_new r (past_wanted r t.number)) refl
  where
    d : ℕ
    d = past_wanted r t.number

    by : (b : Bool) → is_new r d ≡ b → length (if b then record { wanted = r.wanted; held = filled r.held d t } else r).held ≤ 50
    by true is =
        let below = (and_parts (nat_lt d 50) _ is).0 in
        let within : d < 50 = grind (arith, nat_tests, below) in
        filled_small r.held d t few within
    by false is = few

taken_small : (t : Taken) (c : Contact) (o : Option Receiving) → c.window ≡ o → HasSmallWindow c → HasSmallWindow (taken_in c t o)
taken_small t c None is small = small
taken_small t c (Some r) is small =
    let few : length r.held ≤ 50 = subst (λ o. IfSome o (λ q. length q.held ≤ 50)) is small in
    let with = packet_small r t few in
    let rest = length_rest (length (run_of (with_packet r t).held)) (with_packet r t).held in
    (let out : length (drained (with_packet r t)).held ≤ 50 = omega (arith, with, rest) in out)

heard_small : (own boot members : ℕ) (t : Taken) (c : Contact) → HasSmallWindow c → HasSmallWindow (heard t c (refusal own boot members c))
heard_small own boot members t c small = by (refusal own boot members c)
  where
    by : (o : Option Why) → HasSmallWindow (heard t c o)
    by None = taken_small t c c.window refl small
    by (Some reason) = small

same_small : (u v : Casting) → u.contacts ≡ v.contacts → AreSmall v → AreSmall u
same_small u v same small = subst (All HasSmallWindow) (sym same) small

stated_small : (v : Casting) (peer : ℕ) (seen : BroadcastState) (b : Bool) → AreSmall v
    → AreSmall (if b then answered (informed v peer seen.start seen.next) peer seen.acknowledged else informed v peer seen.start seen.next)
stated_small v peer seen b small = by b
  where
    u : Casting
    u = informed v peer seen.start seen.next

    informed_so : AreSmall u
    informed_so = changed_all HasSmallWindow peer (told seen.start seen.next) v.contacts (told_small seen.start seen.next) small

    by : (b : Bool) → AreSmall (if b then answered u peer seen.acknowledged else u)
    by true =
        same_small (answered u peer seen.acknowledged) (credited u peer seen.acknowledged) (answered_alike u peer seen.acknowledged).contacts
        (changed_all HasSmallWindow peer (acknowledging u.sending.numbered seen.acknowledged) u.contacts (λ c is. is) informed_so)
    by false = informed_so

pub deed_small : (d : CastDeed) (v : Casting) → AreSmall v → AreSmall (after_deed d v)
deed_small (CastDeed.joins peer boot) v small = All-push HasSmallWindow v.contacts (joined peer boot (next_start v)) small tt
deed_small (CastDeed.leaves peer) v small =
    let u = with_contacts v (without peer v.contacts) in
    same_small (leaving v peer) u (left_alike (without peer v.contacts) u).contacts (All-filter (λ c. not (is_with peer c)) HasSmallWindow v.contacts small)
deed_small (CastDeed.states peer seen) v small = stated_small v peer seen seen.in_step small
deed_small (CastDeed.bears bearer is_mended) v small = small
deed_small (CastDeed.hears boot members by packet) v small = changed_all HasSmallWindow packet.previous _ v.contacts (heard_small v.own boot members (carried packet by)) small
deed_small (CastDeed.sends pieces) v small = same_small (accepting v pieces) v (accepting_alike v pieces).contacts small

pub deeds_small : (ds : List CastDeed) (v : Casting) → AreSmall v → AreSmall (after_deeds ds v)
deeds_small [] v small = small
deeds_small (d ∷ ds) v small = deeds_small ds (after_deed d v) (deed_small d v small)

-- so what a STATE shows of it fits its places
gap_within : (r : Receiving) → gap_of r ≤ length r.held
gap_within r = by (nat_lt k (length r.held)) refl
  where
    k : ℕ
    k = position_or_len (λ (packet : Option Taken). is_some packet) r.held

    by : (b : Bool) → nat_lt k (length r.held) ≡ b → unwrap_or (cond b (Some k) None) 0 ≤ length r.held
    by true is = (let within : k < length r.held = grind (arith, nat_tests, is) in omega (arith, within))
    by false is = omega arith

missing_within : (r : Receiving) (shown : ℕ) → missing r shown ≤ 50
missing_within r shown = grind (arith, nat_tests)

pub gap_small : (r : Receiving) (shown : ℕ) → length r.held ≤ 50 → gap_to r shown < 2 ^ 16
unfolding gap_to
gap_small r shown few = by (gap_of r == 0)
  where
    by : (b : Bool) → (if b then missing r shown else gap_of r) < 2 ^ 16
    by true = (let low = missing_within r shown in omega (arith, low))
    by false = (let low = gap_within r in omega (arith, low, few))

-- the contact with a peer is one of them
pub small_with : (peer : ℕ) (cs : List Contact) → All HasSmallWindow cs → IfSome (find (is_with peer) cs) HasSmallWindow
small_with peer [] all = tt
small_with peer (c ∷ cs) all = elim (is_with peer c) as (λ b. IfSome (cond b (Some c) (find (is_with peer) cs)) HasSmallWindow) [
  | true ↦ All-head HasSmallWindow c cs all
  | false ↦ small_with peer cs (All-tail HasSmallWindow c cs all)
]

-- ---- which bearers are mended

stated_mended : (v : Casting) (peer : ℕ) (seen : BroadcastState) (b : Bool)
    → (if b then answered (informed v peer seen.start seen.next) peer seen.acknowledged else informed v peer seen.start seen.next).mended ≡ v.mended
stated_mended v peer seen true = (answered_alike (informed v peer seen.start seen.next) peer seen.acknowledged).mended
stated_mended v peer seen false = refl

pub deed_mended : (d : CastDeed) (v : Casting) → leaves_bearers d ≡ true → (after_deed d v).mended ≡ v.mended
deed_mended (CastDeed.joins peer boot) v leaves = refl
deed_mended (CastDeed.leaves peer) v leaves = (left_alike (without peer v.contacts) (with_contacts v (without peer v.contacts))).mended
deed_mended (CastDeed.states peer seen) v leaves = stated_mended v peer seen seen.in_step
deed_mended (CastDeed.bears bearer is_mended) v leaves = absurd (let wrong : false ≡ true = leaves in cc)
deed_mended (CastDeed.hears boot members by packet) v leaves = refl
deed_mended (CastDeed.sends pieces) v leaves = (accepting_alike v pieces).mended

pub deeds_mended : (ds : List CastDeed) (v : Casting) → list_all leaves_bearers ds ≡ true → (after_deeds ds v).mended ≡ v.mended
deeds_mended [] v leaves = refl
deeds_mended (d ∷ ds) v leaves =
    let parts = and_parts (leaves_bearers d) (list_all leaves_bearers ds) leaves in
    deeds_mended ds (after_deed d v) parts.1 ∙ deed_mended d v parts.0
