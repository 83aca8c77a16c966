-- What goes on at a broadcast link where nobody joins, leaves or sends: contacts stay, and nothing that was
-- acknowledged, wanted or shown is taken back.
use Rattle.std.specs.Prelude.{All, IfSome, if◌then◌else◌, is_some, nat_lt, not, option_map, slice_index_or}
use Rattle.std.proofs.Common.{◌≡◌, ◌≤◌, ◌<◌, ◌+◌, ◌∙◌, ℕ, Bool, true, false, List, [], ◌∷◌, Option, Some, None, length, inl, inr, refl, sym, ap, subst, arith}
use Rattle.std.proofs.lemmas.Bool.{and_parts}
use Rattle.std.proofs.lemmas.Bool.Decides.{nat_tests}
use Rattle.std.proofs.lemmas.List.Elements.{All-cons, All-head, All-tail}
use Rattle.tipc_types.specs.declared.link_words.BroadcastState.{BroadcastState}
use Rattle.tipc_types.specs.declared.link_words.Why.{Why}
use Rattle.tipc_types.specs.declared.packet_lists.Taken.{Taken}
use Rattle.tipc_header.specs.Spelling.{Fields}
use Rattle.tipc_send_window.specs.Sending.{IsSending, acked_of}
use Rattle.tipc_recv_window.specs.Receiving.{Receiving, arrived_at, drained, filled, fresh, is_new, past_wanted, run_of, with_packet}
use Rattle.tipc_recv_window.proofs.Holding.{length-filled}
use Rattle.tipc_broadcast.specs.declared.contacts.Contact.{Contact}
use Rattle.tipc_broadcast.specs.Casting.{Casting, accepted, answered, arriving, informed, stating}
use Rattle.tipc_broadcast.specs.Contacts.{acknowledging, carried, contact_with, heard, is_with, noted_in, refusal, stepped, taken_in, told, with_changed}
use Rattle.tipc_broadcast.specs.Deeds.{CastDeed, HasSmallWindow}
use Rattle.tipc_broadcast.proofs.Apart.{deed_accepted}
use Rattle.tipc_broadcast.proofs.Deeds.{answered_alike, deed_node, heard_keeps, told_keeps}
use Rattle.tipc_broadcast.proofs.Keeping.{acknowledged_to-bounds, told-same}
use Rattle.tipc_broadcast_law.proofs.calls.Crediting.{changed-here, changed-there}
use Rattle.tipc_broadcast_law.proofs.Places.{same_or_not}
use Rattle.tipc_broadcast_repair.specs.Laws.{StaysInStep}
use Rattle.tipc_broadcast_repair.proofs.Going.{heard_go_on, hearings_go_on, states_go_on, stays_wanted, told_go_on}
use Rattle.tipc_broadcast_repair.proofs.Mending.{states_release}

-- ---- an event

-- A STATE of a peer is taken, or a broadcast packet is heard; or nothing happens.
pub data CastEvent (v u : Casting) : Type 0 where
  rests : u ≡ v → CastEvent v u
  states : (peer : ℕ) (seen : BroadcastState) → u ≡ stating v peer seen → CastEvent v u
  hears : (boot members by : ℕ) (packet : Fields) → u ≡ arriving v boot members packet by → CastEvent v u

-- ---- a contact

-- in step it stays so
step_same : (shown : ℕ) (o : Option Receiving) → StaysInStep shown o shown o
step_same shown None = tt
step_same shown (Some r) = (omega arith, omega arith)

step_then : (s t u : ℕ) (o p q : Option Receiving) → StaysInStep s o t p → StaysInStep t p u q → StaysInStep s o u q
step_then s t u None p q one two = tt
step_then s t u (Some r) None q one two = absurd one
step_then s t u (Some r) (Some x) None one two = absurd two
step_then s t u (Some r) (Some x) (Some y) one two =
    let low = one.0 in
    let high = two.0 in
    let few = one.1 in
    let more = two.1 in
    (omega (arith, low, high), omega (arith, few, more))

-- a contact goes on: its start and boot stay, and nothing of it is taken back
pub record ContactOn (c d : Contact) : Type 0 where
  pub boot : d.boot ≡ c.boot
  pub start : d.start ≡ c.start
  pub acked : c.acked ≤ d.acked
  pub step : StaysInStep c.shown c.window d.shown d.window

pub on_same : (c : Contact) → ContactOn c c
on_same c = record { boot = refl; start = refl; acked = omega arith; step = step_same c.shown c.window }

pub on_then : (c d e : Contact) → ContactOn c d → ContactOn d e → ContactOn c e
on_then c d e one two =
    let low = one.acked in
    let high = two.acked in
    record {
      boot = two.boot ∙ one.boot;
      start = two.start ∙ one.start;
      acked = omega (arith, low, high);
      step = step_then c.shown d.shown e.shown c.window d.window e.window one.step two.step;
    }

-- one with a peer isn't lost
abbrev pub ContactsGo : Option Contact → Option Contact → Type 0
ContactsGo None o = Unit {0}
ContactsGo (Some c) o = (d : Contact) × (o ≡ Some d) × ContactOn c d

pub contacts_then : (a b c : Option Contact) → ContactsGo a b → ContactsGo b c → ContactsGo a c
contacts_then None b c one two = tt
contacts_then (Some x) b c one two =
    let more = subst (λ o. ContactsGo o c) one.1 two in
    (more.0, more.1, on_then x one.0 more.0 one.2 more.2)

-- ---- what an event makes of a contact

-- the window moves by no more than it holds, and one
abbrev pub IsNear : Contact → Contact → Type 0
IsNear c d = (r q : Receiving) → c.window ≡ Some r → d.window ≡ Some q → q.wanted ≤ r.wanted + 51

-- a contact goes on, and no more than a window is taken
pub record IsStep (change : Contact → Contact) : Type 0 where
  pub on : (c : Contact) → ContactOn c (change c)
  pub near : (c : Contact) → HasSmallWindow c → IsNear c (change c)

same_window : (c d : Contact) → ((r : Receiving) → c.window ≡ Some r → d.window ≡ Some r) → IsNear c d
same_window c d keeps r q is now = (let both : Some r ≡ Some q = sym (keeps r is) ∙ now in let same : r ≡ q = cc in let one = ap (λ (x : Receiving). x.wanted) same in omega (arith, one))

pub none_step : IsStep (λ c. c)
none_step = record { on = λ c. on_same c; near = λ c small. same_window c c (λ r is. is) }

pub told_window : (start next : ℕ) (c : Contact) (r : Receiving) → c.window ≡ Some r → (told start next c).window ≡ Some r
told_window start next c r is =
    let stepping : stepped start c ≡ c = ap (λ o. if is_some o then c else record c { window = Some (fresh start); shown = start }) is in
    ap (λ (d : Contact). (noted_in next d d.window).window) stepping ∙ ap (λ o. (noted_in next c o).window) is ∙ is

told_on : (start next : ℕ) (c : Contact) → ContactOn c (told start next c)
told_on start next c =
    let same = told-same start next c in
    let acked = same.acked in
    record { boot = (told_keeps start next c).0; start = same.start; acked = omega (arith, acked); step = told_go_on c start next }

credit_on : (numbered number : ℕ) (c : Contact) → ContactOn c (acknowledging numbered number c)
credit_on numbered number c = record { boot = refl; start = refl; acked = (acknowledged_to-bounds numbered c.acked number).0; step = step_same c.shown c.window }

-- what an in-step STATE makes of the contact with its peer
abbrev credited_by : Casting → BroadcastState → Contact → Contact
credited_by v seen c = acknowledging v.sending.numbered seen.acknowledged (told seen.start seen.next c)

credited_step : (v : Casting) (seen : BroadcastState) → IsStep (credited_by v seen)
credited_step v seen = record {
  on = λ c. on_then c (told seen.start seen.next c) (credited_by v seen c) (told_on seen.start seen.next c) (credit_on v.sending.numbered seen.acknowledged (told seen.start seen.next c));
  near = λ c small. same_window c (credited_by v seen c) (λ r is. told_window seen.start seen.next c r is);
}

told_step : (seen : BroadcastState) → IsStep (told seen.start seen.next)
told_step seen = record { on = told_on seen.start seen.next; near = λ c small. same_window c (told seen.start seen.next c) (λ r is. told_window seen.start seen.next c r is) }

abbrev heard_by : Casting → ℕ → ℕ → Fields → ℕ → Contact → Contact
heard_by v boot members packet by c = heard (carried packet by) c (refusal v.own boot members c)

heard_acked : (t : Taken) (c : Contact) (o : Option Why) → ((heard t c o).acked ≡ c.acked) × ((heard t c o).start ≡ c.start)
heard_acked t c (Some reason) = (refl, refl)
heard_acked t c None = by c.window
  where
    by : (o : Option Receiving) → ((taken_in c t o).acked ≡ c.acked) × ((taken_in c t o).start ≡ c.start)
    by None = (refl, refl)
    by (Some r) = (refl, refl)

heard_on : (v : Casting) (boot members : ℕ) (packet : Fields) (by : ℕ) (c : Contact) → ContactOn c (heard_by v boot members packet by c)
heard_on v boot members packet by c =
    let t = carried packet by in
    let same = heard_acked t c (refusal v.own boot members c) in
    let acked = same.0 in
    record { boot = (heard_keeps v.own boot members t c).0; start = same.1; acked = omega (arith, acked); step = heard_go_on c t (refusal v.own boot members c) }

-- no more is taken than was held and came
run_short : (held : List (Option Taken)) → length (run_of held) ≤ length held
run_short [] = omega arith
run_short (None ∷ held) = omega arith
run_short (Some t ∷ held) = (let rest = run_short held in omega (arith, rest))

few_held : (r : Receiving) (d : ℕ) (t : Taken) → length r.held ≤ 50 → length (arrived_at r d t).held ≤ 50
few_held r d t few = by (is_new r d) refl
  where
    by : (b : Bool) → is_new r d ≡ b → length (if b then record { wanted = r.wanted; held = filled r.held d t } else r).held ≤ 50
    by false is = few
    by true is =
        let below = (and_parts (nat_lt d 50) (not (is_some (slice_index_or r.held d None))) is).0 in
        let within : d < 50 = grind (arith, nat_tests, below) in
        let long = length-filled r.held d t in
        omega (arith, within, few, long)

taken_near : (r : Receiving) (t : Taken) → length r.held ≤ 50 → (with_packet r t).wanted + length (run_of (with_packet r t).held) ≤ r.wanted + 51
taken_near r t few =
    let d = past_wanted r t.number in
    let held = few_held r d t few in
    let run = run_short (arrived_at r d t).held in
    let same = stays_wanted r d t in
    omega (arith, held, run, same)

heard_near : (t : Taken) (c : Contact) (o : Option Why) → HasSmallWindow c → IsNear c (heard t c o)
heard_near t c (Some reason) small = same_window c c (λ r is. is)
heard_near t c None small = λ r q is now.
    let few : length r.held ≤ 50 = subst (λ o. IfSome o (λ (w : Receiving). length w.held ≤ 50)) is small in
    let taken : Some (drained (with_packet r t)) ≡ Some q = ap (λ o. (taken_in c t o).window) (sym is) ∙ now in
    let same : drained (with_packet r t) ≡ q = cc in
    let most = taken_near r t few in
    let wanted = ap (λ (w : Receiving). w.wanted) same in
    omega (arith, most, wanted)

heard_step : (v : Casting) (boot members : ℕ) (packet : Fields) (by : ℕ) → IsStep (heard_by v boot members packet by)
heard_step v boot members packet by = record { on = heard_on v boot members packet by; near = λ c small. heard_near (carried packet by) c (refusal v.own boot members c) small }

-- ---- at the contact with each peer

-- what an event makes of the contact with one peer
pub record WordChange (v u : Casting) (word : ℕ) : Type 0 where
  pub change : Contact → Contact
  pub step : IsStep change
  pub is : contact_with word u.contacts ≡ option_map change (contact_with word v.contacts)

map_none : (o : Option Contact) → o ≡ option_map (λ c. c) o
map_none None = refl
map_none (Some c) = refl

-- with its peer
changed_map : (peer : ℕ) (change : Contact → Contact) (cs : List Contact) → ((c : Contact) → (change c).peer ≡ c.peer) → contact_with peer (with_changed peer change cs) ≡ option_map change (contact_with peer cs)
changed_map peer change cs keeps = by (contact_with peer cs) refl
  where
    none_there : (ds : List Contact) → contact_with peer ds ≡ None → contact_with peer (with_changed peer change ds) ≡ None
    none_there [] none = refl
    none_there (c ∷ ds) none = here (λ rest. none_there ds rest) (is_with peer c) refl none
      where
        here : (contact_with peer ds ≡ None → contact_with peer (with_changed peer change ds) ≡ None) → (b : Bool) → is_with peer c ≡ b → (if b then Some c else contact_with peer ds) ≡ None
            → contact_with peer (if b then change c ∷ ds else c ∷ with_changed peer change ds) ≡ None
        here later true is wrong = absurd cc
        here later false is rest = ap (λ b. if b then Some c else contact_with peer (with_changed peer change ds)) is ∙ later rest

    by : (o : Option Contact) → contact_with peer cs ≡ o → contact_with peer (with_changed peer change cs) ≡ option_map change o
    by (Some c) there = changed-here change keeps peer cs c there
    by None none = none_there cs none

told_peers : (seen : BroadcastState) (c : Contact) → (told seen.start seen.next c).peer ≡ c.peer
told_peers seen c = (told-same seen.start seen.next c).peer

map_twice : (f g : Contact → Contact) (o : Option Contact) → option_map g (option_map f o) ≡ option_map (λ c. g (f c)) o
map_twice f g None = refl
map_twice f g (Some c) = refl

informed_word : (v : Casting) (peer : ℕ) (seen : BroadcastState) (word : ℕ) → WordChange v (informed v peer seen.start seen.next) word
informed_word v peer seen word = elim (same_or_not word peer) [
  | inl is ↦ record { change = told seen.start seen.next; step = told_step seen; is = subst (λ w. contact_with w (with_changed peer (told seen.start seen.next) v.contacts) ≡ option_map (told seen.start seen.next) (contact_with w v.contacts)) (sym is) (changed_map peer (told seen.start seen.next) v.contacts (told_peers seen)) }
  | inr never ↦ record { change = λ c. c; step = none_step; is = changed-there (told seen.start seen.next) (told_peers seen) peer word v.contacts never ∙ map_none (contact_with word v.contacts) }
]

answered_word : (v : Casting) (peer : ℕ) (seen : BroadcastState) (word : ℕ) → WordChange v (answered (informed v peer seen.start seen.next) peer seen.acknowledged) word
answered_word v peer seen word = elim (same_or_not word peer) [
  | inl is ↦ record { change = credited_by v seen; step = credited_step v seen; is = subst (λ w. contact_with w (answered u peer seen.acknowledged).contacts ≡ option_map (credited_by v seen) (contact_with w v.contacts)) (sym is) here }
  | inr never ↦ record { change = λ c. c; step = none_step; is = there never ∙ map_none (contact_with word v.contacts) }
]
  where
    u : Casting
    u = informed v peer seen.start seen.next

    credit : Contact → Contact
    credit = acknowledging v.sending.numbered seen.acknowledged

    here : contact_with peer (answered u peer seen.acknowledged).contacts ≡ option_map (credited_by v seen) (contact_with peer v.contacts)
    here =
        ap (contact_with peer) (answered_alike u peer seen.acknowledged).contacts
        ∙ (changed_map peer credit u.contacts (λ c. refl) ∙ (ap (option_map credit) (changed_map peer (told seen.start seen.next) v.contacts (told_peers seen)) ∙ map_twice (told seen.start seen.next) credit (contact_with peer v.contacts)))

    there : (word ≡ peer → ⊥) → contact_with word (answered u peer seen.acknowledged).contacts ≡ contact_with word v.contacts
    there never =
        ap (contact_with word) (answered_alike u peer seen.acknowledged).contacts
        ∙ (changed-there credit (λ c. refl) peer word u.contacts never ∙ changed-there (told seen.start seen.next) (told_peers seen) peer word v.contacts never)

stated_word : (v : Casting) (peer : ℕ) (seen : BroadcastState) (word : ℕ) (b : Bool) → WordChange v (if b then answered (informed v peer seen.start seen.next) peer seen.acknowledged else informed v peer seen.start seen.next) word
stated_word v peer seen word true = answered_word v peer seen word
stated_word v peer seen word false = informed_word v peer seen word

heard_word : (v : Casting) (boot members : ℕ) (packet : Fields) (by word : ℕ) → WordChange v (arriving v boot members packet by) word
heard_word v boot members packet by word = elim (same_or_not word packet.previous) [
  | inl is ↦ record { change = change; step = heard_step v boot members packet by; is = subst (λ w. contact_with w (with_changed packet.previous change v.contacts) ≡ option_map change (contact_with w v.contacts)) (sym is) (changed_map packet.previous change v.contacts keeps) }
  | inr never ↦ record { change = λ c. c; step = none_step; is = changed-there change keeps packet.previous word v.contacts never ∙ map_none (contact_with word v.contacts) }
]
  where
    change : Contact → Contact
    change = heard_by v boot members packet by

    keeps : (c : Contact) → (change c).peer ≡ c.peer
    keeps c = (heard_keeps v.own boot members (carried packet by) c).1

pub word_change : (v u : Casting) → CastEvent v u → (word : ℕ) → WordChange v u word
word_change v u (rests is) word = record { change = λ c. c; step = none_step; is = ap (λ (w : Casting). contact_with word w.contacts) is ∙ map_none (contact_with word v.contacts) }
word_change v u (states peer seen is) word = subst (λ w. WordChange v w word) (sym is) (stated_word v peer seen word seen.in_step)
word_change v u (hears boot members by packet is) word = subst (λ w. WordChange v w word) (sym is) (heard_word v boot members packet by word)

map_go : (change : Contact → Contact) → IsStep change → (o : Option Contact) → ContactsGo o (option_map change o)
map_go change step None = tt
map_go change step (Some c) = (change c, refl, step.on c)

-- ---- what all acknowledged is released

abbrev pub Settles : ℕ → Casting → Type 0
Settles x v = All (λ (c : Contact). x ≤ c.acked) v.contacts → x ≤ acked_of v.sending

-- a change that leaves what was acknowledged
all_before : (x peer : ℕ) (change : Contact → Contact) (cs : List Contact) → ((c : Contact) → (change c).acked ≡ c.acked) → All (λ (c : Contact). x ≤ c.acked) (with_changed peer change cs) → All (λ (c : Contact). x ≤ c.acked) cs
all_before x peer change [] same all = all
all_before x peer change (c ∷ cs) same all = by (λ rest. all_before x peer change cs same rest) (is_with peer c) all
  where
    P : Contact → Type 0
    P d = x ≤ d.acked

    by : (All P (with_changed peer change cs) → All P cs) → (b : Bool) → All P (if b then change c ∷ cs else c ∷ with_changed peer change cs) → All P (c ∷ cs)
    by later true is = All-cons P c cs (subst (λ n. x ≤ n) (same c) (All-head P (change c) cs is)) (All-tail P (change c) cs is)
    by later false is = All-cons P c cs (All-head P c (with_changed peer change cs) is) (later (All-tail P c (with_changed peer change cs) is))

stated_settles : (v : Casting) (peer : ℕ) (seen : BroadcastState) (x : ℕ) → IsSending v.sending → x ≤ v.sending.numbered → Settles x v → (b : Bool) → seen.in_step ≡ b → Settles x (stating v peer seen)
stated_settles v peer seen x is numbered so true step = λ all. states_release v peer seen x is step numbered all
stated_settles v peer seen x is numbered so false step =
    let u = informed v peer seen.start seen.next in
    let same : stating v peer seen ≡ u = ap (λ b. if b then answered u peer seen.acknowledged else u) step in
    subst (Settles x) (sym same) (λ all. so (all_before x peer (told seen.start seen.next) v.contacts (λ c. (told-same seen.start seen.next c).acked) all))

-- ---- the broadcast link

-- it goes on: it accepts nothing, no number and no acknowledgement is taken back, no contact is lost, and what all
-- peers acknowledged is released
pub record LinkGoes (v u : Casting) : Type 0 where
  pub boot : u.boot ≡ v.boot
  pub accepted_is : accepted u.sending ≡ accepted v.sending
  pub acked : acked_of v.sending ≤ acked_of u.sending
  pub numbered : v.sending.numbered ≤ u.sending.numbered
  pub contacts : (word : ℕ) → ContactsGo (contact_with word v.contacts) (contact_with word u.contacts)
  pub none : (word : ℕ) → contact_with word v.contacts ≡ None → contact_with word u.contacts ≡ None
  pub settles : (x : ℕ) → x ≤ v.sending.numbered → Settles x v → Settles x u

go_same : (o : Option Contact) → ContactsGo o o
go_same None = tt
go_same (Some c) = (c, refl, on_same c)

pub link_same : (v : Casting) → LinkGoes v v
link_same v = record { boot = refl; accepted_is = refl; acked = omega arith; numbered = omega arith; contacts = λ word. go_same (contact_with word v.contacts); none = λ word is. is; settles = λ x within so. so }

pub link_then : (v u t : Casting) → LinkGoes v u → LinkGoes u t → LinkGoes v t
link_then v u t one two =
    let acked = one.acked in
    let more = two.acked in
    let numbered = one.numbered in
    let further = two.numbered in
    record {
      boot = two.boot ∙ one.boot;
      accepted_is = two.accepted_is ∙ one.accepted_is;
      acked = omega (arith, acked, more);
      numbered = omega (arith, numbered, further);
      contacts = λ word. contacts_then (contact_with word v.contacts) (contact_with word u.contacts) (contact_with word t.contacts) (one.contacts word) (two.contacts word);
      none = λ word is. two.none word (one.none word is);
      settles = λ x within so. two.settles x (omega (arith, within, numbered)) (one.settles x within so);
    }

contacts_go : (v u : Casting) → CastEvent v u → (word : ℕ) → ContactsGo (contact_with word v.contacts) (contact_with word u.contacts)
contacts_go v u event word = (let w = word_change v u event word in subst (ContactsGo (contact_with word v.contacts)) (sym w.is) (map_go w.change w.step (contact_with word v.contacts)))

none_stays : (v u : Casting) → CastEvent v u → (word : ℕ) → contact_with word v.contacts ≡ None → contact_with word u.contacts ≡ None
none_stays v u event word is = (let w = word_change v u event word in w.is ∙ ap (option_map w.change) is)

-- so it is by an event
pub event_goes : (v u : Casting) → IsSending v.sending → CastEvent v u → LinkGoes v u
event_goes v u is (rests same) = subst (LinkGoes v) (sym same) (link_same v)
event_goes v u is (states peer seen at) =
    let on = states_go_on v peer seen is in
    subst (LinkGoes v) (sym at) (record {
      boot = (deed_node (CastDeed.states peer seen) v).boot;
      accepted_is = deed_accepted (CastDeed.states peer seen) v refl;
      acked = on.acked;
      numbered = on.numbered;
      contacts = contacts_go v (stating v peer seen) (states peer seen refl);
      none = none_stays v (stating v peer seen) (states peer seen refl);
      settles = λ x within so. stated_settles v peer seen x is within so seen.in_step refl;
    })
event_goes v u is (hears boot members by packet at) =
    let on = hearings_go_on v packet.previous boot members (carried packet by) in
    subst (LinkGoes v) (sym at) (record {
      boot = refl;
      accepted_is = refl;
      acked = on.acked;
      numbered = on.numbered;
      contacts = contacts_go v (arriving v boot members packet by) (hears boot members by packet refl);
      none = none_stays v (arriving v boot members packet by) (hears boot members by packet refl);
      settles = λ x within so all. so (all_before x packet.previous (heard_by v boot members packet by) v.contacts (λ c. (heard_acked (carried packet by) c (refusal v.own boot members c)).0) all);
    })
