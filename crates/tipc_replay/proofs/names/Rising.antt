-- The numbers under which a node enters contacts with a peer rise from contact to contact, and from boot to boot.
use Rattle.std.proofs.Common.{◌≡◌, ◌≤◌, ◌<◌, ◌+◌, ◌==◌, ℕ, Bool, true, false, List, [], ◌∷◌, ◌++◌, Option, Some, None, filter, refl, sym, ap, ◌∙◌, subst, arith}
use Rattle.std.specs.Cmp.{nat_cmp_is}
use Rattle.std.specs.declared.cmp.Ordering.TheVariants.{Less}
use Rattle.std.specs.List.{AllByRecursion, cons_option, filter_map, flat_map}
use Rattle.std.specs.List.Sorted.{IsStrictlySortedBy}
use Rattle.std.specs.Ordering.{nat_cmp}
use Rattle.std.specs.Prelude.{if◌then◌else◌, option_map, slice_index_or, unwrap_or}
use Rattle.std.proofs.lemmas.Bool.Decides.{nat_tests}
use Rattle.std.proofs.lemmas.List.{append-nil}
use Rattle.std.proofs.lemmas.List.Elements.{All-nil, All-push, All-weaker, filter_map-append, recursion_from_All}
use Rattle.tipc_types.specs.Address.{node_word}
use Rattle.tipc_types.specs.declared.identity.Addr.{Addr}
use Rattle.tipc_outside.specs.declared.outgoing.Outgoing.{Outgoing}
use Rattle.tipc_journal.specs.declared.entries.Entry.{Entry}
use Rattle.tipc_journal.specs.declared.entries.Entry.TheVariants as entry
use Rattle.tipc_journal.specs.Steps.{step_entries, NodeStep}
use Rattle.tipc_contact.specs.Sides.{boot_of, first_number}
use Rattle.tipc_pair.specs.declared.transitions.Transition.{Transition}
use Rattle.tipc_pair.specs.declared.transitions.Transition.TheVariants.{ContactDown, ContactUp, LinkDown, LinkUp}
use Rattle.tipc_pair.specs.Facing.{PairEnds, in_contact}
use Rattle.tipc_node.specs.declared.neighbours.Neighbour.{Neighbour}
use Rattle.tipc_pair.specs.Contacts.{is_of_contact}
use Rattle.tipc_node.specs.Nodes.{NodeState, acquaintance, change_entries, neighbour_of, pair_with}
use Rattle.tipc_node.specs.Telling.{IsTold}
use Rattle.tipc_node.specs.Turns.{NodeTurn, PeerTurn, addr_of, is_change_of, pair_in}
use Rattle.tipc_node.proofs.names.SharingUnused.{peer_means}
use Rattle.tipc_node.proofs.pairs.Strangers.{kept_abreast}
use Rattle.tipc_pair.proofs.turns.PairTells.{Means, Story, began, contact_changes, ended, stays}
use Rattle.tipc_replay.specs.Entered.{HasRisen, RiseBelow, entered_by, next_in, numbers_entered}
use Rattle.tipc_replay.specs.Members.{IsNewcomer, IsRestarted}
use Rattle.tipc_replay.specs.Shared.{AreShared}
use Rattle.tipc_replay.specs.States.{MemberState, history, history_at, member_at}
use Rattle.tipc_replay.proofs.LookUps.{history_at-is, member_at-is}
use Rattle.tipc_replay.proofs.streams.Histories.{history_longer, history_restarted}

-- ---- numbers that rise

-- a number above all of a rising list
rising_more : (xs : List ℕ) (n : ℕ) → IsStrictlySortedBy nat_cmp xs → AllByRecursion (λ x. x < n) xs → IsStrictlySortedBy nat_cmp (xs ++ n ∷ [])
unfolding IsStrictlySortedBy
rising_more [] n rising below = (tt, tt)
rising_more (x ∷ xs) n rising below = (all_more xs rising.0, rising_more xs n rising.1 below.1)
  where
    all_more : (ys : List ℕ) → AllByRecursion (λ y. nat_cmp x y ≡ Less) ys → AllByRecursion (λ y. nat_cmp x y ≡ Less) (ys ++ n ∷ [])
    all_more [] h = (sym (nat_cmp_is x n Less below.0), tt)
    all_more (y ∷ ys) h = (h.0, all_more ys h.1)

pub none_rise : (next : ℕ) → RiseBelow [] next
unfolding IsStrictlySortedBy
none_rise next = record { rise = tt; below = All-nil (λ x. x < next) }

rise_further : (xs : List ℕ) (next later : ℕ) → next ≤ later → RiseBelow xs next → RiseBelow xs later
rise_further xs next later further h = record { rise = h.rise; below = All-weaker (λ x. x < next) (λ x. x < later) (λ x low. omega (arith, low, further)) xs h.below }

rise_more : (xs : List ℕ) (next : ℕ) → RiseBelow xs next → RiseBelow (xs ++ next ∷ []) (next + 1)
rise_more xs next h = record {
  rise = rising_more xs next h.rise (recursion_from_All (λ x. x < next) xs h.below);
  below = All-push (λ x. x < next + 1) xs next (rise_further xs next (next + 1) (omega arith) h).below (omega arith);
}

-- ---- the entries of a step

abbrev numbers_of : Story → List ℕ
numbers_of stays = []
numbers_of (began numbers) = numbers.0 ∷ []
numbers_of (ended numbers states shown) = []

-- an entry that tells nothing of node b enters no contact with it
enters_none : (b : ℕ) (e : Entry) → is_change_of b e ≡ false → entered_by (addr_of b) e ≡ None
enters_none b (entry.ContactUp peer numbers) other = ap (λ t. if t then Some numbers.0 else None) other
enters_none b other is = refl

-- so only what it tells of node b counts
keep_only : (b : ℕ) (e : Entry) (es : List Entry) → filter_map (entered_by (addr_of b)) es ≡ filter_map (entered_by (addr_of b)) (filter (is_change_of b) es)
    → filter_map (entered_by (addr_of b)) (e ∷ es) ≡ filter_map (entered_by (addr_of b)) (filter (is_change_of b) (e ∷ es))
keep_only b e es later = by (is_change_of b e) refl
  where
    by : (t : Bool) → is_change_of b e ≡ t → cons_option (entered_by (addr_of b) e) (filter_map (entered_by (addr_of b)) es) ≡ filter_map (entered_by (addr_of b)) (if t then e ∷ filter (is_change_of b) es else filter (is_change_of b) es)
    by true is = ap (cons_option (entered_by (addr_of b) e)) later
    by false is = ap (λ o. cons_option o (filter_map (entered_by (addr_of b)) es)) (enters_none b e is) ∙ later

entered_only : (b : ℕ) (es : List Entry) → filter_map (entered_by (addr_of b)) es ≡ filter_map (entered_by (addr_of b)) (filter (is_change_of b) es)
entered_only b [] = refl
entered_only b (e ∷ es) = keep_only b e es (entered_only b es)

-- the own number of a contact that begins with a change
abbrev begun_by : Transition → Option ℕ
begun_by (ContactUp numbers) = Some numbers.0
begun_by other = None

-- the entries of changes
entered_changes : (b : ℕ) (cs : List Transition) → filter_map (entered_by (addr_of b)) (change_entries b cs) ≡ filter_map begun_by (filter is_of_contact cs)
entered_changes b [] = refl
entered_changes b (LinkUp bearer own theirs ∷ cs) = entered_changes b cs
entered_changes b (LinkDown bearer because shown ∷ cs) = entered_changes b cs
entered_changes b (ContactDown numbers states shown ∷ cs) = entered_changes b cs
entered_changes b (ContactUp numbers ∷ cs) =
    let same : (node_word b == node_word b) ≡ true = grind (arith, nat_tests) in
    ap (λ t. cons_option (if t then Some numbers.0 else None) (filter_map (entered_by (addr_of b)) (change_entries b cs))) same ∙ ap (λ ns. numbers.0 ∷ ns) (entered_changes b cs)

begun_in : (s : Story) → filter_map begun_by (contact_changes s) ≡ numbers_of s
begun_in stays = refl
begun_in (began numbers) = refl
begun_in (ended numbers states shown) = refl

-- what is inside a step, and the step
entered_turn : (own : ℕ) (bytes : List ℕ) (s : NodeStep) (frames : List Outgoing) (b : ℕ) (x x' : PairEnds) (story : Story) (t : PeerTurn own bytes s frames b x x') → filter is_of_contact t.turn.first.course.changes ≡ contact_changes story
    → filter_map (entered_by (addr_of b)) s.inside ≡ numbers_of story
entered_turn own bytes s frames b x x' story t is =
    entered_only b s.inside ∙ ap (filter_map (entered_by (addr_of b))) t.changes ∙ entered_changes b t.turn.first.course.changes ∙ ap (filter_map begun_by) is ∙ begun_in story

entered_step : (J : List Entry) (s : NodeStep) (p : Addr) → numbers_entered (J ++ step_entries s) p ≡ numbers_entered J p ++ filter_map (entered_by p) s.inside
unfolding numbers_entered
entered_step J s p =
    filter_map-append (entered_by p) J (step_entries s)
    ∙ ap (λ w. filter_map (entered_by p) J ++ w) (filter_map-append (entered_by p) s.inside (entry.Answered s.caller s.call s.answer ∷ []) ∙ append-nil (filter_map (entered_by p) s.inside))

-- ---- a turn

next_there : (boot : ℕ) (x : PairEnds) → in_contact x ≡ true → next_in boot (Some x) ≡ x.contact + 1
next_there boot x there = ap (λ t. if t then x.contact + 1 else x.contact) there

next_gone : (boot : ℕ) (x : PairEnds) → in_contact x ≡ false → next_in boot (Some x) ≡ x.contact
next_gone boot x gone = ap (λ t. if t then x.contact + 1 else x.contact) gone

story_rises : (xs : List ℕ) (boot boot' : ℕ) (x y : PairEnds) (s : Story) → Means x y s → RiseBelow xs (next_in boot (Some x)) → RiseBelow (xs ++ numbers_of s) (next_in boot' (Some y))
story_rises xs boot boot' x y stays m h =
    let same : next_in boot (Some x) ≡ next_in boot' (Some y) = ap (λ t. if t then x.contact + 1 else x.contact) (sym m.0) ∙ ap (λ n. if in_contact y then n + 1 else n) (sym m.1) in
    subst (λ ns. RiseBelow ns (next_in boot' (Some y))) (sym (append-nil xs)) (subst (RiseBelow xs) same h)
story_rises xs boot boot' x y (began numbers) m h =
    let was : next_in boot (Some x) ≡ numbers.0 = next_gone boot x m.0 ∙ sym m.3 ∙ sym (ap (λ (c : ℕ × ℕ). c.0) m.2) in
    let now : numbers.0 + 1 ≡ next_in boot' (Some y) = ap (λ (c : ℕ × ℕ). c.0 + 1) m.2 ∙ sym (next_there boot' y m.1) in
    subst (RiseBelow (xs ++ numbers.0 ∷ [])) now (rise_more xs numbers.0 (subst (RiseBelow xs) was h))
story_rises xs boot boot' x y (ended numbers states shown) m h =
    let was = next_there boot x m.0 in
    let now = next_gone boot' y m.2 in
    let higher = m.3 in
    subst (λ ns. RiseBelow ns (next_in boot' (Some y))) (sym (append-nil xs)) (rise_further xs (next_in boot (Some x)) (next_in boot' (Some y)) (omega (arith, was, now, higher)) h)

-- the next number for a stranger is the first one of the boot
next_read : (n : NodeState) (b : ℕ) → next_in n.boot (Some (pair_with n b)) ≡ next_in n.boot (pair_in n b)
next_read n b = by (neighbour_of n b)
  where
    by : (o : Option Neighbour) → next_in n.boot (Some (acquaintance n b o).pair) ≡ next_in n.boot (option_map (λ (x : Neighbour). x.pair) o)
    by None = refl
    by (Some x) = refl

-- what a node enters in a turn
pub turn_rises : (m m' : MemberState) (bytes : List ℕ) (s : NodeStep) (frames : List Outgoing) (b : ℕ) → m'.past ≡ m.past → NodeTurn m.node m'.node bytes s frames → IsTold m.node → HasRisen m b → HasRisen m' b
turn_rises m m' bytes s frames b past t told h = subst (λ ns. RiseBelow ns (next_in m'.node.boot (pair_in m'.node b))) (sym whole) rises
  where
    before : List ℕ
    before = numbers_entered (history m) (addr_of b)

    now : List ℕ
    now = filter_map (entered_by (addr_of b)) s.inside

    whole : numbers_entered (history m') (addr_of b) ≡ before ++ now
    whole = ap (λ es. numbers_entered es (addr_of b)) (history_longer m m' (step_entries s) past t.journal) ∙ entered_step (history m) s (addr_of b)

    rises : RiseBelow (before ++ now) (next_in m'.node.boot (pair_in m'.node b))
    rises =
        let at = t.turns b in
        let x = pair_with m.node b in
        let y = pair_with m'.node b in
        let means = peer_means m.node.own bytes s frames b x y (kept_abreast m.node b told) at in
        subst (λ ns. RiseBelow (before ++ ns) (next_in m'.node.boot (pair_in m'.node b))) (sym (entered_turn m.node.own bytes s frames b x y means.story at means.story_is))
        (subst (RiseBelow (before ++ numbers_of means.story)) (next_read m'.node b) (story_rises before m.node.boot m'.node.boot x y means.story means.means (subst (RiseBelow before) (sym (next_read m.node b)) h)))

-- ---- a boot begins

-- each number of a boot is below those of the next one
next_boot : (boot : ℕ) (o : Option Neighbour) → ((x : Neighbour) → o ≡ Some x → boot_of x.pair.contact ≡ boot) → next_in boot (option_map (λ (x : Neighbour). x.pair) o) ≤ first_number (boot + 1)
next_boot boot None of_boot = omega arith
next_boot boot (Some x) of_boot = by (in_contact x.pair) (of_boot x refl)
  where
    by : (t : Bool) → boot_of x.pair.contact ≡ boot → (if t then x.pair.contact + 1 else x.pair.contact) ≤ first_number (boot + 1)
    by true is = omega (arith, is)
    by false is = omega (arith, is)

pub restart_rises : (m m' : MemberState) (b : ℕ) → ((x : Neighbour) → neighbour_of m.node b ≡ Some x → boot_of x.pair.contact ≡ m.node.boot) → IsRestarted m m' → HasRisen m b → HasRisen m' b
restart_rises m m' b of_boot r h =
    let now : next_in m'.node.boot (pair_in m'.node b) ≡ first_number (m.node.boot + 1) = ap (λ o. next_in m'.node.boot (option_map (λ (x : Neighbour). x.pair) o)) (r.node.alone b) ∙ ap first_number r.node.boot_is in
    subst (λ ns. RiseBelow ns (next_in m'.node.boot (pair_in m'.node b))) (sym (ap (λ es. numbers_entered es (addr_of b)) (history_restarted m m' r)))
    (subst (RiseBelow (numbers_entered (history m) (addr_of b))) (sym now)
    (rise_further (numbers_entered (history m) (addr_of b)) (next_in m.node.boot (pair_in m.node b)) (first_number (m.node.boot + 1)) (next_boot m.node.boot (neighbour_of m.node b) of_boot) h))

pub newcomer_rises : (m : MemberState) (n first b : ℕ) → IsNewcomer m n first → HasRisen m b
unfolding history numbers_entered
newcomer_rises m n first b c =
    let nothing : history m ≡ [] = ap (λ js. flat_map (λ entries. entries) js ++ m.node.journal) c.past ∙ c.node.no_history in
    subst (λ es. RiseBelow (filter_map (entered_by (addr_of b)) es) (next_in m.node.boot (pair_in m.node b))) (sym nothing) (none_rise (next_in m.node.boot (pair_in m.node b)))

-- ---- the world

none_entered : (p : Addr) → numbers_entered [] p ≡ []
unfolding numbers_entered
none_entered p = refl

no_history : (members : List (Option MemberState)) (a : ℕ) → slice_index_or members a None ≡ None → history_at members a ≡ []
unfolding history_at member_at
no_history members a none = ap (λ o. unwrap_or (option_map history o) []) none

-- of every two nodes
pub numbers_rise : (members : List (Option MemberState)) → AreShared members → (a b : ℕ) → IsStrictlySortedBy nat_cmp (numbers_entered (history_at members a) (addr_of b))
numbers_rise members all a b = by (slice_index_or members a None) refl
  where
    by : (o : Option MemberState) → slice_index_or members a None ≡ o → IsStrictlySortedBy nat_cmp (numbers_entered (history_at members a) (addr_of b))
    by None is = subst (IsStrictlySortedBy nat_cmp) (sym (ap (λ es. numbers_entered es (addr_of b)) (no_history members a is) ∙ none_entered (addr_of b))) (none_rise 0).rise
    by (Some m) is = subst (λ es. IsStrictlySortedBy nat_cmp (numbers_entered es (addr_of b))) (sym (history_at-is members a m (member_at-is members a m is))) ((all a m is).rises b).rise
