-- What becomes of all that a broadcast link keeps of one peer, by the deeds that concern it.
use Rattle.std.proofs.Common.{◌≡◌, ◌==◌, ℕ, Bool, true, false, not, cond, if◌then◌else◌, List, [], ◌∷◌, ◌++◌, Option, Some, None, filter, refl, sym, ap, subst, ◌∙◌, eqb-true}
use Rattle.std.specs.Prelude.{◌||◌}
use Rattle.std.specs.Option.{option_or}
use Rattle.std.proofs.lemmas.List.Folds.{find-append}
use Rattle.tipc_types.specs.declared.link_words.BroadcastState.{BroadcastState}
use Rattle.tipc_broadcast.specs.declared.contacts.Contact.{Contact}
use Rattle.tipc_broadcast.specs.Casting.{answered, Casting, informed, next_start, stating, with_contacts}
use Rattle.tipc_broadcast.specs.Contacts.{acknowledging, carried, contact_with, heard, is_with, joined, refusal, told, with_changed, without}
use Rattle.tipc_broadcast.specs.Deeds.{CastDeed, after_deed, after_deeds, is_deed_with, is_hearing_of}
use Rattle.tipc_broadcast.proofs.Apart.{deed_apart}
use Rattle.tipc_broadcast.proofs.Finding.{unchanged}
use Rattle.tipc_broadcast.proofs.Deeds.{LeavesBoot, answered_alike, deed_node, heard_keeps, left_alike, told_keeps}
use Rattle.tipc_casters.specs.ViewLaws.{IsKeptAs}

-- ---- what a deed makes of it

-- whether a deed concerns a peer
abbrev pub concerns : ℕ → CastDeed → Bool
concerns peer d = is_deed_with peer d || is_hearing_of peer d

-- what such a deed makes of what is kept of the peer, by a node of this address word
abbrev pub DeedKeeps : ℕ → ℕ → CastDeed → Option Contact → Option Contact → Type 0
DeedKeeps own peer (CastDeed.joins other boot) before after = before ≡ None → (start : ℕ) × (after ≡ Some (joined peer boot start))
DeedKeeps own peer (CastDeed.leaves other) before after = after ≡ None
DeedKeeps own peer (CastDeed.states other seen) before after = (k : Contact) → before ≡ Some k
    → (l : Contact) × (after ≡ Some l) × IsKeptAs (told seen.start seen.next k) l
DeedKeeps own peer (CastDeed.bears bearer is_mended) before after = after ≡ before
DeedKeeps own peer (CastDeed.hears boot members by packet) before after = (before ≡ None → after ≡ None)
    × ((k : Contact) → before ≡ Some k → after ≡ Some (heard (carried packet by) k (refusal own boot members k)))
DeedKeeps own peer (CastDeed.sends pieces) before after = after ≡ before

-- so one behind the other
pub data DeedsKeep (own peer : ℕ) : List CastDeed → Option Contact → Option Contact → Type 0 where
  no_deeds : (before : Option Contact) → DeedsKeep own peer [] before before
  one_deed : (d : CastDeed) (ds : List CastDeed) (before between after : Option Contact) → DeedKeeps own peer d before between → DeedsKeep own peer ds between after
      → DeedsKeep own peer (d ∷ ds) before after

-- Of all deeds only those count that concern the peer.
abbrev pub KeptByDeeds : Type 0
KeptByDeeds = (peer : ℕ) (ds : List CastDeed) (v : Casting)
    → DeedsKeep v.own peer (filter (concerns peer) ds) (contact_with peer v.contacts) (contact_with peer (after_deeds ds v).contacts)

-- ---- the contact with the peer, in the list

or_first : (o : Option Contact) (c : Contact) → o ≡ None → option_or o (Some c) ≡ Some c
or_first o c none = ap (λ x. option_or x (Some c)) none

itself_with : (peer boot start : ℕ) → (peer == peer) ≡ true → contact_with peer (joined peer boot start ∷ []) ≡ Some (joined peer boot start)
itself_with peer boot start same = ap (λ b. cond b (Some (joined peer boot start)) None) same

joined_there : (peer boot start : ℕ) (cs : List Contact) → (peer == peer) ≡ true → contact_with peer cs ≡ None → contact_with peer (cs ++ joined peer boot start ∷ []) ≡ Some (joined peer boot start)
joined_there peer boot start cs same none =
    find-append (is_with peer) cs (joined peer boot start ∷ []) ∙ ap (option_or (contact_with peer cs)) (itself_with peer boot start same) ∙ or_first (contact_with peer cs) (joined peer boot start) none

left_none : (peer : ℕ) (cs : List Contact) → contact_with peer (without peer cs) ≡ None
left_none peer [] = refl
left_none peer (c ∷ cs) = by (left_none peer cs) (is_with peer c) refl
  where
    by : contact_with peer (without peer cs) ≡ None → (b : Bool) → is_with peer c ≡ b → contact_with peer (cond (not b) (c ∷ without peer cs) (without peer cs)) ≡ None
    by later true is = later
    by later false is = ap (λ b. cond b (Some c) (contact_with peer (without peer cs))) is ∙ later

changed_there : (peer : ℕ) (change : Contact → Contact) (cs : List Contact) (k : Contact) → LeavesBoot change → contact_with peer cs ≡ Some k → contact_with peer (with_changed peer change cs) ≡ Some (change k)
changed_there peer change [] k keeps there = absurd (let wrong : None ≡ Some k = there in cc)
changed_there peer change (c ∷ cs) k keeps there = by (changed_there peer change cs k keeps) (is_with peer c) refl there
  where
    by : (contact_with peer cs ≡ Some k → contact_with peer (with_changed peer change cs) ≡ Some (change k)) → (b : Bool) → is_with peer c ≡ b → cond b (Some c) (contact_with peer cs) ≡ Some k
        → contact_with peer (if b then change c ∷ cs else c ∷ with_changed peer change cs) ≡ Some (change k)
    by later true is at =
        let same : c ≡ k = (let e : Some c ≡ Some k = at in cc) in
        let still : is_with peer (change c) ≡ true = ap (λ a. a.word == peer) (keeps c).1 ∙ is in
        ap (λ b. cond b (Some (change c)) (contact_with peer cs)) still ∙ ap (λ d. Some (change d)) same
    by later false is at = ap (λ b. cond b (Some c) (contact_with peer (with_changed peer change cs))) is ∙ later at

-- ---- by one deed

kept_itself : (k : Contact) → IsKeptAs k k
kept_itself k = record { boot = refl; window = refl; shown = refl }

stated_there : (peer : ℕ) (v : Casting) (seen : BroadcastState) (k : Contact) (b : Bool) → contact_with peer v.contacts ≡ Some k
    → (l : Contact) × (contact_with peer (if b then answered (informed v peer seen.start seen.next) peer seen.acknowledged else informed v peer seen.start seen.next).contacts ≡ Some l) × IsKeptAs (told seen.start seen.next k) l
stated_there peer v seen k false there = (told seen.start seen.next k, changed_there peer (told seen.start seen.next) v.contacts k (told_keeps seen.start seen.next) there, kept_itself (told seen.start seen.next k))
stated_there peer v seen k true there =
    let u = informed v peer seen.start seen.next in
    let first = changed_there peer (told seen.start seen.next) v.contacts k (told_keeps seen.start seen.next) there in
    let credit = acknowledging u.sending.numbered seen.acknowledged in
    (credit (told seen.start seen.next k), ap (contact_with peer) (answered_alike u peer seen.acknowledged).contacts ∙ changed_there peer credit u.contacts (told seen.start seen.next k) (λ c. (refl, refl)) first, record { boot = refl; window = refl; shown = refl })

or_true : (a : Bool) → (a || false) ≡ true → a ≡ true
or_true true is = refl
or_true false is = is

one_keeps : (peer : ℕ) (d : CastDeed) (v : Casting) → concerns peer d ≡ true → DeedKeeps v.own peer d (contact_with peer v.contacts) (contact_with peer (after_deed d v).contacts)
one_keeps peer (CastDeed.joins other boot) v is = λ none.
    let same : other ≡ peer = eqb-true other peer (or_true (other == peer) is) in
    let here : (peer == peer) ≡ true = ap (λ n. n == peer) (sym same) ∙ or_true (other == peer) is in
    (next_start v, ap (λ n. contact_with peer (v.contacts ++ joined n boot (next_start v) ∷ [])) same ∙ joined_there peer boot (next_start v) v.contacts here none)
one_keeps peer (CastDeed.leaves other) v is =
    let same : other ≡ peer = eqb-true other peer (or_true (other == peer) is) in
    let u = with_contacts v (without other v.contacts) in
    ap (contact_with peer) (left_alike (without other v.contacts) u).contacts ∙ ap (λ n. contact_with peer (without n v.contacts)) same ∙ left_none peer v.contacts
one_keeps peer (CastDeed.states other seen) v is = λ k there.
    let same : other ≡ peer = eqb-true other peer (or_true (other == peer) is) in
    subst (λ n. (l : Contact) × (contact_with peer (stating v n seen).contacts ≡ Some l) × IsKeptAs (told seen.start seen.next k) l) (sym same) (stated_there peer v seen k seen.in_step there)
one_keeps peer (CastDeed.bears bearer is_mended) v is = absurd (let wrong : false ≡ true = is in cc)
one_keeps peer (CastDeed.hears boot members by packet) v is =
    let same : packet.previous ≡ peer = eqb-true packet.previous peer is in
    let change : Contact → Contact = λ c. heard (carried packet by) c (refusal v.own boot members c) in
    let as_peer : contact_with peer (with_changed packet.previous change v.contacts) ≡ contact_with peer (with_changed peer change v.contacts) = ap (λ n. contact_with peer (with_changed n change v.contacts)) same in
    (λ none. as_peer ∙ ap (contact_with peer) (unchanged peer change v.contacts none) ∙ none, λ k there. as_peer ∙ changed_there peer change v.contacts k (heard_keeps v.own boot members (carried packet by)) there)
one_keeps peer (CastDeed.sends pieces) v is = absurd (let wrong : false ≡ true = is in cc)

-- ---- by all

none_concerned : (b : Bool) → b ≡ false → not b ≡ true
none_concerned b is = ap not is

pub kept_by_deeds : KeptByDeeds
kept_by_deeds peer [] v = no_deeds (contact_with peer v.contacts)
kept_by_deeds peer (d ∷ ds) v = by (kept_by_deeds peer ds (after_deed d v)) (concerns peer d) refl
  where
    Keeps : List CastDeed → Option Contact → Type 0
    Keeps es before = DeedsKeep v.own peer es before (contact_with peer (after_deeds ds (after_deed d v)).contacts)

    by : DeedsKeep (after_deed d v).own peer (filter (concerns peer) ds) (contact_with peer (after_deed d v).contacts) (contact_with peer (after_deeds ds (after_deed d v)).contacts) → (b : Bool) → concerns peer d ≡ b
        → Keeps (if b then d ∷ filter (concerns peer) ds else filter (concerns peer) ds) (contact_with peer v.contacts)
    by rest true is = one_deed d (filter (concerns peer) ds) (contact_with peer v.contacts) (contact_with peer (after_deed d v).contacts) _ (one_keeps peer d v is)
        (subst (λ n. DeedsKeep n peer (filter (concerns peer) ds) (contact_with peer (after_deed d v).contacts) (contact_with peer (after_deeds ds (after_deed d v)).contacts)) (deed_node d v).own rest)
    by rest false is = subst (Keeps (filter (concerns peer) ds)) (deed_apart peer d v (none_concerned (concerns peer d) is))
        (subst (λ n. DeedsKeep n peer (filter (concerns peer) ds) (contact_with peer (after_deed d v).contacts) (contact_with peer (after_deeds ds (after_deed d v)).contacts)) (deed_node d v).own rest)
