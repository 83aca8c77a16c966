-- What happens to all neighbours alike, one after another.
use Rattle.std.proofs.Common.{◌≡◌, ◌≢◌, ◌+◌, ◌<◌, ◌≤◌, ℕ, zero, suc, List, [], ◌∷◌, ◌++◌, Option, Some, None, length, take, refl, sym, ap, subst, ◌∙◌, zero-add, add-zero, append_assoc, append-nil, arith}
use Rattle.std.specs.Prelude.{slice_index_or, unwrap_or}
use Rattle.std.specs.List.{flat_map}
use Rattle.std.proofs.lemmas.Grind.{flat_map-append}
use Rattle.std.proofs.lemmas.List.{get_or_default, length-map, length-take-le, map-append, take_all, take_more}
use Rattle.tipc_types.specs.Address.{node_word}
use Rattle.tipc_types.specs.declared.link_words.BroadcastState.{BroadcastState}
use Rattle.tipc_pair.specs.declared.transitions.Transition.{Transition}
use Rattle.tipc_pair.specs.Courses.{made_in}
use Rattle.tipc_outside.specs.declared.outgoing.Outgoing.{Outgoing}
use Rattle.tipc_outside.specs.Frames.{Adds, AddsFirst, Gains, Out, made_first, no_frames}
use Rattle.tipc_outside.proofs.Adding.{adds_more, gains_more, gains_none}
use Rattle.tipc_broadcast.specs.Casting.{Casting, shown}
use Rattle.tipc_broadcast.specs.Contacts.{has_joined}
use Rattle.tipc_broadcast.specs.Deeds.{CastDeed, after_deeds, deeds_frames}
use Rattle.tipc_broadcast.proofs.Apart.{IsLikeFor, deeds_like}
use Rattle.tipc_broadcast.proofs.Deeds.{after_more, frames_more}
use Rattle.tipc_node.specs.declared.neighbours.Neighbour.{Neighbour}
use Rattle.tipc_node.specs.declared.neighbours.Parting.{Parting}
use Rattle.tipc_node.specs.declared.neighbours.Upkeep.{Upkeep}
use Rattle.tipc_node.specs.declared.neighbours.Upkeep.TheVariants as upkeep
use Rattle.tipc_node.specs.Casting.{bearer_deeds, casting_in, contact_deeds}
use Rattle.tipc_node.specs.Neighbours.{Done, course_of, done}
use Rattle.tipc_node.specs.Nodes.{NodeState, after_all, after_one, change_entries, changes_at, deeds_all, deeds_one, entries_all, entries_one, is_met, made_all, made_one, neighbour_of, numbered_all, numbered_one, part_all, part_at, parts_of, states_all, states_one, upkeep_deeds}
use Rattle.tipc_node.specs.Partings.{AreAllJoined, ComesOf, ComesOfAll, TookPart, TookParts}
use Rattle.tipc_node.specs.Turns.{HaveJoined}
use Rattle.tipc_node.proofs.turns.Lawful.{contacts_apart}
use Rattle.tipc_node.proofs.work.Casting.{contacts_silent, joined_there, other_joined}

-- ---- one neighbour more

entries_more : (number : ℕ) (os : List (Option Done)) (o : Option Done) → entries_all number (os ++ o ∷ []) ≡ entries_all number os ++ entries_one (number + length os) o
unfolding entries_all
entries_more number [] o = append-nil (entries_one number o) ∙ ap (λ k. entries_one k o) (sym (add-zero number))
entries_more number (p ∷ os) o =
    let place : number + 1 + length os ≡ number + length (p ∷ os) = omega arith in
    ap (λ es. entries_one number p ++ es) (entries_more (number + 1) os o ∙ ap (λ k. entries_all (number + 1) os ++ entries_one k o) place)
    ∙ sym (append_assoc (entries_one number p) (entries_all (number + 1) os) (entries_one (number + length (p ∷ os)) o))

deeds_more : (number : ℕ) (os : List (Option Done)) (o : Option Done) → deeds_all number (os ++ o ∷ []) ≡ deeds_all number os ++ deeds_one (number + length os) o
unfolding deeds_all
deeds_more number [] o = append-nil (deeds_one number o) ∙ ap (λ k. deeds_one k o) (sym (add-zero number))
deeds_more number (p ∷ os) o =
    let place : number + 1 + length os ≡ number + length (p ∷ os) = omega arith in
    ap (λ ds. deeds_one number p ++ ds) (deeds_more (number + 1) os o ∙ ap (λ k. deeds_all (number + 1) os ++ deeds_one k o) place)
    ∙ sym (append_assoc (deeds_one number p) (deeds_all (number + 1) os) (deeds_one (number + length (p ∷ os)) o))

states_more : (os : List (Option Done)) (o : Option Done) → states_all (os ++ o ∷ []) ≡ states_all os ++ states_one o
unfolding states_all
states_more os o = flat_map-append states_one os (o ∷ []) ∙ ap (λ fs. flat_map states_one os ++ fs) (append-nil (states_one o))

numbered_more : (os : List (Option Done)) (o : Option Done) → numbered_all (os ++ o ∷ []) ≡ numbered_all os ++ numbered_one o
unfolding numbered_all
numbered_more os o = flat_map-append numbered_one os (o ∷ []) ∙ ap (λ fs. flat_map numbered_one os ++ fs) (append-nil (numbered_one o))

after_all_more : (os : List (Option Done)) (o : Option Done) → after_all (os ++ o ∷ []) ≡ after_all os ++ after_one o ∷ []
unfolding after_all
after_all_more os o = map-append after_one os (o ∷ [])

-- its part is that with the broadcast link as those before it left that
part_more : (d : Upkeep) (number : ℕ) (v : Casting) (xs : List (Option Neighbour)) (x : Option Neighbour)
    → part_all d number v (xs ++ x ∷ []) ≡ part_all d number v xs ++ part_at d (number + length xs) (after_deeds (deeds_all number (part_all d number v xs)) v) x ∷ []
unfolding part_all deeds_all
part_more d number v [] x = ap (λ k. part_at d k v x ∷ []) (sym (add-zero number))
part_more d number v (y ∷ ys) x =
    let p = part_at d number v y in
    let w = after_deeds (deeds_one number p) v in
    let rest = part_all d (number + 1) w ys in
    let place : number + 1 + length ys ≡ number + length (y ∷ ys) = omega arith in
    ap (λ os. p ∷ os) (part_more d (number + 1) w ys x
    ∙ ap (λ k. rest ++ part_at d k (after_deeds (deeds_all (number + 1) rest) w) x ∷ []) place
    ∙ ap (λ u. rest ++ part_at d (number + length (y ∷ ys)) u x ∷ []) (sym (after_more (deeds_one number p) (deeds_all (number + 1) rest) v)))

-- ---- of which neighbour a part came

-- it came of the neighbour of that number, with the broadcast link as it was then
pub record IsPartOf (n : NodeState) (d : Upkeep) (b : ℕ) (y : Done) : Type 0 where
  pub neighbour : Neighbour
  pub there : neighbour_of n b ≡ Some neighbour
  pub link : Casting
  pub is : y ≡ done d (shown link (node_word b)) neighbour

-- the part at a place, which comes behind a front of all these deeds; the broadcast link has accepted what it had, and has the contact with that peer that it had
record IsPartAt (d : Upkeep) (b : ℕ) (v : Casting) (whole : List CastDeed) (place : Option Neighbour) (o : Option Done) : Type 0 where
  link : Casting
  deeds : List CastDeed
  rest : List CastDeed
  all : whole ≡ deeds ++ rest
  link_is : link ≡ after_deeds deeds v
  like : IsLikeFor (node_word b) v link
  is : o ≡ part_at d b link place

like_then : (w : ℕ) (u v x : Casting) → IsLikeFor w u v → IsLikeFor w v x → IsLikeFor w u x
like_then w u v x h k = record { contact = k.contact ∙ h.contact; accepted_is = k.accepted_is ∙ h.accepted_is }

part_there : (d : Upkeep) (first : ℕ) (v : Casting) (xs : List (Option Neighbour)) (k : ℕ)
    → IsPartAt d (first + k) v (deeds_all first (part_all d first v xs)) (slice_index_or xs k None) (slice_index_or (part_all d first v xs) k None)
unfolding part_all deeds_all
part_there d first v [] k = record { link = v; deeds = []; rest = []; all = refl; link_is = refl; like = record { contact = refl; accepted_is = refl }; is = refl }
part_there d first v (x ∷ xs) zero =
    record {
      link = v;
      deeds = [];
      rest = deeds_all first (part_all d first v (x ∷ xs));
      all = refl;
      link_is = refl;
      like = record { contact = refl; accepted_is = refl };
      is = ap (λ b. part_at d b v x) (sym (add-zero first));
    }
part_there d first v (x ∷ xs) (suc k) =
    let changes = changes_at (part_at d first v x) in
    let before = contact_deeds first changes in
    let w = after_deeds before v in
    let later = part_there d (first + 1) w xs k in
    let apart : first + suc k ≢ first = (λ same. omega (arith, same)) in
    let place : first + 1 + k ≡ first + suc k = omega arith in
    record {
      link = later.link;
      deeds = before ++ later.deeds;
      rest = later.rest;
      all = ap (λ ds. before ++ ds) later.all ∙ sym (append_assoc before later.deeds later.rest);
      link_is = later.link_is ∙ sym (after_more before later.deeds v);
      like = like_then (node_word (first + suc k)) v w later.link (deeds_like (node_word (first + suc k)) before v (contacts_apart first (first + suc k) changes apart) (contacts_silent first changes))
          (subst (λ j. IsLikeFor (node_word j) w later.link) place later.like);
      is = later.is ∙ ap (λ b. part_at d b later.link (slice_index_or xs k None)) (omega arith);
    }

bearers_like : (d : Upkeep) (w : ℕ) (v : Casting) → IsLikeFor w v (after_deeds (bearer_deeds d) v)
bearers_like (upkeep.Mend bearer) w v = record { contact = refl; accepted_is = refl }
bearers_like (upkeep.Cut bearer) w v = record { contact = refl; accepted_is = refl }
bearers_like upkeep.Tick w v = record { contact = refl; accepted_is = refl }

-- each neighbour has its part
pub record HasPart (n : NodeState) (d : Upkeep) (b : ℕ) (x : Neighbour) : Type 0 where
  pub link : Casting
  pub deeds : List CastDeed
  pub rest : List CastDeed
  pub all : upkeep_deeds d n ≡ deeds ++ rest
  pub link_is : link ≡ after_deeds deeds n.casting
  pub like : IsLikeFor (node_word b) n.casting link
  pub there : slice_index_or (parts_of d n) b None ≡ Some (done d (shown link (node_word b)) x)

pub has_part : (n : NodeState) (d : Upkeep) (b : ℕ) (x : Neighbour) → neighbour_of n b ≡ Some x → HasPart n d b x
unfolding parts_of
has_part n d b x there =
    let v = after_deeds (bearer_deeds d) n.casting in
    let p = part_there d 0 v n.neighbours b in
    record {
      link = p.link;
      deeds = bearer_deeds d ++ p.deeds;
      rest = p.rest;
      all = ap (λ ds. bearer_deeds d ++ ds) p.all ∙ sym (append_assoc (bearer_deeds d) p.deeds p.rest);
      link_is = p.link_is ∙ sym (after_more (bearer_deeds d) p.deeds n.casting);
      like = like_then (node_word b) n.casting v p.link (bearers_like d (node_word b) n.casting) (subst (λ j. IsLikeFor (node_word j) v p.link) (zero-add b) p.like);
      there = p.is ∙ ap (λ k. part_at d k p.link (neighbour_of n b)) (zero-add b) ∙ ap (part_at d b p.link) there;
    }

pub no_part : (n : NodeState) (d : Upkeep) (b : ℕ) → neighbour_of n b ≡ None → slice_index_or (parts_of d n) b None ≡ None
unfolding parts_of
no_part n d b none =
    let p = part_there d 0 (after_deeds (bearer_deeds d) n.casting) n.neighbours b in
    p.is ∙ ap (part_at d (0 + b) p.link) none

-- and each part is that of a neighbour
pub parts_from : (n : NodeState) (d : Upkeep) (b : ℕ) (y : Done) → slice_index_or (parts_of d n) b None ≡ Some y → IsPartOf n d b y
parts_from n d b y is = by (neighbour_of n b) refl
  where
    by : (o : Option Neighbour) → neighbour_of n b ≡ o → IsPartOf n d b y
    by None none = absurd (let wrong : None ≡ Some y = sym (no_part n d b none) ∙ is in cc)
    by (Some x) there =
        let h = has_part n d b x there in
        let same : Some y ≡ Some (done d (shown h.link (node_word b)) x) = sym is ∙ h.there in
        record { neighbour = x; there = there; link = h.link; is = cc }

-- ---- the code goes from one neighbour to the next

-- where nobody is nothing happens
pub none_took : (d : Upkeep) (number : ℕ) (v : Casting) (place : Option Neighbour) (event : Parting) → place ≡ None → TookPart d number v place None event event
none_took d number v place event none = subst (λ o. TookPart d number v o None event event) (sym none) (record {
  after_is = refl;
  entries = sym (append-nil event.inside.items);
  frames = gains_none event.out;
  casting = refl;
  casts = gains_none event.casts;
})

pub some_took : (d : Upkeep) (number : ℕ) (v : Casting) (place : Option Neighbour) (x y : Neighbour) (old event : Parting) → place ≡ Some x → TookPart d number v (Some x) (Some y) old event → TookPart d number v place (Some y) old event
some_took d number v place x y old event there took = subst (λ o. TookPart d number v o (Some y) old event) (sym there) took

-- the bearers aren't shown
shown_in : (d : Upkeep) (v : Casting) (o : Option Casting) (peer : ℕ) → shown (unwrap_or o v) peer ≡ shown (casting_in d v o) peer
shown_in d v (Some w) peer = refl
shown_in (upkeep.Mend bearer) v None peer = refl
shown_in (upkeep.Cut bearer) v None peer = refl
shown_in upkeep.Tick v None peer = refl

-- what the code does at one neighbour, with the broadcast link as it is
pub record DidPart (d : Upkeep) (number : ℕ) (v : Casting) (x copy y : Neighbour) (shows : BroadcastState) (changes : List Transition) (old event : Parting) : Type 0 where
  pub copied : copy ≡ x
  pub shows_is : shows ≡ shown (unwrap_or old.broadcast v) (node_word number)
  pub after : y ≡ (done d shows copy).after
  pub changes_are : changes ≡ (done d shows copy).changes
  pub entries : event.inside.items ≡ old.inside.items ++ change_entries number changes
  pub frames : Gains old.out event.out (made_in (course_of d shows copy))
  pub casting : casting_in d v event.broadcast ≡ after_deeds (contact_deeds number changes) (casting_in d v old.broadcast)
  pub casts : Adds old.casts event.casts (deeds_frames (contact_deeds number changes) (casting_in d v old.broadcast))

pub did_part : (d : Upkeep) (number : ℕ) (v : Casting) (x copy y : Neighbour) (shows : BroadcastState) (changes : List Transition) (old event : Parting) → DidPart d number v x copy y shows changes old event → TookPart d number v (Some x) (Some y) old event
did_part d number v x copy y shows changes old event h = record {
  after_is = ap (λ z. Some z) (h.after ∙ ap (λ (z : Done). z.after) same);
  entries = h.entries ∙ ap (λ cs. old.inside.items ++ change_entries number cs) changes_same;
  frames = subst (Gains old.out event.out) (λ i. made_in (course_of d (shows_same i) (h.copied i))) h.frames;
  casting = h.casting ∙ ap (λ cs. after_deeds (contact_deeds number cs) w) changes_same;
  casts = subst (λ cs. Adds old.casts event.casts (deeds_frames (contact_deeds number cs) w)) changes_same h.casts;
}
  where
    w : Casting
    w = casting_in d v old.broadcast

    shows_same : shows ≡ shown w (node_word number)
    shows_same = h.shows_is ∙ shown_in d v old.broadcast (node_word number)

    same : done d shows copy ≡ done d (shown w (node_word number)) x
    same = (λ i. done d (shows_same i) (h.copied i))

    changes_same : changes ≡ (done d (shown w (node_word number)) x).changes
    changes_same = h.changes_are ∙ ap (λ (z : Done). z.changes) same

-- the neighbours below a number took part; those from it on are in contact at the broadcast link where there is contact with them
pub record IsPartway (d : Upkeep) (v : Casting) (old now : List (Option Neighbour)) (w : Casting) (start event : Parting) (number : ℕ) : Type 0 where
  pub comes : ComesOfAll v (part_all d 0 v (take number old)) now w start event
  pub joined : (b : ℕ) → number ≤ b → b ≤ 32 → has_joined (node_word b) w.contacts ≡ is_met (slice_index_or old b None)

-- the node itself is no neighbour
first_comes : (v : Casting) (event : Parting) → event.inside.items ≡ [] → ComesOfAll v (None ∷ []) (None ∷ []) v event event
unfolding after_all entries_all deeds_all states_all numbered_all
first_comes v event empty = record {
  after_is = refl;
  entries = empty;
  frames = gains_none event.out;
  casting = refl;
  casts = gains_none event.casts;
}

pub part_first : (d : Upkeep) (v : Casting) (old : List (Option Neighbour)) (event : Parting) → length old ≡ 33 → slice_index_or old 0 None ≡ None → event.inside.items ≡ [] → AreAllJoined old v
    → IsPartway d v old (None ∷ []) v event event 1
unfolding part_all
part_first d v [] event wide none empty joined = absurd (let wrong : 0 ≡ 33 = wide in omega (arith, wrong))
part_first d v (x ∷ xs) event wide none empty joined =
    subst (λ z. IsPartway d v (z ∷ xs) (None ∷ []) v event event 1) (sym none)
    (record { comes = first_comes v event empty; joined = λ b low high. joined b low high ∙ ap (λ z. is_met (slice_index_or (z ∷ xs) b None)) none })

-- the bearers say nothing of who is in contact
pub all_joined : (d : Upkeep) (v : Casting) (xs : List (Option Neighbour)) → AreAllJoined xs v → AreAllJoined xs (after_deeds (bearer_deeds d) v)
all_joined (upkeep.Mend bearer) v xs h = h
all_joined (upkeep.Cut bearer) v xs h = h
all_joined upkeep.Tick v xs h = h

-- the neighbours up to a number, one more
longer : (old : List (Option Neighbour)) (number : ℕ) (x : Option Neighbour) → number < length old → slice_index_or old number None ≡ x → take (number + 1) old ≡ take number old ++ x ∷ []
longer old number x within is = take_more old number None within ∙ ap (λ z. take number old ++ z ∷ []) is

length_part : (d : Upkeep) (number : ℕ) (v : Casting) (xs : List (Option Neighbour)) → length (part_all d number v xs) ≡ length xs
unfolding part_all
length_part d number v [] = refl
length_part d number v (x ∷ xs) = ap (λ k. suc k) (length_part d (number + 1) (after_deeds (deeds_one number (part_at d number v x)) v) xs)

-- one more part
comes_more : (v w w' : Casting) (os : List (Option Done)) (o : Option Done) (now : List (Option Neighbour)) (y : Option Neighbour) (start e e' : Parting) (number : ℕ) → number ≡ length os
    → ComesOfAll v os now w start e → ComesOf number w o y w' e e' → ComesOfAll v (os ++ o ∷ []) (now ++ y ∷ []) w' start e'
comes_more v w w' os o now y start e e' number place h c =
    let count : number ≡ 0 + length os = place ∙ sym (zero-add (length os)) in
    let deeds : deeds_all 0 (os ++ o ∷ []) ≡ deeds_all 0 os ++ deeds_one number o = deeds_more 0 os o ∙ ap (λ k. deeds_all 0 os ++ deeds_one k o) (sym count) in
    record {
      after_is = (λ i. h.after_is i ++ c.after_is i ∷ []) ∙ sym (after_all_more os o);
      entries = c.entries ∙ ap (λ es. es ++ entries_one number o) h.entries ∙ ap (λ k. entries_all 0 os ++ entries_one k o) count ∙ sym (entries_more 0 os o);
      frames = subst (λ fs. Gains start.out e'.out (record { first = fs; behind = numbered_all (os ++ o ∷ []) })) (sym (states_more os o))
          (subst (λ fs. Gains start.out e'.out (record { first = states_all os ++ states_one o; behind = fs })) (sym (numbered_more os o))
          (gains_more start.out e.out e'.out (made_all os) (made_one o) h.frames c.frames));
      casting = c.casting ∙ ap (after_deeds (deeds_one number o)) h.casting ∙ sym (after_more (deeds_all 0 os) (deeds_one number o) v) ∙ ap (λ ds. after_deeds ds v) (sym deeds);
      casts =
          let two : Adds e.casts e'.casts (deeds_frames (deeds_one number o) (after_deeds (deeds_all 0 os) v)) = subst (λ u. Adds e.casts e'.casts (deeds_frames (deeds_one number o) u)) h.casting c.casts in
          subst (Adds start.casts e'.casts) (sym (frames_more (deeds_all 0 os) (deeds_one number o) v) ∙ ap (λ ds. deeds_frames ds v) (sym deeds))
          (adds_more start.casts e.casts e'.casts (deeds_frames (deeds_all 0 os) v) (deeds_frames (deeds_one number o) (after_deeds (deeds_all 0 os) v)) h.casts two);
    }

-- the next one
pub part_next : (d : Upkeep) (v w w' : Casting) (old now : List (Option Neighbour)) (start e e' : Parting) (number : ℕ) (x y : Option Neighbour) → IsPartway d v old now w start e number
    → number < length old → x ≡ slice_index_or old number x → ComesOf number w (part_at d number w x) y w' e e' → IsPartway d v old (now ++ y ∷ []) w' start e' (number + 1)
part_next d v w w' old now start e e' number x y h within read c =
    let was : slice_index_or old number None ≡ x = get_or_default old number None x within ∙ sym read in
    let xs = take number old in
    let os = part_all d 0 v xs in
    let count : length xs ≡ number = length-take-le number old (omega arith) in
    let parts : part_all d 0 v (take (number + 1) old) ≡ os ++ part_at d number w x ∷ [] =
    ap (part_all d 0 v) (longer old number x within was) ∙ part_more d 0 v xs x
    ∙ ap (λ k. os ++ part_at d k (after_deeds (deeds_all 0 os) v) x ∷ []) (zero-add (length xs) ∙ count) ∙ ap (λ u. os ++ part_at d number u x ∷ []) (sym h.comes.casting) in
    record {
      comes = subst (λ ps. ComesOfAll v ps (now ++ y ∷ []) w' start e') (sym parts)
          (comes_more v w w' os (part_at d number w x) now y start e e' number (sym (length_part d 0 v xs ∙ count)) h.comes c);
      joined = λ b low high.
          (let apart : b ≢ number = (λ same. omega (arith, same, low)) in
          ap (λ (u : Casting). has_joined (node_word b) u.contacts) c.casting ∙ other_joined number b (changes_at (part_at d number w x)) w apart ∙ h.joined b (omega (arith, low)) high);
    }

pub part_last : (d : Upkeep) (v : Casting) (old now : List (Option Neighbour)) (w : Casting) (start event : Parting) (number : ℕ) → IsPartway d v old now w start event number → length old ≤ number
    → ComesOfAll v (part_all d 0 v old) now w start event
part_last d v old now w start event number h past = subst (λ xs. ComesOfAll v (part_all d 0 v xs) now w start event) (take_all number old past) h.comes

-- so many they are, and the first is nobody
all_wide : (d : Upkeep) (number : ℕ) (v : Casting) (old : List (Option Neighbour)) → length (after_all (part_all d number v old)) ≡ length old
unfolding after_all
all_wide d number v old = length-map (part_all d number v old) after_one ∙ length_part d number v old

all_nobody : (d : Upkeep) (number : ℕ) (v : Casting) (old : List (Option Neighbour)) → slice_index_or old 0 None ≡ None → slice_index_or (after_all (part_all d number v old)) 0 None ≡ None
unfolding after_all part_all
all_nobody d number v [] none = refl
all_nobody d number v (x ∷ xs) none = ap (λ z. after_one (part_at d number v z)) none

-- ---- all of them

-- what the code has then: of each neighbour of a node its part came, and of the broadcast link what the deeds make of it
pub record HaveTakenPart (n : NodeState) (d : Upkeep) (after : List (Option Neighbour)) (v : Casting) (event : Parting) : Type 0 where
  pub after_is : after ≡ after_all (parts_of d n)
  pub entries : event.inside.items ≡ entries_all 0 (parts_of d n)
  pub frames : Gains no_frames event.out (made_all (parts_of d n))
  pub casting : v ≡ after_deeds (upkeep_deeds d n) n.casting
  pub casts : Adds no_frames event.casts (deeds_frames (upkeep_deeds d n) n.casting)

-- no frame leaves where a bearer is mended or cut
bearers_none : (d : Upkeep) (v : Casting) → deeds_frames (bearer_deeds d) v ≡ []
bearers_none (upkeep.Mend bearer) v = refl
bearers_none (upkeep.Cut bearer) v = refl
bearers_none upkeep.Tick v = refl

pub have_part : (n : NodeState) (d : Upkeep) (xs after : List (Option Neighbour)) (old event : Parting) → xs ≡ n.neighbours → old.out ≡ no_frames → old.casts ≡ no_frames → TookParts d n.casting xs after old event
    → HaveTakenPart n d after (casting_in d n.casting event.broadcast) event
unfolding parts_of
have_part n d xs after old event read out casts h =
    let v = after_deeds (bearer_deeds d) n.casting in
    let t = subst (λ ys. ComesOfAll v (part_all d 0 v ys) after (casting_in d n.casting event.broadcast) old event) read h in
    let os = part_all d 0 v n.neighbours in
    record {
      after_is = t.after_is;
      entries = t.entries;
      frames = subst (λ b. Gains b event.out (made_all os)) out t.frames;
      casting = t.casting ∙ sym (after_more (bearer_deeds d) (deeds_all 0 os) n.casting);
      casts = subst (Adds no_frames event.casts) (ap (λ fs. fs ++ deeds_frames (deeds_all 0 os) v) (sym (bearers_none d n.casting)) ∙ sym (frames_more (bearer_deeds d) (deeds_all 0 os) n.casting))
          (subst (λ b. Adds b event.casts (deeds_frames (deeds_all 0 os) v)) casts t.casts);
    }

-- each peer is in contact at the broadcast link where there is contact with it
pub joined_all : (n : NodeState) (xs : List (Option Neighbour)) → xs ≡ n.neighbours → HaveJoined n → AreAllJoined xs n.casting
joined_all n xs read joined b low high = joined_there n b joined ∙ ap (λ ys. is_met (slice_index_or ys b None)) (sym read)

-- the table is as wide as before, and the node itself is no neighbour
pub parts_wide : (n : NodeState) (d : Upkeep) → length (after_all (parts_of d n)) ≡ length n.neighbours
unfolding parts_of
parts_wide n d = all_wide d 0 (after_deeds (bearer_deeds d) n.casting) n.neighbours

pub parts_nobody : (n : NodeState) (d : Upkeep) → slice_index_or n.neighbours 0 None ≡ None → slice_index_or (after_all (parts_of d n)) 0 None ≡ None
unfolding parts_of
parts_nobody n d none = all_nobody d 0 (after_deeds (bearer_deeds d) n.casting) n.neighbours none

-- ---- the requests behind it

-- the frames of all neighbours, and the requests behind those that leave first
pub asked_made : (os : List (Option Done)) (requests : List Outgoing) (a b c : Out) → Gains a b (made_all os) → AddsFirst b c requests → Gains a c (record { first = states_all os ++ requests; behind = numbered_all os })
asked_made os requests a b c made asked =
    subst (λ fs. Gains a c (record { first = states_all os ++ requests; behind = fs })) (append-nil (numbered_all os)) (gains_more a b c (made_all os) (made_first requests) made asked)

-- those of broadcast packets leave behind all others
pub cast_behind : (a b c : Out) (first numbered casts : List Outgoing) → Adds a b (first ++ numbered) → Adds b c casts → Adds a c (first ++ (numbered ++ casts))
cast_behind a b c first numbered casts one two = subst (Adds a c) (append_assoc first numbered casts) (adds_more a b c (first ++ numbered) casts one two)
