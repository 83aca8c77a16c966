-- Every event leaves the broadcast link of each node right.
use Rattle.std.specs.Prelude.{◌++◌, cond, is_some, not, Bool, true, false, if◌then◌else◌}
use Rattle.std.specs.Option.{option_or}
use Rattle.std.proofs.lemmas.Bool.Decides.{nat_tests}
use Rattle.std.proofs.lemmas.List.Elements.{All-nil}
use Rattle.std.proofs.lemmas.List.Folds.{find-append}
use Rattle.std.proofs.Common.{◌≡◌, ◌∙◌, ℕ, List, [], ◌∷◌, Option, Some, None, length, ◌+◌, refl, sym, ap, subst, arith}
use Rattle.tipc_types.specs.Address.{node_word}
use Rattle.tipc_types.specs.Span.{Span}
use Rattle.tipc_types.specs.declared.identity.Addr.{Addr}
use Rattle.tipc_types.specs.declared.link_words.BroadcastState.{BroadcastState}
use Rattle.tipc_types.specs.declared.link_words.Why.{Why}
use Rattle.tipc_types.specs.declared.node_calls.Answer.{Answer}
use Rattle.tipc_types.specs.declared.node_calls.Arrival.{Arrival}
use Rattle.tipc_types.specs.declared.node_calls.By.{By}
use Rattle.tipc_types.specs.declared.node_calls.EventNote.{EventNote}
use Rattle.tipc_types.specs.declared.node_calls.EventNote.TheVariants as note
use Rattle.tipc_types.specs.declared.services.Publication.{Publication}
use Rattle.tipc_outside.specs.declared.outgoing.Outgoing.{Outgoing}
use Rattle.tipc_header.specs.declared.frames.FrameKind.{FrameKind}
use Rattle.tipc_header.specs.declared.frames.FrameKind.TheVariants.{Casts, Finds, Links}
use Rattle.tipc_header.specs.Frames.{kind_in}
use Rattle.tipc_journal.specs.Steps.{NodeStep}
use Rattle.tipc_broadcast.specs.declared.contacts.Contact.{Contact}
use Rattle.tipc_broadcast.specs.Casting.{Casting, answered as answered_by, flushed, informed, kept_for, left_with, next_start, with_contacts, with_message}
use Rattle.tipc_broadcast.specs.Contacts.{acknowledging, carried, contact_with, has_joined, is_with, joined, told, with_changed, without}
use Rattle.tipc_broadcast.specs.Deeds.{AreLawful, AreSmall, CastDeed, HasSmallWindow, after_deed, after_deeds, IsLawful}
use Rattle.tipc_broadcast.proofs.Deeds.{LeavesBoot, accepting_alike, answered_alike, deeds_small, heard_keeps, left_alike, told_keeps}
use Rattle.tipc_broadcast.proofs.Finding.{joined_still}
use Rattle.tipc_node.specs.declared.neighbours.Upkeep.TheVariants as upkeep
use Rattle.tipc_node.specs.Arrivals.{Arrives, heard_deeds}
use Rattle.tipc_node.specs.Calls.{CanPerform, Performs, plan_of}
use Rattle.tipc_node.specs.CastArrivals.{cast_deeds}
use Rattle.tipc_node.specs.Casting.{IsOfNode, stated_in}
use Rattle.tipc_node.specs.Discovery.{found_node, has_found}
use Rattle.tipc_node.specs.Messages.{multicast}
use Rattle.tipc_node.specs.Multicasts.{goes_out, multicast_deeds}
use Rattle.tipc_node.specs.Nodes.{NodeState, stop_of}
use Rattle.tipc_node.specs.Plans.{CarriesOut, Dispatch, Does, DoesUnless, Plan, frames_alone, on_its_way, to_all, to_peers}
use Rattle.tipc_node.specs.Turns.{NodeTurn}
use Rattle.tipc_node.proofs.work.Casting.{arrivals_bear, deeds_of_node, upkeep_of_node}
use Rattle.tipc_node.proofs.work.Multicasts.{leaves_all}
use Rattle.tipc_replay.specs.declared.events.WorldEvent.{WorldEvent}
use Rattle.tipc_replay.specs.declared.events.WorldEvent.TheVariants.{Arrive, Call, Restart}
use Rattle.tipc_replay.specs.Calls.{CanHappenAt}
use Rattle.tipc_replay.specs.CastLinks.{AreWithOthers, HasRightCast, HaveRightCasts, IsOfItsNode, KeepsNoneAlone}
use Rattle.tipc_replay.specs.Events.{JoinsAt}
use Rattle.tipc_replay.specs.Members.{IsFresh}
use Rattle.tipc_replay.specs.States.{MemberState}
use Rattle.tipc_replay.specs.Steps.{Becomes, Stage}
use Rattle.tipc_replay.proofs.pairs.PairedEvents.{made_turn, met_turn}
use Rattle.tipc_replay.proofs.states.Each.{Keeps, becomes_each, joined_each, none_each}

-- ---- nothing is kept for nobody

some_there : {A : Type 0} (x : A) (xs : List A) → x ∷ xs ≡ [] → ⊥
some_there x xs is = (let no : ⊥ = cc in no)

one_behind : {A : Type 0} (x : A) (xs : List A) → xs ++ x ∷ [] ≡ [] → ⊥
one_behind x [] is = some_there x [] is
one_behind x (y ∷ ys) is = some_there y (ys ++ x ∷ []) is

none_changed : (peer : ℕ) (change : Contact → Contact) (cs : List Contact) → with_changed peer change cs ≡ [] → cs ≡ []
none_changed peer change [] is = refl
none_changed peer change (c ∷ cs) is = absurd (by (is_with peer c) is)
  where
    by : (b : Bool) → (if b then change c ∷ cs else c ∷ with_changed peer change cs) ≡ [] → ⊥
    by true none = some_there (change c) cs none
    by false none = some_there c (with_changed peer change cs) none

nobody_joined : (peer : ℕ) (cs : List Contact) → has_joined peer cs ≡ true → cs ≡ [] → ⊥
nobody_joined peer cs there none = (let wrong : false ≡ true = sym (ap (has_joined peer) none) ∙ there in let no : ⊥ = cc in no)

left_alone : (cs : List Contact) (u : Casting) → u.contacts ≡ cs → KeepsNoneAlone (left_with cs u)
left_alone [] u is none = (refl, refl)
left_alone (c ∷ cs) u is none = absurd (some_there c cs (sym is ∙ (sym (left_alike (c ∷ cs) u).contacts ∙ none)))

kept_alone : (cs : List Contact) (v : Casting) → v.contacts ≡ cs → KeepsNoneAlone (kept_for cs v)
kept_alone [] v is none = (refl, refl)
kept_alone (c ∷ cs) v is none = absurd (some_there c cs (sym is ∙ none))

flushed_contacts : (v : Casting) → (flushed v).contacts ≡ v.contacts
unfolding flushed
flushed_contacts v = refl

stated_alone : (v : Casting) (peer : ℕ) (seen : BroadcastState) → has_joined peer v.contacts ≡ true → (b : Bool)
    → KeepsNoneAlone (if b then answered_by (informed v peer seen.start seen.next) peer seen.acknowledged else informed v peer seen.start seen.next)
stated_alone v peer seen there true none =
    let u = informed v peer seen.start seen.next in
    absurd (nobody_joined peer v.contacts there (none_changed peer _ v.contacts (none_changed peer _ u.contacts (sym (answered_alike u peer seen.acknowledged).contacts ∙ none))))
stated_alone v peer seen there false none = absurd (nobody_joined peer v.contacts there (none_changed peer _ v.contacts none))

deed_alone : (d : CastDeed) (v : Casting) → IsLawful d v → KeepsNoneAlone v → KeepsNoneAlone (after_deed d v)
deed_alone (CastDeed.joins peer boot) v lawful h = λ none. absurd (one_behind (joined peer boot (next_start v)) v.contacts none)
deed_alone (CastDeed.leaves peer) v lawful h = left_alone (without peer v.contacts) (with_contacts v (without peer v.contacts)) refl
deed_alone (CastDeed.states peer seen) v lawful h = stated_alone v peer seen lawful seen.in_step
deed_alone (CastDeed.bears bearer is_mended) v lawful h = h
deed_alone (CastDeed.hears boot members by packet) v lawful h = λ none. h (none_changed packet.previous _ v.contacts none)
deed_alone (CastDeed.sends pieces) v lawful h = kept_alone v.contacts (flushed (with_message v pieces)) (flushed_contacts (with_message v pieces))

deeds_alone : (ds : List CastDeed) (v : Casting) → AreLawful ds v → KeepsNoneAlone v → KeepsNoneAlone (after_deeds ds v)
deeds_alone [] v lawful h = h
deeds_alone (d ∷ ds) v lawful h = deeds_alone ds (after_deed d v) lawful.1 (deed_alone d v lawful.0 h)

-- ---- no peer has two contacts

none_of_it : (o : Option Contact) → is_some o ≡ false → o ≡ None
none_of_it None is = refl
none_of_it (Some c) is = (let wrong : true ≡ false = is in absurd cc)

push_others : (x : Contact) (cs : List Contact) → AreWithOthers cs → contact_with x.peer.word cs ≡ None → AreWithOthers (cs ++ x ∷ [])
push_others x [] all none = (refl, tt)
push_others x (c ∷ cs) all none = (
  find-append (is_with c.peer.word) cs (x ∷ []) ∙ ap (λ o. option_or o (cond (is_with c.peer.word x) (Some x) None)) all.0 ∙ ap (λ b. cond b (Some x) None) apart.0,
  push_others x cs all.1 apart.1,
)
  where
    by : (b : Bool) → is_with x.peer.word c ≡ b → cond b (Some c) (contact_with x.peer.word cs) ≡ None → (is_with c.peer.word x ≡ false) × (contact_with x.peer.word cs ≡ None)
    by true is wrong = absurd cc
    by false is rest = (grind (arith, nat_tests, is), rest)

    apart : (is_with c.peer.word x ≡ false) × (contact_with x.peer.word cs ≡ None)
    apart = by (is_with x.peer.word c) refl none

none_without : (w peer : ℕ) (cs : List Contact) → contact_with w cs ≡ None → contact_with w (without peer cs) ≡ None
none_without w peer [] none = refl
none_without w peer (c ∷ cs) none = by (λ rest. none_without w peer cs rest) (is_with w c) refl none (is_with peer c)
  where
    by : (contact_with w cs ≡ None → contact_with w (without peer cs) ≡ None) → (b : Bool) → is_with w c ≡ b → cond b (Some c) (contact_with w cs) ≡ None → (d : Bool) → contact_with w (cond (not d) (c ∷ without peer cs) (without peer cs)) ≡ None
    by later true is wrong d = absurd cc
    by later false is rest true = later rest
    by later false is rest false = ap (λ b. cond b (Some c) (contact_with w (without peer cs))) is ∙ later rest

without_others : (peer : ℕ) (cs : List Contact) → AreWithOthers cs → AreWithOthers (without peer cs)
without_others peer [] all = tt
without_others peer (c ∷ cs) all = by (without_others peer cs all.1) (is_with peer c)
  where
    by : AreWithOthers (without peer cs) → (d : Bool) → AreWithOthers (cond (not d) (c ∷ without peer cs) (without peer cs))
    by later true = later
    by later false = (none_without c.peer.word peer cs all.0, later)

changed_others : (peer : ℕ) (change : Contact → Contact) (cs : List Contact) → LeavesBoot change → AreWithOthers cs → AreWithOthers (with_changed peer change cs)
changed_others peer change [] keeps all = tt
changed_others peer change (c ∷ cs) keeps all = by (changed_others peer change cs keeps all.1) (is_with peer c)
  where
    by : AreWithOthers (with_changed peer change cs) → (b : Bool) → AreWithOthers (if b then change c ∷ cs else c ∷ with_changed peer change cs)
    by later true = (ap (λ (a : Addr). contact_with a.word cs) (keeps c).1 ∙ all.0, all.1)
    by later false = (none_of_it (contact_with c.peer.word (with_changed peer change cs)) (joined_still peer c.peer.word change (λ d. (keeps d).1) cs ∙ ap (λ o. is_some o) all.0), later)

stated_others : (v : Casting) (peer : ℕ) (seen : BroadcastState) → AreWithOthers v.contacts → (b : Bool)
    → AreWithOthers (if b then answered_by (informed v peer seen.start seen.next) peer seen.acknowledged else informed v peer seen.start seen.next).contacts
stated_others v peer seen all b = by b
  where
    u : Casting
    u = informed v peer seen.start seen.next

    told_so : AreWithOthers u.contacts
    told_so = changed_others peer (told seen.start seen.next) v.contacts (told_keeps seen.start seen.next) all

    by : (t : Bool) → AreWithOthers (if t then answered_by u peer seen.acknowledged else u).contacts
    by true = subst AreWithOthers (sym (answered_alike u peer seen.acknowledged).contacts) (changed_others peer (acknowledging u.sending.numbered seen.acknowledged) u.contacts (λ c. (refl, refl)) told_so)
    by false = told_so

deed_others : (d : CastDeed) (v : Casting) → IsLawful d v → AreWithOthers v.contacts → AreWithOthers (after_deed d v).contacts
deed_others (CastDeed.joins peer boot) v lawful all = push_others (joined peer boot (next_start v)) v.contacts all (none_of_it (contact_with peer v.contacts) lawful.1)
deed_others (CastDeed.leaves peer) v lawful all =
    let u = with_contacts v (without peer v.contacts) in
    subst AreWithOthers (sym (left_alike (without peer v.contacts) u).contacts) (without_others peer v.contacts all)
deed_others (CastDeed.states peer seen) v lawful all = stated_others v peer seen all seen.in_step
deed_others (CastDeed.bears bearer is_mended) v lawful all = all
deed_others (CastDeed.hears boot members by packet) v lawful all = changed_others packet.previous _ v.contacts (heard_keeps v.own boot members (carried packet by)) all
deed_others (CastDeed.sends pieces) v lawful all = subst AreWithOthers (sym (accepting_alike v pieces).contacts) all

deeds_others : (ds : List CastDeed) (v : Casting) → AreLawful ds v → AreWithOthers v.contacts → AreWithOthers (after_deeds ds v).contacts
deeds_others [] v lawful all = all
deeds_others (d ∷ ds) v lawful all = deeds_others ds (after_deed d v) lawful.1 (deed_others d v lawful.0 all)

-- ---- it is of its node

-- after a call
carried_node : (n n' : NodeState) (by : By) (call : EventNote) (p : Plan) (frames : List Outgoing) (answered : Answer) → IsOfItsNode n → IsOfNode n.own n.boot p.mended p.casting → CarriesOut n by call p n' frames answered → IsOfItsNode n'
carried_node n n' by call p frames answered was is h = unless p.refusal h
  where
    does : (d : Dispatch) → Does d n by call p n' frames answered → IsOfItsNode n'
    does (frames_alone given) done = subst IsOfItsNode (sym done.0) is
    does (to_peers told) done = subst IsOfItsNode (sym done.2) is
    does (on_its_way m) done = subst IsOfItsNode (sym done.2) is
    does (to_all m given) done = subst IsOfItsNode (sym done.1) is

    unless : (o : Option Answer) → DoesUnless o n by call p n' frames answered → IsOfItsNode n'
    unless (Some reason) done = subst IsOfItsNode (sym done.0) was
    unless None done = does p.dispatch done

plan_node : (n : NodeState) (call : EventNote) (chosen : Option Publication) → CanPerform call → IsOfItsNode n → IsOfNode n.own n.boot (plan_of n call chosen).mended (plan_of n call chosen).casting
plan_node n (note.Mend bearer) chosen can h = upkeep_of_node n (upkeep.Mend bearer) _ _ can h refl refl
plan_node n (note.Cut bearer) chosen can h = upkeep_of_node n (upkeep.Cut bearer) _ _ can h refl refl
plan_node n note.Tick chosen can h = upkeep_of_node n upkeep.Tick _ _ tt h refl refl
plan_node n (note.Multicast port kind lower upper importance body) chosen can h =
    let range : Span = record { kind = kind; lower = lower; upper = upper } in
    let m = multicast n.own port range importance body in
    deeds_of_node n.own n.boot n.mended (multicast_deeds (goes_out n range) n.own m) n.casting (leaves_all (goes_out n range) n.own m) h
plan_node n (note.SendName port kind instance importance body) None can h = h
plan_node n (note.SendName port kind instance importance body) (Some p) can h = h
plan_node n (note.Arrive bearer number) chosen can h = absurd can
plan_node n other chosen can h = h

performed_node : (n n' : NodeState) (by : By) (call : EventNote) (frames : List Outgoing) (answered : Answer) → CanPerform call → Performs n by call n' frames answered → IsOfItsNode n → IsOfItsNode n'
performed_node n n' by call frames answered can p h = carried_node n n' by call (plan_of n call p.chosen) frames answered h (plan_node n call p.chosen can h) p.carried

-- and after an arrival
heard_node : (n n' : NodeState) (by : By) (bearer number : ℕ) (bytes : List ℕ) (frames : List Outgoing) (answered : Arrival) (kind : FrameKind) → Arrives n n' by bearer number bytes frames answered → stop_of n bearer bytes ≡ None
    → kind_in bytes ≡ kind → IsOfItsNode n → IsOfItsNode n'
heard_node n n' by bearer number bytes frames answered Links a passes is h =
    let q = a.heard passes is in
    let deeds = heard_deeds q.peer q.packet q.out in
    let after : IsOfNode n.own n.boot n.mended (after_deeds deeds n.casting) = deeds_of_node n.own n.boot n.mended deeds n.casting (arrivals_bear q.peer q.out.course.changes (stated_in q.packet.header q.out.given)) h in
    subst IsOfItsNode (sym q.after) after
heard_node n n' by bearer number bytes frames answered Casts a passes is h =
    let q = a.cast passes is in
    let deeds = cast_deeds q.first q.second q.packet number in
    let after : IsOfNode n.own n.boot n.mended q.casting = subst (IsOfNode n.own n.boot n.mended) (sym q.casting_is) (deeds_of_node n.own n.boot n.mended deeds n.casting refl h) in
    subst IsOfItsNode (sym q.after) after
heard_node n n' by bearer number bytes frames answered Finds a passes is h =
    let d = a.discovered passes is in
    subst IsOfItsNode (sym d.after) (by_found (has_found n bearer d.peer) d.peer)
  where
    by_found : (found : Bool) (peer : ℕ) → IsOfItsNode (if found then n else found_node n peer bearer)
    by_found true peer = h
    by_found false peer = h

arrived_node : (n n' : NodeState) (by : By) (bearer number : ℕ) (bytes : List ℕ) (frames : List Outgoing) (answered : Arrival) → Arrives n n' by bearer number bytes frames answered → IsOfItsNode n → IsOfItsNode n'
arrived_node n n' by bearer number bytes frames answered a h = on (stop_of n bearer bytes) refl
  where
    on : (o : Option Why) → stop_of n bearer bytes ≡ o → IsOfItsNode n'
    on (Some reason) is = subst IsOfItsNode (sym (a.stopped reason is).0) h
    on None is = heard_node n n' by bearer number bytes frames answered (kind_in bytes) a is refl h

-- ---- an event

turn_keeps : (n n' : NodeState) (bytes : List ℕ) (s : NodeStep) (frames : List Outgoing) → NodeTurn n n' bytes s frames → IsOfItsNode n' → HasRightCast n → HasRightCast n'
turn_keeps n n' bytes s frames t node h = record {
  node = node;
  alone = subst KeepsNoneAlone (sym t.casting) (deeds_alone t.deeds n.casting t.lawful h.alone);
  others = subst (λ (v : Casting). AreWithOthers v.contacts) (sym t.casting) (deeds_others t.deeds n.casting t.lawful h.others);
  small = subst AreSmall (sym t.casting) (deeds_small t.deeds n.casting h.small);
}

-- a node that has just booted
new_cast : (n : NodeState) (own boot : ℕ) → IsFresh n own boot → HasRightCast n
new_cast n own boot h = record {
  node = record {
    own = ap (λ (v : Casting). v.own) h.casting ∙ sym h.own_is;
    boot = ap (λ (v : Casting). v.boot) h.casting ∙ sym h.boot_is;
    mended = ap (λ (v : Casting). v.mended) h.casting ∙ sym (ap (λ (m : Bool × Bool). m.0 ∷ m.1 ∷ []) h.cut);
  };
  alone = λ none. (ap (λ (v : Casting). v.sending.unacked) h.casting, ap (λ (v : Casting). v.sending.waiting) h.casting);
  others = subst (λ (v : Casting). AreWithOthers v.contacts) (sym h.casting) tt;
  small = subst AreSmall (sym h.casting) (All-nil HasSmallWindow);
}

does_cast : (members : List (Option MemberState)) (by : By) (event : WorldEvent) → CanHappenAt members event → Keeps HasRightCast by event
does_cast members by (Restart a) can bytes m m' frames answered h right = new_cast m'.node m.node.own (m.node.boot + 1) h.0.node
does_cast members by (Call a call) can bytes m m' frames answered h right =
    turn_keeps m.node m'.node [] _ frames (made_turn by call m m' frames answered h).turn (performed_node m.node m'.node by call frames answered can.1 h.performs right.node) right
does_cast members by (Arrive a bearer place) can bytes m m' frames answered h right =
    turn_keeps m.node m'.node bytes _ frames (met_turn by bearer place bytes m m' frames answered h).turn (arrived_node m.node m'.node by bearer (length m.arrivals) bytes frames h.arrived h.arrives right.node) right

pub becomes_cast : (old new : Stage) (by : By) (event : WorldEvent) (answered : Answer) (lost : Bool) → CanHappenAt old.members event → Becomes old by event new answered lost → HaveRightCasts old.members → HaveRightCasts new.members
becomes_cast old new by event answered lost can h all = becomes_each HasRightCast old new by event answered lost (does_cast old.members by event can) h all

pub start_cast : HaveRightCasts []
start_cast = none_each HasRightCast

pub joined_cast : (old new : List (Option MemberState)) (n first : ℕ) → JoinsAt old new n first → HaveRightCasts old → HaveRightCasts new
joined_cast old new n first j all = joined_each HasRightCast old new n first (λ fresh h. new_cast fresh (node_word n) first h) j all
