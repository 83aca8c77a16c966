-- Each event of a node leaves the pairs between which and their peers nothing goes down so, and sends under the present epoch.
use Rattle.std.specs.Prelude.{All, ◌==◌}
use Rattle.std.proofs.Common.{◌≡◌, ◌≤◌, ◌∙◌, ℕ, Bool, true, false, List, [], ◌∷◌, ◌++◌, append-nil, cond, filter, length, map, refl, sym, ap, subst, arith}
use Rattle.std.proofs.lemmas.Bool.{true≢false}
use Rattle.std.proofs.lemmas.Bool.Decides.{nat_tests}
use Rattle.std.proofs.lemmas.List.Elements.{All-head, All-tail, filter-append}
use Rattle.std.proofs.lemmas.List.Sums.{length-filter}
use Rattle.tipc_types.specs.Address.{node_word}
use Rattle.tipc_types.specs.declared.identity.Addr.{Addr}
use Rattle.tipc_types.specs.declared.node_calls.EventNote.{EventNote}
use Rattle.tipc_types.specs.declared.node_calls.EventNote.TheVariants as event
use Rattle.tipc_outside.specs.declared.outgoing.Outgoing.{Outgoing}
use Rattle.tipc_header.specs.Frames.{is_of_link}
use Rattle.tipc_journal.specs.declared.entries.Entry.{Entry}
use Rattle.tipc_journal.specs.declared.entries.Entry.TheVariants as entry
use Rattle.tipc_journal.specs.Steps.{step_entries}
use Rattle.tipc_pair.specs.Facing.{PairEnds}
use Rattle.tipc_pair.specs.PairTurns.{MakesNew, Opening, PairTurn, Suits}
use Rattle.tipc_pair.specs.PairTurns.Opening.{cuts, hears, makes, mends, rests, ticks}
use Rattle.tipc_paired.specs.Views.{es_of}
use Rattle.tipc_node.specs.Messages.{bytes_of}
use Rattle.tipc_node.specs.Nodes.{NodeState, change_entries, is_change, pair_with}
use Rattle.tipc_node.specs.Turns.{IsBrought, IsPlaced, addr_of, is_change_of}
use Rattle.tipc_node.proofs.pairs.Strangers.{kept_abreast}
use Rattle.tipc_settling.specs.Events.{ComesToUpAt, EventsAddSilence, EventsAreCalm, EventsSendUnderPresent, EventsStayStill, EventsTellNothing, silence_of_event}
use Rattle.tipc_settling.specs.Laws.{ComesToUp}
use Rattle.tipc_settling.specs.Silence.{silence_by}
use Rattle.tipc_settling.specs.Stillness.{Footing, IsStill, MayCome, MayComeTo}
use Rattle.tipc_settling.proofs.Sending.{sends_under_present}
use Rattle.tipc_settling.proofs.Silence.{silence_grows}
use Rattle.tipc_settling.proofs.Told.{turns_tell_nothing}
use Rattle.tipc_settling.proofs.Turns.{turns_still}

-- what may come to the node may happen at its pair
pub may_come : (peer : Footing) (b : ℕ) (x : PairEnds) (note : EventNote) (bytes : List ℕ) (opening : Opening) → MayComeTo peer b x note bytes → Suits note opening → IsBrought b bytes opening → MayCome peer x opening
may_come peer b x note bytes rests may suits brought = tt
may_come peer b x note bytes (makes bearer is_mended) may suits brought = tt
may_come peer b x note bytes (mends bearer) may suits brought = tt
may_come peer b x note bytes (cuts bearer) may suits brought = subst (λ (e : EventNote). MayComeTo peer b x e bytes) suits may
may_come peer b x note bytes (ticks shown) may suits brought = subst (λ (e : EventNote). MayComeTo peer b x e bytes) suits may
may_come peer b x note bytes (hears bearer es er p by shown) may suits brought =
    let here : MayComeTo peer b x (event.Arrive bearer by) bytes = subst (λ (e : EventNote). MayComeTo peer b x e bytes) suits may in here es er p brought.0 brought.1

pub events_still : EventsStayStill
events_still own peer n n' bytes s frames b told turn may h =
    let at = turn.turns b in
    let first = (kept_abreast n b told).first in
    turns_still own peer (pair_with n b) (pair_with n' b) at.opening (map (bytes_of n.own) at.messages) at.reply at.own_frames first at.on_one at.anew
    (may_come peer b (pair_with n b) s.event bytes at.opening may at.suits at.brought) at.turn h

-- what comes to a link that was up is heard there
come_up : (own : Footing) (b : ℕ) (note : EventNote) (bytes : List ℕ) (opening : Opening) → ComesToUpAt own b note bytes → Suits note opening → IsBrought b bytes opening → ComesToUp own opening
come_up own b note bytes rests up suits brought = tt
come_up own b note bytes (makes bearer is_mended) up suits brought = tt
come_up own b note bytes (mends bearer) up suits brought = tt
come_up own b note bytes (cuts bearer) up suits brought = tt
come_up own b note bytes (ticks shown) up suits brought = tt
come_up own b note bytes (hears bearer es er p by shown) up suits brought =
    let here : ComesToUpAt own b (event.Arrive bearer by) bytes = subst (λ (e : EventNote). ComesToUpAt own b e bytes) suits up in here es er p brought.0 brought.1

pub events_tell_nothing : EventsTellNothing
events_tell_nothing own peer n n' bytes s frames b told turn may up h =
    let at = turn.turns b in
    let first = (kept_abreast n b told).first in
    at.changes
    ∙ ap (change_entries b) (turns_tell_nothing own peer (pair_with n b) (pair_with n' b) at.opening (map (bytes_of n.own) at.messages) at.reply at.own_frames first at.on_one at.anew
    (may_come peer b (pair_with n b) s.event bytes at.opening may at.suits at.brought) (come_up own b s.event bytes at.opening up at.suits at.brought) at.turn h)

-- ---- nothing is told of any link

split_none : {A : Type 0} (t : Bool) (x : A) (xs : List A) → cond t (x ∷ xs) xs ≡ [] → (t ≡ false) × (xs ≡ [])
split_none true x xs is = absurd (let wrong : ⊥ = cc in wrong)
split_none false x xs is = (refl, is)

told_of : (peer : Addr) (b : ℕ) → peer ≡ addr_of b → (peer.word == node_word b) ≡ false → ⊥
told_of peer b is none = (let same : (node_word b == node_word b) ≡ true = grind (arith, nat_tests) in true≢false (sym same ∙ (ap (λ (a : Addr). a.word == node_word b) (sym is) ∙ none)))

-- an entry that tells of no node's links tells of none
quiet_entry : (n : NodeState) (e : Entry) → IsPlaced n e → ((b : ℕ) → is_change_of b e ≡ false) → is_change e ≡ false
quiet_entry n (entry.LinkUp peer bearer own theirs) placed none = absurd (told_of peer placed.0 placed.2 (none placed.0))
quiet_entry n (entry.LinkDown peer bearer because shown) placed none = absurd (told_of peer placed.0 placed.2 (none placed.0))
quiet_entry n (entry.ContactUp peer numbers) placed none = absurd (told_of peer placed.0 placed.2 (none placed.0))
quiet_entry n (entry.ContactDown peer numbers states shown) placed none = absurd (told_of peer placed.0 placed.2 (none placed.0))
quiet_entry n other placed none = refl

none_told : (n : NodeState) (es : List Entry) → All (IsPlaced n) es → ((b : ℕ) → filter (is_change_of b) es ≡ []) → filter is_change es ≡ []
none_told n [] placed none = refl
none_told n (e ∷ es) placed none =
    let parts : (b : ℕ) → (is_change_of b e ≡ false) × (filter (is_change_of b) es ≡ []) = λ b. split_none (is_change_of b e) e (filter (is_change_of b) es) (none b) in
    ap (λ t. cond t (e ∷ filter is_change es) (filter is_change es)) (quiet_entry n e (All-head (IsPlaced n) e es placed) (λ b. (parts b).0))
    ∙ none_told n es (All-tail (IsPlaced n) e es placed) (λ b. (parts b).1)

pub events_are_calm : EventsAreCalm
events_are_calm own peer n n' bytes s frames told turn still may up =
    let none = none_told n s.inside turn.placed (λ b. events_tell_nothing (own b) (peer b) n n' bytes s frames b told turn (may b) (up b) (still b)) in
    let last = entry.Answered s.caller s.call s.answer in
    let inner : filter is_change (step_entries s) ≡ [] = filter-append is_change s.inside (last ∷ []) ∙ ap (λ (es : List Entry). es ++ filter is_change (last ∷ [])) none in
    let kept : filter is_change n'.journal ≡ filter is_change n.journal =
    ap (filter is_change) turn.journal ∙ filter-append is_change n.journal (step_entries s) ∙ ap (λ (es : List Entry). filter is_change n.journal ++ es) inner ∙ append-nil (filter is_change n.journal) in
    sym (length-filter is_change n'.journal) ∙ ap (λ (es : List Entry). length es) kept ∙ length-filter is_change n.journal

pub events_send_under_present : EventsSendUnderPresent
events_send_under_present v w own peer n n' bytes s frames b told turn seen same may h =
    let at = turn.turns b in
    let back = sym same in
    let messages = map (bytes_of n.own) at.messages in
    subst (All (λ (o : Outgoing). is_of_link o.frame ≡ true → es_of o.frame ≡ own.epoch o.bearer)) (sym at.frames_are)
    (sends_under_present v w own peer at.opening messages at.reply (pair_with n' b) at.own_frames seen (subst (IsStill own peer) back h) at.on_one (subst (λ (x : PairEnds). MakesNew x at.opening) back at.anew)
    (subst (λ (x : PairEnds). MayCome peer x at.opening) back (may_come peer b (pair_with n b) s.event bytes at.opening may at.suits at.brought))
    (subst (λ (x : PairEnds). PairTurn x at.opening messages at.reply (pair_with n' b) at.own_frames) back at.turn))

-- a tick passes at a pair only where it passes at the node
few_ticks : (note : EventNote) (opening : Opening) → Suits note opening → silence_by opening ≤ silence_of_event note
few_ticks note (ticks shown) suits = (let same : silence_of_event note ≡ 1 = ap silence_of_event suits in omega (arith, same))
few_ticks note rests suits = omega arith
few_ticks note (makes bearer is_mended) suits = omega arith
few_ticks note (mends bearer) suits = omega arith
few_ticks note (cuts bearer) suits = omega arith
few_ticks note (hears bearer es er p by shown) suits = omega arith

pub events_add_silence : EventsAddSilence
events_add_silence n n' bytes s frames b bearer told turn =
    let at = turn.turns b in
    let first = (kept_abreast n b told).first in
    let grows = silence_grows (pair_with n b) (pair_with n' b) at.opening (map (bytes_of n.own) at.messages) at.reply at.own_frames bearer first at.on_one at.turn in
    let few = few_ticks s.event at.opening at.suits in
    omega (arith, grows, few)
