-- The work on one message is a run: it is put for a peer, or has its fate; and so is the work on what is delivered.
use Rattle.std.proofs.Common.{◌≡◌, ◌≢◌, ℕ, Bool, true, false, List, [], ◌∷◌, ◌++◌, Option, Some, None, filter, is_some, inl, inr, refl, sym, ap, ◌∙◌, subst, append-nil, map}
use Rattle.std.specs.Prelude.{◌==◌, ◌&&◌, if◌then◌else◌, slice_index_or, slice_set}
use Rattle.std.specs.List.{All}
use Rattle.std.proofs.lemmas.Bool.{cases_eq}
use Rattle.std.proofs.lemmas.List.{get_or-set_other}
use Rattle.std.proofs.lemmas.List.Elements.{All-append, All-cons, All-nil}
use Rattle.tipc_types.specs.declared.message_forms.Flow.{Flow}
use Rattle.tipc_types.specs.declared.message_forms.Flow.TheVariants.{Zero}
use Rattle.tipc_types.specs.Address.{node_word}
use Rattle.tipc_types.specs.declared.message_forms.Item.{Item}
use Rattle.tipc_types.specs.declared.message_forms.Message.{Message}
use Rattle.tipc_types.specs.declared.message_forms.Message.TheVariants.{Items, Payload}
use Rattle.tipc_types.specs.declared.services.Publication.{Publication}
use Rattle.tipc_outside.specs.declared.outgoing.Outgoing.{Outgoing}
use Rattle.tipc_journal.specs.declared.entries.Entry.{Entry}
use Rattle.tipc_journal.specs.declared.entries.Entry.TheVariants as entry
use Rattle.tipc_journal.specs.Dues.{comes_home}
use Rattle.tipc_journal.specs.Steps.{IsInside, is_inner}
use Rattle.tipc_name_dist.specs.Applying.{applied, learnt_entries, learnt_entry, misfit_entries}
use Rattle.tipc_pair.specs.Messages.{pieces_for}
use Rattle.tipc_pair.specs.PairTurns.{PutsAll}
use Rattle.tipc_pair.specs.PairTurns.PutsAll.{none_put, puts_one}
use Rattle.tipc_reassembly.specs.declared.opening.Opened.{Opened}
use Rattle.tipc_reassembly.specs.declared.opening.Opened.TheVariants.{Passed, Whole}
use Rattle.tipc_sockets.specs.declared.fates.Fate.{Fate}
use Rattle.tipc_sockets.specs.declared.fates.Fate.TheVariants.{Dropped, Queued, ReturnDropped, Returned}
use Rattle.tipc_sockets.specs.Telling.{fate_entry}
use Rattle.tipc_node.specs.declared.frames.Delivery.{Delivery}
use Rattle.tipc_node.specs.declared.neighbours.Neighbour.{Neighbour}
use Rattle.tipc_node.specs.Plans.{GoesItsWay}
use Rattle.tipc_node.specs.Messages.{IsSendable, bytes_of, message_in_flow}
use Rattle.tipc_node.specs.Nodes.{NodeState, accepted_entry, deliveries_of, delivered_by, entries_in, neighbour_of}
use Rattle.tipc_node.specs.Neighbours.{PutsThere}
use Rattle.tipc_node.specs.Turns.{IsOfMessages, IsOfNeighbour, IsPlaced, addr_of, is_accepted_for, is_cast_for, is_cast_from, is_change_of, is_delivered_from}
use Rattle.tipc_node.specs.Works.{Delivers, DeliversAll, DeliversTo, Follows, GoesBack, Puts, GivesFate, Work, addr_of_word, fate_of, fated, noted, with_items}
use Rattle.tipc_node.specs.Works.DeliversAll.{none_left, one_more}
use Rattle.tipc_pair.proofs.turns.Addressing.{AreFor}
use Rattle.tipc_node.proofs.turns.CastFrames.{links_uncast}
use Rattle.tipc_node.proofs.turns.Entries.{inside_both, other_word, routed_to}
use Rattle.tipc_node.proofs.journal.Telling.{same_word as own_word}
use Rattle.tipc_node.proofs.turns.Named.{put_named}
use Rattle.tipc_node.proofs.Places.{set_none, set_there}
use Rattle.tipc_node.proofs.turns.Runs.{IsRun, NowAt, RunAt, Runs, StandFor, both_parts, run_as, run_then, stand_set, still_at}
use Rattle.tipc_node.proofs.turns.Shares.{frames_to-other, frames_to-own}

-- ---- what is noted

-- Entries that tell of no link, of no contact, and of no message that is accepted. Of what is delivered they tell what those given do.
pub record AreQuiet (n : NodeState) (es given : List Entry) : Type 0 where
  pub changes : (b : ℕ) → filter (is_change_of b) es ≡ []
  pub accepted : (b : ℕ) → filter (is_accepted_for b) es ≡ []
  pub delivered : (b : ℕ) → filter (is_delivered_from b) es ≡ filter (is_delivered_from b) given
  pub heard : (b : ℕ) → filter (is_cast_from b) es ≡ filter (is_cast_from b) given
  pub uncast : (b : ℕ) → filter (is_cast_for b) es ≡ []
  pub inside : IsInside es
  pub placed : All (IsPlaced n) es

pub none_quiet : (n : NodeState) → AreQuiet n [] []
none_quiet n = record { changes = λ b. refl; accepted = λ b. refl; delivered = λ b. refl; heard = λ b. refl; uncast = λ b. refl; inside = refl; placed = All-nil (IsPlaced n) }

-- work in which such entries are noted, and no frame leaves
pub quiet_run : (n : NodeState) (w w' : Work) (es given : List Entry) → StandFor n w.neighbours → w'.neighbours ≡ w.neighbours → w'.inside ≡ w.inside ++ es → AreQuiet n es given → IsRun n w given [] w'
quiet_run n w w' es given stand same inside quiet = record {
  noted = es;
  runs = record {
    inside_is = inside;
    at = λ b x there. record {
      now = x;
      now_is = ap (λ xs. slice_index_or xs b None) same ∙ there;
      run = still_at n.own b es [] x refl (quiet.changes b) (quiet.accepted b);
    };
    alone = λ b none. ap (λ xs. slice_index_or xs b None) same ∙ none;
    delivered = quiet.delivered;
    heard = quiet.heard;
    uncast = quiet.uncast;
    inside = quiet.inside;
    placed = quiet.placed;
    routed = All-nil _;
    unsent = refl;
    stand = subst (StandFor n) (sym same) stand;
  };
}

pub idle_run : (n : NodeState) (w w' : Work) → StandFor n w.neighbours → w'.neighbours ≡ w.neighbours → w'.inside ≡ w.inside → IsRun n w [] [] w'
idle_run n w w' stand same inside = quiet_run n w w' [] [] stand same (inside ∙ sym (append-nil w.inside)) (none_quiet n)

-- ---- a message that is put

-- an entry in flow Zero is none of a broadcast
never_broadcast : (t : Bool) (e : Entry) → (if t && false then e ∷ [] else []) ≡ []
never_broadcast true e = refl
never_broadcast false e = refl

-- where it is put
own_put : (own peer : ℕ) (x y : Neighbour) (m : Message) (frames : List Outgoing) → PutsThere x (pieces_for (bytes_of own m)) y frames → IsSendable own m → AreFor (node_word peer) frames
    → RunAt own peer (accepted_entry Zero peer x.pair m ∷ []) frames x y
own_put own peer x y m frames put sendable all = record {
  messages = m ∷ [];
  sendable = All-cons (IsSendable own) m [] sendable (All-nil (IsSendable own));
  puts = subst (λ fs. PutsAll x.pair (bytes_of own m ∷ []) fs y.pair) (append-nil frames ∙ sym (frames_to-own peer frames all)) (puts_one x.pair y.pair y.pair (bytes_of own m) [] frames [] put.puts (none_put y.pair));
  changes = refl;
  accepted = (rw (own_word peer) refl);
  casts = put.casts;
}

-- and where another message isn't
other_put : (own b peer : ℕ) (x y : Neighbour) (m : Message) (frames : List Outgoing) → peer ≢ b → AreFor (node_word peer) frames → RunAt own b (accepted_entry Zero peer x.pair m ∷ []) frames y y
other_put own b peer x y m frames apart all =
    still_at own b (accepted_entry Zero peer x.pair m ∷ []) frames y (frames_to-other b peer frames apart all) refl (rw (other_word b peer apart) refl)

-- the run of it, in what is known of the neighbour
put_runs : (n : NodeState) (w w' : Work) (peer : ℕ) (x z : Neighbour) (m : Message) (frames : List Outgoing) → StandFor n w.neighbours → slice_index_or w.neighbours peer None ≡ Some x
    → PutsThere x (pieces_for (bytes_of n.own m)) z frames → IsSendable n.own m → w'.neighbours ≡ slice_set w.neighbours peer (Some z) → w'.inside ≡ w.inside ++ accepted_entry Zero peer x.pair m ∷ []
    → Runs n w (accepted_entry Zero peer x.pair m ∷ []) [] frames w'
put_runs n w w' peer x z m frames stand was put sendable after inside =
    let es = accepted_entry Zero peer x.pair m ∷ [] in
    let there = stand.within peer x was in
    let named = put_named (node_word peer) x.pair (pieces_for (bytes_of n.own m)) z.pair frames (stand.named peer x was) put.puts in
    let of : IsOfNeighbour n (addr_of peer) = (peer, there, refl) in record {
      inside_is = inside;
      at = λ b y is_there. elim (cases_eq b peer) [
        | inl here ↦
            let same : x ≡ y = (let both : Some x ≡ Some y = sym was ∙ subst (λ k. slice_index_or w.neighbours k None ≡ Some y) here is_there in cc) in
            subst (λ k. NowAt n.own k es frames y w'.neighbours) (sym here) (subst (λ u. NowAt n.own peer es frames u w'.neighbours) same (record {
              now = z;
              now_is = ap (λ xs. slice_index_or xs peer None) after ∙ set_there w.neighbours peer x z was;
              run = own_put n.own peer x z m frames put sendable named.frames_are;
            }))
        | inr other ↦ record {
          now = y;
          now_is = ap (λ xs. slice_index_or xs b None) after ∙ get_or-set_other w.neighbours peer b (Some z) None other ∙ is_there;
          run = other_put n.own b peer x y m frames (λ e. other (sym e)) named.frames_are;
        }
      ];
      alone = λ b none. ap (λ xs. slice_index_or xs b None) after ∙ set_none w.neighbours peer b x z was none;
      delivered = λ b. refl;
      heard = λ b. refl;
      uncast = λ b. never_broadcast (node_word peer == node_word b) (accepted_entry Zero peer x.pair m);
      inside = refl;
      placed = All-cons (IsPlaced n) (accepted_entry Zero peer x.pair m) [] (of, tt) (All-nil (IsPlaced n));
      routed = routed_to n peer frames there named.frames_are;
      unsent = links_uncast (node_word peer) frames named.frames_are;
      stand = subst (StandFor n) (sym after) (stand_set n w.neighbours peer z stand named.pair_is there);
    }

pub put_run : (n : NodeState) (w w' : Work) (peer : ℕ) (m : Message) (frames : List Outgoing) → StandFor n w.neighbours → Puts n.own w peer m w' frames → IsRun n w [] frames w'
put_run n w w' peer m frames stand h = record {
  noted = accepted_entry Zero peer h.neighbour.pair m ∷ [];
  runs = put_runs n w w' peer h.neighbour h.then m frames stand h.was h.puts h.sendable (ap (λ (v : Work). v.neighbours) h.after) (ap (λ (v : Work). v.inside) h.after);
}

-- ---- a fate

pub quiet_one : (n : NodeState) (e : Entry) → ((b : ℕ) → filter (is_change_of b) (e ∷ []) ≡ []) → ((b : ℕ) → filter (is_accepted_for b) (e ∷ []) ≡ []) → ((b : ℕ) → filter (is_delivered_from b) (e ∷ []) ≡ [])
    → ((b : ℕ) → filter (is_cast_from b) (e ∷ []) ≡ []) → ((b : ℕ) → filter (is_cast_for b) (e ∷ []) ≡ [])
    → is_inner e ≡ true → IsPlaced n e → AreQuiet n (e ∷ []) []
quiet_one n e changes accepted delivered heard uncast inner placed =
    record { changes = changes; accepted = accepted; delivered = delivered; heard = heard; uncast = uncast; inside = (rw inner refl); placed = All-cons (IsPlaced n) e [] placed (All-nil (IsPlaced n)) }

pub fate_quiet : (n : NodeState) (f : Fate) → AreQuiet n (fate_entry f ∷ []) []
fate_quiet n (Queued ports) = quiet_one n (entry.Queued ports) (λ b. refl) (λ b. refl) (λ b. refl) (λ b. refl) (λ b. refl) refl tt
fate_quiet n (Returned (Payload importance form from to kind lower upper code droppable body)) = quiet_one n (entry.Returned code) (λ b. refl) (λ b. refl) (λ b. refl) (λ b. refl) (λ b. refl) refl tt
fate_quiet n (Returned (Items withdrawal items)) = quiet_one n (entry.Dropped 0) (λ b. refl) (λ b. refl) (λ b. refl) (λ b. refl) (λ b. refl) refl tt
fate_quiet n (ReturnDropped waiting) = quiet_one n (entry.ReturnDropped waiting) (λ b. refl) (λ b. refl) (λ b. refl) (λ b. refl) (λ b. refl) refl tt
fate_quiet n Dropped = quiet_one n (entry.Dropped 0) (λ b. refl) (λ b. refl) (λ b. refl) (λ b. refl) (λ b. refl) refl tt

fated_run : (n : NodeState) (w : Work) (m : Message) (f : Fate) → StandFor n w.neighbours → IsRun n w [] [] (fated w m f)
fated_run n w m f stand = quiet_run n w (fated w m f) (fate_entry f ∷ []) [] stand refl refl (fate_quiet n f)

goes_back_run : (n : NodeState) (w w' : Work) (m : Message) (frames : List Outgoing) → StandFor n w.neighbours → GoesBack n.own w m w' frames → IsRun n w [] frames w'
goes_back_run n w w' m frames stand h = by (comes_home (addr_of_word n.own) m) refl
  where
    by : (home : Bool) → comes_home (addr_of_word n.own) m ≡ home → IsRun n w [] frames w'
    by true is = let r = h.home is in run_as n w (fated w m (fate_of w false m)) w' [] frames [] r.0 r.1 (fated_run n w m (fate_of w false m) stand)
    by false is = put_run n w w' _ m frames stand (h.away is)

follows_run : (n : NodeState) (w w' : Work) (m : Message) (f : Fate) (frames : List Outgoing) → StandFor n w.neighbours → Follows n.own w m f w' frames → IsRun n w [] frames w'
follows_run n w w' m (Returned back) frames stand h =
    let first = fated_run n w m (Returned back) stand in
    run_then n w (fated w m (Returned back)) w' [] [] [] frames first (goes_back_run n (fated w m (Returned back)) w' back frames first.runs.stand h)
follows_run n w w' m (Queued ports) frames stand h = run_as n w (fated w m (Queued ports)) w' [] frames [] h.0 h.1 (fated_run n w m (Queued ports) stand)
follows_run n w w' m (ReturnDropped waiting) frames stand h = run_as n w (fated w m (ReturnDropped waiting)) w' [] frames [] h.0 h.1 (fated_run n w m (ReturnDropped waiting) stand)
follows_run n w w' m Dropped frames stand h = run_as n w (fated w m Dropped) w' [] frames [] h.0 h.1 (fated_run n w m Dropped stand)

settles_run : (n : NodeState) (w w' : Work) (arrived : Bool) (m : Message) (frames : List Outgoing) → StandFor n w.neighbours → GivesFate n.own w arrived m w' frames → IsRun n w [] frames w'
settles_run n w w' arrived m frames stand h = follows_run n w w' m (fate_of w arrived m) frames stand h

pub goes_run : (n : NodeState) (w w' : Work) (m : Message) (frames : List Outgoing) → StandFor n w.neighbours → GoesItsWay n.own w m w' frames → IsRun n w [] frames w'
goes_run n w w' m frames stand h = by (comes_home (addr_of_word n.own) m) refl
  where
    by : (home : Bool) → comes_home (addr_of_word n.own) m ≡ home → IsRun n w [] frames w'
    by true is = settles_run n w w' false m frames stand (h.home is)
    by false is = put_run n w w' _ m frames stand (h.away is)

-- ---- items that are applied

both_quiet : (n : NodeState) (xs ys : List Entry) → AreQuiet n xs [] → AreQuiet n ys [] → AreQuiet n (xs ++ ys) []
both_quiet n xs ys first later = record {
  changes = λ b. both_parts (is_change_of b) xs ys [] [] (first.changes b) (later.changes b);
  accepted = λ b. both_parts (is_accepted_for b) xs ys [] [] (first.accepted b) (later.accepted b);
  delivered = λ b. both_parts (is_delivered_from b) xs ys [] [] (first.delivered b) (later.delivered b);
  heard = λ b. both_parts (is_cast_from b) xs ys [] [] (first.heard b) (later.heard b);
  uncast = λ b. both_parts (is_cast_for b) xs ys [] [] (first.uncast b) (later.uncast b);
  inside = inside_both xs ys first.inside later.inside;
  placed = All-append (IsPlaced n) xs ys first.placed later.placed;
}

one_quiet : (n : NodeState) (withdrawal : Bool) (items : List Item) (p : Publication) → AreQuiet n (learnt_entry (Items withdrawal items) p ∷ []) []
one_quiet n false items p = quiet_one n (entry.Learned p) (λ b. refl) (λ b. refl) (λ b. refl) (λ b. refl) (λ b. refl) refl tt
one_quiet n true items p = quiet_one n (entry.Forgot p) (λ b. refl) (λ b. refl) (λ b. refl) (λ b. refl) (λ b. refl) refl tt

learnt_quiet : (n : NodeState) (withdrawal : Bool) (items : List Item) (ps : List Publication) → AreQuiet n (map (learnt_entry (Items withdrawal items)) ps) []
learnt_quiet n withdrawal items [] = none_quiet n
learnt_quiet n withdrawal items (p ∷ ps) =
    both_quiet n (learnt_entry (Items withdrawal items) p ∷ []) (map (learnt_entry (Items withdrawal items)) ps) (one_quiet n withdrawal items p) (learnt_quiet n withdrawal items ps)

misfit_quiet : (n : NodeState) (bad : Option ℕ) → AreQuiet n (misfit_entries bad) []
misfit_quiet n None = none_quiet n
misfit_quiet n (Some place) = quiet_one n (entry.Dropped place) (λ b. refl) (λ b. refl) (λ b. refl) (λ b. refl) (λ b. refl) refl tt

with_items_run : (n : NodeState) (peer : ℕ) (w : Work) (withdrawal : Bool) (items : List Item) → StandFor n w.neighbours → IsRun n w [] [] (with_items peer w (Items withdrawal items))
with_items_run n peer w withdrawal items stand =
    let m = Items withdrawal items in
    let a = applied (node_word peer) w.sockets.names m in
    quiet_run n w (with_items peer w m) (learnt_entries (node_word peer) w.sockets.names m) [] stand refl refl
    (both_quiet n (map (learnt_entry m) a.publications) (misfit_entries a.bad) (learnt_quiet n withdrawal items a.publications) (misfit_quiet n a.bad))

-- ---- what is delivered

abbrev AllQuiet : NodeState → List Delivery → Type 0
AllQuiet n [] = Unit {0}
AllQuiet n (d ∷ ds) = AreQuiet n (d.entry ∷ []) (d.entry ∷ []) × AllQuiet n ds

-- one that tells of no delivery
not_given : (n : NodeState) (e : Entry) → AreQuiet n (e ∷ []) [] → AreQuiet n (e ∷ []) (e ∷ [])
not_given n e quiet = record { changes = quiet.changes; accepted = quiet.accepted; delivered = λ b. refl; heard = λ b. refl; uncast = quiet.uncast; inside = quiet.inside; placed = quiet.placed }

one_given : (n : NodeState) (flow : Flow) (peer : ℕ) (contact : ℕ × ℕ) (o : Option Message) (by : List ℕ) → IsOfMessages flow → is_some (neighbour_of n peer) ≡ true
    → AreQuiet n (delivered_by flow peer contact o by ∷ []) (delivered_by flow peer contact o by ∷ [])
one_given n flow peer contact None by one there = not_given n (entry.Dropped 0) (quiet_one n (entry.Dropped 0) (λ b. refl) (λ b. refl) (λ b. refl) (λ b. refl) (λ b. refl) refl tt)
one_given n flow peer contact (Some m) by one there =
    let of : IsOfNeighbour n (addr_of peer) = (peer, there, refl) in record {
      changes = λ b. refl;
      accepted = λ b. refl;
      delivered = λ b. refl;
      heard = λ b. refl;
      uncast = λ b. refl;
      inside = refl;
      placed = All-cons (IsPlaced n) (delivered_by flow peer contact (Some m) by) [] (of, one) (All-nil (IsPlaced n));
    }

all_given : (n : NodeState) (flow : Flow) (peer : ℕ) (contact : ℕ × ℕ) (opened : List Opened) → IsOfMessages flow → is_some (neighbour_of n peer) ≡ true → AllQuiet n (deliveries_of flow peer contact opened)
all_given n flow peer contact [] one there = tt
all_given n flow peer contact (Passed place ∷ opened) one there =
    (not_given n (entry.Dropped place) (quiet_one n (entry.Dropped place) (λ b. refl) (λ b. refl) (λ b. refl) (λ b. refl) (λ b. refl) refl tt), all_given n flow peer contact opened one there)
all_given n flow peer contact (Whole packet by ∷ opened) one there = (one_given n flow peer contact (message_in_flow flow packet) by one there, all_given n flow peer contact opened one there)

delivers_to_run : (n : NodeState) (peer : ℕ) (w w' : Work) (o : Option Message) (frames : List Outgoing) → StandFor n w.neighbours → DeliversTo n.own peer w o w' frames → IsRun n w [] frames w'
delivers_to_run n peer w w' None frames stand h = run_as n w w w' [] frames [] h.0 h.1 (idle_run n w w stand refl refl)
delivers_to_run n peer w w' (Some (Items withdrawal items)) frames stand h =
    run_as n w (with_items peer w (Items withdrawal items)) w' [] frames [] h.0 h.1 (with_items_run n peer w withdrawal items stand)
delivers_to_run n peer w w' (Some (Payload importance form from to kind lower upper code droppable body)) frames stand h =
    settles_run n w w' true (Payload importance form from to kind lower upper code droppable body) frames stand h

delivers_run : (n : NodeState) (peer : ℕ) (w w' : Work) (d : Delivery) (frames : List Outgoing) → StandFor n w.neighbours → AreQuiet n (d.entry ∷ []) (d.entry ∷ []) → Delivers n.own peer w d w' frames
    → IsRun n w (d.entry ∷ []) frames w'
delivers_run n peer w w' d frames stand quiet h =
    let v = noted w (d.entry ∷ []) in
    let first = quiet_run n w v (d.entry ∷ []) (d.entry ∷ []) stand refl refl quiet in
    run_then n w v w' (d.entry ∷ []) [] [] frames first (delivers_to_run n peer v w' d.message frames first.runs.stand h)

quiet_all_run : (n : NodeState) (peer : ℕ) (w w' : Work) (ds : List Delivery) (frames : List Outgoing) → StandFor n w.neighbours → AllQuiet n ds → DeliversAll n.own peer w ds w' frames → IsRun n w (entries_in ds) frames w'
quiet_all_run n peer w _ _ _ stand quiet (none_left _) = idle_run n w w stand refl refl
quiet_all_run n peer w w' _ _ stand quiet (one_more _ v _ d ds fs fs' one all) =
    let first = delivers_run n peer w v d fs stand quiet.0 one in
    run_then n w v w' (d.entry ∷ []) (entries_in ds) fs fs' first (quiet_all_run n peer v w' ds fs' first.runs.stand quiet.1 all)

pub delivers_all_run : (n : NodeState) (w w' : Work) (flow : Flow) (peer : ℕ) (contact : ℕ × ℕ) (opened : List Opened) (frames : List Outgoing) → IsOfMessages flow → is_some (neighbour_of n peer) ≡ true → StandFor n w.neighbours
    → DeliversAll n.own peer w (deliveries_of flow peer contact opened) w' frames → IsRun n w (entries_in (deliveries_of flow peer contact opened)) frames w'
delivers_all_run n w w' flow peer contact opened frames one there stand h =
    quiet_all_run n peer w w' (deliveries_of flow peer contact opened) frames stand (all_given n flow peer contact opened one there) h
