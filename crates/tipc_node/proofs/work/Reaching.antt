-- An arrival at a node, as its link or its sender has it.
use Rattle.std.proofs.Common.{◌≡◌, ◌<◌, ◌^◌, ℕ, true, List, [], Option, Some, None, Result, Ok, Err, is_some, refl, sym, ap, ◌∙◌, subst}
use Rattle.std.specs.Prelude.{IfOk, slice_index_or}
use Rattle.std.proofs.lemmas.Result.{IfOk-weaker}
use Rattle.tipc_types.specs.declared.link_words.Why.{Why}
use Rattle.tipc_types.specs.declared.node_calls.Arrival.{Arrival}
use Rattle.tipc_types.specs.declared.node_calls.Arrival.TheVariants as arrival
use Rattle.tipc_types.specs.declared.node_calls.By.{By}
use Rattle.tipc_outside.specs.declared.outgoing.Outgoing.{Outgoing}
use Rattle.tipc_outside.specs.Frames.{Adds, Out}
use Rattle.tipc_outside.proofs.Adding.{adds_none}
use Rattle.tipc_header.specs.declared.frames.FrameKind.TheVariants.{Casts, Finds, Links}
use Rattle.tipc_header.specs.Frames.{kind_in}
use Rattle.tipc_header.specs.Spelling.{view}
use Rattle.tipc_node.specs.declared.frames.Due.{Due}
use Rattle.tipc_node.specs.Arrivals.{Arrives, BringsDiscovery, Discovers, Hears, IsDue}
use Rattle.tipc_node.specs.CastArrivals.{BringsCast, HearsCast}
use Rattle.tipc_node.specs.CastHearings.{CastsDue, IsCastDue}
use Rattle.tipc_node.specs.Hearings.{FindsAt, FindsDue, HearsDue, IsDueAt, IsLooked}
use Rattle.tipc_node.specs.declared.neighbours.Neighbour.{Neighbour}
use Rattle.tipc_node.specs.Nodes.{NodeState, end_with, is_other, neighbour_of, stop_by_kind, stop_of, stopped_node}
use Rattle.tipc_journal.specs.Room.{has_journal_room}
use Rattle.tipc_types.specs.Address.{node_word}
use Rattle.tipc_node.proofs.work.Senders.{passes_cast, passes_discovery, passes_link}

-- a frame arrived, and these frames left
abbrev pub IsMet : NodeState → By → ℕ → ℕ → List ℕ → NodeState → Out → Out → Arrival → Type 0
IsMet n by bearer number bytes n' box box' answered = (frames : List Outgoing) × Arrives n n' by bearer number bytes frames answered × Adds box box' frames

pub stopped_met : {E : Type 0} (n n' : NodeState) (by : By) (bearer number : ℕ) (bytes : List ℕ) (box : Out) (why : Why) (r : Result Arrival E) → stop_of n bearer bytes ≡ Some why
    → IfOk r (λ a. (a ≡ arrival.Ignored why) × (n' ≡ stopped_node n by bearer number why) × (has_journal_room n.journal ≡ true)) → IfOk r (IsMet n by bearer number bytes n' box box)
stopped_met n n' by bearer number bytes box why r stopped ok =
    IfOk-weaker r (λ a. (a ≡ arrival.Ignored why) × (n' ≡ stopped_node n by bearer number why) × (has_journal_room n.journal ≡ true)) (IsMet n by bearer number bytes n' box box) met ok
  where
    met : (a : Arrival) → (a ≡ arrival.Ignored why) × (n' ≡ stopped_node n by bearer number why) × (has_journal_room n.journal ≡ true) → IsMet n by bearer number bytes n' box box a
    met a h = (
      [],
      record {
        stopped = λ reason is. (let same : why ≡ reason = (let both : Some why ≡ Some reason = sym stopped ∙ is in cc) in (h.1 ∙ ap (stopped_node n by bearer number) same, refl, h.0 ∙ ap arrival.Ignored same));
        heard = λ none link. absurd (let wrong : Some why ≡ None = sym stopped ∙ none in cc);
        discovered = λ none finds. absurd (let wrong : Some why ≡ None = sym stopped ∙ none in cc);
        cast = λ none casts. absurd (let wrong : Some why ≡ None = sym stopped ∙ none in cc);
      },
      adds_none box,
    )

pub heard_met : {E : Type 0} (n n' : NodeState) (by : By) (bearer number : ℕ) (bytes : List ℕ) (d : Due) (box box' : Out) (r : Result Arrival E) → stop_of n bearer bytes ≡ None → kind_in bytes ≡ Links → d.bearer ≡ bearer
    → IsDue n bytes d.bearer d.peer d.first d.second (view d.packet) → IfOk r (HearsDue n n' by number d box box') → IfOk r (IsMet n by bearer number bytes n' box box')
heard_met n n' by bearer number bytes d box box' r clear link on due ok = IfOk-weaker r (HearsDue n n' by number d box box') (IsMet n by bearer number bytes n' box box') met ok
  where
    met : (a : Arrival) → HearsDue n n' by number d box box' a → IsMet n by bearer number bytes n' box box' a
    met a hears = let h = hears bytes due in (
      h.0,
      record {
        stopped = λ reason is. absurd (let wrong : None ≡ Some reason = sym clear ∙ is in cc);
        heard = λ _ _. subst (λ b. Hears n n' by b number bytes h.0 a) on h.1;
        discovered = λ _ finds. absurd (let wrong : Links ≡ Finds = sym link ∙ finds in cc);
        cast = λ _ casts. absurd (let wrong : Links ≡ Casts = sym link ∙ casts in cc);
      },
      h.2,
    )

-- a discovery packet
pub found_met : {E : Type 0} (n n' : NodeState) (by : By) (bearer number : ℕ) (bytes : List ℕ) (d : Due) (box box' : Out) (r : Result Arrival E) → stop_of n bearer bytes ≡ None → kind_in bytes ≡ Finds → d.bearer ≡ bearer
    → BringsDiscovery n bytes d.bearer d.peer d.first d.second (view d.packet) → IfOk r (FindsDue n n' by number d box box') → IfOk r (IsMet n by bearer number bytes n' box box')
found_met n n' by bearer number bytes d box box' r clear finds on brings ok = IfOk-weaker r (FindsDue n n' by number d box box') (IsMet n by bearer number bytes n' box box') met ok
  where
    met : (a : Arrival) → FindsDue n n' by number d box box' a → IsMet n by bearer number bytes n' box box' a
    met a found = let h = found bytes brings in (
      h.0,
      record {
        stopped = λ reason is. absurd (let wrong : None ≡ Some reason = sym clear ∙ is in cc);
        heard = λ _ link. absurd (let wrong : Finds ≡ Links = sym finds ∙ link in cc);
        discovered = λ _ _. subst (λ b. Discovers n n' by b number bytes h.0 a) on h.1;
        cast = λ _ casts. absurd (let wrong : Finds ≡ Casts = sym finds ∙ casts in cc);
      },
      h.2,
    )

-- a broadcast packet
pub cast_met : {E : Type 0} (n n' : NodeState) (by : By) (bearer number : ℕ) (bytes : List ℕ) (d : Due) (box box' : Out) (r : Result Arrival E) → stop_of n bearer bytes ≡ None → kind_in bytes ≡ Casts → d.bearer ≡ bearer
    → BringsCast n bytes d.bearer d.peer d.first d.second (view d.packet) → IfOk r (CastsDue n n' by number d box box') → IfOk r (IsMet n by bearer number bytes n' box box')
cast_met n n' by bearer number bytes d box box' r clear casts on brings ok = IfOk-weaker r (CastsDue n n' by number d box box') (IsMet n by bearer number bytes n' box box') met ok
  where
    met : (a : Arrival) → CastsDue n n' by number d box box' a → IsMet n by bearer number bytes n' box box' a
    met a heard = let h = heard bytes brings in (
      h.0,
      record {
        stopped = λ reason is. absurd (let wrong : None ≡ Some reason = sym clear ∙ is in cc);
        heard = λ _ link. absurd (let wrong : Casts ≡ Links = sym casts ∙ link in cc);
        discovered = λ _ finds. absurd (let wrong : Casts ≡ Finds = sym casts ∙ finds in cc);
        cast = λ _ _. subst (λ b. HearsCast n n' by b number bytes h.0 a) on h.1;
      },
      h.2,
    )

-- ---- what is asked of the calls

pub cast_at : (n : NodeState) (bytes : List ℕ) (d : Due) → BringsCast n bytes d.bearer d.peer d.first d.second (view d.packet) → IsCastDue (neighbour_of n d.peer) d
cast_at n bytes d brings = (brings.range.0, brings.range.1, brings.on_one, brings.from.fits, brings.from.previous, brings.boot, brings.there)

pub due_at : (n : NodeState) (bytes : List ℕ) (d : Due) → IsDue n bytes d.bearer d.peer d.first d.second (view d.packet) → IsDueAt n d
due_at n bytes d due = (due.range.0, due.range.1, due.on_one, due.fits, due.there)

pub finds_at : (n : NodeState) (bytes : List ℕ) (d : Due) → BringsDiscovery n bytes d.bearer d.peer d.first d.second (view d.packet) → FindsAt n d
finds_at n bytes d brings = (brings.range.0, brings.range.1, brings.on_one, brings.from.previous, brings.other, brings.network)

-- ---- what a look at the frame tells

-- by its kind and header nothing stops the packet at these neighbours
abbrev Passes : List (Option Neighbour) → Due → Type 0
Passes xs d = stop_by_kind d.kind d.packet.header d.bearer (slice_index_or xs d.peer None) ≡ None

-- a link packet is due
pub looked_due : (n m : NodeState) (bytes : List ℕ) (xs : List (Option Neighbour)) (r : Result Due Why) → m ≡ n → xs ≡ m.neighbours → IfOk r (IsLooked m.own bytes) → IfOk r (λ d. kind_in bytes ≡ d.kind) → IfOk r (Passes xs)
    → IfOk r (λ d. d.kind ≡ Links → IsDue n bytes d.bearer d.peer d.first d.second (view d.packet))
looked_due n m bytes xs (Err why) same read looked kind passes = tt
looked_due n m bytes xs (Ok d) same read looked kind passes = λ link. record {
  range = (looked.0, looked.1);
  on_one = looked.2;
  first_fits = looked.3.es_fits;
  second_fits = looked.3.er_fits;
  fits = looked.3.fits;
  opened = looked.3.frame_is;
  previous = looked.3.previous;
  kind = kind ∙ link;
  there = ap (λ (k : NodeState). is_some (end_with d.bearer (neighbour_of k d.peer))) (sym same) ∙ ap (λ zs. is_some (end_with d.bearer (slice_index_or zs d.peer None))) (sym read) ∙ passes_link d.kind d.packet.header d.bearer (slice_index_or xs d.peer None) passes link;
}

-- and a discovery packet is of the network
pub looked_finds : (n m : NodeState) (bytes : List ℕ) (xs : List (Option Neighbour)) (r : Result Due Why) → m ≡ n → IfOk r (IsLooked m.own bytes) → IfOk r (λ d. kind_in bytes ≡ d.kind) → IfOk r (Passes xs)
    → IfOk r (λ d. d.kind ≡ Finds → BringsDiscovery n bytes d.bearer d.peer d.first d.second (view d.packet))
looked_finds n m bytes xs (Err why) same looked kind passes = tt
looked_finds n m bytes xs (Ok d) same looked kind passes = λ finds. record {
  range = (looked.0, looked.1);
  on_one = looked.2;
  from = looked.3;
  kind = kind ∙ finds;
  other = ap (λ (k : NodeState). is_other k.own (node_word d.peer)) (sym same) ∙ ap (is_other m.own) (sym looked.3.previous) ∙ looked.4;
  network = passes_discovery d.kind d.packet.header d.bearer (slice_index_or xs d.peer None) passes finds;
}

-- and a broadcast packet is of a peer that is known
pub looked_casts : (n m : NodeState) (bytes : List ℕ) (xs : List (Option Neighbour)) (r : Result Due Why) → m ≡ n → xs ≡ m.neighbours → IfOk r (IsLooked m.own bytes) → IfOk r (λ d. kind_in bytes ≡ d.kind) → IfOk r (Passes xs)
    → IfOk r (λ d. d.kind ≡ Casts → d.first < 2 ^ 32) → IfOk r (λ d. d.kind ≡ Casts → BringsCast n bytes d.bearer d.peer d.first d.second (view d.packet))
looked_casts n m bytes xs (Err why) same read looked kind passes low = tt
looked_casts n m bytes xs (Ok d) same read looked kind passes low = λ casts. record {
  range = (looked.0, looked.1);
  on_one = looked.2;
  from = looked.3;
  kind = kind ∙ casts;
  boot = low casts;
  there = ap (λ (k : NodeState). is_some (neighbour_of k d.peer)) (sym same) ∙ ap (λ zs. is_some (slice_index_or zs d.peer None)) (sym read) ∙ passes_cast d.kind d.packet.header d.bearer (slice_index_or xs d.peer None) passes casts;
  other = ap (λ (k : NodeState). is_other k.own (node_word d.peer)) (sym same) ∙ ap (is_other m.own) (sym looked.3.previous) ∙ looked.4;
}
