-- A packet that takes the near link of a pair neither down nor out of its contact lets that link alone number packets.
use Rattle.std.proofs.Common.{◌≡◌, ◌≢◌, ◌≤◌, ◌==◌, ◌++◌, ℕ, true, false, if◌then◌else◌, List, [], Option, Some, None, refl, sym, ap, ◌∙◌, subst, inl, inr}
use Rattle.tipc_types.specs.declared.link_words.BroadcastState.{BroadcastState}
use Rattle.tipc_types.specs.declared.packet_lists.Taken.{Taken}
use Rattle.tipc_header.specs.declared.packet.ChangeoverType.{ChangeoverType}
use Rattle.tipc_header.specs.declared.packet.ChangeoverType.TheVariants as kind
use Rattle.tipc_header.specs.declared.packet.Header.{Header}
use Rattle.tipc_header.specs.declared.packet.Header.TheVariants as header
use Rattle.tipc_header.specs.Spelling.{Fields}
use Rattle.tipc_recv_window.specs.declared.outcomes.LinkOutcome.{LinkOutcome}
use Rattle.tipc_link_fsm.specs.declared.changes.Change.{Change}
use Rattle.tipc_link_fsm.specs.declared.changes.Change.TheVariants.{Down, Up}
use Rattle.tipc_link_fsm.specs.Table.{Outcome, on_peer_tunnel}
use Rattle.tipc_link.specs.Links.{LinkEnd, after, arrival_end, is_down, is_heard, outcome_of, tunnelled_down}
use Rattle.tipc_link.specs.Sessions.{SessionEnd}
use Rattle.tipc_pair.specs.declared.changes.PairOutcome.{PairOutcome}
use Rattle.tipc_pair.specs.Courses.{Course}
use Rattle.tipc_pair.specs.Facing.{PairEnds, is_up_at, other, turned, with_near}
use Rattle.tipc_pair.specs.PairArrivals.{Arrives, OpensInto, Unwraps, as_it_is, deferred, hears, ignored, none_taken, opens, tunnel}
use Rattle.tipc_pair.specs.PairCalls.{session_at}
use Rattle.tipc_paired.proofs.wires.Wires.{put_other}
use Rattle.tipc_two_nodes.proofs.deeds.Opening.{tunnel_change}
use Rattle.tipc_two_nodes.proofs.deeds.Pairs.{other_twice}
use Rattle.tipc_two_nodes.specs.deeds.Arriving.{arrival_more, heard_more, hears_more, linked_more, met_at_more, opens_more, taken_down_more, tunnelled_more, unwraps_more}
use Rattle.tipc_two_nodes.specs.deeds.PairDeeds.{both_more, failing_more, followed_more, more_at, none_more, switching_more}
use Rattle.tipc_two_nodes.proofs.arrivals.Steady.{ShowsNoHigher, hears_steady, not_reset, outcome_quiet}

-- nothing is numbered on a bearer
abbrev pub NoneOn : (ℕ → ℕ → List (List ℕ)) → ℕ → Type 0
NoneOn n b = (epoch : ℕ) → n b epoch ≡ []

more_else : (c epoch : ℕ) (packets : List (List ℕ)) (b : ℕ) → b ≢ c → NoneOn (more_at c epoch packets) b
more_else c epoch packets b differ k = ap (λ (f : ℕ → List (List ℕ)). f k) (put_other none_more c _ b differ)

both_none : (n m : ℕ → ℕ → List (List ℕ)) (b : ℕ) → NoneOn n b → NoneOn m b → NoneOn (both_more n m) b
both_none n m b h g k = ap (λ ps. ps ++ m b k) (h k) ∙ g k

-- ---- what follows

switching_else : (c : ℕ) (s old : Option SessionEnd) (b : ℕ) → b ≢ c → NoneOn (switching_more c s old) b
switching_else c None old b differ = λ k. refl
switching_else c (Some s) None b differ = λ k. refl
switching_else c (Some s) (Some old) b differ = more_else c s.epoch _ b differ

failing_else : (c : ℕ) (lost s : Option SessionEnd) (b : ℕ) → b ≢ c → NoneOn (failing_more c lost s) b
failing_else c None s b differ = λ k. refl
failing_else c (Some lost) None b differ = λ k. refl
failing_else c (Some lost) (Some s) b differ = more_else c s.epoch _ b differ

followed_else : (z : PairEnds) (k : Change) (b : ℕ) → b ≢ z.bearer → is_down k ≡ false → NoneOn (followed_more z k) b
followed_else z Up b differ quiet = elim (is_up_at z.far) as (λ t. NoneOn (if t then (if z.bearer == 0 then switching_more z.bearer (session_at z.near) (session_at z.far) else none_more) else none_more) b) [
  | true ↦ elim (z.bearer == 0) as (λ t. NoneOn (if t then switching_more z.bearer (session_at z.near) (session_at z.far) else none_more) b) [
    | true ↦ switching_else z.bearer (session_at z.near) (session_at z.far) b differ
    | false ↦ λ k. refl
  ]
  | false ↦ λ k. refl
]
followed_else z (Down cause) b differ quiet = absurd (let wrong : ⊥ = cc in wrong)
followed_else z other b differ quiet = λ k. refl

-- a link that goes down lets the other one number what it left
pub fallen_else : (z : PairEnds) (k : Change) (b : ℕ) → b ≢ other z.bearer → (k ≡ Up → ⊥) → NoneOn (followed_more z k) b
fallen_else z Up b differ quiet = absurd (quiet refl)
fallen_else z (Down cause) b differ quiet = elim (is_up_at z.far) as (λ t. NoneOn (if t then failing_more (other z.bearer) (session_at z.near) (session_at z.far) else none_more) b) [
  | true ↦ failing_else (other z.bearer) (session_at z.near) (session_at z.far) b differ
  | false ↦ λ k. refl
]
fallen_else z other b differ quiet = λ k. refl

-- ---- the packet is heard

heard_else : (c : ℕ) (o : Option SessionEnd) (p : Fields) (by b : ℕ) → b ≢ c → NoneOn (heard_more c o p by) b
heard_else c None p by b differ = λ k. refl
heard_else c (Some s) p by b differ = more_else c s.epoch _ b differ

linked_else : (x : PairEnds) (e : LinkEnd) (o : Outcome) (p : Fields) (by b : ℕ) → b ≢ x.bearer → NoneOn (linked_more x e o p by) b
linked_else x e o p by b differ = elim (is_heard p.header o.change) as (λ t. NoneOn (if t then heard_more x.bearer (after e o).session p by else none_more) b) [
  | true ↦ heard_else x.bearer (after e o).session p by b differ
  | false ↦ λ k. refl
]

met_else : (x : PairEnds) (o : Option LinkEnd) (es er : ℕ) (p : Fields) (by b : ℕ) → b ≢ x.bearer → not_reset p.header ≡ true → NoneOn (met_at_more es er p by x o) b
met_else x None es er p by b differ quiet = λ k. refl
met_else x (Some e) es er p by b differ quiet =
    let o = outcome_of e.fsm p.header es er (is_up_at x.far) in
    let z = with_near x (arrival_end e o p by) in
    both_none (linked_more x e o p by) (followed_more z o.change) b (linked_else x e o p by b differ) (followed_else z o.change b differ (outcome_quiet p.header e.fsm es er (is_up_at x.far) quiet))

hears_else : (h : Header) (x : PairEnds) (es er : ℕ) (p : Fields) (by b : ℕ) → p.header ≡ h → b ≢ x.bearer → not_reset h ≡ true → NoneOn (hears_more h es er p by x) b
hears_else (header.Reset said) x es er p by b is differ quiet = absurd (let wrong : ⊥ = cc in wrong)
hears_else (header.Activate said) x es er p by b is differ quiet = elim (said.contact == x.seen) as (λ t. NoneOn (if t then met_at_more es er p by x x.near else none_more) b) [
  | true ↦ met_else x x.near es er p by b differ (ap not_reset is)
  | false ↦ λ k. refl
]
hears_else other x es er p by b is differ quiet = met_else x x.near es er p by b differ (ap not_reset is)

-- ---- what is opened

tunnelled_else : (x : PairEnds) (o : Option LinkEnd) (epoch b : ℕ) → b ≢ x.bearer → x.bearer ≤ 1 → NoneOn (tunnelled_more epoch (turned x) o) b
tunnelled_else x None epoch b differ two = λ k. refl
tunnelled_else x (Some e) epoch b differ two =
    let z = with_near (turned x) (tunnelled_down e epoch) in
    let back : b ≢ other z.bearer = λ same. differ (same ∙ other_twice x.bearer two) in
    elim (tunnel_change e.fsm epoch) [
      | inl stay ↦ subst (λ c. NoneOn (followed_more z c) b) (sym stay) (λ k. refl)
      | inr down ↦ fallen_else z (on_peer_tunnel e.fsm epoch).change b back (λ up. let wrong : Up ≡ Down down.0 = sym up ∙ down.1 in let no : ⊥ = cc in no)
    ]

taken_down_else : (x : PairEnds) (kind_is : ChangeoverType) (epoch b : ℕ) → b ≢ x.bearer → x.bearer ≤ 1 → NoneOn (taken_down_more kind_is epoch x) b
taken_down_else x kind.Duplicate epoch b differ two = λ k. refl
taken_down_else x kind.Original epoch b differ two = tunnelled_else x x.far epoch b differ two

unwraps_else : (x : PairEnds) (taken : List Taken) (c : Course) (carried : List Taken) (u : Unwraps x taken c carried) (b : ℕ) → b ≢ x.bearer → x.bearer ≤ 1 → NoneOn (unwraps_more x taken c carried u) b
unwraps_else x _ _ _ none_taken b differ two = λ k. refl
unwraps_else x _ _ _ (as_it_is first others plain) b differ two = λ k. refl
unwraps_else x _ _ _ (tunnel first others t speaks) b differ two = taken_down_else x t.kind t.old.epoch b differ two

opens_else : (x : PairEnds) (o : LinkOutcome) (c : Course) (given : PairOutcome) (i : OpensInto x o c given) (b : ℕ) → b ≢ x.bearer → x.bearer ≤ 1 → NoneOn (opens_more x o c given i) b
opens_else x _ _ _ (opens u brings) b differ two = unwraps_else x _ _ _ u b differ two
opens_else x _ _ _ deferred b differ two = λ k. refl
opens_else x _ _ _ ignored b differ two = λ k. refl

-- ---- a whole arrival

pub arrival_else : (x : PairEnds) (es er : ℕ) (p : Fields) (by : ℕ) (shown : BroadcastState) (c : Course) (given : PairOutcome) (a : Arrives x es er p by shown c given) (b : ℕ) → b ≢ x.bearer → x.bearer ≤ 1 → not_reset p.header ≡ true → ShowsNoHigher p.header x.seen
    → NoneOn (arrival_more x es er p by shown c given a) b
arrival_else x es er p by shown c given a b differ two quiet low =
    let m = hears p.header es er p by shown x in
    let z = m.course.pair in
    let one = hears_steady p.header x es er p by shown refl quiet low in
    both_none (hears_more p.header es er p by x) (opens_more z m.outcome a.opened given a.opens) b (hears_else p.header x es er p by b refl differ quiet)
    (opens_else z m.outcome a.opened given a.opens b (λ same. differ (same ∙ one.bearer)) (subst (λ n. n ≤ 1) (sym one.bearer) two))
