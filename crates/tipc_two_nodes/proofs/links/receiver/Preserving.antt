-- Calls of a pair that aren't arrivals leave its receiving records as they are.
use Rattle.std.proofs.Common.{◌≡◌, ◌==◌, ◌≤◌, ℕ, Bool, true, false, if◌then◌else◌, List, Option, Some, None, option_map, refl, sym, ap, ◌∙◌, arith}
use Rattle.tipc_types.specs.LinkStates.{is_up}
use Rattle.tipc_types.specs.declared.link_words.BroadcastState.{BroadcastState}
use Rattle.tipc_outside.specs.declared.outgoing.Outgoing.{Outgoing}
use Rattle.tipc_link_fsm.specs.Table.{on_cut}
use Rattle.tipc_link.specs.Links.{LinkEnd, answered_with, cut_end, mended_end, record_in, record_of, with_session}
use Rattle.tipc_link.specs.Records.{Early}
use Rattle.tipc_link.specs.Sessions.{IsPut, SessionEnd, answered, flushed, joins, receiving_record, waits, with_broadcast}
use Rattle.tipc_pair.specs.Facing.{PairEnds, facing, is_up_at, with_made, with_near, turned as turned_pair}
use Rattle.tipc_pair.specs.PairCalls.{Puts, SendsWithin, answered_at, answered_near, cut_at, mended, mended_near}
use Rattle.tipc_two_nodes.specs.links.Receiving.{Records, record_at, records_of}
use Rattle.tipc_pair.proofs.Facings.{facing_back}
use Rattle.tipc_two_nodes.proofs.links.calls.Posting.{Leads, one, two, which_leads}
use Rattle.tipc_two_nodes.proofs.links.receiver.Remaining.{both_are, following_records}

-- another near end with the same record
near_records : (x : PairEnds) (e e' : LinkEnd) → x.near ≡ Some e → record_of e' ≡ record_of e → records_of (with_near x e') ≡ records_of x
near_records x e e' is same = both_are x (with_near x e') (same ∙ ap record_at (sym is)) refl

-- ---- the bearer is cut

pub cut_records_at : (x : PairEnds) (end : Option LinkEnd) → x.near ≡ end → records_of (cut_at x end).pair ≡ records_of x
cut_records_at x None is = refl
cut_records_at x (Some e) is =
    let held = is_up_at x.far in following_records (with_near x (cut_end e held)) (on_cut e.fsm held).change 0 ∙ near_records x e (cut_end e held) is refl

-- ---- a tick

-- seen from the link of a bearer
facing_records : (n : ℕ) (x y : PairEnds) → records_of y ≡ records_of x → y.bearer ≡ x.bearer → records_of (facing n y) ≡ records_of (facing n x)
unfolding facing
facing_records n x y same bearer =
    ap (λ m. records_of (if m == n then y else turned_pair y)) bearer
    ∙ elim (x.bearer == n) as (λ b. records_of (if b then y else turned_pair y) ≡ records_of (if b then x else turned_pair x)) [ true ↦ same | false ↦ ap (λ (r : Records). record { near = r.far; far = r.near }) same ]

-- ---- messages

put_record : (s v : SessionEnd) (pieces : List (List ℕ)) → IsPut s pieces v → receiving_record v ≡ receiving_record s
put_record s v pieces (joins packets packet may) = refl
put_record s v pieces (waits others alone) = refl

flushed_record : (v : SessionEnd) → receiving_record (flushed v) ≡ receiving_record v
unfolding flushed
flushed_record v = refl

put_records : (x x' : PairEnds) (pieces : List (List ℕ)) (frames : List Outgoing) → Puts x pieces x' frames → records_of x' ≡ records_of x
put_records x x' pieces frames h =
    let e = h.end in
    let now : record_of (with_session e (flushed h.put)) ≡ record_of e = ap Some (flushed_record h.put ∙ put_record h.session h.put pieces h.is_put) ∙ ap (λ o. record_in o e.early) (sym h.session_is) in
    ap records_of h.after ∙ near_records x e (with_session e (flushed h.put)) h.end_is now

leads_low : (first second : Option LinkEnd) (bearer : ℕ) → Leads first second bearer → bearer ≤ 1
leads_low first second bearer (one is up) = omega arith
leads_low first second bearer (two is down up) = omega arith

pub send_records : (x x' : PairEnds) (pieces : List (List ℕ)) (limit : ℕ) (frames : List Outgoing) → x.bearer ≤ 1 → SendsWithin x pieces limit x' frames → records_of x' ≡ records_of x
send_records x x' pieces limit frames low h =
    let y = facing h.bearer x in
    let there = leads_low (facing 0 x).near (facing 1 x).near h.bearer (which_leads (facing 0 x).near (facing 1 x).near h.bearer h.active_is) in
    let bearer : h.near.bearer ≡ y.bearer = ap (λ (q : PairEnds). q.bearer) h.puts.after in
    ap records_of h.after ∙ (facing_records x.bearer y h.near (put_records y h.near pieces frames h.puts) bearer ∙ ap records_of (facing_back h.bearer x there low))

-- ---- an end is made, a bearer is mended, and a STATE is sent

pub made_records : (x : PairEnds) → x.near ≡ None → records_of (with_made x) ≡ records_of x
made_records x none = both_are x (with_made x) (ap record_at (sym none)) refl

mended_records : (x : PairEnds) (o : Option LinkEnd) → x.near ≡ o → records_of (mended_near x o) ≡ records_of x
mended_records x None is = refl
mended_records x (Some e) is = near_records x e (mended_end e) is refl

pub mend_records : (x : PairEnds) → records_of (mended x).pair ≡ records_of x
mend_records x = mended_records x x.near refl

answered_record : (o : Option SessionEnd) (early : Option Early) (taken : ℕ) (asks : Bool) → record_in (option_map (λ s. answered (with_broadcast s taken asks)) o) early ≡ record_in o early
answered_record None early taken asks = refl
answered_record (Some s) early taken asks = refl

answered_end_record : (e : LinkEnd) (taken : ℕ) (asks : Bool) → record_of (answered_with e taken asks) ≡ record_of e
answered_end_record e taken asks = elim (is_up e.fsm.state) as (λ b. record_of (if b then record e { session = option_map (λ s. answered (with_broadcast s taken asks)) e.session } else e) ≡ record_of e) [ true ↦ answered_record e.session e.early taken asks | false ↦ refl ]

answered_records : (x : PairEnds) (o : Option LinkEnd) (taken : ℕ) (asks : Bool) (shown : BroadcastState) → x.near ≡ o → records_of (answered_at x o taken asks shown).pair ≡ records_of x
answered_records x None taken asks shown is = refl
answered_records x (Some e) taken asks shown is = near_records x e (answered_with e taken asks) is (answered_end_record e taken asks)

pub answer_records : (x : PairEnds) (taken : ℕ) (asks : Bool) (shown : BroadcastState) → records_of (answered_near taken asks shown x).pair ≡ records_of x
answer_records x taken asks shown = answered_records x x.near taken asks shown refl
