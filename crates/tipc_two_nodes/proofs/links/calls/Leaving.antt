-- Calls of a pair that leave both ends as a sender sees them: a link end is made, a bearer is mended, and the STATE that is due is sent.
use Rattle.std.proofs.Common.{◌≡◌, ℕ, Bool, true, false, if◌then◌else◌, Option, Some, None, option_map, refl, sym, ap, ◌∙◌}
use Rattle.tipc_types.specs.LinkStates.{is_up}
use Rattle.tipc_types.specs.declared.link_words.BroadcastState.{BroadcastState}
use Rattle.tipc_link.specs.Links.{LinkEnd, answered_with, mended_end}
use Rattle.tipc_link.specs.Sessions.{SessionEnd, answered, with_broadcast}
use Rattle.tipc_pair.specs.Facing.{PairEnds, with_made}
use Rattle.tipc_pair.specs.PairCalls.{answered_at, answered_near, mended, mended_near}
use Rattle.tipc_two_nodes.specs.links.Sending.{end_seen, ends_seen, state_as, window_in}

near_same : (x : PairEnds) (o : Option LinkEnd) → end_seen x.contact o ≡ end_seen x.contact x.near → ends_seen (record x { near = o }) ≡ ends_seen x
near_same x o same = ap (λ e. record { bearer = x.bearer; near = e; far = end_seen x.contact x.far }) same

-- an end that wasn't made is seen as one that was made just now
pub made_same : (x : PairEnds) → x.near ≡ None → ends_seen (with_made x) ≡ ends_seen x
made_same x none = near_same x (with_made x).near (ap (end_seen x.contact) (sym none))

mended_same : (x : PairEnds) (o : Option LinkEnd) → x.near ≡ o → ends_seen (mended_near x o) ≡ ends_seen x
mended_same x None is = refl
mended_same x (Some e) is = near_same x (Some (mended_end e)) (ap (end_seen x.contact) (sym is))

pub mends_same : (x : PairEnds) → ends_seen (mended x).pair ≡ ends_seen x
mends_same x = mended_same x x.near refl

-- a session that answered keeps its send window
answered_window : (o : Option SessionEnd) (taken : ℕ) (asks : Bool) → window_in (option_map (λ s. answered (with_broadcast s taken asks)) o) ≡ window_in o
answered_window None taken asks = refl
answered_window (Some s) taken asks = refl

answered_seen : (contact : ℕ) (e : LinkEnd) (taken : ℕ) (asks : Bool) → end_seen contact (Some (answered_with e taken asks)) ≡ end_seen contact (Some e)
answered_seen contact e taken asks = elim (is_up e.fsm.state) as (λ b. end_seen contact (Some (if b then record e { session = option_map (λ s. answered (with_broadcast s taken asks)) e.session } else e)) ≡ end_seen contact (Some e)) [
  | true ↦ ap (λ w. record { epoch = e.fsm.own; state = state_as e.fsm.state; window = w }) (answered_window e.session taken asks)
  | false ↦ refl
]

at_same : (x : PairEnds) (o : Option LinkEnd) (taken : ℕ) (asks : Bool) (shown : BroadcastState) → x.near ≡ o → ends_seen (answered_at x o taken asks shown).pair ≡ ends_seen x
at_same x None taken asks shown is = refl
at_same x (Some e) taken asks shown is = near_same x (Some (answered_with e taken asks)) (answered_seen x.contact e taken asks ∙ ap (end_seen x.contact) (sym is))

pub answers_same : (x : PairEnds) (taken : ℕ) (asks : Bool) (shown : BroadcastState) → ends_seen (answered_near taken asks shown x).pair ≡ ends_seen x
answers_same x taken asks shown = at_same x x.near taken asks shown refl
