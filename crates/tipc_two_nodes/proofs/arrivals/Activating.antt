-- An ACTIVATE takes a link of a pair up, and brings nothing: the two nodes stay what they are.
use Rattle.std.proofs.Common.{◌≡◌, ◌++◌, ℕ, Bool, true, false, if◌then◌else◌, List, [], refl, sym, ◌∙◌, subst, append-nil}
use Rattle.std.proofs.lemmas.Bool.{true≢false}
use Rattle.tipc_types.specs.declared.link_words.BroadcastState.{BroadcastState}
use Rattle.tipc_outside.specs.declared.outgoing.Outgoing.{Outgoing}
use Rattle.tipc_header.specs.Spelling.{Fields}
use Rattle.tipc_link.specs.Links.{LinkEnd, after, frames, heard_end, is_heard, newly_numbered, sent_again}
use Rattle.tipc_link.specs.Sessions.{content_of}
use Rattle.tipc_link_fsm.specs.Table.{Outcome}
use Rattle.tipc_pair.specs.Changeovers.{following}
use Rattle.tipc_pair.specs.Courses.{Course, going_on, rests}
use Rattle.tipc_pair.specs.Facing.{PairEnds, with_near}
use Rattle.tipc_pair.specs.PairArrivals.{met}
use Rattle.tipc_pair.specs.PairCalls.{stepped}
use Rattle.tipc_paired.specs.Views.{View}
use Rattle.tipc_two_nodes.specs.deeds.Arriving.{heard_more, met_more}
use Rattle.tipc_two_nodes.specs.deeds.PairDeeds.{both_more, followed_more, none_more}
use Rattle.tipc_two_nodes.specs.Carrying.{KeepsCarried}
use Rattle.tipc_two_nodes.specs.Twins.{AreTwins}

abbrev Linked : PairEnds → LinkEnd → Outcome → Fields → ℕ → BroadcastState → Bool → Course
Linked x e o p by shown t = record (rests (with_near x (if t then heard_end (after e o) by p.acknowledgement (content_of p) else after e o))) {
  states = frames e o shown ++ (if t then sent_again (after e o).session p.acknowledgement (content_of p) else []);
  numbered = if t then newly_numbered (after e o).session by p.acknowledgement (content_of p) else [];
}

abbrev Met : (v y : View) → AreTwins v y → PairEnds → LinkEnd → Outcome → Fields → ℕ → ℕ → BroadcastState → Bool → Type 0
Met v y h x e o p es by shown t = KeepsCarried v y h (going_on (Linked x e o p by shown t) (λ z. following z o.change es))
    (both_more (if t then heard_more x.bearer (after e o).session p by else none_more) (followed_more (with_near x (if t then heard_end (after e o) by p.acknowledgement (content_of p) else after e o)) o.change))

-- a packet that isn't heard does no more than the call of the link states
pub unheard_carried : (v y : View) (x : PairEnds) (e : LinkEnd) (o : Outcome) (es : ℕ) (p : Fields) (by : ℕ) (shown : BroadcastState) (h : AreTwins v y) → is_heard p.header o.change ≡ false → KeepsCarried v y h (stepped x e o es shown) (followed_more (with_near x (after e o)) o.change)
    → KeepsCarried v y h (met x e o p es by shown).course (met_more x e o p by)
unheard_carried v y x e o es p by shown h unheard kept =
    let z = with_near x (after e o) in
    elim (is_heard p.header o.change) as (λ t. is_heard p.header o.change ≡ t → Met v y h x e o p es by shown t) [
      | true ↦ λ is. absurd (true≢false (sym is ∙ unheard))
      | false ↦ λ _. subst (λ (fs : List Outgoing). KeepsCarried v y h (going_on (record (rests z) { states = fs }) (λ w. following w o.change es)) (followed_more z o.change)) (sym (append-nil (frames e o shown))) kept
    ] refl
