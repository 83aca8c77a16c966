-- A broadcast packet of the caster arrives at a member.
use Rattle.std.specs.Prelude.{◌%◌, cond, filter}
use Rattle.std.proofs.Common.{◌≡◌, ◌==◌, ◌^◌, ◌∙◌, ℕ, Bool, true, [], ◌∷◌, Some, None, refl, sym, ap, subst, arith}
use Rattle.std.proofs.lemmas.Bool.Decides.{nat_tests}
use Rattle.tipc_types.specs.Address.{node_word}
use Rattle.tipc_header.specs.Spelling.{Fields}
use Rattle.tipc_fragments.specs.Joining.{Joining}
use Rattle.tipc_reassembly.specs.Opening.{BringsAll}
use Rattle.tipc_reassembly.specs.Opening.BringsAll.{none as brings_nothing}
use Rattle.tipc_reassembly.specs.Slots.{packets_in}
use Rattle.tipc_recv_window.specs.declared.outcomes.LinkOutcome.{LinkOutcome}
use Rattle.tipc_broadcast.specs.declared.contacts.Contact.{Contact}
use Rattle.tipc_broadcast.specs.Casting.{Casting, arriving_outcome, hearing_outcome}
use Rattle.tipc_broadcast.specs.Contacts.{carried, contact_with, heard, heard_outcome, refusal}
use Rattle.tipc_broadcast.specs.Deeds.{CastDeed, after_deeds}
use Rattle.tipc_casters.specs.MemberTurns.{HappensTo, Lasts, rests, takes}
use Rattle.tipc_casters.specs.ViewLaws.{HearsFrame, given_at, packets_due}
use Rattle.tipc_casters.specs.Views.{AreContactNumbers, CasterView, MemberView}
use Rattle.tipc_casters.proofs.Kept.{DeedKeeps, DeedsKeep, concerns, kept_by_deeds}
use Rattle.tipc_pair.specs.declared.changes.PairOutcome.{PairOutcome}
use Rattle.tipc_pair.specs.Messages.{OpensTo, deferred, ignored, opened_in, took}
use Rattle.tipc_replay.proofs.casts.StoryDeeds.{kept_once}

-- what a link made of the arrival brings what it took
pub opens_brings : (begun : Joining) (o : LinkOutcome) (given : PairOutcome) (last : Joining) → OpensTo begun o given last → BringsAll begun (packets_due o) (opened_in given) last
opens_brings begun _ _ last (took brings) = brings
opens_brings begun _ _ _ deferred = brings_nothing
opens_brings begun _ _ _ ignored = brings_nothing

-- what is kept of the caster, by the one deed
hearing_kept : (v : Casting) (a first members by : ℕ) (packet : Fields) → packet.previous ≡ node_word a
    → DeedKeeps v.own (node_word a) (CastDeed.hears first members by packet) (contact_with (node_word a) v.contacts) (contact_with (node_word a) (after_deeds (CastDeed.hears first members by packet ∷ []) v).contacts)
hearing_kept v a first members by packet previous =
    let d = CastDeed.hears first members by packet in
    let it : concerns (node_word a) d ≡ true = ap (λ n. n == node_word a) previous ∙ grind (arith, nat_tests) in
    let one : filter (concerns (node_word a)) (d ∷ []) ≡ d ∷ [] = ap (λ (b : Bool). cond b (d ∷ []) []) it in
    kept_once v.own (node_word a) d (contact_with (node_word a) v.contacts) (contact_with (node_word a) (after_deeds (d ∷ []) v).contacts)
    (subst (λ ds. DeedsKeep v.own (node_word a) ds (contact_with (node_word a) v.contacts) (contact_with (node_word a) (after_deeds (d ∷ []) v).contacts)) one (kept_by_deeds (node_word a) (d ∷ []) v))

-- what the arrival answers, where this is kept of the caster
pub answered_of : (v : Casting) (a first members by : ℕ) (packet : Fields) (k : Contact) → packet.previous ≡ node_word a → contact_with (node_word a) v.contacts ≡ Some k
    → arriving_outcome v first members packet by ≡ heard_outcome (carried packet by) k (refusal v.own first members k)
answered_of v a first members by packet k previous is =
    ap (hearing_outcome v first members (carried packet by)) (ap (λ n. contact_with n v.contacts) previous ∙ is)

-- in a contact, what is delivered is what came of the packets that were taken
pub cast_taken : (view : CasterView) (w w' : MemberView) (word a first second by contact : ℕ) (packet : Fields) (v : Casting) (k : Contact) (given : PairOutcome) → v.own ≡ word → packet.previous ≡ node_word a → w.heard ≡ contact_with (node_word a) v.contacts
    → w'.heard ≡ contact_with (node_word a) (after_deeds (CastDeed.hears first (second % 2 ^ 32) by packet ∷ []) v).contacts → w.heard ≡ Some k → w.at ≡ Some contact → w'.at ≡ w.at → HearsFrame view first second packet
    → OpensTo w.begun (arriving_outcome v first (second % 2 ^ 32) packet by) given w'.begun → ((own theirs : ℕ) → AreContactNumbers own theirs → w'.given own theirs ≡ given_at contact (packets_in (opened_in given)) w.given own theirs) → HappensTo view w w' word
cast_taken view w w' word a first second by contact packet v k given own previous was is here at stays frame opens gives =
    let keep = hearing_kept v a first (second % 2 ^ 32) by packet previous in
    let there : contact_with (node_word a) v.contacts ≡ Some k = sym was ∙ here in
    let after : w'.heard ≡ Some (heard (carried packet by) k (refusal word first (second % 2 ^ 32) k)) = is ∙ keep.1 k there ∙ ap (λ n. Some (heard (carried packet by) k (refusal n first (second % 2 ^ 32) k))) own in
    let answer : arriving_outcome v first (second % 2 ^ 32) packet by ≡ heard_outcome (carried packet by) k (refusal word first (second % 2 ^ 32) k) = answered_of v a first (second % 2 ^ 32) by packet k previous there ∙ ap (λ n. heard_outcome (carried packet by) k (refusal n first (second % 2 ^ 32) k)) own in
    takes (record {
      contact = contact;
      boot = first;
      set = second;
      by = by;
      packet = packet;
      before = k;
      after = heard (carried packet by) k (refusal word first (second % 2 ^ 32) k);
      opened = opened_in given;
      here = here;
      at = at;
      frame = frame;
      as_heard = record { boot = refl; window = refl; shown = refl };
      brings = opens_brings w.begun (heard_outcome (carried packet by) k (refusal word first (second % 2 ^ 32) k)) given w'.begun (subst (λ o. OpensTo w.begun o given w'.begun) answer opens);
      stays_at = stays;
      heard_is = after;
      given_is = gives;
    })

-- out of contact nothing comes of it
pub cast_missed : (view : CasterView) (w w' : MemberView) (word a first members by : ℕ) (packet : Fields) (v : Casting) → packet.previous ≡ node_word a → w.heard ≡ contact_with (node_word a) v.contacts
    → w'.heard ≡ contact_with (node_word a) (after_deeds (CastDeed.hears first members by packet ∷ []) v).contacts → w.heard ≡ None → Lasts w w' → HappensTo view w w' word
cast_missed view w w' word a first members by packet v previous was is none lasts =
    rests lasts (is ∙ (hearing_kept v a first members by packet previous).0 (sym was ∙ none) ∙ sym none)
