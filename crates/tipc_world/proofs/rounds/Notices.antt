-- What an end in reset says at a tick is a RESET or an ACTIVATE that its receiver can read.
use Rattle.std.proofs.Common.{◌≡◌, ◌<◌, ◌^◌, ◌∙◌, ℕ, true, Option, Some, None, drop, refl, sym, ap, subst, arith}
use Rattle.std.proofs.lemmas.Bool.{true≢false}
use Rattle.std.proofs.lemmas.List.{drop_at}
use Rattle.tipc_types.specs.Address.{node_word}
use Rattle.tipc_types.specs.declared.link_words.LinkState.{LinkState}
use Rattle.tipc_types.specs.declared.link_words.LinkState.TheVariants.{Held, ResetReset, ResetUnknown, WorkingUnknown, WorkingWorking}
use Rattle.tipc_outside.specs.declared.outgoing.Outgoing.{Outgoing}
use Rattle.tipc_header.specs.declared.frames.FrameKind.TheVariants.{Links}
use Rattle.tipc_header.specs.declared.packet.Header.{Header}
use Rattle.tipc_header.specs.declared.packet.Header.TheVariants as header
use Rattle.tipc_header.specs.Frames.{envelope, first_of, frame_of, kind_in, kind_of}
use Rattle.tipc_header.specs.Grammar.{Fits}
use Rattle.tipc_header.specs.Reading.{fields_at}
use Rattle.tipc_header.specs.Spelling.{Fields, spelling}
use Rattle.tipc_header.proofs.Again.{again}
use Rattle.tipc_header.proofs.FrameWords.{length-envelope}
use Rattle.tipc_link_fsm.specs.Table.{is_in_reset, is_reset_reset}
use Rattle.tipc_link.specs.Links.{LinkEnd, known, notice, notice_fields, shown_by}
use Rattle.tipc_paired.specs.Paired.{IsEnd, IsNode}
use Rattle.tipc_paired.specs.Views.{Node}
use Rattle.tipc_paired.proofs.contacts.TellDeeds.{notice_fits, shown_fits}
use Rattle.tipc_two_nodes.specs.Sights.{AreSeen, Sight}
use Rattle.tipc_two_nodes.proofs.sights.Sights.{ends}
use Rattle.tipc_node.specs.Turns.{IsFrom}
use Rattle.tipc_settling.specs.Rises.{notice_in}
use Rattle.tipc_settling.proofs.Sending.{framed_at}

-- an end in reset says ACTIVATE where it heard its peer's reset, or else RESET
pub data IsSaidAs (e : LinkEnd) (o : Outgoing) : Type 0 where
  resets : o ≡ notice e (header.Reset (shown_by e)) → IsSaidAs e o
  activates : is_reset_reset e.fsm.state ≡ true → o ≡ notice e (header.Activate (shown_by e)) → IsSaidAs e o

pub said_as : (e : LinkEnd) → is_in_reset e.fsm.state ≡ true → IsSaidAs e (notice_in e.fsm.state e)
said_as e reset = by e.fsm.state refl reset
  where
    by : (st : LinkState) → e.fsm.state ≡ st → is_in_reset st ≡ true → IsSaidAs e (notice_in st e)
    by ResetUnknown is here = resets refl
    by ResetReset is here = activates (ap is_reset_reset is) refl
    by WorkingWorking is here = absurd (true≢false (sym here))
    by WorkingUnknown is here = absurd (true≢false (sym here))
    by Held is here = absurd (true≢false (sym here))

-- ---- the frame of a notice

-- its packet, which its receiver reads
pub record IsNoticeFrom (b : ℕ) (e : LinkEnd) (h : Header) : Type 0 where
  pub from : IsFrom b (notice e h).frame e.fsm.own (known e.fsm.peer) (notice_fields e h)
  pub kind : kind_in (notice e h).frame ≡ Links

read_back : (es er : ℕ) (p : Fields) → Fits p → fields_at (drop 16 (frame_of es er (spelling p))) ≡ p
read_back es er p fits = ap fields_at (drop_at (envelope es er) (spelling p) 16 (length-envelope es er)) ∙ again p fits

reset_kind : (es er : ℕ) (e : LinkEnd) → Fits (notice_fields e (header.Reset (shown_by e))) → kind_in (frame_of es er (spelling (notice_fields e (header.Reset (shown_by e))))) ≡ Links
unfolding kind_in
reset_kind es er e fits =
    let p = notice_fields e (header.Reset (shown_by e)) in ap (λ (q : Fields). kind_of (first_of (frame_of es er (spelling p))) q.header) (read_back es er p fits)

activate_kind : (es er : ℕ) (e : LinkEnd) → Fits (notice_fields e (header.Activate (shown_by e))) → kind_in (frame_of es er (spelling (notice_fields e (header.Activate (shown_by e))))) ≡ Links
unfolding kind_in
activate_kind es er e fits =
    let p = notice_fields e (header.Activate (shown_by e)) in ap (λ (q : Fields). kind_of (first_of (frame_of es er (spelling p))) q.header) (read_back es er p fits)

known_fits : (n : Node) (bearer : ℕ) (e : LinkEnd) (o : Option ℕ) → IsEnd n bearer e → e.fsm.peer ≡ o → known o < 2 ^ 64
known_fits n bearer e None end is = omega arith
known_fits n bearer e (Some epoch) end is = (end.peer_fits epoch is).0

module _ (v u : Sight) (b bearer : ℕ) (e : LinkEnd) (h : AreSeen v u) (own : v.node.own ≡ node_word b) (there : v.ends bearer ≡ Some e) where
  node_is : IsNode v.node
  node_is = subst (λ (n : Node). IsNode n) h.seen_here.node h.talking.twins.paired.here.node

  end_is : IsEnd v.node bearer e
  end_is = ends v u bearer e h there

  own_fits : e.fsm.own < 2 ^ 64
  own_fits = (framed_at v u bearer h (Some e) there).1

  peer_fits : known e.fsm.peer < 2 ^ 64
  peer_fits = known_fits v.node bearer e e.fsm.peer end_is refl

  said_by : e.own ≡ node_word b
  said_by = (let end = end_is in end.own ∙ own)

  pub reset_from : IsNoticeFrom b e (header.Reset (shown_by e))
  reset_from =
      let p = notice_fields e (header.Reset (shown_by e)) in
      let fits = notice_fits v.node bearer e (header.Reset (shown_by e)) node_is end_is (shown_fits v.node bearer e node_is end_is) (refl, refl) refl (omega arith) in
      let kind = reset_kind e.fsm.own (known e.fsm.peer) e fits in
      record {
        from = record { es_fits = own_fits; er_fits = peer_fits; fits = fits; frame_is = refl; previous = said_by };
        kind = kind;
      }

  pub activate_from : IsNoticeFrom b e (header.Activate (shown_by e))
  activate_from =
      let p = notice_fields e (header.Activate (shown_by e)) in
      let fits = notice_fits v.node bearer e (header.Activate (shown_by e)) node_is end_is (shown_fits v.node bearer e node_is end_is) (refl, refl) refl (omega arith) in
      let kind = activate_kind e.fsm.own (known e.fsm.peer) e fits in
      record {
        from = record { es_fits = own_fits; er_fits = peer_fits; fits = fits; frame_is = refl; previous = said_by };
        kind = kind;
      }
