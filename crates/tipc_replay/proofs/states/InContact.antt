-- A STATE or a numbered packet in the air was told in a contact that its node was in; so none is of the number that a node has out of contact.
use Rattle.std.specs.Prelude.{slice_get}
use Rattle.std.proofs.Common.{◌≡◌, ◌<◌, ℕ, zero, suc, true, false, [], ◌∷◌, Some, None, refl, sym, ap, subst, ◌∙◌}
use Rattle.tipc_header.specs.Frames.{frame_of}
use Rattle.tipc_header.specs.Grammar.{Fits}
use Rattle.tipc_header.specs.Spelling.{Fields, spelling}
use Rattle.tipc_link.specs.Links.{is_traffic}
use Rattle.tipc_pair.specs.Facing.{in_contact}
use Rattle.tipc_paired.specs.Views.{Frame}
use Rattle.tipc_paired.proofs.wires.Frames.{same_packet}
use Rattle.tipc_two_nodes.specs.Order.{Contact, HaveMet, WasIn}
use Rattle.tipc_two_nodes.specs.Sights.{AreSeen, pair_seen, Sight}
use Rattle.tipc_two_nodes.proofs.sights.Ordered.{entered_past}

-- the contact whose numbers stand beside a frame, the sender's first
abbrev pub told_contact : Frame → Contact
told_contact f = record { own = f.contact; theirs = f.peer_contact }

pub was_in_air : (v w : Sight) (k : ℕ) (f : Frame) (es er : ℕ) (p : Fields) → (h : AreSeen v w) → slice_get v.sent k ≡ Some f → Fits p → f.bytes ≡ frame_of es er (spelling p) → is_traffic p.header ≡ true → WasIn h.here (told_contact f)
was_in_air v w k f es er p h there fits bytes traffic =
    let t = h.seen_here.sent k f there in
    let is = h.talking.twins.paired.here.frames t.place t.frame t.there in
    let same : is.packet ≡ p = same_packet is.es is.er es er is.packet p is.fits fits (sym is.bytes ∙ t.bytes ∙ bytes) in
    let of = is.session (ap (λ (q : Fields). is_traffic q.header) same ∙ traffic) in
    let contact = t.contact es er p fits (t.bytes ∙ bytes) traffic in
    (t.frame.bearer, is.es, (of.begun, of.begun_is, sym of.contact_is ∙ contact.0, sym of.seen_is ∙ contact.1))

one_met : (v w : Sight) (c : Contact) → (h : AreSeen v w) → WasIn h.here c → HaveMet v w (c ∷ []) []
one_met v w c h was = record { seen = h; were_here = here; were_there = λ k d is. absurd (let wrong : None ≡ Some d = is in cc) }
  where
    here : (k : ℕ) (d : Contact) → slice_get (c ∷ []) k ≡ Some d → WasIn h.here d
    here zero d is = (let same : c ≡ d = cc in subst (WasIn h.here) same was)
    here (suc k) d is = absurd (let wrong : None ≡ Some d = is in cc)

pub not_out : (v w : Sight) (k : ℕ) (f : Frame) (es er : ℕ) (p : Fields) → AreSeen v w → slice_get v.sent k ≡ Some f → Fits p → f.bytes ≡ frame_of es er (spelling p) → is_traffic p.header ≡ true
    → in_contact (pair_seen v) ≡ false → f.contact < v.node.contact
not_out v w k f es er p h there fits bytes traffic out = entered_past v w (told_contact f ∷ []) [] 0 (told_contact f) (one_met v w (told_contact f) h (was_in_air v w k f es er p h there fits bytes traffic)) refl out
