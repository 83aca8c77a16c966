-- A member asks for a broadcast packet that it was shown and lacks, and its sender sends it again, for that member
-- among others.
use Rattle.std.specs.Prelude.{if◌then◌else◌, is_some}
use Rattle.std.specs.List.{Contains}
use Rattle.std.proofs.Common.{◌≡◌, ◌≤◌, ◌<◌, ◌⊎◌, ◌+◌, ◌-◌, ◌^◌, ◌∙◌, ℕ, zero, suc, Bool, true, false, List, [], ◌∷◌, Some, None, length, slice_get, slice_index_or, inl, inr, refl, sym, ap, subst, arith}
use Rattle.std.proofs.lemmas.Bool.{cases_lt}
use Rattle.std.proofs.lemmas.Bool.Decides.{nat_tests}
use Rattle.std.proofs.lemmas.List.{drop_at}
use Rattle.std.proofs.lemmas.List.Elements.{All-contains}
use Rattle.std.proofs.lemmas.Option.{get_or_from_slice_get, slice_get_within}
use Rattle.tipc_types.specs.Address.{IsNodeWord, node_word}
use Rattle.tipc_types.specs.Position.{number_of}
use Rattle.tipc_types.specs.declared.identity.To.TheVariants as to
use Rattle.tipc_types.proofs.PositionLaws.{number_of-below}
use Rattle.tipc_outside.specs.declared.outgoing.Outgoing.{Outgoing}
use Rattle.tipc_header.specs.declared.frames.FrameKind.TheVariants.{Casts, Links}
use Rattle.tipc_header.specs.declared.packet.Header.{Header}
use Rattle.tipc_header.specs.declared.packet.Header.TheVariants as header
use Rattle.tipc_header.specs.Grammar.{Fits}
use Rattle.tipc_header.specs.Frames.{envelope, first_of, frame_of, is_epoch, kind_in, kind_of, sent_as, stamped}
use Rattle.tipc_header.specs.Reading.{fields_at}
use Rattle.tipc_header.specs.Spelling.{Fields, spelling}
use Rattle.tipc_header.proofs.Again.{again}
use Rattle.tipc_header.proofs.FrameWords.{first_of-frame, length-envelope, stamped-spelling}
use Rattle.tipc_send_window.specs.Sending.{acked_of}
use Rattle.tipc_recv_window.specs.Receiving.{gap_to}
use Rattle.tipc_broadcast.specs.declared.contacts.Contact.{Contact}
use Rattle.tipc_broadcast.specs.Casting.{Casting, stating_frames}
use Rattle.tipc_broadcast.specs.Contacts.{is_member, shown_in}
use Rattle.tipc_broadcast.specs.Frames.{numbered_frame}
use Rattle.tipc_broadcast.proofs.FrameLaws.{frames_are_stamped}
use Rattle.tipc_broadcast_law.specs.Groups.{Accepted, mark, mark_in, place}
use Rattle.tipc_broadcast_law.specs.Lines.{AreFramesAt, IsFrameAt, IsLined}
use Rattle.tipc_broadcast_law.specs.Steps.{line_of}
use Rattle.tipc_broadcast_repair.proofs.Mending.{gaps_are_repeated, gaps_are_told}
use Rattle.tipc_casters.specs.Sights.{IsSentPiece, contact_of}
use Rattle.tipc_node.specs.CastArrivals.{members_in}
use Rattle.tipc_node.specs.Ends.{BothStand}
use Rattle.tipc_node.specs.Nodes.{is_mended_on, neighbour_of, pair_with}
use Rattle.tipc_node.specs.Turns.{IsFrom}
use Rattle.tipc_node.proofs.pairs.Strangers.{kept_abreast, kept_by}
use Rattle.tipc_node.proofs.work.Stops.{end_known}
use Rattle.tipc_replay.specs.Air.{airborne}
use Rattle.tipc_replay.specs.Sound.{IsNumber}
use Rattle.tipc_replay.specs.States.{MemberState, contact_at}
use Rattle.tipc_world.specs.declared.places.Places.{Places}
use Rattle.tipc_world.specs.CalmWorlds.{IsCalmWorld}
use Rattle.tipc_world.specs.CastRows.{CastIsOnItsWay, CastsAs, HasTakenCast, IsCastAwaited, IsCastKnown, IsCastReleased, MemberIs}
use Rattle.tipc_world.specs.Ends.{place_on}
use Rattle.tipc_world.specs.Poised.{IsPoised}
use Rattle.tipc_world.specs.RoundParts.{IsKept, IsRound}
use Rattle.tipc_world.specs.Rows.{WasUp}
use Rattle.tipc_world.specs.States.{WorldState}
use Rattle.tipc_world.specs.StillWorlds.{footing_at}
use Rattle.tipc_world.proofs.casts.Going.{KeepsLink, pair_stands}
use Rattle.tipc_world.proofs.casts.Heard.{CastHeard}
use Rattle.tipc_world.proofs.casts.Law.{CastPair, wants_place}
use Rattle.tipc_world.proofs.casts.Rows.{ToldAt, back, going, tells_there, told_at}
use Rattle.tipc_world.proofs.casts.Standing.{awaited_on, casts_on, known_on, member_on, released_on, taken_on}
use Rattle.tipc_world.proofs.rounds.TickStates.{CalmRound, on_places}
use Rattle.tipc_world.proofs.rounds.UpLinks.{up_mended, up_sides}

-- ---- what is sent again

-- the first packet that isn't acknowledged by all
record FirstKept (line : List Accepted) (v : Casting) : Type 0 where
  frame : List ℕ
  there : slice_get v.sending.unacked 0 ≡ Some frame
  stands : IsFrameAt v.own v.boot line (acked_of v.sending) frame

first_kept : (line : List Accepted) (v : Casting) → IsLined line v → acked_of v.sending < v.sending.numbered → FirstKept line v
first_kept line v lined waits = by v.sending.unacked refl lined.unacked
  where
    by : (us : List (List ℕ)) → v.sending.unacked ≡ us → AreFramesAt v.own v.boot line (acked_of v.sending) us → FirstKept line v
    by [] none all = absurd (let no = ap (λ (us : List (List ℕ)). length us) none in omega (arith, waits, no))
    by (frame ∷ frames) is all = record { frame = frame; there = ap (λ us. slice_get us 0) is; stands = all.0 }

-- the kind is that of the header, under a boot number
cast_kind : (boot : ℕ) (h : Header) → boot < 2 ^ 32 → kind_of 0 h ≡ Casts → kind_of boot h ≡ Casts
cast_kind boot (header.Payload payload) low is = (let none : is_epoch boot ≡ false = grind (arith, nat_tests, low) in ap (λ b. if b then Links else Casts) none)
cast_kind boot (header.Fragmenter fragment) low is = (let none : is_epoch boot ≡ false = grind (arith, nat_tests, low) in ap (λ b. if b then Links else Casts) none)
cast_kind boot other low is = is

kind_there : (boot set : ℕ) (p : Fields) → boot < 2 ^ 32 → set < 2 ^ 32 → Fits p → kind_of 0 p.header ≡ Casts → kind_in (frame_of boot set (spelling p)) ≡ Casts
unfolding kind_in
kind_there boot set p low small fits is =
    ap (λ xs. kind_of (first_of (frame_of boot set (spelling p))) (fields_at xs).header) (drop_at (envelope boot set) (spelling p) 16 (length-envelope boot set))
    ∙ (ap (λ first. kind_of first (fields_at (spelling p)).header) (first_of-frame boot set (spelling p) (omega (arith, low))) ∙ (ap (λ (q : Fields). kind_of boot q.header) (again p fits) ∙ cast_kind boot p.header low is))

-- what an entry of a list is for
entry_for : (line : List Accepted) (word x c : ℕ) (e : Accepted) → slice_get line x ≡ Some e → mark line word x ≡ Some c → is_some (e.members word) ≡ true
unfolding mark
entry_for line word x c e there marked = (let is : e.members word ≡ Some c = ap (mark_in word) (sym there) ∙ marked in ap (λ o. is_some o) is)

-- the word of a node
node_is : (b : ℕ) → IsNumber b → IsNodeWord (node_word b)
node_is b number =
    let low = number.0 in
    let high = number.1 in
    (omega (arith, low), omega (arith, high))

few_members : (set : ℕ) → set < 2 ^ 32 → members_in set ≡ set
few_members set small = omega (arith, small)

contains_at : {A : Type 0} (xs : List A) (k : ℕ) (x : A) → slice_get xs k ≡ Some x → Contains xs x
contains_at xs k x there = (k, slice_get_within xs k x there, get_or_from_slice_get xs k x x there)

-- A node whose link to another one is up: its broadcast link is its own, the bearer is mended, and it knows the other
-- one.
pub record IsOpenOn (a b bearer : ℕ) (m : MemberState) : Type 0 where
  pub own : m.node.casting.own ≡ node_word a
  pub mended : slice_index_or m.node.casting.mended bearer false ≡ true
  pub mended_there : is_mended_on m.node.mended bearer ≡ true
  pub knows : is_some (slice_index_or m.node.neighbours b None) ≡ true

on_its_list : (mended : Bool × Bool) (bearer : ℕ) → bearer ≤ 1 → is_mended_on mended bearer ≡ true → slice_index_or (mended.0 ∷ mended.1 ∷ []) bearer false ≡ true
on_its_list mended zero one is = is
on_its_list mended (suc zero) one is = is
on_its_list mended (suc (suc more)) one is = absurd (omega (arith, one))

pub open_on : (start w : WorldState) (a b bearer : ℕ) (m : MemberState) → IsKept start → IsPoised start → IsCalmWorld start w → WasUp start a b bearer → slice_index_or w.members a None ≡ Some m → IsOpenOn a b bearer m
open_on start w a b bearer m kept_start poised calm u there =
    let kept = calm.on.kept kept_start in
    let e = (up_sides start w a b bearer m kept_start poised calm u.there u.apart u.on_one there u.up).here.link in
    let first = (kept_abreast m.node b (kept.nodes.shared a m there).told).first in
    let right = kept.nodes.ends a m there in
    let stand = kept_by (BothStand m.node.mended) m.node b (λ none. record { near = tt; far = tt }) (right.stand b) in
    let mended = up_mended m.node.mended (pair_with m.node b) bearer e.end first u.on_one stand e.near e.up in
    let is = (kept.nodes.cast_links a m there).node in
    record {
      own = is.own ∙ (kept.nodes.sound.numbered a m there).1;
      mended = ap (λ bs. slice_index_or bs bearer false) is.mended ∙ on_its_list m.node.mended bearer u.on_one mended;
      mended_there = mended;
      knows = end_known bearer (neighbour_of m.node b) (ap (λ o. is_some o) e.with_it);
    }

-- the frame in which a packet leaves again
record BringsOne (a b : ℕ) (v : Casting) (frame : List ℕ) (number : ℕ) : Type 0 where
  set : ℕ
  packet : Fields
  from : IsFrom a (numbered_frame number frame) v.boot set packet
  kind : kind_in (numbered_frame number frame) ≡ Casts
  number_is : packet.sequence ≡ number
  meant : is_member (node_word b) (members_in set) ≡ true

brings_one : {w : WorldState} {a b own theirs : ℕ} {v u : Casting} (h : CastPair w a b own theirs v u) (number : ℕ) → number < 2 ^ 16 → IsNumber b → v.own ≡ node_word a → (f : FirstKept (line_of h.group) v) → acked_of v.sending < v.sending.numbered → h.credited.credit.acked ≤ acked_of v.sending
    → BringsOne a b v f.frame number
brings_one {w} {a} {b} {own} {theirs} {v} {u} h number small b_is word f waits acked =
    let x = acked_of v.sending in
    let stands = f.stands in
    let e = stands.entry in
    let contact = contact_of own theirs in
    let piece = (All-contains (λ (d : Accepted). IsSentPiece v.own d.packet) (line_of h.group) e (h.pieces h.group.caster.boot) (contains_at (line_of h.group) x e stands.there)).piece in
    let p = sent_as 0 number v.own piece.fields in
    let fits = piece.fits number small in
    let boot = h.boot_fits in
    let set_fits = stands.set_fits in
    let spelled : numbered_frame number f.frame ≡ frame_of v.boot stands.set (spelling p) =
    ap (numbered_frame number) stands.is ∙ (frames_are_stamped v.own v.boot stands.set number e.packet stands.long ∙ (ap (λ k. frame_of v.boot stands.set (stamped 0 number v.own k)) piece.spelled ∙ ap (frame_of v.boot stands.set) (stamped-spelling piece.fields 0 number v.own))) in
    let keeps = h.law.each (node_word b) in
    let from = keeps.acked_from contact (h.credited.credit.start - 1) h.member.joined h.credited.begun in
    let acked_is = h.credited.acked in
    let all = h.stands.accepted_all in
    let marked = keeps.all contact (h.credited.credit.start - 1) x h.member.joined h.credited.begun (omega (arith, from, acked_is, acked)) (omega (arith, all, waits)) in
    record {
      set = stands.set;
      packet = p;
      from = record { es_fits = omega (arith, boot); er_fits = omega (arith, set_fits); fits = fits; frame_is = spelled; previous = word };
      kind = ap kind_in spelled ∙ kind_there v.boot stands.set p boot set_fits fits piece.kind;
      number_is = refl;
      meant = ap (is_member (node_word b)) (few_members stands.set set_fits) ∙ (stands.members (node_word b) (node_is b b_is) ∙ entry_for (line_of h.group) (node_word b) x contact e stands.there marked);
    }

-- a boot stays
pub boot_on : (boot : ℕ) → KeepsLink (λ v. boot ≡ v.boot)
boot_on boot v u goes is = is ∙ sym goes.boot

-- what it lacks is shown
shown_waits : (position so_far wanted shown : ℕ) → (position ≤ so_far) ⊎ (wanted + (position - so_far) ≤ shown) → so_far < position → wanted < shown
shown_waits position so_far wanted shown (inl taken) waits = absurd (omega (arith, taken, waits))
shown_waits position so_far wanted shown (inr more) waits = omega (arith, more, waits)

-- through a round
module _ {start : WorldState} {places : Places} {outset : WorldState} {ends : Places} {now : WorldState} {r : IsRound places outset ends now} (k : CalmRound start places outset ends now r) {a b bearer : ℕ} (u : WasUp start a b bearer) where
  -- the member that lacks a packet tells a gap
  gap_told : (position : ℕ) (known : MemberIs outset (IsCastKnown position) a b) → known.so.so_far < position → 1 ≤ gap_to known.so.window known.kept.shown
  gap_told position known waits =
      let own = (footing_at start a b).contact in
      let theirs = (footing_at start b a).contact in
      let w = known.so.window in
      let pair = pair_stands start outset a b bearer known.caster known.member k.kept k.poised k.calm u known.caster_is known.member_is in
      let same : pair.kept ≡ known.kept = (let both : Some pair.kept ≡ Some known.kept = sym pair.heard ∙ known.kept_is in cc) in
      let in_step : pair.kept.window ≡ Some w = ap (λ (c : Contact). c.window) same ∙ known.so.in_step in
      let more = shown_waits position known.so.so_far w.wanted known.kept.shown known.so.known waits in
      let shown_is = ap (λ (c : Contact). c.shown) same in
      let gap = (gaps_are_told pair.group (node_word b) (contact_of own theirs) _ 0 0 pair.kept w pair.member (wants_place pair w in_step).1 in_step (omega (arith, more, shown_is))).some in
      subst (λ (c : Contact). 1 ≤ gap_to w c.shown) same (subst (λ o. 1 ≤ (shown_in 0 0 pair.kept.shown o).gap) in_step gap)

  -- what node a heard: it released the packet, or the member acknowledged it before and so has taken it, or it sends it
  -- again
  asked : (position : ℕ) (known : MemberIs outset (IsCastKnown position) a b) → IsCastAwaited position known.caster.node.casting → known.so.so_far < position → (h : CastHeard start outset r.ticked now b a bearer) → (before : MemberIs h.before (IsCastKnown position) a b)
      → ToldAt start outset r.ticked now a b bearer h before.member known.kept known.so.window known.so.so_far → CastsAs now (IsCastReleased position) a ⊎ (MemberIs now (HasTakenCast position) a b ⊎ CastIsOnItsWay ends now a b bearer position)
  asked position known due waits h before t =
      let v = h.member.node.casting in
      let x = known.so.so_far in
      let goes = h.since.casts.links a known.caster h.member known.caster_is h.member_is in
      let now_due = awaited_on position known.caster.node.casting v goes due in
      let low = known.so.wants.low in
      let first = due.first in
      let more = goes.acked in
      elim (cases_lt (acked_of v.sending) position) [
        | inr released ↦ inl (casts_on start h.after now (IsCastReleased position) a (released_on position) h.later (casts_on start h.before h.after (IsCastReleased position) a (released_on position) h.step (h.member, h.member_is, released)))
        | inl below ↦ elim (cases_lt x t.shows.contact.acked) [
          | inl acked ↦ inr (inl (has_it before t (omega (arith, acked, first, low))))
          | inr not_yet ↦ inr (inr (again t now_due (omega (arith, waits, low, first)) (omega (arith, waits, low, first, more, below)) not_yet (gap_told position known waits)))
        ]
      ]
    where
      -- both are what node a keeps of the member
      one_credit : (t : ToldAt start outset r.ticked now a b bearer h before.member known.kept known.so.window known.so.so_far) → t.pair.credited.credit ≡ t.shows.contact
      one_credit t = (let both : Some t.pair.credited.credit ≡ Some t.shows.contact = sym t.pair.credited.there ∙ t.shows.there in cc)

      has_it : (before : MemberIs h.before (IsCastKnown position) a b) (t : ToldAt start outset r.ticked now a b bearer h before.member known.kept known.so.window known.so.so_far) → position ≤ t.shows.contact.acked → MemberIs now (HasTakenCast position) a b
      has_it before t acked =
          let own = (footing_at start a b).contact in
          let theirs = (footing_at start b a).contact in
          let contact = contact_of own theirs in
          let pair = t.pair in
          let w = before.so.window in
          let same : before.kept ≡ pair.kept = (let both : Some before.kept ≡ Some pair.kept = sym before.kept_is ∙ pair.heard in cc) in
          let in_step : pair.kept.window ≡ Some w = ap (λ (c : Contact). c.window) (sym same) ∙ before.so.in_step in
          let wants = (wants_place pair w in_step).0 in
          let credit : pair.credited.credit ≡ t.shows.contact = (let both : Some pair.credited.credit ≡ Some t.shows.contact = sym pair.credited.there ∙ t.shows.there in cc) in
          let credit_acked = ap (λ (c : Contact). c.acked) credit in
          let acked_is = pair.credited.acked in
          let far = (pair.law.each (node_word b)).acked_place contact pair.member.joined in
          let taken : MemberIs h.before (HasTakenCast position) a b = record {
            caster = h.member;
            caster_is = h.member_is;
            member = before.member;
            member_is = before.member_is;
            kept = before.kept;
            kept_is = before.kept_is;
            so = record { window = w; in_step = before.so.in_step; so_far = place (pair.group.members (node_word b)) contact; wants = wants; taken = omega (arith, acked, credit_acked, acked_is, far) };
          } in
          member_on start h.after now (HasTakenCast position) a b bearer (taken_on position) u h.later (member_on start h.before h.after (HasTakenCast position) a b bearer (taken_on position) u h.step taken)

      again : (t : ToldAt start outset r.ticked now a b bearer h before.member known.kept known.so.window known.so.so_far) → IsCastAwaited position h.member.node.casting → position ≡ known.so.so_far + 1 → acked_of h.member.node.casting.sending ≡ known.so.so_far → t.shows.contact.acked ≤ known.so.so_far
          → 1 ≤ gap_to known.so.window known.kept.shown → CastIsOnItsWay ends now a b bearer position
      again t due next acked not_yet gap =
          let v = h.member.node.casting in
          let word = node_word b in
          let numbered = due.numbered in
          let waits : acked_of v.sending < v.sending.numbered = omega (arith, numbered, next, acked) in
          let first = first_kept (line_of t.pair.group) v t.pair.lined waits in
          let opens = open_on start h.before a b bearer h.member k.kept k.poised h.since.calm u h.member_is in
          let place_is = t.place_is in
          let gap_is = t.gap_is in
          let none : t.shows.place - acked_of v.sending ≡ 0 = omega (arith, place_is, acked) in
          let number = number_of (t.shows.place + 1) in
          let o : Outgoing = record { bearer = bearer; to = to.All; frame = numbered_frame number first.frame } in
          let asks : Contains (stating_frames v word h.seen) o = gaps_are_repeated t.pair.group v word bearer h.seen first.frame t.pair.stands t.pair.sending t.pair.casting t.in_step (omega (arith, gap, gap_is)) t.shows (omega (arith, not_yet, place_is)) (ap (slice_get v.sending.unacked) none ∙ first.there) u.on_one opens.mended in
          let left = h.leaves o asks refl in
          let credit = ap (λ (c : Contact). c.acked) (one_credit t) in
          let brings = brings_one t.pair number (number_of-below (t.shows.place + 1)) u.there opens.own first waits (omega (arith, credit, not_yet, acked)) in
          let behind = left.1 in
          let end_is = ap (place_on bearer) r.ends_are ∙ on_places r.ticked bearer u.on_one in
          record {
            place = left.0;
            behind = omega (arith, behind, end_is);
            frame = airborne (contact_at h.before.members a) h.after.members a o;
            there = left.2;
            brings = record {
              boot = v.boot;
              present = casts_on start h.after now (λ (w : Casting). v.boot ≡ w.boot) a (boot_on v.boot) h.later (casts_on start h.before h.after (λ (w : Casting). v.boot ≡ w.boot) a (boot_on v.boot) h.step (h.member, h.member_is, refl));
              set = brings.set;
              packet = brings.packet;
              from = brings.from;
              kind = brings.kind;
              sender = refl;
              to_all = refl;
              number = brings.number_is ∙ ap number_of (let one : t.shows.place + 1 ≡ position = omega (arith, place_is, next) in one);
              meant = brings.meant;
            };
          }

  -- ---- the second round: it is released, or taken, or on its way

  pub row_asked : (position : ℕ) → CastsAs outset (IsCastAwaited position) a → MemberIs outset (IsCastKnown position) a b → CastsAs now (IsCastReleased position) a ⊎ (MemberIs now (HasTakenCast position) a b ⊎ CastIsOnItsWay ends now a b bearer position)
  row_asked position (m, there, due) known = elim (cases_lt known.so.so_far position) [
    | inr all ↦ inr (inl (member_on start outset now (HasTakenCast position) a b bearer (taken_on position) u (going k u) (record {
      caster = known.caster;
      caster_is = known.caster_is;
      member = known.member;
      member_is = known.member_is;
      kept = known.kept;
      kept_is = known.kept_is;
      so = record { window = known.so.window; in_step = known.so.in_step; so_far = known.so.so_far; wants = known.so.wants; taken = all };
    })))
    | inl waits ↦
        let same : m ≡ known.caster = (let both : Some m ≡ Some known.caster = sym there ∙ known.caster_is in cc) in
        let h = tells_there k (back k u) known.member known.member_is in
        let before = member_on start outset h.before (IsCastKnown position) a b bearer (known_on position) u h.since known in
        let t = told_at start outset r.ticked now a b bearer h known.caster known.member before.member known.kept known.so.window known.so.so_far k.kept k.poised k.calm u known.caster_is known.member_is before.member_is known.kept_is known.so.in_step known.so.wants in
        asked position known (subst (λ (x : MemberState). IsCastAwaited position x.node.casting) same due) waits h before t
  ]
