-- What a packet that arrives at a pair must be, for what it takes to be the next packets that were put.
use Rattle.std.specs.Prelude.{◌≡◌, ◌≤◌, ℕ, false, true, Some}
use Rattle.tipc_header.specs.declared.packet.Header.TheVariants as header
use Rattle.tipc_header.specs.declared.packet.Reset.{Reset}
use Rattle.tipc_header.specs.Spelling.{Fields}
use Rattle.tipc_link_fsm.specs.declared.changes.Change.TheVariants.{Stay, Up}
use Rattle.tipc_link_fsm.specs.Table.{is_last, on_traffic}
use Rattle.tipc_link.specs.Links.{LinkEnd, is_traffic, record_of}
use Rattle.tipc_link.specs.Records.{kept_for}
use Rattle.tipc_link.specs.Sessions.{SessionEnd, content_of, receiving_record}
use Rattle.tipc_pair.specs.Facing.{PairEnds}
use Rattle.tipc_changeover.specs.Links.{State}
use Rattle.tipc_two_nodes.specs.links.Arriving.{IsHeardIn, MayBegin, MayBeginAt, ShowsLatest}
use Rattle.tipc_two_nodes.specs.links.Receiving.{IsSessionRecord}
use Rattle.tipc_two_nodes.specs.links.Traffic.{Traffic, epoch_of}

-- the near link's session hears a packet: its record is of a session of the sender's, and so is the packet
pub record MayGoOn (e : LinkEnd) (a : SessionEnd) (p : Fields) (t : Traffic) (s : State) : Type 0 where
  pub record_is : IsSessionRecord t.near (receiving_record a) s.near_record
  pub heard : IsHeardIn (t.near.line s.near_record.session) (receiving_record a) (content_of p)

-- or the link goes up with it, under the epoch of a session of the sender's
pub record MayRise (e : LinkEnd) (es : ℕ) (p : Fields) (t : Traffic) (s : State) : Type 0 where
  pub session : ℕ
  pub epoch_is : es ≡ epoch_of t.near.first session
  pub may : MayBegin s session
  pub heard : IsHeardIn (t.near.line session) (kept_for (record_of e) es) (content_of p)

-- A packet arrives under an envelope of these two epochs: it is heard, or takes the near link up, as it must; and so
-- does an ACTIVATE that shows the latest contact number, and beside a recent epoch the near end's own, which isn't the
-- last one of its boot.
pub record MayLand (x : PairEnds) (es er : ℕ) (p : Fields) (t : Traffic) (s : State) : Type 0 where
  pub goes_on : (e : LinkEnd) (a : SessionEnd) → x.near ≡ Some e → e.session ≡ Some a → is_traffic p.header ≡ true
      → (on_traffic e.fsm es er).change ≡ Stay → MayGoOn e a p t s
  pub rises : (e : LinkEnd) → x.near ≡ Some e → is_traffic p.header ≡ true → (on_traffic e.fsm es er).change ≡ Up
      → MayRise e es p t s
  pub activates : (said : Reset) (e : LinkEnd) → p.header ≡ header.Activate said → x.near ≡ Some e
      → ShowsLatest x said.contact → er ≡ e.fsm.own → is_last e.fsm.own ≡ false → e.fsm.highest ≤ es → MayBeginAt t s es
