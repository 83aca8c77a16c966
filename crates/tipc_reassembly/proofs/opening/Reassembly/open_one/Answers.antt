use Rattle.std.proofs.Common.{refl, sym, ◌∙◌}
use Rattle.tipc_header.specs.Spelling.{view}
use Rattle.tipc_reassembly.proofs.OnePacket.{answer_brings, fragment_brings, message_brings, none_brings, other_brings, so_brings}
use Rattle.tipc_reassembly.proofs.opening.Reassembly.open_one.Goals as goal

pub returns-in_default-clause-ok : goal.returns-in_default-clause-ok
returns-in_default-clause-ok c =
    so_brings _ _ _ _ c.only.result _ (none_brings _ _ _ (λ p fits spelled. c.in_default.ensures.only p fits (c.as_slice-bytes.ensures ∙ spelled))) c.only.ensures

pub returns-in-Payload-clause-ok : goal.returns-in-Payload-clause-ok
returns-in-Payload-clause-ok c =
    let read = c.in-Ok.ensures.spells in
    answer_brings _ _ _ _ _ _ (message_brings _ _ _ (view c.in-Ok.packet) read.0 (sym c.as_slice-bytes.ensures ∙ read.1) c.in-Payload.is) (rw c.as_slice-bytes.ensures at c.message.ensures)

pub returns-in-Fragmenter-clause-ok : goal.returns-in-Fragmenter-clause-ok
returns-in-Fragmenter-clause-ok c =
    let read = c.in-Ok.ensures.spells in
    fragment_brings _ _ _ _ _ _ (record {
      packet = view c.in-Ok.packet;
      fragment = c.in-Fragmenter.fragment;
      fits = read.0;
      spelled = sym c.as_slice-bytes.ensures ∙ read.1;
      user = c.in-Fragmenter.is;
      piece_is = refl;
    }) c.join.ensures.ok

pub returns-in_default-header-clause-ok : goal.returns-in_default-header-clause-ok
returns-in_default-header-clause-ok c =
    let read = c.in-Ok.ensures.spells in
    let other = c.in_default-header in
    so_brings _ _ _ _ c.only-in_default-header.result _ (other_brings _ _ _ c.in-Ok.packet.header (record {
      packet = view c.in-Ok.packet;
      fits = read.0;
      spelled = sym c.as_slice-bytes.ensures ∙ read.1;
      header_is = refl;
    }) other.not-Payload other.not-NameDistributor other.not-Bundler other.not-Fragmenter) c.only-in_default-header.ensures
