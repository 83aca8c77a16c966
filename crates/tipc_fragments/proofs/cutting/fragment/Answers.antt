use Rattle.std.proofs.Common.{◌≤◌, length, arith}
use Rattle.tipc_fragments.proofs.CutLaws.{is_piece, sent_fits}
use Rattle.tipc_fragments.specs.Cutting.{piece_of}
use Rattle.tipc_fragments.proofs.cutting.fragment.Goals as goal

pub encode-requires : goal.encode-requires
encode-requires c =
    let is = is_piece c.args.message.now c.args.before c.requires.before in
    let some : 1 ≤ length c.bytes_after.result.now = rw c.bytes_after.ensures is.some in
    let most : length c.bytes_after.result.now ≤ 1412 = rw c.bytes_after.ensures is.most in
    sent_fits (piece_of c.kind.result _ c.bytes_after.result.now) 0 0 0 (omega arith) (omega arith) some most (omega arith) (omega arith) (omega arith)
