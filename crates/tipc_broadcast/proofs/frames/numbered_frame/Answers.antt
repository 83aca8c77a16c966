use Rattle.std.proofs.Common.{◌≡◌, ◌-◌, ◌++◌, length, take, drop, ap, ◌∙◌, append_assoc, length-drop, arith}
use Rattle.std.proofs.lemmas.List.{take_all}
use Rattle.std.specs.Int.{w32, to_be_bytes}
use Rattle.tipc_broadcast.specs.Frames.{numbered_frame}
use Rattle.tipc_broadcast.proofs.frames.numbered_frame.Goals as goal

pub returns : goal.returns
unfolding numbered_frame
returns c =
    let frame = c.args.frame.now in
    let front = c.in_ok-extend_from_slice.ensures.items ∙ ap (λ xs. xs ++ take 24 frame) c.in_ok-numbered.ensures.items in
    let word : c.to_be_bytes-word.result ≡ to_be_bytes w32 c.args.number = c.to_be_bytes-word.ensures ∙ ap (to_be_bytes w32) c.from.ensures in
    let behind : take (length frame - 28) (drop 28 frame) ≡ drop 28 frame = take_all (length frame - 28) (drop 28 frame) (omega (arith, length-drop 28 frame)) in
    let middle = c.in_ok-extend_from_slice-2.ensures.items ∙ ap (λ xs. xs ++ c.to_be_bytes-word.result) front ∙ ap (λ xs. take 24 frame ++ xs) word in
    c.from_vec.ensures ∙ c.in_ok-extend_from_slice-3.ensures.items ∙ ap (λ xs. xs ++ take (length frame - 28) (drop 28 frame)) middle
    ∙ ap (λ xs. (take 24 frame ++ to_be_bytes w32 c.args.number) ++ xs) behind ∙ append_assoc (take 24 frame) (to_be_bytes w32 c.args.number) (drop 28 frame)
