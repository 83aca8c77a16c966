-- A frame names its sender.
use Rattle.std.proofs.Common.{◌≡◌, ◌+◌, ◌-◌, ◌&&◌, ℕ, true, List, Some, None, length, sym, ap, ◌∙◌, arith}
use Rattle.std.specs.Prelude.{drop, nat_le, nat_lt, take, if◌then◌else◌}
use Rattle.std.specs.Int.{from_be_bytes, w32}
use Rattle.std.proofs.lemmas.List.{drop-drop, drop_at, length-append}
use Rattle.std.proofs.lemmas.Bool.Decides.{nat_tests}
use Rattle.tipc_types.specs.Address.{node_word}
use Rattle.tipc_header.specs.Frames.{envelope}
use Rattle.tipc_header.specs.Reading.{word_at}
use Rattle.tipc_header.specs.Spelling.{Fields, spelling}
use Rattle.tipc_header.proofs.Again.{again}
use Rattle.tipc_header.proofs.FrameWords.{length-envelope, length-spelling}
use Rattle.tipc_node.specs.Turns.{IsFrom}
use Rattle.tipc_replay.specs.Members.{sender_of}
use Rattle.tipc_replay.specs.Readers.{node_number}
use Rattle.tipc_replay.specs.Sound.{IsNumber}
use Rattle.tipc_node.proofs.work.Senders.{previous_at}

behind : (bytes : List ℕ) → word_at 7 bytes ≡ word_at 3 (drop 16 bytes)
unfolding word_at
behind bytes = ap (λ bs. from_be_bytes w32 (take 4 bs)) (sym (drop-drop 12 16 bytes))

numbered : (b word : ℕ) → IsNumber b → word ≡ node_word b → node_number word ≡ Some b
unfolding node_number
numbered b word number is =
    let low = number.0 in
    let high = number.1 in
    let inside : (nat_lt (node_word 0) word && nat_le word (node_word 32)) ≡ true = grind (arith, nat_tests, low, high, is) in
    ap (λ t. if t then Some (word - node_word 0) else None) inside ∙ ap Some (omega (arith, is))

-- the frame that brings a packet of node b
pub sender_is : (b : ℕ) (bytes : List ℕ) (es er : ℕ) (p : Fields) → IsNumber b → IsFrom b bytes es er p → sender_of bytes ≡ Some b
sender_is b bytes es er p number from =
    let whole : length bytes ≡ length (envelope es er) + length (spelling p) = ap length from.frame_is ∙ length-append (envelope es er) (spelling p) in
    let head = length-envelope es er in
    let packet = length-spelling p in
    let long : nat_le 32 (length bytes) ≡ true = grind (arith, nat_tests, whole, head, packet) in
    let rest : drop 16 bytes ≡ spelling p = ap (drop 16) from.frame_is ∙ drop_at (envelope es er) (spelling p) 16 head in
    let word : word_at 7 bytes ≡ node_word b =
    behind bytes ∙ ap (word_at 3) rest ∙ sym (previous_at (spelling p)) ∙ ap (λ (q : Fields). q.previous) (again p from.fits) ∙ from.previous in
    ap (λ t. if t then node_number (word_at 7 bytes) else None) long ∙ numbered b (word_at 7 bytes) number word
