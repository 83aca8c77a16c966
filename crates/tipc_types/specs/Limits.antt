-- The numbers of this project's profile that the definitions of several crates name.
use Rattle.std.specs.Prelude.{ℕ}

-- a link has at most so many packets that are numbered and not acknowledged
abbrev pub window_size : ℕ
window_size = 50

-- a packet of at most so many bytes is sent in one piece, and a longer one in fragments
abbrev pub most_packet_bytes : ℕ
most_packet_bytes = 1452

-- so many bytes are in a tunnel packet at most: a header of 48, and a packet
abbrev pub most_tunnel_bytes : ℕ
most_tunnel_bytes = 1500

-- so many bytes are in a frame at most: an envelope of 16, and a tunnel packet
abbrev pub most_frame_bytes : ℕ
most_frame_bytes = 1516

-- a frame may arrive as long as at most so many packets were numbered on its link since it was sent
abbrev pub most_age : ℕ
most_age = 30000
