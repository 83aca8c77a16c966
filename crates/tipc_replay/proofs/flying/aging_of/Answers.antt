-- What the age of a frame is counted by, as it is read.
use Rattle.std.proofs.Common.{◌∙◌, ap, length, refl, sym}
use Rattle.tipc_header.specs.declared.frames.FrameKind.TheVariants.{Casts, Finds, Links}
use Rattle.tipc_header.specs.Faults.{fault_of}
use Rattle.tipc_header.specs.Frames.{first_of}
use Rattle.tipc_header.specs.Spelling.{view}
use Rattle.tipc_replay.specs.declared.flying.Aging.TheVariants as aging
use Rattle.tipc_replay.specs.Due.{aging_by_header}
use Rattle.tipc_replay.proofs.frames.Agings.{faulty_aging, frame_sized, read_aging, unsized_aging}
use Rattle.tipc_replay.proofs.flying.aging_of.Goals as goal

pub returns-in_default : goal.returns-in_default
returns-in_default c = sym (unsized_aging c.args.frame.now (c.in_default.ensures.none.0 refl))

pub returns-in_default-decode : goal.returns-in_default-decode
returns-in_default-decode c =
    let bytes = c.args.frame.now in
    let size = frame_sized (length bytes) c.in-Some.ensures.none.1 in
    sym (faulty_aging bytes c.in_default-decode.field-0 size (ap fault_of (sym c.in-Some.ensures.places.2) ∙ c.in_default-decode.ensures.fault))

pub returns-in-Finds : goal.returns-in-Finds
returns-in-Finds c =
    let bytes = c.args.frame.now in
    let places = c.in-Some.ensures.places in
    let size = frame_sized (length bytes) c.in-Some.ensures.none.1 in
    sym (read_aging bytes c.in-Some.opened.packet.now c.in-Some.opened.first (view c.in-Ok.packet) Finds size places.0 places.2 c.in-Ok.ensures.fault c.in-Ok.ensures.read (sym c.in-Finds.ensures))

pub returns-in-Casts : goal.returns-in-Casts
returns-in-Casts c =
    let bytes = c.args.frame.now in
    let places = c.in-Some.ensures.places in
    let size = frame_sized (length bytes) c.in-Some.ensures.none.1 in
    ap aging.Cast places.0
    ∙ sym (read_aging bytes c.in-Some.opened.packet.now c.in-Some.opened.first (view c.in-Ok.packet) Casts size places.0 places.2 c.in-Ok.ensures.fault c.in-Ok.ensures.read (sym c.in-Casts.ensures))

pub returns-in-Links : goal.returns-in-Links
returns-in-Links c =
    let bytes = c.args.frame.now in
    let places = c.in-Some.ensures.places in
    let size = frame_sized (length bytes) c.in-Some.ensures.none.1 in
    let h = (view c.in-Ok.packet).header in
    c.aging_by_header.ensures ∙ ap (λ n. aging_by_header n c.in-Some.opened.second h) places.0 ∙ ap (λ n. aging_by_header (first_of bytes) n h) places.1
    ∙ sym (read_aging bytes c.in-Some.opened.packet.now c.in-Some.opened.first (view c.in-Ok.packet) Links size places.0 places.2 c.in-Ok.ensures.fault c.in-Ok.ensures.read (sym c.in-Links.ensures))
