use Rattle.std.proofs.Common.{[], inl, inr, refl, subst, sym, arith}
use Rattle.tipc_header.specs.declared.packet.Header.{Header}
use Rattle.tipc_header.specs.Grammar.{Fits}
use Rattle.tipc_link.proofs.link.Link.notice.Goals as goal

pub encode_frame-requires : goal.encode_frame-requires
encode_frame-requires c =
    let F : Header → Type 0 = λ h. Fits (record { acknowledgement = 0; sequence = 0; previous = c.self.inside.own.word; header = h; rest = [] }) in
    elim c.requires.kind [
      | inl is ↦ subst F (sym is) (record {
        acknowledgement = omega arith;
        sequence = omega arith;
        previous = omega arith;
        header = c.requires.fits;
        numbering = (refl, refl);
        rest = refl;
        size = omega arith;
      })
      | inr is ↦ subst F (sym is) (record {
        acknowledgement = omega arith;
        sequence = omega arith;
        previous = omega arith;
        header = c.requires.fits;
        numbering = (refl, refl);
        rest = refl;
        size = omega arith;
      })
    ]
