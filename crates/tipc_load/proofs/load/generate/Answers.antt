use Rattle.std.proofs.Common.{◌≡◌, ◌++◌, ◌∷◌, [], ap, subst, ◌∙◌, arith, refl}
use Rattle.std.specs.List.{flat_map}
use Rattle.std.specs.Fmt.{digits}
use Rattle.tipc_load.specs.Spelling.{spelling_of}
use Rattle.tipc_load.specs.Load.{closing, drawn, drawn_line, drawn_lines, line_text, next_state, opening}
use Rattle.tipc_load.proofs.Drawing.{drawn_more, drawn_none, state_first, state_more, whole_script}
use Rattle.tipc_load.proofs.load.generate.Goals as goal

pub loop-init : goal.loop-init
unfolding digits opening
loop-init c = record { text = c.in_ok-script.ensures.items ∙ drawn_none c.args.seed (flat_map line_text opening); state = c.new-draws.ensures ∙ state_first c.args.seed }

pub loop-preserved : goal.loop-preserved
loop-preserved c =
    let l = c.loop in
    let state = c.draw.ensures.state ∙ ap next_state l.invariant.state ∙ state_more l.counter c.args.seed in
    let spelled = c.as_slice.ensures.value ∙ c.in_ok-line.ensures ∙ ap (λ v. spelling_of (drawn_line v)) (c.draw.ensures.number ∙ ap drawn state) in
    let line = ap (λ t. t ++ 10 ∷ []) spelled in
    record {
      text = c.in_ok-push_line.ensures ∙ drawn_more l.counter c.args.seed (flat_map line_text opening) l.script.items (c.as_slice.result.now ++ 10 ∷ []) l.invariant.text line;
      state = state;
    }

pub returns : goal.returns
unfolding digits closing
returns c =
    let l = c.loop in
    let all : l.counter ≡ 1000 = omega (arith, c.loop-test.false, l.auto.counter-end) in
    let text = subst (λ n. l.script.items ≡ flat_map line_text opening ++ flat_map line_text (drawn_lines n c.args.seed)) all l.invariant.text in
    c.in_ok-extend_from_slice.ensures.items ∙ whole_script c.args.seed l.script.items (flat_map line_text closing) text refl
