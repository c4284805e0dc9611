use Rattle.std.proofs.Common.{[], ◌∷◌, ◌++◌, map, sym, ap, ◌∙◌, ap₂, arith}
use Rattle.std.proofs.lemmas.List.{map_more, take_all, take_more_set}
use Rattle.answers.proofs.answering.fill_labels.Goals as goal

pub loop-i-preserved : goal.loop-i-preserved
loop-i-preserved g c =
    take_more_set c.loop-i.labels c.loop-i.i c.from_number.result (omega arith)
    ∙ ap₂ (λ front label. front ++ label ∷ []) c.loop-i.invariant c.from_number.ensures
    ∙ sym (map_more g.L.Numbered.numbered c.args.numbers.now c.loop-i.i 0 c.loop-i-test.true)

pub returns : goal.returns
returns g c =
    sym (take_all c.loop-i.i c.loop-i.labels (omega arith)) ∙ c.loop-i.invariant
    ∙ ap (map g.L.Numbered.numbered) (take_all c.loop-i.i c.args.numbers.now c.loop-i-test.false)
