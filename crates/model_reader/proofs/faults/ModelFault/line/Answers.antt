use Rattle.std.proofs.Common.{Some, codes, ap, refl}
use Rattle.text_specs.specs.ModelTexts.{limit_word}
use Rattle.model_reader.proofs.LineLemmas.{name_told, syntax_told, limit_told, told_as}
use Rattle.model_reader.proofs.faults.ModelFault.line.Goals as goal
use Rattle.model_reader.proofs.faults.ModelFault.line.Goals.{in-Long+in_ok-line-in-Long, in-Syntax+in_ok-line-in-Syntax, in-Limit+in_ok-line-in-Limit, in-UnknownName+in_ok-line-in-UnknownName, in-RepeatedName+in_ok-line-in-RepeatedName, in-MissingSlope+in_ok-line-in-MissingSlope, in-EmptyBox+in_ok-line-in-EmptyBox, in-Passes+in_ok-line-in-Passes}

pub returns : goal.returns
returns c = elim c.match-self.branch [
  | in-Long+in_ok-line-in-Long w ↦ told_as _ _ _ _ _ w.in-Long.is w.line-is w.in_ok-line-in-Long.ensures refl
  | in-Syntax+in_ok-line-in-Syntax w ↦
      told_as _ _ _ _ _ w.in-Syntax.is w.line-is w.in_ok-line-in-Syntax.ensures (ap Some (syntax_told w.in-Syntax.line w.in-Syntax.column))
  | in-Limit+in_ok-line-in-Limit w ↦
      told_as _ _ _ _ _ w.in-Limit.is w.line-is w.in_ok-line-in-Limit.ensures (ap Some (limit_told w.in-Limit.line (limit_word w.in-Limit.which)))
  | in-UnknownName+in_ok-line-in-UnknownName w ↦
      told_as _ _ _ _ _ w.in-UnknownName.is w.line-is w.in_ok-line-in-UnknownName.ensures (ap Some (name_told w.in-UnknownName.line (codes "unknown") w.in-UnknownName.name))
  | in-RepeatedName+in_ok-line-in-RepeatedName w ↦
      told_as _ _ _ _ _ w.in-RepeatedName.is w.line-is w.in_ok-line-in-RepeatedName.ensures (ap Some (name_told w.in-RepeatedName.line (codes "repeated") w.in-RepeatedName.name))
  | in-MissingSlope+in_ok-line-in-MissingSlope w ↦
      told_as _ _ _ _ _ w.in-MissingSlope.is w.line-is w.in_ok-line-in-MissingSlope.ensures (ap Some (name_told w.in-MissingSlope.line (codes "slope") w.in-MissingSlope.name))
  | in-EmptyBox+in_ok-line-in-EmptyBox w ↦
      told_as _ _ _ _ _ w.in-EmptyBox.is w.line-is w.in_ok-line-in-EmptyBox.ensures (ap Some (name_told w.in-EmptyBox.line (codes "box") w.in-EmptyBox.name))
  | in-Passes+in_ok-line-in-Passes w ↦
      told_as _ _ _ _ _ w.in-Passes.is w.line-is w.in_ok-line-in-Passes.ensures (ap Some (name_told w.in-Passes.line (codes "passes") w.in-Passes.name))
]
