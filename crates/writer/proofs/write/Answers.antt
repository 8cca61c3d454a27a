-- `write`: what nothing is wrong with is stored.
use mathlib.Core.Path.{sym, ap, ◌∙◌}
use Rattle.rules.specs.Rules.{paper}
use Rattle.writer.proofs.Written.{wrote_fine}
use Rattle.writer.proofs.write.Goals as goal

pub returns : goal.returns
returns c = wrote_fine _ _ _ _ _ (sym c.check_given.ensures ∙ ap paper c.in_ok-check_given.was) c.write_all.ensures
