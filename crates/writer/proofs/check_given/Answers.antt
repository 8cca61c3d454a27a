-- `check_given`: the tables, and then no refusal has a place.
use mathlib.Core.Path.{ap, sym, ◌∙◌}
use Rattle.rules.specs.Rules.{fine, placeless, tables}
use Rattle.rules.proofs.Judge.{judge_unplaced}
use Rattle.writer.specs.Given.{given, parts}
use Rattle.writer.specs.Lent.{lent}
use Rattle.writer.proofs.check_given.Goals as goal

pub returns : goal.returns
unfolding given
returns c =
    c.placeless.ensures ∙ ap placeless c.check_placed.ensures ∙ sym (judge_unplaced fine (tables (parts c.args.h (lent c.args.e) c.args.n)))
