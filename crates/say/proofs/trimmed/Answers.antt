-- `trimmed`: the last byte that is no blank, or none.
use borrow.Author.Rules.{rules}
use Rattle.say.proofs.Blanks.{trims_last, trims_all}
use Rattle.say.proofs.trimmed.Goals as goal

pub returns-in-Some : goal.returns-in-Some
returns-in-Some c = trims_last c.args.s.now c.in-Some.last _ (search rules) (search rules) (search rules) (search rules)

pub returns-in-None : goal.returns-in-None
returns-in-None c = trims_all c.args.s.now (search rules)
