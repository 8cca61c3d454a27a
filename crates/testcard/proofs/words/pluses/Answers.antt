-- `pluses`: a count is the definition's.
use Rattle.std.proofs.Common.{rules, ◌≡◌, ◌∙◌, sym}
use Rattle.std.specs.List.{count_by}
use Rattle.testcard.proofs.Parts.{plus, pluses_counted}
use Rattle.testcard.proofs.words.pluses.Goals as goal

pub returns : goal.returns
returns c = let e : c.count.result ≡ count_by plus c.args.word.now = search rules in e ∙ sym (pluses_counted _)
