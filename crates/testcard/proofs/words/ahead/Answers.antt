-- `ahead`: the first plus is the definition's.
use Rattle.std.proofs.Common.{rules, tests, ◌∙◌, sym}
use Rattle.std.proofs.lemmas.Iterator.{YieldsList-from_slice}
use Rattle.std.proofs.lemmas.Iterator.Search.{position_from_yields_List}
use Rattle.testcard.proofs.Parts.{plus, Position, ahead_some, ahead_none}
use Rattle.testcard.proofs.words.ahead.Goals as goal

pub returns-in-Some : goal.returns-in-Some
returns-in-Some c =
    let e : Position c.args.word.now c.position.result = position_from_yields_List plus _ _ c.position.result c.position.ensures.ran (YieldsList-from_slice _ c.iter.ensures.rest) (λ x b q k. search (rules, tests)) in
    ahead_some _ _ (sym c.in-Some.is ∙ e)

pub returns-in-None : goal.returns-in-None
returns-in-None c =
    let e : Position c.args.word.now c.position.result = position_from_yields_List plus _ _ c.position.result c.position.ensures.ran (YieldsList-from_slice _ c.iter.ensures.rest) (λ x b q k. search (rules, tests)) in
    ahead_none _ (sym c.in-None.is ∙ e)
