-- What `new` answers is one answer. Assumes nothing.
use mathlib.Core.Path.{◌≡◌, sym, ◌∙◌}
use Rattle.rules.proofs.Paper.{paper_one}
use Rattle.slate.specs.declared.Slate.{Slate}
use Rattle.slate.specs.declared.Slated.{Slated}
use Rattle.slate.specs.Slates.{SlatedAs}

pub slated_one : {s : Slate} (x y : Slated) → SlatedAs s x → SlatedAs s y → x ≡ y
slated_one x y p q = λ i. record { verdict = paper_one x.verdict y.verdict (p.says ∙ sym q.says) i; slate = (p.is ∙ sym q.is) i }
