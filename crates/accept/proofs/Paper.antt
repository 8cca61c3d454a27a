-- The paper's words tell the answers apart: the way of saying them has an inverse. Assumes nothing.
use mathlib.Core.Path.{◌≡◌, refl, sym, ap, ◌∙◌}
use Rattle.std.specs.Prelude.{Result, Ok, Err}
use Rattle.rules.specs.Rules.{Reply, says, refuses, paper_reply}
use Rattle.rules.specs.declared.Refusal.{Refusal}
use Rattle.rules.proofs.Paper.{refusal_of, refusal_paper}
use Rattle.accept.specs.declared.Facts.{Facts}

abbrev answer_as : Reply Facts → Result Facts Refusal
answer_as (says f) = Ok f
answer_as (refuses t) = Err (refusal_of t)

answer_back : (r : Result Facts Refusal) → answer_as (paper_reply r) ≡ r
answer_back (Ok f) = refl
answer_back (Err t) = ap Err (refusal_paper t)

pub paper_answer_one : (x y : Result Facts Refusal) → paper_reply x ≡ paper_reply y → x ≡ y
paper_answer_one x y e = sym (answer_back x) ∙ ap answer_as e ∙ answer_back y
