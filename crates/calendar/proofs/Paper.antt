-- The paper's words tell the answers apart: each way of saying them has an inverse. Assumes nothing.
use mathlib.Core.Path.{◌≡◌, refl, sym, ap, ◌∙◌}
use Prim.Native.Nat.{ℕ}
use lib.IntN.{ℤ}
use Rattle.std.specs.Prelude.{Option, Some, None, Result, Ok, Err}
use Rattle.rules.specs.Rules.{Reply, says, refuses, paper_reply}
use Rattle.rules.specs.declared.Refusal.{Refusal}
use Rattle.rules.proofs.Paper.{refusal_of, refusal_paper}
use Rattle.calendar.specs.Dates.{paper_day}

abbrev dated_as : Reply ℕ → Option ℕ
dated_as (says n) = Some n
dated_as (refuses t) = None

dated_back : (r : Option ℕ) → dated_as (paper_day r) ≡ r
unfolding paper_day
dated_back (Some n) = refl
dated_back None = refl

pub paper_day_one : (x y : Option ℕ) → paper_day x ≡ paper_day y → x ≡ y
paper_day_one x y e = sym (dated_back x) ∙ ap dated_as e ∙ dated_back y

abbrev answer_as : {A : Type 0} → Reply A → Result A Refusal
answer_as (says a) = Ok a
answer_as (refuses t) = Err (refusal_of t)

answer_back : {A : Type 0} (r : Result A Refusal) → answer_as (paper_reply r) ≡ r
answer_back (Ok a) = refl
answer_back (Err t) = ap Err (refusal_paper t)

paper_reply_one : {A : Type 0} (x y : Result A Refusal) → paper_reply x ≡ paper_reply y → x ≡ y
paper_reply_one x y e = sym (answer_back x) ∙ ap answer_as e ∙ answer_back y

pub paper_slot_one : (x y : Result ℕ Refusal) → paper_reply x ≡ paper_reply y → x ≡ y
paper_slot_one x y e = paper_reply_one x y e

pub paper_frame_one : (x y : Result ℤ Refusal) → paper_reply x ≡ paper_reply y → x ≡ y
paper_frame_one x y e = paper_reply_one x y e
