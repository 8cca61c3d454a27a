-- Words that programs print.
use Rattle.std.specs.Prelude.{ℕ, zero, suc, List, cond, length, get_or, take, eqb}
use Rattle.rules.specs.Rules.{Ruling, fine, refused}
use Rattle.listing.specs.Lines.{refusal_words}

-- what a verdict says: the word for what was done, or what its refusal says
unfoldable pub spoken : Ruling → List ℕ → List ℕ
spoken fine done = done
spoken (refused t) done = refusal_words t

-- how many of the first n bytes of s there are up to the last that is no blank
unfoldable pub used : List ℕ → ℕ → ℕ
used s zero = 0
used s (suc n) = cond (eqb (get_or s n 0) 32) (used s n) (suc n)

-- s without the blanks at its end
unfoldable pub trimmed : List ℕ → List ℕ
trimmed s = take (used s (length s)) s
