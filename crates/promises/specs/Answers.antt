-- No second answer fits a contract.
use Rattle.std.specs.Prelude.{◌≡◌}

-- Two answers to one call, `Post` being the function's contract as its source has it, are the same in what `view` shows of them.
-- κ are the lifetimes of the call and a its arguments; x and y are results, and s and t what stands behind the references at exit.
abbrev pub One : {K : Type 0} {A R S B : K → Type 0} → ((κ : K) → R κ → S κ → B κ) → ((κ : K) → A κ → R κ → S κ → Type 0) → Type 0
One {K} {A} {R} {S} view Post = (κ : K) (a : A κ) (x y : R κ) (s t : S κ) → Post κ a x s → Post κ a y t → view κ x s ≡ view κ y t
