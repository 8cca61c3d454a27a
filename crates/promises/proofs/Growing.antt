-- Laws for Night: what a call of `add` comes to by its definitions. A run that is full keeps all and says RUN; else the file's own checks answer, and
-- the run grows by them.
-- Assumes nothing.
use Rattle.std.proofs.Common.{◌≡◌, refl, sym, ap, ◌∙◌, Bool, true, false, not, ◌&&◌, List, [], ◌∷◌, ◌++◌, append-nil, ℕ, zero, suc, ◌+◌, ◌<◌, ◌≤◌, arith, eq-eqb, ne_eqb, le-ltb, eqb, pos, get_or, set}
use Rattle.std.proofs.Math.Bool.{false≢true, and-eq-true_iff}
use borrow.Author.Tests.{lt-leb}
use Rattle.rules.specs.Rules.{Row, test, turned, fine, refused, judge, after}
use Rattle.rules.proofs.Judge.{judge_refused}
use Rattle.accept.specs.Checks.{shape, entries, shape1, fields1, fixed2, fields2, fixed5, fields5, fields7, sums, names, ends, blocks1to4, blocks5to7, blocks8to11, whole, checks}
use Rattle.totals.specs.Files.{totals_of}
use Rattle.night.specs.declared.Run.{Run}
use Rattle.night.specs.Runs.{small_to, held_by, open_run, opening, adding, added, with_totals, with_refusal, ruled_run, run_after, extra_of, extra_after}
use Rattle.night.proofs.Running.{Open}

pub open_is : (r : Run) → Open r → open_run r ≡ true
unfolding open_run
open_is r o =
    rw (
      lt-leb 4096 (held_by r) o.held,
      le-ltb 1982464000000 r.totals.radiance o.radiance,
      le-ltb 1982464000000 r.totals.error o.error,
      le-ltb 1982464000000 r.totals.outside o.outside,
      le-ltb 1982464000000 r.totals.over o.over,
      le-ltb 1982464000000 r.totals.uncalibrated o.uncalibrated,
      o.refused,
    )

-- no place is above 4,096
pub small_all : (xs : List ℕ) (n : ℕ) → ((k : ℕ) → k < n → get_or xs k 0 ≤ 4096) → small_to n xs ≡ true
unfolding small_to
small_all xs zero h = refl
small_all xs (suc n) h = rw (le-ltb 4096 (get_or xs n 0) (h n (omega arith))) (small_all xs n (λ k l. h k (omega arith)))

-- ---- what is answered

pub run_first : (r : Run) (f : List ℕ) → open_run r ≡ false → added r f ≡ refused (turned 19 0 0)
unfolding adding opening
run_first r f o = rw o (judge_refused (turned 19 0 0) (checks f ++ []))

pub file_alone : (r : Run) (f : List ℕ) → open_run r ≡ true → added r f ≡ judge fine (checks f)
unfolding adding opening
file_alone r f o = rw (o, append-nil)

-- no file's own refusal is RUN
unfoldable none_is : ℕ → List Row → Bool
none_is n [] = true
none_is n (test ok (turned m b p) ∷ rs) = not (eqb m n) && none_is n rs

checks_never : (f : List ℕ) → none_is 19 (checks f) ≡ true
unfolding none_is shape entries shape1 fields1 fixed2 fields2 fixed5 fields5 fields7 sums names ends blocks1to4 blocks5to7 blocks8to11 whole checks
checks_never f = refl

never : (n : ℕ) (rs : List Row) (b p : ℕ) → none_is n rs ≡ true → judge fine rs ≡ refused (turned n b p) → ⊥
unfolding none_is
never n [] b p h e = let z : ◌≡◌ {A = ℕ} 0 1 = cc in omega arith
never n (test true (turned m k q) ∷ rs) b p h e = never n rs b p ((and-eq-true_iff (not (eqb m n)) (none_is n rs)).0 h).1 e
never n (test false (turned m k q) ∷ rs) b p h e =
    let z : refused (turned m k q) ≡ refused (turned n b p) = sym (judge_refused (turned m k q) rs) ∙ e in
    let y : m ≡ n = cc in
    false≢true (ap not (sym (eq-eqb m n y)) ∙ ((and-eq-true_iff (not (eqb m n)) (none_is n rs)).0 h).0)

pub own_other : (f : List ℕ) (n b p : ℕ) → judge fine (checks f) ≡ refused (turned n b p) → n ≡ 19 → ⊥
own_other f n b p e i = never 19 (checks f) b p (checks_never f) (e ∙ rw i)

-- ---- what the run holds then, and what is told beside it

pub kept_run : (r : Run) (f : List ℕ) → open_run r ≡ false → run_after r f ≡ r
unfolding run_after ruled_run with_refusal
kept_run r f o = rw (run_first r f o)

pub fine_run : (r : Run) (f : List ℕ) → added r f ≡ fine → run_after r f ≡ with_totals r (totals_of f)
unfolding run_after ruled_run
fine_run r f e = rw e

pub one_more : (r : Run) (f : List ℕ) (n b p : ℕ) → added r f ≡ refused (turned n b p) → (n ≡ 19 → ⊥)
    → run_after r f ≡ record { totals = r.totals; accepted = r.accepted; refused = set r.refused n (get_or r.refused n 0 + 1) }
unfolding run_after ruled_run with_refusal
one_more r f n b p e other = rw (e, ne_eqb n 19 other)

pub fine_extra : (r : Run) (f : List ℕ) → added r f ≡ fine → extra_after r f ≡ extra_of f
unfolding extra_after after
fine_extra r f e = rw e

pub no_extra : (r : Run) (f : List ℕ) (n b p : ℕ) → added r f ≡ refused (turned n b p) → extra_after r f ≡ pos 0
unfolding extra_after after
no_extra r f n b p e = rw e
