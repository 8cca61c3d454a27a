-- Laws of heights: the functions' words for the cut of a slate are document 02's. Assumes nothing.
use Rattle.std.proofs.Common.{◌≡◌, refl, sym, subst, ◌∙◌, ◌↔◌, ⊎_elim, true, ℕ, zero, suc, ◌+◌, ◌*◌, ◌-◌, ◌≤◌, add_comm, eq-or-lt_of_le, le_of_suc-le-suc, arith, leb-true, le-leb}
use Rattle.slate.specs.declared.Slate.{Slate}
use Rattle.slate.specs.Cut.{height_in, height_of, lines_to, all_tall}
use Rattle.slate.specs.Slates.{frame_size}
use Rattle.slate.proofs.Cuts.{lines_none, lines_more, lines_step, Covers, cover_one}
use Rattle.tiling.proofs.Lawful.{both, and}
use Rattle.promises.specs.Heights.{height, lines_of, Covering}

-- ---- the functions' words are these

pub height_is : (s : Slate) (k : ℕ) → height_of s k ≡ height s k
unfolding height_of height_in
height_is s k = refl

pub lines_are : (s : Slate) (n : ℕ) → lines_to s n ≡ lines_of s n
lines_are s zero = lines_none s
lines_are s (suc n) = lines_more s n ∙ rw (lines_are s n, height_is s (suc n))

pub begin_is : (s : Slate) (k : ℕ) → lines_to s (k - 1) + 1 ≡ 1 + lines_of s (k - 1)
begin_is s k = rw (lines_are s (k - 1)) (add_comm (lines_of s (k - 1)) 1)

pub whole_is : (s : Slate) → frame_size s ≡ lines_of s s.total * s.columns
whole_is s = rw (lines_are s s.total)

tall_is : (s : Slate) (n : ℕ) → all_tall s n ≡ true → (k : ℕ) → 1 ≤ k → k ≤ n → 1 ≤ height s k
unfolding all_tall
tall_is s zero e k a b = absurd (omega arith)
tall_is s (suc n) e k a b =
    let h = both (all_tall s n) _ e in
    ⊎_elim (λ q. rw q (subst (λ (m : ℕ). 1 ≤ m) (height_is s (suc n)) (leb-true 1 (height_of s (suc n)) h.1))) (λ l. tall_is s n h.0 k a (le_of_suc-le-suc l)) (eq-or-lt_of_le b)

tall_of : (s : Slate) (n : ℕ) → ((k : ℕ) → 1 ≤ k → k ≤ n → 1 ≤ height s k) → all_tall s n ≡ true
unfolding all_tall
tall_of s zero h = refl
tall_of s (suc n) h = and (tall_of s n (λ k a b. h k a (omega arith))) (le-leb 1 (height_of s (suc n)) (subst (λ (m : ℕ). 1 ≤ m) (sym (height_is s (suc n))) (h (suc n) (omega arith) (omega arith))))

pub tall_exactly : (s : Slate) (n : ℕ) → (all_tall s n ≡ true) ↔ ((k : ℕ) → 1 ≤ k → k ≤ n → 1 ≤ height s k)
tall_exactly s n = (tall_is s n, tall_of s n)

-- ---- the segment that covers a line is one

pub covers_is : (s : Slate) (line k : ℕ) → Covers s line k → Covering s line k
covers_is s line k c = record {
  some = c.some;
  most = c.most;
  begins = omega (arith, c.after, lines_are s (k - 1));
  ends = omega (arith, c.upto, lines_step s k c.some, lines_are s (k - 1), height_is s k);
}

covers_of : (s : Slate) (line k : ℕ) → Covering s line k → Covers s line k
covers_of s line k c = record {
  some = c.some;
  most = c.most;
  after = omega (arith, c.begins, lines_are s (k - 1));
  upto = omega (arith, c.ends, lines_step s k c.some, lines_are s (k - 1), height_is s k);
}

pub one_covers : (s : Slate) (line j k : ℕ) → Covering s line j → Covering s line k → j ≡ k
one_covers s line j k p q = cover_one s line j k (covers_of s line j p) (covers_of s line k q)
