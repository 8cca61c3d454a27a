-- Laws on lists that are joined from segments of known sizes. The sizes are any: `z k` is that of segment k.
-- Assumes nothing.
use mathlib.Core.Path.{◌≡◌, refl, sym, ap, ◌∙◌}
use mathlib.Core.Logic.{⊎_elim}
use mathlib.Core.Bool.{cond}
use mathlib.Core.List.{List, ◌++◌, append-nil, append_assoc}
use Prim.Native.Nat.{ℕ, zero, suc, ◌+◌, ◌*◌, ◌<◌, ◌≤◌}
use native.Mathlib.Nat.{eq-or-lt_of_le, le_of_suc-le-suc, suc-mul}
use native.Mathlib.Omega.{arith}
use borrow.Author.Tests.{eq-eqb, ne_eqb}
use lib.Dec.{eqb}
use lib.ListN.{length, take, drop, length-append, length-drop, drop_of_length-le}
use lib.Seq.{take-append-le, drop-append-le, take_at, drop-append-add}
use Rattle.slate.proofs.Cuts.{rising}
use Rattle.frame.specs.Frames.{put_at}
use Rattle.assembly.specs.History.{joined}

-- the size of segments 1 to n: where segment n + 1 begins
abbrev pub sizes : (ℕ → ℕ) → ℕ → ℕ
sizes z zero = 0
sizes z (suc n) = sizes z n + z (suc n)

pub sizes_below : (z : ℕ → ℕ) (k n : ℕ) → k ≤ n → sizes z k ≤ sizes z n
sizes_below z = rising (sizes z) (λ n. omega arith)

-- segments of one size
pub sizes_even : (m n : ℕ) → sizes (λ _. m) n ≡ n * m
sizes_even m zero = omega arith
sizes_even m (suc n) = rw (sizes_even m n) (omega (arith, suc-mul n m))

module _ {A : Type 0} where
  pub joined_ext : (g h : ℕ → List A) (n : ℕ) → ((k : ℕ) → 1 ≤ k → k ≤ n → g k ≡ h k) → joined g n ≡ joined h n
  joined_ext g h zero e = refl
  joined_ext g h (suc n) e = rw (joined_ext g h n (λ k l m. e k l (omega arith)), e (suc n) (omega arith) (omega arith))

  pub joined_length : (z : ℕ → ℕ) (g : ℕ → List A) (n : ℕ) → ((k : ℕ) → length (g k) ≡ z k) → length (joined g n) ≡ sizes z n
  joined_length z g zero e = refl
  joined_length z g (suc n) e = simp length-append (omega (arith, joined_length z g n e, e (suc n)))

  -- a segment put in its place
  put_right : (a b v : List A) → length v ≡ length b → put_at (a ++ b) (length a) v ≡ a ++ v
  put_right a b v e = rw (take_at a b (length a) refl, drop_of_length-le (a ++ b) {i = length a + length v} (simp length-append (omega arith)), append-nil)

  put_left : (a b v : List A) (at : ℕ) → at + length v ≤ length a → put_at (a ++ b) at v ≡ put_at a at v ++ b
  put_left a b v at h =
      let h' : at ≤ length a = omega arith in
      rw (take-append-le at a b h', drop-append-le (at + length v) a b h) (sym (append_assoc (take at a ++ v) (drop (at + length v) a) b))

  abbrev pub with : (ℕ → List A) → ℕ → List A → ℕ → List A
  with g k v j = cond (eqb k j) v (g j)

  pub joined_put : (z : ℕ → ℕ) (g : ℕ → List A) (n k : ℕ) (v : List A) → ((j : ℕ) → length (g j) ≡ z j) → length v ≡ z (suc k) → k < n
      → put_at (joined g n) (sizes z k) v ≡ joined (with g (suc k) v) n
  joined_put z g zero k v e l h = absurd (omega arith)
  joined_put z g (suc n) k v e l h = ⊎_elim here (λ q. there q (joined_put z g n k v e l q)) (eq-or-lt_of_le (le_of_suc-le-suc h))
    where
      here : k ≡ n → put_at (joined g (suc n)) (sizes z k) v ≡ joined (with g (suc k) v) (suc n)
      here q =
          rw (
            q,
            ← joined_length z g n e,
            eq-eqb (suc n) (suc n) refl,
            ← joined_ext g (with g (suc k) v) n (λ j a b. rw (ne_eqb (suc k) j (λ x. omega arith))),
          )
          (put_right (joined g n) (g (suc n)) v (l ∙ ap (λ (i : ℕ). z (suc i)) q ∙ sym (e (suc n))))

      there : k < n → put_at (joined g n) (sizes z k) v ≡ joined (with g (suc k) v) n → put_at (joined g (suc n)) (sizes z k) v ≡ joined (with g (suc k) v) (suc n)
      there q ih =
          put_left (joined g n) (g (suc n)) v (sizes z k) (rw (l, joined_length z g n e) (sizes_below z (suc k) n q))
          ∙ rw (ih, ne_eqb (suc k) (suc n) (λ x. omega arith))

  -- a part of a segment, taken from the whole
  pub joined_part : (z : ℕ → ℕ) (g : ℕ → List A) (n k at m : ℕ) → ((j : ℕ) → length (g j) ≡ z j) → k < n → at + m ≤ z (suc k)
      → take m (drop (sizes z k + at) (joined g n)) ≡ take m (drop at (g (suc k)))
  joined_part z g zero k at m e h f = absurd (omega arith)
  joined_part z g (suc n) k at m e h f = ⊎_elim here (λ q. there q (joined_part z g n k at m e q f)) (eq-or-lt_of_le (le_of_suc-le-suc h))
    where
      here : k ≡ n → take m (drop (sizes z k + at) (joined g (suc n))) ≡ take m (drop at (g (suc k)))
      here q = rw (q, ← joined_length z g n e, drop-append-add (joined g n) (g (suc n)) at)

      there : k < n → take m (drop (sizes z k + at) (joined g n)) ≡ take m (drop at (g (suc k))) → take m (drop (sizes z k + at) (joined g (suc n))) ≡ take m (drop at (g (suc k)))
      there q ih =
          let l = joined_length z g n e in
          let b = sizes_below z (suc k) n q in
          let x : sizes z k + at ≤ length (joined g n) = omega arith in
          rw (
            drop-append-le (sizes z k + at) (joined g n) (g (suc n)) x,
            take-append-le m (drop (sizes z k + at) (joined g n)) (g (suc n)) (simp length-drop (omega arith)),
          )
          ih
