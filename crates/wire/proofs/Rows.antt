-- Rows of bytes and columns of numbers, over every width and number of them.
-- Assumes nothing.
use mathlib.Core.Path.{◌≡◌, refl, sym, ◌∙◌}
use mathlib.Core.Logic.{⊎_elim}
use mathlib.Core.List.{List, [], ◌∷◌, ◌++◌, append_assoc}
use Prim.Native.Nat.{ℕ, zero, suc, ◌+◌, ◌*◌, ◌<◌}
use native.Mathlib.Nat.{mul-suc, mul-zero, le_of_suc-le-suc, eq-or-lt_of_le}
use native.Mathlib.Numerals.{add-one}
use native.Mathlib.Omega.{arith}
use lib.ListN.{length, get_or, length-append, get_or-append}
use lib.Seq.{get_or_at, ext_get_or}
use Rattle.wire.specs.Wire.{span, rows, tab, Stored}
use Rattle.wire.proofs.Spans.{span_add, span_mid}
use Rattle.wire.proofs.Stores.{store_append}

pub length_tab : (f : ℕ → ℕ) (n : ℕ) → length (tab f n) ≡ n
unfolding tab
length_tab f zero = refl
length_tab f (suc n) = rw (length-append, length_tab f n, add-one)

pub get_or_tab : (f : ℕ → ℕ) (n i : ℕ) → i < n → get_or (tab f n) i 0 ≡ f i
unfolding tab
get_or_tab f zero i h = absurd (omega arith)
get_or_tab f (suc n) i h =
    ⊎_elim
    (λ e. rw e (get_or_at (tab f n) (f n) [] 0 n (length_tab f n)))
    (λ l. get_or-append (tab f n) (f n ∷ []) 0 i (rw length_tab l) ∙ get_or_tab f n i l)
    (eq-or-lt_of_le (le_of_suc-le-suc h))

pub tab_is : (f : ℕ → ℕ) (n : ℕ) (l : List ℕ) → length l ≡ n → ((i : ℕ) → i < n → f i ≡ get_or l i 0) → tab f n ≡ l
tab_is f n l e h =
    ext_get_or 0 (tab f n) l (length_tab f n ∙ sym e)
    (λ i k. let q : i < n = rw length_tab at k in get_or_tab f n i q ∙ h i q)

pub tab_lt : (f : ℕ → ℕ) (n b : ℕ) → ((i : ℕ) → f i < b) → (i : ℕ) → i < length (tab f n) → get_or (tab f n) i 0 < b
tab_lt f n b h i l = let q : i < n = rw length_tab at l in rw (get_or_tab f n i q) (h i)

-- one row more
pub rows_turn : (f : ℕ → List ℕ) (i : ℕ) {l m out : List ℕ} {at w k : ℕ} (n : ℕ) → Stored w l at (rows f i) out → Stored k out (at + w) (f i) m → w + k ≡ n → Stored n l at (rows f (i + 1)) m
unfolding rows
rows_turn f i {l} {m} {out} {at} {w} {k} n s t e = record {
  long = rw (add-one, length-append, s.long, t.long) e;
  is = t.is ∙ rw (s.is, add-one, store_append l at w (rows f i) (f i) s.long);
}

pub rows_span : (s : List ℕ) (f : ℕ → List ℕ) (at k n : ℕ) → ((i : ℕ) → i < n → f i ≡ span s (at + k * i) k) → rows f n ≡ span s at (k * n)
unfolding rows span
rows_span s f at k zero h = rw mul-zero
rows_span s f at k (suc n) h =
    rw (mul-suc, span_add s at (k * n) k, ← rows_span s f at k n (λ i l. h i (omega arith)), ← h n (omega arith))

pub length_rows : (f : ℕ → List ℕ) (k n : ℕ) → ((i : ℕ) → length (f i) ≡ k) → length (rows f n) ≡ k * n
unfolding rows
length_rows f k zero h = rw mul-zero
length_rows f k (suc n) h = rw (length-append, length_rows f k n h, h n, mul-suc)

-- a row stands at its place
pub row_at : (f : ℕ → List ℕ) (k n : ℕ) (g : (i : ℕ) → length (f i) ≡ k) (h t : List ℕ) (i : ℕ) → i < n → span (h ++ (rows f n ++ t)) (length h + k * i) k ≡ f i
unfolding rows
row_at f k zero g h t i l = absurd (omega arith)
row_at f k (suc n) g h t i l =
    ⊎_elim
    (λ e.
    let m : span ((h ++ rows f n) ++ (f n ++ t)) (length (h ++ rows f n)) (length (f n)) ≡ f n = span_mid (h ++ rows f n) (f n) t in
    rw e (rw (append_assoc (rows f n) (f n) t) (rw (g n, length-append, length_rows f k n g, append_assoc) at m)))
    (λ j. rw (append_assoc (rows f n) (f n) t) (row_at f k n g h (f n ++ t) i j))
    (eq-or-lt_of_le (le_of_suc-le-suc l))

pub row_in : (f : ℕ → List ℕ) (k n : ℕ) (g : (i : ℕ) → length (f i) ≡ k) (s h t : List ℕ) (at : ℕ) → s ≡ h ++ (rows f n ++ t) → length h ≡ at → (i : ℕ) → i < n → span s (at + k * i) k ≡ f i
row_in f k n g s h t at e l i q = rw (e, ← l) (row_at f k n g h t i q)
