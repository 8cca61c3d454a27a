-- Numbers stored column by column are entries stored one after the other. Assumes nothing.
use Rattle.std.proofs.Common.{◌≡◌, ℕ, zero, suc, ◌+◌, ◌*◌, ◌≤◌, ◌<◌, ◌≢◌, List, [], ◌∷◌, ◌++◌, length, length-append, map, get_or, set, refl, sym, ap, ◌∙◌, append_assoc, add-one, arith}
use mathlib.Core.Path.{subst⁻¹}
use native.Mathlib.Nat.{mul-suc, mul-le-mul}
use Rattle.std.proofs.lemmas.List.{set_comm, map-id, get_or-map, append-nil}
use Rattle.std.proofs.lemmas.List.Edits.{sets}
use Rattle.wire.specs.Wire.{store, rows, digits, join, Stored}
use Rattle.wire.proofs.Stores.{store_append}
use Rattle.wire.proofs.Numbers.{length_digits}
use Rattle.wire.proofs.Rows.{length_rows}
use Rattle.writer.specs.Sizes.{scattered, bytes_of, StoredRows}

-- a store and one before it that ends where it begins, or earlier, in either order
set_sets : (l : List ℕ) (i j x : ℕ) (ys : List ℕ) → i < j → sets (set l i x) j ys ≡ set (sets l j ys) i x
set_sets l i j x [] h = refl
set_sets l i j x (y ∷ ys) h =
    let apart : i ≢ j = omega arith in
    rw (set_comm l i j x y apart) (set_sets (set l j y) i (suc j) x ys (omega arith))

sets_swap : (l : List ℕ) (at to : ℕ) (p q : List ℕ) → at + length p ≤ to → sets (sets l at p) to q ≡ sets (sets l to q) at p
sets_swap l at to [] q h = refl
sets_swap l at to (x ∷ p) q h =
    sets_swap (set l at x) (suc at) to p q (omega arith) ∙ ap (λ (m : List ℕ). sets m (suc at) p) (set_sets l at to x q (omega arith))

-- a store behind scattered pieces
past : (l : List ℕ) (at stride to n : ℕ) (f : ℕ → List ℕ) (p : List ℕ) → ((i : ℕ) → i < n → at + stride * i + length (f i) ≤ to)
    → scattered (store l to p) at stride f n ≡ store (scattered l at stride f n) to p
unfolding scattered store
past l at stride to zero f p h = refl
past l at stride to (suc n) f p h =
    rw (past l at stride to n f p (λ i k. h i (omega arith)))
    (sym (sets_swap (scattered l at stride f n) (at + stride * n) to (f n) p (h n (omega arith))))

-- two columns, side by side, are one
two : (l : List ℕ) (at k w n : ℕ) (f g : ℕ → List ℕ) → ((i : ℕ) → length (f i) ≡ k) → ((i : ℕ) → k + length (g i) ≤ w)
    → scattered (scattered l at w f n) (at + k) w g n ≡ scattered l at w (λ (i : ℕ). f i ++ g i) n
unfolding scattered
two l at k w zero f g a b = refl
two l at k w (suc n) f g a b =
    let before : (i : ℕ) → i < n → at + k + w * i + length (g i) ≤ at + w * n =
    λ i h. let same : w ≤ w = omega arith in let m : w * suc i ≤ w * n = mul-le-mul same h in let s : w * i + w ≤ w * n = rw mul-suc at m in omega (arith, b i) in
    let e : at + k + w * n ≡ at + w * n + k = omega arith in
    rw (past (scattered l at w f n) (at + k) w (at + w * n) n g (f n) before, two l at k w n f g a b, e)
    (sym (store_append (scattered l at w (λ (i : ℕ). f i ++ g i) n) (at + w * n) k (f n) (g n) (a n)))

-- pieces as long as their stride stand one after the other
in_rows : (l : List ℕ) (at w n : ℕ) (f : ℕ → List ℕ) → ((i : ℕ) → length (f i) ≡ w) → scattered l at w f n ≡ store l at (rows f n)
unfolding scattered store rows
in_rows l at w zero f a = refl
in_rows l at w (suc n) f a = rw (in_rows l at w n f a) (sym (store_append l at (w * n) (rows f n) (f n) (length_rows f w n a)))

-- a turn of the loop, where the number is the i-th
pub scattered_more : {X : Type 0} (f : X → ℕ) (l out m : List ℕ) (at stride o w : ℕ) (xs : List X) (i : ℕ) (x : X) → out ≡ scattered l at stride (bytes_of o w (map f xs)) i
    → Stored w out (at + stride * i) (digits o w (f x)) m → x ≡ get_or xs i x → i < length xs → m ≡ scattered l at stride (bytes_of o w (map f xs)) (i + 1)
unfolding scattered
scattered_more f l out m at stride o w xs i x e s q h = rw (add-one, ← e, get_or-map f xs i x 0 h, ← q) s.is

pub scattered_none : (l : List ℕ) (at stride : ℕ) (f : ℕ → List ℕ) → scattered l at stride f 0 ≡ l
unfolding scattered
scattered_none l at stride f = refl

length_two : (o a b x y : ℕ) → length (digits o a x ++ digits o b y) ≡ a + b
length_two o a b x y = rw (length-append, length_digits o a x, length_digits o b y)

rows_of : (l : List ℕ) (from k n : ℕ) (f h : ℕ → List ℕ) {out : List ℕ} → ((i : ℕ) → f i ≡ h i) → ((i : ℕ) → length (h i) ≡ k) → out ≡ scattered l from k h n → StoredRows n k l from f out
rows_of l from k n f h {out} e a s =
    subst⁻¹ (λ (g : ℕ → List ℕ). StoredRows n k l from g out) (λ j i. e i j) (record { long = length_rows h k n a; is = s ∙ in_rows l from k n h a })

-- what a block's two or three columns come to: its entries, of k bytes each
pub columns2 : {l m out : List ℕ} (ls xs : List ℕ) (o w k from to : ℕ) → m ≡ scattered l from k (bytes_of o 2 (map (λ (x : ℕ). x) ls)) (length ls)
    → out ≡ scattered m to k (bytes_of o w (map (λ (x : ℕ). x) xs)) (length xs) → to ≡ from + 2 → length xs ≡ length ls → 2 + w ≡ k
    → StoredRows (length ls) k l from (λ (i : ℕ). join (bytes_of o 2 ls i ∷ bytes_of o w xs i ∷ [])) out
unfolding join
columns2 {l} {m} {out} ls xs o w k from to p q d same f =
    let e : out ≡ scattered l from k (λ (i : ℕ). bytes_of o 2 ls i ++ bytes_of o w xs i) (length ls) =
    q ∙ rw (p, d, same, map-id ls, map-id xs) (two l from 2 k (length ls) (bytes_of o 2 ls) (bytes_of o w xs) (λ i. length_digits o 2 _) (λ i. rw length_digits (omega arith))) in
    rows_of l from k (length ls) _ (λ (i : ℕ). bytes_of o 2 ls i ++ bytes_of o w xs i) (λ i. rw append-nil) (λ i. length_two o 2 w _ _ ∙ f) e

pub columns3 : {l m n out : List ℕ} (ls xs ys : List ℕ) (o from : ℕ) → m ≡ scattered l from 10 (bytes_of o 2 (map (λ (x : ℕ). x) ls)) (length ls)
    → n ≡ scattered m (from + 2) 10 (bytes_of o 4 (map (λ (x : ℕ). x) xs)) (length xs) → out ≡ scattered n (from + 6) 10 (bytes_of o 4 (map (λ (x : ℕ). x) ys)) (length ys)
    → length xs ≡ length ls → length ys ≡ length ls
    → StoredRows (length ls) 10 l from (λ (i : ℕ). join (bytes_of o 2 ls i ∷ bytes_of o 4 xs i ∷ bytes_of o 4 ys i ∷ [])) out
unfolding join
columns3 {l} {m} {n} {out} ls xs ys o from p q r same also =
    let fg : ℕ → List ℕ = λ (i : ℕ). bytes_of o 2 ls i ++ bytes_of o 4 xs i in
    let e : n ≡ scattered l from 10 fg (length ls) =
    q ∙ rw (p, same, map-id ls, map-id xs) (two l from 2 10 (length ls) (bytes_of o 2 ls) (bytes_of o 4 xs) (λ i. length_digits o 2 _) (λ i. rw length_digits (omega arith))) in
    let e' : out ≡ scattered l from 10 (λ (i : ℕ). fg i ++ bytes_of o 4 ys i) (length ls) =
    r ∙ rw (e, also, map-id ys) (two l from 6 10 (length ls) fg (bytes_of o 4 ys) (λ i. length_two o 2 4 _ _) (λ i. rw length_digits (omega arith))) in
    rows_of l from 10 (length ls) _ (λ (i : ℕ). fg i ++ bytes_of o 4 ys i) (λ i. rw (append-nil, append_assoc)) (λ i. rw (length-append, length_digits) (ap (λ (x : ℕ). x + 4) (length_two o 2 4 _ _))) e'
