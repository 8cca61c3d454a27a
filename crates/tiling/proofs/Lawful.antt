-- The writer's checks, and so acceptance's, ask exactly what document 01 asks. Assumes nothing.
use mathlib.Core.Path.{◌≡◌, refl, sym, ap, ◌∙◌}
use mathlib.Core.Logic.{◌↔◌, ◌⊎◌, inl, inr}
use mathlib.Core.Bool.{Bool, true, false, not, ◌&&◌, ◌||◌, cond, and-eq-true_iff}
use mathlib.Core.List.{List, [], ◌∷◌, ◌++◌, Memᴰ, append_assoc, append-nil}
use Prim.Native.Nat.{ℕ, zero, suc, ◌+◌, ◌*◌, ◌-◌, ◌/◌, ◌%◌, ◌≤◌, ◌<◌}
use native.Mathlib.Omega.{arith}
use lib.ListN.{length, get_or, replicate, length-replicate}
use lib.Dec.{leb, eqb}
use borrow.Author.Tests.{leb-true, le-leb, eqb-true, eq-eqb, eqb-false}
use Rattle.wire.specs.Wire.{span, eqs, join}
use Rattle.wire.proofs.Equal.{eqs_eq, eqs_same}
use Rattle.rules.specs.Rules.{turned, says, refuses, fine}
use Rattle.calendar.specs.Dates.{leap, month_length, real, day_at, day_of}
use Rattle.calendar.specs.Shots.{good_timeline}
use Rattle.format.specs.Texts.{digit, pair, decimal}
use Rattle.format.specs.Ranges.{satellite_of, series, good_area}
use Rattle.format.specs.Bands.{good_band, band_of}
use Rattle.format.specs.Names.{digits8, date_of, is_day, spelling, name_for, good_name}
use Rattle.header.specs.declared.Header.{Header}
use Rattle.header.specs.Places.{data_length}
use Rattle.header.specs.Encode.{Entries, encode}
use Rattle.accept.specs.Checks.{fields1, fields2, fields5, fields7, names}
use Rattle.rules.proofs.Judge.{holds}
use Rattle.writer.specs.Given.{ruled}
use Rattle.writer.proofs.Good.{Good, good_is, good_of}
use Rattle.tiling.specs.Made.{Fit}
use Rattle.tiling.proofs.Forth as forth
use Rattle.tiling.specs.Lawful.{text, two_digits, four_digits, Satellite, eight, nine, Series, Area, FLDK, JP, R3, R4, R5, Timeline, bands, months, Date, Named, Lawful}

-- ---- tests

pub both : (a b : Bool) → (a && b) ≡ true → (a ≡ true) × (b ≡ true)
both a b e = (and-eq-true_iff a b).0 e

pub and : {a b : Bool} → a ≡ true → b ≡ true → (a && b) ≡ true
and {a} {b} p q = (and-eq-true_iff a b).1 (p, q)

pub either : (a b : Bool) → (a || b) ≡ true → (a ≡ true) ⊎ (b ≡ true)
either true b e = inl refl
either false b e = inr e

pub or_left : (a b : Bool) → a ≡ true → (a || b) ≡ true
or_left a b e = rw e

pub or_right : (a b : Bool) → b ≡ true → (a || b) ≡ true
or_right true b e = refl
or_right false b e = e

-- all of a list, and one of it
abbrev Each : {A : Type 0} → (A → Type 0) → List A → Type 0
Each P [] = Unit
Each P (x ∷ xs) = P x × Each P xs

one_of : {A : Type 0} (P : A → Type 0) {x : A} {xs : List A} → Memᴰ x xs → Each P xs → P x
one_of P (mathlib.Core.List.Memᴰ.head e) h = rw e h.0
one_of P (mathlib.Core.List.Memᴰ.tail m) h = one_of P m h.1

-- all below n, and one below it
abbrev pub Below : (ℕ → Type 0) → ℕ → Type 0
Below P zero = Unit
Below P (suc n) = P n × Below P n

pub below : (P : ℕ → Type 0) (n k : ℕ) → k < n → Below P n → P k
below P zero k h b = absurd (omega arith)
below P (suc n) k h b = go (eqb k n) refl (λ l. below P n k l b.1)
  where
    go : (t : Bool) → eqb k n ≡ t → (k < n → P k) → P k
    go true e r = rw (eqb-true k n e) b.0
    go false e r = r (let d = eqb-false k n e in omega arith)

-- ---- digits

digit_is : (x : ℕ) → digit x ≡ true → (48 ≤ x) × (x ≤ 57)
digit_is x e = let h = both (leb 48 x) (leb x 57) e in (leb-true 48 x h.0, leb-true x 57 h.1)

two_is : (a b : ℕ) → digit a ≡ true → digit b ≡ true → two_digits (pair a b) ≡ a ∷ b ∷ []
two_is a b p q =
    let p = digit_is a p in
    let q = digit_is b q in
    let x : 48 + pair a b / 10 ≡ a = omega arith in
    let y : 48 + pair a b % 10 ≡ b = omega arith in
    rw (x, y)

decimal_two : (n : ℕ) → n ≤ 99 → decimal 2 n ≡ two_digits n
unfolding decimal
decimal_two n h =
    let x : n / 10 % 10 ≡ n / 10 = omega arith in
    rw x

decimal_four : (n : ℕ) → n ≤ 9999 → decimal 4 n ≡ four_digits n
unfolding decimal
decimal_four n h =
    let x : n / 10 / 10 / 10 % 10 ≡ n / 100 / 10 = omega arith in
    let y : n / 10 / 10 % 10 ≡ n / 100 % 10 = omega arith in
    let z : n / 10 % 10 ≡ n % 100 / 10 = omega arith in
    let w : n % 10 ≡ n % 100 % 10 = omega arith in
    rw (x, y, z, w)

digit_of : (x : ℕ) → x ≤ 9 → digit (48 + x) ≡ true
digit_of x h = and (le-leb 48 (48 + x) (omega arith)) (le-leb (48 + x) 57 (omega arith))

-- ---- satellite, area, timeline, band

satellite_is : (t : List ℕ) → not (eqb (satellite_of t) 0) ≡ true → Satellite t (satellite_of t)
unfolding satellite_of
satellite_is t e = go (eqs t _) (eqs t _) refl refl e
  where
    go : (a b : Bool) → eqs t (text "Himawari-8" ++ replicate 6 0) ≡ a → eqs t (text "Himawari-9" ++ replicate 6 0) ≡ b → not (eqb (cond a 8 (cond b 9 0)) 0) ≡ true
        → Satellite t (cond a 8 (cond b 9 0))
    go true b p q e = eight (eqs_eq t _ p)
    go false true p q e = nine (eqs_eq t _ q)
    go false false p q e = absurd (let z : ◌≡◌ {A = ℕ} 0 1 = cc in omega arith)

pub satellite_of_lem : (t : List ℕ) (n : ℕ) → Satellite t n → satellite_of t ≡ n
unfolding satellite_of eqs
satellite_of_lem t n (eight e) = rw e
satellite_of_lem t n (nine e) = rw e

series_is : (a b c d x y n : ℕ) → series (a ∷ b ∷ c ∷ d ∷ []) x y n ≡ true → Series (x ∷ y ∷ []) n (a ∷ b ∷ c ∷ d ∷ [])
series_is a b c d x y n e =
    let r = leb 1 (pair c d) && leb (pair c d) n in
    let h = both (eqb a x) (eqb b y && ((digit c && digit d) && r)) e in
    let i = both (eqb b y) ((digit c && digit d) && r) h.1 in
    let j = both (digit c && digit d) r i.1 in
    let g = both (digit c) (digit d) j.0 in
    let l = both (leb 1 (pair c d)) (leb (pair c d) n) j.1 in
    record {
      k = pair c d;
      some = leb-true 1 (pair c d) l.0;
      most = leb-true (pair c d) n l.1;
      is = rw (eqb-true a x h.0, eqb-true b y i.0, two_is c d g.0 g.1);
    }

series_of : (t : List ℕ) (x y n : ℕ) → n ≤ 99 → Series (x ∷ y ∷ []) n t → series t x y n ≡ true
series_of t x y n h s =
    let k = s.k in
    let most = s.most in
    let some = s.some in
    let p : pair (48 + k / 10) (48 + k % 10) ≡ k = omega arith in
    let p0 : 1 ≤ pair (48 + k / 10) (48 + k % 10) = omega arith in
    let p1 : pair (48 + k / 10) (48 + k % 10) ≤ n = omega arith in
    rw s.is (and (eq-eqb x x refl) (and (eq-eqb y y refl) (and (and (digit_of (k / 10) (omega arith)) (digit_of (k % 10) (omega arith)))
    (and (le-leb 1 (pair (48 + k / 10) (48 + k % 10)) p0) (le-leb (pair (48 + k / 10) (48 + k % 10)) n p1)))))

five : {P : Type 0} (a b c d e : Bool) → (a ≡ true → P) → (b ≡ true → P) → (c ≡ true → P) → (d ≡ true → P) → (e ≡ true → P) → (a || (b || (c || (d || e)))) ≡ true → P
five true b c d e f g h i j z = f refl
five false true c d e f g h i j z = g refl
five false false true d e f g h i j z = h refl
five false false false true e f g h i j z = i refl
five false false false false e f g h i j z = j z

pub area_is : (t : List ℕ) → length t ≡ 4 → good_area t ≡ true → Area t
unfolding good_area
area_is (a ∷ b ∷ c ∷ d ∷ []) l e =
    let t = a ∷ b ∷ c ∷ d ∷ [] in
    five (eqs t (text "FLDK")) (series t 74 80 4) (series t 82 51 4) (series t 82 52 20) (series t 82 53 20)
    (λ e. FLDK (eqs_eq t (text "FLDK") e))
    (λ e. JP (series_is a b c d 74 80 4 e))
    (λ e. R3 (series_is a b c d 82 51 4 e))
    (λ e. R4 (series_is a b c d 82 52 20 e))
    (λ e. R5 (series_is a b c d 82 53 20 e))
    e
area_is [] l e = absurd (omega arith)
area_is (a ∷ []) l e = absurd (omega arith)
area_is (a ∷ b ∷ []) l e = absurd (omega arith)
area_is (a ∷ b ∷ c ∷ []) l e = absurd (omega arith)
area_is (a ∷ b ∷ c ∷ d ∷ x ∷ t) l e = absurd (omega arith)

pub area_of : (t : List ℕ) → Area t → good_area t ≡ true
unfolding good_area
area_of t r =
    let f = eqs t (text "FLDK") in
    let g = series t 74 80 4 in
    let h = series t 82 51 4 in
    let i = series t 82 52 20 in
    let j = series t 82 53 20 in
    go f g h i j (λ e. eqs_same t _ e) (series_of t 74 80 4 (omega arith)) (series_of t 82 51 4 (omega arith)) (series_of t 82 52 20 (omega arith)) (series_of t 82 53 20 (omega arith)) r
  where
    go : (f g h i j : Bool) → (t ≡ text "FLDK" → f ≡ true) → (Series (text "JP") 4 t → g ≡ true) → (Series (text "R3") 4 t → h ≡ true)
        → (Series (text "R4") 20 t → i ≡ true) → (Series (text "R5") 20 t → j ≡ true) → Area t → (f || (g || (h || (i || j)))) ≡ true
    go f g h i j p q r s u (FLDK e) = or_left f _ (p e)
    go f g h i j p q r s u (JP e) = or_right f _ (or_left g _ (q e))
    go f g h i j p q r s u (R3 e) = or_right f _ (or_right g _ (or_left h _ (r e)))
    go f g h i j p q r s u (R4 e) = or_right f _ (or_right g _ (or_right h _ (or_left i _ (s e))))
    go f g h i j p q r s u (R5 e) = or_right f _ (or_right g _ (or_right h _ (or_right i _ (u e))))

-- whether a number is one of a list's
abbrev any : ℕ → List ℕ → Bool
any n [] = false
any n (x ∷ []) = eqb n x
any n (x ∷ y ∷ xs) = eqb n x || any n (y ∷ xs)

any_is : (n : ℕ) (xs : List ℕ) → any n xs ≡ true → Memᴰ n xs
any_is n [] e = absurd (let z : ◌≡◌ {A = ℕ} 0 1 = cc in omega arith)
any_is n (x ∷ []) e = mathlib.Core.List.Memᴰ.head (eqb-true n x e)
any_is n (x ∷ y ∷ xs) e = go (either (eqb n x) (any n (y ∷ xs)) e) (any_is n (y ∷ xs))
  where
    go : (eqb n x ≡ true) ⊎ (any n (y ∷ xs) ≡ true) → (any n (y ∷ xs) ≡ true → Memᴰ n (y ∷ xs)) → Memᴰ n (x ∷ y ∷ xs)
    go (inl e) r = mathlib.Core.List.Memᴰ.head (eqb-true n x e)
    go (inr e) r = mathlib.Core.List.Memᴰ.tail (r e)

pub timeline_is : (t : ℕ) → good_timeline t ≡ true → Timeline t
timeline_is t e =
    let h = both (leb (t / 100) 23) (any (t % 100) (0 ∷ 10 ∷ 20 ∷ 30 ∷ 40 ∷ 50 ∷ [])) e in
    record { hh = t / 100; mm = t % 100; is = omega arith; hour = leb-true (t / 100) 23 h.0; minute = any_is (t % 100) _ h.1 }

pub timeline_of : (t : ℕ) → Timeline t → good_timeline t ≡ true
timeline_of t l = rw l.is (one_of (λ mm. good_timeline (l.hh * 100 + mm) ≡ true) l.minute (
  each 0 (omega arith) refl,
  (each 10 (omega arith) refl, (each 20 (omega arith) refl, (each 30 (omega arith) refl, (each 40 (omega arith) refl, (each 50 (omega arith) refl, tt))))),
))
  where
    each : (mm : ℕ) → mm ≤ 99 → any mm (0 ∷ 10 ∷ 20 ∷ 30 ∷ 40 ∷ 50 ∷ []) ≡ true → good_timeline (l.hh * 100 + mm) ≡ true
    each mm h e =
        let hour = l.hour in
        let q : (l.hh * 100 + mm) / 100 ≡ l.hh = omega arith in
        let r : (l.hh * 100 + mm) % 100 ≡ mm = omega arith in
        rw (q, r) (and (le-leb l.hh 23 hour) e)

-- a band is the table's, and a row of the table is a band
Banded : ℕ → ℕ → ℕ → Type 0
Banded b bits resolution = (good_band b ≡ true) × ((bits ≡ (band_of b).bits) × (resolution ≡ (band_of b).resolution))

band_of_lem : (b bits resolution : ℕ) → Memᴰ (b, bits, resolution) bands → Banded b bits resolution
unfolding Banded band_of
band_of_lem b bits resolution m = one_of (λ (r : ℕ × ℕ × ℕ). Banded r.0 r.1 r.2) m (search depth 40)

pub bits_of : (b bits resolution : ℕ) → Memᴰ (b, bits, resolution) bands → bits ≡ (band_of b).bits
unfolding Banded
bits_of b bits resolution m = (band_of_lem b bits resolution m).1.0

member : {A : Type 0} (z : A) (xs : List A) (i : ℕ) → i < length xs → Memᴰ (get_or xs i z) xs
member z [] i h = absurd (omega arith)
member z (x ∷ xs) zero h = mathlib.Core.List.Memᴰ.head refl
member z (x ∷ xs) (suc i) h = mathlib.Core.List.Memᴰ.tail (member z xs i (omega arith))

band_is : (b : ℕ) → good_band b ≡ true → Memᴰ (b, (band_of b).bits, (band_of b).resolution) bands
unfolding band_of
band_is b e =
    let h = both (leb 1 b) (leb b 16) e in
    let p = leb-true 1 b h.0 in
    let q = leb-true b 16 h.1 in
    let n : suc (b - 1) ≡ b = omega arith in
    let row = below (λ k. ◌≡◌ {A = ℕ × ℕ × ℕ} (suc k, (band_of (suc k)).bits, (band_of (suc k)).resolution) (get_or bands k (0, 0, 0))) 16 (b - 1) (omega arith)
    (refl, (refl, (refl, (refl, (refl, (refl, (refl, (refl, (refl, (refl, (refl, (refl, (refl, (refl, (refl, (refl, tt)))))))))))))))) in
    rw n at (mathlib.Core.List.Memᴰ.cast row (member (0, 0, 0) bands (b - 1) (omega arith)))

-- ---- the name

month_is : (y m : ℕ) → 1 ≤ m → m ≤ 12 → month_length y m ≡ get_or (months y) (m - 1) 0
unfolding month_length
month_is y m p q =
    let n : suc (m - 1) ≡ m = omega arith in
    let e = below (λ k. month_length y (suc k) ≡ get_or (months y) k 0) 12 (m - 1) (omega arith) (refl, (refl, (refl, (refl, (refl, (refl, (refl, (refl, (refl, (refl, (refl, (refl, tt)))))))))))) in
    ap (month_length y) (sym n) ∙ e

month_most : (y m : ℕ) → 1 ≤ m → m ≤ 12 → get_or (months y) (m - 1) 0 ≤ 31
month_most y m p q =
    below (λ k. get_or (months y) k 0 ≤ 31) 12 (m - 1) (omega arith)
    (omega arith, (omega arith, (omega arith, (omega arith, (omega arith, (omega arith, (omega arith, (omega arith, (omega arith, (omega arith, (few (leap y), (omega arith, tt))))))))))))
  where
    few : (b : Bool) → cond b 29 28 ≤ 31
    few true = omega arith
    few false = omega arith

date_is : (y m d : ℕ) → real y m d ≡ true → Date y m d
unfolding real
date_is y m d e =
    let h6 = leb d (month_length y m) in
    let a = both (leb 2000 y) (leb y 2099 && (leb 1 m && (leb m 12 && (leb 1 d && h6)))) e in
    let b = both (leb y 2099) (leb 1 m && (leb m 12 && (leb 1 d && h6))) a.1 in
    let c = both (leb 1 m) (leb m 12 && (leb 1 d && h6)) b.1 in
    let f = both (leb m 12) (leb 1 d && h6) c.1 in
    let g = both (leb 1 d) h6 f.1 in
    let first = leb-true 1 m c.0 in
    let last = leb-true m 12 f.0 in
    record {
      from = leb-true 2000 y a.0;
      to = leb-true y 2099 b.0;
      first = first;
      last = last;
      some = leb-true 1 d g.0;
      most = rw (month_is y m first last) at (leb-true d (month_length y m) g.1);
    }

date_of_lem : (y m d : ℕ) → Date y m d → real y m d ≡ true
unfolding real
date_of_lem y m d h =
    and (le-leb 2000 y h.from) (and (le-leb y 2099 h.to) (and (le-leb 1 m h.first) (and (le-leb m 12 h.last) (and (le-leb 1 d h.some)
    (le-leb d (month_length y m) (rw (month_is y m h.first h.last) h.most))))))

four_is : (a b c d : ℕ) → digit a ≡ true → digit b ≡ true → digit c ≡ true → digit d ≡ true → four_digits (pair a b * 100 + pair c d) ≡ a ∷ b ∷ c ∷ d ∷ []
four_is a b c d p q r s =
    let r' = digit_is c r in
    let s' = digit_is d s in
    let l : pair c d ≤ 99 = omega arith in
    let x : (pair a b * 100 + pair c d) / 100 ≡ pair a b = omega arith in
    let y : (pair a b * 100 + pair c d) % 100 ≡ pair c d = omega arith in
    let u = two_is a b p q in
    let w = two_is c d r s in
    rw (x, y) (λ i. u i ++ w i)

grouped : (h d m a t z : List ℕ) → (h ++ (d ++ (m ++ (a ++ (t ++ []))))) ++ z ≡ h ++ (d ++ (m ++ (a ++ (t ++ z))))
grouped h d m a t z = simp (append_assoc, append-nil)

spelled : (satellite : ℕ) (date : List ℕ) (timeline band : ℕ) (area : List ℕ) (number total : ℕ) → satellite ≤ 99 → timeline ≤ 9999 → band ≤ 99 → (band_of band).resolution ≤ 99 → number ≤ 99 → total ≤ 99
    → name_for satellite date timeline band area number total
    ≡ text "HS_H" ++ (two_digits satellite ++ (text "_" ++ (date ++ (text "_" ++ (four_digits timeline ++ (text "_B" ++ (two_digits band ++ (text "_" ++ (area
    ++ (text "_R" ++ (two_digits (band_of band).resolution ++ (text "_S" ++ (two_digits number ++ (two_digits total ++ (text ".DAT" ++ replicate 85 0)))))))))))))))
unfolding name_for spelling join
spelled satellite date timeline band area number total hs ht hb hr hn hl =
    rw (decimal_two satellite hs, decimal_four timeline ht, decimal_two band hb, decimal_two (band_of band).resolution hr, decimal_two number hn, decimal_two total hl)
    (grouped (text "HS_H" ++ (two_digits satellite ++ text "_")) date (text "_" ++ (four_digits timeline ++ (text "_B" ++ (two_digits band ++ text "_")))) area
    (text "_R" ++ (two_digits (band_of band).resolution ++ (text "_S" ++ (two_digits number ++ (two_digits total ++ text ".DAT"))))) (replicate 85 0))

day_is : (b c : Bool) (x : ℕ) → is_day (cond b (cond c (says x) (refuses (turned 10 1 0))) (refuses (turned 10 1 0))) ≡ true → (b ≡ true) × (c ≡ true)
day_is true true x e = (refl, refl)
day_is true false x e = absurd (let z : ◌≡◌ {A = ℕ} 0 1 = cc in omega arith)
day_is false c x e = absurd (let z : ◌≡◌ {A = ℕ} 0 1 = cc in omega arith)

-- the date that a name bears
pub dated : {n : List ℕ} {satellite timeline band : ℕ} {area : List ℕ} {resolution number total : ℕ} (h : Named n satellite timeline band area resolution number total)
    → date_of n ≡ says (day_at h.y h.m h.d)
unfolding date_of day_of
dated {n = n} h =
    let y = h.y in
    let m = h.m in
    let d = h.d in
    let y0 = h.date.to in
    let m0 = h.date.last in
    let most = h.date.most in
    let d0 = month_most y m h.date.first m0 in
    let digits : digits8 n ≡ true = rw h.is (and (and (digit_of (y / 100 / 10) (omega arith)) (and (digit_of (y / 100 % 10) (omega arith)) (and (digit_of (y % 100 / 10) (omega arith)) (digit_of (y % 100 % 10) (omega arith)))))
    (and (and (digit_of (m / 10) (omega arith)) (digit_of (m % 10) (omega arith))) (and (digit_of (d / 10) (omega arith)) (digit_of (d % 10) (omega arith))))) in
    let year : pair (get_or n 7 0) (get_or n 8 0) * 100 + pair (get_or n 9 0) (get_or n 10 0) ≡ y = rw h.is (omega arith) in
    let month : pair (get_or n 11 0) (get_or n 12 0) ≡ m = rw h.is (omega arith) in
    let day : pair (get_or n 13 0) (get_or n 14 0) ≡ d = rw h.is (omega arith) in
    rw (digits, year, month, day, date_of_lem y m d h.date)

module _ (n : List ℕ) (satellite timeline band : ℕ) (area : List ℕ) (number total : ℕ)
    (hs : satellite ≤ 99) (ht : timeline ≤ 9999) (hb : band ≤ 99) (hr : (band_of band).resolution ≤ 99) (hn : number ≤ 99) (hl : total ≤ 99) where
  abbrev at : ℕ → ℕ
  at i = get_or n i 0

  name_is : good_name n satellite timeline band area number total ≡ true → Named n satellite timeline band area (band_of band).resolution number total
  unfolding good_name date_of day_of span
  name_is e =
      let year = pair (at 7) (at 8) * 100 + pair (at 9) (at 10) in
      let month = pair (at 11) (at 12) in
      let day = pair (at 13) (at 14) in
      let h = both (eqs n (name_for satellite (span n 7 8) timeline band area number total)) (is_day (date_of n)) e in
      let k = day_is (digits8 n) (real year month day) (day_at year month day) h.1 in
      let d = both ((digit (at 7) && (digit (at 8) && (digit (at 9) && digit (at 10))))) ((digit (at 11) && digit (at 12)) && (digit (at 13) && digit (at 14))) k.0 in
      let d7 = both (digit (at 7)) (digit (at 8) && (digit (at 9) && digit (at 10))) d.0 in
      let d8 = both (digit (at 8)) (digit (at 9) && digit (at 10)) d7.1 in
      let d9 = both (digit (at 9)) (digit (at 10)) d8.1 in
      let d1 = both (digit (at 11) && digit (at 12)) (digit (at 13) && digit (at 14)) d.1 in
      let d11 = both (digit (at 11)) (digit (at 12)) d1.0 in
      let d13 = both (digit (at 13)) (digit (at 14)) d1.1 in
      let y4 = four_is (at 7) (at 8) (at 9) (at 10) d7.0 d8.0 d9.0 d9.1 in
      let m2 = two_is (at 11) (at 12) d11.0 d11.1 in
      let d2 = two_is (at 13) (at 14) d13.0 d13.1 in
      let date : span n 7 8 ≡ four_digits year ++ (two_digits month ++ two_digits day) = λ i. sym y4 i ++ (sym m2 i ++ sym d2 i) in
      record {
        y = year;
        m = month;
        d = day;
        date = date_is year month day k.1;
        is = eqs_eq n _ h.0 ∙ ap (λ (t : List ℕ). name_for satellite t timeline band area number total) date ∙ spelled satellite _ timeline band area number total hs ht hb hr hn hl;
      }

  name_of : Named n satellite timeline band area (band_of band).resolution number total → good_name n satellite timeline band area number total ≡ true
  unfolding good_name span
  name_of h =
      let date : span n 7 8 ≡ four_digits h.y ++ (two_digits h.m ++ two_digits h.d) = rw h.is in
      let same = h.is ∙ sym (ap (λ (t : List ℕ). name_for satellite t timeline band area number total) date ∙ spelled satellite _ timeline band area number total hs ht hb hr hn hl) in
      and (eqs_same n _ same) (ap is_day (dated h))

-- ---- all of it

satellite_most : (t : List ℕ) (n : ℕ) → Satellite t n → n ≤ 99
satellite_most t n (eight e) = omega arith
satellite_most t n (nine e) = omega arith

satellite_some : (t : List ℕ) (n : ℕ) → Satellite t n → not (eqb n 0) ≡ true
satellite_some t n (eight e) = refl
satellite_some t n (nine e) = refl

timeline_most : (t : ℕ) → Timeline t → t ≤ 9999
timeline_most t l =
    let h = l.hour in
    let m = one_of (λ mm. mm ≤ 99) l.minute (omega arith, (omega arith, (omega arith, (omega arith, (omega arith, (omega arith, tt)))))) in
    omega (arith, l.is)

band_most : {b bits resolution : ℕ} → Memᴰ (b, bits, resolution) bands → (b ≤ 99) × (resolution ≤ 99)
band_most m = one_of (λ (r : ℕ × ℕ × ℕ). (r.0 ≤ 99) × (r.2 ≤ 99)) m (omega arith)

-- neither 1 nor 2, and at most 2
flag_is : (c : ℕ) → not (eqb c 1 || eqb c 2) ≡ true → c ≤ 2 → c ≡ 0
flag_is zero e h = refl
flag_is (suc zero) e h = absurd (let z : ◌≡◌ {A = ℕ} 0 1 = cc in omega arith)
flag_is (suc (suc zero)) e h = absurd (let z : ◌≡◌ {A = ℕ} 0 1 = cc in omega arith)
flag_is (suc (suc (suc c))) e h = absurd (omega arith)

module _ (v : Header) (e : Entries) where
  pub lawful_is : Fit v e → Good v e → Lawful v e
  unfolding fields1 fields2 fields5 fields7 names
  lawful_is f g =
      let b1 = v.block1 in
      let b2 = v.block2 in
      let b5 = v.block5 in
      let b7 = v.block7 in
      let h1 = g.fields1 in
      let h2 = g.fields2 in
      let h5 = g.fields5 in
      let h7 = g.fields7 in
      let called = satellite_is b1.satellite h1.0 in
      let timeline = timeline_is b1.timeline h1.1.1.0 in
      let columns = both (leb 1 b2.columns) (leb b2.columns 22000) h2.1.0 in
      let lines = both (leb 1 b2.lines) (leb b2.lines 22000) h2.1.1.0 in
      let band : Memᴰ (b5.band, b5.bits, (band_of b5.band).resolution) bands = rw (eqb-true b5.bits _ h5.1.0) (band_is b5.band h5.0) in
      let total = both (leb 1 b7.total) (leb b7.total 99) h7.0 in
      let number = both (leb 1 b7.number) (leb b7.number b7.total) h7.1.0 in
      let first = both (leb 1 b7.first) (leb (b7.first + b2.lines - 1) 22000) h7.1.1.0 in
      let most_total = leb-true b7.total 99 total.1 in
      let most_number = leb-true b7.number b7.total number.1 in
      record {
        order = g.order;
        satellite = satellite_of b1.satellite;
        called = called;
        area = area_is b1.area f.block1.area.long h1.1.0;
        timeline = timeline;
        some_columns = leb-true 1 b2.columns columns.0;
        most_columns = leb-true b2.columns 22000 columns.1;
        some_lines = leb-true 1 b2.lines lines.0;
        most_lines = leb-true b2.lines 22000 lines.1;
        unpacked = flag_is b2.compression h2.0 (leb-true _ 2 h2.1.1.1.0);
        resolution = (band_of b5.band).resolution;
        band = band;
        some_total = leb-true 1 b7.total total.0;
        most_total = most_total;
        some_number = leb-true 1 b7.number number.0;
        most_number = most_number;
        some_first = leb-true 1 b7.first first.0;
        most_first = leb-true (b7.first + b2.lines - 1) 22000 first.1;
        few8 = g.fits.few8;
        xs = g.fits.xs;
        ys = g.fits.ys;
        few9 = g.fits.few9;
        ts = g.fits.ts;
        few10 = g.fits.few10;
        ps = g.fits.ps;
        name = name_is b1.name _ b1.timeline b5.band b1.area b7.number b7.total
            (satellite_most _ _ called) (timeline_most _ timeline) (band_most band).0 (band_most band).1 (omega arith) most_total g.names.0;
      }

  pub lawful_of : Lawful v e → Good v e
  unfolding fields1 fields2 fields5 fields7 names Banded
  lawful_of l =
      let b1 = v.block1 in
      let b2 = v.block2 in
      let b5 = v.block5 in
      let b7 = v.block7 in
      let satellite = satellite_of_lem b1.satellite l.satellite l.called in
      let band = band_of_lem b5.band b5.bits l.resolution l.band in
      let most_number = l.most_number in
      let most_total = l.most_total in
      let most = band_most l.band in
      let named : Named b1.name l.satellite b1.timeline b5.band b1.area (band_of b5.band).resolution b7.number b7.total = rw band.1.1 at l.name in
      let columns : (leb 1 b2.columns && leb b2.columns 22000) ≡ true = and (le-leb 1 _ l.some_columns) (le-leb _ 22000 l.most_columns) in
      let lines : (leb 1 b2.lines && leb b2.lines 22000) ≡ true = and (le-leb 1 _ l.some_lines) (le-leb _ 22000 l.most_lines) in
      record {
        order = l.order;
        fields1 = rw satellite (holds (satellite_some _ _ l.called) (holds (area_of _ l.area) (holds (timeline_of _ l.timeline) tt)));
        fields2 = rw l.unpacked (holds refl (holds columns (holds lines (holds refl tt))));
        fields5 = holds band.0 (holds (eq-eqb _ _ band.1.0) tt);
        fields7 = holds (and (le-leb 1 _ l.some_total) (le-leb _ 99 l.most_total))
            (holds (and (le-leb 1 _ l.some_number) (le-leb _ _ l.most_number))
            (holds (and (le-leb 1 _ l.some_first) (le-leb _ 22000 l.most_first)) tt));
        names = rw satellite (holds (name_of b1.name l.satellite b1.timeline b5.band b1.area b7.number b7.total
            (satellite_most _ _ l.called) (timeline_most _ l.timeline) most.0 (rw (← band.1.1) most.1) (omega arith) most_total named) tt);
        fits = record {
          columns = l.most_columns;
          lines = l.most_lines;
          few8 = l.few8;
          xs = l.xs;
          ys = l.ys;
          few9 = l.few9;
          ts = l.ts;
          few10 = l.few10;
          ps = l.ps;
        };
      }

  -- the writer takes exactly the lawful values and entries, where there is room
  pub lawful_exactly : Fit v e → (ruled v e (length (encode v e)) ≡ fine) ↔ Lawful v e
  lawful_exactly f = (λ q. lawful_is f (good_is v e _ q).0, λ l. taken (lawful_of l))
    where
      taken : Good v e → ruled v e (length (encode v e)) ≡ fine
      taken g =
          let n = data_length v.block2.columns v.block2.lines in
          good_of v e _ g (omega (arith, forth.long_header v e (replicate n 0) f g (length-replicate n 0)))
