-- A sound trailer and what parts are written as: the one is the other. Assumes nothing.
use mathlib.Core.Path.{◌≡◌, refl, sym, ap, ◌∙◌}
use mathlib.Core.Bool.{true}
use mathlib.Core.List.{List, [], ◌∷◌, ◌++◌, append_assoc, append-nil, map}
use Prim.Native.Nat.{ℕ, zero, suc, ◌+◌, ◌*◌, ◌≤◌, ◌<◌}
use native.Mathlib.Nat.{zero-add, add-zero}
use native.Mathlib.Omega.{arith}
use borrow.Author.Tests.{eqb-true, eq-eqb, lt-ltb}
use lib.Dec.{eqb}
use lib.ListN.{length, drop, length-append, length-drop}
use lib.Seq.{take_at, drop_at, drop-drop, length-take-le}
use Rattle.wire.specs.Wire.{Bytes, span, digits, join}
use Rattle.wire.proofs.Spans.{span_add}
use Rattle.wire.proofs.Pieces.{digits_span}
use Rattle.wire.proofs.Numbers.{length_digits}
use Rattle.rules.proofs.Judge.{Holds, holds, exactly, each_of}
use Rattle.accept.specs.Checks.{checks}
use Rattle.reel.specs.Ends.{big, most, ending, count_of, trailer_at}
use Rattle.reel.specs.Reels.{File, four, entries, trailer_of, reel_of, tiled, sound, part, parts_from, parts_of, filed, Good}
use Rattle.reel.proofs.Ends.{num_mid, span_rest, end_back, end_is}
use Rattle.reel.proofs.Reels.{both, Sound, reel_is}

-- ---- each list has one reel

pub tiled_le : (s : List ℕ) (to e from n : ℕ) → tiled s to e from n ≡ true → from ≤ to
unfolding tiled
tiled_le s to e from zero t = let q = eqb-true from to t in omega arith
tiled_le s to e from (suc n) t =
    let p = both (eqb (four s e) from) _ t in
    let i = tiled_le s to (e + 8) (from + four s (e + 4)) n p.1 in
    omega arith

part_length : (s : List ℕ) (e to : ℕ) → to ≤ length s → four s e + four s (e + 4) ≤ to → length (part s e) ≡ four s (e + 4)
part_length s e to h l = length-take-le (four s (e + 4)) (drop (four s e) s) (rw length-drop (omega arith))

zero_span : (s : List ℕ) (e : ℕ) → [] ≡ span s e (8 * 0)
unfolding span
zero_span s e = refl

-- the entries' bytes are those that are written for the files they point to
tiles_entries : (s : List ℕ) (to e from n : ℕ) → Bytes s → to ≤ length s → tiled s to e from n ≡ true → entries from (map length (parts_from s e n)) ≡ span s e (8 * n)
unfolding tiled entries parts_from
tiles_entries s to e from zero b h t = zero_span s e
tiles_entries s to e from (suc n) b h t =
    let p = both (eqb (four s e) from) _ t in
    let q = eqb-true (four s e) from p.0 in
    let l = tiled_le s to (e + 8) (from + four s (e + 4)) n p.1 in
    let k = part_length s e to h (omega arith) in
    let m : 8 * suc n ≡ 4 + (4 + 8 * n) = omega arith in
    let e8 : e + 4 + 4 ≡ e + 8 = omega arith in
    rw (k, digits_span s 0 e 4 from b q, digits_span s 0 (e + 4) 4 (four s (e + 4)) b refl, tiles_entries s to (e + 8) (from + four s (e + 4)) n b h p.1, m, span_add s e 4 (4 + 8 * n), span_add s (e + 4) 4 (8 * n), e8)

pub length_parts : (s : List ℕ) (e n : ℕ) → length (parts_from s e n) ≡ n
unfolding parts_from
length_parts s e zero = refl
length_parts s e (suc n) = ap suc (length_parts s (e + 8) n)

length_joined : (s : List ℕ) (to e from n : ℕ) → to ≤ length s → tiled s to e from n ≡ true → from + length (join (parts_from s e n)) ≡ to
unfolding tiled join parts_from
length_joined s to e from zero h t = rw add-zero (eqb-true from to t)
length_joined s to e from (suc n) h t =
    let p = both (eqb (four s e) from) _ t in
    let q = eqb-true (four s e) from p.0 in
    let l = tiled_le s to (e + 8) (from + four s (e + 4)) n p.1 in
    let k = part_length s e to h (omega arith) in
    let i = length_joined s to (e + 8) (from + four s (e + 4)) n h p.1 in
    rw (length-append, k) (omega arith)

cut : (s : List ℕ) (at m w : ℕ) → at + m + w ≡ length s → drop at s ≡ span s at m ++ drop (at + m) s
cut s at m w e = span_rest s at (m + w) (omega arith) ∙ rw (span_add s at m w, span_rest s (at + m) w e)

-- under a sound trailer the bytes are what the parts are written as
pub one_reel : (s : List ℕ) → Bytes s → Sound s → s ≡ reel_of (parts_of s)
unfolding reel_of trailer_of
one_reel s b g =
    let to = trailer_at s in
    let n = count_of s in
    let z = g.size in
    let h : to ≤ length s = omega arith in
    let j : length (join (parts_of s)) ≡ to = sym (zero-add _) ∙ length_joined s to to 0 n h g.tiles in
    reel_is s g
    ∙ rw (cut s to (8 * n) (length (ending n to)) z, end_is s (to + 8 * n) b g.end z, tiles_entries s to to 0 n b h g.tiles, length_parts, j)

-- ---- what parts are written as is sound, and has them

module _ (s : List ℕ) (to : ℕ) (short : to < big) where
  -- two numbers of four bytes, and what follows them
  record Entry (h t : List ℕ) (from n e : ℕ) : Type 0 where
    first : four s e ≡ from
    second : four s (e + 4) ≡ n
    next : s ≡ ((h ++ digits 0 4 from) ++ digits 0 4 n) ++ t
    long : length ((h ++ digits 0 4 from) ++ digits 0 4 n) ≡ e + 8

  entry : (h r t : List ℕ) (from n e : ℕ) → s ≡ h ++ ((digits 0 4 from ++ (digits 0 4 n ++ r)) ++ t) → length h ≡ e → from < big → n < big → Entry h (r ++ t) from n e
  entry h r t from n e q l bf bn =
      let F = digits 0 4 from in
      let N = digits 0 4 n in
      let q1 : s ≡ h ++ (F ++ (N ++ (r ++ t))) = q ∙ rw (append_assoc F (N ++ r) t, append_assoc N r t) in
      let q2 : s ≡ (h ++ F) ++ (N ++ (r ++ t)) = q1 ∙ rw (append_assoc h F (N ++ (r ++ t))) in
      let q3 : s ≡ ((h ++ F) ++ N) ++ (r ++ t) = q2 ∙ rw (append_assoc (h ++ F) N (r ++ t)) in
      let l2 : length (h ++ F) ≡ e + 4 = rw (length-append, l, length_digits) in
      record {
        first = num_mid h (N ++ (r ++ t)) from 4 e s q1 l bf;
        second = num_mid (h ++ F) (r ++ t) n 4 (e + 4) s q2 l2 bn;
        next = q3;
        long = length-append (h ++ F) N ∙ rw (l2, length_digits) (omega arith);
      }

  tiled_entries : (fs : List File) (h t : List ℕ) (e from : ℕ) → s ≡ h ++ (entries from (map length fs) ++ t) → length h ≡ e → from + length (join fs) ≡ to → tiled s to e from (length fs) ≡ true
  unfolding tiled entries join
  tiled_entries [] h t e from q l f = eq-eqb from to (rw add-zero at f)
  tiled_entries (x ∷ fs) h t e from q l f =
      let g : from + length x + length (join fs) ≡ to = (let y = length-append x (join fs) in omega arith) in
      let w = entry h (entries (from + length x) (map length fs)) t from (length x) e q l (omega arith) (omega arith) in
      rw (w.first, w.second, eq-eqb from from refl) (tiled_entries fs ((h ++ digits 0 4 from) ++ digits 0 4 (length x)) t (e + 8) (from + length x) w.next w.long g)

  parts_entries : (fs : List File) (h t u : List ℕ) (e from : ℕ) → s ≡ h ++ (entries from (map length fs) ++ t) → length h ≡ e → from + length (join fs) ≡ to → drop from s ≡ join fs ++ u → parts_from s e (length fs) ≡ fs
  unfolding entries join parts_from
  parts_entries [] h t u e from q l f v = refl
  parts_entries (x ∷ fs) h t u e from q l f v =
      let g : from + length x + length (join fs) ≡ to = (let y = length-append x (join fs) in omega arith) in
      let n = length x in
      let w = entry h (entries (from + n) (map length fs)) t from n e q l (omega arith) (omega arith) in
      let v1 : drop from s ≡ x ++ (join fs ++ u) = v ∙ append_assoc x (join fs) u in
      let v2 : drop (from + n) s ≡ join fs ++ u = sym (drop-drop n from s) ∙ rw (v1, drop_at x (join fs ++ u) n refl) in
      rw (w.first, w.second, v1, take_at x (join fs ++ u) n refl, parts_entries fs ((h ++ digits 0 4 from) ++ digits 0 4 n) t u (e + 8) (from + n) w.next w.long g v2)

pub length_entries : (from : ℕ) (ls : List ℕ) → length (entries from ls) ≡ 8 * length ls
unfolding entries
length_entries from [] = refl
length_entries from (l ∷ ls) = rw (length-append, length_digits, length-append, length_digits, length_entries (from + l) ls) (omega arith)

pub length_all : (fs : List File) → length (map length fs) ≡ length fs
length_all [] = refl
length_all (f ∷ fs) = ap suc (length_all fs)

pub good_all : (fs : List File) → Good fs → Holds (filed fs)
unfolding filed
good_all [] g = tt
good_all (f ∷ fs) g = rw (append-nil (filed fs)) at (each_of (checks f ∷ filed fs ∷ []) (holds ((exactly (checks f)).0 g.0) (holds (good_all fs g.1) tt)))

pub record Has (s : List ℕ) (ps : List File) : Type 0 where
  pub trailer : sound s ≡ true
  pub count : count_of s ≡ length ps
  pub parts : parts_of s ≡ ps

pub written_has : (ps : List File) → 1 ≤ length ps → length ps ≤ most → length (reel_of ps) < big → Has (reel_of ps) ps
unfolding reel_of trailer_of sound
written_has ps lo hi short =
    let s = reel_of ps in
    let J = join ps in
    let E = entries 0 (map length ps) in
    let n = length ps in
    let to = length J in
    let X = ending n to in
    let le : length E ≡ 8 * n = length_entries 0 (map length ps) ∙ rw (length_all ps) in
    let len : length s ≡ to + 8 * n + length X = length-append J (E ++ X) ∙ rw (length-append E X, le) (omega arith) in
    let k = end_back (J ++ E) n to s (rw (append_assoc J E X)) lo hi (omega arith) in
    let c = k.count in
    let t = k.trailer in
    let ti : tiled s to to 0 n ≡ true = tiled_entries s to (omega arith) ps J X to 0 refl refl (zero-add to) in
    let pa : parts_from s to n ≡ ps = parts_entries s to (omega arith) ps J X (E ++ X) to 0 refl refl (zero-add to) refl in
    record { trailer = rw (c, t, k.good, lt-ltb (length s) big short, eq-eqb _ _ (sym len)) ti; count = c; parts = rw (c, t) pa }
