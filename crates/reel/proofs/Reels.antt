-- A reel that opens: its files end to end, and then the trailer.
-- Assumes nothing.
use mathlib.Core.Path.{◌≡◌, sym, ap}
use mathlib.Core.Bool.{Bool, true, ◌&&◌, and-eq-true_iff}
use mathlib.Core.List.{List, [], ◌∷◌, ◌++◌, append_assoc, append-nil}
use Prim.Native.Nat.{ℕ, zero, suc, ◌+◌, ◌*◌, ◌<◌}
use borrow.Author.Tests.{ltb-true, eqb-true}
use lib.Dec.{ltb, eqb}
use lib.ListN.{length, take, drop, take-append-drop}
use lib.Seq.{drop-drop}
use Rattle.wire.specs.Wire.{join}
use Rattle.rules.proofs.Judge.{Holds, exactly, each_is}
use Rattle.accept.specs.Checks.{checks}
use Rattle.reel.specs.Ends.{big, ending, count_of, trailer_at, good_end}
use Rattle.reel.specs.Reels.{File, four, tiled, sound, parts_from, parts_of, filed, Good}

pub both : (a b : Bool) → (a && b) ≡ true → (a ≡ true) × (b ≡ true)
both a b e = (and-eq-true_iff a b).0 e

-- ---- what a sound trailer says

pub record Sound (s : List ℕ) : Type 0 where
  pub short : length s < big
  pub end : good_end s ≡ true
  pub size : trailer_at s + 8 * count_of s + length (ending (count_of s) (trailer_at s)) ≡ length s
  pub tiles : tiled s (trailer_at s) (trailer_at s) 0 (count_of s) ≡ true

pub sound_is : (s : List ℕ) → sound s ≡ true → Sound s
unfolding sound
sound_is s e =
    let z = eqb (trailer_at s + 8 * count_of s + length (ending (count_of s) (trailer_at s))) (length s) in
    let e3 = both (ltb (length s) big && good_end s && z) (tiled s (trailer_at s) (trailer_at s) 0 (count_of s)) e in
    let e2 = both (ltb (length s) big && good_end s) z e3.0 in
    let e1 = both (ltb (length s) big) (good_end s) e2.0 in
    record { short = ltb-true _ _ e1.0; end = e1.1; size = eqb-true _ _ e2.1; tiles = e3.1 }

-- ---- files that are all accepted

pub all_good : (fs : List File) → Holds (filed fs) → Good fs
unfolding filed
all_good [] h = tt
all_good (f ∷ fs) h =
    let k = each_is (checks f ∷ filed fs ∷ []) (rw (append-nil (filed fs)) h) in
    ((exactly (checks f)).1 k.0, all_good fs k.1.0)

-- ---- the files of a reel, end to end, and then its trailer

tiles_join : (s : List ℕ) (to e from n : ℕ) → tiled s to e from n ≡ true → drop from s ≡ join (parts_from s e n) ++ drop to s
unfolding tiled join parts_from
tiles_join s to e from zero t = ap (λ (n : ℕ). drop n s) (eqb-true from to t)
tiles_join s to e from (suc n) t =
    let p = both (eqb (four s e) from) _ t in
    let q = eqb-true (four s e) from p.0 in
    let l = four s (e + 4) in
    let ih = tiles_join s to (e + 8) (from + l) n p.1 in
    rw (q, append_assoc (take l (drop from s)) (join (parts_from s (e + 8) n)) (drop to s), ← ih, ← drop-drop l from s) (sym (take-append-drop l (drop from s)))

pub reel_is : (s : List ℕ) → Sound s → s ≡ join (parts_of s) ++ drop (trailer_at s) s
reel_is s g = tiles_join s (trailer_at s) (trailer_at s) 0 (count_of s) g.tiles
