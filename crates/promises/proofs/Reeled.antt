-- What is said of reels and written as them, in document 02's words: laws of the definitions that the contracts cite.
-- Assumes nothing.
use Rattle.std.proofs.Common.{◌≡◌, refl, sym, ap, subst, ◌∙◌, Bool, true, false, ◌&&◌, List, [], ◌∷◌, ◌++◌, map, ℕ, ◌+◌, ◌-◌, ◌≤◌, ◌<◌, zero-add, arith, le-leb, leb-true, leb, length, get_or, take, drop, length-append, take_at, drop_at, drop-drop}
use Rattle.std.proofs.Math.Bool.{and-eq-true_iff}
use borrow.Author.Tests.{lt-leb}
use Rattle.wire.specs.Wire.{Bytes, eqs, join}
use Rattle.wire.proofs.Pieces.{num_span_lt}
use Rattle.rules.specs.Rules.{Turned, turned, Ruling, fine, refused, Row, row, judge, Reply, says, refuses, after}
use Rattle.rules.proofs.Judge.{judge_append, judge_refused, each_is, exactly, each_of, holds, said}
use Rattle.accept.specs.Checks.{checks}
use Rattle.reel.specs.Ends.{letters, ending, count_of, trailer_at, good_end}
use Rattle.reel.specs.Reels.{File, four, trailer_of, trailer_length, reel_of, sound, parts_of, filed, Good, opening, opened, entry_in, entry_at, lies, place_of}
use Rattle.reel.specs.Writing.{cut_up, sum_of, listed, good_list, writing, wrote, written}
use Rattle.reel.proofs.Reels.{sound_is, all_good}
use Rattle.reel.proofs.Lists.{Has, one_reel, written_has, length_parts, length_all, good_all}
use Rattle.reel.proofs.Places.{part_of, tiled_at, place_in, no_place}
use Rattle.reel.proofs.Writing.{first_row, length_cut, join_cut, lengths_cut, listed_is, listed_good, trailer_size, reel_size, reel_listed, written_is}
use Rattle.promises.specs.Reels.{Fits, Laid, Reel, Handed, Own, Opening, Writing}

-- ---- bytes and the parts that they are laid out as

pub laid_has : {s : List ℕ} {ps : List File} → Laid s ps → Has s ps
laid_has {s} {ps} l = rw l.is (written_has ps l.fits.some l.fits.few l.fits.short)

pub one_list : {s : List ℕ} {ps qs : List File} → Laid s ps → Laid s qs → ps ≡ qs
one_list l m = sym (laid_has l).parts ∙ (laid_has m).parts

counted : (s : List ℕ) → good_end s ≡ true → 1 ≤ count_of s
unfolding good_end
counted s g = leb-true 1 (count_of s) ((and-eq-true_iff (eqs (drop (length s - 4) s) letters) (leb 1 (count_of s))).0 g).1

counted_few : (s : List ℕ) → Bytes s → count_of s < 256
unfolding count_of
counted_few s b = num_span_lt s 0 (length s - 9) 1 b

sound_laid : (s : List ℕ) → Bytes s → sound s ≡ true → Laid s (parts_of s)
sound_laid s b e =
    let g = sound_is s e in
    let n = length_parts s (trailer_at s) (count_of s) in
    let some = counted s g.end in
    let few = counted_few s b in
    let is = one_reel s b g in
    record { is = is; fits = record { some = omega arith; few = omega arith; short = rw (← is) g.short } }

-- ---- opening

first_bad : (fs gs : List File) (f : File) (u : Turned) → Good fs → judge fine (checks f) ≡ refused u → judge fine (filed (fs ++ (f ∷ gs))) ≡ refused u
unfolding filed
first_bad [] gs f u g e = judge_append fine (checks f) (filed gs) ∙ rw e (judge_refused u (filed gs))
first_bad (h ∷ fs) gs f u g e = judge_append fine (checks h) (filed (fs ++ (f ∷ gs))) ∙ rw g.0 (first_bad fs gs f u g.1 e)

part_bad : (s : List ℕ) (fs gs : List File) (f : File) (u : Turned) → sound s ≡ true → parts_of s ≡ fs ++ (f ∷ gs) → Good fs → judge fine (checks f) ≡ refused u → judge fine (opening s) ≡ refused u
unfolding opening
part_bad s fs gs f u t q g e = rw (t, q) (judge_append fine (filed (fs ++ (f ∷ gs))) [] ∙ first_bad fs gs f u g e)

all_fine : (s : List ℕ) → sound s ≡ true → Good (parts_of s) → judge fine (opening s) ≡ fine
unfolding opening
all_fine s t g = (exactly (opening s)).1 (each_of ((row (sound s) 18 0 0 ∷ []) ∷ filed (parts_of s) ∷ []) (holds (holds t tt) (holds (good_all (parts_of s) g) tt)))

-- a reel opens
pub opened_good : {s : List ℕ} {fs : List File} → Reel s fs → opened s ≡ says (length fs)
unfolding opened
opened_good {s} {fs} r = let h = laid_has r.laid in rw (all_fine s h.trailer (rw h.parts r.files), h.count)

-- under a sound trailer the first bad part answers
pub opened_bad : {s : List ℕ} (fs gs : List File) (f : File) (u : Turned) → Laid s (fs ++ (f ∷ gs)) → Good fs → judge fine (checks f) ≡ refused u → opened s ≡ refuses u
unfolding opened
opened_bad {s} fs gs f u l g e = let h = laid_has l in rw (part_bad s fs gs f u h.trailer h.parts g e)

unsound : (s : List ℕ) → sound s ≡ false → opened s ≡ refuses (turned 18 0 0)
unfolding opened opening
unsound s e = rw (first_row (sound s) (turned 18 0 0) _ e)

-- a trailer of no parts at all is told first
pub opened_broken : (s : List ℕ) → Bytes s → ((ps : List File) → Laid s ps → ⊥) → opened s ≡ refuses (turned 18 0 0)
opened_broken s b none = go (sound s) refl
  where
    go : (x : Bool) → sound s ≡ x → opened s ≡ refuses (turned 18 0 0)
    go false e = unsound s e
    go true e = absurd (none (parts_of s) (sound_laid s b e))

-- nothing else opens
pub opened_back : (s : List ℕ) (n : ℕ) → Bytes s → opened s ≡ says n → Reel s (parts_of s) × (n ≡ length (parts_of s))
unfolding opened opening
opened_back s n b e =
    let a = said (judge fine (opening s)) (count_of s) n e in
    let k = each_is ((row (sound s) 18 0 0 ∷ []) ∷ filed (parts_of s) ∷ []) ((exactly (opening s)).0 a.0) in
    (record { laid = sound_laid s b k.0.0; files = all_good (parts_of s) k.1.0 }, sym a.1 ∙ sym (length_parts s (trailer_at s) (count_of s)))

-- ---- the files by their numbers

-- file k of a reel stands wholly in it, and is the kth
pub placed : {s : List ℕ} {ps : List File} → Laid s ps → (k : ℕ) → 1 ≤ k → k ≤ length ps
    → ((place_of s k).offset + (place_of s k).length ≤ length s) × (take (place_of s k).length (drop (place_of s k).offset s) ≡ get_or ps (k - 1) [])
unfolding lies
placed {s} {ps} l k lo hi =
    let h = laid_has l in
    let c = h.count in
    let g = sound_is s h.trailer in
    let z = g.size in
    let w = tiled_at s (trailer_at s) (trailer_at s) 0 (count_of s) (k - 1) g.tiles (omega arith) in
    let e : place_of s k ≡ entry_in s (entry_at s k) = place_in s k (rw (le-leb 1 k lo, le-leb k (count_of s) (omega arith), le-leb (entry_at s k + 8 + length (ending (count_of s) (trailer_at s))) (length s) (omega arith), le-leb (four s (entry_at s k) + four s (entry_at s k + 4)) (length s) (omega arith))) in
    (rw e (omega arith), rw e (sym (part_of s (trailer_at s) (count_of s) (k - 1) (omega arith))) ∙ ap (λ (qs : List File). get_or qs (k - 1) []) h.parts)

-- there is none of another number
pub after_last : {s : List ℕ} {ps : List File} → Laid s ps → (k : ℕ) → length ps < k → place_of s k ≡ record { offset = 0; length = 0 }
unfolding lies
after_last {s} l k h = let c = (laid_has l).count in no_place s k (rw (le-leb 1 k (omega arith), lt-leb k (count_of s) (omega arith)))

pub zeroth : (s : List ℕ) → place_of s 0 ≡ record { offset = 0; length = 0 }
unfolding lies
zeroth s = no_place s 0 refl

-- whatever the bytes are, what is shown lies within them
shown_within : (s : List ℕ) (k : ℕ) → lies s k ≡ true → four s (entry_at s k) + four s (entry_at s k + 4) ≤ length s
unfolding lies
shown_within s k e =
    let last = leb (four s (entry_at s k) + four s (entry_at s k + 4)) (length s) in
    let before = leb 1 k && leb k (count_of s) && leb (entry_at s k + 8 + length (ending (count_of s) (trailer_at s))) (length s) in
    leb-true (four s (entry_at s k) + four s (entry_at s k + 4)) (length s) ((and-eq-true_iff before last).0 e).1

pub within : (s : List ℕ) (k : ℕ) → (place_of s k).offset + (place_of s k).length ≤ length s
within s k = go (lies s k) refl
  where
    go : (b : Bool) → lies s k ≡ b → (place_of s k).offset + (place_of s k).length ≤ length s
    go true e = rw (place_in s k e) (shown_within s k e)
    go false e = rw (no_place s k e) (omega arith)

-- ---- a list as it is handed over

sum_all : (fs : List File) → sum_of (map length fs) ≡ length (join fs)
unfolding sum_of join
sum_all [] = refl
sum_all (f ∷ fs) = rw (length-append, sum_all fs)

cut_all : (s : List ℕ) (at : ℕ) (fs : List File) → drop at s ≡ join fs → cut_up s at (map length fs) ≡ fs
unfolding cut_up join
cut_all s at [] e = refl
cut_all s at (f ∷ fs) e =
    let d : drop (at + length f) s ≡ join fs = sym (drop-drop (length f) at s) ∙ rw (e, drop_at f (join fs) (length f) refl) in
    rw (e, take_at f (join fs) (length f) refl, cut_all s (at + length f) fs d)

module _ {s ls : List ℕ} {fs : List File} (h : Handed s ls fs) where
  pub handed_listed : listed s ls ≡ fs
  handed_listed = rw (h.together, h.each) (cut_all (join fs) 0 fs refl)

  handed_good : Fits fs → good_list s ls ≡ true
  handed_good f =
      let n : length ls ≡ length fs = ap length h.each ∙ length_all fs in
      let a = f.some in
      let b = f.few in
      listed_good s ls (record { some = omega arith; few = omega arith; sum = rw (h.together, h.each) (sum_all fs); short = rw handed_listed f.short })

pub listed_handed : (s ls : List ℕ) → sum_of ls ≡ length s → Handed s ls (listed s ls)
listed_handed s ls e = let z : 0 + sum_of ls ≡ length s = zero-add (sum_of ls) ∙ e in record { together = sym (join_cut s 0 ls z); each = sym (lengths_cut s 0 ls z) }

pub good_fits : (s ls : List ℕ) → good_list s ls ≡ true → Handed s ls (listed s ls) × Fits (listed s ls)
good_fits s ls e =
    let g = listed_is s ls e in
    let n = length_cut s 0 ls in
    let a = g.some in
    let b = g.few in
    (listed_handed s ls g.sum, record { some = omega arith; few = omega arith; short = g.short })

-- ---- writing

-- the tables of a list that is to be written
abbrev three : List ℕ → List ℕ → ℕ → ℕ → List (List Row)
three s ls need room = (row (good_list s ls) 18 0 0 ∷ []) ∷ filed (listed s ls) ∷ (row (leb need room) 17 0 0 ∷ []) ∷ []

module _ {s ls : List ℕ} (out bs : List ℕ) where
  wrote_own : (fs gs : List File) (f : File) (u : Turned) → Handed s ls (fs ++ (f ∷ gs)) → Fits (fs ++ (f ∷ gs)) → Good fs → Own f u → wrote s ls bs out ≡ refused u
  unfolding writing
  wrote_own fs gs f u h t g e = rw (handed_good h t, handed_listed h) (judge_append fine (filed (fs ++ (f ∷ gs))) _ ∙ rw (first_bad fs gs f u g e) (judge_refused u (row (leb (length bs) (length out)) 17 0 0 ∷ [])))

  wrote_good : {fs : List File} → Handed s ls fs → Fits fs → Good fs → length bs ≤ length out → wrote s ls bs out ≡ fine
  unfolding writing
  wrote_good {fs} h f g r =
      (exactly (writing s ls (length bs) (length out))).1
      (each_of (three s ls (length bs) (length out)) (holds (holds (handed_good h f) tt) (holds (good_all (listed s ls) (rw (handed_listed h) g)) (holds (holds (le-leb (length bs) (length out) r) tt) tt))))

  wrote_room : {fs : List File} → Handed s ls fs → Fits fs → Good fs → length out < length bs → wrote s ls bs out ≡ refused (turned 17 0 0)
  unfolding writing
  wrote_room {fs} h t g r =
      rw (handed_good h t, handed_listed h) (judge_append fine (filed fs) _ ∙ rw ((exactly (filed fs)).1 (good_all fs g), lt-leb (length bs) (length out) r))

  wrote_reel : ((ps : List File) → Handed s ls ps → Fits ps → ⊥) → wrote s ls bs out ≡ refused (turned 18 0 0)
  unfolding writing
  wrote_reel none = go (good_list s ls) refl
    where
      go : (b : Bool) → good_list s ls ≡ b → wrote s ls bs out ≡ refused (turned 18 0 0)
      go false e = first_row (good_list s ls) (turned 18 0 0) (filed (listed s ls) ∷ (row (leb (length bs) (length out)) 17 0 0 ∷ []) ∷ []) e
      go true e = let g = good_fits s ls e in absurd (none (listed s ls) g.0 g.1)

  -- what is fine was a list that a reel can hold, of accepted files
  pub wrote_back : wrote s ls bs out ≡ fine → Handed s ls (listed s ls) × Fits (listed s ls) × Good (listed s ls)
  unfolding writing
  wrote_back e =
      let k = each_is (three s ls (length bs) (length out)) ((exactly (writing s ls (length bs) (length out))).0 e) in
      let g = good_fits s ls k.0.0 in
      (g.0, g.1, all_good (listed s ls) k.1.0)

-- the front of the output after a call that was fine, and the files with the trailer that was written after them
abbrev pub front : List ℕ → List ℕ → List ℕ → List ℕ
front files lengths left = take (length files + trailer_length (length lengths)) left

abbrev pub sealed : List ℕ → List ℕ → List ℕ → List ℕ
sealed files lengths left = files ++ take (trailer_length (length lengths)) left

module _ (s ls out : List ℕ) where
  pub front_reel : wrote s ls (reel_of (listed s ls)) out ≡ fine → Reel (front s ls (written s ls (reel_of (listed s ls)) out)) (listed s ls)
  front_reel e =
      let k = wrote_back out (reel_of (listed s ls)) e in
      let g = listed_is s ls (handed_good k.0 k.1) in
      let is : front s ls (written s ls (reel_of (listed s ls)) out) ≡ reel_of (listed s ls) = rw (written_is s ls (reel_of (listed s ls)) out e) (take_at (reel_of (listed s ls)) _ _ (reel_size s ls g.sum g.some g.few)) in
      record { laid = record { is = is; fits = k.1 }; files = k.2 }

  pub sealed_reel : wrote s ls (trailer_of (listed s ls)) out ≡ fine → Reel (sealed s ls (written s ls (trailer_of (listed s ls)) out)) (listed s ls)
  sealed_reel e =
      let k = wrote_back out (trailer_of (listed s ls)) e in
      let g = listed_is s ls (handed_good k.0 k.1) in
      let is : sealed s ls (written s ls (trailer_of (listed s ls)) out) ≡ reel_of (listed s ls) = rw (written_is s ls (trailer_of (listed s ls)) out e, take_at (trailer_of (listed s ls)) (drop (length (trailer_of (listed s ls))) out) (trailer_length (length ls)) (trailer_size s ls g.sum g.some g.few)) (sym (reel_listed s ls g.sum)) in
      record { laid = record { is = is; fits = k.1 }; files = k.2 }

kept : (s ls bs out : List ℕ) (u : Turned) → wrote s ls bs out ≡ refused u → written s ls bs out ≡ out
unfolding written after
kept s ls bs out u e = rw e

pub writings : (Says : Ruling → Type 0) (bytes : List File → List ℕ) (s ls out left : List ℕ) (v : Ruling) → v ≡ wrote s ls (bytes (listed s ls)) out → Says v
    → left ≡ written s ls (bytes (listed s ls)) out → Writing Says bytes s ls out left
writings Says bytes s ls out left v e x o =
    let bs = bytes (listed s ls) in
    let no : (u : Turned) → wrote s ls bs out ≡ refused u → Says (refused u) × (left ≡ out) = λ u w. (subst Says (e ∙ w) x, o ∙ kept s ls bs out u w) in
    record {
      good = λ fs h f g r.
          let q : bs ≡ bytes fs = ap bytes (handed_listed h) in
          let w = wrote_good out bs h f g (rw q r) in
          (subst Says (e ∙ w) x, o ∙ written_is s ls bs out w ∙ ap (λ (l : List ℕ). l ++ drop (length l) out) q);
      own = λ fs gs f u h t g w. no u (wrote_own out bs fs gs f u h t g w);
      room = λ fs h f g r. no (turned 17 0 0) (wrote_room out bs h f g (rw (ap bytes (handed_listed h)) r));
      reel = λ none. no (turned 18 0 0) (wrote_reel out bs none);
    }

-- the same of opening
pub openings : (Says : Reply ℕ → Type 0) (s : List ℕ) (x : Reply ℕ) → x ≡ opened s → Says x → Opening Says s
openings Says s x e y = record {
  good = λ fs r. subst Says (e ∙ opened_good r) y;
  own = λ fs gs f u l g w. subst Says (e ∙ opened_bad fs gs f u l g w) y;
  broken = λ b none. subst Says (e ∙ opened_broken s b none) y;
}
