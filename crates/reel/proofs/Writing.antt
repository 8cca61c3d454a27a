-- A list of files as it is handed over, and what the writer's stores amount to.
-- Assumes nothing.
use mathlib.Core.Path.{◌≡◌, refl, sym, ap, ◌∙◌}
use mathlib.Core.Bool.{Bool, true, false, ◌&&◌}
use mathlib.Core.List.{List, [], ◌∷◌, ◌++◌, map}
use Prim.Native.Nat.{ℕ, suc, ◌+◌, ◌*◌, ◌≤◌, ◌<◌}
use native.Mathlib.Nat.{zero-add}
use native.Mathlib.Numerals.{add-one}
use native.Mathlib.Omega.{arith}
use borrow.Author.Tests.{eq-eqb, ne_eqb, eqb-true, leb-true, ltb-true, le-leb, lt-leb, lt-ltb}
use lib.Dec.{leb, ltb, eqb}
use lib.ListN.{length, get_or, take, drop, length-append, length-drop, take-append-drop, drop_of_length-le}
use lib.Seq.{drop-cons, drop-drop, length-take-le, drop-length}
use Rattle.wire.specs.Wire.{lows, digits, join, store, Stored}
use Rattle.wire.proofs.Numbers.{length_digits}
use Rattle.wire.proofs.Stores.{store_append, front}
use Rattle.rules.specs.Rules.{Turned, turned, Row, Ruling, test, fine, refused, checked, judge, tables, after}
use Rattle.rules.proofs.Judge.{judge_append, judge_refused, exactly}
use Rattle.accept.specs.Checks.{checks}
use Rattle.reel.specs.Ends.{big, most, letters, ending}
use Rattle.reel.specs.Reels.{entries, trailer_of, trailer_length, reel_of, filed, Good}
use Rattle.reel.specs.Writing.{cut_up, sum_of, listed, good_list, writing, wrote, written}
use Rattle.reel.proofs.Reels.{both, all_good}
use Rattle.reel.proofs.Lists.{length_entries}
use Rattle.reel.proofs.Ends.{length_ending}

-- ---- one turn of each loop

pub sum_next : (ls : List ℕ) (i : ℕ) → i < length ls → sum_of (drop i ls) ≡ get_or ls i 0 + sum_of (drop (i + 1) ls)
unfolding sum_of
sum_next ls i h = rw (add-one, drop-cons ls i 0 h)

pub sum_end : (ls : List ℕ) (i : ℕ) → length ls ≤ i → sum_of (drop i ls) ≡ 0
unfolding sum_of
sum_end ls i h = rw (drop_of_length-le ls h)

pub ruleset summing = (sum_next, sum_end)

pub cut_stop : (s : List ℕ) (at : ℕ) (ls : List ℕ) (i : ℕ) {u : Turned} → i < length ls → judge fine (checks (take (get_or ls i 0) (drop at s))) ≡ refused u
    → judge fine (filed (cut_up s at (drop i ls))) ≡ refused u
unfolding cut_up filed
cut_stop s at ls i h d = rw (drop-cons ls i 0 h, judge_append, d, judge_refused)

pub cut_next : (s : List ℕ) (at : ℕ) (ls : List ℕ) (i : ℕ) → i < length ls → judge fine (checks (take (get_or ls i 0) (drop at s))) ≡ fine
    → judge fine (filed (cut_up s (at + get_or ls i 0) (drop (i + 1) ls))) ≡ judge fine (filed (cut_up s at (drop i ls)))
unfolding cut_up filed
cut_next s at ls i h d = rw (add-one, drop-cons ls i 0 h, judge_append, d)

pub cut_end : (s : List ℕ) (at : ℕ) (ls : List ℕ) (i : ℕ) → length ls ≤ i → judge fine (filed (cut_up s at (drop i ls))) ≡ fine
unfolding cut_up filed
cut_end s at ls i h = rw (drop_of_length-le ls h)

pub ruleset cutting = (summing, cut_stop, cut_next, cut_end)

pub entries_next : (ls : List ℕ) (at i from : ℕ) {l m out : List ℕ} → i < length ls → Stored 4 l (at + 8 * i) (digits 0 4 from) m → Stored 4 m (at + 8 * i + 4) (digits 0 4 (get_or ls i 0)) out
    → store out (at + 8 * (i + 1)) (entries (from + get_or ls i 0) (drop (i + 1) ls)) ≡ store l (at + 8 * i) (entries from (drop i ls))
unfolding entries
entries_next ls at i from {l} {m} {out} h a b =
    let e = at + 8 * i in
    let q : at + 8 * (i + 1) ≡ e + 4 + 4 = omega arith in
    rw (q, b.is, a.is, add-one, drop-cons ls i 0 h, store_append l e 4 (digits 0 4 from) _ a.long, store_append (store l e (digits 0 4 from)) (e + 4) 4 (digits 0 4 (get_or ls i 0)) _ b.long)

pub entries_end : (ls : List ℕ) (i : ℕ) (l : List ℕ) (e from : ℕ) → length ls ≤ i → store l e (entries from (drop i ls)) ≡ l
unfolding entries store
entries_end ls i l e from h = rw (drop_of_length-le ls h)

pub ruleset storing = (summing, entries_next, entries_end)

-- ---- the files that lengths cut out

pub length_cut : (s : List ℕ) (at : ℕ) (ls : List ℕ) → length (cut_up s at ls) ≡ length ls
unfolding cut_up
length_cut s at [] = refl
length_cut s at (l ∷ ls) = ap suc (length_cut s (at + l) ls)

pub join_cut : (s : List ℕ) (at : ℕ) (ls : List ℕ) → at + sum_of ls ≡ length s → join (cut_up s at ls) ≡ drop at s
unfolding join cut_up sum_of
join_cut s at [] e = let q : at ≡ length s = omega arith in rw (q, drop-length)
join_cut s at (l ∷ ls) e = rw (join_cut s (at + l) ls (omega arith), ← drop-drop l at s) (take-append-drop l (drop at s))

pub lengths_cut : (s : List ℕ) (at : ℕ) (ls : List ℕ) → at + sum_of ls ≡ length s → map length (cut_up s at ls) ≡ ls
unfolding cut_up sum_of
lengths_cut s at [] e = refl
lengths_cut s at (l ∷ ls) e =
    let k : length (take l (drop at s)) ≡ l = length-take-le l (drop at s) (rw length-drop (omega arith)) in
    rw (k, lengths_cut s (at + l) ls (omega arith))

-- ---- how long a trailer is, and where there is none

pub length_none : (n : ℕ) → n < 1 → 0 ≡ trailer_length n
unfolding trailer_length
length_none n h = rw (lt-leb 1 n h)

pub length_many : (n : ℕ) → 1 ≤ n → most < n → 0 ≡ trailer_length n
unfolding trailer_length
length_many n a h = rw (le-leb 1 n a, lt-leb n most h)

pub length_some : (n to : ℕ) → 1 ≤ n → n ≤ most → 8 * n + length (ending n to) ≡ trailer_length n
unfolding trailer_length
length_some n to a b = rw (le-leb 1 n a, le-leb n most b, length_ending n to, length_ending n 0)

pub length_short : (n : ℕ) → trailer_length n ≤ 4096
unfolding trailer_length
length_short n = go (leb 1 n) (leb n most) refl refl
  where
    go : (a b : Bool) → leb 1 n ≡ a → leb n most ≡ b → trailer_length n ≤ 4096
    go true true p q = let h = leb-true n most q in rw (p, q, length_ending n 0) (omega arith)
    go true false p q = rw (p, q) (omega arith)
    go false b p q = rw p (omega arith)

pub trailed : (n : ℕ) → (trailer_length n ≡ 0 → ⊥) → (1 ≤ n) × (n ≤ most)
unfolding trailer_length
trailed n h = go (leb 1 n) (leb n most) refl refl
  where
    go : (a b : Bool) → leb 1 n ≡ a → leb n most ≡ b → (1 ≤ n) × (n ≤ most)
    go true true p q = (leb-true 1 n p, leb-true n most q)
    go true false p q = absurd (h (rw (p, q)))
    go false b p q = absurd (h (rw p))

-- ---- the trailer and the reel of what is handed over

module _ (s ls : List ℕ) (e : sum_of ls ≡ length s) where
  pub joined : join (listed s ls) ≡ s
  joined = join_cut s 0 ls (zero-add (sum_of ls) ∙ e)

  trailer_is : trailer_of (listed s ls) ≡ entries 0 ls ++ ending (length ls) (length s)
  unfolding trailer_of
  trailer_is = rw (joined, lengths_cut s 0 ls (zero-add (sum_of ls) ∙ e), length_cut s 0 ls)

  pub reel_listed : reel_of (listed s ls) ≡ s ++ trailer_of (listed s ls)
  unfolding reel_of
  reel_listed = rw joined

  module _ (some : 1 ≤ length ls) (few : length ls ≤ most) where
    pub trailer_size : length (trailer_of (listed s ls)) ≡ trailer_length (length ls)
    trailer_size = ap length trailer_is ∙ length-append (entries 0 ls) _ ∙ rw (length_entries 0 ls) (length_some (length ls) (length s) some few)

    pub reel_size : length (reel_of (listed s ls)) ≡ length s + trailer_length (length ls)
    reel_size = ap length reel_listed ∙ length-append s _ ∙ rw trailer_size

  -- the stores of a trailer, and of a reel
  pub trailer_stored : (out : List ℕ) {m k : List ℕ} (at : ℕ) → m ≡ store out at (entries 0 ls) → k ≡ store m (at + 8 * length ls) (ending (length ls) (length s)) → k ≡ store out at (trailer_of (listed s ls))
  trailer_stored out at a b = b ∙ rw (a, trailer_is, store_append out at (8 * length ls) (entries 0 ls) _ (length_entries 0 ls))

  pub reel_stored : (out : List ℕ) {m k : List ℕ} → m ≡ store out 0 s → k ≡ store m (length s) (trailer_of (listed s ls)) → k ≡ store out 0 (reel_of (listed s ls))
  reel_stored out a b = b ∙ rw (a, reel_listed, store_append out 0 (length s) s _ refl, zero-add)

one_byte : (n : ℕ) → n < 256 → digits 0 1 n ≡ n ∷ []
unfolding digits lows
one_byte n h = ap (λ (x : ℕ). x ∷ []) (omega arith)

-- the bytes of an end
pub ending_stored : (n to : ℕ) {l m k out : List ℕ} {at : ℕ} → n ≤ most → Stored 1 l at (n ∷ []) m → Stored 4 m (at + 1) (digits 0 4 to) k → Stored 4 k (at + 1 + 4) letters out → out ≡ store l at (ending n to)
unfolding ending
ending_stored n to {l} {m} {k} {out} {at} h a b c =
    let d : digits 0 1 n ≡ n ∷ [] = one_byte n (omega arith) in
    c.is ∙ rw (b.is, a.is, d, store_append l at 1 (n ∷ []) (digits 0 4 to ++ letters) refl, store_append (store l at (n ∷ [])) (at + 1) 4 (digits 0 4 to) letters (length_digits 0 4 to))

-- ---- a good list

pub record Listed (s ls : List ℕ) : Type 0 where
  pub some : 1 ≤ length ls
  pub few : length ls ≤ most
  pub sum : sum_of ls ≡ length s
  pub short : length (reel_of (listed s ls)) < big

pub listed_is : (s ls : List ℕ) → good_list s ls ≡ true → Listed s ls
unfolding good_list
listed_is s ls e =
    let a = leb 1 (length ls) in
    let b = leb (length ls) most in
    let c = eqb (sum_of ls) (length s) in
    let e3 = both (a && b && c) (ltb (length (reel_of (listed s ls))) big) e in
    let e2 = both (a && b) c e3.0 in
    let e1 = both a b e2.0 in
    record { some = leb-true _ _ e1.0; few = leb-true _ _ e1.1; sum = eqb-true _ _ e2.1; short = ltb-true _ _ e3.1 }

pub listed_good : (s ls : List ℕ) → Listed s ls → good_list s ls ≡ true
unfolding good_list
listed_good s ls g = rw (le-leb 1 (length ls) g.some, le-leb (length ls) most g.few, eq-eqb (sum_of ls) (length s) g.sum, lt-ltb (length (reel_of (listed s ls))) big g.short)

-- the list that a call is given, test by test
pub good_none : (s ls : List ℕ) → trailer_length (length ls) ≡ 0 → false ≡ good_list s ls
good_none s ls h = go (good_list s ls) refl
  where
    go : (b : Bool) → good_list s ls ≡ b → false ≡ good_list s ls
    go false e = sym e
    go true e =
        let g = listed_is s ls e in
        let l = length_some (length ls) 0 g.some g.few in
        absurd (omega (arith, g.some))

pub good_sum : (s ls : List ℕ) → (trailer_length (length ls) ≡ 0 → ⊥) → (sum_of ls ≡ length s → ⊥) → false ≡ good_list s ls
unfolding good_list
good_sum s ls t h =
    let k = trailed (length ls) t in
    rw (le-leb 1 (length ls) k.0, le-leb (length ls) most k.1, ne_eqb (sum_of ls) (length s) h)

pub good_size : (s ls : List ℕ) → (trailer_length (length ls) ≡ 0 → ⊥) → sum_of ls ≡ length s → ltb (length s + trailer_length (length ls)) big ≡ good_list s ls
unfolding good_list
good_size s ls t e =
    let k = trailed (length ls) t in
    rw (le-leb 1 (length ls) k.0, le-leb (length ls) most k.1, eq-eqb (sum_of ls) (length s) e, reel_size s ls e k.0 k.1)

-- what the code relies on
pub bounds : (s ls : List ℕ) → good_list s ls ≡ true → (length ls ≤ 255) × (length s + trailer_length (length ls) < 4294967296) × (sum_of ls ≡ length s)
bounds s ls e =
    let g = listed_is s ls e in
    let h = g.short in
    (g.few, rw (← reel_size s ls g.sum g.some g.few) h, g.sum)

-- ---- the verdict

pub writing_bad : (s ls : List ℕ) (need room : ℕ) → good_list s ls ≡ false → judge fine (writing s ls need room) ≡ refused (turned 18 0 0)
unfolding writing
writing_bad s ls need room e = rw (e, judge_append, judge_refused)

-- of a good list the files' own refusals come before the room's
writing_good : (s ls : List ℕ) (need room : ℕ) → good_list s ls ≡ true → judge fine (writing s ls need room) ≡ checked (judge fine (filed (listed s ls))) (leb need room) (turned 17 0 0)
unfolding writing
writing_good s ls need room e = rw (e, judge_append)

-- what a check that holds says
pub passed : (ok : Bool) (u : Turned) → fine ≡ checked fine ok u → ok ≡ true
passed true u e = refl
passed false u e = absurd (let z : ◌≡◌ {A = ℕ} 0 1 = cc in omega arith)

-- a check that does not hold, told before all others
pub first_row : (b : Bool) (u : Turned) (ts : List (List Row)) → b ≡ false → judge fine (tables ((test b u ∷ []) ∷ ts)) ≡ refused u
first_row b u ts e = rw e (judge_refused u (tables ts))

pub ruleset listing = (length_short, trailed, good_none, good_sum, good_size)

pub ruleset checking = (judge_append, judge_refused, passed, bounds)

record Fine (s ls : List ℕ) (need room : ℕ) : Type 0 where
  pub list : Listed s ls
  pub files : Good (listed s ls)
  pub fits : need ≤ room

checked_fine : (v : Ruling) (ok : Bool) (u : Turned) → checked v ok u ≡ fine → (v ≡ fine) × (ok ≡ true)
checked_fine fine true u e = (refl, refl)
checked_fine fine false u e = absurd (let z : ◌≡◌ {A = ℕ} 0 1 = cc in omega arith)
checked_fine (refused t) ok u e = absurd (let z : ◌≡◌ {A = ℕ} 0 1 = cc in omega arith)

fine_is : (s ls : List ℕ) (need room : ℕ) → judge fine (writing s ls need room) ≡ fine → Fine s ls need room
fine_is s ls need room e = go (good_list s ls) refl
  where
    go : (g : Bool) → good_list s ls ≡ g → Fine s ls need room
    go false q = absurd (let r : refused (turned 18 0 0) ≡ fine = sym (writing_bad s ls need room q) ∙ e in let z : ◌≡◌ {A = ℕ} 0 1 = cc in omega arith)
    go true q =
        let k = checked_fine _ _ _ (sym (writing_good s ls need room q) ∙ e) in
        record { list = listed_is s ls q; files = all_good (listed s ls) ((exactly (filed (listed s ls))).0 k.0); fits = leb-true need room k.1 }

-- the room that the code asks for: that of a list that is bad anyway does not matter
same_need : (s ls : List ℕ) (a b room : ℕ) → (good_list s ls ≡ true → a ≡ b) → judge fine (writing s ls a room) ≡ judge fine (writing s ls b room)
same_need s ls a b room h = go (good_list s ls) refl
  where
    go : (g : Bool) → good_list s ls ≡ g → judge fine (writing s ls a room) ≡ judge fine (writing s ls b room)
    go true e = ap (λ (n : ℕ). judge fine (writing s ls n room)) (h e)
    go false e = writing_bad s ls a room e ∙ sym (writing_bad s ls b room e)

pub reel_need : (s ls out : List ℕ) → judge fine (writing s ls (length s + trailer_length (length ls)) (length out)) ≡ wrote s ls (reel_of (listed s ls)) out
reel_need s ls out = same_need s ls _ _ (length out) (λ e. let g = listed_is s ls e in sym (reel_size s ls g.sum g.some g.few))

pub trailer_need : (s ls out : List ℕ) → judge fine (writing s ls (0 + trailer_length (length ls)) (length out)) ≡ wrote s ls (trailer_of (listed s ls)) out
trailer_need s ls out = same_need s ls _ _ (length out) (λ e. let g = listed_is s ls e in zero-add _ ∙ sym (trailer_size s ls g.sum g.some g.few))

-- what was found fine was a good list
pub fine_good : (s ls : List ℕ) (need room : ℕ) → judge fine (writing s ls need room) ≡ fine → good_list s ls ≡ true
fine_good s ls need room e = listed_good s ls (fine_is s ls need room e).list

-- ---- the output

pub written_not : (s ls bs out : List ℕ) (t : Turned) → wrote s ls bs out ≡ refused t → out ≡ written s ls bs out
unfolding written after
written_not s ls bs out t e = rw e

pub written_fine : (s ls bs out : List ℕ) {m : List ℕ} → wrote s ls bs out ≡ fine → m ≡ store out 0 bs → m ≡ written s ls bs out
unfolding written after
written_fine s ls bs out e q =
    let f : Stored (length bs) out 0 bs _ = record { long = refl; is = q } in
    rw e (front f (fine_is s ls (length bs) (length out) e).fits)

pub written_is : (s ls bs out : List ℕ) → wrote s ls bs out ≡ fine → written s ls bs out ≡ bs ++ drop (length bs) out
unfolding written after
written_is s ls bs out e = rw e

pub ruleset trailing = (bounds, trailer_stored)

pub ruleset outcomes = (reel_need, trailer_need, bounds, fine_good, reel_stored, written_not, written_fine)
