-- Laws for Night: from the definitions of `totals` and `night` to document 02's words, of one call and of all.
-- Assumes nothing.
use Rattle.std.proofs.Common.{ℕ, zero, suc, ◌+◌, ◌*◌, ◌-◌, ◌≤◌, ◌<◌, ◌≡◌, refl, sym, ap, subst, ◌∙◌, Bool, true, false, cond, List, [], ◌∷◌, ◌⊎◌, inl, inr, ⊎_elim, arith, eqb-true, ne_eqb, lt-ltb, le-ltb, ltb-true, ltb-false, leb-true, leb-false, eqb, leb, ltb, ℤ, pos, ◌-ℤ◌, length, get_or, set, length-set, get_or-set_same, get_or-set_other}
use Rattle.std.proofs.Math.Bool.{false≢true}
use Rattle.std.proofs.Math.ListN.{get_or-replicate}
use borrow.Author.Tests.{eqb-false}
use Rattle.rules.specs.Rules.{turned, Ruling, fine, refused, judge}
use Rattle.header.specs.Entries.{entries_of}
use Rattle.accept.specs.Checks.{checks}
use Rattle.accept.specs.Answers.{calibration_in}
use Rattle.reading.specs.declared.Reading.{Reading}
use Rattle.reading.specs.declared.Reading.TheVariants.{Radiance, ErrorPixel, Outside, OverRange, Uncalibrated}
use Rattle.reading.specs.declared.Calibration.{Calibration}
use Rattle.reading.specs.Counts.{reading_of}
use Rattle.frame.specs.Counts.{counts_of}
use Rattle.totals.specs.declared.Totals.{Totals}
use Rattle.totals.specs.Kinds as kinds
use Rattle.totals.specs.Kinds.{number, count_readings}
use Rattle.totals.specs.Files.{cal_of, totals_of, sum_of, pixels_of}
use Rattle.totals.proofs.Sizes.{sized, totals_most}
use Rattle.night.specs.declared.Run.{Run}
use Rattle.night.specs.Runs.{sum_to, empty_run, held_by, open_run, added, with_totals, run_after, extra_of, extra_after}
use Rattle.night.proofs.Running.{small_at, opened}
use Rattle.promises.proofs.Refusals.{refused_in, of_number}
use Rattle.promises.proofs.Growing.{open_is, small_all, run_first, file_alone, own_other, kept_run, fine_run, one_more, fine_extra, no_extra}
use Rattle.promises.proofs.Demand1.{in_checks}
use Rattle.promises.specs.Night.{kind_of, total, read_as, found, sum, listed, places_to, held, Full, files, kind, refusal, Grown, Adds, Call, answer_of, answered, over_accepted, area, Night}

-- ---- the words

kind_is : (r : Reading) → kinds.kind_of r ≡ kind_of r
kind_is (Radiance x) = refl
kind_is ErrorPixel = refl
kind_is Outside = refl
kind_is OverRange = refl
kind_is Uncalibrated = refl

-- what the code counts by a kind's rule reads as that kind
as_kind : (k : ℕ) (cal : Calibration) (cs : List ℕ) → count_readings (λ (r : Reading). eqb (kinds.kind_of r) k) cal cs ≡ read_as k cal cs
unfolding number read_as
as_kind k cal [] = refl
as_kind k cal (c ∷ cs) = rw (kind_is (reading_of cal c), as_kind k cal cs)

few_kinds : (r : Reading) → kind_of r < 5
few_kinds (Radiance x) = omega arith
few_kinds ErrorPixel = omega arith
few_kinds Outside = omega arith
few_kinds OverRange = omega arith
few_kinds Uncalibrated = omega arith

no_sixth : (k : ℕ) (cal : Calibration) (cs : List ℕ) → 5 ≤ k → read_as k cal cs ≡ 0
unfolding read_as
no_sixth k cal [] h = refl
no_sixth k cal (c ∷ cs) h = rw (ne_eqb (kind_of (reading_of cal c)) k (λ e. omega (arith, few_kinds (reading_of cal c))), no_sixth k cal cs h)

-- each total is by its own kind
total_found : (f : List ℕ) (k : ℕ) → total (totals_of f) k ≡ found k f
unfolding totals_of cal_of calibration_in found
total_found f zero = as_kind 0 _ _
total_found f (suc zero) = as_kind 1 _ _
total_found f (suc (suc zero)) = as_kind 2 _ _
total_found f (suc (suc (suc zero))) = as_kind 3 _ _
total_found f (suc (suc (suc (suc zero)))) = as_kind 4 _ _
total_found f (suc (suc (suc (suc (suc k))))) = sym (no_sixth (suc (suc (suc (suc (suc k))))) _ _ (omega arith))

sum_is : (xs : List ℕ) → sum_of xs ≡ sum xs
unfolding sum_of sum
sum_is [] = refl
sum_is (x ∷ xs) = ap (λ (n : ℕ). x + n) (sum_is xs)

listed_is : (f : List ℕ) → pixels_of f ≡ listed f
unfolding pixels_of listed
listed_is f = sum_is (entries_of f).pixels

extra_found : (f : List ℕ) → extra_of f ≡ pos (found 1 f) -ℤ pos (listed f)
unfolding extra_of
extra_found f = ap (λ (n : ℕ). pos n -ℤ pos (pixels_of f)) (total_found f 1) ∙ ap (λ (n : ℕ). pos (found 1 f) -ℤ pos n) (listed_is f)

places_are : (n : ℕ) (xs : List ℕ) → sum_to n xs ≡ places_to n xs
unfolding sum_to places_to
places_are zero xs = refl
places_are (suc n) xs = ap (λ (m : ℕ). m + get_or xs n 0) (places_are n xs)

held_is : (r : Run) → held_by r ≡ held r
unfolding held_by held
held_is r = ap (λ (m : ℕ). r.accepted + m) (places_are 64 r.refused)

-- ---- full, or not

total_within : (r : Run) (k : ℕ) → open_run r ≡ true → total r.totals k ≤ 4096 * 484000000
total_within r zero o = (opened r o).radiance
total_within r (suc zero) o = (opened r o).error
total_within r (suc (suc zero)) o = (opened r o).outside
total_within r (suc (suc (suc zero))) o = (opened r o).over
total_within r (suc (suc (suc (suc zero)))) o = (opened r o).uncalibrated
total_within r (suc (suc (suc (suc (suc k))))) o = omega arith

never_open : (r : Run) → Full r → open_run r ≡ true → ⊥
never_open r (files h) o = omega (arith, (opened r o).held, held_is r)
never_open r (kind k h) o = omega (arith, total_within r k o)
never_open r (refusal n l h) o = omega (arith, small_at r.refused 64 n l (opened r o).refused)

pub full_shut : (r : Run) → Full r → open_run r ≡ false
full_shut r h = go (open_run r) refl
  where
    go : (b : Bool) → open_run r ≡ b → b ≡ false
    go true e = absurd (never_open r h e)
    go false e = refl

-- what cannot be above is at most
at_most : (m n : ℕ) → (m < n → ⊥) → n ≤ m
at_most m n h = go (ltb m n) refl
  where
    go : (b : Bool) → ltb m n ≡ b → n ≤ m
    go true e = absurd (h (ltb-true m n e))
    go false e = ltb-false m n e

below : (m n : ℕ) → (n ≤ m → ⊥) → m < n
below m n h = go (leb n m) refl
  where
    go : (b : Bool) → leb n m ≡ b → m < n
    go true e = absurd (h (leb-true n m e))
    go false e = leb-false n m e

pub open_else : (r : Run) → (Full r → ⊥) → open_run r ≡ true
open_else r h =
    let within : (k : ℕ) → total r.totals k ≤ 4096 * 484000000 = λ k. at_most (4096 * 484000000) (total r.totals k) (λ l. h (kind k l)) in
    open_is r (record {
      held = omega (arith, held_is r, below (held r) 4096 (λ l. h (files l)));
      radiance = within 0;
      error = within 1;
      outside = within 2;
      over = within 3;
      uncalibrated = within 4;
      refused = small_all r.refused 64 (λ n l. at_most 4096 (get_or r.refused n 0) (λ m. h (refusal n l m)));
    })

-- ---- one call

grown_total : (r : Run) (t : Totals) (k : ℕ) → total (with_totals r t).totals k ≡ total r.totals k + total t k
unfolding with_totals
grown_total r t zero = refl
grown_total r t (suc zero) = refl
grown_total r t (suc (suc zero)) = refl
grown_total r t (suc (suc (suc zero))) = refl
grown_total r t (suc (suc (suc (suc zero)))) = refl
grown_total r t (suc (suc (suc (suc (suc k))))) = refl

grown : (r : Run) (f : List ℕ) → Grown f r (with_totals r (totals_of f))
unfolding with_totals
grown r f = record { totals = λ k. grown_total r (totals_of f) k ∙ ap (λ (n : ℕ). total r.totals k + n) (total_found f k); accepted = refl; refused = refl }

pub adds : (Says : Ruling → Type 0) (r : Run) (f : List ℕ) {q : Ruling} {x : ℤ} {next : Run} → Says q → q ≡ added r f → x ≡ extra_after r f → next ≡ run_after r f → Adds Says r f x next
adds Says r f {q} {x} {next} s e z n = record {
  full = λ h. let o = full_shut r h in let g = run_first r f o in (subst Says (e ∙ g) s, z ∙ no_extra r f 19 0 0 g, n ∙ kept_run r f o);
  own = λ h m b p g.
      let w = file_alone r f (open_else r h) ∙ g in
      let i = n ∙ one_more r f m b p w (own_other f m b p g) in (
        subst Says (e ∙ w) s,
        z ∙ no_extra r f m b p w,
        record { totals = ap (λ (y : Run). y.totals) i; accepted = ap (λ (y : Run). y.accepted) i; refused = ap (λ (y : Run). y.refused) i },
      );
  good = λ h g.
      let w = file_alone r f (open_else r h) ∙ g in
      (subst Says (e ∙ w) s, z ∙ fine_extra r f w ∙ extra_found f, subst (Grown f r) (sym (n ∙ fine_run r f w)) (grown r f));
}

-- ---- a run of calls

-- calls of any function that answers and grows by the definitions, from the empty run
pub data Steps : List Call → Run → Type 0 where
  none : {r : Run} → r ≡ empty_run → Steps [] r
  step : {cs : List Call} {r : Run} → Steps cs r → (c : Call) (next : Run) → c.answer ≡ answer_of (added r c.file) → next ≡ run_after r c.file → Steps (c ∷ cs) next

-- the three ways of a call
data Way (r : Run) (f : List ℕ) : Type 0 where
  shut : open_run r ≡ false → answer_of (added r f) ≡ 19 → run_after r f ≡ r → Way r f
  away : (n b p : ℕ) → open_run r ≡ true → judge fine (checks f) ≡ refused (turned n b p) → answer_of (added r f) ≡ n
      → run_after r f ≡ record { totals = r.totals; accepted = r.accepted; refused = set r.refused n (get_or r.refused n 0 + 1) } → Way r f
  taken : open_run r ≡ true → judge fine (checks f) ≡ fine → answer_of (added r f) ≡ 0 → run_after r f ≡ with_totals r (totals_of f) → Way r f

way : (r : Run) (f : List ℕ) → Way r f
way r f = go (open_run r) (judge fine (checks f)) refl refl
  where
    go : (o : Bool) (q : Ruling) → open_run r ≡ o → judge fine (checks f) ≡ q → Way r f
    go false q o e = shut o (ap answer_of (run_first r f o)) (kept_run r f o)
    go true fine o e = let w = file_alone r f o ∙ e in taken o e (ap answer_of w) (fine_run r f w)
    go true (refused (turned n b p)) o e = let w = file_alone r f o ∙ e in away n b p o e (ap answer_of w) (one_more r f n b p w (own_other f n b p e))

-- the numbers of files' own refusals: neither 0 nor 19, and each has a place
own_number : (f : List ℕ) (n b p : ℕ) → judge fine (checks f) ≡ refused (turned n b p) → (1 ≤ n) × (n < 64) × (n ≡ 19 → ⊥)
own_number f n b p e =
    let a = refused_in (checks f) (in_checks f) (turned n b p) e in
    (leb-true 1 n (of_number (λ k. leb 1 k) refl n b p a), ltb-true n 64 (of_number (λ k. ltb k 64) refl n b p a), own_other f n b p e)

-- one place of a run after a refusal, and the sum of all
at_place : (xs : List ℕ) (n m : ℕ) → length xs ≡ 64 → m < 64 → get_or (set xs m (get_or xs m 0 + 1)) n 0 ≡ get_or xs n 0 + cond (eqb m n) 1 0
at_place xs n m l h = go (eqb m n) refl
  where
    go : (b : Bool) → eqb m n ≡ b → get_or (set xs m (get_or xs m 0 + 1)) n 0 ≡ get_or xs n 0 + cond b 1 0
    go true e = rw (← eqb-true m n e) (get_or-set_same xs m _ 0 (omega arith))
    go false e = get_or-set_other xs m n _ 0 (λ i. eqb-false m n e (sym i)) ∙ omega arith

place_sum : (xs : List ℕ) (m n : ℕ) → length xs ≡ 64 → m < 64 → places_to n (set xs m (get_or xs m 0 + 1)) ≡ places_to n xs + cond (ltb m n) 1 0
unfolding places_to
place_sum xs m zero l h = rw (le-ltb m 0 (omega arith)) (omega arith)
place_sum xs m (suc n) l h = let t = at_place xs n m l h in let s = place_sum xs m n l h in rw (s, t) (go (ltb m n) (eqb m n) refl refl)
  where
    go : (b c : Bool) → ltb m n ≡ b → eqb m n ≡ c → places_to n xs + cond b 1 0 + (get_or xs n 0 + cond c 1 0) ≡ places_to n xs + get_or xs n 0 + cond (ltb m (suc n)) 1 0
    go true true p q = let i = ltb-true m n p in let j = eqb-true m n q in absurd (omega arith)
    go true false p q = rw (lt-ltb m (suc n) (omega (arith, ltb-true m n p))) (omega arith)
    go false true p q = rw (lt-ltb m (suc n) (omega (arith, eqb-true m n q))) (omega arith)
    go false false p q = let i = ltb-false m n p in let j = eqb-false m n q in rw (le-ltb m (suc n) (omega arith)) (omega arith)

place_most : (xs : List ℕ) (n k : ℕ) → k < n → get_or xs k 0 ≤ places_to n xs
unfolding places_to
place_most xs zero k h = absurd (omega arith)
place_most xs (suc n) k h = go (ltb k n) refl (place_most xs n k)
  where
    go : (b : Bool) → ltb k n ≡ b → (k < n → get_or xs k 0 ≤ places_to n xs) → get_or xs k 0 ≤ places_to n xs + get_or xs n 0
    go true p ih = omega (arith, ih (ltb-true k n p))
    go false p ih = let e : k ≡ n = omega (arith, ltb-false k n p) in rw e (omega arith)

-- ---- what the calls before come to, with a call more

answered_more : (n m : ℕ) (c : Call) (cs : List Call) → c.answer ≡ m → answered n (c ∷ cs) ≡ cond (eqb m n) 1 0 + answered n cs
unfolding answered
answered_more n m c cs e = rw e refl

answered_not : (n m : ℕ) (c : Call) (cs : List Call) → c.answer ≡ m → (m ≡ n → ⊥) → answered n (c ∷ cs) ≡ answered n cs
answered_not n m c cs e other = answered_more n m c cs e ∙ rw (ne_eqb m n other) (omega arith)

over_in : (h : List ℕ → ℕ) (c : Call) (cs : List Call) → c.answer ≡ 0 → over_accepted h (c ∷ cs) ≡ h c.file + over_accepted h cs
unfolding over_accepted
over_in h c cs e = rw e refl

over_out : (h : List ℕ → ℕ) (m : ℕ) (c : Call) (cs : List Call) → c.answer ≡ m → 1 ≤ m → over_accepted h (c ∷ cs) ≡ over_accepted h cs
unfolding over_accepted
over_out h m c cs e some = rw (e, ne_eqb m 0 (λ i. omega arith)) (omega arith)

-- what holds of every run of calls: the promise, and what its proof goes by
record Kept (cs : List Call) (r : Run) : Type 0 where
  night : Night cs r
  long : length r.refused ≡ 64
  all : held r + answered 19 cs ≡ length cs
  few : held r ≤ 4096
  late : (answered 19 cs ≡ 0) ⊎ (held r ≡ 4096)
  most : (k : ℕ) → total r.totals k ≤ r.accepted * 484000000

room_of : (h a n : ℕ) → h + a ≡ n → h ≤ 4096 → (a ≡ 0) ⊎ (h ≡ 4096) → a ≡ n - 4096
room_of h a n e l (inl z) = omega arith
room_of h a n e l (inr z) = omega arith

total_none : (k : ℕ) → total empty_run.totals k ≡ 0
unfolding empty_run
total_none zero = refl
total_none (suc zero) = refl
total_none (suc (suc zero)) = refl
total_none (suc (suc (suc zero))) = refl
total_none (suc (suc (suc (suc zero)))) = refl
total_none (suc (suc (suc (suc (suc k))))) = refl

none_refused : (n : ℕ) → n < 64 → get_or empty_run.refused n 0 ≡ 0
unfolding empty_run
none_refused n h = get_or-replicate 64 n 0 0 h

kept_none : Kept [] empty_run
unfolding answered over_accepted empty_run held places_to
kept_none = record {
  night = record {
    totals = total_none;
    five = refl;
    accepted = refl;
    refused = λ n some h other. none_refused n h;
    no_zeroth = refl;
    no_run = refl;
    room = refl;
  };
  long = refl;
  all = refl;
  few = omega arith;
  late = inl refl;
  most = λ k. omega (arith, total_none k);
}

accepted_held : (r : Run) → r.accepted ≤ held r
unfolding held
accepted_held r = omega arith

place_held : (r : Run) (n : ℕ) → n < 64 → get_or r.refused n 0 ≤ held r
unfolding held
place_held r n h = omega (arith, place_most r.refused 64 n h)

-- such a run is full by its files alone
full_files : {cs : List Call} {r : Run} → Kept cs r → Full r → 4096 ≤ held r
full_files k (files h) = h
full_files {r = r} k (kind i h) = omega (arith, k.most i, accepted_held r)
full_files {r = r} k (refusal n l h) = omega (arith, place_held r n l)

shut_files : {cs : List Call} {r : Run} → Kept cs r → open_run r ≡ false → 4096 ≤ held r
shut_files {r = r} k o = at_most (held r) 4096 (λ l. false≢true (sym o ∙ open_else r (λ h. omega (arith, full_files k h))))

kept_shut : {cs : List Call} {r : Run} → Kept cs r → (c : Call) → c.answer ≡ 19 → open_run r ≡ false → Kept (c ∷ cs) r
kept_shut {cs} {r} k c e o =
    let m = shut_files k o in
    let h : held r ≡ 4096 = omega (arith, k.few) in
    let a = answered_more 19 19 c cs e in
    let all' : held r + answered 19 (c ∷ cs) ≡ length (c ∷ cs) = omega (arith, k.all, a) in
    let g = k.night in
    record {
      night = record {
        totals = λ i. g.totals i ∙ sym (over_out (found i) 19 c cs e (omega arith));
        five = g.five ∙ sym (over_out area 19 c cs e (omega arith));
        accepted = g.accepted ∙ sym (answered_not 0 19 c cs e (λ i. omega arith));
        refused = λ n some l other. g.refused n some l other ∙ sym (answered_not n 19 c cs e (λ i. other (sym i)));
        no_zeroth = g.no_zeroth;
        no_run = g.no_run;
        room = room_of (held r) (answered 19 (c ∷ cs)) (length (c ∷ cs)) all' k.few (inr h);
      };
      long = k.long;
      all = all';
      few = k.few;
      late = inr h;
      most = k.most;
    }

-- an open run holds fewer than 4,096, and none was told RUN yet
open_files : (r : Run) → open_run r ≡ true → held r < 4096
open_files r o = omega (arith, (opened r o).held, held_is r)

none_yet : {cs : List Call} {r : Run} → Kept cs r → open_run r ≡ true → answered 19 cs ≡ 0
none_yet {cs} {r} k o = ⊎_elim (λ z. z) (λ h. absurd (omega (arith, open_files r o))) k.late

abbrev one : Run → ℕ → Run
one r n = record { totals = r.totals; accepted = r.accepted; refused = set r.refused n (get_or r.refused n 0 + 1) }

one_held : (r : Run) (n : ℕ) → length r.refused ≡ 64 → n < 64 → held (one r n) ≡ held r + 1
unfolding held
one_held r n l h = rw (place_sum r.refused n 64 l h, lt-ltb n 64 h) (omega arith)

kept_away : {cs : List Call} {r : Run} → Kept cs r → (c : Call) (n : ℕ) → c.answer ≡ n → open_run r ≡ true → 1 ≤ n → n < 64 → (n ≡ 19 → ⊥) → Kept (c ∷ cs) (one r n)
kept_away {cs} {r} k c n e o some small other =
    let h = one_held r n k.long small in
    let z : answered 19 (c ∷ cs) ≡ 0 = answered_not 19 n c cs e other ∙ none_yet k o in
    let all' : held (one r n) + answered 19 (c ∷ cs) ≡ length (c ∷ cs) = omega (arith, k.all, none_yet k o) in
    let few' : held (one r n) ≤ 4096 = omega (arith, open_files r o) in
    let place : (m : ℕ) → get_or (one r n).refused m 0 ≡ get_or r.refused m 0 + cond (eqb n m) 1 0 = λ m. at_place r.refused m n k.long small in
    let g = k.night in
    record {
      night = record {
        totals = λ i. g.totals i ∙ sym (over_out (found i) n c cs e some);
        five = g.five ∙ sym (over_out area n c cs e some);
        accepted = g.accepted ∙ sym (answered_not 0 n c cs e (λ i. omega arith));
        refused = λ m lo hi not. omega (arith, place m, g.refused m lo hi not, answered_more m n c cs e);
        no_zeroth = place 0 ∙ rw (ne_eqb n 0 (λ i. omega arith)) (omega (arith, g.no_zeroth));
        no_run = place 19 ∙ rw (ne_eqb n 19 other) (omega (arith, g.no_run));
        room = room_of (held (one r n)) (answered 19 (c ∷ cs)) (length (c ∷ cs)) all' few' (inl z);
      };
      long = length-set r.refused n _ ∙ k.long;
      all = all';
      few = few';
      late = inl z;
      most = k.most;
    }

-- an accepted file has at most 484,000,000 counts of a kind
found_most : (f : List ℕ) (k : ℕ) → judge fine (checks f) ≡ fine → total (totals_of f) k ≤ 484000000
found_most f zero e = (totals_most f (sized f e)).0
found_most f (suc zero) e = (totals_most f (sized f e)).1
found_most f (suc (suc zero)) e = (totals_most f (sized f e)).2
found_most f (suc (suc (suc zero))) e = (totals_most f (sized f e)).3
found_most f (suc (suc (suc (suc zero)))) e = (totals_most f (sized f e)).4
found_most f (suc (suc (suc (suc (suc k))))) e = omega arith

grown_held : (r : Run) (t : Totals) → held (with_totals r t) ≡ held r + 1
unfolding held with_totals
grown_held r t = omega arith

-- the five kinds share out every reading
shared : (r : Reading) → cond (eqb (kind_of r) 0) 1 0 + cond (eqb (kind_of r) 1) 1 0 + cond (eqb (kind_of r) 2) 1 0 + cond (eqb (kind_of r) 3) 1 0 + cond (eqb (kind_of r) 4) 1 0 ≡ 1
shared (Radiance x) = omega arith
shared ErrorPixel = omega arith
shared Outside = omega arith
shared OverRange = omega arith
shared Uncalibrated = omega arith

five : (cal : Calibration) (cs : List ℕ) → read_as 0 cal cs + read_as 1 cal cs + read_as 2 cal cs + read_as 3 cal cs + read_as 4 cal cs ≡ length cs
unfolding read_as
five cal [] = refl
five cal (c ∷ cs) = omega (arith, five cal cs, shared (reading_of cal c))

abbrev five_of : Totals → ℕ
five_of t = t.radiance + t.error + t.outside + t.over + t.uncalibrated

grown_five : (r : Run) (t : Totals) → five_of (with_totals r t).totals ≡ five_of t + five_of r.totals
unfolding with_totals
grown_five r t = omega arith

found_five : (f : List ℕ) → found 0 f + found 1 f + found 2 f + found 3 f + found 4 f ≡ length (counts_of f)
unfolding found
found_five f = five _ (counts_of f)

area_five : (f : List ℕ) → judge fine (checks f) ≡ fine → five_of (totals_of f) ≡ area f
unfolding area
area_five f e =
    (λ i. total_found f 0 i + total_found f 1 i + total_found f 2 i + total_found f 3 i + total_found f 4 i) ∙ found_five f ∙ (sized f e).number

kept_taken : {cs : List Call} {r : Run} → Kept cs r → (c : Call) → c.answer ≡ 0 → open_run r ≡ true → judge fine (checks c.file) ≡ fine → Kept (c ∷ cs) (with_totals r (totals_of c.file))
unfolding with_totals
kept_taken {cs} {r} k c e o ok =
    let t = totals_of c.file in
    let next = with_totals r t in
    let z : answered 19 (c ∷ cs) ≡ 0 = answered_not 19 0 c cs e (λ i. omega arith) ∙ none_yet k o in
    let all' : held next + answered 19 (c ∷ cs) ≡ length (c ∷ cs) = omega (arith, k.all, none_yet k o, grown_held r t) in
    let few' : held next ≤ 4096 = omega (arith, open_files r o, grown_held r t) in
    let g = k.night in
    record {
      night = record {
        totals = λ i. omega (arith, grown_total r t i, total_found c.file i, g.totals i, over_in (found i) c cs e);
        five = omega (arith, grown_five r t, area_five c.file ok, g.five, over_in area c cs e);
        accepted = omega (arith, g.accepted, answered_more 0 0 c cs e);
        refused = λ n some l other. g.refused n some l other ∙ sym (answered_not n 0 c cs e (λ i. omega arith));
        no_zeroth = g.no_zeroth;
        no_run = g.no_run;
        room = room_of (held next) (answered 19 (c ∷ cs)) (length (c ∷ cs)) all' few' (inl z);
      };
      long = k.long;
      all = all';
      few = few';
      late = inl z;
      most = λ i. omega (arith, k.most i, grown_total r t i, found_most c.file i ok);
    }

kept_step : {cs : List Call} {r : Run} → Kept cs r → (c : Call) (next : Run) → c.answer ≡ answer_of (added r c.file) → next ≡ run_after r c.file → Way r c.file → Kept (c ∷ cs) next
kept_step {cs} k c next e n (shut o w g) = subst (Kept (c ∷ cs)) (sym (n ∙ g)) (kept_shut k c (e ∙ w) o)
kept_step {cs} k c next e n (away m b p o j w g) = let i = own_number c.file m b p j in subst (Kept (c ∷ cs)) (sym (n ∙ g)) (kept_away k c m (e ∙ w) o i.0 i.1 i.2)
kept_step {cs} k c next e n (taken o j w g) = subst (Kept (c ∷ cs)) (sym (n ∙ g)) (kept_taken k c (e ∙ w) o j)

kept : {cs : List Call} {r : Run} → Steps cs r → Kept cs r
kept (none e) = subst (Kept []) (sym e) kept_none
kept (step {r = r} s c next e n) = kept_step (kept s) c next e n (way r c.file)

pub nightly : {cs : List Call} {r : Run} → Steps cs r → Night cs r
nightly s = (kept s).night

-- below 4,096 files no file is told RUN
pub not_run : {cs : List Call} {r : Run} → Steps cs r → held r < 4096 → (f : List ℕ) (b p : ℕ) → added r f ≡ refused (turned 19 b p) → ⊥
not_run {r = r} s h f b p e = own_other f 19 b p (sym (file_alone r f (open_else r (λ full. omega (arith, full_files (kept s) full)))) ∙ e) refl
