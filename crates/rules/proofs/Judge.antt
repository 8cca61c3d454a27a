-- A table of checks judged in parts, and what it means that none fails.
-- Assumes nothing.
use mathlib.Core.Path.{◌≡◌, refl, sym, ap, ◌∙◌}
use mathlib.Core.List.{List, [], ◌∷◌, ◌++◌}
use mathlib.Core.Logic.{◌↔◌}
use mathlib.Core.Bool.{Bool, true, false}
use Prim.Native.Nat.{ℕ}
use native.Mathlib.Omega.{arith}
use Rattle.rules.specs.Rules.{Row, test, Turned, turned, placeless, unplaced, checked, judge, First, here, later, tables, Ruling, fine, refused, says, refuses, reply}

pub judge_append : (v : Ruling) (xs ys : List Row) → judge v (xs ++ ys) ≡ judge (judge v xs) ys
judge_append v [] ys = refl
judge_append v (test ok t ∷ xs) ys = judge_append (checked v ok t) xs ys

pub judge_refused : (u : Turned) (rs : List Row) → judge (refused u) rs ≡ refused u
judge_refused u [] = refl
judge_refused u (test ok t ∷ rs) = judge_refused u rs

-- a value is said exactly where nothing is wrong, and a refusal where there is one
pub said : {A : Type 0} (r : Ruling) (x y : A) → reply r x ≡ says y → (r ≡ fine) × (x ≡ y)
said fine x y e = (refl, cc)
said (refused t) x y e = absurd (let z : ◌≡◌ {A = ℕ} 0 1 = cc in omega arith)

pub turned_away : {A : Type 0} (r : Ruling) (x : A) (t : Turned) → reply r x ≡ refuses t → r ≡ refused t
turned_away fine x t e = absurd (let z : ◌≡◌ {A = ℕ} 0 1 = cc in omega arith)
turned_away (refused u) x t e = cc

-- a table without places says what the table says, without its place
unplaced_check : (v : Ruling) (ok : Bool) (n b p : ℕ) → checked (placeless v) ok (turned n b 0) ≡ placeless (checked v ok (turned n b p))
unplaced_check (refused (turned m c q)) ok n b p = refl
unplaced_check fine true n b p = refl
unplaced_check fine false n b p = refl

pub judge_unplaced : (v : Ruling) (rs : List Row) → judge (placeless v) (unplaced rs) ≡ placeless (judge v rs)
unfolding unplaced
judge_unplaced v [] = refl
judge_unplaced v (test ok (turned n b p) ∷ rs) =
    ap (λ (w : Ruling). judge w (unplaced rs)) (unplaced_check v ok n b p) ∙ judge_unplaced (checked v ok (turned n b p)) rs

-- every test of the table holds
abbrev pub Holds : List Row → Type 0
Holds [] = Unit
Holds (test ok t ∷ rs) = (ok ≡ true) × Holds rs

fine_holds : (rs : List Row) → judge fine rs ≡ fine → Holds rs
fine_holds [] e = tt
fine_holds (test true t ∷ rs) e = (refl, fine_holds rs e)
fine_holds (test false t ∷ rs) e =
    let f : refused t ≡ fine = sym (judge_refused t rs) ∙ e in
    let z : ◌≡◌ {A = ℕ} 0 1 = cc in
    absurd (omega arith)

holds_fine : (rs : List Row) → Holds rs → judge fine rs ≡ fine
holds_fine [] h = refl
holds_fine (test ok t ∷ rs) h = rw (h.0, holds_fine rs h.1)

-- and the same tests hold of it
pub holds_unplaced : (rs : List Row) → Holds (unplaced rs) ↔ Holds rs
unfolding unplaced
holds_unplaced [] = (λ h. h, λ h. h)
holds_unplaced (test ok (turned n b p) ∷ rs) = (λ h. (h.0, (holds_unplaced rs).0 h.1), λ h. (h.0, (holds_unplaced rs).1 h.1))

-- all rows hold exactly when nothing is refused
pub exactly : (rs : List Row) → (judge fine rs ≡ fine) ↔ Holds rs
exactly rs = (fine_holds rs, holds_fine rs)

first_is : (rs : List Row) (u : Turned) → judge fine rs ≡ refused u → First rs u
first_is [] u e = absurd (let z : ◌≡◌ {A = ℕ} 0 1 = cc in omega arith)
first_is (test true t ∷ rs) u e = later refl (first_is rs u e)
first_is (test false t ∷ rs) u e = let q : refused t ≡ refused u = sym (judge_refused t rs) ∙ e in let z : t ≡ u = cc in rw (← z) (here refl)

first_refused : {rs : List Row} {u : Turned} → First rs u → judge fine rs ≡ refused u
first_refused (here {u = u} {rs = rs} e) = rw e (judge_refused u rs)
first_refused (later e f) = rw e (first_refused f)

-- the first check that fails answers
pub first_fails : (rs : List Row) (u : Turned) → (judge fine rs ≡ refused u) ↔ First rs u
first_fails rs u = (first_is rs u, first_refused)

-- a run of tables, from v to r
pub data Tried : Ruling → List (List Row) → Ruling → Type 0 where
  last : {v : Ruling} → Tried v [] v
  table : {v m r : Ruling} {t : List Row} {ts : List (List Row)} → m ≡ judge v t → Tried m ts r → Tried v (t ∷ ts) r

pub tried : {v r : Ruling} {ts : List (List Row)} → Tried v ts r → r ≡ judge v (tables ts)
tried last = refl
tried (table {v = v} {t = t} {ts = ts} e j) = tried j ∙ rw (e, ← judge_append v t (tables ts))

-- of tables one after the other: every test of each holds
abbrev pub Each : List (List Row) → Type 0
Each [] = Unit
Each (t ∷ ts) = Holds t × Each ts

-- a chain of tests that stays flat
pub holds : {A B : Type 0} → A → B → A × B
holds a b = (a, b)

holds_split : (xs ys : List Row) → Holds (xs ++ ys) → Holds xs × Holds ys
holds_split [] ys h = (tt, h)
holds_split (test ok t ∷ xs) ys h = let k = holds_split xs ys h.1 in ((h.0, k.0), k.1)

holds_join : (xs ys : List Row) → Holds xs → Holds ys → Holds (xs ++ ys)
holds_join [] ys h k = k
holds_join (test ok t ∷ xs) ys h k = (h.0, holds_join xs ys h.1 k)

pub each_is : (ts : List (List Row)) → Holds (tables ts) → Each ts
each_is [] h = tt
each_is (t ∷ ts) h = let k = holds_split t (tables ts) h in (k.0, each_is ts k.1)

pub each_of : (ts : List (List Row)) → Each ts → Holds (tables ts)
each_of [] h = tt
each_of (t ∷ ts) h = holds_join t (tables ts) h.0 (each_of ts h.1)

first_after : (xs : List Row) {ys : List Row} {u : Turned} → Holds xs → First ys u → First (xs ++ ys) u
first_after [] h f = f
first_after (test ok t ∷ xs) h f = later h.0 (first_after xs h.1 f)

first_before : {xs : List Row} {u : Turned} (ys : List Row) → First xs u → First (xs ++ ys) u
first_before ys (here e) = here e
first_before ys (later e f) = later e (first_before ys f)

-- a table in which a row fails, after tables whose tests all hold and before any others
pub first_table : (ts : List (List Row)) (t : List Row) (us : List (List Row)) {u : Turned} → Each ts → First t u → First (tables (ts ++ (t ∷ us))) u
first_table [] t us h f = first_before (tables us) f
first_table (x ∷ ts) t us h f = first_after x h.0 (first_table ts t us h.1 f)

-- a table judged in parts
pub ruleset judging = (judge_append, judge_refused)
