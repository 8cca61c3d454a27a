-- SHORT is said where document 01 has it. Assumes nothing.
use Rattle.std.proofs.Common.{◌≡◌, refl, ap, ◌∙◌, List, [], ◌∷◌, ◌++◌, append_assoc, append-nil, ℕ, ◌+◌, ◌-◌, ◌≤◌, ◌<◌, le-leb, eq-eqb, length, take, drop, get_or}
use borrow.Author.Tests.{lt-leb}
use Rattle.wire.specs.Wire.{span, num}
use Rattle.rules.specs.Rules.{Row, Turned, turned, fine, refused, judge, First, here, later, tables, refuses}
use Rattle.rules.proofs.Judge.{exactly, each_is, first_fails, first_table}
use Rattle.header.specs.Places.{order_of, a_of, b_of, c_of, at2, at3, at4, at5, at6, at7, at8, at9, at10, at11, length8, length9, length10}
use Rattle.accept.specs.Checks.{shape, entries, shape1, blocks1to4, blocks5to7, blocks8to11, whole, checks}
use Rattle.accept.specs.Answers.{answer_of}
use Rattle.promises.specs.Short.{in_order, blocks, All, with_entries, AllAgain}

tables_append : (ts us : List (List Row)) → tables (ts ++ us) ≡ tables ts ++ tables us
tables_append [] us = refl
tables_append (t ∷ ts) us = rw (tables_append ts us, append_assoc)

-- four lists of tables, judged as one
one_run : (ts us vs ws : List (List Row)) → tables (tables ts ∷ tables us ∷ tables vs ∷ tables ws ∷ []) ≡ tables (ts ++ (us ++ (vs ++ ws)))
one_run ts us vs ws = rw (tables_append ts (us ++ (vs ++ ws)), tables_append us (vs ++ ws), tables_append vs ws, append-nil)

in_order_lem : (s : List ℕ) → checks s ≡ tables (in_order s)
unfolding checks blocks1to4 blocks5to7 blocks8to11 whole
in_order_lem s = one_run (take 7 (in_order s)) (take 6 (drop 7 (in_order s))) (take 4 (drop 13 (in_order s))) (drop 17 (in_order s))

-- a table in which a row fails, after tables whose tests all hold
refuses_at : (s : List ℕ) (i : ℕ) (t : List Row) (u : Turned) → take i (in_order s) ++ (t ∷ drop (i + 1) (in_order s)) ≡ in_order s
    → judge fine (tables (take i (in_order s))) ≡ fine → First t u → answer_of s ≡ refuses u
unfolding answer_of
refuses_at s i t u e h f =
    let g : First (tables (take i (in_order s) ++ (t ∷ drop (i + 1) (in_order s)))) u = first_table (take i (in_order s)) t (drop (i + 1) (in_order s)) (each_is (take i (in_order s)) ((exactly (tables (take i (in_order s)))).0 h)) f in
    let r : judge fine (checks s) ≡ refused u = ap (judge fine) (in_order_lem s) ∙ (first_fails (tables (in_order s)) u).1 (rw e at g) in
    rw r

pub short : (s : List ℕ) → All s (blocks s)
unfolding shape entries shape1
short s =
    let o = order_of s in
    let a = a_of s in
    let b = b_of s in
    let c = c_of s in (
      λ h l. refuses_at s 0 (shape1 s o) (turned 1 1 0) refl h (here (lt-leb 282 (length s - 0) l)),
      (
        λ h l. refuses_at s 2 (shape s o 2 at2 50) (turned 1 2 at2) refl h (here (lt-leb 50 (length s - at2) l)),
        (
          λ h l. refuses_at s 5 (shape s o 3 at3 127) (turned 1 3 at3) refl h (here (lt-leb 127 (length s - at3) l)),
          (
            λ h l. refuses_at s 6 (shape s o 4 at4 139) (turned 1 4 at4) refl h (here (lt-leb 139 (length s - at4) l)),
            (
              λ h l. refuses_at s 7 (shape s o 5 at5 147) (turned 1 5 at5) refl h (here (lt-leb 147 (length s - at5) l)),
              (
                λ h l. refuses_at s 10 (shape s o 6 at6 259) (turned 1 6 at6) refl h (here (lt-leb 259 (length s - at6) l)),
                (
                  λ h l. refuses_at s 11 (shape s o 7 at7 47) (turned 1 7 at7) refl h (here (lt-leb 47 (length s - at7) l)),
                  (
                    λ h l. refuses_at s 13 (entries s 8 at8 (num o (span s (at8 + 1) 2)) 61 (length8 a)) (turned 1 8 at8) refl h (here (lt-leb 61 (length s - at8) l)),
                    (
                      λ h l. refuses_at s 14 (entries s 9 (at9 a) (num o (span s (at9 a + 1) 2)) 45 (length9 b)) (turned 1 9 (at9 a)) refl h (here (lt-leb 45 (length s - at9 a) l)),
                      (
                        λ h l. refuses_at s 15 (entries s 10 (at10 a b) (num o (span s (at10 a b + 1) 4)) 47 (length10 c)) (turned 1 10 (at10 a b)) refl h (here (lt-leb 47 (length s - at10 a b) l)),
                        (
                          λ h l. refuses_at s 16 (shape s o 11 (at11 a b c) 259) (turned 1 11 (at11 a b c)) refl h (here (lt-leb 259 (length s - at11 a b c) l)),
                          tt,
                        ),
                      ),
                    ),
                  ),
                ),
              ),
            ),
          ),
        ),
      ),
    )

-- the last of a table's four rows fails
cut_entries : (s : List ℕ) (k at stated least full : ℕ) → least ≤ length s - at → get_or s at 0 ≡ k → stated ≡ full → length s - at < full → First (entries s k at stated least full) (turned 1 k at)
unfolding entries
cut_entries s k at stated least full l n e c = later (le-leb _ _ l) (later (eq-eqb _ _ n) (later (eq-eqb _ _ e) (here (lt-leb full (length s - at) c))))

pub short_again : (s : List ℕ) → AllAgain s (with_entries s)
short_again s =
    let o = order_of s in
    let a = a_of s in
    let b = b_of s in
    let c = c_of s in (
      λ h l n e g. refuses_at s 13 (entries s 8 at8 (num o (span s (at8 + 1) 2)) 61 (length8 a)) (turned 1 8 at8) refl h (cut_entries s 8 at8 _ 61 (length8 a) l n e g),
      (
        λ h l n e g. refuses_at s 14 (entries s 9 (at9 a) (num o (span s (at9 a + 1) 2)) 45 (length9 b)) (turned 1 9 (at9 a)) refl h (cut_entries s 9 (at9 a) _ 45 (length9 b) l n e g),
        (
          λ h l n e g. refuses_at s 15 (entries s 10 (at10 a b) (num o (span s (at10 a b + 1) 4)) 47 (length10 c)) (turned 1 10 (at10 a b)) refl h (cut_entries s 10 (at10 a b) _ 47 (length10 c) l n e g),
          tt,
        ),
      ),
    )
