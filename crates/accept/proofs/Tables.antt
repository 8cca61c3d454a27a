-- The checks of a file, by name: what it means that every test of each table holds.
-- Assumes nothing.
use mathlib.Core.Path.{◌≡◌}
use mathlib.Core.List.{List, [], ◌∷◌}
use Prim.Native.Nat.{ℕ, ◌+◌, ◌*◌, ◌-◌, ◌≤◌}
use lib.ListN.{length, get_or}
use borrow.Author.Tests.{leb-true, eqb-true, le-leb, eq-eqb}
use Rattle.wire.specs.Wire.{span, num}
use Rattle.rules.specs.Rules.{Row, judge, fine}
use Rattle.rules.proofs.Judge.{Holds, holds, exactly, each_is, each_of}
use Rattle.header.specs.Places.{order_of, a_of, b_of, c_of, at2, at3, at4, at5, at6, at7, at8, at9, at10, at11, length8, length9, length10, length_of, data_length}
use Rattle.header.specs.Values.{block1_of, block2_of, block5_of, block7_of}
use Rattle.accept.specs.Checks.{shape, entries, shape1, fields1, fixed2, fields2, fixed5, fields5, fields7, sums, names, ends, blocks1to4, blocks5to7, blocks8to11, whole, checks}

-- a block of fixed length
pub record Shape (s : List ℕ) (o k at n : ℕ) : Type 0 where
  pub room : n ≤ length s - at
  pub number : get_or s at 0 ≡ k
  pub size : num o (span s (at + 1) 2) ≡ n

shape_is : (s : List ℕ) (o k at n : ℕ) → Holds (shape s o k at n) → Shape s o k at n
unfolding shape
shape_is s o k at n h = record {
  room = leb-true _ _ h.0;
  number = eqb-true _ _ h.1.0;
  size = eqb-true _ _ h.1.1.0;
}

shape_of : (s : List ℕ) (o k at n : ℕ) → Shape s o k at n → Holds (shape s o k at n)
unfolding shape
shape_of s o k at n h =
    holds (le-leb n (length s - at) h.room)
    (holds (eq-eqb (get_or s at 0) k h.number)
    (holds (eq-eqb (num o (span s (at + 1) 2)) n h.size) tt))

-- a block with entries
pub record Entered (s : List ℕ) (k at stated least full : ℕ) : Type 0 where
  pub least_room : least ≤ length s - at
  pub number : get_or s at 0 ≡ k
  pub size : stated ≡ full
  pub room : full ≤ length s - at

entered_is : (s : List ℕ) (k at stated least full : ℕ) → Holds (entries s k at stated least full) → Entered s k at stated least full
unfolding entries
entered_is s k at stated least full h = record {
  least_room = leb-true _ _ h.0;
  number = eqb-true _ _ h.1.0;
  size = eqb-true _ _ h.1.1.0;
  room = leb-true _ _ h.1.1.1.0;
}

entered_of : (s : List ℕ) (k at stated least full : ℕ) → Entered s k at stated least full → Holds (entries s k at stated least full)
unfolding entries
entered_of s k at stated least full h =
    holds (le-leb least (length s - at) h.least_room)
    (holds (eq-eqb (get_or s at 0) k h.number)
    (holds (eq-eqb stated full h.size)
    (holds (le-leb full (length s - at) h.room) tt)))

pub record Shape1 (s : List ℕ) (o : ℕ) : Type 0 where
  pub room : 282 ≤ length s - 0
  pub number : get_or s 0 0 ≡ 1
  pub order : o ≤ 1
  pub size : num o (span s 1 2) ≡ 282
  pub blocks : num o (span s 3 2) ≡ 11

shape1_is : (s : List ℕ) (o : ℕ) → Holds (shape1 s o) → Shape1 s o
unfolding shape1
shape1_is s o h = record {
  room = leb-true _ _ h.0;
  number = eqb-true _ _ h.1.0;
  order = leb-true _ _ h.1.1.0;
  size = eqb-true _ _ h.1.1.1.0;
  blocks = eqb-true _ _ h.1.1.1.1.0;
}

shape1_of : (s : List ℕ) (o : ℕ) → Shape1 s o → Holds (shape1 s o)
unfolding shape1
shape1_of s o h =
    holds (le-leb 282 (length s - 0) h.room)
    (holds (eq-eqb (get_or s 0 0) 1 h.number)
    (holds (le-leb o 1 h.order)
    (holds (eq-eqb (num o (span s 1 2)) 282 h.size)
    (holds (eq-eqb (num o (span s 3 2)) 11 h.blocks) tt))))

-- the whole file: its sums, and its counts
pub record Whole (s : List ℕ) (o header counts : ℕ) : Type 0 where
  pub header_sum : num o (span s 70 4) ≡ header
  pub data_sum : num o (span s 74 4) ≡ counts
  pub cut : counts ≤ length s - header
  pub tail : length s - header ≤ counts

-- the lengths of the header and of the counts
abbrev pub data_of : List ℕ → ℕ
data_of s = data_length (block2_of s (order_of s)).columns (block2_of s (order_of s)).lines

-- the tables that the checks are made of, part by part
module _ (s : List ℕ) where
  abbrev o : ℕ
  o = order_of s

  abbrev fronts : List (List Row)
  fronts =
      shape1 s o
      ∷ fields1 (block1_of s o)
      ∷ shape s o 2 at2 50
      ∷ fixed2 s o
      ∷ fields2 (block2_of s o)
      ∷ shape s o 3 at3 127
      ∷ shape s o 4 at4 139
      ∷ []

  abbrev middles : List (List Row)
  middles =
      shape s o 5 at5 147
      ∷ fixed5 s o
      ∷ fields5 (block5_of s o)
      ∷ shape s o 6 at6 259
      ∷ shape s o 7 at7 47
      ∷ fields7 (block7_of s o) (block2_of s o).lines
      ∷ []

  abbrev lists : List (List Row)
  lists =
      entries s 8 at8 (num o (span s (at8 + 1) 2)) 61 (length8 (a_of s))
      ∷ entries s 9 (at9 (a_of s)) (num o (span s (at9 (a_of s) + 1) 2)) 45 (length9 (b_of s))
      ∷ entries s 10 (at10 (a_of s) (b_of s)) (num o (span s (at10 (a_of s) (b_of s) + 1) 4)) 47 (length10 (c_of s))
      ∷ shape s o 11 (at11 (a_of s) (b_of s) (c_of s)) 259
      ∷ []

  abbrev wholes : List (List Row)
  wholes =
      sums s o (length_of s) (data_of s)
      ∷ names (block1_of s o) (block5_of s o) (block7_of s o)
      ∷ ends s (length_of s) (data_of s)
      ∷ []

  abbrev parts : List (List Row)
  parts =
      blocks1to4 s o
      ∷ blocks5to7 s o
      ∷ blocks8to11 s o (a_of s) (b_of s) (c_of s)
      ∷ whole s o (length_of s) (data_of s)
      ∷ []

-- the checks of a file, by name
pub record Accepted (s : List ℕ) : Type 0 where
  pub shape1 : Shape1 s (order_of s)
  pub fields1 : Holds (fields1 (block1_of s (order_of s)))
  pub shape2 : Shape s (order_of s) 2 282 50
  pub bits : num (order_of s) (span s 285 2) ≡ 16
  pub fields2 : Holds (fields2 (block2_of s (order_of s)))
  pub shape3 : Shape s (order_of s) 3 332 127
  pub shape4 : Shape s (order_of s) 4 459 139
  pub shape5 : Shape s (order_of s) 5 598 147
  pub error : num (order_of s) (span s 613 2) ≡ 65535
  pub outside : num (order_of s) (span s 615 2) ≡ 65534
  pub fields5 : Holds (fields5 (block5_of s (order_of s)))
  pub shape6 : Shape s (order_of s) 6 745 259
  pub shape7 : Shape s (order_of s) 7 1004 47
  pub fields7 : Holds (fields7 (block7_of s (order_of s)) (block2_of s (order_of s)).lines)
  pub block8 : Entered s 8 1051 (num (order_of s) (span s 1052 2)) 61 (61 + 10 * a_of s)
  pub block9 : Entered s 9 (at9 (a_of s)) (num (order_of s) (span s (at9 (a_of s) + 1) 2)) 45 (45 + 10 * b_of s)
  pub block10 : Entered s 10 (at10 (a_of s) (b_of s)) (num (order_of s) (span s (at10 (a_of s) (b_of s) + 1) 4)) 47 (47 + 4 * c_of s)
  pub shape11 : Shape s (order_of s) 11 (at11 (a_of s) (b_of s) (c_of s)) 259
  pub whole : Whole s (order_of s) (length_of s) (data_of s)
  pub names : Holds (names (block1_of s (order_of s)) (block5_of s (order_of s)) (block7_of s (order_of s)))

-- where no check fails, each holds
pub accepted : (s : List ℕ) → judge fine (checks s) ≡ fine → Accepted s
unfolding checks blocks1to4 blocks5to7 blocks8to11 whole fixed2 fixed5 sums ends
accepted s e =
    let h = each_is (parts s) ((exactly (checks s)).0 e) in
    let f = each_is (fronts s) h.0 in
    let m = each_is (middles s) h.1.0 in
    let l = each_is (lists s) h.1.1.0 in
    let w = each_is (wholes s) h.1.1.1.0 in
    record {
      shape1 = shape1_is _ _ f.0;
      fields1 = f.1.0;
      shape2 = shape_is _ _ _ _ _ f.1.1.0;
      bits = eqb-true _ _ f.1.1.1.0.0;
      fields2 = f.1.1.1.1.0;
      shape3 = shape_is _ _ _ _ _ f.1.1.1.1.1.0;
      shape4 = shape_is _ _ _ _ _ f.1.1.1.1.1.1.0;
      shape5 = shape_is _ _ _ _ _ m.0;
      error = eqb-true _ _ m.1.0.0;
      outside = eqb-true _ _ m.1.0.1.0;
      fields5 = m.1.1.0;
      shape6 = shape_is _ _ _ _ _ m.1.1.1.0;
      shape7 = shape_is _ _ _ _ _ m.1.1.1.1.0;
      fields7 = m.1.1.1.1.1.0;
      block8 = entered_is _ _ _ _ _ _ l.0;
      block9 = entered_is _ _ _ _ _ _ l.1.0;
      block10 = entered_is _ _ _ _ _ _ l.1.1.0;
      shape11 = shape_is _ _ _ _ _ l.1.1.1.0;
      whole = record {
        header_sum = eqb-true _ _ w.0.0;
        data_sum = eqb-true _ _ w.0.1.0;
        cut = leb-true _ _ w.1.1.0.0;
        tail = leb-true _ _ w.1.1.0.1.0;
      };
      names = w.1.0;
    }

-- where each check holds, none fails
module _ (s : List ℕ) (h : Accepted s) where
  front : Holds (blocks1to4 s (o s))
  unfolding blocks1to4 fixed2
  front =
      each_of (fronts s)
      (holds (shape1_of s (o s) h.shape1)
      (holds h.fields1
      (holds (shape_of s (o s) 2 282 50 h.shape2)
      (holds (holds (eq-eqb _ _ h.bits) tt)
      (holds h.fields2
      (holds (shape_of s (o s) 3 332 127 h.shape3)
      (holds (shape_of s (o s) 4 459 139 h.shape4) tt)))))))

  middle : Holds (blocks5to7 s (o s))
  unfolding blocks5to7 fixed5
  middle =
      each_of (middles s)
      (holds (shape_of s (o s) 5 598 147 h.shape5)
      (holds (holds (eq-eqb _ _ h.error) (holds (eq-eqb _ _ h.outside) tt))
      (holds h.fields5
      (holds (shape_of s (o s) 6 745 259 h.shape6)
      (holds (shape_of s (o s) 7 1004 47 h.shape7)
      (holds h.fields7 tt))))))

  entered : Holds (blocks8to11 s (o s) (a_of s) (b_of s) (c_of s))
  unfolding blocks8to11
  entered =
      each_of (lists s)
      (holds (entered_of _ _ _ _ _ _ h.block8)
      (holds (entered_of _ _ _ _ _ _ h.block9)
      (holds (entered_of _ _ _ _ _ _ h.block10)
      (holds (shape_of _ _ _ _ _ h.shape11) tt))))

  all : Holds (whole s (o s) (length_of s) (data_of s))
  unfolding whole sums ends
  all =
      each_of (wholes s)
      (holds (holds (eq-eqb _ _ h.whole.header_sum) (holds (eq-eqb _ _ h.whole.data_sum) tt))
      (holds h.names
      (holds (holds (le-leb _ _ h.whole.cut) (holds (le-leb _ _ h.whole.tail) tt)) tt)))

  pub accepting : judge fine (checks s) ≡ fine
  unfolding checks
  accepting = (exactly (checks s)).1 (each_of (parts s) (holds front (holds middle (holds entered (holds all tt)))))
