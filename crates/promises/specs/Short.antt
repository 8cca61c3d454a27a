-- SHORT, which decides no acceptance: a file that ends within a block could not have its counts either. What it says is which refusal is given.
use Rattle.std.specs.Prelude.{ℕ, ◌+◌, ◌-◌, ◌≤◌, ◌<◌, ◌≡◌, List, [], ◌∷◌, length, take, get_or}
use Rattle.wire.specs.Wire.{span, num}
use Rattle.rules.specs.Rules.{Row, turned, tables, fine, judge, refuses}
use Rattle.header.specs.Places.{order_of, a_of, b_of, c_of, at2, at3, at4, at5, at6, at7, at8, at9, at10, at11, length8, length9, length10, length_of, data_length}
use Rattle.header.specs.Values.{block1_of, block2_of, block5_of, block7_of}
use Rattle.accept.specs.Answers.{answer_of}
use Rattle.accept.specs.Checks.{shape, entries, shape1, fields1, fixed2, fields2, fixed5, fields5, fields7, sums, names, ends}

-- every table of a file's checks, in the paper's order
abbrev pub in_order : List ℕ → List (List Row)
in_order s =
    let o = order_of s in
    let a = a_of s in
    let b = b_of s in
    let c = c_of s in
    let counts = data_length (block2_of s o).columns (block2_of s o).lines in
    shape1 s o
    ∷ fields1 (block1_of s o)
    ∷ shape s o 2 at2 50
    ∷ fixed2 s o
    ∷ fields2 (block2_of s o)
    ∷ shape s o 3 at3 127
    ∷ shape s o 4 at4 139
    ∷ shape s o 5 at5 147
    ∷ fixed5 s o
    ∷ fields5 (block5_of s o)
    ∷ shape s o 6 at6 259
    ∷ shape s o 7 at7 47
    ∷ fields7 (block7_of s o) (block2_of s o).lines
    ∷ entries s 8 at8 (num o (span s (at8 + 1) 2)) 61 (length8 a)
    ∷ entries s 9 (at9 a) (num o (span s (at9 a + 1) 2)) 45 (length9 b)
    ∷ entries s 10 (at10 a b) (num o (span s (at10 a b + 1) 4)) 47 (length10 c)
    ∷ shape s o 11 (at11 a b c) 259
    ∷ sums s o (length_of s) counts
    ∷ names (block1_of s o) (block5_of s o) (block7_of s o)
    ∷ ends s (length_of s) counts
    ∷ []

-- a block: its number, how many tables come before its own, where it stands, and its length, without entries
abbrev pub blocks : List ℕ → List (ℕ × ℕ × ℕ × ℕ)
blocks s =
    (1, 0, 0, 282)
    ∷ (2, 2, at2, 50)
    ∷ (3, 5, at3, 127)
    ∷ (4, 6, at4, 139)
    ∷ (5, 7, at5, 147)
    ∷ (6, 10, at6, 259)
    ∷ (7, 11, at7, 47)
    ∷ (8, 13, at8, 61)
    ∷ (9, 14, at9 (a_of s), 45)
    ∷ (10, 15, at10 (a_of s) (b_of s), 47)
    ∷ (11, 16, at11 (a_of s) (b_of s) (c_of s), 259)
    ∷ []

-- too few bytes remain for a block, and no check before its own fails: the file is refused with 1, that block, and where it starts
abbrev pub Short : List ℕ → (ℕ × ℕ × ℕ × ℕ) → Type 0
Short s b = judge fine (tables (take b.1 (in_order s))) ≡ fine → length s - b.2 < b.3 → answer_of s ≡ refuses (turned 1 b.0 b.2)

abbrev pub All : List ℕ → List (ℕ × ℕ × ℕ × ℕ) → Type 0
All s [] = Unit
All s (b ∷ bs) = Short s b × All s bs

-- a block with entries: its number, how many tables come before its own, where it stands, the length that it states, and its lengths without and with its entries
abbrev pub with_entries : List ℕ → List (ℕ × ℕ × ℕ × ℕ × ℕ × ℕ)
with_entries s =
    let o = order_of s in
    let a = a_of s in
    let b = b_of s in
    let c = c_of s in
    (8, 13, at8, num o (span s (at8 + 1) 2), 61, length8 a)
    ∷ (9, 14, at9 a, num o (span s (at9 a + 1) 2), 45, length9 b)
    ∷ (10, 15, at10 a b, num o (span s (at10 a b + 1) 4), 47, length10 c)
    ∷ []

-- SHORT again, after LENGTH: number and length are right, and too few bytes remain for the entries
abbrev pub ShortAgain : List ℕ → (ℕ × ℕ × ℕ × ℕ × ℕ × ℕ) → Type 0
ShortAgain s b =
    judge fine (tables (take b.1 (in_order s))) ≡ fine → b.4 ≤ length s - b.2 → get_or s b.2 0 ≡ b.0 → b.3 ≡ b.5 → length s - b.2 < b.5
    → answer_of s ≡ refuses (turned 1 b.0 b.2)

abbrev pub AllAgain : List ℕ → List (ℕ × ℕ × ℕ × ℕ × ℕ × ℕ) → Type 0
AllAgain s [] = Unit
AllAgain s (b ∷ bs) = ShortAgain s b × AllAgain s bs
