-- The refusals of the paper's table, each with the blocks that it shows.
use Rattle.std.specs.Prelude.{ℕ, ◌≡◌, Bool, true, false, not, ◌&&◌, ◌||◌, List, [], ◌∷◌, eqb}
use Rattle.rules.specs.Rules.{Turned, turned, Row, test, Ruling, fine, refused}

-- a header's blocks
abbrev every : List ℕ
every = 1 ∷ 2 ∷ 3 ∷ 4 ∷ 5 ∷ 6 ∷ 7 ∷ 8 ∷ 9 ∷ 10 ∷ 11 ∷ []

-- 12 are the counts, and 0 is no block
abbrev pub table : List (ℕ × List ℕ)
table =
    -- SHORT, NUMBER, ORDER, LENGTH, FIXED, PACKED
    (1, every)
    ∷ (2, every)
    ∷ (3, 1 ∷ [])
    ∷ (4, every)
    ∷ (5, 1 ∷ 2 ∷ 5 ∷ [])
    ∷ (6, 2 ∷ [])
    -- HEADER SUM, DATA SUM, NAME, CUT, TAIL
    ∷ (8, 1 ∷ [])
    ∷ (9, 1 ∷ [])
    ∷ (10, 1 ∷ [])
    ∷ (11, 12 ∷ [])
    ∷ (12, 12 ∷ [])
    -- SLATE, STRIP, OTHER SHOT, ALREADY, ROOM, REEL, RUN
    ∷ (13, 0 ∷ [])
    ∷ (14, 0 ∷ [])
    ∷ (15, 0 ∷ [])
    ∷ (16, 0 ∷ [])
    ∷ (17, 0 ∷ [])
    ∷ (18, 0 ∷ [])
    ∷ (19, 0 ∷ [])
    -- satellite, area, timeline, columns or lines, compression flag, band, valid bits, segment numbers or first line, day
    ∷ (31, 1 ∷ [])
    ∷ (32, 1 ∷ [])
    ∷ (33, 0 ∷ 1 ∷ [])
    ∷ (34, 2 ∷ [])
    ∷ (35, 2 ∷ [])
    ∷ (36, 5 ∷ [])
    ∷ (37, 5 ∷ [])
    ∷ (38, 7 ∷ [])
    ∷ (39, 0 ∷ [])
    ∷ []

abbrev among : ℕ → List ℕ → Bool
among b [] = false
among b (x ∷ xs) = eqb b x || among b xs

abbrev pub listed : ℕ → ℕ → List (ℕ × List ℕ) → Bool
listed n b [] = false
listed n b (t ∷ ts) = eqb n t.0 && among b t.1 || listed n b ts

-- the table has this number with this block, and block 0 has the offset 0
unfoldable pub allowed : Turned → Bool
allowed (turned n b p) = listed n b table && (not (eqb b 0) || eqb p 0)

-- every row's refusal is one of the table's
unfoldable pub in_table : List Row → Bool
in_table [] = true
in_table (test ok t ∷ rs) = allowed t && in_table rs

-- the same in C's numbers, where 0 is no refusal
abbrev pub allowed_c : ℕ → ℕ → ℕ → Bool
allowed_c n b p = eqb n 0 || allowed (turned n b p)

-- checks made on top of a ruling v came to r: what was refused before stays so, and a new refusal is one of the table's
pub record Onward (v r : Ruling) : Type 0 where
  pub kept : (u : Turned) → v ≡ refused u → r ≡ refused u
  pub new : v ≡ fine → (u : Turned) → r ≡ refused u → allowed u ≡ true
