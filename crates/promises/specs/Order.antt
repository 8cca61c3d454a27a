-- The order of checks, as document 01 has it: which refusal with which block comes after which.
use Rattle.std.specs.Prelude.{ℕ, List, [], ◌∷◌, ◌++◌}
use Rattle.rules.specs.Rules.{Row, test, turned}

-- the refusals of a table's rows, number and block
abbrev pub refusals : List Row → List (ℕ × ℕ)
refusals [] = []
refusals (test ok (turned n b p) ∷ rs) = (n, b) ∷ refusals rs

-- some numbers with one block
abbrev pub each : ℕ → List ℕ → List (ℕ × ℕ)
each b [] = []
each b (n ∷ ns) = (n, b) ∷ each b ns

-- a file: blocks 1 to 11, each with 1, 2, 3 (block 1), 4, 1 again (blocks 8 to 10), 5, 6, then its fields; then 8 to 12. 5 stands twice in block 5 (the two special
-- counts), 34 twice in block 2 (columns, lines), 38 three times in block 7 (total, number, first line)
abbrev pub of_file : List (ℕ × ℕ)
of_file =
    each 1 (1 ∷ 2 ∷ 3 ∷ 4 ∷ 5 ∷ 31 ∷ 32 ∷ 33 ∷ [])
    ++ (each 2 (1 ∷ 2 ∷ 4 ∷ 5 ∷ 6 ∷ 34 ∷ 34 ∷ 35 ∷ [])
    ++ (each 3 (1 ∷ 2 ∷ 4 ∷ [])
    ++ (each 4 (1 ∷ 2 ∷ 4 ∷ [])
    ++ (each 5 (1 ∷ 2 ∷ 4 ∷ 5 ∷ 5 ∷ 36 ∷ 37 ∷ [])
    ++ (each 6 (1 ∷ 2 ∷ 4 ∷ [])
    ++ (each 7 (1 ∷ 2 ∷ 4 ∷ 38 ∷ 38 ∷ 38 ∷ [])
    ++ (each 8 (1 ∷ 2 ∷ 4 ∷ 1 ∷ [])
    ++ (each 9 (1 ∷ 2 ∷ 4 ∷ 1 ∷ [])
    ++ (each 10 (1 ∷ 2 ∷ 4 ∷ 1 ∷ [])
    ++ (each 11 (1 ∷ 2 ∷ 4 ∷ [])
    ++ (each 1 (8 ∷ 9 ∷ 10 ∷ [])
    ++ each 12 (11 ∷ 12 ∷ []))))))))))))

-- the writer: block by block 3, then 4, 6 and the fields; then 10, then 17. 4 is a block's entries: too many, or parts that differ in number
abbrev pub of_writer : List (ℕ × ℕ)
of_writer =
    each 1 (3 ∷ 31 ∷ 32 ∷ 33 ∷ [])
    ++ (each 2 (6 ∷ 34 ∷ 34 ∷ 35 ∷ [])
    ++ (each 5 (36 ∷ 37 ∷ [])
    ++ (each 7 (38 ∷ 38 ∷ 38 ∷ [])
    ++ (each 8 (4 ∷ 4 ∷ 4 ∷ [])
    ++ (each 9 (4 ∷ 4 ∷ [])
    ++ (each 10 (4 ∷ 4 ∷ [])
    ++ (each 1 (10 ∷ [])
    ++ each 0 (17 ∷ []))))))))

-- an offer: 13, for the slate and for the record, then 14, the file, 15, 16
abbrev pub of_offer : List (ℕ × ℕ)
of_offer = each 0 (13 ∷ 13 ∷ 14 ∷ []) ++ (of_file ++ each 0 (15 ∷ 16 ∷ []))

-- why: 13, then the file
abbrev pub of_why : List (ℕ × ℕ)
of_why = each 0 (13 ∷ []) ++ of_file
