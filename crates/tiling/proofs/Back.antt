-- A file that is accepted is the encoding of its values and entries, and then the rest of it.
-- Assumes nothing.
use mathlib.Core.Path.{◌≡◌, refl, ap, ◌∙◌}
use mathlib.Core.List.{List, [], ◌∷◌, ◌++◌}
use Prim.Native.Nat.{ℕ, ◌+◌, ◌*◌, ◌≤◌, ◌<◌}
use native.Mathlib.Omega.{arith}
use lib.ListN.{length, get_or, drop}
use Rattle.wire.specs.Wire.{Bytes, span, num}
use Rattle.wire.proofs.Rows.{length_tab, get_or_tab, rows_span}
use Rattle.wire.proofs.Pieces.{part, end, parts_join, span_front, digits_span}
use Rattle.header.specs.Places.{order_of, a_of, b_of, c_of, at9, at10, at11, length_of}
use Rattle.header.specs.Values.{block1_of, block2_of, block5_of, block7_of, block8_of, header_of}
use Rattle.header.specs.Encode.{bytes1, bytes2, carrying, bytes5, bytes7, entry8, entry9, entry10, bytes8, bytes9, bytes10, front_blocks, back_blocks, blocks_of, encode}
use Rattle.header.specs.Entries.{column, entries_of}
use Rattle.accept.proofs.Tables.{Accepted, data_of}

pub size : (s : List ℕ) → Accepted s → length s ≡ length_of s + data_of s
size s h = omega (arith, h.shape11.room, h.whole.cut, h.whole.tail)

pub long : (s : List ℕ) (o at stride w n : ℕ) → length (column s o at stride w n) ≡ n
unfolding column
long s o at stride w n = length_tab _ _

module _ (s : List ℕ) (b : Bytes s) (h : Accepted s) where
  abbrev o : ℕ
  o = order_of s

  byte : (at x : ℕ) → get_or s at 0 ≡ x → (x ∷ []) ≡ span s at 1
  unfolding span
  byte at x e = rw e

  back1 : bytes1 (block1_of s o) (length_of s) (data_of s) ≡ span s 0 282
  unfolding bytes1 block1_of
  back1 =
      parts_join
      (part 1 (byte 0 1 h.shape1.number)
      (part 2 (digits_span s o 1 2 282 b h.shape1.size)
      (part 2 (digits_span s o 3 2 11 b h.shape1.blocks)
      (part 1 (byte 5 o refl)
      (part 16 refl
      (part 16 refl
      (part 4 refl
      (part 2 refl
      (part 2 (digits_span s o 44 2 _ b refl)
      (part 8 (digits_span s o 46 8 _ b refl)
      (part 8 (digits_span s o 54 8 _ b refl)
      (part 8 (digits_span s o 62 8 _ b refl)
      (part 4 (digits_span s o 70 4 _ b h.whole.header_sum)
      (part 4 (digits_span s o 74 4 _ b h.whole.data_sum)
      (part 1 (byte 78 _ refl)
      (part 1 (byte 79 _ refl)
      (part 1 (byte 80 _ refl)
      (part 1 (byte 81 _ refl)
      (part 32 refl
      (part 128 refl
      (part 40 refl end)))))))))))))))))))))

  back2 : bytes2 o (block2_of s o) ≡ span s 282 50
  unfolding bytes2 block2_of
  back2 =
      parts_join
      (part 1 (byte 282 2 h.shape2.number)
      (part 2 (digits_span s o 283 2 50 b h.shape2.size)
      (part 2 (digits_span s o 285 2 16 b h.bits)
      (part 2 (digits_span s o 287 2 _ b refl)
      (part 2 (digits_span s o 289 2 _ b refl)
      (part 1 (byte 291 _ refl)
      (part 40 refl end)))))))

  -- a block that only carries, at a fixed place or behind entries
  back_carrying : (k at n m : ℕ) → m ≡ 3 + n → get_or s at 0 ≡ k → num o (span s (at + 1) 2) ≡ m → carrying k o m (span s (at + 3) n) ≡ span s at m
  unfolding carrying
  back_carrying k at n m e f g =
      let e1 : at + 1 + 2 ≡ at + 3 = omega arith in
      let e2 : 1 + (2 + (n + 0)) ≡ m = omega arith in
      parts_join (part 1 (byte at k f) (part 2 (digits_span s o (at + 1) 2 m b g) (part n (rw e1 refl) end))) ∙ ap (span s at) e2

  back5 : bytes5 o (block5_of s o) ≡ span s 598 147
  unfolding bytes5 block5_of
  back5 =
      parts_join
      (part 1 (byte 598 5 h.shape5.number)
      (part 2 (digits_span s o 599 2 147 b h.shape5.size)
      (part 2 (digits_span s o 601 2 _ b refl)
      (part 8 (digits_span s o 603 8 _ b refl)
      (part 2 (digits_span s o 611 2 _ b refl)
      (part 2 (digits_span s o 613 2 65535 b h.error)
      (part 2 (digits_span s o 615 2 65534 b h.outside)
      (part 8 (digits_span s o 617 8 _ b refl)
      (part 8 (digits_span s o 625 8 _ b refl)
      (part 112 refl end))))))))))

  back7 : bytes7 o (block7_of s o) ≡ span s 1004 47
  unfolding bytes7 block7_of
  back7 =
      parts_join
      (part 1 (byte 1004 7 h.shape7.number)
      (part 2 (digits_span s o 1005 2 47 b h.shape7.size)
      (part 1 (byte 1007 _ refl)
      (part 1 (byte 1008 _ refl)
      (part 2 (digits_span s o 1009 2 _ b refl)
      (part 40 refl end))))))

  -- an entry, by its numbers: what stands at its place of a column
  at_place : (at stride w n i : ℕ) → i < n → get_or (column s o at stride w n) i 0 ≡ num o (span s (at + stride * i) w)
  unfolding column
  at_place at stride w n i l = get_or_tab (λ (k : ℕ). num o (span s (at + stride * k) w)) n i l

  abbrev a : ℕ
  a = a_of s

  abbrev n9 : ℕ
  n9 = b_of s

  abbrev n10 : ℕ
  n10 = c_of s

  back_entry8 : (i : ℕ) → i < a → entry8 o (column s o 1072 10 2 a) (column s o 1074 10 4 a) (column s o 1078 10 4 a) i ≡ span s (1072 + 10 * i) 10
  unfolding entry8
  back_entry8 i l =
      let e1 : 1072 + 10 * i + 2 ≡ 1074 + 10 * i = omega arith in
      let e2 : 1074 + 10 * i + 4 ≡ 1078 + 10 * i = omega arith in
      rw (at_place 1072 10 2 a i l, at_place 1074 10 4 a i l, at_place 1078 10 4 a i l)
      (parts_join
      (part 2 (digits_span s o (1072 + 10 * i) 2 _ b refl)
      (part 4 (rw e1 (digits_span s o (1074 + 10 * i) 4 _ b refl))
      (part 4 (rw (e1, e2) (digits_span s o (1078 + 10 * i) 4 _ b refl)) end))))

  back8 : bytes8 o (block8_of s o a) (column s o 1072 10 2 a) (column s o 1074 10 4 a) (column s o 1078 10 4 a) ≡ span s 1051 (61 + 10 * a)
  unfolding bytes8 block8_of
  back8 =
      let e : 1 + (2 + (4 + (4 + (8 + (2 + (10 * a + (40 + 0))))))) ≡ 61 + 10 * a = omega arith in
      rw (long s o 1072 10 2 a)
      (parts_join
      (part 1 (byte 1051 8 h.block8.number)
      (part 2 (digits_span s o 1052 2 _ b h.block8.size)
      (part 4 (digits_span s o 1054 4 _ b refl)
      (part 4 (digits_span s o 1058 4 _ b refl)
      (part 8 (digits_span s o 1062 8 _ b refl)
      (part 2 (digits_span s o 1070 2 _ b refl)
      (part (10 * a) (rows_span s (entry8 o (column s o 1072 10 2 a) (column s o 1074 10 4 a) (column s o 1078 10 4 a)) 1072 10 a back_entry8)
      (part 40 refl end))))))))
      ∙ ap (span s 1051) e)

  -- blocks 9 and 10, behind the entries before them
  abbrev p9 : ℕ
  p9 = at9 a

  back_entry9 : (i : ℕ) → i < n9 → entry9 o (column s o (p9 + 5) 10 2 n9) (column s o (p9 + 7) 10 8 n9) i ≡ span s (p9 + 5 + 10 * i) 10
  unfolding entry9
  back_entry9 i l =
      let e : p9 + 5 + 10 * i + 2 ≡ p9 + 7 + 10 * i = omega arith in
      rw (at_place (p9 + 5) 10 2 n9 i l, at_place (p9 + 7) 10 8 n9 i l)
      (parts_join
      (part 2 (digits_span s o (p9 + 5 + 10 * i) 2 _ b refl)
      (part 8 (rw e (digits_span s o (p9 + 7 + 10 * i) 8 _ b refl)) end)))

  back9 : bytes9 o (span s (p9 + 5 + 10 * n9) 40) (column s o (p9 + 5) 10 2 n9) (column s o (p9 + 7) 10 8 n9) ≡ span s p9 (45 + 10 * n9)
  unfolding bytes9
  back9 =
      let e1 : p9 + 1 + 2 ≡ p9 + 3 = omega arith in
      let e2 : p9 + 3 + 2 ≡ p9 + 5 = omega arith in
      let e : 1 + (2 + (2 + (10 * n9 + (40 + 0)))) ≡ 45 + 10 * n9 = omega arith in
      rw (long s o (p9 + 5) 10 2 n9)
      (parts_join
      (part 1 (byte p9 9 h.block9.number)
      (part 2 (digits_span s o (p9 + 1) 2 _ b h.block9.size)
      (part 2 (rw e1 (digits_span s o (p9 + 3) 2 _ b refl))
      (part (10 * n9) (rw (e1, e2) (rows_span s (entry9 o (column s o (p9 + 5) 10 2 n9) (column s o (p9 + 7) 10 8 n9)) (p9 + 5) 10 n9 back_entry9))
      (part 40 (rw (e1, e2) refl) end)))))
      ∙ ap (span s p9) e)

  abbrev p10 : ℕ
  p10 = at10 a n9

  back_entry10 : (i : ℕ) → i < n10 → entry10 o (column s o (p10 + 7) 4 2 n10) (column s o (p10 + 9) 4 2 n10) i ≡ span s (p10 + 7 + 4 * i) 4
  unfolding entry10
  back_entry10 i l =
      let e : p10 + 7 + 4 * i + 2 ≡ p10 + 9 + 4 * i = omega arith in
      rw (at_place (p10 + 7) 4 2 n10 i l, at_place (p10 + 9) 4 2 n10 i l)
      (parts_join
      (part 2 (digits_span s o (p10 + 7 + 4 * i) 2 _ b refl)
      (part 2 (rw e (digits_span s o (p10 + 9 + 4 * i) 2 _ b refl)) end)))

  back10 : bytes10 o (span s (p10 + 7 + 4 * n10) 40) (column s o (p10 + 7) 4 2 n10) (column s o (p10 + 9) 4 2 n10) ≡ span s p10 (47 + 4 * n10)
  unfolding bytes10
  back10 =
      let e1 : p10 + 1 + 4 ≡ p10 + 5 = omega arith in
      let e2 : p10 + 5 + 2 ≡ p10 + 7 = omega arith in
      let e : 1 + (4 + (2 + (4 * n10 + (40 + 0)))) ≡ 47 + 4 * n10 = omega arith in
      rw (long s o (p10 + 7) 4 2 n10)
      (parts_join
      (part 1 (byte p10 10 h.block10.number)
      (part 4 (digits_span s o (p10 + 1) 4 _ b h.block10.size)
      (part 2 (rw e1 (digits_span s o (p10 + 5) 2 _ b refl))
      (part (4 * n10) (rw (e1, e2) (rows_span s (entry10 o (column s o (p10 + 7) 4 2 n10) (column s o (p10 + 9) 4 2 n10)) (p10 + 7) 4 n10 back_entry10))
      (part 40 (rw (e1, e2) refl) end)))))
      ∙ ap (span s p10) e)

  -- the eleven blocks, and then the rest
  pub back : encode (header_of s) (entries_of s) ++ drop (length_of s) s ≡ s
  unfolding encode blocks_of front_blocks back_blocks header_of entries_of block1_of
  back =
      let p11 = at11 a n9 n10 in
      let q9 : p9 ≡ 1051 + (61 + 10 * a) = omega arith in
      let q10 : p10 ≡ 1051 + (61 + 10 * a) + (45 + 10 * n9) = omega arith in
      let q11 : p11 ≡ 1051 + (61 + 10 * a) + (45 + 10 * n9) + (47 + 4 * n10) = omega arith in
      let n : 282 + (50 + (127 + (139 + (147 + (259 + (47 + ((61 + 10 * a) + ((45 + 10 * n9) + ((47 + 4 * n10) + (259 + 0)))))))))) ≡ length_of s = omega arith in
      let z : length_of s ≤ length s = omega (arith, size s h) in
      rw (
        long s o 1072 10 2 a,
        long s o (p9 + 5) 10 2 n9,
        long s o (p10 + 7) 4 2 n10,
        parts_join
            (part 282 back1
            (part 50 back2
            (part 127 (back_carrying 3 332 124 127 refl h.shape3.number h.shape3.size)
            (part 139 (back_carrying 4 459 136 139 refl h.shape4.number h.shape4.size)
            (part 147 back5
            (part 259 (back_carrying 6 745 256 259 refl h.shape6.number h.shape6.size)
            (part 47 back7
            (part (61 + 10 * a) back8
            (part (45 + 10 * n9) (back9 ∙ ap (λ (at : ℕ). span s at (45 + 10 * n9)) q9)
            (part (47 + 4 * n10) (back10 ∙ ap (λ (at : ℕ). span s at (47 + 4 * n10)) q10)
            (part 259 (back_carrying 11 p11 256 259 refl h.shape11.number h.shape11.size ∙ ap (λ (at : ℕ). span s at 259) q11) end))))))))))),
        n,
      )
      (span_front s (length_of s) z)
