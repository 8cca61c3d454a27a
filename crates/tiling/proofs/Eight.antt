-- The encoding of values that fit their types is a string of bytes. Assumes nothing.
use mathlib.Core.Bool.{Bool, true, false, cond}
use mathlib.Core.List.{List, [], ◌∷◌, ◌++◌, reverse_aux}
use Prim.Native.Nat.{ℕ, zero, suc, ◌/◌, ◌<◌}
use native.Mathlib.Omega.{arith}
use lib.Dec.{eqb}
use lib.ListN.{get_or, replicate}
use Rattle.wire.specs.Wire.{Bytes, lows, digits, join, rows}
use Rattle.rules.proofs.Judge.{holds}
use Rattle.header.specs.declared.Header.{Header}
use Rattle.header.specs.Encode.{Entries, bytes1, bytes2, carrying, bytes5, bytes7, entry8, entry9, entry10, bytes8, bytes9, bytes10, front_blocks, back_blocks, blocks_of, encode}
use Rattle.tiling.specs.Made.{Fit}

cons : (x : ℕ) (l : List ℕ) → x < 256 → Bytes l → (i : ℕ) → get_or (x ∷ l) i 0 < 256
cons x l h b zero = h
cons x l h b (suc i) = b i

none : Bytes []
none i = omega arith

pub append : (x y : List ℕ) → Bytes x → Bytes y → (i : ℕ) → get_or (x ++ y) i 0 < 256
append [] y p q i = q i
append (a ∷ x) y p q zero = p 0
append (a ∷ x) y p q (suc i) = append x y (λ k. p (suc k)) q i

of_lows : (w x i : ℕ) → get_or (lows w x) i 0 < 256
unfolding lows
of_lows zero x i = omega arith
of_lows (suc w) x zero = omega arith
of_lows (suc w) x (suc i) = of_lows w (x / 256) i

of_reverse : (l r : List ℕ) → Bytes l → Bytes r → Bytes (reverse_aux l r)
of_reverse [] r p q = q
of_reverse (a ∷ l) r p q = of_reverse l (a ∷ r) (λ k. p (suc k)) (cons a r (p 0) q)

either : (b : Bool) (x y : List ℕ) → Bytes x → Bytes y → Bytes (cond b x y)
either true x y p q = p
either false x y p q = q

of_digits : (o w x : ℕ) → Bytes (digits o w x)
unfolding digits
of_digits o w x = either (eqb o 0) _ _ (of_lows w x) (of_reverse (lows w x) [] (of_lows w x) none)

of_rows : (f : ℕ → List ℕ) → ((i : ℕ) → Bytes (f i)) → (n : ℕ) → Bytes (rows f n)
unfolding rows
of_rows f b zero = none
of_rows f b (suc n) = append (rows f n) (f n) (of_rows f b n) (b n)

pub of_zeros : (n : ℕ) → Bytes (replicate n 0)
of_zeros zero = none
of_zeros (suc n) = cons 0 (replicate n 0) (omega arith) (of_zeros n)

-- pieces joined
abbrev Each : List (List ℕ) → Type 0
Each [] = Unit
Each (p ∷ ps) = Bytes p × Each ps

of_join : (ps : List (List ℕ)) → Each ps → Bytes (join ps)
unfolding join
of_join [] h = none
of_join (p ∷ ps) h = append p (join ps) h.0 (of_join ps h.1)

byte : (x : ℕ) → x < 256 → Bytes (x ∷ [])
byte x h = cons x [] h none

module _ (v : Header) (e : Entries) (f : Fit v e) where
  abbrev o : ℕ
  o = v.block1.order

  of1 : (header counts : ℕ) → Bytes (bytes1 v.block1 header counts)
  unfolding bytes1
  of1 header counts =
      let b = f.block1 in
      of_join _
      (holds (byte 1 (omega arith))
      (holds (of_digits o 2 282)
      (holds (of_digits o 2 11)
      (holds (byte o b.order)
      (holds b.satellite.bytes
      (holds b.centre.bytes
      (holds b.area.bytes
      (holds b.other.bytes
      (holds (of_digits o 2 v.block1.timeline)
      (holds (of_digits o 8 v.block1.started)
      (holds (of_digits o 8 v.block1.ended)
      (holds (of_digits o 8 v.block1.created)
      (holds (of_digits o 4 header)
      (holds (of_digits o 4 counts)
      (holds (byte v.block1.quality1 b.quality1)
      (holds (byte v.block1.quality2 b.quality2)
      (holds (byte v.block1.quality3 b.quality3)
      (holds (byte v.block1.quality4 b.quality4)
      (holds b.version.bytes
      (holds b.name.bytes
      (holds b.spare.bytes tt)))))))))))))))))))))

  of2 : Bytes (bytes2 o v.block2)
  unfolding bytes2
  of2 =
      of_join _
      (holds (byte 2 (omega arith))
      (holds (of_digits o 2 50)
      (holds (of_digits o 2 16)
      (holds (of_digits o 2 v.block2.columns)
      (holds (of_digits o 2 v.block2.lines)
      (holds (byte v.block2.compression f.block2.compression)
      (holds f.block2.spare.bytes tt)))))))

  of_carrying : (k n : ℕ) (l : List ℕ) → k < 256 → Bytes l → Bytes (carrying k o n l)
  unfolding carrying
  of_carrying k n l h b = of_join _ (holds (byte k h) (holds (of_digits o 2 n) (holds b tt)))

  of5 : Bytes (bytes5 o v.block5)
  unfolding bytes5
  of5 =
      of_join _
      (holds (byte 5 (omega arith))
      (holds (of_digits o 2 147)
      (holds (of_digits o 2 v.block5.band)
      (holds (of_digits o 8 v.block5.wavelength)
      (holds (of_digits o 2 v.block5.bits)
      (holds (of_digits o 2 65535)
      (holds (of_digits o 2 65534)
      (holds (of_digits o 8 v.block5.gain)
      (holds (of_digits o 8 v.block5.constant)
      (holds f.block5.carried.bytes tt))))))))))

  of7 : Bytes (bytes7 o v.block7)
  unfolding bytes7
  of7 =
      of_join _
      (holds (byte 7 (omega arith))
      (holds (of_digits o 2 47)
      (holds (byte v.block7.total f.block7.total)
      (holds (byte v.block7.number f.block7.number)
      (holds (of_digits o 2 v.block7.first)
      (holds f.block7.spare.bytes tt))))))

  of8 : Bytes (bytes8 o v.block8 e.lines8 e.column_shifts e.line_shifts)
  unfolding bytes8 entry8
  of8 =
      of_join _
      (holds (byte 8 (omega arith))
      (holds (of_digits o 2 _)
      (holds (of_digits o 4 v.block8.column)
      (holds (of_digits o 4 v.block8.line)
      (holds (of_digits o 8 v.block8.rotation)
      (holds (of_digits o 2 _)
      (holds (of_rows _ (λ i. of_join _ (holds (of_digits o 2 _) (holds (of_digits o 4 _) (holds (of_digits o 4 _) tt)))) _)
      (holds f.block8.spare.bytes tt))))))))

  of9 : Bytes (bytes9 o v.spare9 e.lines9 e.times)
  unfolding bytes9 entry9
  of9 =
      of_join _
      (holds (byte 9 (omega arith))
      (holds (of_digits o 2 _)
      (holds (of_digits o 2 _)
      (holds (of_rows _ (λ i. of_join _ (holds (of_digits o 2 _) (holds (of_digits o 8 _) tt))) _)
      (holds f.spare9.bytes tt)))))

  of10 : Bytes (bytes10 o v.spare10 e.lines10 e.pixels)
  unfolding bytes10 entry10
  of10 =
      of_join _
      (holds (byte 10 (omega arith))
      (holds (of_digits o 4 _)
      (holds (of_digits o 2 _)
      (holds (of_rows _ (λ i. of_join _ (holds (of_digits o 2 _) (holds (of_digits o 2 _) tt))) _)
      (holds f.spare10.bytes tt)))))

  pub encoded : Bytes (encode v e)
  unfolding encode blocks_of front_blocks back_blocks
  encoded =
      of_join _
      (holds (of1 _ _)
      (holds of2
      (holds (of_carrying 3 127 v.carried3 (omega arith) f.carried3.bytes)
      (holds (of_carrying 4 139 v.carried4 (omega arith) f.carried4.bytes)
      (holds of5
      (holds (of_carrying 6 259 v.carried6 (omega arith) f.carried6.bytes)
      (holds of7
      (holds of8
      (holds of9
      (holds of10
      (holds (of_carrying 11 259 v.spare11 (omega arith) f.spare11.bytes) tt)))))))))))
