-- Demand 2: accepted exactly when made; what is read writes back, and what is written reads back. Assumes nothing.
use mathlib.Core.Path.{◌≡◌, refl, sym, ap, ◌∙◌, subst⁻¹}
use mathlib.Core.Logic.{◌↔◌}
use mathlib.Core.List.{List, ◌++◌}
use Prim.Native.Nat.{ℕ, zero, suc, ◌+◌, ◌*◌, ◌≤◌, ◌<◌, ◌^◌}
use native.Mathlib.Omega.{arith}
use lib.ListN.{length, take, drop, replicate, length-drop, length-replicate}
use lib.Seq.{take_at}
use Rattle.wire.specs.Wire.{Bytes, span, num}
use Rattle.wire.proofs.Spans.{length_span}
use Rattle.wire.proofs.Rows.{tab_lt}
use Rattle.wire.proofs.Pieces.{num_span_lt}
use Rattle.rules.specs.Rules.{judge, fine, paper, after, says, Verdict}
use Rattle.rules.proofs.Judge.{said}
use Rattle.header.specs.declared.Header.{Header}
use Rattle.header.specs.Places.{order_of, a_of, b_of, c_of, at9, at10, header_length, length_of, data_length}
use Rattle.header.specs.Values.{block1_of, block2_of, block5_of, block7_of, block8_of, header_of}
use Rattle.header.specs.Encode.{Entries, encode}
use Rattle.header.specs.Entries.{column, entries_of}
use Rattle.accept.specs.declared.Facts.{Facts}
use Rattle.accept.specs.Checks.{fields2, checks}
use Rattle.accept.specs.Answers.{facts_of, answer_of}
use Rattle.writer.specs.Given.{ruled, Wrote}
use Rattle.writer.proofs.Good.{Good, size_most, good_is, good_of}
use Rattle.tiling.specs.Made.{Run, Numbers, Fit, Made, IsAccepted, Readable, Writable}
use Rattle.accept.proofs.Tables.{Accepted, accepted, accepting}
use Rattle.tiling.proofs.Back as back
use Rattle.tiling.proofs.Forth as forth
use Rattle.tiling.proofs.Eight.{append, of_zeros, encoded}
use Rattle.tiling.proofs.Lawful.{lawful_is, lawful_of, lawful_exactly}

bytes_span : (s : List ℕ) → Bytes s → (at n : ℕ) → Bytes (span s at n)
unfolding span
bytes_span s b at zero i = omega arith
bytes_span s b at (suc n) zero = b at
bytes_span s b at (suc n) (suc i) = bytes_span s b (at + 1) n i

-- an accepted file's values and entries are good, and fit their types
module _ (s : List ℕ) (b : Bytes s) where
  abbrev o : ℕ
  o = order_of s

  run : (at n : ℕ) → Run n (span s at n)
  run at n = record { long = length_span s at n; bytes = bytes_span s b at n }

  number : (at w : ℕ) → num o (span s at w) < 256 ^ w
  number at w = num_span_lt s o at w b

  numbers : (at stride w n : ℕ) → Numbers w (column s o at stride w n)
  unfolding column
  numbers at stride w n = tab_lt _ n (256 ^ w) (λ i. num_span_lt s o (at + stride * i) w b)

  pub fit : Fit (header_of s) (entries_of s)
  unfolding header_of entries_of block1_of block2_of block5_of block7_of block8_of
  fit = record {
    block1 = record {
      order = b 5;
      satellite = run 6 16;
      centre = run 22 16;
      area = run 38 4;
      other = run 42 2;
      timeline = number 44 2;
      started = number 46 8;
      ended = number 54 8;
      created = number 62 8;
      quality1 = b 78;
      quality2 = b 79;
      quality3 = b 80;
      quality4 = b 81;
      version = run 82 32;
      name = run 114 128;
      spare = run 242 40;
    };
    block2 = record { columns = number 287 2; lines = number 289 2; compression = b 291; spare = run 292 40 };
    carried3 = run 335 124;
    carried4 = run 462 136;
    block5 = record {
      band = number 601 2;
      wavelength = number 603 8;
      bits = number 611 2;
      gain = number 617 8;
      constant = number 625 8;
      carried = run 633 112;
    };
    carried6 = run 748 256;
    block7 = record { total = b 1007; number = b 1008; first = number 1009 2; spare = run 1011 40 };
    block8 = record { column = number 1054 4; line = number 1058 4; rotation = number 1062 8; spare = run _ 40 };
    spare9 = run _ 40;
    spare10 = run _ 40;
    spare11 = run _ 256;
    lines8 = numbers _ 10 2 _;
    column_shifts = numbers _ 10 4 _;
    line_shifts = numbers _ 10 4 _;
    lines9 = numbers _ 10 2 _;
    times = numbers _ 10 8 _;
    lines10 = numbers _ 4 2 _;
    pixels = numbers _ 4 2 _;
  }

  pub good : Accepted s → Good (header_of s) (entries_of s)
  unfolding header_of entries_of block1_of fields2
  good h =
      let at9 = at9 (a_of s) in
      let at10 = at10 (a_of s) (b_of s) in
      record {
        order = h.shape1.order;
        fields1 = h.fields1;
        fields2 = h.fields2;
        fields5 = h.fields5;
        fields7 = h.fields7;
        names = h.names;
        fits = record {
          columns = size_most _ h.fields2.1.0;
          lines = size_most _ h.fields2.1.1.0;
          few8 = rw (back.long s o 1072 10 2 (a_of s)) (omega (arith, h.block8.size, number 1052 2));
          xs = back.long s o 1074 10 4 (a_of s) ∙ sym (back.long s o 1072 10 2 (a_of s));
          ys = back.long s o 1078 10 4 (a_of s) ∙ sym (back.long s o 1072 10 2 (a_of s));
          few9 = rw (back.long s o (at9 + 5) 10 2 (b_of s)) (omega (arith, h.block9.size, number (at9 + 1) 2));
          ts = back.long s o (at9 + 7) 10 8 (b_of s) ∙ sym (back.long s o (at9 + 5) 10 2 (b_of s));
          few10 = rw (back.long s o (at10 + 7) 4 2 (c_of s)) (omega (arith, number (at10 + 5) 2));
          ps = back.long s o (at10 + 9) 4 2 (c_of s) ∙ sym (back.long s o (at10 + 7) 4 2 (c_of s));
        };
      }

  -- how long its header is, written as its entries have it
  long_entries : header_length (length (entries_of s).lines8) (length (entries_of s).lines9) (length (entries_of s).lines10) ≡ length_of s
  unfolding entries_of
  long_entries = rw (back.long s o 1072 10 2 (a_of s), back.long s o (at9 (a_of s) + 5) 10 2 (b_of s), back.long s o (at10 (a_of s) (b_of s) + 7) 4 2 (c_of s))

  counts : Accepted s → length (drop (length_of s) s) ≡ data_length (header_of s).block2.columns (header_of s).block2.lines
  unfolding header_of
  counts h = length-drop (length_of s) s ∙ omega (arith, back.size s h)

  pub made : Accepted s → Made s
  made h =
      record {
        v = header_of s;
        e = entries_of s;
        counts = drop (length_of s) s;
        fit = fit;
        lawful = lawful_is (header_of s) (entries_of s) fit (good h);
        is = sym (back.back s b h);
        size = counts h;
      }

-- the answer is an acceptance exactly when no check fails
says_fine : (s : List ℕ) (f : Facts) → answer_of s ≡ says f → judge fine (checks s) ≡ fine
unfolding answer_of
says_fine s f e = (said (judge fine (checks s)) (facts_of s) f e).0

pub accepted_fine : (s : List ℕ) → IsAccepted s → judge fine (checks s) ≡ fine
accepted_fine s e = says_fine s (facts_of s) e

pub fine_accepted : (s : List ℕ) → judge fine (checks s) ≡ fine → IsAccepted s
unfolding answer_of
fine_accepted s e = rw e

only : (s : List ℕ) → Made s → judge fine (checks s) ≡ fine
only s m = accepting s (subst⁻¹ Accepted m.is (forth.accepted_back m.v m.e m.counts m.fit (lawful_of m.v m.e m.lawful) m.size))

pub made_accepted : (s : List ℕ) → Made s → IsAccepted s
made_accepted s m = fine_accepted s (only s m)

-- a file is accepted exactly when it is the header of good values and then its counts
pub accepted_exactly : (s : List ℕ) → Bytes s → IsAccepted s ↔ Made s
accepted_exactly s b = (λ e. made s b (accepted s (accepted_fine s e)), made_accepted s)

-- an answer that says accepted, with whatever facts, says so of a file that is made
pub says_made : (s : List ℕ) → Bytes s → (f : Facts) → answer_of s ≡ says f → Made s
says_made s b f e = made s b (accepted s (says_fine s f e))

-- what is read of an accepted file writes back, byte for byte, spares too
pub writes_back : (s : List ℕ) → Bytes s → IsAccepted s → encode (header_of s) (entries_of s) ++ drop (length_of s) s ≡ s
writes_back s b e = back.back s b (accepted s (accepted_fine s e))

-- so that its header is what was written
pub long_back : (s : List ℕ) → Bytes s → IsAccepted s → length (encode (header_of s) (entries_of s)) ≡ length_of s
long_back s b e =
    let h = accepted s (accepted_fine s e) in
    forth.long_header (header_of s) (entries_of s) (drop (length_of s) s) (fit s b) (good s b h) (counts s b h) ∙ long_entries s b

pub header_back : (s : List ℕ) → Bytes s → IsAccepted s → encode (header_of s) (entries_of s) ≡ take (length_of s) s
header_back s b e =
    sym (take_at (encode (header_of s) (entries_of s)) (drop (length_of s) s) (length_of s) (long_back s b e)) ∙ ap (take (length_of s)) (writes_back s b e)

-- and the writer takes it
pub takes_back : (s : List ℕ) → Bytes s → IsAccepted s → (n : ℕ) → length_of s ≤ n → ruled (header_of s) (entries_of s) n ≡ fine
takes_back s b e n h =
    good_of (header_of s) (entries_of s) n (good s b (accepted s (accepted_fine s e))) (omega (arith, long_entries s b))

-- what is read of a file is what it was made of
pub reads_back : (s : List ℕ) (m : Made s) → (header_of s ≡ m.v) × (entries_of s ≡ m.e)
reads_back s m = (
  ap header_of m.is ∙ forth.header_back m.v m.e m.counts m.fit (lawful_of m.v m.e m.lawful) m.size,
  ap entries_of m.is ∙ forth.entries_back m.v m.e m.counts m.fit (lawful_of m.v m.e m.lawful) m.size,
)

-- the writer takes exactly the values that a reader could have read
writable_readable : (v : Header) (e : Entries) → Writable v e → Readable v e
writable_readable v e w =
    let n = data_length v.block2.columns v.block2.lines in
    let s = encode v e ++ replicate n 0 in
    let m : Made s = record { v = v; e = e; counts = replicate n 0; fit = w.fit; lawful = (lawful_exactly v e w.fit).0 w.good; is = refl; size = length-replicate n 0 } in
    record {
      file = s;
      bytes = append (encode v e) (replicate n 0) (encoded v e w.fit) (of_zeros n);
      accepted = made_accepted s m;
      header = (reads_back s m).0;
      entries = (reads_back s m).1;
    }

readable_writable : (v : Header) (e : Entries) → Readable v e → Writable v e
unfolding header_of entries_of made
readable_writable v e r =
    let m = made r.file r.bytes (accepted r.file (accepted_fine r.file r.accepted)) in
    rw (← r.header, ← r.entries) record { fit = m.fit; good = (lawful_exactly m.v m.e m.fit).1 m.lawful }

pub takes_exactly : (v : Header) (e : Entries) → Writable v e ↔ Readable v e
takes_exactly v e = (writable_readable v e, readable_writable v e)

-- whatever call of the writer is given an accepted file's values and entries, with room, puts the file's own header there
pub rewrites : (s : List ℕ) → Bytes s → IsAccepted s → (l : List ℕ) (r : Verdict) (out : List ℕ) → length_of s ≤ length l → Wrote l (header_of s) (entries_of s) r out
    → (paper r ≡ fine) × (out ≡ take (length_of s) s ++ drop (length_of s) l)
unfolding after
rewrites s b e l r out h w =
    let g = takes_back s b e (length l) h in
    (w.says ∙ g, w.leaves ∙ rw (g, long_back s b e, header_back s b e))

-- and what any call of the writer writes of values and entries of their types, with counts of the right length after it, is made of them
pub writes_made : (l : List ℕ) (v : Header) (e : Entries) (r : Verdict) (out : List ℕ) → Fit v e → Wrote l v e r out → paper r ≡ fine
    → (counts : List ℕ) → length counts ≡ data_length v.block2.columns v.block2.lines
    → (m : Made (take (header_length (length e.lines8) (length e.lines9) (length e.lines10)) out ++ counts)) × (m.v ≡ v) × (m.e ≡ e)
unfolding after
writes_made l v e r out f w q counts size =
    let n = header_length (length e.lines8) (length e.lines9) (length e.lines10) in
    let g = sym w.says ∙ q in
    let good = (good_is v e (length l) g).0 in
    let o : out ≡ encode v e ++ drop (length (encode v e)) l = w.leaves ∙ rw g in
    let t : take n out ≡ encode v e = ap (take n) o ∙ take_at (encode v e) _ n (forth.long_header v e counts f good size) in (
      record { v = v; e = e; counts = counts; fit = f; lawful = lawful_is v e f good; is = ap (λ (h : List ℕ). h ++ counts) t; size = size },
      refl,
      refl,
    )
