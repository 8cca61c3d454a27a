-- A header that was stored in two parts, and the output after a verdict.
-- Assumes nothing.
use mathlib.Core.Path.{◌≡◌, refl, sym, ◌∙◌}
use mathlib.Core.List.{List, [], ◌∷◌, ◌++◌, append_assoc}
use Prim.Native.Nat.{ℕ, ◌+◌}
use lib.ListN.{length, length-append}
use Rattle.wire.specs.Wire.{join, Stored}
use Rattle.wire.proofs.Stores.{store_append, front}
use Rattle.std.specs.Prelude.{Ok, Err}
use Rattle.rules.specs.Rules.{paper_of, fine, refused, after}
use Rattle.rules.specs.declared.Refusal.{Refusal}
use Rattle.header.specs.declared.Header.{Header}
use Rattle.header.specs.Encode.{Entries, encode, length_for}
use Rattle.writer.specs.Given.{ruled, Wrote}
use Rattle.writer.specs.Sizes.{Fits}
use Rattle.writer.proofs.Good.{good_is}

join_append : (ps qs : List (List ℕ)) → join (ps ++ qs) ≡ join ps ++ join qs
unfolding join
join_append [] qs = refl
join_append (p ∷ ps) qs = rw (join_append ps qs, append_assoc)

-- two runs of pieces, one after the other, are one
pub both : (ps qs : List (List ℕ)) {l m out : List ℕ} {at w k : ℕ} (n : ℕ) → w + k ≡ n
    → Stored w l at (join ps) m → Stored k m (at + w) (join qs) out → Stored n l at (join (ps ++ qs)) out
both ps qs {l} {m} {out} {at} {w} {k} n e s t = record {
  long = rw (join_append ps qs, length-append, s.long, t.long) e;
  is = t.is ∙ rw (s.is, join_append ps qs, store_append l at w (join ps) (join qs) s.long);
}

-- the header and then the rest as it was
pub wrote_fine : (l out : List ℕ) (v : Header) (e : Entries) (u : Unit) → ruled v e (length l) ≡ fine → Stored (length_for e) l 0 (encode v e) out → Wrote l v e (Ok u) out
unfolding after
wrote_fine l out v e u g s = record {
  says = sym g;
  leaves = rw (g, s.long) (front s (good_is v e (length l) g).1);
}

-- a refusal leaves all as it was
pub wrote_not : (l : List ℕ) (v : Header) (e : Entries) (t : Refusal) → ruled v e (length l) ≡ refused (paper_of t) → Wrote l v e (Err t) l
unfolding after
wrote_not l v e t g = record { says = sym g; leaves = rw g }

-- what nothing is wrong with fits
pub fits_where_fine : (v : Header) (e : Entries) (n : ℕ) → ruled v e n ≡ fine → Fits v e
fits_where_fine v e n g = (good_is v e n g).0.fits

pub ruleset writing = (wrote_not, fits_where_fine)
