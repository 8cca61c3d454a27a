-- What calls of the readers and of the writer gave. Assumes nothing.
use Rattle.std.proofs.Common.{◌≡◌, sym, ap, ◌∙◌, List, [], ◌∷◌, ℕ, ◌≤◌, length, take, drop, take_at, le-leb, Ok}
use Rattle.rules.specs.Rules.{Row, Ruling, tables, judge, fine, paper, after, Verdict}
use Rattle.rules.proofs.Judge.{Holds, exactly, each_of, holds}
use Rattle.rules.proofs.Paper.{paper_one}
use Rattle.header.specs.declared.Header.{Header}
use Rattle.header.specs.Places.{a_of, b_of, c_of, order_of}
use Rattle.header.specs.Values.{header_of}
use Rattle.header.specs.Encode.{Entries}
use Rattle.header.specs.Entries.{entries_of}
use Rattle.accept.specs.Checks.{checks}
use Rattle.reader.specs.declared.HeaderRead.{HeaderRead}
use Rattle.reader.specs.Reads.{ReadAs, Shifts, Times, Errors, rooms2, rooms3, read_ruling, filled}
use Rattle.writer.specs.Given.{Wrote}
use Rattle.tiling.proofs.Back.{long}
use Rattle.promises.specs.Calls.{Read, all_four, Written, written}

pub fine_is : (v : Verdict) → paper v ≡ fine → v ≡ Ok tt
fine_is v e = paper_one v (Ok tt) e

-- what stands first in a slice that was filled
front : (r : Ruling) (n : ℕ) (new l out : List ℕ) → length new ≡ n → r ≡ fine → out ≡ filled r n new l → take n out ≡ new
unfolding filled after
front r n new l out h g e = rw (e, g) (take_at new (drop n l) n h)

module _ (s : List ℕ) (g : judge fine (checks s) ≡ fine) where
  roomy : (rooms : List Row) → Holds rooms → read_ruling s rooms ≡ fine
  roomy rooms h = (exactly (tables (checks s ∷ rooms ∷ []))).1 (each_of (checks s ∷ rooms ∷ []) (holds ((exactly (checks s)).0 g) (holds h tt)))

  values : (r : HeaderRead) → ReadAs s r → (r.verdict ≡ Ok tt) × (r.header ≡ header_of s)
  unfolding after
  values r p = (fine_is r.verdict (p.says ∙ g), p.is ∙ rw g)

  shifts : (ls xs ys : List ℕ) (r : Verdict) (ls' xs' ys' : List ℕ) → Shifts s ls xs ys r ls' xs' ys' → a_of s ≤ length ls → a_of s ≤ length xs → a_of s ≤ length ys
      → (r ≡ Ok tt) × (take (a_of s) ls' ≡ (entries_of s).lines8) × (take (a_of s) xs' ≡ (entries_of s).column_shifts) × (take (a_of s) ys' ≡ (entries_of s).line_shifts)
  unfolding entries_of rooms3
  shifts ls xs ys r ls' xs' ys' p a b c =
      let q = roomy (rooms3 (a_of s) (length ls) (length xs) (length ys)) (holds (le-leb _ _ a) (holds (le-leb _ _ b) (holds (le-leb _ _ c) tt))) in (
        fine_is r (p.says ∙ q),
        front _ _ _ ls ls' (long s (order_of s) 1072 10 2 (a_of s)) q p.lines,
        front _ _ _ xs xs' (long s (order_of s) 1074 10 4 (a_of s)) q p.column_shifts,
        front _ _ _ ys ys' (long s (order_of s) 1078 10 4 (a_of s)) q p.line_shifts,
      )

  times : (ls ts : List ℕ) (r : Verdict) (ls' ts' : List ℕ) → Times s ls ts r ls' ts' → b_of s ≤ length ls → b_of s ≤ length ts
      → (r ≡ Ok tt) × (take (b_of s) ls' ≡ (entries_of s).lines9) × (take (b_of s) ts' ≡ (entries_of s).times)
  unfolding entries_of rooms2
  times ls ts r ls' ts' p a b =
      let q = roomy (rooms2 (b_of s) (length ls) (length ts)) (holds (le-leb _ _ a) (holds (le-leb _ _ b) tt)) in (
        fine_is r (p.says ∙ q),
        front _ _ _ ls ls' (long s (order_of s) _ 10 2 (b_of s)) q p.lines,
        front _ _ _ ts ts' (long s (order_of s) _ 10 8 (b_of s)) q p.times,
      )

  errors : (ls ps : List ℕ) (r : Verdict) (ls' ps' : List ℕ) → Errors s ls ps r ls' ps' → c_of s ≤ length ls → c_of s ≤ length ps
      → (r ≡ Ok tt) × (take (c_of s) ls' ≡ (entries_of s).lines10) × (take (c_of s) ps' ≡ (entries_of s).pixels)
  unfolding entries_of rooms2
  errors ls ps r ls' ps' p a b =
      let q = roomy (rooms2 (c_of s) (length ls) (length ps)) (holds (le-leb _ _ a) (holds (le-leb _ _ b) tt)) in (
        fine_is r (p.says ∙ q),
        front _ _ _ ls ls' (long s (order_of s) _ 4 2 (c_of s)) q p.lines,
        front _ _ _ ps ps' (long s (order_of s) _ 4 2 (c_of s)) q p.pixels,
      )

-- where no check fails, the four readers give the file's values and entries
pub record Got (s : List ℕ) (w : Verdict) (ws : List Verdict) (v : Header) (e : Entries) : Type 0 where
  pub first : w ≡ Ok tt
  pub others : ws ≡ Ok tt ∷ Ok tt ∷ Ok tt ∷ []
  pub header : v ≡ header_of s
  pub entries : e ≡ entries_of s

pub got : {s : List ℕ} {w : Verdict} {ws : List Verdict} {v : Header} {e : Entries} → Read s w ws v e → judge fine (checks s) ≡ fine → Got s w ws v e
got {s} (all_four κ₁ a₁ r₁ t₁ p₁ e₁ κ₈ a₈ r₈ t₈ p₈ e₈ l₈ x₈ y₈ κ₉ a₉ r₉ t₉ p₉ e₉ l₉ x₉ κ a r t p e l x) g =
    let h₁ = values s g r₁ (rw e₁ at p₁) in
    let h₈ = shifts s g _ _ _ r₈ _ _ _ (rw e₈ at p₈) l₈ x₈ y₈ in
    let h₉ = times s g _ _ r₉ _ _ (rw e₉ at p₉) l₉ x₉ in
    let h = errors s g _ _ r _ _ (rw e at p) l x in
    record {
      first = h₁.0;
      others = λ i. h₈.0 i ∷ h₉.0 i ∷ h.0 i ∷ [];
      header = h₁.1;
      entries = λ i. record {
        lines8 = h₈.1 i;
        column_shifts = h₈.2 i;
        line_shifts = h₈.3 i;
        lines9 = h₉.1 i;
        times = h₉.2 i;
        lines10 = h.1 i;
        pixels = h.2 i;
      };
    }

-- where the first reader says Ok, no check fails
pub fine_read : {s : List ℕ} {w : Verdict} {ws : List Verdict} {v : Header} {e : Entries} → Read s w ws v e → w ≡ Ok tt → judge fine (checks s) ≡ fine
fine_read (all_four κ₁ a₁ r₁ t₁ p₁ e₁ κ₈ a₈ r₈ t₈ p₈ e₈ l₈ x₈ y₈ κ₉ a₉ r₉ t₉ p₉ e₉ l₉ x₉ κ a r t p e l x) q =
    ap (λ (s : List ℕ). judge fine (checks s)) (sym e₁) ∙ sym p₁.says ∙ ap paper q

pub wrote : {l : List ℕ} {v : Header} {e : Entries} {r : Verdict} {out : List ℕ} → Written l v e r out → Wrote l v e r out
wrote (written κ a r t p el ev ee) = rw (el, ev, ee) at p
