-- Demand 2. `s` is a string of bytes; the words stand in specs/ of tiling (Made, Lawful), header (Encode, Values, Entries) and writer (Given).
-- Assumes nothing.
use Rattle.std.proofs.Common.{◌≡◌, refl, sym, ap, ◌∙◌, ◌↔◌, List, [], ◌∷◌, ◌++◌, ℕ, ◌≤◌, length, take, drop, Result, Ok}
use Rattle.wire.specs.Wire.{Bytes}
use Rattle.rules.specs.Rules.{fine, judge, paper, says, paper_reply, Verdict}
use Rattle.rules.proofs.Judge.{said}
use Rattle.header.specs.Places.{header_length, length_of, data_length}
use Rattle.header.specs.Values.{header_of}
use Rattle.header.specs.declared.Header.{Header}
use Rattle.header.specs.Encode.{Entries, encode}
use Rattle.header.specs.Entries.{entries_of}
use Rattle.accept.specs.declared.Facts.{Facts}
use Rattle.rules.specs.declared.Refusal.{Refusal}
use Rattle.accept.specs.Checks.{checks}
use Rattle.accept.specs.Answers.{facts_of, answer_of}
use Rattle.accept.proofs.accept.Reads as accept
use Rattle.writer.specs.Given.{ruled, Wrote}
use Rattle.writer.proofs.Good.{good_is, good_of}
use Rattle.reading.specs.declared.Calibration.{Calibration}
use Rattle.reading.specs.Counts.{calibration_of, reading_of}
use Rattle.plugin.specs.declared.HsdFile.{HsdFile}
use Rattle.plugin.specs.Plugin.{shown_file, calibration_c, shown_reading}
use Rattle.plugin.proofs.hsd_accept.Reads as hsd_accept
use Rattle.plugin.proofs.hsd_reading.Reads as hsd_reading
use Rattle.tiling.specs.Lawful.{Lawful}
use Rattle.tiling.specs.Made.{Fit, Made, IsAccepted, Readable, Writable}
use Rattle.tiling.proofs.Lawful.{lawful_is, lawful_of, lawful_exactly}
use Rattle.tiling.proofs.Exactly as tiling
use Rattle.promises.specs.Calls.{Answered, answered, Read, Written}
use Rattle.promises.specs.Told.{Told, Shown}
use Rattle.promises.proofs.Refusals.{reply_one}
use Rattle.promises.proofs.Calls.{fine_is, got, fine_read, wrote}
use Rattle.promises.proofs.Told.{told, same_told, by_block5, free, shown_accepted, shown_at}

-- accepted exactly when there are good values, entries and counts that make it
pub exactly : (s : List ℕ) → Bytes s → IsAccepted s ↔ Made s
exactly = tiling.accepted_exactly

-- the same of the function's own answers, whatever call gave them: one that says Ok speaks of a file that is made,
-- and of such a file the answer is Ok with its facts
pub accepts : (κ : _) (a : _) (f : _) (t : _) → accept.Post κ a (Ok f) t → Bytes a.0.now → Made a.0.now
accepts κ a f t p b = tiling.says_made a.0.now b f (sym p)

pub answers : (κ : _) (a : _) (x : _) (t : _) → accept.Post κ a x t → Made a.0.now → x ≡ Ok (facts_of a.0.now)
answers κ a x t p m = reply_one x (Ok (facts_of a.0.now)) (p ∙ tiling.made_accepted a.0.now m)

-- what is read of an accepted file, values and entries, writes back byte for byte, spares too
pub back : (s : List ℕ) → Bytes s → IsAccepted s → encode (header_of s) (entries_of s) ++ drop (length_of s) s ≡ s
back = tiling.writes_back

-- and the writer takes it, where there is room
pub taken : (s : List ℕ) → Bytes s → IsAccepted s → (n : ℕ) → length_of s ≤ n → ruled (header_of s) (entries_of s) n ≡ fine
taken = tiling.takes_back

-- whatever call of the writer is given them, with room: it says nothing is wrong, and puts the header there
pub rewrites : (s : List ℕ) → Bytes s → IsAccepted s → (l : List ℕ) (r : Verdict) (out : List ℕ) → length_of s ≤ length l → Wrote l (header_of s) (entries_of s) r out
    → (paper r ≡ fine) × (out ≡ take (length_of s) s ++ drop (length_of s) l)
rewrites = tiling.rewrites

-- what was written, with its counts after it, reads back as the values and entries
pub forth : (s : List ℕ) (m : Made s) → (header_of s ≡ m.v) × (entries_of s ≡ m.e)
forth = tiling.reads_back

-- the writer takes exactly the values and entries that a reader could have read
pub takes_exactly : (v : Header) (e : Entries) → Writable v e ↔ Readable v e
takes_exactly = tiling.takes_exactly

-- and these are the ones that document 01 calls for
pub lawful : (v : Header) (e : Entries) → Fit v e → (ruled v e (length (encode v e)) ≡ fine) ↔ Lawful v e
lawful = lawful_exactly

-- ---- of the functions' own answers (Calls: `Read`, `Written`, `Answered`). What is left of hypotheses, `Bytes` and `Fit`, are the bounds of the types that
-- these functions take, u8 to u64 and arrays of so many bytes: every call meets them, but a `Post` does not say so.

-- Read, then written: of a file of which `read` says Ok, the other readers do, and the writer, given what the four gave and an output with room, says Ok, puts
-- the file's own header there, byte for byte, and leaves the rest of the output.
pub read_written : {s l out : List ℕ} {w r : Verdict} {ws : List Verdict} {v : Header} {e : Entries} → Bytes s
    → Read s w ws v e → w ≡ Ok tt → Written l v e r out → length_of s ≤ length l
    → (ws ≡ Ok tt ∷ Ok tt ∷ Ok tt ∷ []) × (r ≡ Ok tt) × (out ≡ take (length_of s) s ++ drop (length_of s) l)
read_written {s} {l} {out} {r = r} b rd q wr room =
    let g = fine_read rd q in
    let h = got rd g in
    let k = tiling.rewrites s b (tiling.fine_accepted s g) l r out room (rw (h.header, h.entries) at (wrote wr)) in
    (h.others, fine_is r k.0, k.1)

-- What acceptance tells of a file is told of the values and entries that the readers give (Told: `Told`).
pub accepted_told : {s : List ℕ} {x : Result Facts Refusal} {f : Facts} {w : Verdict} {ws : List Verdict} {v : Header} {e : Entries} → Bytes s
    → Answered s x → x ≡ Ok f → Read s w ws v e → Told f v e
unfolding answer_of
accepted_told {s} {f = f} b (answered κ a x t p i) q rd =
    let y : answer_of s ≡ says f = ap answer_of (sym i) ∙ sym p ∙ ap paper_reply q in
    let g = said (judge fine (checks s)) (facts_of s) f y in
    let m = tiling.says_made s b f y in
    let h = got rd g.0 in
    let k = tiling.reads_back s m in
    same_told (sym g.1) (h.header ∙ k.0) (h.entries ∙ k.1) (told s m)

-- From C: a file is answered 0 exactly when it is made, and then what is shown is told of the values and entries that the readers give.
pub accepted_from_c : {s : List ℕ} {w : Verdict} {ws : List Verdict} {v : Header} {e : Entries} → Bytes s → Read s w ws v e
    → (κ : _) (a : _) (r : _) (t : _) → hsd_accept.Post κ a r t → a.0.now ≡ s
    → ((r.refusal ≡ 0) ↔ Made s) × (r.refusal ≡ 0 → Shown r (facts_of s) × Told (facts_of s) v e)
accepted_from_c {s} b rd κ a r t p i =
    let y : r ≡ shown_file (answer_of s) = p ∙ ap (λ (l : List ℕ). shown_file (answer_of l)) i in
    let zero : r.refusal ≡ 0 → judge fine (checks s) ≡ fine = λ z. free s (ap (λ (h : HsdFile). h.refusal) (sym y) ∙ z) in
    let made : r.refusal ≡ 0 → Made s = λ z. (tiling.accepted_exactly s b).0 (tiling.fine_accepted s (zero z)) in (
      (made, λ m. ap (λ (h : HsdFile). h.refusal) y ∙ (shown_accepted s (tiling.accepted_fine s (tiling.made_accepted s m))).refusal),
      λ z. let h = got rd (zero z) in let k = tiling.reads_back s (made z) in
          (shown_at y (shown_accepted s (zero z)), same_told refl (h.header ∙ k.0) (h.entries ∙ k.1) (told s (made z))),
    )

-- Gain and constant travel together from block 5: what C reads of a count by the answer to an accepted file is its reading by the values that the readers give.
pub read_by_block5 : {s : List ℕ} {w : Verdict} {ws : List Verdict} {v : Header} {e : Entries} → Bytes s → Read s w ws v e
    → (κ₁ : _) (a₁ : _) (r : _) (t₁ : _) → hsd_accept.Post κ₁ a₁ r t₁ → a₁.0.now ≡ s → r.refusal ≡ 0
    → (κ : _) (a : _) (x : _) (t : _) → hsd_reading.Post κ a x t → a.0 ≡ r
    → x ≡ shown_reading (reading_of (calibration_of v.block5.gain v.block5.constant v.block5.bits) a.1.0)
read_by_block5 {s} b rd κ₁ a₁ r t₁ p₁ i z κ a x t p q =
    let y : r ≡ shown_file (answer_of s) = p₁ ∙ ap (λ (l : List ℕ). shown_file (answer_of l)) i in
    p ∙ ap (λ (c : Calibration). shown_reading (reading_of c a.1.0)) (ap calibration_c (q ∙ y) ∙ by_block5 b rd (ap (λ (h : HsdFile). h.refusal) (sym y) ∙ z))

-- Written, then read: of values and entries of their types of which the writer says Ok, what it wrote, with counts of the right length after it, is accepted, and the
-- four readers give back exactly those values and entries.
module _ {l out : List ℕ} {v : Header} {e : Entries} (fit : Fit v e) (wr : Written l v e (Ok tt) out)
    (counts : List ℕ) (size : length counts ≡ data_length v.block2.columns v.block2.lines) where
  abbrev file : List ℕ
  file = take (header_length (length e.lines8) (length e.lines9) (length e.lines10)) out ++ counts

  made : (m : Made file) × (m.v ≡ v) × (m.e ≡ e)
  made = tiling.writes_made l v e (Ok tt) out fit (wrote wr) refl counts size

  pub written_accepted : {x : Result Facts Refusal} → Answered file x → x ≡ Ok (facts_of file)
  written_accepted (answered κ a x t p i) = answers κ a x t p (rw i made.0) ∙ rw i

  pub written_told : Told (facts_of file) v e
  written_told = same_told refl (sym made.1) (sym made.2) (told file made.0)

  pub written_read : {w : Verdict} {ws : List Verdict} {v' : Header} {e' : Entries} → Read file w ws v' e'
      → (w ≡ Ok tt) × (ws ≡ Ok tt ∷ Ok tt ∷ Ok tt ∷ []) × (v' ≡ v) × (e' ≡ e)
  written_read rd =
      let h = got rd (tiling.accepted_fine file (tiling.made_accepted file made.0)) in
      let k = tiling.reads_back file made.0 in
      (h.first, h.others, h.header ∙ k.0 ∙ made.1, h.entries ∙ k.1 ∙ made.2)

-- The writer says Ok exactly of lawful values and entries that its output has room for.
pub writes_exactly : {l out : List ℕ} {v : Header} {e : Entries} {r : Verdict} → Fit v e → Written l v e r out
    → (r ≡ Ok tt) ↔ (Lawful v e × (header_length (length e.lines8) (length e.lines9) (length e.lines10) ≤ length l))
writes_exactly {l} {v = v} {e = e} {r = r} fit wr =
    let w = wrote wr in (
      λ q. let g = good_is v e (length l) (sym w.says ∙ ap paper q) in (lawful_is v e fit g.0, g.1),
      λ h. fine_is r (w.says ∙ good_of v e (length l) (lawful_of v e h.0) h.1),
    )
