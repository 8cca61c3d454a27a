-- Ask 2, reels: what opens is what was written, and each list has one reel (Reels: `Reel`, `Laid`, `Handed`); what is said of every other byte
-- string and list. Each theorem is of the functions' own answers: `Post` is a function's contract as its source has it. `Bytes` is the bound of the
-- slices' type.
-- Assumes nothing.
use Rattle.std.proofs.Common.{◌≡◌, refl, sym, ap, subst, ◌∙◌, true, List, [], ◌∷◌, ◌++◌, append-nil, map, ℕ, ◌+◌, ◌-◌, ◌≤◌, ◌<◌, arith, length, get_or, take, drop, length-append, Ok}
use Rattle.wire.specs.Wire.{Bytes, digits, lows, join}
use Rattle.rules.specs.Rules.{Turned, turned, paper, fine, refused, judge, Reply, says, refuses, paper_reply}
use Rattle.accept.specs.Checks.{checks}
use Rattle.accept.proofs.verdict.Reads as verdict
use Rattle.reel.specs.Ends.{ending}
use Rattle.reel.specs.Reels.{File, entries, trailer_of, trailer_length, reel_of, parts_of, opened, file_of}
use Rattle.reel.specs.Reels as reels
use Rattle.reel.specs.Writing.{listed, writing, wrote}
use Rattle.reel.proofs.Lists.{length_all, length_entries}
use Rattle.reel.proofs.Writing.{length_none, length_many, length_some}
use Rattle.reel.proofs.open.Reads as opening
use Rattle.reel.proofs.place_of.Reads as place_of
use Rattle.reel.proofs.file_of.Reads as file_of_reads
use Rattle.reel.proofs.trailer_length.Reads as trailer_length_reads
use Rattle.reel.proofs.write.Reads as write
use Rattle.reel.proofs.seal.Reads as seal
use Rattle.plugin.specs.declared.HsdAnswer.{HsdAnswer}
use Rattle.plugin.specs.Plugin.{shown_ruling}
use Rattle.plugin_reels.specs.declared.HsdReel.{HsdReel}
use Rattle.plugin_reels.specs.Reels.{shown_reel}
use Rattle.plugin_reels.proofs.hsd_reel_open.Reads as hsd_open
use Rattle.plugin_reels.proofs.hsd_reel_part.Reads as hsd_part
use Rattle.plugin_reels.proofs.hsd_reel_trailer.Reads as hsd_trailer
use Rattle.plugin_reels.proofs.hsd_reel_write.Reads as hsd_write
use Rattle.plugin_reels.proofs.hsd_reel_seal.Reads as hsd_seal
use Rattle.promises.specs.Blocks.{allowed}
use Rattle.promises.specs.Reels.{Fits, Laid, Reel, Handed, Own, Opening, Writing}
use Rattle.promises.proofs.Demand1.{in_reel, in_writing}
use Rattle.promises.proofs.Refusals.{refused_in, refuses_in, none_fine, reply_one}
use Rattle.promises.proofs.Runs.{shown_fine}
use Rattle.promises.proofs.Reeled as reeled
use Rattle.promises.proofs.Reeled.{opened_good, opened_back, placed, after_last, zeroth, handed_listed, front, sealed, front_reel, sealed_reel, writings, openings}

-- ---- each list has one reel, and each reel one list

pub one_reel : {s t : List ℕ} {fs : List File} → Laid s fs → Laid t fs → s ≡ t
one_reel l m = l.is ∙ sym m.is

pub one_list : {s : List ℕ} {fs gs : List File} → Laid s fs → Laid s gs → fs ≡ gs
one_list = reeled.one_list

-- ---- opening: what every byte string is told

pub opens : (κ : _) (a : _) (r : _) (t : _) → opening.Post κ a r t → Opening (λ x. paper_reply r ≡ x) a.0.now
opens κ a r t p = openings (λ x. paper_reply r ≡ x) a.0.now (paper_reply r) p refl

pub opens_c : (κ : _) (a : _) (r : _) (t : _) → hsd_open.Post κ a r t → Opening (λ x. r ≡ shown_reel x) a.0.now
opens_c κ a r t p = openings (λ x. r ≡ shown_reel x) a.0.now (opened a.0.now) refl p

-- what is shown as no refusal is none
shown_says : (x : Reply ℕ) → ((u : Turned) → x ≡ refuses u → allowed u ≡ true) → (shown_reel x).refusal ≡ 0 → x ≡ says (shown_reel x).files
unfolding shown_reel
shown_says (says n) h e = refl
shown_says (refuses (turned n b p)) h e = absurd (none_fine n b p (h (turned n b p) refl) e)

in_opened : (s : List ℕ) (u : Turned) → opened s ≡ refuses u → allowed u ≡ true
unfolding opened
in_opened s u e = refuses_in (reels.opening s) (in_reel s) _ u e

-- only reels open
pub only : (κ : _) (a : _) (n : _) (t : _) → opening.Post κ a (Ok n) t → Bytes a.0.now → Reel a.0.now (parts_of a.0.now) × (n ≡ length (parts_of a.0.now))
only κ a n t p b = opened_back a.0.now n b (sym p)

pub only_c : (κ : _) (a : _) (r : _) (t : _) → hsd_open.Post κ a r t → Bytes a.0.now → r.refusal ≡ 0
    → Reel a.0.now (parts_of a.0.now) × (r.files ≡ length (parts_of a.0.now))
only_c κ a r t p b e =
    let s = a.0.now in
    let q = shown_says (opened s) (in_opened s) (sym (ap (λ (x : HsdReel). x.refusal) p) ∙ e) in
    opened_back s r.files b (q ∙ ap (λ (x : HsdReel). says x.files) (sym p))

-- a file's own refusal is what `verdict` says of it
pub its_own : (κ : _) (a : _) (v : _) (t : _) → verdict.Post κ a v t → (u : Turned) → paper v ≡ refused u → Own a.0.now u
its_own κ a v t p u e = sym p ∙ e

pub accepted : (κ : _) (a : _) (v : _) (t : _) → verdict.Post κ a v t → paper v ≡ fine → judge fine (checks a.0.now) ≡ fine
accepted κ a v t p e = sym p ∙ e

-- ---- a file by its number

module _ {s : List ℕ} {fs : List File} (l : Laid s fs) where
  pub file : (κ : _) (a : _) (r : _) (t : _) → file_of_reads.Post κ a r t → a.0.now ≡ s → 1 ≤ a.1.0 → a.1.0 ≤ length fs → r.now ≡ get_or fs (a.1.0 - 1) []
  unfolding file_of
  file κ a r t p e lo hi = p ∙ rw e (placed l a.1.0 lo hi).1

  pub place : (κ : _) (a : _) (r : _) (t : _) → place_of.Post κ a r t → a.0.now ≡ s → 1 ≤ a.1.0 → a.1.0 ≤ length fs
      → (r.offset + r.length ≤ length s) × (take r.length (drop r.offset s) ≡ get_or fs (a.1.0 - 1) [])
  place κ a r t p e lo hi = rw (p, e) (placed l a.1.0 lo hi)

  pub part_c : (κ : _) (a : _) (r : _) (t : _) → hsd_part.Post κ a r t → a.0.now ≡ s → 1 ≤ a.1.0 → a.1.0 ≤ length fs
      → (r.offset + r.length ≤ length s) × (take r.length (drop r.offset s) ≡ get_or fs (a.1.0 - 1) [])
  part_c κ a r t p e lo hi = rw (p, e) (placed l a.1.0 lo hi)

  -- no other number has one
  pub no_file : (κ : _) (a : _) (r : _) (t : _) → file_of_reads.Post κ a r t → a.0.now ≡ s → length fs < a.1.0 → r.now ≡ []
  unfolding file_of
  no_file κ a r t p e h = p ∙ rw (e, after_last l a.1.0 h)

  pub no_part_c : (κ : _) (a : _) (r : _) (t : _) → hsd_part.Post κ a r t → a.0.now ≡ s → length fs < a.1.0 → r ≡ record { offset = 0; length = 0 }
  no_part_c κ a r t p e h = p ∙ rw (e, after_last l a.1.0 h)

pub no_zeroth : (κ : _) (a : _) (r : _) (t : _) → file_of_reads.Post κ a r t → a.1.0 ≡ 0 → r.now ≡ []
unfolding file_of
no_zeroth κ a r t p e = p ∙ rw (e, zeroth a.0.now)

pub no_zeroth_c : (κ : _) (a : _) (r : _) (t : _) → hsd_part.Post κ a r t → a.1.0 ≡ 0 → r ≡ record { offset = 0; length = 0 }
no_zeroth_c κ a r t p e = p ∙ rw (e, zeroth a.0.now)

-- whatever the bytes are, a part that is shown lies wholly within them
pub within : (κ : _) (a : _) (r : _) (t : _) → place_of.Post κ a r t → r.offset + r.length ≤ length a.0.now
within κ a r t p = rw p (reeled.within a.0.now a.1.0)

pub within_c : (κ : _) (a : _) (r : _) (t : _) → hsd_part.Post κ a r t → r.offset + r.length ≤ length a.0.now
within_c κ a r t p = rw p (reeled.within a.0.now a.1.0)

-- ---- writing: what every list is told, and what stands in the output then

pub writes : (κ : _) (a : _) (r : _) (t : _) → write.Post κ a r t → Writing (λ v. paper r ≡ v) reel_of a.0.now a.1.0.now a.1.1.0.now t.1.1.0.now
writes κ a r t p = writings (λ v. paper r ≡ v) reel_of a.0.now a.1.0.now a.1.1.0.now t.1.1.0.now (paper r) p.0 refl p.1

pub seals : (κ : _) (a : _) (r : _) (t : _) → seal.Post κ a r t → Writing (λ v. paper r ≡ v) trailer_of a.0.now a.1.0.now a.1.1.0.now t.1.1.0.now
seals κ a r t p = writings (λ v. paper r ≡ v) trailer_of a.0.now a.1.0.now a.1.1.0.now t.1.1.0.now (paper r) p.0 refl p.1

pub writes_c : (κ : _) (a : _) (r : _) (t : _) → hsd_write.Post κ a r t → Writing (λ v. r ≡ shown_ruling v) reel_of a.0.now a.1.0.now a.1.1.0.now t.1.1.0.now
writes_c κ a r t p = writings (λ v. r ≡ shown_ruling v) reel_of a.0.now a.1.0.now a.1.1.0.now t.1.1.0.now _ refl p.0 p.1

pub seals_c : (κ : _) (a : _) (r : _) (t : _) → hsd_seal.Post κ a r t → Writing (λ v. r ≡ shown_ruling v) trailer_of a.0.now a.1.0.now a.1.1.0.now t.1.1.0.now
seals_c κ a r t p = writings (λ v. r ≡ shown_ruling v) trailer_of a.0.now a.1.0.now a.1.1.0.now t.1.1.0.now _ refl p.0 p.1

-- how long the trailer of so many files is; none has no files or more than 255
trailer_long : (fs : List File) → Fits fs → trailer_length (length fs) ≡ length (trailer_of fs)
unfolding trailer_of
trailer_long fs f =
    sym
    (length-append (entries 0 (map length fs)) (ending (length fs) (length (join fs)))
    ∙ rw (length_entries 0 (map length fs), length_all fs) (length_some (length fs) (length (join fs)) f.some f.few))

pub trailer : (κ : _) (a : _) (r : _) (t : _) → trailer_length_reads.Post κ a r t → (fs : List File) → Fits fs → a.0 ≡ length fs → r ≡ length (trailer_of fs)
trailer κ a r t p fs f e = p ∙ rw e (trailer_long fs f)

pub trailer_c : (κ : _) (a : _) (r : _) (t : _) → hsd_trailer.Post κ a r t → (fs : List File) → Fits fs → a.0 ≡ length fs → r ≡ length (trailer_of fs)
trailer_c κ a r t p fs f e = p ∙ rw e (trailer_long fs f)

pub no_trailer_c : (κ : _) (a : _) (r : _) (t : _) → hsd_trailer.Post κ a r t → (a.0 ≡ 0 → r ≡ 0) × (255 < a.0 → r ≡ 0)
no_trailer_c κ a r t p = (λ e. p ∙ sym (length_none a.0 (omega arith)), λ h. p ∙ sym (length_many a.0 (omega arith) h))

-- ---- the same files: writing a list and opening the reel gives them back, each by its number

-- s is what a call that was fine left of the list fs
module _ {files lengths s : List ℕ} (w : Reel s (listed files lengths)) (fs : List File) (h : Handed files lengths fs) where
  back : Reel s fs
  back = subst (λ (l : List File). Reel s l) (handed_listed h) w

  number_is : (κ : _) (a : _) (r : _) (t : _) → opening.Post κ a r t → a.0.now ≡ s → r ≡ Ok (length fs)
  number_is κ a r t p e = reply_one r (Ok (length fs)) (p ∙ ap opened e ∙ opened_good back)

  number_is_c : (κ : _) (a : _) (r : _) (t : _) → hsd_open.Post κ a r t → a.0.now ≡ s → r ≡ record { refusal = 0; block = 0; files = length fs; offset = 0 }
  unfolding shown_reel
  number_is_c κ a r t p e = p ∙ ap (λ (l : List ℕ). shown_reel (opened l)) e ∙ ap shown_reel (opened_good back)

module _ (κ : _) (a : _) (t : _) (p : write.Post κ a (Ok tt) t) (fs : List File) (h : Handed a.0.now a.1.0.now fs) where
  written_reel : Reel (front a.0.now a.1.0.now t.1.1.0.now) (listed a.0.now a.1.0.now)
  written_reel = rw p.1 (front_reel a.0.now a.1.0.now a.1.1.0.now (sym p.0))

  pub same_number : (κ' : _) (b : _) (r : _) (u : _) → opening.Post κ' b r u → b.0.now ≡ front a.0.now a.1.0.now t.1.1.0.now → r ≡ Ok (length fs)
  same_number = number_is written_reel fs h

  pub same_files : (κ' : _) (b : _) (r : _) (u : _) → file_of_reads.Post κ' b r u → b.0.now ≡ front a.0.now a.1.0.now t.1.1.0.now
      → 1 ≤ b.1.0 → b.1.0 ≤ length fs → r.now ≡ get_or fs (b.1.0 - 1) []
  same_files = file (back written_reel fs h).laid

module _ (κ : _) (a : _) (t : _) (p : seal.Post κ a (Ok tt) t) (fs : List File) (h : Handed a.0.now a.1.0.now fs) where
  seals_reel : Reel (sealed a.0.now a.1.0.now t.1.1.0.now) (listed a.0.now a.1.0.now)
  seals_reel = rw p.1 (sealed_reel a.0.now a.1.0.now a.1.1.0.now (sym p.0))

  pub sealed_number : (κ' : _) (b : _) (r : _) (u : _) → opening.Post κ' b r u → b.0.now ≡ sealed a.0.now a.1.0.now t.1.1.0.now → r ≡ Ok (length fs)
  sealed_number = number_is seals_reel fs h

  pub sealed_files : (κ' : _) (b : _) (r : _) (u : _) → file_of_reads.Post κ' b r u → b.0.now ≡ sealed a.0.now a.1.0.now t.1.1.0.now
      → 1 ≤ b.1.0 → b.1.0 ≤ length fs → r.now ≡ get_or fs (b.1.0 - 1) []
  sealed_files = file (back seals_reel fs h).laid

-- ---- the same from C: a call that shows no refusal, and then the parts by their numbers

in_wrote : (s ls bs out : List ℕ) (u : Turned) → wrote s ls bs out ≡ refused u → allowed u ≡ true
in_wrote s ls bs out u e = refused_in (writing s ls (length bs) (length out)) (in_writing s ls (length bs) (length out)) u e

module _ (κ : _) (a : _) (x : _) (t : _) (p : hsd_write.Post κ a x t) (z : x.refusal ≡ 0) (fs : List File) (h : Handed a.0.now a.1.0.now fs) where
  written_reel_c : Reel (front a.0.now a.1.0.now t.1.1.0.now) (listed a.0.now a.1.0.now)
  written_reel_c =
      let s = a.0.now in
      let ls = a.1.0.now in
      let bs = reel_of (listed s ls) in
      let f = shown_fine (wrote s ls bs a.1.1.0.now) (in_wrote s ls bs a.1.1.0.now) (sym (ap (λ (y : HsdAnswer). y.refusal) p.0) ∙ z) in
      rw p.1 (front_reel a.0.now a.1.0.now a.1.1.0.now f)

  pub same_number_c : (κ' : _) (b : _) (r : _) (u : _) → hsd_open.Post κ' b r u → b.0.now ≡ front a.0.now a.1.0.now t.1.1.0.now
      → r ≡ record { refusal = 0; block = 0; files = length fs; offset = 0 }
  same_number_c = number_is_c written_reel_c fs h

  pub same_files_c : (κ' : _) (b : _) (r : _) (u : _) → hsd_part.Post κ' b r u → b.0.now ≡ front a.0.now a.1.0.now t.1.1.0.now
      → 1 ≤ b.1.0 → b.1.0 ≤ length fs
      → (r.offset + r.length ≤ length (front a.0.now a.1.0.now t.1.1.0.now))
      × (take r.length (drop r.offset (front a.0.now a.1.0.now t.1.1.0.now)) ≡ get_or fs (b.1.0 - 1) [])
  same_files_c = part_c (back written_reel_c fs h).laid

module _ (κ : _) (a : _) (x : _) (t : _) (p : hsd_seal.Post κ a x t) (z : x.refusal ≡ 0) (fs : List File) (h : Handed a.0.now a.1.0.now fs) where
  sealed_reel_c : Reel (sealed a.0.now a.1.0.now t.1.1.0.now) (listed a.0.now a.1.0.now)
  sealed_reel_c =
      let s = a.0.now in
      let ls = a.1.0.now in
      let bs = trailer_of (listed s ls) in
      let f = shown_fine (wrote s ls bs a.1.1.0.now) (in_wrote s ls bs a.1.1.0.now) (sym (ap (λ (y : HsdAnswer). y.refusal) p.0) ∙ z) in
      rw p.1 (sealed_reel a.0.now a.1.0.now a.1.1.0.now f)

  pub sealed_number_c : (κ' : _) (b : _) (r : _) (u : _) → hsd_open.Post κ' b r u → b.0.now ≡ sealed a.0.now a.1.0.now t.1.1.0.now
      → r ≡ record { refusal = 0; block = 0; files = length fs; offset = 0 }
  sealed_number_c = number_is_c sealed_reel_c fs h

  pub sealed_files_c : (κ' : _) (b : _) (r : _) (u : _) → hsd_part.Post κ' b r u → b.0.now ≡ sealed a.0.now a.1.0.now t.1.1.0.now
      → 1 ≤ b.1.0 → b.1.0 ≤ length fs
      → (r.offset + r.length ≤ length (sealed a.0.now a.1.0.now t.1.1.0.now))
      × (take r.length (drop r.offset (sealed a.0.now a.1.0.now t.1.1.0.now)) ≡ get_or fs (b.1.0 - 1) [])
  sealed_files_c = part_c (back sealed_reel_c fs h).laid

-- ---- the trailer, byte for byte: two files, of 1,523 and of 70,000 bytes

joined : (f g : File) → length (join (f ∷ g ∷ [])) ≡ length f + length g
unfolding join
joined f g = length-append f (g ++ []) ∙ rw (append-nil g)

pub by_the_byte : (f g : File) → length f ≡ 1523 → length g ≡ 70000
    → trailer_of (f ∷ g ∷ []) ≡ 0 ∷ 0 ∷ 0 ∷ 0 ∷ 243 ∷ 5 ∷ 0 ∷ 0 ∷ 243 ∷ 5 ∷ 0 ∷ 0 ∷ 112 ∷ 17 ∷ 1 ∷ 0 ∷ 2 ∷ 99 ∷ 23 ∷ 1 ∷ 0 ∷ 82 ∷ 69 ∷ 69 ∷ 76 ∷ []
unfolding trailer_of entries ending digits lows
by_the_byte f g m n = rw (joined f g, m, n)
