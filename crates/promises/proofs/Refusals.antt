-- Laws of refusals: they are the paper's table's, and what is lent stays as it was.
-- Assumes nothing.
use Rattle.std.proofs.Common.{◌≡◌, refl, sym, ap, ◌∙◌, Bool, true, false, not, cond, ◌&&◌, ◌||◌, List, [], ◌∷◌, ◌++◌, ℕ, arith, eqb, leb, eqb-true, length, drop, ℤ, pos, Option, Some, None, Result, Ok, Err}
use Rattle.std.proofs.Math.Bool.{and-eq-true_iff, or-true}
use Rattle.rules.specs.Rules.{Turned, turned, Row, test, Ruling, fine, refused, judge, after, Reply, says, refuses, reply, paper_reply}
use Rattle.rules.specs.declared.Refusal.{Refusal}
use Rattle.rules.proofs.Paper.{refusal_of, refusal_paper}
use Rattle.rules.proofs.Judge.{judge_refused, turned_away}
use Rattle.accept.specs.declared.Facts.{Facts}
use Rattle.plugin.specs.declared.HsdFile.{HsdFile}
use Rattle.plugin.specs.declared.HsdFrameNumber.{HsdFrameNumber}
use Rattle.plugin.specs.Plugin.{shown_ruling, shown_file, shown_frame}
use Rattle.slate.specs.declared.Difference.{Difference}
use Rattle.plugin_frames.specs.Strips.{copied_of, copy_of}
use Rattle.plugin_frames.specs.declared.HsdWhy.{HsdWhy}
use Rattle.plugin_frames.specs.Reasons.{shown_reason}
use Rattle.plugin_reels.specs.declared.HsdReel.{HsdReel}
use Rattle.plugin_reels.specs.Reels.{shown_reel}
use Rattle.promises.specs.Bare.{Bare}
use Rattle.promises.specs.Blocks.{table, listed, allowed, allowed_c, in_table, Onward}

-- the paper's words tell replies apart
abbrev reply_as : {A : Type 0} → Reply A → Result A Refusal
reply_as (says a) = Ok a
reply_as (refuses t) = Err (refusal_of t)

reply_back : {A : Type 0} (r : Result A Refusal) → reply_as (paper_reply r) ≡ r
reply_back (Ok a) = refl
reply_back (Err t) = ap Err (refusal_paper t)

pub reply_one : {A : Type 0} (x y : Result A Refusal) → paper_reply x ≡ paper_reply y → x ≡ y
reply_one x y e = sym (reply_back x) ∙ ap reply_as e ∙ reply_back y

same_turned : (t u : Turned) → refused t ≡ refused u → t ≡ u
same_turned t u e = cc

-- what a table refuses is one of its rows' refusals
pub refused_in : (rs : List Row) → in_table rs ≡ true → (t : Turned) → judge fine rs ≡ refused t → allowed t ≡ true
unfolding in_table
refused_in [] h t e = absurd (let z : ◌≡◌ {A = ℕ} 0 1 = cc in omega arith)
refused_in (test true u ∷ rs) h t e = refused_in rs ((and-eq-true_iff (allowed u) (in_table rs)).0 h).1 t e
refused_in (test false u ∷ rs) h t e =
    let q : u ≡ t = same_turned u t (sym (judge_refused u rs) ∙ e) in
    rw (← q) ((and-eq-true_iff (allowed u) (in_table rs)).0 h).0

-- the same of an answer that carries a value
pub refuses_in : {A : Type 0} (rs : List Row) → in_table rs ≡ true → (x : A) (t : Turned) → reply (judge fine rs) x ≡ refuses t → allowed t ≡ true
refuses_in rs h x t e = refused_in rs h t (turned_away (judge fine rs) x t e)

pub in_append : (xs ys : List Row) → in_table xs ≡ true → in_table ys ≡ true → in_table (xs ++ ys) ≡ true
unfolding in_table
in_append [] ys h k = k
in_append (test ok t ∷ xs) ys h k =
    let e = (and-eq-true_iff (allowed t) (in_table xs)).0 h in
    rw e.0 (in_append xs ys e.1 k)

-- what a refusal leaves
pub left : {A : Type 0} (r : Ruling) (t : Turned) (old new : A) → r ≡ refused t → after r old new ≡ old
unfolding after
left r t old new e = rw e

-- checks on top of what was checked before, whose ruling is v: `?` hands on what was refused, and else the checks answer
pub onward : (rs : List Row) → in_table rs ≡ true → {r : Ruling} → r ≡ judge fine rs → (v : Ruling) → Onward v (after v v r)
unfolding after
onward rs h e fine = record {
  kept = λ u q. absurd (let z : ◌≡◌ {A = ℕ} 0 1 = cc in omega arith);
  new = λ q u f. refused_in rs h u (sym e ∙ f);
}
onward rs h e (refused t) = record {
  kept = λ u q. q;
  new = λ q u f. absurd (let z : ◌≡◌ {A = ℕ} 0 1 = cc in omega arith);
}

-- ---- in C's numbers

pub shown_allowed : (rs : List Row) → in_table rs ≡ true → (v : Ruling) → v ≡ judge fine rs → allowed_c (shown_ruling v).refusal (shown_ruling v).block (shown_ruling v).offset ≡ true
unfolding shown_ruling
shown_allowed rs h fine e = refl
shown_allowed rs h (refused (turned n b p)) e = rw (refused_in rs h (turned n b p) (sym e)) (or-true (eqb n 0))

pub shown_left : {A : Type 0} (v : Ruling) (old new : A) → ((shown_ruling v).refusal ≡ 0 → ⊥) → after v old new ≡ old
unfolding shown_ruling after
shown_left fine old new h = absurd (h refl)
shown_left (refused t) old new h = refl

-- where no count is copied, none is changed
pub none_left : (line out : List ℕ) → copied_of line out ≡ 0 → copy_of line out ≡ out
none_left [] out e = go (leb 0 (length out))
  where
    go : (b : Bool) → cond b ([] ++ drop 0 out) out ≡ out
    go true = refl
    go false = refl
none_left (x ∷ line) out e = go (leb (length (x ∷ line)) (length out)) e
  where
    go : (b : Bool) → cond b (length (x ∷ line)) 0 ≡ 0 → cond b ((x ∷ line) ++ drop (length (x ∷ line)) out) out ≡ out
    go true h = absurd (omega arith)
    go false h = refl

-- what holds of every number of the table holds of one that is allowed
abbrev Numbers : (ℕ → Bool) → List (ℕ × List ℕ) → Bool
Numbers good [] = true
Numbers good (t ∷ ts) = good t.0 && Numbers good ts

in_list : (good : ℕ → Bool) (ts : List (ℕ × List ℕ)) (n b : ℕ) → Numbers good ts ≡ true → listed n b ts ≡ true → good n ≡ true
in_list good [] n b h e = absurd (let z : ◌≡◌ {A = ℕ} 0 1 = cc in omega arith)
in_list good (t ∷ ts) n b h e =
    let k = (and-eq-true_iff (good t.0) (Numbers good ts)).0 h in
    go (eqb n t.0) refl k.0 (λ q. in_list good ts n b k.1 (rw q at e))
  where
    go : (same : Bool) → eqb n t.0 ≡ same → good t.0 ≡ true → (eqb n t.0 ≡ false → good n ≡ true) → good n ≡ true
    go true q f r = rw (eqb-true n t.0 q) f
    go false q f r = r q

pub of_number : (good : ℕ → Bool) → Numbers good table ≡ true → (n b p : ℕ) → allowed (turned n b p) ≡ true → good n ≡ true
unfolding allowed
of_number good h n b p e = in_list good table n b h ((and-eq-true_iff (listed n b table) (not (eqb b 0) || eqb p 0)).0 e).0

-- what is shown of no refusal is none
pub none_fine : (n b p : ℕ) → allowed (turned n b p) ≡ true → n ≡ 0 → ⊥
none_fine n b p h e =
    let z : not (eqb 0 0) ≡ true = rw e at (of_number (λ k. not (eqb k 0)) refl n b p h) in
    let q : ◌≡◌ {A = ℕ} 0 1 = cc in
    omega arith

-- what is shown by a number that is not 0 is a refusal of that number
pub shown_number : (n : ℕ) → (n ≡ 0 → ⊥) → (v : Ruling) → (shown_ruling v).refusal ≡ n → ((b p : ℕ) → v ≡ refused (turned n b p) → ⊥) → ⊥
unfolding shown_ruling
shown_number n some fine e h = some (sym e)
shown_number n some (refused (turned m b p)) e h = h b p (ap (λ (k : ℕ). refused (turned k b p)) e)

-- ---- replies in C's numbers: a value has no refusal, and a refusal its three numbers

pub record Shows {A R : Type 0} (show : Reply A → R) (refusal block offset : R → ℕ) : Type 0 where
  pub value : (x : A) → refusal (show (says x)) ≡ 0
  pub number : (n b p : ℕ) → refusal (show (refuses (turned n b p))) ≡ n
  pub in_block : (n b p : ℕ) → block (show (refuses (turned n b p))) ≡ b
  pub at_offset : (n b p : ℕ) → offset (show (refuses (turned n b p))) ≡ p

module _ {A R : Type 0} {show : Reply A → R} {refusal block offset : R → ℕ} (c : Shows show refusal block offset) where
  pub reply_allowed : (rs : List Row) → in_table rs ≡ true → (v : Ruling) (x : A) → v ≡ judge fine rs → allowed_c (refusal (show (reply v x))) (block (show (reply v x))) (offset (show (reply v x))) ≡ true
  reply_allowed rs h fine x e = rw (c.value x)
  reply_allowed rs h (refused (turned n b p)) x e = rw (c.number n b p, c.in_block n b p, c.at_offset n b p, refused_in rs h (turned n b p) (sym e)) (or-true (eqb n 0))

  pub reply_fine : (rs : List Row) → in_table rs ≡ true → (v : Ruling) (x : A) → v ≡ judge fine rs → refusal (show (reply v x)) ≡ 0 → v ≡ fine
  reply_fine rs h fine x e z = refl
  reply_fine rs h (refused (turned n b p)) x e z = absurd (none_fine n b p (refused_in rs h (turned n b p) (sym e)) (sym (c.number n b p) ∙ z))

  pub reply_refused : (v : Ruling) (x : A) → (refusal (show (reply v x)) ≡ 0 → ⊥) → v ≡ refused (turned (refusal (show (reply v x))) (block (show (reply v x))) (offset (show (reply v x))))
  reply_refused fine x h = absurd (h (c.value x))
  reply_refused (refused (turned n b p)) x h = rw (c.number n b p, c.in_block n b p, c.at_offset n b p)

pub file_shows : Shows shown_file (λ (r : HsdFile). r.refusal) (λ (r : HsdFile). r.block) (λ (r : HsdFile). r.offset)
unfolding shown_file
file_shows = record { value = λ x. refl; number = λ n b p. refl; in_block = λ n b p. refl; at_offset = λ n b p. refl }

pub number_shows : Shows shown_frame (λ (r : HsdFrameNumber). r.refusal) (λ (r : HsdFrameNumber). r.block) (λ (r : HsdFrameNumber). r.offset)
unfolding shown_frame
number_shows = record { value = λ x. refl; number = λ n b p. refl; in_block = λ n b p. refl; at_offset = λ n b p. refl }

pub reel_shows : Shows shown_reel (λ (r : HsdReel). r.refusal) (λ (r : HsdReel). r.block) (λ (r : HsdReel). r.offset)
unfolding shown_reel
reel_shows = record { value = λ x. refl; number = λ n b p. refl; in_block = λ n b p. refl; at_offset = λ n b p. refl }

no_refusal : (x : Option Difference) → (shown_reason (says x)).refusal ≡ 0
unfolding shown_reason
no_refusal None = refl
no_refusal (Some d) = refl

pub why_shows : Shows shown_reason (λ (r : HsdWhy). r.refusal) (λ (r : HsdWhy). r.block) (λ (r : HsdWhy). r.offset)
unfolding shown_reason
why_shows = record { value = no_refusal; number = λ n b p. refl; in_block = λ n b p. refl; at_offset = λ n b p. refl }

-- ---- and a refusal shows nothing else

pub bare : (v : Ruling) (x : Facts) → ((shown_file (reply v x)).refusal ≡ 0 → ⊥) → Bare (shown_file (reply v x))
unfolding shown_file
bare fine x h = absurd (h refl)
bare (refused (turned n b p)) x h = record {
  satellite = refl;
  quality = refl;
  day = refl;
  timeline = refl;
  band = refl;
  area = refl;
  columns = refl;
  lines = refl;
  number = refl;
  total = refl;
  first_line = refl;
  valid_bits = refl;
  order = refl;
  header_length = refl;
  gain = refl;
  constant = refl;
}

pub no_number : (v : Ruling) (x : ℤ) → ((shown_frame (reply v x)).refusal ≡ 0 → ⊥) → (shown_frame (reply v x)).number ≡ pos 0
unfolding shown_frame
no_number fine x h = absurd (h refl)
no_number (refused (turned n b p)) x h = refl

pub no_files : (v : Ruling) (x : ℕ) → ((shown_reel (reply v x)).refusal ≡ 0 → ⊥) → (shown_reel (reply v x)).files ≡ 0
unfolding shown_reel
no_files fine x h = absurd (h refl)
no_files (refused (turned n b p)) x h = refl

pub no_part : (v : Ruling) (x : Option Difference) → ((shown_reason (reply v x)).refusal ≡ 0 → ⊥) → ((shown_reason (reply v x)).part ≡ 0) × ((shown_reason (reply v x)).slate ≡ 0) × ((shown_reason (reply v x)).file ≡ 0)
unfolding shown_reason
no_part fine None h = absurd (h refl)
no_part fine (Some d) h = absurd (h refl)
no_part (refused (turned n b p)) x h = (refl, refl, refl)
