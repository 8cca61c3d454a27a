-- What quality flag 1 says, in document 02's words and by document 000's bits: nothing here is taken from the function's own definition.
use Rattle.std.specs.Prelude.{ℕ, ◌+◌, Bool, cond}
use Rattle.reading.specs.declared.Mark.{Mark}
use Rattle.reading.specs.declared.Marks.{Marks}
use Rattle.plugin.specs.declared.HsdQuality.{HsdQuality}

-- one for each bit of the flag, the highest first
pub record Eight (A : Type 0) : Type 0 where
  pub invalid : A
  pub sun : A
  pub moon : A
  pub test : A
  pub manoeuvre : A
  pub unloading : A
  pub solar_calibration : A
  pub eclipse : A

-- the byte in which these bits are set
abbrev pub byte_of : Eight Bool → ℕ
byte_of b = cond b.invalid 128 0 + cond b.sun 64 0 + cond b.moon 32 0 + cond b.test 16 0
    + cond b.manoeuvre 8 0 + cond b.unloading 4 0 + cond b.solar_calibration 2 0 + cond b.eclipse 1 0

-- in three words, whatever they are: the top mark is always told; with its bit set the other seven are unknown, with it clear each is as its own bit stands
abbrev pub saying : {A : Type 0} (is_not is unknown : A) → Eight Bool → Eight A
saying {A} is_not is unknown b =
    let other : Bool → A = λ x. cond b.invalid unknown (cond x is is_not) in
    record {
      invalid = cond b.invalid is is_not;
      sun = other b.sun;
      moon = other b.moon;
      test = other b.test;
      manoeuvre = other b.manoeuvre;
      unloading = other b.unloading;
      solar_calibration = other b.solar_calibration;
      eclipse = other b.eclipse;
    }

abbrev pub eight_marks : Marks → Eight Mark
eight_marks m = record {
  invalid = m.invalid;
  sun = m.sun;
  moon = m.moon;
  test = m.test;
  manoeuvre = m.manoeuvre;
  unloading = m.unloading;
  solar_calibration = m.solar_calibration;
  eclipse = m.eclipse;
}

abbrev pub eight_numbers : HsdQuality → Eight ℕ
eight_numbers q = record {
  invalid = q.invalid;
  sun = q.sun;
  moon = q.moon;
  test = q.test;
  manoeuvre = q.manoeuvre;
  unloading = q.unloading;
  solar_calibration = q.solar_calibration;
  eclipse = q.eclipse;
}
