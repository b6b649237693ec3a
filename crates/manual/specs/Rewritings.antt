-- Why the rewritings of sums and differences keep the value, over the width w: constants are added, subtracted and negated at 64
-- bits and cut to w, and each branch of a sign test is right whatever the sign. Assumes nothing.
use Rattle.std.specs.Prelude.{◌≡◌, Bool, true, false, cond, ℕ, ◌+◌, ◌-◌, ◌%◌, ◌^◌, ◌≤◌, ◌<◌}
use Rattle.std.proofs.Common.{mod-lt, arith, pow_pos}
use Rattle.manual.specs.Operations.{int_add, int_sub, int_2comp, negative64, amount64}
use Rattle.manual.specs.Modulo.{Congruent, same_remainder, remainder, difference, chained, narrowed}
use Rattle.manual.specs.Cuts.{wide, wide_difference}

module _ (w : ℕ) (small : w ≤ 64) where
  cut_sum : (a b : ℕ) → Congruent (2 ^ w) (int_add 64 a b % 2 ^ w) (a + b)
  cut_sum a b = chained (2 ^ w) (remainder (2 ^ w) (int_add 64 a b)) (narrowed small (remainder (2 ^ 64) (a + b)))

  cut_difference : (a b : ℕ) → b < 2 ^ 64 → Congruent (2 ^ w) (int_sub 64 a b % 2 ^ w + b) a
  cut_difference a b h =
      let c = remainder (2 ^ w) (int_sub 64 a b) in
      let d = wide_difference w small a b h in
      record { left = c.left + d.left; right = c.right + d.right; equal = omega (arith, c.equal, d.equal) }

  -- the negation of a difference of constants
  cut_opposite : (a b : ℕ) → b < 2 ^ 64 → Congruent (2 ^ w) (int_2comp 64 (int_sub 64 a b) % 2 ^ w + a) b
  cut_opposite a b h =
      let c = cut_difference 0 (int_sub 64 a b) (mod-lt (a + (2 ^ 64 - b)) (pow_pos 64)) in
      let d = wide_difference w small a b h in
      record { left = c.left + d.right; right = c.right + d.left; equal = omega (arith, c.equal, d.equal) }

  -- e - b = e + (-b)
  pub subtract_is_add : (e b : ℕ) → b < 2 ^ w → int_sub w e b ≡ int_add w e (int_2comp 64 b % 2 ^ w)
  subtract_is_add e b h =
      let c = cut_difference 0 b (wide w small h) in
      same_remainder (2 ^ w) (record { left = c.right; right = c.left + 1; equal = omega (arith, c.equal) })

  module _ (e a b : ℕ) (fit_a : a < 2 ^ w) (fit_b : b < 2 ^ w) where
    -- (e + a) + b = e + (a + b)
    pub add_add : int_add w (int_add w e a) b ≡ int_add w e (int_add 64 a b % 2 ^ w)
    add_add =
        let x = remainder (2 ^ w) (e + a) in
        let c = cut_sum a b in
        same_remainder (2 ^ w)
        (record { left = x.left + c.right; right = x.right + c.left; equal = omega (arith, x.equal, c.equal) })

    -- (e - a) + b = e - (a - b)
    pub sub_add : int_add w (int_sub w e a) b ≡ int_sub w e (int_sub 64 a b % 2 ^ w)
    sub_add =
        let x = difference (2 ^ w) e a (omega arith) in
        let c = cut_difference a b (wide w small fit_b) in
        same_remainder (2 ^ w)
        (record {
          left = x.left + c.left + 1;
          right = x.right + c.right;
          equal = omega (arith, x.equal, c.equal, mod-lt (int_sub 64 a b) (pow_pos w));
        })

    -- (e - a) + b = e + (-(a - b))
    pub sub_add_negated : int_add w (int_sub w e a) b ≡ int_add w e (int_2comp 64 (int_sub 64 a b) % 2 ^ w)
    sub_add_negated =
        let x = difference (2 ^ w) e a (omega arith) in
        let c = cut_opposite a b (wide w small fit_b) in
        same_remainder (2 ^ w)
        (record { left = x.left + c.right; right = x.right + c.left; equal = omega (arith, x.equal, c.equal) })

    -- (e + a) - b = e + (a - b)
    pub add_sub : int_sub w (int_add w e a) b ≡ int_add w e (int_sub 64 a b % 2 ^ w)
    add_sub =
        let x = remainder (2 ^ w) (e + a) in
        let c = cut_difference a b (wide w small fit_b) in
        same_remainder (2 ^ w)
        (record { left = x.left + c.right; right = x.right + c.left + 1; equal = omega (arith, x.equal, c.equal) })

    -- (e + a) - b = e - (-(a - b))
    pub add_sub_negated : int_sub w (int_add w e a) b ≡ int_sub w e (int_2comp 64 (int_sub 64 a b) % 2 ^ w)
    add_sub_negated =
        let x = remainder (2 ^ w) (e + a) in
        let c = cut_opposite a b (wide w small fit_b) in
        same_remainder (2 ^ w)
        (record {
          left = x.left + c.left;
          right = x.right + c.right;
          equal = omega (arith, x.equal, c.equal, mod-lt (int_2comp 64 (int_sub 64 a b)) (pow_pos w));
        })

    -- (e - a) - b = e - (a + b)
    pub sub_sub : int_sub w (int_sub w e a) b ≡ int_sub w e (int_add 64 a b % 2 ^ w)
    sub_sub =
        let x = difference (2 ^ w) e a (omega arith) in
        let c = cut_sum a b in
        same_remainder (2 ^ w)
        (record {
          left = x.left + c.left;
          right = x.right + c.right;
          equal = omega (arith, x.equal, c.equal, mod-lt (int_add 64 a b) (pow_pos w));
        })

    -- the sign of a - b as an i64 chooses between the two; the new constant is the amount
    pub sub_add_by_sign :
        (t : Bool) → negative64 (int_sub 64 a b) ≡ t →
        int_add w (int_sub w e a) b
        ≡ cond t (int_add w e (amount64 (int_sub 64 a b) % 2 ^ w)) (int_sub w e (amount64 (int_sub 64 a b) % 2 ^ w))
    sub_add_by_sign true s = rw s sub_add_negated
    sub_add_by_sign false s = rw s sub_add

    pub add_sub_by_sign :
        (t : Bool) → negative64 (int_sub 64 a b) ≡ t →
        int_sub w (int_add w e a) b
        ≡ cond t (int_sub w e (amount64 (int_sub 64 a b) % 2 ^ w)) (int_add w e (amount64 (int_sub 64 a b) % 2 ^ w))
    add_sub_by_sign true s = rw s add_sub_negated
    add_sub_by_sign false s = rw s add_sub
