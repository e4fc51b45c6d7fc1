-- The numbers behind an index's, as a part of its area.
use Prim.Native.Nat.{ℕ, ◌-◌, ◌≤◌, ◌<◌}
use native.Mathlib.Omega.{arith}
use mathlib.Core.Path.{◌≡◌, sym, ap, ◌∙◌, subst}
use mathlib.Core.List.{List, [], ◌++◌, append-nil}
use lib.ListN.{length, take, drop, drop_of_length-le, length-drop}
use lib.Seq.{take_all, drop_at, length-take-le}
use borrow.Rule.Slice.PartMut.{mid_of, post_of, put_mid}
use Rattle.run_index.specs.Index.{index_length}
use Rattle.run_coding.specs.Coded.{Coded}

-- the part from a place on
pub rest_part : (n : ℕ) (index : List ℕ) → mid_of n (length index - n) index ≡ drop n index
rest_part n index = let k = length-drop n index in take_all (length index - n) (drop n index) (omega (arith, k))

-- a shorter area has none
pub none_behind : (index : List ℕ) → length index < index_length → mid_of (length index) (length index - length index) index ≡ drop index_length index
none_behind index h =
    let far : length index ≤ index_length = omega arith in
    let here : length index ≤ length index = omega arith in
    rest_part (length index) index ∙ drop_of_length-le index here ∙ sym (drop_of_length-le index far)

-- the part written: all behind the index
pub part_written : (index code : List ℕ) → index_length ≤ length index → drop index_length (put_mid index_length (length index - index_length) index code) ≡ code ++ post_of index_length
    (length index - index_length) index
part_written index code h = drop_at (take index_length index) (code ++ post_of index_length (length index - index_length) index) index_length (length-take-le index_length index h)

nothing_behind : (index : List ℕ) → post_of index_length (length index - index_length) index ≡ []
nothing_behind index =
    let k = length-drop index_length index in let far : length (drop index_length index) ≤ length index - index_length = omega (arith, k) in drop_of_length-le (drop index_length index) far

pub coded_behind : (t : List ℕ) (base : ℕ) (index code index₂ : List ℕ) → Coded t base code → index_length ≤ length index
    → drop index_length index₂ ≡ drop index_length (put_mid index_length (length index - index_length) index code) → Coded t base (drop index_length index₂)
coded_behind t base index code index₂ c long e =
    subst (Coded t base) (sym (e ∙ part_written index code long ∙ ap (λ x. code ++ x) (nothing_behind index) ∙ append-nil code)) c
