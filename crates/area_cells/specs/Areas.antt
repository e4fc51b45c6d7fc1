-- What bytes written into an area leave.
use Rattle.std.specs.Prelude.{ℕ, ◌+◌, ◌-◌, ◌≤◌, min, ◌≡◌, List, length}
use Rattle.std.proofs.lemmas.List.Edits.{sets}

-- Bytes written from place `at` on, where they fit: the area then holds them, and `end` is the place behind them. Where they do not
-- fit, the area keeps its length.
pub record Writes (l l' : List ℕ) (at end : ℕ) (bs : List ℕ) : Type 0 where
  pub kept : length l' ≡ length l
  pub area : at + length bs ≤ length l → l' ≡ sets l at bs
  pub place : at + length bs ≤ length l → end ≡ at + length bs

-- Bytes printed from place `at` on, in an area of any length: those that fit are stored, those past its end are dropped, and `end` is the
-- place behind the last one stored, or `at` where none is.
pub record Prints (l l' : List ℕ) (at end : ℕ) (bs : List ℕ) : Type 0 where
  pub area : l' ≡ sets l at bs
  pub place : end ≡ at + min (length bs) (length l - at)
