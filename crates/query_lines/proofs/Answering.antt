-- The lines that answer: bytes, numbers and fields written one after the other.
use Prim.Native.Nat.{ℕ, suc, ◌+◌, ◌<◌, ◌≤◌}
use native.Mathlib.Numerals.{add-one}
use native.Mathlib.Omega.{arith}
use mathlib.Core.Path.{◌≡◌, sym, ap, ap₂, ◌∙◌}
use mathlib.Core.Bool.{cond}
use mathlib.Core.Option.{none}
use mathlib.Core.List.{List, [], ◌∷◌, ◌++◌, append_assoc}
use lib.Dec.{ltb}
use lib.ListN.{length, get_or, take, set}
use lib.Seq.{take-suc, take_all}
use Rattle.limits.specs.Limits.{line_feed, comma, numeral_bound}
use Rattle.format.specs.Lines.{decimal, print_field}
use Rattle.model.specs.Desk.{query_line, file_line}
use Rattle.area_cells.specs.Areas.{Prints}
use Rattle.area_cells.proofs.Writing.{prints_none, prints_one, prints_both, prints_as}

-- what the loop that copies knows: the first i bytes are written
pub record Copied (s l l' : List ℕ) (at end i : ℕ) : Type 0 where
  pub written : Prints l l' at end (take i s)

-- nothing is copied yet
pub copied_start : (s l : List ℕ) (at : ℕ) → Copied s l l at at 0
copied_start s l at = record { written = prints_none l at }

module _ {s l l' : List ℕ} {at end i : ℕ} (c : Copied s l l' at end i) where
  -- one byte more
  pub copied_step :
      {l'' : List ℕ} {b end' : ℕ}
      → i < length s
      → b ≡ get_or s i 0
      → l'' ≡ set l' end b
      → end' ≡ cond (ltb end (length l')) (suc end) end
      → Copied s l l'' at end' (i + 1)
  copied_step {l''} {b} {end'} h e p q =
      let bytes : take i s ++ (b ∷ []) ≡ take (i + 1) s =
      ap (λ x. take i s ++ (x ∷ [])) e ∙ sym (take-suc s i 0 h) ∙ ap (λ n. take n s) (sym (add-one i)) in
      record { written = prints_as bytes (prints_both c.written (prints_one p q)) }

  -- all of them
  pub copied_all : length s ≤ i → Prints l l' at end s
  copied_all h = prints_as (take_all i s h) c.written

-- ---- the lines

-- `number,line`
pub file_line_lem :
    {l l₁ l₂ l₃ : List ℕ} {at a b end n : ℕ} (number line : ℕ)
    → n ≡ number
    → n < 256
    → (n < numeral_bound → Prints l l₁ at a (decimal n))
    → Prints l₁ l₂ a b (print_field line)
    → l₃ ≡ set l₂ b line_feed
    → end ≡ cond (ltb b (length l₂)) (suc b) b
    → Prints l l₃ at end (file_line (record { number = number; line = line }))
file_line_lem {n = n} number line e h w u p q =
    prints_as
    (append_assoc (decimal n) (print_field line) (line_feed ∷ []) ∙ ap (λ k. decimal k ++ (comma ∷ (decimal line ++ (line_feed ∷ [])))) e)
    (prints_both (prints_both (w (omega arith)) u) (prints_one p q))

-- `number,count,letters`
pub query_line_lem :
    {l l₁ l₂ l₃ l₄ l₅ : List ℕ} {at a b c d end n k : ℕ} (number count : ℕ) (letters : List ℕ)
    → n ≡ number
    → n < 256
    → k ≡ count
    → k < 4294967296
    → (n < numeral_bound → Prints l l₁ at a (decimal n))
    → (k < numeral_bound → Prints l₁ l₂ a b (print_field k))
    → l₃ ≡ set l₂ b comma
    → c ≡ cond (ltb b (length l₂)) (suc b) b
    → Prints l₃ l₄ c d letters
    → l₅ ≡ set l₄ d line_feed
    → end ≡ cond (ltb d (length l₄)) (suc d) d
    → Prints l l₅ at end (query_line (record { refusal = none; number = number; count = count; letters = letters }))
query_line_lem {n = n} {k = k} number count letters e h f i w u p q v r s =
    let tail : List ℕ = comma ∷ (letters ++ (line_feed ∷ [])) in
    let parts : ((decimal n ++ print_field k) ++ ((comma ∷ []) ++ (letters ++ (line_feed ∷ [])))) ≡ decimal n ++ (comma ∷ (decimal k ++ tail)) =
    append_assoc (decimal n) (print_field k) tail in
    prints_as
    (parts ∙ ap₂ (λ x y. decimal x ++ (comma ∷ (decimal y ++ tail))) e f)
    (prints_both (prints_both (w (omega arith)) (u (omega arith))) (prints_both (prints_one p q) (prints_both v (prints_one r s))))
