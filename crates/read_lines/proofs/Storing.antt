-- A row that is stored in the table: its five numbers, and every number before it as it was.
use Prim.Native.Nat.{ℕ, zero, suc, ◌+◌, ◌*◌, ◌<◌, ◌≤◌}
use native.Mathlib.Nat.{add-zero, add-suc, suc-add}
use native.Mathlib.Numerals.{add-one, add-two, add-three, add-four}
use native.Mathlib.Omega.{arith}
use mathlib.Core.Path.{◌≡◌, refl, sym, ap, ap₂, ◌∙◌, subst}
use mathlib.Core.Bool.{true, false, cond}
use mathlib.Core.Logic.{◌⊎◌, inl, inr}
use mathlib.Core.List.{List, [], ◌∷◌}
use lib.Dec.{ltb}
use lib.ListN.{length, get_or, set, length-set}
use lib.Seq.{sets, get_or-set_same, get_or-set_other}
use borrow.Author.Tests.{ltb-true}
use Rattle.limits.specs.Limits.{max_lines, table_length, row_width}
use Rattle.format.specs.Lines.{Row}
use Rattle.format.specs.Table.{numbers}
use Rattle.calculus.proofs.Basic.{bool_cases}
use Rattle.table_trees.specs.Unfolding.{cell_of}
use Rattle.table_trees.proofs.Unfolding.{cell_within}

-- ---- five stores

-- each is within a table that is long enough
pub in_row : (t : List ℕ) (n k : ℕ) → table_length ≤ length t → n < max_lines → k < row_width → n * row_width + k < length t
in_row t n k w h l = omega arith

pub stored :
    (t : List ℕ) (b : ℕ) {t₁ t₂ t₃ t₄ t₅ : List ℕ} {w x y z v l p q r m : ℕ} →
    t₁ ≡ set t b w →
    w ≡ l →
    t₂ ≡ set t₁ (b + 1) x →
    x ≡ p →
    t₃ ≡ set t₂ (b + 2) y →
    y ≡ q →
    t₄ ≡ set t₃ (b + 3) z →
    z ≡ r →
    t₅ ≡ set t₄ (b + 4) v →
    v ≡ m →
    t₅ ≡ sets t b (l ∷ p ∷ q ∷ r ∷ m ∷ [])
stored t b {t₁} {t₂} {t₃} {t₄} {t₅} {w} {x} {y} {z} {v} {l} {p} {q} {r} {m} e₁ f₁ e₂ f₂ e₃ f₃ e₄ f₄ e₅ f₅ =
    e₅
    ∙ ap₂ (λ i a. set t₄ i a) (add-four b) f₅
    ∙ ap (λ u. set u (suc (suc (suc (suc b)))) m)
    (e₄
    ∙ ap₂ (λ i a. set t₃ i a) (add-three b) f₄
    ∙ ap (λ u. set u (suc (suc (suc b))) r)
    (e₃
    ∙ ap₂ (λ i a. set t₂ i a) (add-two b) f₃
    ∙ ap (λ u. set u (suc (suc b)) q)
    (e₂ ∙ ap₂ (λ i a. set t₁ i a) (add-one b) f₂ ∙ ap (λ u. set u (suc b) p) (e₁ ∙ ap (set t b) f₁))))

-- ---- what a run of stores leaves

-- before the run, every number as it was
pub before_run : (vs l : List ℕ) (at i : ℕ) → i < at → get_or (sets l at vs) i 0 ≡ get_or l i 0
before_run [] l at i h = refl
before_run (v ∷ vs) l at i h = before_run vs (set l at v) (suc at) i (omega arith) ∙ get_or-set_other l at i v 0 (λ e. omega arith)

-- in the run, the numbers stored
pub in_run : (vs l : List ℕ) (at i : ℕ) → i < length vs → at + length vs ≤ length l → get_or (sets l at vs) (at + i) 0 ≡ get_or vs i 0
in_run [] l at i h w = absurd (omega arith)
in_run (v ∷ vs) l at zero h w =
    ap (λ k. get_or (sets (set l at v) (suc at) vs) k 0) (add-zero at)
    ∙ before_run vs (set l at v) (suc at) at (omega arith)
    ∙ get_or-set_same l at v 0 (omega arith)
in_run (v ∷ vs) l at (suc i) h w =
    ap (λ k. get_or (sets (set l at v) (suc at) vs) k 0) (add-suc at i ∙ sym (suc-add at i))
    ∙ in_run vs (set l at v) (suc at) i (omega arith) (subst (λ k. suc at + length vs ≤ k) (sym (length-set l at v)) (omega arith))

-- ---- rows

module _ (t t' : List ℕ) (n : ℕ) (r : Row) (size : ℕ) (e : t' ≡ sets t (n * row_width) (numbers r size)) where
  -- the rows before row n are as they were
  pub rows_before : (row k : ℕ) → row < n → cell_of t' row k ≡ cell_of t row k
  rows_before row k h = go (bool_cases (ltb k row_width))
    where
      same : k < row_width → get_or t' (row * row_width + k) 0 ≡ get_or t (row * row_width + k) 0
      same l = ap (λ u. get_or u (row * row_width + k) 0) e ∙ before_run (numbers r size) t (n * row_width) (row * row_width + k) (omega arith)

      go : (ltb k row_width ≡ true) ⊎ (ltb k row_width ≡ false) → cell_of t' row k ≡ cell_of t row k
      go (inl b) = ap (λ x. cond (ltb row max_lines) (cond (ltb k row_width) x 0) 0) (same (ltb-true k row_width b))
      go (inr b) = rw b

  -- row n holds the stored numbers
  pub row_stored : (k : ℕ) → n < max_lines → n * row_width + row_width ≤ length t → k < row_width → cell_of t' n k ≡ get_or (numbers r size) k 0
  row_stored k h w l =
      cell_within t' n k h l ∙ ap (λ u. get_or u (n * row_width + k) 0) e ∙ in_run (numbers r size) t (n * row_width) k l w
