-- Counting adds up, and the order of what is counted does not matter: a value of one type and then one of another is a value of the other and then
-- one of the one, as far as the number of letters goes.
use Prim.Native.Nat.{ℕ, zero, suc, ◌+◌, ◌<◌, ◌≤◌}
use native.Mathlib.Nat.{le_refl}
use native.Mathlib.Omega.{arith}
use mathlib.Core.Path.{◌≡◌, refl, sym, ap, ap₂, ◌∙◌}
use Rattle.calculus.specs.Trees.{Ty, tunit, tlist, tsum, tprod}
use Rattle.fault_tallies.specs.Tallies.{shifted, again, more}

-- the same counts
abbrev pub Same : (ℕ → ℕ) → (ℕ → ℕ) → Type 0
Same W X = (r : ℕ) → W r ≡ X r

-- below n
abbrev Below : ℕ → (ℕ → ℕ) → (ℕ → ℕ) → Type 0
Below n W X = (r : ℕ) → r < n → W r ≡ X r

pub shift_same : {W X : ℕ → ℕ} → Same W X → Same (shifted W) (shifted X)
shift_same h zero = refl
shift_same h (suc r) = h r

-- ---- a value has at least one letter, so what is counted with r letters rests on what goes on with fewer

abbrev Local : ((ℕ → ℕ) → ℕ → ℕ) → Type 0
Local f = (n : ℕ) (W X : ℕ → ℕ) → Below n W X → (r : ℕ) → r ≤ n → f W r ≡ f X r

module _ (f : (ℕ → ℕ) → ℕ → ℕ) (loc : Local f) where
  again_local : (k : ℕ) → Local (λ W. again f W k)
  again_local zero n W X h r q = refl
  again_local (suc k) n W X h zero q = refl
  again_local (suc k) n W X h (suc r) q =
      ap₂ ◌+◌ (h r q) (loc r (again f W k) (again f X k) (λ s p. again_local k n W X h s (omega arith)) r (le_refl r))

  -- more rounds than letters change nothing
  again_enough : (W : ℕ → ℕ) (k j r : ℕ) → r < k → r < j → again f W k r ≡ again f W j r
  again_enough W zero j r p q = absurd (omega arith)
  again_enough W (suc k) zero r p q = absurd (omega arith)
  again_enough W (suc k) (suc j) zero p q = refl
  again_enough W (suc k) (suc j) (suc r) p q =
      ap (λ x. W r + x) (loc r (again f W k) (again f W j) (λ s z. again_enough W k j s (omega arith) (omega arith)) r (le_refl r))

more_local : (a : Ty) → Local (more a)
more_local tunit n W X h zero q = refl
more_local tunit n W X h (suc r) q = h r q
more_local (tlist a) n W X h r q = again_local (more a) (more_local a) (suc r) n W X h r q
more_local (tsum a b) n W X h zero q = refl
more_local (tsum a b) n W X h (suc r) q = ap₂ ◌+◌ (more_local a n W X h r (omega arith)) (more_local b n W X h r (omega arith))
more_local (tprod a b) n W X h zero q = refl
more_local (tprod a b) n W X h (suc r) q =
    more_local a n (more b W) (more b X) (λ s p. more_local b n W X h s (omega arith)) r (omega arith)

pub more_same : (a : Ty) {W X : ℕ → ℕ} → Same W X → Same (more a W) (more a X)
more_same a {W} {X} h r = more_local a r W X (λ s p. h s) r (le_refl r)

pub more_zero : (a : Ty) (W : ℕ → ℕ) → more a W 0 ≡ 0
more_zero tunit W = refl
more_zero (tlist a) W = refl
more_zero (tsum a b) W = refl
more_zero (tprod a b) W = refl

-- ---- lists: empty, or an element and a list

pub list_unfold : (a : Ty) (W : ℕ → ℕ) (r : ℕ) → more (tlist a) W (suc r) ≡ W r + more a (more (tlist a) W) r
list_unfold a W r =
    ap (λ x. W r + x)
    (more_local a r (again (more a) W (suc r)) (more (tlist a) W) (λ s p. again_enough (more a) (more_local a) W (suc r) (suc s) s (omega arith) (omega arith)) r (le_refl r))

-- what unfolds so is the count of a list
pub list_unique : (a : Ty) (W X : ℕ → ℕ) → X 0 ≡ 0 → ((r : ℕ) → X (suc r) ≡ W r + more a X r) → Same X (more (tlist a) W)
list_unique a W X z h r = to r r (le_refl r)
  where
    to : (n r : ℕ) → r ≤ n → X r ≡ more (tlist a) W r
    to zero zero q = z
    to zero (suc r) q = absurd (omega arith)
    to (suc n) zero q = z
    to (suc n) (suc r) q =
        h r ∙ ap (λ x. W r + x) (more_local a r X (more (tlist a) W) (λ s p. to n s (omega arith)) r (le_refl r)) ∙ sym (list_unfold a W r)

-- ---- sums

shift_sum : (W X : ℕ → ℕ) → Same (shifted (λ r. W r + X r)) (λ r. shifted W r + shifted X r)
shift_sum W X zero = refl
shift_sum W X (suc r) = refl

exchange : (a b c d : ℕ) → a + b + (c + d) ≡ a + c + (b + d)
exchange a b c d = omega arith

more_sum : (a : Ty) (W X : ℕ → ℕ) → Same (more a (λ r. W r + X r)) (λ r. more a W r + more a X r)
more_sum tunit W X r = shift_sum W X r
more_sum (tlist a) W X r =
    sym
    (list_unique a (λ s. W s + X s) (λ s. more (tlist a) W s + more (tlist a) X s) refl
    (λ s.
    ap₂ ◌+◌ (list_unfold a W s) (list_unfold a X s)
    ∙ exchange (W s) (more a (more (tlist a) W) s) (X s) (more a (more (tlist a) X) s)
    ∙ ap (λ x. W s + X s + x) (sym (more_sum a (more (tlist a) W) (more (tlist a) X) s))) r)
more_sum (tsum a b) W X zero = refl
more_sum (tsum a b) W X (suc r) =
    ap₂ ◌+◌ (more_sum a W X r) (more_sum b W X r) ∙ exchange (more a W r) (more a X r) (more b W r) (more b X r)
more_sum (tprod a b) W X zero = refl
more_sum (tprod a b) W X (suc r) = more_same a (more_sum b W X) r ∙ more_sum a (more b W) (more b X) r

-- ---- order

-- one letter more may come before or behind
pub more_shift : (a : Ty) (W : ℕ → ℕ) → Same (more a (shifted W)) (shifted (more a W))
more_shift tunit W r = refl
more_shift (tlist a) W r =
    sym
    (list_unique a (shifted W) (shifted (more (tlist a) W)) refl
    (λ s. unfolded s ∙ ap (λ x. shifted W s + x) (sym (more_shift a (more (tlist a) W) s))) r)
  where
    unfolded : (s : ℕ) → more (tlist a) W s ≡ shifted W s + shifted (more a (more (tlist a) W)) s
    unfolded zero = refl
    unfolded (suc s) = list_unfold a W s
more_shift (tsum a b) W zero = refl
more_shift (tsum a b) W (suc r) = ap₂ ◌+◌ (more_shift a W r) (more_shift b W r) ∙ sym (shift_sum (more a W) (more b W) r)
more_shift (tprod a b) W zero = refl
more_shift (tprod a b) W (suc r) = more_same a (more_shift b W) r ∙ more_shift a (more b W) r

pub more_swap : (a b : Ty) (W : ℕ → ℕ) → Same (more a (more b W)) (more b (more a W))
more_swap a tunit W r = more_shift a W r
more_swap a (tlist b) W r =
    list_unique b (more a W) (more a (more (tlist b) W)) (more_zero a (more (tlist b) W))
    (λ s. opens s ∙ ap (λ x. more a W s + x) (more_swap a b (more (tlist b) W) s)) r
  where
    opened : Same (more (tlist b) W) (shifted (λ s. W s + more b (more (tlist b) W) s))
    opened zero = refl
    opened (suc s) = list_unfold b W s

    opens : (s : ℕ) → more a (more (tlist b) W) (suc s) ≡ more a W s + more a (more b (more (tlist b) W)) s
    opens s =
        more_same a opened (suc s)
        ∙ more_shift a (λ n. W n + more b (more (tlist b) W) n) (suc s)
        ∙ more_sum a W (more b (more (tlist b) W)) s
more_swap a (tsum b c) W r =
    more_shift a (λ n. more b W n + more c W n) r
    ∙ shift_same (λ n. more_sum a (more b W) (more c W) n ∙ ap₂ ◌+◌ (more_swap a b W n) (more_swap a c W n)) r
more_swap a (tprod b c) W r =
    more_shift a (more b (more c W)) r ∙ shift_same (λ n. more_swap a b (more c W) n ∙ more_same b (more_swap a c W) n) r
