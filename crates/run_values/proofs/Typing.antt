-- The closed value of a type that begins at a place: the bytes behind it, by the type's node and the first letter.
use Prim.Native.Nat.{ℕ, zero, suc, ◌+◌, ◌-◌, ◌*◌, ◌≤◌, ◌<◌}
use native.Mathlib.Numerals.{add-one}
use native.Mathlib.Omega.{arith}
use mathlib.Core.Path.{◌≡◌, refl, sym, ap, ap₂, ◌∙◌}
use mathlib.Core.Bool.{cond}
use mathlib.Core.Option.{Option, none, some}
use mathlib.Core.List.{List, [], ◌∷◌}
use lib.Dec.{eqb}
use lib.ListN.{length, get_or, drop, length-drop, drop_of_length-le}
use lib.Seq.{drop-cons}
use borrow.Author.Tests.{eq-eqb, ne_eqb}
use Rattle.calculus.specs.Tools.{◌>>=◌, guard}
use Rattle.calculus.specs.Trees.{Ty, tunit, tlist, tsum, tprod}
use Rattle.table_trees.specs.Unfolding.{cell_of, smaller_of, type_of}
use Rattle.std.specs.Prelude.{Option as Maybe, Some, None}
use Rattle.run_values.specs.Texts.{as_upto, behind, behind_list}
use Rattle.table_trees.proofs.Unfolding.{rank, type_call}
use Rattle.run_values.proofs.Agreeing.{behind_shorter}
use Rattle.table_trees.proofs.Lines.{line_sum, line_product, line_list, line_other}

-- ---- by the first letter

-- no letter
behind_none : (a : Ty) → behind a [] ≡ none
behind_none tunit = refl
behind_none (tlist a) = refl
behind_none (tsum a b) = refl
behind_none (tprod a b) = refl

module _ (b : ℕ) (bs : List ℕ) where
  -- unit
  unit_hit : b ≡ 85 → behind tunit (b ∷ bs) ≡ some bs
  unit_hit e = ap (λ t. guard t >>= λ _. some bs) (eq-eqb b 85 e)

  -- unit, and another letter
  unit_miss : (b ≡ 85 → ⊥) → behind tunit (b ∷ bs) ≡ none
  unit_miss n = ap (λ t. guard t >>= λ _. some bs) (ne_eqb b 85 n)

  module _ (x y : Ty) where
    -- left
    sum_left : b ≡ 76 → behind (tsum x y) (b ∷ bs) ≡ behind x bs
    sum_left e = ap (λ t. cond t (behind x bs) (cond (eqb b 82) (behind y bs) none)) (eq-eqb b 76 e)

    -- right
    sum_right : (b ≡ 76 → ⊥) → b ≡ 82 → behind (tsum x y) (b ∷ bs) ≡ behind y bs
    sum_right n e = ap₂ (λ t u. cond t (behind x bs) (cond u (behind y bs) none)) (ne_eqb b 76 n) (eq-eqb b 82 e)

    -- a sum, and another letter
    sum_miss : (b ≡ 76 → ⊥) → (b ≡ 82 → ⊥) → behind (tsum x y) (b ∷ bs) ≡ none
    sum_miss n m = ap₂ (λ t u. cond t (behind x bs) (cond u (behind y bs) none)) (ne_eqb b 76 n) (ne_eqb b 82 m)

    -- a pair
    prod_hit : b ≡ 80 → behind (tprod x y) (b ∷ bs) ≡ (behind x bs >>= λ cs. behind y cs)
    prod_hit e = ap (λ t. guard t >>= λ _. behind x bs >>= λ cs. behind y cs) (eq-eqb b 80 e)

    -- a product, and another letter
    prod_miss : (b ≡ 80 → ⊥) → behind (tprod x y) (b ∷ bs) ≡ none
    prod_miss n = ap (λ t. guard t >>= λ _. behind x bs >>= λ cs. behind y cs) (ne_eqb b 80 n)

-- ---- lists

-- as many letters as the bytes have are enough
list_enough : (x : Ty) (m n : ℕ) (bs : List ℕ) → length bs ≤ m → length bs ≤ n → behind_list (behind x) m bs ≡ behind_list (behind x) n bs
list_enough x zero zero bs h k = refl
list_enough x zero (suc n) [] h k = refl
list_enough x zero (suc n) (b ∷ bs) h k = absurd (omega arith)
list_enough x (suc m) zero [] h k = refl
list_enough x (suc m) zero (b ∷ bs) h k = absurd (omega arith)
list_enough x (suc m) (suc n) [] h k = refl
list_enough x (suc m) (suc n) (b ∷ bs) h k =
    ap (λ o. cond (eqb b 78) (some bs) (guard (eqb b 75) >>= λ _. o))
    (go (behind x bs) (λ cs e. let f = behind_shorter x bs e in list_enough x m n cs (omega arith) (omega arith)))
  where
    go : (o : Option (List ℕ)) → ((cs : List ℕ) → o ≡ some cs → behind_list (behind x) m cs ≡ behind_list (behind x) n cs)
        → (o >>= λ cs. behind_list (behind x) m cs) ≡ (o >>= λ cs. behind_list (behind x) n cs)
    go none again = refl
    go (some cs) again = again cs refl

module _ (x : Ty) (b : ℕ) (bs : List ℕ) where
  -- empty
  list_empty : b ≡ 78 → behind (tlist x) (b ∷ bs) ≡ some bs
  list_empty e = ap (λ t. cond t (some bs) (guard (eqb b 75) >>= λ _. behind x bs >>= λ cs. behind_list (behind x) (length bs) cs)) (eq-eqb b 78 e)

  -- an element, and what stands behind it
  list_element : (b ≡ 78 → ⊥) → b ≡ 75 → {o : Option (List ℕ)} → behind x bs ≡ o → behind (tlist x) (b ∷ bs) ≡ (o >>= λ cs. behind_list (behind x) (length bs) cs)
  list_element n e f =
      ap₂ (λ t u. cond t (some bs) (guard u >>= λ _. behind x bs >>= λ cs. behind_list (behind x) (length bs) cs)) (ne_eqb b 78 n) (eq-eqb b 75 e)
      ∙ ap (λ o. o >>= λ cs. behind_list (behind x) (length bs) cs) f

  -- another letter
  list_miss : (b ≡ 78 → ⊥) → (b ≡ 75 → ⊥) → behind (tlist x) (b ∷ bs) ≡ none
  list_miss n e =
      ap₂ (λ t u. cond t (some bs) (guard u >>= λ _. behind x bs >>= λ cs. behind_list (behind x) (length bs) cs)) (ne_eqb b 78 n) (ne_eqb b 75 e)

-- a list that is read from one place on, as far as another, b being the letter there
module _ (x : Ty) (s : List ℕ) (at next : ℕ) (going : behind (tlist x) (drop next s) ≡ behind (tlist x) (drop at s)) where
  module _ (h : next < length s) {b : ℕ} (f : b ≡ get_or s next 0) where
    from_here : {o : Option (List ℕ)} → behind (tlist x) (b ∷ drop (next + 1) s) ≡ o → o ≡ behind (tlist x) (drop at s)
    from_here q = sym (ap (behind (tlist x)) (drop-cons s next 0 h ∙ ap₂ (λ y n. y ∷ drop n s) (sym f) (sym (add-one next))) ∙ q) ∙ going

    module _ {q : Maybe ℕ} (n : b ≡ 78 → ⊥) (e : b ≡ 75) (told : as_upto s q ≡ behind x (drop (next + 1) s)) where
      -- no element
      pub list_not_element : q ≡ None → as_upto s None ≡ behind (tlist x) (drop at s)
      list_not_element p = from_here (list_element x b (drop (next + 1) s) n e (sym told ∙ ap (as_upto s) p))

      module _ {m : ℕ} (p : q ≡ Some m) where
        found : behind x (drop (next + 1) s) ≡ some (drop m s)
        found = sym told ∙ ap (as_upto s) p

        -- an element: fewer letters are left
        pub list_falls : length s - m < length s - next
        list_falls =
            let k = behind_shorter x (drop (next + 1) s) found in omega (arith, length-drop m s, length-drop (next + 1) s)

        -- and the list goes on behind it
        pub list_goes : behind (tlist x) (drop m s) ≡ behind (tlist x) (drop at s)
        list_goes =
            let k = behind_shorter x (drop (next + 1) s) found in
            list_enough x (length (drop m s)) (length (drop (next + 1) s)) (drop m s) (omega arith) (omega arith)
            ∙ from_here (list_element x b (drop (next + 1) s) n e found)

-- ---- T lines: k is the kind, l and r are the lines that line i names, b the first letter

module _ (t : List ℕ) (i : ℕ) where
  module _ (s : List ℕ) (at : ℕ) where
    -- no letter
    pub typed_none : length s ≤ at → as_upto s None ≡ behind (type_of t i) (drop at s)
    typed_none h = sym (ap (behind (type_of t i)) (drop_of_length-le s h) ∙ behind_none (type_of t i))

    module _ (h : at < length s) {k b : ℕ} (e : k ≡ cell_of t i 1) (f : b ≡ get_or s at 0) where
      -- the letter, and what stands behind it
      here : drop at s ≡ b ∷ drop (at + 1) s
      here = drop-cons s at 0 h ∙ ap₂ (λ x n. x ∷ drop n s) (sym f) (sym (add-one at))

      -- the line's tree and the bytes here
      line : (x : Ty) {o : Option (List ℕ)} → type_of t i ≡ x → behind x (b ∷ drop (at + 1) s) ≡ o → o ≡ behind (type_of t i) (drop at s)
      line x p q = sym (ap₂ behind p here ∙ q)

      -- a unit, or a number that is no kind
      pub typed_unit : (k ≡ 1 → ⊥) → (k ≡ 2 → ⊥) → (k ≡ 3 → ⊥) → b ≡ 85 → as_upto s (Some (at + 1)) ≡ behind (type_of t i) (drop at s)
      typed_unit n m l u = line tunit (line_other t i e n m l) (unit_hit b _ u)

      -- unit, and another letter
      pub typed_not_unit : (k ≡ 1 → ⊥) → (k ≡ 2 → ⊥) → (k ≡ 3 → ⊥) → (b ≡ 85 → ⊥) → as_upto s None ≡ behind (type_of t i) (drop at s)
      typed_not_unit n m l x = line tunit (line_other t i e n m l) (unit_miss b _ x)

      -- a list
      pub typed_list : {l : ℕ} → l ≡ smaller_of (cell_of t i 2) i → (o : Maybe ℕ) → k ≡ 3 → as_upto s o ≡ behind (tlist (type_of t l)) (drop at s)
          → as_upto s o ≡ behind (type_of t i) (drop at s)
      typed_list nl o z w = w ∙ ap (λ x. behind x (drop at s)) (sym (line_list t i e nl z))

      module _ {l r : ℕ} (nl : l ≡ smaller_of (cell_of t i 2) i) (nr : r ≡ smaller_of (cell_of t i 3) i) where
        -- left
        pub typed_left : (o : Maybe ℕ) → k ≡ 1 → b ≡ 76 → as_upto s o ≡ behind (type_of t l) (drop (at + 1) s) → as_upto s o ≡ behind (type_of t i) (drop at s)
        typed_left o z q w = w ∙ line (tsum (type_of t l) (type_of t r)) (line_sum t i e nl nr z) (sum_left b (drop (at + 1) s) (type_of t l) (type_of t r) q)

        -- right
        pub typed_right : (o : Maybe ℕ) → k ≡ 1 → (b ≡ 76 → ⊥) → b ≡ 82 → as_upto s o ≡ behind (type_of t r) (drop (at + 1) s) → as_upto s o ≡ behind (type_of t i) (drop at s)
        typed_right o z n q w = w ∙ line (tsum (type_of t l) (type_of t r)) (line_sum t i e nl nr z) (sum_right b (drop (at + 1) s) (type_of t l) (type_of t r) n q)

        -- a sum, and another letter
        pub typed_not_sum : k ≡ 1 → (b ≡ 76 → ⊥) → (b ≡ 82 → ⊥) → as_upto s None ≡ behind (type_of t i) (drop at s)
        typed_not_sum z n m = line (tsum (type_of t l) (type_of t r)) (line_sum t i e nl nr z) (sum_miss b (drop (at + 1) s) (type_of t l) (type_of t r) n m)

        module _ (kp : k ≡ 2) where
          -- a pair with its first part
          pub typed_pair : (o : Maybe ℕ) {q : Maybe ℕ} {m : ℕ} → b ≡ 80 → q ≡ Some m → as_upto s q ≡ behind (type_of t l) (drop (at + 1) s)
              → as_upto s o ≡ behind (type_of t r) (drop m s) → as_upto s o ≡ behind (type_of t i) (drop at s)
          typed_pair o z p w x =
              x
              ∙ ap (λ c. c >>= λ cs. behind (type_of t r) cs) (sym (ap (as_upto s) p) ∙ w)
              ∙ line (tprod (type_of t l) (type_of t r)) (line_product t i e nl nr kp) (prod_hit b (drop (at + 1) s) (type_of t l) (type_of t r) z)

          -- a pair without its first part
          pub typed_not_first : {q : Maybe ℕ} → b ≡ 80 → q ≡ None → as_upto s q ≡ behind (type_of t l) (drop (at + 1) s) → as_upto s None ≡ behind (type_of t i) (drop at s)
          typed_not_first z p w =
              ap (λ c. c >>= λ cs. behind (type_of t r) cs) (sym (ap (as_upto s) p) ∙ w)
              ∙ line (tprod (type_of t l) (type_of t r)) (line_product t i e nl nr kp) (prod_hit b (drop (at + 1) s) (type_of t l) (type_of t r) z)

          -- a product, and another letter
          pub typed_not_pair : (b ≡ 80 → ⊥) → as_upto s None ≡ behind (type_of t i) (drop at s)
          typed_not_pair n = line (tprod (type_of t l) (type_of t r)) (line_product t i e nl nr kp) (prod_miss b (drop (at + 1) s) (type_of t l) (type_of t r) n)
