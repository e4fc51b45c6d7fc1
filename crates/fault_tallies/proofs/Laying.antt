-- The nodes of a type laid at the places of an array.
use Prim.Native.Nat.{ℕ, ◌+◌, ◌≤◌, ◌<◌}
use native.Mathlib.Omega.{arith}
use mathlib.Core.Path.{◌≡◌, refl, sym, ◌∙◌, subst}
use mathlib.Core.List.{List}
use lib.ListN.{length, get_or, set}
use lib.Seq.{get_or-set_same, get_or-set_other}
use Rattle.limits.specs.Limits.{max_nodes}
use Rattle.calculus.specs.Trees.{Ty, tunit, tlist, tsum, tprod, type_nodes}
use Rattle.fault_tallies.specs.Tallies.{Laid, Lays}

-- two pairs of arrays that agree from a place to another
abbrev Agree : List ℕ → List ℕ → List ℕ → List ℕ → ℕ → ℕ → Type 0
Agree one two one' two' from to = (j : ℕ) → from ≤ j → j < to → (get_or one' j 0 ≡ get_or one j 0) × (get_or two' j 0 ≡ get_or two j 0)

nodes_some : (a : Ty) → 0 < type_nodes a
nodes_some tunit = omega arith
nodes_some (tlist a) = omega arith
nodes_some (tsum a b) = omega arith
nodes_some (tprod a b) = omega arith

laid_kept : {one two one' two' : List ℕ} {a : Ty} {at end : ℕ} → Laid one two a at end → Agree one two one' two' at (at + type_nodes a) → Laid one' two' a at end
laid_kept {at = at} (Laid.of_unit e f) g = let x = g at (omega arith) (omega arith) in Laid.of_unit (x.0 ∙ e) (x.1 ∙ f)
laid_kept {at = at} (Laid.of_list {a} e f l) g =
    let x = g at (omega arith) (omega arith) in Laid.of_list (x.0 ∙ e) (x.1 ∙ f) (laid_kept l (λ j p q. g j (omega arith) (omega arith)))
laid_kept {at = at} (Laid.of_sum {a} {b} e f l r) g =
    let x = g at (omega arith) (omega arith) in
    Laid.of_sum (x.0 ∙ e) (x.1 ∙ f) (laid_kept l (λ j p q. g j (omega arith) (omega arith))) (laid_kept r (λ j p q. g j (omega arith) (omega arith)))
laid_kept {at = at} (Laid.of_product {a} {b} e f l r) g =
    let x = g at (omega arith) (omega arith) in
    Laid.of_product (x.0 ∙ e) (x.1 ∙ f) (laid_kept l (λ j p q. g j (omega arith) (omega arith))) (laid_kept r (λ j p q. g j (omega arith) (omega arith)))

-- no room
pub lays_never : (a : Ty) {at end r : ℕ} (one two : List ℕ) → 127 ≤ at → Lays a at end one two one two r
lays_never a one two h =
    let n = nodes_some a in
    record { laid = λ k. absurd (omega arith); place = λ k. absurd (omega arith); kept = λ k. absurd (omega arith) }

module _ {at : ℕ} (one two : List ℕ) (h : at < 127) where
  -- the node itself is stored last, at a place before its parts
  module _ (one₁ two₁ : List ℕ) (lo : length one₁ ≡ 128) (lt : length two₁ ≡ 128) (x y : ℕ) where
    here_one : get_or (set one₁ at x) at 0 ≡ x
    here_one = get_or-set_same one₁ at x 0 (omega (arith, lo, h))

    here_two : get_or (set two₁ at y) at 0 ≡ y
    here_two = get_or-set_same two₁ at y 0 (omega (arith, lt, h))

    past : (n : ℕ) → Agree one₁ two₁ (set one₁ at x) (set two₁ at y) (at + 1) n
    past n j p q = (get_or-set_other one₁ at j x 0 (λ e. absurd (omega arith)), get_or-set_other two₁ at j y 0 (λ e. absurd (omega arith)))

    before : (j : ℕ) → j < at → (get_or (set one₁ at x) j 0 ≡ get_or one₁ j 0) × (get_or (set two₁ at y) j 0 ≡ get_or two₁ j 0)
    before j p = (get_or-set_other one₁ at j x 0 (λ e. absurd (omega arith)), get_or-set_other two₁ at j y 0 (λ e. absurd (omega arith)))

  pub lays_unit : {a : Ty} {end : ℕ} → length one ≡ 128 → length two ≡ 128 → a ≡ tunit → Lays a at end one two (set one at end) (set two at 128) (at + 1)
  lays_unit {a} {end} lo lt e =
      subst (λ z. Lays z at end one two (set one at end) (set two at 128) (at + 1)) (sym e)
      (record { laid = λ k. Laid.of_unit (here_one one two lo lt end 128) (here_two one two lo lt end 128); place = λ k. refl; kept = λ k j p. before one two lo lt end 128 j p })

  module _ {one₁ two₁ : List ℕ} where
    pub lays_list : {a b : Ty} {end r : ℕ} → length one₁ ≡ 128 → length two₁ ≡ 128 → a ≡ tlist b → Lays b (at + 1) at one two one₁ two₁ r
        → Lays a at end one two (set one₁ at (at + 1)) (set two₁ at end) r
    lays_list {a} {b} {end} {r} lo lt e s =
        subst (λ z. Lays z at end one two (set one₁ at (at + 1)) (set two₁ at end) r) (sym e)
        (record {
          laid = λ k.
              let f : at + 1 + type_nodes b ≤ max_nodes = omega arith in
              Laid.of_list (here_one one₁ two₁ lo lt (at + 1) end) (here_two one₁ two₁ lo lt (at + 1) end) (laid_kept (s.laid f) (past one₁ two₁ lo lt (at + 1) end (at + 1 + type_nodes b)));
          place = λ k. let f : at + 1 + type_nodes b ≤ max_nodes = omega arith in let p = s.place f in omega arith;
          kept = λ k j p.
              let f : at + 1 + type_nodes b ≤ max_nodes = omega arith in
              let u = before one₁ two₁ lo lt (at + 1) end j p in
              let v = s.kept f j (omega arith) in
              (u.0 ∙ v.0, u.1 ∙ v.1);
        })

    module _ {one₂ two₂ : List ℕ} {n r : ℕ} (lo : length one₂ ≡ 128) (lt : length two₂ ≡ 128) where
      -- both parts, one after the other
      module _ {c d : Ty} {x y : ℕ} (s : Lays c (at + 1) x one two one₁ two₁ n) (u : Lays d n y one₁ two₁ one₂ two₂ r) (k : at + 1 + type_nodes c + type_nodes d ≤ max_nodes)
          (i j : ℕ) where
        fits_first : at + 1 + type_nodes c ≤ max_nodes
        fits_first = omega (arith, k)

        second_at : n ≡ at + 1 + type_nodes c
        second_at = s.place fits_first

        fits_second : n + type_nodes d ≤ max_nodes
        fits_second = let p = second_at in omega (arith, k)

        first_laid : Laid (set one₂ at i) (set two₂ at j) c (at + 1) x
        first_laid =
            laid_kept {one = one₂} {two = two₂}
            (laid_kept (s.laid fits_first) (λ q f g. u.kept fits_second q (let p = second_at in omega arith)))
            (past one₂ two₂ lo lt i j (at + 1 + type_nodes c))

        second_laid : Laid (set one₂ at i) (set two₂ at j) d (at + 1 + type_nodes c) y
        second_laid =
            subst (λ q. Laid (set one₂ at i) (set two₂ at j) d q y) second_at
            (laid_kept (u.laid fits_second) (λ q f g. past one₂ two₂ lo lt i j (n + type_nodes d) q (let p = second_at in omega arith) g))

        both_kept : (q : ℕ) → q < at → (get_or (set one₂ at i) q 0 ≡ get_or one q 0) × (get_or (set two₂ at j) q 0 ≡ get_or two q 0)
        both_kept q p =
            let f = before one₂ two₂ lo lt i j q p in
            let g = u.kept fits_second q (let z = second_at in omega arith) in
            let o = s.kept fits_first q (omega arith) in
            (f.0 ∙ g.0 ∙ o.0, f.1 ∙ g.1 ∙ o.1)

        both_place : r ≡ at + 1 + type_nodes c + type_nodes d
        both_place = let p = second_at in let q = u.place fits_second in omega arith

      pub lays_sum : {a c d : Ty} {end : ℕ} → a ≡ tsum c d → Lays c (at + 1) end one two one₁ two₁ n → Lays d n end one₁ two₁ one₂ two₂ r
          → Lays a at end one two (set one₂ at (at + 1)) (set two₂ at n) r
      lays_sum {a} {c} {d} {end} e s u =
          subst (λ z. Lays z at end one two (set one₂ at (at + 1)) (set two₂ at n) r) (sym e)
          (record {
            laid = λ k.
                let f : at + 1 + type_nodes c + type_nodes d ≤ max_nodes = omega arith in
                Laid.of_sum (here_one one₂ two₂ lo lt (at + 1) n) (here_two one₂ two₂ lo lt (at + 1) n ∙ second_at s u f (at + 1) n) (first_laid s u f (at + 1) n) (second_laid s u f (at + 1) n);
            place = λ k. let f : at + 1 + type_nodes c + type_nodes d ≤ max_nodes = omega arith in let p = both_place s u f (at + 1) n in omega arith;
            kept = λ k j p. let f : at + 1 + type_nodes c + type_nodes d ≤ max_nodes = omega arith in both_kept s u f (at + 1) n j p;
          })

      pub lays_product : {a c d : Ty} {end : ℕ} → a ≡ tprod c d → Lays d (at + 1) end one two one₁ two₁ n → Lays c n (at + 1) one₁ two₁ one₂ two₂ r
          → Lays a at end one two (set one₂ at n) (set two₂ at 128) r
      lays_product {a} {c} {d} {end} e s u =
          subst (λ z. Lays z at end one two (set one₂ at n) (set two₂ at 128) r) (sym e)
          (record {
            laid = λ k.
                let f : at + 1 + type_nodes d + type_nodes c ≤ max_nodes = omega arith in
                Laid.of_product (here_one one₂ two₂ lo lt n 128 ∙ second_at s u f n 128) (here_two one₂ two₂ lo lt n 128) (second_laid s u f n 128) (first_laid s u f n 128);
            place = λ k. let f : at + 1 + type_nodes d + type_nodes c ≤ max_nodes = omega arith in let p = both_place s u f n 128 in omega arith;
            kept = λ k j p. let f : at + 1 + type_nodes d + type_nodes c ≤ max_nodes = omega arith in both_kept s u f n 128 j p;
          })
