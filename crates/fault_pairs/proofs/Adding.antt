-- One pair more.
use Prim.Native.Nat.{ℕ, ◌+◌, ◌<◌, ◌≤◌}
use native.Mathlib.Omega.{arith}
use mathlib.Core.Path.{◌≡◌, refl, sym, ap, ap₂, ◌∙◌, subst}
use mathlib.Core.Logic.{◌⊎◌, inl, inr}
use mathlib.Core.Bool.{true, false, cond, ◌&&◌, ◌||◌, false≢true}
use mathlib.Core.Option.{Option, none, some}
use mathlib.Core.List.{List}
use lib.ListN.{length, take, drop}
use lib.Seq.{sets-eq, take-append_seam}
use Rattle.limits.specs.Limits.{max_nodes}
use Rattle.calculus.specs.Tools.{◌>>=◌, guard}
use Rattle.calculus.specs.Trees.{Ty, left, right, Node, pair_node, element_node, Pat, pvar, pleaf, pinj, pnode, Val, same_node, type_nodes}
use Rattle.calculus.specs.Letters.{letters}
use Rattle.calculus.specs.Clauses.{clash}
use Rattle.calculus.specs.Shapes.{Shape}
use Rattle.calculus.specs.Paper.{Of}
use Rattle.law_witnesses.specs.Showing.{sooner}
use Rattle.law_witnesses.specs.Seeking.{least_in, meet, better, in_both, fitting}
use Rattle.calculus.proofs.Basic.{or_true, le_leb, not_leb}
use Rattle.law_witnesses.proofs.Overlaps.{least_in_of, meet_shape, meet_some}
use Rattle.check_overlap.specs.Comparison.{compare}
use Rattle.check_overlap.proofs.Comparing.{compare_clash}
use Rattle.fault_meets.specs.Spelled.{SpellsBoth}
use Rattle.fault_pairs.specs.Pairs.{Stored, nothing, text, Adds}
use Rattle.calculus.proofs.Letters.{letters_some}

-- patterns that clash have no meet
clash_none : (p q : Pat) → clash p q ≡ true → meet p q ≡ none
clash_none (pvar n) q e = absurd (false≢true e)
clash_none (pleaf l) (pvar m) e = absurd (false≢true e)
clash_none (pleaf l) (pleaf k) e = absurd (false≢true e)
clash_none (pleaf l) (pinj t q) e = refl
clash_none (pleaf l) (pnode k q q') e = refl
clash_none (pinj s p) (pvar m) e = absurd (false≢true e)
clash_none (pinj s p) (pleaf k) e = refl
clash_none (pinj left p) (pinj left q) e = ap (λ x. x >>= λ r. some (pinj left r)) (clash_none p q e)
clash_none (pinj left p) (pinj right q) e = refl
clash_none (pinj right p) (pinj left q) e = refl
clash_none (pinj right p) (pinj right q) e = ap (λ x. x >>= λ r. some (pinj right r)) (clash_none p q e)
clash_none (pinj s p) (pnode k q r) e = refl
clash_none (pnode m p p') (pvar n) e = absurd (false≢true e)
clash_none (pnode m p p') (pleaf l) e = refl
clash_none (pnode m p p') (pinj t q) e = refl
clash_none (pnode m p p') (pnode k q q') e = node m k e (clash_none p q) (clash_none p' q')
  where
    second : (x : Option Pat) → (x >>= λ r. none >>= λ r'. some (pnode m r r')) ≡ none
    second none = refl
    second (some r) = refl

    parts : (clash p q ≡ true) ⊎ (clash p' q' ≡ true) → (clash p q ≡ true → meet p q ≡ none) → (clash p' q' ≡ true → meet p' q' ≡ none)
        → (meet p q >>= λ r. meet p' q' >>= λ r'. some (pnode m r r')) ≡ none
    parts (inl h) f g = ap (λ x. x >>= λ r. meet p' q' >>= λ r'. some (pnode m r r')) (f h)
    parts (inr h) f g = ap (λ x. meet p q >>= λ r. x >>= λ r'. some (pnode m r r')) (g h) ∙ second (meet p q)

    node : (l k : Node) → (same_node l k && (clash p q || clash p' q')) ≡ true → (clash p q ≡ true → meet p q ≡ none) → (clash p' q' ≡ true → meet p' q' ≡ none)
        → cond (same_node l k) (meet p q >>= λ r. meet p' q' >>= λ r'. some (pnode m r r')) none ≡ none
    node pair_node pair_node h f g = parts (or_true (clash p q) (clash p' q') h) f g
    node pair_node element_node h f g = refl
    node element_node pair_node h f g = refl
    node element_node element_node h f g = parts (or_true (clash p q) (clash p' q') h) f g

module _ {a : Ty} {p q : Pat} (out : List ℕ) (best : ℕ) where
  pub adds_clash : (compare p q).clash ≡ true → Adds a p q out out best best
  adds_clash e =
      let n : meet p q ≡ none = clash_none p q (sym (compare_clash p q) ∙ e) in
      record { by = λ s s' h x k. subst (λ y. Stored a (better (fitting y) x) out best) (sym (ap (λ m. m >>= λ r. some (least_in r a)) n)) k }

-- a value of at most 127 letters, and one of more
pub fits : (v : Val) → length (letters v) ≤ 127 → fitting (some v) ≡ some v
fits v h = ap (λ b. guard b >>= λ _. some v) (le_leb h)

pub no_fit : (v : Val) → 127 < length (letters v) → fitting (some v) ≡ none
no_fit v h = ap (λ b. guard b >>= λ _. some v) (not_leb h)

-- the letters of the common, as far as 128 go
pub record Tried (a : Ty) (p q : Pat) (common : List ℕ) (n : ℕ) : Type 0 where
  pub by : Shape p a → Shape q a → type_nodes a ≤ max_nodes → n ≤ 127
      → (v : Val) × Of v a × (fitting (in_both a p q) ≡ some v) × (n ≡ length (letters v)) × (take n common ≡ letters v)
  pub over : Shape p a → Shape q a → type_nodes a ≤ max_nodes → 127 < n → fitting (in_both a p q) ≡ none

pub tried : {a : Ty} {p q : Pat} {blank common : List ℕ} {n : ℕ} → (compare p q).clash ≡ false → length blank ≡ 128 → SpellsBoth p q a blank common 0 n → Tried a p q common n
tried {a} {p} {q} {blank} {common} {n} c e w = record { by = go; over = past }
  where
    common_of : Shape p a → Shape q a → (r : Pat) × Shape r a × (meet p q ≡ some r)
    common_of s s' = let m = meet_some s s' (sym (compare_clash p q) ∙ c) in (m.0, meet_shape s s' m.0 m.1, m.1)

    go : Shape p a → Shape q a → type_nodes a ≤ max_nodes → n ≤ 127
        → (v : Val) × Of v a × (fitting (in_both a p q) ≡ some v) × (n ≡ length (letters v)) × (take n common ≡ letters v)
    go s s' h k =
        let m = common_of s s' in
        let v = least_in m.0 a in
        let ws = w.by m.0 s s' m.2 h in
        let at = ws.place in
        let n_is : n ≡ length (letters v) = omega arith in
        let room : 0 + length (letters v) ≤ length blank = omega arith in (
          v,
          least_in_of m.1,
          ap (λ x. fitting (x >>= λ r. some (least_in r a))) m.2 ∙ fits v (omega arith),
          n_is,
          ap₂ take n_is (ws.area ∙ sets-eq (letters v) blank 0 room) ∙ take-append_seam (letters v) (drop (0 + length (letters v)) blank),
        )

    past : Shape p a → Shape q a → type_nodes a ≤ max_nodes → 127 < n → fitting (in_both a p q) ≡ none
    past s s' h k =
        let m = common_of s s' in
        let at = (w.by m.0 s s' m.2 h).place in
        ap (λ x. fitting (x >>= λ r. some (least_in r a))) m.2 ∙ no_fit (least_in m.0 a) (omega arith)

module _ {a : Ty} {p q : Pat} {common : List ℕ} {n : ℕ} (t : Tried a p q common n) where
  pub adds_never : (out : List ℕ) (best : ℕ) → 127 < n → Adds a p q out out best best
  adds_never out best h = record { by = λ s s' k x y. subst (λ z. Stored a (better z x) out best) (sym (t.over s s' k h)) y }

  module _ (few : n ≤ 127) where
    pub adds_first : {out out' : List ℕ} {best : ℕ} → best ≡ 0 → take n out' ≡ take n common → Adds a p q out out' best n
    adds_first {out} {out'} {best} z e = record { by = λ s s' k x y. let r = t.by s s' k few in go x y r.0 r.1 r.2 r.3 (e ∙ r.4) }
      where
        go : (x : Option Val) → Stored a x out best → (v : Val) → Of v a → fitting (in_both a p q) ≡ some v → n ≡ length (letters v) → take n out' ≡ letters v
            → Stored a (better (fitting (in_both a p q)) x) out' n
        go none (nothing b) v o i l k = subst (λ y. Stored a (better y none) out' n) (sym i) (text o l k)
        go (some w) (text o' b k') v o i l k = let h = letters_some w in absurd (omega arith)

    pub adds_old : {out : List ℕ} {best : ℕ} → (best ≡ 0 → ⊥) → true ≡ sooner (take best out) (take n common) → Adds a p q out out best best
    adds_old {out} {best} z e = record { by = λ s s' k x y. let r = t.by s s' k few in go x y r.0 r.2 r.4 }
      where
        go : (x : Option Val) → Stored a x out best → (v : Val) → fitting (in_both a p q) ≡ some v → take n common ≡ letters v
            → Stored a (better (fitting (in_both a p q)) x) out best
        go none (nothing b) v i k = absurd (z b)
        go (some w) (text o b k') v i k =
            subst (λ y. Stored a (better y (some w)) out best) (sym i)
            (subst (λ c. Stored a (cond c (some w) (some v)) out best) (e ∙ ap₂ sooner k' k) (text o b k'))

    pub adds_new : {out out' : List ℕ} {best : ℕ} → (best ≡ 0 → ⊥) → false ≡ sooner (take best out) (take n common) → take n out' ≡ take n common → Adds a p q out out' best n
    adds_new {out} {out'} {best} z e f = record { by = λ s s' k x y. let r = t.by s s' k few in go x y r.0 r.1 r.2 r.3 r.4 }
      where
        go : (x : Option Val) → Stored a x out best → (v : Val) → Of v a → fitting (in_both a p q) ≡ some v → n ≡ length (letters v) → take n common ≡ letters v
            → Stored a (better (fitting (in_both a p q)) x) out' n
        go none (nothing b) v o i l k = absurd (z b)
        go (some w) (text o' b k') v o i l k =
            subst (λ y. Stored a (better y (some w)) out' n) (sym i)
            (subst (λ c. Stored a (cond c (some w) (some v)) out' n) (e ∙ ap₂ sooner k' k) (text o l (f ∙ k)))
