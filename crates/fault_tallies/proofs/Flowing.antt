-- Counts from place to place, one letter after the other.
use Prim.Native.Nat.{ℕ, zero, suc, ◌+◌, ◌*◌, ◌%◌, ◌≤◌, ◌<◌}
use native.Mathlib.Nat.{add_comm, eq-or-lt_of_le}
use native.Mathlib.Numerals.{add-one}
use native.Mathlib.Omega.{arith}
use mathlib.Core.Path.{◌≡◌, refl, sym, ap, ap₂, ◌∙◌, subst}
use mathlib.Core.Logic.{◌⊎◌, inl, inr, ⊎_elim}
use mathlib.Core.Bool.{cond}
use mathlib.Core.List.{List}
use lib.Dec.{ltb}
use lib.ListN.{length, get_or, set, replicate, length-set, length-replicate}
use lib.Seq.{get_or-set_same, get_or-set_other}
use Rattle.calculus.specs.Trees.{Ty, type_nodes}
use Rattle.calculus.proofs.Basic.{lt_ltb, not_ltb, not_eqb, le_or_lt}
use Rattle.fault_tallies.specs.Tallies.{plus_of, Holds, more, Laid, Lays, Steps, flow, Flows, CountsType}
use Rattle.fault_tallies.proofs.Linear.{Same, more_same, list_unique}
use Rattle.fault_tallies.proofs.Counting.{plus_mod, zero_mod, zeros, held_as}
use Rattle.fault_tallies.proofs.Patterns.{eq_or_ne}

-- ---- the flow from a place is the count of the type laid there

module _ (one two : List ℕ) (n : ℕ) (few : n ≤ 127) (W : ℕ → ℕ) where
  abbrev from : ℕ → ℕ → ℕ
  from x r = flow one two n W r x

  -- at the end
  end_flow : (r : ℕ) → flow one two n W r 127 ≡ W r
  end_flow zero = refl
  end_flow (suc r) = refl

  -- past all places
  no_flow : (x r : ℕ) → (x ≡ 127 → ⊥) → n ≤ x → flow one two n W r x ≡ 0
  no_flow x zero d h = ap (λ b. cond b (W 0) 0) (not_eqb d)
  no_flow x (suc r) d h =
      ap (λ b. cond b (W (suc r)) (cond (ltb x n) (from (get_or one x 0) r + from (get_or two x 0) r) 0)) (not_eqb d)
      ∙ ap (λ b. cond b (from (get_or one x 0) r + from (get_or two x 0) r) 0) (not_ltb h)

  none_flow : (r : ℕ) → flow one two n W r 128 ≡ 0
  none_flow r = no_flow 128 r (λ e. absurd (omega arith)) (omega (arith, few))

  -- at a place
  zero_flow : (x : ℕ) → x < n → flow one two n W 0 x ≡ 0
  zero_flow x h = ap (λ b. cond b (W 0) 0) (not_eqb {m = x} {n = 127} (λ e. absurd (omega (arith, few))))

  step_flow : (x r : ℕ) → x < n → flow one two n W (suc r) x ≡ from (get_or one x 0) r + from (get_or two x 0) r
  step_flow x r h =
      ap (λ b. cond b (W (suc r)) (cond (ltb x n) (from (get_or one x 0) r + from (get_or two x 0) r) 0)) (not_eqb {m = x} {n = 127} (λ e. absurd (omega (arith, few))))
      ∙ ap (λ b. cond b (from (get_or one x 0) r + from (get_or two x 0) r) 0) (lt_ltb h)

  -- a node with two ways, and with one
  two_ways : {x y z : ℕ} → x < n → get_or one x 0 ≡ y → get_or two x 0 ≡ z → (r : ℕ) → from x (suc r) ≡ from y r + from z r
  two_ways {x} h e f r = step_flow x r h ∙ ap₂ (λ a b. from a r + from b r) e f

  one_way : {x y : ℕ} → x < n → get_or one x 0 ≡ y → get_or two x 0 ≡ 128 → (r : ℕ) → from x (suc r) ≡ from y r
  one_way {x} {y} h e f r = two_ways h e f r ∙ ap (λ m. from y r + m) (none_flow r) ∙ plain (from y r)
    where
      plain : (m : ℕ) → m + 0 ≡ m
      plain m = omega arith

  pub laid_flow : {a : Ty} {at end : ℕ} → Laid one two a at end → at + type_nodes a ≤ n → Same (from at) (more a (from end))
  laid_flow {at = at} (Laid.of_unit e f) h zero = zero_flow at (omega arith)
  laid_flow {at = at} (Laid.of_unit e f) h (suc r) = one_way (omega arith) e f r
  laid_flow {at = at} {end = end} (Laid.of_list {a} e f l) h r =
      list_unique a (from end) (from at) (zero_flow at (omega arith))
      (λ s. two_ways (omega arith) e f s ∙ add_comm (from (at + 1) s) (from end s) ∙ ap (λ x. from end s + x) (laid_flow l (omega arith) s)) r
  laid_flow {at = at} (Laid.of_sum {a} {b} e f l m) h zero = zero_flow at (omega arith)
  laid_flow {at = at} (Laid.of_sum {a} {b} e f l m) h (suc r) = two_ways (omega arith) e f r ∙ ap₂ ◌+◌ (laid_flow l (omega arith) r) (laid_flow m (omega arith) r)
  laid_flow {at = at} (Laid.of_product {a} {b} e f l m) h zero = zero_flow at (omega arith)
  laid_flow {at = at} (Laid.of_product {a} {b} e f l m) h (suc r) =
      one_way (omega arith) e f r ∙ laid_flow l (omega arith) r ∙ more_same a (laid_flow m (omega arith)) r

  -- a type laid from place 0 on
  pub whole_flow : {a : Ty} → Laid one two a 0 127 → type_nodes a ≤ n → Same (from 0) (more a W)
  whole_flow {a} l h r = laid_flow l (omega arith) r ∙ more_same a end_flow r

-- ---- arrays of the flow

-- v holds the flow with r letters at all places but the end
pub record Filled (m : ℕ) (one two : List ℕ) (n : ℕ) (W : ℕ → ℕ) (r : ℕ) (v : List ℕ) : Type 0 where
  pub at : (x : ℕ) → (x ≡ 127 → ⊥) → get_or v x 0 ≡ flow one two n W r x % m

-- u holds nothing past the nodes
pub record Spare (n : ℕ) (u : List ℕ) : Type 0 where
  pub at : (x : ℕ) → (x ≡ 127 → ⊥) → n ≤ x → get_or u x 0 ≡ 0

pub filled_spare : {m : ℕ} {one two : List ℕ} {n : ℕ} {W : ℕ → ℕ} {r : ℕ} {v : List ℕ} → n ≤ 127 → 1 < m → Filled m one two n W r v → Spare n v
filled_spare {m} {one} {two} {n} {W} {r} few w f =
    record { at = λ x d h. f.at x d ∙ ap (λ z. z % m) (no_flow one two n few W x r d h) ∙ sym (zero_mod m w) }

module _ {m : ℕ} {one two : List ℕ} {n : ℕ} {W : ℕ → ℕ} {r : ℕ} {v : List ℕ} (few : n ≤ 127) (wide : 1 < m) (long : length v ≡ 128)
    (f : Filled m one two n W r v) {w : ℕ} (e : w ≡ W r % m) where
  -- with the end stored all places hold it
  all_filled : (x : ℕ) → get_or (set v 127 w) x 0 ≡ flow one two n W r x % m
  all_filled x = go (eq_or_ne x 127)
    where
      go : (x ≡ 127) ⊎ (x ≡ 127 → ⊥) → get_or (set v 127 w) x 0 ≡ flow one two n W r x % m
      go (inl d) =
          ap (λ z. get_or (set v 127 w) z 0) d ∙ get_or-set_same v 127 w 0 (omega (arith, long)) ∙ e
          ∙ sym (ap (λ z. flow one two n W r z % m) d ∙ ap (λ z. z % m) (end_flow one two n few W r))
      go (inr d) = get_or-set_other v 127 x w 0 d ∙ f.at x d

  pub filled_next : {u u' : List ℕ} → Spare n u → Steps m one two n (set v 127 w) u u' → Filled m one two n W (suc r) u'
  filled_next {u} {u'} s t = record { at = λ x d. go x d (le_or_lt n x) }
    where
      go : (x : ℕ) → (x ≡ 127 → ⊥) → (n ≤ x) ⊎ (x < n) → get_or u' x 0 ≡ flow one two n W (suc r) x % m
      go x d (inl h) = t.kept x h ∙ s.at x d h ∙ zero_mod m wide ∙ ap (λ z. z % m) (sym (no_flow one two n few W x (suc r) d h))
      go x d (inr h) =
          t.done x h
          ∙ ap₂ (plus_of m) (all_filled (get_or one x 0)) (all_filled (get_or two x 0))
          ∙ plus_mod m (flow one two n W r (get_or one x 0)) (flow one two n W r (get_or two x 0)) wide
          ∙ ap (λ z. z % m) (sym (step_flow one two n few W x r h))

-- ---- the loop over places

pub record Stepped (m : ℕ) (one two : List ℕ) (n : ℕ) (v u₀ u : List ℕ) (x : ℕ) : Type 0 where
  pub within : x ≤ n
  pub long : length u ≡ 128
  pub done : (j : ℕ) → j < x → get_or u j 0 ≡ plus_of m (get_or v (get_or one j 0) 0) (get_or v (get_or two j 0) 0)
  pub kept : (j : ℕ) → x ≤ j → get_or u j 0 ≡ get_or u₀ j 0

pub stepped_one : {m : ℕ} {one two : List ℕ} {n : ℕ} {v u₀ u : List ℕ} {x c : ℕ} → Stepped m one two n v u₀ u x → x < n → n ≤ 127
    → c ≡ plus_of m (get_or v (get_or one x 0) 0) (get_or v (get_or two x 0) 0) → Stepped m one two n v u₀ (set u x c) (x + 1)
stepped_one {m} {one} {two} {n} {v} {u₀} {u} {x} {c} s l few e =
    record {
      within = omega arith;
      long = length-set u x c ∙ s.long;
      done = λ j h. at j (eq-or-lt_of_le h);
      kept = λ j h. get_or-set_other u x j c 0 (λ q. absurd (omega arith)) ∙ s.kept j (omega arith);
    }
  where
    at : (j : ℕ) → (suc j ≡ x + 1) ⊎ (suc j < x + 1) → get_or (set u x c) j 0 ≡ plus_of m (get_or v (get_or one j 0) 0) (get_or v (get_or two j 0) 0)
    at j (inl q) =
        let r : x ≡ j = omega arith in
        subst (λ i. get_or (set u x c) i 0 ≡ plus_of m (get_or v (get_or one i 0) 0) (get_or v (get_or two i 0) 0)) r (get_or-set_same u x c 0 (omega (arith, s.long)) ∙ e)
    at j (inr q) = get_or-set_other u x j c 0 (λ z. absurd (omega arith)) ∙ s.done j (omega arith)

pub stepped_all : {m : ℕ} {one two : List ℕ} {n : ℕ} {v u₀ u : List ℕ} {x : ℕ} → Stepped m one two n v u₀ u x → n ≤ x → Steps m one two n v u₀ u
stepped_all {n = n} {x = x} s h = record { done = λ j l. s.done j (omega arith); kept = λ j l. s.kept j (omega (arith, s.within)) }

-- ---- the loop over letters, two a round

pub record Poured (m : ℕ) (one two : List ℕ) (n : ℕ) (k₀ k v u : List ℕ) (h : ℕ) : Type 0 where
  pub within : h ≤ 64
  pub long : length k ≡ 128
  pub long_v : length v ≡ 128
  pub long_u : length u ≡ 128
  pub kept : (j : ℕ) → 2 * h ≤ j → get_or k j 0 ≡ get_or k₀ j 0
  pub spare : (W : ℕ → ℕ) → Holds m k₀ W → Spare n u
  pub filled : (W : ℕ → ℕ) → Holds m k₀ W → Filled m one two n W (2 * h) v
  pub done : (W : ℕ → ℕ) → Holds m k₀ W → (j : ℕ) → j < 2 * h → get_or k j 0 ≡ flow one two n W j 0 % m

pub poured_start : (m : ℕ) (one two : List ℕ) (n : ℕ) (k : List ℕ) → length k ≡ 128 → Poured m one two n k k (replicate 128 0) (replicate 128 0) 0
poured_start m one two n k e =
    record {
      within = omega arith;
      long = e;
      long_v = length-replicate {A = ℕ} 128 0;
      long_u = length-replicate {A = ℕ} 128 0;
      kept = λ j h. refl;
      spare = λ W h. record { at = λ x d q. zeros 128 x };
      filled = λ W h. record { at = λ x d. zeros 128 x ∙ zero_mod m h.wide ∙ sym (ap (λ b. cond b (W 0) 0 % m) (not_eqb d)) };
      done = λ W h j q. absurd (omega arith);
    }

module _ {m : ℕ} {one two : List ℕ} {n : ℕ} {k₀ k v u : List ℕ} {h : ℕ} (p : Poured m one two n k₀ k v u h) (few : n ≤ 127) (l : h < 64) {u₁ v₁ : List ℕ} {r a b c d : ℕ}
    (er : r ≡ 2 * h) (ea : a ≡ get_or k r 0) (eb : b ≡ get_or (set v 127 a) 0 0) (su : Steps m one two n (set v 127 a) u u₁)
    (ec : c ≡ get_or (set k r b) (r + 1) 0) (ed : d ≡ get_or (set u₁ 127 c) 0 0) (sv : Steps m one two n (set u₁ 127 c) (set v 127 a) v₁)
    (lu : length u₁ ≡ 128) (lv : length v₁ ≡ 128) where
  module _ (W : ℕ → ℕ) (g : Holds m k₀ W) where
    at_r : Filled m one two n W r v
    at_r = subst (λ z. Filled m one two n W z v) (sym er) (p.filled W g)

    first_end : a ≡ W r % m
    first_end = ea ∙ p.kept r (omega (arith, er)) ∙ g.at r (omega (arith, er, l))

    first_out : b ≡ flow one two n W r 0 % m
    first_out = eb ∙ all_filled few g.wide p.long_v at_r first_end 0

    at_next : Filled m one two n W (suc r) u₁
    at_next = filled_next few g.wide p.long_v at_r first_end (p.spare W g) su

    second_end : c ≡ W (suc r) % m
    second_end =
        ec ∙ get_or-set_other k r (r + 1) b 0 (λ e. absurd (omega arith)) ∙ p.kept (r + 1) (omega (arith, er)) ∙ ap (λ z. get_or k₀ z 0) (add-one r) ∙ g.at (suc r) (omega (arith, er, l))

    second_out : d ≡ flow one two n W (suc r) 0 % m
    second_out = ed ∙ all_filled few g.wide lu at_next second_end 0

    v_spare : Spare n (set v 127 a)
    v_spare = record { at = λ x e q. get_or-set_other v 127 x a 0 e ∙ (filled_spare few g.wide at_r).at x e q }

    at_last : Filled m one two n W (suc (suc r)) v₁
    at_last = filled_next few g.wide lu at_next second_end v_spare sv

    u_spare : Spare n (set u₁ 127 c)
    u_spare = record { at = λ x e q. get_or-set_other u₁ 127 x c 0 e ∙ (filled_spare few g.wide at_next).at x e q }

    outs : (j : ℕ) → (j < r) ⊎ (r ≤ j) → j < r + 2 → get_or (set (set k r b) (r + 1) d) j 0 ≡ flow one two n W j 0 % m
    outs j (inl q) z =
        get_or-set_other (set k r b) (r + 1) j d 0 (λ e. absurd (omega arith)) ∙ get_or-set_other k r j b 0 (λ e. absurd (omega arith))
        ∙ p.done W g j (omega (arith, er))
    outs j (inr q) z = at (eq-or-lt_of_le q)
      where
        at : (r ≡ j) ⊎ (r < j) → get_or (set (set k r b) (r + 1) d) j 0 ≡ flow one two n W j 0 % m
        at (inl e) =
            subst (λ i. get_or (set (set k r b) (r + 1) d) i 0 ≡ flow one two n W i 0 % m) e
            (get_or-set_other (set k r b) (r + 1) r d 0 (λ y. absurd (omega arith)) ∙ get_or-set_same k r b 0 (omega (arith, p.long, er, l)) ∙ first_out)
        at (inr e) =
            let f : r + 1 ≡ j = omega arith in
            let s : suc r ≡ j = omega arith in
            ap (λ i. get_or (set (set k r b) (r + 1) d) i 0) (sym f)
            ∙ get_or-set_same (set k r b) (r + 1) d 0 (omega (arith, length-set k r b, p.long, er, l)) ∙ second_out ∙ ap (λ i. flow one two n W i 0 % m) s

  pub poured_more : Poured m one two n k₀ (set (set k r b) (r + 1) d) v₁ (set u₁ 127 c) (h + 1)
  poured_more =
      record {
        within = omega (arith, l);
        long = length-set (set k r b) (r + 1) d ∙ length-set k r b ∙ p.long;
        long_v = lv;
        long_u = length-set u₁ 127 c ∙ lu;
        kept = λ j q.
            get_or-set_other (set k r b) (r + 1) j d 0 (λ e. absurd (omega (arith, er))) ∙ get_or-set_other k r j b 0 (λ e. absurd (omega (arith, er)))
            ∙ p.kept j (omega arith);
        spare = u_spare;
        filled = λ W g. let e : suc (suc r) ≡ 2 * (h + 1) = omega (arith, er) in subst (λ z. Filled m one two n W z v₁) e (at_last W g);
        done = λ W g j q. outs W g j (⊎_elim inr inl (le_or_lt r j)) (omega (arith, er));
      }

pub poured_all : {m : ℕ} {one two : List ℕ} {n : ℕ} {k₀ k v u : List ℕ} {h : ℕ} → Poured m one two n k₀ k v u h → 64 ≤ h → (W : ℕ → ℕ) → Holds m k₀ W
    → Holds m k (λ r. flow one two n W r 0)
poured_all {h = h} p q W g = record { wide = g.wide; at = λ r b. p.done W g r (omega arith) }

-- a type laid and poured
pub counted : {m : ℕ} {a : Ty} {one₀ two₀ one two k l : List ℕ} {n : ℕ} → Lays a 0 127 one₀ two₀ one two n → n ≤ 127 → Flows m one two n k l → CountsType m a k l
counted {a = a} {one = one} {two = two} {n = n} s few f z W h =
    let p = s.place (omega arith) in held_as (more a W) (whole_flow one two n few W (s.laid (omega arith)) (omega arith)) (f W h)

pub counted_never : {m : ℕ} {a : Ty} {one₀ two₀ one two k l : List ℕ} {n : ℕ} → Lays a 0 127 one₀ two₀ one two n → 127 < n → CountsType m a k l
counted_never s h z W g = let p = s.place (omega arith) in absurd (omega arith)
