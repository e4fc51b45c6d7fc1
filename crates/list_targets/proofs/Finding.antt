-- The tos of all pairs, one after the other.
use Prim.Native.Nat.{ℕ, suc, ◌+◌, ◌-◌, ◌≤◌, ◌<◌}
use native.Mathlib.Omega.{arith}
use mathlib.Core.Path.{◌≡◌, refl, sym, ap, ◌∙◌, subst}
use mathlib.Core.Bool.{Bool, true, false, true≢false}
use mathlib.Core.Option.{Option, none, some}
use mathlib.Core.List.{List, [], ◌∷◌, ◌++◌, append-nil, append_assoc}
use lib.ListN.{length, take, drop, set, length-append}
use lib.Seq.{set_split, take_at, length-take-le}
use Rattle.limits.specs.Limits.{run_room, work_length}
use Rattle.calculus.specs.Tools.{◌>>=◌, is_some}
use Rattle.calculus.specs.Trees.{Iso}
use Rattle.format.specs.Lines.{Row}
use Rattle.format.specs.Unfold.{isos_of}
use Rattle.calculus.proofs.Basic.{is_some_true}
use Rattle.law_ranking.specs.Numbering.{count}
use Rattle.law_pairlists.specs.PairLists.{to_from, upwards}
use Rattle.list_targets.specs.Targets.{Runnable, with_to, Stores, Found}

-- ---- the tos from pair k on, behind those that are there

abbrev behind : List ℕ → Option (List ℕ) → Option (List ℕ)
behind l x = x >>= λ ts. some (l ++ ts)

behind_none : (x : Option (List ℕ)) → behind [] x ≡ x
behind_none none = refl
behind_none (some ts) = refl

-- one pair more is there
behind_one : (l : List ℕ) (t : ℕ) (x : Option (List ℕ)) → behind l (x >>= λ ts. some (t ∷ ts)) ≡ behind (l ++ (t ∷ [])) x
behind_one l t none = refl
behind_one l t (some ts) = ap some (sym (append_assoc l (t ∷ []) ts))

module _ (f : ℕ → Option ℕ) (n : ℕ) where
  -- what the loop knows before pair k: the tos of all are those that are there and those to come
  abbrev pub So : ℕ → List ℕ → Type 0
  So k l = upwards f 0 n ≡ behind (take k l) (upwards f k (n - k))

  first : (k : ℕ) → k < n → upwards f k (n - k) ≡ (f k >>= λ t. upwards f (suc k) (n - suc k) >>= λ ts. some (t ∷ ts))
  first k h = let e : n - k ≡ suc (n - suc k) = omega arith in ap (upwards f k) e

  -- no to
  so_spent : (k : ℕ) (l : List ℕ) → So k l → k < n → f k ≡ none → upwards f 0 n ≡ none
  so_spent k l so h e =
      so ∙ ap (behind (take k l)) (first k h ∙ ap (λ x. x >>= λ t. upwards f (suc k) (n - suc k) >>= λ ts. some (t ∷ ts)) e)

  so_next : (k : ℕ) (l : List ℕ) (t : ℕ) → So k l → k < n → k < length l → f k ≡ some t → So (k + 1) (set l k t)
  so_next k l t so h room e =
      let one : k + 1 ≡ suc k = omega arith in
      let front : length (take k l ++ (t ∷ [])) ≡ suc k = omega (arith, length-append (take k l) (t ∷ []), length-take-le k l (omega arith)) in
      let split : set l k t ≡ (take k l ++ (t ∷ [])) ++ drop (suc k) l = set_split l k t room ∙ sym (append_assoc (take k l) (t ∷ []) (drop (suc k) l)) in
      let there : take (suc k) (set l k t) ≡ take k l ++ (t ∷ []) = ap (take (suc k)) split ∙ take_at (take k l ++ (t ∷ [])) (drop (suc k) l) (suc k) front in
      so
      ∙ ap (behind (take k l)) (first k h ∙ ap (λ x. x >>= λ u. upwards f (suc k) (n - suc k) >>= λ ts. some (u ∷ ts)) e)
      ∙ behind_one (take k l) t (upwards f (suc k) (n - suc k))
      ∙ ap (λ z. behind z (upwards f (suc k) (n - suc k))) (sym there)
      ∙ ap (λ z. behind (take z (set l k t)) (upwards f z (n - z))) (sym one)

  so_end : (k : ℕ) (l : List ℕ) → So k l → k ≤ n → n ≤ k → upwards f 0 n ≡ some (take n l)
  so_end k l so a b =
      let same : k ≡ n = omega arith in
      let nothing : n - k ≡ 0 = omega arith in
      so ∙ ap (λ z. behind (take k l) (upwards f k z)) nothing ∙ ap some (append-nil (take k l)) ∙ ap (λ z. some (take z l)) same

-- ---- the loop

-- before pair k: what is there of the tos, and what is to come, makes all of them
pub record Through (t : List ℕ) (base : ℕ) (index : List ℕ) (isos i n budget : ℕ) (w₀ l₀ w l : List ℕ) (k : ℕ) : Type 0 where
  pub within : k ≤ n
  pub works : length w ≡ length w₀
  pub wide : length l ≡ length l₀
  pub so : (rs : List Row) (o : Iso) → Runnable t base index isos rs i o → n ≤ count o.from → n ≤ length l₀ → run_room ≤ length w₀ → length w₀ ≤ 65536
      → So (to_from (isos_of rs) i o budget) n k l

pub through_start : (t : List ℕ) (base : ℕ) (index : List ℕ) (isos i n budget : ℕ) (w l : List ℕ) → Through t base index isos i n budget w l w l 0
through_start t base index isos i n budget w l =
    record {
      within = omega arith;
      works = refl;
      wide = refl;
      so = λ rs o run a b c d.
          let e : n - 0 ≡ n = omega arith in
          sym (behind_none (upwards (to_from (isos_of rs) i o budget) 0 (n - 0)) ∙ ap (upwards (to_from (isos_of rs) i o budget) 0) e);
    }

module _ {t : List ℕ} {base : ℕ} {index : List ℕ} {isos i n budget : ℕ} {w₀ l₀ w l : List ℕ} {k : ℕ} (x : Through t base index isos i n budget w₀ l₀ w l k) where
  module _ (h : k < n) {l' : List ℕ} {r : Bool}
      (one : (rs : List Row) (o : Iso) → Runnable t base index isos rs i o → k < count o.from → run_room ≤ length w → length w ≤ work_length
      → Stores (to_from (isos_of rs) i o budget k) k l l' r) where
    -- the budget is passed
    pub through_spent : r ≡ false → (rs : List Row) (o : Iso) → Runnable t base index isos rs i o → n ≤ count o.from → n ≤ length l₀ → run_room ≤ length w₀
        → length w₀ ≤ 65536 → Found rs i o budget n l' false
    through_spent y rs o run a b c d =
        let same = x.works in
        let s = one rs o run (omega arith) (omega (arith, same)) (omega (arith, same)) in
        record { tos = so_spent (to_from (isos_of rs) i o budget) n k l (x.so rs o run a b c d) h (no_to (to_from (isos_of rs) i o budget k) s.given y) }
      where
        no_to : (y : Option ℕ) → r ≡ is_some y → r ≡ false → y ≡ none
        no_to none e f = refl
        no_to (some u) e f = absurd (true≢false (sym e ∙ f))

    pub through_next : r ≡ true → {w' : List ℕ} → length w' ≡ length w → length l' ≡ length l → Through t base index isos i n budget w₀ l₀ w' l' (k + 1)
    through_next y kw kl =
        record {
          within = omega arith;
          works = kw ∙ x.works;
          wide = kl ∙ x.wide;
          so = λ rs o run a b c d.
              let same = x.works in
              let wide = x.wide in
              let f : ℕ → Option ℕ = to_from (isos_of rs) i o budget in
              let s = one rs o run (omega arith) (omega (arith, same)) (omega (arith, same)) in
              let u = is_some_true (f k) (sym s.given ∙ y) in
              let e : l' ≡ set l k u.0 = s.numbers ∙ ap (λ z. with_to z k l) u.1 in
              subst (So f n (k + 1)) (sym e) (so_next f n k l u.0 (x.so rs o run a b c d) h (omega (arith, wide)) u.1);
        }

  pub through_end : n ≤ k → (rs : List Row) (o : Iso) → Runnable t base index isos rs i o → n ≤ count o.from → n ≤ length l₀ → run_room ≤ length w₀
      → length w₀ ≤ 65536 → Found rs i o budget n l true
  through_end h rs o run a b c d = record { tos = so_end (to_from (isos_of rs) i o budget) n k l (x.so rs o run a b c d) x.within h }
