-- Request 02, settings as numbers, for a T line of a file's rows: when each refusal is given, each way undone by the other, the order, the room.
use Prim.Native.Nat.{ℕ, ◌≤◌, ◌<◌}
use native.Mathlib.Nat.{le_trans}
use native.Mathlib.Omega.{arith}
use mathlib.Core.Path.{◌≡◌, refl, sym, ap, ap₂, ◌∙◌, subst}
use mathlib.Core.Logic.{◌↔◌}
use mathlib.Core.Bool.{Bool, true, false, cond}
use mathlib.Core.Option.{Option, none, some}
use mathlib.Core.List.{List}
use lib.Dec.{ltb}
use lib.ListN.{length, get_elem?}
use Rattle.limits.specs.Limits.{max_nodes, max_values, result_length}
use Rattle.calculus.specs.Tools.{◌>>=◌, guard}
use Rattle.calculus.specs.Trees.{Ty, tunit, Val, type_nodes}
use Rattle.calculus.specs.Refusals.{Refusal, no_iso, no_value, too_many, too_high}
use Rattle.format.specs.Lines.{Row}
use Rattle.calculus.specs.Letters.{letters, inhabits}
use Rattle.model.specs.Services.{Verdict, accepted, refused, verdict, value_in, Outcome, gives, fails}
use Rattle.calculus.specs.Paper.{Of}
use Rattle.calculus.proofs.Basic.{some_bind, some_inj, not_some, true_guard, ltb_lt, lt_ltb, ltb_false, not_ltb, index_default}
use Rattle.calculus.proofs.Letters.{value_letters, inhabits_of, of_inhabits}
use Rattle.model.proofs.Outcomes.{fails≢gives}
use Rattle.model.proofs.Runs.{accepted_good, value_in_lem}
use Rattle.model.proofs.Sizes.{types_small}
use Rattle.law_ranking.specs.Numbering.{count, rank, unrank, before, types_of, on_type, number_in, to_number, to_setting, number_on, setting_on}
use Rattle.law_ranking.specs.Answers.{LineFault, LineOf, NumberIs, SettingIs}
use Rattle.law_ranking.proofs.Numbering.{few_finite, rank_below, unrank_rank, unrank_inhabits, rank_unrank, rank_order, letters_bound}

-- ---- one type

to_number_lem : (v : Val) (a : Ty) → Of v a → to_number (letters v) a ≡ gives (rank v a)
to_number_lem v a h =
    ap (number_in a)
    (some_bind (λ u. guard (inhabits u a) >>= λ _. some u) (value_letters v) ∙ some_bind (λ _. some v) (true_guard (of_inhabits h)))

no_number : (ls : List ℕ) (a : Ty) → ((v : Val) → ls ≡ letters v → Of v a → ⊥) → to_number ls a ≡ fails no_value
no_number ls a k =
    ap (number_in a) (not_some (value_in ls a) (λ v p. let r = value_in_lem ls a v p in k v r.0 (inhabits_of v a r.1)))

abbrev setting_by : ℕ → Ty → Bool → Outcome (List ℕ)
setting_by n a b = cond b (gives (letters (unrank a n))) (fails too_high)

-- ---- a T line

module _ {A : Type 0} (f : Ty → Outcome A) {rs : List Row} {i : ℕ} where
  pub line_faulty : {z : Refusal} → LineFault rs i z → on_type (get_elem? (types_of rs) i) f ≡ fails z
  line_faulty (LineFault.absent e) = ap (λ x. on_type x f) e
  line_faulty (LineFault.many a e h) = ap (λ x. on_type x f) e ∙ ap (λ b. cond b (fails too_many) (f a)) (lt_ltb h)

  pub line_of : {a : Ty} → LineOf rs i a → on_type (get_elem? (types_of rs) i) f ≡ f a
  line_of {a} l = ap (λ x. on_type x f) l.there ∙ ap (λ b. cond b (fails too_many) (f a)) (not_ltb l.few)

-- a T line is faulty or it is not
data LineCase (rs : List Row) (i : ℕ) : Type 0 where
  faulty : (f : Refusal) → LineFault rs i f → LineCase rs i
  good : (a : Ty) → LineOf rs i a → LineCase rs i

line_case : (rs : List Row) (i : ℕ) → LineCase rs i
line_case rs i = go (get_elem? (types_of rs) i) refl
  where
    go : (x : Option Ty) → get_elem? (types_of rs) i ≡ x → LineCase rs i
    go none e = LineCase.faulty no_iso (LineFault.absent e)
    go (some a) e = by (ltb max_values (count a)) refl
      where
        by : (b : Bool) → ltb max_values (count a) ≡ b → LineCase rs i
        by true h = LineCase.faulty too_many (LineFault.many a e (ltb_lt max_values (count a) h))
        by false h = LineCase.good a (record { there = e; few = ltb_false max_values (count a) h })

-- ---- letters to number

-- in each case the service gives its outcome …
pub number_in_lem : (rs : List Row) (i : ℕ) (ls : List ℕ) {x : Outcome ℕ} → NumberIs rs i ls x → number_on (accepted rs) i ls ≡ x
number_in_lem rs i ls (NumberIs.faulty f l) = line_faulty (to_number ls) l
number_in_lem rs i ls (NumberIs.strange a l k) = line_of (to_number ls) l ∙ no_number ls a k
number_in_lem rs i ls (NumberIs.number a v l e h) = line_of (to_number ls) l ∙ ap (λ ks. to_number ks a) e ∙ to_number_lem v a h

-- … and there is a case for all letters
pub number_case : (rs : List Row) (i : ℕ) (ls : List ℕ) → (x : Outcome ℕ) × NumberIs rs i ls x
number_case rs i ls = go (line_case rs i)
  where
    go : LineCase rs i → (x : Outcome ℕ) × NumberIs rs i ls x
    go (LineCase.faulty f l) = (fails f, NumberIs.faulty f l)
    go (LineCase.good a l) = by (value_in ls a) refl
      where
        by : (x : Option Val) → value_in ls a ≡ x → (y : Outcome ℕ) × NumberIs rs i ls y
        by none e = (
          fails no_value,
          NumberIs.strange a l (λ v p h. fails≢gives (sym (ap (number_in a) e) ∙ ap (λ ks. to_number ks a) p ∙ to_number_lem v a h)),
        )
        by (some v) e = let r = value_in_lem ls a v e in (gives (rank v a), NumberIs.number a v l r.0 (inhabits_of v a r.1))

-- 15, 18 and 16 exactly when, and else the number
pub number_iff : (rs : List Row) (i : ℕ) (ls : List ℕ) (x : Outcome ℕ) → (number_on (accepted rs) i ls ≡ x) ↔ NumberIs rs i ls x
number_iff rs i ls x = (
  (λ e. let c = number_case rs i ls in subst (NumberIs rs i ls) (sym (number_in_lem rs i ls c.1) ∙ e) c.1),
  number_in_lem rs i ls,
)

-- ---- number to letters

pub setting_in : (rs : List Row) (i n : ℕ) {x : Outcome (List ℕ)} → SettingIs rs i n x → setting_on (accepted rs) i n ≡ x
setting_in rs i n (SettingIs.faulty f l) = line_faulty (to_setting n) l
setting_in rs i n (SettingIs.high a l k) = line_of (to_setting n) l ∙ ap (setting_by n a) (not_ltb k)
setting_in rs i n (SettingIs.setting a v l h e) =
    line_of (to_setting n) l
    ∙ ap (setting_by n a) (lt_ltb (subst (λ m. m < count a) e (rank_below v a (of_inhabits h))))
    ∙ ap gives (ap letters (ap (unrank a) (sym e) ∙ unrank_rank v a (few_finite a l.few) (of_inhabits h)))

pub setting_case : (rs : List Row) (i n : ℕ) → (x : Outcome (List ℕ)) × SettingIs rs i n x
setting_case rs i n = go (line_case rs i)
  where
    go : LineCase rs i → (x : Outcome (List ℕ)) × SettingIs rs i n x
    go (LineCase.faulty f l) = (fails f, SettingIs.faulty f l)
    go (LineCase.good a l) = by (ltb n (count a)) refl
      where
        by : (b : Bool) → ltb n (count a) ≡ b → (x : Outcome (List ℕ)) × SettingIs rs i n x
        by true e =
            let h = ltb_lt n (count a) e in
            let v = unrank a n in
            (gives (letters v), SettingIs.setting a v l (inhabits_of v a (unrank_inhabits a n h)) (rank_unrank a (few_finite a l.few) n h))
        by false e = (fails too_high, SettingIs.high a l (ltb_false n (count a) e))

-- 15, 18 and 19 exactly when, and else the letters
pub setting_iff : (rs : List Row) (i n : ℕ) (x : Outcome (List ℕ)) → (setting_on (accepted rs) i n ≡ x) ↔ SettingIs rs i n x
setting_iff rs i n x = (
  (λ e. let c = setting_case rs i n in subst (SettingIs rs i n) (sym (setting_in rs i n c.1) ∙ e) c.1),
  setting_in rs i n,
)

-- ---- what is given

-- a number, by its value
number_value : {rs : List Row} {i : ℕ} {ls : List ℕ} {n : ℕ} → NumberIs rs i ls (gives n)
    → (a : Ty) × (v : Val) × LineOf rs i a × (ls ≡ letters v) × Of v a × (rank v a ≡ n)
number_value (NumberIs.number a v l e h) = (a, v, l, e, h, refl)

setting_value : {rs : List Row} {i n : ℕ} {ls : List ℕ} → SettingIs rs i n (gives ls)
    → (a : Ty) × (v : Val) × LineOf rs i a × (letters v ≡ ls) × Of v a × (rank v a ≡ n)
setting_value (SettingIs.setting a v l h e) = (a, v, l, refl, h, e)

-- "each undoing the other": the number of letters gives the letters back
pub number_setting : (w : Verdict) (i : ℕ) (ls : List ℕ) (n : ℕ) → number_on w i ls ≡ gives n → setting_on w i n ≡ gives ls
number_setting (refused f m) i ls n e = absurd (fails≢gives e)
number_setting (accepted rs) i ls n e =
    let r = number_value ((number_iff rs i ls (gives n)).0 e) in
    setting_in rs i n (SettingIs.setting r.0 r.1 r.2 r.4 r.5) ∙ ap gives (sym r.3)

-- "each undoing the other": the letters of a number give the number back
pub setting_number : (w : Verdict) (i : ℕ) (n : ℕ) (ls : List ℕ) → setting_on w i n ≡ gives ls → number_on w i ls ≡ gives n
setting_number (refused f m) i n ls e = absurd (fails≢gives e)
setting_number (accepted rs) i n ls e =
    let r = setting_value ((setting_iff rs i n (gives ls)).0 e) in
    number_in_lem rs i ls (NumberIs.number r.0 r.1 r.2 (sym r.3) r.4) ∙ ap gives r.5

-- "a count above 4,294,967,295" is refused: a number given is below, and fits 32 bits
pub number_below : (w : Verdict) (i : ℕ) (ls : List ℕ) (n : ℕ) → number_on w i ls ≡ gives n → n < max_values
number_below (refused f m) i ls n e = absurd (fails≢gives e)
number_below (accepted rs) i ls n e =
    let r = number_value ((number_iff rs i ls (gives n)).0 e) in
    omega (arith, r.5, r.2.few, rank_below r.1 r.0 (of_inhabits r.4))

-- "numbers of one type rise exactly as the letters do in byte order"
pub number_order : (w : Verdict) (i : ℕ) (ls ms : List ℕ) (m n : ℕ) → number_on w i ls ≡ gives m → number_on w i ms ≡ gives n → ltb m n ≡ before ls ms
number_order (refused f k) i ls ms m n d e = absurd (fails≢gives d)
number_order (accepted rs) i ls ms m n d e =
    let q = number_value ((number_iff rs i ls (gives m)).0 d) in
    let r = number_value ((number_iff rs i ms (gives n)).0 e) in
    let same : q.0 ≡ r.0 = some_inj (sym q.2.there ∙ r.2.there) in
    let h : Of r.1 q.0 = subst (Of r.1) (sym same) r.4 in
    ap₂ ltb (sym q.5) (sym r.5 ∙ ap (rank r.1) (sym same))
    ∙ rank_order q.1 r.1 q.0 (few_finite q.0 q.2.few) (of_inhabits q.4) (of_inhabits h)
    ∙ ap₂ before (sym q.3) (sym r.3)

-- ---- room

-- the T lines of an accepted file have few nodes
pub small_type : (file : List ℕ) (rs : List Row) → verdict file ≡ accepted rs → (i : ℕ) (a : Ty) → get_elem? (types_of rs) i ≡ some a → type_nodes a ≤ max_nodes
unfolding types_of
small_type file rs e i a h =
    subst (λ b. type_nodes b ≤ max_nodes) (index_default (types_of rs) i tunit h) (types_small (accepted_good file rs e).passes i)

-- "letters written into 127 lent bytes"
pub setting_room : (file : List ℕ) (i n : ℕ) (ls : List ℕ) → setting_on (verdict file) i n ≡ gives ls → length ls ≤ result_length
setting_room file i n ls = go (verdict file) refl
  where
    go : (w : Verdict) → verdict file ≡ w → setting_on w i n ≡ gives ls → length ls ≤ result_length
    go (refused f m) p e = absurd (fails≢gives e)
    go (accepted rs) p e =
        let r = setting_value ((setting_iff rs i n (gives ls)).0 e) in
        let b = letters_bound r.1 r.0 (few_finite r.0 r.2.few) (of_inhabits r.4) in
        subst (λ l. length l ≤ result_length) r.3 (le_trans b (small_type file rs p i r.0 r.2.there))
